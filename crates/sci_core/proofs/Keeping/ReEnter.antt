use Rattle.std.proofs.Common.{◌≡◌, ℕ, ◌<◌, true, false, Some, None, arith}
use Rattle.std.proofs.lemmas.Bool.Decides.{nat_tests}
use Rattle.sci_words.specs.declared.tags.Kind.{Kind}
use Rattle.sci_core.specs.declared.lines.Line.{Line}
use Rattle.sci_core.specs.declared.pending.Pending.{Pending}
use Rattle.sci_core.specs.State.{State, update, word}
use Rattle.sci_core.specs.Shape.{shape}
use Rattle.sci_core.specs.Law.{Witness, Law, Below}
use Rattle.sci_core.proofs.Fields.{StepFields, TagFields, step_fields, tag_fields}

-- The node, which is not the head any more, queues with its line before the successor that it promoted.
abbrev pub after_re_enter_fresh : State → ℕ → ℕ → Line → State
after_re_enter_fresh s me target line = record s {
  tags = update s.tags me (word Kind.Queued (Some target) None);
  steps = update s.steps me (Pending.InQueue (Some target) false (Some line));
}

pub re_enter_fresh_keeps_law : (s : State) (g : Witness) (o : Law (shape s) g) (me : ℕ) (target : ℕ) (line : Line)
    → (pending : s.steps me ≡ Pending.Promoted false line target)
    → (me_word : s.tags me ≡ word Kind.Leaving (Some target) None)
    → Law (shape (after_re_enter_fresh s me target line)) g
re_enter_fresh_keeps_law s g o me target line pending me_word =
    let pending : StepFields (s.steps me) (Pending.Promoted false line target) = step_fields pending in
    let me_word : TagFields (s.tags me) (word Kind.Leaving (Some target) None) = tag_fields me_word in
    let me_in : 0 < g.rank me = grind (arith, o.outside.may_be me) in
    record {
      order = let c = o.order in let o : ℕ = 0 in grind (arith, nat_tests, c);
      fronts = let c = o.fronts in let o : ℕ = 0 in grind (arith, nat_tests, c);
      own = let c = o.own in let o : ℕ = 0 in grind (arith, nat_tests, c);
      outside = let c = o.outside in let o : ℕ = 0 in grind (arith, nat_tests, c);
      backs = let c = o.backs in let o : ℕ = 0 in grind (arith, nat_tests, c);
      sees = let c = o.sees in let o : ℕ = 0 in grind (arith, nat_tests, c);
      words = let c = o.words in let o : ℕ = 0 in grind (arith, nat_tests, c);
      slots = record {
        memory_out = let c = o.slots.memory_out in let o : ℕ = 0 in grind (arith, nat_tests, c);
        memory_home = let c = o.slots.memory_home in let o : ℕ = 0 in grind (arith, nat_tests, c);
        lends = let c = o.slots.lends in let o : ℕ = 0 in grind (arith, nat_tests, c);
        lends_one = let c = o.slots.lends_one in let o : ℕ = 0 in grind (arith, nat_tests, c);
        borrower_has = let c = o.slots.borrower_has in let o : ℕ = 0 in grind (arith, nat_tests, c);
        fetching = let c = o.slots.fetching in let o : ℕ = 0 in grind (arith, nat_tests, c);
        writing = let c = o.slots.writing in let o : ℕ = 0 in grind (arith, nat_tests, c);
        in_hand = let c = o.slots.in_hand in let o : ℕ = 0 in grind (arith, nat_tests, c);
        at_home = let c = o.slots.at_home in let o : ℕ = 0 in grind (arith, nat_tests, c);
        held_out = let c = o.slots.held_out in let o : ℕ = 0 in grind (arith, nat_tests, c);
        held_by = let c = o.slots.held_by in let o : ℕ = 0 in grind (arith, nat_tests, c);
        held_for = let c = o.slots.held_for in let o : ℕ = 0 in grind (arith, nat_tests, c);
        holding = let c = o.slots.holding in let o : ℕ = 0 in grind (arith, nat_tests, c);
        copied_held = let c = o.slots.copied_held in let o : ℕ = 0 in grind (arith, nat_tests, c);
        copied_idle = let c = o.slots.copied_idle in let o : ℕ = 0 in grind (arith, nat_tests, c);
        copied_by = let c = o.slots.copied_by in let o : ℕ = 0 in grind (arith, nat_tests, c);
      };
      mode = let c = o.mode in let o : ℕ = 0 in grind (arith, nat_tests, c);
      values = let c = o.values in let o : ℕ = 0 in grind (arith, nat_tests, c);
    }

pub re_enter_fresh_keeps_links : (n : ℕ) (s : State) (b : Below n (shape s)) (me : ℕ) (me_below : me < n) (target : ℕ) (line : Line)
    → (pending : s.steps me ≡ Pending.Promoted false line target)
    → (me_word : s.tags me ≡ word Kind.Leaving (Some target) None)
    → Below n (shape (after_re_enter_fresh s me target line))
re_enter_fresh_keeps_links n s b me me_below target line pending me_word =
    let pending : StepFields (s.steps me) (Pending.Promoted false line target) = step_fields pending in
    let me_word : TagFields (s.tags me) (word Kind.Leaving (Some target) None) = tag_fields me_word in
    grind (arith, nat_tests, b.head, b.forw, b.back, b.kept, b.word_forw, b.seen_forw, b.seen_back)

-- The node, which is not the head any more, queues before the dirty successor that it promoted, and is to copy anew.
abbrev pub after_re_enter_dirty : State → ℕ → ℕ → Line → State
after_re_enter_dirty s me target line = record s {
  tags = update s.tags me (word Kind.Queued (Some target) None);
  steps = update s.steps me (Pending.InQueue (Some target) true None);
}

pub re_enter_dirty_keeps_law : (s : State) (g : Witness) (o : Law (shape s) g) (me : ℕ) (target : ℕ) (line : Line)
    → (pending : s.steps me ≡ Pending.Promoted true line target)
    → (me_word : s.tags me ≡ word Kind.Leaving (Some target) None)
    → Law (shape (after_re_enter_dirty s me target line)) g
re_enter_dirty_keeps_law s g o me target line pending me_word =
    let pending : StepFields (s.steps me) (Pending.Promoted true line target) = step_fields pending in
    let me_word : TagFields (s.tags me) (word Kind.Leaving (Some target) None) = tag_fields me_word in
    let me_in : 0 < g.rank me = grind (arith, o.outside.may_be me) in
    record {
      order = let c = o.order in let o : ℕ = 0 in grind (arith, nat_tests, c);
      fronts = let c = o.fronts in let o : ℕ = 0 in grind (arith, nat_tests, c);
      own = let c = o.own in let o : ℕ = 0 in grind (arith, nat_tests, c);
      outside = let c = o.outside in let o : ℕ = 0 in grind (arith, nat_tests, c);
      backs = let c = o.backs in let o : ℕ = 0 in grind (arith, nat_tests, c);
      sees = let c = o.sees in let o : ℕ = 0 in grind (arith, nat_tests, c);
      words = let c = o.words in let o : ℕ = 0 in grind (arith, nat_tests, c);
      slots = record {
        memory_out = let c = o.slots.memory_out in let o : ℕ = 0 in grind (arith, nat_tests, c);
        memory_home = let c = o.slots.memory_home in let o : ℕ = 0 in grind (arith, nat_tests, c);
        lends = let c = o.slots.lends in let o : ℕ = 0 in grind (arith, nat_tests, c);
        lends_one = let c = o.slots.lends_one in let o : ℕ = 0 in grind (arith, nat_tests, c);
        borrower_has = let c = o.slots.borrower_has in let o : ℕ = 0 in grind (arith, nat_tests, c);
        fetching = let c = o.slots.fetching in let o : ℕ = 0 in grind (arith, nat_tests, c);
        writing = let c = o.slots.writing in let o : ℕ = 0 in grind (arith, nat_tests, c);
        in_hand = let c = o.slots.in_hand in let o : ℕ = 0 in grind (arith, nat_tests, c);
        at_home = let c = o.slots.at_home in let o : ℕ = 0 in grind (arith, nat_tests, c);
        held_out = let c = o.slots.held_out in let o : ℕ = 0 in grind (arith, nat_tests, c);
        held_by = let c = o.slots.held_by in let o : ℕ = 0 in grind (arith, nat_tests, c);
        held_for = let c = o.slots.held_for in let o : ℕ = 0 in grind (arith, nat_tests, c);
        holding = let c = o.slots.holding in let o : ℕ = 0 in grind (arith, nat_tests, c);
        copied_held = let c = o.slots.copied_held in let o : ℕ = 0 in grind (arith, nat_tests, c);
        copied_idle = let c = o.slots.copied_idle in let o : ℕ = 0 in grind (arith, nat_tests, c);
        copied_by = let c = o.slots.copied_by in let o : ℕ = 0 in grind (arith, nat_tests, c);
      };
      mode = record {
        home = let c = o.mode.home in let o : ℕ = 0 in grind (arith, nat_tests, c);
        not_home = let c = o.mode.not_home in let o : ℕ = 0 in grind (arith, nat_tests, c);
        not_dirty = let c = o.mode.not_dirty in let o : ℕ = 0 in grind (arith, nat_tests, c);
        not_purging = let c = o.mode.not_purging in let o : ℕ = 0 in grind (arith, nat_tests, c);
        not_copying = let c = o.mode.not_copying in let o : ℕ = 0 in grind (arith, nat_tests, c);
        not_flagged = let c = o.mode.not_flagged in let o : ℕ = 0 in grind (arith, nat_tests, c);
        has_copy = λ i h1 h2 h3. let c0 = o.outside.may_be me in let c1 = o.mode.not_flagged me in let o : ℕ = 0 in
            grind (arith, nat_tests, c0, c1);
        has_value = λ i h1 h2 h3. let c0 = o.outside.may_be me in let c1 = o.mode.not_flagged me in let o : ℕ = 0 in
            grind (arith, nat_tests, c0, c1);
        gone = λ h1. let c0 = o.own.suited me in let c1 = o.outside.may_be me in let c2 = o.mode.gone in let c3 = o.fronts.leaves in
            let o : ℕ = 0 in grind (arith, nat_tests, c0, c1, c2, c3);
        gone_flag = let c = o.mode.gone_flag in let o : ℕ = 0 in grind (arith, nat_tests, c);
        gone_queue = let c = o.mode.gone_queue in let o : ℕ = 0 in grind (arith, nat_tests, c);
        gone_copy = let c = o.mode.gone_copy in let o : ℕ = 0 in grind (arith, nat_tests, c);
        last_copy = let c = o.mode.last_copy in let o : ℕ = 0 in grind (arith, nat_tests, c);
        last_value = λ i h1 h2. let c0 = o.mode.last_value in let o : ℕ = 0 in grind (arith, nat_tests, c0);
      };
      values = let c = o.values in let o : ℕ = 0 in grind (arith, nat_tests, c);
    }

pub re_enter_dirty_keeps_links : (n : ℕ) (s : State) (b : Below n (shape s)) (me : ℕ) (me_below : me < n) (target : ℕ) (line : Line)
    → (pending : s.steps me ≡ Pending.Promoted true line target)
    → (me_word : s.tags me ≡ word Kind.Leaving (Some target) None)
    → Below n (shape (after_re_enter_dirty s me target line))
re_enter_dirty_keeps_links n s b me me_below target line pending me_word =
    let pending : StepFields (s.steps me) (Pending.Promoted true line target) = step_fields pending in
    let me_word : TagFields (s.tags me) (word Kind.Leaving (Some target) None) = tag_fields me_word in
    grind (arith, nat_tests, b.head, b.forw, b.back, b.kept, b.word_forw, b.seen_forw, b.seen_back)
