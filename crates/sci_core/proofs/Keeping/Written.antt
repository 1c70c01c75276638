use Rattle.std.proofs.Common.{◌≡◌, ℕ, ◌<◌, Some, None, arith}
use Rattle.std.proofs.lemmas.Bool.Decides.{nat_tests}
use Rattle.sci_words.specs.declared.tags.Kind.{Kind}
use Rattle.sci_core.specs.declared.lines.Line.{Line}
use Rattle.sci_core.specs.declared.pending.Pending.{Pending}
use Rattle.sci_core.specs.State.{State, update, word}
use Rattle.sci_core.specs.Shape.{shape}
use Rattle.sci_core.specs.Law.{Witness, Law, Below}
use Rattle.sci_core.proofs.Fields.{StepFields, TagFields, step_fields, tag_fields}

-- The node has no entry behind it, and gives its slot back with another line: the value changes.
abbrev pub after_written : State → ℕ → Line → Line → State
after_written s me line new = record s {
  tags = update s.tags me (word Kind.Dirty None None);
  steps = update s.steps me Pending.Idle;
  slots = update s.slots me (Some new);
}

pub written_keeps_law : (s : State) (g : Witness) (o : Law (shape s) g) (me : ℕ) (line : Line) (new : Line)
    → (pending : s.steps me ≡ Pending.Purging line (Some None))
    → (me_word : s.tags me ≡ word Kind.Purging None None)
    → Law (shape (after_written s me line new)) (record g { value = new })
written_keeps_law s g o me line new pending me_word =
    let pending : StepFields (s.steps me) (Pending.Purging line (Some None)) = step_fields pending in
    let me_word : TagFields (s.tags me) (word Kind.Purging None None) = tag_fields me_word in
    let me_in : 0 < g.rank me = grind (arith, o.outside.may_be me) in
    record {
      order = let c = o.order in let o : ℕ = 0 in grind (arith, nat_tests, c);
      fronts = let c = o.fronts in let o : ℕ = 0 in grind (arith, nat_tests, c);
      own = let c = o.own in let o : ℕ = 0 in grind (arith, nat_tests, c);
      outside = let c = o.outside in let o : ℕ = 0 in grind (arith, nat_tests, c);
      backs = record {
        ahead = let c = o.backs.ahead in let o : ℕ = 0 in grind (arith, nat_tests, c);
        known_in = λ i j h1 h2 h3. let c0 = o.sees.none_seen me in let c1 = o.own.suited me in let c2 = o.own.front_back i in
            let c3 = o.outside.may_be me in let c4 = o.order.last g.last_front i in let c5 = o.order.apart g.last_front me in
            let c6 = o.fronts.queue me in let c7 = o.fronts.front i in let c8 = o.fronts.body me in let o : ℕ = 0 in
            grind (arith, nat_tests, c0, c1, c2, c3, c4, c5, c6, c7, c8);
        known = λ i j h1 h2 h3. let c0 = o.sees.none_seen me in let c1 = o.own.suited me in let c2 = o.own.front_back i in
            let c3 = o.outside.may_be me in let c4 = o.order.last g.last_front i in let c5 = o.order.apart g.last_front me in
            let c6 = o.fronts.queue me in let c7 = o.fronts.front i in let c8 = o.fronts.body me in let o : ℕ = 0 in
            grind (arith, nat_tests, c0, c1, c2, c3, c4, c5, c6, c7, c8);
        skip_roll = let c = o.backs.skip_roll in let o : ℕ = 0 in grind (arith, nat_tests, c);
        skip_roll_out = let c = o.backs.skip_roll_out in let o : ℕ = 0 in grind (arith, nat_tests, c);
        skip_back = let c = o.backs.skip_back in let o : ℕ = 0 in grind (arith, nat_tests, c);
        skip_stale = let c = o.backs.skip_stale in let o : ℕ = 0 in grind (arith, nat_tests, c);
        skip_stale_out = let c = o.backs.skip_stale_out in let o : ℕ = 0 in grind (arith, nat_tests, c);
        parting = let c = o.backs.parting in let o : ℕ = 0 in grind (arith, nat_tests, c);
      };
      sees = let c = o.sees in let o : ℕ = 0 in grind (arith, nat_tests, c);
      words = let c = o.words in let o : ℕ = 0 in grind (arith, nat_tests, c);
      slots = record {
        memory_out = let c = o.slots.memory_out in let o : ℕ = 0 in grind (arith, nat_tests, c);
        memory_home = let c = o.slots.memory_home in let o : ℕ = 0 in grind (arith, nat_tests, c);
        lends = let c = o.slots.lends in let o : ℕ = 0 in grind (arith, nat_tests, c);
        lends_one = let c = o.slots.lends_one in let o : ℕ = 0 in grind (arith, nat_tests, c);
        borrower_has = let c = o.slots.borrower_has in let o : ℕ = 0 in grind (arith, nat_tests, c);
        fetching = let c = o.slots.fetching in let o : ℕ = 0 in grind (arith, nat_tests, c);
        writing = let c = o.slots.writing in let o : ℕ = 0 in grind (arith, nat_tests, c);
        in_hand = let c = o.slots.in_hand in let o : ℕ = 0 in grind (arith, nat_tests, c);
        at_home = let c = o.slots.at_home in let o : ℕ = 0 in grind (arith, nat_tests, c);
        held_out = let c = o.slots.held_out in let o : ℕ = 0 in grind (arith, nat_tests, c);
        held_by = let c = o.slots.held_by in let o : ℕ = 0 in grind (arith, nat_tests, c);
        held_for = let c = o.slots.held_for in let o : ℕ = 0 in grind (arith, nat_tests, c);
        holding = let c = o.slots.holding in let o : ℕ = 0 in grind (arith, nat_tests, c);
        copied_held = let c = o.slots.copied_held in let o : ℕ = 0 in grind (arith, nat_tests, c);
        copied_idle = let c = o.slots.copied_idle in let o : ℕ = 0 in grind (arith, nat_tests, c);
        copied_by = let c = o.slots.copied_by in let o : ℕ = 0 in grind (arith, nat_tests, c);
      };
      mode = record {
        home = λ h1. let c0 = o.mode.home in let o : ℕ = 0 in grind (arith, nat_tests, c0);
        not_home = λ h1. let c0 = o.mode.not_home in let o : ℕ = 0 in grind (arith, nat_tests, c0);
        not_dirty = λ i h1 h2 hn. let c0 = o.outside.may_be me in let c1 = o.mode.not_purging me in let o : ℕ = 0 in
            grind (arith, nat_tests, c0, c1);
        not_purging = λ i h1 h2 hn. let c0 = o.mode.not_purging in let o : ℕ = 0 in grind (arith, nat_tests, c0);
        not_copying = λ i h1 h2 hn. let c0 = o.mode.not_copying in let o : ℕ = 0 in grind (arith, nat_tests, c0);
        not_flagged = λ i h1 h2 h3. let c0 = o.mode.not_flagged in let o : ℕ = 0 in grind (arith, nat_tests, c0);
        has_copy = λ i h1 h2 h3. let c0 = o.mode.has_copy in let o : ℕ = 0 in grind (arith, nat_tests, c0);
        has_value = λ i h1 h2 h3. let c0 = o.outside.may_be me in let c1 = o.mode.not_purging me in let o : ℕ = 0 in
            grind (arith, nat_tests, c0, c1);
        gone = λ h1. let c0 = o.mode.gone in let o : ℕ = 0 in grind (arith, nat_tests, c0);
        gone_flag = λ i h1 h2. let c0 = o.mode.gone_flag in let o : ℕ = 0 in grind (arith, nat_tests, c0);
        gone_queue = λ i h1 h2 h3. let c0 = o.mode.gone_queue in let o : ℕ = 0 in grind (arith, nat_tests, c0);
        gone_copy = λ i h1 h2 h3. let c0 = o.mode.gone_copy in let o : ℕ = 0 in grind (arith, nat_tests, c0);
        last_copy = λ i h1 h2. let c0 = o.mode.last_copy in let o : ℕ = 0 in grind (arith, nat_tests, c0);
        last_value = λ i h1 h2. let c0 = o.own.as_kept i in let c1 = o.outside.may_be me in let c2 = o.outside.may_be i in
            let c3 = o.order.last me i in let c4 = o.order.last i me in let c5 = o.order.apart g.last_front me in
            let c6 = o.order.apart g.last_front i in let c7 = o.fronts.queue me in let c8 = o.fronts.body me in let o : ℕ = 0 in
            grind (arith, nat_tests, c0, c1, c2, c3, c4, c5, c6, c7, c8);
      };
      values = record {
        memory = λ l h1 h2. let c0 = o.own.suited me in let c1 = o.outside.may_be me in let c2 = o.order.empty me in
            let c3 = o.mode.not_purging me in let c4 = o.mode.home in let o : ℕ = 0 in grind (arith, nat_tests, c0, c1, c2, c3, c4);
        lent_line = λ i h1. let c0 = o.slots.writing i in let c1 = o.slots.fetching i in let c2 = o.own.suited me in
            let c3 = o.outside.may_be me in let c4 = o.order.head_top i g.last_front in let c5 = o.order.empty me in
            let c6 = o.order.apart g.last_front me in let c7 = o.order.apart g.last_front i in let c8 = o.mode.not_purging me in
            let c9 = o.mode.home in let c10 = o.mode.gone_queue i in let c11 = o.fronts.queue me in let c12 = o.fronts.body me in
            let o : ℕ = 0 in grind (arith, nat_tests, c0, c1, c2, c3, c4, c5, c6, c7, c8, c9, c10, c11, c12);
        sharer = λ i l h1 h2. let c0 = o.sees.none_seen me in let c1 = o.own.suited me in let c2 = o.own.suited i in
            let c3 = o.outside.may_be me in let c4 = o.outside.may_be i in let c5 = o.order.last g.last_front i in
            let c6 = o.order.apart g.last_front me in let c7 = o.order.apart g.last_front i in let c8 = o.fronts.queue me in
            let c9 = o.fronts.queue i in let c10 = o.fronts.body me in let o : ℕ = 0 in
            grind (arith, nat_tests, c0, c1, c2, c3, c4, c5, c6, c7, c8, c9, c10);
        hand = λ i h1 h2. let c0 = o.sees.none_seen me in let c1 = o.own.suited me in let c2 = o.own.suited i in
            let c3 = o.outside.may_be me in let c4 = o.outside.may_be i in let c5 = o.order.last g.last_front i in
            let c6 = o.order.apart me i in let c7 = o.order.apart g.last_front me in let c8 = o.fronts.queue me in
            let c9 = o.fronts.queue i in let c10 = o.fronts.body me in let o : ℕ = 0 in
            grind (arith, nat_tests, c0, c1, c2, c3, c4, c5, c6, c7, c8, c9, c10);
        copying = λ i h1. let c0 = o.sees.none_seen me in let c1 = o.own.suited me in let c2 = o.outside.may_be me in
            let c3 = o.outside.may_be i in let c4 = o.order.last g.last_front i in let c5 = o.order.apart g.last_front me in
            let c6 = o.order.apart g.last_front i in let c7 = o.fronts.queue me in let c8 = o.fronts.queue i in let c9 = o.fronts.body me in
            let o : ℕ = 0 in grind (arith, nat_tests, c0, c1, c2, c3, c4, c5, c6, c7, c8, c9);
        leaving = λ i h1. let c0 = o.sees.none_seen me in let c1 = o.own.suited me in let c2 = o.outside.may_be me in
            let c3 = o.outside.may_be i in let c4 = o.order.last g.last_front i in let c5 = o.order.apart g.last_front me in
            let c6 = o.order.apart g.last_front i in let c7 = o.fronts.queue me in let c8 = o.fronts.queue i in let c9 = o.fronts.body me in
            let o : ℕ = 0 in grind (arith, nat_tests, c0, c1, c2, c3, c4, c5, c6, c7, c8, c9);
        ready = λ i h1. let c0 = o.sees.none_seen me in let c1 = o.own.suited me in let c2 = o.outside.may_be me in
            let c3 = o.outside.may_be i in let c4 = o.order.last g.last_front i in let c5 = o.order.apart g.last_front me in
            let c6 = o.order.apart g.last_front i in let c7 = o.fronts.queue me in let c8 = o.fronts.queue i in let c9 = o.fronts.body me in
            let o : ℕ = 0 in grind (arith, nat_tests, c0, c1, c2, c3, c4, c5, c6, c7, c8, c9);
      };
    }

pub written_keeps_links : (n : ℕ) (s : State) (b : Below n (shape s)) (me : ℕ) (me_below : me < n) (line : Line) (new : Line)
    → (pending : s.steps me ≡ Pending.Purging line (Some None))
    → (me_word : s.tags me ≡ word Kind.Purging None None)
    → Below n (shape (after_written s me line new))
written_keeps_links n s b me me_below line new pending me_word =
    let pending : StepFields (s.steps me) (Pending.Purging line (Some None)) = step_fields pending in
    let me_word : TagFields (s.tags me) (word Kind.Purging None None) = tag_fields me_word in
    grind (arith, nat_tests, b.head, b.forw, b.back, b.kept, b.word_forw, b.seen_forw, b.seen_back)

-- The node has no entry behind it, and gives its slot back as it was.
abbrev pub after_unwritten : State → ℕ → Line → State
after_unwritten s me line = record s {
  tags = update s.tags me (word Kind.Dirty None None);
  steps = update s.steps me Pending.Idle;
  slots = update s.slots me (Some line);
}

pub unwritten_keeps_law : (s : State) (g : Witness) (o : Law (shape s) g) (me : ℕ) (line : Line)
    → (pending : s.steps me ≡ Pending.Purging line (Some None))
    → (me_word : s.tags me ≡ word Kind.Purging None None)
    → Law (shape (after_unwritten s me line)) g
unwritten_keeps_law s g o me line pending me_word =
    let pending : StepFields (s.steps me) (Pending.Purging line (Some None)) = step_fields pending in
    let me_word : TagFields (s.tags me) (word Kind.Purging None None) = tag_fields me_word in
    let me_in : 0 < g.rank me = grind (arith, o.outside.may_be me) in
    record {
      order = let c = o.order in let o : ℕ = 0 in grind (arith, nat_tests, c);
      fronts = let c = o.fronts in let o : ℕ = 0 in grind (arith, nat_tests, c);
      own = let c = o.own in let o : ℕ = 0 in grind (arith, nat_tests, c);
      outside = let c = o.outside in let o : ℕ = 0 in grind (arith, nat_tests, c);
      backs = record {
        ahead = let c = o.backs.ahead in let o : ℕ = 0 in grind (arith, nat_tests, c);
        known_in = λ i j h1 h2 h3. let c0 = o.sees.none_seen me in let c1 = o.own.suited me in let c2 = o.own.front_back i in
            let c3 = o.outside.may_be me in let c4 = o.order.last g.last_front i in let c5 = o.order.apart g.last_front me in
            let c6 = o.fronts.queue me in let c7 = o.fronts.front i in let c8 = o.fronts.body me in let o : ℕ = 0 in
            grind (arith, nat_tests, c0, c1, c2, c3, c4, c5, c6, c7, c8);
        known = λ i j h1 h2 h3. let c0 = o.sees.none_seen me in let c1 = o.own.suited me in let c2 = o.own.front_back i in
            let c3 = o.outside.may_be me in let c4 = o.order.last g.last_front i in let c5 = o.order.apart g.last_front me in
            let c6 = o.fronts.queue me in let c7 = o.fronts.front i in let c8 = o.fronts.body me in let o : ℕ = 0 in
            grind (arith, nat_tests, c0, c1, c2, c3, c4, c5, c6, c7, c8);
        skip_roll = let c = o.backs.skip_roll in let o : ℕ = 0 in grind (arith, nat_tests, c);
        skip_roll_out = let c = o.backs.skip_roll_out in let o : ℕ = 0 in grind (arith, nat_tests, c);
        skip_back = let c = o.backs.skip_back in let o : ℕ = 0 in grind (arith, nat_tests, c);
        skip_stale = let c = o.backs.skip_stale in let o : ℕ = 0 in grind (arith, nat_tests, c);
        skip_stale_out = let c = o.backs.skip_stale_out in let o : ℕ = 0 in grind (arith, nat_tests, c);
        parting = let c = o.backs.parting in let o : ℕ = 0 in grind (arith, nat_tests, c);
      };
      sees = let c = o.sees in let o : ℕ = 0 in grind (arith, nat_tests, c);
      words = let c = o.words in let o : ℕ = 0 in grind (arith, nat_tests, c);
      slots = record {
        memory_out = let c = o.slots.memory_out in let o : ℕ = 0 in grind (arith, nat_tests, c);
        memory_home = let c = o.slots.memory_home in let o : ℕ = 0 in grind (arith, nat_tests, c);
        lends = let c = o.slots.lends in let o : ℕ = 0 in grind (arith, nat_tests, c);
        lends_one = let c = o.slots.lends_one in let o : ℕ = 0 in grind (arith, nat_tests, c);
        borrower_has = let c = o.slots.borrower_has in let o : ℕ = 0 in grind (arith, nat_tests, c);
        fetching = let c = o.slots.fetching in let o : ℕ = 0 in grind (arith, nat_tests, c);
        writing = let c = o.slots.writing in let o : ℕ = 0 in grind (arith, nat_tests, c);
        in_hand = let c = o.slots.in_hand in let o : ℕ = 0 in grind (arith, nat_tests, c);
        at_home = let c = o.slots.at_home in let o : ℕ = 0 in grind (arith, nat_tests, c);
        held_out = let c = o.slots.held_out in let o : ℕ = 0 in grind (arith, nat_tests, c);
        held_by = let c = o.slots.held_by in let o : ℕ = 0 in grind (arith, nat_tests, c);
        held_for = let c = o.slots.held_for in let o : ℕ = 0 in grind (arith, nat_tests, c);
        holding = let c = o.slots.holding in let o : ℕ = 0 in grind (arith, nat_tests, c);
        copied_held = let c = o.slots.copied_held in let o : ℕ = 0 in grind (arith, nat_tests, c);
        copied_idle = let c = o.slots.copied_idle in let o : ℕ = 0 in grind (arith, nat_tests, c);
        copied_by = let c = o.slots.copied_by in let o : ℕ = 0 in grind (arith, nat_tests, c);
      };
      mode = let c = o.mode in let o : ℕ = 0 in grind (arith, nat_tests, c);
      values = let c = o.values in let o : ℕ = 0 in grind (arith, nat_tests, c);
    }

pub unwritten_keeps_links : (n : ℕ) (s : State) (b : Below n (shape s)) (me : ℕ) (me_below : me < n) (line : Line)
    → (pending : s.steps me ≡ Pending.Purging line (Some None))
    → (me_word : s.tags me ≡ word Kind.Purging None None)
    → Below n (shape (after_unwritten s me line))
unwritten_keeps_links n s b me me_below line pending me_word =
    let pending : StepFields (s.steps me) (Pending.Purging line (Some None)) = step_fields pending in
    let me_word : TagFields (s.tags me) (word Kind.Purging None None) = tag_fields me_word in
    grind (arith, nat_tests, b.head, b.forw, b.back, b.kept, b.word_forw, b.seen_forw, b.seen_back)
