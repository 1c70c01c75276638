use Rattle.std.proofs.Common.{◌≡◌, ℕ, ◌<◌, Bool, cond, Option, Some, None, arith}
use Rattle.std.proofs.lemmas.Bool.Decides.{nat_tests}
use Rattle.sci_words.specs.declared.tags.Kind.{Kind}
use Rattle.sci_core.specs.declared.lines.Line.{Line}
use Rattle.sci_core.specs.declared.pending.Pending.{Pending}
use Rattle.sci_core.specs.State.{State, update, word}
use Rattle.sci_core.specs.Shape.{shape}
use Rattle.sci_core.specs.Law.{Witness, Law, Below}
use Rattle.sci_core.proofs.Fields.{StepFields, TagFields, step_fields, tag_fields}

-- The node has a line, and is a valid front.
abbrev pub after_settle_ready : State → ℕ → Option ℕ → Bool → Line → State
after_settle_ready s me forw dirty line = record s {
  tags = update s.tags me (word (cond dirty Kind.Dirty Kind.Fresh) forw None);
  steps = update s.steps me Pending.Idle;
  slots = update s.slots me (Some line);
}

pub settle_ready_keeps_law : (s : State) (g : Witness) (o : Law (shape s) g) (me : ℕ) (forw : Option ℕ) (dirty : Bool) (line : Line)
    → (pending : s.steps me ≡ Pending.Ready forw dirty line)
    → (me_word : s.tags me ≡ word Kind.Queued forw None)
    → Law (shape (after_settle_ready s me forw dirty line)) g
settle_ready_keeps_law s g o me forw dirty line pending me_word =
    let pending : StepFields (s.steps me) (Pending.Ready forw dirty line) = step_fields pending in
    let me_word : TagFields (s.tags me) (word Kind.Queued forw None) = tag_fields me_word in
    let me_in : 0 < g.rank me = grind (arith, o.outside.may_be me) in
    record {
      order = let c = o.order in let o : ℕ = 0 in grind (arith, nat_tests, c);
      fronts = let c = o.fronts in let o : ℕ = 0 in grind (arith, nat_tests, c);
      own = let c = o.own in let o : ℕ = 0 in grind (arith, nat_tests, c);
      outside = let c = o.outside in let o : ℕ = 0 in grind (arith, nat_tests, c);
      backs = let c = o.backs in let o : ℕ = 0 in grind (arith, nat_tests, c);
      sees = let c = o.sees in let o : ℕ = 0 in grind (arith, nat_tests, c);
      words = let c = o.words in let o : ℕ = 0 in grind (arith, nat_tests, c);
      slots = record {
        memory_out = let c = o.slots.memory_out in let o : ℕ = 0 in grind (arith, nat_tests, c);
        memory_home = let c = o.slots.memory_home in let o : ℕ = 0 in grind (arith, nat_tests, c);
        lends = let c = o.slots.lends in let o : ℕ = 0 in grind (arith, nat_tests, c);
        lends_one = let c = o.slots.lends_one in let o : ℕ = 0 in grind (arith, nat_tests, c);
        borrower_has = let c = o.slots.borrower_has in let o : ℕ = 0 in grind (arith, nat_tests, c);
        fetching = let c = o.slots.fetching in let o : ℕ = 0 in grind (arith, nat_tests, c);
        writing = let c = o.slots.writing in let o : ℕ = 0 in grind (arith, nat_tests, c);
        in_hand = let c = o.slots.in_hand in let o : ℕ = 0 in grind (arith, nat_tests, c);
        at_home = let c = o.slots.at_home in let o : ℕ = 0 in grind (arith, nat_tests, c);
        held_out = let c = o.slots.held_out in let o : ℕ = 0 in grind (arith, nat_tests, c);
        held_by = let c = o.slots.held_by in let o : ℕ = 0 in grind (arith, nat_tests, c);
        held_for = λ i h1 h2. let c0 = o.slots.held_for i in let c1 = o.slots.held_by i in let o : ℕ = 0 in grind (arith, nat_tests, c0, c1);
        holding = let c = o.slots.holding in let o : ℕ = 0 in grind (arith, nat_tests, c);
        copied_held = let c = o.slots.copied_held in let o : ℕ = 0 in grind (arith, nat_tests, c);
        copied_idle = let c = o.slots.copied_idle in let o : ℕ = 0 in grind (arith, nat_tests, c);
        copied_by = let c = o.slots.copied_by in let o : ℕ = 0 in grind (arith, nat_tests, c);
      };
      mode = let c = o.mode in let o : ℕ = 0 in grind (arith, nat_tests, c);
      values = let c = o.values in let o : ℕ = 0 in grind (arith, nat_tests, c);
    }

pub settle_ready_keeps_links : (n : ℕ) (s : State) (b : Below n (shape s)) (me : ℕ) (me_below : me < n) (forw : Option ℕ) (dirty : Bool)
    (line : Line)
    → (pending : s.steps me ≡ Pending.Ready forw dirty line)
    → (me_word : s.tags me ≡ word Kind.Queued forw None)
    → Below n (shape (after_settle_ready s me forw dirty line))
settle_ready_keeps_links n s b me me_below forw dirty line pending me_word =
    let pending : StepFields (s.steps me) (Pending.Ready forw dirty line) = step_fields pending in
    let me_word : TagFields (s.tags me) (word Kind.Queued forw None) = tag_fields me_word in
    grind (arith, nat_tests, b.head, b.forw, b.back, b.kept, b.word_forw, b.seen_forw, b.seen_back)

-- The node is the last entry, has memory's line, and is a valid front.
abbrev pub after_settle_in_queue : State → ℕ → Bool → Line → State
after_settle_in_queue s me dirty line = record s {
  tags = update s.tags me (word (cond dirty Kind.Dirty Kind.Fresh) None None);
  steps = update s.steps me Pending.Idle;
  slots = update s.slots me (Some line);
}

pub settle_in_queue_keeps_law : (s : State) (g : Witness) (o : Law (shape s) g) (me : ℕ) (dirty : Bool) (line : Line)
    → (pending : s.steps me ≡ Pending.InQueue None dirty (Some line))
    → (me_word : s.tags me ≡ word Kind.Queued None None)
    → Law (shape (after_settle_in_queue s me dirty line)) g
settle_in_queue_keeps_law s g o me dirty line pending me_word =
    let pending : StepFields (s.steps me) (Pending.InQueue None dirty (Some line)) = step_fields pending in
    let me_word : TagFields (s.tags me) (word Kind.Queued None None) = tag_fields me_word in
    let me_in : 0 < g.rank me = grind (arith, o.outside.may_be me) in
    record {
      order = let c = o.order in let o : ℕ = 0 in grind (arith, nat_tests, c);
      fronts = record {
        last_front_in = let c = o.fronts.last_front_in in let o : ℕ = 0 in grind (arith, nat_tests, c);
        front = λ i h1 h2. let c0 = o.fronts.front in let o : ℕ = 0 in grind (arith, nat_tests, c0);
        body = let c = o.fronts.body in let o : ℕ = 0 in grind (arith, nat_tests, c);
        queue = λ i h1. let c0 = o.own.as_kept me in let c1 = o.order.last me g.last_front in let c2 = o.fronts.queue i in
            let c3 = o.fronts.last_front_in i in let o : ℕ = 0 in grind (arith, nat_tests, c0, c1, c2, c3);
        attached = let c = o.fronts.attached in let o : ℕ = 0 in grind (arith, nat_tests, c);
        leaves = let c = o.fronts.leaves in let o : ℕ = 0 in grind (arith, nat_tests, c);
        purged = λ i h1 h2. let c0 = o.fronts.purged in let o : ℕ = 0 in grind (arith, nat_tests, c0);
        purged_next = λ i h1 h2. let c0 = o.fronts.purged_next in let o : ℕ = 0 in grind (arith, nat_tests, c0);
      };
      own = let c = o.own in let o : ℕ = 0 in grind (arith, nat_tests, c);
      outside = let c = o.outside in let o : ℕ = 0 in grind (arith, nat_tests, c);
      backs = let c = o.backs in let o : ℕ = 0 in grind (arith, nat_tests, c);
      sees = let c = o.sees in let o : ℕ = 0 in grind (arith, nat_tests, c);
      words = let c = o.words in let o : ℕ = 0 in grind (arith, nat_tests, c);
      slots = record {
        memory_out = let c = o.slots.memory_out in let o : ℕ = 0 in grind (arith, nat_tests, c);
        memory_home = let c = o.slots.memory_home in let o : ℕ = 0 in grind (arith, nat_tests, c);
        lends = let c = o.slots.lends in let o : ℕ = 0 in grind (arith, nat_tests, c);
        lends_one = let c = o.slots.lends_one in let o : ℕ = 0 in grind (arith, nat_tests, c);
        borrower_has = let c = o.slots.borrower_has in let o : ℕ = 0 in grind (arith, nat_tests, c);
        fetching = let c = o.slots.fetching in let o : ℕ = 0 in grind (arith, nat_tests, c);
        writing = let c = o.slots.writing in let o : ℕ = 0 in grind (arith, nat_tests, c);
        in_hand = let c = o.slots.in_hand in let o : ℕ = 0 in grind (arith, nat_tests, c);
        at_home = let c = o.slots.at_home in let o : ℕ = 0 in grind (arith, nat_tests, c);
        held_out = let c = o.slots.held_out in let o : ℕ = 0 in grind (arith, nat_tests, c);
        held_by = let c = o.slots.held_by in let o : ℕ = 0 in grind (arith, nat_tests, c);
        held_for = let c = o.slots.held_for in let o : ℕ = 0 in grind (arith, nat_tests, c);
        holding = let c = o.slots.holding in let o : ℕ = 0 in grind (arith, nat_tests, c);
        copied_held = let c = o.slots.copied_held in let o : ℕ = 0 in grind (arith, nat_tests, c);
        copied_idle = let c = o.slots.copied_idle in let o : ℕ = 0 in grind (arith, nat_tests, c);
        copied_by = let c = o.slots.copied_by in let o : ℕ = 0 in grind (arith, nat_tests, c);
      };
      mode = let c = o.mode in let o : ℕ = 0 in grind (arith, nat_tests, c);
      values = record {
        memory = let c = o.values.memory in let o : ℕ = 0 in grind (arith, nat_tests, c);
        lent_line = let c = o.values.lent_line in let o : ℕ = 0 in grind (arith, nat_tests, c);
        sharer = λ i l h1 h2. let c0 = o.values.sharer i l in let c1 = o.mode.last_value me in let o : ℕ = 0 in
            grind (arith, nat_tests, c0, c1);
        hand = let c = o.values.hand in let o : ℕ = 0 in grind (arith, nat_tests, c);
        copying = let c = o.values.copying in let o : ℕ = 0 in grind (arith, nat_tests, c);
        leaving = let c = o.values.leaving in let o : ℕ = 0 in grind (arith, nat_tests, c);
        ready = let c = o.values.ready in let o : ℕ = 0 in grind (arith, nat_tests, c);
      };
    }

pub settle_in_queue_keeps_links : (n : ℕ) (s : State) (b : Below n (shape s)) (me : ℕ) (me_below : me < n) (dirty : Bool) (line : Line)
    → (pending : s.steps me ≡ Pending.InQueue None dirty (Some line))
    → (me_word : s.tags me ≡ word Kind.Queued None None)
    → Below n (shape (after_settle_in_queue s me dirty line))
settle_in_queue_keeps_links n s b me me_below dirty line pending me_word =
    let pending : StepFields (s.steps me) (Pending.InQueue None dirty (Some line)) = step_fields pending in
    let me_word : TagFields (s.tags me) (word Kind.Queued None None) = tag_fields me_word in
    grind (arith, nat_tests, b.head, b.forw, b.back, b.kept, b.word_forw, b.seen_forw, b.seen_back)
