use Rattle.std.proofs.Common.{◌≡◌, ℕ, ◌<◌, true, false, Option, Some, arith}
use Rattle.std.proofs.lemmas.Bool.Decides.{nat_tests}
use Rattle.sci_words.specs.declared.tags.Kind.{Kind}
use Rattle.sci_words.specs.declared.memory.MemState.{MemState}
use Rattle.sci_core.specs.declared.pending.Pending.{Pending}
use Rattle.sci_core.specs.State.{State, update, memory_word}
use Rattle.sci_core.specs.Shape.{shape}
use Rattle.sci_core.specs.Law.{Witness, Law, Below}
use Rattle.sci_core.proofs.Fields.{StepFields, MemFields, step_fields, mem_fields}

-- The home becomes GONE for its head, the node, which is to write.
abbrev pub after_fresh_to_gone : State → ℕ → Option ℕ → State
after_fresh_to_gone s me forw = record s {
  memory = memory_word MemState.Gone (Some me);
  steps = update s.steps me (Pending.Converting forw true);
}

pub fresh_to_gone_keeps_law : (s : State) (g : Witness) (o : Law (shape s) g) (me : ℕ) (forw : Option ℕ)
    → (pending : s.steps me ≡ Pending.Converting forw false)
    → (memory_word_is : s.memory ≡ memory_word MemState.Fresh (Some me))
    → Law (shape (after_fresh_to_gone s me forw)) g
fresh_to_gone_keeps_law s g o me forw pending memory_word_is =
    let pending : StepFields (s.steps me) (Pending.Converting forw false) = step_fields pending in
    let memory_word_is : MemFields s.memory (memory_word MemState.Fresh (Some me)) = mem_fields memory_word_is in
    let me_in : 0 < g.rank me = grind (arith, o.outside.may_be me) in
    let me_kind : (s.tags me).kind ≡ Kind.Convert = grind (arith, o.own.suited me) in
    record {
      order = let c = o.order in let o : ℕ = 0 in grind (arith, nat_tests, c);
      fronts = let c = o.fronts in let o : ℕ = 0 in grind (arith, nat_tests, c);
      own = let c = o.own in let o : ℕ = 0 in grind (arith, nat_tests, c);
      outside = let c = o.outside in let o : ℕ = 0 in grind (arith, nat_tests, c);
      backs = let c = o.backs in let o : ℕ = 0 in grind (arith, nat_tests, c);
      sees = let c = o.sees in let o : ℕ = 0 in grind (arith, nat_tests, c);
      words = let c = o.words in let o : ℕ = 0 in grind (arith, nat_tests, c);
      slots = record {
        memory_out = let c = o.slots.memory_out in let o : ℕ = 0 in grind (arith, nat_tests, c);
        memory_home = let c = o.slots.memory_home in let o : ℕ = 0 in grind (arith, nat_tests, c);
        lends = let c = o.slots.lends in let o : ℕ = 0 in grind (arith, nat_tests, c);
        lends_one = let c = o.slots.lends_one in let o : ℕ = 0 in grind (arith, nat_tests, c);
        borrower_has = let c = o.slots.borrower_has in let o : ℕ = 0 in grind (arith, nat_tests, c);
        fetching = let c = o.slots.fetching in let o : ℕ = 0 in grind (arith, nat_tests, c);
        writing = let c = o.slots.writing in let o : ℕ = 0 in grind (arith, nat_tests, c);
        in_hand = let c = o.slots.in_hand in let o : ℕ = 0 in grind (arith, nat_tests, c);
        at_home = let c = o.slots.at_home in let o : ℕ = 0 in grind (arith, nat_tests, c);
        held_out = let c = o.slots.held_out in let o : ℕ = 0 in grind (arith, nat_tests, c);
        held_by = let c = o.slots.held_by in let o : ℕ = 0 in grind (arith, nat_tests, c);
        held_for = let c = o.slots.held_for in let o : ℕ = 0 in grind (arith, nat_tests, c);
        holding = let c = o.slots.holding in let o : ℕ = 0 in grind (arith, nat_tests, c);
        copied_held = let c = o.slots.copied_held in let o : ℕ = 0 in grind (arith, nat_tests, c);
        copied_idle = let c = o.slots.copied_idle in let o : ℕ = 0 in grind (arith, nat_tests, c);
        copied_by = let c = o.slots.copied_by in let o : ℕ = 0 in grind (arith, nat_tests, c);
      };
      mode = record {
        home = let c = o.mode.home in let o : ℕ = 0 in grind (arith, nat_tests, c);
        not_home = let c = o.mode.not_home in let o : ℕ = 0 in grind (arith, nat_tests, c);
        not_dirty = let c = o.mode.not_dirty in let o : ℕ = 0 in grind (arith, nat_tests, c);
        not_purging = let c = o.mode.not_purging in let o : ℕ = 0 in grind (arith, nat_tests, c);
        not_copying = let c = o.mode.not_copying in let o : ℕ = 0 in grind (arith, nat_tests, c);
        not_flagged = let c = o.mode.not_flagged in let o : ℕ = 0 in grind (arith, nat_tests, c);
        has_copy = let c = o.mode.has_copy in let o : ℕ = 0 in grind (arith, nat_tests, c);
        has_value = let c = o.mode.has_value in let o : ℕ = 0 in grind (arith, nat_tests, c);
        gone = λ h1. let c0 = o.own.suited me in let c1 = o.order.head_top me g.last_front in let c2 = o.order.head_in me in
            let c3 = o.order.apart me g.last_front in let c4 = o.fronts.queue me in let o : ℕ = 0 in
            grind (arith, nat_tests, c0, c1, c2, c3, c4);
        gone_flag = λ i h1 h2. let c0 = o.order.head_top me g.last_front in let c1 = o.order.head_top g.last_front i in
            let c2 = o.order.head_in me in let c3 = o.order.apart me g.last_front in let c4 = o.fronts.queue me in let o : ℕ = 0 in
            grind (arith, nat_tests, c0, c1, c2, c3, c4);
        gone_queue = λ i h1 h2 h3. let c0 = o.order.head_top me g.last_front in let c1 = o.order.head_top g.last_front i in
            let c2 = o.order.head_in me in let c3 = o.order.apart me g.last_front in let c4 = o.fronts.queue me in let o : ℕ = 0 in
            grind (arith, nat_tests, c0, c1, c2, c3, c4);
        gone_copy = λ i h1 h2 h3. let c0 = o.order.head_top me g.last_front in let c1 = o.order.head_top g.last_front i in
            let c2 = o.order.head_in me in let c3 = o.order.apart me g.last_front in let c4 = o.fronts.queue me in let o : ℕ = 0 in
            grind (arith, nat_tests, c0, c1, c2, c3, c4);
        last_copy = let c = o.mode.last_copy in let o : ℕ = 0 in grind (arith, nat_tests, c);
        last_value = λ i h1 h2. let c0 = o.mode.last_value in let o : ℕ = 0 in grind (arith, nat_tests, c0);
      };
      values = let c = o.values in let o : ℕ = 0 in grind (arith, nat_tests, c);
    }

pub fresh_to_gone_keeps_links : (n : ℕ) (s : State) (b : Below n (shape s)) (me : ℕ) (me_below : me < n) (forw : Option ℕ)
    → (pending : s.steps me ≡ Pending.Converting forw false)
    → (memory_word_is : s.memory ≡ memory_word MemState.Fresh (Some me))
    → Below n (shape (after_fresh_to_gone s me forw))
fresh_to_gone_keeps_links n s b me me_below forw pending memory_word_is =
    let pending : StepFields (s.steps me) (Pending.Converting forw false) = step_fields pending in
    let memory_word_is : MemFields s.memory (memory_word MemState.Fresh (Some me)) = mem_fields memory_word_is in
    grind (arith, nat_tests, b.head, b.forw, b.back, b.kept, b.word_forw, b.seen_forw, b.seen_back)
