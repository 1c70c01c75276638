use Rattle.std.proofs.Common.{◌≡◌, ℕ, ◌+◌, ◌<◌, true, Some, None, ap, arith}
use Rattle.std.proofs.lemmas.Bool.Decides.{nat_tests}
use Rattle.sci_words.specs.declared.memory.Mem.{Mem}
use Rattle.sci_words.specs.declared.memory.MemState.{MemState}
use Rattle.sci_core.specs.declared.pending.Pending.{Pending}
use Rattle.sci_core.specs.State.{State, update, memory_word}
use Rattle.sci_core.specs.Shape.{shape}
use Rattle.sci_core.specs.Law.{Witness, Law, Below}
use Rattle.sci_core.proofs.Order.{push_next}
use Rattle.sci_core.proofs.Fields.{StepFields, MemFields, step_fields, mem_fields}

-- The home is GONE: the node is the head before the old one, and is to copy that one's line.
abbrev pub after_prepend_gone : State → ℕ → ℕ → State
after_prepend_gone s me target = record s {
  memory = memory_word MemState.Gone (Some me);
  steps = update s.steps me (Pending.InQueue (Some target) true None);
}

pub prepend_gone_keeps_law : (s : State) (g : Witness) (o : Law (shape s) g) (me : ℕ) (target : ℕ)
    → (pending : s.steps me ≡ Pending.Queueing (Some target))
    → (memory_word_is : s.memory ≡ memory_word MemState.Gone (Some target))
    → Law (shape (after_prepend_gone s me target)) (record g { rank = update g.rank me (g.rank target + 1) })
prepend_gone_keeps_law s g o me target pending memory_word_is =
    let memory_forw : s.memory.forw ≡ (Some target) = ap (λ (m : Mem). m.forw) memory_word_is in
    let pending : StepFields (s.steps me) (Pending.Queueing (Some target)) = step_fields pending in
    let memory_word_is : MemFields s.memory (memory_word MemState.Gone (Some target)) = mem_fields memory_word_is in
    let me_forw : (s.tags me).forw ≡ Some target = grind (arith, o.own.as_kept me) in
    let me_out : g.rank me ≡ 0 = grind (arith, o.outside.outside me) in
    record {
      order = push_next me target me_forw me_out (rw memory_forw at o.order);
      fronts = record {
        last_front_in = λ i h1. let c0 = o.order.head_in target in let c1 = o.fronts.last_front_in target in let o : ℕ = 0 in
            grind (arith, nat_tests, c0, c1);
        front = λ i h1 h2. let c0 = o.own.suited me in let c1 = o.order.head_top target me in let c2 = o.fronts.front i in let o : ℕ = 0 in
            grind (arith, nat_tests, c0, c1, c2);
        body = λ i h1 h2. let c0 = o.outside.outside me in let c1 = o.order.head_top target g.last_front in
            let c2 = o.fronts.last_front_in target in let c3 = o.fronts.body i in let o : ℕ = 0 in grind (arith, nat_tests, c0, c1, c2, c3);
        queue = let c = o.fronts.queue in let o : ℕ = 0 in grind (arith, nat_tests, c);
        attached = λ j h1 h2 h3. let c0 = o.order.head_in target in let c1 = o.fronts.last_front_in target in
            let c2 = o.fronts.attached j in let o : ℕ = 0 in grind (arith, nat_tests, c0, c1, c2);
        leaves = λ h1 h2. let c0 = o.order.head_in target in let c1 = o.fronts.leaves in let c2 = o.fronts.last_front_in target in
            let o : ℕ = 0 in grind (arith, nat_tests, c0, c1, c2);
        purged = λ i h1 h2. let c0 = o.own.suited me in let c1 = o.fronts.purged i in let o : ℕ = 0 in grind (arith, nat_tests, c0, c1);
        purged_next = λ i h1 h2. let c0 = o.own.suited me in let c1 = o.fronts.purged_next i in let o : ℕ = 0 in
            grind (arith, nat_tests, c0, c1);
      };
      own = let c = o.own in let o : ℕ = 0 in grind (arith, nat_tests, c);
      outside = record {
        outside = let c = o.outside.outside in let o : ℕ = 0 in grind (arith, nat_tests, c);
        may_be = let c = o.outside.may_be in let o : ℕ = 0 in grind (arith, nat_tests, c);
        kinds = λ i h1 hn. let c0 = o.own.suited me in let c1 = o.outside.kinds i in let o : ℕ = 0 in grind (arith, nat_tests, c0, c1);
        cleared = let c = o.outside.cleared in let o : ℕ = 0 in grind (arith, nat_tests, c);
        cleared_by = let c = o.outside.cleared_by in let o : ℕ = 0 in grind (arith, nat_tests, c);
      };
      backs = record {
        ahead = λ i j h1 h2 h3. let c0 = o.own.suited me in let c1 = o.own.front_back me in let c2 = o.order.head_top target i in
            let c3 = o.backs.ahead i j in let o : ℕ = 0 in grind (arith, nat_tests, c0, c1, c2, c3);
        known_in = λ i j h1 h2 h3. let c0 = o.own.suited me in let c1 = o.own.front_back me in let c2 = o.backs.known_in i j in
            let o : ℕ = 0 in grind (arith, nat_tests, c0, c1, c2);
        known = λ i j h1 h2 h3. let c0 = o.own.suited me in let c1 = o.own.front_back me in let c2 = o.outside.outside me in
            let c3 = o.backs.known_in i j in let c4 = o.backs.known i j in let o : ℕ = 0 in grind (arith, nat_tests, c0, c1, c2, c3, c4);
        skip_roll = λ i j m h1 h2 h3 h4 h5. let c0 = o.outside.outside me in let c1 = o.order.head_top target g.last_front in
            let c2 = o.fronts.last_front_in target in let c3 = o.backs.skip_roll_out i j m in let c4 = o.backs.skip_roll i j m in
            let o : ℕ = 0 in grind (arith, nat_tests, c0, c1, c2, c3, c4);
        skip_roll_out = λ i j m h1 h2 h3 h4 h5. let c0 = o.outside.outside me in let c1 = o.order.head_top target g.last_front in
            let c2 = o.fronts.last_front_in target in let c3 = o.backs.skip_roll_out i j m in let o : ℕ = 0 in
            grind (arith, nat_tests, c0, c1, c2, c3);
        skip_back = λ i j m h1 h2 h3 h4 h5 h6. let c0 = o.outside.outside me in let c1 = o.order.head_top target g.last_front in
            let c2 = o.fronts.last_front_in target in let c3 = o.backs.skip_back i j m in let o : ℕ = 0 in
            grind (arith, nat_tests, c0, c1, c2, c3);
        skip_stale = λ i j m h1 h2 h3 h4 h5 h6. let c0 = o.outside.outside me in let c1 = o.order.head_top target g.last_front in
            let c2 = o.fronts.last_front_in target in let c3 = o.backs.skip_stale_out i j m in let c4 = o.backs.skip_stale i j m in
            let o : ℕ = 0 in grind (arith, nat_tests, c0, c1, c2, c3, c4);
        skip_stale_out = λ i j m h1 h2 h3 h4 h5 h6. let c0 = o.outside.outside me in let c1 = o.order.head_top target g.last_front in
            let c2 = o.fronts.last_front_in target in let c3 = o.backs.skip_stale_out i j m in let o : ℕ = 0 in
            grind (arith, nat_tests, c0, c1, c2, c3);
        parting = λ i j h1 h2. let c0 = o.own.suited me in let c1 = o.own.front_back me in let c2 = o.backs.parting i j in let o : ℕ = 0 in
            grind (arith, nat_tests, c0, c1, c2);
      };
      sees = record {
        none_seen = let c = o.sees.none_seen in let o : ℕ = 0 in grind (arith, nat_tests, c);
        forw_seen = λ i x h1 h2 h3 h4 h5. let c0 = o.sees.forw_seen i x in let c1 = o.order.head_top target i in let o : ℕ = 0 in
            grind (arith, nat_tests, c0, c1);
        back_some = let c = o.sees.back_some in let o : ℕ = 0 in grind (arith, nat_tests, c);
        back_ahead = λ i x h1 h2 h3 h4. let c0 = o.sees.back_ahead i x in let c1 = o.order.head_top target i in let o : ℕ = 0 in
            grind (arith, nat_tests, c0, c1);
        back_parting = let c = o.sees.back_parting in let o : ℕ = 0 in grind (arith, nat_tests, c);
        back_seen = let c = o.sees.back_seen in let o : ℕ = 0 in grind (arith, nat_tests, c);
        back_behind = let c = o.sees.back_behind in let o : ℕ = 0 in grind (arith, nat_tests, c);
        back_front = let c = o.sees.back_front in let o : ℕ = 0 in grind (arith, nat_tests, c);
        told_seen = let c = o.sees.told_seen in let o : ℕ = 0 in grind (arith, nat_tests, c);
        told_forw = let c = o.sees.told_forw in let o : ℕ = 0 in grind (arith, nat_tests, c);
        told_some = let c = o.sees.told_some in let o : ℕ = 0 in grind (arith, nat_tests, c);
        told = let c = o.sees.told in let o : ℕ = 0 in grind (arith, nat_tests, c);
        untold = λ i j m h1 h2 h3 h4. let c0 = o.sees.untold in let o : ℕ = 0 in grind (arith, nat_tests, c0);
        unlinked = let c = o.sees.unlinked in let o : ℕ = 0 in grind (arith, nat_tests, c);
      };
      words = let c = o.words in let o : ℕ = 0 in grind (arith, nat_tests, c);
      slots = record {
        memory_out = let c = o.slots.memory_out in let o : ℕ = 0 in grind (arith, nat_tests, c);
        memory_home = let c = o.slots.memory_home in let o : ℕ = 0 in grind (arith, nat_tests, c);
        lends = let c = o.slots.lends in let o : ℕ = 0 in grind (arith, nat_tests, c);
        lends_one = let c = o.slots.lends_one in let o : ℕ = 0 in grind (arith, nat_tests, c);
        borrower_has = let c = o.slots.borrower_has in let o : ℕ = 0 in grind (arith, nat_tests, c);
        fetching = λ i h1. let c0 = o.slots.lends i in let o : ℕ = 0 in grind (arith, nat_tests, c0);
        writing = let c = o.slots.writing in let o : ℕ = 0 in grind (arith, nat_tests, c);
        in_hand = let c = o.slots.in_hand in let o : ℕ = 0 in grind (arith, nat_tests, c);
        at_home = let c = o.slots.at_home in let o : ℕ = 0 in grind (arith, nat_tests, c);
        held_out = let c = o.slots.held_out in let o : ℕ = 0 in grind (arith, nat_tests, c);
        held_by = let c = o.slots.held_by in let o : ℕ = 0 in grind (arith, nat_tests, c);
        held_for = let c = o.slots.held_for in let o : ℕ = 0 in grind (arith, nat_tests, c);
        holding = let c = o.slots.holding in let o : ℕ = 0 in grind (arith, nat_tests, c);
        copied_held = let c = o.slots.copied_held in let o : ℕ = 0 in grind (arith, nat_tests, c);
        copied_idle = let c = o.slots.copied_idle in let o : ℕ = 0 in grind (arith, nat_tests, c);
        copied_by = let c = o.slots.copied_by in let o : ℕ = 0 in grind (arith, nat_tests, c);
      };
      mode = let c = o.mode in let o : ℕ = 0 in grind (arith, nat_tests, c);
      values = let c = o.values in let o : ℕ = 0 in grind (arith, nat_tests, c);
    }

pub prepend_gone_keeps_links : (n : ℕ) (s : State) (b : Below n (shape s)) (me : ℕ) (me_below : me < n) (target : ℕ)
    → (pending : s.steps me ≡ Pending.Queueing (Some target))
    → (memory_word_is : s.memory ≡ memory_word MemState.Gone (Some target))
    → Below n (shape (after_prepend_gone s me target))
prepend_gone_keeps_links n s b me me_below target pending memory_word_is =
    let pending : StepFields (s.steps me) (Pending.Queueing (Some target)) = step_fields pending in
    let memory_word_is : MemFields s.memory (memory_word MemState.Gone (Some target)) = mem_fields memory_word_is in
    grind (arith, nat_tests, b.head, b.forw, b.back, b.kept, b.word_forw, b.seen_forw, b.seen_back)
