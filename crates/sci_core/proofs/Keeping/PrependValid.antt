use Rattle.std.proofs.Common.{◌≡◌, ℕ, ◌+◌, ◌<◌, false, Some, None, ap, arith}
use Rattle.std.proofs.lemmas.Bool.Decides.{nat_tests}
use Rattle.sci_words.specs.declared.memory.Mem.{Mem}
use Rattle.sci_words.specs.declared.memory.MemState.{MemState}
use Rattle.sci_core.specs.declared.lines.Line.{Line}
use Rattle.sci_core.specs.declared.pending.Pending.{Pending}
use Rattle.sci_core.specs.State.{State, update, memory_word, lent_word}
use Rattle.sci_core.specs.Shape.{link, shape}
use Rattle.sci_core.specs.Law.{Witness, Law, Below}
use Rattle.sci_core.proofs.Order.{push_first, push_next}
use Rattle.sci_core.proofs.Fields.{StepFields, MemFields, step_fields, mem_fields}

-- The home is HOME: the node is the only entry, with memory's slot in hand.
abbrev pub after_prepend_valid_home : State → ℕ → Line → State
after_prepend_valid_home s me line = record s {
  memory = lent_word (memory_word MemState.Fresh (Some me));
  steps = update s.steps me (Pending.Fetching None false line);
  memory_slot = None;
}

pub prepend_valid_home_keeps_law : (s : State) (g : Witness) (o : Law (shape s) g) (me : ℕ) (line : Line)
    → (pending : s.steps me ≡ Pending.Queueing None)
    → (memory_word_is : s.memory ≡ memory_word MemState.Home None)
    → (memory_has : s.memory_slot ≡ Some line)
    → Law (shape (after_prepend_valid_home s me line)) (record g { rank = update g.rank me 1; last_front = me; borrower = me })
prepend_valid_home_keeps_law s g o me line pending memory_word_is memory_has =
    let memory_forw : s.memory.forw ≡ None = ap (λ (m : Mem). m.forw) memory_word_is in
    let pending : StepFields (s.steps me) (Pending.Queueing None) = step_fields pending in
    let memory_word_is : MemFields s.memory (memory_word MemState.Home None) = mem_fields memory_word_is in
    let me_forw : (s.tags me).forw ≡ None = grind (arith, o.own.as_kept me) in
    let me_out : g.rank me ≡ 0 = grind (arith, o.outside.outside me) in
    record {
      order = push_first me me_forw (rw memory_forw at o.order);
      fronts = record {
        last_front_in = let c = o.fronts.last_front_in in let o : ℕ = 0 in grind (arith, nat_tests, c);
        front = λ i h1 h2. let c0 = o.own.suited me in let c1 = o.order.empty i in let o : ℕ = 0 in grind (arith, nat_tests, c0, c1);
        body = let c = o.fronts.body in let o : ℕ = 0 in grind (arith, nat_tests, c);
        queue = λ i h1. let c0 = o.order.empty i in let o : ℕ = 0 in grind (arith, nat_tests, c0);
        attached = let c = o.fronts.attached in let o : ℕ = 0 in grind (arith, nat_tests, c);
        leaves = λ h1 h2. let c0 = o.own.suited me in let o : ℕ = 0 in grind (arith, nat_tests, c0);
        purged = λ i h1 h2. let c0 = o.own.suited me in let c1 = o.order.empty i in let o : ℕ = 0 in grind (arith, nat_tests, c0, c1);
        purged_next = λ i h1 h2. let c0 = o.own.suited me in let c1 = o.order.empty i in let o : ℕ = 0 in grind (arith, nat_tests, c0, c1);
      };
      own = let c = o.own in let o : ℕ = 0 in grind (arith, nat_tests, c);
      outside = record {
        outside = let c = o.outside.outside in let o : ℕ = 0 in grind (arith, nat_tests, c);
        may_be = let c = o.outside.may_be in let o : ℕ = 0 in grind (arith, nat_tests, c);
        kinds = λ i h1 hn. let c0 = o.own.suited me in let c1 = o.outside.kinds i in let o : ℕ = 0 in grind (arith, nat_tests, c0, c1);
        cleared = let c = o.outside.cleared in let o : ℕ = 0 in grind (arith, nat_tests, c);
        cleared_by = let c = o.outside.cleared_by in let o : ℕ = 0 in grind (arith, nat_tests, c);
      };
      backs = record {
        ahead = λ i j h1 h2 h3. let c0 = o.own.suited me in let c1 = o.own.front_back me in let c2 = o.order.empty i in let o : ℕ = 0 in
            grind (arith, nat_tests, c0, c1, c2);
        known_in = λ i j h1 h2 h3. let c0 = o.own.suited me in let c1 = o.own.front_back me in let c2 = o.order.empty i in let o : ℕ = 0 in
            grind (arith, nat_tests, c0, c1, c2);
        known = λ i j h1 h2 h3. let c0 = o.order.empty j in let o : ℕ = 0 in grind (arith, nat_tests, c0);
        skip_roll = let c = o.backs.skip_roll in let o : ℕ = 0 in grind (arith, nat_tests, c);
        skip_roll_out = let c = o.backs.skip_roll_out in let o : ℕ = 0 in grind (arith, nat_tests, c);
        skip_back = let c = o.backs.skip_back in let o : ℕ = 0 in grind (arith, nat_tests, c);
        skip_stale = let c = o.backs.skip_stale in let o : ℕ = 0 in grind (arith, nat_tests, c);
        skip_stale_out = let c = o.backs.skip_stale_out in let o : ℕ = 0 in grind (arith, nat_tests, c);
        parting = λ i j h1 h2. let c0 = o.own.suited me in let c1 = o.own.front_back me in let c2 = o.order.empty i in let o : ℕ = 0 in
            grind (arith, nat_tests, c0, c1, c2);
      };
      sees = record {
        none_seen = let c = o.sees.none_seen in let o : ℕ = 0 in grind (arith, nat_tests, c);
        forw_seen = λ i x h1 h2 h3 h4 h5. let c0 = o.order.empty i in let o : ℕ = 0 in grind (arith, nat_tests, c0);
        back_some = let c = o.sees.back_some in let o : ℕ = 0 in grind (arith, nat_tests, c);
        back_ahead = λ i x h1 h2 h3 h4. let c0 = o.order.empty i in let o : ℕ = 0 in grind (arith, nat_tests, c0);
        back_parting = let c = o.sees.back_parting in let o : ℕ = 0 in grind (arith, nat_tests, c);
        back_seen = λ i h1 h2 h3. let c0 = o.outside.may_be (link (s.tags g.last_front).forw) in
            let c1 = o.order.empty (link (s.tags g.last_front).forw) in let c2 = o.sees.back_behind i in let o : ℕ = 0 in
            grind (arith, nat_tests, c0, c1, c2);
        back_behind = λ i h1 h2 h3. let c0 = o.outside.may_be (link (s.tags g.last_front).forw) in
            let c1 = o.order.empty (link (s.tags g.last_front).forw) in let c2 = o.sees.back_behind i in let o : ℕ = 0 in
            grind (arith, nat_tests, c0, c1, c2);
        back_front = λ i h1 h2 h3. let c0 = o.outside.may_be (link (s.tags g.last_front).forw) in
            let c1 = o.order.empty (link (s.tags g.last_front).forw) in let c2 = o.sees.back_behind i in let o : ℕ = 0 in
            grind (arith, nat_tests, c0, c1, c2);
        told_seen = let c = o.sees.told_seen in let o : ℕ = 0 in grind (arith, nat_tests, c);
        told_forw = let c = o.sees.told_forw in let o : ℕ = 0 in grind (arith, nat_tests, c);
        told_some = let c = o.sees.told_some in let o : ℕ = 0 in grind (arith, nat_tests, c);
        told = let c = o.sees.told in let o : ℕ = 0 in grind (arith, nat_tests, c);
        untold = λ i j m h1 h2 h3 h4. let c0 = o.sees.untold in let o : ℕ = 0 in grind (arith, nat_tests, c0);
        unlinked = let c = o.sees.unlinked in let o : ℕ = 0 in grind (arith, nat_tests, c);
      };
      words = let c = o.words in let o : ℕ = 0 in grind (arith, nat_tests, c);
      slots = record {
        memory_out = let c = o.slots.memory_out in let o : ℕ = 0 in grind (arith, nat_tests, c);
        memory_home = let c = o.slots.memory_home in let o : ℕ = 0 in grind (arith, nat_tests, c);
        lends = let c = o.slots.lends in let o : ℕ = 0 in grind (arith, nat_tests, c);
        lends_one = λ i h1. let c0 = o.slots.lends i in let o : ℕ = 0 in grind (arith, nat_tests, c0);
        borrower_has = let c = o.slots.borrower_has in let o : ℕ = 0 in grind (arith, nat_tests, c);
        fetching = let c = o.slots.fetching in let o : ℕ = 0 in grind (arith, nat_tests, c);
        writing = λ i h1. let c0 = o.slots.lends i in let o : ℕ = 0 in grind (arith, nat_tests, c0);
        in_hand = let c = o.slots.in_hand in let o : ℕ = 0 in grind (arith, nat_tests, c);
        at_home = let c = o.slots.at_home in let o : ℕ = 0 in grind (arith, nat_tests, c);
        held_out = let c = o.slots.held_out in let o : ℕ = 0 in grind (arith, nat_tests, c);
        held_by = let c = o.slots.held_by in let o : ℕ = 0 in grind (arith, nat_tests, c);
        held_for = let c = o.slots.held_for in let o : ℕ = 0 in grind (arith, nat_tests, c);
        holding = let c = o.slots.holding in let o : ℕ = 0 in grind (arith, nat_tests, c);
        copied_held = let c = o.slots.copied_held in let o : ℕ = 0 in grind (arith, nat_tests, c);
        copied_idle = let c = o.slots.copied_idle in let o : ℕ = 0 in grind (arith, nat_tests, c);
        copied_by = let c = o.slots.copied_by in let o : ℕ = 0 in grind (arith, nat_tests, c);
      };
      mode = record {
        home = let c = o.mode.home in let o : ℕ = 0 in grind (arith, nat_tests, c);
        not_home = let c = o.mode.not_home in let o : ℕ = 0 in grind (arith, nat_tests, c);
        not_dirty = λ i h1 h2 hn. let c0 = o.own.suited me in let c1 = o.order.empty i in let o : ℕ = 0 in grind (arith, nat_tests, c0, c1);
        not_purging = λ i h1 h2 hn. let c0 = o.own.suited me in let c1 = o.order.empty i in let o : ℕ = 0 in
            grind (arith, nat_tests, c0, c1);
        not_copying = λ i h1 h2 hn. let c0 = o.order.empty i in let o : ℕ = 0 in grind (arith, nat_tests, c0);
        not_flagged = λ i h1 h2 h3. let c0 = o.order.empty i in let o : ℕ = 0 in grind (arith, nat_tests, c0);
        has_copy = λ i h1 h2 h3. let c0 = o.order.empty i in let o : ℕ = 0 in grind (arith, nat_tests, c0);
        has_value = λ i h1 h2 h3. let c0 = o.values.memory line in let c1 = o.order.empty i in let o : ℕ = 0 in
            grind (arith, nat_tests, c0, c1);
        gone = let c = o.mode.gone in let o : ℕ = 0 in grind (arith, nat_tests, c);
        gone_flag = let c = o.mode.gone_flag in let o : ℕ = 0 in grind (arith, nat_tests, c);
        gone_queue = let c = o.mode.gone_queue in let o : ℕ = 0 in grind (arith, nat_tests, c);
        gone_copy = let c = o.mode.gone_copy in let o : ℕ = 0 in grind (arith, nat_tests, c);
        last_copy = let c = o.mode.last_copy in let o : ℕ = 0 in grind (arith, nat_tests, c);
        last_value = λ i h1 h2. let c0 = o.mode.last_value in let o : ℕ = 0 in grind (arith, nat_tests, c0);
      };
      values = let c = o.values in let o : ℕ = 0 in grind (arith, nat_tests, c);
    }

pub prepend_valid_home_keeps_links : (n : ℕ) (s : State) (b : Below n (shape s)) (me : ℕ) (me_below : me < n) (line : Line)
    → (pending : s.steps me ≡ Pending.Queueing None)
    → (memory_word_is : s.memory ≡ memory_word MemState.Home None)
    → Below n (shape (after_prepend_valid_home s me line))
prepend_valid_home_keeps_links n s b me me_below line pending memory_word_is =
    let pending : StepFields (s.steps me) (Pending.Queueing None) = step_fields pending in
    let memory_word_is : MemFields s.memory (memory_word MemState.Home None) = mem_fields memory_word_is in
    grind (arith, nat_tests, b.head, b.forw, b.back, b.kept, b.word_forw, b.seen_forw, b.seen_back)

-- The home is FRESH: the node is the head before the old one, with memory's slot in hand.
abbrev pub after_prepend_valid_listed : State → ℕ → ℕ → Line → State
after_prepend_valid_listed s me target line = record s {
  memory = lent_word (memory_word MemState.Fresh (Some me));
  steps = update s.steps me (Pending.Fetching (Some target) false line);
  memory_slot = None;
}

pub prepend_valid_listed_keeps_law : (s : State) (g : Witness) (o : Law (shape s) g) (me : ℕ) (target : ℕ) (line : Line)
    → (pending : s.steps me ≡ Pending.Queueing (Some target))
    → (memory_word_is : s.memory ≡ memory_word MemState.Fresh (Some target))
    → (memory_has : s.memory_slot ≡ Some line)
    → Law (shape (after_prepend_valid_listed s me target line)) (record g { rank = update g.rank me (g.rank target + 1); borrower = me })
prepend_valid_listed_keeps_law s g o me target line pending memory_word_is memory_has =
    let memory_forw : s.memory.forw ≡ (Some target) = ap (λ (m : Mem). m.forw) memory_word_is in
    let pending : StepFields (s.steps me) (Pending.Queueing (Some target)) = step_fields pending in
    let memory_word_is : MemFields s.memory (memory_word MemState.Fresh (Some target)) = mem_fields memory_word_is in
    let me_forw : (s.tags me).forw ≡ Some target = grind (arith, o.own.as_kept me) in
    let me_out : g.rank me ≡ 0 = grind (arith, o.outside.outside me) in
    record {
      order = push_next me target me_forw me_out (rw memory_forw at o.order);
      fronts = record {
        last_front_in = λ i h1. let c0 = o.order.head_in target in let c1 = o.fronts.last_front_in target in let o : ℕ = 0 in
            grind (arith, nat_tests, c0, c1);
        front = λ i h1 h2. let c0 = o.own.suited me in let c1 = o.order.head_top target me in let c2 = o.fronts.front i in let o : ℕ = 0 in
            grind (arith, nat_tests, c0, c1, c2);
        body = λ i h1 h2. let c0 = o.outside.outside me in let c1 = o.order.head_top target g.last_front in
            let c2 = o.fronts.last_front_in target in let c3 = o.fronts.body i in let o : ℕ = 0 in grind (arith, nat_tests, c0, c1, c2, c3);
        queue = let c = o.fronts.queue in let o : ℕ = 0 in grind (arith, nat_tests, c);
        attached = λ j h1 h2 h3. let c0 = o.order.head_in target in let c1 = o.fronts.last_front_in target in
            let c2 = o.fronts.attached j in let o : ℕ = 0 in grind (arith, nat_tests, c0, c1, c2);
        leaves = λ h1 h2. let c0 = o.order.head_in target in let c1 = o.fronts.leaves in let c2 = o.fronts.last_front_in target in
            let o : ℕ = 0 in grind (arith, nat_tests, c0, c1, c2);
        purged = λ i h1 h2. let c0 = o.own.suited me in let c1 = o.fronts.purged i in let o : ℕ = 0 in grind (arith, nat_tests, c0, c1);
        purged_next = λ i h1 h2. let c0 = o.own.suited me in let c1 = o.fronts.purged_next i in let o : ℕ = 0 in
            grind (arith, nat_tests, c0, c1);
      };
      own = let c = o.own in let o : ℕ = 0 in grind (arith, nat_tests, c);
      outside = record {
        outside = let c = o.outside.outside in let o : ℕ = 0 in grind (arith, nat_tests, c);
        may_be = let c = o.outside.may_be in let o : ℕ = 0 in grind (arith, nat_tests, c);
        kinds = λ i h1 hn. let c0 = o.own.suited me in let c1 = o.outside.kinds i in let o : ℕ = 0 in grind (arith, nat_tests, c0, c1);
        cleared = let c = o.outside.cleared in let o : ℕ = 0 in grind (arith, nat_tests, c);
        cleared_by = let c = o.outside.cleared_by in let o : ℕ = 0 in grind (arith, nat_tests, c);
      };
      backs = record {
        ahead = λ i j h1 h2 h3. let c0 = o.own.suited me in let c1 = o.own.front_back me in let c2 = o.order.head_top target me in
            let c3 = o.order.head_in target in let c4 = o.mode.not_purging g.last_front in let c5 = o.fronts.last_front_in target in
            let c6 = o.backs.known_in i j in let c7 = o.backs.ahead i j in let o : ℕ = 0 in
            grind (arith, nat_tests, c0, c1, c2, c3, c4, c5, c6, c7);
        known_in = λ i j h1 h2 h3. let c0 = o.own.suited me in let c1 = o.own.front_back me in let c2 = o.backs.known_in i j in
            let o : ℕ = 0 in grind (arith, nat_tests, c0, c1, c2);
        known = λ i j h1 h2 h3. let c0 = o.own.suited me in let c1 = o.own.front_back me in let c2 = o.outside.outside me in
            let c3 = o.backs.known_in i j in let c4 = o.backs.known i j in let o : ℕ = 0 in grind (arith, nat_tests, c0, c1, c2, c3, c4);
        skip_roll = λ i j m h1 h2 h3 h4 h5. let c0 = o.outside.outside me in let c1 = o.order.head_top target j in
            let c2 = o.mode.not_purging g.last_front in let c3 = o.fronts.last_front_in target in let c4 = o.backs.skip_roll i j m in
            let c5 = o.backs.known_in i j in let o : ℕ = 0 in grind (arith, nat_tests, c0, c1, c2, c3, c4, c5);
        skip_roll_out = λ i j m h1 h2 h3 h4 h5. let c0 = o.own.suited me in let c1 = o.own.front_back me in
            let c2 = o.mode.not_purging g.last_front in let c3 = o.backs.known_in i j in let o : ℕ = 0 in
            grind (arith, nat_tests, c0, c1, c2, c3);
        skip_back = λ i j m h1 h2 h3 h4 h5 h6. let c0 = o.outside.outside me in let c1 = o.order.head_top target j in
            let c2 = o.mode.not_purging g.last_front in let c3 = o.fronts.last_front_in target in let c4 = o.backs.skip_back i j m in
            let c5 = o.backs.known_in i j in let o : ℕ = 0 in grind (arith, nat_tests, c0, c1, c2, c3, c4, c5);
        skip_stale = λ i j m h1 h2 h3 h4 h5 h6. let c0 = o.outside.outside me in let c1 = o.order.head_top target j in
            let c2 = o.mode.not_purging g.last_front in let c3 = o.fronts.last_front_in target in let c4 = o.backs.skip_back i j m in
            let c5 = o.backs.known_in i j in let c6 = o.backs.known i j in let o : ℕ = 0 in
            grind (arith, nat_tests, c0, c1, c2, c3, c4, c5, c6);
        skip_stale_out = λ i j m h1 h2 h3 h4 h5 h6. let c0 = o.own.suited me in let c1 = o.own.front_back me in
            let c2 = o.mode.not_purging g.last_front in let c3 = o.backs.known_in i j in let o : ℕ = 0 in
            grind (arith, nat_tests, c0, c1, c2, c3);
        parting = λ i j h1 h2. let c0 = o.own.suited me in let c1 = o.own.front_back me in let c2 = o.backs.parting i j in let o : ℕ = 0 in
            grind (arith, nat_tests, c0, c1, c2);
      };
      sees = record {
        none_seen = let c = o.sees.none_seen in let o : ℕ = 0 in grind (arith, nat_tests, c);
        forw_seen = λ i x h1 h2 h3 h4 h5. let c0 = o.sees.forw_seen i x in let c1 = o.order.head_top target i in let o : ℕ = 0 in
            grind (arith, nat_tests, c0, c1);
        back_some = let c = o.sees.back_some in let o : ℕ = 0 in grind (arith, nat_tests, c);
        back_ahead = λ i x h1 h2 h3 h4. let c0 = o.sees.back_seen i in let c1 = o.order.head_top target me in
            let c2 = o.order.head_in target in let c3 = o.mode.not_purging g.last_front in let c4 = o.fronts.last_front_in target in
            let c5 = o.backs.known_in i x in let c6 = o.backs.ahead i x in let o : ℕ = 0 in
            grind (arith, nat_tests, c0, c1, c2, c3, c4, c5, c6);
        back_parting = let c = o.sees.back_parting in let o : ℕ = 0 in grind (arith, nat_tests, c);
        back_seen = let c = o.sees.back_seen in let o : ℕ = 0 in grind (arith, nat_tests, c);
        back_behind = let c = o.sees.back_behind in let o : ℕ = 0 in grind (arith, nat_tests, c);
        back_front = let c = o.sees.back_front in let o : ℕ = 0 in grind (arith, nat_tests, c);
        told_seen = let c = o.sees.told_seen in let o : ℕ = 0 in grind (arith, nat_tests, c);
        told_forw = let c = o.sees.told_forw in let o : ℕ = 0 in grind (arith, nat_tests, c);
        told_some = let c = o.sees.told_some in let o : ℕ = 0 in grind (arith, nat_tests, c);
        told = let c = o.sees.told in let o : ℕ = 0 in grind (arith, nat_tests, c);
        untold = λ i j m h1 h2 h3 h4. let c0 = o.sees.untold in let o : ℕ = 0 in grind (arith, nat_tests, c0);
        unlinked = let c = o.sees.unlinked in let o : ℕ = 0 in grind (arith, nat_tests, c);
      };
      words = let c = o.words in let o : ℕ = 0 in grind (arith, nat_tests, c);
      slots = record {
        memory_out = let c = o.slots.memory_out in let o : ℕ = 0 in grind (arith, nat_tests, c);
        memory_home = let c = o.slots.memory_home in let o : ℕ = 0 in grind (arith, nat_tests, c);
        lends = let c = o.slots.lends in let o : ℕ = 0 in grind (arith, nat_tests, c);
        lends_one = λ i h1. let c0 = o.slots.lends i in let o : ℕ = 0 in grind (arith, nat_tests, c0);
        borrower_has = let c = o.slots.borrower_has in let o : ℕ = 0 in grind (arith, nat_tests, c);
        fetching = λ i h1. let c0 = o.slots.lends i in let o : ℕ = 0 in grind (arith, nat_tests, c0);
        writing = let c = o.slots.writing in let o : ℕ = 0 in grind (arith, nat_tests, c);
        in_hand = let c = o.slots.in_hand in let o : ℕ = 0 in grind (arith, nat_tests, c);
        at_home = let c = o.slots.at_home in let o : ℕ = 0 in grind (arith, nat_tests, c);
        held_out = let c = o.slots.held_out in let o : ℕ = 0 in grind (arith, nat_tests, c);
        held_by = let c = o.slots.held_by in let o : ℕ = 0 in grind (arith, nat_tests, c);
        held_for = let c = o.slots.held_for in let o : ℕ = 0 in grind (arith, nat_tests, c);
        holding = let c = o.slots.holding in let o : ℕ = 0 in grind (arith, nat_tests, c);
        copied_held = let c = o.slots.copied_held in let o : ℕ = 0 in grind (arith, nat_tests, c);
        copied_idle = let c = o.slots.copied_idle in let o : ℕ = 0 in grind (arith, nat_tests, c);
        copied_by = let c = o.slots.copied_by in let o : ℕ = 0 in grind (arith, nat_tests, c);
      };
      mode = record {
        home = let c = o.mode.home in let o : ℕ = 0 in grind (arith, nat_tests, c);
        not_home = let c = o.mode.not_home in let o : ℕ = 0 in grind (arith, nat_tests, c);
        not_dirty = λ i h1 h2 hn. let c0 = o.own.suited me in let c1 = o.mode.not_dirty i in let o : ℕ = 0 in
            grind (arith, nat_tests, c0, c1);
        not_purging = λ i h1 h2 hn. let c0 = o.own.suited me in let c1 = o.mode.not_purging i in let o : ℕ = 0 in
            grind (arith, nat_tests, c0, c1);
        not_copying = let c = o.mode.not_copying in let o : ℕ = 0 in grind (arith, nat_tests, c);
        not_flagged = let c = o.mode.not_flagged in let o : ℕ = 0 in grind (arith, nat_tests, c);
        has_copy = let c = o.mode.has_copy in let o : ℕ = 0 in grind (arith, nat_tests, c);
        has_value = λ i h1 h2 h3. let c0 = o.values.memory line in let c1 = o.mode.has_value i in let o : ℕ = 0 in
            grind (arith, nat_tests, c0, c1);
        gone = let c = o.mode.gone in let o : ℕ = 0 in grind (arith, nat_tests, c);
        gone_flag = let c = o.mode.gone_flag in let o : ℕ = 0 in grind (arith, nat_tests, c);
        gone_queue = let c = o.mode.gone_queue in let o : ℕ = 0 in grind (arith, nat_tests, c);
        gone_copy = let c = o.mode.gone_copy in let o : ℕ = 0 in grind (arith, nat_tests, c);
        last_copy = let c = o.mode.last_copy in let o : ℕ = 0 in grind (arith, nat_tests, c);
        last_value = λ i h1 h2. let c0 = o.mode.last_value in let o : ℕ = 0 in grind (arith, nat_tests, c0);
      };
      values = let c = o.values in let o : ℕ = 0 in grind (arith, nat_tests, c);
    }

pub prepend_valid_listed_keeps_links : (n : ℕ) (s : State) (b : Below n (shape s)) (me : ℕ) (me_below : me < n) (target : ℕ) (line : Line)
    → (pending : s.steps me ≡ Pending.Queueing (Some target))
    → (memory_word_is : s.memory ≡ memory_word MemState.Fresh (Some target))
    → Below n (shape (after_prepend_valid_listed s me target line))
prepend_valid_listed_keeps_links n s b me me_below target line pending memory_word_is =
    let pending : StepFields (s.steps me) (Pending.Queueing (Some target)) = step_fields pending in
    let memory_word_is : MemFields s.memory (memory_word MemState.Fresh (Some target)) = mem_fields memory_word_is in
    grind (arith, nat_tests, b.head, b.forw, b.back, b.kept, b.word_forw, b.seen_forw, b.seen_back)
