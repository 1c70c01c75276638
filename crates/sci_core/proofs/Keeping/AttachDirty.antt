use Rattle.std.proofs.Common.{◌≡◌, ℕ, ◌<◌, true, false, Some, None, arith}
use Rattle.std.proofs.lemmas.Bool.Decides.{nat_tests}
use Rattle.sci_words.specs.declared.tags.Kind.{Kind}
use Rattle.sci_core.specs.declared.lines.Line.{Line}
use Rattle.sci_core.specs.declared.pending.Pending.{Pending}
use Rattle.sci_core.specs.State.{State, update}
use Rattle.sci_core.specs.Shape.{link, shape}
use Rattle.sci_core.specs.Law.{Witness, Law, Below}
use Rattle.sci_core.proofs.Fields.{StepFields, step_fields}

-- The old dirty head becomes the first body entry, held, with its slot in the node's hand.
abbrev pub after_attach_dirty : State → ℕ → ℕ → Line → State
after_attach_dirty s me target line = record s {
  tags = update s.tags target (record { kind = Kind.Valid; held = true; forw = (s.tags target).forw; back = Some me });
  steps = update s.steps me (Pending.Copying target (record { kind = Kind.Valid; held = true; forw = (s.tags target).forw; back = Some me }) line);
  slots = update s.slots target None;
}

pub attach_dirty_keeps_law : (s : State) (g : Witness) (o : Law (shape s) g) (me : ℕ) (target : ℕ) (line : Line)
    → (pending : s.steps me ≡ Pending.InQueue (Some target) true None)
    → (target_dirty : (s.tags target).kind ≡ Kind.Dirty)
    → (target_unheld : (s.tags target).held ≡ false)
    → (target_slot : s.slots target ≡ Some line)
    → Law (shape (after_attach_dirty s me target line)) (record g { last_front = me; copier = update g.copier target me })
attach_dirty_keeps_law s g o me target line pending target_dirty target_unheld target_slot =
    let pending : StepFields (s.steps me) (Pending.InQueue (Some target) true None) = step_fields pending in
    let me_in : 0 < g.rank me = grind (arith, o.outside.may_be me) in
    let me_kind : (s.tags me).kind ≡ Kind.Queued = grind (arith, o.own.suited me) in
    let me_forw : (s.tags me).forw ≡ Some target = grind (arith, o.own.as_kept me) in
    record {
      order = let c = o.order in let o : ℕ = 0 in grind (arith, nat_tests, c);
      fronts = record {
        last_front_in = let c = o.fronts.last_front_in in let o : ℕ = 0 in grind (arith, nat_tests, c);
        front = λ i h1 h2. let c0 = o.own.suited me in let c1 = o.own.as_kept me in let c2 = o.outside.may_be me in
            let c3 = o.order.next_below me target in let c4 = o.fronts.front i in let c5 = o.fronts.body me in let o : ℕ = 0 in
            grind (arith, nat_tests, c0, c1, c2, c3, c4, c5);
        body = λ i h1 h2. let c0 = o.fronts.queue (link (s.tags me).forw) in let c1 = o.own.suited target in let c2 = o.own.as_kept me in
            let c3 = o.order.next_first me target i in let c4 = o.order.apart i target in let c5 = o.fronts.body i in let o : ℕ = 0 in
            grind (arith, nat_tests, c0, c1, c2, c3, c4, c5);
        queue = λ i h1. let c0 = o.order.next_in me (link (s.tags me).forw) in let c1 = o.fronts.body (link (s.tags me).forw) in
            let c2 = o.own.as_kept me in let c3 = o.outside.may_be me in let c4 = o.order.next_below me target in
            let c5 = o.fronts.queue i in let o : ℕ = 0 in grind (arith, nat_tests, c0, c1, c2, c3, c4, c5);
        attached = let c = o.fronts.attached in let o : ℕ = 0 in grind (arith, nat_tests, c);
        leaves = let c = o.fronts.leaves in let o : ℕ = 0 in grind (arith, nat_tests, c);
        purged = λ i h1 h2. let c0 = o.order.next_in me (link (s.tags me).forw) in
            let c1 = o.order.apart (link (s.tags me).forw) g.last_front in let c2 = o.fronts.queue (link (s.tags me).forw) in
            let c3 = o.fronts.body (link (s.tags me).forw) in let c4 = o.own.suited target in let c5 = o.own.as_kept me in
            let c6 = o.outside.may_be me in let c7 = o.fronts.purged i in let o : ℕ = 0 in
            grind (arith, nat_tests, c0, c1, c2, c3, c4, c5, c6, c7);
        purged_next = λ i h1 h2. let c0 = o.order.next_in me (link (s.tags me).forw) in
            let c1 = o.order.apart (link (s.tags me).forw) g.last_front in let c2 = o.fronts.queue (link (s.tags me).forw) in
            let c3 = o.fronts.body (link (s.tags me).forw) in let c4 = o.own.suited target in let c5 = o.own.as_kept me in
            let c6 = o.outside.may_be me in let c7 = o.fronts.purged i in let o : ℕ = 0 in
            grind (arith, nat_tests, c0, c1, c2, c3, c4, c5, c6, c7);
      };
      own = let c = o.own in let o : ℕ = 0 in grind (arith, nat_tests, c);
      outside = let c = o.outside in let o : ℕ = 0 in grind (arith, nat_tests, c);
      backs = record {
        ahead = λ i j h1 h2 h3. let c0 = o.own.as_kept me in let c1 = o.order.next_below j i in let c2 = o.backs.ahead i j in
            let o : ℕ = 0 in grind (arith, nat_tests, c0, c1, c2);
        known_in = λ i j h1 h2 h3. let c0 = o.order.next_in me (link (s.tags me).forw) in
            let c1 = o.order.apart (link (s.tags me).forw) g.last_front in let c2 = o.fronts.queue (link (s.tags me).forw) in
            let c3 = o.fronts.body (link (s.tags me).forw) in let c4 = o.own.suited target in let c5 = o.own.as_kept me in
            let c6 = o.outside.may_be me in let c7 = o.backs.known_in i j in let o : ℕ = 0 in
            grind (arith, nat_tests, c0, c1, c2, c3, c4, c5, c6, c7);
        known = λ i j h1 h2 h3. let c0 = o.order.next_in me (link (s.tags me).forw) in
            let c1 = o.order.apart (link (s.tags me).forw) g.last_front in let c2 = o.fronts.queue (link (s.tags me).forw) in
            let c3 = o.fronts.body (link (s.tags me).forw) in let c4 = o.own.suited target in let c5 = o.own.as_kept me in
            let c6 = o.outside.may_be me in let c7 = o.order.next_below me target in let c8 = o.backs.known i j in let o : ℕ = 0 in
            grind (arith, nat_tests, c0, c1, c2, c3, c4, c5, c6, c7, c8);
        skip_roll = λ i j m h1 h2 h3 h4 h5. let c0 = o.order.next_first me (link (s.tags me).forw) m in
            let c1 = o.order.apart (link (s.tags me).forw) g.last_front in let c2 = o.fronts.queue (link (s.tags me).forw) in
            let c3 = o.own.suited target in let c4 = o.own.as_kept me in let c5 = o.backs.skip_roll i j m in let c6 = o.backs.known i j in
            let o : ℕ = 0 in grind (arith, nat_tests, c0, c1, c2, c3, c4, c5, c6);
        skip_roll_out = λ i j m h1 h2 h3 h4 h5. let c0 = o.order.next_first me (link (s.tags me).forw) m in
            let c1 = o.order.apart (link (s.tags me).forw) g.last_front in let c2 = o.fronts.queue (link (s.tags me).forw) in
            let c3 = o.fronts.body (link (s.tags me).forw) in let c4 = o.own.suited target in let c5 = o.own.as_kept me in
            let c6 = o.backs.known_in i j in let o : ℕ = 0 in grind (arith, nat_tests, c0, c1, c2, c3, c4, c5, c6);
        skip_back = λ i j m h1 h2 h3 h4 h5 h6. let c0 = o.order.next_first me (link (s.tags me).forw) m in
            let c1 = o.order.apart (link (s.tags me).forw) g.last_front in let c2 = o.fronts.queue (link (s.tags me).forw) in
            let c3 = o.fronts.body (link (s.tags me).forw) in let c4 = o.own.suited target in let c5 = o.own.as_kept me in
            let c6 = o.backs.skip_back i j m in let c7 = o.backs.known i j in let o : ℕ = 0 in
            grind (arith, nat_tests, c0, c1, c2, c3, c4, c5, c6, c7);
        skip_stale = λ i j m h1 h2 h3 h4 h5 h6. let c0 = o.order.next_first me (link (s.tags me).forw) m in
            let c1 = o.order.apart (link (s.tags me).forw) g.last_front in let c2 = o.fronts.queue (link (s.tags me).forw) in
            let c3 = o.fronts.body (link (s.tags me).forw) in let c4 = o.own.suited target in let c5 = o.own.as_kept me in
            let c6 = o.backs.skip_back i j m in let c7 = o.backs.known i j in let o : ℕ = 0 in
            grind (arith, nat_tests, c0, c1, c2, c3, c4, c5, c6, c7);
        skip_stale_out = λ i j m h1 h2 h3 h4 h5 h6. let c0 = o.order.next_in me (link (s.tags me).forw) in
            let c1 = o.order.apart (link (s.tags me).forw) g.last_front in let c2 = o.fronts.queue (link (s.tags me).forw) in
            let c3 = o.fronts.body (link (s.tags me).forw) in let c4 = o.own.suited target in let c5 = o.own.as_kept me in
            let c6 = o.backs.known_in i j in let o : ℕ = 0 in grind (arith, nat_tests, c0, c1, c2, c3, c4, c5, c6);
        parting = let c = o.backs.parting in let o : ℕ = 0 in grind (arith, nat_tests, c);
      };
      sees = record {
        none_seen = let c = o.sees.none_seen in let o : ℕ = 0 in grind (arith, nat_tests, c);
        forw_seen = let c = o.sees.forw_seen in let o : ℕ = 0 in grind (arith, nat_tests, c);
        back_some = let c = o.sees.back_some in let o : ℕ = 0 in grind (arith, nat_tests, c);
        back_ahead = let c = o.sees.back_ahead in let o : ℕ = 0 in grind (arith, nat_tests, c);
        back_parting = let c = o.sees.back_parting in let o : ℕ = 0 in grind (arith, nat_tests, c);
        back_seen = λ i h1 h2 h3. let c0 = o.order.next_in me (link (s.tags me).forw) in
            let c1 = o.order.apart (link (s.tags me).forw) g.last_front in let c2 = o.fronts.queue (link (s.tags me).forw) in
            let c3 = o.fronts.body (link (s.tags me).forw) in let c4 = o.sees.back_seen i in let c5 = o.own.suited target in
            let c6 = o.own.as_kept me in let c7 = o.outside.may_be me in let o : ℕ = 0 in
            grind (arith, nat_tests, c0, c1, c2, c3, c4, c5, c6, c7);
        back_behind = λ i h1 h2 h3. let c0 = o.order.next_in me (link (s.tags me).forw) in
            let c1 = o.order.apart (link (s.tags me).forw) g.last_front in let c2 = o.fronts.queue (link (s.tags me).forw) in
            let c3 = o.fronts.body (link (s.tags me).forw) in let c4 = o.sees.back_seen i in let c5 = o.own.suited target in
            let c6 = o.own.as_kept me in let c7 = o.outside.may_be me in let o : ℕ = 0 in
            grind (arith, nat_tests, c0, c1, c2, c3, c4, c5, c6, c7);
        back_front = λ i h1 h2 h3. let c0 = o.order.next_in me (link (s.tags me).forw) in
            let c1 = o.order.apart (link (s.tags me).forw) g.last_front in let c2 = o.fronts.queue (link (s.tags me).forw) in
            let c3 = o.fronts.body (link (s.tags me).forw) in let c4 = o.sees.back_seen i in let c5 = o.own.suited target in
            let c6 = o.own.as_kept me in let c7 = o.outside.may_be me in let o : ℕ = 0 in
            grind (arith, nat_tests, c0, c1, c2, c3, c4, c5, c6, c7);
        told_seen = let c = o.sees.told_seen in let o : ℕ = 0 in grind (arith, nat_tests, c);
        told_forw = let c = o.sees.told_forw in let o : ℕ = 0 in grind (arith, nat_tests, c);
        told_some = let c = o.sees.told_some in let o : ℕ = 0 in grind (arith, nat_tests, c);
        told = let c = o.sees.told in let o : ℕ = 0 in grind (arith, nat_tests, c);
        untold = λ i j m h1 h2 h3 h4. let c0 = o.sees.untold i j m in let c1 = o.own.as_kept me in let c2 = o.outside.may_be me in
            let c3 = o.outside.may_be i in let c4 = o.order.next_first m j i in let c5 = o.order.next_first i j m in
            let c6 = o.order.next_below m j in let c7 = o.order.next_below i j in let c8 = o.order.apart me i in let o : ℕ = 0 in
            grind (arith, nat_tests, c0, c1, c2, c3, c4, c5, c6, c7, c8);
        unlinked = λ p x h1 h2 h3 h4. let c0 = o.order.next_in me (link (s.tags me).forw) in
            let c1 = o.order.apart (link (s.tags me).forw) g.last_front in let c2 = o.fronts.queue (link (s.tags me).forw) in
            let c3 = o.fronts.body (link (s.tags me).forw) in let c4 = o.own.suited target in let c5 = o.own.suited p in
            let c6 = o.own.as_kept me in let c7 = o.outside.may_be me in let c8 = o.outside.may_be p in
            let c9 = o.order.apart g.last_front p in let c10 = o.fronts.queue p in let c11 = o.fronts.body p in let o : ℕ = 0 in
            grind (arith, nat_tests, c0, c1, c2, c3, c4, c5, c6, c7, c8, c9, c10, c11);
      };
      words = record {
        victim = let c = o.words.victim in let o : ℕ = 0 in grind (arith, nat_tests, c);
        victim_forw = let c = o.words.victim_forw in let o : ℕ = 0 in grind (arith, nat_tests, c);
        victim_back = λ i x h1 h2. let c0 = o.words.victim_back i x in let c1 = o.words.victim i target in let o : ℕ = 0 in
            grind (arith, nat_tests, c0, c1);
        victim_kind = let c = o.words.victim_kind in let o : ℕ = 0 in grind (arith, nat_tests, c);
        victim_held = let c = o.words.victim_held in let o : ℕ = 0 in grind (arith, nat_tests, c);
        copied = let c = o.words.copied in let o : ℕ = 0 in grind (arith, nat_tests, c);
        copied_forw = let c = o.words.copied_forw in let o : ℕ = 0 in grind (arith, nat_tests, c);
        copied_back = λ i x h1 h2. let c0 = o.words.copied_back i x in let c1 = o.words.copied i target in let o : ℕ = 0 in
            grind (arith, nat_tests, c0, c1);
        copied_kind = let c = o.words.copied_kind in let o : ℕ = 0 in grind (arith, nat_tests, c);
        copied_held = let c = o.words.copied_held in let o : ℕ = 0 in grind (arith, nat_tests, c);
        copied_word_back = let c = o.words.copied_word_back in let o : ℕ = 0 in grind (arith, nat_tests, c);
        held_kind = λ i h1. let c0 = o.words.held_kind i in let c1 = o.slots.holding target in let o : ℕ = 0 in
            grind (arith, nat_tests, c0, c1);
        held_forw = let c = o.words.held_forw in let o : ℕ = 0 in grind (arith, nat_tests, c);
        held_back = λ i h1. let c0 = o.words.held_back i in let c1 = o.slots.holding target in let o : ℕ = 0 in
            grind (arith, nat_tests, c0, c1);
      };
      slots = record {
        memory_out = let c = o.slots.memory_out in let o : ℕ = 0 in grind (arith, nat_tests, c);
        memory_home = let c = o.slots.memory_home in let o : ℕ = 0 in grind (arith, nat_tests, c);
        lends = let c = o.slots.lends in let o : ℕ = 0 in grind (arith, nat_tests, c);
        lends_one = let c = o.slots.lends_one in let o : ℕ = 0 in grind (arith, nat_tests, c);
        borrower_has = let c = o.slots.borrower_has in let o : ℕ = 0 in grind (arith, nat_tests, c);
        fetching = let c = o.slots.fetching in let o : ℕ = 0 in grind (arith, nat_tests, c);
        writing = let c = o.slots.writing in let o : ℕ = 0 in grind (arith, nat_tests, c);
        in_hand = let c = o.slots.in_hand in let o : ℕ = 0 in grind (arith, nat_tests, c);
        at_home = let c = o.slots.at_home in let o : ℕ = 0 in grind (arith, nat_tests, c);
        held_out = let c = o.slots.held_out in let o : ℕ = 0 in grind (arith, nat_tests, c);
        held_by = let c = o.slots.held_by in let o : ℕ = 0 in grind (arith, nat_tests, c);
        held_for = let c = o.slots.held_for in let o : ℕ = 0 in grind (arith, nat_tests, c);
        holding = let c = o.slots.holding in let o : ℕ = 0 in grind (arith, nat_tests, c);
        copied_held = let c = o.slots.copied_held in let o : ℕ = 0 in grind (arith, nat_tests, c);
        copied_idle = λ i x h1 h2. let c0 = o.slots.holding target in let c1 = o.slots.copied_idle i x in let c2 = o.own.suited target in
            let o : ℕ = 0 in grind (arith, nat_tests, c0, c1, c2);
        copied_by = λ i x h1 h2. let c0 = o.words.copied i target in let c1 = o.slots.copied_by i x in let o : ℕ = 0 in
            grind (arith, nat_tests, c0, c1);
      };
      mode = record {
        home = let c = o.mode.home in let o : ℕ = 0 in grind (arith, nat_tests, c);
        not_home = let c = o.mode.not_home in let o : ℕ = 0 in grind (arith, nat_tests, c);
        not_dirty = let c = o.mode.not_dirty in let o : ℕ = 0 in grind (arith, nat_tests, c);
        not_purging = let c = o.mode.not_purging in let o : ℕ = 0 in grind (arith, nat_tests, c);
        not_copying = λ i h1 h2 hn. let c0 = o.outside.may_be me in let c1 = o.mode.not_flagged me in let o : ℕ = 0 in
            grind (arith, nat_tests, c0, c1);
        not_flagged = let c = o.mode.not_flagged in let o : ℕ = 0 in grind (arith, nat_tests, c);
        has_copy = let c = o.mode.has_copy in let o : ℕ = 0 in grind (arith, nat_tests, c);
        has_value = let c = o.mode.has_value in let o : ℕ = 0 in grind (arith, nat_tests, c);
        gone = let c = o.mode.gone in let o : ℕ = 0 in grind (arith, nat_tests, c);
        gone_flag = λ i h1 h2. let c0 = o.own.suited me in let c1 = o.outside.may_be me in let c2 = o.mode.gone_flag i in
            let c3 = o.fronts.body me in let o : ℕ = 0 in grind (arith, nat_tests, c0, c1, c2, c3);
        gone_queue = λ i h1 h2 h3. let c0 = o.own.as_kept me in let c1 = o.outside.may_be me in let c2 = o.order.next_in me target in
            let c3 = o.order.next_below me target in let c4 = o.mode.gone_queue i in let c5 = o.fronts.body target in let o : ℕ = 0 in
            grind (arith, nat_tests, c0, c1, c2, c3, c4, c5);
        gone_copy = λ i h1 h2 h3. let c0 = o.own.suited me in let c1 = o.outside.may_be me in let c2 = o.mode.gone_copy i in
            let c3 = o.fronts.body me in let o : ℕ = 0 in grind (arith, nat_tests, c0, c1, c2, c3);
        last_copy = let c = o.mode.last_copy in let o : ℕ = 0 in grind (arith, nat_tests, c);
        last_value = λ i h1 h2. let c0 = o.mode.last_value in let o : ℕ = 0 in grind (arith, nat_tests, c0);
      };
      values = let c = o.values in let o : ℕ = 0 in grind (arith, nat_tests, c);
    }

pub attach_dirty_keeps_links : (n : ℕ) (s : State) (b : Below n (shape s)) (me : ℕ) (me_below : me < n) (target : ℕ) (line : Line)
    → (pending : s.steps me ≡ Pending.InQueue (Some target) true None)
    → Below n (shape (after_attach_dirty s me target line))
attach_dirty_keeps_links n s b me me_below target line pending =
    let pending : StepFields (s.steps me) (Pending.InQueue (Some target) true None) = step_fields pending in
    grind (arith, nat_tests, b.head, b.forw, b.back, b.kept, b.word_forw, b.seen_forw, b.seen_back)
