use Rattle.std.proofs.Common.{◌≡◌, ℕ, ◌<◌, false, Some, arith}
use Rattle.std.proofs.lemmas.Bool.Decides.{nat_tests}
use Rattle.sci_words.specs.declared.tags.Kind.{Kind}
use Rattle.sci_core.specs.declared.lines.Line.{Line}
use Rattle.sci_core.specs.declared.pending.Pending.{Pending}
use Rattle.sci_core.specs.State.{State, update, word}
use Rattle.sci_core.specs.Shape.{link, shape}
use Rattle.sci_core.specs.Law.{Witness, Law, Below}
use Rattle.sci_core.proofs.Fields.{StepFields, step_fields}

-- The old fresh head becomes the first body entry, behind the node.
abbrev pub after_attach_fresh : State → ℕ → ℕ → Line → State
after_attach_fresh s me target line = record s {
  tags = update s.tags target (word Kind.Valid (s.tags target).forw (Some me));
  steps = update s.steps me (Pending.Ready (Some target) false line);
}

pub attach_fresh_keeps_law : (s : State) (g : Witness) (o : Law (shape s) g) (me : ℕ) (target : ℕ) (line : Line)
    → (pending : s.steps me ≡ Pending.InQueue (Some target) false (Some line))
    → (target_fresh : (s.tags target).kind ≡ Kind.Fresh)
    → (target_unheld : (s.tags target).held ≡ false)
    → Law (shape (after_attach_fresh s me target line)) (record g { last_front = me })
attach_fresh_keeps_law s g o me target line pending target_fresh target_unheld =
    let pending : StepFields (s.steps me) (Pending.InQueue (Some target) false (Some line)) = step_fields pending in
    let me_in : 0 < g.rank me = grind (arith, o.outside.may_be me) in
    let me_kind : (s.tags me).kind ≡ Kind.Queued = grind (arith, o.own.suited me) in
    let me_forw : (s.tags me).forw ≡ Some target = grind (arith, o.own.as_kept me) in
    record {
      order = let c = o.order in let o : ℕ = 0 in grind (arith, nat_tests, c);
      fronts = record {
        last_front_in = let c = o.fronts.last_front_in in let o : ℕ = 0 in grind (arith, nat_tests, c);
        front = λ i h1 h2. let c0 = o.own.suited me in let c1 = o.own.as_kept me in let c2 = o.outside.may_be me in
            let c3 = o.order.next_below me target in let c4 = o.fronts.front i in let c5 = o.fronts.body me in let o : ℕ = 0 in
            grind (arith, nat_tests, c0, c1, c2, c3, c4, c5);
        body = λ i h1 h2. let c0 = o.fronts.queue (link (s.tags me).forw) in let c1 = o.own.suited target in let c2 = o.own.as_kept me in
            let c3 = o.order.next_first me target i in let c4 = o.order.apart i target in let c5 = o.fronts.body i in let o : ℕ = 0 in
            grind (arith, nat_tests, c0, c1, c2, c3, c4, c5);
        queue = λ i h1. let c0 = o.order.next_in me (link (s.tags me).forw) in let c1 = o.fronts.body (link (s.tags me).forw) in
            let c2 = o.own.as_kept me in let c3 = o.outside.may_be me in let c4 = o.order.next_below me target in
            let c5 = o.fronts.queue i in let o : ℕ = 0 in grind (arith, nat_tests, c0, c1, c2, c3, c4, c5);
        attached = let c = o.fronts.attached in let o : ℕ = 0 in grind (arith, nat_tests, c);
        leaves = let c = o.fronts.leaves in let o : ℕ = 0 in grind (arith, nat_tests, c);
        purged = λ i h1 h2. let c0 = o.order.next_in me (link (s.tags me).forw) in
            let c1 = o.order.apart (link (s.tags me).forw) g.last_front in let c2 = o.fronts.queue (link (s.tags me).forw) in
            let c3 = o.fronts.body (link (s.tags me).forw) in let c4 = o.own.suited target in let c5 = o.own.as_kept me in
            let c6 = o.outside.may_be me in let c7 = o.fronts.purged i in let o : ℕ = 0 in
            grind (arith, nat_tests, c0, c1, c2, c3, c4, c5, c6, c7);
        purged_next = λ i h1 h2. let c0 = o.order.next_in me (link (s.tags me).forw) in
            let c1 = o.order.apart (link (s.tags me).forw) g.last_front in let c2 = o.fronts.queue (link (s.tags me).forw) in
            let c3 = o.fronts.body (link (s.tags me).forw) in let c4 = o.own.suited target in let c5 = o.own.as_kept me in
            let c6 = o.outside.may_be me in let c7 = o.fronts.purged i in let o : ℕ = 0 in
            grind (arith, nat_tests, c0, c1, c2, c3, c4, c5, c6, c7);
      };
      own = let c = o.own in let o : ℕ = 0 in grind (arith, nat_tests, c);
      outside = let c = o.outside in let o : ℕ = 0 in grind (arith, nat_tests, c);
      backs = record {
        ahead = λ i j h1 h2 h3. let c0 = o.own.as_kept me in let c1 = o.order.next_below j i in let c2 = o.backs.ahead i j in
            let o : ℕ = 0 in grind (arith, nat_tests, c0, c1, c2);
        known_in = λ i j h1 h2 h3. let c0 = o.order.next_in me (link (s.tags me).forw) in
            let c1 = o.order.apart (link (s.tags me).forw) g.last_front in let c2 = o.fronts.queue (link (s.tags me).forw) in
            let c3 = o.fronts.body (link (s.tags me).forw) in let c4 = o.own.suited target in let c5 = o.own.as_kept me in
            let c6 = o.outside.may_be me in let c7 = o.backs.known_in i j in let o : ℕ = 0 in
            grind (arith, nat_tests, c0, c1, c2, c3, c4, c5, c6, c7);
        known = λ i j h1 h2 h3. let c0 = o.order.next_in me (link (s.tags me).forw) in
            let c1 = o.order.apart (link (s.tags me).forw) g.last_front in let c2 = o.fronts.queue (link (s.tags me).forw) in
            let c3 = o.fronts.body (link (s.tags me).forw) in let c4 = o.own.suited target in let c5 = o.own.as_kept me in
            let c6 = o.outside.may_be me in let c7 = o.order.next_below me target in let c8 = o.backs.known i j in let o : ℕ = 0 in
            grind (arith, nat_tests, c0, c1, c2, c3, c4, c5, c6, c7, c8);
        skip_roll = λ i j m h1 h2 h3 h4 h5. let c0 = o.order.apart (link (s.tags me).forw) g.last_front in
            let c1 = o.fronts.queue (link (s.tags me).forw) in let c2 = o.own.suited target in let c3 = o.own.as_kept me in
            let c4 = o.order.next_first me target m in let c5 = o.backs.skip_roll i j m in let c6 = o.backs.known i j in let o : ℕ = 0 in
            grind (arith, nat_tests, c0, c1, c2, c3, c4, c5, c6);
        skip_roll_out = λ i j m h1 h2 h3 h4 h5. let c0 = o.order.apart (link (s.tags me).forw) g.last_front in
            let c1 = o.fronts.queue (link (s.tags me).forw) in let c2 = o.fronts.body (link (s.tags me).forw) in
            let c3 = o.own.suited target in let c4 = o.own.as_kept me in let c5 = o.order.next_first me target m in
            let c6 = o.backs.known_in i j in let o : ℕ = 0 in grind (arith, nat_tests, c0, c1, c2, c3, c4, c5, c6);
        skip_back = λ i j m h1 h2 h3 h4 h5 h6. let c0 = o.order.apart (link (s.tags me).forw) g.last_front in
            let c1 = o.fronts.queue (link (s.tags me).forw) in let c2 = o.own.suited target in let c3 = o.own.as_kept me in
            let c4 = o.order.next_first me target m in let c5 = o.fronts.body target in let c6 = o.backs.skip_back i j m in
            let c7 = o.backs.known i j in let o : ℕ = 0 in grind (arith, nat_tests, c0, c1, c2, c3, c4, c5, c6, c7);
        skip_stale = λ i j m h1 h2 h3 h4 h5 h6. let c0 = o.order.next_in me (link (s.tags me).forw) in
            let c1 = o.order.apart (link (s.tags me).forw) g.last_front in let c2 = o.fronts.queue (link (s.tags me).forw) in
            let c3 = o.fronts.body (link (s.tags me).forw) in let c4 = o.own.suited target in let c5 = o.own.as_kept me in
            let c6 = o.order.next_first me i m in let c7 = o.backs.skip_back i j m in let c8 = o.backs.known i j in let o : ℕ = 0 in
            grind (arith, nat_tests, c0, c1, c2, c3, c4, c5, c6, c7, c8);
        skip_stale_out = λ i j m h1 h2 h3 h4 h5 h6. let c0 = o.order.apart (link (s.tags me).forw) g.last_front in
            let c1 = o.fronts.queue (link (s.tags me).forw) in let c2 = o.fronts.body (link (s.tags me).forw) in
            let c3 = o.own.suited target in let c4 = o.own.as_kept me in let c5 = o.order.next_first me target m in
            let c6 = o.backs.known_in i j in let o : ℕ = 0 in grind (arith, nat_tests, c0, c1, c2, c3, c4, c5, c6);
        parting = let c = o.backs.parting in let o : ℕ = 0 in grind (arith, nat_tests, c);
      };
      sees = record {
        none_seen = let c = o.sees.none_seen in let o : ℕ = 0 in grind (arith, nat_tests, c);
        forw_seen = let c = o.sees.forw_seen in let o : ℕ = 0 in grind (arith, nat_tests, c);
        back_some = let c = o.sees.back_some in let o : ℕ = 0 in grind (arith, nat_tests, c);
        back_ahead = let c = o.sees.back_ahead in let o : ℕ = 0 in grind (arith, nat_tests, c);
        back_parting = let c = o.sees.back_parting in let o : ℕ = 0 in grind (arith, nat_tests, c);
        back_seen = λ i h1 h2 h3. let c0 = o.order.next_in me (link (s.tags me).forw) in
            let c1 = o.order.apart (link (s.tags me).forw) g.last_front in let c2 = o.fronts.queue (link (s.tags me).forw) in
            let c3 = o.fronts.body (link (s.tags me).forw) in let c4 = o.sees.back_seen i in let c5 = o.own.suited target in
            let c6 = o.own.as_kept me in let c7 = o.outside.may_be me in let o : ℕ = 0 in
            grind (arith, nat_tests, c0, c1, c2, c3, c4, c5, c6, c7);
        back_behind = λ i h1 h2 h3. let c0 = o.order.next_in me (link (s.tags me).forw) in
            let c1 = o.order.apart (link (s.tags me).forw) g.last_front in let c2 = o.fronts.queue (link (s.tags me).forw) in
            let c3 = o.fronts.body (link (s.tags me).forw) in let c4 = o.sees.back_seen i in let c5 = o.own.suited target in
            let c6 = o.own.as_kept me in let c7 = o.outside.may_be me in let o : ℕ = 0 in
            grind (arith, nat_tests, c0, c1, c2, c3, c4, c5, c6, c7);
        back_front = λ i h1 h2 h3. let c0 = o.order.next_in me (link (s.tags me).forw) in
            let c1 = o.order.apart (link (s.tags me).forw) g.last_front in let c2 = o.fronts.queue (link (s.tags me).forw) in
            let c3 = o.fronts.body (link (s.tags me).forw) in let c4 = o.sees.back_seen i in let c5 = o.own.suited target in
            let c6 = o.own.as_kept me in let c7 = o.outside.may_be me in let o : ℕ = 0 in
            grind (arith, nat_tests, c0, c1, c2, c3, c4, c5, c6, c7);
        told_seen = let c = o.sees.told_seen in let o : ℕ = 0 in grind (arith, nat_tests, c);
        told_forw = let c = o.sees.told_forw in let o : ℕ = 0 in grind (arith, nat_tests, c);
        told_some = let c = o.sees.told_some in let o : ℕ = 0 in grind (arith, nat_tests, c);
        told = let c = o.sees.told in let o : ℕ = 0 in grind (arith, nat_tests, c);
        untold = λ i j m h1 h2 h3 h4. let c0 = o.sees.untold i j m in let c1 = o.own.as_kept me in let c2 = o.outside.may_be me in
            let c3 = o.outside.may_be i in let c4 = o.order.next_first m j i in let c5 = o.order.next_first i j m in
            let c6 = o.order.next_below m j in let c7 = o.order.next_below i j in let c8 = o.order.apart me i in let o : ℕ = 0 in
            grind (arith, nat_tests, c0, c1, c2, c3, c4, c5, c6, c7, c8);
        unlinked = λ p x h1 h2 h3 h4. let c0 = o.order.next_in me (link (s.tags me).forw) in
            let c1 = o.order.apart (link (s.tags me).forw) g.last_front in let c2 = o.fronts.queue (link (s.tags me).forw) in
            let c3 = o.fronts.body (link (s.tags me).forw) in let c4 = o.own.suited target in let c5 = o.own.suited p in
            let c6 = o.own.as_kept me in let c7 = o.outside.may_be me in let c8 = o.outside.may_be p in
            let c9 = o.order.apart p g.last_front in let c10 = o.fronts.queue p in let c11 = o.fronts.body p in let o : ℕ = 0 in
            grind (arith, nat_tests, c0, c1, c2, c3, c4, c5, c6, c7, c8, c9, c10, c11);
      };
      words = record {
        victim = let c = o.words.victim in let o : ℕ = 0 in grind (arith, nat_tests, c);
        victim_forw = let c = o.words.victim_forw in let o : ℕ = 0 in grind (arith, nat_tests, c);
        victim_back = λ i x h1 h2. let c0 = o.words.victim_back i x in let c1 = o.words.victim i x in let o : ℕ = 0 in
            grind (arith, nat_tests, c0, c1);
        victim_kind = let c = o.words.victim_kind in let o : ℕ = 0 in grind (arith, nat_tests, c);
        victim_held = let c = o.words.victim_held in let o : ℕ = 0 in grind (arith, nat_tests, c);
        copied = let c = o.words.copied in let o : ℕ = 0 in grind (arith, nat_tests, c);
        copied_forw = let c = o.words.copied_forw in let o : ℕ = 0 in grind (arith, nat_tests, c);
        copied_back = λ i x h1 h2. let c0 = o.words.copied_back i x in let c1 = o.words.copied i target in let o : ℕ = 0 in
            grind (arith, nat_tests, c0, c1);
        copied_kind = let c = o.words.copied_kind in let o : ℕ = 0 in grind (arith, nat_tests, c);
        copied_held = let c = o.words.copied_held in let o : ℕ = 0 in grind (arith, nat_tests, c);
        copied_word_back = let c = o.words.copied_word_back in let o : ℕ = 0 in grind (arith, nat_tests, c);
        held_kind = λ i h1. let c0 = o.words.held_kind i in let c1 = o.slots.holding target in let o : ℕ = 0 in
            grind (arith, nat_tests, c0, c1);
        held_forw = let c = o.words.held_forw in let o : ℕ = 0 in grind (arith, nat_tests, c);
        held_back = λ i h1. let c0 = o.words.held_back i in let c1 = o.slots.holding target in let o : ℕ = 0 in
            grind (arith, nat_tests, c0, c1);
      };
      slots = record {
        memory_out = let c = o.slots.memory_out in let o : ℕ = 0 in grind (arith, nat_tests, c);
        memory_home = let c = o.slots.memory_home in let o : ℕ = 0 in grind (arith, nat_tests, c);
        lends = let c = o.slots.lends in let o : ℕ = 0 in grind (arith, nat_tests, c);
        lends_one = let c = o.slots.lends_one in let o : ℕ = 0 in grind (arith, nat_tests, c);
        borrower_has = let c = o.slots.borrower_has in let o : ℕ = 0 in grind (arith, nat_tests, c);
        fetching = let c = o.slots.fetching in let o : ℕ = 0 in grind (arith, nat_tests, c);
        writing = let c = o.slots.writing in let o : ℕ = 0 in grind (arith, nat_tests, c);
        in_hand = let c = o.slots.in_hand in let o : ℕ = 0 in grind (arith, nat_tests, c);
        at_home = let c = o.slots.at_home in let o : ℕ = 0 in grind (arith, nat_tests, c);
        held_out = let c = o.slots.held_out in let o : ℕ = 0 in grind (arith, nat_tests, c);
        held_by = let c = o.slots.held_by in let o : ℕ = 0 in grind (arith, nat_tests, c);
        held_for = let c = o.slots.held_for in let o : ℕ = 0 in grind (arith, nat_tests, c);
        holding = let c = o.slots.holding in let o : ℕ = 0 in grind (arith, nat_tests, c);
        copied_held = let c = o.slots.copied_held in let o : ℕ = 0 in grind (arith, nat_tests, c);
        copied_idle = let c = o.slots.copied_idle in let o : ℕ = 0 in grind (arith, nat_tests, c);
        copied_by = let c = o.slots.copied_by in let o : ℕ = 0 in grind (arith, nat_tests, c);
      };
      mode = record {
        home = let c = o.mode.home in let o : ℕ = 0 in grind (arith, nat_tests, c);
        not_home = let c = o.mode.not_home in let o : ℕ = 0 in grind (arith, nat_tests, c);
        not_dirty = let c = o.mode.not_dirty in let o : ℕ = 0 in grind (arith, nat_tests, c);
        not_purging = let c = o.mode.not_purging in let o : ℕ = 0 in grind (arith, nat_tests, c);
        not_copying = let c = o.mode.not_copying in let o : ℕ = 0 in grind (arith, nat_tests, c);
        not_flagged = let c = o.mode.not_flagged in let o : ℕ = 0 in grind (arith, nat_tests, c);
        has_copy = let c = o.mode.has_copy in let o : ℕ = 0 in grind (arith, nat_tests, c);
        has_value = let c = o.mode.has_value in let o : ℕ = 0 in grind (arith, nat_tests, c);
        gone = λ h1. let c0 = o.own.suited me in let c1 = o.own.as_kept me in let c2 = o.outside.may_be me in
            let c3 = o.order.next_in me target in let c4 = o.order.next_below g.last_front target in
            let c5 = o.order.apart g.last_front me in let c6 = o.mode.gone_flag me in let c7 = o.fronts.body target in
            let c8 = o.fronts.body me in let o : ℕ = 0 in grind (arith, nat_tests, c0, c1, c2, c3, c4, c5, c6, c7, c8);
        gone_flag = λ i h1 h2. let c0 = o.own.suited me in let c1 = o.own.as_kept me in let c2 = o.outside.may_be me in
            let c3 = o.order.next_in me target in let c4 = o.order.next_below g.last_front target in
            let c5 = o.order.apart g.last_front me in let c6 = o.mode.gone_flag me in let c7 = o.fronts.body target in
            let c8 = o.fronts.body me in let o : ℕ = 0 in grind (arith, nat_tests, c0, c1, c2, c3, c4, c5, c6, c7, c8);
        gone_queue = λ i h1 h2 h3. let c0 = o.own.suited me in let c1 = o.own.as_kept me in let c2 = o.outside.may_be me in
            let c3 = o.order.next_in me target in let c4 = o.order.next_below g.last_front target in
            let c5 = o.order.apart g.last_front me in let c6 = o.mode.gone_flag me in let c7 = o.fronts.body target in
            let c8 = o.fronts.body me in let o : ℕ = 0 in grind (arith, nat_tests, c0, c1, c2, c3, c4, c5, c6, c7, c8);
        gone_copy = λ i h1 h2 h3. let c0 = o.own.suited me in let c1 = o.outside.may_be me in let c2 = o.mode.gone_copy i in
            let c3 = o.fronts.body me in let o : ℕ = 0 in grind (arith, nat_tests, c0, c1, c2, c3);
        last_copy = let c = o.mode.last_copy in let o : ℕ = 0 in grind (arith, nat_tests, c);
        last_value = λ i h1 h2. let c0 = o.mode.last_value in let o : ℕ = 0 in grind (arith, nat_tests, c0);
      };
      values = record {
        memory = let c = o.values.memory in let o : ℕ = 0 in grind (arith, nat_tests, c);
        lent_line = let c = o.values.lent_line in let o : ℕ = 0 in grind (arith, nat_tests, c);
        sharer = let c = o.values.sharer in let o : ℕ = 0 in grind (arith, nat_tests, c);
        hand = let c = o.values.hand in let o : ℕ = 0 in grind (arith, nat_tests, c);
        copying = let c = o.values.copying in let o : ℕ = 0 in grind (arith, nat_tests, c);
        leaving = let c = o.values.leaving in let o : ℕ = 0 in grind (arith, nat_tests, c);
        ready = λ i h1. let c0 = o.values.ready i in let c1 = o.own.as_kept me in let c2 = o.outside.may_be me in
            let c3 = o.order.next_in me target in let c4 = o.order.next_below me target in let c5 = o.order.empty me in
            let c6 = o.mode.home in let c7 = o.mode.has_value me in let c8 = o.mode.gone_flag me in let c9 = o.fronts.body target in
            let o : ℕ = 0 in grind (arith, nat_tests, c0, c1, c2, c3, c4, c5, c6, c7, c8, c9);
      };
    }

pub attach_fresh_keeps_links : (n : ℕ) (s : State) (b : Below n (shape s)) (me : ℕ) (me_below : me < n) (target : ℕ) (line : Line)
    → (pending : s.steps me ≡ Pending.InQueue (Some target) false (Some line))
    → Below n (shape (after_attach_fresh s me target line))
attach_fresh_keeps_links n s b me me_below target line pending =
    let pending : StepFields (s.steps me) (Pending.InQueue (Some target) false (Some line)) = step_fields pending in
    grind (arith, nat_tests, b.head, b.forw, b.back, b.kept, b.word_forw, b.seen_forw, b.seen_back)
