use Rattle.std.proofs.Common.{◌≡◌, ℕ, ◌<◌, Bool, false, cond, Some, None, arith}
use Rattle.std.proofs.lemmas.Bool.Decides.{nat_tests}
use Rattle.sci_words.specs.declared.tags.Kind.{Kind}
use Rattle.sci_core.specs.declared.lines.Line.{Line}
use Rattle.sci_core.specs.declared.pending.Pending.{Pending}
use Rattle.sci_core.specs.State.{State, update, word}
use Rattle.sci_core.specs.Shape.{shape}
use Rattle.sci_core.specs.Law.{Witness, Law, Below}
use Rattle.sci_core.proofs.Fields.{StepFields, step_fields}

-- The node's successor becomes a front too, as fresh or dirty as the node was.
abbrev pub after_promote : State → ℕ → ℕ → Bool → Line → State
after_promote s me target dirty line = record s {
  tags = update s.tags target (word (cond dirty Kind.Dirty Kind.Fresh) (s.tags target).forw None);
  steps = update s.steps me (Pending.Promoted dirty line target);
}

pub promote_keeps_law : (s : State) (g : Witness) (o : Law (shape s) g) (me : ℕ) (target : ℕ) (dirty : Bool) (line : Line)
    → (pending : s.steps me ≡ Pending.Leaving dirty line (Some (Some target)))
    → (target_valid : (s.tags target).kind ≡ Kind.Valid)
    → (target_back : (s.tags target).back ≡ Some me)
    → (target_unheld : (s.tags target).held ≡ false)
    → Law (shape (after_promote s me target dirty line)) (record g { last_front = target })
promote_keeps_law s g o me target dirty line pending target_valid target_back target_unheld =
    let pending : StepFields (s.steps me) (Pending.Leaving dirty line (Some (Some target))) = step_fields pending in
    let me_in : 0 < g.rank me = grind (arith, o.outside.may_be me) in
    let me_kind : (s.tags me).kind ≡ Kind.Leaving = grind (arith, o.own.suited me) in
    let target_in : 0 < g.rank target = grind (arith, o.outside.may_be target, o.own.suited target) in
    let target_behind : g.rank target < g.rank me = grind (arith, o.backs.ahead target me) in
    let target_next : (s.tags me).forw ≡ Some target = grind (arith, o.sees.forw_seen me target) in
    record {
      order = let c = o.order in let o : ℕ = 0 in grind (arith, nat_tests, c);
      fronts = record {
        last_front_in = let c = o.fronts.last_front_in in let o : ℕ = 0 in grind (arith, nat_tests, c);
        front = λ i h1 h2. let c0 = o.sees.forw_seen g.last_front target in let c1 = o.own.suited target in let c2 = o.own.suited me in
            let c3 = o.outside.may_be target in let c4 = o.outside.may_be me in let c5 = o.order.next_first g.last_front target i in
            let c6 = o.order.apart me g.last_front in let c7 = o.order.apart i target in let c8 = o.fronts.queue me in
            let c9 = o.fronts.front i in let c10 = o.fronts.body me in let o : ℕ = 0 in
            grind (arith, nat_tests, c0, c1, c2, c3, c4, c5, c6, c7, c8, c9, c10);
        body = λ i h1 h2. let c0 = o.fronts.front target in let c1 = o.fronts.body i in let o : ℕ = 0 in grind (arith, nat_tests, c0, c1);
        queue = λ i h1. let c0 = o.sees.forw_seen g.last_front target in let c1 = o.own.suited target in let c2 = o.own.suited me in
            let c3 = o.outside.may_be target in let c4 = o.outside.may_be me in let c5 = o.order.next_first g.last_front target i in
            let c6 = o.order.apart me g.last_front in let c7 = o.order.apart i me in let c8 = o.fronts.queue me in
            let c9 = o.fronts.queue i in let c10 = o.fronts.body me in let o : ℕ = 0 in
            grind (arith, nat_tests, c0, c1, c2, c3, c4, c5, c6, c7, c8, c9, c10);
        attached = λ j h1 h2 h3. let c0 = o.fronts.attached in let o : ℕ = 0 in grind (arith, nat_tests, c0);
        leaves = let c = o.fronts.leaves in let o : ℕ = 0 in grind (arith, nat_tests, c);
        purged = λ i h1 h2. let c0 = o.own.suited me in let c1 = o.outside.may_be me in let c2 = o.order.apart me g.last_front in
            let c3 = o.fronts.queue me in let c4 = o.fronts.purged i in let c5 = o.fronts.body me in let o : ℕ = 0 in
            grind (arith, nat_tests, c0, c1, c2, c3, c4, c5);
        purged_next = λ i h1 h2. let c0 = o.own.suited me in let c1 = o.outside.may_be me in let c2 = o.order.apart me g.last_front in
            let c3 = o.fronts.queue me in let c4 = o.fronts.purged i in let c5 = o.fronts.body me in let o : ℕ = 0 in
            grind (arith, nat_tests, c0, c1, c2, c3, c4, c5);
      };
      own = let c = o.own in let o : ℕ = 0 in grind (arith, nat_tests, c);
      outside = let c = o.outside in let o : ℕ = 0 in grind (arith, nat_tests, c);
      backs = record {
        ahead = let c = o.backs.ahead in let o : ℕ = 0 in grind (arith, nat_tests, c);
        known_in = λ i j h1 h2 h3. let c0 = o.own.suited me in let c1 = o.outside.may_be me in let c2 = o.order.apart me g.last_front in
            let c3 = o.fronts.queue me in let c4 = o.fronts.body me in let c5 = o.backs.known_in i j in let o : ℕ = 0 in
            grind (arith, nat_tests, c0, c1, c2, c3, c4, c5);
        known = λ i j h1 h2 h3. let c0 = o.sees.forw_seen me target in let c1 = o.own.suited target in let c2 = o.own.suited me in
            let c3 = o.outside.may_be target in let c4 = o.outside.may_be me in let c5 = o.order.next_first me target i in
            let c6 = o.order.apart me g.last_front in let c7 = o.order.apart i target in let c8 = o.fronts.queue me in
            let c9 = o.fronts.body me in let c10 = o.backs.skip_roll i j target in let c11 = o.backs.known i j in
            let c12 = o.backs.ahead i j in let o : ℕ = 0 in grind (arith, nat_tests, c0, c1, c2, c3, c4, c5, c6, c7, c8, c9, c10, c11, c12);
        skip_roll = λ i j m h1 h2 h3 h4 h5. let c0 = o.fronts.front target in let c1 = o.backs.skip_roll i j m in let o : ℕ = 0 in
            grind (arith, nat_tests, c0, c1);
        skip_roll_out = λ i j m h1 h2 h3 h4 h5. let c0 = o.fronts.front target in let c1 = o.backs.skip_roll_out i j target in
            let o : ℕ = 0 in grind (arith, nat_tests, c0, c1);
        skip_back = λ i j m h1 h2 h3 h4 h5 h6. let c0 = o.order.next_first g.last_front m target in let c1 = o.fronts.front target in
            let c2 = o.backs.skip_stale i j m in let o : ℕ = 0 in grind (arith, nat_tests, c0, c1, c2);
        skip_stale = λ i j m h1 h2 h3 h4 h5 h6. let c0 = o.order.next_first g.last_front m target in let c1 = o.fronts.front target in
            let c2 = o.backs.skip_stale i j m in let o : ℕ = 0 in grind (arith, nat_tests, c0, c1, c2);
        skip_stale_out = λ i j m h1 h2 h3 h4 h5 h6. let c0 = o.fronts.front target in let c1 = o.backs.skip_roll_out i j target in
            let o : ℕ = 0 in grind (arith, nat_tests, c0, c1);
        parting = λ i j h1 h2. let c0 = o.sees.forw_seen g.last_front target in let c1 = o.own.suited target in let c2 = o.own.suited me in
            let c3 = o.own.front_back i in let c4 = o.outside.may_be target in let c5 = o.outside.may_be me in
            let c6 = o.order.next_first g.last_front target i in let c7 = o.order.apart me g.last_front in
            let c8 = o.order.apart i target in let c9 = o.fronts.queue me in let c10 = o.fronts.front i in let c11 = o.fronts.body me in
            let c12 = o.backs.skip_roll i j target in let c13 = o.backs.parting i j in let c14 = o.backs.ahead target j in let o : ℕ = 0 in
            grind (arith, nat_tests, c0, c1, c2, c3, c4, c5, c6, c7, c8, c9, c10, c11, c12, c13, c14);
      };
      sees = record {
        none_seen = let c = o.sees.none_seen in let o : ℕ = 0 in grind (arith, nat_tests, c);
        forw_seen = let c = o.sees.forw_seen in let o : ℕ = 0 in grind (arith, nat_tests, c);
        back_some = let c = o.sees.back_some in let o : ℕ = 0 in grind (arith, nat_tests, c);
        back_ahead = let c = o.sees.back_ahead in let o : ℕ = 0 in grind (arith, nat_tests, c);
        back_parting = λ i x h1 h2 h3. let c0 = o.sees.forw_seen g.last_front target in let c1 = o.sees.back_parting i x in
            let c2 = o.sees.back_behind i in let c3 = o.own.suited target in let c4 = o.own.suited me in let c5 = o.own.front_back i in
            let c6 = o.outside.may_be target in let c7 = o.outside.may_be me in let c8 = o.outside.may_be i in
            let c9 = o.order.next_first g.last_front target i in let c10 = o.order.apart me g.last_front in
            let c11 = o.order.apart i target in let c12 = o.fronts.queue me in let c13 = o.fronts.front i in let c14 = o.fronts.body me in
            let c15 = o.backs.skip_roll i g.last_front target in let c16 = o.backs.ahead target me in let o : ℕ = 0 in
            grind (arith, nat_tests, c0, c1, c2, c3, c4, c5, c6, c7, c8, c9, c10, c11, c12, c13, c14, c15, c16);
        back_seen = λ i h1 h2 h3. let c0 = o.sees.back_seen i in let c1 = o.own.suited target in let c2 = o.own.suited me in
            let c3 = o.outside.may_be me in let c4 = o.order.apart me g.last_front in let c5 = o.fronts.queue me in
            let c6 = o.fronts.body me in let o : ℕ = 0 in grind (arith, nat_tests, c0, c1, c2, c3, c4, c5, c6);
        back_behind = λ i h1 h2 h3. let c0 = o.sees.back_seen i in let c1 = o.own.suited target in let c2 = o.own.suited me in
            let c3 = o.outside.may_be me in let c4 = o.order.apart me g.last_front in let c5 = o.fronts.queue me in
            let c6 = o.fronts.body me in let o : ℕ = 0 in grind (arith, nat_tests, c0, c1, c2, c3, c4, c5, c6);
        back_front = λ i h1 h2 h3. let c0 = o.sees.back_seen i in let c1 = o.own.suited target in let c2 = o.own.suited me in
            let c3 = o.outside.may_be me in let c4 = o.order.apart me g.last_front in let c5 = o.fronts.queue me in
            let c6 = o.fronts.body me in let o : ℕ = 0 in grind (arith, nat_tests, c0, c1, c2, c3, c4, c5, c6);
        told_seen = let c = o.sees.told_seen in let o : ℕ = 0 in grind (arith, nat_tests, c);
        told_forw = let c = o.sees.told_forw in let o : ℕ = 0 in grind (arith, nat_tests, c);
        told_some = let c = o.sees.told_some in let o : ℕ = 0 in grind (arith, nat_tests, c);
        told = let c = o.sees.told in let o : ℕ = 0 in grind (arith, nat_tests, c);
        untold = λ i j m h1 h2 h3 h4. let c0 = o.sees.untold in let o : ℕ = 0 in grind (arith, nat_tests, c0);
        unlinked = let c = o.sees.unlinked in let o : ℕ = 0 in grind (arith, nat_tests, c);
      };
      words = record {
        victim = let c = o.words.victim in let o : ℕ = 0 in grind (arith, nat_tests, c);
        victim_forw = let c = o.words.victim_forw in let o : ℕ = 0 in grind (arith, nat_tests, c);
        victim_back = λ i x h1 h2. let c0 = o.words.victim_back i x in let c1 = o.words.victim i x in let o : ℕ = 0 in
            grind (arith, nat_tests, c0, c1);
        victim_kind = let c = o.words.victim_kind in let o : ℕ = 0 in grind (arith, nat_tests, c);
        victim_held = let c = o.words.victim_held in let o : ℕ = 0 in grind (arith, nat_tests, c);
        copied = λ i x h1 h2. let c0 = o.words.copied_back i target in let c1 = o.words.copied i x in let o : ℕ = 0 in
            grind (arith, nat_tests, c0, c1);
        copied_forw = let c = o.words.copied_forw in let o : ℕ = 0 in grind (arith, nat_tests, c);
        copied_back = let c = o.words.copied_back in let o : ℕ = 0 in grind (arith, nat_tests, c);
        copied_kind = let c = o.words.copied_kind in let o : ℕ = 0 in grind (arith, nat_tests, c);
        copied_held = let c = o.words.copied_held in let o : ℕ = 0 in grind (arith, nat_tests, c);
        copied_word_back = let c = o.words.copied_word_back in let o : ℕ = 0 in grind (arith, nat_tests, c);
        held_kind = λ i h1. let c0 = o.words.held_kind i in let c1 = o.slots.holding target in let o : ℕ = 0 in
            grind (arith, nat_tests, c0, c1);
        held_forw = let c = o.words.held_forw in let o : ℕ = 0 in grind (arith, nat_tests, c);
        held_back = λ i h1. let c0 = o.words.held_back i in let c1 = o.slots.holding target in let o : ℕ = 0 in
            grind (arith, nat_tests, c0, c1);
      };
      slots = record {
        memory_out = let c = o.slots.memory_out in let o : ℕ = 0 in grind (arith, nat_tests, c);
        memory_home = let c = o.slots.memory_home in let o : ℕ = 0 in grind (arith, nat_tests, c);
        lends = let c = o.slots.lends in let o : ℕ = 0 in grind (arith, nat_tests, c);
        lends_one = let c = o.slots.lends_one in let o : ℕ = 0 in grind (arith, nat_tests, c);
        borrower_has = let c = o.slots.borrower_has in let o : ℕ = 0 in grind (arith, nat_tests, c);
        fetching = let c = o.slots.fetching in let o : ℕ = 0 in grind (arith, nat_tests, c);
        writing = let c = o.slots.writing in let o : ℕ = 0 in grind (arith, nat_tests, c);
        in_hand = let c = o.slots.in_hand in let o : ℕ = 0 in grind (arith, nat_tests, c);
        at_home = let c = o.slots.at_home in let o : ℕ = 0 in grind (arith, nat_tests, c);
        held_out = let c = o.slots.held_out in let o : ℕ = 0 in grind (arith, nat_tests, c);
        held_by = let c = o.slots.held_by in let o : ℕ = 0 in grind (arith, nat_tests, c);
        held_for = let c = o.slots.held_for in let o : ℕ = 0 in grind (arith, nat_tests, c);
        holding = let c = o.slots.holding in let o : ℕ = 0 in grind (arith, nat_tests, c);
        copied_held = let c = o.slots.copied_held in let o : ℕ = 0 in grind (arith, nat_tests, c);
        copied_idle = let c = o.slots.copied_idle in let o : ℕ = 0 in grind (arith, nat_tests, c);
        copied_by = let c = o.slots.copied_by in let o : ℕ = 0 in grind (arith, nat_tests, c);
      };
      mode = record {
        home = let c = o.mode.home in let o : ℕ = 0 in grind (arith, nat_tests, c);
        not_home = let c = o.mode.not_home in let o : ℕ = 0 in grind (arith, nat_tests, c);
        not_dirty = λ i h1 h2 hn. let c0 = o.outside.may_be me in let c1 = o.mode.not_flagged me in let c2 = o.mode.not_dirty i in
            let o : ℕ = 0 in grind (arith, nat_tests, c0, c1, c2);
        not_purging = λ i h1 h2 hn. let c0 = o.mode.not_purging in let o : ℕ = 0 in grind (arith, nat_tests, c0);
        not_copying = let c = o.mode.not_copying in let o : ℕ = 0 in grind (arith, nat_tests, c);
        not_flagged = let c = o.mode.not_flagged in let o : ℕ = 0 in grind (arith, nat_tests, c);
        has_copy = let c = o.mode.has_copy in let o : ℕ = 0 in grind (arith, nat_tests, c);
        has_value = λ i h1 h2 h3. let c0 = o.values.leaving me in let c1 = o.mode.has_value i in let o : ℕ = 0 in
            grind (arith, nat_tests, c0, c1);
        gone = λ h1. let c0 = o.own.suited me in let c1 = o.outside.may_be me in let c2 = o.order.apart me g.last_front in
            let c3 = o.mode.gone in let c4 = o.fronts.queue me in let c5 = o.fronts.body me in let o : ℕ = 0 in
            grind (arith, nat_tests, c0, c1, c2, c3, c4, c5);
        gone_flag = λ i h1 h2. let c0 = o.sees.forw_seen g.last_front target in let c1 = o.own.suited target in let c2 = o.own.suited me in
            let c3 = o.outside.may_be target in let c4 = o.outside.may_be me in let c5 = o.order.next_first g.last_front target i in
            let c6 = o.order.apart me g.last_front in let c7 = o.order.apart i g.last_front in let c8 = o.mode.gone_flag i in
            let c9 = o.mode.gone in let c10 = o.fronts.queue me in let c11 = o.fronts.body me in let o : ℕ = 0 in
            grind (arith, nat_tests, c0, c1, c2, c3, c4, c5, c6, c7, c8, c9, c10, c11);
        gone_queue = λ i h1 h2 h3. let c0 = o.sees.forw_seen me target in let c1 = o.own.suited target in let c2 = o.own.suited me in
            let c3 = o.outside.may_be target in let c4 = o.outside.may_be me in let c5 = o.order.next_first g.last_front target i in
            let c6 = o.order.apart me g.last_front in let c7 = o.order.apart me i in let c8 = o.mode.gone_queue i in
            let c9 = o.fronts.queue me in let c10 = o.fronts.body me in let o : ℕ = 0 in
            grind (arith, nat_tests, c0, c1, c2, c3, c4, c5, c6, c7, c8, c9, c10);
        gone_copy = λ i h1 h2 h3. let c0 = o.sees.forw_seen g.last_front target in let c1 = o.own.suited target in
            let c2 = o.own.suited me in let c3 = o.outside.may_be target in let c4 = o.outside.may_be me in
            let c5 = o.order.next_first g.last_front target i in let c6 = o.order.apart me g.last_front in let c7 = o.order.apart i me in
            let c8 = o.mode.gone_copy i in let c9 = o.fronts.queue me in let c10 = o.fronts.body me in let o : ℕ = 0 in
            grind (arith, nat_tests, c0, c1, c2, c3, c4, c5, c6, c7, c8, c9, c10);
        last_copy = let c = o.mode.last_copy in let o : ℕ = 0 in grind (arith, nat_tests, c);
        last_value = λ i h1 h2. let c0 = o.mode.last_value in let o : ℕ = 0 in grind (arith, nat_tests, c0);
      };
      values = let c = o.values in let o : ℕ = 0 in grind (arith, nat_tests, c);
    }

pub promote_keeps_links : (n : ℕ) (s : State) (b : Below n (shape s)) (me : ℕ) (me_below : me < n) (target : ℕ) (dirty : Bool) (line : Line)
    → (pending : s.steps me ≡ Pending.Leaving dirty line (Some (Some target)))
    → Below n (shape (after_promote s me target dirty line))
promote_keeps_links n s b me me_below target dirty line pending =
    let pending : StepFields (s.steps me) (Pending.Leaving dirty line (Some (Some target))) = step_fields pending in
    grind (arith, nat_tests, b.head, b.forw, b.back, b.kept, b.word_forw, b.seen_forw, b.seen_back)
