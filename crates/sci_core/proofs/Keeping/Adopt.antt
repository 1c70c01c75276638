use Rattle.std.proofs.Common.{◌≡◌, ◌≢◌, ℕ, ◌<◌, false, Some, arith}
use Rattle.std.proofs.lemmas.Bool.Decides.{nat_tests}
use Rattle.sci_words.specs.declared.tags.Kind.{Kind}
use Rattle.sci_core.specs.declared.lines.Line.{Line}
use Rattle.sci_core.specs.declared.pending.Pending.{Pending}
use Rattle.sci_core.specs.State.{State, update, word}
use Rattle.sci_core.specs.Shape.{shape}
use Rattle.sci_core.specs.Law.{Witness, Law, Below}
use Rattle.sci_core.proofs.Fields.{StepFields, step_fields}

-- The entry behind the node is on its way out, and learns that the node is in front of it.
abbrev pub after_adopt : State → ℕ → ℕ → Line → State
after_adopt s me target line = record s {
  tags = update s.tags target (word Kind.Roll (s.tags target).forw (Some me));
  steps = update s.steps me (Pending.Purging line (Some (Some target)));
}

pub adopt_keeps_law : (s : State) (g : Witness) (o : Law (shape s) g) (me : ℕ) (target : ℕ) (line : Line)
    → (pending : s.steps me ≡ Pending.Purging line (Some (Some target)))
    → (target_rolls : (s.tags target).kind ≡ Kind.Roll)
    → (target_back : (s.tags target).back ≢ Some me)
    → (target_unheld : (s.tags target).held ≡ false)
    → Law (shape (after_adopt s me target line)) g
adopt_keeps_law s g o me target line pending target_rolls target_back target_unheld =
    let pending : StepFields (s.steps me) (Pending.Purging line (Some (Some target))) = step_fields pending in
    let me_in : 0 < g.rank me = grind (arith, o.outside.may_be me) in
    let me_kind : (s.tags me).kind ≡ Kind.Purging = grind (arith, o.own.suited me) in
    record {
      order = let c = o.order in let o : ℕ = 0 in grind (arith, nat_tests, c);
      fronts = let c = o.fronts in let o : ℕ = 0 in grind (arith, nat_tests, c);
      own = record {
        suited = let c = o.own.suited in let o : ℕ = 0 in grind (arith, nat_tests, c);
        as_kept = let c = o.own.as_kept in let o : ℕ = 0 in grind (arith, nat_tests, c);
        back_kept = λ i h1. let c0 = o.sees.unlinked me target in let c1 = o.own.back_kept i in let o : ℕ = 0 in
            grind (arith, nat_tests, c0, c1);
        front_back = let c = o.own.front_back in let o : ℕ = 0 in grind (arith, nat_tests, c);
        body_back = let c = o.own.body_back in let o : ℕ = 0 in grind (arith, nat_tests, c);
        can_hold = let c = o.own.can_hold in let o : ℕ = 0 in grind (arith, nat_tests, c);
      };
      outside = let c = o.outside in let o : ℕ = 0 in grind (arith, nat_tests, c);
      backs = record {
        ahead = λ i j h1 h2 h3. let c0 = o.own.suited me in let c1 = o.fronts.front i in let c2 = o.fronts.body me in
            let c3 = o.backs.ahead i j in let o : ℕ = 0 in grind (arith, nat_tests, c0, c1, c2, c3);
        known_in = let c = o.backs.known_in in let o : ℕ = 0 in grind (arith, nat_tests, c);
        known = λ i j h1 h2 h3. let c0 = o.own.suited me in let c1 = o.outside.may_be me in let c2 = o.order.apart me g.last_front in
            let c3 = o.fronts.queue me in let c4 = o.fronts.body me in let o : ℕ = 0 in grind (arith, nat_tests, c0, c1, c2, c3, c4);
        skip_roll = λ i j m h1 h2 h3 h4 h5. let c0 = o.sees.forw_seen g.last_front target in let c1 = o.own.suited me in
            let c2 = o.order.next_first g.last_front i m in let c3 = o.order.apart me g.last_front in let c4 = o.fronts.queue me in
            let c5 = o.fronts.body me in let c6 = o.backs.skip_roll i j m in let o : ℕ = 0 in
            grind (arith, nat_tests, c0, c1, c2, c3, c4, c5, c6);
        skip_roll_out = let c = o.backs.skip_roll_out in let o : ℕ = 0 in grind (arith, nat_tests, c);
        skip_back = λ i j m h1 h2 h3 h4 h5 h6. let c0 = o.sees.forw_seen g.last_front target in let c1 = o.own.suited me in
            let c2 = o.outside.may_be me in let c3 = o.order.next_first me m j in let c4 = o.order.next_first g.last_front i m in
            let c5 = o.order.apart me g.last_front in let c6 = o.order.apart me j in let c7 = o.fronts.queue me in
            let c8 = o.fronts.body me in let c9 = o.backs.skip_back i j m in let o : ℕ = 0 in
            grind (arith, nat_tests, c0, c1, c2, c3, c4, c5, c6, c7, c8, c9);
        skip_stale = λ i j m h1 h2 h3 h4 h5 h6. let c0 = o.sees.forw_seen g.last_front target in let c1 = o.own.suited me in
            let c2 = o.outside.may_be me in let c3 = o.order.next_first g.last_front i m in let c4 = o.order.apart me g.last_front in
            let c5 = o.fronts.queue me in let c6 = o.fronts.body me in let c7 = o.backs.skip_stale i j m in let o : ℕ = 0 in
            grind (arith, nat_tests, c0, c1, c2, c3, c4, c5, c6, c7);
        skip_stale_out = λ i j m h1 h2 h3 h4 h5 h6. let c0 = o.sees.forw_seen g.last_front target in let c1 = o.own.suited me in
            let c2 = o.outside.may_be me in let c3 = o.order.apart me g.last_front in let c4 = o.fronts.queue me in
            let c5 = o.fronts.body me in let c6 = o.backs.skip_stale_out i j m in let o : ℕ = 0 in
            grind (arith, nat_tests, c0, c1, c2, c3, c4, c5, c6);
        parting = let c = o.backs.parting in let o : ℕ = 0 in grind (arith, nat_tests, c);
      };
      sees = record {
        none_seen = let c = o.sees.none_seen in let o : ℕ = 0 in grind (arith, nat_tests, c);
        forw_seen = let c = o.sees.forw_seen in let o : ℕ = 0 in grind (arith, nat_tests, c);
        back_some = let c = o.sees.back_some in let o : ℕ = 0 in grind (arith, nat_tests, c);
        back_ahead = let c = o.sees.back_ahead in let o : ℕ = 0 in grind (arith, nat_tests, c);
        back_parting = let c = o.sees.back_parting in let o : ℕ = 0 in grind (arith, nat_tests, c);
        back_seen = λ i h1 h2 h3. let c0 = o.own.suited me in let c1 = o.outside.may_be me in let c2 = o.order.apart me g.last_front in
            let c3 = o.fronts.queue me in let c4 = o.fronts.body me in let o : ℕ = 0 in grind (arith, nat_tests, c0, c1, c2, c3, c4);
        back_behind = λ i h1 h2 h3. let c0 = o.sees.forw_seen g.last_front target in let c1 = o.sees.back_behind i in
            let c2 = o.own.suited me in let c3 = o.outside.may_be target in let c4 = o.outside.may_be me in
            let c5 = o.order.apart me g.last_front in let c6 = o.fronts.queue me in let c7 = o.fronts.front target in
            let c8 = o.fronts.body me in let o : ℕ = 0 in grind (arith, nat_tests, c0, c1, c2, c3, c4, c5, c6, c7, c8);
        back_front = λ i h1 h2 h3. let c0 = o.sees.back_front i in let c1 = o.own.suited me in let c2 = o.outside.may_be me in
            let c3 = o.order.apart me g.last_front in let c4 = o.fronts.queue me in let c5 = o.fronts.body me in let o : ℕ = 0 in
            grind (arith, nat_tests, c0, c1, c2, c3, c4, c5);
        told_seen = let c = o.sees.told_seen in let o : ℕ = 0 in grind (arith, nat_tests, c);
        told_forw = let c = o.sees.told_forw in let o : ℕ = 0 in grind (arith, nat_tests, c);
        told_some = let c = o.sees.told_some in let o : ℕ = 0 in grind (arith, nat_tests, c);
        told = let c = o.sees.told in let o : ℕ = 0 in grind (arith, nat_tests, c);
        untold = λ i j m h1 h2 h3 h4. let c0 = o.sees.unlinked me target in let c1 = o.sees.untold i j m in
            let c2 = o.sees.forw_seen g.last_front target in let c3 = o.own.suited target in let c4 = o.own.suited me in
            let c5 = o.outside.may_be target in let c6 = o.outside.may_be me in let c7 = o.outside.may_be i in
            let c8 = o.order.next_first g.last_front target i in let c9 = o.order.next_below i target in
            let c10 = o.order.apart me g.last_front in let c11 = o.order.apart me i in let c12 = o.fronts.queue me in
            let c13 = o.fronts.queue i in let c14 = o.fronts.body me in let o : ℕ = 0 in
            grind (arith, nat_tests, c0, c1, c2, c3, c4, c5, c6, c7, c8, c9, c10, c11, c12, c13, c14);
        unlinked = let c = o.sees.unlinked in let o : ℕ = 0 in grind (arith, nat_tests, c);
      };
      words = record {
        victim = let c = o.words.victim in let o : ℕ = 0 in grind (arith, nat_tests, c);
        victim_forw = let c = o.words.victim_forw in let o : ℕ = 0 in grind (arith, nat_tests, c);
        victim_back = λ i x h1 h2. let c0 = o.words.victim_back i x in let c1 = o.words.victim i x in let o : ℕ = 0 in
            grind (arith, nat_tests, c0, c1);
        victim_kind = let c = o.words.victim_kind in let o : ℕ = 0 in grind (arith, nat_tests, c);
        victim_held = let c = o.words.victim_held in let o : ℕ = 0 in grind (arith, nat_tests, c);
        copied = let c = o.words.copied in let o : ℕ = 0 in grind (arith, nat_tests, c);
        copied_forw = let c = o.words.copied_forw in let o : ℕ = 0 in grind (arith, nat_tests, c);
        copied_back = λ i x h1 h2. let c0 = o.words.copied_back i x in let c1 = o.words.copied i target in let o : ℕ = 0 in
            grind (arith, nat_tests, c0, c1);
        copied_kind = let c = o.words.copied_kind in let o : ℕ = 0 in grind (arith, nat_tests, c);
        copied_held = let c = o.words.copied_held in let o : ℕ = 0 in grind (arith, nat_tests, c);
        copied_word_back = let c = o.words.copied_word_back in let o : ℕ = 0 in grind (arith, nat_tests, c);
        held_kind = let c = o.words.held_kind in let o : ℕ = 0 in grind (arith, nat_tests, c);
        held_forw = let c = o.words.held_forw in let o : ℕ = 0 in grind (arith, nat_tests, c);
        held_back = λ i h1. let c0 = o.words.held_back i in let c1 = o.own.suited target in let o : ℕ = 0 in
            grind (arith, nat_tests, c0, c1);
      };
      slots = record {
        memory_out = let c = o.slots.memory_out in let o : ℕ = 0 in grind (arith, nat_tests, c);
        memory_home = let c = o.slots.memory_home in let o : ℕ = 0 in grind (arith, nat_tests, c);
        lends = let c = o.slots.lends in let o : ℕ = 0 in grind (arith, nat_tests, c);
        lends_one = let c = o.slots.lends_one in let o : ℕ = 0 in grind (arith, nat_tests, c);
        borrower_has = let c = o.slots.borrower_has in let o : ℕ = 0 in grind (arith, nat_tests, c);
        fetching = let c = o.slots.fetching in let o : ℕ = 0 in grind (arith, nat_tests, c);
        writing = let c = o.slots.writing in let o : ℕ = 0 in grind (arith, nat_tests, c);
        in_hand = let c = o.slots.in_hand in let o : ℕ = 0 in grind (arith, nat_tests, c);
        at_home = let c = o.slots.at_home in let o : ℕ = 0 in grind (arith, nat_tests, c);
        held_out = let c = o.slots.held_out in let o : ℕ = 0 in grind (arith, nat_tests, c);
        held_by = let c = o.slots.held_by in let o : ℕ = 0 in grind (arith, nat_tests, c);
        held_for = let c = o.slots.held_for in let o : ℕ = 0 in grind (arith, nat_tests, c);
        holding = let c = o.slots.holding in let o : ℕ = 0 in grind (arith, nat_tests, c);
        copied_held = let c = o.slots.copied_held in let o : ℕ = 0 in grind (arith, nat_tests, c);
        copied_idle = let c = o.slots.copied_idle in let o : ℕ = 0 in grind (arith, nat_tests, c);
        copied_by = let c = o.slots.copied_by in let o : ℕ = 0 in grind (arith, nat_tests, c);
      };
      mode = let c = o.mode in let o : ℕ = 0 in grind (arith, nat_tests, c);
      values = let c = o.values in let o : ℕ = 0 in grind (arith, nat_tests, c);
    }

pub adopt_keeps_links : (n : ℕ) (s : State) (b : Below n (shape s)) (me : ℕ) (me_below : me < n) (target : ℕ) (line : Line)
    → (pending : s.steps me ≡ Pending.Purging line (Some (Some target)))
    → Below n (shape (after_adopt s me target line))
adopt_keeps_links n s b me me_below target line pending =
    let pending : StepFields (s.steps me) (Pending.Purging line (Some (Some target))) = step_fields pending in
    grind (arith, nat_tests, b.head, b.forw, b.back, b.kept, b.word_forw, b.seen_forw, b.seen_back)
