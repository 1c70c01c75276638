use Rattle.std.proofs.Common.{◌≡◌, ℕ, ◌<◌, true, false, Some, arith}
use Rattle.std.proofs.lemmas.Bool.Decides.{nat_tests}
use Rattle.sci_words.specs.declared.tags.Kind.{Kind}
use Rattle.sci_core.specs.declared.pending.Pending.{Pending}
use Rattle.sci_core.specs.State.{State, update, word}
use Rattle.sci_core.specs.Shape.{shape}
use Rattle.sci_core.specs.Law.{Witness, Law, Below}
use Rattle.sci_core.proofs.Fields.{StepFields, step_fields}

-- The node's successor learns of the node's predecessor.
abbrev pub after_tell_successor : State → ℕ → ℕ → ℕ → State
after_tell_successor s me target back = record s {
  tags = update s.tags target (word Kind.Valid (s.tags target).forw (Some back));
  steps = update s.steps me (Pending.Rolling true (Some (Some target, back)));
}

pub tell_successor_keeps_law : (s : State) (g : Witness) (o : Law (shape s) g) (me : ℕ) (target : ℕ) (back : ℕ)
    → (pending : s.steps me ≡ Pending.Rolling false (Some (Some target, back)))
    → (target_valid : (s.tags target).kind ≡ Kind.Valid)
    → (target_back : (s.tags target).back ≡ Some me)
    → (target_unheld : (s.tags target).held ≡ false)
    → Law (shape (after_tell_successor s me target back)) g
tell_successor_keeps_law s g o me target back pending target_valid target_back target_unheld =
    let pending : StepFields (s.steps me) (Pending.Rolling false (Some (Some target, back))) = step_fields pending in
    let me_in : 0 < g.rank me = grind (arith, o.outside.may_be me) in
    let me_kind : (s.tags me).kind ≡ Kind.Roll = grind (arith, o.own.suited me) in
    let target_in : 0 < g.rank target = grind (arith, o.outside.may_be target, o.own.suited target) in
    let target_behind : g.rank target < g.rank me = grind (arith, o.backs.ahead target me) in
    let target_next : (s.tags me).forw ≡ Some target = grind (arith, o.sees.forw_seen me target) in
    record {
      order = let c = o.order in let o : ℕ = 0 in grind (arith, nat_tests, c);
      fronts = let c = o.fronts in let o : ℕ = 0 in grind (arith, nat_tests, c);
      own = let c = o.own in let o : ℕ = 0 in grind (arith, nat_tests, c);
      outside = let c = o.outside in let o : ℕ = 0 in grind (arith, nat_tests, c);
      backs = record {
        ahead = λ i j h1 h2 h3. let c0 = o.sees.back_ahead me j in let c1 = o.outside.may_be me in let c2 = o.backs.ahead i me in
            let c3 = o.backs.ahead i j in let o : ℕ = 0 in grind (arith, nat_tests, c0, c1, c2, c3);
        known_in = λ i j h1 h2 h3. let c0 = o.sees.back_seen me in let c1 = o.outside.may_be me in let c2 = o.backs.known_in me j in
            let c3 = o.backs.known_in i j in let o : ℕ = 0 in grind (arith, nat_tests, c0, c1, c2, c3);
        known = λ i j h1 h2 h3. let c0 = o.sees.back_seen me in let c1 = o.outside.may_be me in let c2 = o.backs.known me j in
            let c3 = o.backs.known i j in let o : ℕ = 0 in grind (arith, nat_tests, c0, c1, c2, c3);
        skip_roll = λ i j m h1 h2 h3 h4 h5. let c0 = o.sees.back_front me in let c1 = o.own.suited me in let c2 = o.outside.may_be me in
            let c3 = o.order.apart m me in let c4 = o.backs.skip_roll me g.last_front m in let c5 = o.backs.skip_roll me j m in
            let c6 = o.backs.skip_roll i me m in let c7 = o.backs.skip_roll i j m in let o : ℕ = 0 in
            grind (arith, nat_tests, c0, c1, c2, c3, c4, c5, c6, c7);
        skip_roll_out = λ i j m h1 h2 h3 h4 h5. let c0 = o.sees.back_front me in let c1 = o.own.suited me in let c2 = o.outside.may_be me in
            let c3 = o.order.apart m me in let c4 = o.backs.skip_roll_out me back m in let c5 = o.backs.skip_roll_out i j m in
            let c6 = o.backs.skip_roll me g.last_front m in let c7 = o.backs.skip_roll i me m in let o : ℕ = 0 in
            grind (arith, nat_tests, c0, c1, c2, c3, c4, c5, c6, c7);
        skip_back = λ i j m h1 h2 h3 h4 h5 h6. let c0 = o.sees.forw_seen me i in let c1 = o.sees.back_front m in
            let c2 = o.sees.back_behind me in let c3 = o.outside.may_be me in let c4 = o.order.next_first me i m in
            let c5 = o.order.next_first g.last_front me m in let c6 = o.order.next_first g.last_front m j in
            let c7 = o.order.apart g.last_front j in let c8 = o.order.apart m me in let c9 = o.backs.skip_roll i j m in
            let c10 = o.backs.skip_back me j m in let c11 = o.backs.skip_back i j m in let o : ℕ = 0 in
            grind (arith, nat_tests, c0, c1, c2, c3, c4, c5, c6, c7, c8, c9, c10, c11);
        skip_stale = λ i j m h1 h2 h3 h4 h5 h6. let c0 = o.sees.forw_seen me i in let c1 = o.sees.back_behind me in
            let c2 = o.outside.may_be me in let c3 = o.order.next_first me i m in let c4 = o.order.next_first g.last_front me m in
            let c5 = o.order.apart m me in let c6 = o.backs.skip_stale me back m in let c7 = o.backs.skip_stale i j m in
            let c8 = o.backs.skip_roll i j m in let o : ℕ = 0 in grind (arith, nat_tests, c0, c1, c2, c3, c4, c5, c6, c7, c8);
        skip_stale_out = λ i j m h1 h2 h3 h4 h5 h6. let c0 = o.sees.forw_seen me i in let c1 = o.sees.back_behind me in
            let c2 = o.outside.may_be me in let c3 = o.order.next_first me i m in let c4 = o.order.next_first g.last_front me m in
            let c5 = o.order.apart m me in let c6 = o.backs.skip_stale_out me back m in let c7 = o.backs.skip_stale_out i j m in
            let o : ℕ = 0 in grind (arith, nat_tests, c0, c1, c2, c3, c4, c5, c6, c7);
        parting = λ i j h1 h2. let c0 = o.sees.back_parting me j in let c1 = o.backs.parting i j in let o : ℕ = 0 in
            grind (arith, nat_tests, c0, c1);
      };
      sees = record {
        none_seen = let c = o.sees.none_seen in let o : ℕ = 0 in grind (arith, nat_tests, c);
        forw_seen = let c = o.sees.forw_seen in let o : ℕ = 0 in grind (arith, nat_tests, c);
        back_some = let c = o.sees.back_some in let o : ℕ = 0 in grind (arith, nat_tests, c);
        back_ahead = let c = o.sees.back_ahead in let o : ℕ = 0 in grind (arith, nat_tests, c);
        back_parting = let c = o.sees.back_parting in let o : ℕ = 0 in grind (arith, nat_tests, c);
        back_seen = λ i h1 h2 h3. let c0 = o.sees.back_seen i in let c1 = o.own.suited target in let o : ℕ = 0 in
            grind (arith, nat_tests, c0, c1);
        back_behind = λ i h1 h2 h3. let c0 = o.sees.back_behind i in let c1 = o.own.suited target in let o : ℕ = 0 in
            grind (arith, nat_tests, c0, c1);
        back_front = λ i h1 h2 h3. let c0 = o.sees.back_front i in let c1 = o.own.suited target in let o : ℕ = 0 in
            grind (arith, nat_tests, c0, c1);
        told_seen = let c = o.sees.told_seen in let o : ℕ = 0 in grind (arith, nat_tests, c);
        told_forw = let c = o.sees.told_forw in let o : ℕ = 0 in grind (arith, nat_tests, c);
        told_some = let c = o.sees.told_some in let o : ℕ = 0 in grind (arith, nat_tests, c);
        told = λ i j h1 h2 h3 hn. let c0 = o.sees.told i j in let c1 = o.sees.forw_seen me target in let c2 = o.sees.back_ahead me back in
            let c3 = o.own.suited target in let c4 = o.outside.may_be target in let c5 = o.outside.may_be me in
            let c6 = o.outside.may_be i in let c7 = o.order.next_first i j me in let c8 = o.backs.ahead target me in let o : ℕ = 0 in
            grind (arith, nat_tests, c0, c1, c2, c3, c4, c5, c6, c7, c8);
        untold = λ i j m h1 h2 h3 h4. let c0 = o.sees.untold in let o : ℕ = 0 in grind (arith, nat_tests, c0);
        unlinked = let c = o.sees.unlinked in let o : ℕ = 0 in grind (arith, nat_tests, c);
      };
      words = record {
        victim = let c = o.words.victim in let o : ℕ = 0 in grind (arith, nat_tests, c);
        victim_forw = let c = o.words.victim_forw in let o : ℕ = 0 in grind (arith, nat_tests, c);
        victim_back = λ i x h1 h2. let c0 = o.words.victim_back i x in let c1 = o.words.victim i target in let o : ℕ = 0 in
            grind (arith, nat_tests, c0, c1);
        victim_kind = let c = o.words.victim_kind in let o : ℕ = 0 in grind (arith, nat_tests, c);
        victim_held = let c = o.words.victim_held in let o : ℕ = 0 in grind (arith, nat_tests, c);
        copied = let c = o.words.copied in let o : ℕ = 0 in grind (arith, nat_tests, c);
        copied_forw = let c = o.words.copied_forw in let o : ℕ = 0 in grind (arith, nat_tests, c);
        copied_back = let c = o.words.copied_back in let o : ℕ = 0 in grind (arith, nat_tests, c);
        copied_kind = let c = o.words.copied_kind in let o : ℕ = 0 in grind (arith, nat_tests, c);
        copied_held = let c = o.words.copied_held in let o : ℕ = 0 in grind (arith, nat_tests, c);
        copied_word_back = let c = o.words.copied_word_back in let o : ℕ = 0 in grind (arith, nat_tests, c);
        held_kind = let c = o.words.held_kind in let o : ℕ = 0 in grind (arith, nat_tests, c);
        held_forw = let c = o.words.held_forw in let o : ℕ = 0 in grind (arith, nat_tests, c);
        held_back = λ i h1. let c0 = o.words.held_back i in let c1 = o.slots.holding target in let o : ℕ = 0 in
            grind (arith, nat_tests, c0, c1);
      };
      slots = record {
        memory_out = let c = o.slots.memory_out in let o : ℕ = 0 in grind (arith, nat_tests, c);
        memory_home = let c = o.slots.memory_home in let o : ℕ = 0 in grind (arith, nat_tests, c);
        lends = let c = o.slots.lends in let o : ℕ = 0 in grind (arith, nat_tests, c);
        lends_one = let c = o.slots.lends_one in let o : ℕ = 0 in grind (arith, nat_tests, c);
        borrower_has = let c = o.slots.borrower_has in let o : ℕ = 0 in grind (arith, nat_tests, c);
        fetching = let c = o.slots.fetching in let o : ℕ = 0 in grind (arith, nat_tests, c);
        writing = let c = o.slots.writing in let o : ℕ = 0 in grind (arith, nat_tests, c);
        in_hand = let c = o.slots.in_hand in let o : ℕ = 0 in grind (arith, nat_tests, c);
        at_home = let c = o.slots.at_home in let o : ℕ = 0 in grind (arith, nat_tests, c);
        held_out = let c = o.slots.held_out in let o : ℕ = 0 in grind (arith, nat_tests, c);
        held_by = let c = o.slots.held_by in let o : ℕ = 0 in grind (arith, nat_tests, c);
        held_for = let c = o.slots.held_for in let o : ℕ = 0 in grind (arith, nat_tests, c);
        holding = let c = o.slots.holding in let o : ℕ = 0 in grind (arith, nat_tests, c);
        copied_held = let c = o.slots.copied_held in let o : ℕ = 0 in grind (arith, nat_tests, c);
        copied_idle = let c = o.slots.copied_idle in let o : ℕ = 0 in grind (arith, nat_tests, c);
        copied_by = let c = o.slots.copied_by in let o : ℕ = 0 in grind (arith, nat_tests, c);
      };
      mode = let c = o.mode in let o : ℕ = 0 in grind (arith, nat_tests, c);
      values = let c = o.values in let o : ℕ = 0 in grind (arith, nat_tests, c);
    }

pub tell_successor_keeps_links : (n : ℕ) (s : State) (b : Below n (shape s)) (me : ℕ) (me_below : me < n) (target : ℕ) (back : ℕ)
    → (pending : s.steps me ≡ Pending.Rolling false (Some (Some target, back)))
    → Below n (shape (after_tell_successor s me target back))
tell_successor_keeps_links n s b me me_below target back pending =
    let pending : StepFields (s.steps me) (Pending.Rolling false (Some (Some target, back))) = step_fields pending in
    grind (arith, nat_tests, b.head, b.forw, b.back, b.kept, b.word_forw, b.seen_forw, b.seen_back)
