use Rattle.std.proofs.Common.{◌≡◌, ◌≢◌, ◌⊎◌, ℕ, ◌<◌, Bool, true, false, Option, Some, None, arith}
use Rattle.std.proofs.lemmas.Bool.Decides.{nat_tests}
use Rattle.sci_words.specs.declared.tags.Kind.{Kind}
use Rattle.sci_core.specs.declared.pending.Pending.{Pending}
use Rattle.sci_core.specs.State.{State, update, word}
use Rattle.sci_core.specs.Shape.{link, shape}
use Rattle.sci_core.specs.Law.{Witness, Law, Below}
use Rattle.sci_core.proofs.Fields.{StepFields, step_fields}

-- The node's predecessor learns of the node's successor, and the node is outside then.
abbrev pub after_tell_predecessor : State → ℕ → ℕ → Option ℕ → Bool → State
after_tell_predecessor s me target forw told = record s {
  tags = update s.tags target (word (s.tags target).kind forw (s.tags target).back);
  steps = update s.steps me (Pending.Unlinked forw target);
}

pub tell_predecessor_keeps_law : (s : State) (g : Witness) (o : Law (shape s) g) (me : ℕ) (target : ℕ) (forw : Option ℕ) (told : Bool)
    → (pending : s.steps me ≡ Pending.Rolling told (Some (forw, target)))
    → (in_turn : (told ≡ true) ⊎ (forw ≡ None))
    → (target_forw : (s.tags target).forw ≡ Some me)
    → (not_purged : (s.tags target).kind ≢ Kind.Purged)
    → (not_queued : (s.tags target).kind ≢ Kind.Queued)
    → (not_invalid : (s.tags target).kind ≢ Kind.Invalid)
    → (not_convert : (s.tags target).kind ≢ Kind.Convert)
    → (target_unheld : (s.tags target).held ≡ false)
    → Law (shape (after_tell_predecessor s me target forw told)) (record g { rank = update g.rank me 0 })
tell_predecessor_keeps_law s g o me target forw told pending in_turn target_forw not_purged not_queued not_invalid not_convert
    target_unheld =
    let pending : StepFields (s.steps me) (Pending.Rolling told (Some (forw, target))) = step_fields pending in
    let me_forw : forw ≡ (s.tags me).forw = grind (arith, o.sees.told_forw me, o.sees.none_seen me) in
    let me_in : 0 < g.rank me = grind (arith, o.outside.may_be me) in
    let target_in : 0 < g.rank target = grind (arith, o.outside.may_be target, o.own.suited target, o.sees.back_parting me target) in
    let target_ahead : g.rank me < g.rank target = o.order.next_below target me target_in target_forw in
    let me_kind : (s.tags me).kind ≡ Kind.Roll = grind (arith, o.own.suited me) in
    record {
      order = let c = o.order in let o : ℕ = 0 in grind (arith, nat_tests, c);
      fronts = let c = o.fronts in let o : ℕ = 0 in grind (arith, nat_tests, c);
      own = record {
        suited = let c = o.own.suited in let o : ℕ = 0 in grind (arith, nat_tests, c);
        as_kept = λ i h1. let c0 = o.sees.none_seen (link (s.tags target).forw) in let c1 = o.words.victim i me in
            let c2 = o.sees.told_forw me in let c3 = o.sees.back_parting me target in let c4 = o.own.suited target in
            let c5 = o.own.suited me in let c6 = o.own.as_kept i in let o : ℕ = 0 in grind (arith, nat_tests, c0, c1, c2, c3, c4, c5, c6);
        back_kept = λ i h1. let c0 = o.sees.back_parting me target in let c1 = o.sees.back_front me in let c2 = o.sees.back_behind me in
            let c3 = o.own.suited target in let c4 = o.own.back_kept i in let c5 = o.outside.may_be target in
            let c6 = o.order.next_first g.last_front me target in let c7 = o.order.next_below target me in
            let c8 = o.order.apart target g.last_front in let c9 = o.fronts.queue target in let o : ℕ = 0 in
            grind (arith, nat_tests, c0, c1, c2, c3, c4, c5, c6, c7, c8, c9);
        front_back = let c = o.own.front_back in let o : ℕ = 0 in grind (arith, nat_tests, c);
        body_back = let c = o.own.body_back in let o : ℕ = 0 in grind (arith, nat_tests, c);
        can_hold = let c = o.own.can_hold in let o : ℕ = 0 in grind (arith, nat_tests, c);
      };
      outside = let c = o.outside in let o : ℕ = 0 in grind (arith, nat_tests, c);
      backs = record {
        ahead = let c = o.backs.ahead in let o : ℕ = 0 in grind (arith, nat_tests, c);
        known_in = λ i j h1 h2 h3. let c0 = o.sees.told j (link (s.tags me).forw) in
            let c1 = o.order.next_first me (link (s.tags me).forw) i in let c2 = o.order.next_below j (link (s.tags me).forw) in
            let c3 = o.order.apart i (link (s.tags me).forw) in let c4 = o.backs.skip_back i j (link (s.tags me).forw) in
            let c5 = o.sees.none_seen me in let c6 = o.order.last me i in let c7 = o.fronts.queue j in let c8 = o.backs.known_in i j in
            let c9 = o.backs.ahead i me in let o : ℕ = 0 in grind (arith, nat_tests, c0, c1, c2, c3, c4, c5, c6, c7, c8, c9);
        known = λ i j h1 h2 h3. let c0 = o.sees.back_seen me in let c1 = o.order.next_below target g.last_front in
            let c2 = o.backs.known_in me target in let c3 = o.backs.known me target in let c4 = o.backs.known i j in let o : ℕ = 0 in
            grind (arith, nat_tests, c0, c1, c2, c3, c4);
        skip_roll = let c = o.backs.skip_roll in let o : ℕ = 0 in grind (arith, nat_tests, c);
        skip_roll_out = λ i j m h1 h2 h3 h4 h5. let c0 = o.sees.told j (link (s.tags me).forw) in
            let c1 = o.order.next_first j (link (s.tags me).forw) i in let c2 = o.order.next_below j (link (s.tags me).forw) in
            let c3 = o.order.apart i (link (s.tags me).forw) in let c4 = o.backs.skip_back i j (link (s.tags me).forw) in
            let c5 = o.sees.none_seen me in let c6 = o.order.last me i in let c7 = o.backs.skip_roll_out i j m in
            let c8 = o.backs.skip_roll i j m in let c9 = o.backs.ahead i j in let o : ℕ = 0 in
            grind (arith, nat_tests, c0, c1, c2, c3, c4, c5, c6, c7, c8, c9);
        skip_back = let c = o.backs.skip_back in let o : ℕ = 0 in grind (arith, nat_tests, c);
        skip_stale = let c = o.backs.skip_stale in let o : ℕ = 0 in grind (arith, nat_tests, c);
        skip_stale_out = λ i j m h1 h2 h3 h4 h5 h6. let c0 = o.sees.told j (link (s.tags me).forw) in
            let c1 = o.order.next_first me (link (s.tags me).forw) i in let c2 = o.order.next_below j (link (s.tags me).forw) in
            let c3 = o.order.apart i (link (s.tags me).forw) in let c4 = o.backs.skip_back i j (link (s.tags me).forw) in
            let c5 = o.sees.none_seen me in let c6 = o.order.last me i in let c7 = o.fronts.queue j in
            let c8 = o.backs.skip_stale_out i j m in let c9 = o.backs.ahead i me in let o : ℕ = 0 in
            grind (arith, nat_tests, c0, c1, c2, c3, c4, c5, c6, c7, c8, c9);
        parting = λ i j h1 h2. let c0 = o.sees.told j (link (s.tags me).forw) in let c1 = o.order.next_first j (link (s.tags me).forw) i in
            let c2 = o.order.next_below j (link (s.tags me).forw) in let c3 = o.order.apart i (link (s.tags me).forw) in
            let c4 = o.backs.skip_back i j (link (s.tags me).forw) in let c5 = o.sees.none_seen me in let c6 = o.outside.may_be me in
            let c7 = o.order.last me i in let c8 = o.fronts.queue j in let c9 = o.backs.parting i j in let c10 = o.backs.ahead i j in
            let o : ℕ = 0 in grind (arith, nat_tests, c0, c1, c2, c3, c4, c5, c6, c7, c8, c9, c10);
      };
      sees = record {
        none_seen = let c = o.sees.none_seen in let o : ℕ = 0 in grind (arith, nat_tests, c);
        forw_seen = let c = o.sees.forw_seen in let o : ℕ = 0 in grind (arith, nat_tests, c);
        back_some = let c = o.sees.back_some in let o : ℕ = 0 in grind (arith, nat_tests, c);
        back_ahead = let c = o.sees.back_ahead in let o : ℕ = 0 in grind (arith, nat_tests, c);
        back_parting = λ i x h1 h2 h3. let c0 = o.sees.told me (link forw) in let c1 = o.order.next_first x (link (s.tags me).forw) i in
            let c2 = o.order.next_below me (link forw) in let c3 = o.order.apart i (link (s.tags me).forw) in
            let c4 = o.backs.skip_back i x (link (s.tags me).forw) in let c5 = o.sees.told_forw me in let c6 = o.sees.none_seen me in
            let c7 = o.sees.back_parting i x in let c8 = o.sees.back_behind i in let c9 = o.sees.back_ahead i me in
            let c10 = o.own.suited me in let c11 = o.outside.may_be me in let c12 = o.outside.may_be i in
            let c13 = o.order.next_first g.last_front i me in let c14 = o.order.last me i in let c15 = o.fronts.front me in let o : ℕ = 0 in
            grind (arith, nat_tests, c0, c1, c2, c3, c4, c5, c6, c7, c8, c9, c10, c11, c12, c13, c14, c15);
        back_seen = let c = o.sees.back_seen in let o : ℕ = 0 in grind (arith, nat_tests, c);
        back_behind = let c = o.sees.back_behind in let o : ℕ = 0 in grind (arith, nat_tests, c);
        back_front = let c = o.sees.back_front in let o : ℕ = 0 in grind (arith, nat_tests, c);
        told_seen = let c = o.sees.told_seen in let o : ℕ = 0 in grind (arith, nat_tests, c);
        told_forw = λ i h1 h2. let c0 = o.sees.told_seen i in let c1 = o.sees.told_forw i in let c2 = o.sees.told target me in
            let c3 = o.sees.back_some i in let c4 = o.sees.back_behind me in let c5 = o.sees.back_behind i in
            let c6 = o.sees.back_ahead me i in let c7 = o.own.front_back i in let c8 = o.outside.may_be target in
            let c9 = o.order.next_first g.last_front me i in let c10 = o.fronts.front i in let o : ℕ = 0 in
            grind (arith, nat_tests, c0, c1, c2, c3, c4, c5, c6, c7, c8, c9, c10);
        told_some = λ i h1 h2 hn. let c0 = o.sees.none_seen (link (s.tags target).forw) in let c1 = o.sees.told_some i in
            let c2 = o.sees.told_seen i in let c3 = o.sees.told target me in let c4 = o.sees.back_some i in
            let c5 = o.sees.back_behind me in let c6 = o.sees.back_behind i in let c7 = o.own.front_back target in
            let c8 = o.outside.may_be i in let c9 = o.order.next_first g.last_front me target in let c10 = o.order.last me i in
            let c11 = o.order.apart me target in let c12 = o.fronts.front target in let o : ℕ = 0 in
            grind (arith, nat_tests, c0, c1, c2, c3, c4, c5, c6, c7, c8, c9, c10, c11, c12);
        told = λ i j h1 h2 h3 hn. let c0 = o.sees.told_forw me in let c1 = o.sees.told target me in let c2 = o.sees.told i j in
            let c3 = o.outside.may_be target in let c4 = o.outside.may_be me in let c5 = o.order.next_in me j in
            let c6 = o.order.next_below target me in let c7 = o.order.next_below me j in let c8 = o.fronts.queue target in
            let c9 = o.backs.skip_back j target me in let o : ℕ = 0 in grind (arith, nat_tests, c0, c1, c2, c3, c4, c5, c6, c7, c8, c9);
        untold = λ i j m h1 h2 h3 h4. let c0 = o.order.next_in (link (s.tags target).forw) j in
            let c1 = o.order.next_first me (link (s.tags me).forw) m in let c2 = o.order.apart (link (s.tags target).forw) m in
            let c3 = o.backs.ahead (link (s.tags me).forw) m in let c4 = o.sees.untold i me m in let c5 = o.sees.untold i j m in
            let c6 = o.sees.told_forw me in let c7 = o.sees.told me j in let c8 = o.own.suited target in let c9 = o.outside.may_be target in
            let c10 = o.outside.may_be me in let c11 = o.order.next_first g.last_front me i in let c12 = o.order.next_below me j in
            let c13 = o.order.next_below i me in let c14 = o.fronts.front i in let c15 = o.backs.skip_stale_out j m me in
            let c16 = o.backs.skip_stale j m me in let o : ℕ = 0 in
            grind (arith, nat_tests, c0, c1, c2, c3, c4, c5, c6, c7, c8, c9, c10, c11, c12, c13, c14, c15, c16);
        unlinked = λ p x h1 h2 h3 h4. let c0 = o.sees.unlinked p x in let c1 = o.sees.forw_seen p me in
            let c2 = o.sees.back_parting me target in let c3 = o.sees.back_front x in let c4 = o.sees.back_behind x in
            let c5 = o.own.suited target in let c6 = o.own.suited p in let c7 = o.outside.may_be target in let c8 = o.outside.may_be p in
            let c9 = o.order.next_in target x in let c10 = o.order.next_first target me p in
            let c11 = o.order.next_first target x g.last_front in let c12 = o.order.next_first p me target in
            let c13 = o.order.next_below target x in let c14 = o.order.next_below g.last_front x in
            let c15 = o.order.apart target g.last_front in let c16 = o.order.apart me p in let c17 = o.order.apart p target in
            let c18 = o.fronts.queue me in let c19 = o.fronts.body p in let o : ℕ = 0 in
            grind (arith, nat_tests, c0, c1, c2, c3, c4, c5, c6, c7, c8, c9, c10, c11, c12, c13, c14, c15, c16, c17, c18, c19);
      };
      words = record {
        victim = let c = o.words.victim in let o : ℕ = 0 in grind (arith, nat_tests, c);
        victim_forw = λ i x h1 h2. let c0 = o.words.victim_forw i x in let c1 = o.words.victim i target in let o : ℕ = 0 in
            grind (arith, nat_tests, c0, c1);
        victim_back = let c = o.words.victim_back in let o : ℕ = 0 in grind (arith, nat_tests, c);
        victim_kind = let c = o.words.victim_kind in let o : ℕ = 0 in grind (arith, nat_tests, c);
        victim_held = let c = o.words.victim_held in let o : ℕ = 0 in grind (arith, nat_tests, c);
        copied = let c = o.words.copied in let o : ℕ = 0 in grind (arith, nat_tests, c);
        copied_forw = λ i x h1 h2. let c0 = o.words.copied_forw i x in let c1 = o.slots.copied_held i target in let o : ℕ = 0 in
            grind (arith, nat_tests, c0, c1);
        copied_back = let c = o.words.copied_back in let o : ℕ = 0 in grind (arith, nat_tests, c);
        copied_kind = let c = o.words.copied_kind in let o : ℕ = 0 in grind (arith, nat_tests, c);
        copied_held = let c = o.words.copied_held in let o : ℕ = 0 in grind (arith, nat_tests, c);
        copied_word_back = let c = o.words.copied_word_back in let o : ℕ = 0 in grind (arith, nat_tests, c);
        held_kind = let c = o.words.held_kind in let o : ℕ = 0 in grind (arith, nat_tests, c);
        held_forw = λ i h1. let c0 = o.words.held_forw i in let c1 = o.slots.holding target in let o : ℕ = 0 in
            grind (arith, nat_tests, c0, c1);
        held_back = let c = o.words.held_back in let o : ℕ = 0 in grind (arith, nat_tests, c);
      };
      slots = record {
        memory_out = let c = o.slots.memory_out in let o : ℕ = 0 in grind (arith, nat_tests, c);
        memory_home = let c = o.slots.memory_home in let o : ℕ = 0 in grind (arith, nat_tests, c);
        lends = let c = o.slots.lends in let o : ℕ = 0 in grind (arith, nat_tests, c);
        lends_one = let c = o.slots.lends_one in let o : ℕ = 0 in grind (arith, nat_tests, c);
        borrower_has = let c = o.slots.borrower_has in let o : ℕ = 0 in grind (arith, nat_tests, c);
        fetching = let c = o.slots.fetching in let o : ℕ = 0 in grind (arith, nat_tests, c);
        writing = let c = o.slots.writing in let o : ℕ = 0 in grind (arith, nat_tests, c);
        in_hand = let c = o.slots.in_hand in let o : ℕ = 0 in grind (arith, nat_tests, c);
        at_home = let c = o.slots.at_home in let o : ℕ = 0 in grind (arith, nat_tests, c);
        held_out = let c = o.slots.held_out in let o : ℕ = 0 in grind (arith, nat_tests, c);
        held_by = let c = o.slots.held_by in let o : ℕ = 0 in grind (arith, nat_tests, c);
        held_for = let c = o.slots.held_for in let o : ℕ = 0 in grind (arith, nat_tests, c);
        holding = let c = o.slots.holding in let o : ℕ = 0 in grind (arith, nat_tests, c);
        copied_held = let c = o.slots.copied_held in let o : ℕ = 0 in grind (arith, nat_tests, c);
        copied_idle = let c = o.slots.copied_idle in let o : ℕ = 0 in grind (arith, nat_tests, c);
        copied_by = let c = o.slots.copied_by in let o : ℕ = 0 in grind (arith, nat_tests, c);
      };
      mode = let c = o.mode in let o : ℕ = 0 in grind (arith, nat_tests, c);
      values = let c = o.values in let o : ℕ = 0 in grind (arith, nat_tests, c);
    }

pub tell_predecessor_keeps_links : (n : ℕ) (s : State) (b : Below n (shape s)) (me : ℕ) (me_below : me < n) (target : ℕ) (forw : Option ℕ)
    (told : Bool)
    → (pending : s.steps me ≡ Pending.Rolling told (Some (forw, target)))
    → Below n (shape (after_tell_predecessor s me target forw told))
tell_predecessor_keeps_links n s b me me_below target forw told pending =
    let pending : StepFields (s.steps me) (Pending.Rolling told (Some (forw, target))) = step_fields pending in
    grind (arith, nat_tests, b.head, b.forw, b.back, b.kept, b.word_forw, b.seen_forw, b.seen_back)
