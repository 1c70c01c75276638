use Rattle.std.proofs.Common.{◌≡◌, ℕ, ◌<◌, false, None, arith}
use Rattle.std.proofs.lemmas.Bool.Decides.{nat_tests}
use Rattle.sci_words.specs.declared.tags.Kind.{Kind}
use Rattle.sci_core.specs.declared.pending.Pending.{Pending}
use Rattle.sci_core.specs.State.{State, update, word}
use Rattle.sci_core.specs.Shape.{link, shape}
use Rattle.sci_core.specs.Law.{Witness, Law, Below}
use Rattle.sci_core.proofs.Fields.{StepFields, step_fields}

-- The node, a valid body entry, is on its way out.
abbrev pub after_roll : State → ℕ → State
after_roll s me = record s {
  tags = update s.tags me (word Kind.Roll (s.tags me).forw (s.tags me).back);
  steps = update s.steps me (Pending.Rolling false None);
}

pub roll_keeps_law : (s : State) (g : Witness) (o : Law (shape s) g) (me : ℕ)
    → (pending : s.steps me ≡ Pending.Idle)
    → (me_valid : (s.tags me).kind ≡ Kind.Valid)
    → (me_unheld : (s.tags me).held ≡ false)
    → Law (shape (after_roll s me)) g
roll_keeps_law s g o me pending me_valid me_unheld =
    let pending : StepFields (s.steps me) Pending.Idle = step_fields pending in
    let me_in : 0 < g.rank me = grind (arith, o.outside.may_be me) in
    record {
      order = let c = o.order in let o : ℕ = 0 in grind (arith, nat_tests, c);
      fronts = let c = o.fronts in let o : ℕ = 0 in grind (arith, nat_tests, c);
      own = let c = o.own in let o : ℕ = 0 in grind (arith, nat_tests, c);
      outside = let c = o.outside in let o : ℕ = 0 in grind (arith, nat_tests, c);
      backs = let c = o.backs in let o : ℕ = 0 in grind (arith, nat_tests, c);
      sees = record {
        none_seen = λ i h1 h2 h3. let c0 = o.sees.none_seen in let o : ℕ = 0 in grind (arith, nat_tests, c0);
        forw_seen = λ i x h1 h2 h3 h4 h5. let c0 = o.sees.forw_seen in let o : ℕ = 0 in grind (arith, nat_tests, c0);
        back_some = λ i h1 h2 hn. let c0 = o.sees.back_some in let o : ℕ = 0 in grind (arith, nat_tests, c0);
        back_ahead = λ i x h1 h2 h3 h4. let c0 = o.sees.back_ahead in let o : ℕ = 0 in grind (arith, nat_tests, c0);
        back_parting = λ i x h1 h2 h3. let c0 = o.sees.back_parting in let o : ℕ = 0 in grind (arith, nat_tests, c0);
        back_seen = λ i h1 h2 h3. let c0 = o.sees.back_seen in let o : ℕ = 0 in grind (arith, nat_tests, c0);
        back_behind = λ i h1 h2 h3. let c0 = o.sees.back_behind in let o : ℕ = 0 in grind (arith, nat_tests, c0);
        back_front = λ i h1 h2 h3. let c0 = o.sees.back_front in let o : ℕ = 0 in grind (arith, nat_tests, c0);
        told_seen = λ i h1 h2. let c0 = o.sees.told_seen in let o : ℕ = 0 in grind (arith, nat_tests, c0);
        told_forw = λ i h1 h2. let c0 = o.sees.told_forw in let o : ℕ = 0 in grind (arith, nat_tests, c0);
        told_some = λ i h1 h2 hn. let c0 = o.sees.told_some in let o : ℕ = 0 in grind (arith, nat_tests, c0);
        told = λ i j h1 h2 h3 hn. let c0 = o.sees.told in let o : ℕ = 0 in grind (arith, nat_tests, c0);
        untold = λ i j m h1 h2 h3 h4. let c0 = o.order.next_first me (link (s.tags me).forw) m in
            let c1 = o.backs.ahead (link (s.tags me).forw) m in let c2 = o.sees.untold i j m in let c3 = o.outside.may_be me in
            let c4 = o.order.next_in me j in let c5 = o.order.next_below me j in let c6 = o.order.apart me m in
            let c7 = o.fronts.front me in let c8 = o.backs.skip_roll_out j m me in let c9 = o.backs.skip_roll j m me in let o : ℕ = 0 in
            grind (arith, nat_tests, c0, c1, c2, c3, c4, c5, c6, c7, c8, c9);
        unlinked = λ p x h1 h2 h3 h4. let c0 = o.sees.unlinked in let o : ℕ = 0 in grind (arith, nat_tests, c0);
      };
      words = record {
        victim = let c = o.words.victim in let o : ℕ = 0 in grind (arith, nat_tests, c);
        victim_forw = let c = o.words.victim_forw in let o : ℕ = 0 in grind (arith, nat_tests, c);
        victim_back = let c = o.words.victim_back in let o : ℕ = 0 in grind (arith, nat_tests, c);
        victim_kind = let c = o.words.victim_kind in let o : ℕ = 0 in grind (arith, nat_tests, c);
        victim_held = let c = o.words.victim_held in let o : ℕ = 0 in grind (arith, nat_tests, c);
        copied = λ i x h1 h2. let c0 = o.words.copied i x in let c1 = o.slots.copied_held i me in let o : ℕ = 0 in
            grind (arith, nat_tests, c0, c1);
        copied_forw = let c = o.words.copied_forw in let o : ℕ = 0 in grind (arith, nat_tests, c);
        copied_back = let c = o.words.copied_back in let o : ℕ = 0 in grind (arith, nat_tests, c);
        copied_kind = let c = o.words.copied_kind in let o : ℕ = 0 in grind (arith, nat_tests, c);
        copied_held = let c = o.words.copied_held in let o : ℕ = 0 in grind (arith, nat_tests, c);
        copied_word_back = let c = o.words.copied_word_back in let o : ℕ = 0 in grind (arith, nat_tests, c);
        held_kind = let c = o.words.held_kind in let o : ℕ = 0 in grind (arith, nat_tests, c);
        held_forw = let c = o.words.held_forw in let o : ℕ = 0 in grind (arith, nat_tests, c);
        held_back = let c = o.words.held_back in let o : ℕ = 0 in grind (arith, nat_tests, c);
      };
      slots = record {
        memory_out = let c = o.slots.memory_out in let o : ℕ = 0 in grind (arith, nat_tests, c);
        memory_home = let c = o.slots.memory_home in let o : ℕ = 0 in grind (arith, nat_tests, c);
        lends = let c = o.slots.lends in let o : ℕ = 0 in grind (arith, nat_tests, c);
        lends_one = let c = o.slots.lends_one in let o : ℕ = 0 in grind (arith, nat_tests, c);
        borrower_has = let c = o.slots.borrower_has in let o : ℕ = 0 in grind (arith, nat_tests, c);
        fetching = let c = o.slots.fetching in let o : ℕ = 0 in grind (arith, nat_tests, c);
        writing = let c = o.slots.writing in let o : ℕ = 0 in grind (arith, nat_tests, c);
        in_hand = let c = o.slots.in_hand in let o : ℕ = 0 in grind (arith, nat_tests, c);
        at_home = let c = o.slots.at_home in let o : ℕ = 0 in grind (arith, nat_tests, c);
        held_out = let c = o.slots.held_out in let o : ℕ = 0 in grind (arith, nat_tests, c);
        held_by = let c = o.slots.held_by in let o : ℕ = 0 in grind (arith, nat_tests, c);
        held_for = let c = o.slots.held_for in let o : ℕ = 0 in grind (arith, nat_tests, c);
        holding = let c = o.slots.holding in let o : ℕ = 0 in grind (arith, nat_tests, c);
        copied_held = let c = o.slots.copied_held in let o : ℕ = 0 in grind (arith, nat_tests, c);
        copied_idle = λ i x h1 h2. let c0 = o.slots.copied_idle i x in let c1 = o.slots.copied_held i me in let o : ℕ = 0 in
            grind (arith, nat_tests, c0, c1);
        copied_by = let c = o.slots.copied_by in let o : ℕ = 0 in grind (arith, nat_tests, c);
      };
      mode = let c = o.mode in let o : ℕ = 0 in grind (arith, nat_tests, c);
      values = let c = o.values in let o : ℕ = 0 in grind (arith, nat_tests, c);
    }

pub roll_keeps_links : (n : ℕ) (s : State) (b : Below n (shape s)) (me : ℕ) (me_below : me < n)
    → (pending : s.steps me ≡ Pending.Idle)
    → Below n (shape (after_roll s me))
roll_keeps_links n s b me me_below pending =
    let pending : StepFields (s.steps me) Pending.Idle = step_fields pending in
    grind (arith, nat_tests, b.head, b.forw, b.back, b.kept, b.word_forw, b.seen_forw, b.seen_back)
