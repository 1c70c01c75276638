use Rattle.std.proofs.Common.{◌≡◌, ℕ, ◌<◌, Bool, Option, Some, arith}
use Rattle.std.proofs.lemmas.Bool.Decides.{nat_tests}
use Rattle.sci_core.specs.declared.lines.Line.{Line}
use Rattle.sci_core.specs.declared.pending.Pending.{Pending}
use Rattle.sci_core.specs.State.{State, update}
use Rattle.sci_core.specs.Shape.{shape}
use Rattle.sci_core.specs.Law.{Witness, Law, Below}
use Rattle.sci_core.proofs.Fields.{StepFields, step_fields}

-- The node notes its forward link while it purges.
abbrev pub after_look_purging : State → ℕ → Line → Option (Option ℕ) → State
after_look_purging s me line seen = record s {
  steps = update s.steps me (Pending.Purging line (Some (s.tags me).forw));
}

pub look_purging_keeps_law : (s : State) (g : Witness) (o : Law (shape s) g) (me : ℕ) (line : Line) (seen : Option (Option ℕ))
    → (pending : s.steps me ≡ Pending.Purging line seen)
    → Law (shape (after_look_purging s me line seen)) g
look_purging_keeps_law s g o me line seen pending =
    let pending : StepFields (s.steps me) (Pending.Purging line seen) = step_fields pending in
    record {
      order = let c = o.order in let o : ℕ = 0 in grind (arith, nat_tests, c);
      fronts = let c = o.fronts in let o : ℕ = 0 in grind (arith, nat_tests, c);
      own = let c = o.own in let o : ℕ = 0 in grind (arith, nat_tests, c);
      outside = let c = o.outside in let o : ℕ = 0 in grind (arith, nat_tests, c);
      backs = let c = o.backs in let o : ℕ = 0 in grind (arith, nat_tests, c);
      sees = record {
        none_seen = let c = o.sees.none_seen in let o : ℕ = 0 in grind (arith, nat_tests, c);
        forw_seen = let c = o.sees.forw_seen in let o : ℕ = 0 in grind (arith, nat_tests, c);
        back_some = let c = o.sees.back_some in let o : ℕ = 0 in grind (arith, nat_tests, c);
        back_ahead = let c = o.sees.back_ahead in let o : ℕ = 0 in grind (arith, nat_tests, c);
        back_parting = let c = o.sees.back_parting in let o : ℕ = 0 in grind (arith, nat_tests, c);
        back_seen = let c = o.sees.back_seen in let o : ℕ = 0 in grind (arith, nat_tests, c);
        back_behind = let c = o.sees.back_behind in let o : ℕ = 0 in grind (arith, nat_tests, c);
        back_front = let c = o.sees.back_front in let o : ℕ = 0 in grind (arith, nat_tests, c);
        told_seen = let c = o.sees.told_seen in let o : ℕ = 0 in grind (arith, nat_tests, c);
        told_forw = let c = o.sees.told_forw in let o : ℕ = 0 in grind (arith, nat_tests, c);
        told_some = let c = o.sees.told_some in let o : ℕ = 0 in grind (arith, nat_tests, c);
        told = let c = o.sees.told in let o : ℕ = 0 in grind (arith, nat_tests, c);
        untold = λ i j m h1 h2 h3 h4. let c0 = o.sees.untold in let o : ℕ = 0 in grind (arith, nat_tests, c0);
        unlinked = λ p x h1 h2 h3 h4. let c0 = o.sees.unlinked p x in let c1 = o.outside.outside x in let c2 = o.outside.may_be me in
            let c3 = o.order.next_in me x in let o : ℕ = 0 in grind (arith, nat_tests, c0, c1, c2, c3);
      };
      words = let c = o.words in let o : ℕ = 0 in grind (arith, nat_tests, c);
      slots = record {
        memory_out = let c = o.slots.memory_out in let o : ℕ = 0 in grind (arith, nat_tests, c);
        memory_home = let c = o.slots.memory_home in let o : ℕ = 0 in grind (arith, nat_tests, c);
        lends = let c = o.slots.lends in let o : ℕ = 0 in grind (arith, nat_tests, c);
        lends_one = let c = o.slots.lends_one in let o : ℕ = 0 in grind (arith, nat_tests, c);
        borrower_has = let c = o.slots.borrower_has in let o : ℕ = 0 in grind (arith, nat_tests, c);
        fetching = let c = o.slots.fetching in let o : ℕ = 0 in grind (arith, nat_tests, c);
        writing = let c = o.slots.writing in let o : ℕ = 0 in grind (arith, nat_tests, c);
        in_hand = let c = o.slots.in_hand in let o : ℕ = 0 in grind (arith, nat_tests, c);
        at_home = let c = o.slots.at_home in let o : ℕ = 0 in grind (arith, nat_tests, c);
        held_out = let c = o.slots.held_out in let o : ℕ = 0 in grind (arith, nat_tests, c);
        held_by = let c = o.slots.held_by in let o : ℕ = 0 in grind (arith, nat_tests, c);
        held_for = let c = o.slots.held_for in let o : ℕ = 0 in grind (arith, nat_tests, c);
        holding = let c = o.slots.holding in let o : ℕ = 0 in grind (arith, nat_tests, c);
        copied_held = let c = o.slots.copied_held in let o : ℕ = 0 in grind (arith, nat_tests, c);
        copied_idle = let c = o.slots.copied_idle in let o : ℕ = 0 in grind (arith, nat_tests, c);
        copied_by = let c = o.slots.copied_by in let o : ℕ = 0 in grind (arith, nat_tests, c);
      };
      mode = let c = o.mode in let o : ℕ = 0 in grind (arith, nat_tests, c);
      values = let c = o.values in let o : ℕ = 0 in grind (arith, nat_tests, c);
    }

pub look_purging_keeps_links : (n : ℕ) (s : State) (b : Below n (shape s)) (me : ℕ) (me_below : me < n) (line : Line)
    (seen : Option (Option ℕ))
    → (pending : s.steps me ≡ Pending.Purging line seen)
    → Below n (shape (after_look_purging s me line seen))
look_purging_keeps_links n s b me me_below line seen pending =
    let pending : StepFields (s.steps me) (Pending.Purging line seen) = step_fields pending in
    grind (arith, nat_tests, b.head, b.forw, b.back, b.kept, b.word_forw, b.seen_forw, b.seen_back)

-- The node notes its forward link on its way out.
abbrev pub after_look_leaving : State → ℕ → Bool → Line → Option (Option ℕ) → State
after_look_leaving s me dirty line seen = record s {
  steps = update s.steps me (Pending.Leaving dirty line (Some (s.tags me).forw));
}

pub look_leaving_keeps_law : (s : State) (g : Witness) (o : Law (shape s) g) (me : ℕ) (dirty : Bool) (line : Line)
    (seen : Option (Option ℕ))
    → (pending : s.steps me ≡ Pending.Leaving dirty line seen)
    → Law (shape (after_look_leaving s me dirty line seen)) g
look_leaving_keeps_law s g o me dirty line seen pending =
    let pending : StepFields (s.steps me) (Pending.Leaving dirty line seen) = step_fields pending in
    record {
      order = let c = o.order in let o : ℕ = 0 in grind (arith, nat_tests, c);
      fronts = let c = o.fronts in let o : ℕ = 0 in grind (arith, nat_tests, c);
      own = let c = o.own in let o : ℕ = 0 in grind (arith, nat_tests, c);
      outside = let c = o.outside in let o : ℕ = 0 in grind (arith, nat_tests, c);
      backs = let c = o.backs in let o : ℕ = 0 in grind (arith, nat_tests, c);
      sees = let c = o.sees in let o : ℕ = 0 in grind (arith, nat_tests, c);
      words = let c = o.words in let o : ℕ = 0 in grind (arith, nat_tests, c);
      slots = record {
        memory_out = let c = o.slots.memory_out in let o : ℕ = 0 in grind (arith, nat_tests, c);
        memory_home = let c = o.slots.memory_home in let o : ℕ = 0 in grind (arith, nat_tests, c);
        lends = let c = o.slots.lends in let o : ℕ = 0 in grind (arith, nat_tests, c);
        lends_one = let c = o.slots.lends_one in let o : ℕ = 0 in grind (arith, nat_tests, c);
        borrower_has = let c = o.slots.borrower_has in let o : ℕ = 0 in grind (arith, nat_tests, c);
        fetching = let c = o.slots.fetching in let o : ℕ = 0 in grind (arith, nat_tests, c);
        writing = let c = o.slots.writing in let o : ℕ = 0 in grind (arith, nat_tests, c);
        in_hand = let c = o.slots.in_hand in let o : ℕ = 0 in grind (arith, nat_tests, c);
        at_home = let c = o.slots.at_home in let o : ℕ = 0 in grind (arith, nat_tests, c);
        held_out = let c = o.slots.held_out in let o : ℕ = 0 in grind (arith, nat_tests, c);
        held_by = let c = o.slots.held_by in let o : ℕ = 0 in grind (arith, nat_tests, c);
        held_for = let c = o.slots.held_for in let o : ℕ = 0 in grind (arith, nat_tests, c);
        holding = let c = o.slots.holding in let o : ℕ = 0 in grind (arith, nat_tests, c);
        copied_held = let c = o.slots.copied_held in let o : ℕ = 0 in grind (arith, nat_tests, c);
        copied_idle = let c = o.slots.copied_idle in let o : ℕ = 0 in grind (arith, nat_tests, c);
        copied_by = let c = o.slots.copied_by in let o : ℕ = 0 in grind (arith, nat_tests, c);
      };
      mode = let c = o.mode in let o : ℕ = 0 in grind (arith, nat_tests, c);
      values = let c = o.values in let o : ℕ = 0 in grind (arith, nat_tests, c);
    }

pub look_leaving_keeps_links : (n : ℕ) (s : State) (b : Below n (shape s)) (me : ℕ) (me_below : me < n) (dirty : Bool) (line : Line)
    (seen : Option (Option ℕ))
    → (pending : s.steps me ≡ Pending.Leaving dirty line seen)
    → Below n (shape (after_look_leaving s me dirty line seen))
look_leaving_keeps_links n s b me me_below dirty line seen pending =
    let pending : StepFields (s.steps me) (Pending.Leaving dirty line seen) = step_fields pending in
    grind (arith, nat_tests, b.head, b.forw, b.back, b.kept, b.word_forw, b.seen_forw, b.seen_back)

-- The node, a body entry on its way out, notes its forward and its back link.
abbrev pub after_look_rolling : State → ℕ → Bool → ℕ → (Option (Option ℕ × ℕ)) → State
after_look_rolling s me told back seen = record s {
  steps = update s.steps me (Pending.Rolling told (Some ((s.tags me).forw, back)));
}

pub look_rolling_keeps_law : (s : State) (g : Witness) (o : Law (shape s) g) (me : ℕ) (told : Bool) (back : ℕ)
    (seen : Option (Option ℕ × ℕ))
    → (pending : s.steps me ≡ Pending.Rolling told seen)
    → (me_back : (s.tags me).back ≡ Some back)
    → Law (shape (after_look_rolling s me told back seen)) g
look_rolling_keeps_law s g o me told back seen pending me_back =
    let pending : StepFields (s.steps me) (Pending.Rolling told seen) = step_fields pending in
    record {
      order = let c = o.order in let o : ℕ = 0 in grind (arith, nat_tests, c);
      fronts = let c = o.fronts in let o : ℕ = 0 in grind (arith, nat_tests, c);
      own = let c = o.own in let o : ℕ = 0 in grind (arith, nat_tests, c);
      outside = let c = o.outside in let o : ℕ = 0 in grind (arith, nat_tests, c);
      backs = let c = o.backs in let o : ℕ = 0 in grind (arith, nat_tests, c);
      sees = record {
        none_seen = let c = o.sees.none_seen in let o : ℕ = 0 in grind (arith, nat_tests, c);
        forw_seen = let c = o.sees.forw_seen in let o : ℕ = 0 in grind (arith, nat_tests, c);
        back_some = let c = o.sees.back_some in let o : ℕ = 0 in grind (arith, nat_tests, c);
        back_ahead = λ i x h1 h2 h3 h4. let c0 = o.sees.back_ahead i x in let c1 = o.backs.ahead i x in let o : ℕ = 0 in
            grind (arith, nat_tests, c0, c1);
        back_parting = λ i x h1 h2 h3. let c0 = o.sees.back_parting i x in let c1 = o.outside.may_be me in
            let c2 = o.backs.parting me back in let o : ℕ = 0 in grind (arith, nat_tests, c0, c1, c2);
        back_seen = let c = o.sees.back_seen in let o : ℕ = 0 in grind (arith, nat_tests, c);
        back_behind = let c = o.sees.back_behind in let o : ℕ = 0 in grind (arith, nat_tests, c);
        back_front = let c = o.sees.back_front in let o : ℕ = 0 in grind (arith, nat_tests, c);
        told_seen = let c = o.sees.told_seen in let o : ℕ = 0 in grind (arith, nat_tests, c);
        told_forw = let c = o.sees.told_forw in let o : ℕ = 0 in grind (arith, nat_tests, c);
        told_some = let c = o.sees.told_some in let o : ℕ = 0 in grind (arith, nat_tests, c);
        told = let c = o.sees.told in let o : ℕ = 0 in grind (arith, nat_tests, c);
        untold = λ i j m h1 h2 h3 h4. let c0 = o.sees.untold in let o : ℕ = 0 in grind (arith, nat_tests, c0);
        unlinked = let c = o.sees.unlinked in let o : ℕ = 0 in grind (arith, nat_tests, c);
      };
      words = let c = o.words in let o : ℕ = 0 in grind (arith, nat_tests, c);
      slots = record {
        memory_out = let c = o.slots.memory_out in let o : ℕ = 0 in grind (arith, nat_tests, c);
        memory_home = let c = o.slots.memory_home in let o : ℕ = 0 in grind (arith, nat_tests, c);
        lends = let c = o.slots.lends in let o : ℕ = 0 in grind (arith, nat_tests, c);
        lends_one = let c = o.slots.lends_one in let o : ℕ = 0 in grind (arith, nat_tests, c);
        borrower_has = let c = o.slots.borrower_has in let o : ℕ = 0 in grind (arith, nat_tests, c);
        fetching = let c = o.slots.fetching in let o : ℕ = 0 in grind (arith, nat_tests, c);
        writing = let c = o.slots.writing in let o : ℕ = 0 in grind (arith, nat_tests, c);
        in_hand = let c = o.slots.in_hand in let o : ℕ = 0 in grind (arith, nat_tests, c);
        at_home = let c = o.slots.at_home in let o : ℕ = 0 in grind (arith, nat_tests, c);
        held_out = let c = o.slots.held_out in let o : ℕ = 0 in grind (arith, nat_tests, c);
        held_by = let c = o.slots.held_by in let o : ℕ = 0 in grind (arith, nat_tests, c);
        held_for = let c = o.slots.held_for in let o : ℕ = 0 in grind (arith, nat_tests, c);
        holding = let c = o.slots.holding in let o : ℕ = 0 in grind (arith, nat_tests, c);
        copied_held = let c = o.slots.copied_held in let o : ℕ = 0 in grind (arith, nat_tests, c);
        copied_idle = let c = o.slots.copied_idle in let o : ℕ = 0 in grind (arith, nat_tests, c);
        copied_by = let c = o.slots.copied_by in let o : ℕ = 0 in grind (arith, nat_tests, c);
      };
      mode = let c = o.mode in let o : ℕ = 0 in grind (arith, nat_tests, c);
      values = let c = o.values in let o : ℕ = 0 in grind (arith, nat_tests, c);
    }

pub look_rolling_keeps_links : (n : ℕ) (s : State) (b : Below n (shape s)) (me : ℕ) (me_below : me < n) (told : Bool) (back : ℕ)
    (seen : Option (Option ℕ × ℕ))
    → (pending : s.steps me ≡ Pending.Rolling told seen)
    → (me_back : (s.tags me).back ≡ Some back)
    → Below n (shape (after_look_rolling s me told back seen))
look_rolling_keeps_links n s b me me_below told back seen pending me_back =
    let pending : StepFields (s.steps me) (Pending.Rolling told seen) = step_fields pending in
    grind (arith, nat_tests, b.head, b.forw, b.back, b.kept, b.word_forw, b.seen_forw, b.seen_back)
