use Rattle.std.proofs.Common.{◌∙◌, ap, zero, suc, [], ◌∷◌, sym, subst}
use mathlib.Core.Option.{some-injective, some-ne-none}
use Rattle.sci_port.specs.SeatBanks.{AreLines, AreSeatsOf}
use Rattle.sci_port.proofs.TwoLines.{two_lines}
use Rattle.sci_shared_tests.proofs.lines.banks.two_lines.Goals as goal

two_seats : {L S : Type 0} (of : L → S → Type 0) (a b : L) (s t : S) → of a s → of b t → AreSeatsOf of (a ∷ b ∷ []) (s ∷ t ∷ [])
two_seats {L} {S} of a b s t one two zero l u lk uk = subst (λ (z : L × S). of z.0 z.1) (λ i. (some-injective a l lk i, some-injective s u uk i)) one
two_seats {L} {S} of a b s t one two (suc zero) l u lk uk = subst (λ (z : L × S). of z.0 z.1) (λ i. (some-injective b l lk i, some-injective t u uk i)) two
two_seats of a b s t one two (suc (suc k)) l u lk uk = absurd (some-ne-none l (sym lk))

pub returns : goal.returns
returns g c =
    let first = c.in_ok-first.ensures in let second = c.in_ok-second.ensures in
    let of = g.L.SharedLine.is_seat in let is = sym c.in_ok-lines.ensures in
    record {
      lines = subst (λ l. AreLines g.L.SharedLine.terms l) is (two_lines 2 _ c.in_ok-first.first c.in_ok-second.second first.line second.line);
      zeros = subst (λ l. AreSeatsOf of l (c.in_ok-first.zero ∷ c.in_ok-second.other_zero ∷ [])) is (two_seats of c.in_ok-first.first c.in_ok-second.second c.in_ok-first.zero c.in_ok-second.other_zero first.seats.0 second.seats.0);
      zero_one = subst (λ l. AreSeatsOf of l (c.in_ok-first.zero ∷ c.in_ok-second.other_one ∷ [])) is (two_seats of c.in_ok-first.first c.in_ok-second.second c.in_ok-first.zero c.in_ok-second.other_one first.seats.0 second.seats.1);
      number = ap (λ t. t.number) (g.met.L.SharedLine.laws.same_terms c.in_ok-second.second c.in_ok-second.other_zero second.seats.0) ∙ second.line.number;
    }
