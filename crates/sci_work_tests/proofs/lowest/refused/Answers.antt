use Rattle.std.proofs.Common.{◌≡◌, ◌∷◌, ◌∙◌, [], ℕ, List, refl, sym, subst, arith, vec_len}
use mathlib.Core.Option.{some-ne-none}
use Rattle.sci_core.specs.declared.keeps.AnyWords.{AnyWords}
use Rattle.sci_fine.specs.Banks.{IsLine}
use Rattle.sci_work.specs.Starts.{AreParts}
use Rattle.sci_work.specs.declared.recording.Recording.{Recording}
use Rattle.sci_work.specs.declared.programs.Program.{Program}
use Rattle.sci_work.proofs.Dealing.{new_seats}
use Rattle.sci_work.proofs.Handed.{none_written}
use Rattle.sci_work.proofs.Opening.{parts_of}
use Rattle.sci_work.proofs.Seated.{at_more}
use Rattle.sci_work_tests.proofs.lowest.refused.Goals as goal

abbrev any_words : AnyWords → ℕ → List ℕ → Type 0
any_words keep line words = Unit {0}

pub dealt-requires : goal.dealt-requires
dealt-requires g c = new_seats c.in-Ok.line c.in-Ok.seats.items c.in-Ok.ensures.seats.1 c.in-Ok.ensures.new

pub run_all-requires-after_bounds : goal.run_all-requires-after_bounds
run_all-requires-after_bounds g c κs within =
    let line = c.in-Ok.line in let hands = c.in_ok-hands.hands in let program = Program.Count 1 in let t = c.in-Ok.ensures.terms in
    let len : vec_len hands ≡ 2 = c.in_ok-hands.ensures.len ∙ c.in-Ok.ensures.seats.0 in
    let is_line = at_more (IsLine 2 _) [] (line ∷ []) line refl (λ k x e. absurd (some-ne-none x (sym e))) record { number = t.number; nodes_are = t.nodes; fact = t.keep } in
    subst (λ (z : List _). AreParts any_words Recording.Nothing z program hands) (sym c.from_ref.ensures.value)
    (parts_of any_words Recording.Nothing 2 _ 1 program (line ∷ []) hands refl (omega arith) (omega arith) is_line len (omega arith)
    (λ k hand at. (c.in_ok-hands.ensures.each k hand at, none_written c.in-Ok.seats.items c.in-Ok.ensures.new hands.items c.in_ok-hands.ensures.hold k hand at)) (λ k low. (omega arith, λ words size fits. tt)))
