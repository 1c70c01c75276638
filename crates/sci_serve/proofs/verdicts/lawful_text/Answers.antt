use Rattle.std.proofs.Common.{◌≡◌, ℕ, ◌+◌, List, [], ◌∷◌, ◌++◌, take, refl, sym, ap, ◌∙◌, subst, arith, length-take}
use Rattle.std.proofs.lemmas.List.{take_more}
use Rattle.sci_core.specs.Closed.{ClosedLine, IsExactClosed}
use Rattle.sci_serve.specs.Verdicts.{list_of, AreListsOf}
use Rattle.sci_serve.proofs.Listing.{lists_more}
use Rattle.sci_serve.proofs.verdicts.lawful_text.Goals as goal

pub loop-number-init : goal.loop-number-init
unfolding AreListsOf
loop-number-init c = ([], refl, c.new-text.ensures.bytes)

pub loop-number-preserved : goal.loop-number-preserved
loop-number-preserved c =
    let (lists, are, is) = c.loop-number.invariant in
    let number = c.loop-number.number in
    let lines = c.args.lines.now in
    let line = c.index-lines-number.result in
    let exact = subst IsExactClosed (sym c.index-lines-number.is) (c.requires.exact number line c.loop-number-test.true) in
    let more : take (number + 1) lines ≡ take number lines ++ line ∷ [] =
    take_more lines number line c.loop-number-test.true ∙ ap (λ (l : ClosedLine). take number lines ++ l ∷ []) (sym c.index-lines-number.is) in
    rw more (
      lists ++ list_of number line exact.0,
      lists_more 0 number (take number lines) line lists (list_of number line exact.0) (omega (arith, length-take number lines, c.loop-number-test.true)) are (exact.0, exact.1.ending, refl),
      c.in_ok-push_list.ensures exact.0 exact.1.ending ∙ ap (λ (bytes : List ℕ). bytes ++ list_of number line exact.0) is,
    )
