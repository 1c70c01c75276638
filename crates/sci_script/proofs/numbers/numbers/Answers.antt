use Rattle.std.proofs.Common.{[], ap, arith, map, subst, sym, unwrap_or, ◌∙◌}
use Rattle.std.proofs.lemmas.List.{get_or-map, length-map}
use Rattle.sci_script.specs.Grammar.{AreFrom, number_reason, value_of}
use Rattle.sci_script.proofs.Ranges.{all_numbers, number_turn, number_fault, number_over, numbers_in, numbers_more}
use Rattle.sci_script.proofs.numbers.numbers.Goals as goal

pub returns-then-not-is_within-clause-why : goal.returns-then-not-is_within-clause-why
returns-then-not-is_within-clause-why c =
    let seen = rw (c.range-range.ensures, c.number-value.ensures) at c.is_within.ensures in
    rw (c.range_reason.ensures, c.range-range.ensures)
    (sym (number_fault (λ w. w.now) c.args.args.now c.args.wanted.now c.args.size c.loop-i.i _ _ (number_reason 2 c.args.size c.args.wanted.now (map (λ w. w.now) c.args.args.now)) (omega arith) (omega arith)
    (sym seen ∙ c.if-not-is_within.true) c.loop-i.invariant.none))

pub loop-i-preserved : goal.loop-i-preserved
loop-i-preserved c =
    let seen = rw (c.range-range.ensures, c.number-value.ensures) at c.is_within.ensures in
    let all = length-map c.args.args.now (λ w. w.now) in
    record {
      none = number_turn (λ w. w.now) c.args.args.now c.args.wanted.now c.args.size c.loop-i.i _ _ (number_reason 2 c.args.size c.args.wanted.now (map (λ w. w.now) c.args.args.now)) (omega arith) (omega arith)
          (sym seen ∙ c.if-not-is_within.false) c.loop-i.invariant.none;
      value = rw c.loop-i.invariant.value (numbers_more (map (λ w. w.now) c.args.args.now) c.loop-i.i _ (omega (arith, all)) (omega (arith, all))
          (c.unwrap_or.ensures ∙ ap (λ v. unwrap_or v 0) c.number-value.ensures ∙ ap value_of (sym (get_or-map (λ w. w.now) c.args.args.now c.loop-i.i _ [] (omega arith)))));
    }

pub returns-clause-none : goal.returns-clause-none
returns-clause-none c =
    sym (number_over (map (λ w. w.now) c.args.args.now) c.args.wanted.now c.args.size c.loop-i.i (number_reason 2 c.args.size c.args.wanted.now (map (λ w. w.now) c.args.args.now)) (omega arith) c.loop-i.invariant.none)

pub returns-clause-range : goal.returns-clause-range
returns-clause-range c =
    let words = map (λ w. w.now) c.args.args.now in
    let all = length-map c.args.args.now (λ w. w.now) in
    subst (AreFrom c.args.size 0 c.args.wanted.now) (sym (all_numbers words c.loop-i.i _ (omega (arith, all)) c.loop-i.invariant.value))
    (numbers_in 2 c.args.size c.args.wanted.now words (omega (arith, all)) (returns-clause-none c))
