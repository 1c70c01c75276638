use Rattle.std.proofs.Common.{arith, sym, ◌∙◌, ap, length}
use Rattle.std.specs.Str.Lines.{lines}
use Rattle.std.proofs.lemmas.Bool.{eqb-true}
use Rattle.std.proofs.lemmas.List.{nil_from_length}
use Rattle.sci_script.specs.Format.{entries_from}
use Rattle.sci_script.proofs.Reading.{entries_skip, entries_found, entries_end}
use Rattle.sci_script.proofs.reader.first_entry.Goals as goal

pub returns-then-not-is_skipped-clause-found : goal.returns-then-not-is_skipped-clause-found
returns-then-not-is_skipped-clause-found c =
    sym c.loop-rest.invariant.left ∙ ap (entries_from c.loop-rest.at) c.first_line.ensures.first
    ∙ entries_found c.loop-rest.at c.first_line.result.0.now (lines c.first_line.result.1.now) c.is_skipped.result c.is_skipped.ensures c.if-not-is_skipped.true

pub loop-rest-preserved : goal.loop-rest-preserved
loop-rest-preserved c =
    record {
      left = sym (entries_skip c.loop-rest.at c.first_line.result.0.now (lines c.first_line.result.1.now) c.is_skipped.result c.is_skipped.ensures c.if-not-is_skipped.false)
          ∙ sym (ap (entries_from c.loop-rest.at) c.first_line.ensures.first) ∙ c.loop-rest.invariant.left;
      counted = omega (arith, ap length c.first_line.ensures.first);
      shorter = omega arith;
      room = omega arith;
    }

pub returns-clause-none : goal.returns-clause-none
returns-clause-none c =
    let none = nil_from_length c.loop-rest.rest.now (eqb-true _ _ (sym c.is_empty.ensures ∙ c.loop-rest-test.false)) in
    (sym c.loop-rest.invariant.left ∙ ap (λ t. entries_from c.loop-rest.at (lines t)) none ∙ entries_end c.loop-rest.at, omega (arith, ap (λ t. length (lines t)) none))
