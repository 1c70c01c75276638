-- A line that nobody has used is lawful.
use Rattle.std.proofs.Common.{ℕ, arith}
use Rattle.std.proofs.lemmas.Bool.Decides.{nat_tests}
use Rattle.sci_core.specs.declared.lines.Line.{Line}
use Rattle.sci_core.specs.State.{opened}
use Rattle.sci_core.specs.Shape.{shape}
use Rattle.sci_core.specs.Law.{Witness, Law, Below}

abbrev pub opened_witness : Line → Witness
opened_witness line = record { rank = λ _. 0; last_front = 0; clearer = λ _. 0; copier = λ _. 0; borrower = 0; value = line }

pub opened_is_lawful : (n : ℕ) (line : Line) → Law (shape (opened n line)) (opened_witness line)
opened_is_lawful n line = record {
  order = grind (arith, nat_tests);
  fronts = grind (arith, nat_tests);
  own = grind (arith, nat_tests);
  outside = grind (arith, nat_tests);
  backs = grind (arith, nat_tests);
  sees = grind (arith, nat_tests);
  words = grind (arith, nat_tests);
  slots = grind (arith, nat_tests);
  mode = grind (arith, nat_tests);
  values = grind (arith, nat_tests);
}

pub opened_links : (n : ℕ) (line : Line) → Below n (shape (opened n line))
opened_links n line = grind (arith, nat_tests)
