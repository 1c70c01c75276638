use Rattle.std.proofs.Common.{◌≡◌, ℕ, ◌<◌, get_or, vec_items, vec_len}
use Rattle.sci_port.specs.Banks.{IsLineOf}
use Rattle.sci_work.specs.Ring.{FitsRing}
use Rattle.sci_work_tests.proofs.rings.opened.Given as goal

abbrev pub invariant-loop-number : goal.invariant-loop-number
invariant-loop-number l = record {
  len : vec_len l.wholes ≡ l.number;
  fits : FitsRing l.fact.source.now l.fact.lines l.number l.words;
  each : (k : ℕ) (d : _) → k < l.number → IsLineOf l.fact l.me k (get_or (vec_items l.wholes) k d);
}
