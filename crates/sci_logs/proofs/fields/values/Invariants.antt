use Rattle.std.proofs.Common.{◌≡◌, ◌-◌, length, take}
use Rattle.sci_logs.specs.LineText.{values_at}
use Rattle.sci_logs.proofs.Values.{with_values}
use Rattle.sci_logs.proofs.fields.values.Given as goal

-- the values so far and those of what is left are those of all
abbrev pub invariant-loop-i : goal.invariant-loop-i
invariant-loop-i l =
    record {
      left : with_values (take l.i l.values) (values_at (8 - l.i) l.rest) ≡ values_at 8 l.text;
      eight : length l.values ≡ 8;
    }
