use Rattle.std.proofs.Common.{arith}
use Rattle.sci_trace.proofs.Digits.{one_digit, one_spaced, more_digits, more_spaced}
use Rattle.sci_trace.proofs.numbers.short_number.Goals as goal

pub returns-then-number-lt10-clause-digits : goal.returns-then-number-lt10-clause-digits
returns-then-number-lt10-clause-digits c = one_digit c.args.number c.if-number-lt10.true

pub returns-then-number-lt10-clause-spaced : goal.returns-then-number-lt10-clause-spaced
returns-then-number-lt10-clause-spaced c = one_spaced c.args.number c.if-number-lt10.true

pub returns-clause-digits : goal.returns-clause-digits
returns-clause-digits c = more_digits c.args.number (omega arith) c.requires

pub returns-clause-spaced : goal.returns-clause-spaced
returns-clause-spaced c = more_spaced c.args.number (omega arith) c.requires
