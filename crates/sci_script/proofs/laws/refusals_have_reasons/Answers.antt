use Rattle.sci_script.proofs.Caused.{reason_fits, first_fits, line_fits}
use Rattle.sci_script.proofs.laws.refusals_have_reasons.Goals as goal

pub returns-clause-fits : goal.returns-clause-fits
returns-clause-fits c = λ s t step nodes e why h some is. reason_fits s t step nodes e why h some is

pub returns-clause-line : goal.returns-clause-line
returns-clause-line c = λ s t line reason e why is refused some told. line_fits s t line reason e why is refused some told

pub returns-clause-first : goal.returns-clause-first
returns-clause-first c = λ said command e inside fails some. first_fits said command e inside fails some
