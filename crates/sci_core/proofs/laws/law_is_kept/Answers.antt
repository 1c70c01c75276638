use Rattle.std.proofs.Common.{refl, sym, subst}
use Rattle.sci_core.specs.State.{State}
use Rattle.sci_core.specs.Whole.{IsRuled}
use Rattle.sci_core.proofs.Opening.{opened_witness, opened_is_lawful, opened_links}
use Rattle.sci_core.proofs.Sound.{going, ruled_after, ruled_looked}
use Rattle.sci_core.proofs.Lawfully.{done_keeps, lawful_line, looked_keeps}
use Rattle.sci_core.proofs.laws.law_is_kept.Goals as goal

pub returns-clause-opened : goal.returns-clause-opened
returns-clause-opened g c n keep number line fit = record { witness = opened_witness line; law = opened_is_lawful n line; links = opened_links n line; words = record { memory = refl; tags = λ i. refl }; fit = fit }

pub returns-clause-lawful : goal.returns-clause-lawful
returns-clause-lawful g c n keep number s r = lawful_line n (g.K.Keeps.fits keep number) s r

pub returns-clause-home : goal.returns-clause-home
returns-clause-home g c n keep number s me e r below allowed finds = (going n (g.K.Keeps.fits keep number) s r me below e allowed finds).home

pub returns-clause-exchange : goal.returns-clause-exchange
returns-clause-exchange g c n keep number s t me e answer r below fit m = (
  subst (λ (u : State). IsRuled n (g.K.Keeps.fits keep number) u) (sym m.next) (ruled_after n (g.K.Keeps.fits keep number) s r me below e m.allowed m.finds fit),
  done_keeps n (g.K.Keeps.fits keep number) s t me e answer r below fit m,
)

pub returns-clause-look : goal.returns-clause-look
returns-clause-look g c n keep number s me r below = (ruled_looked n (g.K.Keeps.fits keep number) s r me below, looked_keeps n (g.K.Keeps.fits keep number) s r me below)
