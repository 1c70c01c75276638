use Rattle.std.proofs.Common.{rules, Some, refl}
use Rattle.sci_settings.specs.declared.works.Work.TheVariants as work
use Rattle.sci_settings.specs.Settings.{settings_for}
use Rattle.sci_settings.proofs.settings.ring_in.Goals as goal

pub returns : goal.returns
unfolding settings_for
returns c = search rules

pub returns-in_err-lines-clause-why : goal.returns-in_err-lines-clause-why
returns-in_err-lines-clause-why c = let why = c.in_err-lines.ensures.why (Some work.Ring) refl in search rules

pub returns-in_err-capacity-clause-why : goal.returns-in_err-capacity-clause-why
returns-in_err-capacity-clause-why c = let why = c.in_err-capacity.ensures.why (Some work.Ring) refl in search rules

pub returns-in_err-items-clause-why : goal.returns-in_err-items-clause-why
returns-in_err-items-clause-why c = let why = c.in_err-items.ensures.why (Some work.Ring) refl refl in search rules

pub returns-in_err-dump-clause-why : goal.returns-in_err-dump-clause-why
returns-in_err-dump-clause-why c = let why = c.in_err-dump.ensures.why (Some work.Ring) refl in search rules
