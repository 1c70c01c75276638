use Rattle.std.proofs.Common.{rules, Some, refl}
use Rattle.sci_settings.specs.declared.works.Work.TheVariants as work
use Rattle.sci_settings.specs.Settings.{settings_for}
use Rattle.sci_settings.proofs.settings.count_in.Goals as goal

pub returns : goal.returns
unfolding settings_for
returns c = search rules

pub returns-in_err-nodes-clause-why : goal.returns-in_err-nodes-clause-why
returns-in_err-nodes-clause-why c = let why = c.in_err-nodes.ensures.why (Some work.Count) refl in search rules

pub returns-in_err-adds-clause-why : goal.returns-in_err-adds-clause-why
returns-in_err-adds-clause-why c = let why = c.in_err-adds.ensures.why (Some work.Count) refl in search rules

pub returns-in_err-capacity-clause-why : goal.returns-in_err-capacity-clause-why
returns-in_err-capacity-clause-why c = let why = c.in_err-capacity.ensures.why (Some work.Count) refl in search rules

pub returns-in_err-dump-clause-why : goal.returns-in_err-dump-clause-why
returns-in_err-dump-clause-why c = let why = c.in_err-dump.ensures.why (Some work.Count) refl in search rules
