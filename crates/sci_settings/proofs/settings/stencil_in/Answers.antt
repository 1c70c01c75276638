use Rattle.std.proofs.Common.{rules, Some, refl}
use Rattle.toml.specs.View.{table_view}
use Rattle.sci_settings.specs.declared.works.Work.TheVariants as work
use Rattle.sci_settings.specs.Settings.{settings_for}
use Rattle.sci_settings.proofs.settings.stencil_in.Goals as goal

pub returns : goal.returns
unfolding settings_for
returns c = search rules

pub returns-then-count-lt1-clause-why : goal.returns-then-count-lt1-clause-why
returns-then-count-lt1-clause-why c = let why = c.miscount.ensures work.Stencil (table_view c.args.table.now) refl in search rules

pub returns-in_err-nodes-clause-why : goal.returns-in_err-nodes-clause-why
returns-in_err-nodes-clause-why c = let why = c.in_err-nodes.ensures.why (Some work.Stencil) refl in search rules

pub returns-in_err-capacity-clause-why : goal.returns-in_err-capacity-clause-why
returns-in_err-capacity-clause-why c = let why = c.in_err-capacity.ensures.why (Some work.Stencil) refl in search rules

pub returns-in_err-phases-clause-why : goal.returns-in_err-phases-clause-why
returns-in_err-phases-clause-why c = let why = c.in_err-phases.ensures.why (Some work.Stencil) refl in search rules

pub returns-in_err-cells-clause-why : goal.returns-in_err-cells-clause-why
returns-in_err-cells-clause-why c = let why = c.in_err-cells.ensures.why (Some work.Stencil) refl refl in search rules

pub returns-in_err-dump-clause-why : goal.returns-in_err-dump-clause-why
returns-in_err-dump-clause-why c = let why = c.in_err-dump.ensures.why (Some work.Stencil) refl in search rules
