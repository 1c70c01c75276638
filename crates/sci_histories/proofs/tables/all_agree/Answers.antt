use Rattle.std.proofs.Common.{sym, subst}
use Rattle.sci_histories.specs.Each.{Each}
use Rattle.sci_histories.specs.Rules.{IsWithin}
use Rattle.sci_histories.proofs.Places.{each_list}
use Rattle.sci_histories.proofs.Agreement.{all_agree}
use Rattle.sci_histories.proofs.tables.all_agree.Goals as goal

pub lists_agree-requires : goal.lists_agree-requires
lists_agree-requires c =
    subst (Each (Each (IsWithin c.args.line.now.opening.stamp c.args.line.now.closing.stamp))) (sym c.lists_of.ensures) (each_list (IsWithin c.args.line.now.opening.stamp c.args.line.now.closing.stamp) c.args.line.now c.requires.1)

pub returns-then-shows : goal.returns-then-shows
returns-then-shows c = all_agree c.args.line.now c.args.words.now c.lists_agree.result (rw c.closing_of-closing.ensures at c.if-shows.ensures) (rw c.lists_of.ensures at c.lists_agree.ensures)
