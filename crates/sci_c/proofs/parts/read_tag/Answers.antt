use Rattle.std.proofs.Common.{sym, subst}
use Rattle.sci_words.specs.declared.layouts.Layout.{Layout}
use Rattle.sci_c.specs.declared.faults.Fault.TheVariants.{Word}
use Rattle.sci_c.specs.Words.{IsNoTag}
use Rattle.sci_c.proofs.parts.read_tag.Goals as goal

pub returns-in-Err-clause-err : goal.returns-in-Err-clause-err
returns-in-Err-clause-err c = subst (λ (l : Layout). IsNoTag l c.args.word (Word c.in-Err.refusal)) (sym c.in-One.is) (sym c.in-Err.ensures.lowest_refusal)

pub returns-in-Err-read_tag-clause-err : goal.returns-in-Err-read_tag-clause-err
returns-in-Err-read_tag-clause-err c = subst (λ (l : Layout). IsNoTag l c.args.word (Word c.in-Err-read_tag.refusal)) (sym c.in-Two.is) (sym c.in-Err-read_tag.ensures.lowest_refusal)
