use Rattle.std.proofs.Common.{◌∙◌, ap, sym}
use Rattle.sci_words.specs.declared.layouts.Layout.{Layout}
use Rattle.sci_words.specs.Refused.{tag_refusal_in}
use Rattle.sci_dump.proofs.rows.read_tag_in.Goals as goal

pub returns-in-One-clause-refusal : goal.returns-in-One-clause-refusal
returns-in-One-clause-refusal c = c.read_tag.ensures.lowest_refusal ∙ ap (λ (l : Layout). tag_refusal_in l c.args.word) (sym c.in-One.is)

pub returns-in-Two-clause-refusal : goal.returns-in-Two-clause-refusal
returns-in-Two-clause-refusal c = c.read_tag-in-Two.ensures.lowest_refusal ∙ ap (λ (l : Layout). tag_refusal_in l c.args.word) (sym c.in-Two.is)
