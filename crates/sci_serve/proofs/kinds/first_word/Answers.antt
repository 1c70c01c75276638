use Rattle.std.proofs.Common.{sym, ◌∙◌}
use Rattle.sci_serve.proofs.Wording.{word_on, word_whole}
use Rattle.sci_serve.proofs.kinds.first_word.Goals as goal

pub returns : goal.returns
returns c = sym (c.loop-at.invariant ∙ word_whole _ _ c.loop-at-test.false)

pub loop-at-preserved : goal.loop-at-preserved
loop-at-preserved c = c.loop-at.invariant ∙ word_on _ _ c.loop-at-test.true (sym c.ends_word.ensures ∙ c.if-ends_word.false)
