use Rattle.std.proofs.Common.{rules, tests, ◌∙◌, ap, length}
use Rattle.std.specs.Option.{unwrap_or}
use Rattle.std.proofs.lemmas.Iterator.{YieldsList-from_slice}
use Rattle.std.proofs.lemmas.Iterator.Search.{position_from_yields_List}
use Rattle.sci_logs.proofs.Seeing.{word_place}
use Rattle.sci_logs.proofs.seen.word_length.Goals as goal

pub returns : goal.returns
returns c =
    let p = position_from_yields_List _ _ _ _ c.position.ensures.ran (YieldsList-from_slice c.args.text.now cc) (λ x b q k. search (rules, tests)) in
    c.unwrap_or.ensures ∙ ap (λ o. unwrap_or o (length c.args.text.now)) p ∙ word_place c.args.text.now
