use Rattle.std.proofs.Common.{rules}
use Rattle.sci_words.proofs.tags.Tag.well_formed.Goals as goal

pub returns : goal.returns
returns c = search rules
