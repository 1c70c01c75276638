use Rattle.std.proofs.Common.{rules}
use Rattle.sci_words.proofs.refusals.WordRefusal.number.Goals as goal

pub returns-in-LinkMissing : goal.returns-in-LinkMissing
returns-in-LinkMissing c = search rules
