use Rattle.std.proofs.Common.{rules}
use Rattle.sci_words.proofs.names.mem_name.Goals as goal

pub returns-in-Gone : goal.returns-in-Gone
returns-in-Gone c = search rules
