use Rattle.std.proofs.Common.{rules}
use Rattle.sci_dump.proofs.Hexadecimal.{word_written}
use Rattle.sci_logs.proofs.turn_text.push_word.Goals as goal

pub returns : goal.returns
returns c = search (rules, word_written c.args.word)
