use Rattle.sci_dump.proofs.Dumpable.{read_again}
use Rattle.sci_dump.proofs.texts.dump.Goals as goal

pub returns-clause-read_back : goal.returns-clause-read_back
returns-clause-read_back c = read_again c.write_dump.result c.args.lines.now c.requires.lines c.requires.nodes c.show_lines.ensures c.write_dump.ensures
