use Rattle.sci_dump.proofs.DumpTexts.{given}
use Rattle.sci_dump.proofs.DumpsBack.{given_back}
use Rattle.sci_dump.proofs.reader.read_dump.Goals as goal

pub returns-clause-dumped : goal.returns-clause-dumped
returns-clause-dumped c = given c.parse.result c.args.text.now c.parse.ensures

pub returns-clause-read_back : goal.returns-clause-read_back
returns-clause-read_back c = λ l nodes lines can is. given_back l c.parse.result c.args.text.now nodes lines c.parse.ensures can is
