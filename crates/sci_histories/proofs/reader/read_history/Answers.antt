use Rattle.sci_histories.proofs.HistoryTexts.{written}
use Rattle.sci_histories.proofs.HistoriesBack.{given_back}
use Rattle.sci_histories.proofs.reader.read_history.Goals as goal

pub returns-clause-written : goal.returns-clause-written
returns-clause-written c = written c.parse.result c.args.text.now c.parse.ensures

pub returns-clause-read_back : goal.returns-clause-read_back
returns-clause-read_back c = λ nodes lines can is. given_back c.parse.result c.args.text.now nodes lines c.parse.ensures can is
