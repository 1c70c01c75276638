use Rattle.sci_laws.proofs.NotedBack.{exchange_back, look_back, opening_back, size_back}
use Rattle.sci_laws.proofs.logs.entries_are_read_back.Goals as goal

pub returns-clause-memory : goal.returns-clause-memory
returns-clause-memory c = λ size openings is. size_back size openings is

pub returns-clause-openings : goal.returns-clause-openings
returns-clause-openings c = λ opening small is. opening_back opening small is

pub returns-clause-looks : goal.returns-clause-looks
returns-clause-looks c = λ node line n l. look_back node line n l

pub returns-clause-exchanges : goal.returns-clause-exchanges
returns-clause-exchanges c = λ node passed event ending step n l is may. exchange_back node passed event ending step n l is may
