use Rattle.sci_laws.proofs.LogFollows.{served_log_follows, stopped_log_follows}
use Rattle.sci_laws.proofs.logs.logs_follow.Goals as goal

pub returns-clause-ended : goal.returns-clause-ended
returns-clause-ended c = λ limit input text served. served_log_follows limit input text served

pub returns-clause-refused : goal.returns-clause-refused
returns-clause-refused c = λ limit input written refusal of_line left. stopped_log_follows limit input written refusal of_line left
