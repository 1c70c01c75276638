use Rattle.sci_coarse.proofs.Told.{gives_truly, no_false_busy, logs_calls}
use Rattle.sci_coarse.proofs.Unslipped.{one_run, appends, hides_nothing, takes_truly, misses_truly}
use Rattle.sci_coarse.proofs.laws.law_of_one_run.Goals as goal

pub returns-clause-one : goal.returns-clause-one
returns-clause-one g c = one_run g.K.Keeps.fits

pub returns-clause-appends : goal.returns-clause-appends
returns-clause-appends g c = appends g.K.Keeps.fits

pub returns-clause-hides : goal.returns-clause-hides
returns-clause-hides g c = hides_nothing g.K.Keeps.fits

pub returns-clause-takes : goal.returns-clause-takes
returns-clause-takes g c = takes_truly g.K.Keeps.fits

pub returns-clause-misses : goal.returns-clause-misses
returns-clause-misses g c = misses_truly g.K.Keeps.fits

pub returns-clause-gives : goal.returns-clause-gives
returns-clause-gives g c = gives_truly g.K.Keeps.fits

pub returns-clause-no_false_busy : goal.returns-clause-no_false_busy
returns-clause-no_false_busy g c = no_false_busy g.K.Keeps.fits

pub returns-clause-logs : goal.returns-clause-logs
returns-clause-logs g c = logs_calls g.K.Keeps.fits
