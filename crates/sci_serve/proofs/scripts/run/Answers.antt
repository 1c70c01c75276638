use Rattle.sci_serve.proofs.scripts.run.Goals as goal

pub returns-in-Script-clause-ok : goal.returns-in-Script-clause-ok
returns-in-Script-clause-ok g c = rw c.in-Script.is c.run_script.ensures.ok

pub returns-in-Script-clause-err : goal.returns-in-Script-clause-err
returns-in-Script-clause-err g c = rw c.in-Script.is c.run_script.ensures.err

pub returns-in-Trace-clause-ok : goal.returns-in-Trace-clause-ok
returns-in-Trace-clause-ok g c = rw c.in-Trace.is c.run_trace.ensures.ok

pub returns-in-Trace-clause-err : goal.returns-in-Trace-clause-err
returns-in-Trace-clause-err g c = rw c.in-Trace.is c.run_trace.ensures.err

pub returns-in-Draw-clause-ok : goal.returns-in-Draw-clause-ok
returns-in-Draw-clause-ok g c = rw c.in-Draw.is c.run_draw.ensures.ok

pub returns-in-Draw-clause-err : goal.returns-in-Draw-clause-err
returns-in-Draw-clause-err g c = rw c.in-Draw.is c.run_draw.ensures.err

pub returns-in-Log-clause-ok : goal.returns-in-Log-clause-ok
returns-in-Log-clause-ok g c = rw c.in-Log.is c.run_log.ensures.ok

pub returns-in-Log-clause-err : goal.returns-in-Log-clause-err
returns-in-Log-clause-err g c = rw c.in-Log.is c.run_log.ensures.err
