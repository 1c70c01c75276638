use Rattle.sci_serve.proofs.scripts.serve_trace.Goals as goal

pub returns-clause-ok : goal.returns-clause-ok
returns-clause-ok g c = c.serve.ensures.ok

pub returns-clause-err : goal.returns-clause-err
returns-clause-err g c = c.serve.ensures.err
