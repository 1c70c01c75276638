use Rattle.std.proofs.lemmas.Result.{err_from_is_err_and}
use Rattle.sci_script.specs.Format.{view}
use Rattle.sci_script.proofs.Refusing.{script_fails, script_ok}
use Rattle.sci_script.proofs.reader.read_script.Goals as goal

pub returns-in_err-read_lines : goal.returns-in_err-read_lines
returns-in_err-read_lines c =
    let p = err_from_is_err_and c.from_residual.result c.from_residual.ensures.1 in
    rw (p.1, p.2) (script_fails c.args.text.now c.in_err-read_lines.field-0.0 c.in_err-read_lines.ensures)

pub returns : goal.returns
returns c = script_ok c.args.text.now (view c.in_ok-read_lines.field-0) c.in_ok-read_lines.ensures
