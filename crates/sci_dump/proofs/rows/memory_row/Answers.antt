use Rattle.std.proofs.Common.{sym}
use Rattle.sci_dump.proofs.Labelled.{memory_no_label, memory_no_word, memory_no_mem, memory_no_content, memory_all}
use Rattle.sci_dump.proofs.rows.memory_row.Goals as goal

pub returns-in_err-text : goal.returns-in_err-text
returns-in_err-text c = record {
  exact = rw c.from_residual.ensures (memory_no_label c.args.layout c.args.number c.args.text.now c.in_err-text.ensures);
  well_formed = rw c.from_residual.ensures tt;
}

pub returns-in_err-word : goal.returns-in_err-word
returns-in_err-word c = record {
  exact = rw c.from_residual-in_err-word.ensures (memory_no_word c.args.layout c.args.number c.args.text.now c.in_ok-text.text.now c.in_ok-text.ensures c.in_err-word.ensures);
  well_formed = rw c.from_residual-in_err-word.ensures tt;
}

pub returns-in_err-mem : goal.returns-in_err-mem
returns-in_err-mem c = record {
  exact = rw c.from_residual-in_err-mem.ensures (memory_no_mem c.args.layout c.args.number c.args.text.now c.in_ok-text.text.now c.in_ok-word.text.now c.in_ok-word.word c.in_ok-text.ensures c.in_ok-word.ensures (sym c.in_err-mem.ensures.exact));
  well_formed = rw c.from_residual-in_err-mem.ensures tt;
}

pub returns-in_err-line : goal.returns-in_err-line
returns-in_err-line c = record {
  exact = rw c.from_residual-in_err-line.ensures (memory_no_content c.args.layout c.args.number c.args.text.now c.in_ok-text.text.now c.in_ok-word.text.now c.in_ok-word.word c.in_ok-mem.mem c.in_ok-text.ensures c.in_ok-word.ensures (sym c.in_ok-mem.ensures.exact) c.in_err-line.ensures);
  well_formed = rw c.from_residual-in_err-line.ensures tt;
}

pub returns : goal.returns
returns c = record {
  exact = memory_all c.args.layout c.args.number c.args.text.now c.in_ok-text.text.now c.in_ok-word.text.now c.in_ok-word.word c.in_ok-mem.mem (c.in_ok-line.line, c.in_ok-line.rest.now) c.in_ok-text.ensures c.in_ok-word.ensures (sym c.in_ok-mem.ensures.exact) c.in_ok-line.ensures;
  well_formed = c.in_ok-mem.ensures.well_formed;
}
