use Rattle.std.proofs.Common.{length, arith}
use Rattle.sci_histories.proofs.Noting.{written_full, full_written, once}
use Rattle.sci_histories.proofs.Agreement.{table_history, history_agrees}
use Rattle.sci_histories.proofs.tables.broken_in.Goals as goal

pub returns-then-not-are_full : goal.returns-then-not-are_full
returns-then-not-are_full c = λ k. c.if-not-are_full.ensures (written_full c.args.line.now (length c.args.line.now.lists) c.args.words.now c.args.is_twice (omega arith) c.requires.table k)

pub returns-then-is_twice : goal.returns-then-is_twice
returns-then-is_twice c = (full_written c.args.line.now (length c.args.line.now.lists) c.args.words.now c.args.is_twice (omega arith) c.requires.table c.if-not-are_full.ensures, c.requires.table.again c.if-is_twice.true)

pub returns-then-not-all_agree : goal.returns-then-not-all_agree
returns-then-not-all_agree c = (
  full_written c.args.line.now (length c.args.line.now.lists) c.args.words.now c.args.is_twice (omega arith) c.requires.table c.if-not-are_full.ensures,
  once c.args.line.now (length c.args.line.now.lists) c.args.words.now c.args.is_twice (omega arith) c.requires.table c.if-is_twice.false,
  λ a. c.if-not-all_agree.ensures (history_agrees c.args.line.now (length c.args.line.now.lists) c.args.words.now c.args.is_twice c.requires.table c.if-not-are_full.ensures c.requires.within a.0 a.1),
)

pub returns-else-not-all_agree : goal.returns-else-not-all_agree
returns-else-not-all_agree c = (
  full_written c.args.line.now (length c.args.line.now.lists) c.args.words.now c.args.is_twice (omega arith) c.requires.table c.if-not-are_full.ensures,
  once c.args.line.now (length c.args.line.now.lists) c.args.words.now c.args.is_twice (omega arith) c.requires.table c.if-is_twice.false,
  table_history c.args.line.now c.args.words.now c.if-not-all_agree.ensures,
)
