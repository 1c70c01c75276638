use Rattle.sci_dump.proofs.Deciding.{breaks_ending, breaks_listed, breaks_linked, breaks_suited, breaks_equal, exact_line}
use Rattle.sci_dump.proofs.checking.first_broken.Goals as goal

pub returns-then-not-is_settled : goal.returns-then-not-is_settled
returns-then-not-is_settled c = c.if-not-is_settled.ensures

pub returns-then-not-is_ending : goal.returns-then-not-is_ending
returns-then-not-is_ending c = breaks_ending c.args.closed.now c.if-not-is_settled.ensures c.if-not-is_ending.ensures

pub returns-then-not-lists_sharers : goal.returns-then-not-lists_sharers
returns-then-not-lists_sharers c = breaks_listed c.args.closed.now c.if-not-is_settled.ensures c.if-not-is_ending.ensures c.if-not-lists_sharers.ensures

pub returns-then-not-is_linked_back : goal.returns-then-not-is_linked_back
returns-then-not-is_linked_back c =
    breaks_linked c.args.closed.now c.if-not-is_settled.ensures c.if-not-is_ending.ensures c.if-not-lists_sharers.ensures c.if-not-is_linked_back.ensures

pub returns-then-not-suits_memory : goal.returns-then-not-suits_memory
returns-then-not-suits_memory c =
    breaks_suited c.args.closed.now c.if-not-is_settled.ensures c.if-not-is_ending.ensures c.if-not-lists_sharers.ensures c.if-not-is_linked_back.ensures
    c.if-not-suits_memory.ensures

pub returns-then-not-has_equal_lines : goal.returns-then-not-has_equal_lines
returns-then-not-has_equal_lines c =
    breaks_equal c.args.closed.now c.if-not-is_settled.ensures c.if-not-is_ending.ensures c.if-not-lists_sharers.ensures c.if-not-is_linked_back.ensures
    c.if-not-suits_memory.ensures c.if-not-has_equal_lines.ensures

pub returns-else-not-has_equal_lines : goal.returns-else-not-has_equal_lines
returns-else-not-has_equal_lines c =
    exact_line c.args.closed.now c.if-not-is_settled.ensures c.if-not-is_ending.ensures c.if-not-lists_sharers.ensures c.if-not-is_linked_back.ensures
    c.if-not-suits_memory.ensures c.if-not-has_equal_lines.ensures
