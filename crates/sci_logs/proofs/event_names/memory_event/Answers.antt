use Rattle.sci_logs.proofs.Names.{memory_event_0, memory_event_1, memory_event_2, memory_event_3, memory_event_4, memory_event_none}
use Rattle.sci_logs.proofs.event_names.memory_event.Goals as goal

pub returns-in-Some : goal.returns-in-Some
returns-in-Some c = memory_event_0 c.args.text.now c.in-Some.rest.now c.in-Some.ensures.exact

pub returns-in-Some-behind : goal.returns-in-Some-behind
returns-in-Some-behind c = memory_event_1 c.args.text.now c.in-Some-behind.rest.now c.in_default.ensures.exact c.in-Some-behind.ensures.exact

pub returns-in-Some-behind-2 : goal.returns-in-Some-behind-2
returns-in-Some-behind-2 c = memory_event_2 c.args.text.now c.in-Some-behind-2.rest.now c.in_default.ensures.exact c.in_default-behind.ensures.exact c.in-Some-behind-2.ensures.exact

pub returns-in-Some-behind-3 : goal.returns-in-Some-behind-3
returns-in-Some-behind-3 c = memory_event_3 c.args.text.now c.in-Some-behind-3.rest.now c.in_default.ensures.exact c.in_default-behind.ensures.exact c.in_default-behind-2.ensures.exact c.in-Some-behind-3.ensures.exact

pub returns-in-Some-behind-4 : goal.returns-in-Some-behind-4
returns-in-Some-behind-4 c = memory_event_4 c.args.text.now c.in-Some-behind-4.rest.now c.in_default.ensures.exact c.in_default-behind.ensures.exact c.in_default-behind-2.ensures.exact c.in_default-behind-3.ensures.exact c.in-Some-behind-4.ensures.exact

pub returns : goal.returns
returns c = memory_event_none c.args.text.now c.in_default.ensures.exact c.in_default-behind.ensures.exact c.in_default-behind-2.ensures.exact c.in_default-behind-3.ensures.exact c.in_default-behind-4.ensures.exact
