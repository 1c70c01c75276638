use Rattle.sci_logs.proofs.Names.{leaving_event_0, leaving_event_1, leaving_event_2, leaving_event_none}
use Rattle.sci_logs.proofs.event_names.leaving_event.Goals as goal

pub returns-in-Some : goal.returns-in-Some
returns-in-Some c = leaving_event_0 c.args.text.now c.in-Some.rest.now c.in-Some.ensures.exact

pub returns-in-Some-behind : goal.returns-in-Some-behind
returns-in-Some-behind c = leaving_event_1 c.args.text.now c.in-Some-behind.rest.now c.in_default.ensures.exact c.in-Some-behind.ensures.exact

pub returns-in-Some-behind-2 : goal.returns-in-Some-behind-2
returns-in-Some-behind-2 c = leaving_event_2 c.args.text.now c.in-Some-behind-2.rest.now c.in_default.ensures.exact c.in_default-behind.ensures.exact c.in-Some-behind-2.ensures.exact

pub returns : goal.returns
returns c = leaving_event_none c.args.text.now c.in_default.ensures.exact c.in_default-behind.ensures.exact c.in_default-behind-2.ensures.exact
