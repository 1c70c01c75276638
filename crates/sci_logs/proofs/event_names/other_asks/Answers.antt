use Rattle.sci_logs.proofs.Names.{other_asks_0, other_asks_1, other_asks_2, other_asks_3, other_asks_4, other_asks_5, other_asks_6, other_asks_none}
use Rattle.sci_logs.proofs.event_names.other_asks.Goals as goal

pub returns-in-Some : goal.returns-in-Some
returns-in-Some c = other_asks_0 c.args.text.now c.in-Some.rest.now c.in-Some.ensures.exact

pub returns-in-Some-behind : goal.returns-in-Some-behind
returns-in-Some-behind c = other_asks_1 c.args.text.now c.in-Some-behind.rest.now c.in_default.ensures.exact c.in-Some-behind.ensures.exact

pub returns-in-Some-behind-2 : goal.returns-in-Some-behind-2
returns-in-Some-behind-2 c = other_asks_2 c.args.text.now c.in-Some-behind-2.rest.now c.in_default.ensures.exact c.in_default-behind.ensures.exact c.in-Some-behind-2.ensures.exact

pub returns-in-Some-behind-3 : goal.returns-in-Some-behind-3
returns-in-Some-behind-3 c = other_asks_3 c.args.text.now c.in-Some-behind-3.rest.now c.in_default.ensures.exact c.in_default-behind.ensures.exact c.in_default-behind-2.ensures.exact c.in-Some-behind-3.ensures.exact

pub returns-in-Some-behind-4 : goal.returns-in-Some-behind-4
returns-in-Some-behind-4 c = other_asks_4 c.args.text.now c.in-Some-behind-4.rest.now c.in_default.ensures.exact c.in_default-behind.ensures.exact c.in_default-behind-2.ensures.exact c.in_default-behind-3.ensures.exact c.in-Some-behind-4.ensures.exact

pub returns-in-Some-behind-5 : goal.returns-in-Some-behind-5
returns-in-Some-behind-5 c = other_asks_5 c.args.text.now c.in-Some-behind-5.rest.now c.in_default.ensures.exact c.in_default-behind.ensures.exact c.in_default-behind-2.ensures.exact c.in_default-behind-3.ensures.exact c.in_default-behind-4.ensures.exact c.in-Some-behind-5.ensures.exact

pub returns-in-Some-behind-6 : goal.returns-in-Some-behind-6
returns-in-Some-behind-6 c = other_asks_6 c.args.text.now c.in-Some-behind-6.rest.now c.in_default.ensures.exact c.in_default-behind.ensures.exact c.in_default-behind-2.ensures.exact c.in_default-behind-3.ensures.exact c.in_default-behind-4.ensures.exact c.in_default-behind-5.ensures.exact c.in-Some-behind-6.ensures.exact

pub returns : goal.returns
returns c = other_asks_none c.args.text.now c.in_default.ensures.exact c.in_default-behind.ensures.exact c.in_default-behind-2.ensures.exact c.in_default-behind-3.ensures.exact c.in_default-behind-4.ensures.exact c.in_default-behind-5.ensures.exact c.in_default-behind-6.ensures.exact
