use Rattle.sci_histories.proofs.Looping.{all_read}
use Rattle.sci_histories.proofs.reader.parse.Goals as goal

pub returns : goal.returns
returns c = all_read c.args.text.now c.in-Some.rest.now c.in_ok-front.front.rest.now c.in-Some.nodes c.in-Some.count c.in_ok-front.front.number c.in_ok-front.front.lines.items c.in-Some.ensures.exact c.in_ok-front.ensures.exact c.in_ok-end.ensures
