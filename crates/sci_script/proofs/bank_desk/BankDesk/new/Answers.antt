use Rattle.std.proofs.Common.{refl}
use Rattle.sci_script.proofs.Opened.{idle_nodes}
use Rattle.sci_script.proofs.bank_desk.BankDesk.new.Goals as goal

pub returns-in_default-clause-err : goal.returns-in_default-clause-err
returns-in_default-clause-err g c = refl

pub invariant_of-result : goal.invariant_of-result
invariant_of-result g c =
    let script = c.args.script.now in
    record {
      some_are = script.is_size.some_nodes;
      banks_are = c.requires;
      count = c.in-Ok.ensures.count;
      nodes_are = idle_nodes script.size.lines script.capacity script.size.nodes c.in-Ok.nodes.items c.in-Ok.ensures.count c.in-Ok.ensures.idle;
    }

pub returns-clause-size : goal.returns-clause-size
returns-clause-size g c = refl

pub returns-clause-banks : goal.returns-clause-banks
returns-clause-banks g c = refl

pub returns-clause-idle : goal.returns-clause-idle
returns-clause-idle g c = c.in-Ok.ensures.idle
