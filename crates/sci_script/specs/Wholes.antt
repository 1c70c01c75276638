-- A desk of `Whole`s as the memory that it is. This project's profile.
use Rattle.sci_script.specs.declared.whole_desk.WholeDesk.{WholeDesk}
use Rattle.sci_script.specs.Shared.{Shared}
use Rattle.sci_script.specs.Unused.{shared}

abbrev pub shared_of : WholeDesk → Shared
shared_of d = shared d.size.nodes d.bank.wholes.items d.nodes.items
