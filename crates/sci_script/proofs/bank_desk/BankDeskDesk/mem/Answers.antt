use Rattle.std.proofs.Common.{◌∙◌, ap, sym, subst, ◌<◌, ℕ}
use Rattle.sci_port.specs.declared.calls.Call.TheVariants.{MemWas}
use Rattle.sci_script.specs.BankDesks.{Banked, banked}
use Rattle.sci_script.proofs.BankDesks.{asks, at, bank, banked_set, mem_link}
use Rattle.sci_script.proofs.bank_desk.BankDeskDesk.mem.Goals as goal

pub mem-requires : goal.mem-requires
mem-requires g c =
    let v = banked c.self.inside.size c.self.inside.banks.items c.self.inside.nodes.items in
    let b = bank g.B.Bank.way g.B.Bank.nodes_on g.B.Bank.keep g.B.Keep.Keeps.fits v c.self.invariant 0 c.index_mut.result.now c.self.invariant.some_are c.index_mut.ensures.value in
    let inside : c.args.line < c.self.inside.size.lines = subst (λ (x : Banked _). c.args.line < x.size.lines) (sym c.self.view_is) c.requires in
    subst (λ (n : ℕ). c.args.line < n) (sym b.lines_are) inside

pub invariant_of-self : goal.invariant_of-self
invariant_of-self g c =
    banked_set g.B.Bank.way g.B.Bank.nodes_on g.B.Bank.keep g.B.Keep.Keeps.fits (banked c.self.inside.size c.self.inside.banks.items c.self.inside.nodes.items) c.self.invariant 0 c.index_mut.result.now c.self.invariant.some_are c.index_mut.ensures.value
    c.mem.new.self c.mem.ensures.same_way c.mem.ensures.same_nodes c.mem.ensures.same_fact

pub returns-clause-saw : goal.returns-clause-saw
returns-clause-saw g c =
    let v = banked c.self.inside.size c.self.inside.banks.items c.self.inside.nodes.items in
    asks g.B.Bank.gives g.B.Bank.at_step v c.args.self.now c.self.view_is 0 c.args.line (MemWas c.mem.result) c.index_mut.result.now c.mem.new.self
    (at g.B.Bank.way g.B.Bank.nodes_on g.B.Bank.keep g.B.Keep.Keeps.fits v c.self.invariant 0 c.index_mut.result.now c.self.invariant.some_are c.index_mut.ensures.value) c.mem.ensures.gives

pub returns-clause-link : goal.returns-clause-link
returns-clause-link g c =
    let v = banked c.self.inside.size c.self.inside.banks.items c.self.inside.nodes.items in
    let b = bank g.B.Bank.way g.B.Bank.nodes_on g.B.Bank.keep g.B.Keep.Keeps.fits v c.self.invariant 0 c.index_mut.result.now c.self.invariant.some_are c.index_mut.ensures.value in
    let inside : c.args.line < c.self.inside.size.lines = subst (λ (x : Banked _). c.args.line < x.size.lines) (sym c.self.view_is) c.requires in
    mem_link (g.B.Bank.nodes_on c.index_mut.result.now c.args.line) c.args.self.now.size.nodes c.mem.result (b.nodes_are c.args.line inside ∙ ap (λ (x : Banked _). x.size.nodes) c.self.view_is) c.mem.ensures.form
