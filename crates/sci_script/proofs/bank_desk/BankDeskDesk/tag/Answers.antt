use Rattle.std.proofs.Common.{◌∙◌, ap, sym, subst, ◌<◌, ℕ}
use Rattle.sci_port.specs.declared.calls.Call.TheVariants.{TagWas}
use Rattle.sci_script.specs.BankDesks.{Banked, banked}
use Rattle.sci_script.proofs.BankDesks.{asks, at, bank, banked_set, tag_link}
use Rattle.sci_script.proofs.bank_desk.BankDeskDesk.tag.Goals as goal

pub tag-requires-clause-line : goal.tag-requires-clause-line
tag-requires-clause-line g c =
    let v = banked c.self.inside.size c.self.inside.banks.items c.self.inside.nodes.items in
    let b = bank g.B.Bank.way g.B.Bank.nodes_on g.B.Bank.keep g.B.Keep.Keeps.fits v c.self.invariant 0 c.index_mut.result.now c.self.invariant.some_are c.index_mut.ensures.value in
    let inside : c.args.line < c.self.inside.size.lines = subst (λ (x : Banked _). c.args.line < x.size.lines) (sym c.self.view_is) c.requires.line in
    subst (λ (n : ℕ). c.args.line < n) (sym b.lines_are) inside

pub tag-requires-clause-node : goal.tag-requires-clause-node
tag-requires-clause-node g c =
    let v = banked c.self.inside.size c.self.inside.banks.items c.self.inside.nodes.items in
    let b = bank g.B.Bank.way g.B.Bank.nodes_on g.B.Bank.keep g.B.Keep.Keeps.fits v c.self.invariant 0 c.index_mut.result.now c.self.invariant.some_are c.index_mut.ensures.value in
    let inside : c.args.line < c.self.inside.size.lines = subst (λ (x : Banked _). c.args.line < x.size.lines) (sym c.self.view_is) c.requires.line in
    let near : c.args.node < c.self.inside.size.nodes = subst (λ (x : Banked _). c.args.node < x.size.nodes) (sym c.self.view_is) c.requires.node in
    subst (λ (n : ℕ). c.args.node < n) (sym (b.nodes_are c.args.line inside)) near

pub invariant_of-self : goal.invariant_of-self
invariant_of-self g c =
    banked_set g.B.Bank.way g.B.Bank.nodes_on g.B.Bank.keep g.B.Keep.Keeps.fits (banked c.self.inside.size c.self.inside.banks.items c.self.inside.nodes.items) c.self.invariant 0 c.index_mut.result.now c.self.invariant.some_are c.index_mut.ensures.value
    c.tag.new.self c.tag.ensures.same_way c.tag.ensures.same_nodes c.tag.ensures.same_fact

pub returns-clause-saw : goal.returns-clause-saw
returns-clause-saw g c =
    let v = banked c.self.inside.size c.self.inside.banks.items c.self.inside.nodes.items in
    asks g.B.Bank.gives g.B.Bank.at_step v c.args.self.now c.self.view_is 0 c.args.line (TagWas c.args.node c.tag.result) c.index_mut.result.now c.tag.new.self
    (at g.B.Bank.way g.B.Bank.nodes_on g.B.Bank.keep g.B.Keep.Keeps.fits v c.self.invariant 0 c.index_mut.result.now c.self.invariant.some_are c.index_mut.ensures.value) c.tag.ensures.gives

pub returns-clause-link : goal.returns-clause-link
returns-clause-link g c =
    let v = banked c.self.inside.size c.self.inside.banks.items c.self.inside.nodes.items in
    let b = bank g.B.Bank.way g.B.Bank.nodes_on g.B.Bank.keep g.B.Keep.Keeps.fits v c.self.invariant 0 c.index_mut.result.now c.self.invariant.some_are c.index_mut.ensures.value in
    let inside : c.args.line < c.self.inside.size.lines = subst (λ (x : Banked _). c.args.line < x.size.lines) (sym c.self.view_is) c.requires.line in
    tag_link (g.B.Bank.nodes_on c.index_mut.result.now c.args.line) c.args.self.now.size.nodes c.tag.result (b.nodes_are c.args.line inside ∙ ap (λ (x : Banked _). x.size.nodes) c.self.view_is) c.tag.ensures.form
