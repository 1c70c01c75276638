use Rattle.std.proofs.Common.{◌≡◌, ◌<◌, ◌∙◌, ℕ, length, sym, subst, arith}
use Rattle.std.proofs.lemmas.List.{get_or_read}
use Rattle.sci_script.specs.BankDesks.{Banked, banked}
use Rattle.sci_script.specs.Unused.{no_node}
use Rattle.sci_script.proofs.BankDesks.{at, bank, node_found, turned_set, turns_node, open_found}
use Rattle.sci_script.proofs.bank_desk.BankDeskDesk.turn.Goals as goal

pub turn_over-requires-clause-any : goal.turn_over-requires-clause-any
turn_over-requires-clause-any g c =
    let v = banked c.self.inside.size c.self.inside.banks.items c.self.inside.nodes.items in
    let place : c.from-place.result ≡ c.args.node = c.from-place.ensures ∙ c.get.ensures.value in
    let near : c.from-place.result < c.self.inside.size.nodes = subst (λ (i : ℕ). i < c.self.inside.size.nodes) (sym place) (subst (λ (x : Banked _). c.args.node < x.size.nodes) (sym c.self.view_is) c.requires.node) in
    (bank g.B.Bank.way g.B.Bank.nodes_on g.B.Bank.keep g.B.Keep.Keeps.fits v c.self.invariant c.from-place.result c.index_mut.result.now near c.index_mut.ensures.value).any

pub turn_over-requires-clause-node : goal.turn_over-requires-clause-node
turn_over-requires-clause-node g c =
    let v = banked c.self.inside.size c.self.inside.banks.items c.self.inside.nodes.items in
    let place : c.from-place.result ≡ c.args.node = c.from-place.ensures ∙ c.get.ensures.value in
    let near : c.from-place.result < c.self.inside.size.nodes = subst (λ (i : ℕ). i < c.self.inside.size.nodes) (sym place) (subst (λ (x : Banked _). c.args.node < x.size.nodes) (sym c.self.view_is) c.requires.node) in
    let b = bank g.B.Bank.way g.B.Bank.nodes_on g.B.Bank.keep g.B.Keep.Keeps.fits v c.self.invariant c.from-place.result c.index_mut.result.now near c.index_mut.ensures.value in
    b.node_is ∙ sym (node_found g.B.Bank.way g.B.Bank.nodes_on (λ b line words. g.B.Keep.Keeps.fits (g.B.Bank.keep b) line words) v c.self.invariant c.from-place.result c.index_mut-2.result.now near c.index_mut-2.ensures.value).0

pub turn_over-requires-clause-lines : goal.turn_over-requires-clause-lines
turn_over-requires-clause-lines g c =
    let v = banked c.self.inside.size c.self.inside.banks.items c.self.inside.nodes.items in
    let place : c.from-place.result ≡ c.args.node = c.from-place.ensures ∙ c.get.ensures.value in
    let near : c.from-place.result < c.self.inside.size.nodes = subst (λ (i : ℕ). i < c.self.inside.size.nodes) (sym place) (subst (λ (x : Banked _). c.args.node < x.size.nodes) (sym c.self.view_is) c.requires.node) in
    let b = bank g.B.Bank.way g.B.Bank.nodes_on g.B.Bank.keep g.B.Keep.Keeps.fits v c.self.invariant c.from-place.result c.index_mut.result.now near c.index_mut.ensures.value in
    b.lines_are ∙ sym (node_found g.B.Bank.way g.B.Bank.nodes_on (λ b line words. g.B.Keep.Keeps.fits (g.B.Bank.keep b) line words) v c.self.invariant c.from-place.result c.index_mut-2.result.now near c.index_mut-2.ensures.value).1

pub turn_over-requires-clause-open : goal.turn_over-requires-clause-open
turn_over-requires-clause-open g c =
    let v = banked c.self.inside.size c.self.inside.banks.items c.self.inside.nodes.items in
    let place : c.from-place.result ≡ c.args.node = c.from-place.ensures ∙ c.get.ensures.value in
    let near : c.from-place.result < c.self.inside.size.nodes = subst (λ (i : ℕ). i < c.self.inside.size.nodes) (sym place) (subst (λ (x : Banked _). c.args.node < x.size.nodes) (sym c.self.view_is) c.requires.node) in
    open_found v c.args.self.now c.self.view_is c.from-place.result c.args.node c.index_mut-2.result.now place (omega (arith, near, c.self.invariant.count)) c.index_mut-2.ensures.value c.requires.open

pub invariant_of-self : goal.invariant_of-self
invariant_of-self g c =
    let v = banked c.self.inside.size c.self.inside.banks.items c.self.inside.nodes.items in
    let place : c.from-place.result ≡ c.args.node = c.from-place.ensures ∙ c.get.ensures.value in
    let near : c.from-place.result < c.self.inside.size.nodes = subst (λ (i : ℕ). i < c.self.inside.size.nodes) (sym place) (subst (λ (x : Banked _). c.args.node < x.size.nodes) (sym c.self.view_is) c.requires.node) in
    turned_set g.B.Bank.way g.B.Bank.nodes_on g.B.Bank.keep g.B.Keep.Keeps.fits v c.self.invariant c.from-place.result c.index_mut.result.now near c.index_mut.ensures.value
    c.turn_over.new.bank c.turn_over.ensures.same_way c.turn_over.ensures.same_nodes c.turn_over.ensures.same_fact c.index_mut-2.result.now c.turn_over.new.node c.index_mut-2.ensures.value c.turn_over.ensures.same_node

pub returns-clause-turned : goal.returns-clause-turned
returns-clause-turned g c =
    let v = banked c.self.inside.size c.self.inside.banks.items c.self.inside.nodes.items in
    let i = c.from-place.result in
    let place : i ≡ c.args.node = c.from-place.ensures ∙ c.get.ensures.value in
    let near : i < c.self.inside.size.nodes = subst (λ (k : ℕ). k < c.self.inside.size.nodes) (sym place) (subst (λ (x : Banked _). c.args.node < x.size.nodes) (sym c.self.view_is) c.requires.node) in
    let low : i < length c.self.inside.nodes.items = omega (arith, near, c.self.invariant.count) in
    turns_node g.B.Bank.gives g.B.Bank.at_step v c.args.self.now c.self.view_is i c.args.node c.turn_over.result c.index_mut.result.now c.turn_over.new.bank c.index_mut-2.result.now c.turn_over.new.node place
    (at g.B.Bank.way g.B.Bank.nodes_on g.B.Bank.keep g.B.Keep.Keeps.fits v c.self.invariant i c.index_mut.result.now near c.index_mut.ensures.value)
    (get_or_read c.self.inside.nodes.items i c.index_mut-2.result.now low c.index_mut-2.ensures.value no_node) c.turn_over.ensures.turns
