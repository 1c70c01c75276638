use Rattle.std.proofs.Common.{◌≡◌, ◌<◌, ◌∙◌, ℕ, length, ap, sym, subst, arith}
use Rattle.std.proofs.lemmas.Result.{on_ok_weaker}
use Rattle.sci_cache.proofs.Reserved.{on_err_with}
use Rattle.sci_script.specs.BankDesks.{Banked, banked}
use Rattle.sci_script.proofs.BankDesks.{bank, begun_here, node_found, same_here, turned_set}
use Rattle.sci_script.proofs.bank_desk.BankDeskDesk.begin.Goals as goal

pub begin_over-requires-clause-node : goal.begin_over-requires-clause-node
begin_over-requires-clause-node g c =
    let v = banked c.self.inside.size c.self.inside.banks.items c.self.inside.nodes.items in
    let place : c.from-place.result ≡ c.args.node = c.from-place.ensures ∙ c.get.ensures.value in
    let near : c.from-place.result < c.self.inside.size.nodes = subst (λ (i : ℕ). i < c.self.inside.size.nodes) (sym place) (subst (λ (x : Banked _). c.args.node < x.size.nodes) (sym c.self.view_is) c.requires.node) in
    let b = bank g.B.Bank.way g.B.Bank.nodes_on g.B.Bank.keep g.B.Keep.Keeps.fits v c.self.invariant c.from-place.result c.index_mut.result.now near c.index_mut.ensures.value in
    b.node_is ∙ sym (node_found g.B.Bank.way g.B.Bank.nodes_on (λ b line words. g.B.Keep.Keeps.fits (g.B.Bank.keep b) line words) v c.self.invariant c.from-place.result c.index_mut-2.result.now near c.index_mut-2.ensures.value).0

pub begin_over-requires-clause-lines : goal.begin_over-requires-clause-lines
begin_over-requires-clause-lines g c =
    let v = banked c.self.inside.size c.self.inside.banks.items c.self.inside.nodes.items in
    let place : c.from-place.result ≡ c.args.node = c.from-place.ensures ∙ c.get.ensures.value in
    let near : c.from-place.result < c.self.inside.size.nodes = subst (λ (i : ℕ). i < c.self.inside.size.nodes) (sym place) (subst (λ (x : Banked _). c.args.node < x.size.nodes) (sym c.self.view_is) c.requires.node) in
    let b = bank g.B.Bank.way g.B.Bank.nodes_on g.B.Bank.keep g.B.Keep.Keeps.fits v c.self.invariant c.from-place.result c.index_mut.result.now near c.index_mut.ensures.value in
    b.lines_are ∙ sym (node_found g.B.Bank.way g.B.Bank.nodes_on (λ b line words. g.B.Keep.Keeps.fits (g.B.Bank.keep b) line words) v c.self.invariant c.from-place.result c.index_mut-2.result.now near c.index_mut-2.ensures.value).1

pub begin_over-requires-clause-keeps : goal.begin_over-requires-clause-keeps
begin_over-requires-clause-keeps g c =
    let v = banked c.self.inside.size c.self.inside.banks.items c.self.inside.nodes.items in
    let place : c.from-place.result ≡ c.args.node = c.from-place.ensures ∙ c.get.ensures.value in
    let near : c.from-place.result < c.self.inside.size.nodes = subst (λ (i : ℕ). i < c.self.inside.size.nodes) (sym place) (subst (λ (x : Banked _). c.args.node < x.size.nodes) (sym c.self.view_is) c.requires.node) in
    (node_found g.B.Bank.way g.B.Bank.nodes_on (λ b line words. g.B.Keep.Keeps.fits (g.B.Bank.keep b) line words) v c.self.invariant c.from-place.result c.index_mut-2.result.now near c.index_mut-2.ensures.value).2

pub invariant_of-self : goal.invariant_of-self
invariant_of-self g c =
    let v = banked c.self.inside.size c.self.inside.banks.items c.self.inside.nodes.items in
    let b = c.index_mut.result.now in
    let kept = c.begin_over.ensures.same_bank in
    let place : c.from-place.result ≡ c.args.node = c.from-place.ensures ∙ c.get.ensures.value in
    let near : c.from-place.result < c.self.inside.size.nodes = subst (λ (i : ℕ). i < c.self.inside.size.nodes) (sym place) (subst (λ (x : Banked _). c.args.node < x.size.nodes) (sym c.self.view_is) c.requires.node) in
    turned_set g.B.Bank.way g.B.Bank.nodes_on g.B.Bank.keep g.B.Keep.Keeps.fits v c.self.invariant c.from-place.result b near c.index_mut.ensures.value
    c.begin_over.new.bank (ap g.B.Bank.way kept) (λ line. ap (λ x. g.B.Bank.nodes_on x line) kept) (ap g.B.Bank.keep kept) c.index_mut-2.result.now c.begin_over.new.node c.index_mut-2.ensures.value c.begin_over.ensures.same_node

pub returns-clause-began : goal.returns-clause-began
returns-clause-began g c =
    let v = banked c.self.inside.size c.self.inside.banks.items c.self.inside.nodes.items in
    let place : c.from-place.result ≡ c.args.node = c.from-place.ensures ∙ c.get.ensures.value in
    let near : c.from-place.result < c.self.inside.size.nodes = subst (λ (i : ℕ). i < c.self.inside.size.nodes) (sym place) (subst (λ (x : Banked _). c.args.node < x.size.nodes) (sym c.self.view_is) c.requires.node) in
    let low : c.from-place.result < length c.self.inside.nodes.items = omega (arith, near, c.self.invariant.count) in
    on_ok_weaker c.begin_over.result
    (begun_here v c.args.self.now c.self.view_is c.from-place.result c.index_mut.result.now c.begin_over.new.bank c.index_mut.ensures.value c.begin_over.ensures.same_bank c.index_mut-2.result.now c.begin_over.new.node c.index_mut-2.ensures.value
    c.args.node c.args.request place low)
    c.begin_over.ensures.begun

pub returns-clause-same : goal.returns-clause-same
returns-clause-same g c =
    let v = banked c.self.inside.size c.self.inside.banks.items c.self.inside.nodes.items in
    on_err_with c.begin_over.result c.begin_over.ensures.same
    (same_here v c.args.self.now c.self.view_is c.from-place.result c.index_mut.result.now c.begin_over.new.bank c.index_mut.ensures.value c.begin_over.ensures.same_bank c.index_mut-2.result.now c.begin_over.new.node c.index_mut-2.ensures.value)

pub returns-clause-size : goal.returns-clause-size
returns-clause-size g c = ap (λ (x : Banked _). x.size) c.self.view_is
