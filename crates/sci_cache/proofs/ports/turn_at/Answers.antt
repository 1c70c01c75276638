use Rattle.std.proofs.Common.{rules, refl, sym, subst, ℕ}
use Rattle.sci_ops.specs.Change.{StoresFitting}
use Rattle.sci_ops.specs.Plan.{LoadsAtMost}
use Rattle.sci_ops.specs.Table.{begun, turn_of}
use Rattle.sci_cache.proofs.Leaving.{ends_idle}
use Rattle.sci_cache.proofs.Through.{turn_through, answer_through, chain_keeps, chain_line, kept_through, last_through, shows_answer, owes_fit}
use Rattle.sci_cache.proofs.ports.turn_at.Goals as goal

pub new-requires : goal.new-requires
new-requires g c = c.requires.line

pub turn-requires : goal.turn-requires
turn-requires g c = record { fits = subst (λ u. StoresFitting (g.B.Keep.Keeps.fits (g.B.Bank.keep u) c.new.result.line) c.args.goal.now) (sym c.new.ensures.same_bank) (subst (λ (l : ℕ). StoresFitting (g.B.Keep.Keeps.fits (g.B.Bank.keep c.args.bank.now) l) c.args.goal.now) (sym c.new.ensures.line) c.requires.fits) }

pub returns-clause-calls : goal.returns-clause-calls
returns-clause-calls g c =
    turn_through _ g.B.Bank.gives (λ x. x.bank.now) (λ x. x.line) (λ s call t h. (h.0, h.2)) (λ u. (g.B.Bank.way u).node) g.B.Bank.at_step (begun c.args.goal.now) c.turn.result c.args.line c.new.result c.turn.new.port c.args.bank.now _ c.new.ensures.line c.new.ensures.same_bank (search rules) c.turn.ensures.calls

pub returns-clause-answers : goal.returns-clause-answers
returns-clause-answers g c =
    answer_through _ g.B.Bank.gives (λ x. x.bank.now) (λ x. x.line) (λ s call t h. (h.0, h.2)) (λ u. (g.B.Bank.way u).node) g.B.Bank.at_step (begun c.args.goal.now) c.turn.result c.args.line c.new.result c.turn.new.port c.args.bank.now _ c.new.ensures.line c.new.ensures.same_bank (search rules) c.turn.ensures.answers

pub returns-clause-same_way : goal.returns-clause-same_way
returns-clause-same_way g c =
    let h = turn_through _ g.B.Bank.gives (λ x. x.bank.now) (λ x. x.line) (λ s call t h. (h.0, h.2)) (λ u. (g.B.Bank.way u).node) g.B.Bank.at_step (begun c.args.goal.now) c.turn.result c.args.line c.new.result c.turn.new.port c.args.bank.now _ c.new.ensures.line c.new.ensures.same_bank (search rules) c.turn.ensures.calls in
    chain_keeps g.B.Bank.gives c.args.line g.B.Bank.way (λ u call v k. g.met.B.Bank.same_way u c.args.line call v k) h.calls c.args.bank.now _ h.chain

pub returns-clause-same_nodes : goal.returns-clause-same_nodes
returns-clause-same_nodes g c = λ m.
    let h = turn_through _ g.B.Bank.gives (λ x. x.bank.now) (λ x. x.line) (λ s call t h. (h.0, h.2)) (λ u. (g.B.Bank.way u).node) g.B.Bank.at_step (begun c.args.goal.now) c.turn.result c.args.line c.new.result c.turn.new.port c.args.bank.now _ c.new.ensures.line c.new.ensures.same_bank (search rules) c.turn.ensures.calls in
    chain_keeps g.B.Bank.gives c.args.line (λ u. g.B.Bank.nodes_on u m) (λ u call v k. g.met.B.Bank.same_nodes u c.args.line call v k m) h.calls c.args.bank.now _ h.chain

pub returns-clause-others : goal.returns-clause-others
returns-clause-others g c = λ m other.
    let h = turn_through _ g.B.Bank.gives (λ x. x.bank.now) (λ x. x.line) (λ s call t h. (h.0, h.2)) (λ u. (g.B.Bank.way u).node) g.B.Bank.at_step (begun c.args.goal.now) c.turn.result c.args.line c.new.result c.turn.new.port c.args.bank.now _ c.new.ensures.line c.new.ensures.same_bank (search rules) c.turn.ensures.calls in
    chain_keeps g.B.Bank.gives c.args.line (λ u. g.B.Bank.at_step u m) (λ u call v k. g.met.B.Bank.others u c.args.line call v k m other) h.calls c.args.bank.now _ h.chain

pub returns-clause-content : goal.returns-clause-content
returns-clause-content g c =
    let h = answer_through _ g.B.Bank.gives (λ x. x.bank.now) (λ x. x.line) (λ s call t h. (h.0, h.2)) (λ u. (g.B.Bank.way u).node) g.B.Bank.at_step (begun c.args.goal.now) c.turn.result c.args.line c.new.result c.turn.new.port c.args.bank.now c.turn.new.port.bank.now c.new.ensures.line c.new.ensures.same_bank refl c.turn.ensures.answers in
    shows_answer (λ u call v. g.B.Bank.gives u c.args.line call v) (λ u. g.B.Bank.at_step u c.args.line) g.B.Bank.keep (λ k. g.B.Keep.Keeps.fits k c.args.line) (λ u call v k. g.met.B.Bank.same_fact u c.args.line call v k)
    (λ u call v k. owes_fit _ _ _ _ call _ (g.met.B.Bank.owes u c.args.line call v k)) (begun c.args.goal.now) (g.B.Bank.way c.args.bank.now).node c.args.bank.now c.turn.result c.turn.new.port.bank.now h refl

pub returns-clause-idle : goal.returns-clause-idle
returns-clause-idle g c =
    ends_idle (λ u call v. g.B.Bank.gives u c.args.line call v) (λ u. g.B.Bank.at_step u c.args.line) (λ u. g.B.Bank.nodes_on u c.args.line) (λ u. (g.B.Bank.way u).node) (λ u. g.B.Keep.Keeps.fits (g.B.Bank.keep u) c.args.line)
    (λ u call v k. g.met.B.Bank.owes u c.args.line call v k) (begun c.args.goal.now) (g.B.Bank.way c.args.bank.now).node c.args.bank.now c.turn.result _
    (answer_through _ g.B.Bank.gives (λ x. x.bank.now) (λ x. x.line) (λ s call t h. (h.0, h.2)) (λ u. (g.B.Bank.way u).node) g.B.Bank.at_step (begun c.args.goal.now) c.turn.result c.args.line c.new.result c.turn.new.port c.args.bank.now _ c.new.ensures.line c.new.ensures.same_bank (search rules) c.turn.ensures.answers) refl

pub returns-clause-loads : goal.returns-clause-loads
returns-clause-loads g c =
    subst (λ u. LoadsAtMost 3 (turn_of (begun c.args.goal.now) (g.B.Bank.way u).node (g.B.Bank.at_step u c.args.line))) c.new.ensures.same_bank
    (subst (λ (l : ℕ). LoadsAtMost 3 (turn_of (begun c.args.goal.now) (g.B.Bank.way c.new.result.bank.now).node (g.B.Bank.at_step c.new.result.bank.now l))) c.new.ensures.line c.turn.ensures.loads)

pub returns-clause-kept : goal.returns-clause-kept
returns-clause-kept g c =
    let same = chain_line _ g.B.Bank.gives (λ x. x.bank.now) (λ x. x.line) (λ s call t h. (h.0, h.2)) g.B.Bank.at_step g.B.Bank.receipts c.turn.ensures.calls.calls c.new.result c.turn.new.port c.turn.ensures.calls.chain in
    kept_through _ g.B.Bank.gives (λ x. x.bank.now) (λ x. x.line) (λ s call t h. (h.0, h.2)) g.B.Bank.at_step g.B.Bank.receipts (begun c.args.goal.now) c.turn.result c.new.result c.turn.new.port same c.args.line c.args.bank.now _ c.new.ensures.line c.new.ensures.same_bank (search rules) c.turn.ensures.kept

pub returns-clause-last : goal.returns-clause-last
returns-clause-last g c =
    let same = chain_line _ g.B.Bank.gives (λ x. x.bank.now) (λ x. x.line) (λ s call t h. (h.0, h.2)) g.B.Bank.at_step g.B.Bank.receipts c.turn.ensures.calls.calls c.new.result c.turn.new.port c.turn.ensures.calls.chain in
    last_through (λ x. x.bank.now) (λ x. x.line) g.B.Bank.receipts (begun c.args.goal.now) c.turn.result c.new.result c.turn.new.port same c.args.line c.args.bank.now _ c.new.ensures.line c.new.ensures.same_bank (search rules) c.turn.ensures.last

pub returns-clause-other_receipts : goal.returns-clause-other_receipts
returns-clause-other_receipts g c = λ m other.
    let h = turn_through _ g.B.Bank.gives (λ x. x.bank.now) (λ x. x.line) (λ s call t h. (h.0, h.2)) (λ u. (g.B.Bank.way u).node) g.B.Bank.at_step (begun c.args.goal.now) c.turn.result c.args.line c.new.result c.turn.new.port c.args.bank.now _ c.new.ensures.line c.new.ensures.same_bank (search rules) c.turn.ensures.calls in
    chain_keeps g.B.Bank.gives c.args.line (λ u. g.B.Bank.receipts u m) (λ u call v k. (g.met.B.Bank.receives u c.args.line call v k).others m other) h.calls c.args.bank.now _ h.chain
