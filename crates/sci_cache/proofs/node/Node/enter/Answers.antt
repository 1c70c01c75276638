use Rattle.std.proofs.Common.{◌≢◌, ◌<◌, ◌≤◌, Option, IfSome, ℕ, refl, ap, sym, subst, ◌∙◌}
use Rattle.sci_port.specs.Banks.{BankWay}
use Rattle.sci_port.specs.KeepsAll.{as_it_was}
use Rattle.sci_port.proofs.KeepsAll.{readied_then}
use Rattle.sci_ops.specs.declared.goals.Goal.{Goal}
use Rattle.sci_cache.specs.Called.{IsReadyFor}
use Rattle.sci_cache.specs.Requests.{line_of, goal_of}
use Rattle.sci_cache.specs.Nodes.{IsLine}
use Rattle.sci_cache.proofs.Begun.{has_line, victim_apart}
use Rattle.sci_cache.proofs.Keeping.{stays_readied}
use Rattle.sci_cache.proofs.Reserved.{more_room, ready_out_by}
use Rattle.sci_cache.proofs.node.Node.enter.Goals as goal

pub returns-then-not-self-clause-readied : goal.returns-then-not-self-clause-readied
returns-then-not-self-clause-readied g c = as_it_was

pub put_in_with_room-requires : goal.put_in_with_room-requires
put_in_with_room-requires g c =
    let s = stays_readied g.B.Bank.way g.B.Bank.nodes_on g.B.Bank.keep g.B.Bank.readies g.B.Bank.at_step g.B.Bank.receipts g.met.B.Bank.readied c.reserve_at.ensures.readied in
    record {
      lines = ap (λ (w : BankWay). w.lines) s.same_way ∙ c.requires.lines;
      line = has_line c.args.self.now c.args.request.now c.requires.accepted;
    }

pub returns-in_err-victim-clause-readied : goal.returns-in_err-victim-clause-readied
returns-in_err-victim-clause-readied g c = readied_then c.reserve_at.ensures.readied c.put_in_with_room.ensures.readied

pub aim_at-requires : goal.aim_at-requires
aim_at-requires g c =
    let n = c.args.self.now in
    let r = c.args.request.now in
    let s = stays_readied g.B.Bank.way g.B.Bank.nodes_on g.B.Bank.keep g.B.Bank.readies g.B.Bank.at_step g.B.Bank.receipts g.met.B.Bank.readied (readied_then c.reserve_at.ensures.readied c.put_in_with_room.ensures.readied) in
    let lines = ap (λ (w : BankWay). w.lines) s.same_way ∙ c.requires.lines in
    let e = c.in_ok-victim.ensures in
    record {
      line = subst (λ (k : ℕ). c.line-line.result < k) (sym lines) (subst (λ (l : ℕ). l < n.lines) (sym c.line-line.ensures) (has_line n r c.requires.accepted));
      other = subst (λ (k : ℕ). IsLine k c.in_ok-victim.victim) (sym lines) (subst (λ (o : Option ℕ). IsLine n.lines o) (sym e.victim) e.inside);
      apart = subst (λ (l : ℕ). IfSome c.in_ok-victim.victim (λ x. l ≢ x)) (sym c.line-line.ensures) (subst (λ (o : Option ℕ). IfSome o (λ x. line_of r ≢ x)) (sym e.victim) (victim_apart n r));
    }

pub returns-clause-readied : goal.returns-clause-readied
returns-clause-readied g c = readied_then (readied_then c.reserve_at.ensures.readied c.put_in_with_room.ensures.readied) c.aim_at.ensures.readied

pub returns-clause-ready : goal.returns-clause-ready
returns-clause-ready g c = λ keeps.
    let r = c.args.request.now in
    let e = c.in_ok-victim.ensures in
    let a = c.aim_at.ensures in
    let receipts = g.B.Bank.receipts in
    let first = c.reserve_at.new.bank in
    let second = c.put_in_with_room.new.bank in
    let third = c.aim_at.new.bank in
    let s = stays_readied g.B.Bank.way g.B.Bank.nodes_on g.B.Bank.keep g.B.Bank.readies g.B.Bank.at_step receipts g.met.B.Bank.readied e.readied in
    let t = stays_readied g.B.Bank.way g.B.Bank.nodes_on g.B.Bank.keep g.B.Bank.readies g.B.Bank.at_step receipts g.met.B.Bank.readied a.readied in
    let l = c.line-line.result in
    let here : IsReadyFor (goal_of r) (receipts third l) = record {
      mark = a.mark ∙ c.passes.ensures;
      room = subst (λ (k : ℕ). k ≤ (receipts third l).room) c.most_needed.ensures (more_room c.most_needed.result (receipts first l).room (receipts second l).room (receipts third l).room c.in_ok-reserve_at.ensures.room (s.grows l) (t.grows l));
    } in
    record {
      line = subst (λ (k : ℕ). IsReadyFor (goal_of r) (receipts third k)) c.line-line.ensures here;
      exit = subst (λ (o : Option ℕ). IfSome o (λ w. IsReadyFor Goal.Evict (receipts third w))) e.victim (ready_out_by c.in_ok-victim.victim (receipts second) (receipts third) a.out e.room t.grows);
    }

pub returns-then-not-self-clause-others : goal.returns-then-not-self-clause-others
returns-then-not-self-clause-others g c = λ m other out. refl

pub returns-in_err-reserve_at-clause-others : goal.returns-in_err-reserve_at-clause-others
returns-in_err-reserve_at-clause-others g c = λ m other out. c.reserve_at.ensures.others m (λ h. other (h ∙ c.line-line.ensures))

pub returns-in_err-victim-clause-others : goal.returns-in_err-victim-clause-others
returns-in_err-victim-clause-others g c = λ m other out. c.put_in_with_room.ensures.others m other out ∙ c.reserve_at.ensures.others m (λ h. other (h ∙ c.line-line.ensures))

pub returns-clause-others : goal.returns-clause-others
returns-clause-others g c = λ m other out.
    let e = c.in_ok-victim.ensures in
    c.aim_at.ensures.others m (λ h. other (h ∙ c.line-line.ensures)) (subst (λ (o : Option ℕ). IfSome o (λ w. m ≢ w)) (sym e.victim) out)
    ∙ e.others m other out
    ∙ c.reserve_at.ensures.others m (λ h. other (h ∙ c.line-line.ensures))
