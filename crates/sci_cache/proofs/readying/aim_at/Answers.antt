use Rattle.std.proofs.Common.{◌≡◌, ◌≢◌, ◌<◌, true, Option, IfSome, ℕ, ap, sym, subst, ◌∙◌}
use Rattle.sci_port.specs.Banks.{BankWay}
use Rattle.sci_port.specs.Readying.Readying.{Aimed}
use Rattle.sci_port.specs.ReceiptList.{ReceiptList}
use Rattle.sci_port.proofs.KeepsAll.{readied_once, readied_then}
use Rattle.sci_cache.specs.Nodes.{IsLine}
use Rattle.sci_cache.proofs.readying.aim_at.Goals as goal

pub aim-requires : goal.aim-requires
aim-requires g c = c.requires.line

pub returns-in_default : goal.returns-in_default
returns-in_default g c = record {
  readied = readied_once c.args.line (Aimed c.args.passing) c.aim.ensures.readies;
  mark = c.aim.ensures.aims.here.mark;
  out = subst (λ (o : Option ℕ). IfSome o (λ w. (g.B.Bank.receipts c.aim.new.self w).passing ≡ true)) (sym c.in_default.is) tt;
  others = λ m other out. c.aim.ensures.aims.others m other;
}

pub aim-requires-2 : goal.aim-requires-2
aim-requires-2 g c =
    let inside = subst (λ (o : Option ℕ). IsLine (g.B.Bank.way c.args.bank.now).lines o) c.in-Some.is c.requires.other in
    subst (λ (w : BankWay). c.in-Some.victim < w.lines) (sym c.aim.ensures.same_way) inside

pub returns : goal.returns
returns g c =
    let apart = subst (λ (o : Option ℕ). IfSome o (λ w. c.args.line ≢ w)) c.in-Some.is c.requires.apart in
    record {
      readied = readied_then (readied_once c.args.line (Aimed c.args.passing) c.aim.ensures.readies) (readied_once c.in-Some.victim (Aimed true) c.aim-2.ensures.readies);
      mark = ap (λ (s : ReceiptList). s.passing) (c.aim-2.ensures.aims.others c.args.line apart) ∙ c.aim.ensures.aims.here.mark;
      out = subst (λ (o : Option ℕ). IfSome o (λ w. (g.B.Bank.receipts c.aim-2.new.self w).passing ≡ true)) (sym c.in-Some.is) c.aim-2.ensures.aims.here.mark;
      others = λ m other out. c.aim-2.ensures.aims.others m (subst (λ (o : Option ℕ). IfSome o (λ w. m ≢ w)) c.in-Some.is out) ∙ c.aim.ensures.aims.others m other;
    }
