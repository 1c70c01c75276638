use Rattle.std.proofs.Common.{IfOk, ℕ, List, vec_items, sym, subst}
use Rattle.std.proofs.lemmas.Result.{IfOk-from_err}
use Rattle.sci_work.specs.Programs.{Awaits, HasWritten, IsShareOf, Suits}
use Rattle.sci_work.specs.Written.{HasWrote}
use Rattle.sci_work.proofs.Making.{on_ok_then}
use Rattle.sci_work.proofs.Refusing.{part_of_call, part_of_worked}
use Rattle.sci_work.proofs.Residual.{passed_on}
use Rattle.sci_work.proofs.programs.run.Goals as goal

pub counted-requires-clause-line : goal.counted-requires-clause-line
counted-requires-clause-line g c κs within = (subst (λ p. Suits p (g.B.Keep.Keeps.fits (g.B.Bank.keep c.args.bank.now)) (g.B.Bank.way c.args.bank.now).lines c.args.number) c.in-Count.is c.requires.suits).0

pub counted-requires-clause-fits : goal.counted-requires-clause-fits
counted-requires-clause-fits g c κs within = (subst (λ p. Suits p (g.B.Keep.Keeps.fits (g.B.Bank.keep c.args.bank.now)) (g.B.Bank.way c.args.bank.now).lines c.args.number) c.in-Count.is c.requires.suits).1

pub worked-requires-clause-ring : goal.worked-requires-clause-ring
worked-requires-clause-ring g c κs within = (subst (λ p. Suits p (g.B.Keep.Keeps.fits (g.B.Bank.keep c.args.bank.now)) (g.B.Bank.way c.args.bank.now).lines c.args.number) c.in-Ring.is c.requires.suits).0

pub worked-requires-clause-size : goal.worked-requires-clause-size
worked-requires-clause-size g c κs within = (subst (λ p. Suits p (g.B.Keep.Keeps.fits (g.B.Bank.keep c.args.bank.now)) (g.B.Bank.way c.args.bank.now).lines c.args.number) c.in-Ring.is c.requires.suits).1

pub worked-requires-clause-room : goal.worked-requires-clause-room
worked-requires-clause-room g c κs within = (subst (λ p. Suits p (g.B.Keep.Keeps.fits (g.B.Bank.keep c.args.bank.now)) (g.B.Bank.way c.args.bank.now).lines c.args.number) c.in-Ring.is c.requires.suits).2

pub worked-requires-in-Stencil-clause-work : goal.worked-requires-in-Stencil-clause-work
worked-requires-in-Stencil-clause-work g c κs within = (subst (λ p. Suits p (g.B.Keep.Keeps.fits (g.B.Bank.keep c.args.bank.now)) (g.B.Bank.way c.args.bank.now).lines c.args.number) c.in-Stencil.is c.requires.suits).0

pub worked-requires-in-Stencil-clause-nodes : goal.worked-requires-in-Stencil-clause-nodes
worked-requires-in-Stencil-clause-nodes g c κs within = let s = subst (λ p. Suits p (g.B.Keep.Keeps.fits (g.B.Bank.keep c.args.bank.now)) (g.B.Bank.way c.args.bank.now).lines c.args.number) c.in-Stencil.is c.requires.suits in (s.1, s.2)

pub returns-in_err-counted-in-Count : goal.returns-in_err-counted-in-Count
returns-in_err-counted-in-Count g c =
    let r = c.from_residual in let e = c.counted.ensures in
    record {
      share = IfOk-from_err r.result _ r.ensures.0;
      err = passed_on r.result _ _ r.ensures.1 (part_of_call c.args.program _ c.in_err-counted-in-Count.ensures.err);
      worked = e.worked;
      written = λ yes. IfOk-from_err r.result _ r.ensures.0;
    }

pub returns-in_ok-counted-in-Count-clause-written : goal.returns-in_ok-counted-in-Count-clause-written
returns-in_ok-counted-in-Count-clause-written g c =
    λ yes. subst (λ p. HasWritten p c.args.number (g.B.Bank.receipts c.args.bank.now) (g.B.Bank.receipts c.counted.new.bank)) (sym c.in-Count.is) (c.in_ok-counted-in-Count.ensures.added yes)

pub returns-in_ok-counted-in-Count-clause-share : goal.returns-in_ok-counted-in-Count-clause-share
returns-in_ok-counted-in-Count-clause-share g c = subst (λ p. IsShareOf p c.args.number (vec_items c.new.result)) (sym c.in-Count.is) tt

pub returns-in_ok-counted-in-Count-clause-err : goal.returns-in_ok-counted-in-Count-clause-err
returns-in_ok-counted-in-Count-clause-err g c = tt

pub returns-in_ok-counted-in-Count-clause-worked : goal.returns-in_ok-counted-in-Count-clause-worked
returns-in_ok-counted-in-Count-clause-worked g c = c.counted.ensures.worked

pub returns-in-Ring : goal.returns-in-Ring
returns-in-Ring g c =
    let e = c.worked.ensures in let is = sym c.in-Ring.is in
    record {
      share = subst (λ p. IfOk c.worked.result (λ s. IsShareOf p c.args.number s.items)) is e.share;
      err = part_of_worked c.worked.result c.args.program (subst Awaits is tt) e.err;
      worked = (e.worked.0, e.worked.1);
      written = λ yes. on_ok_then c.worked.result (λ all. subst (λ p. HasWritten p c.args.number (g.B.Bank.receipts c.args.bank.now) (g.B.Bank.receipts c.worked.new.bank)) is
          (subst (λ (ws : List (ℕ × List ℕ)). HasWrote ws (g.B.Bank.receipts c.args.bank.now) (g.B.Bank.receipts c.worked.new.bank)) all (e.worked.1.wrote yes))) e.worked.2;
    }

pub returns-in-Stencil : goal.returns-in-Stencil
returns-in-Stencil g c =
    let e = c.worked-in-Stencil.ensures in let is = sym c.in-Stencil.is in
    record {
      share = subst (λ p. IfOk c.worked-in-Stencil.result (λ s. IsShareOf p c.args.number s.items)) is e.share;
      err = part_of_worked c.worked-in-Stencil.result c.args.program (subst Awaits is tt) e.err;
      worked = (e.worked.0, e.worked.1);
      written = λ yes. on_ok_then c.worked-in-Stencil.result (λ all. subst (λ p. HasWritten p c.args.number (g.B.Bank.receipts c.args.bank.now) (g.B.Bank.receipts c.worked-in-Stencil.new.bank)) is
          (subst (λ (ws : List (ℕ × List ℕ)). HasWrote ws (g.B.Bank.receipts c.args.bank.now) (g.B.Bank.receipts c.worked-in-Stencil.new.bank)) all (e.worked.1.wrote yes))) e.worked.2;
    }
