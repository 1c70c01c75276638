use Rattle.std.proofs.Common.{◌<◌, sym, subst}
use Rattle.std.proofs.lemmas.Result.{IfOk-from_err}
use Rattle.sci_work.specs.Made.{ComesInCall, none}
use Rattle.sci_work.proofs.Making.{made_all}
use Rattle.sci_work.proofs.Residual.{passed_on}
use Rattle.sci_work.proofs.Watched.{still_watched}
use Rattle.sci_work.proofs.Worked.{still_not, still_then}
use Rattle.sci_work.proofs.calls.load_until.Goals as goal

pub loop-init : goal.loop-init
loop-init g c = record { can = tt; finite = tt; still = still_not c.requires.ready; made = none }

pub returns-in_err-words : goal.returns-in_err-words
returns-in_err-words g c =
    let r = c.from_residual in
    record {
      fits = IfOk-from_err r.result _ r.ensures.0;
      number = IfOk-from_err r.result _ r.ensures.0;
      err = passed_on r.result _ _ r.ensures.1 c.in_err-words.ensures.err;
      made = made_all g.B.Bank.gives g.B.Bank.readies g.B.Bank.at_step c.loop.invariant.made c.load.ensures.made;
      still = still_then c.loop.invariant.still c.load.ensures.still;
    }

pub returns-then-words-number : goal.returns-then-words-number
returns-then-words-number g c =
    record {
      fits = subst (λ k. g.B.Keep.Keeps.fits k c.args.line c.in_ok-words.words) c.loop.invariant.still.same_fact c.in_ok-words.ensures.fits;
      number = c.if-words-number.true;
      err = tt;
      made = made_all g.B.Bank.gives g.B.Bank.readies g.B.Bank.at_step c.loop.invariant.made c.load.ensures.made;
      still = still_then c.loop.invariant.still c.load.ensures.still;
    }

pub returns-in_err-watch : goal.returns-in_err-watch
returns-in_err-watch g c =
    let r = c.from_residual-in_err-watch in
    let seen = still_then c.loop.invariant.still c.load.ensures.still in
    record {
      fits = IfOk-from_err r.result _ r.ensures.0;
      number = IfOk-from_err r.result _ r.ensures.0;
      err = passed_on r.result _ _ r.ensures.1 (subst ComesInCall (sym c.in_err-watch.ensures.err) tt);
      made = made_all g.B.Bank.gives g.B.Bank.readies g.B.Bank.at_step (made_all g.B.Bank.gives g.B.Bank.readies g.B.Bank.at_step c.loop.invariant.made c.load.ensures.made) (c.watch.ensures.watched.made c.load.new.node);
      still = still_then seen (still_watched seen.ready c.watch.ensures.watched);
    }

pub watch-requires-clause-line : goal.watch-requires-clause-line
watch-requires-clause-line g c κs within = subst (λ w. c.args.line < w.lines) (sym (still_then c.loop.invariant.still c.load.ensures.still).same_way) c.requires.line

pub loop-preserved : goal.loop-preserved
loop-preserved g c =
    let seen = still_then c.loop.invariant.still c.load.ensures.still in
    record {
      can = tt;
      finite = tt;
      still = still_then seen (still_watched seen.ready c.watch.ensures.watched);
      made = made_all g.B.Bank.gives g.B.Bank.readies g.B.Bank.at_step (made_all g.B.Bank.gives g.B.Bank.readies g.B.Bank.at_step c.loop.invariant.made c.load.ensures.made) (c.watch.ensures.watched.made c.load.new.node);
    }

pub load-requires-clause-ready : goal.load-requires-clause-ready
load-requires-clause-ready g c κs within = c.loop.invariant.still.ready

pub load-requires-clause-line : goal.load-requires-clause-line
load-requires-clause-line g c κs within = subst (λ w. c.args.line < w.lines) (sym c.loop.invariant.still.same_way) c.requires.line
