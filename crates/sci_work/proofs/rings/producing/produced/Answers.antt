use Rattle.std.proofs.Common.{◌≡◌, ◌<◌, ◌%◌, ℕ, List, ◌++◌, length, ap, sym, subst, ◌∙◌, arith}
use Rattle.std.proofs.lemmas.Result.{IfOk-from_err}
use Rattle.sci_work.specs.Made.{IsStillBankOf, Made, none}
use Rattle.sci_work.specs.Ring.{FitsRing, item_writes}
use Rattle.sci_work.proofs.Making.{made_all}
use Rattle.sci_work.proofs.Items.{item_fits, item_more}
use Rattle.sci_work.proofs.Residual.{passed_on}
use Rattle.sci_work.proofs.Worked.{still_not, still_then}
use Rattle.sci_work.proofs.rings.producing.produced.Goals as goal

pub loop-i-init : goal.loop-i-init
loop-i-init g c = record { still = still_not c.requires.ready; made = none }

pub returns-in_err-consumed : goal.returns-in_err-consumed
returns-in_err-consumed g c =
    let r = c.from_residual in
    record {
      ok = IfOk-from_err r.result _ r.ensures.0;
      err = passed_on r.result _ _ r.ensures.1 c.in_err-consumed.ensures.err;
      made = record { count = c.loop-i.i; within = c.loop-i.auto.i-end; made = made_all g.B.Bank.gives g.B.Bank.readies g.B.Bank.at_step c.loop-i.invariant.made c.free.ensures.made };
      still = (_, still_then c.loop-i.invariant.still c.free.ensures.still, IfOk-from_err r.result _ r.ensures.0);
    }

pub returns-in_err-write_line : goal.returns-in_err-write_line
returns-in_err-write_line g c =
    let r = c.from_residual-in_err-write_line in
    record {
      ok = IfOk-from_err r.result _ r.ensures.0;
      err = passed_on r.result _ _ r.ensures.1 c.in_err-write_line.ensures.err;
      made = record {
        count = c.loop-i.i;
        within = c.loop-i.auto.i-end;
        made = made_all g.B.Bank.gives g.B.Bank.readies g.B.Bank.at_step (made_all g.B.Bank.gives g.B.Bank.readies g.B.Bank.at_step c.loop-i.invariant.made c.free.ensures.made) c.in_err-write_line.ensures.none;
      };
      still = (_, still_then (still_then c.loop-i.invariant.still c.free.ensures.still) c.write_line.ensures.still.1, IfOk-from_err r.result _ r.ensures.0);
    }

pub loop-i-preserved : goal.loop-i-preserved
loop-i-preserved g c =
    let more = made_all g.B.Bank.gives g.B.Bank.readies g.B.Bank.at_step (made_all g.B.Bank.gives g.B.Bank.readies g.B.Bank.at_step c.loop-i.invariant.made c.free.ensures.made) c.in_ok-write_line.ensures.made in
    record {
      made =
          subst (λ (ws : List (ℕ × List ℕ)). Made g.B.Bank.gives g.B.Bank.readies g.B.Bank.at_step ws c.args.node.now c.args.bank.now c.write_line.new.node c.write_line.new.bank)
          (item_more c.args.source.now c.args.lines c.loop-i.i _ _ c.line_of-line.ensures.place c.words_of.ensures) more;
      still = subst (λ (ws : List (ℕ × List ℕ)). IsStillBankOf c.args.node.now.keeps ws g.B.Bank.way g.B.Bank.keep g.B.Bank.at_step g.B.Bank.gives g.B.Bank.readies g.B.Bank.receipts c.args.bank.now c.write_line.new.node c.write_line.new.bank)
          (ap (λ (ws : List (ℕ × List ℕ)). ws ++ item_writes c.args.source.now c.args.lines c.loop-i.i) c.in_ok-write_line.ensures.still.2 ∙ item_more c.args.source.now c.args.lines c.loop-i.i _ _ c.line_of-line.ensures.place c.words_of.ensures)
          (still_then (still_then c.loop-i.invariant.still c.free.ensures.still) c.in_ok-write_line.ensures.still.1);
    }

pub returns : goal.returns
returns g c =
    let i = c.loop-i.invariant in
    let all : c.loop-i.i ≡ length c.args.source.now = omega (arith, c.loop-i.auto.i-end, c.loop-i-test.false) in
    record {
      ok = subst (λ (k : ℕ). Made g.B.Bank.gives g.B.Bank.readies g.B.Bank.at_step (item_writes c.args.source.now c.args.lines k) c.args.node.now c.args.bank.now c.loop-i.node c.loop-i.bank) all i.made;
      err = tt;
      made = record { count = c.loop-i.i; within = c.loop-i.auto.i-end; made = i.made };
      still = (_, i.still, ap (item_writes c.args.source.now c.args.lines) all);
    }

pub free-requires-clause-ready : goal.free-requires-clause-ready
free-requires-clause-ready g c κs within = c.loop-i.invariant.still.ready

pub free-requires-clause-room : goal.free-requires-clause-room
free-requires-clause-room g c κs within = subst (λ w. c.args.lines < w.lines) (sym c.loop-i.invariant.still.same_way) c.requires.room

pub write_line-requires-clause-ready : goal.write_line-requires-clause-ready
write_line-requires-clause-ready g c κs within = c.free.ensures.still.ready

pub write_line-requires-clause-line : goal.write_line-requires-clause-line
write_line-requires-clause-line g c κs within =
    subst (λ w. c.line_of-line.result < w.lines) (sym (c.free.ensures.still.same_way ∙ c.loop-i.invariant.still.same_way)) (omega (arith, c.line_of-line.ensures.inside, c.requires.room))

pub write_line-requires-clause-fits : goal.write_line-requires-clause-fits
write_line-requires-clause-fits g c κs within =
    let line = c.line_of-line.result in let words = c.words_of.result in let source = c.args.source.now in let lines = c.args.lines in let i = c.loop-i.i in
    let some = c.requires.size.1 in
    let item = item_fits source lines i (omega (arith, some)) c.loop-i-test.true in
    let there = subst (λ (k : ℕ). FitsRing source lines k words) (sym c.line_of-line.ensures.place) (subst (λ (ws : List ℕ). FitsRing source lines (i % lines) ws) (sym c.words_of.ensures) item) in
    subst (λ k. g.B.Keep.Keeps.fits k line words) (sym (c.free.ensures.still.same_fact ∙ c.loop-i.invariant.still.same_fact)) (c.requires.ring.takes line words there)
