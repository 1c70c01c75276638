use Rattle.std.proofs.Common.{Bool, if◌then◌else◌, ◌≡◌, ◌<◌, ◌+◌, ℕ, ◌∷◌, [], ◌++◌, List, take, vec_items, ap, sym, subst, ◌∙◌, arith}
use Rattle.std.proofs.lemmas.Result.{IfOk-from_err}
use Rattle.sci_work.specs.Made.{IsStillBankOf, Made, none}
use Rattle.sci_work.specs.Ring.{FitsRing, IsRing, count_writes}
use Rattle.sci_work.proofs.Making.{made_all}
use Rattle.sci_work.proofs.Items.{count_fits, count_more, take_more}
use Rattle.sci_work.proofs.Refusing.{of_call}
use Rattle.sci_work.proofs.Residual.{passed_on}
use Rattle.sci_work.proofs.Worked.{still_not, still_then}
use Rattle.sci_work.proofs.rings.consuming.consumed.Goals as goal

pub loop-i-init : goal.loop-i-init
loop-i-init g c = record { items = λ source ring enough. c.new-items.ensures.items; still = still_not c.requires.ready; made = none }

pub returns-in_err-value : goal.returns-in_err-value
returns-in_err-value g c =
    let r = c.from_residual in
    record {
      items = IfOk-from_err r.result _ r.ensures.0;
      ok = IfOk-from_err r.result _ r.ensures.0;
      err = passed_on r.result _ _ r.ensures.1 c.in_err-value.ensures.err;
      made = record { count = c.loop-i.i; within = c.loop-i.auto.i-end; made = made_all g.B.Bank.gives g.B.Bank.readies g.B.Bank.at_step c.loop-i.invariant.made c.item.ensures.made };
      still = (_, still_then c.loop-i.invariant.still c.item.ensures.still, IfOk-from_err r.result _ r.ensures.0);
    }

pub returns-then-is_err : goal.returns-then-is_err
returns-then-is_err g c =
    record {
      items = tt;
      ok = tt;
      err = tt;
      made = record { count = c.loop-i.i; within = c.loop-i.auto.i-end; made = made_all g.B.Bank.gives g.B.Bank.readies g.B.Bank.at_step c.loop-i.invariant.made c.item.ensures.made };
      still = (_, still_then c.loop-i.invariant.still c.item.ensures.still, tt);
    }

pub returns-in_err-write_line : goal.returns-in_err-write_line
returns-in_err-write_line g c =
    let r = c.from_residual-in_err-write_line in
    record {
      items = IfOk-from_err r.result _ r.ensures.0;
      ok = IfOk-from_err r.result _ r.ensures.0;
      err = passed_on r.result _ _ r.ensures.1 (of_call _ c.in_err-write_line.ensures.err);
      made = record {
        count = c.loop-i.i;
        within = c.loop-i.auto.i-end;
        made = made_all g.B.Bank.gives g.B.Bank.readies g.B.Bank.at_step (made_all g.B.Bank.gives g.B.Bank.readies g.B.Bank.at_step c.loop-i.invariant.made c.item.ensures.made) c.in_err-write_line.ensures.none;
      };
      still = (_, still_then (still_then c.loop-i.invariant.still c.item.ensures.still) c.write_line.ensures.still.1, IfOk-from_err r.result _ r.ensures.0);
    }

pub loop-i-preserved : goal.loop-i-preserved
loop-i-preserved g c =
    let more = made_all g.B.Bank.gives g.B.Bank.readies g.B.Bank.at_step (made_all g.B.Bank.gives g.B.Bank.readies g.B.Bank.at_step c.loop-i.invariant.made c.item.ensures.made) c.in_ok-write_line.ensures.made in
    record {
      items = λ source ring enough.
          let was = c.loop-i.invariant.items source ring enough in
          let value = c.in_ok-value.ensures.value source (subst (λ k. IsRing (g.B.Keep.Keeps.fits k) source c.args.lines) (sym c.loop-i.invariant.still.same_fact) ring) in
          let was_items = vec_items c.loop-i.items in
          let pushed = c.push.ensures.items ∙ ap (λ (b : Bool). if b then was_items ++ c.in_ok-value.value ∷ [] else was_items) c.if-is_err.ensures.negation in
          pushed ∙ ap (λ (xs : List ℕ). xs ++ c.in_ok-value.value ∷ []) was ∙ take_more source c.loop-i.i c.in_ok-value.value (omega arith) value;
      made =
          subst (λ (ws : List (ℕ × List ℕ)). Made g.B.Bank.gives g.B.Bank.readies g.B.Bank.at_step ws c.args.node.now c.args.bank.now c.write_line.new.node c.write_line.new.bank)
          (count_more c.args.lines c.loop-i.i _ c.count_of.ensures) more;
      still = subst (λ (ws : List (ℕ × List ℕ)). IsStillBankOf c.args.node.now.keeps ws g.B.Bank.way g.B.Bank.keep g.B.Bank.at_step g.B.Bank.gives g.B.Bank.readies g.B.Bank.receipts c.args.bank.now c.write_line.new.node c.write_line.new.bank)
          (ap (λ (ws : List (ℕ × List ℕ)). ws ++ count_writes c.args.lines c.loop-i.i) c.in_ok-write_line.ensures.still.2 ∙ count_more c.args.lines c.loop-i.i _ c.count_of.ensures)
          (still_then (still_then c.loop-i.invariant.still c.item.ensures.still) c.in_ok-write_line.ensures.still.1);
    }

pub returns : goal.returns
returns g c =
    let i = c.loop-i.invariant in
    let all : c.loop-i.i ≡ c.args.n = omega (arith, c.loop-i.auto.i-end, c.loop-i-test.false) in
    record {
      items = λ source ring enough. i.items source ring enough ∙ ap (λ (k : ℕ). take k source) all;
      ok = subst (λ (k : ℕ). Made g.B.Bank.gives g.B.Bank.readies g.B.Bank.at_step (count_writes c.args.lines k) c.args.node.now c.args.bank.now c.loop-i.node c.loop-i.bank) all i.made;
      err = tt;
      made = record { count = c.loop-i.i; within = c.loop-i.auto.i-end; made = i.made };
      still = (_, i.still, ap (count_writes c.args.lines) all);
    }

pub item-requires-clause-ready : goal.item-requires-clause-ready
item-requires-clause-ready g c κs within = c.loop-i.invariant.still.ready

pub item-requires-clause-room : goal.item-requires-clause-room
item-requires-clause-room g c κs within = let some = c.requires.size.1 in (omega (arith, some), subst (λ w. c.args.lines < w.lines) (sym c.loop-i.invariant.still.same_way) c.requires.room)

pub write_line-requires-clause-ready : goal.write_line-requires-clause-ready
write_line-requires-clause-ready g c κs within = c.item.ensures.still.ready

pub write_line-requires-clause-line : goal.write_line-requires-clause-line
write_line-requires-clause-line g c κs within = subst (λ w. c.args.lines < w.lines) (sym (c.item.ensures.still.same_way ∙ c.loop-i.invariant.still.same_way)) c.requires.room

pub write_line-requires-clause-fits : goal.write_line-requires-clause-fits
write_line-requires-clause-fits g c κs within =
    let ring = c.requires.ring in let source = ring.source in let lines = c.args.lines in let words = c.count_of.result in let i = c.loop-i.i in
    let counted = count_fits source lines (i + 1) (omega (arith, c.loop-i-test.true, ring.enough)) in
    let there = subst (λ (ws : List ℕ). FitsRing source lines lines ws) (sym c.count_of.ensures) counted in
    subst (λ k. g.B.Keep.Keeps.fits k lines words) (sym (c.item.ensures.still.same_fact ∙ c.loop-i.invariant.still.same_fact)) (ring.ring.takes lines words there)
