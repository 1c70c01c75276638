use Rattle.std.proofs.Common.{◌<◌, ℕ, List, refl, sym, subst, ◌∙◌}
use Rattle.sci_port.specs.SeatBanks.{IsOnePerLine}
use Rattle.sci_port.proofs.Elements.{clash}
use Rattle.sci_port.proofs.SeatBanked.{sit_at, first_fact, first_node}
use Rattle.sci_port.proofs.seat_bank.SeatBank.new.Goals as goal

pub returns-then-not-is_one_per_line : goal.returns-then-not-is_one_per_line
returns-then-not-is_one_per_line g c = record {
  ok = tt;
  err = (λ one. clash c.is_one_per_line.result (c.is_one_per_line.ensures.1 (subst (λ (l : List _). IsOnePerLine g.L.SharedLine.seating c.args.lines.now l) (sym c.deref.ensures.value) one)) c.if-not-is_one_per_line.true, refl);
}

pub index-requires : goal.index-requires
index-requires g c =
    let one = subst (λ (l : List _). IsOnePerLine g.L.SharedLine.seating c.args.lines.now l) c.deref.ensures.value (c.is_one_per_line.ensures.0 c.if-not-is_one_per_line.false) in
    subst (λ (n : ℕ). 0 < n) (sym (c.args.seats.ok.0 ∙ one.count)) c.requires.lines.some_are

pub bounds-lines-0 : goal.bounds-lines-0
bounds-lines-0 g c = c.requires.lines.some_are

pub invariant_of-result : goal.invariant_of-result
invariant_of-result g c =
    let one = subst (λ (l : List _). IsOnePerLine g.L.SharedLine.seating c.args.lines.now l) c.deref.ensures.value (c.is_one_per_line.ensures.0 c.if-not-is_one_per_line.false) in
    let are = c.requires.lines in
    record {
      of = sit_at c.args.lines.now c.args.seats.items are one g.L.SharedLine.is_seat (c.requires.seats one) c.keep-keep.result c.seat_node-node.result
          (c.keep-keep.ensures ∙ first_fact c.args.lines.now c.args.seats.items are one c.index-lines-0.result c.index-lines-0.result c.index-lines-0.is)
          (c.seat_node-node.ensures ∙ first_node c.args.lines.now c.args.seats.items are one c.index.result.now c.index.result.now c.index.ensures);
    }

pub returns : goal.returns
returns g c = record {
  ok = (subst (λ (l : List _). IsOnePerLine g.L.SharedLine.seating c.args.lines.now l) c.deref.ensures.value (c.is_one_per_line.ensures.0 c.if-not-is_one_per_line.false), refl, refl);
  err = tt;
}
