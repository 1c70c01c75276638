use Rattle.std.proofs.Common.{ap, subst, ◌∙◌}
use Rattle.sci_core.specs.declared.pending.Pending.{Pending}
use Rattle.sci_core.specs.Stage.{stage_of}
use Rattle.sci_port.specs.Owes.{IsSoundStep}
use Rattle.sci_port.specs.Seated.{Seated, nodes_on}
use Rattle.sci_port.specs.SeatBanks.{seated}
use Rattle.sci_port.proofs.SeatBanked.{here, near, step_here}
use Rattle.sci_port.proofs.seat_bank.SeatBankBank.stage.Goals as goal

pub index-requires : goal.index-requires
index-requires g c = rw (c.from.ensures, c.args.self.now.seats.ok.0) (near g.met.L.SharedLine.laws c.args.self.now.of c.args.line c.requires)

pub returns-clause-value : goal.returns-clause-value
returns-clause-value g c = c.seat_stage.ensures.value ∙ ap stage_of (step_here g.met.L.SharedLine.laws c.args.self.now.of c.args.line c.requires c.from.result c.index.result.now c.index.result.now c.from.ensures c.index.ensures)

pub returns-clause-sound : goal.returns-clause-sound
returns-clause-sound g c =
    let b : Seated _ = seated g.L.SharedLine.terms g.L.SharedLine.seating c.args.self.now.keep c.args.self.now.node c.args.self.now.lines.now c.args.self.now.seats.items in
    let step = step_here g.met.L.SharedLine.laws c.args.self.now.of c.args.line c.requires c.from.result c.index.result.now c.index.result.now c.from.ensures c.index.ensures in
    let sound = here g.met.L.SharedLine.laws c.args.self.now.of c.args.line c.requires c.from.result c.index.result.now c.index.result.now c.from.ensures c.index.ensures (λ n k m me. IsSoundStep n (g.L.Keep.Keeps.fits k m) (g.L.SharedLine.seating c.index.result.now).pending) c.seat_stage.ensures.sound in
    subst (λ (p : Pending). IsSoundStep (nodes_on b c.args.line) (g.L.Keep.Keeps.fits b.keep c.args.line) p) step sound
