use Rattle.std.proofs.Common.{◌∙◌}
use Rattle.sci_port.specs.Owes.{IsSoundStep}
use Rattle.sci_port.proofs.SeatBanked.{here, near, step_here}
use Rattle.sci_port.proofs.seat_bank.SeatBankBank.pending.Goals as goal

pub index-requires : goal.index-requires
index-requires g c = rw (c.from.ensures, c.args.self.now.seats.ok.0) (near g.met.L.SharedLine.laws c.args.self.now.of c.args.line c.requires)

pub returns-clause-value : goal.returns-clause-value
returns-clause-value g c = c.seat_pending.ensures.value ∙ step_here g.met.L.SharedLine.laws c.args.self.now.of c.args.line c.requires c.from.result c.index.result.now c.index.result.now c.from.ensures c.index.ensures

pub returns-clause-sound : goal.returns-clause-sound
returns-clause-sound g c = here g.met.L.SharedLine.laws c.args.self.now.of c.args.line c.requires c.from.result c.index.result.now c.index.result.now c.from.ensures c.index.ensures (λ n k m me. IsSoundStep n (g.L.Keep.Keeps.fits k m) c.seat_pending.result) c.seat_pending.ensures.sound
