use Rattle.std.proofs.Common.{◌≤◌, ℕ, is_ok, refl, subst}
use Rattle.sci_port.specs.KeepsAll.{as_it_was}
use Rattle.sci_port.specs.Readying.Readying.{Reserved}
use Rattle.sci_port.proofs.KeepsAll.{readied_once}
use Rattle.sci_cache.proofs.Reserved.{less_room, on_ok, reserves_same}
use Rattle.sci_cache.proofs.readying.reserve_at.Goals as goal

pub room-requires : goal.room-requires
room-requires g c = c.requires.line

pub returns-then-n-room : goal.returns-then-n-room
returns-then-n-room g c = record {
  readied = as_it_was;
  room = subst (λ (k : ℕ). c.args.n ≤ k) c.room.ensures c.if-n-room.true;
  enough = λ room. refl;
  same = λ m. record { list = refl; passing = refl };
  others = λ m other. refl;
}

pub reserve-requires : goal.reserve-requires
reserve-requires g c = c.requires.line

pub returns : goal.returns
returns g c = record {
  readied = readied_once c.args.line (Reserved c.args.n (is_ok c.reserve.result)) c.reserve.ensures.readies;
  room = on_ok c.reserve.result c.reserve.ensures.reserves.here.room;
  enough = λ room. absurd (less_room c.args.n c.room.result (g.B.Bank.receipts c.args.bank.now c.args.line).room c.if-n-room.false c.room.ensures room);
  same = reserves_same c.args.n (is_ok c.reserve.result) (g.B.Bank.receipts c.args.bank.now) c.args.line (g.B.Bank.receipts c.reserve.new.self) c.reserve.ensures.reserves;
  others = c.reserve.ensures.reserves.others;
}
