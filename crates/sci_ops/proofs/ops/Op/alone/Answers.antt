use Rattle.std.proofs.Common.{refl, arith, suc, ap, sym, subst, ◌∙◌}
use Rattle.sci_core.specs.Whole.{nodes_of, state_of}
use Rattle.sci_port.specs.declared.solo.Solo.{Solo}
use Rattle.sci_ops.specs.declared.answers.Turn.{Turn}
use Rattle.sci_ops.specs.Alone.{turn, no_turn}
use Rattle.sci_ops.specs.Change.{StoresFitting}
use Rattle.sci_ops.specs.Operation.{Operation}
use Rattle.sci_ops.specs.Table.{after_turn}
use Rattle.sci_ops.proofs.Ending.Falls.{alone_at_rest, bound_at_rest}
use Rattle.sci_ops.proofs.Ending.Turning.{turns}
use Rattle.sci_ops.proofs.Last.{last_of}
use Rattle.sci_ops.proofs.Less.{takes_less}
use Rattle.sci_ops.proofs.SoFar.{goes_so_far, none_so_far, still_given}
use Rattle.sci_ops.proofs.Staged.{stores_on}
use Rattle.sci_ops.proofs.ops.Op.alone.Goals as goal

pub turns-init : goal.turns-init
turns-init g c = record {
  same_op = refl;
  same_way = refl;
  same_fact = refl;
  turns = (0, omega arith, no_turn);
  kept = λ given. (given, none_so_far c.args.self.now c.args.solo.now.receipts.now);
  alone = alone_at_rest _ _ _ _ c.requires.rest;
  cost = omega arith;
}

pub turn-requires : goal.turn-requires
turn-requires g c =
    let i = c.turns.invariant in
    let fits = stores_on g.K.Keeps.fits _ _ _ _ c.args.self.now.goal i.same_fact i.same_way c.requires.fits in
    record { fits = subst (λ (x : Operation). StoresFitting (g.K.Keeps.fits c.turns.solo.whole.now.keep c.turns.solo.whole.now.number) x.goal) (sym i.same_op) fits }

pub turns-preserved : goal.turns-preserved
turns-preserved g c =
    let i = c.turns.invariant in
    let h = turns (Solo g.row.K.Denot g.K.Keeps) g.K.Keeps.fits (λ s. s.whole.ghost_name) (λ s. s.whole.now) (λ s. s.node) c.args.solo.now c.turns.solo c.turn.new.port c.args.self.now c.turns.self Turn.Moved c.requires.begins i.same_op i.same_way i.same_fact i.alone (takes_less (λ s call t h. h.0) c.in-Moved.ensures.calls) in
    record {
      same_op = c.in-Moved.ensures.op ∙ i.same_op;
      same_way = c.in-Moved.ensures.same_way ∙ i.same_way;
      same_fact = c.in-Moved.ensures.same_fact ∙ i.same_fact;
      turns = (suc i.turns.0, omega (arith, i.turns.1), turn i.turns.2 h.0);
      kept = λ given.
          let k = i.kept given in
          let t = c.in-Moved.ensures.kept k.0 in
          (still_given c.turns.self c.turn.new.self _ _ c.in-Moved.ensures.op t.provided, goes_so_far c.args.self.now c.turns.self _ _ _ Turn.Moved i.same_op k.1 t.writes t.extends);
      alone = h.1.0;
      cost = omega (arith, h.1.1, i.cost);
    }

pub turns-smaller : goal.turns-smaller
turns-smaller g c =
    let i = c.turns.invariant in
    (turns (Solo g.row.K.Denot g.K.Keeps) g.K.Keeps.fits (λ s. s.whole.ghost_name) (λ s. s.whole.now) (λ s. s.node) c.args.solo.now c.turns.solo c.turn.new.port c.args.self.now c.turns.self Turn.Moved c.requires.begins i.same_op i.same_way i.same_fact i.alone (takes_less (λ s call t h. h.0) c.in-Moved.ensures.calls)).1.1

pub unreachable-requires : goal.unreachable-requires
unreachable-requires g c =
    let i = c.turns.invariant in
    (turns (Solo g.row.K.Denot g.K.Keeps) g.K.Keeps.fits (λ s. s.whole.ghost_name) (λ s. s.whole.now) (λ s. s.node) c.args.solo.now c.turns.solo c.turn.new.port c.args.self.now c.turns.self Turn.Waiting c.requires.begins i.same_op i.same_way i.same_fact i.alone (takes_less (λ s call t h. h.0) c.in-Waiting.ensures.calls)).1

pub returns-in-Done : goal.returns-in-Done
returns-in-Done g c =
    let i = c.turns.invariant in
    let h = turns (Solo g.row.K.Denot g.K.Keeps) g.K.Keeps.fits (λ s. s.whole.ghost_name) (λ s. s.whole.now) (λ s. s.node) c.args.solo.now c.turns.solo c.turn.new.port c.args.self.now c.turns.self (Turn.Done c.in-Done.answer) c.requires.begins i.same_op i.same_way i.same_fact i.alone (takes_less (λ s call t h. h.0) c.in-Done.ensures.calls) in
    let bound = bound_at_rest (nodes_of c.args.solo.now.whole.now) c.args.self.now.goal c.args.solo.now.node (state_of c.args.solo.now.whole.now) c.requires.rest in
    record {
      turns = (suc i.turns.0, omega (arith, i.turns.1), record { before = i.turns.0; mid = state_of c.turns.solo.whole.now; moves = i.turns.2; last = h.0; count = refl });
      bound = omega (arith, h.1.0, i.cost, bound);
      op = c.in-Done.ensures.op ∙ ap (λ (x : Operation). after_turn x (Turn.Done c.in-Done.answer)) i.same_op;
      rest = h.1.1;
      kept = λ given. let k = i.kept given in let t = c.in-Done.ensures.kept k.0 in goes_so_far c.args.self.now c.turns.self _ _ _ (Turn.Done c.in-Done.answer) i.same_op k.1 t.writes t.extends;
      last = λ given.
          let k = i.kept given in
          last_of c.args.self.now c.turns.self c.in-Done.answer _ c.args.solo.now.receipts.now.list c.turns.solo.receipts.now c.turn.new.port.receipts.now i.same_op c.requires.begins k.1.extends (c.in-Done.ensures.kept k.0).extends k.0 c.in-Done.ensures.last;
      same_way = c.in-Done.ensures.same_way ∙ i.same_way;
      same_fact = c.in-Done.ensures.same_fact ∙ i.same_fact;
    }
