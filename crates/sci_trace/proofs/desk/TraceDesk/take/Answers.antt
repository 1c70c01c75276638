use Rattle.std.proofs.Common.{◌≡◌, true, sym, subst}
use Rattle.sci_script.specs.Event.{Turned}
use Rattle.sci_script.specs.Shared.{Shared, shared_is_open, shared_does}
use Rattle.sci_script.specs.Passed.{shared_passes}
use Rattle.sci_script.specs.Wholes.{shared_of}
use Rattle.sci_trace.specs.NoteText.{note_bytes}
use Rattle.sci_trace.specs.Telling.{nothing}
use Rattle.sci_trace.proofs.Tellings.{adds_told}
use Rattle.sci_trace.proofs.desk.TraceDesk.take.Goals as goal

pub returns-clause-turned : goal.returns-clause-turned
returns-clause-turned c =
    let s = shared_of c.args.self.now.desk in
    subst (λ (x : Shared). shared_does s (Turned c.args.node c.watched_turn-turn.result) x) (sym c.tell.ensures.same) c.watched_turn-turn.ensures.turned

pub returns-clause-told : goal.returns-clause-told
returns-clause-told c =
    let before = c.args.self.now.notes in
    let after = c.tell.new.self.notes in
    adds_told (λ x p. shared_passes (shared_of c.args.self.now.desk) c.args.node x nothing p) (shared_of c.args.self.now.desk) (shared_of c.watched_turn-turn.new.self) (shared_of c.tell.new.self.desk) c.args.node c.goal_at_work-goal.result c.watched_turn-turn.result c.args.times c.watched_turn-turn.new.passed (note_bytes before.text) (note_bytes after.text) before.is_cut after.is_cut
    c.tell.ensures.same c.watched_turn-turn.ensures.passed c.goal_at_work-goal.ensures c.tell.ensures.told

pub returns-clause-open : goal.returns-clause-open
returns-clause-open c = λ no_end. subst (λ (s : Shared). shared_is_open s c.args.node ≡ true) (sym c.tell.ensures.same) (c.watched_turn-turn.ensures.open no_end)
