use Rattle.std.proofs.Common.{◌≡◌, ◌∙◌, ◌<◌, ap, refl, sym, subst}
use Rattle.sci_ops.specs.declared.answers.Turn.{Turn}
use Rattle.sci_cache.specs.Nodes.{NodeState}
use Rattle.sci_script.specs.declared.desk.Toward.{Toward}
use Rattle.sci_script.specs.Event.{Rested}
use Rattle.sci_script.specs.Passed.{passes_to_rest}
use Rattle.sci_script.specs.Shared.{Shared, shared_does, shared_far}
use Rattle.sci_script.specs.Waiting.{goal_at_work}
use Rattle.sci_script.specs.Wholes.{shared_of}
use Rattle.sci_trace.specs.NoteText.{note_bytes}
use Rattle.sci_trace.specs.Telling.{nothing, telling_of}
use Rattle.sci_trace.proofs.Tellings.{adds_told, no_rest_line, telling_in}
use Rattle.sci_trace.proofs.desk.TraceDeskDesk.rest_turn.Goals as goal

pub returns-in_default-clause-turned : goal.returns-in_default-clause-turned
returns-in_default-clause-turned c =
    let now = c.args.self.now in
    let t = telling_in (shared_of c.watched_rest_turn-toward.new.self) (note_bytes now.notes.text) now.notes.is_cut in
    (c.watched_rest_turn-toward.ensures.turned, no_rest_line (telling_of now) c.args.line c.watched_rest_turn-toward.result t c.in_default.not-Turned (refl, refl))

pub returns-clause-turned : goal.returns-clause-turned
returns-clause-turned c =
    let s = shared_of c.args.self.now.desk in
    let t = c.tell.new.self in
    let before = c.args.self.now.notes in
    let after = t.notes in
    let node = c.in-Turned.node in
    let does = subst (λ (x : Shared). shared_does s (Rested c.args.line (Toward.Turned node)) x) (sym c.tell.ensures.same) c.in-Turned.ensures.turned in
    let works = c.goal_at_work-goal.ensures ∙ ap (λ (k : NodeState). goal_at_work k.call) (c.in-Turned.ensures.turned.nodes node) in
    let told = adds_told (λ x p. passes_to_rest s c.args.line node x nothing p) s (shared_of c.watched_rest_turn-toward.new.self) (shared_of t.desk) node c.goal_at_work-goal.result Turn.Moved 1 c.watched_rest_turn-toward.new.passed (note_bytes before.text) (note_bytes after.text) before.is_cut after.is_cut
    c.tell.ensures.same c.in-Turned.ensures.passed works c.tell.ensures.told in
    (does, told)

pub returns-clause-nearer : goal.returns-clause-nearer
returns-clause-nearer c = λ turned.
    subst (λ (x : Shared). shared_far x c.args.line < shared_far (shared_of c.args.self.now.desk) c.args.line) (sym c.tell.ensures.same) (c.in-Turned.ensures.nearer tt)
