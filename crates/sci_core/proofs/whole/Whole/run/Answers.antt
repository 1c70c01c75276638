use Rattle.std.proofs.Common.{◌<◌, ◌≡◌, ◌∙◌, ◌++◌, ◌∷◌, ◌+◌, [], List, ℕ, false, take, refl, sym, subst, arith, Ok, Err}
use Rattle.std.proofs.lemmas.List.{take_all, take_more}
use Rattle.std.proofs.lemmas.List.Elements.{All-get_or}
use Rattle.sci_words.specs.declared.nodes.NodeId.{NodeId}
use Rattle.sci_core.specs.declared.events.Event.{Event}
use Rattle.sci_core.specs.State.{State}
use Rattle.sci_core.specs.Answers.{is_allowed, FitsEvent}
use Rattle.sci_core.specs.Run.{Runs}
use Rattle.sci_core.specs.Whole.{WholeLine, IsSound, nodes_of, state_of}
use Rattle.sci_core.proofs.Costs.{run_pays}
use Rattle.sci_core.proofs.Lawfully.{lawful_line, run_none, run_more, run_refused}
use Rattle.sci_core.proofs.whole.Whole.run.Goals as goal

pub loop-place-init : goal.loop-place-init
loop-place-init g c =
    let sound = subst (λ (w : WholeLine g.row.K.Denot). IsSound (g.K.Keeps.fits w.keep w.number) w) c.self.view_is c.self.invariant.sound in
    record {
      same = record { keep = refl; number = refl; nodes = refl };
      runs = run_none _ _ _ (lawful_line _ _ _ sound.ruled);
      few = omega arith;
    }

pub returns-in-Err-clause-runs : goal.returns-in-Err-clause-runs
returns-in-Err-clause-runs g c =
    let start = c.loop-place.invariant in
    let answers = c.in-Err.ensures.answers in (
      c.loop-place.done,
      subst (λ (u : State). Runs (nodes_of c.args.self.now) (g.K.Keeps.fits c.args.self.now.keep c.args.self.now.number) (state_of c.args.self.now) (take c.loop-place.place c.args.events.now) c.loop-place.done u) (sym answers.1) start.runs,
      run_refused (nodes_of c.args.self.now) (state_of c.loop-place.self) (state_of c.step.new.self) c.args.events.now c.loop-place.place c.index-events-place.result c.loop-place-test.true c.index-events-place.is answers.1
          (subst (λ (n : ℕ). is_allowed n c.index-events-place.result.0 ((state_of c.loop-place.self).steps c.index-events-place.result.0) c.index-events-place.result.1 ≡ false) start.same.nodes answers.0),
    )

pub loop-place-preserved : goal.loop-place-preserved
loop-place-preserved g c =
    let start = c.loop-place.invariant in
    let step = c.in-Ok.ensures in
    record {
      same = record { keep = step.same.keep ∙ start.same.keep; number = step.same.number ∙ start.same.number; nodes = step.same.nodes ∙ start.same.nodes };
      runs = rw (take_more c.args.events.now c.loop-place.place c.index-events-place.result c.loop-place-test.true, ← c.index-events-place.is)
          (subst (λ (k : ℕ). Runs (nodes_of c.args.self.now) (g.K.Keeps.fits c.args.self.now.keep c.args.self.now.number) (state_of c.args.self.now) (take c.loop-place.place c.args.events.now ++ c.index-events-place.result ∷ []) (c.loop-place.done + k) (state_of c.step.new.self)) (sym c.done_in-done.ensures.done)
          (run_more g.K.Keeps.fits c.args.self.now c.loop-place.self c.step.new.self (take c.loop-place.place c.args.events.now) c.index-events-place.result c.in-Ok.outcome c.loop-place.done start.same start.runs step.answers step.lawful));
      few = omega (arith, c.done_in-done.ensures.few, start.few);
    }

pub returns-in-Err-clause-same : goal.returns-in-Err-clause-same
returns-in-Err-clause-same g c =
    let start = c.loop-place.invariant.same in
    let step = c.in-Err.ensures.same in
    record { keep = step.keep ∙ start.keep; number = step.number ∙ start.number; nodes = step.nodes ∙ start.nodes }

pub returns-clause-same : goal.returns-clause-same
returns-clause-same g c = c.loop-place.invariant.same

pub returns-clause-runs : goal.returns-clause-runs
returns-clause-runs g c =
    subst (λ (l : List (NodeId × Event)). Runs (nodes_of c.args.self.now) (g.K.Keeps.fits c.args.self.now.keep c.args.self.now.number) (state_of c.args.self.now) l c.loop-place.done (state_of c.loop-place.self))
    (take_all c.loop-place.place c.args.events.now c.loop-place-test.false) c.loop-place.invariant.runs

pub step-requires-clause-node : goal.step-requires-clause-node
step-requires-clause-node g c =
    subst (λ (n : ℕ). c.index-events-place.result.0 < n) (sym c.loop-place.invariant.same.nodes)
    (subst (λ (e : NodeId × Event). e.0 < nodes_of c.args.self.now) (sym c.index-events-place.is) (All-get_or (λ (e : NodeId × Event). e.0 < nodes_of c.args.self.now) c.args.events.now c.loop-place.place c.index-events-place.result c.loop-place-test.true c.requires.nodes))

pub step-requires-clause-fits : goal.step-requires-clause-fits
step-requires-clause-fits g c =
    let old = c.args.self.now in
    let now = c.loop-place.self in
    let same = c.loop-place.invariant.same in
    subst (λ (n : ℕ). FitsEvent (g.K.Keeps.fits now.keep n) c.index-events-place.result.1) (sym same.number)
    (subst (λ (k : g.row.K.Denot). FitsEvent (g.K.Keeps.fits k old.number) c.index-events-place.result.1) (sym same.keep)
    (subst (λ (e : NodeId × Event). FitsEvent (g.K.Keeps.fits old.keep old.number) e.1) (sym c.index-events-place.is) (All-get_or (λ (e : NodeId × Event). FitsEvent (g.K.Keeps.fits old.keep old.number) e.1) c.args.events.now c.loop-place.place c.index-events-place.result c.loop-place-test.true c.requires.fits)))

pub returns-clause-paid : goal.returns-clause-paid
returns-clause-paid g c =
    let old = c.args.self.now in
    run_pays (nodes_of old) (g.K.Keeps.fits old.keep old.number) (state_of old) (state_of c.loop-place.self) c.args.events.now (Ok c.loop-place.done) c.requires.nodes (returns-clause-runs g c)

pub returns-in-Err-clause-paid : goal.returns-in-Err-clause-paid
returns-in-Err-clause-paid g c =
    let old = c.args.self.now in
    run_pays (nodes_of old) (g.K.Keeps.fits old.keep old.number) (state_of old) (state_of c.step.new.self) c.args.events.now (Err c.loop-place.place) c.requires.nodes (returns-in-Err-clause-runs g c)
