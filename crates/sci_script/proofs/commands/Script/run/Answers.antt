use Rattle.std.proofs.Common.{arith, ◌<◌, ◌≤◌, [], refl, ◌++◌, ◌+◌, ◌∙◌, List, ℕ, get_or, length, take, string_bytes, subst, sym, ap}
use Rattle.std.proofs.Math.Seq.{take-append-add}
use Rattle.std.proofs.lemmas.List.{length-append}
use Rattle.std.proofs.KnownBytes.{Appends-nil, Appends-trans}
use Rattle.std.proofs.lemmas.List.Elements.{All-replicate}
use Rattle.std.proofs.lemmas.Result.{err_from_is_err_and}
use Rattle.sci_core.specs.declared.whole.TheConstants.{MOST_NODES}
use Rattle.sci_script.specs.declared.commands.Size.{Size}
use Rattle.sci_script.specs.declared.commands.Step.{Step}
use Rattle.sci_script.specs.Request.{no_words, words_after}
use Rattle.sci_script.specs.Run.{Prints}
use Rattle.sci_script.proofs.Runs.{prints_none, run_step, run_all, step_is, stops_here, words_step, command_fits}
use Rattle.sci_script.proofs.commands.Script.run.Goals as goal

pub loop-step-init : goal.loop-step-init
loop-step-init g c =
    record {
      size = c.requires;
      noted = refl;
      range = All-replicate (λ (w : ℕ). w < 8) MOST_NODES 0 (omega arith);
      written = ([], prints_none g.D.Desk.is_open g.D.Desk.does no_words c.args.desk.now, Appends-nil _);
    }

pub perform-requires-clause-empty : goal.perform-requires-clause-empty
perform-requires-clause-empty g c = c.clear.ensures.bytes

pub perform-requires-clause-command : goal.perform-requires-clause-command
perform-requires-clause-command g c =
    let script = c.args.self.now in
    command_fits script.size (g.D.Desk.size c.loop-step.desk) c.deref-step-items.result.now script.steps.items c.loop-step.step-index c.step-item.result script.fits c.deref-step-items.ensures.value
    c.loop-step-test.true c.step-item.is c.loop-step.invariant.size

pub perform-requires-clause-few : goal.perform-requires-clause-few
perform-requires-clause-few g c = let script = c.args.self.now in subst (λ (size : Size). size.nodes ≤ MOST_NODES) (sym c.loop-step.invariant.size) script.is_size.few_nodes

pub perform-requires-clause-words : goal.perform-requires-clause-words
perform-requires-clause-words g c = c.loop-step.invariant.range

pub note-requires-clause-few : goal.note-requires-clause-few
note-requires-clause-few g c = let script = c.args.self.now in script.is_size.few_nodes

pub note-requires-clause-command : goal.note-requires-clause-command
note-requires-clause-command g c =
    let script = c.args.self.now in
    command_fits script.size script.size c.deref-step-items.result.now script.steps.items c.loop-step.step-index c.step-item.result script.fits c.deref-step-items.ensures.value
    c.loop-step-test.true c.step-item.is refl

pub note-requires-clause-words : goal.note-requires-clause-words
note-requires-clause-words g c = c.loop-step.invariant.range

pub returns-in_err-perform-clause-size : goal.returns-in_err-perform-clause-size
returns-in_err-perform-clause-size g c = c.in_err-perform.ensures.size ∙ c.loop-step.invariant.size ∙ sym c.requires

pub returns-in-Err-clause-size : goal.returns-in-Err-clause-size
returns-in-Err-clause-size g c = c.in_ok-perform.ensures.size ∙ c.loop-step.invariant.size ∙ sym c.requires

pub returns-clause-size : goal.returns-clause-size
returns-clause-size g c = c.loop-step.invariant.size ∙ sym c.requires

pub returns-clause-ok : goal.returns-clause-ok
returns-clause-ok g c =
    let (written, so_far, appended) = c.loop-step.invariant.written in (
      written,
      run_all g.D.Desk.is_open g.D.Desk.does no_words c.deref-step-items.result.now c.args.self.now.steps.items c.loop-step.step-index written c.args.desk.now c.loop-step.desk
          c.deref-step-items.ensures.value c.loop-step-test.false so_far,
      appended,
    )

pub returns-in_err-perform-clause-err : goal.returns-in_err-perform-clause-err
returns-in_err-perform-clause-err g c =
    let p = err_from_is_err_and c.from_residual.result c.from_residual.ensures.1 in
    let (written, so_far, appended) = c.loop-step.invariant.written in
    let at = step_is c.deref-step-items.result.now c.args.self.now.steps.items c.loop-step.step-index c.step-item.result c.deref-step-items.ensures.value c.loop-step-test.true c.step-item.is in
    rw (p.1, p.2) (
      written,
      stops_here g.D.Desk.is_open g.D.Desk.does c.args.self.now.size.nodes c.args.desk.now c.loop-step.desk c.perform.new.desk c.args.self.now.steps.items c.loop-step.step-index c.step-item.result
          written c.in_err-perform.field-0.0 so_far at c.in_err-perform.ensures.err,
      appended,
    )

pub returns-in-Err-clause-err : goal.returns-in-Err-clause-err
returns-in-Err-clause-err g c =
    let (written, so_far, appended) = c.loop-step.invariant.written in
    let text = string_bytes c.perform.new.text in
    let n = c.in-Err.ensures.err.0 in
    let front = rw c.as_bytes.ensures.value at c.in-Err.ensures.err.2 in
    let less = rw c.as_bytes.ensures.value at c.in-Err.ensures.err.1 in
    let printed = subst (λ (step : Step). Prints g.D.Desk.is_open g.D.Desk.does c.loop-step.words c.loop-step.desk step.command text c.perform.new.desk) c.step-item.is c.in_ok-perform.ensures.ok in
    let shown = subst (λ (words : List ℕ). Prints g.D.Desk.is_open g.D.Desk.does words c.loop-step.desk (get_or c.deref-step-items.result.now c.loop-step.step-index c.step-item.result).command text c.perform.new.desk) c.loop-step.invariant.noted printed in
    let all = run_step g.D.Desk.is_open g.D.Desk.does no_words c.deref-step-items.result.now c.args.self.now.steps.items c.loop-step.step-index c.step-item.result written text c.args.desk.now c.loop-step.desk c.perform.new.desk
    c.deref-step-items.ensures.value c.loop-step-test.true so_far shown in
    (written ++ take n text, (c.loop-step.step-index + 1, written ++ text, length written + n, all, omega (arith, less, length-append written text), sym (take-append-add written text n)), Appends-trans _ _ _ _ _ appended front)

pub loop-step-preserved : goal.loop-step-preserved
loop-step-preserved g c =
    let (written, so_far, appended) = c.loop-step.invariant.written in
    let text = string_bytes c.perform.new.text in
    let put = rw c.as_bytes.ensures.value at c.in-Ok.ensures.ok in
    let printed = subst (λ (step : Step). Prints g.D.Desk.is_open g.D.Desk.does c.loop-step.words c.loop-step.desk step.command text c.perform.new.desk) c.step-item.is c.in_ok-perform.ensures.ok in
    let shown = subst (λ (words : List ℕ). Prints g.D.Desk.is_open g.D.Desk.does words c.loop-step.desk (get_or c.deref-step-items.result.now c.loop-step.step-index c.step-item.result).command text c.perform.new.desk) c.loop-step.invariant.noted printed in
    let all = run_step g.D.Desk.is_open g.D.Desk.does no_words c.deref-step-items.result.now c.args.self.now.steps.items c.loop-step.step-index c.step-item.result written text c.args.desk.now c.loop-step.desk c.perform.new.desk
    c.deref-step-items.ensures.value c.loop-step-test.true so_far shown in
    record {
      size = c.in_ok-perform.ensures.size ∙ c.loop-step.invariant.size;
      noted = c.note.ensures.words ∙ ap (λ (step : Step). words_after c.loop-step.words step.command) c.step-item.is
          ∙ ap (λ (words : List ℕ). words_after words (get_or c.deref-step-items.result.now c.loop-step.step-index c.step-item.result).command) c.loop-step.invariant.noted
          ∙ sym (words_step no_words c.deref-step-items.result.now c.args.self.now.steps.items c.loop-step.step-index c.step-item.result c.deref-step-items.ensures.value c.loop-step-test.true);
      range = c.note.ensures.range;
      written = (written ++ text, all, Appends-trans _ _ _ _ _ appended put);
    }
