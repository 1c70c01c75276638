use Rattle.std.proofs.Common.{arith, ◌<◌, ◌≤◌, length, [], refl, ◌++◌, ◌+◌, ◌∙◌, List, ℕ, get_or, take, string_bytes, subst, sym, ap}
use Rattle.std.proofs.KnownBytes.{Appends-trans}
use borrow.Author.Count.{falls}
use Rattle.std.proofs.lemmas.List.{take_all}
use Rattle.std.proofs.lemmas.List.Elements.{All-replicate}
use Rattle.std.proofs.lemmas.Result.{err_from_is_err_and}
use Rattle.sci_core.specs.declared.whole.TheConstants.{MOST_NODES}
use Rattle.sci_script.specs.declared.commands.Size.{Size}
use Rattle.sci_script.specs.declared.commands.Step.{Step}
use Rattle.sci_script.specs.Request.{no_words, words_after}
use Rattle.sci_script.specs.Run.{Prints}
use Rattle.sci_script.specs.Wholes.{shared_of}
use Rattle.sci_script.proofs.Runs.{step_is, words_behind, words_step}
use Rattle.sci_trace.specs.Coding.{coded}
use Rattle.sci_trace.specs.Telling.{telling, telling_is_open, tells, TellsAll}
use Rattle.sci_trace.specs.Traces.{StepLeaves}
use Rattle.sci_trace.proofs.Coded.{coded_nil, coded_behind}
use Rattle.sci_trace.proofs.Tellings.{tells_none, tells_step}
use Rattle.sci_trace.proofs.Tracing.{command_fits, text_cut, trace_leaves}
use Rattle.sci_trace.proofs.running.trace_as.Goals as goal

pub loop-step-init : goal.loop-step-init
loop-step-init g c =
    record {
      size = c.requires;
      noted = refl;
      range = All-replicate (λ (w : ℕ). w < 8) MOST_NODES 0 (omega arith);
      empty = c.new.ensures.empty;
      whole = c.new.ensures.whole;
      written = ([], tells_none no_words (shared_of c.args.desk.now.desk), coded_nil c.args.coding _);
    }

pub trace_step-requires : goal.trace_step-requires
trace_step-requires g c =
    let script = c.args.script.now in
    record {
      empty = c.clear.ensures.bytes;
      none = c.loop-step.invariant.empty;
      whole = c.loop-step.invariant.whole;
      command = command_fits script.size c.loop-step.desk.size c.steps-step-items.result.now script.steps.items c.loop-step.step-index c.step-item.result script.fits c.steps-step-items.ensures c.loop-step-test.true c.step-item.is c.loop-step.invariant.size;
      few = subst (λ (size : Size). size.nodes ≤ MOST_NODES) (sym c.loop-step.invariant.size) script.is_size.few_nodes;
      words = c.loop-step.invariant.range;
    }

pub note-requires : goal.note-requires
note-requires g c =
    let script = c.args.script.now in
    record {
      few = subst (λ (size : Size). size.nodes ≤ MOST_NODES) (sym c.requires) script.is_size.few_nodes;
      command = command_fits script.size c.args.desk.now.size c.steps-step-items.result.now script.steps.items c.loop-step.step-index c.step-item.result script.fits c.steps-step-items.ensures c.loop-step-test.true c.step-item.is c.requires;
      words = c.loop-step.invariant.range;
    }

pub returns-in_err-trace_step-clause-ok : goal.returns-in_err-trace_step-clause-ok
returns-in_err-trace_step-clause-ok g c = let p = err_from_is_err_and c.from_residual.result c.from_residual.ensures.1 in rw p.1 tt

pub returns-in_err-trace_step-clause-size : goal.returns-in_err-trace_step-clause-size
returns-in_err-trace_step-clause-size g c = c.in_err-trace_step.ensures.size ∙ c.loop-step.invariant.size ∙ sym c.requires

pub returns-in-Err-clause-ok : goal.returns-in-Err-clause-ok
returns-in-Err-clause-ok g c = tt

pub returns-in-Err-clause-size : goal.returns-in-Err-clause-size
returns-in-Err-clause-size g c = c.in_ok-trace_step.ensures.size ∙ c.loop-step.invariant.size ∙ sym c.requires

pub loop-step-smaller : goal.loop-step-smaller
loop-step-smaller g c = falls _ _ c.loop-step-test.true

pub returns-clause-ok : goal.returns-clause-ok
returns-clause-ok g c =
    let (traced, told, appended) = c.loop-step.invariant.written in
    let s = shared_of c.args.desk.now.desk in
    let t = shared_of c.loop-step.desk.desk in
    let i = c.loop-step.step-index in
    let all = take_all i c.args.script.now.steps.items (subst (λ (l : List Step). length l ≤ i) c.steps-step-items.ensures c.loop-step-test.false) in (
      traced,
      subst (λ (l : List Step). TellsAll no_words s l traced t) all told,
      appended,
    )

pub returns-clause-err : goal.returns-clause-err
returns-clause-err g c = tt

pub returns-clause-size : goal.returns-clause-size
returns-clause-size g c = c.loop-step.invariant.size ∙ sym c.requires

pub returns-in_err-trace_step-clause-err : goal.returns-in_err-trace_step-clause-err
returns-in_err-trace_step-clause-err g c =
    let p = err_from_is_err_and c.from_residual.result c.from_residual.ensures.1 in
    let (traced, told, appended) = c.loop-step.invariant.written in
    let (written, left, more) = c.in_err-trace_step.ensures.err in
    let steps = c.args.script.now.steps.items in
    let i = c.loop-step.step-index in
    let mid = shared_of c.loop-step.desk.desk in
    let t = shared_of c.trace_step.new.desk.desk in
    let e = c.in_err-trace_step.field-0.0 in
    let at = step_is c.steps-step-items.result.now steps i c.step-item.result c.steps-step-items.ensures c.loop-step-test.true c.step-item.is in
    let sized = subst (λ (z : Size). StepLeaves c.args.coding z.nodes mid c.step-item.result e written t) c.loop-step.invariant.size left in
    rw (p.1, p.2) (
      coded c.args.coding traced ++ written,
      trace_leaves c.args.coding c.args.script.now.size.nodes steps i c.step-item.result traced written e (shared_of c.args.desk.now.desk) mid t told at sized,
      Appends-trans _ _ _ _ _ appended more,
    )

pub returns-in-Err-clause-err : goal.returns-in-Err-clause-err
returns-in-Err-clause-err g c =
    let (traced, told, appended) = c.loop-step.invariant.written in
    let (notes, are, prints_so, noted) = c.in_ok-trace_step.ensures.ok in
    let items = c.steps-step-items.result.now in
    let steps = c.args.script.now.steps.items in
    let i = c.loop-step.step-index in
    let s = shared_of c.args.desk.now.desk in
    let mid = shared_of c.loop-step.desk.desk in
    let t = shared_of c.trace_step.new.desk.desk in
    let text = string_bytes c.trace_step.new.text in
    let n = c.in-Err.ensures.err.0 in
    let front = rw c.as_bytes.ensures.value at c.in-Err.ensures.err.2 in
    let less = rw c.as_bytes.ensures.value at c.in-Err.ensures.err.1 in
    let as_read = subst (λ (step : Step). Prints telling_is_open tells c.loop-step.words (telling mid []) step.command text (telling t notes)) c.step-item.is prints_so in
    let as_noted = subst (λ (words : List ℕ). Prints telling_is_open tells words (telling mid []) (get_or items i c.step-item.result).command text (telling t notes)) c.loop-step.invariant.noted as_read in
    let more = tells_step no_words items steps i c.step-item.result traced notes text s mid t c.steps-step-items.ensures c.loop-step-test.true told as_noted in (
      coded c.args.coding (traced ++ notes) ++ take n (coded c.args.coding text),
      text_cut c.args.coding c.args.script.now.size.nodes steps (i + 1) (traced ++ notes) text (take n (coded c.args.coding text)) s t t more (n, less, refl),
      Appends-trans _ _ _ _ _ (coded_behind c.args.coding _ _ _ traced notes appended noted) front,
    )

pub loop-step-preserved : goal.loop-step-preserved
loop-step-preserved g c =
    let (traced, told, appended) = c.loop-step.invariant.written in
    let (notes, are, prints_so, noted) = c.in_ok-trace_step.ensures.ok in
    let items = c.steps-step-items.result.now in
    let steps = c.args.script.now.steps.items in
    let i = c.loop-step.step-index in
    let s = shared_of c.args.desk.now.desk in
    let mid = shared_of c.loop-step.desk.desk in
    let t = shared_of c.trace_step.new.desk.desk in
    let text = string_bytes c.trace_step.new.text in
    let put = rw c.as_bytes.ensures.value at c.in-Ok.ensures.ok in
    let as_read = subst (λ (step : Step). Prints telling_is_open tells c.loop-step.words (telling mid []) step.command text (telling t notes)) c.step-item.is prints_so in
    let as_noted = subst (λ (words : List ℕ). Prints telling_is_open tells words (telling mid []) (get_or items i c.step-item.result).command text (telling t notes)) c.loop-step.invariant.noted as_read in
    let more = tells_step no_words items steps i c.step-item.result traced notes text s mid t c.steps-step-items.ensures c.loop-step-test.true told as_noted in
    record {
      size = c.in_ok-trace_step.ensures.size ∙ c.loop-step.invariant.size;
      noted = c.note.ensures.words ∙ ap (λ (step : Step). words_after c.loop-step.words step.command) c.step-item.is
          ∙ ap (λ (words : List ℕ). words_after words (get_or items i c.step-item.result).command) c.loop-step.invariant.noted
          ∙ sym (words_step no_words items steps i c.step-item.result c.steps-step-items.ensures c.loop-step-test.true);
      range = c.note.ensures.range;
      empty = c.in_ok-trace_step.ensures.dropped.0;
      whole = c.in_ok-trace_step.ensures.dropped.1;
      written = ((traced ++ notes) ++ text, more, coded_behind c.args.coding _ _ _ (traced ++ notes) text (coded_behind c.args.coding _ _ _ traced notes appended noted) put);
    }
