use Rattle.std.proofs.Common.{◌≡◌, ◌∷◌, [], ℕ, List, refl, sym, subst, ◌∙◌, arith, vec_len}
use Rattle.std.proofs.lemmas.Result.{IfOk-from_err, IfOk-weaker, IfErr-weaker}
use mathlib.Core.Option.{some-ne-none}
use Rattle.sci_core.specs.declared.keeps.AnyWords.{AnyWords}
use Rattle.sci_fine.specs.Banks.{IsLine}
use Rattle.sci_work.specs.declared.recording.Recording.{Recording}
use Rattle.sci_port.specs.declared.closing.Finished.{Finished}
use Rattle.sci_work.specs.Ended.{any_words, lists_in}
use Rattle.sci_work.specs.Hands.{AtEach, IsHandOf}
use Rattle.sci_work.specs.Starts.{AreParts}
use Rattle.sci_work.specs.declared.programs.Program.{Program}
use Rattle.sci_work.proofs.Closing.{line_history}
use Rattle.sci_work.proofs.Dealing.{as_many}
use Rattle.sci_work.proofs.Handed.{all_counted, counted_alone, none_written}
use Rattle.sci_work.proofs.Opening.{parts_of}
use Rattle.sci_work.proofs.Refusing.{of_memory}
use Rattle.sci_work.proofs.Residual.{both_ok, passed_on}
use Rattle.sci_work.proofs.Seated.{at_more, count_of}
use Rattle.sci_work.proofs.Totals.{total_of}
use Rattle.sci_work.proofs.counting.counted.Goals as goal

abbrev fits_any : AnyWords → ℕ → List ℕ → Type 0
fits_any keep line = any_words

pub zeroed-requires : goal.zeroed-requires
zeroed-requires g c = record { nodes = c.requires; fits = tt }

pub dealt-requires : goal.dealt-requires
dealt-requires g c = c.in_ok-line.ensures.seats

pub run_all-requires-after_bounds : goal.run_all-requires-after_bounds
run_all-requires-after_bounds g c κs within =
    let line = c.in_ok-line.line in let hands = c.in_ok-hands.hands in let program = Program.Count c.args.adds in
    let len : vec_len hands ≡ c.args.nodes = c.in_ok-hands.ensures.len ∙ c.in_ok-line.ensures.len in
    let is_line = at_more (IsLine c.args.nodes _) [] (line ∷ []) line refl (λ k x e. absurd (some-ne-none x (sym e))) c.in_ok-line.ensures.line in
    subst (λ (z : List _). AreParts fits_any Recording.All z program hands) (sym c.from_ref.ensures.value)
    (parts_of fits_any Recording.All c.args.nodes _ 1 program (line ∷ []) hands refl (omega arith) (omega arith) is_line len c.requires.1
    (λ k hand at. (c.in_ok-hands.ensures.each k hand at, none_written c.in_ok-line.seats.items c.in_ok-line.ensures.new hands.items c.in_ok-hands.ensures.hold k hand at))
    (λ k low. (omega arith, λ words size fits. tt)))

pub gathered-requires : goal.gathered-requires
gathered-requires g c =
    subst (λ (z : List _). AtEach (λ k hand. IsHandOf Recording.All z k hand.items) c.in_ok-hands-2.hands.items) c.from_ref.ensures.value c.in_ok-hands-2.ensures.ok.hands_are

pub finished-requires : goal.finished-requires
finished-requires g c = c.in_ok-seats.ensures.ok

pub returns : goal.returns
returns g c =
    let ended = c.finished in let run = c.in_ok-hands-2.ensures.ok in let hands = c.in_ok-hands-2.hands in let seats = c.in_ok-seats.seats in let held = c.in_ok-seats.ensures.held in
    let len : vec_len c.in_ok-hands.hands ≡ c.args.nodes = c.in_ok-hands.ensures.len ∙ c.in_ok-line.ensures.len in
    let as_line = λ (one : Finished). line_history fits_any c.args.nodes _ 0 c.in_ok-line.line one.closed (lists_in one.receipts) c.in_ok-line.ensures.line c.in_ok-line.ensures.opening in
    record {
      ok = IfOk-weaker ended.result _ _ (λ one h. h.exact) ended.ensures.ok;
      total = both_ok ended.result _ _ _ (λ one own h. total_of c.args.adds seats.items one.closed (lists_in one.receipts) c.args.nodes (as_many hands.items seats.items held ∙ (sym (count_of hands) ∙ run.hand_count ∙ len))
          (all_counted c.args.adds hands.items seats.items held (run.end refl)) own (as_line one h).whole) ended.ensures.own (ended.ensures.history refl);
      nodes = IfOk-weaker ended.result _ _ (λ one h. h.nodes ∙ c.in_ok-line.ensures.line.nodes_are) ended.ensures.ok;
      history = IfOk-weaker ended.result _ _ as_line (ended.ensures.history refl);
      wrote = IfOk-weaker ended.result _ _ (λ one own. counted_alone c.args.adds seats.items (lists_in one.receipts) own (all_counted c.args.adds hands.items seats.items held (run.end refl))) ended.ensures.own;
      err = IfErr-weaker ended.result _ _ (of_memory (Program.Count c.args.adds)) ended.ensures.err;
    }

pub returns-in_err-line : goal.returns-in_err-line
returns-in_err-line g c =
    let r = c.from_residual in
    record {
      ok = IfOk-from_err r.result _ r.ensures.0;
      total = IfOk-from_err r.result _ r.ensures.0;
      nodes = IfOk-from_err r.result _ r.ensures.0;
      history = IfOk-from_err r.result _ r.ensures.0;
      wrote = IfOk-from_err r.result _ r.ensures.0;
      err = passed_on r.result _ _ r.ensures.1 (of_memory (Program.Count c.args.adds) _ c.in_err-line.ensures.err);
    }

pub returns-in_err-hands : goal.returns-in_err-hands
returns-in_err-hands g c =
    let r = c.from_residual-in_err-hands in
    record {
      ok = IfOk-from_err r.result _ r.ensures.0;
      total = IfOk-from_err r.result _ r.ensures.0;
      nodes = IfOk-from_err r.result _ r.ensures.0;
      history = IfOk-from_err r.result _ r.ensures.0;
      wrote = IfOk-from_err r.result _ r.ensures.0;
      err = passed_on r.result _ _ r.ensures.1 (of_memory (Program.Count c.args.adds) _ c.in_err-hands.ensures.err);
    }

pub returns-in_err-hands-2 : goal.returns-in_err-hands-2
returns-in_err-hands-2 g c =
    let r = c.from_residual-in_err-hands-2 in
    record {
      ok = IfOk-from_err r.result _ r.ensures.0;
      total = IfOk-from_err r.result _ r.ensures.0;
      nodes = IfOk-from_err r.result _ r.ensures.0;
      history = IfOk-from_err r.result _ r.ensures.0;
      wrote = IfOk-from_err r.result _ r.ensures.0;
      err = passed_on r.result _ _ r.ensures.1 c.in_err-hands-2.ensures.err;
    }

pub returns-in_err-seats : goal.returns-in_err-seats
returns-in_err-seats g c =
    let r = c.from_residual-in_err-seats in
    record {
      ok = IfOk-from_err r.result _ r.ensures.0;
      total = IfOk-from_err r.result _ r.ensures.0;
      nodes = IfOk-from_err r.result _ r.ensures.0;
      history = IfOk-from_err r.result _ r.ensures.0;
      wrote = IfOk-from_err r.result _ r.ensures.0;
      err = passed_on r.result _ _ r.ensures.1 (of_memory (Program.Count c.args.adds) _ c.in_err-seats.ensures.err);
    }
