use Rattle.std.proofs.Common.{◌≡◌, ◌∷◌, ◌++◌, ◌∙◌, [], List, length, map, refl, ap, sym, subst, IfErr}
use Rattle.std.proofs.lemmas.List.Elements.{All-cons, All-nil}
use Rattle.std.proofs.lemmas.Result.{IfOk-from_err}
use Rattle.std.specs.Prelude.{slice_index}
use Rattle.sci_core.specs.Closed.{ClosedLine}
use Rattle.sci_work.specs.Ended.{HaveNodes, IsCountSize, any_words, lists_in}
use Rattle.sci_work.specs.Starts.{ComesInStart}
use Rattle.sci_work.specs.declared.programs.Program.{Program}
use Rattle.sci_work.specs.declared.refusals.WorkRefusal.{WorkRefusal}
use Rattle.sci_work.specs.Written.{AddsAlone, AreWrittenAs}
use Rattle.sci_work.proofs.Closing.{one_history}
use Rattle.sci_work.proofs.Refusing.{in_count}
use Rattle.sci_work.proofs.Residual.{passed_on}
use Rattle.sci_work.proofs.counting.count.Goals as goal

pub returns-then-not-is_count_size : goal.returns-then-not-is_count_size
returns-then-not-is_count_size g c = record {
  limits = ((λ _ size. let e = c.is_count_size.ensures.1 size in cc), λ _. refl);
  total = tt;
  ok = tt;
  nodes = tt;
  kept = tt;
  wrote = tt;
  err = tt;
}

pub returns-in_err-one : goal.returns-in_err-one
returns-in_err-one g c =
    let r = c.from_residual in let size : IsCountSize c.args.nodes c.args.adds c.args.capacity = c.if-not-is_count_size.ensures.0 refl in
    let comes = c.in_err-one.ensures.err in
    record {
      limits = ((λ e _. subst (λ z. IfErr z (ComesInStart (Program.Count c.args.adds))) e (passed_on r.result _ _ r.ensures.1 comes)), λ no. absurd (no size));
      total = IfOk-from_err r.result _ r.ensures.0;
      ok = IfOk-from_err r.result _ r.ensures.0;
      nodes = IfOk-from_err r.result _ r.ensures.0;
      kept = IfOk-from_err r.result _ r.ensures.0;
      wrote = IfOk-from_err r.result _ r.ensures.0;
      err = passed_on r.result _ _ r.ensures.1 (in_count c.args.adds _ comes);
    }

pub returns-in_err-lines : goal.returns-in_err-lines
returns-in_err-lines g c =
    let r = c.from_residual-in_err-lines in let size : IsCountSize c.args.nodes c.args.adds c.args.capacity = c.if-not-is_count_size.ensures.0 refl in
    record {
      limits = ((λ e _. let comes = subst (λ z. IfErr z (λ x. x ≡ WorkRefusal.OutOfMemory)) e (passed_on r.result _ _ r.ensures.1 refl) in cc), λ no. absurd (no size));
      total = IfOk-from_err r.result _ r.ensures.0;
      ok = IfOk-from_err r.result _ r.ensures.0;
      nodes = IfOk-from_err r.result _ r.ensures.0;
      kept = IfOk-from_err r.result _ r.ensures.0;
      wrote = IfOk-from_err r.result _ r.ensures.0;
      err = passed_on r.result _ _ r.ensures.1 tt;
    }

pub returns-in_err-receipts : goal.returns-in_err-receipts
returns-in_err-receipts g c =
    let r = c.from_residual-in_err-receipts in let size : IsCountSize c.args.nodes c.args.adds c.args.capacity = c.if-not-is_count_size.ensures.0 refl in
    record {
      limits = ((λ e _. let comes = subst (λ z. IfErr z (λ x. x ≡ WorkRefusal.OutOfMemory)) e (passed_on r.result _ _ r.ensures.1 refl) in cc), λ no. absurd (no size));
      total = IfOk-from_err r.result _ r.ensures.0;
      ok = IfOk-from_err r.result _ r.ensures.0;
      nodes = IfOk-from_err r.result _ r.ensures.0;
      kept = IfOk-from_err r.result _ r.ensures.0;
      wrote = IfOk-from_err r.result _ r.ensures.0;
      err = passed_on r.result _ _ r.ensures.1 tt;
    }

pub returns : goal.returns
returns g c =
    let size : IsCountSize c.args.nodes c.args.adds c.args.capacity = c.if-not-is_count_size.ensures.0 refl in
    let made = c.in_ok-one.one in let closed = made.closed in let told = c.in_ok-one.ensures in
    let one = c.push_reserved.ensures.items ∙ ap (λ (l : List ClosedLine). l ++ closed ∷ []) c.in_ok-lines.ensures.items in
    let lists = c.push_reserved-2.ensures.items ∙ ap (λ (l : List _). l ++ made.receipts ∷ []) c.in_ok-receipts.ensures.items in
    record {
      limits = ((λ e _. cc), λ no. absurd (no size));
      total = ap (λ l. slice_index l.words 0) c.value.ensures.value ∙ told.total;
      ok = (closed, one, told.ok, ap (λ l. slice_index l.words 0) c.value.ensures.value);
      nodes = subst (λ (z : List _). HaveNodes c.args.nodes z) (sym one) (All-cons (λ (x : ClosedLine). length x.tags ≡ c.args.nodes) closed [] told.nodes (All-nil _));
      kept = one_history (λ _. any_words) c.args.nodes closed made.receipts _ _ one lists told.history;
      wrote = subst (λ (z : List _). AreWrittenAs (AddsAlone c.args.adds) (map lists_in z)) (sym lists) told.wrote;
      err = tt;
    }
