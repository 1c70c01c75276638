-- One more call of a node: its receipts keep to its log.
use Rattle.std.proofs.Common.{◌≡◌, ℕ, ◌+◌, Bool, true, false, Some, None, List, [], ◌∷◌, ◌++◌, refl, sym, ap, ◌∙◌, subst, inl, inr, append-nil, ◌&&◌}
use Rattle.std.proofs.lemmas.List.{append_assoc}
use Rattle.sci_core.specs.declared.lines.Line.{Line}
use Rattle.sci_core.specs.declared.pending.Pending.{Pending}
use Rattle.sci_core.specs.declared.events.Event.{Event}
use Rattle.sci_core.specs.declared.outcomes.Outcome.{Outcome}
use Rattle.sci_core.specs.declared.receipts.Receipt.{Receipt}
use Rattle.sci_core.specs.declared.receipts.Receipt.TheVariants.{Read, Passed, Wrote}
use Rattle.sci_core.specs.Answers.{is_allowed}
use Rattle.sci_core.specs.State.{blank}
use Rattle.sci_port.specs.declared.calls.Call.{Call}
use Rattle.sci_port.specs.declared.calls.Call.TheVariants.{Own, MemWas, TagWas, Stepped}
use Rattle.sci_port.specs.Owes.{Owes}
use Rattle.sci_port.specs.KeepsTo.{IsKeptAs, KeepsTold, apart, is_passed, keeps_told}
use Rattle.sci_port.specs.Shown.{kept_after, told_by, told_in, kept_in, HasKept}
use Rattle.sci_port.specs.ReceiptList.{ReceiptList, Appends, Replaces, Settles, Writes, Receives, AreReceiptsOf, last_passed}
use Rattle.sci_port.proofs.Elements.{clash}
use Rattle.sci_port.proofs.Kept.{call_kept}
use Rattle.sci_port.proofs.Told.{and_false, apart_later, apart_more, false_and, of_told, told_later, told_more, told_of}

told_last : (k : Line) (log : List (ℕ × Call)) (c : ℕ × Call) → told_in k (log ++ c ∷ []) ≡ told_in k log ++ told_by (kept_in k log) c.1
told_last k [] c = append-nil (told_by k c.1)
told_last k (x ∷ log) c = ap (λ (l : List Receipt). told_by k x.1 ++ l) (told_last (kept_after k x.1) log c) ∙ sym (append_assoc (told_by k x.1) (told_in (kept_after k x.1) log) (told_by (kept_in (kept_after k x.1) log) c.1))

kept_last : (k : Line) (log : List (ℕ × Call)) (c : ℕ × Call) → kept_in k (log ++ c ∷ []) ≡ kept_after (kept_in k log) c.1
kept_last k [] c = refl
kept_last k (x ∷ log) c = kept_last (kept_after k x.1) log c

-- receipts that keep to what was told, of which no two that are only passed stand together
abbrev Keep : List Receipt → List Receipt → Type 0
Keep rs ns = KeepsTold rs ns × (apart rs ≡ true)

module _ (ns : List Receipt) (s t : ReceiptList) (keep : Keep s.list ns) where
  same_keeps : t ≡ s → Keep t.list (ns ++ [])
  same_keeps same = subst (λ (z : List Receipt × List Receipt). Keep z.0 z.1) (λ i. ((sym same i).list, sym (append-nil ns) i)) keep

  appended_keeps : (r n : Receipt) → IsKeptAs r n → (last_passed s.list && is_passed r) ≡ false → Appends s r t → Keep t.list (ns ++ n ∷ [])
  appended_keeps r n is lone a = subst (λ (z : List Receipt). Keep z (ns ++ n ∷ [])) (sym a.list) (told_more s.list ns r n keep.0 is, apart_more s.list r keep.1 lone)

  replaced_keeps : (r n : Receipt) → is_passed r ≡ true → IsKeptAs r n → Replaces s r t → Keep t.list (ns ++ n ∷ [])
  replaced_keeps r n passed is a =
      let was : Keep (a.before ++ a.last ∷ []) ns = subst (λ (z : List Receipt). Keep z ns) a.was keep in
      subst (λ (z : List Receipt). Keep z (ns ++ n ∷ [])) (sym a.list) (told_later a.before ns a.last r n a.passed passed was.0 is, apart_later a.before a.last r a.passed passed was.1)

  settled_keeps : (passing last : Bool) (line : Line) → last_passed s.list ≡ last → Settles passing last s line t → Keep t.list (ns ++ Passed line.words line.stamp ∷ [])
  settled_keeps false last line is a = appended_keeps (Read line.words line.stamp) (Passed line.words line.stamp) (inr refl) (and_false (last_passed s.list) false refl) a
  settled_keeps true false line is a = appended_keeps (Passed line.words line.stamp) (Passed line.words line.stamp) (inl refl) (false_and (last_passed s.list) true is) a
  settled_keeps true true line is a = replaced_keeps (Passed line.words line.stamp) (Passed line.words line.stamp) refl (inl refl) a

  written_keeps : (n me : ℕ) (p : Pending) (words : List ℕ) (k : Line) → is_allowed n me p (Event.Written (Some words)) ≡ true → HasKept p k → Writes p words s t → Keep t.list (ns ++ Wrote k.words words (k.stamp + 1) ∷ [])
  written_keeps n me (Pending.Purging line seen) words k allowed kept a = appended_keeps (Wrote line.words words (line.stamp + 1)) (Wrote k.words words (k.stamp + 1)) (inl (λ i. Wrote (kept i).words words ((kept i).stamp + 1))) (and_false (last_passed s.list) false refl) a
  written_keeps n me _ words k allowed kept a = absurd (clash false allowed refl)

  module _ (n : ℕ) (fits : List ℕ → Type 0) (me : ℕ) (p q : Pending) (k : Line) (kept : HasKept p k) where
    keeps_on : (call : Call) → Owes n fits me p call q → Receives p call s t → Keep t.list (ns ++ told_by k call)
    keeps_on (Stepped Event.Unhold (Outcome.Done (Some line))) o r = appended_keeps (Read line.words line.stamp) (Read line.words line.stamp) (inl refl) (and_false (last_passed s.list) false refl) r
    keeps_on (Stepped Event.Settle (Outcome.Done (Some line))) o r = settled_keeps s.passing (last_passed s.list) line refl r
    keeps_on (Stepped (Event.Written (Some words)) (Outcome.Done answer)) o r = written_keeps n me p words k o.0 kept r
    keeps_on (Stepped (Event.Written None) (Outcome.Done answer)) o r = same_keeps r
    keeps_on (Stepped _ (Outcome.Done None)) o r = same_keeps r
    keeps_on (Stepped _ (Outcome.Done (Some line))) o r = same_keeps r
    keeps_on (Stepped Event.Unhold (Outcome.Missed code)) o r = same_keeps r
    keeps_on (Stepped Event.Settle (Outcome.Missed code)) o r = same_keeps r
    keeps_on (Stepped (Event.Written (Some words)) (Outcome.Missed code)) o r = same_keeps r
    keeps_on (Stepped (Event.Written None) (Outcome.Missed code)) o r = same_keeps r
    keeps_on (Stepped _ (Outcome.Missed code)) o r = same_keeps r
    keeps_on (Stepped Event.Unhold Outcome.Busy) o r = same_keeps r
    keeps_on (Stepped Event.Settle Outcome.Busy) o r = same_keeps r
    keeps_on (Stepped (Event.Written (Some words)) Outcome.Busy) o r = same_keeps r
    keeps_on (Stepped (Event.Written None) Outcome.Busy) o r = same_keeps r
    keeps_on (Stepped _ Outcome.Busy) o r = same_keeps r
    keeps_on (Own answer) o r = same_keeps r
    keeps_on (MemWas answer) o r = same_keeps r
    keeps_on (TagWas node answer) o r = same_keeps r

-- the receipts of a node keep to its log, also after one more call, wherever it stands in the run
pub receipts_on : (n : ℕ) (fits : List ℕ → Type 0) (me : ℕ) (p q : Pending) (log : List (ℕ × Call)) (turn : ℕ) (call : Call) (s t : ReceiptList) → Owes n fits me p call q → Receives p call s t → AreReceiptsOf log p s → AreReceiptsOf (log ++ (turn, call) ∷ []) q t
receipts_on n fits me p q log turn call s t o r h =
    let told = told_in blank log in
    let keep : Keep t.list (told ++ told_by (kept_in blank log) call) = keeps_on told s t (told_of s.list told h.keeps, h.lone) n fits me p q (kept_in blank log) h.kept call o r in
    record {
      keeps = of_told t.list (told_in blank (log ++ (turn, call) ∷ [])) (subst (KeepsTold t.list) (sym (told_last blank log (turn, call))) keep.0);
      lone = keep.1;
      kept = subst (HasKept q) (sym (kept_last blank log (turn, call))) (call_kept n fits me p call q (kept_in blank log) o h.kept);
    }

-- no calls, and no receipts
pub receipts_none : (p : Pending) (s : ReceiptList) → s.list ≡ [] → HasKept p blank → AreReceiptsOf [] p s
receipts_none p s none kept = record { keeps = ap (λ (z : List Receipt). keeps_told z []) none; lone = ap (λ (z : List Receipt). apart z) none; kept = kept }
