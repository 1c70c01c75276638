-- What the nodes of one run were shown is one history.
use Rattle.std.proofs.Common.{◌≡◌, ℕ, ◌+◌, Option, Some, None, List, [], ◌∷◌, ◌++◌, refl, sym, ap, ◌∙◌, subst, append-nil, append_assoc}
use mathlib.Core.Logic.{dite}
use mathlib.Core.Path.{fun_ext}
use native.Mathlib.Decide.{ℕ_discrete}
use Rattle.sci_core.specs.declared.lines.Line.{Line}
use Rattle.sci_core.specs.declared.pending.Pending.{Pending}
use Rattle.sci_core.specs.declared.events.Event.{Event}
use Rattle.sci_core.specs.declared.outcomes.Outcome.{Outcome}
use Rattle.sci_core.specs.declared.receipts.Receipt.{Receipt}
use Rattle.sci_core.specs.declared.receipts.Receipt.TheVariants.{Read, Wrote}
use Rattle.sci_core.specs.Legal.{IsLegal}
use Rattle.sci_core.specs.State.{State, update, opened, blank}
use Rattle.sci_core.specs.Run.{HasValue}
use Rattle.sci_core.proofs.Lawfully.{one_value}
use Rattle.sci_port.specs.declared.calls.Call.{Call}
use Rattle.sci_port.specs.declared.calls.Call.TheVariants.{Own, MemWas, TagWas, Stepped}
use Rattle.sci_port.specs.History.{value_after, value_of}
use Rattle.sci_port.specs.Shown.{kept_after, shown_by, shown_in, HasKept}
use Rattle.sci_port.specs.Runs.{Leads, done_from, done_by}
use Rattle.sci_port.specs.Solo.{Does, Gives}
use Rattle.sci_port.proofs.Updated.{update_here, update_else}
use Rattle.sci_port.proofs.Histories.{still, value_on}
use Rattle.sci_port.proofs.Kept.{steps_kept}
use Rattle.sci_port.proofs.LegalMore.{legal_none, legal_read, legal_write}
use Rattle.sci_port.proofs.Lent.{takes_row}
use Rattle.sci_port.proofs.Running.{here_from, else_from}

none_more : (lists : ℕ → List Receipt) (x : ℕ) → ◌≡◌ {A = ℕ → List Receipt} lists (update lists x (lists x ++ []))
none_more lists x = fun_ext (λ j. dite (ℕ_discrete j x)
    (λ is. ap lists is ∙ (sym (append-nil (lists x)) ∙ (sym (update_here lists x (lists x ++ [])) ∙ sym (ap (update lists x (lists x ++ [])) is))))
    (λ ne. sym (update_else lists x (lists x ++ []) j ne)))

purging_line : (l m : Line) (f g : Option (Option ℕ)) → HasKept (Pending.Purging l f) m → m ≡ l
purging_line l m f g h = sym h

module _ (n : ℕ) (fits : List ℕ → Type 0) where
  does_kept : (s : State) (me : ℕ) (e : Event) (o : Outcome) (t : State) (k : Line) → Does n fits s me e o t → HasKept (s.steps me) k → HasKept (t.steps me) (kept_after k (Stepped e o))
  does_kept s me e o t k d h = steps_kept n me (s.steps me) e o (t.steps me) k (takes_row n s me e o t (d.1.before.lawful.steps.own_word me) d.0) h

  gives_kept : (s : State) (me : ℕ) (call : Call) (t : State) (k : Line) → Gives n fits s me call t → HasKept (s.steps me) k → HasKept (t.steps me) (kept_after k call)
  gives_kept s me (Own answer) t k g h = does_kept s me Event.Look (Outcome.Done None) t k g.1 h
  gives_kept s me (MemWas answer) t k g h = subst (λ (u : State). HasKept (u.steps me) k) (sym g.1) h
  gives_kept s me (TagWas node answer) t k g h = subst (λ (u : State). HasKept (u.steps me) k) (sym g.1) h
  gives_kept s me (Stepped e o) t k g h = does_kept s me e o t k g h

  module _ (o : Line) (s : State) (v : Line) (me : ℕ) (t : State) (lists : ℕ → List Receipt) (k : Line) (h : HasValue n fits s v) (kept : HasKept (s.steps me) k) (legal : IsLegal o v lists) where
    same_legal : IsLegal o v (update lists me (lists me ++ []))
    same_legal = subst (IsLegal o v) (none_more lists me) legal

    read_legal : (line : Line) → line ≡ v → IsLegal o v (update lists me (lists me ++ Read line.words line.stamp ∷ []))
    read_legal line is = subst (λ (z : Line). IsLegal o v (update lists me (lists me ++ Read z.words z.stamp ∷ []))) (sym is) (legal_read o v lists me legal)

    write_legal : (words : List ℕ) → k ≡ v → IsLegal o (record { words = words; stamp = v.stamp + 1 }) (update lists me (lists me ++ Wrote k.words words (k.stamp + 1) ∷ []))
    write_legal words is = subst (λ (z : Line). IsLegal o (record { words = words; stamp = v.stamp + 1 }) (update lists me (lists me ++ Wrote z.words words (z.stamp + 1) ∷ []))) (sym is) (legal_write o v words lists me legal)

    written_over : (words : List ℕ) (answer : Option Line) → Does n fits s me (Event.Written (Some words)) (Outcome.Done answer) t → k ≡ v
    written_over words answer d =
        let at : s.steps me ≡ Pending.Purging d.1.value (Some None) = d.1.change.3 in
        let is : k ≡ d.1.value = purging_line d.1.value k (Some None) (Some None) (subst (λ (p : Pending). HasKept p k) at kept) in
        is ∙ one_value n fits s d.1.value v d.1.before h

    -- one call
    call_legal : (call : Call) → Gives n fits s me call t → IsLegal o (value_after v call) (update lists me (lists me ++ shown_by k call))
    call_legal (Stepped Event.Unhold (Outcome.Done (Some line))) g = read_legal line (value_on n fits s v me (Stepped Event.Unhold (Outcome.Done (Some line))) t h g).1
    call_legal (Stepped Event.Settle (Outcome.Done (Some line))) g = read_legal line (value_on n fits s v me (Stepped Event.Settle (Outcome.Done (Some line))) t h g).1
    call_legal (Stepped (Event.Written (Some words)) (Outcome.Done answer)) g = write_legal words (written_over words answer g)
    call_legal (Stepped (Event.Written None) (Outcome.Done answer)) g = same_legal
    call_legal (Stepped _ (Outcome.Done None)) g = same_legal
    call_legal (Stepped _ (Outcome.Done (Some line))) g = same_legal
    call_legal (Stepped Event.Unhold (Outcome.Missed code)) g = same_legal
    call_legal (Stepped Event.Settle (Outcome.Missed code)) g = same_legal
    call_legal (Stepped (Event.Written (Some words)) (Outcome.Missed code)) g = same_legal
    call_legal (Stepped (Event.Written None) (Outcome.Missed code)) g = same_legal
    call_legal (Stepped _ (Outcome.Missed code)) g = same_legal
    call_legal (Stepped Event.Unhold Outcome.Busy) g = same_legal
    call_legal (Stepped Event.Settle Outcome.Busy) g = same_legal
    call_legal (Stepped (Event.Written (Some words)) Outcome.Busy) g = same_legal
    call_legal (Stepped (Event.Written None) Outcome.Busy) g = same_legal
    call_legal (Stepped _ Outcome.Busy) g = same_legal
    call_legal (Own answer) g = same_legal
    call_legal (MemWas answer) g = same_legal
    call_legal (TagWas node answer) g = same_legal

  -- what is shown from here on, behind what was shown before
  abbrev with_shown : (ℕ → List Receipt) → (ℕ → Line) → ℕ → List (ℕ × Call) → ℕ → List Receipt
  with_shown lists kepts p run j = lists j ++ shown_in (kepts j) (done_from p j run)

  abbrev next_lists : (ℕ → List Receipt) → (ℕ → Line) → ℕ × Call → ℕ → List Receipt
  next_lists lists kepts c = update lists c.0 (lists c.0 ++ shown_by (kepts c.0) c.1)

  abbrev pub next_kepts : (ℕ → Line) → ℕ × Call → ℕ → Line
  next_kepts kepts c = update kepts c.0 (kept_after (kepts c.0) c.1)

  shown_first : (lists : ℕ → List Receipt) (kepts : ℕ → Line) (p : ℕ) (c : ℕ × Call) (cs : List (ℕ × Call)) (j : ℕ) → with_shown (next_lists lists kepts c) (next_kepts kepts c) (p + 1) cs j ≡ with_shown lists kepts p (c ∷ cs) j
  shown_first lists kepts p c cs j = dite (ℕ_discrete j c.0)
      (λ is.
      let l : next_lists lists kepts c j ≡ lists j ++ shown_by (kepts j) c.1 = ap (next_lists lists kepts c) is ∙ (update_here lists c.0 (lists c.0 ++ shown_by (kepts c.0) c.1) ∙ ap (λ (z : ℕ). lists z ++ shown_by (kepts z) c.1) (sym is)) in
      let k : next_kepts kepts c j ≡ kept_after (kepts j) c.1 = ap (next_kepts kepts c) is ∙ (update_here kepts c.0 (kept_after (kepts c.0) c.1) ∙ ap (λ (z : ℕ). kept_after (kepts z) c.1) (sym is)) in
      (λ i. l i ++ shown_in (k i) (done_from (p + 1) j cs))
      ∙ (append_assoc (lists j) (shown_by (kepts j) c.1) (shown_in (kept_after (kepts j) c.1) (done_from (p + 1) j cs))
      ∙ ap (λ (z : List (ℕ × Call)). lists j ++ shown_in (kepts j) z) (sym (here_from p j c cs (sym is)))))
      (λ ne.
      let l : next_lists lists kepts c j ≡ lists j = update_else lists c.0 (lists c.0 ++ shown_by (kepts c.0) c.1) j ne in
      let k : next_kepts kepts c j ≡ kepts j = update_else kepts c.0 (kept_after (kepts c.0) c.1) j ne in
      (λ i. l i ++ shown_in (k i) (done_from (p + 1) j cs)) ∙ ap (λ (z : List (ℕ × Call)). lists j ++ shown_in (kepts j) z) (sym (else_from p j c cs (λ e. ne (sym e)))))

  kept_next : (s t : State) (kepts : ℕ → Line) (c : ℕ × Call) → Gives n fits s c.0 c.1 t → ((j : ℕ) → HasKept (s.steps j) (kepts j)) → (j : ℕ) → HasKept (t.steps j) (next_kepts kepts c j)
  kept_next s t kepts c g kept j = dite (ℕ_discrete j c.0)
      (λ is. subst (λ (z : ℕ). HasKept (t.steps z) (next_kepts kepts c z)) (sym is) (subst (HasKept (t.steps c.0)) (sym (update_here kepts c.0 (kept_after (kepts c.0) c.1))) (gives_kept s c.0 c.1 t (kepts c.0) g (kept c.0))))
      (λ ne. subst (λ (z : Pending × Line). HasKept z.0 z.1) (λ i. (sym (still n fits s c.0 c.1 t g j ne) i, sym (update_else kepts c.0 (kept_after (kepts c.0) c.1) j ne) i)) (kept j))

  along : (o : Line) (run : List (ℕ × Call)) (s t : State) (v : Line) (kepts : ℕ → Line) (lists : ℕ → List Receipt) (p : ℕ) → HasValue n fits s v → ((j : ℕ) → HasKept (s.steps j) (kepts j)) → IsLegal o v lists → Leads (Gives n fits) s run t → IsLegal o (value_of v run) (with_shown lists kepts p run)
  along o [] s t v kepts lists p h kept legal l = subst (IsLegal o v) (fun_ext (λ j. sym (append-nil (lists j)))) legal
  along o (c ∷ cs) s t v kepts lists p h kept legal l =
      subst (IsLegal o (value_of (value_after v c.1) cs)) (fun_ext (shown_first lists kepts p c cs))
      (along o cs l.0 t (value_after v c.1) (next_kepts kepts c) (next_lists lists kepts c) (p + 1) (value_on n fits s v c.0 c.1 l.0 h l.1).0 (kept_next s l.0 kepts c l.1 kept) (call_legal o s v c.0 l.0 lists (kepts c.0) h (kept c.0) legal c.1 l.1) l.2)

  -- one run of calls of all nodes, from the line as it was opened: what they were shown is one history, that ends with the value
  pub run_legal : (o : Line) (run : List (ℕ × Call)) (t : State) → HasValue n fits (opened n o) o → Leads (Gives n fits) (opened n o) run t → IsLegal o (value_of o run) (λ j. shown_in blank (done_by j run))
  run_legal o run t h l = along o run (opened n o) t o (λ j. blank) (λ j. []) 0 h (λ j. refl) (legal_none o) l
