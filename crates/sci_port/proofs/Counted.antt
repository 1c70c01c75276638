-- The receipts of one run: they are one history, whose last stamp counts the writes in them.
use Rattle.std.proofs.Common.{◌≡◌, ◌≢◌, ℕ, zero, suc, ◌+◌, ◌<◌, ◌≤◌, Some, None, List, [], ◌∷◌, ◌++◌, cond, refl, sym, ap, ◌∙◌, subst, arith}
use mathlib.Core.Logic.{dite}
use native.Mathlib.Decide.{ℕ_discrete, dec_le}
use Rattle.sci_core.specs.declared.lines.Line.{Line}
use Rattle.sci_core.specs.declared.events.Event.{Event}
use Rattle.sci_core.specs.declared.outcomes.Outcome.{Outcome}
use Rattle.sci_core.specs.declared.receipts.Receipt.{Receipt}
use Rattle.sci_core.specs.Legal.{is_write}
use Rattle.sci_core.specs.State.{State, update, opened, blank}
use Rattle.sci_core.specs.Run.{HasValue}
use Rattle.sci_port.specs.declared.calls.Call.{Call}
use Rattle.sci_port.specs.declared.calls.Call.TheVariants.{Own, MemWas, TagWas, Stepped}
use Rattle.sci_port.specs.History.{value_of, writes_in, writes}
use Rattle.sci_port.specs.KeepsTo.{KeepsTo, KeepToLogs}
use Rattle.sci_port.specs.Receipts.{writes_of, sum_below, IsWhole}
use Rattle.sci_port.specs.Shown.{kept_after, shown_by, shown_in}
use Rattle.sci_port.specs.Runs.{Leads, done_from, done_by}
use Rattle.sci_port.specs.Solo.{Gives}
use Rattle.sci_port.proofs.Updated.{update_here, update_else}
use Rattle.sci_port.proofs.Histories.{stamps}
use Rattle.sci_port.proofs.Running.{here_from, else_from, nil_cons}
use Rattle.sci_port.proofs.Thinned.{keeps_writes, legal_thinned}
use Rattle.sci_port.proofs.Shown.{run_legal}

sum_none : (n : ℕ) → sum_below n (λ j. 0) ≡ 0
sum_none zero = refl
sum_none (suc n) = let a = sum_none n in omega arith

sum_same : (n : ℕ) (f g : ℕ → ℕ) → ((j : ℕ) → j < n → f j ≡ g j) → sum_below n f ≡ sum_below n g
sum_same zero f g all = refl
sum_same (suc n) f g all = let a = sum_same n f g (λ j near. all j (omega arith)) in let b = all n (omega arith) in omega arith

-- one of them is more
sum_more : (n x a : ℕ) (f g : ℕ → ℕ) → x < n → f x ≡ a + g x → ((j : ℕ) → j ≢ x → f j ≡ g j) → sum_below n f ≡ a + sum_below n g
sum_more zero x a f g near here else = absurd (omega arith)
sum_more (suc n) x a f g near here else = dite (ℕ_discrete x n)
    (λ is. let b = sum_same n f g (λ j below. else j (λ e. absurd (omega arith))) in let c : f n ≡ a + g n = subst (λ z. f z ≡ a + g z) is here in omega arith)
    (λ ne. let b = sum_more n x a f g (omega arith) here else in let c = else n (λ e. ne (sym e)) in omega arith)

writes_both : (rs ns : List Receipt) → writes_of (rs ++ ns) ≡ writes_of rs + writes_of ns
writes_both [] ns = let z : writes_of ns ≡ 0 + writes_of ns = omega arith in z
writes_both (r ∷ rs) ns = let a = writes_both rs ns in let z : cond (is_write r) 1 0 + writes_of (rs ++ ns) ≡ cond (is_write r) 1 0 + writes_of rs + writes_of ns = omega arith in z

writes_shown : (k : Line) (call : Call) → writes_of (shown_by k call) ≡ writes_in call
writes_shown k (Stepped Event.Unhold (Outcome.Done (Some line))) = refl
writes_shown k (Stepped Event.Settle (Outcome.Done (Some line))) = refl
writes_shown k (Stepped (Event.Written (Some words)) (Outcome.Done answer)) = refl
writes_shown k (Stepped (Event.Written None) (Outcome.Done answer)) = refl
writes_shown k (Stepped _ (Outcome.Done None)) = refl
writes_shown k (Stepped _ (Outcome.Done (Some line))) = refl
writes_shown k (Stepped Event.Unhold (Outcome.Missed code)) = refl
writes_shown k (Stepped Event.Settle (Outcome.Missed code)) = refl
writes_shown k (Stepped (Event.Written (Some words)) (Outcome.Missed code)) = refl
writes_shown k (Stepped (Event.Written None) (Outcome.Missed code)) = refl
writes_shown k (Stepped _ (Outcome.Missed code)) = refl
writes_shown k (Stepped Event.Unhold Outcome.Busy) = refl
writes_shown k (Stepped Event.Settle Outcome.Busy) = refl
writes_shown k (Stepped (Event.Written (Some words)) Outcome.Busy) = refl
writes_shown k (Stepped (Event.Written None) Outcome.Busy) = refl
writes_shown k (Stepped _ Outcome.Busy) = refl
writes_shown k (Own answer) = refl
writes_shown k (MemWas answer) = refl
writes_shown k (TagWas node answer) = refl

-- how many writes each node was shown
abbrev each_writes : (ℕ → Line) → ℕ → List (ℕ × Call) → ℕ → ℕ
each_writes kepts p run j = writes_of (shown_in (kepts j) (done_from p j run))

counts : (n p : ℕ) (run : List (ℕ × Call)) (kepts : ℕ → Line) → ((i : ℕ) → n ≤ i → done_from p i run ≡ []) → sum_below n (each_writes kepts p run) ≡ writes run
counts n p [] kepts nobody = sum_none n
counts n p (c ∷ cs) kepts nobody = dite (dec_le n c.0)
    (λ far. absurd (nil_cons (p, c.1) (done_from (p + 1) c.0 cs) (sym (nobody c.0 far) ∙ here_from p c.0 c cs refl)))
    (λ near.
    let next : ℕ → Line = update kepts c.0 (kept_after (kepts c.0) c.1) in
    let more : sum_below n (each_writes next (p + 1) cs) ≡ writes cs = counts n (p + 1) cs next (λ i far. sym (else_from p i c cs (λ e. absurd (omega arith))) ∙ nobody i far) in
    let here : each_writes kepts p (c ∷ cs) c.0 ≡ writes_in c.1 + each_writes next (p + 1) cs c.0 =
    ap (λ (l : List (ℕ × Call)). writes_of (shown_in (kepts c.0) l)) (here_from p c.0 c cs refl)
    ∙ (writes_both (shown_by (kepts c.0) c.1) (shown_in (kept_after (kepts c.0) c.1) (done_from (p + 1) c.0 cs))
    ∙ (λ i. writes_shown (kepts c.0) c.1 i + writes_of (shown_in (sym (update_here kepts c.0 (kept_after (kepts c.0) c.1)) i) (done_from (p + 1) c.0 cs)))) in
    let else : (j : ℕ) → j ≢ c.0 → each_writes kepts p (c ∷ cs) j ≡ each_writes next (p + 1) cs j = λ j ne. (λ i. writes_of (shown_in (sym (update_else kepts c.0 (kept_after (kepts c.0) c.1) j ne) i) (else_from p j c cs (λ e. ne (sym e)) i))) in
    let sums = sum_more n c.0 (writes_in c.1) (each_writes kepts p (c ∷ cs)) (each_writes next (p + 1) cs) (omega arith) here else in
    omega arith)

-- lists that keep to lists that are one history, whole, are so too
pub whole_thinned : (n : ℕ) (o v : Line) (lists shown : ℕ → List Receipt) → IsWhole n o v shown → ((j : ℕ) → KeepsTo (lists j) (shown j)) → IsWhole n o v lists
whole_thinned n o v lists shown w keep =
    let same = sum_same n (λ j. writes_of (lists j)) (λ j. writes_of (shown j)) (λ j near. keeps_writes (lists j) (shown j) (keep j)) in
    let count = w.count in
    record { legal = legal_thinned o v lists shown w.legal keep; count = omega arith }

module _ (n : ℕ) (fits : List ℕ → Type 0) where
  -- what the calls of one run show, from the line as it was opened, is one history, whole, that ends with the value
  pub shown_whole : (o : Line) (run : List (ℕ × Call)) (t : State) → HasValue n fits (opened n o) o → Leads (Gives n fits) (opened n o) run t → ((i : ℕ) → n ≤ i → done_by i run ≡ []) → IsWhole n o (value_of o run) (λ j. shown_in blank (done_by j run))
  shown_whole o run t h l nobody =
      let same = sum_same n (λ j. writes_of (shown_in blank (done_by j run))) (each_writes (λ j. blank) 0 run) (λ j near. refl) in
      let all = counts n 0 run (λ j. blank) nobody in
      let stamp = stamps o run in
      record { legal = run_legal n fits o run t h l; count = omega arith }

  -- and lists that keep to the logs of the run are
  pub run_whole : (o : Line) (run : List (ℕ × Call)) (t : State) (lists : ℕ → List Receipt) → HasValue n fits (opened n o) o → Leads (Gives n fits) (opened n o) run t → ((i : ℕ) → n ≤ i → done_by i run ≡ []) → KeepToLogs lists (λ j. done_by j run) → IsWhole n o (value_of o run) lists
  run_whole o run t lists h l nobody keep = whole_thinned n o (value_of o run) lists (λ j. shown_in blank (done_by j run)) (shown_whole o run t h l nobody) keep
