-- A run with one entry more.
use Rattle.std.proofs.Common.{◌≡◌, ◌∙◌, ◌<◌, ℕ, List, [], ◌∷◌, ◌++◌, Option, Result, Ok, Err, length, get_or, slice_get, refl, sym, subst}
use Rattle.std.proofs.lemmas.Option.{slice_get_read}
use Rattle.sci_core.specs.State.{State}
use Rattle.sci_core.specs.Answers.{Answers}
use Rattle.sci_script.specs.declared.commands.Size.{Size}
use Rattle.sci_logs.specs.declared.entries.Entry.{Entry}
use Rattle.sci_logs.specs.declared.entries.Deviation.{Deviation}
use Rattle.sci_logs.specs.Steps.{Takes}
use Rattle.sci_logs.specs.Runs.{IsRun, Departs}

-- an entry is taken from lines that are the same
taken_from : (n : ℕ) (s u : ℕ → State) (e : Entry) (said : Result (Unit {0}) Deviation) (t : ℕ → State) → ((l : ℕ) → u l ≡ s l) → Takes n u e said t → Takes n s e said t
taken_from n s u e said t same taken = record {
  answer = taken.answer;
  step = subst (λ (x : State). Answers n x e.node e.event taken.answer (t e.line)) (same e.line) taken.step;
  others = λ l other. taken.others l other ∙ same l;
  judged = taken.judged;
}

pub run_more : (n : ℕ) (s : ℕ → State) (es : List Entry) (e : Entry) (u t : ℕ → State) → IsRun n s es u → Takes n u e (Ok tt) t → IsRun n s (es ++ e ∷ []) t
run_more n s [] e u t same taken = (t, taken_from n s u e (Ok tt) t same taken, λ l. refl)
run_more n s (x ∷ es) e u t run taken = (run.0, run.1, run_more n run.0 es e u t run.2 taken)

pub taken_with : (a b : Size) (s : ℕ → State) (e : Entry) (said : Result (Unit {0}) Deviation) (t : ℕ → State) → a ≡ b → Takes a.nodes s e said t → Takes b.nodes s e said t
taken_with a b s e said t same taken = subst (λ (z : Size). Takes z.nodes s e said t) same taken

pub departs : (n : ℕ) (s t : ℕ → State) (es : List Entry) (place : ℕ) (e : Entry) (why : Deviation) → place < length es → e ≡ get_or es place e → Takes n s e (Err why) t
    → Departs n s (slice_get es place) why t
departs n s t es place e why below item taken = subst (λ (x : Option Entry). Departs n s x why t) (sym (slice_get_read es (length es) place e refl below item)) taken
