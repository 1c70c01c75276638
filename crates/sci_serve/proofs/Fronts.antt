-- A front of what is written of a run is what the run leaves where the writer fails.
use Rattle.std.proofs.Common.{◌≡◌, ℕ, ◌<◌, Bool, List, [], length, take, refl, sym, ap, ◌∙◌, subst, arith, inl, inr, length-take, take-take, take_all}
use Rattle.std.proofs.Math.Nat.{min-le_left, min-le_right}
use Rattle.sci_script.specs.declared.commands.Size.{Size}
use Rattle.sci_script.specs.declared.commands.Opening.{Opening}
use Rattle.sci_script.specs.declared.commands.Step.{Step}
use Rattle.sci_script.specs.declared.refusals.ScriptRefusal.{ScriptRefusal}
use Rattle.sci_script.specs.declared.refusals.ScriptRefusal.TheVariants.{OutOfMemory, BadCommand, BadNumber, NotDone, WriteFailed}
use Rattle.sci_script.specs.Event.{Event}
use Rattle.sci_script.specs.Request.{no_words}
use Rattle.sci_script.specs.Run.{Leaves, PrintsAll}
use Rattle.sci_script.specs.Shared.{Shared, shared_is_open, shared_does}
use Rattle.sci_trace.specs.Telling.{TellsAll}
use Rattle.sci_trace.specs.Traces.{TracedTo, FormLeaves}
use Rattle.sci_trace.proofs.Tracing.{traced_so, traced_then}
use Rattle.sci_logs.specs.Logging.{LogLeaves}
use Rattle.sci_trace.specs.Pages.{page_of}
use Rattle.sci_serve.specs.declared.faults.SimFault.{SimFault}
use Rattle.sci_serve.specs.declared.faults.SimFault.TheVariants.{CannotRead, CannotWrite, InputTooLong, Refused, NoDump, Unlawful, NoRun}
use Rattle.sci_serve.specs.declared.scripts.Form.{Form}
use Rattle.sci_serve.specs.Serve.{IsWritten, IsLeft, Serves, Stops, StopsRunning}

-- a list that is cut before its end was cut before
cut_shorter : (n m : ℕ) (text : List ℕ) → n < length (take m text) → (n < m) × (n < length text)
cut_shorter n m text less =
    let long = length-take m text in
    (omega (arith, less, long, min-le_left m (length text)), omega (arith, less, long, min-le_right m (length text)))

-- a front of a front is a front
front_again : (n m : ℕ) (text written : List ℕ) → n < length written → written ≡ take m text → (n < length text) × (take n written ≡ take n text)
front_again n m text written less is =
    let (below, inside) = cut_shorter n m text (subst (λ (l : List ℕ). n < length l) is less) in
    (inside, ap (take n) is ∙ take-take n m text (omega (arith, below)))

-- of what the run of a script leaves
script_front : {S : Type 0} (is_open : S → ℕ → Bool) (does : S → Event → S → Type 0) (nodes : ℕ) (s : S) (steps : List Step) (e : ScriptRefusal) (written : List ℕ) (t : S) (n : ℕ)
    → n < length written → Leaves is_open does nodes s steps e written t → (u : S) × Leaves is_open does nodes s steps WriteFailed (take n written) u
script_front is_open does nodes s steps OutOfMemory written t n less (k, mid, step, printed, at, stops) = (mid, (k, written, n, printed, less, refl))
script_front is_open does nodes s steps (BadCommand l) written t n less (k, mid, step, printed, at, stops) = (mid, (k, written, n, printed, less, refl))
script_front is_open does nodes s steps (BadNumber l) written t n less h = absurd h
script_front is_open does nodes s steps (NotDone l) written t n less (k, mid, step, printed, at, stops) = (mid, (k, written, n, printed, less, refl))
script_front is_open does nodes s steps WriteFailed written t n less (k, text, m, printed, short, is) =
    let (inside, again) = front_again n m text written less is in
    (t, (k, text, n, printed, inside, again))

-- of what is left of a traced run in some form
form_front : (form : List ℕ → List ℕ) (nodes : ℕ) (steps : List Step) (s : Shared) (e : ScriptRefusal) (written : List ℕ) (t : Shared) (n : ℕ) → n < length written
    → FormLeaves form nodes steps s e written t → FormLeaves form nodes steps s WriteFailed (take n written) t
form_front form nodes steps s WriteFailed written t n less (traced, so_far, (m, short, is)) =
    let (inside, again) = front_again n m (form traced) written less is in
    (traced, so_far, (n, inside, again))
form_front form nodes steps s e written t n less (traced, so_far, is) =
    (traced, traced_then nodes steps e traced s t so_far, (n, subst (λ (x : List ℕ). n < length x) is less, ap (take n) is))

front_of_nothing : (written : List ℕ) (n : ℕ) → n < length written → written ≡ [] → ⊥
front_of_nothing written n less none = let e : length written ≡ 0 = ap (length {A = ℕ}) none in omega arith

-- of what is left of a log
log_front : (size : Size) (openings : List Opening) (steps : List Step) (s : Shared) (e : ScriptRefusal) (written : List ℕ) (t : Shared) (n : ℕ) → n < length written
    → LogLeaves size openings steps s e written t → LogLeaves size openings steps s WriteFailed (take n written) t
log_front size openings steps s OutOfMemory written t n less none = absurd (front_of_nothing written n less none)
log_front size openings steps s (BadCommand l) written t n less stops = (written, (n, less, refl), inr (BadCommand l, stops))
log_front size openings steps s (BadNumber l) written t n less stops = (written, (n, less, refl), inr (BadNumber l, stops))
log_front size openings steps s (NotDone l) written t n less stops = (written, (n, less, refl), inr (NotDone l, stops))
log_front size openings steps s WriteFailed written t n less (log, (m, short, is), run) =
    let (inside, again) = front_again n m log written less is in
    (log, (n, inside, again), run)

front_of_left : (form : Form) (input : List ℕ) (size : Size) (capacity : ℕ) (openings : List Opening) (steps : List Step) (e : ScriptRefusal) (written : List ℕ) (n : ℕ) → n < length written
    → IsLeft form input size capacity openings steps e written → IsLeft form input size capacity openings steps WriteFailed (take n written)
front_of_left Form.Script input size capacity openings steps e written n less (s, t, opens, left) =
    let (u, front) = script_front shared_is_open shared_does size.nodes s steps e written t n less left in
    (s, u, opens, front)
front_of_left Form.Trace input size capacity openings steps e written n less (s, t, opens, left) = (s, t, opens, form_front (λ (text : List ℕ). text) size.nodes steps s e written t n less left)
front_of_left Form.Draw input size capacity openings steps e written n less (s, t, opens, left) = (s, t, opens, form_front (page_of input) size.nodes steps s e written t n less left)
front_of_left Form.Log input size capacity openings steps e written n less (s, t, opens, left) = (s, t, opens, log_front size openings steps s e written t n less left)

all_traced : (nodes : ℕ) (steps : List Step) (traced : List ℕ) (s t : Shared) → TellsAll no_words s steps traced t → TracedTo nodes steps s WriteFailed traced t
all_traced nodes steps traced s t told =
    traced_so nodes steps (length steps) traced s t t (subst (λ (l : List Step). TellsAll no_words s l traced t) (sym (take_all (length steps) steps (omega arith))) told)

front_of_written : (form : Form) (input : List ℕ) (size : Size) (capacity : ℕ) (openings : List Opening) (steps : List Step) (text : List ℕ) (n : ℕ) → n < length text
    → IsWritten form input size capacity openings steps text → IsLeft form input size capacity openings steps WriteFailed (take n text)
front_of_written Form.Script input size capacity openings steps text n less (s, t, opens, printed) =
    (s, t, opens, (length steps, text, n, subst (λ (l : List Step). PrintsAll shared_is_open shared_does no_words s l text t) (sym (take_all (length steps) steps (omega arith))) printed, less, refl))
front_of_written Form.Trace input size capacity openings steps traced n less (s, t, opens, told) =
    (s, t, opens, (traced, all_traced size.nodes steps traced s t told, (n, less, refl)))
front_of_written Form.Draw input size capacity openings steps text n less (s, t, traced, opens, told, is) =
    (s, t, opens, (traced, all_traced size.nodes steps traced s t told, (n, subst (λ (x : List ℕ). n < length x) is less, ap (take n) is)))
front_of_written Form.Log input size capacity openings steps text n less (s, t, opens, logged) = (s, t, opens, (text, (n, less, refl), inl logged))

front_of_run : (limit : ℕ) (form : Form) (e : ScriptRefusal) (input written : List ℕ) (n : ℕ) → n < length written → StopsRunning limit form e input written → StopsRunning limit form WriteFailed input (take n written)
front_of_run limit form e input written n less (short, size, capacity, openings, steps, is, left) =
    (short, size, capacity, openings, steps, is, front_of_left form input size capacity openings steps e written n less left)

pub front_of_text : (limit : ℕ) (form : Form) (input text : List ℕ) (n : ℕ) → n < length text → Serves limit form input text → StopsRunning limit form WriteFailed input (take n text)
front_of_text limit form input text n less (short, size, capacity, openings, steps, is, written) =
    (short, size, capacity, openings, steps, is, front_of_written form input size capacity openings steps text n less written)

-- wherever the command stops, a front of what it wrote is what it leaves where the writer fails
pub front_of_stop : (limit : ℕ) (form : Form) (e : SimFault) (input written : List ℕ) (n : ℕ) → n < length written → Stops limit form e input written → Stops limit form CannotWrite input (take n written)
front_of_stop limit form CannotRead input written n less none = absurd (front_of_nothing written n less none)
front_of_stop limit form CannotWrite input written n less h = front_of_run limit form WriteFailed input written n less h
front_of_stop limit form InputTooLong input written n less h = absurd (front_of_nothing written n less h.1)
front_of_stop limit form (Refused e) input written n less (inl h) = absurd (front_of_nothing written n less h.1)
front_of_stop limit form (Refused e) input written n less (inr h) = front_of_run limit form e input written n less h
front_of_stop limit form (NoDump l) input written n less h = absurd h
front_of_stop limit form Unlawful input written n less h = absurd h
front_of_stop limit form (NoRun e) input written n less h = absurd h
