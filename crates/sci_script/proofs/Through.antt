-- What is said of a desk is said of what it is seen as, where each call of it is one of that.
use Rattle.std.proofs.Common.{ℕ, zero, suc, Bool, true, false, List, [], ◌∷◌, Option, Some, None, take, ap, inl, inr, ⊎_elim}
use Rattle.sci_words.specs.declared.tags.Tag.{Tag}
use Rattle.sci_script.specs.declared.commands.Step.{Step}
use Rattle.sci_script.specs.declared.commands.Command.{Command}
use Rattle.sci_script.specs.declared.commands.Command.TheVariants.{Begin, Turn, Done, Rest, End, List as ListLine, Tag as ShowTag, Show}
use Rattle.sci_script.specs.declared.refusals.ScriptRefusal.{ScriptRefusal}
use Rattle.sci_script.specs.declared.refusals.ScriptRefusal.TheVariants.{OutOfMemory, BadCommand, BadNumber, NotDone, WriteFailed}
use Rattle.sci_script.specs.declared.desk.Toward.{Toward}
use Rattle.sci_script.specs.Event.{Event, Began, Turned, Rested, SawMem, SawTag, Saw}
use Rattle.sci_script.specs.Request.{asked, no_words, words_after}
use Rattle.sci_script.specs.Run.{Unended, Calms, CalmsTo, RestsLines, RestsNot, CallEnds, EndsOpenBy, EndsOpen, EndsTo, Repeats, Loads, Walked, Prints, PrintsAll, IsOutOfPlace, IsLost, IsUnended, WantsMemory, StopsAt, Leaves}

module _ {S T : Type 0} (f : S → T) (is_open : T → ℕ → Bool) (does_seen : S → Event → S → Type 0) (does : T → Event → T → Type 0)
    (seen : (s : S) (event : Event) (t : S) → does_seen s event t → does (f s) event (f t)) where
  abbrev open_seen : S → ℕ → Bool
  open_seen s node = is_open (f s) node

  pub unended : (node n : ℕ) (s t : S) → Unended does_seen node n s t → Unended does node n (f s) (f t)
  unfolding Unended
  unended node zero s t h = ap f h
  unended node (suc n) s t h = (f h.0, h.1, unended node n s h.0 h.2, h.3, seen h.0 (Turned node h.1) t h.4)

  calms : (line n : ℕ) (s t : S) → Calms does_seen line n s t → Calms does line n (f s) (f t)
  unfolding Calms
  calms line zero s t h = ap f h
  calms line (suc n) s t h = (f h.0, h.1, calms line n s h.0 h.2, seen h.0 (Rested line (Toward.Turned h.1)) t h.3)

  calms_to : (line : ℕ) (toward : Toward) (s t : S) → CalmsTo does_seen line toward s t → CalmsTo does line toward (f s) (f t)
  calms_to line toward s t h = (h.0, f h.1, calms line h.0 s h.1 h.2, seen h.1 (Rested line toward) t h.3)

  rests : (m : ℕ) (s t : S) → RestsLines does_seen m s t → RestsLines does m (f s) (f t)
  unfolding RestsLines
  rests zero s t h = ap f h
  rests (suc m) s t h = (f h.0, rests m s h.0 h.1, calms_to m Toward.Reached h.0 t h.2)

  rests_not : (m : ℕ) (s t : S) → RestsNot does_seen m s t → RestsNot does m (f s) (f t)
  rests_not m s t h = (h.0, h.1, f h.2, rests h.0 s h.2 h.3, calms_to h.0 Toward.Unknown h.2 t h.4)

  ends_call : (words : List ℕ) (node : ℕ) (s : S) (text : List ℕ) (t : S) → CallEnds does_seen words node s text t → CallEnds does words node (f s) text (f t)
  ends_call words node s text t h = (h.0, h.1, f h.2, unended node h.0 s h.2 h.3, h.4, h.5, seen h.2 (Turned node h.4) t h.6, h.7)

  ends_open_by : (b : Bool) (words : List ℕ) (node : ℕ) (s : S) (text : List ℕ) (t : S) → EndsOpenBy b does_seen words node s text t → EndsOpenBy b does words node (f s) text (f t)
  ends_open_by true words node s text t h = ends_call words node s text t h
  ends_open_by false words node s text t h = (h.0, ap f h.1)

  ends_open : (words : List ℕ) (m : ℕ) (s : S) (text : List ℕ) (t : S) → EndsOpen open_seen does_seen words m s text t → EndsOpen is_open does words m (f s) text (f t)
  unfolding EndsOpen
  ends_open words zero s text t h = (h.0, ap f h.1)
  ends_open words (suc m) s text t h = (f h.0, h.1, h.2, ends_open words m s h.1 h.0 h.3, ends_open_by (is_open (f h.0) m) words m h.0 h.2 t h.4, h.5)

  ends_to : (m lines : ℕ) (s : S) (next : ℕ → S → Type 0) (then_next : ℕ → T → Type 0) → ((node : ℕ) (mid : S) → next node mid → then_next node (f mid)) → EndsTo open_seen does_seen m lines s next → EndsTo is_open does m lines (f s) then_next
  ends_to m lines s next then_next each h =
      (h.0, h.1, h.2, h.3, f h.4, f h.5, rests lines s h.4 h.6, ends_open h.2 h.0 h.4 h.3 h.5 h.7, h.8, each h.0 h.5 h.9)

  repeats : (event : Event) (n : ℕ) (s t : S) → Repeats does_seen event n s t → Repeats does event n (f s) (f t)
  unfolding Repeats
  repeats event zero s t h = ap f h
  repeats event (suc n) s t h = (f h.0, repeats event n s h.0 h.1, seen h.0 event t h.2)

  loads : (none some : Event) (s t : S) → Loads does_seen none some s t → Loads does none some (f s) (f t)
  loads none some s t h = (h.0, h.1, f h.2, repeats none h.0 s h.2 h.3, seen h.2 some t h.4)

  walked : (line : ℕ) (from : Option ℕ) (entries : List (ℕ × Tag)) (next : Option ℕ) (s t : S) → Walked does_seen line from entries next s t → Walked does line from entries next (f s) (f t)
  unfolding Walked
  walked line from [] next s t h = (h.0, ap f h.1)
  walked line None (entry ∷ entries) next s t h = absurd h
  walked line (Some node) (entry ∷ entries) next s t h =
      (f h.0, h.1, loads (SawTag line node None) (SawTag line node (Some h.1)) s h.0 h.2, h.3, walked line h.1.forw entries next h.0 t h.4)

  pub prints : (words : List ℕ) (s : S) (command : Command) (text : List ℕ) (t : S) → Prints open_seen does_seen words s command text t → Prints is_open does words (f s) command text (f t)
  prints words s (Begin node line request) text t h = (h.0, seen s (Began node (asked line request)) t h.1, h.2)
  prints words s (Turn node) text t h = (h.0, h.1, seen s (Turned node h.1) t h.2, h.3)
  prints words s (Done node) text t h = (h.0, h.1, h.2, f h.3, unended node h.1 s h.3 h.4, h.5, h.6, seen h.3 (Turned node h.5) t h.7, h.8)
  prints words s (Rest lines) text t h = (rests lines s t h.0, h.1)
  prints words s (End nodes lines) text t h = (f h.0, rests lines s h.0 h.1, ends_open words nodes h.0 text t h.2)
  prints words s (ListLine line) text t h =
      (f h.0, h.1, h.2, loads (SawMem line None) (SawMem line (Some h.1)) s h.0 h.3, walked line h.1.forw h.2 None h.0 t h.4, h.5)
  prints words s (ShowTag line node) text t h = (h.0, loads (SawTag line node None) (SawTag line node (Some h.0)) s t h.1, h.2)
  prints words s (Show ask) text t h = (h.0, seen s (Saw ask h.0) t h.1, h.2)

  pub prints_all : (words : List ℕ) (s : S) (steps : List Step) (text : List ℕ) (t : S) → PrintsAll open_seen does_seen words s steps text t → PrintsAll is_open does words (f s) steps text (f t)
  prints_all words s [] text t h = (h.0, ap f h.1)
  prints_all words s (step ∷ steps) text t h =
      (h.0, h.1, f h.2, prints words s step.command h.0 h.2 h.3, prints_all (words_after words step.command) h.2 steps h.1 t h.4, h.5)

  lost : (nodes line : ℕ) (from : Option ℕ) (s t : S) → IsLost does_seen nodes line from s t → IsLost does nodes line from (f s) (f t)
  lost nodes line from s t h = (
    h.0,
    h.1,
    f h.2,
    walked line from h.0 (Some h.1) s h.2 h.3,
    ⊎_elim (λ a. inl (repeats (SawTag line h.1 None) 100000 h.2 t a)) (λ b. inr (b.0, ap f b.1)) h.4,
  )

  no_end : (nodes : ℕ) (s : S) (command : Command) (t : S) → IsUnended open_seen does_seen nodes s command t → IsUnended is_open does nodes (f s) command (f t)
  no_end nodes s (Done node) t h = (h.0, unended node 100000 s t h.1)
  no_end nodes s (Rest lines) t h = rests_not lines s t h
  no_end nodes s (End ends lines) t h =
      ⊎_elim (λ a. inl (rests_not lines s t a))
      (λ b. inr (ends_to ends lines s (λ node mid. Unended does_seen node 100000 mid t) (λ node mid. Unended does node 100000 mid (f t)) (λ node mid k. unended node 100000 mid t k) b)) h
  no_end nodes s (ListLine line) t h =
      ⊎_elim (λ a. inl (repeats (SawMem line None) 100000 s t a))
      (λ b. inr (f b.0, b.1, loads (SawMem line None) (SawMem line (Some b.1)) s b.0 b.2, lost nodes line b.1.forw b.0 t b.3)) h
  no_end nodes s (ShowTag line node) t h = repeats (SawTag line node None) 100000 s t h
  no_end nodes s command t h = h

  out_of_place : (s : S) (command : Command) → IsOutOfPlace open_seen s command → IsOutOfPlace is_open (f s) command
  out_of_place s (Begin node line request) h = h
  out_of_place s command h = h

  wants_memory : (s : S) (command : Command) (t : S) → WantsMemory open_seen does_seen s command t → WantsMemory is_open does (f s) command (f t)
  wants_memory s (Begin node line request) t h = (h.0, ap f h.1)
  wants_memory s (Turn node) t h = (h.0, h.1, seen s (Turned node h.1) t h.2)
  wants_memory s (Done node) t h = (h.0, h.1, h.2, f h.3, unended node h.1 s h.3 h.4, h.5, h.6, seen h.3 (Turned node h.5) t h.7)
  wants_memory s (Rest lines) t h = h
  wants_memory s (End nodes lines) t h =
      ends_to nodes lines s (λ node mid. (words last : List ℕ) × CallEnds does_seen words node mid last t) (λ node mid. (words last : List ℕ) × CallEnds does words node mid last (f t)) (λ node mid k. (k.0, k.1, ends_call k.0 node mid k.1 t k.2)) h
  wants_memory s (ListLine line) t h =
      (f h.0, h.1, loads (SawMem line None) (SawMem line (Some h.1)) s h.0 h.2, (h.3.0, h.3.1, walked line h.1.forw h.3.0 h.3.1 h.0 t h.3.2))
  wants_memory s (ShowTag line node) t h = (h.0, loads (SawTag line node None) (SawTag line node (Some h.0)) s t h.1)
  wants_memory s (Show ask) t h = ap f h

  -- how one command fails
  pub stops_at : (nodes : ℕ) (s : S) (step : Step) (refusal : ScriptRefusal) (t : S) → StopsAt open_seen does_seen nodes s step refusal t → StopsAt is_open does nodes (f s) step refusal (f t)
  stops_at nodes s step OutOfMemory t h = wants_memory s step.command t h
  stops_at nodes s step (BadCommand n) t h = (h.0, out_of_place s step.command h.1, ap f h.2)
  stops_at nodes s step (NotDone n) t h = (h.0, no_end nodes s step.command t h.1)
  stops_at nodes s step refusal t h = h

  pub leaves : (nodes : ℕ) (s : S) (steps : List Step) (refusal : ScriptRefusal) (written : List ℕ) (t : S) → Leaves open_seen does_seen nodes s steps refusal written t → Leaves is_open does nodes (f s) steps refusal written (f t)
  leaves nodes s steps (BadNumber n) written t h = h
  leaves nodes s steps WriteFailed written t h = (h.0, h.1, h.2, prints_all no_words s (take h.0 steps) h.1 t h.3, h.4, h.5)
  leaves nodes s steps refusal written t h =
      (h.0, f h.1, h.2, prints_all no_words s (take h.0 steps) written h.1 h.3, h.4, stops_at nodes h.1 h.2 refusal t h.5)
