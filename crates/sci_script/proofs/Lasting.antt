-- What every event keeps, every command keeps.
use Rattle.std.proofs.Common.{◌≡◌, ◌<◌, ◌≤◌, ℕ, zero, suc, Bool, true, false, nat_lt, nat_eq, List, [], ◌∷◌, Option, Some, None, refl, sym, subst, ⊎_elim, arith}
use Rattle.std.proofs.lemmas.Bool.Decides.{nat_tests}
use Rattle.std.specs.Prelude.{slice_get}
use Rattle.sci_words.specs.declared.tags.Tag.{Tag}
use Rattle.sci_cache.specs.Requests.{line_of}
use Rattle.sci_script.specs.declared.commands.Command.{Command}
use Rattle.sci_script.specs.declared.commands.Command.TheVariants.{Begin, Turn, Done, Rest, End, List as ListLine, Tag as ShowTag, Show}
use Rattle.sci_script.specs.declared.commands.Request.{Request}
use Rattle.sci_script.specs.declared.commands.Request.TheVariants.{Evict}
use Rattle.sci_script.specs.declared.commands.Size.{Size}
use Rattle.sci_script.specs.declared.commands.Step.{Step}
use Rattle.sci_script.specs.declared.desk.Toward.{Toward}
use Rattle.sci_script.specs.declared.refusals.ScriptRefusal.{ScriptRefusal}
use Rattle.sci_script.specs.declared.refusals.ScriptRefusal.TheVariants.{OutOfMemory, BadCommand, NotDone}
use Rattle.sci_script.specs.Event.{Event, Turned, Rested, SawMem, SawTag}
use Rattle.sci_script.specs.Request.{asked, words_after}
use Rattle.sci_script.specs.Run.{Unended, Calms, CalmsTo, RestsLines, CallEnds, EndsOpenBy, EndsOpen, EndsTo, RestsNot, Repeats, Loads, Walked, Prints, PrintsAll, IsLost, IsUnended, WantsMemory, StopsAt}
use Rattle.sci_script.specs.Size.{IsIn}
use Rattle.sci_script.proofs.Sound.{IsEventIn}

asked_line : (line : ℕ) (request : Request) → line_of (asked line request) ≡ line
asked_line line Evict = refl
asked_line line request = refl

begin_in : (size : Size) (node line : ℕ) (request : Request) → IsIn size (Begin node line request) → (node < size.nodes) × (line < size.lines)
begin_in size node line request h = (grind (arith, nat_tests, h), grind (arith, nat_tests, h))

node_in : (a b : ℕ) → nat_lt a b ≡ true → a < b
node_in a b h = grind (arith, nat_tests, h)

same_in : (a b : ℕ) → nat_eq a b ≡ true → a ≡ b
same_in a b h = grind (arith, nat_tests, h)

pub end_in : (size : Size) (nodes lines : ℕ) → IsIn size (End nodes lines) → (nodes ≡ size.nodes) × (lines ≡ size.lines)
end_in size nodes lines h = (grind (arith, nat_tests, h), grind (arith, nat_tests, h))

module _ {S : Type 0} (is_open : S → ℕ → Bool) (does : S → Event → S → Type 0) (size : Size) (Holds : S → Type 0) (each : (s : S) (e : Event) (t : S) → IsEventIn size e → does s e t → Holds s → Holds t) where
  pub unended_keeps : (node n : ℕ) (s t : S) → node < size.nodes → Unended does node n s t → Holds s → Holds t
  unfolding Unended
  unended_keeps node zero s t below h k = subst (λ (x : S). Holds x) (sym h) k
  unended_keeps node (suc n) s t below h k = each h.0 (Turned node h.1) t below h.4 (unended_keeps node n s h.0 below h.2 k)

  calms_keeps : (line n : ℕ) (s t : S) → line < size.lines → Calms does line n s t → Holds s → Holds t
  unfolding Calms
  calms_keeps line zero s t inside h k = subst (λ (x : S). Holds x) (sym h) k
  calms_keeps line (suc n) s t inside h k = each h.0 (Rested line (Toward.Turned h.1)) t inside h.3 (calms_keeps line n s h.0 inside h.2 k)

  calms_to_keeps : (line : ℕ) (toward : Toward) (s t : S) → line < size.lines → CalmsTo does line toward s t → Holds s → Holds t
  calms_to_keeps line toward s t inside h k = each h.1 (Rested line toward) t inside h.3 (calms_keeps line h.0 s h.1 inside h.2 k)

  pub rests_keeps : (m : ℕ) (s t : S) → m ≤ size.lines → RestsLines does m s t → Holds s → Holds t
  unfolding RestsLines
  rests_keeps zero s t le h k = subst (λ (x : S). Holds x) (sym h) k
  rests_keeps (suc m) s t le h k = calms_to_keeps m Toward.Reached h.0 t (omega (arith, le)) h.2 (rests_keeps m s h.0 (omega (arith, le)) h.1 k)

  ends_keeps : (words : List ℕ) (node : ℕ) (s : S) (text : List ℕ) (t : S) → node < size.nodes → CallEnds does words node s text t → Holds s → Holds t
  ends_keeps words node s text t below h k = each h.2 (Turned node h.4) t below h.6 (unended_keeps node h.0 s h.2 below h.3 k)

  ends_by_keeps : (is : Bool) (words : List ℕ) (node : ℕ) (s : S) (text : List ℕ) (t : S) → node < size.nodes → EndsOpenBy is does words node s text t → Holds s → Holds t
  ends_by_keeps true words node s text t below h k = ends_keeps words node s text t below h k
  ends_by_keeps false words node s text t below h k = subst (λ (x : S). Holds x) (sym h.1) k

  ends_open_keeps : (words : List ℕ) (m : ℕ) (s : S) (text : List ℕ) (t : S) → m ≤ size.nodes → EndsOpen is_open does words m s text t → Holds s → Holds t
  unfolding EndsOpen
  ends_open_keeps words zero s text t le h k = subst (λ (x : S). Holds x) (sym h.1) k
  ends_open_keeps words (suc m) s text t le h k = ends_by_keeps (is_open h.0 m) words m h.0 h.2 t (omega (arith, le)) h.4 (ends_open_keeps words m s h.1 h.0 (omega (arith, le)) h.3 k)

  repeats_keeps : (e : Event) (n : ℕ) (s t : S) → IsEventIn size e → Repeats does e n s t → Holds s → Holds t
  unfolding Repeats
  repeats_keeps e zero s t within h k = subst (λ (x : S). Holds x) (sym h) k
  repeats_keeps e (suc n) s t within h k = each h.0 e t within h.2 (repeats_keeps e n s h.0 within h.1 k)

  loads_keeps : (none some : Event) (s t : S) → IsEventIn size none → IsEventIn size some → Loads does none some s t → Holds s → Holds t
  loads_keeps none some s t within too h k = each h.2 some t too h.4 (repeats_keeps none h.0 s h.2 within h.3 k)

  walked_keeps : (line : ℕ) (from : Option ℕ) (entries : List (ℕ × Tag)) (next : Option ℕ) (s t : S) → Walked does line from entries next s t → Holds s → Holds t
  unfolding Walked
  walked_keeps line from [] next s t h k = subst (λ (x : S). Holds x) (sym h.1) k
  walked_keeps line None (entry ∷ entries) next s t h k = absurd h
  walked_keeps line (Some node) (entry ∷ entries) next s t h k = walked_keeps line h.1.forw entries next h.0 t h.4 (loads_keeps (SawTag line node None) (SawTag line node (Some h.1)) s h.0 tt tt h.2 k)

  pub prints_keeps : (words : List ℕ) (s : S) (command : Command) (text : List ℕ) (t : S) → IsIn size command → Prints is_open does words s command text t → Holds s → Holds t
  prints_keeps words s (Begin node line request) text t within h k =
      let in_range = begin_in size node line request within in
      each s _ t (in_range.0, subst (λ (l : ℕ). l < size.lines) (sym (asked_line line request)) in_range.1) h.1 k
  prints_keeps words s (Turn node) text t within h k = each s (Turned node h.1) t (node_in node size.nodes within) h.2 k
  prints_keeps words s (Done node) text t within h k = each h.3 (Turned node h.5) t (node_in node size.nodes within) h.7 (unended_keeps node h.1 s h.3 (node_in node size.nodes within) h.4 k)
  prints_keeps words s (Rest lines) text t within h k = rests_keeps lines s t (let e = same_in lines size.lines within in omega (arith, e)) h.0 k
  prints_keeps words s (End nodes lines) text t within h k =
      let of = end_in size nodes lines within in
      ends_open_keeps words nodes h.0 text t (omega (arith, of.0)) h.2 (rests_keeps lines s h.0 (omega (arith, of.1)) h.1 k)
  prints_keeps words s (ListLine line) text t within h k =
      walked_keeps line h.1.forw h.2 None h.0 t h.4 (loads_keeps (SawMem line None) (SawMem line (Some h.1)) s h.0 tt tt h.3 k)
  prints_keeps words s (ShowTag line node) text t within h k = loads_keeps (SawTag line node None) (SawTag line node (Some h.0)) s t tt tt h.1 k
  prints_keeps words s (Show ask) text t within h k = each s _ t tt h.1 k

  -- commands of what there is
  pub all_keep : (words : List ℕ) (s : S) (steps : List Step) (text : List ℕ) (t : S) → ((i : ℕ) (step : Step) → slice_get steps i ≡ Some step → IsIn size step.command) → PrintsAll is_open does words s steps text t → Holds s → Holds t
  all_keep words s [] text t within h k = subst (λ (x : S). Holds x) (sym h.1) k
  all_keep words s (step ∷ steps) text t within h k =
      all_keep (words_after words step.command) h.2 steps h.1 t (λ i x is. within (suc i) x is) h.4 (prints_keeps words s step.command h.0 h.2 (within 0 step refl) h.3 k)

  rests_not_keeps : (m : ℕ) (s t : S) → m ≤ size.lines → RestsNot does m s t → Holds s → Holds t
  rests_not_keeps m s t le h k = calms_to_keeps h.0 Toward.Unknown h.2 t (omega (arith, h.1, le)) h.4 (rests_keeps h.0 s h.2 (omega (arith, h.1, le)) h.3 k)

  -- what a call does that ends no more, or whose end has no room
  ends_to_keeps : (nodes lines : ℕ) (s t : S) (next : ℕ → S → Type 0) → nodes ≤ size.nodes → lines ≤ size.lines → ((node : ℕ) (mid : S) → node < size.nodes → next node mid → Holds mid → Holds t) → EndsTo is_open does nodes lines s next → Holds s → Holds t
  ends_to_keeps nodes lines s t next all each then h k =
      let below : h.0 < size.nodes = omega (arith, h.1, all) in
      then h.0 h.5 below h.9 (ends_open_keeps h.2 h.0 h.4 h.3 h.5 (omega (arith, below)) h.7 (rests_keeps lines s h.4 each h.6 k))

  lost_keeps : (nodes line : ℕ) (from : Option ℕ) (s t : S) → IsLost does nodes line from s t → Holds s → Holds t
  lost_keeps nodes line from s t h k =
      let mid : Holds h.2 = walked_keeps line from h.0 (Some h.1) s h.2 h.3 k in
      ⊎_elim (λ a. repeats_keeps (SawTag line h.1 None) 100000 h.2 t tt a mid) (λ b. subst (λ (x : S). Holds x) (sym b.1) mid) h.4

  unended_by_keeps : (nodes : ℕ) (s : S) (command : Command) (t : S) → IsIn size command → IsUnended is_open does nodes s command t → Holds s → Holds t
  unended_by_keeps nodes s (Done node) t within h k = unended_keeps node 100000 s t (node_in node size.nodes within) h.1 k
  unended_by_keeps nodes s (Rest lines) t within h k = rests_not_keeps lines s t (let e = same_in lines size.lines within in omega (arith, e)) h k
  unended_by_keeps nodes s (End ends lines) t within h k =
      let of = end_in size ends lines within in
      ⊎_elim (λ a. rests_not_keeps lines s t (omega (arith, of.1)) a k)
      (λ b. ends_to_keeps ends lines s t (λ node mid. Unended does node 100000 mid t) (omega (arith, of.0)) (omega (arith, of.1)) (λ node mid below u held. unended_keeps node 100000 mid t below u held) b k) h
  unended_by_keeps nodes s (ListLine line) t within h k =
      ⊎_elim (λ a. repeats_keeps (SawMem line None) 100000 s t tt a k)
      (λ b. lost_keeps nodes line b.1.forw b.0 t b.3 (loads_keeps (SawMem line None) (SawMem line (Some b.1)) s b.0 tt tt b.2 k)) h
  unended_by_keeps nodes s (ShowTag line node) t within h k = repeats_keeps (SawTag line node None) 100000 s t tt h k
  unended_by_keeps nodes s command t within h k = absurd h

  wants_keeps : (s : S) (command : Command) (t : S) → IsIn size command → WantsMemory is_open does s command t → Holds s → Holds t
  wants_keeps s (Begin node line request) t within h k = subst (λ (x : S). Holds x) (sym h.1) k
  wants_keeps s (Turn node) t within h k = each s (Turned node h.1) t (node_in node size.nodes within) h.2 k
  wants_keeps s (Done node) t within h k = each h.3 (Turned node h.5) t (node_in node size.nodes within) h.7 (unended_keeps node h.1 s h.3 (node_in node size.nodes within) h.4 k)
  wants_keeps s (Rest lines) t within h k = absurd h
  wants_keeps s (End nodes lines) t within h k =
      let of = end_in size nodes lines within in
      ends_to_keeps nodes lines s t (λ node mid. (words last : List ℕ) × CallEnds does words node mid last t) (omega (arith, of.0)) (omega (arith, of.1)) (λ node mid below u held. ends_keeps u.0 node mid u.1 t below u.2 held) h k
  wants_keeps s (ListLine line) t within h k =
      walked_keeps line h.1.forw h.3.0 h.3.1 h.0 t h.3.2 (loads_keeps (SawMem line None) (SawMem line (Some h.1)) s h.0 tt tt h.2 k)
  wants_keeps s (ShowTag line node) t within h k = loads_keeps (SawTag line node None) (SawTag line node (Some h.0)) s t tt tt h.1 k
  wants_keeps s (Show ask) t within h k = subst (λ (x : S). Holds x) (sym h) k

  -- and every command that fails
  pub stops_keeps : (nodes : ℕ) (s : S) (step : Step) (e : ScriptRefusal) (t : S) → IsIn size step.command → StopsAt is_open does nodes s step e t → Holds s → Holds t
  stops_keeps nodes s step OutOfMemory t within h k = wants_keeps s step.command t within h k
  stops_keeps nodes s step (BadCommand n) t within h k = subst (λ (x : S). Holds x) (sym h.2) k
  stops_keeps nodes s step (NotDone n) t within h k = unended_by_keeps nodes s step.command t within h.1 k
  stops_keeps nodes s step e t within h k = absurd h
