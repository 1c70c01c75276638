-- `end` is never without an end, on a script's memory.
use Rattle.std.proofs.Common.{◌≡◌, ◌≢◌, ◌<◌, ◌≤◌, ◌+◌, ℕ, zero, suc, Bool, true, false, ◌&&◌, List, [], ◌∷◌, Option, Some, None, take, slice_get, refl, sym, ap, subst, ◌∙◌, ⊎_elim, arith}
use Rattle.std.proofs.lemmas.Bool.{cases_eq}
use Rattle.std.specs.List.{list_all}
use Rattle.sci_core.specs.Progress.{IsAtRest}
use Rattle.sci_core.specs.State.{State}
use Rattle.sci_ops.specs.declared.answers.Turn.{Turn}
use Rattle.sci_cache.specs.declared.calls.OpenCall.{OpenCall}
use Rattle.sci_cache.specs.Nodes.{IsSoundCall}
use Rattle.sci_script.specs.declared.commands.Command.{Command}
use Rattle.sci_script.specs.declared.commands.Command.TheVariants.{Done, Rest as RestLines, End}
use Rattle.sci_script.specs.declared.commands.Opening.{Opening}
use Rattle.sci_script.specs.declared.commands.Size.{Size}
use Rattle.sci_script.specs.declared.commands.Step.{Step}
use Rattle.sci_script.specs.declared.desk.Toward.{Toward}
use Rattle.sci_script.specs.declared.refusals.ScriptRefusal.TheVariants.{NotDone}
use Rattle.sci_script.specs.Event.{Turned, IsEnd, IsNoEnd}
use Rattle.sci_script.specs.Request.{no_words}
use Rattle.sci_script.specs.Run.{Unended, Calms, CalmsTo, RestsLines, RestsNot, CallEnds, EndsOpenBy, EndsOpen, EndsTo, IsNoRest, IsUnended, PrintsAll, StopsAt}
use Rattle.sci_script.specs.ScriptText.{Opens}
use Rattle.sci_script.specs.Shared.{Shared, shared_is_open, shared_does}
use Rattle.sci_script.specs.Size.{AreIn, IsIn, IsSize, is_in}
use Rattle.sci_script.proofs.AloneCalls.{IsOn, Rest, Stands, Comes, comes, left, left_at_rest, open_stands}
use Rattle.sci_script.proofs.Fitting.{both_true}
use Rattle.sci_script.proofs.Lasting.{all_keep, end_in, rests_keeps, unended_keeps}
use Rattle.sci_script.proofs.Sound.{IsSound, call_in, does_keeps, line_below, opens_sound, turn_lent}

-- ---- lines that were brought to rest are at rest

calms_others : (line n : ℕ) (s t : Shared) → Calms shared_does line n s t → (other : ℕ) → other ≢ line → t.lines other ≡ s.lines other
unfolding Calms
calms_others line zero s t h other d = ap (λ (x : Shared). x.lines other) h
calms_others line (suc n) s t h other d = h.3.others other d ∙ calms_others line n s h.0 h.2 other d

calmed_others : (line : ℕ) (s t : Shared) → CalmsTo shared_does line Toward.Reached s t → (other : ℕ) → other ≢ line → t.lines other ≡ s.lines other
calmed_others line s t h other d = ap (λ (x : Shared). x.lines other) h.3.1 ∙ calms_others line h.0 s h.1 h.2 other d

rested_lines : (m : ℕ) (s t : Shared) → RestsLines shared_does m s t → (line : ℕ) → line < m → IsAtRest (t.lines line)
unfolding RestsLines
rested_lines zero s t h line lt = absurd (omega (arith, lt))
rested_lines (suc m) s t h line lt =
    ⊎_elim
    (λ q. subst (λ (l : ℕ). IsAtRest (t.lines l)) (sym q) (subst (λ (x : Shared). IsAtRest (x.lines m)) (sym h.2.3.1) h.2.3.0))
    (λ d. subst (λ (x : State). IsAtRest x) (sym (calmed_others m h.0 t h.2 line d)) (rested_lines m s h.0 h.1 line (omega (arith, lt, d))))
    (cases_eq line m)

module _ (size : Size) where
  abbrev inside : ℕ → Type 0
  inside line = line < size.lines

  -- how a node's call stands there
  is_on : (call : Option OpenCall) → IsSoundCall size.lines call → IsOn inside call
  is_on None h = tt
  is_on (Some c) h = (h.0, line_below size.lines c.line c.victim h.0 h.1)

  -- what is left of a call behind turns that don't end it
  moved_on : (me : ℕ) (s t : Shared) (o : Turn) (k most : ℕ) → IsNoEnd o → Comes inside me s (s.nodes me).call o t → left me s (s.nodes me).call + k ≤ most → Stands inside me t (t.nodes me).call × (left me t (t.nodes me).call + suc k ≤ most)
  moved_on me s t Turn.Moved k most no-end c le = let fewer = c.1 in (c.0, omega (arith, fewer, le))
  moved_on me s t Turn.Waiting k most no-end c le = absurd c
  moved_on me s t (Turn.Done answer) k most no-end c le = absurd no-end

  still_left : (me n : ℕ) (s t : Shared) → me < size.nodes → IsSound size s → Stands inside me s (s.nodes me).call → Unended shared_does me n s t
      → Stands inside me t (t.nodes me).call × (left me t (t.nodes me).call + n ≤ left me s (s.nodes me).call)
  unfolding Unended
  still_left me zero s t below h k u = subst (λ (x : Shared). Stands inside me x (x.nodes me).call × (left me x (x.nodes me).call + 0 ≤ left me s (s.nodes me).call)) (sym u) (k, omega arith)
  still_left me (suc n) s t below h k u =
      let before = still_left me n s u.0 below h k u.2 in
      let sound : IsSound size u.0 = unended_keeps shared_is_open shared_does size (λ x. IsSound size x) (does_keeps size) me n s u.0 below u.2 h in
      moved_on me u.0 t u.1 n (left me s (s.nodes me).call) u.3 (comes inside me u.0 t (u.0.nodes me).call u.1 before.0 (turn_lent size u.0 t me u.1 below sound u.4)) before.1

  -- an open call, where all is at rest
  stands_there : (me : ℕ) (s : Shared) → me < size.nodes → IsSound size s → Rest inside s → shared_is_open s me ≡ true → Stands inside me s (s.nodes me).call
  stands_there me s below h rest is = open_stands inside me s (s.nodes me).call is (is_on (s.nodes me).call (call_in size s me (s.nodes me).call refl below h)) rest

  -- it doesn't go on for 100,000 turns
  no_more : (me : ℕ) (s t : Shared) → IsSize size → me < size.nodes → IsSound size s → Rest inside s → shared_is_open s me ≡ true → Unended shared_does me 100000 s t → ⊥
  no_more me s t few below h rest is u =
      let on = is_on (s.nodes me).call (call_in size s me (s.nodes me).call refl below h) in
      let after = (still_left me 100000 s t below h (stands_there me s below h rest is) u).1 in
      let most = left_at_rest inside me s (s.nodes me).call on rest in
      omega (arith, after, most, h.width, few.few_nodes)

  -- and behind its end all is at rest again
  over : (me : ℕ) (s t : Shared) (o : Turn) → IsEnd o → Comes inside me s (s.nodes me).call o t → Rest inside t
  over me s t (Turn.Done answer) end c = c.1
  over me s t Turn.Moved end c = absurd end
  over me s t Turn.Waiting end c = absurd end

  call_ended : (words : List ℕ) (me : ℕ) (s : Shared) (text : List ℕ) (t : Shared) → me < size.nodes → IsSound size s → Rest inside s → shared_is_open s me ≡ true → CallEnds shared_does words me s text t → IsSound size t × Rest inside t
  call_ended words me s text t below h rest is k =
      let sound : IsSound size k.2 = unended_keeps shared_is_open shared_does size (λ x. IsSound size x) (does_keeps size) me k.0 s k.2 below k.3 h in
      let stands = (still_left me k.0 s k.2 below h (stands_there me s below h rest is) k.3).0 in (
        does_keeps size k.2 (Turned me k.4) t below k.6 sound,
        over me k.2 t k.4 k.5 (comes inside me k.2 t (k.2.nodes me).call k.4 stands (turn_lent size k.2 t me k.4 below sound k.6)),
      )

  ended_by : (is : Bool) (words : List ℕ) (me : ℕ) (s : Shared) (text : List ℕ) (t : Shared) → shared_is_open s me ≡ is → me < size.nodes → IsSound size s → Rest inside s → EndsOpenBy is shared_does words me s text t → IsSound size t × Rest inside t
  ended_by true words me s text t e below h rest k = call_ended words me s text t below h rest e k
  ended_by false words me s text t e below h rest k = subst (λ (x : Shared). IsSound size x × Rest inside x) (sym k.1) (h, rest)

  ended_calls : (words : List ℕ) (m : ℕ) (s : Shared) (text : List ℕ) (t : Shared) → m ≤ size.nodes → IsSound size s → Rest inside s → EndsOpen shared_is_open shared_does words m s text t → IsSound size t × Rest inside t
  unfolding EndsOpen
  ended_calls words zero s text t le h rest k = subst (λ (x : Shared). IsSound size x × Rest inside x) (sym k.1) (h, rest)
  ended_calls words (suc m) s text t le h rest k =
      let before = ended_calls words m s k.1 k.0 (omega (arith, le)) h rest k.3 in
      ended_by (shared_is_open k.0 m) words m k.0 k.2 t refl (omega (arith, le)) before.0 before.1 k.4

  -- it is always known who moves
  rest_known : (m : ℕ) (s t : Shared) → RestsNot shared_does m s t → ⊥
  rest_known m s t h = h.4.3

  end_ends : (nodes lines : ℕ) (s t : Shared) → IsSize size → nodes ≡ size.nodes → lines ≡ size.lines → IsSound size s → EndsTo shared_is_open shared_does nodes lines s (λ node mid. Unended shared_does node 100000 mid t) → ⊥
  end_ends nodes lines s t few all each h k =
      let below : k.0 < size.nodes = omega (arith, k.1, all) in
      let sound : IsSound size k.4 = rests_keeps shared_is_open shared_does size (λ x. IsSound size x) (does_keeps size) lines s k.4 (omega (arith, each)) k.6 h in
      let at_rest : Rest inside k.4 = λ line lt. rested_lines lines s k.4 k.6 line (omega (arith, lt, each)) in
      let there = ended_calls k.2 k.0 k.4 k.3 k.5 (omega (arith, below)) sound at_rest k.7 in
      no_more k.0 k.5 t few below there.0 there.1 k.8 k.9

  -- such a command doesn't end for want of an end
  pub never : (nodes : ℕ) (s t : Shared) (command : Command) → IsSize size → IsIn size command → IsSound size s → IsUnended shared_is_open shared_does nodes s command t → IsNoRest command
  never nodes s t (RestLines lines) few within h k = rest_known lines s t k
  never nodes s t (End ends lines) few within h k =
      let of = end_in size ends lines within in
      ⊎_elim (λ a. rest_known lines s t a) (λ b. end_ends ends lines s t few of.0 of.1 h b) k
  never nodes s t _ few within h k = tt

first_true : (a b : Bool) → a && b ≡ true → a ≡ true
first_true true b h = refl
first_true false b h = h

second_true : (a b : Bool) → a && b ≡ true → b ≡ true
second_true true b h = h
second_true false b h = absurd (cc)

-- the commands in front of a place are of what there is, and so is the one there
pub front_in : (size : Size) (k : ℕ) (steps : List Step) → AreIn size steps → AreIn size (take k steps)
front_in size zero steps h = refl
front_in size (suc k) [] h = refl
front_in size (suc k) (step ∷ steps) h =
    both_true (is_in size step.command) (list_all (λ x. is_in size x.command) (take k steps)) (first_true (is_in size step.command) (list_all (λ x. is_in size x.command) steps) h)
    (front_in size k steps (second_true (is_in size step.command) (list_all (λ x. is_in size x.command) steps) h))

pub step_in : (size : Size) (steps : List Step) (i : ℕ) (x : Step) → AreIn size steps → slice_get steps i ≡ Some x → IsIn size x.command
step_in size [] i x h e = absurd (cc)
step_in size (step ∷ steps) zero x h e =
    let q : step ≡ x = cc in
    subst (λ (y : Step). IsIn size y.command) q (first_true (is_in size step.command) (list_all (λ y. is_in size y.command) steps) h)
step_in size (step ∷ steps) (suc i) x h e = step_in size steps i x (second_true (is_in size step.command) (list_all (λ y. is_in size y.command) steps) h) e

-- a command of a script that doesn't end is no `rest` and no `end`
pub never_behind : (size : Size) (capacity : ℕ) (openings : List Opening) (steps : List Step) (step : Step) (k n : ℕ) (text : List ℕ) (s mid t : Shared) → IsSize size → AreIn size steps → Opens size capacity openings s
    → PrintsAll shared_is_open shared_does no_words s (take k steps) text mid → slice_get steps k ≡ Some step → StopsAt shared_is_open shared_does size.nodes mid step (NotDone n) t → IsNoRest step.command
never_behind size capacity openings steps step k n text s mid t few within opened printed at stopped =
    let sound : IsSound size mid = all_keep shared_is_open shared_does size (λ x. IsSound size x) (does_keeps size) no_words s (take k steps) text mid
    (λ i x is. step_in size (take k steps) i x (front_in size k steps within) is) printed (opens_sound size capacity openings s opened) in
    never size size.nodes mid t step.command few (step_in size steps k step within at) sound stopped.1
