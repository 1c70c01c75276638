-- The bytes in the slots after an exchange: those that the state after it shows.
use Rattle.std.proofs.Common.{◌≡◌, ◌≢◌, ℕ, true, false, Bool, cond, ◌||◌, Option, Some, None, [], refl, sym, subst, ap, ◌∙◌, ⊎_elim, arith}
use Rattle.std.proofs.lemmas.Bool.Decides.{eqb_tells}
use mathlib.Core.Path.{fun_ext}
use Rattle.sci_core.specs.declared.lines.Line.{Line}
use Rattle.sci_core.specs.declared.pending.Pending.{Pending}
use Rattle.sci_core.specs.declared.stages.Stage.{Stage}
use Rattle.sci_core.specs.declared.rows.Place.{Place}
use Rattle.sci_core.specs.declared.outlines.Motion.{Motion}
use Rattle.sci_core.specs.declared.outlines.Outline.{Outline}
use Rattle.sci_core.specs.State.{State, update}
use Rattle.sci_core.specs.Shape.{Phase, shape, phase_of}
use Rattle.sci_core.specs.Law.{Law, Witness, has_slot}
use Rattle.sci_core.specs.Carrying.{hand_of, GivesLast, hand_after}
use Rattle.sci_core.specs.Laid.{slot_of, memory_slot_of}
use Rattle.sci_core.specs.Stage.{pending_of, carry_with, filled}
use Rattle.sci_core.specs.Step.{stepped, slots_after, memory_slot_after}
use Rattle.sci_core.proofs.Answered.{update_same}
use Rattle.sci_core.proofs.Filling.{hand_has_slot, memory_last, node_last}

-- functions after a write at i, read at j
pub updated : {A : Type 0} (f : ℕ → A) (i j : ℕ) (x : A) (P : A → Type 0) → (j ≡ i → P x) → (j ≢ i → P (f j)) → P (update f i x j)
updated f i j x P at off =
    ⊎_elim
    (λ e. subst (λ (b : Bool). P (cond b x (f j))) (sym e.0) (at e.1))
    (λ e. subst (λ (b : Bool). P (cond b x (f j))) (sym e.0) (off e.1))
    (eqb_tells j i)

pub updated_both : {A B : Type 0} (f : ℕ → A) (g : ℕ → B) (i j : ℕ) (x : A) (y : B) (P : A → B → Type 0) → (j ≡ i → P x y) → (j ≢ i → P (f j) (g j)) → P (update f i x j) (update g i y j)
updated_both f g i j x y P at off =
    ⊎_elim
    (λ e. subst (λ (b : Bool). P (cond b x (f j)) (cond b y (g j))) (sym e.0) (at e.1))
    (λ e. subst (λ (b : Bool). P (cond b x (f j)) (cond b y (g j))) (sym e.0) (off e.1))
    (eqb_tells j i)

-- the state shows these bytes: each step keeps its node's, and each slot that is at home has them
pub record Shows (s : State) (stages : ℕ → Stage) (lines : ℕ → Line) (bytes : Line) : Type 0 where
  pub steps : (j : ℕ) → s.steps j ≡ pending_of (stages j) (lines j)
  pub slots : (j : ℕ) (l : Line) → s.slots j ≡ Some l → lines j ≡ l
  pub memory : (l : Line) → s.memory_slot ≡ Some l → bytes ≡ l

home_or_out : (a h : Bool) (o : Option Line) (l : Line) → (a ≡ true → o ≡ None) → (h ≡ true → o ≡ None) → (a ≡ false → h ≡ false → o ≢ None) → ((k : Line) → o ≡ Some k → l ≡ k) → o ≡ cond (a || h) None (Some l)
home_or_out true h o l out held home is = out refl
home_or_out false true o l out held home is = held refl
home_or_out false false None l out held home is = absurd (home refl refl refl)
home_or_out false false (Some k) l out held home is = ap (λ (x : Line). Some x) (sym (is k refl))

memory_home_or_out : (a : Bool) (o : Option Line) (l : Line) → (a ≡ true → o ≡ None) → (a ≡ false → o ≢ None) → ((k : Line) → o ≡ Some k → l ≡ k) → o ≡ cond a None (Some l)
memory_home_or_out true o l out home is = out refl
memory_home_or_out false None l out home is = absurd (home refl refl)
memory_home_or_out false (Some k) l out home is = ap (λ (x : Line). Some x) (sym (is k refl))

module _ (s : State) (g : Witness) (o : Law (shape s) g) (stages : ℕ → Stage) (lines : ℕ → Line) (bytes : Line) (shows : Shows s stages lines bytes) where
  slot_shown : (j : ℕ) → s.slots j ≡ slot_of (s.tags j) (stages j) (lines j)
  slot_shown j =
      home_or_out (has_slot (phase_of (s.steps j))) (s.tags j).held (s.slots j) (lines j) (o.slots.in_hand j) (o.slots.held_out j) (o.slots.at_home j) (shows.slots j)
      ∙ ap (λ (p : Pending). cond (has_slot (phase_of p) || (s.tags j).held) None (Some (lines j))) (shows.steps j)

  -- it is the state that is put together of them
  pub shown_state : s ≡ record { memory = s.memory; tags = s.tags; steps = λ j. pending_of (stages j) (lines j); memory_slot = memory_slot_of s.memory bytes; slots = λ j. slot_of (s.tags j) (stages j) (lines j) }
  shown_state =
      let steps : ◌≡◌ {A = ℕ → Pending} s.steps (λ j. pending_of (stages j) (lines j)) = fun_ext shows.steps in
      let slots : ◌≡◌ {A = ℕ → Option Line} s.slots (λ j. slot_of (s.tags j) (stages j) (lines j)) = fun_ext slot_shown in
      let memory = memory_home_or_out s.memory.lent s.memory_slot bytes o.slots.memory_out o.slots.memory_home shows.memory in
      λ k. record { memory = s.memory; tags = s.tags; steps = steps k; memory_slot = memory k; slots = slots k }

-- the nodes' bytes and memory's after an exchange, from the actor's after it
abbrev pub lines_moved : (ℕ → Line) → ℕ → Motion → Line → ℕ → Line
lines_moved f me (Motion.Gives (Place.Node x)) own = update (update f me own) x own
lines_moved f me _ own = update f me own

abbrev pub bytes_moved : Line → Motion → Line → Line
bytes_moved m (Motion.Gives Place.Memory) own = own
bytes_moved m _ own = m

-- a step that is Idle keeps no line
idle_keeps_none : (s : Stage) (l k : Line) → phase_of (pending_of s l) ≡ Phase.Idle → pending_of s l ≡ pending_of s k
idle_keeps_none Stage.Idle l k h = refl
idle_keeps_none _ l k h = absurd (grind (arith, h))

-- a slot that is not the one just taken
not_taken : (f : ℕ → Option Line) (x j : ℕ) (l : Line) → update f x None j ≡ Some l → f j ≡ Some l
not_taken f x j l = updated f x j None (λ (v : Option Line). v ≡ Some l → f j ≡ Some l) (λ e h. absurd (cc)) (λ n h. h)

pub same_some : (v w : Line) → ◌≡◌ {A = Option Line} (Some v) (Some w) → v ≡ w
same_some v w e = cc

not_here : (f : ℕ → Option Line) (me j : ℕ) (l : Line) → f me ≡ None → f j ≡ Some l → j ≡ me → ⊥
not_here f me j l none some e =
    let n : f j ≡ None = ap f e ∙ none in
    cc

module _ (s : State) (stages : ℕ → Stage) (lines : ℕ → Line) (bytes : Line) (shows : Shows s stages lines bytes) (me : ℕ) (after : Stage) (own : Line) where
  -- what is needed of the hands and of the own bytes, by what the exchange does with a slot
  abbrev pub Handled : Motion → Type 0
  Handled Motion.Stays = own ≡ lines me
  Handled (Motion.Takes x) = has_slot (phase_of (pending_of after own)) ≡ true
  Handled (Motion.Gives Place.Memory) = has_slot (phase_of (pending_of after own)) ≡ true
  Handled (Motion.Gives (Place.Node x)) = x ≢ me → (has_slot (phase_of (pending_of after own)) ≡ true) × (phase_of (s.steps x) ≡ Phase.Idle)

  steps_kept : (j : ℕ) → update s.steps me (pending_of after own) j ≡ pending_of (update stages me after j) (update lines me own j)
  steps_kept j =
      ⊎_elim
      (λ e. subst (λ (b : Bool). cond b (pending_of after own) (s.steps j) ≡ pending_of (cond b after (stages j)) (cond b own (lines j))) (sym e.0) refl)
      (λ e. subst (λ (b : Bool). cond b (pending_of after own) (s.steps j) ≡ pending_of (cond b after (stages j)) (cond b own (lines j))) (sym e.0) (shows.steps j))
      (eqb_tells j me)

  idle_step : (x j : ℕ) → j ≡ x → phase_of (s.steps x) ≡ Phase.Idle → s.steps j ≡ pending_of (stages j) own
  idle_step x j e h =
      let i : phase_of (s.steps j) ≡ Phase.Idle = ap (λ (k : ℕ). phase_of (s.steps k)) e ∙ h in
      shows.steps j ∙ idle_keeps_none (stages j) (lines j) own (ap phase_of (sym (shows.steps j)) ∙ i)

  steps_moved : (m : Motion) → Handled m → (j : ℕ) → update s.steps me (pending_of after own) j ≡ pending_of (update stages me after j) (lines_moved lines me m own j)
  steps_moved (Motion.Gives (Place.Node x)) h j =
      updated (update lines me own) x j own (λ (l : Line). update s.steps me (pending_of after own) j ≡ pending_of (update stages me after j) l)
      (λ e.
      updated_both s.steps stages me j (pending_of after own) after (λ (p : Pending) (q : Stage). p ≡ pending_of q own)
      (λ i. refl)
      (λ n. idle_step x j e (h (λ (i : x ≡ me). n (e ∙ i))).1))
      (λ n. steps_kept j)
  steps_moved Motion.Stays h j = steps_kept j
  steps_moved (Motion.Takes x) h j = steps_kept j
  steps_moved (Motion.Gives Place.Memory) h j = steps_kept j

  memory_moved : (m : Motion) (l : Line) → memory_slot_after s.memory_slot (carry_with m own) ≡ Some l → bytes_moved bytes m own ≡ l
  memory_moved Motion.Stays l h = shows.memory l h
  memory_moved (Motion.Takes Place.Memory) l h = absurd (cc)
  memory_moved (Motion.Takes (Place.Node x)) l h = shows.memory l h
  memory_moved (Motion.Gives Place.Memory) l h = same_some own l h
  memory_moved (Motion.Gives (Place.Node x)) l h = shows.memory l h

  slots_moved : (m : Motion) → Handled m → (has_slot (phase_of (pending_of after own)) ≡ true → slots_after s.slots (carry_with m own) me ≡ None)
      → (j : ℕ) (l : Line) → slots_after s.slots (carry_with m own) j ≡ Some l → lines_moved lines me m own j ≡ l
  slots_moved Motion.Stays h none j l e = updated lines me j own (λ (v : Line). v ≡ l) (λ i. h ∙ ap lines (sym i) ∙ shows.slots j l e) (λ n. shows.slots j l e)
  slots_moved (Motion.Takes Place.Memory) h none j l e = updated lines me j own (λ (v : Line). v ≡ l) (λ i. absurd (not_here s.slots me j l (none h) e i)) (λ n. shows.slots j l e)
  slots_moved (Motion.Takes (Place.Node x)) h none j l e =
      updated lines me j own (λ (v : Line). v ≡ l) (λ i. absurd (not_here (update s.slots x None) me j l (none h) e i)) (λ n. shows.slots j l (not_taken s.slots x j l e))
  slots_moved (Motion.Gives Place.Memory) h none j l e = updated lines me j own (λ (v : Line). v ≡ l) (λ i. absurd (not_here s.slots me j l (none h) e i)) (λ n. shows.slots j l e)
  slots_moved (Motion.Gives (Place.Node x)) h none j l e =
      updated_both s.slots (update lines me own) x j (Some own) own (λ (o : Option Line) (v : Line). o ≡ Some l → v ≡ l)
      (λ i k. same_some own l k)
      (λ n k.
      updated lines me j own (λ (v : Line). v ≡ l)
      (λ i. absurd (not_here (update s.slots x (Some own)) me j l (none (h (λ (a : x ≡ me). n (i ∙ sym a))).0) e i))
      (λ m. shows.slots j l k))
      e

  -- the state after the exchange shows the bytes after it
  pub shown_after : (g : Witness) (o : Outline) → o.after ≡ after → Law (shape (stepped s me (filled o own))) g → Handled o.motion
      → Shows (stepped s me (filled o own)) (update stages me after) (lines_moved lines me o.motion own) (bytes_moved bytes o.motion own)
  shown_after g o same law h =
      let at : phase_of ((stepped s me (filled o own)).steps me) ≡ phase_of (pending_of after own) =
      ap phase_of (update_same s.steps me (pending_of o.after own)) ∙ ap (λ (a : Stage). phase_of (pending_of a own)) same in
      record {
        steps = λ j. ap (λ (a : Stage). update s.steps me (pending_of a own) j) same ∙ steps_moved o.motion h j;
        slots = slots_moved o.motion h (λ k. law.slots.in_hand me (ap has_slot at ∙ k));
        memory = memory_moved o.motion;
      }

  -- by the hand before and after
  pub handled : (g : Witness) → Law (shape s) g → (m : Motion) → (m ≡ Motion.Stays → own ≡ lines me) → GivesLast (carry_with m own) (hand_of me (s.steps me))
      → hand_of me (pending_of after own) ≡ hand_after (carry_with m own) (hand_of me (s.steps me)) → Handled m
  handled g o Motion.Stays same gives hand = same refl
  handled g o (Motion.Takes x) same gives hand = hand_has_slot me (pending_of after own) x (hand_of me (s.steps me)) hand
  handled g o (Motion.Gives Place.Memory) same gives hand = hand_has_slot me (pending_of after own) (Place.Node me) [] (hand ∙ memory_last me (s.steps me) gives)
  handled g o (Motion.Gives (Place.Node x)) same gives hand = λ n.
      ⊎_elim
      (λ e. absurd (n (sym e)))
      (λ c. (hand_has_slot me (pending_of after own) (Place.Node me) [] (hand ∙ c.2), o.slots.copied_idle me x c.0 c.1))
      (node_last me (s.steps me) x gives)
