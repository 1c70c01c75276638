-- The case of a pending step, read off its stage.
use Rattle.std.proofs.Common.{◌≡◌, ◌≢◌, ◌<◌, ◌∙◌, ◌⊎◌, inl, inr, ℕ, Bool, true, false, cond, Option, Some, None, is_some, is_none, not, List, refl, ap, sym, subst}
use Rattle.sci_words.specs.declared.tags.Tag.{Tag}
use Rattle.sci_core.specs.declared.lines.Line.{Line}
use Rattle.sci_core.specs.declared.pending.Pending.{Pending}
use Rattle.sci_core.specs.declared.stages.Stage.{Stage}
use Rattle.sci_core.specs.declared.events.Event.{Event}
use Rattle.sci_core.specs.Answers.{is_allowed, FitsEvent}
use Rattle.sci_core.specs.Shape.{line_of}
use Rattle.sci_core.specs.Step.{look_of}
use Rattle.sci_core.specs.Stage.{pending_of, stage_of}
use Rattle.sci_core.proofs.Laying.{whole_step}
use Rattle.sci_port.specs.declared.calls.Call.{Call}
use Rattle.sci_core.specs.PendingStep.{IsOwnWord}
use Rattle.sci_port.specs.Owes.{IsSoundStep}
use Rattle.sci_port.specs.Way.{Way}
use Rattle.sci_ops.specs.declared.goals.Goal.{Goal}
use Rattle.sci_ops.specs.declared.answers.Turn.{Turn}
use Rattle.sci_ops.specs.declared.answers.End.{End}
use Rattle.sci_ops.specs.Answers.{HasStamp, EndsWithStamp}
use Rattle.sci_ops.specs.Change.{StoresFitting}
use Rattle.sci_ops.specs.Plan.{exchange, Takes}
use Rattle.sci_ops.proofs.Carried.{first, node_below}
use Rattle.sci_ops.specs.Table.{turn_in, in_queue}

-- the step is that of its stage, with the line that it keeps
pub as_staged : (s : Stage) (p : Pending) → s ≡ stage_of p → p ≡ pending_of s (line_of p)
as_staged s p e = sym (whole_step p) ∙ ap (λ (t : Stage). pending_of t (line_of p)) (sym e)

-- a look at the own tag, in the step that it is
pub looked_in : (t : Tag) (p q r : Pending) → r ≡ look_of p t → p ≡ q → r ≡ look_of q t
looked_in t p q r e h = e ∙ ap (λ (x : Pending). look_of x t) h

-- what the step allows that it is
pub allowed_in : (way : Way) (event : Event) (p q : Pending) → p ≡ q → is_allowed way.nodes way.node q event ≡ true → is_allowed way.nodes way.node p event ≡ true
allowed_in way event p q e h = subst (λ (x : Pending). is_allowed way.nodes way.node x event ≡ true) (sym e) h

pub allowed_on : (v w : Way) (event : Event) (p q : Pending) → w ≡ v → q ≡ p → is_allowed v.nodes v.node p event ≡ true → is_allowed w.nodes w.node q event ≡ true
allowed_on v w event p q e f h = subst (λ (x : Way). is_allowed x.nodes x.node q event ≡ true) (sym e) (subst (λ (x : Pending). is_allowed v.nodes v.node x event ≡ true) (sym f) h)

pub fits_on : {K : Type 0} (fits : K → ℕ → List ℕ → Type 0) (j k : K) (v w : Way) (event : Event) → k ≡ j → w ≡ v → FitsEvent (fits j v.number) event → FitsEvent (fits k w.number) event
fits_on fits j k v w event e f h = subst (λ (x : Way). FitsEvent (fits k x.number) event) (sym f) (subst (λ x. FitsEvent (fits x v.number) event) (sym e) h)

-- of a step with this stage, what is said of each step with it
module _ (p : Pending) where
  pub allowed_at : (way : Way) (event : Event) (s : Stage) → s ≡ stage_of p → is_allowed way.nodes way.node (pending_of s (line_of p)) event ≡ true → is_allowed way.nodes way.node p event ≡ true
  allowed_at way event s e h = allowed_in way event p (pending_of s (line_of p)) (as_staged s p e) h

  pub turn_at : {S : Type 0} {gives : S → Call → S → Type 0} {a b : S} {turn : Turn} (goal : Goal) (me : ℕ) (s : Stage) → s ≡ stage_of p → Takes gives (turn_in goal me (pending_of s (line_of p))) a turn b → Takes gives (turn_in goal me p) a turn b
  turn_at {gives = gives} {a = a} {b = b} {turn = turn} goal me s e h = subst (λ (x : Pending). Takes gives (turn_in goal me x) a turn b) (sym (as_staged s p e)) h

  pub stamp_at : {turn : Turn} (s : Stage) → s ≡ stage_of p → HasStamp (pending_of s (line_of p)) → EndsWithStamp turn p
  stamp_at s e h = λ answer is. subst HasStamp (sym (as_staged s p e)) h

  -- the two steps that return memory's bytes
  pub returning : (s : Stage) → s ≡ stage_of p → ((f : Option ℕ) × (d : Bool) × (s ≡ Stage.Fetching f d)) ⊎ (s ≡ Stage.WritingBack) → (C : Pending → Type 0) → ((f : Option ℕ) (d : Bool) (l : Line) → C (Pending.Fetching f d l)) → ((l : Line) → C (Pending.WritingBack l)) → C p
  returning s e (inl (f, d, is)) C fetching writing = subst C (sym (as_staged (Stage.Fetching f d) p (sym is ∙ e))) (fetching f d (line_of p))
  returning s e (inr is) C fetching writing = subst C (sym (as_staged Stage.WritingBack p (sym is ∙ e))) (writing (line_of p))

has_line : (c : Bool) (l : Line) → is_some (cond c (Some l) None) ≡ c
has_line true l = refl
has_line false l = refl

-- the step has a copy where its stage has one
pub queued : (f : Option ℕ) (d c : Bool) (p : Pending) → Stage.InQueue f d c ≡ stage_of p → (copy : Option Line) × (p ≡ Pending.InQueue f d copy) × (is_some copy ≡ c)
queued f d c p e = (_, as_staged (Stage.InQueue f d c) p e, has_line c (line_of p))

pub turn_queued : {S : Type 0} {gives : S → Call → S → Type 0} {a b : S} {turn : Turn} (goal : Goal) (me : ℕ) (f : Option ℕ) (d c : Bool) (p : Pending) → Stage.InQueue f d c ≡ stage_of p → Takes gives (in_queue goal f d c) a turn b → Takes gives (turn_in goal me p) a turn b
turn_queued {gives = gives} {a = a} {b = b} {turn = turn} goal me f d c p e h =
    turn_at p goal me (Stage.InQueue f d c) e (subst (λ (x : Bool). Takes gives (in_queue goal f d x) a turn b) (sym (has_line c (line_of p))) h)

pub ended_with : {S : Type 0} {gives : S → Call → S → Type 0} {event : Event} {a b : S} {turn : Turn} {end last : End} → end ≡ last → Takes gives (exchange event end) a turn b → Takes gives (exchange event last) a turn b
ended_with {gives = gives} {event = event} {a = a} {b = b} {turn = turn} e h = subst (λ (x : End). Takes gives (exchange event x) a turn b) e h

-- what a sound step in the queue says
module _ (n : ℕ) (fits : List ℕ → Type 0) (p : Pending) (sound : IsSoundStep n fits p) (d : Bool) (copy : Option Line) where
  there : (c : Option Line) → c ≢ None → is_some c ≡ true
  there (Some l) h = refl
  there None h = absurd (h refl)

  pub has_settled : p ≡ Pending.InQueue None d copy → is_some copy ≡ true
  has_settled e = there copy ((subst (λ (x : Pending). IsOwnWord x sound.word) e sound.own).1 refl)

  pub entry_below : (x : ℕ) → p ≡ Pending.InQueue (Some x) d copy → x < n
  entry_below x e = node_below n sound.word.forw x (ap (λ (t : Tag). t.forw) (subst (λ (y : Pending). IsOwnWord y sound.word) e sound.own).0) (first _ _ sound.form.1)

lacks : (c : Option Line) → not (is_some c) ≡ is_none c
lacks (Some l) = refl
lacks None = refl

pub has_none : (c : Option Line) (has : Bool) → is_some c ≡ has → not has ≡ is_none c
has_none c has e = ap not (sym e) ∙ lacks c

pub stores_on : {K : Type 0} (fits : K → ℕ → List ℕ → Type 0) (j k : K) (v w : Way) (goal : Goal) → k ≡ j → w ≡ v → StoresFitting (fits j v.number) goal → StoresFitting (fits k w.number) goal
stores_on fits j k v w goal e f h = subst (λ (x : Way). StoresFitting (fits k x.number) goal) (sym f) (subst (λ x. StoresFitting (fits x v.number) goal) (sym e) h)
