-- An operation that has ended leaves its node's pending step Idle.
use Rattle.std.proofs.Common.{◌≡◌, ℕ, true, false, Option, Some, None, List, [], ◌∷◌, refl, sym, ap, subst, ◌∙◌}
use Rattle.sci_words.specs.declared.tags.Kind.{Kind}
use Rattle.sci_words.specs.declared.tags.Tag.{Tag}
use Rattle.sci_core.specs.declared.lines.Line.{Line}
use Rattle.sci_core.specs.declared.pending.Pending.{Pending}
use Rattle.sci_core.specs.declared.events.Event.{Event}
use Rattle.sci_core.specs.declared.outcomes.Outcome.{Outcome}
use Rattle.sci_core.specs.Answers.{is_allowed}
use Rattle.sci_core.specs.Law.{can_be_held}
use Rattle.sci_core.specs.PendingStep.{IsOwnWord}
use Rattle.sci_core.specs.Step.{look_of}
use Rattle.sci_core.specs.Table.{row_of}
use Rattle.sci_port.specs.declared.calls.Call.{Call}
use Rattle.sci_port.specs.declared.calls.Call.TheVariants.{Own, Stepped}
use Rattle.sci_port.specs.Owes.{Owes}
use Rattle.sci_ops.specs.declared.answers.Answer.{Answer}
use Rattle.sci_ops.specs.declared.answers.Turn.{Turn}
use Rattle.sci_ops.specs.declared.goals.Goal.{Goal}
use Rattle.sci_ops.specs.Answers.{shows_line, makes_invalid, IsAnswer, ChainTo, AnswersAt}
use Rattle.sci_ops.specs.Change.{change}
use Rattle.sci_ops.specs.Operation.{Operation}
use Rattle.sci_cache.specs.Nodes.{EndsIdle}

no : {P : Type 0} → false ≡ true → P
no h = absurd (let e = h in cc)

-- a kind that isn't Invalid
other_kind : {P : Type 0} (t w : Tag) → t ≡ w → t.kind ≡ Kind.Invalid → (w.kind ≡ Kind.Invalid → ⊥) → P
other_kind t w is kind not = absurd (not (sym (ap (λ (x : Tag). x.kind) is) ∙ kind))

-- of a node whose own tag is Invalid the pending step is Idle
invalid_idle : (p : Pending) (t : Tag) → IsOwnWord p t → t.kind ≡ Kind.Invalid → look_of p t ≡ Pending.Idle
invalid_idle Pending.Idle t h k = refl
invalid_idle (Pending.Holding w l) t h k = no (sym (ap can_be_held (sym (ap (λ (x : Tag). x.kind) h.0) ∙ k)) ∙ h.1)
invalid_idle (Pending.Queueing f) t h k = other_kind t _ h k (λ e. cc)
invalid_idle (Pending.Fetching f d l) t h k = other_kind t _ h k (λ e. cc)
invalid_idle (Pending.InQueue f d c) t h k = other_kind t _ h.0 k (λ e. cc)
invalid_idle (Pending.Copying x w l) t h k = other_kind t _ h k (λ e. cc)
invalid_idle (Pending.Ready f d l) t h k = other_kind t _ h k (λ e. cc)
invalid_idle (Pending.Converting f turned) t h k = other_kind t _ h k (λ e. cc)
invalid_idle (Pending.Purging l seen) t h k = other_kind t _ h k (λ e. cc)
invalid_idle (Pending.Advancing l x w) t h k = other_kind t _ h k (λ e. cc)
invalid_idle (Pending.Clearing l x w) t h k = other_kind t _ h k (λ e. cc)
invalid_idle (Pending.Leaving d l seen) t h k = other_kind t _ h k (λ e. cc)
invalid_idle (Pending.Promoted d l x) t h k = other_kind t _ h k (λ e. cc)
invalid_idle (Pending.WritingBack l) t h k = other_kind t _ h k (λ e. cc)
invalid_idle (Pending.Parted f) t h k = other_kind t _ h k (λ e. cc)
invalid_idle (Pending.Rolling told seen) t h k = other_kind t _ h k (λ e. cc)
invalid_idle (Pending.Unlinked f b) t h k = other_kind t _ h k (λ e. cc)

module _ (n me : ℕ) where
  settled : (p : Pending) (y : Line) → is_allowed n me p Event.Settle ≡ true → (row_of me p Event.Settle).after y ≡ Pending.Idle
  settled (Pending.InQueue None d (Some l)) y h = refl
  settled (Pending.InQueue None d None) y h = no h
  settled (Pending.InQueue (Some x) d c) y h = no h
  settled (Pending.Ready f d l) y h = refl
  settled p y h = no h

  unheld : (p : Pending) (y : Line) → is_allowed n me p Event.Unhold ≡ true → (row_of me p Event.Unhold).after y ≡ Pending.Idle
  unheld (Pending.Holding w l) y h = refl
  unheld p y h = no h

  left : (p : Pending) (y : Line) → is_allowed n me p Event.Left ≡ true → (row_of me p Event.Left).after y ≡ Pending.Idle
  left (Pending.Parted f) y h = refl
  left p y h = no h

  rolled : (p : Pending) (y : Line) → is_allowed n me p Event.Rolled ≡ true → (row_of me p Event.Rolled).after y ≡ Pending.Idle
  rolled (Pending.Unlinked f b) y h = refl
  rolled p y h = no h

  shown : (fits : List ℕ → Type 0) (p : Pending) (e : Event) (answer : Option Line) (q : Pending) → shows_line e ≡ true → Owes n fits me p (Stepped e (Outcome.Done answer)) q → q ≡ Pending.Idle
  shown fits p Event.Settle answer q s o = o.1.after ∙ settled p o.1.taken o.0
  shown fits p Event.Unhold answer q s o = o.1.after ∙ unheld p o.1.taken o.0
  shown fits p _ answer q s o = no s

  out : (fits : List ℕ → Type 0) (p : Pending) (e : Event) (answer : Option Line) (q : Pending) → makes_invalid e ≡ true → Owes n fits me p (Stepped e (Outcome.Done answer)) q → q ≡ Pending.Idle
  out fits p Event.Left answer q s o = o.1.after ∙ left p o.1.taken o.0
  out fits p Event.Rolled answer q s o = o.1.after ∙ rolled p o.1.taken o.0
  out fits p _ answer q s o = no s

  written : (fits : List ℕ → Type 0) (p : Pending) (l : Line) (words : Option (List ℕ)) (e : Event) (answer : Option Line) (q : Pending) → p ≡ Pending.Purging l (Some None) → e ≡ Event.Written words → Owes n fits me p (Stepped e (Outcome.Done answer)) q → q ≡ Pending.Idle
  written fits p l words e answer q is event o =
      let done = subst (λ (x : Event). Owes n fits me p (Stepped x (Outcome.Done answer)) q) event o in
      (subst (λ (x : Pending). Owes n fits me x (Stepped (Event.Written words) (Outcome.Done answer)) q) is done).1.after

  -- the call that gave an answer left the pending step Idle
  answer_idle : (fits : List ℕ → Type 0) (goal : Goal) (a : Answer) (p : Pending) (c : Call) (q : Pending) → IsAnswer goal a p c → Owes n fits me p c q → q ≡ Pending.Idle
  answer_idle fits Goal.Load (Answer.Seen words stamp) p (Stepped e (Outcome.Done answer)) q h o = shown fits p e answer q h.0 o
  answer_idle fits (Goal.Write write) (Answer.Wrote before stamp) p (Stepped e (Outcome.Done answer)) q h o = written fits p h.line (Some (change write h.line.words)) e answer q h.purging h.event o
  answer_idle fits (Goal.Write write) Answer.Spent p (Stepped e (Outcome.Done answer)) q h o = written fits p h.line None e answer q h.purging h.event o
  answer_idle fits Goal.Evict Answer.Out p (Stepped e (Outcome.Done answer)) q h o = out fits p e answer q h o
  answer_idle fits Goal.Evict Answer.Out p (Own (Some tag)) q h o = o.0 ∙ invalid_idle p tag o.1.0 h
  answer_idle fits _ _ p c q h o = absurd h

module _ {U : Type 0} (gives : U → Call → U → Type 0) (step : U → Pending) (nodes me : U → ℕ) (fits : U → List ℕ → Type 0)
    (owes : (u : U) (c : Call) (v : U) → gives u c v → Owes (nodes u) (fits u) (me u) (step u) c (step v)) where
  chain_idle : (goal : Goal) (a : Answer) (calls : List Call) (u v : U) → ChainTo gives (λ s c. IsAnswer goal a (step s) c) u calls v → step v ≡ Pending.Idle
  chain_idle goal a [] u v h = absurd h
  chain_idle goal a (c ∷ []) u v h = answer_idle (nodes u) (me u) (fits u) goal a (step u) c (step v) h.1 (owes u c v h.0)
  chain_idle goal a (c ∷ d ∷ cs) u v (mid, h, rest) = chain_idle goal a (d ∷ cs) mid v rest

  pub ends_idle : (op : Operation) (node : ℕ) (u : U) (turn : Turn) (v : U) → AnswersAt gives step op node u turn v → op.answer ≡ None → EndsIdle turn (step v)
  ends_idle op node u (Turn.Done a) v h open_ = let b = h open_ in chain_idle op.goal a b.calls u v b.chain
  ends_idle op node u Turn.Moved v h open_ = tt
  ends_idle op node u Turn.Waiting v h open_ = tt
