-- A plan is followed call by call.
use Rattle.std.proofs.Common.{◌≡◌, ◌∙◌, ℕ, Bool, true, false, Some, None, List, [], ◌∷◌, refl, sym, ap, subst, if◌then◌else◌}
use Rattle.sci_words.specs.declared.tags.Tag.{Tag}
use Rattle.sci_words.specs.declared.memory.Mem.{Mem}
use Rattle.sci_core.specs.declared.pending.Pending.{Pending}
use Rattle.sci_core.specs.declared.events.Event.{Event}
use Rattle.sci_core.specs.declared.outcomes.Outcome.{Outcome}
use Rattle.sci_port.specs.declared.calls.Call.{Call}
use Rattle.sci_port.specs.declared.calls.Call.TheVariants.{Own, MemWas, TagWas, Stepped}
use Rattle.sci_port.specs.Call.{Chain}
use Rattle.sci_ops.specs.declared.answers.Answer.{Answer}
use Rattle.sci_ops.specs.declared.answers.Turn.{Turn}
use Rattle.sci_ops.specs.declared.answers.End.{End}
use Rattle.sci_ops.specs.Answers.{GoesOn, EndsWithStamp}
use Rattle.sci_ops.specs.Table.{move}
use Rattle.sci_ops.specs.Plan.{Plan, own, mem, tag, exchange, ends, turn_after, Follows, Takes}

-- an exchange
pub took_step : {S : Type 0} {gives : S → Call → S → Type 0} {e : Event} {end : End} {s t : S} {r : Turn} (o : Outcome) → gives s (Stepped e o) t → r ≡ turn_after end o → Takes gives (exchange e end) s r t
took_step {e = e} {t = t} o h q = record { calls = Stepped e o ∷ []; chain = (t, h, refl); follows = (refl, q) }

-- a load, and then the plan that its word leads to
pub took_mem : {S : Type 0} {gives : S → Call → S → Type 0} {k : Mem → Plan} {q : Plan} {s mid t : S} {r : Turn} (m : Mem) → gives s (MemWas (Some m)) mid → k m ≡ q → Takes gives q mid r t → Takes gives (mem k) s r t
took_mem {k = k} {mid = mid} {r = r} m h e rest = record { calls = MemWas (Some m) ∷ rest.calls; chain = (mid, h, rest.chain); follows = subst (λ (p : Plan). Follows p rest.calls r) (sym e) rest.follows }

pub no_mem : {S : Type 0} {gives : S → Call → S → Type 0} {k : Mem → Plan} {s t : S} → gives s (MemWas None) t → Takes gives (mem k) s Turn.Waiting t
no_mem {t = t} h = record { calls = MemWas None ∷ []; chain = (t, h, refl); follows = refl }

pub took_own : {S : Type 0} {gives : S → Call → S → Type 0} {k : Tag → Plan} {q : Plan} {s mid t : S} {r : Turn} (m : Tag) → gives s (Own (Some m)) mid → k m ≡ q → Takes gives q mid r t → Takes gives (own k) s r t
took_own {k = k} {mid = mid} {r = r} m h e rest = record { calls = Own (Some m) ∷ rest.calls; chain = (mid, h, rest.chain); follows = subst (λ (p : Plan). Follows p rest.calls r) (sym e) rest.follows }

pub no_own : {S : Type 0} {gives : S → Call → S → Type 0} {k : Tag → Plan} {s t : S} → gives s (Own None) t → Takes gives (own k) s Turn.Waiting t
no_own {t = t} h = record { calls = Own None ∷ []; chain = (t, h, refl); follows = refl }

pub took_tag : {S : Type 0} {gives : S → Call → S → Type 0} {n : ℕ} {k : Tag → Plan} {q : Plan} {s mid t : S} {r : Turn} (m : Tag) → gives s (TagWas n (Some m)) mid → k m ≡ q → Takes gives q mid r t → Takes gives (tag n k) s r t
took_tag {n = n} {k = k} {mid = mid} {r = r} m h e rest = record { calls = TagWas n (Some m) ∷ rest.calls; chain = (mid, h, rest.chain); follows = (refl, subst (λ (p : Plan). Follows p rest.calls r) (sym e) rest.follows) }

pub no_tag : {S : Type 0} {gives : S → Call → S → Type 0} {n : ℕ} {k : Tag → Plan} {s t : S} → gives s (TagWas n None) t → Takes gives (tag n k) s Turn.Waiting t
no_tag {n = n} {t = t} h = record { calls = TagWas n None ∷ []; chain = (t, h, refl); follows = (refl, refl) }

-- no call
pub took_none : {S : Type 0} {gives : S → Call → S → Type 0} {r : Turn} {s : S} → Takes gives (ends r) s r s
took_none = record { calls = []; chain = refl; follows = refl }

-- the plan that a test leads to
pub if_so : (b : Bool) (x y : Plan) → b ≡ true → (if b then x else y) ≡ x
if_so b x y h = ap (λ (a : Bool). if a then x else y) h

pub if_not : (b : Bool) (x y : Plan) → b ≡ false → (if b then x else y) ≡ y
if_not b x y h = ap (λ (a : Bool). if a then x else y) h

-- what the code asked of the node that the port gave is so of the port's node
pub asked : (test : ℕ → Bool) (me node : ℕ) (is : Bool) → me ≡ node → is ≡ test me → test node ≡ is
asked test me node is e h = ap test (sym e) ∙ sym h

moved_done : (a : Answer) → Turn.Moved ≡ Turn.Done a → ⊥
moved_done a h = cc

waiting_done : (a : Answer) → Turn.Waiting ≡ Turn.Done a → ⊥
waiting_done a h = cc

goes_after : (event : Event) (calls : List Call) (turn : Turn) → Follows (move event) calls turn → GoesOn turn
goes_after event (Stepped e (Outcome.Done line) ∷ []) turn h a is = moved_done a (sym h.1 ∙ is)
goes_after event (Stepped e (Outcome.Missed word) ∷ []) turn h a is = waiting_done a (sym h.1 ∙ is)
goes_after event (Stepped e Outcome.Busy ∷ []) turn h a is = waiting_done a (sym h.1 ∙ is)
goes_after event _ turn h a is = absurd h

-- an exchange after which the operation goes on doesn't end it
pub goes_on : {S : Type 0} {gives : S → Call → S → Type 0} {event : Event} {s t : S} {turn : Turn} → Takes gives (move event) s turn t → GoesOn turn
goes_on {event = event} {turn = turn} h = goes_after event h.calls turn h.follows

pub wait_goes_on : GoesOn Turn.Waiting
wait_goes_on a h = waiting_done a h

-- the plan that a plan is
pub taken_as : {S : Type 0} {gives : S → Call → S → Type 0} {s t : S} {turn : Turn} {p q : Plan} → p ≡ q → Takes gives q s turn t → Takes gives p s turn t
taken_as {gives = gives} {s = s} {t = t} {turn = turn} e h = subst (λ (x : Plan). Takes gives x s turn t) (sym e) h

pub unended : {turn : Turn} (p : Pending) → GoesOn turn → EndsWithStamp turn p
unended p h = λ answer is. absurd (h answer is)

-- what no call changes, calls one after another don't change
chain_keeps : {S A : Type 0} {gives : S → Call → S → Type 0} (f : S → A) → ((s : S) (call : Call) (t : S) → gives s call t → f t ≡ f s) → (s t : S) (calls : List Call) → Chain gives s calls t → f t ≡ f s
chain_keeps f same s t [] h = ap f h
chain_keeps f same s t (c ∷ cs) (mid, h, rest) = chain_keeps f same mid t cs rest ∙ same s c mid h

-- and a turn doesn't
pub turn_keeps : {S A : Type 0} {gives : S → Call → S → Type 0} {plan : Plan} {s t : S} {turn : Turn} (f : S → A) → ((s : S) (call : Call) (t : S) → gives s call t → f t ≡ f s) → Takes gives plan s turn t → f t ≡ f s
turn_keeps {s = s} {t = t} f same h = chain_keeps f same s t h.calls h.chain
