-- What a plan that was followed on a lent line says.
use Rattle.std.proofs.Common.{◌≡◌, ℕ, Bool, true, false, Option, Some, None, Ok, List, [], ◌∷◌, sym, ◌∙◌, ap, subst}
use Rattle.std.specs.Prelude.{if◌then◌else◌}
use Rattle.sci_words.specs.declared.tags.Tag.{Tag}
use Rattle.sci_words.specs.declared.memory.Mem.{Mem}
use Rattle.sci_core.specs.declared.lines.Line.{Line}
use Rattle.sci_core.specs.declared.pending.Pending.{Pending}
use Rattle.sci_core.specs.declared.events.Event.{Event}
use Rattle.sci_core.specs.declared.outcomes.Outcome.{Outcome}
use Rattle.sci_core.specs.State.{State}
use Rattle.sci_core.specs.Answers.{Answers, IsDone, Makes, row_at}
use Rattle.sci_core.specs.PendingStep.{IsOwnWord}
use Rattle.sci_core.specs.Row.{exchange_with}
use Rattle.sci_core.specs.Run.{KeepsLawful}
use Rattle.sci_core.specs.Step.{Finds, is_look, looked, stepped, taken_line}
use Rattle.sci_core.specs.Table.{has_row, row_of}
use Rattle.sci_port.specs.declared.calls.Call.{Call}
use Rattle.sci_port.specs.declared.calls.Call.TheVariants.{Own, MemWas, TagWas, Stepped}
use Rattle.sci_port.specs.Call.{Chain}
use Rattle.sci_core.specs.WellFormed.{IsTag}
use Rattle.sci_port.specs.Solo.{Does}
use Rattle.sci_ops.specs.declared.answers.Turn.{Turn}
use Rattle.sci_ops.specs.declared.answers.End.{End}
use Rattle.sci_ops.specs.Plan.{Plan, own, mem, tag, exchange, ends, ended, turn_after, Follows, Takes}
use Rattle.sci_ops.specs.Alone.{on_line}

-- the row was made of the pending step p, and the turn is what the exchange ends with
pub record MadeRow (n me : ℕ) (p : Pending) (e : Event) (end : End) (s : State) (r : Turn) (t : State) : Type 0 where
  pub taken : Line
  pub allowed : has_row n me p e ≡ true
  pub turn : r ≡ ended end ((row_of me p e).answer taken)
  pub next : t ≡ stepped s me (exchange_with taken (row_of me p e))

same_some : {A : Type 0} (a b : A) → ◌≡◌ {A = Option A} (Some a) (Some b) → a ≡ b
same_some a b h = cc

no_some : {A : Type 0} (a : A) → ◌≡◌ {A = Option A} None (Some a) → ⊥
no_some a h = cc

-- done but for a look is made
pub as_made : (n : ℕ) (s : State) (me : ℕ) (e : Event) (answer : Option Line) (t : State) → is_look e ≡ false → IsDone n s me e answer t → Makes n s me e answer t
as_made n s me Event.Look answer t h d = cc
as_made n s me _ answer t h d = d

-- a plan that was chosen by a test that is known
pub chosen : {S : Type 0} {gives : S → Call → S → Type 0} {s t : S} {r : Turn} (b : Bool) (x y : Plan) → b ≡ true → Takes gives (if b then x else y) s r t → Takes gives x s r t
chosen true x y e h = h
chosen false x y e h = absurd (cc)

pub passed_over : {S : Type 0} {gives : S → Call → S → Type 0} {s t : S} {r : Turn} (b : Bool) (x y : Plan) → b ≡ false → Takes gives (if b then x else y) s r t → Takes gives y s r t
passed_over true x y e h = absurd (cc)
passed_over false x y e h = h

module _ (n : ℕ) (fits : List ℕ → Type 0) (me : ℕ) where
  -- the own tag was seen, and recorded
  pub record LookedOn (next : Tag → Plan) (s : State) (r : Turn) (t : State) : Type 0 where
    pub form : IsTag n (s.tags me)
    pub lawful : KeepsLawful n fits s me Event.Look (Ok (Outcome.Done None)) (looked s me)
    pub rest : Takes (on_line n fits me) (next (s.tags me)) (looked s me) r t

  along_own : (next : Tag → Plan) (s : State) (r : Turn) (t : State) (cs : List Call) → Chain (on_line n fits me) s cs t → Follows (own next) cs r → LookedOn next s r t
  along_own next s r t (Own (Some m) ∷ cs) h f =
      let e : m ≡ s.tags me = same_some m (s.tags me) h.1.0.0 in
      let to : h.0 ≡ looked s me = h.1.0.1.0.1 in
      record {
        form = subst (λ (x : Tag). IsTag n x) e h.1.1.1.1;
        lawful = subst (λ (v : State). KeepsLawful n fits s me Event.Look (Ok (Outcome.Done None)) v) to h.1.0.1.1;
        rest = record { calls = cs; chain = subst (λ (v : State). Chain (on_line n fits me) v cs t) to h.2; follows = subst (λ (x : Tag). Follows (next x) cs r) e f };
      }
  along_own next s r t (Own None ∷ []) h f = absurd (no_some (s.tags me) h.1.0.0)
  along_own next s r t _ h f = absurd f

  pub of_own : {next : Tag → Plan} {s : State} {r : Turn} {t : State} → Takes (on_line n fits me) (own next) s r t → LookedOn next s r t
  of_own {next} {s} {r} {t} h = along_own next s r t h.calls h.chain h.follows

  along_mem : (next : Mem → Plan) (s : State) (r : Turn) (t : State) (cs : List Call) → Chain (on_line n fits me) s cs t → Follows (mem next) cs r → Takes (on_line n fits me) (next s.memory) s r t
  along_mem next s r t (MemWas (Some m) ∷ cs) h f =
      let e : m ≡ s.memory = same_some m s.memory h.1.0.0 in
      record { calls = cs; chain = subst (λ (v : State). Chain (on_line n fits me) v cs t) h.1.0.1 h.2; follows = subst (λ (x : Mem). Follows (next x) cs r) e f }
  along_mem next s r t (MemWas None ∷ []) h f = absurd (no_some s.memory h.1.0.0)
  along_mem next s r t _ h f = absurd f

  pub of_mem : {next : Mem → Plan} {s : State} {r : Turn} {t : State} → Takes (on_line n fits me) (mem next) s r t → Takes (on_line n fits me) (next s.memory) s r t
  of_mem {next} {s} {r} {t} h = along_mem next s r t h.calls h.chain h.follows

  along_tag : (x : ℕ) (next : Tag → Plan) (s : State) (r : Turn) (t : State) (cs : List Call) → Chain (on_line n fits me) s cs t → Follows (tag x next) cs r → Takes (on_line n fits me) (next (s.tags x)) s r t
  along_tag x next s r t (TagWas y (Some m) ∷ cs) h f =
      let e : m ≡ s.tags x = same_some m (s.tags y) h.1.0.0 ∙ ap s.tags f.0 in
      record { calls = cs; chain = subst (λ (v : State). Chain (on_line n fits me) v cs t) h.1.0.1 h.2; follows = subst (λ (z : Tag). Follows (next z) cs r) e f.1 }
  along_tag x next s r t (TagWas y None ∷ []) h f = absurd (no_some (s.tags y) h.1.0.0)
  along_tag x next s r t _ h f = absurd f

  pub of_tag : {x : ℕ} {next : Tag → Plan} {s : State} {r : Turn} {t : State} → Takes (on_line n fits me) (tag x next) s r t → Takes (on_line n fits me) (next (s.tags x)) s r t
  of_tag {x} {next} {s} {r} {t} h = along_tag x next s r t h.calls h.chain h.follows

  along_end : (turn : Turn) (s : State) (r : Turn) (t : State) (cs : List Call) → Chain (on_line n fits me) s cs t → Follows (ends turn) cs r → (r ≡ turn) × (t ≡ s)
  along_end turn s r t [] h f = (f, h)
  along_end turn s r t (c ∷ cs) h f = absurd f

  pub of_end : {turn : Turn} {s : State} {r : Turn} {t : State} → Takes (on_line n fits me) (ends turn) s r t → (r ≡ turn) × (t ≡ s)
  of_end {turn} {s} {r} {t} h = along_end turn s r t h.calls h.chain h.follows

  -- an exchange was tried
  pub record Tried (e : Event) (end : End) (s : State) (r : Turn) (t : State) : Type 0 where
    pub outcome : Outcome
    pub does : Does n fits s me e outcome t
    pub turn : r ≡ turn_after end outcome

  along_exchange : (e : Event) (end : End) (s : State) (r : Turn) (t : State) (cs : List Call) → Chain (on_line n fits me) s cs t → Follows (exchange e end) cs r → Tried e end s r t
  along_exchange e end s r t (Stepped f o ∷ []) h g =
      let to : Does n fits s me f o t = subst (λ (v : State). Does n fits s me f o v) (sym h.2) h.1.0 in
      record { outcome = o; does = subst (λ (x : Event). Does n fits s me x o t) g.0 to; turn = g.1 }
  along_exchange e end s r t _ h g = absurd g

  pub of_exchange : {e : Event} {end : End} {s : State} {r : Turn} {t : State} → Takes (on_line n fits me) (exchange e end) s r t → Tried e end s r t
  of_exchange {e} {end} {s} {r} {t} h = along_exchange e end s r t h.calls h.chain h.follows

  tried_as : (e : Event) (end : End) (s : State) (r : Turn) (t : State) (o : Outcome) → is_look e ≡ false → Finds s (row_at s me e).change → r ≡ turn_after end o → Answers n s me e (Ok o) t → MadeRow n me (s.steps me) e end s r t
  tried_as e end s r t (Outcome.Done answer) look found turn d =
      let m : Makes n s me e answer t = as_made n s me e answer t look d in
      record { taken = taken_line s (row_at s me e).carry; allowed = m.allowed; turn = turn ∙ ap (ended end) m.answers; next = m.next }
  tried_as e end s r t (Outcome.Missed code) look found turn d = absurd (d.other found)
  tried_as e end s r t Outcome.Busy look found turn d = absurd d

  -- where the word before is found, the row is made
  pub made : {e : Event} {end : End} {s : State} {r : Turn} {t : State} (p : Pending) → s.steps me ≡ p → is_look e ≡ false → Finds s (row_of me p e).change → Tried e end s r t → MadeRow n me p e end s r t
  made {e} {end} {s} {r} {t} p is look found h =
      let found' : Finds s (row_of me (s.steps me) e).change = subst (λ (q : Pending). Finds s (row_of me q e).change) (sym is) found in
      subst (λ (q : Pending). MadeRow n me q e end s r t) is (tried_as e end s r t h.outcome look found' h.turn h.does.0)

  -- and what the step says of the own tag is known
  pub own_of : {e : Event} {end : End} {s : State} {r : Turn} {t : State} (p : Pending) → s.steps me ≡ p → Tried e end s r t → IsOwnWord p (s.tags me)
  own_of {s = s} p is h = subst (λ (q : Pending). IsOwnWord q (s.tags me)) is (h.does.1.before.lawful.steps.own_word me)
