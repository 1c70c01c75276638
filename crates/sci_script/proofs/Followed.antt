-- A plan that is followed over a port to a line that is lent, as the line sees it.
use Rattle.std.proofs.Common.{◌≡◌, ◌∙◌, ℕ, List, [], ◌∷◌, Option, Some, None, Ok, refl, sym, ap, subst}
use Rattle.sci_words.specs.declared.tags.Tag.{Tag}
use Rattle.sci_words.specs.declared.memory.Mem.{Mem}
use Rattle.sci_core.specs.declared.events.Event.{Event}
use Rattle.sci_core.specs.Answers.{Answers}
use Rattle.sci_core.specs.State.{State}
use Rattle.sci_core.specs.Step.{looked}
use Rattle.sci_core.specs.Whole.{WholeLine, nodes_of, state_of}
use Rattle.sci_port.specs.declared.calls.Call.{Call}
use Rattle.sci_port.specs.declared.calls.Call.TheVariants.{Own, MemWas, TagWas, Stepped}
use Rattle.sci_port.specs.Call.{Chain}
use Rattle.sci_port.specs.Solo.{Gives}
use Rattle.sci_ops.specs.declared.answers.Turn.{Turn}
use Rattle.sci_ops.specs.Operation.{Operation}
use Rattle.sci_ops.specs.Table.{turn_of}
use Rattle.sci_ops.specs.Plan.{Plan, own, mem, tag, exchange, ends, Follows, Takes}
use Rattle.sci_port.specs.declared.watching.Passed.{Passed}
use Rattle.sci_script.specs.Turns.{Made, TurnsOn}
use Rattle.sci_port.specs.Watching.{passed_by}
use Rattle.sci_script.specs.Passed.{Passes, PassesOn}

abbrev inside : {A : Type 0} → A → Option A → A
inside d (Some a) = a
inside d None = d

some_is : {A : Type 0} (a b : A) → Some a ≡ Some b → a ≡ b
some_is {A} a b e = ap (λ (o : Option A). inside a o) e

module _ {S K : Type 0} (gives : S → Call → S → Type 0) (whole : S → WholeLine K) (node : S → ℕ) (fits : S → List ℕ → Type 0)
    (each : (s : S) (c : Call) (t : S) → gives s c t → (nodes_of (whole t) ≡ nodes_of (whole s)) × (node t ≡ node s) × Gives (nodes_of (whole s)) (fits s) (state_of (whole s)) (node s) c (state_of (whole t))) where
  abbrev nodes : S → ℕ
  nodes s = nodes_of (whole s)

  abbrev state : S → State
  state s = state_of (whole s)

  -- a call, by the numbers that the way began with
  given : (n me : ℕ) (s : S) (c : Call) (t : S) → nodes s ≡ n → node s ≡ me → gives s c t → Gives n (fits s) (state s) me c (state t)
  given n me s c t en em h =
      subst (λ (m : ℕ). Gives m (fits s) (state s) me c (state t)) en
      (subst (λ (m : ℕ). Gives (nodes s) (fits s) (state s) m c (state t)) em (each s c t h).2)

  followed : (n me : ℕ) (plan : Plan) (calls : List Call) (s : S) (turn : Turn) (t : S) → nodes s ≡ n → node s ≡ me → Chain gives s calls t → Follows plan calls turn → Made n me (state s) plan turn (state t)
  followed n me (own next) (Own (Some x) ∷ calls) s turn t en em (mid, h, rest) f =
      let way = each s (Own (Some x)) mid h in
      let g : Gives n (fits s) (state s) me (Own (Some x)) (state mid) = given n me s (Own (Some x)) mid en em h in
      let behind = followed n me (next x) calls mid turn t (way.0 ∙ en) (way.1 ∙ em) rest f in
      subst (λ (y : Tag). Made n me (looked (state s) me) (next y) turn (state t)) (some_is x ((state s).tags me) g.0)
      (subst (λ (u : State). Made n me u (next x) turn (state t)) g.1.0.1 behind)
  followed n me (own next) (Own None ∷ []) s turn t en em (mid, h, rest) f =
      let g : Gives n (fits s) (state s) me (Own None) (state mid) = given n me s (Own None) mid en em h in
      absurd (let e = g.0 in cc)
  followed n me (mem next) (MemWas (Some x) ∷ calls) s turn t en em (mid, h, rest) f =
      let way = each s (MemWas (Some x)) mid h in
      let g : Gives n (fits s) (state s) me (MemWas (Some x)) (state mid) = given n me s (MemWas (Some x)) mid en em h in
      let behind = followed n me (next x) calls mid turn t (way.0 ∙ en) (way.1 ∙ em) rest f in
      subst (λ (y : Mem). Made n me (state s) (next y) turn (state t)) (some_is x (state s).memory g.0)
      (subst (λ (u : State). Made n me u (next x) turn (state t)) g.1 behind)
  followed n me (mem next) (MemWas None ∷ []) s turn t en em (mid, h, rest) f =
      let g : Gives n (fits s) (state s) me (MemWas None) (state mid) = given n me s (MemWas None) mid en em h in
      absurd (let e = g.0 in cc)
  followed n me (tag x next) (TagWas y (Some w) ∷ calls) s turn t en em (mid, h, rest) f =
      let way = each s (TagWas y (Some w)) mid h in
      let g : Gives n (fits s) (state s) me (TagWas y (Some w)) (state mid) = given n me s (TagWas y (Some w)) mid en em h in
      let behind = followed n me (next w) calls mid turn t (way.0 ∙ en) (way.1 ∙ em) rest f.1 in
      let is : w ≡ (state s).tags x = some_is w ((state s).tags y) g.0 ∙ ap (λ (z : ℕ). (state s).tags z) f.0 in
      subst (λ (v : Tag). Made n me (state s) (next v) turn (state t)) is
      (subst (λ (u : State). Made n me u (next w) turn (state t)) g.1 behind)
  followed n me (tag x next) (TagWas y None ∷ []) s turn t en em (mid, h, rest) f =
      let g : Gives n (fits s) (state s) me (TagWas y None) (state mid) = given n me s (TagWas y None) mid en em h in
      absurd (let e = g.0 in cc)
  followed n me (exchange event end) (Stepped e outcome ∷ []) s turn t en em (mid, h, rest) f =
      let g : Gives n (fits s) (state s) me (Stepped e outcome) (state mid) = given n me s (Stepped e outcome) mid en em h in
      let there : Answers n (state s) me event (Ok outcome) (state mid) = subst (λ (x : Event). Answers n (state s) me x (Ok outcome) (state mid)) f.0 g.0 in
      (outcome, subst (λ (u : S). Answers n (state s) me event (Ok outcome) (state u)) (sym rest) there, f.1)
  followed n me (ends last) [] s turn t en em rest f = (f, ap state rest)
  followed n me _ _ s turn t en em rest f = absurd f

  pub turned_by : (op : Operation) (s : S) (turn : Turn) (t : S) (w : WholeLine K) (v : State) (me : ℕ) → whole s ≡ w → node s ≡ me → state t ≡ v
      → Takes gives (turn_of op (node s) ((state s).steps (node s))) s turn t → TurnsOn (nodes_of w) me op (state_of w) turn v
  turned_by op s turn t w v me from is to takes =
      let base : TurnsOn (nodes s) (node s) op (state s) turn (state t) = followed (nodes s) (node s) (turn_of op (node s) ((state s).steps (node s))) takes.calls s turn t refl refl takes.chain takes.follows in
      subst (λ (u : State). TurnsOn (nodes_of w) me op (state_of w) turn u) to
      (subst (λ (i : ℕ). TurnsOn (nodes_of w) i op (state_of w) turn (state t)) is
      (subst (λ (x : WholeLine K). TurnsOn (nodes_of x) (node s) op (state_of x) turn (state t)) from base))

  -- what is kept of the calls
  module _ (seen : S → Passed) (line : ℕ) (kept : (s : S) (c : Call) (t : S) → gives s c t → seen t ≡ passed_by (seen s) line c) where
    passing : (s : S) (c : Call) (t : S) (p : Passed) → seen s ≡ p → gives s c t → seen t ≡ passed_by p line c
    passing s c t p ep h = subst (λ (q : Passed). seen t ≡ passed_by q line c) ep (kept s c t h)

    passed : (n me : ℕ) (plan : Plan) (calls : List Call) (s : S) (turn : Turn) (t : S) (p : Passed) → nodes s ≡ n → node s ≡ me → seen s ≡ p → Chain gives s calls t → Follows plan calls turn
        → Passes n me line (state s) plan (state t) p (seen t)
    passed n me (own next) (Own (Some x) ∷ calls) s turn t p en em ep (mid, h, rest) f =
        let way = each s (Own (Some x)) mid h in
        let g : Gives n (fits s) (state s) me (Own (Some x)) (state mid) = given n me s (Own (Some x)) mid en em h in
        let now = passed_by p line (Own (Some x)) in
        let behind = passed n me (next x) calls mid turn t now (way.0 ∙ en) (way.1 ∙ em) (passing s (Own (Some x)) mid p ep h) rest f in
        subst (λ (y : Tag). Passes n me line (looked (state s) me) (next y) (state t) (passed_by p line (Own (Some y))) (seen t)) (some_is x ((state s).tags me) g.0)
        (subst (λ (u : State). Passes n me line u (next x) (state t) (passed_by p line (Own (Some x))) (seen t)) g.1.0.1 behind)
    passed n me (own next) (Own None ∷ []) s turn t p en em ep (mid, h, rest) f =
        let g : Gives n (fits s) (state s) me (Own None) (state mid) = given n me s (Own None) mid en em h in
        absurd (let e = g.0 in cc)
    passed n me (mem next) (MemWas (Some x) ∷ calls) s turn t p en em ep (mid, h, rest) f =
        let way = each s (MemWas (Some x)) mid h in
        let g : Gives n (fits s) (state s) me (MemWas (Some x)) (state mid) = given n me s (MemWas (Some x)) mid en em h in
        let now = passed_by p line (MemWas (Some x)) in
        let behind = passed n me (next x) calls mid turn t now (way.0 ∙ en) (way.1 ∙ em) (passing s (MemWas (Some x)) mid p ep h) rest f in
        subst (λ (y : Mem). Passes n me line (state s) (next y) (state t) (passed_by p line (MemWas (Some y))) (seen t)) (some_is x (state s).memory g.0)
        (subst (λ (u : State). Passes n me line u (next x) (state t) (passed_by p line (MemWas (Some x))) (seen t)) g.1 behind)
    passed n me (mem next) (MemWas None ∷ []) s turn t p en em ep (mid, h, rest) f =
        let g : Gives n (fits s) (state s) me (MemWas None) (state mid) = given n me s (MemWas None) mid en em h in
        absurd (let e = g.0 in cc)
    passed n me (tag x next) (TagWas y (Some w) ∷ calls) s turn t p en em ep (mid, h, rest) f =
        let way = each s (TagWas y (Some w)) mid h in
        let g : Gives n (fits s) (state s) me (TagWas y (Some w)) (state mid) = given n me s (TagWas y (Some w)) mid en em h in
        let now = passed_by p line (TagWas y (Some w)) in
        let behind = passed n me (next w) calls mid turn t now (way.0 ∙ en) (way.1 ∙ em) (passing s (TagWas y (Some w)) mid p ep h) rest f.1 in
        let is : w ≡ (state s).tags x = some_is w ((state s).tags y) g.0 ∙ ap (λ (z : ℕ). (state s).tags z) f.0 in
        subst (λ (z : ℕ). Passes n me line (state s) (next ((state s).tags x)) (state t) (passed_by p line (TagWas z (Some ((state s).tags x)))) (seen t)) f.0
        (subst (λ (v : Tag). Passes n me line (state s) (next v) (state t) (passed_by p line (TagWas y (Some v))) (seen t)) is
        (subst (λ (u : State). Passes n me line u (next w) (state t) (passed_by p line (TagWas y (Some w))) (seen t)) g.1 behind))
    passed n me (tag x next) (TagWas y None ∷ []) s turn t p en em ep (mid, h, rest) f =
        let g : Gives n (fits s) (state s) me (TagWas y None) (state mid) = given n me s (TagWas y None) mid en em h in
        absurd (let e = g.0 in cc)
    passed n me (exchange event end) (Stepped e outcome ∷ []) s turn t p en em ep (mid, h, rest) f =
        let g : Gives n (fits s) (state s) me (Stepped e outcome) (state mid) = given n me s (Stepped e outcome) mid en em h in
        let there : Answers n (state s) me event (Ok outcome) (state mid) = subst (λ (x : Event). Answers n (state s) me x (Ok outcome) (state mid)) f.0 g.0 in
        let now : seen mid ≡ passed_by p line (Stepped event outcome) = subst (λ (x : Event). seen mid ≡ passed_by p line (Stepped x outcome)) f.0 (passing s (Stepped e outcome) mid p ep h) in
        (outcome, subst (λ (u : S). Answers n (state s) me event (Ok outcome) (state u)) (sym rest) there, ap seen rest ∙ now)
    passed n me (ends last) [] s turn t p en em ep rest f = ap seen rest ∙ ep
    passed n me _ _ s turn t p en em ep rest f = absurd f

    pub passed_in : (op : Operation) (s : S) (turn : Turn) (t : S) (w : WholeLine K) (v : State) (me : ℕ) → whole s ≡ w → node s ≡ me → state t ≡ v
        → Takes gives (turn_of op (node s) ((state s).steps (node s))) s turn t → PassesOn (nodes_of w) me line op (state_of w) v (seen s) (seen t)
    passed_in op s turn t w v me from is to takes =
        let base : PassesOn (nodes s) (node s) line op (state s) (state t) (seen s) (seen t) =
        passed (nodes s) (node s) (turn_of op (node s) ((state s).steps (node s))) takes.calls s turn t (seen s) refl refl refl takes.chain takes.follows in
        subst (λ (u : State). PassesOn (nodes_of w) me line op (state_of w) u (seen s) (seen t)) to
        (subst (λ (i : ℕ). PassesOn (nodes_of w) i line op (state_of w) (state t) (seen s) (seen t)) is
        (subst (λ (x : WholeLine K). PassesOn (nodes_of x) (node s) line op (state_of x) (state t) (seen s) (seen t)) from base))
