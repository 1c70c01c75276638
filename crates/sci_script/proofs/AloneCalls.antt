-- A node's open call, at work where all else is at rest, of the lines that are looked at.
use Rattle.std.proofs.Common.{◌≡◌, ◌≢◌, ◌∙◌, ℕ, is_some, true, ◌+◌, ◌*◌, ◌<◌, ◌≤◌, [], ◌∷◌, Option, Some, None, refl, sym, ap, subst, ⊎_elim, arith}
use Rattle.std.proofs.lemmas.Bool.{cases_eq}
use Rattle.sci_core.specs.Progress.{IsAtRest}
use Rattle.sci_core.specs.State.{State}
use Rattle.sci_ops.specs.declared.answers.Turn.{Turn}
use Rattle.sci_ops.specs.declared.goals.Goal.{Goal}
use Rattle.sci_ops.specs.Alone.{TakesTurn}
use Rattle.sci_ops.specs.Table.{begun}
use Rattle.sci_ops.proofs.Ending.Counting.{updated}
use Rattle.sci_ops.proofs.Ending.Falls.{alone_at_rest, bound_at_rest, turn_falls}
use Rattle.sci_ops.proofs.Ending.Potential.{potential}
use Rattle.sci_ops.proofs.Ending.Premise.{Alone}
use Rattle.sci_cache.specs.declared.calls.OpenCall.{OpenCall}
use Rattle.sci_cache.specs.Nodes.{NodeState, node_after, call_after, line_by, goal_by, shown_by}
use Rattle.sci_script.specs.Shared.{Shared, HasNode}
use Rattle.sci_script.specs.Resting.{any, TakesLent, TakesLentOf}

-- a turn that is done is the last, one that moves leaves fewer, and none waits
abbrev FallsBy : ℕ → Goal → ℕ → State → Turn → State → Type 0
FallsBy n goal me s (Turn.Done last) t = (0 < potential n goal me s) × IsAtRest t
FallsBy n goal me s Turn.Moved t = Alone n goal me t × (potential n goal me t < potential n goal me s)
FallsBy n goal me s Turn.Waiting t = ⊥

falls : (n : ℕ) (me : ℕ) (goal : Goal) (s : State) (r : Turn) (t : State) → Alone n goal me s → TakesTurn n any me (begun goal) s r t → FallsBy n goal me s r t
falls n me goal s (Turn.Done a) t h k = turn_falls n any me (begun goal) s t (Turn.Done a) refl h k
falls n me goal s Turn.Moved t h k = turn_falls n any me (begun goal) s t Turn.Moved refl h k
falls n me goal s Turn.Waiting t h k = turn_falls n any me (begun goal) s t Turn.Waiting refl h k

-- what a call has behind its victim's eviction
abbrev pub behind : ℕ → Option ℕ → ℕ
behind n None = 0
behind n (Some victim) = 3 * n + 16

-- these lines are at rest
abbrev pub Rest : (ℕ → Type 0) → Shared → Type 0
Rest P s = (line : ℕ) → P line → IsAtRest (s.lines line)

-- the call is on these lines
abbrev pub IsOn : (ℕ → Type 0) → Option OpenCall → Type 0
IsOn P None = Unit {0}
IsOn P (Some c) = P c.line × P (line_by c.victim c.line)

-- the call works alone on the line at work, and all other lines are at rest
abbrev pub Stands : (ℕ → Type 0) → ℕ → Shared → Option OpenCall → Type 0
Stands P me s None = ⊥
Stands P me s (Some c) =
    ((line : ℕ) → P line → line ≢ line_by c.victim c.line → IsAtRest (s.lines line))
    × Alone s.width (goal_by c.victim c.goal) me (s.lines (line_by c.victim c.line))
    × P c.line

abbrev pub left : ℕ → Shared → Option OpenCall → ℕ
left me s None = 0
left me s (Some c) = potential s.width (goal_by c.victim c.goal) me (s.lines (line_by c.victim c.line)) + behind s.width c.victim

abbrev pub Comes : (ℕ → Type 0) → ℕ → Shared → Option OpenCall → Turn → Shared → Type 0
Comes P me s call (Turn.Done answer) t = (0 < left me s call) × Rest P t × ((t.nodes me).call ≡ None)
Comes P me s call Turn.Moved t = Stands P me t (t.nodes me).call × (left me t (t.nodes me).call < left me s call) × (t.width ≡ s.width)
Comes P me s call Turn.Waiting t = ⊥

less : (n : ℕ) (victim : Option ℕ) → behind n victim ≤ 3 * n + 16
less n None = omega arith
less n (Some victim) = omega arith

pub stands_open : (P : ℕ → Type 0) (me : ℕ) (s : Shared) (call : Option OpenCall) → Stands P me s call → is_some call ≡ true
stands_open P me s None h = absurd h
stands_open P me s (Some c) h = refl

pub all_on : (call : Option OpenCall) → IsOn (λ line. Unit {0}) call
all_on None = tt
all_on (Some c) = (tt, tt)

call_there : (me : ℕ) (s t : Shared) (c : OpenCall) (turn : Turn) → HasNode s me (node_after (s.nodes me) c turn) t → (t.nodes me).call ≡ call_after c c.victim turn
call_there me s t c turn h = ap (λ (n : NodeState). n.call) (h me ∙ updated s.nodes me (node_after (s.nodes me) c turn))

module _ (P : ℕ → Type 0) where
  pub open_stands : (me : ℕ) (s : Shared) (call : Option OpenCall) → is_some call ≡ true → IsOn P call → Rest P s → Stands P me s call
  open_stands me s None e on h = absurd (cc)
  open_stands me s (Some c) e on h =
      (λ line p d. h line p, alone_at_rest s.width (goal_by c.victim c.goal) me (s.lines (line_by c.victim c.line)) (h (line_by c.victim c.line) on.1), on.0)

  pub left_at_rest : (me : ℕ) (s : Shared) (call : Option OpenCall) → IsOn P call → Rest P s → left me s call ≤ 2 * (3 * s.width + 16)
  left_at_rest me s None on h = omega arith
  left_at_rest me s (Some c) on h =
      let here : potential s.width (goal_by c.victim c.goal) me (s.lines (line_by c.victim c.line)) ≤ 3 * s.width + 16 =
      bound_at_rest s.width (goal_by c.victim c.goal) me (s.lines (line_by c.victim c.line)) (h (line_by c.victim c.line) on.1) in
      let more : behind s.width c.victim ≤ 3 * s.width + 16 = less s.width c.victim in
      omega (arith, here, more)

  -- the rest of the lines, with the line at work
  all_rest : (s t : Shared) (work : ℕ) → ((line : ℕ) → line ≢ work → t.lines line ≡ s.lines line) → ((line : ℕ) → P line → line ≢ work → IsAtRest (s.lines line)) → IsAtRest (t.lines work) → Rest P t
  all_rest s t work same others here = λ line p. ⊎_elim
      (λ q. subst (λ (l : ℕ). IsAtRest (t.lines l)) (sym q) here)
      (λ d. subst (λ (x : State). IsAtRest x) (sym (same line d)) (others line p d))
      (cases_eq line work)

  -- the call goes on with what is left, on the line where it stands now
  going_on : (me : ℕ) (s t : Shared) (c : OpenCall) → t.width ≡ s.width → (t.nodes me).call ≡ Some c → ((line : ℕ) → P line → line ≢ line_by c.victim c.line → IsAtRest (t.lines line))
      → Alone s.width (goal_by c.victim c.goal) me (t.lines (line_by c.victim c.line)) → P c.line
      → (most : ℕ) → potential s.width (goal_by c.victim c.goal) me (t.lines (line_by c.victim c.line)) + behind s.width c.victim < most
      → Stands P me t (t.nodes me).call × (left me t (t.nodes me).call < most)
  going_on me s t c width call others here on most fewer =
      subst (λ (x : Option OpenCall). Stands P me t x × (left me t x < most)) (sym call)
      (subst (λ (n : ℕ). (((line : ℕ) → P line → line ≢ line_by c.victim c.line → IsAtRest (t.lines line)) × Alone n (goal_by c.victim c.goal) me (t.lines (line_by c.victim c.line)) × P c.line)
      × (potential n (goal_by c.victim c.goal) me (t.lines (line_by c.victim c.line)) + behind n c.victim < most)) (sym width) ((others, here, on), fewer))

  -- a turn of the call's own operation
  own_comes : (me : ℕ) (s t : Shared) (line : ℕ) (goal : Goal) (turn : Turn) → t.width ≡ s.width → ((l : ℕ) → l ≢ line → t.lines l ≡ s.lines l)
      → (t.nodes me).call ≡ call_after (record { line = line; goal = goal; victim = None }) None turn
      → Stands P me s (Some record { line = line; goal = goal; victim = None }) → FallsBy s.width goal me (s.lines line) turn (t.lines line)
      → Comes P me s (Some record { line = line; goal = goal; victim = None }) turn t
  own_comes me s t line goal (Turn.Done a) width same call h f = (omega (arith, f.0), all_rest s t line same h.0 f.1, call)
  own_comes me s t line goal Turn.Moved width same call h f =
      let on = going_on me s t record { line = line; goal = goal; victim = None } width call (λ l p d. subst (λ (x : State). IsAtRest x) (sym (same l d)) (h.0 l p d)) f.0 h.2
      (left me s (Some record { line = line; goal = goal; victim = None })) (omega (arith, f.1)) in
      (on.0, on.1, width)
  own_comes me s t line goal Turn.Waiting width same call h f = absurd f

  -- a turn of its victim's eviction
  victim_comes : (me : ℕ) (s t : Shared) (line victim : ℕ) (goal : Goal) (turn : Turn) → t.width ≡ s.width → ((l : ℕ) → l ≢ victim → t.lines l ≡ s.lines l)
      → (t.nodes me).call ≡ call_after (record { line = line; goal = goal; victim = Some victim }) (Some victim) turn
      → Stands P me s (Some record { line = line; goal = goal; victim = Some victim }) → FallsBy s.width Goal.Evict me (s.lines victim) turn (t.lines victim)
      → Comes P me s (Some record { line = line; goal = goal; victim = Some victim }) (shown_by (Some victim) turn) t
  victim_comes me s t line victim goal (Turn.Done a) width same call h f =
      let all : Rest P t = all_rest s t victim same h.0 f.1 in
      let some : 0 < potential s.width Goal.Evict me (s.lines victim) = f.0 in
      let rest : potential s.width goal me (t.lines line) ≤ 3 * s.width + 16 = bound_at_rest s.width goal me (t.lines line) (all line h.2) in
      let on = going_on me s t record { line = line; goal = goal; victim = None } width call (λ l p d. all l p) (alone_at_rest s.width goal me (t.lines line) (all line h.2)) h.2
      (left me s (Some record { line = line; goal = goal; victim = Some victim })) (omega (arith, some, rest)) in
      (on.0, on.1, width)
  victim_comes me s t line victim goal Turn.Moved width same call h f =
      let on = going_on me s t record { line = line; goal = goal; victim = Some victim } width call (λ l p d. subst (λ (x : State). IsAtRest x) (sym (same l d)) (h.0 l p d)) f.0 h.2
      (left me s (Some record { line = line; goal = goal; victim = Some victim })) (omega (arith, f.1)) in
      (on.0, on.1, width)
  victim_comes me s t line victim goal Turn.Waiting width same call h f = absurd f

  comes_by : (me : ℕ) (s t : Shared) (line : ℕ) (goal : Goal) (victim : Option ℕ) (shown : Turn) → Stands P me s (Some record { line = line; goal = goal; victim = victim })
      → TakesLent s me (record { line = line; goal = goal; victim = victim }) shown t → Comes P me s (Some record { line = line; goal = goal; victim = victim }) shown t
  comes_by me s t line goal None shown h k =
      subst (λ (r : Turn). Comes P me s (Some record { line = line; goal = goal; victim = None }) r t) (sym k.shows)
      (own_comes me s t line goal k.turn k.width k.others (call_there me s t (record { line = line; goal = goal; victim = None }) k.turn k.after) h
      (falls s.width me goal (s.lines line) k.turn (t.lines line) h.1 k.lent))
  comes_by me s t line goal (Some victim) shown h k =
      subst (λ (r : Turn). Comes P me s (Some record { line = line; goal = goal; victim = Some victim }) r t) (sym k.shows)
      (victim_comes me s t line victim goal k.turn k.width k.others (call_there me s t (record { line = line; goal = goal; victim = Some victim }) k.turn k.after) h
      (falls s.width me Goal.Evict (s.lines victim) k.turn (t.lines victim) h.1 k.lent))

  -- a turn of the node's call where all else is at rest
  pub comes : (me : ℕ) (s t : Shared) (call : Option OpenCall) (shown : Turn) → Stands P me s call → TakesLentOf s me call shown t → Comes P me s call shown t
  comes me s t None shown h k = absurd h
  comes me s t (Some c) shown h k = comes_by me s t c.line c.goal c.victim shown h k
