-- A turn over the port to one line of a bank, as the bank sees it.
use Rattle.std.proofs.Common.{◌≡◌, ℕ, Option, Some, None, List, [], ◌∷◌, ◌++◌, refl, ap, subst, ◌∙◌}
use Rattle.sci_core.specs.declared.pending.Pending.{Pending}
use Rattle.sci_core.specs.declared.lines.Line.{Line}
use Rattle.sci_core.specs.declared.events.Event.{Event}
use Rattle.sci_core.specs.declared.outcomes.Outcome.{Outcome}
use Rattle.sci_port.specs.declared.calls.Call.{Call}
use Rattle.sci_port.specs.declared.calls.Call.TheVariants.{Own, MemWas, TagWas, Stepped}
use Rattle.sci_port.specs.Call.{Chain}
use Rattle.sci_port.specs.KeepsAll.{Extends, RoomyChain, writes_in}
use Rattle.sci_port.specs.Owes.{AnswerFits, Owes}
use Rattle.sci_port.specs.ReceiptList.{HasRoomFor, ReceiptList}
use Rattle.sci_ops.specs.declared.answers.Answer.{Answer}
use Rattle.sci_ops.specs.declared.answers.Turn.{Turn}
use Rattle.sci_ops.specs.declared.goals.Goal.{Goal}
use Rattle.sci_ops.specs.Answers.{IsAnswer, ChainTo, AnswersAt}
use Rattle.sci_ops.specs.Kept.{KeepsAnswer}
use Rattle.sci_ops.specs.Operation.{Operation}
use Rattle.sci_ops.specs.Plan.{Takes}
use Rattle.sci_ops.specs.Room.{IsProvided, KeepsTurn, adds}
use Rattle.sci_ops.specs.Table.{after_turn, turn_of}
use Rattle.sci_cache.specs.Nodes.{IsAnswerTo, ShowsAnswerTo}

-- what no call on the line changes, no chain of them does
pub chain_keeps : {U X : Type 0} (gives : U → ℕ → Call → U → Type 0) (line : ℕ) (f : U → X) → ((u : U) (c : Call) (v : U) → gives u line c v → f v ≡ f u)
    → (calls : List Call) (u v : U) → Chain (λ a c b. gives a line c b) u calls v → f v ≡ f u
chain_keeps gives line f each [] u v h = ap f h
chain_keeps gives line f each (c ∷ cs) u v (mid, h, rest) = chain_keeps gives line f each cs mid v rest ∙ each u c mid h

module _ {S U : Type 0} (over : S → Call → S → Type 0) (gives : U → ℕ → Call → U → Type 0) (bank : S → U) (line : S → ℕ)
    (each : (s : S) (c : Call) (t : S) → over s c t → (line t ≡ line s) × gives (bank s) (line s) c (bank t))
    (me : U → ℕ) (step : U → ℕ → Pending) where
  chain_through : (l : ℕ) (calls : List Call) (s t : S) → line s ≡ l → Chain over s calls t → Chain (λ a c b. gives a l c b) (bank s) calls (bank t)
  chain_through l [] s t e h = ap bank h
  chain_through l (c ∷ cs) s t e (mid, h, rest) =
      let w = each s c mid h in
      (bank mid, subst (λ (k : ℕ). gives (bank s) k c (bank mid)) e w.1, chain_through l cs mid t (w.0 ∙ e) rest)

  chain_to_through : (goal : Goal) (a : Answer) (l : ℕ) (calls : List Call) (s t : S) → line s ≡ l → ChainTo over (λ u c. IsAnswer goal a (step (bank u) (line u)) c) s calls t
      → ChainTo (λ u c v. gives u l c v) (λ u c. IsAnswer goal a (step u l) c) (bank s) calls (bank t)
  chain_to_through goal a l [] s t e h = h
  chain_to_through goal a l (c ∷ []) s t e h =
      (subst (λ (k : ℕ). gives (bank s) k c (bank t)) e (each s c t h.0).1, subst (λ (k : ℕ). IsAnswer goal a (step (bank s) k) c) e h.1)
  chain_to_through goal a l (c ∷ d ∷ cs) s t e (mid, h, rest) =
      let w = each s c mid h in
      (bank mid, subst (λ (k : ℕ). gives (bank s) k c (bank mid)) e w.1, chain_to_through goal a l (d ∷ cs) mid t (w.0 ∙ e) rest)

  answers_through : (op : Operation) (s : S) (turn : Turn) (t : S) → AnswersAt over (λ x. step (bank x) (line x)) op (me (bank s)) s turn t
      → AnswersAt (λ a c b. gives a (line s) c b) (λ x. step x (line s)) op (me (bank s)) (bank s) turn (bank t)
  answers_through op s (Turn.Done a) t h = λ n. let b = h n in record { calls = b.calls; chain = chain_to_through op.goal a (line s) b.calls s t refl b.chain; follows = b.follows }
  answers_through op s Turn.Moved t h = tt
  answers_through op s Turn.Waiting t h = tt

  module _ (op : Operation) (turn : Turn) (l : ℕ) (s t : S) (u v : U) (on : line s ≡ l) (from : bank s ≡ u) (to : bank t ≡ v) where
    pub turn_through : Takes over (turn_of op (me (bank s)) (step (bank s) (line s))) s turn t → Takes (λ a c b. gives a l c b) (turn_of op (me u) (step u l)) u turn v
    turn_through h =
        let base : Takes (λ a c b. gives a (line s) c b) (turn_of op (me (bank s)) (step (bank s) (line s))) (bank s) turn (bank t) = record { calls = h.calls; chain = chain_through (line s) h.calls s t refl h.chain; follows = h.follows } in
        subst (λ (k : ℕ). Takes (λ a c b. gives a k c b) (turn_of op (me u) (step u k)) u turn v) on
        (subst (λ (w : U). Takes (λ a c b. gives a (line s) c b) (turn_of op (me w) (step w (line s))) w turn v) from
        (subst (λ (w : U). Takes (λ a c b. gives a (line s) c b) (turn_of op (me (bank s)) (step (bank s) (line s))) (bank s) turn w) to base))

    pub answer_through : AnswersAt over (λ x. step (bank x) (line x)) op (me (bank s)) s turn t → AnswersAt (λ a c b. gives a l c b) (λ x. step x l) op (me u) u turn v
    answer_through h =
        subst (λ (k : ℕ). AnswersAt (λ a c b. gives a k c b) (λ x. step x k) op (me u) u turn v) on
        (subst (λ (w : U). AnswersAt (λ a c b. gives a (line s) c b) (λ x. step x (line s)) op (me w) w turn v) from
        (subst (λ (w : U). AnswersAt (λ a c b. gives a (line s) c b) (λ x. step x (line s)) op (me (bank s)) (bank s) turn w) to (answers_through op s turn t h)))

-- the line that a call answers fits
abbrev pub CallFits : (List ℕ → Type 0) → Call → Type 0
CallFits fits (Stepped e outcome) = AnswerFits fits outcome
CallFits fits call = Unit {0}

pub owes_fit : (n : ℕ) (fits : List ℕ → Type 0) (me : ℕ) (p : Pending) (c : Call) (q : Pending) → Owes n fits me p c q → CallFits fits c
owes_fit n fits me p (Own answer) q h = tt
owes_fit n fits me p (MemWas answer) q h = tt
owes_fit n fits me p (TagWas node answer) q h = tt
owes_fit n fits me p (Stepped e outcome) q h = h.2

seen_fits : (fits : List ℕ → Type 0) (words : List ℕ) (stamp : ℕ) (e : Event) (o : Option Line) → o ≡ Some record { words = words; stamp = stamp } → AnswerFits fits (Outcome.Done o) → fits words
seen_fits fits words stamp e (Some line) is h = subst (λ (x : Option Line). AnswerFits fits (Outcome.Done x)) is h
seen_fits fits words stamp e None is h = absurd (let e = is in cc)

-- an answer that a call gave is one to the goal
answers_goal : (fits : List ℕ → Type 0) (goal : Goal) (a : Answer) (p : Pending) (c : Call) → IsAnswer goal a p c → CallFits fits c → IsAnswerTo fits goal a
answers_goal fits Goal.Load (Answer.Seen words stamp) p (Stepped e (Outcome.Done answer)) h f = seen_fits fits words stamp e answer h.1 f
answers_goal fits (Goal.Write write) (Answer.Wrote before stamp) p c h f = tt
answers_goal fits (Goal.Write write) Answer.Spent p c h f = tt
answers_goal fits Goal.Evict Answer.Out p c h f = tt
answers_goal fits _ _ p c h f = absurd h

module _ {U X : Type 0} (gives : U → Call → U → Type 0) (step : U → Pending) (keep : U → X) (fits : X → List ℕ → Type 0)
    (same : (u : U) (c : Call) (v : U) → gives u c v → keep v ≡ keep u) (each : (u : U) (c : Call) (v : U) → gives u c v → CallFits (fits (keep u)) c) where
  chain_answers : (goal : Goal) (a : Answer) (calls : List Call) (u v : U) → ChainTo gives (λ s c. IsAnswer goal a (step s) c) u calls v → IsAnswerTo (fits (keep u)) goal a
  chain_answers goal a [] u v h = absurd h
  chain_answers goal a (c ∷ []) u v h = answers_goal (fits (keep u)) goal a (step u) c h.1 (each u c v h.0)
  chain_answers goal a (c ∷ d ∷ cs) u v (mid, h, rest) = subst (λ (x : X). IsAnswerTo (fits x) goal a) (same u c mid h) (chain_answers goal a (d ∷ cs) mid v rest)

  -- a turn of an operation that goes on shows an answer to its goal, where it ends
  pub shows_answer : (op : Operation) (me : ℕ) (u : U) (turn : Turn) (v : U) → AnswersAt gives step op me u turn v → op.answer ≡ None → ShowsAnswerTo (fits (keep u)) op.goal turn
  shows_answer op me u (Turn.Done a) v h open_ = let b = h open_ in chain_answers op.goal a b.calls u v b.chain
  shows_answer op me u Turn.Moved v h open_ = tt
  shows_answer op me u Turn.Waiting v h open_ = tt

-- no call takes a port to another line
module _ {S U : Type 0} (over : S → Call → S → Type 0) (gives : U → ℕ → Call → U → Type 0) (bank : S → U) (line : S → ℕ)
    (each : (s : S) (c : Call) (t : S) → over s c t → (line t ≡ line s) × gives (bank s) (line s) c (bank t))
    (step : U → ℕ → Pending) (receipts : U → ℕ → ReceiptList) where
  pub chain_line : (calls : List Call) (s t : S) → Chain over s calls t → line t ≡ line s
  chain_line [] s t h = ap line h
  chain_line (c ∷ cs) s t (mid, h, rest) = chain_line cs mid t rest ∙ (each s c mid h).0

  roomy_through : (l : ℕ) (calls : List Call) (s t : S) → line s ≡ l → RoomyChain over (λ x. receipts (bank x) (line x)) s calls t → RoomyChain (λ a c b. gives a l c b) (λ a. receipts a l) (bank s) calls (bank t)
  roomy_through l [] s t e h = ap bank h
  roomy_through l (c ∷ cs) s t e (mid, h, room, rest) =
      let w = each s c mid h in
      (bank mid, subst (λ (k : ℕ). gives (bank s) k c (bank mid)) e w.1, subst (λ (k : ℕ). HasRoomFor c (receipts (bank s) k)) e room, roomy_through l cs mid t (w.0 ∙ e) rest)

  module _ (op : Operation) (turn : Turn) (s t : S) (same : line t ≡ line s) where
    abbrev KeepsOver : Type 0
    KeepsOver = IsProvided op.goal op.answer (step (bank s) (line s)) (receipts (bank s) (line s)) → KeepsTurn over (λ x. receipts (bank x) (line x)) op s turn t (step (bank t) (line t))

    abbrev KeepsAt : ℕ → U → U → Type 0
    KeepsAt l u v = IsProvided op.goal op.answer (step u l) (receipts u l) → KeepsTurn (λ a c b. gives a l c b) (λ a. receipts a l) op u turn v (step v l)

    kept_over : KeepsOver → KeepsAt (line s) (bank s) (bank t)
    kept_over h p =
        let k = h p in
        record {
          calls = k.calls;
          chain = roomy_through (line s) k.calls s t refl k.chain;
          provided = subst (λ (n : ℕ). IsProvided op.goal (after_turn op turn).answer (step (bank t) n) (receipts (bank t) n)) same k.provided;
          writes = subst (λ (n : ℕ). writes_in (receipts (bank t) n).list ≡ writes_in (receipts (bank s) (line s)).list ++ adds op.goal op.answer turn) same k.writes;
          extends = subst (λ (n : ℕ). Extends (receipts (bank s) (line s)).list (receipts (bank t) n).list) same k.extends;
        }

    pub kept_through : (l : ℕ) (u v : U) → line s ≡ l → bank s ≡ u → bank t ≡ v → KeepsOver → KeepsAt l u v
    kept_through l u v on from to h =
        subst (λ (k : ℕ). KeepsAt k u v) on
        (subst (λ (w : U). KeepsAt (line s) w v) from
        (subst (λ (w : U). KeepsAt (line s) (bank s) w) to (kept_over h)))

pub last_through : {S U : Type 0} (bank : S → U) (line : S → ℕ) (receipts : U → ℕ → ReceiptList) (op : Operation) (turn : Turn) (s t : S) → line t ≡ line s → (l : ℕ) (u v : U) → line s ≡ l → bank s ≡ u → bank t ≡ v
    → KeepsAnswer op turn (receipts (bank s) (line s)) (receipts (bank t) (line t)) → KeepsAnswer op turn (receipts u l) (receipts v l)
last_through {U} bank line receipts op turn s t same l u v on from to h =
    subst (λ (k : ℕ). KeepsAnswer op turn (receipts u k) (receipts v k)) on
    (subst (λ (w : U). KeepsAnswer op turn (receipts w (line s)) (receipts v (line s))) from
    (subst (λ (w : U). KeepsAnswer op turn (receipts (bank s) (line s)) (receipts w (line s))) to
    (subst (λ (k : ℕ). KeepsAnswer op turn (receipts (bank s) (line s)) (receipts (bank t) k)) same h)))
