-- What a turn leaves in its node's receipts: the last receipt is the answer.
use Rattle.std.proofs.Common.{◌≡◌, ℕ, ◌<◌, Bool, true, false, Option, Some, None, List, [], ◌∷◌, ◌++◌, refl, sym, ap, subst}
use Rattle.sci_core.specs.declared.lines.Line.{Line}
use Rattle.sci_core.specs.declared.pending.Pending.{Pending}
use Rattle.sci_core.specs.declared.events.Event.{Event}
use Rattle.sci_core.specs.declared.outcomes.Outcome.{Outcome}
use Rattle.sci_core.specs.declared.receipts.Receipt.TheVariants.{Read, Wrote}
use Rattle.sci_port.specs.declared.calls.Call.{Call}
use Rattle.sci_port.specs.declared.calls.Call.TheVariants.{Own, MemWas, TagWas, Stepped}
use Rattle.sci_port.specs.ReceiptList.{ReceiptList, ReceivesIfRoom, Settles, last_passed}
use Rattle.sci_port.proofs.Elements.{clash}
use Rattle.sci_ops.specs.declared.goals.Goal.{Goal}
use Rattle.sci_ops.specs.declared.goals.Write.{Write}
use Rattle.sci_ops.specs.declared.answers.Answer.{Answer}
use Rattle.sci_ops.specs.declared.answers.Turn.{Turn}
use Rattle.sci_ops.specs.Answers.{shows_line, makes_invalid, IsWrote, IsSpent, IsAnswer, ChainTo, AnswersAt}
use Rattle.sci_ops.specs.Change.{change}
use Rattle.sci_ops.specs.Kept.{AppendsAnswer, IsAimedAt, KeepsAnswer}
use Rattle.sci_ops.specs.Operation.{Operation}
use Rattle.sci_ops.specs.Plan.{Plan, own, mem, tag, exchange, Follows}
use Rattle.sci_ops.specs.Table.{turn_in}

same_list : (r q : ReceiptList) → q ≡ r → q.list ≡ r.list
same_list r q e = ap (λ (z : ReceiptList). z.list) e

module _ (p : Pending) (r q : ReceiptList) (room : 0 < r.room) where
  -- the exchange that answers a load
  seen : (line : Line) (e : Event) → r.passing ≡ false → shows_line e ≡ true → ReceivesIfRoom p (Stepped e (Outcome.Done (Some line))) r q → q.list ≡ r.list ++ Read line.words line.stamp ∷ []
  seen line Event.Settle mark h k = (subst (λ (b : Bool). Settles b (last_passed r.list) r line q) mark (k.kept (λ _. room))).list
  seen line Event.Unhold mark h k = (k.kept room).list
  seen line _ mark h k = absurd (clash false h refl)

  -- and a write
  wrote : (w : Write) (old : List ℕ) (stamp : ℕ) (e : Event) (answer : Option Line) → IsWrote w old stamp p e → ReceivesIfRoom p (Stepped e (Outcome.Done answer)) r q → q.list ≡ r.list ++ Wrote old (change w old) stamp ∷ []
  wrote w old stamp e answer h k =
      let there = subst (λ (x : Event). ReceivesIfRoom (Pending.Purging h.line (Some None)) (Stepped x (Outcome.Done answer)) r q) h.event (subst (λ (x : Pending). ReceivesIfRoom x (Stepped e (Outcome.Done answer)) r q) h.purging k) in
      subst (λ (z : List ℕ × ℕ). q.list ≡ r.list ++ Wrote z.0 (change w z.0) z.1 ∷ []) (λ i. (sym h.words i, sym h.next i)) (there.kept room).list

  spent : (e : Event) (answer : Option Line) → IsSpent p e → ReceivesIfRoom p (Stepped e (Outcome.Done answer)) r q → q.list ≡ r.list
  spent e None h k = let there = subst (λ (x : Event). ReceivesIfRoom p (Stepped x (Outcome.Done None)) r q) h.event k in same_list r q (there.kept tt)
  spent e (Some line) h k = let there = subst (λ (x : Event). ReceivesIfRoom p (Stepped x (Outcome.Done (Some line))) r q) h.event k in same_list r q (there.kept tt)

  out : (e : Event) (answer : Option Line) → makes_invalid e ≡ true → ReceivesIfRoom p (Stepped e (Outcome.Done answer)) r q → q.list ≡ r.list
  out Event.Left None h k = same_list r q (k.kept tt)
  out Event.Left (Some line) h k = same_list r q (k.kept tt)
  out Event.Rolled None h k = same_list r q (k.kept tt)
  out Event.Rolled (Some line) h k = same_list r q (k.kept tt)
  out _ answer h k = absurd (clash false h refl)

  -- what is said of the last call stands behind the receipts
  appended : (goal : Goal) (a : Answer) (call : Call) → IsAimedAt goal r → IsAnswer goal a p call → ReceivesIfRoom p call r q → AppendsAnswer goal a r.list q.list
  appended Goal.Load (Answer.Seen words stamp) (Stepped e (Outcome.Done answer)) mark h k =
      seen record { words = words; stamp = stamp } e mark h.0 (subst (λ (x : Option Line). ReceivesIfRoom p (Stepped e (Outcome.Done x)) r q) h.1 k)
  appended (Goal.Write w) (Answer.Wrote old stamp) (Stepped e (Outcome.Done answer)) mark h k = wrote w old stamp e answer h k
  appended (Goal.Write w) Answer.Spent (Stepped e (Outcome.Done answer)) mark h k = spent e answer h k
  appended Goal.Evict Answer.Out (Stepped e (Outcome.Done answer)) mark h k = out e answer h k
  appended Goal.Evict Answer.Out (Own (Some x)) mark h k = same_list r q (k.kept tt)
  appended _ a call mark h k = absurd h

module _ {S : Type 0} (gives : S → Call → S → Type 0) (at_step : S → Pending) (receipts : S → ReceiptList) (receives : (s : S) (call : Call) (t : S) → gives s call t → ReceivesIfRoom (at_step s) call (receipts s) (receipts t)) where
  module _ (goal : Goal) (a : Answer) where
    -- a load leaves the receipts
    back : (s mid t : S) → receipts mid ≡ receipts s → (0 < (receipts mid).room → IsAimedAt goal (receipts mid) → AppendsAnswer goal a (receipts mid).list (receipts t).list) → 0 < (receipts s).room → IsAimedAt goal (receipts s) → AppendsAnswer goal a (receipts s).list (receipts t).list
    back s mid t same = subst (λ (r : ReceiptList). 0 < r.room → IsAimedAt goal r → AppendsAnswer goal a r.list (receipts t).list) same

    -- and the exchange behind the loads appends the answer
    lasts : (plan : Plan) (s t : S) (calls : List Call) → Follows plan calls (Turn.Done a) → ChainTo gives (λ u call. IsAnswer goal a (at_step u) call) s calls t → 0 < (receipts s).room → IsAimedAt goal (receipts s) → AppendsAnswer goal a (receipts s).list (receipts t).list
    lasts plan s t [] f chain room mark = absurd chain
    lasts plan s t (c ∷ []) f chain room mark = appended (at_step s) (receipts s) (receipts t) room goal a c mark chain.1 (receives s c t chain.0)
    lasts (own next) s t (Own (Some x) ∷ d ∷ ds) f chain room mark = back s chain.0 t ((receives s (Own (Some x)) chain.0 chain.1).kept tt) (lasts (next x) chain.0 t (d ∷ ds) f chain.2) room mark
    lasts (mem next) s t (MemWas (Some x) ∷ d ∷ ds) f chain room mark = back s chain.0 t ((receives s (MemWas (Some x)) chain.0 chain.1).kept tt) (lasts (next x) chain.0 t (d ∷ ds) f chain.2) room mark
    lasts (tag node next) s t (TagWas y (Some x) ∷ d ∷ ds) f chain room mark = back s chain.0 t ((receives s (TagWas y (Some x)) chain.0 chain.1).kept tt) (lasts (next x) chain.0 t (d ∷ ds) f.1 chain.2) room mark
    lasts (exchange event end) s t (Own x ∷ d ∷ ds) f chain room mark = absurd f
    lasts (exchange event end) s t (MemWas x ∷ d ∷ ds) f chain room mark = absurd f
    lasts (exchange event end) s t (TagWas y x ∷ d ∷ ds) f chain room mark = absurd f
    lasts (exchange event end) s t (Stepped e o ∷ d ∷ ds) f chain room mark = absurd f
    lasts _ s t (c ∷ d ∷ ds) f chain room mark = absurd f

  -- the turn that ends an operation leaves its answer as the last receipt
  pub keeps_answer : (op : Operation) (me : ℕ) (s t : S) (turn : Turn) → AnswersAt gives at_step op me s turn t → KeepsAnswer op turn (receipts s) (receipts t)
  keeps_answer op me s t (Turn.Done a) h = λ none. let answers = h none in lasts op.goal a (turn_in op.goal me (at_step s)) s t answers.calls answers.follows answers.chain
  keeps_answer op me s t Turn.Moved h = tt
  keeps_answer op me s t Turn.Waiting h = tt
