-- Each turn of an operation that works alone leaves fewer, whatever it is for and wherever its node is.
use Rattle.std.proofs.Common.{◌≡◌, ◌≤◌, ◌+◌, ◌*◌, ℕ, Option, None, List, refl, sym, subst, arith}
use Rattle.sci_words.specs.declared.tags.Kind.{Kind}
use Rattle.sci_ops.specs.declared.answers.Answer.{Answer}
use Rattle.sci_ops.specs.Operation.{Operation}
use Rattle.sci_ops.proofs.Ending.Counting.{others, others_max}
use Rattle.sci_ops.proofs.Ending.Potential.{potential, turns_left, left_idle}
use Rattle.sci_core.specs.declared.pending.Pending.{Pending}
use Rattle.sci_core.specs.State.{State}
use Rattle.sci_ops.specs.declared.goals.Goal.{Goal}
use Rattle.sci_ops.specs.declared.answers.Turn.{Turn}
use Rattle.sci_ops.specs.Alone.{IsAtRest, TakesTurn, on_line}
use Rattle.sci_ops.specs.Plan.{Takes}
use Rattle.sci_ops.specs.Table.{turn_in, turn_again}
use Rattle.sci_ops.proofs.Ending.Premise.{Alone, AloneIn, Evicts, Falls, OthersRest}
use Rattle.sci_ops.proofs.Ending.Starting.{idle_falls}
use Rattle.sci_ops.proofs.Ending.Entering.{holding_falls, queueing_falls, fetching_falls, in_queue_falls, copying_falls, ready_falls}
use Rattle.sci_ops.proofs.Ending.Writing.{converting_falls, purging_falls, advancing_falls, clearing_falls}
use Rattle.sci_ops.proofs.Ending.Leaving.{leaving_falls, promoted_falls, writing_back_falls, parted_falls, rolling_falls, unlinked_falls}

module _ (n : ℕ) (fits : List ℕ → Type 0) (me : ℕ) where
  -- the steps at the front on the way out
  evict_falls : (goal : Goal) → Evicts goal → (p : Pending) (s t : State) (r : Turn)
      → (Takes (on_line n fits me) (turn_in Goal.Evict me p) s r t → AloneIn n Goal.Evict me s p → Falls n Goal.Evict me s r t)
      → Takes (on_line n fits me) (turn_in goal me p) s r t → AloneIn n goal me s p → Falls n goal me s r t
  evict_falls Goal.Evict a p s t r each h at = each h at
  evict_falls Goal.Load a p s t r each h at = absurd a
  evict_falls (Goal.Write w) a p s t r each h at = absurd a

  falls_in : (goal : Goal) (p : Pending) (s t : State) (r : Turn) → s.steps me ≡ p → OthersRest me s → AloneIn n goal me s p → Takes (on_line n fits me) (turn_in goal me p) s r t → Falls n goal me s r t
  falls_in goal Pending.Idle s t r is o a h = idle_falls n fits me goal s t r is o h
  falls_in goal (Pending.Holding w l) s t r is o a h = holding_falls n fits me goal s t r w l is o a h
  falls_in goal (Pending.Queueing f) s t r is o a h = queueing_falls n fits me goal s t r f is o a h
  falls_in goal (Pending.Fetching f d l) s t r is o a h = fetching_falls n fits me goal s t r f d l is o a h
  falls_in goal (Pending.InQueue f d c) s t r is o a h = in_queue_falls n fits me goal s t r f d c is o a h
  falls_in goal (Pending.Copying x w l) s t r is o a h = copying_falls n fits me goal s t r x w l is o a h
  falls_in goal (Pending.Ready f d l) s t r is o a h = ready_falls n fits me goal s t r f d l is o a h
  falls_in goal (Pending.Converting f turned) s t r is o a h = converting_falls n fits me goal s t r f turned is o a h
  falls_in goal (Pending.Purging l seen) s t r is o a h = purging_falls n fits me goal s t r l seen is o a h
  falls_in goal (Pending.Advancing l x w) s t r is o a h = advancing_falls n fits me goal s t r l x w is o a h
  falls_in goal (Pending.Clearing l x w) s t r is o a h = clearing_falls n fits me goal s t r l x w is o a h
  falls_in goal (Pending.Leaving d l seen) s t r is o a h = evict_falls goal a.0 (Pending.Leaving d l seen) s t r (λ k b. leaving_falls n fits me s t r d l seen is o b k) h a
  falls_in goal (Pending.Promoted d l x) s t r is o a h = evict_falls goal a.0 (Pending.Promoted d l x) s t r (λ k b. promoted_falls n fits me s t r d l x is o b.1 k) h a
  falls_in goal (Pending.WritingBack l) s t r is o a h = evict_falls goal a.0 (Pending.WritingBack l) s t r (λ k b. writing_back_falls n fits me s t r l is o b k) h a
  falls_in goal (Pending.Parted f) s t r is o a h = evict_falls goal a (Pending.Parted f) s t r (λ k b. parted_falls n fits me s t r f is o k) h a
  falls_in goal (Pending.Rolling told seen) s t r is o a h = rolling_falls n fits me goal s t r told seen is o a h
  falls_in goal (Pending.Unlinked f b) s t r is o a h = unlinked_falls n fits me goal s t r f b is o a h

  pub each_falls : (goal : Goal) (s t : State) (r : Turn) → Alone n goal me s → Takes (on_line n fits me) (turn_in goal me (s.steps me)) s r t → Falls n goal me s r t
  each_falls goal s t r a h = falls_in goal (s.steps me) s t r refl a.others a.at h

  -- a turn of an operation that hasn't ended
  pub turn_falls : (op : Operation) (s t : State) (r : Turn) → op.answer ≡ None → Alone n op.goal me s → TakesTurn n fits me op s r t → Falls n op.goal me s r t
  turn_falls op s t r begun a h = each_falls op.goal s t r a (subst (λ (answer : Option Answer). Takes (on_line n fits me) (turn_again op.goal answer me (s.steps me)) s r t) begun h)

-- where every node is Idle
pub alone_at_rest : (n : ℕ) (goal : Goal) (me : ℕ) (s : State) → IsAtRest s → Alone n goal me s
alone_at_rest n goal me s h = record { others = λ i d. h i; at = subst (λ (p : Pending). AloneIn n goal me s p) (sym (h me)) tt }

idle_bound : (goal : Goal) (b n : ℕ) (k : Kind) → b ≤ n → left_idle goal b k ≤ 3 * n + 16
idle_bound Goal.Load b n Kind.Invalid h = omega arith
idle_bound Goal.Load b n _ h = omega arith
idle_bound Goal.Evict b n Kind.Invalid h = omega arith
idle_bound Goal.Evict b n _ h = omega arith
idle_bound (Goal.Write w) b n Kind.Invalid h = omega (arith, h)
idle_bound (Goal.Write w) b n Kind.Fresh h = omega (arith, h)
idle_bound (Goal.Write w) b n Kind.Dirty h = omega (arith, h)
idle_bound (Goal.Write w) b n _ h = omega (arith, h)

pub bound_at_rest : (n : ℕ) (goal : Goal) (me : ℕ) (s : State) → IsAtRest s → potential n goal me s ≤ 3 * n + 16
bound_at_rest n goal me s h = subst (λ (p : Pending). turns_left goal (others me s.tags n) (s.tags me).kind p ≤ 3 * n + 16) (sym (h me)) (idle_bound goal (others me s.tags n) n (s.tags me).kind (others_max me s.tags n))
