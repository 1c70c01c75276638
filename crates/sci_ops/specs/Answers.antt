-- What an operation's answer says of the calls of the turn that gave it, over any port. This project's profile of IEEE Std
-- 1596-1992.
use Rattle.std.specs.Prelude.{◌≡◌, ◌≢◌, ℕ, ◌+◌, ◌<◌, ◌≤◌, Bool, true, false, Some, None, List, [], ◌∷◌}
use Rattle.sci_words.specs.declared.tags.Kind.{Kind}
use Rattle.sci_core.specs.declared.lines.Line.{Line}
use Rattle.sci_core.specs.declared.pending.Pending.{Pending}
use Rattle.sci_core.specs.declared.events.Event.{Event}
use Rattle.sci_core.specs.declared.outcomes.Outcome.{Outcome}
use Rattle.sci_port.specs.declared.calls.Call.{Call}
use Rattle.sci_port.specs.declared.calls.Call.TheVariants.{Own, Stepped}
use Rattle.sci_ops.specs.declared.goals.Goal.{Goal}
use Rattle.sci_ops.specs.declared.goals.Write.{Write}
use Rattle.sci_ops.specs.declared.answers.Answer.{Answer}
use Rattle.sci_ops.specs.declared.answers.Turn.{Turn}
use Rattle.sci_ops.specs.Change.{change}
use Rattle.sci_ops.specs.Operation.{Operation}
use Rattle.sci_ops.specs.Plan.{Plan, Follows}
use Rattle.sci_ops.specs.Table.{turn_in}

-- the exchanges that answer a load: the node settles as a valid sharer, or lets go of the slot that it held as one
abbrev pub shows_line : Event → Bool
shows_line Event.Settle = true
shows_line Event.Unhold = true
shows_line _ = false

-- the exchanges that make the node's tag Invalid
abbrev pub makes_invalid : Event → Bool
makes_invalid Event.Left = true
makes_invalid Event.Rolled = true
makes_invalid _ = false

-- the stamp of a line that is to be written over is a u64
abbrev pub HasStamp : Pending → Type 0
HasStamp (Pending.Purging line seen) = line.stamp ≤ 18446744073709551615
HasStamp p = Unit {0}

-- the turn has not ended its operation
abbrev pub GoesOn : Turn → Type 0
GoesOn turn = (answer : Answer) → turn ≢ Turn.Done answer

-- a turn that ended its operation found a stamp that is a u64
abbrev pub EndsWithStamp : Turn → Pending → Type 0
EndsWithStamp turn p = (answer : Answer) → turn ≡ Turn.Done answer → HasStamp p

-- the node purged everybody behind it, and wrote the change over the line that it kept; the stamp counted one more
pub record IsWrote (write : Write) (before : List ℕ) (stamp : ℕ) (p : Pending) (e : Event) : Type 0 where
  pub line : Line
  pub purging : p ≡ Pending.Purging line (Some None)
  pub words : before ≡ line.words
  pub counts : line.stamp < 18446744073709551615
  pub next : stamp ≡ line.stamp + 1
  pub event : e ≡ Event.Written (Some (change write line.words))

-- the node purged everybody behind it, and gave the line that it kept back, whose stamp counts no more
pub record IsSpent (p : Pending) (e : Event) : Type 0 where
  pub line : Line
  pub purging : p ≡ Pending.Purging line (Some None)
  pub last : line.stamp ≡ 18446744073709551615
  pub event : e ≡ Event.Written None

-- what an answer says of the last call of its turn, which was made in the pending step p
abbrev pub IsAnswer : Goal → Answer → Pending → Call → Type 0
IsAnswer Goal.Load (Answer.Seen words stamp) p (Stepped e (Outcome.Done answer)) = (shows_line e ≡ true) × (answer ≡ Some record { words = words; stamp = stamp })
IsAnswer (Goal.Write write) (Answer.Wrote before stamp) p (Stepped e (Outcome.Done answer)) = IsWrote write before stamp p e
IsAnswer (Goal.Write write) Answer.Spent p (Stepped e (Outcome.Done answer)) = IsSpent p e
IsAnswer Goal.Evict Answer.Out p (Stepped e (Outcome.Done answer)) = makes_invalid e ≡ true
IsAnswer Goal.Evict Answer.Out p (Own (Some tag)) = tag.kind ≡ Kind.Invalid
IsAnswer _ _ p call = ⊥

-- these calls were made one after another, and this is said of the last, and of the port as it stood before it
abbrev pub ChainTo : {S : Type 0} → (S → Call → S → Type 0) → (S → Call → Type 0) → S → List Call → S → Type 0
ChainTo gives says s [] t = ⊥
ChainTo gives says s (c ∷ []) t = gives s c t × says s c
ChainTo {S} gives says s (c ∷ cs) t = (mid : S) × gives s c mid × ChainTo gives says mid cs t

-- the plan is followed to its answer, and the answer is what the last call gave
pub record Answers {S : Type 0} (gives : S → Call → S → Type 0) (at_step : S → Pending) (goal : Goal) (plan : Plan) (s : S) (answer : Answer) (t : S) : Type 0 where
  pub calls : List Call
  pub chain : ChainTo gives (λ u call. IsAnswer goal answer (at_step u) call) s calls t
  pub follows : Follows plan calls (Turn.Done answer)

-- a turn that ends its operation answers so; one that goes on, or comes after the end, answers nothing new
abbrev pub AnswersAt : {S : Type 0} → (S → Call → S → Type 0) → (S → Pending) → Operation → ℕ → S → Turn → S → Type 0
AnswersAt gives at_step op me s (Turn.Done answer) t = op.answer ≡ None → Answers gives at_step op.goal (turn_in op.goal me (at_step s)) s answer t
AnswersAt gives at_step op me s turn t = Unit {0}
