-- What an operation's answer says of a line that is lent: of its value (Culler and Singh), and of who shares it.
use Rattle.std.specs.Prelude.{◌≡◌, ℕ, ◌+◌, ◌<◌, None, List}
use Rattle.sci_words.specs.declared.tags.Kind.{Kind}
use Rattle.sci_core.specs.declared.lines.Line.{Line}
use Rattle.sci_core.specs.Run.{HasValue}
use Rattle.sci_core.specs.Sharers.{IsValidSharer, IsSoleSharer}
use Rattle.sci_core.specs.State.{State}
use Rattle.sci_ops.specs.declared.goals.Goal.{Goal}
use Rattle.sci_ops.specs.declared.goals.Write.{Write}
use Rattle.sci_ops.specs.declared.answers.Answer.{Answer}
use Rattle.sci_ops.specs.declared.answers.Turn.{Turn}
use Rattle.sci_ops.specs.Change.{change}
use Rattle.sci_ops.specs.Operation.{Operation}

-- node me has seen the value of the line, with which it is a valid sharer
pub record HasSeen (n : ℕ) (fits : List ℕ → Type 0) (me : ℕ) (s : State) (words : List ℕ) (stamp : ℕ) (t : State) : Type 0 where
  pub before : HasValue n fits s record { words = words; stamp = stamp }
  pub after : HasValue n fits t record { words = words; stamp = stamp }
  pub sharer : IsValidSharer t me

-- node me has replaced the value of the line: the words by what the write makes of them, the stamp by the next; it is the only
-- valid sharer
pub record HasWritten (n : ℕ) (fits : List ℕ → Type 0) (write : Write) (me : ℕ) (s : State) (before : List ℕ) (stamp : ℕ) (t : State) : Type 0 where
  pub replaced : Line
  pub value : HasValue n fits s replaced
  pub words : before ≡ replaced.words
  pub counts : replaced.stamp < 18446744073709551615
  pub next : stamp ≡ replaced.stamp + 1
  pub after : HasValue n fits t record { words = change write before; stamp = stamp }
  pub alone_before : IsSoleSharer s me
  pub alone_after : IsSoleSharer t me

-- node me has left the value of the line as it is, since its stamp is the last u64; it is the only valid sharer
pub record HasSpent (n : ℕ) (fits : List ℕ → Type 0) (me : ℕ) (s t : State) : Type 0 where
  pub kept : Line
  pub last : kept.stamp ≡ 18446744073709551615
  pub value : HasValue n fits s kept
  pub after : HasValue n fits t kept
  pub alone_before : IsSoleSharer s me
  pub alone_after : IsSoleSharer t me

-- what an answer says of the line before and after
abbrev pub IsTrueOfLine : ℕ → (List ℕ → Type 0) → Goal → ℕ → State → Answer → State → Type 0
IsTrueOfLine n fits Goal.Load me s (Answer.Seen words stamp) t = HasSeen n fits me s words stamp t
IsTrueOfLine n fits (Goal.Write write) me s (Answer.Wrote before stamp) t = HasWritten n fits write me s before stamp t
IsTrueOfLine n fits (Goal.Write write) me s Answer.Spent t = HasSpent n fits me s t
IsTrueOfLine n fits Goal.Evict me s Answer.Out t = (t.tags me).kind ≡ Kind.Invalid
IsTrueOfLine n fits _ me s answer t = ⊥

-- a turn that ends its operation answers what is true of the line before and after the turn
abbrev pub IsTrueTurn : ℕ → (List ℕ → Type 0) → Operation → ℕ → State → Turn → State → Type 0
IsTrueTurn n fits op me s (Turn.Done answer) t = op.answer ≡ None → IsTrueOfLine n fits op.goal me s answer t
IsTrueTurn n fits op me s turn t = Unit {0}
