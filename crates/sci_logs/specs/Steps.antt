-- What an entry of a log says of the table's step. This project's profile.
use Rattle.std.specs.Prelude.{◌≡◌, ◌≢◌, ℕ, ◌<◌, Some, Result, Ok, Err, List, [], slice_index_or}
use Rattle.sci_core.specs.declared.keeps.AnyWords.{AnyWords}
use Rattle.sci_core.specs.declared.lines.Line.{Line}
use Rattle.sci_core.specs.declared.outcomes.Outcome.{Outcome}
use Rattle.sci_core.specs.declared.outcomes.NotInTurn.{NotInTurn}
use Rattle.sci_core.specs.Answers.{Answers}
use Rattle.sci_core.specs.State.{State}
use Rattle.sci_core.specs.Whole.{WholeLine, state_of, opened_whole}
use Rattle.sci_script.specs.declared.commands.Size.{Size}
use Rattle.sci_script.specs.Unused.{no_line, AreOpened}
use Rattle.sci_logs.specs.declared.entries.Claim.{Claim}
use Rattle.sci_logs.specs.declared.entries.Entry.{Entry}
use Rattle.sci_logs.specs.declared.entries.Deviation.{Deviation}
use Rattle.sci_logs.specs.declared.lines.Follower.{Follower}

abbrev pub whole_at : List (WholeLine AnyWords) → ℕ → WholeLine AnyWords
whole_at wholes line = slice_index_or wholes line no_line

-- the state of each line
abbrev pub lines_of : Follower → ℕ → State
lines_of f line = state_of (whole_at f.lines.items line)

-- a line of n nodes that nobody has used, with this content
abbrev pub unused : ℕ → Line → State
unused n content = state_of (opened_whole {K = AnyWords} (record {}) 0 n content)

-- the first lines are of zeros, and nobody has used them
abbrev pub AreUnused : ℕ → ℕ → List (WholeLine AnyWords) → Type 0
AreUnused nodes lines wholes = AreOpened nodes [] lines wholes

-- the entry's node and line are there
abbrev pub IsIn : Size → Entry → Type 0
IsIn size e = (e.node < size.nodes) × (e.line < size.lines)

-- the outcome is as the claim says; of a line that was answered a claim may say nothing
abbrev pub IsAs : Claim → Outcome → Type 0
IsAs Claim.Done (Outcome.Done answer) = Unit {0}
IsAs (Claim.Answered line) (Outcome.Done answer) = answer ≡ Some line
IsAs (Claim.Missed word) (Outcome.Missed found) = word ≡ found
IsAs claim outcome = ⊥

-- why it isn't; a line that nobody else holds is never busy
abbrev pub why : Claim → Outcome → Deviation
why (Claim.Answered line) (Outcome.Done answer) = Deviation.AnotherLine
why (Claim.Answered line) (Outcome.Missed found) = Deviation.AnotherWord
why Claim.Done (Outcome.Missed found) = Deviation.AnotherWord
why (Claim.Missed word) (Outcome.Missed found) = Deviation.AnotherWord
why claim outcome = Deviation.CannotBe

-- what is said of a claim, where the line answers this
abbrev pub Judges : Claim → Result Outcome NotInTurn → Result (Unit {0}) Deviation → Type 0
Judges claim (Err refusal) said = said ≡ Err Deviation.NotInTurn
Judges claim (Ok outcome) (Ok u) = IsAs claim outcome
Judges claim (Ok outcome) (Err d) = (IsAs claim outcome → ⊥) × (d ≡ why claim outcome)

-- the entry's event is a step of the table on its line, from the lines s to the lines t, and this is said of how it ended
pub record Takes (n : ℕ) (s : ℕ → State) (e : Entry) (said : Result (Unit {0}) Deviation) (t : ℕ → State) : Type 0 where
  pub answer : Result Outcome NotInTurn
  pub step : Answers n (s e.line) e.node e.event answer (t e.line)
  pub others : (l : ℕ) → l ≢ e.line → t l ≡ s l
  pub judged : Judges e.claim answer said

-- the line is opened anew, and the others are as they were; or memory ran out, and all is
abbrev pub Reopens : {E : Type 0} → ℕ → (ℕ → State) → ℕ → Line → Result (Unit {0}) E → (ℕ → State) → Type 0
Reopens n s line content (Ok u) t = (t line ≡ unused n content) × ((l : ℕ) → l ≢ line → t l ≡ s l)
Reopens n s line content (Err e) t = (l : ℕ) → t l ≡ s l
