-- What a run of calls tells of the line's value: one legal history of a register. Each line that a call answers is the value at
-- that point, no call but a write changes the value, and each write gives the next stamp (Culler and Singh: coherence).
use Rattle.std.specs.Prelude.{◌≡◌, ℕ, ◌+◌, Some, List, [], ◌∷◌}
use Rattle.sci_core.specs.declared.lines.Line.{Line}
use Rattle.sci_core.specs.declared.events.Event.{Event}
use Rattle.sci_core.specs.declared.outcomes.Outcome.{Outcome}
use Rattle.sci_core.specs.Table.Purging.{written}
use Rattle.sci_port.specs.declared.calls.Call.{Call}
use Rattle.sci_port.specs.declared.calls.Call.TheVariants.{Stepped}

-- the value after a call: a write that was done makes it the words that it wrote, with the next stamp
abbrev pub value_after : Line → Call → Line
value_after v (Stepped (Event.Written words) (Outcome.Done answer)) = written v words
value_after v call = v

-- the value after all these calls
abbrev pub value_of : Line → List (ℕ × Call) → Line
value_of v [] = v
value_of v (c ∷ cs) = value_of (value_after v c.1) cs

-- a line that the call answers is this one
abbrev pub Shows : Call → Line → Type 0
Shows (Stepped e (Outcome.Done (Some line))) v = line ≡ v
Shows call v = Unit {0}

-- each line that a call answers is the value at that point
abbrev pub IsLegal : Line → List (ℕ × Call) → Type 0
IsLegal v [] = Unit {0}
IsLegal v (c ∷ cs) = Shows c.1 (value_after v c.1) × IsLegal (value_after v c.1) cs

-- a write of words that was done counts one
abbrev pub writes_in : Call → ℕ
writes_in (Stepped (Event.Written (Some words)) (Outcome.Done answer)) = 1
writes_in call = 0

-- how many writes of words were done
abbrev pub writes : List (ℕ × Call) → ℕ
writes [] = 0
writes (c ∷ cs) = writes_in c.1 + writes cs

-- from the value v the calls are one legal history, at whose end the value is w, whose stamp counts the writes
pub record IsHistory (v : Line) (calls : List (ℕ × Call)) (w : Line) : Type 0 where
  pub legal : IsLegal v calls
  pub last : w ≡ value_of v calls
  pub stamp : w.stamp ≡ v.stamp + writes calls
