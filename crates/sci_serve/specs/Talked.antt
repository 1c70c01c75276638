-- What the command `talk` writes. This project's profile.
use Rattle.std.specs.Prelude.{◌≡◌, ◌⊎◌, ℕ, ◌<◌, ◌≤◌, Bool, true, false, List, [], ◌∷◌, ◌++◌, length, take, codes, Option, Some, None, Result, Ok, Err, All, ◌==◌}
use Rattle.std.specs.Str.Lines.{lines, strip_carriage_return}
use Rattle.sci_script.specs.declared.refusals.ScriptRefusal.{ScriptRefusal}
use Rattle.sci_script.specs.declared.refusals.ScriptRefusal.TheVariants.{OutOfMemory, BadCommand, BadNumber, NotDone, WriteFailed}
use Rattle.sci_script.specs.Talks.{Standing, Silent, Accepts, Refuses}
use Rattle.sci_serve.specs.declared.faults.SimFault.{SimFault}
use Rattle.sci_serve.specs.declared.faults.SimFault.TheVariants.{CannotRead, CannotWrite, InputTooLong, Refused, NoDump, Unlawful, NoRun}
use Rattle.sci_serve.specs.declared.talking.Held.{Held}

-- the answer to a refused line
abbrev pub refused_line : ScriptRefusal → List ℕ
refused_line OutOfMemory = codes "refused 7\n"
refused_line (BadCommand n) = codes "refused 16\n"
refused_line (BadNumber n) = codes "refused 17\n"
refused_line (NotDone n) = codes "refused 18\n"
refused_line WriteFailed = codes "refused 24\n"

-- how an answer ends
abbrev pub ending_line : Result Unit ScriptRefusal → List ℕ
ending_line (Ok done) = codes "ok\n"
ending_line (Err e) = refused_line e

-- a line longer than a script, or one that memory was refused for, isn't said
abbrev pub IsUnsaid : List ℕ → ScriptRefusal → Type 0
IsUnsaid line OutOfMemory = Unit {0}
IsUnsaid line (BadCommand n) = 1048576 < length line
IsUnsaid line (BadNumber n) = ⊥
IsUnsaid line (NotDone n) = ⊥
IsUnsaid line WriteFailed = ⊥

-- why a line is refused, and where that leads
abbrev pub IsRefused : Standing → List ℕ → ScriptRefusal → Standing → Type 0
IsRefused s line e t = (IsUnsaid line e × (t ≡ s)) ⊎ ((length line ≤ 1048576) × Refuses s line e t)

-- a line may print this and lead to t
abbrev pub IsAccepted : Standing → List ℕ → List ℕ → Standing → Type 0
IsAccepted s line printed t = (length line ≤ 1048576) × Accepts s line printed t

-- a line is answered by this text: what it prints and `ok`, or `refused N`
abbrev pub Answers : Standing → List ℕ → List ℕ → Standing → Type 0
Answers s line text t = ((printed : List ℕ) × IsAccepted s line printed t × (text ≡ printed ++ ending_line (Ok tt)))
    ⊎ ((e : ScriptRefusal) × IsRefused s line e t × (text ≡ ending_line (Err e)))

-- lines are answered by this text, one after the other
abbrev pub Talks : Standing → List (List ℕ) → List ℕ → Standing → Type 0
Talks s [] text t = (text ≡ []) × (t ≡ s)
Talks s (line ∷ lines) text t = (first rest : List ℕ) × (mid : Standing) × Answers s line first mid × Talks mid lines rest t × (text ≡ first ++ rest)

-- what is written where the command fails: the answers to the first lines, or a front of them
abbrev pub StopsTalking : SimFault → List ℕ → List ℕ → Type 0
StopsTalking CannotRead input written = (k : ℕ) × (t : Standing) × Talks Silent (take k (lines input)) written t
StopsTalking CannotWrite input written = (k n : ℕ) × (text : List ℕ) × (t : Standing) × Talks Silent (take k (lines input)) text t × (written ≡ take n text)
StopsTalking InputTooLong input written = ⊥
StopsTalking (Refused e) input written = ⊥
StopsTalking (NoDump n) input written = ⊥
StopsTalking Unlawful input written = ⊥
StopsTalking (NoRun e) input written = ⊥

-- what is kept of the front of a line: all of it, or why it is lost
abbrev pub IsKeptBut : Option ScriptRefusal → List ℕ → List ℕ → Type 0
IsKeptBut None bytes seen = (bytes ≡ seen) × (length seen ≤ 1048577)
IsKeptBut (Some OutOfMemory) bytes seen = 0 < length seen
IsKeptBut (Some (BadCommand n)) bytes seen = 1048577 < length seen
IsKeptBut (Some (BadNumber n)) bytes seen = ⊥
IsKeptBut (Some (NotDone n)) bytes seen = ⊥
IsKeptBut (Some WriteFailed) bytes seen = ⊥

-- these bytes stand behind the last line end, and this is kept of them
abbrev pub IsPart : Held → List ℕ → Type 0
IsPart held seen = IsKeptBut held.lost held.bytes.items seen × All (λ b. (b == 10) ≡ false) seen

-- the line that a part is once it has ended, or at the end of the input
abbrev pub line_by : Bool → List ℕ → List ℕ
line_by true part = strip_carriage_return part
line_by false part = part

-- behind a part of a line these bytes end these lines, and leave another part
abbrev pub Ends : List ℕ → List ℕ → List (List ℕ) → List ℕ → Type 0
Ends part bytes ended left = (more : List ℕ) → lines (part ++ (bytes ++ more)) ≡ ended ++ lines (left ++ more)

-- behind a part of a line these bytes end these lines, and perhaps others behind them
abbrev pub Begins : List ℕ → List ℕ → List (List ℕ) → Type 0
Begins part bytes ended = (more : List ℕ) → (others : List (List ℕ)) × (lines (part ++ (bytes ++ more)) ≡ ended ++ others)
