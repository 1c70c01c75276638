-- What a script says: its size, its capacity, its openings and its commands, or the first fault. This project's profile.
use Rattle.std.specs.Prelude.{◌≡◌, ℕ, ◌+◌, List, [], ◌∷◌, ◌++◌, length, Result, Ok, Err, if◌then◌else◌}
use Rattle.std.specs.Str.Lines.{lines}
use Rattle.sci_script.specs.declared.commands.Size.{Size}
use Rattle.sci_script.specs.declared.commands.Opening.{Opening}
use Rattle.sci_script.specs.declared.commands.Step.{Step}
use Rattle.sci_script.specs.declared.commands.Script.{Script}
use Rattle.sci_script.specs.declared.drafts.Draft.{Draft}
use Rattle.sci_script.specs.declared.places.Place.{Place}
use Rattle.sci_script.specs.declared.places.Stand.TheVariants as stands
use Rattle.sci_script.specs.declared.reasons.Reason.{Reason}
use Rattle.sci_script.specs.declared.reasons.Reason.TheVariants.{Early}
use Rattle.sci_script.specs.declared.refusals.ScriptRefusal.{ScriptRefusal}
use Rattle.sci_script.specs.declared.refusals.ScriptRefusal.TheVariants.{OutOfMemory, BadCommand, BadNumber, NotDone, WriteFailed}
use Rattle.sci_script.specs.declared.said.Read.{Read}
use Rattle.sci_script.specs.declared.said.Read.TheVariants as reads
use Rattle.sci_script.specs.declared.unread.Unread.{Unread}
use Rattle.sci_script.specs.declared.unread.Unread.TheVariants as unread
use Rattle.sci_script.specs.Causes.{refused_for}
use Rattle.sci_script.specs.Grammar.{first_place, is_first, line_read}
use Rattle.sci_script.specs.Words.{is_skipped}

-- what a function of the reader returned, seen by view, is what reading gives, unless memory ran out
abbrev pub Fails : {Y : Type 0} → ScriptRefusal → Result Y ScriptRefusal → Type 0
Fails OutOfMemory read = Unit {0}
Fails (BadCommand n) read = read ≡ Err (BadCommand n)
Fails (BadNumber n) read = read ≡ Err (BadNumber n)
Fails (NotDone n) read = ⊥
Fails WriteFailed read = ⊥

abbrev pub Gives : {X Y : Type 0} → (X → Y) → Result X ScriptRefusal → Result Y ScriptRefusal → Type 0
Gives view (Ok x) read = read ≡ Ok (view x)
Gives view (Err e) read = Fails e read

-- the same, with the number of the line that isn't taken, and the reason
abbrev pub Lacks : {Y : Type 0} → Unread → Result Y (ℕ × Reason) → Type 0
Lacks unread.OutOfMemory read = Unit {0}
Lacks (unread.Refused n reason) read = read ≡ Err (n, reason)

abbrev pub Finds : {X Y : Type 0} → (X → Y) → Result X Unread → Result Y (ℕ × Reason) → Type 0
Finds view (Ok x) read = read ≡ Ok (view x)
Finds view (Err e) read = Lacks e read

-- the refusal of what isn't read
abbrev pub refusal_of : Unread → ScriptRefusal
refusal_of unread.OutOfMemory = OutOfMemory
refusal_of (unread.Refused n reason) = refused_for n reason

abbrev pub refused : {Y : Type 0} → Result Y (ℕ × Reason) → Result Y ScriptRefusal
refused (Ok y) = Ok y
refused (Err why) = Err (refused_for why.0 why.1)

-- what was read of line n
abbrev pub on_line : {Y : Type 0} → ℕ → Result Y Reason → Result Y (ℕ × Reason)
on_line n (Ok y) = Ok y
on_line n (Err reason) = Err (n, reason)

-- the lines that aren't skipped, each with its number, where the first is line n
unfoldable pub entries_from : ℕ → List (List ℕ) → List (ℕ × List ℕ)
entries_from n [] = []
entries_from n (line ∷ more) = if is_skipped line then entries_from (n + 1) more else (n, line) ∷ entries_from (n + 1) more

-- what was said so far: where the next line stands, how many lines a node may name, what lines open with, and the commands
pub record Sayings : Type 0 where
  pub place : Place
  pub capacity : ℕ
  pub openings : List Opening
  pub steps : List Step

-- nothing; 1,024 lines where nothing is said of it
abbrev pub unsaid : Sayings
unsaid = record { place = first_place; capacity = 1024; openings = []; steps = [] }

abbrev pub behind_front : Size → Place
behind_front size = record { stand = stands.Openings; size = size }

-- and what line n says
abbrev pub with_read : Sayings → ℕ → Read → Sayings
with_read s n (reads.Memory size) = record { place = record { stand = stands.Memory; size = size }; capacity = 1024; openings = []; steps = [] }
with_read s n (reads.Capacity capacity) = record { place = behind_front s.place.size; capacity = capacity; openings = s.openings; steps = s.steps }
with_read s n (reads.Open opening) = record { place = behind_front s.place.size; capacity = s.capacity; openings = s.openings ++ opening ∷ []; steps = s.steps }
with_read s n (reads.Command command) = record {
  place = record { stand = stands.Commands; size = s.place.size };
  capacity = s.capacity;
  openings = s.openings;
  steps = s.steps ++ record { number = n; command = command } ∷ [];
}

-- and lines one after another, up to the first that isn't taken
unfoldable pub with_lines : Sayings → List (ℕ × List ℕ) → Result Sayings (ℕ × Reason)
with_lines s [] = Ok s
with_lines s (entry ∷ entries) = elim (line_read s.place entry.1) [
  | Ok read ↦ with_lines (with_read s entry.0 read) entries
  | Err reason ↦ Err (entry.0, reason)
]

-- a script has `memory` at least; end is one past its last line
abbrev pub ended : ℕ → Result Sayings (ℕ × Reason) → Result (Size × ℕ × List Opening × List Step) (ℕ × Reason)
ended end (Ok s) = if is_first s.place.stand then Err (end, Early) else Ok (s.place.size, s.capacity, s.openings, s.steps)
ended end (Err why) = Err why

-- a whole script, or the first line that isn't taken, and why
unfoldable pub reading_of : List ℕ → Result (Size × ℕ × List Opening × List Step) (ℕ × Reason)
reading_of text = ended (length (lines text) + 1) (with_lines unsaid (entries_from 1 (lines text)))

-- or its refusal
unfoldable pub script_of : List ℕ → Result (Size × ℕ × List Opening × List Step) ScriptRefusal
script_of text = refused (reading_of text)

-- a script without where it lies in memory, also one that isn't whole
abbrev pub view : Script → Size × ℕ × List Opening × List Step
view s = (s.size, s.capacity, s.openings.items, s.steps.items)

abbrev pub sayings_of : Draft → Sayings
sayings_of d = record { place = record { stand = d.stand; size = d.script.size }; capacity = d.script.capacity; openings = d.script.openings.items; steps = d.script.steps.items }
