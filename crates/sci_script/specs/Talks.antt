-- A talk: the commands of a script, said one by one. This project's profile.
use Rattle.std.specs.Prelude.{◌≡◌, ◌⊎◌, ℕ, Bool, true, false, List, [], ◌∷◌, Result, Ok, Err, if◌then◌else◌}
use Rattle.std.specs.List.{flat_map}
use Rattle.sci_script.specs.declared.commands.Size.{Size}
use Rattle.sci_script.specs.declared.commands.Step.{Step}
use Rattle.sci_script.specs.declared.commands.Command.{Command}
use Rattle.sci_script.specs.declared.places.Place.{Place}
use Rattle.sci_script.specs.declared.places.Stand.TheVariants as stands
use Rattle.sci_script.specs.declared.reasons.Reason.{Reason}
use Rattle.sci_script.specs.declared.reasons.Reason.TheVariants.{Early, Late}
use Rattle.sci_script.specs.declared.refusals.ScriptRefusal.{ScriptRefusal}
use Rattle.sci_script.specs.declared.refusals.ScriptRefusal.TheVariants.{OutOfMemory}
use Rattle.sci_script.specs.declared.said.Read.{Read}
use Rattle.sci_script.specs.declared.said.Read.TheVariants as reads
use Rattle.sci_script.specs.Causes.{refused_for}
use Rattle.sci_script.specs.Format.{Sayings, unsaid, with_read}
use Rattle.sci_script.specs.Grammar.{first_place, line_read}
use Rattle.sci_script.specs.Request.{no_words, words_after}
use Rattle.sci_script.specs.Run.{Prints, StopsAt}
use Rattle.sci_script.specs.ScriptText.{Opens}
use Rattle.sci_script.specs.Shared.{Shared, shared_is_open, shared_does}
use Rattle.sci_script.specs.Words.{is_skipped}

-- what was said, while no command was; or a desk, and for each node the word that its last load is to show
pub data Standing : Type 0 where
  Gathering : (said : Sayings) → Standing
  Going : (size : Size) → (shown : List ℕ) → (desk : Shared) → Standing

-- nothing was said
abbrev pub Silent : Standing
Silent = Gathering unsaid

-- where the next line stands
abbrev pub place_of : Standing → Place
place_of (Gathering said) = said.place
place_of (Going size shown s) = record { stand = stands.Commands; size = size }

abbrev pub is_late : Reason → Bool
is_late Late = true
is_late reason = false

abbrev pub is_early : Reason → Bool
is_early Early = true
is_early reason = false

-- what a line that comes too late says as the first of all: `memory` begins anew, another comes too late
abbrev pub begun : Result Read Reason → Result Read Reason
begun (Ok (reads.Memory size)) = Ok (reads.Memory size)
begun (Ok read) = Err Late
begun (Err reason) = Err (if is_early reason then Late else reason)

abbrev pub anew : Result Read Reason → Result Read Reason → Result Read Reason
anew (Ok read) first = Ok read
anew (Err reason) first = if is_late reason then begun first else Err reason

-- what a line says: while no command was said, `memory` may be said again
abbrev pub heard : Standing → List ℕ → Result Read Reason
heard (Gathering said) line = anew (line_read said.place line) (line_read first_place line)
heard (Going size shown s) line = line_read (place_of (Going size shown s)) line

-- a command on a line that is said
abbrev pub said_step : Command → Step
said_step command = record { number = 1; command = command }

-- what a line says may print this and lead to t. The first command opens the desk; behind it each line says a command (line_read)
abbrev pub Takes : Standing → Read → List ℕ → Standing → Type 0
Takes (Gathering said) (reads.Command command) text t =
    (s e : Shared) × Opens said.place.size said.capacity said.openings s × Prints shared_is_open shared_does no_words s command text e
    × (t ≡ Going said.place.size (words_after no_words command) e)
Takes (Gathering said) read text t = (text ≡ []) × (t ≡ Gathering (with_read said 1 read))
Takes (Going size shown s) (reads.Command command) text t = (e : Shared) × Prints shared_is_open shared_does shown s command text e × (t ≡ Going size (words_after shown command) e)
Takes s read text t = (text ≡ []) × (t ≡ s)

-- a line may print this and lead to t: a comment or blanks, which are skipped, print nothing and change nothing
abbrev pub AcceptsBy : Bool → Standing → List ℕ → List ℕ → Standing → Type 0
AcceptsBy true s line text t = (text ≡ []) × (t ≡ s)
AcceptsBy false s line text t = (read : Read) × (heard s line ≡ Ok read) × Takes s read text t

abbrev pub Accepts : Standing → List ℕ → List ℕ → Standing → Type 0
Accepts s line text t = AcceptsBy (is_skipped line) s line text t

-- how the first command fails, over the desk that it would have opened
abbrev pub FailsFirst : Sayings → Command → ScriptRefusal → Type 0
FailsFirst said command e =
    (s end : Shared) × Opens said.place.size said.capacity said.openings s × StopsAt shared_is_open shared_does said.place.size.nodes s (said_step command) e end

-- how a command fails; where it would have been the first, no desk is opened
abbrev pub Stops : Standing → Command → ScriptRefusal → Standing → Type 0
Stops (Gathering said) command e t = FailsFirst said command e × (t ≡ Gathering said)
Stops (Going size shown s) command e t = (end : Shared) × StopsAt shared_is_open shared_does size.nodes s (said_step command) e end × (t ≡ Going size shown end)

-- what a line says is refused, and leads to t: want of memory before a command changes nothing
abbrev pub IsDeclined : Standing → Read → ScriptRefusal → Standing → Type 0
IsDeclined s (reads.Command command) e t = ((e ≡ OutOfMemory) × (t ≡ s)) ⊎ Stops s command e t
IsDeclined s read e t = (e ≡ OutOfMemory) × (t ≡ s)

-- and so does a line that isn't taken
abbrev pub Declines : Standing → Result Read Reason → ScriptRefusal → Standing → Type 0
Declines s (Ok read) e t = IsDeclined s read e t
Declines s (Err reason) e t = ((e ≡ OutOfMemory) ⊎ (e ≡ refused_for 1 reason)) × (t ≡ s)

-- a line is refused, and leads to t
abbrev pub Refuses : Standing → List ℕ → ScriptRefusal → Standing → Type 0
Refuses s line e t = (is_skipped line ≡ false) × Declines s (heard s line) e t

-- the lines are accepted one after another, and print these parts
abbrev pub AcceptsAll : Standing → List (List ℕ) → List (List ℕ) → Standing → Type 0
AcceptsAll s [] parts t = (parts ≡ []) × (t ≡ s)
AcceptsAll s (line ∷ lines) parts t = (first : List ℕ) × (rest : List (List ℕ)) × (mid : Standing) × Accepts s line first mid × AcceptsAll mid lines rest t × (parts ≡ first ∷ rest)

-- lines that are all accepted print this text, part by part
abbrev pub Says : Standing → List (List ℕ) → List ℕ → Type 0
Says s lines text = (parts : List (List ℕ)) × (t : Standing) × AcceptsAll s lines parts t × (flat_map (λ (part : List ℕ). part) parts ≡ text)

-- the lines are said one after another, each accepted or refused
abbrev pub Hears : Standing → List (List ℕ) → Standing → Type 0
Hears s [] t = t ≡ s
Hears s (line ∷ lines) t = (mid : Standing) × (((text : List ℕ) × Accepts s line text mid) ⊎ ((e : ScriptRefusal) × Refuses s line e mid)) × Hears mid lines t
