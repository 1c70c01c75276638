-- What a traced run writes where it fails. This project's profile.
use Rattle.std.specs.Prelude.{◌≡◌, ℕ, List, [], ◌++◌, take, Option, Some, slice_get}
use Rattle.sci_script.specs.declared.commands.Step.{Step}
use Rattle.sci_script.specs.declared.refusals.ScriptRefusal.{ScriptRefusal}
use Rattle.sci_script.specs.declared.refusals.ScriptRefusal.TheVariants.{OutOfMemory, BadCommand, BadNumber, NotDone, WriteFailed}
use Rattle.sci_script.specs.Request.{no_words}
use Rattle.sci_script.specs.Run.{StopsAt}
use Rattle.sci_script.specs.Shared.{Shared, shared_is_open, shared_does}
use Rattle.sci_trace.specs.declared.coding.Coding.{Coding}
use Rattle.sci_trace.specs.Coding.{coded, IsFront}
use Rattle.sci_trace.specs.Notes.{AreNotes}
use Rattle.sci_trace.specs.Telling.{telling, telling_is_open, tells, TellsAll, TellsNoEnd}

-- what is written of these lines of turns where that fails: none where memory was refused for one, or a front of them
abbrev pub NotesLeft : Coding → ScriptRefusal → List ℕ → List ℕ → Type 0
NotesLeft coding OutOfMemory notes written = written ≡ []
NotesLeft coding WriteFailed notes written = IsFront (coded coding notes) written
NotesLeft coding _ notes written = ⊥

-- how the next command fails, from s to t, with these lines of its turns; nothing more is said of them where memory was refused or the
-- writer failed
abbrev pub FailsAt : ℕ → Shared → Option Step → ScriptRefusal → List ℕ → Shared → Type 0
FailsAt nodes s next OutOfMemory notes t = Unit {0}
FailsAt nodes s next WriteFailed notes t = Unit {0}
FailsAt nodes s (Some step) (BadCommand n) notes t = StopsAt telling_is_open tells nodes (telling s []) step (BadCommand n) (telling t notes)
FailsAt nodes s (Some step) (NotDone n) notes t = StopsAt shared_is_open shared_does nodes s step (NotDone n) t × TellsNoEnd nodes step.command s notes t
FailsAt nodes s next e notes t = ⊥

-- what was traced where a run fails: all of the commands before, and lines of the turns of the one that fails
abbrev pub TracedTo : ℕ → List Step → Shared → ScriptRefusal → List ℕ → Shared → Type 0
TracedTo nodes steps s e traced t = (k : ℕ) × (mid : Shared) × (before notes : List ℕ) × TellsAll no_words s (take k steps) before mid × AreNotes notes
    × FailsAt nodes mid (slice_get steps k) e notes t × (traced ≡ before ++ notes)

-- what is written of a text where a run fails: all of it, or, where the writer failed, a front, and not all
abbrev pub IsWrittenOf : ScriptRefusal → List ℕ → List ℕ → Type 0
IsWrittenOf WriteFailed text written = IsFront text written
IsWrittenOf _ text written = written ≡ text

-- what is left of a run that is written in some form
abbrev pub FormLeaves : (List ℕ → List ℕ) → ℕ → List Step → Shared → ScriptRefusal → List ℕ → Shared → Type 0
FormLeaves form nodes steps s e written t = (traced : List ℕ) × TracedTo nodes steps s e traced t × IsWrittenOf e (form traced) written

-- what is written of a command that fails: lines of turns, or, where the writer failed, a front of such lines, and not all of it
abbrev pub StepLeaves : Coding → ℕ → Shared → Step → ScriptRefusal → List ℕ → Shared → Type 0
StepLeaves coding nodes s step e written t = (notes : List ℕ) × AreNotes notes × FailsAt nodes s (Some step) e notes t × IsWrittenOf e (coded coding notes) written
