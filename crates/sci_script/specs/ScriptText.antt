-- The text of a script. This project's profile.
use Rattle.std.specs.Prelude.{◌≡◌, ℕ, ◌<◌, false, List, [], None}
use Rattle.sci_core.specs.State.{opened}
use Rattle.sci_cache.specs.Nodes.{node_state}
use Rattle.sci_script.specs.declared.commands.Size.{Size}
use Rattle.sci_script.specs.declared.commands.Opening.{Opening}
use Rattle.sci_script.specs.declared.commands.Step.{Step}
use Rattle.sci_script.specs.declared.refusals.ScriptRefusal.{ScriptRefusal}
use Rattle.sci_script.specs.Openings.{zeros, content_of}
use Rattle.sci_script.specs.Request.{no_words}
use Rattle.sci_script.specs.Run.{PrintsAll, Leaves}
use Rattle.sci_script.specs.Shared.{Shared, shared_is_open, shared_does}

-- lines with their openings that nobody has used, and nodes with this capacity, no residents and no call
pub record Opens (size : Size) (capacity : ℕ) (openings : List Opening) (s : Shared) : Type 0 where
  pub width : s.width ≡ size.nodes
  pub lines : (line : ℕ) → line < size.lines → s.lines line ≡ opened size.nodes (content_of line zeros openings)
  pub nodes : (node : ℕ) → node < size.nodes → s.nodes node ≡ node_state node size.lines capacity false [] None

-- what the commands print one after another over one state a line and one list of residents a node, where a turn is the table's
-- entry and at most one row
abbrev pub IsTextOf : Size → ℕ → List Opening → List Step → List ℕ → Type 0
IsTextOf size capacity openings steps text = (s t : Shared) × Opens size capacity openings s × PrintsAll shared_is_open shared_does no_words s steps text t

-- what is written where the run of the script fails
abbrev pub IsLeftOf : Size → ℕ → List Opening → List Step → ScriptRefusal → List ℕ → Type 0
IsLeftOf size capacity openings steps refusal written =
    (s t : Shared) × Opens size capacity openings s × Leaves shared_is_open shared_does size.nodes s steps refusal written t
