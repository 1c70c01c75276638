-- Whole lines and nodes as a memory, and lines and nodes just opened. This project's profile.
use Rattle.std.specs.Prelude.{◌≡◌, ℕ, ◌<◌, false, List, [], None, slice_index_or}
use Rattle.sci_core.specs.declared.keeps.AnyWords.{AnyWords}
use Rattle.sci_core.specs.State.{blank}
use Rattle.sci_core.specs.Whole.{WholeLine, state_of, opened_whole}
use Rattle.sci_cache.specs.Nodes.{NodeState, node_state}
use Rattle.sci_script.specs.declared.commands.Opening.{Opening}
use Rattle.sci_script.specs.Openings.{zeros, content_of}
use Rattle.sci_script.specs.Shared.{Shared}

-- what stands where there is no line, and where there is no node
abbrev pub no_line : WholeLine AnyWords
no_line = opened_whole (record {}) 0 0 blank

abbrev pub no_node : NodeState
no_node = node_state 0 0 0 false [] None

-- the memory that these lines and nodes are
abbrev pub shared : ℕ → List (WholeLine AnyWords) → List NodeState → Shared
shared width wholes nodes = record { width = width; lines = λ line. state_of (slice_index_or wholes line no_line); nodes = λ node. slice_index_or nodes node no_node }

-- the first n lines of so many nodes, with their openings, that nobody has used
abbrev pub AreOpened : ℕ → List Opening → ℕ → List (WholeLine AnyWords) → Type 0
AreOpened nodes openings n wholes =
    (k : ℕ) (d : WholeLine AnyWords) → k < n → slice_index_or wholes k d ≡ opened_whole (slice_index_or wholes k d).keep k nodes (content_of k zeros openings)

-- the first n nodes of so many lines, with this capacity, which have used none
abbrev pub AreIdle : ℕ → ℕ → ℕ → List NodeState → Type 0
AreIdle lines capacity n nodes = (k : ℕ) (d : NodeState) → k < n → slice_index_or nodes k d ≡ node_state k lines capacity false [] None
