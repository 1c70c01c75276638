-- Coherence of one line, in the subject's words. Culler and Singh; IEEE Std 1596-1992.
use Rattle.std.specs.Prelude.{◌≡◌, ◌≢◌, ◌⊎◌, ℕ, true, Some, List, Contains}
use Rattle.sci_words.specs.declared.tags.Kind.{Kind}
use Rattle.sci_core.specs.declared.lines.Line.{Line}
use Rattle.sci_core.specs.State.{State}
use Rattle.sci_core.specs.Law.{is_body}
use Rattle.sci_core.specs.Chain.{IsChain, IsBehind}
use Rattle.sci_core.specs.Sharers.{IsValidSharer, IsDirtySharer, MayWrite, IsSoleSharer}
use Rattle.sci_core.specs.BackLinks.{AreNeighbours}
use Rattle.sci_core.specs.Copies.{IsCopy}

pub record IsCoherent (n : ℕ) (s : State) (nodes : List ℕ) (v : Line) : Type 0 where
  -- the forward links from memory's word reach each valid sharer, and each node at most once
  pub chain : IsChain n s nodes
  pub reached : (i : ℕ) → IsValidSharer s i → Contains nodes i
  -- back links agree with them, except behind an entry that is in Roll or Purging
  pub back_links : (a b : ℕ) → AreNeighbours s nodes a b → is_body (s.tags b).kind ≡ true → (s.tags a).kind ≢ Kind.Roll → (s.tags a).kind ≢ Kind.Purging → (s.tags b).back ≡ Some a
  -- at most one sharer is dirty, and it is the first valid one
  pub one_dirty : (i j : ℕ) → IsDirtySharer s i → IsDirtySharer s j → i ≡ j
  pub dirty_first : (i j : ℕ) → IsDirtySharer s i → IsValidSharer s j → (i ≡ j) ⊎ IsBehind nodes i j
  -- all valid copies are one value
  pub one_value : (i : ℕ) → IsValidSharer s i → IsCopy s i v
  -- who may write is the only valid sharer
  pub writer : (i : ℕ) → MayWrite s i → IsSoleSharer s i
