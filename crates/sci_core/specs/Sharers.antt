-- Who has the bytes of a line: the entries that are valid, and those that are dirty. IEEE Std 1596-1992.
use Rattle.std.specs.Prelude.{◌≡◌, ℕ, Bool, true, false, None}
use Rattle.sci_words.specs.declared.tags.Kind.{Kind}
use Rattle.sci_core.specs.State.{State}
use Rattle.sci_core.specs.Law.{is_valid}

-- a valid sharer is Fresh, Dirty, Convert, Purging or Valid
abbrev pub IsValidSharer : State → ℕ → Type 0
IsValidSharer s i = is_valid (s.tags i).kind ≡ true

abbrev pub is_dirty_sharer : Kind → Bool
is_dirty_sharer Kind.Dirty = true
is_dirty_sharer Kind.Purging = true
is_dirty_sharer _ = false

-- a dirty sharer is Dirty or Purging
abbrev pub IsDirtySharer : State → ℕ → Type 0
IsDirtySharer s i = is_dirty_sharer (s.tags i).kind ≡ true

-- it may write: it is Purging, and nobody stands behind it
abbrev pub MayWrite : State → ℕ → Type 0
MayWrite s i = ((s.tags i).kind ≡ Kind.Purging) × ((s.tags i).forw ≡ None)

-- it is the only valid sharer
abbrev pub IsSoleSharer : State → ℕ → Type 0
IsSoleSharer s i = IsValidSharer s i × ((j : ℕ) → IsValidSharer s j → i ≡ j)
