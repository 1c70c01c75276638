-- What each pending step says of the node's own tag word. This project's profile.
use Rattle.std.specs.Prelude.{◌≡◌, ◌≢◌, ℕ, Bool, true, false, Some, None, List, Contains}
use Rattle.sci_words.specs.declared.tags.Kind.{Kind}
use Rattle.sci_words.specs.declared.tags.Tag.{Tag}
use Rattle.sci_core.specs.declared.pending.Pending.{Pending}
use Rattle.sci_core.specs.State.{State, word, held_word}
use Rattle.sci_core.specs.Shape.{phase_of}
use Rattle.sci_core.specs.Law.{can_be_held, is_outside}

-- the kinds of a word that others may change: settled, Invalid or Purged
abbrev pub is_at_rest : Kind → Bool
is_at_rest Kind.Invalid = true
is_at_rest Kind.Purged = true
is_at_rest Kind.Fresh = true
is_at_rest Kind.Dirty = true
is_at_rest Kind.Valid = true
is_at_rest _ = false

-- the own word of a node in this step
abbrev pub IsOwnWord : Pending → Tag → Type 0
IsOwnWord Pending.Idle t = is_at_rest t.kind ≡ true
IsOwnWord (Pending.Holding w line) t = (t ≡ held_word w) × (can_be_held w.kind ≡ true)
IsOwnWord (Pending.Queueing forw) t = t ≡ word Kind.Queued forw None
IsOwnWord (Pending.Fetching forw dirty line) t = t ≡ word Kind.Queued forw None
IsOwnWord (Pending.InQueue forw dirty copy) t = (t ≡ word Kind.Queued forw None) × (forw ≡ None → copy ≢ None)
IsOwnWord (Pending.Copying forw w line) t = t ≡ word Kind.Queued (Some forw) None
IsOwnWord (Pending.Ready forw dirty line) t = t ≡ word Kind.Queued forw None
IsOwnWord (Pending.Converting forw turned) t = t ≡ word Kind.Convert forw None
IsOwnWord (Pending.Purging line seen) t = t ≡ word Kind.Purging t.forw None
IsOwnWord (Pending.Advancing line victim w) t = t ≡ word Kind.Purging (Some victim) None
IsOwnWord (Pending.Clearing line victim w) t = t ≡ word Kind.Purging t.forw None
IsOwnWord (Pending.Leaving dirty line seen) t = t ≡ word Kind.Leaving t.forw None
IsOwnWord (Pending.Promoted dirty line succ) t = t ≡ word Kind.Leaving (Some succ) None
IsOwnWord (Pending.WritingBack line) t = t ≡ word Kind.Leaving None None
IsOwnWord (Pending.Parted forw) t = t ≡ word Kind.Leaving forw None
IsOwnWord (Pending.Rolling told seen) t = t ≡ word Kind.Roll t.forw t.back
IsOwnWord (Pending.Unlinked forw back) t = t ≡ word Kind.Roll forw (Some back)

pub record IsInStep (s : State) (nodes : List ℕ) : Type 0 where
  pub own_word : (i : ℕ) → IsOwnWord (s.steps i) (s.tags i)
  -- a node in Queueing, WritingBack, Parted or Unlinked is not in the chain
  pub outside : (i : ℕ) → is_outside (phase_of (s.steps i)) ≡ true → Contains nodes i → ⊥
