-- What a row asks of the tag that its event found.
use Rattle.std.specs.Prelude.{ℕ, Bool, true, false, ◌&&◌, not, ◌==◌, Option, Some, None}
use Rattle.sci_words.specs.declared.tags.Kind.{Kind}
use Rattle.sci_words.specs.declared.tags.Tag.{Tag}
use Rattle.sci_words.specs.Tag.{tag_well_formed}

-- a link names this node
abbrev pub names : ℕ → Option ℕ → Bool
names me (Some x) = x == me
names me None = false

abbrev pub is_fresh : Kind → Bool
is_fresh Kind.Fresh = true
is_fresh _ = false

abbrev pub is_dirty : Kind → Bool
is_dirty Kind.Dirty = true
is_dirty _ = false

abbrev pub is_settled_front : Kind → Bool
is_settled_front Kind.Fresh = true
is_settled_front Kind.Dirty = true
is_settled_front _ = false

abbrev pub is_settled_body : Kind → Bool
is_settled_body Kind.Valid = true
is_settled_body _ = false

abbrev pub is_settled : Kind → Bool
is_settled Kind.Fresh = true
is_settled Kind.Dirty = true
is_settled Kind.Valid = true
is_settled _ = false

abbrev pub is_rolling : Kind → Bool
is_rolling Kind.Roll = true
is_rolling _ = false

-- an entry of this kind may be told its new successor
abbrev pub can_be_told : Kind → Bool
can_be_told Kind.Fresh = true
can_be_told Kind.Dirty = true
can_be_told Kind.Valid = true
can_be_told Kind.Purging = true
can_be_told Kind.Leaving = true
can_be_told Kind.Roll = true
can_be_told _ = false

-- an event may carry this word: it is well formed and not held
abbrev pub is_found : (Kind → Bool) → Tag → Bool
is_found kinds t = kinds t.kind && (not t.held && tag_well_formed t)
