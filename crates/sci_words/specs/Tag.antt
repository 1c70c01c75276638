-- The rules and the names of tags.
use Rattle.std.specs.Prelude.{ℕ, Bool, true, false, not, ◌&&◌, ◌||◌, ltb, is_some, is_none, Option, Some, None, List, codes, if◌then◌else◌}
use Rattle.sci_words.specs.declared.tags.Kind.{Kind}
use Rattle.sci_words.specs.declared.tags.Kind.TheVariants.{Invalid, Queued, Fresh, Dirty, Convert, Purging, Leaving, Valid, Roll, Purged}
use Rattle.sci_words.specs.declared.tags.Tag.{Tag}

-- the kind of an entry that is in no sharing list (James, Laundrie, Gjessing and Sohi 1990)
abbrev pub is_invalid : Kind → Bool
is_invalid Invalid = true
is_invalid _ = false

-- the kinds of the entries behind the fronts of a sharing list (James, Laundrie, Gjessing and Sohi 1990; this project's profile)
abbrev pub is_body : Kind → Bool
is_body Valid = true
is_body Roll = true
is_body Purged = true
is_body _ = false

-- the kinds of the entries whose bytes may be copied from behind the held bit (this project's profile)
abbrev pub may_be_held : Kind → Bool
may_be_held Fresh = true
may_be_held Dirty = true
may_be_held Valid = true
may_be_held _ = false

-- a body entry lacks its back link (this project's profile)
abbrev pub misses_link : Tag → Bool
misses_link t = is_body t.kind && is_none t.back

-- an entry that isn't in the body has a back link, or an Invalid one a forward link (this project's profile)
abbrev pub has_unwanted_link : Tag → Bool
has_unwanted_link t = (not (is_body t.kind) && is_some t.back) || (is_invalid t.kind && is_some t.forw)

-- an entry is held that is neither Fresh nor Dirty nor Valid (this project's profile)
abbrev pub is_held_wrongly : Tag → Bool
is_held_wrongly t = t.held && not (may_be_held t.kind)

-- the rules of links and of the held bit, all three (this project's profile of IEEE Std 1596-1992)
abbrev pub tag_well_formed : Tag → Bool
tag_well_formed t = not (misses_link t) && not (has_unwanted_link t) && not (is_held_wrongly t)

-- a link names a node below `n`, or none
abbrev pub link_below : ℕ → Option ℕ → Bool
link_below n None = true
link_below n (Some node) = ltb node n

-- both links of a tag name nodes below `n`, or none
abbrev pub tag_links_below : ℕ → Tag → Bool
tag_links_below n t = link_below n t.forw && link_below n t.back

-- a tag's name in listings, by its kind and by whether an entry follows (IEEE Std 1596-1992; this project's profile)
abbrev pub name_of : Tag → List ℕ
name_of t = elim t.kind [
  | Invalid ↦ codes "INVALID"
  | Queued ↦ codes "QUEUED"
  | Fresh ↦ (if is_some t.forw then codes "HEAD_FRESH" else codes "ONLY_FRESH")
  | Dirty ↦ (if is_some t.forw then codes "HEAD_DIRTY" else codes "ONLY_DIRTY")
  | Convert ↦ codes "CONVERT"
  | Purging ↦ codes "PURGING"
  | Leaving ↦ codes "LEAVING"
  | Valid ↦ (if is_some t.forw then codes "MID_VALID" else codes "TAIL_VALID")
  | Roll ↦ codes "ROLL"
  | Purged ↦ codes "PURGED"
]
