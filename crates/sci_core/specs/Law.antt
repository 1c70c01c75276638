-- The law of a line by ranks: how lawfulness is proved. The definitions that contracts cite follow from it.
use Rattle.std.specs.Prelude.{◌≡◌, ◌≢◌, ℕ, ◌<◌, ◌≤◌, Bool, true, false, Option, Some, None}
use Rattle.sci_words.specs.declared.tags.Kind.{Kind}
use Rattle.sci_words.specs.declared.memory.MemState.{MemState}
use Rattle.sci_core.specs.declared.lines.Line.{Line}
use Rattle.sci_core.specs.Shape.{Shape, Phase, Idle, Holding, Queueing, Fetching, InQueue, Copying, Ready, Converting, Purging, Advancing, Clearing, Leaving, Promoted, WritingBack, Parted, Rolling, Unlinked}

-- what proofs know beside the state
pub record Witness : Type 0 where
  -- the nearer the head, the higher; 0 is outside
  pub rank : ℕ → ℕ
  -- the last front
  pub last_front : ℕ
  -- who clears a purged entry that has left the chain, and who copies a held one
  pub clearer : ℕ → ℕ
  pub copier : ℕ → ℕ
  -- who has memory's slot
  pub borrower : ℕ
  pub value : Line

abbrev pub is_front : Kind → Bool
is_front Kind.Queued = true
is_front Kind.Leaving = true
is_front Kind.Fresh = true
is_front Kind.Dirty = true
is_front Kind.Convert = true
is_front Kind.Purging = true
is_front Kind.Invalid = false
is_front Kind.Valid = false
is_front Kind.Roll = false
is_front Kind.Purged = false

abbrev pub is_body : Kind → Bool
is_body Kind.Queued = false
is_body Kind.Leaving = false
is_body Kind.Fresh = false
is_body Kind.Dirty = false
is_body Kind.Convert = false
is_body Kind.Purging = false
is_body Kind.Invalid = false
is_body Kind.Valid = true
is_body Kind.Roll = true
is_body Kind.Purged = true

-- the kinds that a node's own word may have in a step
abbrev pub suits : Phase → Kind → Bool
suits Idle Kind.Invalid = true
suits Idle Kind.Fresh = true
suits Idle Kind.Dirty = true
suits Idle Kind.Valid = true
suits Idle Kind.Purged = true
suits Idle _ = false
suits Holding Kind.Fresh = true
suits Holding Kind.Dirty = true
suits Holding Kind.Valid = true
suits Holding _ = false
suits Queueing Kind.Queued = true
suits Queueing _ = false
suits Fetching Kind.Queued = true
suits Fetching _ = false
suits InQueue Kind.Queued = true
suits InQueue _ = false
suits Copying Kind.Queued = true
suits Copying _ = false
suits Ready Kind.Queued = true
suits Ready _ = false
suits Converting Kind.Convert = true
suits Converting _ = false
suits Purging Kind.Purging = true
suits Purging _ = false
suits Advancing Kind.Purging = true
suits Advancing _ = false
suits Clearing Kind.Purging = true
suits Clearing _ = false
suits Leaving Kind.Leaving = true
suits Leaving _ = false
suits Promoted Kind.Leaving = true
suits Promoted _ = false
suits WritingBack Kind.Leaving = true
suits WritingBack _ = false
suits Parted Kind.Leaving = true
suits Parted _ = false
suits Rolling Kind.Roll = true
suits Rolling _ = false
suits Unlinked Kind.Roll = true
suits Unlinked _ = false

-- the steps whose own word has the forward link that they keep
abbrev pub keeps_forw : Phase → Bool
keeps_forw Queueing = true
keeps_forw Fetching = true
keeps_forw InQueue = true
keeps_forw Copying = true
keeps_forw Ready = true
keeps_forw Converting = true
keeps_forw Advancing = true
keeps_forw Promoted = true
keeps_forw WritingBack = true
keeps_forw Parted = true
keeps_forw Unlinked = true
keeps_forw _ = false

-- the steps of a node outside
abbrev pub is_outside : Phase → Bool
is_outside Queueing = true
is_outside WritingBack = true
is_outside Parted = true
is_outside Unlinked = true
is_outside _ = false

-- what a node outside may be
abbrev pub may_be_outside : Phase → Kind → Bool
may_be_outside Idle Kind.Invalid = true
may_be_outside Idle Kind.Purged = true
may_be_outside Queueing _ = true
may_be_outside WritingBack _ = true
may_be_outside Parted _ = true
may_be_outside Unlinked _ = true
may_be_outside _ _ = false

-- the steps of a front that has a front behind it
abbrev pub waits : Phase → Bool
waits Fetching = true
waits InQueue = true
waits Promoted = true
waits _ = false

abbrev pub has_attached : Phase → Bool
has_attached Copying = true
has_attached Ready = true
has_attached _ = false

-- no back link names a node in one of these
abbrev pub is_parting : Phase → Bool
is_parting Promoted = true
is_parting WritingBack = true
is_parting Parted = true
is_parting Unlinked = true
is_parting _ = false

abbrev pub purges : Phase → Bool
purges Advancing = true
purges Clearing = true
purges _ = false

abbrev pub looks : Phase → Bool
looks Purging = true
looks Leaving = true
looks Rolling = true
looks _ = false

-- the steps with the own slot in hand
abbrev pub has_slot : Phase → Bool
has_slot Idle = false
has_slot Converting = false
has_slot Rolling = false
has_slot Unlinked = false
has_slot _ = true

abbrev pub has_memory_slot : Phase → Bool
has_memory_slot Fetching = true
has_memory_slot WritingBack = true
has_memory_slot _ = false

-- the steps with a flag that says dirty or turned
abbrev pub has_dirty : Phase → Bool
has_dirty Fetching = true
has_dirty InQueue = true
has_dirty Ready = true
has_dirty Leaving = true
has_dirty Promoted = true
has_dirty Converting = true
has_dirty _ = false

-- the steps of a front under FRESH that keep the value
abbrev pub keeps_value : Phase → Bool
keeps_value Fetching = true
keeps_value InQueue = true
keeps_value Ready = true
keeps_value Promoted = true
keeps_value _ = false

abbrev pub is_valid : Kind → Bool
is_valid Kind.Fresh = true
is_valid Kind.Dirty = true
is_valid Kind.Convert = true
is_valid Kind.Purging = true
is_valid Kind.Valid = true
is_valid _ = false

abbrev pub can_be_held : Kind → Bool
can_be_held Kind.Fresh = true
can_be_held Kind.Dirty = true
can_be_held Kind.Valid = true
can_be_held _ = false

-- under GONE the last front is one of these
abbrev pub is_dirty_front : Kind → Phase → Bool → Bool
is_dirty_front Kind.Dirty _ _ = true
is_dirty_front Kind.Purging _ _ = true
is_dirty_front Kind.Convert _ f = f
is_dirty_front Kind.Leaving _ f = f
is_dirty_front Kind.Queued Fetching f = f
is_dirty_front Kind.Queued InQueue f = f
is_dirty_front Kind.Queued Copying _ = true
is_dirty_front Kind.Queued Ready f = f
is_dirty_front _ _ _ = false

-- the order of the chain
pub record Order (head : Option ℕ) (forw : ℕ → Option ℕ) (rank : ℕ → ℕ) : Type 0 where
  pub empty : (i : ℕ) → head ≡ None → rank i ≡ 0
  pub head_in : (h : ℕ) → head ≡ Some h → 0 < rank h
  pub head_top : (h i : ℕ) → head ≡ Some h → rank i ≤ rank h
  pub apart : (i j : ℕ) → 0 < rank i → rank i ≡ rank j → i ≡ j
  pub next_in : (i j : ℕ) → 0 < rank i → forw i ≡ Some j → 0 < rank j
  pub next_below : (i j : ℕ) → 0 < rank i → forw i ≡ Some j → rank j < rank i
  pub next_first : (i j m : ℕ) → 0 < rank i → forw i ≡ Some j → rank m < rank i → rank m ≤ rank j
  pub last : (i m : ℕ) → 0 < rank i → forw i ≡ None → rank m < rank i → rank m ≡ 0

-- fronts down to last_front, then body entries
pub record Fronts (kind : ℕ → Kind) (forw : ℕ → Option ℕ) (phase : ℕ → Phase) (rank : ℕ → ℕ) (last_front : ℕ) : Type 0 where
  pub last_front_in : (i : ℕ) → 0 < rank i → 0 < rank last_front
  pub front : (i : ℕ) → 0 < rank i → rank last_front ≤ rank i → is_front (kind i) ≡ true
  pub body : (i : ℕ) → 0 < rank i → rank i < rank last_front → is_body (kind i) ≡ true
  pub queue : (i : ℕ) → rank last_front < rank i → waits (phase i) ≡ true
  pub attached : (j : ℕ) → 0 < rank last_front → kind last_front ≡ Kind.Queued → forw last_front ≡ Some j → has_attached (phase last_front) ≡ true
  pub leaves : 0 < rank last_front → kind last_front ≡ Kind.Leaving → phase last_front ≡ Leaving
  pub purged : (i : ℕ) → 0 < rank i → kind i ≡ Kind.Purged → phase last_front ≡ Advancing
  pub purged_next : (i : ℕ) → 0 < rank i → kind i ≡ Kind.Purged → forw last_front ≡ Some i

-- a node's own word
pub record Own (kind : ℕ → Kind) (held : ℕ → Bool) (forw back : ℕ → Option ℕ) (phase : ℕ → Phase) (kept seen_back : ℕ → Option ℕ) : Type 0 where
  pub suited : (i : ℕ) → suits (phase i) (kind i) ≡ true
  pub as_kept : (i : ℕ) → keeps_forw (phase i) ≡ true → forw i ≡ kept i
  pub back_kept : (i : ℕ) → phase i ≡ Unlinked → back i ≡ seen_back i
  pub front_back : (i : ℕ) → is_front (kind i) ≡ true → back i ≡ None
  pub body_back : (i : ℕ) → is_body (kind i) ≡ true → back i ≢ None
  pub can_hold : (i : ℕ) → held i ≡ true → can_be_held (kind i) ≡ true

-- the nodes outside
pub record Outside (kind : ℕ → Kind) (phase : ℕ → Phase) (kept : ℕ → Option ℕ) (rank clearer : ℕ → ℕ) : Type 0 where
  pub outside : (i : ℕ) → is_outside (phase i) ≡ true → rank i ≡ 0
  pub may_be : (i : ℕ) → rank i ≡ 0 → may_be_outside (phase i) (kind i) ≡ true
  pub kinds : (i : ℕ) → 0 < rank i → kind i ≢ Kind.Invalid
  pub cleared : (i : ℕ) → rank i ≡ 0 → kind i ≡ Kind.Purged → phase (clearer i) ≡ Clearing
  pub cleared_by : (i : ℕ) → rank i ≡ 0 → kind i ≡ Kind.Purged → kept (clearer i) ≡ Some i

-- back links. One is stale if it names a node outside or in front of last_front
pub record Backs (kind : ℕ → Kind) (forw back : ℕ → Option ℕ) (phase : ℕ → Phase) (rank : ℕ → ℕ) (last_front : ℕ) : Type 0 where
  pub ahead : (i j : ℕ) → 0 < rank i → back i ≡ Some j → 0 < rank j → rank i < rank j
  pub known_in : (i j : ℕ) → 0 < rank i → back i ≡ Some j → kind last_front ≢ Kind.Purging → 0 < rank j
  pub known : (i j : ℕ) → 0 < rank i → back i ≡ Some j → kind last_front ≢ Kind.Purging → rank j ≤ rank last_front
  -- what stands between an entry and its back link is in Roll, and has the same back link, unless it is the first entry behind a purging front
  pub skip_roll : (i j m : ℕ) → 0 < rank i → back i ≡ Some j → rank i < rank m → rank m < rank last_front → rank m < rank j → kind m ≡ Kind.Roll
  pub skip_roll_out : (i j m : ℕ) → 0 < rank i → back i ≡ Some j → rank i < rank m → rank m < rank last_front → rank j ≡ 0 → kind m ≡ Kind.Roll
  pub skip_back : (i j m : ℕ) → 0 < rank i → back i ≡ Some j → rank i < rank m → rank m < rank last_front → rank m < rank j → rank j ≤ rank last_front → back m ≡ Some j
  pub skip_stale : (i j m : ℕ) → 0 < rank i → back i ≡ Some j → rank i < rank m → rank m < rank last_front → rank m < rank j → forw last_front ≢ Some m → back m ≡ Some j
  pub skip_stale_out : (i j m : ℕ) → 0 < rank i → back i ≡ Some j → rank i < rank m → rank m < rank last_front → rank j ≡ 0 → forw last_front ≢ Some m → back m ≡ Some j
  pub parting : (i j : ℕ) → 0 < rank i → back i ≡ Some j → is_parting (phase j) ≡ false

-- what a node has seen
pub record Seen (kind : ℕ → Kind) (forw back : ℕ → Option ℕ) (phase : ℕ → Phase) (flag seen : ℕ → Bool) (seen_forw seen_back : ℕ → Option ℕ) (rank : ℕ → ℕ) (last_front : ℕ) : Type 0 where
  pub none_seen : (i : ℕ) → looks (phase i) ≡ true → seen i ≡ true → seen_forw i ≡ None → forw i ≡ None
  pub forw_seen : (i x : ℕ) → looks (phase i) ≡ true → seen i ≡ true → seen_forw i ≡ Some x → 0 < rank x → rank x < rank i → forw i ≡ Some x
  pub back_some : (i : ℕ) → phase i ≡ Rolling → seen i ≡ true → seen_back i ≢ None
  pub back_ahead : (i x : ℕ) → phase i ≡ Rolling → seen i ≡ true → seen_back i ≡ Some x → 0 < rank x → rank i < rank x
  pub back_parting : (i x : ℕ) → phase i ≡ Rolling → seen i ≡ true → seen_back i ≡ Some x → is_parting (phase x) ≡ false
  pub back_seen : (i : ℕ) → phase i ≡ Rolling → seen i ≡ true → kind last_front ≢ Kind.Purging → seen_back i ≡ back i
  pub back_behind : (i : ℕ) → phase i ≡ Rolling → seen i ≡ true → forw last_front ≢ Some i → seen_back i ≡ back i
  pub back_front : (i : ℕ) → phase i ≡ Rolling → seen i ≡ true → back i ≢ Some last_front → seen_back i ≡ back i
  pub told_seen : (i : ℕ) → phase i ≡ Rolling → flag i ≡ true → seen i ≡ true
  pub told_forw : (i : ℕ) → phase i ≡ Rolling → flag i ≡ true → seen_forw i ≡ forw i
  pub told_some : (i : ℕ) → phase i ≡ Rolling → flag i ≡ true → forw i ≢ None
  pub told : (i j : ℕ) → phase i ≡ Rolling → flag i ≡ true → forw i ≡ Some j → back j ≢ Some i
  pub untold : (i j m : ℕ) → phase i ≡ Rolling → flag i ≡ false → forw i ≡ Some j → back j ≡ Some m → m ≡ i
  pub unlinked : (p x : ℕ) → phase p ≡ Purging → seen p ≡ true → seen_forw p ≡ Some x → phase x ≡ Unlinked → back x ≡ Some p

-- the words that a step keeps stand
pub record Words (kind : ℕ → Kind) (forw back : ℕ → Option ℕ) (phase : ℕ → Phase) (kept : ℕ → Option ℕ) (word_kind : ℕ → Kind) (word_held : ℕ → Bool) (word_forw word_back : ℕ → Option ℕ) : Type 0 where
  pub victim : (i x : ℕ) → purges (phase i) ≡ true → kept i ≡ Some x → kind x ≡ Kind.Purged
  pub victim_forw : (i x : ℕ) → purges (phase i) ≡ true → kept i ≡ Some x → forw x ≡ word_forw i
  pub victim_back : (i x : ℕ) → purges (phase i) ≡ true → kept i ≡ Some x → back x ≡ word_back i
  pub victim_kind : (i : ℕ) → purges (phase i) ≡ true → word_kind i ≡ Kind.Purged
  pub victim_held : (i : ℕ) → purges (phase i) ≡ true → word_held i ≡ false
  pub copied : (i x : ℕ) → phase i ≡ Copying → kept i ≡ Some x → kind x ≡ Kind.Valid
  pub copied_forw : (i x : ℕ) → phase i ≡ Copying → kept i ≡ Some x → forw x ≡ word_forw i
  pub copied_back : (i x : ℕ) → phase i ≡ Copying → kept i ≡ Some x → back x ≡ Some i
  pub copied_kind : (i : ℕ) → phase i ≡ Copying → word_kind i ≡ Kind.Valid
  pub copied_held : (i : ℕ) → phase i ≡ Copying → word_held i ≡ true
  pub copied_word_back : (i : ℕ) → phase i ≡ Copying → word_back i ≡ Some i
  pub held_kind : (i : ℕ) → phase i ≡ Holding → kind i ≡ word_kind i
  pub held_forw : (i : ℕ) → phase i ≡ Holding → forw i ≡ word_forw i
  pub held_back : (i : ℕ) → phase i ≡ Holding → back i ≡ word_back i

-- who has which slot
pub record Slots (state : MemState) (lent : Bool) (head : Option ℕ) (held : ℕ → Bool) (phase : ℕ → Phase) (kept : ℕ → Option ℕ) (memory_slot : Option Line) (slot : ℕ → Option Line) (copier : ℕ → ℕ) (borrower : ℕ) : Type 0 where
  pub memory_out : lent ≡ true → memory_slot ≡ None
  pub memory_home : lent ≡ false → memory_slot ≢ None
  pub lends : (i : ℕ) → has_memory_slot (phase i) ≡ true → lent ≡ true
  pub lends_one : (i : ℕ) → has_memory_slot (phase i) ≡ true → borrower ≡ i
  pub borrower_has : lent ≡ true → has_memory_slot (phase borrower) ≡ true
  pub fetching : (i : ℕ) → phase i ≡ Fetching → head ≡ Some i
  pub writing : (i : ℕ) → phase i ≡ WritingBack → state ≡ MemState.Home
  pub in_hand : (i : ℕ) → has_slot (phase i) ≡ true → slot i ≡ None
  pub at_home : (i : ℕ) → has_slot (phase i) ≡ false → held i ≡ false → slot i ≢ None
  pub held_out : (i : ℕ) → held i ≡ true → slot i ≡ None
  pub held_by : (i : ℕ) → held i ≡ true → phase i ≢ Holding → phase (copier i) ≡ Copying
  pub held_for : (i : ℕ) → held i ≡ true → phase i ≢ Holding → kept (copier i) ≡ Some i
  pub holding : (i : ℕ) → phase i ≡ Holding → held i ≡ true
  pub copied_held : (i x : ℕ) → phase i ≡ Copying → kept i ≡ Some x → held x ≡ true
  pub copied_idle : (i x : ℕ) → phase i ≡ Copying → kept i ≡ Some x → phase x ≡ Idle
  pub copied_by : (i x : ℕ) → phase i ≡ Copying → kept i ≡ Some x → copier x ≡ i

-- what the memory word says of the fronts
pub record Mode (state : MemState) (head : Option ℕ) (kind : ℕ → Kind) (phase : ℕ → Phase) (kept : ℕ → Option ℕ) (flag copy : ℕ → Bool) (line : ℕ → Line) (rank : ℕ → ℕ) (last_front : ℕ) (value : Line) : Type 0 where
  pub home : state ≡ MemState.Home → head ≡ None
  pub not_home : head ≡ None → state ≡ MemState.Home
  pub not_dirty : (i : ℕ) → state ≡ MemState.Fresh → 0 < rank i → kind i ≢ Kind.Dirty
  pub not_purging : (i : ℕ) → state ≡ MemState.Fresh → 0 < rank i → kind i ≢ Kind.Purging
  pub not_copying : (i : ℕ) → state ≡ MemState.Fresh → 0 < rank i → phase i ≢ Copying
  pub not_flagged : (i : ℕ) → state ≡ MemState.Fresh → 0 < rank i → has_dirty (phase i) ≡ true → flag i ≡ false
  pub has_copy : (i : ℕ) → state ≡ MemState.Fresh → 0 < rank i → phase i ≡ InQueue → copy i ≡ true
  pub has_value : (i : ℕ) → state ≡ MemState.Fresh → 0 < rank i → keeps_value (phase i) ≡ true → line i ≡ value
  pub gone : state ≡ MemState.Gone → is_dirty_front (kind last_front) (phase last_front) (flag last_front) ≡ true
  pub gone_flag : (i : ℕ) → state ≡ MemState.Gone → rank last_front < rank i → flag i ≡ true
  pub gone_queue : (i : ℕ) → state ≡ MemState.Gone → rank last_front < rank i → phase i ≢ Promoted → phase i ≡ InQueue
  pub gone_copy : (i : ℕ) → state ≡ MemState.Gone → rank last_front < rank i → phase i ≡ InQueue → copy i ≡ false
  pub last_copy : (i : ℕ) → phase i ≡ InQueue → kept i ≡ None → copy i ≡ true
  pub last_value : (i : ℕ) → phase i ≡ InQueue → kept i ≡ None → line i ≡ value

-- one value
pub record Values (state : MemState) (kind : ℕ → Kind) (phase : ℕ → Phase) (memory_slot : Option Line) (slot : ℕ → Option Line) (line : ℕ → Line) (value : Line) : Type 0 where
  pub memory : (l : Line) → state ≢ MemState.Gone → memory_slot ≡ Some l → l ≡ value
  pub lent_line : (i : ℕ) → has_memory_slot (phase i) ≡ true → line i ≡ value
  pub sharer : (i : ℕ) (l : Line) → is_valid (kind i) ≡ true → slot i ≡ Some l → l ≡ value
  pub hand : (i : ℕ) → is_valid (kind i) ≡ true → has_slot (phase i) ≡ true → line i ≡ value
  pub copying : (i : ℕ) → phase i ≡ Copying → line i ≡ value
  pub leaving : (i : ℕ) → phase i ≡ Leaving → line i ≡ value
  pub ready : (i : ℕ) → phase i ≡ Ready → line i ≡ value

pub record Law (s : Shape) (g : Witness) : Type 0 where
  pub order : Order s.head s.forw g.rank
  pub fronts : Fronts s.kind s.forw s.phase g.rank g.last_front
  pub own : Own s.kind s.held s.forw s.back s.phase s.kept s.seen_back
  pub outside : Outside s.kind s.phase s.kept g.rank g.clearer
  pub backs : Backs s.kind s.forw s.back s.phase g.rank g.last_front
  pub sees : Seen s.kind s.forw s.back s.phase s.flag s.seen s.seen_forw s.seen_back g.rank g.last_front
  pub words : Words s.kind s.forw s.back s.phase s.kept s.word_kind s.word_held s.word_forw s.word_back
  pub slots : Slots s.state s.lent s.head s.held s.phase s.kept s.memory_slot s.slot g.copier g.borrower
  pub mode : Mode s.state s.head s.kind s.phase s.kept s.flag s.copy s.line g.rank g.last_front g.value
  pub values : Values s.state s.kind s.phase s.memory_slot s.slot s.line g.value

-- every link names a node of the line
pub record Below (nodes : ℕ) (s : Shape) : Type 0 where
  pub head : (j : ℕ) → s.head ≡ Some j → j < nodes
  pub forw : (i j : ℕ) → s.forw i ≡ Some j → j < nodes
  pub back : (i j : ℕ) → s.back i ≡ Some j → j < nodes
  pub kept : (i j : ℕ) → s.kept i ≡ Some j → j < nodes
  pub word_forw : (i j : ℕ) → s.word_forw i ≡ Some j → j < nodes
  pub seen_forw : (i j : ℕ) → s.seen_forw i ≡ Some j → j < nodes
  pub seen_back : (i j : ℕ) → s.seen_back i ≡ Some j → j < nodes
