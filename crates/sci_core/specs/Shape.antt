-- A line's state as functions of the node, field by field: what the law and its proofs read.
use Rattle.std.specs.Prelude.{ℕ, Bool, true, false, Option, Some, None}
use Rattle.std.specs.Option.{unwrap_or}
use Rattle.sci_words.specs.declared.tags.Kind.{Kind}
use Rattle.sci_words.specs.declared.tags.Tag.{Tag}
use Rattle.sci_words.specs.declared.memory.MemState.{MemState}
use Rattle.sci_core.specs.declared.lines.Line.{Line}
use Rattle.sci_core.specs.declared.pending.Pending.{Pending}
use Rattle.sci_core.specs.State.{State, invalid, blank}

-- a pending step without what it keeps
pub data Phase : Type 0 where
  Idle : Phase
  Holding : Phase
  Queueing : Phase
  Fetching : Phase
  InQueue : Phase
  Copying : Phase
  Ready : Phase
  Converting : Phase
  Purging : Phase
  Advancing : Phase
  Clearing : Phase
  Leaving : Phase
  Promoted : Phase
  WritingBack : Phase
  Parted : Phase
  Rolling : Phase
  Unlinked : Phase

-- the node that a link names, or 0
abbrev pub link : Option ℕ → ℕ
link None = 0
link (Some n) = n

pub record Shape : Type 0 where
  pub state : MemState
  pub lent : Bool
  pub head : Option ℕ
  pub kind : ℕ → Kind
  pub held : ℕ → Bool
  pub forw : ℕ → Option ℕ
  pub back : ℕ → Option ℕ
  pub phase : ℕ → Phase
  -- the forward link, victim or successor that the step keeps
  pub kept : ℕ → Option ℕ
  -- dirty, turned or told
  pub flag : ℕ → Bool
  -- the word that the step keeps
  pub word_kind : ℕ → Kind
  pub word_held : ℕ → Bool
  pub word_forw : ℕ → Option ℕ
  pub word_back : ℕ → Option ℕ
  pub seen : ℕ → Bool
  pub seen_forw : ℕ → Option ℕ
  pub seen_back : ℕ → Option ℕ
  -- a slot at home with its line, or None
  pub memory_slot : Option Line
  pub slot : ℕ → Option Line
  -- whether a step in the queue keeps a line, and the line that a step keeps
  pub copy : ℕ → Bool
  pub line : ℕ → Line

abbrev pub phase_of : Pending → Phase
phase_of Pending.Idle = Idle
phase_of (Pending.Holding w l) = Holding
phase_of (Pending.Queueing f) = Queueing
phase_of (Pending.Fetching f d l) = Fetching
phase_of (Pending.InQueue f d c) = InQueue
phase_of (Pending.Copying f w l) = Copying
phase_of (Pending.Ready f d l) = Ready
phase_of (Pending.Converting f t) = Converting
phase_of (Pending.Purging l s) = Purging
phase_of (Pending.Advancing l v w) = Advancing
phase_of (Pending.Clearing l v w) = Clearing
phase_of (Pending.Leaving d l s) = Leaving
phase_of (Pending.Promoted d l s) = Promoted
phase_of (Pending.WritingBack l) = WritingBack
phase_of (Pending.Parted f) = Parted
phase_of (Pending.Rolling t s) = Rolling
phase_of (Pending.Unlinked f b) = Unlinked

abbrev pub kept_of : Pending → Option ℕ
kept_of (Pending.Queueing f) = f
kept_of (Pending.Fetching f d l) = f
kept_of (Pending.InQueue f d c) = f
kept_of (Pending.Copying f w l) = Some f
kept_of (Pending.Ready f d l) = f
kept_of (Pending.Converting f t) = f
kept_of (Pending.Advancing l v w) = Some v
kept_of (Pending.Clearing l v w) = Some v
kept_of (Pending.Promoted d l s) = Some s
kept_of (Pending.Parted f) = f
kept_of (Pending.Unlinked f b) = f
kept_of _ = None

abbrev pub flag_of : Pending → Bool
flag_of (Pending.Fetching f d l) = d
flag_of (Pending.InQueue f d c) = d
flag_of (Pending.Ready f d l) = d
flag_of (Pending.Converting f t) = t
flag_of (Pending.Leaving d l s) = d
flag_of (Pending.Promoted d l s) = d
flag_of (Pending.Rolling t s) = t
flag_of _ = false

abbrev pub word_of : Pending → Tag
word_of (Pending.Holding w l) = w
word_of (Pending.Copying f w l) = w
word_of (Pending.Advancing l v w) = w
word_of (Pending.Clearing l v w) = w
word_of _ = invalid

abbrev pub has_seen : Pending → Bool
has_seen (Pending.Purging l (Some f)) = true
has_seen (Pending.Leaving d l (Some f)) = true
has_seen (Pending.Rolling t (Some p)) = true
has_seen _ = false

abbrev pub seen_forw_of : Pending → Option ℕ
seen_forw_of (Pending.Purging l (Some f)) = f
seen_forw_of (Pending.Leaving d l (Some f)) = f
seen_forw_of (Pending.Rolling t (Some p)) = p.0
seen_forw_of _ = None

abbrev pub seen_back_of : Pending → Option ℕ
seen_back_of (Pending.Rolling t (Some p)) = Some p.1
seen_back_of (Pending.Unlinked f b) = Some b
seen_back_of _ = None

abbrev pub has_copy : Pending → Bool
has_copy (Pending.InQueue f d (Some l)) = true
has_copy _ = false

-- the line that a step keeps
abbrev pub kept_line : Pending → Option Line
kept_line (Pending.Holding w line) = Some line
kept_line (Pending.Fetching forw dirty line) = Some line
kept_line (Pending.InQueue forw dirty copy) = copy
kept_line (Pending.Copying forw w line) = Some line
kept_line (Pending.Ready forw dirty line) = Some line
kept_line (Pending.Purging line seen) = Some line
kept_line (Pending.Advancing line victim w) = Some line
kept_line (Pending.Clearing line victim w) = Some line
kept_line (Pending.Leaving dirty line seen) = Some line
kept_line (Pending.Promoted dirty line succ) = Some line
kept_line (Pending.WritingBack line) = Some line
kept_line _ = None

-- the same, or a blank one
abbrev pub line_of : Pending → Line
line_of p = unwrap_or (kept_line p) blank

abbrev pub shape : State → Shape
shape s = record {
  state = s.memory.state;
  lent = s.memory.lent;
  head = s.memory.forw;
  kind = λ i. (s.tags i).kind;
  held = λ i. (s.tags i).held;
  forw = λ i. (s.tags i).forw;
  back = λ i. (s.tags i).back;
  phase = λ i. phase_of (s.steps i);
  kept = λ i. kept_of (s.steps i);
  flag = λ i. flag_of (s.steps i);
  word_kind = λ i. (word_of (s.steps i)).kind;
  word_held = λ i. (word_of (s.steps i)).held;
  word_forw = λ i. (word_of (s.steps i)).forw;
  word_back = λ i. (word_of (s.steps i)).back;
  seen = λ i. has_seen (s.steps i);
  seen_forw = λ i. seen_forw_of (s.steps i);
  seen_back = λ i. seen_back_of (s.steps i);
  memory_slot = s.memory_slot;
  slot = s.slots;
  copy = λ i. has_copy (s.steps i);
  line = λ i. line_of (s.steps i);
}
