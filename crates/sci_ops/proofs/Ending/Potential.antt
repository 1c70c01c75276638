-- How many turns an operation that works alone has left at most. Of the other nodes b are in the list; each that is purged
-- takes three turns, and is one less.
use Rattle.std.proofs.Common.{ℕ, ◌+◌, ◌*◌, true, false}
use Rattle.sci_words.specs.declared.tags.Kind.{Kind}
use Rattle.sci_core.specs.declared.pending.Pending.{Pending}
use Rattle.sci_core.specs.State.{State}
use Rattle.sci_ops.specs.declared.goals.Goal.{Goal}
use Rattle.sci_ops.proofs.Ending.Counting.{others}

-- once the node is Fresh or Dirty at the front: a load has ended
abbrev pub after_settling : Goal → ℕ → ℕ
after_settling (Goal.Write write) b = 3 * b + 6
after_settling _ b = 0

-- once the node has rolled out: an eviction has ended
abbrev pub after_rolling : Goal → ℕ → ℕ
after_rolling (Goal.Write write) b = 3 * b + 12
after_rolling _ b = 0

abbrev pub left_idle : Goal → ℕ → Kind → ℕ
left_idle Goal.Load b Kind.Invalid = 6
left_idle Goal.Load b _ = 2
left_idle (Goal.Write write) b Kind.Invalid = 3 * b + 12
left_idle (Goal.Write write) b Kind.Fresh = 3 * b + 6
left_idle (Goal.Write write) b Kind.Dirty = 3 * b + 4
left_idle (Goal.Write write) b _ = 3 * b + 16
left_idle Goal.Evict b Kind.Invalid = 1
left_idle Goal.Evict b _ = 4

-- by the pending step; the kind of the own tag tells only in Idle
abbrev pub turns_left : Goal → ℕ → Kind → Pending → ℕ
turns_left goal b k Pending.Idle = left_idle goal b k
turns_left goal b k (Pending.Holding w l) = 1
turns_left goal b k (Pending.Queueing f) = after_settling goal b + 5
turns_left goal b k (Pending.Fetching f d l) = after_settling goal b + 4
turns_left goal b k (Pending.InQueue f d c) = after_settling goal b + 3
turns_left goal b k (Pending.Copying x w l) = after_settling goal b + 2
turns_left goal b k (Pending.Ready f d l) = after_settling goal b + 1
turns_left goal b k (Pending.Converting f false) = 3 * b + 5
turns_left goal b k (Pending.Converting f true) = 3 * b + 4
turns_left goal b k (Pending.Purging l seen) = 3 * b + 3
turns_left goal b k (Pending.Advancing l x w) = 3 * b + 2
turns_left goal b k (Pending.Clearing l x w) = 3 * b + 1
turns_left goal b k (Pending.Leaving d l seen) = 3
turns_left goal b k (Pending.Promoted d l x) = 2
turns_left goal b k (Pending.WritingBack l) = 2
turns_left goal b k (Pending.Parted f) = 1
turns_left goal b k (Pending.Rolling false seen) = after_rolling goal b + 3
turns_left goal b k (Pending.Rolling true seen) = after_rolling goal b + 2
turns_left goal b k (Pending.Unlinked f c) = after_rolling goal b + 1

-- of a line of n nodes
abbrev pub potential : ℕ → Goal → ℕ → State → ℕ
potential n goal me s = turns_left goal (others me s.tags n) (s.tags me).kind (s.steps me)
