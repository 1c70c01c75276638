-- How far a line is from rest: what is left to do, and what that can make anew. This project's profile.
use Rattle.std.specs.Prelude.{ℕ, ◌+◌, ◌*◌, Bool, true, false, ◌&&◌, ◌||◌, not, cond, Option, Some, None}
use Rattle.std.proofs.Common.{zero, suc}
use Rattle.sci_words.specs.declared.tags.Tag.{Tag}
use Rattle.sci_core.specs.declared.pending.Pending.{Pending}
use Rattle.sci_core.specs.Costs.{measure}
use Rattle.sci_core.specs.Found.{is_rolling}
use Rattle.sci_core.specs.State.{State}
use Rattle.sci_core.specs.Waiting.{is_purging}
use Rattle.sci_ops.specs.Table.{is_same}

-- the steps of a node that is still to change the head that memory names, or to end a purge
abbrev pub stirs : Pending → Bool
stirs (Pending.Queueing f) = true
stirs (Pending.Leaving d l q) = true
stirs (Pending.Promoted d l x) = true
stirs (Pending.Converting f t) = true
stirs (Pending.Purging l q) = true
stirs (Pending.Advancing l x w) = true
stirs (Pending.Clearing l x w) = true
stirs _ = false

-- a newcomer that found another head than memory names now
abbrev pub is_late : Option ℕ → Pending → Bool
is_late head (Pending.Queueing f) = not (is_same f head)
is_late head _ = false

abbrev pub names_purger : (ℕ → Tag) → Option ℕ → Bool
names_purger tags (Some b) = is_purging (tags b).kind
names_purger tags None = false

-- an entry in Roll whose back link is no purging node
abbrev pub is_loose : (ℕ → Tag) → Tag → Bool
is_loose tags t = is_rolling t.kind && not (names_purger tags t.back)

-- the node may requeue, or be adopted
abbrev pub is_stale : Option ℕ → (ℕ → Tag) → (ℕ → Pending) → ℕ → Bool
is_stale head tags steps i = is_late head (steps i) || is_loose tags (tags i)

abbrev pub is_stirring : (ℕ → Pending) → ℕ → Bool
is_stirring steps i = stirs (steps i)

-- how many of the first n numbers have the property
abbrev pub count : (ℕ → Bool) → ℕ → ℕ
count f zero = 0
count f (suc n) = cond (f n) 1 0 + count f n

-- at most n * n + 9 * n of n nodes: a node that stirs may make all of them stale, once
abbrev pub ranking : ℕ → State → ℕ
ranking n s = measure n s + n * count (is_stirring s.steps) n + count (is_stale s.memory.forw s.tags s.steps) n
