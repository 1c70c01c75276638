-- A turn makes at most three loads.
use Rattle.std.proofs.Common.{ℕ, Bool, true, false, Option, Some, None}
use Rattle.std.specs.Prelude.{is_some, if◌then◌else◌}
use Rattle.sci_words.specs.declared.tags.Kind.{Kind}
use Rattle.sci_words.specs.declared.tags.Tag.{Tag}
use Rattle.sci_words.specs.declared.memory.MemState.{MemState}
use Rattle.sci_core.specs.declared.lines.Line.{Line}
use Rattle.sci_core.specs.declared.pending.Pending.{Pending}
use Rattle.sci_core.specs.Found.{is_settled_body}
use Rattle.sci_ops.specs.declared.goals.Goal.{Goal}
use Rattle.sci_ops.specs.declared.answers.Answer.{Answer}
use Rattle.sci_ops.specs.Operation.{Operation}
use Rattle.sci_ops.specs.Plan.{Plan, LoadsAtMost, by_own, by_mem, by_tag, by_exchange, by_end}
use Rattle.sci_ops.specs.Table.{is_free, may_adopt, may_attach_fresh, may_attach_dirty, invalid, fresh, dirty, valid, idle_as, prepend, write, purging_at, return_home, leave, roll_on, roll, turn_in, turn_again, turn_of}

either : {n : ℕ} (b : Bool) (p q : Plan) → LoadsAtMost n p → LoadsAtMost n q → LoadsAtMost n (if b then p else q)
either true p q h k = h
either false p q h k = k

invalid_loads : (goal : Goal) → LoadsAtMost 2 (invalid goal)
invalid_loads Goal.Evict = by_end
invalid_loads Goal.Load = by_mem (λ m. by_exchange)
invalid_loads (Goal.Write w) = by_mem (λ m. by_exchange)

fresh_loads : (goal : Goal) (me : ℕ) (t : Tag) → LoadsAtMost 2 (fresh goal me t)
fresh_loads Goal.Load me t = by_exchange
fresh_loads (Goal.Write w) me t = by_mem (λ m. either _ _ _ by_exchange by_end)
fresh_loads Goal.Evict me t = by_mem (λ m. either _ _ _ by_exchange by_end)

dirty_loads : (goal : Goal) (me : ℕ) (t : Tag) → LoadsAtMost 2 (dirty goal me t)
dirty_loads Goal.Load me t = by_exchange
dirty_loads (Goal.Write w) me t = by_exchange
dirty_loads Goal.Evict me t = by_mem (λ m. either _ _ _ by_exchange by_end)

valid_loads : (goal : Goal) (t : Tag) → LoadsAtMost 2 (valid goal t)
valid_loads Goal.Load t = by_exchange
valid_loads (Goal.Write w) t = by_exchange
valid_loads Goal.Evict t = by_exchange

idle_loads : (goal : Goal) (me : ℕ) (t : Tag) (k : Kind) → LoadsAtMost 2 (idle_as goal me t k)
idle_loads goal me t Kind.Invalid = invalid_loads goal
idle_loads goal me t Kind.Fresh = fresh_loads goal me t
idle_loads goal me t Kind.Dirty = dirty_loads goal me t
idle_loads goal me t Kind.Valid = valid_loads goal t
idle_loads goal me t _ = by_end

prepend_loads : (goal : Goal) (s : MemState) → LoadsAtMost 2 (prepend goal s)
prepend_loads goal MemState.Home = by_exchange
prepend_loads goal MemState.Fresh = by_exchange
prepend_loads goal MemState.Gone = by_exchange

write_loads : (goal : Goal) (l : Line) → LoadsAtMost 2 (write goal l)
write_loads Goal.Load l = by_exchange
write_loads (Goal.Write w) l = either _ _ _ by_exchange by_exchange
write_loads Goal.Evict l = by_exchange

purging_loads : (goal : Goal) (me : ℕ) (l : Line) (f : Option ℕ) → LoadsAtMost 2 (purging_at goal me l f)
purging_loads goal me l None = write_loads goal l
purging_loads goal me l (Some x) = by_tag (λ t. either (is_free is_settled_body t) _ _ by_exchange (either (may_adopt me t) _ _ by_exchange by_end))

return_home_loads : (d : Bool) → LoadsAtMost 1 (return_home d)
return_home_loads true = by_exchange
return_home_loads false = by_exchange

leave_loads : (me : ℕ) (d : Bool) (f : Option ℕ) → LoadsAtMost 1 (leave me d f)
leave_loads me d None = return_home_loads d
leave_loads me d (Some x) = by_tag (λ t. either _ _ _ by_exchange by_end)

roll_on_loads : (me : ℕ) (b : Option ℕ) → LoadsAtMost 2 (roll_on me b)
roll_on_loads me (Some x) = by_tag (λ t. either _ _ _ by_exchange by_end)
roll_on_loads me None = by_end

roll_loads : (me : ℕ) (told : Bool) (f b : Option ℕ) → LoadsAtMost 2 (roll me told f b)
roll_loads me false (Some x) b = by_tag (λ t. either _ _ _ by_exchange by_end)
roll_loads me false None b = roll_on_loads me b
roll_loads me true f b = roll_on_loads me b

in_loads : (goal : Goal) (me : ℕ) (p : Pending) → LoadsAtMost 3 (turn_in goal me p)
in_loads goal me Pending.Idle = by_own (λ t. either _ _ _ by_end (idle_loads goal me t t.kind))
in_loads goal me (Pending.Holding w l) = by_exchange
in_loads goal me (Pending.Queueing f) = by_mem (λ m. either _ _ _ by_end (either _ _ _ (prepend_loads goal m.state) by_exchange))
in_loads goal me (Pending.Fetching f d l) = by_exchange
in_loads goal me (Pending.InQueue None d c) = by_exchange
in_loads goal me (Pending.InQueue (Some x) d c) = by_tag (λ t. either (may_attach_fresh d (is_some c) t) _ _ by_exchange (either (may_attach_dirty d (is_some c) t) _ _ by_exchange by_end))
in_loads goal me (Pending.Copying x w l) = by_exchange
in_loads goal me (Pending.Ready f d l) = by_exchange
in_loads goal me (Pending.Converting f true) = by_exchange
in_loads goal me (Pending.Converting f false) = by_mem (λ m. either _ _ _ by_exchange by_exchange)
in_loads goal me (Pending.Purging l seen) = by_own (λ t. purging_loads goal me l t.forw)
in_loads goal me (Pending.Advancing l x w) = by_exchange
in_loads goal me (Pending.Clearing l x w) = by_exchange
in_loads goal me (Pending.Leaving d l seen) = by_own (λ t. by_mem (λ m. either _ _ _ (leave_loads me d t.forw) by_exchange))
in_loads goal me (Pending.Promoted d l x) = by_mem (λ m. either _ _ _ by_exchange by_exchange)
in_loads goal me (Pending.WritingBack l) = by_exchange
in_loads goal me (Pending.Parted f) = by_exchange
in_loads goal me (Pending.Rolling told seen) = by_own (λ t. roll_loads me told t.forw t.back)
in_loads goal me (Pending.Unlinked f b) = by_exchange

again_loads : (goal : Goal) (a : Option Answer) (me : ℕ) (p : Pending) → LoadsAtMost 3 (turn_again goal a me p)
again_loads goal (Some a) me p = by_end
again_loads goal None me p = in_loads goal me p

pub three_loads : (op : Operation) (me : ℕ) (p : Pending) → LoadsAtMost 3 (turn_of op me p)
three_loads op me p = again_loads op.goal op.answer me p
