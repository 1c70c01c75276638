-- The table of turns: what a turn does in each pending step, towards each goal. This project's profile of IEEE Std 1596-1992.
use Rattle.std.specs.Prelude.{ℕ, ◌+◌, Bool, true, false, ◌&&◌, not, nat_eq, Option, Some, None, is_some, if◌then◌else◌}
use Rattle.std.specs.Option.{option_eq}
use Rattle.sci_words.specs.declared.tags.Kind.{Kind}
use Rattle.sci_words.specs.declared.tags.Tag.{Tag}
use Rattle.sci_words.specs.declared.memory.Mem.{Mem}
use Rattle.sci_words.specs.declared.memory.MemState.{MemState}
use Rattle.sci_core.specs.declared.lines.Line.{Line}
use Rattle.sci_core.specs.declared.pending.Pending.{Pending}
use Rattle.sci_core.specs.declared.events.Event.{Event}
use Rattle.sci_core.specs.Found.{names, is_fresh, is_dirty, is_settled_body, is_rolling, can_be_told}
use Rattle.sci_core.specs.Table.Purging.{can_count}
use Rattle.sci_ops.specs.declared.goals.Goal.{Goal}
use Rattle.sci_ops.specs.declared.answers.Answer.{Answer}
use Rattle.sci_ops.specs.declared.answers.Turn.{Turn}
use Rattle.sci_ops.specs.declared.answers.End.{End}
use Rattle.sci_ops.specs.Operation.{Operation}
use Rattle.sci_ops.specs.Change.{change}
use Rattle.sci_ops.specs.Plan.{Plan, own, mem, tag, exchange, ends}

-- two links are the same
abbrev pub is_same : Option ℕ → Option ℕ → Bool
is_same = option_eq nat_eq

abbrev pub wait : Plan
wait = ends Turn.Waiting

-- an exchange after which the operation goes on
abbrev pub move : Event → Plan
move event = exchange event End.Moved

-- memory's link names the node, or it doesn't
abbrev pub if_front : ℕ → Plan → Plan → Plan
if_front me this other = mem (λ m. if names me m.forw then this else other)

-- the tag is of one of these kinds, and isn't held
abbrev pub is_free : (Kind → Bool) → Tag → Bool
is_free kinds t = kinds t.kind && not t.held

-- what the exchange ends with that gives a line to a load
abbrev pub seen_end : Goal → End
seen_end Goal.Load = End.Seen
seen_end _ = End.Moved

-- what the exchange ends with that makes the node's tag Invalid
abbrev pub out_end : Goal → End
out_end Goal.Evict = End.Out
out_end _ = End.Moved

-- it queues up before the head that memory names
abbrev pub enter : Plan
enter = mem (λ m. move (Event.Queue m.forw))

-- Idle with an Invalid tag: an eviction has nothing to do, a load or a write enters the list
abbrev pub invalid : Goal → Plan
invalid Goal.Evict = ends (Turn.Done Answer.Out)
invalid _ = enter

-- Idle with a Fresh tag
abbrev pub fresh : Goal → ℕ → Tag → Plan
fresh Goal.Load me t = move (Event.Hold t)
fresh (Goal.Write write) me t = if_front me (move (Event.Convert t)) wait
fresh Goal.Evict me t = if_front me (move (Event.Leave t)) wait

-- Idle with a Dirty tag
abbrev pub dirty : Goal → ℕ → Tag → Plan
dirty Goal.Load me t = move (Event.Hold t)
dirty (Goal.Write write) me t = move (Event.BeginPurge t)
dirty Goal.Evict me t = if_front me (move (Event.Leave t)) wait

-- Idle with a Valid tag: a write leaves the list, to enter it at the front
abbrev pub valid : Goal → Tag → Plan
valid Goal.Load t = move (Event.Hold t)
valid _ t = move (Event.Roll t)

abbrev pub idle_as : Goal → ℕ → Tag → Kind → Plan
idle_as goal me t Kind.Invalid = invalid goal
idle_as goal me t Kind.Fresh = fresh goal me t
idle_as goal me t Kind.Dirty = dirty goal me t
idle_as goal me t Kind.Valid = valid goal t
idle_as goal me t _ = wait

abbrev pub idle_at : Goal → ℕ → Tag → Plan
idle_at goal me t = if t.held then wait else idle_as goal me t t.kind

abbrev pub idle : Goal → ℕ → Plan
idle goal me = own (idle_at goal me)

-- how it enters where there is no list: a writer dirty, so that memory turns to GONE at once
abbrev pub home_event : Goal → Event
home_event (Goal.Write write) = Event.HomeWrite
home_event _ = Event.PrependValid

abbrev pub prepend : Goal → MemState → Plan
prepend goal MemState.Home = move (home_event goal)
prepend goal MemState.Fresh = move Event.PrependValid
prepend goal MemState.Gone = move Event.PrependGone

abbrev pub queueing_at : Goal → Option ℕ → Mem → Plan
queueing_at goal f m = if m.lent then wait else (if is_same m.forw f then prepend goal m.state else move (Event.Requeue m.forw))

-- Queueing: it enters the list before the head that it found, or looks for the head again
abbrev pub queueing : Goal → Option ℕ → Plan
queueing goal f = mem (queueing_at goal f)

-- it may be attached: memory's bytes are those of a Fresh head, and were copied
abbrev pub may_attach_fresh : Bool → Bool → Tag → Bool
may_attach_fresh d has_copy t = (not d && has_copy) && is_free is_fresh t

-- it may be attached: the bytes of a Dirty head are its own, and are still to be copied
abbrev pub may_attach_dirty : Bool → Bool → Tag → Bool
may_attach_dirty d has_copy t = (d && not has_copy) && is_free is_dirty t

abbrev pub attach : Bool → Bool → Tag → Plan
attach d has_copy t = if may_attach_fresh d has_copy t then move (Event.AttachFresh t) else (if may_attach_dirty d has_copy t then move (Event.AttachDirty t) else wait)

-- InQueue: it attaches the old head behind itself, or settles where there was none
abbrev pub in_queue : Goal → Option ℕ → Bool → Bool → Plan
in_queue goal None d has_copy = exchange Event.Settle (seen_end goal)
in_queue goal (Some x) d has_copy = tag x (attach d has_copy)

-- Converting: it turns the home to GONE, or gives up where it is no longer the head
abbrev pub converting : ℕ → Bool → Plan
converting me true = move Event.Converted
converting me false = if_front me (move Event.FreshToGone) (move Event.Unconverted)

-- it writes into the line that it keeps, if the stamp can count one more write
abbrev pub write : Goal → Line → Plan
write (Goal.Write w) l = if can_count l then exchange (Event.Written (Some (change w l.words))) (End.Wrote l.words (l.stamp + 1)) else exchange (Event.Written None) End.Spent
write _ l = move (Event.Written None)

-- the entry is in Roll, and doesn't know the node as the one in front of it
abbrev pub may_adopt : ℕ → Tag → Bool
may_adopt me t = is_free is_rolling t && not (names me t.back)

abbrev pub purge : ℕ → Tag → Plan
purge me t = if is_free is_settled_body t then move (Event.PurgeOne t) else (if may_adopt me t then move (Event.Adopt t) else wait)

abbrev pub purging_at : Goal → ℕ → Line → Option ℕ → Plan
purging_at goal me l None = write goal l
purging_at goal me l (Some x) = tag x (purge me)

-- Purging: it purges the next entry, or writes where there is none
abbrev pub purging : Goal → ℕ → Line → Plan
purging goal me l = own (λ t. purging_at goal me l t.forw)

-- the entry is Valid, and stands behind the node
abbrev pub is_behind : ℕ → Tag → Bool
is_behind me t = is_free is_settled_body t && names me t.back

-- the entry may be told its new successor, and stands in front of the node
abbrev pub is_before : ℕ → Tag → Bool
is_before me t = is_free can_be_told t && names me t.forw

abbrev pub promote : ℕ → Tag → Plan
promote me t = if is_behind me t then move (Event.Promote t) else wait

abbrev pub return_home : Bool → Plan
return_home true = move Event.ReturnHomeDirty
return_home false = move Event.ReturnHomeFresh

abbrev pub leave : ℕ → Bool → Option ℕ → Plan
leave me d None = return_home d
leave me d (Some x) = tag x (promote me)

-- Leaving: it promotes the next entry or returns the line home, or stays where it is no longer the head
abbrev pub leaving : ℕ → Bool → Plan
leaving me d = own (λ t. if_front me (leave me d t.forw) (move Event.Stay))

-- Promoted: it hands the home on, or enters again where it is no longer the head
abbrev pub promoted : ℕ → Plan
promoted me = if_front me (move Event.PassOn) (move Event.ReEnter)

abbrev pub tell_successor : ℕ → Tag → Plan
tell_successor me t = if is_behind me t then move (Event.TellSuccessor t) else wait

abbrev pub tell_predecessor : ℕ → Tag → Plan
tell_predecessor me t = if is_before me t then move (Event.TellPredecessor t) else wait

abbrev pub roll_on : ℕ → Option ℕ → Plan
roll_on me (Some x) = tag x (tell_predecessor me)
roll_on me None = wait

abbrev pub roll : ℕ → Bool → Option ℕ → Option ℕ → Plan
roll me false (Some x) b = tag x (tell_successor me)
roll me told f b = roll_on me b

-- Rolling: it tells the entry behind it, then the one in front of it
abbrev pub rolling : ℕ → Bool → Plan
rolling me told = own (λ t. roll me told t.forw t.back)

-- the table, a line each pending step
abbrev pub turn_in : Goal → ℕ → Pending → Plan
turn_in goal me Pending.Idle = idle goal me
turn_in goal me (Pending.Holding w l) = exchange Event.Unhold (seen_end goal)
turn_in goal me (Pending.Queueing f) = queueing goal f
turn_in goal me (Pending.Fetching f d l) = move Event.ReturnMemory
turn_in goal me (Pending.InQueue f d copy) = in_queue goal f d (is_some copy)
turn_in goal me (Pending.Copying x w l) = move Event.ReturnCopy
turn_in goal me (Pending.Ready f d l) = exchange Event.Settle (seen_end goal)
turn_in goal me (Pending.Converting f turned) = converting me turned
turn_in goal me (Pending.Purging l seen) = purging goal me l
turn_in goal me (Pending.Advancing l x w) = move Event.Advance
turn_in goal me (Pending.Clearing l x w) = move Event.Clear
turn_in goal me (Pending.Leaving d l seen) = leaving me d
turn_in goal me (Pending.Promoted d l x) = promoted me
turn_in goal me (Pending.WritingBack l) = move Event.ReturnMemory
turn_in goal me (Pending.Parted f) = exchange Event.Left (out_end goal)
turn_in goal me (Pending.Rolling told seen) = rolling me told
turn_in goal me (Pending.Unlinked f b) = exchange Event.Rolled (out_end goal)

-- an operation that has ended gives its answer again
abbrev pub turn_again : Goal → Option Answer → ℕ → Pending → Plan
turn_again goal (Some answer) me p = ends (Turn.Done answer)
turn_again goal None me p = turn_in goal me p

abbrev pub turn_of : Operation → ℕ → Pending → Plan
turn_of op me p = turn_again op.goal op.answer me p

-- the operation after a turn
abbrev pub after_turn : Operation → Turn → Operation
after_turn op (Turn.Done answer) = record op { answer = Some answer }
after_turn op _ = op

-- an operation that has taken no turn
abbrev pub begun : Goal → Operation
begun goal = record { goal = goal; answer = None }
