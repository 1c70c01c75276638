-- The event that a turn's plan asks for suits what was loaded in front of it: a tag that it asks for stands so.
use Rattle.std.proofs.Common.{◌≡◌, ℕ, suc, Bool, true, false, List, length, Option, Some, None, refl, sym, ap, subst, arith, eqb}
use Rattle.std.specs.Prelude.{if◌then◌else◌, is_some}
use Rattle.std.proofs.lemmas.Bool.Decides.{nat_tests}
use Rattle.sci_words.specs.declared.tags.Kind.{Kind}
use Rattle.sci_words.specs.declared.tags.Tag.{Tag}
use Rattle.sci_words.specs.declared.memory.Mem.{Mem}
use Rattle.sci_words.specs.declared.memory.MemState.{MemState}
use Rattle.sci_core.specs.declared.lines.Line.{Line}
use Rattle.sci_core.specs.declared.pending.Pending.{Pending}
use Rattle.sci_core.specs.declared.events.Event.{Event}
use Rattle.sci_core.specs.declared.rows.Change.{Change}
use Rattle.sci_core.specs.Found.{names, is_fresh, is_dirty, is_settled_body}
use Rattle.sci_core.specs.State.{word, held_word}
use Rattle.sci_core.specs.Row.{attached, purging_word, leaving_word, purged_word, settled_word}
use Rattle.sci_core.specs.Step.{look_of, look_back}
use Rattle.sci_core.specs.Table.{row_of}
use Rattle.sci_core.specs.Table.Purging.{can_count}
use Rattle.sci_ops.specs.declared.answers.Answer.{Answer}
use Rattle.sci_ops.specs.declared.goals.Goal.{Goal}
use Rattle.sci_ops.specs.declared.goals.Write.{Write}
use Rattle.sci_ops.specs.Change.{change, StoresFitting}
use Rattle.sci_ops.specs.Plan.{Plan, own, mem, tag, exchange, ends}
use Rattle.sci_ops.specs.Table.{is_same, is_free, may_adopt, is_behind, is_before, idle_as, idle_at, prepend, purging_at, purge, promote, return_home, leave, tell_successor, tell_predecessor, roll_on, roll, converting, write, attach, in_queue, turn_in, turn_again}
use Rattle.sci_port.specs.declared.watching.Load.{Load}
use Rattle.sci_laws.specs.FollowedTurns.{fit}
use Rattle.sci_laws.specs.ReadBack.{AreWords, IsLink, IsOfOwn}

module _ (m : Mem) (tags : ℕ → Tag) (me : ℕ) where
  -- an event on the own tag, which stands so
  abbrev pub OnOwn : Pending → Option Load → Event → Tag → Type 0
  OnOwn p load event found = IsOfOwn load × (found ≡ tags me) × (after : Tag) × ((row_of me p event).change ≡ Change.OfTag me found after)

  -- an event on the tag of the node that was loaded last, which stands so
  abbrev pub OnOther : Pending → Option Load → Event → Tag → Type 0
  OnOther p load event found = (x : ℕ) × (load ≡ Some (Load.Tag x (Some found))) × (found ≡ tags x) × (after : Tag) × ((row_of me p event).change ≡ Change.OfTag x found after)

  abbrev pub Suits : Pending → Option Load → Event → Type 0
  Suits p load Event.Look = ⊥
  Suits p load (Event.Queue forw) = IsLink forw
  Suits p load (Event.Requeue forw) = IsLink forw
  Suits p load (Event.Written words) = AreWords words
  Suits p load (Event.Hold found) = OnOwn p load (Event.Hold found) found
  Suits p load (Event.Convert found) = OnOwn p load (Event.Convert found) found
  Suits p load (Event.BeginPurge found) = OnOwn p load (Event.BeginPurge found) found
  Suits p load (Event.Roll found) = OnOwn p load (Event.Roll found) found
  Suits p load (Event.Leave found) = OnOwn p load (Event.Leave found) found
  Suits p load (Event.AttachFresh found) = OnOther p load (Event.AttachFresh found) found
  Suits p load (Event.AttachDirty found) = OnOther p load (Event.AttachDirty found) found
  Suits p load (Event.PurgeOne found) = OnOther p load (Event.PurgeOne found) found
  Suits p load (Event.TellSuccessor found) = OnOther p load (Event.TellSuccessor found) found
  Suits p load (Event.TellPredecessor found) = OnOther p load (Event.TellPredecessor found) found
  Suits p load (Event.Adopt found) = OnOther p load (Event.Adopt found) found
  Suits p load (Event.Promote found) = OnOther p load (Event.Promote found) found
  Suits p load event = Unit {0}

  -- the plan makes no more looks, and its event suits
  abbrev pub Says : Pending → Plan → Option Load → Type 0
  Says p (own next) load = ⊥
  Says p (mem next) load = Says p (next m) (Some (Load.Mem (Some m)))
  Says p (tag x next) load = Says p (next (tags x)) (Some (Load.Tag x (Some (tags x))))
  Says p (exchange event end) load = Suits p load event
  Says p (ends turn) load = Unit {0}

  -- the plan makes one look at most, before all else
  abbrev pub SaysTurn : Pending → Plan → Type 0
  SaysTurn p (own next) = Says (look_of p (tags me)) (next (tags me)) (Some (Load.Own (Some (tags me))))
  SaysTurn p (mem next) = Says p (next m) (Some (Load.Mem (Some m)))
  SaysTurn p (tag x next) = Says p (next (tags x)) (Some (Load.Tag x (Some (tags x))))
  SaysTurn p (exchange event end) = Suits p None event
  SaysTurn p (ends turn) = Unit {0}

  if_says : (b : Bool) (p : Pending) (x y : Plan) (load : Option Load) → Says p x load → Says p y load → Says p (if b then x else y) load
  if_says true p x y load f g = f
  if_says false p x y load f g = g

  module _ (link : IsLink m.forw) where
    idle_says : (goal : Goal) (k : Kind) → Says Pending.Idle (idle_as goal me (tags me) k) (Some (Load.Own (Some (tags me))))
    idle_says Goal.Load Kind.Invalid = link
    idle_says (Goal.Write w) Kind.Invalid = link
    idle_says Goal.Evict Kind.Invalid = tt
    idle_says Goal.Load Kind.Fresh = (tt, refl, held_word (tags me), refl)
    idle_says (Goal.Write w) Kind.Fresh = if_says (names me m.forw) Pending.Idle _ _ _ (tt, refl, word Kind.Convert (tags me).forw None, refl) tt
    idle_says Goal.Evict Kind.Fresh = if_says (names me m.forw) Pending.Idle _ _ _ (tt, refl, leaving_word (tags me).forw, refl) tt
    idle_says Goal.Load Kind.Dirty = (tt, refl, held_word (tags me), refl)
    idle_says (Goal.Write w) Kind.Dirty = (tt, refl, purging_word (tags me).forw, refl)
    idle_says Goal.Evict Kind.Dirty = if_says (names me m.forw) Pending.Idle _ _ _ (tt, refl, leaving_word (tags me).forw, refl) tt
    idle_says Goal.Load Kind.Valid = (tt, refl, held_word (tags me), refl)
    idle_says (Goal.Write w) Kind.Valid = (tt, refl, word Kind.Roll (tags me).forw (tags me).back, refl)
    idle_says Goal.Evict Kind.Valid = (tt, refl, word Kind.Roll (tags me).forw (tags me).back, refl)
    idle_says goal _ = tt

    prepend_says : (goal : Goal) (p : Pending) (st : MemState) (load : Option Load) → Says p (prepend goal st) load
    prepend_says Goal.Load p MemState.Home load = tt
    prepend_says (Goal.Write w) p MemState.Home load = tt
    prepend_says Goal.Evict p MemState.Home load = tt
    prepend_says goal p MemState.Fresh load = tt
    prepend_says goal p MemState.Gone load = tt

    in_queue_says : (goal : Goal) (f : Option ℕ) (d : Bool) (c : Option Line) → SaysTurn (Pending.InQueue f d c) (in_queue goal f d (is_some c))
    in_queue_says goal None d c = tt
    in_queue_says goal (Some x) true None =
        if_says (is_free is_dirty (tags x)) (Pending.InQueue (Some x) true None) _ _ _ (x, refl, refl, held_word (attached me (tags x)), refl) tt
    in_queue_says goal (Some x) true (Some l) = tt
    in_queue_says goal (Some x) false None = tt
    in_queue_says goal (Some x) false (Some l) =
        if_says (is_free is_fresh (tags x)) (Pending.InQueue (Some x) false (Some l)) _ _ _ (x, refl, refl, attached me (tags x), refl) tt

    converting_says : (f : Option ℕ) (turned : Bool) → SaysTurn (Pending.Converting f turned) (converting me turned)
    converting_says f true = tt
    converting_says f false = if_says (names me m.forw) (Pending.Converting f false) _ _ _ tt tt

    write_says : (goal : Goal) (l : Line) (p : Pending) (load : Option Load) → fit l.words → StoresFitting fit goal → Says p (write goal l) load
    write_says Goal.Load l p load words stores = tt
    write_says Goal.Evict l p load words stores = tt
    write_says (Goal.Write w) l p load words stores = if_says (can_count l) p _ _ load (stores l.words words.0 words) tt

    purging_says : (goal : Goal) (l : Line) (f : Option ℕ) (load : Option Load) → fit l.words → StoresFitting fit goal → Says (Pending.Purging l (Some f)) (purging_at goal me l f) load
    purging_says goal l None load words stores = write_says goal l (Pending.Purging l (Some None)) load words stores
    purging_says goal l (Some x) load words stores =
        let p = Pending.Purging l (Some (Some x)) in
        if_says (is_free is_settled_body (tags x)) p _ _ _ (x, refl, refl, purged_word (tags x), refl)
        (if_says (may_adopt me (tags x)) p _ _ _ (x, refl, refl, word Kind.Roll (tags x).forw (Some me), refl) tt)

    return_says : (d : Bool) (p : Pending) (load : Option Load) → Says p (return_home d) load
    return_says true p load = tt
    return_says false p load = tt

    leave_says : (d : Bool) (l : Line) (f : Option ℕ) (load : Option Load) → Says (Pending.Leaving d l (Some f)) (leave me d f) load
    leave_says d l None load = return_says d (Pending.Leaving d l (Some None)) load
    leave_says d l (Some x) load = if_says (is_behind me (tags x)) (Pending.Leaving d l (Some (Some x))) _ _ _ (x, refl, refl, settled_word d (tags x).forw, refl) tt

    roll_on_says : (told : Bool) (f : Option ℕ) (b : ℕ) (load : Option Load) → Says (Pending.Rolling told (Some (f, b))) (roll_on me (Some b)) load
    roll_on_says told f b load = if_says (is_before me (tags b)) (Pending.Rolling told (Some (f, b))) _ _ _ (b, refl, refl, word (tags b).kind f (tags b).back, refl) tt

    roll_says : (told : Bool) (f : Option ℕ) (b : ℕ) (load : Option Load) → Says (Pending.Rolling told (Some (f, b))) (roll me told f (Some b)) load
    roll_says false (Some x) b load = if_says (is_behind me (tags x)) (Pending.Rolling false (Some (Some x, b))) _ _ _ (x, refl, refl, word Kind.Valid (tags x).forw (Some b), refl) tt
    roll_says false None b load = roll_on_says false None b load
    roll_says true f b load = roll_on_says true f b load

    rolling_says : (told : Bool) (seen : Option (Option ℕ × ℕ)) (f back : Option ℕ) (b : ℕ) (load : Option Load) → back ≡ Some b → Says (look_back told seen f back) (roll me told f back) load
    rolling_says told seen f back b load is =
        subst (λ (x : Option ℕ). Says (look_back told seen f x) (roll me told f x) load) (sym is) (roll_says told f b load)

    -- a turn of a node in this pending step; a line that it is to write fits, and one that rolls has an entry in front
    turn_says : (goal : Goal) (p : Pending) → ((l : Line) (seen : Option (Option ℕ)) → p ≡ Pending.Purging l seen → fit l.words) → StoresFitting fit goal
        → ((told : Bool) (seen : Option (Option ℕ × ℕ)) → p ≡ Pending.Rolling told seen → (b : ℕ) × ((tags me).back ≡ Some b)) → SaysTurn p (turn_in goal me p)
    turn_says goal Pending.Idle lines stores rolls = if_says (tags me).held Pending.Idle _ _ _ tt (idle_says goal (tags me).kind)
    turn_says goal (Pending.Holding w l) lines stores rolls = tt
    turn_says goal (Pending.Queueing f) lines stores rolls =
        if_says m.lent (Pending.Queueing f) _ _ _ tt (if_says (is_same m.forw f) (Pending.Queueing f) _ _ _ (prepend_says goal (Pending.Queueing f) m.state _) link)
    turn_says goal (Pending.Fetching f d l) lines stores rolls = tt
    turn_says goal (Pending.InQueue f d c) lines stores rolls = in_queue_says goal f d c
    turn_says goal (Pending.Copying x w l) lines stores rolls = tt
    turn_says goal (Pending.Ready f d l) lines stores rolls = tt
    turn_says goal (Pending.Converting f turned) lines stores rolls = converting_says f turned
    turn_says goal (Pending.Purging l seen) lines stores rolls = purging_says goal l (tags me).forw _ (lines l seen refl) stores
    turn_says goal (Pending.Advancing l x w) lines stores rolls = tt
    turn_says goal (Pending.Clearing l x w) lines stores rolls = tt
    turn_says goal (Pending.Leaving d l seen) lines stores rolls =
        if_says (names me m.forw) (Pending.Leaving d l (Some (tags me).forw)) _ _ _ (leave_says d l (tags me).forw _) tt
    turn_says goal (Pending.Promoted d l x) lines stores rolls = if_says (names me m.forw) (Pending.Promoted d l x) _ _ _ tt tt
    turn_says goal (Pending.WritingBack l) lines stores rolls = tt
    turn_says goal (Pending.Parted f) lines stores rolls = tt
    turn_says goal (Pending.Rolling told seen) lines stores rolls = let (b, is) = rolls told seen refl in rolling_says told seen (tags me).forw (tags me).back b _ is
    turn_says goal (Pending.Unlinked f b) lines stores rolls = tt

    pub again_says : (goal : Goal) (answer : Option Answer) (p : Pending) → ((l : Line) (seen : Option (Option ℕ)) → p ≡ Pending.Purging l seen → fit l.words) → StoresFitting fit goal
        → ((told : Bool) (seen : Option (Option ℕ × ℕ)) → p ≡ Pending.Rolling told seen → (b : ℕ) × ((tags me).back ≡ Some b)) → SaysTurn p (turn_again goal answer me p)
    again_says goal (Some answer) p lines stores rolls = tt
    again_says goal None p lines stores rolls = turn_says goal p lines stores rolls
