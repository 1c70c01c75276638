-- What passes in a turn, told as a log tells it, is what lines that stand so answer, and nothing else.
use Rattle.std.proofs.Common.{◌≡◌, ◌≢◌, ◌∙◌, ◌⊎◌, ℕ, suc, ◌+◌, ◌<◌, ◌≤◌, ◌^◌, ◌||◌, Bool, true, false, true≢false, cond, eq-eqb, eqb-true, lt-ltb, List, Option, Some, None, Result, Ok, Err, refl, sym, ap, subst, arith, eqb, inl, inr, ⊎_elim, codes}
use Rattle.std.specs.Prelude.{if◌then◌else◌, ◌==◌}
use Rattle.std.specs.Str.{bytes_eq}
use Rattle.std.proofs.lemmas.Bool.{cases_Bool}
use Rattle.sci_words.specs.declared.tags.Kind.{Kind}
use Rattle.sci_words.specs.declared.tags.Tag.{Tag}
use Rattle.sci_words.specs.declared.memory.Mem.{Mem}
use Rattle.sci_words.specs.declared.layouts.Layout.TheVariants.{Two}
use Rattle.sci_words.specs.Tag.{name_of, tag_links_below}
use Rattle.sci_words.specs.Mem.{mem_links_below}
use Rattle.sci_words.specs.Codes.{tag_code, mem_code}
use Rattle.sci_words.proofs.Codes.{tag_code_below, mem_code_below, link_further, tag_links_further}
use Rattle.sci_core.specs.declared.lines.Line.{Line}
use Rattle.sci_core.specs.declared.pending.Pending.{Pending}
use Rattle.sci_core.specs.declared.events.Event.{Event}
use Rattle.sci_core.specs.declared.outcomes.Outcome.{Outcome}
use Rattle.sci_core.specs.declared.outcomes.NotInTurn.{NotInTurn}
use Rattle.sci_core.specs.declared.rows.Change.{Change}
use Rattle.sci_core.specs.Answers.{Answers, Misses, Makes, IsDone, found_code, is_allowed, row_at}
use Rattle.sci_core.specs.Ranges.{ChangesBelow}
use Rattle.sci_core.specs.State.{State, update}
use Rattle.sci_core.specs.Step.{Finds, is_look, look_of, looked}
use Rattle.sci_core.specs.Table.{has_row, row_of}
use Rattle.sci_core.specs.WellFormed.{FindsWord, IsTag, IsMem}
use Rattle.sci_core.proofs.Answered.{update_same}
use Rattle.sci_ops.specs.declared.answers.Turn.{Turn}
use Rattle.sci_ops.specs.Plan.{Plan, own, mem, tag, exchange, ends}
use Rattle.sci_port.specs.declared.watching.Ending.{Ending}
use Rattle.sci_port.specs.declared.watching.Load.{Load}
use Rattle.sci_port.specs.declared.watching.Passed.{Passed}
use Rattle.sci_port.specs.Watching.{passed_by, ending_of}
use Rattle.sci_script.specs.Passed.{Passes}
use Rattle.sci_script.specs.Turns.{Made}
use Rattle.sci_port.specs.declared.calls.Call.TheVariants.{Own, MemWas, TagWas, Stepped}
use Rattle.sci_script.proofs.Once.{answers_once}
use Rattle.sci_logs.specs.declared.entries.Claim.{Claim}
use Rattle.sci_logs.specs.declared.entries.Deviation.{Deviation}
use Rattle.sci_logs.specs.declared.told.Asks.{Asks}
use Rattle.sci_logs.specs.declared.told.Found.{Found}
use Rattle.sci_logs.specs.declared.told.Told.{Told}
use Rattle.sci_logs.specs.declared.told.Noted.{Noted}
use Rattle.sci_logs.specs.Steps.{IsAs, Judges, Takes}
use Rattle.sci_logs.specs.Told.{TakesAs, TakesTold, asked_tag, entry_of, is_told_in, event_on, is_on, meant, on_tag_of, asking, whose_tag}
use Rattle.sci_laws.specs.ReadBack.{AreWords, IsBehind, IsLink, IsOfOther, IsOfOwn, MayEnd, asks_for_tag, claim_of, named, on_tag, told_of, whose}
use Rattle.sci_laws.proofs.Suiting.{OnOther, OnOwn, Says, SaysTurn, Suits}

self : (x : ℕ) → (x == x) ≡ true
self x = eq-eqb x x refl

-- a tag has the name of the tag that is told
abbrev HasItsName : Tag → Type 0
HasItsName t = bytes_eq (name_of t) (name_of (named t)) ≡ true

same_name : (k : Kind) (held : Bool) (forw back : Option ℕ) → HasItsName (record { kind = k; held = held; forw = forw; back = back })
same_name Kind.Invalid held forw back = refl
same_name Kind.Queued held forw back = refl
same_name Kind.Fresh held None back = refl
same_name Kind.Fresh held (Some x) back = refl
same_name Kind.Dirty held None back = refl
same_name Kind.Dirty held (Some x) back = refl
same_name Kind.Convert held forw back = refl
same_name Kind.Purging held forw back = refl
same_name Kind.Leaving held forw back = refl
same_name Kind.Valid held None back = refl
same_name Kind.Valid held (Some x) back = refl
same_name Kind.Roll held forw back = refl
same_name Kind.Purged held forw back = refl

asks_named : (t : Tag) → asked_tag t (Found.Named (named t)) ≡ Some t
asks_named t = rw (same_name t.kind t.held t.forw t.back) refl

on_change : (x : ℕ) (c : Change) (before after : Tag) → c ≡ Change.OfTag x before after → is_on x c ≡ true
on_change x c before after is = ap (is_on x) is ∙ self x

means_on : (s : State) (me x : ℕ) (asks : Asks) (found after : Tag) → found ≡ s.tags x → (row_at s me (event_on asks found)).change ≡ Change.OfTag x found after
    → asking s me x asks (asked_tag (s.tags x) (Found.Named (named found))) ≡ Ok (event_on asks found)
means_on s me x asks found after is change =
    let stands : asked_tag (s.tags x) (Found.Named (named found)) ≡ Some found = ap (λ (t : Tag). asked_tag t (Found.Named (named found))) (sym is) ∙ asks_named found in
    ap (asking s me x asks) stands ∙ rw (on_change x (row_at s me (event_on asks found)).change found after change) refl

own_whose : (load : Option Load) → IsOfOwn load → whose load ≡ None
own_whose None h = refl
own_whose (Some (Load.Own t)) h = refl
own_whose (Some (Load.Mem m)) h = refl
own_whose (Some (Load.Tag node t)) h = absurd h

means_own : (s : State) (me : ℕ) (asks : Asks) (load : Option Load) (found : Tag) → OnOwn s.memory s.tags me (s.steps me) load (event_on asks found) found → meant s me (on_tag asks load found) ≡ Ok (event_on asks found)
means_own s me asks load found (mine, is, after, change) =
    ap (λ (w : Option ℕ). meant s me (Told.On asks w (Found.Named (named found)))) (own_whose load mine) ∙ means_on s me me asks found after is change

means_other : (s : State) (me : ℕ) (asks : Asks) (load : Option Load) (found : Tag) → OnOther s.memory s.tags me (s.steps me) load (event_on asks found) found → meant s me (on_tag asks load found) ≡ Ok (event_on asks found)
means_other s me asks load found (x, loaded, is, after, change) =
    ap (λ (l : Option Load). meant s me (on_tag asks l found)) loaded ∙ means_on s me x asks found after is change

-- what is told is meant
pub means : (s : State) (me : ℕ) (load : Option Load) (event : Event) → Suits s.memory s.tags me (s.steps me) load event → meant s me (told_of load event) ≡ Ok event
means s me load (Event.Hold found) h = means_own s me Asks.Hold load found h
means s me load (Event.Convert found) h = means_own s me Asks.Convert load found h
means s me load (Event.BeginPurge found) h = means_own s me Asks.BeginPurge load found h
means s me load (Event.Roll found) h = means_own s me Asks.Roll load found h
means s me load (Event.Leave found) h = means_own s me Asks.Leave load found h
means s me load (Event.AttachFresh found) h = means_other s me Asks.AttachFresh load found h
means s me load (Event.AttachDirty found) h = means_other s me Asks.AttachDirty load found h
means s me load (Event.PurgeOne found) h = means_other s me Asks.PurgeOne load found h
means s me load (Event.TellSuccessor found) h = means_other s me Asks.TellSuccessor load found h
means s me load (Event.TellPredecessor found) h = means_other s me Asks.TellPredecessor load found h
means s me load (Event.Adopt found) h = means_other s me Asks.Adopt load found h
means s me load (Event.Promote found) h = means_other s me Asks.Promote load found h
means s me load _ h = refl

-- an event's numbers are in range
other_below : (n : ℕ) (p : Pending) (m : Mem) (tags : ℕ → Tag) (me : ℕ) (load : Option Load) (event : Event) (found : Tag) → OnOther m tags me p load event found → ChangesBelow n (row_of me p event).change → n ≤ 1024
    → (x : ℕ) × (load ≡ Some (Load.Tag x (Some found))) × (x < n) × IsOfOther load
other_below n p m tags me load event found (x, loaded, is, after, change) below few =
    let small : x < n = subst (λ (c : Change). ChangesBelow n c) change below in
    (x, loaded, small, subst (λ (l : Option Load). IsOfOther l) (sym loaded) (omega (arith, small, few)))

module _ (n me : ℕ) (s : State) (few : n ≤ 1024) (below : (event : Event) → ChangesBelow n (row_at s me event).change) where
  of_other : (load : Option Load) (event : Event) (found : Tag) → OnOther s.memory s.tags me (s.steps me) load event found → IsOfOther load
  of_other load event found h = (other_below n (s.steps me) s.memory s.tags me load event found h (below event) few).3

  pub behind : (load : Option Load) (event : Event) → Suits s.memory s.tags me (s.steps me) load event → IsBehind load event
  behind load (Event.Queue forw) h = h
  behind load (Event.Requeue forw) h = h
  behind load (Event.Written words) h = h
  behind load (Event.Hold found) h = h.0
  behind load (Event.Convert found) h = h.0
  behind load (Event.BeginPurge found) h = h.0
  behind load (Event.Roll found) h = h.0
  behind load (Event.Leave found) h = h.0
  behind load (Event.AttachFresh found) h = of_other load (Event.AttachFresh found) found h
  behind load (Event.AttachDirty found) h = of_other load (Event.AttachDirty found) found h
  behind load (Event.PurgeOne found) h = of_other load (Event.PurgeOne found) found h
  behind load (Event.TellSuccessor found) h = of_other load (Event.TellSuccessor found) found h
  behind load (Event.TellPredecessor found) h = of_other load (Event.TellPredecessor found) found h
  behind load (Event.Adopt found) h = of_other load (Event.Adopt found) found h
  behind load (Event.Promote found) h = of_other load (Event.Promote found) found h
  behind load _ h = tt

  -- and any other node that is told is one of the line's
  own_in : (load : Option Load) (asks : Asks) (found : Tag) → IsOfOwn load → is_told_in n (on_tag asks load found) ≡ true
  own_in load asks found mine = ap (λ (w : Option ℕ). is_told_in n (Told.On asks w (Found.Named (named found)))) (own_whose load mine)

  other_in : (load : Option Load) (asks : Asks) (event : Event) (found : Tag) → OnOther s.memory s.tags me (s.steps me) load event found → is_told_in n (on_tag asks load found) ≡ true
  other_in load asks event found h =
      let (x, loaded, small, is) = other_below n (s.steps me) s.memory s.tags me load event found h (below event) few in
      ap (λ (l : Option Load). is_told_in n (on_tag asks l found)) loaded ∙ lt-ltb x n small

  pub told_in : (load : Option Load) (event : Event) → Suits s.memory s.tags me (s.steps me) load event → is_told_in n (told_of load event) ≡ true
  told_in load (Event.Hold found) h = own_in load Asks.Hold found h.0
  told_in load (Event.Convert found) h = own_in load Asks.Convert found h.0
  told_in load (Event.BeginPurge found) h = own_in load Asks.BeginPurge found h.0
  told_in load (Event.Roll found) h = own_in load Asks.Roll found h.0
  told_in load (Event.Leave found) h = own_in load Asks.Leave found h.0
  told_in load (Event.AttachFresh found) h = other_in load Asks.AttachFresh (Event.AttachFresh found) found h
  told_in load (Event.AttachDirty found) h = other_in load Asks.AttachDirty (Event.AttachDirty found) found h
  told_in load (Event.PurgeOne found) h = other_in load Asks.PurgeOne (Event.PurgeOne found) found h
  told_in load (Event.TellSuccessor found) h = other_in load Asks.TellSuccessor (Event.TellSuccessor found) found h
  told_in load (Event.TellPredecessor found) h = other_in load Asks.TellPredecessor (Event.TellPredecessor found) found h
  told_in load (Event.Adopt found) h = other_in load Asks.Adopt (Event.Adopt found) found h
  told_in load (Event.Promote found) h = other_in load Asks.Promote (Event.Promote found) found h
  told_in load _ h = refl

  -- a word that was found is one of 64 bits
  small_word : (c : Change) → FindsWord n s c → found_code s c < 2 ^ 64
  small_word (Change.OfMemory before after) f = mem_code_below Two s.memory (link_further n 65535 s.memory.forw (omega (arith, few)) f.1)
  small_word (Change.OfTag x before after) f = tag_code_below Two (s.tags x) (tag_links_further n 65535 (s.tags x) (omega (arith, few)) f.1)

  word_small : (event : Event) (word : ℕ) (t : State) → Misses n s me event word t → word < 2 ^ 64
  word_small event word t h = subst (λ (x : ℕ). x < 2 ^ 64) (sym h.found) (small_word (row_at s me event).change h.formed)

  -- an event that asks for the tag that stands doesn't miss
  found_so : (x : ℕ) (c : Change) (found after : Tag) → c ≡ Change.OfTag x found after → found ≡ s.tags x → Finds s c
  found_so x c found after change is = subst (λ (d : Change). Finds s d) (sym change) (sym is)

  own_ends : (load : Option Load) (event : Event) (found : Tag) (told : Told) (outcome : Outcome) (t : State) → OnOwn s.memory s.tags me (s.steps me) load event found → Answers n s me event (Ok outcome) t → MayEnd told (ending_of outcome)
  own_ends load event found told (Outcome.Done answer) t h a = tt
  own_ends load event found told (Outcome.Missed word) t (mine, is, after, change) a = absurd (a.other (found_so me (row_at s me event).change found after change is))
  own_ends load event found told Outcome.Busy t h a = tt

  other_ends : (load : Option Load) (event : Event) (found : Tag) (told : Told) (outcome : Outcome) (t : State) → OnOther s.memory s.tags me (s.steps me) load event found → Answers n s me event (Ok outcome) t → MayEnd told (ending_of outcome)
  other_ends load event found told (Outcome.Done answer) t h a = tt
  other_ends load event found told (Outcome.Missed word) t (x, loaded, is, after, change) a = absurd (a.other (found_so x (row_at s me event).change found after change is))
  other_ends load event found told Outcome.Busy t h a = tt

  plain_ends : (event : Event) (outcome : Outcome) (t : State) → Answers n s me event (Ok outcome) t → MayEnd (Told.Event event) (ending_of outcome)
  plain_ends event (Outcome.Done answer) t a = tt
  plain_ends event (Outcome.Missed word) t a = (refl, word_small event word t a)
  plain_ends event Outcome.Busy t a = tt

  pub may_end : (load : Option Load) (event : Event) (outcome : Outcome) (t : State) → Suits s.memory s.tags me (s.steps me) load event → Answers n s me event (Ok outcome) t → MayEnd (told_of load event) (ending_of outcome)
  may_end load (Event.Hold found) o t h a = own_ends load (Event.Hold found) found (told_of load (Event.Hold found)) o t h a
  may_end load (Event.Convert found) o t h a = own_ends load (Event.Convert found) found (told_of load (Event.Convert found)) o t h a
  may_end load (Event.BeginPurge found) o t h a = own_ends load (Event.BeginPurge found) found (told_of load (Event.BeginPurge found)) o t h a
  may_end load (Event.Roll found) o t h a = own_ends load (Event.Roll found) found (told_of load (Event.Roll found)) o t h a
  may_end load (Event.Leave found) o t h a = own_ends load (Event.Leave found) found (told_of load (Event.Leave found)) o t h a
  may_end load (Event.AttachFresh found) o t h a = other_ends load (Event.AttachFresh found) found (told_of load (Event.AttachFresh found)) o t h a
  may_end load (Event.AttachDirty found) o t h a = other_ends load (Event.AttachDirty found) found (told_of load (Event.AttachDirty found)) o t h a
  may_end load (Event.PurgeOne found) o t h a = other_ends load (Event.PurgeOne found) found (told_of load (Event.PurgeOne found)) o t h a
  may_end load (Event.TellSuccessor found) o t h a = other_ends load (Event.TellSuccessor found) found (told_of load (Event.TellSuccessor found)) o t h a
  may_end load (Event.TellPredecessor found) o t h a = other_ends load (Event.TellPredecessor found) found (told_of load (Event.TellPredecessor found)) o t h a
  may_end load (Event.Adopt found) o t h a = other_ends load (Event.Adopt found) found (told_of load (Event.Adopt found)) o t h a
  may_end load (Event.Promote found) o t h a = other_ends load (Event.Promote found) found (told_of load (Event.Promote found)) o t h a
  may_end load event o t h a = plain_ends event o t a

-- a plan's last load, its exchange, and the state after
abbrev pub Went : ℕ → ℕ → ℕ → State → Passed → State → Passed → Type 0
Went n me line s p t q = (q.looks ≡ p.looks) × (p.line ≡ line → q.line ≡ line)
    × (((q.step ≡ p.step) × (t ≡ s)) ⊎ ((event : Event) × (outcome : Outcome) × (q.step ≡ Some (event, ending_of outcome)) × (q.line ≡ line) × Suits s.memory s.tags me (s.steps me) q.load event
    × Answers n s me event (Ok outcome) t))

pub went : (n me line : ℕ) (s : State) (plan : Plan) (turn : Turn) (t : State) (p q : Passed) → Says s.memory s.tags me (s.steps me) plan p.load → Made n me s plan turn t → Passes n me line s plan t p q → Went n me line s p t q
went n me line s (own next) turn t p q says made h = absurd says
went n me line s (mem next) turn t p q says made h =
    let (looks, at, is) = went n me line s (next s.memory) turn t (passed_by p line (MemWas (Some s.memory))) q says made h in (looks, (λ e. at refl), is)
went n me line s (tag x next) turn t p q says made h =
    let (looks, at, is) = went n me line s (next (s.tags x)) turn t (passed_by p line (TagWas x (Some (s.tags x)))) q says made h in (looks, (λ e. at refl), is)
went n me line s (exchange event end) turn t p q says made (outcome, answers, is) = (
  ap (λ (x : Passed). x.looks) is,
  (λ e. ap (λ (x : Passed). x.line) is),
  inr (event, outcome, ap (λ (x : Passed). x.step) is, ap (λ (x : Passed). x.line) is, subst (λ (x : Passed). Suits s.memory s.tags me (s.steps me) x.load event) (sym is) says, answers),
)
went n me line s (ends last) turn t p q says made h = (ap (λ (x : Passed). x.looks) h, (λ e. ap (λ (x : Passed). x.line) h ∙ e), inl (ap (λ (x : Passed). x.step) h, made.1))

-- nothing, or one look
abbrev pub Turned : ℕ → ℕ → ℕ → State → Passed → State → Passed → Type 0
Turned n me line s p t q = Went n me line s p t q ⊎ Went n me line (looked s me) (passed_by p line (Own (Some (s.tags me)))) t q

pub turned : (n me line : ℕ) (s : State) (plan : Plan) (turn : Turn) (t : State) (p q : Passed) → p.load ≡ None → SaysTurn s.memory s.tags me (s.steps me) plan → Made n me s plan turn t → Passes n me line s plan t p q
    → Turned n me line s p t q
turned n me line s (own next) turn t p q none says made h =
    let step : (looked s me).steps me ≡ look_of (s.steps me) (s.tags me) = update_same s.steps me (look_of (s.steps me) (s.tags me)) in
    inr (went n me line (looked s me) (next (s.tags me)) turn t (passed_by p line (Own (Some (s.tags me)))) q
    (subst (λ (x : Pending). Says s.memory s.tags me x (next (s.tags me)) (Some (Load.Own (Some (s.tags me))))) (sym step) says) made h)
turned n me line s (mem next) turn t p q none says made h = inl (went n me line s (mem next) turn t p q says made h)
turned n me line s (tag x next) turn t p q none says made h = inl (went n me line s (tag x next) turn t p q says made h)
turned n me line s (exchange event end) turn t p q none says made h =
    inl (went n me line s (exchange event end) turn t p q (subst (λ (l : Option Load). Suits s.memory s.tags me (s.steps me) l event) (sym none) says) made h)
turned n me line s (ends last) turn t p q none says made h = inl (went n me line s (ends last) turn t p q tt made h)

-- an event that is answered is allowed
done_allowed : (n : ℕ) (s : State) (me : ℕ) (e : Event) (a : Option Line) (t : State) → is_look e ≡ false → IsDone n s me e a t → is_allowed n me (s.steps me) e ≡ true
done_allowed n s me Event.Look a t h x = absurd (true≢false h)
done_allowed n s me _ a t h x = x.allowed

or_left : (a b : Bool) → a ≡ true → (a || b) ≡ true
or_left true b h = refl
or_left false b h = absurd (true≢false (sym h))

or_right : (a b : Bool) → b ≡ true → (a || b) ≡ true
or_right true b h = refl
or_right false b h = h

allowed_done : (n : ℕ) (s : State) (me : ℕ) (e : Event) (a : Option Line) (t : State) (look : Bool) → is_look e ≡ look → IsDone n s me e a t → is_allowed n me (s.steps me) e ≡ true
allowed_done n s me e a t true is h = or_left (is_look e) (has_row n me (s.steps me) e) is
allowed_done n s me e a t false is h = done_allowed n s me e a t is h

allowed_by : (n : ℕ) (s : State) (me : ℕ) (e : Event) (o : Outcome) (t : State) → Answers n s me e (Ok o) t → is_allowed n me (s.steps me) e ≡ true
allowed_by n s me e (Outcome.Done a) t h = allowed_done n s me e a t (is_look e) refl h
allowed_by n s me e (Outcome.Missed word) t h = or_right (is_look e) (has_row n me (s.steps me) e) h.allowed
allowed_by n s me e Outcome.Busy t h = absurd h

pub as_claimed : (n : ℕ) (s : State) (me : ℕ) (e : Event) (o : Outcome) (t : State) → Answers n s me e (Ok o) t → IsAs (claim_of (ending_of o)) o
as_claimed n s me e (Outcome.Done answer) t h = tt
as_claimed n s me e (Outcome.Missed word) t h = refl
as_claimed n s me e Outcome.Busy t h = absurd h

-- lines that stand so take what is told, lead to this state, and nothing else is answered
abbrev pub Sole : ℕ → (ℕ → State) → Noted → State → Type 0
Sole n lines r u = ((after : ℕ → State) × TakesTold n lines r (Ok tt) after) × ((why : Deviation) (after : ℕ → State) → TakesTold n lines r (Err why) after → ⊥)
    × ((after : ℕ → State) → TakesTold n lines r (Ok tt) after → (after r.line ≡ u) × ((l : ℕ) → l ≢ r.line → after l ≡ lines l))

update_other : (lines : ℕ → State) (i j : ℕ) (u : State) → j ≢ i → update lines i u j ≡ lines j
update_other lines i j u apart = elim (cases_Bool (eqb j i)) [
  | inl same ↦ absurd (apart (eqb-true j i same))
  | inr other ↦ ap (λ (b : Bool). cond b u (lines j)) other
]

judged_as : (claim : Claim) (o : Outcome) (why : Deviation) → IsAs claim o → Judges claim (Ok o) (Err why) → ⊥
judged_as claim o why is h = h.0 is

module _ (n : ℕ) (lines : ℕ → State) (r : Noted) (event : Event) (o : Outcome) (u : State) (answers : Answers n (lines r.line) r.node event (Ok o) u) where
  refused : (refusal : NotInTurn) (t : State) → Answers n (lines r.line) r.node event (Err refusal) t → ⊥
  refused refusal t h = true≢false (sym (allowed_by n (lines r.line) r.node event o u answers) ∙ h.0)

  fails : IsAs r.claim o → (answer : Result Outcome NotInTurn) (t : State) → Answers n (lines r.line) r.node event answer t → (why : Deviation) → Judges r.claim answer (Err why) → ⊥
  fails claimed (Err refusal) t h why j = refused refusal t h
  fails claimed (Ok p) t h why j =
      let (same, to) = answers_once n (lines r.line) r.node event o p u t answers h in judged_as r.claim p why (subst (λ (x : Outcome). IsAs r.claim x) same claimed) j

  leads : (answer : Result Outcome NotInTurn) (t : State) → Answers n (lines r.line) r.node event answer t → t ≡ u
  leads (Err refusal) t h = absurd (refused refusal t h)
  leads (Ok p) t h = sym (answers_once n (lines r.line) r.node event o p u t answers h).1

  goes_on : meant (lines r.line) r.node r.told ≡ Ok event → IsAs r.claim o → (after : ℕ → State) × TakesTold n lines r (Ok tt) after
  goes_on is claimed = (
    update lines r.line u,
    subst (λ (x : Result Event Deviation). TakesAs n lines r x (Ok tt) (update lines r.line u)) (sym is)
        record {
          answer = Ok o;
          step = subst (λ (x : State). Answers n (lines r.line) r.node event (Ok o) x) (sym (update_same lines r.line u)) answers;
          others = λ l other. update_other lines r.line l u other;
          judged = claimed;
        },
  )

  pub sole : meant (lines r.line) r.node r.told ≡ Ok event → IsAs r.claim o → Sole n lines r u
  sole is claimed = (
    goes_on is claimed,
    (λ why after h. let k : Takes n lines (entry_of r event) (Err why) after = subst (λ (x : Result Event Deviation). TakesAs n lines r x (Err why) after) is h in
        fails claimed k.answer (after r.line) k.step why k.judged),
    (λ after h. let k : Takes n lines (entry_of r event) (Ok tt) after = subst (λ (x : Result Event Deviation). TakesAs n lines r x (Ok tt) after) is h in
        (leads k.answer (after r.line) k.step, k.others)),
  )
