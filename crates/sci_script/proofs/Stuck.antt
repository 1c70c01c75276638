-- A turn that waits leaves all as it is but for a look, and so each further turn waits too.
use Rattle.std.proofs.Common.{◌≡◌, ◌∙◌, ◌+◌, ℕ, zero, suc, Bool, true, false, List, Option, Some, None, Ok, cond, eqb, inl, inr, ⊎_elim, ◌⊎◌, refl, sym, ap, subst, arith}
use Rattle.std.proofs.lemmas.Bool.Decides.{nat_tests}
use Rattle.sci_words.specs.declared.tags.Tag.{Tag}
use Rattle.sci_words.specs.declared.memory.Mem.{Mem}
use Rattle.sci_core.specs.declared.lines.Line.{Line}
use Rattle.sci_core.specs.declared.events.Event as an_event
use Rattle.sci_core.specs.declared.outcomes.Outcome.{Outcome}
use Rattle.sci_core.specs.declared.pending.Pending.{Pending}
use Rattle.sci_core.specs.Answers.{Answers}
use Rattle.sci_core.specs.State.{State, update}
use Rattle.sci_core.specs.Step.{looked, look_of, look_back}
use Rattle.sci_core.proofs.Answered.{update_same}
use Rattle.sci_ops.specs.declared.answers.Answer.{Answer}
use Rattle.sci_ops.specs.declared.answers.End.{End}
use Rattle.sci_ops.specs.declared.answers.Turn.{Turn}
use Rattle.sci_ops.specs.declared.goals.Goal.{Goal}
use Rattle.sci_ops.specs.Operation.{Operation}
use Rattle.sci_ops.specs.Plan.{Plan, own, mem, tag, exchange, ends, ended, turn_after}
use Rattle.sci_ops.specs.Table.{turn_in, turn_again, turn_of}
use Rattle.sci_ops.proofs.Resting.Waiting.{looked_twice}
use Rattle.sci_cache.specs.declared.calls.OpenCall.{OpenCall}
use Rattle.sci_cache.specs.Nodes.{NodeState, node_after, call_after, residents_after, line_by, op_by, shown_by}
use Rattle.sci_script.specs.Event.{Event, Turned}
use Rattle.sci_script.specs.Run.{Unended}
use Rattle.sci_script.specs.Shared.{Shared, TakesTurn, TakesTurnOf, shared_does}
use Rattle.sci_script.specs.Turns.{Made, TurnsOn}
use Rattle.sci_script.proofs.Runs.{unended_more}

back_turns : (goal : Goal) (me : ℕ) (told : Bool) (seen : Option (Option ℕ × ℕ)) (f b : Option ℕ) → turn_in goal me (look_back told seen f b) ≡ turn_in goal me (Pending.Rolling told seen)
back_turns goal me told seen f None = refl
back_turns goal me told seen f (Some b) = refl

-- a look changes nothing of what a turn does
look_turns : (goal : Goal) (me : ℕ) (p : Pending) (t : Tag) → turn_in goal me (look_of p t) ≡ turn_in goal me p
look_turns goal me (Pending.Rolling told seen) t = back_turns goal me told seen t.forw t.back
look_turns goal me p t = refl

again_turns : (goal : Goal) (answer : Option Answer) (me : ℕ) (p : Pending) (t : Tag) → turn_again goal answer me (look_of p t) ≡ turn_again goal answer me p
again_turns goal None me p t = look_turns goal me p t
again_turns goal (Some answer) me p t = refl

-- an exchange that is done is no wait
pub no_wait : (end : End) (line : Option Line) → Turn.Waiting ≡ ended end line → ⊥
no_wait End.Seen (Some line) e = let q : Turn.Waiting ≡ Turn.Done (Answer.Seen line.words line.stamp) = e in cc
no_wait End.Seen None e = let q : Turn.Waiting ≡ Turn.Moved = e in cc
no_wait (End.Wrote before stamp) line e = let q : Turn.Waiting ≡ Turn.Done (Answer.Wrote before stamp) = e in cc
no_wait End.Out line e = let q : Turn.Waiting ≡ Turn.Done Answer.Out = e in cc
no_wait End.Spent line e = let q : Turn.Waiting ≡ Turn.Done Answer.Spent = e in cc
no_wait End.Moved line e = let q : Turn.Waiting ≡ Turn.Moved = e in cc

not_made : (n me : ℕ) (event : an_event.Event) (end : End) (s t : State) (outcome : Outcome) → Answers n s me event (Ok outcome) t → Turn.Waiting ≡ turn_after end outcome → s ≡ t
not_made n me event end s t (Outcome.Done line) answers e = absurd (no_wait end line e)
not_made n me event end s t (Outcome.Missed word) answers e = sym answers.same
not_made n me event end s t Outcome.Busy answers e = absurd answers

-- a turn that waits leaves the line as it was, but for a look
stays : (n me : ℕ) (plan : Plan) (s t : State) → Made n me s plan Turn.Waiting t → (t ≡ s) ⊎ (t ≡ looked s me)
stays n me (own next) s t h = inr (⊎_elim (λ (a : t ≡ looked s me). a) (λ (a : t ≡ looked (looked s me) me). a ∙ looked_twice s me) (stays n me (next (s.tags me)) (looked s me) t h))
stays n me (mem next) s t h = stays n me (next s.memory) s t h
stays n me (tag node next) s t h = stays n me (next (s.tags node)) s t h
stays n me (exchange event end) s t h = inl (sym (not_made n me event end s t h.0 h.1 h.2))
stays n me (ends last) s t h = inl h.1

same_tags : (me : ℕ) (s t : State) → (t ≡ s) ⊎ (t ≡ looked s me) → t.tags ≡ s.tags
same_tags me s t h = ⊎_elim (λ (e : t ≡ s). ap (λ (x : State). x.tags) e) (λ (e : t ≡ looked s me). ap (λ (x : State). x.tags) e) h

same_memory : (me : ℕ) (s t : State) → (t ≡ s) ⊎ (t ≡ looked s me) → t.memory ≡ s.memory
same_memory me s t h = ⊎_elim (λ (e : t ≡ s). ap (λ (x : State). x.memory) e) (λ (e : t ≡ looked s me). ap (λ (x : State). x.memory) e) h

looked_after : (me : ℕ) (s t : State) → (t ≡ looked s me) ⊎ (t ≡ looked (looked s me) me) → looked t me ≡ t
looked_after me s t h =
    let e : t ≡ looked s me = ⊎_elim (λ (a : t ≡ looked s me). a) (λ (a : t ≡ looked (looked s me) me). a ∙ looked_twice s me) h in
    ap (λ (x : State). looked x me) e ∙ looked_twice s me ∙ sym e

-- and the same plan waits again
again : (n me : ℕ) (plan : Plan) (s t : State) → Made n me s plan Turn.Waiting t → Made n me t plan Turn.Waiting t
again n me (own next) s t h =
    let kept = stays n me (next (s.tags me)) (looked s me) t h in
    let tags : t.tags ≡ s.tags = same_tags me (looked s me) t kept in
    let now : Made n me t (next (t.tags me)) Turn.Waiting t = subst (λ (x : Tag). Made n me t (next x) Turn.Waiting t) (sym (ap (λ (f : ℕ → Tag). f me) tags)) (again n me (next (s.tags me)) (looked s me) t h) in
    subst (λ (x : State). Made n me x (next (t.tags me)) Turn.Waiting t) (sym (looked_after me s t kept)) now
again n me (mem next) s t h =
    let kept = stays n me (next s.memory) s t h in
    subst (λ (x : Mem). Made n me t (next x) Turn.Waiting t) (sym (same_memory me s t kept)) (again n me (next s.memory) s t h)
again n me (tag node next) s t h =
    let tags : t.tags ≡ s.tags = same_tags me s t (stays n me (next (s.tags node)) s t h) in
    subst (λ (x : Tag). Made n me t (next x) Turn.Waiting t) (sym (ap (λ (f : ℕ → Tag). f node) tags)) (again n me (next (s.tags node)) s t h)
again n me (exchange event end) s t h = subst (λ (x : State). Made n me x (exchange event end) Turn.Waiting t) (not_made n me event end s t h.0 h.1 h.2) h
again n me (ends last) s t h = (h.0, refl)

turns_again : (n me : ℕ) (op : Operation) (s t : State) → TurnsOn n me op s Turn.Waiting t → TurnsOn n me op t Turn.Waiting t
turns_again n me op s t h =
    let plan = turn_of op me (s.steps me) in
    let same : turn_of op me (t.steps me) ≡ plan = ⊎_elim (λ (e : t ≡ s). ap (λ (x : State). turn_of op me (x.steps me)) e)
    (λ (e : t ≡ looked s me). ap (λ (x : State). turn_of op me (x.steps me)) e ∙ ap (λ (p : Pending). turn_of op me p) (update_same s.steps me (look_of (s.steps me) (s.tags me)))
    ∙ again_turns op.goal op.answer me (s.steps me) (s.tags me))
    (stays n me plan s t h) in
    subst (λ (x : Plan). Made n me t x Turn.Waiting t) (sym same) (again n me plan s t h)

pub shown_waits : (victim : Option ℕ) (turn : Turn) → Turn.Waiting ≡ shown_by victim turn → turn ≡ Turn.Waiting
shown_waits None turn e = sym e
shown_waits (Some victim) Turn.Moved e = sym e
shown_waits (Some victim) Turn.Waiting e = refl
shown_waits (Some victim) (Turn.Done answer) e = absurd (cc)

waits_shown : (victim : Option ℕ) → Turn.Waiting ≡ shown_by victim Turn.Waiting
waits_shown None = refl
waits_shown (Some victim) = refl

call_kept : (c : OpenCall) (victim : Option ℕ) → call_after c victim Turn.Waiting ≡ Some c
call_kept c None = refl
call_kept c (Some victim) = refl

residents_kept : (c : OpenCall) (victim : Option ℕ) (lines : List ℕ) → residents_after c victim Turn.Waiting lines ≡ lines
residents_kept c None lines = refl
residents_kept c (Some victim) lines = refl

-- a turn that waits leaves its node as it was
node_kept : (n : NodeState) (c : OpenCall) → n.call ≡ Some c → node_after n c Turn.Waiting ≡ n
node_kept n c is =
    ap (λ (lines : List ℕ). record n { residents = lines; call = call_after c c.victim Turn.Waiting }) (residents_kept c c.victim n.residents)
    ∙ ap (λ (call : Option OpenCall). record n { call = call }) (call_kept c c.victim ∙ sym is)

update_kept : {A : Type 0} (f : ℕ → A) (i : ℕ) (x : A) (j : ℕ) → f i ≡ x → f j ≡ update f i x j
update_kept f i x j e = grind (arith, nat_tests)

pub node_stays : (s t : Shared) (node : ℕ) (c : OpenCall) → (s.nodes node).call ≡ Some c → TakesTurn s node c Turn.Waiting t → t.nodes node ≡ s.nodes node
node_stays s t node c is h =
    h.after node ∙ update_same s.nodes node (node_after (s.nodes node) c h.turn) ∙ ap (λ (turn : Turn). node_after (s.nodes node) c turn) (shown_waits c.victim h.turn h.shows) ∙ node_kept (s.nodes node) c is

waits_on : (s t : Shared) (node : ℕ) (call : Option OpenCall) → (s.nodes node).call ≡ call → TakesTurnOf s node call Turn.Waiting t → TakesTurnOf t node (t.nodes node).call Turn.Waiting t
waits_on s t node None is h = absurd h
waits_on s t node (Some c) is h =
    let n : NodeState = s.nodes node in
    let line : ℕ = line_by c.victim c.line in
    let op : Operation = op_by c.victim c.goal in
    let waited : h.turn ≡ Turn.Waiting = shown_waits c.victim h.turn h.shows in
    let same : t.nodes node ≡ n = node_stays s t node c is h in
    let still : (t.nodes node).call ≡ Some c = ap (λ (m : NodeState). m.call) same ∙ is in
    let made : TurnsOn s.width node op (s.lines line) Turn.Waiting (t.lines line) = subst (λ (turn : Turn). TurnsOn s.width node op (s.lines line) turn (t.lines line)) waited h.made in
    let taken : TakesTurn t node c Turn.Waiting t = record {
      turn = Turn.Waiting;
      width = refl;
      made = subst (λ (w : ℕ). TurnsOn w node op (t.lines line) Turn.Waiting (t.lines line)) (sym h.width) (turns_again s.width node op (s.lines line) (t.lines line) made);
      others = λ m other. refl;
      shows = waits_shown c.victim;
      after = λ i. update_kept t.nodes node (node_after (t.nodes node) c Turn.Waiting) i (sym (node_kept (t.nodes node) c still));
    } in
    subst (λ (call : Option OpenCall). TakesTurnOf t node call Turn.Waiting t) (sym still) taken

-- behind a turn that waits the next one waits, and changes nothing
pub waits_again : (s t : Shared) (node : ℕ) → shared_does s (Turned node Turn.Waiting) t → shared_does t (Turned node Turn.Waiting) t
waits_again s t node h = waits_on s t node (s.nodes node).call refl h

-- so many turns more that wait and change nothing
pub unended_on : {S : Type 0} (does : S → Event → S → Type 0) (node a k : ℕ) (s t : S) → Unended does node a s t → does t (Turned node Turn.Waiting) t → Unended does node (a + k) s t
unended_on does node a zero s t before stuck = let e : a ≡ a + zero = omega arith in subst (λ (n : ℕ). Unended does node n s t) e before
unended_on does node a (suc k) s t before stuck =
    let e : (a + k) + 1 ≡ a + suc k = omega arith in
    subst (λ (n : ℕ). Unended does node n s t) e (unended_more does node (a + k) s t t Turn.Waiting (unended_on does node a k s t before stuck) tt stuck)
