-- A call that the node never opened: its turns are those of a node that has it open.
use Rattle.std.proofs.Common.{◌≡◌, ◌≢◌, inl, inr, ℕ, Bool, nat_lt, not, if◌then◌else◌, Option, Some, None, is_some, Ok, List, refl, sym, ap, subst, ◌∙◌}
use Rattle.std.proofs.lemmas.Bool.{cases_eq}
use Rattle.sci_core.specs.declared.pending.Pending.{Pending}
use Rattle.sci_port.specs.declared.calls.Call.{Call}
use Rattle.sci_ops.specs.declared.goals.Goal.{Goal}
use Rattle.sci_ops.specs.declared.answers.Answer.{Answer}
use Rattle.sci_ops.specs.declared.answers.Turn.{Turn}
use Rattle.sci_ops.specs.Answers.{AnswersAt}
use Rattle.sci_ops.specs.Operation.{Operation}
use Rattle.sci_ops.specs.Plan.{Takes, LoadsAtMost}
use Rattle.sci_ops.specs.Table.{turn_of, begun}
use Rattle.sci_cache.specs.declared.calls.OpenCall.{OpenCall}
use Rattle.sci_cache.specs.declared.refusals.NodeRefusal.{NodeRefusal}
use Rattle.sci_cache.specs.declared.requests.Request.{Request}
use Rattle.sci_cache.specs.Requests.{line_of, goal_of, has_bad_word}
use Rattle.sci_cache.specs.Nodes.{NodeState, TurnsBy, Runs, none, more, EndsWith, IsAnswerTo, IsIdleBut, GoesOn, shown_by, call_after, residents_after, node_after, node_used, node_closed, node_ended, node_with, refusal_of}
use Rattle.sci_cache.proofs.Turned.{Worked, turns_by}
use Rattle.sci_cache.proofs.Waited.{call_of, work_of, ended_node}

none_open : (call : Option OpenCall) (b d : Bool) → ◌≡◌ {A = Option NodeRefusal} (if is_some call then Some NodeRefusal.CallOpen else (if b then Some NodeRefusal.BadLine else (if d then Some NodeRefusal.BadWord else None))) None → call ≡ None
none_open None b d h = refl
none_open (Some c) b d h = absurd (let e = h in cc)

-- no call is open where a request is accepted
pub free : (n : NodeState) (r : Request) → refusal_of n r ≡ None → n.call ≡ None
free n r h = none_open n.call (not (nat_lt (line_of r) n.lines)) (has_bad_word r) h

-- a request that has ended
pub closed : (n : NodeState) (r : Request) → n.call ≡ None → node_closed (node_used n r) r ≡ node_ended n r
closed n (Request.Load line) h = ap (λ (o : Option OpenCall). record (node_ended n (Request.Load line)) { call = o }) h
closed n (Request.Store line word value) h = ap (λ (o : Option OpenCall). record (node_ended n (Request.Store line word value)) { call = o }) h
closed n (Request.Add line word delta) h = ap (λ (o : Option OpenCall). record (node_ended n (Request.Add line word delta)) { call = o }) h
closed n (Request.WriteLine line words) h = ap (λ (o : Option OpenCall). record (node_ended n (Request.WriteLine line words)) { call = o }) h
closed n (Request.Evict line) h = ap (λ (o : Option OpenCall). record (node_ended n (Request.Evict line)) { call = o }) h

-- only a write has spent the stamps
pub spent : (fits : List ℕ → Type 0) (n : NodeState) (r : Request) → IsAnswerTo fits (goal_of r) Answer.Spent → n.call ≡ None → node_used n r ≡ node_ended n r
spent fits n (Request.Load line) a h = absurd a
spent fits n (Request.Store line word value) a h = ap (λ (o : Option OpenCall). record (node_ended n (Request.Store line word value)) { call = o }) h
spent fits n (Request.Add line word delta) a h = ap (λ (o : Option OpenCall). record (node_ended n (Request.Add line word delta)) { call = o }) h
spent fits n (Request.WriteLine line words) a h = ap (λ (o : Option OpenCall). record (node_ended n (Request.WriteLine line words)) { call = o }) h
spent fits n (Request.Evict line) a h = absurd a

-- ---- pending steps

-- only the line at work has moved, and it is Idle
pub idle_all : (line : ℕ) (before after : ℕ → Pending) → ((m : ℕ) → m ≢ line → after m ≡ before m) → after line ≡ Pending.Idle → ((m : ℕ) → m ≢ line → before m ≡ Pending.Idle) → (m : ℕ) → after m ≡ Pending.Idle
idle_all line before after others here idle m = elim (cases_eq m line) [ inl e ↦ ap after e ∙ here | inr ne ↦ others m ne ∙ idle m ne ]

pub idle_free : (a b : Option OpenCall) (before after : ℕ → Pending) → a ≡ None → b ≡ None → (((m : ℕ) → before m ≡ Pending.Idle) → (m : ℕ) → after m ≡ Pending.Idle) → IsIdleBut a before → IsIdleBut b after
idle_free a b before after is is' h idle = subst (λ (o : Option OpenCall). IsIdleBut o after) (sym is') (h (subst (λ (o : Option OpenCall). IsIdleBut o before) is idle))

module _ {U : Type 0} (gives : U → ℕ → Call → U → Type 0) (step : U → ℕ → Pending) where
  -- a turn of the operation on the line
  abbrev pub Works : Operation → ℕ → ℕ → U → Turn → U → Type 0
  Works op me line u t v =
      Takes (λ a call b. gives a line call b) (turn_of op me (step u line)) u t v
      × AnswersAt (λ a call b. gives a line call b) (λ a. step a line) op me u t v
      × LoadsAtMost 3 (turn_of op me (step u line))

  module _ (n : NodeState) (r : Request) (line me : ℕ) (op : Operation) (same : line ≡ line_of r) (mine : me ≡ n.id) (is : op ≡ begun (goal_of r)) (u v : U) where
    turned : (t : Turn) (m : NodeState) → Works op me line u t v → t ≡ shown_by None t → m ≡ node_after (work_of n r None) (call_of r None) t → TurnsBy gives step (work_of n r None) (Some (call_of r None)) u (Ok t) v m
    turned t m works shows node =
        let at : Worked gives step (work_of n r None) (work_of n r None) refl (call_of r None) u v t refl op me (line_of r) = subst (λ (k : ℕ). Works op me k u t v) same works in
        turns_by gives step (work_of n r None) (work_of n r None) refl (call_of r None) u v t refl op me None t m mine refl is at shows node

    pub runs_on : {a : NodeState} {from : U} (t : Turn) → GoesOn t → Works op me line u t v → Runs gives step a from (work_of n r None) u → Runs gives step a from (work_of n r None) v
    runs_on (Turn.Done answer) on works runs = absurd on
    runs_on Turn.Moved on works runs = more Turn.Moved runs tt (turned Turn.Moved (work_of n r None) works refl refl)
    runs_on Turn.Waiting on works runs = more Turn.Waiting runs tt (turned Turn.Waiting (work_of n r None) works refl refl)

    pub ends_with : {from : U} (a : Answer) (m : NodeState) → Works op me line u (Turn.Done a) v → refusal_of n r ≡ None → Runs gives step (node_with n r) from (work_of n r None) u → m ≡ node_ended n r → EndsWith gives step n r from a v m
    ends_with a m works accepted runs ended = record {
      accepted = accepted;
      before = work_of n r None;
      at = u;
      runs = runs;
      last = turned (Turn.Done a) m works refl (ended ∙ sym (ended_node n r a));
      node = ended;
    }

  -- ---- a line that is put out

  -- a call that waits until the victim has left has run so far
  abbrev pub Leaves : ℕ → ℕ → U → U → Type 0
  Leaves me victim from at = (n : NodeState) (c : OpenCall) → n.id ≡ me → n.call ≡ Some c → c.victim ≡ Some victim → Runs gives step n from n at

  pub leaves_none : (me victim : ℕ) (u : U) → Leaves me victim u u
  leaves_none me victim u n c mine is out = none

  module _ (victim me here : ℕ) (same : here ≡ me) (op : Operation) (is : op ≡ begun Goal.Evict) (from u v : U) where
    out_turned : (n : NodeState) (c : OpenCall) → n.id ≡ me → (calls : n.call ≡ Some c) → c.victim ≡ Some victim → (t shown : Turn) (m : NodeState) → Works op here victim u t v → shown ≡ shown_by (Some victim) t → m ≡ record n { residents = residents_after c (Some victim) t n.residents; call = call_after c (Some victim) t } → TurnsBy gives step n n.call u (Ok shown) v m
    out_turned n c mine calls out t shown m works shows node = turns_by gives step n n refl c u v t calls op here (Some victim) shown m (same ∙ sym mine) out is works shows node

    pub leaves_on : (t : Turn) → GoesOn t → Works op here victim u t v → Leaves me victim from u → Leaves me victim from v
    leaves_on (Turn.Done a) on works runs n c mine calls out = absurd on
    leaves_on Turn.Moved on works runs n c mine calls out = more Turn.Moved (runs n c mine calls out) tt (out_turned n c mine calls out Turn.Moved Turn.Moved n works refl (ap (λ (o : Option OpenCall). record n { call = o }) calls))
    leaves_on Turn.Waiting on works runs n c mine calls out = more Turn.Waiting (runs n c mine calls out) tt (out_turned n c mine calls out Turn.Waiting Turn.Waiting n works refl (ap (λ (o : Option OpenCall). record n { call = o }) calls))

    pub has_left : (a : Answer) → Works op here victim u (Turn.Done a) v → Leaves me victim from u → (n : NodeState) (c : OpenCall) → n.id ≡ me → n.call ≡ Some c → c.victim ≡ Some victim → Runs gives step n from (record n { call = Some record c { victim = None } }) v
    has_left a works runs n c mine calls out = more Turn.Moved (runs n c mine calls out) tt (out_turned n c mine calls out (Turn.Done a) Turn.Moved (record n { call = Some record c { victim = None } }) works refl refl)

  -- where there is none, nothing is waited for
  pub has_way : (u : U) (n : NodeState) (c : OpenCall) → n.call ≡ Some c → c.victim ≡ None → Runs gives step n u (record n { call = Some record c { victim = None } }) u
  has_way u n c calls out =
      let is : n ≡ record n { call = Some record c { victim = None } } = ap (λ (o : Option OpenCall). record n { call = o }) (calls ∙ ap (λ (o : Option ℕ). Some record c { victim = o }) out) in
      subst (λ (k : NodeState). Runs gives step n u k u) is none
