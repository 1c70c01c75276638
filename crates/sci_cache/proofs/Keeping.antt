-- Work of a node of which its receipts keep all.
use Rattle.std.proofs.Common.{◌≡◌, ◌≢◌, inl, inr, ℕ, ◌≤◌, Bool, true, false, nat_eq, if◌then◌else◌, Option, Some, None, Ok, Err, List, [], ◌++◌, refl, sym, ap, subst, ◌∙◌, arith, append-nil}
use Rattle.std.proofs.lemmas.Bool.{cases_eq}
use Rattle.sci_core.specs.declared.pending.Pending.{Pending}
use Rattle.sci_core.specs.declared.receipts.Receipt.{Receipt}
use Rattle.sci_port.specs.declared.calls.Call.{Call}
use Rattle.sci_port.specs.Banks.{BankWay}
use Rattle.sci_port.specs.KeepsAll.{Extends, IsReadied, KeepsAll, as_it_was, keeps_none, readied_on, writes_in}
use Rattle.sci_port.specs.Readying.{ChangesAt, Readies, Readying}
use Rattle.sci_port.specs.Readying.Readying.{Aimed, Reserved}
use Rattle.sci_port.specs.ReceiptList.{ReceiptList, last_passed}
use Rattle.sci_port.proofs.KeepsAll.{chain_keeps, extends_none, extends_same, extends_then, keeps_then, readied_keeps}
use Rattle.sci_ops.specs.declared.answers.Answer.{Answer}
use Rattle.sci_ops.specs.declared.answers.Turn.{Turn}
use Rattle.sci_ops.specs.declared.goals.Goal.{Goal}
use Rattle.sci_ops.specs.Kept.{EndsWithAnswer}
use Rattle.sci_ops.specs.Operation.{Operation}
use Rattle.sci_ops.specs.Room.{HasNeed, IsProvided, KeepsTurn, adds_towards, need_in, need_towards}
use Rattle.sci_ops.specs.Table.{after_turn, begun}
use Rattle.sci_cache.specs.Called.{IsReadyFor, KeepsOn, KeepsRequest, LeavesReceipts, most_needed}
use Rattle.sci_cache.specs.declared.calls.OpenCall.{OpenCall}
use Rattle.sci_cache.specs.declared.refusals.NodeRefusal.{NodeRefusal}
use Rattle.sci_cache.specs.declared.requests.Request.{Request}
use Rattle.sci_cache.specs.Requests.{goal_of, line_of}
use Rattle.sci_cache.specs.Nodes.{GoesOn, IsIdleBut, NodeState, Runs, node_with}
use Rattle.sci_cache.proofs.Waited.{work_of}
use Rattle.sci_cache.proofs.Ordered.{other_number, same_line}
use Rattle.sci_cache.proofs.Begun.{if_not, if_so}

-- ---- what calls that only ready receipts leave

readied_list : (r : Readying) (s t : ReceiptList) → Readies r s t → t.list ≡ s.list
readied_list (Reserved n ok) s t h = h.list
readied_list (Aimed passing) s t h = h.list

readied_room : (r : Readying) (s t : ReceiptList) → Readies r s t → s.room ≤ t.room
readied_room (Reserved n ok) s t h = h.grows
readied_room (Aimed passing) s t h = omega (arith, h.room)

module _ (line : ℕ) (r : Readying) (before after : ℕ → ReceiptList) (h : ChangesAt (Readies r) before line after) where
  list_at : (m : ℕ) → (after m).list ≡ (before m).list
  list_at m = elim (cases_eq m line) [
    | inl e ↦ subst (λ (k : ℕ). (after k).list ≡ (before k).list) (sym e) (readied_list r (before line) (after line) h.here)
    | inr ne ↦ ap (λ (s : ReceiptList). s.list) (h.others m ne)
  ]

  room_at : (m : ℕ) → (before m).room ≤ (after m).room
  room_at m = elim (cases_eq m line) [
    | inl e ↦ subst (λ (k : ℕ). (before k).room ≤ (after k).room) (sym e) (readied_room r (before line) (after line) h.here)
    | inr ne ↦ let same = ap (λ (s : ReceiptList). s.room) (h.others m ne) in omega (arith, same)
  ]

no_less : (a b c : ℕ) → a ≤ b → b ≤ c → a ≤ c
no_less a b c h k = omega (arith, h, k)

-- all but room and marks
pub record StaysReadied {U K : Type 0} (way : U → BankWay) (nodes_on : U → ℕ → ℕ) (keep : U → K) (step : U → ℕ → Pending) (receipts : U → ℕ → ReceiptList) (u v : U) : Type 0 where
  pub same_way : way v ≡ way u
  pub same_nodes : (m : ℕ) → nodes_on v m ≡ nodes_on u m
  pub same_fact : keep v ≡ keep u
  pub same_steps : (m : ℕ) → step v m ≡ step u m
  pub lists : (m : ℕ) → (receipts v m).list ≡ (receipts u m).list
  pub grows : (m : ℕ) → (receipts u m).room ≤ (receipts v m).room

module _ {U K : Type 0} (way : U → BankWay) (nodes_on : U → ℕ → ℕ) (keep : U → K) (readies : U → ℕ → Readying → U → Type 0) (step : U → ℕ → Pending) (receipts : U → ℕ → ReceiptList)
    (law : (s : U) (line : ℕ) (r : Readying) (t : U) → readies s line r t → (way t ≡ way s) × ((m : ℕ) → nodes_on t m ≡ nodes_on s m) × (keep t ≡ keep s) × ((m : ℕ) → step t m ≡ step s m) × ChangesAt (Readies r) (receipts s) line (receipts t)) where
  pub stays_readied : {u v : U} → IsReadied readies u v → StaysReadied way nodes_on keep step receipts u v
  stays_readied as_it_was = record { same_way = refl; same_nodes = λ m. refl; same_fact = refl; same_steps = λ m. refl; lists = λ m. refl; grows = λ m. omega arith }
  stays_readied {u} {v} (readied_on {w = w} line r h rest) =
      let l = law u line r w h in
      let s = stays_readied rest in
      record {
        same_way = s.same_way ∙ l.0;
        same_nodes = λ m. s.same_nodes m ∙ l.1 m;
        same_fact = s.same_fact ∙ l.2;
        same_steps = λ m. s.same_steps m ∙ l.3 m;
        lists = λ m. s.lists m ∙ list_at line r (receipts u) (receipts w) l.4 m;
        grows = λ m. no_less (receipts u m).room (receipts w m).room (receipts v m).room (room_at line r (receipts u) (receipts w) l.4 m) (s.grows m);
      }

  module _ (gives : U → ℕ → Call → U → Type 0) where
    -- a node's work that only readied its receipts went on
    pub readied_goes_on : {u v : U} → IsReadied readies u v → KeepsOn gives readies receipts u v
    readied_goes_on {u} {v} h =
        let s = stays_readied h in
        record { all = readied_keeps h; writes = λ m. ap writes_in (s.lists m); extends = λ m. extends_same (receipts u m).list (receipts v m).list (s.lists m) }

-- ---- what is ready is provided

need_by : (goal : Goal) (b : Bool) (room : ℕ) → most_needed goal ≤ room → need_towards goal b ≤ room
need_by Goal.Load b room h = h
need_by (Goal.Write write) true room h = omega (arith, h)
need_by (Goal.Write write) false room h = omega (arith, h)
need_by Goal.Evict true room h = omega arith
need_by Goal.Evict false room h = omega (arith, h)

need_ready : (goal : Goal) (p : Pending) (s : ReceiptList) → most_needed goal ≤ s.room → need_in goal p s ≤ s.room
need_ready Goal.Load p s h = h
need_ready (Goal.Write write) (Pending.Holding word line) s h = h
need_ready (Goal.Write write) p s h = need_by (Goal.Write write) (last_passed s.list) s.room h
need_ready Goal.Evict (Pending.Holding word line) s h = h
need_ready Goal.Evict p s h = need_by Goal.Evict (last_passed s.list) s.room h

-- in whichever pending step
pub ready_need : (goal : Goal) (p : Pending) (s : ReceiptList) → IsReadyFor goal s → HasNeed goal p s
ready_need goal p s h = record { mark = h.mark; room = need_ready goal p s h.room }

-- ---- one piece of work after another

adds_none : (goal : Goal) (turn : Turn) → GoesOn turn → adds_towards goal turn ≡ []
adds_none goal (Turn.Done answer) on = absurd on
adds_none Goal.Load turn on = refl
adds_none (Goal.Write write) Turn.Moved on = refl
adds_none (Goal.Write write) Turn.Waiting on = refl
adds_none Goal.Evict turn on = refl

pub spent_none : (goal : Goal) → adds_towards goal (Turn.Done Answer.Spent) ≡ []
spent_none Goal.Load = refl
spent_none (Goal.Write write) = refl
spent_none Goal.Evict = refl

pub evict_none : (answer : Answer) → adds_towards Goal.Evict (Turn.Done answer) ≡ []
evict_none answer = refl

-- what a turn adds to the node's writes on a line
abbrev pub added : Goal → ℕ → Turn → ℕ → List Receipt
added goal line turn m = if nat_eq line m then adds_towards goal turn else []

need_after : (goal : Goal) (turn : Turn) (p : Pending) (s : ReceiptList) → GoesOn turn → IsProvided goal (after_turn (begun goal) turn).answer p s → HasNeed goal p s
need_after goal (Turn.Done answer) p s on h = absurd on
need_after goal Turn.Moved p s on h = h
need_after goal Turn.Waiting p s on h = h

either_none : (b : Bool) (xs : List Receipt) → xs ≡ [] → (if b then xs else []) ≡ []
either_none true xs h = h
either_none false xs h = refl

module _ {U : Type 0} (gives : U → ℕ → Call → U → Type 0) (readies : U → ℕ → Readying → U → Type 0) (step : U → ℕ → Pending) (receipts : U → ℕ → ReceiptList) where
  pub none_on : (u : U) → KeepsOn gives readies receipts u u
  none_on u = record { all = keeps_none; writes = λ m. refl; extends = λ m. extends_none (receipts u m).list }

  pub on_then : {u v w : U} → KeepsOn gives readies receipts u v → KeepsOn gives readies receipts v w → KeepsOn gives readies receipts u w
  on_then h k = record { all = keeps_then h.all k.all; writes = λ m. k.writes m ∙ h.writes m; extends = λ m. extends_then (h.extends m) (k.extends m) }

  -- a node's work with a turn more on a line
  pub record HasWorked (goal : Goal) (line : ℕ) (turn : Turn) (u v : U) : Type 0 where
    pub all : KeepsAll gives readies receipts u v
    pub writes : (m : ℕ) → writes_in (receipts v m).list ≡ writes_in (receipts u m).list ++ added goal line turn m
    pub extends : (m : ℕ) → Extends (receipts u m).list (receipts v m).list

  -- work that goes on, and has what it needs on the line
  pub record IsAtWork (goal : Goal) (line : ℕ) (u v : U) : Type 0 where
    pub on : KeepsOn gives readies receipts u v
    pub need : HasNeed goal (step v line) (receipts v line)

  module _ (goal : Goal) (line : ℕ) (op : Operation) (is : op ≡ begun goal) (u v : U) (turn : Turn) where
    -- a turn over the bank's port to the line, as `turn_at` tells of it
    abbrev pub KeptAt : ℕ → Type 0
    KeptAt l = IsProvided op.goal op.answer (step u l) (receipts u l) → KeepsTurn (λ s call t. gives s l call t) (λ s. receipts s l) op u turn v (step v l)

    abbrev pub OthersAt : ℕ → Type 0
    OthersAt l = (m : ℕ) → m ≢ l → receipts v m ≡ receipts u m

    module _ (kept : KeptAt line) (others : OthersAt line) {a : U} (work : IsAtWork goal line a u) where
      kept_goal : KeepsTurn (λ s call t. gives s line call t) (λ s. receipts s line) (begun goal) u turn v (step v line)
      kept_goal =
          subst (λ (o : Operation). KeepsTurn (λ s call t. gives s line call t) (λ s. receipts s line) o u turn v (step v line)) is
          (kept (subst (λ (o : Operation). IsProvided o.goal o.answer (step u line) (receipts u line)) (sym is) work.need))

      writes_here : writes_in (receipts v line).list ≡ writes_in (receipts a line).list ++ added goal line turn line
      writes_here =
          kept_goal.writes
          ∙ ap (λ (l : List Receipt). l ++ adds_towards goal turn) (work.on.writes line)
          ∙ ap (λ (l : List Receipt). writes_in (receipts a line).list ++ l) (sym (if_so (nat_eq line line) (adds_towards goal turn) [] (same_line line)))

      writes_by : (m : ℕ) → writes_in (receipts v m).list ≡ writes_in (receipts a m).list ++ added goal line turn m
      writes_by m = elim (cases_eq m line) [
        | inl e ↦ subst (λ (k : ℕ). writes_in (receipts v k).list ≡ writes_in (receipts a k).list ++ added goal line turn k) (sym e) writes_here
        | inr ne ↦
            ap (λ (s : ReceiptList). writes_in s.list) (others m ne)
            ∙ work.on.writes m
            ∙ sym (append-nil (writes_in (receipts a m).list))
            ∙ ap (λ (l : List Receipt). writes_in (receipts a m).list ++ l) (sym (if_not (nat_eq line m) (adds_towards goal turn) [] (other_number line m ne)))
      ]

      extends_by : (m : ℕ) → Extends (receipts u m).list (receipts v m).list
      extends_by m = elim (cases_eq m line) [
        | inl e ↦ subst (λ (k : ℕ). Extends (receipts u k).list (receipts v k).list) (sym e) kept_goal.extends
        | inr ne ↦ extends_same (receipts u m).list (receipts v m).list (ap (λ (s : ReceiptList). s.list) (others m ne))
      ]

      worked : HasWorked goal line turn a v
      worked = record {
        all = keeps_then work.on.all (chain_keeps line u v kept_goal.calls kept_goal.chain);
        writes = writes_by;
        extends = λ m. extends_then (work.on.extends m) (extends_by m);
      }

      nothing_added : adds_towards goal turn ≡ [] → KeepsOn gives readies receipts a v
      nothing_added none =
          let w = worked in
          record {
            all = w.all;
            writes = λ m. w.writes m ∙ ap (λ (l : List Receipt). writes_in (receipts a m).list ++ l) (either_none (nat_eq line m) (adds_towards goal turn) none) ∙ append-nil (writes_in (receipts a m).list);
            extends = w.extends;
          }

      goes_need : GoesOn turn → HasNeed goal (step v line) (receipts v line)
      goes_need on = need_after goal turn (step v line) (receipts v line) on kept_goal.provided

    -- the same, with the line by another name
    module _ (here : ℕ) (same : here ≡ line) (kept : KeptAt here) (others : OthersAt here) {a : U} (work : IsAtWork goal line a u) where
      kept_line : KeptAt line
      kept_line = subst KeptAt same kept

      others_line : OthersAt line
      others_line = subst OthersAt same others

      pub has_worked : HasWorked goal line turn a v
      has_worked = worked kept_line others_line work

      pub still_at_work : GoesOn turn → IsAtWork goal line a v
      still_at_work on = record { on = nothing_added kept_line others_line work (adds_none goal turn on); need = goes_need kept_line others_line work on }

      pub extends_on : Extends (receipts u line).list (receipts v line).list
      extends_on = extends_by kept_line others_line work line

      pub worked_on : adds_towards goal turn ≡ [] → KeepsOn gives readies receipts a v
      worked_on none = nothing_added kept_line others_line work none

-- ---- requests

pub refused_leaves : {U : Type 0} (receipts : U → ℕ → ReceiptList) (e : NodeRefusal) (u : U) → LeavesReceipts receipts (Err e) u u
refused_leaves receipts NodeRefusal.StampsSpent u = tt
refused_leaves receipts NodeRefusal.OutOfMemory u = λ line. record { list = refl; passing = refl }
refused_leaves receipts _ u = refl

pub idle_but_same : (call : Option OpenCall) (before after : ℕ → Pending) → ((m : ℕ) → after m ≡ before m) → IsIdleBut call before → IsIdleBut call after
idle_but_same None before after same h = λ m. same m ∙ h m
idle_but_same (Some c) before after same h = λ m other. same m ∙ h m other

module _ {U : Type 0} (gives : U → ℕ → Call → U → Type 0) (readies : U → ℕ → Readying → U → Type 0) (step : U → ℕ → Pending) (receipts : U → ℕ → ReceiptList) (r : Request) (u v : U) where
  -- one that is refused, or finds the stamp spent, adds nothing
  pub refused_keeps : (e : NodeRefusal) → KeepsOn gives readies receipts u v → KeepsRequest gives readies receipts r u (Err e) v
  refused_keeps e h = record { all = h.all; writes = λ m. h.writes m ∙ sym (append-nil (writes_in (receipts u m).list)); last = tt; extends = h.extends }

  pub answered_keeps : (answer : Answer) → HasWorked gives readies step receipts (goal_of r) (line_of r) (Turn.Done answer) u v → EndsWithAnswer (goal_of r) answer (receipts u (line_of r)).list (receipts v (line_of r)).list → KeepsRequest gives readies receipts r u (Ok answer) v
  answered_keeps answer h last = record { all = h.all; writes = h.writes; last = last; extends = h.extends }

-- a bank readied for a request, unless its node keeps no receipts, from which its turns have run so far
abbrev pub HasRunFrom : {U : Type 0} → (U → ℕ → Call → U → Type 0) → (U → ℕ → Readying → U → Type 0) → (U → ℕ → Pending) → NodeState → Request → U → U → Type 0
HasRunFrom {U} gives readies step n r u v = (w : U) × IsReadied readies u w × (n.keeps ≡ false → w ≡ u) × Runs gives step (node_with n r) w (work_of n r None) v
