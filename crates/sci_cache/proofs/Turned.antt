-- A turn of a node's call, by what was done on the line at work.
use Rattle.std.proofs.Common.{◌≡◌, ◌≢◌, ◌⊎◌, inl, inr, ℕ, ◌<◌, Option, Some, None, IfSome, Ok, Err, List, [], ◌∷◌, refl, sym, ap, subst, ◌∙◌}
use Rattle.std.proofs.lemmas.Bool.{cases_eq}
use Rattle.sci_core.specs.declared.pending.Pending.{Pending}
use Rattle.sci_port.specs.declared.calls.Call.{Call}
use Rattle.sci_port.specs.ReceiptList.{ReceiptList}
use Rattle.sci_ops.specs.declared.goals.Goal.{Goal}
use Rattle.sci_ops.specs.declared.answers.Answer.{Answer}
use Rattle.sci_ops.specs.declared.answers.Turn.{Turn}
use Rattle.sci_ops.specs.Answers.{AnswersAt, ChainTo, GoesOn, IsAnswer}
use Rattle.sci_ops.specs.Kept.{KeepsAnswer}
use Rattle.sci_ops.specs.Operation.{Operation}
use Rattle.sci_ops.specs.Plan.{Takes, LoadsAtMost}
use Rattle.sci_ops.specs.Room.{IsProvided, KeepsTurn}
use Rattle.sci_ops.specs.Table.{begun, turn_of}
use Rattle.sci_cache.specs.declared.calls.OpenCall.{OpenCall}
use Rattle.sci_cache.specs.declared.refusals.NodeRefusal.{NodeRefusal}
use Rattle.sci_cache.specs.Called.{KeepsTurnOf}
use Rattle.sci_cache.specs.Nodes.{NodeState, TurnsAt, TurnsBy, line_by, op_by, shown_by, call_after, residents_after, node_after, taken_by, node_state, LeavesBy, ShowsAnswerTo, IsSameNode, IsLine, IsSoundCall, IsIdleBut}
use Rattle.sci_cache.specs.Residents.{without}

-- what an eviction answers
answer_out : (a : Answer) (p : Pending) (call : Call) → IsAnswer Goal.Evict a p call → a ≡ Answer.Out
answer_out Answer.Out p call h = refl
answer_out (Answer.Seen words stamp) p call h = absurd h
answer_out (Answer.Wrote before stamp) p call h = absurd h
answer_out Answer.Spent p call h = absurd h

out_chain : {U : Type 0} (gives : U → Call → U → Type 0) (step : U → Pending) (a : Answer) (calls : List Call) (u v : U) → ChainTo gives (λ s call. IsAnswer Goal.Evict a (step s) call) u calls v → a ≡ Answer.Out
out_chain gives step a [] u v h = absurd h
out_chain gives step a (c ∷ []) u v h = answer_out a (step u) c h.1
out_chain gives step a (c ∷ d ∷ cs) u v (mid, h, rest) = out_chain gives step a (d ∷ cs) mid v rest

leaves_by : {U : Type 0} (gives : U → Call → U → Type 0) (step : U → Pending) (w : Option ℕ) (goal : Goal) (me : ℕ) (u v : U) (t : Turn) → AnswersAt gives step (op_by w goal) me u t v → LeavesBy w t
leaves_by gives step None op me u v t h = tt
leaves_by gives step (Some x) op me u v (Turn.Done a) h = let b = h refl in out_chain gives step a b.calls u v b.chain
leaves_by gives step (Some x) op me u v Turn.Moved h = tt
leaves_by gives step (Some x) op me u v Turn.Waiting h = tt

pub no_victim : (o : Option ℕ) → ((x : ℕ) → o ≡ Some x → ⊥) → o ≡ None
no_victim None h = refl
no_victim (Some x) h = absurd (h x refl)

-- the other lines' steps are those that they were
pub others_by : {P : ℕ → Type 0} (call : Option OpenCall) (c : OpenCall) (w : Option ℕ) → call ≡ Some c → c.victim ≡ w → ((m : ℕ) → m ≢ line_by w c.line → P m) → IfSome call (λ (d : OpenCall). (m : ℕ) → m ≢ line_by d.victim d.line → P m)
others_by {P} call c w is victim h =
    subst (λ (o : Option OpenCall). IfSome o (λ (d : OpenCall). (m : ℕ) → m ≢ line_by d.victim d.line → P m)) (sym is)
    (subst (λ (o : Option ℕ). (m : ℕ) → m ≢ line_by o c.line → P m) (sym victim) h)

module _ {U : Type 0} (gives : U → ℕ → Call → U → Type 0) (step : U → ℕ → Pending) (n now : NodeState) (view : n ≡ now) (c : OpenCall) (u v : U) (t : Turn) (calls : n.call ≡ Some c) where
  -- the operation o took the turn on the line
  abbrev pub Worked : Operation → ℕ → ℕ → Type 0
  Worked o me line =
      Takes (λ a call b. gives a line call b) (turn_of o me (step u line)) u t v
      × AnswersAt (λ a call b. gives a line call b) (λ a. step a line) o me u t v
      × LoadsAtMost 3 (turn_of o me (step u line))

  abbrev pub after_by : Option ℕ → NodeState
  after_by w = record n { residents = residents_after c w t n.residents; call = call_after c w t }

  pub turns_by : (o : Operation) (me : ℕ) (w : Option ℕ) (shown : Turn) (m : NodeState) → me ≡ now.id → c.victim ≡ w → o ≡ op_by w c.goal → Worked o me (line_by w c.line) → shown ≡ shown_by w t → m ≡ after_by w → TurnsBy gives step now now.call u (Ok shown) v m
  turns_by o me w shown m mine victim op worked shows node =
      let with_op : Worked (op_by w c.goal) me (line_by w c.line) = subst (λ (x : Operation). Worked x me (line_by w c.line)) op worked in
      let with_me : Worked (op_by w c.goal) n.id (line_by w c.line) = subst (λ (k : ℕ). Worked (op_by w c.goal) k (line_by w c.line)) (mine ∙ ap (λ (k : NodeState). k.id) (sym view)) with_op in
      let at : Worked (op_by c.victim c.goal) n.id (line_by c.victim c.line) = subst (λ (x : Option ℕ). Worked (op_by x c.goal) n.id (line_by x c.line)) (sym victim) with_me in
      let turns : TurnsAt gives step n c u shown v m = record {
        turn = t;
        calls = at.0;
        answers = at.1;
        loads = at.2;
        leaves = leaves_by (λ a call b. gives a (line_by c.victim c.line) call b) (λ a. step a (line_by c.victim c.line)) c.victim c.goal n.id u v t at.1;
        shows = shows ∙ ap (λ (x : Option ℕ). shown_by x t) (sym victim);
        node = node ∙ ap after_by (sym victim);
      } in
      subst (λ (k : NodeState). TurnsBy gives step k k.call u (Ok shown) v m) view
      (subst (λ (x : Option OpenCall). TurnsBy gives step n x u (Ok shown) v m) (sym calls) turns)

-- what it keeps of the receipts on the line at work
module _ {U : Type 0} (gives : U → ℕ → Call → U → Type 0) (step : U → ℕ → Pending) (receipts : U → ℕ → ReceiptList) (n now : NodeState) (view : n ≡ now) (c : OpenCall) (u v : U) (t : Turn) where
  abbrev KeptBy : Operation → ℕ → Type 0
  KeptBy o line = IsProvided o.goal o.answer (step u line) (receipts u line) → KeepsTurn (λ s call r. gives s line call r) (λ s. receipts s line) o u t v (step v line)

  abbrev LastBy : Operation → ℕ → Type 0
  LastBy o line = KeepsAnswer o t (receipts u line) (receipts v line)

  pub kept_by : (o : Operation) (w : Option ℕ) (shown : Turn) (m : NodeState) → c.victim ≡ w → o ≡ op_by w c.goal → KeptBy o (line_by w c.line) → LastBy o (line_by w c.line) → shown ≡ shown_by w t → m ≡ record n { residents = residents_after c w t n.residents; call = call_after c w t } → KeepsTurnOf gives step receipts now c u shown v m
  kept_by o w shown m victim op kept last shows node =
      let with_op : KeptBy (op_by w c.goal) (line_by w c.line) = subst (λ (x : Operation). KeptBy x (line_by w c.line)) op kept in
      let last_op : LastBy (op_by w c.goal) (line_by w c.line) = subst (λ (x : Operation). LastBy x (line_by w c.line)) op last in
      record {
        turn = t;
        shows = shows ∙ ap (λ (x : Option ℕ). shown_by x t) (sym victim);
        node = subst (λ (k : NodeState). m ≡ node_after k c t) view (node ∙ ap (λ (x : Option ℕ). record n { residents = residents_after c x t n.residents; call = call_after c x t }) (sym victim));
        kept = subst (λ (x : Option ℕ). KeptBy (op_by x c.goal) (line_by x c.line)) (sym victim) with_op;
        last = subst (λ (x : Option ℕ). LastBy (op_by x c.goal) (line_by x c.line)) (sym victim) last_op;
      }

-- a turn that ends nothing leaves the node as it is
pub stays_on : (n : NodeState) (c : OpenCall) (w : Option ℕ) (t : Turn) → GoesOn t → n.call ≡ Some c → (t ≡ shown_by w t) × (n ≡ record n { residents = residents_after c w t n.residents; call = call_after c w t })
stays_on n c w (Turn.Done answer) h is = absurd (h answer refl)
stays_on n c None Turn.Moved h is = (refl, ap (λ (o : Option OpenCall). record n { call = o }) is)
stays_on n c (Some x) Turn.Moved h is = (refl, ap (λ (o : Option OpenCall). record n { call = o }) is)
stays_on n c None Turn.Waiting h is = (refl, ap (λ (o : Option OpenCall). record n { call = o }) is)
stays_on n c (Some x) Turn.Waiting h is = (refl, ap (λ (o : Option OpenCall). record n { call = o }) is)

taken_other : (g : Goal) (line : ℕ) (xs : List ℕ) → (g ≡ Goal.Evict → ⊥) → xs ≡ taken_by g line xs
taken_other Goal.Evict line xs h = absurd (h refl)
taken_other Goal.Load line xs h = refl
taken_other (Goal.Write w) line xs h = refl

-- the node where a call has ended
module _ (n : NodeState) (c : OpenCall) (answer : Answer) (g : Goal) (is : g ≡ c.goal) where
  pub ends_other : (g ≡ Goal.Evict → ⊥) → node_state n.id n.lines n.capacity n.keeps n.residents None ≡ record n { residents = residents_after c None (Turn.Done answer) n.residents; call = call_after c None (Turn.Done answer) }
  ends_other h = ap (λ (xs : List ℕ). node_state n.id n.lines n.capacity n.keeps xs None) (taken_other g c.line n.residents h ∙ ap (λ (k : Goal). taken_by k c.line n.residents) is)

  pub ends_evict : (capacity : ℕ) (xs : List ℕ) → g ≡ Goal.Evict → capacity ≡ n.capacity → xs ≡ without c.line n.residents → node_state n.id n.lines capacity n.keeps xs None ≡ record n { residents = residents_after c None (Turn.Done answer) n.residents; call = call_after c None (Turn.Done answer) }
  ends_evict capacity xs h same taken =
      let all : xs ≡ taken_by c.goal c.line n.residents = taken ∙ ap (λ (k : Goal). taken_by k c.line n.residents) (sym h ∙ is) in
      λ i. node_state n.id n.lines (same i) n.keeps (all i) None

-- ---- what a turn leaves of the node and of the pending steps

pub same_kept : (n : NodeState) → IsSameNode n n
same_kept n = record { id = refl; lines = refl; capacity = refl; keeps = refl }

pub same_with : (n now m : NodeState) → n ≡ now → IsSameNode n m → IsSameNode now m
same_with n now m view h = subst (λ (k : NodeState). IsSameNode k m) view h

pub if_none : (n now : NodeState) → n ≡ now → n.call ≡ None → now.call ≡ None
if_none n now view e = ap (λ (k : NodeState). k.call) (sym view) ∙ e

pub nothing_of : (call : Option OpenCall) → call ≡ None → (P : OpenCall → Type 0) → IfSome call P
nothing_of call e P = subst (λ (o : Option OpenCall). IfSome o P) (sym e) tt

pub none_turns : {U : Type 0} (gives : U → ℕ → Call → U → Type 0) (step : U → ℕ → Pending) (n : NodeState) (call : Option OpenCall) (u : U) → call ≡ None → TurnsBy gives step n call u (Err NodeRefusal.NoCall) u n
none_turns gives step n call u e = subst (λ (o : Option OpenCall). TurnsBy gives step n o u (Err NodeRefusal.NoCall) u n) (sym e) (refl, refl, refl)

pub shows_none : (fits : List ℕ → Type 0) (g : Goal) (t : Turn) → ((answer : Answer) → t ≡ Turn.Done answer → ⊥) → ShowsAnswerTo fits g t
shows_none fits g (Turn.Done answer) h = absurd (h answer refl)
shows_none fits g Turn.Moved h = tt
shows_none fits g Turn.Waiting h = tt

line_inside : (lines line : ℕ) (w : Option ℕ) → line < lines → IsLine lines w → line_by w line < lines
line_inside lines line None h k = h
line_inside lines line (Some x) h k = k

module _ (n now : NodeState) (view : n ≡ now) (c : OpenCall) (calls : n.call ≡ Some c) where
  pub call_now : now.call ≡ Some c
  call_now = ap (λ (k : NodeState). k.call) (sym view) ∙ calls

  pub of_call : (P : OpenCall → Type 0) → P c → IfSome now.call P
  of_call P h = subst (λ (o : Option OpenCall). IfSome o P) (sym call_now) h

  pub call_has : (P : OpenCall → Type 0) → IfSome now.call P → P c
  call_has P h = subst (λ (o : Option OpenCall). IfSome o P) call_now h

  pub sound : IsSoundCall n.lines n.call → (c.line < n.lines) × IsLine n.lines c.victim
  sound h = subst (IsSoundCall n.lines) calls h

  pub elsewhere_now : {P : ℕ → Type 0} (w : Option ℕ) → c.victim ≡ w → ((m : ℕ) → m ≢ line_by w c.line → P m) → IfSome now.call (λ (d : OpenCall). (m : ℕ) → m ≢ line_by d.victim d.line → P m)
  elsewhere_now {P} w victim h = others_by {P = P} now.call c w call_now victim h

  pub below_by : IsSoundCall n.lines n.call → IfSome now.call (λ (d : OpenCall). line_by d.victim d.line < now.lines)
  below_by h =
      let s = sound h in
      of_call (λ (d : OpenCall). line_by d.victim d.line < now.lines) (subst (λ (k : NodeState). line_by c.victim c.line < k.lines) view (line_inside n.lines c.line c.victim s.0 s.1))

  module _ (w : Option ℕ) (victim : c.victim ≡ w) (before after : ℕ → Pending) (others : (m : ℕ) → m ≢ line_by w c.line → after m ≡ before m) where
    pub others_now : IfSome now.call (λ (d : OpenCall). (m : ℕ) → m ≢ line_by d.victim d.line → after m ≡ before m)
    others_now = others_by {P = λ m. after m ≡ before m} now.call c w call_now victim others

    pub idle_at : (new : Option OpenCall) → after (line_by w c.line) ≡ Pending.Idle → IfSome now.call (λ (d : OpenCall). (new ≡ now.call) ⊎ (after (line_by d.victim d.line) ≡ Pending.Idle))
    idle_at new h = of_call (λ (d : OpenCall). (new ≡ now.call) ⊎ (after (line_by d.victim d.line) ≡ Pending.Idle)) (inr (subst (λ (o : Option ℕ). after (line_by o c.line) ≡ Pending.Idle) (sym victim) h))

    was_idle : IsIdleBut now.call before → (m : ℕ) → m ≢ line_by w c.line → before m ≡ Pending.Idle
    was_idle h = subst (λ (o : Option ℕ). (m : ℕ) → m ≢ line_by o c.line → before m ≡ Pending.Idle) victim (subst (λ (o : Option OpenCall). IsIdleBut o before) call_now h)

    -- the line at work goes on
    pub idle_stays : IsIdleBut now.call before → IsIdleBut now.call after
    idle_stays h =
        subst (λ (o : Option OpenCall). IsIdleBut o after) (sym call_now)
        (subst (λ (o : Option ℕ). (m : ℕ) → m ≢ line_by o c.line → after m ≡ Pending.Idle) (sym victim) (λ m other. others m other ∙ was_idle h m other))

    idle_by : IsIdleBut now.call before → after (line_by w c.line) ≡ Pending.Idle → (m : ℕ) → (m ≡ line_by w c.line) ⊎ (m ≢ line_by w c.line) → after m ≡ Pending.Idle
    idle_by h here m (inl e) = ap after e ∙ here
    idle_by h here m (inr other) = others m other ∙ was_idle h m other

    -- the line at work is Idle, and so every line is
    pub all_idle : after (line_by w c.line) ≡ Pending.Idle → IsIdleBut now.call before → (m : ℕ) → after m ≡ Pending.Idle
    all_idle here h m = idle_by h here m (cases_eq m (line_by w c.line))
