-- Each turn of a node that enters the list alone leaves fewer.
use Rattle.std.proofs.Common.{◌≡◌, ◌<◌, ◌+◌, ◌*◌, ℕ, Bool, true, false, Option, Some, None, List, refl, sym, ap, subst, ◌∙◌, arith, lit<, eq-eqb}
use Rattle.std.specs.Prelude.{if◌then◌else◌}
use Rattle.sci_words.specs.declared.tags.Tag.{Tag}
use Rattle.sci_words.specs.declared.memory.Mem.{Mem}
use Rattle.sci_core.specs.declared.lines.Line.{Line}
use Rattle.sci_core.specs.declared.pending.Pending.{Pending}
use Rattle.sci_core.specs.declared.events.Event.{Event}
use Rattle.sci_core.specs.declared.rows.Change.{Change}
use Rattle.sci_core.specs.declared.rows.Carry.{Carry}
use Rattle.sci_core.specs.declared.rows.Place.{Place}
use Rattle.sci_core.specs.declared.rows.Exchange.{Exchange}
use Rattle.sci_core.specs.State.{State, unheld_word, held_word, update}
use Rattle.sci_core.specs.Row.{listed, queued_word, settled_word, attached, exchange_with}
use Rattle.sci_core.specs.Step.{stepped}
use Rattle.sci_core.specs.Table.{row_of}
use Rattle.sci_ops.specs.declared.goals.Goal.{Goal}
use Rattle.sci_ops.specs.declared.goals.Write.{Write}
use Rattle.sci_ops.specs.declared.answers.Answer.{Answer}
use Rattle.sci_ops.specs.declared.answers.Turn.{Turn}
use Rattle.sci_ops.specs.Alone.{on_line}
use Rattle.sci_ops.specs.Plan.{Takes, ended}
use Rattle.sci_ops.specs.Table.{turn_in, queueing_at, seen_end, move, wait, may_attach_fresh, may_attach_dirty}
use Rattle.sci_ops.proofs.Ending.Counting.{others, updated, own_same, listed_same, is_listed}
use Rattle.sci_ops.proofs.Ending.Potential.{turns_left, after_settling, left_idle}
use Rattle.sci_ops.proofs.Ending.Premise.{AloneIn, Enters, IsHead, MayAttach, Falls, OthersRest}
use Rattle.sci_ops.proofs.Ending.Inverse.{chosen, made, own_of, of_mem, of_tag, of_exchange}
use Rattle.sci_ops.proofs.Ending.Moving.{unchanged, moves, ends_idle}

-- the row by which a node settles at the front
abbrev pub settling : ℕ → Option ℕ → Bool → Line → Exchange
settling me f d l = record { change = Change.OfTag me (queued_word f) (settled_word d f); carry = Carry.Gives (Place.Node me) l; after = Pending.Idle; answer = Some l }

settled_left : (write : Write) (b : ℕ) (d : Bool) (f : Option ℕ) → left_idle (Goal.Write write) b (settled_word d f).kind < 3 * b + 6 + 1
settled_left write b true f = omega arith
settled_left write b false f = omega arith

-- what may be attached stays, where no tag is changed
may_kept : (s w : State) → w.tags ≡ s.tags → (f : Option ℕ) (d : Bool) (c : Option Line) → MayAttach s f d c → MayAttach w f d c
may_kept s w e None d c h = tt
may_kept s w e (Some x) d c h = (subst (λ (y : Tag). IsHead d y) (sym (ap (λ (g : ℕ → Tag). g x) e)) h.0, h.1)

module _ (n : ℕ) (fits : List ℕ → Type 0) (me : ℕ) where
  settles : (goal : Goal) (s t : State) (r : Turn) (p : Pending) (f : Option ℕ) (d : Bool) (l : Line) → Enters goal → s.steps me ≡ p → OthersRest me s
      → after_settling goal (others me s.tags n) < turns_left goal (others me s.tags n) (s.tags me).kind p
      → r ≡ ended (seen_end goal) (Some l) → t ≡ stepped s me (settling me f d l) → Falls n goal me s r t
  settles Goal.Load s t r p f d l a is rest less turn to = ends_idle n Goal.Load me s s t r p (settling me f d l) (Answer.Seen l.words l.stamp) is rest turn to refl less
  settles (Goal.Write write) s t r p f d l a is rest less turn to =
      let kind : (update s.tags me (settled_word d f) me).kind ≡ (settled_word d f).kind = ap (λ (x : Tag). x.kind) (updated s.tags me (settled_word d f)) in
      let b : ℕ = others me s.tags n in
      let more : left_idle (Goal.Write write) b (settled_word d f).kind < turns_left (Goal.Write write) b (s.tags me).kind p = omega (arith, settled_left write b d f, less) in
      moves n (Goal.Write write) me s s t r p (settling me f d l) is rest turn to tt (own_same me s.tags (settled_word d f) n) (rw kind more)
  settles Goal.Evict s t r p f d l a is rest less turn to = absurd a

  pub holding_falls : (goal : Goal) (s t : State) (r : Turn) (w : Tag) (l : Line) → s.steps me ≡ Pending.Holding w l → OthersRest me s → AloneIn n goal me s (Pending.Holding w l) → Takes (on_line n fits me) (turn_in goal me (Pending.Holding w l)) s r t → Falls n goal me s r t
  holding_falls Goal.Load s t r w l is rest a h =
      let p : Pending = Pending.Holding w l in
      let tried = of_exchange n fits me h in
      let m = made n fits me p is refl (own_of n fits me p is tried).0 tried in
      ends_idle n Goal.Load me s s t r p (exchange_with m.taken (row_of me p Event.Unhold)) (Answer.Seen l.words l.stamp) is rest m.turn m.next refl (lit< tt)
  holding_falls (Goal.Write write) s t r w l is rest a h = absurd a
  holding_falls Goal.Evict s t r w l is rest a h = absurd a

  queueing_at_falls : (goal : Goal) (s t : State) (r : Turn) (x : ℕ) (d : Bool) → s.steps me ≡ Pending.Queueing (Some x) → OthersRest me s → Enters goal → s.memory ≡ listed d x → IsHead d (s.tags x) → Takes (on_line n fits me) (turn_in goal me (Pending.Queueing (Some x))) s r t → Falls n goal me s r t
  queueing_at_falls goal s t r x false is rest a mem head h =
      let p : Pending = Pending.Queueing (Some x) in
      let plan : Takes (on_line n fits me) (move Event.PrependValid) s r t = rw (eq-eqb x x refl) at (subst (λ (m : Mem). Takes (on_line n fits me) (queueing_at goal (Some x) m) s r t) mem (of_mem n fits me h)) in
      let m = made n fits me p is refl mem (of_exchange n fits me plan) in
      moves n goal me s s t r p (exchange_with m.taken (row_of me p Event.PrependValid)) is rest m.turn m.next (a, refl, (head, refl)) (unchanged n me s) (omega arith)
  queueing_at_falls goal s t r x true is rest a mem head h =
      let p : Pending = Pending.Queueing (Some x) in
      let plan : Takes (on_line n fits me) (move Event.PrependGone) s r t = rw (eq-eqb x x refl) at (subst (λ (m : Mem). Takes (on_line n fits me) (queueing_at goal (Some x) m) s r t) mem (of_mem n fits me h)) in
      let m = made n fits me p is refl mem (of_exchange n fits me plan) in
      moves n goal me s s t r p (exchange_with m.taken (row_of me p Event.PrependGone)) is rest m.turn m.next (a, (head, refl)) (unchanged n me s) (omega arith)

  pub queueing_falls : (goal : Goal) (s t : State) (r : Turn) (f : Option ℕ) → s.steps me ≡ Pending.Queueing f → OthersRest me s → AloneIn n goal me s (Pending.Queueing f) → Takes (on_line n fits me) (turn_in goal me (Pending.Queueing f)) s r t → Falls n goal me s r t
  queueing_falls Goal.Load s t r None is rest a h =
      let p : Pending = Pending.Queueing None in
      let plan : Takes (on_line n fits me) (move Event.PrependValid) s r t = subst (λ (m : Mem). Takes (on_line n fits me) (queueing_at Goal.Load None m) s r t) a.1 (of_mem n fits me h) in
      let m = made n fits me p is refl a.1 (of_exchange n fits me plan) in
      moves n Goal.Load me s s t r p (exchange_with m.taken (row_of me p Event.PrependValid)) is rest m.turn m.next (a.0, refl, tt) (unchanged n me s) (omega arith)
  queueing_falls (Goal.Write write) s t r None is rest a h =
      let p : Pending = Pending.Queueing None in
      let plan : Takes (on_line n fits me) (move Event.HomeWrite) s r t = subst (λ (m : Mem). Takes (on_line n fits me) (queueing_at (Goal.Write write) None m) s r t) a.1 (of_mem n fits me h) in
      let m = made n fits me p is refl a.1 (of_exchange n fits me plan) in
      moves n (Goal.Write write) me s s t r p (exchange_with m.taken (row_of me p Event.HomeWrite)) is rest m.turn m.next (a.0, refl, tt) (unchanged n me s) (omega arith)
  queueing_falls Goal.Evict s t r None is rest a h = absurd a.0
  queueing_falls goal s t r (Some x) is rest a h = queueing_at_falls goal s t r x a.1.0 is rest a.0 a.1.1 a.1.2 h

  pub fetching_falls : (goal : Goal) (s t : State) (r : Turn) (f : Option ℕ) (d : Bool) (l : Line) → s.steps me ≡ Pending.Fetching f d l → OthersRest me s → AloneIn n goal me s (Pending.Fetching f d l) → Takes (on_line n fits me) (turn_in goal me (Pending.Fetching f d l)) s r t → Falls n goal me s r t
  fetching_falls goal s t r f d l is rest a h =
      let p : Pending = Pending.Fetching f d l in
      let m = made n fits me p is refl a.1 (of_exchange n fits me h) in
      moves n goal me s s t r p (exchange_with m.taken (row_of me p Event.ReturnMemory)) is rest m.turn m.next (a.0, may_kept s (stepped s me (exchange_with m.taken (row_of me p Event.ReturnMemory))) refl f d (Some l) a.2) (unchanged n me s) (omega arith)

  pub in_queue_falls : (goal : Goal) (s t : State) (r : Turn) (f : Option ℕ) (d : Bool) (c : Option Line) → s.steps me ≡ Pending.InQueue f d c → OthersRest me s → AloneIn n goal me s (Pending.InQueue f d c) → Takes (on_line n fits me) (turn_in goal me (Pending.InQueue f d c)) s r t → Falls n goal me s r t
  in_queue_falls goal s t r None d None is rest a h =
      let p : Pending = Pending.InQueue None d None in
      absurd ((own_of n fits me p is (of_exchange n fits me h)).1 refl refl)
  in_queue_falls goal s t r None d (Some l) is rest a h =
      let p : Pending = Pending.InQueue None d (Some l) in
      let tried = of_exchange n fits me h in
      let m = made n fits me p is refl (own_of n fits me p is tried).0 tried in
      settles goal s t r p None d l a.0 is rest (omega arith) m.turn m.next
  in_queue_falls goal s t r (Some x) false (Some l) is rest a h =
      let p : Pending = Pending.InQueue (Some x) false (Some l) in
      let y : Tag = s.tags x in
      let fresh : may_attach_fresh false true y ≡ true = rw (a.1.0.0, a.1.0.1) refl in
      let plan : Takes (on_line n fits me) (move (Event.AttachFresh y)) s r t = chosen (may_attach_fresh false true y) (move (Event.AttachFresh y)) (if may_attach_dirty false true y then move (Event.AttachDirty y) else wait) fresh (of_tag n fits me h) in
      let m = made n fits me p is refl refl (of_exchange n fits me plan) in
      moves n goal me s s t r p (exchange_with m.taken (row_of me p (Event.AttachFresh (s.tags x)))) is rest m.turn m.next a.0 (listed_same me s.tags x (attached me (s.tags x)) n (rw a.1.0.0 refl) refl) (omega arith)
  in_queue_falls goal s t r (Some x) true None is rest a h =
      let p : Pending = Pending.InQueue (Some x) true None in
      let w : Tag = held_word (attached me (s.tags x)) in
      let y : Tag = s.tags x in
      let dirty : may_attach_dirty true false y ≡ true = rw (a.1.0.0, a.1.0.1) refl in
      let plan : Takes (on_line n fits me) (move (Event.AttachDirty y)) s r t = chosen (may_attach_dirty true false y) (move (Event.AttachDirty y)) wait dirty (of_tag n fits me h) in
      let m = made n fits me p is refl refl (of_exchange n fits me plan) in
      moves n goal me s s t r p (exchange_with m.taken (row_of me p (Event.AttachDirty (s.tags x)))) is rest m.turn m.next (a.0, updated s.tags x w, refl) (listed_same me s.tags x w n (rw a.1.0.0 refl) refl) (omega arith)
  in_queue_falls goal s t r (Some x) false None is rest a h = absurd (let q : false ≡ true = a.1.1 in cc)
  in_queue_falls goal s t r (Some x) true (Some l) is rest a h = absurd (let q : true ≡ false = a.1.1 in cc)

  pub copying_falls : (goal : Goal) (s t : State) (r : Turn) (x : ℕ) (w : Tag) (l : Line) → s.steps me ≡ Pending.Copying x w l → OthersRest me s → AloneIn n goal me s (Pending.Copying x w l) → Takes (on_line n fits me) (turn_in goal me (Pending.Copying x w l)) s r t → Falls n goal me s r t
  copying_falls goal s t r x w l is rest a h =
      let p : Pending = Pending.Copying x w l in
      let m = made n fits me p is refl a.1 (of_exchange n fits me h) in
      moves n goal me s s t r p (exchange_with m.taken (row_of me p Event.ReturnCopy)) is rest m.turn m.next a.0 (listed_same me s.tags x (unheld_word w) n (ap (λ (y : Tag). is_listed y.kind) a.1 ∙ a.2) a.2) (omega arith)

  pub ready_falls : (goal : Goal) (s t : State) (r : Turn) (f : Option ℕ) (d : Bool) (l : Line) → s.steps me ≡ Pending.Ready f d l → OthersRest me s → AloneIn n goal me s (Pending.Ready f d l) → Takes (on_line n fits me) (turn_in goal me (Pending.Ready f d l)) s r t → Falls n goal me s r t
  ready_falls goal s t r f d l is rest a h =
      let p : Pending = Pending.Ready f d l in
      let tried = of_exchange n fits me h in
      let m = made n fits me p is refl (own_of n fits me p is tried) tried in
      settles goal s t r p f d l a is rest (omega arith) m.turn m.next
