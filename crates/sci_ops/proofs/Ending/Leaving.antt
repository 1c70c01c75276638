-- Each turn of a node that leaves the list alone leaves fewer.
use Rattle.std.proofs.Common.{◌≡◌, ◌≢◌, ◌<◌, ℕ, List, Bool, true, false, Option, Some, None, refl, sym, ap, subst, ⊎_elim, ◌∙◌, arith, eq-eqb}
use Rattle.std.specs.Prelude.{if◌then◌else◌}
use Rattle.std.proofs.lemmas.Bool.{cases_eq}
use Rattle.sci_words.specs.declared.tags.Kind.{Kind}
use Rattle.sci_words.specs.declared.tags.Tag.{Tag}
use Rattle.sci_words.specs.declared.memory.Mem.{Mem}
use Rattle.sci_core.specs.declared.lines.Line.{Line}
use Rattle.sci_core.specs.declared.pending.Pending.{Pending}
use Rattle.sci_core.specs.declared.events.Event.{Event}
use Rattle.sci_core.specs.State.{State, word, invalid, update}
use Rattle.sci_core.specs.Found.{names, can_be_told}
use Rattle.sci_core.specs.PendingStep.{IsOwnWord}
use Rattle.sci_core.specs.Row.{listed, exchange_with}
use Rattle.sci_core.specs.Step.{looked, look_back}
use Rattle.sci_core.specs.Table.{row_of}
use Rattle.sci_ops.specs.declared.goals.Goal.{Goal}
use Rattle.sci_ops.specs.declared.answers.Answer.{Answer}
use Rattle.sci_ops.specs.declared.answers.Turn.{Turn}
use Rattle.sci_ops.specs.Alone.{on_line}
use Rattle.sci_ops.specs.Plan.{Takes, tag}
use Rattle.sci_ops.specs.Table.{turn_in, if_front, move, leave, roll, wait, is_behind, is_before, tell_successor, tell_predecessor}
use Rattle.sci_ops.proofs.Ending.Counting.{others, updated, not_updated, own_same, listed_same, is_listed}
use Rattle.sci_ops.proofs.Ending.Potential.{turns_left}
use Rattle.sci_ops.proofs.Ending.Premise.{AloneIn, Rolls, IsNext, IsPrevious, Falls, OthersRest}
use Rattle.sci_ops.proofs.Ending.Inverse.{chosen, LookedOn, made, own_of, of_own, of_mem, of_tag, of_exchange}
use Rattle.sci_ops.proofs.Ending.Moving.{moves, moves_to, ends_idle, looked_others, looked_step}

told_listed : (k : Kind) → can_be_told k ≡ true → is_listed k ≡ true
told_listed k h = grind (arith, h)

roll_not_valid : (t u : Tag) → t.kind ≡ Kind.Roll → u.kind ≡ Kind.Valid → u ≡ t → ⊥
roll_not_valid t u a b e = let q : u.kind ≡ t.kind = ap (λ (x : Tag). x.kind) e in grind (arith, a, b, q)

stands_behind : (me : ℕ) (y : Tag) → IsNext me y → is_behind me y ≡ true
stands_behind me y h = rw (h.0, h.1, h.2, eq-eqb me me refl) refl

stands_before : (me : ℕ) (y : Tag) → IsPrevious me y → is_before me y ≡ true
stands_before me y h = rw (h.0, h.1, h.2, eq-eqb me me refl) refl

-- its forward link stays where its back link alone is told
still_previous : (me : ℕ) (tags : ℕ → Tag) (x b c : ℕ) → IsPrevious me (tags b) → IsPrevious me (update tags x (word Kind.Valid (tags x).forw (Some c)) b)
still_previous me tags x b c h =
    let t : Tag = word Kind.Valid (tags x).forw (Some c) in
    ⊎_elim
    (λ e. subst (λ (y : Tag). IsPrevious me y) (sym (ap (update tags x t) e ∙ updated tags x t)) (refl, refl, ap (λ (j : ℕ). (tags j).forw) (sym e) ∙ h.2))
    (λ d. subst (λ (y : Tag). IsPrevious me y) (sym (not_updated tags x t b d)) h)
    (cases_eq b x)

module _ (n : ℕ) (fits : List ℕ → Type 0) (me : ℕ) where
  pub promoted_falls : (s t : State) (r : Turn) (d : Bool) (l : Line) (x : ℕ) → s.steps me ≡ Pending.Promoted d l x → OthersRest me s → s.memory ≡ listed d me → Takes (on_line n fits me) (turn_in Goal.Evict me (Pending.Promoted d l x)) s r t → Falls n Goal.Evict me s r t
  promoted_falls s t r d l x is rest front h =
      let p : Pending = Pending.Promoted d l x in
      let seen : Takes (on_line n fits me) (if names me (listed d me).forw then move Event.PassOn else move Event.ReEnter) s r t = subst (λ (m : Mem). Takes (on_line n fits me) (if names me m.forw then move Event.PassOn else move Event.ReEnter) s r t) front (of_mem n fits me h) in
      let plan : Takes (on_line n fits me) (move Event.PassOn) s r t = rw (eq-eqb me me refl) at seen in
      let m = made n fits me p is refl front (of_exchange n fits me plan) in
      moves_to n Goal.Evict me s s t r p (exchange_with m.taken (row_of me p Event.PassOn)) is rest m.turn m.next tt (omega arith)

  pub writing_back_falls : (s t : State) (r : Turn) (l : Line) → s.steps me ≡ Pending.WritingBack l → OthersRest me s → AloneIn n Goal.Evict me s (Pending.WritingBack l) → Takes (on_line n fits me) (turn_in Goal.Evict me (Pending.WritingBack l)) s r t → Falls n Goal.Evict me s r t
  writing_back_falls s t r l is rest a h =
      let p : Pending = Pending.WritingBack l in
      let m = made n fits me p is refl a.1 (of_exchange n fits me h) in
      moves_to n Goal.Evict me s s t r p (exchange_with m.taken (row_of me p Event.ReturnMemory)) is rest m.turn m.next tt (omega arith)

  pub parted_falls : (s t : State) (r : Turn) (f : Option ℕ) → s.steps me ≡ Pending.Parted f → OthersRest me s → Takes (on_line n fits me) (turn_in Goal.Evict me (Pending.Parted f)) s r t → Falls n Goal.Evict me s r t
  parted_falls s t r f is rest h =
      let p : Pending = Pending.Parted f in
      let tried = of_exchange n fits me h in
      let m = made n fits me p is refl (own_of n fits me p is tried) tried in
      ends_idle n Goal.Evict me s s t r p (exchange_with m.taken (row_of me p Event.Left)) Answer.Out is rest m.turn m.next refl (omega arith)

  leave_falls : (s u t : State) (r : Turn) (d : Bool) (l : Line) (seen : Option (Option ℕ)) (f : Option ℕ) → s.steps me ≡ Pending.Leaving d l seen → u.steps me ≡ Pending.Leaving d l (Some f) → OthersRest me u → u.memory ≡ listed d me → ((x : ℕ) → f ≡ Some x → IsNext me (u.tags x)) → Takes (on_line n fits me) (leave me d f) u r t → Falls n Goal.Evict me s r t
  leave_falls s u t r true l seen None is now rest front next h =
      let q : Pending = Pending.Leaving true l (Some None) in
      let m = made n fits me q now refl front (of_exchange n fits me h) in
      moves_to n Goal.Evict me s u t r (Pending.Leaving true l seen) (exchange_with m.taken (row_of me q Event.ReturnHomeDirty)) is rest m.turn m.next (tt, refl) (omega arith)
  leave_falls s u t r false l seen None is now rest front next h =
      let q : Pending = Pending.Leaving false l (Some None) in
      let m = made n fits me q now refl front (of_exchange n fits me h) in
      moves_to n Goal.Evict me s u t r (Pending.Leaving false l seen) (exchange_with m.taken (row_of me q Event.ReturnHomeFresh)) is rest m.turn m.next tt (omega arith)
  leave_falls s u t r d l seen (Some x) is now rest front next h =
      let q : Pending = Pending.Leaving d l (Some (Some x)) in
      let is_next : IsNext me (u.tags x) = next x refl in
      let y : Tag = u.tags x in
      let plan : Takes (on_line n fits me) (move (Event.Promote y)) u r t = chosen (is_behind me y) (move (Event.Promote y)) wait (stands_behind me y is_next) (of_tag n fits me h) in
      let m = made n fits me q now refl refl (of_exchange n fits me plan) in
      moves_to n Goal.Evict me s u t r (Pending.Leaving d l seen) (exchange_with m.taken (row_of me q (Event.Promote (u.tags x)))) is rest m.turn m.next (tt, front) (omega arith)

  pub leaving_falls : (s t : State) (r : Turn) (d : Bool) (l : Line) (seen : Option (Option ℕ)) → s.steps me ≡ Pending.Leaving d l seen → OthersRest me s → AloneIn n Goal.Evict me s (Pending.Leaving d l seen) → Takes (on_line n fits me) (turn_in Goal.Evict me (Pending.Leaving d l seen)) s r t → Falls n Goal.Evict me s r t
  leaving_falls s t r d l seen is rest a h =
      let look : LookedOn n fits me (λ y. if_front me (leave me d y.forw) (move Event.Stay)) s r t = of_own n fits me h in
      let u : State = looked s me in
      let f : Option ℕ = (s.tags me).forw in
      let home : Takes (on_line n fits me) (if names me (listed d me).forw then leave me d f else move Event.Stay) u r t = subst (λ (m : Mem). Takes (on_line n fits me) (if names me m.forw then leave me d f else move Event.Stay) u r t) a.1 (of_mem n fits me look.rest) in
      let plan : Takes (on_line n fits me) (leave me d f) u r t = rw (eq-eqb me me refl) at home in
      leave_falls s u t r d l seen f is (looked_step me s (Pending.Leaving d l seen) is) (looked_others me s rest) a.1 a.2 plan

  pub unlinked_falls : (goal : Goal) (s t : State) (r : Turn) (f : Option ℕ) (b : ℕ) → s.steps me ≡ Pending.Unlinked f b → OthersRest me s → Rolls goal → Takes (on_line n fits me) (turn_in goal me (Pending.Unlinked f b)) s r t → Falls n goal me s r t
  unlinked_falls Goal.Load s t r f b is rest a h = absurd a
  unlinked_falls (Goal.Write w) s t r f b is rest a h =
      let p : Pending = Pending.Unlinked f b in
      let tried = of_exchange n fits me h in
      let m = made n fits me p is refl (own_of n fits me p is tried) tried in
      let kind : (update s.tags me invalid me).kind ≡ Kind.Invalid = ap (λ (x : Tag). x.kind) (updated s.tags me invalid) in
      moves n (Goal.Write w) me s s t r p (exchange_with m.taken (row_of me p Event.Rolled)) is rest m.turn m.next tt (own_same me s.tags invalid n) (rw kind (omega arith))
  unlinked_falls Goal.Evict s t r f b is rest a h =
      let p : Pending = Pending.Unlinked f b in
      let tried = of_exchange n fits me h in
      let m = made n fits me p is refl (own_of n fits me p is tried) tried in
      ends_idle n Goal.Evict me s s t r p (exchange_with m.taken (row_of me p Event.Rolled)) Answer.Out is rest m.turn m.next refl (omega arith)

  tell_next : (goal : Goal) (s u t : State) (r : Turn) (seen : Option (Option ℕ × ℕ)) (x b : ℕ) → s.steps me ≡ Pending.Rolling false seen → u.steps me ≡ Pending.Rolling false (Some (Some x, b)) → OthersRest me u → Rolls goal → others me u.tags n ≡ others me s.tags n → (u.tags me).kind ≡ Kind.Roll → (u.tags me).back ≡ Some b → IsPrevious me (u.tags b) → IsNext me (u.tags x) → Takes (on_line n fits me) (tag x (tell_successor me)) u r t → Falls n goal me s r t
  tell_next goal s u t r seen x b is now rest a same kind back previous next h =
      let q : Pending = Pending.Rolling false (Some (Some x, b)) in
      let w : Tag = word Kind.Valid (u.tags x).forw (Some b) in
      let apart : me ≢ x = λ e. roll_not_valid (u.tags me) (u.tags x) kind next.0 (ap u.tags (sym e)) in
      let y : Tag = u.tags x in
      let plan : Takes (on_line n fits me) (move (Event.TellSuccessor y)) u r t = chosen (is_behind me y) (move (Event.TellSuccessor y)) wait (stands_behind me y next) (of_tag n fits me h) in
      let m = made n fits me q now refl refl (of_exchange n fits me plan) in
      let kept : (update u.tags x w me).back ≡ Some b = ap (λ (y : Tag). y.back) (not_updated u.tags x w me apart) ∙ back in
      moves n goal me s u t r (Pending.Rolling false seen) (exchange_with m.taken (row_of me q (Event.TellSuccessor (u.tags x)))) is rest m.turn m.next
      (a, (λ e. absurd (let z : true ≡ false = e in cc)), (b, kept, still_previous me u.tags x b b previous))
      (listed_same me u.tags x w n (rw next.0 refl) refl ∙ same) (omega arith)

  tell_previous : (goal : Goal) (s u t : State) (r : Turn) (told : Bool) (seen : Option (Option ℕ × ℕ)) (f : Option ℕ) (b : ℕ) → s.steps me ≡ Pending.Rolling told seen → u.steps me ≡ Pending.Rolling told (Some (f, b)) → OthersRest me u → Rolls goal → others me u.tags n ≡ others me s.tags n → IsPrevious me (u.tags b) → Takes (on_line n fits me) (tag b (tell_predecessor me)) u r t → Falls n goal me s r t
  tell_previous goal s u t r told seen f b is now rest a same previous h =
      let q : Pending = Pending.Rolling told (Some (f, b)) in
      let w : Tag = word (u.tags b).kind f (u.tags b).back in
      let y : Tag = u.tags b in
      let plan : Takes (on_line n fits me) (move (Event.TellPredecessor y)) u r t = chosen (is_before me y) (move (Event.TellPredecessor y)) wait (stands_before me y previous) (of_tag n fits me h) in
      let m = made n fits me q now refl refl (of_exchange n fits me plan) in
      let told_is : is_listed (u.tags b).kind ≡ true = told_listed (u.tags b).kind previous.0 in
      moves n goal me s u t r (Pending.Rolling told seen) (exchange_with m.taken (row_of me q (Event.TellPredecessor (u.tags b)))) is rest m.turn m.next a
      (listed_same me u.tags b w n told_is told_is ∙ same) (less told)
    where
      less : (told : Bool) → turns_left goal (others me s.tags n) (s.tags me).kind (Pending.Unlinked f b) < turns_left goal (others me s.tags n) (s.tags me).kind (Pending.Rolling told seen)
      less true = omega arith
      less false = omega arith

  roll_falls : (goal : Goal) (s u t : State) (r : Turn) (told : Bool) (seen : Option (Option ℕ × ℕ)) (f : Option ℕ) (b : ℕ) → s.steps me ≡ Pending.Rolling told seen → u.steps me ≡ Pending.Rolling told (Some (f, b)) → OthersRest me u → Rolls goal → others me u.tags n ≡ others me s.tags n → (u.tags me).kind ≡ Kind.Roll → (u.tags me).back ≡ Some b → IsPrevious me (u.tags b) → (told ≡ false → (x : ℕ) → f ≡ Some x → IsNext me (u.tags x)) → Takes (on_line n fits me) (roll me told f (Some b)) u r t → Falls n goal me s r t
  roll_falls goal s u t r false seen (Some x) b is now rest a same kind back previous next h = tell_next goal s u t r seen x b is now rest a same kind back previous (next refl x refl) h
  roll_falls goal s u t r false seen None b is now rest a same kind back previous next h = tell_previous goal s u t r false seen None b is now rest a same previous h
  roll_falls goal s u t r true seen f b is now rest a same kind back previous next h = tell_previous goal s u t r true seen f b is now rest a same previous h

  pub rolling_falls : (goal : Goal) (s t : State) (r : Turn) (told : Bool) (seen : Option (Option ℕ × ℕ)) → s.steps me ≡ Pending.Rolling told seen → OthersRest me s → AloneIn n goal me s (Pending.Rolling told seen) → Takes (on_line n fits me) (turn_in goal me (Pending.Rolling told seen)) s r t → Falls n goal me s r t
  rolling_falls goal s t r told seen is rest a h =
      let look : LookedOn n fits me (λ y. roll me told y.forw y.back) s r t = of_own n fits me h in
      let u : State = looked s me in
      let own : IsOwnWord (Pending.Rolling told seen) (s.tags me) = subst (λ (q : Pending). IsOwnWord q (s.tags me)) is (look.lawful.before.lawful.steps.own_word me) in
      let f : Option ℕ = (s.tags me).forw in
      let back : (s.tags me).back ≡ Some a.2.0 = a.2.1 in
      let now : u.steps me ≡ Pending.Rolling told (Some (f, a.2.0)) = looked_step me s (Pending.Rolling told seen) is ∙ ap (look_back told seen f) back in
      let plan : Takes (on_line n fits me) (roll me told f (Some a.2.0)) u r t = subst (λ (y : Option ℕ). Takes (on_line n fits me) (roll me told f y) u r t) back look.rest in
      roll_falls goal s u t r told seen f a.2.0 is now (looked_others me s rest) a.0 refl (ap (λ (y : Tag). y.kind) own) back a.2.2 a.1 plan
