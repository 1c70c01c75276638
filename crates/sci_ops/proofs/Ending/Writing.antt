-- Each turn of a head that goes alone to its write leaves fewer.
use Rattle.std.proofs.Common.{◌≡◌, ◌≢◌, ◌<◌, ◌+◌, ℕ, Bool, true, false, Option, Some, None, List, Contains, refl, ap, subst, inl, inr, ⊎_elim, ◌∙◌, arith, eq-eqb}
use Rattle.std.proofs.lemmas.Bool.{cases_eq}
use Rattle.std.proofs.lemmas.List.Elements.{All-contains}
use Rattle.sci_words.specs.declared.tags.Kind.{Kind}
use Rattle.sci_words.specs.declared.tags.Tag.{Tag}
use Rattle.sci_words.specs.declared.memory.Mem.{Mem}
use Rattle.sci_core.specs.declared.lines.Line.{Line}
use Rattle.sci_core.specs.declared.pending.Pending.{Pending}
use Rattle.sci_core.specs.declared.events.Event.{Event}
use Rattle.sci_core.specs.State.{State, invalid, update}
use Rattle.sci_core.specs.Found.{names, is_settled_body}
use Rattle.std.specs.Prelude.{if◌then◌else◌}
use Rattle.sci_core.specs.Shape.{phase_of}
use Rattle.sci_core.specs.Law.{is_front, is_valid}
use Rattle.sci_core.specs.PendingStep.{IsOwnWord}
use Rattle.sci_core.specs.Row.{listed, purging_word, purged_word, exchange_with}
use Rattle.sci_core.specs.Run.{HasValue}
use Rattle.sci_core.specs.Step.{looked}
use Rattle.sci_core.specs.Table.{row_of}
use Rattle.sci_core.specs.Table.Purging.{can_count}
use Rattle.sci_ops.specs.declared.goals.Goal.{Goal}
use Rattle.sci_ops.specs.declared.goals.Write.{Write}
use Rattle.sci_ops.specs.declared.answers.Answer.{Answer}
use Rattle.sci_ops.specs.declared.answers.Turn.{Turn}
use Rattle.sci_ops.specs.declared.answers.End.{End}
use Rattle.sci_ops.specs.Alone.{on_line}
use Rattle.sci_ops.specs.Change.{change}
use Rattle.sci_ops.specs.Plan.{Takes, exchange, tag}
use Rattle.sci_ops.specs.Table.{turn_in, move, wait, purging_at, purge, is_free, may_adopt}
use Rattle.sci_ops.proofs.Ending.Counting.{others, updated, not_updated, own_same, listed_same, one_less, is_listed}
use Rattle.sci_ops.proofs.Ending.Premise.{AloneIn, Writes, Falls, OthersRest}
use Rattle.sci_ops.proofs.Ending.Inverse.{chosen, LookedOn, Tried, made, own_of, of_own, of_mem, of_tag, of_exchange}
use Rattle.sci_ops.proofs.Ending.Moving.{unchanged, moves, moves_to, ends_idle, looked_others, looked_step}
use Rattle.sci_ops.proofs.Ending.Rest.{IsCalm, not_held, next_in, next_not_front, next_valid}

purged_not : (t u : Tag) → t.kind ≡ Kind.Purging → u.kind ≡ Kind.Purged → u ≡ t → ⊥
purged_not t u a b e = let q : u.kind ≡ t.kind = ap (λ (x : Tag). x.kind) e in grind (arith, a, b, q)

module _ (n : ℕ) (fits : List ℕ → Type 0) (me : ℕ) where
  pub converting_falls : (goal : Goal) (s t : State) (r : Turn) (f : Option ℕ) (turned : Bool) → s.steps me ≡ Pending.Converting f turned → OthersRest me s → AloneIn n goal me s (Pending.Converting f turned) → Takes (on_line n fits me) (turn_in goal me (Pending.Converting f turned)) s r t → Falls n goal me s r t
  converting_falls goal s t r f true is rest a h =
      let p : Pending = Pending.Converting f true in
      let tried = of_exchange n fits me h in
      let m = made n fits me p is refl (own_of n fits me p is tried) tried in
      moves n goal me s s t r p (exchange_with m.taken (row_of me p Event.Converted)) is rest m.turn m.next a.0 (own_same me s.tags (purging_word f) n) (omega arith)
  converting_falls goal s t r f false is rest a h =
      let p : Pending = Pending.Converting f false in
      let front : s.memory ≡ listed false me = a.1 refl in
      let seen : Takes (on_line n fits me) (if names me (listed false me).forw then move Event.FreshToGone else move Event.Unconverted) s r t = subst (λ (m : Mem). Takes (on_line n fits me) (if names me m.forw then move Event.FreshToGone else move Event.Unconverted) s r t) front (of_mem n fits me h) in
      let plan : Takes (on_line n fits me) (move Event.FreshToGone) s r t = rw (eq-eqb me me refl) at seen in
      let m = made n fits me p is refl front (of_exchange n fits me plan) in
      moves n goal me s s t r p (exchange_with m.taken (row_of me p Event.FreshToGone)) is rest m.turn m.next (a.0, (λ e. absurd (let q : true ≡ false = e in cc))) (unchanged n me s) (omega arith)

  pub advancing_falls : (goal : Goal) (s t : State) (r : Turn) (l : Line) (x : ℕ) (w : Tag) → s.steps me ≡ Pending.Advancing l x w → OthersRest me s → AloneIn n goal me s (Pending.Advancing l x w) → Takes (on_line n fits me) (turn_in goal me (Pending.Advancing l x w)) s r t → Falls n goal me s r t
  advancing_falls goal s t r l x w is rest a h =
      let p : Pending = Pending.Advancing l x w in
      let tried = of_exchange n fits me h in
      let own : s.tags me ≡ purging_word (Some x) = own_of n fits me p is tried in
      let apart : x ≢ me = λ e. purged_not (s.tags me) (s.tags x) (ap (λ (y : Tag). y.kind) own) (ap (λ (y : Tag). y.kind) a.2) (ap s.tags e) in
      let m = made n fits me p is refl own tried in
      moves n goal me s s t r p (exchange_with m.taken (row_of me p Event.Advance)) is rest m.turn m.next (a.0, a.1, not_updated s.tags me (purging_word w.forw) x apart ∙ a.2) (own_same me s.tags (purging_word w.forw) n) (omega arith)

  pub clearing_falls : (goal : Goal) (s t : State) (r : Turn) (l : Line) (x : ℕ) (w : Tag) → s.steps me ≡ Pending.Clearing l x w → OthersRest me s → AloneIn n goal me s (Pending.Clearing l x w) → Takes (on_line n fits me) (turn_in goal me (Pending.Clearing l x w)) s r t → Falls n goal me s r t
  clearing_falls goal s t r l x w is rest a h =
      let p : Pending = Pending.Clearing l x w in
      let tried = of_exchange n fits me h in
      let own : s.tags me ≡ purging_word (s.tags me).forw = own_of n fits me p is tried in
      let apart : x ≢ me = λ e. purged_not (s.tags me) (s.tags x) (ap (λ (y : Tag). y.kind) own) (ap (λ (y : Tag). y.kind) a.2) (ap s.tags e) in
      let m = made n fits me p is refl a.2 tried in
      let less : others me (update s.tags x invalid) n < others me s.tags n = one_less me s.tags x invalid n a.1 apart (ap (λ (y : Tag). is_listed y.kind) a.2) refl in
      moves_to n goal me s s t r p (exchange_with m.taken (row_of me p Event.Clear)) is rest m.turn m.next a.0 (omega (arith, less))

  -- nobody is behind it: it writes
  own_last : (u : State) (l : Line) {e : Event} {end : End} {r : Turn} {t : State} → u.steps me ≡ Pending.Purging l (Some None) → (u.tags me).forw ≡ None → Tried n fits me e end u r t → u.tags me ≡ purging_word None
  own_last u l now last tried =
      let own : u.tags me ≡ purging_word (u.tags me).forw = own_of n fits me (Pending.Purging l (Some None)) now tried in
      subst (λ (f : Option ℕ). u.tags me ≡ purging_word f) last own

  written_by : (w : Write) (s u t : State) (r : Turn) (l : Line) (seen : Option (Option ℕ)) (b : Bool) → s.steps me ≡ Pending.Purging l seen → u.steps me ≡ Pending.Purging l (Some None) → OthersRest me u → (u.tags me).forw ≡ None
      → Takes (on_line n fits me) (if b then exchange (Event.Written (Some (change w l.words))) (End.Wrote l.words (l.stamp + 1)) else exchange (Event.Written None) End.Spent) u r t → Falls n (Goal.Write w) me s r t
  written_by w s u t r l seen true is now rest last h =
      let q : Pending = Pending.Purging l (Some None) in
      let tried = of_exchange n fits me h in
      let m = made n fits me q now refl (own_last u l now last tried) tried in
      ends_idle n (Goal.Write w) me s u t r (Pending.Purging l seen) (exchange_with m.taken (row_of me q (Event.Written (Some (change w l.words))))) (Answer.Wrote l.words (l.stamp + 1)) is rest m.turn m.next refl (omega arith)
  written_by w s u t r l seen false is now rest last h =
      let q : Pending = Pending.Purging l (Some None) in
      let tried = of_exchange n fits me h in
      let m = made n fits me q now refl (own_last u l now last tried) tried in
      ends_idle n (Goal.Write w) me s u t r (Pending.Purging l seen) (exchange_with m.taken (row_of me q (Event.Written None))) Answer.Spent is rest m.turn m.next refl (omega arith)

  -- somebody is: that entry is Valid
  purge_falls : (goal : Goal) (s u t : State) (r : Turn) (l v : Line) (seen : Option (Option ℕ)) (x : ℕ) → HasValue n fits u v → s.steps me ≡ Pending.Purging l seen → u.steps me ≡ Pending.Purging l (Some (Some x)) → OthersRest me u → Writes goal → others me u.tags n ≡ others me s.tags n → (u.tags me).forw ≡ Some x → Takes (on_line n fits me) (tag x (purge me)) u r t → Falls n goal me s r t
  purge_falls goal s u t r l v seen x o is now rest a same e h =
      let p : Pending = Pending.Purging l seen in
      let q : Pending = Pending.Purging l (Some (Some x)) in
      let own : IsOwnWord q (u.tags me) = subst (λ (y : Pending). IsOwnWord y (u.tags me)) now (o.lawful.steps.own_word me) in
      let kind : (u.tags me).kind ≡ Kind.Purging = ap (λ (y : Tag). y.kind) own in
      let calm : (i : ℕ) → IsCalm (u.steps i) = λ i. ⊎_elim (λ z. inr (ap (λ (j : ℕ). phase_of (u.steps j)) z ∙ ap phase_of now)) (λ d. inl (ap phase_of (rest i d))) (cases_eq i me) in
      let c : Contains o.chain me = o.coherent.reached me (ap is_valid kind) in
      let apart : x ≢ me = λ z. next_not_front n fits u v o calm me x c e (ap (λ (j : ℕ). is_front (u.tags j).kind) z ∙ ap is_front kind) in
      let valid : (u.tags x).kind ≡ Kind.Valid = next_valid n fits u v o calm me x c e (rest x apart) in
      let free : (u.tags x).held ≡ false = not_held n fits u v o calm x in
      let below : x < n = All-contains (λ i. i < n) o.chain x o.lawful.chain.below (next_in n fits u v o me x c e) in
      let y : Tag = u.tags x in
      let test : is_free is_settled_body y ≡ true = rw (valid, free) refl in
      let plan : Takes (on_line n fits me) (move (Event.PurgeOne y)) u r t = chosen (is_free is_settled_body y) (move (Event.PurgeOne y)) (if may_adopt me y then move (Event.Adopt y) else wait) test (of_tag n fits me h) in
      let m = made n fits me q now refl refl (of_exchange n fits me plan) in
      moves n goal me s u t r p (exchange_with m.taken (row_of me q (Event.PurgeOne (u.tags x)))) is rest m.turn m.next (a, below, updated u.tags x (purged_word (u.tags x))) (listed_same me u.tags x (purged_word (u.tags x)) n (rw valid refl) refl ∙ same) (omega arith)

  link_falls : (goal : Goal) (s u t : State) (r : Turn) (l v : Line) (seen : Option (Option ℕ)) (f : Option ℕ) → HasValue n fits u v → s.steps me ≡ Pending.Purging l seen → u.steps me ≡ Pending.Purging l (Some f) → OthersRest me u → Writes goal → others me u.tags n ≡ others me s.tags n → (u.tags me).forw ≡ f → Takes (on_line n fits me) (purging_at goal me l f) u r t → Falls n goal me s r t
  link_falls (Goal.Write w) s u t r l v seen None o is now rest a same e h = written_by w s u t r l seen (can_count l) is now rest e h
  link_falls Goal.Load s u t r l v seen None o is now rest a same e h = absurd a
  link_falls Goal.Evict s u t r l v seen None o is now rest a same e h = absurd a
  link_falls goal s u t r l v seen (Some x) o is now rest a same e h = purge_falls goal s u t r l v seen x o is now rest a same e h

  pub purging_falls : (goal : Goal) (s t : State) (r : Turn) (l : Line) (seen : Option (Option ℕ)) → s.steps me ≡ Pending.Purging l seen → OthersRest me s → AloneIn n goal me s (Pending.Purging l seen) → Takes (on_line n fits me) (turn_in goal me (Pending.Purging l seen)) s r t → Falls n goal me s r t
  purging_falls goal s t r l seen is rest a h =
      let look : LookedOn n fits me (λ y. purging_at goal me l y.forw) s r t = of_own n fits me h in
      link_falls goal s (looked s me) t r l look.lawful.next seen (s.tags me).forw look.lawful.after is (looked_step me s (Pending.Purging l seen) is) (looked_others me s rest) a refl refl look.rest
