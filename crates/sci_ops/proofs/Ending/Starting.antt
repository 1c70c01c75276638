-- Each turn of a node that is Idle, as all others are, leaves fewer.
use Rattle.std.proofs.Common.{◌≡◌, ◌≢◌, ◌<◌, ◌+◌, ◌*◌, ℕ, List, Bool, true, false, Option, Some, None, refl, sym, ap, subst, ◌∙◌, arith, eq-eqb}
use Rattle.std.specs.Prelude.{if◌then◌else◌}
use Rattle.sci_words.specs.declared.tags.Kind.{Kind}
use Rattle.sci_words.specs.declared.tags.Tag.{Tag}
use Rattle.sci_words.specs.declared.memory.Mem.{Mem}
use Rattle.sci_words.specs.Tag.{tag_well_formed}
use Rattle.sci_core.specs.declared.lines.Line.{Line}
use Rattle.sci_core.specs.declared.pending.Pending.{Pending}
use Rattle.sci_core.specs.declared.events.Event.{Event}
use Rattle.sci_core.specs.State.{State, word, invalid, held_word, update}
use Rattle.sci_core.specs.Found.{names, is_dirty, is_settled_front}
use Rattle.sci_core.specs.Law.{is_valid}
use Rattle.sci_core.specs.PendingStep.{is_at_rest}
use Rattle.sci_core.specs.Row.{listed, queued_word, purging_word, leaving_word, exchange_with}
use Rattle.sci_core.specs.Run.{HasValue}
use Rattle.sci_core.specs.declared.rows.Exchange.{Exchange}
use Rattle.sci_core.specs.Step.{looked, stepped}
use Rattle.sci_core.specs.Table.{row_of}
use Rattle.sci_ops.specs.declared.goals.Goal.{Goal}
use Rattle.sci_ops.specs.declared.goals.Write.{Write}
use Rattle.sci_ops.specs.declared.answers.Answer.{Answer}
use Rattle.sci_ops.specs.declared.answers.Turn.{Turn}
use Rattle.sci_ops.specs.Alone.{IsAtRest, on_line}
use Rattle.sci_ops.specs.Plan.{Plan, Takes}
use Rattle.sci_ops.specs.Table.{turn_in, if_front, idle_at, idle_as, enter, move, wait}
use Rattle.sci_ops.proofs.Ending.Counting.{others, updated, not_updated, own_same}
use Rattle.sci_ops.proofs.Ending.Potential.{turns_left, left_idle}
use Rattle.sci_ops.proofs.Ending.Premise.{Enters, Rolls, FrontIs, IsHead, IsNext, IsPrevious, Falls, OthersRest}
use Rattle.sci_ops.proofs.Ending.Inverse.{LookedOn, made, of_own, of_mem, of_end, of_exchange}
use Rattle.sci_ops.proofs.Ending.Moving.{moves, ends_in, all_rest, looked_others, looked_step}
use Rattle.sci_ops.proofs.Ending.Rest.{word_is, at_rest, none_purged, free_at_rest, front, own_front, next, previous, not_itself}

-- an Invalid tag that is well formed has no links
invalid_links : (k : Kind) (h : Bool) (f b : Option ℕ) → k ≡ Kind.Invalid → tag_well_formed (record { kind = k; held = h; forw = f; back = b }) ≡ true → (f ≡ None) × (b ≡ None)
invalid_links Kind.Invalid h None None e w = (refl, refl)
invalid_links Kind.Invalid h (Some x) None e w = absurd (let q : false ≡ true = w in cc)
invalid_links Kind.Invalid h None (Some y) e w = absurd (let q : false ≡ true = w in cc)
invalid_links Kind.Invalid h (Some x) (Some y) e w = absurd (let q : false ≡ true = w in cc)
invalid_links _ h f b e w = absurd (cc)

pub invalid_word : (t : Tag) → t.kind ≡ Kind.Invalid → t.held ≡ false → tag_well_formed t ≡ true → t ≡ invalid
invalid_word t k h w =
    let links = invalid_links t.kind t.held t.forw t.back k w in
    word_is t Kind.Invalid None None k h links.0 links.1

head_not_invalid : (d : Bool) (t u : Tag) → IsHead d t → u.kind ≡ Kind.Invalid → t ≡ u → ⊥
head_not_invalid true t u h k e = let q : t.kind ≡ u.kind = ap (λ (x : Tag). x.kind) e in let z = h.0 in grind (arith, z, k, q)
head_not_invalid false t u h k e = let q : t.kind ≡ u.kind = ap (λ (x : Tag). x.kind) e in let z = h.0 in grind (arith, z, k, q)

-- the head that memory names stays, where the own tag alone is changed
front_kept : (s w : State) (me : ℕ) (a : Tag) → w.memory ≡ s.memory → w.tags ≡ update s.tags me a → (s.tags me).kind ≡ Kind.Invalid → (f : Option ℕ) → FrontIs s f → FrontIs w f
front_kept s w me a m e k None q = m ∙ q
front_kept s w me a m e k (Some y) q =
    let apart : y ≢ me = λ z. head_not_invalid q.0 (s.tags y) (s.tags me) q.2 k (ap s.tags z) in
    let same : w.tags y ≡ s.tags y = ap (λ (g : ℕ → Tag). g y) e ∙ not_updated s.tags me a y apart in
    (q.0, m ∙ q.1, subst (λ (z : Tag). IsHead q.0 z) (sym same) q.2)

module _ (n : ℕ) (fits : List ℕ → Type 0) (me : ℕ) (s t : State) (r : Turn) (v : Line) (is : s.steps me ≡ Pending.Idle) (rest : OthersRest me s) (o : HasValue n fits (looked s me) v) where
  others_rest : OthersRest me (looked s me)
  others_rest = looked_others me s rest

  own_idle : (looked s me).steps me ≡ Pending.Idle
  own_idle = looked_step me s Pending.Idle is

  idle : (i : ℕ) → (looked s me).steps i ≡ Pending.Idle
  idle = all_rest me (looked s me) others_rest own_idle

  not_me : (y : ℕ) → is_valid (s.tags me).kind ≡ true → (s.tags me).back ≡ Some y → y ≢ me
  not_me y k b e = not_itself n fits (looked s me) v o idle me k (b ∙ ap (λ (j : ℕ). Some j) e)

  -- what the own word names behind it is still behind it when the word has another kind
  next_kept : (a : Tag) → a.forw ≡ (s.tags me).forw → is_valid (s.tags me).kind ≡ true → (x : ℕ) → (update s.tags me a me).forw ≡ Some x → IsNext me (update s.tags me a x)
  next_kept a same k x e =
      let named : (s.tags me).forw ≡ Some x = sym (ap (λ (y : Tag). y.forw) (updated s.tags me a) ∙ same) ∙ e in
      let is_next : IsNext me (s.tags x) = next n fits (looked s me) v o idle me x k named in
      let apart : x ≢ me = λ z. not_itself n fits (looked s me) v o idle me k (ap (λ (j : ℕ). (s.tags j).back) (sym z) ∙ is_next.2) in
      subst (λ (y : Tag). IsNext me y) (sym (not_updated s.tags me a x apart)) is_next

  enters : (goal : Goal) → Enters goal → (s.tags me).kind ≡ Kind.Invalid → tag_well_formed (s.tags me) ≡ true → Takes (on_line n fits me) enter (looked s me) r t
      → turns_left goal (others me s.tags n) (s.tags me).kind (Pending.Queueing s.memory.forw) < turns_left goal (others me s.tags n) (s.tags me).kind Pending.Idle → Falls n goal me s r t
  enters goal a k form h less =
      let f : Option ℕ = s.memory.forw in
      let m = made n fits me Pending.Idle own_idle refl (invalid_word (s.tags me) k (free_at_rest n fits (looked s me) v o idle me) form) (of_exchange n fits me (of_mem n fits me h)) in
      let x : Exchange = exchange_with m.taken (row_of me Pending.Idle (Event.Queue f)) in
      moves n goal me s (looked s me) t r Pending.Idle x is others_rest m.turn m.next (a, front_kept (looked s me) (stepped (looked s me) me x) me (queued_word f) refl refl k f (front n fits (looked s me) v o idle)) (own_same me s.tags (queued_word f) n) less

  holds : (k : Kind) → (s.tags me).kind ≡ k → 1 < left_idle Goal.Load (others me s.tags n) k → Takes (on_line n fits me) (move (Event.Hold (s.tags me))) (looked s me) r t → Falls n Goal.Load me s r t
  holds k e less h =
      let m = made n fits me Pending.Idle own_idle refl refl (of_exchange n fits me h) in
      let more : 1 < left_idle Goal.Load (others me s.tags n) (s.tags me).kind = rw e less in
      moves n Goal.Load me s (looked s me) t r Pending.Idle (exchange_with m.taken (row_of me Pending.Idle (Event.Hold (s.tags me)))) is others_rest m.turn m.next tt (own_same me s.tags (held_word (s.tags me)) n) more

  -- the node is the head
  as_front : (d : Bool) (this : Plan) → s.memory ≡ listed d me → Takes (on_line n fits me) (if_front me this wait) (looked s me) r t → Takes (on_line n fits me) this (looked s me) r t
  as_front d this e h =
      let seen : Takes (on_line n fits me) (if names me (listed d me).forw then this else wait) (looked s me) r t = subst (λ (m : Mem). Takes (on_line n fits me) (if names me m.forw then this else wait) (looked s me) r t) e (of_mem n fits me h) in
      rw (eq-eqb me me refl) at seen

  converts : (w : Write) → (s.tags me).kind ≡ Kind.Fresh → Takes (on_line n fits me) (if_front me (move (Event.Convert (s.tags me))) wait) (looked s me) r t → Falls n (Goal.Write w) me s r t
  converts w k h =
      let b : ℕ = others me s.tags n in
      let mine : s.memory ≡ listed (is_dirty (s.tags me).kind) me = own_front n fits (looked s me) v o idle me (ap is_settled_front k) in
      let front_is : s.memory ≡ listed false me = mine ∙ ap (λ (d : Bool). listed d me) (ap is_dirty k) in
      let m = made n fits me Pending.Idle own_idle refl refl (of_exchange n fits me (as_front false (move (Event.Convert (s.tags me))) front_is h)) in
      let more : 3 * b + 5 < left_idle (Goal.Write w) b (s.tags me).kind = rw k (omega arith) in
      moves n (Goal.Write w) me s (looked s me) t r Pending.Idle (exchange_with m.taken (row_of me Pending.Idle (Event.Convert (s.tags me)))) is others_rest m.turn m.next (tt, (λ _. front_is)) (own_same me s.tags (word Kind.Convert (s.tags me).forw None) n) more

  purges : (w : Write) → (s.tags me).kind ≡ Kind.Dirty → Takes (on_line n fits me) (move (Event.BeginPurge (s.tags me))) (looked s me) r t → Falls n (Goal.Write w) me s r t
  purges w k h =
      let b : ℕ = others me s.tags n in
      let m = made n fits me Pending.Idle own_idle refl refl (of_exchange n fits me h) in
      let more : 3 * b + 3 < left_idle (Goal.Write w) b (s.tags me).kind = rw k (omega arith) in
      moves n (Goal.Write w) me s (looked s me) t r Pending.Idle (exchange_with m.taken (row_of me Pending.Idle (Event.BeginPurge (s.tags me)))) is others_rest m.turn m.next tt (own_same me s.tags (purging_word (s.tags me).forw) n) more

  leaves : is_settled_front (s.tags me).kind ≡ true → is_valid (s.tags me).kind ≡ true → 3 < left_idle Goal.Evict (others me s.tags n) (s.tags me).kind → Takes (on_line n fits me) (if_front me (move (Event.Leave (s.tags me))) wait) (looked s me) r t → Falls n Goal.Evict me s r t
  leaves k valid more h =
      let d : Bool = is_dirty (s.tags me).kind in
      let mine : s.memory ≡ listed d me = own_front n fits (looked s me) v o idle me k in
      let m = made n fits me Pending.Idle own_idle refl refl (of_exchange n fits me (as_front d (move (Event.Leave (s.tags me))) mine h)) in
      moves n Goal.Evict me s (looked s me) t r Pending.Idle (exchange_with m.taken (row_of me Pending.Idle (Event.Leave (s.tags me)))) is others_rest m.turn m.next (tt, mine, next_kept (leaving_word (s.tags me).forw) refl valid) (own_same me s.tags (leaving_word (s.tags me).forw) n) more

  rolls : (goal : Goal) → Rolls goal → (s.tags me).kind ≡ Kind.Valid → turns_left goal (others me s.tags n) (s.tags me).kind (Pending.Rolling false None) < turns_left goal (others me s.tags n) (s.tags me).kind Pending.Idle → Takes (on_line n fits me) (move (Event.Roll (s.tags me))) (looked s me) r t → Falls n goal me s r t
  rolls goal a k more h =
      let valid : is_valid (s.tags me).kind ≡ true = ap is_valid k in
      let w : Tag = word Kind.Roll (s.tags me).forw (s.tags me).back in
      let before : (b : ℕ) × ((s.tags me).back ≡ Some b) × IsPrevious me (s.tags b) = previous n fits (looked s me) v o idle me k in
      let back : (update s.tags me w me).back ≡ Some before.0 = ap (λ (y : Tag). y.back) (updated s.tags me w) ∙ before.1 in
      let there : IsPrevious me (update s.tags me w before.0) = subst (λ (y : Tag). IsPrevious me y) (sym (not_updated s.tags me w before.0 (not_me before.0 valid before.1))) before.2 in
      let m = made n fits me Pending.Idle own_idle refl refl (of_exchange n fits me h) in
      moves n goal me s (looked s me) t r Pending.Idle (exchange_with m.taken (row_of me Pending.Idle (Event.Roll (s.tags me)))) is others_rest m.turn m.next (a, (λ _. next_kept w refl valid), (before.0, back, there)) (own_same me s.tags w n) more

  -- by the own tag's kind
  by_kind : (goal : Goal) (k : Kind) → (s.tags me).kind ≡ k → is_at_rest k ≡ true → (k ≢ Kind.Purged) → tag_well_formed (s.tags me) ≡ true → Takes (on_line n fits me) (idle_as goal me (s.tags me) k) (looked s me) r t → Falls n goal me s r t
  by_kind Goal.Load Kind.Invalid e q c form h = enters Goal.Load tt e form h (rw e (omega arith))
  by_kind (Goal.Write w) Kind.Invalid e q c form h = enters (Goal.Write w) tt e form h (rw e (omega arith))
  by_kind Goal.Evict Kind.Invalid e q c form h =
      let done = of_end n fits me h in
      let rests : IsAtRest t = subst (λ (z : State). IsAtRest z) (sym done.1) idle in
      let some : 0 < left_idle Goal.Evict (others me s.tags n) (s.tags me).kind = rw e (omega arith) in
      ends_in n Goal.Evict me s t r Pending.Idle Answer.Out is done.0 rests some
  by_kind Goal.Load Kind.Fresh e q c form h = holds Kind.Fresh e (omega arith) h
  by_kind Goal.Load Kind.Dirty e q c form h = holds Kind.Dirty e (omega arith) h
  by_kind Goal.Load Kind.Valid e q c form h = holds Kind.Valid e (omega arith) h
  by_kind (Goal.Write w) Kind.Fresh e q c form h = converts w e h
  by_kind (Goal.Write w) Kind.Dirty e q c form h = purges w e h
  by_kind (Goal.Write w) Kind.Valid e q c form h = rolls (Goal.Write w) tt e (rw e (omega arith)) h
  by_kind Goal.Evict Kind.Fresh e q c form h = leaves (ap is_settled_front e) (ap is_valid e) (rw e (omega arith)) h
  by_kind Goal.Evict Kind.Dirty e q c form h = leaves (ap is_settled_front e) (ap is_valid e) (rw e (omega arith)) h
  by_kind Goal.Evict Kind.Valid e q c form h = rolls Goal.Evict tt e (rw e (omega arith)) h
  by_kind goal Kind.Purged e q c form h = absurd (c refl)
  by_kind goal _ e q c form h = absurd (let z : false ≡ true = q in cc)

pub idle_falls : (n : ℕ) (fits : List ℕ → Type 0) (me : ℕ) (goal : Goal) (s t : State) (r : Turn) → s.steps me ≡ Pending.Idle → OthersRest me s → Takes (on_line n fits me) (turn_in goal me Pending.Idle) s r t → Falls n goal me s r t
idle_falls n fits me goal s t r is rest h =
    let look : LookedOn n fits me (idle_at goal me) s r t = of_own n fits me h in
    let o : HasValue n fits (looked s me) look.lawful.next = look.lawful.after in
    let all : (i : ℕ) → (looked s me).steps i ≡ Pending.Idle = all_rest me (looked s me) (looked_others me s rest) (looked_step me s Pending.Idle is) in
    let free : (s.tags me).held ≡ false = free_at_rest n fits (looked s me) look.lawful.next o all me in
    let plan : Takes (on_line n fits me) (idle_as goal me (s.tags me) (s.tags me).kind) (looked s me) r t = subst (λ (b : Bool). Takes (on_line n fits me) (if b then wait else idle_as goal me (s.tags me) (s.tags me).kind) (looked s me) r t) free look.rest in
    by_kind n fits me s t r look.lawful.next is rest o goal (s.tags me).kind refl (at_rest n fits (looked s me) look.lawful.next o all me) (none_purged n fits (looked s me) look.lawful.next o all me) look.form.0 plan
