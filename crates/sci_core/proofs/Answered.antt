-- A line that a step answers is the copy that its node has afterwards, as a valid sharer.
use Rattle.std.proofs.Common.{◌≡◌, ◌⊎◌, ℕ, Bool, true, false, Option, Some, None, List, refl, sym, ap, subst, inl, inr, ⊎_elim, ◌∙◌, arith}
use Rattle.std.proofs.lemmas.Bool.Decides.{nat_tests}
use Rattle.sci_words.specs.declared.tags.Kind.{Kind}
use Rattle.sci_words.specs.declared.tags.Tag.{Tag}
use Rattle.sci_core.specs.declared.lines.Line.{Line}
use Rattle.sci_core.specs.declared.pending.Pending.{Pending}
use Rattle.sci_core.specs.declared.events.Event.{Event}
use Rattle.sci_core.specs.declared.rows.Change.{Change}
use Rattle.sci_core.specs.declared.rows.Place.{Place}
use Rattle.sci_core.specs.declared.rows.Carry.{Carry}
use Rattle.sci_core.specs.State.{State, update, word, held_word, unheld_word}
use Rattle.sci_core.specs.Shape.{phase_of, kept_line}
use Rattle.sci_core.specs.Law.{can_be_held, has_slot, is_valid}
use Rattle.sci_core.specs.Row.{Row, exchange_with, queued_word, purging_word, settled_word}
use Rattle.sci_core.specs.Table.{row_of}
use Rattle.sci_core.specs.Table.Queueing.{queueing_row}
use Rattle.sci_core.specs.Table.InQueue.{in_queue_row}
use Rattle.sci_core.specs.Table.Purging.{purging_row}
use Rattle.sci_core.specs.Table.Leaving.{leaving_row}
use Rattle.sci_core.specs.Table.Rolling.{rolling_row}
use Rattle.sci_core.specs.Step.{stepped, taken_line, tags_after, slots_after}
use Rattle.sci_core.specs.Answers.{Makes, row_at}
use Rattle.sci_core.specs.PendingStep.{IsOwnWord}
use Rattle.sci_core.specs.Copies.{HasInHand}
use Rattle.sci_core.specs.Run.{HasValue}

-- the row makes its actor a valid sharer, with this line in its slot or in its hand
record IsAnsweredRow (me : ℕ) (r : Row) (y line : Line) : Type 0 where
  pub before : Tag
  pub after : Tag
  pub change : r.change ≡ Change.OfTag me before after
  pub valid : is_valid after.kind ≡ true
  pub copy : (r.carry ≡ Carry.Gives (Place.Node me) line) ⊎ ((has_slot (phase_of (r.after y)) ≡ true) × (kept_line (r.after y) ≡ Some line))

-- node i is a valid sharer, with this line in its slot or in its hand
abbrev pub HasLine : State → ℕ → Line → Type 0
HasLine s i line = (is_valid (s.tags i).kind ≡ true) × ((s.slots i ≡ Some line) ⊎ ((has_slot (phase_of (s.steps i)) ≡ true) × (kept_line (s.steps i) ≡ Some line)))

some_none : (l : Line) → ◌≡◌ {A = Option Line} (Some l) None → ⊥
some_none l h = cc

same_some : (l m : Line) → ◌≡◌ {A = Option Line} (Some l) (Some m) → m ≡ l
same_some l m h = cc

same_line : (f : Option Line) (v w : Line) → f ≡ Some v → f ≡ Some w → v ≡ w
same_line f v w a b = cc

not_none : (f : Option Line) (v : Line) → f ≡ None → f ≡ Some v → ⊥
not_none f v a b = cc

held_valid : (k : Kind) → can_be_held k ≡ true → is_valid k ≡ true
held_valid k h = grind (arith, h)

settled_valid : (d : Bool) (f : Option ℕ) → is_valid (settled_word d f).kind ≡ true
settled_valid true f = refl
settled_valid false f = refl

pub update_same : {A : Type 0} (f : ℕ → A) (i : ℕ) (x : A) → update f i x i ≡ x
update_same f i x = grind (arith, nat_tests)

given : (me : ℕ) (l line : Line) → ◌≡◌ {A = Option Line} (Some line) (Some l) → Carry.Gives (Place.Node me) l ≡ Carry.Gives (Place.Node me) line
given me l line a = ap (λ (x : Line). Carry.Gives (Place.Node me) x) (same_some line l a)

queueing_silent : (me : ℕ) (e : Event) (f : Option ℕ) (y : Line) → (queueing_row me e f).answer y ≡ None
queueing_silent me Event.PrependGone (Some x) y = refl
queueing_silent me Event.HomeWrite None y = refl
queueing_silent me _ f y = refl

purging_silent : (me : ℕ) (l : Line) (e : Event) (seen : Option (Option ℕ)) (y : Line) → (purging_row me l e seen).answer y ≡ None
purging_silent me l (Event.PurgeOne t) (Some (Some x)) y = refl
purging_silent me l (Event.Adopt t) (Some (Some x)) y = refl
purging_silent me l _ seen y = refl

leaving_silent : (me : ℕ) (d : Bool) (l : Line) (e : Event) (seen : Option (Option ℕ)) (y : Line) → (leaving_row me d l e seen).answer y ≡ None
leaving_silent me d l (Event.Promote t) (Some (Some x)) y = refl
leaving_silent me d l Event.Stay (Some f) y = refl
leaving_silent me d l Event.ReturnHomeFresh (Some None) y = refl
leaving_silent me d l Event.ReturnHomeDirty (Some None) y = refl
leaving_silent me d l _ seen y = refl

rolling_silent : (e : Event) (seen : Option (Option ℕ × ℕ)) (y : Line) → (rolling_row e seen).answer y ≡ None
rolling_silent (Event.TellSuccessor t) (Some (Some x, b)) y = refl
rolling_silent (Event.TellPredecessor t) (Some (f, b)) y = refl
rolling_silent _ seen y = refl

answered_in_queue : (me : ℕ) (e : Event) (f : Option ℕ) (d : Bool) (c : Option Line) (y line : Line) → Some line ≡ (in_queue_row me e f d c).answer y → IsAnsweredRow me (in_queue_row me e f d c) y line
answered_in_queue me (Event.AttachFresh t) (Some x) d (Some l) y line a = absurd (some_none line a)
answered_in_queue me (Event.AttachDirty t) (Some x) d None y line a = absurd (some_none line a)
answered_in_queue me Event.Settle None d (Some l) y line a = record { before = queued_word None; after = settled_word d None; change = refl; valid = settled_valid d None; copy = inl (given me l line a) }
answered_in_queue me _ f d c y line a = absurd (some_none line a)

answered_row : (me : ℕ) (p : Pending) (e : Event) (own : Tag) (y line : Line) → IsOwnWord p own → Some line ≡ (row_of me p e).answer y → IsAnsweredRow me (row_of me p e) y line
answered_row me Pending.Idle (Event.BeginPurge t) own y line o a = record { before = t; after = purging_word t.forw; change = refl; valid = refl; copy = inr (refl, sym a) }
answered_row me (Pending.Holding w l) Event.Unhold own y line o a = record { before = held_word w; after = unheld_word w; change = refl; valid = held_valid w.kind o.1; copy = inl (given me l line a) }
answered_row me (Pending.Queueing f) e own y line o a = absurd (some_none line (a ∙ queueing_silent me e f y))
answered_row me (Pending.Fetching f d l) Event.ReturnMemory own y line o a = absurd (some_none line a)
answered_row me (Pending.InQueue f d c) e own y line o a = answered_in_queue me e f d c y line a
answered_row me (Pending.Copying x w l) Event.ReturnCopy own y line o a = absurd (some_none line a)
answered_row me (Pending.Ready f d l) Event.Settle own y line o a = record { before = queued_word f; after = settled_word d f; change = refl; valid = settled_valid d f; copy = inl (given me l line a) }
answered_row me (Pending.Converting f turned) Event.Converted own y line o a = record { before = word Kind.Convert f None; after = purging_word f; change = refl; valid = refl; copy = inr (refl, sym a) }
answered_row me (Pending.Purging l seen) e own y line o a = absurd (some_none line (a ∙ purging_silent me l e seen y))
answered_row me (Pending.Advancing l v w) Event.Advance own y line o a = absurd (some_none line a)
answered_row me (Pending.Clearing l v w) Event.Clear own y line o a = absurd (some_none line a)
answered_row me (Pending.Leaving d l seen) e own y line o a = absurd (some_none line (a ∙ leaving_silent me d l e seen y))
answered_row me (Pending.Promoted d l x) Event.PassOn own y line o a = absurd (some_none line a)
answered_row me (Pending.WritingBack l) Event.ReturnMemory own y line o a = absurd (some_none line a)
answered_row me (Pending.Parted f) Event.Left own y line o a = absurd (some_none line a)
answered_row me (Pending.Rolling told seen) e own y line o a = absurd (some_none line (a ∙ rolling_silent e seen y))
answered_row me (Pending.Unlinked f b) Event.Rolled own y line o a = absurd (some_none line a)
answered_row me _ _ own y line o a = absurd (some_none line a)

tag_made : (f : ℕ → Tag) (c : Change) (me : ℕ) (before after : Tag) → c ≡ Change.OfTag me before after → tags_after f c me ≡ after
tag_made f c me before after h = subst (λ (x : Change). tags_after f x me ≡ after) (sym h) (update_same f me after)

slot_made : (f : ℕ → Option Line) (c : Carry) (me : ℕ) (line : Line) → c ≡ Carry.Gives (Place.Node me) line → slots_after f c me ≡ Some line
slot_made f c me line h = subst (λ (x : Carry). slots_after f x me ≡ Some line) (sym h) (update_same f me (Some line))

made_line : (s : State) (me : ℕ) (y : Line) (r : Row) (line : Line) → IsAnsweredRow me r y line → HasLine (stepped s me (exchange_with y r)) me line
made_line s me y r line a =
    let step : update s.steps me (r.after y) me ≡ r.after y = update_same s.steps me (r.after y) in (
      subst (λ (t : Tag). is_valid t.kind ≡ true) (sym (tag_made s.tags r.change me a.before a.after a.change)) a.valid,
      ⊎_elim
          (λ c. inl (slot_made s.slots r.carry me line c))
          (λ c. inr (subst (λ (p : Pending). (has_slot (phase_of p) ≡ true) × (kept_line p ≡ Some line)) (sym step) c))
          a.copy,
    )

pub answered : (n : ℕ) (s : State) (me : ℕ) (e : Event) (line : Line) (t : State) → IsOwnWord (s.steps me) (s.tags me) → Makes n s me e (Some line) t → HasLine t me line
answered n s me e line t o m =
    let y : Line = taken_line s (row_at s me e).carry in
    subst (λ (u : State). HasLine u me line) (sym m.next) (made_line s me y (row_at s me e) line (answered_row me (s.steps me) e (s.tags me) y line o m.answers))

-- and it is the line's value
pub line_is_value : (n : ℕ) (fits : List ℕ → Type 0) (s : State) (i : ℕ) (line v : Line) → HasValue n fits s v → HasLine s i line → v ≡ line
line_is_value n fits s i line v h l =
    let hands = h.lawful.slots in
    let copy = h.lawful.copies.sharer i l.0 in
    ⊎_elim
    (λ a. ⊎_elim (λ b. same_line (s.slots i) v line b a) (λ b. absurd (not_none (s.slots i) line b.0 a)) copy)
    (λ a.
    let own : HasInHand s i i = inl (refl, a.0) in
    ⊎_elim
    (λ b. absurd (not_none (s.slots i) v ((hands.out i).1 (i, own)) b))
    (λ b. same_line (kept_line (s.steps i)) v line (subst (λ (j : ℕ). kept_line (s.steps j) ≡ Some v) (hands.in_one i b.1.0 i b.1.1 own) b.1.2) a.1)
    copy)
    l.1

-- a purging node has it in its hand
pub purging_has : (s : State) (me : ℕ) (l : Line) (seen : Option (Option ℕ)) → s.steps me ≡ Pending.Purging l seen → IsOwnWord (s.steps me) (s.tags me) → HasLine s me l
purging_has s me l seen e o =
    let own : s.tags me ≡ word Kind.Purging (s.tags me).forw None = subst (λ (p : Pending). IsOwnWord p (s.tags me)) e o in (
      subst (λ (t : Tag). is_valid t.kind ≡ true) (sym own) refl,
      inr (subst (λ (p : Pending). (has_slot (phase_of p) ≡ true) × (kept_line p ≡ Some l)) (sym e) (refl, refl)),
    )
