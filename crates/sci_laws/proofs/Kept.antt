-- The lines of a log, as they are kept: what an event leads them to is what such lines are again.
use Rattle.std.proofs.Common.{◌≡◌, ◌≢◌, ◌∙◌, ℕ, zero, suc, ◌+◌, ◌<◌, ◌≤◌, ◌^◌, true, false, true≢false, eqb, List, [], ◌∷◌, length, get_or, set, Option, Some, None, Result, Ok, Err, refl, sym, ap, subst, arith, inl, inr, length-set, get_or-set_same, get_or-set_other, eqb-true, eq-eqb}
use Rattle.std.specs.Global.{Vec}
use Rattle.std.proofs.lemmas.Bool.{cases_Bool}
use Rattle.std.proofs.lemmas.List.{length-replicate}
use Rattle.std.proofs.lemmas.List.Elements.{All-set}
use mathlib.Core.Path.{fun_ext}
use denote.RawPtr.{null_ptr}
use Rattle.sci_core.specs.declared.keeps.AnyWords.{AnyWords}
use Rattle.sci_core.specs.declared.lines.Line.{Line}
use Rattle.sci_core.specs.declared.pending.Pending.{Pending}
use Rattle.sci_core.specs.declared.events.Event.{Event}
use Rattle.sci_core.specs.declared.outcomes.Outcome.{Outcome}
use Rattle.sci_core.specs.declared.outcomes.NotInTurn.{NotInTurn}
use Rattle.sci_core.specs.declared.rows.Place.{Place}
use Rattle.sci_core.specs.declared.rows.Carry.{Carry}
use Rattle.sci_core.specs.declared.whole.TheConstants.{MOST_NODES}
use Rattle.sci_core.specs.Answers.{Answers, IsDone, Makes, row_at}
use Rattle.sci_core.specs.Ranges.{CarriesBelow, ChangesBelow}
use Rattle.sci_core.specs.Row.{Row}
use Rattle.sci_core.specs.State.{State, blank, invalid}
use Rattle.sci_core.specs.Step.{look_of, looked, memory_after, memory_slot_after, slots_after, taken_line}
use Rattle.sci_core.specs.Whole.{WholeLine, IsRuled, IsSound, nodes_of, opened_whole, state_of, tag_list_after}
use Rattle.sci_core.proofs.Fitting.{any_event_fits}
use Rattle.sci_core.proofs.Going.Forms.{made}
use Rattle.sci_core.proofs.Sound.{asked_below, ruled_after, ruled_looked, tags_long, tags_read}
use Rattle.sci_core.proofs.States.{opened_is_sound, read_set}
use Rattle.sci_script.specs.declared.commands.Size.{Size}
use Rattle.sci_script.specs.Openings.{content_of, zeros}
use Rattle.sci_script.specs.Size.{IsSize}
use Rattle.sci_script.specs.Unused.{no_line}
use Rattle.sci_logs.specs.declared.entries.Deviation.{Deviation}
use Rattle.sci_logs.specs.declared.lines.Follower.{Follower}
use Rattle.sci_logs.specs.declared.told.Noted.{Noted}
use Rattle.sci_logs.specs.Steps.{AreUnused, Judges, Reopens, lines_of, whole_at}
use Rattle.sci_logs.specs.Told.{TakesAs, TakesTold, meant}

-- ---- one line

-- nothing is asked of words
abbrev pub any : List ℕ → Type 0
any words = Unit {0}

abbrev slot_list_after : List (Option Line) → Carry → List (Option Line)
slot_list_after slots Carry.Stays = slots
slot_list_after slots (Carry.Takes Place.Memory) = slots
slot_list_after slots (Carry.Takes (Place.Node x)) = set slots x None
slot_list_after slots (Carry.Gives Place.Memory line) = slots
slot_list_after slots (Carry.Gives (Place.Node x) line) = set slots x (Some line)

slots_read : (slots : List (Option Line)) (c : Carry) → CarriesBelow (length slots) c → ◌≡◌ {A = ℕ → Option Line} (λ i. get_or (slot_list_after slots c) i (Some blank)) (slots_after (λ i. get_or slots i (Some blank)) c)
slots_read slots Carry.Stays h = refl
slots_read slots (Carry.Takes Place.Memory) h = refl
slots_read slots (Carry.Takes (Place.Node x)) h = read_set slots x None (Some blank) h
slots_read slots (Carry.Gives Place.Memory line) h = refl
slots_read slots (Carry.Gives (Place.Node x) line) h = read_set slots x (Some line) (Some blank) h

slots_long : (slots : List (Option Line)) (c : Carry) → length (slot_list_after slots c) ≡ length slots
slots_long slots Carry.Stays = refl
slots_long slots (Carry.Takes Place.Memory) = refl
slots_long slots (Carry.Takes (Place.Node x)) = length-set slots x None
slots_long slots (Carry.Gives Place.Memory line) = refl
slots_long slots (Carry.Gives (Place.Node x) line) = length-set slots x (Some line)

-- the line behind an exchange, and behind a look
abbrev made_whole : WholeLine AnyWords → ℕ → Row → WholeLine AnyWords
made_whole w me r = record {
  keep = w.keep;
  number = w.number;
  memory = memory_after w.memory r.change;
  tags = tag_list_after w.tags r.change;
  steps = set w.steps me (r.after (taken_line (state_of w) r.carry));
  memory_slot = memory_slot_after w.memory_slot r.carry;
  slots = slot_list_after w.slots r.carry;
}

made_is : (w : WholeLine AnyWords) (me : ℕ) (r : Row) → me < length w.steps → ChangesBelow (length w.tags) r.change → CarriesBelow (length w.slots) r.carry → state_of (made_whole w me r) ≡ made (state_of w) me r
made_is w me r low change carry = λ k. record {
  memory = memory_after w.memory r.change;
  tags = tags_read w.tags r.change change k;
  steps = read_set w.steps me (r.after (taken_line (state_of w) r.carry)) Pending.Idle low k;
  memory_slot = memory_slot_after w.memory_slot r.carry;
  slots = slots_read w.slots r.carry carry k;
}

abbrev looked_whole : WholeLine AnyWords → ℕ → WholeLine AnyWords
looked_whole w me = record {
  keep = w.keep;
  number = w.number;
  memory = w.memory;
  tags = w.tags;
  steps = set w.steps me (look_of ((state_of w).steps me) ((state_of w).tags me));
  memory_slot = w.memory_slot;
  slots = w.slots;
}

looked_is : (w : WholeLine AnyWords) (me : ℕ) → me < length w.steps → state_of (looked_whole w me) ≡ looked (state_of w) me
looked_is w me low = λ k. record {
  memory = w.memory;
  tags = (state_of w).tags;
  steps = read_set w.steps me (look_of ((state_of w).steps me) ((state_of w).tags me)) Pending.Idle low k;
  memory_slot = w.memory_slot;
  slots = (state_of w).slots;
}

-- a sound line of as many nodes that stands so
abbrev pub Becomes : WholeLine AnyWords → State → Type 0
Becomes w t = (v : WholeLine AnyWords) × (nodes_of v ≡ nodes_of w) × IsSound any v × (state_of v ≡ t)

module _ (w : WholeLine AnyWords) (me : ℕ) (sound : IsSound any w) (low : me < nodes_of w) where
  becomes : (v : WholeLine AnyWords) (t : State) → nodes_of v ≡ nodes_of w → length v.steps ≡ length w.steps → length v.slots ≡ length w.slots → state_of v ≡ t → IsRuled (nodes_of w) any t → Becomes w t
  becomes v t tags steps slots is ruled = (
    v,
    tags,
    record {
      some = subst (λ (n : ℕ). 0 < n) (sym tags) sound.some;
      few = subst (λ (n : ℕ). n ≤ MOST_NODES) (sym tags) sound.few;
      steps = steps ∙ sound.steps ∙ sym tags;
      slots = slots ∙ sound.slots ∙ sym tags;
      ruled = subst (λ (n : ℕ). IsRuled n any (state_of v)) (sym tags) (subst (λ (s : State). IsRuled (nodes_of w) any s) (sym is) ruled);
    },
    is,
  )

  makes_on : (e : Event) (answer : Option Line) (t : State) → Makes (nodes_of w) (state_of w) me e answer t → Becomes w t
  makes_on e answer t h =
      let r = row_at (state_of w) me e in
      let below = asked_below any w sound me low e in
      let is : state_of (made_whole w me r) ≡ made (state_of w) me r =
      made_is w me r (subst (λ (n : ℕ). me < n) (sym sound.steps) low) below.change (subst (λ (n : ℕ). CarriesBelow n r.carry) (sym sound.slots) below.carry) in
      becomes (made_whole w me r) t (tags_long w.tags r.change) (length-set w.steps me (r.after (taken_line (state_of w) r.carry))) (slots_long w.slots r.carry) (is ∙ sym h.next)
      (subst (λ (s : State). IsRuled (nodes_of w) any s) (sym h.next) (ruled_after (nodes_of w) any (state_of w) sound.ruled me low e h.allowed h.finds (any_event_fits e)))

  done_on : (e : Event) (answer : Option Line) (t : State) → IsDone (nodes_of w) (state_of w) me e answer t → Becomes w t
  done_on Event.Look answer t (none, next) =
      becomes (looked_whole w me) t refl (length-set w.steps me (look_of ((state_of w).steps me) ((state_of w).tags me))) refl
      (looked_is w me (subst (λ (n : ℕ). me < n) (sym sound.steps) low) ∙ sym next)
      (subst (λ (s : State). IsRuled (nodes_of w) any s) (sym next) (ruled_looked (nodes_of w) any (state_of w) sound.ruled me low))
  done_on e answer t h = makes_on e answer t h

  pub steps_on : (e : Event) (o : Outcome) (t : State) → Answers (nodes_of w) (state_of w) me e (Ok o) t → Becomes w t
  steps_on e (Outcome.Done answer) t h = done_on e answer t h
  steps_on e (Outcome.Missed word) t h = (w, refl, sound, sym h.same)
  steps_on e Outcome.Busy t h = absurd h

-- ---- the lines

-- sound lines of n nodes
abbrev pub AreKept : Follower → Type 0
AreKept f = (line : ℕ) → line < length f.lines.items → (nodes_of (whole_at f.lines.items line) ≡ f.size.nodes) × IsSound any (whole_at f.lines.items line)

pub counted : (f : Follower) → length f.lines.items ≡ f.size.lines
counted f = sym f.lines.ok.0 ∙ f.count

abbrev with_item : Vec (WholeLine AnyWords) → ℕ → WholeLine AnyWords → Vec (WholeLine AnyWords)
with_item v i w = record { ptr = v.ptr; len = v.len; cap = v.cap; alloc = v.alloc; items = set v.items i w; ok = (v.ok.0 ∙ sym (length-set v.items i w), v.ok.1); small = v.small }

-- another line in its place
abbrev pub with_line : (f : Follower) (line : ℕ) (w : WholeLine AnyWords) → nodes_of w ≡ f.size.nodes → Follower
with_line f line w nodes = record { size = f.size; lines = with_item f.lines line w; is_size = f.is_size; count = f.count; widths = All-set (λ (v : WholeLine AnyWords). nodes_of v ≡ f.size.nodes) f.lines.items line w nodes f.widths }

module _ (f : Follower) (line : ℕ) (w : WholeLine AnyWords) (nodes : nodes_of w ≡ f.size.nodes) (there : line < f.size.lines) where
  inside : line < length f.lines.items
  inside = subst (λ (n : ℕ). line < n) (sym (counted f)) there

  pub there_is : whole_at (with_line f line w nodes).lines.items line ≡ w
  there_is = get_or-set_same f.lines.items line w no_line inside

  pub elsewhere : (l : ℕ) → l ≢ line → whole_at (with_line f line w nodes).lines.items l ≡ whole_at f.lines.items l
  elsewhere l apart = get_or-set_other f.lines.items line l w no_line apart

  pub with_kept : AreKept f → IsSound any w → AreKept (with_line f line w nodes)
  with_kept kept sound l low = elim (cases_Bool (eqb l line)) [
    | inl same ↦
        let at : whole_at (with_line f line w nodes).lines.items l ≡ w = ap (λ (k : ℕ). whole_at (with_line f line w nodes).lines.items k) (eqb-true l line same) ∙ there_is in
        (ap (λ (v : WholeLine AnyWords). nodes_of v) at ∙ nodes, subst (λ (v : WholeLine AnyWords). IsSound any v) (sym at) sound)
    | inr apart ↦
        let at = elsewhere l (λ e. true≢false (sym (eq-eqb l line e) ∙ apart)) in
        let had = kept l (subst (λ (n : ℕ). l < n) (length-set f.lines.items line w) low) in
        (ap (λ (v : WholeLine AnyWords). nodes_of v) at ∙ had.0, subst (λ (v : WholeLine AnyWords). IsSound any v) (sym at) had.1)
  ]

-- what is told is taken by lines that are kept, and leads to such lines
abbrev pub LeadsTo : Follower → ((ℕ → State) → Type 0) → Type 0
LeadsTo f Q = (g : Follower) × (g.size ≡ f.size) × AreKept g × Q (lines_of g)

module _ (f : Follower) (r : Noted) (after : ℕ → State) (kept : AreKept f) (low : r.node < f.size.nodes) (there : r.line < f.size.lines) where
  answered : (event : Event) (answer : Result Outcome NotInTurn) → Answers f.size.nodes (lines_of f r.line) r.node event answer (after r.line) → Judges r.claim answer (Ok tt) → Becomes (whole_at f.lines.items r.line) (after r.line)
  answered event (Err refusal) h judged = absurd (let e = judged in cc)
  answered event (Ok o) h judged =
      let had = kept r.line (subst (λ (n : ℕ). r.line < n) (sym (counted f)) there) in
      steps_on (whole_at f.lines.items r.line) r.node had.1 (subst (λ (n : ℕ). r.node < n) (sym had.0) low) event o (after r.line)
      (subst (λ (n : ℕ). Answers n (lines_of f r.line) r.node event (Ok o) (after r.line)) (sym had.0) h)

  leads_to : ((l : ℕ) → l ≢ r.line → after l ≡ lines_of f l) → Becomes (whole_at f.lines.items r.line) (after r.line) → LeadsTo f (λ lines. lines ≡ after)
  leads_to others (w, same, sound, is) =
      let had = kept r.line (subst (λ (n : ℕ). r.line < n) (sym (counted f)) there) in
      let nodes : nodes_of w ≡ f.size.nodes = same ∙ had.0 in (
        with_line f r.line w nodes,
        refl,
        with_kept f r.line w nodes there kept sound,
        fun_ext (λ l. elim (cases_Bool (eqb l r.line)) [
          | inl at ↦
              let e = eqb-true l r.line at in
              ap (λ (k : ℕ). lines_of (with_line f r.line w nodes) k) e ∙ ap (λ (v : WholeLine AnyWords). state_of v) (there_is f r.line w nodes there) ∙ is ∙ ap after (sym e)
          | inr apart ↦
              let far : l ≢ r.line = λ e. true≢false (sym (eq-eqb l r.line e) ∙ apart) in
              ap (λ (v : WholeLine AnyWords). state_of v) (elsewhere f r.line w nodes there l far) ∙ sym (others l far)
        ]),
      )

  takes_as : (m : Result Event Deviation) → TakesAs f.size.nodes (lines_of f) r m (Ok tt) after → LeadsTo f (λ lines. lines ≡ after)
  takes_as (Err d) h = absurd (let e = h.0 in cc)
  takes_as (Ok event) h = leads_to h.others (answered event h.answer h.step h.judged)

  pub takes_on : TakesTold f.size.nodes (lines_of f) r (Ok tt) after → LeadsTo f (λ lines. TakesTold f.size.nodes (lines_of f) r (Ok tt) lines)
  takes_on h =
      let (g, size, now, is) = takes_as (meant (lines_of f r.line) r.node r.told) h in
      (g, size, now, subst (λ (lines : ℕ → State). TakesTold f.size.nodes (lines_of f) r (Ok tt) lines) (sym is) h)

pub reopens_on : (f : Follower) (line : ℕ) (content : Line) → AreKept f → line < f.size.lines → LeadsTo f (λ lines. Reopens {E = Unit {0}} f.size.nodes (lines_of f) line content (Ok tt) lines)
reopens_on f line content kept there =
    let w : WholeLine AnyWords = opened_whole (record {}) line f.size.nodes content in
    let nodes : nodes_of w ≡ f.size.nodes = length-replicate f.size.nodes invalid in
    let sound : IsSound any w = opened_is_sound any (record {}) line f.size.nodes content (omega (arith, f.is_size.some_nodes)) f.is_size.few_nodes tt in (
      with_line f line w nodes,
      refl,
      with_kept f line w nodes there kept sound,
      (
        ap (λ (v : WholeLine AnyWords). state_of v) (there_is f line w nodes there),
        (λ l apart. ap (λ (v : WholeLine AnyWords). state_of v) (elsewhere f line w nodes there l apart)),
      ),
    )

-- ---- lines that nobody has used

abbrev fresh : ℕ → ℕ → WholeLine AnyWords
fresh nodes line = opened_whole (record {}) line nodes zeros

abbrev fresh_from : ℕ → ℕ → ℕ → List (WholeLine AnyWords)
fresh_from nodes first zero = []
fresh_from nodes first (suc more) = fresh nodes first ∷ fresh_from nodes (first + 1) more

fresh_long : (nodes first count : ℕ) → length (fresh_from nodes first count) ≡ count
fresh_long nodes first zero = refl
fresh_long nodes first (suc more) = let e = fresh_long nodes (first + 1) more in omega (arith, e)

fresh_at : (nodes first count line : ℕ) (d : WholeLine AnyWords) → line < count → get_or (fresh_from nodes first count) line d ≡ fresh nodes (first + line)
fresh_at nodes first zero line d low = absurd (omega (arith, low))
fresh_at nodes first (suc more) zero d low = let e : first ≡ first + zero = omega arith in ap (fresh nodes) e
fresh_at nodes first (suc more) (suc line) d low =
    let below : line < more = omega (arith, low) in let e : first + 1 + line ≡ first + suc line = omega arith in fresh_at nodes (first + 1) more line d below ∙ ap (fresh nodes) e

abbrev vec_of : {A : Type 0} (items : List A) → length items < 2 ^ 63 → Vec A
vec_of items small = record { ptr = null_ptr; len = length items; cap = length items; alloc = record { memory = record { seal = tt } }; items = items; ok = (refl, omega arith); small = small }

module _ (size : Size) (is : IsSize size) where
  first_is : (line : ℕ) (d : WholeLine AnyWords) → line < size.lines → get_or (fresh_from size.nodes zero size.lines) line d ≡ fresh size.nodes line
  first_is line d low = let e : zero + line ≡ line = omega arith in fresh_at size.nodes zero size.lines line d low ∙ ap (fresh size.nodes) e

  first_nodes : (line : ℕ) (d : WholeLine AnyWords) → line < length (fresh_from size.nodes zero size.lines) → nodes_of (get_or (fresh_from size.nodes zero size.lines) line d) ≡ size.nodes
  first_nodes line d low =
      let below : line < size.lines = subst (λ (n : ℕ). line < n) (fresh_long size.nodes zero size.lines) low in
      ap (λ (w : WholeLine AnyWords). nodes_of w) (first_is line d below) ∙ length-replicate size.nodes invalid

  first_short : length (fresh_from size.nodes zero size.lines) < 2 ^ 63
  first_short = let long = fresh_long size.nodes zero size.lines in omega (arith, long, is.few_lines)

  abbrev first_follower : Follower
  first_follower = record {
    size = size;
    lines = vec_of (fresh_from size.nodes zero size.lines) first_short;
    is_size = is;
    count = fresh_long size.nodes zero size.lines;
    widths = first_nodes;
  }

  first_unused : AreUnused size.nodes size.lines first_follower.lines.items
  unfolding content_of
  first_unused line d low = let at = first_is line d low in at ∙ ap (λ (x : AnyWords). opened_whole x line size.nodes zeros) (sym (ap (λ (w : WholeLine AnyWords). w.keep) at))

  first_kept : AreKept first_follower
  first_kept line low =
      let below : line < size.lines = subst (λ (n : ℕ). line < n) (fresh_long size.nodes zero size.lines) low in
      let sound : IsSound any (fresh size.nodes line) = opened_is_sound any (record {}) line size.nodes zeros (omega (arith, is.some_nodes)) is.few_nodes tt in
      (first_nodes line no_line low, subst (λ (w : WholeLine AnyWords). IsSound any w) (sym (first_is line no_line below)) sound)

  pub begins_with : (f : Follower) × (f.size ≡ size) × AreUnused size.nodes size.lines f.lines.items × AreKept f
  begins_with = (first_follower, refl, first_unused, first_kept)
