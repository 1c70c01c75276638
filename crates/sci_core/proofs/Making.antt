-- A `Whole` stays laid: what its fields show after an exchange, a look, or at the start.
use Rattle.std.proofs.Common.{◌≡◌, ℕ, ◌<◌, ◌≤◌, true, false, Bool, cond, ltb, Option, Some, None, List, length, get_or, set, replicate, refl, sym, subst, ap, ◌∙◌, arith}
use Rattle.std.proofs.lemmas.Bool.Decides.{nat_tests}
use Rattle.std.proofs.lemmas.List.{length-set, length-replicate}
use Rattle.sci_words.specs.declared.tags.Tag.{Tag}
use Rattle.sci_words.specs.declared.memory.Mem.{Mem}
use Rattle.sci_core.specs.declared.lines.Line.{Line}
use Rattle.sci_core.specs.declared.pending.Pending.{Pending}
use Rattle.sci_core.specs.declared.stages.Stage.{Stage}
use Rattle.sci_core.specs.declared.events.Event.{Event}
use Rattle.sci_core.specs.declared.rows.Place.{Place}
use Rattle.sci_core.specs.declared.rows.Carry.{Carry}
use Rattle.sci_core.specs.declared.rows.Exchange.{Exchange}
use Rattle.sci_core.specs.declared.outlines.Motion.{Motion}
use Rattle.sci_core.specs.declared.outlines.Outline.{Outline}
use Rattle.sci_core.specs.declared.whole.TheConstants.{MOST_NODES}
use Rattle.sci_core.specs.State.{State, update, invalid, blank, opened}
use Rattle.sci_core.specs.Answers.{row_at, FitsEvent, Makes}
use Rattle.sci_core.specs.Carrying.{hand_of, GivesLast, hand_after}
use Rattle.sci_core.specs.Laid.{IsLaid, seen_whole, step_laid, tabled, slot_of, memory_slot_of, given_lines, lines_after, bytes_after, MovesBelow}
use Rattle.sci_core.specs.Row.{Row, exchange_with}
use Rattle.sci_core.specs.Stage.{pending_of, outline_of, motion_of, carry_with, filled, given, own_after, is_fetching}
use Rattle.sci_core.specs.Step.{Finds, IsAtHome, line_in, taken_line, stepped, looked, look_of, memory_after}
use Rattle.sci_core.specs.Table.{has_row, row_of}
use Rattle.sci_core.specs.Table.Purging.{written}
use Rattle.sci_core.specs.Whole.{WholeLine, IsRuled, nodes_of, state_of, opened_whole, tag_list_after}
use Rattle.sci_core.proofs.Answered.{update_same}
use Rattle.sci_core.proofs.Filling.{refilled, row_filled, motion_below}
use Rattle.sci_core.proofs.Going.Forms.{Going}
use Rattle.sci_core.proofs.Handing.{Hands, hands}
use Rattle.sci_core.proofs.Laying.{laid_state, state_seen, length-tabled, tabled_same}
use Rattle.sci_core.proofs.Looking as looking
use Rattle.sci_core.proofs.Moving.{Shows, same_some, shown_state, lines_moved, bytes_moved, shown_after, handled, updated, updated_both}
use Rattle.sci_core.proofs.Ranges.{RowBelow}
use Rattle.sci_core.proofs.Sound.{asked_below, going, ruled_after, ruled_looked, tags_read, tags_long}
use Rattle.sci_core.proofs.States.{read_set, replicated_at, opened_is_ruled, tags_read as opened_tags}

-- the lists of bytes after an exchange, read by the node

kept_same : (ls : List Line) (me : ℕ) → ◌≡◌ {A = ℕ → Line} (λ j. get_or ls j blank) (update (λ j. get_or ls j blank) me (get_or ls me blank))
kept_same ls me = looking.update_same (λ j. get_or ls j blank) me (get_or ls me blank) refl

given_read : (ls : List Line) (me : ℕ) (e : Event) → me < length ls → ◌≡◌ {A = ℕ → Line} (λ j. get_or (given_lines ls me e) j blank) (update (λ j. get_or ls j blank) me (given e (get_or ls me blank)))
given_read ls me Event.Left h = read_set ls me blank blank h
given_read ls me (Event.Written (Some words)) h = read_set ls me (written (get_or ls me blank) (Some words)) blank h
given_read ls me (Event.Written None) h = kept_same ls me
given_read ls me _ h = kept_same ls me

given_long : (ls : List Line) (me : ℕ) (e : Event) → length (given_lines ls me e) ≡ length ls
given_long ls me Event.Left = length-set ls me blank
given_long ls me (Event.Written (Some words)) = length-set ls me (written (get_or ls me blank) (Some words))
given_long ls me _ = refl

given_own : (ls : List Line) (me : ℕ) (e : Event) → me < length ls → get_or (given_lines ls me e) me blank ≡ given e (get_or ls me blank)
given_own ls me e h = ap (λ (f : ℕ → Line). f me) (given_read ls me e h) ∙ update_same (λ j. get_or ls j blank) me (given e (get_or ls me blank))

fetched_read : (b : Bool) (ls : List Line) (me : ℕ) (m : Line) → me < length ls → ◌≡◌ {A = ℕ → Line} (λ j. get_or (cond b (set ls me m) ls) j blank) (update (λ j. get_or ls j blank) me (cond b m (get_or ls me blank)))
fetched_read true ls me m h = read_set ls me m blank h
fetched_read false ls me m h = kept_same ls me

fetched_long : (b : Bool) (ls : List Line) (me : ℕ) (m : Line) → length (cond b (set ls me m) ls) ≡ length ls
fetched_long true ls me m = length-set ls me m
fetched_long false ls me m = refl

-- the bytes in the slot that is taken
abbrev pub taken_bytes : Line → (ℕ → Line) → Motion → Line
taken_bytes m f (Motion.Takes Place.Memory) = m
taken_bytes m f (Motion.Takes (Place.Node x)) = f x
taken_bytes m f _ = blank

-- the own bytes after an exchange
abbrev pub own_moved : Line → List Line → ℕ → Event → Motion → Stage → Line
own_moved m ls me e c after = own_after c after e (get_or ls me blank) (taken_bytes m (λ j. get_or ls j blank) c)

lines_read : (m : Line) (ls : List Line) (me : ℕ) (e : Event) (c : Motion) (after : Stage) → me < length ls → MovesBelow (length ls) c
    → ◌≡◌ {A = ℕ → Line} (λ j. get_or (lines_after m ls me e c after) j blank) (lines_moved (λ j. get_or ls j blank) me c (own_moved m ls me e c after))
lines_read m ls me e Motion.Stays after h k = kept_same ls me
lines_read m ls me e (Motion.Takes Place.Memory) after h k = fetched_read (is_fetching after) ls me m h
lines_read m ls me e (Motion.Takes (Place.Node x)) after h k = read_set ls me (get_or ls x blank) blank h
lines_read m ls me e (Motion.Gives Place.Memory) after h k = given_read ls me e h
lines_read m ls me e (Motion.Gives (Place.Node x)) after h k =
    let long : length (given_lines ls me e) ≡ length ls = given_long ls me e in
    read_set (given_lines ls me e) x (get_or (given_lines ls me e) me blank) blank (omega (arith, long, k))
    ∙ ap (λ (f : ℕ → Line). update f x (get_or (given_lines ls me e) me blank)) (given_read ls me e h)
    ∙ ap (λ (l : Line). update (update (λ j. get_or ls j blank) me (given e (get_or ls me blank))) x l) (given_own ls me e h)

lines_long : (m : Line) (ls : List Line) (me : ℕ) (e : Event) (c : Motion) (after : Stage) → length (lines_after m ls me e c after) ≡ length ls
lines_long m ls me e Motion.Stays after = refl
lines_long m ls me e (Motion.Takes Place.Memory) after = fetched_long (is_fetching after) ls me m
lines_long m ls me e (Motion.Takes (Place.Node x)) after = length-set ls me (get_or ls x blank)
lines_long m ls me e (Motion.Gives Place.Memory) after = given_long ls me e
lines_long m ls me e (Motion.Gives (Place.Node x)) after = length-set (given_lines ls me e) x (get_or (given_lines ls me e) me blank) ∙ given_long ls me e

bytes_read : (m : Line) (ls : List Line) (me : ℕ) (e : Event) (c : Motion) (after : Stage) → me < length ls → bytes_after m ls me e c ≡ bytes_moved m c (own_moved m ls me e c after)
bytes_read m ls me e Motion.Stays after h = refl
bytes_read m ls me e (Motion.Takes x) after h = refl
bytes_read m ls me e (Motion.Gives Place.Memory) after h = given_own ls me e h
bytes_read m ls me e (Motion.Gives (Place.Node x)) after h = refl

own_read : (f : ℕ → Line) (me : ℕ) (c : Motion) (own : Line) → lines_moved f me c own me ≡ own
own_read f me (Motion.Gives (Place.Node x)) own = updated (update f me own) x me own (λ (l : Line). l ≡ own) (λ e. refl) (λ n. update_same f me own)
own_read f me Motion.Stays own = update_same f me own
own_read f me (Motion.Takes x) own = update_same f me own
own_read f me (Motion.Gives Place.Memory) own = update_same f me own

-- the line that is taken is the bytes that are shown
taken_shown : (s : State) (stages : ℕ → Stage) (lines : ℕ → Line) (bytes : Line) → Shows s stages lines bytes → (c : Carry) → IsAtHome s c → taken_line s c ≡ taken_bytes bytes lines (motion_of c)
taken_shown s stages lines bytes shows Carry.Stays h = refl
taken_shown s stages lines bytes shows (Carry.Takes Place.Memory) h = sym (shows.memory (line_in s.memory_slot) h)
taken_shown s stages lines bytes shows (Carry.Takes (Place.Node x)) h = sym (shows.slots x (line_in (s.slots x)) h)
taken_shown s stages lines bytes shows (Carry.Gives x l) h = refl

at_home_is : (b : Bool) (k l : Line) → cond b None (Some k) ≡ Some l → k ≡ l
at_home_is true k l e = absurd (cc)
at_home_is false k l e = cc

-- fields that show a ruled state are laid, and they are that state
module _ {K : Type 0} (fits : List ℕ → Type 0) (keep : K) (number : ℕ) (memory : Mem) (tags : List Tag) (stages : List Stage) (bytes : Line) (lines : List Line) (es : length stages ≡ length tags) (el : length lines ≡ length tags) where
  pub shown : Shows (state_of (seen_whole keep number memory tags stages bytes lines)) (λ j. get_or stages j Stage.Idle) (λ j. get_or lines j blank) bytes
  shown =
      subst (λ (s : State). Shows s (λ j. get_or stages j Stage.Idle) (λ j. get_or lines j blank) bytes) (sym (state_seen tags stages lines es el keep number memory bytes))
      record {
        steps = λ j. refl;
        slots = λ j l. at_home_is _ (get_or lines j blank) l;
        memory = λ l. at_home_is _ bytes l;
      }

  module _ (t : State) (ruled : IsRuled (length tags) fits t) (em : t.memory ≡ memory) (et : ◌≡◌ {A = ℕ → Tag} t.tags (λ i. get_or tags i invalid)) (shows : Shows t (λ j. get_or stages j Stage.Idle) (λ j. get_or lines j blank) bytes) where
    pub seen_as : state_of (seen_whole keep number memory tags stages bytes lines) ≡ t
    seen_as =
        let words : ◌≡◌ {A = State}
        record { memory = t.memory; tags = t.tags; steps = step_laid stages lines; memory_slot = memory_slot_of t.memory bytes; slots = λ j. slot_of (t.tags j) (get_or stages j Stage.Idle) (get_or lines j blank) }
        (laid_state memory tags stages bytes lines) =
        λ k. record { memory = em k; tags = et k; steps = step_laid stages lines; memory_slot = memory_slot_of (em k) bytes; slots = λ j. slot_of (et k j) (get_or stages j Stage.Idle) (get_or lines j blank) } in
        state_seen tags stages lines es el keep number memory bytes ∙ sym (shown_state t ruled.witness ruled.law (λ j. get_or stages j Stage.Idle) (λ j. get_or lines j blank) bytes shows ∙ words)

    pub laid_as : 0 < length tags → length tags ≤ MOST_NODES → IsLaid fits keep number memory tags stages bytes lines
    laid_as some few = record {
      of_stages = es;
      of_lines = el;
      sound = record {
        some = some;
        few = few;
        steps = length-tabled (step_laid stages lines) 0 (length stages) ∙ es;
        slots = length-tabled (λ i. slot_of (get_or tags i invalid) (get_or stages i Stage.Idle) (get_or lines i blank)) 0 (length tags);
        ruled = subst (λ (s : State). IsRuled (length tags) fits s) (sym seen_as) ruled;
      };
    }

-- an allowed event of a node that finds its word
pub record Asks {K : Type 0} (fits : K → ℕ → List ℕ → Type 0) (w : WholeLine K) (me : ℕ) (e : Event) (o : Outline) : Type 0 where
  pub below : me < nodes_of w
  pub allowed : has_row (nodes_of w) me ((state_of w).steps me) e ≡ true
  pub finds : Finds (state_of w) (row_at (state_of w) me e).change
  pub fit : FitsEvent (fits w.keep w.number) e
  pub outline : o ≡ outline_of (row_at (state_of w) me e)

-- the fields after the exchange are laid, and the node has made it
pub record Made {K : Type 0} (fits : List ℕ → Type 0) (keep : K) (number : ℕ) (w : WholeLine K) (me : ℕ) (e : Event) (o : Outline) (memory : Mem) (tags : List Tag) (stages : List Stage) (bytes : Line) (lines : List Line) : Type 0 where
  pub laid : IsLaid fits keep number memory tags stages bytes lines
  pub makes : Makes (nodes_of w) (state_of w) me e (cond o.answers (Some (get_or lines me blank)) None) (state_of (seen_whole keep number memory tags stages bytes lines))

module _ {K : Type 0} (fits : K → ℕ → List ℕ → Type 0) (keep : K) (number : ℕ) (memory : Mem) (tags : List Tag) (stages : List Stage) (bytes : Line) (lines : List Line) (laid : IsLaid (fits keep number) keep number memory tags stages bytes lines) (me : ℕ) (e : Event) where
  abbrev before : WholeLine K
  before = seen_whole keep number memory tags stages bytes lines

  abbrev row : Row
  row = row_at (state_of before) me e

  abbrev own : Line
  own = own_moved bytes lines me e (outline_of row).motion (outline_of row).after

  module _ (a : Asks fits before me e (outline_of row)) where
    inside : RowBelow (length tags) row
    inside = asked_below (fits keep number) before laid.sound me a.below e

    go : Going (length tags) (state_of before) laid.sound.ruled.witness me e row
    go = going (length tags) (fits keep number) (state_of before) laid.sound.ruled me a.below e a.allowed a.finds

    shows : Shows (state_of before) (λ j. get_or stages j Stage.Idle) (λ j. get_or lines j blank) bytes
    shows = shown (fits keep number) keep number memory tags stages bytes lines laid.of_stages laid.of_lines

    -- the exchange of the row is its outline with the own bytes after it
    exchanged : exchange_with (taken_line (state_of before) row.carry) row ≡ filled (outline_of row) own
    exchanged =
        ap (λ (y : Line). exchange_with y row) (taken_shown (state_of before) (λ j. get_or stages j Stage.Idle) (λ j. get_or lines j blank) bytes shows row.carry go.home)
        ∙ subst (λ (p : Pending). exchange_with (taken_bytes bytes (λ j. get_or lines j blank) (outline_of row).motion) (row_of me p e) ≡ refilled (row_of me p e) e (get_or lines me blank) (taken_bytes bytes (λ j. get_or lines j blank) (outline_of row).motion)) (sym (shows.steps me))
        (row_filled me (get_or stages me Stage.Idle) (get_or lines me blank) (taken_bytes bytes (λ j. get_or lines j blank) (outline_of row).motion) e)

    abbrev after : State
    after = stepped (state_of before) me (filled (outline_of row) own)

    ruled : IsRuled (length tags) (fits keep number) after
    ruled = subst (λ (x : Exchange). IsRuled (length tags) (fits keep number) (stepped (state_of before) me x)) exchanged (ruled_after (length tags) (fits keep number) (state_of before) laid.sound.ruled me a.below e a.allowed a.finds a.fit)

    stays_own : (c : Motion) (q : Stage) (l y : Line) → c ≡ Motion.Stays → own_after c q e l y ≡ l
    stays_own c q l y h = subst (λ (m : Motion). own_after m q e l y ≡ l) (sym h) refl

    shows_after : Shows after (update (λ j. get_or stages j Stage.Idle) me (outline_of row).after) (lines_moved (λ j. get_or lines j blank) me (outline_of row).motion own) (bytes_moved bytes (outline_of row).motion own)
    shows_after =
        let hand : Hands me ((state_of before).steps me) row = hands (length tags) me ((state_of before).steps me) e a.allowed in
        let gives : GivesLast (carry_with (outline_of row).motion own) (hand_of me ((state_of before).steps me)) =
        subst (λ (x : Exchange). GivesLast x.carry (hand_of me ((state_of before).steps me))) exchanged hand.gives in
        let left : hand_of me (pending_of (outline_of row).after own) ≡ hand_after (carry_with (outline_of row).motion own) (hand_of me ((state_of before).steps me)) =
        subst (λ (x : Exchange). hand_of me x.after ≡ hand_after x.carry (hand_of me ((state_of before).steps me))) exchanged (hand.after (taken_line (state_of before) row.carry)) in
        shown_after (state_of before) (λ j. get_or stages j Stage.Idle) (λ j. get_or lines j blank) bytes shows me (outline_of row).after own ruled.witness (outline_of row) refl ruled.law
        (handled (state_of before) (λ j. get_or stages j Stage.Idle) (λ j. get_or lines j blank) bytes shows me (outline_of row).after own laid.sound.ruled.witness laid.sound.ruled.law (outline_of row).motion (stays_own (outline_of row).motion (outline_of row).after (get_or lines me blank) (taken_bytes bytes (λ j. get_or lines j blank) (outline_of row).motion)) gives left)

    in_lines : me < length lines
    in_lines = omega (arith, laid.of_lines, a.below)

    in_stages : me < length stages
    in_stages = omega (arith, laid.of_stages, a.below)

    moves_below : MovesBelow (length lines) (outline_of row).motion
    moves_below = subst (λ (n : ℕ). MovesBelow n (outline_of row).motion) (sym laid.of_lines) (motion_below (length tags) row.carry inside.carry)

    pub made_here : Made (fits keep number) keep number before me e (outline_of row)
        (memory_after memory (outline_of row).change) (tag_list_after tags (outline_of row).change) (set stages me (outline_of row).after)
        (bytes_after bytes lines me e (outline_of row).motion) (lines_after bytes lines me e (outline_of row).motion (outline_of row).after)
    made_here =
        let o : Outline = outline_of row in
        let et : length (tag_list_after tags o.change) ≡ length tags = tags_long tags o.change in
        let ls : List Line = lines_after bytes lines me e o.motion o.after in
        let read : ◌≡◌ {A = ℕ → Line} (λ j. get_or ls j blank) (lines_moved (λ j. get_or lines j blank) me o.motion own) = lines_read bytes lines me e o.motion o.after in_lines moves_below in
        let stage : ◌≡◌ {A = ℕ → Stage} (λ j. get_or (set stages me o.after) j Stage.Idle) (update (λ j. get_or stages j Stage.Idle) me o.after) = read_set stages me o.after Stage.Idle in_stages in
        let shows : Shows after (λ j. get_or (set stages me o.after) j Stage.Idle) (λ j. get_or ls j blank) (bytes_after bytes lines me e o.motion) =
        subst (λ (f : ℕ → Stage). Shows after f (λ j. get_or ls j blank) (bytes_after bytes lines me e o.motion)) (sym stage)
        (subst (λ (f : ℕ → Line). Shows after (update (λ j. get_or stages j Stage.Idle) me o.after) f (bytes_after bytes lines me e o.motion)) (sym read)
        (subst (λ (b : Line). Shows after (update (λ j. get_or stages j Stage.Idle) me o.after) (lines_moved (λ j. get_or lines j blank) me o.motion own) b) (sym (bytes_read bytes lines me e o.motion o.after in_lines)) shows_after)) in
        let es : length (set stages me o.after) ≡ length (tag_list_after tags o.change) = length-set stages me o.after ∙ laid.of_stages ∙ sym et in
        let el : length ls ≡ length (tag_list_after tags o.change) = lines_long bytes lines me e o.motion o.after ∙ laid.of_lines ∙ sym et in
        let rules : IsRuled (length (tag_list_after tags o.change)) (fits keep number) after = subst (λ (n : ℕ). IsRuled n (fits keep number) after) (sym et) ruled in
        let words : ◌≡◌ {A = ℕ → Tag} after.tags (λ i. get_or (tag_list_after tags o.change) i invalid) = sym (tags_read tags o.change inside.change) in
        let own_is : get_or ls me blank ≡ own = ap (λ (f : ℕ → Line). f me) read ∙ own_read (λ j. get_or lines j blank) me o.motion own in
        record {
          laid = laid_as (fits keep number) keep number (memory_after memory o.change) (tag_list_after tags o.change) (set stages me o.after) (bytes_after bytes lines me e o.motion) ls es el after rules refl words shows (omega (arith, et, laid.sound.some)) (omega (arith, et, laid.sound.few));
          makes = record {
            allowed = a.allowed;
            finds = a.finds;
            home = go.home;
            answers = ap (λ (l : Line). cond o.answers (Some l) None) own_is ∙ sym (ap (λ (x : Exchange). x.answer) exchanged);
            next = seen_as (fits keep number) keep number (memory_after memory o.change) (tag_list_after tags o.change) (set stages me o.after) (bytes_after bytes lines me e o.motion) ls es el after rules refl words shows
                ∙ sym (ap (λ (x : Exchange). stepped (state_of before) me x) exchanged);
          };
        }

-- where the parts are those after the exchange
pub made_as : {K : Type 0} (fits : K → ℕ → List ℕ → Type 0) (keep : K) (number : ℕ) (memory : Mem) (tags : List Tag) (stages : List Stage) (bytes : Line) (lines : List Line) → IsLaid (fits keep number) keep number memory tags stages bytes lines
    → (w : WholeLine K) → seen_whole keep number memory tags stages bytes lines ≡ w → (me : ℕ) (e : Event) (o : Outline) → Asks fits w me e o
    → (m : Mem) (t : List Tag) (i : ℕ) (b : Line) (l : List Line)
    → m ≡ memory_after memory o.change → t ≡ tag_list_after tags o.change → i ≡ me → b ≡ bytes_after bytes lines me e o.motion → l ≡ lines_after bytes lines me e o.motion o.after
    → Made (fits keep number) keep number w me e o m t (set stages i o.after) b l
made_as {K} fits keep number memory tags stages bytes lines laid w view me e o asks m t i b l em et ei eb el =
    let v : WholeLine K = seen_whole keep number memory tags stages bytes lines in
    let asks_here : Asks fits v me e o = subst (λ (u : WholeLine K). Asks fits u me e o) (sym view) asks in
    let here : Made (fits keep number) keep number v me e o (memory_after memory o.change) (tag_list_after tags o.change) (set stages me o.after) (bytes_after bytes lines me e o.motion) (lines_after bytes lines me e o.motion o.after) =
    subst (λ (x : Outline). Made (fits keep number) keep number v me e x (memory_after memory x.change) (tag_list_after tags x.change) (set stages me x.after) (bytes_after bytes lines me e x.motion) (lines_after bytes lines me e x.motion x.after)) (sym asks_here.outline)
    (made_here fits keep number memory tags stages bytes lines laid me e (subst (λ (x : Outline). Asks fits v me e x) asks_here.outline asks_here)) in
    let there : Made (fits keep number) keep number w me e o (memory_after memory o.change) (tag_list_after tags o.change) (set stages me o.after) (bytes_after bytes lines me e o.motion) (lines_after bytes lines me e o.motion o.after) =
    subst (λ (u : WholeLine K). Made (fits keep number) keep number u me e o (memory_after memory o.change) (tag_list_after tags o.change) (set stages me o.after) (bytes_after bytes lines me e o.motion) (lines_after bytes lines me e o.motion o.after)) view here in
    subst (λ (y : Mem). Made (fits keep number) keep number w me e o y t (set stages i o.after) b l) (sym em)
    (subst (λ (y : List Tag). Made (fits keep number) keep number w me e o (memory_after memory o.change) y (set stages i o.after) b l) (sym et)
    (subst (λ (y : ℕ). Made (fits keep number) keep number w me e o (memory_after memory o.change) (tag_list_after tags o.change) (set stages y o.after) b l) (sym ei)
    (subst (λ (y : Line). Made (fits keep number) keep number w me e o (memory_after memory o.change) (tag_list_after tags o.change) (set stages me o.after) y l) (sym eb)
    (subst (λ (y : List Line). Made (fits keep number) keep number w me e o (memory_after memory o.change) (tag_list_after tags o.change) (set stages me o.after) (bytes_after bytes lines me e o.motion) y) (sym el) there))))

-- the fields after a look
pub looked_as : {K : Type 0} (fits : K → ℕ → List ℕ → Type 0) (keep : K) (number : ℕ) (memory : Mem) (tags : List Tag) (stages : List Stage) (bytes : Line) (lines : List Line) → IsLaid (fits keep number) keep number memory tags stages bytes lines
    → (w : WholeLine K) → seen_whole keep number memory tags stages bytes lines ≡ w → (me : ℕ) → me < length tags → (i : ℕ) → i ≡ me
    → (after : Stage) → ((l : Line) → pending_of after l ≡ look_of (pending_of (get_or stages me Stage.Idle) l) ((state_of w).tags me))
    → IsLaid (fits keep number) keep number memory tags (set stages i after) bytes lines × (state_of (seen_whole keep number memory tags (set stages i after) bytes lines) ≡ looked (state_of w) me)
looked_as {K} fits keep number memory tags stages bytes lines laid w view me below i at after is =
    let v : WholeLine K = seen_whole keep number memory tags stages bytes lines in
    let s : State = state_of v in
    let shows : Shows s (λ j. get_or stages j Stage.Idle) (λ j. get_or lines j blank) bytes = shown (fits keep number) keep number memory tags stages bytes lines laid.of_stages laid.of_lines in
    let ruled : IsRuled (length tags) (fits keep number) (looked s me) = ruled_looked (length tags) (fits keep number) s laid.sound.ruled me below in
    let is_here : (l : Line) → pending_of after l ≡ look_of (pending_of (get_or stages me Stage.Idle) l) (get_or tags me invalid) = λ l. is l ∙ ap (λ (u : WholeLine K). look_of (pending_of (get_or stages me Stage.Idle) l) ((state_of u).tags me)) (sym view) in
    let own : (j : ℕ) → j ≡ me → look_of (s.steps me) (s.tags me) ≡ pending_of after (get_or lines j blank) =
    λ j e.
    ap (λ (p : Pending). look_of p (s.tags me)) (shows.steps me) ∙ ap (λ (k : ℕ). look_of (pending_of (get_or stages me Stage.Idle) (get_or lines k blank)) (s.tags me)) (sym e) ∙ sym (is_here (get_or lines j blank)) in
    let seen : Shows (looked s me) (update (λ j. get_or stages j Stage.Idle) me after) (λ j. get_or lines j blank) bytes = record {
      steps = λ j.
          updated_both s.steps (λ k. get_or stages k Stage.Idle) me j (look_of (s.steps me) (s.tags me)) after (λ (p : Pending) (q : Stage). p ≡ pending_of q (get_or lines j blank)) (own j) (λ n. shows.steps j);
      slots = shows.slots;
      memory = shows.memory;
    } in
    let in_stages : me < length stages = omega (arith, laid.of_stages) in
    let listed : Shows (looked s me) (λ j. get_or (set stages me after) j Stage.Idle) (λ j. get_or lines j blank) bytes =
    subst (λ (f : ℕ → Stage). Shows (looked s me) f (λ j. get_or lines j blank) bytes) (sym (read_set stages me after Stage.Idle in_stages)) seen in
    let es : length (set stages me after) ≡ length tags = length-set stages me after ∙ laid.of_stages in
    let here : IsLaid (fits keep number) keep number memory tags (set stages me after) bytes lines × (state_of (seen_whole keep number memory tags (set stages me after) bytes lines) ≡ looked s me) = (
      laid_as (fits keep number) keep number memory tags (set stages me after) bytes lines es laid.of_lines (looked s me) ruled refl refl listed laid.sound.some laid.sound.few,
      seen_as (fits keep number) keep number memory tags (set stages me after) bytes lines es laid.of_lines (looked s me) ruled refl refl listed,
    ) in
    let there : IsLaid (fits keep number) keep number memory tags (set stages me after) bytes lines × (state_of (seen_whole keep number memory tags (set stages me after) bytes lines) ≡ looked (state_of w) me) =
    (here.0, here.1 ∙ ap (λ (u : WholeLine K). looked (state_of u) me) view) in
    subst (λ (k : ℕ). IsLaid (fits keep number) keep number memory tags (set stages k after) bytes lines × (state_of (seen_whole keep number memory tags (set stages k after) bytes lines) ≡ looked (state_of w) me)) (sym at) there

-- a line just opened
module _ {K : Type 0} (fits : List ℕ → Type 0) (keep : K) (number n : ℕ) (line : Line) where
  idle_at : (j : ℕ) → get_or (replicate n Stage.Idle) j Stage.Idle ≡ Stage.Idle
  idle_at j = grind (arith, nat_tests, replicated_at n j Stage.Idle Stage.Idle)

  opened_shows : Shows (opened n line) (λ j. get_or (replicate n Stage.Idle) j Stage.Idle) (λ j. get_or (replicate n line) j blank) line
  opened_shows = record {
    steps = λ j. ap (λ (s : Stage). pending_of s (get_or (replicate n line) j blank)) (sym (idle_at j));
    slots = λ j l e. replicated_at n j line blank ∙ same_some (cond (ltb j n) line blank) l e;
    memory = λ l e. same_some line l e;
  }

  opened_slot : (j : ℕ) → j < n → slot_of (get_or (replicate n invalid) j invalid) (get_or (replicate n Stage.Idle) j Stage.Idle) (get_or (replicate n line) j blank) ≡ Some line
  opened_slot j h =
      let there : get_or (replicate n line) j blank ≡ line = grind (arith, nat_tests, replicated_at n j line blank) in
      ap (λ (f : ℕ → Tag). slot_of (f j) (get_or (replicate n Stage.Idle) j Stage.Idle) (get_or (replicate n line) j blank)) (opened_tags n)
      ∙ ap (λ (s : Stage). slot_of invalid s (get_or (replicate n line) j blank)) (idle_at j)
      ∙ ap (λ (l : Line). slot_of invalid Stage.Idle l) there

  -- it shows what it was opened with
  pub opened_seen : seen_whole keep number (opened n line).memory (replicate n invalid) (replicate n Stage.Idle) line (replicate n line) ≡ opened_whole keep number n line
  opened_seen =
      let steps : ◌≡◌ {A = List Pending} (tabled (step_laid (replicate n Stage.Idle) (replicate n line)) 0 (length (replicate n Stage.Idle))) (replicate n Pending.Idle) =
      ap (λ (m : ℕ). tabled (step_laid (replicate n Stage.Idle) (replicate n line)) 0 m) (length-replicate n Stage.Idle)
      ∙ tabled_same (step_laid (replicate n Stage.Idle) (replicate n line)) 0 n Pending.Idle (λ j l m. ap (λ (s : Stage). pending_of s (get_or (replicate n line) j blank)) (idle_at j)) in
      let slots : ◌≡◌ {A = List (Option Line)} (tabled (λ i. slot_of (get_or (replicate n invalid) i invalid) (get_or (replicate n Stage.Idle) i Stage.Idle) (get_or (replicate n line) i blank)) 0 (length (replicate n invalid))) (replicate n (Some line)) =
      ap (λ (m : ℕ). tabled (λ i. slot_of (get_or (replicate n invalid) i invalid) (get_or (replicate n Stage.Idle) i Stage.Idle) (get_or (replicate n line) i blank)) 0 m) (length-replicate n invalid)
      ∙ tabled_same (λ i. slot_of (get_or (replicate n invalid) i invalid) (get_or (replicate n Stage.Idle) i Stage.Idle) (get_or (replicate n line) i blank)) 0 n (Some line) (λ j l m. opened_slot j (omega arith)) in
      λ k. record {
        keep = keep;
        number = number;
        memory = (opened n line).memory;
        tags = replicate n invalid;
        steps = steps k;
        memory_slot = Some line;
        slots = slots k;
      }

  pub opened_laid : 0 < n → n ≤ MOST_NODES → fits line.words → IsLaid fits keep number (opened n line).memory (replicate n invalid) (replicate n Stage.Idle) line (replicate n line)
  opened_laid some few h =
      let e : length (replicate n invalid) ≡ n = length-replicate n invalid in
      laid_as fits keep number (opened n line).memory (replicate n invalid) (replicate n Stage.Idle) line (replicate n line) (omega (arith, e, length-replicate n Stage.Idle)) (omega (arith, e, length-replicate n line))
      (opened n line) (subst (λ (m : ℕ). IsRuled m fits (opened n line)) (sym e) (opened_is_ruled n fits line h)) refl (sym (opened_tags n)) opened_shows (omega (arith, e)) (omega (arith, e))
