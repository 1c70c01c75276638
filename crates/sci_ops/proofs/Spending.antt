-- What a turn spends of the room for receipts: each of its calls finds room, and what is left is what the operation needs from there on.
use Rattle.std.proofs.Common.{◌≡◌, ℕ, suc, ◌+◌, ◌<◌, ◌≤◌, Bool, true, false, Option, Some, None, List, [], ◌∷◌, ◌++◌, refl, sym, ap, subst, ◌∙◌, arith, append-nil}
use Rattle.std.specs.Prelude.{is_some, if◌then◌else◌}
use Rattle.sci_words.specs.declared.tags.Kind.{Kind}
use Rattle.sci_words.specs.declared.tags.Tag.{Tag}
use Rattle.sci_words.specs.declared.memory.Mem.{Mem}
use Rattle.sci_words.specs.declared.memory.MemState.{MemState}
use Rattle.sci_core.specs.declared.lines.Line.{Line}
use Rattle.sci_core.specs.declared.pending.Pending.{Pending}
use Rattle.sci_core.specs.declared.events.Event.{Event}
use Rattle.sci_core.specs.declared.outcomes.Outcome.{Outcome}
use Rattle.sci_core.specs.declared.receipts.Receipt.{Receipt}
use Rattle.sci_core.specs.declared.receipts.Receipt.TheVariants.{Read, Passed, Wrote}
use Rattle.sci_core.specs.Found.{is_settled_body}
use Rattle.sci_core.specs.Step.{look_of}
use Rattle.sci_core.specs.Table.Purging.{can_count}
use Rattle.sci_port.specs.declared.calls.Call.{Call}
use Rattle.sci_port.specs.declared.calls.Call.TheVariants.{Own, MemWas, TagWas, Stepped}
use Rattle.sci_port.specs.Call.{Chain}
use Rattle.sci_port.specs.KeepsAll.{Extends, RoomyChain, writes_in}
use Rattle.sci_port.specs.KeepsTo.{is_passed}
use Rattle.sci_port.specs.Owes.{Owes, TakesRow}
use Rattle.sci_port.specs.ReceiptList.{Appends, HasRoom, HasRoomFor, ReceiptList, Receives, ReceivesIfRoom, Replaces, Settles, last_passed}
use Rattle.sci_port.proofs.Elements.{clash}
use Rattle.sci_port.proofs.KeepsAll.{extends_none, received_extends, writes_both}
use Rattle.sci_port.proofs.Room.{has_place}
use Rattle.sci_ops.specs.declared.goals.Goal.{Goal}
use Rattle.sci_ops.specs.declared.goals.Write.{Write}
use Rattle.sci_ops.specs.declared.answers.Answer.{Answer}
use Rattle.sci_ops.specs.declared.answers.Turn.{Turn}
use Rattle.sci_ops.specs.declared.answers.End.{End}
use Rattle.sci_ops.specs.Change.{change}
use Rattle.sci_ops.specs.Operation.{Operation}
use Rattle.sci_ops.specs.Plan.{Plan, own, mem, tag, exchange, ends, ended, turn_after, Follows, Takes}
use Rattle.sci_ops.specs.Room.{HasNeed, IsProvided, KeepsTurn, adds, adds_towards, is_passing, need_in, need_towards}
use Rattle.sci_ops.specs.Table.{is_free, may_adopt, may_attach_fresh, may_attach_dirty, seen_end, out_end, home_event, invalid, fresh, dirty, valid, idle_as, prepend, write, purging_at, leave, roll_on, roll, turn_in, after_turn}
use Rattle.sci_ops.proofs.Unheld.{is_held, is_hold, look_held, row_unheld}

-- the need, by whether a line is still held, and whether the last receipt is a Passed
abbrev need_by : Goal → Bool → Bool → ℕ
need_by Goal.Load held passed = 1
need_by (Goal.Write w) true passed = 3
need_by (Goal.Write w) false passed = need_towards (Goal.Write w) passed
need_by Goal.Evict true passed = 2
need_by Goal.Evict false passed = need_towards Goal.Evict passed

need_is : (goal : Goal) (p : Pending) (s : ReceiptList) → need_in goal p s ≡ need_by goal (is_held p) (last_passed s.list)
need_is Goal.Load p s = refl
need_is (Goal.Write w) (Pending.Holding x l) s = refl
need_is (Goal.Write w) _ s = refl
need_is Goal.Evict (Pending.Holding x l) s = refl
need_is Goal.Evict _ s = refl

-- so much room is enough
module _ (goal : Goal) (p : Pending) (s : ReceiptList) (held passed : Bool) (h : is_held p ≡ held) (e : last_passed s.list ≡ passed) where
  as_need : need_in goal p s ≡ need_by goal held passed
  as_need = need_is goal p s ∙ (λ i. need_by goal (h i) (e i))

  has_room_by : HasNeed goal p s → need_by goal held passed ≤ s.room
  has_room_by k = subst (λ (m : ℕ). m ≤ s.room) as_need k.room

  has_need_by : s.passing ≡ is_passing goal → need_by goal held passed ≤ s.room → HasNeed goal p s
  has_need_by mark k = record { mark = mark; room = subst (λ (m : ℕ). m ≤ s.room) (sym as_need) k }

no_more : (goal : Goal) (held passed : Bool) (m : ℕ) → need_by goal held passed ≤ m → need_by goal false passed ≤ m
no_more Goal.Load held passed m h = h
no_more (Goal.Write w) true true m h = let n : 3 ≤ m = h in let z : 1 ≤ m = omega arith in z
no_more (Goal.Write w) true false m h = let n : 3 ≤ m = h in let z : 2 ≤ m = omega arith in z
no_more (Goal.Write w) false passed m h = h
no_more Goal.Evict true true m h = let n : 2 ≤ m = h in let z : 0 ≤ m = omega arith in z
no_more Goal.Evict true false m h = let n : 2 ≤ m = h in let z : 1 ≤ m = omega arith in z
no_more Goal.Evict false passed m h = h

-- where receipts and mark stay, and no line is held that wasn't, so does the need
need_same : (goal : Goal) (p q : Pending) (s t : ReceiptList) → HasNeed goal p s → t ≡ s → is_held q ≡ is_held p → HasNeed goal q t
need_same goal p q s t h e k =
    subst (λ (x : ReceiptList). HasNeed goal q x) (sym e)
    (has_need_by goal q s (is_held p) (last_passed s.list) k refl h.mark (has_room_by goal p s (is_held p) (last_passed s.list) refl refl h))

-- or the line is let go
need_freed : (goal : Goal) (p q : Pending) (s t : ReceiptList) → HasNeed goal p s → t ≡ s → is_held q ≡ false → HasNeed goal q t
need_freed goal p q s t h e k =
    subst (λ (x : ReceiptList). HasNeed goal q x) (sym e)
    (has_need_by goal q s false (last_passed s.list) k refl h.mark (no_more goal (is_held p) (last_passed s.list) s.room (has_room_by goal p s (is_held p) (last_passed s.list) refl refl h)))

-- what a turn that has not ended the operation leaves
abbrev Provided : Goal → Turn → Pending → ReceiptList → Type 0
Provided goal (Turn.Done answer) p s = Unit {0}
Provided goal turn p s = HasNeed goal p s

provided : (goal : Goal) (turn : Turn) (p : Pending) (s : ReceiptList) → HasNeed goal p s → Provided goal turn p s
provided goal (Turn.Done answer) p s h = tt
provided goal Turn.Moved p s h = h
provided goal Turn.Waiting p s h = h

-- what a turn that has not written adds
waiting_adds : (goal : Goal) → adds_towards goal Turn.Waiting ≡ []
waiting_adds Goal.Load = refl
waiting_adds (Goal.Write w) = refl
waiting_adds Goal.Evict = refl

moved_adds : (goal : Goal) → adds_towards goal Turn.Moved ≡ []
moved_adds Goal.Load = refl
moved_adds (Goal.Write w) = refl
moved_adds Goal.Evict = refl

out_adds : (goal : Goal) (line : Option Line) → adds_towards goal (ended (out_end goal) line) ≡ []
out_adds Goal.Load line = refl
out_adds (Goal.Write w) line = refl
out_adds Goal.Evict line = refl

after_adds : (goal : Goal) (end : End) (o : Outcome) → ((line : Option Line) → adds_towards goal (ended end line) ≡ []) → adds_towards goal (turn_after end o) ≡ []
after_adds goal end (Outcome.Done line) h = h line
after_adds goal end (Outcome.Missed word) h = waiting_adds goal
after_adds goal end Outcome.Busy h = waiting_adds goal

same_writes : (s t : ReceiptList) (added : List Receipt) → t ≡ s → added ≡ [] → writes_in t.list ≡ writes_in s.list ++ added
same_writes s t added e f = ap (λ (x : ReceiptList). writes_in x.list) e ∙ sym (append-nil (writes_in s.list)) ∙ ap (λ (l : List Receipt). writes_in s.list ++ l) (sym f)

-- the event found room, and leaves the operation what it needs; of writes it adds the operation's own alone
record Spent (goal : Goal) (event : Event) (turn : Turn) (s t : ReceiptList) (q : Pending) : Type 0 where
  room : HasRoom event s
  need : Provided goal turn q t
  writes : writes_in t.list ≡ writes_in s.list ++ adds_towards goal turn

abbrev Spending : Goal → Pending → Event → End → Type 0
Spending goal p event end = (n me : ℕ) (o : Outcome) (s t : ReceiptList) (q : Pending) → HasNeed goal p s → TakesRow n me p event o q → ReceivesIfRoom p (Stepped event o) s t → Spent goal event (turn_after end o) s t q

-- where nothing came of it
nothing_spent : (goal : Goal) (event : Event) (turn : Turn) (p q : Pending) (s t : ReceiptList) → HasRoom event s → HasNeed goal p s → t ≡ s → is_held q ≡ is_held p → adds_towards goal turn ≡ [] → Spent goal event turn s t q
nothing_spent goal event turn p q s t room need e k none = record {
  room = room;
  need = provided goal turn q t (need_same goal p q s t need e k);
  writes = same_writes s t (adds_towards goal turn) e none;
}

-- an event without a receipt
abbrev is_quiet : Event → Bool
is_quiet Event.Unhold = false
is_quiet Event.Settle = false
is_quiet (Event.Written (Some words)) = false
is_quiet (Event.Hold t) = false
is_quiet e = true

quiet_hold : (e : Event) → is_quiet e ≡ true → is_hold e ≡ false
quiet_hold (Event.Hold t) h = sym h
quiet_hold _ h = refl

quiet_room : (e : Event) (s : ReceiptList) → is_quiet e ≡ true → HasRoom e s
quiet_room Event.Unhold s h = absurd (clash false h refl)
quiet_room Event.Settle s h = absurd (clash false h refl)
quiet_room (Event.Written (Some words)) s h = absurd (clash false h refl)
quiet_room (Event.Written None) s h = tt
quiet_room _ s h = tt

quiet_same : (p : Pending) (e : Event) (o : Outcome) (s t : ReceiptList) → is_quiet e ≡ true → Receives p (Stepped e o) s t → t ≡ s
quiet_same p Event.Unhold o s t h r = absurd (clash false h refl)
quiet_same p Event.Settle o s t h r = absurd (clash false h refl)
quiet_same p (Event.Written (Some words)) o s t h r = absurd (clash false h refl)
quiet_same p (Event.Written None) (Outcome.Done answer) s t h r = r
quiet_same p (Event.Written None) (Outcome.Missed word) s t h r = r
quiet_same p (Event.Written None) Outcome.Busy s t h r = r
quiet_same p _ (Outcome.Done None) s t h r = r
quiet_same p _ (Outcome.Done (Some line)) s t h r = r
quiet_same p _ (Outcome.Missed word) s t h r = r
quiet_same p _ Outcome.Busy s t h r = r

after_row : (n me : ℕ) (p : Pending) (e : Event) (o : Outcome) (q : Pending) → TakesRow n me p e o q → is_hold e ≡ false → is_held p ≡ false → is_held q ≡ false
after_row n me p Event.Look (Outcome.Done answer) q r h k = ap is_held r.after ∙ look_held p r.word ∙ k
after_row n me p e (Outcome.Done answer) q r h k = ap is_held r.after ∙ row_unheld me p e r.taken h
after_row n me p e (Outcome.Missed word) q r h k = ap is_held r.same ∙ k
after_row n me p e Outcome.Busy q r h k = ap is_held r ∙ k

quiet : (goal : Goal) (p : Pending) (e : Event) (end : End) → is_quiet e ≡ true → is_held p ≡ false → ((line : Option Line) → adds_towards goal (ended end line) ≡ []) → Spending goal p e end
quiet goal p e end silent free none = λ n me o s t q need row kept.
    let room : HasRoom e s = quiet_room e s silent in
    let same : t ≡ s = quiet_same p e o s t silent (kept.kept room) in
    nothing_spent goal e (turn_after end o) p q s t room need same (after_row n me p e o q row (quiet_hold e silent) free ∙ sym free) (after_adds goal end o none)

-- a load holds its line
holds : (t : Tag) (p : Pending) → Spending Goal.Load p (Event.Hold t) End.Moved
holds x p n me (Outcome.Done None) s t q need row kept = record { room = tt; need = record { mark = ap (λ (z : ReceiptList). z.passing) (kept.kept tt) ∙ need.mark; room = subst (λ (z : ReceiptList). 1 ≤ z.room) (sym (kept.kept tt)) need.room }; writes = same_writes s t [] (kept.kept tt) refl }
holds x p n me (Outcome.Done (Some line)) s t q need row kept = record { room = tt; need = record { mark = ap (λ (z : ReceiptList). z.passing) (kept.kept tt) ∙ need.mark; room = subst (λ (z : ReceiptList). 1 ≤ z.room) (sym (kept.kept tt)) need.room }; writes = same_writes s t [] (kept.kept tt) refl }
holds x p n me (Outcome.Missed word) s t q need row kept = nothing_spent Goal.Load (Event.Hold x) Turn.Waiting p q s t tt need (kept.kept tt) (ap is_held row.same) refl
holds x p n me Outcome.Busy s t q need row kept = nothing_spent Goal.Load (Event.Hold x) Turn.Waiting p q s t tt need (kept.kept tt) (ap is_held row) refl

-- the last of more receipts
last_end : (l : List Receipt) (r : Receipt) → last_passed (l ++ r ∷ []) ≡ is_passed r
last_end [] r = refl
last_end (x ∷ []) r = refl
last_end (x ∷ y ∷ l) r = last_end (y ∷ l) r

passed_writes : (r : Receipt) → is_passed r ≡ true → writes_in (r ∷ []) ≡ []
passed_writes (Passed words stamp) h = refl
passed_writes (Read words stamp) h = refl
passed_writes (Wrote before words stamp) h = absurd (clash false h refl)

-- one more receipt
module _ (s t : ReceiptList) (r : Receipt) (a : Appends s r t) where
  appended_passed : last_passed t.list ≡ is_passed r
  appended_passed = ap last_passed a.list ∙ last_end s.list r

  appended_writes : writes_in t.list ≡ writes_in s.list ++ writes_in (r ∷ [])
  appended_writes = ap writes_in a.list ∙ writes_both s.list (r ∷ [])

-- another in the place of the last
module _ (s t : ReceiptList) (r : Receipt) (passed : is_passed r ≡ true) (a : Replaces s r t) where
  replaced_passed : last_passed t.list ≡ true
  replaced_passed = ap last_passed a.list ∙ last_end a.before r ∙ passed

  replaced_writes : writes_in t.list ≡ writes_in s.list ++ []
  replaced_writes =
      ap writes_in a.list ∙ writes_both a.before (r ∷ []) ∙ ap (λ (l : List Receipt). writes_in a.before ++ l) (passed_writes r passed ∙ sym (passed_writes a.last a.passed))
      ∙ sym (writes_both a.before (a.last ∷ [])) ∙ ap writes_in (sym a.was) ∙ sym (append-nil (writes_in s.list))

some_room : (goal : Goal) (m : ℕ) → need_by goal false false ≤ m → 0 < m
some_room Goal.Load m h = let n : 1 ≤ m = h in let z : 0 < m = omega arith in z
some_room (Goal.Write w) m h = let n : 2 ≤ m = h in let z : 0 < m = omega arith in z
some_room Goal.Evict m h = let n : 1 ≤ m = h in let z : 0 < m = omega arith in z

held_room : (goal : Goal) (passed : Bool) (m : ℕ) → need_by goal true passed ≤ m → 0 < m
held_room Goal.Load passed m h = let n : 1 ≤ m = h in let z : 0 < m = omega arith in z
held_room (Goal.Write w) passed m h = let n : 3 ≤ m = h in let z : 0 < m = omega arith in z
held_room Goal.Evict passed m h = let n : 2 ≤ m = h in let z : 0 < m = omega arith in z

one_less : (goal : Goal) (m : ℕ) → is_passing goal ≡ true → need_by goal false false ≤ suc m → need_by goal false true ≤ m
one_less Goal.Load m h k = absurd (clash false h refl)
one_less (Goal.Write w) m h k = let n : 2 ≤ suc m = k in let z : 1 ≤ m = omega arith in z
one_less Goal.Evict m h k = let n : 1 ≤ suc m = k in let z : 0 ≤ m = omega arith in z

read_less : (goal : Goal) (passed : Bool) (m : ℕ) → is_passing goal ≡ true → need_by goal true passed ≤ suc m → need_by goal false false ≤ m
read_less Goal.Load passed m h k = absurd (clash false h refl)
read_less (Goal.Write w) passed m h k = let n : 3 ≤ suc m = k in let z : 2 ≤ m = omega arith in z
read_less Goal.Evict passed m h k = let n : 2 ≤ suc m = k in let z : 1 ≤ m = omega arith in z

-- there is room for a settle
place_room : (goal : Goal) (p : Pending) (s : ReceiptList) (b : Bool) → is_passing goal ≡ true → HasNeed goal p s → is_held p ≡ false → last_passed s.list ≡ b → HasRoom Event.Settle s
place_room goal p s true on_way need free e = has_place s (need.mark ∙ on_way) e
place_room goal p s false on_way need free e = λ k. some_room goal s.room (has_room_by goal p s false false free e need)

settle_room : (goal : Goal) (p : Pending) (s : ReceiptList) → HasNeed goal p s → is_held p ≡ false → HasRoom Event.Settle s
settle_room Goal.Load p s need free = λ k. some_room Goal.Load s.room need.room
settle_room (Goal.Write w) p s need free = place_room (Goal.Write w) p s (last_passed s.list) refl need free refl
settle_room Goal.Evict p s need free = place_room Goal.Evict p s (last_passed s.list) refl need free refl

-- a settle on the way to a write or an exit
module _ (goal : Goal) (p q : Pending) (s t : ReceiptList) (on_way : is_passing goal ≡ true) (free : is_held p ≡ false) (let_go : is_held q ≡ false) (need : HasNeed goal p s) where
  settle_need : (b : Bool) (line : Line) → last_passed s.list ≡ b → Settles true b s line t → HasNeed goal q t
  settle_need false line e a =
      let was : need_by goal false false ≤ suc t.room = subst (λ (m : ℕ). need_by goal false false ≤ m) a.room (has_room_by goal p s false false free e need) in
      has_need_by goal q t false true let_go (appended_passed s t (Passed line.words line.stamp) a) (a.passing ∙ need.mark) (one_less goal t.room on_way was)
  settle_need true line e a =
      has_need_by goal q t false true let_go (replaced_passed s t (Passed line.words line.stamp) refl a) (a.passing ∙ need.mark)
      (subst (λ (m : ℕ). need_by goal false true ≤ m) (sym a.room) (has_room_by goal p s false true free e need))

  settle_writes : (b : Bool) (line : Line) → Settles true b s line t → writes_in t.list ≡ writes_in s.list ++ []
  settle_writes false line a = appended_writes s t (Passed line.words line.stamp) a
  settle_writes true line a = replaced_writes s t (Passed line.words line.stamp) refl a

  settled : (line : Line) → ReceivesIfRoom p (Stepped Event.Settle (Outcome.Done (Some line))) s t → Spent goal Event.Settle Turn.Moved s t q
  settled line kept =
      let room : HasRoom Event.Settle s = settle_room goal p s need free in
      let a : Settles true (last_passed s.list) s line t = subst (λ (b : Bool). Settles b (last_passed s.list) s line t) (need.mark ∙ on_way) (kept.kept room) in
      record {
        room = room;
        need = settle_need (last_passed s.list) line refl a;
        writes = settle_writes (last_passed s.list) line a ∙ ap (λ (l : List Receipt). writes_in s.list ++ l) (sym (moved_adds goal));
      }

none_adds : (goal : Goal) → adds_towards goal (ended (seen_end goal) None) ≡ []
none_adds Goal.Load = refl
none_adds (Goal.Write w) = refl
none_adds Goal.Evict = refl

-- a settle
settles : (goal : Goal) (p : Pending) → is_held p ≡ false → Spending goal p Event.Settle (seen_end goal)
settles Goal.Load p free n me (Outcome.Done (Some line)) s t q need row kept =
    let room : HasRoom Event.Settle s = settle_room Goal.Load p s need free in
    let a : Appends s (Read line.words line.stamp) t = subst (λ (b : Bool). Settles b (last_passed s.list) s line t) need.mark (kept.kept room) in
    record { room = room; need = tt; writes = appended_writes s t (Read line.words line.stamp) a }
settles (Goal.Write w) p free n me (Outcome.Done (Some line)) s t q need row kept = settled (Goal.Write w) p q s t refl free (after_row n me p Event.Settle (Outcome.Done (Some line)) q row refl free) need line kept
settles Goal.Evict p free n me (Outcome.Done (Some line)) s t q need row kept = settled Goal.Evict p q s t refl free (after_row n me p Event.Settle (Outcome.Done (Some line)) q row refl free) need line kept
settles goal p free n me (Outcome.Done None) s t q need row kept =
    let room = settle_room goal p s need free in
    nothing_spent goal Event.Settle (ended (seen_end goal) None) p q s t room need (kept.kept room) (after_row n me p Event.Settle (Outcome.Done None) q row refl free ∙ sym free) (none_adds goal)
settles goal p free n me (Outcome.Missed word) s t q need row kept =
    let room = settle_room goal p s need free in
    nothing_spent goal Event.Settle Turn.Waiting p q s t room need (kept.kept room) (ap is_held row.same) (waiting_adds goal)
settles goal p free n me Outcome.Busy s t q need row kept =
    let room = settle_room goal p s need free in
    nothing_spent goal Event.Settle Turn.Waiting p q s t room need (kept.kept room) (ap is_held row) (waiting_adds goal)

-- a held line is let go
module _ (goal : Goal) (x : Tag) (l : Line) (q : Pending) (s t : ReceiptList) (need : HasNeed goal (Pending.Holding x l) s) where
  unhold_room : 0 < s.room
  unhold_room = held_room goal (last_passed s.list) s.room (has_room_by goal (Pending.Holding x l) s true (last_passed s.list) refl refl need)

  unheld : (line : Line) → is_passing goal ≡ true → is_held q ≡ false → Appends s (Read line.words line.stamp) t → Spent goal Event.Unhold Turn.Moved s t q
  unheld line on_way let_go a =
      let was : need_by goal true (last_passed s.list) ≤ suc t.room = subst (λ (m : ℕ). need_by goal true (last_passed s.list) ≤ m) a.room (has_room_by goal (Pending.Holding x l) s true (last_passed s.list) refl refl need) in
      record {
        room = unhold_room;
        need = has_need_by goal q t false false let_go (appended_passed s t (Read line.words line.stamp) a) (a.passing ∙ need.mark) (read_less goal (last_passed s.list) t.room on_way was);
        writes = appended_writes s t (Read line.words line.stamp) a ∙ ap (λ (k : List Receipt). writes_in s.list ++ k) (sym (moved_adds goal));
      }

unholds : (goal : Goal) (x : Tag) (l : Line) → Spending goal (Pending.Holding x l) Event.Unhold (seen_end goal)
unholds Goal.Load x l n me (Outcome.Done (Some line)) s t q need row kept =
    let room = unhold_room Goal.Load x l q s t need in
    record { room = room; need = tt; writes = appended_writes s t (Read line.words line.stamp) (kept.kept room) }
unholds (Goal.Write w) x l n me (Outcome.Done (Some line)) s t q need row kept =
    unheld (Goal.Write w) x l q s t need line refl (ap is_held row.after ∙ row_unheld me (Pending.Holding x l) Event.Unhold row.taken refl) (kept.kept (unhold_room (Goal.Write w) x l q s t need))
unholds Goal.Evict x l n me (Outcome.Done (Some line)) s t q need row kept =
    unheld Goal.Evict x l q s t need line refl (ap is_held row.after ∙ row_unheld me (Pending.Holding x l) Event.Unhold row.taken refl) (kept.kept (unhold_room Goal.Evict x l q s t need))
unholds goal x l n me (Outcome.Done None) s t q need row kept =
    let room = unhold_room goal x l q s t need in
    record {
      room = room;
      need = provided goal (ended (seen_end goal) None) q t (need_freed goal (Pending.Holding x l) q s t need (kept.kept room) (ap is_held row.after ∙ row_unheld me (Pending.Holding x l) Event.Unhold row.taken refl));
      writes = same_writes s t (adds_towards goal (ended (seen_end goal) None)) (kept.kept room) (none_adds goal);
    }
unholds goal x l n me (Outcome.Missed word) s t q need row kept =
    let room = unhold_room goal x l q s t need in
    nothing_spent goal Event.Unhold Turn.Waiting (Pending.Holding x l) q s t room need (kept.kept room) (ap is_held row.same) (waiting_adds goal)
unholds goal x l n me Outcome.Busy s t q need row kept =
    let room = unhold_room goal x l q s t need in
    nothing_spent goal Event.Unhold Turn.Waiting (Pending.Holding x l) q s t room need (kept.kept room) (ap is_held row) (waiting_adds goal)

-- the operation's own write
write_room : (w : Write) (passed : Bool) (m : ℕ) → need_by (Goal.Write w) false passed ≤ m → 0 < m
write_room w true m h = let n : 1 ≤ m = h in let z : 0 < m = omega arith in z
write_room w false m h = let n : 2 ≤ m = h in let z : 0 < m = omega arith in z

written_own : (w : Write) (l : Line) (seen : Option (Option ℕ)) (n me : ℕ) (o : Outcome) (s t : ReceiptList) (q : Pending) → 0 < s.room → HasNeed (Goal.Write w) (Pending.Purging l seen) s → TakesRow n me (Pending.Purging l seen) (Event.Written (Some (change w l.words))) o q
    → Receives (Pending.Purging l seen) (Stepped (Event.Written (Some (change w l.words))) o) s t → Spent (Goal.Write w) (Event.Written (Some (change w l.words))) (turn_after (End.Wrote l.words (l.stamp + 1)) o) s t q
written_own w l seen n me (Outcome.Done answer) s t q room need row r = record { room = room; need = tt; writes = appended_writes s t (Wrote l.words (change w l.words) (l.stamp + 1)) r }
written_own w l seen n me (Outcome.Missed word) s t q room need row r = nothing_spent (Goal.Write w) (Event.Written (Some (change w l.words))) Turn.Waiting (Pending.Purging l seen) q s t room need r (ap is_held row.same) refl
written_own w l seen n me Outcome.Busy s t q room need row r = nothing_spent (Goal.Write w) (Event.Written (Some (change w l.words))) Turn.Waiting (Pending.Purging l seen) q s t room need r (ap is_held row) refl

writes_own : (w : Write) (l : Line) (seen : Option (Option ℕ)) → Spending (Goal.Write w) (Pending.Purging l seen) (Event.Written (Some (change w l.words))) (End.Wrote l.words (l.stamp + 1))
writes_own w l seen n me o s t q need row kept =
    let room : 0 < s.room = write_room w (last_passed s.list) s.room (has_room_by (Goal.Write w) (Pending.Purging l seen) s false (last_passed s.list) refl refl need) in
    written_own w l seen n me o s t q room need row (kept.kept room)

-- each exchange of a plan spends so, and none writes but to the operation's end
data Spends : Goal → Pending → Plan → Type 0 where
  by_own : {goal : Goal} {p : Pending} {next : Tag → Plan} → ((t : Tag) → Spends goal (look_of p t) (next t)) → Spends goal p (own next)
  by_mem : {goal : Goal} {p : Pending} {next : Mem → Plan} → ((m : Mem) → Spends goal p (next m)) → Spends goal p (mem next)
  by_tag : {goal : Goal} {p : Pending} {node : ℕ} {next : Tag → Plan} → ((t : Tag) → Spends goal p (next t)) → Spends goal p (tag node next)
  by_exchange : {goal : Goal} {p : Pending} {event : Event} {end : End} → Spending goal p event end → Spends goal p (exchange event end)
  by_end : {goal : Goal} {p : Pending} {turn : Turn} → adds_towards goal turn ≡ [] → Spends goal p (ends turn)

either : {goal : Goal} {p : Pending} (b : Bool) (x y : Plan) → Spends goal p x → Spends goal p y → Spends goal p (if b then x else y)
either true x y h k = h
either false x y h k = k

module _ (goal : Goal) where
  waits : {p : Pending} → Spends goal p (ends Turn.Waiting)
  waits = by_end (waiting_adds goal)

  moves : (p : Pending) (event : Event) → is_quiet event ≡ true → is_held p ≡ false → Spends goal p (exchange event End.Moved)
  moves p event h k = by_exchange (quiet goal p event End.Moved h k (λ line. moved_adds goal))

invalid_spends : (goal : Goal) → Spends goal Pending.Idle (invalid goal)
invalid_spends Goal.Evict = by_end refl
invalid_spends Goal.Load = by_mem (λ m. moves Goal.Load Pending.Idle (Event.Queue m.forw) refl refl)
invalid_spends (Goal.Write w) = by_mem (λ m. moves (Goal.Write w) Pending.Idle (Event.Queue m.forw) refl refl)

fresh_spends : (goal : Goal) (me : ℕ) (t : Tag) → Spends goal Pending.Idle (fresh goal me t)
fresh_spends Goal.Load me t = by_exchange (holds t Pending.Idle)
fresh_spends (Goal.Write w) me t = by_mem (λ m. either _ _ _ (moves (Goal.Write w) Pending.Idle (Event.Convert t) refl refl) (waits (Goal.Write w)))
fresh_spends Goal.Evict me t = by_mem (λ m. either _ _ _ (moves Goal.Evict Pending.Idle (Event.Leave t) refl refl) (waits Goal.Evict))

dirty_spends : (goal : Goal) (me : ℕ) (t : Tag) → Spends goal Pending.Idle (dirty goal me t)
dirty_spends Goal.Load me t = by_exchange (holds t Pending.Idle)
dirty_spends (Goal.Write w) me t = moves (Goal.Write w) Pending.Idle (Event.BeginPurge t) refl refl
dirty_spends Goal.Evict me t = by_mem (λ m. either _ _ _ (moves Goal.Evict Pending.Idle (Event.Leave t) refl refl) (waits Goal.Evict))

valid_spends : (goal : Goal) (t : Tag) → Spends goal Pending.Idle (valid goal t)
valid_spends Goal.Load t = by_exchange (holds t Pending.Idle)
valid_spends (Goal.Write w) t = moves (Goal.Write w) Pending.Idle (Event.Roll t) refl refl
valid_spends Goal.Evict t = moves Goal.Evict Pending.Idle (Event.Roll t) refl refl

idle_spends : (goal : Goal) (me : ℕ) (t : Tag) (k : Kind) → Spends goal Pending.Idle (idle_as goal me t k)
idle_spends goal me t Kind.Invalid = invalid_spends goal
idle_spends goal me t Kind.Fresh = fresh_spends goal me t
idle_spends goal me t Kind.Dirty = dirty_spends goal me t
idle_spends goal me t Kind.Valid = valid_spends goal t
idle_spends goal me t _ = waits goal

home_quiet : (goal : Goal) → is_quiet (home_event goal) ≡ true
home_quiet Goal.Load = refl
home_quiet (Goal.Write w) = refl
home_quiet Goal.Evict = refl

module _ (goal : Goal) (me : ℕ) where
  prepend_spends : (f : Option ℕ) (s : MemState) → Spends goal (Pending.Queueing f) (prepend goal s)
  prepend_spends f MemState.Home = moves goal (Pending.Queueing f) (home_event goal) (home_quiet goal) refl
  prepend_spends f MemState.Fresh = moves goal (Pending.Queueing f) Event.PrependValid refl refl
  prepend_spends f MemState.Gone = moves goal (Pending.Queueing f) Event.PrependGone refl refl

  module _ (p : Pending) (free : is_held p ≡ false) where
    leave_spends : (d : Bool) (f : Option ℕ) → Spends goal p (leave me d f)
    leave_spends true None = moves goal p Event.ReturnHomeDirty refl free
    leave_spends false None = moves goal p Event.ReturnHomeFresh refl free
    leave_spends d (Some x) = by_tag (λ t. either _ _ _ (moves goal p (Event.Promote t) refl free) (waits goal))

    roll_on_spends : (b : Option ℕ) → Spends goal p (roll_on me b)
    roll_on_spends (Some x) = by_tag (λ t. either _ _ _ (moves goal p (Event.TellPredecessor t) refl free) (waits goal))
    roll_on_spends None = waits goal

    roll_spends : (told : Bool) (f b : Option ℕ) → Spends goal p (roll me told f b)
    roll_spends false (Some x) b = by_tag (λ t. either _ _ _ (moves goal p (Event.TellSuccessor t) refl free) (waits goal))
    roll_spends false None b = roll_on_spends b
    roll_spends true f b = roll_on_spends b

write_spends : (goal : Goal) (l : Line) (seen : Option (Option ℕ)) → Spends goal (Pending.Purging l seen) (write goal l)
write_spends (Goal.Write w) l seen = either (can_count l) _ _ (by_exchange (writes_own w l seen)) (by_exchange (quiet (Goal.Write w) (Pending.Purging l seen) (Event.Written None) End.Spent refl refl (λ line. refl)))
write_spends Goal.Load l seen = moves Goal.Load (Pending.Purging l seen) (Event.Written None) refl refl
write_spends Goal.Evict l seen = moves Goal.Evict (Pending.Purging l seen) (Event.Written None) refl refl

purging_spends : (goal : Goal) (me : ℕ) (l : Line) (seen : Option (Option ℕ)) (f : Option ℕ) → Spends goal (Pending.Purging l seen) (purging_at goal me l f)
purging_spends goal me l seen None = write_spends goal l seen
purging_spends goal me l seen (Some x) = by_tag (λ t. either (is_free is_settled_body t) _ _ (moves goal (Pending.Purging l seen) (Event.PurgeOne t) refl refl)
    (either (may_adopt me t) _ _ (moves goal (Pending.Purging l seen) (Event.Adopt t) refl refl) (waits goal)))

-- the table of turns spends so
spends : (goal : Goal) (me : ℕ) (p : Pending) → Spends goal p (turn_in goal me p)
spends goal me Pending.Idle = by_own (λ t. either t.held _ _ (waits goal) (idle_spends goal me t t.kind))
spends goal me (Pending.Holding w l) = by_exchange (unholds goal w l)
spends goal me (Pending.Queueing f) = by_mem (λ m. either _ _ _ (waits goal) (either _ _ _ (prepend_spends goal me f m.state) (moves goal (Pending.Queueing f) (Event.Requeue m.forw) refl refl)))
spends goal me (Pending.Fetching f d l) = moves goal (Pending.Fetching f d l) Event.ReturnMemory refl refl
spends goal me (Pending.InQueue None d c) = by_exchange (settles goal (Pending.InQueue None d c) refl)
spends goal me (Pending.InQueue (Some x) d c) = by_tag (λ t. either (may_attach_fresh d (is_some c) t) _ _ (moves goal (Pending.InQueue (Some x) d c) (Event.AttachFresh t) refl refl)
    (either (may_attach_dirty d (is_some c) t) _ _ (moves goal (Pending.InQueue (Some x) d c) (Event.AttachDirty t) refl refl) (waits goal)))
spends goal me (Pending.Copying x w l) = moves goal (Pending.Copying x w l) Event.ReturnCopy refl refl
spends goal me (Pending.Ready f d l) = by_exchange (settles goal (Pending.Ready f d l) refl)
spends goal me (Pending.Converting f true) = moves goal (Pending.Converting f true) Event.Converted refl refl
spends goal me (Pending.Converting f false) = by_mem (λ m. either _ _ _ (moves goal (Pending.Converting f false) Event.FreshToGone refl refl) (moves goal (Pending.Converting f false) Event.Unconverted refl refl))
spends goal me (Pending.Purging l seen) = by_own (λ t. purging_spends goal me l (Some t.forw) t.forw)
spends goal me (Pending.Advancing l x w) = moves goal (Pending.Advancing l x w) Event.Advance refl refl
spends goal me (Pending.Clearing l x w) = moves goal (Pending.Clearing l x w) Event.Clear refl refl
spends goal me (Pending.Leaving d l seen) = by_own (λ t. by_mem (λ m. either _ _ _ (leave_spends goal me (Pending.Leaving d l (Some t.forw)) refl d t.forw) (moves goal (Pending.Leaving d l (Some t.forw)) Event.Stay refl refl)))
spends goal me (Pending.Promoted d l x) = by_mem (λ m. either _ _ _ (moves goal (Pending.Promoted d l x) Event.PassOn refl refl) (moves goal (Pending.Promoted d l x) Event.ReEnter refl refl))
spends goal me (Pending.WritingBack l) = moves goal (Pending.WritingBack l) Event.ReturnMemory refl refl
spends goal me (Pending.Parted f) = by_exchange (quiet goal (Pending.Parted f) Event.Left (out_end goal) refl refl (out_adds goal))
spends goal me (Pending.Rolling told seen) = by_own (λ t. roll_spends goal me (look_of (Pending.Rolling told seen) t) (look_held (Pending.Rolling told seen) t) told t.forw t.back)
spends goal me (Pending.Unlinked f b) = by_exchange (quiet goal (Pending.Unlinked f b) Event.Rolled (out_end goal) refl refl (out_adds goal))

module _ {S : Type 0} (gives : S → Call → S → Type 0) (at_step : S → Pending) (receipts : S → ReceiptList) (nodes me : S → ℕ) (fits : S → List ℕ → Type 0) (owes : (s : S) (call : Call) (t : S) → gives s call t → Owes (nodes s) (fits s) (me s) (at_step s) call (at_step t)) (receives : (s : S) (call : Call) (t : S) → gives s call t → ReceivesIfRoom (at_step s) call (receipts s) (receipts t)) where
  -- calls from s to t, which make this turn of an operation that goes on
  record Kept (goal : Goal) (turn : Turn) (s : S) (calls : List Call) (t : S) : Type 0 where
    chain : RoomyChain gives receipts s calls t
    need : Provided goal turn (at_step t) (receipts t)
    writes : writes_in (receipts t).list ≡ writes_in (receipts s).list ++ adds_towards goal turn
    extends : Extends (receipts s).list (receipts t).list

  none_kept : (goal : Goal) (turn : Turn) (s t : S) → t ≡ s → adds_towards goal turn ≡ [] → HasNeed goal (at_step s) (receipts s) → Kept goal turn s [] t
  none_kept goal turn s t e none need = subst (λ (u : S). Kept goal turn s [] u) (sym e) record {
    chain = refl;
    need = provided goal turn (at_step s) (receipts s) need;
    writes = same_writes (receipts s) (receipts s) (adds_towards goal turn) refl none;
    extends = extends_none (receipts s).list;
  }

  -- a load in front leaves the receipts
  front : (goal : Goal) (turn : Turn) (s mid t : S) (c : Call) (cs : List Call) → gives s c mid → HasRoomFor c (receipts s) → receipts mid ≡ receipts s → Kept goal turn mid cs t → Kept goal turn s (c ∷ cs) t
  front goal turn s mid t c cs given room same k = record {
    chain = (mid, given, room, k.chain);
    need = k.need;
    writes = k.writes ∙ ap (λ (x : ReceiptList). writes_in x.list ++ adds_towards goal turn) same;
    extends = subst (λ (x : ReceiptList). Extends x.list (receipts t).list) same k.extends;
  }

  -- a load that got no word ends the turn
  no_word : (goal : Goal) (turn : Turn) (p : Pending) (s mid t : S) (c : Call) → gives s c mid → HasRoomFor c (receipts s) → receipts mid ≡ receipts s → at_step mid ≡ p → HasNeed goal p (receipts s) → t ≡ mid → turn ≡ Turn.Waiting → Kept goal turn s (c ∷ []) t
  no_word goal turn p s mid t c given room same after need e waiting =
      front goal turn s mid t c [] given room same
      (none_kept goal turn mid t e (ap (adds_towards goal) waiting ∙ waiting_adds goal) (need_same goal p (at_step mid) (receipts s) (receipts mid) need same (ap is_held after)))

  -- the exchange
  last_kept : (goal : Goal) (turn : Turn) (p : Pending) (event : Event) (end : End) (s mid t : S) (e : Event) (o : Outcome) → Spending goal p event end → at_step s ≡ p → gives s (Stepped e o) mid → t ≡ mid → e ≡ event → turn ≡ turn_after end o → HasNeed goal p (receipts s) → Kept goal turn s (Stepped e o ∷ []) t
  last_kept goal turn p event end s mid t e o k at given last same after need =
      let row : TakesRow (nodes s) (me s) p event o (at_step mid) = subst (λ (z : Pending × Event). TakesRow (nodes s) (me s) z.0 z.1 o (at_step mid)) (λ i. (at i, same i)) (owes s (Stepped e o) mid given).1 in
      let got = receives s (Stepped e o) mid given in
      let spent = k (nodes s) (me s) o (receipts s) (receipts mid) (at_step mid) need row (subst (λ (z : Pending × Event). ReceivesIfRoom z.0 (Stepped z.1 o) (receipts s) (receipts mid)) (λ i. (at i, same i)) got) in
      let room : HasRoom e (receipts s) = subst (λ (x : Event). HasRoom x (receipts s)) (sym same) spent.room in
      subst (λ (u : S). Kept goal turn s (Stepped e o ∷ []) u) (sym last) record {
        chain = (mid, given, room, refl);
        need = subst (λ (u : Turn). Provided goal u (at_step mid) (receipts mid)) (sym after) spent.need;
        writes = subst (λ (u : Turn). writes_in (receipts mid).list ≡ writes_in (receipts s).list ++ adds_towards goal u) (sym after) spent.writes;
        extends = received_extends (receipts s) (receipts mid) (at_step s) (Stepped e o) (got.kept room);
      }

  kept : {goal : Goal} {p : Pending} {plan : Plan} → Spends goal p plan → (s t : S) (turn : Turn) (calls : List Call) → at_step s ≡ p → Chain gives s calls t → Follows plan calls turn → HasNeed goal p (receipts s) → Kept goal turn s calls t
  kept {goal = goal} {p = p} (by_own f) s t turn (Own (Some x) ∷ cs) e chain h need =
      let same : receipts chain.0 ≡ receipts s = (receives s (Own (Some x)) chain.0 chain.1).kept tt in
      let after : at_step chain.0 ≡ look_of p x = (owes s (Own (Some x)) chain.0 chain.1).0 ∙ ap (λ (q : Pending). look_of q x) e in
      front goal turn s chain.0 t (Own (Some x)) cs chain.1 tt same (kept (f x) chain.0 t turn cs after chain.2 h (need_same goal p (look_of p x) (receipts s) (receipts chain.0) need same (look_held p x)))
  kept {goal = goal} {p = p} (by_own f) s t turn (Own None ∷ []) e chain h need =
      no_word goal turn p s chain.0 t (Own None) chain.1 tt ((receives s (Own None) chain.0 chain.1).kept tt) ((owes s (Own None) chain.0 chain.1).0 ∙ e) need chain.2 h
  kept (by_own f) s t turn _ e chain h need = absurd h
  kept {goal = goal} {p = p} (by_mem f) s t turn (MemWas (Some x) ∷ cs) e chain h need =
      let same : receipts chain.0 ≡ receipts s = (receives s (MemWas (Some x)) chain.0 chain.1).kept tt in
      let after : at_step chain.0 ≡ p = (owes s (MemWas (Some x)) chain.0 chain.1).0 ∙ e in
      front goal turn s chain.0 t (MemWas (Some x)) cs chain.1 tt same (kept (f x) chain.0 t turn cs after chain.2 h (need_same goal p p (receipts s) (receipts chain.0) need same refl))
  kept {goal = goal} {p = p} (by_mem f) s t turn (MemWas None ∷ []) e chain h need =
      no_word goal turn p s chain.0 t (MemWas None) chain.1 tt ((receives s (MemWas None) chain.0 chain.1).kept tt) ((owes s (MemWas None) chain.0 chain.1).0 ∙ e) need chain.2 h
  kept (by_mem f) s t turn _ e chain h need = absurd h
  kept {goal = goal} {p = p} (by_tag f) s t turn (TagWas y (Some x) ∷ cs) e chain h need =
      let same : receipts chain.0 ≡ receipts s = (receives s (TagWas y (Some x)) chain.0 chain.1).kept tt in
      let after : at_step chain.0 ≡ p = (owes s (TagWas y (Some x)) chain.0 chain.1).0 ∙ e in
      front goal turn s chain.0 t (TagWas y (Some x)) cs chain.1 tt same (kept (f x) chain.0 t turn cs after chain.2 h.1 (need_same goal p p (receipts s) (receipts chain.0) need same refl))
  kept {goal = goal} {p = p} (by_tag f) s t turn (TagWas y None ∷ []) e chain h need =
      no_word goal turn p s chain.0 t (TagWas y None) chain.1 tt ((receives s (TagWas y None) chain.0 chain.1).kept tt) ((owes s (TagWas y None) chain.0 chain.1).0 ∙ e) need chain.2 h.1
  kept (by_tag f) s t turn _ e chain h need = absurd h
  kept {goal = goal} {p = p} (by_exchange {event = event} {end = end} k) s t turn (Stepped x o ∷ []) e chain h need =
      last_kept goal turn p event end s chain.0 t x o k e chain.1 chain.2 h.0 h.1 need
  kept (by_exchange k) s t turn _ e chain h need = absurd h
  kept {goal = goal} {p = p} (by_end none) s t turn [] e chain h need =
      none_kept goal turn s t chain (ap (adds_towards goal) h ∙ none) (subst (λ (q : Pending). HasNeed goal q (receipts s)) (sym e) need)
  kept (by_end none) s t turn _ e chain h need = absurd h

  -- an operation after a turn has what it needs
  provided_after : (op : Operation) (turn : Turn) (p : Pending) (s : ReceiptList) → op.answer ≡ None → Provided op.goal turn p s → IsProvided op.goal (after_turn op turn).answer p s
  provided_after op (Turn.Done answer) p s none h = tt
  provided_after op Turn.Moved p s none h = subst (λ (x : Option Answer). IsProvided op.goal x p s) (sym none) h
  provided_after op Turn.Waiting p s none h = subst (λ (x : Option Answer). IsProvided op.goal x p s) (sym none) h

  goes_on_keeps : (op : Operation) (i : ℕ) (s t : S) (turn : Turn) → op.answer ≡ None → Takes gives (turn_in op.goal i (at_step s)) s turn t → HasNeed op.goal (at_step s) (receipts s) → KeepsTurn gives receipts op s turn t (at_step t)
  goes_on_keeps op i s t turn none h need =
      let k : Kept op.goal turn s h.calls t = kept (spends op.goal i (at_step s)) s t turn h.calls refl h.chain h.follows need in
      record {
        calls = h.calls;
        chain = k.chain;
        provided = provided_after op turn (at_step t) (receipts t) none k.need;
        writes = k.writes ∙ ap (λ (x : Option Answer). writes_in (receipts s).list ++ adds op.goal x turn) (sym none);
        extends = k.extends;
      }

  -- a turn of an operation that goes on keeps its receipts
  pub keeps_turn : (op : Operation) (i : ℕ) (s t : S) (turn : Turn) → op.answer ≡ None → Takes gives (turn_in op.goal i (at_step s)) s turn t → IsProvided op.goal op.answer (at_step s) (receipts s) → KeepsTurn gives receipts op s turn t (at_step t)
  keeps_turn op i s t turn none h given = goes_on_keeps op i s t turn none h (subst (λ (x : Option Answer). IsProvided op.goal x (at_step s) (receipts s)) none given)

-- one that has ended asks nothing
pub keeps_ended : {S : Type 0} (gives : S → Call → S → Type 0) (receipts : S → ReceiptList) (op : Operation) (answer : Answer) (s : S) (p : Pending) → op.answer ≡ Some answer → KeepsTurn gives receipts op s (Turn.Done answer) s p
keeps_ended gives receipts op answer s p ended = record {
  calls = [];
  chain = refl;
  provided = tt;
  writes = same_writes (receipts s) (receipts s) (adds op.goal op.answer (Turn.Done answer)) refl (ap (λ (x : Option Answer). adds op.goal x (Turn.Done answer)) ended);
  extends = extends_none (receipts s).list;
}
