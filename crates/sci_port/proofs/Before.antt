-- What a call leaves in receipts, where there is room for its receipt and where there is none.
use Rattle.std.proofs.Common.{◌≡◌, ℕ, ◌<◌, ltb, Bool, true, false, ◌&&◌, ◌||◌, Some, None, refl, arith}
use Rattle.std.proofs.lemmas.Bool.Decides.{nat_tests}
use Rattle.sci_core.specs.declared.lines.Line.{Line}
use Rattle.sci_core.specs.declared.pending.Pending.{Pending}
use Rattle.sci_core.specs.declared.events.Event.{Event}
use Rattle.sci_core.specs.declared.outcomes.Outcome.{Outcome}
use Rattle.sci_core.specs.Answers.{is_allowed}
use Rattle.sci_port.specs.declared.calls.Call.TheVariants.{Own, MemWas, TagWas, Stepped}
use Rattle.sci_port.specs.ReceiptList.{ReceiptList, HasRoom, Receives, ReceivesIfRoom, WritesOver, CountsOver, has_room_for, line_before, replaces}
use Rattle.sci_port.proofs.Elements.{clash}

-- a write that is allowed is one over the line that the step keeps
pub writes_over : (n me : ℕ) (p : Pending) (e : Event) → is_allowed n me p e ≡ true → WritesOver p e (line_before p)
writes_over n me (Pending.Purging line seen) (Event.Written (Some words)) h = (seen, refl)
writes_over n me _ (Event.Written (Some words)) h = absurd (clash false h refl)
writes_over n me p (Event.Written None) h = tt
writes_over n me p _ h = tt

counts : (line : Line) (a b : Bool) → (a && b) ≡ true → b ≡ true
counts line true b h = h
counts line false b h = absurd (clash false h refl)

-- and one that the line's stamp can count
pub counts_before : (n me : ℕ) (p : Pending) (e : Event) → is_allowed n me p e ≡ true → CountsOver e (line_before p)
counts_before n me (Pending.Purging line None) (Event.Written (Some words)) h = absurd (clash false h refl)
counts_before n me (Pending.Purging line (Some (Some x))) (Event.Written (Some words)) h = absurd (clash false h refl)
counts_before n me (Pending.Purging line (Some None)) (Event.Written (Some words)) h = grind (arith, nat_tests)
counts_before n me _ (Event.Written (Some words)) h = absurd (clash false h refl)
counts_before n me p (Event.Written None) h = tt
counts_before n me p _ h = tt

above : (m : ℕ) → ltb 0 m ≡ true → 0 < m
above m h = grind (arith, nat_tests)

either : (a b : Bool) → (a || b) ≡ true → b ≡ false → a ≡ true
either true b h k = refl
either false b h k = absurd (clash b h k)

neither : (a b : Bool) → (a || b) ≡ false → (a ≡ false) × (b ≡ false)
neither true b h = absurd (clash true refl h)
neither false b h = (refl, h)

-- an event that is kept has room
pub room_to_keep : (e : Event) (s : ReceiptList) → has_room_for e s ≡ true → HasRoom e s
room_to_keep Event.Unhold s h = above s.room h
room_to_keep Event.Settle s h = λ k. above s.room (either (ltb 0 s.room) (replaces s) h k)
room_to_keep (Event.Written (Some words)) s h = above s.room h
room_to_keep (Event.Written None) s h = tt
room_to_keep _ s h = tt

none_above : (m : ℕ) → ltb 0 m ≡ false → 0 < m → ⊥
none_above m h k = grind (arith, nat_tests)

-- and one that isn't leaves all as it was
pub unkept : (p : Pending) (e : Event) (o : Outcome) (s : ReceiptList) → has_room_for e s ≡ false → ReceivesIfRoom p (Stepped e o) s s
unkept p Event.Unhold o s h = record { kept = λ k. absurd (none_above s.room h k); full = λ k. refl }
unkept p Event.Settle o s h = let b = neither (ltb 0 s.room) (replaces s) h in record { kept = λ k. absurd (none_above s.room b.0 (k b.1)); full = λ k. refl }
unkept p (Event.Written (Some words)) o s h = record { kept = λ k. absurd (none_above s.room h k); full = λ k. refl }
unkept p (Event.Written None) (Outcome.Done a) s h = record { kept = λ k. refl; full = λ k. refl }
unkept p (Event.Written None) (Outcome.Missed code) s h = record { kept = λ k. refl; full = λ k. refl }
unkept p (Event.Written None) Outcome.Busy s h = record { kept = λ k. refl; full = λ k. refl }
unkept p _ (Outcome.Done None) s h = record { kept = λ k. refl; full = λ k. refl }
unkept p _ (Outcome.Done (Some line)) s h = record { kept = λ k. refl; full = λ k. refl }
unkept p _ (Outcome.Missed code) s h = record { kept = λ k. refl; full = λ k. refl }
unkept p _ Outcome.Busy s h = record { kept = λ k. refl; full = λ k. refl }

-- one that is kept leaves what it is to leave
pub kept_so : (p : Pending) (e : Event) (o : Outcome) (s t : ReceiptList) → has_room_for e s ≡ true → Receives p (Stepped e o) s t → ReceivesIfRoom p (Stepped e o) s t
kept_so p e o s t h r = record { kept = λ k. r; full = λ k. absurd (k (room_to_keep e s h)) }

-- a look has no receipt
pub look_keeps : (p : Pending) (o : Outcome) (s t : ReceiptList) → ReceivesIfRoom p (Stepped Event.Look o) s t → t ≡ s
look_keeps p (Outcome.Done None) s t h = h.kept tt
look_keeps p (Outcome.Done (Some line)) s t h = h.kept tt
look_keeps p (Outcome.Missed code) s t h = h.kept tt
look_keeps p Outcome.Busy s t h = h.kept tt

-- nor have loads
pub own_keeps : (p : Pending) (answer : _) (s t : ReceiptList) → t ≡ s → ReceivesIfRoom p (Own answer) s t
own_keeps p answer s t same = record { kept = λ k. same; full = λ k. same }

pub mem_keeps : (p : Pending) (answer : _) (s t : ReceiptList) → t ≡ s → ReceivesIfRoom p (MemWas answer) s t
mem_keeps p answer s t same = record { kept = λ k. same; full = λ k. same }

pub tag_keeps : (p : Pending) (node : ℕ) (answer : _) (s t : ReceiptList) → t ≡ s → ReceivesIfRoom p (TagWas node answer) s t
tag_keeps p node answer s t same = record { kept = λ k. same; full = λ k. same }
