-- A line of text is read in parts, up to its line feed or to so many bytes.
use Rattle.std.proofs.Common.{◌≡◌, ◌≢◌, ◌⊎◌, ℕ, zero, suc, ◌+◌, ◌-◌, ◌<◌, ◌≤◌, ◌==◌, min, Bool, true, false, List, [], ◌∷◌, ◌++◌, All, length, take, drop, get_or, slice_index, Option, Some, None, IfSome, OnSome, refl, sym, ap, subst, ◌∙◌, arith, inl, inr, append_assoc, length-append, take_all, take-take, eqb-true, eq-eqb}
use Rattle.std.specs.Io.{StopsAt, IsEmptyOrEndsWith, appended_bytes}
use Rattle.std.specs.Io.BufRead.{take_through}
use Rattle.std.specs.Io.KnownBytes.{Consumes, IsAtEnd}
use Rattle.std.proofs.BufReadLemmas.{take_through-append, take_through-nil, through_part}
use Rattle.std.proofs.KnownBytes.{Consumes-trans}
use Rattle.std.proofs.Transfers.{drop-appended}
use Rattle.std.proofs.lemmas.Bool.{cases_Bool}
use Rattle.std.proofs.lemmas.List.{length-take-le, get_or-take}
use Rattle.std.proofs.lemmas.List.Elements.{All-append, All-more}
use Rattle.std.proofs.Math.Seq.{take-append-add, drop-append_seam}
use Rattle.sci_dump.specs.Streams.{Holds, IsFront}

-- the front of a text through its first line feed
pub through_front : (xs : List ℕ) → take_through 10 xs ≡ take (length (take_through 10 xs)) xs
through_front [] = refl
through_front (x ∷ xs) = elim (cases_Bool (x == 10)) [ inl y ↦ rw y refl | inr n ↦ rw n (ap (λ (zs : List ℕ). x ∷ zs) (through_front xs)) ]

pub through_few : (xs : List ℕ) → length (take_through 10 xs) ≤ length xs
through_few [] = omega arith
through_few (x ∷ xs) = elim (cases_Bool (x == 10)) [ inl y ↦ rw y (omega arith) | inr n ↦ rw n (omega (arith, through_few xs)) ]

-- more of a line, without its line feed
front_more : (had mid left : Option (List ℕ)) (line part : List ℕ) → IsFront had mid line → Consumes mid left part → All (λ b. b ≢ 10) part → length line + length part ≤ 1024 → IsFront had left (line ++ part)
front_more had mid left line part front part_read none few =
    (Consumes-trans had mid left line part front.0 part_read, All-append (λ b. b ≢ 10) line part front.1 none, omega (arith, few, length-append line part))

-- the last part of it
front_last : (had mid left : Option (List ℕ)) (line part : List ℕ) → IsFront had mid line → Consumes mid left part → StopsAt part 10 → IsEmptyOrEndsWith part 10 → length line + length part ≤ 1024
    → (length part ≡ 0 → (length line ≡ 1024) ⊎ OnSome mid (IsAtEnd left)) → IfSome had (Holds (line ++ part) left)
front_last None mid left line part front part_read stops ends few over = tt
front_last (Some text) None left line part front part_read stops ends few over = absurd front.0
front_last (Some text) (Some mid) None line part front part_read stops ends few over = absurd part_read
front_last (Some text) (Some mid) (Some rest) line part front part_read stops ends few over =
    let all : text ≡ (line ++ part) ++ rest = Consumes-trans (Some text) (Some mid) (Some rest) line part front.0 part_read in
    let n : ℕ = 1024 - length (line ++ part) in
    let long : length (line ++ part) ≡ length line + length part = length-append line part in
    let most : 1024 ≡ length (line ++ part) + n = omega (arith, few, long) in
    let cut : take 1024 text ≡ line ++ (part ++ take n rest) =
    ap (take 1024) all ∙ ap (λ (k : ℕ). take k ((line ++ part) ++ rest)) most ∙ take-append-add (line ++ part) rest n ∙ append_assoc line part (take n rest) in
    let last = through_part 10 part (take n rest) stops ends (λ empty. elim (over empty) [
      | inl full ↦ ap (λ (k : ℕ). take k rest) (let none : n ≡ 0 = omega (arith, full, long, empty) in none)
      | inr end ↦ ap (take n) end ∙ take_all n [] (omega arith)
    ]) in (
      sym (ap (take_through 10) cut ∙ take_through-append 10 line (part ++ take n rest) front.1 ∙ ap (λ (xs : List ℕ). line ++ xs) last.0),
      ap Some (sym (ap (drop (length (line ++ part))) all ∙ drop-append_seam (line ++ part) rest)),
    )

-- a part that is read of what a reader shows
pub appended : (had mid left : Option (List ℕ)) (old new shown : List ℕ) (room count : ℕ) (is_kept : Bool) → IsFront had mid old
    → new ≡ old ++ take_through 10 (take room shown) → StopsAt (appended_bytes old new) 10 → room ≡ min (1024 - length old) (length shown) → length new ≡ length old + count
    → (count ≤ length shown → Consumes mid left (take count shown) × (length shown ≡ 0 → OnSome mid (IsAtEnd left)))
    → ((count ≡ 0) × (is_kept ≡ true)) ⊎ ((0 < count) × (is_kept ≡ (slice_index shown (count - 1) == 10)))
    → (is_kept ≡ false → IsFront had left new) × (is_kept ≡ true → IfSome had (Holds new left))
appended had mid left old new shown room count is_kept front items stops is_room grown moved kept =
    let part = take_through 10 (take room shown) in
    let is_count : count ≡ length part = omega (arith, grown, ap length items, length-append old part) in
    let within : room ≤ length shown = omega (arith, is_room) in
    let long : length (take room shown) ≡ room = length-take-le room shown within in
    let few : length part ≤ room = omega (arith, through_few (take room shown), long) in
    let all : length old + length part ≤ 1024 = omega (arith, few, is_room, front.2) in
    let (taken, over) = moved (omega (arith, is_count, few, within)) in
    let same : take count shown ≡ part = ap (λ (k : ℕ). take k shown) is_count ∙ sym (through_front (take room shown) ∙ take-take (length part) room shown few) in
    let read : Consumes mid left part = subst (Consumes mid left) same taken in
    let ends : StopsAt part 10 = subst (λ (xs : List ℕ). StopsAt xs 10) (drop-appended old new part items) stops in
    let at : 0 < count → slice_index part (length part - 1) ≡ slice_index shown (count - 1) = λ some.
    ap (λ (k : ℕ). get_or part (k - 1) 0) (sym is_count) ∙ ap (λ (xs : List ℕ). get_or xs (count - 1) 0) (sym same) ∙ get_or-take count shown (count - 1) 0 (omega (arith, some)) in (
      λ is_more. subst (IsFront had left) (sym items) (front_more had mid left old part front read (other part ends at is_more kept is_count) all),
      λ all_kept. subst (λ (xs : List ℕ). IfSome had (Holds xs left)) (sym items)
          (front_last had mid left old part front read ends (last part at all_kept kept is_count) all
          (λ none. elim (full_or (length old) (length shown) front.2 (omega (arith, is_room, long, ap length (take_through-nil 10 (take room shown) none)))) [ inl full ↦ inl full | inr empty ↦ inr (over empty) ])),
    )
  where
    other : (part : List ℕ) → StopsAt part 10 → (0 < count → slice_index part (length part - 1) ≡ slice_index shown (count - 1)) → is_kept ≡ false
        → ((count ≡ 0) × (is_kept ≡ true)) ⊎ ((0 < count) × (is_kept ≡ (slice_index shown (count - 1) == 10))) → count ≡ length part → All (λ b. b ≢ 10) part
    other part ends at is_more (inl done) is_count = absurd (let e = done.1 in cc)
    other part ends at is_more (inr (some, is)) is_count =
        subst (All (λ b. b ≢ 10)) (take_all (length part - 1 + 1) part (omega arith))
        (All-more (λ b. b ≢ 10) part (length part - 1) 0 (omega (arith, some, is_count)) ends
        (λ e. let hit : (slice_index shown (count - 1) == 10) ≡ true = eq-eqb (slice_index shown (count - 1)) 10 (sym (at some) ∙ e) in let kept_is = is in cc))

    last : (part : List ℕ) → (0 < count → slice_index part (length part - 1) ≡ slice_index shown (count - 1)) → is_kept ≡ true
        → ((count ≡ 0) × (is_kept ≡ true)) ⊎ ((0 < count) × (is_kept ≡ (slice_index shown (count - 1) == 10))) → count ≡ length part → IsEmptyOrEndsWith part 10
    last part at all_kept (inl done) is_count = λ some. absurd (omega (arith, some, is_count, done.0))
    last part at all_kept (inr (some, is)) is_count = λ _. at some ∙ eqb-true (slice_index shown (count - 1)) 10 (sym is ∙ all_kept)

    full_or : (a b : ℕ) → a ≤ 1024 → min (1024 - a) b ≡ 0 → (a ≡ 1024) ⊎ (b ≡ 0)
    full_or a zero le e = inr refl
    full_or a (suc b) le e = inl (omega (arith, le, e))
