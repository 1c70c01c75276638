-- Pieces that are written over a room.
use Rattle.std.proofs.Common.{◌≡◌, ◌∙◌, ◌≤◌, ◌+◌, ℕ, List, ◌++◌, length, take, sym, ap, refl, arith}
use Rattle.std.proofs.Math.Seq.{take-append-add}
use Rattle.std.proofs.lemmas.List.{take-take, take-append-le, length-take-le}
use Rattle.std.proofs.lemmas.Slice.{take-put_mid}
use borrow.Rule.Slice.PartMut.{put_mid}

-- the front of a piece that stands behind this front
pub front_piece : (at n count : ℕ) (front room piece : List ℕ) → length front ≡ at → count ≤ n → take (at + n) room ≡ front ++ piece → take (at + count) room ≡ front ++ take count piece
front_piece at n count front room piece long less is =
    sym (take-take (at + count) (at + n) room (omega arith)) ∙ ap (take (at + count)) is ∙ rw (← long) (take-append-add front piece count)

-- a front within the first of two lists
pub front_stays : (n : ℕ) (front rest text : List ℕ) → n ≤ length front → take n front ≡ text → take n (front ++ rest) ≡ text
front_stays n front rest text less is = take-append-le n front rest less ∙ is

-- the front of a part that was put into a room, from a place on
pub put_behind : (at n count end : ℕ) (room part text : List ℕ) → end ≡ at + count → at ≤ length room → count ≤ length part → take count part ≡ text → take end (put_mid at n room part) ≡ take at room ++ text
put_behind at n count end room part text ends within less is =
    rw ends (front_piece at (length part) count (take at room) (put_mid at n room part) part (length-take-le at room within) less (take-put_mid at n room part (at + length part) refl within) ∙ ap (λ (x : List ℕ). take at room ++ x) is)
