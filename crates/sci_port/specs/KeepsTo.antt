-- How a node's receipts keep to what its calls showed. This project's profile.
use Rattle.std.specs.Prelude.{◌≡◌, ◌⊎◌, ℕ, Bool, false, true, ◌&&◌, ◌||◌, not, eqb, List, [], ◌∷◌}
use Rattle.sci_core.specs.declared.receipts.Receipt.{Receipt}
use Rattle.sci_core.specs.declared.receipts.Receipt.TheVariants.{Read, Passed, Wrote}
use Rattle.sci_core.specs.Legal.{is_write}
use Rattle.sci_core.specs.State.{blank}
use Rattle.sci_port.specs.declared.calls.Call.{Call}
use Rattle.sci_port.specs.Shown.{shown_in}

-- what was passed counts as read
abbrev pub as_read : Receipt → Receipt
as_read (Passed words stamp) = Read words stamp
as_read r = r

abbrev pub is_passed : Receipt → Bool
is_passed (Passed words stamp) = true
is_passed r = false

-- the receipts are what was shown, in order, but that before a Passed reads may be left out; no write is, nor what was shown last
abbrev pub KeepsTo : List Receipt → List Receipt → Type 0
KeepsTo [] [] = Unit {0}
KeepsTo [] (n ∷ ns) = ⊥
KeepsTo (r ∷ rs) [] = ⊥
KeepsTo (r ∷ rs) (n ∷ ns) = ((as_read r ≡ n) × KeepsTo rs ns) ⊎ ((is_passed r ≡ true) × (is_write n ≡ false) × KeepsTo (r ∷ rs) ns)

-- each node's list keeps to the node's log
abbrev pub KeepToLogs : (ℕ → List Receipt) → (ℕ → List (ℕ × Call)) → Type 0
KeepToLogs lists logs = (j : ℕ) → KeepsTo (lists j) (shown_in blank (logs j))

-- a receipt is of what was told: as it was told, or, of what was only passed, as read
abbrev pub IsKeptAs : Receipt → Receipt → Type 0
IsKeptAs r n = (r ≡ n) ⊎ (r ≡ as_read n)

-- the receipts are what was told, in order, but that of settles with nothing else between those before a Passed may be left out
abbrev pub KeepsTold : List Receipt → List Receipt → Type 0
KeepsTold [] [] = Unit {0}
KeepsTold [] (n ∷ ns) = ⊥
KeepsTold (r ∷ rs) [] = ⊥
KeepsTold (r ∷ rs) (n ∷ ns) = (IsKeptAs r n × KeepsTold rs ns) ⊎ ((is_passed r ≡ true) × (is_passed n ≡ true) × KeepsTold (r ∷ rs) ns)

-- the same, as a test
abbrev pub same_words : List ℕ → List ℕ → Bool
same_words [] [] = true
same_words [] (y ∷ ys) = false
same_words (x ∷ xs) [] = false
same_words (x ∷ xs) (y ∷ ys) = eqb x y && same_words xs ys

abbrev pub is_same : Receipt → Receipt → Bool
is_same (Read words stamp) (Read others other) = same_words words others && eqb stamp other
is_same (Passed words stamp) (Passed others other) = same_words words others && eqb stamp other
is_same (Wrote before words stamp) (Wrote old others other) = same_words before old && (same_words words others && eqb stamp other)
is_same r s = false

abbrev pub keeps_told : List Receipt → List Receipt → Bool
keeps_told [] [] = true
keeps_told [] (n ∷ ns) = false
keeps_told (r ∷ rs) [] = false
keeps_told (r ∷ rs) (n ∷ ns) = ((is_same r n || is_same r (as_read n)) && keeps_told rs ns) || (is_passed r && (is_passed n && keeps_told (r ∷ rs) ns))

-- no two Passed stand together
abbrev pub apart : List Receipt → Bool
apart [] = true
apart (r ∷ []) = true
apart (r ∷ s ∷ rs) = not (is_passed r && is_passed s) && apart (s ∷ rs)
