use Rattle.std.proofs.Common.{◌≡◌, ℕ, ◌+◌, ◌<◌, ◌≢◌, List, length, slice_index, slice_set, arith, get_or-set_other, get_or-set_same, below_more}

-- word j + 1 of eight is written, and those up to it are known
pub known_more : (words : List ℕ) (f : ℕ → ℕ) (j y : ℕ) → length words ≡ 8 → j < 7 → ((i : ℕ) → i < j → slice_index words (i + 1) ≡ f i) → y ≡ f j → (i : ℕ) → i < j + 1 → slice_index (slice_set words (j + 1) y) (i + 1) ≡ f i
known_more words f j y eight low known is =
    below_more (λ i. slice_index (slice_set words (j + 1) y) (i + 1) ≡ f i) j
    (λ i less. let ne : i + 1 ≢ j + 1 = omega arith in rw get_or-set_other (known i less))
    (let lt : j + 1 < length words = omega arith in rw get_or-set_same is)

pub first_stays : (words : List ℕ) (j y n : ℕ) → slice_index words 0 ≡ n → slice_index (slice_set words (j + 1) y) 0 ≡ n
first_stays words j y n is = let ne : 0 ≢ j + 1 = omega arith in rw get_or-set_other is
