-- Where the first word of a text ends.
use Rattle.std.proofs.Common.{◌≡◌, ℕ, ◌≤◌, List, length, refl, arith, inl, inr}
use Rattle.std.specs.Option.{unwrap_or}
use Rattle.std.specs.List.{position, position_or_len}
use Rattle.std.proofs.lemmas.Bool.{lt-ltb, cases_lt, le-ltb}
use Rattle.std.proofs.lemmas.List.Sums.{prefix_len-le-length}
use Rattle.sci_logs.specs.Seen.{ends_word}

pub word_place : (text : List ℕ) → unwrap_or (position ends_word text) (length text) ≡ position_or_len ends_word text
word_place text =
    elim (cases_lt (position_or_len ends_word text) (length text)) [
      | inl lt ↦ rw (lt-ltb _ _ lt) refl
      | inr le ↦ let within : position_or_len ends_word text ≤ length text = prefix_len-le-length _ text in let e : length text ≡ position_or_len ends_word text = omega arith in rw (le-ltb _ _ le) e
    ]
