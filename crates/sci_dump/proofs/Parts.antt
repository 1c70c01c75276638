-- Fields of a line of text.
use Rattle.std.proofs.Common.{◌≡◌, ℕ, ◌≤◌, suc, true, not, List, [], ◌∷◌, ◌++◌, length, take, Option, Some, None, refl, sym, ap, subst, ◌∙◌, append_assoc, arith, inl, inr}
use Rattle.std.specs.Char.{is_ascii_digit}
use Rattle.std.specs.Option.{unwrap_or}
use Rattle.std.specs.List.{position, list_all}
use Rattle.std.proofs.lemmas.Bool.{lt-ltb, cases_lt, le-ltb, cases_Bool}
use Rattle.std.proofs.lemmas.List.{append-nil}
use Rattle.std.proofs.lemmas.List.Sums.{prefix_len-le-length}
use Rattle.sci_dump.specs.Reading.{◌>>=◌, digits_in_front, value_at, values_at}

pub front_place : (text : List ℕ) → unwrap_or (position (λ b. not (is_ascii_digit b)) text) (length text) ≡ digits_in_front text
front_place text =
    elim (cases_lt (digits_in_front text) (length text)) [
      | inl lt ↦ rw (lt-ltb _ _ lt) refl
      | inr le ↦ let within : digits_in_front text ≤ length text = prefix_len-le-length _ text in let e : length text ≡ digits_in_front text = omega arith in rw (le-ltb _ _ le) e
    ]

pub front_digits : (text : List ℕ) → list_all is_ascii_digit (take (digits_in_front text) text) ≡ true
front_digits [] = refl
front_digits (b ∷ text) = elim (cases_Bool (is_ascii_digit b)) [
  | inl digit ↦
      let count : digits_in_front (b ∷ text) ≡ suc (digits_in_front text) = rw digit (omega arith) in
      let all : list_all is_ascii_digit (b ∷ take (digits_in_front text) text) ≡ true = rw digit (front_digits text) in
      subst (λ (z : ℕ). list_all is_ascii_digit (take z (b ∷ text)) ≡ true) (sym count) all
  | inr other ↦ rw other refl
]

-- what is read behind these values
abbrev pub with_values : List ℕ → Option (List ℕ × List ℕ) → Option (List ℕ × List ℕ)
with_values front read = read >>= λ more. Some (front ++ more.0, more.1)

regroup_values : (front : List ℕ) (value : ℕ) (read : Option (List ℕ × List ℕ)) → with_values front (read >>= λ values. Some (value ∷ values.0, values.1)) ≡ with_values (front ++ value ∷ []) read
regroup_values front value (Some more) = ap (λ (vs : List ℕ). Some (vs, more.1)) (simp append_assoc)
regroup_values front value None = refl

pub value_more : (front : List ℕ) (k j : ℕ) (text : List ℕ) (value : ℕ) (rest : List ℕ) (total : Option (List ℕ × List ℕ))
    → k ≡ suc j → value_at text ≡ Some (value, rest) → with_values front (values_at k text) ≡ total → with_values (front ++ value ∷ []) (values_at j rest) ≡ total
unfolding values_at
value_more front k j text value rest total count h so_far =
    let one : with_values front (values_at (suc j) text) ≡ with_values (front ++ value ∷ []) (values_at j rest) = rw h (regroup_values front value (values_at j rest)) in
    sym one ∙ (rw count at so_far)

pub value_missing : (front : List ℕ) (k j : ℕ) (text : List ℕ) (total : Option (List ℕ × List ℕ))
    → k ≡ suc j → value_at text ≡ None → with_values front (values_at k text) ≡ total → total ≡ None
unfolding values_at
value_missing front k j text total count h so_far =
    let one : with_values front (values_at (suc j) text) ≡ None = rw h refl in
    sym (rw count at so_far) ∙ one

pub values_done : (front : List ℕ) (k : ℕ) (text : List ℕ) (total : Option (List ℕ × List ℕ)) → k ≡ 0 → with_values front (values_at k text) ≡ total → total ≡ Some (front, text)
unfolding values_at
values_done front k text total count so_far =
    let one : with_values front (values_at 0 text) ≡ Some (front, text) = ap (λ (vs : List ℕ). Some (vs, text)) (append-nil front) in
    sym (rw count at so_far) ∙ one
