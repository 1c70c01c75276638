-- Values one after another.
use Rattle.std.proofs.Common.{◌≡◌, ℕ, suc, List, [], ◌∷◌, ◌++◌, Result, Ok, Err, refl, sym, ap, ◌∙◌, append_assoc}
use Rattle.std.proofs.lemmas.List.{append-nil}
use Rattle.sci_logs.specs.declared.parts.Lack.{Lack}
use Rattle.sci_logs.specs.declared.parts.Part.{Part}
use Rattle.sci_logs.specs.LineText.{◌>>=◌, value_at, values_at}

-- what is read behind these values
abbrev pub with_values : List ℕ → Result (List ℕ × List ℕ) Lack → Result (List ℕ × List ℕ) Lack
with_values front read = read >>= λ more. Ok (front ++ more.0, more.1)

regroup_values : (front : List ℕ) (value : ℕ) (read : Result (List ℕ × List ℕ) Lack) → with_values front (read >>= λ values. Ok (value ∷ values.0, values.1)) ≡ with_values (front ++ value ∷ []) read
regroup_values front value (Ok more) = ap (λ (vs : List ℕ). Ok (vs, more.1)) (simp append_assoc)
regroup_values front value (Err e) = refl

pub value_more : (front : List ℕ) (k j : ℕ) (text : List ℕ) (value : ℕ) (rest : List ℕ) (total : Result (List ℕ × List ℕ) Lack)
    → k ≡ suc j → value_at Part.SpacedValue text ≡ Ok (value, rest) → with_values front (values_at k text) ≡ total → with_values (front ++ value ∷ []) (values_at j rest) ≡ total
unfolding values_at
value_more front k j text value rest total count h so_far =
    let one : with_values front (values_at (suc j) text) ≡ with_values (front ++ value ∷ []) (values_at j rest) = rw h (regroup_values front value (values_at j rest)) in
    sym one ∙ (rw count at so_far)

pub value_missing : (front : List ℕ) (k j : ℕ) (text : List ℕ) (e : Lack) (total : Result (List ℕ × List ℕ) Lack)
    → k ≡ suc j → value_at Part.SpacedValue text ≡ Err e → with_values front (values_at k text) ≡ total → total ≡ Err e
unfolding values_at
value_missing front k j text e total count h so_far =
    let one : with_values front (values_at (suc j) text) ≡ Err e = rw h refl in
    sym (rw count at so_far) ∙ one

pub values_done : (front : List ℕ) (k : ℕ) (text : List ℕ) (total : Result (List ℕ × List ℕ) Lack) → k ≡ 0 → with_values front (values_at k text) ≡ total → total ≡ Ok (front, text)
unfolding values_at
values_done front k text total count so_far =
    let one : with_values front (values_at 0 text) ≡ Ok (front, text) = ap (λ (vs : List ℕ). Ok (vs, text)) (append-nil front) in
    sym (rw count at so_far) ∙ one
