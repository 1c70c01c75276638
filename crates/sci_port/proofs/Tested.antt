-- Whether receipts are the same, as a test.
use Rattle.std.proofs.Common.{◌≡◌, ◌⊎◌, ℕ, Bool, true, false, ◌&&◌, ◌||◌, eqb, List, [], ◌∷◌, refl, inl, inr}
use Rattle.std.proofs.lemmas.Bool.{eq-eqb, eqb-true}
use Rattle.sci_core.specs.declared.receipts.Receipt.{Receipt}
use Rattle.sci_core.specs.declared.receipts.Receipt.TheVariants.{Read, Passed, Wrote}
use Rattle.sci_port.specs.KeepsTo.{same_words, is_same}

pub both : (a b : Bool) → (a && b) ≡ true → (a ≡ true) × (b ≡ true)
both true true h = (refl, refl)
both true false h = absurd (cc)
both false b h = absurd (cc)

pub and_true : (a b : Bool) → a ≡ true → b ≡ true → (a && b) ≡ true
and_true true b h k = k
and_true false b h k = absurd (cc)

pub either : (a b : Bool) → (a || b) ≡ true → (a ≡ true) ⊎ (b ≡ true)
either true b h = inl refl
either false b h = inr h

pub or_first : (a b : Bool) → a ≡ true → (a || b) ≡ true
or_first true b h = refl
or_first false b h = absurd (cc)

pub or_second : (a b : Bool) → b ≡ true → (a || b) ≡ true
or_second true b h = refl
or_second false b h = h

words_are : (xs ys : List ℕ) → same_words xs ys ≡ true → xs ≡ ys
words_are [] [] h = refl
words_are [] (y ∷ ys) h = absurd (cc)
words_are (x ∷ xs) [] h = absurd (cc)
words_are (x ∷ xs) (y ∷ ys) h = let k = both (eqb x y) (same_words xs ys) h in λ i. eqb-true x y k.0 i ∷ words_are xs ys k.1 i

words_same : (xs : List ℕ) → same_words xs xs ≡ true
words_same [] = refl
words_same (x ∷ xs) = and_true (eqb x x) (same_words xs xs) (eq-eqb x x refl) (words_same xs)

pub receipts_are : (r s : Receipt) → is_same r s ≡ true → r ≡ s
receipts_are (Read words stamp) (Read others other) h = let k = both (same_words words others) (eqb stamp other) h in λ i. Read (words_are words others k.0 i) (eqb-true stamp other k.1 i)
receipts_are (Passed words stamp) (Passed others other) h = let k = both (same_words words others) (eqb stamp other) h in λ i. Passed (words_are words others k.0 i) (eqb-true stamp other k.1 i)
receipts_are (Wrote before words stamp) (Wrote old others other) h =
    let k = both (same_words before old) (same_words words others && eqb stamp other) h in let m = both (same_words words others) (eqb stamp other) k.1 in
    λ i. Wrote (words_are before old k.0 i) (words_are words others m.0 i) (eqb-true stamp other m.1 i)
receipts_are (Read words stamp) (Passed others other) h = absurd (cc)
receipts_are (Read words stamp) (Wrote old others other) h = absurd (cc)
receipts_are (Passed words stamp) (Read others other) h = absurd (cc)
receipts_are (Passed words stamp) (Wrote old others other) h = absurd (cc)
receipts_are (Wrote before words stamp) (Read others other) h = absurd (cc)
receipts_are (Wrote before words stamp) (Passed others other) h = absurd (cc)

pub receipts_same : (r : Receipt) → is_same r r ≡ true
receipts_same (Read words stamp) = and_true (same_words words words) (eqb stamp stamp) (words_same words) (eq-eqb stamp stamp refl)
receipts_same (Passed words stamp) = and_true (same_words words words) (eqb stamp stamp) (words_same words) (eq-eqb stamp stamp refl)
receipts_same (Wrote before words stamp) = and_true (same_words before before) (same_words words words && eqb stamp stamp) (words_same before) (and_true (same_words words words) (eqb stamp stamp) (words_same words) (eq-eqb stamp stamp refl))
