-- Texts in a page, part by part, and their fronts.
use Rattle.std.proofs.Common.{◌≡◌, ◌∙◌, ◌<◌, ◌+◌, ℕ, List, [], ◌∷◌, ◌++◌, length, take, drop, get_or, Option, Result, Ok, Err, OnOk, OnErr, IfErr, refl, sym, ap, subst, arith, append-nil}
use Rattle.std.specs.Io.KnownBytes.{Appends}
use Rattle.std.proofs.KnownBytes.{Appends-nil, Appends-trans}
use Rattle.std.proofs.Math.Seq.{take-append-add}
use Rattle.std.proofs.lemmas.Grind.{flat_map-append}
use Rattle.std.proofs.lemmas.List.{length-append, take-append-le, take-append-drop, take_more}
use Rattle.sci_trace.specs.declared.coding.Coding.{Coding}
use Rattle.sci_trace.specs.Coding.{entity, escaped, coded, IsFront}

-- a front of the second part behind all of the first
pub front_behind : (xs ys : List ℕ) (n : ℕ) → n < length ys → IsFront (xs ++ ys) (xs ++ take n ys)
front_behind xs ys n less = (length xs + n, omega (arith, less, length-append xs ys), sym (take-append-add xs ys n))

-- a front of the first part
pub front_before : (xs ys : List ℕ) (n : ℕ) → n < length xs → IsFront (xs ++ ys) (take n xs)
front_before xs ys n less = (n, omega (arith, less, length-append xs ys), sym (take-append-le n xs ys (omega (arith, less))))

pub coded_append : (coding : Coding) (xs ys : List ℕ) → coded coding (xs ++ ys) ≡ coded coding xs ++ coded coding ys
coded_append Coding.Plain xs ys = refl
coded_append Coding.Escaped xs ys = flat_map-append entity xs ys

-- what stands for one byte more
pub escaped_more : (bytes : List ℕ) (i d : ℕ) → i < length bytes → escaped (take (i + 1) bytes) ≡ escaped (take i bytes) ++ entity (get_or bytes i d)
escaped_more bytes i d lt =
    ap escaped (take_more bytes i d lt) ∙ flat_map-append entity (take i bytes) (get_or bytes i d ∷ []) ∙ ap (λ (x : List ℕ). escaped (take i bytes) ++ x) (append-nil (entity (get_or bytes i d)))

-- a front of what stands for a byte, behind what stands for the bytes before it
pub escaped_cut : (bytes : List ℕ) (i d n : ℕ) → i < length bytes → n < length (entity (get_or bytes i d))
    → IsFront (escaped bytes) (escaped (take i bytes) ++ take n (entity (get_or bytes i d)))
escaped_cut bytes i d n lt less =
    let so_far : List ℕ = escaped (take i bytes) in
    let one : List ℕ = entity (get_or bytes i d) in
    let rest : List ℕ = escaped (drop (i + 1) bytes) in
    let step : escaped (take (i + 1) bytes) ≡ so_far ++ one = escaped_more bytes i d lt in
    let whole : escaped bytes ≡ (so_far ++ one) ++ rest =
    ap escaped (sym (take-append-drop (i + 1) bytes)) ∙ flat_map-append entity (take (i + 1) bytes) (drop (i + 1) bytes) ∙ ap (λ (x : List ℕ). x ++ rest) step in
    let (m, short, is) = front_behind so_far one n less in
    let (k, shorter, also) = front_before (so_far ++ one) rest m short in
    subst (λ (x : List ℕ). IsFront x (so_far ++ take n one)) (sym whole) (k, shorter, is ∙ also)

pub on_err : {X E : Type 0} (r : Result X E) (P : Type 0) → P → OnErr r P
on_err (Ok x) P h = tt
on_err (Err e) P h = h

pub fails_then : {X E : Type 0} (r : Result X E) (P Q : Type 0) → OnErr r P → (P → Q) → OnErr r Q
fails_then (Ok x) P Q h f = tt
fails_then (Err e) P Q h f = f h

pub coded_nil : (coding : Coding) (a : Option (List ℕ)) → Appends a a (coded coding [])
coded_nil Coding.Plain a = Appends-nil a
coded_nil Coding.Escaped a = Appends-nil a

-- one text behind another
pub coded_behind : (coding : Coding) (a b c : Option (List ℕ)) (xs ys : List ℕ) → Appends a b (coded coding xs) → Appends b c (coded coding ys) → Appends a c (coded coding (xs ++ ys))
coded_behind coding a b c xs ys p q = subst (λ (x : List ℕ). Appends a c x) (sym (coded_append coding xs ys)) (Appends-trans a b c (coded coding xs) (coded coding ys) p q)

pub coded_front : (coding : Coding) (xs ys front : List ℕ) → IsFront (coded coding ys) front → IsFront (coded coding (xs ++ ys)) (coded coding xs ++ front)
coded_front coding xs ys front (n, less, is) =
    subst (λ (x : List ℕ). IsFront x (coded coding xs ++ front)) (sym (coded_append coding xs ys))
    (subst (λ (x : List ℕ). IsFront (coded coding xs ++ coded coding ys) (coded coding xs ++ x)) (sym is) (front_behind (coded coding xs) (coded coding ys) n less))

-- a front of the first part, coded
pub coded_before : (coding : Coding) (xs ys : List ℕ) (n : ℕ) → n < length (coded coding xs) → IsFront (coded coding (xs ++ ys)) (take n (coded coding xs))
coded_before coding xs ys n less =
    subst (λ (x : List ℕ). IsFront x (take n (coded coding xs))) (sym (coded_append coding xs ys)) (front_before (coded coding xs) (coded coding ys) n less)

pub err_then : {X E : Type 0} (r : Result X E) (P Q : E → Type 0) → IfErr r P → ((e : E) → P e → Q e) → IfErr r Q
err_then (Ok x) P Q h f = tt
err_then (Err e) P Q h f = f e h

pub ok_then : {X E : Type 0} (r : Result X E) (P Q : Type 0) → OnOk r P → (P → Q) → OnOk r Q
ok_then (Ok x) P Q h f = f h
ok_then (Err e) P Q h f = tt

pub both_then : {X E : Type 0} (r : Result X E) (P Q R : Type 0) → OnOk r P → OnOk r Q → (P → Q → R) → OnOk r R
both_then (Ok x) P Q R h k f = f h k
both_then (Err e) P Q R h k f = tt
