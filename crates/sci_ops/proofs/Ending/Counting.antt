-- How many other nodes are in a sharing list.
use Rattle.std.proofs.Common.{◌≡◌, ◌≢◌, ◌<◌, ◌≤◌, ◌+◌, ℕ, zero, suc, Bool, true, false, refl, sym, ap, ⊎_elim, ◌∙◌, arith}
use Rattle.std.specs.Prelude.{cond, eqb, not, ◌&&◌}
use Rattle.std.proofs.lemmas.Bool.{cases_eq, eq-eqb}
use Rattle.std.proofs.lemmas.Bool.Decides.{nat_tests}
use Rattle.sci_words.specs.declared.tags.Kind.{Kind}
use Rattle.sci_words.specs.declared.tags.Tag.{Tag}
use Rattle.sci_core.specs.State.{update}
use Rattle.sci_ops.specs.Ranking.{count}

abbrev pub is_listed : Kind → Bool
is_listed Kind.Invalid = false
is_listed _ = true

-- another node than this one, that is not Invalid
abbrev pub is_other : ℕ → (ℕ → Tag) → ℕ → Bool
is_other me tags i = not (eqb i me) && is_listed (tags i).kind

abbrev pub others : ℕ → (ℕ → Tag) → ℕ → ℕ
others me tags n = count (is_other me tags) n

pub updated : {A : Type 0} (f : ℕ → A) (x : ℕ) (a : A) → update f x a x ≡ a
updated f x a = rw (eq-eqb x x refl) refl

pub not_updated : {A : Type 0} (f : ℕ → A) (x : ℕ) (a : A) (i : ℕ) → i ≢ x → update f x a i ≡ f i
not_updated f x a i h = grind (arith, nat_tests, h)

count_same : (f g : ℕ → Bool) (n : ℕ) → ((i : ℕ) → i < n → f i ≡ g i) → count f n ≡ count g n
count_same f g zero h = refl
count_same f g (suc n) h = rw (h n (omega arith), count_same f g n (λ i l. h i (omega (arith, l)))) refl

apart : (x n i : ℕ) → x ≡ n → i < n → i ≢ x
apart x n i e k q = omega (arith, k, q, e)

count_less : (f g : ℕ → Bool) (x n : ℕ) → x < n → f x ≡ true → g x ≡ false → ((i : ℕ) → i ≢ x → f i ≡ g i) → count g n < count f n
count_less f g x zero l a b h = absurd (omega (arith, l))
count_less f g x (suc n) l a b h =
    ⊎_elim
    (λ e.
    let same : count f n ≡ count g n = count_same f g n (λ i k. h i (apart x n i e k)) in
    let fn : f n ≡ true = ap f (sym e) ∙ a in
    let gn : g n ≡ false = ap g (sym e) ∙ b in
    rw (fn, gn, same) (omega arith))
    (λ d.
    let less : count g n < count f n = count_less f g x n (omega (arith, l, d)) a b h in
    rw (h n (λ q. d (sym q))) (omega (arith, less)))
    (cases_eq x n)

pub count_max : (f : ℕ → Bool) (n : ℕ) → count f n ≤ n
count_max f zero = omega arith
count_max f (suc n) = one_max (f n) (count f n) n (count_max f n)
  where
    one_max : (b : Bool) (k m : ℕ) → k ≤ m → cond b 1 0 + k ≤ suc m
    one_max true k m h = omega (arith, h)
    one_max false k m h = omega (arith, h)

pub others_max : (me : ℕ) (tags : ℕ → Tag) (n : ℕ) → others me tags n ≤ n
others_max me tags n = count_max (is_other me tags) n

self_not : (me : ℕ) (k : Kind) → (not (eqb me me) && is_listed k) ≡ false
self_not me k = rw (eq-eqb me me refl) refl

-- the own tag doesn't count
pub own_same : (me : ℕ) (tags : ℕ → Tag) (t : Tag) (n : ℕ) → others me (update tags me t) n ≡ others me tags n
own_same me tags t n = count_same (is_other me (update tags me t)) (is_other me tags) n (λ i l. at i)
  where
    at : (i : ℕ) → is_other me (update tags me t) i ≡ is_other me tags i
    at i = ⊎_elim (λ e. rw e (self_not me (update tags me t me).kind ∙ sym (self_not me (tags me).kind))) (λ d. ap (λ (x : Tag). not (eqb i me) && is_listed x.kind) (not_updated tags me t i d)) (cases_eq i me)

-- nor does a tag whose node is listed before and after
pub listed_same : (me : ℕ) (tags : ℕ → Tag) (x : ℕ) (t : Tag) (n : ℕ) → is_listed (tags x).kind ≡ true → is_listed t.kind ≡ true → others me (update tags x t) n ≡ others me tags n
listed_same me tags x t n a b = count_same (is_other me (update tags x t)) (is_other me tags) n (λ i l. at i)
  where
    at : (i : ℕ) → is_other me (update tags x t) i ≡ is_other me tags i
    at i = ⊎_elim
        (λ e. let k : is_listed (update tags x t i).kind ≡ is_listed (tags i).kind = rw e (ap (λ (y : Tag). is_listed y.kind) (updated tags x t) ∙ b ∙ sym a) in ap (λ (q : Bool). not (eqb i me) && q) k)
        (λ d. ap (λ (y : Tag). not (eqb i me) && is_listed y.kind) (not_updated tags x t i d))
        (cases_eq i x)

-- another node that becomes Invalid is one less
pub one_less : (me : ℕ) (tags : ℕ → Tag) (x : ℕ) (t : Tag) (n : ℕ) → x < n → x ≢ me → is_listed (tags x).kind ≡ true → is_listed t.kind ≡ false → others me (update tags x t) n < others me tags n
one_less me tags x t n l d a b =
    let other : eqb x me ≡ false = grind (arith, nat_tests, d) in
    let was : is_other me tags x ≡ true = rw (other, a) refl in
    let is : is_other me (update tags x t) x ≡ false = rw (other, ap (λ (y : Tag). is_listed y.kind) (updated tags x t) ∙ b) refl in
    count_less (is_other me tags) (is_other me (update tags x t)) x n l was is (λ i q. ap (λ (y : Tag). not (eqb i me) && is_listed y.kind) (sym (not_updated tags x t i q)))
