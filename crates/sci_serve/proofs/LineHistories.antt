-- The histories of closed lines.
use Rattle.std.proofs.Common.{◌≡◌, ℕ, zero, suc, ◌+◌, ◌<◌, ◌≤◌, List, [], ◌∷◌, ◌++◌, length, get_or, drop, map, All, refl, sym, ap, subst, ◌∙◌, arith, append_assoc, append-nil}
use Rattle.std.proofs.lemmas.List.{drop_more}
use Rattle.std.specs.Global.{Vec}
use mathlib.Core.Option.{some}
use lib.ListN.{get_elem?}
use Rattle.sci_core.specs.declared.lines.Line.{Line}
use Rattle.sci_core.specs.declared.receipts.Receipt.{Receipt}
use Rattle.sci_core.specs.Closed.{ClosedLine, value_of}
use Rattle.sci_core.specs.State.{blank}
use Rattle.sci_histories.specs.Histories.{HasSizes, LineReceipts}
use Rattle.sci_histories.specs.Rules.{IsLegalLine}
use Rattle.sci_work.specs.Ended.{AreHistories, lists_in}
use Rattle.sci_serve.specs.Histories.{histories_from, history_from}

count_of : (cs : List ClosedLine) (ls : List (List (List Receipt))) → length ls ≡ length cs → length (histories_from cs ls) ≡ length cs
count_of [] ls same = refl
count_of (c ∷ cs) [] same = absurd (omega (arith, same))
count_of (c ∷ cs) (l ∷ ls) same =
    let fewer : length ls ≡ length cs = omega (arith, same) in
    let rest = count_of cs ls fewer in
    omega (arith, rest)

each_of : (P : LineReceipts → Type 0) (cs : List ClosedLine) (ls : List (List (List Receipt)))
    → ((k : ℕ) (c : ClosedLine) (l : List (List Receipt)) → get_elem? cs k ≡ some c → get_elem? ls k ≡ some l → P (history_from c l))
    → (k : ℕ) (d : LineReceipts) → k < length (histories_from cs ls) → P (get_or (histories_from cs ls) k d)
each_of P [] ls all k d low = absurd (omega (arith, low))
each_of P (c ∷ cs) [] all k d low = absurd (omega (arith, low))
each_of P (c ∷ cs) (l ∷ ls) all zero d low = all 0 c l refl refl
each_of P (c ∷ cs) (l ∷ ls) all (suc k) d low = each_of P cs ls (λ j x y ex ey. all (suc j) x y ex ey) k d (omega (arith, low))

-- receipts that are the lines' histories are legal ones
pub legal_of : (fits : ℕ → List ℕ → Type 0) (nodes : ℕ) (cs : List ClosedLine) (ls : List (List (List Receipt)))
    → AreHistories fits nodes cs ls → All IsLegalLine (histories_from cs ls)
legal_of fits nodes cs ls are = λ k d low. each_of IsLegalLine cs ls (λ j c l ec el. (are.each j c l ec el).whole.legal) k d low

no_more : {A : Type 0} (xs : List A) → length xs ≡ 0 → xs ≡ []
no_more [] e = refl
no_more (x ∷ xs) e = absurd (omega (arith, e))

-- one of those that are left is done
pub moved : {A B : Type 0} (f : A → B) (done more : List B) (y : B) (left rest : List A) (x : A) (all : List B) → more ≡ done ++ y ∷ [] → y ≡ f x → left ≡ x ∷ rest → done ++ map f left ≡ all → more ++ map f rest ≡ all
moved {A} {B} f done more y left rest x all is same first was =
    ap (λ (z : List B). z ++ map f rest) is ∙ append_assoc done (y ∷ []) (map f rest) ∙ ap (λ (z : B). done ++ z ∷ map f rest) same ∙ ap (λ (z : List A). done ++ map f z) (sym first) ∙ was

-- once none is left, all are done
pub moved_all : {A B : Type 0} (f : A → B) (done : List B) (left : List A) (all : List B) → length left ≡ 0 → done ++ map f left ≡ all → done ≡ all
moved_all {A} {B} f done left all none was =
    let end = ap (λ (z : List A). done ++ map f z) (no_more left none) ∙ append-nil done in sym end ∙ was

-- so with the histories of lines
pub told : (cs : List ClosedLine) (n : ℕ) (c : ClosedLine) (done more : List LineReceipts) (h : LineReceipts) (left rest : List (Vec (Vec Receipt))) (v : Vec (Vec Receipt)) (all : List LineReceipts)
    → n < length cs → c ≡ get_or cs n c → more ≡ done ++ h ∷ [] → h ≡ history_from c (lists_in v) → left ≡ v ∷ rest
    → done ++ histories_from (drop n cs) (map lists_in left) ≡ all → more ++ histories_from (drop (n + 1) cs) (map lists_in rest) ≡ all
told cs n c done more h left rest v all low at is same first was =
    let others = histories_from (drop (n + 1) cs) (map lists_in rest) in
    let here : drop n cs ≡ c ∷ drop (n + 1) cs = drop_more cs n c low ∙ ap (λ (z : ClosedLine). z ∷ drop (n + 1) cs) (sym at) in
    let both = ap (λ (z : List (Vec (Vec Receipt))). done ++ histories_from (drop n cs) (map lists_in z)) first
    ∙ ap (λ (z : List ClosedLine). done ++ histories_from z (lists_in v ∷ map lists_in rest)) here in
    ap (λ (z : List LineReceipts). z ++ others) is ∙ append_assoc done (h ∷ []) others ∙ ap (λ (z : LineReceipts). done ++ z ∷ others) same ∙ sym both ∙ was

none_of : (cs : List ClosedLine) → histories_from cs [] ≡ []
none_of [] = refl
none_of (c ∷ cs) = refl

pub told_all : (cs : List ClosedLine) (done : List LineReceipts) (left : List (Vec (Vec Receipt))) (all : List LineReceipts) → length left ≡ 0 → done ++ histories_from cs (map lists_in left) ≡ all → done ≡ all
told_all cs done left all none was =
    let end = ap (λ (z : List (Vec (Vec Receipt))). done ++ histories_from cs (map lists_in z)) (no_more left none) ∙ ap (λ (z : List LineReceipts). done ++ z) (none_of cs) ∙ append-nil done in
    sym end ∙ was

-- one line's history, from its parts
pub made : (c : ClosedLine) (value : Line) (lists all : List (List Receipt)) → value ≡ value_of c → lists ≡ all → record { opening = blank; closing = value; lists = lists } ≡ history_from c all
made c value lists all holds same =
    ap (λ (z : Line). history_of z lists) holds ∙ ap (λ (z : List (List Receipt)). history_of (value_of c) z) same
  where
    history_of : Line → List (List Receipt) → LineReceipts
    history_of v ls = record { opening = blank; closing = v; lists = ls }

-- a whole history is of them
pub sizes : (fits : ℕ → List ℕ → Type 0) (nodes : ℕ) (cs : List ClosedLine) (ls : List (List (List Receipt))) (hs : List LineReceipts)
    → hs ≡ histories_from cs ls → AreHistories fits nodes cs ls → (1 ≤ nodes) × (nodes ≤ 64) × (1 ≤ length cs) × (length cs ≤ 1024) → HasSizes (record { nodes = nodes; lines = hs })
sizes fits nodes cs ls hs same are (any, few, one, most) =
    let count = count_of cs ls are.count in
    subst (λ (z : List LineReceipts). HasSizes (record { nodes = nodes; lines = z })) (sym same) (record {
      nodes = (any, omega (arith, few));
      lines = (omega (arith, count, one), omega (arith, count, most));
      each = λ k d low. each_of (λ h. length h.lists ≡ nodes) cs ls (λ j c l ec el. (are.each j c l ec el).count) k d low;
    })
