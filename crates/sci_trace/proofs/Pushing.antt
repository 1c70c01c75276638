-- Pieces that are pushed behind a text, one after the other.
use Rattle.std.proofs.Common.{◌≡◌, ◌∙◌, ℕ, List, [], ◌++◌, Result, Ok, Err, OnOk, is_ok, if◌then◌else◌, codes, sym, ap, append_assoc, append-nil}
use Rattle.std.proofs.lemmas.List.{append_cancel_left}
use Rattle.std.proofs.lemmas.Result.{on_ok_weaker}

behind : (old mid new piece rest : List ℕ) → mid ≡ old ++ piece → new ≡ mid ++ rest → new ≡ old ++ (piece ++ rest)
behind old mid new piece rest pushed last = last ∙ ap (λ (x : List ℕ). x ++ rest) pushed ∙ append_assoc old piece rest

one_by_one : (of node is name to forw from back held : List ℕ) → (of ++ node ++ is) ++ (name ++ ((to ++ forw ++ []) ++ ((from ++ back ++ []) ++ held))) ≡ of ++ node ++ is ++ name ++ to ++ forw ++ from ++ back ++ held
one_by_one of node is name to forw from back held = simp append_assoc

-- a tag, with its links
pub tag_pushed : {T E : Type 0} (r : Result T E) (old a b c d new node said name forw back held : List ℕ) → said ≡ name → a ≡ old ++ (codes "node " ++ node ++ codes " is ") → b ≡ a ++ said
    → c ≡ b ++ (codes " forw " ++ forw ++ codes "") → d ≡ c ++ (codes " back " ++ back ++ codes "") → OnOk r (new ≡ d ++ held)
    → OnOk r (new ≡ old ++ (codes "node " ++ node ++ codes " is " ++ name ++ codes " forw " ++ forw ++ codes " back " ++ back ++ held))
tag_pushed r old a b c d new node said name forw back held same first second third fourth =
    on_ok_weaker r (λ (last : new ≡ d ++ held).
    behind old a new (codes "node " ++ node ++ codes " is ") _ first
    (behind a b new name _ (second ∙ ap (λ (x : List ℕ). a ++ x) same)
    (behind b c new (codes " forw " ++ forw ++ codes "") _ third
    (behind c d new (codes " back " ++ back ++ codes "") held fourth last)))
    ∙ ap (λ (x : List ℕ). old ++ x) (one_by_one (codes "node ") node (codes " is ") name (codes " forw ") forw (codes " back ") back held))

-- a piece behind all that waited, where that has joined the front
pub joined_behind : {T E : Type 0} (r : Result T E) (old front waiting piece new : List ℕ) → front ++ waiting ≡ old → front ≡ old → new ≡ (if is_ok r then front ++ piece else front) → OnOk r (new ++ waiting ≡ old ++ piece)
joined_behind (Err e) old front waiting piece new kept joined pushed = tt
joined_behind (Ok x) old front waiting piece new kept joined pushed =
    let none : waiting ≡ [] = append_cancel_left front waiting [] (kept ∙ sym joined ∙ sym (append-nil front)) in
    ap (λ (y : List ℕ). new ++ y) none ∙ append-nil new ∙ pushed ∙ ap (λ (y : List ℕ). y ++ piece) joined
