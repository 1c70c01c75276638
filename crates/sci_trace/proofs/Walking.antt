-- The entries along the links, one behind the other.
use Rattle.std.proofs.Common.{◌≡◌, ◌∙◌, ℕ, zero, suc, List, [], ◌++◌, Option, Some, None, codes, refl, sym, ap, append_assoc}
use Rattle.std.proofs.lemmas.List.{append-nil}
use Rattle.std.specs.List.{flat_map}
use Rattle.sci_words.specs.declared.tags.Tag.{Tag}
use Rattle.sci_trace.specs.Lists.{entry_text, entries_text, walked}

-- the text of the entries behind the first
abbrev pub behind : (ℕ → Tag) → ℕ → Option ℕ → List ℕ
behind tags n next = flat_map (λ (e : ℕ × Tag). codes ", " ++ entry_text e) (walked tags n next)

behind_none : (tags : ℕ → Tag) (n : ℕ) → behind tags n None ≡ []
behind_none tags zero = refl
behind_none tags (suc n) = refl

-- an entry and those behind it, with what stands in front of it
entry_on : (front mark entry rest new : List ℕ) → new ≡ (front ++ mark) ++ entry → new ++ rest ≡ front ++ (mark ++ (entry ++ rest))
entry_on front mark entry rest new pushed = ap (λ (x : List ℕ). x ++ rest) pushed ∙ append_assoc (front ++ mark) entry rest ∙ append_assoc front mark (entry ++ rest)

-- the head is written, and all others are left
pub first_walked : (tags : ℕ → Tag) (nodes left head : ℕ) (next : Option ℕ) (old mid new : List ℕ) → nodes ≡ suc left → mid ≡ old ++ codes ": " → new ≡ mid ++ entry_text (head, tags head)
    → next ≡ (tags head).forw → new ++ behind tags left next ≡ old ++ entries_text (walked tags nodes (Some head))
first_walked tags nodes left head next old mid new is marked pushed to =
    let entry : List ℕ = entry_text (head, tags head) in
    let rest : List ℕ = behind tags left (tags head).forw in
    let whole : entries_text (walked tags nodes (Some head)) ≡ entries_text (walked tags (suc left) (Some head)) = ap (λ (x : ℕ). entries_text (walked tags x (Some head))) is in
    ap (λ (x : Option ℕ). new ++ behind tags left x) to ∙ entry_on old (codes ": ") entry rest new (pushed ∙ ap (λ (x : List ℕ). x ++ entry) marked) ∙ ap (λ (x : List ℕ). old ++ x) (sym whole)

-- one more is written
pub next_walked : (tags : ℕ → Tag) (now left node : ℕ) (at next : Option ℕ) (old mid new all : List ℕ) → now ≡ suc left → at ≡ Some node → mid ≡ old ++ codes ", " → new ≡ mid ++ entry_text (node, tags node)
    → next ≡ (tags node).forw → old ++ behind tags now at ≡ all → new ++ behind tags left next ≡ all
next_walked tags now left node at next old mid new all is here marked pushed to so_far =
    let entry : List ℕ = entry_text (node, tags node) in
    let rest : List ℕ = behind tags left (tags node).forw in
    let whole : behind tags now at ≡ behind tags (suc left) (Some node) = ap (λ (x : ℕ). behind tags x at) is ∙ ap (λ (x : Option ℕ). behind tags (suc left) x) here in
    ap (λ (x : Option ℕ). new ++ behind tags left x) to ∙ entry_on old (codes ", ") entry rest new (pushed ∙ ap (λ (x : List ℕ). x ++ entry) marked) ∙ ap (λ (x : List ℕ). old ++ x) (sym whole) ∙ so_far

-- none is left
pub all_walked : (tags : ℕ → Tag) (n : ℕ) (at : Option ℕ) (text all : List ℕ) → at ≡ None → text ++ behind tags n at ≡ all → text ≡ all
all_walked tags n at text all none so_far =
    sym (append-nil text) ∙ ap (λ (x : List ℕ). text ++ x) (sym (ap (λ (x : Option ℕ). behind tags n x) none ∙ behind_none tags n)) ∙ so_far
