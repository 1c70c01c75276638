use Rattle.std.proofs.Common.{◌≡◌, ◌∙◌, ◌+◌, ◌<◌, ◌∷◌, ◌++◌, ℕ, List, codes, drop, get_or, length, ap, append_assoc, sym}
use Rattle.std.specs.List.{flat_map}
use Rattle.std.proofs.lemmas.List.{drop_more}
use Rattle.sci_words.specs.declared.tags.Tag.{Tag}
use Rattle.sci_script.specs.Text.{entry_text}
use Rattle.sci_script.proofs.texts.push_entries.Goals as goal

regroup : (text comma entry rest : List ℕ) → ((text ++ comma) ++ entry) ++ rest ≡ text ++ ((comma ++ entry) ++ rest)
regroup text comma entry rest = simp append_assoc

abbrev behind_commas : List (ℕ × Tag) → List ℕ
behind_commas entries = flat_map (λ e. codes ", " ++ entry_text e) entries

entry_more : (text comma new all : List ℕ) (entries : List (ℕ × Tag)) (i : ℕ) (entry : ℕ × Tag) → i < length entries → entry ≡ get_or entries i entry → comma ≡ text ++ codes ", " → new ≡ comma ++ entry_text entry
    → text ++ behind_commas (drop i entries) ≡ all → new ++ behind_commas (drop (i + 1) entries) ≡ all
entry_more text comma new all entries i entry lt is pushed named so_far =
    let here : drop i entries ≡ entry ∷ drop (i + 1) entries = drop_more entries i entry lt ∙ ap (λ (e : ℕ × Tag). e ∷ drop (i + 1) entries) (sym is) in
    ap (λ (x : List ℕ). x ++ behind_commas (drop (i + 1) entries)) (named ∙ ap (λ (x : List ℕ). x ++ entry_text entry) pushed)
    ∙ regroup text (codes ", ") (entry_text entry) (behind_commas (drop (i + 1) entries)) ∙ ap (λ (es : List (ℕ × Tag)). text ++ behind_commas es) (sym here) ∙ so_far

pub loop-entry-preserved : goal.loop-entry-preserved
loop-entry-preserved c =
    entry_more _ _ _ _ _ c.loop-entry.entry-index c.entry-item.result c.loop-entry-test.true c.entry-item.is c.in_ok-push_str-2.ensures.bytes c.in_ok-push_entry-2.ensures c.loop-entry.invariant
