-- The line of text that is read is the text of what it says.
use Rattle.std.proofs.Common.{if◌then◌else◌, ◌≡◌, ℕ, ◌+◌, false, List, [], ◌∷◌, ◌++◌, Option, Some, None, refl, sym, ap, ◌∙◌, subst, codes, append_assoc, decimal}
use Rattle.sci_words.specs.declared.layouts.Layout.{Layout}
use Rattle.sci_words.specs.declared.layouts.Layout.TheVariants.{One, Two}
use Rattle.sci_words.specs.declared.memory.Mem.{Mem}
use Rattle.sci_words.specs.declared.tags.Tag.{Tag}
use Rattle.sci_words.specs.Codes.{mem_code_in, tag_code_in}
use Rattle.sci_words.specs.Tag.{is_invalid}
use Rattle.sci_core.specs.declared.lines.Line.{Line}
use Rattle.sci_core.specs.State.{invalid, blank}
use Rattle.sci_dump.specs.Reading.{behind, numbered_at, word_at, mem_of, tag_of, content_at, memory_at, node_at, tag_at, count_at, layout_by, layout_at, head_at, entry_at, found_on, tag_on}
use Rattle.sci_dump.specs.Text.{hexadecimal, values_text, content_text, memory_text, tag_text, node_text, head_text, layout_label, nodes_in}
use Rattle.sci_dump.proofs.Inverting.{both_some, some_of, not_none, behind_text}
use Rattle.sci_dump.proofs.FieldTexts.{word_text, content_read, numbered_read, count_read}
use Rattle.sci_dump.proofs.Words.{mem_code_read, tag_code_read}

-- a word, and the content behind it
word_content : (text mid rest : List ℕ) (word : ℕ) (line : Line) → word_at text ≡ Some (word, mid) → content_at mid ≡ Some (line, rest) → text ≡ content_text word line ++ rest
word_content text mid rest word line is are =
    word_text text mid word is
    ∙ (ap (λ (xs : List ℕ). hexadecimal 16 word ++ xs) (content_read mid rest line are)
    ∙ (sym (append_assoc (hexadecimal 16 word) (values_text (line.stamp ∷ line.words) ++ codes "\n") rest)
    ∙ ap (λ (xs : List ℕ). xs ++ rest) (sym (append_assoc (hexadecimal 16 word) (values_text (line.stamp ∷ line.words)) (codes "\n")))))

-- five parts, and the rest
join_five : (a b c d e u v w x y rest : List ℕ) → u ≡ a ++ v → v ≡ b ++ w → w ≡ c ++ x → x ≡ d ++ y → y ≡ e ++ rest → u ≡ (a ++ b ++ c ++ d ++ e) ++ rest
join_five a b c d e u v w x y rest p q r s t = rw (p, q, r, s, t) (simp append_assoc)

join_four : (a b c d u v w x rest : List ℕ) → u ≡ a ++ v → v ≡ b ++ w → w ≡ c ++ x → x ≡ d ++ rest → u ≡ (a ++ b ++ c ++ d) ++ rest
join_four a b c d u v w x rest p q r s = rw (p, q, r, s) (simp append_assoc)

module _ (layout : Layout) where
  pub memory_read : (number : ℕ) (text rest : List ℕ) (m : Mem) (line : Line) → memory_at layout number text ≡ Some (m, line, rest) → text ≡ memory_text layout number m line ++ rest
  unfolding memory_at memory_text
  memory_read number text rest m line h =
      let (one, h1, k1) = both_some (behind (codes "line ") text) _ (m, line, rest) h in
      let (two, h2, k2) = both_some (numbered_at number one) _ (m, line, rest) k1 in
      let (three, h3, k3) = both_some (behind (codes " ") two) _ (m, line, rest) k2 in
      let (word, h4, k4) = both_some (word_at three) _ (m, line, rest) k3 in
      let (mem, h5, k5) = both_some (mem_of layout word.0) _ (m, line, rest) k4 in
      let (content, h6, k6) = both_some (content_at word.1) _ (m, line, rest) k5 in
      let e = some_of (mem, content.0, content.1) (m, line, rest) k6 in
      let same : mem ≡ m = ap (λ (p : Mem × Line × List ℕ). p.0) e in
      let over : (content.0, content.1) ≡ (line, rest) = ap (λ (p : Mem × Line × List ℕ). (p.1, p.2)) e in
      let code : word.0 ≡ mem_code_in layout m = sym (mem_code_read layout word.0 mem h5) ∙ ap (mem_code_in layout) same in
      let ends : three ≡ content_text (mem_code_in layout m) line ++ rest =
      subst (λ (w : ℕ). three ≡ content_text w line ++ rest) code (word_content three word.1 rest word.0 line h4 (h6 ∙ ap (λ (p : Line × List ℕ). Some p) over)) in
      join_four (codes "line ") (decimal number) (codes " ") (content_text (mem_code_in layout m) line) text one two three rest
      (behind_text (codes "line ") text one h1) (numbered_read number one two h2) (behind_text (codes " ") two three h3) ends

  pub node_read : (number node : ℕ) (text rest : List ℕ) → node_at number node text ≡ Some rest → text ≡ (codes "tag " ++ decimal number ++ codes " " ++ decimal node ++ codes " ") ++ rest
  unfolding node_at
  node_read number node text rest h =
      let (one, h1, k1) = both_some (behind (codes "tag ") text) _ rest h in
      let (two, h2, k2) = both_some (numbered_at number one) _ rest k1 in
      let (three, h3, k3) = both_some (behind (codes " ") two) _ rest k2 in
      let (four, h4, k4) = both_some (numbered_at node three) _ rest k3 in
      join_five (codes "tag ") (decimal number) (codes " ") (decimal node) (codes " ") text one two three four rest
      (behind_text (codes "tag ") text one h1) (numbered_read number one two h2) (behind_text (codes " ") two three h3) (numbered_read node three four h4) (behind_text (codes " ") four rest k4)

  pub tag_read : (text rest : List ℕ) (t : Tag) (line : Line) → tag_at layout text ≡ Some (t, line, rest) → (is_invalid t.kind ≡ false) × (text ≡ content_text (tag_code_in layout t) line ++ rest)
  unfolding tag_at
  tag_read text rest t line h =
      let (word, h1, k1) = both_some (word_at text) _ (t, line, rest) h in
      let (tag, h2, k2) = both_some (tag_of layout word.0) _ (t, line, rest) k1 in
      let (content, h3, k3) = both_some (content_at word.1) _ (t, line, rest) k2 in
      let e = some_of (tag, content.0, content.1) (t, line, rest) k3 in
      let same : tag ≡ t = ap (λ (p : Tag × Line × List ℕ). p.0) e in
      let over : (content.0, content.1) ≡ (line, rest) = ap (λ (p : Tag × Line × List ℕ). (p.1, p.2)) e in
      let (other, code) = tag_code_read layout word.0 tag h2 in (
        subst (λ (x : Tag). is_invalid x.kind ≡ false) same other,
        subst (λ (w : ℕ). text ≡ content_text w line ++ rest) (sym code ∙ ap (tag_code_in layout) same) (word_content text word.1 rest word.0 line h1 (h3 ∙ ap (λ (p : Line × List ℕ). Some p) over)),
      )

  pub tag_on_some : (n : ℕ) (r : Option (Tag × Line × List ℕ)) (x : Tag × Line × ℕ × List ℕ) → tag_on n r ≡ Some x → (r ≡ Some (x.0, x.1, x.3)) × (x.2 ≡ n + 1)
  tag_on_some n None x h = absurd (not_none x h)
  tag_on_some n (Some found) x h =
      let e = some_of (found.0, found.1, n + 1, found.2) x h in
      (ap (λ (p : Tag × Line × ℕ × List ℕ). Some (p.0, p.1, p.3)) e, ap (λ (p : Tag × Line × ℕ × List ℕ). p.2) (sym e))

  entry_of : (number node n : ℕ) (text : List ℕ) (r : Option (List ℕ)) → node_at number node text ≡ r → (x : Tag × Line × ℕ × List ℕ) → found_on layout n text r ≡ Some x → text ≡ node_text layout number node x.0 x.1 ++ x.3
  unfolding node_text tag_text
  entry_of number node n text None is x h =
      let e = some_of (invalid, blank, n, text) x h in
      subst (λ (y : Tag × Line × ℕ × List ℕ). text ≡ (if is_invalid y.0.kind then [] else tag_text layout number node y.0 y.1) ++ y.3) e refl
  entry_of number node n text (Some rest) is x h =
      let (found, _) = tag_on_some n (tag_at layout rest) x h in
      let (other, content) = tag_read rest x.3 x.0 x.1 found in
      let front : List ℕ = codes "tag " ++ decimal number ++ codes " " ++ decimal node ++ codes " " in
      let whole : text ≡ tag_text layout number node x.0 x.1 ++ x.3 =
      node_read number node text rest is ∙ (ap (λ (xs : List ℕ). front ++ xs) content ∙ sym (append_assoc front (content_text (tag_code_in layout x.0) x.1) x.3)) in
      rw other whole

  pub entry_read : (number node n : ℕ) (text : List ℕ) (x : Tag × Line × ℕ × List ℕ) → entry_at layout number node n text ≡ Some x → text ≡ node_text layout number node x.0 x.1 ++ x.3
  unfolding entry_at
  entry_read number node n text x h = entry_of number node n text (node_at number node text) refl x h

layout_found : (text rest : List ℕ) (l : Layout) (one two : Option (List ℕ)) → behind (layout_label One) text ≡ one → behind (layout_label Two) text ≡ two → layout_by one two ≡ Some (l, rest) → text ≡ layout_label l ++ rest
layout_found text rest l (Some found) two is is_two h =
    let e = some_of (One, found) (l, rest) h in
    subst (λ (p : Layout × List ℕ). text ≡ layout_label p.0 ++ p.1) e (behind_text (layout_label One) text found is)
layout_found text rest l None (Some found) is is_two h =
    let e = some_of (Two, found) (l, rest) h in
    subst (λ (p : Layout × List ℕ). text ≡ layout_label p.0 ++ p.1) e (behind_text (layout_label Two) text found is_two)
layout_found text rest l None None is is_two h = absurd (not_none (l, rest) h)

layout_read : (text rest : List ℕ) (l : Layout) → layout_at text ≡ Some (l, rest) → text ≡ layout_label l ++ rest
unfolding layout_at
layout_read text rest l h = layout_found text rest l (behind (layout_label One) text) (behind (layout_label Two) text) refl refl h

pub head_read : (text rest : List ℕ) (l : Layout) (nodes lines : ℕ) → head_at text ≡ Some (l, nodes, lines, rest) → text ≡ head_text l nodes lines ++ rest
unfolding head_at head_text
head_read text rest l nodes lines h =
    let (one, h1, k1) = both_some (layout_at text) _ (l, nodes, lines, rest) h in
    let (two, h2, k2) = both_some (count_at (nodes_in one.0) one.1) _ (l, nodes, lines, rest) k1 in
    let (three, h3, k3) = both_some (behind (codes " ") two.1) _ (l, nodes, lines, rest) k2 in
    let (four, h4, k4) = both_some (count_at 1024 three) _ (l, nodes, lines, rest) k3 in
    let (left, h5, k5) = both_some (behind (codes "\n") four.1) _ (l, nodes, lines, rest) k4 in
    let e = some_of (one.0, two.0, four.0, left) (l, nodes, lines, rest) k5 in
    let whole : text ≡ (layout_label one.0 ++ decimal two.0 ++ codes " " ++ decimal four.0 ++ codes "\n") ++ left =
    join_five (layout_label one.0) (decimal two.0) (codes " ") (decimal four.0) (codes "\n") text one.1 two.1 three four.1 left
    (layout_read text one.1 one.0 h1) (count_read (nodes_in one.0) one.1 two.1 two.0 h2) (behind_text (codes " ") two.1 three h3) (count_read 1024 three four.1 four.0 h4) (behind_text (codes "\n") four.1 left h5) in
    subst (λ (p : Layout × ℕ × ℕ × List ℕ). text ≡ (layout_label p.0 ++ decimal p.1 ++ codes " " ++ decimal p.2 ++ codes "\n") ++ p.3) e whole
