-- A line of text is read as what it says.
use Rattle.std.proofs.Common.{◌≡◌, ◌≢◌, ℕ, ◌+◌, ◌<◌, ◌≤◌, ◌^◌, true, false, List, ◌∷◌, ◌++◌, Option, Some, None, refl, ap, ◌∙◌, arith, codes, append_assoc, decimal}
use Rattle.sci_words.specs.declared.layouts.Layout.{Layout}
use Rattle.sci_words.specs.declared.layouts.Layout.TheVariants.{One, Two}
use Rattle.sci_words.specs.Layout.{no_link}
use Rattle.sci_words.specs.declared.memory.Mem.{Mem}
use Rattle.sci_words.specs.declared.tags.Tag.{Tag}
use Rattle.sci_words.specs.Codes.{mem_code_in, tag_code_in}
use Rattle.sci_words.specs.Tag.{is_invalid, tag_well_formed, tag_links_below}
use Rattle.sci_words.specs.Mem.{mem_well_formed, mem_links_below}
use Rattle.sci_words.proofs.Codes.{tag_code_below, mem_code_below}
use Rattle.sci_core.specs.declared.lines.Line.{Line}
use Rattle.sci_core.specs.State.{invalid, blank}
use Rattle.sci_dump.specs.ReadBack.{IsContent}
use Rattle.sci_dump.specs.Reading.{behind, numbered_at, word_at, mem_of, tag_of, content_at, memory_at, node_at, tag_at, count_at, layout_at, head_at, entry_at, found_on}
use Rattle.sci_dump.specs.Text.{hexadecimal, values_text, content_text, memory_text, tag_text, head_text, layout_label, nodes_in}
use Rattle.sci_dump.proofs.FieldsBack.{then_read, behind_own, numbered_own, numbered_other, word_own, content_own, count_own}
use Rattle.sci_dump.proofs.WordsBack.{mem_own, tag_own}

apart_three : (a b c rest : List ℕ) → (a ++ b ++ c) ++ rest ≡ a ++ (b ++ (c ++ rest))
apart_three a b c rest = simp append_assoc

apart_four : (a b c d rest : List ℕ) → (a ++ b ++ c ++ d) ++ rest ≡ a ++ (b ++ (c ++ (d ++ rest)))
apart_four a b c d rest = simp append_assoc

apart_five : (a b c d e rest : List ℕ) → (a ++ b ++ c ++ d ++ e) ++ rest ≡ a ++ (b ++ (c ++ (d ++ (e ++ rest))))
apart_five a b c d e rest = simp append_assoc

apart_six : (a b c d e f rest : List ℕ) → (a ++ b ++ c ++ d ++ e ++ f) ++ rest ≡ a ++ (b ++ (c ++ (d ++ (e ++ (f ++ rest)))))
apart_six a b c d e f rest = simp append_assoc

content_apart : (word : ℕ) (line : Line) (rest : List ℕ) → content_text word line ++ rest ≡ hexadecimal 16 word ++ (values_text (line.stamp ∷ line.words) ++ (codes "\n" ++ rest))
content_apart word line rest = apart_three (hexadecimal 16 word) (values_text (line.stamp ∷ line.words)) (codes "\n") rest

module _ (layout : Layout) where
  pub memory_own : (number : ℕ) (m : Mem) (line : Line) (rest : List ℕ) → number < 2 ^ 64 → mem_well_formed m ≡ true → mem_links_below (no_link layout) m ≡ true → IsContent line
      → memory_at layout number (memory_text layout number m line ++ rest) ≡ Some (m, line, rest)
  unfolding memory_at memory_text
  memory_own number m line rest small formed links is =
      let found : Option (Mem × Line × List ℕ) = Some (m, line, rest) in
      let four : List ℕ = values_text (line.stamp ∷ line.words) ++ (codes "\n" ++ rest) in
      let three : List ℕ = hexadecimal 16 (mem_code_in layout m) ++ four in
      let two : List ℕ = codes " " ++ three in
      let one : List ℕ = decimal number ++ two in
      let whole : (codes "line " ++ decimal number ++ codes " " ++ content_text (mem_code_in layout m) line) ++ rest ≡ codes "line " ++ one =
      apart_four (codes "line ") (decimal number) (codes " ") (content_text (mem_code_in layout m) line) rest ∙ ap (λ (xs : List ℕ). codes "line " ++ (decimal number ++ (codes " " ++ xs))) (content_apart (mem_code_in layout m) line rest) in
      ap (memory_at layout number) whole
      ∙ (then_read (behind (codes "line ") (codes "line " ++ one)) _ one found (behind_own (codes "line ") one)
      (then_read (numbered_at number one) _ two found (numbered_own number two small refl)
      (then_read (behind (codes " ") two) _ three found (behind_own (codes " ") three)
      (then_read (word_at three) _ (mem_code_in layout m, four) found (word_own (mem_code_in layout m) four (mem_code_below layout m links))
      (then_read (mem_of layout (mem_code_in layout m)) _ m found (mem_own layout m formed links) (then_read (content_at four) _ (line, rest) found (content_own line rest is) refl))))))

  -- what stands behind `tag L N `
  pub node_own : (number node : ℕ) (rest : List ℕ) → number < 2 ^ 64 → node < 2 ^ 64 → node_at number node (codes "tag " ++ (decimal number ++ (codes " " ++ (decimal node ++ (codes " " ++ rest))))) ≡ Some rest
  unfolding node_at
  node_own number node rest small few =
      let four : List ℕ = codes " " ++ rest in
      let three : List ℕ = decimal node ++ four in
      let two : List ℕ = codes " " ++ three in
      let one : List ℕ = decimal number ++ two in
      then_read (behind (codes "tag ") (codes "tag " ++ one)) _ one (Some rest) (behind_own (codes "tag ") one)
      (then_read (numbered_at number one) _ two (Some rest) (numbered_own number two small refl)
      (then_read (behind (codes " ") two) _ three (Some rest) (behind_own (codes " ") three) (then_read (numbered_at node three) _ four (Some rest) (numbered_own node four few refl) (behind_own (codes " ") rest))))

  -- a row of another node
  node_other : (number node other : ℕ) (rest : List ℕ) → number < 2 ^ 64 → other < 2 ^ 64 → other ≢ node → node_at number node (codes "tag " ++ (decimal number ++ (codes " " ++ (decimal other ++ (codes " " ++ rest))))) ≡ None
  unfolding node_at
  node_other number node other rest small few differ =
      let four : List ℕ = codes " " ++ rest in
      let three : List ℕ = decimal other ++ four in
      let two : List ℕ = codes " " ++ three in
      let one : List ℕ = decimal number ++ two in
      then_read (behind (codes "tag ") (codes "tag " ++ one)) _ one None (behind_own (codes "tag ") one)
      (then_read (numbered_at number one) _ two None (numbered_own number two small refl)
      (then_read (behind (codes " ") two) _ three None (behind_own (codes " ") three) (rw (numbered_other node other four few differ refl) refl)))

  tag_apart : (number node : ℕ) (t : Tag) (line : Line) (rest : List ℕ)
      → tag_text layout number node t line ++ rest ≡ codes "tag " ++ (decimal number ++ (codes " " ++ (decimal node ++ (codes " " ++ (content_text (tag_code_in layout t) line ++ rest)))))
  unfolding tag_text
  tag_apart number node t line rest = apart_six (codes "tag ") (decimal number) (codes " ") (decimal node) (codes " ") (content_text (tag_code_in layout t) line) rest

  pub other_row : (number node other : ℕ) (t : Tag) (line : Line) (rest : List ℕ) → number < 2 ^ 64 → other < 2 ^ 64 → other ≢ node → node_at number node (tag_text layout number other t line ++ rest) ≡ None
  other_row number node other t line rest small few differ =
      ap (node_at number node) (tag_apart number other t line rest) ∙ node_other number node other (content_text (tag_code_in layout t) line ++ rest) small few differ

  tag_row : (t : Tag) (line : Line) (rest : List ℕ) → tag_well_formed t ≡ true → tag_links_below (no_link layout) t ≡ true → is_invalid t.kind ≡ false → IsContent line → tag_at layout (content_text (tag_code_in layout t) line ++ rest) ≡ Some (t, line, rest)
  unfolding tag_at
  tag_row t line rest formed links other is =
      let found : Option (Tag × Line × List ℕ) = Some (t, line, rest) in
      let four : List ℕ = values_text (line.stamp ∷ line.words) ++ (codes "\n" ++ rest) in
      ap (tag_at layout) (content_apart (tag_code_in layout t) line rest)
      ∙ (then_read (word_at (hexadecimal 16 (tag_code_in layout t) ++ four)) _ (tag_code_in layout t, four) found (word_own (tag_code_in layout t) four (tag_code_below layout t links))
      (then_read (tag_of layout (tag_code_in layout t)) _ t found (tag_own layout t formed links other) (then_read (content_at four) _ (line, rest) found (content_own line rest is) refl)))

  found_row : (n : ℕ) (text : List ℕ) (r : Option (List ℕ)) (row : List ℕ) (t : Tag) (line : Line) (rest : List ℕ) → r ≡ Some row → tag_at layout row ≡ Some (t, line, rest) → found_on layout n text r ≡ Some (t, line, n + 1, rest)
  found_row n text r row t line rest here is = rw here (rw is refl)

  found_no_row : (n : ℕ) (text : List ℕ) (r : Option (List ℕ)) → r ≡ None → found_on layout n text r ≡ Some (invalid, blank, n, text)
  found_no_row n text r none = rw none refl

  pub entry_own : (number node n : ℕ) (t : Tag) (line : Line) (rest : List ℕ) → number < 2 ^ 64 → node < 2 ^ 64 → tag_well_formed t ≡ true → tag_links_below (no_link layout) t ≡ true → is_invalid t.kind ≡ false → IsContent line
      → entry_at layout number node n (tag_text layout number node t line ++ rest) ≡ Some (t, line, n + 1, rest)
  unfolding entry_at
  entry_own number node n t line rest small few formed links other is =
      let row : List ℕ = content_text (tag_code_in layout t) line ++ rest in
      let text : List ℕ = tag_text layout number node t line ++ rest in
      let here : node_at number node text ≡ Some row = ap (node_at number node) (tag_apart number node t line rest) ∙ node_own number node row small few in
      found_row n text (node_at number node text) row t line rest here (tag_row t line rest formed links other is)

  pub entry_none : (number node n : ℕ) (text : List ℕ) → node_at number node text ≡ None → entry_at layout number node n text ≡ Some (invalid, blank, n, text)
  unfolding entry_at
  entry_none number node n text none = found_no_row n text (node_at number node text) none

layout_own : (l : Layout) (rest : List ℕ) → layout_at (layout_label l ++ rest) ≡ Some (l, rest)
unfolding layout_at behind
layout_own One rest = refl
layout_own Two rest = refl

pub small_count : (l : Layout) (nodes : ℕ) → nodes ≤ nodes_in l → nodes < 2 ^ 64
small_count One nodes few = omega (arith, few)
small_count Two nodes few = omega (arith, few)

pub head_own : (l : Layout) (nodes lines : ℕ) (rest : List ℕ) → 1 ≤ nodes → nodes ≤ nodes_in l → 1 ≤ lines → lines ≤ 1024 → head_at (head_text l nodes lines ++ rest) ≡ Some (l, nodes, lines, rest)
unfolding head_at head_text
head_own l nodes lines rest some few full short =
    let found : Option (Layout × ℕ × ℕ × List ℕ) = Some (l, nodes, lines, rest) in
    let four : List ℕ = codes "\n" ++ rest in
    let three : List ℕ = decimal lines ++ four in
    let two : List ℕ = codes " " ++ three in
    let one : List ℕ = decimal nodes ++ two in
    ap head_at (apart_five (layout_label l) (decimal nodes) (codes " ") (decimal lines) (codes "\n") rest)
    ∙ (then_read (layout_at (layout_label l ++ one)) _ (l, one) found (layout_own l one)
    (then_read (count_at (nodes_in l) one) _ (nodes, two) found (count_own (nodes_in l) nodes two (small_count l nodes few) some few refl)
    (then_read (behind (codes " ") two) _ three found (behind_own (codes " ") three)
    (then_read (count_at 1024 three) _ (lines, four) found (count_own 1024 lines four (omega (arith, short)) full short refl) (then_read (behind (codes "\n") four) _ rest found (behind_own (codes "\n") rest) refl)))))
