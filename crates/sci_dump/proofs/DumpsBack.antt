-- A dump is read as the lines that were dumped, with zeros for nodes that are Invalid.
use Rattle.std.proofs.Common.{◌≡◌, ℕ, ◌+◌, ◌<◌, ◌≤◌, ◌^◌, true, List, [], ◌∷◌, ◌++◌, length, map, All, Option, Some, None, Result, Ok, refl, sym, ap, ◌∙◌, subst, arith, suc, codes, inl, inr, append_assoc}
use Rattle.std.proofs.lemmas.Bool.{cases_Bool}
use Rattle.sci_words.specs.declared.layouts.Layout.{Layout}
use Rattle.sci_words.specs.declared.tags.Tag.{Tag}
use Rattle.sci_words.specs.Layout.{no_link}
use Rattle.sci_words.specs.Tag.{is_invalid, tag_well_formed, tag_links_below}
use Rattle.sci_core.specs.declared.lines.Line.{Line}
use Rattle.sci_core.specs.Closed.{ClosedLine}
use Rattle.sci_core.specs.State.{invalid, blank}
use Rattle.sci_dump.specs.declared.refusals.DumpRefusal.{DumpRefusal}
use Rattle.sci_dump.specs.Dumps.{DumpLines}
use Rattle.sci_dump.specs.ReadBack.{IsContent, IsLineOf, CanBeDumped, contents_read, line_read, dump_read}
use Rattle.sci_dump.specs.Reading.{◌>>>◌, Gives, on_line, behind, memory_at, node_at, entry_at, entries_at, closed_at, lines_at, ended, end_at, head_at, dump_of}
use Rattle.sci_dump.specs.Text.{memory_text, tag_text, node_text, nodes_text, closed_text, lines_text, head_text, dump_text}
use Rattle.sci_dump.proofs.FieldsBack.{behind_own}
use Rattle.sci_dump.proofs.WordsBack.{only_invalid}
use Rattle.sci_dump.proofs.RowsBack.{memory_own, other_row, entry_own, entry_none, head_own, small_count}

module _ (layout : Layout) where
  then_ok : {A B : Type 0} (r : Result A DumpRefusal) (f : A → Result B DumpRefusal) (x : A) (y : Result B DumpRefusal) → r ≡ Ok x → f x ≡ y → (r >>> f) ≡ y
  then_ok r f x y is next = rw is next

  line_is : {A : Type 0} (n : ℕ) (r : Option A) (x : A) → r ≡ Some x → on_line n r ≡ Ok x
  line_is n r x is = rw is refl

  -- a text that begins with no row of a node
  abbrev NoRow : List ℕ → Type 0
  NoRow text = (number node : ℕ) → node_at number node text ≡ None

  -- no row of a node stands among the rows of later ones
  no_row : (number node from : ℕ) (tags : List Tag) (lines : List Line) (rest : List ℕ) → number < 2 ^ 64 → node < from → from + length tags < 2 ^ 64 → NoRow rest → node_at number node (nodes_text layout number from tags lines ++ rest) ≡ None
  unfolding nodes_text node_text
  no_row number node from [] lines rest small before few none = none number node
  no_row number node from (t ∷ tags) [] rest small before few none = none number node
  no_row number node from (t ∷ tags) (l ∷ lines) rest small before few none = elim (cases_Bool (is_invalid t.kind)) [
    | inl it ↦ rw it (no_row number node (from + 1) tags lines rest small (omega (arith, before)) (omega (arith, few)) none)
    | inr other ↦
        let more : List ℕ = nodes_text layout number (from + 1) tags lines in
        rw other (ap (node_at number node) (append_assoc (tag_text layout number from t l) more rest) ∙ other_row layout number node from t l (more ++ rest) small (omega (arith, few)) (omega (arith, before)))
  ]

  nodes_own : (number node n : ℕ) (tags : List Tag) (lines : List Line) (rest : List ℕ) → number < 2 ^ 64 → node + length tags < 2 ^ 64 → length lines ≡ length tags
      → All (λ t. tag_well_formed t ≡ true) tags → All (λ t. tag_links_below (no_link layout) t ≡ true) tags → All IsContent lines → NoRow rest
      → (m : ℕ) × (entries_at layout number node (length tags) n (nodes_text layout number node tags lines ++ rest) ≡ Ok (tags, contents_read tags lines, m, rest))
  unfolding entries_at nodes_text node_text contents_read
  nodes_own number node n [] lines rest small few same formed links are none = (n, refl)
  nodes_own number node n (t ∷ tags) [] rest small few same formed links are none = absurd (omega (arith, same))
  nodes_own number node n (t ∷ tags) (l ∷ lines) rest small few same formed links are none =
      let others_formed : All (λ t. tag_well_formed t ≡ true) tags = λ i d lt. formed (suc i) d (omega (arith, lt)) in
      let others_links : All (λ t. tag_links_below (no_link layout) t ≡ true) tags = λ i d lt. links (suc i) d (omega (arith, lt)) in
      let others_are : All IsContent lines = λ i d lt. are (suc i) d (omega (arith, lt)) in
      let long : length lines ≡ length tags = omega (arith, same) in
      let more : List ℕ = nodes_text layout number (node + 1) tags lines in
      elim (cases_Bool (is_invalid t.kind)) [
        | inl it ↦
            let (m, found) = nodes_own number (node + 1) n tags lines rest small (omega (arith, few)) long others_formed others_links others_are none in
            let is : t ≡ invalid = only_invalid t (formed 0 t (omega arith)) it in
            let here : on_line n (entry_at layout number node n (more ++ rest)) ≡ Ok (invalid, blank, n, more ++ rest) =
            line_is n (entry_at layout number node n (more ++ rest)) (invalid, blank, n, more ++ rest) (entry_none layout number node n (more ++ rest) (no_row number node (node + 1) tags lines rest small (omega arith) (omega (arith, few)) none)) in
            let all : Result (List Tag × List Line × ℕ × List ℕ) DumpRefusal = Ok (t ∷ tags, blank ∷ contents_read tags lines, m, rest) in (
              m,
              rw it
                  (then_ok (on_line n (entry_at layout number node n (more ++ rest))) _ (invalid, blank, n, more ++ rest) all here
                  (then_ok (entries_at layout number (node + 1) (length tags) n (more ++ rest)) _ (tags, contents_read tags lines, m, rest) all found (ap (λ (x : Tag). Ok (x ∷ tags, blank ∷ contents_read tags lines, m, rest)) (sym is)))),
            )
        | inr other ↦
            let (m, found) = nodes_own number (node + 1) (n + 1) tags lines rest small (omega (arith, few)) long others_formed others_links others_are none in
            let text : List ℕ = tag_text layout number node t l ++ (more ++ rest) in
            let here : on_line n (entry_at layout number node n text) ≡ Ok (t, l, n + 1, more ++ rest) =
            line_is n (entry_at layout number node n text) (t, l, n + 1, more ++ rest)
            (entry_own layout number node n t l (more ++ rest) small (omega (arith, few)) (formed 0 t (omega arith)) (links 0 t (omega arith)) other (are 0 l (omega arith))) in
            let all : Result (List Tag × List Line × ℕ × List ℕ) DumpRefusal = Ok (t ∷ tags, l ∷ contents_read tags lines, m, rest) in (
              m,
              rw other
                  (ap (entries_at layout number node (length (t ∷ tags)) n) (append_assoc (tag_text layout number node t l) more rest)
                  ∙ then_ok (on_line n (entry_at layout number node n text)) _ (t, l, n + 1, more ++ rest) all here
                  (then_ok (entries_at layout number (node + 1) (length tags) (n + 1) (more ++ rest)) _ (tags, contents_read tags lines, m, rest) all found refl)),
            )
      ]

  closed_own : (number nodes n : ℕ) (c : ClosedLine) (rest : List ℕ) → number < 2 ^ 64 → nodes < 2 ^ 64 → IsLineOf layout nodes c → NoRow rest → (m : ℕ) × (closed_at layout number nodes n (closed_text layout number c ++ rest) ≡ Ok (line_read c, m, rest))
  unfolding closed_at closed_text
  closed_own number nodes n c rest small few is none =
      let rows : List ℕ = nodes_text layout number 0 c.tags c.lines in
      let (m, found) = nodes_own number 0 (n + 1) c.tags c.lines rest small (omega (arith, few, is.tags)) is.closed.lines is.closed.tags is.links is.contents none in
      let counted : entries_at layout number 0 nodes (n + 1) (rows ++ rest) ≡ Ok (c.tags, contents_read c.tags c.lines, m, rest) =
      subst (λ (k : ℕ). entries_at layout number 0 k (n + 1) (rows ++ rest) ≡ Ok (c.tags, contents_read c.tags c.lines, m, rest)) is.tags found in
      let text : List ℕ = memory_text layout number c.mem c.memory ++ (rows ++ rest) in
      let home : on_line n (memory_at layout number text) ≡ Ok (c.mem, c.memory, rows ++ rest) =
      line_is n (memory_at layout number text) (c.mem, c.memory, rows ++ rest) (memory_own layout number c.mem c.memory (rows ++ rest) small is.closed.mem is.head is.memory) in (
        m,
        ap (closed_at layout number nodes n) (append_assoc (memory_text layout number c.mem c.memory) rows rest)
            ∙ then_ok (on_line n (memory_at layout number text)) _ (c.mem, c.memory, rows ++ rest) (Ok (line_read c, m, rest)) home
            (then_ok (entries_at layout number 0 nodes (n + 1) (rows ++ rest)) _ (c.tags, contents_read c.tags c.lines, m, rest) (Ok (line_read c, m, rest)) counted refl),
      )

  line_no_row : (number : ℕ) (c : ClosedLine) (rest : List ℕ) → NoRow (closed_text layout number c ++ rest)
  unfolding closed_text memory_text node_at behind
  line_no_row number c rest = λ other node. refl

  end_no_row : NoRow (codes "end\n")
  unfolding node_at behind
  end_no_row = λ other node. refl

  lines_no_row : (number : ℕ) (cs : List ClosedLine) (rest : List ℕ) → NoRow rest → NoRow (lines_text layout number cs ++ rest)
  unfolding lines_text
  lines_no_row number [] rest none = none
  lines_no_row number (c ∷ cs) rest none =
      subst NoRow (sym (append_assoc (closed_text layout number c) (lines_text layout (number + 1) cs) rest)) (line_no_row number c (lines_text layout (number + 1) cs ++ rest))

  lines_own : (number nodes n : ℕ) (cs : List ClosedLine) (rest : List ℕ) → number + length cs ≤ 1024 → nodes < 2 ^ 64 → All (IsLineOf layout nodes) cs → NoRow rest
      → (m : ℕ) × (lines_at layout number (length cs) nodes n (lines_text layout number cs ++ rest) ≡ Ok (map line_read cs, m, rest))
  unfolding lines_at lines_text
  lines_own number nodes n [] rest small few are none = (n, refl)
  lines_own number nodes n (c ∷ cs) rest small few are none =
      let others : All (IsLineOf layout nodes) cs = λ i d lt. are (suc i) d (omega (arith, lt)) in
      let more : List ℕ = lines_text layout (number + 1) cs in
      let (k, first) = closed_own number nodes n c (more ++ rest) (omega (arith, small)) few (are 0 c (omega arith)) (lines_no_row (number + 1) cs rest none) in
      let (m, found) = lines_own (number + 1) nodes k cs rest (omega (arith, small)) few others none in
      let all : Result (List ClosedLine × ℕ × List ℕ) DumpRefusal = Ok (line_read c ∷ map line_read cs, m, rest) in (
        m,
        ap (lines_at layout number (length (c ∷ cs)) nodes n) (append_assoc (closed_text layout number c) more rest)
            ∙ then_ok (closed_at layout number nodes n (closed_text layout number c ++ (more ++ rest))) _ (line_read c, k, more ++ rest) all first
            (then_ok (lines_at layout (number + 1) (length cs) nodes k (more ++ rest)) _ (map line_read cs, m, rest) all found refl),
      )

  -- a dump is read
  pub dump_own : (nodes : ℕ) (cs : List ClosedLine) → CanBeDumped layout nodes cs → dump_of (dump_text layout nodes cs) ≡ Ok (dump_read nodes cs)
  unfolding dump_of dump_text end_at
  dump_own nodes cs can =
      let lines : List ℕ = lines_text layout 0 cs in
      let (m, found) = lines_own 0 nodes 2 cs (codes "end\n") (omega (arith, can.lines.1)) (small_count layout nodes can.few.1) can.each end_no_row in
      let text : List ℕ = head_text layout nodes (length cs) ++ (lines ++ codes "end\n") in
      let head : on_line 1 (head_at text) ≡ Ok (layout, nodes, length cs, lines ++ codes "end\n") =
      line_is 1 (head_at text) (layout, nodes, length cs, lines ++ codes "end\n") (head_own layout nodes (length cs) (lines ++ codes "end\n") can.few.0 can.few.1 can.lines.0 can.lines.1) in
      let over : on_line m (behind (codes "end\n") (codes "end\n")) ≡ Ok [] = line_is m (behind (codes "end\n") (codes "end\n")) [] (behind_own (codes "end\n") []) in
      let ends : end_at m (codes "end\n") ≡ Ok tt = then_ok (on_line m (behind (codes "end\n") (codes "end\n"))) (ended m) [] (Ok tt) over refl in
      let all : Result DumpLines DumpRefusal = Ok (dump_read nodes cs) in
      ap dump_of (append_assoc (head_text layout nodes (length cs)) lines (codes "end\n"))
      ∙ then_ok (on_line 1 (head_at text)) _ (layout, nodes, length cs, lines ++ codes "end\n") all head
      (then_ok (lines_at layout 0 (length cs) nodes 2 (lines ++ codes "end\n")) _ (map line_read cs, m, codes "end\n") all found (then_ok (end_at m (codes "end\n")) _ tt all ends refl))

  pub given_back : (r : Result DumpLines DumpRefusal) (text : List ℕ) (nodes : ℕ) (cs : List ClosedLine) → Gives (λ d. d) r (dump_of text) → CanBeDumped layout nodes cs → text ≡ dump_text layout nodes cs → Gives (λ d. d) r (Ok (dump_read nodes cs))
  given_back r text nodes cs h can is = subst (Gives (λ d. d) r) (ap dump_of is ∙ dump_own nodes cs can) h
