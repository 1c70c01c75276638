-- Reading node by node, and line by line.
use Rattle.std.proofs.Common.{◌≡◌, ℕ, suc, ◌+◌, List, [], ◌∷◌, ◌++◌, Some, None, Result, Ok, Err, refl, sym, ap, ◌∙◌, append_assoc}
use Rattle.std.proofs.lemmas.List.{append-nil}
use Rattle.sci_words.specs.declared.layouts.Layout.{Layout}
use Rattle.sci_words.specs.declared.tags.Tag.{Tag}
use Rattle.sci_core.specs.declared.lines.Line.{Line}
use Rattle.sci_core.specs.Closed.{ClosedLine}
use Rattle.sci_dump.specs.declared.refusals.DumpRefusal.{DumpRefusal}
use Rattle.sci_dump.specs.declared.refusals.DumpRefusal.TheVariants.{OutOfMemory, DumpFault}
use Rattle.sci_dump.specs.Reading.{◌>>>◌, Fails, entry_at, entries_at, closed_at, lines_at}

module _ (layout : Layout) where
  -- what is read behind these nodes
  abbrev pub Nodes : Type 0
  Nodes = Result (List Tag × List Line × ℕ × List ℕ) DumpRefusal

  abbrev pub with_nodes : List Tag → List Line → Nodes → Nodes
  with_nodes tags lines read = read >>> λ more. Ok (tags ++ more.0, lines ++ more.1, more.2, more.3)

  no_nodes : (read : Nodes) → with_nodes [] [] read ≡ read
  no_nodes (Ok more) = refl
  no_nodes (Err e) = refl

  pub nodes_begin : (number k nodes n : ℕ) (text : List ℕ) → k ≡ nodes → with_nodes [] [] (entries_at layout number 0 k n text) ≡ entries_at layout number 0 nodes n text
  nodes_begin number k nodes n text all = no_nodes (entries_at layout number 0 k n text) ∙ ap (λ j. entries_at layout number 0 j n text) all

  regroup_nodes : (tags : List Tag) (lines : List Line) (t : Tag) (l : Line) (read : Nodes)
      → with_nodes tags lines (read >>> λ more. Ok (t ∷ more.0, l ∷ more.1, more.2, more.3)) ≡ with_nodes (tags ++ t ∷ []) (lines ++ l ∷ []) read
  regroup_nodes tags lines t l (Ok more) = rw (append_assoc tags (t ∷ []) more.0, append_assoc lines (l ∷ []) more.1) refl
  regroup_nodes tags lines t l (Err e) = refl

  pub node_more : (tags : List Tag) (lines : List Line) (number node k j n : ℕ) (text : List ℕ) (entry : Tag × Line × ℕ × List ℕ) (total : Nodes)
      → k ≡ suc j → entry_at layout number node n text ≡ Some entry
      → with_nodes tags lines (entries_at layout number node k n text) ≡ total
      → with_nodes (tags ++ entry.0 ∷ []) (lines ++ entry.1 ∷ []) (entries_at layout number (node + 1) j entry.2 entry.3) ≡ total
  unfolding entries_at
  node_more tags lines number node k j n text entry total count h so_far =
      let one : with_nodes tags lines (entries_at layout number node (suc j) n text) ≡ with_nodes (tags ++ entry.0 ∷ []) (lines ++ entry.1 ∷ []) (entries_at layout number (node + 1) j entry.2 entry.3) =
      rw h (regroup_nodes tags lines entry.0 entry.1 (entries_at layout number (node + 1) j entry.2 entry.3)) in
      sym one ∙ (rw count at so_far)

  pub node_fault : (tags : List Tag) (lines : List Line) (number node k j n : ℕ) (text : List ℕ) (total : Nodes)
      → k ≡ suc j → entry_at layout number node n text ≡ None
      → with_nodes tags lines (entries_at layout number node k n text) ≡ total → total ≡ Err (DumpFault n)
  unfolding entries_at
  node_fault tags lines number node k j n text total count h so_far =
      let one : with_nodes tags lines (entries_at layout number node (suc j) n text) ≡ Err (DumpFault n) = rw h refl in
      sym (rw count at so_far) ∙ one

  pub nodes_done : (tags : List Tag) (lines : List Line) (number node k n : ℕ) (text : List ℕ) (total : Nodes)
      → k ≡ 0 → with_nodes tags lines (entries_at layout number node k n text) ≡ total → total ≡ Ok (tags, lines, n, text)
  unfolding entries_at
  nodes_done tags lines number node k n text total count so_far =
      let one : with_nodes tags lines (entries_at layout number node 0 n text) ≡ Ok (tags, lines, n, text) = rw (append-nil tags, append-nil lines) refl in
      sym (rw count at so_far) ∙ one

  -- what is read behind these lines
  abbrev pub Lines : Type 0
  Lines = Result (List ClosedLine × ℕ × List ℕ) DumpRefusal

  abbrev pub with_lines : List ClosedLine → Lines → Lines
  with_lines lines read = read >>> λ more. Ok (lines ++ more.0, more.1, more.2)

  pub no_lines : (read : Lines) → with_lines [] read ≡ read
  no_lines (Ok more) = refl
  no_lines (Err e) = refl

  pub lines_begin : (k count nodes : ℕ) (text : List ℕ) → k ≡ count → with_lines [] (lines_at layout 0 k nodes 2 text) ≡ lines_at layout 0 count nodes 2 text
  lines_begin k count nodes text all = no_lines (lines_at layout 0 k nodes 2 text) ∙ ap (λ j. lines_at layout 0 j nodes 2 text) all

  regroup_lines : (lines : List ClosedLine) (c : ClosedLine) (read : Lines) → with_lines lines (read >>> λ more. Ok (c ∷ more.0, more.1, more.2)) ≡ with_lines (lines ++ c ∷ []) read
  regroup_lines lines c (Ok more) = rw (append_assoc lines (c ∷ []) more.0) refl
  regroup_lines lines c (Err e) = refl

  pub line_more : (lines : List ClosedLine) (number k j nodes n : ℕ) (text : List ℕ) (found : ClosedLine × ℕ × List ℕ) (total : Lines)
      → k ≡ suc j → closed_at layout number nodes n text ≡ Ok found
      → with_lines lines (lines_at layout number k nodes n text) ≡ total
      → with_lines (lines ++ found.0 ∷ []) (lines_at layout (number + 1) j nodes found.1 found.2) ≡ total
  unfolding lines_at
  line_more lines number k j nodes n text found total count h so_far =
      let one : with_lines lines (lines_at layout number (suc j) nodes n text) ≡ with_lines (lines ++ found.0 ∷ []) (lines_at layout (number + 1) j nodes found.1 found.2) =
      rw h (regroup_lines lines found.0 (lines_at layout (number + 1) j nodes found.1 found.2)) in
      sym one ∙ (rw count at so_far)

  through : {A B : Type 0} (e : DumpRefusal) (read : Result A DumpRefusal) (total : Result B DumpRefusal) → Fails e read → (read ≡ Err e → total ≡ Err e) → Fails e total
  through OutOfMemory read total h f = tt
  through (DumpFault n) read total h f = f h

  pub line_fault : (e : DumpRefusal) (lines : List ClosedLine) (number k j nodes n : ℕ) (text : List ℕ) (total : Lines)
      → k ≡ suc j → Fails e (closed_at layout number nodes n text)
      → with_lines lines (lines_at layout number k nodes n text) ≡ total → Fails e total
  unfolding lines_at
  line_fault e lines number k j nodes n text total count h so_far =
      through e (closed_at layout number nodes n text) total h
      (λ is. let one : with_lines lines (lines_at layout number (suc j) nodes n text) ≡ Err e = rw is refl in sym (rw count at so_far) ∙ one)

  pub lines_done : (lines : List ClosedLine) (number k nodes n : ℕ) (text : List ℕ) (total : Lines)
      → k ≡ 0 → with_lines lines (lines_at layout number k nodes n text) ≡ total → total ≡ Ok (lines, n, text)
  unfolding lines_at
  lines_done lines number k nodes n text total count so_far =
      let one : with_lines lines (lines_at layout number 0 nodes n text) ≡ Ok (lines, n, text) = rw (append-nil lines) refl in
      sym (rw count at so_far) ∙ one
