-- A text that is read is the dump of what was read.
use Rattle.std.proofs.Common.{◌≡◌, ℕ, ◌+◌, List, [], ◌∷◌, ◌++◌, length, Result, Ok, Err, IfOk, refl, sym, ap, ◌∙◌, subst, zero, suc, codes, append_assoc}
use Rattle.sci_words.specs.declared.layouts.Layout.{Layout}
use Rattle.sci_words.specs.declared.tags.Tag.{Tag}
use Rattle.sci_core.specs.declared.lines.Line.{Line}
use Rattle.sci_core.specs.Closed.{ClosedLine}
use Rattle.sci_dump.specs.declared.refusals.DumpRefusal.{DumpRefusal}
use Rattle.sci_dump.specs.Dumps.{DumpLines}
use Rattle.sci_dump.specs.Reading.{Gives, on_line, behind, memory_at, entry_at, entries_at, closed_at, lines_at, ended, end_at, head_at, dump_of}
use Rattle.sci_dump.specs.Text.{memory_text, node_text, nodes_text, closed_text, lines_text, head_text, dump_text}
use Rattle.sci_dump.proofs.Inverting.{both_ok, ok_of, not_err, line_ok, behind_text}
use Rattle.sci_dump.proofs.RowTexts.{memory_read, entry_read, head_read}

module _ (layout : Layout) where
  nodes_read : (number node k n : ℕ) (text : List ℕ) (x : List Tag × List Line × ℕ × List ℕ) → entries_at layout number node k n text ≡ Ok x → text ≡ nodes_text layout number node x.0 x.1 ++ x.3
  unfolding entries_at nodes_text
  nodes_read number node zero n text x h =
      subst (λ (y : List Tag × List Line × ℕ × List ℕ). text ≡ nodes_text layout number node y.0 y.1 ++ y.3) (ok_of ([], [], n, text) x h) refl
  nodes_read number node (suc k) n text x h =
      let (entry, h1, k1) = both_ok (on_line n (entry_at layout number node n text)) _ x h in
      let (more, h2, k2) = both_ok (entries_at layout number (node + 1) k entry.2 entry.3) _ x k1 in
      let first = entry_read layout number node n text entry (line_ok n (entry_at layout number node n text) entry h1) in
      let others = nodes_read number (node + 1) k entry.2 entry.3 more h2 in
      let whole : text ≡ (node_text layout number node entry.0 entry.1 ++ nodes_text layout number (node + 1) more.0 more.1) ++ more.3 =
      first ∙ (ap (λ (xs : List ℕ). node_text layout number node entry.0 entry.1 ++ xs) others ∙ sym (append_assoc (node_text layout number node entry.0 entry.1) (nodes_text layout number (node + 1) more.0 more.1) more.3)) in
      subst (λ (y : List Tag × List Line × ℕ × List ℕ). text ≡ nodes_text layout number node y.0 y.1 ++ y.3) (ok_of (entry.0 ∷ more.0, entry.1 ∷ more.1, more.2, more.3) x k2) whole

  closed_read : (number nodes n : ℕ) (text : List ℕ) (x : ClosedLine × ℕ × List ℕ) → closed_at layout number nodes n text ≡ Ok x → text ≡ closed_text layout number x.0 ++ x.2
  unfolding closed_at closed_text
  closed_read number nodes n text x h =
      let (home, h1, k1) = both_ok (on_line n (memory_at layout number text)) _ x h in
      let (found, h2, k2) = both_ok (entries_at layout number 0 nodes (n + 1) home.2) _ x k1 in
      let first = memory_read layout number text home.2 home.0 home.1 (line_ok n (memory_at layout number text) home h1) in
      let others = nodes_read number 0 nodes (n + 1) home.2 found h2 in
      let made : ClosedLine = record { mem = home.0; memory = home.1; tags = found.0; lines = found.1 } in
      let whole : text ≡ closed_text layout number made ++ found.3 =
      first ∙ (ap (λ (xs : List ℕ). memory_text layout number home.0 home.1 ++ xs) others ∙ sym (append_assoc (memory_text layout number home.0 home.1) (nodes_text layout number 0 found.0 found.1) found.3)) in
      subst (λ (y : ClosedLine × ℕ × List ℕ). text ≡ closed_text layout number y.0 ++ y.2) (ok_of (made, found.2, found.3) x k2) whole

  lines_read : (number k nodes n : ℕ) (text : List ℕ) (x : List ClosedLine × ℕ × List ℕ) → lines_at layout number k nodes n text ≡ Ok x → (text ≡ lines_text layout number x.0 ++ x.2) × (length x.0 ≡ k)
  unfolding lines_at lines_text
  lines_read number zero nodes n text x h =
      subst (λ (y : List ClosedLine × ℕ × List ℕ). (text ≡ lines_text layout number y.0 ++ y.2) × (length y.0 ≡ 0)) (ok_of ([], n, text) x h) (refl, refl)
  lines_read number (suc k) nodes n text x h =
      let (line, h1, k1) = both_ok (closed_at layout number nodes n text) _ x h in
      let (more, h2, k2) = both_ok (lines_at layout (number + 1) k nodes line.1 line.2) _ x k1 in
      let first = closed_read number nodes n text line h1 in
      let (others, long) = lines_read (number + 1) k nodes line.1 line.2 more h2 in
      let whole : text ≡ (closed_text layout number line.0 ++ lines_text layout (number + 1) more.0) ++ more.2 =
      first ∙ (ap (λ (xs : List ℕ). closed_text layout number line.0 ++ xs) others ∙ sym (append_assoc (closed_text layout number line.0) (lines_text layout (number + 1) more.0) more.2)) in
      subst (λ (y : List ClosedLine × ℕ × List ℕ). (text ≡ lines_text layout number y.0 ++ y.2) × (length y.0 ≡ suc k)) (ok_of (line.0 ∷ more.0, more.1, more.2) x k2) (whole, ap suc long)

  no_rest : (n : ℕ) (rest : List ℕ) (u : Unit {0}) → ended n rest ≡ Ok u → rest ≡ []
  no_rest n [] u h = refl
  no_rest n (b ∷ bs) u h = absurd (not_err _ u h)

  end_read : (n : ℕ) (text : List ℕ) (u : Unit {0}) → end_at n text ≡ Ok u → text ≡ codes "end\n"
  unfolding end_at
  end_read n text u h =
      let (rest, h1, k1) = both_ok (on_line n (behind (codes "end\n") text)) (ended n) u h in
      behind_text (codes "end\n") text rest (line_ok n (behind (codes "end\n") text) rest h1) ∙ ap (λ (xs : List ℕ). codes "end\n" ++ xs) (no_rest n rest u k1)

-- a text that is read is the dump of what was read, in the layout that it begins with
pub dump_read : (text : List ℕ) (d : DumpLines) → dump_of text ≡ Ok d → (l : Layout) × (text ≡ dump_text l d.nodes d.lines)
unfolding dump_of dump_text
dump_read text d h =
    let (head, h1, k1) = both_ok (on_line 1 (head_at text)) _ d h in
    let (found, h2, k2) = both_ok (lines_at head.0 0 head.2 head.1 2 head.3) _ d k1 in
    let (over, h3, k3) = both_ok (end_at found.1 found.2) _ d k2 in
    let l = head.0 in
    let first = head_read text head.3 l head.1 head.2 (line_ok 1 (head_at text) head h1) in
    let (others, long) = lines_read l 0 head.2 head.1 2 head.3 found h2 in
    let last = end_read l found.1 found.2 over h3 in
    let made : DumpLines = record { nodes = head.1; lines = found.0 } in
    let whole : text ≡ head_text l head.1 (length found.0) ++ lines_text l 0 found.0 ++ codes "end\n" =
    first ∙ (ap (λ (xs : List ℕ). head_text l head.1 head.2 ++ xs) (others ∙ ap (λ (xs : List ℕ). lines_text l 0 found.0 ++ xs) last)
    ∙ (sym (append_assoc (head_text l head.1 head.2) (lines_text l 0 found.0) (codes "end\n"))
    ∙ ap (λ (k : ℕ). head_text l head.1 k ++ lines_text l 0 found.0 ++ codes "end\n") (sym long))) in
    (l, subst (λ (y : DumpLines). text ≡ head_text l y.nodes (length y.lines) ++ lines_text l 0 y.lines ++ codes "end\n") (ok_of made d k3) whole)

pub given : (r : Result DumpLines DumpRefusal) (text : List ℕ) → Gives (λ d. d) r (dump_of text) → IfOk r (λ d. (l : Layout) × (text ≡ dump_text l d.nodes d.lines))
given (Ok d) text h = dump_read text d h
given (Err e) text h = tt
