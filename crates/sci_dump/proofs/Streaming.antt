-- A dump is read line of text by line of text as the whole of its text.
use Rattle.std.proofs.Common.{◌≡◌, ◌⊎◌, ℕ, zero, suc, ◌+◌, ◌-◌, ◌<◌, ◌≤◌, ◌==◌, true, false, List, [], ◌∷◌, ◌++◌, length, Option, Some, None, IfSome, Result, Ok, Err, refl, sym, ap, subst, ◌∙◌, arith, codes, append_assoc, append-nil, length-append, take, drop, slice_index, slice_index_or, inl, inr, eqb-true, eq-eqb, decimal, length-take, take-take, take-append-drop}
use Rattle.std.specs.Io.BufRead.{take_through}
use Rattle.std.specs.Io.KnownBytes.{IsAtEnd}
use Rattle.std.proofs.BufReadLemmas.{take_through-nil, take_through_nonempty}
use Rattle.std.proofs.lemmas.Bool.{cases_Bool}
use Rattle.std.proofs.lemmas.List.{length-take-le}
use Rattle.std.proofs.Math.Seq.{take-append-add, drop-append_seam, drop-length}
use Rattle.sci_words.specs.declared.layouts.Layout.{Layout}
use Rattle.sci_words.specs.declared.memory.Mem.{Mem}
use Rattle.sci_words.specs.declared.tags.Tag.{Tag}
use Rattle.sci_words.specs.Codes.{mem_code_in, tag_code_in}
use Rattle.sci_core.specs.declared.lines.Line.{Line}
use Rattle.sci_core.specs.State.{invalid, blank}
use Rattle.sci_core.specs.Closed.{ClosedLine}
use Rattle.sci_dump.specs.declared.refusals.DumpRefusal.{DumpRefusal}
use Rattle.sci_dump.specs.declared.refusals.DumpRefusal.TheVariants as refusals
use Rattle.sci_dump.specs.declared.streams.StreamFault.{StreamFault}
use Rattle.sci_dump.specs.declared.streams.StreamFault.TheVariants.{OutOfMemory, CannotRead, DumpFault}
use Rattle.sci_dump.specs.declared.dumps.DumpStream.{DumpStream}
use Rattle.sci_dump.specs.declared.places.DumpHead.{DumpHead}
use Rattle.sci_dump.specs.declared.places.DumpPlace.{DumpPlace}
use Rattle.sci_dump.specs.declared.places.DumpPlace.TheVariants as places
use Rattle.sci_dump.specs.declared.places.DumpRow.{DumpRow}
use Rattle.sci_dump.specs.Dumps.{DumpLines}
use Rattle.sci_dump.specs.Reading.{◌>>>◌, behind, memory_at, node_at, tag_at, found_on, entry_at, entries_at, head_at, closed_at, lines_at, ended, end_at, dump_of}
use Rattle.sci_dump.specs.Text.{hexadecimal, values_text, content_text, memory_text, head_text, layout_label}
use Rattle.sci_dump.specs.Streams.{from_line, first_row, IsHeadOf, IsRowBefore, StandsBefore, IsRowOf, Holds, HoldsRow, IsOutside, StopsAt, lines_before_fault_from, lines_before_fault, HasRead, StopsBehind}
use Rattle.sci_dump.proofs.Inverting.{both_ok, some_of, not_none, ok_of, behind_text}
use Rattle.sci_dump.proofs.RowsBack.{node_own}
use Rattle.sci_dump.proofs.TextLines.{through_front, through_few}
use Rattle.sci_dump.proofs.Widths.{memory_width, tag_width, node_width, head_width}
use Rattle.sci_dump.proofs.RowTexts.{memory_read, node_read, tag_read, tag_on_some, head_read}
use Rattle.sci_dump.proofs.FieldsBack.{whole_front}
use Rattle.sci_dump.proofs.Looping.{Lines, with_lines, no_lines}
use Rattle.sci_dump.proofs.Lines.{with_more, more_text, more_two, more_three, memory_ends, entry_ends, head_ends, end_ends}

-- no line feed stands in so many bytes
abbrev NoFeedWithin : ℕ → List ℕ → Type 0
NoFeedWithin k text = (u rest : List ℕ) → text ≡ u ++ 10 ∷ rest → k ≤ length u

no_feed : (k x : ℕ) (xs : List ℕ) → (x == 10) ≡ false → NoFeedWithin k xs → NoFeedWithin (suc k) (x ∷ xs)
no_feed k x xs other none [] rest e = absurd (let f : (x == 10) ≡ true = eq-eqb x 10 (ap (λ (zs : List ℕ). slice_index zs 0) e) in cc)
no_feed k x xs other none (z ∷ u) rest e = omega (arith, none u rest (ap (drop 1) e))

-- of a text's first bytes its first line ends with its first line feed, or is all of the text, or all of those
split : (k : ℕ) (text : List ℕ) → ((s : List ℕ) × (rest : List ℕ) × (take_through 10 (take k text) ≡ s ++ 10 ∷ []) × (text ≡ s ++ 10 ∷ rest))
    ⊎ ((take_through 10 (take k text) ≡ text) ⊎ ((take_through 10 (take k text) ≡ take k text) × (k ≤ length text) × NoFeedWithin k text))
split zero [] = inr (inl refl)
split zero (x ∷ xs) = inr (inr (refl, omega arith, λ u rest e. omega arith))
split (suc k) [] = inr (inl refl)
split (suc k) (x ∷ xs) = elim (cases_Bool (x == 10)) [
  | inl y ↦ let e : x ≡ 10 = eqb-true x 10 y in rw y (inl ([], xs, ap (λ (z : ℕ). z ∷ []) e, ap (λ (z : ℕ). z ∷ xs) e))
  | inr n ↦ rw n (elim (split k xs) [
    | inl s ↦ inl (x ∷ s.0, s.1, ap (λ (zs : List ℕ). x ∷ zs) s.2, ap (λ (zs : List ℕ). x ∷ zs) s.3)
    | inr t ↦ inr (elim t [
      | inl all ↦ inl (ap (λ (zs : List ℕ). x ∷ zs) all)
      | inr cut ↦ inr (ap (λ (zs : List ℕ). x ∷ zs) cut.0, omega (arith, cut.1), no_feed k x xs n cut.2)
    ])
  ])
]

-- nothing stands behind its line feed
through_last : (u rest text : List ℕ) → take_through 10 text ≡ u ++ 10 ∷ rest → rest ≡ []
through_last u rest [] e = absurd (omega (arith, ap length e, length-append u (10 ∷ rest)))
through_last [] rest (x ∷ xs) e = elim (cases_Bool (x == 10)) [
  | inl y ↦ let f = rw y at e in sym (ap (drop 1) f)
  | inr n ↦ absurd (let f = rw n at e in let g : x ≡ 10 = ap (λ (zs : List ℕ). slice_index zs 0) f in cc)
]
through_last (z ∷ u) rest (x ∷ xs) e = elim (cases_Bool (x == 10)) [
  | inl y ↦ absurd (let f = rw y at e in omega (arith, ap length f, length-append u (10 ∷ rest)))
  | inr n ↦ let f = rw n at e in through_last u rest xs (ap (drop 1) f)
]

-- so a row is all of its line
row_ended : (line text u rest : List ℕ) → line ≡ take_through 10 text → line ≡ u ++ 10 ∷ rest → line ≡ u ++ 10 ∷ []
row_ended line text u rest held e = e ∙ ap (λ (xs : List ℕ). u ++ 10 ∷ xs) (through_last u rest text (sym held ∙ e))

-- a line that ends within so many bytes is the same in all of the text
through_cut : (k : ℕ) (text u : List ℕ) → take_through 10 (take k text) ≡ u ++ 10 ∷ [] → take_through 10 text ≡ u ++ 10 ∷ []
through_cut zero text u e = absurd (omega (arith, ap length e, length-append u (10 ∷ [])))
through_cut (suc k) [] u e = e
through_cut (suc k) (x ∷ xs) u e = elim (cases_Bool (x == 10)) [
  | inl y ↦ let f = rw y at e in rw y f
  | inr n ↦ let f = rw n at e in rw n (further (take_through 10 (take k xs)) (take_through 10 xs) (λ v. through_cut k xs v) n u f)
]
  where
    further : (front rest : List ℕ) → ((v : List ℕ) → front ≡ v ++ 10 ∷ [] → rest ≡ v ++ 10 ∷ []) → (x == 10) ≡ false → (v : List ℕ) → x ∷ front ≡ v ++ 10 ∷ [] → x ∷ rest ≡ v ++ 10 ∷ []
    further front rest again n [] f = absurd (let is : (x == 10) ≡ true = eq-eqb x 10 (ap (λ (zs : List ℕ). slice_index zs 0) f) in cc)
    further front rest again n (z ∷ v) f =
        let same : x ≡ z = ap (λ (zs : List ℕ). slice_index zs 0) f in
        rw same (ap (λ (zs : List ℕ). z ∷ zs) (again v (ap (drop 1) f)))

-- where a line is held that ends, the next stands behind it
next_line : (n : ℕ) (text line u : List ℕ) → 1 ≤ n → line ≡ first_row (from_line n text) → line ≡ u ++ 10 ∷ [] → from_line (n + 1) text ≡ drop (length line) (from_line n text)
unfolding from_line
next_line zero text line u some held ended = absurd (omega (arith, some))
next_line (suc k) text line u some held ended =
    let whole : take_through 10 (from_line (suc k) text) ≡ line = through_cut 1024 (from_line (suc k) text) u (sym held ∙ ended) ∙ sym ended in
    let at : suc k + 1 ≡ suc (suc k) = omega arith in
    ap (λ (j : ℕ). from_line j text) at ∙ ap (λ (xs : List ℕ). drop (length xs) (from_line (suc k) text)) whole

with_nothing : {X : Type 0} (g : X → X) (o : Option X) → ((x : X) → g x ≡ x) → with_more g o ≡ o
with_nothing g (Some x) same = ap Some (same x)
with_nothing g None same = refl

-- what a part reads of the first line it reads of the text
line_reads : {X : Type 0} (add : List ℕ → X → X) (P : List ℕ → Option X) → ((m s : List ℕ) → P (s ++ 10 ∷ m) ≡ with_more (add m) (P (s ++ 10 ∷ []))) → ((x : X) → add [] x ≡ x)
    → ((text : List ℕ) → 1024 ≤ length text → NoFeedWithin 1024 text → P text ≡ with_more (add (drop 1024 text)) (P (take 1024 text)))
    → (text line : List ℕ) (r : Option X) → line ≡ take_through 10 (take 1024 text) → P line ≡ r → P text ≡ with_more (add (drop (length line) text)) r
line_reads {X} add P ends none cuts text line r held is =
    let here : P (take_through 10 (take 1024 text)) ≡ r = ap P (sym held) ∙ is in
    elim (split 1024 text) [
      | inl (s, rest, front, whole) ↦
          let left : drop (length line) text ≡ rest =
          ap (λ (xs : List ℕ). drop (length xs) text) (held ∙ front) ∙ ap (drop (length (s ++ 10 ∷ []))) (whole ∙ sym (append_assoc s (10 ∷ []) rest)) ∙ drop-append_seam (s ++ 10 ∷ []) rest in
          ap P whole ∙ ends rest s ∙ ap (λ (xs : List ℕ). with_more (add rest) (P xs)) (sym front) ∙ ap (with_more (add rest)) here ∙ ap (λ (xs : List ℕ). with_more (add xs) r) (sym left)
      | inr t ↦ elim t [
        | inl all ↦
            let left : drop (length line) text ≡ [] = ap (λ (xs : List ℕ). drop (length xs) text) (held ∙ all) ∙ drop-length text in
            ap P (sym all) ∙ here ∙ sym (with_nothing (add []) r none) ∙ ap (λ (xs : List ℕ). with_more (add xs) r) (sym left)
        | inr (front, long, feedless) ↦
            let left : drop (length line) text ≡ drop 1024 text = ap (λ (xs : List ℕ). drop (length xs) text) (held ∙ front) ∙ ap (λ (k : ℕ). drop k text) (length-take-le 1024 text long) in
            cuts text long feedless ∙ ap (λ (xs : List ℕ). with_more (add (drop 1024 text)) (P xs)) (sym front) ∙ ap (with_more (add (drop 1024 text))) here ∙ ap (λ (xs : List ℕ). with_more (add xs) r) (sym left)
      ]
    ]

is_none : {X : Type 0} (o : Option X) → ((x : X) → o ≡ Some x → ⊥) → o ≡ None
is_none (Some x) never = absurd (never x refl)
is_none None never = refl

-- in what is cut there is no line feed either
no_feed_cut : (text : List ℕ) → NoFeedWithin 1024 text → NoFeedWithin 1024 (take 1024 text)
no_feed_cut text feedless u rest e = feedless u (rest ++ drop 1024 text) (sym (take-append-drop 1024 text) ∙ ap (λ (xs : List ℕ). xs ++ drop 1024 text) e ∙ append_assoc u (10 ∷ rest) (drop 1024 text))

-- a row with a line feed in its first bytes isn't read where there is none
none_cut : {X : Type 0} (add : List ℕ → X → X) (P : List ℕ → Option X) (rest : X → List ℕ) → ((text : List ℕ) (x : X) → P text ≡ Some x → (u : List ℕ) × (text ≡ u ++ 10 ∷ rest x) × (length u < 1024))
    → (text : List ℕ) → 1024 ≤ length text → NoFeedWithin 1024 text → P text ≡ with_more (add (drop 1024 text)) (P (take 1024 text))
none_cut {X} add P rest within text long feedless =
    let whole : P text ≡ None = is_none (P text) (λ x h. let (u, e, few) = within text x h in omega (arith, few, feedless u (rest x) e)) in
    let cut : P (take 1024 text) ≡ None = is_none (P (take 1024 text)) (λ x h. let (u, e, few) = within (take 1024 text) x h in omega (arith, few, no_feed_cut text feedless u (rest x) e)) in
    whole ∙ ap (with_more (add (drop 1024 text))) (sym cut)

content_ended : (front text rest : List ℕ) (word : ℕ) (line : Line) → text ≡ front ++ (content_text word line ++ rest) → (u : List ℕ) × (text ≡ u ++ 10 ∷ rest)
content_ended front text rest word line e =
    let whole : front ++ (content_text word line ++ rest) ≡ (front ++ hexadecimal 16 word ++ values_text (line.stamp ∷ line.words)) ++ 10 ∷ rest = simp append_assoc in
    (front ++ hexadecimal 16 word ++ values_text (line.stamp ∷ line.words), e ∙ whole)

apart : (a b c d rest : List ℕ) → (a ++ b ++ c ++ d) ++ rest ≡ (a ++ b ++ c) ++ (d ++ rest)
apart a b c d rest = simp append_assoc

joined : (text line : List ℕ) → line ≡ take_through 10 (take 1024 text) → line ++ drop (length line) text ≡ text
joined text line held =
    let front : line ≡ take (length line) (take 1024 text) = held ∙ through_front (take 1024 text) ∙ ap (λ (xs : List ℕ). take (length xs) (take 1024 text)) (sym held) in
    let few : length line ≤ 1024 = omega (arith, ap length held, through_few (take 1024 text), length-take 1024 text) in
    ap (λ (xs : List ℕ). xs ++ drop (length line) text) (front ∙ take-take (length line) 1024 text few) ∙ take-append-drop (length line) text

-- the next line of text is held
next_holds : (had left : Option (List ℕ)) (line next text : List ℕ) → had ≡ Some (drop (length line) text) → IfSome had (Holds next left) → Holds next left (drop (length line) text)
next_holds had left line next text h took = subst (λ (o : Option (List ℕ)). IfSome o (Holds next left)) h took

-- the row behind one that ends is held
next_row : (text u : List ℕ) (row next : DumpRow) (had left : Option (List ℕ)) → HoldsRow text row had → row.text.items ≡ u ++ 10 ∷ [] → next.number ≡ row.number + 1
    → StandsBefore next.place next.number text → IfSome had (Holds next.text.items left) → HoldsRow text next left
next_row text u row next had left h ended count stands took =
    let here : from_line next.number text ≡ drop (length row.text.items) (from_line row.number text) =
    ap (λ (k : ℕ). from_line k text) count ∙ next_line row.number text row.text.items u h.0.0 h.0.2 ended in
    let holds : Holds next.text.items left (from_line next.number text) = subst (Holds next.text.items left) (sym here) (next_holds had left row.text.items next.text.items (from_line row.number text) h.1 took) in
    ((omega (arith, count), stands, holds.0), holds.1)

pub outside : {Y : Type 0} (text : List ℕ) (e : StreamFault) (read : Result Y DumpRefusal) → IsOutside e → StopsAt text e read
outside text OutOfMemory read h = tt
outside text CannotRead read h = tt
outside text (DumpFault row) read h = absurd h

-- a fault of a part is that of the whole
through : {A B : Type 0} (text : List ℕ) (e : StreamFault) (read : Result A DumpRefusal) (total : Result B DumpRefusal) → StopsAt text e read → ((n : ℕ) → read ≡ Err (refusals.DumpFault n) → total ≡ Err (refusals.DumpFault n)) → StopsAt text e total
through text OutOfMemory read total h f = tt
through text CannotRead read total h f = tt
through text (DumpFault row) read total h f = (f row.number h.0, h.1)

module _ (l : Layout) where
  more_two_none : {A B : Type 0} (x : A × B × List ℕ) → more_two [] x ≡ x
  more_two_none x = ap (λ (xs : List ℕ). (x.0, x.1, xs)) (append-nil x.2)

  memory_ended : (number : ℕ) (text : List ℕ) (x : Mem × Line × List ℕ) → memory_at l number text ≡ Some x → (u : List ℕ) × (text ≡ u ++ 10 ∷ x.2) × (length u < 1024)
  unfolding memory_text
  memory_ended number text x is =
      let (u, e) = content_ended (codes "line " ++ decimal number ++ codes " ") text x.2 (mem_code_in l x.0) x.1
      (memory_read l number text x.2 x.0 x.1 is ∙ apart (codes "line ") (decimal number) (codes " ") (content_text (mem_code_in l x.0) x.1) x.2) in
      (u, e, omega (arith, memory_width l number text x is, ap length e, length-append u (10 ∷ x.2)))

  memory_reads : (number : ℕ) (text line : List ℕ) (r : Option (Mem × Line × List ℕ)) → line ≡ take_through 10 (take 1024 text) → memory_at l number line ≡ r → memory_at l number text ≡ with_more (more_two (drop (length line) text)) r
  memory_reads number text line r held is =
      line_reads more_two (memory_at l number) (λ m s. memory_ends m l number s) more_two_none (none_cut more_two (memory_at l number) (λ x. x.2) (memory_ended number)) text line r held is

  pub memory_line : (number : ℕ) (text line rest : List ℕ) (m : Mem) (home : Line) → line ≡ take_through 10 (take 1024 text) → memory_at l number line ≡ Some (m, home, rest) → memory_at l number text ≡ Some (m, home, drop (length line) text)
  memory_line number text line rest m home held is =
      let (u, e, _) = memory_ended number line (m, home, rest) is in
      memory_reads number text line (Some (m, home, rest)) held is
      ∙ ap (λ (xs : List ℕ). Some (m, home, xs ++ drop (length line) text)) (through_last u rest (take 1024 text) (sym held ∙ e))

  -- a closed line that has no first line
  pub no_closed_line : (number nodes n : ℕ) (text line : List ℕ) → line ≡ take_through 10 (take 1024 text) → memory_at l number line ≡ None → closed_at l number nodes n text ≡ Err (refusals.DumpFault n)
  unfolding closed_at
  no_closed_line number nodes n text line held is =
      let none : memory_at l number text ≡ None = memory_reads number text line None held is in
      rw none refl

  -- the row of a closed line ends
  behind_row : (number : ℕ) (text : List ℕ) (row : DumpRow) (x : Mem × Line × List ℕ) → IsRowOf text row → memory_at l number row.text.items ≡ Some x → from_line (row.number + 1) text ≡ drop (length row.text.items) (from_line row.number text)
  behind_row number text row x held is =
      let (u, e, _) = memory_ended number row.text.items x is in
      next_line row.number text row.text.items u held.0 held.2 (row_ended row.text.items (take 1024 (from_line row.number text)) u x.2 held.2 e)

  -- the row behind the first of a closed line
  pub behind_memory : (head : DumpHead) (number : ℕ) (text : List ℕ) (x : Mem × Line × List ℕ) (row next : DumpRow) (had left : Option (List ℕ)) → head.layout ≡ l → IsHeadOf head text → HoldsRow text row had
      → memory_at l number row.text.items ≡ Some x → next.number ≡ row.number + 1 → next.place ≡ places.Line head number 0 → IfSome had (Holds next.text.items left) → HoldsRow text next left
  behind_memory head number text x row next had left layout begins h is count placed took =
      let (u, e, _) = memory_ended number row.text.items x is in
      let ended = row_ended row.text.items (take 1024 (from_line row.number text)) u x.2 h.0.2 e in
      let there = memory_line number (from_line row.number text) row.text.items x.2 x.0 x.1 h.0.2 is in
      let home : Mem × Line × List ℕ = (x.0, x.1, drop (length row.text.items) (from_line row.number text)) in
      let at : row.number ≡ next.number - 1 = omega (arith, count) in
      let before : IsRowBefore head number 0 (from_line (next.number - 1) text) = subst (λ (k : ℕ). IsRowBefore head number 0 (from_line k text)) at (inl (refl, home, ap (λ (k : Layout). memory_at k number (from_line row.number text)) layout ∙ there)) in
      next_row text u row next had left h ended count (subst (λ (p : DumpPlace). StandsBefore p next.number text) (sym placed) (begins, before)) took

  -- one whose nodes are at fault
  pub closed_stops : (e : StreamFault) (number nodes : ℕ) (text rest : List ℕ) (row : DumpRow) (m : Mem) (home : Line) → IsRowOf text row → memory_at l number row.text.items ≡ Some (m, home, rest)
      → StopsAt text e (entries_at l number 0 nodes (row.number + 1) (from_line (row.number + 1) text)) → StopsAt text e (closed_at l number nodes row.number (from_line row.number text))
  unfolding closed_at
  closed_stops e number nodes text rest row m home held is stops =
      through text e (entries_at l number 0 nodes (row.number + 1) (from_line (row.number + 1) text)) (closed_at l number nodes row.number (from_line row.number text)) stops
      (λ k at. rw (memory_line number (from_line row.number text) row.text.items rest m home held.2 is) (rw (sym (behind_row number text row (m, home, rest) held is), at) refl))

  pub closed_all : (number nodes k : ℕ) (text rest left : List ℕ) (row : DumpRow) (m : Mem) (home : Line) (tags : List Tag) (lines : List Line) → IsRowOf text row → memory_at l number row.text.items ≡ Some (m, home, rest)
      → entries_at l number 0 nodes (row.number + 1) (from_line (row.number + 1) text) ≡ Ok (tags, lines, k, left)
      → closed_at l number nodes row.number (from_line row.number text) ≡ Ok (record { mem = m; memory = home; tags = tags; lines = lines }, k, left)
  unfolding closed_at
  closed_all number nodes k text rest left row m home tags lines held is all =
      rw (memory_line number (from_line row.number text) row.text.items rest m home held.2 is) (rw (sym (behind_row number text row (m, home, rest) held is), all) refl)

  -- a node's row is all of the first line, or none of it
  found_rest : (number node n : ℕ) (text line : List ℕ) (r : Option (List ℕ)) (x : Tag × Line × ℕ × List ℕ) → line ≡ take_through 10 (take 1024 text) → node_at number node line ≡ r → found_on l n line r ≡ Some x
      → ((x.2 ≡ n) × (x.3 ≡ line)) ⊎ ((x.2 ≡ n + 1) × (x.3 ≡ []) × (u : List ℕ) × (line ≡ u ++ 10 ∷ []))
  found_rest number node n text line None x held is h =
      let same : (invalid, blank, n, line) ≡ x = some_of (invalid, blank, n, line) x h in
      inl (ap (λ (p : Tag × Line × ℕ × List ℕ). p.2) (sym same), ap (λ (p : Tag × Line × ℕ × List ℕ). p.3) (sym same))
  found_rest number node n text line (Some row) x held is h =
      let front : List ℕ = codes "tag " ++ decimal number ++ codes " " ++ decimal node ++ codes " " in
      let on = tag_on_some l n (tag_at l row) x h in
      let read = tag_read l row x.3 x.0 x.1 on.0 in
      let (u, e) = content_ended front line x.3 (tag_code_in l x.0) x.1 (node_read l number node line row is ∙ ap (λ (xs : List ℕ). front ++ xs) read.1) in
      inr (on.1, through_last u x.3 (take 1024 text) (sym held ∙ e), u, row_ended line (take 1024 text) u x.3 held e)

  entry_rest : (number node n : ℕ) (text line : List ℕ) (x : Tag × Line × ℕ × List ℕ) → line ≡ take_through 10 (take 1024 text) → entry_at l number node n line ≡ Some x
      → ((x.2 ≡ n) × (x.3 ≡ line)) ⊎ ((x.2 ≡ n + 1) × (x.3 ≡ []) × (u : List ℕ) × (line ≡ u ++ 10 ∷ []))
  unfolding entry_at
  entry_rest number node n text line x held is = found_rest number node n text line (node_at number node line) x held refl is

  -- where the number goes on, a row of this node is there
  found_node : (number node n : ℕ) (text : List ℕ) (r : Option (List ℕ)) (x : Tag × Line × ℕ × List ℕ) → node_at number node text ≡ r → found_on l n text r ≡ Some x → n < x.2 → (row : List ℕ) × (node_at number node text ≡ Some row)
  found_node number node n text None x is h more = absurd (omega (arith, more, ap (λ (p : Tag × Line × ℕ × List ℕ). p.2) (some_of (invalid, blank, n, text) x h)))
  found_node number node n text (Some row) x is h more = (row, is)

  entry_node : (number node n : ℕ) (text : List ℕ) (x : Tag × Line × ℕ × List ℕ) → entry_at l number node n text ≡ Some x → n < x.2 → (row : List ℕ) × (node_at number node text ≡ Some row)
  unfolding entry_at
  entry_node number node n text x h more = found_node number node n text (node_at number node text) x refl h more

  more_three_none : {A B C : Type 0} (x : A × B × C × List ℕ) → more_three [] x ≡ x
  more_three_none x = ap (λ (xs : List ℕ). (x.0, x.1, x.2, xs)) (append-nil x.3)

  -- the row of a node that isn't read where there is no line feed
  no_tag : (number node : ℕ) (text row : List ℕ) → NoFeedWithin 1024 text → node_at number node text ≡ Some row → tag_at l row ≡ None
  no_tag number node text row feedless is = is_none (tag_at l row) (λ x h.
      let front : List ℕ = codes "tag " ++ decimal number ++ codes " " ++ decimal node ++ codes " " in
      let read = tag_read l row x.2 x.0 x.1 h in
      let (u, e) = content_ended front text x.2 (tag_code_in l x.0) x.1 (node_read l number node text row is ∙ ap (λ (xs : List ℕ). front ++ xs) read.1) in
      omega (arith, feedless u x.2 e, ap length e, length-append u (10 ∷ x.2), (node_width number node text row is).0, tag_width l row x h))

  five_parts : (a b c d e rest : List ℕ) → (a ++ b ++ c ++ d ++ e) ++ rest ≡ a ++ (b ++ (c ++ (d ++ (e ++ rest))))
  five_parts a b c d e rest = simp append_assoc

  -- what stands in front of a node's row is read with any row behind it
  node_again : (number node : ℕ) (text row other : List ℕ) → node_at number node text ≡ Some row → node_at number node ((codes "tag " ++ decimal number ++ codes " " ++ decimal node ++ codes " ") ++ other) ≡ Some other
  node_again number node text row other is =
      let (_, small, low) = node_width number node text row is in
      ap (node_at number node) (five_parts (codes "tag ") (decimal number) (codes " ") (decimal node) (codes " ") other) ∙ node_own l number node other small low

  found_cut : (number node n : ℕ) (text : List ℕ) (r o : Option (List ℕ)) → 1024 ≤ length text → NoFeedWithin 1024 text → node_at number node (take 1024 text) ≡ r → node_at number node text ≡ o
      → found_on l n text o ≡ with_more (more_three (drop 1024 text)) (found_on l n (take 1024 text) r)
  found_cut number node n text (Some row) o long feedless is whole =
      let front : List ℕ = codes "tag " ++ decimal number ++ codes " " ++ decimal node ++ codes " " in
      let other : List ℕ = row ++ drop 1024 text in
      let e : text ≡ front ++ other = sym (take-append-drop 1024 text) ∙ ap (λ (xs : List ℕ). xs ++ drop 1024 text) (node_read l number node (take 1024 text) row is) ∙ append_assoc front row (drop 1024 text) in
      let there : node_at number node text ≡ Some other = ap (node_at number node) e ∙ node_again number node (take 1024 text) row other is in
      let none : tag_at l row ≡ None = no_tag number node (take 1024 text) row (no_feed_cut text feedless) is in
      let neither : tag_at l other ≡ None = no_tag number node text other feedless there in
      rw (sym whole ∙ there, none, neither) refl
  found_cut number node n text None None long feedless is whole = ap (λ (xs : List ℕ). Some (invalid, blank, n, xs)) (sym (take-append-drop 1024 text))
  found_cut number node n text None (Some row) long feedless is whole = absurd (
      let front : List ℕ = codes "tag " ++ decimal number ++ codes " " ++ decimal node ++ codes " " in
      let e : text ≡ front ++ row = node_read l number node text row whole in
      let few : length front ≤ 46 = omega (arith, ap length e, length-append front row, (node_width number node text row whole).0) in
      let most : 1024 ≡ length front + (1024 - length front) = omega (arith, few) in
      let cut : take 1024 text ≡ front ++ take (1024 - length front) row = ap (take 1024) e ∙ ap (λ (k : ℕ). take k (front ++ row)) most ∙ take-append-add front row (1024 - length front) in
      let some : node_at number node (take 1024 text) ≡ Some (take (1024 - length front) row) = ap (node_at number node) cut ∙ node_again number node text row (take (1024 - length front) row) whole in
      not_none (take (1024 - length front) row) (sym is ∙ some))

  entry_cut : (number node n : ℕ) (text : List ℕ) → 1024 ≤ length text → NoFeedWithin 1024 text → entry_at l number node n text ≡ with_more (more_three (drop 1024 text)) (entry_at l number node n (take 1024 text))
  unfolding entry_at
  entry_cut number node n text long feedless = found_cut number node n text (node_at number node (take 1024 text)) (node_at number node text) long feedless refl refl

  entry_reads : (number node n : ℕ) (text line : List ℕ) (r : Option (Tag × Line × ℕ × List ℕ)) → line ≡ take_through 10 (take 1024 text) → entry_at l number node n line ≡ r → entry_at l number node n text ≡ with_more (more_three (drop (length line) text)) r
  entry_reads number node n text line r held is =
      line_reads more_three (entry_at l number node n) (λ m s. entry_ends m l number node n s) more_three_none (entry_cut number node n) text line r held is

  pub no_entry_line : (number node n : ℕ) (text line : List ℕ) → line ≡ take_through 10 (take 1024 text) → entry_at l number node n line ≡ None → entry_at l number node n text ≡ None
  no_entry_line number node n text line held is = entry_reads number node n text line None held is

  -- a row of the node is read, and the next is held
  pub entry_line : (head : DumpHead) (number node : ℕ) (text : List ℕ) (x : Tag × Line × ℕ × List ℕ) (row next : DumpRow) (had left : Option (List ℕ)) → head.layout ≡ l → IsHeadOf head text → HoldsRow text row had
      → entry_at l number node row.number row.text.items ≡ Some x → row.number < x.2 → next.number ≡ x.2 → next.place ≡ places.Line head number (node + 1) → IfSome had (Holds next.text.items left)
      → HoldsRow text next left × (entry_at l number node row.number (from_line row.number text) ≡ Some (x.0, x.1, next.number, from_line next.number text))
  entry_line head number node text x row next had left layout begins h is more count placed took =
      elim (entry_rest number node row.number (from_line row.number text) row.text.items x h.0.2 is) [
        | inl same ↦ absurd (omega (arith, more, same.0))
        | inr (one, nil, u, ended) ↦
            let after : List ℕ = drop (length row.text.items) (from_line row.number text) in
            let there : entry_at l number node row.number (from_line row.number text) ≡ Some (x.0, x.1, x.2, after) =
            entry_reads number node row.number (from_line row.number text) row.text.items (Some x) h.0.2 is ∙ ap (λ (xs : List ℕ). Some (x.0, x.1, x.2, xs ++ after)) nil in
            let (found, found_is) = entry_node number node row.number (from_line row.number text) (x.0, x.1, x.2, after) there more in
            let at : row.number ≡ next.number - 1 = omega (arith, count, one) in
            let before : IsRowBefore head number (node + 1) (from_line (next.number - 1) text) = subst (λ (k : ℕ). IsRowBefore head number (node + 1) (from_line k text)) at (inr (node, refl, found, found_is)) in
            let here : from_line next.number text ≡ after = ap (λ (k : ℕ). from_line k text) (count ∙ one) ∙ next_line row.number text row.text.items u h.0.0 h.0.2 ended in (
              next_row text u row next had left h ended (count ∙ one) (subst (λ (p : DumpPlace). StandsBefore p next.number text) (sym placed) (begins, before)) took,
              rw (here, count) there,
            )
      ]

  -- none is there
  pub entry_kept : (number node : ℕ) (text : List ℕ) (x : Tag × Line × ℕ × List ℕ) (row : DumpRow) → IsRowOf text row → entry_at l number node row.number row.text.items ≡ Some x → x.2 ≤ row.number
      → entry_at l number node row.number (from_line row.number text) ≡ Some (x.0, x.1, row.number, from_line row.number text)
  entry_kept number node text x row held is none =
      elim (entry_rest number node row.number (from_line row.number text) row.text.items x held.2 is) [
        | inr (one, _, _, _) ↦ absurd (omega (arith, one, none))
        | inl (same, kept) ↦
            let after : List ℕ = drop (length row.text.items) (from_line row.number text) in
            entry_reads number node row.number (from_line row.number text) row.text.items (Some x) held.2 is ∙ ap (λ (xs : List ℕ). Some (x.0, x.1, x.2, xs ++ after)) kept
            ∙ ap (λ (xs : List ℕ). Some (x.0, x.1, x.2, xs)) (joined (from_line row.number text) row.text.items held.2) ∙ ap (λ (k : ℕ). Some (x.0, x.1, k, from_line row.number text)) same
      ]

  -- behind these lines: what is read of the rest, and what of it is sound
  front : (cs : List ClosedLine) (number j k nodes n m : ℕ) (text rest : List ℕ) → j ≡ length cs + k → lines_at l number (length cs) nodes n text ≡ Ok (cs, m, rest)
      → (lines_at l number j nodes n text ≡ with_lines l cs (lines_at l (number + length cs) k nodes m rest)) × (lines_before_fault_from l number j nodes n text ≡ cs ++ lines_before_fault_from l (number + length cs) k nodes m rest)
  unfolding lines_at lines_before_fault_from
  front [] number j k nodes n m text rest count is =
      let e = ok_of ([], n, text) ([], m, rest) is in
      let all : j ≡ k = omega (arith, count) in
      let at : number ≡ number + 0 = omega arith in
      let numbers : n ≡ m = ap (λ (p : List ClosedLine × ℕ × List ℕ). p.1) e in
      let texts : text ≡ rest = ap (λ (p : List ClosedLine × ℕ × List ℕ). p.2) e in (
        rw (all, numbers, texts) (ap (λ (i : ℕ). lines_at l i k nodes m rest) at ∙ sym (no_lines l (lines_at l (number + 0) k nodes m rest))),
        rw (all, numbers, texts) (ap (λ (i : ℕ). lines_before_fault_from l i k nodes m rest) at),
      )
  front (c ∷ cs) number j k nodes n m text rest count is =
      let (line, here, next) = both_ok (closed_at l number nodes n text) (λ line. lines_at l (number + 1) (length cs) nodes line.1 line.2 >>> λ more. Ok (line.0 ∷ more.0, more.1, more.2)) (c ∷ cs, m, rest) is in
      let (more, there, last) = both_ok (lines_at l (number + 1) (length cs) nodes line.1 line.2) (λ more. Ok (line.0 ∷ more.0, more.1, more.2)) (c ∷ cs, m, rest) next in
      let e = ok_of (line.0 ∷ more.0, more.1, more.2) (c ∷ cs, m, rest) last in
      let first : line.0 ≡ c = ap (λ (p : List ClosedLine × ℕ × List ℕ). slice_index_or p.0 0 c) e in
      let others : more ≡ (cs, m, rest) = ap (λ (p : List ClosedLine × ℕ × List ℕ). (drop 1 p.0, p.1, p.2)) e in
      let (all, sound) = front cs (number + 1) (length cs + k) k nodes line.1 m line.2 rest refl (there ∙ ap (λ (p : List ClosedLine × ℕ × List ℕ). Ok p) others) in
      let one : j ≡ suc (length cs + k) = omega (arith, count) in
      let at : number + 1 + length cs ≡ number + length (c ∷ cs) = omega arith in
      let moved = ap (λ (i : ℕ). lines_at l i k nodes m rest) at in (
        rw one (rw here (rw all (push cs line.0 c (lines_at l (number + 1 + length cs) k nodes m rest) first ∙ ap (with_lines l (c ∷ cs)) moved))),
        rw one (rw here (rw (sound, first) (ap (λ (i : ℕ). c ∷ (cs ++ lines_before_fault_from l i k nodes m rest)) at))),
      )
    where
      push : (ds : List ClosedLine) (a b : ClosedLine) (read : Lines l) → a ≡ b → (with_lines l ds read >>> λ more. Ok (a ∷ more.0, more.1, more.2)) ≡ with_lines l (b ∷ ds) read
      push ds a b (Ok more) e = rw e refl
      push ds a b (Err f) e = refl

apart_label : (a b c d rest : List ℕ) → (a ++ b ++ c ++ d ++ codes "\n") ++ rest ≡ (a ++ b ++ c ++ d) ++ 10 ∷ rest
apart_label a b c d rest = simp append_assoc

head_ended : (text : List ℕ) (x : Layout × ℕ × ℕ × List ℕ) → head_at text ≡ Some x → (u : List ℕ) × (text ≡ u ++ 10 ∷ x.3) × (length u < 1024)
unfolding head_text
head_ended text x is =
    let u : List ℕ = layout_label x.0 ++ decimal x.1 ++ codes " " ++ decimal x.2 in
    let e : text ≡ u ++ 10 ∷ x.3 = head_read text x.3 x.0 x.1 x.2 is ∙ apart_label (layout_label x.0) (decimal x.1) (codes " ") (decimal x.2) x.3 in
    (u, e, omega (arith, head_width text x is, ap length e, length-append u (10 ∷ x.3)))

head_reads : (text line : List ℕ) (r : Option (Layout × ℕ × ℕ × List ℕ)) → line ≡ take_through 10 (take 1024 text) → head_at line ≡ r → head_at text ≡ with_more (more_three (drop (length line) text)) r
head_reads text line r held is =
    line_reads more_three head_at (λ m s. head_ends m s) (λ x. ap (λ (xs : List ℕ). (x.0, x.1, x.2, xs)) (append-nil x.3)) (none_cut more_three head_at (λ x. x.3) head_ended) text line r held is

head_line : (l : Layout) (text line rest : List ℕ) (nodes count : ℕ) → line ≡ take_through 10 (take 1024 text) → head_at line ≡ Some (l, nodes, count, rest) → head_at text ≡ Some (l, nodes, count, drop (length line) text)
head_line l text line rest nodes count held is =
    let (u, e, _) = head_ended line (l, nodes, count, rest) is in
    head_reads text line (Some (l, nodes, count, rest)) held is ∙ ap (λ (xs : List ℕ). Some (l, nodes, count, xs ++ drop (length line) text)) (through_last u rest (take 1024 text) (sym held ∙ e))

pub head_stops : (had left : Option (List ℕ)) (row : DumpRow) → row.number ≡ 1 → row.place ≡ places.Start → IfSome had (Holds row.text.items left) → head_at row.text.items ≡ None → IfSome had (λ text. StopsBehind (DumpFault row) text [])
unfolding dump_of lines_before_fault from_line
head_stops None left row first placed held is = tt
head_stops (Some text) left row first placed held is =
    let none = head_reads text row.text.items None held.0 is in
    let line : row.text.items ≡ first_row (from_line row.number text) = rw first held.0 in
    ((rw (none, first) refl, (omega (arith, first), subst (λ (p : DumpPlace). StandsBefore p row.number text) (sym placed) first, line)), rw none refl)

pub outside_stops : (had : Option (List ℕ)) (e : StreamFault) (lines : List ClosedLine) → IsOutside e → IfSome had (λ text. StopsBehind e text lines)
outside_stops None e lines h = tt
outside_stops (Some text) OutOfMemory lines h = tt
outside_stops (Some text) CannotRead lines h = tt
outside_stops (Some text) (DumpFault row) lines h = absurd h

pub opened : (had mid left : Option (List ℕ)) (line rest : List ℕ) (s : DumpStream) → IfSome had (Holds line mid) → IfSome mid (Holds s.row.text.items left) → head_at line ≡ Some (s.head.layout, s.head.nodes, s.head.lines, rest)
    → s.row.number ≡ 2 → s.row.place ≡ places.Head s.head → s.closed ≡ 0 → IfSome had (λ text. HasRead text [] s left)
unfolding lines_at from_line
opened None mid left line rest s held next is second placed none = tt
opened (Some text) mid left line rest s held next is second placed none =
    let (u, e, _) = head_ended line (s.head.layout, s.head.nodes, s.head.lines, rest) is in
    let here : from_line 2 text ≡ drop (length line) text = next_line 1 text line u (omega arith) held.0 (row_ended line (take 1024 text) u rest held.0 e) in
    let begins : IsHeadOf s.head text = rw here (head_line s.head.layout text line rest s.head.nodes s.head.lines held.0 is) in
    let holds : Holds s.row.text.items left (from_line s.row.number text) = rw (second, here) (next_holds mid left line s.row.text.items text held.1 next) in
    record {
      head = begins;
      read = ap (λ (n : ℕ). Ok ([], n, from_line n text)) (sym second);
      many = sym none;
      few = omega (arith, none);
      holds = ((omega (arith, second), subst (λ (p : DumpPlace). StandsBefore p s.row.number text) (sym placed) (second, begins), holds.0), holds.1);
    }

-- one more closed line is read
pub read_on : (text : List ℕ) (lines : List ClosedLine) (c : ClosedLine) (s next : DumpStream) (had left : Option (List ℕ)) → HasRead text lines s had → s.closed < s.head.lines
    → closed_at s.head.layout s.closed s.head.nodes s.row.number (from_line s.row.number text) ≡ Ok (c, next.row.number, from_line next.row.number text) → HoldsRow text next.row left
    → next.head ≡ s.head → next.closed ≡ s.closed + 1 → HasRead text (lines ++ c ∷ []) next left
unfolding lines_at
read_on text lines c s next had left r more is holds head closed =
    let at : s.closed ≡ 0 + length lines = omega (arith, r.many) in
    let long : length (lines ++ c ∷ []) ≡ length lines + 1 = length-append lines (c ∷ []) in
    let (all, _) = front s.head.layout lines 0 (length (lines ++ c ∷ [])) 1 s.head.nodes 2 s.row.number (from_line 2 text) (from_line s.row.number text) long r.read in
    let one : lines_at s.head.layout (0 + length lines) 1 s.head.nodes s.row.number (from_line s.row.number text) ≡ Ok (c ∷ [], next.row.number, from_line next.row.number text) = rw (rw at at is) refl in
    let few : next.head.lines ≡ s.head.lines = ap (λ (h : DumpHead). h.lines) head in
    record {
      head = subst (λ (h : DumpHead). IsHeadOf h text) (sym head) r.head;
      read = rw head (all ∙ rw one refl);
      many = omega (arith, long, r.many, closed);
      few = omega (arith, more, closed, few);
      holds = holds;
    }

-- the next line of text isn't that of a closed line
pub stops_behind : (e : StreamFault) (text : List ℕ) (lines : List ClosedLine) (s : DumpStream) (had : Option (List ℕ)) → HasRead text lines s had → s.closed < s.head.lines
    → StopsAt text e (closed_at s.head.layout s.closed s.head.nodes s.row.number (from_line s.row.number text)) → StopsBehind e text lines
unfolding dump_of lines_before_fault lines_at lines_before_fault_from
stops_behind OutOfMemory text lines s had r more stops = tt
stops_behind CannotRead text lines s had r more stops = tt
stops_behind (DumpFault row) text lines s had r more stops =
    let at : s.closed ≡ 0 + length lines = omega (arith, r.many) in
    let k : ℕ = s.head.lines - (s.closed + 1) in
    let (all, sound) = front s.head.layout lines 0 s.head.lines (suc k) s.head.nodes 2 s.row.number (from_line 2 text) (from_line s.row.number text) (omega (arith, r.many, more)) r.read in
    let here = rw at at stops.0 in
    let fault : lines_at s.head.layout (0 + length lines) (suc k) s.head.nodes s.row.number (from_line s.row.number text) ≡ Err (refusals.DumpFault row.number) = rw here refl in
    let none : lines_before_fault_from s.head.layout (0 + length lines) (suc k) s.head.nodes s.row.number (from_line s.row.number text) ≡ [] = rw here refl in
    ((rw r.head (rw all (rw fault refl)), stops.1), rw r.head (sound ∙ ap (λ (cs : List ClosedLine). lines ++ cs) none ∙ append-nil lines))

-- all closed lines are read
all_read : (text : List ℕ) (lines : List ClosedLine) (s : DumpStream) (had : Option (List ℕ)) (r : HasRead text lines s had) → s.closed ≡ s.head.lines
    → (dump_of text ≡ (end_at s.row.number (from_line s.row.number text) >>> λ _. Ok (record { nodes = s.head.nodes; lines = lines }))) × (lines_before_fault text ≡ lines)
unfolding dump_of lines_before_fault lines_before_fault_from
all_read text lines s had r full =
    let (_, sound) = front s.head.layout lines 0 s.head.lines 0 s.head.nodes 2 s.row.number (from_line 2 text) (from_line s.row.number text) (omega (arith, r.many, full)) r.read in
    let all : lines_at s.head.layout 0 s.head.lines s.head.nodes 2 (from_line 2 text) ≡ Ok (lines, s.row.number, (from_line s.row.number text)) = subst (λ (k : ℕ). lines_at s.head.layout 0 k s.head.nodes 2 (from_line 2 text) ≡ Ok (lines, s.row.number, (from_line s.row.number text))) (r.many ∙ full) r.read in
    (rw r.head (rw all refl), rw r.head (sound ∙ append-nil lines))

end_reads : (text line : List ℕ) (r : Option (List ℕ)) → line ≡ take_through 10 (take 1024 text) → behind (codes "end\n") line ≡ r → behind (codes "end\n") text ≡ with_more (more_text (drop (length line) text)) r
end_reads text line r held is = line_reads more_text (behind (codes "end\n")) (λ m s. end_ends m s) append-nil (none_cut more_text (behind (codes "end\n")) (λ x. x) within) text line r held is
  where
    within : (t x : List ℕ) → behind (codes "end\n") t ≡ Some x → (u : List ℕ) × (t ≡ u ++ 10 ∷ x) × (length u < 1024)
    within t x is = (codes "end", behind_text (codes "end\n") t x is, omega arith)

pub end_missing : (text : List ℕ) (lines : List ClosedLine) (s : DumpStream) (had : Option (List ℕ)) → HasRead text lines s had → s.closed ≡ s.head.lines → behind (codes "end\n") s.row.text.items ≡ None → StopsBehind (DumpFault s.row) text lines
unfolding end_at
end_missing text lines s had r full is =
    let none = end_reads (from_line s.row.number text) s.row.text.items None r.holds.0.2 is in
    let (all, sound) = all_read text lines s had r full in
    ((all ∙ rw none refl, r.holds.0), sound)

end_line : (text line rest : List ℕ) → line ≡ take_through 10 (take 1024 text) → behind (codes "end\n") line ≡ Some rest → behind (codes "end\n") text ≡ Some (drop (length line) text)
end_line text line rest held is =
    let last : rest ≡ [] = through_last (codes "end") rest (take 1024 text) (sym held ∙ behind_text (codes "end\n") line rest is) in
    end_reads text line (Some rest) held is ∙ ap (λ (xs : List ℕ). Some (xs ++ drop (length line) text)) last

nothing : (xs : List ℕ) → length (take_through 10 (take 1024 xs)) ≡ 0 → xs ≡ []
nothing [] none = refl
nothing (x ∷ xs) none = absurd (omega (arith, ap length (take_through-nil 10 (take 1024 (x ∷ xs)) none)))

pub ended_all : (text rest next : List ℕ) (lines : List ClosedLine) (s : DumpStream) (had left : Option (List ℕ)) → HasRead text lines s had → s.closed ≡ s.head.lines → behind (codes "end\n") s.row.text.items ≡ Some rest
    → IfSome had (Holds next left) → length next ≡ 0 → dump_of text ≡ Ok (record { nodes = s.head.nodes; lines = lines })
unfolding end_at
ended_all text rest next lines s had left r full is took none =
    let here = end_line (from_line s.row.number text) s.row.text.items rest r.holds.0.2 is in
    let holds = next_holds had left s.row.text.items next (from_line s.row.number text) r.holds.1 took in
    let over = nothing (drop (length s.row.text.items) (from_line s.row.number text)) (omega (arith, none, ap length holds.0)) in
    (all_read text lines s had r full).0 ∙ rw here (rw over refl)

-- and none is left
pub none_left : (had left : Option (List ℕ)) (next : List ℕ) → IfSome had (Holds next left) → length next ≡ 0 → IfSome had (λ _. IsAtEnd left)
none_left None left next took none = tt
none_left (Some text) left next took none =
    let over = nothing text (omega (arith, none, ap length took.0)) in
    subst IsAtEnd (sym took.1) (ap (λ (k : ℕ). drop k text) none ∙ over)

pub more_behind : (text rest : List ℕ) (next : DumpRow) (lines : List ClosedLine) (s : DumpStream) (had left : Option (List ℕ)) → HasRead text lines s had → s.closed ≡ s.head.lines → behind (codes "end\n") s.row.text.items ≡ Some rest
    → next.number ≡ s.row.number + 1 → next.place ≡ places.End → IfSome had (Holds next.text.items left) → 0 < length next.text.items → StopsBehind (DumpFault next) text lines
unfolding end_at
more_behind text rest next lines s had left r full is count placed took some =
    let whole : List ℕ = from_line s.row.number text in
    let after : List ℕ = drop (length s.row.text.items) whole in
    let here = end_line whole s.row.text.items rest r.holds.0.2 is in
    let holds = next_holds had left s.row.text.items next.text.items whole r.holds.1 took in
    let (all, sound) = all_read text lines s had r full in
    let more : 0 < length (take 1024 after) = take_through_nonempty 10 (take 1024 after) (omega (arith, some, ap length holds.0)) in
    let ended = row_ended s.row.text.items (take 1024 whole) (codes "end") rest r.holds.0.2 (behind_text (codes "end\n") s.row.text.items rest is) in
    let at : s.row.number ≡ next.number - 1 = omega (arith, count) in
    let stands : StandsBefore places.End next.number text = (omega (arith, count, r.holds.0.0), after, ap (λ (k : ℕ). behind (codes "end\n") (from_line k text)) (sym at) ∙ here) in
    let row = next_row text (codes "end") s.row next had left r.holds ended count (subst (λ (p : DumpPlace). StandsBefore p next.number text) (sym placed) stands) took in
    ((all ∙ rw (here, count) (faulty after (omega (arith, more, length-take 1024 after))), row.0), sound)
  where
    whole : DumpLines
    whole = record { nodes = s.head.nodes; lines = lines }

    faulty : (xs : List ℕ) → 0 < length xs → (ended s.row.number xs >>> λ _. Ok whole) ≡ Err (refusals.DumpFault (s.row.number + 1))
    faulty [] lt = absurd (omega (arith, lt))
    faulty (x ∷ xs) lt = refl

-- the lines that are read are sound
pub before_fault_front : (text : List ℕ) (lines : List ClosedLine) (s : DumpStream) (had : Option (List ℕ)) → HasRead text lines s had → take (length lines) (lines_before_fault text) ≡ lines
unfolding lines_before_fault
before_fault_front text lines s had r =
    let (_, sound) = front s.head.layout lines 0 s.head.lines (s.head.lines - length lines) s.head.nodes 2 s.row.number (from_line 2 text) (from_line s.row.number text) (omega (arith, r.many, r.few)) r.read in
    rw r.head (rw sound (whole_front lines (lines_before_fault_from s.head.layout (0 + length lines) (s.head.lines - length lines) s.head.nodes s.row.number (from_line s.row.number text))))
