-- How many bytes the parts of a line of text have at the most.
use Rattle.std.proofs.Common.{if◌then◌else◌, ◌≡◌, ℕ, zero, suc, ◌+◌, ◌*◌, ◌^◌, ◌<◌, ◌≤◌, ◌&&◌, ◌==◌, leb, List, [], ◌∷◌, length, take, drop, Option, Some, None, refl, ap, subst, arith, codes, length-append, length-take, take-append-drop, ltb-true, leb-true, eqb-true}
use Rattle.std.specs.List.{list_all}
use Rattle.std.specs.Str.Parse.{digits_value}
use Rattle.std.proofs.lemmas.Bool.{and_parts}
use Rattle.sci_words.specs.declared.layouts.Layout.{Layout}
use Rattle.sci_words.specs.declared.layouts.Layout.TheVariants.{One, Two}
use Rattle.sci_words.specs.declared.memory.Mem.{Mem}
use Rattle.sci_words.specs.declared.tags.Tag.{Tag}
use Rattle.sci_core.specs.declared.lines.Line.{Line}
use Rattle.sci_dump.specs.Reading.{◌>>=◌, behind, digits_in_front, is_number, number_at, is_hexadecimal, word_at, value_at, values_at, content_at, numbered_at, mem_of, tag_of, memory_at, node_at, tag_at, count_at, layout_by, layout_at, head_at}
use Rattle.sci_dump.specs.Text.{layout_label, nodes_in}
use Rattle.sci_dump.proofs.Inverting.{both_some, some_of, test_some, not_none, behind_text}

behind_width : (bytes text rest : List ℕ) → behind bytes text ≡ Some rest → length text ≡ length bytes + length rest
behind_width bytes text rest h = omega (arith, ap length (behind_text bytes text rest h), length-append bytes rest)

number_width : (text : List ℕ) (x : ℕ × List ℕ) → number_at text ≡ Some x → (length text ≤ 20 + length x.1) × (x.0 < 2 ^ 64)
unfolding number_at
number_width text x h =
    let ds = take (digits_in_front text) text in
    let (test, is) = test_some (is_number ds) (digits_value 10 ds, drop (digits_in_front text) text) x h in
    let a = and_parts _ _ test in
    let b = and_parts _ _ a.0 in
    let d = and_parts _ _ b.0 in
    let left : drop (digits_in_front text) text ≡ x.1 = ap (λ (p : ℕ × List ℕ). p.1) is in
    let value : digits_value 10 ds ≡ x.0 = ap (λ (p : ℕ × List ℕ). p.0) is in (
      omega (arith, leb-true (length ds) 20 d.1, ap length (take-append-drop (digits_in_front text) text), length-append ds (drop (digits_in_front text) text), ap length left),
      subst (λ (v : ℕ). v < 2 ^ 64) value (ltb-true (digits_value 10 ds) (2 ^ 64) a.1),
    )

numbered_width : (number : ℕ) (text rest : List ℕ) → numbered_at number text ≡ Some rest → (length text ≤ 20 + length rest) × (number < 2 ^ 64)
unfolding numbered_at
numbered_width number text rest h =
    let (found, is, next) = both_some (number_at text) (λ found. if found.0 == number then Some found.1 else None) rest h in
    let (test, left) = test_some (found.0 == number) found.1 rest next in
    let (few, small) = number_width text found is in
    (omega (arith, few, ap length left), subst (λ (v : ℕ). v < 2 ^ 64) (eqb-true found.0 number test) small)

count_width : (most : ℕ) (text : List ℕ) (x : ℕ × List ℕ) → count_at most text ≡ Some x → length text ≤ 20 + length x.1
unfolding count_at
count_width most text x h =
    let (found, is, next) = both_some (number_at text) (λ found. if leb 1 found.0 && leb found.0 most then Some found else None) x h in
    let (test, same) = test_some (leb 1 found.0 && leb found.0 most) found x next in
    omega (arith, (number_width text found is).0, ap (λ (p : ℕ × List ℕ). length p.1) same)

word_width : (text : List ℕ) (x : ℕ × List ℕ) → word_at text ≡ Some x → length text ≡ 16 + length x.1
unfolding word_at
word_width text x h =
    let ds = take 16 text in
    let (test, is) = test_some (leb 16 (length text) && list_all is_hexadecimal ds) (digits_value 16 ds, drop 16 text) x h in
    let a = and_parts (leb 16 (length text)) (list_all is_hexadecimal ds) test in
    let left : drop 16 text ≡ x.1 = ap (λ (p : ℕ × List ℕ). p.1) is in
    omega (arith, length-take 16 text, leb-true 16 (length text) a.0, ap length (take-append-drop 16 text), length-append ds (drop 16 text), ap length left)

value_width : (text : List ℕ) (x : ℕ × List ℕ) → value_at text ≡ Some x → length text ≤ 21 + length x.1
unfolding value_at
value_width text x h =
    let (mid, is, next) = both_some (behind (codes " ") text) number_at x h in
    omega (arith, behind_width (codes " ") text mid is, (number_width mid x next).0)

values_width : (k : ℕ) (text : List ℕ) (x : List ℕ × List ℕ) → values_at k text ≡ Some x → length text ≤ 21 * k + length x.1
unfolding values_at
values_width zero text x h = omega (arith, ap (λ (p : List ℕ × List ℕ). length p.1) (some_of ([], text) x h))
values_width (suc k) text x h =
    let (value, is, next) = both_some (value_at text) (λ value. values_at k value.1 >>= λ values. Some (value.0 ∷ values.0, values.1)) x h in
    let (more, are, last) = both_some (values_at k value.1) (λ values. Some (value.0 ∷ values.0, values.1)) x next in
    omega (arith, value_width text value is, values_width k value.1 more are, ap (λ (p : List ℕ × List ℕ). length p.1) (some_of (value.0 ∷ more.0, more.1) x last))

content_width : (text : List ℕ) (x : Line × List ℕ) → content_at text ≡ Some x → length text ≤ 190 + length x.1
unfolding content_at
content_width text x h =
    let (stamp, is, next) = both_some (value_at text) (λ stamp. values_at 8 stamp.1 >>= λ words. behind (codes "\n") words.1 >>= λ rest. Some (record { words = words.0; stamp = stamp.0 }, rest)) x h in
    let (words, are, last) = both_some (values_at 8 stamp.1) (λ words. behind (codes "\n") words.1 >>= λ rest. Some (record { words = words.0; stamp = stamp.0 }, rest)) x next in
    let (left, end, all) = both_some (behind (codes "\n") words.1) (λ rest. Some (record { words = words.0; stamp = stamp.0 }, rest)) x last in
    let made : Line = record { words = words.0; stamp = stamp.0 } in
    omega (arith, value_width text stamp is, values_width 8 stamp.1 words are, behind_width (codes "\n") words.1 left end, ap (λ (p : Line × List ℕ). length p.1) (some_of (made, left) x all))

module _ (l : Layout) where
  pub memory_width : (number : ℕ) (text : List ℕ) (x : Mem × Line × List ℕ) → memory_at l number text ≡ Some x → length text ≤ 232 + length x.2
  unfolding memory_at
  memory_width number text x h =
      let (one, h1, k1) = both_some (behind (codes "line ") text) _ x h in
      let (two, h2, k2) = both_some (numbered_at number one) _ x k1 in
      let (three, h3, k3) = both_some (behind (codes " ") two) _ x k2 in
      let (word, h4, k4) = both_some (word_at three) _ x k3 in
      let (mem, h5, k5) = both_some (mem_of l word.0) _ x k4 in
      let (content, h6, k6) = both_some (content_at word.1) _ x k5 in
      omega (
        arith,
        behind_width (codes "line ") text one h1,
        (numbered_width number one two h2).0,
        behind_width (codes " ") two three h3,
        word_width three word h4,
        content_width word.1 content h6,
        ap (λ (p : Mem × Line × List ℕ). length p.2) (some_of (mem, content.0, content.1) x k6),
      )

  pub tag_width : (text : List ℕ) (x : Tag × Line × List ℕ) → tag_at l text ≡ Some x → length text ≤ 206 + length x.2
  unfolding tag_at
  tag_width text x h =
      let (word, h1, k1) = both_some (word_at text) _ x h in
      let (tag, h2, k2) = both_some (tag_of l word.0) _ x k1 in
      let (content, h3, k3) = both_some (content_at word.1) _ x k2 in
      omega (arith, word_width text word h1, content_width word.1 content h3, ap (λ (p : Tag × Line × List ℕ). length p.2) (some_of (tag, content.0, content.1) x k3))

pub node_width : (number node : ℕ) (text rest : List ℕ) → node_at number node text ≡ Some rest → (length text ≤ 46 + length rest) × (number < 2 ^ 64) × (node < 2 ^ 64)
unfolding node_at
node_width number node text rest h =
    let (one, h1, k1) = both_some (behind (codes "tag ") text) _ rest h in
    let (two, h2, k2) = both_some (numbered_at number one) _ rest k1 in
    let (three, h3, k3) = both_some (behind (codes " ") two) _ rest k2 in
    let (four, h4, k4) = both_some (numbered_at node three) _ rest k3 in
    let (few, small) = numbered_width number one two h2 in
    let (short, low) = numbered_width node three four h4 in
    (omega (arith, behind_width (codes "tag ") text one h1, few, behind_width (codes " ") two three h3, short, behind_width (codes " ") four rest k4), small, low)

layout_width : (text : List ℕ) (x : Layout × List ℕ) → layout_at text ≡ Some x → length text ≡ 10 + length x.1
unfolding layout_at
layout_width text x h = found (behind (layout_label One) text) (behind (layout_label Two) text) refl refl h
  where
    found : (one two : Option (List ℕ)) → behind (layout_label One) text ≡ one → behind (layout_label Two) text ≡ two → layout_by one two ≡ Some x → length text ≡ 10 + length x.1
    found (Some rest) two is is_two h = omega (arith, behind_width (layout_label One) text rest is, ap (λ (p : Layout × List ℕ). length p.1) (some_of (One, rest) x h))
    found None (Some rest) is is_two h = omega (arith, behind_width (layout_label Two) text rest is_two, ap (λ (p : Layout × List ℕ). length p.1) (some_of (Two, rest) x h))
    found None None is is_two h = absurd (not_none x h)

pub head_width : (text : List ℕ) (x : Layout × ℕ × ℕ × List ℕ) → head_at text ≡ Some x → length text ≤ 52 + length x.3
unfolding head_at
head_width text x h =
    let (one, h1, k1) = both_some (layout_at text) _ x h in
    let (two, h2, k2) = both_some (count_at (nodes_in one.0) one.1) _ x k1 in
    let (three, h3, k3) = both_some (behind (codes " ") two.1) _ x k2 in
    let (four, h4, k4) = both_some (count_at 1024 three) _ x k3 in
    let (left, h5, k5) = both_some (behind (codes "\n") four.1) _ x k4 in
    omega (
      arith,
      layout_width text one h1,
      count_width (nodes_in one.0) one.1 two h2,
      behind_width (codes " ") two.1 three h3,
      count_width 1024 three four h4,
      behind_width (codes "\n") four.1 left h5,
      ap (λ (p : Layout × ℕ × ℕ × List ℕ). length p.3) (some_of (one.0, two.0, four.0, left) x k5),
    )
