-- What the first line of a text is read as, the text is read as.
use Rattle.std.proofs.Common.{if◌then◌else◌, ◌≡◌, ℕ, zero, suc, ◌<◌, ◌≤◌, ◌&&◌, Bool, true, false, not, leb, ◌==◌, List, [], ◌∷◌, ◌++◌, length, take, drop, Option, Some, None, refl, sym, ap, arith, codes, append_assoc, length-append, inl, inr, le-leb, eqb-true}
use Rattle.std.specs.Char.{is_ascii_digit}
use Rattle.std.specs.List.{list_all}
use Rattle.std.specs.Str.Parse.{digits_value}
use Rattle.std.proofs.lemmas.Bool.{cases_lt, cases_Bool, lt-leb}
use Rattle.std.proofs.lemmas.List.{take-append-le, drop-append-le}
use Rattle.std.proofs.lemmas.List.Sums.{prefix_len-le-length}
use Rattle.sci_words.specs.declared.layouts.Layout.{Layout}
use Rattle.sci_words.specs.declared.layouts.Layout.TheVariants.{One, Two}
use Rattle.sci_words.specs.declared.tags.Tag.{Tag}
use Rattle.sci_core.specs.declared.lines.Line.{Line}
use Rattle.sci_core.specs.State.{invalid, blank}
use Rattle.sci_dump.specs.Reading.{◌>>=◌, behind, digits_in_front, is_number, number_at, is_hexadecimal, word_at, value_at, values_at, content_at, numbered_at, mem_of, tag_of, memory_at, node_at, tag_at, count_at, layout_by, layout_at, head_at, tag_on, found_on, entry_at}
use Rattle.sci_dump.specs.Text.{layout_label, nodes_in}

-- what is read, with more text behind it
abbrev pub with_more : {X : Type 0} → (X → X) → Option X → Option X
with_more add (Some x) = Some (add x)
with_more add None = None

-- more text behind a rest, alone or behind one value, two or three
abbrev pub more_text : List ℕ → List ℕ → List ℕ
more_text m rest = rest ++ m

abbrev pub more_one : {A : Type 0} → List ℕ → A × List ℕ → A × List ℕ
more_one m x = (x.0, x.1 ++ m)

abbrev pub more_two : {A B : Type 0} → List ℕ → A × B × List ℕ → A × B × List ℕ
more_two m x = (x.0, x.1, x.2 ++ m)

abbrev pub more_three : {A B C : Type 0} → List ℕ → A × B × C × List ℕ → A × B × C × List ℕ
more_three m x = (x.0, x.1, x.2, x.3 ++ m)

-- one part after another
then_stays : {X Y : Type 0} (g : X → X) (h : Y → Y) (a o : Option X) (k : X → Option Y) → a ≡ with_more g o → ((x : X) → k (g x) ≡ with_more h (k x)) → (a >>= k) ≡ with_more h (o >>= k)
then_stays g h a (Some x) k p e = rw p (e x)
then_stays g h a None k p e = rw p refl

then_ends : {X Y : Type 0} (g i : X → X) (h : Y → Y) (a b o : Option X) (k : X → Option Y) → a ≡ with_more g o → b ≡ with_more i o → ((x : X) → k (g x) ≡ with_more h (k (i x))) → (a >>= k) ≡ with_more h (b >>= k)
then_ends g i h a b (Some x) k p q e = rw (p, q) (e x)
then_ends g i h a b None k p q e = rw (p, q) refl

same_ends : {X Y : Type 0} (h : Y → Y) (o : Option X) (k j : X → Option Y) → ((x : X) → k x ≡ with_more h (j x)) → (o >>= k) ≡ with_more h (o >>= j)
same_ends h (Some x) k j e = e x
same_ends h None k j e = refl

if_more : {X : Type 0} (b : Bool) (g : X → X) (x y : X) → y ≡ g x → (if b then Some y else None) ≡ with_more g (if b then Some x else None)
if_more true g x y e = ap Some e
if_more false g x y e = refl

-- bytes without a line feed
abbrev NoFeed : List ℕ → Type 0
NoFeed bytes = list_all (λ b. not (b == 10)) bytes ≡ true

first_no_feed : (b : ℕ) (bs : List ℕ) → NoFeed (b ∷ bs) → ((10 == b) ≡ false) × NoFeed bs
first_no_feed b bs none = elim (cases_Bool (b == 10)) [
  | inl y ↦ absurd (let f : list_all (λ b. not (b == 10)) (b ∷ bs) ≡ false = rw y refl in cc)
  | inr n ↦ (
    elim (cases_Bool (10 == b)) [
      | inl same ↦ absurd (let e : 10 ≡ b = eqb-true 10 b same in let f : (b == 10) ≡ true = rw (sym e) refl in cc)
      | inr other ↦ other
    ],
    rw n at none,
  )
]

-- parts in front of a line feed: they don't see what stands from there on
module _ (m : List ℕ) where
  behind_stays : (bytes s : List ℕ) → NoFeed bytes → behind bytes (s ++ 10 ∷ m) ≡ with_more (more_text (10 ∷ m)) (behind bytes s)
  unfolding behind
  behind_stays [] s none = refl
  behind_stays (b ∷ bs) [] none = rw (first_no_feed b bs none).0 refl
  behind_stays (b ∷ bs) (x ∷ s) none = elim (cases_Bool (x == b)) [
    | inl y ↦ rw y (behind_stays bs s (first_no_feed b bs none).1)
    | inr n ↦ rw n refl
  ]

  digits_stay : (s : List ℕ) → digits_in_front (s ++ 10 ∷ m) ≡ digits_in_front s
  digits_stay [] = refl
  digits_stay (b ∷ s) = elim (cases_Bool (is_ascii_digit b)) [
    | inl y ↦ rw y (omega (arith, digits_stay s))
    | inr n ↦ rw n refl
  ]

  number_stays : (s : List ℕ) → number_at (s ++ 10 ∷ m) ≡ with_more (more_one (10 ∷ m)) (number_at s)
  unfolding number_at
  number_stays s =
      let k = digits_in_front s in
      let within : k ≤ length s = prefix_len-le-length _ s in
      rw (digits_stay s, take-append-le k s (10 ∷ m) within, drop-append-le k s (10 ∷ m) within)
      (if_more (is_number (take k s)) (more_one (10 ∷ m)) (digits_value 10 (take k s), drop k s) (digits_value 10 (take k s), drop k s ++ 10 ∷ m) refl)

  short_word : (k : ℕ) (s : List ℕ) → length s < k → list_all is_hexadecimal (take k (s ++ 10 ∷ m)) ≡ false
  short_word zero s lt = absurd (omega (arith, lt))
  short_word (suc k) [] lt = refl
  short_word (suc k) (b ∷ s) lt = elim (cases_Bool (is_hexadecimal b)) [
    | inl y ↦ rw y (short_word k s (omega (arith, lt)))
    | inr n ↦ rw n refl
  ]

  no_word : (b c : Bool) (x : ℕ × List ℕ) → c ≡ false → (if b && c then Some x else None) ≡ None
  no_word true c x e = rw e refl
  no_word false c x e = refl

  word_stays : (s : List ℕ) → word_at (s ++ 10 ∷ m) ≡ with_more (more_one (10 ∷ m)) (word_at s)
  unfolding word_at
  word_stays s = elim (cases_lt (length s) 16) [
    | inl lt ↦
        let few : leb 16 (length s) ≡ false = lt-leb 16 (length s) lt in
        rw few (no_word (leb 16 (length (s ++ 10 ∷ m))) (list_all is_hexadecimal (take 16 (s ++ 10 ∷ m))) (digits_value 16 (take 16 (s ++ 10 ∷ m)), drop 16 (s ++ 10 ∷ m)) (short_word 16 s lt))
    | inr le ↦
        let here : leb 16 (length s) ≡ true = le-leb 16 (length s) le in
        let there : leb 16 (length (s ++ 10 ∷ m)) ≡ true = le-leb 16 (length (s ++ 10 ∷ m)) (omega (arith, le, length-append s (10 ∷ m))) in
        rw (here, there, take-append-le 16 s (10 ∷ m) le, drop-append-le 16 s (10 ∷ m) le)
        (if_more (list_all is_hexadecimal (take 16 s)) (more_one (10 ∷ m)) (digits_value 16 (take 16 s), drop 16 s) (digits_value 16 (take 16 s), drop 16 s ++ 10 ∷ m) refl)
  ]

  value_stays : (s : List ℕ) → value_at (s ++ 10 ∷ m) ≡ with_more (more_one (10 ∷ m)) (value_at s)
  unfolding value_at
  value_stays s = then_stays (more_text (10 ∷ m)) (more_one (10 ∷ m)) _ (behind (codes " ") s) number_at (behind_stays (codes " ") s refl) number_stays

  values_stay : (k : ℕ) (s : List ℕ) → values_at k (s ++ 10 ∷ m) ≡ with_more (more_one (10 ∷ m)) (values_at k s)
  unfolding values_at
  values_stay zero s = refl
  values_stay (suc k) s =
      then_stays (more_one (10 ∷ m)) (more_one (10 ∷ m)) _ (value_at s) (λ value. values_at k value.1 >>= λ values. Some (value.0 ∷ values.0, values.1)) (value_stays s)
      (λ value. then_stays (more_one (10 ∷ m)) (more_one (10 ∷ m)) _ (values_at k value.1) (λ values. Some (value.0 ∷ values.0, values.1)) (values_stay k value.1) (λ values. refl))

  numbered_stays : (number : ℕ) (s : List ℕ) → numbered_at number (s ++ 10 ∷ m) ≡ with_more (more_text (10 ∷ m)) (numbered_at number s)
  unfolding numbered_at
  numbered_stays number s =
      then_stays (more_one (10 ∷ m)) (more_text (10 ∷ m)) _ (number_at s) (λ found. if found.0 == number then Some found.1 else None) (number_stays s)
      (λ found. if_more (found.0 == number) (more_text (10 ∷ m)) found.1 (found.1 ++ 10 ∷ m) refl)

  count_stays : (most : ℕ) (s : List ℕ) → count_at most (s ++ 10 ∷ m) ≡ with_more (more_one (10 ∷ m)) (count_at most s)
  unfolding count_at
  count_stays most s =
      then_stays (more_one (10 ∷ m)) (more_one (10 ∷ m)) _ (number_at s) (λ found. if leb 1 found.0 && leb found.0 most then Some found else None) (number_stays s)
      (λ found. if_more (leb 1 found.0 && leb found.0 most) (more_one (10 ∷ m)) found (found.0, found.1 ++ 10 ∷ m) refl)

  layouts_stay : (a b : Option (List ℕ)) → layout_by (with_more (more_text m) a) (with_more (more_text m) b) ≡ with_more (more_one m) (layout_by a b)
  layouts_stay (Some rest) b = refl
  layouts_stay None (Some rest) = refl
  layouts_stay None None = refl

  node_stays : (number node : ℕ) (s : List ℕ) → node_at number node (s ++ 10 ∷ m) ≡ with_more (more_text (10 ∷ m)) (node_at number node s)
  unfolding node_at
  node_stays number node s =
      let more = more_text (10 ∷ m) in
      then_stays more more _ (behind (codes "tag ") s) _ (behind_stays (codes "tag ") s refl)
      (λ one. then_stays more more _ (numbered_at number one) _ (numbered_stays number one)
      (λ two. then_stays more more _ (behind (codes " ") two) _ (behind_stays (codes " ") two refl)
      (λ three. then_stays more more _ (numbered_at node three) _ (numbered_stays node three) (λ four. behind_stays (codes " ") four refl))))

layout_stays : (m s : List ℕ) → layout_at (s ++ 10 ∷ m) ≡ with_more (more_one (10 ∷ m)) (layout_at s)
unfolding layout_at
layout_stays m s = rw (behind_stays m (layout_label One) s refl, behind_stays m (layout_label Two) s refl) (layouts_stay (10 ∷ m) (behind (layout_label One) s) (behind (layout_label Two) s))

-- lines of text: what stands behind the line feed isn't seen
module _ (m : List ℕ) where
  feed_ends : (bytes s : List ℕ) → NoFeed bytes → behind (bytes ++ 10 ∷ []) (s ++ 10 ∷ m) ≡ with_more (more_text m) (behind (bytes ++ 10 ∷ []) (s ++ 10 ∷ []))
  unfolding behind
  feed_ends [] [] none = refl
  feed_ends [] (x ∷ s) none = elim (cases_Bool (x == 10)) [
    | inl y ↦ rw y (ap Some (sym (append_assoc s (10 ∷ []) m)))
    | inr n ↦ rw n refl
  ]
  feed_ends (b ∷ bs) [] none = rw (first_no_feed b bs none).0 refl
  feed_ends (b ∷ bs) (x ∷ s) none = elim (cases_Bool (x == b)) [
    | inl y ↦ rw y (feed_ends bs s (first_no_feed b bs none).1)
    | inr n ↦ rw n refl
  ]

  content_ends : (s : List ℕ) → content_at (s ++ 10 ∷ m) ≡ with_more (more_one m) (content_at (s ++ 10 ∷ []))
  unfolding content_at
  content_ends s =
      then_ends (more_one (10 ∷ m)) (more_one (10 ∷ [])) (more_one m) _ _ (value_at s) _ (value_stays m s) (value_stays [] s)
      (λ stamp. then_ends (more_one (10 ∷ m)) (more_one (10 ∷ [])) (more_one m) _ _ (values_at 8 stamp.1) _ (values_stay m 8 stamp.1) (values_stay [] 8 stamp.1)
      (λ words. then_stays (more_text m) (more_one m) _ (behind (codes "\n") (words.1 ++ 10 ∷ [])) _ (feed_ends [] words.1 refl) (λ rest. refl)))

  pub memory_ends : (l : Layout) (number : ℕ) (s : List ℕ) → memory_at l number (s ++ 10 ∷ m) ≡ with_more (more_two m) (memory_at l number (s ++ 10 ∷ []))
  unfolding memory_at
  memory_ends l number s =
      then_ends (more_text (10 ∷ m)) (more_text (10 ∷ [])) (more_two m) _ _ (behind (codes "line ") s) _ (behind_stays m (codes "line ") s refl) (behind_stays [] (codes "line ") s refl)
      (λ one. then_ends (more_text (10 ∷ m)) (more_text (10 ∷ [])) (more_two m) _ _ (numbered_at number one) _ (numbered_stays m number one) (numbered_stays [] number one)
      (λ two. then_ends (more_text (10 ∷ m)) (more_text (10 ∷ [])) (more_two m) _ _ (behind (codes " ") two) _ (behind_stays m (codes " ") two refl) (behind_stays [] (codes " ") two refl)
      (λ three. then_ends (more_one (10 ∷ m)) (more_one (10 ∷ [])) (more_two m) _ _ (word_at three) _ (word_stays m three) (word_stays [] three)
      (λ word. same_ends (more_two m) (mem_of l word.0) _ _ (λ mem. then_stays (more_one m) (more_two m) _ (content_at (word.1 ++ 10 ∷ [])) _ (content_ends word.1) (λ content. refl))))))

  tag_ends : (l : Layout) (s : List ℕ) → tag_at l (s ++ 10 ∷ m) ≡ with_more (more_two m) (tag_at l (s ++ 10 ∷ []))
  unfolding tag_at
  tag_ends l s =
      then_ends (more_one (10 ∷ m)) (more_one (10 ∷ [])) (more_two m) _ _ (word_at s) _ (word_stays m s) (word_stays [] s)
      (λ word. same_ends (more_two m) (tag_of l word.0) _ _ (λ tag. then_stays (more_one m) (more_two m) _ (content_at (word.1 ++ 10 ∷ [])) _ (content_ends word.1) (λ content. refl)))

  tag_on_ends : (n : ℕ) (a b : Option (Tag × Line × List ℕ)) → a ≡ with_more (more_two m) b → tag_on n a ≡ with_more (more_three m) (tag_on n b)
  tag_on_ends n a (Some found) e = rw e refl
  tag_on_ends n a None e = rw e refl

  found_ends : (l : Layout) (n : ℕ) (s : List ℕ) (a b o : Option (List ℕ)) → a ≡ with_more (more_text (10 ∷ m)) o → b ≡ with_more (more_text (10 ∷ [])) o → found_on l n (s ++ 10 ∷ m) a ≡ with_more (more_three m) (found_on l n (s ++ 10 ∷ []) b)
  found_ends l n s a b (Some rest) p q = rw (p, q) (tag_on_ends n (tag_at l (rest ++ 10 ∷ m)) (tag_at l (rest ++ 10 ∷ [])) (tag_ends l rest))
  found_ends l n s a b None p q = rw (p, q) (ap (λ (xs : List ℕ). Some (invalid, blank, n, xs)) (sym (append_assoc s (10 ∷ []) m)))

  pub entry_ends : (l : Layout) (number node n : ℕ) (s : List ℕ) → entry_at l number node n (s ++ 10 ∷ m) ≡ with_more (more_three m) (entry_at l number node n (s ++ 10 ∷ []))
  unfolding entry_at
  entry_ends l number node n s = found_ends l n s (node_at number node (s ++ 10 ∷ m)) (node_at number node (s ++ 10 ∷ [])) (node_at number node s) (node_stays m number node s) (node_stays [] number node s)

  pub head_ends : (s : List ℕ) → head_at (s ++ 10 ∷ m) ≡ with_more (more_three m) (head_at (s ++ 10 ∷ []))
  unfolding head_at
  head_ends s =
      then_ends (more_one (10 ∷ m)) (more_one (10 ∷ [])) (more_three m) _ _ (layout_at s) _ (layout_stays m s) (layout_stays [] s)
      (λ layout. then_ends (more_one (10 ∷ m)) (more_one (10 ∷ [])) (more_three m) _ _ (count_at (nodes_in layout.0) layout.1) _ (count_stays m (nodes_in layout.0) layout.1) (count_stays [] (nodes_in layout.0) layout.1)
      (λ nodes. then_ends (more_text (10 ∷ m)) (more_text (10 ∷ [])) (more_three m) _ _ (behind (codes " ") nodes.1) _ (behind_stays m (codes " ") nodes.1 refl) (behind_stays [] (codes " ") nodes.1 refl)
      (λ text. then_ends (more_one (10 ∷ m)) (more_one (10 ∷ [])) (more_three m) _ _ (count_at 1024 text) _ (count_stays m 1024 text) (count_stays [] 1024 text)
      (λ lines. then_stays (more_text m) (more_three m) _ (behind (codes "\n") (lines.1 ++ 10 ∷ [])) _ (feed_ends [] lines.1 refl) (λ rest. refl)))))

  pub end_ends : (s : List ℕ) → behind (codes "end\n") (s ++ 10 ∷ m) ≡ with_more (more_text m) (behind (codes "end\n") (s ++ 10 ∷ []))
  end_ends s = feed_ends (codes "end") s refl
