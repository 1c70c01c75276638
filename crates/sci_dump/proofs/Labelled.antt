-- A line of text, part by part: what its parts are read as says what it is read as.
use Rattle.std.proofs.Common.{◌≡◌, ◌∙◌, ℕ, List, Option, Some, None, refl, ap}
use Rattle.std.specs.Prelude.{codes}
use Rattle.sci_words.specs.declared.layouts.Layout.{Layout}
use Rattle.sci_words.specs.declared.layouts.Layout.TheVariants.{One, Two}
use Rattle.sci_words.specs.declared.memory.Mem.{Mem}
use Rattle.sci_core.specs.declared.lines.Line.{Line}
use Rattle.sci_dump.specs.Reading.{◌>>=◌, behind, numbered_at, labelled_at, word_at, mem_of, content_at, memory_at, node_at, count_at, counted_at, layout_at, head_at}
use Rattle.sci_dump.specs.Text.{layout_label, nodes_in}

-- parts one after another, in either grouping
grouped : {A B C : Type 0} (o : Option A) (f : A → Option B) (g : B → Option C) → (o >>= λ x. f x >>= g) ≡ (o >>= f >>= g)
grouped (Some x) f g = refl
grouped None f g = refl

after : {B : Type 0} (o : Option (List ℕ)) (number : ℕ) (f : List ℕ → Option B)
    → (o >>= λ t. numbered_at number t >>= λ u. behind (codes " ") u >>= f) ≡ ((o >>= λ t. numbered_at number t >>= λ u. behind (codes " ") u) >>= f)
after (Some t) number f = grouped (numbered_at number t) (λ u. behind (codes " ") u) f
after None number f = refl

module _ (layout : Layout) where
  -- memory's line behind its label
  abbrev memory_behind : List ℕ → Option (Mem × Line × List ℕ)
  memory_behind text = do
    word ← word_at text
    mem ← mem_of layout word.0
    content ← content_at word.1
    Some (mem, content.0, content.1)

  memory_from : (number : ℕ) (text : List ℕ) (label : Option (List ℕ)) → labelled_at (codes "line ") number text ≡ label → memory_at layout number text ≡ (label >>= memory_behind)
  unfolding memory_at
  memory_from number text label e = after (behind (codes "line ") text) number memory_behind ∙ ap (λ (o : Option (List ℕ)). o >>= memory_behind) e

  pub memory_no_label : (number : ℕ) (text : List ℕ) → labelled_at (codes "line ") number text ≡ None → memory_at layout number text ≡ None
  memory_no_label number text e = memory_from number text None e

  pub memory_no_word : (number : ℕ) (text rest : List ℕ) → labelled_at (codes "line ") number text ≡ Some rest → word_at rest ≡ None → memory_at layout number text ≡ None
  memory_no_word number text rest e w = memory_from number text (Some rest) e ∙ rw w refl

  pub memory_no_mem : (number : ℕ) (text rest more : List ℕ) (word : ℕ) → labelled_at (codes "line ") number text ≡ Some rest → word_at rest ≡ Some (word, more) → mem_of layout word ≡ None → memory_at layout number text ≡ None
  memory_no_mem number text rest more word e w m = memory_from number text (Some rest) e ∙ rw (w, m) refl

  pub memory_no_content : (number : ℕ) (text rest more : List ℕ) (word : ℕ) (mem : Mem) → labelled_at (codes "line ") number text ≡ Some rest → word_at rest ≡ Some (word, more) → mem_of layout word ≡ Some mem → content_at more ≡ None → memory_at layout number text ≡ None
  memory_no_content number text rest more word mem e w m l = memory_from number text (Some rest) e ∙ rw (w, m, l) refl

  pub memory_all : (number : ℕ) (text rest more : List ℕ) (word : ℕ) (mem : Mem) (content : Line × List ℕ) → labelled_at (codes "line ") number text ≡ Some rest → word_at rest ≡ Some (word, more) → mem_of layout word ≡ Some mem → content_at more ≡ Some content → memory_at layout number text ≡ Some (mem, content.0, content.1)
  memory_all number text rest more word mem content e w m l = memory_from number text (Some rest) e ∙ rw (w, m, l) refl

-- a node's label
node_from : (number node : ℕ) (text : List ℕ) (label : Option (List ℕ)) → labelled_at (codes "tag ") number text ≡ label → node_at number node text ≡ (label >>= λ t. numbered_at node t >>= λ u. behind (codes " ") u)
unfolding node_at
node_from number node text label e =
    after (behind (codes "tag ") text) number (λ t. numbered_at node t >>= λ u. behind (codes " ") u)
    ∙ ap (λ (o : Option (List ℕ)). o >>= λ t. numbered_at node t >>= λ u. behind (codes " ") u) e

pub node_no_label : (number node : ℕ) (text : List ℕ) → labelled_at (codes "tag ") number text ≡ None → node_at number node text ≡ None
node_no_label number node text e = node_from number node text None e

pub node_no_number : (number node : ℕ) (text rest : List ℕ) → labelled_at (codes "tag ") number text ≡ Some rest → numbered_at node rest ≡ None → node_at number node text ≡ None
node_no_number number node text rest e n = node_from number node text (Some rest) e ∙ rw n refl

pub node_all : (number node : ℕ) (text rest more : List ℕ) → labelled_at (codes "tag ") number text ≡ Some rest → numbered_at node rest ≡ Some more → node_at number node text ≡ behind (codes " ") more
node_all number node text rest more e n = node_from number node text (Some rest) e ∙ rw n refl

-- the layout that a dump begins with
pub layout_one : (text rest : List ℕ) → behind (layout_label One) text ≡ Some rest → layout_at text ≡ Some (One, rest)
unfolding layout_at
layout_one text rest h = rw h refl

pub layout_two : (text rest : List ℕ) → behind (layout_label One) text ≡ None → behind (layout_label Two) text ≡ Some rest → layout_at text ≡ Some (Two, rest)
unfolding layout_at
layout_two text rest none h = rw (none, h) refl

pub layout_none : (text : List ℕ) → behind (layout_label One) text ≡ None → behind (layout_label Two) text ≡ None → layout_at text ≡ None
unfolding layout_at
layout_none text none h = rw (none, h) refl

-- the first line of text, part by part
abbrev head_ended : Layout → ℕ → ℕ × List ℕ → Option (Layout × ℕ × ℕ × List ℕ)
head_ended l nodes lines = behind (codes "\n") lines.1 >>= λ t. Some (l, nodes, lines.0, t)

abbrev head_spaced : Layout → ℕ × List ℕ → Option (Layout × ℕ × ℕ × List ℕ)
head_spaced l nodes = behind (codes " ") nodes.1 >>= λ t. count_at 1024 t >>= λ lines. behind (codes "\n") lines.1 >>= λ u. Some (l, nodes.0, lines.0, u)

pub head_no_layout : (text : List ℕ) → layout_at text ≡ None → head_at text ≡ None
unfolding head_at
head_no_layout text e = rw e refl

head_from : (text u : List ℕ) (l : Layout) (nodes : Option (ℕ × List ℕ)) → layout_at text ≡ Some (l, u) → count_at (nodes_in l) u ≡ nodes → head_at text ≡ (nodes >>= head_spaced l)
unfolding head_at
head_from text u l nodes e c = rw (e, c) refl

head_lines : (text u v : List ℕ) (l : Layout) (nodes : ℕ) (lines : Option (ℕ × List ℕ)) → layout_at text ≡ Some (l, u) → count_at (nodes_in l) u ≡ Some (nodes, v) → counted_at (codes " ") 1024 v ≡ lines → head_at text ≡ (lines >>= head_ended l nodes)
head_lines text u v l nodes lines e c d =
    head_from text u l (Some (nodes, v)) e c
    ∙ grouped (behind (codes " ") v) (λ t. count_at 1024 t) (head_ended l nodes)
    ∙ ap (λ (o : Option (ℕ × List ℕ)). o >>= head_ended l nodes) d

pub head_no_nodes : (text u : List ℕ) (l : Layout) → layout_at text ≡ Some (l, u) → count_at (nodes_in l) u ≡ None → head_at text ≡ None
head_no_nodes text u l e c = head_from text u l None e c

pub head_no_lines : (text u v : List ℕ) (l : Layout) (nodes : ℕ) → layout_at text ≡ Some (l, u) → count_at (nodes_in l) u ≡ Some (nodes, v) → counted_at (codes " ") 1024 v ≡ None → head_at text ≡ None
head_no_lines text u v l nodes e c d = head_lines text u v l nodes None e c d

pub head_no_end : (text u v x : List ℕ) (l : Layout) (nodes lines : ℕ) → layout_at text ≡ Some (l, u) → count_at (nodes_in l) u ≡ Some (nodes, v) → counted_at (codes " ") 1024 v ≡ Some (lines, x) → behind (codes "\n") x ≡ None → head_at text ≡ None
head_no_end text u v x l nodes lines e c d b = head_lines text u v l nodes (Some (lines, x)) e c d ∙ rw b refl

pub head_all : (text u v x rest : List ℕ) (l : Layout) (nodes lines : ℕ) → layout_at text ≡ Some (l, u) → count_at (nodes_in l) u ≡ Some (nodes, v) → counted_at (codes " ") 1024 v ≡ Some (lines, x) → behind (codes "\n") x ≡ Some rest → head_at text ≡ Some (l, nodes, lines, rest)
head_all text u v x rest l nodes lines e c d b = head_lines text u v l nodes (Some (lines, x)) e c d ∙ rw b refl
