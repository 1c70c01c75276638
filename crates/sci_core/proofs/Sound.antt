-- A state after an exchange or a look is ruled, and what a sound value says of its words.
use Rattle.std.proofs.Common.{◌≡◌, ℕ, ◌<◌, true, false, Bool, Option, Some, None, List, length, get_or, take, drop, ◌++◌, ◌&&◌, refl, sym, subst, ◌∙◌, arith}
use Rattle.std.proofs.lemmas.Bool.Decides.{nat_tests}
use Rattle.std.proofs.lemmas.List.{length-set}
use Rattle.std.proofs.Math.Seq.{take-append_seam}
use Rattle.sci_words.specs.declared.tags.Tag.{Tag}
use Rattle.sci_words.specs.declared.memory.Mem.{Mem}
use Rattle.sci_words.specs.Tag.{tag_well_formed, tag_links_below, link_below}
use Rattle.sci_words.specs.Mem.{mem_well_formed, mem_links_below}
use Rattle.sci_core.specs.declared.lines.Line.{Line}
use Rattle.sci_core.specs.declared.events.Event.{Event}
use Rattle.sci_core.specs.declared.rows.Change.{Change}
use Rattle.sci_core.specs.State.{State, invalid}
use Rattle.sci_core.specs.Shape.{shape}
use Rattle.sci_core.specs.Law.{Below}
use Rattle.sci_core.specs.Table.{has_row}
use Rattle.sci_core.specs.Step.{Finds, looked, tags_after, memory_after}
use Rattle.sci_core.specs.Ranges.{ChangesBelow}
use Rattle.sci_core.specs.WellFormed.{HasWellFormedWords, LeavesWellFormed, FindsWellFormed}
use Rattle.sci_core.specs.Answers.{row_at, FitsEvent}
use Rattle.sci_core.specs.Whole.{WholeLine, nodes_of, state_of, IsRuled, IsSound, tag_list_after}
use Rattle.sci_core.proofs.States.{read_set}
use Rattle.sci_core.proofs.Ranges.{RowBelow, row_below}
use Rattle.sci_core.proofs.Forming.{forms}
use Rattle.sci_core.proofs.Going.{goes}
use Rattle.sci_core.proofs.Going.Forms.{Going, Turn, made, value_after}
use Rattle.sci_core.proofs.Looking.{looks, Looks}

-- tags after a change, read by the node
pub tags_read : (l : List Tag) (c : Change) → ChangesBelow (length l) c → ◌≡◌ {A = ℕ → Tag} (λ i. get_or (tag_list_after l c) i invalid) (tags_after (λ i. get_or l i invalid) c)
tags_read l (Change.OfMemory before after) h = refl
tags_read l (Change.OfTag x before after) h = read_set l x after invalid h

pub tags_long : (l : List Tag) (c : Change) → length (tag_list_after l c) ≡ length l
tags_long l (Change.OfMemory before after) = refl
tags_long l (Change.OfTag x before after) = length-set l x after

-- the words that a value has after an event fit
pub value_fits : (fits : List ℕ → Type 0) (e : Event) (v : Line) → FitsEvent fits e → fits v.words → fits (value_after e v).words
value_fits fits (Event.Written (Some words)) v h f = h
value_fits fits (Event.Written None) v h f = f
value_fits fits _ v h f = f

pub finds_formed : (s : State) (c : Change) → HasWellFormedWords s → Finds s c → FindsWellFormed c
finds_formed s (Change.OfMemory before after) f h = subst (λ (m : Mem). mem_well_formed m ≡ true) h f.memory
finds_formed s (Change.OfTag x before after) f h = subst (λ (t : Tag). tag_well_formed t ≡ true) h (f.tags x)

pub tags_formed : (f : ℕ → Tag) (c : Change) → ((i : ℕ) → tag_well_formed (f i) ≡ true) → LeavesWellFormed c → (i : ℕ) → tag_well_formed (tags_after f c i) ≡ true
tags_formed f (Change.OfMemory before after) h l i = h i
tags_formed f (Change.OfTag x before after) h l i = grind (arith, nat_tests, h i)

pub memory_formed : (m : Mem) (c : Change) → mem_well_formed m ≡ true → LeavesWellFormed c → mem_well_formed (memory_after m c) ≡ true
memory_formed m (Change.OfMemory before after) h l = l
memory_formed m (Change.OfTag x before after) h l = h

module _ (n : ℕ) (fits : List ℕ → Type 0) (s : State) (r : IsRuled n fits s) (me : ℕ) (below : me < n) where
  turn : Turn n s r.witness me (s.steps me)
  turn = record { law = r.law; links = r.links; below = below; pending = refl }

  pub going : (e : Event) → has_row n me (s.steps me) e ≡ true → Finds s (row_at s me e).change → Going n s r.witness me e (row_at s me e)
  going e allowed finds = goes n s r.witness me (s.steps me) e turn allowed finds

  -- an exchange that is allowed and finds its word leaves a state under the law
  abbrev pub ruled_after : (e : Event) → has_row n me (s.steps me) e ≡ true → Finds s (row_at s me e).change → FitsEvent fits e → IsRuled n fits (made s me (row_at s me e))
  ruled_after e allowed finds fit =
      let go : Going n s r.witness me e (row_at s me e) = going e allowed finds in
      let leaves : LeavesWellFormed (row_at s me e).change = forms n me (s.steps me) e allowed (finds_formed s (row_at s me e).change r.words finds) in
      record {
        witness = go.after;
        law = go.law;
        links = go.links;
        words = record {
          memory = memory_formed s.memory (row_at s me e).change r.words.memory leaves;
          tags = tags_formed s.tags (row_at s me e).change r.words.tags leaves;
        };
        fit = subst (λ (v : Line). fits v.words) (sym go.value) (value_fits fits e r.witness.value fit r.fit);
      }

  -- and so does a look
  abbrev pub ruled_looked : IsRuled n fits (looked s me)
  ruled_looked =
      let look : Looks n (looked s me) r.witness = looks n s r.witness r.law r.links me below in
      record { witness = r.witness; law = look.law; links = look.links; words = record { memory = r.words.memory; tags = r.words.tags }; fit = r.fit }

-- a part of a list that is all of it
pub all_of : {A : Type 0} (n : ℕ) (xs ys : List A) → n ≡ length ys → length xs ≡ length ys → take n (xs ++ drop (length xs) ys) ≡ xs
all_of n xs ys e h = subst (λ (k : ℕ). take k (xs ++ drop (length xs) ys) ≡ xs) (h ∙ sym e) (take-append_seam xs (drop (length xs) ys))

-- links below the number of nodes, as the tests of words say it
below_test : (n : ℕ) (f : Option ℕ) → ((j : ℕ) → f ≡ Some j → j < n) → link_below n f ≡ true
below_test n None h = refl
below_test n (Some x) h = grind (arith, nat_tests, h x)

both : (a b : Bool) → a ≡ true → b ≡ true → (a && b) ≡ true
both true true h k = refl
both true false h k = k
both false b h k = h

pub memory_links : (n : ℕ) (s : State) → Below n (shape s) → mem_links_below n s.memory ≡ true
memory_links n s b = below_test n s.memory.forw b.head

pub tag_links : (n : ℕ) (s : State) → Below n (shape s) → (i : ℕ) → tag_links_below n (s.tags i) ≡ true
tag_links n s b i = both (link_below n (s.tags i).forw) (link_below n (s.tags i).back) (below_test n (s.tags i).forw (b.forw i)) (below_test n (s.tags i).back (b.back i))

-- the word and the slot of a row of a sound value are those of its nodes
pub asked_below : {K : Type 0} (fits : List ℕ → Type 0) (w : WholeLine K) → IsSound fits w → (me : ℕ) → me < nodes_of w → (e : Event) → RowBelow (nodes_of w) (row_at (state_of w) me e)
asked_below fits w o me below e = row_below (nodes_of w) (state_of w) o.ruled.links me below ((state_of w).steps me) e refl
