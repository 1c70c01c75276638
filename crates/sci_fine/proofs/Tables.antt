-- The words and slots of a table after an exchange are those of the state after it.
use Rattle.std.proofs.Common.{◌≡◌, ℕ, zero, suc, ◌+◌, ◌<◌, ◌≤◌, Option, Some, None, List, length, get_or, set, refl, sym, ap, ◌∙◌, subst, arith, length-set, get_or-set_other, get_or-set_same}
use mathlib.Core.Logic.{dite}
use mathlib.Core.Option as maybe
use mathlib.Core.Option.{some, none}
use native.Mathlib.Decide.{ℕ_discrete}
use lib.ListN.{get_elem?}
use Rattle.atomic_table.specs.Table.{Act, keeps, takes, gives, homes_after, carried_after, Valid}
use Rattle.atomic_table.proofs.Lists.{set_here, set_else}
use Rattle.sci_words.specs.Codes.{tag_code, mem_code}
use Rattle.sci_words.specs.declared.layouts.Layout.TheVariants.{Two}
use Rattle.sci_words.proofs.Codes.{one_tag, one_mem, link_further, tag_links_further}
use Rattle.sci_core.specs.declared.lines.Line.{Line}
use Rattle.sci_core.specs.declared.rows.Change.{Change}
use Rattle.sci_core.specs.declared.rows.Change.TheVariants.{OfMemory, OfTag}
use Rattle.sci_core.specs.declared.rows.Place.TheVariants.{Memory, Node}
use Rattle.sci_core.specs.declared.rows.Carry.{Carry}
use Rattle.sci_core.specs.declared.rows.Carry.TheVariants.{Stays, Takes, Gives}
use Rattle.sci_core.specs.State.{State, update, invalid, blank}
use Rattle.sci_core.specs.Shape.{shape}
use Rattle.sci_core.specs.Law.{Below}
use Rattle.sci_core.specs.Step as core
use Rattle.sci_core.specs.Step.{memory_after, tags_after, memory_slot_after, slots_after, slot_at, line_in, taken_line, IsAtHome}
use Rattle.sci_core.specs.Ranges.{ChangesBelow, CarriesBelow}
use Rattle.sci_core.proofs.Sound.{memory_links, tag_links}
use Rattle.sci_fine.specs.Rule.{slot_number, lies_at, word_at, slot_in, home_of}
use Rattle.sci_fine.specs.Steps.{place_of, before_of, after_of, HasLinks, Carries, carried_by}
use Rattle.sci_fine.proofs.Elements.{update_here, update_else}

-- the code of the word in a place, after a change
abbrev pub word_after : State → Change → ℕ → ℕ
word_after a c zero = mem_code (memory_after a.memory c)
word_after a c (suc x) = tag_code (tags_after a.tags c x)

-- the line in a slot, after a move
abbrev pub slot_after : State → Carry → ℕ → Option Line
slot_after a c zero = memory_slot_after a.memory_slot c
slot_after a c (suc x) = slots_after a.slots c x

-- the act of a row on the table
abbrev pub act_of : Carry → Line → Act Line
act_of Stays y = keeps
act_of (Takes x) y = takes (slot_number x) y
act_of (Gives x l) y = gives

pub carried_is : (c : Carry) (y : Line) (xs : List (ℕ × Line)) → carried_after xs (act_of c y) ≡ carried_by c y xs
carried_is Stays y xs = refl
carried_is (Takes x) y xs = refl
carried_is (Gives x l) y xs = refl

-- a word that lies between those of two nodes stays
pub between_after : (ws : List ℕ) (p z i k : ℕ) → 0 < k → k < 8 → get_or (set ws (lies_at p) z) (lies_at i + k) 0 ≡ get_or ws (lies_at i + k) 0
between_after ws p z i k low high = get_or-set_other ws (lies_at p) (lies_at i + k) z 0 (λ e. absurd (omega arith))

module _ (n : ℕ) (a : State) where
  pub place_below : (c : Change) → ChangesBelow n c → place_of c < suc n
  place_below (OfMemory before after) h = omega arith
  place_below (OfTag x before after) h = omega arith

  pub words_after : (ws : List ℕ) (c : Change) → length ws ≡ lies_at (suc n) → ChangesBelow n c → ((i : ℕ) → i < suc n → get_or ws (lies_at i) 0 ≡ word_at a i) → (i : ℕ) → i < suc n → get_or (set ws (lies_at (place_of c)) (after_of c)) (lies_at i) 0 ≡ word_after a c i
  words_after ws (OfMemory before after) long h old zero near = get_or-set_same ws 0 (mem_code after) 0 (omega arith)
  words_after ws (OfMemory before after) long h old (suc j) near = get_or-set_other ws 0 (lies_at (suc j)) (mem_code after) 0 (λ e. absurd (omega arith)) ∙ old (suc j) near
  words_after ws (OfTag x before after) long h old zero near = get_or-set_other ws (lies_at (suc x)) 0 (tag_code after) 0 (λ e. absurd (omega arith)) ∙ old 0 near
  words_after ws (OfTag x before after) long h old (suc j) near = dite (ℕ_discrete j x)
      (λ e. let m : lies_at (suc x) < length ws = omega arith in subst (λ (k : ℕ). get_or (set ws (lies_at (suc x)) (tag_code after)) (lies_at (suc k)) 0 ≡ tag_code (update a.tags x after k)) (sym e) (get_or-set_same ws (lies_at (suc x)) (tag_code after) 0 m ∙ ap tag_code (sym (update_here a.tags x after))))
      (λ ne. get_or-set_other ws (lies_at (suc x)) (lies_at (suc j)) (tag_code after) 0 (λ e. ne (omega arith)) ∙ (old (suc j) near ∙ ap tag_code (sym (update_else a.tags x after j ne))))

  module _ (hs : List (maybe.Option Line)) (long : length hs ≡ suc n) (old : (i : ℕ) → i < suc n → get_elem? hs i ≡ some (home_of (slot_in a i))) where
    memory_put : (o : Option Line) (i : ℕ) → i < suc n → (f : ℕ → Option Line) → f 0 ≡ o → ((j : ℕ) → f (suc j) ≡ a.slots j) → get_elem? (set hs 0 (home_of o)) i ≡ some (home_of (f i))
    memory_put o zero near f h k = set_here hs 0 (home_of o) (omega arith) ∙ ap (λ (z : Option Line). some (home_of z)) (sym h)
    memory_put o (suc j) near f h k = set_else hs 0 (suc j) (home_of o) (λ e. absurd (omega arith)) ∙ (old (suc j) near ∙ ap (λ (z : Option Line). some (home_of z)) (sym (k j)))

    node_put : (x : ℕ) (o : Option Line) (i : ℕ) → i < suc n → (f : ℕ → Option Line) → f 0 ≡ a.memory_slot → ((j : ℕ) → f (suc j) ≡ update a.slots x o j) → get_elem? (set hs (suc x) (home_of o)) i ≡ some (home_of (f i))
    node_put x o zero near f h k = set_else hs (suc x) 0 (home_of o) (λ e. absurd (omega arith)) ∙ (old 0 near ∙ ap (λ (z : Option Line). some (home_of z)) (sym h))
    node_put x o (suc j) near f h k = dite (ℕ_discrete j x)
        (λ e. let m : suc x < length hs = omega arith in subst (λ (i : ℕ). get_elem? (set hs (suc x) (home_of o)) (suc i) ≡ some (home_of (f (suc i)))) (sym e) (set_here hs (suc x) (home_of o) m ∙ ap (λ (z : Option Line). some (home_of z)) (sym (k x ∙ update_here a.slots x o))))
        (λ ne. set_else hs (suc x) (suc j) (home_of o) (λ e. ne (omega arith)) ∙ (old (suc j) near ∙ ap (λ (z : Option Line). some (home_of z)) (sym (k j ∙ update_else a.slots x o j ne))))

    pub homes_long : (c : Carry) (y : Line) (xs : List (ℕ × Line)) → Carries c xs → length (homes_after hs xs (act_of c y)) ≡ suc n
    homes_long Stays y xs ok = long
    homes_long (Takes x) y xs ok = length-set hs (slot_number x) none ∙ long
    homes_long (Gives x l) y xs ok = subst (λ (zs : List (ℕ × Line)). length (homes_after hs zs gives) ≡ suc n) (sym ok) (length-set hs (slot_number x) (some l) ∙ long)

    pub homes_after_row : (c : Carry) (y : Line) (xs : List (ℕ × Line)) → CarriesBelow n c → Carries c xs → (i : ℕ) → i < suc n → get_elem? (homes_after hs xs (act_of c y)) i ≡ some (home_of (slot_after a c i))
    homes_after_row Stays y xs h ok zero near = old zero near
    homes_after_row Stays y xs h ok (suc j) near = old (suc j) near
    homes_after_row (Takes Memory) y xs h ok i near = memory_put None i near (slot_after a (Takes Memory)) refl (λ j. refl)
    homes_after_row (Takes (Node x)) y xs h ok i near = node_put x None i near (slot_after a (Takes (Node x))) refl (λ j. refl)
    homes_after_row (Gives Memory l) y xs h ok i near = subst (λ (zs : List (ℕ × Line)). get_elem? (homes_after hs zs gives) i ≡ some (home_of (slot_after a (Gives Memory l) i))) (sym ok)
        (memory_put (Some l) i near (slot_after a (Gives Memory l)) refl (λ j. refl))
    homes_after_row (Gives (Node x) l) y xs h ok i near = subst (λ (zs : List (ℕ × Line)). get_elem? (homes_after hs zs gives) i ≡ some (home_of (slot_after a (Gives (Node x) l) i))) (sym ok)
        (node_put x (Some l) i near (slot_after a (Gives (Node x) l)) refl (λ j. refl))

    pub valid : (c : Carry) (xs : List (ℕ × Line)) → CarriesBelow n c → IsAtHome a c → Valid hs xs (act_of c (taken_line a c))
    valid Stays xs h at = tt
    valid (Takes Memory) xs h at = old 0 (omega arith) ∙ ap (λ (z : Option Line). some (home_of z)) at
    valid (Takes (Node x)) xs h at = old (suc x) (omega arith) ∙ ap (λ (z : Option Line). some (home_of z)) at
    valid (Gives x l) xs h at = tt

  pub beyond_after : (c : Change) (k : Carry) → ChangesBelow n c → CarriesBelow n k → ((i : ℕ) → n ≤ i → (a.tags i ≡ invalid) × (a.slots i ≡ Some blank)) → (i : ℕ) → n ≤ i → (tags_after a.tags c i ≡ invalid) × (slots_after a.slots k i ≡ Some blank)
  beyond_after c k h g old i far = (tags c h, slots k g)
    where
      tags : (c : Change) → ChangesBelow n c → tags_after a.tags c i ≡ invalid
      tags (OfMemory before after) h = (old i far).0
      tags (OfTag x before after) h = update_else a.tags x after i (λ e. absurd (omega arith)) ∙ (old i far).0

      slots : (k : Carry) → CarriesBelow n k → slots_after a.slots k i ≡ Some blank
      slots Stays g = (old i far).1
      slots (Takes Memory) g = (old i far).1
      slots (Takes (Node x)) g = update_else a.slots x None i (λ e. absurd (omega arith)) ∙ (old i far).1
      slots (Gives Memory l) g = (old i far).1
      slots (Gives (Node x) l) g = update_else a.slots x (Some l) i (λ e. absurd (omega arith)) ∙ (old i far).1

  -- the word found is the word before, where their codes are equal
  pub finds : (small : n ≤ 65535) → Below n (shape a) → (c : Change) → HasLinks c → word_at a (place_of c) ≡ before_of c → core.Finds a c
  finds small b (OfMemory before after) h e = one_mem Two a.memory before (link_further n 65535 a.memory.forw small (memory_links n a b)) h e
  finds small b (OfTag x before after) h e = one_tag Two (a.tags x) before (tag_links_further n 65535 (a.tags x) small (tag_links n a b x)) h e
