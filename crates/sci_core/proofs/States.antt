-- Lists read as functions of the node.
use Rattle.std.proofs.Common.{◌≡◌, ℕ, ◌<◌, ◌≤◌, cond, ltb, Option, Some, List, length, get_or, set, replicate, refl, sym, subst, arith}
use Rattle.std.proofs.lemmas.Bool.Decides.{nat_tests}
use Rattle.std.proofs.lemmas.List.{get_or-set_same, get_or-set_other, get_or-replicate, get_or_past, get_or_read_under, length-replicate}
use mathlib.Core.Path.{fun_ext}
use Rattle.sci_words.specs.declared.tags.Tag.{Tag}
use Rattle.sci_core.specs.declared.lines.Line.{Line}
use Rattle.sci_core.specs.declared.pending.Pending.{Pending}
use Rattle.sci_core.specs.declared.whole.TheConstants.{MOST_NODES}
use Rattle.sci_core.specs.State.{State, opened, update, invalid, blank}
use Rattle.sci_core.specs.Whole.{state_of, opened_whole, IsSound, IsRuled}
use Rattle.sci_core.proofs.Opening.{opened_witness, opened_is_lawful, opened_links}

read_at : {A : Type 0} (l : List A) (i j : ℕ) (v d : A) → i < length l → get_or (set l i v) j d ≡ update (λ k. get_or l k d) i v j
read_at l i j v d h = grind (arith, nat_tests, get_or-set_same l i v d, get_or-set_other l i j v d)

-- a list after a write
pub read_set : {A : Type 0} (l : List A) (i : ℕ) (v d : A) → i < length l → ◌≡◌ {A = ℕ → A} (λ j. get_or (set l i v) j d) (update (λ j. get_or l j d) i v)
read_set l i v d h = fun_ext (λ j. read_at l i j v d h)

pub replicated_at : {A : Type 0} (n i : ℕ) (a d : A) → get_or (replicate n a) i d ≡ cond (ltb i n) a d
replicated_at n i a d = grind (arith, nat_tests, get_or-replicate n i a d, get_or_past (replicate n a) i d, length-replicate n a)

slot_at : (n i : ℕ) (l : Line) → get_or (replicate n (Some l)) i (Some blank) ≡ Some (cond (ltb i n) l blank)
slot_at n i l = grind (arith, nat_tests, replicated_at n i (Some l) (Some blank))

tag_at : (n i : ℕ) → get_or (replicate n invalid) i invalid ≡ invalid
tag_at n i = grind (arith, nat_tests, replicated_at n i invalid invalid)

step_at : (n i : ℕ) → get_or (replicate n Pending.Idle) i Pending.Idle ≡ Pending.Idle
step_at n i = grind (arith, nat_tests, replicated_at n i Pending.Idle Pending.Idle)

pub tags_read : (n : ℕ) → ◌≡◌ {A = ℕ → Tag} (λ i. get_or (replicate n invalid) i invalid) (λ i. invalid)
tags_read n = fun_ext (λ i. tag_at n i)

steps_read : (n : ℕ) → ◌≡◌ {A = ℕ → Pending} (λ i. get_or (replicate n Pending.Idle) i Pending.Idle) (λ i. Pending.Idle)
steps_read n = fun_ext (λ i. step_at n i)

slots_read : (n : ℕ) (l : Line) → ◌≡◌ {A = ℕ → Option Line} (λ i. get_or (replicate n (Some l)) i (Some blank)) (λ i. Some (cond (ltb i n) l blank))
slots_read n l = fun_ext (λ i. slot_at n i l)

-- a line just opened is the opened state
pub opened_state : {K : Type 0} (keep : K) (number n : ℕ) (line : Line) → state_of (opened_whole keep number n line) ≡ opened n line
opened_state keep number n line = λ k. record {
  memory = (opened n line).memory;
  tags = tags_read n k;
  steps = steps_read n k;
  memory_slot = Some line;
  slots = slots_read n line k;
}

pub opened_is_ruled : (n : ℕ) (fits : List ℕ → Type 0) (line : Line) → fits line.words → IsRuled n fits (opened n line)
opened_is_ruled n fits line h = record {
  witness = opened_witness line;
  law = opened_is_lawful n line;
  links = opened_links n line;
  words = record { memory = refl; tags = λ i. refl };
  fit = h;
}

-- and it is sound
pub opened_is_sound : {K : Type 0} (fits : List ℕ → Type 0) (keep : K) (number n : ℕ) (line : Line) → 0 < n → n ≤ MOST_NODES → fits line.words → IsSound fits (opened_whole keep number n line)
opened_is_sound fits keep number n line some few h =
    let e : length (replicate n invalid) ≡ n = length-replicate n invalid in
    record {
      some = omega (arith, e);
      few = omega (arith, e);
      steps = omega (arith, e, length-replicate n Pending.Idle);
      slots = omega (arith, e, length-replicate n (Some line));
      ruled = subst (λ (m : ℕ). IsRuled m fits (state_of (opened_whole keep number n line))) (sym e)
          (subst (λ (s : State). IsRuled n fits s) (sym (opened_state keep number n line)) (opened_is_ruled n fits line h));
    }

-- what is read at a node's place
pub read_node : {A : Type 0} (l : List A) (i j : ℕ) (x d : A) → i ≡ j → j < length l → x ≡ get_or l i x → x ≡ get_or l j d
read_node l i j x d e h r = grind (arith, nat_tests, get_or_read_under l i (length l) x d)
