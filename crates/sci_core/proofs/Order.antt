-- What a push before the head, and the head's exit, leave of the order of a chain.
use Rattle.std.proofs.Common.{◌≡◌, ℕ, ◌+◌, ◌<◌, Option, Some, None, refl, arith}
use Rattle.std.proofs.lemmas.Bool.Decides.{nat_tests}
use Rattle.sci_core.specs.State.{update}
use Rattle.sci_core.specs.Law.{Order}

-- me comes first in an empty chain
pub push_first : {forw : ℕ → Option ℕ} {rank : ℕ → ℕ} (me : ℕ)
    → forw me ≡ None → Order None forw rank → Order (Some me) forw (update rank me 1)
push_first {forw} {rank} me last o = record {
  empty = λ i e. cc;
  head_in = λ h e. grind (arith, nat_tests);
  head_top = λ h i e. grind (arith, nat_tests, o.empty);
  apart = λ i j p e. grind (arith, nat_tests, o.empty);
  next_in = λ i j p e. grind (arith, nat_tests, o.empty);
  next_below = λ i j p e. grind (arith, nat_tests, o.empty);
  next_first = λ i j m p e r. grind (arith, nat_tests, o.empty);
  last = λ i m p e r. grind (arith, nat_tests, o.empty);
}

-- me comes before the head
pub push_next : {forw : ℕ → Option ℕ} {rank : ℕ → ℕ} (me head : ℕ)
    → forw me ≡ Some head → rank me ≡ 0 → Order (Some head) forw rank → Order (Some me) forw (update rank me (rank head + 1))
push_next {forw} {rank} me head next out o = record {
  empty = λ i e. cc;
  head_in = λ x e. grind (arith, nat_tests);
  head_top = λ x i e. grind (arith, nat_tests, o.head_top);
  apart = λ i j p e. grind (arith, nat_tests, o.head_top, o.apart);
  next_in = λ i j p e. grind (arith, nat_tests, o.next_in, o.head_in);
  next_below = λ i j p e. grind (arith, nat_tests, o.next_below, o.head_top, o.head_in);
  next_first = λ i j m p e r. grind (arith, nat_tests, o.next_first, o.head_top);
  last = λ i m p e r. grind (arith, nat_tests, o.last, o.head_top);
}

-- the head me leaves
pub pop : {forw : ℕ → Option ℕ} {rank : ℕ → ℕ} (me : ℕ) (to : Option ℕ)
    → forw me ≡ to → Order (Some me) forw rank → Order to forw (update rank me 0)
pop {forw} {rank} me None last o =
    let me_in : 0 < rank me = o.head_in me refl in
    record {
      empty = λ i e. grind (arith, nat_tests, o.last me i, o.head_top me i, o.apart me i);
      head_in = λ h e. cc;
      head_top = λ h i e. cc;
      apart = λ i j p e. grind (arith, nat_tests, o.apart);
      next_in = λ i j p e. grind (arith, nat_tests, o.next_in i j, o.next_below i j, o.head_top me i);
      next_below = λ i j p e. grind (arith, nat_tests, o.next_below i j);
      next_first = λ i j m p e r. grind (arith, nat_tests, o.next_first i j m);
      last = λ i m p e r. grind (arith, nat_tests, o.last i m);
    }
pop {forw} {rank} me (Some next) me_forw o =
    let me_in : 0 < rank me = o.head_in me refl in
    record {
      empty = λ i e. cc;
      head_in = λ h e. grind (arith, nat_tests, o.next_in me next, o.next_below me next);
      head_top = λ h i e. grind (arith, nat_tests, o.next_first me next i, o.head_top me i, o.apart me i, o.next_below me next);
      apart = λ i j p e. grind (arith, nat_tests, o.apart);
      next_in = λ i j p e. grind (arith, nat_tests, o.next_in i j, o.next_below i j, o.head_top me i);
      next_below = λ i j p e. grind (arith, nat_tests, o.next_below i j);
      next_first = λ i j m p e r. grind (arith, nat_tests, o.next_first i j m);
      last = λ i m p e r. grind (arith, nat_tests, o.last i m);
    }
