-- What definitions of receipts come to in plain cases.
use Rattle.std.proofs.Common.{◌≡◌, ◌≢◌, inl, inr, ℕ, ◌≤◌, Bool, true, false, nat_eq, if◌then◌else◌, Option, Some, None, IfSome, List, [], ◌∷◌, ◌++◌, length, sym, ap, subst, ◌∙◌, arith}
use Rattle.std.specs.Prelude.{not, ◌&&◌}
use Rattle.std.proofs.lemmas.List.{length-append}
use Rattle.sci_core.specs.declared.pending.Pending.{Pending}
use Rattle.sci_core.specs.declared.receipts.Receipt.{Receipt}
use Rattle.sci_core.specs.declared.receipts.Receipt.TheVariants.{Read, Passed, Wrote}
use Rattle.sci_port.specs.KeepsAll.{Extends}
use Rattle.sci_port.specs.KeepsTo.{apart, is_passed}
use Rattle.sci_port.specs.ReceiptList.{ReceiptList}
use Rattle.sci_ops.specs.declared.answers.Answer.{Answer}
use Rattle.sci_ops.specs.declared.goals.Goal.{Goal}
use Rattle.sci_ops.specs.Room.{HasNeed, IsProvided, is_passing, need_in, need_until}
use Rattle.sci_ops.specs.Table.{begun}
use Rattle.sci_cache.specs.Called.{is_victim}
use Rattle.sci_cache.proofs.Begun.{if_not, if_so}
use Rattle.sci_cache.proofs.Ordered.{other_number, same_line}
use Rattle.sci_shared_tests.specs.Plain.{LastIsNew, NeedIsEnough, NoTwoPassed}

-- ---- two Passed

second : (a b : Bool) → (a && b) ≡ true → b ≡ true
second true b h = h
second false b h = absurd (let e = h in cc)

together : (one other : Receipt) (more : List Receipt) → is_passed one ≡ true → is_passed other ≡ true → apart (one ∷ other ∷ more) ≡ true → ⊥
together (Passed w s) (Passed v t) more h k e = let f = e in cc
together (Passed w s) (Read v t) more h k e = let f = k in cc
together (Passed w s) (Wrote b v t) more h k e = let f = k in cc
together (Read w s) other more h k e = let f = h in cc
together (Wrote b w s) other more h k e = let f = h in cc

pub no_two_passed : NoTwoPassed
no_two_passed [] more one other h k e = together one other more h k e
no_two_passed (x ∷ []) more one other h k e = together one other more h k (second (not (is_passed x && is_passed one)) (apart (one ∷ other ∷ more)) e)
no_two_passed (x ∷ y ∷ front) more one other h k e = no_two_passed (y ∷ front) more one other h k (second (not (is_passed x && is_passed y)) (apart (y ∷ (front ++ one ∷ other ∷ more))) e)

-- ---- a new receipt

no_shorter : (before front : List Receipt) → Extends before front → length before ≤ length front
no_shorter before front (inl h) = let e = ap length h.is ∙ length-append before h.more in omega (arith, e)
no_shorter before front (inr h) =
    let e = ap length h.was ∙ length-append h.front (h.last ∷ []) in
    let f = ap length h.is ∙ length-append h.front (h.by ∷ h.more) in
    omega (arith, e, f)

pub last_is_new : LastIsNew
last_is_new before receipt h =
    let e = ap length h.is ∙ length-append h.front (receipt ∷ []) in
    let f = no_shorter before h.front h.extends in
    omega (arith, e, f)

-- ---- what a call needs

provided_by : (goal : Goal) (answer : Option Answer) (p : Pending) (s : ReceiptList) → s.passing ≡ is_passing goal → need_until goal answer p s ≤ s.room → IsProvided goal answer p s
provided_by goal (Some a) p s mark room = tt
provided_by goal None p s mark room = record { mark = mark; room = room }

module _ (line : ℕ) (own : ℕ → ℕ) (step : ℕ → Pending) (receipts : ℕ → ReceiptList) where
  exit_by : (w : Option ℕ) → IfSome w (λ x. line ≢ x) → IfSome w (λ x. (receipts x).passing ≡ true) → ((m : ℕ) → (if nat_eq line m then own m else (if is_victim w m then need_in Goal.Evict (step m) (receipts m) else 0)) ≤ (receipts m).room) → IfSome w (λ x. HasNeed Goal.Evict (step x) (receipts x))
  exit_by None apart mark h = tt
  exit_by (Some x) apart mark h = record {
    mark = mark;
    room =
        subst (λ (k : ℕ). k ≤ (receipts x).room) (if_so (nat_eq x x) (need_in Goal.Evict (step x) (receipts x)) 0 (same_line x))
        (subst (λ (k : ℕ). k ≤ (receipts x).room) (if_not (nat_eq line x) (own x) (if nat_eq x x then need_in Goal.Evict (step x) (receipts x) else 0) (other_number line x (λ e. apart (sym e)))) (h x));
  }

pub need_is_enough : NeedIsEnough
need_is_enough c step receipts marked rooms = record {
  line = provided_by c.goal None (step c.line) (receipts c.line) marked.line
      (subst (λ (k : ℕ). k ≤ (receipts c.line).room) (if_so (nat_eq c.line c.line) (need_in c.goal (step c.line) (receipts c.line)) _ (same_line c.line)) (rooms c.line));
  exit = exit_by c.line (λ m. need_in c.goal (step m) (receipts m)) step receipts c.victim marked.apart marked.exit rooms;
  apart = marked.apart;
}
