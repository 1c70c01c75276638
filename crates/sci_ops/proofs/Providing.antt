-- When an operation has the room that it needs.
use Rattle.std.proofs.Common.{◌≡◌, ◌≤◌, Bool, true, false, List, refl, ap, ◌∙◌, arith}
use Rattle.sci_core.specs.declared.pending.Pending.{Pending}
use Rattle.sci_core.specs.declared.receipts.Receipt.{Receipt}
use Rattle.sci_port.specs.ReceiptList.{ReceiptList, last_passed}
use Rattle.sci_ops.specs.declared.goals.Goal.{Goal}
use Rattle.sci_ops.specs.Room.{HasNeed, is_passing, need_in, need_towards}

most_needed : (goal : Goal) (passed : Bool) → need_towards goal passed ≤ need_towards goal false
most_needed Goal.Load passed = let z : 1 ≤ 1 = omega arith in z
most_needed (Goal.Write w) true = let z : 1 ≤ 2 = omega arith in z
most_needed (Goal.Write w) false = let z : 2 ≤ 2 = omega arith in z
most_needed Goal.Evict true = let z : 0 ≤ 1 = omega arith in z
most_needed Goal.Evict false = let z : 1 ≤ 1 = omega arith in z

-- a node that is Idle needs no more than where nothing was passed
pub idle_need : (goal : Goal) (s : ReceiptList) → need_in goal Pending.Idle s ≤ need_towards goal false
idle_need Goal.Load s = most_needed Goal.Load false
idle_need (Goal.Write w) s = most_needed (Goal.Write w) (last_passed s.list)
idle_need Goal.Evict s = most_needed Goal.Evict (last_passed s.list)

pub idle_provided : (goal : Goal) (s : ReceiptList) → s.passing ≡ is_passing goal → need_towards goal false ≤ s.room → HasNeed goal Pending.Idle s
idle_provided goal s mark room = let most = idle_need goal s in record { mark = mark; room = omega arith }

-- the need is that of the list alone
pub same_need : (goal : Goal) (p : Pending) (s t : ReceiptList) → t.list ≡ s.list → need_in goal p t ≡ need_in goal p s
same_need Goal.Load p s t e = refl
same_need (Goal.Write w) (Pending.Holding x l) s t e = refl
same_need (Goal.Write w) _ s t e = ap (λ (l : List Receipt). need_towards (Goal.Write w) (last_passed l)) e
same_need Goal.Evict (Pending.Holding x l) s t e = refl
same_need Goal.Evict _ s t e = ap (λ (l : List Receipt). need_towards Goal.Evict (last_passed l)) e

-- with the same receipts, the same mark and no less room it still has what it needs
pub still_provided : (goal : Goal) (p : Pending) (s t : ReceiptList) → t.list ≡ s.list → t.passing ≡ s.passing → s.room ≤ t.room → HasNeed goal p s → HasNeed goal p t
still_provided goal p s t list mark grows h =
    let same : need_in goal p t ≡ need_in goal p s = same_need goal p s t list in
    let room : need_in goal p s ≤ s.room = h.room in
    record { mark = mark ∙ h.mark; room = omega arith }
