-- Numbers that loops keep as they go on.
use Rattle.std.proofs.Common.{◌≡◌, ℕ, ◌+◌, ◌≤◌, arith}

pub from_none : (k n : ℕ) → n ≡ 0 → k ≡ k + n
from_none k n none = omega (arith, none)

pub none_done : (done left all : ℕ) → done ≡ 0 → left ≡ all → done + left ≡ all
none_done done left all none is = omega (arith, none, is)

-- one of those that are left is done
pub moved_one : (done left all done2 left2 : ℕ) → done + left ≡ all → left2 + 1 ≡ left → done2 ≡ done + 1 → done2 + left2 ≡ all
moved_one done left all done2 left2 was less more = omega (arith, was, less, more)

pub both_less : (a b a2 b2 : ℕ) → a ≡ b → a2 + 1 ≡ a → b2 + 1 ≡ b → a2 ≡ b2
both_less a b a2 b2 same fewer other = omega (arith, same, fewer, other)

-- at the end none is left
pub all_done : (left done end all : ℕ) → left + done ≡ all → end ≤ done → end ≡ all → left ≡ 0
all_done left done end all was over is = omega (arith, was, over, is)
