-- Which histories have a text that is read back. This project's profile.
use Rattle.std.specs.Prelude.{◌≡◌, ℕ, ◌<◌, ◌≤◌, ◌^◌, List, length, All}
use Rattle.sci_core.specs.declared.receipts.Receipt.{Receipt}
use Rattle.sci_core.specs.declared.receipts.Receipt.TheVariants.{Read, Passed, Wrote}
use Rattle.sci_core.specs.declared.whole.TheConstants.{MOST_NODES}
use Rattle.sci_dump.specs.ReadBack.{IsContent}
use Rattle.sci_histories.specs.Histories.{LineReceipts}

-- stamps and eight words, numbers of 64 bits
abbrev pub IsReceipt : Receipt → Type 0
IsReceipt (Read words stamp) = IsContent (record { words = words; stamp = stamp })
IsReceipt (Passed words stamp) = IsContent (record { words = words; stamp = stamp })
IsReceipt (Wrote before words stamp) = IsContent (record { words = words; stamp = stamp }) × IsContent (record { words = before; stamp = stamp })

pub record IsLineOf (nodes : ℕ) (h : LineReceipts) : Type 0 where
  pub opening : IsContent h.opening
  pub closing : IsContent h.closing
  pub lists : length h.lists ≡ nodes
  pub each : All (λ rs. All IsReceipt rs) h.lists

-- 1 to 1,024 lines of the same 1 to 1,024 nodes
pub record CanBeWritten (nodes : ℕ) (hs : List LineReceipts) : Type 0 where
  pub few : (1 ≤ nodes) × (nodes ≤ MOST_NODES)
  pub lines : (1 ≤ length hs) × (length hs ≤ 1024)
  pub each : All (IsLineOf nodes) hs
