-- The table of the words that a line's writes show, by stamp. This project's profile.
use Rattle.std.specs.Prelude.{◌≡◌, ◌<◌, ◌⊎◌, ℕ, ◌+◌, ◌-◌, ◌==◌, Bool, true, false, List, Option, Some, None, length, get_or, is_some, if◌then◌else◌}
use mathlib.Core.Option.{some}
use lib.ListN.{get_elem?, set}
use Rattle.sci_core.specs.declared.receipts.Receipt.{Receipt}
use Rattle.sci_core.specs.declared.receipts.Receipt.TheVariants.{Read, Passed, Wrote}
use Rattle.sci_core.specs.Legal.{stamp_of, is_write}
use Rattle.sci_histories.specs.Histories.{LineReceipts, of_node}
use Rattle.sci_histories.specs.declared.rules.Rule.{Rule}
use Rattle.sci_histories.specs.declared.rules.Rule.TheVariants.{Within, Ordered, Written, Once, Agreed}
use Rattle.sci_histories.specs.Rules.{EachReceipt, KeepsWritten, KeepsOnce, KeepsAgreed}

-- a place in the nodes' lists comes before this one
abbrev pub IsEarlier : ℕ → ℕ → ℕ → ℕ → Type 0
IsEarlier node place j p = (j < node) ⊎ ((j ≡ node) × (p < place))

-- there are words in a slot
abbrev pub IsFull : List (Option (List ℕ)) → ℕ → Type 0
IsFull words k = (w : List ℕ) × (get_elem? words k ≡ some (Some w))

abbrev pub WritesAs : ℕ → List ℕ → Receipt → Type 0
WritesAs stamp words (Wrote before now s) = (s ≡ stamp) × (now ≡ words)
WritesAs stamp words (Read now s) = ⊥
WritesAs stamp words (Passed now s) = ⊥

-- the slot of a stamp: the first is that of the stamp above the opening one
abbrev pub slot : LineReceipts → ℕ → ℕ
slot h stamp = stamp - h.opening.stamp - 1

-- the words of the writes before this place stand in their slots, and nothing else; and whether two of them have one stamp
pub record IsTable (h : LineReceipts) (node place : ℕ) (words : List (Option (List ℕ))) (twice : Bool) : Type 0 where
  pub long : length words ≡ h.closing.stamp - h.opening.stamp
  pub seen : (j p : ℕ) (r : Receipt) → IsEarlier node place j p → get_elem? (of_node h j) p ≡ some r → is_write r ≡ true → IsFull words (slot h (stamp_of r))
  pub came : (k : ℕ) (w : List ℕ) → get_elem? words k ≡ some (Some w) → (j : ℕ) × (p : ℕ) × (r : Receipt) × IsEarlier node place j p × (get_elem? (of_node h j) p ≡ some r) × WritesAs (h.opening.stamp + 1 + k) w r
  pub again : twice ≡ true → KeepsOnce h → ⊥
  pub apart : twice ≡ false → (i j p q : ℕ) (r s : Receipt) → IsEarlier node place i p → IsEarlier node place j q → get_elem? (of_node h i) p ≡ some r → get_elem? (of_node h j) q ≡ some s → is_write r ≡ true → is_write s ≡ true → stamp_of r ≡ stamp_of s → (i ≡ j) × (p ≡ q)

-- one more receipt was noted, and whether a write with its stamp stood there
abbrev pub IsNoted : ℕ → Receipt → List (Option (List ℕ)) → List (Option (List ℕ)) → Bool → Type 0
IsNoted first (Wrote before now stamp) old new stood = (new ≡ set old (stamp - first - 1) (Some now)) × (stood ≡ is_some (get_or old (stamp - first - 1) None))
IsNoted first (Read now stamp) old new stood = (new ≡ old) × (stood ≡ false)
IsNoted first (Passed now stamp) old new stood = (new ≡ old) × (stood ≡ false)

-- the words at a stamp: the opening ones, or those in its slot
abbrev pub found : LineReceipts → List (Option (List ℕ)) → ℕ → Option (List ℕ)
found h words stamp = if stamp == h.opening.stamp then Some h.opening.words else get_or words (slot h stamp) None

-- what a receipt shows stands in the table
abbrev pub AgreesIn : LineReceipts → List (Option (List ℕ)) → Receipt → Type 0
AgreesIn h words (Read now stamp) = found h words stamp ≡ Some now
AgreesIn h words (Passed now stamp) = found h words stamp ≡ Some now
AgreesIn h words (Wrote before now stamp) = (found h words (stamp - 1) ≡ Some before) × (found h words stamp ≡ Some now)

pub record AllAgree (h : LineReceipts) (words : List (Option (List ℕ))) : Type 0 where
  pub last : found h words h.closing.stamp ≡ Some h.closing.words
  pub each : EachReceipt (AgreesIn h words) h

-- of the rules H3 to H5 the line breaks this one first
abbrev pub BreaksOf : Rule → LineReceipts → Type 0
BreaksOf Within h = ⊥
BreaksOf Ordered h = ⊥
BreaksOf Written h = KeepsWritten h → ⊥
BreaksOf Once h = KeepsWritten h × (KeepsOnce h → ⊥)
BreaksOf Agreed h = KeepsWritten h × KeepsOnce h × (KeepsAgreed h → ⊥)
