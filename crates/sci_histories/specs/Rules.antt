-- Which rule of a legal history a line's receipts break first. Coherence as in Culler and Singh; the rules' order is this project's profile.
use Rattle.std.specs.Prelude.{◌≡◌, ◌<◌, ◌≤◌, ℕ, ◌+◌, ◌-◌, List, true, length, All, slice_index_or}
use mathlib.Core.Option.{some}
use lib.ListN.{get_elem?}
use Rattle.sci_core.specs.declared.receipts.Receipt.{Receipt}
use Rattle.sci_core.specs.declared.receipts.Receipt.TheVariants.{Read, Passed, Wrote}
use Rattle.sci_core.specs.Legal.{stamp_of, is_write, IsLegal}
use Rattle.sci_histories.specs.Histories.{LineReceipts, of_node}
use Rattle.sci_histories.specs.declared.rules.Rule.{Rule}
use Rattle.sci_histories.specs.declared.rules.Rule.TheVariants.{Within, Ordered, Written, Once, Agreed}
use Rattle.sci_histories.specs.declared.rules.Verdict.{Verdict}
use Rattle.sci_histories.specs.declared.rules.Verdict.TheVariants.{Legal, Illegal}

-- P holds of each receipt of each node
abbrev pub EachReceipt : (Receipt → Type 0) → LineReceipts → Type 0
EachReceipt P h = (j p : ℕ) (r : Receipt) → get_elem? (of_node h j) p ≡ some r → P r

-- rule H1: no stamp is below the opening one or above the closing one, and a write's isn't the opening one
abbrev pub IsWithin : ℕ → ℕ → Receipt → Type 0
IsWithin first last (Read words stamp) = (first ≤ stamp) × (stamp ≤ last)
IsWithin first last (Passed words stamp) = (first ≤ stamp) × (stamp ≤ last)
IsWithin first last (Wrote before words stamp) = (first < stamp) × (stamp ≤ last)

abbrev pub KeepsWithin : LineReceipts → Type 0
KeepsWithin h = (h.opening.stamp ≤ h.closing.stamp) × EachReceipt (IsWithin h.opening.stamp h.closing.stamp) h

-- rule H2: in each node's list stamps never fall, and a write's is above all earlier ones
abbrev pub IsBehind : Receipt → Receipt → Type 0
IsBehind r s = (stamp_of r ≤ stamp_of s) × (is_write s ≡ true → stamp_of r < stamp_of s)

abbrev pub IsOrdered : List Receipt → Type 0
IsOrdered rs = (p q : ℕ) (r s : Receipt) → p < q → get_elem? rs p ≡ some r → get_elem? rs q ≡ some s → IsBehind r s

abbrev pub KeepsOrdered : LineReceipts → Type 0
KeepsOrdered h = (j : ℕ) → IsOrdered (of_node h j)

-- rule H3: each stamp above the opening one, up to the closing one, is that of a write
abbrev pub KeepsWritten : LineReceipts → Type 0
KeepsWritten h = (k : ℕ) → h.opening.stamp ≤ k → k < h.closing.stamp → (j : ℕ) × (p : ℕ) × (r : Receipt) × (get_elem? (of_node h j) p ≡ some r) × (is_write r ≡ true) × (stamp_of r ≡ k + 1)

-- rule H4: no two writes have one stamp
abbrev pub KeepsOnce : LineReceipts → Type 0
KeepsOnce h = (i j p q : ℕ) (r s : Receipt) → get_elem? (of_node h i) p ≡ some r → get_elem? (of_node h j) q ≡ some s → is_write r ≡ true → is_write s ≡ true → stamp_of r ≡ stamp_of s → (i ≡ j) × (p ≡ q)

-- rule H5: whatever shows the words of one stamp shows the same words: the opening content, the closing one, a receipt at its stamp, a
-- write also at the stamp below
abbrev pub Agrees : (ℕ → List ℕ) → Receipt → Type 0
Agrees history (Read words stamp) = history stamp ≡ words
Agrees history (Passed words stamp) = history stamp ≡ words
Agrees history (Wrote before words stamp) = (history (stamp - 1) ≡ before) × (history stamp ≡ words)

pub record IsHistoryOf (h : LineReceipts) (history : ℕ → List ℕ) : Type 0 where
  pub first : history h.opening.stamp ≡ h.opening.words
  pub last : history h.closing.stamp ≡ h.closing.words
  pub shown : EachReceipt (Agrees history) h

abbrev pub KeepsAgreed : LineReceipts → Type 0
KeepsAgreed h = (history : ℕ → List ℕ) × IsHistoryOf h history

-- the number of a rule: H1 to H5
abbrev pub rule_number : Rule → ℕ
rule_number Within = 1
rule_number Ordered = 2
rule_number Written = 3
rule_number Once = 4
rule_number Agreed = 5

-- the line breaks this rule, and none before it
abbrev pub BreaksFirst : Rule → LineReceipts → Type 0
BreaksFirst Within h = KeepsWithin h → ⊥
BreaksFirst Ordered h = KeepsWithin h × (KeepsOrdered h → ⊥)
BreaksFirst Written h = KeepsWithin h × KeepsOrdered h × (KeepsWritten h → ⊥)
BreaksFirst Once h = KeepsWithin h × KeepsOrdered h × KeepsWritten h × (KeepsOnce h → ⊥)
BreaksFirst Agreed h = KeepsWithin h × KeepsOrdered h × KeepsWritten h × KeepsOnce h × (KeepsAgreed h → ⊥)

-- a line's receipts are one history of it, whole
abbrev pub IsLegalLine : LineReceipts → Type 0
IsLegalLine h = IsLegal h.opening h.closing (of_node h)

abbrev pub AreLegal : List LineReceipts → Type 0
AreLegal hs = All IsLegalLine hs

-- the lines before this one are legal, and it breaks this rule first
pub record FirstBroken (hs : List LineReceipts) (number : ℕ) (rule : Rule) : Type 0 where
  pub is_line : number < length hs
  pub before : (i : ℕ) (d : LineReceipts) → i < number → IsLegalLine (slice_index_or hs i d)
  pub breaks : (d : LineReceipts) → BreaksFirst rule (slice_index_or hs number d)

abbrev pub IsVerdictOf : List LineReceipts → Verdict → Type 0
IsVerdictOf hs Legal = AreLegal hs
IsVerdictOf hs (Illegal number rule) = FirstBroken hs number rule
