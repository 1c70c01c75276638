-- Which rule of an exact sharing list a closed line breaks first. IEEE Std 1596-1992; this project's profile.
use Rattle.std.specs.Prelude.{◌<◌, ℕ, List, Bool, true, false, length, All, slice_index_or}
use Rattle.sci_words.specs.declared.tags.Tag.{Tag}
use Rattle.sci_core.specs.declared.lines.Line.{Line}
use Rattle.sci_core.specs.Closed.{ClosedLine, IsExactClosed}
use Rattle.sci_core.specs.Exact.{IsSettled, IsEnding, ListsSharers, IsLinkedBack, SuitsMemory, HasEqualLines}
use Rattle.sci_core.specs.State.{invalid, blank}
use Rattle.sci_dump.specs.declared.checking.Rule.{Rule}
use Rattle.sci_dump.specs.declared.checking.Rule.TheVariants.{Settled, Ending, Listed, Linked, Suited, Equal}
use Rattle.sci_dump.specs.declared.checking.Verdict.{Verdict}
use Rattle.sci_dump.specs.declared.checking.Verdict.TheVariants.{Lawful, Unlawful}

abbrev pub tag : ClosedLine → ℕ → Tag
tag c i = slice_index_or c.tags i invalid

abbrev pub line : ClosedLine → ℕ → Line
line c i = slice_index_or c.lines i blank

-- the answer is yes where it holds, and no where it doesn't
abbrev pub Decides : Bool → Type 0 → Type 0
Decides true P = P
Decides false P = P → ⊥

-- rule C1: memory isn't lent, no tag is held, and every kind is Invalid, Fresh, Dirty or Valid
abbrev pub KeepsSettled : ClosedLine → Type 0
KeepsSettled c = IsSettled (length c.tags) c.mem (tag c)

-- rule C2, which these nodes show: they are the forward links from memory, distinct, and below the number of nodes
abbrev pub KeepsEnding : ClosedLine → List ℕ → Type 0
KeepsEnding c nodes = IsEnding (length c.tags) c.mem (tag c) nodes

abbrev pub Ends : ClosedLine → Type 0
Ends c = (nodes : List ℕ) × KeepsEnding c nodes

-- rule C3, of these nodes: a node is among them exactly if it isn't Invalid
abbrev pub KeepsListed : ClosedLine → List ℕ → Type 0
KeepsListed c nodes = ListsSharers (length c.tags) (tag c) nodes

-- rule C4: the first is Fresh or Dirty, each later one Valid with the one before it as back link
abbrev pub KeepsLinked : ClosedLine → List ℕ → Type 0
KeepsLinked c nodes = IsLinkedBack c.mem (tag c) nodes

-- rule C5: Fresh stands under FRESH, Dirty under GONE
abbrev pub KeepsSuited : ClosedLine → List ℕ → Type 0
KeepsSuited c nodes = SuitsMemory c.mem (tag c) nodes

-- rule C6: their lines are equal, and equal to memory's unless GONE
abbrev pub KeepsEqual : ClosedLine → List ℕ → Type 0
KeepsEqual c nodes = HasEqualLines c.mem c.memory (line c) nodes

-- the number of a rule: C1 to C6
abbrev pub rule_number : Rule → ℕ
rule_number Settled = 1
rule_number Ending = 2
rule_number Listed = 3
rule_number Linked = 4
rule_number Suited = 5
rule_number Equal = 6

-- the line breaks this rule, and none before it
abbrev pub BreaksFirst : Rule → ClosedLine → Type 0
BreaksFirst Settled c = KeepsSettled c → ⊥
BreaksFirst Ending c = KeepsSettled c × ((nodes : List ℕ) → KeepsEnding c nodes → ⊥)
BreaksFirst Listed c = KeepsSettled c × (nodes : List ℕ) × KeepsEnding c nodes × (KeepsListed c nodes → ⊥)
BreaksFirst Linked c = KeepsSettled c × (nodes : List ℕ) × KeepsEnding c nodes × KeepsListed c nodes × (KeepsLinked c nodes → ⊥)
BreaksFirst Suited c = KeepsSettled c × (nodes : List ℕ) × KeepsEnding c nodes × KeepsListed c nodes × KeepsLinked c nodes × (KeepsSuited c nodes → ⊥)
BreaksFirst Equal c = KeepsSettled c × (nodes : List ℕ) × KeepsEnding c nodes × KeepsListed c nodes × KeepsLinked c nodes × KeepsSuited c nodes × (KeepsEqual c nodes → ⊥)

-- each line is an exact sharing list
abbrev pub AreExact : List ClosedLine → Type 0
AreExact cs = All IsExactClosed cs

-- the lines before this one are exact, and it breaks this rule first
pub record FirstBroken (cs : List ClosedLine) (number : ℕ) (rule : Rule) : Type 0 where
  pub is_line : number < length cs
  pub before : (i : ℕ) (d : ClosedLine) → i < number → IsExactClosed (slice_index_or cs i d)
  pub breaks : (d : ClosedLine) → BreaksFirst rule (slice_index_or cs number d)

abbrev pub IsVerdictOf : List ClosedLine → Verdict → Type 0
IsVerdictOf cs Lawful = AreExact cs
IsVerdictOf cs (Unlawful number rule) = FirstBroken cs number rule
