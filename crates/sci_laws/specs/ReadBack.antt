-- What is read of the lines of a log that a run writes. This project's profile.
use Rattle.std.specs.Prelude.{◌≡◌, ℕ, ◌<◌, ◌^◌, ◌==◌, ◌&&◌, not, Bool, true, false, List, ◌++◌, length, All, Option, Some, None, Result, Ok, codes, is_some}
use Rattle.std.specs.List.{list_all}
use Rattle.sci_words.specs.declared.tags.Kind.{Kind}
use Rattle.sci_words.specs.declared.tags.Tag.{Tag}
use Rattle.sci_core.specs.declared.events.Event.{Event}
use Rattle.sci_port.specs.declared.watching.Ending.{Ending}
use Rattle.sci_port.specs.declared.watching.Load.{Load}
use Rattle.sci_port.specs.declared.watching.Passed.{Passed}
use Rattle.sci_logs.specs.declared.entries.Claim.{Claim}
use Rattle.sci_logs.specs.declared.told.Asks.{Asks}
use Rattle.sci_logs.specs.declared.told.Found.{Found}
use Rattle.sci_logs.specs.declared.told.Told.{Told}
use Rattle.sci_logs.specs.declared.told.Noted.{Noted}
use Rattle.sci_logs.specs.Names.{sample}

-- no byte of it is a line feed or a carriage return
abbrev pub is_kept : ℕ → Bool
is_kept b = not (b == 10) && not (b == 13)

abbrev pub IsPlain : List ℕ → Type 0
IsPlain bytes = list_all is_kept bytes ≡ true

-- one line of text that is read as this
abbrev pub IsReadAs : {A E : Type 0} → (List ℕ → Result A E) → List ℕ → A → Type 0
IsReadAs read line told = (text : List ℕ) × (line ≡ text ++ codes "\n") × IsPlain text × (read text ≡ Ok told)

-- a tag with the name of this one
abbrev pub is_followed : Kind → Option ℕ → Bool
is_followed Kind.Fresh forw = is_some forw
is_followed Kind.Dirty forw = is_some forw
is_followed Kind.Valid forw = is_some forw
is_followed _ forw = false

abbrev pub named : Tag → Tag
named tag = sample tag.kind (is_followed tag.kind tag.forw)

-- the node whose tag was loaded last, where another's was
abbrev pub whose : Option Load → Option ℕ
whose (Some (Load.Tag node tag)) = Some node
whose _ = None

abbrev pub on_tag : Asks → Option Load → Tag → Told
on_tag asks load found = Told.On asks (whose load) (Found.Named (named found))

-- what is told of an event, behind this load
abbrev pub told_of : Option Load → Event → Told
told_of load (Event.AttachFresh found) = on_tag Asks.AttachFresh load found
told_of load (Event.Hold found) = on_tag Asks.Hold load found
told_of load (Event.Convert found) = on_tag Asks.Convert load found
told_of load (Event.BeginPurge found) = on_tag Asks.BeginPurge load found
told_of load (Event.AttachDirty found) = on_tag Asks.AttachDirty load found
told_of load (Event.PurgeOne found) = on_tag Asks.PurgeOne load found
told_of load (Event.Roll found) = on_tag Asks.Roll load found
told_of load (Event.TellSuccessor found) = on_tag Asks.TellSuccessor load found
told_of load (Event.TellPredecessor found) = on_tag Asks.TellPredecessor load found
told_of load (Event.Adopt found) = on_tag Asks.Adopt load found
told_of load (Event.Leave found) = on_tag Asks.Leave load found
told_of load (Event.Promote found) = on_tag Asks.Promote load found
told_of load event = Told.Event event

abbrev pub claim_of : Ending → Claim
claim_of Ending.Done = Claim.Done
claim_of (Ending.Missed word) = Claim.Missed word
claim_of Ending.Busy = Claim.Busy

-- a link that a `NodeId` can be
abbrev pub IsLink : Option ℕ → Type 0
IsLink None = Unit {0}
IsLink (Some node) = node < 65535

abbrev pub AreWords : Option (List ℕ) → Type 0
AreWords None = Unit {0}
AreWords (Some words) = (length words ≡ 8) × All (λ word. word < 2 ^ 64) words

-- the last load was of another node's tag; or it wasn't
abbrev pub IsOfOther : Option Load → Type 0
IsOfOther (Some (Load.Tag node tag)) = node < 65535
IsOfOther _ = ⊥

abbrev pub IsOfOwn : Option Load → Type 0
IsOfOwn (Some (Load.Tag node tag)) = ⊥
IsOfOwn _ = Unit {0}

-- an event with its numbers in range; one on another node's tag stands behind a load of that, and one on the own tag doesn't
abbrev pub IsBehind : Option Load → Event → Type 0
IsBehind load (Event.Queue forw) = IsLink forw
IsBehind load (Event.Requeue forw) = IsLink forw
IsBehind load (Event.Written words) = AreWords words
IsBehind load (Event.Hold found) = IsOfOwn load
IsBehind load (Event.Convert found) = IsOfOwn load
IsBehind load (Event.BeginPurge found) = IsOfOwn load
IsBehind load (Event.Roll found) = IsOfOwn load
IsBehind load (Event.Leave found) = IsOfOwn load
IsBehind load (Event.AttachFresh found) = IsOfOther load
IsBehind load (Event.AttachDirty found) = IsOfOther load
IsBehind load (Event.PurgeOne found) = IsOfOther load
IsBehind load (Event.TellSuccessor found) = IsOfOther load
IsBehind load (Event.TellPredecessor found) = IsOfOther load
IsBehind load (Event.Adopt found) = IsOfOther load
IsBehind load (Event.Promote found) = IsOfOther load
IsBehind load event = Unit {0}

-- an event that asks for a tag doesn't miss: it finds the tag that was loaded in the same turn
abbrev pub asks_for_tag : Told → Bool
asks_for_tag (Told.Event event) = false
asks_for_tag (Told.On asks whose found) = true

abbrev pub MayEnd : Told → Ending → Type 0
MayEnd told (Ending.Missed word) = (asks_for_tag told ≡ false) × (word < 2 ^ 64)
MayEnd told ending = Unit {0}

-- a look, and the exchange of a turn
abbrev pub look_of : ℕ → ℕ → Noted
look_of node line = record { node = node; line = line; told = Told.Event Event.Look; claim = Claim.Done }

abbrev pub noted_of : ℕ → Passed → Event → Ending → Noted
noted_of node passed event ending = record { node = node; line = passed.line; told = told_of passed.load event; claim = claim_of ending }
