-- The slots that a node has in hand. This project's profile.
use Rattle.std.specs.Prelude.{◌≡◌, ℕ, List, [], ◌∷◌, drop}
use Rattle.sci_core.specs.declared.pending.Pending.{Pending}
use Rattle.sci_core.specs.declared.rows.Place.{Place}
use Rattle.sci_core.specs.declared.rows.Place.TheVariants.{Memory, Node}
use Rattle.sci_core.specs.declared.rows.Carry.{Carry}
use Rattle.sci_core.specs.declared.rows.Carry.TheVariants.{Stays, Takes, Gives}

-- the slots in the hand of the node me, the last one taken first
abbrev pub hand_of : ℕ → Pending → List Place
hand_of me Pending.Idle = []
hand_of me (Pending.Holding w l) = Node me ∷ []
hand_of me (Pending.Queueing f) = Node me ∷ []
hand_of me (Pending.Fetching f d l) = Memory ∷ Node me ∷ []
hand_of me (Pending.InQueue f d c) = Node me ∷ []
hand_of me (Pending.Copying x w l) = Node x ∷ Node me ∷ []
hand_of me (Pending.Ready f d l) = Node me ∷ []
hand_of me (Pending.Converting f turned) = []
hand_of me (Pending.Purging l seen) = Node me ∷ []
hand_of me (Pending.Advancing l x w) = Node me ∷ []
hand_of me (Pending.Clearing l x w) = Node me ∷ []
hand_of me (Pending.Leaving d l seen) = Node me ∷ []
hand_of me (Pending.Promoted d l x) = Node me ∷ []
hand_of me (Pending.WritingBack l) = Memory ∷ Node me ∷ []
hand_of me (Pending.Parted f) = Node me ∷ []
hand_of me (Pending.Rolling told seen) = []
hand_of me (Pending.Unlinked f b) = []

-- what is given back was taken last
abbrev pub GivesLast : Carry → List Place → Type 0
GivesLast Stays hand = Unit {0}
GivesLast (Takes x) hand = Unit {0}
GivesLast (Gives x l) hand = hand ≡ x ∷ drop 1 hand

-- the hand after a slot was moved
abbrev pub hand_after : Carry → List Place → List Place
hand_after Stays hand = hand
hand_after (Takes x) hand = x ∷ hand
hand_after (Gives x l) hand = drop 1 hand
