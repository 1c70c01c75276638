-- The words and the slots of a row are those of nodes of the line.
use Rattle.std.specs.Prelude.{ℕ, ◌<◌}
use Rattle.sci_core.specs.declared.rows.Change.{Change}
use Rattle.sci_core.specs.declared.rows.Change.TheVariants.{OfMemory, OfTag}
use Rattle.sci_core.specs.declared.rows.Place.{Place}
use Rattle.sci_core.specs.declared.rows.Place.TheVariants.{Memory, Node}
use Rattle.sci_core.specs.declared.rows.Carry.{Carry}
use Rattle.sci_core.specs.declared.rows.Carry.TheVariants.{Stays, Takes, Gives}

-- the word that is changed is memory's, or that of a node below n
abbrev pub ChangesBelow : ℕ → Change → Type 0
ChangesBelow n (OfMemory before after) = Unit {0}
ChangesBelow n (OfTag x before after) = x < n

abbrev pub PlaceBelow : ℕ → Place → Type 0
PlaceBelow n Memory = Unit {0}
PlaceBelow n (Node x) = x < n

-- the slot that is moved is memory's, or that of a node below n
abbrev pub CarriesBelow : ℕ → Carry → Type 0
CarriesBelow n Stays = Unit {0}
CarriesBelow n (Takes x) = PlaceBelow n x
CarriesBelow n (Gives x l) = PlaceBelow n x
