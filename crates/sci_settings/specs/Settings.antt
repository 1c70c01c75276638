-- What a text says as the settings of a run. This project's profile, over TOML 1.1.
use Rattle.std.specs.Prelude.{◌≡◌, IsUtf8, is_some, string_bytes, true, option_map, map, ℕ, ◌+◌, ◌%◌, ℤ, pos, negsuc, Bool, false, ◌&&◌, List, [], ◌∷◌, length, Option, Some, None, Result, Ok, Err, option_and_then, codes, nat_le, ◌==◌, if◌then◌else◌}
use Rattle.std.specs.List.{list_all, list_any}
use Rattle.std.specs.Str.{bytes_eq}
use Rattle.toml.specs.Data.{Data, Items, no_items, item, Members, no_members, member, get_member, get_item, as_str, as_integer, as_bool, as_array, type_name}
use Rattle.toml.specs.Parse.{parse_document}
use Rattle.sci_settings.specs.declared.refusals.SettingsRefusal.{SettingsRefusal}
use Rattle.sci_settings.specs.declared.refusals.SettingsRefusal.TheVariants.{OutOfMemory, BadSettings}
use Rattle.sci_settings.specs.declared.settings.Settings.{Settings}
use Rattle.sci_settings.specs.declared.settings.Settings.TheVariants.{Stencil, Ring, Count}
use Rattle.sci_settings.specs.declared.works.Work.{Work}
use Rattle.sci_settings.specs.declared.works.Work.TheVariants as work
use Rattle.sci_settings.specs.declared.misfits.Found.{Found}
use Rattle.sci_settings.specs.declared.misfits.Found.TheVariants.{Integer, Text, Array, Other}
use Rattle.sci_settings.specs.declared.misfits.Misfit.{Misfit}
use Rattle.sci_settings.specs.declared.misfits.Misfit.TheVariants.{Missing, Foreign, Item, Value}
use Rattle.sci_settings.specs.declared.misfits.Unread.{Unread}
use Rattle.sci_settings.specs.declared.misfits.Unread.TheVariants as unread
use Rattle.sci_settings.specs.declared.misfits.Wanted.{Wanted}
use Rattle.sci_settings.specs.declared.misfits.Wanted.TheVariants as wants
use Rattle.sci_settings.specs.declared.why.SettingsReason.{SettingsReason}
use Rattle.sci_settings.specs.declared.why.SettingsReason.TheVariants as reasons
use Rattle.sci_settings.specs.declared.why.SettingsReason.TheVariants.{NoToml}

infixl 10 ◌>>=◌
abbrev pub ◌>>=◌ : {A B : Type 0} → Option A → (A → Option B) → Option B
o >>= f = option_and_then f o

-- the keys of a table
abbrev pub table_keys : Members → List (List ℕ)
table_keys no_members = []
table_keys (member k d ms) = k ∷ table_keys ms

-- the keys that a work may have, and what it wants at each
abbrev pub wants_of : Work → List (List ℕ × Wanted)
wants_of work.Stencil = (codes "work", wants.Work) ∷ (codes "nodes", wants.Number 1 64) ∷ (codes "capacity", wants.Number 1 1024) ∷ (codes "phases", wants.Number 0 1000000) ∷ (codes "cells", wants.Cells) ∷ (codes "dump", wants.Flag) ∷ []
wants_of work.Ring = (codes "work", wants.Work) ∷ (codes "lines", wants.Number 1 1023) ∷ (codes "capacity", wants.Number 1 1024) ∷ (codes "items", wants.Items) ∷ (codes "dump", wants.Flag) ∷ []
wants_of work.Count = (codes "work", wants.Work) ∷ (codes "nodes", wants.Number 1 64) ∷ (codes "adds", wants.Number 0 1000000) ∷ (codes "capacity", wants.Number 1 1024) ∷ (codes "dump", wants.Flag) ∷ []

abbrev pub keys_of : Work → List (List ℕ)
keys_of work = map (λ row. row.0) (wants_of work)

abbrev pub is_key_of : Work → List ℕ → Bool
is_key_of work key = list_any (bytes_eq key) (keys_of work)

-- each key of the table is one of the work's
abbrev pub has_keys_of : Work → Members → Bool
has_keys_of work ms = list_all (is_key_of work) (table_keys ms)

-- the number that an integer from 0 is
abbrev pub natural : ℤ → Option ℕ
natural (pos n) = Some n
natural (negsuc n) = None

abbrev pub number_in : Data → Option ℕ
number_in d = as_integer d >>= natural

abbrev pub within : ℕ → ℕ → ℕ → Option ℕ
within low high n = if nat_le low n && nat_le n high then Some n else None

-- the number at a key, from low to high
abbrev pub number_at : List ℕ → ℕ → ℕ → Members → Option ℕ
number_at key low high ms = get_member key ms >>= number_in >>= within low high

-- the numbers that items are, integers from 0 all of them
abbrev pub numbers_in : Items → Option (List ℕ)
numbers_in no_items = Some []
numbers_in (item d ds) = number_in d >>= λ n. numbers_in ds >>= λ ns. Some (n ∷ ns)

abbrev pub numbers_at : List ℕ → Members → Option (List ℕ)
numbers_at key ms = get_member key ms >>= as_array >>= numbers_in

-- whether the dump is wanted too: not, where nothing is said
abbrev pub flag_of : Option Data → Option Bool
flag_of None = Some false
flag_of (Some d) = as_bool d

abbrev pub dump_at : Members → Option Bool
dump_at ms = flag_of (get_member (codes "dump") ms)

-- 1 to 512 tiles, of seven cells each
abbrev pub are_cells : List ℕ → Bool
are_cells cells = nat_le 1 (length cells) && nat_le (length cells) 3584 && (length cells % 7 == 0)

abbrev pub are_items : List ℕ → Bool
are_items items = nat_le (length items) 100000

abbrev pub if_so : {A : Type 0} → (A → Bool) → A → Option A
if_so f x = if f x then Some x else None

-- the work that a table names
abbrev pub named : List ℕ → Option Work
named name = if bytes_eq name (codes "stencil") then Some work.Stencil else if bytes_eq name (codes "ring") then Some work.Ring else if bytes_eq name (codes "count") then Some work.Count else None

abbrev pub work_at : Members → Option Work
work_at ms = get_member (codes "work") ms >>= as_str >>= named

-- each work's settings
unfoldable pub settings_for : Work → Members → Option Settings
settings_for work.Stencil ms = do
  nodes ← number_at (codes "nodes") 1 64 ms
  capacity ← number_at (codes "capacity") 1 1024 ms
  phases ← number_at (codes "phases") 0 1000000 ms
  cells ← numbers_at (codes "cells") ms >>= if_so are_cells
  dump ← dump_at ms
  Some (Stencil nodes capacity phases cells dump)
settings_for work.Ring ms = do
  lines ← number_at (codes "lines") 1 1023 ms
  capacity ← number_at (codes "capacity") 1 1024 ms
  items ← numbers_at (codes "items") ms >>= if_so are_items
  dump ← dump_at ms
  Some (Ring lines capacity items dump)
settings_for work.Count ms = do
  nodes ← number_at (codes "nodes") 1 64 ms
  adds ← number_at (codes "adds") 0 1000000 ms
  capacity ← number_at (codes "capacity") 1 1024 ms
  dump ← dump_at ms
  Some (Count nodes adds capacity dump)

-- the settings that a table is: those of its work, with no other key
unfoldable pub settings_in : Members → Option Settings
settings_in ms = work_at ms >>= λ work. if has_keys_of work ms then settings_for work ms else None

unfoldable pub settings_of : List ℕ → Option Settings
settings_of text = parse_document text >>= settings_in

-- the numbers of refusals
abbrev pub settings_refusal_number : SettingsRefusal → ℕ
settings_refusal_number OutOfMemory = 7
settings_refusal_number BadSettings = 22

-- what a function returned is what reading gives, unless memory ran out
abbrev pub Fails : {A : Type 0} → SettingsRefusal → Option A → Type 0
Fails OutOfMemory read = Unit {0}
Fails BadSettings read = read ≡ None

abbrev pub IsUnread : {A : Type 0} → Unread → Option A → Type 0
IsUnread unread.OutOfMemory read = Unit {0}
IsUnread (unread.Misfit misfit) read = read ≡ None

abbrev pub Gives : {A : Type 0} → Result A Unread → Option A → Type 0
Gives (Ok x) read = read ≡ Some x
Gives (Err e) read = IsUnread e read

-- what stands at the key is what is wanted there
abbrev pub suits : Wanted → List ℕ → Members → Bool
suits wants.Work key ms = is_some (get_member key ms >>= as_str >>= named)
suits (wants.Number low high) key ms = is_some (number_at key low high ms)
suits wants.Cells key ms = is_some (numbers_at key ms >>= if_so are_cells)
suits wants.Items key ms = is_some (numbers_at key ms >>= if_so are_items)
suits wants.Flag key ms = is_some (get_member key ms >>= as_bool)

-- an array stands at the key
abbrev pub has_array : List ℕ → Members → Bool
has_array key ms = is_some (get_member key ms >>= as_array)

-- this stands there
abbrev pub IsFound : Option Data → Found → Type 0
IsFound there (Integer n) = there >>= as_integer ≡ Some n
IsFound there (Text text) = there >>= as_str ≡ Some (string_bytes text)
IsFound there (Array count) = is_some (there >>= as_array) ≡ true
IsFound there (Other name) = option_map type_name there ≡ Some name.now

abbrev pub wanted_in : List ℕ → List (List ℕ × Wanted) → Option Wanted
wanted_in key [] = None
wanted_in key (row ∷ rows) = if bytes_eq key row.0 then Some row.1 else wanted_in key rows

-- what is wanted at a key: of a work, or where none is named
abbrev pub wanted_at : Option Work → List ℕ → Option Wanted
wanted_at None key = wanted_in key ((codes "work", wants.Work) ∷ [])
wanted_at (Some work) key = wanted_in key (wants_of work)

-- what may not be left out
abbrev pub is_needed : Option Wanted → Bool
is_needed None = false
is_needed (Some wants.Flag) = false
is_needed (Some wanted) = true

abbrev pub is_of_numbers : Option Wanted → Bool
is_of_numbers (Some wants.Cells) = true
is_of_numbers (Some wants.Items) = true
is_of_numbers wanted = false

-- the value at this place, counted from 1, is no integer from 0, but this
unfoldable pub IsNoNumber : Option Items → ℕ → Found → Type 0
IsNoNumber None place found = ⊥
IsNoNumber (Some items) place found = (n : ℕ) × (place ≡ n + 1) × (d : Data) × (get_item n items ≡ Some d) × (number_in d ≡ None) × IsFound (Some d) found

-- what is said so of a table that names this work, or none, is true, and it is no settings
abbrev pub IsMisfit : Option Work → Members → Misfit → Type 0
IsMisfit work ms (Missing key) = (is_needed (wanted_at work key.now) ≡ true) × (get_member key.now ms ≡ None)
IsMisfit work ms (Foreign of_work key near) = (work ≡ Some of_work) × (is_key_of of_work (string_bytes key) ≡ false) × (is_some (get_member (string_bytes key) ms) ≡ true)
IsMisfit work ms (Item key place found) = (is_of_numbers (wanted_at work key.now) ≡ true) × IsNoNumber (get_member key.now ms >>= as_array) place found
IsMisfit work ms (Value key wanted found) = (wanted_at work key.now ≡ Some wanted) × (suits wanted key.now ms ≡ false) × IsFound (get_member key.now ms) found

abbrev pub IsWhy : Option Work → Members → Unread → Type 0
IsWhy work ms unread.OutOfMemory = Unit {0}
IsWhy work ms (unread.Misfit misfit) = IsMisfit work ms misfit

-- why a text is no settings: it is no TOML, or its table is none
abbrev pub IsReason : Option Members → SettingsReason → Type 0
IsReason None (NoToml line error) = Unit {0}
IsReason None (reasons.Misfit line misfit) = ⊥
IsReason (Some ms) (NoToml line error) = ⊥
IsReason (Some ms) (reasons.Misfit line misfit) = IsMisfit (work_at ms) ms misfit

-- it tells of this misfit
abbrev pub Tells : Misfit → SettingsReason → Type 0
Tells misfit (reasons.Misfit line told) = told ≡ misfit
Tells misfit (NoToml line error) = ⊥

-- a reason is told exactly where the text is refused
abbrev pub IsWhySettings : List ℕ → Option SettingsReason → Type 0
IsWhySettings text None = IsUtf8 text × ((s : Settings) × (settings_of text ≡ Some s))
IsWhySettings text (Some reason) = IsUtf8 text → (settings_of text ≡ None) × IsReason (parse_document text) reason

-- it says that something else than what is wanted stands at the key: this value
abbrev pub IsWrong : List ℕ → Wanted → Data → Unread → Type 0
IsWrong key wanted d (unread.Misfit (Value of_key of_wanted found)) = (of_key.now ≡ key) × (of_wanted ≡ wanted) × IsFound (Some d) found
IsWrong key wanted d (unread.Misfit misfit) = ⊥
IsWrong key wanted d unread.OutOfMemory = Unit {0}

-- it says that nothing stands at the key
abbrev pub IsMissing : List ℕ → Misfit → Type 0
IsMissing key (Missing of_key) = of_key.now ≡ key
IsMissing key misfit = ⊥

-- it says that one of these values, those of the array at the key, is no number, and so it is
abbrev pub IsOfItem : List ℕ → Items → Unread → Type 0
IsOfItem key items (unread.Misfit (Item of_key place found)) = (of_key.now ≡ key) × IsNoNumber (Some items) place found
IsOfItem key items (unread.Misfit misfit) = ⊥
IsOfItem key items unread.OutOfMemory = Unit {0}

-- how many nodes there are
abbrev pub nodes_of : Settings → ℕ
nodes_of (Stencil nodes capacity phases cells dump) = nodes
nodes_of (Ring lines capacity items dump) = 2
nodes_of (Count nodes adds capacity dump) = nodes

-- whether the dump is wanted too
abbrev pub wants_dump : Settings → Bool
wants_dump (Stencil nodes capacity phases cells dump) = dump
wants_dump (Ring lines capacity items dump) = dump
wants_dump (Count nodes adds capacity dump) = dump
