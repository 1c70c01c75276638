-- A sharing list with what listings don't show: what is lent and what is held. This project's profile.
use Rattle.std.specs.Prelude.{ℕ, zero, suc, Bool, true, false, List, [], ◌∷◌, ◌++◌, Option, Some, None, codes}
use Rattle.std.specs.Fmt.{decimal}
use Rattle.std.specs.List.{flat_map}
use Rattle.sci_words.specs.declared.memory.Mem.{Mem}
use Rattle.sci_words.specs.declared.tags.Tag.{Tag}
use Rattle.sci_words.specs.Mem.{mem_name_of}
use Rattle.sci_words.specs.Tag.{name_of}
use Rattle.sci_script.specs.Text.{held_text}

-- the entries along the links from one on, at most so many
abbrev pub walked : (ℕ → Tag) → ℕ → Option ℕ → List (ℕ × Tag)
walked tags zero next = []
walked tags (suc n) None = []
walked tags (suc n) (Some node) = (node, tags node) ∷ walked tags n (tags node).forw

-- `N NAME`, and ` held`
abbrev pub entry_text : ℕ × Tag → List ℕ
entry_text entry = decimal entry.0 ++ codes " " ++ name_of entry.1 ++ held_text entry.1.held

-- `: N NAME, N NAME ..`
abbrev pub entries_text : List (ℕ × Tag) → List ℕ
entries_text [] = codes ":"
entries_text (entry ∷ entries) = codes ": " ++ entry_text entry ++ flat_map (λ entry. codes ", " ++ entry_text entry) entries

abbrev pub lent_text : Bool → List ℕ
lent_text true = codes " lent"
lent_text false = []

-- ` F` and the entries, where there is a head
abbrev pub head_text : Option ℕ → List (ℕ × Tag) → List ℕ
head_text None entries = []
head_text (Some head) entries = codes " " ++ decimal head ++ entries_text entries

-- `HOME`, `FRESH F: N NAME, N NAME ..`, with ` lent` behind the state
abbrev pub list_text : Mem → List (ℕ × Tag) → List ℕ
list_text mem entries = mem_name_of mem ++ lent_text mem.lent ++ head_text mem.forw entries
