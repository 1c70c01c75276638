-- The printed lines. This project's profile.
use Rattle.std.specs.Prelude.{ℕ, Bool, true, false, List, [], ◌∷◌, ◌++◌, Option, Some, None, codes, slice_index}
use Rattle.std.specs.Fmt.{decimal}
use Rattle.std.specs.List.{flat_map}
use Rattle.sci_words.specs.declared.memory.Mem.{Mem}
use Rattle.sci_words.specs.declared.tags.Tag.{Tag}
use Rattle.sci_words.specs.Mem.{mem_name_of}
use Rattle.sci_words.specs.Tag.{name_of}
use Rattle.sci_ops.specs.declared.answers.Answer.{Answer}
use Rattle.sci_ops.specs.declared.answers.Answer.TheVariants.{Seen, Wrote, Out, Spent}
use Rattle.sci_ops.specs.declared.answers.Turn.{Turn}
use Rattle.sci_ops.specs.declared.answers.Turn.TheVariants.{Moved, Waiting, Done}
use Rattle.sci_script.specs.declared.desk.Look.{Look}

-- `node N read V stamp S`
abbrev pub read_line : ℕ → ℕ → ℕ → List ℕ
read_line node value stamp = codes "node " ++ decimal node ++ codes " read " ++ decimal value ++ codes " stamp " ++ decimal stamp ++ codes "\n"

-- `node N wrote stamp S`
abbrev pub wrote_line : ℕ → ℕ → List ℕ
wrote_line node stamp = codes "node " ++ decimal node ++ codes " wrote stamp " ++ decimal stamp ++ codes "\n"

-- `node N out`
abbrev pub out_line : ℕ → List ℕ
out_line node = codes "node " ++ decimal node ++ codes " out\n"

-- `node N refused 11`
abbrev pub spent_line : ℕ → List ℕ
spent_line node = codes "node " ++ decimal node ++ codes " refused 11\n"

-- how a call ended; of the line that a load has seen the word with this number is shown
abbrev pub answer_line : ℕ → ℕ → Answer → List ℕ
answer_line node word (Seen words stamp) = read_line node (slice_index words word) stamp
answer_line node word (Wrote before stamp) = wrote_line node stamp
answer_line node word Out = out_line node
answer_line node word Spent = spent_line node

-- `node N waits`
abbrev pub wait_line : ℕ → List ℕ
wait_line node = codes "node " ++ decimal node ++ codes " waits\n"

-- what a turn prints
abbrev pub turn_text : ℕ → ℕ → Turn → List ℕ
turn_text node word Moved = []
turn_text node word Waiting = wait_line node
turn_text node word (Done answer) = answer_line node word answer

-- `N NAME`
abbrev pub entry_text : ℕ × Tag → List ℕ
entry_text entry = decimal entry.0 ++ codes " " ++ name_of entry.1

-- ` N NAME, N NAME ..`
abbrev pub entries_text : List (ℕ × Tag) → List ℕ
entries_text [] = []
entries_text (entry ∷ entries) = codes " " ++ entry_text entry ++ flat_map (λ entry. codes ", " ++ entry_text entry) entries

-- ` F:` and the entries, where there is a head
abbrev pub chain_text : Option ℕ → List (ℕ × Tag) → List ℕ
chain_text None entries = []
chain_text (Some head) entries = codes " " ++ decimal head ++ codes ":" ++ entries_text entries

-- `line L HOME`, or `line L STATE F: N NAME, N NAME ..`
abbrev pub list_line : ℕ → Mem → List (ℕ × Tag) → List ℕ
list_line line mem entries = codes "line " ++ decimal line ++ codes " " ++ mem_name_of mem ++ chain_text mem.forw entries ++ codes "\n"

-- a link, or `-` for none
abbrev pub link_text : Option ℕ → List ℕ
link_text None = codes "-"
link_text (Some node) = decimal node

abbrev pub held_text : Bool → List ℕ
held_text true = codes " held"
held_text false = []

-- `tag L N NAME forw F back B`, and ` held` if held
abbrev pub tag_line : ℕ → ℕ → Tag → List ℕ
tag_line line node tag =
    codes "tag " ++ decimal line ++ codes " " ++ entry_text (node, tag)
    ++ codes " forw " ++ link_text tag.forw ++ codes " back " ++ link_text tag.back ++ held_text tag.held ++ codes "\n"

-- `node N residents`, then each line after a space
abbrev pub residents_line : ℕ → List ℕ → List ℕ
residents_line node lines = codes "node " ++ decimal node ++ codes " residents" ++ flat_map (λ line. codes " " ++ decimal line) lines ++ codes "\n"

-- what is printed of what was asked
abbrev pub look_line : Look → List ℕ
look_line (Look.Residents node lines) = residents_line node lines.items
