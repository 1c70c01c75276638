-- The grammar of scripts: the commands, where each may stand, the numbers that each has, and what a line says at its place. This
-- project's profile.
use Rattle.std.specs.Prelude.{◌≡◌, ℕ, ◌+◌, ◌-◌, ◌^◌, ◌≤◌, Bool, true, false, not, List, [], ◌∷◌, ◌++◌, length, map, get_or, replicate, Option, Some, None, unwrap_or, Result, Ok, Err, codes, nat_le, ◌==◌, ◌&&◌, if◌then◌else◌}
use Rattle.std.specs.List.{list_all}
use Rattle.std.specs.Str.{bytes_eq}
use Rattle.sci_core.specs.declared.whole.TheConstants.{MOST_NODES}
use Rattle.sci_script.specs.declared.commands.Opening.{Opening}
use Rattle.sci_script.specs.declared.commands.Size.{Size}
use Rattle.sci_script.specs.declared.commands.Request.TheVariants.{Load, Store, Add, Evict}
use Rattle.sci_script.specs.declared.commands.Command.TheVariants.{Begin, Turn, Done, Rest, End, List as ListLine, Tag as ShowTag, Show}
use Rattle.sci_script.specs.declared.commands.Ask.{Ask}
use Rattle.sci_script.specs.declared.places.Place.{Place}
use Rattle.sci_script.specs.declared.places.Stand.{Stand}
use Rattle.sci_script.specs.declared.places.Stand.TheVariants as stands
use Rattle.sci_script.specs.declared.reasons.Reason.{Reason}
use Rattle.sci_script.specs.declared.reasons.Reason.TheVariants.{BadByte, Unknown, Early, Late, Words, Number, Digits}
use Rattle.sci_script.specs.declared.said.Read.{Read}
use Rattle.sci_script.specs.declared.said.Read.TheVariants as reads
use Rattle.sci_script.specs.declared.verbs.Argument.{Argument}
use Rattle.sci_script.specs.declared.verbs.Argument.TheVariants as arg
use Rattle.sci_script.specs.declared.verbs.Verb.{Verb}
use Rattle.sci_script.specs.declared.verbs.Verb.TheVariants as verbs
use Rattle.sci_script.specs.Words.{is_long, is_plain, words_of, number_of}

-- the commands by their names
unfoldable pub verb_of : List ℕ → Option Verb
verb_of name =
    if bytes_eq name (codes "load") then Some verbs.Load else
    (if bytes_eq name (codes "store") then Some verbs.Store else
    (if bytes_eq name (codes "add") then Some verbs.Add else
    (if bytes_eq name (codes "evict") then Some verbs.Evict else
    (if bytes_eq name (codes "turn") then Some verbs.Turn else
    (if bytes_eq name (codes "done") then Some verbs.Done else
    (if bytes_eq name (codes "rest") then Some verbs.Rest else
    (if bytes_eq name (codes "end") then Some verbs.End else
    (if bytes_eq name (codes "list") then Some verbs.List else
    (if bytes_eq name (codes "tag") then Some verbs.Tag else
    (if bytes_eq name (codes "residents") then Some verbs.Residents else
    (if bytes_eq name (codes "memory") then Some verbs.Memory else
    (if bytes_eq name (codes "capacity") then Some verbs.Capacity else
    (if bytes_eq name (codes "open") then Some verbs.Open else None)))))))))))))

-- the words behind each name
abbrev pub arguments_of : Verb → List Argument
arguments_of verbs.Memory = arg.Nodes ∷ arg.Lines ∷ []
arguments_of verbs.Capacity = arg.Capacity ∷ []
arguments_of verbs.Open = arg.Line ∷ arg.Value ∷ arg.Value ∷ arg.Value ∷ arg.Value ∷ arg.Value ∷ arg.Value ∷ arg.Value ∷ arg.Value ∷ arg.Value ∷ []
arguments_of verbs.Load = arg.Node ∷ arg.Line ∷ arg.Word ∷ []
arguments_of verbs.Store = arg.Node ∷ arg.Line ∷ arg.Word ∷ arg.Value ∷ []
arguments_of verbs.Add = arg.Node ∷ arg.Line ∷ arg.Word ∷ arg.Value ∷ []
arguments_of verbs.Evict = arg.Node ∷ arg.Line ∷ []
arguments_of verbs.Turn = arg.Node ∷ []
arguments_of verbs.Done = arg.Node ∷ []
arguments_of verbs.Rest = []
arguments_of verbs.End = []
arguments_of verbs.List = arg.Line ∷ []
arguments_of verbs.Tag = arg.Line ∷ arg.Node ∷ []
arguments_of verbs.Residents = arg.Node ∷ []

-- from and to which number each is
abbrev pub range_of : Size → Argument → ℕ × ℕ
range_of size arg.Nodes = (1, MOST_NODES)
range_of size arg.Lines = (1, 1024)
range_of size arg.Capacity = (1, 1024)
range_of size arg.Node = (0, size.nodes - 1)
range_of size arg.Line = (0, size.lines - 1)
range_of size arg.Word = (0, 7)
range_of size arg.Value = (0, 2 ^ 64 - 1)

abbrev pub is_within : ℕ × ℕ → Option ℕ → Bool
is_within range None = false
is_within range (Some v) = nat_le range.0 v && nat_le v range.1

-- `memory` stands first and once, `capacity` directly behind it, `open` behind these
abbrev pub is_first : Stand → Bool
is_first stands.Nothing = true
is_first stand = false

abbrev pub is_in_front : Stand → Bool
is_in_front stands.Memory = true
is_in_front stands.Openings = true
is_in_front stand = false

abbrev pub is_second : Stand → Bool
is_second stands.Memory = true
is_second stand = false

abbrev pub is_in_time : Verb → Stand → Bool
is_in_time verbs.Memory stand = is_first stand
is_in_time verbs.Capacity stand = is_second stand
is_in_time verbs.Open stand = is_in_front stand
is_in_time verb stand = not (is_first stand)

-- why word k is no number in this range
abbrev pub range_reason : ℕ → ℕ × ℕ → List ℕ → Reason
range_reason k range word = if is_long word then Digits k else Number k range.0 range.1

-- the first of these words, the first of which is word k, that is no number in its range
unfoldable pub number_reason : ℕ → Size → List Argument → List (List ℕ) → Option Reason
number_reason k size [] words = None
number_reason k size (argument ∷ wanted) [] = None
number_reason k size (argument ∷ wanted) (word ∷ words) =
    if is_within (range_of size argument) (number_of word) then number_reason (k + 1) size wanted words
    else Some (range_reason k (range_of size argument) word)

-- what words stand for that are numbers: ten, as many as the longest command has, with zeros behind those of a shorter one
abbrev pub value_of : List ℕ → ℕ
value_of word = unwrap_or (number_of word) 0

abbrev pub numbers_of : List (List ℕ) → List ℕ
numbers_of words = map value_of words ++ replicate (10 - length words) 0

abbrev pub at : List ℕ → ℕ → ℕ
at numbers k = get_or numbers k 0

abbrev pub opening_by : List ℕ → Opening
opening_by ns = record {
  line = at ns 0;
  content = record { words = at ns 2 ∷ at ns 3 ∷ at ns 4 ∷ at ns 5 ∷ at ns 6 ∷ at ns 7 ∷ at ns 8 ∷ at ns 9 ∷ []; stamp = at ns 1 };
}

-- what a command says with these numbers
abbrev pub said_by : Size → Verb → List ℕ → Read
said_by size verbs.Memory ns = reads.Memory (record { nodes = at ns 0; lines = at ns 1 })
said_by size verbs.Capacity ns = reads.Capacity (at ns 0)
said_by size verbs.Open ns = reads.Open (opening_by ns)
said_by size verbs.Load ns = reads.Command (Begin (at ns 0) (at ns 1) (Load (at ns 2)))
said_by size verbs.Store ns = reads.Command (Begin (at ns 0) (at ns 1) (Store (at ns 2) (at ns 3)))
said_by size verbs.Add ns = reads.Command (Begin (at ns 0) (at ns 1) (Add (at ns 2) (at ns 3)))
said_by size verbs.Evict ns = reads.Command (Begin (at ns 0) (at ns 1) Evict)
said_by size verbs.Turn ns = reads.Command (Turn (at ns 0))
said_by size verbs.Done ns = reads.Command (Done (at ns 0))
said_by size verbs.Rest ns = reads.Command (Rest size.lines)
said_by size verbs.End ns = reads.Command (End size.nodes size.lines)
said_by size verbs.List ns = reads.Command (ListLine (at ns 0))
said_by size verbs.Tag ns = reads.Command (ShowTag (at ns 0) (at ns 1))
said_by size verbs.Residents ns = reads.Command (Show (Ask.Residents (at ns 0)))

-- from this number on each is in its range
abbrev pub AreFrom : Size → ℕ → List Argument → List ℕ → Type 0
AreFrom size k [] ns = Unit {0}
AreFrom size k (argument ∷ wanted) ns = ((range_of size argument).0 ≤ at ns k) × (at ns k ≤ (range_of size argument).1) × AreFrom size (k + 1) wanted ns

-- a reason, or else what is said
abbrev pub unless : Option Reason → Read → Result Read Reason
unless None said = Ok said
unless (Some reason) said = Err reason

-- a command, with the words behind its name, at its place: what it says, or why it isn't taken
unfoldable pub verb_read : Place → Verb → List (List ℕ) → Result Read Reason
verb_read place verb args =
    if not (is_in_time verb place.stand) then Err (if is_first place.stand then Early else Late) else
    (if length (arguments_of verb) == length args
    then unless (number_reason 2 place.size (arguments_of verb) args) (said_by place.size verb (numbers_of args))
    else Err (Words (length (arguments_of verb) + 1) (length args + 1)))

abbrev pub named_read : Place → Option Verb → List (List ℕ) → Result Read Reason
named_read place None args = Err Unknown
named_read place (Some verb) args = verb_read place verb args

abbrev pub words_read : Place → List (List ℕ) → Result Read Reason
words_read place [] = Err Unknown
words_read place (name ∷ args) = named_read place (verb_of name) args

-- a line at its place
abbrev pub line_read : Place → List ℕ → Result Read Reason
line_read place line = if list_all is_plain line then words_read place (words_of line) else Err BadByte

-- nothing stands before the first command, whose numbers no size bounds
abbrev pub first_place : Place
first_place = record { stand = stands.Nothing; size = record { nodes = 1; lines = 1 } }
