-- What is read of a line is of what there is, and so is a script that was read.
use Rattle.std.proofs.Common.{◌≡◌, ◌<◌, ◌≤◌, ◌+◌, ◌-◌, ◌^◌, ◌&&◌, ℕ, Bool, true, false, not, nat_lt, ◌==◌, List, [], ◌∷◌, ◌++◌, length, Option, Some, None, Result, Ok, Err, if◌then◌else◌, refl, sym, subst, ap, ◌∙◌, arith}
use Rattle.std.proofs.lemmas.Bool.{and_from, eq-eqb, eqb-true}
use Rattle.std.proofs.lemmas.Bool.Decides.{nat_tests}
use Rattle.std.proofs.lemmas.List.Folds.{list_all-append}
use Rattle.std.specs.List.{list_all}
use Rattle.std.specs.Str.Lines.{lines}
use Rattle.sci_core.specs.declared.lines.Line.{Line}
use Rattle.sci_script.specs.declared.commands.Command.{Command}
use Rattle.sci_script.specs.declared.commands.Command.TheVariants.{Begin}
use Rattle.sci_script.specs.declared.commands.Opening.{Opening}
use Rattle.sci_script.specs.declared.commands.Request.TheVariants.{Load, Store, Add, Evict}
use Rattle.sci_script.specs.declared.commands.Size.{Size}
use Rattle.sci_script.specs.declared.commands.Step.{Step}
use Rattle.sci_script.specs.declared.places.Place.{Place}
use Rattle.sci_script.specs.declared.places.Stand.TheVariants as stands
use Rattle.sci_script.specs.declared.reasons.Reason.{Reason}
use Rattle.sci_script.specs.declared.reasons.Reason.TheVariants.{BadByte}
use Rattle.sci_script.specs.declared.said.Read.{Read}
use Rattle.sci_script.specs.declared.said.Read.TheVariants as reads
use Rattle.sci_script.specs.declared.verbs.Verb.{Verb}
use Rattle.sci_script.specs.declared.verbs.Verb.TheVariants as verbs
use Rattle.sci_script.specs.Format.{Sayings, entries_from, script_of, unsaid, with_lines, with_read}
use Rattle.sci_script.specs.Grammar.{AreFrom, arguments_of, is_in_time, line_read, named_read, number_reason, numbers_of, said_by, unless, verb_of, verb_read, words_read}
use Rattle.sci_script.specs.Size.{AreIn, IsIn, IsReadIn, IsSize, is_in, is_request}
use Rattle.sci_script.specs.Words.{is_plain, words_of}
use Rattle.sci_script.proofs.Ranges.{numbers_in}
use Rattle.sci_script.proofs.Reading.{first_read, no_lines, said_of}

pub below : (a b : ℕ) → a < b → nat_lt a b ≡ true
below a b h = grind (arith, nat_tests, h)

pub both_true : (a b : Bool) → a ≡ true → b ≡ true → a && b ≡ true
both_true true b h k = k
both_true false b h k = h

-- a line's content is of 64 bits
abbrev pub AreSmall : List ℕ → Type 0
AreSmall [] = Unit {0}
AreSmall (value ∷ values) = (value < 2 ^ 64) × AreSmall values

abbrev pub IsSmall : Line → Type 0
IsSmall content = (content.stamp < 2 ^ 64) × (length content.words ≡ 8) × AreSmall content.words

-- a value that is stored is
abbrev pub StoresSmall : Command → Type 0
StoresSmall (Begin node line (Store word value)) = value < 2 ^ 64
StoresSmall command = Unit {0}

-- what a line says is of what there is, and of 64 bits
abbrev pub IsRanged : Size → Read → Type 0
IsRanged size (reads.Open opening) = (opening.line < size.lines) × IsSmall opening.content
IsRanged size (reads.Command command) = IsIn size command × StoresSmall command
IsRanged size read = IsReadIn size read

pub ranged_in : (size : Size) (read : Read) → IsRanged size read → IsReadIn size read
ranged_in size (reads.Memory said) h = h
ranged_in size (reads.Capacity capacity) h = h
ranged_in size (reads.Open opening) h = tt
ranged_in size (reads.Command command) h = h.0

module _ (size : Size) (few : IsSize size) where
  low : (a b : ℕ) → 1 ≤ b → a ≤ b - 1 → a < b
  low a b some le = omega (arith, some, le)

  in_nodes : (a : ℕ) → a ≤ size.nodes - 1 → nat_lt a size.nodes ≡ true
  in_nodes a le = below a size.nodes (low a size.nodes few.some_nodes le)

  in_lines : (a : ℕ) → a ≤ size.lines - 1 → nat_lt a size.lines ≡ true
  in_lines a le = below a size.lines (low a size.lines few.some_lines le)

  begins : (a b : ℕ) (c : Bool) → a ≤ size.nodes - 1 → b ≤ size.lines - 1 → c ≡ true → (nat_lt a size.nodes && (nat_lt b size.lines && c)) ≡ true
  begins a b c node line word = both_true _ _ (in_nodes a node) (both_true _ _ (in_lines b line) word)

  in_word : (a : ℕ) → a ≤ 7 → nat_lt a 8 ≡ true
  in_word a le = below a 8 (omega (arith, le))

  in_bits : (a : ℕ) → a ≤ 2 ^ 64 - 1 → a < 2 ^ 64
  in_bits a le = omega (arith, le)

  pub said_ranged : (verb : Verb) (ns : List ℕ) → AreFrom size 0 (arguments_of verb) ns → IsRanged size (said_by size verb ns)
  said_ranged verbs.Memory ns f = record { some_nodes = f.0; few_nodes = f.1; some_lines = f.2.0; few_lines = f.2.1 }
  said_ranged verbs.Capacity ns f = (f.0, f.1)
  said_ranged verbs.Open ns f = (low _ size.lines few.some_lines f.1, (in_bits _ f.2.1, refl, (in_bits _ f.2.2.1, (in_bits _ f.2.2.2.1, (in_bits _ f.2.2.2.2.1, (in_bits _ f.2.2.2.2.2.1, (in_bits _ f.2.2.2.2.2.2.1, (in_bits _ f.2.2.2.2.2.2.2.1, (in_bits _ f.2.2.2.2.2.2.2.2.1, (in_bits _ f.2.2.2.2.2.2.2.2.2.1, tt))))))))))
  said_ranged verbs.Load ns f = (begins _ _ _ f.1 f.2.1 (in_word _ f.2.2.1), tt)
  said_ranged verbs.Store ns f = (begins _ _ _ f.1 f.2.1 (in_word _ f.2.2.1), in_bits _ f.2.2.2.1)
  said_ranged verbs.Add ns f = (begins _ _ _ f.1 f.2.1 (in_word _ f.2.2.1), tt)
  said_ranged verbs.Evict ns f = (begins _ _ _ f.1 f.2.1 refl, tt)
  said_ranged verbs.Turn ns f = (in_nodes _ f.1, tt)
  said_ranged verbs.Done ns f = (in_nodes _ f.1, tt)
  said_ranged verbs.Rest ns f = (eq-eqb size.lines size.lines refl, tt)
  said_ranged verbs.End ns f = (both_true _ _ (eq-eqb size.nodes size.nodes refl) (eq-eqb size.lines size.lines refl), tt)
  said_ranged verbs.List ns f = (in_lines _ f.1, tt)
  said_ranged verbs.Tag ns f = (both_true _ _ (in_lines _ f.1) (in_nodes _ f.2.1), tt)
  said_ranged verbs.Residents ns f = (in_nodes _ f.1, tt)

-- a command that is taken stands in time, has its words, and says what its numbers say
taken_by : (early long : Bool) (why : Option Reason) (said read : Read) (a b : Reason) → (if not early then Err a else (if long then unless why said else Err b)) ≡ Ok read
    → (early ≡ true) × (long ≡ true) × (why ≡ None) × (said ≡ read)
taken_by true true None said read a b e = (refl, refl, refl, cc)
taken_by true true (Some reason) said read a b e = absurd (cc)
taken_by true false why said read a b e = absurd (cc)
taken_by false long why said read a b e = absurd (cc)

verb_taken : (place : Place) (verb : Verb) (args : List (List ℕ)) (read : Read) → verb_read place verb args ≡ Ok read
    → (is_in_time verb place.stand ≡ true) × ((length (arguments_of verb) == length args) ≡ true) × (number_reason 2 place.size (arguments_of verb) args ≡ None)
    × (said_by place.size verb (numbers_of args) ≡ read)
unfolding verb_read
verb_taken place verb args read e = taken_by (is_in_time verb place.stand) (length (arguments_of verb) == length args) (number_reason 2 place.size (arguments_of verb) args) (said_by place.size verb (numbers_of args)) read _ _ e

named_ranged : (place : Place) → IsSize place.size → (verb : Option Verb) (args : List (List ℕ)) (read : Read) → named_read place verb args ≡ Ok read → IsRanged place.size read
named_ranged place few None args read e = absurd (cc)
named_ranged place few (Some verb) args read e =
    let (early, long, none, is) = verb_taken place verb args read e in
    subst (IsRanged place.size) is (said_ranged place.size few verb (numbers_of args) (numbers_in 2 place.size (arguments_of verb) args (eqb-true _ _ long) none))

pub words_ranged : (place : Place) → IsSize place.size → (words : List (List ℕ)) (read : Read) → words_read place words ≡ Ok read → IsRanged place.size read
words_ranged place few [] read e = absurd (cc)
words_ranged place few (name ∷ args) read e = named_ranged place few (verb_of name) args read e

plain_ok : {X : Type 0} (b : Bool) (r : Result X Reason) (bad : Reason) (x : X) → (if b then r else Err bad) ≡ Ok x → r ≡ Ok x
plain_ok true r bad x e = e
plain_ok false r bad x e = absurd (cc)

pub line_ranged : (place : Place) → IsSize place.size → (line : List ℕ) (read : Read) → line_read place line ≡ Ok read → IsRanged place.size read
line_ranged place few line read e = words_ranged place few (words_of line) read (plain_ok (list_all is_plain line) (words_read place (words_of line)) BadByte read e)

pub line_in : (place : Place) → IsSize place.size → (line : List ℕ) (read : Read) → line_read place line ≡ Ok read → IsReadIn place.size read
line_in place few line read e = ranged_in place.size read (line_ranged place few line read e)

-- behind a command a line says a command
abbrev pub IsCommand : Read → Type 0
IsCommand read = (command : Command) × (read ≡ reads.Command command)

late_said : (size : Size) (verb : Verb) (ns : List ℕ) → is_in_time verb stands.Commands ≡ true → IsCommand (said_by size verb ns)
late_said size verbs.Memory ns e = absurd (cc)
late_said size verbs.Capacity ns e = absurd (cc)
late_said size verbs.Open ns e = absurd (cc)
late_said size verb ns e = (_, refl)

abbrev pub behind_commands : Size → Place
behind_commands size = record { stand = stands.Commands; size = size }

late_words : (size : Size) (words : List (List ℕ)) (read : Read) → words_read (behind_commands size) words ≡ Ok read → IsCommand read
late_words size [] read e = absurd (cc)
late_words size (name ∷ args) read e = by_name (verb_of name) e
  where
    by_name : (verb : Option Verb) → named_read (behind_commands size) verb args ≡ Ok read → IsCommand read
    by_name None e = absurd (cc)
    by_name (Some verb) e =
        let (early, long, none, is) = verb_taken (behind_commands size) verb args read e in
        subst IsCommand is (late_said size verb (numbers_of args) early)

pub late_line : (size : Size) (line : List ℕ) (read : Read) → line_read (behind_commands size) line ≡ Ok read → IsCommand read
late_line size line read e = late_words size (words_of line) read (plain_ok (list_all is_plain line) (words_read (behind_commands size) (words_of line)) BadByte read e)

-- openings of lines that there are, with values of 64 bits
abbrev pub AreOpenable : Size → List Opening → Type 0
AreOpenable size [] = Unit {0}
AreOpenable size (opening ∷ more) = (opening.line < size.lines) × IsSmall opening.content × AreOpenable size more

abbrev pub StoreSmall : List Step → Type 0
StoreSmall [] = Unit {0}
StoreSmall (step ∷ more) = StoresSmall step.command × StoreSmall more

openable_more : (size : Size) (front : List Opening) (opening : Opening) → AreOpenable size front → (opening.line < size.lines) × IsSmall opening.content → AreOpenable size (front ++ opening ∷ [])
openable_more size [] opening are is = (is.0, is.1, tt)
openable_more size (first ∷ front) opening are is = (are.0, are.1, openable_more size front opening are.2 is)

store_more : (front : List Step) (step : Step) → StoreSmall front → StoresSmall step.command → StoreSmall (front ++ step ∷ [])
store_more [] step are is = (is, tt)
store_more (first ∷ front) step are is = (are.0, store_more front step are.1 is)

pub steps_more : (size : Size) (front : List Step) (step : Step) → AreIn size front → IsIn size step.command → AreIn size (front ++ step ∷ [])
steps_more size front step are is = rw (list_all-append, are, is) refl

-- what was said so far is of what there is
abbrev pub AreRanged : Sayings → Type 0
AreRanged s = IsSize s.place.size × AreOpenable s.place.size s.openings × AreIn s.place.size s.steps × StoreSmall s.steps

read_ranged : (s : Sayings) (n : ℕ) (read : Read) → AreRanged s → IsRanged s.place.size read → AreRanged (with_read s n read)
read_ranged s n (reads.Memory size) are is = (is, tt, refl, tt)
read_ranged s n (reads.Capacity capacity) are is = are
read_ranged s n (reads.Open opening) are is = (are.0, openable_more s.place.size s.openings opening are.1 is, are.2, are.3)
read_ranged s n (reads.Command command) are is =
    (are.0, are.1, steps_more s.place.size s.steps (record { number = n; command = command }) are.2 is.0, store_more s.steps (record { number = n; command = command }) are.3 is.1)

lines_ranged : (s : Sayings) (entries : List (ℕ × List ℕ)) (f : Sayings) → AreRanged s → with_lines s entries ≡ Ok f → AreRanged f
lines_ranged s [] f are e = subst AreRanged (no_lines s f e) are
lines_ranged s (entry ∷ entries) f are e =
    let (read, is, more) = first_read s entry entries f e in
    lines_ranged (with_read s entry.0 read) entries f (read_ranged s entry.0 read are (line_ranged s.place are.0 entry.1 read is)) more

-- what was read
abbrev pub IsRead : Size × ℕ × List Opening × List Step → Type 0
IsRead script = IsSize script.0 × AreOpenable script.0 script.2 × AreIn script.0 script.3 × StoreSmall script.3

pub one_node : IsSize (record { nodes = 1; lines = 1 })
one_node = record { some_nodes = omega arith; few_nodes = omega arith; some_lines = omega arith; few_lines = omega arith }

pub script_read : (input : List ℕ) (script : Size × ℕ × List Opening × List Step) → script_of input ≡ Ok script → IsRead script
script_read input script e =
    let (f, all, is) = said_of input script e in subst IsRead is (lines_ranged unsaid (entries_from 1 (lines input)) f (one_node, tt, refl, tt) all)

pub reads_script : (input : List ℕ) (script : Size × ℕ × List Opening × List Step) → script_of input ≡ Ok script → IsSize script.0 × AreIn script.0 script.3
reads_script input script e = let r = script_read input script e in (r.0, r.2)
