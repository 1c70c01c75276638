-- A line of a log, as a run writes it, is read as what it tells.
use Rattle.std.proofs.Common.{◌≡◌, ℕ, zero, suc, ◌+◌, ◌/◌, ◌%◌, ◌<◌, ◌≤◌, ◌^◌, Bool, true, false, eqb, ltb, leb, List, [], ◌∷◌, ◌++◌, length, take, drop, codes, decimal, flat_map, All, Option, Some, None, Result, Ok, refl, sym, ap, subst, ◌∙◌, append_assoc, append-nil, arith, inl, inr, lt-ltb, le-leb, ne_eqb, if◌then◌else◌}
use Rattle.std.specs.Fmt.{digit_glyph, digits, digits_onto}
use Rattle.std.specs.Str.{bytes_eq}
use Rattle.std.proofs.lemmas.Bool.{and_left, cases_Bool}
use Rattle.sci_words.specs.declared.tags.Kind.{Kind}
use Rattle.sci_words.specs.declared.tags.Tag.{Tag}
use Rattle.sci_words.specs.Tag.{name_of}
use Rattle.sci_core.specs.declared.lines.Line.{Line}
use Rattle.sci_core.specs.declared.events.Event.{Event}
use Rattle.sci_script.specs.declared.commands.Opening.{Opening}
use Rattle.sci_script.specs.declared.commands.Size.{Size}
use Rattle.sci_port.specs.declared.watching.Ending.{Ending}
use Rattle.sci_port.specs.declared.watching.Load.{Load}
use Rattle.sci_port.specs.declared.watching.Passed.{Passed}
use Rattle.sci_script.specs.Size.{IsSize}
use Rattle.sci_dump.specs.ReadBack.{IsContent}
use Rattle.sci_dump.specs.Reading.{behind, number_at, word_at}
use Rattle.sci_dump.specs.Text.{hexadecimal, values_text}
use Rattle.sci_dump.proofs.FieldsBack.{NoDigit, behind_own, capped_own, number_own, word_own}
use Rattle.sci_logs.specs.declared.entries.Claim.{Claim}
use Rattle.sci_logs.specs.declared.parts.Lack.{Lack}
use Rattle.sci_logs.specs.declared.parts.Part.{Part}
use Rattle.sci_logs.specs.declared.told.Asks.{Asks}
use Rattle.sci_logs.specs.declared.told.Found.{Found}
use Rattle.sci_logs.specs.declared.told.Told.{Told}
use Rattle.sci_logs.specs.declared.told.Noted.{Noted}
use Rattle.sci_logs.specs.LineText.{◌>>=◌, acting_at, bare_told_at, bracketed_link_at, busy_at, claim_at, closed_at, content_at, count_at, done_at, end_at, ended_at, label_at, line_at, link_at, long_told_at, may_missed_at, maybe_words_at, memory_at, missed_at, new_words_at, node_at, noted_at, numbered_at, on_line_at, opening_at, other_told_at, own_told_at, placed_at, queue_at, requeue_at, size_part, some_node_at, space_at, tag_told_at, told_at, value_at, values_at, wants, whose_at, word_and_space_at, written_at}
use Rattle.sci_logs.specs.Names.{bare_event_at, found_at, leaving_event_at, memory_event_at, name_at, other_asks_at, other_name_at, own_asks_at, own_event_at, settled_name_at, step_event_at}
use Rattle.sci_logs.specs.TurnText.{entry_place, exchange_line, log_head, look_line, opening_line, outcome_text}
use Rattle.sci_trace.specs.Events.{argument_text, event_name, written_text}
use Rattle.sci_trace.specs.Words.{found_text, link_word, of_text}
use Rattle.sci_laws.proofs.Plain.{decimal_plain, plain_join}
use Rattle.sci_laws.proofs.PlainLines.{argument_plain, name_plain, outcome_plain, place_plain, values_plain}
use Rattle.sci_laws.specs.ReadBack.{AreWords, IsBehind, IsLink, IsOfOther, IsOfOwn, IsReadAs, MayEnd, claim_of, named, on_tag, told_of, whose}

-- a part is read, and then the rest
then_ok : {A B : Type 0} (r : Result A Lack) (f : A → Result B Lack) (x : A) (y : Result B Lack) → r ≡ Ok x → f x ≡ y → (r >>= f) ≡ y
then_ok r f x y is next = rw is next

label_own : (part : Part) (bytes rest : List ℕ) → label_at part bytes (bytes ++ rest) ≡ Ok rest
unfolding label_at
label_own part bytes rest = ap (wants part (bytes ++ rest)) (behind_own bytes rest)

word_own_space : (part : Part) (bytes rest : List ℕ) → word_and_space_at part bytes (bytes ++ (codes " " ++ rest)) ≡ Ok rest
unfolding word_and_space_at
word_own_space part bytes rest =
    then_ok (label_at part bytes (bytes ++ (codes " " ++ rest))) (λ text. space_at text) (codes " " ++ rest) (Ok rest) (label_own part bytes (codes " " ++ rest)) (label_own Part.Space (codes " ") rest)

count_own : (part : Part) (most n : ℕ) (rest : List ℕ) → most ≤ 65535 → n ≤ most → NoDigit rest → count_at part most (decimal n ++ rest) ≡ Ok (n, rest)
unfolding count_at
count_own part most n rest few small none = ap (wants part (decimal n ++ rest)) (capped_own most n rest (omega (arith, few, small)) small none)

numbered_own : (first : Part) (bytes : List ℕ) (part : Part) (most n : ℕ) (text : List ℕ) → most ≤ 65535 → n ≤ most → numbered_at first bytes part most (bytes ++ (codes " " ++ (decimal n ++ (codes " " ++ text)))) ≡ Ok (n, text)
unfolding numbered_at
numbered_own first bytes part most n text few small =
    let rest = decimal n ++ (codes " " ++ text) in
    then_ok (word_and_space_at first bytes (bytes ++ (codes " " ++ rest))) (λ text. count_at part most text >>= λ number. space_at number.1 >>= λ text. Ok (number.0, text)) rest (Ok (n, text)) (word_own_space first bytes rest)
    (then_ok (count_at part most rest) (λ number. space_at number.1 >>= λ text. Ok (number.0, text)) (n, codes " " ++ text) (Ok (n, text)) (count_own part most n (codes " " ++ text) few small refl)
    (then_ok (space_at (codes " " ++ text)) (λ text. Ok (n, text)) text (Ok (n, text)) (label_own Part.Space (codes " ") text) refl))

-- `node N line L `, and what stands behind it
place_front : (node line : ℕ) (text : List ℕ) → entry_place node line ++ text ≡ codes "node " ++ (decimal node ++ (codes " line " ++ (decimal line ++ (codes " " ++ text))))
place_front node line text =
    append_assoc (codes "node " ++ decimal node ++ codes " line " ++ decimal line) (codes " ") text ∙ append_assoc (codes "node " ++ decimal node ++ codes " line ") (decimal line) (codes " " ++ text)
    ∙ append_assoc (codes "node " ++ decimal node) (codes " line ") (decimal line ++ (codes " " ++ text))

placed : (node line : ℕ) (text : List ℕ) → node < 65535 → line < 65536 → noted_at (entry_place node line ++ text) ≡ ended_at node line text
unfolding noted_at placed_at
placed node line text n l =
    let rest = codes "line" ++ (codes " " ++ (decimal line ++ (codes " " ++ text))) in
    ap noted_at (place_front node line text)
    ∙ then_ok (acting_at (codes "node" ++ (codes " " ++ (decimal node ++ (codes " " ++ rest))))) (λ node. placed_at node.0 node.1) (node, rest) (ended_at node line text)
    (numbered_own Part.Node (codes "node") Part.NodeNumber 65534 node rest (omega arith) (omega (arith, n)))
    (then_ok (on_line_at rest) (λ line. ended_at node line.0 line.1) (line, text) (ended_at node line text) (numbered_own Part.OnLine (codes "line") Part.LineNumber 65535 line text (omega arith) (omega (arith, l))) refl)

-- how it ended, behind a space
abbrev ending : Ending → List ℕ
ending Ending.Done = codes "Done"
ending (Ending.Missed word) = codes "Missed " ++ hexadecimal 16 word
ending Ending.Busy = codes "Busy"

-- the word that was found
word_read : (word : ℕ) → word < 2 ^ 64 → missed_at (codes " " ++ hexadecimal 16 word) ≡ Ok (Claim.Missed word)
unfolding missed_at end_at label_at behind
word_read word small =
    ap (λ (r : Option (ℕ × List ℕ)). wants Part.Word (hexadecimal 16 word) r >>= λ word. end_at word.1 >>= λ end. Ok (Claim.Missed word.0))
    (ap word_at (sym (append-nil (hexadecimal 16 word))) ∙ word_own word [] small)

ending_read : (told : Told) (e : Ending) → MayEnd told e → claim_at told (ending e) ≡ Ok (claim_of e)
unfolding claim_at done_at busy_at may_missed_at end_at label_at behind
ending_read told Ending.Done may = refl
ending_read (Told.Event event) (Ending.Missed word) may = word_read word may.1
ending_read (Told.On asks whose found) (Ending.Missed word) may = absurd (let no = may.0 in cc)
ending_read told Ending.Busy may = refl

ending_behind : (front : List ℕ) (e : Ending) → front ++ outcome_text e ≡ front ++ (codes " " ++ ending e)
ending_behind front Ending.Done = refl
ending_behind front (Ending.Missed word) = refl
ending_behind front Ending.Busy = refl

abbrev pub noted : ℕ → ℕ → Told → Claim → Noted
noted node line told claim = record { node = node; line = line; told = told; claim = claim }

ended : (node line : ℕ) (text : List ℕ) (told : Told) (e : Ending) → told_at text ≡ Ok (told, ending e) → MayEnd told e → ended_at node line text ≡ Ok (noted node line told (claim_of e))
unfolding ended_at
ended node line text told e reads may =
    then_ok (told_at text) (λ told. claim_at told.0 told.1 >>= λ claim. Ok (record { node = node; line = line; told = told.0; claim = claim })) (told, ending e) (Ok (noted node line told (claim_of e))) reads
    (then_ok (claim_at told (ending e)) (λ claim. Ok (record { node = node; line = line; told = told; claim = claim })) (claim_of e) (Ok (noted node line told (claim_of e))) (ending_read told e may) refl)

-- a number begins with a digit
abbrev BeginsWithDigit : List ℕ → Type 0
BeginsWithDigit text = (b : ℕ) × (rest : List ℕ) × (b ≤ 57) × (text ≡ b ∷ rest)

glyph_small : (d : ℕ) → d < 10 → digit_glyph false d ≤ 57
glyph_small d small = let glyph : digit_glyph false d ≡ 48 + d = rw (lt-ltb d 10 small) refl in omega (arith, glyph, small)

digits_begin : (k n b : ℕ) (rest : List ℕ) → b ≤ 57 → BeginsWithDigit (digits_onto k 10 false n (b ∷ rest))
digits_begin zero n b rest small = (b, rest, small, refl)
digits_begin (suc k) n b rest small =
    let now = glyph_small (n % 10) (omega arith) in
    elim (cases_Bool (eqb (n / 10) 0)) [
      | inl last ↦ rw last (digit_glyph false (n % 10), b ∷ rest, now, refl)
      | inr others ↦ rw others (digits_begin k (n / 10) (digit_glyph false (n % 10)) (b ∷ rest) now)
    ]

number_begins : (k n : ℕ) → BeginsWithDigit (digits_onto (suc k) 10 false n [])
number_begins k n =
    let now = glyph_small (n % 10) (omega arith) in
    elim (cases_Bool (eqb (n / 10) 0)) [
      | inl last ↦ rw last (digit_glyph false (n % 10), [], now, refl)
      | inr others ↦ rw others (digits_begin k (n / 10) (digit_glyph false (n % 10)) [] now)
    ]

decimal_begins : (n : ℕ) → BeginsWithDigit (decimal n)
unfolding digits
decimal_begins n = number_begins 63 n

if_not : (b : Bool) (x : List ℕ) → b ≡ false → ◌≡◌ {A = Option (List ℕ)} (if b then Some x else None) None
if_not b x h = rw h refl

no_name : (node : ℕ) (rest : List ℕ) → behind (codes "none") (decimal node ++ rest) ≡ None
unfolding behind
no_name node rest =
    let (b, more, small, is) = decimal_begins node in
    let differs : bytes_eq (take 4 (b ∷ (more ++ rest))) (codes "none") ≡ false = and_left (eqb b 110) (bytes_eq (take 3 (more ++ rest)) (codes "one")) (ne_eqb b 110 (λ e. absurd (omega (arith, e, small)))) in
    ap (λ (l : List ℕ). behind (codes "none") (l ++ rest)) is ∙ if_not (bytes_eq (take 4 (b ∷ (more ++ rest))) (codes "none")) (drop 4 (b ∷ (more ++ rest))) differs

-- a link in its brackets
closed_own : (rest : List ℕ) → closed_at (codes ") " ++ rest) ≡ Ok rest
unfolding closed_at
closed_own rest = word_own_space Part.Bracket (codes ")") rest

some_read : (node : ℕ) (rest : List ℕ) → node < 65535 → some_node_at (decimal node ++ (codes ") " ++ rest)) ≡ Ok (Some node, codes ") " ++ rest)
unfolding some_node_at
some_read node rest small =
    then_ok (count_at Part.Link 65534 (decimal node ++ (codes ") " ++ rest))) (λ node. Ok (Some node.0, node.1)) (node, codes ") " ++ rest) (Ok (Some node, codes ") " ++ rest)) (count_own Part.Link 65534 node (codes ") " ++ rest) (omega arith) (omega (arith, small)) refl) refl

word_read_as : (link : Option ℕ) (rest : List ℕ) → IsLink link → link_at (link_word link ++ (codes ") " ++ rest)) ≡ Ok (link, codes ") " ++ rest)
unfolding link_at behind
word_read_as None rest h = refl
word_read_as (Some node) rest h = rw (no_name node (codes ") " ++ rest)) (some_read node rest h)

link_read : (link : Option ℕ) (rest : List ℕ) → IsLink link → bracketed_link_at (codes "(" ++ (link_word link ++ (codes ") " ++ rest))) ≡ Ok (link, rest)
unfolding bracketed_link_at
link_read link rest h =
    let text = link_word link ++ (codes ") " ++ rest) in
    then_ok (label_at Part.Opened (codes "(") (codes "(" ++ text)) (λ text. link_at text >>= λ link. closed_at link.1 >>= λ text. Ok (link.0, text)) text (Ok (link, rest)) (label_own Part.Opened (codes "(") text)
    (then_ok (link_at text) (λ link. closed_at link.1 >>= λ text. Ok (link.0, text)) (link, codes ") " ++ rest) (Ok (link, rest)) (word_read_as link rest h)
    (then_ok (closed_at (codes ") " ++ rest)) (λ text. Ok (link, text)) rest (Ok (link, rest)) (closed_own rest) refl))

-- a tag's name, and the bracket behind it
abbrev TagReads : Asks → Option ℕ → List ℕ → Tag → Type 0
TagReads asks whose rest tag = tag_told_at asks whose (name_of tag ++ (codes ") " ++ rest)) ≡ Ok (Told.On asks whose (Found.Named (named tag)), rest)

kind_read : (asks : Asks) (whose : Option ℕ) (rest : List ℕ) (k : Kind) (held : Bool) (forw back : Option ℕ) → TagReads asks whose rest (record { kind = k; held = held; forw = forw; back = back })
unfolding tag_told_at found_at name_at settled_name_at other_name_at closed_at word_and_space_at label_at behind
kind_read asks whose rest Kind.Invalid held forw back = refl
kind_read asks whose rest Kind.Queued held forw back = refl
kind_read asks whose rest Kind.Fresh held None back = refl
kind_read asks whose rest Kind.Fresh held (Some x) back = refl
kind_read asks whose rest Kind.Dirty held None back = refl
kind_read asks whose rest Kind.Dirty held (Some x) back = refl
kind_read asks whose rest Kind.Convert held forw back = refl
kind_read asks whose rest Kind.Purging held forw back = refl
kind_read asks whose rest Kind.Leaving held forw back = refl
kind_read asks whose rest Kind.Valid held None back = refl
kind_read asks whose rest Kind.Valid held (Some x) back = refl
kind_read asks whose rest Kind.Roll held forw back = refl
kind_read asks whose rest Kind.Purged held forw back = refl

tag_read : (asks : Asks) (whose : Option ℕ) (found : Tag) (rest : List ℕ) → TagReads asks whose rest found
tag_read asks whose found rest = kind_read asks whose rest found.kind found.held found.forw found.back

-- what stands behind an event's name, in front of a space and more
abbrev behind_name : Option Load → Event → List ℕ → List ℕ
behind_name load event more = argument_text load event [] (codes ")") ++ (codes " " ++ more)

own_found : (load : Option Load) → IsOfOwn load → (of_text load ≡ []) × (whose load ≡ None)
own_found None h = (refl, refl)
own_found (Some (Load.Own tag)) h = (refl, refl)
own_found (Some (Load.Mem mem)) h = (refl, refl)
own_found (Some (Load.Tag node tag)) h = absurd h

-- an event on the own tag
own_event : (asks : Asks) (front : List ℕ) (load : Option Load) (found : Tag) (more : List ℕ) → IsOfOwn load → ((t : List ℕ) → told_at (front ++ t) ≡ tag_told_at asks None t)
    → told_at (front ++ ((found_text load found ++ codes ")") ++ (codes " " ++ more))) ≡ Ok (on_tag asks load found, more)
own_event asks front load found more own reads =
    let (text, node) = own_found load own in
    let rest = name_of found ++ (codes ") " ++ more) in
    let is : (found_text load found ++ codes ")") ++ (codes " " ++ more) ≡ rest =
    ap (λ (l : List ℕ). ((l ++ name_of found) ++ codes ")") ++ (codes " " ++ more)) text ∙ append_assoc (name_of found) (codes ")") (codes " " ++ more) in
    ap (λ (l : List ℕ). told_at (front ++ l)) is ∙ reads rest ∙ tag_read asks None found more
    ∙ ap (λ (n : Option ℕ). Ok (Told.On asks n (Found.Named (named found)), more)) (sym node)

-- an event on another node's tag
other_read : (asks : Asks) (node : ℕ) (found : Tag) (more : List ℕ) → node < 65535 → other_told_at asks (codes "(" ++ (decimal node ++ (codes " " ++ (name_of found ++ (codes ") " ++ more))))) ≡ Ok (Told.On asks (Some node) (Found.Named (named found)), more)
unfolding other_told_at whose_at
other_read asks node found more small =
    let rest = name_of found ++ (codes ") " ++ more) in
    let text = decimal node ++ (codes " " ++ rest) in
    let front : whose_at (codes "(" ++ text) ≡ Ok (node, rest) =
    then_ok (label_at Part.Opened (codes "(") (codes "(" ++ text)) (λ text. node_at text >>= λ node. space_at node.1 >>= λ text. Ok (node.0, text)) text (Ok (node, rest)) (label_own Part.Opened (codes "(") text)
    (then_ok (node_at text) (λ node. space_at node.1 >>= λ text. Ok (node.0, text)) (node, codes " " ++ rest) (Ok (node, rest)) (count_own Part.NodeNumber 65534 node (codes " " ++ rest) (omega arith) (omega (arith, small)) refl)
    (then_ok (space_at (codes " " ++ rest)) (λ text. Ok (node, text)) rest (Ok (node, rest)) (label_own Part.Space (codes " ") rest) refl)) in
    then_ok (whose_at (codes "(" ++ text)) (λ node. tag_told_at asks (Some node.0) node.1) (node, rest) (Ok (Told.On asks (Some node) (Found.Named (named found)), more)) front (tag_read asks (Some node) found more)

other_event : (asks : Asks) (front : List ℕ) (load : Option Load) (found : Tag) (more : List ℕ) → IsOfOther load
    → ((t : List ℕ) → told_at (front ++ t) ≡ other_told_at asks (codes "(" ++ t))
    → told_at (front ++ ((found_text load found ++ codes ")") ++ (codes " " ++ more))) ≡ Ok (on_tag asks load found, more)
other_event asks front None found more other reads = absurd other
other_event asks front (Some (Load.Own tag)) found more other reads = absurd other
other_event asks front (Some (Load.Mem mem)) found more other reads = absurd other
other_event asks front (Some (Load.Tag node tag)) found more other reads =
    let rest = decimal node ++ (codes " " ++ (name_of found ++ (codes ") " ++ more))) in
    let is : (((decimal node ++ codes " ") ++ name_of found) ++ codes ")") ++ (codes " " ++ more) ≡ rest =
    append_assoc ((decimal node ++ codes " ") ++ name_of found) (codes ")") (codes " " ++ more) ∙ append_assoc (decimal node ++ codes " ") (name_of found) (codes ") " ++ more) ∙ append_assoc (decimal node) (codes " ") (name_of found ++ (codes ") " ++ more)) in
    ap (λ (l : List ℕ). told_at (front ++ l)) is ∙ reads rest ∙ other_read asks node found more other

-- an event without a tag, in front of its argument
queue_read : (forw : Option ℕ) (more : List ℕ) → IsLink forw → told_at (codes "Queue(" ++ ((link_word forw ++ codes ")") ++ (codes " " ++ more))) ≡ Ok (Told.Event (Event.Queue forw), more)
unfolding told_at bare_event_at own_event_at memory_event_at step_event_at leaving_event_at own_asks_at other_asks_at long_told_at queue_at requeue_at written_at maybe_words_at new_words_at bare_told_at own_told_at label_at behind
queue_read forw more link =
    ap (λ (l : List ℕ). told_at (codes "Queue(" ++ l)) (append_assoc (link_word forw) (codes ")") (codes " " ++ more))
    ∙ ap (λ (r : Result (Option ℕ × List ℕ) Lack). r >>= λ link. Ok (Told.Event (Event.Queue link.0), link.1)) (link_read forw more link)

requeue_read : (forw : Option ℕ) (more : List ℕ) → IsLink forw → told_at (codes "Requeue(" ++ ((link_word forw ++ codes ")") ++ (codes " " ++ more))) ≡ Ok (Told.Event (Event.Requeue forw), more)
unfolding told_at bare_event_at own_event_at memory_event_at step_event_at leaving_event_at own_asks_at other_asks_at long_told_at queue_at requeue_at written_at maybe_words_at new_words_at bare_told_at own_told_at label_at behind
requeue_read forw more link =
    ap (λ (l : List ℕ). told_at (codes "Requeue(" ++ l)) (append_assoc (link_word forw) (codes ")") (codes " " ++ more))
    ∙ ap (λ (r : Result (Option ℕ × List ℕ) Lack). r >>= λ link. Ok (Told.Event (Event.Requeue link.0), link.1)) (link_read forw more link)

value_back : (part : Part) (v : ℕ) (rest : List ℕ) → v < 2 ^ 64 → NoDigit rest → value_at part (codes " " ++ (decimal v ++ rest)) ≡ Ok (v, rest)
unfolding value_at
value_back part v rest small none =
    then_ok (label_at part (codes " ") (codes " " ++ (decimal v ++ rest))) (λ text. wants Part.Value text (number_at text)) (decimal v ++ rest) (Ok (v, rest)) (label_own part (codes " ") (decimal v ++ rest))
    (ap (wants Part.Value (decimal v ++ rest)) (number_own v rest small none))

no_digit_behind : (values rest : List ℕ) → NoDigit rest → NoDigit (values_text values ++ rest)
no_digit_behind [] rest none = none
no_digit_behind (v ∷ vs) rest none = refl

values_back : (values rest : List ℕ) → All (λ v. v < 2 ^ 64) values → NoDigit rest → values_at (length values) (values_text values ++ rest) ≡ Ok (values, rest)
unfolding values_at
values_back [] rest small none = refl
values_back (v ∷ vs) rest small none =
    let first : v < 2 ^ 64 = small 0 v (omega arith) in
    let others : All (λ v. v < 2 ^ 64) vs = λ i d lt. small (suc i) d (omega (arith, lt)) in
    let more : List ℕ = values_text vs ++ rest in
    let text : values_text (v ∷ vs) ++ rest ≡ codes " " ++ (decimal v ++ more) = append_assoc (codes " " ++ decimal v) (values_text vs) rest in
    ap (values_at (length (v ∷ vs))) text
    ∙ (then_ok (value_at Part.SpacedValue (codes " " ++ (decimal v ++ more))) (λ value. values_at (length vs) value.1 >>= λ values. Ok (value.0 ∷ values.0, values.1)) (v, more) (Ok (v ∷ vs, rest))
    (value_back Part.SpacedValue v more first (no_digit_behind vs rest none))
    (then_ok (values_at (length vs) more) (λ values. Ok (v ∷ values.0, values.1)) (vs, rest) (Ok (v ∷ vs, rest)) (values_back vs rest others none) refl))

abbrev some_words : Result (List ℕ × List ℕ) Lack → Result (Option (List ℕ) × List ℕ) Lack
some_words words = words >>= λ words. Ok (Some words.0, words.1)

abbrev written_told : Result (List ℕ × List ℕ) Lack → Result (Told × List ℕ) Lack
written_told words = some_words words >>= λ words. closed_at words.1 >>= λ text. Ok (Told.Event (Event.Written words.0), text)

words_read : (words : List ℕ) (more : List ℕ) → AreWords (Some words) → told_at (codes "Written(" ++ ((written_text (Some words) ++ codes ")") ++ (codes " " ++ more))) ≡ Ok (Told.Event (Event.Written (Some words)), more)
unfolding told_at bare_event_at own_event_at memory_event_at step_event_at leaving_event_at own_asks_at other_asks_at long_told_at queue_at requeue_at written_at maybe_words_at new_words_at bare_told_at own_told_at label_at behind
words_read words more are =
    let behind_words = codes ") " ++ more in
    let rest = values_text words ++ behind_words in
    let eight : values_at 8 rest ≡ Ok (words, behind_words) = subst (λ (k : ℕ). values_at k rest ≡ Ok (words, behind_words)) are.0 (values_back words behind_words are.1 refl) in
    ap (λ (l : List ℕ). told_at (codes "Written(words" ++ l)) (append_assoc (values_text words) (codes ")") (codes " " ++ more))
    ∙ ap written_told eight
    ∙ then_ok (closed_at behind_words) (λ text. Ok (Told.Event (Event.Written (Some words)), text)) more (Ok (Told.Event (Event.Written (Some words)), more)) (closed_own more) refl

told_read : (load : Option Load) (event : Event) (more : List ℕ) → IsBehind load event → told_at (event_name event ++ behind_name load event more) ≡ Ok (told_of load event, more)
unfolding told_at bare_event_at own_event_at memory_event_at step_event_at leaving_event_at own_asks_at other_asks_at long_told_at queue_at requeue_at written_at maybe_words_at new_words_at bare_told_at own_told_at label_at behind closed_at word_and_space_at
told_read load Event.Look more h = refl
told_read load (Event.Queue forw) more h = queue_read forw more h
told_read load (Event.Requeue forw) more h = requeue_read forw more h
told_read load Event.PrependValid more h = refl
told_read load Event.ReturnMemory more h = refl
told_read load (Event.AttachFresh found) more h = other_event Asks.AttachFresh (codes "AttachFresh(") load found more h (λ t. refl)
told_read load Event.Settle more h = refl
told_read load (Event.Hold found) more h = own_event Asks.Hold (codes "Hold(") load found more h (λ t. refl)
told_read load Event.Unhold more h = refl
told_read load (Event.Convert found) more h = own_event Asks.Convert (codes "Convert(") load found more h (λ t. refl)
told_read load Event.FreshToGone more h = refl
told_read load Event.Converted more h = refl
told_read load Event.Unconverted more h = refl
told_read load (Event.BeginPurge found) more h = own_event Asks.BeginPurge (codes "BeginPurge(") load found more h (λ t. refl)
told_read load (Event.Written None) more h = refl
told_read load (Event.Written (Some words)) more h = words_read words more h
told_read load Event.PrependGone more h = refl
told_read load (Event.AttachDirty found) more h = other_event Asks.AttachDirty (codes "AttachDirty(") load found more h (λ t. refl)
told_read load Event.ReturnCopy more h = refl
told_read load (Event.PurgeOne found) more h = other_event Asks.PurgeOne (codes "PurgeOne(") load found more h (λ t. refl)
told_read load Event.Advance more h = refl
told_read load Event.Clear more h = refl
told_read load (Event.Roll found) more h = own_event Asks.Roll (codes "Roll(") load found more h (λ t. refl)
told_read load (Event.TellSuccessor found) more h = other_event Asks.TellSuccessor (codes "TellSuccessor(") load found more h (λ t. refl)
told_read load (Event.TellPredecessor found) more h = other_event Asks.TellPredecessor (codes "TellPredecessor(") load found more h (λ t. refl)
told_read load (Event.Adopt found) more h = other_event Asks.Adopt (codes "Adopt(") load found more h (λ t. refl)
told_read load Event.Rolled more h = refl
told_read load (Event.Leave found) more h = own_event Asks.Leave (codes "Leave(") load found more h (λ t. refl)
told_read load (Event.Promote found) more h = other_event Asks.Promote (codes "Promote(") load found more h (λ t. refl)
told_read load Event.PassOn more h = refl
told_read load Event.Stay more h = refl
told_read load Event.ReEnter more h = refl
told_read load Event.ReturnHomeFresh more h = refl
told_read load Event.ReturnHomeDirty more h = refl
told_read load Event.Left more h = refl
told_read load Event.HomeWrite more h = refl

-- an event with its outcome
entry_read : (node line : ℕ) (load : Option Load) (event : Event) (e : Ending) → node < 65535 → line < 65536 → IsBehind load event → MayEnd (told_of load event) e
    → noted_at (entry_place node line ++ (event_name event ++ (argument_text load event [] (codes ")") ++ outcome_text e))) ≡ Ok (noted node line (told_of load event) (claim_of e))
entry_read node line load event e n l is may =
    let text = event_name event ++ (argument_text load event [] (codes ")") ++ outcome_text e) in
    let reads : told_at text ≡ Ok (told_of load event, ending e) = ap (λ (t : List ℕ). told_at (event_name event ++ t)) (ending_behind (argument_text load event [] (codes ")")) e) ∙ told_read load event (ending e) is in
    placed node line text n l ∙ ended node line text (told_of load event) e reads may

pub look_back : (node line : ℕ) → node < 65535 → line < 65536 → IsReadAs noted_at (look_line node line) (noted node line (Told.Event Event.Look) Claim.Done)
look_back node line n l = (entry_place node line ++ codes "Look Done", sym (append_assoc (entry_place node line) (codes "Look Done") (codes "\n")), plain_join (entry_place node line) (codes "Look Done") (place_plain node line) refl, entry_read node line None Event.Look Ending.Done n l tt tt)

pub exchange_back : (node : ℕ) (passed : Passed) (event : Event) (e : Ending) → passed.step ≡ Some (event, e) → node < 65535 → passed.line < 65536 → IsBehind passed.load event → MayEnd (told_of passed.load event) e
    → IsReadAs noted_at (exchange_line node passed) (noted node passed.line (told_of passed.load event) (claim_of e))
exchange_back node passed event e step n l is may =
    let place = entry_place node passed.line in
    let argument = argument_text passed.load event [] (codes ")") in
    let text = ((place ++ event_name event) ++ argument) ++ outcome_text e in
    let line : exchange_line node passed ≡ text ++ codes "\n" =
    ap (λ (s : Option (Event × Ending)). elim s [
      | None ↦ []
      | Some step ↦ entry_place node passed.line ++ event_name step.0 ++ argument_text passed.load step.0 [] (codes ")") ++ outcome_text step.1 ++ codes "\n"
    ]) step in
    let parts : text ≡ place ++ (event_name event ++ (argument ++ outcome_text e)) = append_assoc (place ++ event_name event) argument (outcome_text e) ∙ append_assoc place (event_name event) (argument ++ outcome_text e) in
    let plain = plain_join ((place ++ event_name event) ++ argument) (outcome_text e)
    (plain_join (place ++ event_name event) argument (plain_join place (event_name event) (place_plain node passed.line) (name_plain event)) (argument_plain passed.load event)) (outcome_plain e) in
    (text, line, plain, ap noted_at parts ∙ entry_read node passed.line passed.load event e n l is may)

no_digit : (values : List ℕ) → NoDigit (values_text values)
no_digit [] = refl
no_digit (v ∷ vs) = refl

opening_read : (number : ℕ) (content : Line) → number < 65536 → IsContent content → opening_at (codes "open " ++ (decimal number ++ values_text (content.stamp ∷ content.words))) ≡ Ok (number, content)
unfolding opening_at content_at end_at
opening_read number content small is =
    let words = values_text content.words in
    let values = values_text (content.stamp ∷ content.words) in
    let eight : values_at 8 words ≡ Ok (content.words, []) =
    subst (λ (k : ℕ). values_at k words ≡ Ok (content.words, [])) is.eight (ap (values_at (length content.words)) (sym (append-nil words)) ∙ values_back content.words [] is.words refl) in
    let stamp : value_at Part.SpacedValue values ≡ Ok (content.stamp, words) = value_back Part.SpacedValue content.stamp words is.stamp (no_digit content.words) in
    then_ok (word_and_space_at Part.Open (codes "open") (codes "open" ++ (codes " " ++ (decimal number ++ values)))) (λ text. line_at text >>= λ line. content_at Part.SpacedValue line.1 >>= λ content. Ok (line.0, content))
    (decimal number ++ values) (Ok (number, content)) (word_own_space Part.Open (codes "open") (decimal number ++ values))
    (then_ok (line_at (decimal number ++ values)) (λ line. content_at Part.SpacedValue line.1 >>= λ content. Ok (line.0, content)) (number, values) (Ok (number, content)) (count_own Part.LineNumber 65535 number values (omega arith) (omega (arith, small)) refl)
    (rw stamp (rw eight refl)))

pub opening_back : (opening : Opening) → opening.line < 65536 → IsContent opening.content → IsReadAs opening_at (opening_line opening) (opening.line, opening.content)
opening_back opening small is =
    let values = values_text (opening.content.stamp ∷ opening.content.words) in
    let front = codes "open " ++ decimal opening.line in
    (front ++ values, refl, plain_join front values (plain_join (codes "open ") (decimal opening.line) refl (decimal_plain opening.line)) (values_plain (opening.content.stamp ∷ opening.content.words)), opening_read opening.line opening.content small is)

size_read : (size : Size) → IsSize size → memory_at (codes "memory " ++ (decimal size.nodes ++ (codes " " ++ decimal size.lines))) ≡ Ok size
unfolding memory_at end_at
size_read size is =
    let few : size.nodes ≤ 1024 = is.few_nodes in
    let lines : count_at size_part 65535 (decimal size.lines) ≡ Ok (size.lines, []) =
    ap (count_at size_part 65535) (sym (append-nil (decimal size.lines))) ∙ count_own size_part 65535 size.lines [] (omega arith) (omega (arith, is.few_lines)) refl in
    then_ok (numbered_at Part.Memory (codes "memory") size_part 65535 (codes "memory" ++ (codes " " ++ (decimal size.nodes ++ (codes " " ++ decimal size.lines))))) (λ nodes. count_at size_part 65535 nodes.1 >>= λ lines. end_at lines.1 >>= λ end. Ok (record { nodes = nodes.0; lines = lines.0 }))
    (size.nodes, decimal size.lines) (Ok size) (numbered_own Part.Memory (codes "memory") size_part 65535 size.nodes (decimal size.lines) (omega arith) (omega (arith, few)))
    (then_ok (count_at size_part 65535 (decimal size.lines)) (λ lines. end_at lines.1 >>= λ end. Ok (record { nodes = size.nodes; lines = lines.0 })) (size.lines, []) (Ok size) lines refl)

pub size_back : (size : Size) (openings : List Opening) → IsSize size → (line : List ℕ) × (log_head size openings ≡ line ++ flat_map opening_line openings) × IsReadAs memory_at line size
size_back size openings is =
    let text = codes "memory " ++ decimal size.nodes ++ codes " " ++ decimal size.lines in
    let parts : text ≡ codes "memory " ++ (decimal size.nodes ++ (codes " " ++ decimal size.lines)) = append_assoc (codes "memory " ++ decimal size.nodes) (codes " ") (decimal size.lines) in
    let front = codes "memory " ++ decimal size.nodes in
    let plain = plain_join (front ++ codes " ") (decimal size.lines) (plain_join front (codes " ") (plain_join (codes "memory ") (decimal size.nodes) refl (decimal_plain size.nodes)) refl) (decimal_plain size.lines) in
    (text ++ codes "\n", refl, (text, refl, plain, ap memory_at parts ∙ size_read size is))
