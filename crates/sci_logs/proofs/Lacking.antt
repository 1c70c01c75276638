-- A line of a log that is refused 16 lacks a part, and in one that is refused 17 a number isn't in its range.
use Rattle.std.proofs.Common.{◌≡◌, ◌⊎◌, ℕ, Bool, true, false, true≢false, List, [], ◌++◌, Option, Some, None, Result, Ok, Err, refl, sym, ap, subst, ◌∙◌, inl, inr, codes, is_some}
use Rattle.std.specs.Prelude.{nat_le, nat_lt, ◌&&◌, if◌then◌else◌}
use Rattle.std.specs.Result.{result_ok}
use Rattle.std.proofs.lemmas.Bool.{cases_Bool}
use Rattle.sci_core.specs.declared.events.Event.{Event}
use Rattle.sci_core.specs.declared.lines.Line.{Line}
use Rattle.sci_script.specs.declared.commands.Size.{Size}
use Rattle.sci_script.specs.Words.{is_skipped}
use Rattle.sci_dump.specs.Reading.{behind}
use Rattle.sci_dump.proofs.Inverting.{behind_text}
use Rattle.sci_logs.specs.declared.lines.Follower.{Follower}
use Rattle.sci_logs.specs.declared.logs.Log.{Log}
use Rattle.sci_logs.specs.declared.logs.LogFault.{LogFault}
use Rattle.sci_logs.specs.declared.parts.Lack.{Lack}
use Rattle.sci_logs.specs.declared.parts.LineReason.{LineReason}
use Rattle.sci_logs.specs.declared.parts.Part.{Part}
use Rattle.sci_logs.specs.declared.told.Asks.{Asks}
use Rattle.sci_logs.specs.declared.told.Noted.{Noted}
use Rattle.sci_logs.specs.declared.told.Told.{Told}
use Rattle.sci_logs.specs.declared.why.Due.{Due}
use Rattle.sci_logs.specs.LineText.{◌>>=◌, acting_at, bare_told_at, bracketed_link_at, claim_at, closed_at, count_at, ended_at, label_at, lack, line_at, long_told_at, maybe_words_at, memory_at, node_at, noted_at, numbered_at, on_line_at, onward, opening_at, other_told_at, own_told_at, placed_at, queue_at, requeue_at, size_part, space_at, tag_told_at, told_at, wants, whose_at, word_and_space_at, written_at}
use Rattle.sci_logs.specs.Logs.{Begins, Continues, Ends, Feeds, FeedsBy, Notes, Reads}
use Rattle.sci_logs.specs.Names.{bare_event_at, found_at, other_asks_at, own_asks_at}
use Rattle.sci_logs.specs.Reasons.{IsWhy, due_of, event_misfit, line_lack, line_misfit, memory_misfit, misfit, opening_misfit, opens_or, reason_of, whose_misfit, would_tell}
use Rattle.sci_logs.specs.Told.{is_noted_in, is_told_in}

-- a part and the rest of what gives a value
both_ok : {A B : Type 0} (r : Result A Lack) (f : A → Result B Lack) (y : B) → (r >>= f) ≡ Ok y → (x : A) × (r ≡ Ok x) × (f x ≡ Ok y)
both_ok (Ok x) f y h = (x, refl, h)
both_ok (Err e) f y h = absurd (let no = h in cc)

then_ok : {A B : Type 0} (r : Result A Lack) (f : A → Result B Lack) (x : A) (y : Result B Lack) → r ≡ Ok x → f x ≡ y → (r >>= f) ≡ y
then_ok r f x y is next = rw is next

ok_of : {A : Type 0} (x y : A) → ◌≡◌ {A = Result A Lack} (Ok x) (Ok y) → x ≡ y
ok_of x y e = cc

onward_ok : {A B : Type 0} (read : Option A) (more : A → Result B Lack) (other : Result B Lack) (y : B) → onward read more other ≡ Ok y → ((x : A) × (read ≡ Some x) × (more x ≡ Ok y)) ⊎ (other ≡ Ok y)
onward_ok (Some x) more other y h = inl (x, refl, h)
onward_ok None more other y h = inr h

wants_some : {A : Type 0} (part : Part) (text : List ℕ) (read : Option A) (x : A) → wants part text read ≡ Ok x → read ≡ Some x
wants_some part text (Some z) x h = ap Some (ok_of z x h)
wants_some part text None x h = absurd (let no = h in cc)

numbered_parts : (first : Part) (bytes : List ℕ) (part : Part) (most : ℕ) (text : List ℕ) (x : ℕ × List ℕ) → numbered_at first bytes part most text ≡ Ok x
    → (place : List ℕ) × (rest : List ℕ) × (word_and_space_at first bytes text ≡ Ok place) × (count_at part most place ≡ Ok (x.0, rest)) × (space_at rest ≡ Ok x.1)
unfolding numbered_at
numbered_parts first bytes part most text x h =
    let (place, is, more) = both_ok (word_and_space_at first bytes text) _ x h in
    let (number, reads, next) = both_ok (count_at part most place) _ x more in
    let (rest, ends, all) = both_ok (space_at number.1) _ x next in
    let same = ok_of (number.0, rest) x all in
    (place, number.1, is, subst (λ (z : ℕ × List ℕ). count_at part most place ≡ Ok (z.0, number.1)) same reads, subst (λ (z : ℕ × List ℕ). space_at number.1 ≡ Ok z.1) same ends)

-- a place is told
abbrev IsFound : Result Lack Lack → Type 0
IsFound read = (l : Lack) × (read ≡ Ok l)

-- an event that names no other node is of nodes that are there
told_so : (nodes : ℕ) (x told : Told × List ℕ) → ◌≡◌ {A = Result (Told × List ℕ) Lack} (Ok x) (Ok told) → is_told_in nodes x.0 ≡ true → is_told_in nodes told.0 ≡ true
told_so nodes x told is there = subst (λ (t : Told × List ℕ). is_told_in nodes t.0 ≡ true) (ok_of x told is) there

bare_in : (nodes : ℕ) (event : Event) (text : List ℕ) (told : Told × List ℕ) → bare_told_at event text ≡ Ok told → is_told_in nodes told.0 ≡ true
unfolding bare_told_at
bare_in nodes event text told h =
    let (rest, is, same) = both_ok (space_at text) _ told h in told_so nodes (Told.Event event, rest) told same refl

own_in : (nodes : ℕ) (asks : Asks) (text : List ℕ) (told : Told × List ℕ) → own_told_at asks text ≡ Ok told → is_told_in nodes told.0 ≡ true
unfolding own_told_at tag_told_at
own_in nodes asks text told h =
    let (opened, is, more) = both_ok (label_at Part.Opened (codes "(") text) _ told h in
    let (found, reads, next) = both_ok (wants Part.Tag opened (found_at opened)) _ told more in
    let (rest, ends, same) = both_ok (closed_at found.1) _ told next in
    told_so nodes (Told.On asks None found.0, rest) told same refl

queue_in : (nodes : ℕ) (text : List ℕ) (told : Told × List ℕ) → queue_at text ≡ Ok told → is_told_in nodes told.0 ≡ true
unfolding queue_at
queue_in nodes text told h =
    let (link, is, same) = both_ok (bracketed_link_at text) _ told h in told_so nodes (Told.Event (Event.Queue link.0), link.1) told same refl

requeue_in : (nodes : ℕ) (text : List ℕ) (told : Told × List ℕ) → requeue_at text ≡ Ok told → is_told_in nodes told.0 ≡ true
unfolding requeue_at
requeue_in nodes text told h =
    let (link, is, same) = both_ok (bracketed_link_at text) _ told h in told_so nodes (Told.Event (Event.Requeue link.0), link.1) told same refl

written_in : (nodes : ℕ) (text : List ℕ) (told : Told × List ℕ) → written_at text ≡ Ok told → is_told_in nodes told.0 ≡ true
unfolding written_at
written_in nodes text told h =
    let (opened, is, more) = both_ok (label_at Part.Opened (codes "(") text) _ told h in
    let (words, reads, next) = both_ok (maybe_words_at opened) _ told more in
    let (rest, ends, same) = both_ok (closed_at words.1) _ told next in
    told_so nodes (Told.Event (Event.Written words.0), rest) told same refl

long_in : (nodes : ℕ) (text : List ℕ) (told : Told × List ℕ) → long_told_at text ≡ Ok told → is_told_in nodes told.0 ≡ true
unfolding long_told_at
long_in nodes text told h = elim (onward_ok (behind (codes "Queue") text) queue_at _ told h) [
  | inl queue ↦ queue_in nodes queue.0 told queue.2
  | inr other ↦ elim (onward_ok (behind (codes "Written") text) written_at _ told other) [
    | inl written ↦ written_in nodes written.0 told written.2
    | inr last ↦ elim (onward_ok (behind (codes "Requeue") text) requeue_at _ told last) [
      | inl requeue ↦ requeue_in nodes requeue.0 told requeue.2
      | inr none ↦ absurd (let no = none in cc)
    ]
  ]
]

-- one that names another has it behind its bracket
other_out : (asks : Asks × List ℕ) (text : List ℕ) (told : Told × List ℕ) → other_asks_at text ≡ Some asks → other_told_at asks.0 asks.1 ≡ Ok told → IsFound (whose_misfit text)
unfolding other_told_at whose_at whose_misfit
other_out asks text told is h =
    let (node, reads, more) = both_ok (whose_at asks.1) _ told h in
    let (place, opens, next) = both_ok (label_at Part.Opened (codes "(") asks.1) _ node reads in
    let l = lack Part.NodeNumber place in
    (l, then_ok (wants Part.Event text (other_asks_at text)) _ asks (Ok l) (ap (wants Part.Event text) is) (then_ok (label_at Part.Opened (codes "(") asks.1) _ place (Ok l) opens refl))

in_and_out : (b : Bool) {X : Type 0} → b ≡ true → b ≡ false → X
in_and_out b is out = absurd (true≢false (sym is ∙ out))

told_out : (nodes : ℕ) (text : List ℕ) (told : Told × List ℕ) → told_at text ≡ Ok told → is_told_in nodes told.0 ≡ false → IsFound (whose_misfit text)
unfolding told_at
told_out nodes text told h out = elim (onward_ok (bare_event_at text) (λ event. bare_told_at event.0 event.1) _ told h) [
  | inl bare ↦ in_and_out (is_told_in nodes told.0) (bare_in nodes bare.0.0 bare.0.1 told bare.2) out
  | inr more ↦ elim (onward_ok (own_asks_at text) (λ asks. own_told_at asks.0 asks.1) _ told more) [
    | inl own ↦ in_and_out (is_told_in nodes told.0) (own_in nodes own.0.0 own.0.1 told own.2) out
    | inr next ↦ elim (onward_ok (other_asks_at text) (λ asks. other_told_at asks.0 asks.1) _ told next) [
      | inl other ↦ other_out other.0 text told other.1 other.2
      | inr long ↦ in_and_out (is_told_in nodes told.0) (long_in nodes text told long) out
    ]
  ]
]

last_out : (a b c : Bool) → a ≡ true → b ≡ true → a && (b && c) ≡ false → c ≡ false
last_out true true c is also h = h
last_out true false c is also h = absurd (let no = also in cc)
last_out false b c is also h = absurd (let no = is in cc)

if_so : {A : Type 0} (b : Bool) (x y : A) → b ≡ true → (if b then x else y) ≡ x
if_so b x y is = rw is refl

if_not : {A : Type 0} (b : Bool) (x y : A) → b ≡ false → (if b then x else y) ≡ y
if_not b x y is = rw is refl

line_out : (size : Size) (node : ℕ) (rest text : List ℕ) (noted : Noted) → space_at rest ≡ Ok text → placed_at node text ≡ Ok noted → nat_lt node size.nodes ≡ true → is_noted_in size noted ≡ false → IsFound (line_misfit size.lines rest)
unfolding placed_at ended_at line_misfit
line_out size node rest text noted spaces h there out =
    let (line, on, more) = both_ok (on_line_at text) _ noted h in
    let (told, tells, next) = both_ok (told_at line.1) _ noted more in
    let (claim, claims, all) = both_ok (claim_at told.0 told.1) _ noted next in
    let same = ok_of (record { node = node; line = line.0; told = told.0; claim = claim }) noted all in
    let (place, after, is, reads, ends) = numbered_parts Part.OnLine (codes "line") Part.LineNumber 65535 text line on in
    let outside : nat_lt node size.nodes && (nat_lt line.0 size.lines && is_told_in size.nodes told.0) ≡ false = subst (λ (r : Noted). is_noted_in size r ≡ false) (sym same) out in
    let here = lack Part.LineNumber place in
    let reach : (y : Result Lack Lack) → (if nat_lt line.0 size.lines then space_at after >>= whose_misfit else Ok here) ≡ y → line_misfit size.lines rest ≡ y = λ y next.
    then_ok (space_at rest) _ text y spaces (then_ok (word_and_space_at Part.OnLine (codes "line") text) _ place y is (then_ok (line_at place) _ (line.0, after) y reads next)) in
    elim (cases_Bool (nat_lt line.0 size.lines)) [
      | inl few ↦
          let (l, finds) = told_out size.nodes line.1 told tells (last_out (nat_lt node size.nodes) (nat_lt line.0 size.lines) (is_told_in size.nodes told.0) there few outside) in
          (l, reach (Ok l) (if_so (nat_lt line.0 size.lines) (space_at after >>= whose_misfit) (Ok here) few ∙ then_ok (space_at after) whose_misfit line.1 (Ok l) ends finds))
      | inr none ↦ (here, reach (Ok here) (if_not (nat_lt line.0 size.lines) (space_at after >>= whose_misfit) (Ok here) none))
    ]

event_out : (size : Size) (text : List ℕ) (noted : Noted) → noted_at text ≡ Ok noted → is_noted_in size noted ≡ false → IsFound (event_misfit size text)
unfolding noted_at event_misfit
event_out size text noted h out =
    let (node, acts, more) = both_ok (acting_at text) _ noted h in
    let (place, rest, is, reads, ends) = numbered_parts Part.Node (codes "node") Part.NodeNumber 65534 text node acts in
    let here = lack Part.NodeNumber place in
    let reach : (y : Result Lack Lack) → (if nat_lt node.0 size.nodes then line_misfit size.lines rest else Ok here) ≡ y → event_misfit size text ≡ y = λ y next.
    then_ok (word_and_space_at Part.Node (codes "node") text) _ place y is (then_ok (node_at place) _ (node.0, rest) y reads next) in
    elim (cases_Bool (nat_lt node.0 size.nodes)) [
      | inl there ↦
          let (l, finds) = line_out size node.0 rest node.1 noted ends more there out in
          (l, reach (Ok l) (if_so (nat_lt node.0 size.nodes) (line_misfit size.lines rest) (Ok here) there ∙ finds))
      | inr none ↦ (here, reach (Ok here) (if_not (nat_lt node.0 size.nodes) (line_misfit size.lines rest) (Ok here) none))
    ]

memory_out : (text : List ℕ) (size : Size) → memory_at text ≡ Ok size → IsFound (memory_misfit text)
unfolding memory_at memory_misfit
memory_out text size h =
    let (nodes, first, more) = both_ok (numbered_at Part.Memory (codes "memory") size_part 65535 text) _ size h in
    let (place, rest, is, reads, ends) = numbered_parts Part.Memory (codes "memory") size_part 65535 text nodes first in
    let l = lack size_part (if nat_le 1 nodes.0 && nat_le nodes.0 1024 then nodes.1 else place) in
    (l, then_ok (word_and_space_at Part.Memory (codes "memory") text) _ place (Ok l) is (then_ok (count_at size_part 65535 place) _ (nodes.0, rest) (Ok l) reads (then_ok (space_at rest) _ nodes.1 (Ok l) ends refl)))

-- a line that begins as an opening, or as an event
begins_so : (part : Part) (bytes text place : List ℕ) → word_and_space_at part bytes text ≡ Ok place → (rest : List ℕ) × (behind bytes text ≡ Some rest)
unfolding word_and_space_at label_at
begins_so part bytes text place h =
    let (rest, is, more) = both_ok (label_at part bytes text) _ place h in
    (rest, wants_some part text (behind bytes text) rest is)

opening_out : (size : Size) (text : List ℕ) (o : ℕ × Line) → opening_at text ≡ Ok o → IsFound (misfit (Due.Opening size) text)
unfolding opening_at opening_misfit
opening_out size text o h =
    let (place, is, more) = both_ok (word_and_space_at Part.Open (codes "open") text) _ o h in
    let (rest, begins) = begins_so Part.Open (codes "open") text place is in
    let l = lack Part.LineNumber place in
    (l, ap (λ (b : Option (List ℕ)). opens_or b (opening_misfit text) (event_misfit size text)) begins ∙ then_ok (word_and_space_at Part.Open (codes "open") text) _ place (Ok l) is refl)

not_open : (rest : List ℕ) → behind (codes "open") (codes "node" ++ rest) ≡ None
unfolding behind
not_open rest = refl

no_opening : (text : List ℕ) (noted : Noted) → noted_at text ≡ Ok noted → behind (codes "open") text ≡ None
unfolding noted_at
no_opening text noted h =
    let (node, acts, more) = both_ok (acting_at text) _ noted h in
    let (place, rest, is, reads, ends) = numbered_parts Part.Node (codes "node") Part.NodeNumber 65534 text node acts in
    let (front, begins) = begins_so Part.Node (codes "node") text place is in
    ap (behind (codes "open")) (behind_text (codes "node") text front begins) ∙ not_open front

-- what is told of a refused line is some reason
abbrev IsTold : LogFault → Due → List ℕ → Type 0
IsTold (LogFault.BadLine n) due text = is_some (line_lack due text) ≡ true
IsTold (LogFault.BadNumber n) due text = is_some (result_ok (misfit due text)) ≡ true
IsTold e due text = Unit {0}

found : (read : Result Lack Lack) → IsFound read → is_some (result_ok read) ≡ true
found read (l, is) = rw is refl

not_in : (size : Size) (noted : Noted) → (is_noted_in size noted ≡ true → ⊥) → is_noted_in size noted ≡ false
not_in size noted out = elim (cases_Bool (is_noted_in size noted)) [
  | inl inside ↦ absurd (out inside)
  | inr outside ↦ outside
]

begun : (n : ℕ) (text : List ℕ) (read : Result Size Lack) (e : LogFault) → memory_at text ≡ read → Begins n read (Err e) → IsTold e Due.Memory text
begun n text (Err l) (LogFault.BadLine k) is h = rw is refl
begun n text (Ok size) (LogFault.BadNumber k) is h = found (memory_misfit text) (memory_out text size is)
begun n text (Ok size) (LogFault.BadLine k) is h = absurd h
begun n text (Err l) (LogFault.BadNumber k) is h = absurd h
begun n text read LogFault.OutOfMemory is h = tt
begun n text read LogFault.CannotRead is h = tt
begun n text read (LogFault.Departs k why) is h = tt

noted_so : (n : ℕ) (f : Follower) (text : List ℕ) (read : Result Noted Lack) (e : LogFault) → noted_at text ≡ read → Notes n f read (Err e) → IsTold e (Due.Event f.size) text
noted_so n f text (Err l) (LogFault.BadLine k) is h = rw is refl
noted_so n f text (Ok noted) (LogFault.BadNumber k) is h = found (event_misfit f.size text) (event_out f.size text noted is (not_in f.size noted h.1))
noted_so n f text (Ok noted) (LogFault.BadLine k) is h = absurd h
noted_so n f text (Err l) (LogFault.BadNumber k) is h = absurd h
noted_so n f text read LogFault.OutOfMemory is h = tt
noted_so n f text read LogFault.CannotRead is h = tt
noted_so n f text read (LogFault.Departs k why) is h = tt

either_lacks : (begins : Option (List ℕ)) (l m : Lack) → is_some (opens_or begins (Some l) (Some m)) ≡ true
either_lacks (Some rest) l m = refl
either_lacks None l m = refl

opened_so : (n : ℕ) (f : Follower) (text : List ℕ) (o : Result (ℕ × Line) Lack) (read : Result Noted Lack) (e : LogFault) → opening_at text ≡ o → noted_at text ≡ read → Continues n f o read (Err e) → IsTold e (Due.Opening f.size) text
opened_so n f text (Ok o) read (LogFault.BadLine k) opens is h = absurd h
opened_so n f text (Ok o) read (LogFault.BadNumber k) opens is h = found (misfit (Due.Opening f.size) text) (opening_out f.size text o opens)
opened_so n f text (Err l) (Err m) (LogFault.BadLine k) opens is h = rw opens (rw is (either_lacks (behind (codes "open") text) l m))
opened_so n f text (Err l) (Ok noted) (LogFault.BadNumber k) opens is h = rw (no_opening text noted is) (found (event_misfit f.size text) (event_out f.size text noted is (not_in f.size noted h.1)))
opened_so n f text (Err l) (Ok noted) (LogFault.BadLine k) opens is h = absurd h
opened_so n f text (Err l) (Err m) (LogFault.BadNumber k) opens is h = absurd h
opened_so n f text o read LogFault.OutOfMemory opens is h = tt
opened_so n f text o read LogFault.CannotRead opens is h = tt
opened_so n f text o read (LogFault.Departs k why) opens is h = tt

read_so : (n : ℕ) (text : List ℕ) (log : Log) (e : LogFault) → Reads n text log (Err e) → IsTold e (due_of log) text
read_so n text Log.New e h = begun n text (memory_at text) e refl h
read_so n text (Log.Opening f) e h = opened_so n f text (opening_at text) (noted_at text) e refl refl h
read_so n text (Log.Running f) e h = noted_so n f text (noted_at text) e refl h

fed_so : (skipped : Bool) (n : ℕ) (text : List ℕ) (log : Log) (e : LogFault) → FeedsBy skipped n text log (Err e) → IsTold e (due_of log) text
fed_so true n text log e h = absurd (let no = h in cc)
fed_so false n text log e h = read_so n text log e h

reasoned : (due : Due) (text : List ℕ) (lack : Option Lack) → is_some lack ≡ true → is_some (reason_of due text lack) ≡ true
reasoned due text (Some l) some = refl
reasoned due text None some = absurd (let no = some in cc)

tells : (due : Due) (text : List ℕ) (e : LogFault) (why : Option LineReason) → why ≡ would_tell e due text → IsTold e due text → IsWhy e due text why
tells due text (LogFault.BadLine k) why is told = (is, ap is_some is ∙ reasoned due text (line_lack due text) told)
tells due text (LogFault.BadNumber k) why is told = (is, ap is_some is ∙ reasoned due text (result_ok (misfit due text)) told)
tells due text LogFault.OutOfMemory why is told = is
tells due text LogFault.CannotRead why is told = is
tells due text (LogFault.Departs k d) why is told = is

pub fed_tells : (n : ℕ) (text : List ℕ) (log : Log) (e : LogFault) (why : Option LineReason) → Feeds n text log (Err e) → why ≡ would_tell e (due_of log) text → IsWhy e (due_of log) text why
fed_tells n text log e why fed is = tells (due_of log) text e why is (fed_so (is_skipped text) n text log e fed)

end_so : (n : ℕ) (log : Log) (e : LogFault) → Ends n log (Err e) → IsTold e (due_of log) []
unfolding memory_at numbered_at word_and_space_at label_at behind
end_so n Log.New (LogFault.BadLine k) h = refl
end_so n Log.New (LogFault.BadNumber k) h = absurd (let no = h in cc)
end_so n (Log.Opening f) (LogFault.BadLine k) h = absurd (let no = h in cc)
end_so n (Log.Opening f) (LogFault.BadNumber k) h = absurd (let no = h in cc)
end_so n (Log.Running f) (LogFault.BadLine k) h = absurd (let no = h in cc)
end_so n (Log.Running f) (LogFault.BadNumber k) h = absurd (let no = h in cc)
end_so n log LogFault.OutOfMemory h = tt
end_so n log LogFault.CannotRead h = tt
end_so n log (LogFault.Departs k d) h = tt

pub end_tells : (n : ℕ) (log : Log) (e : LogFault) (why : Option LineReason) → Ends n log (Err e) → why ≡ would_tell e (due_of log) [] → IsWhy e (due_of log) [] why
end_tells n log e why ended is = tells (due_of log) [] e why is (end_so n log e ended)
