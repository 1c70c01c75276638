-- The text of a line of a log: what it tells, or the first part that isn't there. This project's profile.
use Rattle.std.specs.Prelude.{◌≡◌, ℕ, zero, suc, Bool, true, false, List, [], ◌∷◌, length, Option, Some, None, Result, Ok, Err, codes}
use Rattle.sci_core.specs.declared.lines.Line.{Line}
use Rattle.sci_core.specs.declared.events.Event.{Event}
use Rattle.sci_script.specs.declared.commands.Size.{Size}
use Rattle.sci_dump.specs.Reading.{behind, word_at, number_at, capped_at}
use Rattle.sci_logs.specs.declared.entries.Claim.{Claim}
use Rattle.sci_logs.specs.declared.parts.Lack.{Lack}
use Rattle.sci_logs.specs.declared.parts.Part.{Part}
use Rattle.sci_logs.specs.declared.told.Asks.{Asks}
use Rattle.sci_logs.specs.declared.told.Found.{Found}
use Rattle.sci_logs.specs.declared.told.Told.{Told}
use Rattle.sci_logs.specs.declared.told.Noted.{Noted}
use Rattle.sci_logs.specs.Names.{bare_event_at, found_at, other_asks_at, own_asks_at}

-- this part isn't there, but this text
abbrev pub lack : Part → List ℕ → Lack
lack wanted text = record { wanted = wanted; left = length text }

-- one part after another: each gives a value and the text behind it, or the first lack
infixl 10 ◌>>=◌
abbrev pub ◌>>=◌ : {A B : Type 0} → Result A Lack → (A → Result B Lack) → Result B Lack
(Ok x) >>= f = f x
(Err e) >>= f = Err e

-- what a function returned, seen by view, is what reading gives
abbrev pub Gives : {X Y : Type 0} → (X → Y) → Result X Lack → Result Y Lack → Type 0
Gives view (Ok x) read = read ≡ Ok (view x)
Gives view (Err e) read = read ≡ Err e

-- this part, as it was read here
abbrev pub wants : {A : Type 0} → Part → List ℕ → Option A → Result A Lack
wants part text (Some x) = Ok x
wants part text None = Err (lack part text)

-- what stands behind this, where it stands here, or else the other
abbrev pub onward : {A B : Type 0} → Option A → (A → Result B Lack) → Result B Lack → Result B Lack
onward (Some x) more other = more x
onward None more other = other

-- these bytes, which are this part
unfoldable pub label_at : Part → List ℕ → List ℕ → Result (List ℕ) Lack
label_at part bytes text = wants part text (behind bytes text)

abbrev pub space_at : List ℕ → Result (List ℕ) Lack
space_at text = label_at Part.Space (codes " ") text

-- this word, and a space
unfoldable pub word_and_space_at : Part → List ℕ → List ℕ → Result (List ℕ) Lack
word_and_space_at part bytes text = do
  text ← label_at part bytes text
  space_at text

-- nothing more
unfoldable pub end_at : List ℕ → Result (Unit {0}) Lack
end_at [] = Ok tt
end_at (b ∷ bs) = Err (lack Part.End (b ∷ bs))

-- a number of any length; one above `most` stands for that
unfoldable pub count_at : Part → ℕ → List ℕ → Result (ℕ × List ℕ) Lack
count_at part most text = wants part text (capped_at most text)

-- the last numbers that nodes and lines can have
abbrev pub last_node : ℕ
last_node = 65534

abbrev pub last_line : ℕ
last_line = 65535

-- a node's number, a line's: one that no memory has stands for the last
abbrev pub node_at : List ℕ → Result (ℕ × List ℕ) Lack
node_at text = count_at Part.NodeNumber last_node text

abbrev pub line_at : List ℕ → Result (ℕ × List ℕ) Lack
line_at text = count_at Part.LineNumber last_line text

-- a space, or what else may stand in its place, and a number below 2 ^ 64
unfoldable pub value_at : Part → List ℕ → Result (ℕ × List ℕ) Lack
value_at part text = do
  text ← label_at part (codes " ") text
  wants Part.Value text (number_at text)

-- so many of them
unfoldable pub values_at : ℕ → List ℕ → Result (List ℕ × List ℕ) Lack
values_at zero text = Ok ([], text)
values_at (suc k) text = do
  value ← value_at Part.SpacedValue text
  values ← values_at k value.1
  Ok (value.0 ∷ values.0, values.1)

-- a stamp and the words of a line, to the end
unfoldable pub content_at : Part → List ℕ → Result Line Lack
content_at part text = do
  stamp ← value_at part text
  words ← values_at 8 stamp.1
  end ← end_at words.1
  Ok (record { words = words.0; stamp = stamp.0 })

-- the bracket behind an argument, and a space
unfoldable pub closed_at : List ℕ → Result (List ℕ) Lack
closed_at text = word_and_space_at Part.Bracket (codes ")") text

-- a link: a node, or `none`
unfoldable pub some_node_at : List ℕ → Result (Option ℕ × List ℕ) Lack
some_node_at text = do
  node ← count_at Part.Link last_node text
  Ok (Some node.0, node.1)

unfoldable pub link_at : List ℕ → Result (Option ℕ × List ℕ) Lack
link_at text = onward (behind (codes "none") text) (λ rest. Ok (None, rest)) (some_node_at text)

-- `(LINK) `
unfoldable pub bracketed_link_at : List ℕ → Result (Option ℕ × List ℕ) Lack
bracketed_link_at text = do
  text ← label_at Part.Opened (codes "(") text
  link ← link_at text
  text ← closed_at link.1
  Ok (link.0, text)

-- an event that asks for this tag, of that node or its own: `TAG) `
unfoldable pub tag_told_at : Asks → Option ℕ → List ℕ → Result (Told × List ℕ) Lack
tag_told_at asks whose text = do
  found ← wants Part.Tag text (found_at text)
  text ← closed_at found.1
  Ok (Told.On asks whose found.0, text)

-- behind the name of an event: of one that asks for nothing
unfoldable pub bare_told_at : Event → List ℕ → Result (Told × List ℕ) Lack
bare_told_at event text = do
  text ← space_at text
  Ok (Told.Event event, text)

-- of one that asks for the own tag: `(TAG) `
unfoldable pub own_told_at : Asks → List ℕ → Result (Told × List ℕ) Lack
own_told_at asks text = do
  text ← label_at Part.Opened (codes "(") text
  tag_told_at asks None text

-- of one that asks for another node's tag: `(N TAG) `
unfoldable pub whose_at : List ℕ → Result (ℕ × List ℕ) Lack
whose_at text = do
  text ← label_at Part.Opened (codes "(") text
  node ← node_at text
  text ← space_at node.1
  Ok (node.0, text)

unfoldable pub other_told_at : Asks → List ℕ → Result (Told × List ℕ) Lack
other_told_at asks text = do
  node ← whose_at text
  tag_told_at asks (Some node.0) node.1

-- `Queue(LINK) `, `Requeue(LINK) `
unfoldable pub queue_at : List ℕ → Result (Told × List ℕ) Lack
queue_at text = do
  link ← bracketed_link_at text
  Ok (Told.Event (Event.Queue link.0), link.1)

unfoldable pub requeue_at : List ℕ → Result (Told × List ℕ) Lack
requeue_at text = do
  link ← bracketed_link_at text
  Ok (Told.Event (Event.Requeue link.0), link.1)

-- `Written(none) `, `Written(words V V V V V V V V) `
unfoldable pub new_words_at : List ℕ → Result (Option (List ℕ) × List ℕ) Lack
new_words_at text = do
  text ← label_at Part.NoneOrWords (codes "words") text
  words ← values_at 8 text
  Ok (Some words.0, words.1)

unfoldable pub maybe_words_at : List ℕ → Result (Option (List ℕ) × List ℕ) Lack
maybe_words_at text = onward (behind (codes "none") text) (λ rest. Ok (None, rest)) (new_words_at text)

unfoldable pub written_at : List ℕ → Result (Told × List ℕ) Lack
written_at text = do
  text ← label_at Part.Opened (codes "(") text
  words ← maybe_words_at text
  text ← closed_at words.1
  Ok (Told.Event (Event.Written words.0), text)

-- an event that is told with its link or its words
unfoldable pub long_told_at : List ℕ → Result (Told × List ℕ) Lack
long_told_at text = onward (behind (codes "Queue") text) queue_at
    (onward (behind (codes "Written") text) written_at
    (onward (behind (codes "Requeue") text) requeue_at (Err (lack Part.Event text))))

-- what an event is told as, and a space
unfoldable pub told_at : List ℕ → Result (Told × List ℕ) Lack
told_at text = onward (bare_event_at text) (λ event. bare_told_at event.0 event.1)
    (onward (own_asks_at text) (λ asks. own_told_at asks.0 asks.1)
    (onward (other_asks_at text) (λ asks. other_told_at asks.0 asks.1) (long_told_at text)))

-- `Done`, or `Done S V V V V V V V V`, to the end
abbrev pub answered_at : List ℕ → Result Claim Lack
answered_at text = do
  line ← content_at Part.EndOrValue text
  Ok (Claim.Answered line)

unfoldable pub done_at : List ℕ → Result Claim Lack
done_at [] = Ok Claim.Done
done_at (b ∷ bs) = answered_at (b ∷ bs)

-- `Busy`, to the end
unfoldable pub busy_at : List ℕ → Result Claim Lack
busy_at text = do
  end ← end_at text
  Ok Claim.Busy

-- ` WORD`, the word that was found, to the end
unfoldable pub missed_at : List ℕ → Result Claim Lack
missed_at text = do
  text ← space_at text
  word ← wants Part.Word text (word_at text)
  end ← end_at word.1
  Ok (Claim.Missed word.0)

-- an exchange that asks for the tag that stands can't miss: a miss tells the tag that was asked for in digits
abbrev pub may_miss : Told → Bool
may_miss (Told.On asks whose (Found.Named tag)) = false
may_miss told = true

unfoldable pub may_missed_at : Bool → List ℕ → Result Claim Lack
may_missed_at true text = do
  text ← label_at Part.Outcome (codes "Missed") text
  missed_at text
may_missed_at false text = Err (lack Part.Hit text)

-- how this event ended: done, missed or busy
unfoldable pub claim_at : Told → List ℕ → Result Claim Lack
claim_at told text = onward (behind (codes "Done") text) done_at (onward (behind (codes "Busy") text) busy_at (may_missed_at (may_miss told) text))

-- a word and a number, each with a space behind it
unfoldable pub numbered_at : Part → List ℕ → Part → ℕ → List ℕ → Result (ℕ × List ℕ) Lack
numbered_at first bytes part most text = do
  text ← word_and_space_at first bytes text
  number ← count_at part most text
  text ← space_at number.1
  Ok (number.0, text)

-- `node N `, `line L `
abbrev pub acting_at : List ℕ → Result (ℕ × List ℕ) Lack
acting_at text = numbered_at Part.Node (codes "node") Part.NodeNumber last_node text

abbrev pub on_line_at : List ℕ → Result (ℕ × List ℕ) Lack
on_line_at text = numbered_at Part.OnLine (codes "line") Part.LineNumber last_line text

-- `EVENT OUTCOME`, of this node on this line
unfoldable pub ended_at : ℕ → ℕ → List ℕ → Result Noted Lack
ended_at node line text = do
  told ← told_at text
  claim ← claim_at told.0 told.1
  Ok (record { node = node; line = line; told = told.0; claim = claim })

unfoldable pub placed_at : ℕ → List ℕ → Result Noted Lack
placed_at node text = do
  line ← on_line_at text
  ended_at node line.0 line.1

-- `node N line L EVENT OUTCOME`
unfoldable pub noted_at : List ℕ → Result Noted Lack
noted_at text = do
  node ← acting_at text
  placed_at node.0 node.1

-- how many nodes a memory has, or lines; a number that is too large stays too large
abbrev pub size_part : Part
size_part = Part.Number 1 1024

-- `memory NODES LINES`
unfoldable pub memory_at : List ℕ → Result Size Lack
memory_at text = do
  nodes ← numbered_at Part.Memory (codes "memory") size_part last_line text
  lines ← count_at size_part last_line nodes.1
  end ← end_at lines.1
  Ok (record { nodes = nodes.0; lines = lines.0 })

-- `open L S V V V V V V V V`
unfoldable pub opening_at : List ℕ → Result (ℕ × Line) Lack
opening_at text = do
  text ← word_and_space_at Part.Open (codes "open") text
  line ← line_at text
  content ← content_at Part.SpacedValue line.1
  Ok (line.0, content)
