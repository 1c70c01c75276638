-- What a step of the table tells the seat. This project's profile.
use Rattle.std.specs.Prelude.{◌≡◌, ◌≢◌, ◌⊎◌, ℕ, zero, suc, true, List, ◌∷◌, map, drop, Some, None}
use Rattle.atomic_table.specs.Table.{Me, rest}
use Rattle.sci_words.specs.Codes.{tag_code, mem_code}
use Rattle.sci_words.specs.Tag.{tag_links_below}
use Rattle.sci_words.specs.Mem.{mem_links_below}
use Rattle.sci_core.specs.declared.lines.Line.{Line}
use Rattle.sci_words.specs.declared.tags.Tag.{Tag}
use Rattle.sci_core.specs.declared.events.Event.{Event}
use Rattle.sci_core.specs.declared.outcomes.Outcome.{Outcome}
use Rattle.sci_core.specs.declared.rows.Change.{Change}
use Rattle.sci_core.specs.declared.rows.Change.TheVariants.{OfMemory, OfTag}
use Rattle.sci_core.specs.declared.rows.Carry.{Carry}
use Rattle.sci_core.specs.declared.rows.Carry.TheVariants.{Stays, Takes, Gives}
use Rattle.sci_core.specs.State.{State, blank}
use Rattle.sci_core.specs.Row.{Row}
use Rattle.sci_core.specs.Step as core
use Rattle.sci_core.specs.Step.{look_of, taken_line}
use Rattle.sci_core.specs.Table.{row_of}
use Rattle.sci_core.specs.Whole.{IsRuled}
use Rattle.sci_port.specs.declared.calls.Call.{Call}
use Rattle.sci_port.specs.declared.calls.Call.TheVariants.{Own, MemWas, TagWas, Stepped}
use Rattle.sci_fine.specs.declared.views.Terms.{Terms}
use Rattle.sci_fine.specs.declared.views.View.{View}
use Rattle.sci_fine.specs.Rule.{slot_number, lies_at, word_at}
use Rattle.sci_fine.specs.Views.{saw}

-- a seat's view, and what is in its hand
abbrev pub Seated : Type 0 → Type 0
Seated K = Me Line (View K)

-- the numbers of the slots in hand, the last one taken first
abbrev pub slots_in : List (ℕ × Line) → List ℕ
slots_in c = map (λ (x : ℕ × Line). x.0) c

-- the number of the word of a change, and its codes
abbrev pub place_of : Change → ℕ
place_of (OfMemory before after) = 0
place_of (OfTag x before after) = suc x

abbrev pub before_of : Change → ℕ
before_of (OfMemory before after) = mem_code before
before_of (OfTag x before after) = tag_code before

abbrev pub after_of : Change → ℕ
after_of (OfMemory before after) = mem_code after
after_of (OfTag x before after) = tag_code after

-- the links of the word before are links of words
abbrev pub HasLinks : Change → Type 0
HasLinks (OfMemory before after) = mem_links_below 65535 before ≡ true
HasLinks (OfTag x before after) = tag_links_below 65535 before ≡ true

-- what is given lies in the slot that was taken last
abbrev pub Carries : Carry → List (ℕ × Line) → Type 0
Carries Stays c = Unit {0}
Carries (Takes x) c = Unit {0}
Carries (Gives x l) c = c ≡ (slot_number x, l) ∷ rest c

-- what is in hand after a row that takes the line y, if it takes one
abbrev pub carried_by : Carry → Line → List (ℕ × Line) → List (ℕ × Line)
carried_by Stays y c = c
carried_by (Takes x) y c = (slot_number x, y) ∷ c
carried_by (Gives x l) y c = rest c

-- the line y was taken last, or nothing was taken
abbrev pub Took : Carry → Line → List (ℕ × Line) → Type 0
Took Stays y c = y ≡ blank
Took (Takes x) y c = c ≡ (slot_number x, y) ∷ rest c
Took (Gives x l) y c = y ≡ blank

-- this is the line that is given, if one is
abbrev pub GivesLine : Carry → Line → Type 0
GivesLine Stays y = Unit {0}
GivesLine (Takes x) y = Unit {0}
GivesLine (Gives x l) y = y ≡ l

-- a slot that is given was taken last
abbrev pub GivesTop : Carry → List ℕ → Type 0
GivesTop Stays ks = Unit {0}
GivesTop (Takes x) ks = Unit {0}
GivesTop (Gives x l) ks = ks ≡ slot_number x ∷ drop 1 ks

-- the lawful state in which the step was made: the seat's step is its node's there, and this is the word that it found, the one
-- with the number i
pub record Finds {K : Type 0} (fits : K → ℕ → List ℕ → Type 0) (t : Terms K) (v : View K) (i found : ℕ) : Type 0 where
  pub state : State
  pub ruled : IsRuled t.nodes (fits t.keep t.number) state
  pub step : state.steps v.node ≡ v.pending
  pub word : found ≡ word_at state i

-- the row was made: the step, the answer and the hand after are the row's, of the line that was in the slot that it takes
pub record IsHit {K : Type 0} (fits : K → ℕ → List ℕ → Type 0) (t : Terms K) (e : Event) (row : Row) (m : Seated K) (found : ℕ) (n : Seated K) : Type 0 where
  pub finds : Finds fits t m.0 (place_of row.change) found
  pub there : core.Finds finds.state row.change
  pub turn : ℕ
  pub view : n.0 ≡ saw m.0 turn (Stepped e (Outcome.Done (row.answer (taken_line finds.state row.carry)))) (row.after (taken_line finds.state row.carry)) (place_of row.change) found
  pub hand : n.1 ≡ carried_by row.carry (taken_line finds.state row.carry) m.1

-- a word was found, and nothing was changed but the view, which keeps this call of the state
pub record IsSeen {K : Type 0} (fits : K → ℕ → List ℕ → Type 0) (t : Terms K) (call : State → Call) (i : ℕ) (m : Seated K) (found : ℕ) (n : Seated K) : Type 0 where
  pub finds : Finds fits t m.0 i found
  pub turn : ℕ
  pub view : n.0 ≡ saw m.0 turn (call finds.state) m.0.pending i found
  pub hand : n.1 ≡ m.1

-- the own tag was found, and the step records it
pub record IsLooked {K : Type 0} (fits : K → ℕ → List ℕ → Type 0) (t : Terms K) (call : Tag → Call) (m : Seated K) (found : ℕ) (n : Seated K) : Type 0 where
  pub finds : Finds fits t m.0 (suc m.0.node) found
  pub turn : ℕ
  pub view : n.0 ≡ saw m.0 turn (call (finds.state.tags m.0.node)) (look_of m.0.pending (finds.state.tags m.0.node)) (suc m.0.node) found
  pub hand : n.1 ≡ m.1

-- an exchange by the row of the event, whose word before has the code `old`
abbrev pub exchanged : {K : Type 0} → (K → ℕ → List ℕ → Type 0) → Event → ℕ → Seated K → ℕ → Seated K → Type 0
exchanged {K} fits e old m found n = (t : Terms K) → m.0.of ≡ Some t
    → (found ≡ old → IsHit fits t e (row_of m.0.node m.0.pending e) m found n)
    × (found ≢ old → IsSeen fits t (λ s. Stepped e (Outcome.Missed found)) (place_of (row_of m.0.node m.0.pending e).change) m found n)

-- a load of the word with this number, as a call
abbrev pub load_of : ℕ → State → Call
load_of zero s = MemWas (Some s.memory)
load_of (suc x) s = TagWas x (Some (s.tags x))

abbrev pub loaded : {K : Type 0} → (K → ℕ → List ℕ → Type 0) → ℕ → Seated K → ℕ → Seated K → Type 0
loaded {K} fits i m found n = (t : Terms K) → m.0.of ≡ Some t → IsSeen fits t (load_of i) i m found n

-- a load of the word that lies in this place of the table
abbrev pub loaded_from : {K : Type 0} → (K → ℕ → List ℕ → Type 0) → ℕ → Seated K → ℕ → Seated K → Type 0
loaded_from fits place m found n = (i : ℕ) → place ≡ lies_at i → loaded fits i m found n

-- a look at the own tag, as a load of it
abbrev pub own_load : Tag → Call
own_load t = Own (Some t)

-- a look at the own tag, as a step
abbrev pub look_step : Tag → Call
look_step t = Stepped Event.Look (Outcome.Done None)

abbrev pub looked : {K : Type 0} → (K → ℕ → List ℕ → Type 0) → (Tag → Call) → Seated K → ℕ → Seated K → Type 0
looked {K} fits call m found n = (t : Terms K) → m.0.of ≡ Some t → IsLooked fits t call m found n

-- the call that a look is noted as is a look
abbrev pub IsLook : (Tag → Call) → Type 0
IsLook call = (t : Tag) → (call t ≡ own_load t) ⊎ (call t ≡ look_step t)
