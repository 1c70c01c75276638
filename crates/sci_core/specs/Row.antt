-- A row of the table of exchanges. This project's profile.
use Rattle.std.specs.Prelude.{ℕ, Bool, false, cond, Option, Some, None}
use Rattle.sci_words.specs.declared.tags.Kind.{Kind}
use Rattle.sci_words.specs.declared.tags.Tag.{Tag}
use Rattle.sci_words.specs.declared.memory.Mem.{Mem}
use Rattle.sci_words.specs.declared.memory.MemState.{MemState}
use Rattle.sci_core.specs.declared.lines.Line.{Line}
use Rattle.sci_core.specs.declared.pending.Pending.{Pending}
use Rattle.sci_core.specs.declared.rows.Change.{Change}
use Rattle.sci_core.specs.declared.rows.Place.{Place}
use Rattle.sci_core.specs.declared.rows.Carry.{Carry}
use Rattle.sci_core.specs.declared.rows.Exchange.{Exchange}
use Rattle.sci_core.specs.State.{word, memory_word}

-- the word that is changed, what becomes of a slot, and, of the line that was taken, the actor's step after and the answer
pub record Row : Type 0 where
  pub change : Change
  pub carry : Carry
  pub after : Line → Pending
  pub answer : Line → Option Line

-- the row, once the line is taken
abbrev pub exchange_with : Line → Row → Exchange
exchange_with y r = record { change = r.change; carry = r.carry; after = r.after y; answer = r.answer y }

-- no slot is moved
abbrev pub stays : Change → Pending → Row
stays c p = record { change = c; carry = Carry.Stays; after = λ _. p; answer = λ _. None }

-- a slot is taken, and its line is kept or not
abbrev pub takes : Change → Place → (Line → Pending) → Row
takes c x p = record { change = c; carry = Carry.Takes x; after = p; answer = λ _. None }

-- a slot is taken, and its line is kept and answered
abbrev pub takes_and_answers : Change → Place → (Line → Pending) → Row
takes_and_answers c x p = record { change = c; carry = Carry.Takes x; after = p; answer = λ y. Some y }

-- a line is given back
abbrev pub gives : Change → Place → Line → Pending → Row
gives c x l p = record { change = c; carry = Carry.Gives x l; after = λ _. p; answer = λ _. None }

-- a line is given back and answered
abbrev pub gives_and_answers : Change → Place → Line → Pending → Row
gives_and_answers c x l p = record { change = c; carry = Carry.Gives x l; after = λ _. p; answer = λ _. Some l }

abbrev pub queued_word : Option ℕ → Tag
queued_word f = word Kind.Queued f None

abbrev pub purging_word : Option ℕ → Tag
purging_word f = word Kind.Purging f None

abbrev pub leaving_word : Option ℕ → Tag
leaving_word f = word Kind.Leaving f None

-- the old head's word, with the actor in front of it
abbrev pub attached : ℕ → Tag → Tag
attached me t = word Kind.Valid t.forw (Some me)

-- the victim's word
abbrev pub purged_word : Tag → Tag
purged_word t = word Kind.Purged t.forw t.back

-- a settled front
abbrev pub settled_word : Bool → Option ℕ → Tag
settled_word dirty f = word (cond dirty Kind.Dirty Kind.Fresh) f None

-- memory's word with a list: GONE if the list is dirty
abbrev pub listed : Bool → ℕ → Mem
listed dirty head = memory_word (cond dirty MemState.Gone MemState.Fresh) (Some head)

-- memory's word without a list
abbrev pub home : Mem
home = memory_word MemState.Home None

-- memory's word where its data is valid
abbrev pub home_or_listed : Option ℕ → Mem
home_or_listed (Some head) = listed false head
home_or_listed None = home

-- what stands for the row of an event that is not allowed
abbrev pub no_row : Row
no_row = stays (Change.OfMemory home home) Pending.Idle
