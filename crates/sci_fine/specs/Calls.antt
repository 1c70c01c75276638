-- What a call of a seat's port is on the table: one step. This project's profile.
use Rattle.std.specs.Prelude.{◌≡◌, ℕ, suc, Some, List}
use Rattle.sci_words.specs.Codes.{tag_code, mem_code}
use Rattle.sci_core.specs.declared.pending.Pending.{Pending}
use Rattle.sci_core.specs.declared.events.Event.{Event}
use Rattle.sci_core.specs.declared.outcomes.Outcome.{Outcome}
use Rattle.sci_core.specs.State.{State}
use Rattle.sci_core.specs.Run.{IsLawfulLine}
use Rattle.sci_core.specs.Table.{row_of}
use Rattle.sci_port.specs.declared.calls.Call.{Call}
use Rattle.sci_port.specs.declared.calls.Call.TheVariants.{Own, MemWas, TagWas, Stepped}
use Rattle.sci_port.specs.Solo.{Gives}
use Rattle.sci_fine.specs.declared.views.Terms.{Terms}
use Rattle.sci_fine.specs.declared.views.View.{View}
use Rattle.sci_fine.specs.Rule.{word_at}
use Rattle.sci_fine.specs.Steps.{place_of}
use Rattle.sci_fine.specs.Views.{saw}

-- the number of the one word that a call of the node in this step reads or exchanges
abbrev pub place_of_call : ℕ → Pending → Call → ℕ
place_of_call me p (Own answer) = suc me
place_of_call me p (MemWas answer) = 0
place_of_call me p (TagWas node answer) = suc node
place_of_call me p (Stepped Event.Look outcome) = suc me
place_of_call me p (Stepped e outcome) = place_of (row_of me p e).change

-- what a call that is answered tells of the word that it found
abbrev pub Tells : Call → ℕ → Type 0
Tells (Own (Some t)) w = w ≡ tag_code t
Tells (MemWas (Some m)) w = w ≡ mem_code m
Tells (TagWas node (Some t)) w = w ≡ tag_code t
Tells (Stepped e (Outcome.Missed code)) w = w ≡ code
Tells call w = Unit {0}

-- one step of the table by a seat: from one lawful and coherent state, in which its step is its node's, to another, it gives what
-- the same call gives on a line in that state that is lent to it alone. Its view counts one more step, and keeps the call with its
-- place in the run of all nodes, and the word that it found, and where
pub record IsStep {K : Type 0} (fits : K → ℕ → List ℕ → Type 0) (t : Terms K) (v : View K) (call : Call) (u : View K) : Type 0 where
  pub before : State
  pub after : State
  pub lawful : IsLawfulLine t.nodes (fits t.keep t.number) before
  pub still : IsLawfulLine t.nodes (fits t.keep t.number) after
  pub step : before.steps v.node ≡ v.pending
  pub gives : Gives t.nodes (fits t.keep t.number) before v.node call after
  pub turn : ℕ
  pub view : u ≡ saw v turn call (after.steps v.node) (place_of_call v.node v.pending call) (word_at before (place_of_call v.node v.pending call))
  pub tells : Tells call u.word
