-- A turn as a plan: what it asks of its port, and how it goes on with each answer.
use Rattle.std.specs.Prelude.{◌≡◌, ℕ, suc, Option, Some, None, List, [], ◌∷◌}
use Rattle.sci_words.specs.declared.tags.Tag.{Tag}
use Rattle.sci_words.specs.declared.memory.Mem.{Mem}
use Rattle.sci_core.specs.declared.lines.Line.{Line}
use Rattle.sci_core.specs.declared.events.Event.{Event}
use Rattle.sci_core.specs.declared.outcomes.Outcome.{Outcome}
use Rattle.sci_port.specs.declared.calls.Call.{Call}
use Rattle.sci_port.specs.declared.calls.Call.TheVariants.{Own, MemWas, TagWas, Stepped}
use Rattle.sci_port.specs.Call.{Chain}
use Rattle.sci_ops.specs.declared.answers.Answer.{Answer}
use Rattle.sci_ops.specs.declared.answers.Turn.{Turn}
use Rattle.sci_ops.specs.declared.answers.End.{End}

-- a load, and how the turn goes on with the word; an exchange, and what it ends the turn with; or nothing more
pub data Plan : Type 0 where
  own : (Tag → Plan) → Plan
  mem : (Mem → Plan) → Plan
  tag : (node : ℕ) → (Tag → Plan) → Plan
  exchange : (event : Event) → (end : End) → Plan
  ends : (turn : Turn) → Plan

-- the turn that an exchange ends, once it is done and has answered this line
abbrev pub ended : End → Option Line → Turn
ended End.Seen (Some line) = Turn.Done (Answer.Seen line.words line.stamp)
ended (End.Wrote before stamp) line = Turn.Done (Answer.Wrote before stamp)
ended End.Out line = Turn.Done Answer.Out
ended End.Spent line = Turn.Done Answer.Spent
ended _ line = Turn.Moved

-- an exchange that missed, or found the port busy, leaves the turn waiting
abbrev pub turn_after : End → Outcome → Turn
turn_after end (Outcome.Done line) = ended end line
turn_after end _ = Turn.Waiting

-- these are the plan's calls with their answers, and this is the turn that comes of them
abbrev pub Follows : Plan → List Call → Turn → Type 0
Follows (own next) (Own (Some t) ∷ calls) turn = Follows (next t) calls turn
Follows (own next) (Own None ∷ []) turn = turn ≡ Turn.Waiting
Follows (mem next) (MemWas (Some m) ∷ calls) turn = Follows (next m) calls turn
Follows (mem next) (MemWas None ∷ []) turn = turn ≡ Turn.Waiting
Follows (tag node next) (TagWas x (Some t) ∷ calls) turn = (x ≡ node) × Follows (next t) calls turn
Follows (tag node next) (TagWas x None ∷ []) turn = (x ≡ node) × (turn ≡ Turn.Waiting)
Follows (exchange event end) (Stepped e outcome ∷ []) turn = (e ≡ event) × (turn ≡ turn_after end outcome)
Follows (ends last) [] turn = turn ≡ last
Follows _ _ turn = ⊥

-- by a port's own relation, the plan is followed from the port as it stood to the port as it stands
pub record Takes {S : Type 0} (gives : S → Call → S → Type 0) (plan : Plan) (s : S) (turn : Turn) (t : S) : Type 0 where
  pub calls : List Call
  pub chain : Chain gives s calls t
  pub follows : Follows plan calls turn

-- the plan makes at most n loads, and at most one exchange behind them
pub data LoadsAtMost : ℕ → Plan → Type 0 where
  by_own : {n : ℕ} {next : Tag → Plan} → ((t : Tag) → LoadsAtMost n (next t)) → LoadsAtMost (suc n) (own next)
  by_mem : {n : ℕ} {next : Mem → Plan} → ((m : Mem) → LoadsAtMost n (next m)) → LoadsAtMost (suc n) (mem next)
  by_tag : {n : ℕ} {node : ℕ} {next : Tag → Plan} → ((t : Tag) → LoadsAtMost n (next t)) → LoadsAtMost (suc n) (tag node next)
  by_exchange : {n : ℕ} {event : Event} {end : End} → LoadsAtMost n (exchange event end)
  by_end : {n : ℕ} {turn : Turn} → LoadsAtMost n (ends turn)
