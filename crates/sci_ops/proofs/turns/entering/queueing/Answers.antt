use Rattle.std.proofs.Common.{◌≡◌, ◌∙◌, ℕ, Option, List, true, is_none, refl, ap, subst, sym}
use Rattle.sci_core.specs.declared.events.Event.{Event}
use Rattle.sci_core.specs.declared.pending.Pending.{Pending}
use Rattle.sci_core.specs.Answers.{is_allowed, FitsEvent}
use Rattle.sci_port.specs.declared.calls.Call.{Call}
use Rattle.sci_port.specs.Way.{Way}
use Rattle.sci_ops.specs.declared.goals.Goal.{Goal}
use Rattle.sci_ops.specs.declared.answers.Turn.{Turn}
use Rattle.sci_ops.specs.Plan.{Takes}
use Rattle.sci_ops.specs.Table.{home_event, move, prepend}
use Rattle.sci_ops.proofs.Staged.{allowed_in}
use Rattle.sci_ops.proofs.Carried.{first, second, negated, link_at, headless, head_named}
use Rattle.sci_ops.proofs.Took.{took_mem, no_mem, took_none, if_so, if_not}
use Rattle.sci_ops.proofs.turns.entering.queueing.Goals as goal

home_allowed : (way : Way) (goal : Goal) (f : Option ℕ) → is_none f ≡ true → is_allowed way.nodes way.node (Pending.Queueing f) (home_event goal) ≡ true
home_allowed way (Goal.Write write) f h = h
home_allowed way Goal.Load f h = refl
home_allowed way Goal.Evict f h = refl

home_fits : (fits : List ℕ → Type 0) (goal : Goal) → FitsEvent fits (home_event goal)
home_fits fits (Goal.Write write) = tt
home_fits fits Goal.Load = tt
home_fits fits Goal.Evict = tt

enters_home : (way : Way) (goal : Goal) (f : Option ℕ) (event : Event) → event ≡ home_event goal → is_none f ≡ true → is_allowed way.nodes way.node (Pending.Queueing f) event ≡ true
enters_home way goal f event e h = subst (λ (x : Event). is_allowed way.nodes way.node (Pending.Queueing f) x ≡ true) (sym e) (home_allowed way goal f h)

home_event_fits : (fits : List ℕ → Type 0) (goal : Goal) (event : Event) → event ≡ home_event goal → FitsEvent fits event
home_event_fits fits goal event e = subst (λ (x : Event). FitsEvent fits x) (sym e) (home_fits fits goal)

-- the exchange that the code tries is the table's
tried : {S : Type 0} {gives : S → Call → S → Type 0} {a b : S} {r : Turn} (goal : Goal) (event : Event) → event ≡ home_event goal → Takes gives (move event) a r b → Takes gives (move (home_event goal)) a r b
tried {gives = gives} {a = a} {b = b} {r = r} goal event e h = subst (λ (x : Event). Takes gives (move x) a r b) e h

pub returns-in_default : goal.returns-in_default
returns-in_default g c = λ shown. no_mem c.in_default.ensures.gives

pub go_on-requires : goal.go_on-requires
go_on-requires g c = record { allowed = allowed_in (g.P.Port.way c.mem.new.self) (Event.Requeue c.in-Some.mem.forw) _ _ (c.in-Some.ensures.same_step ∙ c.requires.step) (link_at _ _ _ c.in-Some.ensures.same_way c.in-Some.ensures.form.1); fits = tt }

pub go_on-requires-in-Home : goal.go_on-requires-in-Home
go_on-requires-in-Home g c = record {
  allowed = allowed_in (g.P.Port.way c.mem.new.self) c.home_event.result _ _ (c.in-Some.ensures.same_step ∙ c.requires.step) (enters_home (g.P.Port.way c.mem.new.self) _ _ c.home_event.result c.home_event.ensures (headless _ _ _ c.in-Home.is (second _ _ c.in-Some.ensures.form.0) (negated _ _ c.if-ne.ensures)));
  fits = home_event_fits _ _ c.home_event.result c.home_event.ensures;
}

pub go_on-requires-in-Fresh : goal.go_on-requires-in-Fresh
go_on-requires-in-Fresh g c = record { allowed = allowed_in (g.P.Port.way c.mem.new.self) Event.PrependValid _ _ (c.in-Some.ensures.same_step ∙ c.requires.step) refl; fits = tt }

pub go_on-requires-in-Gone : goal.go_on-requires-in-Gone
go_on-requires-in-Gone g c = record { allowed = allowed_in (g.P.Port.way c.mem.new.self) Event.PrependGone _ _ (c.in-Some.ensures.same_step ∙ c.requires.step) (head_named _ _ _ c.in-Gone.is (first _ _ c.in-Some.ensures.form.0) (negated _ _ c.if-ne.ensures)); fits = tt }

pub returns-then-mem : goal.returns-then-mem
returns-then-mem g c = λ shown. took_mem _ c.in-Some.ensures.gives (if_so _ _ _ c.if-mem.true) took_none

pub returns-then-ne : goal.returns-then-ne
returns-then-ne g c = λ shown. took_mem _ c.in-Some.ensures.gives (if_not _ _ _ c.if-mem.false ∙ if_not _ _ _ (negated _ _ c.if-ne.ensures)) (c.go_on.ensures shown)

pub returns-in-Home : goal.returns-in-Home
returns-in-Home g c = λ shown. took_mem _ c.in-Some.ensures.gives (if_not _ _ _ c.if-mem.false ∙ if_so _ _ _ (negated _ _ c.if-ne.ensures) ∙ ap (prepend c.args.goal) c.in-Home.is) (tried c.args.goal c.home_event.result c.home_event.ensures (c.go_on-in-Home.ensures shown))

pub returns-in-Fresh : goal.returns-in-Fresh
returns-in-Fresh g c = λ shown. took_mem _ c.in-Some.ensures.gives (if_not _ _ _ c.if-mem.false ∙ if_so _ _ _ (negated _ _ c.if-ne.ensures) ∙ ap (prepend c.args.goal) c.in-Fresh.is) (c.go_on-in-Fresh.ensures shown)

pub returns-in-Gone : goal.returns-in-Gone
returns-in-Gone g c = λ shown. took_mem _ c.in-Some.ensures.gives (if_not _ _ _ c.if-mem.false ∙ if_so _ _ _ (negated _ _ c.if-ne.ensures) ∙ ap (prepend c.args.goal) c.in-Gone.is) (c.go_on-in-Gone.ensures shown)
