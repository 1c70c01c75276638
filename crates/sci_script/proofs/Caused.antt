-- Why a command was refused is a reason of that refusal.
use Rattle.std.proofs.Common.{◌≡◌, ◌∙◌, ℕ, zero, suc, ◌<◌, ◌&&◌, nat_lt, Bool, true, false, true≢false, List, Option, Some, None, Result, Err, is_some, if◌then◌else◌, refl, sym, ap, subst, ⊎_elim, arith}
use Rattle.std.proofs.lemmas.Bool.Decides.{nat_tests}
use Rattle.sci_core.proofs.Answered.{update_same}
use Rattle.sci_ops.specs.declared.answers.Turn.{Turn}
use Rattle.sci_ops.specs.declared.answers.Turn.TheVariants as turns
use Rattle.sci_cache.specs.declared.calls.OpenCall.{OpenCall}
use Rattle.sci_cache.specs.Nodes.{NodeState, node_after, call_after, shown_by}
use Rattle.sci_script.specs.declared.commands.Command.{Command}
use Rattle.sci_script.specs.declared.commands.Command.TheVariants.{Begin, Turn as TakeTurn, Done}
use Rattle.sci_script.specs.declared.commands.Opening.{Opening}
use Rattle.sci_script.specs.declared.commands.Size.{Size}
use Rattle.sci_script.specs.declared.commands.Step.{Step}
use Rattle.sci_script.specs.declared.reasons.Reason.{Reason}
use Rattle.sci_script.specs.declared.reasons.Reason.TheVariants.{CallOpen, NoCall}
use Rattle.sci_script.specs.declared.refusals.ScriptRefusal.{ScriptRefusal}
use Rattle.sci_script.specs.declared.refusals.ScriptRefusal.TheVariants.{OutOfMemory, BadCommand, NotDone}
use Rattle.sci_script.specs.Causes.{refused_for, IsRefusedFor, HasReason}
use Rattle.sci_script.specs.Event.{IsNoEnd}
use Rattle.sci_script.specs.Reasons.{IsWhy, IsUnendedBy, IsWhySaid, IsWhyTaken, wait_reason, unbegun_reason}
use Rattle.sci_script.specs.Run.{Unended, StopsAt}
use Rattle.sci_script.specs.ScriptText.{Opens}
use Rattle.sci_script.specs.Shared.{Shared, TakesTurnOf, shared_is_open, shared_does}
use Rattle.sci_script.specs.Size.{is_request, IsIn}
use Rattle.sci_script.specs.Talks.{Standing, Declines, FailsFirst, Refuses, heard, said_step}
use Rattle.sci_script.specs.declared.said.Read.{Read}
use Rattle.sci_script.specs.Format.{Sayings}

-- a turn that doesn't end the call leaves it open
open_after : (c : OpenCall) (victim : Option ℕ) (turn : Turn) → IsNoEnd (shown_by victim turn) → is_some (call_after c victim turn) ≡ true
open_after c None turns.Moved h = refl
open_after c None turns.Waiting h = refl
open_after c None (turns.Done answer) h = absurd h
open_after c (Some victim) turns.Moved h = refl
open_after c (Some victim) turns.Waiting h = refl
open_after c (Some victim) (turns.Done answer) h = refl

open_on : (s t : Shared) (node : ℕ) (call : Option OpenCall) (o : Turn) → TakesTurnOf s node call o t → IsNoEnd o → shared_is_open t node ≡ true
open_on s t node None o h goes = absurd h
open_on s t node (Some c) o h goes =
    ap (λ (n : NodeState). is_some n.call) (h.after node ∙ update_same s.nodes node (node_after (s.nodes node) c h.turn))
    ∙ open_after c c.victim h.turn (subst (λ (x : Turn). IsNoEnd x) h.shows goes)

unended_open : (n node : ℕ) (s t : Shared) → shared_is_open s node ≡ true → Unended shared_does node n s t → shared_is_open t node ≡ true
unfolding Unended
unended_open zero node s t opened h = ap (λ (x : Shared). shared_is_open x node) h ∙ opened
unended_open (suc n) node s t opened (mid, o, before, goes, turned) = open_on mid t node (mid.nodes node).call o turned goes

-- each way in which a call doesn't end is one of refusal 18
wait_refused : (line node : ℕ) (whom : Option ℕ) → NotDone line ≡ refused_for line (wait_reason node whom)
wait_refused line node None = refl
wait_refused line node (Some whom) = refl

unended_refused : (line : ℕ) (t : Shared) (node : ℕ) (call : Option OpenCall) (why : Option Reason) → is_some call ≡ true → IsUnendedBy t node call why → IsRefusedFor (NotDone line) why
unended_refused line t node None why opened h = absurd (cc)
unended_refused line t node (Some c) why opened (whom, awaited, is) = (line, wait_reason node whom, is, wait_refused line node whom)

closed_refused : (line : ℕ) (t : Shared) (node : ℕ) (call : Option OpenCall) (why : Option Reason) → is_some call ≡ false → IsUnendedBy t node call why → IsRefusedFor (BadCommand line) why
closed_refused line t node None why closed h = (line, NoCall node, h, refl)
closed_refused line t node (Some c) why closed h = absurd (cc)

begun_refused : (line node : ℕ) (b : Bool) (why : Option Reason) → b ≡ true → why ≡ (if b then Some (CallOpen node) else None) → IsRefusedFor (BadCommand line) why
begun_refused line node true why e h = (line, CallOpen node, h, refl)
begun_refused line node false why e h = absurd (cc)

turn_refused : (line node : ℕ) (b : Bool) (why : Option Reason) → b ≡ false → why ≡ (if b then None else Some (NoCall node)) → IsRefusedFor (BadCommand line) why
turn_refused line node false why e h = (line, NoCall node, h, refl)
turn_refused line node true why e h = absurd (cc)

begun_fits : (n number node : ℕ) (s t : Shared) (why : Option Reason) → (n ≡ number) × (shared_is_open s node ≡ true) × (t ≡ s) → why ≡ (if shared_is_open t node then Some (CallOpen node) else None) → IsRefusedFor (BadCommand n) why
begun_fits n number node s t why (at, was, same) is = begun_refused n node (shared_is_open t node) why (ap (λ (x : Shared). shared_is_open x node) same ∙ was) is

turn_fits : (n number node : ℕ) (s t : Shared) (why : Option Reason) → (n ≡ number) × (shared_is_open s node ≡ false) × (t ≡ s) → why ≡ (if shared_is_open t node then None else Some (NoCall node)) → IsRefusedFor (BadCommand n) why
turn_fits n number node s t why (at, was, same) is = turn_refused n node (shared_is_open t node) why (ap (λ (x : Shared). shared_is_open x node) same ∙ was) is

done_fits : (n number node : ℕ) (s t : Shared) (why : Option Reason) → (n ≡ number) × (shared_is_open s node ≡ false) × (t ≡ s) → IsUnendedBy t node (t.nodes node).call why → IsRefusedFor (BadCommand n) why
done_fits n number node s t why (at, was, same) is = closed_refused n t node (t.nodes node).call why (ap (λ (x : Shared). shared_is_open x node) same ∙ was) is

unended_fits : (n number node : ℕ) (s t : Shared) (why : Option Reason) → (n ≡ number) × ((shared_is_open s node ≡ true) × Unended shared_does node 100000 s t) → IsUnendedBy t node (t.nodes node).call why → IsRefusedFor (NotDone n) why
unended_fits n number node s t why (at, (was, turns)) is = unended_refused n t node (t.nodes node).call why (unended_open 100000 node s t was turns) is

fits_by : (command : Command) (number nodes : ℕ) (s t : Shared) (e : ScriptRefusal) (why : Option Reason) → StopsAt shared_is_open shared_does nodes s (record { number = number; command = command }) e t
    → (e ≡ OutOfMemory → ⊥) → IsWhy t command why → HasReason command e why
fits_by (Begin node line request) number nodes s t OutOfMemory why h some is = absurd (some refl)
fits_by (Begin node line request) number nodes s t (BadCommand n) why h some is = begun_fits n number node s t why h is
fits_by (Begin node line request) number nodes s t (NotDone n) why h some is = absurd h.1
fits_by (Begin node line request) number nodes s t e why h some is = absurd h
fits_by (TakeTurn node) number nodes s t OutOfMemory why h some is = absurd (some refl)
fits_by (TakeTurn node) number nodes s t (BadCommand n) why h some is = turn_fits n number node s t why h is
fits_by (TakeTurn node) number nodes s t (NotDone n) why h some is = absurd h.1
fits_by (TakeTurn node) number nodes s t e why h some is = absurd h
fits_by (Done node) number nodes s t OutOfMemory why h some is = absurd (some refl)
fits_by (Done node) number nodes s t (BadCommand n) why h some is = done_fits n number node s t why h is
fits_by (Done node) number nodes s t (NotDone n) why h some is = unended_fits n number node s t why h is
fits_by (Done node) number nodes s t e why h some is = absurd h
fits_by command number nodes s t e why h some is = is

pub reason_fits : (s t : Shared) (step : Step) (nodes : ℕ) (e : ScriptRefusal) (why : Option Reason) → StopsAt shared_is_open shared_does nodes s step e t → (e ≡ OutOfMemory → ⊥) → IsWhy t step.command why → HasReason step.command e why
reason_fits s t step nodes e why h some is = fits_by step.command step.number nodes s t e why h some is

below : (a b : ℕ) → nat_lt a b ≡ true → a < b
below a b h = grind (arith, nat_tests, h)

first_of : (b c : Bool) → (b && c) ≡ true → b ≡ true
first_of true c h = refl
first_of false c h = h

-- over a desk just opened no call is open
closed_first : (size : Size) (capacity : ℕ) (openings : List Opening) (s : Shared) (node : ℕ) → Opens size capacity openings s → node < size.nodes → shared_is_open s node ≡ false
closed_first size capacity openings s node o inside = ap (λ (n : NodeState). is_some n.call) (o.nodes node inside)

never : (size : Size) (capacity : ℕ) (openings : List Opening) (s : Shared) (node : ℕ) → Opens size capacity openings s → node < size.nodes → shared_is_open s node ≡ true → ⊥
never size capacity openings s node o inside was = let closed = closed_first size capacity openings s node o inside in true≢false (sym was ∙ closed)

begun_first : (size : Size) (capacity : ℕ) (openings : List Opening) (s end : Shared) (node n : ℕ) → Opens size capacity openings s → node < size.nodes → (n ≡ 1) × (shared_is_open s node ≡ true) × (end ≡ s) → ⊥
begun_first size capacity openings s end node n o inside (at, was, same) = never size capacity openings s node o inside was

done_first : (size : Size) (capacity : ℕ) (openings : List Opening) (s end : Shared) (node n : ℕ) → Opens size capacity openings s → node < size.nodes
    → (n ≡ 1) × ((shared_is_open s node ≡ true) × Unended shared_does node 100000 s end) → ⊥
done_first size capacity openings s end node n o inside (at, (was, turns)) = never size capacity openings s node o inside was

first_by : (size : Size) (capacity : ℕ) (openings : List Opening) (command : Command) (e : ScriptRefusal) (s end : Shared) → IsIn size command → Opens size capacity openings s
    → StopsAt shared_is_open shared_does size.nodes s (said_step command) e end → (e ≡ OutOfMemory → ⊥) → HasReason command e (unbegun_reason command)
first_by size capacity openings (Begin node line request) OutOfMemory s end inside o h some = absurd (some refl)
first_by size capacity openings (Begin node line request) (BadCommand n) s end inside o h some = absurd (begun_first size capacity openings s end node n o (below node size.nodes (first_of (nat_lt node size.nodes) (nat_lt line size.lines && is_request request) inside)) h)
first_by size capacity openings (Begin node line request) (NotDone n) s end inside o h some = absurd h.1
first_by size capacity openings (Begin node line request) e s end inside o h some = absurd h
first_by size capacity openings (TakeTurn node) OutOfMemory s end inside o h some = absurd (some refl)
first_by size capacity openings (TakeTurn node) (BadCommand n) s end inside o h some = (n, NoCall node, refl, refl)
first_by size capacity openings (TakeTurn node) (NotDone n) s end inside o h some = absurd h.1
first_by size capacity openings (TakeTurn node) e s end inside o h some = absurd h
first_by size capacity openings (Done node) OutOfMemory s end inside o h some = absurd (some refl)
first_by size capacity openings (Done node) (BadCommand n) s end inside o h some = (n, NoCall node, refl, refl)
first_by size capacity openings (Done node) (NotDone n) s end inside o h some = absurd (done_first size capacity openings s end node n o (below node size.nodes inside) h)
first_by size capacity openings (Done node) e s end inside o h some = absurd h
first_by size capacity openings command e s end inside o h some = refl

pub first_fits : (said : Sayings) (command : Command) (e : ScriptRefusal) → IsIn said.place.size command → FailsFirst said command e → (e ≡ OutOfMemory → ⊥) → HasReason command e (unbegun_reason command)
first_fits said command e inside (s, end, o, h) some = first_by said.place.size said.capacity said.openings command e s end inside o h some

-- and of a line that isn't taken
pub line_fits : (s t : Standing) (line : List ℕ) (reason : Reason) (e : ScriptRefusal) (why : Option Reason) → heard s line ≡ Err reason → Refuses s line e t → (e ≡ OutOfMemory → ⊥) → IsWhySaid t line why
    → IsRefusedFor e why
line_fits s t line reason e why is (kept, h) some told =
    let (refused, same) = subst (λ (r : Result Read Reason). Declines s r e t) is h in
    let here = subst (λ (x : Standing). IsWhySaid x line why) same told in
    let given : why ≡ Some reason = subst (λ (r : Result Read Reason). IsWhyTaken s r why) is here in
    (1, reason, given, ⊎_elim (λ out. absurd (some out)) (λ is_for. is_for) refused)
