-- A script's memory stays lawful, and its calls stay on its lines.
use Rattle.std.proofs.Common.{◌≡◌, ◌<◌, ℕ, Bool, true, false, if◌then◌else◌, List, Option, Some, None, refl, sym, subst, ◌∙◌, ⊎_elim}
use Rattle.std.proofs.lemmas.Bool.{cases_eq}
use Rattle.sci_core.specs.State.{State, update}
use Rattle.sci_core.specs.Whole.{IsRuled}
use Rattle.sci_ops.specs.declared.answers.Turn.{Turn}
use Rattle.sci_ops.specs.declared.goals.Goal.{Goal}
use Rattle.sci_ops.specs.Alone.{TakesTurn}
use Rattle.sci_ops.specs.Operation.{Operation}
use Rattle.sci_ops.specs.Table.{begun}
use Rattle.sci_ops.proofs.Ending.Counting.{updated, not_updated}
use Rattle.sci_cache.specs.declared.calls.OpenCall.{OpenCall}
use Rattle.sci_cache.specs.declared.requests.Request.{Request}
use Rattle.sci_cache.specs.Nodes.{NodeState, IsLine, IsSoundCall, IsSoundNode, call_after, line_by, node_after, node_with, op_by, residents_after, taken_by}
use Rattle.sci_cache.specs.Requests.{line_of, is_evict}
use Rattle.sci_cache.specs.Residents.{AreBelow, displaced_by, used}
use Rattle.sci_cache.proofs.Ordered.{below_displaced, below_used, below_without}
use Rattle.sci_script.specs.declared.commands.Size.{Size}
use Rattle.sci_script.specs.declared.commands.Opening.{Opening}
use Rattle.sci_script.specs.declared.desk.Toward.{Toward}
use Rattle.sci_script.specs.Event.{Event, Began, Turned, Rested}
use Rattle.sci_script.specs.Openings.{content_of, zeros}
use Rattle.sci_script.specs.Resting.{any, TakesLentOf}
use Rattle.sci_script.specs.ScriptText.{Opens}
use Rattle.sci_script.specs.Shared.{Shared, HasNode, TakesTurnOf, GoesToRest, shared_does}
use Rattle.sci_script.specs.Turns.{TurnsOn}
use Rattle.sci_script.proofs.Ruled.{opened_ruled, turn_given}

-- ---- a node's call and residents stay on its lines

below_if : (lines : ℕ) (b : Bool) (xs ys : List ℕ) → AreBelow lines xs → AreBelow lines ys → AreBelow lines (if b then xs else ys)
below_if lines true xs ys f g = f
below_if lines false xs ys f g = g

line_if : (lines : ℕ) (b : Bool) (x : Option ℕ) → IsLine lines x → IsLine lines (if b then None else x)
line_if lines true x h = tt
line_if lines false x h = h

pub sound_with : (k : NodeState) (r : Request) → line_of r < k.lines → IsSoundNode k → IsSoundNode (node_with k r)
sound_with k r inside h = record {
  residents = below_if k.lines (is_evict r) k.residents (used k.capacity (line_of r) k.residents) h.residents (below_used k.lines (line_of r) k.capacity k.residents inside h.residents);
  call = (inside, line_if k.lines (is_evict r) (displaced_by k.capacity (line_of r) k.residents) (below_displaced k.lines (line_of r) k.capacity k.residents h.residents));
}

taken_below : (lines : ℕ) (goal : Goal) (line : ℕ) (xs : List ℕ) → AreBelow lines xs → AreBelow lines (taken_by goal line xs)
taken_below lines Goal.Evict line xs h = below_without lines line xs h
taken_below lines _ line xs h = h

sound_residents : (lines : ℕ) (c : OpenCall) (victim : Option ℕ) (turn : Turn) (xs : List ℕ) → AreBelow lines xs → AreBelow lines (residents_after c victim turn xs)
sound_residents lines c None (Turn.Done answer) xs h = taken_below lines c.goal c.line xs h
sound_residents lines c None _ xs h = h
sound_residents lines c (Some victim) turn xs h = h

sound_call : (lines : ℕ) (c : OpenCall) (victim : Option ℕ) (turn : Turn) → IsSoundCall lines (Some c) → IsSoundCall lines (call_after c victim turn)
sound_call lines c None (Turn.Done answer) h = tt
sound_call lines c (Some victim) (Turn.Done answer) h = (h.0, tt)
sound_call lines c None _ h = h
sound_call lines c (Some victim) _ h = h

pub sound_after : (k : NodeState) (c : OpenCall) (turn : Turn) → k.call ≡ Some c → IsSoundNode k → IsSoundNode (node_after k c turn)
sound_after k c turn is h = record {
  residents = sound_residents k.lines c c.victim turn k.residents h.residents;
  call = sound_call k.lines c c.victim turn (subst (λ (x : Option OpenCall). IsSoundCall k.lines x) is h.call);
}

pub line_below : (lines line : ℕ) (victim : Option ℕ) → line < lines → IsLine lines victim → line_by victim line < lines
line_below lines line None inside h = inside
line_below lines line (Some victim) inside h = h

-- ---- the memory

-- the lines are lawful, and each node's call and residents are on them
pub record IsSound (size : Size) (s : Shared) : Type 0 where
  pub width : s.width ≡ size.nodes
  pub lines : (line : ℕ) → line < size.lines → IsRuled size.nodes any (s.lines line)
  pub nodes : (node : ℕ) → node < size.nodes → IsSoundNode (s.nodes node) × ((s.nodes node).lines ≡ size.lines)

-- the event is of nodes and lines that there are
abbrev pub IsEventIn : Size → Event → Type 0
IsEventIn size (Began node request) = (node < size.nodes) × (line_of request < size.lines)
IsEventIn size (Turned node turn) = node < size.nodes
IsEventIn size (Rested line toward) = line < size.lines
IsEventIn size _ = Unit {0}

pub opens_sound : (size : Size) (capacity : ℕ) (openings : List Opening) (s : Shared) → Opens size capacity openings s → IsSound size s
opens_sound size capacity openings s o = record {
  width = o.width;
  lines = λ line lt. subst (λ (x : State). IsRuled size.nodes any x) (sym (o.lines line lt)) (opened_ruled size.nodes (content_of line zeros openings));
  nodes = λ node lt. subst (λ (k : NodeState). IsSoundNode k × (k.lines ≡ size.lines)) (sym (o.nodes node lt)) (record { residents = tt; call = tt }, refl);
}

-- a node's call is on lines that there are
pub call_in : (size : Size) (s : Shared) (node : ℕ) (call : Option OpenCall) → (s.nodes node).call ≡ call → node < size.nodes → IsSound size s → IsSoundCall size.lines call
call_in size s node call is below h =
    let k = h.nodes node below in
    subst (λ (x : Option OpenCall). IsSoundCall size.lines x) is (subst (λ (lines : ℕ). IsSoundCall lines (s.nodes node).call) k.1 k.0.call)

-- the other nodes are as they were
nodes_keep : (size : Size) (s t : Shared) (node : ℕ) (now : NodeState) → HasNode s node now t → IsSoundNode now × (now.lines ≡ size.lines) → ((i : ℕ) → i < size.nodes → IsSoundNode (s.nodes i) × ((s.nodes i).lines ≡ size.lines))
    → (i : ℕ) → i < size.nodes → IsSoundNode (t.nodes i) × ((t.nodes i).lines ≡ size.lines)
nodes_keep size s t node now has here all i lt =
    ⊎_elim
    (λ q. subst (λ (k : NodeState). IsSoundNode k × (k.lines ≡ size.lines)) (sym (has i ∙ subst (λ (j : ℕ). update s.nodes node now j ≡ now) (sym q) (updated s.nodes node now))) here)
    (λ d. subst (λ (k : NodeState). IsSoundNode k × (k.lines ≡ size.lines)) (sym (has i ∙ not_updated s.nodes node now i d)) (all i lt))
    (cases_eq i node)

lines_keep : (size : Size) (s t : Shared) (work : ℕ) → ((line : ℕ) → (line ≡ work → ⊥) → t.lines line ≡ s.lines line) → IsRuled size.nodes any (t.lines work) → ((line : ℕ) → line < size.lines → IsRuled size.nodes any (s.lines line))
    → (line : ℕ) → line < size.lines → IsRuled size.nodes any (t.lines line)
lines_keep size s t work same here all line lt =
    ⊎_elim
    (λ q. subst (λ (l : ℕ). IsRuled size.nodes any (t.lines l)) (sym q) here)
    (λ d. subst (λ (x : State). IsRuled size.nodes any x) (sym (same line d)) (all line lt))
    (cases_eq line work)

-- a turn of the node's call, on its line at work
turn_keeps : (size : Size) (s t : Shared) (node : ℕ) (call : Option OpenCall) (shown : Turn) → (s.nodes node).call ≡ call → node < size.nodes → TakesTurnOf s node call shown t → IsSound size s → IsSound size t × TakesLentOf s node call shown t
turn_keeps size s t node None shown is below k h = absurd k
turn_keeps size s t node (Some c) shown is below k h =
    let sound : IsSoundCall size.lines (Some c) = call_in size s node (Some c) is below h in
    let work : ℕ = line_by c.victim c.line in
    let op : Operation = op_by c.victim c.goal in
    let inside : work < size.lines = line_below size.lines c.line c.victim sound.0 sound.1 in
    let made : TurnsOn size.nodes node op (s.lines work) k.turn (t.lines work) = subst (λ (n : ℕ). TurnsOn n node op (s.lines work) k.turn (t.lines work)) h.width k.made in
    let given = turn_given size.nodes node below op (s.lines work) k.turn (t.lines work) (h.lines work inside) made in
    let one = h.nodes node below in (
      record {
        width = k.width ∙ h.width;
        lines = lines_keep size s t work k.others given.0 h.lines;
        nodes = nodes_keep size s t node (node_after (s.nodes node) c k.turn) k.after (sound_after (s.nodes node) c k.turn is one.0, one.1) h.nodes;
      },
      record {
        turn = k.turn;
        width = k.width;
        made = k.made;
        lent = subst (λ (n : ℕ). TakesTurn n any node op (s.lines work) k.turn (t.lines work)) (sym h.width) given.1;
        others = k.others;
        shows = k.shows;
        after = k.after;
      },
    )

-- and it is one on a line that is lent to the node
pub turn_lent : (size : Size) (s t : Shared) (node : ℕ) (shown : Turn) → node < size.nodes → IsSound size s → shared_does s (Turned node shown) t → TakesLentOf s node (s.nodes node).call shown t
turn_lent size s t node shown below h k = (turn_keeps size s t node (s.nodes node).call shown refl below k h).1

rest_keeps : (size : Size) (s t : Shared) (line : ℕ) (toward : Toward) → line < size.lines → GoesToRest s line toward t → IsSound size s → IsSound size t
rest_keeps size s t line (Toward.Turned node) inside k h =
    let below : node < size.nodes = subst (λ (n : ℕ). node < n) h.width k.inside in
    let made : TurnsOn size.nodes node (begun Goal.Load) (s.lines line) k.turn (t.lines line) = subst (λ (n : ℕ). TurnsOn n node (begun Goal.Load) (s.lines line) k.turn (t.lines line)) h.width k.made in
    record {
      width = k.width ∙ h.width;
      lines = lines_keep size s t line k.others (turn_given size.nodes node below (begun Goal.Load) (s.lines line) k.turn (t.lines line) (h.lines line inside) made).0 h.lines;
      nodes = λ i lt. subst (λ (x : NodeState). IsSoundNode x × (x.lines ≡ size.lines)) (sym (k.nodes i)) (h.nodes i lt);
    }
rest_keeps size s t line Toward.Reached inside k h = subst (λ (x : Shared). IsSound size x) (sym k.1) h
rest_keeps size s t line Toward.Unknown inside k h = absurd k

began_keeps : (size : Size) (s t : Shared) (node : ℕ) (request : Request) → node < size.nodes → line_of request < size.lines → shared_does s (Began node request) t → IsSound size s → IsSound size t
began_keeps size s t node request below inside k h =
    let one = h.nodes node below in
    record {
      width = k.0 ∙ h.width;
      lines = λ line lt. subst (λ (x : State). IsRuled size.nodes any x) (sym (k.1 line)) (h.lines line lt);
      nodes = nodes_keep size s t node (node_with (s.nodes node) request) k.2 (sound_with (s.nodes node) request (subst (λ (m : ℕ). line_of request < m) (sym one.1) inside) one.0, one.1) h.nodes;
    }

-- whatever is done
pub does_keeps : (size : Size) (s : Shared) (e : Event) (t : Shared) → IsEventIn size e → shared_does s e t → IsSound size s → IsSound size t
does_keeps size s (Began node request) t within k h = began_keeps size s t node request within.0 within.1 k h
does_keeps size s (Turned node turn) t within k h = (turn_keeps size s t node (s.nodes node).call turn refl within k h).0
does_keeps size s (Rested line toward) t within k h = rest_keeps size s t line toward within k h
does_keeps size s event t within k h = subst (λ (x : Shared). IsSound size x) (sym k.1) h
