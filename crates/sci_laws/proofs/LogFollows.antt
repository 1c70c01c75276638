-- The log of a run is followed to its end.
use Rattle.std.proofs.Common.{◌≡◌, ◌∙◌, ℕ, ◌+◌, ◌<◌, ◌≤◌, ◌^◌, ◌%◌, ◌&&◌, Bool, true, false, List, [], ◌∷◌, ◌++◌, length, flat_map, All, None, refl, sym, ap, subst, arith, length-set, set, eqb, ltb-true}
use Rattle.std.specs.Prelude.{if◌then◌else◌, slice_index}
use Rattle.std.specs.List.{list_all}
use Rattle.std.proofs.lemmas.Bool.{and_parts}
use Rattle.std.proofs.lemmas.List.Elements.{All-cons, All-nil, All-replicate, All-set}
use Rattle.sci_core.specs.declared.lines.Line.{Line}
use Rattle.sci_core.specs.State.{State, opened}
use Rattle.sci_core.specs.Whole.{IsRuled}
use Rattle.sci_core.proofs.States.{opened_is_ruled}
use Rattle.sci_dump.specs.ReadBack.{IsContent}
use Rattle.sci_cache.specs.Nodes.{NodeState}
use Rattle.sci_script.specs.declared.commands.Command.{Command}
use Rattle.sci_script.specs.declared.commands.Command.TheVariants.{Begin}
use Rattle.sci_script.specs.declared.commands.Opening.{Opening}
use Rattle.sci_script.specs.declared.commands.Request.TheVariants.{Load, Store, Add, Evict}
use Rattle.sci_script.specs.declared.commands.Size.{Size}
use Rattle.sci_script.specs.declared.commands.Step.{Step}
use Rattle.sci_script.specs.declared.refusals.ScriptRefusal.{ScriptRefusal}
use Rattle.sci_script.specs.declared.refusals.ScriptRefusal.TheVariants.{OutOfMemory, BadCommand, BadNumber, NotDone, WriteFailed}
use Rattle.sci_script.specs.Openings.{content_of, zeros}
use Rattle.sci_script.specs.Request.{no_words}
use Rattle.sci_script.specs.ScriptText.{Opens}
use Rattle.sci_script.specs.Shared.{Shared}
use Rattle.sci_script.specs.Size.{AreIn, IsIn, IsSize, is_in}
use Rattle.sci_logs.specs.declared.logs.Log.{Log}
use Rattle.sci_logs.specs.TurnText.{log_head, opening_line}
use Rattle.sci_logs.specs.Logging.{LogLeaves, LogStops, logs}
use Rattle.sci_trace.specs.Telling.{Telling, telling, telling_is_open}
use Rattle.sci_script.proofs.Fitting.{AreOpenable, AreSmall, IsSmall, StoreSmall, StoresSmall, script_read}
use Rattle.sci_laws.specs.FollowedTurns.{IsOfLine, IsSurelyFollowed, fit}
use Rattle.sci_serve.specs.declared.scripts.Form.{Form}
use Rattle.sci_serve.specs.Serve.{Serves, StopsRunning}
use Rattle.sci_laws.proofs.Along.{AllAsk, Asks, leaves, prints_all}
use Rattle.sci_laws.proofs.Fed.{AreOpenings, Holds, IsFed, NoFault, Unused, follows_so, head_fed, head_fine, stops_only, told_fed, told_fine}
use Rattle.sci_laws.proofs.Going.{At, Goes, Leads, Sound, SoundNode, asks, call_goes, goes_none, goes_on}
use Rattle.sci_laws.proofs.NotedBack.{opening_back, size_back}

-- ---- what the reader says of commands

store_fits : (words : List ℕ) (word value : ℕ) → value < 2 ^ 64 → fit words → fit (set words word value)
store_fits words word value small (eight, all) = (length-set words word value ∙ eight, All-set (λ (x : ℕ). x < 2 ^ 64) words word value small all)

asks_of : (size : Size) (command : Command) → IsIn size command → StoresSmall command → Asks (asks size) command
asks_of size (Begin node line (Load word)) is small =
    let (n, more) = and_parts _ _ is in let (l, w) = and_parts _ _ more in (ltb-true node size.nodes n, ltb-true line size.lines l, tt)
asks_of size (Begin node line (Store word value)) is small =
    let (n, more) = and_parts _ _ is in
    let (l, w) = and_parts _ _ more in (ltb-true node size.nodes n, ltb-true line size.lines l, (λ words eight have. store_fits words word value small have))
asks_of size (Begin node line (Add word delta)) is small =
    let (n, more) = and_parts _ _ is in
    let (l, w) = and_parts _ _ more in (
      ltb-true node size.nodes n,
      ltb-true line size.lines l,
      (λ words eight have. store_fits words word ((slice_index words word + delta) % 2 ^ 64) (omega arith) have),
    )
asks_of size (Begin node line Evict) is small =
    let (n, more) = and_parts _ _ is in let (l, w) = and_parts _ _ more in (ltb-true node size.nodes n, ltb-true line size.lines l, tt)
asks_of size command is small = tt

all_ask : (size : Size) (steps : List Step) → AreIn size steps → StoreSmall steps → AllAsk (asks size) steps
all_ask size [] is small = tt
all_ask size (step ∷ steps) is small =
    let (now, more) = and_parts (is_in size step.command) (list_all (λ (s : Step). is_in size s.command) steps) is in (asks_of size step.command now small.0, all_ask size steps more small.1)

-- ---- what lines open with

all_small : (values : List ℕ) → AreSmall values → All (λ v. v < 2 ^ 64) values
all_small [] are = All-nil (λ v. v < 2 ^ 64)
all_small (value ∷ values) are = All-cons (λ v. v < 2 ^ 64) value values are.0 (all_small values are.1)

is_content : (content : Line) → IsSmall content → IsContent content
is_content content small = record { stamp = small.0; words = all_small content.words small.2; eight = small.1 }

openings_read : (size : Size) (openings : List Opening) → size.lines ≤ 1024 → AreOpenable size openings → AreOpenings size openings
openings_read size [] few are = tt
openings_read size (o ∷ openings) few (there, content, are) = (there, opening_back o (omega (arith, there, few)) (is_content o.content content), openings_read size openings few are)

content_if : (b : Bool) (x y : Line) → fit x.words → fit y.words → fit (if b then x else y).words
content_if true x y h k = h
content_if false x y h k = k

content_fits : (size : Size) (line : ℕ) (openings : List Opening) (content : Line) → AreOpenable size openings → fit content.words → fit (content_of line content openings).words
unfolding content_of
content_fits size line [] content are h = h
content_fits size line (o ∷ openings) content (there, is, are) h =
    content_fits size line openings (if eqb o.line line then o.content else content) are (content_if (eqb o.line line) o.content content (is.1, all_small o.content.words is.2) h)

zeros_fit : fit zeros.words
zeros_fit = (refl, All-replicate (λ (x : ℕ). x < 2 ^ 64) 8 0 (omega arith))

opened_sound : (size : Size) (capacity : ℕ) (openings : List Opening) (s : Shared) → AreOpenable size openings → Opens size capacity openings s → Sound size s
opened_sound size capacity openings s are opens = (
  opens.width,
  (λ line low. subst (λ (x : State). IsRuled size.nodes fit x) (sym (opens.lines line low)) (opened_is_ruled size.nodes fit (content_of line zeros openings) (content_fits size line openings zeros are zeros_fit))),
  (λ node low. subst (λ (n : NodeState). SoundNode size.lines n) (sym (opens.nodes node low)) (refl, record { residents = tt; call = tt }, tt)),
)

-- ---- the log

holds_then : (size : Size) (P Q : (ℕ → State) → Type 0) (log : Log) → ((lines : ℕ → State) → P lines → Q lines) → Holds size P log → Holds size Q log
holds_then size P Q Log.New f h = absurd h
holds_then size P Q (Log.Opening g) f h = (h.0, f _ h.1)
holds_then size P Q (Log.Running g) f h = (h.0, f _ h.1)

-- what was logged from there on is followed
run_follows : (size : Size) (capacity : ℕ) (openings : List Opening) (s t : Shared) (log : List ℕ) → IsSize size → AreOpenable size openings → Opens size capacity openings s
    → Goes size (telling s (log_head size openings)) (telling t log) → IsSurelyFollowed log
run_follows size capacity openings s t log is are opens goes =
    let (uncut, run) = goes refl in
    let (sound, (added, told, notes, read, noted, leads)) = run (opened_sound size capacity openings s are opens) in
    let (line, front, memory) = size_back size openings is in
    let stands : (end : Log) → Holds size (Unused size (λ l. content_of l zeros openings)) end → Holds size (λ lines. Leads size.nodes lines told (At size t)) end =
    λ end holds. holds_then size (Unused size (λ l. content_of l zeros openings)) (λ lines. Leads size.nodes lines told (At size t)) end (λ lines unused. leads lines (λ l low. unused l low ∙ sym (opens.lines l low))) holds in
    let whole : (line ++ flat_map opening_line openings) ++ added ≡ log = ap (λ (x : List ℕ). x ++ added) (sym front) ∙ sym notes in
    let fine : NoFault ((line ++ flat_map opening_line openings) ++ added) 1 Log.New =
    head_fine size is line openings added memory (openings_read size openings is.few_lines are) (λ k end holds. told_fine size told added (At size t) k end read noted (stands end holds)) in
    let fed : IsFed ((line ++ flat_map opening_line openings) ++ added) 1 Log.New =
    head_fed size is line openings added memory (openings_read size openings is.few_lines are) (λ k end holds kept. told_fed size told added (At size t) k end read noted (stands end holds) kept) in
    (follows_so log (subst (λ (x : List ℕ). IsFed x 1 Log.New) whole fed), (λ e stops. stops_only log e (subst (λ (x : List ℕ). NoFault x 1 Log.New) whole fine) stops))

pub served_log_follows : (limit : ℕ) (input text : List ℕ) → Serves limit Form.Log input text → IsSurelyFollowed text
served_log_follows limit input text (long, size, capacity, openings, steps, is, (s, t, opens, (printed, prints))) =
    let (sized, are, inside, small) = script_read input (size, capacity, openings, steps) is in
    let goes : Goes size (telling s (log_head size openings)) (telling t text) =
    prints_all telling_is_open logs size (asks size) (Goes size) (goes_none size) (goes_on size) (call_goes size sized) no_words (telling s (log_head size openings)) steps printed (telling t text) inside (all_ask size steps inside small) prints in
    run_follows size capacity openings s t text sized are opens goes

stopped_so : (size : Size) (openings : List Opening) (steps : List Step) (s : Shared) (refusal : ScriptRefusal) (written : List ℕ) (t : Shared) → IsOfLine refusal → LogLeaves size openings steps s refusal written t → LogStops size openings steps s refusal written t
stopped_so size openings steps s OutOfMemory written t of_line h = absurd of_line
stopped_so size openings steps s WriteFailed written t of_line h = absurd of_line
stopped_so size openings steps s (BadCommand n) written t of_line h = h
stopped_so size openings steps s (BadNumber n) written t of_line h = h
stopped_so size openings steps s (NotDone n) written t of_line h = h

pub stopped_log_follows : (limit : ℕ) (input written : List ℕ) (refusal : ScriptRefusal) → IsOfLine refusal → StopsRunning limit Form.Log refusal input written → IsSurelyFollowed written
stopped_log_follows limit input written refusal of_line (long, size, capacity, openings, steps, is, (s, t, opens, left)) =
    let (sized, are, inside, small) = script_read input (size, capacity, openings, steps) is in
    let (printed, stopped) = stopped_so size openings steps s refusal written t of_line left in
    let goes : Goes size (telling s (log_head size openings)) (telling t written) =
    leaves telling_is_open logs size (asks size) (Goes size) (goes_none size) (goes_on size) (call_goes size sized) size.nodes (telling s (log_head size openings)) steps refusal printed (telling t written) of_line inside
    (all_ask size steps inside small) stopped in
    run_follows size capacity openings s t written sized are opens goes
