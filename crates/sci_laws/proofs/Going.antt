-- A logged run on lines under the law: they stay so, its nodes' calls are of lines that there are, and what each call of the desk adds
-- to the log is followed.
use Rattle.std.proofs.Common.{◌≡◌, ◌≢◌, ◌∙◌, ◌⊎◌, ℕ, ◌+◌, ◌<◌, ◌≤◌, Bool, true, false, true≢false, eqb, cond, List, [], ◌∷◌, ◌++◌, Option, Some, None, Result, Ok, Err, refl, sym, ap, subst, arith, inl, inr, ⊎_elim, append-nil, append_assoc, eqb-true, eq-eqb, lt-ltb, ltb}
use Rattle.std.specs.Prelude.{if◌then◌else◌}
use Rattle.std.proofs.lemmas.Bool.{cases_Bool, and_from}
use Rattle.sci_core.specs.State.{State, update}
use Rattle.sci_core.specs.Whole.{IsRuled}
use Rattle.sci_ops.specs.declared.answers.Turn.{Turn}
use Rattle.sci_ops.specs.declared.goals.Goal.{Goal}
use Rattle.sci_ops.specs.Change.{StoresFitting}
use Rattle.sci_ops.specs.Operation.{Operation}
use Rattle.sci_ops.specs.Table.{begun}
use Rattle.sci_cache.specs.declared.calls.OpenCall.{OpenCall}
use Rattle.sci_cache.specs.declared.requests.Request.{Request}
use Rattle.sci_cache.specs.Nodes.{NodeState, IsLine, IsSoundCall, IsSoundNode, call_after, line_by, node_after, node_with, goal_by, op_by}
use Rattle.sci_cache.specs.Requests.{goal_of, line_of}
use Rattle.sci_logs.specs.declared.entries.Deviation.{Deviation}
use Rattle.sci_logs.specs.declared.told.Noted.{Noted}
use Rattle.sci_logs.specs.Told.{IsNotedIn, TakesTold, is_told_in}
use Rattle.sci_script.specs.declared.commands.Size.{Size}
use Rattle.sci_script.specs.declared.desk.Toward.{Toward}
use Rattle.sci_port.specs.declared.watching.Passed.{Passed}
use Rattle.sci_script.specs.Event.{Event, Began, Turned, Rested}
use Rattle.sci_script.specs.Passed.{PassesOn, PassesTurnOf, passes_to_rest, shared_passes}
use Rattle.sci_script.specs.Shared.{Shared, HasNode, TakesRestTurn, TakesTurnOf, shared_does}
use Rattle.sci_script.specs.Size.{IsSize}
use Rattle.sci_script.specs.Turns.{TurnsOn}
use Rattle.sci_logs.specs.TurnText.{entries_of}
use Rattle.sci_logs.specs.Logging.{AddsEntries, AddsRestEntries, logs}
use Rattle.sci_trace.specs.Telling.{AddsNone, Telling, nothing}
use Rattle.sci_script.proofs.Sound.{sound_after, sound_with}
use Rattle.sci_laws.specs.FollowedTurns.{AreFollowed, AreReadAs, AreToldOf, fit, turn_told}
use Rattle.sci_laws.proofs.Along.{Within}
use Rattle.sci_laws.proofs.TurnsFollowed.{Follows, turn_follows}

-- nodes whose calls are of lines that there are, and write what fits
abbrev Stores : Option OpenCall → Type 0
Stores None = Unit {0}
Stores (Some c) = StoresFitting fit c.goal

abbrev pub SoundNode : ℕ → NodeState → Type 0
SoundNode lines n = (n.lines ≡ lines) × IsSoundNode n × Stores n.call

asked_sound : (lines : ℕ) (n : NodeState) (r : Request) → SoundNode lines n → line_of r < lines → StoresFitting fit (goal_of r) → SoundNode lines (node_with n r)
asked_sound lines n r (own, sound, stores) inside fits = (own, sound_with n r (subst (λ (k : ℕ). line_of r < k) (sym own) inside) sound, fits)

stores_after : (c : OpenCall) (victim : Option ℕ) (turn : Turn) → StoresFitting fit c.goal → Stores (call_after c victim turn)
stores_after c None (Turn.Done answer) fits = tt
stores_after c (Some victim) (Turn.Done answer) fits = fits
stores_after c None Turn.Moved fits = fits
stores_after c (Some victim) Turn.Moved fits = fits
stores_after c None Turn.Waiting fits = fits
stores_after c (Some victim) Turn.Waiting fits = fits

after_sound : (lines : ℕ) (n : NodeState) (c : OpenCall) (turn : Turn) → n.call ≡ Some c → SoundNode lines n → StoresFitting fit c.goal → SoundNode lines (node_after n c turn)
after_sound lines n c turn opened (own, sound, stores) fits = (own, sound_after n c turn opened sound, stores_after c c.victim turn fits)

line_there : (lines : ℕ) (c : OpenCall) (victim : Option ℕ) → c.line < lines → IsLine lines victim → line_by victim c.line < lines
line_there lines c None inside there = inside
line_there lines c (Some victim) inside there = there

work_fits : (c : OpenCall) (victim : Option ℕ) → StoresFitting fit c.goal → StoresFitting fit (goal_by victim c.goal)
work_fits c None fits = fits
work_fits c (Some victim) fits = tt

-- lines under the law, and sound nodes
abbrev pub Sound : Size → Shared → Type 0
Sound size s = (s.width ≡ size.nodes) × ((line : ℕ) → line < size.lines → IsRuled size.nodes fit (s.lines line)) × ((node : ℕ) → node < size.nodes → SoundNode size.lines (s.nodes node))

updated : (size : Size) (nodes : ℕ → NodeState) (at : ℕ) (n : NodeState) → ((node : ℕ) → node < size.nodes → SoundNode size.lines (nodes node)) → SoundNode size.lines n → (node : ℕ) → node < size.nodes → SoundNode size.lines (update nodes at n node)
updated size nodes at n sound new node inside = by_case (eqb node at)
  where
    by_case : (b : Bool) → SoundNode size.lines (cond b n (nodes node))
    by_case true = new
    by_case false = sound node inside

-- a follower that stands as these lines do
abbrev pub At : Size → Shared → (ℕ → State) → Type 0
At size s lines = (line : ℕ) → line < size.lines → lines line ≡ s.lines line

-- what is told is answered so, one after another, and as nothing else, and this holds of the lines then
abbrev pub Leads : ℕ → (ℕ → State) → List Noted → ((ℕ → State) → Type 0) → Type 0
Leads n lines [] Q = Q lines
Leads n lines (noted ∷ more) Q = ((after : ℕ → State) × TakesTold n lines noted (Ok tt) after) × ((why : Deviation) (after : ℕ → State) → TakesTold n lines noted (Err why) after → ⊥)
    × ((after : ℕ → State) → TakesTold n lines noted (Ok tt) after → Leads n after more Q)

pub leads_on : (n : ℕ) (told more : List Noted) (P Q : (ℕ → State) → Type 0) → ((lines : ℕ → State) → P lines → Leads n lines more Q) → (lines : ℕ → State) → Leads n lines told P → Leads n lines (told ++ more) Q
leads_on n [] more P Q on lines h = on lines h
leads_on n (noted ∷ told) more P Q on lines h = (h.0, h.1, (λ after takes. leads_on n told more P Q on after (h.2 after takes)))

-- the line comes to t, and the others stay
turn_leads : (n line : ℕ) (start : ℕ → State) (t : State) (told : List Noted) (lines : ℕ → State) → ((other : ℕ) → other ≢ line → lines other ≡ start other) → AreFollowed n lines told line t
    → Leads n lines told (λ after. (after line ≡ t) × ((other : ℕ) → other ≢ line → after other ≡ start other))
turn_leads n line start t [] lines others h = (h, others)
turn_leads n line start t (noted ∷ told) lines others h = (
  h.0,
  h.1,
  (λ after takes. let (stay, more) = h.2 after takes in turn_leads n line start t told after (λ other apart. stay other apart ∙ others other apart) more),
)

abbrev pub AreNoted : Size → List Noted → Type 0
AreNoted size [] = Unit {0}
AreNoted size (noted ∷ more) = IsNotedIn size noted × AreNoted size more

abbrev pub Adds : Size → Telling → Telling → Type 0
Adds size s t = (text : List ℕ) × (told : List Noted) × (t.notes ≡ s.notes ++ text) × AreReadAs text told × AreNoted size told × ((lines : ℕ → State) → At size s.shared lines → Leads size.nodes lines told (At size t.shared))

-- no call of the desk was refused memory for a line of the log, and it kept all so
abbrev pub Goes : Size → Telling → Telling → Type 0
Goes size s t = t.is_cut ≡ false → (s.is_cut ≡ false) × (Sound size s.shared → Sound size t.shared × Adds size s t)

pub read_both : (a b : List ℕ) (xs ys : List Noted) → AreReadAs a xs → AreReadAs b ys → AreReadAs (a ++ b) (xs ++ ys)
read_both a b [] ys h k = subst (λ (x : List ℕ). AreReadAs (x ++ b) ys) (sym h) k
read_both a b (noted ∷ xs) ys (line, rest, is, now, more) k = (line, rest ++ b, ap (λ (x : List ℕ). x ++ b) is ∙ append_assoc line rest b, now, read_both rest b xs ys more k)

pub noted_both : (size : Size) (xs ys : List Noted) → AreNoted size xs → AreNoted size ys → AreNoted size (xs ++ ys)
noted_both size [] ys h k = k
noted_both size (noted ∷ xs) ys h k = (h.0, noted_both size xs ys h.1 k)

pub goes_none : (size : Size) (s : Telling) → Goes size s s
goes_none size s = λ whole. (whole, (λ sound. (sound, ([], [], sym (append-nil s.notes), refl, tt, (λ lines at. at)))))

pub goes_on : (size : Size) (s m t : Telling) → Goes size s m → Goes size m t → Goes size s t
goes_on size s m t first last = λ whole.
    let (mid_whole, later) = last whole in
    let (start_whole, now) = first mid_whole in (
      start_whole,
      (λ sound.
          let (mid, (text, told, notes, read, noted, leads)) = now sound in
          let (end, (more, others, more_notes, more_read, more_noted, more_leads)) = later mid in (
            end,
            (
              text ++ more,
              told ++ others,
              more_notes ∙ ap (λ (x : List ℕ). x ++ more) notes ∙ append_assoc s.notes text more,
              read_both text more told others read more_read,
              noted_both size told others noted more_noted,
              (λ lines at. leads_on size.nodes told others (At size m.shared) (At size t.shared) more_leads lines (leads lines at)),
            ),
          )),
    )

-- a call that adds nothing
adds_none : (size : Size) (s t : Telling) → AddsNone s t → (Sound size s.shared → Sound size t.shared × ((line : ℕ) → line < size.lines → t.shared.lines line ≡ s.shared.lines line)) → Goes size s t
adds_none size s t (cut, notes) kept = λ whole. (
  sym cut ∙ whole,
  (λ sound. let (now, lines) = kept sound in (now, ([], [], notes ∙ sym (append-nil s.notes), refl, tt, (λ states at. (λ line inside. at line inside ∙ sym (lines line inside)))))),
)

same_kept : (size : Size) (s t : Shared) → t ≡ s → Sound size s → Sound size t × ((line : ℕ) → line < size.lines → t.lines line ≡ s.lines line)
same_kept size s t e sound = (subst (λ (x : Shared). Sound size x) (sym e) sound, (λ line inside. ap (λ (x : Shared). x.lines line) e))

-- what is told of a turn is of nodes and a line that there are
told_noted : (size : Size) (node line : ℕ) (told : List Noted) → node < size.nodes → line < size.lines → AreToldOf size.nodes node line told → AreNoted size told
told_noted size node line [] n l h = tt
told_noted size node line (noted ∷ told) n l (is_node, is_line, others, more) = (
  and_from _ _ (ap (λ (x : ℕ). ltb x size.nodes) is_node ∙ lt-ltb node size.nodes n) (and_from _ _ (ap (λ (x : ℕ). ltb x size.lines) is_line ∙ lt-ltb line size.lines l) others),
  told_noted size node line told n l more,
)

module _ (size : Size) (is : IsSize size) (s t : Shared) (node line : ℕ) (inside : node < size.nodes) (there : line < size.lines) (sound : Sound size s) (width : t.width ≡ s.width)
    (others : (other : ℕ) → other ≢ line → t.lines other ≡ s.lines other) (op : Operation) (turn : Turn) (passed : Passed) (fits : StoresFitting fit op.goal)
    (made : TurnsOn s.width node op (s.lines line) turn (t.lines line)) (passes : PassesOn s.width node line op (s.lines line) (t.lines line) nothing passed) where
  follows : Follows size.nodes node line (s.lines line) (t.lines line) passed
  follows =
      turn_follows size.nodes node line (s.lines line) (sound.1 line there) inside is.few_nodes (omega (arith, there, is.few_lines)) op turn (t.lines line) passed fits
      (subst (λ (w : ℕ). TurnsOn w node op (s.lines line) turn (t.lines line)) sound.0 made) (subst (λ (w : ℕ). PassesOn w node line op (s.lines line) (t.lines line) nothing passed) sound.0 passes)

  ruled_then : (other : ℕ) → other < size.lines → IsRuled size.nodes fit (t.lines other)
  ruled_then other low = elim (cases_Bool (eqb other line)) [
    | inl same ↦ subst (λ (l : ℕ). IsRuled size.nodes fit (t.lines l)) (sym (eqb-true other line same)) follows.2
    | inr apart ↦ subst (λ (x : State). IsRuled size.nodes fit x) (sym (others other (λ e. true≢false (sym (eq-eqb other line e) ∙ apart)))) (sound.1 other low)
  ]

  leads_then : (lines : ℕ → State) → At size s lines → Leads size.nodes lines (turn_told node passed) (At size t)
  leads_then lines at =
      let told = turn_told node passed in
      subst (λ (x : List Noted). Leads size.nodes lines x (At size t)) (append-nil told)
      (leads_on size.nodes told [] (λ after. (after line ≡ t.lines line) × ((other : ℕ) → other ≢ line → after other ≡ lines other)) (At size t)
      (λ after h. (λ other low. elim (cases_Bool (eqb other line)) [
        | inl same ↦ subst (λ (l : ℕ). after l ≡ t.lines l) (sym (eqb-true other line same)) h.0
        | inr apart ↦ let far : other ≢ line = λ e. true≢false (sym (eq-eqb other line e) ∙ apart) in h.1 other far ∙ at other low ∙ sym (others other far)
      ]))
      lines (turn_leads size.nodes line lines (t.lines line) told lines (λ other apart. refl) (follows.3 lines (at line there))))

  noted_then : AreNoted size (turn_told node passed)
  noted_then = told_noted size node line (turn_told node passed) inside there follows.1

-- a turn's entries
turn_goes : (size : Size) → IsSize size → (s t : Telling) (node : ℕ) (turn : Turn) (call : Option OpenCall) → node < size.nodes → (s.shared.nodes node).call ≡ call → TakesTurnOf s.shared node call turn t.shared → t.is_cut ≡ s.is_cut
    → (passed : Passed) → PassesTurnOf s.shared node call t.shared nothing passed → t.notes ≡ s.notes ++ entries_of node passed → Goes size s t
turn_goes size is s t node turn None inside opened takes cut passed passes notes = absurd takes
turn_goes size is s t node turn (Some c) inside opened takes cut passed passes notes = λ whole. (
  sym cut ∙ whole,
  (λ sound.
      let (own, node_sound, stores) = sound.2 node inside in
      let sound_call : IsSoundCall size.lines (Some c) = subst (λ (lines : ℕ). IsSoundCall lines (Some c)) own (subst (λ (x : Option OpenCall). IsSoundCall (s.shared.nodes node).lines x) opened node_sound.call) in
      let fits : StoresFitting fit c.goal = subst (λ (x : Option OpenCall). Stores x) opened stores in
      let line = line_by c.victim c.line in
      let op = op_by c.victim c.goal in
      let there : line < size.lines = line_there size.lines c c.victim sound_call.0 sound_call.1 in
      let work = work_fits c c.victim fits in (
        (
          takes.width ∙ sound.0,
          ruled_then size is s.shared t.shared node line inside there sound takes.width takes.others op takes.turn passed work takes.made passes,
          (λ i low. subst (λ (n : NodeState). SoundNode size.lines n) (sym (takes.after i))
              (updated size s.shared.nodes node (node_after (s.shared.nodes node) c takes.turn) sound.2 (after_sound size.lines (s.shared.nodes node) c takes.turn opened (own, node_sound, stores) fits) i low)),
        ),
        (
          entries_of node passed,
          turn_told node passed,
          notes,
          (follows size is s.shared t.shared node line inside there sound takes.width takes.others op takes.turn passed work takes.made passes).0,
          noted_then size is s.shared t.shared node line inside there sound takes.width takes.others op takes.turn passed work takes.made passes,
          leads_then size is s.shared t.shared node line inside there sound takes.width takes.others op takes.turn passed work takes.made passes,
        ),
      )),
)

rest_goes : (size : Size) → IsSize size → (s t : Telling) (line node : ℕ) → line < size.lines → TakesRestTurn s.shared line node t.shared → t.is_cut ≡ s.is_cut
    → (passed : Passed) → passes_to_rest s.shared line node t.shared nothing passed → t.notes ≡ s.notes ++ entries_of node passed → Goes size s t
rest_goes size is s t line node there takes cut passed passes notes = λ whole. (
  sym cut ∙ whole,
  (λ sound.
      let inside : node < size.nodes = subst (λ (w : ℕ). node < w) sound.0 takes.inside in (
        (
          takes.width ∙ sound.0,
          ruled_then size is s.shared t.shared node line inside there sound takes.width takes.others (begun Goal.Load) takes.turn passed tt takes.made passes,
          (λ i low. subst (λ (n : NodeState). SoundNode size.lines n) (sym (takes.nodes i)) (sound.2 i low)),
        ),
        (
          entries_of node passed,
          turn_told node passed,
          notes,
          (follows size is s.shared t.shared node line inside there sound takes.width takes.others (begun Goal.Load) takes.turn passed tt takes.made passes).0,
          noted_then size is s.shared t.shared node line inside there sound takes.width takes.others (begun Goal.Load) takes.turn passed tt takes.made passes,
          leads_then size is s.shared t.shared node line inside there sound takes.width takes.others (begun Goal.Load) takes.turn passed tt takes.made passes,
        ),
      )),
)

abbrev pub asks : Size → ℕ → Request → Type 0
asks size node request = (node < size.nodes) × (line_of request < size.lines) × StoresFitting fit (goal_of request)

cut_goes : (size : Size) (s t : Telling) → t.is_cut ≡ true → Goes size s t
cut_goes size s t cut = λ whole. absurd (true≢false (sym cut ∙ whole))

-- each call of the desk
pub call_goes : (size : Size) → IsSize size → (s : Telling) (event : Event) (t : Telling) → Within size (asks size) event → logs s event t → Goes size s t
call_goes size is s (Began node request) t (inside, there, fits) ((width, lines, nodes), none) =
    adds_none size s t none (λ sound. (
      (
        width ∙ sound.0,
        (λ line low. subst (λ (x : State). IsRuled size.nodes fit x) (sym (lines line)) (sound.1 line low)),
        (λ i low. subst (λ (n : NodeState). SoundNode size.lines n) (sym (nodes i))
            (updated size s.shared.nodes node (node_with (s.shared.nodes node) request) sound.2 (asked_sound size.lines (s.shared.nodes node) request (sound.2 node inside) there fits) i low)),
      ),
      (λ line low. lines line),
    ))
call_goes size is s (Turned node turn) t inside (does, adds) =
    ⊎_elim (λ cut. cut_goes size s t cut) (λ a. let (cut, passed, passes, notes) = a in turn_goes size is s t node turn (s.shared.nodes node).call inside refl does cut passed passes notes) adds
call_goes size is s (Rested line (Toward.Turned node)) t there (does, adds) =
    ⊎_elim (λ cut. cut_goes size s t cut) (λ a. let (cut, passed, passes, notes) = a in rest_goes size is s t line node there does cut passed passes notes) adds
call_goes size is s (Rested line Toward.Reached) t there (does, none) = adds_none size s t none (same_kept size s.shared t.shared does.1)
call_goes size is s (Rested line Toward.Unknown) t there (does, none) = absurd does
call_goes size is s event t there (does, none) = adds_none size s t none (same_kept size s.shared t.shared does.1)
