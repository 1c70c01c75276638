-- On a line that is lent, an answer is true of the line's value.
use Rattle.std.proofs.Common.{◌≡◌, ℕ, true, Option, Some, None, Ok, List, [], ◌∷◌, refl, sym, ap, subst, ◌∙◌}
use Rattle.std.specs.Borrow.{GName}
use Rattle.sci_words.specs.declared.tags.Kind.{Kind}
use Rattle.sci_words.specs.declared.tags.Tag.{Tag}
use Rattle.sci_core.specs.declared.lines.Line.{Line}
use Rattle.sci_core.specs.declared.pending.Pending.{Pending}
use Rattle.sci_core.specs.declared.events.Event.{Event}
use Rattle.sci_core.specs.declared.rows.Change.{Change}
use Rattle.sci_core.specs.declared.outcomes.Outcome.{Outcome}
use Rattle.sci_core.specs.Answers.{Makes, row_at}
use Rattle.sci_core.specs.Row.{leaving_word}
use Rattle.sci_core.specs.Run.{HasValue, ValueAfter, AnswersValue, KeepsLawful}
use Rattle.sci_core.specs.Sharers.{IsSoleSharer}
use Rattle.sci_core.specs.State.{State, invalid, word}
use Rattle.sci_core.specs.Step.{looked, tags_after}
use Rattle.sci_core.specs.Table.{has_row, row_of}
use Rattle.sci_core.specs.Table.Purging.{written}
use Rattle.sci_core.specs.Whole.{WholeLine, IsSameLine, nodes_of, state_of}
use Rattle.sci_core.proofs.Answered.{update_same}
use Rattle.sci_core.proofs.Lawfully.{one_value}
use Rattle.sci_port.specs.declared.calls.Call.{Call}
use Rattle.sci_port.specs.declared.calls.Call.TheVariants.{Own, MemWas, TagWas, Stepped}
use Rattle.sci_port.specs.Owes.{Owes}
use Rattle.sci_port.specs.Solo.{Does, Gives}
use Rattle.sci_port.specs.Way.{Way, way_to}
use Rattle.sci_ops.specs.declared.goals.Goal.{Goal}
use Rattle.sci_ops.specs.declared.goals.Write.{Write}
use Rattle.sci_ops.specs.declared.answers.Answer.{Answer}
use Rattle.sci_ops.specs.declared.answers.Turn.{Turn}
use Rattle.sci_ops.specs.Answers.{shows_line, makes_invalid, IsWrote, IsSpent, IsAnswer, ChainTo, AnswersAt}
use Rattle.sci_ops.specs.Change.{change}
use Rattle.sci_ops.specs.Operation.{Operation}
use Rattle.sci_ops.specs.Plan.{Plan, own, mem, tag, exchange, Follows}
use Rattle.sci_ops.specs.Table.{turn_in}
use Rattle.sci_ops.specs.Values.{HasSeen, HasWritten, HasSpent, IsTrueOfLine, IsTrueTurn}

-- a load changes no value
same_value : (s t : State) (me : ℕ) (e : Event) (answer : Option Line) (v w : Line) → shows_line e ≡ true → ValueAfter s v me e (Ok (Outcome.Done answer)) t w → w ≡ v
same_value s t me Event.Settle answer v w h c = c
same_value s t me Event.Unhold answer v w h c = c
same_value s t me _ answer v w h c = absurd (cc)

purging_line : (l m : Line) → Pending.Purging l (Some None) ≡ Pending.Purging m (Some None) → l ≡ m
purging_line l m h = cc

some_tag : (x y : Tag) → ◌≡◌ {A = Option Tag} (Some x) (Some y) → x ≡ y
some_tag x y h = cc

seen_true : (n : ℕ) (fits : List ℕ → Type 0) (me : ℕ) (s t : State) (words : List ℕ) (stamp : ℕ) (e : Event) (answer : Option Line) → shows_line e ≡ true → answer ≡ Some record { words = words; stamp = stamp } → KeepsLawful n fits s me e (Ok (Outcome.Done answer)) t → HasSeen n fits me s words stamp t
seen_true n fits me s t words stamp e answer h a k =
    let line : Line = record { words = words; stamp = stamp } in
    let shown : AnswersValue me (Ok (Outcome.Done (Some line))) t k.next = subst (λ (x : Option Line). AnswersValue me (Ok (Outcome.Done x)) t k.next) a k.answer in
    let same : k.next ≡ k.value = same_value s t me e answer k.value k.next h k.change in
    record {
      before = subst (λ (x : Line). HasValue n fits s x) (sym (shown.0 ∙ same)) k.before;
      after = subst (λ (x : Line). HasValue n fits t x) (sym shown.0) k.after;
      sharer = shown.1;
    }

-- what a writer does to the value
writes : (n : ℕ) (fits : List ℕ → Type 0) (me : ℕ) (s t : State) (line : Line) (words : Option (List ℕ)) (e : Event) (answer : Option Line) → s.steps me ≡ Pending.Purging line (Some None) → e ≡ Event.Written words → KeepsLawful n fits s me e (Ok (Outcome.Done answer)) t → HasValue n fits s line × HasValue n fits t (written line words) × IsSoleSharer s me × IsSoleSharer t me
writes n fits me s t line words e answer p h k =
    let change : ValueAfter s k.value me (Event.Written words) (Ok (Outcome.Done answer)) t k.next = subst (λ (x : Event). ValueAfter s k.value me x (Ok (Outcome.Done answer)) t k.next) h k.change in
    let same : k.value ≡ line = purging_line k.value line (sym change.3 ∙ p) in
    let next : k.next ≡ written line words = change.0 ∙ ap (λ (x : Line). written x words) same in
    (subst (λ (x : Line). HasValue n fits s x) same k.before, subst (λ (x : Line). HasValue n fits t x) next k.after, change.1, change.2)

wrote_true : (n : ℕ) (fits : List ℕ → Type 0) (write : Write) (me : ℕ) (s t : State) (before : List ℕ) (stamp : ℕ) (e : Event) (answer : Option Line) → IsWrote write before stamp (s.steps me) e → KeepsLawful n fits s me e (Ok (Outcome.Done answer)) t → HasWritten n fits write me s before stamp t
wrote_true n fits write me s t before stamp e answer w k =
    let done = writes n fits me s t w.line (Some (change write w.line.words)) e answer w.purging w.event k in
    record {
      replaced = w.line;
      value = done.0;
      words = w.words;
      counts = w.counts;
      next = w.next;
      after = subst (λ (x : List ℕ). HasValue n fits t record { words = change write x; stamp = stamp }) (sym w.words) (subst (λ (x : ℕ). HasValue n fits t record { words = change write w.line.words; stamp = x }) (sym w.next) done.1);
      alone_before = done.2;
      alone_after = done.3;
    }

spent_true : (n : ℕ) (fits : List ℕ → Type 0) (me : ℕ) (s t : State) (e : Event) (answer : Option Line) → IsSpent (s.steps me) e → KeepsLawful n fits s me e (Ok (Outcome.Done answer)) t → HasSpent n fits me s t
spent_true n fits me s t e answer w k =
    let done = writes n fits me s t w.line None e answer w.purging w.event k in
    record { kept = w.line; last = w.last; value = done.0; after = done.1; alone_before = done.2; alone_after = done.3 }

-- the row makes its actor's tag Invalid
abbrev IsInvalidating : ℕ → Change → Type 0
IsInvalidating me c = (before : Tag) × (c ≡ Change.OfTag me before invalid)

left_row : (n me : ℕ) (p : Pending) → has_row n me p Event.Left ≡ true → IsInvalidating me (row_of me p Event.Left).change
left_row n me (Pending.Parted f) h = (leaving_word f, refl)
left_row n me _ h = absurd (cc)

rolled_row : (n me : ℕ) (p : Pending) → has_row n me p Event.Rolled ≡ true → IsInvalidating me (row_of me p Event.Rolled).change
rolled_row n me (Pending.Unlinked f b) h = (word Kind.Roll f (Some b), refl)
rolled_row n me _ h = absurd (cc)

invalid_made : (tags : ℕ → Tag) (me : ℕ) (c : Change) → IsInvalidating me c → (tags_after tags c me).kind ≡ Kind.Invalid
invalid_made tags me c h = subst (λ (x : Change). (tags_after tags x me).kind ≡ Kind.Invalid) (sym h.1) (ap (λ (x : Tag). x.kind) (update_same tags me invalid))

row_out : (n : ℕ) (s t : State) (me : ℕ) (e : Event) (answer : Option Line) → Makes n s me e answer t → IsInvalidating me (row_at s me e).change → (t.tags me).kind ≡ Kind.Invalid
row_out n s t me e answer m i = subst (λ (u : State). (u.tags me).kind ≡ Kind.Invalid) (sym m.next) (invalid_made s.tags me (row_at s me e).change i)

out_true : (n : ℕ) (fits : List ℕ → Type 0) (s t : State) (me : ℕ) (e : Event) (answer : Option Line) → makes_invalid e ≡ true → Does n fits s me e (Outcome.Done answer) t → (t.tags me).kind ≡ Kind.Invalid
out_true n fits s t me Event.Left answer h d = row_out n s t me Event.Left answer d.0 (left_row n me (s.steps me) d.0.allowed)
out_true n fits s t me Event.Rolled answer h d = row_out n s t me Event.Rolled answer d.0 (rolled_row n me (s.steps me) d.0.allowed)
out_true n fits s t me _ answer h d = absurd (cc)

own_out : (n : ℕ) (fits : List ℕ → Type 0) (s t : State) (me : ℕ) (x : Tag) → x.kind ≡ Kind.Invalid → Gives n fits s me (Own (Some x)) t → (t.tags me).kind ≡ Kind.Invalid
own_out n fits s t me x h g =
    let found : x ≡ s.tags me = some_tag x (s.tags me) g.0 in
    subst (λ (u : State). (u.tags me).kind ≡ Kind.Invalid) (sym g.1.0.1) (ap (λ (y : Tag). y.kind) (sym found) ∙ h)

-- what is said of the last call is true of the line
pub call_true : (n : ℕ) (fits : List ℕ → Type 0) (goal : Goal) (me : ℕ) (s t : State) (a : Answer) (call : Call) → IsAnswer goal a (s.steps me) call → Gives n fits s me call t → IsTrueOfLine n fits goal me s a t
call_true n fits Goal.Load me s t (Answer.Seen words stamp) (Stepped e (Outcome.Done answer)) h g = seen_true n fits me s t words stamp e answer h.0 h.1 g.1
call_true n fits (Goal.Write write) me s t (Answer.Wrote before stamp) (Stepped e (Outcome.Done answer)) h g = wrote_true n fits write me s t before stamp e answer h g.1
call_true n fits (Goal.Write write) me s t Answer.Spent (Stepped e (Outcome.Done answer)) h g = spent_true n fits me s t e answer h g.1
call_true n fits Goal.Evict me s t Answer.Out (Stepped e (Outcome.Done answer)) h g = out_true n fits s t me e answer h g
call_true n fits Goal.Evict me s t Answer.Out (Own (Some x)) h g = own_out n fits s t me x h g
call_true n fits _ me s t a _ h g = absurd h

-- and so of the line before a load
value_before : (n : ℕ) (fits : List ℕ → Type 0) (s t : State) (me : ℕ) (v : Line) → Does n fits s me Event.Look (Outcome.Done None) t → HasValue n fits t v → HasValue n fits s v
value_before n fits s t me v d h =
    let same : d.1.value ≡ v = sym d.1.change ∙ one_value n fits t d.1.next v d.1.after h in
    subst (λ (x : Line). HasValue n fits s x) same d.1.before

sole_before : (s t : State) (me : ℕ) → t ≡ looked s me → IsSoleSharer t me → IsSoleSharer s me
sole_before s t me e h = subst (λ (u : State). IsSoleSharer u me) e h

look_true : (n : ℕ) (fits : List ℕ → Type 0) (goal : Goal) (me : ℕ) (s mid t : State) (a : Answer) → Does n fits s me Event.Look (Outcome.Done None) mid → IsTrueOfLine n fits goal me mid a t → IsTrueOfLine n fits goal me s a t
look_true n fits Goal.Load me s mid t (Answer.Seen words stamp) d h = record { before = value_before n fits s mid me record { words = words; stamp = stamp } d h.before; after = h.after; sharer = h.sharer }
look_true n fits (Goal.Write write) me s mid t (Answer.Wrote before stamp) d h = record {
  replaced = h.replaced;
  value = value_before n fits s mid me h.replaced d h.value;
  words = h.words;
  counts = h.counts;
  next = h.next;
  after = h.after;
  alone_before = sole_before s mid me d.0.1 h.alone_before;
  alone_after = h.alone_after;
}
look_true n fits (Goal.Write write) me s mid t Answer.Spent d h = record { kept = h.kept; last = h.last; value = value_before n fits s mid me h.kept d h.value; after = h.after; alone_before = sole_before s mid me d.0.1 h.alone_before; alone_after = h.alone_after }
look_true n fits Goal.Evict me s mid t Answer.Out d h = h
look_true n fits _ me s mid t a d h = absurd h

-- a turn's loads change no value, and what is said of its last call is true of the line
turn_true : (n : ℕ) (fits : List ℕ → Type 0) (goal : Goal) (me : ℕ) (a : Answer) (plan : Plan) (s t : State) (calls : List Call) → Follows plan calls (Turn.Done a) → ChainTo (λ u call v. Gives n fits u me call v) (λ u call. IsAnswer goal a (u.steps me) call) s calls t → IsTrueOfLine n fits goal me s a t
turn_true n fits goal me a plan s t [] f chain = absurd chain
turn_true n fits goal me a plan s t (c ∷ []) f chain = call_true n fits goal me s t a c chain.1 chain.0
turn_true n fits goal me a (own next) s t (Own (Some x) ∷ d ∷ ds) f chain = look_true n fits goal me s chain.0 t a chain.1.1 (turn_true n fits goal me a (next x) chain.0 t (d ∷ ds) f chain.2)
turn_true n fits goal me a (mem next) s t (MemWas (Some x) ∷ d ∷ ds) f chain = subst (λ (u : State). IsTrueOfLine n fits goal me u a t) chain.1.1 (turn_true n fits goal me a (next x) chain.0 t (d ∷ ds) f chain.2)
turn_true n fits goal me a (tag node next) s t (TagWas y (Some x) ∷ d ∷ ds) f chain = subst (λ (u : State). IsTrueOfLine n fits goal me u a t) chain.1.1 (turn_true n fits goal me a (next x) chain.0 t (d ∷ ds) f.1 chain.2)
turn_true n fits goal me a (exchange event end) s t (Own x ∷ d ∷ ds) f chain = absurd f
turn_true n fits goal me a (exchange event end) s t (MemWas x ∷ d ∷ ds) f chain = absurd f
turn_true n fits goal me a (exchange event end) s t (TagWas y x ∷ d ∷ ds) f chain = absurd f
turn_true n fits goal me a (exchange event end) s t (Stepped e o ∷ d ∷ ds) f chain = absurd f
turn_true n fits goal me a _ s t (c ∷ d ∷ ds) f chain = absurd f

-- what the port of a node to a line that is lent gives
abbrev pub SoloGives : {S K : Type 0} → (K → ℕ → List ℕ → Type 0) → (S → WholeLine K) → (S → ℕ) → (S → GName) → S → Call → S → Type 0
SoloGives fits whole node name s call t = (way_to (name t) (whole t) (node t) ≡ way_to (name s) (whole s) (node s)) × ((whole t).keep ≡ (whole s).keep)
    × Gives (nodes_of (whole s)) (fits (whole s).keep (whole s).number) (state_of (whole s)) (node s) call (state_of (whole t))
    × Owes (nodes_of (whole s)) (fits (whole s).keep (whole s).number) (node s) ((state_of (whole s)).steps (node s)) call ((state_of (whole t)).steps (node t))

-- what a line's calls give to a node
abbrev pub LineGives : {K : Type 0} → (K → ℕ → List ℕ → Type 0) → WholeLine K → ℕ → State → Call → State → Type 0
LineGives fits w me u call v = Gives (nodes_of w) (fits w.keep w.number) u me call v

-- it is the way of node me to the line w
pub record IsWay {S K : Type 0} (whole : S → WholeLine K) (node : S → ℕ) (w : WholeLine K) (me : ℕ) (s : S) : Type 0 where
  pub same : IsSameLine w (whole s)
  pub mine : node s ≡ me

module _ {S K : Type 0} (fits : K → ℕ → List ℕ → Type 0) (whole : S → WholeLine K) (node : S → ℕ) (name : S → GName) (w : WholeLine K) (me : ℕ) where
  abbrev step_of : S → Pending
  step_of s = (state_of (whole s)).steps (node s)

  next_way : (s t : S) (call : Call) → IsWay whole node w me s → SoloGives fits whole node name s call t → IsWay whole node w me t
  next_way s t call way g = record {
    same = record { keep = g.1 ∙ way.same.keep; number = ap (λ (x : Way). x.number) g.0 ∙ way.same.number; nodes = ap (λ (x : Way). x.nodes) g.0 ∙ way.same.nodes };
    mine = ap (λ (x : Way). x.node) g.0 ∙ way.mine;
  }

  on_line : (s t : S) (call : Call) → IsWay whole node w me s → SoloGives fits whole node name s call t → LineGives fits w me (state_of (whole s)) call (state_of (whole t))
  on_line s t call way g =
      let u : State = state_of (whole s) in
      let v : State = state_of (whole t) in
      subst (λ (n : ℕ). Gives n (fits w.keep w.number) u me call v) way.same.nodes
      (subst (λ (k : K). Gives (nodes_of (whole s)) (fits k w.number) u me call v) way.same.keep
      (subst (λ (i : ℕ). Gives (nodes_of (whole s)) (fits (whole s).keep i) u me call v) way.same.number
      (subst (λ (i : ℕ). Gives (nodes_of (whole s)) (fits (whole s).keep (whole s).number) u i call v) way.mine g.2)))

  pub answer_on_line : (goal : Goal) (a : Answer) (s t : S) (calls : List Call) → IsWay whole node w me s → ChainTo (SoloGives fits whole node name) (λ u call. IsAnswer goal a (step_of u) call) s calls t → ChainTo (LineGives fits w me) (λ u call. IsAnswer goal a (u.steps me) call) (state_of (whole s)) calls (state_of (whole t))
  answer_on_line goal a s t [] way chain = absurd chain
  answer_on_line goal a s t (c ∷ []) way chain = (on_line s t c way chain.0, subst (λ (i : ℕ). IsAnswer goal a ((state_of (whole s)).steps i) c) way.mine chain.1)
  answer_on_line goal a s t (c ∷ d ∷ ds) way chain = (state_of (whole chain.0), on_line s chain.0 c way chain.1, answer_on_line goal a chain.0 t (d ∷ ds) (next_way s chain.0 c way chain.1) chain.2)

-- the answer of a turn over the port of a node to a line that is lent is true of the line
pub lent_answers : {S K : Type 0} (s t : S) (fits : K → ℕ → List ℕ → Type 0) (whole : S → WholeLine K) (node : S → ℕ) (name : S → GName) (op : Operation) (i : ℕ) (turn : Turn) (w : WholeLine K) (v : State) (me : ℕ)
    → whole s ≡ w → node s ≡ me → state_of (whole t) ≡ v
    → AnswersAt (SoloGives fits whole node name) (λ u. (state_of (whole u)).steps (node u)) op i s turn t
    → IsTrueTurn (nodes_of w) (fits w.keep w.number) op me (state_of w) turn v
lent_answers {K = K} s t fits whole node name op i (Turn.Done a) w v me from is to h = λ e.
    let way : IsWay whole node (whole s) (node s) s = record { same = record { keep = refl; number = refl; nodes = refl }; mine = refl } in
    let answers = h e in
    let u : WholeLine K = whole s in
    let base : IsTrueOfLine (nodes_of u) (fits u.keep u.number) op.goal (node s) (state_of u) a (state_of (whole t)) =
    turn_true (nodes_of u) (fits u.keep u.number) op.goal (node s) a (turn_in op.goal i ((state_of u).steps (node s))) (state_of u) (state_of (whole t)) answers.calls answers.follows (answer_on_line fits whole node name u (node s) op.goal a s t answers.calls way answers.chain) in
    subst (λ (x : State). IsTrueOfLine (nodes_of w) (fits w.keep w.number) op.goal me (state_of w) a x) to
    (subst (λ (j : ℕ). IsTrueOfLine (nodes_of w) (fits w.keep w.number) op.goal j (state_of w) a (state_of (whole t))) is
    (subst (λ (x : WholeLine K). IsTrueOfLine (nodes_of x) (fits x.keep x.number) op.goal (node s) (state_of x) a (state_of (whole t))) from base))
lent_answers s t fits whole node name op i Turn.Moved w v me from is to h = tt
lent_answers s t fits whole node name op i Turn.Waiting w v me from is to h = tt
