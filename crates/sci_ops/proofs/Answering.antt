-- A turn's answer is what its last call gave.
use Rattle.std.proofs.Common.{◌≡◌, ℕ, Bool, true, false, Option, Some, None, List, [], ◌∷◌, refl, sym, ap, subst, ◌∙◌, arith}
use Rattle.std.specs.Prelude.{◌+◌, ◌<◌, ◌≤◌, is_some, if◌then◌else◌}
use Rattle.std.proofs.lemmas.Bool.Decides.{nat_tests}
use Rattle.sci_words.specs.declared.tags.Kind.{Kind}
use Rattle.sci_words.specs.declared.tags.Tag.{Tag}
use Rattle.sci_words.specs.declared.memory.Mem.{Mem}
use Rattle.sci_words.specs.declared.memory.MemState.{MemState}
use Rattle.sci_core.specs.declared.lines.Line.{Line}
use Rattle.sci_core.specs.declared.pending.Pending.{Pending}
use Rattle.sci_core.specs.declared.events.Event.{Event}
use Rattle.sci_core.specs.declared.outcomes.Outcome.{Outcome}
use Rattle.sci_core.specs.Found.{is_settled_body}
use Rattle.sci_core.specs.Step.{look_of}
use Rattle.sci_core.specs.Table.Purging.{can_count}
use Rattle.sci_port.specs.declared.calls.Call.{Call}
use Rattle.sci_port.specs.declared.calls.Call.TheVariants.{Own, MemWas, TagWas, Stepped}
use Rattle.sci_port.specs.Call.{Chain}
use Rattle.sci_port.specs.Owes.{Owes}
use Rattle.sci_ops.specs.declared.goals.Goal.{Goal}
use Rattle.sci_ops.specs.declared.goals.Write.{Write}
use Rattle.sci_ops.specs.declared.answers.Answer.{Answer}
use Rattle.sci_ops.specs.declared.answers.Turn.{Turn}
use Rattle.sci_ops.specs.declared.answers.End.{End}
use Rattle.sci_ops.specs.Answers.{Answers, AnswersAt, ChainTo, EndsWithStamp, HasStamp, IsAnswer, makes_invalid, shows_line}
use Rattle.sci_ops.specs.Change.{change}
use Rattle.sci_ops.specs.Operation.{Operation}
use Rattle.sci_ops.specs.Plan.{Plan, own, mem, tag, exchange, ends, ended, Follows, Takes}
use Rattle.sci_ops.specs.Table.{is_free, may_adopt, may_attach_fresh, may_attach_dirty, seen_end, out_end, invalid, fresh, dirty, valid, idle_as, prepend, write, purging_at, return_home, leave, roll_on, roll, turn_in}

-- where a turn ends with an answer, that is what this call says of it
abbrev Says : Goal → Turn → Pending → Call → Type 0
Says goal (Turn.Done answer) p call = IsAnswer goal answer p call
Says goal turn p call = Unit {0}

-- the same of the last call, if there was one
abbrev Said : Goal → Turn → Option (Pending × Call) → Type 0
Said goal turn (Some last) = Says goal turn last.0 last.1
Said goal (Turn.Done answer) None = ⊥
Said goal turn None = Unit {0}

-- from the pending step and the call before it, whatever the calls of a plan give, its answer is what the last one says
data Speaks : Goal → Pending → Option (Pending × Call) → Plan → Type 0 where
  by_own : {goal : Goal} {p : Pending} {last : Option (Pending × Call)} {next : Tag → Plan} → ((t : Tag) → Speaks goal (look_of p t) (Some (p, Own (Some t))) (next t)) → Speaks goal p last (own next)
  by_mem : {goal : Goal} {p : Pending} {last : Option (Pending × Call)} {next : Mem → Plan} → ((m : Mem) → Speaks goal p (Some (p, MemWas (Some m))) (next m)) → Speaks goal p last (mem next)
  by_tag : {goal : Goal} {p : Pending} {last : Option (Pending × Call)} {node : ℕ} {next : Tag → Plan} → ((t : Tag) → Speaks goal p (Some (p, TagWas node (Some t))) (next t)) → Speaks goal p last (tag node next)
  by_exchange : {goal : Goal} {p : Pending} {last : Option (Pending × Call)} {event : Event} {end : End} → ((line : Option Line) → Says goal (ended end line) p (Stepped event (Outcome.Done line))) → Speaks goal p last (exchange event end)
  by_end : {goal : Goal} {p : Pending} {last : Option (Pending × Call)} {turn : Turn} → Said goal turn last → Speaks goal p last (ends turn)

either : {goal : Goal} {p : Pending} {last : Option (Pending × Call)} (b : Bool) (x y : Plan) → Speaks goal p last x → Speaks goal p last y → Speaks goal p last (if b then x else y)
either true x y h k = h
either false x y h k = k

waits : {goal : Goal} {p q : Pending} {call : Call} → Speaks goal p (Some (q, call)) (ends Turn.Waiting)
waits = by_end tt

moves : {goal : Goal} {p : Pending} {last : Option (Pending × Call)} {event : Event} → Speaks goal p last (exchange event End.Moved)
moves = by_exchange (λ line. tt)

seen_says : (goal : Goal) (p : Pending) (event : Event) → shows_line event ≡ true → (line : Option Line) → Says goal (ended (seen_end goal) line) p (Stepped event (Outcome.Done line))
seen_says Goal.Load p event h (Some line) = (h, refl)
seen_says Goal.Load p event h None = tt
seen_says (Goal.Write w) p event h line = tt
seen_says Goal.Evict p event h line = tt

out_says : (goal : Goal) (p : Pending) (event : Event) → makes_invalid event ≡ true → (line : Option Line) → Says goal (ended (out_end goal) line) p (Stepped event (Outcome.Done line))
out_says Goal.Evict p event h line = h
out_says Goal.Load p event h line = tt
out_says (Goal.Write w) p event h line = tt

invalid_speaks : (goal : Goal) (t : Tag) → t.kind ≡ Kind.Invalid → Speaks goal Pending.Idle (Some (Pending.Idle, Own (Some t))) (invalid goal)
invalid_speaks Goal.Evict t e = by_end e
invalid_speaks Goal.Load t e = by_mem (λ m. moves)
invalid_speaks (Goal.Write w) t e = by_mem (λ m. moves)

fresh_speaks : {last : Option (Pending × Call)} (goal : Goal) (me : ℕ) (t : Tag) → Speaks goal Pending.Idle last (fresh goal me t)
fresh_speaks Goal.Load me t = moves
fresh_speaks (Goal.Write w) me t = by_mem (λ m. either _ _ _ moves waits)
fresh_speaks Goal.Evict me t = by_mem (λ m. either _ _ _ moves waits)

dirty_speaks : {last : Option (Pending × Call)} (goal : Goal) (me : ℕ) (t : Tag) → Speaks goal Pending.Idle last (dirty goal me t)
dirty_speaks Goal.Load me t = moves
dirty_speaks (Goal.Write w) me t = moves
dirty_speaks Goal.Evict me t = by_mem (λ m. either _ _ _ moves waits)

valid_speaks : {last : Option (Pending × Call)} (goal : Goal) (t : Tag) → Speaks goal Pending.Idle last (valid goal t)
valid_speaks Goal.Load t = moves
valid_speaks (Goal.Write w) t = moves
valid_speaks Goal.Evict t = moves

idle_speaks : (goal : Goal) (me : ℕ) (t : Tag) (k : Kind) → t.kind ≡ k → Speaks goal Pending.Idle (Some (Pending.Idle, Own (Some t))) (idle_as goal me t k)
idle_speaks goal me t Kind.Invalid e = invalid_speaks goal t e
idle_speaks goal me t Kind.Fresh e = fresh_speaks goal me t
idle_speaks goal me t Kind.Dirty e = dirty_speaks goal me t
idle_speaks goal me t Kind.Valid e = valid_speaks goal t
idle_speaks goal me t _ e = waits

prepend_speaks : {goal : Goal} {p : Pending} {last : Option (Pending × Call)} (s : MemState) → Speaks goal p last (prepend goal s)
prepend_speaks MemState.Home = moves
prepend_speaks MemState.Fresh = moves
prepend_speaks MemState.Gone = moves

counts : (l : Line) → can_count l ≡ true → l.stamp < 18446744073709551615
counts l h = grind (arith, nat_tests, h)

counts_no_more : (l : Line) → can_count l ≡ false → l.stamp ≤ 18446744073709551615 → l.stamp ≡ 18446744073709551615
counts_no_more l h k = grind (arith, nat_tests, h, k)

-- a write is counted, or it isn't
counted : {last : Option (Pending × Call)} (w : Write) (l : Line) (p : Pending) (b : Bool) → l.stamp ≤ 18446744073709551615 → p ≡ Pending.Purging l (Some None) → can_count l ≡ b → Speaks (Goal.Write w) p last (if b then exchange (Event.Written (Some (change w l.words))) (End.Wrote l.words (l.stamp + 1)) else exchange (Event.Written None) End.Spent)
counted w l p true k e c = by_exchange (λ line. record { line = l; purging = e; words = refl; counts = counts l c; next = refl; event = refl })
counted w l p false k e c = by_exchange (λ line. record { line = l; purging = e; last = counts_no_more l c k; event = refl })

write_speaks : {last : Option (Pending × Call)} (goal : Goal) (l : Line) (p : Pending) → l.stamp ≤ 18446744073709551615 → p ≡ Pending.Purging l (Some None) → Speaks goal p last (write goal l)
write_speaks (Goal.Write w) l p k e = counted w l p (can_count l) k e refl
write_speaks Goal.Load l p k e = moves
write_speaks Goal.Evict l p k e = moves

purging_speaks : {last : Option (Pending × Call)} (goal : Goal) (me : ℕ) (l : Line) (p : Pending) (f : Option ℕ) → l.stamp ≤ 18446744073709551615 → p ≡ Pending.Purging l (Some f) → Speaks goal p last (purging_at goal me l f)
purging_speaks goal me l p None k e = write_speaks goal l p k e
purging_speaks goal me l p (Some x) k e = by_tag (λ t. either (is_free is_settled_body t) _ _ moves (either (may_adopt me t) _ _ moves waits))

return_home_speaks : {goal : Goal} {p : Pending} {last : Option (Pending × Call)} (d : Bool) → Speaks goal p last (return_home d)
return_home_speaks true = moves
return_home_speaks false = moves

leave_speaks : {goal : Goal} {p : Pending} {last : Option (Pending × Call)} (me : ℕ) (d : Bool) (f : Option ℕ) → Speaks goal p last (leave me d f)
leave_speaks me d None = return_home_speaks d
leave_speaks me d (Some x) = by_tag (λ t. either _ _ _ moves waits)

roll_on_speaks : {goal : Goal} {p q : Pending} {call : Call} (me : ℕ) (b : Option ℕ) → Speaks goal p (Some (q, call)) (roll_on me b)
roll_on_speaks me (Some x) = by_tag (λ t. either _ _ _ moves waits)
roll_on_speaks me None = waits

roll_speaks : {goal : Goal} {p q : Pending} {call : Call} (me : ℕ) (told : Bool) (f b : Option ℕ) → Speaks goal p (Some (q, call)) (roll me told f b)
roll_speaks me false (Some x) b = by_tag (λ t. either _ _ _ moves waits)
roll_speaks me false None b = roll_on_speaks me b
roll_speaks me true f b = roll_on_speaks me b

-- the table of turns speaks so
speaks : (goal : Goal) (me : ℕ) (p : Pending) → HasStamp p → Speaks goal p None (turn_in goal me p)
speaks goal me Pending.Idle k = by_own (λ t. either t.held _ _ waits (idle_speaks goal me t t.kind refl))
speaks goal me (Pending.Holding w l) k = by_exchange (seen_says goal (Pending.Holding w l) Event.Unhold refl)
speaks goal me (Pending.Queueing f) k = by_mem (λ m. either _ _ _ waits (either _ _ _ (prepend_speaks m.state) moves))
speaks goal me (Pending.Fetching f d l) k = moves
speaks goal me (Pending.InQueue None d c) k = by_exchange (seen_says goal (Pending.InQueue None d c) Event.Settle refl)
speaks goal me (Pending.InQueue (Some x) d c) k = by_tag (λ t. either (may_attach_fresh d (is_some c) t) _ _ moves (either (may_attach_dirty d (is_some c) t) _ _ moves waits))
speaks goal me (Pending.Copying x w l) k = moves
speaks goal me (Pending.Ready f d l) k = by_exchange (seen_says goal (Pending.Ready f d l) Event.Settle refl)
speaks goal me (Pending.Converting f true) k = moves
speaks goal me (Pending.Converting f false) k = by_mem (λ m. either _ _ _ moves moves)
speaks goal me (Pending.Purging l seen) k = by_own (λ t. purging_speaks goal me l (Pending.Purging l (Some t.forw)) t.forw k refl)
speaks goal me (Pending.Advancing l x w) k = moves
speaks goal me (Pending.Clearing l x w) k = moves
speaks goal me (Pending.Leaving d l seen) k = by_own (λ t. by_mem (λ m. either _ _ _ (leave_speaks me d t.forw) moves))
speaks goal me (Pending.Promoted d l x) k = by_mem (λ m. either _ _ _ moves moves)
speaks goal me (Pending.WritingBack l) k = moves
speaks goal me (Pending.Parted f) k = by_exchange (out_says goal (Pending.Parted f) Event.Left refl)
speaks goal me (Pending.Rolling told seen) k = by_own (λ t. roll_speaks me told t.forw t.back)
speaks goal me (Pending.Unlinked f b) k = by_exchange (out_says goal (Pending.Unlinked f b) Event.Rolled refl)

done_waiting : (a : Answer) → Turn.Done a ≡ Turn.Waiting → ⊥
done_waiting a h = cc

module _ {S : Type 0} (gives : S → Call → S → Type 0) (at_step : S → Pending) (nodes me : S → ℕ) (fits : S → List ℕ → Type 0) (owes : (s : S) (call : Call) (t : S) → gives s call t → Owes (nodes s) (fits s) (me s) (at_step s) call (at_step t)) where
  -- what a chain of calls says
  abbrev Spoken : Goal → Answer → Option (Pending × Call) → S → List Call → S → Type 0
  Spoken goal a last s [] t = Said goal (Turn.Done a) last
  Spoken goal a last s (c ∷ cs) t = ChainTo gives (λ u call. IsAnswer goal a (at_step u) call) s (c ∷ cs) t

  -- one more call in front
  more : (goal : Goal) (a : Answer) (s mid t : S) (c : Call) (cs : List Call) → gives s c mid → Chain gives mid cs t → Spoken goal a (Some (at_step s, c)) mid cs t → ChainTo gives (λ u call. IsAnswer goal a (at_step u) call) s (c ∷ cs) t
  more goal a s mid t c [] g chain said = (subst (λ (u : S). gives s c u) (sym chain) g, said)
  more goal a s mid t c (d ∷ ds) g chain said = (mid, g, said)

  spoken : {goal : Goal} {p : Pending} {last : Option (Pending × Call)} {plan : Plan} → Speaks goal p last plan → (s t : S) (a : Answer) (calls : List Call) → at_step s ≡ p → Chain gives s calls t → Follows plan calls (Turn.Done a) → Spoken goal a last s calls t
  spoken {goal = goal} {p = p} (by_own f) s t a (Own (Some x) ∷ cs) e chain h =
      let after : at_step chain.0 ≡ look_of p x = (owes s (Own (Some x)) chain.0 chain.1).0 ∙ ap (λ (q : Pending). look_of q x) e in
      let rest = spoken (f x) chain.0 t a cs after chain.2 h in
      more goal a s chain.0 t (Own (Some x)) cs chain.1 chain.2 (subst (λ (q : Pending). Spoken goal a (Some (q, Own (Some x))) chain.0 cs t) (sym e) rest)
  spoken (by_own f) s t a (Own None ∷ []) e chain h = absurd (done_waiting a h)
  spoken (by_own f) s t a _ e chain h = absurd h
  spoken {goal = goal} {p = p} (by_mem f) s t a (MemWas (Some x) ∷ cs) e chain h =
      let after : at_step chain.0 ≡ p = (owes s (MemWas (Some x)) chain.0 chain.1).0 ∙ e in
      let rest = spoken (f x) chain.0 t a cs after chain.2 h in
      more goal a s chain.0 t (MemWas (Some x)) cs chain.1 chain.2 (subst (λ (q : Pending). Spoken goal a (Some (q, MemWas (Some x))) chain.0 cs t) (sym e) rest)
  spoken (by_mem f) s t a (MemWas None ∷ []) e chain h = absurd (done_waiting a h)
  spoken (by_mem f) s t a _ e chain h = absurd h
  spoken {goal = goal} {p = p} (by_tag {node = node} f) s t a (TagWas y (Some x) ∷ cs) e chain h =
      let after : at_step chain.0 ≡ p = (owes s (TagWas y (Some x)) chain.0 chain.1).0 ∙ e in
      let rest = spoken (f x) chain.0 t a cs after chain.2 h.1 in
      more goal a s chain.0 t (TagWas y (Some x)) cs chain.1 chain.2 (subst (λ (n : ℕ). Spoken goal a (Some (at_step s, TagWas n (Some x))) chain.0 cs t) (sym h.0) (subst (λ (q : Pending). Spoken goal a (Some (q, TagWas node (Some x))) chain.0 cs t) (sym e) rest))
  spoken (by_tag f) s t a (TagWas y None ∷ []) e chain h = absurd (done_waiting a h.1)
  spoken (by_tag f) s t a _ e chain h = absurd h
  spoken {goal = goal} {p = p} (by_exchange {event = event} {end = end} f) s t a (Stepped x (Outcome.Done line) ∷ []) e chain h =
      let says : IsAnswer goal a p (Stepped event (Outcome.Done line)) = subst (λ (u : Turn). Says goal u p (Stepped event (Outcome.Done line))) (sym h.1) (f line) in (
        subst (λ (u : S). gives s (Stepped x (Outcome.Done line)) u) (sym chain.2) chain.1,
        subst (λ (q : Pending). IsAnswer goal a q (Stepped x (Outcome.Done line))) (sym e) (subst (λ (y : Event). IsAnswer goal a p (Stepped y (Outcome.Done line))) (sym h.0) says),
      )
  spoken (by_exchange f) s t a (Stepped x (Outcome.Missed word) ∷ []) e chain h = absurd (done_waiting a h.1)
  spoken (by_exchange f) s t a (Stepped x Outcome.Busy ∷ []) e chain h = absurd (done_waiting a h.1)
  spoken (by_exchange f) s t a _ e chain h = absurd h
  spoken {goal = goal} {last = last} (by_end said) s t a [] e chain h = subst (λ (u : Turn). Said goal u last) (sym h) said
  spoken (by_end said) s t a _ e chain h = absurd h

  -- a turn towards a goal answers so
  towards : (goal : Goal) (i : ℕ) (s t : S) (a : Answer) (calls : List Call) → HasStamp (at_step s) → Chain gives s calls t → Follows (turn_in goal i (at_step s)) calls (Turn.Done a) → Answers gives at_step goal (turn_in goal i (at_step s)) s a t
  towards goal i s t a [] k chain h = absurd (spoken (speaks goal i (at_step s) k) s t a [] refl chain h)
  towards goal i s t a (c ∷ cs) k chain h = record { calls = c ∷ cs; chain = spoken (speaks goal i (at_step s) k) s t a (c ∷ cs) refl chain h; follows = h }

  answers_at : (op : Operation) (i : ℕ) (s t : S) (turn : Turn) → HasStamp (at_step s) → Takes gives (turn_in op.goal i (at_step s)) s turn t → AnswersAt gives at_step op i s turn t
  answers_at op i s t (Turn.Done a) k takes = λ e. towards op.goal i s t a takes.calls k takes.chain takes.follows
  answers_at op i s t Turn.Moved k takes = tt
  answers_at op i s t Turn.Waiting k takes = tt

  -- the same of any turn that finds a stamp where it ends
  pub answers_by : (op : Operation) (i : ℕ) (s t : S) (turn : Turn) → EndsWithStamp turn (at_step s) → Takes gives (turn_in op.goal i (at_step s)) s turn t → AnswersAt gives at_step op i s turn t
  answers_by op i s t (Turn.Done a) k takes = answers_at op i s t (Turn.Done a) (k a refl) takes
  answers_by op i s t Turn.Moved k takes = tt
  answers_by op i s t Turn.Waiting k takes = tt
