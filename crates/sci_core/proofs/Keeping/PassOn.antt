use Rattle.std.proofs.Common.{◌≡◌, ℕ, ◌<◌, Bool, cond, Some, ap, arith}
use Rattle.std.proofs.lemmas.Bool.Decides.{nat_tests}
use Rattle.sci_words.specs.declared.tags.Kind.{Kind}
use Rattle.sci_words.specs.declared.memory.Mem.{Mem}
use Rattle.sci_words.specs.declared.memory.MemState.{MemState}
use Rattle.sci_core.specs.declared.lines.Line.{Line}
use Rattle.sci_core.specs.declared.pending.Pending.{Pending}
use Rattle.sci_core.specs.State.{State, update, memory_word}
use Rattle.sci_core.specs.Shape.{shape}
use Rattle.sci_core.specs.Law.{Witness, Law, Below}
use Rattle.sci_core.proofs.Order.{pop}
use Rattle.sci_core.proofs.Fields.{StepFields, MemFields, step_fields, mem_fields}

-- The node's successor becomes the head, and the node is outside then.
abbrev pub after_pass_on : State → ℕ → ℕ → Bool → Line → State
after_pass_on s me target dirty line = record s {
  memory = memory_word (cond dirty MemState.Gone MemState.Fresh) (Some target);
  steps = update s.steps me (Pending.Parted (Some target));
}

pub pass_on_keeps_law : (s : State) (g : Witness) (o : Law (shape s) g) (me : ℕ) (target : ℕ) (dirty : Bool) (line : Line)
    → (pending : s.steps me ≡ Pending.Promoted dirty line target)
    → (memory_word_is : s.memory ≡ memory_word (cond dirty MemState.Gone MemState.Fresh) (Some me))
    → Law (shape (after_pass_on s me target dirty line)) (record g { rank = update g.rank me 0 })
pass_on_keeps_law s g o me target dirty line pending memory_word_is =
    let memory_forw : s.memory.forw ≡ (Some me) = ap (λ (m : Mem). m.forw) memory_word_is in
    let pending : StepFields (s.steps me) (Pending.Promoted dirty line target) = step_fields pending in
    let memory_word_is : MemFields s.memory (memory_word (cond dirty MemState.Gone MemState.Fresh) (Some me)) = mem_fields memory_word_is in
    let me_in : 0 < g.rank me = grind (arith, o.outside.may_be me) in
    let me_kind : (s.tags me).kind ≡ Kind.Leaving = grind (arith, o.own.suited me) in
    let me_forw : (s.tags me).forw ≡ Some target = grind (arith, o.own.as_kept me) in
    record {
      order = pop me (Some target) me_forw (rw memory_forw at o.order);
      fronts = let c = o.fronts in let o : ℕ = 0 in grind (arith, nat_tests, c);
      own = let c = o.own in let o : ℕ = 0 in grind (arith, nat_tests, c);
      outside = let c = o.outside in let o : ℕ = 0 in grind (arith, nat_tests, c);
      backs = record {
        ahead = let c = o.backs.ahead in let o : ℕ = 0 in grind (arith, nat_tests, c);
        known_in = λ i j h1 h2 h3. let c0 = o.backs.parting i me in let c1 = o.backs.known_in i j in let o : ℕ = 0 in
            grind (arith, nat_tests, c0, c1);
        known = λ i j h1 h2 h3. let c0 = o.own.suited me in let c1 = o.fronts.leaves in let c2 = o.backs.known i j in let o : ℕ = 0 in
            grind (arith, nat_tests, c0, c1, c2);
        skip_roll = let c = o.backs.skip_roll in let o : ℕ = 0 in grind (arith, nat_tests, c);
        skip_roll_out = λ i j m h1 h2 h3 h4 h5. let c0 = o.backs.skip_roll_out i j m in let c1 = o.backs.parting i me in let o : ℕ = 0 in
            grind (arith, nat_tests, c0, c1);
        skip_back = let c = o.backs.skip_back in let o : ℕ = 0 in grind (arith, nat_tests, c);
        skip_stale = let c = o.backs.skip_stale in let o : ℕ = 0 in grind (arith, nat_tests, c);
        skip_stale_out = λ i j m h1 h2 h3 h4 h5 h6. let c0 = o.backs.skip_stale_out i j m in let c1 = o.backs.parting i me in
            let o : ℕ = 0 in grind (arith, nat_tests, c0, c1);
        parting = λ i j h1 h2. let c0 = o.backs.parting i j in let o : ℕ = 0 in grind (arith, nat_tests, c0);
      };
      sees = record {
        none_seen = let c = o.sees.none_seen in let o : ℕ = 0 in grind (arith, nat_tests, c);
        forw_seen = let c = o.sees.forw_seen in let o : ℕ = 0 in grind (arith, nat_tests, c);
        back_some = let c = o.sees.back_some in let o : ℕ = 0 in grind (arith, nat_tests, c);
        back_ahead = let c = o.sees.back_ahead in let o : ℕ = 0 in grind (arith, nat_tests, c);
        back_parting = λ i x h1 h2 h3. let c0 = o.sees.back_parting i x in let o : ℕ = 0 in grind (arith, nat_tests, c0);
        back_seen = let c = o.sees.back_seen in let o : ℕ = 0 in grind (arith, nat_tests, c);
        back_behind = let c = o.sees.back_behind in let o : ℕ = 0 in grind (arith, nat_tests, c);
        back_front = let c = o.sees.back_front in let o : ℕ = 0 in grind (arith, nat_tests, c);
        told_seen = let c = o.sees.told_seen in let o : ℕ = 0 in grind (arith, nat_tests, c);
        told_forw = let c = o.sees.told_forw in let o : ℕ = 0 in grind (arith, nat_tests, c);
        told_some = let c = o.sees.told_some in let o : ℕ = 0 in grind (arith, nat_tests, c);
        told = let c = o.sees.told in let o : ℕ = 0 in grind (arith, nat_tests, c);
        untold = λ i j m h1 h2 h3 h4. let c0 = o.sees.untold in let o : ℕ = 0 in grind (arith, nat_tests, c0);
        unlinked = let c = o.sees.unlinked in let o : ℕ = 0 in grind (arith, nat_tests, c);
      };
      words = let c = o.words in let o : ℕ = 0 in grind (arith, nat_tests, c);
      slots = record {
        memory_out = let c = o.slots.memory_out in let o : ℕ = 0 in grind (arith, nat_tests, c);
        memory_home = let c = o.slots.memory_home in let o : ℕ = 0 in grind (arith, nat_tests, c);
        lends = let c = o.slots.lends in let o : ℕ = 0 in grind (arith, nat_tests, c);
        lends_one = let c = o.slots.lends_one in let o : ℕ = 0 in grind (arith, nat_tests, c);
        borrower_has = let c = o.slots.borrower_has in let o : ℕ = 0 in grind (arith, nat_tests, c);
        fetching = let c = o.slots.fetching in let o : ℕ = 0 in grind (arith, nat_tests, c);
        writing = let c = o.slots.writing in let o : ℕ = 0 in grind (arith, nat_tests, c);
        in_hand = let c = o.slots.in_hand in let o : ℕ = 0 in grind (arith, nat_tests, c);
        at_home = let c = o.slots.at_home in let o : ℕ = 0 in grind (arith, nat_tests, c);
        held_out = let c = o.slots.held_out in let o : ℕ = 0 in grind (arith, nat_tests, c);
        held_by = let c = o.slots.held_by in let o : ℕ = 0 in grind (arith, nat_tests, c);
        held_for = let c = o.slots.held_for in let o : ℕ = 0 in grind (arith, nat_tests, c);
        holding = let c = o.slots.holding in let o : ℕ = 0 in grind (arith, nat_tests, c);
        copied_held = let c = o.slots.copied_held in let o : ℕ = 0 in grind (arith, nat_tests, c);
        copied_idle = let c = o.slots.copied_idle in let o : ℕ = 0 in grind (arith, nat_tests, c);
        copied_by = let c = o.slots.copied_by in let o : ℕ = 0 in grind (arith, nat_tests, c);
      };
      mode = record {
        home = let c = o.mode.home in let o : ℕ = 0 in grind (arith, nat_tests, c);
        not_home = let c = o.mode.not_home in let o : ℕ = 0 in grind (arith, nat_tests, c);
        not_dirty = let c = o.mode.not_dirty in let o : ℕ = 0 in grind (arith, nat_tests, c);
        not_purging = let c = o.mode.not_purging in let o : ℕ = 0 in grind (arith, nat_tests, c);
        not_copying = let c = o.mode.not_copying in let o : ℕ = 0 in grind (arith, nat_tests, c);
        not_flagged = let c = o.mode.not_flagged in let o : ℕ = 0 in grind (arith, nat_tests, c);
        has_copy = let c = o.mode.has_copy in let o : ℕ = 0 in grind (arith, nat_tests, c);
        has_value = let c = o.mode.has_value in let o : ℕ = 0 in grind (arith, nat_tests, c);
        gone = λ h1. let c0 = o.own.suited me in let c1 = o.order.head_in me in let c2 = o.mode.gone in let c3 = o.fronts.leaves in
            let o : ℕ = 0 in grind (arith, nat_tests, c0, c1, c2, c3);
        gone_flag = λ i h1 h2. let c0 = o.own.suited me in let c1 = o.mode.gone_flag i in let c2 = o.fronts.leaves in let o : ℕ = 0 in
            grind (arith, nat_tests, c0, c1, c2);
        gone_queue = λ i h1 h2 h3. let c0 = o.slots.lends i in let c1 = o.own.suited me in let c2 = o.fronts.queue i in
            let c3 = o.fronts.leaves in let o : ℕ = 0 in grind (arith, nat_tests, c0, c1, c2, c3);
        gone_copy = λ i h1 h2 h3. let c0 = o.own.suited me in let c1 = o.mode.gone_copy i in let c2 = o.fronts.leaves in let o : ℕ = 0 in
            grind (arith, nat_tests, c0, c1, c2);
        last_copy = let c = o.mode.last_copy in let o : ℕ = 0 in grind (arith, nat_tests, c);
        last_value = λ i h1 h2. let c0 = o.mode.last_value in let o : ℕ = 0 in grind (arith, nat_tests, c0);
      };
      values = let c = o.values in let o : ℕ = 0 in grind (arith, nat_tests, c);
    }

pub pass_on_keeps_links : (n : ℕ) (s : State) (b : Below n (shape s)) (me : ℕ) (me_below : me < n) (target : ℕ) (dirty : Bool) (line : Line)
    → (pending : s.steps me ≡ Pending.Promoted dirty line target)
    → (memory_word_is : s.memory ≡ memory_word (cond dirty MemState.Gone MemState.Fresh) (Some me))
    → Below n (shape (after_pass_on s me target dirty line))
pass_on_keeps_links n s b me me_below target dirty line pending memory_word_is =
    let pending : StepFields (s.steps me) (Pending.Promoted dirty line target) = step_fields pending in
    let memory_word_is : MemFields s.memory (memory_word (cond dirty MemState.Gone MemState.Fresh) (Some me)) = mem_fields memory_word_is in
    grind (arith, nat_tests, b.head, b.forw, b.back, b.kept, b.word_forw, b.seen_forw, b.seen_back)
