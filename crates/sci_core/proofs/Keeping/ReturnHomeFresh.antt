use Rattle.std.proofs.Common.{◌≡◌, ℕ, ◌<◌, false, Some, None, ap, arith}
use Rattle.std.proofs.lemmas.Bool.Decides.{nat_tests}
use Rattle.sci_words.specs.declared.tags.Kind.{Kind}
use Rattle.sci_words.specs.declared.memory.Mem.{Mem}
use Rattle.sci_words.specs.declared.memory.MemState.{MemState}
use Rattle.sci_core.specs.declared.lines.Line.{Line}
use Rattle.sci_core.specs.declared.pending.Pending.{Pending}
use Rattle.sci_core.specs.State.{State, update, memory_word}
use Rattle.sci_core.specs.Shape.{link, shape}
use Rattle.sci_core.specs.Law.{Witness, Law, Below}
use Rattle.sci_core.proofs.Order.{pop}
use Rattle.sci_core.proofs.Fields.{StepFields, MemFields, step_fields, mem_fields}

-- The node was the only entry, and is outside then: the home becomes HOME.
abbrev pub after_return_home_fresh : State → ℕ → Line → State
after_return_home_fresh s me line = record s {
  memory = memory_word MemState.Home None;
  steps = update s.steps me (Pending.Parted None);
}

pub return_home_fresh_keeps_law : (s : State) (g : Witness) (o : Law (shape s) g) (me : ℕ) (line : Line)
    → (pending : s.steps me ≡ Pending.Leaving false line (Some None))
    → (memory_word_is : s.memory ≡ memory_word MemState.Fresh (Some me))
    → Law (shape (after_return_home_fresh s me line)) (record g { rank = update g.rank me 0 })
return_home_fresh_keeps_law s g o me line pending memory_word_is =
    let memory_forw : s.memory.forw ≡ (Some me) = ap (λ (m : Mem). m.forw) memory_word_is in
    let pending : StepFields (s.steps me) (Pending.Leaving false line (Some None)) = step_fields pending in
    let memory_word_is : MemFields s.memory (memory_word MemState.Fresh (Some me)) = mem_fields memory_word_is in
    let me_in : 0 < g.rank me = grind (arith, o.outside.may_be me) in
    let me_kind : (s.tags me).kind ≡ Kind.Leaving = grind (arith, o.own.suited me) in
    let me_forw : (s.tags me).forw ≡ None = grind (arith, o.sees.none_seen me) in
    record {
      order = pop me None me_forw (rw memory_forw at o.order);
      fronts = record {
        last_front_in = λ i h1. let c0 = o.sees.none_seen me in let c1 = o.order.last me i in let c2 = o.order.head_top me i in
            let c3 = o.order.apart me i in let o : ℕ = 0 in grind (arith, nat_tests, c0, c1, c2, c3);
        front = λ i h1 h2. let c0 = o.sees.none_seen me in let c1 = o.order.last me i in let c2 = o.order.head_top me i in
            let c3 = o.order.apart me i in let o : ℕ = 0 in grind (arith, nat_tests, c0, c1, c2, c3);
        body = let c = o.fronts.body in let o : ℕ = 0 in grind (arith, nat_tests, c);
        queue = λ i h1. let c0 = o.sees.none_seen (link s.memory.forw) in let c1 = o.order.last (link s.memory.forw) i in
            let c2 = o.order.head_top (link s.memory.forw) i in let c3 = o.order.apart (link s.memory.forw) i in let o : ℕ = 0 in
            grind (arith, nat_tests, c0, c1, c2, c3);
        attached = let c = o.fronts.attached in let o : ℕ = 0 in grind (arith, nat_tests, c);
        leaves = let c = o.fronts.leaves in let o : ℕ = 0 in grind (arith, nat_tests, c);
        purged = let c = o.fronts.purged in let o : ℕ = 0 in grind (arith, nat_tests, c);
        purged_next = let c = o.fronts.purged_next in let o : ℕ = 0 in grind (arith, nat_tests, c);
      };
      own = let c = o.own in let o : ℕ = 0 in grind (arith, nat_tests, c);
      outside = let c = o.outside in let o : ℕ = 0 in grind (arith, nat_tests, c);
      backs = record {
        ahead = let c = o.backs.ahead in let o : ℕ = 0 in grind (arith, nat_tests, c);
        known_in = λ i j h1 h2 h3. let c0 = o.sees.none_seen me in let c1 = o.order.last me i in let c2 = o.order.head_top me i in
            let c3 = o.order.apart me i in let o : ℕ = 0 in grind (arith, nat_tests, c0, c1, c2, c3);
        known = λ i j h1 h2 h3. let c0 = o.sees.none_seen me in let c1 = o.order.last me i in let c2 = o.order.head_top me i in
            let c3 = o.order.apart me i in let o : ℕ = 0 in grind (arith, nat_tests, c0, c1, c2, c3);
        skip_roll = let c = o.backs.skip_roll in let o : ℕ = 0 in grind (arith, nat_tests, c);
        skip_roll_out = λ i j m h1 h2 h3 h4 h5. let c0 = o.sees.none_seen me in let c1 = o.order.last me i in
            let c2 = o.order.head_top me i in let c3 = o.order.apart me i in let o : ℕ = 0 in grind (arith, nat_tests, c0, c1, c2, c3);
        skip_back = let c = o.backs.skip_back in let o : ℕ = 0 in grind (arith, nat_tests, c);
        skip_stale = let c = o.backs.skip_stale in let o : ℕ = 0 in grind (arith, nat_tests, c);
        skip_stale_out = λ i j m h1 h2 h3 h4 h5 h6. let c0 = o.sees.none_seen me in let c1 = o.order.last me i in
            let c2 = o.order.head_top me i in let c3 = o.order.apart me i in let o : ℕ = 0 in grind (arith, nat_tests, c0, c1, c2, c3);
        parting = λ i j h1 h2. let c0 = o.sees.none_seen me in let c1 = o.order.last me i in let c2 = o.order.head_top me i in
            let c3 = o.order.apart me i in let o : ℕ = 0 in grind (arith, nat_tests, c0, c1, c2, c3);
      };
      sees = record {
        none_seen = let c = o.sees.none_seen in let o : ℕ = 0 in grind (arith, nat_tests, c);
        forw_seen = let c = o.sees.forw_seen in let o : ℕ = 0 in grind (arith, nat_tests, c);
        back_some = let c = o.sees.back_some in let o : ℕ = 0 in grind (arith, nat_tests, c);
        back_ahead = let c = o.sees.back_ahead in let o : ℕ = 0 in grind (arith, nat_tests, c);
        back_parting = λ i x h1 h2 h3. let c0 = o.sees.none_seen me in let c1 = o.outside.may_be i in let c2 = o.order.last me i in
            let c3 = o.order.head_top me i in let c4 = o.order.apart me i in let o : ℕ = 0 in grind (arith, nat_tests, c0, c1, c2, c3, c4);
        back_seen = let c = o.sees.back_seen in let o : ℕ = 0 in grind (arith, nat_tests, c);
        back_behind = let c = o.sees.back_behind in let o : ℕ = 0 in grind (arith, nat_tests, c);
        back_front = let c = o.sees.back_front in let o : ℕ = 0 in grind (arith, nat_tests, c);
        told_seen = let c = o.sees.told_seen in let o : ℕ = 0 in grind (arith, nat_tests, c);
        told_forw = let c = o.sees.told_forw in let o : ℕ = 0 in grind (arith, nat_tests, c);
        told_some = let c = o.sees.told_some in let o : ℕ = 0 in grind (arith, nat_tests, c);
        told = let c = o.sees.told in let o : ℕ = 0 in grind (arith, nat_tests, c);
        untold = λ i j m h1 h2 h3 h4. let c0 = o.sees.untold in let o : ℕ = 0 in grind (arith, nat_tests, c0);
        unlinked = let c = o.sees.unlinked in let o : ℕ = 0 in grind (arith, nat_tests, c);
      };
      words = let c = o.words in let o : ℕ = 0 in grind (arith, nat_tests, c);
      slots = record {
        memory_out = let c = o.slots.memory_out in let o : ℕ = 0 in grind (arith, nat_tests, c);
        memory_home = let c = o.slots.memory_home in let o : ℕ = 0 in grind (arith, nat_tests, c);
        lends = let c = o.slots.lends in let o : ℕ = 0 in grind (arith, nat_tests, c);
        lends_one = let c = o.slots.lends_one in let o : ℕ = 0 in grind (arith, nat_tests, c);
        borrower_has = let c = o.slots.borrower_has in let o : ℕ = 0 in grind (arith, nat_tests, c);
        fetching = let c = o.slots.fetching in let o : ℕ = 0 in grind (arith, nat_tests, c);
        writing = let c = o.slots.writing in let o : ℕ = 0 in grind (arith, nat_tests, c);
        in_hand = let c = o.slots.in_hand in let o : ℕ = 0 in grind (arith, nat_tests, c);
        at_home = let c = o.slots.at_home in let o : ℕ = 0 in grind (arith, nat_tests, c);
        held_out = let c = o.slots.held_out in let o : ℕ = 0 in grind (arith, nat_tests, c);
        held_by = let c = o.slots.held_by in let o : ℕ = 0 in grind (arith, nat_tests, c);
        held_for = let c = o.slots.held_for in let o : ℕ = 0 in grind (arith, nat_tests, c);
        holding = let c = o.slots.holding in let o : ℕ = 0 in grind (arith, nat_tests, c);
        copied_held = let c = o.slots.copied_held in let o : ℕ = 0 in grind (arith, nat_tests, c);
        copied_idle = let c = o.slots.copied_idle in let o : ℕ = 0 in grind (arith, nat_tests, c);
        copied_by = let c = o.slots.copied_by in let o : ℕ = 0 in grind (arith, nat_tests, c);
      };
      mode = let c = o.mode in let o : ℕ = 0 in grind (arith, nat_tests, c);
      values = let c = o.values in let o : ℕ = 0 in grind (arith, nat_tests, c);
    }

pub return_home_fresh_keeps_links : (n : ℕ) (s : State) (b : Below n (shape s)) (me : ℕ) (me_below : me < n) (line : Line)
    → (pending : s.steps me ≡ Pending.Leaving false line (Some None))
    → (memory_word_is : s.memory ≡ memory_word MemState.Fresh (Some me))
    → Below n (shape (after_return_home_fresh s me line))
return_home_fresh_keeps_links n s b me me_below line pending memory_word_is =
    let pending : StepFields (s.steps me) (Pending.Leaving false line (Some None)) = step_fields pending in
    let memory_word_is : MemFields s.memory (memory_word MemState.Fresh (Some me)) = mem_fields memory_word_is in
    grind (arith, nat_tests, b.head, b.forw, b.back, b.kept, b.word_forw, b.seen_forw, b.seen_back)
