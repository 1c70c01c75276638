use Rattle.std.proofs.Common.{◌≡◌, ℕ, ◌<◌, false, Some, arith}
use Rattle.std.proofs.lemmas.Bool.Decides.{nat_tests}
use Rattle.sci_words.specs.declared.tags.Kind.{Kind}
use Rattle.sci_core.specs.declared.lines.Line.{Line}
use Rattle.sci_core.specs.declared.pending.Pending.{Pending}
use Rattle.sci_core.specs.State.{State, update, word}
use Rattle.sci_core.specs.Shape.{shape}
use Rattle.sci_core.specs.Law.{Witness, Law, Below}
use Rattle.sci_core.proofs.Fields.{StepFields, step_fields}

-- The node purges the valid entry behind it.
abbrev pub after_purge_one : State → ℕ → ℕ → Line → State
after_purge_one s me target line = record s {
  tags = update s.tags target (word Kind.Purged (s.tags target).forw (s.tags target).back);
  steps = update s.steps me (Pending.Advancing line target (word Kind.Purged (s.tags target).forw (s.tags target).back));
}

pub purge_one_keeps_law : (s : State) (g : Witness) (o : Law (shape s) g) (me : ℕ) (target : ℕ) (line : Line)
    → (pending : s.steps me ≡ Pending.Purging line (Some (Some target)))
    → (target_valid : (s.tags target).kind ≡ Kind.Valid)
    → (target_unheld : (s.tags target).held ≡ false)
    → Law (shape (after_purge_one s me target line)) g
purge_one_keeps_law s g o me target line pending target_valid target_unheld =
    let pending : StepFields (s.steps me) (Pending.Purging line (Some (Some target))) = step_fields pending in
    let me_in : 0 < g.rank me = grind (arith, o.outside.may_be me) in
    let me_kind : (s.tags me).kind ≡ Kind.Purging = grind (arith, o.own.suited me) in
    record {
      order = let c = o.order in let o : ℕ = 0 in grind (arith, nat_tests, c);
      fronts = record {
        last_front_in = let c = o.fronts.last_front_in in let o : ℕ = 0 in grind (arith, nat_tests, c);
        front = let c = o.fronts.front in let o : ℕ = 0 in grind (arith, nat_tests, c);
        body = let c = o.fronts.body in let o : ℕ = 0 in grind (arith, nat_tests, c);
        queue = let c = o.fronts.queue in let o : ℕ = 0 in grind (arith, nat_tests, c);
        attached = let c = o.fronts.attached in let o : ℕ = 0 in grind (arith, nat_tests, c);
        leaves = let c = o.fronts.leaves in let o : ℕ = 0 in grind (arith, nat_tests, c);
        purged = λ i h1 h2. let c0 = o.own.suited me in let c1 = o.outside.may_be me in let c2 = o.order.apart g.last_front me in
            let c3 = o.fronts.queue me in let c4 = o.fronts.body me in let o : ℕ = 0 in grind (arith, nat_tests, c0, c1, c2, c3, c4);
        purged_next = λ i h1 h2. let c0 = o.sees.forw_seen g.last_front i in let c1 = o.own.suited me in let c2 = o.outside.may_be me in
            let c3 = o.order.apart me g.last_front in let c4 = o.fronts.queue me in let c5 = o.fronts.purged_next i in
            let c6 = o.fronts.front i in let c7 = o.fronts.body me in let o : ℕ = 0 in
            grind (arith, nat_tests, c0, c1, c2, c3, c4, c5, c6, c7);
      };
      own = record {
        suited = λ i. let c0 = o.slots.holding i in let c1 = o.own.suited i in let o : ℕ = 0 in grind (arith, nat_tests, c0, c1);
        as_kept = λ i h1. let c0 = o.sees.forw_seen g.last_front target in let c1 = o.own.suited target in let c2 = o.own.suited me in
            let c3 = o.own.as_kept i in let c4 = o.outside.may_be target in let c5 = o.outside.may_be me in
            let c6 = o.order.apart g.last_front i in let c7 = o.fronts.queue i in let c8 = o.fronts.front target in
            let c9 = o.fronts.body me in let o : ℕ = 0 in grind (arith, nat_tests, c0, c1, c2, c3, c4, c5, c6, c7, c8, c9);
        back_kept = let c = o.own.back_kept in let o : ℕ = 0 in grind (arith, nat_tests, c);
        front_back = let c = o.own.front_back in let o : ℕ = 0 in grind (arith, nat_tests, c);
        body_back = let c = o.own.body_back in let o : ℕ = 0 in grind (arith, nat_tests, c);
        can_hold = let c = o.own.can_hold in let o : ℕ = 0 in grind (arith, nat_tests, c);
      };
      outside = record {
        outside = let c = o.outside.outside in let o : ℕ = 0 in grind (arith, nat_tests, c);
        may_be = let c = o.outside.may_be in let o : ℕ = 0 in grind (arith, nat_tests, c);
        kinds = let c = o.outside.kinds in let o : ℕ = 0 in grind (arith, nat_tests, c);
        cleared = λ i h1 h2. let c0 = o.own.suited target in let c1 = o.outside.may_be target in let c2 = o.outside.cleared i in
            let o : ℕ = 0 in grind (arith, nat_tests, c0, c1, c2);
        cleared_by = λ i h1 h2. let c0 = o.own.suited target in let c1 = o.outside.may_be target in let c2 = o.outside.cleared_by i in
            let o : ℕ = 0 in grind (arith, nat_tests, c0, c1, c2);
      };
      backs = record {
        ahead = let c = o.backs.ahead in let o : ℕ = 0 in grind (arith, nat_tests, c);
        known_in = let c = o.backs.known_in in let o : ℕ = 0 in grind (arith, nat_tests, c);
        known = let c = o.backs.known in let o : ℕ = 0 in grind (arith, nat_tests, c);
        skip_roll = let c = o.backs.skip_roll in let o : ℕ = 0 in grind (arith, nat_tests, c);
        skip_roll_out = let c = o.backs.skip_roll_out in let o : ℕ = 0 in grind (arith, nat_tests, c);
        skip_back = let c = o.backs.skip_back in let o : ℕ = 0 in grind (arith, nat_tests, c);
        skip_stale = let c = o.backs.skip_stale in let o : ℕ = 0 in grind (arith, nat_tests, c);
        skip_stale_out = let c = o.backs.skip_stale_out in let o : ℕ = 0 in grind (arith, nat_tests, c);
        parting = let c = o.backs.parting in let o : ℕ = 0 in grind (arith, nat_tests, c);
      };
      sees = record {
        none_seen = λ i h1 h2 h3. let c0 = o.sees.none_seen in let o : ℕ = 0 in grind (arith, nat_tests, c0);
        forw_seen = λ i x h1 h2 h3 h4 h5. let c0 = o.sees.forw_seen in let o : ℕ = 0 in grind (arith, nat_tests, c0);
        back_some = λ i h1 h2 hn. let c0 = o.sees.back_some in let o : ℕ = 0 in grind (arith, nat_tests, c0);
        back_ahead = λ i x h1 h2 h3 h4. let c0 = o.sees.back_ahead in let o : ℕ = 0 in grind (arith, nat_tests, c0);
        back_parting = λ i x h1 h2 h3. let c0 = o.sees.back_parting in let o : ℕ = 0 in grind (arith, nat_tests, c0);
        back_seen = λ i h1 h2 h3. let c0 = o.sees.back_seen in let o : ℕ = 0 in grind (arith, nat_tests, c0);
        back_behind = λ i h1 h2 h3. let c0 = o.sees.back_behind in let o : ℕ = 0 in grind (arith, nat_tests, c0);
        back_front = λ i h1 h2 h3. let c0 = o.sees.back_front in let o : ℕ = 0 in grind (arith, nat_tests, c0);
        told_seen = λ i h1 h2. let c0 = o.sees.told_seen in let o : ℕ = 0 in grind (arith, nat_tests, c0);
        told_forw = λ i h1 h2. let c0 = o.sees.told_forw in let o : ℕ = 0 in grind (arith, nat_tests, c0);
        told_some = λ i h1 h2 hn. let c0 = o.sees.told_some in let o : ℕ = 0 in grind (arith, nat_tests, c0);
        told = λ i j h1 h2 h3 hn. let c0 = o.sees.told in let o : ℕ = 0 in grind (arith, nat_tests, c0);
        untold = λ i j m h1 h2 h3 h4. let c0 = o.sees.untold in let o : ℕ = 0 in grind (arith, nat_tests, c0);
        unlinked = λ p x h1 h2 h3 h4. let c0 = o.sees.unlinked in let o : ℕ = 0 in grind (arith, nat_tests, c0);
      };
      words = record {
        victim = let c = o.words.victim in let o : ℕ = 0 in grind (arith, nat_tests, c);
        victim_forw = let c = o.words.victim_forw in let o : ℕ = 0 in grind (arith, nat_tests, c);
        victim_back = let c = o.words.victim_back in let o : ℕ = 0 in grind (arith, nat_tests, c);
        victim_kind = let c = o.words.victim_kind in let o : ℕ = 0 in grind (arith, nat_tests, c);
        victim_held = let c = o.words.victim_held in let o : ℕ = 0 in grind (arith, nat_tests, c);
        copied = λ i x h1 h2. let c0 = o.words.copied i x in let c1 = o.slots.copied_held i target in let o : ℕ = 0 in
            grind (arith, nat_tests, c0, c1);
        copied_forw = let c = o.words.copied_forw in let o : ℕ = 0 in grind (arith, nat_tests, c);
        copied_back = let c = o.words.copied_back in let o : ℕ = 0 in grind (arith, nat_tests, c);
        copied_kind = let c = o.words.copied_kind in let o : ℕ = 0 in grind (arith, nat_tests, c);
        copied_held = let c = o.words.copied_held in let o : ℕ = 0 in grind (arith, nat_tests, c);
        copied_word_back = let c = o.words.copied_word_back in let o : ℕ = 0 in grind (arith, nat_tests, c);
        held_kind = λ i h1. let c0 = o.words.held_kind i in let c1 = o.slots.holding target in let o : ℕ = 0 in
            grind (arith, nat_tests, c0, c1);
        held_forw = let c = o.words.held_forw in let o : ℕ = 0 in grind (arith, nat_tests, c);
        held_back = let c = o.words.held_back in let o : ℕ = 0 in grind (arith, nat_tests, c);
      };
      slots = record {
        memory_out = let c = o.slots.memory_out in let o : ℕ = 0 in grind (arith, nat_tests, c);
        memory_home = let c = o.slots.memory_home in let o : ℕ = 0 in grind (arith, nat_tests, c);
        lends = let c = o.slots.lends in let o : ℕ = 0 in grind (arith, nat_tests, c);
        lends_one = let c = o.slots.lends_one in let o : ℕ = 0 in grind (arith, nat_tests, c);
        borrower_has = let c = o.slots.borrower_has in let o : ℕ = 0 in grind (arith, nat_tests, c);
        fetching = let c = o.slots.fetching in let o : ℕ = 0 in grind (arith, nat_tests, c);
        writing = let c = o.slots.writing in let o : ℕ = 0 in grind (arith, nat_tests, c);
        in_hand = let c = o.slots.in_hand in let o : ℕ = 0 in grind (arith, nat_tests, c);
        at_home = let c = o.slots.at_home in let o : ℕ = 0 in grind (arith, nat_tests, c);
        held_out = let c = o.slots.held_out in let o : ℕ = 0 in grind (arith, nat_tests, c);
        held_by = let c = o.slots.held_by in let o : ℕ = 0 in grind (arith, nat_tests, c);
        held_for = let c = o.slots.held_for in let o : ℕ = 0 in grind (arith, nat_tests, c);
        holding = let c = o.slots.holding in let o : ℕ = 0 in grind (arith, nat_tests, c);
        copied_held = let c = o.slots.copied_held in let o : ℕ = 0 in grind (arith, nat_tests, c);
        copied_idle = let c = o.slots.copied_idle in let o : ℕ = 0 in grind (arith, nat_tests, c);
        copied_by = let c = o.slots.copied_by in let o : ℕ = 0 in grind (arith, nat_tests, c);
      };
      mode = let c = o.mode in let o : ℕ = 0 in grind (arith, nat_tests, c);
      values = let c = o.values in let o : ℕ = 0 in grind (arith, nat_tests, c);
    }

pub purge_one_keeps_links : (n : ℕ) (s : State) (b : Below n (shape s)) (me : ℕ) (me_below : me < n) (target : ℕ) (line : Line)
    → (pending : s.steps me ≡ Pending.Purging line (Some (Some target)))
    → Below n (shape (after_purge_one s me target line))
purge_one_keeps_links n s b me me_below target line pending =
    let pending : StepFields (s.steps me) (Pending.Purging line (Some (Some target))) = step_fields pending in
    grind (arith, nat_tests, b.head, b.forw, b.back, b.kept, b.word_forw, b.seen_forw, b.seen_back)
