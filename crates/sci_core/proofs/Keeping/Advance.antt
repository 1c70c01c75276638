use Rattle.std.proofs.Common.{◌≡◌, ℕ, ◌<◌, Some, None, arith}
use Rattle.std.proofs.lemmas.Bool.Decides.{nat_tests}
use Rattle.sci_words.specs.declared.tags.Kind.{Kind}
use Rattle.sci_words.specs.declared.tags.Tag.{Tag}
use Rattle.sci_core.specs.declared.lines.Line.{Line}
use Rattle.sci_core.specs.declared.pending.Pending.{Pending}
use Rattle.sci_core.specs.State.{State, update, word}
use Rattle.sci_core.specs.Shape.{shape}
use Rattle.sci_core.specs.Law.{Witness, Law, Below}
use Rattle.sci_core.proofs.Fields.{StepFields, TagFields, step_fields, tag_fields}

-- The node takes the forward link of the entry that it purged, which is outside then.
abbrev pub after_advance : State → ℕ → ℕ → Line → Tag → State
after_advance s me target line kept = record s {
  tags = update s.tags me (word Kind.Purging kept.forw None);
  steps = update s.steps me (Pending.Clearing line target kept);
}

pub advance_keeps_law : (s : State) (g : Witness) (o : Law (shape s) g) (me : ℕ) (target : ℕ) (line : Line) (kept : Tag)
    → (pending : s.steps me ≡ Pending.Advancing line target kept)
    → (me_word : s.tags me ≡ word Kind.Purging (Some target) None)
    → Law (shape (after_advance s me target line kept)) (record g { rank = update g.rank target 0; clearer = update g.clearer target me })
advance_keeps_law s g o me target line kept pending me_word =
    let pending : StepFields (s.steps me) (Pending.Advancing line target kept) = step_fields pending in
    let me_word : TagFields (s.tags me) (word Kind.Purging (Some target) None) = tag_fields me_word in
    let me_in : 0 < g.rank me = grind (arith, o.outside.may_be me) in
    let target_forw : kept.forw ≡ (s.tags target).forw = grind (arith, o.words.victim_forw me target) in
    let target_in : 0 < g.rank target = o.order.next_in me target me_in me_word.forw in
    let victim_kind : (s.tags target).kind ≡ Kind.Purged = grind (arith, o.words.victim me target) in
    record {
      order = let c = o.order in let o : ℕ = 0 in grind (arith, nat_tests, c);
      fronts = let c = o.fronts in let o : ℕ = 0 in grind (arith, nat_tests, c);
      own = let c = o.own in let o : ℕ = 0 in grind (arith, nat_tests, c);
      outside = record {
        outside = let c = o.outside.outside in let o : ℕ = 0 in grind (arith, nat_tests, c);
        may_be = λ i h1. let c0 = o.words.victim me target in let c1 = o.own.suited i in let c2 = o.outside.may_be i in let o : ℕ = 0 in
            grind (arith, nat_tests, c0, c1, c2);
        kinds = let c = o.outside.kinds in let o : ℕ = 0 in grind (arith, nat_tests, c);
        cleared = let c = o.outside.cleared in let o : ℕ = 0 in grind (arith, nat_tests, c);
        cleared_by = let c = o.outside.cleared_by in let o : ℕ = 0 in grind (arith, nat_tests, c);
      };
      backs = record {
        ahead = let c = o.backs.ahead in let o : ℕ = 0 in grind (arith, nat_tests, c);
        known_in = λ i j h1 h2 h3. let c0 = o.own.suited me in let c1 = o.outside.may_be me in let c2 = o.order.apart g.last_front me in
            let c3 = o.fronts.queue me in let c4 = o.fronts.body me in let o : ℕ = 0 in grind (arith, nat_tests, c0, c1, c2, c3, c4);
        known = λ i j h1 h2 h3. let c0 = o.own.suited me in let c1 = o.outside.may_be me in let c2 = o.order.apart g.last_front me in
            let c3 = o.fronts.queue me in let c4 = o.fronts.body me in let o : ℕ = 0 in grind (arith, nat_tests, c0, c1, c2, c3, c4);
        skip_roll = let c = o.backs.skip_roll in let o : ℕ = 0 in grind (arith, nat_tests, c);
        skip_roll_out = λ i j m h1 h2 h3 h4 h5. let c0 = o.words.victim me target in let c1 = o.own.suited me in
            let c2 = o.own.as_kept me in let c3 = o.outside.may_be me in let c4 = o.order.next_first me target i in
            let c5 = o.order.next_first me j m in let c6 = o.order.next_below g.last_front target in let c7 = o.order.apart j m in
            let c8 = o.order.apart i target in let c9 = o.fronts.purged_next target in let c10 = o.fronts.body me in
            let c11 = o.backs.skip_roll_out i j target in let c12 = o.backs.skip_roll i j m in let o : ℕ = 0 in
            grind (arith, nat_tests, c0, c1, c2, c3, c4, c5, c6, c7, c8, c9, c10, c11, c12);
        skip_back = let c = o.backs.skip_back in let o : ℕ = 0 in grind (arith, nat_tests, c);
        skip_stale = let c = o.backs.skip_stale in let o : ℕ = 0 in grind (arith, nat_tests, c);
        skip_stale_out = λ i j m h1 h2 h3 h4 h5 h6. let c0 = o.words.victim me target in let c1 = o.own.suited me in
            let c2 = o.own.as_kept me in let c3 = o.order.next_first g.last_front j m in let c4 = o.order.apart target m in
            let c5 = o.fronts.purged_next j in let c6 = o.fronts.body me in let c7 = o.backs.skip_stale_out i j m in
            let c8 = o.backs.skip_stale i j m in let o : ℕ = 0 in grind (arith, nat_tests, c0, c1, c2, c3, c4, c5, c6, c7, c8);
        parting = let c = o.backs.parting in let o : ℕ = 0 in grind (arith, nat_tests, c);
      };
      sees = record {
        none_seen = let c = o.sees.none_seen in let o : ℕ = 0 in grind (arith, nat_tests, c);
        forw_seen = let c = o.sees.forw_seen in let o : ℕ = 0 in grind (arith, nat_tests, c);
        back_some = let c = o.sees.back_some in let o : ℕ = 0 in grind (arith, nat_tests, c);
        back_ahead = let c = o.sees.back_ahead in let o : ℕ = 0 in grind (arith, nat_tests, c);
        back_parting = let c = o.sees.back_parting in let o : ℕ = 0 in grind (arith, nat_tests, c);
        back_seen = let c = o.sees.back_seen in let o : ℕ = 0 in grind (arith, nat_tests, c);
        back_behind = λ i h1 h2 h3. let c0 = o.words.victim me target in let c1 = o.sees.back_behind i in let c2 = o.own.suited target in
            let c3 = o.own.as_kept me in let o : ℕ = 0 in grind (arith, nat_tests, c0, c1, c2, c3);
        back_front = let c = o.sees.back_front in let o : ℕ = 0 in grind (arith, nat_tests, c);
        told_seen = let c = o.sees.told_seen in let o : ℕ = 0 in grind (arith, nat_tests, c);
        told_forw = let c = o.sees.told_forw in let o : ℕ = 0 in grind (arith, nat_tests, c);
        told_some = let c = o.sees.told_some in let o : ℕ = 0 in grind (arith, nat_tests, c);
        told = let c = o.sees.told in let o : ℕ = 0 in grind (arith, nat_tests, c);
        untold = λ i j m h1 h2 h3 h4. let c0 = o.sees.untold in let o : ℕ = 0 in grind (arith, nat_tests, c0);
        unlinked = let c = o.sees.unlinked in let o : ℕ = 0 in grind (arith, nat_tests, c);
      };
      words = let c = o.words in let o : ℕ = 0 in grind (arith, nat_tests, c);
      slots = record {
        memory_out = let c = o.slots.memory_out in let o : ℕ = 0 in grind (arith, nat_tests, c);
        memory_home = let c = o.slots.memory_home in let o : ℕ = 0 in grind (arith, nat_tests, c);
        lends = let c = o.slots.lends in let o : ℕ = 0 in grind (arith, nat_tests, c);
        lends_one = let c = o.slots.lends_one in let o : ℕ = 0 in grind (arith, nat_tests, c);
        borrower_has = let c = o.slots.borrower_has in let o : ℕ = 0 in grind (arith, nat_tests, c);
        fetching = let c = o.slots.fetching in let o : ℕ = 0 in grind (arith, nat_tests, c);
        writing = let c = o.slots.writing in let o : ℕ = 0 in grind (arith, nat_tests, c);
        in_hand = let c = o.slots.in_hand in let o : ℕ = 0 in grind (arith, nat_tests, c);
        at_home = let c = o.slots.at_home in let o : ℕ = 0 in grind (arith, nat_tests, c);
        held_out = let c = o.slots.held_out in let o : ℕ = 0 in grind (arith, nat_tests, c);
        held_by = let c = o.slots.held_by in let o : ℕ = 0 in grind (arith, nat_tests, c);
        held_for = let c = o.slots.held_for in let o : ℕ = 0 in grind (arith, nat_tests, c);
        holding = let c = o.slots.holding in let o : ℕ = 0 in grind (arith, nat_tests, c);
        copied_held = let c = o.slots.copied_held in let o : ℕ = 0 in grind (arith, nat_tests, c);
        copied_idle = let c = o.slots.copied_idle in let o : ℕ = 0 in grind (arith, nat_tests, c);
        copied_by = let c = o.slots.copied_by in let o : ℕ = 0 in grind (arith, nat_tests, c);
      };
      mode = let c = o.mode in let o : ℕ = 0 in grind (arith, nat_tests, c);
      values = let c = o.values in let o : ℕ = 0 in grind (arith, nat_tests, c);
    }

pub advance_keeps_links : (n : ℕ) (s : State) (b : Below n (shape s)) (me : ℕ) (me_below : me < n) (target : ℕ) (line : Line) (kept : Tag)
    → (pending : s.steps me ≡ Pending.Advancing line target kept)
    → (me_word : s.tags me ≡ word Kind.Purging (Some target) None)
    → Below n (shape (after_advance s me target line kept))
advance_keeps_links n s b me me_below target line kept pending me_word =
    let pending : StepFields (s.steps me) (Pending.Advancing line target kept) = step_fields pending in
    let me_word : TagFields (s.tags me) (word Kind.Purging (Some target) None) = tag_fields me_word in
    grind (arith, nat_tests, b.head, b.forw, b.back, b.kept, b.word_forw, b.seen_forw, b.seen_back)
