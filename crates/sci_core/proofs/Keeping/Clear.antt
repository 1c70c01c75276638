use Rattle.std.proofs.Common.{◌≡◌, ℕ, ◌<◌, None, arith}
use Rattle.std.proofs.lemmas.Bool.Decides.{nat_tests}
use Rattle.sci_words.specs.declared.tags.Kind.{Kind}
use Rattle.sci_words.specs.declared.tags.Tag.{Tag}
use Rattle.sci_core.specs.declared.lines.Line.{Line}
use Rattle.sci_core.specs.declared.pending.Pending.{Pending}
use Rattle.sci_core.specs.State.{State, update, word, invalid}
use Rattle.sci_core.specs.Shape.{shape}
use Rattle.sci_core.specs.Law.{Witness, Law, Below}
use Rattle.sci_core.proofs.Fields.{StepFields, TagFields, step_fields, tag_fields}

-- The entry that the node purged becomes Invalid.
abbrev pub after_clear : State → ℕ → ℕ → Line → Tag → State
after_clear s me target line kept = record s {
  tags = update s.tags target invalid;
  steps = update s.steps me (Pending.Purging line None);
}

pub clear_keeps_law : (s : State) (g : Witness) (o : Law (shape s) g) (me : ℕ) (target : ℕ) (line : Line) (kept : Tag)
    → (pending : s.steps me ≡ Pending.Clearing line target kept)
    → (target_word : s.tags target ≡ word Kind.Purged kept.forw kept.back)
    → Law (shape (after_clear s me target line kept)) g
clear_keeps_law s g o me target line kept pending target_word =
    let pending : StepFields (s.steps me) (Pending.Clearing line target kept) = step_fields pending in
    let target_word : TagFields (s.tags target) (word Kind.Purged kept.forw kept.back) = tag_fields target_word in
    let me_in : 0 < g.rank me = grind (arith, o.outside.may_be me) in
    let me_kind : (s.tags me).kind ≡ Kind.Purging = grind (arith, o.own.suited me) in
    let victim_kind : (s.tags target).kind ≡ Kind.Purged = grind (arith, o.words.victim me target) in
    record {
      order = record {
        empty = let c = o.order.empty in let o : ℕ = 0 in grind (arith, nat_tests, c);
        head_in = let c = o.order.head_in in let o : ℕ = 0 in grind (arith, nat_tests, c);
        head_top = let c = o.order.head_top in let o : ℕ = 0 in grind (arith, nat_tests, c);
        apart = let c = o.order.apart in let o : ℕ = 0 in grind (arith, nat_tests, c);
        next_in = let c = o.order.next_in in let o : ℕ = 0 in grind (arith, nat_tests, c);
        next_below = let c = o.order.next_below in let o : ℕ = 0 in grind (arith, nat_tests, c);
        next_first = let c = o.order.next_first in let o : ℕ = 0 in grind (arith, nat_tests, c);
        last = λ i m h1 h2 h3. let c0 = o.words.victim me target in let c1 = o.own.suited me in let c2 = o.outside.may_be me in
            let c3 = o.order.last i m in let c4 = o.order.apart g.last_front me in let c5 = o.fronts.queue me in
            let c6 = o.fronts.purged i in let c7 = o.fronts.body me in let o : ℕ = 0 in
            grind (arith, nat_tests, c0, c1, c2, c3, c4, c5, c6, c7);
      };
      fronts = record {
        last_front_in = let c = o.fronts.last_front_in in let o : ℕ = 0 in grind (arith, nat_tests, c);
        front = let c = o.fronts.front in let o : ℕ = 0 in grind (arith, nat_tests, c);
        body = λ i h1 h2. let c0 = o.words.victim me i in let c1 = o.own.suited me in let c2 = o.outside.may_be me in
            let c3 = o.order.apart g.last_front me in let c4 = o.fronts.queue me in let c5 = o.fronts.purged i in
            let c6 = o.fronts.body me in let c7 = o.fronts.body i in let o : ℕ = 0 in
            grind (arith, nat_tests, c0, c1, c2, c3, c4, c5, c6, c7);
        queue = let c = o.fronts.queue in let o : ℕ = 0 in grind (arith, nat_tests, c);
        attached = let c = o.fronts.attached in let o : ℕ = 0 in grind (arith, nat_tests, c);
        leaves = let c = o.fronts.leaves in let o : ℕ = 0 in grind (arith, nat_tests, c);
        purged = let c = o.fronts.purged in let o : ℕ = 0 in grind (arith, nat_tests, c);
        purged_next = λ i h1 h2. let c0 = o.words.victim me g.last_front in let c1 = o.fronts.purged_next g.last_front in
            let c2 = o.fronts.purged_next i in let c3 = o.fronts.last_front_in i in let o : ℕ = 0 in
            grind (arith, nat_tests, c0, c1, c2, c3);
      };
      own = let c = o.own in let o : ℕ = 0 in grind (arith, nat_tests, c);
      outside = record {
        outside = let c = o.outside.outside in let o : ℕ = 0 in grind (arith, nat_tests, c);
        may_be = let c = o.outside.may_be in let o : ℕ = 0 in grind (arith, nat_tests, c);
        kinds = λ i h1 hn. let c0 = o.words.victim me target in let c1 = o.own.suited me in let c2 = o.outside.may_be me in
            let c3 = o.outside.kinds i in let c4 = o.order.apart g.last_front me in let c5 = o.fronts.queue me in
            let c6 = o.fronts.purged i in let c7 = o.fronts.body me in let o : ℕ = 0 in
            grind (arith, nat_tests, c0, c1, c2, c3, c4, c5, c6, c7);
        cleared = λ i h1 h2. let c0 = o.outside.cleared_by i in let c1 = o.outside.cleared i in let o : ℕ = 0 in
            grind (arith, nat_tests, c0, c1);
        cleared_by = let c = o.outside.cleared_by in let o : ℕ = 0 in grind (arith, nat_tests, c);
      };
      backs = record {
        ahead = let c = o.backs.ahead in let o : ℕ = 0 in grind (arith, nat_tests, c);
        known_in = let c = o.backs.known_in in let o : ℕ = 0 in grind (arith, nat_tests, c);
        known = let c = o.backs.known in let o : ℕ = 0 in grind (arith, nat_tests, c);
        skip_roll = let c = o.backs.skip_roll in let o : ℕ = 0 in grind (arith, nat_tests, c);
        skip_roll_out = let c = o.backs.skip_roll_out in let o : ℕ = 0 in grind (arith, nat_tests, c);
        skip_back = λ i j m h1 h2 h3 h4 h5 h6. let c0 = o.words.victim me target in let c1 = o.backs.skip_roll i j m in
            let c2 = o.backs.skip_back i j m in let o : ℕ = 0 in grind (arith, nat_tests, c0, c1, c2);
        skip_stale = λ i j m h1 h2 h3 h4 h5 h6. let c0 = o.words.victim me g.last_front in let c1 = o.words.victim me m in
            let c2 = o.fronts.purged_next g.last_front in let c3 = o.fronts.purged_next m in let c4 = o.backs.skip_stale i j m in
            let o : ℕ = 0 in grind (arith, nat_tests, c0, c1, c2, c3, c4);
        skip_stale_out = λ i j m h1 h2 h3 h4 h5 h6. let c0 = o.words.victim me g.last_front in let c1 = o.words.victim me m in
            let c2 = o.fronts.purged_next g.last_front in let c3 = o.fronts.purged_next m in let c4 = o.backs.skip_stale_out i j m in
            let o : ℕ = 0 in grind (arith, nat_tests, c0, c1, c2, c3, c4);
        parting = let c = o.backs.parting in let o : ℕ = 0 in grind (arith, nat_tests, c);
      };
      sees = record {
        none_seen = let c = o.sees.none_seen in let o : ℕ = 0 in grind (arith, nat_tests, c);
        forw_seen = λ i x h1 h2 h3 h4 h5. let c0 = o.words.victim me target in let c1 = o.sees.forw_seen i x in let c2 = o.own.suited me in
            let c3 = o.outside.may_be me in let c4 = o.order.apart g.last_front me in let c5 = o.fronts.queue me in
            let c6 = o.fronts.purged i in let c7 = o.fronts.body me in let o : ℕ = 0 in
            grind (arith, nat_tests, c0, c1, c2, c3, c4, c5, c6, c7);
        back_some = let c = o.sees.back_some in let o : ℕ = 0 in grind (arith, nat_tests, c);
        back_ahead = let c = o.sees.back_ahead in let o : ℕ = 0 in grind (arith, nat_tests, c);
        back_parting = let c = o.sees.back_parting in let o : ℕ = 0 in grind (arith, nat_tests, c);
        back_seen = λ i h1 h2 h3. let c0 = o.words.victim me g.last_front in let c1 = o.own.suited me in let c2 = o.outside.may_be me in
            let c3 = o.order.apart g.last_front me in let c4 = o.fronts.queue me in let c5 = o.fronts.body me in let o : ℕ = 0 in
            grind (arith, nat_tests, c0, c1, c2, c3, c4, c5);
        back_behind = λ i h1 h2 h3. let c0 = o.words.victim me target in let c1 = o.sees.back_behind i in let c2 = o.outside.may_be me in
            let c3 = o.outside.may_be i in let c4 = o.order.next_below g.last_front g.last_front in
            let c5 = o.fronts.purged_next g.last_front in let c6 = o.fronts.purged_next i in let c7 = o.fronts.last_front_in me in
            let o : ℕ = 0 in grind (arith, nat_tests, c0, c1, c2, c3, c4, c5, c6, c7);
        back_front = λ i h1 h2 h3. let c0 = o.words.victim me target in let c1 = o.sees.back_front i in let c2 = o.own.suited i in
            let o : ℕ = 0 in grind (arith, nat_tests, c0, c1, c2);
        told_seen = let c = o.sees.told_seen in let o : ℕ = 0 in grind (arith, nat_tests, c);
        told_forw = λ i h1 h2. let c0 = o.words.victim me target in let c1 = o.sees.told_forw i in let c2 = o.own.suited i in
            let o : ℕ = 0 in grind (arith, nat_tests, c0, c1, c2);
        told_some = λ i h1 h2 hn. let c0 = o.words.victim me target in let c1 = o.sees.told_some i in let c2 = o.own.suited i in
            let o : ℕ = 0 in grind (arith, nat_tests, c0, c1, c2);
        told = let c = o.sees.told in let o : ℕ = 0 in grind (arith, nat_tests, c);
        untold = λ i j m h1 h2 h3 h4. let c0 = o.sees.untold in let o : ℕ = 0 in grind (arith, nat_tests, c0);
        unlinked = λ p x h1 h2 h3 h4. let c0 = o.own.suited me in let c1 = o.own.suited p in let c2 = o.outside.may_be me in
            let c3 = o.outside.may_be p in let c4 = o.order.apart me p in let c5 = o.fronts.queue me in let c6 = o.fronts.queue p in
            let c7 = o.fronts.body me in let c8 = o.fronts.body p in let o : ℕ = 0 in
            grind (arith, nat_tests, c0, c1, c2, c3, c4, c5, c6, c7, c8);
      };
      words = record {
        victim = λ i x h1 h2. let c0 = o.own.suited me in let c1 = o.own.suited i in let c2 = o.outside.may_be me in
            let c3 = o.outside.may_be i in let c4 = o.order.apart g.last_front me in let c5 = o.order.apart g.last_front i in
            let c6 = o.fronts.queue me in let c7 = o.fronts.queue i in let c8 = o.fronts.body me in let c9 = o.fronts.body i in
            let o : ℕ = 0 in grind (arith, nat_tests, c0, c1, c2, c3, c4, c5, c6, c7, c8, c9);
        victim_forw = λ i x h1 h2. let c0 = o.own.suited me in let c1 = o.own.suited i in let c2 = o.outside.may_be me in
            let c3 = o.outside.may_be i in let c4 = o.order.apart g.last_front me in let c5 = o.order.apart g.last_front i in
            let c6 = o.fronts.queue me in let c7 = o.fronts.queue i in let c8 = o.fronts.body me in let c9 = o.fronts.body i in
            let o : ℕ = 0 in grind (arith, nat_tests, c0, c1, c2, c3, c4, c5, c6, c7, c8, c9);
        victim_back = λ i x h1 h2. let c0 = o.own.suited me in let c1 = o.own.suited i in let c2 = o.outside.may_be me in
            let c3 = o.outside.may_be i in let c4 = o.order.apart g.last_front me in let c5 = o.order.apart g.last_front i in
            let c6 = o.fronts.queue me in let c7 = o.fronts.queue i in let c8 = o.fronts.body me in let c9 = o.fronts.body i in
            let o : ℕ = 0 in grind (arith, nat_tests, c0, c1, c2, c3, c4, c5, c6, c7, c8, c9);
        victim_kind = let c = o.words.victim_kind in let o : ℕ = 0 in grind (arith, nat_tests, c);
        victim_held = let c = o.words.victim_held in let o : ℕ = 0 in grind (arith, nat_tests, c);
        copied = let c = o.words.copied in let o : ℕ = 0 in grind (arith, nat_tests, c);
        copied_forw = λ i x h1 h2. let c0 = o.words.copied_forw i x in let c1 = o.slots.copied_held i target in let o : ℕ = 0 in
            grind (arith, nat_tests, c0, c1);
        copied_back = λ i x h1 h2. let c0 = o.words.copied_back i x in let c1 = o.slots.copied_held i target in let o : ℕ = 0 in
            grind (arith, nat_tests, c0, c1);
        copied_kind = let c = o.words.copied_kind in let o : ℕ = 0 in grind (arith, nat_tests, c);
        copied_held = let c = o.words.copied_held in let o : ℕ = 0 in grind (arith, nat_tests, c);
        copied_word_back = let c = o.words.copied_word_back in let o : ℕ = 0 in grind (arith, nat_tests, c);
        held_kind = λ i h1. let c0 = o.words.held_kind i in let c1 = o.own.suited target in let o : ℕ = 0 in
            grind (arith, nat_tests, c0, c1);
        held_forw = λ i h1. let c0 = o.words.held_forw i in let c1 = o.own.suited target in let o : ℕ = 0 in
            grind (arith, nat_tests, c0, c1);
        held_back = λ i h1. let c0 = o.words.held_back i in let c1 = o.own.suited target in let o : ℕ = 0 in
            grind (arith, nat_tests, c0, c1);
      };
      slots = record {
        memory_out = let c = o.slots.memory_out in let o : ℕ = 0 in grind (arith, nat_tests, c);
        memory_home = let c = o.slots.memory_home in let o : ℕ = 0 in grind (arith, nat_tests, c);
        lends = let c = o.slots.lends in let o : ℕ = 0 in grind (arith, nat_tests, c);
        lends_one = let c = o.slots.lends_one in let o : ℕ = 0 in grind (arith, nat_tests, c);
        borrower_has = let c = o.slots.borrower_has in let o : ℕ = 0 in grind (arith, nat_tests, c);
        fetching = let c = o.slots.fetching in let o : ℕ = 0 in grind (arith, nat_tests, c);
        writing = let c = o.slots.writing in let o : ℕ = 0 in grind (arith, nat_tests, c);
        in_hand = let c = o.slots.in_hand in let o : ℕ = 0 in grind (arith, nat_tests, c);
        at_home = let c = o.slots.at_home in let o : ℕ = 0 in grind (arith, nat_tests, c);
        held_out = let c = o.slots.held_out in let o : ℕ = 0 in grind (arith, nat_tests, c);
        held_by = let c = o.slots.held_by in let o : ℕ = 0 in grind (arith, nat_tests, c);
        held_for = let c = o.slots.held_for in let o : ℕ = 0 in grind (arith, nat_tests, c);
        holding = let c = o.slots.holding in let o : ℕ = 0 in grind (arith, nat_tests, c);
        copied_held = let c = o.slots.copied_held in let o : ℕ = 0 in grind (arith, nat_tests, c);
        copied_idle = let c = o.slots.copied_idle in let o : ℕ = 0 in grind (arith, nat_tests, c);
        copied_by = let c = o.slots.copied_by in let o : ℕ = 0 in grind (arith, nat_tests, c);
      };
      mode = let c = o.mode in let o : ℕ = 0 in grind (arith, nat_tests, c);
      values = let c = o.values in let o : ℕ = 0 in grind (arith, nat_tests, c);
    }

pub clear_keeps_links : (n : ℕ) (s : State) (b : Below n (shape s)) (me : ℕ) (me_below : me < n) (target : ℕ) (line : Line) (kept : Tag)
    → (pending : s.steps me ≡ Pending.Clearing line target kept)
    → (target_word : s.tags target ≡ word Kind.Purged kept.forw kept.back)
    → Below n (shape (after_clear s me target line kept))
clear_keeps_links n s b me me_below target line kept pending target_word =
    let pending : StepFields (s.steps me) (Pending.Clearing line target kept) = step_fields pending in
    let target_word : TagFields (s.tags target) (word Kind.Purged kept.forw kept.back) = tag_fields target_word in
    grind (arith, nat_tests, b.head, b.forw, b.back, b.kept, b.word_forw, b.seen_forw, b.seen_back)
