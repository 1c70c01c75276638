use Rattle.std.proofs.Common.{◌≡◌, ℕ, ◌<◌, Bool, Option, Some, None, arith}
use Rattle.std.proofs.lemmas.Bool.Decides.{nat_tests}
use Rattle.sci_words.specs.declared.tags.Kind.{Kind}
use Rattle.sci_core.specs.declared.lines.Line.{Line}
use Rattle.sci_core.specs.declared.pending.Pending.{Pending}
use Rattle.sci_core.specs.State.{State, update, unlent_word}
use Rattle.sci_core.specs.Shape.{shape}
use Rattle.sci_core.specs.Law.{Witness, Law, Below}
use Rattle.sci_core.proofs.Fields.{StepFields, step_fields}

-- The node has copied memory's line, and gives memory's slot back.
abbrev pub after_return_memory_fetching : State → ℕ → Option ℕ → Bool → Line → State
after_return_memory_fetching s me forw dirty line = record s {
  memory = unlent_word s.memory;
  steps = update s.steps me (Pending.InQueue forw dirty (Some line));
  memory_slot = (Some line);
}

pub return_memory_fetching_keeps_law : (s : State) (g : Witness) (o : Law (shape s) g) (me : ℕ) (forw : Option ℕ) (dirty : Bool)
    (line : Line)
    → (pending : s.steps me ≡ Pending.Fetching forw dirty line)
    → Law (shape (after_return_memory_fetching s me forw dirty line)) g
return_memory_fetching_keeps_law s g o me forw dirty line pending =
    let pending : StepFields (s.steps me) (Pending.Fetching forw dirty line) = step_fields pending in
    let me_kind : (s.tags me).kind ≡ Kind.Queued = grind (arith, o.own.suited me) in
    record {
      order = let c = o.order in let o : ℕ = 0 in grind (arith, nat_tests, c);
      fronts = let c = o.fronts in let o : ℕ = 0 in grind (arith, nat_tests, c);
      own = let c = o.own in let o : ℕ = 0 in grind (arith, nat_tests, c);
      outside = let c = o.outside in let o : ℕ = 0 in grind (arith, nat_tests, c);
      backs = let c = o.backs in let o : ℕ = 0 in grind (arith, nat_tests, c);
      sees = let c = o.sees in let o : ℕ = 0 in grind (arith, nat_tests, c);
      words = let c = o.words in let o : ℕ = 0 in grind (arith, nat_tests, c);
      slots = record {
        memory_out = let c = o.slots.memory_out in let o : ℕ = 0 in grind (arith, nat_tests, c);
        memory_home = let c = o.slots.memory_home in let o : ℕ = 0 in grind (arith, nat_tests, c);
        lends = λ i h1. let c0 = o.slots.lends_one me in let c1 = o.slots.lends_one i in let o : ℕ = 0 in grind (arith, nat_tests, c0, c1);
        lends_one = let c = o.slots.lends_one in let o : ℕ = 0 in grind (arith, nat_tests, c);
        borrower_has = let c = o.slots.borrower_has in let o : ℕ = 0 in grind (arith, nat_tests, c);
        fetching = let c = o.slots.fetching in let o : ℕ = 0 in grind (arith, nat_tests, c);
        writing = let c = o.slots.writing in let o : ℕ = 0 in grind (arith, nat_tests, c);
        in_hand = let c = o.slots.in_hand in let o : ℕ = 0 in grind (arith, nat_tests, c);
        at_home = let c = o.slots.at_home in let o : ℕ = 0 in grind (arith, nat_tests, c);
        held_out = let c = o.slots.held_out in let o : ℕ = 0 in grind (arith, nat_tests, c);
        held_by = let c = o.slots.held_by in let o : ℕ = 0 in grind (arith, nat_tests, c);
        held_for = let c = o.slots.held_for in let o : ℕ = 0 in grind (arith, nat_tests, c);
        holding = let c = o.slots.holding in let o : ℕ = 0 in grind (arith, nat_tests, c);
        copied_held = let c = o.slots.copied_held in let o : ℕ = 0 in grind (arith, nat_tests, c);
        copied_idle = let c = o.slots.copied_idle in let o : ℕ = 0 in grind (arith, nat_tests, c);
        copied_by = let c = o.slots.copied_by in let o : ℕ = 0 in grind (arith, nat_tests, c);
      };
      mode = record {
        home = λ h1. let c0 = o.mode.home in let o : ℕ = 0 in grind (arith, nat_tests, c0);
        not_home = λ h1. let c0 = o.mode.not_home in let o : ℕ = 0 in grind (arith, nat_tests, c0);
        not_dirty = λ i h1 h2 hn. let c0 = o.mode.not_dirty in let o : ℕ = 0 in grind (arith, nat_tests, c0);
        not_purging = λ i h1 h2 hn. let c0 = o.mode.not_purging in let o : ℕ = 0 in grind (arith, nat_tests, c0);
        not_copying = λ i h1 h2 hn. let c0 = o.mode.not_copying in let o : ℕ = 0 in grind (arith, nat_tests, c0);
        not_flagged = λ i h1 h2 h3. let c0 = o.mode.not_flagged in let o : ℕ = 0 in grind (arith, nat_tests, c0);
        has_copy = λ i h1 h2 h3. let c0 = o.mode.has_copy in let o : ℕ = 0 in grind (arith, nat_tests, c0);
        has_value = λ i h1 h2 h3. let c0 = o.mode.has_value in let o : ℕ = 0 in grind (arith, nat_tests, c0);
        gone = λ h1. let c0 = o.mode.gone in let o : ℕ = 0 in grind (arith, nat_tests, c0);
        gone_flag = λ i h1 h2. let c0 = o.mode.gone_flag in let o : ℕ = 0 in grind (arith, nat_tests, c0);
        gone_queue = λ i h1 h2 h3. let c0 = o.mode.gone_queue in let o : ℕ = 0 in grind (arith, nat_tests, c0);
        gone_copy = λ i h1 h2 h3. let c0 = o.slots.fetching me in let c1 = o.order.head_top me g.last_front in
            let c2 = o.order.head_top g.last_front i in let c3 = o.order.apart g.last_front me in let c4 = o.mode.gone_queue me in
            let c5 = o.fronts.last_front_in i in let o : ℕ = 0 in grind (arith, nat_tests, c0, c1, c2, c3, c4, c5);
        last_copy = λ i h1 h2. let c0 = o.mode.last_copy in let o : ℕ = 0 in grind (arith, nat_tests, c0);
        last_value = λ i h1 h2. let c0 = o.values.lent_line me in let c1 = o.mode.last_value i in let o : ℕ = 0 in
            grind (arith, nat_tests, c0, c1);
      };
      values = let c = o.values in let o : ℕ = 0 in grind (arith, nat_tests, c);
    }

pub return_memory_fetching_keeps_links : (n : ℕ) (s : State) (b : Below n (shape s)) (me : ℕ) (me_below : me < n) (forw : Option ℕ)
    (dirty : Bool) (line : Line)
    → (pending : s.steps me ≡ Pending.Fetching forw dirty line)
    → Below n (shape (after_return_memory_fetching s me forw dirty line))
return_memory_fetching_keeps_links n s b me me_below forw dirty line pending =
    let pending : StepFields (s.steps me) (Pending.Fetching forw dirty line) = step_fields pending in
    grind (arith, nat_tests, b.head, b.forw, b.back, b.kept, b.word_forw, b.seen_forw, b.seen_back)

-- The node has written its line back, gives memory's slot back, and is to leave.
abbrev pub after_return_memory_writing_back : State → ℕ → Line → State
after_return_memory_writing_back s me line = record s {
  memory = unlent_word s.memory;
  steps = update s.steps me (Pending.Parted None);
  memory_slot = (Some line);
}

pub return_memory_writing_back_keeps_law : (s : State) (g : Witness) (o : Law (shape s) g) (me : ℕ) (line : Line)
    → (pending : s.steps me ≡ Pending.WritingBack line)
    → Law (shape (after_return_memory_writing_back s me line)) g
return_memory_writing_back_keeps_law s g o me line pending =
    let pending : StepFields (s.steps me) (Pending.WritingBack line) = step_fields pending in
    let me_kind : (s.tags me).kind ≡ Kind.Leaving = grind (arith, o.own.suited me) in
    let me_out : g.rank me ≡ 0 = grind (arith, o.outside.outside me) in
    record {
      order = let c = o.order in let o : ℕ = 0 in grind (arith, nat_tests, c);
      fronts = let c = o.fronts in let o : ℕ = 0 in grind (arith, nat_tests, c);
      own = let c = o.own in let o : ℕ = 0 in grind (arith, nat_tests, c);
      outside = let c = o.outside in let o : ℕ = 0 in grind (arith, nat_tests, c);
      backs = record {
        ahead = let c = o.backs.ahead in let o : ℕ = 0 in grind (arith, nat_tests, c);
        known_in = let c = o.backs.known_in in let o : ℕ = 0 in grind (arith, nat_tests, c);
        known = let c = o.backs.known in let o : ℕ = 0 in grind (arith, nat_tests, c);
        skip_roll = let c = o.backs.skip_roll in let o : ℕ = 0 in grind (arith, nat_tests, c);
        skip_roll_out = let c = o.backs.skip_roll_out in let o : ℕ = 0 in grind (arith, nat_tests, c);
        skip_back = let c = o.backs.skip_back in let o : ℕ = 0 in grind (arith, nat_tests, c);
        skip_stale = let c = o.backs.skip_stale in let o : ℕ = 0 in grind (arith, nat_tests, c);
        skip_stale_out = let c = o.backs.skip_stale_out in let o : ℕ = 0 in grind (arith, nat_tests, c);
        parting = λ i j h1 h2. let c0 = o.slots.writing me in let c1 = o.order.empty i in let c2 = o.mode.home in let o : ℕ = 0 in
            grind (arith, nat_tests, c0, c1, c2);
      };
      sees = record {
        none_seen = let c = o.sees.none_seen in let o : ℕ = 0 in grind (arith, nat_tests, c);
        forw_seen = let c = o.sees.forw_seen in let o : ℕ = 0 in grind (arith, nat_tests, c);
        back_some = let c = o.sees.back_some in let o : ℕ = 0 in grind (arith, nat_tests, c);
        back_ahead = let c = o.sees.back_ahead in let o : ℕ = 0 in grind (arith, nat_tests, c);
        back_parting = λ i x h1 h2 h3. let c0 = o.sees.back_parting i x in let o : ℕ = 0 in grind (arith, nat_tests, c0);
        back_seen = let c = o.sees.back_seen in let o : ℕ = 0 in grind (arith, nat_tests, c);
        back_behind = let c = o.sees.back_behind in let o : ℕ = 0 in grind (arith, nat_tests, c);
        back_front = let c = o.sees.back_front in let o : ℕ = 0 in grind (arith, nat_tests, c);
        told_seen = let c = o.sees.told_seen in let o : ℕ = 0 in grind (arith, nat_tests, c);
        told_forw = let c = o.sees.told_forw in let o : ℕ = 0 in grind (arith, nat_tests, c);
        told_some = let c = o.sees.told_some in let o : ℕ = 0 in grind (arith, nat_tests, c);
        told = let c = o.sees.told in let o : ℕ = 0 in grind (arith, nat_tests, c);
        untold = λ i j m h1 h2 h3 h4. let c0 = o.sees.untold in let o : ℕ = 0 in grind (arith, nat_tests, c0);
        unlinked = let c = o.sees.unlinked in let o : ℕ = 0 in grind (arith, nat_tests, c);
      };
      words = let c = o.words in let o : ℕ = 0 in grind (arith, nat_tests, c);
      slots = record {
        memory_out = let c = o.slots.memory_out in let o : ℕ = 0 in grind (arith, nat_tests, c);
        memory_home = let c = o.slots.memory_home in let o : ℕ = 0 in grind (arith, nat_tests, c);
        lends = λ i h1. let c0 = o.slots.lends_one me in let c1 = o.slots.lends_one i in let o : ℕ = 0 in grind (arith, nat_tests, c0, c1);
        lends_one = let c = o.slots.lends_one in let o : ℕ = 0 in grind (arith, nat_tests, c);
        borrower_has = let c = o.slots.borrower_has in let o : ℕ = 0 in grind (arith, nat_tests, c);
        fetching = let c = o.slots.fetching in let o : ℕ = 0 in grind (arith, nat_tests, c);
        writing = let c = o.slots.writing in let o : ℕ = 0 in grind (arith, nat_tests, c);
        in_hand = let c = o.slots.in_hand in let o : ℕ = 0 in grind (arith, nat_tests, c);
        at_home = let c = o.slots.at_home in let o : ℕ = 0 in grind (arith, nat_tests, c);
        held_out = let c = o.slots.held_out in let o : ℕ = 0 in grind (arith, nat_tests, c);
        held_by = let c = o.slots.held_by in let o : ℕ = 0 in grind (arith, nat_tests, c);
        held_for = let c = o.slots.held_for in let o : ℕ = 0 in grind (arith, nat_tests, c);
        holding = let c = o.slots.holding in let o : ℕ = 0 in grind (arith, nat_tests, c);
        copied_held = let c = o.slots.copied_held in let o : ℕ = 0 in grind (arith, nat_tests, c);
        copied_idle = let c = o.slots.copied_idle in let o : ℕ = 0 in grind (arith, nat_tests, c);
        copied_by = let c = o.slots.copied_by in let o : ℕ = 0 in grind (arith, nat_tests, c);
      };
      mode = let c = o.mode in let o : ℕ = 0 in grind (arith, nat_tests, c);
      values = let c = o.values in let o : ℕ = 0 in grind (arith, nat_tests, c);
    }

pub return_memory_writing_back_keeps_links : (n : ℕ) (s : State) (b : Below n (shape s)) (me : ℕ) (me_below : me < n) (line : Line)
    → (pending : s.steps me ≡ Pending.WritingBack line)
    → Below n (shape (after_return_memory_writing_back s me line))
return_memory_writing_back_keeps_links n s b me me_below line pending =
    let pending : StepFields (s.steps me) (Pending.WritingBack line) = step_fields pending in
    grind (arith, nat_tests, b.head, b.forw, b.back, b.kept, b.word_forw, b.seen_forw, b.seen_back)
