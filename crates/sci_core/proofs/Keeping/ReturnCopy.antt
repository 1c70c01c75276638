use Rattle.std.proofs.Common.{◌≡◌, ℕ, ◌<◌, true, Some, arith}
use Rattle.std.proofs.lemmas.Bool.Decides.{nat_tests}
use Rattle.sci_words.specs.declared.tags.Kind.{Kind}
use Rattle.sci_words.specs.declared.tags.Tag.{Tag}
use Rattle.sci_core.specs.declared.lines.Line.{Line}
use Rattle.sci_core.specs.declared.pending.Pending.{Pending}
use Rattle.sci_core.specs.State.{State, update, unheld_word}
use Rattle.sci_core.specs.Shape.{shape}
use Rattle.sci_core.specs.Law.{Witness, Law, Below}
use Rattle.sci_core.proofs.Fields.{StepFields, TagFields, step_fields, tag_fields}

-- The node has copied the old head's line, and gives its slot back.
abbrev pub after_return_copy : State → ℕ → ℕ → Line → Tag → State
after_return_copy s me target line kept = record s {
  tags = update s.tags target (unheld_word kept);
  steps = update s.steps me (Pending.Ready (Some target) true line);
  slots = update s.slots target (Some line);
}

pub return_copy_keeps_law : (s : State) (g : Witness) (o : Law (shape s) g) (me : ℕ) (target : ℕ) (line : Line) (kept : Tag)
    → (pending : s.steps me ≡ Pending.Copying target kept line)
    → (target_word : s.tags target ≡ kept)
    → Law (shape (after_return_copy s me target line kept)) g
return_copy_keeps_law s g o me target line kept pending target_word =
    let pending : StepFields (s.steps me) (Pending.Copying target kept line) = step_fields pending in
    let target_word : TagFields (s.tags target) kept = tag_fields target_word in
    let me_in : 0 < g.rank me = grind (arith, o.outside.may_be me) in
    let me_kind : (s.tags me).kind ≡ Kind.Queued = grind (arith, o.own.suited me) in
    let me_forw : (s.tags me).forw ≡ Some target = grind (arith, o.own.as_kept me) in
    let copied_kind : (s.tags target).kind ≡ Kind.Valid = grind (arith, o.words.copied me target) in
    let copied_held : (s.tags target).held ≡ true = grind (arith, o.slots.copied_held me target) in
    record {
      order = let c = o.order in let o : ℕ = 0 in grind (arith, nat_tests, c);
      fronts = let c = o.fronts in let o : ℕ = 0 in grind (arith, nat_tests, c);
      own = let c = o.own in let o : ℕ = 0 in grind (arith, nat_tests, c);
      outside = let c = o.outside in let o : ℕ = 0 in grind (arith, nat_tests, c);
      backs = record {
        ahead = let c = o.backs.ahead in let o : ℕ = 0 in grind (arith, nat_tests, c);
        known_in = let c = o.backs.known_in in let o : ℕ = 0 in grind (arith, nat_tests, c);
        known = let c = o.backs.known in let o : ℕ = 0 in grind (arith, nat_tests, c);
        skip_roll = let c = o.backs.skip_roll in let o : ℕ = 0 in grind (arith, nat_tests, c);
        skip_roll_out = let c = o.backs.skip_roll_out in let o : ℕ = 0 in grind (arith, nat_tests, c);
        skip_back = let c = o.backs.skip_back in let o : ℕ = 0 in grind (arith, nat_tests, c);
        skip_stale = let c = o.backs.skip_stale in let o : ℕ = 0 in grind (arith, nat_tests, c);
        skip_stale_out = let c = o.backs.skip_stale_out in let o : ℕ = 0 in grind (arith, nat_tests, c);
        parting = let c = o.backs.parting in let o : ℕ = 0 in grind (arith, nat_tests, c);
      };
      sees = record {
        none_seen = λ i h1 h2 h3. let c0 = o.sees.none_seen in let o : ℕ = 0 in grind (arith, nat_tests, c0);
        forw_seen = λ i x h1 h2 h3 h4 h5. let c0 = o.sees.forw_seen in let o : ℕ = 0 in grind (arith, nat_tests, c0);
        back_some = λ i h1 h2 hn. let c0 = o.sees.back_some in let o : ℕ = 0 in grind (arith, nat_tests, c0);
        back_ahead = λ i x h1 h2 h3 h4. let c0 = o.sees.back_ahead in let o : ℕ = 0 in grind (arith, nat_tests, c0);
        back_parting = λ i x h1 h2 h3. let c0 = o.sees.back_parting in let o : ℕ = 0 in grind (arith, nat_tests, c0);
        back_seen = λ i h1 h2 h3. let c0 = o.sees.back_seen in let o : ℕ = 0 in grind (arith, nat_tests, c0);
        back_behind = λ i h1 h2 h3. let c0 = o.sees.back_behind in let o : ℕ = 0 in grind (arith, nat_tests, c0);
        back_front = λ i h1 h2 h3. let c0 = o.sees.back_front in let o : ℕ = 0 in grind (arith, nat_tests, c0);
        told_seen = λ i h1 h2. let c0 = o.sees.told_seen in let o : ℕ = 0 in grind (arith, nat_tests, c0);
        told_forw = λ i h1 h2. let c0 = o.sees.told_forw in let o : ℕ = 0 in grind (arith, nat_tests, c0);
        told_some = λ i h1 h2 hn. let c0 = o.sees.told_some in let o : ℕ = 0 in grind (arith, nat_tests, c0);
        told = λ i j h1 h2 h3 hn. let c0 = o.sees.told in let o : ℕ = 0 in grind (arith, nat_tests, c0);
        untold = λ i j m h1 h2 h3 h4. let c0 = o.sees.untold in let o : ℕ = 0 in grind (arith, nat_tests, c0);
        unlinked = λ p x h1 h2 h3 h4. let c0 = o.sees.unlinked in let o : ℕ = 0 in grind (arith, nat_tests, c0);
      };
      words = let c = o.words in let o : ℕ = 0 in grind (arith, nat_tests, c);
      slots = record {
        memory_out = let c = o.slots.memory_out in let o : ℕ = 0 in grind (arith, nat_tests, c);
        memory_home = let c = o.slots.memory_home in let o : ℕ = 0 in grind (arith, nat_tests, c);
        lends = let c = o.slots.lends in let o : ℕ = 0 in grind (arith, nat_tests, c);
        lends_one = let c = o.slots.lends_one in let o : ℕ = 0 in grind (arith, nat_tests, c);
        borrower_has = let c = o.slots.borrower_has in let o : ℕ = 0 in grind (arith, nat_tests, c);
        fetching = let c = o.slots.fetching in let o : ℕ = 0 in grind (arith, nat_tests, c);
        writing = let c = o.slots.writing in let o : ℕ = 0 in grind (arith, nat_tests, c);
        in_hand = λ i h1. let c0 = o.slots.in_hand i in let c1 = o.slots.copied_idle me target in let o : ℕ = 0 in
            grind (arith, nat_tests, c0, c1);
        at_home = let c = o.slots.at_home in let o : ℕ = 0 in grind (arith, nat_tests, c);
        held_out = let c = o.slots.held_out in let o : ℕ = 0 in grind (arith, nat_tests, c);
        held_by = λ i h1 h2. let c0 = o.slots.held_for i in let c1 = o.slots.held_by i in let o : ℕ = 0 in grind (arith, nat_tests, c0, c1);
        held_for = let c = o.slots.held_for in let o : ℕ = 0 in grind (arith, nat_tests, c);
        holding = λ i h1. let c0 = o.slots.holding i in let c1 = o.slots.copied_idle me target in let o : ℕ = 0 in
            grind (arith, nat_tests, c0, c1);
        copied_held = λ i x h1 h2. let c0 = o.slots.copied_held i x in let c1 = o.slots.copied_by me target in
            let c2 = o.slots.copied_by i target in let o : ℕ = 0 in grind (arith, nat_tests, c0, c1, c2);
        copied_idle = let c = o.slots.copied_idle in let o : ℕ = 0 in grind (arith, nat_tests, c);
        copied_by = let c = o.slots.copied_by in let o : ℕ = 0 in grind (arith, nat_tests, c);
      };
      mode = let c = o.mode in let o : ℕ = 0 in grind (arith, nat_tests, c);
      values = let c = o.values in let o : ℕ = 0 in grind (arith, nat_tests, c);
    }

pub return_copy_keeps_links : (n : ℕ) (s : State) (b : Below n (shape s)) (me : ℕ) (me_below : me < n) (target : ℕ) (line : Line)
    (kept : Tag)
    → (pending : s.steps me ≡ Pending.Copying target kept line)
    → (target_word : s.tags target ≡ kept)
    → Below n (shape (after_return_copy s me target line kept))
return_copy_keeps_links n s b me me_below target line kept pending target_word =
    let pending : StepFields (s.steps me) (Pending.Copying target kept line) = step_fields pending in
    let target_word : TagFields (s.tags target) kept = tag_fields target_word in
    grind (arith, nat_tests, b.head, b.forw, b.back, b.kept, b.word_forw, b.seen_forw, b.seen_back)
