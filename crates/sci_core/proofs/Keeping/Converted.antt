use Rattle.std.proofs.Common.{◌≡◌, ℕ, ◌<◌, true, Option, Some, None, arith}
use Rattle.std.proofs.lemmas.Bool.Decides.{nat_tests}
use Rattle.sci_words.specs.declared.tags.Kind.{Kind}
use Rattle.sci_core.specs.declared.lines.Line.{Line}
use Rattle.sci_core.specs.declared.pending.Pending.{Pending}
use Rattle.sci_core.specs.State.{State, update, word}
use Rattle.sci_core.specs.Shape.{shape}
use Rattle.sci_core.specs.Law.{Witness, Law, Below}
use Rattle.sci_core.proofs.Fields.{StepFields, TagFields, step_fields, tag_fields}

-- The node, whose home is GONE, begins to purge, with its slot in hand.
abbrev pub after_converted : State → ℕ → Option ℕ → Line → State
after_converted s me forw line = record s {
  tags = update s.tags me (word Kind.Purging forw None);
  steps = update s.steps me (Pending.Purging line None);
  slots = update s.slots me None;
}

pub converted_keeps_law : (s : State) (g : Witness) (o : Law (shape s) g) (me : ℕ) (forw : Option ℕ) (line : Line)
    → (pending : s.steps me ≡ Pending.Converting forw true)
    → (me_word : s.tags me ≡ word Kind.Convert forw None)
    → (me_slot : s.slots me ≡ Some line)
    → Law (shape (after_converted s me forw line)) g
converted_keeps_law s g o me forw line pending me_word me_slot =
    let pending : StepFields (s.steps me) (Pending.Converting forw true) = step_fields pending in
    let me_word : TagFields (s.tags me) (word Kind.Convert forw None) = tag_fields me_word in
    let me_in : 0 < g.rank me = grind (arith, o.outside.may_be me) in
    record {
      order = let c = o.order in let o : ℕ = 0 in grind (arith, nat_tests, c);
      fronts = let c = o.fronts in let o : ℕ = 0 in grind (arith, nat_tests, c);
      own = let c = o.own in let o : ℕ = 0 in grind (arith, nat_tests, c);
      outside = let c = o.outside in let o : ℕ = 0 in grind (arith, nat_tests, c);
      backs = let c = o.backs in let o : ℕ = 0 in grind (arith, nat_tests, c);
      sees = let c = o.sees in let o : ℕ = 0 in grind (arith, nat_tests, c);
      words = let c = o.words in let o : ℕ = 0 in grind (arith, nat_tests, c);
      slots = record {
        memory_out = let c = o.slots.memory_out in let o : ℕ = 0 in grind (arith, nat_tests, c);
        memory_home = let c = o.slots.memory_home in let o : ℕ = 0 in grind (arith, nat_tests, c);
        lends = let c = o.slots.lends in let o : ℕ = 0 in grind (arith, nat_tests, c);
        lends_one = let c = o.slots.lends_one in let o : ℕ = 0 in grind (arith, nat_tests, c);
        borrower_has = let c = o.slots.borrower_has in let o : ℕ = 0 in grind (arith, nat_tests, c);
        fetching = let c = o.slots.fetching in let o : ℕ = 0 in grind (arith, nat_tests, c);
        writing = let c = o.slots.writing in let o : ℕ = 0 in grind (arith, nat_tests, c);
        in_hand = let c = o.slots.in_hand in let o : ℕ = 0 in grind (arith, nat_tests, c);
        at_home = let c = o.slots.at_home in let o : ℕ = 0 in grind (arith, nat_tests, c);
        held_out = let c = o.slots.held_out in let o : ℕ = 0 in grind (arith, nat_tests, c);
        held_by = let c = o.slots.held_by in let o : ℕ = 0 in grind (arith, nat_tests, c);
        held_for = λ i h1 h2. let c0 = o.slots.held_for i in let c1 = o.slots.held_by i in let o : ℕ = 0 in grind (arith, nat_tests, c0, c1);
        holding = let c = o.slots.holding in let o : ℕ = 0 in grind (arith, nat_tests, c);
        copied_held = let c = o.slots.copied_held in let o : ℕ = 0 in grind (arith, nat_tests, c);
        copied_idle = let c = o.slots.copied_idle in let o : ℕ = 0 in grind (arith, nat_tests, c);
        copied_by = let c = o.slots.copied_by in let o : ℕ = 0 in grind (arith, nat_tests, c);
      };
      mode = let c = o.mode in let o : ℕ = 0 in grind (arith, nat_tests, c);
      values = let c = o.values in let o : ℕ = 0 in grind (arith, nat_tests, c);
    }

pub converted_keeps_links : (n : ℕ) (s : State) (b : Below n (shape s)) (me : ℕ) (me_below : me < n) (forw : Option ℕ) (line : Line)
    → (pending : s.steps me ≡ Pending.Converting forw true)
    → (me_word : s.tags me ≡ word Kind.Convert forw None)
    → Below n (shape (after_converted s me forw line))
converted_keeps_links n s b me me_below forw line pending me_word =
    let pending : StepFields (s.steps me) (Pending.Converting forw true) = step_fields pending in
    let me_word : TagFields (s.tags me) (word Kind.Convert forw None) = tag_fields me_word in
    grind (arith, nat_tests, b.head, b.forw, b.back, b.kept, b.word_forw, b.seen_forw, b.seen_back)
