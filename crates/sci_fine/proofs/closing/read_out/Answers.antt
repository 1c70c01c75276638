use Rattle.std.proofs.Common.{◌<◌, ◌≡◌, ◌+◌, ◌≤◌, ℕ, suc, List, length, refl, arith, sym, ◌∙◌, ap, subst}
use mathlib.Core.Option.{some}
use lib.ListN.{get_elem?}
use Rattle.std.specs.Slots.{slots_items, slots_filled, slots_len, IsFull}
use Rattle.sci_words.specs.Codes.{tag_code}
use Rattle.sci_words.specs.declared.tags.Tag.{Tag}
use Rattle.sci_core.specs.declared.lines.Line.{Line}
use Rattle.sci_fine.specs.Rule.{lies_at}
use Rattle.sci_fine.specs.Ends.{HasRead}
use Rattle.sci_fine.proofs.Ending.{mem_found, mem_stands, tag_found, reads_on, ends, closed_well, left_on, taken_on}
use Rattle.sci_fine.proofs.Reading.{ok_err}
use Rattle.sci_fine.proofs.closing.read_out.Goals as goal

pub word-requires : goal.word-requires
word-requires g c = (omega (arith, c.requires.counts.0), c.requires.full.0)

pub unreachable-requires : goal.unreachable-requires
unreachable-requires g c =
    let t = c.args.terms in let small : t.nodes ≤ 65535 = omega (arith, c.requires.nodes) in
    let k = mem_found g.K.Keeps.fits t small c.requires.rest.0 (slots_items c.args.table.words) (slots_items c.args.table.slots) c.requires.rest.1 c.word.result c.word.ensures in
    ok_err c.read_mem.result c.requires.rest.1.state.memory c.in-Err.field-0 (c.read_mem.ensures.of_code c.requires.rest.1.state.memory k.0 k.1 k.2) c.in-Err.is

pub take-memory-requires : goal.take-memory-requires
take-memory-requires g c = (omega (arith, c.requires.counts.1), c.requires.full.1 0 (omega arith) (omega (arith, c.requires.counts.1)))

pub loop-node-init : goal.loop-node-init
loop-node-init g c =
    let t = c.take-memory.ensures.others in let old = c.args.table.slots in
    let count : length (slots_filled old) ≡ c.args.terms.nodes + 1 = sym old.ok.1 ∙ c.requires.counts.1 in
    record {
      words = refl;
      slots = refl;
      count = t.2 ∙ c.requires.counts.1;
      full = λ k a b. left_on (slots_filled old) (slots_filled c.take-memory.new.self.slots) 0 t.1 (c.args.terms.nodes + 1) (λ k a b. c.requires.full.1 k (omega arith) (omega (arith, c.requires.counts.1, b))) k (omega arith) b;
      taken = λ k a. taken_on (slots_filled old) (slots_filled c.take-memory.new.self.slots) 0 t.1 (omega arith) (λ k b. absurd (omega arith)) k (omega arith);
      tags = c.requires.room.0;
      lines = c.requires.room.1;
      tag_room = c.requires.room.2;
      line_room = c.requires.room.3;
      read = record { tag_count = omega (arith, c.args.tags.ok, c.requires.room.0); line_count = omega (arith, c.args.lines.ok, c.requires.room.1); tag = λ x near. absurd (omega arith); line = λ x near. absurd (omega arith) };
    }

pub lies_at-requires : goal.lies_at-requires
lies_at-requires g c = omega (arith, c.loop-node-test.true, c.from-node-end.ensures, c.requires.nodes)

pub word-requires-in-loop-node : goal.word-requires-in-loop-node
word-requires-in-loop-node g c =
    let i = c.loop-node.invariant in let w = i.words ∙ c.take-memory.ensures.others.3 in
    let count = ap slots_len w ∙ c.requires.counts.0 in let place = c.lies_at.ensures in
    (omega arith, subst IsFull (sym w) c.requires.full.0)

pub unreachable-requires-in-Err-read_tag : goal.unreachable-requires-in-Err-read_tag
unreachable-requires-in-Err-read_tag g c =
    let t = c.args.terms in let small : t.nodes ≤ 65535 = omega (arith, c.requires.nodes) in
    let i = c.loop-node.invariant in let w = i.words ∙ c.take-memory.ensures.others.3 in let n : ℕ = c.loop-node.node in
    let one : suc n ≡ n + 1 = omega arith in let next : lies_at (suc n) ≡ c.lies_at.result = ap lies_at one ∙ sym c.lies_at.ensures in
    let at : get_elem? (slots_items c.args.table.words) (lies_at (suc n)) ≡ some c.word-in-loop-node.result = ap (λ z. get_elem? (slots_items z) (lies_at (suc n))) (sym w) ∙ (ap (get_elem? (slots_items c.loop-node.table.words)) next ∙ c.word-in-loop-node.ensures) in
    let k = tag_found g.K.Keeps.fits t small c.requires.rest.0 (slots_items c.args.table.words) (slots_items c.args.table.slots) c.requires.rest.1 n c.word-in-loop-node.result (omega arith) at in
    ok_err c.read_tag.result (c.requires.rest.1.state.tags n) c.in-Err-read_tag.field-0 (c.read_tag.ensures.of_code (c.requires.rest.1.state.tags n) k.0 k.1 k.2) c.in-Err-read_tag.is

pub push_reserved-requires : goal.push_reserved-requires
push_reserved-requires g c = let i = c.loop-node.invariant in omega (arith, i.tags, i.tag_room, c.loop-node-test.true, c.from-node-end.ensures)

pub take-requires : goal.take-requires
take-requires g c =
    let i = c.loop-node.invariant in let near : c.loop-node.node + 1 < c.args.terms.nodes + 1 = omega (arith, c.loop-node-test.true, c.from-node-end.ensures) in
    (omega (arith, i.count, near), i.full (c.loop-node.node + 1) (omega arith) near)

pub push_reserved-requires-in-loop-node : goal.push_reserved-requires-in-loop-node
push_reserved-requires-in-loop-node g c = let i = c.loop-node.invariant in omega (arith, i.lines, i.line_room, c.loop-node-test.true, c.from-node-end.ensures)

pub loop-node-preserved : goal.loop-node-preserved
loop-node-preserved g c =
    let i = c.loop-node.invariant in let n : ℕ = c.loop-node.node in let t = c.take.ensures.others in let now = c.loop-node.table.slots in let ws = slots_items c.take-memory.new.self.words in let xs = slots_items c.take-memory.new.self.slots in
    let near : n + 1 < length (slots_filled now) = omega (arith, now.ok, i.count) in let tag = c.in-Ok-read_tag in let next : n + 1 ≡ suc n = omega arith in let place : c.lies_at.result ≡ lies_at (suc n) = c.lies_at.ensures ∙ ap lies_at next in
    let at : get_elem? ws c.lies_at.result ≡ some (tag_code tag.tag) = ap (λ w. get_elem? (slots_items w) c.lies_at.result) (sym i.words) ∙ (c.word-in-loop-node.ensures ∙ ap some (sym tag.ensures.code)) in
    let there : get_elem? xs (n + 1) ≡ some c.take.result = ap (λ (l : List Line). get_elem? l (n + 1)) (sym i.slots) ∙ c.take.ensures.value in
    record {
      words = t.3 ∙ i.words;
      slots = t.0 ∙ i.slots;
      count = t.2 ∙ i.count;
      full = left_on (slots_filled now) (slots_filled c.take.new.self.slots) (n + 1) t.1 (c.args.terms.nodes + 1) i.full;
      taken = taken_on (slots_filled now) (slots_filled c.take.new.self.slots) (n + 1) t.1 near i.taken;
      tags = c.push_reserved.ensures.len ∙ ap (λ (z : ℕ). z + 1) i.tags;
      lines = c.push_reserved-in-loop-node.ensures.len ∙ ap (λ (z : ℕ). z + 1) i.lines;
      tag_room = omega (arith, c.push_reserved.ensures.capacity, i.tag_room);
      line_room = omega (arith, c.push_reserved-in-loop-node.ensures.capacity, i.line_room);
      read = subst (λ (z : List Tag × List Line). HasRead ws xs (n + 1) z.0 z.1) (λ k. (sym c.push_reserved.ensures.items k, sym c.push_reserved-in-loop-node.ensures.items k))
          (reads_on ws xs n c.loop-node.tags.items c.loop-node.lines.items tag.tag c.take.result i.read tag.ensures.well_formed tag.ensures.links (ap (get_elem? ws) (sym place) ∙ at) (ap (get_elem? xs) (sym next) ∙ there));
    }

pub free-requires : goal.free-requires
free-requires g c = λ k near. let i = c.loop-node.invariant in i.taken k (omega (arith, near, i.count, c.loop-node-test.false, c.from-node-end.ensures))

pub invariant_of-result : goal.invariant_of-result
invariant_of-result g c =
    let i = c.loop-node.invariant in let t = c.take-memory.ensures in let ws = slots_items c.args.table.words in let xs = slots_items c.args.table.slots in
    let small : c.args.terms.nodes ≤ 65535 = omega (arith, c.requires.nodes) in let end : c.loop-node.node ≡ c.args.terms.nodes = omega arith in
    let read = subst (λ (z : List ℕ × List Line × ℕ). HasRead z.0 z.1 z.2 c.loop-node.tags.items c.loop-node.lines.items) (λ k. (ap slots_items t.others.3 k, t.others.0 k, end k)) i.read in
    let mem = mem_stands g.K.Keeps.fits c.args.terms small c.requires.rest.0 ws xs c.requires.rest.1 c.in-Ok.mem c.word.result c.word.ensures c.in-Ok.ensures.links c.in-Ok.ensures.code in
    closed_well g.K.Keeps.fits c.args.terms small c.requires.rest.0 ws xs c.requires.rest.1 c.in-Ok.mem c.take-memory.result c.loop-node.tags.items c.loop-node.lines.items mem t.value read

pub returns : goal.returns
returns g c = λ logs rest.
    let i = c.loop-node.invariant in let t = c.take-memory.ensures in let ws = slots_items c.args.table.words in let xs = slots_items c.args.table.slots in
    let small : c.args.terms.nodes ≤ 65535 = omega (arith, c.requires.nodes) in let end : c.loop-node.node ≡ c.args.terms.nodes = omega arith in
    let read = subst (λ (z : List ℕ × List Line × ℕ). HasRead z.0 z.1 z.2 c.loop-node.tags.items c.loop-node.lines.items) (λ k. (ap slots_items t.others.3 k, t.others.0 k, end k)) i.read in
    let mem = mem_stands g.K.Keeps.fits c.args.terms small logs ws xs rest c.in-Ok.mem c.word.result c.word.ensures c.in-Ok.ensures.links c.in-Ok.ensures.code in
    ends g.K.Keeps.fits c.args.terms small logs ws xs rest c.in-Ok.mem c.take-memory.result c.loop-node.tags.items c.loop-node.lines.items mem t.value read
