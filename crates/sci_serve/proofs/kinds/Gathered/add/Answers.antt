use Rattle.std.proofs.Common.{refl, arith, ◌<◌, length, ◌∙◌, ap, List, ℕ, ◌++◌}
use Rattle.std.proofs.lemmas.List.{nil_from_length}
use Rattle.std.proofs.lemmas.Grind.{common_steps}
use Rattle.sci_serve.proofs.Gathering.{added, if_ok, rest_taken, word_more}
use Rattle.sci_serve.proofs.kinds.Gathered.add.Goals as goal

pub returns-then-not-is_empty-clause-read : goal.returns-then-not-is_empty-clause-read
returns-then-not-is_empty-clause-read c =
    if_ok c.extend_from_slice.result _
    (λ made seen h.
    let some : 0 < length c.args.self.now.word.items = grind (arith, common_steps) in
    word_more c.args.self.now _ seen c.args.bytes.now some refl refl refl refl (rw made at c.extend_from_slice.ensures.items) h)

pub returns-clause-read : goal.returns-clause-read
returns-clause-read c =
    if_ok c.extend_from_slice-2.result _
    (λ made seen h.
    let p = c.pass-count in
    let k = c.in_ok-keep.ensures in
    added c.args.self.now p.new.self c.keep.new.self seen c.args.bytes.now p.result c.extend_from_slice-2.new.self p.ensures.count (nil_from_length _ (grind (arith, common_steps))) p.ensures.stands p.ensures.fewer p.ensures.passed p.ensures.silent
    p.ensures.word p.ensures.said k.kept k.place k.lines k.passed k.word ((rw made at c.extend_from_slice-2.ensures.items) ∙ ap (λ (l : List ℕ). c.keep.new.self.word.items ++ l) (rest_taken c.args.bytes.now p.result)) h)
