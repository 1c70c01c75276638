use Rattle.std.proofs.Common.{ap, arith, subst, sym, ◌+◌, ◌∙◌}
use Rattle.std.specs.Str.Lines.{lines}
use Rattle.sci_script.specs.Format.{Finds, entries_from, sayings_of, view, with_lines}
use Rattle.sci_script.proofs.Reading.{all_read, line_taken}
use Rattle.sci_script.proofs.Refusing.{line_lacks}
use Rattle.sci_script.proofs.reader.read_lines.Goals as goal

pub returns-in-Err : goal.returns-in-Err
returns-in-Err c =
    let s = sayings_of c.loop-entry.draft in
    let none = c.in-Err.ensures.none in
    subst (λ r. Finds view c.ended.result r)
    (all_read c.args.text.now s (entries_from c.loop-entry.at (lines c.loop-entry.rest.now)) c.in-Err.end c.loop-entry.invariant.left none.0 (omega (arith, none.1, c.loop-entry.invariant.counted))) c.ended.ensures

pub returns-in-Err-read_line : goal.returns-in-Err-read_line
returns-in-Err-read_line c =
    let e = c.in-Ok.entry in
    let s = sayings_of c.loop-entry.draft in
    line_lacks c.args.text.now s e.number e.line.now (entries_from (e.number + 1) (lines e.rest.now)) c.in-Err-read_line.unread (rw c.place-place.ensures.value at c.in-Err-read_line.ensures.exact)
    (ap (with_lines s) (sym c.in-Ok.ensures.found) ∙ c.loop-entry.invariant.left)

pub loop-entry-preserved : goal.loop-entry-preserved
loop-entry-preserved c =
    let e = c.in-Ok.entry in
    let s = sayings_of c.loop-entry.draft in
    let entries = entries_from (e.number + 1) (lines e.rest.now) in
    record {
      left = ap (λ x. with_lines x entries) c.in_ok-take.ensures.ok ∙ sym (line_taken s e.number e.line.now entries c.in-Ok-read_line.read (rw c.place-place.ensures.value at c.in-Ok-read_line.ensures.exact))
          ∙ ap (with_lines s) (sym c.in-Ok.ensures.found) ∙ c.loop-entry.invariant.left;
      counted = c.in-Ok.ensures.counted ∙ c.loop-entry.invariant.counted;
      room = omega (arith, c.in-Ok.ensures.shorter);
    }
