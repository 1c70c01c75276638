use Rattle.std.proofs.Common.{◌∙◌, ◌+◌, refl, sym, ap}
use Rattle.std.proofs.lemmas.Result.{err_from_is_err_and}
use Rattle.sci_dump.specs.declared.places.DumpPlace.TheVariants.{Line}
use Rattle.sci_dump.specs.Reading.{memory_at, closed_at}
use Rattle.sci_dump.specs.Streams.{from_line}
use Rattle.sci_dump.proofs.Streaming.{outside, behind_memory, no_closed_line, closed_stops, closed_all}
use Rattle.sci_dump.proofs.streams.read_closed.Goals as goal

pub returns-in_default-clause-exact : goal.returns-in_default-clause-exact
returns-in_default-clause-exact g c = λ text head h. (
  no_closed_line c.args.head.layout c.args.number c.args.head.nodes c.args.row.number (from_line c.args.row.number text) c.args.row.text.items h.0.2 (ap (memory_at c.args.head.layout c.args.number) (sym c.deref.ensures.value) ∙ c.in_default.ensures.exact),
  h.0,
)

pub returns-in_err-text-clause-exact : goal.returns-in_err-text-clause-exact
returns-in_err-text-clause-exact g c = λ text head h.
    let p = err_from_is_err_and c.from_residual.result c.from_residual.ensures.1 in
    rw (p.1, p.2) (outside text c.in_err-text.field-0.0 (closed_at c.args.head.layout c.args.number c.args.head.nodes c.args.row.number (from_line c.args.row.number text)) c.in_err-text.ensures.err)

pub returns-in_err-rows-clause-exact : goal.returns-in_err-rows-clause-exact
returns-in_err-rows-clause-exact g c = λ text head h.
    let p = err_from_is_err_and c.from_residual-in_err-rows.result c.from_residual-in_err-rows.ensures.1 in
    let is = ap (memory_at c.args.head.layout c.args.number) (sym c.deref.ensures.value) ∙ c.in-Some.ensures.exact in
    let next = behind_memory c.args.head.layout c.args.head c.args.number text (c.in-Some.mem, c.in-Some.memory, c.in-Some.field-0-2.now) c.args.row (record { number = c.args.row.number + 1; text = c.in_ok-text.text; place = Line c.args.head c.args.number 0 })
    (g.R.Read.remaining c.args.reader.now) (g.R.Read.remaining c.advance.new.reader) refl head h is refl refl c.in_ok-text.ensures.ok in
    rw (p.1, p.2)
    (closed_stops c.args.head.layout c.in_err-rows.field-0.0 c.args.number c.args.head.nodes text c.in-Some.field-0-2.now c.args.row c.in-Some.mem c.in-Some.memory h.0 is (c.in_err-rows.ensures.exact text head next))

pub returns-clause-exact : goal.returns-clause-exact
returns-clause-exact g c = λ text head h.
    let is = ap (memory_at c.args.head.layout c.args.number) (sym c.deref.ensures.value) ∙ c.in-Some.ensures.exact in
    let next = behind_memory c.args.head.layout c.args.head c.args.number text (c.in-Some.mem, c.in-Some.memory, c.in-Some.field-0-2.now) c.args.row (record { number = c.args.row.number + 1; text = c.in_ok-text.text; place = Line c.args.head c.args.number 0 })
    (g.R.Read.remaining c.args.reader.now) (g.R.Read.remaining c.advance.new.reader) refl head h is refl refl c.in_ok-text.ensures.ok in
    let (all, holds) = c.in_ok-rows.ensures.exact text head next in (
      closed_all c.args.head.layout c.args.number c.args.head.nodes c.in_ok-rows.rows.row.number text c.in-Some.field-0-2.now (from_line c.in_ok-rows.rows.row.number text) c.args.row c.in-Some.mem c.in-Some.memory c.in_ok-rows.rows.tags.items c.in_ok-rows.rows.lines.items h.0 is all,
      holds,
    )
