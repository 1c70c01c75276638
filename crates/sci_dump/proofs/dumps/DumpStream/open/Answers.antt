use Rattle.std.proofs.Common.{◌∙◌, refl, sym, ap}
use Rattle.sci_dump.specs.declared.places.DumpPlace.TheVariants.{Start}
use Rattle.sci_dump.specs.Reading.{head_at}
use Rattle.sci_dump.proofs.Streaming.{head_stops, opened}
use Rattle.sci_dump.proofs.dumps.DumpStream.open.Goals as goal

pub returns-in_default-clause-err : goal.returns-in_default-clause-err
returns-in_default-clause-err g c =
    head_stops (g.R.Read.remaining c.args.reader.now) (g.R.Read.remaining c.advance.new.reader) (record { number = 1; text = c.in_ok-text.text; place = Start }) refl refl c.in_ok-text.ensures.ok
    (ap head_at (sym c.deref.ensures.value) ∙ c.in_default.ensures.exact)

pub returns-clause-ok : goal.returns-clause-ok
returns-clause-ok g c =
    opened (g.R.Read.remaining c.args.reader.now) (g.R.Read.remaining c.advance.new.reader) (g.R.Read.remaining c.advance-2.new.reader) c.in_ok-text.text.items c.in-Some.field-0-3.now _ c.in_ok-text.ensures.ok c.in_ok-text-2.ensures.ok
    (ap head_at (sym c.deref.ensures.value) ∙ c.in-Some.ensures.exact) refl refl refl
