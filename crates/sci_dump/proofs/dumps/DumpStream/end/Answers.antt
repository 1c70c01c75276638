use Rattle.std.proofs.Common.{◌∙◌, ◌+◌, ℕ, zero, suc, ◌==◌, ◌<◌, ◌≡◌, true, false, refl, sym, ap, arith, eqb-true, vec_len}
use Rattle.std.specs.Prelude.{codes}
use Rattle.sci_dump.specs.declared.places.DumpPlace.TheVariants.{End}
use Rattle.sci_dump.specs.Reading.{behind}
use Rattle.sci_dump.proofs.Streaming.{end_missing, ended_all, none_left, more_behind}
use Rattle.sci_dump.proofs.dumps.DumpStream.end.Goals as goal

pub returns-in_default-clause-err : goal.returns-in_default-clause-err
returns-in_default-clause-err g c = λ text lines r.
    end_missing text lines c.args.self (g.R.Read.remaining c.args.reader.now) r c.requires (ap (behind (codes "end\n")) (sym c.deref.ensures.value) ∙ c.in_default.ensures.exact)

pub returns-then-is_empty-clause-ok : goal.returns-then-is_empty-clause-ok
returns-then-is_empty-clause-ok g c = λ text lines r.
    ended_all text c.in-Some.field-0.now c.in_ok-text.text.items lines c.args.self (g.R.Read.remaining c.args.reader.now) (g.R.Read.remaining c.advance.new.reader) r c.requires
    (ap (behind (codes "end\n")) (sym c.deref.ensures.value) ∙ c.in-Some.ensures.exact) c.in_ok-text.ensures.ok (omega (arith, eqb-true (vec_len c.in_ok-text.text) 0 (sym c.is_empty.ensures ∙ c.if-is_empty.true), c.in_ok-text.text.ok.0))

pub returns-then-is_empty-clause-at_end : goal.returns-then-is_empty-clause-at_end
returns-then-is_empty-clause-at_end g c =
    none_left (g.R.Read.remaining c.args.reader.now) (g.R.Read.remaining c.advance.new.reader) c.in_ok-text.text.items c.in_ok-text.ensures.ok
    (omega (arith, eqb-true (vec_len c.in_ok-text.text) 0 (sym c.is_empty.ensures ∙ c.if-is_empty.true), c.in_ok-text.text.ok.0))

pub returns-else-is_empty-clause-err : goal.returns-else-is_empty-clause-err
returns-else-is_empty-clause-err g c = λ text lines r.
    more_behind text c.in-Some.field-0.now (record { number = c.args.self.row.number + 1; text = c.in_ok-text.text; place = End }) lines c.args.self (g.R.Read.remaining c.args.reader.now) (g.R.Read.remaining c.advance.new.reader) r c.requires
    (ap (behind (codes "end\n")) (sym c.deref.ensures.value) ∙ c.in-Some.ensures.exact) refl refl c.in_ok-text.ensures.ok (omega (arith, some_left (vec_len c.in_ok-text.text) (sym c.is_empty.ensures ∙ c.if-is_empty.false), c.in_ok-text.text.ok.0))
  where
    some_left : (n : ℕ) → (n == 0) ≡ false → 0 < n
    some_left zero e = absurd (let f : (0 == 0) ≡ true = refl in cc)
    some_left (suc n) e = omega arith
