use Rattle.std.proofs.Common.{[], ◌≡◌, ◌++◌, arith, refl, subst, inl}
use Rattle.std.specs.Io.KnownBytes.{Consumes}
use Rattle.std.proofs.KnownBytes.{Consumes-nil, Consumes-trans}
use Rattle.sci_serve.specs.Kinds.{kind_of}
use Rattle.sci_serve.proofs.Gathering.{begun_kind, nothing_gathered, told_rest}
use Rattle.sci_serve.proofs.kinds.Beginning.read.Goals as goal

pub loop-earlier-init : goal.loop-earlier-init
loop-earlier-init g c = record { read = ([], nothing_gathered _ _ c.new.ensures.items c.new-2.ensures.items, Consumes-nil _); passed = omega arith; fewer = omega arith }

pub loop-earlier-preserved : goal.loop-earlier-preserved
loop-earlier-preserved g c =
    let (seen, h, consumed) = c.loop-earlier.invariant.read in
    let (more, next, read) = c.in_ok-read.ensures.read seen h in
    record {
      read = (seen ++ more, next, Consumes-trans _ _ _ seen more consumed read);
      passed = omega (arith, c.loop-earlier.invariant.passed, c.in_ok-read.ensures.passed);
      fewer = c.in_ok-read.ensures.fewer;
    }

pub returns-then-branch-clause-kind : goal.returns-then-branch-clause-kind
returns-then-branch-clause-kind g c =
    let (seen, h, consumed) = c.loop-earlier.invariant.read in
    let (more, next, read) = c.in_ok-read.ensures.read seen h in
    let kind = c.in_ok-begun.field-0.kind in
    begun_kind (g.R.Read.remaining c.args.reader.now) (g.R.Read.remaining c.read.new.reader) (seen ++ more) kind (Consumes-trans _ _ _ seen more consumed read)
    (told_rest (g.R.Read.remaining c.read.new.reader) c.read.new.self.word.items (λ rest. kind ≡ kind_of ((seen ++ more) ++ rest)) (c.in_ok-read.ensures.told c.if-branch.true)
    (λ rest told. (c.in_ok-begun.ensures (seen ++ more) rest next told).0))

pub returns-then-branch-clause-kept : goal.returns-then-branch-clause-kept
returns-then-branch-clause-kept g c =
    let (seen, h, consumed) = c.loop-earlier.invariant.read in
    let (more, next, read) = c.in_ok-read.ensures.read seen h in
    let (kind, gone, is, stand) = c.in_ok-begun.ensures (seen ++ more) [] next (inl refl) in
    (gone, subst (Consumes (g.R.Read.remaining c.args.reader.now) (g.R.Read.remaining c.read.new.reader)) is (Consumes-trans _ _ _ seen more consumed read), stand)
