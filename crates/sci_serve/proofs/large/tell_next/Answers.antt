use Rattle.std.proofs.Common.{List, ℕ, ◌<◌, length, take, string_bytes, subst, refl, inl, inr}
use Rattle.std.specs.Io.KnownBytes.{Appends}
use Rattle.std.proofs.KnownBytes.{Appends-nil}
use Rattle.sci_serve.proofs.large.tell_next.Goals as goal

pub returns-in-Err-clause-err : goal.returns-in-Err-clause-err
returns-in-Err-clause-err g c = inl (refl, Appends-nil _)

pub returns-in-Ok-put-clause-ok : goal.returns-in-Ok-put-clause-ok
returns-in-Ok-put-clause-ok g c =
    (string_bytes c.in-Ok.text, c.in-Ok.ensures, subst (λ (t : List ℕ). Appends (g.W.Write.contents c.args.writer.now) (g.W.Write.contents c.put.new.out) t) c.as_bytes.ensures.value c.in-Ok-put.ensures.ok)

pub returns-clause-err : goal.returns-clause-err
returns-clause-err g c =
    let Front = λ (t : List ℕ). (n : ℕ) × (n < length t) × Appends (g.W.Write.contents c.args.writer.now) (g.W.Write.contents c.put.new.out) (take n t) in
    let (n, less, appended) = subst Front c.as_bytes.ensures.value c.in-Err-put.ensures.err in
    inr (refl, c.in-Ok.verdict, string_bytes c.in-Ok.text, n, c.in-Ok.ensures, less, appended)
