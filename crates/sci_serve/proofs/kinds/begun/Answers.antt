use Rattle.std.proofs.Common.{List, ℕ, ◌++◌, ap, sym, ◌∙◌}
use Rattle.sci_serve.proofs.kinds.begun.Goals as goal

pub returns : goal.returns
returns c = λ seen rest h told.
    let kind = c.kind-kind.ensures seen rest h told in
    let (gone, is, stand) = c.feeds-feeds.ensures seen rest h told kind in
    (kind, gone, is ∙ ap (λ (l : List ℕ). gone ++ l) (ap (λ (l : List ℕ). c.args.gathered.silent.items ++ l) (sym c.deref.ensures.value) ∙ sym c.in_ok-extend_from_slice.ensures.items), stand)
