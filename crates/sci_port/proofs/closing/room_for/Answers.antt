use Rattle.std.proofs.Common.{◌≤◌, ℕ, subst}
use Rattle.std.specs.Prelude.{vec_capacity}
use Rattle.sci_port.proofs.closing.room_for.Goals as goal

pub returns : goal.returns
returns c =
    let tags = c.in_ok-tags.ensures in let lines = c.in_ok-lines.ensures in let lists = c.in_ok-lists.ensures in
    (tags.items, lines.items, lists.items, subst (λ (z : ℕ). z ≤ vec_capacity c.in_ok-tags.tags) c.from.ensures tags.capacity, subst (λ (z : ℕ). z ≤ vec_capacity c.in_ok-lines.lines) c.from-2.ensures lines.capacity, subst (λ (z : ℕ). z ≤ vec_capacity c.in_ok-lists.lists) c.from-3.ensures lists.capacity, tags.len, lines.len)
