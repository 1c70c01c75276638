use Rattle.std.proofs.Common.{◌≡◌, ◌++◌, ◌∷◌, [], List, length, refl, ap, sym, subst, arith, length-append}
use mathlib.Core.Option.{some}
use lib.ListN.{get_elem?}
use Rattle.atomic_table.proofs.Lists.{at_last}
use Rattle.sci_work.proofs.rings.passing.last_share.Goals as goal

second_of : {A : Type 0} (all rest : List A) (last : A) → length all ≡ 2 → all ≡ rest ++ last ∷ [] → get_elem? all 1 ≡ some last
second_of {A} all rest last two is =
    let n : length all ≡ length (rest ++ last ∷ []) = ap (λ (z : List A). length z) is in
    let one : length rest ≡ 1 = omega (arith, two, n, length-append rest (last ∷ [])) in
    subst (λ (z : List A). get_elem? z 1 ≡ some last) (sym is) (at_last rest last 1 one)

pub returns : goal.returns
returns c =
    let two : length c.args.shares.items ≡ 2 = omega (arith, c.requires.two, c.args.shares.ok) in
    c.requires.each 1 c.in-Some.share (second_of c.args.shares.items c.pop.new.self.items c.in-Some.share two c.in-Some.ensures.items) refl
