use Rattle.std.proofs.Common.{Some, ◌≡◌, ◌∙◌, ◌+◌, ℕ, List, [], ◌∷◌, drop, length, length-append, sym, ap, subst, refl, arith}
use Rattle.toml.specs.View.{view, items_view}
use Rattle.toml.specs.declared.value.Value.{Value}
use Rattle.sci_settings.specs.Settings.{IsFound, number_in, numbers_in}
use Rattle.sci_settings.proofs.Items.{with_front, item_more, item_named}
use Rattle.sci_settings.proofs.fields.numbers_in.Goals as goal

pub loop-value-preserved : goal.loop-value-preserved
loop-value-preserved c =
    let values = c.args.array.now in
    let i = c.loop-value.value-index in
    let all = numbers_in (items_view values) in
    let is = ap (λ (x : Value). number_in (view x)) (sym c.value-item.is) ∙ sym c.number_in.ensures ∙ c.in-Some.is in (
      omega (arith, ap (λ (ns : List ℕ). length ns) c.in_ok-push.ensures.items, length-append c.loop-value.items.items (c.in-Some.number ∷ []), c.loop-value.invariant.0),
      subst (λ (ns : List ℕ). all ≡ with_front ns (numbers_in (items_view (drop (i + 1) values)))) (sym c.in_ok-push.ensures.items)
          (item_more c.loop-value.items.items c.in-Some.number values i c.value-item.result all c.loop-value-test.true is c.loop-value.invariant.1),
    )

pub returns-in_default-clause-why : goal.returns-in_default-clause-why
returns-in_default-clause-why c =
    let is = ap (λ (x : Value). number_in (view x)) (sym c.value-item.is) ∙ sym c.number_in.ensures ∙ c.in_default.is in
    let found = c.in_ok-found.found in
    let seen = subst (λ (x : Value). IsFound (Some (view x)) found) c.value-item.is c.in_ok-found.ensures in
    (refl, item_named c.args.array.now c.loop-value.value-index _ c.value-item.result found c.loop-value-test.true is (grind arith) seen)
