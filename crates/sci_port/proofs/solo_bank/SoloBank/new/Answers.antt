use Rattle.std.proofs.Common.{◌∙◌, ap, refl, subst, sym, arith}
use Rattle.sci_core.specs.Whole.{WholeLine}
use Rattle.sci_port.specs.Banks.{AreLinesOf}
use Rattle.sci_port.proofs.solo_bank.SoloBank.new.Goals as goal

pub index-requires : goal.index-requires
index-requires g c = omega (arith, c.requires.lines.1.some, c.args.wholes.ok)

pub invariant_of-result : goal.invariant_of-result
invariant_of-result g c =
    let first = c.requires.lines.1.each 0 c.index.result.now c.requires.lines.1.some in
    let fact = c.keep-keep.ensures ∙ ap (λ (w : WholeLine g.row.K.Denot). w.keep) c.index.ensures ∙ first.fact in
    record { count = c.requires.count; of = subst (λ (k : g.row.K.Denot). AreLinesOf k c.args.node c.args.wholes.items) (sym fact) c.requires.lines.1 }

pub returns-clause-node : goal.returns-clause-node
returns-clause-node g c = refl
