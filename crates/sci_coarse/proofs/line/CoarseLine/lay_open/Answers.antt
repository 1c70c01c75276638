use Rattle.std.proofs.Common.{◌≡◌, ◌<◌, ℕ, ◌∙◌, subst, arith}
use Rattle.std.specs.Slots.{slots_items, slots_filled, slots_len}
use Rattle.sci_core.specs.declared.pending.Pending.{Pending}
use Rattle.sci_core.specs.Whole.{WholeLine, nodes_of, state_of}
use Rattle.sci_coarse.specs.Ends.{IsRun}
use Rattle.sci_coarse.specs.Rule.{IsOn, IsLawfulWhole}
use Rattle.sci_coarse.proofs.Ending.{left_as, taken_out, emptied}
use Rattle.sci_coarse.proofs.line.CoarseLine.lay_open.Goals as goal

pub take-whole-requires : goal.take-whole-requires
take-whole-requires g c = let sized = c.args.self.sized in let counts = c.close_with-closed.ensures.counts.1 in (omega (arith, sized.2, counts), c.close_with-closed.ensures.values.1 0 (omega arith) (omega arith))

pub free-requires : goal.free-requires
free-requires g c =
    let sized = c.args.self.sized in let counts = c.close_with-closed.ensures.counts.1 in let others = c.take-whole.ensures.others in let slots = c.close_with-closed.result.slots in
    emptied (slots_filled slots) (slots_filled c.take-whole.new.self.slots) (slots_len c.take-whole.new.self.slots) (others.2 ∙ counts ∙ sized.2) (others.2 ∙ slots.ok.1) others.1

pub returns-clause-on : goal.returns-clause-on
returns-clause-on g c =
    let l = left_as g.K.Keeps.fits c.args.self.terms c.args.self.table.shared.key _ _ _ (slots_items c.close_with-closed.result.slots) c.args.self.sized.0 c.requires.of.1 c.requires.view.0 c.requires.view.1 c.requires.view.2 c.requires.view.3 c.close_with-closed.ensures.values.2 in
    subst (λ (w : WholeLine g.row.K.Denot). IsOn c.args.self.terms w) (taken_out g.K.Keeps.fits c.args.self.terms c.args.root.me.0 (slots_items c.close_with-closed.result.slots) c.take-whole.result l c.take-whole.ensures.value) l.on

pub returns-clause-lawful : goal.returns-clause-lawful
returns-clause-lawful g c =
    let l = left_as g.K.Keeps.fits c.args.self.terms c.args.self.table.shared.key _ _ _ (slots_items c.close_with-closed.result.slots) c.args.self.sized.0 c.requires.of.1 c.requires.view.0 c.requires.view.1 c.requires.view.2 c.requires.view.3 c.close_with-closed.ensures.values.2 in
    subst (λ (w : WholeLine g.row.K.Denot). IsLawfulWhole g.K.Keeps.fits w) (taken_out g.K.Keeps.fits c.args.self.terms c.args.root.me.0 (slots_items c.close_with-closed.result.slots) c.take-whole.result l c.take-whole.ensures.value) l.lawful

pub returns-clause-idle : goal.returns-clause-idle
returns-clause-idle g c =
    let l = left_as g.K.Keeps.fits c.args.self.terms c.args.self.table.shared.key _ _ _ (slots_items c.close_with-closed.result.slots) c.args.self.sized.0 c.requires.of.1 c.requires.view.0 c.requires.view.1 c.requires.view.2 c.requires.view.3 c.close_with-closed.ensures.values.2 in
    subst (λ (w : WholeLine g.row.K.Denot). (i : ℕ) → i < nodes_of w → (state_of w).steps i ≡ Pending.Idle) (taken_out g.K.Keeps.fits c.args.self.terms c.args.root.me.0 (slots_items c.close_with-closed.result.slots) c.take-whole.result l c.take-whole.ensures.value) l.idle

pub returns-clause-run : goal.returns-clause-run
returns-clause-run g c =
    let l = left_as g.K.Keeps.fits c.args.self.terms c.args.self.table.shared.key _ _ _ (slots_items c.close_with-closed.result.slots) c.args.self.sized.0 c.requires.of.1 c.requires.view.0 c.requires.view.1 c.requires.view.2 c.requires.view.3 c.close_with-closed.ensures.values.2 in
    subst (λ (w : WholeLine g.row.K.Denot). IsRun g.K.Keeps.fits c.args.self.terms c.args.root.me.0 w) (taken_out g.K.Keeps.fits c.args.self.terms c.args.root.me.0 (slots_items c.close_with-closed.result.slots) c.take-whole.result l c.take-whole.ensures.value) l.run
