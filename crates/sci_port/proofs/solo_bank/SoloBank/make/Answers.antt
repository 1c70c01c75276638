use borrow.Author.Rules.{scaled_Fits}
use Rattle.std.proofs.Common.{◌≡◌, ◌∙◌, List, true, refl, sym, ap, get_or, length, length-set, rules}
use Rattle.sci_core.specs.Answers.{is_allowed, FitsEvent}
use Rattle.sci_core.specs.Whole.{WholeLine, nodes_of, state_of}
use Rattle.sci_port.specs.Banks.{lent_lines}
use Rattle.sci_port.specs.declared.calls.Call.TheVariants.{Stepped}
use Rattle.sci_port.proofs.Banked.{are_after, gives_at, fits_as_read, holds_of_read, node_below, written_back}
use Rattle.sci_port.proofs.solo_bank.SoloBank.make.Goals as goal

pub invariant_of-self : goal.invariant_of-self
invariant_of-self g c =
    record {
      count = c.args.self.now.count ∙ sym (ap (λ (l : List _). length l) (written_back c.args.self.now.wholes.items c.as_mut_slice-wholes.result.now c.args.self.now.wholes.len c.from.result c.step_lent.new.whole c.as_mut_slice-wholes.ensures.value c.as_mut_slice-wholes.ensures.len) ∙ length-set c.args.self.now.wholes.items c.from.result c.step_lent.new.whole);
      of = are_after g.K.Keeps.fits (lent_lines c.args.self.now.keep c.args.self.now.node c.args.self.now.wholes.items) c.args.line c.requires.line c.args.self.now.of (Stepped c.args.event c.step_lent.result) c.from.result c.index-wholes-from.result (get_or c.as_mut_slice-wholes.result.now c.from.result c.index-wholes-from.result) c.step_lent.new.whole c.args.self.now.node c.args.self.now.node c.as_mut_slice-wholes.result.ghost_name c.as_mut_slice-wholes.result.ghost_name c.from.ensures (ap (λ l. get_or l c.from.result c.index-wholes-from.result) c.as_mut_slice-wholes.ensures.value) refl (c.step_lent.ensures c.as_mut_slice-wholes.result.ghost_name) _ (written_back c.args.self.now.wholes.items c.as_mut_slice-wholes.result.now c.args.self.now.wholes.len c.from.result c.step_lent.new.whole c.as_mut_slice-wholes.ensures.value c.as_mut_slice-wholes.ensures.len);
    }

pub returns-clause-gives : goal.returns-clause-gives
returns-clause-gives g c = gives_at g.K.Keeps.fits (lent_lines c.args.self.now.keep c.args.self.now.node c.args.self.now.wholes.items) c.args.line c.requires.line c.args.self.now.of (Stepped c.args.event c.step_lent.result) c.from.result c.index-wholes-from.result (get_or c.as_mut_slice-wholes.result.now c.from.result c.index-wholes-from.result) c.step_lent.new.whole c.args.self.now.node c.args.self.now.node c.as_mut_slice-wholes.result.ghost_name c.as_mut_slice-wholes.result.ghost_name c.from.ensures (ap (λ l. get_or l c.from.result c.index-wholes-from.result) c.as_mut_slice-wholes.ensures.value) refl (c.step_lent.ensures c.as_mut_slice-wholes.result.ghost_name) _ (written_back c.args.self.now.wholes.items c.as_mut_slice-wholes.result.now c.args.self.now.wholes.len c.from.result c.step_lent.new.whole c.as_mut_slice-wholes.ensures.value c.as_mut_slice-wholes.ensures.len)

pub bounds-wholes-from : goal.bounds-wholes-from
bounds-wholes-from g c = rw (c.as_mut_slice-wholes.ensures.value, c.from.ensures) c.requires.line

pub offset_bounds-wholes-from : goal.offset_bounds-wholes-from
offset_bounds-wholes-from g c = scaled_Fits _ _ _ (bounds-wholes-from g c) (search rules)

pub step_lent-requires-clause-node : goal.step_lent-requires-clause-node
step_lent-requires-clause-node g c = node_below g.K.Keeps.fits (lent_lines c.args.self.now.keep c.args.self.now.node c.args.self.now.wholes.items) c.args.line c.requires.line c.args.self.now.of c.from.result c.index-wholes-from.result _ c.from.ensures (ap (λ l. get_or l c.from.result c.index-wholes-from.result) c.as_mut_slice-wholes.ensures.value)

pub step_lent-requires-clause-allowed : goal.step_lent-requires-clause-allowed
step_lent-requires-clause-allowed g c = holds_of_read g.K.Keeps.fits (lent_lines c.args.self.now.keep c.args.self.now.node c.args.self.now.wholes.items) c.args.line c.requires.line c.args.self.now.of (λ (w : WholeLine _). is_allowed (nodes_of w) c.args.self.now.node ((state_of w).steps c.args.self.now.node) c.args.event ≡ true) c.from.result c.index-wholes-from.result (get_or c.as_mut_slice-wholes.result.now c.from.result c.index-wholes-from.result) c.from.ensures (ap (λ l. get_or l c.from.result c.index-wholes-from.result) c.as_mut_slice-wholes.ensures.value) c.requires.allowed

pub step_lent-requires-clause-fits : goal.step_lent-requires-clause-fits
step_lent-requires-clause-fits g c = fits_as_read g.K.Keeps.fits (lent_lines c.args.self.now.keep c.args.self.now.node c.args.self.now.wholes.items) c.args.line c.requires.line c.args.self.now.of (λ fits. FitsEvent fits c.args.event) c.from.result c.index-wholes-from.result (get_or c.as_mut_slice-wholes.result.now c.from.result c.index-wholes-from.result) c.from.ensures (ap (λ l. get_or l c.from.result c.index-wholes-from.result) c.as_mut_slice-wholes.ensures.value) c.requires.fits
