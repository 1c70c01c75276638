use Rattle.std.proofs.Common.{◌≡◌, ◌<◌, true, ◌∙◌, ap, subst}
use Rattle.sci_core.specs.Whole.{WholeLine, nodes_of, state_of}
use Rattle.sci_core.specs.Answers.{is_allowed}
use Rattle.sci_port.specs.declared.calls.Call.TheVariants.{Stepped}
use Rattle.sci_coarse.specs.Rule.{IsOn}
use Rattle.sci_coarse.proofs.Lending.{whole_hand, same_hand, lent, same_given}
use Rattle.sci_coarse.proofs.line.CoarseLine.step_in_hand.Goals as goal

pub slot_mut-whole-requires : goal.slot_mut-whole-requires
slot_mut-whole-requires g c = let h = c.requires.hand in (c.requires.of, (h.0, whole_hand c.args.token.now.me.1 h.0 h.1))

pub returns-clause-called : goal.returns-clause-called
returns-clause-called g c = let h = c.requires.hand in lent g.K.Keeps.fits c.args.node (Stepped c.args.event c.step_whole.result) c.args.token.now.me h.0 c.slot_mut-whole.result.now c.step_whole.new.whole h.1 c.slot_mut-whole.ensures.value c.step_whole.ensures.calls

pub returns-clause-pending : goal.returns-clause-pending
returns-clause-pending g c = let h = c.requires.hand in λ x e. c.step_whole.ensures.pending ∙ ap (λ (v : WholeLine g.row.K.Denot). (state_of v).steps c.args.node) (same_given c.args.token.now.me.1 h.0 c.step_whole.new.whole x h.1 e)

pub step_whole-requires-clause-on : goal.step_whole-requires-clause-on
step_whole-requires-clause-on g c = let h = c.requires.hand in subst (λ (v : WholeLine g.row.K.Denot). IsOn c.args.standing.now.terms v) (same_hand c.args.token.now.me.1 h.0 c.slot_mut-whole.result.now h.1 c.slot_mut-whole.ensures.value) h.2

pub step_whole-requires-clause-node : goal.step_whole-requires-clause-node
step_whole-requires-clause-node g c = let h = c.requires.hand in subst (λ (v : WholeLine g.row.K.Denot). c.args.node < nodes_of v) (same_hand c.args.token.now.me.1 h.0 c.slot_mut-whole.result.now h.1 c.slot_mut-whole.ensures.value) h.3

pub step_whole-requires-clause-allowed : goal.step_whole-requires-clause-allowed
step_whole-requires-clause-allowed g c = let h = c.requires.hand in subst (λ (v : WholeLine g.row.K.Denot). is_allowed (nodes_of v) c.args.node ((state_of v).steps c.args.node) c.args.event ≡ true) (same_hand c.args.token.now.me.1 h.0 c.slot_mut-whole.result.now h.1 c.slot_mut-whole.ensures.value) h.4
