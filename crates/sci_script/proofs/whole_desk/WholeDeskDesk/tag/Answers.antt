use Rattle.std.proofs.Common.{◌<◌, ℕ, length, ap, subst, sym}
use Rattle.sci_core.specs.Whole.{nodes_of}
use Rattle.sci_script.specs.Nodes.{whole_of}
use Rattle.sci_script.specs.Unused.{no_line}
use Rattle.sci_script.proofs.BankDesks.{tag_link}
use Rattle.sci_script.proofs.RestedLines.{stay_wide}
use Rattle.sci_script.proofs.Stirring.{load_calms}
use Rattle.sci_script.proofs.whole_desk.WholeDeskDesk.tag.Goals as goal

pub tag-requires : goal.tag-requires
tag-requires c =
    let desk = c.args.self.now in
    let inside : c.args.line < length desk.bank.wholes.items = subst (λ (n : ℕ). c.args.line < n) (sym desk.lines) c.requires.line in
    record { line = inside; node = subst (λ (n : ℕ). c.args.node < n) (sym (desk.widths c.args.line no_line inside)) c.requires.node }

pub returns-clause-link : goal.returns-clause-link
returns-clause-link c =
    let desk = c.args.self.now in
    let inside : c.args.line < length desk.bank.wholes.items = subst (λ (n : ℕ). c.args.line < n) (sym desk.lines) c.requires.line in
    tag_link (nodes_of (whole_of desk.bank.wholes.items c.args.line)) desk.size.nodes c.tag.result (desk.widths c.args.line no_line inside) c.tag.ensures.form

pub invariant_of-self-clause-widths : goal.invariant_of-self-clause-widths
invariant_of-self-clause-widths c =
    let desk = c.args.self.now in
    stay_wide desk.size.nodes desk.bank.wholes.items c.tag.new.self.wholes.items (ap (λ w. w.lines) c.tag.ensures.same_way) c.tag.ensures.same_nodes desk.widths

pub invariant_of-self-clause-rests : goal.invariant_of-self-clause-rests
invariant_of-self-clause-rests c =
    let desk = c.args.self.now in
    load_calms desk.calm desk.bank.wholes.items c.tag.new.self.wholes.items c.args.line c.tag.ensures.gives.0.stays.wholes desk.rests c.tag.ensures.gives.0.gives.1
