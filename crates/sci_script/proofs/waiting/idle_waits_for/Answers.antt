use Rattle.std.proofs.Common.{◌≡◌, ◌||◌, true, false, rules}
use Rattle.sci_core.specs.Found.{names}
use Rattle.sci_core.specs.Whole.{nodes_of, state_of}
use Rattle.sci_script.specs.Waiting.{is_kept_out}
use Rattle.sci_script.proofs.Awaiting.{waits_for_one, waits_for_none}
use Rattle.sci_script.proofs.waiting.idle_waits_for.Goals as goal

pub returns-then-is_late : goal.returns-then-is_late
returns-then-is_late c =
    let s = state_of c.args.line.now in
    let i = c.args.node in
    let memory = c.mem.ensures.value in
    let tag = c.tag.ensures.value in
    let head = c.names-is_head.ensures in
    let late = c.is_late.ensures in
    let test : c.is_late.result ≡ true = search rules in
    let waits : ((s.tags i).held || is_kept_out c.args.goal (names i s.memory.forw) (s.tags i).kind) ≡ true = cc in
    let lawful = c.nodes-nodes.ensures.lawful in
    waits_for_one _ _ s lawful.0 lawful.1 i c.requires.idle c.args.goal c.keeper.result waits c.keeper.ensures

pub returns-else-is_late : goal.returns-else-is_late
returns-else-is_late c =
    let s = state_of c.args.line.now in
    let i = c.args.node in
    let memory = c.mem.ensures.value in
    let tag = c.tag.ensures.value in
    let head = c.names-is_head.ensures in
    let late = c.is_late.ensures in
    let test : c.is_late.result ≡ false = search rules in
    let waits : ((s.tags i).held || is_kept_out c.args.goal (names i s.memory.forw) (s.tags i).kind) ≡ false = cc in
    waits_for_none (nodes_of c.args.line.now) s c.args.goal i c.requires.idle waits
