use Rattle.std.proofs.Common.{refl}
use Rattle.sci_port.proofs.Lent.{is_sound}
use Rattle.sci_port.proofs.solo.SoloPort.stage.Goals as goal

pub returns-clause-sound : goal.returns-clause-sound
returns-clause-sound g c = is_sound _ _ _ _ _ _ refl c.tag.ensures.value c.tag.ensures.well_formed c.tag.ensures.links c.nodes.ensures.lawful

pub returns-clause-value : goal.returns-clause-value
returns-clause-value g c = c.stage.ensures
