use Rattle.sci_coarse.proofs.Seating.{idle_is_sound}
use Rattle.sci_coarse.proofs.opening.idle_seat.Goals as goal

pub idle-requires : goal.idle-requires
idle-requires g c = idle_is_sound _ _
