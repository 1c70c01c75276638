-- A talk as it stands. This project's profile.
use Rattle.std.specs.Prelude.{Option, Some, None}
use Rattle.sci_script.specs.declared.drafts.Draft.{Draft}
use Rattle.sci_script.specs.declared.talk.Going.{Going}
use Rattle.sci_script.specs.declared.talk.TalkState.{TalkState}
use Rattle.sci_script.specs.declared.talk.TalkState.TheVariants as states
use Rattle.sci_script.specs.declared.talk.Talk.{Talk}
use Rattle.sci_script.specs.Format.{sayings_of}
use Rattle.sci_script.specs.Talks.{Standing, Gathering, Going as GoingOn}
use Rattle.sci_script.specs.Wholes.{shared_of}

abbrev pub going_of : Going → Standing
going_of g = GoingOn g.desk.size g.words (shared_of g.desk)

abbrev pub state_of : TalkState → Standing
state_of (states.Gathering draft) = Gathering (sayings_of draft)
state_of (states.Going going) = going_of going

abbrev pub standing_of : Talk → Standing
standing_of talk = state_of talk.state
