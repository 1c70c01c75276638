-- What the command `outcomes --page` writes. This project's profile.
use Rattle.std.specs.Prelude.{◌≡◌, ℕ, List}
use Rattle.sci_play.specs.Plays.{IsPlay}
use Rattle.sci_outcomes.specs.Race.{RaceState}
use Rattle.sci_trace.specs.Pages.{play_page}
use Rattle.sci_serve.specs.declared.racing.RaceFault.{RaceFault}
use Rattle.sci_serve.specs.Races.{Halts, IsRaceIn}

-- this is the page of a script and of all states that turns of the calls which it leaves open lead to, at most so many
abbrev pub Plays : ℕ → ℕ → List ℕ → List ℕ → Type 0
Plays limit most input page = (race : RaceState) × IsRaceIn limit input race × (text : List ℕ) × IsPlay most race text × (page ≡ play_page input text)

abbrev pub StopsPlaying : ℕ → ℕ → RaceFault → List ℕ → List ℕ → Type 0
StopsPlaying limit most e input written = Halts (Plays limit most input) limit most e input written
