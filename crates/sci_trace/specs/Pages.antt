-- A page that shows a script and its trace. This project's profile.
use Rattle.std.specs.Prelude.{ℕ, List, ◌++◌, Bool, true, false, Result, Ok, Err}
use Rattle.sci_script.specs.declared.refusals.ScriptRefusal.{ScriptRefusal}
use Rattle.sci_script.specs.declared.refusals.ScriptRefusal.TheVariants.{OutOfMemory, BadCommand, BadNumber, NotDone, WriteFailed}
use Rattle.sci_pages.specs.declared.run.front.TheConstants.{FRONT}
use Rattle.sci_pages.specs.declared.run.seam.TheConstants.{SEAM}
use Rattle.sci_pages.specs.declared.run.end.TheConstants.{END}
use Rattle.sci_pages.specs.declared.play.front.TheConstants.{FRONT as PLAY_FRONT}
use Rattle.sci_pages.specs.declared.play.seam.TheConstants.{SEAM as PLAY_SEAM}
use Rattle.sci_pages.specs.declared.play.end.TheConstants.{END as PLAY_END}
use Rattle.sci_trace.specs.declared.drawing.Frame.{Frame}
use Rattle.sci_trace.specs.Coding.{escaped}

-- the texts of sci_pages; they are long, and no proof looks into them
unfoldable pub page_front : List ℕ
page_front = FRONT.now

unfoldable pub page_seam : List ℕ
page_seam = SEAM.now

unfoldable pub page_end : List ℕ
page_end = END.now

-- those of a race
unfoldable pub play_front : List ℕ
play_front = PLAY_FRONT.now

unfoldable pub play_seam : List ℕ
play_seam = PLAY_SEAM.now

unfoldable pub play_end : List ℕ
play_end = PLAY_END.now

-- the front, the text escaped, and the end
abbrev pub page_in : List ℕ → List ℕ → List ℕ → List ℕ
page_in front end text = front ++ escaped text ++ end

-- what stands in front of the trace: a script, escaped, between the front and the seam
abbrev pub head_of : Frame → List ℕ
head_of frame = page_in frame.front.now frame.seam.now frame.source.now

-- the page of a script and its trace
abbrev pub page_of : List ℕ → List ℕ → List ℕ
page_of source traced = page_in (page_in page_front page_seam source) page_end traced

-- the page of a script and of the states of its race
abbrev pub play_page : List ℕ → List ℕ → List ℕ
play_page source states = page_in (page_in play_front play_seam source) play_end states

-- the writer failed
abbrev pub is_cut : Result (Unit {0}) ScriptRefusal → Bool
is_cut (Ok done) = false
is_cut (Err OutOfMemory) = false
is_cut (Err (BadCommand n)) = false
is_cut (Err (BadNumber n)) = false
is_cut (Err (NotDone n)) = false
is_cut (Err WriteFailed) = true
