use Rattle.std.proofs.Common.{◌≡◌, ◌<◌, ℕ, List, All, take}
use Rattle.std.specs.Io.KnownBytes.{Appends}
use Rattle.sci_script.specs.Request.{no_words}
use Rattle.sci_script.specs.Run.{PrintsAll}
use Rattle.sci_script.proofs.Runs.{words_behind}
use Rattle.sci_script.proofs.commands.Script.run.Given as goal

-- what is written is the text of the commands so far
abbrev pub invariant-loop-step : goal.invariant-loop-step
invariant-loop-step g l =
    record {
      size : g.D.Desk.size l.desk ≡ l.self.size;
      noted : l.words ≡ words_behind no_words (take l.step-index l.self.steps.items);
      range : All (λ w. w < 8) l.words;
      written : (written : List ℕ) × PrintsAll g.D.Desk.is_open g.D.Desk.does no_words l.fn.desk (take l.step-index l.self.steps.items) written l.desk
          × Appends (g.W.Write.contents l.fn.out) (g.W.Write.contents l.out) written;
    }
