use Rattle.std.proofs.Common.{◌≡◌, ◌≤◌, ◌+◌, ◌++◌, ℕ, List, take}
use Rattle.sci_serve.specs.Gathered.{StandsAt}
use Rattle.sci_serve.proofs.kinds.Gathered.pass.Given as goal

-- these bytes say nothing
abbrev pub invariant-loop-at : goal.invariant-loop-at
invariant-loop-at l =
    record {
      passed : l.self.passed ≡ l.fn.self.passed + l.at;
      fewer : l.self.lines ≤ l.self.passed;
      stands : (silent : List ℕ) → StandsAt l.fn.self.place silent l.fn.self.lines → StandsAt l.self.place (silent ++ take l.at l.bytes) l.self.lines;
      silent : l.self.silent ≡ l.fn.self.silent;
      word : l.self.word ≡ l.fn.self.word;
    }
