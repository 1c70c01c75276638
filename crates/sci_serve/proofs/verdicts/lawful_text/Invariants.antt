use Rattle.std.proofs.Common.{◌≡◌, ℕ, List, take, string_bytes}
use Rattle.sci_serve.specs.Verdicts.{AreListsOf}
use Rattle.sci_serve.proofs.verdicts.lawful_text.Given as goal

-- the text so far is that of the lines so far
abbrev pub invariant-loop-number : goal.invariant-loop-number
invariant-loop-number l = (lists : List ℕ) × AreListsOf 0 (take l.number l.lines) lists × (string_bytes l.text ≡ lists)
