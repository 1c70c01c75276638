use Rattle.std.proofs.Common.{◌≡◌, ◌≤◌, ◌++◌, true, false, drop, map}
use Rattle.std.specs.List.{AllWithin}
use Rattle.sci_script.specs.Words.{is_blank, is_plain, words_of}
use Rattle.sci_script.proofs.line_words.split_line.Given as goal

abbrev pub invariant-loop-at : goal.invariant-loop-at
invariant-loop-at l = record {
  begun : l.start ≤ l.at;
  plain : AllWithin (λ b. is_plain b ≡ true) l.line 0 l.at;
  solid : AllWithin (λ b. is_blank b ≡ false) l.line l.start l.at;
  split : map (λ w. w.now) l.words.items ++ words_of (drop l.start l.line) ≡ words_of l.line;
}
