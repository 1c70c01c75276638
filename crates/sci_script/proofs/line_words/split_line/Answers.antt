use Rattle.std.proofs.Common.{◌≡◌, ◌∙◌, ℕ, List, true, false, get_or, sym, rules, tests, arith}
use Rattle.std.specs.Char.{is_ascii_graphic}
use Rattle.sci_script.specs.Words.{is_blank, is_plain}
use Rattle.sci_script.proofs.Splitting.{word_first, word_last, words_more, words_end, one_more, plain_blank, plain_graphic, no_blank, line_odd, line_plain}
use Rattle.sci_script.proofs.line_words.split_line.Goals as goal

pub loop-at-preserved : goal.loop-at-preserved
loop-at-preserved c =
    let line : List ℕ = c.args.line.now in
    let i = c.loop-at.invariant in
    let byte : ℕ = get_or line c.loop-at.at 0 in
    let blank : is_blank byte ≡ true = search (rules, tests) in
    record {
      begun = omega arith;
      plain = one_more (λ b. is_plain b ≡ true) line 0 c.loop-at.at c.loop-at-test.true i.plain (plain_blank byte blank);
      solid = λ k d from to. absurd (omega (arith, from, to));
      split = words_more _ _ _ _ _ _ c.in_ok-put_word.ensures (word_first line c.loop-at.start c.loop-at.at i.begun c.loop-at-test.true i.solid blank) i.split;
    }

pub loop-at-preserved-then-is_ascii_graphic : goal.loop-at-preserved-then-is_ascii_graphic
loop-at-preserved-then-is_ascii_graphic c =
    let line : List ℕ = c.args.line.now in
    let i = c.loop-at.invariant in
    let byte : ℕ = get_or line c.loop-at.at 0 in
    let prints : is_ascii_graphic byte ≡ true = sym c.is_ascii_graphic.ensures.value ∙ c.if-is_ascii_graphic.true in
    record {
      begun = omega (arith, i.begun);
      plain = one_more (λ b. is_plain b ≡ true) line 0 c.loop-at.at c.loop-at-test.true i.plain (plain_graphic byte prints);
      solid = one_more (λ b. is_blank b ≡ false) line c.loop-at.start c.loop-at.at c.loop-at-test.true i.solid (no_blank byte prints);
      split = i.split;
    }

pub returns-then-not-is_blank-clause-plain : goal.returns-then-not-is_blank-clause-plain
returns-then-not-is_blank-clause-plain c =
    sym (line_odd c.args.line.now c.loop-at.at c.loop-at-test.true (sym c.is_ascii_graphic.ensures.value ∙ c.if-is_ascii_graphic.false) (sym c.is_blank.ensures ∙ c.if-not-is_blank.true))

pub returns-clause-plain : goal.returns-clause-plain
returns-clause-plain c = sym (line_plain c.args.line.now c.loop-at.at c.loop-at-test.false c.loop-at.invariant.plain)

pub returns-clause-words : goal.returns-clause-words
returns-clause-words c = λ plain.
    let line : List ℕ = c.args.line.now in
    let i = c.loop-at.invariant in
    words_end _ _ _ _ _ c.in_ok-put_word-2.ensures (word_last line c.loop-at.start c.loop-at.at c.loop-at-test.false i.solid) i.split
