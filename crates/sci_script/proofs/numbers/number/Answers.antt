use Rattle.std.proofs.Common.{◌≡◌, ◌≤◌, ℕ, List, true, None, length, get_or, sym, rules, tests, arith}
use Rattle.std.specs.Char.{is_ascii_digit}
use Rattle.sci_script.specs.Words.{number_of}
use Rattle.sci_script.proofs.Digits.{digit_more, digits_more, too_large, all_digits}
use Rattle.sci_script.proofs.numbers.number.Goals as goal

pub returns-in_err-checked_mul : goal.returns-in_err-checked_mul
returns-in_err-checked_mul c =
    let word : List ℕ = c.args.word.now in
    let i : ℕ = c.loop-byte.byte-index in
    let digit : is_ascii_digit (get_or word i 0) ≡ true = search (rules, tests) in
    let none : number_of word ≡ None = too_large word i c.loop-byte-test.true digit (omega (arith, c.in_err-checked_mul.ensures)) in
    cc

pub returns-in_err-value : goal.returns-in_err-value
returns-in_err-value c =
    let word : List ℕ = c.args.word.now in
    let i : ℕ = c.loop-byte.byte-index in
    let digit : is_ascii_digit (get_or word i 0) ≡ true = search (rules, tests) in
    let none : number_of word ≡ None = too_large word i c.loop-byte-test.true digit (omega (arith, c.in_err-value.ensures, c.in_ok-checked_mul.ensures)) in
    cc

pub loop-byte-preserved : goal.loop-byte-preserved
loop-byte-preserved c =
    let word : List ℕ = c.args.word.now in
    let i : ℕ = c.loop-byte.byte-index in
    let digit : is_ascii_digit (get_or word i 0) ≡ true = search (rules, tests) in
    let more = digit_more word i c.loop-byte-test.true digit in
    record {
      digits = digits_more word i c.loop-byte-test.true c.loop-byte.invariant.digits digit;
      small = omega (arith, c.in_ok-value.ensures);
      value = omega (arith, c.in_ok-value.ensures, c.in_ok-checked_mul.ensures);
    }

pub returns : goal.returns
returns c =
    let some : 1 ≤ length c.args.word.now = search (rules, tests) in
    sym (all_digits c.args.word.now c.loop-byte.byte-index c.loop-byte.value c.loop-byte-test.false c.loop-byte.invariant.digits some (omega arith) c.loop-byte.invariant.value c.loop-byte.invariant.small)
