use Rattle.std.proofs.Common.{arith, ◌≡◌, ◌≤◌, ◌+◌, ◌==◌, ◌∷◌, ◌++◌, [], ◌∙◌, ℕ, zero, suc, List, length, take, drop, inl, inr, refl, sym, ap}
use Rattle.std.proofs.lemmas.Bool.{cases_Bool}
use Rattle.std.proofs.lemmas.List.{take_min}
use Rattle.std.specs.Io.BufRead.{take_through, drop_through}
use Rattle.sci_dump.specs.Streams.{from_line}
use Rattle.sci_reasons.proofs.why.why_line.Goals as goal

dropped : (xs : List ℕ) → drop_through 10 xs ≡ drop (length (take_through 10 xs)) xs
dropped [] = refl
dropped (x ∷ xs) = elim (cases_Bool (x == 10)) [ inl y ↦ rw y refl | inr n ↦ rw n (dropped xs) ]

-- behind its first line a text goes on from the next
next_line : (n : ℕ) (text : List ℕ) → 1 ≤ n → drop_through 10 (from_line n text) ≡ from_line (n + 1) text
unfolding from_line
next_line zero text some = absurd (omega (arith, some))
next_line (suc k) text some =
    let at : suc k + 1 ≡ suc (suc k) = omega arith in
    dropped (from_line (suc k) text) ∙ sym (ap (λ (n : ℕ). from_line n text) at)

-- there is no line 0
reached : (n line : ℕ) (text : List ℕ) → (line ≡ 0 → n ≡ 1) → (1 ≤ line → n ≡ line) → from_line n text ≡ from_line line text
unfolding from_line
reached n zero text none some = ap (λ (k : ℕ). from_line k text) (none refl)
reached n (suc k) text none some = ap (λ (k : ℕ). from_line k text) (some (omega arith))

pub loop-init : goal.loop-init
unfolding from_line
loop-init c = record { rest = refl; first = λ none. refl }

pub loop-preserved : goal.loop-preserved
loop-preserved c =
    let rest : c.skip_until.new.self.now ≡ drop_through 10 c.loop.rest.now = let e = c.in-Ok.ensures.rest in cc in
    record {
      rest = rest ∙ ap (drop_through 10) c.loop.invariant.rest ∙ next_line c.loop.counter c.args.text.now (omega (arith, c.loop.auto.counter));
      first = λ none. absurd (omega (arith, c.loop-test.true, none));
    }

pub returns-clause-text : goal.returns-clause-text
returns-clause-text c =
    let here = reached c.loop.counter c.args.line c.args.text.now c.loop.invariant.first (λ some. omega (arith, c.loop.auto.counter-end some, c.loop-test.false)) in
    let front = c.in-Ok-read_until.ensures.bytes ∙ ap (λ (xs : List ℕ). xs ++ take_through 10 (take c.min.result c.loop.rest.now)) c.new-text.ensures.items in
    front ∙ ap (λ (k : ℕ). take_through 10 (take k c.loop.rest.now)) c.min.ensures ∙ ap (take_through 10) (take_min 1024 c.loop.rest.now) ∙ ap (λ (xs : List ℕ). take_through 10 (take 1024 xs)) (c.loop.invariant.rest ∙ here)
