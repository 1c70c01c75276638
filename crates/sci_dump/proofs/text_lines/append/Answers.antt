use Rattle.std.proofs.Common.{rules, arith, eq-eqb, ◌∙◌, ◌≡◌, ◌⊎◌, ◌<◌, ◌-◌, ◌==◌, true, false, Option, List, ℕ, slice_index, IfSome, subst, inl, inr}
use Rattle.std.specs.Io.BufRead.{FillKeeps, DropsConsumable}
use Rattle.std.proofs.BufReadLemmas.{Consumes_shown}
use Rattle.sci_dump.specs.Streams.{Holds, IsFront}
use Rattle.sci_dump.proofs.TextLines.{appended}
use Rattle.sci_dump.proofs.text_lines.append.Given as given
use Rattle.sci_dump.proofs.text_lines.append.Goals as goal
use Rattle.sci_dump.proofs.text_lines.append.Goals.{then-count-eq0, else-count-eq0}

-- what is appended, and whether it is the last part
kept : (g : given.Over) (c : goal.After-consume g) (had : Option (List ℕ)) → IsFront had (g.R.Read.remaining c.args.reader.now) c.args.line.now.items
    → (c.if-count-eq0.is_kept ≡ false → IsFront had (g.R.Read.remaining c.consume.new.self) c.read_until.new.buf.items)
    × (c.if-count-eq0.is_kept ≡ true → IfSome had (Holds c.read_until.new.buf.items (g.R.Read.remaining c.consume.new.self)))
kept g c had front =
    let shown = c.in-Ok.available.now in
    let count = c.in_ok-count.count in
    let rested = c.fill_buf.follows.lender-at-none in
    let filled = subst (FillKeeps _ (g.R.Read.remaining rested) (g.R.BufRead.consumable_len rested)) c.in-Ok.is c.fill_buf.follows.holds-at-none in
    let same : c.if-count-eq0.reader ≡ rested = search rules in
    let drops = subst (λ r. DropsConsumable (g.R.Read.remaining r) (g.R.Read.remaining c.consume.new.self) (g.R.BufRead.consumable_len r) count) same c.consume.ensures.bytes in
    let last : ((count ≡ 0) × (c.if-count-eq0.is_kept ≡ true)) ⊎ ((0 < count) × (c.if-count-eq0.is_kept ≡ (slice_index shown (count - 1) == 10))) = elim c.if-count-eq0.branch [
      | then-count-eq0 w ↦ inl (w.if-count-eq0.true, w.is_kept-is ∙ eq-eqb count 0 w.if-count-eq0.true)
      | else-count-eq0 w ↦ inr (omega (arith, w.if-count-eq0.false), w.is_kept-is)
    ] in
    appended had (g.R.Read.remaining c.args.reader.now) (g.R.Read.remaining c.consume.new.self) c.args.line.now.items c.read_until.new.buf.items shown c.min-room.result count c.if-count-eq0.is_kept
    front c.in_ok-count.ensures.bytes c.in_ok-count.ensures.stops (search rules) (omega (arith, c.in_ok-count.ensures.ok, c.read_until.new.buf.ok.0, c.args.line.now.ok.0))
    (λ within. Consumes_shown _ _ _ _ shown count within c.in-Ok.ensures.front c.in-Ok.ensures.end filled.0 filled.1 drops) last

pub returns-clause-more : goal.returns-clause-more
returns-clause-more g c = λ is_more had front. (kept g c had front).0 is_more

pub returns-clause-all : goal.returns-clause-all
returns-clause-all g c = λ all_kept had front. (kept g c had front).1 all_kept
