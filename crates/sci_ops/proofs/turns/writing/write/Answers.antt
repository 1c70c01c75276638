use Rattle.std.proofs.Common.{◌≡◌, ◌∙◌, ℕ, ◌<◌, ◌≤◌, ◌+◌, true, false, Some, None, List, refl, ap, sym, arith}
use Rattle.std.proofs.lemmas.Bool.Decides.{nat_tests}
use Rattle.sci_core.specs.declared.lines.Line.{Line}
use Rattle.sci_core.specs.declared.events.Event.{Event}
use Rattle.sci_core.specs.Table.Purging.{can_count}
use Rattle.sci_ops.specs.declared.goals.Goal.{Goal}
use Rattle.sci_ops.specs.declared.goals.Write.{Write}
use Rattle.sci_ops.specs.declared.answers.End.{End}
use Rattle.sci_ops.specs.Plan.{exchange}
use Rattle.sci_ops.specs.Table.{move, write}
use Rattle.sci_ops.proofs.Staged.{allowed_in}
use Rattle.sci_ops.proofs.Took.{taken_as, if_so, if_not}
use Rattle.sci_ops.proofs.turns.writing.write.Goals as goal

-- a goal that is no write leaves the line as it is
gives_back : (goal : Goal) (l : Line) → ((w : Write) → goal ≡ Goal.Write w → ⊥) → write goal l ≡ move (Event.Written None)
gives_back Goal.Load l h = refl
gives_back Goal.Evict l h = refl
gives_back (Goal.Write w) l h = absurd (h w refl)

counts : (l : Line) → l.stamp < 18446744073709551615 → can_count l ≡ true
counts l h = grind (arith, nat_tests, h)

counts_no_more : (l : Line) → 18446744073709551615 ≤ l.stamp → can_count l ≡ false
counts_no_more l h = grind (arith, nat_tests, h)

pub go_on-requires : goal.go_on-requires
go_on-requires g c = record { allowed = allowed_in (g.P.Port.way c.args.port.now) (Event.Written None) _ _ (c.requires.step) refl; fits = tt }

pub returns-in_default : goal.returns-in_default
returns-in_default g c = record { calls = taken_as (gives_back _ _ c.in_default.not-Write) (c.go_on.ensures _); stamp = omega arith }

pub exchange-requires-clause-allowed : goal.exchange-requires-clause-allowed
exchange-requires-clause-allowed g c = allowed_in (g.P.Port.way c.args.port.now) (Event.Written (Some c.change-words.result)) _ _ c.requires.step (counts c.args.line.now c.if-can_count.true)

pub exchange-requires-else-can_count : goal.exchange-requires-else-can_count
exchange-requires-else-can_count g c = record { allowed = allowed_in (g.P.Port.way c.args.port.now) (Event.Written None) _ _ (c.requires.step) refl; fits = tt }

pub returns-then-can_count : goal.returns-then-can_count
returns-then-can_count g c = record { calls = taken_as (ap (λ (x : Goal). write x c.args.line.now) c.in-Write.is ∙ if_so _ _ _ (counts c.args.line.now c.if-can_count.true) ∙ ap (λ (words : List ℕ). exchange (Event.Written (Some words)) (End.Wrote c.args.line.now.words (c.args.line.now.stamp + 1))) (sym c.change-words.ensures)) c.exchange.ensures; stamp = omega arith }

pub returns-else-can_count : goal.returns-else-can_count
returns-else-can_count g c = record { calls = taken_as (ap (λ (x : Goal). write x c.args.line.now) c.in-Write.is ∙ if_not _ _ _ (counts_no_more c.args.line.now c.if-can_count.false)) c.exchange-else-can_count.ensures; stamp = omega arith }
