-- A turn's calls by a port's own relation, and by one that says less of each call.
use Rattle.std.proofs.Common.{ℕ, List, [], ◌∷◌}
use Rattle.sci_core.specs.declared.pending.Pending.{Pending}
use Rattle.sci_port.specs.declared.calls.Call.{Call}
use Rattle.sci_port.specs.Call.{Chain}
use Rattle.sci_ops.specs.declared.answers.Turn.{Turn}
use Rattle.sci_ops.specs.Answers.{IsAnswer, ChainTo, AnswersAt}
use Rattle.sci_ops.specs.Operation.{Operation}
use Rattle.sci_ops.specs.Plan.{Plan, Takes}

module _ {S : Type 0} {gives less : S → Call → S → Type 0} (each : (s : S) (c : Call) (t : S) → gives s c t → less s c t) where
  chain_less : (cs : List Call) (s t : S) → Chain gives s cs t → Chain less s cs t
  chain_less [] s t h = h
  chain_less (c ∷ cs) s t (mid, h, rest) = (mid, each s c mid h, chain_less cs mid t rest)

  pub takes_less : {plan : Plan} {s : S} {turn : Turn} {t : S} → Takes gives plan s turn t → Takes less plan s turn t
  takes_less {s = s} {t = t} h = record { calls = h.calls; chain = chain_less h.calls s t h.chain; follows = h.follows }

  chain_to_less : (says : S → Call → Type 0) (cs : List Call) (s t : S) → ChainTo gives says s cs t → ChainTo less says s cs t
  chain_to_less says [] s t h = h
  chain_to_less says (c ∷ []) s t h = (each s c t h.0, h.1)
  chain_to_less says (c ∷ d ∷ cs) s t (mid, h, rest) = (mid, each s c mid h, chain_to_less says (d ∷ cs) mid t rest)

  pub answers_less : (at_step : S → Pending) (op : Operation) (me : ℕ) (s : S) (turn : Turn) (t : S) → AnswersAt gives at_step op me s turn t → AnswersAt less at_step op me s turn t
  answers_less at_step op me s (Turn.Done a) t h = λ none. let b = h none in record { calls = b.calls; chain = chain_to_less (λ u call. IsAnswer op.goal a (at_step u) call) b.calls s t b.chain; follows = b.follows }
  answers_less at_step op me s Turn.Moved t h = tt
  answers_less at_step op me s Turn.Waiting t h = tt
