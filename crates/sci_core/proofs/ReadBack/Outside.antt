-- What a node outside the chain is.
use Rattle.std.proofs.Common.{◌≡◌, ◌⊎◌, ℕ, true, Some, List, ⊎_elim, inl, inr, arith}
use Rattle.sci_words.specs.declared.tags.Kind.{Kind}
use Rattle.sci_core.specs.declared.pending.Pending.{Pending}
use Rattle.sci_core.specs.State.{State}
use Rattle.sci_core.specs.Shape.{Phase, shape, phase_of, kept_of}
use Rattle.sci_core.specs.Law.{Law, Witness, suits, may_be_outside}
use Rattle.sci_core.specs.Outside.{IsClearing, IsOutsider, HasOnlyOutsidersOutside}
use Rattle.sci_core.proofs.ReadBack.Ranked.{Stands}

pub clearing : (p : Pending) (i : ℕ) → phase_of p ≡ Phase.Clearing → kept_of p ≡ Some i → IsClearing p i
clearing (Pending.Clearing l v w) i h k = grind (arith, k)
clearing _ i h k = absurd (grind (arith, h))

cases_outside : (p : Phase) (k : Kind) → suits p k ≡ true → may_be_outside p k ≡ true → ((k ≡ Kind.Invalid) × (p ≡ Phase.Idle)) ⊎ (((k ≡ Kind.Queued) × (p ≡ Phase.Queueing)) ⊎ ((k ≡ Kind.Leaving) × ((p ≡ Phase.WritingBack) ⊎ (p ≡ Phase.Parted))) ⊎ ((k ≡ Kind.Roll) × (p ≡ Phase.Unlinked))) ⊎ (k ≡ Kind.Purged)
cases_outside p k h m = grind (arith, h, m)

module _ (s : State) (g : Witness) (o : Law (shape s) g) where
  outsider : (i : ℕ) → g.rank i ≡ 0 → IsOutsider s i
  outsider i z = ⊎_elim (λ a. inl a) (λ b. ⊎_elim (λ a. inr (inl a)) (λ k. inr (inr (k, (g.clearer i, clearing (s.steps (g.clearer i)) i (o.outside.cleared i z k) (o.outside.cleared_by i z k))))) b) (cases_outside (phase_of (s.steps i)) (s.tags i).kind (o.own.suited i) (o.outside.may_be i z))

  pub outside_of_law : (nodes : List ℕ) → Stands g.rank nodes → HasOnlyOutsidersOutside s nodes
  outside_of_law nodes r i n = outsider i (let h = r.holds i in let o : ℕ = 0 in let r : ℕ = 0 in grind (arith, h, n))
