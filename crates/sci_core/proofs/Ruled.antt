-- What follows for a line that is ruled: it is lawful and coherent, and exact where every step is Idle.
use Rattle.std.proofs.Common.{◌≡◌, ℕ, List}
use Rattle.sci_core.specs.declared.pending.Pending.{Pending}
use Rattle.sci_core.specs.State.{State}
use Rattle.sci_core.specs.Whole.{IsRuled}
use Rattle.sci_core.specs.Chain.{IsPath, forward}
use Rattle.sci_core.specs.Exact.{IsExact}
use Rattle.sci_core.specs.Step.{line_in}
use Rattle.sci_core.specs.Facts.{RemembersTruly}
use Rattle.sci_core.specs.Headline.{IsCoherent}
use Rattle.sci_core.specs.Lawful.{Lawful, IsLawful}
use Rattle.sci_core.proofs.Idle.{exact_of_law}
use Rattle.sci_core.proofs.ReadBack.{path_of_law, lawful_at, facts_at, headline_at}

module _ (n : ℕ) (fits : List ℕ → Type 0) (s : State) (r : IsRuled n fits s) where
  pub ruled_path : (nodes : List ℕ) × IsPath s.memory.forw (forward s) nodes
  ruled_path = path_of_law s r.witness r.law

  pub ruled_is_lawful : IsLawful n fits s
  ruled_is_lawful = (ruled_path.0, r.witness.value, lawful_at n fits s r.witness r.law r.links r.fit ruled_path.0 ruled_path.1)

  module _ (nodes : List ℕ) (path : IsPath s.memory.forw (forward s) nodes) where
    pub ruled_lawful : Lawful n fits s nodes r.witness.value
    ruled_lawful = lawful_at n fits s r.witness r.law r.links r.fit nodes path

    pub ruled_facts : RemembersTruly s nodes
    ruled_facts = facts_at s r.witness r.law nodes path

    pub ruled_coherent : IsCoherent n s nodes r.witness.value
    ruled_coherent = headline_at n s r.witness r.law r.links nodes path

    pub ruled_exact : ((i : ℕ) → s.steps i ≡ Pending.Idle) → IsExact n s.memory (line_in s.memory_slot) s.tags (λ i. line_in (s.slots i)) nodes
    ruled_exact idle = exact_of_law n s r.witness r.law r.links idle nodes path
