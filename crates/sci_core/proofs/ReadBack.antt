-- The definitions of a lawful line follow from the law by ranks.
use Rattle.std.proofs.Common.{ℕ, List}
use Rattle.sci_core.specs.State.{State}
use Rattle.sci_core.specs.Shape.{shape}
use Rattle.sci_core.specs.Law.{Law, Witness, Below}
use Rattle.sci_core.specs.Chain.{IsPath, forward}
use Rattle.sci_core.specs.Facts.{RemembersTruly}
use Rattle.sci_core.specs.Headline.{IsCoherent}
use Rattle.sci_core.specs.Lawful.{Lawful, IsLawful}
use Rattle.sci_core.proofs.ReadBack.Ranked.{stands, path}
use Rattle.sci_core.proofs.ReadBack.Chain.{chain_of_law}
use Rattle.sci_core.proofs.ReadBack.Fronts.{fronts_of_law}
use Rattle.sci_core.proofs.ReadBack.PendingStep.{steps_of_law}
use Rattle.sci_core.proofs.ReadBack.Value.{value_of_law}
use Rattle.sci_core.proofs.ReadBack.BackLinks.{back_links_of_law}
use Rattle.sci_core.proofs.ReadBack.Outside.{outside_of_law}
use Rattle.sci_core.proofs.ReadBack.Mode.{mode_of_law}
use Rattle.sci_core.proofs.ReadBack.Slots.{slots_of_law}
use Rattle.sci_core.proofs.ReadBack.Facts.{facts_of_law}
use Rattle.sci_core.proofs.Headline.{headline}
pub mod Elements
pub mod Ranked
pub mod Chain
pub mod LastFront
pub mod PendingStep
pub mod Outside
pub mod BackLinks
pub mod Slots
pub mod Value
pub mod Fronts
pub mod Mode
pub mod Facts

-- the chain, as a list
pub path_of_law : (s : State) (g : Witness) → Law (shape s) g → (nodes : List ℕ) × IsPath s.memory.forw (forward s) nodes
path_of_law s g o = path s.memory.forw (forward s) g.rank o.order

-- a line under the law is lawful, with any list that is its chain
pub lawful_at : (n : ℕ) (fits : List ℕ → Type 0) (s : State) (g : Witness) → Law (shape s) g → Below n (shape s) → fits g.value.words → (nodes : List ℕ) → IsPath s.memory.forw (forward s) nodes → Lawful n fits s nodes g.value
lawful_at n fits s g o b f nodes p =
    let r = stands s.memory.forw (forward s) g.rank o.order nodes p in
    record {
      chain = chain_of_law n s g o b nodes p r;
      fronts = fronts_of_law s g o nodes r p;
      steps = steps_of_law s g o nodes r;
      copies = value_of_law s g o fits f nodes r;
      back_links = back_links_of_law s g o nodes r;
      outside = outside_of_law s g o nodes r;
      mode = mode_of_law s g o nodes r;
      slots = slots_of_law s g o;
    }

pub facts_at : (s : State) (g : Witness) → Law (shape s) g → (nodes : List ℕ) → IsPath s.memory.forw (forward s) nodes → RemembersTruly s nodes
facts_at s g o nodes p = facts_of_law s g o nodes (stands s.memory.forw (forward s) g.rank o.order nodes p)

pub lawful_of_law : (n : ℕ) (fits : List ℕ → Type 0) (s : State) (g : Witness) → Law (shape s) g → Below n (shape s) → fits g.value.words → (nodes : List ℕ) × Lawful n fits s nodes g.value × RemembersTruly s nodes
lawful_of_law n fits s g o b f = let p = path_of_law s g o in (p.0, lawful_at n fits s g o b f p.0 p.1, facts_at s g o p.0 p.1)

pub is_lawful_of_law : (n : ℕ) (fits : List ℕ → Type 0) (s : State) (g : Witness) → Law (shape s) g → Below n (shape s) → fits g.value.words → IsLawful n fits s
is_lawful_of_law n fits s g o b f = let p = path_of_law s g o in (p.0, g.value, lawful_at n fits s g o b f p.0 p.1)

-- and coherent
pub headline_at : (n : ℕ) (s : State) (g : Witness) → Law (shape s) g → Below n (shape s) → (nodes : List ℕ) → IsPath s.memory.forw (forward s) nodes → IsCoherent n s nodes g.value
headline_at n s g o b nodes p = headline n (λ _. Unit {0}) s nodes g.value (lawful_at n (λ _. Unit {0}) s g o b tt nodes p)

pub headline_of_law : (n : ℕ) (s : State) (g : Witness) → Law (shape s) g → Below n (shape s) → (nodes : List ℕ) × IsCoherent n s nodes g.value
headline_of_law n s g o b = let p = path_of_law s g o in (p.0, headline_at n s g o b p.0 p.1)
