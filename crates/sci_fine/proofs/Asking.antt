-- What a row of a node's step asks: its word and its slot are those of nodes, its words are well formed.
use Rattle.std.proofs.Common.{◌≡◌, ℕ, ◌<◌, ◌+◌, true, List, refl, sym, subst, arith, rules, ap, ◌∙◌}
use Rattle.sci_core.specs.declared.pending.Pending.{Pending}
use Rattle.sci_core.specs.declared.events.Event.{Event}
use Rattle.sci_core.specs.declared.rows.Change.{Change}
use Rattle.sci_core.specs.declared.rows.Change.TheVariants.{OfMemory, OfTag}
use Rattle.sci_core.specs.declared.outlines.Outline.{Outline}
use Rattle.sci_core.specs.Answers.{is_allowed}
use Rattle.sci_core.specs.Ranges.{ChangesBelow}
use Rattle.sci_core.specs.Row.{Row}
use Rattle.sci_core.specs.Stage.{outline_of}
use Rattle.sci_core.specs.Table.{has_row, row_of}
use Rattle.sci_core.specs.WellFormed.{FindsWellFormed, LeavesWellFormed}
use Rattle.sci_core.proofs.Forming.{forms}
use Rattle.sci_core.proofs.Ranges.{row_below}
use Rattle.sci_core.proofs.Lawfully.{lawful_line}
use Rattle.sci_core.proofs.Sound.{tag_links}
use Rattle.sci_port.specs.Owes.{IsSoundStep}
use Rattle.sci_port.proofs.Lent.{is_sound}
use Rattle.sci_fine.specs.Standings.{IsStanding}
use Rattle.sci_fine.specs.Steps.{place_of, before_of, after_of, HasLinks}
use Rattle.sci_fine.proofs.Forms.{asks_formed}

place_in : (n : ℕ) (c : Change) → ChangesBelow n c → place_of c < n + 1
place_in n (OfMemory before after) h = omega arith
place_in n (OfTag x before after) h = omega arith

module _ (n : ℕ) (fits : List ℕ → Type 0) (me : ℕ) (p : Pending) (o : IsStanding n fits me p) (e : Event) (turn : has_row n me p e ≡ true) (c : Change) (is : c ≡ (row_of me p e).change) where
  pub words_formed : FindsWellFormed c × LeavesWellFormed c
  words_formed =
      let before : FindsWellFormed (row_of me p e).change = asks_formed n fits o.state o.ruled me p e o.step turn in
      subst (λ (c : Change). FindsWellFormed c × LeavesWellFormed c) (sym is) (before, forms n me p e turn before)

  pub place_near : place_of c < n + 1
  place_near = place_in n c (subst (λ (c : Change). ChangesBelow n c) (sym is) (row_below n o.state o.ruled.links me o.below p e o.step).change)

-- the codes of an outline are those of its row
pub codes_of : (r q : Row) (o : Outline) (i old new : ℕ) → o ≡ outline_of r → q ≡ r → i ≡ place_of o.change → old ≡ before_of o.change → new ≡ after_of o.change → HasLinks o.change → (i ≡ place_of q.change) × (old ≡ before_of q.change) × (new ≡ after_of q.change) × HasLinks q.change
codes_of r q o i old new is at here before after links =
    let same : o.change ≡ q.change = ap (λ (x : Outline). x.change) is ∙ sym (ap (λ (x : Row). x.change) at) in
    (here ∙ ap place_of same, before ∙ ap before_of same, after ∙ ap after_of same, subst HasLinks same links)

-- a step that a node has on a lawful line is a sound one
pub sound_of : (n : ℕ) (fits : List ℕ → Type 0) (me : ℕ) (p : Pending) → IsStanding n fits me p → IsSoundStep n fits p
sound_of n fits me p o = is_sound n fits o.state me p (o.state.tags me) (sym o.step) refl (o.ruled.words.tags me) (tag_links n o.state o.ruled.links me) (lawful_line n fits o.state o.ruled)

-- an allowed event that is no look has a row
pub row_allowed : (n me : ℕ) (p : Pending) (e : Event) → (e ≡ Event.Look → ⊥) → is_allowed n me p e ≡ true → has_row n me p e ≡ true
row_allowed n me p e other allowed = search rules
