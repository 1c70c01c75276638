use Rattle.std.proofs.Common.{◌≡◌, ℕ, ◌+◌, List, replicate, set, ap, ◌∙◌}
use Rattle.sci_fine.specs.Rule.{lies_at}
use Rattle.sci_fine.proofs.opening.home_words.Goals as goal

laid : (ws : List ℕ) (k k' tag tag' mem mem' : ℕ) → ws ≡ replicate k tag → k ≡ k' → tag ≡ tag' → mem ≡ mem' → set ws 0 mem ≡ set (replicate k' tag') 0 mem'
laid ws k k' tag tag' mem mem' filled long same_tag same_mem = (λ i. set (filled i) 0 (same_mem i)) ∙ (λ i. set (replicate (long i) (same_tag i)) 0 mem')

pub returns : goal.returns
returns c =
    laid c.in_ok-words.words.items _ _ _ _ _ _ (c.in_ok-words.ensures.items_if_clones_equal (λ y e. e)) (c.lies_at-count.ensures ∙ ap (λ (z : ℕ). lies_at (z + 1)) c.from.ensures) c.write_tag.ensures.code c.write_mem.ensures.code
