use Rattle.std.proofs.Common.{◌≡◌, ℕ, ◌<◌, true, slice_index_or}
use Rattle.sci_words.specs.declared.tags.Tag.{Tag}
use Rattle.sci_words.specs.Tag.{tag_links_below}
use Rattle.sci_dump.proofs.ranges.show_tags.Given as goal

abbrev pub invariant-loop-tag : goal.invariant-loop-tag
invariant-loop-tag l = (k : ℕ) (d : Tag) → k < l.tag-index → tag_links_below 65535 (slice_index_or l.tags k d) ≡ true
