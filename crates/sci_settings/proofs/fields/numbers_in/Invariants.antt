use Rattle.std.proofs.Common.{◌≡◌, drop, length}
use Rattle.toml.specs.View.{items_view}
use Rattle.sci_settings.specs.Settings.{numbers_in}
use Rattle.sci_settings.proofs.Items.{with_front}
use Rattle.sci_settings.proofs.fields.numbers_in.Given as goal

-- the numbers so far and those of what is left are those of all, and each value so far is one of them
abbrev pub invariant-loop-value : goal.invariant-loop-value
invariant-loop-value l = (length l.items.items ≡ l.value-index) × (numbers_in (items_view l.array) ≡ with_front l.items.items (numbers_in (items_view (drop l.value-index l.array))))
