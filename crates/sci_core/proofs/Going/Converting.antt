-- The rows of a fresh head on its way to write.
use Rattle.std.proofs.lemmas.Bool.{false≢true}
use Rattle.std.proofs.Common.{◌≡◌, ℕ, true, false, Bool, Option, Some, None, refl, ap}
use Rattle.sci_words.specs.declared.tags.Kind.{Kind}
use Rattle.sci_words.specs.declared.tags.Tag.{Tag}
use Rattle.sci_core.specs.declared.pending.Pending.{Pending}
use Rattle.sci_core.specs.declared.events.Event.{Event}
use Rattle.sci_core.specs.State.{State, word}
use Rattle.sci_core.specs.Shape.{phase_of}
use Rattle.sci_core.specs.Law.{Witness, has_slot}
use Rattle.sci_core.specs.Row.{listed}
use Rattle.sci_core.specs.Step.{line_in}
use Rattle.sci_core.specs.Table.Converting.{converting_allows, converting_row}
use Rattle.sci_core.proofs.Going.Forms.{Going, Turn, FindsRow}
use Rattle.sci_core.proofs.Going.Facts.{slot_home}
use Rattle.sci_core.proofs.Keeping.FreshToGone.{fresh_to_gone_keeps_law, fresh_to_gone_keeps_links}
use Rattle.sci_core.proofs.Keeping.Converted.{converted_keeps_law, converted_keeps_links}
use Rattle.sci_core.proofs.Keeping.Unconverted.{unconverted_keeps_law, unconverted_keeps_links}

module _ (n : ℕ) (s : State) (g : Witness) (me : ℕ) where
  fresh_to_gone_goes : (f : Option ℕ) → Turn n s g me (Pending.Converting f false) → s.memory ≡ listed false me → Going n s g me Event.FreshToGone (converting_row me f Event.FreshToGone)
  fresh_to_gone_goes f t word = record {
    home = tt;
    after = g;
    law = fresh_to_gone_keeps_law s g t.law me f t.pending word;
    links = fresh_to_gone_keeps_links n s t.links me t.below f t.pending word;
    value = refl;
  }

  converted_goes : (f : Option ℕ) → Turn n s g me (Pending.Converting f true) → s.tags me ≡ word Kind.Convert f None → Going n s g me Event.Converted (converting_row me f Event.Converted)
  converted_goes f t me_word =
      let idle : has_slot (phase_of (s.steps me)) ≡ false = ap (λ (p : Pending). has_slot (phase_of p)) t.pending in
      let home : s.slots me ≡ Some (line_in (s.slots me)) = slot_home s g t.law me idle (ap (λ (w : Tag). w.held) me_word) in
      record {
        home = home;
        after = g;
        law = converted_keeps_law s g t.law me f (line_in (s.slots me)) t.pending me_word home;
        links = converted_keeps_links n s t.links me t.below f (line_in (s.slots me)) t.pending me_word;
        value = refl;
      }

  unconverted_goes : (f : Option ℕ) → Turn n s g me (Pending.Converting f false) → s.tags me ≡ word Kind.Convert f None → Going n s g me Event.Unconverted (converting_row me f Event.Unconverted)
  unconverted_goes f t me_word = record {
    home = tt;
    after = g;
    law = unconverted_keeps_law s g t.law me f t.pending me_word;
    links = unconverted_keeps_links n s t.links me t.below f t.pending me_word;
    value = refl;
  }

  pub converting_goes : (f : Option ℕ) (turned : Bool) (e : Event) → Turn n s g me (Pending.Converting f turned) → converting_allows turned e ≡ true → FindsRow s (converting_row me f e) → Going n s g me e (converting_row me f e)
  converting_goes f false Event.FreshToGone t allowed finds = fresh_to_gone_goes f t finds
  converting_goes f true Event.Converted t allowed finds = converted_goes f t finds
  converting_goes f false Event.Unconverted t allowed finds = unconverted_goes f t finds
  converting_goes f turned _ t allowed finds = absurd (false≢true allowed)
