-- What an event would change, from its outline; and the tag of a word.
use Rattle.std.proofs.Common.{◌≡◌, ◌∙◌, ℕ, true, Option, Some, None, ap, sym, subst, refl}
use Rattle.sci_words.specs.declared.tags.Tag.{Tag}
use Rattle.sci_words.specs.declared.layouts.Layout.TheVariants.{Two}
use Rattle.sci_words.specs.declared.refusals.WordRefusal.{WordRefusal}
use Rattle.sci_words.specs.Codes.{tag_code, tag_in}
use Rattle.sci_words.specs.Tag.{tag_links_below}
use Rattle.sci_words.specs.Refused.{tag_refusal_in}
use Rattle.sci_words.proofs.Codes.{tag_in-code}
use Rattle.sci_core.specs.declared.lines.Line.{Line}
use Rattle.sci_core.specs.declared.pending.Pending.{Pending}
use Rattle.sci_core.specs.declared.events.Event.{Event}
use Rattle.sci_core.specs.declared.outlines.Outline.{Outline}
use Rattle.sci_core.specs.declared.stages.Stage.{Stage}
use Rattle.sci_core.specs.Shape.{line_of}
use Rattle.sci_core.specs.Stage.{pending_of, stage_of, outline_of}
use Rattle.sci_core.specs.Table.{row_of}
use Rattle.sci_core.proofs.Laying.{whole_step}
use Rattle.sci_logs.specs.Names.{coded, tag_of}

pub change_at : (o : Outline) (stage : Stage) (p : Pending) (me : ℕ) (e : Event) → stage ≡ stage_of p → ((l : Line) → o ≡ outline_of (row_of me (pending_of stage l) e)) → o.change ≡ (row_of me p e).change
change_at o stage p me e is each = ap (λ (x : Outline). x.change) (each (line_of p))
    ∙ ap (λ (s : Stage). (row_of me (pending_of s (line_of p)) e).change) is
    ∙ ap (λ (q : Pending). (row_of me q e).change) (whole_step p)

pub tag_coded : (word : ℕ) (t : Tag) → tag_refusal_in Two word ≡ None → tag_code t ≡ word → tag_links_below 65535 t ≡ true → tag_of word ≡ Some t
tag_coded word t none code links = subst (λ (x : Option WordRefusal). coded x (tag_in Two word) ≡ Some t) (sym none)
    (ap (λ (x : Tag). Some x) (ap (λ (w : ℕ). tag_in Two w) (sym code) ∙ tag_in-code Two t links))

pub tag_refused : (word : ℕ) (e : WordRefusal) → tag_refusal_in Two word ≡ Some e → tag_of word ≡ None
tag_refused word e some = subst (λ (x : Option WordRefusal). coded x (tag_in Two word) ≡ None) (sym some) refl
