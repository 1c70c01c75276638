-- The tag that a word is read as.
use Rattle.std.proofs.Common.{◌≡◌, ℕ, true, false, Option, Some, None, refl, sym, ap, ◌∙◌, subst}
use Rattle.sci_words.specs.declared.layouts.Layout.{Layout}
use Rattle.sci_words.specs.declared.refusals.WordRefusal.{WordRefusal}
use Rattle.sci_words.specs.declared.tags.Tag.{Tag}
use Rattle.sci_words.specs.Refused.{tag_refusal_in}
use Rattle.sci_words.specs.Codes.{tag_in, tag_code_in}
use Rattle.sci_words.specs.Layout.{no_link}
use Rattle.sci_words.specs.Tag.{is_invalid, tag_links_below}
use Rattle.sci_words.proofs.Codes.{tag_in-code}
use Rattle.sci_dump.specs.Reading.{sharer, tag_of}

module _ (layout : Layout) where
  meant : (word : ℕ) (t : Tag) → tag_code_in layout t ≡ word → tag_links_below (no_link layout) t ≡ true → tag_in layout word ≡ t
  meant word t code links = ap (λ (w : ℕ). tag_in layout w) (sym code) ∙ tag_in-code layout t links

  kept : (t : Tag) → is_invalid t.kind ≡ false → sharer None t ≡ Some t
  kept t h = rw h refl

  dropped : (t : Tag) → is_invalid t.kind ≡ true → sharer None t ≡ None
  dropped t h = rw h refl

  both_read : (r : Option WordRefusal) (u t : Tag) (read : Option Tag) → r ≡ None → u ≡ t → sharer None t ≡ read → sharer r u ≡ read
  both_read r u t read none e h = subst (λ (x : Option WordRefusal). sharer x u ≡ read) (sym none) (subst (λ (x : Tag). sharer None x ≡ read) (sym e) h)

  pub tag_read : (word : ℕ) (t : Tag) → tag_refusal_in layout word ≡ None → tag_code_in layout t ≡ word → tag_links_below (no_link layout) t ≡ true → is_invalid t.kind ≡ false → tag_of layout word ≡ Some t
  unfolding tag_of
  tag_read word t none code links other = both_read (tag_refusal_in layout word) (tag_in layout word) t (Some t) none (meant word t code links) (kept t other)

  pub invalid_read : (word : ℕ) (t : Tag) → tag_refusal_in layout word ≡ None → tag_code_in layout t ≡ word → tag_links_below (no_link layout) t ≡ true → is_invalid t.kind ≡ true → tag_of layout word ≡ None
  unfolding tag_of
  invalid_read word t none code links it = both_read (tag_refusal_in layout word) (tag_in layout word) t None none (meant word t code links) (dropped t it)

  pub refused_read : (word : ℕ) (e : WordRefusal) → tag_refusal_in layout word ≡ Some e → tag_of layout word ≡ None
  unfolding tag_of
  refused_read word e some = subst (λ (x : Option WordRefusal). sharer x (tag_in layout word) ≡ None) (sym some) refl
