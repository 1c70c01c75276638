use Rattle.std.proofs.Common.{◌≡◌, true, sym, ap, ◌∙◌, subst}
use Rattle.sci_words.specs.declared.tags.Tag.{Tag}
use Rattle.sci_words.specs.Codes.{fits_tag_in}
use Rattle.sci_c.specs.Words.{tag_numbers}
use Rattle.sci_c.proofs.Meant.{tag_parts}
use Rattle.sci_c.proofs.parts.tag_code.Goals as goal

pub write_tag-requires : goal.write_tag-requires
write_tag-requires c = subst (λ (x : Tag). fits_tag_in c.args.layout x ≡ true) (sym c.tag_meant.ensures) ((tag_parts c.args.layout c.args.parts.now c.requires).0)

pub returns : goal.returns
returns c = (c.tag_meant.result, (sym c.write_tag.ensures, subst (λ (x : Tag). fits_tag_in c.args.layout x ≡ true) (sym c.tag_meant.ensures) ((tag_parts c.args.layout c.args.parts.now c.requires).0)), (tag_parts c.args.layout c.args.parts.now c.requires).1 ∙ ap tag_numbers (sym c.tag_meant.ensures))
