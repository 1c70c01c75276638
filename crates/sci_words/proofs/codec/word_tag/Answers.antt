use Rattle.std.proofs.Common.{◌∙◌, ◌*◌, ◌-◌, ◌/◌, ◌^◌, ap, sym, nat_eq, Some, Ok, Err}
use Rattle.std.specs.Result.{result_err}
use Rattle.sci_words.specs.declared.tags.Tag.{Tag}
use Rattle.sci_words.specs.declared.refusals.WordRefusal.TheVariants.{UnknownKind, SpareBits}
use Rattle.sci_words.specs.Codes.{kind_of}
use Rattle.sci_words.specs.Refused.{tag_refused}
use Rattle.sci_words.specs.Layout.{field, kind_field, link_width, no_link}
use Rattle.sci_words.specs.Tag.{link_below, tag_well_formed, tag_links_below, misses_link, has_unwanted_link, is_held_wrongly}
use Rattle.std.proofs.lemmas.Result.{err_from_is_err_and}
use Rattle.sci_words.proofs.Codes.{and_both}
use Rattle.sci_words.proofs.Reading.{unknown_first, spare_next, none_above, some_within, none_found, low_bits, high_bits, means_tag, tag_checked, tag_of_code, tag_code_read}
use Rattle.sci_words.proofs.codec.word_tag.Goals as goal
use Rattle.sci_words.proofs.codec.word_tag.Goals.{then-gap-ne0-via-then-gap-ne0, then-gap-ne0-via-else-gap-ne0+then-behind_tag-ne0}

pub returns-in_default-clause-lowest_refusal : goal.returns-in_default-clause-lowest_refusal
returns-in_default-clause-lowest_refusal c = unknown_first (tag_refused c.args.layout c.args.word) (none_above 9 c.read.result (kind_field c.args.word) (kind_of c.read.result) c.read.ensures c.in_default.ensures.kind)

pub returns-in_default-clause-of_code : goal.returns-in_default-clause-of_code
returns-in_default-clause-of_code c = tag_of_code c.args.layout c.args.word (Err UnknownKind) (returns-in_default-clause-lowest_refusal c) tt tt

pub returns-then-gap-ne0-clause-lowest_refusal : goal.returns-then-gap-ne0-clause-lowest_refusal
returns-then-gap-ne0-clause-lowest_refusal c =
    let l = c.args.layout in
    let gap = field 5 (link_width l - 5) c.args.word in
    let behind = c.args.word / 2 ^ (3 * link_width l) in
    spare_next (tag_refused l c.args.word) (some_within 9 c.read.result (kind_field c.args.word) c.in-Some.kind (kind_of c.read.result) c.read.ensures c.in-Some.ensures.kind) (elim c.then-gap-ne0.branch [
      | then-gap-ne0-via-then-gap-ne0 w ↦ low_bits gap behind (λ e. w.if-gap-ne0.true (c.gap.ensures ∙ e))
      | then-gap-ne0-via-else-gap-ne0+then-behind_tag-ne0 w ↦ high_bits gap behind (λ e. w.if-behind_tag-ne0.true (w.behind_tag.ensures ∙ e))
    ])

pub returns-then-gap-ne0-clause-of_code : goal.returns-then-gap-ne0-clause-of_code
returns-then-gap-ne0-clause-of_code c = tag_of_code c.args.layout c.args.word (Err SpareBits) (returns-then-gap-ne0-clause-lowest_refusal c) tt tt

pub returns-in_err-check-clause-lowest_refusal : goal.returns-in_err-check-clause-lowest_refusal
returns-in_err-check-clause-lowest_refusal c =
    let l = c.args.layout in
    let t : Tag = record { kind = c.in-Some.kind; held = nat_eq c.read-2.result 1; forw = c.link_numbered.result; back = c.link_numbered-2.result } in
    let h = means_tag l c.args.word c.in-Some.kind c.read.result c.gap.result c.behind_tag.result c.read-2.result c.forw.result c.back.result c.link_numbered.result c.link_numbered-2.result c.read.ensures c.in-Some.ensures.kind c.gap.ensures c.if-gap-ne0.false
    c.behind_tag.ensures c.if-behind_tag-ne0.false c.read-2.ensures c.forw.ensures.number c.link_numbered.ensures.link c.back.ensures.number c.link_numbered-2.ensures.link in
    let p = err_from_is_err_and c.from_residual.result c.from_residual.ensures.1 in
    ap result_err p.1 ∙ ap Some p.2 ∙ tag_checked l c.args.word t (Err c.in_err-check.field-0.0) h c.in_err-check.ensures

pub returns-in_err-check-clause-of_code : goal.returns-in_err-check-clause-of_code
returns-in_err-check-clause-of_code c =
    let p = err_from_is_err_and c.from_residual.result c.from_residual.ensures.1 in
    λ t h d. p.1 ∙ tag_of_code c.args.layout c.args.word (Err p.0) (sym (ap result_err p.1) ∙ returns-in_err-check-clause-lowest_refusal c) tt tt t h d

pub returns-clause-lowest_refusal : goal.returns-clause-lowest_refusal
returns-clause-lowest_refusal c =
    let l = c.args.layout in
    let t : Tag = record { kind = c.in-Some.kind; held = nat_eq c.read-2.result 1; forw = c.link_numbered.result; back = c.link_numbered-2.result } in
    let h = means_tag l c.args.word c.in-Some.kind c.read.result c.gap.result c.behind_tag.result c.read-2.result c.forw.result c.back.result c.link_numbered.result c.link_numbered-2.result c.read.ensures c.in-Some.ensures.kind c.gap.ensures c.if-gap-ne0.false
    c.behind_tag.ensures c.if-behind_tag-ne0.false c.read-2.ensures c.forw.ensures.number c.link_numbered.ensures.link c.back.ensures.number c.link_numbered-2.ensures.link in
    tag_checked l c.args.word t (Ok tt) h c.in_ok-check.ensures

pub returns-clause-code : goal.returns-clause-code
returns-clause-code c =
    tag_code_read c.args.layout c.args.word _ c.read-2.result _ _ c.gap.result c.behind_tag.result (c.in-Some.ensures.number ∙ c.read.ensures) c.gap.ensures c.if-gap-ne0.false c.behind_tag.ensures c.if-behind_tag-ne0.false c.read-2.ensures
    (c.link_numbered.ensures.number ∙ c.forw.ensures.number) (c.link_numbered-2.ensures.number ∙ c.back.ensures.number)

pub returns-clause-fits : goal.returns-clause-fits
returns-clause-fits c =
    let n = no_link c.args.layout in
    let t : Tag = record { kind = c.in-Some.kind; held = nat_eq c.read-2.result 1; forw = c.link_numbered.result; back = c.link_numbered-2.result } in
    let links = and_both (link_below n c.link_numbered.result) (link_below n c.link_numbered-2.result) c.link_numbered.ensures.below c.link_numbered-2.ensures.below in
    and_both (tag_well_formed t) (tag_links_below n t) (none_found (misses_link t) (has_unwanted_link t) (is_held_wrongly t) c.in_ok-check.ensures) links

pub returns-clause-of_code : goal.returns-clause-of_code
returns-clause-of_code c =
    let t : Tag = record { kind = c.in-Some.kind; held = nat_eq c.read-2.result 1; forw = c.link_numbered.result; back = c.link_numbered-2.result } in
    tag_of_code c.args.layout c.args.word (Ok t) (returns-clause-lowest_refusal c) (returns-clause-code c) (returns-clause-fits c)
