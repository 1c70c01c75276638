use Rattle.std.proofs.Common.{◌∙◌, ◌++◌, ap, codes}
use Rattle.sci_script.specs.Text.{entry_text, held_text, link_text}
use Rattle.sci_script.proofs.texts.tag_text.Goals as goal

pub returns : goal.returns
returns c =
    let tag = c.args.tag in
    let named = c.in_ok-push_entry.ensures ∙ ap (λ t. t ++ entry_text (c.args.node, tag)) c.in_ok-text.ensures.ok in
    let forw = c.in_ok-push_link.ensures ∙ ap (λ t. t ++ link_text tag.forw) (c.in_ok-push_str.ensures.bytes ∙ ap (λ t. t ++ codes " forw ") named) in
    let back = c.in_ok-push_link-2.ensures ∙ ap (λ t. t ++ link_text tag.back) (c.in_ok-push_str-2.ensures.bytes ∙ ap (λ t. t ++ codes " back ") forw) in
    c.in_ok-push_str-3.ensures.bytes ∙ ap (λ t. t ++ codes "\n") (c.in_ok-push_held.ensures ∙ ap (λ t. t ++ held_text tag.held) back)
