use Rattle.std.proofs.Common.{decimal}
use Rattle.sci_words.specs.Tag.{name_of}
use Rattle.sci_script.specs.Text.{held_text}
use Rattle.sci_trace.specs.NoteText.{note_bytes}
use Rattle.sci_trace.specs.Short.{short_bytes}
use Rattle.sci_trace.specs.Words.{link_word}
use Rattle.sci_trace.proofs.Pushing.{tag_pushed}
use Rattle.sci_trace.proofs.words.push_tag.Goals as goal

pub returns : goal.returns
returns c =
    let tag = c.args.tag in
    tag_pushed c.push_held.result (note_bytes c.args.text.now) (note_bytes c.push_node.new.text) (note_bytes c.push_short.new.self) (note_bytes c.push_link.new.text) (note_bytes c.push_link-2.new.text)
    (note_bytes c.push_held.new.text) (decimal c.args.node) (short_bytes c.tag_name.result) (name_of tag) (link_word tag.forw) (link_word tag.back) (held_text tag.held)
    c.tag_name.ensures c.in_ok-push_node.ensures c.in_ok-push_short.ensures c.in_ok-push_link.ensures c.in_ok-push_link-2.ensures c.push_held.ensures
