-- The parts that the words of a note share. This project's profile.
use Rattle.std.specs.Prelude.{ℕ, List, [], ◌++◌, Option, Some, None, codes}
use Rattle.std.specs.Fmt.{decimal}
use Rattle.sci_words.specs.declared.tags.Tag.{Tag}
use Rattle.sci_words.specs.Tag.{name_of}
use Rattle.sci_port.specs.declared.watching.Load.{Load}
use Rattle.sci_script.specs.Text.{held_text}

-- a link: a node, or `none`
abbrev pub link_word : Option ℕ → List ℕ
link_word None = codes "none"
link_word (Some node) = decimal node

-- the node whose tag was loaded last, where one was
abbrev pub of_text : Option Load → List ℕ
of_text (Some (Load.Tag node tag)) = decimal node ++ codes " "
of_text _ = []

-- the tag that an event found: `NAME` of the own tag, `N NAME` of another node's
abbrev pub found_text : Option Load → Tag → List ℕ
found_text load tag = of_text load ++ name_of tag

-- `node N is NAME forw F back B`, and ` held`
abbrev pub tag_text : ℕ → Tag → List ℕ
tag_text node tag =
    codes "node " ++ decimal node ++ codes " is " ++ name_of tag ++ codes " forw " ++ link_word tag.forw ++ codes " back " ++ link_word tag.back ++ held_text tag.held
