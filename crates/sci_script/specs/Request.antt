-- What the commands that begin a call ask for. This project's profile.
use Rattle.std.specs.Prelude.{ℕ, List, slice_set, replicate}
use Rattle.sci_core.specs.declared.whole.TheConstants.{MOST_NODES}
use Rattle.sci_cache.specs.declared.requests.Request as a_request
use Rattle.sci_script.specs.declared.commands.Request.{Request}
use Rattle.sci_script.specs.declared.commands.Request.TheVariants.{Load, Store, Add, Evict}
use Rattle.sci_script.specs.declared.commands.Command.{Command}
use Rattle.sci_script.specs.declared.commands.Command.TheVariants.{Begin}

-- what the node is asked for
abbrev pub asked : ℕ → Request → a_request.Request
asked line (Load word) = a_request.Request.Load line
asked line (Store word value) = a_request.Request.Store line word value
asked line (Add word delta) = a_request.Request.Add line word delta
asked line Evict = a_request.Request.Evict line

-- for each node the word that its last load is to show, before any load
abbrev pub no_words : List ℕ
no_words = replicate MOST_NODES 0

-- and after a command
abbrev pub words_after : List ℕ → Command → List ℕ
words_after words (Begin node line (Load word)) = slice_set words node word
words_after words _ = words
