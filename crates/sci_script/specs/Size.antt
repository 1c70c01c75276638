-- What a script's memory has, and which commands fit it. This project's profile.
use Rattle.std.specs.Prelude.{◌≡◌, ◌<◌, ◌≤◌, ℕ, Bool, true, ◌&&◌, nat_eq, nat_lt, List}
use Rattle.std.specs.List.{list_all}
use Rattle.sci_core.specs.declared.whole.TheConstants.{MOST_NODES}
use Rattle.sci_script.specs.declared.commands.Size.{Size}
use Rattle.sci_script.specs.declared.commands.Request.{Request}
use Rattle.sci_script.specs.declared.commands.Request.TheVariants.{Load, Store, Add, Evict}
use Rattle.sci_script.specs.declared.commands.Ask.{Ask}
use Rattle.sci_script.specs.declared.commands.Step.{Step}
use Rattle.sci_script.specs.declared.commands.Command.{Command}
use Rattle.sci_script.specs.declared.desk.Toward.{Toward}
use Rattle.sci_script.specs.declared.said.Read.{Read}
use Rattle.sci_script.specs.declared.said.Read.TheVariants as reads
use Rattle.sci_script.specs.declared.commands.Command.TheVariants.{Begin, Turn, Done, Rest, End, List as ListLine, Tag as ShowTag, Show}

-- 1 to 1,024 nodes, 1 to 1,024 lines
pub record IsSize (size : Size) : Type 0 where
  pub some_nodes : 1 ≤ size.nodes
  pub few_nodes : size.nodes ≤ MOST_NODES
  pub some_lines : 1 ≤ size.lines
  pub few_lines : size.lines ≤ 1024

-- a node may name 1 to 1,024 lines
abbrev pub IsCapacity : ℕ → Type 0
IsCapacity capacity = (1 ≤ capacity) × (capacity ≤ 1024)

-- a request of a word that a line has
abbrev pub is_request : Request → Bool
is_request (Load word) = nat_lt word 8
is_request (Store word value) = nat_lt word 8
is_request (Add word delta) = nat_lt word 8
is_request Evict = true

-- nodes, lines and words that there are are asked for
abbrev pub is_ask : Size → Ask → Bool
is_ask size (Ask.Residents node) = nat_lt node size.nodes

-- a command of nodes, lines and words that there are
abbrev pub is_in : Size → Command → Bool
is_in size (Begin node line request) = nat_lt node size.nodes && (nat_lt line size.lines && is_request request)
is_in size (Turn node) = nat_lt node size.nodes
is_in size (Done node) = nat_lt node size.nodes
is_in size (Rest lines) = nat_eq lines size.lines
is_in size (End nodes lines) = nat_eq nodes size.nodes && nat_eq lines size.lines
is_in size (ListLine line) = nat_lt line size.lines
is_in size (ShowTag line node) = nat_lt line size.lines && nat_lt node size.nodes
is_in size (Show ask) = is_ask size ask

abbrev pub IsIn : Size → Command → Type 0
IsIn size command = is_in size command ≡ true

abbrev pub AreIn : Size → List Step → Type 0
AreIn size steps = list_all (λ step. is_in size step.command) steps ≡ true

-- what a line says is of what there is
abbrev pub IsReadIn : Size → Read → Type 0
IsReadIn size (reads.Memory said) = IsSize said
IsReadIn size (reads.Capacity capacity) = IsCapacity capacity
IsReadIn size (reads.Open opening) = Unit {0}
IsReadIn size (reads.Command command) = IsIn size command

-- who takes a turn towards rest is one of n nodes
abbrev pub IsBelow : ℕ → Toward → Type 0
IsBelow n (Toward.Turned node) = node < n
IsBelow n toward = Unit {0}
