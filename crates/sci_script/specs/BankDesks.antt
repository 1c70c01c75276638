-- A desk whose nodes have a bank each. This project's profile.
use Rattle.std.specs.Prelude.{◌≡◌, ℕ, ◌<◌, Bool, is_some, List, length, Some, Ok, slice_get, slice_index_or, slice_set}
use Rattle.sci_core.specs.declared.pending.Pending.{Pending}
use Rattle.sci_port.specs.Banks.{BankWay}
use Rattle.sci_port.specs.declared.calls.Call.{Call}
use Rattle.sci_port.specs.declared.calls.Call.TheVariants.{MemWas, TagWas}
use Rattle.sci_ops.specs.declared.answers.Turn.{Turn}
use Rattle.sci_cache.specs.Nodes.{NodeState, TurnsBy, node_with}
use Rattle.sci_script.specs.declared.commands.Size.{Size}
use Rattle.sci_script.specs.declared.commands.Ask.{Ask}
use Rattle.sci_script.specs.declared.desk.Look.{Look}
use Rattle.sci_script.specs.declared.desk.Toward.{Toward}
use Rattle.sci_script.specs.Event.{Event, Began, Turned, Rested, SawMem, SawTag, Saw}
use Rattle.sci_script.specs.Nodes.{AreNodesOf}
use Rattle.sci_script.specs.Unused.{no_node}

-- the size of the memory, and the banks and the nodes, each by its number
pub record Banked (B : Type 0) : Type 0 where
  pub size : Size
  pub banks : List B
  pub nodes : List NodeState

abbrev pub banked : {B : Type 0} → Size → List B → List NodeState → Banked B
banked size banks nodes = record { size = size; banks = banks; nodes = nodes }

abbrev pub node_at : {B : Type 0} → Banked B → ℕ → NodeState
node_at s node = slice_index_or s.nodes node no_node

-- the node's call is open
abbrev pub banked_is_open : {B : Type 0} → Banked B → ℕ → Bool
banked_is_open s node = is_some (node_at s node).call

module _ {B : Type 0} (way : B → BankWay) (nodes_on : B → ℕ → ℕ) (fits : B → ℕ → List ℕ → Type 0) where
  -- the node's bank of a memory of this size, which takes any words
  pub record IsBankOf (size : Size) (node : ℕ) (b : B) : Type 0 where
    pub node_is : (way b).node ≡ node
    pub lines_are : (way b).lines ≡ size.lines
    pub nodes_are : (line : ℕ) → line < size.lines → nodes_on b line ≡ size.nodes
    pub any : (line : ℕ) (words : List ℕ) → fits b line words

  -- one bank per node, in order
  pub record AreBanksOf (size : Size) (banks : List B) : Type 0 where
    pub count : length banks ≡ size.nodes
    pub each : (node : ℕ) (b : B) → slice_get banks node ≡ Some b → IsBankOf size node b

  -- a bank and a node for each node
  pub record IsBanked (s : Banked B) : Type 0 where
    pub some_are : 0 < s.size.nodes
    pub banks_are : AreBanksOf s.size s.banks
    pub count : length s.nodes ≡ s.size.nodes
    pub nodes_are : AreNodesOf s.size.lines s.nodes

module _ {B : Type 0} (gives : B → ℕ → Call → B → Type 0) (step : B → ℕ → Pending) where
  -- the node's bank is asked this; nothing else changes
  pub record Asks (s : Banked B) (node line : ℕ) (call : Call) (t : Banked B) : Type 0 where
    pub bank : B
    pub after : B
    pub at : slice_get s.banks node ≡ Some bank
    pub made : gives bank line call after
    pub desk : t ≡ record s { banks = slice_set s.banks node after }

  -- a turn of the node's call over its bank; nothing else changes
  pub record TurnsNode (s : Banked B) (node : ℕ) (shown : Turn) (t : Banked B) : Type 0 where
    pub bank : B
    pub after : B
    pub later : NodeState
    pub at : slice_get s.banks node ≡ Some bank
    pub turns : TurnsBy gives step (node_at s node) (node_at s node).call bank (Ok shown) after later
    pub desk : t ≡ record s { banks = slice_set s.banks node after; nodes = slice_set s.nodes node later }

  -- residents are the node's
  abbrev pub banked_has : Banked B → Ask → Look → Type 0
  banked_has s (Ask.Residents node) (Look.Residents who lines) = (who ≡ node) × (lines.items ≡ (node_at s node).residents)

  -- a call begun asks no bank; a turn is that of the node over its bank; the bank of node 0 makes the loads
  abbrev pub banked_does : Banked B → Event → Banked B → Type 0
  banked_does s (Began node request) t = t ≡ record s { nodes = slice_set s.nodes node (node_with (node_at s node) request) }
  banked_does s (Turned node turn) t = TurnsNode s node turn t
  banked_does s (Rested line toward) t = (toward ≡ Toward.Unknown) × (t ≡ s)
  banked_does s (SawMem line mem) t = Asks s 0 line (MemWas mem) t
  banked_does s (SawTag line node tag) t = Asks s 0 line (TagWas node tag) t
  banked_does s (Saw ask look) t = banked_has s ask look × (t ≡ s)
