-- What a node's thread is started with, and what it ends with. This project's own.
use Rattle.std.specs.Prelude.{◌≡◌, ◌≢◌, ℕ, ◌<◌, ◌≤◌, ◌⊎◌, List, length, Result, Err, IsOk, IfOk, IfErr, OnOk, vec_len}
use Rattle.std.specs.Global.{Vec}
use mathlib.Core.Option.{some}
use lib.ListN.{get_elem?}
use Rattle.sci_core.specs.declared.keeps.Keeps as keeps
use Rattle.sci_fine.specs.declared.line.FineLine.{FineLine}
use Rattle.sci_fine.specs.declared.seats.Seat.{Seat}
use Rattle.sci_fine.specs.Banks.{AreLines}
use Rattle.sci_work.specs.declared.recording.Recording.{Recording}
use Rattle.sci_work.specs.declared.programs.Program.{Program}
use Rattle.sci_work.specs.declared.refusals.WorkRefusal.{WorkRefusal}
use Rattle.sci_work.specs.Hands.{AtEach, HasWrittenNothing, IsHandOf}
use Rattle.sci_work.specs.Programs.{AreWritesOf, Awaits, ComesInPart, IsShareOf, Suits}

-- a node's receipts on each line have the writes of its part alone
abbrev pub HasWrittenAll : {K : Type 0} {g : keeps.Ghosts K} → Program → ℕ → List (Seat K g) → Type 0
HasWrittenAll {K} {g} program number seats = AtEach (λ line s. AreWritesOf program number line s.receipts.list) seats

-- the lines of one memory, the node's seats at them, without writes where receipts are kept, and a program that suits their fact
pub record IsPart {K : Type 0} {g : keeps.Ghosts K} (fits : K → ℕ → List ℕ → Type 0) (recording : Recording) (lines : List (FineLine K)) (program : Program) (number : ℕ) (seats : List (Seat K g)) : Type 0 where
  pub lines_are : AreLines lines
  pub hand : IsHandOf Recording.All lines number seats
  pub begins : recording ≡ Recording.All → HasWrittenNothing seats
  pub suits : (l : FineLine K) → get_elem? lines 0 ≡ some l → Suits program (fits l.terms.keep) (length lines) number

-- the same of each of at most 64 nodes
pub record AreParts {K : Type 0} {g : keeps.Ghosts K} (fits : K → ℕ → List ℕ → Type 0) (recording : Recording) (lines : List (FineLine K)) (program : Program) (hands : Vec (Vec (Seat K g))) : Type 0 where
  pub lines_are : AreLines lines
  pub few : vec_len hands ≤ 64
  pub hands_are : AtEach (λ k hand. IsHandOf Recording.All lines k hand.items) hands.items
  pub begin : recording ≡ Recording.All → AtEach (λ k hand. HasWrittenNothing hand.items) hands.items
  pub suits : (k : ℕ) (l : FineLine K) → k < vec_len hands → get_elem? lines 0 ≡ some l → Suits program (fits l.terms.keep) (length lines) k

-- the node's seats, Idle again, with its receipts where they are kept, and its share, or why there is none
pub record IsPartDone {K : Type 0} {g : keeps.Ghosts K} (recording : Recording) (lines : List (FineLine K)) (program : Program) (number : ℕ) (seats : List (Seat K g)) (share : Result (Vec ℕ) WorkRefusal) : Type 0 where
  pub hand : IsHandOf recording lines number seats
  pub share_is : IfOk share (λ s. IsShareOf program number s.items)
  pub ends : recording ≡ Recording.All → OnOk share (HasWrittenAll program number seats)
  pub refused : IfErr share (ComesInPart program)

-- what so many nodes have ended with: their seats, Idle again, and their shares
pub record AreEnded {K : Type 0} {g : keeps.Ghosts K} (recording : Recording) (lines : List (FineLine K)) (program : Program) (nodes : ℕ) (hands : Vec (Vec (Seat K g))) (shares : Vec (Vec ℕ)) : Type 0 where
  pub hand_count : vec_len hands ≡ nodes
  pub hands_are : AtEach (λ k hand. IsHandOf recording lines k hand.items) hands.items
  pub end : recording ≡ Recording.All → AtEach (λ k hand. HasWrittenAll program k hand.items) hands.items
  pub share_count : vec_len shares ≡ nodes
  pub shares_are : AtEach (λ k share. IsShareOf program k share.items) shares.items

-- a program whose numbers are within the limits refuses with 7, 11, 20 or 26, and with 19 where its nodes await others
abbrev pub ComesInStart : Program → WorkRefusal → Type 0
ComesInStart program WorkRefusal.BadSettings = ⊥
ComesInStart program WorkRefusal.Stopped = ⊥
ComesInStart program WorkRefusal.Overrun = Awaits program
ComesInStart program refusal = Unit {0}

-- a workload never refuses with 25
abbrev pub ComesInRun : WorkRefusal → Type 0
ComesInRun WorkRefusal.Stopped = ⊥
ComesInRun refusal = Unit {0}

-- and a count never with 19
abbrev pub ComesInCount : WorkRefusal → Type 0
ComesInCount WorkRefusal.Stopped = ⊥
ComesInCount WorkRefusal.Overrun = ⊥
ComesInCount refusal = Unit {0}

-- a share, or 25: no refusal of the node's own
abbrev pub IsNoRefusal : Result (Vec ℕ) WorkRefusal → Type 0
IsNoRefusal share = IfErr share (λ e. e ≡ WorkRefusal.Stopped)

-- all of so many nodes were started, and each has its share
abbrev pub HaveEnded : (ℕ → Result (Vec ℕ) WorkRefusal) → ℕ → ℕ → Type 0
HaveEnded shares started nodes = (nodes ≤ started) × ((k : ℕ) → k < started → IsOk (shares k))

-- the refusal of the lowest of so many nodes whose refusal isn't 25
pub record IsLowestRefusal (shares : ℕ → Result (Vec ℕ) WorkRefusal) (nodes : ℕ) (refusal : WorkRefusal) : Type 0 where
  pub node : ℕ
  pub inside : node < nodes
  pub refuses : shares node ≡ Err refusal
  pub own : refusal ≢ WorkRefusal.Stopped
  pub below : (k : ℕ) → k < node → IsNoRefusal (shares k)

-- of so many nodes that were started, out of all: that refusal, or 26 where none of them refuses and not all have ended
abbrev pub IsAnswerOf : (ℕ → Result (Vec ℕ) WorkRefusal) → ℕ → ℕ → WorkRefusal → Type 0
IsAnswerOf shares started nodes refusal =
    IsLowestRefusal shares started refusal ⊎ ((refusal ≡ WorkRefusal.NoThread) × (HaveEnded shares started nodes → ⊥) × ((k : ℕ) → k < started → IsNoRefusal (shares k)))
