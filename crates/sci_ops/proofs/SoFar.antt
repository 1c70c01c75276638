-- What an operation keeps from turn to turn.
use Rattle.std.proofs.Common.{◌≡◌, Option, Some, None, List, [], ◌++◌, refl, sym, ap, subst, ◌∙◌, append-nil}
use Rattle.sci_core.specs.declared.pending.Pending.{Pending}
use Rattle.sci_core.specs.declared.receipts.Receipt.{Receipt}
use Rattle.sci_port.specs.KeepsAll.{Extends, writes_in}
use Rattle.sci_port.specs.ReceiptList.{ReceiptList}
use Rattle.sci_port.proofs.KeepsAll.{extends_none, extends_then}
use Rattle.sci_ops.specs.declared.goals.Goal.{Goal}
use Rattle.sci_ops.specs.declared.answers.Answer.{Answer}
use Rattle.sci_ops.specs.declared.answers.Turn.{Turn}
use Rattle.sci_ops.specs.Operation.{Operation}
use Rattle.sci_ops.specs.Room.{IsProvided, KeepsSoFar, adds}
use Rattle.sci_ops.specs.Table.{after_turn}

-- a turn that goes on adds no write
moved_adds : (goal : Goal) (answer : Option Answer) → adds goal answer Turn.Moved ≡ []
moved_adds goal (Some a) = refl
moved_adds Goal.Load None = refl
moved_adds (Goal.Write w) None = refl
moved_adds Goal.Evict None = refl

behind : (op : Operation) (l : List Receipt) → l ++ adds op.goal op.answer Turn.Moved ≡ l
behind op l = ap (λ (k : List Receipt). l ++ k) (moved_adds op.goal op.answer) ∙ append-nil l

pub none_so_far : (op : Operation) (s : ReceiptList) → KeepsSoFar op s Turn.Moved s
none_so_far op s = record { writes = sym (behind op (writes_in s.list)); extends = extends_none s.list }

-- one turn more
pub goes_so_far : (op now : Operation) (s mid t : ReceiptList) (turn : Turn) → now ≡ op → KeepsSoFar op s Turn.Moved mid → writes_in t.list ≡ writes_in mid.list ++ adds now.goal now.answer turn → Extends mid.list t.list → KeepsSoFar op s turn t
goes_so_far op now s mid t turn same k writes further = record {
  writes = subst (λ (x : Operation). writes_in t.list ≡ writes_in mid.list ++ adds x.goal x.answer turn) same writes ∙ ap (λ (l : List Receipt). l ++ adds op.goal op.answer turn) (k.writes ∙ behind op (writes_in s.list));
  extends = extends_then k.extends further;
}

pub still_given : (now new : Operation) (p : Pending) (t : ReceiptList) → new ≡ after_turn now Turn.Moved → IsProvided now.goal (after_turn now Turn.Moved).answer p t → IsProvided new.goal new.answer p t
still_given now new p t e h = subst (λ (x : Operation). IsProvided x.goal x.answer p t) (sym e) h
