-- What ends an operation is its last receipt, behind what stood there before.
use Rattle.std.proofs.Common.{◌≡◌, ℕ, ◌<◌, ◌≤◌, Bool, true, false, Option, None, List, refl, sym, ap, subst, ◌∙◌, arith}
use Rattle.sci_core.specs.declared.pending.Pending.{Pending}
use Rattle.sci_core.specs.declared.receipts.Receipt.{Receipt}
use Rattle.sci_port.specs.KeepsAll.{Extends}
use Rattle.sci_port.specs.ReceiptList.{ReceiptList, last_passed}
use Rattle.sci_port.proofs.KeepsAll.{extends_then}
use Rattle.sci_ops.specs.declared.goals.Goal.{Goal}
use Rattle.sci_ops.specs.declared.goals.Write.{Write}
use Rattle.sci_ops.specs.declared.answers.Answer.{Answer}
use Rattle.sci_ops.specs.declared.answers.Turn.{Turn}
use Rattle.sci_ops.specs.Kept.{EndsWithAnswer, KeepsAnswer}
use Rattle.sci_ops.specs.Operation.{Operation}
use Rattle.sci_ops.specs.Room.{HasNeed, IsProvided, need_in, need_towards}
use Rattle.sci_ops.specs.Table.{begun}

some_room : (write : Write) (b : Bool) (room : ℕ) → need_towards (Goal.Write write) b ≤ room → 0 < room
some_room write true room h = omega (arith, h)
some_room write false room h = omega (arith, h)

write_room : (write : Write) (p : Pending) (s : ReceiptList) → need_in (Goal.Write write) p s ≤ s.room → 0 < s.room
write_room write (Pending.Holding word line) s h = omega (arith, h)
write_room write p s h = some_room write (last_passed s.list) s.room h

pub last_receipt : (goal : Goal) (answer : Answer) (p : Pending) (before : List Receipt) (s t : ReceiptList) → Extends before s.list → Extends s.list t.list → HasNeed goal p s → KeepsAnswer (begun goal) (Turn.Done answer) s t → EndsWithAnswer goal answer before t.list
last_receipt Goal.Load (Answer.Seen words stamp) p before s t so_far turn h k = record { front = s.list; extends = so_far; is = k refl (omega (arith, h.room)) h.mark }
last_receipt (Goal.Write write) (Answer.Wrote old stamp) p before s t so_far turn h k = record { front = s.list; extends = so_far; is = k refl (write_room write p s h.room) tt }
last_receipt goal answer p before s t so_far turn h k = extends_then so_far turn

-- the same of an operation that goes on
last_begun : (op : Operation) → op.answer ≡ None → begun op.goal ≡ op
last_begun op h = ap (λ (a : Option Answer). record { goal = op.goal; answer = a }) (sym h)

pub last_of : (op now : Operation) (answer : Answer) (p : Pending) (before : List Receipt) (s t : ReceiptList) → now ≡ op → op.answer ≡ None → Extends before s.list → Extends s.list t.list → IsProvided now.goal now.answer p s → KeepsAnswer now (Turn.Done answer) s t → EndsWithAnswer op.goal answer before t.list
last_of op now answer p before s t same open_ so_far turn given kept =
    let has : HasNeed op.goal p s = subst (λ (a : Option Answer). IsProvided op.goal a p s) open_ (subst (λ (x : Operation). IsProvided x.goal x.answer p s) same given) in
    let keeps : KeepsAnswer (begun op.goal) (Turn.Done answer) s t = subst (λ (x : Operation). KeepsAnswer x (Turn.Done answer) s t) (same ∙ sym (last_begun op open_)) kept in
    last_receipt op.goal answer p before s t so_far turn has keeps
