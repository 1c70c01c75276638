-- What a turn leaves in its node's receipts. This project's profile.
use Rattle.std.specs.Prelude.{◌≡◌, ◌<◌, false, None, List, [], ◌∷◌, ◌++◌}
use Rattle.sci_core.specs.declared.receipts.Receipt.{Receipt}
use Rattle.sci_core.specs.declared.receipts.Receipt.TheVariants.{Read, Wrote}
use Rattle.sci_port.specs.KeepsAll.{Extends, IsNewLast}
use Rattle.sci_port.specs.ReceiptList.{ReceiptList}
use Rattle.sci_ops.specs.declared.goals.Goal.{Goal}
use Rattle.sci_ops.specs.declared.answers.Answer.{Answer}
use Rattle.sci_ops.specs.declared.answers.Turn.{Turn}
use Rattle.sci_ops.specs.Change.{change}
use Rattle.sci_ops.specs.Operation.{Operation}

-- the mark is set for this goal: what a load settles with is read
abbrev pub IsAimedAt : Goal → ReceiptList → Type 0
IsAimedAt Goal.Load r = r.passing ≡ false
IsAimedAt goal r = Unit {0}

-- what an ended operation answers is the last receipt, behind those that there were: of a load the line that it saw, of a write the
-- words that it replaced, those that it made of them, and their stamp. An eviction, and a write that found the stamp spent, add none
abbrev pub AppendsAnswer : Goal → Answer → List Receipt → List Receipt → Type 0
AppendsAnswer Goal.Load (Answer.Seen words stamp) before after = after ≡ before ++ Read words stamp ∷ []
AppendsAnswer (Goal.Write write) (Answer.Wrote old stamp) before after = after ≡ before ++ Wrote old (change write old) stamp ∷ []
AppendsAnswer goal answer before after = after ≡ before

-- the turn that ends an operation does so, where there is room
abbrev pub KeepsAnswer : Operation → Turn → ReceiptList → ReceiptList → Type 0
KeepsAnswer op (Turn.Done answer) r q = op.answer ≡ None → 0 < r.room → IsAimedAt op.goal r → AppendsAnswer op.goal answer r.list q.list
KeepsAnswer op turn r q = Unit {0}

-- behind what stood there before an operation and what came on its way, its answer is the last receipt. An eviction, and a write that
-- found the stamp spent, have none
abbrev pub EndsWithAnswer : Goal → Answer → List Receipt → List Receipt → Type 0
EndsWithAnswer Goal.Load (Answer.Seen words stamp) before after = IsNewLast before (Read words stamp) after
EndsWithAnswer (Goal.Write write) (Answer.Wrote old stamp) before after = IsNewLast before (Wrote old (change write old) stamp) after
EndsWithAnswer goal answer before after = Extends before after
