-- What the receipts of a node that counts tell, add by add.
use Rattle.std.proofs.Common.{◌≡◌, ◌≢◌, ℕ, ◌+◌, Bool, if◌then◌else◌, Ok, List, [], ◌++◌, length, append-nil, length-append, refl, sym, ap, ◌∙◌, arith}
use Rattle.std.proofs.lemmas.Bool.{eq-eqb}
use Rattle.std.proofs.lemmas.List.{append_assoc}
use Rattle.std.proofs.lemmas.List.Elements.{All-append, All-cons, All-nil}
use Rattle.sci_core.specs.declared.receipts.Receipt.{Receipt}
use Rattle.sci_core.specs.declared.receipts.Receipt.TheVariants.{Wrote}
use Rattle.sci_port.specs.declared.calls.Call.{Call}
use Rattle.sci_port.specs.KeepsAll.{writes_in}
use Rattle.sci_port.specs.Readying.{Readying}
use Rattle.sci_port.specs.ReceiptList.{ReceiptList}
use Rattle.sci_port.specs.Receipts.{WritesBy}
use Rattle.sci_ops.specs.declared.answers.Answer.{Answer}
use Rattle.sci_ops.specs.declared.answers.Turn.{Turn}
use Rattle.sci_ops.specs.declared.goals.Goal.{Goal}
use Rattle.sci_ops.specs.declared.goals.Write.{Write}
use Rattle.sci_ops.specs.Change.{change}
use Rattle.sci_ops.specs.Room.{adds_towards}
use Rattle.sci_cache.specs.declared.requests.Request.{Request}
use Rattle.sci_cache.specs.Called.{KeepsRequest}
use Rattle.sci_cache.specs.Nodes.{IsAnswerTo}
use Rattle.sci_work.specs.Adding.{AreAdds, HasAdded}

abbrev by_one : Receipt → Type 0
by_one = WritesBy (change (Write.Add 0 1))

-- an add that has ended wrote once, and so
one_add : (fits : List ℕ → Type 0) (answer : Answer) → IsAnswerTo fits (Goal.Write (Write.Add 0 1)) answer → answer ≢ Answer.Spent → AreAdds 1 (adds_towards (Goal.Write (Write.Add 0 1)) (Turn.Done answer))
one_add fits (Answer.Wrote old stamp) is ended = record { count_is = refl; each = All-cons by_one (Wrote old (change (Write.Add 0 1) old) stamp) [] refl (All-nil by_one) }
one_add fits Answer.Spent is ended = absurd (ended refl)
one_add fits (Answer.Seen words stamp) is ended = absurd is
one_add fits Answer.Out is ended = absurd is

-- and its node's receipts on the line have that write behind those of before
pub added_one : {U : Type 0} {gives : U → ℕ → Call → U → Type 0} {readies : U → ℕ → Readying → U → Type 0} {receipts : U → ℕ → ReceiptList} {answer : Answer} {u v : U} (fits : List ℕ → Type 0) (line : ℕ)
    → KeepsRequest gives readies receipts (Request.Add line 0 1) u (Ok answer) v → IsAnswerTo fits (Goal.Write (Write.Add 0 1)) answer → answer ≢ Answer.Spent → HasAdded 1 (receipts u line).list (receipts v line).list
added_one {receipts = receipts} {answer = answer} {u = u} {v = v} fits line kept is ended = record {
  more = adds_towards (Goal.Write (Write.Add 0 1)) (Turn.Done answer);
  are = one_add fits answer is ended;
  behind = kept.writes line ∙ ap (λ (b : Bool). writes_in (receipts u line).list ++ (if b then adds_towards (Goal.Write (Write.Add 0 1)) (Turn.Done answer) else [])) (eq-eqb line line refl);
}

pub added_none : (list : List Receipt) → HasAdded 0 list list
added_none list = record { more = []; are = record { count_is = refl; each = All-nil by_one }; behind = sym (append-nil (writes_in list)) }

-- some adds, and then more
pub added_more : {a b all : ℕ} {before between after : List Receipt} → HasAdded a before between → HasAdded b between after → all ≡ a + b → HasAdded all before after
added_more {a = a} {b = b} {all = all} {before = before} f s sum = record {
  more = f.more ++ s.more;
  are = record {
    count_is = let x : length f.more ≡ a = f.are.count_is in let y : length s.more ≡ b = s.are.count_is in omega (arith, x, y, sum, length-append f.more s.more);
    each = All-append by_one f.more s.more f.are.each s.are.each;
  };
  behind = s.behind ∙ ap (λ (l : List Receipt). l ++ s.more) f.behind ∙ append_assoc (writes_in before) f.more s.more;
}
