-- What the receipts of a node tell of its writes, call by call.
use Rattle.std.proofs.Common.{◌≡◌, ◌≢◌, ℕ, Bool, true, false, if◌then◌else◌, eqb, Result, Ok, Err, List, [], ◌∷◌, ◌++◌, map, append-nil, refl, sym, ap, ◌∙◌}
use Rattle.std.proofs.lemmas.Bool.{eq-eqb, ne_eqb}
use Rattle.std.proofs.lemmas.List.{append_assoc, map-append}
use Rattle.sci_core.specs.declared.receipts.Receipt.{Receipt}
use Rattle.sci_core.specs.declared.receipts.Receipt.TheVariants.{Wrote}
use Rattle.sci_port.specs.declared.calls.Call.{Call}
use Rattle.sci_port.specs.KeepsAll.{writes_in}
use Rattle.sci_port.specs.Readying.{Readying}
use Rattle.sci_port.specs.ReceiptList.{ReceiptList}
use Rattle.sci_ops.specs.declared.answers.Answer.{Answer}
use Rattle.sci_ops.specs.declared.goals.Goal.{Goal}
use Rattle.sci_ops.specs.declared.goals.Write.{Write}
use Rattle.sci_ops.specs.Change.{change}
use Rattle.sci_cache.specs.declared.refusals.NodeRefusal.{NodeRefusal}
use Rattle.sci_cache.specs.declared.requests.Request.{Request}
use Rattle.sci_cache.specs.Called.{KeepsRequest}
use Rattle.sci_cache.specs.Nodes.{IsAnswerTo}
use Rattle.sci_work.specs.Written.{HasWrote, words_in, words_of, words_on}

-- of an element that is picked or not
pub if_same : {A : Type 0} (a b : ℕ) (x y : A) → a ≡ b → (if eqb a b then x else y) ≡ x
if_same a b x y is = ap (λ (z : Bool). if z then x else y) (eq-eqb a b is)

pub if_other : {A : Type 0} (a b : ℕ) (x y : A) → a ≢ b → (if eqb a b then x else y) ≡ y
if_other a b x y other = ap (λ (z : Bool). if z then x else y) (ne_eqb a b other)

none_picked : {A : Type 0} (b : Bool) (x : A) → (if b then x else x) ≡ x
none_picked true x = refl
none_picked false x = refl

one_picked : (b : Bool) (r : Receipt) → map words_of (if b then r ∷ [] else []) ≡ (if b then words_of r ∷ [] else [])
one_picked true r = refl
one_picked false r = refl

-- writes more are their words more
words_more : (before after more : List Receipt) → writes_in after ≡ writes_in before ++ more → words_in after ≡ words_in before ++ map words_of more
words_more before after more is = ap (λ (l : List Receipt). map words_of l) is ∙ map-append words_of (writes_in before) more

-- some writes and then more
words_all : (a b : List (ℕ × List ℕ)) (line : ℕ) → words_on line (b ++ a) ≡ words_on line a ++ words_on line b
words_all a [] line = sym (append-nil (words_on line a))
words_all a (w ∷ ws) line =
    let here = if eqb w.0 line then w.1 ∷ [] else [] in
    ap (λ (l : List (List ℕ)). l ++ here) (words_all a ws line) ∙ append_assoc (words_on line a) (words_on line ws) here

pub wrote_same : {before after : ℕ → ReceiptList} → ((line : ℕ) → after line ≡ before line) → HasWrote [] before after
wrote_same same = record { on = λ line. ap (λ (l : ReceiptList). words_in l.list) (same line) ∙ sym (append-nil _) }

pub wrote_none : {receipts : ℕ → ReceiptList} → HasWrote [] receipts receipts
wrote_none = record { on = λ line. sym (append-nil _) }

pub wrote_then : {a b : List (ℕ × List ℕ)} {before between after : ℕ → ReceiptList} → HasWrote a before between → HasWrote b between after → HasWrote (b ++ a) before after
wrote_then {a = a} {b = b} {before = before} first next = record {
  on = λ line.
      next.on line ∙ ap (λ (l : List (List ℕ)). l ++ words_on line b) (first.on line) ∙ append_assoc (words_in (before line).list) (words_on line a) (words_on line b)
      ∙ ap (λ (l : List (List ℕ)). words_in (before line).list ++ l) (sym (words_all a b line));
}

wrote_no_more : (before after : ℕ → ReceiptList) (more : ℕ → List Receipt) → ((line : ℕ) → writes_in (after line).list ≡ writes_in (before line).list ++ more line) → ((line : ℕ) → more line ≡ []) → HasWrote [] before after
wrote_no_more before after more is none = record {
  on = λ line. words_more (before line).list (after line).list (more line) (is line) ∙ ap (λ (l : List Receipt). words_in (before line).list ++ map words_of l) (none line);
}

-- what an add wrote, by its answer
abbrev pub one_added : ℕ → Answer → List (ℕ × List ℕ)
one_added at (Answer.Wrote old stamp) = (at, change (Write.Add 0 1) old) ∷ []
one_added at answer = []

module _ {U : Type 0} {gives : U → ℕ → Call → U → Type 0} {readies : U → ℕ → Readying → U → Type 0} {receipts : U → ℕ → ReceiptList} {u v : U} where
  -- a call that was refused writes nothing
  pub wrote_refused : {r : Request} {e : NodeRefusal} → KeepsRequest gives readies receipts r u (Err e) v → HasWrote [] (receipts u) (receipts v)
  wrote_refused {r = r} {e = e} kept = wrote_no_more (receipts u) (receipts v) (λ line. []) kept.writes (λ line. refl)

  -- nor does a load
  pub wrote_read : (at : ℕ) (result : Result Answer NodeRefusal) → KeepsRequest gives readies receipts (Request.Load at) u result v → HasWrote [] (receipts u) (receipts v)
  wrote_read at (Ok answer) kept = wrote_no_more (receipts u) (receipts v) _ kept.writes (λ line. none_picked (eqb at line) [])
  wrote_read at (Err e) kept = wrote_refused kept

  -- a write of a line writes that
  pub wrote_line : {answer : Answer} (fits : List ℕ → Type 0) (at : ℕ) (words : List ℕ) → KeepsRequest gives readies receipts (Request.WriteLine at words) u (Ok answer) v → IsAnswerTo fits (Goal.Write (Write.Line words)) answer → answer ≢ Answer.Spent
      → HasWrote ((at, words) ∷ []) (receipts u) (receipts v)
  wrote_line {answer = Answer.Wrote old stamp} fits at words kept is ended = record {
    on = λ line.
        words_more (receipts u line).list (receipts v line).list _ (kept.writes line) ∙ ap (λ (l : List (List ℕ)). words_in (receipts u line).list ++ l) (one_picked (eqb at line) (Wrote old words stamp));
  }
  wrote_line {answer = Answer.Spent} fits at words kept is ended = absurd (ended refl)
  wrote_line {answer = Answer.Seen seen stamp} fits at words kept is ended = absurd is
  wrote_line {answer = Answer.Out} fits at words kept is ended = absurd is

  -- and an add its words
  pub wrote_added : {answer : Answer} (fits : List ℕ → Type 0) (at : ℕ) → KeepsRequest gives readies receipts (Request.Add at 0 1) u (Ok answer) v → IsAnswerTo fits (Goal.Write (Write.Add 0 1)) answer → answer ≢ Answer.Spent
      → HasWrote (one_added at answer) (receipts u) (receipts v)
  wrote_added {answer = Answer.Wrote old stamp} fits at kept is ended = record {
    on = λ line.
        words_more (receipts u line).list (receipts v line).list _ (kept.writes line) ∙ ap (λ (l : List (List ℕ)). words_in (receipts u line).list ++ l) (one_picked (eqb at line) (Wrote old (change (Write.Add 0 1) old) stamp));
  }
  wrote_added {answer = Answer.Spent} fits at kept is ended = absurd (ended refl)
  wrote_added {answer = Answer.Seen seen stamp} fits at kept is ended = absurd is
  wrote_added {answer = Answer.Out} fits at kept is ended = absurd is
