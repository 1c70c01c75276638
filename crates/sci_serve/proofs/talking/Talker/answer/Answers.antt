use Rattle.std.proofs.Common.{◌≡◌, ◌∙◌, ◌+◌, ◌++◌, ℕ, List, length, take, true, is_ok, string_bytes, sym, subst, arith}
use Rattle.std.proofs.KnownBytes.{Appends-nil, Appends-trans, Appends-kept}
use Rattle.std.proofs.Math.Seq.{take-append-add, take-length}
use Rattle.std.proofs.lemmas.List.{take-append-le}
use Rattle.std.specs.Io.KnownBytes.{Appends}
use Rattle.sci_script.specs.Talkers.{standing_of}
use Rattle.sci_serve.specs.Talked.{ending_line, IsKeptBut}
use Rattle.sci_serve.proofs.Heard.{printed_by, printed_ok, printed_err, answered, on_err}
use Rattle.sci_serve.proofs.talking.Talker.answer.Goals.{then-is_ok+in_ok-put, else-is_ok}
use Rattle.sci_serve.proofs.talking.Talker.answer.Goals as goal

pub returns-in_err-put-clause-err : goal.returns-in_err-put-clause-err
returns-in_err-put-clause-err g c =
    let said = c.say-said.result in
    let printed = string_bytes c.say-said.new.text in
    let held = c.args.self.now.held in
    let all = printed_by said printed ++ ending_line said in
    let n = c.in_err-put.ensures.err.0 in
    let front = rw c.as_bytes.ensures.value at c.in_err-put.ensures.err.2 in
    let less = rw c.as_bytes.ensures.value at c.in_err-put.ensures.err.1 in
    let ok : is_ok said ≡ true = sym c.is_ok.ensures.value ∙ c.if-is_ok.true in
    let same : take n all ≡ take n printed = rw (printed_ok said printed ok) (take-append-le n printed (ending_line said) (omega (arith, less))) in
    on_err c.from_residual.result _ (λ seen h. (
      all,
      n,
      answered said (standing_of c.args.self.now.talk) (standing_of c.say-said.new.talk) c.args.is_ended (IsKeptBut held.lost held.bytes.items) printed c.say-said.ensures.ok c.say-said.ensures.err seen h.0,
      subst (λ (l : List ℕ). Appends (g.W.Write.contents c.args.out.now) (g.W.Write.contents c.put.new.out) l) (sym same) front,
    ))

pub returns-in_err-put-2-clause-err : goal.returns-in_err-put-2-clause-err
returns-in_err-put-2-clause-err g c =
    let said = c.say-said.result in
    let printed = string_bytes c.say-said.new.text in
    let held = c.args.self.now.held in
    let front = printed_by said printed in
    let before : Appends (g.W.Write.contents c.args.out.now) (g.W.Write.contents c.if-is_ok.out) front = elim c.if-is_ok.branch [
      | then-is_ok+in_ok-put w ↦ rw (w.out-is, printed_ok said printed (sym c.is_ok.ensures.value ∙ w.if-is_ok.true)) (rw w.as_bytes.ensures.value at w.in_ok-put.ensures.ok)
      | else-is_ok w ↦ rw (w.out-is, printed_err said printed (sym c.is_ok.ensures.value ∙ w.if-is_ok.false)) (Appends-nil _)
    ] in
    let n = c.in_err-put-2.ensures.err.0 in
    let last = rw c.ending.ensures at c.in_err-put-2.ensures.err.2 in
    on_err c.from_residual-in_err-put-2.result _ (λ seen h. (
      front ++ ending_line said,
      length front + n,
      answered said (standing_of c.args.self.now.talk) (standing_of c.say-said.new.talk) c.args.is_ended (IsKeptBut held.lost held.bytes.items) printed c.say-said.ensures.ok c.say-said.ensures.err seen h.0,
      subst (λ (l : List ℕ). Appends (g.W.Write.contents c.args.out.now) (g.W.Write.contents c.put-2.new.out) l) (sym (take-append-add front (ending_line said) n)) (Appends-trans _ _ _ _ _ before last),
    ))

pub returns-in-Ok-clause-ok : goal.returns-in-Ok-clause-ok
returns-in-Ok-clause-ok g c = λ seen h.
    let said = c.say-said.result in
    let printed = string_bytes c.say-said.new.text in
    let held = c.args.self.now.held in
    let front = printed_by said printed in
    let before : Appends (g.W.Write.contents c.args.out.now) (g.W.Write.contents c.if-is_ok.out) front = elim c.if-is_ok.branch [
      | then-is_ok+in_ok-put w ↦ rw (w.out-is, printed_ok said printed (sym c.is_ok.ensures.value ∙ w.if-is_ok.true)) (rw w.as_bytes.ensures.value at w.in_ok-put.ensures.ok)
      | else-is_ok w ↦ rw (w.out-is, printed_err said printed (sym c.is_ok.ensures.value ∙ w.if-is_ok.false)) (Appends-nil _)
    ] in
    let last = rw c.ending.ensures at c.in_ok-put-2.ensures.ok in (
      front ++ ending_line said,
      answered said (standing_of c.args.self.now.talk) (standing_of c.say-said.new.talk) c.args.is_ended (IsKeptBut held.lost held.bytes.items) printed c.say-said.ensures.ok c.say-said.ensures.err seen h.0,
      Appends-kept _ _ _ _ (Appends-trans _ _ _ _ _ before last) c.flush.ensures.bytes,
    )

pub returns-in-Err-clause-err : goal.returns-in-Err-clause-err
returns-in-Err-clause-err g c = λ seen h.
    let said = c.say-said.result in
    let printed = string_bytes c.say-said.new.text in
    let held = c.args.self.now.held in
    let front = printed_by said printed in
    let before : Appends (g.W.Write.contents c.args.out.now) (g.W.Write.contents c.if-is_ok.out) front = elim c.if-is_ok.branch [
      | then-is_ok+in_ok-put w ↦ rw (w.out-is, printed_ok said printed (sym c.is_ok.ensures.value ∙ w.if-is_ok.true)) (rw w.as_bytes.ensures.value at w.in_ok-put.ensures.ok)
      | else-is_ok w ↦ rw (w.out-is, printed_err said printed (sym c.is_ok.ensures.value ∙ w.if-is_ok.false)) (Appends-nil _)
    ] in
    let last = rw c.ending.ensures at c.in_ok-put-2.ensures.ok in
    let all = front ++ ending_line said in (
      all,
      length all,
      answered said (standing_of c.args.self.now.talk) (standing_of c.say-said.new.talk) c.args.is_ended (IsKeptBut held.lost held.bytes.items) printed c.say-said.ensures.ok c.say-said.ensures.err seen h.0,
      subst (λ (l : List ℕ). Appends (g.W.Write.contents c.args.out.now) (g.W.Write.contents c.flush.new.self) l) (sym (take-length all)) (Appends-kept _ _ _ _ (Appends-trans _ _ _ _ _ before last) c.flush.ensures.bytes),
    )
