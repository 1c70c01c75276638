use Rattle.std.proofs.Common.{◌≡◌, ◌+◌, ◌++◌, ◌∷◌, [], ℕ, List, false, eqb, length, take, refl, sym, subst}
use Rattle.std.proofs.KnownBytes.{Appends-nil, Appends-trans}
use Rattle.std.proofs.Math.Seq.{take-append-add}
use Rattle.std.proofs.lemmas.List.Elements.{All-append}
use Rattle.std.specs.Io.KnownBytes.{Appends}
use Rattle.std.specs.Str.Lines.{strip_carriage_return}
use Rattle.sci_script.specs.Talkers.{standing_of}
use Rattle.sci_serve.specs.Talked.{Begins}
use Rattle.sci_serve.proofs.Heard.{talks_none, talks_one, talks_join, ends_none, ends_one, ends_more, ends_last, begins_ended, moved, on_err}
use Rattle.sci_serve.proofs.talking.Talker.hear.Goals as goal

pub loop-ended-init : goal.loop-ended-init
loop-ended-init g c = λ part h. ([], part, [], [], refl, ends_none part, h, talks_none _, Appends-nil _)

pub loop-ended-preserved : goal.loop-ended-preserved
loop-ended-preserved g c = λ part h.
    let (ended, left, text, front, is, ends, held, talked, appended) = c.loop-ended.invariant part h in
    let rest = c.loop-ended.rest.now in
    let cut = c.in-Some.ensures.cut in
    let bytes = c.in-Some.ended.line.now in
    let behind = c.in-Some.ended.behind.now in
    let line = left ++ bytes in
    let kept = c.hold.ensures left held.0 in
    let none = All-append (λ b. eqb b 10 ≡ false) left bytes held.1 cut.1 in
    let (said, now, out) = c.in_ok-answer.ensures.ok line (kept, none) in (
      ended ++ strip_carriage_return line ∷ [],
      [],
      text ++ said,
      front ++ (bytes ++ 10 ∷ []),
      moved c.args.bytes.now front rest bytes behind is cut.0,
      ends_more part front (bytes ++ 10 ∷ []) left [] ended (strip_carriage_return line ∷ []) ends (ends_one left bytes held.1 cut.1),
      c.in_ok-answer.ensures.held,
      talks_join _ _ _ ended (strip_carriage_return line ∷ []) text said talked (talks_one _ _ _ said now),
      Appends-trans _ _ _ _ _ appended out,
    )

pub returns-in_err-answer-clause-err : goal.returns-in_err-answer-clause-err
returns-in_err-answer-clause-err g c =
    on_err c.from_residual.result _ (λ part h.
    let (ended, left, text, front, is, ends, held, talked, appended) = c.loop-ended.invariant part h in
    let rest = c.loop-ended.rest.now in
    let cut = c.in-Some.ensures.cut in
    let bytes = c.in-Some.ended.line.now in
    let behind = c.in-Some.ended.behind.now in
    let line = left ++ bytes in
    let kept = c.hold.ensures left held.0 in
    let none = All-append (λ b. eqb b 10 ≡ false) left bytes held.1 cut.1 in
    let (said, n, now, out) = c.in_err-answer.ensures.err line (kept, none) in
    let all = ended ++ strip_carriage_return line ∷ [] in
    let before = front ++ (bytes ++ 10 ∷ []) in (
      all,
      text ++ said,
      length text + n,
      subst (λ (l : List ℕ). Begins part l all) (sym (moved c.args.bytes.now front rest bytes behind is cut.0))
          (begins_ended part before [] behind all (ends_more part front (bytes ++ 10 ∷ []) left [] ended (strip_carriage_return line ∷ []) ends (ends_one left bytes held.1 cut.1))),
      talks_join _ _ _ ended (strip_carriage_return line ∷ []) text said talked (talks_one _ _ _ said now),
      subst (λ (l : List ℕ). Appends (g.W.Write.contents c.args.out.now) (g.W.Write.contents c.answer.new.out) l) (sym (take-append-add text said n)) (Appends-trans _ _ _ _ _ appended out),
    ))

pub returns-clause-ok : goal.returns-clause-ok
returns-clause-ok g c = λ part h.
    let (ended, left, text, front, is, ends, held, talked, appended) = c.loop-ended.invariant part h in
    let rest = c.loop-ended.rest.now in
    (ended, left ++ rest, text, ends_last part c.args.bytes.now front rest left ended is ends, (c.hold-2.ensures left held.0, All-append (λ b. eqb b 10 ≡ false) left rest held.1 c.in_default.ensures.cut), talked, appended)
