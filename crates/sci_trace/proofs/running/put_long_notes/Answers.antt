use Rattle.std.proofs.Common.{[], ◌∷◌, ◌≡◌, ◌≤◌, refl, sym, ap, subst, ◌++◌, ◌∙◌, append-nil, length, List, ℕ, arith}
use Rattle.sci_trace.specs.NoteText.{note_bytes}
use Rattle.sci_trace.proofs.Coded.{coded_nil, both_then}
use Rattle.sci_trace.proofs.NoteLines.{notes_none}
use Rattle.sci_trace.proofs.running.put_long_notes.Goals as goal

few_left : (front behind : List ℕ) → front ++ behind ≡ [] → length front ≤ 65536
few_left [] behind e = omega arith
few_left (x ∷ front) behind e = absurd (cc)

pub returns-then-front-gt-LONG : goal.returns-then-front-gt-LONG
returns-then-front-gt-LONG g c =
    let notes = c.args.desk.now.notes in
    let all = note_bytes notes.text in
    record {
      ok = both_then c.put_notes.result _ _ _ c.put_notes.ensures.ok c.put_notes.ensures.dropped
          (λ put dropped. (all, notes.lines, sym (append-nil all) ∙ ap (λ (x : List ℕ). all ++ x) (sym dropped.0), put));
      err = c.put_notes.ensures.err;
      few = both_then c.put_notes.result _ _ _ c.put_notes.ensures.whole c.put_notes.ensures.dropped (λ whole dropped. few_left _ _ dropped.0);
      cut = both_then c.put_notes.result _ _ _ c.put_notes.ensures.whole c.put_notes.ensures.dropped (λ whole dropped. dropped.1 ∙ sym whole);
      desk = c.put_notes.ensures.desk;
      size = c.put_notes.ensures.size;
    }

pub returns : goal.returns
returns g c = record { ok = ([], notes_none, refl, coded_nil c.args.coding _); err = tt; few = subst (λ (front : List ℕ). length front ≤ 65536) c.front.ensures (omega (arith, c.if-front-gt-LONG.false)); cut = refl; desk = refl; size = refl }
