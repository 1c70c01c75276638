use Rattle.std.proofs.Common.{arith, ◌≡◌, ◌-◌, false, [], ◌++◌, ◌∙◌, List, ℕ, refl, ap, get_or, subst, sym}
use Rattle.std.proofs.KnownBytes.{Appends-trans}
use Rattle.std.proofs.lemmas.Bool.{MatchBool-at_true, MatchBool-at_false}
use Rattle.std.proofs.lemmas.Result.{err_from_is_err_and}
use Rattle.sci_script.specs.declared.commands.Command.TheVariants.{Done}
use Rattle.sci_script.specs.declared.commands.Step.{Step}
use Rattle.sci_script.specs.declared.refusals.ScriptRefusal.TheVariants.{NotDone}
use Rattle.sci_ops.specs.declared.answers.Turn.{Turn}
use Rattle.sci_script.specs.Event.{Turned, IsEnd, IsNoEnd}
use Rattle.sci_script.specs.Run.{Repeats}
use Rattle.sci_script.proofs.Runs.{moves_unended}
use Rattle.sci_script.specs.Shared.{Shared, shared_is_open, shared_does}
use Rattle.sci_script.specs.Wholes.{shared_of}
use Rattle.sci_script.specs.Text.{turn_text}
use Rattle.sci_trace.specs.Coding.{coded}
use Rattle.sci_trace.specs.NoteText.{note_bytes}
use Rattle.sci_trace.specs.Telling.{is_wait, telling, telling_of, tells}
use Rattle.sci_trace.proofs.Coded.{coded_nil, coded_behind}
use Rattle.sci_trace.proofs.Tellings.{with_front, tells_once, end_no_wait, wait_is, moved, moves_first, moves_put, ends_behind, waits_behind, moves_behind}
use Rattle.sci_trace.proofs.Tracing.{moves_left, notes_left, hang_left}
use Rattle.sci_trace.proofs.NoteLines.{notes_none, notes_append}
use Rattle.sci_trace.proofs.running.trace_done.Goals as goal

pub returns-then-not-open : goal.returns-then-not-open
returns-then-not-open g c = record {
  ok = tt;
  err = (coded c.args.coding [], ([], notes_none, (refl, sym c.open.ensures ∙ c.if-not-open.true, refl), refl), coded_nil c.args.coding _);
  dropped = tt;
  size = refl;
}

pub loop-taken-init : goal.loop-taken-init
loop-taken-init g c =
    let desk = c.args.desk.now in
    record {
      empty = c.requires.empty;
      size = refl;
      is_still_open = sym c.if-not-open.ensures;
      written = ([], notes_none, moves_first c.args.node (shared_of desk.desk) (note_bytes desk.notes.text) desk.notes.is_cut c.requires.none c.requires.whole, coded_nil c.args.coding _);
    }

pub loop-taken-preserved : goal.loop-taken-preserved
loop-taken-preserved g c =
    let turn = c.take-turn.result in
    let no-end : IsNoEnd turn = MatchBool-at_false (IsEnd turn) (IsNoEnd turn) c.if-is_end.false c.is_end.ensures in
    let (put, are, so_far, appended) = c.loop-taken.invariant.written in
    let (now, also, parts, more) = c.in_ok-put_long_notes.ensures.ok in
    let no-wait : is_wait turn ≡ false = sym c.is_wait.ensures ∙ c.if-is_wait.false in
    let before = telling_of c.loop-taken.desk in
    let mid = telling_of c.take-turn.new.self in
    let told = tells_once before c.args.node turn (100000 - c.loop-taken.taken) mid no-wait c.take-turn.ensures.turned c.take-turn.ensures.told in
    let desk = c.put_long_notes.new.desk in
    let same = ap shared_of c.in_ok-put_long_notes.ensures.desk in
    record {
      empty = c.loop-taken.invariant.empty;
      size = c.in_ok-put_long_notes.ensures.size ∙ c.take-turn.ensures.size ∙ c.loop-taken.invariant.size;
      is_still_open = ap (λ d. shared_is_open (shared_of d) c.args.node) c.in_ok-put_long_notes.ensures.desk ∙ c.take-turn.ensures.open no-end;
      written = (
        put ++ now,
        notes_append put now are also,
        moves_put c.args.node c.loop-taken.taken turn (telling (shared_of c.args.desk.now.desk) []) before mid (shared_of desk.desk) put now (note_bytes desk.notes.text) desk.notes.is_cut so_far (moved turn no-end no-wait) told parts c.in_ok-put_long_notes.ensures.cut same,
        coded_behind c.args.coding _ _ _ put now appended more,
      );
    }

-- memory was refused for the last turn's line, or another's, or the writer failed
pub returns-in_err-put_notes : goal.returns-in_err-put_notes
returns-in_err-put_notes g c =
    let p = err_from_is_err_and c.from_residual.result c.from_residual.ensures.1 in
    let (put, are, so_far, appended) = c.loop-taken.invariant.written in
    let (written, left, front) = c.in_err-put_notes.ensures.err in
    let notes = c.take-turn.new.self.notes in
    let step : Step = record { number = c.args.number; command = Done c.args.node } in
    record {
      ok = rw p.1 tt;
      err = rw (p.1, p.2) (
        coded c.args.coding put ++ written,
        notes_left c.args.coding c.args.desk.now.size.nodes (shared_of c.args.desk.now.desk) step put (note_bytes notes.text) written c.in_err-put_notes.field-0.0 (shared_of c.put_notes.new.desk.desk) are notes.lines left,
        Appends-trans _ _ _ _ _ appended front,
      );
      dropped = rw p.1 tt;
      size = c.in_err-put_notes.ensures.size ∙ c.take-turn.ensures.size ∙ c.loop-taken.invariant.size;
    }

pub returns-in_err-turn_text : goal.returns-in_err-turn_text
returns-in_err-turn_text g c =
    let p = err_from_is_err_and c.from_residual-in_err-turn_text.result c.from_residual-in_err-turn_text.ensures.1 in
    let (put, are, so_far, appended) = c.loop-taken.invariant.written in
    let notes = c.take-turn.new.self.notes in
    let all = put ++ note_bytes notes.text in
    record {
      ok = rw p.1 tt;
      err = rw (p.1, p.2) (
        coded c.args.coding all,
        (all, notes_append put (note_bytes notes.text) are notes.lines, tt, refl),
        coded_behind c.args.coding _ _ _ put (note_bytes notes.text) appended c.in_ok-put_notes.ensures.ok,
      );
      dropped = rw p.1 tt;
      size = c.in_ok-put_notes.ensures.size ∙ c.take-turn.ensures.size ∙ c.loop-taken.invariant.size;
    }

pub returns-then-is_end : goal.returns-then-is_end
returns-then-is_end g c =
    let turn = c.take-turn.result in
    let end : IsEnd turn = MatchBool-at_true (IsEnd turn) (IsNoEnd turn) c.if-is_end.true c.is_end.ensures in
    let (put, are, so_far, appended) = c.loop-taken.invariant.written in
    let before = telling_of c.loop-taken.desk in
    let mid = telling_of c.take-turn.new.self in
    let notes = c.take-turn.new.self.notes in
    let same = ap shared_of c.in_ok-put_notes.ensures.desk in
    let told = tells_once before c.args.node turn (100000 - c.loop-taken.taken) mid (end_no_wait turn end) c.take-turn.ensures.turned c.take-turn.ensures.told in
    let last = ends_behind put c.args.node turn before mid (shared_of c.put_notes.new.desk.desk) told c.in_ok-put_notes.ensures.whole same in
    let words = c.args.words.now in
    let text = c.in_ok-turn_text.ensures ∙ ap (λ (x : List ℕ). x ++ turn_text c.args.node (get_or words c.from.result 0) turn) c.loop-taken.invariant.empty
    ∙ ap (λ (i : ℕ). turn_text c.args.node (get_or words i 0) turn) (c.from.ensures ∙ c.get.ensures.value) in
    record {
      ok = (
        put ++ note_bytes notes.text,
        notes_append put (note_bytes notes.text) are notes.lines,
        (sym c.if-not-open.ensures, c.loop-taken.taken, c.loop-taken-test.true, with_front put before, moves_unended tells c.args.node c.loop-taken.taken (telling (shared_of c.args.desk.now.desk) []) (with_front put before) so_far, turn, end, last, text),
        coded_behind c.args.coding _ _ _ put (note_bytes notes.text) appended c.in_ok-put_notes.ensures.ok,
      );
      err = tt;
      dropped = c.in_ok-put_notes.ensures.dropped;
      size = c.in_ok-put_notes.ensures.size ∙ c.take-turn.ensures.size ∙ c.loop-taken.invariant.size;
    }

pub returns-in_err-put_long_notes : goal.returns-in_err-put_long_notes
returns-in_err-put_long_notes g c =
    let p = err_from_is_err_and c.from_residual-in_err-put_long_notes.result c.from_residual-in_err-put_long_notes.ensures.1 in
    let (put, are, so_far, appended) = c.loop-taken.invariant.written in
    let (written, left, front) = c.in_err-put_long_notes.ensures.err in
    let notes = c.take-turn.new.self.notes in
    let step : Step = record { number = c.args.number; command = Done c.args.node } in
    record {
      ok = rw p.1 tt;
      err = rw (p.1, p.2) (
        coded c.args.coding put ++ written,
        notes_left c.args.coding c.args.desk.now.size.nodes (shared_of c.args.desk.now.desk) step put (note_bytes notes.text) written c.in_err-put_long_notes.field-0.0 (shared_of c.put_long_notes.new.desk.desk) are notes.lines left,
        Appends-trans _ _ _ _ _ appended front,
      );
      dropped = rw p.1 tt;
      size = c.in_err-put_long_notes.ensures.size ∙ c.take-turn.ensures.size ∙ c.loop-taken.invariant.size;
    }

pub returns-in_err-put_notes-3 : goal.returns-in_err-put_notes-3
returns-in_err-put_notes-3 g c =
    let p = err_from_is_err_and c.from_residual-in_err-put_notes-3.result c.from_residual-in_err-put_notes-3.ensures.1 in
    let (put, are, so_far, appended) = c.loop-taken.invariant.written in
    let (written, left, front) = c.in_err-put_notes-3.ensures.err in
    let notes = c.loop-taken.desk.notes in
    let step : Step = record { number = c.args.number; command = Done c.args.node } in
    record {
      ok = rw p.1 tt;
      err = rw (p.1, p.2) (
        coded c.args.coding put ++ written,
        notes_left c.args.coding c.args.desk.now.size.nodes (shared_of c.args.desk.now.desk) step put (note_bytes notes.text) written c.in_err-put_notes-3.field-0.0 (shared_of c.put_notes-2.new.desk.desk) are notes.lines left,
        Appends-trans _ _ _ _ _ appended front,
      );
      dropped = rw p.1 tt;
      size = c.in_err-put_notes-3.ensures.size ∙ c.loop-taken.invariant.size;
    }

pub returns-in_err-put_notes-2 : goal.returns-in_err-put_notes-2
returns-in_err-put_notes-2 g c =
    let p = err_from_is_err_and c.from_residual-in_err-put_notes-2.result c.from_residual-in_err-put_notes-2.ensures.1 in
    let (put, are, so_far, appended) = c.loop-taken.invariant.written in
    let (written, left, front) = c.in_err-put_notes-2.ensures.err in
    let notes = c.take-turn.new.self.notes in
    let step : Step = record { number = c.args.number; command = Done c.args.node } in
    record {
      ok = rw p.1 tt;
      err = rw (p.1, p.2) (
        coded c.args.coding put ++ written,
        notes_left c.args.coding c.args.desk.now.size.nodes (shared_of c.args.desk.now.desk) step put (note_bytes notes.text) written c.in_err-put_notes-2.field-0.0 (shared_of c.put_notes-then-is_wait.new.desk.desk) are notes.lines left,
        Appends-trans _ _ _ _ _ appended front,
      );
      dropped = rw p.1 tt;
      size = c.in_err-put_notes-2.ensures.size ∙ c.take-turn.ensures.size ∙ c.loop-taken.invariant.size;
    }

-- behind a turn that waits all others would wait
pub returns-then-is_wait : goal.returns-then-is_wait
returns-then-is_wait g c =
    let turn = c.take-turn.result in
    let is : turn ≡ Turn.Waiting = wait_is turn (sym c.is_wait.ensures ∙ c.if-is_wait.true) in
    let (put, are, so_far, appended) = c.loop-taken.invariant.written in
    let before = telling_of c.loop-taken.desk in
    let mid = telling_of c.take-turn.new.self in
    let notes = c.take-turn.new.self.notes in
    let all = put ++ note_bytes notes.text in
    let s = shared_of c.args.desk.now.desk in
    let t = shared_of c.put_notes-then-is_wait.new.desk.desk in
    let same = ap shared_of c.in_ok-put_notes-2.ensures.desk in
    let does = subst (λ (x : Shared). shared_does before.shared (Turned c.args.node Turn.Waiting) x) (sym same) (subst (λ (o : Turn). shared_does before.shared (Turned c.args.node o) mid.shared) is c.take-turn.ensures.turned) in
    record {
      ok = tt;
      err = (
        coded c.args.coding all,
        hang_left c.args.coding c.args.desk.now.size.nodes c.args.node c.args.number c.loop-taken.taken (100000 - c.loop-taken.taken) s (with_front put before) all t (notes_append put (note_bytes notes.text) are notes.lines) (sym c.if-not-open.ensures) (omega (arith, c.loop-taken-test.true)) (omega (arith, c.loop-taken-test.true)) so_far
            (waits_behind put c.args.node (100000 - c.loop-taken.taken) turn before mid t c.take-turn.ensures.told is c.in_ok-put_notes-2.ensures.whole same) does,
        coded_behind c.args.coding _ _ _ put (note_bytes notes.text) appended c.in_ok-put_notes-2.ensures.ok,
      );
      dropped = tt;
      size = c.in_ok-put_notes-2.ensures.size ∙ c.take-turn.ensures.size ∙ c.loop-taken.invariant.size;
    }

-- none of 100,000 turns was the last
pub returns : goal.returns
returns g c =
    let s = shared_of c.args.desk.now.desk in
    let t = shared_of c.put_notes-2.new.desk.desk in
    let nodes = c.args.desk.now.size.nodes in
    let (put, are, so_far, appended) = c.loop-taken.invariant.written in
    let notes = c.loop-taken.desk.notes in
    let all = put ++ note_bytes notes.text in
    let count : c.loop-taken.taken ≡ 100000 = omega (arith, c.loop-taken-test.false, c.loop-taken.auto.taken-end) in
    let same = ap shared_of c.in_ok-put_notes-3.ensures.desk in
    let taken = moves_behind c.args.node c.loop-taken.taken (telling s []) (telling_of c.loop-taken.desk) t put so_far c.in_ok-put_notes-3.ensures.whole same in
    let moves = subst (λ (n : ℕ). Repeats tells (Turned c.args.node Turn.Moved) n (telling s []) (telling t all)) count taken in
    record {
      ok = tt;
      err = (
        coded c.args.coding all,
        moves_left c.args.coding nodes c.args.node c.args.number s all t (notes_append put (note_bytes notes.text) are notes.lines) (sym c.if-not-open.ensures) moves,
        coded_behind c.args.coding _ _ _ put (note_bytes notes.text) appended c.in_ok-put_notes-3.ensures.ok,
      );
      dropped = tt;
      size = c.in_ok-put_notes-3.ensures.size ∙ c.loop-taken.invariant.size;
    }
