use Rattle.std.proofs.Common.{rules, ◌≡◌, ◌+◌, ◌<◌, arith, ◌∙◌, sym, subst, vec_items, List, ℕ, length, length-drop, drop, ◌++◌}
use Rattle.std.proofs.lemmas.List.{take_all}
use Rattle.std.proofs.Math.Nat.{add-mod_right, add-div_right, div-eq_of_lt, mod-eq_of_lt}
use Rattle.std.proofs.lemmas.Result.{IfOk-from_err}
use Rattle.sci_work.specs.declared.refusals.WorkRefusal.{WorkRefusal}
use Rattle.sci_work.specs.Made.{ComesInWork}
use Rattle.sci_work.proofs.Exits.{passed_on}
use Rattle.sci_work.proofs.Worked.{worked_not, worked_then}
use Rattle.sci_work.proofs.Seated.{count_of}
use Rattle.sci_work.proofs.Sharing.{none_shared, shared_more}
use Rattle.sci_work.specs.Plain.{plain}
use Rattle.sci_work.specs.Shares.{IsShare}
use Rattle.sci_work.proofs.stencils.worker.collect.Goals as goal

pub loop-tile-init : goal.loop-tile-init
loop-tile-init g c =
    let low = c.requires.nodes.0 in let none = div-eq_of_lt low in
    record {
      worked = worked_not c.requires.ready;
      own = mod-eq_of_lt low;
      size = omega (arith, none);
      shared = none_shared (plain c.args.work.cells.now c.args.work.phases) c.args.work.nodes c.args.number _ low;
    }

pub awaited-requires-clause-work : goal.awaited-requires-clause-work
awaited-requires-clause-work g c κs within = rw (c.loop-tile.invariant.worked.same_fact, c.loop-tile.invariant.worked.same_way) c.requires.work

pub returns-in_err-words : goal.returns-in_err-words
returns-in_err-words g c =
    let was = c.loop-tile.invariant in let e = c.awaited.ensures in let r = c.from_residual in
    record {
      share = IfOk-from_err r.result _ r.ensures.0;
      err = passed_on r.result _ ComesInWork r.ensures.1 c.in_err-words.ensures.err;
      worked = worked_then was.worked e.worked;
    }

pub returns-in_err-extend_from_slice : goal.returns-in_err-extend_from_slice
returns-in_err-extend_from_slice g c =
    let was = c.loop-tile.invariant in let e = c.awaited.ensures in let r = c.from_residual-in_err-extend_from_slice in
    record {
      share = IfOk-from_err r.result _ r.ensures.0;
      err = passed_on r.result WorkRefusal.OutOfMemory ComesInWork r.ensures.1 tt;
      worked = worked_then was.worked e.worked;
    }

pub returns : goal.returns
returns g c =
    let was = c.loop-tile.invariant in
    record {
      share = λ tile j below mine low. was.shared tile j (omega (arith, below, c.loop-tile-test.false)) mine low;
      err = tt;
      worked = was.worked;
    }

pub loop-tile-preserved : goal.loop-tile-preserved
loop-tile-preserved g c =
    let was = c.loop-tile.invariant in
    let n = c.args.work.nodes in let tile = c.loop-tile.tile in
    let some : 0 < n = let h = c.requires.nodes.0 in omega arith in
    let one = add-div_right tile some in
    let share = vec_items c.loop-tile.share in
    let eight : length c.in_ok-words.words ≡ 8 = search rules in
    let more = shared_more (plain c.args.work.cells.now c.args.work.phases) n c.args.number tile share c.in_ok-words.words some was.own (sym (count_of c.loop-tile.share) ∙ was.size) eight was.shared c.in_ok-words.ensures.cells in
    record {
      worked = worked_then was.worked c.awaited.ensures.worked;
      own = add-mod_right tile n ∙ was.own;
      size = let h = was.size in omega (arith, c.in_ok-extend_from_slice.ensures.len, one, length-drop 1 c.in_ok-words.words);
      shared =
          let ws = c.in_ok-words.words in
          let all = take_all 7 (drop 1 ws) (omega (arith, eight, length-drop 1 ws)) in
          let Q : List ℕ → Type 0 = λ s. IsShare (plain c.args.work.cells.now c.args.work.phases) n c.args.number (tile + n) (share ++ s) in
          let P : List ℕ → Type 0 = λ s. IsShare (plain c.args.work.cells.now c.args.work.phases) n c.args.number (tile + n) s in
          subst P (sym c.in_ok-extend_from_slice.ensures.items) (subst Q (sym all) more);
    }
