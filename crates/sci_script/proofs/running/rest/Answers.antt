use Rattle.std.proofs.Common.{refl}
use Rattle.std.proofs.lemmas.Bool.{MatchBool-at_false, MatchBool-at_true}
use Rattle.sci_script.specs.Run.{RestsLines, RestsNot}
use Rattle.sci_script.proofs.running.rest.Goals as goal

pub returns-then-not-all_rest : goal.returns-then-not-all_rest
returns-then-not-all_rest g c =
    let s = c.args.desk.now in
    let t = c.all_rest.new.desk in
    record {
      ok = tt;
      err = (refl, MatchBool-at_false (RestsLines g.D.Desk.does c.args.lines s t) (RestsNot g.D.Desk.does c.args.lines s t) c.if-not-all_rest.true c.all_rest.ensures.rested);
      size = c.all_rest.ensures.size;
    }

pub returns : goal.returns
returns g c =
    let s = c.args.desk.now in
    let t = c.all_rest.new.desk in
    record {
      ok = (MatchBool-at_true (RestsLines g.D.Desk.does c.args.lines s t) (RestsNot g.D.Desk.does c.args.lines s t) c.if-not-all_rest.false c.all_rest.ensures.rested, refl);
      err = tt;
      size = c.all_rest.ensures.size;
    }
