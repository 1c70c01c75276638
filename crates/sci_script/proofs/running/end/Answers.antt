use Rattle.std.proofs.Common.{◌≡◌, ◌∙◌, ◌<◌, ◌≤◌, ℕ, refl, sym, ap, subst, inl, true, arith, rules, string_bytes}
use Rattle.std.proofs.lemmas.Bool.{MatchBool-at_false, MatchBool-at_true}
use Rattle.std.proofs.lemmas.Result.{err_from_is_err_and}
use Rattle.sci_core.specs.declared.whole.TheConstants.{MOST_NODES}
use Rattle.sci_script.specs.declared.commands.Size.{Size}
use Rattle.sci_script.specs.Run.{EndsOpen, EndsOpenBy, EndStops, RestsLines, RestsNot}
use Rattle.sci_script.proofs.Runs.{end_stops, ends_open_more, ends_open_none}
use Rattle.sci_script.proofs.running.end.Goals as goal

pub returns-then-not-all_rest : goal.returns-then-not-all_rest
returns-then-not-all_rest g c =
    let s = c.args.desk.now in
    let t = c.all_rest.new.desk in
    record {
      ok = tt;
      err = (refl, inl (MatchBool-at_false (RestsLines g.D.Desk.does c.args.lines s t) (RestsNot g.D.Desk.does c.args.lines s t) c.if-not-all_rest.true c.all_rest.ensures.rested));
      size = c.all_rest.ensures.size;
    }

pub loop-place-init : goal.loop-place-init
loop-place-init g c = record {
  so_far = ends_open_none g.D.Desk.is_open g.D.Desk.does c.args.words.now (string_bytes c.args.text.now) c.all_rest.new.desk c.requires.empty;
  size = refl;
}

pub end_open-requires : goal.end_open-requires
end_open-requires g c =
    let sized = c.loop-place.invariant.size ∙ c.all_rest.ensures.size in
    let nodes : (g.D.Desk.size c.loop-place.desk).nodes ≡ c.args.nodes = ap (λ (z : Size). z.nodes) sized ∙ sym c.requires.nodes in
    let node : c.unwrap-node.result ≡ c.loop-place.place = search rules in
    record {
      node = omega (arith, node, c.loop-place-test.true, nodes);
      few = subst (λ (z : Size). z.nodes ≤ MOST_NODES) (sym sized) c.requires.few;
      words = c.requires.words;
    }

pub loop-place-preserved : goal.loop-place-preserved
loop-place-preserved g c =
    let i = c.loop-place.invariant in
    let d = c.loop-place.desk in
    let t = c.end_open.new.desk in
    let words = c.args.words.now in
    let node : c.unwrap-node.result ≡ c.loop-place.place = search rules in
    let (last, ends, text) = c.in_ok-end_open.ensures.ok in
    let one = subst (λ (j : ℕ). EndsOpenBy (g.D.Desk.is_open d j) g.D.Desk.does words j d last t) node ends in
    record {
      so_far = ends_open_more g.D.Desk.is_open g.D.Desk.does words c.loop-place.place c.all_rest.new.desk d t (string_bytes c.loop-place.text) last (string_bytes c.end_open.new.text) i.so_far one text;
      size = c.in_ok-end_open.ensures.size ∙ i.size;
    }

pub returns-in_err-end_open : goal.returns-in_err-end_open
returns-in_err-end_open g c =
    let p = err_from_is_err_and c.from_residual.result c.from_residual.ensures.1 in
    let i = c.loop-place.invariant in
    let s = c.args.desk.now in
    let rested = c.all_rest.new.desk in
    let d = c.loop-place.desk in
    let t = c.end_open.new.desk in
    let words = c.args.words.now in
    let e = c.in_err-end_open.field-0.0 in
    let node : c.unwrap-node.result ≡ c.loop-place.place = search rules in
    let rest = MatchBool-at_true (RestsLines g.D.Desk.does c.args.lines s rested) (RestsNot g.D.Desk.does c.args.lines s rested) c.if-not-all_rest.false c.all_rest.ensures.rested in
    let stops = subst (λ (j : ℕ). (g.D.Desk.is_open d j ≡ true) × EndStops g.D.Desk.does words c.args.number j d e t) node c.in_err-end_open.ensures.err in
    record {
      ok = rw p.1 tt;
      err = rw (p.1, p.2) (end_stops g.D.Desk.is_open g.D.Desk.does words (string_bytes c.loop-place.text) c.args.nodes c.args.lines c.args.number c.loop-place.place s rested d t e c.loop-place-test.true rest i.so_far stops);
      size = c.in_err-end_open.ensures.size ∙ i.size ∙ c.all_rest.ensures.size;
    }

pub returns : goal.returns
returns g c =
    let i = c.loop-place.invariant in
    let s = c.args.desk.now in
    let rested = c.all_rest.new.desk in
    let all : c.loop-place.place ≡ c.args.nodes = omega (arith, c.loop-place-test.false, c.loop-place.auto.place-end) in
    let rest = MatchBool-at_true (RestsLines g.D.Desk.does c.args.lines s rested) (RestsNot g.D.Desk.does c.args.lines s rested) c.if-not-all_rest.false c.all_rest.ensures.rested in
    record {
      ok = (rested, rest, subst (λ (m : ℕ). EndsOpen g.D.Desk.is_open g.D.Desk.does c.args.words.now m rested (string_bytes c.loop-place.text) c.loop-place.desk) all i.so_far);
      err = tt;
      size = i.size ∙ c.all_rest.ensures.size;
    }
