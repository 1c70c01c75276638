use Rattle.std.proofs.Common.{rules, ◌≡◌, ◌≤◌, ℕ, refl, sym, ◌∙◌, subst, inl, inr, arith}
use Rattle.std.specs.Prelude.{vec_capacity}
use Rattle.sci_core.specs.declared.pending.Pending.{Pending}
use Rattle.sci_port.specs.History.{value_of}
use Rattle.sci_coarse.specs.Runs.{calls_in}
use Rattle.sci_coarse.specs.Banks.{IsOnePerNode}
use Rattle.sci_coarse.specs.Seats.{IsSeatOf}
use Rattle.sci_coarse.proofs.Histories.{ended, unused}
use Rattle.sci_coarse.proofs.KeptAll.{finishes}
use Rattle.sci_coarse.specs.Ends.{IsEnd}
use Rattle.sci_coarse.proofs.Listed.{all_each, clash, inside_of, seat_or}
use Rattle.sci_coarse.proofs.line.CoarseLine.finish.Goals as goal

pub returns-then-not-are_one_per_node : goal.returns-then-not-are_one_per_node
returns-then-not-are_one_per_node g c = record {
  seats = tt;
  ok = tt;
  err = (refl, refl, inl (refl, λ one. clash c.are_one_per_node.result (c.are_one_per_node.ensures.1 (subst (λ l. IsOnePerNode c.args.self l) (sym c.deref.ensures.value) one)) c.if-not-are_one_per_node.true));
}

pub returns-in_default : goal.returns-in_default
returns-in_default g c = record {
  seats = tt;
  ok = tt;
  err = (refl, refl, inr (refl, subst (λ l. IsOnePerNode c.args.self l) c.deref.ensures.value (c.are_one_per_node.ensures.0 c.if-not-are_one_per_node.false)));
}

pub join_all-root-requires : goal.join_all-root-requires
join_all-root-requires g c =
    let one = subst (λ l. IsOnePerNode c.args.self l) c.deref.ensures.value (c.are_one_per_node.ensures.0 c.if-not-are_one_per_node.false) in
    record {
      seats = λ k s e. let n : s.node ≡ k = (one.1 k s e).0 in (all_each (λ s. IsSeatOf c.args.self s) c.args.seats.items c.requires.seats k s e, omega (arith, n), all_each (λ s. s.standing.pending ≡ Pending.Idle) c.args.seats.items c.requires.rest k s e);
      len = c.args.seats.ok.0 ∙ one.0;
      room = (c.in-Ok.ensures.2, c.in-Ok.ensures.5);
    }

pub lay_open-whole-requires : goal.lay_open-whole-requires
lay_open-whole-requires g c = record { of = c.join_all-root.ensures.of; view = c.join_all-root.ensures.view }

pub closed_in-requires : goal.closed_in-requires
closed_in-requires g c =
    let left = c.lay_open-whole.ensures in let room = c.in-Ok.ensures in let nodes = sym left.on.nodes in
    record {
      idle = left.idle;
      empty = (room.0, room.1);
      tag_room = subst (λ (n : ℕ). n ≤ vec_capacity c.in-Ok.tags) nodes room.3;
      line_room = subst (λ (n : ℕ). n ≤ vec_capacity c.in-Ok.lines) nodes room.4;
    }

pub returns : goal.returns
returns g c =
    let left = c.lay_open-whole.ensures in let t = c.args.self.terms in let seats = c.args.seats.items in let j = c.join_all-root.ensures in
    let one = subst (λ l. IsOnePerNode c.args.self l) c.deref.ensures.value (c.are_one_per_node.ensures.0 (search rules)) in
    let told = ended g.K.Keeps.fits t left.run.run c.lay_open-whole.result left.run.fit left.run.ran in
    let end : IsEnd g.K.Keeps.fits t seats c.closed_in.result = record {
      whole = c.lay_open-whole.result;
      run = left.run.run;
      ran = left.run.ran;
      fit = left.run.fit;
      logs = λ i s e. sym (j.logs i s e) ∙ left.run.log i (inside_of t.nodes seats s i e one.0);
      nobody = left.run.nobody;
      unused = λ none. unused g.K.Keeps.fits t left.run.run c.lay_open-whole.result left.run.ran (λ i. seat_or seats i (λ s e. sym (left.run.log i (inside_of t.nodes seats s i e one.0)) ∙ (j.logs i s e ∙ none i s e)) (λ far. left.run.nobody i (let long = one.0 in omega arith)));
      value = value_of t.opening (calls_in left.run.run);
      history = told.1;
      valued = told.0;
      on = left.on;
      lawful = left.lawful;
      idle = left.idle;
      read = c.closed_in.ensures.read;
      exact = c.closed_in.ensures.exact;
    } in
    record { seats = one; ok = finishes g.K.Keeps.fits t seats c.closed_in.result one.0 end _ j.lists; err = tt }
