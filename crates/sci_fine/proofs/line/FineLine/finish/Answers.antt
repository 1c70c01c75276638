use Rattle.std.proofs.Common.{rules, ◌≡◌, refl, sym, ap, ◌∙◌, subst, inl, inr, length, ◌∷◌, arith}
use Rattle.std.proofs.lemmas.List.{length-map}
use Rattle.sci_core.specs.declared.pending.Pending.{Pending}
use Rattle.sci_fine.proofs.Elements.{clash, all_each}
use Rattle.sci_fine.proofs.KeptAll.{finishes}
use Rattle.sci_fine.specs.Ends.{IsEnd}
use Rattle.sci_fine.specs.Banks.{IsOnePerNode}
use Rattle.sci_fine.specs.Seats.{IsSeatOf}
use Rattle.sci_fine.proofs.line.FineLine.finish.Goals as goal

pub returns-then-not-are_one_per_node : goal.returns-then-not-are_one_per_node
returns-then-not-are_one_per_node g c = record {
  seats = tt;
  ok = tt;
  err = (refl, refl, inl (refl, λ one. clash c.are_one_per_node.result (c.are_one_per_node.ensures.1 (subst (λ l. IsOnePerNode c.args.self l) (sym c.deref.ensures.value) one)) c.if-not-are_one_per_node.true));
}

pub returns-in_default : goal.returns-in_default
returns-in_default g c = record {
  seats = tt;
  ok = tt;
  err = (refl, refl, inr (refl, subst (λ l. IsOnePerNode c.args.self l) c.deref.ensures.value (c.are_one_per_node.ensures.0 c.if-not-are_one_per_node.false)));
}

pub join_all-root-requires : goal.join_all-root-requires
join_all-root-requires g c =
    let one = subst (λ l. IsOnePerNode c.args.self l) c.deref.ensures.value (c.are_one_per_node.ensures.0 c.if-not-are_one_per_node.false) in
    record {
      seats = λ k s e. let n : s.standing.node ≡ k = (one.1 k s e).0 in (all_each (λ s. IsSeatOf c.args.self s) c.args.seats.items c.requires.seats k s e, omega (arith, n), all_each (λ s. s.standing.pending ≡ Pending.Idle) c.args.seats.items c.requires.rest k s e);
      len = c.args.seats.ok.0 ∙ one.0;
      room = (c.in-Ok.ensures.2, c.in-Ok.ensures.5);
    }

pub lay_open-requires : goal.lay_open-requires
lay_open-requires g c =
    let one = subst (λ l. IsOnePerNode c.args.self l) c.deref.ensures.value (c.are_one_per_node.ensures.0 c.if-not-are_one_per_node.false) in
    record {
      of = c.join_all-root.ensures.of;
      view = c.join_all-root.ensures.view;
      logs = ap length c.join_all-root.ensures.logs ∙ (length-map _ _ ∙ one.0);
    }

pub read_out-requires : goal.read_out-requires
read_out-requires g c =
    record {
      nodes = c.args.self.sized.4;
      counts = c.lay_open.ensures.counts;
      full = c.lay_open.ensures.full;
      rest = (_, c.lay_open.ensures.rest);
      room = (c.in-Ok.ensures.6, c.in-Ok.ensures.7, c.in-Ok.ensures.3, c.in-Ok.ensures.4);
    }

pub returns : goal.returns
returns g c =
    let t = c.args.self.terms in let j = c.join_all-root.ensures in let root = c.join_all-root.result.0.me.0 in
    let one = subst (λ l. IsOnePerNode c.args.self l) c.deref.ensures.value (c.are_one_per_node.ensures.0 (search rules)) in
    let end = subst (λ logs. IsEnd g.K.Keeps.fits t logs c.read_out.result) j.logs (c.read_out.ensures (root.log ∷ root.logs) c.lay_open.ensures.rest) in
    record {
      seats = one;
      ok = finishes g.K.Keeps.fits t c.args.seats.items c.read_out.result _ one.0 j.lists end;
      err = tt;
    }
