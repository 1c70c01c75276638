use Rattle.std.proofs.Common.{◌≢◌, ◌≤◌, ◌<◌, ◌-◌, Option, None, IfSome, List, ℕ, slice_get, refl, ap, sym, subst, ◌∙◌}
use Rattle.std.specs.Map.{keys_of}
use Rattle.sci_port.specs.KeepsAll.{as_it_was}
use Rattle.sci_ops.specs.declared.goals.Goal.{Goal}
use Rattle.sci_cache.specs.Called.{most_needed}
use Rattle.sci_cache.specs.Residents.{AreBelow, displaced_by, is_resident, used}
use Rattle.sci_cache.specs.Nodes.{node_state, IsLine, NodeState}
use Rattle.sci_cache.proofs.Begun.{had_memory, inside_with, used_evict, used_line, victim_evict, victim_used}
use Rattle.sci_cache.proofs.Ordered.{below_get, below_used, displaced_new, displaced_resident}
use Rattle.sci_cache.proofs.Reserved.{either_way, ok_with, on_err_with, on_ok, on_ok_with}
use Rattle.sci_cache.proofs.Turned.{same_kept, same_with}
use Rattle.sci_cache.proofs.node.Node.put_in_with_room.Goals as goal

pub returns-then-is_evict : goal.returns-then-is_evict
returns-then-is_evict g c =
    let n = c.args.self.now in
    let r = c.args.request.now in
    let none = victim_evict n n refl r (sym c.if-is_evict.ensures) in
    record {
      victim = none;
      inside = subst (λ (o : Option ℕ). IsLine n.lines o) none tt;
      used = used_evict n n refl r (sym c.if-is_evict.ensures);
      same = tt;
      same_node = same_kept n;
      succeeds = λ some. refl;
      readied = as_it_was;
      same_receipts = λ m. record { list = refl; passing = refl };
      room = tt;
      others = λ m other out. refl;
    }

pub invariant_of-self : goal.invariant_of-self
invariant_of-self g c =
    let lines = c.self.inside.lines in
    let below : c.line-line.result < lines = subst (λ (k : ℕ). c.line-line.result < k) (sym (ap (λ (k : NodeState). k.lines) c.self.view_is)) (subst (λ (l : ℕ). l < c.args.self.now.lines) (sym c.line-line.ensures) c.requires.line) in
    record {
      residents = subst (λ (xs : List ℕ). AreBelow lines xs) (sym (c.if-renew.ensures.used refl)) (below_used lines c.line-line.result c.self.inside.table.cap (keys_of c.self.inside.table.entries) below c.self.invariant.residents);
      call = c.self.invariant.call;
    }

pub returns-then-renew : goal.returns-then-renew
returns-then-renew g c = record {
  victim = victim_used _ _ c.self.view_is c.args.request.now _ c.line-line.ensures (sym c.if-is_evict.ensures) None (displaced_resident c.line-line.result c.self.inside.table.cap (keys_of c.self.inside.table.entries) (sym c.if-renew.ensures.named));
  inside = inside_with c.args.self.now c.args.request.now (subst (λ (k : NodeState). AreBelow k.lines k.residents) c.self.view_is c.self.invariant.residents);
  used = used_line _ _ c.self.view_is c.args.request.now _ c.line-line.ensures (sym c.if-is_evict.ensures) _ _ c.if-renew.ensures.capacity (c.if-renew.ensures.used refl);
  same = tt;
  same_node = same_with _ _ _ c.self.view_is record { id = refl; lines = refl; capacity = c.if-renew.ensures.capacity; keeps = refl };
  succeeds = λ some. refl;
  readied = as_it_was;
  same_receipts = λ m. record { list = refl; passing = refl };
  room = tt;
  others = λ m other out. refl;
}

pub reserve_out-requires : goal.reserve_out-requires
reserve_out-requires g c =
    let same = c.if-renew.ensures.same refl in
    let keys = keys_of c.self.inside.table.entries in
    let victim = c.last_of_full.ensures ∙ ap (λ t. slice_get (keys_of t.entries) (t.cap - 1)) same in
    record { line = subst (λ (k : ℕ). IsLine k c.last_of_full.result) (ap (λ (k : NodeState). k.lines) c.self.view_is ∙ sym c.requires.lines) (subst (λ (o : Option ℕ). IsLine c.self.inside.lines o) (sym victim) (below_get c.self.inside.lines (c.self.inside.table.cap - 1) keys c.self.invariant.residents)) }

pub invariant_of-self-2 : goal.invariant_of-self-2
invariant_of-self-2 g c =
    let lines = c.self.inside.lines in
    let same = c.if-renew.ensures.same refl in
    let below : c.line-line.result < lines = subst (λ (k : ℕ). c.line-line.result < k) (sym (ap (λ (k : NodeState). k.lines) c.self.view_is)) (subst (λ (l : ℕ). l < c.args.self.now.lines) (sym c.line-line.ensures) c.requires.line) in
    let before = subst (λ t. AreBelow lines (keys_of t.entries)) (sym same) c.self.invariant.residents in
    let after = either_way c.make_recent.result
    (on_ok_with c.make_recent.result c.make_recent.ensures.used (λ h. subst (λ (xs : List ℕ). AreBelow lines xs) (sym h) (below_used lines c.line-line.result _ _ below before)))
    (on_err_with c.make_recent.result c.make_recent.ensures.err (λ h. subst (λ t. AreBelow lines (keys_of t.entries)) (sym h) before)) in
    record { residents = after; call = c.self.invariant.call }

pub returns : goal.returns
returns g c =
    let n = c.args.self.now in
    let r = c.args.request.now in
    let l = c.line-line.result in
    let same = c.if-renew.ensures.same refl in
    let other = sym c.if-is_evict.ensures in
    let result = c.make_recent.result in
    let e = c.make_recent.ensures in
    let absent = ap (λ t. is_resident l (keys_of t.entries)) same ∙ sym c.if-renew.ensures.named in
    let last = c.last_of_full.ensures ∙ sym (displaced_new l _ _ absent) in
    let put_out = victim_used _ _ c.self.view_is r l c.line-line.ensures other c.last_of_full.result (last ∙ ap (λ t. displaced_by t.cap l (keys_of t.entries)) same) in
    record {
      victim = ok_with result e.displaced (λ v d. victim_used _ _ c.self.view_is r l c.line-line.ensures other v (d ∙ ap (λ t. displaced_by t.cap l (keys_of t.entries)) same));
      inside = on_ok result (λ ok. inside_with n r (subst (λ (k : NodeState). AreBelow k.lines k.residents) c.self.view_is c.self.invariant.residents));
      used = on_ok_with result e.used (λ h. used_line _ _ c.self.view_is r l c.line-line.ensures other _ _ (e.capacity ∙ ap (λ t. t.cap) same) (h ∙ ap (λ t. used t.cap l (keys_of t.entries)) same));
      same = on_err_with result e.err (λ h. ap (λ t. node_state c.self.inside.id c.self.inside.lines t.cap c.self.inside.keeps (keys_of t.entries) c.self.inside.call) (h ∙ same) ∙ c.self.view_is);
      same_node = same_with _ _ _ c.self.view_is record { id = refl; lines = refl; capacity = e.capacity ∙ ap (λ t. t.cap) same; keeps = refl };
      succeeds = had_memory _ _ c.self.view_is r c.line-line.ensures other (λ named. absurd (let k = c.if-renew.ensures.named ∙ named in cc));
      readied = c.reserve_out.ensures.readied;
      same_receipts = c.reserve_out.ensures.same;
      room = ok_with result e.displaced (λ v d. subst (λ (o : Option ℕ). IfSome o (λ w. most_needed Goal.Evict ≤ (g.B.Bank.receipts c.reserve_out.new.bank w).room)) (last ∙ sym d) c.in_ok-reserve_out.ensures.room);
      others = λ m other out. c.reserve_out.ensures.others m (subst (λ (o : Option ℕ). IfSome o (λ w. m ≢ w)) (sym put_out) out);
    }
