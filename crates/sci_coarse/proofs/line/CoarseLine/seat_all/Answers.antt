use Rattle.std.proofs.Common.{◌≡◌, ◌<◌, ◌≤◌, ℕ, ◌+◌, ◌∷◌, Bool, not, if◌then◌else◌, vec_len, length, arith, sym, ap, ◌∙◌, subst}
use Rattle.sci_port.specs.Readying.{no_receipts}
use Rattle.sci_coarse.specs.Seats.{AreIdleFrom, AreNew}
use Rattle.sci_coarse.proofs.Seating.{splits_as}
use Rattle.sci_coarse.specs.Views.{HasMadeNone}
use Rattle.sci_coarse.proofs.Listed.{clash, each_more, each_first, no_element}
use Rattle.sci_coarse.proofs.Ordered.{one_more, one_before}
use Rattle.sci_coarse.proofs.line.CoarseLine.seat_all.Goals as goal

pub loop-number-init : goal.loop-number-init
loop-number-init g c =
    let view = c.requires.view in let me = ap (λ m. m.0) view in let room = c.requires.room in
    record {
      of = c.requires.of;
      hand = ap (λ m. m.1) view;
      live = ap (λ v. v.of) me;
      unheld = ap (λ v. v.holds) me;
      first = ap (λ v. v.node) me;
      joined = ap (λ v. v.joined) me;
      idle = ap (λ v. v.pending) me;
      next = ap (λ v. v.next) me;
      len = ap (λ (z : ℕ). z + 1) room.1;
      room = room.2;
      seats = λ k s e. absurd (no_element _ k s room.0 e);
      none = (ap (λ v. v.log) me, ap (λ v. v.take) me, ap (λ v. v.give) me);
      fresh = λ k s e. absurd (no_element _ k s room.0 e);
    }

pub split_seat-token-requires : goal.split_seat-token-requires
split_seat-token-requires g c =
    let i = c.loop-number.invariant in let sized = c.args.self.now.sized in let nodes = c.args.self.now.terms.nodes in (
      i.of,
      omega (arith, sized.1),
      splits_as g.K.Keeps.fits c.args.self.now.terms c.args.self.now.table.shared.key _ _ sized.0 i.live i.unheld
          (subst (λ (z : ℕ). 0 < z) (sym i.next) c.loop-number.auto.number) (subst (λ (z : ℕ). z < nodes) (sym i.next) c.loop-number-test.true) i.joined,
    )

pub node_of-requires : goal.node_of-requires
node_of-requires g c = omega (arith, c.loop-number-test.true, c.args.self.now.sized.4)

pub idle_seat-requires : goal.idle_seat-requires
idle_seat-requires g c =
    let i = c.loop-number.invariant in let apart = c.split_seat-token.ensures in let me = ap (λ m. m.0) apart.4 in let node = sym c.node_of.ensures in
    record {
      of = ap (λ v. v.of) me ∙ i.live;
      view = (ap (λ v. v.node) me ∙ i.next ∙ node, ap (λ v. v.pending) me, ap (λ v. v.joined) me ∙ i.joined, ap (λ v. v.holds) me);
      hand = ap (λ m. m.1) apart.4;
      below = subst (λ (z : ℕ). z < c.args.self.now.terms.nodes) node c.loop-number-test.true;
    }

pub push_reserved-requires : goal.push_reserved-requires
push_reserved-requires g c = let i = c.loop-number.invariant in omega (arith, i.len, i.room, c.loop-number-test.true)

pub loop-number-preserved : goal.loop-number-preserved
loop-number-preserved g c =
    let i = c.loop-number.invariant in let apart = c.split_seat-token.ensures in let made = c.idle_seat.ensures in let old = c.loop-number.seats in
    let me = ap (λ m. m.0) apart.2 in let new = ap (λ t. t.me.0) made.token ∙ ap (λ m. m.0) apart.4 in
    let here : c.loop-number.number ≡ length old.items + 1 = sym i.len ∙ ap (λ (z : ℕ). z + 1) old.ok.0 in
    record {
      of = apart.0 ∙ i.of;
      hand = ap (λ m. m.1) apart.2 ∙ i.hand;
      live = ap (λ v. v.of) me ∙ i.live;
      unheld = ap (λ v. v.holds) me ∙ i.unheld;
      first = ap (λ v. v.node) me ∙ i.first;
      joined = ap (λ v. v.joined) me ∙ i.joined;
      idle = ap (λ v. v.pending) me ∙ i.idle;
      next = ap (λ v. v.next) me ∙ ap (λ (z : ℕ). z + 1) i.next;
      len = ap (λ (z : ℕ). z + 1) (c.push_reserved.ensures.len ∙ i.len);
      room = subst (λ (z : ℕ). c.args.self.now.terms.nodes ≤ z) (sym c.push_reserved.ensures.capacity) i.room;
      seats = subst (AreIdleFrom c.args.self.now 1) (sym c.push_reserved.ensures.items)
          (one_more c.args.self.now 1 old.items c.idle_seat.result i.seats (ap (λ t. t.table_id) made.token ∙ apart.3 ∙ i.of, made.standing.0) (made.node ∙ c.node_of.ensures ∙ here) made.standing.1);
      none = (ap (λ v. v.log) me ∙ i.none.0, ap (λ v. v.take) me ∙ i.none.1, ap (λ v. v.give) me ∙ i.none.2);
      fresh = subst AreNew (sym c.push_reserved.ensures.items) (each_more (λ x. HasMadeNone x.token.me.0 × (x.receipts ≡ no_receipts)) old.items c.idle_seat.result i.fresh ((ap (λ v. v.log) new, ap (λ v. v.take) new, ap (λ v. v.give) new), made.receipts));
    }

pub idle_seat-first-requires : goal.idle_seat-first-requires
idle_seat-first-requires g c =
    let i = c.loop-number.invariant in let node = sym c.node_of-2.ensures in
    record {
      of = i.live;
      view = (i.first ∙ node, i.idle, i.joined, i.unheld);
      hand = i.hand;
      below = subst (λ (z : ℕ). z < c.args.self.now.terms.nodes) node c.args.self.now.sized.3;
    }

pub unreachable-requires : goal.unreachable-requires
unreachable-requires g c =
    let i = c.loop-number.invariant in let number = c.loop-number.auto.number-end in
    let ok = c.insert.ensures.succeeds (omega (arith, i.len, i.room, number, c.args.self.now.sized.3)) in
    clash _ ok (c.is_err.ensures.negation ∙ ap not c.if-is_err.true)

pub returns : goal.returns
returns g c =
    let i = c.loop-number.invariant in let made = c.idle_seat-first.ensures in let seats = c.loop-number.seats in let first = c.idle_seat-first.result in
    let ok = c.is_err.ensures.negation ∙ ap not c.if-is_err.false in let me = ap (λ t. t.me.0) made.token in
    let all : c.insert.new.self.items ≡ first ∷ seats.items = c.insert.ensures.items ∙ ap (λ (b : Bool). if b then first ∷ seats.items else seats.items) ok in
    let number : c.loop-number.number ≡ c.args.self.now.terms.nodes = omega (arith, c.loop-number-test.false, c.loop-number.auto.number-end, c.args.self.now.sized.3) in
    record {
      len = c.insert.ensures.len ∙ ap (λ (b : Bool). if b then vec_len seats + 1 else vec_len seats) ok ∙ i.len ∙ number;
      seats = subst (AreIdleFrom c.args.self.now 0) (sym all)
          (one_before c.args.self.now seats.items first i.seats (ap (λ t. t.table_id) made.token ∙ i.of, made.standing.0) (made.node ∙ c.node_of-2.ensures) made.standing.1);
      new = subst AreNew (sym all) (each_first (λ x. HasMadeNone x.token.me.0 × (x.receipts ≡ no_receipts)) seats.items first i.fresh ((ap (λ v. v.log) me ∙ i.none.0, ap (λ v. v.take) me ∙ i.none.1, ap (λ v. v.give) me ∙ i.none.2), made.receipts));
    }
