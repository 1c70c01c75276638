use Rattle.std.proofs.Common.{◌<◌, ◌+◌, ℕ, List, ◌∷◌, ◌++◌, ◌≡◌, Some, length, map, vec_items, vec_len, arith, sym, ◌∙◌, ap, subst}
use Rattle.sci_coarse.specs.Kept.{lists_of}
use Rattle.sci_coarse.proofs.KeptAll.{lists_first, lists_last, moved_more, moved_out, no_length}
use Rattle.sci_coarse.proofs.Seating.{joins_as}
use Rattle.atomic_table.proofs.Lists.{at_index}
use Rattle.sci_coarse.specs.Views.{joined_view}
use Rattle.sci_coarse.proofs.Ordered.{KeepsFrom, first_of, others_of, last_of, first_kept, others_first, fewer_first, kept_more, kept_all}
use Rattle.sci_coarse.proofs.line.CoarseLine.join_all.Goals as goal

pub remove-root-requires : goal.remove-root-requires
remove-root-requires g c = subst (λ (n : ℕ). 0 < n) (sym c.requires.len) c.args.self.now.sized.3

pub loop-seat-init : goal.loop-seat-init
loop-seat-init g c =
    let sized = c.args.self.now.sized in let r = c.remove-root in let s = r.result in
    let some_seat : 0 < length c.args.seats.items = omega (arith, c.args.seats.ok) in
    let f = first_of c.args.self.now c.args.seats.items s c.requires.seats some_seat r.ensures.value in
    record {
      of = f.0.0;
      live = s.of ∙ ap (λ x. Some x) f.0.1;
      unheld = s.seen.3;
      first = s.seen.0 ∙ f.1;
      joined = s.seen.2 ∙ (ap (λ x. x.nodes) f.0.1 ∙ (omega arith));
      idle = s.seen.1 ∙ f.2;
      seats = others_of c.args.self.now c.args.seats.items r.new.self.items c.requires.seats r.ensures.items;
      calls = first_kept c.args.seats.items s _ (at_index c.args.seats.items 0 s some_seat r.ensures.value) (s.seen.0 ∙ f.1) (omega (arith, c.args.seats.ok, r.new.self.ok));
      others = others_first c.args.seats.items r.new.self.items r.ensures.items;
      count = let none : vec_len c.args.lists ≡ 0 = c.args.lists.ok.0 ∙ ap (λ l. length l) c.requires.room.0 in omega (arith, c.requires.len, none, r.ensures.len);
      room = c.requires.room.1;
      lists = lists_first s c.args.seats.items r.new.self.items c.args.lists.items some_seat r.ensures.value r.ensures.items c.requires.room.0;
    }

pub join_seat-requires : goal.join_seat-requires
join_seat-requires g c =
    let i = c.loop-seat.invariant in let sized = c.args.self.now.sized in let s = c.in-Some.seat in
    let l = last_of c.args.self.now 1 c.loop-seat.seats.items c.pop.new.self.items s i.seats c.in-Some.ensures.items in let node = l.0.1 in let seen = s.seen.0 in
    (i.of, l.0.0.0, s.hand, omega (arith, sized.1), joins_as g.K.Keeps.fits c.args.self.now.terms c.args.self.now.table.shared.key _ _ _ _ sized.0 i.live i.unheld (s.of ∙ ap (λ x. Some x) l.0.0.1) s.seen.3 (omega (arith, c.pop.new.self.ok, c.in-Some.ensures.len, i.joined)) (s.seen.1 ∙ l.0.2))

pub loop-seat-preserved : goal.loop-seat-preserved
loop-seat-preserved g c =
    let i = c.loop-seat.invariant in let s = c.in-Some.seat in let j = c.join_seat.ensures in
    let l = last_of c.args.self.now 1 c.loop-seat.seats.items c.pop.new.self.items s i.seats c.in-Some.ensures.items in let node = l.0.1 in let seen = s.seen.0 in
    let me = ap (λ m. m.0) j.2 in
    record {
      of = j.0 ∙ i.of;
      live = ap (λ v. v.of) me ∙ i.live;
      unheld = ap (λ v. v.holds) me ∙ i.unheld;
      first = ap (λ v. v.node) me ∙ i.first;
      joined = ap (λ v. v.joined) me ∙ (omega (arith, c.pop.new.self.ok));
      idle = ap (λ v. v.pending) me ∙ i.idle;
      seats = l.1;
      calls = subst (KeepsFrom c.args.seats.items (vec_len c.pop.new.self + 1)) (sym me) (subst (λ (n : ℕ). KeepsFrom c.args.seats.items (n + 1) (joined_view c.loop-seat.root.me.0 s.token.me.0)) (sym c.pop.new.self.ok.0)
          (kept_more c.args.seats.items c.loop-seat.seats.items c.pop.new.self.items s c.loop-seat.root.me.0 c.in-Some.ensures.items i.others (seen ∙ node) i.first
          (subst (λ (n : ℕ). KeepsFrom c.args.seats.items (n + 1) c.loop-seat.root.me.0) c.loop-seat.seats.ok.0 i.calls)));
      others = fewer_first c.args.seats.items c.loop-seat.seats.items c.pop.new.self.items s c.in-Some.ensures.items i.others;
      count = omega (arith, i.count, c.in-Some.ensures.len, c.push_reserved.ensures.len);
      room = omega (arith, i.room, c.push_reserved.ensures.capacity);
      lists = ap (λ l. c.remove-root.result.receipts.list ∷ l) (lists_last c.loop-seat.seats.items c.pop.new.self.items s c.loop-seat.lists.items c.push_reserved.new.self.items c.into_vec.result c.in-Some.ensures.items c.push_reserved.ensures.items c.into_vec.ensures) ∙ i.lists;
    }

pub loop-seat-smaller : goal.loop-seat-smaller
loop-seat-smaller g c = omega (arith, c.in-Some.ensures.len, c.pop.new.self.ok.0, c.loop-seat.seats.ok.0)

pub returns : goal.returns
returns g c =
    let i = c.loop-seat.invariant in let none = c.in_default.ensures.cases.0 in let left = c.loop-seat.seats in let moved = c.loop-seat.lists.items in
    record {
      of = (i.of, i.live);
      view = (i.first, i.joined ∙ ap (λ (n : ℕ). n + 1) none, i.idle, i.unheld);
      logs = kept_all c.args.seats.items _ c.loop-seat.root.me.0 (omega (arith, none)) i.calls;
      lists = ap (λ l. map (λ v. vec_items v) l) c.reverse.ensures.items
          ∙ (moved_more moved c.push_reserved-2.new.self.items c.into_vec-2.result c.push_reserved-2.ensures.items ∙ (ap (λ l. l ∷ moved_out moved) c.into_vec-2.ensures
          ∙ subst (λ (seats : List _). c.remove-root.result.receipts.list ∷ (lists_of seats ++ moved_out moved) ≡ lists_of c.args.seats.items) (no_length left.items (sym left.ok.0 ∙ none)) i.lists));
    }
