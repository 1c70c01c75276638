use Rattle.std.proofs.Common.{◌≡◌, ◌<◌, ◌+◌, ℕ, List, ◌∷◌, ◌++◌, Some, length, map, vec_items, vec_len, arith, sym, ◌∙◌, ap, subst}
use Rattle.sci_fine.specs.Kept.{lists_of}
use Rattle.sci_fine.specs.Seats.{logs_of}
use Rattle.sci_fine.proofs.KeptAll.{lists_first, lists_last, moved_more, moved_out}
use Rattle.sci_fine.proofs.Elements.{no_length}
use Rattle.sci_fine.proofs.Seating.{joins_as}
use Rattle.sci_fine.proofs.Ordered.{first_of, others_of, last_of, empty_hand, no_logs, logs_first, logs_last}
use Rattle.sci_fine.proofs.line.FineLine.join_all.Goals as goal

pub remove-root-requires : goal.remove-root-requires
remove-root-requires g c = subst (λ (n : ℕ). 0 < n) (sym c.requires.len) c.args.self.now.sized.3

pub loop-seat-init : goal.loop-seat-init
loop-seat-init g c =
    let sized = c.args.self.now.sized in let r = c.remove-root in let s = r.result in
    let some_seat : 0 < length c.args.seats.items = omega (arith, c.args.seats.ok) in
    let f = first_of c.args.self.now c.args.seats.items s c.requires.seats some_seat r.ensures.value in
    record {
      of = f.0.0;
      live = s.of ∙ ap (λ x. Some x) f.0.1;
      first = s.seen.0 ∙ f.1;
      joined = s.seen.2 ∙ (ap (λ x. x.nodes) f.0.1 ∙ (omega arith));
      idle = s.seen.1 ∙ f.2;
      seats = others_of c.args.self.now c.args.seats.items r.new.self.items c.requires.seats r.ensures.items;
      logs = logs_first s c.args.seats.items r.new.self.items s.token.me.0.logs some_seat r.ensures.value r.ensures.items (no_logs s);
      count = let none : vec_len c.args.lists ≡ 0 = c.args.lists.ok.0 ∙ ap (λ l. length l) c.requires.room.0 in omega (arith, c.requires.len, none, r.ensures.len);
      room = c.requires.room.1;
      lists = lists_first s c.args.seats.items r.new.self.items c.args.lists.items some_seat r.ensures.value r.ensures.items c.requires.room.0;
    }

pub join_seat-requires : goal.join_seat-requires
join_seat-requires g c =
    let i = c.loop-seat.invariant in let sized = c.args.self.now.sized in let s = c.in-Some.seat in
    let l = last_of c.args.self.now 1 c.loop-seat.seats.items c.pop.new.self.items s i.seats c.in-Some.ensures.items in let node = l.0.1 in let seen = s.seen.0 in
    (i.of, l.0.0.0, empty_hand s l.0.2, omega (arith, sized.1), joins_as g.K.Keeps.fits c.args.self.now.terms c.args.self.now.table.shared.key _ _ _ _ sized.0 i.live (s.of ∙ ap (λ x. Some x) l.0.0.1) (omega (arith, c.pop.new.self.ok, c.in-Some.ensures.len, i.joined)) (s.seen.1 ∙ l.0.2))

pub loop-seat-preserved : goal.loop-seat-preserved
loop-seat-preserved g c =
    let i = c.loop-seat.invariant in let s = c.in-Some.seat in let j = c.join_seat.ensures in
    let l = last_of c.args.self.now 1 c.loop-seat.seats.items c.pop.new.self.items s i.seats c.in-Some.ensures.items in let node = l.0.1 in let seen = s.seen.0 in
    let me = ap (λ m. m.0) j.2 in
    record {
      of = j.0 ∙ i.of;
      live = ap (λ v. v.of) me ∙ i.live;
      first = ap (λ v. v.node) me ∙ i.first;
      joined = ap (λ v. v.joined) me ∙ (omega (arith, c.pop.new.self.ok));
      idle = ap (λ v. v.pending) me ∙ i.idle;
      seats = l.1;
      logs = logs_last c.loop-seat.seats.items c.pop.new.self.items s c.loop-seat.root.me.0 c.join_seat.new.seat.me.0 me c.in-Some.ensures.items ∙ i.logs;
      count = omega (arith, i.count, c.in-Some.ensures.len, c.push_reserved.ensures.len);
      room = omega (arith, i.room, c.push_reserved.ensures.capacity);
      lists = ap (λ l. c.remove-root.result.receipts.list ∷ l) (lists_last c.loop-seat.seats.items c.pop.new.self.items s c.loop-seat.lists.items c.push_reserved.new.self.items c.into_vec.result c.in-Some.ensures.items c.push_reserved.ensures.items c.into_vec.ensures) ∙ i.lists;
    }

pub loop-seat-smaller : goal.loop-seat-smaller
loop-seat-smaller g c = omega (arith, c.in-Some.ensures.len, c.pop.new.self.ok.0, c.loop-seat.seats.ok.0)

pub returns : goal.returns
returns g c =
    let i = c.loop-seat.invariant in let none = c.in_default.ensures.cases.0 in let root = c.loop-seat.root.me.0 in let left = c.loop-seat.seats in let moved = c.loop-seat.lists.items in
    record {
      of = (i.of, i.live);
      view = (i.first, i.joined ∙ ap (λ (n : ℕ). n + 1) none, i.idle);
      logs = subst (λ (seats : List _). root.log ∷ (logs_of seats ++ root.logs) ≡ logs_of c.args.seats.items) (no_length left.items (sym left.ok.0 ∙ none)) i.logs;
      lists = ap (λ l. map (λ v. vec_items v) l) c.reverse.ensures.items
          ∙ (moved_more moved c.push_reserved-2.new.self.items c.into_vec-2.result c.push_reserved-2.ensures.items ∙ (ap (λ l. l ∷ moved_out moved) c.into_vec-2.ensures
          ∙ subst (λ (seats : List _). c.remove-root.result.receipts.list ∷ (lists_of seats ++ moved_out moved) ≡ lists_of c.args.seats.items) (no_length left.items (sym left.ok.0 ∙ none)) i.lists));
    }
