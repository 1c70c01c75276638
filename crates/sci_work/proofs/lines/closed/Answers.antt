use Rattle.std.proofs.Common.{◌≡◌, ◌++◌, ◌∷◌, ℕ, zero, suc, ◌+◌, ◌<◌, ◌≤◌, true, false, List, [], length, reverse, vec_capacity, vec_items, vec_len, arith, ap, sym, subst, refl, ◌∙◌, length-append}
use Rattle.std.proofs.lemmas.List.{reverse-append}
use Rattle.std.proofs.lemmas.Result.{IfOk-from_err}
use mathlib.Core.Option.{some, some-injective, some-ne-none}
use lib.ListN.{get_elem?}
use Rattle.atomic_table.proofs.Lists.{at_last, at_longer}
use Rattle.sci_work.specs.declared.recording.Recording.{Recording}
use Rattle.sci_work.specs.Ended.{IsClosedOf, IsHistoryOn, lists_in}
use Rattle.sci_work.specs.Hands.{AtEach, IsHandOf, IsListOf}
use Rattle.sci_work.proofs.Closing.{kept_by, own_by, read_from}
use Rattle.sci_work.proofs.Counts.{all_done, from_none}
use Rattle.sci_work.proofs.Residual.{passed_on}
use Rattle.sci_work.proofs.lines.closed.Goals as goal

-- what holds of each pair from a place on, with one more in front
pairs_more : {A B : Type 0} (P : A → B → Type 0) (xs : List A) (from : ℕ) (x : A) (ys more : List B) (y : B) → more ≡ y ∷ ys → get_elem? xs from ≡ some x → P x y
    → ((k : ℕ) (a : A) (b : B) → get_elem? xs (k + (from + 1)) ≡ some a → get_elem? ys k ≡ some b → P a b)
    → (k : ℕ) (a : A) (b : B) → get_elem? xs (k + from) ≡ some a → get_elem? more k ≡ some b → P a b
pairs_more {A} {B} P xs from x ys more y is at here rest k a b ea eb = places k ea (subst (λ (z : List B). get_elem? z k ≡ some b) is eb)
  where
    places : (k : ℕ) → get_elem? xs (k + from) ≡ some a → get_elem? (y ∷ ys) k ≡ some b → P a b
    places zero ea eb =
        let first : 0 + from ≡ from = omega arith in
        let same : x ≡ a = some-injective x a (sym at ∙ subst (λ (z : ℕ). get_elem? xs z ≡ some a) first ea) in
        subst (λ (z : A). P z b) same (subst (λ (z : B). P x z) (some-injective y b eb) here)
    places (suc j) ea eb = let next : suc j + from ≡ j + (from + 1) = omega arith in rest j a b (subst (λ (z : ℕ). get_elem? xs z ≡ some a) next ea) eb

-- and of each alone, by its place from there
fronts_more : {B : Type 0} (P : ℕ → B → Type 0) (from : ℕ) (ys more : List B) (y : B) → more ≡ y ∷ ys → P from y → ((k : ℕ) (b : B) → get_elem? ys k ≡ some b → P (k + (from + 1)) b) → (k : ℕ) (b : B) → get_elem? more k ≡ some b → P (k + from) b
fronts_more {B} P from ys more y is here rest k b at = places k (subst (λ (z : List B). get_elem? z k ≡ some b) is at)
  where
    places : (k : ℕ) → get_elem? (y ∷ ys) k ≡ some b → P (k + from) b
    places zero e = let first : from ≡ 0 + from = omega arith in subst (λ (n : ℕ). P n b) first (subst (P from) (some-injective y b e) here)
    places (suc j) e = let next : j + (from + 1) ≡ suc j + from = omega arith in subst (λ (n : ℕ). P n b) next (rest j b e)

-- and of each three
triples_more : {A B C : Type 0} (P : A → B → C → Type 0) (xs : List A) (from : ℕ) (x : A) (ys more : List B) (y : B) (zs many : List C) (z : C) → more ≡ y ∷ ys → many ≡ z ∷ zs → get_elem? xs from ≡ some x → P x y z
    → ((k : ℕ) (a : A) (b : B) (c : C) → get_elem? xs (k + (from + 1)) ≡ some a → get_elem? ys k ≡ some b → get_elem? zs k ≡ some c → P a b c)
    → (k : ℕ) (a : A) (b : B) (c : C) → get_elem? xs (k + from) ≡ some a → get_elem? more k ≡ some b → get_elem? many k ≡ some c → P a b c
triples_more {A} {B} {C} P xs from x ys more y zs many z is has at here rest k a b c ea eb ec =
    places k ea (subst (λ (l : List B). get_elem? l k ≡ some b) is eb) (subst (λ (l : List C). get_elem? l k ≡ some c) has ec)
  where
    places : (k : ℕ) → get_elem? xs (k + from) ≡ some a → get_elem? (y ∷ ys) k ≡ some b → get_elem? (z ∷ zs) k ≡ some c → P a b c
    places zero ea eb ec =
        let first : 0 + from ≡ from = omega arith in
        let same : x ≡ a = some-injective x a (sym at ∙ subst (λ (n : ℕ). get_elem? xs n ≡ some a) first ea) in
        subst (λ (v : A). P v b c) same (subst (λ (v : B). P x v c) (some-injective y b eb) (subst (λ (v : C). P x y v) (some-injective z c ec) here))
    places (suc j) ea eb ec = let next : suc j + from ≡ j + (from + 1) = omega arith in rest j a b c (subst (λ (n : ℕ). get_elem? xs n ≡ some a) next ea) eb ec

fewer_rest : (rest done all fewer : ℕ) → rest + done ≡ all → fewer + 1 ≡ rest → fewer + (done + 1) ≡ all
fewer_rest rest done all fewer was one = omega (arith, was, one)

pub loop-init : goal.loop-init
loop-init g c = record {
  rest = omega arith;
  len = c.in_ok-all.ensures.len;
  room = subst (λ (z : ℕ). z ≤ vec_capacity c.in_ok-all.all) c.len.ensures c.in_ok-all.ensures.capacity;
  same = λ k x e. e;
  hands = λ k x e. c.requires k x e;
  lists = λ all. c.in_ok-receipts.ensures.len;
  lists_room = λ all. subst (λ (z : ℕ). z ≤ vec_capacity c.in_ok-receipts.receipts) (c.lists_for.ensures.all all ∙ c.len-2.ensures) c.in_ok-receipts.ensures.capacity;
  none = λ nothing. c.in_ok-receipts.ensures.items;
  from = λ k x e. (x, e, λ line s at. at);
  own = λ all k v e. absurd (some-ne-none v (sym (subst (λ (z : List _). get_elem? (reverse z) k ≡ some v) c.in_ok-receipts.ensures.items e)));
  histories = λ all k x d v el ed ev. absurd (some-ne-none v (sym (subst (λ (z : List _). get_elem? (reverse z) k ≡ some v) c.in_ok-receipts.ensures.items ev)));
  each = λ k x d el ed. absurd (some-ne-none d (sym (subst (λ (z : List _). get_elem? (reverse z) k ≡ some d) c.in_ok-all.ensures.items ed)));
}

pub unreachable-requires : goal.unreachable-requires
unreachable-requires g c =
    let some_left : 0 < vec_len c.loop.rest = omega (arith, c.loop.invariant.rest, c.loop-test.true, c.len-end.ensures) in
    let e : false ≡ true = c.in_default.ensures.variant.1 some_left in cc

pub loop-preserved : goal.loop-preserved
loop-preserved g c =
    let i = c.loop.invariant in let line = c.in-Some.line in let fewer = c.pop.new.self.items in let popped = c.in-Some.ensures.items in let put = c.push_reserved.ensures in
    let one : vec_len c.pop.new.self + 1 ≡ vec_len c.loop.rest = c.in-Some.ensures.cases in
    let size : length fewer ≡ vec_len c.pop.new.self = omega (arith, c.pop.new.self.ok) in
    let rest = vec_len c.pop.new.self in let made = c.in_ok-one.one in let told = c.in_ok-one.ensures in let kept = c.keep_lists.ensures in
    let at_rest = i.same rest line (subst (λ (z : List _). get_elem? z rest ≡ some line) (sym popped) (at_last fewer line rest size)) in
    let closed_more = ap reverse put.items ∙ reverse-append c.loop.all.items (made.closed ∷ []) in
    let lists_more = λ (all : c.args.recording ≡ Recording.All). ap reverse (kept.all all) ∙ reverse-append c.loop.receipts.items (made.receipts ∷ []) in
    record {
      rest = fewer_rest (vec_len c.loop.rest) c.loop.counter _ (vec_len c.pop.new.self) i.rest one;
      len = put.len ∙ ap (λ (z : ℕ). z + 1) i.len;
      room = subst (λ (z : ℕ). vec_len c.args.lines ≤ z) (sym put.capacity) i.room;
      same = λ k x e. i.same k x (subst (λ (z : List _). get_elem? z k ≡ some x) (sym popped) (at_longer fewer (line ∷ []) k x e));
      hands = λ k x e. subst (λ (z : List _). IsHandOf c.args.recording z k (vec_items x)) c.deref.ensures.value (c.in_ok-fewer.ensures.hands k x e);
      lists = λ all.
          let more = ap (λ (z : List _). length z) (kept.all all) in
          omega (arith, more, length-append c.loop.receipts.items (made.receipts ∷ []), i.lists all, c.keep_lists.new.receipts.ok, c.loop.receipts.ok);
      lists_room = λ all. subst (λ (z : ℕ). vec_len c.args.lines ≤ z) (sym kept.room) (i.lists_room all);
      none = λ nothing. kept.nothing nothing ∙ i.none nothing;
      from = λ k x e. let f = c.in_ok-fewer.ensures.fewer k x e in let o = i.from k f.0 f.1 in (o.0, o.1, λ line s at. o.2 line s (f.2 line s at));
      own = λ all. fronts_more (λ n v. AtEach (λ node list. IsListOf (vec_items c.args.hands) node n list) (lists_in v)) rest (reverse c.loop.receipts.items) (reverse c.keep_lists.new.receipts.items) made.receipts (lists_more all)
          (λ node list at.
          let v = read_from (λ (s : _). s.receipts.list) c.in_ok-fewer.seats.items node list (subst (λ (z : List _). get_elem? z node ≡ some list) told.own at) in
          let h = c.in_ok-fewer.ensures.last node v.0 v.1 in let o = i.from node h.0 h.1 in
          let stands = ap (λ (z : List _). length z) c.deref.ensures.value ∙ size in
          (o.0, o.1, v.0, o.2 rest v.0 (subst (λ (n : ℕ). get_elem? h.0.items n ≡ some v.0) stands h.2), v.2))
          (λ k v e. subst (λ (n : ℕ). AtEach (λ node list. IsListOf (vec_items c.args.hands) node (k + n) list) (lists_in v)) (sym one) (i.own all k v e));
      histories = λ all. triples_more (λ x d v. IsHistoryOn g.K.Keeps.fits x d (lists_in v)) c.args.lines.items rest line
          (reverse c.loop.all.items) (reverse c.push_reserved.new.self.items) made.closed (reverse c.loop.receipts.items) (reverse c.keep_lists.new.receipts.items) made.receipts closed_more (lists_more all) at_rest
          (told.history all)
          (λ k a b v ea eb ev. i.histories all k a b v (subst (λ (z : ℕ). get_elem? c.args.lines.items (k + z) ≡ some a) one ea) eb ev);
      each = pairs_more (λ x d. IsClosedOf g.K.Keeps.fits x d) c.args.lines.items rest line (reverse c.loop.all.items) (reverse c.push_reserved.new.self.items) made.closed closed_more at_rest told.ok
          (λ k a b ea eb. i.each k a b (subst (λ (z : ℕ). get_elem? c.args.lines.items (k + z) ≡ some a) one ea) eb);
    }

pub returns-clause-ok : goal.returns-clause-ok
returns-clause-ok g c =
    let i = c.loop.invariant in
    record {
      count = omega (arith, c.reverse.ensures.len, i.len, i.rest, c.loop-test.false, c.len-end.ensures, c.reverse.new.self.ok, c.args.lines.ok);
      each = λ k l d el ed.
          let none = all_done (vec_len c.loop.rest) c.loop.counter c.len-end.result (vec_len c.args.lines) i.rest c.loop-test.false c.len-end.ensures in
          i.each k l d (subst (λ (z : ℕ). get_elem? c.args.lines.items z ≡ some l) (from_none k (vec_len c.loop.rest) none) el) (subst (λ (z : List _). get_elem? z k ≡ some d) c.reverse.ensures.items ed);
    }

pub returns-clause-kept : goal.returns-clause-kept
returns-clause-kept g c =
    let i = c.loop.invariant in
    let none = all_done (vec_len c.loop.rest) c.loop.counter c.len-end.result (vec_len c.args.lines) i.rest c.loop-test.false c.len-end.ensures in
    let at = λ (k : ℕ) (l : _) (el : get_elem? c.args.lines.items k ≡ some l). subst (λ (z : ℕ). get_elem? c.args.lines.items z ≡ some l) (from_none k (vec_len c.loop.rest) none) el in
    kept_by g.K.Keeps.fits c.args.recording c.args.lines.items _
    (λ all. record {
      count = let n = i.lists all in let r = c.reverse-2.ensures.len in omega (arith, r, n, i.rest, none, c.reverse-2.new.self.ok, c.args.lines.ok);
      each = λ k l d v el ed ev. i.histories all k l d v (at k l el) (subst (λ (z : List _). get_elem? z k ≡ some d) c.reverse.ensures.items ed) (subst (λ (z : List _). get_elem? z k ≡ some v) c.reverse-2.ensures.items ev);
    })
    (λ nothing. c.reverse-2.ensures.items ∙ ap reverse (i.none nothing))

pub returns-clause-own : goal.returns-clause-own
returns-clause-own g c =
    let i = c.loop.invariant in
    let none = all_done (vec_len c.loop.rest) c.loop.counter c.len-end.result (vec_len c.args.lines) i.rest c.loop-test.false c.len-end.ensures in
    own_by c.args.recording c.args.hands.items (record { lines = c.reverse.new.self; receipts = c.reverse-2.new.self })
    (λ all k v e. subst (λ (n : ℕ). AtEach (λ node list. IsListOf (vec_items c.args.hands) node n list) (lists_in v)) (sym (from_none k (vec_len c.loop.rest) none)) (i.own all k v (subst (λ (z : List _). get_elem? z k ≡ some v) c.reverse-2.ensures.items e)))
    (λ nothing. c.reverse-2.ensures.items ∙ ap reverse (i.none nothing))

pub keep_lists-requires : goal.keep_lists-requires
keep_lists-requires g c = λ all.
    let i = c.loop.invariant in
    let one : vec_len c.pop.new.self + 1 ≡ vec_len c.loop.rest = c.in-Some.ensures.cases in
    let n = i.lists all in let room = i.lists_room all in omega (arith, n, room, i.rest, one)

pub returns-in_err-receipts : goal.returns-in_err-receipts
returns-in_err-receipts g c = let r = c.from_residual-in_err-receipts in record { ok = IfOk-from_err r.result _ r.ensures.0; kept = IfOk-from_err r.result _ r.ensures.0; own = IfOk-from_err r.result _ r.ensures.0; err = passed_on r.result _ _ r.ensures.1 refl }

pub last_seats-requires : goal.last_seats-requires
last_seats-requires g c = λ k x e.
    subst (λ (z : List _). IsHandOf c.args.recording z k (vec_items x)) (c.in-Some.ensures.items ∙ ap (λ (z : List _). z ++ c.in-Some.line ∷ []) (sym c.deref.ensures.value)) (c.loop.invariant.hands k x e)

pub finished-requires : goal.finished-requires
finished-requires g c = c.in_ok-fewer.ensures.seats

pub returns-in_err-all : goal.returns-in_err-all
returns-in_err-all g c = let r = c.from_residual in record { ok = IfOk-from_err r.result _ r.ensures.0; kept = IfOk-from_err r.result _ r.ensures.0; own = IfOk-from_err r.result _ r.ensures.0; err = passed_on r.result _ _ r.ensures.1 refl }

pub returns-in_err-fewer : goal.returns-in_err-fewer
returns-in_err-fewer g c = let r = c.from_residual-in_err-fewer in record { ok = IfOk-from_err r.result _ r.ensures.0; kept = IfOk-from_err r.result _ r.ensures.0; own = IfOk-from_err r.result _ r.ensures.0; err = passed_on r.result _ _ r.ensures.1 c.in_err-fewer.ensures.err }

pub returns-in_err-one : goal.returns-in_err-one
returns-in_err-one g c = let r = c.from_residual-in_err-one in record { ok = IfOk-from_err r.result _ r.ensures.0; kept = IfOk-from_err r.result _ r.ensures.0; own = IfOk-from_err r.result _ r.ensures.0; err = passed_on r.result _ _ r.ensures.1 c.in_err-one.ensures.err }
