use Rattle.std.proofs.Common.{◌≡◌, ◌∙◌, ◌+◌, ◌*◌, ◌<◌, ◌≤◌, ℕ, suc, Bool, false, List, Option, None, is_some, length, get_or, set, refl, sym, ap, subst, arith}
use Rattle.std.proofs.lemmas.List.{length-set}
use Rattle.sci_ops.specs.declared.answers.Answer.{Answer}
use Rattle.sci_ops.proofs.Resting.Ends.{one_more_part}
use Rattle.sci_cache.specs.Nodes.{NodeState}
use Rattle.sci_script.specs.declared.commands.Size.{Size}
use Rattle.sci_script.specs.Resting.{EndsCalls, EndsIfOpen}
use Rattle.sci_script.specs.Shared.{Shared, shared_is_open}
use Rattle.sci_script.specs.Wholes.{shared_of}
use Rattle.sci_script.proofs.Ended.{answered_more, ends_more, closed_more}
use Rattle.sci_script.proofs.whole_desk.WholeDesk.end.Goals as goal

pub loop-number-init : goal.loop-number-init
loop-number-init g c = record {
  size = refl;
  count = refl;
  rest = c.rest-desk.ensures.rest;
  ends = (0, omega arith, (refl, refl));
  answered = λ i lt. absurd (omega (arith, lt));
  left = λ i le. refl;
  closed = λ i lt. absurd (omega (arith, lt));
  bound = omega arith;
}

pub ended_if_open-answer-requires : goal.ended_if_open-answer-requires
ended_if_open-answer-requires g c =
    let i = c.loop-number.invariant in
    let desk = c.loop-number.desk in
    let below : c.loop-number.number < desk.size.nodes = subst (λ (z : Size). c.loop-number.number < z.nodes) (sym i.size) c.loop-number-test.true in
    let place : c.from-place.result ≡ c.loop-number.number = c.from-place.ensures in
    let inside : c.from-place.result < length desk.nodes.items = omega (arith, place, below, desk.count, desk.nodes.ok.0) in
    let node : c.id-node.result ≡ c.from-place.result = c.id-node.ensures ∙ ap (λ (n : NodeState). n.id) c.index.ensures ∙ (desk.of c.from-place.result c.index.result.now inside).0 in
    record { node = omega (arith, node, place, below); rest = i.rest }

pub loop-number-preserved : goal.loop-number-preserved
loop-number-preserved g c =
    let i = c.loop-number.invariant in
    let desk = c.loop-number.desk in
    let k : ℕ = c.loop-number.number in
    let first = shared_of c.rest-desk.result in
    let mid = shared_of desk in
    let t = shared_of c.ended_if_open-answer.new.self in
    let a : Option Answer = c.ended_if_open-answer.result in
    let answers : List (Option Answer) = c.loop-number.answers in
    let n : ℕ = c.rest-desk.result.size.nodes in
    let below : k < desk.size.nodes = subst (λ (z : Size). k < z.nodes) (sym i.size) c.loop-number-test.true in
    let place : c.from-place.result ≡ k = c.from-place.ensures in
    let inside : c.from-place.result < length desk.nodes.items = omega (arith, place, below, desk.count, desk.nodes.ok.0) in
    let node : c.id-node.result ≡ k = c.id-node.ensures ∙ ap (λ (x : NodeState). x.id) c.index.ensures ∙ (desk.of c.from-place.result c.index.result.now inside).0 ∙ place in
    let took : ℕ = c.ended_if_open-answer.ensures.ends.0 in
    let so_far : ℕ = i.ends.0 in
    let one : EndsIfOpen (shared_is_open mid k) k mid took a t = subst (λ (j : ℕ). EndsIfOpen (shared_is_open mid j) j mid took a t) node c.ended_if_open-answer.ensures.ends.2 in
    let room : k < length answers = omega (arith, below, i.count, c.requires, ap (λ (z : Size). z.nodes) i.size, ap (λ (z : Size). z.nodes) c.rest-desk.ensures.size) in
    let more : EndsCalls (suc k) first (so_far + took) (set answers k a) t = ends_more k first mid t so_far took answers a room i.ends.2 one in
    let next : suc k ≡ k + 1 = omega arith in
    let part : c.ended_if_open-answer.new.steps ≤ c.loop-number.steps + 2 * (3 * n + 16) = subst (λ (z : Size). c.ended_if_open-answer.new.steps ≤ c.loop-number.steps + 2 * (3 * z.nodes + 16)) i.size c.ended_if_open-answer.ensures.bound in
    record {
      size = c.ended_if_open-answer.ensures.size ∙ i.size;
      count = length-set answers c.from-place.result a ∙ i.count;
      rest = c.ended_if_open-answer.ensures.rest;
      ends = (
        so_far + took,
        omega (arith, i.ends.1, c.ended_if_open-answer.ensures.ends.1),
        subst (λ (p : ℕ). EndsCalls (k + 1) first (so_far + took) (set answers p a) t) (sym place) (subst (λ (m : ℕ). EndsCalls m first (so_far + took) (set answers k a) t) next more),
      );
      answered = subst (λ (p : ℕ). (l : ℕ) → l < k + 1 → is_some (get_or (set answers p a) l None) ≡ shared_is_open first l) (sym place)
          (answered_more k first mid answers a room i.answered (i.left k (omega arith)) (subst (λ (j : ℕ). is_some a ≡ shared_is_open mid j) node c.ended_if_open-answer.ensures.answered));
      left = λ l le. c.ended_if_open-answer.ensures.others l (λ q. omega (arith, q, le, node)) ∙ i.left l (omega (arith, le));
      closed = closed_more k mid t i.closed (subst (λ (j : ℕ). shared_is_open t j ≡ false) node c.ended_if_open-answer.ensures.closed) (subst (λ (j : ℕ). (l : ℕ) → (l ≡ j → ⊥) → t.nodes l ≡ mid.nodes l) node c.ended_if_open-answer.ensures.others);
      bound = one_more_part c.ended_if_open-answer.new.steps c.loop-number.steps c.rest-desk.new.steps k (2 * (3 * n + 16)) i.bound part;
    }

pub returns : goal.returns
returns g c =
    let i = c.loop-number.invariant in
    let desk = c.loop-number.desk in
    let n : ℕ = c.args.self.size.nodes in
    let sized : c.rest-desk.result.size ≡ c.args.self.size = c.rest-desk.ensures.size in
    let nodes : c.rest-desk.result.size.nodes ≡ n = ap (λ (z : Size). z.nodes) sized in
    let all : c.loop-number.number ≡ n = omega (arith, c.loop-number-test.false, c.loop-number.auto.number-end, nodes) in
    let mid = shared_of c.rest-desk.result in
    let made = subst (λ (x : ℕ). c.loop-number.steps ≤ c.rest-desk.new.steps + x * (2 * (3 * c.rest-desk.result.size.nodes + 16))) all i.bound in
    let ended : c.loop-number.steps ≤ c.rest-desk.new.steps + n * (2 * (3 * n + 16)) = subst (λ (x : ℕ). c.loop-number.steps ≤ c.rest-desk.new.steps + n * (2 * (3 * x + 16))) nodes made in
    let same_nodes : (node : ℕ) → mid.nodes node ≡ (shared_of c.args.self).nodes node = c.rest-desk.ensures.rested.2.nodes in
    let rested : c.rest-desk.new.steps ≤ c.args.steps.now + c.args.self.size.lines * (n * n + 9 * n) = c.rest-desk.ensures.bound in
    record {
      ends = (
        mid,
        c.rest-desk.ensures.rested.0,
        i.ends.0,
        omega (arith, c.rest-desk.ensures.rested.1, i.ends.1),
        c.rest-desk.ensures.rested.2,
        c.rest-desk.ensures.rest,
        subst (λ (m : ℕ). EndsCalls m mid i.ends.0 c.loop-number.answers (shared_of desk)) all i.ends.2,
      );
      bound = omega (arith, ended, rested);
      rest = i.rest;
      answered = λ node lt. i.answered node (omega (arith, lt, all)) ∙ ap (λ (x : NodeState). is_some x.call) (same_nodes node);
      closed = λ node lt. i.closed node (omega (arith, lt, all));
      count = i.count;
      size = i.size ∙ sized;
    }
