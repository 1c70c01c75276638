use Rattle.std.proofs.Common.{rules, ◌≡◌, ◌+◌, arith, inl, inr, refl, sym, ap, subst, ◌∙◌, get_or, length, replicate, vec_items}
use Rattle.std.proofs.lemmas.List.{length-replicate}
use Rattle.std.proofs.lemmas.Bool.{cases_lt}
use Rattle.sci_core.specs.State.{invalid}
use Rattle.sci_core.specs.Whole.{WholeLine, opened_whole}
use Rattle.sci_port.specs.Banks.{IsLineOf}
use Rattle.sci_work.specs.declared.facts.ring.RingFact.{RingFact}
use Rattle.sci_work.proofs.Items.{zeros_fit}
use Rattle.sci_work_tests.proofs.rings.opened.Goals as goal

pub loop-number-init : goal.loop-number-init
loop-number-init c = record { len = search rules; fits = c.requires.first; each = λ k d low. absurd (omega (arith, low)) }

pub open-requires : goal.open-requires
open-requires c = c.loop-number.invariant.fits

pub loop-number-preserved : goal.loop-number-preserved
loop-number-preserved c =
    let was = c.loop-number.invariant in let fact = c.args.fact in let me = c.args.me in
    record {
      len = search rules;
      fits = zeros_fit fact.source.now fact.lines (c.loop-number.number + 1);
      each = λ k d low. elim (cases_lt k c.loop-number.number) [
        | inl less ↦ let e = c.push.ensures.by_index.0 k d (omega (arith, was.len)) in subst (λ (w : WholeLine RingFact). IsLineOf fact me k w) (sym e) (was.each k d less)
        | inr from ↦
            let same : k ≡ c.loop-number.number = omega arith in
            let e = c.push.ensures.by_index.1 d in let w = c.in-Ok.ensures.opened in
            let at : get_or (vec_items c.push.new.self) k d ≡ opened_whole fact k (me + 1) (record { words = c.loop-number.words; stamp = c.args.stamp }) = grind rules in
            subst (λ (w : WholeLine RingFact). IsLineOf fact me k w) (sym at) (record {
              number = refl;
              fact = refl;
              below = let count = length-replicate (me + 1) invalid in omega (arith, count);
            })
      ];
    }

pub new-requires-clause-lines : goal.new-requires-clause-lines
new-requires-clause-lines c =
    let n : length c.loop-number.wholes.items ≡ c.args.count = search rules in
    let all : c.loop-number.number ≡ c.args.count = search rules in
    let asked = c.requires.count in (
      c.args.fact,
      record {
        some = omega (arith, n, asked.0);
        few = omega (arith, n, asked.1);
        each = λ line d low. c.loop-number.invariant.each line d (omega (arith, n, all));
      },
    )

pub returns : goal.returns
returns c =
    let n : length c.loop-number.wholes.items ≡ c.args.count = search rules in
    let all : c.loop-number.number ≡ c.args.count = search rules in
    let asked = c.requires.count in
    let d : WholeLine RingFact = opened_whole c.args.fact 0 (c.args.me + 1) (record { words = replicate 8 0; stamp = 0 }) in
    let same = c.new.ensures.same_lines in
    let len = ap (λ v. length v.items) same ∙ n in
    let h = c.new.result.of.each 0 d (omega (arith, len, asked.0)) in
    let e = c.loop-number.invariant.each 0 d (omega (arith, n, all, asked.0)) in
    (c.new.ensures.node, len, sym h.fact ∙ ap (λ v. (get_or v.items 0 d).keep) same ∙ e.fact)
