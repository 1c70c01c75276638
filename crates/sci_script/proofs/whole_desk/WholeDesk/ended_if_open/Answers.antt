use Rattle.std.proofs.Common.{◌≡◌, ◌∙◌, Bool, true, false, Some, None, refl, sym, subst, arith}
use Rattle.sci_script.specs.Resting.{EndsIfOpen}
use Rattle.sci_script.specs.Wholes.{shared_of}
use Rattle.sci_script.proofs.whole_desk.WholeDesk.ended_if_open.Goals as goal

pub ended-requires : goal.ended-requires
ended-requires g c = record { node = c.requires.node; «open» = sym c.if-not-open.ensures; rest = c.requires.rest }

pub returns-then-not-open : goal.returns-then-not-open
returns-then-not-open g c =
    let closed = sym c.open.ensures ∙ c.if-not-open.true in
    let s = shared_of c.args.self.now in
    record {
      ends = (0, omega arith, subst (λ (b : Bool). EndsIfOpen b c.args.node s 0 None s) (sym closed) (refl, refl, refl));
      bound = omega arith;
      rest = c.requires.rest;
      answered = sym closed;
      closed = closed;
      others = λ i d. refl;
      size = refl;
    }

pub returns : goal.returns
returns g c =
    let s = shared_of c.args.self.now in
    record {
      ends = (
        c.ended.ensures.ends.0,
        c.ended.ensures.ends.1,
        subst (λ (b : Bool). EndsIfOpen b c.args.node s c.ended.ensures.ends.0 (Some c.ended.result) (shared_of c.ended.new.self)) c.if-not-open.ensures c.ended.ensures.ends.2,
      );
      bound = c.ended.ensures.bound;
      rest = c.ended.ensures.rest;
      answered = c.if-not-open.ensures;
      closed = c.ended.ensures.closed;
      others = c.ended.ensures.others;
      size = c.ended.ensures.size;
    }
