use Rattle.std.proofs.Common.{arith}
use Rattle.std.proofs.lemmas.Result.{IfOk-from_err}
use Rattle.sci_work.proofs.Items.{value_shown}
use Rattle.sci_work.proofs.Refusing.{of_call}
use Rattle.sci_work.proofs.Residual.{passed_on}
use Rattle.sci_work.proofs.rings.consuming.item.Goals as goal

pub returns-in_err-words : goal.returns-in_err-words
returns-in_err-words g c =
    let e = c.load_until.ensures in let r = c.from_residual in
    record {
      value = IfOk-from_err r.result _ r.ensures.0;
      err = passed_on r.result _ _ r.ensures.1 (of_call _ c.in_err-words.ensures.err);
      made = e.made;
      still = e.still;
    }

pub returns-then-words-number : goal.returns-then-words-number
returns-then-words-number g c =
    let e = c.load_until.ensures in let line = c.line_of-line.result in let words = c.in_ok-words.words in
    record {
      value = λ source ring. value_shown source c.args.lines line words c.args.i c.line_of-line.ensures.inside (ring.gives line words c.in_ok-words.ensures.fits) c.if-words-number.true;
      err = tt;
      made = e.made;
      still = e.still;
    }

pub returns : goal.returns
returns g c = let e = c.load_until.ensures in record { value = tt; err = tt; made = e.made; still = e.still }

pub load_until-requires-clause-line : goal.load_until-requires-clause-line
load_until-requires-clause-line g c κs within = let room = c.requires.room.1 in omega (arith, c.line_of-line.ensures.inside, room)
