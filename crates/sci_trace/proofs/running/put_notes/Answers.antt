use Rattle.std.proofs.Common.{◌++◌, ◌∙◌, [], take, refl, sym}
use Rattle.std.proofs.KnownBytes.{Appends-nil, Appends-trans}
use Rattle.sci_trace.specs.Coding.{coded}
use Rattle.sci_trace.proofs.Coded.{coded_before, coded_behind, coded_front}
use Rattle.sci_trace.proofs.running.put_notes.Goals as goal

pub returns-then-is_cut : goal.returns-then-is_cut
returns-then-is_cut g c = record {
  ok = tt;
  err = ([], refl, Appends-nil _);
  whole = tt;
  dropped = tt;
  desk = refl;
  size = refl;
}

-- a front of the front is written
pub returns-in-Err : goal.returns-in-Err
returns-in-Err g c =
    let coding = c.args.coding in
    let text = c.args.desk.now.notes.text in
    let front = text.front.items in
    let n = c.in-Err.ensures.err.0 in
    let less = rw c.front.ensures at c.in-Err.ensures.err.1 in
    let cut = rw c.front.ensures at c.in-Err.ensures.err.2 in
    record {
      ok = tt;
      err = (take n (coded coding front), coded_before coding front (take text.waiting text.room) n less, cut);
      whole = tt;
      dropped = tt;
      desk = refl;
      size = refl;
    }

pub returns-in-Ok-put_coded : goal.returns-in-Ok-put_coded
returns-in-Ok-put_coded g c =
    let text = c.args.desk.now.notes.text in
    let front = rw c.front.ensures at c.in-Ok.ensures.ok in
    let waiting = rw c.waiting.ensures at c.in-Ok-put_coded.ensures.ok in
    let whole = sym c.is_cut.ensures ∙ c.if-is_cut.false in
    record {
      ok = coded_behind c.args.coding _ _ _ text.front.items (take text.waiting text.room) front waiting;
      err = tt;
      whole = whole;
      dropped = (c.clear.ensures.empty, c.clear.ensures.cut ∙ whole);
      desk = refl;
      size = refl;
    }

-- the front is written, and a front of what waits
pub returns-in-Err-put_coded : goal.returns-in-Err-put_coded
returns-in-Err-put_coded g c =
    let coding = c.args.coding in
    let text = c.args.desk.now.notes.text in
    let front = text.front.items in
    let waiting = take text.waiting text.room in
    let n = c.in-Err-put_coded.ensures.err.0 in
    let put = rw c.front.ensures at c.in-Ok.ensures.ok in
    let less = rw c.waiting.ensures at c.in-Err-put_coded.ensures.err.1 in
    let cut = rw c.waiting.ensures at c.in-Err-put_coded.ensures.err.2 in
    record {
      ok = tt;
      err = (
        coded coding front ++ take n (coded coding waiting),
        coded_front coding front waiting (take n (coded coding waiting)) (n, less, refl),
        Appends-trans _ _ _ _ _ put cut,
      );
      whole = tt;
      dropped = tt;
      desk = refl;
      size = refl;
    }
