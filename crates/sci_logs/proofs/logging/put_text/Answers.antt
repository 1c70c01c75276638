use Rattle.std.proofs.Common.{◌++◌, take}
use Rattle.std.proofs.KnownBytes.{Appends-trans}
use Rattle.sci_trace.proofs.Coded.{front_before, front_behind}
use Rattle.sci_logs.proofs.logging.put_text.Goals as goal

-- a front of the front is written
pub returns-in-Err : goal.returns-in-Err
returns-in-Err g c =
    let text = c.args.text.now in
    let front = text.front.items in
    let n = c.in-Err.ensures.err.0 in
    let less = rw c.front.ensures at c.in-Err.ensures.err.1 in
    let cut = rw c.front.ensures at c.in-Err.ensures.err.2 in
    record { ok = tt; err = (take n front, front_before front (take text.waiting text.room) n less, cut) }

-- the front is written, and a front of what waits
pub returns-in-Err-put_coded : goal.returns-in-Err-put_coded
returns-in-Err-put_coded g c =
    let text = c.args.text.now in
    let front = text.front.items in
    let waiting = take text.waiting text.room in
    let n = c.in-Err-put_coded.ensures.err.0 in
    let put = rw c.front.ensures at c.in-Ok.ensures.ok in
    let less = rw c.waiting.ensures at c.in-Err-put_coded.ensures.err.1 in
    let cut = rw c.waiting.ensures at c.in-Err-put_coded.ensures.err.2 in
    record { ok = tt; err = (front ++ take n waiting, front_behind front waiting n less, Appends-trans _ _ _ _ _ put cut) }
