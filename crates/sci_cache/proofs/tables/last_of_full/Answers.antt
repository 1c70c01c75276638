use Rattle.std.proofs.Common.{◌≡◌, ◌∙◌, length, ap, arith}
use Rattle.std.specs.Option.{option_map}
use Rattle.sci_cache.proofs.Ordered.{full_last}
use Rattle.sci_cache.proofs.tables.last_of_full.Goals as goal

pub returns : goal.returns
returns c =
    let t = c.args.table.now in
    let full : length t.entries ≡ t.cap = grind (arith, c.len.ensures.len, c.len.ensures.valid.1, c.get.ensures.value, c.cap.ensures, c.if-len-get.false) in
    ap (option_map (λ e. e.0)) c.in-Some.ensures ∙ full_last t.entries t.cap full
