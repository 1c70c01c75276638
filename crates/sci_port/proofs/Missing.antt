-- What a port missed is not the word that the row was to find.
use Rattle.std.proofs.Common.{◌≤◌, ℕ, sym, ◌∙◌, arith}
use Rattle.sci_words.proofs.Codes.{one_tag, one_mem, link_further, tag_links_further}
use Rattle.sci_words.specs.declared.layouts.Layout.TheVariants.{Two}
use Rattle.sci_core.specs.declared.pending.Pending.{Pending}
use Rattle.sci_core.specs.declared.events.Event.{Event}
use Rattle.sci_core.specs.declared.outcomes.Outcome.{Outcome}
use Rattle.sci_core.specs.declared.rows.Change.{Change}
use Rattle.sci_core.specs.declared.whole.TheConstants.{MOST_NODES}
use Rattle.sci_core.specs.Table.{row_of}
use Rattle.sci_port.specs.Missing.{IsNotBefore, MissesOther}
use Rattle.sci_port.specs.Owes.{IsCodeOfOther, TakesRow}

-- words of a line have different codes
not_before : (n : ℕ) (c : Change) (code : ℕ) → n ≤ MOST_NODES → IsCodeOfOther n code c → IsNotBefore n code c
not_before n (Change.OfMemory before after) code few (m, formed, is, other) =
    let small : n ≤ 65535 = omega arith in
    λ own e. other (one_mem Two m before (link_further n 65535 m.forw small formed.1) (link_further n 65535 before.forw small own.1) (sym is ∙ e))
not_before n (Change.OfTag x before after) code few (t, formed, is, other) =
    let small : n ≤ 65535 = omega arith in
    λ own e. other (one_tag Two t before (tag_links_further n 65535 t small formed.1) (tag_links_further n 65535 before small own.1) (sym is ∙ e))

pub misses_other : (n me : ℕ) (p : Pending) (e : Event) (o : Outcome) (q : Pending) → TakesRow n me p e o q → MissesOther n me p e o
misses_other n me p e (Outcome.Missed word) q took = λ few. not_before n (row_of me p e).change word few took.other
misses_other n me p e (Outcome.Done answer) q took = tt
misses_other n me p e Outcome.Busy q took = tt
