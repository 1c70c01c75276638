use Rattle.std.proofs.Common.{◌∙◌, ◌*◌, ◌-◌, ◌/◌, ◌^◌, ap, sym, nat_eq, Some, Ok, Err}
use Rattle.std.specs.Result.{result_err}
use Rattle.sci_words.specs.declared.memory.Mem.{Mem}
use Rattle.sci_words.specs.declared.refusals.WordRefusal.TheVariants.{UnknownKind, SpareBits}
use Rattle.sci_words.specs.Codes.{state_of}
use Rattle.sci_words.specs.Refused.{mem_refused}
use Rattle.sci_words.specs.Layout.{field, kind_field, link_width, no_link}
use Rattle.sci_words.specs.Mem.{mem_well_formed, mem_links_below, misses_head, has_unwanted_head}
use Rattle.std.proofs.lemmas.Result.{err_from_is_err_and}
use Rattle.sci_words.proofs.Codes.{and_both}
use Rattle.sci_words.proofs.Reading.{unknown_first, spare_next, none_above, some_within, neither_found, low_bits, high_bits, means_mem, mem_checked, mem_of_code, mem_code_read}
use Rattle.sci_words.proofs.codec.word_mem.Goals as goal
use Rattle.sci_words.proofs.codec.word_mem.Goals.{then-gap-ne0-via-then-gap-ne0, then-gap-ne0-via-else-gap-ne0+then-behind_mem-ne0}

pub returns-in_default-clause-lowest_refusal : goal.returns-in_default-clause-lowest_refusal
returns-in_default-clause-lowest_refusal c = unknown_first (mem_refused c.args.layout c.args.word) (none_above 2 c.read.result (kind_field c.args.word) (state_of c.read.result) c.read.ensures c.in_default.ensures.state)

pub returns-in_default-clause-of_code : goal.returns-in_default-clause-of_code
returns-in_default-clause-of_code c = mem_of_code c.args.layout c.args.word (Err UnknownKind) (returns-in_default-clause-lowest_refusal c) tt tt

pub returns-then-gap-ne0-clause-lowest_refusal : goal.returns-then-gap-ne0-clause-lowest_refusal
returns-then-gap-ne0-clause-lowest_refusal c =
    let l = c.args.layout in
    let gap = field 5 (link_width l - 5) c.args.word in
    let behind = c.args.word / 2 ^ (2 * link_width l) in
    spare_next (mem_refused l c.args.word) (some_within 2 c.read.result (kind_field c.args.word) c.in-Some.state (state_of c.read.result) c.read.ensures c.in-Some.ensures.state) (elim c.then-gap-ne0.branch [
      | then-gap-ne0-via-then-gap-ne0 w ↦ low_bits gap behind (λ e. w.if-gap-ne0.true (c.gap.ensures ∙ e))
      | then-gap-ne0-via-else-gap-ne0+then-behind_mem-ne0 w ↦ high_bits gap behind (λ e. w.if-behind_mem-ne0.true (w.behind_mem.ensures ∙ e))
    ])

pub returns-then-gap-ne0-clause-of_code : goal.returns-then-gap-ne0-clause-of_code
returns-then-gap-ne0-clause-of_code c = mem_of_code c.args.layout c.args.word (Err SpareBits) (returns-then-gap-ne0-clause-lowest_refusal c) tt tt

pub returns-in_err-check-clause-lowest_refusal : goal.returns-in_err-check-clause-lowest_refusal
returns-in_err-check-clause-lowest_refusal c =
    let l = c.args.layout in
    let m : Mem = record { state = c.in-Some.state; lent = nat_eq c.read-2.result 1; forw = c.link_numbered.result } in
    let h = means_mem l c.args.word c.in-Some.state c.read.result c.gap.result c.behind_mem.result c.read-2.result c.forw.result c.link_numbered.result c.read.ensures c.in-Some.ensures.state c.gap.ensures c.if-gap-ne0.false
    c.behind_mem.ensures c.if-behind_mem-ne0.false c.read-2.ensures c.forw.ensures.number c.link_numbered.ensures.link in
    let p = err_from_is_err_and c.from_residual.result c.from_residual.ensures.1 in
    ap result_err p.1 ∙ ap Some p.2 ∙ mem_checked l c.args.word m (Err c.in_err-check.field-0.0) h c.in_err-check.ensures

pub returns-in_err-check-clause-of_code : goal.returns-in_err-check-clause-of_code
returns-in_err-check-clause-of_code c =
    let p = err_from_is_err_and c.from_residual.result c.from_residual.ensures.1 in
    λ m h d. p.1 ∙ mem_of_code c.args.layout c.args.word (Err p.0) (sym (ap result_err p.1) ∙ returns-in_err-check-clause-lowest_refusal c) tt tt m h d

pub returns-clause-lowest_refusal : goal.returns-clause-lowest_refusal
returns-clause-lowest_refusal c =
    let l = c.args.layout in
    let m : Mem = record { state = c.in-Some.state; lent = nat_eq c.read-2.result 1; forw = c.link_numbered.result } in
    let h = means_mem l c.args.word c.in-Some.state c.read.result c.gap.result c.behind_mem.result c.read-2.result c.forw.result c.link_numbered.result c.read.ensures c.in-Some.ensures.state c.gap.ensures c.if-gap-ne0.false
    c.behind_mem.ensures c.if-behind_mem-ne0.false c.read-2.ensures c.forw.ensures.number c.link_numbered.ensures.link in
    mem_checked l c.args.word m (Ok tt) h c.in_ok-check.ensures

pub returns-clause-code : goal.returns-clause-code
returns-clause-code c =
    mem_code_read c.args.layout c.args.word _ c.read-2.result _ c.gap.result c.behind_mem.result (c.in-Some.ensures.number ∙ c.read.ensures) c.gap.ensures c.if-gap-ne0.false c.behind_mem.ensures c.if-behind_mem-ne0.false c.read-2.ensures
    (c.link_numbered.ensures.number ∙ c.forw.ensures.number)

pub returns-clause-fits : goal.returns-clause-fits
returns-clause-fits c =
    let n = no_link c.args.layout in
    let m : Mem = record { state = c.in-Some.state; lent = nat_eq c.read-2.result 1; forw = c.link_numbered.result } in
    and_both (mem_well_formed m) (mem_links_below n m) (neither_found (misses_head m) (has_unwanted_head m) c.in_ok-check.ensures) c.link_numbered.ensures.below

pub returns-clause-of_code : goal.returns-clause-of_code
returns-clause-of_code c =
    let m : Mem = record { state = c.in-Some.state; lent = nat_eq c.read-2.result 1; forw = c.link_numbered.result } in
    mem_of_code c.args.layout c.args.word (Ok m) (returns-clause-lowest_refusal c) (returns-clause-code c) (returns-clause-fits c)
