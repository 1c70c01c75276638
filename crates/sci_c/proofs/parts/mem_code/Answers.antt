use Rattle.std.proofs.Common.{◌≡◌, true, sym, ap, ◌∙◌, subst}
use Rattle.sci_words.specs.declared.memory.Mem.{Mem}
use Rattle.sci_words.specs.Codes.{fits_mem_in}
use Rattle.sci_c.specs.Words.{mem_numbers}
use Rattle.sci_c.proofs.Meant.{mem_parts}
use Rattle.sci_c.proofs.parts.mem_code.Goals as goal

pub write_mem-requires : goal.write_mem-requires
write_mem-requires c = subst (λ (x : Mem). fits_mem_in c.args.layout x ≡ true) (sym c.mem_meant.ensures) ((mem_parts c.args.layout c.args.parts.now c.requires).0)

pub returns : goal.returns
returns c = (c.mem_meant.result, (sym c.write_mem.ensures, subst (λ (x : Mem). fits_mem_in c.args.layout x ≡ true) (sym c.mem_meant.ensures) ((mem_parts c.args.layout c.args.parts.now c.requires).0)), (mem_parts c.args.layout c.args.parts.now c.requires).1 ∙ ap mem_numbers (sym c.mem_meant.ensures))
