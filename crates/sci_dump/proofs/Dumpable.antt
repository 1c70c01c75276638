-- Closed lines whose numbers have their types' ranges can be dumped, and their dump is read back.
use Rattle.std.proofs.Common.{◌≡◌, ℕ, ◌≤◌, List, [], ◌∷◌, length, All, Result, Ok, Err, IfOk, String, Global, string_bytes, sym, ap, ◌∙◌, subst, arith, slice_index_or}
use Rattle.std.specs.declared.alloc.AllocError.{AllocError}
use Rattle.sci_words.specs.declared.layouts.Layout.TheVariants.{Two}
use Rattle.sci_core.specs.Closed.{ClosedLine}
use Rattle.sci_core.specs.declared.whole.TheConstants.{MOST_NODES}
use Rattle.sci_dump.specs.Reading.{dump_of}
use Rattle.sci_dump.specs.ReadBack.{IsLineOf, CanBeDumped, dump_read}
use Rattle.sci_dump.specs.Text.{dump_text}
use Rattle.sci_dump.proofs.DumpsBack.{dump_own}

-- it can be dumped beside others of as many nodes
abbrev pub IsDumpable : ClosedLine → Type 0
IsDumpable c = IsLineOf Two (length c.tags) c

-- the number of nodes that the lines have, which is 1 to 1,024
abbrev pub AreOfFew : List ClosedLine → Type 0
AreOfFew cs = (nodes : ℕ) × (1 ≤ nodes) × (nodes ≤ MOST_NODES) × All (λ c. length c.tags ≡ nodes) cs

few_nodes : (nodes : ℕ) (cs : List ClosedLine) → 1 ≤ length cs → AreOfFew cs → All (λ c. length c.tags ≡ nodes) cs → (1 ≤ nodes) × (nodes ≤ MOST_NODES)
few_nodes nodes [] some few same = absurd (omega arith)
few_nodes nodes (c ∷ cs) some (n, low, high, all) same =
    let e : n ≡ nodes = sym (all 0 c (omega arith)) ∙ same 0 c (omega arith) in (omega (arith, e, low), omega (arith, e, high))

dumpable : (nodes : ℕ) (cs : List ClosedLine) → (1 ≤ length cs) × (length cs ≤ 1024) → AreOfFew cs → All IsDumpable cs → All (λ c. length c.tags ≡ nodes) cs → CanBeDumped Two nodes cs
dumpable nodes cs many few are same = record {
  few = few_nodes nodes cs many.0 few same;
  lines = many;
  each = λ i d lt. subst (λ (n : ℕ). IsLineOf Two n (slice_index_or cs i d)) (same i d lt) (are i d lt);
}

pub read_again : (r : Result (String Global) AllocError) (cs : List ClosedLine) → (1 ≤ length cs) × (length cs ≤ 1024) → AreOfFew cs → All IsDumpable cs
    → IfOk r (λ text. (nodes : ℕ) → All (λ c. length c.tags ≡ nodes) cs → string_bytes text ≡ dump_text Two nodes cs)
    → IfOk r (λ text. (nodes : ℕ) → All (λ c. length c.tags ≡ nodes) cs → dump_of (string_bytes text) ≡ Ok (dump_read nodes cs))
read_again (Ok text) cs many few are is = λ nodes same. ap dump_of (is nodes same) ∙ dump_own Two nodes cs (dumpable nodes cs many few are same)
read_again (Err e) cs many few are is = tt
