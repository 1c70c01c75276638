-- A word that a load found is read.
use Rattle.std.proofs.Common.{◌≡◌, ℕ, suc, ◌+◌, ◌<◌, ◌≤◌, true, Some, Result, Ok, Err, List, sym, ap, ◌∙◌, subst, arith}
use Rattle.sci_words.specs.Codes.{tag_code, mem_code}
use Rattle.sci_words.specs.Mem.{mem_well_formed, mem_links_below}
use Rattle.sci_words.specs.Tag.{tag_well_formed, tag_links_below}
use Rattle.sci_words.specs.declared.memory.Mem.{Mem}
use Rattle.sci_words.specs.declared.tags.Tag.{Tag}
use Rattle.sci_core.proofs.Sound.{memory_links, tag_links}
use Rattle.sci_port.specs.declared.calls.Call.{Call}
use Rattle.sci_port.specs.declared.calls.Call.TheVariants.{MemWas, TagWas}
use Rattle.sci_fine.specs.declared.views.Terms.{Terms}
use Rattle.sci_fine.specs.declared.views.View.{View}
use Rattle.sci_core.specs.Step.{look_of}
use Rattle.sci_fine.specs.Steps.{Seated, slots_in, Finds, IsSeen, IsLooked, IsLook, load_of}
use Rattle.sci_fine.proofs.Coming.{Comes, comes_mem, comes_tag, comes_own, mem_reads, tag_reads}

pub ok_err : {A B : Type 0} (r : Result A B) (a : A) (b : B) → r ≡ Ok a → r ≡ Err b → ⊥
ok_err r a b h k = cc

same_ok : {A B : Type 0} (r : Result A B) (a b : A) → r ≡ Ok a → r ≡ Ok b → b ≡ a
same_ok r a b h k = cc

-- how numbers are read as words
abbrev pub ReadsMem : {W : Type 0} → ℕ → Result Mem W → Type 0
ReadsMem found r = (m : Mem) → mem_well_formed m ≡ true → mem_links_below 65535 m ≡ true → mem_code m ≡ found → r ≡ Ok m

abbrev pub ReadsTag : {W : Type 0} → ℕ → Result Tag W → Type 0
ReadsTag found r = (t : Tag) → tag_well_formed t ≡ true → tag_links_below 65535 t ≡ true → tag_code t ≡ found → r ≡ Ok t

next_is : (i node : ℕ) → i ≡ node + 1 → i ≡ suc node
next_is i node e = omega arith

module _ {K W : Type 0} (fits : K → ℕ → List ℕ → Type 0) (t : Terms K) (v : View K) (found : ℕ) (small : t.nodes ≤ 65535) where
  pub mem_read : (f : Finds fits t v 0 found) (r : Result Mem W) → ReadsMem found r → r ≡ Ok f.state.memory
  mem_read f r reads = let k = mem_reads t.nodes (fits t.keep t.number) f.state f.ruled small in reads f.state.memory k.0 k.1 (sym f.word)

  pub tag_read : (node : ℕ) (f : Finds fits t v (suc node) found) (r : Result Tag W) → ReadsTag found r → r ≡ Ok (f.state.tags node)
  tag_read node f r reads = let k = tag_reads t.nodes (fits t.keep t.number) f.state f.ruled small node in reads (f.state.tags node) k.0 k.1 (sym f.word)

module _ {K : Type 0} (fits : K → ℕ → List ℕ → Type 0) (t : Terms K) (v : View K) (found i : ℕ) (f : Finds fits t v i found) where
  mem_links : (x : Mem) → x ≡ f.state.memory → (mem_well_formed x ≡ true) × (mem_links_below t.nodes x ≡ true)
  mem_links x is = subst (λ (y : Mem). (mem_well_formed y ≡ true) × (mem_links_below t.nodes y ≡ true)) (sym is) (f.ruled.words.memory, memory_links t.nodes f.state f.ruled.links)

  tag_linked : (node : ℕ) (x : Tag) → x ≡ f.state.tags node → (tag_well_formed x ≡ true) × (tag_links_below t.nodes x ≡ true)
  tag_linked node x is = subst (λ (y : Tag). (tag_well_formed y ≡ true) × (tag_links_below t.nodes y ≡ true)) (sym is) (f.ruled.words.tags node, tag_links t.nodes f.state f.ruled.links node)

module _ {K W : Type 0} (fits : K → ℕ → List ℕ → Type 0) (t : Terms K) (m n : Seated K) (found : ℕ) (small : t.nodes ≤ 65535) (below : m.0.node < t.nodes) where
  pub mem_came : IsSeen fits t (load_of 0) 0 m found n → (r : Result Mem W) → ReadsMem found r → (x : Mem) → r ≡ Ok x → Comes fits t m.0 (slots_in m.1) (MemWas (Some x)) n.0 (slots_in n.1)
  mem_came h r reads x is =
      let same : x ≡ h.finds.state.memory = same_ok r h.finds.state.memory x (mem_read fits t m.0 found small h.finds r reads) is in
      let k = mem_links fits t m.0 found 0 h.finds x same in comes_mem fits t m n found h below x same k.0 k.1

  pub tag_came : (i node : ℕ) → i ≡ node + 1 → IsSeen fits t (load_of i) i m found n → (r : Result Tag W) → ReadsTag found r → (x : Tag) → r ≡ Ok x → Comes fits t m.0 (slots_in m.1) (TagWas node (Some x)) n.0 (slots_in n.1)
  tag_came i node at seen r reads x is =
      let h : IsSeen fits t (load_of (suc node)) (suc node) m found n = subst (λ (z : ℕ). IsSeen fits t (load_of z) z m found n) (next_is i node at) seen in
      let same : x ≡ h.finds.state.tags node = same_ok r (h.finds.state.tags node) x (tag_read fits t m.0 found small node h.finds r reads) is in
      let k = tag_linked fits t m.0 found (suc node) h.finds node x same in comes_tag fits t m n found node h below x same k.0 k.1

  pub own_came : (call : Tag → Call) → IsLook call → IsLooked fits t call m found n → (r : Result Tag W) → ReadsTag found r → (x : Tag) → r ≡ Ok x → Comes fits t m.0 (slots_in m.1) (call x) n.0 (slots_in n.1)
  own_came call look h r reads x is =
      let same : x ≡ h.finds.state.tags m.0.node = same_ok r (h.finds.state.tags m.0.node) x (tag_read fits t m.0 found small m.0.node h.finds r reads) is in
      let k = tag_linked fits t m.0 found (suc m.0.node) h.finds m.0.node x same in comes_own fits t m n found call h below x (look x) same k.0 k.1

  -- the step that a look leads to
  pub own_next : (call : Tag → Call) → (h : IsLooked fits t call m found n) → (r : Result Tag W) → ReadsTag found r → (x : Tag) → r ≡ Ok x → n.0.pending ≡ look_of m.0.pending x
  own_next call h r reads x is = ap (λ (v : View K). v.pending) h.view ∙ ap (look_of m.0.pending) (sym (same_ok r (h.finds.state.tags m.0.node) x (tag_read fits t m.0 found small m.0.node h.finds r reads) is))

  -- a word that was found is read, whatever is said of the number
  pub mem_never : (e : W) → IsSeen fits t (load_of 0) 0 m found n → (r : Result Mem W) → ReadsMem found r → r ≡ Err e → ⊥
  mem_never e h r reads is = ok_err r h.finds.state.memory e (mem_read fits t m.0 found small h.finds r reads) is

  pub tag_never : (e : W) (i node : ℕ) → i ≡ node + 1 → IsSeen fits t (load_of i) i m found n → (r : Result Tag W) → ReadsTag found r → r ≡ Err e → ⊥
  tag_never e i node at seen r reads is =
      let h : IsSeen fits t (load_of (suc node)) (suc node) m found n = subst (λ (z : ℕ). IsSeen fits t (load_of z) z m found n) (next_is i node at) seen in
      ok_err r (h.finds.state.tags node) e (tag_read fits t m.0 found small node h.finds r reads) is

  pub own_never : (e : W) (call : Tag → Call) → IsLooked fits t call m found n → (r : Result Tag W) → ReadsTag found r → r ≡ Err e → ⊥
  own_never e call h r reads is = ok_err r (h.finds.state.tags m.0.node) e (tag_read fits t m.0 found small m.0.node h.finds r reads) is
