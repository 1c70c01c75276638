-- The calls on a whole line in hand are those of a port to it alone, and what they leave.
use Rattle.std.proofs.Common.{◌≡◌, ◌≢◌, ℕ, Bool, true, false, cond, Option, Some, None, List, refl, sym, ap, ◌∙◌, subst}
use Rattle.sci_words.specs.declared.memory.Mem.{Mem}
use Rattle.sci_words.specs.declared.tags.Tag.{Tag}
use Rattle.sci_words.specs.Mem.{mem_well_formed, mem_links_below}
use Rattle.sci_words.specs.Tag.{tag_well_formed, tag_links_below}
use Rattle.sci_core.specs.declared.lines.Line.{Line}
use Rattle.sci_core.specs.declared.outcomes.Outcome.{Outcome}
use Rattle.sci_core.specs.declared.outlines.Outline.{Outline}
use Rattle.sci_core.specs.declared.pending.Pending.{Pending}
use Rattle.sci_core.specs.declared.rows.Exchange.{Exchange}
use Rattle.sci_core.specs.declared.stages.Stage.{Stage}
use Rattle.sci_core.specs.declared.events.Event.{Event}
use Rattle.sci_core.specs.Answers.{FitsEvent}
use Rattle.sci_core.specs.Run.{IsLawfulLine}
use Rattle.sci_core.specs.Shape.{line_of}
use Rattle.sci_core.specs.Stage.{pending_of, stage_of, outline_of, own_after}
use Rattle.sci_core.specs.Table.{row_of}
use Rattle.sci_core.specs.Whole.{WholeLine, IsSameLine, nodes_of, state_of}
use Rattle.sci_core.proofs.Filling.{exchange_filled}
use Rattle.sci_core.proofs.Laying.{stage_with}
use Rattle.sci_port.specs.declared.calls.Call.{Call}
use Rattle.sci_port.specs.declared.calls.Call.TheVariants.{MemWas, TagWas}
use Rattle.sci_port.specs.Owes.{IsRowDone, IsSoundStep, Owes, TakesRow}
use Rattle.sci_port.proofs.Histories.{lawful_on, still}
use Rattle.sci_coarse.specs.declared.views.Terms.{Terms}
use Rattle.sci_coarse.specs.Rule.{IsOn, IsLawfulWhole}
use Rattle.sci_coarse.specs.Runs.{Calls}

-- what is asked of the nodes and the words of a whole line is asked on its terms
on_terms : {K : Type 0} (fits : K → ℕ → List ℕ → Type 0) (P : ℕ → (List ℕ → Type 0) → Type 0) (t : Terms K) (w : WholeLine K) → IsOn t w → P (nodes_of w) (fits w.keep w.number) → P t.nodes (fits t.keep t.number)
on_terms fits P t w o h = subst (λ (n : ℕ). P n (fits t.keep t.number)) o.nodes (subst (λ (m : ℕ). P (nodes_of w) (fits t.keep m)) o.number (subst (λ k. P (nodes_of w) (fits k w.number)) o.keep h))

-- after a call it is on the same terms
pub still_on : {K : Type 0} (t : Terms K) (w x : WholeLine K) → IsSameLine w x → IsOn t w → IsOn t x
still_on t w x same o = record { keep = same.keep ∙ o.keep; number = same.number ∙ o.number; nodes = same.nodes ∙ o.nodes }

pub sound_on : {K : Type 0} (fits : K → ℕ → List ℕ → Type 0) (t : Terms K) (w : WholeLine K) (p : Pending) → IsOn t w → IsSoundStep (nodes_of w) (fits w.keep w.number) p → IsSoundStep t.nodes (fits t.keep t.number) p
sound_on fits t w p o h = on_terms fits (λ n f. IsSoundStep n f p) t w o h

pub owed_on : {K : Type 0} (fits : K → ℕ → List ℕ → Type 0) (t : Terms K) (w : WholeLine K) (me : ℕ) (p : Pending) (call : Call) (q : Pending) → IsOn t w → Owes (nodes_of w) (fits w.keep w.number) me p call q → Owes t.nodes (fits t.keep t.number) me p call q
owed_on fits t w me p call q o h = on_terms fits (λ n f. Owes n f me p call q) t w o h

pub fits_in : {K : Type 0} (fits : K → ℕ → List ℕ → Type 0) (t : Terms K) (w : WholeLine K) (e : Event) → IsOn t w → FitsEvent (fits t.keep t.number) e → FitsEvent (fits w.keep w.number) e
fits_in fits t w e o h = subst (λ (m : ℕ). FitsEvent (fits w.keep m) e) (sym o.number) (subst (λ k. FitsEvent (fits k t.number) e) (sym o.keep) h)

pub mem_called : {K : Type 0} (fits : K → ℕ → List ℕ → Type 0) (w : WholeLine K) (node : ℕ) (m : Mem) → m ≡ (state_of w).memory → mem_well_formed m ≡ true → mem_links_below (nodes_of w) m ≡ true → Calls fits node (MemWas (Some m)) w w
mem_called fits w node m is form links = record { same = record { keep = refl; number = refl; nodes = refl }; gives = (ap (λ (x : Mem). Some x) is, refl); owes = (refl, (form, links)) }

pub tag_called : {K : Type 0} (fits : K → ℕ → List ℕ → Type 0) (w : WholeLine K) (node other : ℕ) (x : Tag) → x ≡ (state_of w).tags other → tag_well_formed x ≡ true → tag_links_below (nodes_of w) x ≡ true → Calls fits node (TagWas other (Some x)) w w
tag_called fits w node other x is form links = record { same = record { keep = refl; number = refl; nodes = refl }; gives = (ap (λ (y : Tag). Some y) is, refl); owes = (refl, (form, links)) }

module _ {K : Type 0} (fits : K → ℕ → List ℕ → Type 0) (node : ℕ) (call : Call) (w x : WholeLine K) (c : Calls fits node call w x) where
  -- no other node's step changes
  pub still_after : (j : ℕ) → j ≢ node → (state_of x).steps j ≡ (state_of w).steps j
  still_after = still (nodes_of w) (fits w.keep w.number) (state_of w) node call (state_of x) c.gives

  -- and the line stays lawful
  pub lawful_after : IsLawfulWhole fits w → IsLawfulWhole fits x
  lawful_after l = let s : IsSameLine w x = c.same in
      subst (λ (n : ℕ). IsLawfulLine n (fits x.keep x.number) (state_of x)) (sym s.nodes)
      (subst (λ (m : ℕ). IsLawfulLine (nodes_of w) (fits x.keep m) (state_of x)) (sym s.number)
      (subst (λ (k : K). IsLawfulLine (nodes_of w) (fits k w.number) (state_of x)) (sym s.keep)
      (lawful_on (nodes_of w) (fits w.keep w.number) (state_of w) node call (state_of x) c.gives l)))

own_answered : (b : Bool) (own a : Line) → Some a ≡ cond b (Some own) None → a ≡ own
own_answered true own a h = let e : Some a ≡ Some own = h in cc
own_answered false own a h = let e : ◌≡◌ {A = Option Line} (Some a) None = h in cc

row_keeps : (me : ℕ) (p : Pending) (e : Event) (a : Line) (q : Pending) → IsRowDone me p e (Some a) q → pending_of (stage_of q) a ≡ q
row_keeps me p e a q h =
    let o : Outline = outline_of (row_of me p e) in
    let own : Line = own_after o.motion o.after e (line_of p) h.taken in
    let filled = exchange_filled me p e h.taken in
    let after : q ≡ pending_of o.after own = h.after ∙ ap (λ (x : Exchange). x.after) filled in
    let is : a ≡ own = own_answered o.answers own a (h.answers ∙ ap (λ (x : Exchange). x.answer) filled) in
    ap (λ (s : Stage). pending_of s a) (ap stage_of after ∙ stage_with o.after own) ∙ (ap (pending_of o.after) is ∙ sym after)

-- a line that an event answers is the one that the step after it keeps, where it keeps one
pub answer_kept : (n me : ℕ) (p : Pending) (e : Event) (a : Line) (q : Pending) → TakesRow n me p e (Outcome.Done (Some a)) q → pending_of (stage_of q) a ≡ q
answer_kept n me p Event.Look a q h = let e : ◌≡◌ {A = Option Line} (Some a) None = h.answers in cc
answer_kept n me p _ a q h = row_keeps me p _ a q h
