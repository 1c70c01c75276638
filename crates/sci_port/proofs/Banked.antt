-- What a line among lines that are lent gives.
use Rattle.std.proofs.Common.{◌≡◌, ◌≢◌, ◌⊎◌, inl, inr, ℕ, ◌<◌, ◌≤◌, true, Some, Ok, List, length, get_or, set, take, drop, ◌++◌, refl, sym, ap, subst, ◌∙◌}
use Rattle.std.proofs.lemmas.Bool.{cases_eq}
use Rattle.std.proofs.Math.Seq.{take-append_seam}
use Rattle.std.proofs.lemmas.List.{get_or-set_same, get_or-set_other, get_or_default, length-set}
use Rattle.std.specs.Borrow.{GName}
use Rattle.sci_words.specs.Tag.{tag_well_formed, tag_links_below}
use Rattle.sci_words.specs.Mem.{mem_well_formed, mem_links_below}
use Rattle.sci_words.specs.declared.memory.Mem.{Mem}
use Rattle.sci_words.specs.declared.tags.Tag.{Tag}
use Rattle.sci_core.specs.declared.events.Event.{Event}
use Rattle.sci_core.specs.declared.outcomes.Outcome.{Outcome}
use Rattle.sci_core.specs.declared.pending.Pending.{Pending}
use Rattle.sci_core.specs.Run.{IsLawfulLine}
use Rattle.sci_core.specs.State.{blank}
use Rattle.sci_core.specs.Whole.{WholeLine, nodes_of, state_of, opened_whole}
use Rattle.sci_port.specs.Banks.{BankWay, LentLines, AreLinesOf, IsLineOf, GivesAt, Stays, lent_lines, whole_at, nodes_at, state_at, step_at}
use Rattle.sci_port.specs.declared.calls.Call.{Call}
use Rattle.sci_port.specs.declared.calls.Call.TheVariants.{MemWas, Own, Stepped, TagWas}
use Rattle.sci_port.specs.Owes.{IsSoundStep, Owes}
use Rattle.sci_port.specs.Solo as lent
use Rattle.sci_port.specs.Solo.{Gives}
use Rattle.sci_port.specs.Way.{Way, way_to}
use Rattle.sci_port.proofs.Lent.{is_sound, look_owed}

-- a list's slice with one element set, written back into the list
pub written_back : {X : Type 0} (items slice : List X) (count i : ℕ) (x : X) → slice ≡ items → length slice ≡ count → take count (set slice i x ++ drop (length (set slice i x)) items) ≡ set items i x
written_back items slice count i x same counts =
    ap (λ (n : ℕ). take n (set slice i x ++ drop (length (set slice i x)) items)) (sym (length-set slice i x ∙ counts))
    ∙ take-append_seam (set slice i x) (drop (length (set slice i x)) items)
    ∙ ap (λ (l : List _). set l i x) same

module _ {K : Type 0} (fits : K → ℕ → List ℕ → Type 0) (s : LentLines K) (line : ℕ) (inside : line < length s.wholes) (are : AreLinesOf s.keep s.node s.wholes) where
  is : IsLineOf s.keep s.node line (whole_at s line)
  is = are.each line (opened_whole s.keep 0 0 blank) inside

  -- the line, as it was read there
  read_from : (i : ℕ) (y x : WholeLine K) → i ≡ line → x ≡ get_or s.wholes i y → x ≡ whole_at s line
  read_from i y x e r = r ∙ ap (λ (j : ℕ). get_or s.wholes j y) e ∙ get_or_default s.wholes line y (opened_whole s.keep 0 0 blank) inside

  read_at : (i : ℕ) (x : WholeLine K) → i ≡ line → x ≡ get_or s.wholes i x → x ≡ whole_at s line
  read_at i x e r = read_from i x x e r

  -- what holds of the line holds of what was read there
  pub holds_of_read : (P : WholeLine K → Type 0) (i : ℕ) (y x : WholeLine K) → i ≡ line → x ≡ get_or s.wholes i y → P (whole_at s line) → P x
  holds_of_read P i y x e r h = subst P (sym (read_from i y x e r)) h

  pub node_below : (i : ℕ) (y x : WholeLine K) → i ≡ line → x ≡ get_or s.wholes i y → s.node < nodes_of x
  node_below i y x e r = holds_of_read (λ (w : WholeLine K). s.node < nodes_of w) i y x e r is.below

  pub fits_as_read : (P : (List ℕ → Type 0) → Type 0) (i : ℕ) (y x : WholeLine K) → i ≡ line → x ≡ get_or s.wholes i y → P (fits s.keep line) → P (fits x.keep x.number)
  fits_as_read P i y x e r h =
      holds_of_read (λ (w : WholeLine K). P (fits w.keep w.number)) i y x e r
      (subst (λ (n : ℕ). P (fits (whole_at s line).keep n)) (sym is.number) (subst (λ (k : K). P (fits k line)) (sym is.fact) h))

  pub sound_at : (i : ℕ) (x : WholeLine K) (p : Pending) (t : Tag) → i ≡ line → x ≡ get_or s.wholes i x → p ≡ (state_of x).steps s.node → t ≡ (state_of x).tags s.node → tag_well_formed t ≡ true → tag_links_below (nodes_of x) t ≡ true
      → IsLawfulLine (nodes_of x) (fits x.keep x.number) (state_of x) → IsSoundStep (nodes_at s line) (fits s.keep line) p
  sound_at i x p t il r ep et form links lawful =
      let at_x : IsSoundStep (nodes_of x) (fits x.keep x.number) p = is_sound (nodes_of x) (fits x.keep x.number) (state_of x) s.node p t ep et form links lawful in
      let at_w : IsSoundStep (nodes_at s line) (fits (whole_at s line).keep (whole_at s line).number) p = subst (λ (y : WholeLine K). IsSoundStep (nodes_of y) (fits y.keep y.number) p) (read_at i x il r) at_x in
      subst (λ (k : K). IsSoundStep (nodes_at s line) (fits k line) p) is.fact (subst (λ (n : ℕ). IsSoundStep (nodes_at s line) (fits (whole_at s line).keep n) p) is.number at_w)

  -- a load leaves all lines as they are
  load_kept : (call : Call) → Gives (nodes_at s line) (fits s.keep line) (state_at s line) s.node call (state_at s line) → Owes (nodes_at s line) (fits s.keep line) s.node (step_at s line) call (step_at s line) → GivesAt fits s line call s
  load_kept call given owed = record {
    stays = record { way = refl; fact = refl; nodes = λ m. refl; wholes = λ m other. refl; steps = λ m other. refl };
    gives = given;
    owes = owed;
  }

  pub mem_given : (i : ℕ) (x : WholeLine K) (m : Mem) → i ≡ line → x ≡ get_or s.wholes i x → m ≡ (state_of x).memory → mem_well_formed m ≡ true → mem_links_below (nodes_of x) m ≡ true → GivesAt fits s line (MemWas (Some m)) s
  mem_given i x m il r value form links =
      let here : x ≡ whole_at s line = read_at i x il r in
      load_kept (MemWas (Some m)) (ap Some (subst (λ (w : WholeLine K). m ≡ (state_of w).memory) here value), refl)
      (refl, (form, subst (λ (w : WholeLine K). mem_links_below (nodes_of w) m ≡ true) here links))

  pub tag_given : (i : ℕ) (x : WholeLine K) (node : ℕ) (t : Tag) → i ≡ line → x ≡ get_or s.wholes i x → t ≡ (state_of x).tags node → tag_well_formed t ≡ true → tag_links_below (nodes_of x) t ≡ true → GivesAt fits s line (TagWas node (Some t)) s
  tag_given i x node t il r value form links =
      let here : x ≡ whole_at s line = read_at i x il r in
      load_kept (TagWas node (Some t)) (ap Some (subst (λ (w : WholeLine K). t ≡ (state_of w).tags node) here value), refl)
      (refl, (form, subst (λ (w : WholeLine K). tag_links_below (nodes_of w) t ≡ true) here links))

  -- what the port to one line of the node gives there
  abbrev LentGives : Call → WholeLine K → ℕ → WholeLine K → ℕ → GName → GName → Type 0
  LentGives call x me v you g h = lent.LentGives fits x me call v you g h

  module _ (call : Call) (i : ℕ) (y x v : WholeLine K) (me you : ℕ) (g h : GName) (il : i ≡ line) (xy : x ≡ get_or s.wholes i y) (mine : me ≡ s.node) (given : LentGives call x me v you g h) where
    abbrev t : LentLines K
    t = lent_lines s.keep s.node (set s.wholes line v)

    here : LentGives call (whole_at s line) s.node v you g h
    here = subst (λ (n : ℕ). LentGives call (whole_at s line) n v you g h) mine (subst (λ (y : WholeLine K). LentGives call y me v you g h) (read_from i y x il xy) given)

    set_here : whole_at t line ≡ v
    set_here = get_or-set_same s.wholes line v (opened_whole s.keep 0 0 blank) inside

    elsewhere : (m : ℕ) → m ≢ line → whole_at t m ≡ whole_at s m
    elsewhere m other = get_or-set_other s.wholes line m v (opened_whole s.keep 0 0 blank) other

    same_nodes : nodes_of v ≡ nodes_at s line
    same_nodes = ap (λ (w : Way). w.nodes) here.0

    same_number : v.number ≡ line
    same_number = ap (λ (w : Way). w.number) here.0 ∙ is.number

    you_are : you ≡ s.node
    you_are = ap (λ (w : Way). w.node) here.0

    nodes_stay : (m : ℕ) → (m ≡ line) ⊎ (m ≢ line) → nodes_at t m ≡ nodes_at s m
    nodes_stay m (inl e) = subst (λ (k : ℕ). nodes_at t k ≡ nodes_at s k) (sym e) (ap (λ (w : WholeLine K). nodes_of w) set_here ∙ same_nodes)
    nodes_stay m (inr other) = ap (λ (w : WholeLine K). nodes_of w) (elsewhere m other)

    stays : Stays s line t
    stays = record {
      way = λ i. record { node = s.node; lines = length-set s.wholes line v i };
      fact = refl;
      nodes = λ m. nodes_stay m (cases_eq m line);
      wholes = elsewhere;
      steps = λ m other. ap (λ (w : WholeLine K). (state_of w).steps s.node) (elsewhere m other);
    }

    gives_line : GivesAt fits s line call t
    gives_line =
        let fact : (P : K → ℕ → Type 0) → P (whole_at s line).keep (whole_at s line).number → P s.keep line = λ P p. subst (λ (k : K). P k line) is.fact (subst (λ (n : ℕ). P (whole_at s line).keep n) is.number p) in
        record {
          stays = stays;
          gives = subst (λ (w : WholeLine K). Gives (nodes_at s line) (fits s.keep line) (state_at s line) s.node call (state_of w)) (sym set_here)
              (fact (λ k n. Gives (nodes_at s line) (fits k n) (state_at s line) s.node call (state_of v)) here.2);
          owes = subst (λ (w : WholeLine K). Owes (nodes_at s line) (fits s.keep line) s.node (step_at s line) call ((state_of w).steps s.node)) (sym set_here)
              (subst (λ (n : ℕ). Owes (nodes_at s line) (fits s.keep line) s.node (step_at s line) call ((state_of v).steps n)) you_are
              (fact (λ k n. Owes (nodes_at s line) (fits k n) s.node (step_at s line) call ((state_of v).steps you)) here.3));
        }

    line_of : (m : ℕ) (d : WholeLine K) → m < length s.wholes → (m ≡ line) ⊎ (m ≢ line) → IsLineOf s.keep s.node m (get_or (set s.wholes line v) m d)
    line_of m d below (inl e) = subst (λ (k : ℕ). IsLineOf s.keep s.node k (get_or (set s.wholes line v) k d)) (sym e)
        (subst (λ (w : WholeLine K). IsLineOf s.keep s.node line w) (sym (get_or-set_same s.wholes line v d inside))
        record { number = same_number; fact = here.1 ∙ is.fact; below = subst (λ (n : ℕ). s.node < n) (sym same_nodes) is.below })
    line_of m d below (inr other) = subst (λ (w : WholeLine K). IsLineOf s.keep s.node m w) (sym (get_or-set_other s.wholes line m v d other)) (are.each m d below)

    are_line : AreLinesOf s.keep s.node (set s.wholes line v)
    are_line =
        let count : length (set s.wholes line v) ≡ length s.wholes = length-set s.wholes line v in
        record {
          some = subst (λ (n : ℕ). 0 < n) (sym count) are.some;
          few = subst (λ (n : ℕ). n ≤ 1024) (sym count) are.few;
          each = λ m d below. line_of m d (subst (λ (n : ℕ). m < n) count below) (cases_eq m line);
        }

    module _ (new : List (WholeLine K)) (back : new ≡ set s.wholes i v) where
      new_is : new ≡ set s.wholes line v
      new_is = back ∙ ap (λ (j : ℕ). set s.wholes j v) il

      pub gives_at : GivesAt fits s line call (lent_lines s.keep s.node new)
      gives_at = subst (λ (l : List (WholeLine K)). GivesAt fits s line call (lent_lines s.keep s.node l)) (sym new_is) gives_line

      pub are_after : AreLinesOf s.keep s.node new
      are_after = subst (λ (l : List (WholeLine K)). AreLinesOf s.keep s.node l) (sym new_is) are_line

module _ {K : Type 0} {fits : K → ℕ → List ℕ → Type 0} {s t : LentLines K} {line : ℕ} {call : Call} (h : GivesAt fits s line call t) (same : step_at t line ≡ step_at s line) where
  each_step : (m : ℕ) → (m ≡ line) ⊎ (m ≢ line) → step_at t m ≡ step_at s m
  each_step m (inl e) = subst (λ (k : ℕ). step_at t k ≡ step_at s k) (sym e) same
  each_step m (inr other) = h.stays.steps m other

  -- where the step on the line stays, so do all
  pub same_steps : (m : ℕ) → step_at t m ≡ step_at s m
  same_steps m = each_step m (cases_eq m line)

-- a step that was a look, and the own tag behind it
pub look_given : {K : Type 0} (fits : K → ℕ → List ℕ → Type 0) (s t : LentLines K) (line : ℕ) (inside : line < length t.wholes) (are : AreLinesOf t.keep t.node t.wholes) (o : Outcome) (i : ℕ) (y : WholeLine K) (x : Tag)
    → GivesAt fits s line (Stepped Event.Look o) t → i ≡ line → y ≡ get_or t.wholes i y → x ≡ (state_of y).tags t.node → tag_well_formed x ≡ true → tag_links_below (nodes_of y) x ≡ true
    → GivesAt fits s line (Own (Some x)) t
look_given {K} fits s t line inside are o i y x h il r value form links =
    let here : y ≡ whole_at t line = read_at fits t line inside are i y il r in
    let node : t.node ≡ s.node = ap (λ (w : BankWay). w.node) h.stays.way in
    let is_tag : x ≡ (state_at t line).tags s.node = subst (λ (m : ℕ). x ≡ (state_at t line).tags m) node (subst (λ (w : WholeLine K). x ≡ (state_of w).tags t.node) here value) in
    let below : tag_links_below (nodes_at s line) x ≡ true = subst (λ (n : ℕ). tag_links_below n x ≡ true) (h.stays.nodes line) (subst (λ (w : WholeLine K). tag_links_below (nodes_of w) x ≡ true) here links) in
    let owed = look_owed (nodes_at s line) (fits s.keep line) (state_at s line) s.node (Ok o) (state_at t line) x h.gives.0 h.gives.1 is_tag form below in
    record {
      stays = h.stays;
      gives = owed.0;
      owes = subst (λ (m : ℕ). Owes (nodes_at s line) (fits s.keep line) s.node (step_at s line) (Own (Some x)) ((state_at t line).steps m)) (sym node) owed.1;
    }
