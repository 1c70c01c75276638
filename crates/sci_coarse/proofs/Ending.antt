-- A table that was closed with the first seat, to which all others were joined, has the whole line at home, and every step Idle.
use Rattle.std.proofs.Common.{◌≡◌, ◌≢◌, ℕ, ◌<◌, ◌≤◌, Bool, false, Option, Some, None, List, length, get_or, set, get_or-set_same, sym, ap, ◌∙◌, subst, ⊎_elim, arith}
use mathlib.Core.Logic.{dite}
use mathlib.Core.Option.{some, some-injective}
use native.Mathlib.Decide.{ℕ_discrete}
use lib.ListN.{get_elem?}
use Rattle.atomic_table.specs.Table.{Final, Seen}
use Rattle.sci_core.specs.declared.pending.Pending.{Pending}
use Rattle.sci_core.specs.Whole.{WholeLine, nodes_of, state_of}
use Rattle.sci_port.specs.Runs.{Leads, done_by}
use Rattle.sci_coarse.specs.declared.views.Terms.{Terms}
use Rattle.sci_coarse.specs.declared.views.View.{View}
use Rattle.sci_coarse.specs.Ends.{IsRun}
use Rattle.sci_coarse.specs.Rule.{IsOn, IsLawfulWhole, IsAtHome, IsOut, IsSpent, Locked, opened_on}
use Rattle.sci_coarse.specs.Runs.{Moves}
use Rattle.sci_coarse.specs.Views.{keeps_of}
use Rattle.sci_coarse.proofs.Listed.{inside, clash}

-- the whole line in the slot of a table that was closed with this view
pub record IsLeft {K : Type 0} (fits : K → ℕ → List ℕ → Type 0) (t : Terms K) (v : View K) (xs : List (WholeLine K)) : Type 0 where
  pub whole : WholeLine K
  pub at : get_elem? xs 0 ≡ some whole
  pub run : IsRun fits t v whole
  pub on : IsOn t whole
  pub lawful : IsLawfulWhole fits whole
  pub idle : (i : ℕ) → i < nodes_of whole → (state_of whole).steps i ≡ Pending.Idle

module _ {K : Type 0} (fits : K → ℕ → List ℕ → Type 0) (t : Terms K) where
  left : (id : ℕ) (v : View K) (ws : List ℕ) (xs : List (WholeLine K)) → v.of ≡ Some t → v.node ≡ 0 → v.joined ≡ 1 → v.pending ≡ Pending.Idle → v.holds ≡ false → Final (Seen (Locked fits t) id v) ws xs → IsLeft fits t v xs
  left id v ws xs live first joined idle unheld (s, h, words, as_long, homes) =
      let st = h.0 in let k = st.seated id v h.1 in let few : length s.views ≤ t.nodes = st.few in
      let is : v.node ≡ id = (k.seat t live).1 in
      let spent : (i : ℕ) → i ≢ id → i < t.nodes → IsSpent s.views i = λ i ne near. (k.joins t live i (omega arith) near).0 in
      let no_out : IsOut s st.whole st.holder → ⊥ = λ out. let near : out.seat < length s.views = inside s.views out.view out.seat out.at in dite (ℕ_discrete out.seat id)
      (λ e. clash out.view.holds out.holds (ap (λ (x : View K). x.holds) (some-injective out.view v (sym out.at ∙ (ap (get_elem? s.views) e ∙ h.1))) ∙ unheld))
      (λ ne. let u = spent out.seat ne (omega arith) in clash out.view.holds out.holds (ap (λ (x : View K). x.holds) (some-injective out.view u.view (sym out.at ∙ u.at)) ∙ u.unheld)) in
      let home : IsAtHome s st.whole st.holder = ⊎_elim (λ (x : IsAtHome s st.whole st.holder). x) (λ (x : IsOut s st.whole st.holder). absurd (no_out x)) st.place in
      record {
        whole = st.whole;
        at = homes 0 st.whole home.home;
        run = record { run = st.run; ran = subst (λ (h : Option ℕ). Leads (Moves fits) (None, opened_on t) st.run (h, st.whole)) home.nobody st.ran; fit = st.fit; log = λ i near. dite (ℕ_discrete i id) (λ e. subst (λ (z : ℕ). keeps_of z v ≡ done_by z st.run) (sym e) (k.log t live)) (λ ne. (k.joins t live i (omega arith) near).1); nobody = λ i far. (st.unseated i (omega arith)).1 };
        on = st.on;
        lawful = st.lawful;
        idle = λ i below. dite (ℕ_discrete i id)
            (λ e. ap (state_of st.whole).steps e ∙ (sym k.step ∙ idle))
            (λ ne. let nodes : nodes_of st.whole ≡ t.nodes = st.on.nodes in let u = spent i ne (omega arith) in sym (st.seated i u.view u.at).step ∙ u.pending);
      }

pub left_as : {K : Type 0} (fits : K → ℕ → List ℕ → Type 0) (t key : Terms K) (id : ℕ) (v : View K) (ws : List ℕ) (xs : List (WholeLine K)) → key ≡ t → v.of ≡ Some t → v.node ≡ 0 → v.joined ≡ 1 → v.pending ≡ Pending.Idle → v.holds ≡ false → Final (Seen (Locked fits key) id v) ws xs → IsLeft fits t v xs
left_as {K} fits t key id v ws xs is live first joined idle unheld f = left fits t id v ws xs live first joined idle unheld (subst (λ (k : Terms K). Final (Seen (Locked fits k) id v) ws xs) is f)

-- it is the one that is taken out
pub taken_out : {K : Type 0} (fits : K → ℕ → List ℕ → Type 0) (t : Terms K) (v : View K) (xs : List (WholeLine K)) (w : WholeLine K) (l : IsLeft fits t v xs) → get_elem? xs 0 ≡ some w → l.whole ≡ w
taken_out fits t v xs w l e = some-injective l.whole w (sym l.at ∙ e)

-- the one slot is empty after that
pub emptied : (filled more : List Bool) (n : ℕ) → n ≡ 1 → n ≡ length filled → more ≡ set filled 0 false → (k : ℕ) → k < n → get_or more k false ≡ false
emptied filled more n one long is k below =
    let first : k ≡ 0 = omega arith in
    subst (λ (i : ℕ). get_or more i false ≡ false) (sym first) (ap (λ (l : List Bool). get_or l 0 false) is ∙ get_or-set_same filled 0 false false (omega arith))
