-- What a seat tells of its calls is so: a give is of a call that was made, a miss is of a lock word that was taken, and a call of a
-- port adds itself alone.
use Rattle.std.proofs.Common.{◌≡◌, ℕ, ◌<◌, Some, None, List, [], ◌∷◌, ◌++◌, append_assoc, refl, sym, ap, ◌∙◌, subst, arith}
use Rattle.std.specs.Prelude.{slice_index}
use Rattle.atomic_table.specs.Table.{stepped, carried_after}
use Rattle.sci_core.specs.declared.outcomes.Outcome.{Outcome}
use Rattle.sci_core.specs.State.{State}
use Rattle.sci_core.specs.Whole.{WholeLine, nodes_of, state_of}
use Rattle.sci_port.specs.declared.calls.Call.{Call}
use Rattle.sci_port.specs.declared.calls.Call.TheVariants.{Own, MemWas, TagWas, Stepped}
use Rattle.sci_port.specs.Runs.{Leads}
use Rattle.sci_port.specs.Solo.{Gives}
use Rattle.sci_port.proofs.Histories.{one_next}
use Rattle.sci_port.proofs.Running.{before_last, one_end}
use Rattle.sci_coarse.specs.declared.views.Terms.{Terms}
use Rattle.sci_coarse.specs.declared.views.View.{View}
use Rattle.sci_coarse.specs.declared.views.Entry.{Entry}
use Rattle.sci_coarse.specs.declared.views.Entry.TheVariants.{Took, Missed, Gave}
use Rattle.sci_coarse.specs.Laws.{IsOneStep, GivesTruly, NoFalseBusy, LogsCalls}
use Rattle.sci_coarse.specs.Regions.{Seated, HasMissed, IsMiss, IsRegion}
use Rattle.sci_coarse.specs.Rule.{Shared, opened_on}
use Rattle.sci_coarse.specs.Runs.{Calls, Moves, calls_in}
use Rattle.sci_coarse.proofs.Histories.{led}
use Rattle.sci_coarse.proofs.Unslipped.{appends, misses_truly}

zero_one : (n : ℕ) → n ≡ 0 → n ≡ 1 → ⊥
zero_one n a b = omega arith

small : (n : ℕ) → n ≡ 0 → n < 18446744073709551616
small n a = omega arith

module _ {K : Type 0} (fits : K → ℕ → List ℕ → Type 0) where
  pub gives_truly : GivesTruly fits
  gives_truly t s s2 a b id place call apart one =
      let m = before_last (Moves fits) (None, opened_on t) a.run id (Gave call) (b.holder, b.whole) (subst (λ (r : List (ℕ × Entry)). Leads (Moves fits) (None, opened_on t) r (b.holder, b.whole)) (appends fits t s s2 a b id place (Gave call) apart one) b.ran) in
      let w : WholeLine K = m.0.1 in let x : WholeLine K = b.whole in
      let c : Calls fits id call w x = m.2.2 in
      let n : ℕ = nodes_of (opened_on t) in let f : List ℕ → Type 0 = fits t.keep t.number in
      let same : state_of w ≡ state_of a.whole = one_end (Gives n f) (λ p q r node e u v. one_next n f p q r node e u v) (state_of (opened_on t)) (calls_in a.run) (state_of w) (state_of a.whole) (led fits (None, opened_on t) a.run m.0 m.1) (led fits (None, opened_on t) a.run (a.holder, a.whole) a.ran) in
      subst (λ (y : State). Gives t.nodes f y id call (state_of x)) same
      (subst (λ (k : ℕ). Gives k f (state_of w) id call (state_of x)) (sym c.same.nodes ∙ b.on.nodes)
      (subst (λ (k : ℕ). Gives (nodes_of w) (fits t.keep k) (state_of w) id call (state_of x)) (sym c.same.number ∙ b.on.number)
      (subst (λ (k : K). Gives (nodes_of w) (fits k w.number) (state_of w) id call (state_of x)) (sym c.same.keep ∙ b.on.keep) c.gives)))

  pub no_false_busy : NoFalseBusy fits
  no_false_busy t slots id me f may s st apart long at free =
      let k = may s st long at (small (slice_index s.words 0) free) in
      let after : Seated K = (k.0, carried_after me.1 k.1) in
      let told : HasMissed me after = k.4 free in
      let later : Shared K = stepped s 0 (f (slice_index s.words 0)) id me.1 k.0 k.1 in
      let one : IsOneStep s later id told.0 Missed = record { before = me.0; after = k.0; at = at; views = refl; of = ap (λ (v : View K). v.of) told.1; node = ap (λ (v : View K). v.node) told.1; log = ap (λ (v : View K). v.log) told.1 } in
      zero_one (slice_index s.words 0) free (misses_truly fits t s later st k.3 id told.0 apart one)

  missed_once : (t : Terms K) (v u : View K) → IsMiss t v u → (place last : ℕ) × (u.log ≡ v.log ++ (place, Missed) ∷ [])
  missed_once t v u h = (h.0, 0, ap (λ (x : View K). x.log) h.1)

  took_and_gave : (t : Terms K) (v : View K) (call : Call) (u : View K) → IsRegion fits t v call u → (place last : ℕ) × (u.log ≡ v.log ++ (place, Took) ∷ (last, Gave call) ∷ [])
  took_and_gave t v call u h = (h.taken_at, h.given_at, ap (λ (x : View K). x.log) h.view ∙ append_assoc v.log ((h.taken_at, Took) ∷ []) ((h.given_at, Gave call) ∷ []))

  pub logs_calls : LogsCalls fits
  logs_calls t v (Own None) u h = missed_once t v u h
  logs_calls t v (MemWas None) u h = missed_once t v u h
  logs_calls t v (TagWas node None) u h = missed_once t v u h
  logs_calls t v (Stepped e Outcome.Busy) u h = missed_once t v u h
  logs_calls t v (Own (Some x)) u h = took_and_gave t v (Own (Some x)) u h
  logs_calls t v (MemWas (Some x)) u h = took_and_gave t v (MemWas (Some x)) u h
  logs_calls t v (TagWas node (Some x)) u h = took_and_gave t v (TagWas node (Some x)) u h
  logs_calls t v (Stepped e (Outcome.Done x)) u h = took_and_gave t v (Stepped e (Outcome.Done x)) u h
  logs_calls t v (Stepped e (Outcome.Missed x)) u h = took_and_gave t v (Stepped e (Outcome.Missed x)) u h
