-- A look keeps the law and the links.
use Rattle.std.proofs.Common.{◌≡◌, ◌∙◌, ℕ, ◌<◌, true, Bool, Option, Some, None, refl, sym, subst, ap, arith}
use Rattle.std.proofs.lemmas.Bool.Decides.{nat_tests}
use mathlib.Core.Path.{fun_ext}
use Rattle.sci_words.specs.declared.tags.Kind.{Kind}
use Rattle.sci_core.specs.declared.pending.Pending.{Pending}
use Rattle.sci_core.specs.State.{State, update}
use Rattle.sci_core.specs.Shape.{Phase, shape, phase_of}
use Rattle.sci_core.specs.Law.{Witness, Law, Below, suits, is_body}
use Rattle.sci_core.specs.Step.{look_of, look_back, looked}
use Rattle.sci_core.proofs.Keeping.Look.{look_purging_keeps_law, look_purging_keeps_links, look_leaving_keeps_law, look_leaving_keeps_links, look_rolling_keeps_law, look_rolling_keeps_links}

-- a function is as it was where it is given its own value
pub update_same : {A : Type 0} (f : ℕ → A) (i : ℕ) (x : A) → f i ≡ x → ◌≡◌ {A = ℕ → A} f (update f i x)
update_same f i x e = fun_ext (λ j. grind (arith, nat_tests))

pub record Looks (n : ℕ) (t : State) (g : Witness) : Type 0 where
  pub law : Law (shape t) g
  pub links : Below n (shape t)

-- the state after a look, in a step that is p
abbrev seen_from : State → ℕ → Pending → State
seen_from s me p = record s { steps = update s.steps me (look_of p (s.tags me)) }

rolls : (p : Pending) (k : Kind) → phase_of p ≡ Phase.Rolling → suits (phase_of p) k ≡ true → is_body k ≡ true
rolls p k e h = grind (arith, nat_tests)

module _ (n : ℕ) (s : State) (g : Witness) (o : Law (shape s) g) (b : Below n (shape s)) (me : ℕ) (below : me < n) where
  as_before : (p : Pending) → s.steps me ≡ p → look_of p (s.tags me) ≡ p → Looks n (seen_from s me p) g
  as_before p e h =
      let same : ◌≡◌ {A = ℕ → Pending} s.steps (update s.steps me (look_of p (s.tags me))) = update_same s.steps me (look_of p (s.tags me)) (e ∙ sym h) in
      subst (λ (steps : ℕ → Pending). Looks n (record s { steps = steps }) g) same record { law = o; links = b }

  rolling_at : (told : Bool) (seen : Option (Option ℕ × ℕ)) → s.steps me ≡ Pending.Rolling told seen → (back : Option ℕ) → (s.tags me).back ≡ back → Looks n (record s { steps = update s.steps me (look_back told seen (s.tags me).forw back) }) g
  rolling_at told seen e (Some x) h = record {
    law = look_rolling_keeps_law s g o me told x seen e h;
    links = look_rolling_keeps_links n s b me below told x seen e h;
  }
  rolling_at told seen e None h = absurd (o.own.body_back me (rolls (s.steps me) (s.tags me).kind (ap phase_of e) (o.own.suited me)) h)

  looks_from : (p : Pending) → s.steps me ≡ p → Looks n (seen_from s me p) g
  looks_from (Pending.Purging l seen) e = record { law = look_purging_keeps_law s g o me l seen e; links = look_purging_keeps_links n s b me below l seen e }
  looks_from (Pending.Leaving d l seen) e = record { law = look_leaving_keeps_law s g o me d l seen e; links = look_leaving_keeps_links n s b me below d l seen e }
  looks_from (Pending.Rolling told seen) e = rolling_at told seen e (s.tags me).back refl
  looks_from p e = as_before p e refl

  pub looks : Looks n (looked s me) g
  looks = looks_from (s.steps me) refl
