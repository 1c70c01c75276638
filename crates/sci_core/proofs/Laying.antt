-- What is put together from steps without lines and the bytes of slots, read by the node.
use Rattle.std.proofs.Common.{◌≡◌, ℕ, zero, suc, ◌+◌, ◌<◌, ◌≤◌, true, false, Option, Some, None, List, [], ◌∷◌, length, map, get_or, replicate, refl, sym, subst, ap, ◌∙◌, ⊎_elim, arith}
use Rattle.std.proofs.lemmas.Bool.{cases_lt}
use Rattle.std.proofs.lemmas.List.{get_or_past}
use mathlib.Core.Path.{fun_ext}
use Rattle.sci_words.specs.declared.tags.Tag.{Tag}
use Rattle.sci_words.specs.declared.memory.Mem.{Mem}
use Rattle.sci_core.specs.declared.lines.Line.{Line}
use Rattle.sci_core.specs.declared.pending.Pending.{Pending}
use Rattle.sci_core.specs.declared.stages.Stage.{Stage}
use Rattle.sci_core.specs.State.{State, invalid, blank}
use Rattle.sci_core.specs.Shape.{line_of}
use Rattle.sci_core.specs.Stage.{pending_of, stage_of}
use Rattle.sci_core.specs.Laid.{slot_of, memory_slot_of, tabled, step_laid, steps_of, slots_of, seen_whole}
use Rattle.sci_core.specs.Whole.{WholeLine, nodes_of, state_of}

pub length-tabled : {A : Type 0} (f : ℕ → A) (i n : ℕ) → length (tabled f i n) ≡ n
length-tabled f i zero = refl
length-tabled f i (suc n) = ap suc (length-tabled f (suc i) n)

tabled_at : {A : Type 0} (f : ℕ → A) (i n j : ℕ) (d : A) → j < n → get_or (tabled f i n) j d ≡ f (i + j)
tabled_at f i zero j d h = absurd (omega arith)
tabled_at f i (suc n) zero d h = let e : i ≡ i + 0 = omega arith in ap f e
tabled_at f i (suc n) (suc j) d h =
    let e : suc i + j ≡ i + suc j = omega arith in
    tabled_at f (suc i) n j d (omega arith) ∙ ap f e

-- as a function, where the default is what the function is past the end
tabled_read : {A : Type 0} (f : ℕ → A) (n : ℕ) (d : A) → ((j : ℕ) → n ≤ j → f j ≡ d) → (j : ℕ) → get_or (tabled f 0 n) j d ≡ f j
tabled_read f n d past j =
    ⊎_elim
    (λ h. let e : 0 + j ≡ j = omega arith in tabled_at f 0 n j d h ∙ ap f e)
    (λ h. get_or_past (tabled f 0 n) j d (omega (arith, length-tabled f 0 n)) ∙ sym (past j h))
    (cases_lt j n)

-- a function that is the same everywhere
pub tabled_same : {A : Type 0} (f : ℕ → A) (i n : ℕ) (a : A) → ((j : ℕ) → i ≤ j → j < i + n → f j ≡ a) → tabled f i n ≡ replicate n a
tabled_same f i zero a h = refl
tabled_same f i (suc n) a h = λ k. h i (omega arith) (omega arith) k ∷ tabled_same f (suc i) n a (λ j l m. h j (omega arith) (omega arith)) k

-- a function that reads a list, by way of another
pub tabled_back : {A B : Type 0} (f : ℕ → B) (g : B → A) (i : ℕ) (xs : List A) (d : A) → ((j : ℕ) → j < length xs → g (f (i + j)) ≡ get_or xs j d) → map g (tabled f i (length xs)) ≡ xs
tabled_back f g i [] d h = refl
tabled_back {A} {B} f g i (x ∷ xs) d h =
    let e : i + 0 ≡ i = omega arith in
    let first : g (f i) ≡ x = ap (λ (n : ℕ). g (f n)) (sym e) ∙ h 0 (omega arith) in
    let rest : (j : ℕ) → j < length xs → g (f (suc i + j)) ≡ get_or xs j d =
    λ j l. let s : suc i + j ≡ i + suc j = omega arith in ap (λ (n : ℕ). g (f n)) s ∙ h (suc j) (omega arith) in
    λ k. first k ∷ tabled_back f g (suc i) xs d rest k

-- the state that is put together
abbrev pub laid_state : Mem → List Tag → List Stage → Line → List Line → State
laid_state memory tags stages bytes lines = record {
  memory = memory;
  tags = λ i. get_or tags i invalid;
  steps = step_laid stages lines;
  memory_slot = memory_slot_of memory bytes;
  slots = λ i. slot_of (get_or tags i invalid) (get_or stages i Stage.Idle) (get_or lines i blank);
}

module _ (tags : List Tag) (stages : List Stage) (lines : List Line) (es : length stages ≡ length tags) (el : length lines ≡ length tags) where
  step_past : (j : ℕ) → length stages ≤ j → step_laid stages lines j ≡ Pending.Idle
  step_past j h = ap (λ (x : Stage). pending_of x (get_or lines j blank)) (get_or_past stages j Stage.Idle h)

  slot_past : (j : ℕ) → length tags ≤ j → slot_of (get_or tags j invalid) (get_or stages j Stage.Idle) (get_or lines j blank) ≡ Some blank
  slot_past j h =
      ap (λ (t : Tag). slot_of t (get_or stages j Stage.Idle) (get_or lines j blank)) (get_or_past tags j invalid h)
      ∙ ap (λ (x : Stage). slot_of invalid x (get_or lines j blank)) (get_or_past stages j Stage.Idle (omega (arith, es)))
      ∙ ap (λ (l : Line). slot_of invalid Stage.Idle l) (get_or_past lines j blank (omega (arith, el)))

  steps_seen : ◌≡◌ {A = ℕ → Pending} (λ i. get_or (steps_of stages lines) i Pending.Idle) (step_laid stages lines)
  steps_seen = fun_ext (λ j. tabled_read (step_laid stages lines) (length stages) Pending.Idle step_past j)

  slots_seen : ◌≡◌ {A = ℕ → Option Line} (λ i. get_or (slots_of tags stages lines) i (Some blank)) (λ i. slot_of (get_or tags i invalid) (get_or stages i Stage.Idle) (get_or lines i blank))
  slots_seen = fun_ext (λ j. tabled_read (λ i. slot_of (get_or tags i invalid) (get_or stages i Stage.Idle) (get_or lines i blank)) (length tags) (Some blank) slot_past j)

  -- the view, read by the node
  pub state_seen : {K : Type 0} (keep : K) (number : ℕ) (memory : Mem) (bytes : Line) → state_of (seen_whole keep number memory tags stages bytes lines) ≡ laid_state memory tags stages bytes lines
  state_seen keep number memory bytes = λ k. record {
    memory = memory;
    tags = λ i. get_or tags i invalid;
    steps = steps_seen k;
    memory_slot = memory_slot_of memory bytes;
    slots = slots_seen k;
  }

-- a step is that of its stage and the line that it keeps
pub stage_with : (s : Stage) (l : Line) → stage_of (pending_of s l) ≡ s
stage_with (Stage.InQueue f d true) l = refl
stage_with (Stage.InQueue f d false) l = refl
stage_with _ l = refl

pub whole_step : (p : Pending) → pending_of (stage_of p) (line_of p) ≡ p
whole_step (Pending.InQueue f d (Some l)) = refl
whole_step (Pending.InQueue f d None) = refl
whole_step _ = refl

pub step_at_node : {K : Type 0} (keep : K) (number : ℕ) (memory : Mem) (tags : List Tag) (stages : List Stage) (bytes : Line) (lines : List Line) → length stages ≡ length tags → length lines ≡ length tags
    → (w : WholeLine K) → seen_whole keep number memory tags stages bytes lines ≡ w → (j : ℕ) → step_laid stages lines j ≡ (state_of w).steps j
step_at_node {K} keep number memory tags stages bytes lines es el w view j =
    ap (λ (s : State). s.steps j) (sym (state_seen tags stages lines es el keep number memory bytes)) ∙ ap (λ (v : WholeLine K). (state_of v).steps j) view

pub step_of : (s : Stage) (l : Line) (p : Pending) → s ≡ stage_of p → l ≡ line_of p → pending_of s l ≡ p
step_of s l p e f = ap (λ (t : Stage). pending_of t l) e ∙ ap (pending_of (stage_of p)) f ∙ whole_step p

-- a node of the line that callers see is one of the line as it lies
pub node_inside : {K : Type 0} {w v : WholeLine K} {i : ℕ} → w ≡ v → i < nodes_of v → i < nodes_of w
node_inside {K} {w} {v} {i} e h = subst (λ (u : WholeLine K). i < nodes_of u) (sym e) h
