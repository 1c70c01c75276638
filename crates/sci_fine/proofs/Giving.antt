-- What a call of a node gives on a line under the law, where the node's step goes by a name of its own.
use Rattle.std.proofs.Common.{◌≡◌, ◌≢◌, ◌⊎◌, ℕ, zero, suc, ◌<◌, true, List, refl, sym, ap, ◌∙◌, subst, ⊎_elim}
use Rattle.sci_words.specs.Codes.{tag_code, mem_code}
use Rattle.sci_words.specs.declared.tags.Tag.{Tag}
use Rattle.sci_core.specs.declared.lines.Line.{Line}
use Rattle.sci_core.specs.declared.pending.Pending.{Pending}
use Rattle.sci_core.specs.declared.events.Event.{Event}
use Rattle.sci_core.specs.declared.outcomes.Outcome.{Outcome}
use Rattle.sci_core.specs.declared.rows.Change.{Change}
use Rattle.sci_core.specs.declared.rows.Change.TheVariants.{OfMemory, OfTag}
use Rattle.sci_core.specs.Answers.{FitsEvent, Makes, Misses, found_code}
use Rattle.sci_core.specs.State.{State}
use Rattle.sci_core.specs.Row.{Row}
use Rattle.sci_core.specs.Step as core
use Rattle.sci_core.specs.Step.{is_look, looked, taken_line}
use Rattle.sci_core.specs.Table.{has_row, row_of}
use Rattle.sci_core.specs.WellFormed.{LeavesWellFormed, FindsWord}
use Rattle.sci_core.specs.Whole.{IsRuled}
use Rattle.sci_core.proofs.Forming.{forms}
use Rattle.sci_core.proofs.Going.{goes}
use Rattle.sci_core.proofs.Going.Forms.{Going, made}
use Rattle.sci_core.proofs.Lawfully.{lawful_line, done_keeps, missed_keeps, look_keeps, exchange_answers}
use Rattle.sci_core.proofs.Sound.{value_fits, finds_formed, tags_formed, memory_formed, memory_links, tag_links}
use Rattle.sci_port.specs.declared.calls.Call.{Call}
use Rattle.sci_port.specs.declared.calls.Call.TheVariants.{Stepped}
use Rattle.sci_port.specs.Solo.{Gives}
use Rattle.sci_port.proofs.Lent.{is_exchange}
use Rattle.sci_fine.specs.Rule.{word_at}
use Rattle.sci_fine.specs.Steps.{place_of, before_of, load_of, own_load, look_step}

-- An event that is allowed and finds its word leaves a state under the law, and the slot that it takes is at home.
pub record Goes (n : ℕ) (fits : List ℕ → Type 0) (a : State) (x : ℕ) (r : Row) : Type 0 where
  pub home : core.IsAtHome a r.carry
  pub ruled : IsRuled n fits (made a x r)

pub goes_as : (n : ℕ) (fits : List ℕ → Type 0) (a : State) (q : IsRuled n fits a) (x : ℕ) (p : Pending) (e : Event) → x < n → a.steps x ≡ p → has_row n x p e ≡ true → core.Finds a (row_of x p e).change → FitsEvent fits e → Goes n fits a x (row_of x p e)
goes_as n fits a q x p e below at allowed finds fit =
    let r : Row = row_of x p e in
    let go : Going n a q.witness x e r = goes n a q.witness x p e record { law = q.law; links = q.links; below = below; pending = at } allowed finds in
    let leaves : LeavesWellFormed r.change = forms n x p e allowed (finds_formed a r.change q.words finds) in
    record {
      home = go.home;
      ruled = record {
        witness = go.after;
        law = go.law;
        links = go.links;
        words = record { memory = memory_formed a.memory r.change q.words.memory leaves; tags = tags_formed a.tags r.change q.words.tags leaves };
        fit = subst (λ (v : Line). fits v.words) (sym go.value) (value_fits fits e q.witness.value fit q.fit);
      };
    }

-- a row that is made at the step of the state
pub makes_at : (n : ℕ) (a : State) (x : ℕ) (p : Pending) (e : Event) → a.steps x ≡ p → has_row n x p e ≡ true → core.Finds a (row_of x p e).change → core.IsAtHome a (row_of x p e).carry
    → Makes n a x e ((row_of x p e).answer (taken_line a (row_of x p e).carry)) (made a x (row_of x p e))
makes_at n a x p e at turn finds home =
    subst (λ (p : Pending). has_row n x p e ≡ true → core.Finds a (row_of x p e).change → core.IsAtHome a (row_of x p e).carry → Makes n a x e ((row_of x p e).answer (taken_line a (row_of x p e).carry)) (made a x (row_of x p e))) at
    (λ h f k. record { allowed = h; finds = f; home = k; answers = refl; next = refl }) turn finds home

-- any word of a line under the law is one of a line of its nodes
finds_word : (n : ℕ) (fits : List ℕ → Type 0) (a : State) → IsRuled n fits a → (c : Change) → FindsWord n a c
finds_word n fits a q (OfMemory before after) = (q.words.memory, memory_links n a q.links)
finds_word n fits a q (OfTag x before after) = (q.words.tags x, tag_links n a q.links x)

pub misses_at : (n : ℕ) (a : State) (x : ℕ) (p : Pending) (e : Event) (word : ℕ) → a.steps x ≡ p → has_row n x p e ≡ true → FindsWord n a (row_of x p e).change → (core.Finds a (row_of x p e).change → ⊥) → word ≡ found_code a (row_of x p e).change → Misses n a x e word a
misses_at n a x p e word at turn formed other found =
    subst (λ (p : Pending). has_row n x p e ≡ true → FindsWord n a (row_of x p e).change → (core.Finds a (row_of x p e).change → ⊥) → word ≡ found_code a (row_of x p e).change → Misses n a x e word a) at
    (λ h o f k. record { allowed = h; formed = o; other = f; found = k; same = refl }) turn formed other found

pub found_there : (s : State) (c : Change) → found_code s c ≡ word_at s (place_of c)
found_there s (OfMemory before after) = refl
found_there s (OfTag x before after) = refl

code_there : (s : State) (c : Change) → core.Finds s c → word_at s (place_of c) ≡ before_of c
code_there s (OfMemory before after) h = ap mem_code h
code_there s (OfTag x before after) h = ap tag_code h

-- a load gives the word that stands, and leaves all as it is
pub load_gives : (n : ℕ) (fits : List ℕ → Type 0) (a : State) (x i : ℕ) → Gives n fits a x (load_of i a) a
load_gives n fits a x zero = (refl, refl)
load_gives n fits a x (suc j) = (refl, refl)

module _ (n : ℕ) (fits : List ℕ → Type 0) (a : State) (q : IsRuled n fits a) (x : ℕ) (below : x < n) where
  -- a look, as a load or as a step
  pub own_gives : Gives n fits a x (own_load (a.tags x)) (looked a x)
  own_gives = (refl, ((refl, refl), look_keeps n fits a (looked a x) x q below refl))

  pub look_gives : (call : Tag → Call) → (call (a.tags x) ≡ own_load (a.tags x)) ⊎ (call (a.tags x) ≡ look_step (a.tags x)) → Gives n fits a x (call (a.tags x)) (looked a x)
  look_gives call one = ⊎_elim
      (λ (h : call (a.tags x) ≡ own_load (a.tags x)). subst (λ (c : Call). Gives n fits a x c (looked a x)) (sym h) own_gives)
      (λ (h : call (a.tags x) ≡ look_step (a.tags x)). subst (λ (c : Call). Gives n fits a x c (looked a x)) (sym h) own_gives.1)
      one

  module _ (p : Pending) (e : Event) (at : a.steps x ≡ p) (turn : has_row n x p e ≡ true) where
    -- another word than the row's was found
    pub missed_gives : (word : ℕ) → word ≡ word_at a (place_of (row_of x p e).change) → word ≢ before_of (row_of x p e).change → Gives n fits a x (Stepped e (Outcome.Missed word)) a
    missed_gives word is other =
        let c : Change = (row_of x p e).change in
        let misses : Misses n a x e word a = misses_at n a x p e word at turn (finds_word n fits a q c) (λ f. other (is ∙ code_there a c f)) (is ∙ sym (found_there a c)) in
        (exchange_answers n a a x e (Outcome.Missed word) (is_exchange n x p e turn) misses, missed_keeps n fits a a x e word (lawful_line n fits a q) refl)

    -- the row was made
    pub done_gives : core.Finds a (row_of x p e).change → FitsEvent fits e → Gives n fits a x (Stepped e (Outcome.Done ((row_of x p e).answer (taken_line a (row_of x p e).carry)))) (made a x (row_of x p e))
    done_gives finds fit =
        let r : Row = row_of x p e in let y : Line = taken_line a r.carry in let b : State = made a x r in
        let go : Goes n fits a x r = goes_as n fits a q x p e below at turn finds fit in
        let makes : Makes n a x e (r.answer y) b = makes_at n a x p e at turn finds go.home in
        (exchange_answers n a b x e (Outcome.Done (r.answer y)) (is_exchange n x p e turn) makes, done_keeps n fits a b x e (r.answer y) q below fit makes)
