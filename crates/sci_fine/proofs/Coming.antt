-- What a step of the table that was told is, as a call of a port.
use Rattle.std.proofs.Common.{◌≡◌, ◌≢◌, ◌⊎◌, ⊎_elim, ℕ, suc, ◌<◌, ◌≤◌, true, false, Option, Some, None, List, map, refl, sym, ap, ◌∙◌, subst}
use Rattle.sci_words.specs.Codes.{tag_code, mem_code}
use Rattle.sci_words.specs.Mem.{mem_well_formed, mem_links_below}
use Rattle.sci_words.specs.Tag.{tag_well_formed, tag_links_below}
use Rattle.sci_words.specs.declared.memory.Mem.{Mem}
use Rattle.sci_words.specs.declared.tags.Tag.{Tag}
use Rattle.sci_words.proofs.Codes.{link_further, tag_links_further}
use Rattle.sci_core.specs.declared.lines.Line.{Line}
use Rattle.sci_core.specs.declared.pending.Pending.{Pending}
use Rattle.sci_core.specs.declared.events.Event.{Event}
use Rattle.sci_core.specs.declared.outcomes.Outcome.{Outcome}
use Rattle.sci_core.specs.declared.rows.Change.{Change}
use Rattle.sci_core.specs.Answers.{FitsEvent, is_allowed}
use Rattle.sci_core.specs.Carrying.{hand_of}
use Rattle.sci_core.specs.PendingStep.{IsOwnWord}
use Rattle.sci_core.specs.State.{State}
use Rattle.sci_core.specs.Step.{is_look, look_of, look_back, looked, taken_line}
use Rattle.sci_core.specs.Table.{has_row, row_of}
use Rattle.sci_core.specs.Run.{IsLawfulLine}
use Rattle.sci_core.specs.Whole.{IsRuled}
use Rattle.sci_core.proofs.Going.Forms.{made}
use Rattle.sci_core.proofs.Lawfully.{lawful_line}
use Rattle.sci_core.proofs.Sound.{memory_links, tag_links, ruled_looked}
use Rattle.sci_port.specs.declared.calls.Call.{Call}
use Rattle.sci_port.specs.declared.calls.Call.TheVariants.{MemWas, TagWas, Stepped}
use Rattle.sci_port.specs.Owes.{Owes}
use Rattle.sci_port.specs.Solo.{Gives}
use Rattle.sci_port.proofs.Lent.{is_exchange, takes_row, answer_fits}
use Rattle.sci_fine.specs.declared.views.Terms.{Terms}
use Rattle.sci_fine.specs.declared.views.View.{View}
use Rattle.sci_fine.specs.Calls.{IsStep, Tells, place_of_call}
use Rattle.sci_fine.specs.Rule.{slot_number, word_at}
use Rattle.sci_fine.specs.Standings.{IsStanding}
use Rattle.sci_fine.specs.Steps.{Seated, slots_in, place_of, before_of, IsHit, IsSeen, IsLooked, load_of, own_load, look_step}
use Rattle.sci_fine.specs.Views.{saw}
use Rattle.sci_fine.proofs.Carried.{hand_then}
use Rattle.sci_fine.proofs.Elements.{update_here}
use Rattle.sci_fine.proofs.Giving.{Goes, goes_as, load_gives, own_gives, missed_gives, done_gives}

look_back_hand : (me : ℕ) (told : _) (seen : _) (f b : Option ℕ) → hand_of me (look_back told seen f b) ≡ hand_of me (Pending.Rolling told seen)
look_back_hand me told seen f (Some b) = refl
look_back_hand me told seen f None = refl

look_hand : (me : ℕ) (p : Pending) (w : Tag) → hand_of me (look_of p w) ≡ hand_of me p
look_hand me (Pending.Purging l seen) w = refl
look_hand me (Pending.Leaving d l seen) w = refl
look_hand me (Pending.Rolling told seen) w = look_back_hand me told seen w.forw w.back
look_hand me _ w = refl

place_there : (me : ℕ) (p : Pending) (e : Event) (o : Outcome) → is_look e ≡ false → place_of_call me p (Stepped e o) ≡ place_of (row_of me p e).change
place_there me p Event.Look o h = absurd (cc)
place_there me p _ o h = refl

-- what is allowed with a row is allowed
allowed_row : (n me : ℕ) (p : Pending) (e : Event) → has_row n me p e ≡ true → is_allowed n me p e ≡ true
allowed_row n me p Event.Look h = refl
allowed_row n me p _ h = h

-- a word that stands is read
pub mem_reads : (n : ℕ) (fits : List ℕ → Type 0) (a : State) → IsRuled n fits a → n ≤ 65535 → (mem_well_formed a.memory ≡ true) × (mem_links_below 65535 a.memory ≡ true)
mem_reads n fits a r small = (r.words.memory, link_further n 65535 a.memory.forw small (memory_links n a r.links))

pub tag_reads : (n : ℕ) (fits : List ℕ → Type 0) (a : State) → IsRuled n fits a → n ≤ 65535 → (x : ℕ) → (tag_well_formed (a.tags x) ≡ true) × (tag_links_below 65535 (a.tags x) ≡ true)
tag_reads n fits a r small x = (r.words.tags x, tag_links_further n 65535 (a.tags x) small (tag_links n a r.links x))

-- a step of a seat with the view v, and the slots ks in hand, and what is so after it
pub record Comes {K : Type 0} (fits : K → ℕ → List ℕ → Type 0) (t : Terms K) (v : View K) (ks : List ℕ) (call : Call) (u : View K) (ls : List ℕ) : Type 0 where
  pub step : IsStep fits t v call u
  pub owes : Owes t.nodes (fits t.keep t.number) v.node v.pending call u.pending
  pub standing : IsStanding t.nodes (fits t.keep t.number) v.node u.pending
  pub of : u.of ≡ v.of
  pub node : u.node ≡ v.node
  pub joined : u.joined ≡ v.joined
  pub logs : u.logs ≡ v.logs
  pub hand : ks ≡ map slot_number (hand_of v.node v.pending) → ls ≡ map slot_number (hand_of v.node u.pending)

module _ {K : Type 0} (fits : K → ℕ → List ℕ → Type 0) (t : Terms K) (m n : Seated K) (found : ℕ) where
  lawful : (a : State) → IsRuled t.nodes (fits t.keep t.number) a → IsLawfulLine t.nodes (fits t.keep t.number) a
  lawful a r = lawful_line t.nodes (fits t.keep t.number) a r

  module _ (i : ℕ) (kept : State → Call) (h : IsSeen fits t kept i m found n) (below : m.0.node < t.nodes) where
    -- a step that left all as it was
    unmoved : (call : Call) → call ≡ kept h.finds.state → i ≡ place_of_call m.0.node m.0.pending call → Gives t.nodes (fits t.keep t.number) h.finds.state m.0.node call h.finds.state → Owes t.nodes (fits t.keep t.number) m.0.node m.0.pending call m.0.pending → Tells call found → Comes fits t m.0 (slots_in m.1) call n.0 (slots_in n.1)
    unmoved call is at gives owes tells =
        let a : State = h.finds.state in record {
          step = record {
            before = a;
            after = a;
            lawful = lawful a h.finds.ruled;
            still = lawful a h.finds.ruled;
            step = h.finds.step;
            gives = gives;
            turn = h.turn;
            view = h.view ∙ (λ j. saw m.0 h.turn (sym is j) (sym h.finds.step j) (at j) ((h.finds.word ∙ ap (word_at a) at) j));
            tells = subst (Tells call) (sym (ap (λ (v : View K). v.word) h.view)) tells;
          };
          owes = subst (λ (q : Pending). Owes t.nodes (fits t.keep t.number) m.0.node m.0.pending call q) (sym (ap (λ (v : View K). v.pending) h.view)) owes;
          standing = record { state = a; ruled = h.finds.ruled; below = below; step = h.finds.step ∙ sym (ap (λ (v : View K). v.pending) h.view) };
          of = ap (λ (v : View K). v.of) h.view;
          node = ap (λ (v : View K). v.node) h.view;
          joined = ap (λ (v : View K). v.joined) h.view;
          logs = ap (λ (v : View K). v.logs) h.view;
          hand = λ k. ap slots_in h.hand ∙ (k ∙ ap (λ (q : Pending). map slot_number (hand_of m.0.node q)) (sym (ap (λ (v : View K). v.pending) h.view)));
        }

  pub comes_mem : (h : IsSeen fits t (load_of 0) 0 m found n) → m.0.node < t.nodes → (x : Mem) → x ≡ h.finds.state.memory → mem_well_formed x ≡ true → mem_links_below t.nodes x ≡ true → Comes fits t m.0 (slots_in m.1) (MemWas (Some x)) n.0 (slots_in n.1)
  comes_mem h below x is form links =
      let same : MemWas (Some x) ≡ load_of 0 h.finds.state = ap (λ (y : Mem). MemWas (Some y)) is in
      unmoved 0 (load_of 0) h below (MemWas (Some x)) same refl
      (subst (λ (c : Call). Gives t.nodes (fits t.keep t.number) h.finds.state m.0.node c h.finds.state) (sym same) (load_gives t.nodes (fits t.keep t.number) h.finds.state m.0.node 0))
      (refl, (form, links)) (h.finds.word ∙ ap mem_code (sym is))

  pub comes_tag : (node : ℕ) → (h : IsSeen fits t (load_of (suc node)) (suc node) m found n) → m.0.node < t.nodes → (x : Tag) → x ≡ h.finds.state.tags node → tag_well_formed x ≡ true → tag_links_below t.nodes x ≡ true → Comes fits t m.0 (slots_in m.1) (TagWas node (Some x)) n.0 (slots_in n.1)
  comes_tag node h below x is form links =
      let same : TagWas node (Some x) ≡ load_of (suc node) h.finds.state = ap (λ (y : Tag). TagWas node (Some y)) is in
      unmoved (suc node) (load_of (suc node)) h below (TagWas node (Some x)) same refl
      (subst (λ (c : Call). Gives t.nodes (fits t.keep t.number) h.finds.state m.0.node c h.finds.state) (sym same) (load_gives t.nodes (fits t.keep t.number) h.finds.state m.0.node (suc node)))
      (refl, (form, links)) (h.finds.word ∙ ap tag_code (sym is))

  -- an exchange that was missed
  pub comes_missed : (e : Event) → (h : IsSeen fits t (λ s. Stepped e (Outcome.Missed found)) (place_of (row_of m.0.node m.0.pending e).change) m found n) → m.0.node < t.nodes → has_row t.nodes m.0.node m.0.pending e ≡ true → found ≢ before_of (row_of m.0.node m.0.pending e).change → Comes fits t m.0 (slots_in m.1) (Stepped e (Outcome.Missed found)) n.0 (slots_in n.1)
  comes_missed e h below turn other =
      let a : State = h.finds.state in let c : Change = (row_of m.0.node m.0.pending e).change in
      let look : is_look e ≡ false = is_exchange t.nodes m.0.node m.0.pending e turn in
      let gives : Gives t.nodes (fits t.keep t.number) a m.0.node (Stepped e (Outcome.Missed found)) a = missed_gives t.nodes (fits t.keep t.number) a h.finds.ruled m.0.node below m.0.pending e h.finds.step turn found h.finds.word other in
      unmoved (place_of c) (λ s. Stepped e (Outcome.Missed found)) h below (Stepped e (Outcome.Missed found)) refl (sym (place_there m.0.node m.0.pending e (Outcome.Missed found) look)) gives
      (subst (λ (q : Pending). Owes t.nodes (fits t.keep t.number) m.0.node q (Stepped e (Outcome.Missed found)) q) h.finds.step (
        allowed_row t.nodes m.0.node (a.steps m.0.node) e (subst (λ (q : Pending). has_row t.nodes m.0.node q e ≡ true) (sym h.finds.step) turn),
        takes_row t.nodes a m.0.node e (Outcome.Missed found) a ((lawful a h.finds.ruled).1.lawful.steps.own_word m.0.node) gives.0,
        answer_fits t.nodes (fits t.keep t.number) a m.0.node e (Outcome.Missed found) a gives,
      ))
      refl

  -- an exchange that was made
  module _ (e : Event) (h : IsHit fits t e (row_of m.0.node m.0.pending e) m found n) (below : m.0.node < t.nodes) (turn : has_row t.nodes m.0.node m.0.pending e ≡ true) (fit : FitsEvent (fits t.keep t.number) e) where
    goes : Goes t.nodes (fits t.keep t.number) h.finds.state m.0.node (row_of m.0.node m.0.pending e)
    goes = goes_as t.nodes (fits t.keep t.number) h.finds.state h.finds.ruled m.0.node m.0.pending e below h.finds.step turn h.there fit

    pub comes_done : (answer : Option Line) → answer ≡ (row_of m.0.node m.0.pending e).answer (taken_line h.finds.state (row_of m.0.node m.0.pending e).carry) → Comes fits t m.0 (slots_in m.1) (Stepped e (Outcome.Done answer)) n.0 (slots_in n.1)
    comes_done answer is =
        let a : State = h.finds.state in let x : ℕ = m.0.node in let r = row_of x m.0.pending e in let y : Line = taken_line a r.carry in let b : State = made a x r in
        let look : is_look e ≡ false = is_exchange t.nodes x m.0.pending e turn in let call : Call = Stepped e (Outcome.Done answer) in
        let gives : Gives t.nodes (fits t.keep t.number) a x call b = subst (λ (z : Option Line). Gives t.nodes (fits t.keep t.number) a x (Stepped e (Outcome.Done z)) b) (sym is) (done_gives t.nodes (fits t.keep t.number) a h.finds.ruled x below m.0.pending e h.finds.step turn h.there fit) in
        let after : b.steps x ≡ r.after y = update_here a.steps x (r.after y) in let p : place_of r.change ≡ place_of_call x m.0.pending call = sym (place_there x m.0.pending e (Outcome.Done answer) look) in
        let view : n.0 ≡ saw m.0 h.turn call (b.steps x) (place_of_call x m.0.pending call) (word_at a (place_of_call x m.0.pending call)) =
        h.view ∙ (λ i. saw m.0 h.turn (Stepped e (Outcome.Done (sym is i))) (sym after i) (p i) ((h.finds.word ∙ ap (word_at a) p) i)) in
        record {
          step = record { before = a; after = b; lawful = lawful a h.finds.ruled; still = lawful b goes.ruled; step = h.finds.step; gives = gives; turn = h.turn; view = view; tells = tt };
          owes = subst (λ (q : Pending × Pending). Owes t.nodes (fits t.keep t.number) x q.0 call q.1) (λ i. (h.finds.step i, sym (ap (λ (v : View K). v.pending) view) i)) (
            allowed_row t.nodes x (a.steps x) e (subst (λ (q : Pending). has_row t.nodes x q e ≡ true) (sym h.finds.step) turn),
            takes_row t.nodes a x e (Outcome.Done answer) b ((lawful a h.finds.ruled).1.lawful.steps.own_word x) gives.0,
            answer_fits t.nodes (fits t.keep t.number) a x e (Outcome.Done answer) b gives,
          );
          standing = record { state = b; ruled = goes.ruled; below = below; step = sym (ap (λ (v : View K). v.pending) view) };
          of = ap (λ (v : View K). v.of) view;
          node = ap (λ (v : View K). v.node) view;
          joined = ap (λ (v : View K). v.joined) view;
          logs = ap (λ (v : View K). v.logs) view;
          hand = λ k. ap slots_in h.hand ∙ (hand_then t.nodes x m.0.pending e y m.1 turn k ∙ ap (λ (q : Pending). map slot_number (hand_of x q)) (sym after ∙ sym (ap (λ (v : View K). v.pending) view)));
        }

  -- a look, noted as this call
  module _ (call : Tag → Call) (h : IsLooked fits t call m found n) (below : m.0.node < t.nodes) where
    looks : (w : Tag) → w ≡ h.finds.state.tags m.0.node → place_of_call m.0.node m.0.pending (call w) ≡ suc m.0.node → Gives t.nodes (fits t.keep t.number) h.finds.state m.0.node (call w) (looked h.finds.state m.0.node) → Owes t.nodes (fits t.keep t.number) m.0.node m.0.pending (call w) (look_of m.0.pending w) → Tells (call w) (tag_code w)
        → Comes fits t m.0 (slots_in m.1) (call w) n.0 (slots_in n.1)
    looks w is at gives owes tells =
        let a : State = h.finds.state in let x : ℕ = m.0.node in let b : State = looked a x in
        let after : b.steps x ≡ look_of m.0.pending (a.tags x) = update_here a.steps x (look_of (a.steps x) (a.tags x)) ∙ ap (λ (q : Pending). look_of q (a.tags x)) h.finds.step in
        let view : n.0 ≡ saw m.0 h.turn (call w) (b.steps x) (place_of_call x m.0.pending (call w)) (word_at a (place_of_call x m.0.pending (call w))) = h.view ∙ (λ i. saw m.0 h.turn (call (sym is i)) (sym after i) (sym at i) ((h.finds.word ∙ ap (word_at a) (sym at)) i)) in
        let next : n.0.pending ≡ look_of m.0.pending w = ap (λ (v : View K). v.pending) view ∙ (after ∙ ap (λ (y : Tag). look_of m.0.pending y) (sym is)) in
        let ruled : IsRuled t.nodes (fits t.keep t.number) b = ruled_looked t.nodes (fits t.keep t.number) a h.finds.ruled x below in
        record {
          step = record { before = a; after = b; lawful = lawful a h.finds.ruled; still = lawful b ruled; step = h.finds.step; gives = gives; turn = h.turn; view = view; tells = subst (Tells (call w)) (sym (ap (λ (v : View K). v.word) h.view ∙ (h.finds.word ∙ ap tag_code (sym is)))) tells };
          owes = subst (λ (q : Pending). Owes t.nodes (fits t.keep t.number) x m.0.pending (call w) q) (sym next) owes;
          standing = record { state = b; ruled = ruled; below = below; step = sym (ap (λ (v : View K). v.pending) view) };
          of = ap (λ (v : View K). v.of) view;
          node = ap (λ (v : View K). v.node) view;
          joined = ap (λ (v : View K). v.joined) view;
          logs = ap (λ (v : View K). v.logs) view;
          hand = λ k. ap slots_in h.hand ∙ (k ∙ ap (map slot_number) (sym (look_hand x m.0.pending w) ∙ ap (hand_of x) (sym next)));
        }

  pub comes_own : (call : Tag → Call) (h : IsLooked fits t call m found n) (below : m.0.node < t.nodes) (w : Tag) → (call w ≡ own_load w) ⊎ (call w ≡ look_step w) → w ≡ h.finds.state.tags m.0.node → tag_well_formed w ≡ true → tag_links_below t.nodes w ≡ true → Comes fits t m.0 (slots_in m.1) (call w) n.0 (slots_in n.1)
  comes_own call h below w one is form links =
      let a : State = h.finds.state in let x : ℕ = m.0.node in let own : IsOwnWord m.0.pending w = subst (λ (q : Pending × Tag). IsOwnWord q.0 q.1) (λ i. (h.finds.step i, sym is i)) ((lawful a h.finds.ruled).1.lawful.steps.own_word x) in
      let load : Gives t.nodes (fits t.keep t.number) a x (own_load w) (looked a x) = subst (λ (y : Tag). Gives t.nodes (fits t.keep t.number) a x (own_load y) (looked a x)) (sym is) (own_gives t.nodes (fits t.keep t.number) a h.finds.ruled x below) in
      ⊎_elim
      (λ (e : call w ≡ own_load w).
      let P : Call → Type 0 = λ c. (place_of_call x m.0.pending c ≡ suc x) × Gives t.nodes (fits t.keep t.number) a x c (looked a x) × Owes t.nodes (fits t.keep t.number) x m.0.pending c (look_of m.0.pending w) × Tells c (tag_code w) in
      let k : P (call w) = subst P (sym e) (refl, load, (refl, (own, (form, links))), refl) in looks call h below w is k.0 k.1 k.2 k.3)
      (λ (e : call w ≡ look_step w).
      let P : Call → Type 0 = λ c. (place_of_call x m.0.pending c ≡ suc x) × Gives t.nodes (fits t.keep t.number) a x c (looked a x) × Owes t.nodes (fits t.keep t.number) x m.0.pending c (look_of m.0.pending w) × Tells c (tag_code w) in
      let k : P (call w) = subst P (sym e) (refl, load.1, (refl, record { word = w; own = own; answers = refl; after = refl }, tt), tt) in looks call h below w is k.0 k.1 k.2 k.3)
      one
