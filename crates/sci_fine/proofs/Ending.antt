-- A table that was closed with the first seat, to which all others were joined, is at rest; and what is read off it.
use Rattle.std.proofs.Common.{◌≡◌, ℕ, zero, suc, ◌+◌, ◌<◌, ◌≤◌, ◌-◌, Bool, true, false, Some, Option, All, List, [], ◌∷◌, ◌++◌, length, get_or, set, refl, sym, ap, ◌∙◌, subst, arith, length-append, get_or-set_other, get_or-set_same}
use mathlib.Core.Logic.{dite}
use mathlib.Core.Path.{fun_ext}
use mathlib.Core.Option.{some, some-injective, some-ne-none}
use native.Mathlib.Decide.{ℕ_discrete, dec_le}
use lib.ListN.{get_elem?}
use Rattle.atomic_table.specs.Table.{Final, Seen}
use Rattle.atomic_table.proofs.Lists.{at_longer, at_last}
use Rattle.sci_words.specs.Codes.{tag_code, mem_code}
use Rattle.sci_words.specs.Mem.{mem_well_formed, mem_links_below}
use Rattle.sci_words.specs.Tag.{tag_well_formed, tag_links_below}
use Rattle.sci_words.specs.declared.memory.Mem.{Mem}
use Rattle.sci_words.specs.declared.tags.Tag.{Tag}
use Rattle.sci_words.specs.declared.layouts.Layout.TheVariants.{Two}
use Rattle.sci_words.proofs.Codes.{one_tag, one_mem}
use Rattle.sci_core.specs.declared.lines.Line.{Line}
use Rattle.sci_core.specs.declared.pending.Pending.{Pending}
use Rattle.sci_core.specs.Closed.{IsClosed}
use Rattle.sci_core.specs.Exact.{IsExact}
use Rattle.sci_core.specs.Law.{has_slot}
use Rattle.sci_core.specs.Shape.{phase_of}
use Rattle.sci_core.specs.State.{State, opened, invalid, blank}
use Rattle.sci_core.specs.Step.{line_in}
use Rattle.sci_core.specs.Whole.{IsRuled}
use Rattle.sci_core.proofs.Going.Facts.{slot_home, memory_home}
use Rattle.sci_core.proofs.Lawfully.{ruled_value}
use Rattle.sci_port.specs.History.{value_of}
use Rattle.sci_port.proofs.Histories.{history}
use Rattle.sci_fine.proofs.Seating.{opened_ruled}
use Rattle.sci_port.specs.declared.calls.Call.{Call}
use Rattle.sci_port.specs.Runs.{done_by}
use Rattle.sci_core.proofs.Ruled.{ruled_path, ruled_exact}
use Rattle.sci_fine.specs.declared.views.Terms.{Terms}
use Rattle.sci_fine.specs.declared.views.View.{View}
use Rattle.sci_fine.specs.Ends.{IsAtRest, HasRead, IsEnd}
use Rattle.sci_fine.specs.Rule.{lies_at, word_at, slot_in, home_of, Stands}
use Rattle.sci_fine.proofs.Coming.{mem_reads, tag_reads}

index_at : (l : List ℕ) (i : ℕ) → i < length l → get_elem? l i ≡ some (get_or l i 0)
index_at [] i h = absurd (omega arith)
index_at (x ∷ xs) zero h = refl
index_at (x ∷ xs) (suc i) h = index_at xs i (omega arith)

pub get_at : {A : Type 0} (l : List A) (i : ℕ) (a d : A) → get_elem? l i ≡ some a → get_or l i d ≡ a
get_at [] i a d e = absurd (some-ne-none a (sym e))
get_at (x ∷ xs) zero a d e = some-injective x a e
get_at (x ∷ xs) (suc i) a d e = get_at xs i a d e

get_far : {A : Type 0} (l : List A) (i : ℕ) (d : A) → length l ≤ i → get_or l i d ≡ d
get_far [] i d h = refl
get_far (x ∷ xs) zero d h = absurd (omega arith)
get_far (x ∷ xs) (suc i) d h = get_far xs i d (omega arith)

module _ (n : ℕ) (fits : List ℕ → Type 0) (s : State) (r : IsRuled n fits s) (idle : (i : ℕ) → s.steps i ≡ Pending.Idle) where
  exact_there : IsExact n s.memory (line_in s.memory_slot) s.tags (λ i. line_in (s.slots i)) (ruled_path n fits s r).0
  exact_there = ruled_exact n fits s r (ruled_path n fits s r).0 (ruled_path n fits s r).1 idle

  -- every slot is at home
  pub all_home : (i : ℕ) → i < suc n → (y : Line) × (slot_in s i ≡ Some y)
  all_home zero near = (line_in s.memory_slot, memory_home s r.witness r.law exact_there.settled.not_lent)
  all_home (suc x) near = (line_in (s.slots x), slot_home s r.witness r.law x (ap (λ (p : Pending). has_slot (phase_of p)) (idle x)) (exact_there.settled.not_held x (omega arith)))

module _ {K : Type 0} (fits : K → ℕ → List ℕ → Type 0) (t : Terms K) where
  left : (id : ℕ) (v : View K) (ws : List ℕ) (xs : List Line) → v.of ≡ Some t → v.node ≡ 0 → v.joined ≡ 1 → v.pending ≡ Pending.Idle → length (v.log ∷ v.logs) ≡ t.nodes → Final (Seen (Stands fits t) id v) ws xs → IsAtRest fits t (v.log ∷ v.logs) ws xs
  left id v ws xs live first joined pending count (s, h, words, as_long, homes) =
      let st = h.0 in let k = st.seated id v h.1 in let few : length s.views ≤ t.nodes = st.few in let a : State = st.state in
      let is : v.node ≡ id = (k.seat t live).1 in
      let idle : (i : ℕ) → a.steps i ≡ Pending.Idle = λ i. dite (ℕ_discrete i id)
      (λ e. ap a.steps e ∙ (sym k.step ∙ pending))
      (λ ne. dite (dec_le t.nodes i)
      (λ far. (st.unseated i (omega arith)).0)
      (λ near. let u = (k.joins t live i (omega arith) (omega arith)).0 in sym (st.seated i u.view u.at).step ∙ u.pending)) in
      let logs : (i : ℕ) → done_by i st.run ≡ get_or (v.log ∷ v.logs) i [] = λ i. dite (ℕ_discrete i id)
      (λ e. sym (get_at (v.log ∷ v.logs) i (done_by i st.run) [] (let z : i ≡ 0 = omega arith in ap (get_elem? (v.log ∷ v.logs)) z ∙ ap (λ (l : List (ℕ × Call)). some l) (k.log t live ∙ ap (λ (z : ℕ). done_by z st.run) (sym e)))))
      (λ ne. dite (dec_le t.nodes i)
      (λ far. (st.unseated i (omega arith)).1 ∙ sym (get_far (v.log ∷ v.logs) i [] (omega arith)))
      (λ near. sym (get_at (v.log ∷ v.logs) i (done_by i st.run) [] (let z : i ≡ suc (i - v.joined) = omega arith in ap (get_elem? (v.log ∷ v.logs)) z ∙ (k.joins t live i (omega arith) (omega arith)).1)))) in
      record {
        state = a;
        fit = st.fit;
        ran = record { run = st.run; led = st.led; each = logs };
        ruled = st.ruled;
        idle = idle;
        beyond = st.beyond;
        words = λ i near. subst (λ (l : List ℕ). get_elem? l (lies_at i) ≡ some (word_at a i)) words (index_at s.words (lies_at i) (let w = st.wide in omega arith) ∙ ap (λ (z : ℕ). some z) (st.words i near));
        lines = λ i near. let y = all_home t.nodes (fits t.keep t.number) a st.ruled idle i near in (y.0, y.1, homes i y.0 (st.homes i near ∙ ap (λ (o : Option Line). some (home_of o)) y.1));
      }

pub left_as : {K : Type 0} (fits : K → ℕ → List ℕ → Type 0) (t key : Terms K) (id : ℕ) (v : View K) (ws : List ℕ) (xs : List Line) → key ≡ t → v.of ≡ Some t → v.node ≡ 0 → v.joined ≡ 1 → v.pending ≡ Pending.Idle → length (v.log ∷ v.logs) ≡ t.nodes → Final (Seen (Stands fits key) id v) ws xs → IsAtRest fits t (v.log ∷ v.logs) ws xs
left_as {K} fits t key id v ws xs is live first joined idle count f = left fits t id v ws xs live first joined idle count (subst (λ (k : Terms K). Final (Seen (Stands fits k) id v) ws xs) is f)

-- one more was read
pub reads_on : (ws : List ℕ) (xs : List Line) (i : ℕ) (tags : List Tag) (lines : List Line) (w : Tag) (l : Line) → HasRead ws xs i tags lines → tag_well_formed w ≡ true → tag_links_below 65535 w ≡ true → get_elem? ws (lies_at (suc i)) ≡ some (tag_code w) → get_elem? xs (suc i) ≡ some l
    → HasRead ws xs (i + 1) (tags ++ w ∷ []) (lines ++ l ∷ [])
reads_on ws xs i tags lines w l old form links word line =
    let count = old.tag_count in let count' = old.line_count in
    let more : length (tags ++ w ∷ []) ≡ length tags + 1 = length-append tags (w ∷ []) in let more' : length (lines ++ l ∷ []) ≡ length lines + 1 = length-append lines (l ∷ []) in
    record {
      tag_count = omega arith;
      line_count = omega arith;
      tag = λ x near. dite (ℕ_discrete x i)
          (λ e. (w, subst (λ (z : ℕ). get_elem? (tags ++ w ∷ []) z ≡ some w) (sym e) (at_last tags w i count), form, links, ap (λ (z : ℕ). get_elem? ws (lies_at (suc z))) e ∙ word))
          (λ ne. let o = old.tag x (omega arith) in (o.0, at_longer tags (w ∷ []) x o.0 o.1, o.2, o.3, o.4));
      line = λ x near. dite (ℕ_discrete x i)
          (λ e. ap (λ (z : ℕ). get_elem? xs (suc z)) e ∙ (line ∙ sym (ap (get_elem? (lines ++ l ∷ [])) e ∙ at_last lines l i count')))
          (λ ne. old.line x (omega arith) ∙ sym (kept lines l x (omega arith)));
    }
  where
    kept : (ls : List Line) (l : Line) (x : ℕ) → x < length ls → get_elem? (ls ++ l ∷ []) x ≡ get_elem? ls x
    kept [] l x h = absurd (omega arith)
    kept (y ∷ ys) l zero h = refl
    kept (y ∷ ys) l (suc x) h = kept ys l x (omega arith)

all_of : (P : Tag → Type 0) (l : List Tag) → ((x : ℕ) → x < length l → (w : Tag) × (get_elem? l x ≡ some w) × P w) → All P l
all_of P l h = λ k d near. let w = h k near in subst P (sym (get_at l k w.0 d w.1)) w.2

module _ {K : Type 0} (fits : K → ℕ → List ℕ → Type 0) (t : Terms K) (small : t.nodes ≤ 65535) (logs : List (List (ℕ × Call))) (ws : List ℕ) (xs : List Line) (rest : IsAtRest fits t logs ws xs) where
  pub mem_stands : (m : Mem) (found : ℕ) → get_elem? ws 0 ≡ some found → mem_links_below 65535 m ≡ true → mem_code m ≡ found → m ≡ rest.state.memory
  mem_stands m found at links code =
      let k = mem_reads t.nodes (fits t.keep t.number) rest.state rest.ruled small in
      one_mem Two m rest.state.memory links k.1 (code ∙ some-injective found (mem_code rest.state.memory) (sym at ∙ rest.words 0 (omega arith)))

  pub mem_found : (found : ℕ) → get_elem? ws 0 ≡ some found → (mem_well_formed rest.state.memory ≡ true) × (mem_links_below 65535 rest.state.memory ≡ true) × (mem_code rest.state.memory ≡ found)
  mem_found found at = let k = mem_reads t.nodes (fits t.keep t.number) rest.state rest.ruled small in (k.0, k.1, some-injective (mem_code rest.state.memory) found (sym (rest.words 0 (omega arith)) ∙ at))

  pub tag_found : (x found : ℕ) → x < t.nodes → get_elem? ws (lies_at (suc x)) ≡ some found → (tag_well_formed (rest.state.tags x) ≡ true) × (tag_links_below 65535 (rest.state.tags x) ≡ true) × (tag_code (rest.state.tags x) ≡ found)
  tag_found x found near at = let k = tag_reads t.nodes (fits t.keep t.number) rest.state rest.ruled small x in (k.0, k.1, some-injective (tag_code (rest.state.tags x)) found (sym (rest.words (suc x) (omega arith)) ∙ at))

  module _ (m : Mem) (l : Line) (tags : List Tag) (lines : List Line) (mem_is : m ≡ rest.state.memory) (memory_is : get_elem? xs 0 ≡ some l) (read : HasRead ws xs t.nodes tags lines) where
    a : State
    a = rest.state

    tag_at : (x : ℕ) → x < t.nodes → get_elem? tags x ≡ some (rest.state.tags x)
    tag_at x near =
        let o = read.tag x near in let k = tag_reads t.nodes (fits t.keep t.number) rest.state rest.ruled small x in
        o.1 ∙ ap (λ (w : Tag). some w) (one_tag Two o.0 (rest.state.tags x) o.3 k.1 (some-injective (tag_code o.0) (tag_code (rest.state.tags x)) (sym o.4 ∙ rest.words (suc x) (omega arith))))

    line_at : (x : ℕ) → x < t.nodes → (y : Line) × (get_elem? lines x ≡ some y) × (rest.state.slots x ≡ Some y)
    line_at x near = let o = rest.lines (suc x) (omega arith) in (o.0, sym (read.line x near) ∙ o.2, o.1)

    memory_at : Some l ≡ rest.state.memory_slot
    memory_at = let o = rest.lines 0 (omega arith) in ap (λ (y : Line). Some y) (some-injective l o.0 (sym memory_is ∙ o.2)) ∙ sym o.1

    tags_are : ◌≡◌ {A = ℕ → Tag} rest.state.tags (λ i. get_or tags i invalid)
    tags_are = fun_ext (λ i. dite (dec_le t.nodes i)
        (λ far. (rest.beyond i far).0 ∙ sym (get_far tags i invalid (let c = read.tag_count in omega arith)))
        (λ near. sym (get_at tags i (rest.state.tags i) invalid (tag_at i (omega arith)))))

    lines_are : ◌≡◌ {A = ℕ → Line} (λ i. line_in (rest.state.slots i)) (λ i. get_or lines i blank)
    lines_are = fun_ext (λ i. dite (dec_le t.nodes i)
        (λ far. ap line_in (rest.beyond i far).1 ∙ sym (get_far lines i blank (let c = read.line_count in omega arith)))
        (λ near. let y = line_at i (omega arith) in ap line_in y.2 ∙ sym (get_at lines i y.0 blank y.1)))

    pub closed_well : IsClosed record { mem = m; memory = l; tags = tags; lines = lines }
    closed_well = record {
      lines = read.line_count ∙ sym read.tag_count;
      mem = subst (λ (z : Mem). mem_well_formed z ≡ true) (sym mem_is) rest.ruled.words.memory;
      tags = all_of (λ (w : Tag). tag_well_formed w ≡ true) tags (λ x near. (rest.state.tags x, tag_at x (let c = read.tag_count in omega arith), rest.ruled.words.tags x));
    }

    pub ends : IsEnd fits t logs record { mem = m; memory = l; tags = tags; lines = lines }
    ends =
        let opening = ruled_value t.nodes (fits t.keep t.number) (opened t.nodes t.opening) (opened_ruled t.nodes (fits t.keep t.number) t.opening rest.fit) in
        let told = history t.nodes (fits t.keep t.number) (opened t.nodes t.opening) t.opening rest.ran.run rest.state opening rest.ran.led in
        let nodes = (ruled_path t.nodes (fits t.keep t.number) rest.state rest.ruled).0 in
        let there : IsExact t.nodes rest.state.memory (line_in rest.state.memory_slot) rest.state.tags (λ i. line_in (rest.state.slots i)) nodes = exact_there t.nodes (fits t.keep t.number) rest.state rest.ruled rest.idle in
        record {
          state = rest.state;
          fit = rest.fit;
          value = value_of t.opening rest.ran.run;
          valued = told.0;
          ran = rest.ran;
          history = told.1;
          idle = rest.idle;
          read = record { mem = mem_is; memory = memory_at; tag_count = read.tag_count; line_count = read.line_count; tags = tag_at; lines = line_at };
          exact = (
            nodes,
            subst (λ (z : ℕ × Mem × Line × (ℕ → Tag) × (ℕ → Line)). IsExact z.0 z.1 z.2 z.3 z.4 nodes)
                (λ i. (sym read.tag_count i, sym mem_is i, ap line_in (sym memory_at) i, tags_are i, lines_are i)) there,
          );
        }

module _ (filled more : List Bool) (i : ℕ) (is : more ≡ set filled i false) where
  pub taken_on : i < length filled → ((k : ℕ) → k < i → get_or filled k false ≡ false) → (k : ℕ) → k < i + 1 → get_or more k false ≡ false
  taken_on near old k below = ap (λ (z : List Bool). get_or z k false) is ∙ dite (ℕ_discrete k i)
      (λ e. subst (λ (z : ℕ). get_or (set filled i false) z false ≡ false) (sym e) (get_or-set_same filled i false false near))
      (λ ne. get_or-set_other filled i k false false ne ∙ old k (omega arith))

  pub left_on : (n : ℕ) → ((k : ℕ) → i ≤ k → k < n → get_or filled k false ≡ true) → (k : ℕ) → i + 1 ≤ k → k < n → get_or more k false ≡ true
  left_on n old k above below = ap (λ (z : List Bool). get_or z k false) is ∙ (get_or-set_other filled i k false false (λ e. absurd (omega arith)) ∙ old k (omega arith) below)
