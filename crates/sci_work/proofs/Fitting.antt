-- What a line holds once it is closed is its value, and fits what is known of it.
use Rattle.std.proofs.Common.{◌≡◌, ◌≢◌, ⊎_elim, ℕ, ◌<◌, true, Option, Some, None, List, [], ◌∷◌, length, get_or, refl, sym, ap, subst, ◌∙◌}
use Rattle.std.proofs.lemmas.List.{length-map}
use Rattle.sci_words.specs.declared.memory.MemState.{MemState}
use Rattle.sci_words.specs.declared.tags.Kind.{Kind}
use Rattle.sci_words.specs.declared.tags.Tag.{Tag}
use Rattle.sci_core.specs.declared.keeps.Keeps as keeps
use Rattle.sci_core.specs.declared.lines.Line.{Line}
use Rattle.sci_core.specs.declared.pending.Pending.{Pending}
use Rattle.sci_core.specs.declared.receipts.Receipt.{Receipt}
use Rattle.sci_core.specs.Chain.{IsPath, forward}
use Rattle.sci_core.specs.Closed.{ClosedLine, IsExactClosed, value_by, value_of}
use Rattle.sci_core.specs.Law.{is_valid}
use Rattle.sci_core.specs.Run.{HasValue}
use Rattle.sci_core.specs.State.{State, blank, invalid}
use Rattle.sci_port.specs.declared.calls.Call.{Call}
use Rattle.sci_port.specs.ReceiptList.{AreReceiptsOf, ReceiptList}
use Rattle.sci_port.specs.Receipts.{IsWhole}
use Rattle.sci_port.specs.Runs.{done_by}
use Rattle.sci_port.proofs.Seated.{at_place, read_at}
use Rattle.sci_fine.specs.declared.line.FineLine.{FineLine}
use Rattle.sci_fine.specs.declared.seats.Seat.{Seat}
use Rattle.sci_fine.specs.Ends.{IsEnd, IsReadOff}
use Rattle.sci_fine.specs.Kept.{HasKeptAll, IsFinished, list_at}
use Rattle.sci_fine.proofs.Elements.{each_all}
use Rattle.sci_work.specs.declared.recording.Recording.{Recording}
use Rattle.sci_work.specs.Ended.{IsClosedOf, IsHistoryOn}
use Rattle.sci_work.specs.Hands.{AreIdle}
use Rattle.sci_work.proofs.Seated.{head_inside, or_at}

nobody : (forw : ℕ → Option ℕ) (from : Option ℕ) (nodes : List ℕ) → from ≡ None → IsPath from forw nodes → nodes ≡ []
nobody forw from [] is path = refl
nobody forw from (x ∷ xs) is path = absurd (let e = path.0 in cc)

home_not_gone : (m : MemState) → m ≡ MemState.Home → m ≢ MemState.Gone
home_not_gone m home gone = cc

one_line : (o : Option Line) (a b : Line) → o ≡ Some a → o ≡ Some b → a ≡ b
one_line o a b ea eb = cc

some_not_none : (o : Option Line) (a : Line) → o ≡ Some a → o ≡ None → ⊥
some_not_none o a ea en = cc

fresh_valid : (k : Kind) → k ≡ Kind.Fresh → is_valid k ≡ true
fresh_valid k is = ap is_valid is

dirty_valid : (k : Kind) → k ≡ Kind.Dirty → is_valid k ≡ true
dirty_valid k is = ap is_valid is

module _ (n : ℕ) (fits : List ℕ → Type 0) (s : State) (v : Line) (c : ClosedLine) (valued : HasValue n fits s v) (read : IsReadOff n s c) (exact : IsExactClosed c) where
  value_is : (o : Option ℕ) → c.mem.forw ≡ o → value_by o c.memory c.lines ≡ v
  value_is None is =
      let chain = valued.lawful.chain in
      let none = nobody (forward s) s.memory.forw valued.chain (ap (λ m. m.forw) (sym read.mem) ∙ is) chain.path in
      let copy = valued.lawful.copies.value.memory (home_not_gone s.memory.state (chain.empty.1 none)) in
      ⊎_elim (λ here. one_line s.memory_slot c.memory v (sym read.memory) here) (λ out. absurd (some_not_none s.memory_slot c.memory (sym read.memory) out.0)) copy
  value_is (Some head) is =
      let inside = head_inside c head exact is in
      let low : head < n = subst (λ (z : ℕ). head < z) read.tag_count inside in
      let tag : get_or c.tags head invalid ≡ s.tags head = or_at c.tags head (s.tags head) invalid (read.tags head low) in
      let kind = ap (λ (t : Tag). t.kind) (sym tag) in
      let valid : is_valid (s.tags head).kind ≡ true = ⊎_elim (λ e. fresh_valid (s.tags head).kind (kind ∙ e)) (λ e. dirty_valid (s.tags head).kind (kind ∙ e)) (exact.1.linked.first head is) in
      let y = read.lines head low in
      or_at c.lines head y.0 blank y.1
      ∙ ⊎_elim (λ here. one_line (s.slots head) y.0 v y.2 here) (λ out. absurd (some_not_none (s.slots head) y.0 y.2 out.0)) (valued.lawful.copies.sharer head valid)

  pub fit_is : fits (value_of c).words
  fit_is = subst (λ (x : Line). fits x.words) (sym (value_is c.mem.forw refl)) valued.lawful.copies.fit

-- what `finish` gives of a line
pub closed_of : {K : Type 0} (fits : K → ℕ → List ℕ → Type 0) (l : FineLine K) (logs : List (List (ℕ × Call))) (c : ClosedLine) → IsEnd fits l.terms logs c → IsClosedOf fits l c
closed_of fits l logs c e = record { exact = e.exact; nodes = e.read.tag_count; fit = fit_is l.terms.nodes (fits l.terms.keep l.terms.number) e.state e.value c e.valued e.read e.exact }

-- and of the receipts of its seats, each Idle and with all kept: they are of the one run that it gives, each node's of its own calls in it
module _ {K : Type 0} {g : keeps.Ghosts K} (fits : K → ℕ → List ℕ → Type 0) (l : FineLine K) (seats : List (Seat K g)) (c : ClosedLine) (lists : List (List Receipt)) (count : length seats ≡ l.terms.nodes) (idle : AreIdle Recording.All l seats) (f : IsFinished fits l.terms seats c lists) where
  own_of : (j : ℕ) → j < l.terms.nodes → (r : ReceiptList) × (r.list ≡ list_at lists j) × AreReceiptsOf (done_by j f.end.ran.run) Pending.Idle r
  own_of j low =
      let at = at_place seats j (subst (λ (n : ℕ). j < n) (sym count) low) in let s : Seat K g = at.0 in let i = idle j s at.1 in
      let log = f.end.ran.each j ∙ read_at (λ (x : Seat K g). x.token.me.0.log) seats j s [] at.1 in (
        s.receipts,
        sym (read_at (λ (x : Seat K g). x.receipts.list) seats j s [] at.1) ∙ ap (λ (z : List (List Receipt)). list_at z j) (sym f.own),
        subst (λ (z : List (ℕ × Call) × Pending). AreReceiptsOf z.0 z.1 s.receipts) (λ n. (sym log n, i.1 n)) (i.2 refl),
      )

  pub history_of : IsHistoryOn fits l c lists
  history_of =
      let e = f.end in
      record {
        count = ap (λ (z : List (List Receipt)). length z) f.own ∙ length-map seats (λ (s : Seat K g). s.receipts.list) ∙ count;
        whole = subst (λ (v : Line). IsWhole l.terms.nodes l.terms.opening v (λ j. list_at lists j)) (sym (value_is l.terms.nodes (fits l.terms.keep l.terms.number) e.state e.value c e.valued e.read e.exact c.mem.forw refl))
            (f.whole (each_all (λ (s : Seat K g). HasKeptAll s) seats (λ k s at. (idle k s at).2 refl)));
        run = record { run = e.ran.run; state = e.state; led = e.ran.led; idle = e.idle; read = e.read; own = own_of };
      }
