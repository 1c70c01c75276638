-- A node's hand, as the seats of its bank before the node works and after.
use Rattle.std.proofs.Common.{◌≡◌, ℕ, zero, suc, List, [], ◌∷◌, ◌++◌, length, map, get_or, refl, sym, ap, subst, ◌∙◌, arith}
use Rattle.std.proofs.lemmas.List.{length-map}
use Rattle.std.specs.Global.{Vec}
use mathlib.Core.Option.{some, some-injective, some-ne-none}
use lib.ListN.{get_elem?}
use Rattle.sci_core.specs.declared.keeps.Keeps as keeps
use Rattle.sci_core.specs.declared.pending.Pending.{Pending}
use Rattle.sci_core.specs.declared.receipts.Receipt.{Receipt}
use Rattle.sci_port.specs.KeepsAll.{writes_in}
use Rattle.sci_port.specs.Readying.{no_receipts, receipts_at}
use Rattle.sci_port.specs.ReceiptList.{ReceiptList}
use Rattle.sci_port.specs.SeatBanks.{receipts_of}
use Rattle.sci_port.proofs.Seated.{at_place, read_at}
use Rattle.sci_fine.specs.declared.line.FineLine.{FineLine}
use Rattle.sci_fine.specs.declared.seats.Seat.{Seat}
use Rattle.sci_fine.specs.Banks.{AreLines, AreSeatsAt, IsLine, seating_of}
use Rattle.sci_fine.specs.Kept.{lists_of}
use Rattle.sci_fine.specs.Seats.{AreNew}
use Rattle.sci_fine.proofs.KeptBank.{AllKept}
use Rattle.sci_work.specs.declared.recording.Recording.{Recording}
use Rattle.sci_work.specs.declared.programs.Program.{Program}
use Rattle.sci_work.specs.Adding.{AreAdds}
use Rattle.sci_work.specs.Hands.{AtEach, HasWrittenNothing, HoldEach, IsHandOf}
use Rattle.sci_work.specs.Programs.{HasWritten, Suits}
use Rattle.sci_work.specs.Ring.{ring_writes}
use Rattle.sci_work.specs.Starts.{HasWrittenAll}
use Rattle.sci_work.specs.Stencil.{stencil_writes}
use Rattle.sci_work.specs.Written.{AddsAlone, AreWrittenAs, HasWrote, words_in, words_of, words_on}
use Rattle.sci_work.proofs.Closing.{read_from}
use Rattle.sci_work.proofs.Dealing.{hand_at, seat_at}
use Rattle.sci_work.proofs.Seated.{all_idle, fact_is, hand_again, node_is}

module _ {K : Type 0} {g : keeps.Ghosts K} where
  abbrev pub steps_of : List (Seat K g) → List Pending
  steps_of seats = map (λ (s : Seat K g). s.standing.pending) seats

  abbrev pub receipts_on : List (Seat K g) → ℕ → ReceiptList
  receipts_on seats line = receipts_at (receipts_of (λ (s : Seat K g). seating_of s) seats) line

  -- a bank at these lines, by a hand at them, is Idle on every line
  pub idle_before : {recording : Recording} (lines : List (FineLine K)) (number : ℕ) → AreLines lines → (hand seats : List (Seat K g)) → seats ≡ hand → IsHandOf recording lines number hand → (line : ℕ) → get_or (steps_of seats) line Pending.Idle ≡ Pending.Idle
  idle_before lines number are hand seats is h line = subst (λ (z : List (Seat K g)). get_or (steps_of z) line Pending.Idle ≡ Pending.Idle) (sym is) (all_idle lines number are hand h line)

  -- and its seats are a hand again where it is Idle on every line after, and they have kept all, if that is kept
  pub hand_after : {recording : Recording} (lines ls : List (FineLine K)) (number node : ℕ) (keep : K) (seats back : List (Seat K g)) → ls ≡ lines → node ≡ number → back ≡ seats → AreSeatsAt keep node ls seats → ((line : ℕ) → get_or (steps_of seats) line Pending.Idle ≡ Pending.Idle) → (recording ≡ Recording.All → AllKept seats) → IsHandOf recording lines number back
  hand_after {recording = recording} lines ls number node keep seats back same mine is of idle kept =
      subst (λ (z : List (Seat K g)). IsHandOf recording lines number z) (sym is)
      (subst (λ (z : List (FineLine K)). IsHandOf recording z number seats) same
      (subst (λ (n : ℕ). IsHandOf recording ls n seats) mine (hand_again ls node keep seats of idle kept)))

  none_on : (seats : List (Seat K g)) → HasWrittenNothing seats → (line : ℕ) → writes_in (receipts_on seats line).list ≡ []
  none_on [] all line = refl
  none_on (x ∷ xs) all zero = all 0 x refl
  none_on (x ∷ xs) all (suc line) = none_on xs (λ k s at. all (suc k) s at) line

  on_line : (seats : List (Seat K g)) (line : ℕ) (s : Seat K g) → get_elem? seats line ≡ some s → receipts_on seats line ≡ s.receipts
  on_line seats line s at = read_at (λ (x : Seat K g). x.receipts) seats line s no_receipts at

  -- a node that began with no writes has ended with those of its part
  written_alone : (ws : List (ℕ × List ℕ)) (before after : List (Seat K g)) → HasWrittenNothing before → HasWrote ws (receipts_on before) (receipts_on after) → (line : ℕ) (s : Seat K g) → get_elem? after line ≡ some s → words_in s.receipts.list ≡ words_on line ws
  written_alone ws before after begins wrote line s at =
      ap (λ (l : ReceiptList). words_in l.list) (sym (on_line after line s at)) ∙ wrote.on line ∙ ap (λ (l : List Receipt). map words_of l ++ words_on line ws) (none_on before begins line)

  pub ends_so : (program : Program) (number : ℕ) (before after : List (Seat K g)) → HasWrittenNothing before → HasWritten program number (receipts_on before) (receipts_on after) → HasWrittenAll program number after
  ends_so (Program.Count adds) number before after begins written = λ line s at first.
      let more : writes_in (receipts_on after 0).list ≡ written.more = written.behind ∙ ap (λ (l : List Receipt). l ++ written.more) (none_on before begins 0) in
      let here : writes_in s.receipts.list ≡ written.more = ap (λ (l : ReceiptList). writes_in l.list) (sym (on_line after 0 s (subst (λ (k : ℕ). get_elem? after k ≡ some s) first at))) ∙ more in
      subst (AreAdds adds) (sym here) written.are
  ends_so (Program.Ring source lines) number before after begins written = written_alone (ring_writes source.now lines number) before after begins written
  ends_so (Program.Stencil work) number before after begins written = written_alone (stencil_writes work.cells.now work.phases work.nodes work.tiles number) before after begins written

  -- hands of new seats have written nothing
  pub none_written : (seats : List (Seat K g)) → AreNew seats → (hands : List (Vec (Seat K g))) → HoldEach hands seats → AtEach (λ k hand. HasWrittenNothing hand.items) hands
  none_written seats new hands hold k hand at =
      let x = seat_at hands seats hold k hand at in
      subst HasWrittenNothing (sym x.2) (alone x.0 (ap (λ (l : ReceiptList). writes_in l.list) (new k x.0 x.1).1))
    where
      alone : (s : Seat K g) → writes_in s.receipts.list ≡ [] → HasWrittenNothing (s ∷ [])
      alone s none zero t at = ap (λ (z : Seat K g). writes_in z.receipts.list) (sym (some-injective s t at)) ∙ none
      alone s none (suc k) t at = absurd (some-ne-none t (sym at))

  -- and of hands that have counted so has each seat
  pub all_counted : (adds : ℕ) (hands : List (Vec (Seat K g))) (seats : List (Seat K g)) → HoldEach hands seats → AtEach (λ k hand. HasWrittenAll (Program.Count adds) k hand.items) hands → AtEach (λ k s. AreAdds adds (writes_in s.receipts.list)) seats
  all_counted adds hands seats hold end k s at = let h = hand_at hands seats hold k s at in end k h.0 h.1 0 s (ap (λ (l : List (Seat K g)). get_elem? l 0) h.2) refl

  -- which is the one line's own
  pub counted_alone : (adds : ℕ) (seats : List (Seat K g)) (lists : List (List Receipt)) → lists ≡ lists_of seats → AtEach (λ k s. AreAdds adds (writes_in s.receipts.list)) seats → AreWrittenAs (AddsAlone adds) (lists ∷ [])
  counted_alone adds seats lists own all zero ls at node list here =
      let v = read_from (λ (s : Seat K g). s.receipts.list) seats node list (subst (λ (z : List (List Receipt)). get_elem? z node ≡ some list) (sym (some-injective lists ls at) ∙ own) here) in
      subst (λ (l : List Receipt). AreAdds adds (writes_in l)) v.2 (all node v.0 v.1)
  counted_alone adds seats lists own all (suc k) ls at node list here = absurd (some-ne-none ls (sym at))

  -- a bank at these lines, by a hand at them
  module _ (lines : List (FineLine K)) (number : ℕ) (are : AreLines lines) (hand : List (Seat K g)) {recording : Recording} (h : IsHandOf recording lines number hand)
      (ls : List (FineLine K)) (seats : List (Seat K g)) (same : ls ≡ lines) (is : seats ≡ hand) (keep : K) (node : ℕ) (of : AreSeatsAt keep node ls seats) where
    at_these : AreSeatsAt keep node lines hand
    at_these = subst (λ (z : List (Seat K g)). AreSeatsAt keep node lines z) is (subst (λ (z : List (FineLine K)). AreSeatsAt keep node z seats) same of)

    -- is that node's
    pub bank_node : node ≡ number
    bank_node = node_is lines number are keep node hand at_these h

    -- and what suits the first line's fact suits the bank's
    pub suits_bank : (fits : K → ℕ → List ℕ → Type 0) (program : Program) → ((l : FineLine K) → get_elem? lines 0 ≡ some l → Suits program (fits l.terms.keep) (length lines) number)
        → Suits program (fits keep) (length (map (λ (l : FineLine K). l.terms.nodes) ls)) number
    suits_bank fits program suits =
        let l = at_place lines 0 are.some_are in
        let fact = fact_is lines number are keep node hand at_these h l.0 l.1 in
        subst (λ (z : List (FineLine K)). Suits program (fits keep) (length (map (λ (x : FineLine K). x.terms.nodes) z)) number) (sym same)
        (subst (λ (n : ℕ). Suits program (fits keep) n number) (sym (length-map lines (λ (x : FineLine K). x.terms.nodes)))
        (subst (λ (k : K). Suits program (fits k) (length lines) number) fact (suits l.0 l.1)))

-- one line, numbered 0, is a memory
pub one_line : {K : Type 0} (l : FineLine K) → l.terms.number ≡ 0 → AreLines (l ∷ [])
one_line {K} l number = record { some_are = omega arith; few = omega arith; nodes = l.terms.nodes; keep = l.terms.keep; each = places }
  where
    places : (k : ℕ) (m : FineLine K) → get_elem? (l ∷ []) k ≡ some m → IsLine l.terms.nodes l.terms.keep k m
    places zero m at = subst (λ (x : FineLine K). IsLine l.terms.nodes l.terms.keep 0 x) (some-injective l m at) record { number = number; nodes_are = refl; fact = refl }
    places (suc k) m at = absurd (some-ne-none m (sym at))
