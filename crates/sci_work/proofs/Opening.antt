-- Lines as they are opened, and each node's hand, as what the nodes' threads are started with.
use Rattle.std.proofs.Common.{◌≡◌, ℕ, ◌<◌, ◌≤◌, List, length, sym, subst, arith, vec_len}
use Rattle.std.specs.Global.{Vec}
use Rattle.sci_core.specs.declared.keeps.Keeps as keeps
use Rattle.sci_fine.specs.declared.line.FineLine.{FineLine}
use Rattle.sci_fine.specs.declared.seats.Seat.{Seat}
use Rattle.sci_fine.specs.Banks.{IsLine}
use Rattle.sci_work.specs.declared.recording.Recording.{Recording}
use Rattle.sci_work.specs.declared.programs.Program.{Program}
use Rattle.sci_work.specs.Hands.{AtEach, IsNewHand}
use Rattle.sci_work.specs.Programs.{Suits}
use Rattle.sci_work.specs.Starts.{AreEnded, AreParts}

-- where the program suits the fact of the lines
pub parts_of : {K : Type 0} {g : keeps.Ghosts K} (fits : K → ℕ → List ℕ → Type 0) (recording : Recording) (nodes : ℕ) (keep : K) (count : ℕ) (program : Program) (lines : List (FineLine K)) (hands : Vec (Vec (Seat K g)))
    → length lines ≡ count → 0 < count → count ≤ 1024 → AtEach (IsLine nodes keep) lines
    → vec_len hands ≡ nodes → nodes ≤ 64 → AtEach (λ k hand. IsNewHand lines k hand.items) hands.items
    → ((k : ℕ) → k < nodes → Suits program (fits keep) count k) → AreParts fits recording lines program hands
parts_of {K} {g} fits recording nodes keep count program lines hands size least few are all most each suits = record {
  lines_are = record { some_are = omega (arith, size, least); few = omega (arith, size, few); nodes = nodes; keep = keep; each = are };
  few = omega (arith, all, most);
  hands_are = λ k h at. (each k h at).0;
  begin = λ _ k h at. (each k h at).1;
  suits = λ k l near at.
      subst (λ (n : ℕ). Suits program (fits l.terms.keep) n k) (sym size)
      (subst (λ (f : K). Suits program (fits f) count k) (sym (are 0 l at).fact) (suits k (subst (λ (n : ℕ). k < n) all near)));
}

-- nodes that have ended may run their program again, where it keeps nothing
pub parts_again : {K : Type 0} {g : keeps.Ghosts K} (fits : K → ℕ → List ℕ → Type 0) (program : Program) (lines : List (FineLine K)) (hands back : Vec (Vec (Seat K g))) (shares : Vec (Vec ℕ))
    → AreParts fits Recording.All lines program hands → AreEnded Recording.All lines program (vec_len hands) back shares → AreParts fits Recording.Nothing lines program back
parts_again fits program lines hands back shares parts ended = record {
  lines_are = parts.lines_are;
  few = let n = ended.hand_count in let few = parts.few in omega (arith, n, few);
  hands_are = ended.hands_are;
  begin = λ all. absurd (let e = all in cc);
  suits = λ k l near at. parts.suits k l (subst (λ (n : ℕ). k < n) ended.hand_count near) at;
}
