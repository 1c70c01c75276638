-- A node that has only looked at its own tag.
use Rattle.std.proofs.Common.{◌≡◌, ◌≢◌, ℕ, true, inl, inr, [], Option, Some, None, refl, sym, ap, subst, ◌∙◌}
use Rattle.std.proofs.lemmas.Bool.{cases_eq}
use Rattle.sci_words.specs.declared.tags.Tag.{Tag}
use Rattle.sci_core.specs.declared.pending.Pending.{Pending}
use Rattle.sci_port.specs.declared.calls.Call.{Call}
use Rattle.sci_port.specs.declared.calls.Call.TheVariants.{Own}
use Rattle.sci_port.specs.Banks.{BankWay}
use Rattle.sci_port.specs.KeepsAll.{keeps_call, keeps_none}
use Rattle.sci_port.specs.Owes.{look_by}
use Rattle.sci_port.specs.Readying.{Readying}
use Rattle.sci_port.specs.ReceiptList.{ReceiptList}
use Rattle.sci_cache.specs.Nodes.{NodeState}
use Rattle.sci_work.specs.Made.{HasWatched, IsBankOf, IsStillBankOf, RestsAgain, none, look, by_call, stays}
use Rattle.sci_work.proofs.Reached.{reached_then}
use Rattle.sci_work.proofs.Worked.{rests_not, rests_then}
use Rattle.sci_work.proofs.Written.{wrote_same}

-- who is Idle is so behind a look
idle_look : (p : Pending) (tag : Option Tag) → p ≡ Pending.Idle → look_by p tag ≡ Pending.Idle
idle_look p None is = is
idle_look p (Some t) is = ap (λ (x : Pending). look_by x (Some t)) is

module _ {U : Type 0} {step : U → ℕ → Pending} {gives : U → ℕ → Call → U → Type 0} {readies : U → ℕ → Readying → U → Type 0} {receipts : U → ℕ → ReceiptList} where
  rests_looked : (u : U) (line : ℕ) (tag : Option Tag) (v : U) → gives u line (Own tag) v → step v line ≡ look_by (step u line) tag → ((m : ℕ) → m ≢ line → step v m ≡ step u m) → RestsAgain true step gives readies receipts u v
  rests_looked u line tag v given looked others = record {
    idle = λ idle m. elim (cases_eq m line) [
      | inl e ↦ ap (step v) e ∙ looked ∙ idle_look (step u line) tag (idle line)
      | inr ne ↦ others m ne ∙ idle m
    ];
    kept = λ yes. keeps_call line (Own tag) given tt keeps_none;
  }

module _ {U K : Type 0} {way : U → BankWay} {keep : U → K} {step : U → ℕ → Pending} {gives : U → ℕ → Call → U → Type 0} {readies : U → ℕ → Readying → U → Type 0} {receipts : U → ℕ → ReceiptList} where
  watched_not : (u : U) → HasWatched way keep step gives readies receipts u u
  watched_not u = record { made = λ n. none; reached = stays; same_way = refl; same_fact = refl; rests = rests_not true u; same_receipts = λ line. refl }

  pub watched_more : {u w v : U} → HasWatched way keep step gives readies receipts u w → (line : ℕ) (tag : Option Tag) → gives w line (Own tag) v → way v ≡ way w → keep v ≡ keep w
      → step v line ≡ look_by (step w line) tag → ((m : ℕ) → m ≢ line → step v m ≡ step w m) → ((m : ℕ) → receipts v m ≡ receipts w m) → HasWatched way keep step gives readies receipts u v
  watched_more {w = w} {v = v} h line tag given same_way same_fact looked others receipts = record {
    made = λ n. look line tag (h.made n) given;
    reached = reached_then h.reached (by_call line (Own tag) given stays);
    same_way = same_way ∙ h.same_way;
    same_fact = same_fact ∙ h.same_fact;
    rests = rests_then h.rests (rests_looked w line tag v given looked others);
    same_receipts = λ m. receipts m ∙ h.same_receipts m;
  }

  pub watched_once : {u v : U} → (line : ℕ) (tag : Option Tag) → gives u line (Own tag) v → way v ≡ way u → keep v ≡ keep u → step v line ≡ look_by (step u line) tag → ((m : ℕ) → m ≢ line → step v m ≡ step u m) → ((m : ℕ) → receipts v m ≡ receipts u m) → HasWatched way keep step gives readies receipts u v
  watched_once {u = u} line tag given same_way same_fact looked others receipts = watched_more (watched_not u) line tag given same_way same_fact looked others receipts

  pub still_watched : {u v : U} {n : NodeState} → IsBankOf (way u) n → HasWatched way keep step gives readies receipts u v → IsStillBankOf n.keeps [] way keep step gives readies receipts u n v
  still_watched {n = n} ready h = record {
    ready = subst (λ (x : BankWay). IsBankOf x n) (sym h.same_way) ready;
    same_keeps = refl;
    reached = h.reached;
    same_way = h.same_way;
    same_fact = h.same_fact;
    rests = record { idle = h.rests.idle; kept = λ yes. h.rests.kept refl };
    wrote = λ yes. wrote_same h.same_receipts;
  }
