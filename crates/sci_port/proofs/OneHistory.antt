-- The receipts of a run from the line as it was opened are one history, whole.
use Rattle.std.proofs.Common.{◌≡◌, ℕ, ◌+◌, ◌<◌, ◌≤◌, List, [], ◌∷◌, All, refl, ◌∙◌, subst, arith}
use Rattle.std.proofs.lemmas.List.Elements.{All-head, All-tail}
use Rattle.sci_core.specs.declared.lines.Line.{Line}
use Rattle.sci_core.specs.declared.pending.Pending.{Pending}
use Rattle.sci_core.specs.Run.{HasValue}
use Rattle.sci_core.specs.State.{opened, blank}
use Rattle.sci_core.proofs.Lawfully.{ruled_value}
use Rattle.sci_core.proofs.Opening.{opened_witness, opened_is_lawful, opened_links}
use Rattle.sci_port.specs.declared.calls.Call.{Call}
use Rattle.sci_port.specs.History.{value_of}
use Rattle.sci_port.specs.Laws.{ShowsOneHistory, KeepsOneHistory, BeginsReceipts}
use Rattle.sci_port.specs.Runs.{done_from, done_by}
use Rattle.sci_port.specs.KeepsTo.{KeepsTo}
use Rattle.sci_port.specs.Shown.{shown_in, told_in}
use Rattle.sci_port.proofs.Counted.{shown_whole, whole_thinned}
use Rattle.sci_port.proofs.Histories.{history}
use Rattle.sci_port.proofs.Receiving.{receipts_none}
use Rattle.sci_port.proofs.Running.{else_from}
use Rattle.sci_port.proofs.Told.{loosened, told_of, told_shown}

opened_has : (n : ℕ) (fits : List ℕ → Type 0) (line : Line) → fits line.words → HasValue n fits (opened n line) line
opened_has n fits line h = ruled_value n fits (opened n line) record { witness = opened_witness line; law = opened_is_lawful n line; links = opened_links n line; words = record { memory = refl; tags = λ i. refl }; fit = h }

-- a node that there isn't makes no call
nobody : (n p : ℕ) (run : List (ℕ × Call)) → All (λ c. c.0 < n) run → (i : ℕ) → n ≤ i → done_from p i run ≡ []
nobody n p [] below i far = refl
nobody n p (c ∷ cs) below i far =
    let near : c.0 < n = All-head (λ (x : ℕ × Call). x.0 < n) c cs below in
    else_from p i c cs (λ e. absurd (omega arith)) ∙ nobody n (p + 1) cs (All-tail (λ (x : ℕ × Call). x.0 < n) c cs below) i far

module _ {K : Type 0} (fits : K → ℕ → List ℕ → Type 0) where
  pub shows_one_history : ShowsOneHistory fits
  shows_one_history keep number n o run s r =
      let h = opened_has n (fits keep number) o r.fit in
      ((history n (fits keep number) (opened n o) o run s h r.leads).0, shown_whole n (fits keep number) o run s h r.leads (nobody n 0 run r.below))

  pub keeps_one_history : KeepsOneHistory fits
  keeps_one_history keep number n o run s receipts r are =
      whole_thinned n o (value_of o run) (λ j. (receipts j).list) (λ j. shown_in blank (done_by j run)) (shows_one_history keep number n o run s r).1 (λ j. subst (KeepsTo (receipts j).list) (told_shown blank (done_by j run)) (loosened (receipts j).list (told_in blank (done_by j run)) (told_of (receipts j).list (told_in blank (done_by j run)) (are j).keeps)))

pub begins_receipts : BeginsReceipts
begins_receipts s none = receipts_none Pending.Idle s none refl
