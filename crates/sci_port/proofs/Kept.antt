-- A node that is to write has been answered the line that it is to write over.
use Rattle.std.proofs.Common.{◌≡◌, ℕ, Bool, Option, Some, None, List, refl, sym, subst}
use Rattle.sci_core.specs.declared.lines.Line.{Line}
use Rattle.sci_core.specs.declared.pending.Pending.{Pending}
use Rattle.sci_core.specs.declared.events.Event.{Event}
use Rattle.sci_core.specs.declared.outcomes.Outcome.{Outcome}
use Rattle.sci_core.specs.Table.{row_of}
use Rattle.sci_core.specs.Step.{look_of, look_back}
use Rattle.sci_port.specs.declared.calls.Call.{Call}
use Rattle.sci_port.specs.declared.calls.Call.TheVariants.{Own, MemWas, TagWas, Stepped}
use Rattle.sci_port.specs.Owes.{Owes, IsLookDone, IsRowDone, TakesRow, look_by}
use Rattle.sci_port.specs.Shown.{kept_after, HasKept}
use Rattle.sci_words.specs.declared.tags.Tag.{Tag}

-- the line that was kept, after an answer
abbrev answered : Line → Option Line → Line
answered k (Some line) = line
answered k None = k

rolls : (told : Bool) (seen : Option (Option ℕ × ℕ)) (f b : Option ℕ) (k : Line) → HasKept (look_back told seen f b) k
rolls told seen f (Some b) k = refl
rolls told seen f None k = refl

looks : (p : Pending) (t : Tag) (k : Line) → HasKept p k → HasKept (look_of p t) k
looks (Pending.Purging line seen) t k h = h
looks (Pending.Leaving dirty line seen) t k h = refl
looks (Pending.Rolling told seen) t k h = rolls told seen t.forw t.back k
looks (Pending.Advancing line victim word) t k h = h
looks (Pending.Clearing line victim word) t k h = h
looks _ t k h = refl

-- a row
rows : (me : ℕ) (p : Pending) (e : Event) (y k : Line) → HasKept p k → HasKept ((row_of me p e).after y) (answered k ((row_of me p e).answer y))
rows me Pending.Idle (Event.BeginPurge t) y k h = refl
rows me Pending.Idle _ y k h = refl
rows me (Pending.Holding w l) Event.Unhold y k h = refl
rows me (Pending.Holding w l) _ y k h = refl
rows me (Pending.Queueing (Some x)) Event.PrependGone y k h = refl
rows me (Pending.Queueing (Some x)) _ y k h = refl
rows me (Pending.Queueing None) Event.PrependGone y k h = refl
rows me (Pending.Queueing None) _ y k h = refl
rows me (Pending.Fetching f d l) Event.ReturnMemory y k h = refl
rows me (Pending.Fetching f d l) _ y k h = refl
rows me (Pending.InQueue None d None) Event.Settle y k h = refl
rows me (Pending.InQueue None d None) _ y k h = refl
rows me (Pending.InQueue None d (Some l)) Event.Settle y k h = refl
rows me (Pending.InQueue None d (Some l)) _ y k h = refl
rows me (Pending.InQueue (Some x) d None) Event.Settle y k h = refl
rows me (Pending.InQueue (Some x) d None) _ y k h = refl
rows me (Pending.InQueue (Some x) d (Some l)) Event.Settle y k h = refl
rows me (Pending.InQueue (Some x) d (Some l)) _ y k h = refl
rows me (Pending.Copying x w l) Event.ReturnCopy y k h = refl
rows me (Pending.Copying x w l) _ y k h = refl
rows me (Pending.Ready f d l) Event.Settle y k h = refl
rows me (Pending.Ready f d l) _ y k h = refl
rows me (Pending.Converting f turned) Event.Converted y k h = refl
rows me (Pending.Converting f turned) _ y k h = refl
rows me (Pending.Purging l None) Event.Look y k h = refl
rows me (Pending.Purging l None) _ y k h = refl
rows me (Pending.Purging l (Some None)) Event.Look y k h = refl
rows me (Pending.Purging l (Some None)) _ y k h = refl
rows me (Pending.Purging l (Some (Some x))) (Event.PurgeOne t) y k h = h
rows me (Pending.Purging l (Some (Some x))) (Event.Adopt t) y k h = h
rows me (Pending.Purging l (Some (Some x))) _ y k h = refl
rows me (Pending.Advancing l x w) Event.Advance y k h = h
rows me (Pending.Advancing l x w) _ y k h = refl
rows me (Pending.Clearing l x w) Event.Clear y k h = h
rows me (Pending.Clearing l x w) _ y k h = refl
rows me (Pending.Leaving d l None) Event.Stay y k h = refl
rows me (Pending.Leaving d l None) _ y k h = refl
rows me (Pending.Leaving d l (Some None)) Event.Stay y k h = refl
rows me (Pending.Leaving d l (Some None)) _ y k h = refl
rows me (Pending.Leaving d l (Some (Some x))) Event.Stay y k h = refl
rows me (Pending.Leaving d l (Some (Some x))) _ y k h = refl
rows me (Pending.Promoted d l x) Event.PassOn y k h = refl
rows me (Pending.Promoted d l x) _ y k h = refl
rows me (Pending.WritingBack l) Event.ReturnMemory y k h = refl
rows me (Pending.WritingBack l) _ y k h = refl
rows me (Pending.Parted f) Event.Left y k h = refl
rows me (Pending.Parted f) _ y k h = refl
rows me (Pending.Rolling told None) Event.Look y k h = refl
rows me (Pending.Rolling told None) _ y k h = refl
rows me (Pending.Rolling told (Some (None, b))) Event.Look y k h = refl
rows me (Pending.Rolling told (Some (None, b))) _ y k h = refl
rows me (Pending.Rolling told (Some (Some x, b))) Event.Look y k h = refl
rows me (Pending.Rolling told (Some (Some x, b))) _ y k h = refl
rows me (Pending.Unlinked f b) Event.Rolled y k h = refl
rows me (Pending.Unlinked f b) _ y k h = refl

answers_kept : (k : Line) (e : Event) (answer : Option Line) → answered k answer ≡ kept_after k (Stepped e (Outcome.Done answer))
answers_kept k e (Some line) = refl
answers_kept k e None = refl

row_kept : (me : ℕ) (p : Pending) (e : Event) (answer : Option Line) (q : Pending) (k : Line) → IsRowDone me p e answer q → HasKept p k → HasKept q (kept_after k (Stepped e (Outcome.Done answer)))
row_kept me p e answer q k d h = subst (HasKept q) (answers_kept k e answer) (subst (λ (z : Pending × Option Line). HasKept z.0 (answered k z.1)) (λ i. (sym d.after i, sym d.answers i)) (rows me p e d.taken k h))

look_kept : (p : Pending) (answer : Option Line) (q : Pending) (k : Line) → IsLookDone p answer q → HasKept p k → HasKept q (kept_after k (Stepped Event.Look (Outcome.Done answer)))
look_kept p answer q k d h = subst (HasKept q) (answers_kept k Event.Look answer) (subst (λ (z : Pending × Option Line). HasKept z.0 (answered k z.1)) (λ i. (sym d.after i, sym d.answers i)) (looks p d.word k h))

pub steps_kept : (n me : ℕ) (p : Pending) (e : Event) (o : Outcome) (q : Pending) (k : Line) → TakesRow n me p e o q → HasKept p k → HasKept q (kept_after k (Stepped e o))
steps_kept n me p Event.Look (Outcome.Done answer) q k t h = look_kept p answer q k t h
steps_kept n me p e (Outcome.Missed word) q k t h = subst (λ (z : Pending). HasKept z k) (sym t.same) h
steps_kept n me p e Outcome.Busy q k t h = subst (λ (z : Pending). HasKept z k) (sym t) h
steps_kept n me p _ (Outcome.Done answer) q k t h = row_kept me p _ answer q k t h

own_kept : (p : Pending) (answer : Option Tag) (k : Line) → HasKept p k → HasKept (look_by p answer) k
own_kept p (Some t) k h = looks p t k h
own_kept p None k h = h

module _ (n : ℕ) (fits : List ℕ → Type 0) (me : ℕ) where
  -- a call of any port
  pub call_kept : (p : Pending) (call : Call) (q : Pending) (k : Line) → Owes n fits me p call q → HasKept p k → HasKept q (kept_after k call)
  call_kept p (Own answer) q k o h = subst (λ (z : Pending). HasKept z k) (sym o.0) (own_kept p answer k h)
  call_kept p (MemWas answer) q k o h = subst (λ (z : Pending). HasKept z k) (sym o.0) h
  call_kept p (TagWas node answer) q k o h = subst (λ (z : Pending). HasKept z k) (sym o.0) h
  call_kept p (Stepped e outcome) q k o h = steps_kept n me p e outcome q k o.1 h
