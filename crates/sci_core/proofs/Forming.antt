-- An allowed event leaves a well-formed word.
use Rattle.std.proofs.Common.{◌≡◌, ℕ, true, false, Bool, Option, Some, None, refl, ◌||◌, is_none, arith}
use Rattle.std.proofs.lemmas.Bool.Decides.{nat_tests}
use Rattle.sci_words.specs.declared.tags.Kind.{Kind}
use Rattle.sci_words.specs.Tag.{tag_well_formed}
use Rattle.sci_words.specs.Mem.{mem_well_formed}
use Rattle.sci_core.specs.declared.lines.Line.{Line}
use Rattle.sci_core.specs.declared.pending.Pending.{Pending}
use Rattle.sci_core.specs.declared.events.Event.{Event}
use Rattle.sci_core.specs.State.{word}
use Rattle.sci_core.specs.Row.{settled_word, listed}
use Rattle.sci_core.specs.Found.{is_settled, is_settled_body, can_be_told, is_found}
use Rattle.sci_core.specs.Table.{has_row, row_of}
use Rattle.sci_core.specs.Table.Idle.{idle_allows, idle_row}
use Rattle.sci_core.specs.Table.InQueue.{in_queue_row}
use Rattle.sci_core.specs.Table.Purging.{purging_allows, purging_row}
use Rattle.sci_core.specs.Table.Leaving.{leaving_row}
use Rattle.sci_core.specs.Table.Rolling.{rolling_allows, rolling_row}
use Rattle.sci_core.specs.WellFormed.{LeavesWellFormed, FindsWellFormed}
use Rattle.sci_core.proofs.Going.Facts.{Found, found, and_left, and_right}

unheld_formed : (k : Kind) (h : Bool) (f b : Option ℕ) → tag_well_formed record { kind = k; held = h; forw = f; back = b } ≡ true → tag_well_formed record { kind = k; held = false; forw = f; back = b } ≡ true
unheld_formed k h f b e = grind (arith, nat_tests)

held_formed : (k : Kind) (h : Bool) (f b : Option ℕ) → is_settled k ≡ true → tag_well_formed record { kind = k; held = h; forw = f; back = b } ≡ true → tag_well_formed record { kind = k; held = true; forw = f; back = b } ≡ true
held_formed k h f b s e = grind (arith, nat_tests)

roll_formed : (k : Kind) (h : Bool) (f b : Option ℕ) → is_settled_body k ≡ true → tag_well_formed record { kind = k; held = h; forw = f; back = b } ≡ true → tag_well_formed (word Kind.Roll f b) ≡ true
roll_formed k h f b s e = grind (arith, nat_tests)

purged_formed : (k : Kind) (h : Bool) (f b : Option ℕ) → is_settled_body k ≡ true → tag_well_formed record { kind = k; held = h; forw = f; back = b } ≡ true → tag_well_formed (word Kind.Purged f b) ≡ true
purged_formed k h f b s e = grind (arith, nat_tests)

told_formed : (k : Kind) (h : Bool) (f b g : Option ℕ) → can_be_told k ≡ true → tag_well_formed record { kind = k; held = h; forw = f; back = b } ≡ true → tag_well_formed (word k g b) ≡ true
told_formed k h f b g s e = grind (arith, nat_tests)

settled_formed : (d : Bool) (f : Option ℕ) → tag_well_formed (settled_word d f) ≡ true
settled_formed true f = refl
settled_formed false f = refl

listed_formed : (d : Bool) (x : ℕ) → mem_well_formed (listed d x) ≡ true
listed_formed true x = refl
listed_formed false x = refl

idle_forms : (n me : ℕ) (e : Event) → idle_allows n e ≡ true → LeavesWellFormed (idle_row me e).change
idle_forms n me (Event.Queue f) h = refl
idle_forms n me (Event.Hold t) h = let w : Found is_settled t = found is_settled t h in held_formed t.kind t.held t.forw t.back w.kind w.formed
idle_forms n me (Event.Convert t) h = refl
idle_forms n me (Event.BeginPurge t) h = refl
idle_forms n me (Event.Roll t) h = let w : Found is_settled_body t = found is_settled_body t h in roll_formed t.kind t.held t.forw t.back w.kind w.formed
idle_forms n me (Event.Leave t) h = refl
idle_forms n me _ h = refl

in_queue_forms : (me : ℕ) (e : Event) (f : Option ℕ) (d : Bool) (c : Option Line) → LeavesWellFormed (in_queue_row me e f d c).change
in_queue_forms me (Event.AttachFresh t) (Some x) d (Some l) = refl
in_queue_forms me (Event.AttachDirty t) (Some x) d None = refl
in_queue_forms me Event.Settle None d (Some l) = settled_formed d None
in_queue_forms me _ f d c = refl

purging_forms : (me : ℕ) (l : Line) (e : Event) (seen : Option (Option ℕ)) → purging_allows me l e seen ≡ true → LeavesWellFormed (purging_row me l e seen).change
purging_forms me l (Event.Written words) seen h = refl
purging_forms me l (Event.PurgeOne t) (Some (Some x)) h = let w : Found is_settled_body t = found is_settled_body t h in purged_formed t.kind t.held t.forw t.back w.kind w.formed
purging_forms me l (Event.Adopt t) (Some (Some x)) h = refl
purging_forms me l _ seen h = refl

leaving_forms : (me : ℕ) (d : Bool) (l : Line) (e : Event) (seen : Option (Option ℕ)) → LeavesWellFormed (leaving_row me d l e seen).change
leaving_forms me d l (Event.Promote t) (Some (Some x)) = settled_formed d t.forw
leaving_forms me d l Event.Stay (Some f) = settled_formed d f
leaving_forms me d l Event.ReturnHomeFresh (Some None) = refl
leaving_forms me d l Event.ReturnHomeDirty (Some None) = refl
leaving_forms me d l _ seen = refl

rolling_forms : (me : ℕ) (told : Bool) (e : Event) (seen : Option (Option ℕ × ℕ)) → rolling_allows me told e seen ≡ true → LeavesWellFormed (rolling_row e seen).change
rolling_forms me told (Event.TellSuccessor t) (Some (Some x, y)) h = refl
rolling_forms me told (Event.TellPredecessor t) (Some (f, y)) h =
    let w : Found can_be_told t = found can_be_told t (and_left (is_found can_be_told t) _ (and_right (told || is_none f) _ h)) in
    told_formed t.kind t.held t.forw t.back f w.kind w.formed
rolling_forms me told _ seen h = refl

queueing_forms : (me : ℕ) (e : Event) (f : Option ℕ) → LeavesWellFormed (row_of me (Pending.Queueing f) e).change
queueing_forms me (Event.Requeue h) f = refl
queueing_forms me Event.PrependValid f = refl
queueing_forms me Event.PrependGone (Some x) = refl
queueing_forms me Event.HomeWrite None = refl
queueing_forms me _ f = refl

promoted_forms : (me : ℕ) (d : Bool) (l : Line) (x : ℕ) (e : Event) → LeavesWellFormed (row_of me (Pending.Promoted d l x) e).change
promoted_forms me d l x Event.PassOn = listed_formed d x
promoted_forms me d l x _ = refl

pub forms : (n me : ℕ) (p : Pending) (e : Event) → has_row n me p e ≡ true → FindsWellFormed (row_of me p e).change → LeavesWellFormed (row_of me p e).change
forms n me Pending.Idle e h b = idle_forms n me e h
forms n me (Pending.Holding w l) Event.Unhold h b = unheld_formed w.kind true w.forw w.back b
forms n me (Pending.Queueing f) e h b = queueing_forms me e f
forms n me (Pending.Fetching f d l) Event.ReturnMemory h b = listed_formed d me
forms n me (Pending.InQueue f d c) e h b = in_queue_forms me e f d c
forms n me (Pending.Copying x w l) Event.ReturnCopy h b = unheld_formed w.kind w.held w.forw w.back b
forms n me (Pending.Ready f d l) Event.Settle h b = settled_formed d f
forms n me (Pending.Converting f turned) Event.FreshToGone h b = refl
forms n me (Pending.Converting f turned) Event.Converted h b = refl
forms n me (Pending.Converting f turned) Event.Unconverted h b = refl
forms n me (Pending.Purging l seen) e h b = purging_forms me l e seen h
forms n me (Pending.Leaving d l seen) e h b = leaving_forms me d l e seen
forms n me (Pending.Promoted d l x) e h b = promoted_forms me d l x e
forms n me (Pending.Rolling told seen) e h b = rolling_forms me told e seen h
forms n me _ Event.Advance h b = refl
forms n me _ Event.Clear h b = refl
forms n me _ e h b = refl
