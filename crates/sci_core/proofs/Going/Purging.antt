-- The rows of a head that purges the entries behind it, one after another, and writes.
use Rattle.std.proofs.lemmas.Bool.{false≢true}
use Rattle.std.proofs.Common.{◌≡◌, ℕ, true, false, Option, Some, None, List, refl, subst, ap, ◌&&◌, not}
use Rattle.sci_words.specs.declared.tags.Tag.{Tag}
use Rattle.sci_core.specs.declared.lines.Line.{Line}
use Rattle.sci_core.specs.declared.pending.Pending.{Pending}
use Rattle.sci_core.specs.declared.events.Event.{Event}
use Rattle.sci_core.specs.State.{State, update}
use Rattle.sci_core.specs.Law.{Witness}
use Rattle.sci_core.specs.Found.{names, is_settled_body, is_rolling, is_found}
use Rattle.sci_core.specs.Row.{purging_word, purged_word}
use Rattle.sci_core.specs.Table.Purging.{written, purging_allows, purging_row, advancing_allows, advancing_row, clearing_allows, clearing_row}
use Rattle.sci_core.proofs.Going.Forms.{Going, Turn, FindsRow}
use Rattle.sci_core.proofs.Going.Facts.{Found, found, body_kind, rolling_kind, not_named, not_true, and_left, and_right, purging_value}
use Rattle.sci_core.proofs.Keeping.Written.{written_keeps_law, written_keeps_links, unwritten_keeps_law, unwritten_keeps_links}
use Rattle.sci_core.proofs.Keeping.PurgeOne.{purge_one_keeps_law, purge_one_keeps_links}
use Rattle.sci_core.proofs.Keeping.Adopt.{adopt_keeps_law, adopt_keeps_links}
use Rattle.sci_core.proofs.Keeping.Advance.{advance_keeps_law, advance_keeps_links}
use Rattle.sci_core.proofs.Keeping.Clear.{clear_keeps_law, clear_keeps_links}

module _ (n : ℕ) (s : State) (g : Witness) (me : ℕ) where
  written_goes : (l : Line) (words : List ℕ) → Turn n s g me (Pending.Purging l (Some None)) → s.tags me ≡ purging_word None → Going n s g me (Event.Written (Some words)) (purging_row me l (Event.Written (Some words)) (Some None))
  written_goes l words t me_word = record {
    home = tt;
    after = record g { value = written l (Some words) };
    law = written_keeps_law s g t.law me l (written l (Some words)) t.pending me_word;
    links = written_keeps_links n s t.links me t.below l (written l (Some words)) t.pending me_word;
    value = ap (λ (v : Line). written v (Some words)) (purging_value s g t.law me l (Some None) t.pending);
  }

  unwritten_goes : (l : Line) → Turn n s g me (Pending.Purging l (Some None)) → s.tags me ≡ purging_word None → Going n s g me (Event.Written None) (purging_row me l (Event.Written None) (Some None))
  unwritten_goes l t me_word = record {
    home = tt;
    after = g;
    law = unwritten_keeps_law s g t.law me l t.pending me_word;
    links = unwritten_keeps_links n s t.links me t.below l t.pending me_word;
    value = refl;
  }

  purge_one_goes : (l : Line) (x : ℕ) → Turn n s g me (Pending.Purging l (Some (Some x))) → is_found is_settled_body (s.tags x) ≡ true → Going n s g me (Event.PurgeOne (s.tags x)) (purging_row me l (Event.PurgeOne (s.tags x)) (Some (Some x)))
  purge_one_goes l x t allowed =
      let w : Found is_settled_body (s.tags x) = found is_settled_body (s.tags x) allowed in
      record {
        home = tt;
        after = g;
        law = purge_one_keeps_law s g t.law me x l t.pending (body_kind (s.tags x).kind w.kind) w.unheld;
        links = purge_one_keeps_links n s t.links me t.below x l t.pending;
        value = refl;
      }

  adopt_goes : (l : Line) (x : ℕ) → Turn n s g me (Pending.Purging l (Some (Some x))) → (is_found is_rolling (s.tags x) && not (names me (s.tags x).back)) ≡ true → Going n s g me (Event.Adopt (s.tags x)) (purging_row me l (Event.Adopt (s.tags x)) (Some (Some x)))
  adopt_goes l x t allowed =
      let w : Found is_rolling (s.tags x) = found is_rolling (s.tags x) (and_left (is_found is_rolling (s.tags x)) (not (names me (s.tags x).back)) allowed) in
      let other : names me (s.tags x).back ≡ false = not_true (names me (s.tags x).back) (and_right (is_found is_rolling (s.tags x)) (not (names me (s.tags x).back)) allowed) in
      record {
        home = tt;
        after = g;
        law = adopt_keeps_law s g t.law me x l t.pending (rolling_kind (s.tags x).kind w.kind) (not_named me (s.tags x).back other) w.unheld;
        links = adopt_keeps_links n s t.links me t.below x l t.pending;
        value = refl;
      }

  pub purging_goes : (l : Line) (e : Event) (seen : Option (Option ℕ)) → Turn n s g me (Pending.Purging l seen) → purging_allows me l e seen ≡ true → FindsRow s (purging_row me l e seen) → Going n s g me e (purging_row me l e seen)
  purging_goes l (Event.Written (Some words)) (Some None) t allowed finds = written_goes l words t finds
  purging_goes l (Event.Written None) (Some None) t allowed finds = unwritten_goes l t finds
  purging_goes l (Event.PurgeOne w) (Some (Some x)) t allowed finds =
      let P : Tag → Type 0 = λ w. is_found is_settled_body w ≡ true → Going n s g me (Event.PurgeOne w) (purging_row me l (Event.PurgeOne w) (Some (Some x))) in
      subst P finds (purge_one_goes l x t) allowed
  purging_goes l (Event.Adopt w) (Some (Some x)) t allowed finds =
      let P : Tag → Type 0 = λ w. (is_found is_rolling w && not (names me w.back)) ≡ true → Going n s g me (Event.Adopt w) (purging_row me l (Event.Adopt w) (Some (Some x))) in
      subst P finds (adopt_goes l x t) allowed
  purging_goes l _ seen t allowed finds = absurd (false≢true allowed)

  advance_goes : (l : Line) (x : ℕ) (w : Tag) → Turn n s g me (Pending.Advancing l x w) → s.tags me ≡ purging_word (Some x) → Going n s g me Event.Advance (advancing_row me l x w Event.Advance)
  advance_goes l x w t me_word = record {
    home = tt;
    after = record g { rank = update g.rank x 0; clearer = update g.clearer x me };
    law = advance_keeps_law s g t.law me x l w t.pending me_word;
    links = advance_keeps_links n s t.links me t.below x l w t.pending me_word;
    value = refl;
  }

  pub advancing_goes : (l : Line) (x : ℕ) (w : Tag) (e : Event) → Turn n s g me (Pending.Advancing l x w) → advancing_allows e ≡ true → FindsRow s (advancing_row me l x w e) → Going n s g me e (advancing_row me l x w e)
  advancing_goes l x w Event.Advance t allowed finds = advance_goes l x w t finds
  advancing_goes l x w _ t allowed finds = absurd (false≢true allowed)

  clear_goes : (l : Line) (x : ℕ) (w : Tag) → Turn n s g me (Pending.Clearing l x w) → s.tags x ≡ purged_word w → Going n s g me Event.Clear (clearing_row l x w Event.Clear)
  clear_goes l x w t victim = record {
    home = tt;
    after = g;
    law = clear_keeps_law s g t.law me x l w t.pending victim;
    links = clear_keeps_links n s t.links me t.below x l w t.pending victim;
    value = refl;
  }

  pub clearing_goes : (l : Line) (x : ℕ) (w : Tag) (e : Event) → Turn n s g me (Pending.Clearing l x w) → clearing_allows e ≡ true → FindsRow s (clearing_row l x w e) → Going n s g me e (clearing_row l x w e)
  clearing_goes l x w Event.Clear t allowed finds = clear_goes l x w t finds
  clearing_goes l x w _ t allowed finds = absurd (false≢true allowed)
