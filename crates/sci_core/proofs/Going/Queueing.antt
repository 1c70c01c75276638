-- The rows of a node that prepends itself and copies memory's bytes.
use Rattle.std.proofs.lemmas.Bool.{false≢true}
use Rattle.std.proofs.Common.{◌≡◌, ℕ, ◌+◌, true, false, Bool, Option, Some, None, refl, subst, sym, ap}
use Rattle.sci_words.specs.declared.memory.Mem.{Mem}
use Rattle.sci_words.specs.Tag.{link_below}
use Rattle.sci_core.specs.declared.lines.Line.{Line}
use Rattle.sci_core.specs.declared.pending.Pending.{Pending}
use Rattle.sci_core.specs.declared.events.Event.{Event}
use Rattle.sci_core.specs.State.{State, lent_word, unlent_word, update}
use Rattle.sci_core.specs.Shape.{shape}
use Rattle.sci_core.specs.Law.{Witness, Law, Below}
use Rattle.sci_core.specs.Row.{queued_word, listed, home}
use Rattle.sci_core.specs.Step.{line_in}
use Rattle.sci_core.specs.Table.Queueing.{queueing_allows, queueing_row, fetching_allows, fetching_row}
use Rattle.sci_core.proofs.Going.Forms.{Going, Turn, FindsRow}
use Rattle.sci_core.proofs.Going.Facts.{below_link, memory_home}
use Rattle.sci_core.proofs.Keeping.Requeue.{requeue_keeps_law, requeue_keeps_links}
use Rattle.sci_core.proofs.Keeping.PrependValid.{prepend_valid_home_keeps_law, prepend_valid_home_keeps_links, prepend_valid_listed_keeps_law, prepend_valid_listed_keeps_links}
use Rattle.sci_core.proofs.Keeping.HomeWrite.{home_write_keeps_law, home_write_keeps_links}
use Rattle.sci_core.proofs.Keeping.PrependGone.{prepend_gone_keeps_law, prepend_gone_keeps_links}
use Rattle.sci_core.proofs.Keeping.ReturnMemory.{return_memory_fetching_keeps_law, return_memory_fetching_keeps_links}

module _ (n : ℕ) (s : State) (g : Witness) (me : ℕ) where
  -- memory's slot is at home where its word is not lent
  slot_home : {p : Pending} → Turn n s g me p → (m : Mem) → s.memory ≡ m → m.lent ≡ false → s.memory_slot ≡ Some (line_in s.memory_slot)
  slot_home t m word u = memory_home s g t.law (subst (λ (x : Mem). x.lent ≡ false) (sym word) u)

  requeue_goes : (f h : Option ℕ) → Turn n s g me (Pending.Queueing f) → link_below n h ≡ true → s.tags me ≡ queued_word f → Going n s g me (Event.Requeue h) (queueing_row me (Event.Requeue h) f)
  requeue_goes f h t allowed word = record {
    home = tt;
    after = g;
    law = requeue_keeps_law s g t.law me h f t.pending word;
    links = requeue_keeps_links n s t.links me t.below h f t.pending word (below_link n h allowed);
    value = refl;
  }

  prepend_home_goes : Turn n s g me (Pending.Queueing None) → s.memory ≡ home → Going n s g me Event.PrependValid (queueing_row me Event.PrependValid None)
  prepend_home_goes t word =
      let has : s.memory_slot ≡ Some (line_in s.memory_slot) = slot_home t home word refl in
      record {
        home = has;
        after = record g { rank = update g.rank me 1; last_front = me; borrower = me };
        law = prepend_valid_home_keeps_law s g t.law me (line_in s.memory_slot) t.pending word has;
        links = prepend_valid_home_keeps_links n s t.links me t.below (line_in s.memory_slot) t.pending word;
        value = refl;
      }

  home_write_goes : Turn n s g me (Pending.Queueing None) → s.memory ≡ home → Going n s g me Event.HomeWrite (queueing_row me Event.HomeWrite None)
  home_write_goes t word =
      let has : s.memory_slot ≡ Some (line_in s.memory_slot) = slot_home t home word refl in
      record {
        home = has;
        after = record g { rank = update g.rank me 1; last_front = me; borrower = me };
        law = home_write_keeps_law s g t.law me (line_in s.memory_slot) t.pending word has;
        links = home_write_keeps_links n s t.links me t.below (line_in s.memory_slot) t.pending word;
        value = refl;
      }

  prepend_listed_goes : (x : ℕ) → Turn n s g me (Pending.Queueing (Some x)) → s.memory ≡ listed false x → Going n s g me Event.PrependValid (queueing_row me Event.PrependValid (Some x))
  prepend_listed_goes x t word =
      let has : s.memory_slot ≡ Some (line_in s.memory_slot) = slot_home t (listed false x) word refl in
      record {
        home = has;
        after = record g { rank = update g.rank me (g.rank x + 1); borrower = me };
        law = prepend_valid_listed_keeps_law s g t.law me x (line_in s.memory_slot) t.pending word has;
        links = prepend_valid_listed_keeps_links n s t.links me t.below x (line_in s.memory_slot) t.pending word;
        value = refl;
      }

  prepend_gone_goes : (x : ℕ) → Turn n s g me (Pending.Queueing (Some x)) → s.memory ≡ listed true x → Going n s g me Event.PrependGone (queueing_row me Event.PrependGone (Some x))
  prepend_gone_goes x t word = record {
    home = tt;
    after = record g { rank = update g.rank me (g.rank x + 1) };
    law = prepend_gone_keeps_law s g t.law me x t.pending word;
    links = prepend_gone_keeps_links n s t.links me t.below x t.pending word;
    value = refl;
  }

  pub queueing_goes : (f : Option ℕ) (e : Event) → Turn n s g me (Pending.Queueing f) → queueing_allows n f e ≡ true → FindsRow s (queueing_row me e f) → Going n s g me e (queueing_row me e f)
  queueing_goes f (Event.Requeue h) t allowed finds = requeue_goes f h t allowed finds
  queueing_goes None Event.PrependValid t allowed finds = prepend_home_goes t finds
  queueing_goes (Some x) Event.PrependValid t allowed finds = prepend_listed_goes x t finds
  queueing_goes (Some x) Event.PrependGone t allowed finds = prepend_gone_goes x t finds
  queueing_goes None Event.PrependGone t allowed finds = absurd (false≢true allowed)
  queueing_goes None Event.HomeWrite t allowed finds = home_write_goes t finds
  queueing_goes (Some x) Event.HomeWrite t allowed finds = absurd (false≢true allowed)
  queueing_goes f _ t allowed finds = absurd (false≢true allowed)

  return_memory_goes : (f : Option ℕ) (d : Bool) (l : Line) → Turn n s g me (Pending.Fetching f d l) → s.memory ≡ lent_word (listed d me) → Going n s g me Event.ReturnMemory (fetching_row me f d l Event.ReturnMemory)
  return_memory_goes f d l t word =
      let after : Mem → State = λ m. record s { memory = m; steps = update s.steps me (Pending.InQueue f d (Some l)); memory_slot = Some l } in
      let rest : unlent_word s.memory ≡ listed d me = ap unlent_word word in
      let lawful : Mem → Type 0 = λ m. Law (shape (after m)) g in
      let below : Mem → Type 0 = λ m. Below n (shape (after m)) in
      record {
        home = tt;
        after = g;
        law = subst lawful rest (return_memory_fetching_keeps_law s g t.law me f d l t.pending);
        links = subst below rest (return_memory_fetching_keeps_links n s t.links me t.below f d l t.pending);
        value = refl;
      }

  pub fetching_goes : (f : Option ℕ) (d : Bool) (l : Line) (e : Event) → Turn n s g me (Pending.Fetching f d l) → fetching_allows e ≡ true → FindsRow s (fetching_row me f d l e) → Going n s g me e (fetching_row me f d l e)
  fetching_goes f d l Event.ReturnMemory t allowed finds = return_memory_goes f d l t finds
  fetching_goes f d l _ t allowed finds = absurd (false≢true allowed)
