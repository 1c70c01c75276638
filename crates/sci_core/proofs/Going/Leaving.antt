-- The rows of a head on its way out.
use Rattle.std.proofs.lemmas.Bool.{false≢true}
use Rattle.std.proofs.Common.{◌≡◌, ℕ, true, false, Bool, Option, Some, None, refl, subst, ap, ◌&&◌, not}
use Rattle.sci_words.specs.declared.memory.Mem.{Mem}
use Rattle.sci_words.specs.declared.tags.Tag.{Tag}
use Rattle.sci_core.specs.declared.lines.Line.{Line}
use Rattle.sci_core.specs.declared.pending.Pending.{Pending}
use Rattle.sci_core.specs.declared.events.Event.{Event}
use Rattle.sci_core.specs.State.{State, update, lent_word, unlent_word, blank}
use Rattle.sci_core.specs.Shape.{shape}
use Rattle.sci_core.specs.Law.{Witness, Law, Below}
use Rattle.sci_core.specs.Found.{names, is_settled_body, is_found}
use Rattle.sci_core.specs.Row.{leaving_word, listed, home}
use Rattle.sci_core.specs.Table.Leaving.{leaving_allows, leaving_row, promoted_allows, promoted_row, writing_back_allows, writing_back_row, parted_allows, parted_row}
use Rattle.sci_core.proofs.Going.Forms.{Going, Turn, FindsRow}
use Rattle.sci_core.proofs.Going.Facts.{Found, found, body_kind, named, and_left, and_right, memory_home}
use Rattle.sci_core.proofs.Keeping.Promote.{promote_keeps_law, promote_keeps_links}
use Rattle.sci_core.proofs.Keeping.Stay.{stay_keeps_law, stay_keeps_links}
use Rattle.sci_core.proofs.Keeping.ReturnHomeFresh.{return_home_fresh_keeps_law, return_home_fresh_keeps_links}
use Rattle.sci_core.proofs.Keeping.ReturnHomeDirty.{return_home_dirty_keeps_law, return_home_dirty_keeps_links}
use Rattle.sci_core.proofs.Keeping.PassOn.{pass_on_keeps_law, pass_on_keeps_links}
use Rattle.sci_core.proofs.Keeping.ReEnter.{re_enter_fresh_keeps_law, re_enter_fresh_keeps_links, re_enter_dirty_keeps_law, re_enter_dirty_keeps_links}
use Rattle.sci_core.proofs.Keeping.ReturnMemory.{return_memory_writing_back_keeps_law, return_memory_writing_back_keeps_links}
use Rattle.sci_core.proofs.Keeping.Left.{left_keeps_law, left_keeps_links}

module _ (n : ℕ) (s : State) (g : Witness) (me : ℕ) where
  promote_goes : (d : Bool) (l : Line) (x : ℕ) → Turn n s g me (Pending.Leaving d l (Some (Some x))) → (is_found is_settled_body (s.tags x) && names me (s.tags x).back) ≡ true → Going n s g me (Event.Promote (s.tags x)) (leaving_row me d l (Event.Promote (s.tags x)) (Some (Some x)))
  promote_goes d l x t allowed =
      let w : Found is_settled_body (s.tags x) = found is_settled_body (s.tags x) (and_left (is_found is_settled_body (s.tags x)) (names me (s.tags x).back) allowed) in
      let back : (s.tags x).back ≡ Some me = named me (s.tags x).back (and_right (is_found is_settled_body (s.tags x)) (names me (s.tags x).back) allowed) in
      record {
        home = tt;
        after = record g { last_front = x };
        law = promote_keeps_law s g t.law me x d l t.pending (body_kind (s.tags x).kind w.kind) back w.unheld;
        links = promote_keeps_links n s t.links me t.below x d l t.pending;
        value = refl;
      }

  stay_goes : (d : Bool) (l : Line) (f : Option ℕ) → Turn n s g me (Pending.Leaving d l (Some f)) → s.tags me ≡ leaving_word f → Going n s g me Event.Stay (leaving_row me d l Event.Stay (Some f))
  stay_goes d l f t me_word = record {
    home = tt;
    after = g;
    law = stay_keeps_law s g t.law me f d l t.pending me_word;
    links = stay_keeps_links n s t.links me t.below f d l t.pending me_word;
    value = refl;
  }

  return_home_fresh_goes : (d : Bool) (l : Line) → Turn n s g me (Pending.Leaving d l (Some None)) → not d ≡ true → s.memory ≡ listed false me → Going n s g me Event.ReturnHomeFresh (leaving_row me d l Event.ReturnHomeFresh (Some None))
  return_home_fresh_goes true l t allowed word = absurd (cc)
  return_home_fresh_goes false l t allowed word = record {
    home = tt;
    after = record g { rank = update g.rank me 0 };
    law = return_home_fresh_keeps_law s g t.law me l t.pending word;
    links = return_home_fresh_keeps_links n s t.links me t.below l t.pending word;
    value = refl;
  }

  return_home_dirty_goes : (d : Bool) (l : Line) → Turn n s g me (Pending.Leaving d l (Some None)) → d ≡ true → s.memory ≡ listed true me → Going n s g me Event.ReturnHomeDirty (leaving_row me d l Event.ReturnHomeDirty (Some None))
  return_home_dirty_goes false l t allowed word = absurd (cc)
  return_home_dirty_goes true l t allowed word = record {
    home = memory_home s g t.law (ap (λ (m : Mem). m.lent) word);
    after = record g { rank = update g.rank me 0; borrower = me };
    law = return_home_dirty_keeps_law s g t.law me l t.pending word;
    links = return_home_dirty_keeps_links n s t.links me t.below l t.pending word;
    value = refl;
  }

  pub leaving_goes : (d : Bool) (l : Line) (e : Event) (seen : Option (Option ℕ)) → Turn n s g me (Pending.Leaving d l seen) → leaving_allows me d e seen ≡ true → FindsRow s (leaving_row me d l e seen) → Going n s g me e (leaving_row me d l e seen)
  leaving_goes d l (Event.Promote w) (Some (Some x)) t allowed finds =
      let P : Tag → Type 0 = λ w. (is_found is_settled_body w && names me w.back) ≡ true → Going n s g me (Event.Promote w) (leaving_row me d l (Event.Promote w) (Some (Some x))) in
      subst P finds (promote_goes d l x t) allowed
  leaving_goes d l Event.Stay (Some f) t allowed finds = stay_goes d l f t finds
  leaving_goes d l Event.ReturnHomeFresh (Some None) t allowed finds = return_home_fresh_goes d l t allowed finds
  leaving_goes d l Event.ReturnHomeDirty (Some None) t allowed finds = return_home_dirty_goes d l t allowed finds
  leaving_goes d l _ seen t allowed finds = absurd (false≢true allowed)

  pass_on_goes : (d : Bool) (l : Line) (x : ℕ) → Turn n s g me (Pending.Promoted d l x) → s.memory ≡ listed d me → Going n s g me Event.PassOn (promoted_row me d l x Event.PassOn)
  pass_on_goes d l x t word = record {
    home = tt;
    after = record g { rank = update g.rank me 0 };
    law = pass_on_keeps_law s g t.law me x d l t.pending word;
    links = pass_on_keeps_links n s t.links me t.below x d l t.pending word;
    value = refl;
  }

  re_enter_goes : (d : Bool) (l : Line) (x : ℕ) → Turn n s g me (Pending.Promoted d l x) → s.tags me ≡ leaving_word (Some x) → Going n s g me Event.ReEnter (promoted_row me d l x Event.ReEnter)
  re_enter_goes false l x t me_word = record {
    home = tt;
    after = g;
    law = re_enter_fresh_keeps_law s g t.law me x l t.pending me_word;
    links = re_enter_fresh_keeps_links n s t.links me t.below x l t.pending me_word;
    value = refl;
  }
  re_enter_goes true l x t me_word = record {
    home = tt;
    after = g;
    law = re_enter_dirty_keeps_law s g t.law me x l t.pending me_word;
    links = re_enter_dirty_keeps_links n s t.links me t.below x l t.pending me_word;
    value = refl;
  }

  pub promoted_goes : (d : Bool) (l : Line) (x : ℕ) (e : Event) → Turn n s g me (Pending.Promoted d l x) → promoted_allows e ≡ true → FindsRow s (promoted_row me d l x e) → Going n s g me e (promoted_row me d l x e)
  promoted_goes d l x Event.PassOn t allowed finds = pass_on_goes d l x t finds
  promoted_goes d l x Event.ReEnter t allowed finds = re_enter_goes d l x t finds
  promoted_goes d l x _ t allowed finds = absurd (false≢true allowed)

  write_back_goes : (l : Line) → Turn n s g me (Pending.WritingBack l) → s.memory ≡ lent_word home → Going n s g me Event.ReturnMemory (writing_back_row l Event.ReturnMemory)
  write_back_goes l t word =
      let after : Mem → State = λ m. record s { memory = m; steps = update s.steps me (Pending.Parted None); memory_slot = Some l } in
      let rest : unlent_word s.memory ≡ home = ap unlent_word word in
      let lawful : Mem → Type 0 = λ m. Law (shape (after m)) g in
      let below : Mem → Type 0 = λ m. Below n (shape (after m)) in
      record {
        home = tt;
        after = g;
        law = subst lawful rest (return_memory_writing_back_keeps_law s g t.law me l t.pending);
        links = subst below rest (return_memory_writing_back_keeps_links n s t.links me t.below l t.pending);
        value = refl;
      }

  pub writing_back_goes : (l : Line) (e : Event) → Turn n s g me (Pending.WritingBack l) → writing_back_allows e ≡ true → FindsRow s (writing_back_row l e) → Going n s g me e (writing_back_row l e)
  writing_back_goes l Event.ReturnMemory t allowed finds = write_back_goes l t finds
  writing_back_goes l _ t allowed finds = absurd (false≢true allowed)

  left_goes : (f : Option ℕ) → Turn n s g me (Pending.Parted f) → s.tags me ≡ leaving_word f → Going n s g me Event.Left (parted_row me f Event.Left)
  left_goes f t me_word = record {
    home = tt;
    after = g;
    law = left_keeps_law s g t.law me f blank t.pending me_word;
    links = left_keeps_links n s t.links me t.below f blank t.pending me_word;
    value = refl;
  }

  pub parted_goes : (f : Option ℕ) (e : Event) → Turn n s g me (Pending.Parted f) → parted_allows e ≡ true → FindsRow s (parted_row me f e) → Going n s g me e (parted_row me f e)
  parted_goes f Event.Left t allowed finds = left_goes f t finds
  parted_goes f _ t allowed finds = absurd (false≢true allowed)
