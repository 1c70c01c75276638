-- The rows of a body entry on its way out.
use Rattle.std.proofs.lemmas.Bool.{false≢true}
use Rattle.std.proofs.Common.{◌≡◌, ◌⊎◌, ℕ, true, false, Bool, Option, Some, None, refl, subst, inl, inr, ◌&&◌, ◌||◌, not, is_none}
use Rattle.sci_words.specs.declared.tags.Kind.{Kind}
use Rattle.sci_words.specs.declared.tags.Tag.{Tag}
use Rattle.sci_core.specs.declared.pending.Pending.{Pending}
use Rattle.sci_core.specs.declared.events.Event.{Event}
use Rattle.sci_core.specs.State.{State, word, update}
use Rattle.sci_core.specs.Law.{Witness}
use Rattle.sci_core.specs.Found.{names, is_settled_body, can_be_told, is_found}
use Rattle.sci_core.specs.Table.Rolling.{rolling_allows, rolling_row, unlinked_allows, unlinked_row}
use Rattle.sci_core.proofs.Going.Forms.{Going, Turn, FindsRow}
use Rattle.sci_core.proofs.Going.Facts.{Found, found, body_kind, named, not_told, is_none_link, and_left, and_right}
use Rattle.sci_core.proofs.Keeping.TellSuccessor.{tell_successor_keeps_law, tell_successor_keeps_links}
use Rattle.sci_core.proofs.Keeping.TellPredecessor.{tell_predecessor_keeps_law, tell_predecessor_keeps_links}
use Rattle.sci_core.proofs.Keeping.Rolled.{rolled_keeps_law, rolled_keeps_links}

-- a node without a successor tells none
no_successor : (told c : Bool) → ((not told && false) && c) ≡ true → ⊥
no_successor true c h = absurd (cc)
no_successor false c h = absurd (cc)

module _ (n : ℕ) (s : State) (g : Witness) (me : ℕ) where
  tell_successor_goes : (told : Bool) (x b : ℕ) → Turn n s g me (Pending.Rolling told (Some (Some x, b))) → ((not told && true) && (is_found is_settled_body (s.tags x) && names me (s.tags x).back)) ≡ true → Going n s g me (Event.TellSuccessor (s.tags x)) (rolling_row (Event.TellSuccessor (s.tags x)) (Some (Some x, b)))
  tell_successor_goes true x b t allowed = absurd (cc)
  tell_successor_goes false x b t allowed =
      let w : Found is_settled_body (s.tags x) = found is_settled_body (s.tags x) (and_left (is_found is_settled_body (s.tags x)) (names me (s.tags x).back) allowed) in
      let back : (s.tags x).back ≡ Some me = named me (s.tags x).back (and_right (is_found is_settled_body (s.tags x)) (names me (s.tags x).back) allowed) in
      record {
        home = tt;
        after = g;
        law = tell_successor_keeps_law s g t.law me x b t.pending (body_kind (s.tags x).kind w.kind) back w.unheld;
        links = tell_successor_keeps_links n s t.links me t.below x b t.pending;
        value = refl;
      }

  in_turn : (told : Bool) (f : Option ℕ) → (told || is_none f) ≡ true → (told ≡ true) ⊎ (f ≡ None)
  in_turn true f h = inl refl
  in_turn false f h = inr (is_none_link f h)

  tell_predecessor_goes : (told : Bool) (f : Option ℕ) (b : ℕ) → Turn n s g me (Pending.Rolling told (Some (f, b))) → ((told || is_none f) && (is_found can_be_told (s.tags b) && names me (s.tags b).forw)) ≡ true → Going n s g me (Event.TellPredecessor (s.tags b)) (rolling_row (Event.TellPredecessor (s.tags b)) (Some (f, b)))
  tell_predecessor_goes told f b t allowed =
      let turn : (told ≡ true) ⊎ (f ≡ None) = in_turn told f (and_left (told || is_none f) (is_found can_be_told (s.tags b) && names me (s.tags b).forw) allowed) in
      let rest : (is_found can_be_told (s.tags b) && names me (s.tags b).forw) ≡ true = and_right (told || is_none f) (is_found can_be_told (s.tags b) && names me (s.tags b).forw) allowed in
      let w : Found can_be_told (s.tags b) = found can_be_told (s.tags b) (and_left (is_found can_be_told (s.tags b)) (names me (s.tags b).forw) rest) in
      let forw : (s.tags b).forw ≡ Some me = named me (s.tags b).forw (and_right (is_found can_be_told (s.tags b)) (names me (s.tags b).forw) rest) in
      let kinds = not_told (s.tags b).kind w.kind in
      record {
        home = tt;
        after = record g { rank = update g.rank me 0 };
        law = tell_predecessor_keeps_law s g t.law me b f told t.pending turn forw kinds.0 kinds.1 kinds.2 kinds.3 w.unheld;
        links = tell_predecessor_keeps_links n s t.links me t.below b f told t.pending;
        value = refl;
      }

  pub rolling_goes : (told : Bool) (e : Event) (seen : Option (Option ℕ × ℕ)) → Turn n s g me (Pending.Rolling told seen) → rolling_allows me told e seen ≡ true → FindsRow s (rolling_row e seen) → Going n s g me e (rolling_row e seen)
  rolling_goes told (Event.TellSuccessor w) (Some (Some x, b)) t allowed finds =
      let P : Tag → Type 0 = λ w. ((not told && true) && (is_found is_settled_body w && names me w.back)) ≡ true → Going n s g me (Event.TellSuccessor w) (rolling_row (Event.TellSuccessor w) (Some (Some x, b))) in
      subst P finds (tell_successor_goes told x b t) allowed
  rolling_goes told (Event.TellSuccessor w) (Some (None, b)) t allowed finds = absurd (no_successor told (is_found is_settled_body w && names me w.back) allowed)
  rolling_goes told (Event.TellPredecessor w) (Some (f, b)) t allowed finds =
      let P : Tag → Type 0 = λ w. ((told || is_none f) && (is_found can_be_told w && names me w.forw)) ≡ true → Going n s g me (Event.TellPredecessor w) (rolling_row (Event.TellPredecessor w) (Some (f, b))) in
      subst P finds (tell_predecessor_goes told f b t) allowed
  rolling_goes told _ seen t allowed finds = absurd (false≢true allowed)

  rolled_goes : (f : Option ℕ) (b : ℕ) → Turn n s g me (Pending.Unlinked f b) → s.tags me ≡ word Kind.Roll f (Some b) → Going n s g me Event.Rolled (unlinked_row me f b Event.Rolled)
  rolled_goes f b t me_word = record {
    home = tt;
    after = g;
    law = rolled_keeps_law s g t.law me f b t.pending me_word;
    links = rolled_keeps_links n s t.links me t.below f b t.pending me_word;
    value = refl;
  }

  pub unlinked_goes : (f : Option ℕ) (b : ℕ) (e : Event) → Turn n s g me (Pending.Unlinked f b) → unlinked_allows e ≡ true → FindsRow s (unlinked_row me f b e) → Going n s g me e (unlinked_row me f b e)
  unlinked_goes f b Event.Rolled t allowed finds = rolled_goes f b t finds
  unlinked_goes f b _ t allowed finds = absurd (false≢true allowed)
