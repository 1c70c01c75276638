use Rattle.std.proofs.Common.{◌≡◌, ℕ, ◌≤◌, [], inl, inr, refl, sym, ap, ◌∙◌, subst, ⊎_elim}
use Rattle.std.proofs.Math.Nat.{pos_of_ne-zero, not-le_of_lt}
use Rattle.std.specs.Prelude.{vec_capacity}
use Rattle.sci_core.specs.declared.pending.Pending.{Pending}
use Rattle.sci_coarse.specs.Seats.{IsSeatOf}
use Rattle.sci_coarse.specs.Views.{first_view}
use Rattle.sci_coarse.proofs.Listed.{each_all}
use Rattle.sci_coarse.proofs.Seating.{no_refusal, other_refusal}
use Rattle.sci_coarse.proofs.line.CoarseLine.new.Goals as goal

pub returns-then-nodes-eq0 : goal.returns-then-nodes-eq0
returns-then-nodes-eq0 g c = record {
  nodes = ((λ _. ⊎_elim (λ none. inl none) (λ many. inr many.1) c.then-nodes-eq0.either), λ _. refl);
  terms = tt;
  seats = tt;
  new = tt;
  own = tt;
  rest = tt;
}

pub open-requires : goal.open-requires
open-requires g c = record { fits = c.requires; nodes = (pos_of_ne-zero c.if-nodes-eq0.false, c.if-nodes-gt-MOST_NODES.false) }

pub returns-in_default : goal.returns-in_default
returns-in_default g c = record {
  nodes = ((λ e. absurd (other_refusal e)), ⊎_elim (λ none. absurd (c.if-nodes-eq0.false none)) (λ many. absurd (not-le_of_lt many c.if-nodes-gt-MOST_NODES.false)));
  terms = tt;
  seats = tt;
  new = tt;
  own = tt;
  rest = tt;
}

pub seat_all-requires : goal.seat_all-requires
seat_all-requires g c =
    let opened = c.in-Ok.ensures in let terms = opened.0 in let room = c.in_ok-seats.ensures in
    record {
      of = opened.1;
      view = opened.2 ∙ ap (λ t. (first_view t, [])) (sym terms);
      room = (room.items, room.len, subst (λ (n : ℕ). n ≤ vec_capacity c.in_ok-seats.seats) (c.from.ensures ∙ sym (ap (λ t. t.nodes) terms)) room.capacity);
    }

pub returns : goal.returns
returns g c =
    let terms = c.in-Ok.ensures.0 in let made = c.seat_all.ensures in
    record {
      nodes = ((λ e. absurd (no_refusal _ e)), ⊎_elim (λ none. absurd (c.if-nodes-eq0.false none)) (λ many. absurd (not-le_of_lt many c.if-nodes-gt-MOST_NODES.false)));
      terms = record { nodes = ap (λ t. t.nodes) terms; number = ap (λ t. t.number) terms; opening = ap (λ t. t.opening) terms; keep = ap (λ t. t.keep) terms };
      seats = (made.len ∙ ap (λ t. t.nodes) terms, made.seats);
      new = made.new;
      own = each_all (λ s. IsSeatOf c.in-Ok.line s) c.seat_all.new.seats.items (λ k s e. (made.seats k s e).0);
      rest = each_all (λ s. s.standing.pending ≡ Pending.Idle) c.seat_all.new.seats.items (λ k s e. (made.seats k s e).2);
    }
