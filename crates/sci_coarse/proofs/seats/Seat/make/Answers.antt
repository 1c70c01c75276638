use Rattle.std.proofs.Common.{◌<◌, Some, refl, sym, ap, ◌∙◌, subst}
use Rattle.sci_port.specs.declared.calls.Call.TheVariants.{Stepped}
use Rattle.sci_coarse.specs.declared.views.Terms.{Terms}
use Rattle.sci_coarse.proofs.Composing.{was_taken, was_missed, busy_row, hand_for, still_of, still_holds, to_give, region, sits, owing, reads, came_step}
use Rattle.sci_coarse.proofs.seats.Seat.make.Goals as goal

pub step_in_hand-outcome-requires-clause-hand : goal.step_in_hand-outcome-requires-clause-hand
step_in_hand-outcome-requires-clause-hand g c = let s = c.args.self.now in let t = s.standing.terms in let of = s.of in let taken = was_taken _ _ c.take.result c.take.ensures.taken c.if-not-take.false in hand_for g.K.Keeps.fits t s.node s.token.me c.take.new.token.me of s.seen.0 taken s.standing.pending c.args.event s.seen.1 c.requires.allowed

pub give-requires-clause-of : goal.give-requires-clause-of
give-requires-clause-of g c = let s = c.args.self.now in let t = c.args.line.now.terms in let of = s.of ∙ ap (λ x. Some x) c.requires.of.1 in let taken = was_taken _ _ c.take.result c.take.ensures.taken c.if-not-take.false in (c.step_in_hand-outcome.ensures.same.0 ∙ c.take.ensures.same.0 ∙ c.requires.of.0, still_of g.K.Keeps.fits t s.node s.token.me c.take.new.token.me of s.seen.0 taken (Stepped c.args.event c.step_in_hand-outcome.result) c.step_in_hand-outcome.new.token.me (c.step_in_hand-outcome.ensures.called))

pub give-requires-clause-held : goal.give-requires-clause-held
give-requires-clause-held g c = let s = c.args.self.now in let t = c.args.line.now.terms in let of = s.of ∙ ap (λ x. Some x) c.requires.of.1 in let taken = was_taken _ _ c.take.result c.take.ensures.taken c.if-not-take.false in still_holds g.K.Keeps.fits t s.node s.token.me c.take.new.token.me of s.seen.0 taken (Stepped c.args.event c.step_in_hand-outcome.result) c.step_in_hand-outcome.new.token.me (c.step_in_hand-outcome.ensures.called)

pub give-requires-clause-hand : goal.give-requires-clause-hand
give-requires-clause-hand g c = let s = c.args.self.now in let t = c.args.line.now.terms in let of = s.of ∙ ap (λ x. Some x) c.requires.of.1 in let taken = was_taken _ _ c.take.result c.take.ensures.taken c.if-not-take.false in to_give g.K.Keeps.fits t s.node s.token.me c.take.new.token.me of s.seen.0 taken (Stepped c.args.event c.step_in_hand-outcome.result) c.step_in_hand-outcome.new.token.me (c.step_in_hand-outcome.ensures.called)

pub invariant_of-self-2 : goal.invariant_of-self-2
invariant_of-self-2 g c = let s = c.args.self.now in let t = s.standing.terms in let of = s.of in let taken = was_taken _ _ c.take.result c.take.ensures.taken c.if-not-take.false in let q = sits g.K.Keeps.fits t s.node s.token.me c.take.new.token.me of s.seen.0 taken (Stepped c.args.event c.step_in_hand-outcome.result) c.step_in_hand-outcome.new.token.me (c.step_in_hand-outcome.ensures.called) c.give.new.token.me c.give.ensures.given in record { of = q.0 ∙ ap (λ x. Some x) (sym c.step_in_hand-outcome.ensures.terms); seen = (q.1, reads g.K.Keeps.fits t s.node s.token.me c.take.new.token.me of s.seen.0 taken (Stepped c.args.event c.step_in_hand-outcome.result) c.step_in_hand-outcome.new.token.me (c.step_in_hand-outcome.ensures.called) c.give.new.token.me c.give.ensures.given c.step_in_hand-outcome.new.standing.pending c.step_in_hand-outcome.ensures.pending, q.2 ∙ s.seen.2 ∙ ap (λ (x : Terms g.row.K.Denot). x.nodes) (sym c.step_in_hand-outcome.ensures.terms), q.3); hand = q.4; below = subst (λ (x : Terms g.row.K.Denot). s.node < x.nodes) (sym c.step_in_hand-outcome.ensures.terms) s.below }

pub returns : goal.returns
returns g c = let s = c.args.self.now in let t = s.standing.terms in let of = s.of in let taken = was_taken _ _ c.take.result c.take.ensures.taken c.if-not-take.false in record {
  made = record {
    same = (c.give.ensures.same.0 ∙ c.step_in_hand-outcome.ensures.same.0 ∙ c.take.ensures.same.0, c.give.ensures.same.1 ∙ c.step_in_hand-outcome.ensures.same.1 ∙ c.take.ensures.same.1, refl, c.step_in_hand-outcome.ensures.terms);
    came = came_step g.K.Keeps.fits s.standing.terms s.token.me.0 c.args.event c.step_in_hand-outcome.result c.give.new.token.me.0 (region g.K.Keeps.fits s.standing.terms s.node s.token.me c.take.new.token.me s.of s.seen.0 taken (Stepped c.args.event c.step_in_hand-outcome.result) c.step_in_hand-outcome.new.token.me (c.step_in_hand-outcome.ensures.called) c.give.new.token.me c.give.ensures.given);
    owes = owing g.K.Keeps.fits s.standing.terms s.node s.token.me c.take.new.token.me s.of s.seen.0 taken (Stepped c.args.event c.step_in_hand-outcome.result) c.step_in_hand-outcome.new.token.me (c.step_in_hand-outcome.ensures.called) c.give.new.token.me c.give.ensures.given s.standing.pending c.step_in_hand-outcome.new.standing.pending (reads g.K.Keeps.fits t s.node s.token.me c.take.new.token.me of s.seen.0 taken (Stepped c.args.event c.step_in_hand-outcome.result) c.step_in_hand-outcome.new.token.me (c.step_in_hand-outcome.ensures.called) c.give.new.token.me c.give.ensures.given c.step_in_hand-outcome.new.standing.pending c.step_in_hand-outcome.ensures.pending) s.seen.1;
  };
  kept = refl;
}

pub invariant_of-self : goal.invariant_of-self
invariant_of-self g c = let s = c.args.self.now in let h = was_missed _ _ c.take.result c.take.ensures.taken c.if-not-take.true in record { of = ap (λ v. v.of) h.1 ∙ s.of; seen = (ap (λ v. v.node) h.1 ∙ s.seen.0, ap (λ v. v.pending) h.1 ∙ s.seen.1, ap (λ v. v.joined) h.1 ∙ s.seen.2, ap (λ v. v.holds) h.1 ∙ s.seen.3); hand = h.2; below = s.below }

pub returns-then-not-take : goal.returns-then-not-take
returns-then-not-take g c = let s = c.args.self.now in let h = was_missed _ _ c.take.result c.take.ensures.taken c.if-not-take.true in record { made = record { same = (c.take.ensures.same.0, c.take.ensures.same.1, refl, refl); came = (h.0, h.1, h.3 s.standing.terms s.of); owes = (c.requires.allowed, busy_row s.standing.terms.nodes s.node s.standing.pending c.args.event, tt) }; kept = refl }
