use Rattle.std.proofs.Common.{Some, refl, sym, ap, ◌∙◌}
use Rattle.sci_port.specs.declared.calls.Call.TheVariants.{MemWas}
use Rattle.sci_port.proofs.Before.{mem_keeps}
use Rattle.sci_coarse.proofs.Composing.{was_taken, was_missed, hand, still_of, still_holds, to_give, region, sits, owing, calls, still}
use Rattle.sci_coarse.proofs.seats.Seat.mem.Goals as goal

pub mem_in_hand-mem-requires-clause-hand : goal.mem_in_hand-mem-requires-clause-hand
mem_in_hand-mem-requires-clause-hand g c = let s = c.args.self.now in let t = c.args.line.now.terms in let of = s.of ∙ ap (λ x. Some x) c.requires.of.1 in let taken = was_taken _ _ c.take.result c.take.ensures.taken c.if-not-take.false in (let h = hand g.K.Keeps.fits t s.node s.token.me c.take.new.token.me of s.seen.0 taken in (h.0, h.1))

pub give-requires-clause-of : goal.give-requires-clause-of
give-requires-clause-of g c = let s = c.args.self.now in let t = c.args.line.now.terms in let of = s.of ∙ ap (λ x. Some x) c.requires.of.1 in let taken = was_taken _ _ c.take.result c.take.ensures.taken c.if-not-take.false in (c.mem_in_hand-mem.ensures.same.0 ∙ c.take.ensures.same.0 ∙ c.requires.of.0, still_of g.K.Keeps.fits t s.node s.token.me c.take.new.token.me of s.seen.0 taken (MemWas (Some c.mem_in_hand-mem.result)) c.mem_in_hand-mem.new.token.me (c.mem_in_hand-mem.ensures.called s.node))

pub give-requires-clause-held : goal.give-requires-clause-held
give-requires-clause-held g c = let s = c.args.self.now in let t = c.args.line.now.terms in let of = s.of ∙ ap (λ x. Some x) c.requires.of.1 in let taken = was_taken _ _ c.take.result c.take.ensures.taken c.if-not-take.false in still_holds g.K.Keeps.fits t s.node s.token.me c.take.new.token.me of s.seen.0 taken (MemWas (Some c.mem_in_hand-mem.result)) c.mem_in_hand-mem.new.token.me (c.mem_in_hand-mem.ensures.called s.node)

pub give-requires-clause-hand : goal.give-requires-clause-hand
give-requires-clause-hand g c = let s = c.args.self.now in let t = c.args.line.now.terms in let of = s.of ∙ ap (λ x. Some x) c.requires.of.1 in let taken = was_taken _ _ c.take.result c.take.ensures.taken c.if-not-take.false in to_give g.K.Keeps.fits t s.node s.token.me c.take.new.token.me of s.seen.0 taken (MemWas (Some c.mem_in_hand-mem.result)) c.mem_in_hand-mem.new.token.me (c.mem_in_hand-mem.ensures.called s.node)

pub invariant_of-self-2 : goal.invariant_of-self-2
invariant_of-self-2 g c = let s = c.args.self.now in let t = c.args.line.now.terms in let of = s.of ∙ ap (λ x. Some x) c.requires.of.1 in let taken = was_taken _ _ c.take.result c.take.ensures.taken c.if-not-take.false in let q = sits g.K.Keeps.fits t s.node s.token.me c.take.new.token.me of s.seen.0 taken (MemWas (Some c.mem_in_hand-mem.result)) c.mem_in_hand-mem.new.token.me (c.mem_in_hand-mem.ensures.called s.node) c.give.new.token.me c.give.ensures.given in record { of = q.0 ∙ ap (λ x. Some x) (sym c.requires.of.1); seen = (q.1, still g.K.Keeps.fits t s.node s.token.me c.take.new.token.me of s.seen.0 taken (MemWas (Some c.mem_in_hand-mem.result)) c.mem_in_hand-mem.new.token.me (c.mem_in_hand-mem.ensures.called s.node) c.give.new.token.me c.give.ensures.given (calls g.K.Keeps.fits t s.node s.token.me c.take.new.token.me of s.seen.0 taken (MemWas (Some c.mem_in_hand-mem.result)) c.mem_in_hand-mem.new.token.me (c.mem_in_hand-mem.ensures.called s.node)).gives.1 ∙ s.seen.1, q.2 ∙ s.seen.2, q.3); hand = q.4; below = s.below }

pub returns : goal.returns
returns g c = let s = c.args.self.now in let t = c.args.line.now.terms in let of = s.of ∙ ap (λ x. Some x) c.requires.of.1 in let taken = was_taken _ _ c.take.result c.take.ensures.taken c.if-not-take.false in record {
  made = record {
    same = (c.give.ensures.same.0 ∙ c.mem_in_hand-mem.ensures.same.0 ∙ c.take.ensures.same.0, c.give.ensures.same.1 ∙ c.mem_in_hand-mem.ensures.same.1 ∙ c.take.ensures.same.1, refl, refl);
    came = region g.K.Keeps.fits s.standing.terms s.node s.token.me c.take.new.token.me s.of s.seen.0 taken (MemWas (Some c.mem_in_hand-mem.result)) c.mem_in_hand-mem.new.token.me (c.mem_in_hand-mem.ensures.called s.node) c.give.new.token.me c.give.ensures.given;
    owes = owing g.K.Keeps.fits s.standing.terms s.node s.token.me c.take.new.token.me s.of s.seen.0 taken (MemWas (Some c.mem_in_hand-mem.result)) c.mem_in_hand-mem.new.token.me (c.mem_in_hand-mem.ensures.called s.node) c.give.new.token.me c.give.ensures.given s.standing.pending s.standing.pending (still g.K.Keeps.fits t s.node s.token.me c.take.new.token.me of s.seen.0 taken (MemWas (Some c.mem_in_hand-mem.result)) c.mem_in_hand-mem.new.token.me (c.mem_in_hand-mem.ensures.called s.node) c.give.new.token.me c.give.ensures.given (calls g.K.Keeps.fits t s.node s.token.me c.take.new.token.me of s.seen.0 taken (MemWas (Some c.mem_in_hand-mem.result)) c.mem_in_hand-mem.new.token.me (c.mem_in_hand-mem.ensures.called s.node)).gives.1 ∙ s.seen.1) s.seen.1;
  };
  receives = mem_keeps _ _ _ _ refl;
}

pub invariant_of-self : goal.invariant_of-self
invariant_of-self g c = let s = c.args.self.now in let h = was_missed _ _ c.take.result c.take.ensures.taken c.if-not-take.true in record { of = ap (λ v. v.of) h.1 ∙ s.of; seen = (ap (λ v. v.node) h.1 ∙ s.seen.0, ap (λ v. v.pending) h.1 ∙ s.seen.1, ap (λ v. v.joined) h.1 ∙ s.seen.2, ap (λ v. v.holds) h.1 ∙ s.seen.3); hand = h.2; below = s.below }

pub returns-then-not-take : goal.returns-then-not-take
returns-then-not-take g c = let s = c.args.self.now in let h = was_missed _ _ c.take.result c.take.ensures.taken c.if-not-take.true in record { made = record { same = (c.take.ensures.same.0, c.take.ensures.same.1, refl, refl); came = (h.0, h.1, h.3 s.standing.terms s.of); owes = (refl, tt) }; receives = mem_keeps _ _ _ _ refl }
