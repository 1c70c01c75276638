use Rattle.std.proofs.Common.{◌<◌, ℕ, Some, refl, sym, ap, ◌∙◌, subst, arith, map}
use Rattle.sci_core.specs.declared.pending.Pending.{Pending}
use Rattle.sci_core.specs.declared.events.Event.{Event}
use Rattle.sci_core.specs.declared.outlines.Outline.{Outline}
use Rattle.sci_core.specs.Answers.{FitsEvent}
use Rattle.sci_core.specs.Table.{has_row, row_of}
use Rattle.sci_core.specs.Row.{Row}
use Rattle.sci_core.specs.Carrying.{hand_of}
use Rattle.sci_core.specs.declared.outcomes.Outcome.{Outcome}
use Rattle.sci_port.specs.declared.calls.Call.TheVariants.{Stepped}
use Rattle.sci_fine.specs.declared.views.Terms.{Terms}
use Rattle.sci_fine.specs.Rule.{slot_number}
use Rattle.sci_fine.specs.Steps.{before_of, Carries}
use Rattle.sci_fine.proofs.Asking.{words_formed, place_near, codes_of}
use Rattle.sci_fine.proofs.Carried.{hand_fits, took_same}
use Rattle.sci_fine.proofs.Landing as landing
use Rattle.sci_fine.proofs.seats.Seat.exchange.Goals as goal

pub codes-number-requires : goal.codes-number-requires
codes-number-requires g c =
    let s = c.args.self.now in let t = s.standing.terms in let x : ℕ = s.standing.node in let p : Pending = s.standing.pending in let e : Event = c.args.event.now in
    record { formed = words_formed t.nodes (g.K.Keeps.fits t.keep t.number) x p c.outline-outline.ensures.standing e c.requires.allowed c.outline-outline.result.change (ap (λ (o : Outline). o.change) c.outline-outline.ensures.value) }

pub lay-requires-clause-of : goal.lay-requires-clause-of
lay-requires-clause-of g c = c.requires.of.0

pub lay-requires-clause-allowed : goal.lay-requires-clause-allowed
lay-requires-clause-allowed g c = c.requires.allowed

pub lay-requires-clause-motion : goal.lay-requires-clause-motion
lay-requires-clause-motion g c = ap (λ (o : Outline). o.motion) c.outline-outline.ensures.value

pub lay-requires-clause-hand : goal.lay-requires-clause-hand
lay-requires-clause-hand g c =
    let s = c.args.self.now in let t = s.standing.terms in let x : ℕ = s.standing.node in let p : Pending = s.standing.pending in let e : Event = c.args.event.now in
    hand_fits t.nodes x p e _ c.requires.allowed s.hand

pub swap-found-requires-clause-of : goal.swap-found-requires-clause-of
swap-found-requires-clause-of g c = (c.lay.ensures.same.0 ∙ c.requires.of.0, ap (λ v. v.of) c.lay.ensures.same.2 ∙ (c.args.self.now.of ∙ ap (λ t. Some t) c.requires.of.1))

pub swap-found-requires-clause-ask : goal.swap-found-requires-clause-ask
swap-found-requires-clause-ask g c = refl

pub swap-found-requires-clause-turn : goal.swap-found-requires-clause-turn
swap-found-requires-clause-turn g c =
    let s = c.args.self.now in let same = c.lay.ensures.same.2 in
    (λ i. has_row (sym c.requires.of.1 i).nodes ((ap (λ v. v.node) same ∙ s.seen.0) i) ((ap (λ v. v.pending) same ∙ s.seen.1) i) c.args.event.now) ∙ c.requires.allowed

pub swap-found-requires-clause-fits : goal.swap-found-requires-clause-fits
swap-found-requires-clause-fits g c = subst (λ (t : Terms g.row.K.Denot). FitsEvent (g.K.Keeps.fits t.keep t.number) c.args.event.now) c.requires.of.1 c.requires.fits

pub swap-found-requires-clause-codes : goal.swap-found-requires-clause-codes
swap-found-requires-clause-codes g c =
    let s = c.args.self.now in let t = s.standing.terms in let x : ℕ = s.standing.node in let p : Pending = s.standing.pending in let e : Event = c.args.event.now in
    let row = landing.row_there c.lay.new.token.me.0 s.token.me.0 x p e s.seen.0 s.seen.1 c.lay.ensures.same.2 in
    codes_of (row_of x p e) _ c.outline-outline.result _ _ _ c.outline-outline.ensures.value row c.codes-number.ensures.number c.codes-number.ensures.before c.codes-number.ensures.after c.codes-number.ensures.links

pub swap-found-requires-clause-carries : goal.swap-found-requires-clause-carries
swap-found-requires-clause-carries g c =
    let s = c.args.self.now in let x : ℕ = s.standing.node in let p : Pending = s.standing.pending in let e : Event = c.args.event.now in
    subst (λ (r : Row). Carries r.carry c.lay.new.token.me.1) (sym (landing.row_there c.lay.new.token.me.0 s.token.me.0 x p e s.seen.0 s.seen.1 c.lay.ensures.same.2)) c.lay.ensures.carries

pub swap-found-requires-clause-below : goal.swap-found-requires-clause-below
swap-found-requires-clause-below g c =
    let s = c.args.self.now in let t = s.standing.terms in let x : ℕ = s.standing.node in let p : Pending = s.standing.pending in let e : Event = c.args.event.now in
    let near = place_near t.nodes (g.K.Keeps.fits t.keep t.number) x p c.outline-outline.ensures.standing e c.requires.allowed c.outline-outline.result.change (ap (λ (o : Outline). o.change) c.outline-outline.ensures.value) in
    let nodes = ap (λ z. z.nodes) c.requires.of.1 in omega (arith, c.codes-number.ensures.number)

pub pick_up-requires-clause-of : goal.pick_up-requires-clause-of
pick_up-requires-clause-of g c = c.swap-found.ensures.same.0 ∙ c.lay.ensures.same.0 ∙ c.requires.of.0

pub pick_up-requires-clause-allowed : goal.pick_up-requires-clause-allowed
pick_up-requires-clause-allowed g c = c.requires.allowed

pub pick_up-requires-clause-outline : goal.pick_up-requires-clause-outline
pick_up-requires-clause-outline g c = c.outline-outline.ensures.value

pub pick_up-requires-clause-hand : goal.pick_up-requires-clause-hand
pick_up-requires-clause-hand g c =
    let s = c.args.self.now in let t = s.standing.terms in let x : ℕ = s.standing.node in let p : Pending = s.standing.pending in let e : Event = c.args.event.now in
    let there = landing.taken_there g.K.Keeps.fits t x p e s.token.me c.lay.new.token.me c.swap-found.new.token.me _ c.swap-found.result s.seen.0 s.seen.1 s.of s.below c.requires.allowed c.requires.fits c.lay.ensures.same.2 c.lay.ensures.hand (c.codes-number.ensures.before ∙ ap (λ (o : Outline). before_of o.change) c.outline-outline.ensures.value) c.swap-found.ensures.exchanged c.if-found-old.false in
    (there.0, there.1, landing.next g.K.Keeps.fits t x p e s.token.me c.lay.new.token.me c.swap-found.new.token.me _ c.swap-found.result s.seen.0 s.seen.1 s.of s.below c.requires.allowed c.requires.fits c.lay.ensures.same.2 c.lay.ensures.hand (c.codes-number.ensures.before ∙ ap (λ (o : Outline). before_of o.change) c.outline-outline.ensures.value) c.swap-found.ensures.exchanged c.if-found-old.false there.0 there.1)

pub invariant_of-self : goal.invariant_of-self
invariant_of-self g c =
    let s = c.args.self.now in let t = s.standing.terms in let x : ℕ = s.standing.node in let p : Pending = s.standing.pending in let e : Event = c.args.event.now in
    let miss = landing.missed g.K.Keeps.fits t x p e s.token.me c.lay.new.token.me c.swap-found.new.token.me _ c.swap-found.result s.seen.0 s.seen.1 s.of s.below c.requires.allowed c.requires.fits c.lay.ensures.same.2 c.lay.ensures.hand (c.codes-number.ensures.before ∙ ap (λ (o : Outline). before_of o.change) c.outline-outline.ensures.value) c.swap-found.ensures.exchanged c.if-found-old.true in
    let q = landing.sits g.K.Keeps.fits t x p (Stepped e (Outcome.Missed c.swap-found.result)) s.token.me.0 c.swap-found.new.token.me.0 _ _ p s.of s.seen s.hand miss (landing.missed_step g.K.Keeps.fits t x p e s.token.me c.lay.new.token.me c.swap-found.new.token.me _ c.swap-found.result s.seen.0 s.seen.1 s.of s.below c.requires.allowed c.requires.fits c.lay.ensures.same.2 c.lay.ensures.hand (c.codes-number.ensures.before ∙ ap (λ (o : Outline). before_of o.change) c.outline-outline.ensures.value) c.swap-found.ensures.exchanged c.if-found-old.true) in
    record { of = q.of; seen = q.seen; hand = q.hand; below = s.below }

pub returns-then-found-old : goal.returns-then-found-old
returns-then-found-old g c =
    let s = c.args.self.now in let t = s.standing.terms in let x : ℕ = s.standing.node in let p : Pending = s.standing.pending in let e : Event = c.args.event.now in
    let miss = landing.missed g.K.Keeps.fits t x p e s.token.me c.lay.new.token.me c.swap-found.new.token.me _ c.swap-found.result s.seen.0 s.seen.1 s.of s.below c.requires.allowed c.requires.fits c.lay.ensures.same.2 c.lay.ensures.hand (c.codes-number.ensures.before ∙ ap (λ (o : Outline). before_of o.change) c.outline-outline.ensures.value) c.swap-found.ensures.exchanged c.if-found-old.true in
    let q = landing.sits g.K.Keeps.fits t x p (Stepped e (Outcome.Missed c.swap-found.result)) s.token.me.0 c.swap-found.new.token.me.0 _ _ p s.of s.seen s.hand miss (landing.missed_step g.K.Keeps.fits t x p e s.token.me c.lay.new.token.me c.swap-found.new.token.me _ c.swap-found.result s.seen.0 s.seen.1 s.of s.below c.requires.allowed c.requires.fits c.lay.ensures.same.2 c.lay.ensures.hand (c.codes-number.ensures.before ∙ ap (λ (o : Outline). before_of o.change) c.outline-outline.ensures.value) c.swap-found.ensures.exchanged c.if-found-old.true) in
    record { made = record { same = (c.swap-found.ensures.same.0 ∙ c.lay.ensures.same.0, c.swap-found.ensures.same.1 ∙ c.lay.ensures.same.1, refl, refl); came = miss.step; owes = q.owes }; kept = refl }

pub invariant_of-self-2 : goal.invariant_of-self-2
invariant_of-self-2 g c =
    let s = c.args.self.now in let t = s.standing.terms in let x : ℕ = s.standing.node in let p : Pending = s.standing.pending in let e : Event = c.args.event.now in
    let there = landing.taken_there g.K.Keeps.fits t x p e s.token.me c.lay.new.token.me c.swap-found.new.token.me _ c.swap-found.result s.seen.0 s.seen.1 s.of s.below c.requires.allowed c.requires.fits c.lay.ensures.same.2 c.lay.ensures.hand (c.codes-number.ensures.before ∙ ap (λ (o : Outline). before_of o.change) c.outline-outline.ensures.value) c.swap-found.ensures.exchanged c.if-found-old.false in
    let after = c.pick_up.ensures.line there.0 there.1 in
    let done = landing.done g.K.Keeps.fits t x p e s.token.me c.lay.new.token.me c.swap-found.new.token.me _ c.swap-found.result s.seen.0 s.seen.1 s.of s.below c.requires.allowed c.requires.fits c.lay.ensures.same.2 c.lay.ensures.hand (c.codes-number.ensures.before ∙ ap (λ (o : Outline). before_of o.change) c.outline-outline.ensures.value) c.swap-found.ensures.exchanged c.if-found-old.false c.pick_up.result there.0 c.pick_up.new.token.me (λ z k. took_same (row_of x p e).carry there.0 z c.swap-found.new.token.me.1 there.1 k) after.1 c.pick_up.ensures.same.2 c.pick_up.ensures.hand in
    let q = landing.sits g.K.Keeps.fits t x p (Stepped e (Outcome.Done c.pick_up.result)) s.token.me.0 c.pick_up.new.token.me.0 _ _ c.pick_up.new.standing.pending s.of s.seen s.hand done.0 (done.1 ∙ sym after.0) in
    let of = c.pick_up.ensures.standing.0 in let node = c.pick_up.ensures.standing.1 in
    record {
      of = q.of ∙ ap (λ z. Some z) (sym of);
      seen = (q.seen.0 ∙ sym node, q.seen.1, q.seen.2 ∙ ap (λ z. z.nodes) (sym of), q.seen.3);
      hand = q.hand ∙ ap (λ (z : ℕ). map slot_number (hand_of z c.pick_up.new.standing.pending)) (sym node);
      below = subst (λ (z : Terms g.row.K.Denot × ℕ). z.1 < z.0.nodes) (λ i. (sym of i, sym node i)) s.below;
    }

pub returns : goal.returns
returns g c =
    let s = c.args.self.now in let t = s.standing.terms in let x : ℕ = s.standing.node in let p : Pending = s.standing.pending in let e : Event = c.args.event.now in
    let there = landing.taken_there g.K.Keeps.fits t x p e s.token.me c.lay.new.token.me c.swap-found.new.token.me _ c.swap-found.result s.seen.0 s.seen.1 s.of s.below c.requires.allowed c.requires.fits c.lay.ensures.same.2 c.lay.ensures.hand (c.codes-number.ensures.before ∙ ap (λ (o : Outline). before_of o.change) c.outline-outline.ensures.value) c.swap-found.ensures.exchanged c.if-found-old.false in
    let after = c.pick_up.ensures.line there.0 there.1 in
    let done = landing.done g.K.Keeps.fits t x p e s.token.me c.lay.new.token.me c.swap-found.new.token.me _ c.swap-found.result s.seen.0 s.seen.1 s.of s.below c.requires.allowed c.requires.fits c.lay.ensures.same.2 c.lay.ensures.hand (c.codes-number.ensures.before ∙ ap (λ (o : Outline). before_of o.change) c.outline-outline.ensures.value) c.swap-found.ensures.exchanged c.if-found-old.false c.pick_up.result there.0 c.pick_up.new.token.me (λ z k. took_same (row_of x p e).carry there.0 z c.swap-found.new.token.me.1 there.1 k) after.1 c.pick_up.ensures.same.2 c.pick_up.ensures.hand in
    let q = landing.sits g.K.Keeps.fits t x p (Stepped e (Outcome.Done c.pick_up.result)) s.token.me.0 c.pick_up.new.token.me.0 _ _ c.pick_up.new.standing.pending s.of s.seen s.hand done.0 (done.1 ∙ sym after.0) in
    let of = c.pick_up.ensures.standing.0 in let node = c.pick_up.ensures.standing.1 in
    record {
      made = record {
        same = (c.pick_up.ensures.same.0 ∙ c.swap-found.ensures.same.0 ∙ c.lay.ensures.same.0, c.pick_up.ensures.same.1 ∙ c.swap-found.ensures.same.1 ∙ c.lay.ensures.same.1, node, of);
        came = done.0.step;
        owes = q.owes;
      };
      kept = refl;
    }
