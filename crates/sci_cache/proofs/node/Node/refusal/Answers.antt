use Rattle.std.proofs.Common.{◌<◌, ◌≤◌, refl, sym, subst, ℕ}
use Rattle.sci_cache.specs.Requests.{has_bad_word}
use Rattle.sci_cache.proofs.Begun.{refused_open, refused_line, refused_word, accepted, no_bad_word}
use Rattle.sci_cache.proofs.node.Node.refusal.Goals as goal

pub returns-then-is_some : goal.returns-then-is_some
returns-then-is_some c = sym (refused_open _ _ c.self.view_is c.args.request.now (sym c.if-is_some.ensures))

pub returns-then-line-self : goal.returns-then-line-self
returns-then-line-self c = sym (refused_line _ _ c.self.view_is c.args.request.now (sym c.if-is_some.ensures) (subst (λ (k : ℕ). c.self.inside.lines ≤ k) c.line.ensures c.if-line-self.true))

pub returns-in_default : goal.returns-in_default
returns-in_default c = sym (refused_word _ _ c.self.view_is c.args.request.now (sym c.if-is_some.ensures) (subst (λ (k : ℕ). k < c.self.inside.lines) c.line.ensures c.if-line-self.false) (c.in_default.ensures.refused.0 refl))

pub returns : goal.returns
returns c = sym (accepted _ _ c.self.view_is c.args.request.now (sym c.if-is_some.ensures) (subst (λ (k : ℕ). k < c.self.inside.lines) c.line.ensures c.if-line-self.false) (no_bad_word (has_bad_word c.args.request.now) c.in-Ok.ensures.refused.1))
