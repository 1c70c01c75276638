-- What no call of a port changes, no calls one after another change.
use Rattle.std.proofs.Common.{◌≡◌, List, [], ◌∷◌, ap, ◌∙◌}
use Rattle.sci_port.specs.declared.calls.Call.{Call}
use Rattle.sci_port.specs.Call.{Chain}

pub chain_keeps : {S A : Type 0} (f : S → A) (gives : S → Call → S → Type 0) → ((s : S) (call : Call) (t : S) → gives s call t → f t ≡ f s) → (s : S) (calls : List Call) (t : S) → Chain gives s calls t → f t ≡ f s
chain_keeps f gives keep s [] t h = ap f h
chain_keeps f gives keep s (c ∷ cs) t h = chain_keeps f gives keep h.0 cs t h.2 ∙ keep s c h.0 h.1
