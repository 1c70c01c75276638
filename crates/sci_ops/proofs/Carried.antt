-- A loaded word that an event may carry.
use Rattle.std.proofs.Common.{◌≡◌, ◌∙◌, ℕ, ◌<◌, ltb, nat_eq, Bool, true, false, Option, Some, None, is_some, is_none, refl, ap, sym, subst, IsTrue, arith}
use Rattle.std.proofs.lemmas.Bool.Decides.{nat_tests}
use Rattle.std.specs.Prelude.{◌&&◌, not}
use Rattle.std.specs.Option.{option_eq}
use Rattle.sci_words.specs.Tag.{link_below, tag_well_formed}
use Rattle.sci_words.specs.Mem.{is_home}
use Rattle.sci_words.specs.declared.tags.Kind.{Kind}
use Rattle.sci_words.specs.declared.tags.Tag.{Tag}
use Rattle.sci_words.specs.declared.memory.MemState.{MemState}
use Rattle.sci_core.specs.Found.{is_found}
use Rattle.sci_core.specs.WellFormed.{IsTag}
use Rattle.sci_port.specs.Way.{Way}

-- of one of the kinds, not held, and well formed
pub carried : (k h w : Bool) → (k && not h) ≡ true → IsTrue w → (k && (not h && w)) ≡ true
carried true false true p q = refl
carried true false false p q = cc
carried true true w p q = cc
carried false h w p q = cc

pub carried_with : (k h w b : Bool) → ((k && not h) && b) ≡ true → IsTrue w → ((k && (not h && w)) && b) ≡ true
carried_with true false true b p q = p
carried_with true false false b p q = cc
carried_with true true w b p q = cc
carried_with false h w b p q = cc

pub when_carried : (a k h w : Bool) → (a && (k && not h)) ≡ true → IsTrue w → (a && (k && (not h && w))) ≡ true
when_carried true k h w p q = carried k h w p q
when_carried false k h w p q = cc

pub both : (a b : Bool) → a ≡ true → b ≡ true → (a && b) ≡ true
both true b p q = q
both false b p q = cc

pub first : (a b : Bool) → (a && b) ≡ true → a ≡ true
first true b h = refl
first false b h = h

pub second : (a b : Bool) → (a && b) ≡ true → b ≡ true
second true b h = h
second false b h = cc

pub negated : (a b : Bool) → b ≡ not a → a ≡ not b
negated true b h = sym (ap not h)
negated false b h = sym (ap not h)

-- a word of one of the kinds
pub found_as : (kinds : Kind → Bool) (t : Tag) (k : Kind) → t.kind ≡ k → kinds k ≡ true → t.held ≡ false → IsTrue (tag_well_formed t) → is_found kinds t ≡ true
found_as kinds t k e a h w = both (kinds t.kind) (not t.held && tag_well_formed t) (ap kinds e ∙ a) (both (not t.held) (tag_well_formed t) (ap not h) w)

-- on the way that stays the same, links name its nodes
pub link_at : (v w : Way) (f : Option ℕ) → w ≡ v → IsTrue (link_below v.nodes f) → link_below w.nodes f ≡ true
link_at v w f e h = subst (λ (x : Way). link_below x.nodes f ≡ true) (sym e) h

pub tag_at : (v w : Way) (t : Tag) → w ≡ v → IsTag v.nodes t → IsTag w.nodes t
tag_at v w t e h = subst (λ (x : Way). IsTag x.nodes t) (sym e) h

below : (x n : ℕ) → ltb x n ≡ true → x < n
below x n h = grind (arith, nat_tests, h)

pub node_below : (n : ℕ) (f : Option ℕ) (x : ℕ) → f ≡ Some x → IsTrue (link_below n f) → x < n
node_below n f x e h = below x n (subst (λ (o : Option ℕ). IsTrue (link_below n o)) e h)

-- where memory has no list, it names none
pub headless : (s : MemState) (g f : Option ℕ) → s ≡ MemState.Home → not (is_home s && is_some g) ≡ true → option_eq nat_eq g f ≡ true → is_none f ≡ true
headless s g None e w h = refl
headless MemState.Home (Some x) (Some y) e w h = cc
headless MemState.Home None (Some y) e w h = cc
headless MemState.Fresh g (Some y) e w h = cc
headless MemState.Gone g (Some y) e w h = cc

-- where memory has a list, it names a head
pub head_named : (s : MemState) (g f : Option ℕ) → s ≡ MemState.Gone → not (not (is_home s) && is_none g) ≡ true → option_eq nat_eq g f ≡ true → is_some f ≡ true
head_named s g (Some x) e w h = refl
head_named MemState.Gone None None e w h = w
head_named MemState.Gone (Some x) None e w h = h
head_named MemState.Home g None e w h = cc
head_named MemState.Fresh g None e w h = cc
