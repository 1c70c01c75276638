use Rattle.std.proofs.Common.{◌≡◌, ◌++◌, ◌∷◌, [], List, Option, None, ℕ, rules, length, subst, sym, ap, arith}
use Rattle.std.proofs.lemmas.List.{length-append}
use Rattle.sci_words.specs.declared.memory.Mem.{Mem}
use Rattle.sci_words.specs.declared.tags.Tag.{Tag}
use Rattle.sci_core.specs.Whole.{nodes_of, state_of}
use Rattle.sci_core.proofs.Walking.{Walk, walk_start, walk_more, walk_below, walk_short, walk_end}
use Rattle.sci_core.proofs.whole.Whole.chain.Goals as goal

pub loop-next-init : goal.loop-next-init
loop-next-init g c = walk_start _ _ _ _ _ c.nodes.ensures.lawful (search rules) (ap (λ (m : Mem). m.forw) c.mem-next.ensures.value)

pub tag-next-requires : goal.tag-next-requires
tag-next-requires g c =
    let walk = subst (λ (x : Option ℕ). Walk (nodes_of c.args.self.now) (state_of c.args.self.now) c.loop-next.chain.items x) c.in-Some.is c.loop-next.invariant in
    walk_below _ _ _ _ walk

pub loop-next-smaller : goal.loop-next-smaller
loop-next-smaller g c =
    let walk = subst (λ (x : Option ℕ). Walk (nodes_of c.args.self.now) (state_of c.args.self.now) c.loop-next.chain.items x) c.in-Some.is c.loop-next.invariant in
    let short = walk_short _ _ _ _ walk in
    let items : c.push.new.self.items ≡ c.loop-next.chain.items ++ c.in-Some.node ∷ [] = search rules in
    omega (arith, short, ap (length {A = ℕ}) items, length-append c.loop-next.chain.items (c.in-Some.node ∷ []))

pub loop-next-preserved : goal.loop-next-preserved
loop-next-preserved g c =
    let walk = subst (λ (x : Option ℕ). Walk (nodes_of c.args.self.now) (state_of c.args.self.now) c.loop-next.chain.items x) c.in-Some.is c.loop-next.invariant in
    let items : c.push.new.self.items ≡ c.loop-next.chain.items ++ c.in-Some.node ∷ [] = search rules in
    subst (λ (l : List ℕ). Walk (nodes_of c.args.self.now) (state_of c.args.self.now) l c.tag-next.result.forw) (sym items)
    (subst (λ (x : Option ℕ). Walk (nodes_of c.args.self.now) (state_of c.args.self.now) (c.loop-next.chain.items ++ c.in-Some.node ∷ []) x) (sym (ap (λ (t : Tag). t.forw) c.tag-next.ensures.value)) (walk_more _ _ _ _ walk))

pub returns : goal.returns
returns g c =
    let none : c.loop-next.next ≡ None = search rules in
    walk_end _ _ _ (subst (λ (x : Option ℕ). Walk (nodes_of c.args.self.now) (state_of c.args.self.now) c.loop-next.chain.items x) none c.loop-next.invariant)
