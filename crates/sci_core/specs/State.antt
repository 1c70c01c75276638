-- The state of one line, by the number of the node. This project's profile of IEEE Std 1596-1992.
use Rattle.std.specs.Prelude.{ℕ, true, false, cond, eqb, ltb, Option, Some, None, replicate}
use Rattle.sci_words.specs.declared.tags.Kind.{Kind}
use Rattle.sci_words.specs.declared.tags.Tag.{Tag}
use Rattle.sci_words.specs.declared.memory.Mem.{Mem}
use Rattle.sci_words.specs.declared.memory.MemState.{MemState}
use Rattle.sci_core.specs.declared.lines.Line.{Line}
use Rattle.sci_core.specs.declared.pending.Pending.{Pending}

-- the memory word, each node's tag word and pending step, and the lines in the slots that are at home
pub record State : Type 0 where
  pub memory : Mem
  pub tags : ℕ → Tag
  pub steps : ℕ → Pending
  pub memory_slot : Option Line
  pub slots : ℕ → Option Line

-- f, but x at i
abbrev pub update : {A : Type 0} → (ℕ → A) → ℕ → A → ℕ → A
update f i x j = cond (eqb j i) x (f j)

-- a tag word that is not held
abbrev pub word : Kind → Option ℕ → Option ℕ → Tag
word k f b = record { kind = k; held = false; forw = f; back = b }

abbrev pub invalid : Tag
invalid = word Kind.Invalid None None

abbrev pub held_word : Tag → Tag
held_word t = record { kind = t.kind; held = true; forw = t.forw; back = t.back }

abbrev pub unheld_word : Tag → Tag
unheld_word t = record { kind = t.kind; held = false; forw = t.forw; back = t.back }

-- a memory word that is not lent
abbrev pub memory_word : MemState → Option ℕ → Mem
memory_word s f = record { state = s; lent = false; forw = f }

abbrev pub lent_word : Mem → Mem
lent_word m = record { state = m.state; lent = true; forw = m.forw }

abbrev pub unlent_word : Mem → Mem
unlent_word m = record { state = m.state; lent = false; forw = m.forw }

-- a line of zeros
abbrev pub blank : Line
blank = record { words = replicate 8 0; stamp = 0 }

-- a line of n nodes that nobody has used; there is no node from n on
abbrev pub opened : ℕ → Line → State
opened n l = record { memory = memory_word MemState.Home None; tags = λ _. invalid; steps = λ _. Pending.Idle; memory_slot = Some l; slots = λ i. Some (cond (ltb i n) l blank) }
