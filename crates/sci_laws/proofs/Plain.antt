-- What a command prints: whole lines, none of which is `ok` or a refusal.
use Rattle.std.proofs.Common.{◌≡◌, ℕ, zero, suc, ◌+◌, ◌/◌, ◌%◌, ◌<◌, ◌&&◌, Bool, true, false, not, eqb, List, [], ◌∷◌, ◌++◌, slice_index, codes, decimal, bytes_eq, flat_map, Option, Some, None, refl, sym, ap, subst, ◌∙◌, append_assoc, append-nil, arith, ne_eqb, lt-ltb, inl, inr}
use Rattle.std.specs.Fmt.{digit_glyph, digits, digits_onto}
use Rattle.std.specs.List.{list_all}
use Rattle.std.proofs.lemmas.Bool.{and_from, cases_Bool, not_from_false}
use Rattle.std.proofs.lemmas.List.Folds.{list_all-append}
use Rattle.std.proofs.lemmas.Grind.{flat_map-append}
use Rattle.sci_words.specs.declared.memory.Mem.{Mem}
use Rattle.sci_words.specs.declared.memory.MemState.{MemState}
use Rattle.sci_words.specs.declared.tags.Kind.{Kind}
use Rattle.sci_words.specs.declared.tags.Tag.{Tag}
use Rattle.sci_words.specs.Mem.{mem_name_of}
use Rattle.sci_words.specs.Tag.{name_of}
use Rattle.sci_ops.specs.declared.answers.Answer.TheVariants.{Seen, Wrote, Out, Spent}
use Rattle.sci_ops.specs.declared.answers.Turn.{Turn}
use Rattle.sci_ops.specs.declared.answers.Turn.TheVariants.{Moved, Waiting, Done}
use Rattle.sci_script.specs.declared.desk.Look.{Look}
use Rattle.sci_script.specs.Text.{turn_text, list_line, tag_line, look_line, entry_text, entries_text, chain_text, link_text, held_text}
use Rattle.sci_laws.specs.Accepted.{is_refusal}
use Rattle.sci_laws.specs.ReadBack.{is_kept, IsPlain}

pub plain_join : (xs ys : List ℕ) → IsPlain xs → IsPlain ys → IsPlain (xs ++ ys)
plain_join xs ys p q = rw (list_all-append is_kept xs ys, p, q) refl

glyph_kept : (d : ℕ) → d < 10 → is_kept (digit_glyph false d) ≡ true
glyph_kept d small =
    let glyph : digit_glyph false d ≡ 48 + d = rw (lt-ltb d 10 small) refl in
    let feed : eqb (48 + d) 10 ≡ false = ne_eqb (48 + d) 10 (λ e. absurd (omega (arith, e))) in
    let back : eqb (48 + d) 13 ≡ false = ne_eqb (48 + d) 13 (λ e. absurd (omega (arith, e))) in
    subst (λ (b : ℕ). is_kept b ≡ true) (sym glyph) (and_from (not (eqb (48 + d) 10)) (not (eqb (48 + d) 13)) (not_from_false (eqb (48 + d) 10) feed) (not_from_false (eqb (48 + d) 13) back))

digits_plain : (k n : ℕ) (acc : List ℕ) → IsPlain acc → IsPlain (digits_onto k 10 false n acc)
digits_plain zero n acc p = p
digits_plain (suc k) n acc p =
    let more : IsPlain (digit_glyph false (n % 10) ∷ acc) = rw (glyph_kept (n % 10) (omega arith), p) refl in
    elim (cases_Bool (eqb (n / 10) 0)) [
      | inl last ↦ rw last more
      | inr others ↦ rw others (digits_plain k (n / 10) (digit_glyph false (n % 10) ∷ acc) more)
    ]

pub decimal_plain : (n : ℕ) → IsPlain (decimal n)
unfolding digits
decimal_plain n = digits_plain 64 n [] refl

pub tag_plain : (t : Tag) → IsPlain (name_of t)
tag_plain t = by_kind t.kind t.held t.forw t.back
  where
    by_kind : (k : Kind) (held : Bool) (forw back : Option ℕ) → IsPlain (name_of (record { kind = k; held = held; forw = forw; back = back }))
    by_kind Kind.Invalid held forw back = refl
    by_kind Kind.Queued held forw back = refl
    by_kind Kind.Fresh held None back = refl
    by_kind Kind.Fresh held (Some x) back = refl
    by_kind Kind.Dirty held None back = refl
    by_kind Kind.Dirty held (Some x) back = refl
    by_kind Kind.Convert held forw back = refl
    by_kind Kind.Purging held forw back = refl
    by_kind Kind.Leaving held forw back = refl
    by_kind Kind.Valid held None back = refl
    by_kind Kind.Valid held (Some x) back = refl
    by_kind Kind.Roll held forw back = refl
    by_kind Kind.Purged held forw back = refl

mem_plain : (m : Mem) → IsPlain (mem_name_of m)
mem_plain m = by_state m.state m.forw m.lent
  where
    by_state : (s : MemState) (forw : Option ℕ) (lent : Bool) → IsPlain (mem_name_of (record { state = s; forw = forw; lent = lent }))
    by_state MemState.Home forw lent = refl
    by_state MemState.Fresh forw lent = refl
    by_state MemState.Gone forw lent = refl

-- a line that no talk adds
abbrev pub IsOwn : List ℕ → Type 0
IsOwn line = IsPlain line × (bytes_eq line (codes "ok") ≡ false) × (is_refusal line ≡ false)

abbrev pub Each : List (List ℕ) → Type 0
Each [] = Unit {0}
Each (line ∷ more) = IsOwn line × Each more

abbrev pub ended_line : List ℕ → List ℕ
ended_line line = line ++ codes "\n"

-- whole lines of a command's own
abbrev pub AreOwn : List ℕ → Type 0
AreOwn text = (own : List (List ℕ)) × Each own × (text ≡ flat_map ended_line own)

pub own_none : AreOwn []
own_none = ([], tt, refl)

own_one : (line : List ℕ) → IsOwn line → AreOwn (line ++ codes "\n")
own_one line own = (line ∷ [], (own, tt), sym (append-nil (line ++ codes "\n")))

each_join : (xs ys : List (List ℕ)) → Each xs → Each ys → Each (xs ++ ys)
each_join [] ys p q = q
each_join (x ∷ xs) ys p q = (p.0, each_join xs ys p.1 q)

pub own_join : (a b : List ℕ) → AreOwn a → AreOwn b → AreOwn (a ++ b)
own_join a b (xs, p, e) (ys, q, f) = (xs ++ ys, each_join xs ys p q, ap (λ (l : List ℕ). l ++ b) e ∙ ap (λ (l : List ℕ). flat_map ended_line xs ++ l) f ∙ sym (flat_map-append ended_line xs ys))

-- `node N`, and what stands behind it
abbrev node_front : ℕ → List ℕ
node_front node = codes "node " ++ decimal node

node_plain : (node : ℕ) → IsPlain (node_front node)
node_plain node = plain_join (codes "node ") (decimal node) refl (decimal_plain node)

node_own : (node : ℕ) (text : List ℕ) → IsPlain text → AreOwn (node_front node ++ (text ++ codes "\n"))
node_own node text p =
    subst AreOwn (append_assoc (node_front node) text (codes "\n")) (own_one (node_front node ++ text) (plain_join (node_front node) text (node_plain node) p, refl, refl))

pub turn_own : (node word : ℕ) (turn : Turn) → AreOwn (turn_text node word turn)
turn_own node word Moved = own_none
turn_own node word Waiting = node_own node (codes " waits") refl
turn_own node word (Done (Seen words stamp)) =
    let value = slice_index words word in
    let read = node_front node ++ codes " read " in
    let seen = read ++ decimal value in
    let stamped = seen ++ codes " stamp " in
    let p = plain_join read (decimal value) (plain_join (node_front node) (codes " read ") (node_plain node) refl) (decimal_plain value) in
    own_one (stamped ++ decimal stamp) (plain_join stamped (decimal stamp) (plain_join seen (codes " stamp ") p refl) (decimal_plain stamp), refl, refl)
turn_own node word (Done (Wrote before stamp)) =
    let wrote = node_front node ++ codes " wrote stamp " in
    own_one (wrote ++ decimal stamp) (plain_join wrote (decimal stamp) (plain_join (node_front node) (codes " wrote stamp ") (node_plain node) refl) (decimal_plain stamp), refl, refl)
turn_own node word (Done Out) = node_own node (codes " out") refl
turn_own node word (Done Spent) = node_own node (codes " refused 11") refl

entry_plain : (entry : ℕ × Tag) → IsPlain (entry_text entry)
entry_plain entry = plain_join (decimal entry.0 ++ codes " ") (name_of entry.1) (plain_join (decimal entry.0) (codes " ") (decimal_plain entry.0) refl) (tag_plain entry.1)

more_plain : (entries : List (ℕ × Tag)) → IsPlain (flat_map (λ (entry : ℕ × Tag). codes ", " ++ entry_text entry) entries)
more_plain [] = refl
more_plain (entry ∷ entries) = plain_join (codes ", " ++ entry_text entry) (flat_map (λ (entry : ℕ × Tag). codes ", " ++ entry_text entry) entries) (plain_join (codes ", ") (entry_text entry) refl (entry_plain entry)) (more_plain entries)

entries_plain : (entries : List (ℕ × Tag)) → IsPlain (entries_text entries)
entries_plain [] = refl
entries_plain (entry ∷ entries) =
    plain_join (codes " " ++ entry_text entry) (flat_map (λ (entry : ℕ × Tag). codes ", " ++ entry_text entry) entries) (plain_join (codes " ") (entry_text entry) refl (entry_plain entry)) (more_plain entries)

chain_plain : (forw : Option ℕ) (entries : List (ℕ × Tag)) → IsPlain (chain_text forw entries)
chain_plain None entries = refl
chain_plain (Some head) entries =
    let front = codes " " ++ decimal head in
    plain_join (front ++ codes ":") (entries_text entries) (plain_join front (codes ":") (plain_join (codes " ") (decimal head) refl (decimal_plain head)) refl) (entries_plain entries)

pub list_own : (line : ℕ) (mem : Mem) (entries : List (ℕ × Tag)) → AreOwn (list_line line mem entries)
list_own line mem entries =
    let front = codes "line " ++ decimal line in
    let space = front ++ codes " " in
    let named = space ++ mem_name_of mem in
    let p = plain_join space (mem_name_of mem) (plain_join front (codes " ") (plain_join (codes "line ") (decimal line) refl (decimal_plain line)) refl) (mem_plain mem) in
    own_one (named ++ chain_text mem.forw entries) (plain_join named (chain_text mem.forw entries) p (chain_plain mem.forw entries), refl, refl)

link_plain : (link : Option ℕ) → IsPlain (link_text link)
link_plain None = refl
link_plain (Some node) = decimal_plain node

held_plain : (held : Bool) → IsPlain (held_text held)
held_plain true = refl
held_plain false = refl

pub tag_own : (line node : ℕ) (tag : Tag) → AreOwn (tag_line line node tag)
tag_own line node tag =
    let front = codes "tag " ++ decimal line in
    let space = front ++ codes " " in
    let entry = space ++ entry_text (node, tag) in
    let forward = entry ++ codes " forw " in
    let linked = forward ++ link_text tag.forw in
    let back = linked ++ codes " back " in
    let whole = back ++ link_text tag.back in
    let p = plain_join space (entry_text (node, tag)) (plain_join front (codes " ") (plain_join (codes "tag ") (decimal line) refl (decimal_plain line)) refl) (entry_plain (node, tag)) in
    let q = plain_join forward (link_text tag.forw) (plain_join entry (codes " forw ") p refl) (link_plain tag.forw) in
    let r = plain_join back (link_text tag.back) (plain_join linked (codes " back ") q refl) (link_plain tag.back) in
    own_one (whole ++ held_text tag.held) (plain_join whole (held_text tag.held) r (held_plain tag.held), refl, refl)

pub numbers_plain : (numbers : List ℕ) → IsPlain (flat_map (λ (line : ℕ). codes " " ++ decimal line) numbers)
numbers_plain [] = refl
numbers_plain (line ∷ numbers) = plain_join (codes " " ++ decimal line) (flat_map (λ (line : ℕ). codes " " ++ decimal line) numbers) (plain_join (codes " ") (decimal line) refl (decimal_plain line)) (numbers_plain numbers)

pub look_own : (look : Look) → AreOwn (look_line look)
look_own (Look.Residents node lines) =
    let held = flat_map (λ (line : ℕ). codes " " ++ decimal line) lines.items in
    let front = node_front node ++ codes " residents" in
    own_one (front ++ held) (plain_join front held (plain_join (node_front node) (codes " residents") (node_plain node) refl) (numbers_plain lines.items), refl, refl)
