-- A log's lines, fed one after another to a follower that stands as the run's lines do, are without a fault, and are taken to the end.
use Rattle.std.proofs.Common.{◌≡◌, ◌≢◌, ◌∙◌, ◌⊎◌, ℕ, suc, ◌+◌, ◌-◌, ◌<◌, ◌≤◌, Bool, true, false, true≢false, eqb, cond, List, [], ◌∷◌, ◌++◌, length, take, drop, codes, bytes_eq, flat_map, Option, Some, None, Result, Ok, Err, Decides, All, refl, sym, ap, subst, arith, inl, inr, ⊎_elim, append-nil, append_assoc, take-append-drop, length-append, eqb-true, eq-eqb, ltb-true}
use Rattle.std.specs.Prelude.{if◌then◌else◌, nat_lt, ◌&&◌}
use Rattle.std.specs.Io.BufRead.{take_through, drop_through, ends_with_byte}
use Rattle.std.specs.Str.Lines.{strip_carriage_return}
use Rattle.std.proofs.BufReadLemmas.{drop_through-append, take_through-append}
use Rattle.std.proofs.lemmas.Bool.{cases_Bool, and_parts}
use Rattle.std.proofs.lemmas.Slice.Eq.{bytes_eq-Decides}
use Rattle.sci_core.specs.declared.lines.Line.{Line}
use Rattle.sci_core.specs.State.{State, opened}
use Rattle.sci_core.specs.Whole.{WholeLine, state_of, opened_whole}
use Rattle.sci_core.specs.declared.keeps.AnyWords.{AnyWords}
use Rattle.sci_core.proofs.States.{opened_state}
use Rattle.sci_dump.specs.Reading.{behind}
use Rattle.sci_dump.specs.ReadBack.{IsContent}
use Rattle.sci_script.specs.declared.commands.Opening.{Opening}
use Rattle.sci_script.specs.declared.commands.Size.{Size}
use Rattle.sci_script.specs.Openings.{content_of, zeros}
use Rattle.sci_script.specs.Size.{IsSize}
use Rattle.sci_script.specs.Unused.{AreOpened, no_line}
use Rattle.sci_script.specs.Words.{is_skipped}
use Rattle.sci_logs.specs.declared.entries.Deviation.{Deviation}
use Rattle.sci_logs.specs.declared.lines.Follower.{Follower}
use Rattle.sci_logs.specs.declared.logs.Log.{Log}
use Rattle.sci_logs.specs.declared.logs.LogFault.{LogFault}
use Rattle.sci_logs.specs.declared.parts.Lack.{Lack}
use Rattle.sci_logs.specs.declared.parts.Part.{Part}
use Rattle.sci_logs.specs.declared.told.Noted.{Noted}
use Rattle.sci_logs.specs.LineText.{◌>>=◌, acting_at, label_at, lack, memory_at, noted_at, numbered_at, opening_at, size_part, wants, word_and_space_at}
use Rattle.sci_logs.specs.Logs.{Begins, Continues, Ends, Feeds, FeedsBy, Notes, Opens, Reads}
use Rattle.sci_logs.specs.Steps.{AreUnused, Reopens, lines_of, unused, whole_at}
use Rattle.sci_logs.specs.Streams.{Cuts, FaultsWith, FeedsTo, FollowsAll, Reaches, StopsWith, without_end}
use Rattle.sci_logs.specs.Told.{IsNotedIn, TakesTold, is_told_in}
use Rattle.sci_logs.specs.TurnText.{opening_line}
use Rattle.sci_laws.specs.FollowedTurns.{AreReadAs}
use Rattle.sci_laws.specs.ReadBack.{IsPlain, IsReadAs}
use Rattle.sci_laws.proofs.Going.{AreNoted, Leads}
use Rattle.sci_laws.proofs.Kept.{AreKept, begins_with, reopens_on, takes_on}
use Rattle.sci_laws.proofs.OwnLines.{first_through, rest_through, whole_line}

-- ---- what a line that was read begins with

ok_of : {A B : Type 0} (r : Result A Lack) (f : A → Result B Lack) (y : B) → (r >>= f) ≡ Ok y → (x : A) × (r ≡ Ok x)
ok_of (Ok x) f y h = (x, refl)
ok_of (Err e) f y h = absurd (let e = h in cc)

some_of : {A : Type 0} (part : Part) (text : List ℕ) (read : Option A) (x : A) → wants part text read ≡ Ok x → (y : A) × (read ≡ Some y)
some_of part text (Some y) x h = (y, refl)
some_of part text None x h = absurd (let e = h in cc)

if_none : {A : Type 0} (b : Bool) (x : A) → b ≡ false → ◌≡◌ {A = Option A} (if b then Some x else None) None
if_none b x h = rw h refl

front_of : (front text rest : List ℕ) → behind front text ≡ Some rest → (more : List ℕ) × (text ≡ front ++ more)
unfolding behind
front_of front text rest h = elim (cases_Bool (bytes_eq (take (length front) text) front)) [
  | inl is ↦ (
    drop (length front) text,
    sym (take-append-drop (length front) text) ∙ ap (λ (l : List ℕ). l ++ drop (length front) text) ((bytes_eq-Decides (take (length front) text) front).0 is),
  )
  | inr other ↦ absurd (let e = sym (if_none (bytes_eq (take (length front) text) front) (drop (length front) text) other) ∙ h in cc)
]

word_front : (part : Part) (bytes text place : List ℕ) → word_and_space_at part bytes text ≡ Ok place → (more : List ℕ) × (text ≡ bytes ++ more)
unfolding word_and_space_at label_at
word_front part bytes text place h =
    let (rest, is) = ok_of (label_at part bytes text) _ place h in
    let (front, begins) = some_of part text (behind bytes text) rest is in front_of bytes text front begins

numbered_front : (first : Part) (bytes : List ℕ) (part : Part) (most : ℕ) (text : List ℕ) (x : ℕ × List ℕ) → numbered_at first bytes part most text ≡ Ok x → (more : List ℕ) × (text ≡ bytes ++ more)
unfolding numbered_at
numbered_front first bytes part most text x h = let (place, is) = ok_of (word_and_space_at first bytes text) _ x h in word_front first bytes text place is

noted_front : (text : List ℕ) (r : Noted) → noted_at text ≡ Ok r → (more : List ℕ) × (text ≡ codes "node" ++ more)
unfolding noted_at
noted_front text r h = let (node, acts) = ok_of (acting_at text) _ r h in numbered_front Part.Node (codes "node") Part.NodeNumber 65534 text node acts

opening_front : (text : List ℕ) (o : ℕ × Line) → opening_at text ≡ Ok o → (more : List ℕ) × (text ≡ codes "open" ++ more)
unfolding opening_at
opening_front text o h = let (rest, begins) = ok_of (word_and_space_at Part.Open (codes "open") text) _ o h in word_front Part.Open (codes "open") text rest begins

memory_front : (text : List ℕ) (size : Size) → memory_at text ≡ Ok size → (more : List ℕ) × (text ≡ codes "memory" ++ more)
unfolding memory_at
memory_front text size h = let (nodes, begins) = ok_of (numbered_at Part.Memory (codes "memory") size_part 65535 text) _ size h in numbered_front Part.Memory (codes "memory") size_part 65535 text nodes begins

noted_says : (text : List ℕ) (r : Noted) → noted_at text ≡ Ok r → is_skipped text ≡ false
noted_says text r h = let (more, is) = noted_front text r h in ap is_skipped is

opening_says : (text : List ℕ) (o : ℕ × Line) → opening_at text ≡ Ok o → is_skipped text ≡ false
opening_says text o h = let (more, is) = opening_front text o h in ap is_skipped is

memory_says : (text : List ℕ) (size : Size) → memory_at text ≡ Ok size → is_skipped text ≡ false
memory_says text size h = let (more, is) = memory_front text size h in ap is_skipped is

node_opens : (more : List ℕ) → (l : Lack) × (opening_at (codes "node" ++ more) ≡ Err l)
unfolding opening_at word_and_space_at label_at behind
node_opens more = (lack Part.Open (codes "node" ++ more), refl)

noted_opens : (text : List ℕ) (r : Noted) → noted_at text ≡ Ok r → (l : Lack) × (opening_at text ≡ Err l)
noted_opens text r h = let (more, is) = noted_front text r h in subst (λ (t : List ℕ). (l : Lack) × (opening_at t ≡ Err l)) (sym is) (node_opens more)

-- ---- no fault

abbrev pub IsMemory : LogFault → Type 0
IsMemory e = e ≡ LogFault.OutOfMemory

-- the next line has this fault, or the end has it
abbrev pub IsFault : List ℕ → ℕ → Log → LogFault → Type 0
IsFault rest n log e = ((0 < length rest) × Feeds n (without_end (take_through 10 rest)) log (Err e)) ⊎ ((rest ≡ []) × Ends n log (Err e))

-- from line n on a text is without a fault, but for want of memory
abbrev pub NoFault : List ℕ → ℕ → Log → Type 0
NoFault text n log = (lines : List (List ℕ)) (end : Log) (rest : List ℕ) (e : LogFault) → Cuts lines text rest → FeedsTo n lines log end
    → IsFault rest (n + length lines) end e → IsMemory e

-- so is a line of it
abbrev pub Passes : List ℕ → Log → (Log → Type 0) → Type 0
Passes line log Q = ((n : ℕ) (e : LogFault) → Feeds n line log (Err e) → IsMemory e) × ((n : ℕ) (mid : Log) → Feeds n line log (Ok mid) → Q mid)

line_first : (line text : List ℕ) (n : ℕ) (log : Log) (Q : Log → Type 0) → IsPlain line → Passes line log Q → ((k : ℕ) (mid : Log) → Q mid → NoFault text k mid)
    → (lines : List (List ℕ)) (end : Log) (rest : List ℕ) (e : LogFault) → Cuts lines ((line ++ codes "\n") ++ text) rest → FeedsTo n lines log end → IsFault rest (n + length lines) end e → IsMemory e
line_first line text n log Q plain (faults, on) later [] end rest e cut fed (inl (some, fault)) =
    let at : take_through 10 rest ≡ line ++ codes "\n" = ap (take_through 10) cut ∙ first_through line text plain in
    let said : without_end (take_through 10 rest) ≡ line = ap without_end at ∙ whole_line line plain in
    faults (n + 0) e (subst (λ (l : List ℕ). Feeds (n + 0) l log (Err e)) said (subst (λ (x : Log). Feeds (n + 0) (without_end (take_through 10 rest)) x (Err e)) fed fault))
line_first line text n log Q plain passes later [] end rest e cut fed (inr (none, fault)) =
    absurd (let all = ap length (sym cut ∙ none) in omega (arith, all, length-append (line ++ codes "\n") text, length-append line (codes "\n")))
line_first line text n log Q plain (faults, on) later (first ∷ lines) end rest e (some, is, cuts) (mid, fed, feeds) fault =
    let said : without_end first ≡ line = ap without_end (is ∙ first_through line text plain) ∙ whole_line line plain in
    let now : Q mid = on n mid (subst (λ (l : List ℕ). Feeds n l log (Ok mid)) said fed) in
    let at : n + length (first ∷ lines) ≡ n + 1 + length lines = omega arith in
    later (n + 1) mid now lines end rest e (subst (λ (t : List ℕ). Cuts lines t rest) (rest_through line text plain) cuts) feeds
    (subst (λ (k : ℕ). IsFault rest k end e) at fault)

-- the text is taken to its end
abbrev pub IsFed : List ℕ → ℕ → Log → Type 0
IsFed text n log = (lines : List (List ℕ)) × (end : Log) × Cuts lines text [] × FeedsTo n lines log end × Ends (n + length lines) end (Ok tt)

-- its lines are kept
abbrev pub IsKept : Log → Type 0
IsKept Log.New = Unit {0}
IsKept (Log.Opening f) = AreKept f
IsKept (Log.Running f) = AreKept f

-- a line is taken
abbrev pub IsTaken : List ℕ → Log → Type 0
IsTaken line log = (n : ℕ) → (mid : Log) × Feeds n line log (Ok mid) × IsKept mid

line_fed : (line text : List ℕ) (n : ℕ) (log : Log) (Q : Log → Type 0) → IsPlain line → Passes line log Q → IsTaken line log → ((k : ℕ) (mid : Log) → Q mid → IsKept mid → IsFed text k mid) → IsFed ((line ++ codes "\n") ++ text) n log
line_fed line text n log Q plain passes taken later =
    let (mid, fed, kept) = taken n in
    let (lines, end, cuts, feeds, ends) = later (n + 1) mid (passes.1 n mid fed) kept in
    let at : n + 1 + length lines ≡ n + length ((line ++ codes "\n") ∷ lines) = omega arith in (
      (line ++ codes "\n") ∷ lines,
      end,
      (
        omega (arith, length-append (line ++ codes "\n") text, length-append line (codes "\n")),
        sym (first_through line text plain),
        subst (λ (t : List ℕ). Cuts lines t []) (sym (rest_through line text plain)) cuts,
      ),
      (mid, subst (λ (l : List ℕ). Feeds n l log (Ok mid)) (sym (whole_line line plain)) fed, feeds),
      subst (λ (k : ℕ). Ends k end (Ok tt)) at ends,
    )

pub follows_so : (text : List ℕ) → IsFed text 1 Log.New → FollowsAll text
follows_so text (lines, log, cuts, feeds, ends) =
    let at : 1 + length lines ≡ length lines + 1 = omega arith in (lines, log, record { cuts = cuts; feeds = feeds }, subst (λ (k : ℕ). Ends k log (Ok tt)) at ends)

-- ---- a follower

-- it has lines of this size, which are so
abbrev pub Holds : Size → ((ℕ → State) → Type 0) → Log → Type 0
Holds size Q Log.New = ⊥
Holds size Q (Log.Opening f) = (f.size ≡ size) × Q (lines_of f)
Holds size Q (Log.Running f) = (f.size ≡ size) × Q (lines_of f)

ends_well : (size : Size) (Q : (ℕ → State) → Type 0) (n : ℕ) (log : Log) (e : LogFault) → Holds size Q log → Ends n log (Err e) → IsMemory e
ends_well size Q n Log.New e h k = absurd h
ends_well size Q n (Log.Opening f) e h k = absurd (cc)
ends_well size Q n (Log.Running f) e h k = absurd (cc)

pub nothing_left : (size : Size) (Q : (ℕ → State) → Type 0) (n : ℕ) (log : Log) → Holds size Q log
    → (lines : List (List ℕ)) (end : Log) (rest : List ℕ) (e : LogFault) → Cuts lines [] rest → FeedsTo n lines log end → IsFault rest (n + length lines) end e → IsMemory e
nothing_left size Q n log h [] end rest e cut fed (inl (some, fault)) = absurd (let none = ap length cut in omega (arith, some, none))
nothing_left size Q n log h [] end rest e cut fed (inr (none, fault)) = ends_well size Q (n + 0) log e h (subst (λ (x : Log). Ends (n + 0) x (Err e)) fed fault)
nothing_left size Q n log h (line ∷ lines) end rest e (some, is, cuts) feeds fault = absurd (omega (arith, some))

read_so : (n : ℕ) (line : List ℕ) (log : Log) (r : Result Log LogFault) → is_skipped line ≡ false → Feeds n line log r → Reads n line log r
read_so n line log r says h = subst (λ (b : Bool). FeedsBy b n line log r) says h

nothing_fed : (size : Size) (Q : (ℕ → State) → Type 0) (n : ℕ) (log : Log) → Holds size Q log → IsFed [] n log
nothing_fed size Q n Log.New h = absurd h
nothing_fed size Q n (Log.Opening f) h = ([], Log.Opening f, refl, refl, refl)
nothing_fed size Q n (Log.Running f) h = ([], Log.Running f, refl, refl, refl)

fed_so : (n : ℕ) (line : List ℕ) (log : Log) (r : Result Log LogFault) → is_skipped line ≡ false → Reads n line log r → Feeds n line log r
fed_so n line log r says h = subst (λ (b : Bool). FeedsBy b n line log r) (sym says) h

-- a line that tells what is answered so
module _ (size : Size) (r : Noted) (more : List Noted) (Q : (ℕ → State) → Type 0) (f : Follower) (same : f.size ≡ size) (inside : IsNotedIn size r) (leads : Leads size.nodes (lines_of f) (r ∷ more) Q) where
  notes_fault : (n : ℕ) (e : LogFault) → Notes n f (Ok r) (Err e) → IsMemory e
  notes_fault n LogFault.OutOfMemory h = refl
  notes_fault n (LogFault.Departs k why) (at, there, after, takes) = absurd (leads.1 why after (subst (λ (z : Size). TakesTold z.nodes (lines_of f) r (Err why) after) same takes))
  notes_fault n (LogFault.BadNumber k) (at, out) = absurd (out (subst (λ (z : Size). IsNotedIn z r) (sym same) inside))
  notes_fault n (LogFault.BadLine k) h = absurd h
  notes_fault n LogFault.CannotRead h = absurd h

  notes_on : (n : ℕ) (mid : Log) → Notes n f (Ok r) (Ok mid) → Holds size (λ lines. Leads size.nodes lines more Q) mid
  notes_on n (Log.Running g) (there, kept, takes) = (kept ∙ same, leads.2 (lines_of g) (subst (λ (z : Size). TakesTold z.nodes (lines_of f) r (Ok tt) (lines_of g)) same takes))
  notes_on n (Log.Opening g) h = absurd h
  notes_on n Log.New h = absurd h

told_passes : (size : Size) (line : List ℕ) (r : Noted) (more : List Noted) (Q : (ℕ → State) → Type 0) (log : Log) → noted_at line ≡ Ok r → IsNotedIn size r → Holds size (λ lines. Leads size.nodes lines (r ∷ more) Q) log
    → Passes line log (Holds size (λ lines. Leads size.nodes lines more Q))
told_passes size line r more Q Log.New reads inside h = absurd h
told_passes size line r more Q (Log.Opening f) reads inside (same, leads) =
    let noted : (n : ℕ) (x : Result Log LogFault) → Feeds n line (Log.Opening f) x → Notes n f (Ok r) x = λ n x h.
    subst (λ (o : Result Noted Lack). Notes n f o x) reads (subst (λ (o : Result (ℕ × Line) Lack). Continues n f o (noted_at line) x) (noted_opens line r reads).1 (read_so n line (Log.Opening f) x (noted_says line r reads) h)) in
    ((λ n e h. notes_fault size r more Q f same inside leads n e (noted n (Err e) h)), (λ n mid h. notes_on size r more Q f same inside leads n mid (noted n (Ok mid) h)))
told_passes size line r more Q (Log.Running f) reads inside (same, leads) =
    let noted : (n : ℕ) (x : Result Log LogFault) → Feeds n line (Log.Running f) x → Notes n f (Ok r) x = λ n x h.
    subst (λ (o : Result Noted Lack). Notes n f o x) reads (read_so n line (Log.Running f) x (noted_says line r reads) h) in
    ((λ n e h. notes_fault size r more Q f same inside leads n e (noted n (Err e) h)), (λ n mid h. notes_on size r more Q f same inside leads n mid (noted n (Ok mid) h)))

-- and it is taken
notes_so : (size : Size) (r : Noted) (more : List Noted) (Q : (ℕ → State) → Type 0) (f : Follower) (n : ℕ) → IsNotedIn size r → f.size ≡ size → Leads size.nodes (lines_of f) (r ∷ more) Q → AreKept f
    → (g : Follower) × Notes n f (Ok r) (Ok (Log.Running g)) × AreKept g
notes_so size r more Q f n inside same leads kept =
    let (after, takes) = leads.0 in
    let here : IsNotedIn f.size r = subst (λ (z : Size). IsNotedIn z r) (sym same) inside in
    let (node, others) = and_parts (nat_lt r.node f.size.nodes) (nat_lt r.line f.size.lines && is_told_in f.size.nodes r.told) here in
    let (line, told) = and_parts (nat_lt r.line f.size.lines) (is_told_in f.size.nodes r.told) others in
    let (g, size_same, now, to) = takes_on f r after kept (ltb-true r.node f.size.nodes node) (ltb-true r.line f.size.lines line) (subst (λ (z : Size). TakesTold z.nodes (lines_of f) r (Ok tt) after) (sym same) takes) in
    (g, (here, size_same, to), now)

told_taken : (size : Size) (line : List ℕ) (r : Noted) (more : List Noted) (Q : (ℕ → State) → Type 0) (log : Log) → noted_at line ≡ Ok r → IsNotedIn size r → Holds size (λ lines. Leads size.nodes lines (r ∷ more) Q) log
    → IsKept log → IsTaken line log
told_taken size line r more Q Log.New reads inside h kept = absurd h
told_taken size line r more Q (Log.Opening f) reads inside (same, leads) kept = λ n.
    let (g, notes, now) = notes_so size r more Q f n inside same leads kept in (
      Log.Running g,
      fed_so n line (Log.Opening f) (Ok (Log.Running g)) (noted_says line r reads)
          (subst (λ (o : Result (ℕ × Line) Lack). Continues n f o (noted_at line) (Ok (Log.Running g))) (sym (noted_opens line r reads).1) (subst (λ (o : Result Noted Lack). Notes n f o (Ok (Log.Running g))) (sym reads) notes)),
      now,
    )
told_taken size line r more Q (Log.Running f) reads inside (same, leads) kept = λ n.
    let (g, notes, now) = notes_so size r more Q f n inside same leads kept in (
      Log.Running g,
      fed_so n line (Log.Running f) (Ok (Log.Running g)) (noted_says line r reads) (subst (λ (o : Result Noted Lack). Notes n f o (Ok (Log.Running g))) (sym reads) notes),
      now,
    )

-- a text that tells of a run
pub told_fed : (size : Size) (told : List Noted) (text : List ℕ) (Q : (ℕ → State) → Type 0) (n : ℕ) (log : Log) → AreReadAs text told → AreNoted size told → Holds size (λ lines. Leads size.nodes lines told Q) log → IsKept log
    → IsFed text n log
told_fed size [] text Q n log is noted h kept = subst (λ (t : List ℕ). IsFed t n log) (sym is) (nothing_fed size Q n log h)
told_fed size (r ∷ more) text Q n log (line, rest, is, (said, ended, plain, reads), others) (inside, noted) h kept =
    subst (λ (t : List ℕ). IsFed t n log) (sym (is ∙ ap (λ (l : List ℕ). l ++ rest) ended))
    (line_fed said rest n log (Holds size (λ lines. Leads size.nodes lines more Q)) plain (told_passes size said r more Q log reads inside h) (told_taken size said r more Q log reads inside h kept)
    (λ k mid next now. told_fed size more rest Q k mid others noted next now))

pub told_fine : (size : Size) (told : List Noted) (text : List ℕ) (Q : (ℕ → State) → Type 0) (n : ℕ) (log : Log) → AreReadAs text told → AreNoted size told → Holds size (λ lines. Leads size.nodes lines told Q) log → NoFault text n log
told_fine size [] text Q n log is noted h = subst (λ (t : List ℕ). NoFault t n log) (sym is) (nothing_left size Q n log h)
told_fine size (r ∷ more) text Q n log (line, rest, is, (said, ended, plain, reads), others) (inside, noted) h =
    subst (λ (t : List ℕ). NoFault t n log) (sym (is ∙ ap (λ (l : List ℕ). l ++ rest) ended))
    (line_first said rest n log (Holds size (λ lines. Leads size.nodes lines more Q)) plain (told_passes size said r more Q log reads inside h) (λ k mid next. told_fine size more rest Q k mid others noted next))

-- ---- openings

-- lines that nobody has used, with these contents
abbrev pub Unused : Size → (ℕ → Line) → (ℕ → State) → Type 0
Unused size content lines = (line : ℕ) → line < size.lines → lines line ≡ opened size.nodes (content line)

abbrev pub IsOpening : Size → (ℕ → Line) → Log → Type 0
IsOpening size content Log.New = ⊥
IsOpening size content (Log.Opening f) = (f.size ≡ size) × Unused size content (lines_of f)
IsOpening size content (Log.Running f) = ⊥

if_so : (b : Bool) (x y : Line) → b ≡ true → (if b then x else y) ≡ x
if_so true x y h = refl
if_so false x y h = absurd (cc)

if_other : (b : Bool) (x y : Line) → b ≡ false → (if b then x else y) ≡ y
if_other true x y h = absurd (cc)
if_other false x y h = refl

abbrev pub with_opening : (ℕ → Line) → Opening → ℕ → Line
with_opening content o line = if eqb o.line line then o.content else content line

unused_is : (n : ℕ) (content : Line) → unused n content ≡ opened n content
unused_is n content = opened_state {K = AnyWords} (record {}) 0 n content

module _ (size : Size) (content : ℕ → Line) (o : Opening) (there : o.line < size.lines) (f : Follower) (same : f.size ≡ size) (unused_so : Unused size content (lines_of f)) where
  opens_fault : (n : ℕ) (e : LogFault) → Opens n f (o.line, o.content) (Err e) → IsMemory e
  opens_fault n LogFault.OutOfMemory h = refl
  opens_fault n (LogFault.BadNumber k) (at, out) = absurd (let lines = ap (λ (z : Size). z.lines) same in omega (arith, out, there, lines))
  opens_fault n (LogFault.BadLine k) h = absurd h
  opens_fault n (LogFault.Departs k why) h = absurd h
  opens_fault n LogFault.CannotRead h = absurd h

  opens_on : (n : ℕ) (mid : Log) → Opens n f (o.line, o.content) (Ok mid) → IsOpening size (with_opening content o) mid
  opens_on n Log.New h = absurd h
  opens_on n (Log.Running g) h = absurd h
  opens_on n (Log.Opening g) (inside, kept, (now, others)) = (
    kept ∙ same,
    (λ line low. elim (cases_Bool (eqb o.line line)) [
      | inl here ↦ subst (λ (l : ℕ). lines_of g l ≡ opened size.nodes o.content) (eqb-true o.line line here) (now ∙ ap (λ (z : Size). unused z.nodes o.content) same ∙ unused_is size.nodes o.content)
          ∙ ap (λ (c : Line). opened size.nodes c) (sym (if_so (eqb o.line line) o.content (content line) here))
      | inr apart ↦ others line (λ e. true≢false (sym (eq-eqb o.line line (sym e)) ∙ apart)) ∙ unused_so line low
          ∙ ap (λ (c : Line). opened size.nodes c) (sym (if_other (eqb o.line line) o.content (content line) apart))
    ]),
  )

opening_passes : (size : Size) (content : ℕ → Line) (o : Opening) (line : List ℕ) (log : Log) → o.line < size.lines → opening_at line ≡ Ok (o.line, o.content) → IsOpening size content log → Passes line log (IsOpening size (with_opening content o))
opening_passes size content o line Log.New there reads h = absurd h
opening_passes size content o line (Log.Running f) there reads h = absurd h
opening_passes size content o line (Log.Opening f) there reads (same, unused_so) =
    let opens : (n : ℕ) (x : Result Log LogFault) → Feeds n line (Log.Opening f) x → Opens n f (o.line, o.content) x = λ n x h.
    subst (λ (r : Result (ℕ × Line) Lack). Continues n f r (noted_at line) x) reads (read_so n line (Log.Opening f) x (opening_says line (o.line, o.content) reads) h) in
    ((λ n e h. opens_fault size content o there f same unused_so n e (opens n (Err e) h)), (λ n mid h. opens_on size content o there f same unused_so n mid (opens n (Ok mid) h)))

opening_taken : (size : Size) (content : ℕ → Line) (o : Opening) (line : List ℕ) (log : Log) → o.line < size.lines → opening_at line ≡ Ok (o.line, o.content) → IsOpening size content log → IsKept log → IsTaken line log
opening_taken size content o line Log.New there reads h kept = absurd h
opening_taken size content o line (Log.Running f) there reads h kept = absurd h
opening_taken size content o line (Log.Opening f) there reads (same, unused_so) kept = λ n.
    let here : o.line < f.size.lines = subst (λ (z : Size). o.line < z.lines) (sym same) there in
    let (g, size_same, now, reopens) = reopens_on f o.line o.content kept here in (
      Log.Opening g,
      fed_so n line (Log.Opening f) (Ok (Log.Opening g)) (opening_says line (o.line, o.content) reads)
          (subst (λ (r : Result (ℕ × Line) Lack). Continues n f r (noted_at line) (Ok (Log.Opening g))) (sym reads) (here, size_same, reopens)),
      now,
    )

-- openings in range, each read as it was written
abbrev pub AreOpenings : Size → List Opening → Type 0
AreOpenings size [] = Unit {0}
AreOpenings size (o ∷ openings) = (o.line < size.lines) × IsReadAs opening_at (opening_line o) (o.line, o.content) × AreOpenings size openings

contents_after : (ℕ → Line) → List Opening → ℕ → Line
contents_after content openings line = content_of line (content line) openings

pub openings_fine : (size : Size) (openings : List Opening) (content : ℕ → Line) (text : List ℕ) (n : ℕ) (log : Log) → AreOpenings size openings → IsOpening size content log
    → ((k : ℕ) (end : Log) → Holds size (Unused size (λ line. content_of line (content line) openings)) end → NoFault text k end) → NoFault (flat_map opening_line openings ++ text) n log
unfolding content_of
openings_fine size [] content text n (Log.Opening f) are h later = later n (Log.Opening f) h
openings_fine size [] content text n Log.New are h later = absurd h
openings_fine size [] content text n (Log.Running f) are h later = absurd h
openings_fine size (o ∷ openings) content text n log (there, (said, ended, plain, reads), are) h later =
    let rest = flat_map opening_line openings ++ text in
    subst (λ (t : List ℕ). NoFault t n log) (ap (λ (l : List ℕ). l ++ rest) (sym ended) ∙ sym (append_assoc (opening_line o) (flat_map opening_line openings) text))
    (line_first said rest n log (IsOpening size (with_opening content o)) plain (opening_passes size content o said log there reads h)
    (λ k mid next. openings_fine size openings (with_opening content o) text k mid are next later))

pub openings_fed : (size : Size) (openings : List Opening) (content : ℕ → Line) (text : List ℕ) (n : ℕ) (log : Log) → AreOpenings size openings → IsOpening size content log → IsKept log
    → ((k : ℕ) (end : Log) → Holds size (Unused size (λ line. content_of line (content line) openings)) end → IsKept end → IsFed text k end) → IsFed (flat_map opening_line openings ++ text) n log
unfolding content_of
openings_fed size [] content text n (Log.Opening f) are h kept later = later n (Log.Opening f) h kept
openings_fed size [] content text n Log.New are h kept later = absurd h
openings_fed size [] content text n (Log.Running f) are h kept later = absurd h
openings_fed size (o ∷ openings) content text n log (there, (said, ended, plain, reads), are) h kept later =
    let rest = flat_map opening_line openings ++ text in
    subst (λ (t : List ℕ). IsFed t n log) (ap (λ (l : List ℕ). l ++ rest) (sym ended) ∙ sym (append_assoc (opening_line o) (flat_map opening_line openings) text))
    (line_fed said rest n log (IsOpening size (with_opening content o)) plain (opening_passes size content o said log there reads h) (opening_taken size content o said log there reads h kept)
    (λ k mid next now. openings_fed size openings (with_opening content o) text k mid are next now later))

-- ---- the first line

module _ (size : Size) (is : IsSize size) where
  begins_fault : (n : ℕ) (e : LogFault) → Begins n (Ok size) (Err e) → IsMemory e
  begins_fault n LogFault.OutOfMemory h = refl
  begins_fault n (LogFault.BadNumber k) (at, out) = absurd (out is)
  begins_fault n (LogFault.BadLine k) h = absurd h
  begins_fault n (LogFault.Departs k why) h = absurd h
  begins_fault n LogFault.CannotRead h = absurd h

  begins_on : (n : ℕ) (mid : Log) → Begins n (Ok size) (Ok mid) → IsOpening size (λ line. zeros) mid
  unfolding content_of
  begins_on n Log.New h = absurd h
  begins_on n (Log.Running f) h = absurd h
  begins_on n (Log.Opening f) (there, same, unused_so) = (
    same,
    (λ line low. ap (λ (w : WholeLine AnyWords). state_of w) (unused_so line no_line low) ∙ opened_state {K = AnyWords} (whole_at f.lines.items line).keep line size.nodes zeros),
  )

  memory_passes : (line : List ℕ) → memory_at line ≡ Ok size → Passes line Log.New (IsOpening size (λ line. zeros))
  memory_passes line reads =
      let begins : (n : ℕ) (x : Result Log LogFault) → Feeds n line Log.New x → Begins n (Ok size) x = λ n x h. subst (λ (r : Result Size Lack). Begins n r x) reads (read_so n line Log.New x (memory_says line size reads) h) in
      ((λ n e h. begins_fault n e (begins n (Err e) h)), (λ n mid h. begins_on n mid (begins n (Ok mid) h)))

  pub head_fine : (line : List ℕ) (openings : List Opening) (text : List ℕ) → IsReadAs memory_at line size → AreOpenings size openings
      → ((k : ℕ) (log : Log) → Holds size (Unused size (λ line. content_of line zeros openings)) log → NoFault text k log) → NoFault ((line ++ flat_map opening_line openings) ++ text) 1 Log.New
  head_fine line openings text (said, ended, plain, reads) are later =
      let rest = flat_map opening_line openings ++ text in
      subst (λ (t : List ℕ). NoFault t 1 Log.New) (ap (λ (l : List ℕ). l ++ rest) (sym ended) ∙ sym (append_assoc line (flat_map opening_line openings) text))
      (line_first said rest 1 Log.New (IsOpening size (λ line. zeros)) plain (memory_passes said reads) (λ k mid next. openings_fine size openings (λ line. zeros) text k mid are next later))

  memory_taken : (line : List ℕ) → memory_at line ≡ Ok size → IsTaken line Log.New
  memory_taken line reads = λ n.
      let (f, same, unused_so, kept) = begins_with size is in (
        Log.Opening f,
        fed_so n line Log.New (Ok (Log.Opening f)) (memory_says line size reads) (subst (λ (r : Result Size Lack). Begins n r (Ok (Log.Opening f))) (sym reads) (is, same, unused_so)),
        kept,
      )

  pub head_fed : (line : List ℕ) (openings : List Opening) (text : List ℕ) → IsReadAs memory_at line size → AreOpenings size openings
      → ((k : ℕ) (log : Log) → Holds size (Unused size (λ line. content_of line zeros openings)) log → IsKept log → IsFed text k log) → IsFed ((line ++ flat_map opening_line openings) ++ text) 1 Log.New
  head_fed line openings text (said, ended, plain, reads) are later =
      let rest = flat_map opening_line openings ++ text in
      subst (λ (t : List ℕ). IsFed t 1 Log.New) (ap (λ (l : List ℕ). l ++ rest) (sym ended) ∙ sym (append_assoc line (flat_map opening_line openings) text))
      (line_fed said rest 1 Log.New (IsOpening size (λ line. zeros)) plain (memory_passes said reads) (memory_taken said reads)
      (λ k mid next kept. openings_fed size openings (λ line. zeros) text k mid are next kept later))

-- a text without a fault is followed, where it is read and memory lasts
fault_is : (text : List ℕ) (e : LogFault) → NoFault text 1 Log.New → FaultsWith e text → IsMemory e
fault_is text e none (log, rest, there) =
    let (lines, reaches, fault) = there in
    let at : length lines + 1 ≡ 1 + length lines = omega arith in
    none lines log rest e reaches.cuts reaches.feeds
    (subst (λ (k : ℕ). IsFault rest k log e) at fault)

pub stops_only : (text : List ℕ) (e : LogFault) → NoFault text 1 Log.New → StopsWith e text → (e ≡ LogFault.CannotRead) ⊎ (e ≡ LogFault.OutOfMemory)
stops_only text LogFault.CannotRead none h = inl refl
stops_only text LogFault.OutOfMemory none h = inr refl
stops_only text (LogFault.BadLine n) none h = inr (fault_is text (LogFault.BadLine n) none h)
stops_only text (LogFault.BadNumber n) none h = inr (fault_is text (LogFault.BadNumber n) none h)
stops_only text (LogFault.Departs n why) none h = inr (fault_is text (LogFault.Departs n why) none h)
