-- A talk about a script that is accepted: the script's text, and `ok` behind each line.
use Rattle.std.proofs.Common.{◌≡◌, ℕ, suc, ◌+◌, ◌-◌, ◌≤◌, Bool, true, false, eqb, cond, List, [], ◌∷◌, ◌++◌, length, codes, flat_map, Ok, refl, sym, ap, subst, ◌∙◌, arith, inl, inr, length-take, slice_index, if◌then◌else◌}
use Rattle.std.specs.List.{slice_split, onto_first}
use Rattle.std.specs.Str.Lines.{lines, lines_of_parts, strip_carriage_return}
use Rattle.std.proofs.lemmas.Bool.{cases_Bool}
use Rattle.sci_script.specs.declared.commands.Size.{Size}
use Rattle.sci_script.specs.declared.commands.Opening.{Opening}
use Rattle.sci_script.specs.declared.commands.Step.{Step}
use Rattle.sci_script.specs.declared.refusals.ScriptRefusal.{ScriptRefusal}
use Rattle.sci_script.specs.declared.refusals.ScriptRefusal.TheVariants.{OutOfMemory, BadCommand, BadNumber, NotDone, WriteFailed}
use Rattle.sci_script.specs.Format.{script_of}
use Rattle.sci_script.specs.ScriptText.{IsTextOf}
use Rattle.sci_script.specs.Talks.{Standing, Silent, Accepts, AcceptsAll}
use Rattle.sci_script.proofs.Saying.{of_script}
use Rattle.sci_script.proofs.Hearing.{heard_script}
use Rattle.sci_script.proofs.Printing.{IsOfTexts, of_accepted}
use Rattle.sci_serve.specs.declared.scripts.Form.{Form}
use Rattle.sci_laws.specs.Accepted.{without_ok, refuses}
use Rattle.sci_serve.specs.Serve.{Serves}
use Rattle.sci_serve.specs.Talked.{refused_line, Answers, Talks}
use Rattle.sci_laws.proofs.Plain.{AreOwn, own_none, own_join, turn_own, list_own, tag_own, look_own}
use Rattle.sci_laws.proofs.OwnLines.{first_line, without_more, refuses_more}

own_texts : IsOfTexts AreOwn
own_texts = record { none = own_none; join = own_join; turn = turn_own; list = list_own; tag = tag_own; look = look_own }

-- no line is longer than this
abbrev Short : ℕ → List (List ℕ) → Type 0
Short n [] = Unit {0}
Short n (line ∷ more) = (length line ≤ n) × Short n more

short_more : (n : ℕ) (parts : List (List ℕ)) → Short n parts → Short (suc n) parts
short_more n [] h = tt
short_more n (part ∷ parts) h = (omega (arith, h.0), short_more n parts h.1)

short_onto : (n b : ℕ) (parts : List (List ℕ)) → Short n parts → Short (suc n) (onto_first b parts)
short_onto n b [] h = (omega arith, tt)
short_onto n b (part ∷ parts) h = (omega (arith, h.0), short_more n parts h.1)

short_parts : (bytes : List ℕ) → Short (length bytes) (slice_split (λ b. eqb b 10) bytes)
short_parts [] = (omega arith, tt)
short_parts (b ∷ bytes) =
    let others = slice_split (λ b. eqb b 10) bytes in
    elim (cases_Bool (eqb b 10)) [
      | inl end ↦ subst (λ (x : Bool). Short (length (b ∷ bytes)) (cond x ([] ∷ others) (onto_first b others))) (sym end) (omega arith, short_more (length bytes) others (short_parts bytes))
      | inr other ↦ subst (λ (x : Bool). Short (length (b ∷ bytes)) (cond x ([] ∷ others) (onto_first b others))) (sym other) (short_onto (length bytes) b others (short_parts bytes))
    ]

short_strip : (n : ℕ) (line : List ℕ) → length line ≤ n → length (strip_carriage_return line) ≤ n
short_strip n line h = elim (cases_Bool (eqb (slice_index line (length line - 1)) 13)) [
  | inl cut ↦ rw cut (omega (arith, length-take (length line - 1) line, h))
  | inr whole ↦ rw whole h
]

short_last : (n : ℕ) (b : Bool) (part : List ℕ) → length part ≤ n → Short n (if b then [] else part ∷ [])
short_last n true part h = tt
short_last n false part h = (h, tt)

short_lines : (n : ℕ) (parts : List (List ℕ)) → Short n parts → Short n (lines_of_parts parts)
short_lines n [] h = tt
short_lines n (part ∷ []) h = short_last n (eqb (length part) 0) part h.0
short_lines n (part ∷ (next ∷ more)) h = (short_strip n part h.0, short_lines n (next ∷ more) h.1)

short_by : (n m : ℕ) (parts : List (List ℕ)) → n ≤ m → Short n parts → Short m parts
short_by n m [] le h = tt
short_by n m (part ∷ parts) le h = (omega (arith, le, h.0), short_by n m parts le h.1)

-- what the parts are together
abbrev together : List (List ℕ) → List ℕ
together parts = flat_map (λ (part : List ℕ). part) parts

talk_of : (said : List (List ℕ)) (s t : Standing) (parts : List (List ℕ)) → Short 1048576 said → AcceptsAll s said parts t
    → (talk : List ℕ) × Talks s said talk t × (refuses talk ≡ false) × (without_ok talk ≡ together parts)
talk_of [] s t parts short a = ([], (refl, a.1), refl, sym (ap together a.0))
talk_of (line ∷ said) s t parts short (first, rest, mid, a, all, is) =
    let (talk, talks, none, without) = talk_of said mid t rest short.1 all in
    let own = of_accepted AreOwn own_texts s mid line first a in (
      (first ++ codes "ok\n") ++ talk,
      (first ++ codes "ok\n", talk, mid, inl (first, (short.0, a), refl), talks, refl),
      refuses_more first talk own ∙ none,
      without_more first talk own ∙ ap (λ (l : List ℕ). first ++ l) without ∙ sym (ap together is),
    )

-- a refused line is told
told : (e : ScriptRefusal) (rest : List ℕ) → refuses (refused_line e ++ rest) ≡ true
told OutOfMemory rest = rw (first_line (codes "refused 7") rest refl) refl
told (BadCommand n) rest = rw (first_line (codes "refused 16") rest refl) refl
told (BadNumber n) rest = rw (first_line (codes "refused 17") rest refl) refl
told (NotDone n) rest = rw (first_line (codes "refused 18") rest refl) refl
told WriteFailed rest = rw (first_line (codes "refused 24") rest refl) refl

accepted : (s mid : Standing) (line first rest : List ℕ) → Answers s line first mid → refuses (first ++ rest) ≡ false
    → (printed : List ℕ) × Accepts s line printed mid × (refuses rest ≡ false) × (without_ok (first ++ rest) ≡ printed ++ without_ok rest)
accepted s mid line first rest (inl (printed, (short, a), is)) none =
    let own = of_accepted AreOwn own_texts s mid line printed a in
    let all : first ++ rest ≡ (printed ++ codes "ok\n") ++ rest = ap (λ (l : List ℕ). l ++ rest) is in
    (printed, a, sym (refuses_more printed rest own) ∙ sym (ap refuses all) ∙ none, ap without_ok all ∙ without_more printed rest own)
accepted s mid line first rest (inr (e, refused, is)) none =
    let yes : refuses (first ++ rest) ≡ true = ap (λ (l : List ℕ). refuses (l ++ rest)) is ∙ told e rest in absurd (cc)

parts_of : (said : List (List ℕ)) (s t : Standing) (talk : List ℕ) → Talks s said talk t → refuses talk ≡ false
    → (parts : List (List ℕ)) × AcceptsAll s said parts t × (together parts ≡ without_ok talk)
parts_of [] s t talk k none = ([], (refl, k.1), sym (ap without_ok k.0))
parts_of (line ∷ said) s t talk (first, rest, mid, now, more, is) none =
    let (printed, a, left, without) = accepted s mid line first rest now (sym (ap refuses is) ∙ none) in
    let (parts, all, same) = parts_of said mid t rest more left in
    (printed ∷ parts, (printed, parts, mid, a, all, refl), ap (λ (l : List ℕ). printed ++ l) same ∙ sym without ∙ sym (ap without_ok is))

pub talked_so : (input text : List ℕ) → Serves 1048576 Form.Script input text → (talk : List ℕ) × (t : Standing) × Talks Silent (lines input) talk t × (refuses talk ≡ false) × (without_ok talk ≡ text)
talked_so input text (long, size, capacity, openings, steps, is, written) =
    let (parts, t, all, whole) = of_script input text (size, capacity, openings, steps) is written in
    let short = short_by (length input) 1048576 (lines input) long (short_lines (length input) (slice_split (λ b. eqb b 10) input) (short_parts input)) in
    let (talk, talks, none, without) = talk_of (lines input) Silent t parts short all in
    (talk, t, talks, none, without ∙ whole)

pub printed_so : (input talk : List ℕ) (script : Size × ℕ × List Opening × List Step) (t : Standing) → script_of input ≡ Ok script → Talks Silent (lines input) talk t → refuses talk ≡ false
    → IsTextOf script.0 script.1 script.2 script.3 (without_ok talk)
printed_so input talk script t is talks none =
    let (parts, all, same) = parts_of (lines input) Silent t talk talks none in heard_script input (without_ok talk) script is (parts, t, all, same)
