-- What is told of a dump's lines, one after another.
use Rattle.std.proofs.Common.{◌≡◌, ℕ, ◌+◌, List, [], ◌∷◌, ◌++◌, length, take, Option, Ok, refl, sym, ap, ◌∙◌, subst, arith, inl, inr, length-append, append-nil, slice_index_or, None}
use Rattle.std.specs.Prelude.{codes}
use Rattle.std.specs.Io.KnownBytes.{Appends}
use Rattle.std.proofs.KnownBytes.{Appends-trans}
use Rattle.std.proofs.lemmas.List.{get_or_append_left, take-append-le}
use Rattle.std.proofs.lemmas.List.Elements.{All-push, All-nil}
use Rattle.std.proofs.Math.Seq.{get_or-append_seam, take-append_seam, take-append-add}
use Rattle.sci_core.specs.Closed.{ClosedLine, IsExactClosed}
use Rattle.sci_dump.specs.declared.checking.Rule.{Rule}
use Rattle.sci_dump.specs.declared.checking.Verdict.{Verdict}
use Rattle.sci_dump.specs.declared.checking.Verdict.TheVariants.{Lawful, Unlawful}
use Rattle.sci_dump.specs.declared.streams.StreamFault.{StreamFault}
use Rattle.sci_dump.specs.declared.streams.StreamFault.TheVariants as streams
use Rattle.sci_dump.specs.Dumps.{DumpLines}
use Rattle.sci_dump.specs.Reading.{dump_of}
use Rattle.sci_dump.specs.Rules.{KeepsEnding, BreaksFirst}
use Rattle.sci_dump.specs.Streams.{lines_before_fault, StopsBehind}
use Rattle.sci_serve.specs.declared.faults.SimFault.{SimFault}
use Rattle.sci_serve.specs.declared.faults.SimFault.TheVariants.{CannotRead, CannotWrite, InputTooLong, Refused, NoDump, Unlawful as SaysNo, NoRun}
use Rattle.sci_serve.specs.Explaining.{OfDump}
use Rattle.sci_serve.specs.Verdicts.{list_of, AreListsOf, unlawful_line}
use Rattle.sci_serve.specs.Large.{stream_fault_of, stream_reason_of, IsWhyStopped, IsTold, Tells, FailsTelling, FailsConcluding, ChecksLarge, StopsLarge}
use Rattle.sci_serve.proofs.Listing.{lists_more}

pub told_none : IsTold [] Lawful []
unfolding AreListsOf
told_none = (All-nil IsExactClosed, refl)

-- a lawful line behind lawful lines
pub told_lawful : (number : ℕ) (c : ClosedLine) (list : List ℕ) → IsExactClosed c → ((nodes : List ℕ) → KeepsEnding c nodes → list ≡ list_of number c nodes) → Tells Lawful number c Lawful list
told_lawful number c list exact is = λ cs text count told. (
  All-push IsExactClosed cs c told.0 exact,
  lists_more 0 number cs c text list (omega (arith, count)) told.1 (exact.0, exact.1.ending, is exact.0 exact.1.ending),
)

-- the first unlawful line
pub told_broken : (number : ℕ) (c : ClosedLine) (rule : Rule) (line : List ℕ) → BreaksFirst rule c → line ≡ unlawful_line number rule → Tells Lawful number c (Unlawful number rule) line
told_broken number c rule line breaks is = λ cs text count told. (
  record {
    is_line = omega (arith, count, length-append cs (c ∷ []));
    before = λ i d lt. subst IsExactClosed (sym (get_or_append_left cs (c ∷ []) d i (omega (arith, lt, count)))) (told.0 i d (omega (arith, lt, count)));
    breaks = λ d. subst (λ (x : ClosedLine). BreaksFirst rule x) (sym (get_or-append_seam cs c [] d) ∙ ap (λ (i : ℕ). slice_index_or (cs ++ c ∷ []) i d) count) breaks;
  },
  (
    text,
    subst (λ (ds : List ClosedLine). AreListsOf 0 ds text) (sym (take-append_seam cs (c ∷ [])) ∙ ap (λ (i : ℕ). take i (cs ++ c ∷ [])) count) told.1,
    ap (λ (xs : List ℕ). text ++ xs) is,
  ),
)

-- any line behind that
pub told_kept : (n : ℕ) (rule : Rule) (number : ℕ) (c : ClosedLine) → Tells (Unlawful n rule) number c (Unlawful n rule) []
told_kept n rule number c = λ cs text count told.
    let (first, (lists, are, is)) = told in (
      record {
        is_line = omega (arith, first.is_line, length-append cs (c ∷ []));
        before = λ i d lt. subst IsExactClosed (sym (get_or_append_left cs (c ∷ []) d i (omega (arith, lt, first.is_line)))) (first.before i d lt);
        breaks = λ d. subst (λ (x : ClosedLine). BreaksFirst rule x) (sym (get_or_append_left cs (c ∷ []) d n first.is_line)) (first.breaks d);
      },
      (
        lists,
        subst (λ (ds : List ClosedLine). AreListsOf 0 ds lists) (sym (take-append-le n cs (c ∷ []) (omega (arith, first.is_line)))) are,
        append-nil text ∙ is,
      ),
    )

-- what is told where the command ends so
abbrev pub Ends : SimFault → List ℕ → Option (List ℕ) → Option (List ℕ) → Type 0
Ends e input old new = (written : List ℕ) × StopsLarge e input written × Appends old new written

-- the reading stops behind these lines
pub stream_stops : (e : StreamFault) (input text : List ℕ) (cs : List ClosedLine) (verdict : Verdict) (old new : Option (List ℕ)) → take (length cs) (lines_before_fault input) ≡ cs → StopsBehind e input cs → IsTold cs verdict text → Appends old new text
    → Ends (stream_fault_of e) input old new
stream_stops streams.OutOfMemory input text cs verdict old new sound h told appended = (text, (length cs, verdict, subst (λ (ds : List ClosedLine). IsTold ds verdict text) (sym sound) told), appended)
stream_stops streams.CannotRead input text cs verdict old new sound h told appended = (text, (length cs, verdict, subst (λ (ds : List ClosedLine). IsTold ds verdict text) (sym sound) told), appended)
stream_stops (streams.DumpFault row) input text cs verdict old new sound h told appended = (text, (h.0.0, verdict, subst (λ (ds : List ClosedLine). IsTold ds verdict text) (sym h.1) told), appended)

-- and why
pub stream_row : (e : StreamFault) (input : List ℕ) (cs : List ClosedLine) → StopsBehind e input cs → OfDump (stream_fault_of e) input (stream_reason_of e)
stream_row streams.OutOfMemory input cs h = refl
stream_row streams.CannotRead input cs h = refl
stream_row (streams.DumpFault row) input cs h = (row, h.0, refl)

-- no line of text is refused
pub no_row : (e : SimFault) (input : List ℕ) → IsWhyStopped e None → OfDump e input None
no_row CannotRead input why = refl
no_row CannotWrite input why = refl
no_row InputTooLong input why = refl
no_row (Refused e) input why = refl
no_row (NoDump n) input why = absurd (let e = why.1 in cc)
no_row SaysNo input why = refl
no_row (NoRun e) input why = refl

-- a line isn't told
pub tell_stops : (e : SimFault) (input text : List ℕ) (cs : List ClosedLine) (c : ClosedLine) (before : Verdict) (number : ℕ) (old mid new : Option (List ℕ)) → take (length cs) (lines_before_fault input) ≡ cs
    → take (length (cs ++ c ∷ [])) (lines_before_fault input) ≡ cs ++ c ∷ [] → length cs ≡ number → IsTold cs before text → Appends old mid text → FailsTelling e before number c mid new → Ends e input old new
tell_stops e input text cs c before number old mid new sound more_sound count told appended (inl h) =
    subst (λ (f : SimFault). Ends f input old new) (sym h.0) (
      text,
      (length cs, before, subst (λ (ds : List ClosedLine). IsTold ds before text) (sym sound) told),
      subst (λ (xs : List ℕ). Appends old new xs) (append-nil text) (Appends-trans old mid new text [] appended h.1),
    )
tell_stops e input text cs c before number old mid new sound more_sound count told appended (inr (is, verdict, more, n, tells, less, front)) =
    let all : IsTold (take (length (cs ++ c ∷ [])) (lines_before_fault input)) verdict (text ++ more) = subst (λ (ds : List ClosedLine). IsTold ds verdict (text ++ more)) (sym more_sound) (tells cs text count told) in
    subst (λ (f : SimFault). Ends f input old new) (sym is) (
      text ++ take n more,
      (text ++ more, length text + n, inl (length (cs ++ c ∷ []), verdict, all), omega (arith, less, length-append text more), sym (take-append-add text more n)),
      Appends-trans old mid new text (take n more) appended front,
    )

-- a whole dump is judged
pub concluded : (input text : List ℕ) (dump : DumpLines) (verdict : Verdict) (old mid new : Option (List ℕ)) → dump_of input ≡ Ok dump → IsTold dump.lines verdict text → Appends old mid text
    → (verdict ≡ Lawful) × Appends mid new (codes "lawful\n") → (lists : List ℕ) × ChecksLarge input Lawful lists × Appends old new (lists ++ codes "lawful\n")
concluded input text dump verdict old mid new is told appended (lawful, last) =
    (text, (dump, is, subst (λ (v : Verdict). IsTold dump.lines v text) lawful told), Appends-trans old mid new text (codes "lawful\n") appended last)

pub not_concluded : (e : SimFault) (input text : List ℕ) (dump : DumpLines) (verdict : Verdict) (old mid new : Option (List ℕ)) → dump_of input ≡ Ok dump → IsTold dump.lines verdict text → Appends old mid text
    → FailsConcluding e verdict mid new → Ends e input old new
not_concluded e input text dump verdict old mid new is told appended (inl (says, number, rule, unlawful, last)) =
    subst (λ (f : SimFault). Ends f input old new) (sym says) (
      text,
      (number, rule, (dump, is, subst (λ (v : Verdict). IsTold dump.lines v text) unlawful told)),
      subst (λ (xs : List ℕ). Appends old new xs) (append-nil text) (Appends-trans old mid new text [] appended last),
    )
not_concluded e input text dump verdict old mid new is told appended (inr (cannot, lawful, n, less, front)) =
    let lists = subst (λ (v : Verdict). IsTold dump.lines v text) lawful told in
    subst (λ (f : SimFault). Ends f input old new) (sym cannot) (
      text ++ take n (codes "lawful\n"),
      (text ++ codes "lawful\n", length text + n, inr (text, (dump, is, lists), refl), omega (arith, less, length-append text (codes "lawful\n")), sym (take-append-add text (codes "lawful\n") n)),
      Appends-trans old mid new text (take n (codes "lawful\n")) appended front,
    )
