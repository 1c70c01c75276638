-- A line of a log has no line end in it.
use Rattle.std.proofs.Common.{◌≡◌, ℕ, zero, suc, ◌+◌, ◌/◌, ◌%◌, ◌<◌, ◌≤◌, ◌&&◌, Bool, true, false, not, eqb, ltb, List, [], ◌∷◌, ◌++◌, codes, decimal, Option, Some, None, refl, sym, ap, subst, arith, ne_eqb, inl, inr}
use Rattle.std.specs.Fmt.{digit_glyph}
use Rattle.std.proofs.lemmas.Bool.{and_from, cases_Bool, not_from_false}
use Rattle.sci_words.specs.declared.tags.Tag.{Tag}
use Rattle.sci_words.specs.Tag.{name_of}
use Rattle.sci_core.specs.declared.events.Event.{Event}
use Rattle.sci_dump.specs.Text.{hexadecimal, values_text}
use Rattle.sci_port.specs.declared.watching.Ending.{Ending}
use Rattle.sci_port.specs.declared.watching.Load.{Load}
use Rattle.sci_logs.specs.TurnText.{entry_place, outcome_text}
use Rattle.sci_trace.specs.Events.{argument_text, event_name, written_text}
use Rattle.sci_trace.specs.Words.{found_text, link_word, of_text}
use Rattle.sci_laws.specs.ReadBack.{IsPlain, is_kept}
use Rattle.sci_laws.proofs.Plain.{decimal_plain, numbers_plain, plain_join, tag_plain}

pub place_plain : (node line : ℕ) → IsPlain (entry_place node line)
place_plain node line =
    plain_join (codes "node " ++ decimal node ++ codes " line " ++ decimal line) (codes " ")
    (plain_join (codes "node " ++ decimal node ++ codes " line ") (decimal line)
    (plain_join (codes "node " ++ decimal node) (codes " line ") (plain_join (codes "node ") (decimal node) refl (decimal_plain node)) refl) (decimal_plain line)) refl

pub name_plain : (event : Event) → IsPlain (event_name event)
name_plain Event.Look = refl
name_plain (Event.Queue forw) = refl
name_plain (Event.Requeue forw) = refl
name_plain Event.PrependValid = refl
name_plain Event.ReturnMemory = refl
name_plain (Event.AttachFresh found) = refl
name_plain Event.Settle = refl
name_plain (Event.Hold found) = refl
name_plain Event.Unhold = refl
name_plain (Event.Convert found) = refl
name_plain Event.FreshToGone = refl
name_plain Event.Converted = refl
name_plain Event.Unconverted = refl
name_plain (Event.BeginPurge found) = refl
name_plain (Event.Written words) = refl
name_plain Event.PrependGone = refl
name_plain (Event.AttachDirty found) = refl
name_plain Event.ReturnCopy = refl
name_plain (Event.PurgeOne found) = refl
name_plain Event.Advance = refl
name_plain Event.Clear = refl
name_plain (Event.Roll found) = refl
name_plain (Event.TellSuccessor found) = refl
name_plain (Event.TellPredecessor found) = refl
name_plain (Event.Adopt found) = refl
name_plain Event.Rolled = refl
name_plain (Event.Leave found) = refl
name_plain (Event.Promote found) = refl
name_plain Event.PassOn = refl
name_plain Event.Stay = refl
name_plain Event.ReEnter = refl
name_plain Event.ReturnHomeFresh = refl
name_plain Event.ReturnHomeDirty = refl
name_plain Event.Left = refl
name_plain Event.HomeWrite = refl

link_plain : (link : Option ℕ) → IsPlain (link_word link)
link_plain None = refl
link_plain (Some node) = decimal_plain node

of_plain : (load : Option Load) → IsPlain (of_text load)
of_plain None = refl
of_plain (Some (Load.Own tag)) = refl
of_plain (Some (Load.Mem mem)) = refl
of_plain (Some (Load.Tag node tag)) = plain_join (decimal node) (codes " ") (decimal_plain node) refl

pub values_plain : (values : List ℕ) → IsPlain (values_text values)
values_plain values = numbers_plain values

written_plain : (words : Option (List ℕ)) → IsPlain (written_text words)
written_plain None = refl
written_plain (Some words) = plain_join (codes "words") (values_text words) refl (values_plain words)

closed : (text : List ℕ) → IsPlain text → IsPlain (text ++ codes ")")
closed text p = plain_join text (codes ")") p refl

found_plain : (load : Option Load) (found : Tag) → IsPlain (found_text load found ++ codes ")")
found_plain load found = closed (found_text load found) (plain_join (of_text load) (name_of found) (of_plain load) (tag_plain found))

pub argument_plain : (load : Option Load) (event : Event) → IsPlain (argument_text load event [] (codes ")"))
argument_plain load (Event.Queue forw) = closed (link_word forw) (link_plain forw)
argument_plain load (Event.Requeue forw) = closed (link_word forw) (link_plain forw)
argument_plain load (Event.Written words) = closed (written_text words) (written_plain words)
argument_plain load (Event.AttachFresh found) = found_plain load found
argument_plain load (Event.Hold found) = found_plain load found
argument_plain load (Event.Convert found) = found_plain load found
argument_plain load (Event.BeginPurge found) = found_plain load found
argument_plain load (Event.AttachDirty found) = found_plain load found
argument_plain load (Event.PurgeOne found) = found_plain load found
argument_plain load (Event.Roll found) = found_plain load found
argument_plain load (Event.TellSuccessor found) = found_plain load found
argument_plain load (Event.TellPredecessor found) = found_plain load found
argument_plain load (Event.Adopt found) = found_plain load found
argument_plain load (Event.Leave found) = found_plain load found
argument_plain load (Event.Promote found) = found_plain load found
argument_plain load _ = refl

glyph_above : (d : ℕ) → 48 ≤ digit_glyph false d
glyph_above d = elim (cases_Bool (ltb d 10)) [
  | inl low ↦ rw low (omega arith)
  | inr high ↦ rw high (omega arith)
]

kept_above : (b : ℕ) → 48 ≤ b → is_kept b ≡ true
kept_above b high =
    let feed : eqb b 10 ≡ false = ne_eqb b 10 (λ e. absurd (omega (arith, e, high))) in
    let back : eqb b 13 ≡ false = ne_eqb b 13 (λ e. absurd (omega (arith, e, high))) in
    and_from (not (eqb b 10)) (not (eqb b 13)) (not_from_false (eqb b 10) feed) (not_from_false (eqb b 13) back)

hexadecimal_plain : (k n : ℕ) → IsPlain (hexadecimal k n)
unfolding hexadecimal
hexadecimal_plain zero n = refl
hexadecimal_plain (suc k) n =
    let last : IsPlain (digit_glyph false (n % 16) ∷ []) = and_from (is_kept (digit_glyph false (n % 16))) true (kept_above (digit_glyph false (n % 16)) (glyph_above (n % 16))) refl in
    plain_join (hexadecimal k (n / 16)) (digit_glyph false (n % 16) ∷ []) (hexadecimal_plain k (n / 16)) last

pub outcome_plain : (ending : Ending) → IsPlain (outcome_text ending)
outcome_plain Ending.Done = refl
outcome_plain (Ending.Missed word) = plain_join (codes " Missed ") (hexadecimal 16 word) refl (hexadecimal_plain 16 word)
outcome_plain Ending.Busy = refl
