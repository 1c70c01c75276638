-- The text of a history is read as that history.
use Rattle.std.proofs.Common.{if◌then◌else◌, ◌≡◌, ◌≢◌, ℕ, zero, suc, ◌+◌, ◌<◌, ◌≤◌, ◌^◌, ◌||◌, Bool, true, false, List, [], ◌∷◌, ◌++◌, length, All, Option, Some, None, is_some, Result, Ok, refl, sym, ap, ◌∙◌, subst, arith, codes, decimal, append_assoc, length-append}
use Rattle.sci_core.specs.declared.lines.Line.{Line}
use Rattle.sci_core.specs.declared.receipts.Receipt.{Receipt}
use Rattle.sci_core.specs.declared.receipts.Receipt.TheVariants.{Read, Passed, Wrote}
use Rattle.sci_core.specs.declared.whole.TheConstants.{MOST_NODES}
use Rattle.sci_dump.specs.declared.refusals.DumpRefusal.{DumpRefusal}
use Rattle.sci_dump.specs.ReadBack.{IsContent}
use Rattle.sci_dump.specs.Reading.{◌>>=◌, ◌>>>◌, Gives, on_line, behind, numbered_at, value_at, values_at, content_at, count_at, counted_at}
use Rattle.sci_dump.specs.Text.{values_text}
use Rattle.sci_dump.proofs.FieldsBack.{NoDigit, then_read, behind_own, value_own, values_own, content_own, numbered_own, numbered_other, count_own}
use Rattle.sci_histories.specs.Histories.{LineReceipts, HistoryLines}
use Rattle.sci_histories.specs.ReadBack.{IsReceipt, IsLineOf, CanBeWritten}
use Rattle.sci_histories.specs.Reading.{next, named_at, row_at, read_at, passed_at, wrote_at, begins_at, receipt_by, receipt_at, receipts_at, lists_at, line_at, lines_at, head_at, ended, end_at, history_of}
use Rattle.sci_histories.specs.Text.{row_text, receipt_text, list_text, lists_text, line_text, lines_text, history_text}

then_ok : {A B : Type 0} (r : Result A DumpRefusal) (f : A → Result B DumpRefusal) (x : A) (y : Result B DumpRefusal) → r ≡ Ok x → f x ≡ y → (r >>> f) ≡ y
then_ok r f x y is next = rw is next

line_is : {A : Type 0} (n : ℕ) (r : Option A) (x : A) → r ≡ Some x → on_line n r ≡ Ok x
line_is n r x is = rw is refl

-- a row's text, its label apart
apart : (label number values tail rest : List ℕ) → (label ++ number ++ values ++ tail) ++ rest ≡ label ++ (number ++ (values ++ (tail ++ rest)))
apart label number values tail rest = simp append_assoc

-- behind a label, and behind another one
named_own : (label : List ℕ) (number : ℕ) (stamp : ℕ) (words rest : List ℕ) → number < 2 ^ 64 → named_at label number (label ++ (decimal number ++ (values_text (stamp ∷ words) ++ rest))) ≡ Some (values_text (stamp ∷ words) ++ rest)
unfolding named_at
named_own label number stamp words rest small =
    let two : List ℕ = values_text (stamp ∷ words) ++ rest in
    then_read (behind label (label ++ (decimal number ++ two))) _ (decimal number ++ two) (Some two) (behind_own label (decimal number ++ two)) (numbered_own number two small refl)

named_other : (label : List ℕ) (number other : ℕ) (stamp : ℕ) (words rest : List ℕ) → other < 2 ^ 64 → other ≢ number → named_at label number (label ++ (decimal other ++ (values_text (stamp ∷ words) ++ rest))) ≡ None
unfolding named_at
named_other label number other stamp words rest small differ =
    let two : List ℕ = values_text (stamp ∷ words) ++ rest in
    then_read (behind label (label ++ (decimal other ++ two))) _ (decimal other ++ two) None (behind_own label (decimal other ++ two)) (numbered_other number other two small differ refl)

-- a text that begins otherwise
passed_no_read : (number : ℕ) (rest : List ℕ) → named_at (codes "read ") number (codes "passed " ++ rest) ≡ None
unfolding named_at behind
passed_no_read number rest = refl

wrote_no_read : (number : ℕ) (rest : List ℕ) → named_at (codes "read ") number (codes "wrote " ++ rest) ≡ None
unfolding named_at behind
wrote_no_read number rest = refl

wrote_no_passed : (number : ℕ) (rest : List ℕ) → named_at (codes "passed ") number (codes "wrote " ++ rest) ≡ None
unfolding named_at behind
wrote_no_passed number rest = refl

read_no_passed : (number : ℕ) (rest : List ℕ) → named_at (codes "passed ") number (codes "read " ++ rest) ≡ None
unfolding named_at behind
read_no_passed number rest = refl

read_no_wrote : (number : ℕ) (rest : List ℕ) → named_at (codes "wrote ") number (codes "read " ++ rest) ≡ None
unfolding named_at behind
read_no_wrote number rest = refl

passed_no_wrote : (number : ℕ) (rest : List ℕ) → named_at (codes "wrote ") number (codes "passed " ++ rest) ≡ None
unfolding named_at behind
passed_no_wrote number rest = refl

-- what the text of a receipt is read as
abbrev IsReadAs : ℕ → Receipt → List ℕ → List ℕ → Type 0
IsReadAs node r rest text = (begins_at node text ≡ true) × (receipt_at node text ≡ Some (r, rest))

by_read : (node : ℕ) (text mid : List ℕ) (x : Option (Receipt × List ℕ)) → named_at (codes "read ") node text ≡ Some mid → read_at mid ≡ x → (begins_at node text ≡ true) × (receipt_at node text ≡ x)
unfolding begins_at receipt_at
by_read node text mid x h k = (rw h refl, rw h k)

by_passed : (node : ℕ) (text mid : List ℕ) (x : Option (Receipt × List ℕ)) → named_at (codes "read ") node text ≡ None → named_at (codes "passed ") node text ≡ Some mid → passed_at mid ≡ x → (begins_at node text ≡ true) × (receipt_at node text ≡ x)
unfolding begins_at receipt_at
by_passed node text mid x n h k = (rw (n, h) refl, rw (n, h) k)

by_wrote : (node : ℕ) (text mid : List ℕ) (x : Option (Receipt × List ℕ)) → named_at (codes "read ") node text ≡ None → named_at (codes "passed ") node text ≡ None → named_at (codes "wrote ") node text ≡ Some mid → wrote_at mid ≡ x
    → (begins_at node text ≡ true) × (receipt_at node text ≡ x)
unfolding begins_at receipt_at
by_wrote node text mid x n m h k = (rw (n, m, h) refl, rw (n, m, h) k)

read_own : (stamp : ℕ) (words rest : List ℕ) → IsContent (record { words = words; stamp = stamp }) → read_at (values_text (stamp ∷ words) ++ (codes "\n" ++ rest)) ≡ Some (Read words stamp, rest)
unfolding read_at
read_own stamp words rest is = then_read (content_at (values_text (stamp ∷ words) ++ (codes "\n" ++ rest))) _ (record { words = words; stamp = stamp }, rest) (Some (Read words stamp, rest)) (content_own (record { words = words; stamp = stamp }) rest is) refl

passed_own : (stamp : ℕ) (words rest : List ℕ) → IsContent (record { words = words; stamp = stamp }) → passed_at (values_text (stamp ∷ words) ++ (codes "\n" ++ rest)) ≡ Some (Passed words stamp, rest)
unfolding passed_at
passed_own stamp words rest is = then_read (content_at (values_text (stamp ∷ words) ++ (codes "\n" ++ rest))) _ (record { words = words; stamp = stamp }, rest) (Some (Passed words stamp, rest)) (content_own (record { words = words; stamp = stamp }) rest is) refl

values_eight : (words rest : List ℕ) → All (λ w. w < 2 ^ 64) words → length words ≡ 8 → values_at 8 (values_text words ++ (codes " over" ++ rest)) ≡ Some (words, codes " over" ++ rest)
values_eight words rest small eight = subst (λ (k : ℕ). values_at k (values_text words ++ (codes " over" ++ rest)) ≡ Some (words, codes " over" ++ rest)) eight (values_own words (codes " over" ++ rest) small refl)

values_last : (words rest : List ℕ) → All (λ w. w < 2 ^ 64) words → length words ≡ 8 → values_at 8 (values_text words ++ (codes "\n" ++ rest)) ≡ Some (words, codes "\n" ++ rest)
values_last words rest small eight = subst (λ (k : ℕ). values_at k (values_text words ++ (codes "\n" ++ rest)) ≡ Some (words, codes "\n" ++ rest)) eight (values_own words (codes "\n" ++ rest) small refl)

no_digit : (words rest : List ℕ) → NoDigit rest → NoDigit (values_text words ++ rest)
no_digit [] rest none = none
no_digit (w ∷ ws) rest none = refl

wrote_own : (stamp : ℕ) (words before rest : List ℕ) → IsContent (record { words = words; stamp = stamp }) → IsContent (record { words = before; stamp = stamp })
    → wrote_at (values_text (stamp ∷ words) ++ (codes " over" ++ (values_text before ++ (codes "\n" ++ rest)))) ≡ Some (Wrote before words stamp, rest)
unfolding wrote_at
wrote_own stamp words before rest is was =
    let found : Option (Receipt × List ℕ) = Some (Wrote before words stamp, rest) in
    let last : List ℕ = codes "\n" ++ rest in
    let three : List ℕ = values_text before ++ last in
    let two : List ℕ = codes " over" ++ three in
    let one : List ℕ = values_text words ++ two in
    let text : values_text (stamp ∷ words) ++ two ≡ codes " " ++ (decimal stamp ++ one) = append_assoc (codes " " ++ decimal stamp) (values_text words) two in
    ap wrote_at text
    ∙ (then_read (value_at (codes " " ++ (decimal stamp ++ one))) _ (stamp, one) found (value_own stamp one is.stamp (no_digit words two refl))
    (then_read (values_at 8 one) _ (words, two) found (values_eight words three is.words is.eight)
    (then_read (behind (codes " over") two) _ three found (behind_own (codes " over") three)
    (then_read (values_at 8 three) _ (before, last) found (values_last before rest was.words was.eight) (then_read (behind (codes "\n") last) _ rest found (behind_own (codes "\n") rest) refl)))))

apart_write : (label number values over before tail rest : List ℕ) → ((label ++ number ++ values) ++ over ++ before ++ tail) ++ rest ≡ label ++ (number ++ (values ++ (over ++ (before ++ (tail ++ rest)))))
apart_write label number values over before tail rest = simp append_assoc

receipt_own : (node : ℕ) (r : Receipt) (rest : List ℕ) → node < 2 ^ 64 → IsReceipt r → IsReadAs node r rest (receipt_text node r ++ rest)
unfolding receipt_text row_text
receipt_own node (Read words stamp) rest small is =
    let mid : List ℕ = values_text (stamp ∷ words) ++ (codes "\n" ++ rest) in
    subst (IsReadAs node (Read words stamp) rest) (sym (apart (codes "read ") (decimal node) (values_text (stamp ∷ words)) (codes "\n") rest))
    (by_read node (codes "read " ++ (decimal node ++ mid)) mid (Some (Read words stamp, rest)) (named_own (codes "read ") node stamp words (codes "\n" ++ rest) small) (read_own stamp words rest is))
receipt_own node (Passed words stamp) rest small is =
    let mid : List ℕ = values_text (stamp ∷ words) ++ (codes "\n" ++ rest) in
    subst (IsReadAs node (Passed words stamp) rest) (sym (apart (codes "passed ") (decimal node) (values_text (stamp ∷ words)) (codes "\n") rest))
    (by_passed node (codes "passed " ++ (decimal node ++ mid)) mid (Some (Passed words stamp, rest)) (passed_no_read node (decimal node ++ mid)) (named_own (codes "passed ") node stamp words (codes "\n" ++ rest) small) (passed_own stamp words rest is))
receipt_own node (Wrote before words stamp) rest small is =
    let left : List ℕ = codes " over" ++ (values_text before ++ (codes "\n" ++ rest)) in
    let mid : List ℕ = values_text (stamp ∷ words) ++ left in
    subst (IsReadAs node (Wrote before words stamp) rest) (sym (apart_write (codes "wrote ") (decimal node) (values_text (stamp ∷ words)) (codes " over") (values_text before) (codes "\n") rest))
    (by_wrote node (codes "wrote " ++ (decimal node ++ mid)) mid (Some (Wrote before words stamp, rest)) (wrote_no_read node (decimal node ++ mid)) (wrote_no_passed node (decimal node ++ mid)) (named_own (codes "wrote ") node stamp words left small) (wrote_own stamp words before rest is.0 is.1))

none_begins : (node : ℕ) (text : List ℕ) → named_at (codes "read ") node text ≡ None → named_at (codes "passed ") node text ≡ None → named_at (codes "wrote ") node text ≡ None → begins_at node text ≡ false
unfolding begins_at
none_begins node text a b c = rw (a, b, c) refl

-- a receipt of another node
other_begins : (node other : ℕ) (r : Receipt) (rest : List ℕ) → other < 2 ^ 64 → other ≢ node → begins_at node (receipt_text other r ++ rest) ≡ false
unfolding receipt_text row_text
other_begins node other (Read words stamp) rest small differ =
    let mid : List ℕ = decimal other ++ (values_text (stamp ∷ words) ++ (codes "\n" ++ rest)) in
    ap (begins_at node) (apart (codes "read ") (decimal other) (values_text (stamp ∷ words)) (codes "\n") rest)
    ∙ none_begins node (codes "read " ++ mid) (named_other (codes "read ") node other stamp words (codes "\n" ++ rest) small differ) (read_no_passed node mid) (read_no_wrote node mid)
other_begins node other (Passed words stamp) rest small differ =
    let mid : List ℕ = decimal other ++ (values_text (stamp ∷ words) ++ (codes "\n" ++ rest)) in
    ap (begins_at node) (apart (codes "passed ") (decimal other) (values_text (stamp ∷ words)) (codes "\n") rest)
    ∙ none_begins node (codes "passed " ++ mid) (passed_no_read node mid) (named_other (codes "passed ") node other stamp words (codes "\n" ++ rest) small differ) (passed_no_wrote node mid)
other_begins node other (Wrote before words stamp) rest small differ =
    let left : List ℕ = codes " over" ++ (values_text before ++ (codes "\n" ++ rest)) in
    let mid : List ℕ = decimal other ++ (values_text (stamp ∷ words) ++ left) in
    ap (begins_at node) (apart_write (codes "wrote ") (decimal other) (values_text (stamp ∷ words)) (codes " over") (values_text before) (codes "\n") rest)
    ∙ none_begins node (codes "wrote " ++ mid) (wrote_no_read node mid) (wrote_no_passed node mid) (named_other (codes "wrote ") node other stamp words left small differ)

-- a text that begins with no receipt
abbrev NoReceipt : List ℕ → Type 0
NoReceipt text = (node : ℕ) → begins_at node text ≡ false

list_begins : (node other : ℕ) (rs : List Receipt) (rest : List ℕ) → other < 2 ^ 64 → other ≢ node → begins_at node rest ≡ false → begins_at node (list_text other rs ++ rest) ≡ false
unfolding list_text
list_begins node other [] rest small differ none = none
list_begins node other (r ∷ rs) rest small differ none =
    ap (begins_at node) (append_assoc (receipt_text other r) (list_text other rs) rest) ∙ other_begins node other r (list_text other rs ++ rest) small differ

lists_begins : (node from : ℕ) (ls : List (List Receipt)) (rest : List ℕ) → node < from → from + length ls < 2 ^ 64 → NoReceipt rest → begins_at node (lists_text from ls ++ rest) ≡ false
unfolding lists_text
lists_begins node from [] rest before few none = none node
lists_begins node from (l ∷ ls) rest before few none =
    ap (begins_at node) (append_assoc (list_text from l) (lists_text (from + 1) ls) rest)
    ∙ list_begins node from l (lists_text (from + 1) ls ++ rest) (omega (arith, few)) (λ e. omega (arith, e, before)) (lists_begins node (from + 1) ls rest (omega (arith, before)) (omega (arith, few)) none)

receipts_own : (k node n : ℕ) (rs : List Receipt) (rest : List ℕ) → length rs ≤ k → node < 2 ^ 64 → All IsReceipt rs → begins_at node rest ≡ false → (m : ℕ) × (receipts_at k node n (list_text node rs ++ rest) ≡ Ok (rs, m, rest))
unfolding receipts_at list_text
receipts_own zero node n [] rest far small are none = (n, refl)
receipts_own (suc k) node n [] rest far small are none = (n, rw none refl)
receipts_own zero node n (r ∷ rs) rest far small are none = absurd (omega (arith, far))
receipts_own (suc k) node n (r ∷ rs) rest far small are none =
    let others : All IsReceipt rs = λ i d lt. are (suc i) d (omega (arith, lt)) in
    let more : List ℕ = list_text node rs ++ rest in
    let text : List ℕ = receipt_text node r ++ more in
    let own = receipt_own node r more small (are 0 r (omega arith)) in
    let (m, found) = receipts_own k node (next n) rs rest (omega (arith, far)) small others none in
    let all : Result (List Receipt × ℕ × List ℕ) DumpRefusal = Ok (r ∷ rs, m, rest) in (
      m,
      ap (receipts_at (suc k) node n) (append_assoc (receipt_text node r) (list_text node rs) rest)
          ∙ rw own.0
          (then_ok (on_line n (receipt_at node text)) _ (r, more) all (line_is n (receipt_at node text) (r, more) own.1) (then_ok (receipts_at k node (next n) more) _ (rs, m, rest) all found refl)),
    )

receipt_long : (node : ℕ) (r : Receipt) → 1 ≤ length (receipt_text node r)
unfolding receipt_text row_text
receipt_long node (Read words stamp) = omega arith
receipt_long node (Passed words stamp) = omega arith
receipt_long node (Wrote before words stamp) = omega arith

list_long : (node : ℕ) (rs : List Receipt) → length rs ≤ length (list_text node rs)
unfolding list_text
list_long node [] = omega arith
list_long node (r ∷ rs) = let a = receipt_long node r in let b = list_long node rs in let c = length-append (receipt_text node r) (list_text node rs) in omega (arith, a, b, c)

lists_own : (node n : ℕ) (ls : List (List Receipt)) (rest : List ℕ) → node + length ls < 2 ^ 64 → All (λ rs. All IsReceipt rs) ls → NoReceipt rest → (m : ℕ) × (lists_at node (length ls) n (lists_text node ls ++ rest) ≡ Ok (ls, m, rest))
unfolding lists_at lists_text
lists_own node n [] rest few are none = (n, refl)
lists_own node n (l ∷ ls) rest few are none =
    let others : All (λ rs. All IsReceipt rs) ls = λ i d lt. are (suc i) d (omega (arith, lt)) in
    let more : List ℕ = lists_text (node + 1) ls ++ rest in
    let text : List ℕ = list_text node l ++ more in
    let far : length l ≤ length text = let a = list_long node l in let b = length-append (list_text node l) more in omega (arith, a, b) in
    let (k, first) = receipts_own (length text) node n l more far (omega (arith, few)) (are 0 l (omega arith)) (lists_begins node (node + 1) ls rest (omega arith) (omega (arith, few)) none) in
    let (m, found) = lists_own (node + 1) k ls rest (omega (arith, few)) others none in
    let all : Result (List (List Receipt) × ℕ × List ℕ) DumpRefusal = Ok (l ∷ ls, m, rest) in (
      m,
      ap (lists_at node (length (l ∷ ls)) n) (append_assoc (list_text node l) (lists_text (node + 1) ls) rest)
          ∙ then_ok (receipts_at (length text) node n text) _ (l, k, more) all first (then_ok (lists_at (node + 1) (length ls) k more) _ (ls, m, rest) all found refl),
    )

row_own : (label : List ℕ) (number : ℕ) (line : Line) (rest : List ℕ) → number < 2 ^ 64 → IsContent line → row_at label number ((row_text label number line.stamp line.words ++ codes "\n") ++ rest) ≡ Some (line, rest)
unfolding row_at row_text
row_own label number line rest small is =
    let mid : List ℕ = values_text (line.stamp ∷ line.words) ++ (codes "\n" ++ rest) in
    ap (row_at label number) (apart label (decimal number) (values_text (line.stamp ∷ line.words)) (codes "\n") rest)
    ∙ then_read (named_at label number (label ++ (decimal number ++ mid))) _ mid (Some (line, rest)) (named_own label number line.stamp line.words (codes "\n" ++ rest) small) (content_own line rest is)

apart_line : (a b c d e rest : List ℕ) → (a ++ b ++ c ++ d ++ e) ++ rest ≡ (a ++ b) ++ ((c ++ d) ++ (e ++ rest))
apart_line a b c d e rest = simp append_assoc

line_own : (number nodes n : ℕ) (h : LineReceipts) (rest : List ℕ) → number < 2 ^ 64 → nodes < 2 ^ 64 → IsLineOf nodes h → NoReceipt rest → (m : ℕ) × (line_at number nodes n (line_text number h ++ rest) ≡ Ok (h, m, rest))
unfolding line_at line_text
line_own number nodes n h rest small few is none =
    let begun : List ℕ = row_text (codes "line ") number h.opening.stamp h.opening.words in
    let over : List ℕ = row_text (codes "closed ") number h.closing.stamp h.closing.words in
    let two : List ℕ = lists_text 0 h.lists ++ rest in
    let one : List ℕ = (over ++ codes "\n") ++ two in
    let text : List ℕ = (begun ++ codes "\n") ++ one in
    let (m, found) = lists_own 0 (next (next n)) h.lists rest (omega (arith, few, is.lists)) is.each none in
    let counted : lists_at 0 nodes (next (next n)) two ≡ Ok (h.lists, m, rest) = subst (λ (k : ℕ). lists_at 0 k (next (next n)) two ≡ Ok (h.lists, m, rest)) is.lists found in
    let all : Result (LineReceipts × ℕ × List ℕ) DumpRefusal = Ok (h, m, rest) in (
      m,
      ap (line_at number nodes n) (apart_line begun (codes "\n") over (codes "\n") (lists_text 0 h.lists) rest)
          ∙ then_ok (on_line n (row_at (codes "line ") number text)) _ (h.opening, one) all (line_is n (row_at (codes "line ") number text) (h.opening, one) (row_own (codes "line ") number h.opening one small is.opening))
          (then_ok (on_line (next n) (row_at (codes "closed ") number one)) _ (h.closing, two) all (line_is (next n) (row_at (codes "closed ") number one) (h.closing, two) (row_own (codes "closed ") number h.closing two small is.closing))
          (then_ok (lists_at 0 nodes (next (next n)) two) _ (h.lists, m, rest) all counted refl)),
    )

line_none : (number : ℕ) (h : LineReceipts) (rest : List ℕ) → NoReceipt (line_text number h ++ rest)
unfolding line_text row_text begins_at named_at behind
line_none number h rest = λ node. refl

end_none : NoReceipt (codes "end\n")
unfolding begins_at named_at behind
end_none = λ node. refl

lines_none : (number : ℕ) (hs : List LineReceipts) (rest : List ℕ) → NoReceipt rest → NoReceipt (lines_text number hs ++ rest)
unfolding lines_text
lines_none number [] rest none = none
lines_none number (h ∷ hs) rest none = subst NoReceipt (sym (append_assoc (line_text number h) (lines_text (number + 1) hs) rest)) (line_none number h (lines_text (number + 1) hs ++ rest))

lines_own : (number nodes n : ℕ) (hs : List LineReceipts) (rest : List ℕ) → number + length hs ≤ 1024 → nodes < 2 ^ 64 → All (IsLineOf nodes) hs → NoReceipt rest → (m : ℕ) × (lines_at number (length hs) nodes n (lines_text number hs ++ rest) ≡ Ok (hs, m, rest))
unfolding lines_at lines_text
lines_own number nodes n [] rest small few are none = (n, refl)
lines_own number nodes n (h ∷ hs) rest small few are none =
    let others : All (IsLineOf nodes) hs = λ i d lt. are (suc i) d (omega (arith, lt)) in
    let more : List ℕ = lines_text (number + 1) hs in
    let (k, first) = line_own number nodes n h (more ++ rest) (omega (arith, small)) few (are 0 h (omega arith)) (lines_none (number + 1) hs rest none) in
    let (m, found) = lines_own (number + 1) nodes k hs rest (omega (arith, small)) few others none in
    let all : Result (List LineReceipts × ℕ × List ℕ) DumpRefusal = Ok (h ∷ hs, m, rest) in (
      m,
      ap (lines_at number (length (h ∷ hs)) nodes n) (append_assoc (line_text number h) more rest)
          ∙ then_ok (line_at number nodes n (line_text number h ++ (more ++ rest))) _ (h, k, more ++ rest) all first (then_ok (lines_at (number + 1) (length hs) nodes k (more ++ rest)) _ (hs, m, rest) all found refl),
    )

apart_head : (a b c d e f g : List ℕ) → a ++ b ++ c ++ d ++ e ++ f ++ g ≡ a ++ (b ++ (c ++ (d ++ (e ++ (f ++ g)))))
apart_head a b c d e f g = simp append_assoc

head_own : (nodes lines : ℕ) (rest : List ℕ) → 1 ≤ nodes → nodes ≤ MOST_NODES → 1 ≤ lines → lines ≤ 1024 → head_at (codes "scihistory 1 " ++ (decimal nodes ++ (codes " " ++ (decimal lines ++ (codes "\n" ++ rest))))) ≡ Some (nodes, lines, rest)
unfolding head_at
head_own nodes lines rest some few full short =
    let found : Option (ℕ × ℕ × List ℕ) = Some (nodes, lines, rest) in
    let four : List ℕ = codes "\n" ++ rest in
    let three : List ℕ = decimal lines ++ four in
    let two : List ℕ = codes " " ++ three in
    let one : List ℕ = decimal nodes ++ two in
    then_read (counted_at (codes "scihistory 1 ") MOST_NODES (codes "scihistory 1 " ++ one)) _ (nodes, two) found
    (then_read (behind (codes "scihistory 1 ") (codes "scihistory 1 " ++ one)) _ one (Some (nodes, two)) (behind_own (codes "scihistory 1 ") one) (count_own MOST_NODES nodes two (omega (arith, few)) some few refl))
    (then_read (counted_at (codes " ") 1024 two) _ (lines, four) found (then_read (behind (codes " ") two) _ three (Some (lines, four)) (behind_own (codes " ") three) (count_own 1024 lines four (omega (arith, short)) full short refl))
    (then_read (behind (codes "\n") four) _ rest found (behind_own (codes "\n") rest) refl))

pub history_own : (nodes : ℕ) (hs : List LineReceipts) → CanBeWritten nodes hs → history_of (history_text nodes hs) ≡ Ok (record { nodes = nodes; lines = hs })
unfolding history_of history_text end_at
history_own nodes hs can =
    let lines : List ℕ = lines_text 0 hs in
    let few = can.few.1 in
    let (m, found) = lines_own 0 nodes 2 hs (codes "end\n") (omega (arith, can.lines.1)) (omega (arith, few)) can.each end_none in
    let rest : List ℕ = lines ++ codes "end\n" in
    let text : List ℕ = codes "scihistory 1 " ++ (decimal nodes ++ (codes " " ++ (decimal (length hs) ++ (codes "\n" ++ rest)))) in
    let head : on_line 1 (head_at text) ≡ Ok (nodes, length hs, rest) = line_is 1 (head_at text) (nodes, length hs, rest) (head_own nodes (length hs) rest can.few.0 can.few.1 can.lines.0 can.lines.1) in
    let over : on_line m (behind (codes "end\n") (codes "end\n")) ≡ Ok [] = line_is m (behind (codes "end\n") (codes "end\n")) [] (behind_own (codes "end\n") []) in
    let ends : end_at m (codes "end\n") ≡ Ok tt = then_ok (on_line m (behind (codes "end\n") (codes "end\n"))) (ended m) [] (Ok tt) over refl in
    let all : Result HistoryLines DumpRefusal = Ok (record { nodes = nodes; lines = hs }) in
    ap history_of (apart_head (codes "scihistory 1 ") (decimal nodes) (codes " ") (decimal (length hs)) (codes "\n") lines (codes "end\n"))
    ∙ then_ok (on_line 1 (head_at text)) _ (nodes, length hs, rest) all head (then_ok (lines_at 0 (length hs) nodes 2 rest) _ (hs, m, codes "end\n") all found (then_ok (end_at m (codes "end\n")) _ tt all ends refl))

pub given_back : (r : Result HistoryLines DumpRefusal) (text : List ℕ) (nodes : ℕ) (hs : List LineReceipts) → Gives (λ h. h) r (history_of text) → CanBeWritten nodes hs → text ≡ history_text nodes hs → Gives (λ h. h) r (Ok (record { nodes = nodes; lines = hs }))
given_back r text nodes hs h can is = subst (Gives (λ h. h) r) (ap history_of is ∙ history_own nodes hs can) h
