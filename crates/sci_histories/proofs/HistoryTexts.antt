-- A text that is read is the text of the history that was read.
use Rattle.std.proofs.Common.{if◌then◌else◌, ◌≡◌, ℕ, ◌+◌, Bool, true, false, List, [], ◌∷◌, ◌++◌, length, Option, Some, None, Result, Ok, Err, IfOk, refl, sym, ap, ◌∙◌, subst, zero, suc, codes, decimal, append_assoc}
use Rattle.sci_core.specs.declared.lines.Line.{Line}
use Rattle.sci_core.specs.declared.receipts.Receipt.{Receipt}
use Rattle.sci_core.specs.declared.receipts.Receipt.TheVariants.{Read, Passed, Wrote}
use Rattle.sci_core.specs.declared.whole.TheConstants.{MOST_NODES}
use Rattle.sci_dump.specs.declared.refusals.DumpRefusal.{DumpRefusal}
use Rattle.sci_dump.specs.Reading.{◌>>>◌, Gives, on_line, behind, value_at, values_at, content_at, counted_at}
use Rattle.sci_dump.specs.Text.{values_text}
use Rattle.sci_dump.proofs.Inverting.{both_some, both_ok, some_of, ok_of, not_none, not_err, line_ok, behind_text}
use Rattle.sci_dump.proofs.FieldTexts.{value_text, values_read, content_read, numbered_read, count_read}
use Rattle.sci_histories.specs.Histories.{LineReceipts, HistoryLines}
use Rattle.sci_histories.specs.Reading.{next, named_at, row_at, read_at, passed_at, wrote_at, begins_at, receipt_by, receipt_at, receipts_at, lists_at, line_at, lines_at, head_at, ended, end_at, history_of}
use Rattle.sci_histories.specs.Text.{row_text, receipt_text, list_text, lists_text, line_text, lines_text, history_text}

join_two : (a b u v rest : List ℕ) → u ≡ a ++ v → v ≡ b ++ rest → u ≡ (a ++ b) ++ rest
join_two a b u v rest p q = rw (p, q) (simp append_assoc)

join_three : (a b c u v w rest : List ℕ) → u ≡ a ++ v → v ≡ b ++ w → w ≡ c ++ rest → u ≡ (a ++ b ++ c) ++ rest
join_three a b c u v w rest p q r = rw (p, q, r) (simp append_assoc)

named_read : (label : List ℕ) (number : ℕ) (text rest : List ℕ) → named_at label number text ≡ Some rest → text ≡ (label ++ decimal number) ++ rest
unfolding named_at
named_read label number text rest h =
    let (one, h1, k1) = both_some (behind label text) _ rest h in
    join_two label (decimal number) text one rest (behind_text label text one h1) (numbered_read number one rest k1)

-- a label, a number, and the content behind them
labelled : (label : List ℕ) (number : ℕ) (text mid rest : List ℕ) (line : Line) → named_at label number text ≡ Some mid → content_at mid ≡ Some (line, rest) → text ≡ (row_text label number line.stamp line.words ++ codes "\n") ++ rest
unfolding row_text
labelled label number text mid rest line h k =
    named_read label number text mid h
    ∙ (ap (λ (xs : List ℕ). (label ++ decimal number) ++ xs) (content_read mid rest line k)
    ∙ (sym (append_assoc (label ++ decimal number) (values_text (line.stamp ∷ line.words) ++ codes "\n") rest)
    ∙ ap (λ (xs : List ℕ). xs ++ rest) (sym (append_assoc (label ++ decimal number) (values_text (line.stamp ∷ line.words)) (codes "\n")))))

row_read : (label : List ℕ) (number : ℕ) (text rest : List ℕ) (line : Line) → row_at label number text ≡ Some (line, rest) → text ≡ (row_text label number line.stamp line.words ++ codes "\n") ++ rest
unfolding row_at
row_read label number text rest line h =
    let (mid, h1, k1) = both_some (named_at label number text) _ (line, rest) h in
    labelled label number text mid rest line h1 k1

-- receipts
read_read : (node : ℕ) (text mid : List ℕ) (x : Receipt × List ℕ) → named_at (codes "read ") node text ≡ Some mid → read_at mid ≡ Some x → text ≡ receipt_text node x.0 ++ x.1
unfolding read_at receipt_text
read_read node text mid x h k =
    let (found, h1, k1) = both_some (content_at mid) _ x k in
    subst (λ (y : Receipt × List ℕ). text ≡ receipt_text node y.0 ++ y.1) (some_of (Read found.0.words found.0.stamp, found.1) x k1) (labelled (codes "read ") node text mid found.1 found.0 h h1)

passed_read : (node : ℕ) (text mid : List ℕ) (x : Receipt × List ℕ) → named_at (codes "passed ") node text ≡ Some mid → passed_at mid ≡ Some x → text ≡ receipt_text node x.0 ++ x.1
unfolding passed_at receipt_text
passed_read node text mid x h k =
    let (found, h1, k1) = both_some (content_at mid) _ x k in
    subst (λ (y : Receipt × List ℕ). text ≡ receipt_text node y.0 ++ y.1) (some_of (Passed found.0.words found.0.stamp, found.1) x k1) (labelled (codes "passed ") node text mid found.1 found.0 h h1)

join_six : (a b c d e f u v w x y z rest : List ℕ) → u ≡ a ++ v → v ≡ b ++ w → w ≡ c ++ x → x ≡ d ++ y → y ≡ e ++ z → z ≡ f ++ rest → u ≡ ((a ++ (b ++ c)) ++ d ++ e ++ f) ++ rest
join_six a b c d e f u v w x y z rest p q r s t o = rw (p, q, r, s, t, o) (simp append_assoc)

wrote_read : (node : ℕ) (text mid : List ℕ) (x : Receipt × List ℕ) → named_at (codes "wrote ") node text ≡ Some mid → wrote_at mid ≡ Some x → text ≡ receipt_text node x.0 ++ x.1
unfolding wrote_at receipt_text row_text
wrote_read node text mid x h k =
    let (stamp, h1, k1) = both_some (value_at mid) _ x k in
    let (words, h2, k2) = both_some (values_at 8 stamp.1) _ x k1 in
    let (over, h3, k3) = both_some (behind (codes " over") words.1) _ x k2 in
    let (before, h4, k4) = both_some (values_at 8 over) _ x k3 in
    let (rest, h5, k5) = both_some (behind (codes "\n") before.1) _ x k4 in
    let whole =
    join_six (codes "wrote " ++ decimal node) (codes " " ++ decimal stamp.0) (values_text words.0) (codes " over") (values_text before.0) (codes "\n") text mid stamp.1 words.1 over before.1 rest
    (named_read (codes "wrote ") node text mid h) (value_text mid stamp.1 stamp.0 h1) (values_read 8 stamp.1 words.1 words.0 h2) (behind_text (codes " over") words.1 over h3) (values_read 8 over before.1 before.0 h4) (behind_text (codes "\n") before.1 rest h5) in
    subst (λ (y : Receipt × List ℕ). text ≡ receipt_text node y.0 ++ y.1) (some_of (Wrote before.0 words.0 stamp.0, rest) x k5) whole

found_read : (node : ℕ) (text : List ℕ) (x : Receipt × List ℕ) (one two three : Option (List ℕ)) → named_at (codes "read ") node text ≡ one → named_at (codes "passed ") node text ≡ two → named_at (codes "wrote ") node text ≡ three
    → receipt_by one two three ≡ Some x → text ≡ receipt_text node x.0 ++ x.1
found_read node text x (Some rest) two three a b c h = read_read node text rest x a h
found_read node text x None (Some rest) three a b c h = passed_read node text rest x b h
found_read node text x None None (Some rest) a b c h = wrote_read node text rest x c h
found_read node text x None None None a b c h = absurd (not_none x h)

receipt_read : (node : ℕ) (text : List ℕ) (x : Receipt × List ℕ) → receipt_at node text ≡ Some x → text ≡ receipt_text node x.0 ++ x.1
unfolding receipt_at
receipt_read node text x h = found_read node text x (named_at (codes "read ") node text) (named_at (codes "passed ") node text) (named_at (codes "wrote ") node text) refl refl refl h

abbrev Found : Type 0
Found = List Receipt × ℕ × List ℕ

receipts_step : (b : Bool) (k node n : ℕ) (text : List ℕ) (x : Found) → ((m : ℕ) (t : List ℕ) (y : Found) → receipts_at k node m t ≡ Ok y → t ≡ list_text node y.0 ++ y.2)
    → (if b then (on_line n (receipt_at node text) >>> λ found. receipts_at k node (next n) found.1 >>> λ more. Ok (found.0 ∷ more.0, more.1, more.2)) else Ok ([], n, text)) ≡ Ok x → text ≡ list_text node x.0 ++ x.2
unfolding list_text
receipts_step false k node n text x less h = subst (λ (y : Found). text ≡ list_text node y.0 ++ y.2) (ok_of ([], n, text) x h) refl
receipts_step true k node n text x less h =
    let (found, h1, k1) = both_ok (on_line n (receipt_at node text)) _ x h in
    let (more, h2, k2) = both_ok (receipts_at k node (next n) found.1) _ x k1 in
    let first = receipt_read node text found (line_ok n (receipt_at node text) found h1) in
    let others = less (next n) found.1 more h2 in
    subst (λ (y : Found). text ≡ list_text node y.0 ++ y.2) (ok_of (found.0 ∷ more.0, more.1, more.2) x k2) (join_two (receipt_text node found.0) (list_text node more.0) text found.1 more.2 first others)

receipts_read : (k node n : ℕ) (text : List ℕ) (x : Found) → receipts_at k node n text ≡ Ok x → text ≡ list_text node x.0 ++ x.2
unfolding receipts_at list_text
receipts_read zero node n text x h = subst (λ (y : Found). text ≡ list_text node y.0 ++ y.2) (ok_of ([], n, text) x h) refl
receipts_read (suc k) node n text x h = receipts_step (begins_at node text) k node n text x (λ m t y e. receipts_read k node m t y e) h

lists_read : (node k n : ℕ) (text : List ℕ) (x : List (List Receipt) × ℕ × List ℕ) → lists_at node k n text ≡ Ok x → text ≡ lists_text node x.0 ++ x.2
unfolding lists_at lists_text
lists_read node zero n text x h = subst (λ (y : List (List Receipt) × ℕ × List ℕ). text ≡ lists_text node y.0 ++ y.2) (ok_of ([], n, text) x h) refl
lists_read node (suc k) n text x h =
    let (list, h1, k1) = both_ok (receipts_at (length text) node n text) _ x h in
    let (more, h2, k2) = both_ok (lists_at (node + 1) k list.1 list.2) _ x k1 in
    let first = receipts_read (length text) node n text list h1 in
    let others = lists_read (node + 1) k list.1 list.2 more h2 in
    subst (λ (y : List (List Receipt) × ℕ × List ℕ). text ≡ lists_text node y.0 ++ y.2) (ok_of (list.0 ∷ more.0, more.1, more.2) x k2) (join_two (list_text node list.0) (lists_text (node + 1) more.0) text list.2 more.2 first others)

join_lines : (a b c d e u v w rest : List ℕ) → u ≡ (a ++ b) ++ v → v ≡ (c ++ d) ++ w → w ≡ e ++ rest → u ≡ (a ++ b ++ c ++ d ++ e) ++ rest
join_lines a b c d e u v w rest p q r = rw (p, q, r) (simp append_assoc)

line_read : (number nodes n : ℕ) (text : List ℕ) (x : LineReceipts × ℕ × List ℕ) → line_at number nodes n text ≡ Ok x → text ≡ line_text number x.0 ++ x.2
unfolding line_at line_text
line_read number nodes n text x h =
    let (opening, h1, k1) = both_ok (on_line n (row_at (codes "line ") number text)) _ x h in
    let (closing, h2, k2) = both_ok (on_line (next n) (row_at (codes "closed ") number opening.1)) _ x k1 in
    let (found, h3, k3) = both_ok (lists_at 0 nodes (next (next n)) closing.1) _ x k2 in
    let made : LineReceipts = record { opening = opening.0; closing = closing.0; lists = found.0 } in
    let whole : text ≡ line_text number made ++ found.2 =
    join_lines (row_text (codes "line ") number opening.0.stamp opening.0.words) (codes "\n") (row_text (codes "closed ") number closing.0.stamp closing.0.words) (codes "\n") (lists_text 0 found.0) text opening.1 closing.1 found.2
    (row_read (codes "line ") number text opening.1 opening.0 (line_ok n (row_at (codes "line ") number text) opening h1))
    (row_read (codes "closed ") number opening.1 closing.1 closing.0 (line_ok (next n) (row_at (codes "closed ") number opening.1) closing h2))
    (lists_read 0 nodes (next (next n)) closing.1 found h3) in
    subst (λ (y : LineReceipts × ℕ × List ℕ). text ≡ line_text number y.0 ++ y.2) (ok_of (made, found.1, found.2) x k3) whole

lines_read : (number k nodes n : ℕ) (text : List ℕ) (x : List LineReceipts × ℕ × List ℕ) → lines_at number k nodes n text ≡ Ok x → (text ≡ lines_text number x.0 ++ x.2) × (length x.0 ≡ k)
unfolding lines_at lines_text
lines_read number zero nodes n text x h = subst (λ (y : List LineReceipts × ℕ × List ℕ). (text ≡ lines_text number y.0 ++ y.2) × (length y.0 ≡ 0)) (ok_of ([], n, text) x h) (refl, refl)
lines_read number (suc k) nodes n text x h =
    let (line, h1, k1) = both_ok (line_at number nodes n text) _ x h in
    let (more, h2, k2) = both_ok (lines_at (number + 1) k nodes line.1 line.2) _ x k1 in
    let first = line_read number nodes n text line h1 in
    let (others, long) = lines_read (number + 1) k nodes line.1 line.2 more h2 in
    subst (λ (y : List LineReceipts × ℕ × List ℕ). (text ≡ lines_text number y.0 ++ y.2) × (length y.0 ≡ suc k)) (ok_of (line.0 ∷ more.0, more.1, more.2) x k2)
    (join_two (line_text number line.0) (lines_text (number + 1) more.0) text line.2 more.2 first others, ap suc long)

no_rest : (n : ℕ) (rest : List ℕ) (u : Unit {0}) → ended n rest ≡ Ok u → rest ≡ []
no_rest n [] u h = refl
no_rest n (b ∷ bs) u h = absurd (not_err _ u h)

end_read : (n : ℕ) (text : List ℕ) (u : Unit {0}) → end_at n text ≡ Ok u → text ≡ codes "end\n"
unfolding end_at
end_read n text u h =
    let (rest, h1, k1) = both_ok (on_line n (behind (codes "end\n") text)) (ended n) u h in
    behind_text (codes "end\n") text rest (line_ok n (behind (codes "end\n") text) rest h1) ∙ ap (λ (xs : List ℕ). codes "end\n" ++ xs) (no_rest n rest u k1)

counted_read : (label : List ℕ) (most : ℕ) (text rest : List ℕ) (n : ℕ) → counted_at label most text ≡ Some (n, rest) → text ≡ (label ++ decimal n) ++ rest
counted_read label most text rest n h =
    let (one, h1, k1) = both_some (behind label text) _ (n, rest) h in
    join_two label (decimal n) text one rest (behind_text label text one h1) (count_read most one rest n k1)

head_join : (a b c d e u v w rest : List ℕ) → u ≡ (a ++ b) ++ v → v ≡ (c ++ d) ++ w → w ≡ e ++ rest → u ≡ (a ++ b ++ c ++ d ++ e) ++ rest
head_join a b c d e u v w rest p q r = join_lines a b c d e u v w rest p q r

head_read : (text : List ℕ) (x : ℕ × ℕ × List ℕ) → head_at text ≡ Some x → text ≡ (codes "scihistory 1 " ++ decimal x.0 ++ codes " " ++ decimal x.1 ++ codes "\n") ++ x.2
unfolding head_at
head_read text x h =
    let (nodes, h1, k1) = both_some (counted_at (codes "scihistory 1 ") MOST_NODES text) _ x h in
    let (lines, h2, k2) = both_some (counted_at (codes " ") 1024 nodes.1) _ x k1 in
    let (rest, h3, k3) = both_some (behind (codes "\n") lines.1) _ x k2 in
    let whole =
    head_join (codes "scihistory 1 ") (decimal nodes.0) (codes " ") (decimal lines.0) (codes "\n") text nodes.1 lines.1 rest
    (counted_read (codes "scihistory 1 ") MOST_NODES text nodes.1 nodes.0 h1) (counted_read (codes " ") 1024 nodes.1 lines.1 lines.0 h2) (behind_text (codes "\n") lines.1 rest h3) in
    subst (λ (y : ℕ × ℕ × List ℕ). text ≡ (codes "scihistory 1 " ++ decimal y.0 ++ codes " " ++ decimal y.1 ++ codes "\n") ++ y.2) (some_of (nodes.0, lines.0, rest) x k3) whole

join_all : (a b c u v w : List ℕ) → u ≡ a ++ v → v ≡ b ++ w → w ≡ c → u ≡ a ++ b ++ c
join_all a b c u v w p q r = rw (p, q, r) (simp append_assoc)

pub history_read : (text : List ℕ) (d : HistoryLines) → history_of text ≡ Ok d → text ≡ history_text d.nodes d.lines
unfolding history_of history_text
history_read text d h =
    let (head, h1, k1) = both_ok (on_line 1 (head_at text)) _ d h in
    let (found, h2, k2) = both_ok (lines_at 0 head.1 head.0 2 head.2) _ d k1 in
    let (over, h3, k3) = both_ok (end_at found.1 found.2) _ d k2 in
    let (others, long) = lines_read 0 head.1 head.0 2 head.2 found h2 in
    let made : HistoryLines = record { nodes = head.0; lines = found.0 } in
    let first = subst (λ (k : ℕ). text ≡ (codes "scihistory 1 " ++ decimal head.0 ++ codes " " ++ decimal k ++ codes "\n") ++ head.2) (sym long) (head_read text head (line_ok 1 (head_at text) head h1)) in
    let whole : text ≡ history_text head.0 found.0 =
    join_all (codes "scihistory 1 " ++ decimal head.0 ++ codes " " ++ decimal (length found.0) ++ codes "\n") (lines_text 0 found.0) (codes "end\n") text head.2 found.2 first others (end_read found.1 found.2 over h3) in
    subst (λ (y : HistoryLines). text ≡ history_text y.nodes y.lines) (ok_of made d k3) whole

pub written : (r : Result HistoryLines DumpRefusal) (text : List ℕ) → Gives (λ h. h) r (history_of text) → IfOk r (λ h. text ≡ history_text h.nodes h.lines)
written (Ok h) text e = history_read text h e
written (Err e) text h = tt
