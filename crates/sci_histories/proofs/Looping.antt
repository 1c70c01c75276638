-- Reading receipt by receipt, node by node, and line by line.
use Rattle.std.proofs.Common.{◌≡◌, ℕ, suc, ◌+◌, List, [], ◌∷◌, ◌++◌, true, false, Some, None, Result, Ok, Err, length, refl, sym, ◌∙◌, append_assoc}
use Rattle.std.proofs.lemmas.List.{append-nil}
use Rattle.sci_core.specs.declared.receipts.Receipt.{Receipt}
use Rattle.sci_dump.specs.declared.refusals.DumpRefusal.{DumpRefusal}
use Rattle.sci_dump.specs.declared.refusals.DumpRefusal.TheVariants.{OutOfMemory, DumpFault}
use Rattle.sci_dump.specs.Reading.{◌>>>◌, Fails}
use Rattle.sci_histories.specs.Histories.{LineReceipts}
use Rattle.sci_histories.specs.Reading.{next, begins_at, receipt_at, receipts_at, lists_at, line_at, lines_at, head_at, end_at, history_of}

-- so many lists or lines, and where the reading goes on
abbrev pub Many : Type 0 → Type 0
Many A = Result (List A × ℕ × List ℕ) DumpRefusal

-- what is read behind these
abbrev pub with : {A : Type 0} → List A → Many A → Many A
with front read = read >>> λ more. Ok (front ++ more.0, more.1, more.2)

pub with_none : {A : Type 0} (read : Many A) → with [] read ≡ read
with_none (Ok more) = refl
with_none (Err e) = refl

regroup : {A : Type 0} (front : List A) (x : A) (read : Many A) → with front (read >>> λ more. Ok (x ∷ more.0, more.1, more.2)) ≡ with (front ++ x ∷ []) read
regroup front x (Ok more) = rw (append_assoc front (x ∷ []) more.0) refl
regroup front x (Err e) = refl

with_end : {A : Type 0} (front : List A) (n : ℕ) (text : List ℕ) → with front (Ok ([], n, text)) ≡ Ok (front, n, text)
with_end front n text = rw (append-nil front) refl

through : {A B : Type 0} (e : DumpRefusal) (read : Result A DumpRefusal) (total : Result B DumpRefusal) → Fails e read → (read ≡ Err e → total ≡ Err e) → Fails e total
through OutOfMemory read total h f = tt
through (DumpFault n) read total h f = f h

-- receipts
pub receipt_more : (front : List Receipt) (k j node n : ℕ) (text : List ℕ) (found : Receipt × List ℕ) (total : Many Receipt) → k ≡ suc j → begins_at node text ≡ true → receipt_at node text ≡ Some found
    → with front (receipts_at k node n text) ≡ total → with (front ++ found.0 ∷ []) (receipts_at j node (next n) found.1) ≡ total
unfolding receipts_at
receipt_more front k j node n text found total count b h so_far =
    let one : with front (receipts_at (suc j) node n text) ≡ with (front ++ found.0 ∷ []) (receipts_at j node (next n) found.1) = rw (b, h) (regroup front found.0 (receipts_at j node (next n) found.1)) in
    sym one ∙ (rw count at so_far)

pub receipt_fault : (front : List Receipt) (k j node n : ℕ) (text : List ℕ) (total : Many Receipt) → k ≡ suc j → begins_at node text ≡ true → receipt_at node text ≡ None
    → with front (receipts_at k node n text) ≡ total → total ≡ Err (DumpFault n)
unfolding receipts_at
receipt_fault front k j node n text total count b h so_far =
    let one : with front (receipts_at (suc j) node n text) ≡ Err (DumpFault n) = rw (b, h) refl in
    sym (rw count at so_far) ∙ one

pub receipts_other : (front : List Receipt) (k j node n : ℕ) (text : List ℕ) (total : Many Receipt) → k ≡ suc j → begins_at node text ≡ false
    → with front (receipts_at k node n text) ≡ total → total ≡ Ok (front, n, text)
unfolding receipts_at
receipts_other front k j node n text total count b so_far =
    let one : with front (receipts_at (suc j) node n text) ≡ with front (Ok ([], n, text)) = rw b refl in
    sym (rw count at so_far) ∙ (one ∙ with_end front n text)

pub receipts_done : (front : List Receipt) (k node n : ℕ) (text : List ℕ) (total : Many Receipt) → k ≡ 0 → with front (receipts_at k node n text) ≡ total → total ≡ Ok (front, n, text)
unfolding receipts_at
receipts_done front k node n text total count so_far = sym (rw count at so_far) ∙ with_end front n text

-- lists
pub list_more : (front : List (List Receipt)) (node k j n : ℕ) (text : List ℕ) (found : List Receipt × ℕ × List ℕ) (total : Many (List Receipt)) → k ≡ suc j → receipts_at (length text) node n text ≡ Ok found
    → with front (lists_at node k n text) ≡ total → with (front ++ found.0 ∷ []) (lists_at (node + 1) j found.1 found.2) ≡ total
unfolding lists_at
list_more front node k j n text found total count h so_far =
    let one : with front (lists_at node (suc j) n text) ≡ with (front ++ found.0 ∷ []) (lists_at (node + 1) j found.1 found.2) = rw h (regroup front found.0 (lists_at (node + 1) j found.1 found.2)) in
    sym one ∙ (rw count at so_far)

pub list_fault : (e : DumpRefusal) (front : List (List Receipt)) (node k j n : ℕ) (text : List ℕ) (total : Many (List Receipt)) → k ≡ suc j → Fails e (receipts_at (length text) node n text)
    → with front (lists_at node k n text) ≡ total → Fails e total
unfolding lists_at
list_fault e front node k j n text total count h so_far =
    through e (receipts_at (length text) node n text) total h
    (λ is. let one : with front (lists_at node (suc j) n text) ≡ Err e = rw is refl in sym (rw count at so_far) ∙ one)

pub lists_done : (front : List (List Receipt)) (node k n : ℕ) (text : List ℕ) (total : Many (List Receipt)) → k ≡ 0 → with front (lists_at node k n text) ≡ total → total ≡ Ok (front, n, text)
unfolding lists_at
lists_done front node k n text total count so_far = sym (rw count at so_far) ∙ with_end front n text

-- lines
pub line_more : (front : List LineReceipts) (number k j nodes n : ℕ) (text : List ℕ) (found : LineReceipts × ℕ × List ℕ) (total : Many LineReceipts) → k ≡ suc j → line_at number nodes n text ≡ Ok found
    → with front (lines_at number k nodes n text) ≡ total → with (front ++ found.0 ∷ []) (lines_at (number + 1) j nodes found.1 found.2) ≡ total
unfolding lines_at
line_more front number k j nodes n text found total count h so_far =
    let one : with front (lines_at number (suc j) nodes n text) ≡ with (front ++ found.0 ∷ []) (lines_at (number + 1) j nodes found.1 found.2) = rw h (regroup front found.0 (lines_at (number + 1) j nodes found.1 found.2)) in
    sym one ∙ (rw count at so_far)

pub line_fault : (e : DumpRefusal) (front : List LineReceipts) (number k j nodes n : ℕ) (text : List ℕ) (total : Many LineReceipts) → k ≡ suc j → Fails e (line_at number nodes n text)
    → with front (lines_at number k nodes n text) ≡ total → Fails e total
unfolding lines_at
line_fault e front number k j nodes n text total count h so_far =
    through e (line_at number nodes n text) total h
    (λ is. let one : with front (lines_at number (suc j) nodes n text) ≡ Err e = rw is refl in sym (rw count at so_far) ∙ one)

pub lines_done : (front : List LineReceipts) (number k nodes n : ℕ) (text : List ℕ) (total : Many LineReceipts) → k ≡ 0 → with front (lines_at number k nodes n text) ≡ total → total ≡ Ok (front, n, text)
unfolding lines_at
lines_done front number k nodes n text total count so_far = sym (rw count at so_far) ∙ with_end front n text

-- all
pub all_read : (text rest more : List ℕ) (nodes count number : ℕ) (lines : List LineReceipts) → head_at text ≡ Some (nodes, count, rest) → lines_at 0 count nodes 2 rest ≡ Ok (lines, number, more) → end_at number more ≡ Ok tt → history_of text ≡ Ok (record { nodes = nodes; lines = lines })
unfolding history_of
all_read text rest more nodes count number lines h l e = rw (h, l, e) refl
