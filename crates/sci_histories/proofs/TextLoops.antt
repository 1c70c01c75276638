-- The text of receipts, lists and lines, one after another.
use Rattle.std.proofs.Common.{◌≡◌, ℕ, ◌+◌, ◌<◌, ◌≤◌, List, [], ◌++◌, length, get_or, drop, refl}
use Rattle.std.proofs.lemmas.List.{drop_more, drop_all}
use Rattle.sci_core.specs.declared.receipts.Receipt.{Receipt}
use Rattle.sci_histories.specs.Histories.{LineReceipts}
use Rattle.sci_histories.specs.Text.{receipt_text, list_text, lists_text, line_text, lines_text}

pub list_more : (node i : ℕ) (rs : List Receipt) (d : Receipt) → i < length rs → list_text node (drop i rs) ≡ receipt_text node (get_or rs i d) ++ list_text node (drop (i + 1) rs)
unfolding list_text
list_more node i rs d lt = rw (drop_more rs i d lt) refl

pub list_end : (node i : ℕ) (rs : List Receipt) → length rs ≤ i → list_text node (drop i rs) ≡ []
unfolding list_text
list_end node i rs le = rw (drop_all i rs le) refl

pub lists_more : (i : ℕ) (ls : List (List Receipt)) (l : List Receipt) → i < length ls → lists_text i (drop i ls) ≡ list_text i (get_or ls i l) ++ lists_text (i + 1) (drop (i + 1) ls)
unfolding lists_text
lists_more i ls l lt = rw (drop_more ls i l lt) refl

pub lists_end : (i : ℕ) (ls : List (List Receipt)) → length ls ≤ i → lists_text i (drop i ls) ≡ []
unfolding lists_text
lists_end i ls le = rw (drop_all i ls le) refl

pub lines_more : (i : ℕ) (hs : List LineReceipts) (h : LineReceipts) → i < length hs → lines_text i (drop i hs) ≡ line_text i (get_or hs i h) ++ lines_text (i + 1) (drop (i + 1) hs)
unfolding lines_text
lines_more i hs h lt = rw (drop_more hs i h lt) refl

pub lines_end : (i : ℕ) (hs : List LineReceipts) → length hs ≤ i → lines_text i (drop i hs) ≡ []
unfolding lines_text
lines_end i hs le = rw (drop_all i hs le) refl
