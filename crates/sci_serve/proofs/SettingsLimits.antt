-- Settings that are read are within the limits of their work.
use Rattle.std.proofs.Common.{◌≡◌, ℕ, ◌%◌, ◌≤◌, Bool, true, false, Option, Some, None, List, length, codes, refl, subst, arith, ◌&&◌, ◌==◌, nat_le, if◌then◌else◌}
use Rattle.std.proofs.Math.Nat.{div-add-mod}
use Rattle.std.proofs.lemmas.Bool.{and_parts, leb-true, eqb-true}
use Rattle.std.proofs.lemmas.Option.{cond_some, same_Some}
use Rattle.toml.specs.Data.{Members, get_member}
use Rattle.toml.specs.Parse.{parse_document}
use Rattle.sci_settings.specs.declared.settings.Settings.{Settings}
use Rattle.sci_settings.specs.declared.works.Work.{Work}
use Rattle.sci_settings.specs.declared.works.Work.TheVariants as work
use Rattle.sci_serve.specs.Runs.{AreWithin}
use Rattle.sci_settings.specs.Settings.{◌>>=◌, within, number_in, number_at, numbers_at, if_so, are_cells, are_items, dump_at, work_at, has_keys_of, settings_for, settings_in, settings_of}

-- what a step was taken from
taken : {A B : Type 0} (o : Option A) (f : A → Option B) (y : B) → o >>= f ≡ Some y → (x : A) × (o ≡ Some x) × (f x ≡ Some y)
taken None f y e = absurd (let h = e in cc)
taken (Some x) f y e = (x, refl, e)

within_is : (low high n k : ℕ) → within low high n ≡ Some k → (low ≤ k) × (k ≤ high)
within_is low high n k e =
    let (both, same) = cond_some (nat_le low n && nat_le n high) n k e in
    let (above, below) = and_parts (nat_le low n) (nat_le n high) both in
    subst (λ (m : ℕ). (low ≤ m) × (m ≤ high)) same (leb-true low n above, leb-true n high below)

number_within : (key : List ℕ) (low high : ℕ) (ms : Members) (k : ℕ) → number_at key low high ms ≡ Some k → (low ≤ k) × (k ≤ high)
number_within key low high ms k e =
    let (n, at, is) = taken (get_member key ms >>= number_in) (within low high) k e in
    within_is low high n k is

-- what passes a test has it
passed : {A : Type 0} (o : Option A) (f : A → Bool) (y : A) → o >>= if_so f ≡ Some y → f y ≡ true
passed o f y e =
    let (x, at, is) = taken o (if_so f) y e in
    let (so, same) = cond_some (f x) x y is in
    subst (λ z. f z ≡ true) same so

-- whole tiles, of which there are some, have a tile's cells
tile_is_there : (n : ℕ) → 1 ≤ n → n % 7 ≡ 0 → 7 ≤ n
tile_is_there n some whole = let d = div-add-mod n 7 in omega (arith, d, some, whole)

cells_within : (cells : List ℕ) → are_cells cells ≡ true → (length cells % 7 ≡ 0) × (7 ≤ length cells) × (length cells ≤ 3584)
cells_within cells e =
    let (both, whole) = and_parts (nat_le 1 (length cells) && nat_le (length cells) 3584) (length cells % 7 == 0) e in
    let (some, few) = and_parts (nat_le 1 (length cells)) (nat_le (length cells) 3584) both in
    let tiles = eqb-true (length cells % 7) 0 whole in
    (tiles, tile_is_there (length cells) (leb-true 1 (length cells) some) tiles, leb-true (length cells) 3584 few)

work_within : (work : Work) (ms : Members) (s : Settings) → settings_for work ms ≡ Some s → AreWithin s
unfolding settings_for
work_within work.Stencil ms s e =
    let (nodes, of_nodes, e1) = taken (number_at (codes "nodes") 1 64 ms) _ s e in
    let (capacity, of_capacity, e2) = taken (number_at (codes "capacity") 1 1024 ms) _ s e1 in
    let (phases, of_phases, e3) = taken (number_at (codes "phases") 0 1000000 ms) _ s e2 in
    let (cells, of_cells, e4) = taken (numbers_at (codes "cells") ms >>= if_so are_cells) _ s e3 in
    let (dump, of_dump, e5) = taken (dump_at ms) _ s e4 in
    let (n1, n64) = number_within (codes "nodes") 1 64 ms nodes of_nodes in
    let (c1, c1024) = number_within (codes "capacity") 1 1024 ms capacity of_capacity in
    let (p0, most) = number_within (codes "phases") 0 1000000 ms phases of_phases in
    let (tiles, some, few) = cells_within cells (passed (numbers_at (codes "cells") ms) are_cells cells of_cells) in
    subst AreWithin (same_Some _ s e5) (tiles, some, few, most, n1, n64, c1, c1024)
work_within work.Ring ms s e =
    let (lines, of_lines, e1) = taken (number_at (codes "lines") 1 1023 ms) _ s e in
    let (capacity, of_capacity, e2) = taken (number_at (codes "capacity") 1 1024 ms) _ s e1 in
    let (items, of_items, e3) = taken (numbers_at (codes "items") ms >>= if_so are_items) _ s e2 in
    let (dump, of_dump, e4) = taken (dump_at ms) _ s e3 in
    let (l1, l1023) = number_within (codes "lines") 1 1023 ms lines of_lines in
    let (c1, c1024) = number_within (codes "capacity") 1 1024 ms capacity of_capacity in
    let few = leb-true (length items) 100000 (passed (numbers_at (codes "items") ms) are_items items of_items) in
    subst AreWithin (same_Some _ s e4) ((few, l1, l1023), c1, c1024)
work_within work.Count ms s e =
    let (nodes, of_nodes, e1) = taken (number_at (codes "nodes") 1 64 ms) _ s e in
    let (adds, of_adds, e2) = taken (number_at (codes "adds") 0 1000000 ms) _ s e1 in
    let (capacity, of_capacity, e3) = taken (number_at (codes "capacity") 1 1024 ms) _ s e2 in
    let (dump, of_dump, e4) = taken (dump_at ms) _ s e3 in
    let (n1, n64) = number_within (codes "nodes") 1 64 ms nodes of_nodes in
    let (a0, most) = number_within (codes "adds") 0 1000000 ms adds of_adds in
    let (c1, c1024) = number_within (codes "capacity") 1 1024 ms capacity of_capacity in
    subst AreWithin (same_Some _ s e4) (n1, n64, most, c1, c1024)

table_within : (ms : Members) (s : Settings) → settings_in ms ≡ Some s → AreWithin s
unfolding settings_in
table_within ms s e =
    let (work, named, is) = taken (work_at ms) _ s e in
    work_within work ms s (kept (has_keys_of work ms) (settings_for work ms) is)
  where
    kept : (b : Bool) (o : Option Settings) → (if b then o else None) ≡ Some s → o ≡ Some s
    kept true o h = h
    kept false o h = absurd (let k = h in cc)

pub settings_within : (text : List ℕ) (s : Settings) → settings_of text ≡ Some s → AreWithin s
unfolding settings_of
settings_within text s e = let (ms, parsed, is) = taken (parse_document text) settings_in s e in table_within ms s is
