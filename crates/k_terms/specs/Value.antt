-- Values: their order, their depth, and which of them are well formed.
use Rattle.std.specs.Prelude.{ℕ, suc, max, Bool, true, ◌&&◌}
use denote.Hole.Carrier.{out, hidden, shown}
use Rattle.k_terms.specs.declared.value.Value.{out-Value}
use Rattle.k_terms.specs.declared.value.Value.TheBlock.{shape-the_row-Value-0, hidden-the_row-Value-0, shown-the_row-Value-0, shape-the_row-Value-Map-0-2-1, hidden-the_row-Value-Map-0-2-1, shown-the_row-Value-Map-0-2-1}
use Rattle.std.specs.declared.cmp.Ordering.{Ordering}
use Rattle.std.specs.declared.cmp.Ordering.TheVariants.{Less, Equal, Greater}
use Rattle.std.specs.Ordering.{nat_cmp, int_cmp, bool_cmp, ordering_then, is_lt}
use Rattle.std.specs.Cmp.Lexicographic.{slice_cmp}
use Rattle.k_terms.specs.declared.value.Value.{Value, Int, Bool as Truth, Str, Id, Node', Items', Seq', Map', List' as Listed', Freezer', Row_of-Value, end_of-Value, more_of-Value, Row_of-Value-Map-0-2, end_of-Value-Map-0-2, more_of-Value-Map-0-2}

-- the place of a value's variant among the ten
abbrev pub variant_of : Value → ℕ
variant_of (Int _) = 0
variant_of (Truth _) = 1
variant_of (Str _) = 2
variant_of (Id _) = 3
variant_of (Node' _ _ _) = 4
variant_of (Items' _ _ _) = 5
variant_of (Seq' _ _) = 6
variant_of (Map' _ _) = 7
variant_of (Listed' _ _) = 8
variant_of (Freezer' _ _ _ _) = 9

-- The order of values: by variant, then by the parts from left to right; a text by its bytes, an identifier by its
-- number, lists lexicographically.
unfoldable mutual
  pub value_cmp : Value → Value → Ordering
  value_cmp (Int x) (Int y) = int_cmp x y
  value_cmp (Truth x) (Truth y) = bool_cmp x y
  value_cmp (Str x) (Str y) = slice_cmp nat_cmp x y
  value_cmp (Id x) (Id y) = nat_cmp x.0 y.0
  value_cmp (Node' p _ xs) (Node' q _ ys) = ordering_then (nat_cmp p q) (row_cmp xs ys)
  value_cmp (Items' p _ xs) (Items' q _ ys) = ordering_then (nat_cmp p q) (row_cmp xs ys)
  value_cmp (Seq' _ xs) (Seq' _ ys) = row_cmp xs ys
  value_cmp (Map' _ xs) (Map' _ ys) = pair_row_cmp xs ys
  value_cmp (Listed' _ xs) (Listed' _ ys) = row_cmp xs ys
  value_cmp (Freezer' p i _ xs) (Freezer' q j _ ys) = ordering_then (nat_cmp p q) (ordering_then (nat_cmp i j) (row_cmp xs ys))
  value_cmp v w = nat_cmp (variant_of v) (variant_of w)

  pub row_cmp : {m n : _} → Row_of-Value m → Row_of-Value n → Ordering
  row_cmp end_of-Value end_of-Value = Equal
  row_cmp end_of-Value (more_of-Value y ys) = Less
  row_cmp (more_of-Value x xs) end_of-Value = Greater
  row_cmp (more_of-Value x xs) (more_of-Value y ys) = ordering_then (value_cmp x y) (row_cmp xs ys)

  pub pair_row_cmp : {m n : _} → Row_of-Value-Map-0-2 m → Row_of-Value-Map-0-2 n → Ordering
  pair_row_cmp end_of-Value-Map-0-2 end_of-Value-Map-0-2 = Equal
  pair_row_cmp end_of-Value-Map-0-2 (more_of-Value-Map-0-2 k v ys) = Less
  pair_row_cmp (more_of-Value-Map-0-2 k v xs) end_of-Value-Map-0-2 = Greater
  pair_row_cmp (more_of-Value-Map-0-2 k v xs) (more_of-Value-Map-0-2 l w ys) =
      ordering_then (ordering_then (value_cmp k l) (value_cmp v w)) (pair_row_cmp xs ys)

-- The depth of a value: 1 where it has no part, and else one more than the greatest depth of a part.
unfoldable mutual
  pub depth_of : Value → ℕ
  depth_of (Int _) = 1
  depth_of (Truth _) = 1
  depth_of (Str _) = 1
  depth_of (Id _) = 1
  depth_of (Node' _ _ parts) = suc (row_depth parts)
  depth_of (Items' _ _ parts) = suc (row_depth parts)
  depth_of (Seq' _ parts) = suc (row_depth parts)
  depth_of (Map' _ entries) = suc (pair_row_depth entries)
  depth_of (Listed' _ parts) = suc (row_depth parts)
  depth_of (Freezer' _ _ _ parts) = suc (row_depth parts)

  pub row_depth : {n : _} → Row_of-Value n → ℕ
  row_depth end_of-Value = 0
  row_depth (more_of-Value part parts) = max (depth_of part) (row_depth parts)

  pub pair_row_depth : {n : _} → Row_of-Value-Map-0-2 n → ℕ
  pair_row_depth end_of-Value-Map-0-2 = 0
  pair_row_depth (more_of-Value-Map-0-2 key value entries) = max (max (depth_of key) (depth_of value)) (pair_row_depth entries)

-- the keys of a row of entries rise, and the first is above `low`
unfoldable pub rises_above : {n : _} → Value → Row_of-Value-Map-0-2 n → Bool
rises_above low end_of-Value-Map-0-2 = true
rises_above low (more_of-Value-Map-0-2 key _ entries) = is_lt (value_cmp low key) && rises_above key entries

unfoldable pub rises : {n : _} → Row_of-Value-Map-0-2 n → Bool
rises end_of-Value-Map-0-2 = true
rises (more_of-Value-Map-0-2 key _ entries) = rises_above key entries

-- A value is well formed where the keys of every map in it rise.
unfoldable mutual
  pub is_well_formed : Value → Bool
  is_well_formed (Int _) = true
  is_well_formed (Truth _) = true
  is_well_formed (Str _) = true
  is_well_formed (Id _) = true
  is_well_formed (Node' _ _ parts) = row_is_well_formed parts
  is_well_formed (Items' _ _ parts) = row_is_well_formed parts
  is_well_formed (Seq' _ parts) = row_is_well_formed parts
  is_well_formed (Map' _ entries) = rises entries && pair_row_is_well_formed entries
  is_well_formed (Listed' _ parts) = row_is_well_formed parts
  is_well_formed (Freezer' _ _ _ parts) = row_is_well_formed parts

  pub row_is_well_formed : {n : _} → Row_of-Value n → Bool
  row_is_well_formed end_of-Value = true
  row_is_well_formed (more_of-Value part parts) = is_well_formed part && row_is_well_formed parts

  pub pair_row_is_well_formed : {n : _} → Row_of-Value-Map-0-2 n → Bool
  pair_row_is_well_formed end_of-Value-Map-0-2 = true
  pair_row_is_well_formed (more_of-Value-Map-0-2 key value entries) =
      is_well_formed key && is_well_formed value && pair_row_is_well_formed entries

-- Opens all of the above at closed values, so that a proof computes there: a proof elsewhere writes `unfolding open_values`.
unfoldable pub open_values : Unit {0}
unfolding value_cmp row_cmp pair_row_cmp depth_of row_depth pair_row_depth rises_above rises is_well_formed row_is_well_formed pair_row_is_well_formed out-Value out hidden shown shape-the_row-Value-0 hidden-the_row-Value-0 shown-the_row-Value-0 shape-the_row-Value-Map-0-2-1 hidden-the_row-Value-Map-0-2-1 shown-the_row-Value-Map-0-2-1
open_values = tt
