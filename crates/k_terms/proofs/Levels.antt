-- The order of values one layer at a time: `value_cmp` has the equation of `level_cmp`, as the derived order has, and
-- only one order has it.
use Rattle.std.proofs.Common.{◌≡◌, ℕ, refl, sym, ap, ◌∙◌}
use Rattle.std.specs.declared.cmp.Ordering.{Ordering}
use Rattle.std.specs.Ordering.{nat_cmp, int_cmp, bool_cmp, ordering_then}
use Rattle.std.specs.Cmp.Lexicographic.{slice_cmp}
use denote.Hole.Carrier.{out}
use mathlib.Core.Former.{Count, arity, this}
use Rattle.k_terms.specs.formers.many.Many.{the_former}
use Rattle.k_terms.specs.declared.value.Value.{Value, Value-F, Int, Bool as Truth, Str, Id, Node', Items', Seq', Map', List' as Listed', Freezer', Row_of-Value, end_of-Value, more_of-Value, Row_of-Value-Map-0-2, end_of-Value-Map-0-2, more_of-Value-Map-0-2, out-Value, items-the_row-Value, items_shown-the_row-Value-0, items-the_row-Value-Map-0-2, items_shown-the_row-Value-Map-0-2-1}
use Rattle.k_terms.specs.declared.value.Value.TheBlock.{shown-the_row-Value-0, shown-the_row-Value-Map-0-2-1}
use Rattle.k_terms.specs.declared.value.Value.TheOpen.{Int as Int-F, Bool as Truth-F, Str as Str-F, Id as Id-F, Node as Node-F, Items as Items-F, Seq as Seq-F, Map as Map-F, List as List-F, Freezer as Freezer-F}
use Rattle.k_terms.specs.contracts.value.ValueOrd.TheImpl.{ghosts}
use Rattle.k_terms.specs.contracts.value.ValueOrd.TheImpl.Laws as derived
use Rattle.k_terms.specs.Value.{value_cmp, row_cmp, pair_row_cmp}

abbrev pub place_of : {A : Type 0} → Value-F A → ℕ
place_of (Int-F _) = 0
place_of (Truth-F _) = 1
place_of (Str-F _) = 2
place_of (Id-F _) = 3
place_of (Node-F _ _) = 4
place_of (Items-F _ _) = 5
place_of (Seq-F _) = 6
place_of (Map-F _) = 7
place_of (List-F _) = 8
place_of (Freezer-F _ _ _) = 9

module _ {A B : Type 0} where
  -- two entries, by key and then by value
  abbrev pub entry_cmp : (A → B → Ordering) → A × A → B × B → Ordering
  entry_cmp R p q = ordering_then (R p.0 q.0) (R p.1 q.1)

  -- two values, where R compares their parts
  abbrev pub level_cmp : (A → B → Ordering) → Value-F A → Value-F B → Ordering
  level_cmp R (Int-F x) (Int-F y) = int_cmp x y
  level_cmp R (Truth-F x) (Truth-F y) = bool_cmp x y
  level_cmp R (Str-F x) (Str-F y) = slice_cmp nat_cmp x y
  level_cmp R (Id-F x) (Id-F y) = nat_cmp x.0 y.0
  level_cmp R (Node-F p xs) (Node-F q ys) = ordering_then (nat_cmp p q) (slice_cmp R xs ys)
  level_cmp R (Items-F p xs) (Items-F q ys) = ordering_then (nat_cmp p q) (slice_cmp R xs ys)
  level_cmp R (Seq-F xs) (Seq-F ys) = slice_cmp R xs ys
  level_cmp R (Map-F xs) (Map-F ys) = slice_cmp (entry_cmp R) xs ys
  level_cmp R (List-F xs) (List-F ys) = slice_cmp R xs ys
  level_cmp R (Freezer-F p i xs) (Freezer-F q j ys) = ordering_then (nat_cmp p q) (ordering_then (nat_cmp i j) (slice_cmp R xs ys))
  level_cmp R x y = nat_cmp (place_of x) (place_of y)

-- ---- value_cmp

row_is : {m n : Count} (xs : Row_of-Value m) (ys : Row_of-Value n) → row_cmp xs ys ≡ slice_cmp value_cmp (items-the_row-Value m xs) (items-the_row-Value n ys)
unfolding row_cmp
row_is end_of-Value end_of-Value = refl
row_is end_of-Value (more_of-Value y ys) = refl
row_is (more_of-Value x xs) end_of-Value = refl
row_is (more_of-Value x xs) (more_of-Value y ys) = ap (ordering_then (value_cmp x y)) (row_is xs ys)

pair_row_is : {m n : Count} (xs : Row_of-Value-Map-0-2 m) (ys : Row_of-Value-Map-0-2 n) → pair_row_cmp xs ys ≡ slice_cmp (entry_cmp value_cmp) (items-the_row-Value-Map-0-2 m xs) (items-the_row-Value-Map-0-2 n ys)
unfolding pair_row_cmp
pair_row_is end_of-Value-Map-0-2 end_of-Value-Map-0-2 = refl
pair_row_is end_of-Value-Map-0-2 (more_of-Value-Map-0-2 k v ys) = refl
pair_row_is (more_of-Value-Map-0-2 k v xs) end_of-Value-Map-0-2 = refl
pair_row_is (more_of-Value-Map-0-2 k v xs) (more_of-Value-Map-0-2 l w ys) = ap (ordering_then (ordering_then (value_cmp k l) (value_cmp v w))) (pair_row_is xs ys)

row_shown : (s t : (the_former this).Shape) (xs : Row_of-Value (arity (the_former this) s)) (ys : Row_of-Value (arity (the_former this) t)) → row_cmp xs ys ≡ slice_cmp value_cmp (shown-the_row-Value-0 s xs) (shown-the_row-Value-0 t ys)
row_shown s t xs ys = row_is xs ys ∙ (λ i. slice_cmp value_cmp (sym (items_shown-the_row-Value-0 s xs) i) (sym (items_shown-the_row-Value-0 t ys) i))

pair_row_shown : (s t : (the_former this).Shape) (xs : Row_of-Value-Map-0-2 (arity (the_former this) s)) (ys : Row_of-Value-Map-0-2 (arity (the_former this) t)) → pair_row_cmp xs ys ≡ slice_cmp (entry_cmp value_cmp) (shown-the_row-Value-Map-0-2-1 s xs) (shown-the_row-Value-Map-0-2-1 t ys)
pair_row_shown s t xs ys = pair_row_is xs ys ∙ (λ i. slice_cmp (entry_cmp value_cmp) (sym (items_shown-the_row-Value-Map-0-2-1 s xs) i) (sym (items_shown-the_row-Value-Map-0-2-1 t ys) i))

-- The order of values, one layer at a time.
pub value_cmp_levels : (a b : Value) → value_cmp a b ≡ level_cmp value_cmp (out-Value a) (out-Value b)
unfolding value_cmp out-Value out
value_cmp_levels (Int x) (Int y) = refl
value_cmp_levels (Truth x) (Truth y) = refl
value_cmp_levels (Str x) (Str y) = refl
value_cmp_levels (Id x) (Id y) = refl
value_cmp_levels (Node' p s xs) (Node' q t ys) = ap (ordering_then (nat_cmp p q)) (row_shown s t xs ys)
value_cmp_levels (Items' p s xs) (Items' q t ys) = ap (ordering_then (nat_cmp p q)) (row_shown s t xs ys)
value_cmp_levels (Seq' s xs) (Seq' t ys) = row_shown s t xs ys
value_cmp_levels (Map' s xs) (Map' t ys) = pair_row_shown s t xs ys
value_cmp_levels (Listed' s xs) (Listed' t ys) = row_shown s t xs ys
value_cmp_levels (Freezer' p i s xs) (Freezer' q j t ys) = ap (λ r. ordering_then (nat_cmp p q) (ordering_then (nat_cmp i j) r)) (row_shown s t xs ys)
value_cmp_levels a b = refl

-- ---- the derived order

abbrev pub derived_cmp : Value → Value → Ordering
derived_cmp = ghosts.cmp

seen_at : (a b : Value) (x y : Value-F Value) → out-Value a ≡ x → out-Value b ≡ y → derived.unfolded a b ≡ level_cmp derived_cmp x y
seen_at a b (Int-F x) (Int-F y) e f = rw (e, f)
seen_at a b (Truth-F x) (Truth-F y) e f = rw (e, f)
seen_at a b (Str-F x) (Str-F y) e f = rw (e, f)
seen_at a b (Id-F x) (Id-F y) e f = rw (e, f)
seen_at a b (Node-F p xs) (Node-F q ys) e f = rw (e, f)
seen_at a b (Items-F p xs) (Items-F q ys) e f = rw (e, f)
seen_at a b (Seq-F xs) (Seq-F ys) e f = rw (e, f)
seen_at a b (Map-F xs) (Map-F ys) e f = rw (e, f)
seen_at a b (List-F xs) (List-F ys) e f = rw (e, f)
seen_at a b (Freezer-F p i xs) (Freezer-F q j ys) e f = rw (e, f)
seen_at a b x y e f = rw (e, f)

pub derived_levels : (a b : Value) → derived_cmp a b ≡ level_cmp derived_cmp (out-Value a) (out-Value b)
derived_levels a b = derived.is a b ∙ seen_at a b (out-Value a) (out-Value b) refl refl
