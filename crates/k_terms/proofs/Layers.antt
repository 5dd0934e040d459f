-- The depth of values one layer at a time.
use Rattle.std.proofs.Common.{◌≡◌, ◌⊎◌, inl, inr, ℕ, ℤ, Bool, suc, ◌+◌, ◌-◌, ◌^◌, ◌<◌, min, max, List, [], ◌∷◌, ◌++◌, length, get_or, take, refl, sym, ap, ◌∙◌, arith}
use Rattle.std.proofs.lemmas.List.{take_more}
use denote.Hole.Carrier.{out}
use mathlib.Core.Former.{Count, arity, this}
use Rattle.k_terms.specs.formers.many.Many.{the_former}
use Rattle.k_terms.specs.declared.value.Symbol.{Symbol}
use Rattle.k_terms.specs.declared.value.Value.{Value, Value-F, Int, Bool as Truth, Str, Id, Node, Node', Items, Items', Seq, Seq', Map as Mapping, Map', List as Listed, List' as Listed', Freezer, Freezer', Row_of-Value, end_of-Value, more_of-Value, Row_of-Value-Map-0-2, end_of-Value-Map-0-2, more_of-Value-Map-0-2, out-Value, items-the_row-Value, items_shown-the_row-Value-0, items-the_row-Value-Map-0-2, items_shown-the_row-Value-Map-0-2-1}
use Rattle.k_terms.specs.declared.value.Value.TheVariants.{outs-Node, outs-Items, outs-Seq, outs-Map, outs-List, outs-Freezer}
use Rattle.k_terms.specs.declared.value.Value.TheOpen.{Int as Int-F, Bool as Truth-F, Str as Str-F, Id as Id-F, Node as Node-F, Items as Items-F, Seq as Seq-F, Map as Map-F, List as List-F, Freezer as Freezer-F}
use Rattle.k_terms.specs.Value.{depth_of, row_depth, pair_row_depth}
use Rattle.k_terms.specs.Parts.{greatest_depth, greatest_entry_depth}

abbrev pub level_depth : Value-F Value → ℕ
level_depth (Int-F _) = 1
level_depth (Truth-F _) = 1
level_depth (Str-F _) = 1
level_depth (Id-F _) = 1
level_depth (Node-F _ parts) = suc (greatest_depth parts)
level_depth (Items-F _ parts) = suc (greatest_depth parts)
level_depth (Seq-F parts) = suc (greatest_depth parts)
level_depth (Map-F entries) = suc (greatest_entry_depth entries)
level_depth (List-F parts) = suc (greatest_depth parts)
level_depth (Freezer-F _ _ parts) = suc (greatest_depth parts)

row_depth_is : {n : Count} (parts : Row_of-Value n) → row_depth parts ≡ greatest_depth (items-the_row-Value n parts)
unfolding row_depth
row_depth_is end_of-Value = refl
row_depth_is (more_of-Value part parts) = ap (max (depth_of part)) (row_depth_is parts)

pair_row_depth_is : {n : Count} (entries : Row_of-Value-Map-0-2 n) → pair_row_depth entries ≡ greatest_entry_depth (items-the_row-Value-Map-0-2 n entries)
unfolding pair_row_depth
pair_row_depth_is end_of-Value-Map-0-2 = refl
pair_row_depth_is (more_of-Value-Map-0-2 key value entries) = ap (max (max (depth_of key) (depth_of value))) (pair_row_depth_is entries)

row_deeper : (s : (the_former this).Shape) (parts : Row_of-Value (arity (the_former this) s)) → suc (row_depth parts) ≡ level_depth (out-Value (Seq' s parts))
unfolding out-Value out
row_deeper s parts = ap suc (row_depth_is parts ∙ ap greatest_depth (sym (items_shown-the_row-Value-0 s parts)))

pair_row_deeper : (s : (the_former this).Shape) (entries : Row_of-Value-Map-0-2 (arity (the_former this) s)) → suc (pair_row_depth entries) ≡ level_depth (out-Value (Map' s entries))
unfolding out-Value out
pair_row_deeper s entries = ap suc (pair_row_depth_is entries ∙ ap greatest_entry_depth (sym (items_shown-the_row-Value-Map-0-2-1 s entries)))

-- The depth of a value, one layer at a time.
pub depth_of_levels : (v : Value) → depth_of v ≡ level_depth (out-Value v)
unfolding depth_of out-Value out
depth_of_levels (Int _) = refl
depth_of_levels (Truth _) = refl
depth_of_levels (Str _) = refl
depth_of_levels (Id _) = refl
depth_of_levels (Node' _ s parts) = row_deeper s parts
depth_of_levels (Items' _ s parts) = row_deeper s parts
depth_of_levels (Seq' s parts) = row_deeper s parts
depth_of_levels (Map' s entries) = pair_row_deeper s entries
depth_of_levels (Listed' s parts) = row_deeper s parts
depth_of_levels (Freezer' _ _ s parts) = row_deeper s parts

-- The same at each variant.
pub depth_of-Int : (z : ℤ) → depth_of (Int z) ≡ 1
unfolding depth_of
depth_of-Int z = refl

pub depth_of-Bool : (b : Bool) → depth_of (Truth b) ≡ 1
unfolding depth_of
depth_of-Bool b = refl

pub depth_of-Str : (bytes : List ℕ) → depth_of (Str bytes) ≡ 1
unfolding depth_of
depth_of-Str bytes = refl

pub depth_of-Id : (x : Symbol) → depth_of (Id x) ≡ 1
unfolding depth_of
depth_of-Id x = refl

pub depth_of-Node : (p : ℕ) (parts : List Value) → depth_of (Node p parts) ≡ suc (greatest_depth parts)
depth_of-Node p parts = depth_of_levels _ ∙ ap level_depth (outs-Node p parts)

pub depth_of-Items : (p : ℕ) (parts : List Value) → depth_of (Items p parts) ≡ suc (greatest_depth parts)
depth_of-Items p parts = depth_of_levels _ ∙ ap level_depth (outs-Items p parts)

pub depth_of-Seq : (parts : List Value) → depth_of (Seq parts) ≡ suc (greatest_depth parts)
depth_of-Seq parts = depth_of_levels _ ∙ ap level_depth (outs-Seq parts)

pub depth_of-Map : (entries : List (Value × Value)) → depth_of (Mapping entries) ≡ suc (greatest_entry_depth entries)
depth_of-Map entries = depth_of_levels _ ∙ ap level_depth (outs-Map entries)

pub depth_of-List : (parts : List Value) → depth_of (Listed parts) ≡ suc (greatest_depth parts)
depth_of-List parts = depth_of_levels _ ∙ ap level_depth (outs-List parts)

pub depth_of-Freezer : (p i : ℕ) (parts : List Value) → depth_of (Freezer p i parts) ≡ suc (greatest_depth parts)
depth_of-Freezer p i parts = depth_of_levels _ ∙ ap level_depth (outs-Freezer p i parts)

-- One more part.
pub greatest_depth-push : (parts : List Value) (part : Value) → greatest_depth (parts ++ part ∷ []) ≡ max (depth_of part) (greatest_depth parts)
greatest_depth-push [] part = refl
greatest_depth-push (x ∷ xs) part = omega (arith, greatest_depth-push xs part)

pub greatest_entry_depth-push : (entries : List (Value × Value)) (entry : Value × Value) → greatest_entry_depth (entries ++ entry ∷ []) ≡ max (max (depth_of entry.0) (depth_of entry.1)) (greatest_entry_depth entries)
greatest_entry_depth-push [] entry = refl
greatest_entry_depth-push (x ∷ xs) entry = omega (arith, greatest_entry_depth-push xs entry)

-- ---- depths that stay at the greatest number

abbrev pub capped : ℕ → ℕ
capped d = min d (2 ^ 32 - 1)

pub capped_leaf : (v : Value) → ((x : ℤ) × v ≡ Int x) ⊎ (((x : Bool) × v ≡ Truth x) ⊎ (((x : List ℕ) × v ≡ Str x) ⊎ ((x : Symbol) × v ≡ Id x))) → 1 ≡ capped (depth_of v)
capped_leaf v (inl e) = omega (arith, ap depth_of e.1 ∙ depth_of-Int e.0)
capped_leaf v (inr (inl e)) = omega (arith, ap depth_of e.1 ∙ depth_of-Bool e.0)
capped_leaf v (inr (inr (inl e))) = omega (arith, ap depth_of e.1 ∙ depth_of-Str e.0)
capped_leaf v (inr (inr (inr e))) = omega (arith, ap depth_of e.1 ∙ depth_of-Id e.0)

pub capped_deeper : (v : Value) (d r s : ℕ) → depth_of v ≡ suc d → r ≡ capped d → s ≡ capped (r + 1) → s ≡ capped (depth_of v)
capped_deeper v d r s e f g = omega (arith, e, f, g)

pub capped_more : (parts : List Value) (i : ℕ) (part : Value) (g d m : ℕ) → i < length parts → part ≡ get_or parts i part → g ≡ capped (greatest_depth (take i parts)) → d ≡ capped (depth_of part) → m ≡ max d g → m ≡ capped (greatest_depth (take (i + 1) parts))
capped_more parts i part g d m h is p q r =
    let more : greatest_depth (take (i + 1) parts) ≡ max (depth_of part) (greatest_depth (take i parts)) =
    ap greatest_depth (take_more parts i part h) ∙ greatest_depth-push (take i parts) (get_or parts i part) ∙ ap (λ x. max (depth_of x) (greatest_depth (take i parts))) (sym is) in
    omega arith

pub capped_entry_more : (entries : List (Value × Value)) (i : ℕ) (entry : Value × Value) (g d e m n : ℕ) → i < length entries → entry ≡ get_or entries i entry → g ≡ capped (greatest_entry_depth (take i entries)) → d ≡ capped (depth_of entry.0) → e ≡ capped (depth_of entry.1) → m ≡ max d e → n ≡ max m g → n ≡ capped (greatest_entry_depth (take (i + 1) entries))
capped_entry_more entries i entry g d e m n h is p q r s t =
    let more : greatest_entry_depth (take (i + 1) entries) ≡ max (max (depth_of entry.0) (depth_of entry.1)) (greatest_entry_depth (take i entries)) =
    ap greatest_entry_depth (take_more entries i entry h) ∙ greatest_entry_depth-push (take i entries) (get_or entries i entry) ∙ ap (λ (x : Value × Value). max (max (depth_of x.0) (depth_of x.1)) (greatest_entry_depth (take i entries))) (sym is) in
    omega arith
