-- Well-formed values one layer at a time, and that rising keys are the keys of a sorted list of entries.
use Rattle.std.proofs.Common.{◌≡◌, ℕ, Bool, true, false, ◌&&◌, List, [], ◌∷◌, refl, sym, ap, ◌∙◌}
use Rattle.std.specs.declared.cmp.Ordering.TheVariants.{Less, Equal, Greater}
use Rattle.std.specs.Ordering.{is_lt}
use Rattle.std.specs.FinMap.{is_sorted}
use Rattle.std.specs.FinMap.Entries.{below_all}
use denote.Hole.Carrier.{out}
use mathlib.Core.Former.{Count, arity, this}
use Rattle.k_terms.specs.formers.many.Many.{the_former}
use Rattle.k_terms.specs.declared.value.Value.{Value, Value-F, Int, Bool as Truth, Str, Id, Node, Node', Items, Items', Seq, Seq', Map as Mapping, Map', List as Listed, List' as Listed', Freezer, Freezer', Row_of-Value, end_of-Value, more_of-Value, Row_of-Value-Map-0-2, end_of-Value-Map-0-2, more_of-Value-Map-0-2, out-Value, items-the_row-Value, items_shown-the_row-Value-0, items-the_row-Value-Map-0-2, items_shown-the_row-Value-Map-0-2-1}
use Rattle.k_terms.specs.declared.value.Value.TheVariants.{outs-Node, outs-Items, outs-Seq, outs-Map, outs-List, outs-Freezer}
use Rattle.k_terms.specs.declared.value.Value.TheBlock.{shown-the_row-Value-0, shown-the_row-Value-Map-0-2-1}
use Rattle.k_terms.specs.declared.value.Value.TheOpen.{Int as Int-F, Bool as Truth-F, Str as Str-F, Id as Id-F, Node as Node-F, Items as Items-F, Seq as Seq-F, Map as Map-F, List as List-F, Freezer as Freezer-F}
use Rattle.k_terms.specs.Value.{value_cmp, rises, rises_above, is_well_formed, row_is_well_formed, pair_row_is_well_formed}
use Rattle.k_terms.specs.Parts.{are_well_formed, entries_are_well_formed}
use Rattle.k_terms.proofs.OrderLaws.{value_cmp_total}

-- ---- rising keys

abbrev Entries : Type 0
Entries = List (Value × Value)

below_chain : (low key : Value) (entries : Entries) → value_cmp low key ≡ Less → below_all value_cmp key entries ≡ true → below_all value_cmp low entries ≡ true
below_chain low key [] e h = refl
below_chain low key (entry ∷ entries) e h =
    elim (value_cmp key entry.0) as (λ r. value_cmp key entry.0 ≡ r → (is_lt r && below_all value_cmp key entries) ≡ true → (is_lt (value_cmp low entry.0) && below_all value_cmp low entries) ≡ true) [
      | Less ↦ λ p rest. (λ i. is_lt (value_cmp_total.trans low key entry.0 e p i) && below_chain low key entries e rest i)
      | Equal ↦ λ p rest. cc
      | Greater ↦ λ p rest. cc
    ] refl h

absorbed : (a b c : Bool) → (b ≡ true → a ≡ true) → (b && c) ≡ (a && (b && c))
absorbed true b c h = refl
absorbed false true c h = let e : false ≡ true = h refl in cc
absorbed false false c h = refl

pub rises_above_is : {n : Count} (low : Value) (row : Row_of-Value-Map-0-2 n) → rises_above low row ≡ (below_all value_cmp low (items-the_row-Value-Map-0-2 n row) && is_sorted value_cmp (items-the_row-Value-Map-0-2 n row))
unfolding rises_above
rises_above_is low end_of-Value-Map-0-2 = refl
rises_above_is {n} low (more_of-Value-Map-0-2 {n = m} key value row) =
    let rest : Entries = items-the_row-Value-Map-0-2 m row in
    let sorted : Bool = below_all value_cmp key rest && is_sorted value_cmp rest in
    elim (value_cmp low key) as (λ r. value_cmp low key ≡ r → (is_lt r && rises_above key row) ≡ ((is_lt r && below_all value_cmp low rest) && sorted)) [
      | Less ↦ λ p. rises_above_is key row ∙ absorbed (below_all value_cmp low rest) (below_all value_cmp key rest) (is_sorted value_cmp rest) (below_chain low key rest p)
      | Equal ↦ λ p. refl
      | Greater ↦ λ p. refl
    ] refl

rises_is : {n : Count} (row : Row_of-Value-Map-0-2 n) → rises row ≡ is_sorted value_cmp (items-the_row-Value-Map-0-2 n row)
unfolding rises
rises_is end_of-Value-Map-0-2 = refl
rises_is (more_of-Value-Map-0-2 key value row) = rises_above_is key row

-- ---- one layer

abbrev pub level_well_formed : Value-F Value → Bool
level_well_formed (Int-F _) = true
level_well_formed (Truth-F _) = true
level_well_formed (Str-F _) = true
level_well_formed (Id-F _) = true
level_well_formed (Node-F _ parts) = are_well_formed parts
level_well_formed (Items-F _ parts) = are_well_formed parts
level_well_formed (Seq-F parts) = are_well_formed parts
level_well_formed (Map-F entries) = is_sorted value_cmp entries && entries_are_well_formed entries
level_well_formed (List-F parts) = are_well_formed parts
level_well_formed (Freezer-F _ _ parts) = are_well_formed parts

row_is : {n : Count} (parts : Row_of-Value n) → row_is_well_formed parts ≡ are_well_formed (items-the_row-Value n parts)
unfolding row_is_well_formed
row_is end_of-Value = refl
row_is (more_of-Value part parts) = ap (λ b. is_well_formed part && b) (row_is parts)

pair_row_is : {n : Count} (entries : Row_of-Value-Map-0-2 n) → pair_row_is_well_formed entries ≡ entries_are_well_formed (items-the_row-Value-Map-0-2 n entries)
unfolding pair_row_is_well_formed
pair_row_is end_of-Value-Map-0-2 = refl
pair_row_is (more_of-Value-Map-0-2 key value entries) = ap (λ b. is_well_formed key && is_well_formed value && b) (pair_row_is entries)

row_shown : (s : (the_former this).Shape) (parts : Row_of-Value (arity (the_former this) s)) → row_is_well_formed parts ≡ are_well_formed (shown-the_row-Value-0 s parts)
row_shown s parts = row_is parts ∙ ap are_well_formed (sym (items_shown-the_row-Value-0 s parts))

pair_row_shown : (s : (the_former this).Shape) (entries : Row_of-Value-Map-0-2 (arity (the_former this) s)) → (rises entries && pair_row_is_well_formed entries) ≡ level_well_formed (Map-F (shown-the_row-Value-Map-0-2-1 s entries))
pair_row_shown s entries =
    (λ i. rises_is entries i && pair_row_is entries i) ∙ ap (λ es. level_well_formed (Map-F es)) (sym (items_shown-the_row-Value-Map-0-2-1 s entries))

-- Whether a value is well formed, one layer at a time.
pub is_well_formed_levels : (v : Value) → is_well_formed v ≡ level_well_formed (out-Value v)
unfolding is_well_formed out-Value out
is_well_formed_levels (Int _) = refl
is_well_formed_levels (Truth _) = refl
is_well_formed_levels (Str _) = refl
is_well_formed_levels (Id _) = refl
is_well_formed_levels (Node' _ s parts) = row_shown s parts
is_well_formed_levels (Items' _ s parts) = row_shown s parts
is_well_formed_levels (Seq' s parts) = row_shown s parts
is_well_formed_levels (Map' s entries) = pair_row_shown s entries
is_well_formed_levels (Listed' s parts) = row_shown s parts
is_well_formed_levels (Freezer' _ _ s parts) = row_shown s parts

-- The same at each variant that has parts.
pub is_well_formed-Node : (p : ℕ) (parts : List Value) → is_well_formed (Node p parts) ≡ are_well_formed parts
is_well_formed-Node p parts = is_well_formed_levels _ ∙ ap level_well_formed (outs-Node p parts)

pub is_well_formed-Items : (p : ℕ) (parts : List Value) → is_well_formed (Items p parts) ≡ are_well_formed parts
is_well_formed-Items p parts = is_well_formed_levels _ ∙ ap level_well_formed (outs-Items p parts)

pub is_well_formed-Seq : (parts : List Value) → is_well_formed (Seq parts) ≡ are_well_formed parts
is_well_formed-Seq parts = is_well_formed_levels _ ∙ ap level_well_formed (outs-Seq parts)

pub is_well_formed-Map : (entries : List (Value × Value)) → is_well_formed (Mapping entries) ≡ (is_sorted value_cmp entries && entries_are_well_formed entries)
is_well_formed-Map entries = is_well_formed_levels _ ∙ ap level_well_formed (outs-Map entries)

pub is_well_formed-List : (parts : List Value) → is_well_formed (Listed parts) ≡ are_well_formed parts
is_well_formed-List parts = is_well_formed_levels _ ∙ ap level_well_formed (outs-List parts)

pub is_well_formed-Freezer : (p i : ℕ) (parts : List Value) → is_well_formed (Freezer p i parts) ≡ are_well_formed parts
is_well_formed-Freezer p i parts = is_well_formed_levels _ ∙ ap level_well_formed (outs-Freezer p i parts)
