-- Well-formed values by their parts: what stands in a well-formed value, and what is made of well-formed parts.
use Rattle.std.proofs.Common.{◌≡◌, ℕ, Bool, true, false, cond, ◌==◌, ◌&&◌, List, [], ◌∷◌, ◌++◌, refl, sym, ap, subst, ◌∙◌, T}
use Rattle.std.specs.Prelude.{Some, None}
use Rattle.std.specs.List.{list_all}
use Rattle.std.specs.declared.cmp.Ordering.TheVariants.{Less, Equal, Greater}
use Rattle.std.specs.Ordering.{eq_by_cmp}
use Rattle.std.specs.FinMap.{find, put, is_sorted}
use Rattle.std.specs.FinMap.Entries.{by_order, is_sorted-put}
use Rattle.k_terms.specs.declared.value.Value.{Value, Value-F, Seq', Map', List' as Listed', out-Value}
use Rattle.k_terms.specs.declared.value.Value.TheOpen.{Items as Items-F, Seq as Seq-F, Map as Map-F, List as List-F}
use Rattle.k_terms.specs.Value.{value_cmp, is_well_formed}
use Rattle.k_terms.specs.Parts.{are_well_formed, entries_are_well_formed}
use Rattle.k_terms.specs.Operators.{as_entries, as_members, as_item}
use Rattle.k_terms.proofs.OrderLaws.{value_cmp_total}
use Rattle.k_terms.proofs.WellFormed.{level_well_formed, is_well_formed_levels}
use Rattle.rule_terms.specs.Substitution.{as_sequence, as_items_of}
use Rattle.rule_terms.proofs.Defined.{both, joins, same_some, let_through}

-- ---- a value read as one of a kind

sequence_level : (x : Value-F Value) (vs : List Value) → elim x [ Seq-F values ↦ Some values | _ ↦ None ] ≡ Some vs → x ≡ Seq-F vs
sequence_level (Seq-F values) vs e = ap Seq-F (same_some values vs e)
sequence_level _ vs e = cc

items_level : (p : ℕ) (x : Value-F Value) (vs : List Value) → elim x [ Items-F q values ↦ cond (q == p) (Some values) None | _ ↦ None ] ≡ Some vs → (q : ℕ) × (x ≡ Items-F q vs)
items_level p (Items-F q values) vs e = (q, ap (Items-F q) (let_through (q == p) values vs e))
items_level p _ vs e = cc

entries_level : (x : Value-F Value) (es : List (Value × Value)) → elim x [ Map-F entries ↦ Some entries | _ ↦ None ] ≡ Some es → x ≡ Map-F es
entries_level (Map-F entries) es e = ap Map-F (same_some entries es e)
entries_level _ es e = cc

members_level : (x : Value-F Value) (vs : List Value) → elim x [ List-F members ↦ Some members | _ ↦ None ] ≡ Some vs → x ≡ List-F vs
members_level (List-F members) vs e = ap List-F (same_some members vs e)
members_level _ vs e = cc

-- whether such a value is well formed, by its parts
module _ (v : Value) (vs : List Value) where
  pub sequence_formed : as_sequence v ≡ Some vs → is_well_formed v ≡ are_well_formed vs
  sequence_formed e = is_well_formed_levels v ∙ ap level_well_formed (sequence_level (out-Value v) vs e)

  pub items_formed : (p : ℕ) → as_items_of p v ≡ Some vs → is_well_formed v ≡ are_well_formed vs
  items_formed p e = is_well_formed_levels v ∙ ap level_well_formed (items_level p (out-Value v) vs e).1

  pub members_formed : as_members v ≡ Some vs → is_well_formed v ≡ are_well_formed vs
  members_formed e = is_well_formed_levels v ∙ ap level_well_formed (members_level (out-Value v) vs e)

abbrev pub Entries : Type 0
Entries = List (Value × Value)

-- the keys of the entries rise, and what stands in them is well formed
abbrev pub are_formed_entries : Entries → Bool
are_formed_entries entries = is_sorted value_cmp entries && entries_are_well_formed entries

pub entries_formed : (v : Value) (es : Entries) → as_entries v ≡ Some es → is_well_formed v ≡ are_formed_entries es
entries_formed v es e = is_well_formed_levels v ∙ ap level_well_formed (entries_level (out-Value v) es e)

pub item_is : (v w : Value) → as_item v ≡ Some w → v ≡ w
item_is (Seq' _ _) w e = cc
item_is (Map' _ _) w e = cc
item_is (Listed' _ _) w e = cc
item_is v w e = same_some v w e

-- ---- lists of parts

pub all_formed : (vs : List Value) → list_all is_well_formed vs ≡ are_well_formed vs
all_formed [] = refl
all_formed (v ∷ vs) = ap (λ b. is_well_formed v && b) (all_formed vs)

pub joined_formed : (vs ws : List Value) → are_well_formed vs ≡ true → are_well_formed ws ≡ true → are_well_formed (vs ++ ws) ≡ true
joined_formed [] ws g h = h
joined_formed (v ∷ vs) ws g h = joins _ _ (both _ _ g).0 (joined_formed vs ws (both _ _ g).1 h)

pub front_formed : (vs ws : List Value) → are_well_formed (vs ++ ws) ≡ true → are_well_formed vs ≡ true
front_formed [] ws h = refl
front_formed (v ∷ vs) ws h = joins _ _ (both _ _ h).0 (front_formed vs ws (both _ _ h).1)

pub back_formed : (vs ws : List Value) → are_well_formed (vs ++ ws) ≡ true → are_well_formed ws ≡ true
back_formed [] ws h = h
back_formed (v ∷ vs) ws h = back_formed vs ws (both _ _ h).1

-- ---- entries

to_true : (b : Bool) → T b → b ≡ true
to_true true p = refl
to_true false p = absurd p

from_true : (b : Bool) → b ≡ true → T b
from_true b e = subst T (sym e) tt

-- a value that is found at a key
pub found_formed : (key : Value) (es : Entries) (v : Value) → entries_are_well_formed es ≡ true → find value_cmp key es ≡ Some v → is_well_formed v ≡ true
found_formed key [] v h e = cc
found_formed key (entry ∷ es) v h e = elim (eq_by_cmp value_cmp key entry.0) as (λ b. cond b (Some entry.1) (find value_cmp key es) ≡ Some v → is_well_formed v ≡ true) [
  | true ↦ λ here. subst (λ w. is_well_formed w ≡ true) (same_some entry.1 v here) (both _ _ (both _ _ h).0).1
  | false ↦ λ there. found_formed key es v (both _ _ h).1 there
] e

-- an entry that is put into others
put_parts_formed : (key value : Value) (es : Entries) → is_well_formed key ≡ true → is_well_formed value ≡ true → entries_are_well_formed es ≡ true → entries_are_well_formed (put value_cmp key value es) ≡ true
put_parts_formed key value [] k v h = joins _ _ (joins _ _ k v) refl
put_parts_formed key value (entry ∷ es) k v h = elim (value_cmp key entry.0) as (λ r. entries_are_well_formed (by_order r ((key, value) ∷ entry ∷ es) ((entry.0, value) ∷ es) (entry ∷ put value_cmp key value es)) ≡ true) [
  | Less ↦ joins _ _ (joins _ _ k v) h
  | Equal ↦ joins _ _ (joins _ _ (both _ _ (both _ _ h).0).0 v) (both _ _ h).1
  | Greater ↦ joins _ _ (both _ _ h).0 (put_parts_formed key value es k v (both _ _ h).1)
]

pub put_formed : (key value : Value) (es : Entries) → is_well_formed key ≡ true → is_well_formed value ≡ true → are_formed_entries es ≡ true → are_formed_entries (put value_cmp key value es) ≡ true
put_formed key value es k v h =
    joins _ _ (to_true _ (is_sorted-put value_cmp value_cmp_total key value es (from_true _ (both _ _ h).0))) (put_parts_formed key value es k v (both _ _ h).1)
