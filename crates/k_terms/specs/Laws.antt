-- The laws of the order of values, and of the numbers of sorts.
use Rattle.std.specs.Prelude.{◌≡◌}
use Rattle.std.specs.Cmp.{IsTotalOrder}
use Rattle.std.specs.declared.cmp.Ordering.TheVariants.{Equal}
use Rattle.k_terms.specs.declared.value.Value.{Value}
use Rattle.k_terms.specs.declared.sorts.sort.TheConstants.{K, KITEM, KRESULT, INT, BOOL, STRING, ID, MAP, LIST, BAG}
use Rattle.k_terms.specs.Sorts.{sort_k, sort_kitem, sort_kresult, sort_int, sort_bool, sort_string, sort_id, sort_map, sort_list, sort_bag}
use Rattle.k_terms.specs.Value.{value_cmp}

abbrev pub OrderIsTotal : Type 0
OrderIsTotal = IsTotalOrder value_cmp

abbrev pub OnlyEqualValuesTie : Type 0
OnlyEqualValuesTie = (v w : Value) → value_cmp v w ≡ Equal → v ≡ w

abbrev pub EqualValuesTie : Type 0
EqualValuesTie = (v w : Value) → v ≡ w → value_cmp v w ≡ Equal

-- the code's numbers of the built-in sorts are those of the definitions
pub record SortNumbersAgree : Type 0 where
  pub k : K ≡ sort_k
  pub kitem : KITEM ≡ sort_kitem
  pub kresult : KRESULT ≡ sort_kresult
  pub int : INT ≡ sort_int
  pub bool : BOOL ≡ sort_bool
  pub string : STRING ≡ sort_string
  pub id : ID ≡ sort_id
  pub map : MAP ≡ sort_map
  pub list : LIST ≡ sort_list
  pub bag : BAG ≡ sort_bag
