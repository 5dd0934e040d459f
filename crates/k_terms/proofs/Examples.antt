-- The definitions tried on closed values, by computation.
use Rattle.std.proofs.Common.{◌≡◌, ◌-◌, ◌^◌, true, false, [], ◌∷◌, refl}
use Rattle.std.specs.Prelude.{Some, None, pos, negsuc, codes}
use Rattle.std.specs.declared.cmp.Ordering.TheVariants.{Less, Greater}
use Rattle.std.specs.Fmt.{digits}
use Rattle.k_terms.specs.declared.op.Op.TheVariants.{DivInt, ModInt, AddInt, EqK, InKeys, SetKey, GetKey, LengthString, IntToString}
use Rattle.k_terms.specs.declared.value.Value.{Value, Int, Bool as Truth, Str, Node, Seq, Map as Mapping, Freezer}
use Rattle.k_terms.specs.Value.{value_cmp, depth_of, is_well_formed, open_values}
use Rattle.k_terms.specs.Operators.{table}

abbrev one : Value
one = Node 2 (Node 1 [] ∷ [])

abbrev two_keys : Value
two_keys = Mapping ((Int (negsuc 0), one) ∷ (Int (pos 2), Node 1 []) ∷ [])

abbrev same_key : Value
same_key = Mapping ((Int (pos 2), one) ∷ (Int (pos 2), Node 1 []) ∷ [])

by_variant : value_cmp (Int (pos 9)) (Truth false) ≡ Less
unfolding open_values
by_variant = refl

by_parts : value_cmp (Node 2 (Int (pos 3) ∷ Int (pos 1) ∷ [])) (Node 2 (Int (pos 3) ∷ Int (negsuc 0) ∷ [])) ≡ Greater
unfolding open_values
by_parts = refl

by_length : value_cmp (Seq (one ∷ [])) (Seq (one ∷ one ∷ [])) ≡ Less
unfolding open_values
by_length = refl

by_bytes : value_cmp (Str (codes "ab")) (Str (codes "aa")) ≡ Greater
unfolding open_values
by_bytes = refl

map_by_key_then_value : value_cmp (Mapping ((one, Int (pos 5)) ∷ [])) (Mapping ((one, Int (pos 6)) ∷ [])) ≡ Less
unfolding open_values
map_by_key_then_value = refl

depth_of_nested : depth_of (Freezer 3 1 (Seq (one ∷ []) ∷ [])) ≡ 4
unfolding open_values
depth_of_nested = refl

rising : is_well_formed (Seq (two_keys ∷ [])) ≡ true
unfolding open_values
rising = refl

not_rising : is_well_formed (Seq (same_key ∷ [])) ≡ false
unfolding open_values
not_rising = refl

cut_toward_zero : table DivInt (Int (negsuc 6) ∷ Int (pos 2) ∷ []) ≡ Some (Int (negsuc 2))
unfolding open_values
cut_toward_zero = refl

sign_of_dividend : table ModInt (Int (negsuc 6) ∷ Int (pos 2) ∷ []) ≡ Some (Int (negsuc 0))
unfolding open_values
sign_of_dividend = refl

by_nothing : table DivInt (Int (pos 1) ∷ Int (pos 0) ∷ []) ≡ None
unfolding open_values
by_nothing = refl

least_by_minus_one : table DivInt (Int (negsuc (2 ^ 127 - 1)) ∷ Int (negsuc 0) ∷ []) ≡ None
unfolding open_values
least_by_minus_one = refl

least_modulo_minus_one : table ModInt (Int (negsuc (2 ^ 127 - 1)) ∷ Int (negsuc 0) ∷ []) ≡ Some (Int (pos 0))
unfolding open_values
least_modulo_minus_one = refl

past_the_greatest : table AddInt (Int (pos (2 ^ 127 - 1)) ∷ Int (pos 1) ∷ []) ≡ None
unfolding open_values
past_the_greatest = refl

no_item : table EqK (Seq [] ∷ Seq [] ∷ []) ≡ None
unfolding open_values
no_item = refl

has_key : table InKeys (Int (pos 2) ∷ two_keys ∷ []) ≡ Some (Truth true)
unfolding open_values
has_key = refl

new_first_key : table SetKey (two_keys ∷ Int (negsuc 9) ∷ Truth true ∷ []) ≡ Some (Mapping ((Int (negsuc 9), Truth true) ∷ (Int (negsuc 0), one) ∷ (Int (pos 2), Node 1 []) ∷ []))
unfolding open_values
new_first_key = refl

no_such_key : table GetKey (two_keys ∷ Int (pos 7) ∷ []) ≡ None
unfolding open_values
no_such_key = refl

characters : table LengthString (Str (195 ∷ 169 ∷ 122 ∷ []) ∷ []) ≡ Some (Int (pos 2))
unfolding open_values
characters = refl

decimal_text : table IntToString (Int (negsuc 11) ∷ []) ≡ Some (Str (codes "-12"))
unfolding open_values digits
decimal_text = refl
