-- The table of the builtin operators: the value of each at its arguments, in the order in which they are written, and
-- none where it is undefined or an argument is not of the operator's sorts.
use Rattle.std.specs.Prelude.{ℕ, ◌^◌, Bool, not, cond, ◌&&◌, ◌||◌, nat_le, nat_lt, List, [], ◌∷◌, ◌++◌, length, Option, Some, None, is_some, filter, ℤ, pos, negsuc, ◌+ℤ◌, ◌-ℤ◌, ◌*ℤ◌, int_div, int_rem}
use Rattle.std.specs.Option.{option_and_then}
use Rattle.std.specs.Ordering.{is_lt, is_le, is_eq, is_gt, is_ge, is_ne, int_cmp}
use Rattle.std.specs.FinMap.{find, put}
use Rattle.std.specs.Fmt.{signed_decimal}
use Rattle.k_terms.specs.declared.op.Op.{Op}
use Rattle.k_terms.specs.declared.op.Op.TheVariants.{MulInt, DivInt, ModInt, AddInt, SubInt, JoinString, LtInt, LeInt, GtInt, GeInt, EqInt, NeInt, EqK, NeK, InKeys, Not, And, Or, SetKey, GetKey, SizeMap, SizeList, LengthString, IntToString}
use Rattle.k_terms.specs.declared.value.Value.{Value, Int, Bool as Truth, Str, Seq', Map', Map as Mapping, List' as Listed', out-Value}
use Rattle.k_terms.specs.declared.value.Value.TheOpen.{Int as Int-F, Bool as Truth-F, Str as Str-F, Map as Map-F, List as List-F}
use Rattle.k_terms.specs.Value.{value_cmp, depth_of}

-- the greatest depth of a value that is built
abbrev pub depth_limit : ℕ
depth_limit = 400

-- a built value, where it isn't too deep
abbrev pub bounded : Value → Option Value
bounded v = cond (nat_le (depth_of v) depth_limit) (Some v) None

-- a whole number, where it has 128 bits with its sign
abbrev pub whole : ℤ → Option Value
whole (pos n) = cond (nat_lt n (2 ^ 127)) (Some (Int (pos n))) None
whole (negsuc n) = cond (nat_lt n (2 ^ 127)) (Some (Int (negsuc n))) None

abbrev pub truth : Bool → Option Value
truth b = Some (Truth b)

-- the kinds of arguments
abbrev pub as_int : Value → Option ℤ
as_int v = elim (out-Value v) [ Int-F z ↦ Some z | _ ↦ None ]

abbrev pub as_truth : Value → Option Bool
as_truth v = elim (out-Value v) [ Truth-F b ↦ Some b | _ ↦ None ]

abbrev pub as_text : Value → Option (List ℕ)
as_text v = elim (out-Value v) [ Str-F bytes ↦ Some bytes | _ ↦ None ]

abbrev pub as_entries : Value → Option (List (Value × Value))
as_entries v = elim (out-Value v) [ Map-F entries ↦ Some entries | _ ↦ None ]

abbrev pub as_members : Value → Option (List Value)
as_members v = elim (out-Value v) [ List-F members ↦ Some members | _ ↦ None ]

-- any value but a whole sequence, map or list
abbrev pub as_item : Value → Option Value
as_item (Seq' _ _) = None
as_item (Map' _ _) = None
as_item (Listed' _ _) = None
as_item v = Some v

-- an operator of one, two or three arguments, by their kinds
abbrev pub unary : {A : Type 0} → (Value → Option A) → (A → Option Value) → List Value → Option Value
unary first f (a ∷ []) = option_and_then f (first a)
unary first f _ = None

abbrev pub binary : {A B : Type 0} → (Value → Option A) → (Value → Option B) → (A → B → Option Value) → List Value → Option Value
binary first second f (a ∷ b ∷ []) = option_and_then (λ x. option_and_then (f x) (second b)) (first a)
binary first second f _ = None

abbrev pub ternary : {A B C : Type 0} → (Value → Option A) → (Value → Option B) → (Value → Option C) → (A → B → C → Option Value) → List Value → Option Value
ternary first second third f (a ∷ b ∷ c ∷ []) =
    option_and_then (λ x. option_and_then (λ y. option_and_then (f x y) (third c)) (second b)) (first a)
ternary first second third f _ = None

-- a byte that begins a character
abbrev pub begins_character : ℕ → Bool
begins_character b = nat_lt b 128 || nat_lt 191 b

abbrev pub is_zero : ℤ → Bool
is_zero z = is_eq (int_cmp z (pos 0))

abbrev pub table : Op → List Value → Option Value
table MulInt = binary as_int as_int (λ x y. whole (x *ℤ y))
table DivInt = binary as_int as_int (λ x y. cond (is_zero y) None (whole (int_div x y)))
table ModInt = binary as_int as_int (λ x y. cond (is_zero y) None (whole (int_rem x y)))
table AddInt = binary as_int as_int (λ x y. whole (x +ℤ y))
table SubInt = binary as_int as_int (λ x y. whole (x -ℤ y))
table JoinString = binary as_text as_text (λ x y. Some (Str (x ++ y)))
table LtInt = binary as_int as_int (λ x y. truth (is_lt (int_cmp x y)))
table LeInt = binary as_int as_int (λ x y. truth (is_le (int_cmp x y)))
table GtInt = binary as_int as_int (λ x y. truth (is_gt (int_cmp x y)))
table GeInt = binary as_int as_int (λ x y. truth (is_ge (int_cmp x y)))
table EqInt = binary as_int as_int (λ x y. truth (is_eq (int_cmp x y)))
table NeInt = binary as_int as_int (λ x y. truth (is_ne (int_cmp x y)))
table EqK = binary as_item as_item (λ x y. truth (is_eq (value_cmp x y)))
table NeK = binary as_item as_item (λ x y. truth (is_ne (value_cmp x y)))
table InKeys = binary as_item as_entries (λ key entries. truth (is_some (find value_cmp key entries)))
table Not = unary as_truth (λ x. truth (not x))
table And = binary as_truth as_truth (λ x y. truth (x && y))
table Or = binary as_truth as_truth (λ x y. truth (x || y))
table SetKey = ternary as_entries as_item as_item (λ entries key value. bounded (Mapping (put value_cmp key value entries)))
table GetKey = binary as_entries as_item (λ entries key. find value_cmp key entries)
table SizeMap = unary as_entries (λ entries. whole (pos (length entries)))
table SizeList = unary as_members (λ members. whole (pos (length members)))
table LengthString = unary as_text (λ bytes. whole (pos (length (filter begins_character bytes))))
table IntToString = unary as_int (λ z. Some (Str (signed_decimal z)))
