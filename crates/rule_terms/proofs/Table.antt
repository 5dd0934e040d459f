-- The values that the table of operators gives: their sorts, and that they are well formed.
use Rattle.std.proofs.Common.{◌≡◌, ℕ, ℤ, pos, negsuc, Bool, true, false, not, cond, ◌&&◌, ◌||◌, List, [], ◌∷◌, ◌++◌, length, filter, refl, ap, subst, ◌∙◌}
use Rattle.std.specs.Prelude.{Option, Some, None, unwrap_or, is_some, ◌+ℤ◌, ◌-ℤ◌, ◌*ℤ◌, int_div, int_rem}
use Rattle.std.specs.Fmt.{signed_decimal}
use Rattle.std.specs.Option.{option_and_then}
use Rattle.std.specs.Ordering.{is_lt, is_le, is_eq, is_gt, is_ge, is_ne, int_cmp}
use Rattle.std.specs.FinMap.{find, put}
use denote.Hole.Carrier.{out}
use Rattle.k_terms.specs.declared.op.Op.{Op}
use Rattle.k_terms.specs.declared.op.Op.TheVariants.{MulInt, DivInt, ModInt, AddInt, SubInt, JoinString, LtInt, LeInt, GtInt, GeInt, EqInt, NeInt, EqK, NeK, InKeys, Not, And, Or, SetKey, GetKey, SizeMap, SizeList, LengthString, IntToString}
use Rattle.k_terms.specs.declared.value.Value.{Value, Value-F, Int, Bool as Truth, Str, Id, Node', Items', Seq', Map as Mapping, Map', List' as Listed', Freezer', out-Value}
use Rattle.k_terms.specs.declared.value.Value.TheVariants.{outs-Map}
use Rattle.k_terms.specs.declared.value.Value.TheOpen.{Int as Int-F, Bool as Truth-F, Str as Str-F, Id as Id-F, Node as Node-F, Items as Items-F, Seq as Seq-F, Map as Map-F, List as List-F, Freezer as Freezer-F}
use Rattle.k_terms.specs.Value.{value_cmp, is_well_formed}
use Rattle.k_terms.specs.Sorts.{SortOrder, least_sort, production_sort, sort_k, sort_kitem, sort_int, sort_bool, sort_string, sort_id, sort_map, sort_list}
use Rattle.k_terms.specs.Operators.{table, bounded, whole, truth, unary, binary, ternary, as_int, as_truth, as_text, as_entries, as_members, as_item, is_zero, begins_character}
use Rattle.rule_terms.specs.Sound.{result_sort}
use Rattle.rule_terms.proofs.Defined.{same_some, let_through, and_then_gives}

-- ---- the least sort, one layer at a time

abbrev pub level_sort : SortOrder → Value-F Value → ℕ
level_sort o (Int-F _) = sort_int
level_sort o (Truth-F _) = sort_bool
level_sort o (Str-F _) = sort_string
level_sort o (Id-F _) = sort_id
level_sort o (Node-F p _) = production_sort o p
level_sort o (Items-F p _) = production_sort o p
level_sort o (Seq-F _) = sort_k
level_sort o (Map-F _) = sort_map
level_sort o (List-F _) = sort_list
level_sort o (Freezer-F _ _ _) = sort_kitem

pub least_sort_levels : (o : SortOrder) (v : Value) → least_sort o v ≡ level_sort o (out-Value v)
unfolding out-Value out
least_sort_levels o (Int _) = refl
least_sort_levels o (Truth _) = refl
least_sort_levels o (Str _) = refl
least_sort_levels o (Id _) = refl
least_sort_levels o (Node' _ _ _) = refl
least_sort_levels o (Items' _ _ _) = refl
least_sort_levels o (Seq' _ _) = refl
least_sort_levels o (Map' _ _) = refl
least_sort_levels o (Listed' _ _) = refl
least_sort_levels o (Freezer' _ _ _ _) = refl

-- ---- a value that an operator of one, two or three arguments gives

module _ {A : Type 0} (first : Value → Option A) (f : A → Option Value) (P : Value → Type 0) where
  pub unary_gives : (args : List Value) (v : Value) → ((a : Value) (x : A) → args ≡ a ∷ [] → first a ≡ Some x → f x ≡ Some v → P v) → unary first f args ≡ Some v → P v
  unary_gives [] v h e = cc
  unary_gives (a ∷ []) v h e = let g = and_then_gives f (first a) v e in h a g.0 refl g.1 g.2
  unary_gives (a ∷ b ∷ args) v h e = cc

module _ {A B : Type 0} (first : Value → Option A) (second : Value → Option B) (f : A → B → Option Value) (P : Value → Type 0) where
  pub binary_gives : (args : List Value) (v : Value) → ((a b : Value) (x : A) (y : B) → args ≡ a ∷ b ∷ [] → first a ≡ Some x → second b ≡ Some y → f x y ≡ Some v → P v) → binary first second f args ≡ Some v → P v
  binary_gives [] v h e = cc
  binary_gives (a ∷ []) v h e = cc
  binary_gives (a ∷ b ∷ []) v h e =
      let g = and_then_gives (λ x. option_and_then (f x) (second b)) (first a) v e in
      let k = and_then_gives (f g.0) (second b) v g.2 in
      h a b g.0 k.0 refl g.1 k.1 k.2
  binary_gives (a ∷ b ∷ c ∷ args) v h e = cc

module _ {A B C : Type 0} (first : Value → Option A) (second : Value → Option B) (third : Value → Option C) (f : A → B → C → Option Value) (P : Value → Type 0) where
  pub ternary_gives : (args : List Value) (v : Value) → ((a b c : Value) (x : A) (y : B) (z : C) → args ≡ a ∷ b ∷ c ∷ [] → first a ≡ Some x → second b ≡ Some y → third c ≡ Some z → f x y z ≡ Some v → P v) → ternary first second third f args ≡ Some v → P v
  ternary_gives [] v h e = cc
  ternary_gives (a ∷ []) v h e = cc
  ternary_gives (a ∷ b ∷ []) v h e = cc
  ternary_gives (a ∷ b ∷ c ∷ []) v h e =
      let g = and_then_gives (λ x. option_and_then (λ y. option_and_then (f x y) (third c)) (second b)) (first a) v e in
      let k = and_then_gives (λ y. option_and_then (f g.0 y) (third c)) (second b) v g.2 in
      let l = and_then_gives (f g.0 k.0) (third c) v k.2 in
      h a b c g.0 k.0 l.0 refl g.1 k.1 l.1 l.2
  ternary_gives (a ∷ b ∷ c ∷ d ∷ args) v h e = cc

-- ---- values without parts

-- a number, a truth or a text: of this sort, and well formed
pub record IsPlain (sort : ℕ) (v : Value) : Type 0 where
  pub least : (o : SortOrder) → least_sort o v ≡ sort
  pub formed : is_well_formed v ≡ true

number_is_plain : (z : ℤ) → IsPlain sort_int (Int z)
unfolding is_well_formed
number_is_plain z = record { least = λ o. refl; formed = refl }

truth_is_plain : (b : Bool) → IsPlain sort_bool (Truth b)
unfolding is_well_formed
truth_is_plain b = record { least = λ o. refl; formed = refl }

text_is_plain : (bytes : List ℕ) → IsPlain sort_string (Str bytes)
unfolding is_well_formed
text_is_plain bytes = record { least = λ o. refl; formed = refl }

whole_gives : (z : ℤ) (v : Value) → whole z ≡ Some v → IsPlain sort_int v
whole_gives (pos n) v e = subst (IsPlain sort_int) (let_through _ _ _ e) (number_is_plain (pos n))
whole_gives (negsuc n) v e = subst (IsPlain sort_int) (let_through _ _ _ e) (number_is_plain (negsuc n))

unless_gives : (b : Bool) (z : ℤ) (v : Value) → cond b None (whole z) ≡ Some v → IsPlain sort_int v
unless_gives true z v e = cc
unless_gives false z v e = whole_gives z v e

truth_gives : (b : Bool) (v : Value) → truth b ≡ Some v → IsPlain sort_bool v
truth_gives b v e = subst (IsPlain sort_bool) (same_some _ _ e) (truth_is_plain b)

text_gives : (bytes : List ℕ) (v : Value) → Some (Str bytes) ≡ Some v → IsPlain sort_string v
text_gives bytes v e = subst (IsPlain sort_string) (same_some _ _ e) (text_is_plain bytes)

number_of_two : (f : ℤ → ℤ → ℤ) (args : List Value) (v : Value) → binary as_int as_int (λ x y. whole (f x y)) args ≡ Some v → IsPlain sort_int v
number_of_two f args v e = binary_gives as_int as_int (λ x y. whole (f x y)) (IsPlain sort_int) args v (λ a b x y _ _ _ g. whole_gives (f x y) v g) e

quotient_of_two : (f : ℤ → ℤ → ℤ) (args : List Value) (v : Value) → binary as_int as_int (λ x y. cond (is_zero y) None (whole (f x y))) args ≡ Some v → IsPlain sort_int v
quotient_of_two f args v e = binary_gives as_int as_int (λ x y. cond (is_zero y) None (whole (f x y))) (IsPlain sort_int) args v (λ a b x y _ _ _ g. unless_gives (is_zero y) (f x y) v g) e

number_of_one : {A : Type 0} (first : Value → Option A) (f : A → ℤ) (args : List Value) (v : Value) → unary first (λ x. whole (f x)) args ≡ Some v → IsPlain sort_int v
number_of_one first f args v e = unary_gives first (λ x. whole (f x)) (IsPlain sort_int) args v (λ a x _ _ g. whole_gives (f x) v g) e

truth_of_two : {A B : Type 0} (first : Value → Option A) (second : Value → Option B) (f : A → B → Bool) (args : List Value) (v : Value) → binary first second (λ x y. truth (f x y)) args ≡ Some v → IsPlain sort_bool v
truth_of_two first second f args v e = binary_gives first second (λ x y. truth (f x y)) (IsPlain sort_bool) args v (λ a b x y _ _ _ g. truth_gives (f x y) v g) e

-- what an operator gives, but for the two on the keys of a map
abbrev pub IsGiven : Op → Value → Type 0
IsGiven SetKey v = Unit {0}
IsGiven GetKey v = Unit {0}
IsGiven op v = IsPlain (unwrap_or (result_sort op) 0) v

pub plain_given : (op : Op) (args : List Value) (v : Value) → table op args ≡ Some v → IsGiven op v
plain_given MulInt args v e = number_of_two (λ x y. x *ℤ y) args v e
plain_given DivInt args v e = quotient_of_two int_div args v e
plain_given ModInt args v e = quotient_of_two int_rem args v e
plain_given AddInt args v e = number_of_two (λ x y. x +ℤ y) args v e
plain_given SubInt args v e = number_of_two (λ x y. x -ℤ y) args v e
plain_given JoinString args v e = binary_gives as_text as_text (λ x y. Some (Str (x ++ y))) (IsPlain sort_string) args v (λ a b x y _ _ _ g. text_gives (x ++ y) v g) e
plain_given LtInt args v e = truth_of_two as_int as_int (λ x y. is_lt (int_cmp x y)) args v e
plain_given LeInt args v e = truth_of_two as_int as_int (λ x y. is_le (int_cmp x y)) args v e
plain_given GtInt args v e = truth_of_two as_int as_int (λ x y. is_gt (int_cmp x y)) args v e
plain_given GeInt args v e = truth_of_two as_int as_int (λ x y. is_ge (int_cmp x y)) args v e
plain_given EqInt args v e = truth_of_two as_int as_int (λ x y. is_eq (int_cmp x y)) args v e
plain_given NeInt args v e = truth_of_two as_int as_int (λ x y. is_ne (int_cmp x y)) args v e
plain_given EqK args v e = truth_of_two as_item as_item (λ x y. is_eq (value_cmp x y)) args v e
plain_given NeK args v e = truth_of_two as_item as_item (λ x y. is_ne (value_cmp x y)) args v e
plain_given InKeys args v e = truth_of_two as_item as_entries (λ key entries. is_some (find value_cmp key entries)) args v e
plain_given Not args v e = unary_gives as_truth (λ x. truth (not x)) (IsPlain sort_bool) args v (λ a x _ _ g. truth_gives (not x) v g) e
plain_given And args v e = truth_of_two as_truth as_truth (λ x y. x && y) args v e
plain_given Or args v e = truth_of_two as_truth as_truth (λ x y. x || y) args v e
plain_given SetKey args v e = tt
plain_given GetKey args v e = tt
plain_given SizeMap args v e = number_of_one as_entries (λ entries. pos (length entries)) args v e
plain_given SizeList args v e = number_of_one as_members (λ members. pos (length members)) args v e
plain_given LengthString args v e = number_of_one as_text (λ bytes. pos (length (filter begins_character bytes))) args v e
plain_given IntToString args v e = unary_gives as_int (λ z. Some (Str (signed_decimal z))) (IsPlain sort_string) args v (λ a z _ _ g. text_gives (signed_decimal z) v g) e

-- ---- entries put into a map and taken out

module _ (P : Value → Type 0) where
  -- a map with an entry put into it
  pub set_gives : (args : List Value) (v : Value) → ((a b c : Value) (entries : List (Value × Value)) (key value : Value) → args ≡ a ∷ b ∷ c ∷ [] → as_entries a ≡ Some entries → as_item b ≡ Some key → as_item c ≡ Some value → P (Mapping (put value_cmp key value entries))) → table SetKey args ≡ Some v → P v
  set_gives args v h e =
      ternary_gives as_entries as_item as_item (λ entries key value. bounded (Mapping (put value_cmp key value entries))) P args v (λ a b c entries key value is at_first at_second at_third g.
      subst P (let_through _ _ _ g) (h a b c entries key value is at_first at_second at_third)) e

-- the sort that is given for an operator is that of each value that it gives
pub table_sort : (o : SortOrder) (op : Op) (args : List Value) (v : Value) (sort : ℕ) → result_sort op ≡ Some sort → table op args ≡ Some v → least_sort o v ≡ sort
table_sort o SetKey args v sort e g = set_gives (λ w. least_sort o w ≡ sort_map) args v (λ a b c entries key value _ _ _ _. least_sort_levels o _ ∙ ap (level_sort o) (outs-Map (put value_cmp key value entries))) g ∙ same_some sort_map sort e
table_sort o GetKey args v sort e g = cc
table_sort o op args v sort e g = (plain_given op args v g).least o ∙ same_some _ sort e
