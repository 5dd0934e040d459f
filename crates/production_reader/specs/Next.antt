-- The next production of a sort.
use Rattle.std.specs.Prelude.{◌≡◌, ℕ, Bool, true, false, ◌&&◌, not, List, [], ◌∷◌, drop, codes, Option, Some, None, is_some}
use Rattle.production_reader.specs.Lexemes.{Lexeme, Sign}
use Rattle.production_reader.specs.Written.{Production, separated, signs_of_group}
use Rattle.production_reader.specs.declared.prod.Prod.{Prod}
use Rattle.production_reader.specs.declared.prod.Form.TheVariants as form
use Rattle.production_reader.specs.Allowed.{IsProduction, may_join, suits, is_subsort, is_list, same_text}
use Rattle.production_reader.specs.Chains.{Several, state}
use Rattle.production_reader.specs.Heads.{heads, is_mark_of}

-- a sort may have this one next
abbrev pub IsNext : List ℕ → Option Bool → Production → Type 0
IsNext sort had production = IsProduction production × (may_join had production ≡ true) × (suits sort production ≡ true)

-- any sort but KResult may have this one next
abbrev pub IsFree : Option Bool → Production → Type 0
IsFree had production = IsProduction production × (may_join had production ≡ true)

-- KResult may have this one
abbrev pub IsSub : Production → Type 0
IsSub production = IsProduction production × (is_subsort production ≡ true)

-- no list production stands before
abbrev pub Goes : Option Bool → Type 0
Goes had = had ≡ Some true → ⊥

-- a list production begins with this word, behind which this place is
abbrev pub begins_list : Option Bool → List ℕ → List Lexeme → ℕ → Bool
begins_list had word all at = not (is_some had) && same_text word (codes "List") && heads (is_mark_of 123) (drop at all)

abbrev pub after_one : Option Bool → Production → Option Bool
after_one had production = Some (is_list production)

-- productions of a group
abbrev pub IsGroup : List ℕ → Option Bool → List Production → Type 0
IsGroup sort = Several (IsNext sort) after_one

abbrev pub after_group : Option Bool → List Production → Option Bool
after_group had group = state after_one had group

-- one group or more
abbrev pub AreSome : List ℕ → Option Bool → List (List Production) → Type 0
AreSome sort = Several (IsGroup sort) after_group

abbrev pub signs_of_some : List (List Production) → List Sign
signs_of_some = separated 62 signs_of_group

-- a list production stands before
abbrev pub is_closed : Option Bool → Bool
is_closed None = false
is_closed (Some closed) = closed

abbrev pub is_list_prod : Prod → Bool
is_list_prod prod = elim prod.form [ form.Plain ↦ false | form.Prefix name ↦ false | form.UserList separator ↦ true ]

-- what a sort has after these, as the code has them
abbrev pub had_after_prods : Option Bool → List Prod → Option Bool
had_after_prods had [] = had
had_after_prods had (prod ∷ prods) = had_after_prods (Some (is_list_prod prod)) prods
