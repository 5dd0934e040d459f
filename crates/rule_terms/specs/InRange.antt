-- Which numbers may stand in a rule: those of productions that the definition has.
use Rattle.std.specs.Prelude.{ℕ, suc, ◌+◌, Bool, true, not, ◌==◌, ◌&&◌, ◌||◌, nat_lt, nat_le, length}
use Rattle.std.specs.List.{list_any}
use Rattle.k_terms.specs.declared.value.Value.{Value, Int, Bool as Truth, Str, Id, Node' as NodeV', Items' as ItemsV', Seq' as SeqV', Map', List' as Listed', Freezer' as FreezerV', Row_of-Value, end_of-Value, more_of-Value, Row_of-Value-Map-0-2, end_of-Value-Map-0-2, more_of-Value-Map-0-2}
use Rattle.k_terms.specs.Sorts.{SortOrder}
use Rattle.rule_terms.specs.declared.pattern.Pattern.{Pattern, Var, Lit, Node', Items', Seq', Freezer', Apply', Row_of-Pattern, end_of-Pattern, more_of-Pattern}
use Rattle.rule_terms.specs.declared.rule.Origin.{Origin}
use Rattle.rule_terms.specs.declared.rule.Origin.TheVariants.{Written, Heat, Cool}

-- productions have the numbers from 1 on
abbrev pub is_production : SortOrder → ℕ → Bool
is_production o p = not (p == 0) && nat_le p (length o.productions)

-- the place of a hole beside so many arguments, counted from 1
abbrev pub is_hole : ℕ → ℕ → Bool
is_hole place others = not (place == 0) && nat_le place (others + 1)

abbrev pub row_count : {n : _} → Row_of-Pattern n → ℕ
row_count end_of-Pattern = 0
row_count (more_of-Pattern _ parts) = suc (row_count parts)

abbrev pub value_row_count : {n : _} → Row_of-Value n → ℕ
value_row_count end_of-Value = 0
value_row_count (more_of-Value _ parts) = suc (value_row_count parts)

-- each production in a value is one of the definition's, and each hole a place of its arguments
unfoldable mutual
  pub is_value_in_range : SortOrder → Value → Bool
  is_value_in_range o (Int _) = true
  is_value_in_range o (Truth _) = true
  is_value_in_range o (Str _) = true
  is_value_in_range o (Id _) = true
  is_value_in_range o (NodeV' p _ parts) = is_production o p && value_row_in_range o parts
  is_value_in_range o (ItemsV' p _ parts) = is_production o p && value_row_in_range o parts
  is_value_in_range o (SeqV' _ parts) = value_row_in_range o parts
  is_value_in_range o (Map' _ entries) = pair_row_in_range o entries
  is_value_in_range o (Listed' _ parts) = value_row_in_range o parts
  is_value_in_range o (FreezerV' p place _ parts) =
      is_production o p && is_hole place (value_row_count parts) && value_row_in_range o parts

  pub value_row_in_range : {n : _} → SortOrder → Row_of-Value n → Bool
  value_row_in_range o end_of-Value = true
  value_row_in_range o (more_of-Value part parts) = is_value_in_range o part && value_row_in_range o parts

  pub pair_row_in_range : {n : _} → SortOrder → Row_of-Value-Map-0-2 n → Bool
  pair_row_in_range o end_of-Value-Map-0-2 = true
  pair_row_in_range o (more_of-Value-Map-0-2 key value entries) =
      is_value_in_range o key && is_value_in_range o value && pair_row_in_range o entries

-- the same of a pattern; its variables are not asked
unfoldable mutual
  pub is_pattern_in_range : SortOrder → Pattern → Bool
  is_pattern_in_range o (Var _) = true
  is_pattern_in_range o (Lit v) = is_value_in_range o v
  is_pattern_in_range o (Node' p _ parts) = is_production o p && row_in_range o parts
  is_pattern_in_range o (Items' p _ parts _) = is_production o p && row_in_range o parts
  is_pattern_in_range o (Seq' _ parts _) = row_in_range o parts
  is_pattern_in_range o (Freezer' p place _ parts) =
      is_production o p && is_hole place (row_count parts) && row_in_range o parts
  is_pattern_in_range o (Apply' _ _ parts) = row_in_range o parts

  pub row_in_range : {n : _} → SortOrder → Row_of-Pattern n → Bool
  row_in_range o end_of-Pattern = true
  row_in_range o (more_of-Pattern part parts) = is_pattern_in_range o part && row_in_range o parts

-- a rule is the heating or cooling of a place of a production that there is
abbrev pub is_origin_in_range : SortOrder → Origin → Bool
is_origin_in_range o (Written _) = true
is_origin_in_range o (Heat p place) = is_production o p && not (place == 0)
is_origin_in_range o (Cool p place) = is_production o p && not (place == 0)
