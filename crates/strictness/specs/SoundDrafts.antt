-- What is asked of a draft so that the rule that it is completed to is sound, whatever cells and variables are added.
use Rattle.std.specs.Prelude.{◌≡◌, ℕ, ◌<◌, ◌&&◌, ◌||◌, not, List, ◌++◌, length, map, IsTrue, Contains}
use Rattle.std.specs.List.{list_all, flat_map}
use Rattle.k_terms.specs.Sorts.{SortOrder}
use Rattle.rule_terms.specs.declared.pattern.CellPat.{CellPat}
use Rattle.rule_terms.specs.declared.rule.Draft.{Draft}
use Rattle.rule_terms.specs.Numbers.{all_different}
use Rattle.rule_terms.specs.Spots.{Spot, spots}
use Rattle.rule_terms.specs.InRange.{is_pattern_in_range, is_origin_in_range}
use Rattle.rule_terms.specs.Sound.{has_formed_values, has_no_operator, has_whole_sequences, all_patterns, condition_test, is_made, is_item, has_one_form, cells_rest, side_mentions, conditions_mention}

-- the cells of a forest, in pre-order
abbrev pub spots_of : List CellPat → List Spot
spots_of cells = flat_map spots cells

-- Marks differ on a side, and a cell of both sides is one. Each variable stands on the left, and those that stand
-- anywhere are declared. The patterns are such as a sound rule has, also where further variables are declared behind
-- these. Its numbers are those of productions of this order.
pub record IsSoundDraft (o : SortOrder) (draft : Draft) : Type 0 where
  pub left_marks : IsTrue (all_different (map (λ (p : Spot). p.mark) (spots_of draft.left)))
  pub right_marks : IsTrue (all_different (map (λ (p : Spot). p.mark) (spots_of draft.right)))
  pub staying : (p q : Spot) → Contains (spots_of draft.left) p → Contains (spots_of draft.right) q
      → p.mark ≡ q.mark → (p.cell ≡ q.cell) × (cells_rest p.body ≡ cells_rest q.body)
  pub bound : (x : ℕ) → x < length draft.vars → IsTrue (side_mentions x (spots_of draft.left))
  pub known : (x : ℕ)
      → IsTrue (side_mentions x (spots_of draft.left ++ spots_of draft.right) || conditions_mention x draft.when)
      → x < length draft.vars
  pub values :
      IsTrue (list_all (λ (p : Spot). all_patterns has_formed_values p.body) (spots_of draft.left ++ spots_of draft.right))
  pub condition_values : IsTrue (list_all (condition_test has_formed_values) draft.when)
  pub no_operator :
      IsTrue (list_all (λ (p : Spot). all_patterns has_no_operator p.body && not (is_made p.body)) (spots_of draft.left))
  pub sequences : (more : List ℕ)
      → IsTrue (list_all (λ (p : Spot). all_patterns (has_whole_sequences (draft.vars ++ more)) p.body)
      (spots_of draft.left ++ spots_of draft.right))
  pub condition_sequences : (more : List ℕ)
      → IsTrue (list_all (condition_test (has_whole_sequences (draft.vars ++ more))) draft.when)
  pub forms : (more : List ℕ)
      → IsTrue (list_all (λ (p : Spot). has_one_form (draft.vars ++ more) p.body)
      (spots_of draft.left ++ spots_of draft.right))
  pub condition_forms : (more : List ℕ) → IsTrue (list_all (condition_test (is_item (draft.vars ++ more))) draft.when)
  pub origin : IsTrue (is_origin_in_range o draft.origin)
  pub numbers :
      IsTrue (list_all (λ (p : Spot). all_patterns (is_pattern_in_range o) p.body)
      (spots_of draft.left ++ spots_of draft.right))
  pub condition_numbers : IsTrue (list_all (condition_test (is_pattern_in_range o)) draft.when)
