-- Whether sequences are whole in patterns that are made of others.
use Rattle.std.proofs.Common.{◌≡◌, ℕ, ◌&&◌, List, Option, refl, ap, ◌∙◌}
use Rattle.std.specs.List.{list_all}
use mathlib.Core.Former.{Count}
use Rattle.k_terms.specs.declared.op.Op.{Op}
use Rattle.rule_terms.specs.declared.pattern.Pattern.{Pattern, Node, Items, Seq, Apply, Row_of-Pattern, end_of-Pattern, more_of-Pattern, items-the_row-Pattern, items_hidden-the_row-Pattern-0}
use Rattle.rule_terms.specs.declared.pattern.Pattern.TheBlock.{hidden-the_row-Pattern-0}
use Rattle.rule_terms.specs.Sound.{is_item, has_whole_sequences, row_has_whole_sequences, row_has_items}

module _ (sorts : List ℕ) where
  pub row_whole : {n : Count} (row : Row_of-Pattern n) → row_has_whole_sequences sorts row ≡ list_all (has_whole_sequences sorts) (items-the_row-Pattern n row)
  unfolding row_has_whole_sequences
  row_whole end_of-Pattern = refl
  row_whole (more_of-Pattern part parts) = ap (λ b. has_whole_sequences sorts part && b) (row_whole parts)

  pub row_items : {n : Count} (row : Row_of-Pattern n) → row_has_items sorts row ≡ list_all (is_item sorts) (items-the_row-Pattern n row)
  unfolding row_has_items
  row_items end_of-Pattern = refl
  row_items (more_of-Pattern part parts) = ap (λ b. is_item sorts part && b) (row_items parts)

  hidden_whole : (parts : List Pattern) → row_has_whole_sequences sorts (hidden-the_row-Pattern-0 parts) ≡ list_all (has_whole_sequences sorts) parts
  hidden_whole parts = row_whole (hidden-the_row-Pattern-0 parts) ∙ ap (list_all (has_whole_sequences sorts)) (items_hidden-the_row-Pattern-0 parts)

  hidden_items : (parts : List Pattern) → row_has_items sorts (hidden-the_row-Pattern-0 parts) ≡ list_all (is_item sorts) parts
  hidden_items parts = row_items (hidden-the_row-Pattern-0 parts) ∙ ap (list_all (is_item sorts)) (items_hidden-the_row-Pattern-0 parts)

  pub whole-Node : (p : ℕ) (parts : List Pattern) → has_whole_sequences sorts (Node p parts) ≡ list_all (has_whole_sequences sorts) parts
  unfolding has_whole_sequences
  whole-Node p parts = hidden_whole parts

  pub whole-Items : (p : ℕ) (parts : List Pattern) (rest : Option ℕ) → has_whole_sequences sorts (Items p parts rest) ≡ list_all (has_whole_sequences sorts) parts
  unfolding has_whole_sequences
  whole-Items p parts rest = hidden_whole parts

  pub whole-Seq : (parts : List Pattern) (rest : Option ℕ)
      → has_whole_sequences sorts (Seq parts rest) ≡ (list_all (has_whole_sequences sorts) parts && list_all (is_item sorts) parts)
  unfolding has_whole_sequences
  whole-Seq parts rest = λ i. hidden_whole parts i && hidden_items parts i

  pub whole-Apply : (op : Op) (parts : List Pattern)
      → has_whole_sequences sorts (Apply op parts) ≡ (list_all (has_whole_sequences sorts) parts && list_all (is_item sorts) parts)
  unfolding has_whole_sequences
  whole-Apply op parts = λ i. hidden_whole parts i && hidden_items parts i
