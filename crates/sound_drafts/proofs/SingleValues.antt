-- A cell of a single value has one item at most on a side.
use Rattle.std.proofs.Common.{◌≡◌, ℕ, ◌≤◌, Bool, List, length}
use Rattle.grammar_terms.specs.declared.shape.Shape.{Shape}
use Rattle.rule_terms.specs.declared.defs.Kind.{Kind}
use Rattle.rule_terms.specs.declared.defs.Kind.TheVariants.{One as OneKind}
use Rattle.rule_parts.specs.declared.argument_sorts.Productions.{Productions}
use Rattle.rule_parts.specs.declared.leaves.Leaf.{Leaf}
use Rattle.rule_parts.specs.declared.parts.Part.{Part}
use Rattle.rule_parts.specs.declared.terms.Occurrence.{Occurrence}
use Rattle.rule_parts.specs.Sides.{what_items, of_side}

-- where the kind is that of a single value, the parts have one item at most on a side
abbrev pub HasOneItem : Productions → List Leaf → List Occurrence → Bool → Kind → List (Part Shape) → Type 0
HasOneItem g leaves vars left k parts = (sort : ℕ) → k ≡ OneKind sort → length (of_side left (what_items g leaves vars sort) parts) ≤ 1
