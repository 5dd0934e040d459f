-- The parts of a content, one layer at a time.
use Rattle.std.proofs.Common.{◌≡◌, ℕ, List, [], ◌++◌, refl, sym, ap, ◌∙◌}
use Rattle.std.specs.Prelude.{Option}
use Rattle.std.specs.List.{flat_map}
use denote.Hole.Carrier.{out}
use Rattle.grammar_terms.specs.declared.shape.Shape.{Shape, Shape-F, Leaf, Node, Items, Node', Items', Row_of-Shape, end_of-Shape, more_of-Shape, out-Shape, items-the_row-Shape, items_shown-the_row-Shape-0}
use Rattle.grammar_terms.specs.declared.shape.Shape.TheVariants.{outs-Node, outs-Items}
use Rattle.grammar_terms.specs.declared.shape.Shape.TheOpen.{Leaf as Leaf-F, Node as Node-F, Items as Items-F}
use Rattle.rule_terms.specs.declared.defs.Kind.{Kind}
use Rattle.rule_parts.specs.declared.parts.Side.{Side}
use Rattle.rule_parts.specs.declared.parts.Role.{Role}
use Rattle.rule_parts.specs.declared.parts.Role.TheVariants.{Item as ItemRole, Tail as TailRole, Entry as EntryRole, Rest as RestRole, Nothing, Inner as InnerRole, Splice, Whole as WholeRole, Made as MadeRole, Value, Changed, Becomes}
use Rattle.rule_parts.specs.declared.parts.Part.{Part}
use Rattle.rule_parts.specs.Parts.{role_of, lone_parts, parts_in, row_parts, inner_parts, change_parts, made_parts, inner_by, change_by, made_by, parts_by}

module _ (kind : Kind) (count : ℕ) where
  row_is : {n : _} (side : Side) (row : Row_of-Shape n) → row_parts kind count side row ≡ flat_map (parts_in kind count side) (items-the_row-Shape n row)
  unfolding row_parts
  row_is side end_of-Shape = refl
  row_is side (more_of-Shape shape shapes) = ap (λ parts. parts_in kind count side shape ++ parts) (row_is side shapes)

  inner_is : {n : _} (side : Side) (row : Row_of-Shape n) → inner_parts kind count side row ≡ inner_by kind count side (items-the_row-Shape n row)
  unfolding inner_parts
  inner_is side end_of-Shape = refl
  inner_is side (more_of-Shape one end_of-Shape) = refl
  inner_is side (more_of-Shape one (more_of-Shape two end_of-Shape)) = refl
  inner_is side (more_of-Shape one (more_of-Shape two (more_of-Shape three end_of-Shape))) = refl
  inner_is side (more_of-Shape one (more_of-Shape two (more_of-Shape three (more_of-Shape four end_of-Shape)))) = refl
  inner_is side (more_of-Shape one (more_of-Shape two (more_of-Shape three (more_of-Shape four (more_of-Shape five end_of-Shape))))) = refl
  inner_is side (more_of-Shape one (more_of-Shape two (more_of-Shape three (more_of-Shape four (more_of-Shape five (more_of-Shape six row)))))) = refl

  change_is : {n : _} (side : Side) (row : Row_of-Shape n) → change_parts kind count side row ≡ change_by kind count side (items-the_row-Shape n row)
  unfolding change_parts
  change_is side end_of-Shape = refl
  change_is side (more_of-Shape one end_of-Shape) = refl
  change_is side (more_of-Shape one (more_of-Shape two end_of-Shape)) = refl
  change_is side (more_of-Shape one (more_of-Shape two (more_of-Shape three end_of-Shape))) = refl
  change_is side (more_of-Shape one (more_of-Shape two (more_of-Shape three (more_of-Shape four row)))) = refl

  made_is : {n : _} (side : Side) (row : Row_of-Shape n) → made_parts kind count side row ≡ made_by kind count side (items-the_row-Shape n row)
  unfolding made_parts
  made_is side end_of-Shape = refl
  made_is side (more_of-Shape one end_of-Shape) = refl
  made_is side (more_of-Shape one (more_of-Shape two end_of-Shape)) = refl
  made_is side (more_of-Shape one (more_of-Shape two (more_of-Shape three end_of-Shape))) = refl
  made_is side (more_of-Shape one (more_of-Shape two (more_of-Shape three (more_of-Shape four row)))) = refl

  role_is : {n : _} (role : Role) (side : Side) (row : Row_of-Shape n)
      → elim role [
        | Splice ↦ row_parts kind count side row
        | InnerRole ↦ inner_parts kind count side row
        | WholeRole ↦ change_parts kind count side row
        | MadeRole ↦ made_parts kind count side row
        | other ↦ lone_parts kind count other side (items-the_row-Shape n row)
      ] ≡ parts_by kind count role side (items-the_row-Shape n row)
  role_is Splice side row = row_is side row
  role_is InnerRole side row = inner_is side row
  role_is WholeRole side row = change_is side row
  role_is MadeRole side row = made_is side row
  role_is ItemRole side row = refl
  role_is TailRole side row = refl
  role_is EntryRole side row = refl
  role_is RestRole side row = refl
  role_is Nothing side row = refl
  role_is Value side row = refl
  role_is Changed side row = refl
  role_is Becomes side row = refl

  level_parts : Side → Shape-F Shape → List (Part Shape)
  level_parts side (Leaf-F at) = []
  level_parts side (Node-F p shapes) = parts_by kind count (role_of kind count p) side shapes
  level_parts side (Items-F p shapes rest) = flat_map (parts_in kind count side) shapes

  levels : (side : Side) (shape : Shape) → parts_in kind count side shape ≡ level_parts side (out-Shape shape)
  unfolding parts_in level_parts out-Shape out
  levels side (Leaf at) = refl
  levels side (Node' p s shapes) = role_is (role_of kind count p) side shapes ∙ ap (parts_by kind count (role_of kind count p) side) (sym (items_shown-the_row-Shape-0 s shapes))
  levels side (Items' p s shapes rest) = row_is side shapes ∙ ap (flat_map (parts_in kind count side)) (sym (items_shown-the_row-Shape-0 s shapes))

  pub parts-Leaf : (side : Side) (at : ℕ) → parts_in kind count side (Leaf at) ≡ []
  unfolding parts_in
  parts-Leaf side at = refl

  pub parts-Node : (side : Side) (p : ℕ) (shapes : List Shape) → parts_in kind count side (Node p shapes) ≡ parts_by kind count (role_of kind count p) side shapes
  unfolding level_parts
  parts-Node side p shapes = levels side _ ∙ ap (level_parts side) (outs-Node p shapes)

  pub parts-Items : (side : Side) (p : ℕ) (shapes : List Shape) (rest : Option ℕ) → parts_in kind count side (Items p shapes rest) ≡ flat_map (parts_in kind count side) shapes
  unfolding level_parts
  parts-Items side p shapes rest = levels side _ ∙ ap (level_parts side) (outs-Items p shapes rest)
