-- What is on the left side stays there: no part of it stands on the right.
use Rattle.std.proofs.Common.{◌≡◌, ℕ, Bool, false, List, [], ◌∷◌, ◌++◌, refl, ◌∙◌}
use Rattle.std.proofs.lemmas.Grind.{flat_map-append}
use Rattle.grammar_terms.specs.declared.shape.Shape.{Shape, Leaf as LeafShape, Node' as NodeS', Items' as ItemsS', Row_of-Shape, end_of-Shape, more_of-Shape, items-the_row-Shape}
use Rattle.rule_terms.specs.declared.defs.Kind.{Kind}
use Rattle.rule_parts.specs.declared.parts.Side.TheVariants.{Left}
use Rattle.rule_parts.specs.declared.parts.Role.{Role}
use Rattle.rule_parts.specs.declared.parts.Role.TheVariants.{Item as ItemRole, Tail as TailRole, Entry as EntryRole, Rest as RestRole, Nothing, Inner as InnerRole, Splice, Whole as WholeRole, Made as MadeRole, Value, Changed, Becomes}
use Rattle.rule_parts.specs.declared.parts.What.{What}
use Rattle.rule_parts.specs.declared.parts.What.TheVariants.{Tail, Rest, Made, Whole}
use Rattle.rule_parts.specs.declared.parts.Part.{Part}
use Rattle.rule_parts.specs.Sides.{on_side}
use Rattle.rule_parts.specs.Parts.{role_of, part, nested, inner_at, leaf_part, value_parts, entry_parts, lone_parts, parts_in, row_parts, inner_parts, change_parts, made_parts}
use Rattle.sound_sequences.proofs.Whats.{whats}

abbrev pub AreLeft : List (Part Shape) → Type 0
AreLeft parts = whats false parts ≡ []

pub whats-append : (left : Bool) (xs ys : List (Part Shape)) → whats left (xs ++ ys) ≡ whats left xs ++ whats left ys
whats-append left xs ys = flat_map-append (on_side left (λ what. what ∷ [])) xs ys

two_left : (xs ys : List (Part Shape)) → AreLeft xs → AreLeft ys → AreLeft (xs ++ ys)
two_left xs ys one other = whats-append false xs ys ∙ (λ i. one i ++ other i)

change_left : (what : What Shape) (xs ys : List (Part Shape)) → AreLeft xs → AreLeft ys → AreLeft (nested what Left ++ xs ++ ys)
change_left what xs ys one other = two_left (nested what Left ++ xs) ys (two_left (nested what Left) xs refl one) other

module _ (kind : Kind) (count : ℕ) where
  value_left : (role : Role) (key : Shape) (shapes : List Shape) → AreLeft (value_parts role Left key shapes)
  value_left Value key (value ∷ []) = refl
  value_left Changed key (bracket ∷ before ∷ arrow ∷ after ∷ closing ∷ []) = refl
  value_left role key shapes = refl

  entry_left : (key entry : Shape) → AreLeft (entry_parts kind count Left key entry)
  entry_left key (LeafShape at) = refl
  entry_left key (NodeS' p s shapes) = value_left (role_of kind count p) key (items-the_row-Shape _ shapes)
  entry_left key (ItemsS' p s shapes rest) = refl

  tail_left : (leaf : Shape) → AreLeft (leaf_part Tail Left leaf)
  tail_left (LeafShape at) = refl
  tail_left (NodeS' p s shapes) = refl
  tail_left (ItemsS' p s shapes rest) = refl

  rest_left : (leaf : Shape) → AreLeft (leaf_part Rest Left leaf)
  rest_left (LeafShape at) = refl
  rest_left (NodeS' p s shapes) = refl
  rest_left (ItemsS' p s shapes rest) = refl

  lone_left : (role : Role) (shapes : List Shape) → AreLeft (lone_parts kind count role Left shapes)
  lone_left ItemRole (item ∷ []) = refl
  lone_left TailRole (leaf ∷ []) = tail_left leaf
  lone_left RestRole (leaf ∷ []) = rest_left leaf
  lone_left EntryRole (key ∷ entry ∷ []) = entry_left key entry
  lone_left Becomes (before ∷ arrow ∷ after ∷ []) = refl
  lone_left role shapes = refl

  by_role : (role : Role) {n : _} (row : Row_of-Shape n) → AreLeft (row_parts kind count Left row) → AreLeft (inner_parts kind count Left row)
      → AreLeft (change_parts kind count Left row)
      → AreLeft (made_parts kind count Left row)
      → AreLeft (elim role [
        | Splice ↦ row_parts kind count Left row
        | InnerRole ↦ inner_parts kind count Left row
        | WholeRole ↦ change_parts kind count Left row
        | MadeRole ↦ made_parts kind count Left row
        | other ↦ lone_parts kind count other Left (items-the_row-Shape n row)
      ])
  by_role Splice row splice inner change made = splice
  by_role InnerRole row splice inner change made = inner
  by_role WholeRole row splice inner change made = change
  by_role MadeRole row splice inner change made = made
  by_role ItemRole row splice inner change made = lone_left ItemRole (items-the_row-Shape _ row)
  by_role TailRole row splice inner change made = lone_left TailRole (items-the_row-Shape _ row)
  by_role EntryRole row splice inner change made = lone_left EntryRole (items-the_row-Shape _ row)
  by_role RestRole row splice inner change made = lone_left RestRole (items-the_row-Shape _ row)
  by_role Nothing row splice inner change made = refl
  by_role Value row splice inner change made = refl
  by_role Changed row splice inner change made = refl
  by_role Becomes row splice inner change made = lone_left Becomes (items-the_row-Shape _ row)

  mutual
    unfolding parts_in row_parts inner_parts change_parts made_parts

    pub shape_left : (shape : Shape) → AreLeft (parts_in kind count Left shape)
    shape_left (LeafShape at) = refl
    shape_left (NodeS' p s shapes) = by_role (role_of kind count p) shapes (row_left shapes) (inner_left shapes) (changes_left shapes) (made_left shapes)
    shape_left (ItemsS' p s shapes rest) = row_left shapes

    row_left : {n : _} (row : Row_of-Shape n) → AreLeft (row_parts kind count Left row)
    row_left end_of-Shape = refl
    row_left (more_of-Shape shape shapes) = two_left (parts_in kind count Left shape) (row_parts kind count Left shapes) (shape_left shape) (row_left shapes)

    inner_left : {n : _} (row : Row_of-Shape n) → AreLeft (inner_parts kind count Left row)
    inner_left (more_of-Shape bracket (more_of-Shape before (more_of-Shape arrow (more_of-Shape after (more_of-Shape closing end_of-Shape))))) =
        change_left (inner_at bracket) (parts_in kind count Left before) (parts_in kind count Left after) (shape_left before) (shape_left after)
    inner_left row = refl

    changes_left : {n : _} (row : Row_of-Shape n) → AreLeft (change_parts kind count Left row)
    changes_left (more_of-Shape before (more_of-Shape arrow (more_of-Shape after end_of-Shape))) =
        change_left Whole (parts_in kind count Left before) (parts_in kind count Left after) (shape_left before) (shape_left after)
    changes_left row = refl

    made_left : {n : _} (row : Row_of-Shape n) → AreLeft (made_parts kind count Left row)
    made_left (more_of-Shape before (more_of-Shape arrow (more_of-Shape after end_of-Shape))) =
        change_left Whole (parts_in kind count Left before) (part Left (Made after)) (shape_left before) refl
    made_left row = refl
