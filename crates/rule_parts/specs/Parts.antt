-- What a content is made of.
use Rattle.std.specs.Prelude.{ℕ, ◌-◌, nat_lt, Bool, cond, List, [], ◌∷◌, ◌++◌, slice_get, unwrap_or, map}
use Rattle.std.specs.List.{flat_map}
use Rattle.std.specs.Borrow.{Bor}
use Rattle.grammar_terms.specs.declared.shape.Shape.{Shape, Leaf as LeafShape, Node' as NodeS', Items' as ItemsS', Row_of-Shape, end_of-Shape, more_of-Shape, items-the_row-Shape}
use Rattle.rule_terms.specs.declared.defs.Kind.{Kind}
use Rattle.rule_terms.specs.declared.defs.Kind.TheVariants.{Cells as CellsKind, Seq as SeqKind, Map as MapKind, List as ListKind, One as OneKind}
use Rattle.rule_contents.specs.declared.reading.Form.{Form}
use Rattle.rule_contents.specs.declared.reading.Form.TheVariants.{Sides, Made as MadeForm, Expression}
use Rattle.rule_parts.specs.declared.parts.Side.{Side}
use Rattle.rule_parts.specs.declared.parts.Side.TheVariants.{Both, Left, Right}
use Rattle.rule_parts.specs.declared.parts.Role.{Role}
use Rattle.rule_parts.specs.declared.parts.Role.TheVariants.{Item as ItemRole, Tail as TailRole, Entry as EntryRole, Rest as RestRole, Nothing, Inner as InnerRole, Splice, Whole as WholeRole, Made as MadeRole, Value, Changed, Becomes}
use Rattle.rule_parts.specs.declared.parts.What.{What}
use Rattle.rule_parts.specs.declared.parts.What.TheVariants.{Item, Tail, Entry, Rest, Made, Inner, Whole}
use Rattle.rule_parts.specs.declared.parts.Part.{Part}

-- where the parts of a change stand
abbrev pub left_of : Side → Side
left_of Both = Left
left_of Left = Left
left_of Right = Right

abbrev pub right_of : Side → Side
right_of Both = Right
right_of Left = Left
right_of Right = Right

-- what the productions of contents say, in their order
abbrev pub roles : Kind → List Role
roles CellsKind = []
roles SeqKind = ItemRole ∷ TailRole ∷ Nothing ∷ Nothing ∷ InnerRole ∷ Splice ∷ Splice ∷ Splice ∷ WholeRole ∷ MadeRole ∷ []
roles MapKind = EntryRole ∷ RestRole ∷ RestRole ∷ Nothing ∷ Nothing ∷ InnerRole ∷ Value ∷ Changed ∷ Nothing ∷ Splice ∷ WholeRole ∷ MadeRole ∷ []
roles ListKind = ItemRole ∷ RestRole ∷ RestRole ∷ Nothing ∷ Nothing ∷ InnerRole ∷ Nothing ∷ Splice ∷ WholeRole ∷ MadeRole ∷ []
roles (OneKind sort) = ItemRole ∷ Becomes ∷ []

abbrev pub role_among : List Role → ℕ → Role
role_among all place = unwrap_or (slice_get all place) Nothing

-- the role of production p, where so many productions stand before those of contents
abbrev pub role_of : Kind → ℕ → ℕ → Role
role_of kind count p = cond (nat_lt count p) (role_among (roles kind) (p - count - 1)) Nothing

abbrev pub part : Side → What Shape → List (Part Shape)
part side what = record { side = side; what = what } ∷ []

-- a change that stands within another one
abbrev pub nested : What Shape → Side → List (Part Shape)
nested what Both = []
nested what Left = part Left what
nested what Right = part Right what

-- the place of a leaf, as that of the parenthesis before a change
abbrev pub leaf_place : Shape → ℕ
leaf_place (LeafShape at) = at
leaf_place (NodeS' p _ shapes) = 0
leaf_place (ItemsS' p _ shapes rest) = 0

abbrev pub inner_at : Shape → What Shape
inner_at bracket = Inner (leaf_place bracket)

abbrev pub leaf_what : Bool → ℕ → What Shape
leaf_what tail at = cond tail (Tail at) (Rest at)

-- a variable that is a part
abbrev pub leaf_part : (ℕ → What Shape) → Side → Shape → List (Part Shape)
leaf_part what side (LeafShape at) = part side (what at)
leaf_part what side (NodeS' p _ shapes) = []
leaf_part what side (ItemsS' p _ shapes rest) = []

-- An entry of a map. Where its value changes, there is one on each side with the same key.
abbrev pub value_parts : Role → Side → Shape → List Shape → List (Part Shape)
value_parts Value side key (value ∷ []) = part side (Entry key value)
value_parts Changed side key (bracket ∷ before ∷ arrow ∷ after ∷ closing ∷ []) =
    nested (inner_at bracket) side ++ part (left_of side) (Entry key before) ++ part (right_of side) (Entry key after)
value_parts _ side key shapes = []

abbrev pub entry_parts : Kind → ℕ → Side → Shape → Shape → List (Part Shape)
entry_parts kind count side key (LeafShape at) = []
entry_parts kind count side key (NodeS' p _ shapes) = value_parts (role_of kind count p) side key (items-the_row-Shape _ shapes)
entry_parts kind count side key (ItemsS' p _ shapes rest) = []

-- what a production is that has no sides in it
abbrev pub lone_parts : Kind → ℕ → Role → Side → List Shape → List (Part Shape)
lone_parts kind count ItemRole side (item ∷ []) = part side (Item item)
lone_parts kind count TailRole side (leaf ∷ []) = leaf_part Tail side leaf
lone_parts kind count RestRole side (leaf ∷ []) = leaf_part Rest side leaf
lone_parts kind count EntryRole side (key ∷ entry ∷ []) = entry_parts kind count side key entry
lone_parts kind count Becomes side (before ∷ arrow ∷ after ∷ []) = nested Whole side ++ part (left_of side) (Item before) ++ part (right_of side) (Item after)
lone_parts kind count _ side shapes = []

-- The parts of a content of a kind, or of a part of it that stands on a side: those that stand in no change are on both
-- sides, those of the left part of a change on the left, of its right part on the right. The arrow of a change, and the
-- parentheses around it, are parts of its production.
unfoldable mutual
  pub parts_in : Kind → ℕ → Side → Shape → List (Part Shape)
  parts_in kind count side (LeafShape at) = []
  parts_in kind count side (NodeS' p _ shapes) =
      elim (role_of kind count p) [
        | Splice ↦ row_parts kind count side shapes
        | InnerRole ↦ inner_parts kind count side shapes
        | WholeRole ↦ change_parts kind count side shapes
        | MadeRole ↦ made_parts kind count side shapes
        | role ↦ lone_parts kind count role side (items-the_row-Shape _ shapes)
      ]
  parts_in kind count side (ItemsS' p _ shapes rest) = row_parts kind count side shapes

  pub row_parts : {n : _} → Kind → ℕ → Side → Row_of-Shape n → List (Part Shape)
  row_parts kind count side end_of-Shape = []
  row_parts kind count side (more_of-Shape shape shapes) = parts_in kind count side shape ++ row_parts kind count side shapes

  -- a change in parentheses
  pub inner_parts : {n : _} → Kind → ℕ → Side → Row_of-Shape n → List (Part Shape)
  inner_parts kind count side (more_of-Shape bracket (more_of-Shape before (more_of-Shape arrow (more_of-Shape after (more_of-Shape closing end_of-Shape))))) =
      nested (inner_at bracket) side ++ parts_in kind count (left_of side) before ++ parts_in kind count (right_of side) after
  inner_parts kind count side _ = []

  -- a change of the whole content
  pub change_parts : {n : _} → Kind → ℕ → Side → Row_of-Shape n → List (Part Shape)
  change_parts kind count side (more_of-Shape before (more_of-Shape arrow (more_of-Shape after end_of-Shape))) =
      nested Whole side ++ parts_in kind count (left_of side) before ++ parts_in kind count (right_of side) after
  change_parts kind count side _ = []

  -- a change of a side to an expression
  pub made_parts : {n : _} → Kind → ℕ → Side → Row_of-Shape n → List (Part Shape)
  made_parts kind count side (more_of-Shape before (more_of-Shape arrow (more_of-Shape after end_of-Shape))) =
      nested Whole side ++ parts_in kind count (left_of side) before ++ part (right_of side) (Made after)
  made_parts kind count side _ = []

-- the same by the list of a production's parts
abbrev pub inner_by : Kind → ℕ → Side → List Shape → List (Part Shape)
inner_by kind count side (bracket ∷ before ∷ arrow ∷ after ∷ closing ∷ []) =
    nested (inner_at bracket) side ++ parts_in kind count (left_of side) before ++ parts_in kind count (right_of side) after
inner_by kind count side _ = []

abbrev pub change_by : Kind → ℕ → Side → List Shape → List (Part Shape)
change_by kind count side (before ∷ arrow ∷ after ∷ []) =
    nested Whole side ++ parts_in kind count (left_of side) before ++ parts_in kind count (right_of side) after
change_by kind count side _ = []

abbrev pub made_by : Kind → ℕ → Side → List Shape → List (Part Shape)
made_by kind count side (before ∷ arrow ∷ after ∷ []) =
    nested Whole side ++ parts_in kind count (left_of side) before ++ part (right_of side) (Made after)
made_by kind count side _ = []

abbrev pub parts_by : Kind → ℕ → Role → Side → List Shape → List (Part Shape)
parts_by kind count Splice side shapes = flat_map (parts_in kind count side) shapes
parts_by kind count InnerRole side shapes = inner_by kind count side shapes
parts_by kind count WholeRole side shapes = change_by kind count side shapes
parts_by kind count MadeRole side shapes = made_by kind count side shapes
parts_by kind count role side shapes = lone_parts kind count role side shapes

-- the parts of a content that was read as a form
abbrev pub form_parts : Kind → ℕ → Side → Form → Shape → List (Part Shape)
form_parts kind count side Sides shape = parts_in kind count side shape
form_parts kind count side MadeForm shape = parts_in kind count side shape
form_parts kind count side Expression shape = part side (Made shape)

-- what is seen of parts that are borrowed
abbrev pub seen_what : What (Bor Shape) → What Shape
seen_what (Item shape) = Item shape.now
seen_what (Tail at) = Tail at
seen_what (Entry key value) = Entry key.now value.now
seen_what (Rest at) = Rest at
seen_what (Made shape) = Made shape.now
seen_what (Inner at) = Inner at
seen_what Whole = Whole

abbrev pub seen_part : Part (Bor Shape) → Part Shape
seen_part it = record { side = it.side; what = seen_what it.what }

abbrev pub seen_parts : List (Part (Bor Shape)) → List (Part Shape)
seen_parts parts = map seen_part parts
