-- Parts of a sequence among which no expression stands, and what stands on the left alone.
use Rattle.std.proofs.Common.{◌≡◌, ℕ, Bool, true, false, cond, not, List, [], ◌∷◌, ◌++◌, refl}
use Rattle.std.proofs.lemmas.Bool.{and_parts}
use Rattle.std.specs.List.{list_all, AllByRecursion, flat_map}
use Rattle.grammar_terms.specs.declared.shape.Shape.{Shape, Leaf as LeafShape, Node' as NodeS', Items' as ItemsS', items-the_row-Shape}
use Rattle.rule_terms.specs.declared.defs.Kind.{Kind}
use Rattle.rule_parts.specs.declared.parts.Side.{Side}
use Rattle.rule_parts.specs.declared.parts.Side.TheVariants.{Both, Left, Right}
use Rattle.rule_parts.specs.declared.parts.Role.{Role}
use Rattle.rule_parts.specs.declared.parts.Role.TheVariants.{Item as ItemRole, Tail as TailRole, Entry as EntryRole, Rest as RestRole, Nothing, Inner as InnerRole, Splice, Whole as WholeRole, Made as MadeRole, Value, Changed, Becomes}
use Rattle.rule_parts.specs.declared.parts.What.{What}
use Rattle.rule_parts.specs.declared.parts.What.TheVariants.{Item, Tail, Entry, Rest, Whole}
use Rattle.rule_parts.specs.declared.parts.Part.{Part}
use Rattle.rule_parts.specs.Sides.{stands}
use Rattle.rule_parts.specs.Parts.{left_of, right_of, role_of, part, nested, inner_at, leaf_part, value_parts, entry_parts, lone_parts, parts_in, inner_by, change_by, parts_by}
use Rattle.sound_sequences.proofs.Fronts.{both_pass}
use Rattle.sound_sequences.proofs.Whats.{all_pass_joined, whats}
use Rattle.sound_sequences.proofs.Sequences.{is_made}

-- ---- no expression among parts

abbrev is_other : Part Shape → Bool
is_other it = not (is_made it.what)

abbrev pub HaveNoMade : List (Part Shape) → Type 0
HaveNoMade parts = list_all is_other parts ≡ true

what_on_side : (b : Bool) (what : What Shape) (more : List (What Shape)) → not (is_made what) ≡ true → list_all (λ w. not (is_made w)) more ≡ true
    → list_all (λ w. not (is_made w)) (cond b (what ∷ []) [] ++ more) ≡ true
what_on_side true what more here later = both_pass (not (is_made what)) (list_all (λ w. not (is_made w)) more) here later
what_on_side false what more here later = later

pub whats_other : (left : Bool) (parts : List (Part Shape)) → HaveNoMade parts → list_all (λ w. not (is_made w)) (whats left parts) ≡ true
whats_other left [] e = refl
whats_other left (one ∷ parts) e =
    let p = and_parts (is_other one) (list_all is_other parts) e in
    what_on_side (stands left one.side) one.what (whats left parts) p.0 (whats_other left parts p.1)

nested_other : (what : What Shape) (side : Side) → not (is_made what) ≡ true → HaveNoMade (nested what side)
nested_other what Both e = refl
nested_other what Left e = both_pass (not (is_made what)) true e refl
nested_other what Right e = both_pass (not (is_made what)) true e refl

change_other : (what : What Shape) (side : Side) (xs ys : List (Part Shape)) → not (is_made what) ≡ true → HaveNoMade xs → HaveNoMade ys
    → HaveNoMade (nested what side ++ xs ++ ys)
change_other what side xs ys e one other = all_pass_joined is_other (nested what side ++ xs) ys (all_pass_joined is_other (nested what side) xs (nested_other what side e) one) other

-- a role that takes parts from the shapes of a production that are none of expressions
abbrev pub Spares : Role → Type 0 → Type 0
Spares Splice Sides = Sides
Spares InnerRole Sides = Sides
Spares WholeRole Sides = Sides
Spares MadeRole Sides = ⊥
Spares ItemRole Sides = Unit {0}
Spares TailRole Sides = Unit {0}
Spares EntryRole Sides = Unit {0}
Spares RestRole Sides = Unit {0}
Spares Nothing Sides = Unit {0}
Spares Value Sides = Unit {0}
Spares Changed Sides = Unit {0}
Spares Becomes Sides = Unit {0}

pub spares_by : (role : Role) (One Other : Type 0) → (One → Other) → Spares role One → Spares role Other
spares_by Splice One Other to one = to one
spares_by InnerRole One Other to one = to one
spares_by WholeRole One Other to one = to one
spares_by MadeRole One Other to one = one
spares_by ItemRole One Other to one = one
spares_by TailRole One Other to one = one
spares_by EntryRole One Other to one = one
spares_by RestRole One Other to one = one
spares_by Nothing One Other to one = one
spares_by Value One Other to one = one
spares_by Changed One Other to one = one
spares_by Becomes One Other to one = one

module _ (kind : Kind) (count : ℕ) where
  value_other : (role : Role) (side : Side) (key : Shape) (shapes : List Shape) → HaveNoMade (value_parts role side key shapes)
  value_other Value side key (value ∷ []) = refl
  value_other Changed side key (bracket ∷ before ∷ arrow ∷ after ∷ closing ∷ []) =
      change_other (inner_at bracket) side (part (left_of side) (Entry key before)) (part (right_of side) (Entry key after)) refl refl refl
  value_other role side key shapes = refl

  entry_other : (side : Side) (key entry : Shape) → HaveNoMade (entry_parts kind count side key entry)
  entry_other side key (LeafShape at) = refl
  entry_other side key (NodeS' p s shapes) = value_other (role_of kind count p) side key (items-the_row-Shape _ shapes)
  entry_other side key (ItemsS' p s shapes rest) = refl

  tail_other : (side : Side) (leaf : Shape) → HaveNoMade (leaf_part Tail side leaf)
  tail_other side (LeafShape at) = refl
  tail_other side (NodeS' p s shapes) = refl
  tail_other side (ItemsS' p s shapes rest) = refl

  rest_other : (side : Side) (leaf : Shape) → HaveNoMade (leaf_part Rest side leaf)
  rest_other side (LeafShape at) = refl
  rest_other side (NodeS' p s shapes) = refl
  rest_other side (ItemsS' p s shapes rest) = refl

  lone_other : (role : Role) (side : Side) (shapes : List Shape) → HaveNoMade (lone_parts kind count role side shapes)
  lone_other ItemRole side (item ∷ []) = refl
  lone_other TailRole side (leaf ∷ []) = tail_other side leaf
  lone_other RestRole side (leaf ∷ []) = rest_other side leaf
  lone_other EntryRole side (key ∷ entry ∷ []) = entry_other side key entry
  lone_other Becomes side (before ∷ arrow ∷ after ∷ []) = change_other Whole side (part (left_of side) (Item before)) (part (right_of side) (Item after)) refl refl refl
  lone_other role side shapes = refl

  -- no expression stands in a shape, on any side
  abbrev pub HasNoMade : Shape → Type 0
  HasNoMade shape = (side : Side) → HaveNoMade (parts_in kind count side shape)

  splice_other : (side : Side) (shapes : List Shape) → AllByRecursion HasNoMade shapes → HaveNoMade (flat_map (parts_in kind count side) shapes)
  splice_other side [] all = refl
  splice_other side (shape ∷ shapes) all = all_pass_joined is_other (parts_in kind count side shape) (flat_map (parts_in kind count side) shapes) (all.0 side) (splice_other side shapes all.1)

  inner_other : (side : Side) (shapes : List Shape) → AllByRecursion HasNoMade shapes → HaveNoMade (inner_by kind count side shapes)
  inner_other side (bracket ∷ before ∷ arrow ∷ after ∷ closing ∷ []) all =
      change_other (inner_at bracket) side (parts_in kind count (left_of side) before) (parts_in kind count (right_of side) after) refl (all.1.0 (left_of side)) (all.1.1.1.0 (right_of side))
  inner_other side shapes all = refl

  whole_other : (side : Side) (shapes : List Shape) → AllByRecursion HasNoMade shapes → HaveNoMade (change_by kind count side shapes)
  whole_other side (before ∷ arrow ∷ after ∷ []) all =
      change_other Whole side (parts_in kind count (left_of side) before) (parts_in kind count (right_of side) after) refl (all.0 (left_of side)) (all.1.1.0 (right_of side))
  whole_other side shapes all = refl

  pub role_other : (role : Role) (side : Side) (shapes : List Shape) → Spares role (AllByRecursion HasNoMade shapes)
      → HaveNoMade (parts_by kind count role side shapes)
  role_other Splice side shapes all = splice_other side shapes all
  role_other InnerRole side shapes all = inner_other side shapes all
  role_other WholeRole side shapes all = whole_other side shapes all
  role_other MadeRole side shapes all = absurd all
  role_other ItemRole side shapes all = lone_other ItemRole side shapes
  role_other TailRole side shapes all = lone_other TailRole side shapes
  role_other EntryRole side shapes all = lone_other EntryRole side shapes
  role_other RestRole side shapes all = lone_other RestRole side shapes
  role_other Nothing side shapes all = lone_other Nothing side shapes
  role_other Value side shapes all = lone_other Value side shapes
  role_other Changed side shapes all = lone_other Changed side shapes
  role_other Becomes side shapes all = lone_other Becomes side shapes
