-- The parts of a content of a cell that stands on the right alone stand there.
use Rattle.std.proofs.Common.{◌≡◌, ℕ, true, false, List, [], ◌∷◌, ◌++◌, refl, sym, ◌∙◌}
use Rattle.std.specs.List.{AllByRecursion}
use Rattle.grammar_terms.specs.declared.shape.Shape.{Shape, Leaf, Node', Items', Row_of-Shape, end_of-Shape, more_of-Shape, items-the_row-Shape}
use Rattle.live_config.proofs.Members.{Has}
use Rattle.rule_terms.specs.declared.defs.Kind.{Kind}
use Rattle.rule_contents.specs.declared.reading.Form.{Form}
use Rattle.rule_contents.specs.declared.reading.Form.TheVariants.{Sides, Made as MadeForm, Expression}
use Rattle.rule_parts.specs.declared.parts.Part.{Part}
use Rattle.rule_parts.specs.declared.parts.Role.{Role}
use Rattle.rule_parts.specs.declared.parts.Role.TheVariants.{Item as ItemRole, Tail as TailRole, Entry as EntryRole, Rest as RestRole, Inner as InnerRole, Splice, Whole as WholeRole, Made as MadeRole, Value, Changed, Becomes}
use Rattle.rule_parts.specs.declared.parts.Side.{Side as Stands}
use Rattle.rule_parts.specs.declared.parts.Side.TheVariants.{Both, Left, Right}
use Rattle.rule_parts.specs.declared.parts.What.{What}
use Rattle.rule_parts.specs.declared.parts.What.TheVariants.{Tail, Rest}
use Rattle.rule_parts.specs.Parts.{role_of, leaf_part, value_parts, entry_parts, lone_parts, parts_in, row_parts, inner_parts, change_parts, made_parts, form_parts}
use Rattle.rule_parts.specs.Sides.{is_left}
use Rattle.sound_drafts.proofs.PartsUp.{all_has}

abbrev IsOnRight : Part Shape → Type 0
IsOnRight it = is_left it.side ≡ false

abbrev AreOnRight : List (Part Shape) → Type 0
AreOnRight parts = AllByRecursion IsOnRight parts

both_of : {X : Type 0} (P : X → Type 0) (xs ys : List X) → AllByRecursion P xs → AllByRecursion P ys → AllByRecursion P (xs ++ ys)
both_of P [] ys one other = other
both_of P (x ∷ xs) ys one other = (one.0, both_of P xs ys one.1 other)

leaf_right : (what : ℕ → What Shape) (shape : Shape) → AreOnRight (leaf_part what Right shape)
leaf_right what (Leaf at) = (refl, tt)
leaf_right what (Node' p _ shapes) = tt
leaf_right what (Items' p _ shapes rest) = tt

value_right : (role : Role) (key : Shape) (shapes : List Shape) → AreOnRight (value_parts role Right key shapes)
value_right Value key [] = tt
value_right Value key (value ∷ []) = (refl, tt)
value_right Value key (one ∷ other ∷ shapes) = tt
value_right Changed key [] = tt
value_right Changed key (a ∷ []) = tt
value_right Changed key (a ∷ b ∷ []) = tt
value_right Changed key (a ∷ b ∷ c ∷ []) = tt
value_right Changed key (a ∷ b ∷ c ∷ d ∷ []) = tt
value_right Changed key (a ∷ b ∷ c ∷ d ∷ e ∷ []) = (refl, (refl, (refl, tt)))
value_right Changed key (a ∷ b ∷ c ∷ d ∷ e ∷ f ∷ shapes) = tt
value_right role key shapes = tt

module _ (kind : Kind) (count : ℕ) where
  entry_right : (key shape : Shape) → AreOnRight (entry_parts kind count Right key shape)
  entry_right key (Leaf at) = tt
  entry_right key (Node' p _ shapes) = value_right (role_of kind count p) key (items-the_row-Shape _ shapes)
  entry_right key (Items' p _ shapes rest) = tt

  lone_right : (role : Role) (shapes : List Shape) → AreOnRight (lone_parts kind count role Right shapes)
  lone_right ItemRole [] = tt
  lone_right ItemRole (item ∷ []) = (refl, tt)
  lone_right ItemRole (one ∷ other ∷ shapes) = tt
  lone_right TailRole [] = tt
  lone_right TailRole (leaf ∷ []) = leaf_right Tail leaf
  lone_right TailRole (one ∷ other ∷ shapes) = tt
  lone_right RestRole [] = tt
  lone_right RestRole (leaf ∷ []) = leaf_right Rest leaf
  lone_right RestRole (one ∷ other ∷ shapes) = tt
  lone_right EntryRole [] = tt
  lone_right EntryRole (key ∷ []) = tt
  lone_right EntryRole (key ∷ entry ∷ []) = entry_right key entry
  lone_right EntryRole (one ∷ other ∷ more ∷ shapes) = tt
  lone_right Becomes [] = tt
  lone_right Becomes (a ∷ []) = tt
  lone_right Becomes (a ∷ b ∷ []) = tt
  lone_right Becomes (a ∷ b ∷ c ∷ []) = (refl, (refl, (refl, tt)))
  lone_right Becomes (a ∷ b ∷ c ∷ d ∷ shapes) = tt
  lone_right role shapes = tt

  mutual
    unfolding parts_in row_parts inner_parts change_parts made_parts

    pub parts_right : (shape : Shape) → AreOnRight (parts_in kind count Right shape)
    parts_right (Leaf at) = tt
    parts_right (Node' p _ shapes) =
        elim (role_of kind count p) as (λ role. AreOnRight (elim role [
          | Splice ↦ row_parts kind count Right shapes
          | InnerRole ↦ inner_parts kind count Right shapes
          | WholeRole ↦ change_parts kind count Right shapes
          | MadeRole ↦ made_parts kind count Right shapes
          | other ↦ lone_parts kind count other Right (items-the_row-Shape _ shapes)
        ])) [
          | Splice ↦ row_right shapes
          | InnerRole ↦ inner_right shapes
          | WholeRole ↦ change_right shapes
          | MadeRole ↦ made_right shapes
          | other ↦ lone_right other (items-the_row-Shape _ shapes)
        ]
    parts_right (Items' p _ shapes rest) = row_right shapes

    row_right : {n : _} (row : Row_of-Shape n) → AreOnRight (row_parts kind count Right row)
    row_right end_of-Shape = tt
    row_right (more_of-Shape shape shapes) = both_of IsOnRight (parts_in kind count Right shape) (row_parts kind count Right shapes) (parts_right shape) (row_right shapes)

    inner_right : {n : _} (row : Row_of-Shape n) → AreOnRight (inner_parts kind count Right row)
    inner_right end_of-Shape = tt
    inner_right (more_of-Shape a end_of-Shape) = tt
    inner_right (more_of-Shape a (more_of-Shape b end_of-Shape)) = tt
    inner_right (more_of-Shape a (more_of-Shape b (more_of-Shape c end_of-Shape))) = tt
    inner_right (more_of-Shape a (more_of-Shape b (more_of-Shape c (more_of-Shape d end_of-Shape)))) = tt
    inner_right (more_of-Shape a (more_of-Shape b (more_of-Shape c (more_of-Shape d (more_of-Shape e end_of-Shape))))) =
        (refl, both_of IsOnRight (parts_in kind count Right b) (parts_in kind count Right d) (parts_right b) (parts_right d))
    inner_right (more_of-Shape a (more_of-Shape b (more_of-Shape c (more_of-Shape d (more_of-Shape e (more_of-Shape f row)))))) = tt

    change_right : {n : _} (row : Row_of-Shape n) → AreOnRight (change_parts kind count Right row)
    change_right end_of-Shape = tt
    change_right (more_of-Shape a end_of-Shape) = tt
    change_right (more_of-Shape a (more_of-Shape b end_of-Shape)) = tt
    change_right (more_of-Shape a (more_of-Shape b (more_of-Shape c end_of-Shape))) =
        (refl, both_of IsOnRight (parts_in kind count Right a) (parts_in kind count Right c) (parts_right a) (parts_right c))
    change_right (more_of-Shape a (more_of-Shape b (more_of-Shape c (more_of-Shape d row)))) = tt

    made_right : {n : _} (row : Row_of-Shape n) → AreOnRight (made_parts kind count Right row)
    made_right end_of-Shape = tt
    made_right (more_of-Shape a end_of-Shape) = tt
    made_right (more_of-Shape a (more_of-Shape b end_of-Shape)) = tt
    made_right (more_of-Shape a (more_of-Shape b (more_of-Shape c end_of-Shape))) = (refl, both_of IsOnRight (parts_in kind count Right a) _ (parts_right a) (refl, tt))
    made_right (more_of-Shape a (more_of-Shape b (more_of-Shape c (more_of-Shape d row)))) = tt

  form_right : (form : Form) (shape : Shape) → AreOnRight (form_parts kind count Right form shape)
  form_right Sides shape = parts_right shape
  form_right MadeForm shape = parts_right shape
  form_right Expression shape = (refl, tt)

  -- what stands on the left is in a cell that does
  pub part_within : (on : Stands) (form : Form) (shape : Shape) (it : Part Shape) → Has (form_parts kind count on form shape) it → is_left it.side ≡ true → is_left on ≡ true
  part_within Both form shape it h left = refl
  part_within Left form shape it h left = refl
  part_within Right form shape it h left = absurd (let f : false ≡ true = sym (all_has IsOnRight (form_parts kind count Right form shape) it (form_right form shape) h) ∙ left in cc)
