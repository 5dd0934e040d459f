-- The shape that a value comes from, where it is known which tokens are literals.
use Rattle.std.proofs.Common.{ℕ, ◌≡◌, true, List, [], ◌∷◌, ◌++◌, None, refl, sym, ap, ◌∙◌}
use denote.Hole.Carrier.{out}
use mathlib.Core.Former.{arity, this}
use Rattle.k_terms.specs.formers.many.Many.{the_former}
use Rattle.k_terms.specs.declared.value.Value.{Value, Value-F, Int, Bool as Truth, Str, Id, Node as NodeV, Items as ItemsV, Seq as SeqV, Node', Items', Seq', Map', List' as Listed', Freezer', Row_of-Value, end_of-Value, more_of-Value, out-Value, items-the_row-Value, items_shown-the_row-Value-0}
use Rattle.k_terms.specs.declared.value.Value.TheBlock.{shown-the_row-Value-0}
use Rattle.k_terms.specs.declared.value.Value.TheVariants.{outs-Node, outs-Items, outs-Seq}
use Rattle.k_terms.specs.declared.value.Value.TheOpen.{Int as Int-F, Bool as Truth-F, Str as Str-F, Id as Id-F, Node as Node-F, Items as Items-F, Seq as Seq-F, Map as Map-F, List as List-F, Freezer as Freezer-F}
use Rattle.grammar_terms.specs.declared.shape.Shape.{Shape, Leaf, Node, Items}
use Rattle.grammar_terms.specs.Values.{is_plain_value}

abbrev leaf_back : List ℕ → Shape × List ℕ
leaf_back [] = (Leaf 0, [])
leaf_back (at ∷ places) = (Leaf at, places)

-- the shape of a sequence: that of its one item, or else of all
abbrev sequence_shape : List Shape → Shape
sequence_shape [] = Items 0 [] None
sequence_shape (shape ∷ []) = shape
sequence_shape (first ∷ second ∷ shapes) = Items 0 (first ∷ second ∷ shapes) None

-- From the places of literals that are left, the shape of a value, and those that are left then.
mutual
  pub back : Value → List ℕ → Shape × List ℕ
  back (Node' p _ parts) places = (Node p (row_back parts places).0, (row_back parts places).1)
  back (Items' p _ parts) places = (Items p (row_back parts places).0 None, (row_back parts places).1)
  back (Seq' _ parts) places = (sequence_shape (row_back parts places).0, (row_back parts places).1)
  back (Int _) places = leaf_back places
  back (Truth _) places = leaf_back places
  back (Str _) places = leaf_back places
  back (Id _) places = leaf_back places
  back (Map' _ _) places = leaf_back places
  back (Listed' _ _) places = leaf_back places
  back (Freezer' _ _ _ _) places = leaf_back places

  pub row_back : {n : _} → Row_of-Value n → List ℕ → List Shape × List ℕ
  row_back end_of-Value places = ([], places)
  row_back (more_of-Value part parts) places =
      ((back part places).0 ∷ (row_back parts (back part places).1).0, (row_back parts (back part places).1).1)

-- the same of a list of values
unfoldable pub all_back : List Value → List ℕ → List Shape × List ℕ
all_back [] places = ([], places)
all_back (v ∷ vs) places = ((back v places).0 ∷ (all_back vs (back v places).1).0, (all_back vs (back v places).1).1)

level_back : Value-F Value → List ℕ → Shape × List ℕ
level_back (Node-F p vs) places = (Node p (all_back vs places).0, (all_back vs places).1)
level_back (Items-F p vs) places = (Items p (all_back vs places).0 None, (all_back vs places).1)
level_back (Seq-F vs) places = (sequence_shape (all_back vs places).0, (all_back vs places).1)
level_back (Int-F _) places = leaf_back places
level_back (Truth-F _) places = leaf_back places
level_back (Str-F _) places = leaf_back places
level_back (Id-F _) places = leaf_back places
level_back (Map-F _) places = leaf_back places
level_back (List-F _) places = leaf_back places
level_back (Freezer-F _ _ _) places = leaf_back places

row_back_is : {n : _} (parts : Row_of-Value n) (places : List ℕ) → row_back parts places ≡ all_back (items-the_row-Value n parts) places
unfolding row_back all_back
row_back_is end_of-Value places = refl
row_back_is (more_of-Value part parts) places = λ i. ((back part places).0 ∷ (row_back_is parts (back part places).1 i).0, (row_back_is parts (back part places).1 i).1)

row_shown : (s : (the_former this).Shape) (parts : Row_of-Value (arity (the_former this) s)) (places : List ℕ) → row_back parts places ≡ all_back (shown-the_row-Value-0 s parts) places
row_shown s parts places = row_back_is parts places ∙ ap (λ vs. all_back vs places) (sym (items_shown-the_row-Value-0 s parts))

abbrev node_made : ℕ → List Shape × List ℕ → Shape × List ℕ
node_made p it = (Node p it.0, it.1)

abbrev list_made : ℕ → List Shape × List ℕ → Shape × List ℕ
list_made p it = (Items p it.0 None, it.1)

abbrev first_made : List Shape × List ℕ → Shape × List ℕ
first_made it = (sequence_shape it.0, it.1)

back_levels : (v : Value) (places : List ℕ) → back v places ≡ level_back (out-Value v) places
unfolding back level_back out-Value out
back_levels (Node' p s parts) places = ap (node_made p) (row_shown s parts places)
back_levels (Items' p s parts) places = ap (list_made p) (row_shown s parts places)
back_levels (Seq' s parts) places = ap first_made (row_shown s parts places)
back_levels (Int _) places = refl
back_levels (Truth _) places = refl
back_levels (Str _) places = refl
back_levels (Id _) places = refl
back_levels (Map' _ _) places = refl
back_levels (Listed' _ _) places = refl
back_levels (Freezer' _ _ _ _) places = refl

-- The same at each constructor.
pub back-Node : (p : ℕ) (vs : List Value) (places : List ℕ) → back (NodeV p vs) places ≡ (Node p (all_back vs places).0, (all_back vs places).1)
unfolding level_back
back-Node p vs places = back_levels _ places ∙ ap (λ v. level_back v places) (outs-Node p vs)

pub back-Items : (p : ℕ) (vs : List Value) (places : List ℕ) → back (ItemsV p vs) places ≡ (Items p (all_back vs places).0 None, (all_back vs places).1)
unfolding level_back
back-Items p vs places = back_levels _ places ∙ ap (λ v. level_back v places) (outs-Items p vs)

back-Seq : (vs : List Value) (places : List ℕ) → back (SeqV vs) places ≡ (sequence_shape (all_back vs places).0, (all_back vs places).1)
unfolding level_back
back-Seq vs places = back_levels _ places ∙ ap (λ v. level_back v places) (outs-Seq vs)

-- a sequence of two items or more has the shape of a sequence
pub back_sequence : (vs : List Value) (places last : List ℕ) (first second : Shape) (shapes : List Shape) → all_back vs places ≡ (first ∷ second ∷ shapes, last)
    → back (SeqV vs) places ≡ (Items 0 (first ∷ second ∷ shapes) None, last)
back_sequence vs places last first second shapes is = back-Seq vs places ∙ ap first_made is

-- a sequence of one item has the shape of the item
pub back_one : (v : Value) (places : List ℕ) → back (SeqV (v ∷ [])) places ≡ back v places
unfolding all_back
back_one v places = back-Seq (v ∷ []) places

-- what comes of a list with one value behind
pub all_back_more : (vs : List Value) (v : Value) (places left last : List ℕ) (shapes : List Shape) (shape : Shape)
    → all_back vs places ≡ (shapes, left) → back v left ≡ (shape, last) → all_back (vs ++ v ∷ []) places ≡ (shapes ++ shape ∷ [], last)
unfolding all_back
all_back_more [] v places left last shapes shape front next =
    let none : [] ≡ shapes = ap (λ it. it.0) front in
    let same : places ≡ left = ap (λ it. it.1) front in
    let here : back v places ≡ (shape, last) = ap (back v) same ∙ next in
    (λ i. ((here i).0 ∷ [], (here i).1)) ∙ ap (λ it. (it ++ shape ∷ [], last)) none
all_back_more (u ∷ vs) v places left last shapes shape front next =
    let rest : all_back (vs ++ v ∷ []) (back u places).1 ≡ ((all_back vs (back u places).1).0 ++ shape ∷ [], last) =
    all_back_more vs v (back u places).1 left last (all_back vs (back u places).1).0 shape (λ i. ((all_back vs (back u places).1).0, (front i).1)) next in
    (λ i. ((back u places).0 ∷ (rest i).0, (rest i).1)) ∙ ap (λ it. (it ++ shape ∷ [], last)) (ap (λ it. it.0) front)

-- a literal or an identifier is a token
pub back_leaf : (v : Value) (at : ℕ) (places : List ℕ) → is_plain_value v ≡ true → back v (at ∷ places) ≡ (Leaf at, places)
unfolding back
back_leaf (Int _) at places is = refl
back_leaf (Truth _) at places is = refl
back_leaf (Str _) at places is = refl
back_leaf (Id _) at places is = refl
back_leaf (Node' _ _ _) at places is = cc
back_leaf (Items' _ _ _) at places is = cc
back_leaf (Seq' _ _) at places is = cc
back_leaf (Map' _ _) at places is = cc
back_leaf (Listed' _ _) at places is = cc
back_leaf (Freezer' _ _ _ _) at places is = cc
