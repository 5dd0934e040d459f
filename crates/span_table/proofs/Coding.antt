-- The code of a shape tells the shape.
use Rattle.std.proofs.Common.{ℕ, ◌≡◌, Bool, true, false, true≢false, cond, List, [], ◌∷◌, ◌++◌, Option, Some, None, refl, sym, ap, ◌∙◌, append_assoc, arith, slice_get}
use Rattle.std.proofs.lemmas.List.{append-nil}
use mathlib.Core.Former.{Count, arity, this}
use denote.Hole.Carrier.{out, roll}
use Rattle.k_terms.specs.formers.many.Many.{the_former}
use Rattle.grammar_terms.specs.declared.shape.Shape.{Shape, Leaf, Node, Items, Node' as NodeS', Items' as ItemsS', Row_of-Shape, end_of-Shape, more_of-Shape, items-the_row-Shape, items_hidden-the_row-Shape-0, items_shown-the_row-Shape-0, out-Shape, roll-Shape, roll-out-Shape}
use Rattle.grammar_terms.specs.declared.shape.Shape.TheBlock.{hidden-the_row-Shape-0, shown-the_row-Shape-0}
use Rattle.grammar_terms.specs.declared.word.Word.{Word}
use Rattle.grammar_terms.specs.declared.word.WordKind.{WordKind}
use Rattle.grammar_terms.specs.declared.word.WordKind.TheVariants.{Terminal as TerminalWord, Literal, Variable, Wild as WildWord, EmptyList}
use Rattle.grammar_terms.specs.Places.{wild_place, dot_place, variable_place, empty_place, is_of_terminal, place_by, token_place, token_place_at}
use Rattle.grammar_terms.specs.Reading.{is_leaf, is_wild, is_wild_at, is_wild_leaf, is_wild_alone, is_lone, is_single, takes, IsLeafAt, IsWordAt}
use Rattle.k_terms.specs.Sorts.{sort_kitem}
use Rattle.std.specs.Prelude.{◌==◌, ◌-◌}
use Rattle.std.proofs.lemmas.Bool.Decides.{nat_tests}
use Rattle.grammar_terms.specs.Reading.{item_sort}
use Rattle.span_rows.specs.declared.row.Class.{Class}
use Rattle.span_rows.specs.declared.row.Class.TheVariants.{Lone, Wild, Other}
use Rattle.span_rows.specs.declared.row.Held.TheVariants.{One}
use Rattle.span_rows.specs.declared.sign.Sign.{Sign}
use Rattle.span_rows.specs.declared.sign.Sign.TheVariants.{Open, Leaf as LeafSign, Node as NodeSign, Items as ItemsSign, ItemsAnd}
use Rattle.span_table.specs.Codes.{items_sign, code_of, row_code, codes_of, read_back}
use Rattle.span_rows.specs.Rows.{is_no_lone, takes_class, place_class}
use Rattle.span_rows.specs.Steps.{class_in, held_of, list_of}

row_code_is : {n : Count} (r : Row_of-Shape n) → row_code r ≡ codes_of (items-the_row-Shape n r)
unfolding row_code
row_code_is end_of-Shape = refl
row_code_is (more_of-Shape shape shapes) = ap (λ code. code_of shape ++ code) (row_code_is shapes)

pub code_of-Leaf : (at : ℕ) → code_of (Leaf at) ≡ LeafSign at ∷ []
unfolding code_of
code_of-Leaf at = refl

pub code_of-Node : (p : ℕ) (shapes : List Shape) → code_of (Node p shapes) ≡ Open ∷ codes_of shapes ++ NodeSign p ∷ []
unfolding code_of
code_of-Node p shapes = ap (λ code. Open ∷ code ++ NodeSign p ∷ []) (row_code_is (hidden-the_row-Shape-0 shapes) ∙ ap codes_of (items_hidden-the_row-Shape-0 shapes))

pub code_of-Items : (p : ℕ) (shapes : List Shape) (rest : Option ℕ) → code_of (Items p shapes rest) ≡ Open ∷ codes_of shapes ++ items_sign p rest ∷ []
unfolding code_of
code_of-Items p shapes rest =
    ap (λ code. Open ∷ code ++ items_sign p rest ∷ []) (row_code_is (hidden-the_row-Shape-0 shapes) ∙ ap codes_of (items_hidden-the_row-Shape-0 shapes))

is_one : List Shape → Bool
is_one [] = false
is_one (shape ∷ []) = true
is_one (first ∷ second ∷ shapes) = false

is_single_is : {n : Count} (r : Row_of-Shape n) → is_single r ≡ is_one (items-the_row-Shape n r)
unfolding is_single is_one
is_single_is end_of-Shape = refl
is_single_is (more_of-Shape _ end_of-Shape) = refl
is_single_is (more_of-Shape _ (more_of-Shape _ _)) = refl

-- ---- classes

pub class_in-Leaf : (words : List Word) (at : ℕ) → class_in words (Leaf at) ≡ cond (is_wild_at words at) Wild Other
unfolding is_lone is_wild_leaf
class_in-Leaf words at = refl

pub class_in-Node : (words : List Word) (p : ℕ) (shapes : List Shape) → class_in words (Node p shapes) ≡ Other
unfolding is_lone is_wild_leaf
class_in-Node words p shapes = refl

-- a list with a rest is no list of one element
pub class_in-rest : (words : List Word) (p : ℕ) (shapes : List Shape) (rest : ℕ) → class_in words (Items p shapes (Some rest)) ≡ Other
unfolding is_lone is_wild_leaf
class_in-rest words p shapes rest = refl

class_in-Items : (words : List Word) (p : ℕ) (shapes : List Shape) → class_in words (Items p shapes None) ≡ cond (is_one shapes) Lone Other
unfolding is_lone is_wild_leaf
class_in-Items words p shapes =
    ap (λ b. cond b Lone Other) (is_single_is (hidden-the_row-Shape-0 shapes) ∙ ap is_one (items_hidden-the_row-Shape-0 shapes))

pub class_in-nothing : (words : List Word) (p : ℕ) → class_in words (Items p [] None) ≡ Other
unfolding is_one
class_in-nothing words p = class_in-Items words p []

pub class_in-several : (words : List Word) (p : ℕ) (first second : Shape) (shapes : List Shape) → class_in words (Items p (first ∷ second ∷ shapes) None) ≡ Other
unfolding is_one
class_in-several words p first second shapes = class_in-Items words p (first ∷ second ∷ shapes)

leaf_not_wild : (kind : WordKind) → is_leaf kind ≡ true → is_wild kind ≡ false
leaf_not_wild (TerminalWord text) leaf = refl
leaf_not_wild (Literal value) leaf = refl
leaf_not_wild Variable leaf = refl
leaf_not_wild WildWord leaf = absurd (true≢false (sym leaf))
leaf_not_wild EmptyList leaf = refl

-- the class of the token at a place
pub leaf_class : (words : List Word) (at own : ℕ) → IsLeafAt words at own → class_in words (Leaf at) ≡ Other
unfolding is_lone is_wild_leaf
leaf_class words at own leaf = class_in-Leaf words at ∙ ap (λ b. cond b Wild Other) (ap (λ it. elim it [ None ↦ false | Some word ↦ is_wild word.kind ]) leaf.1 ∙ leaf_not_wild leaf.0.kind leaf.2)

pub variable_class : (words : List Word) (at sort : ℕ) → IsWordAt words at Variable sort → class_in words (Leaf at) ≡ Other
variable_class words at sort word =
    class_in-Leaf words at ∙ ap (λ b. cond b Wild Other) (ap (λ it. elim it [ None ↦ false | Some other ↦ is_wild other.kind ]) word.1 ∙ ap is_wild word.2)

no_number : (number : ℕ) → None ≡ Some number → ⊥
no_number number same = cc

some_number : (one other : ℕ) → Some one ≡ Some other → one ≡ other
some_number one other same = cc

apart_variable : (sort number : ℕ) → variable_place sort ≡ number → (number == wild_place) ≡ false
apart_variable sort number is = grind (arith, nat_tests)

apart_empty : (sort number : ℕ) → empty_place sort ≡ number → (number == wild_place) ≡ false
apart_empty sort number is = grind (arith, nat_tests)

apart_dot : (number : ℕ) → dot_place ≡ number → (number == wild_place) ≡ false
apart_dot number is = grind (arith, nat_tests)

same_wild : (number : ℕ) → wild_place ≡ number → (number == wild_place) ≡ true
same_wild number is = grind (arith, nat_tests)

apart_by : (none one : Bool) (sort number : ℕ) → cond none None (cond one (Some dot_place) (Some (empty_place sort))) ≡ Some number → (number == wild_place) ≡ false
apart_by true one sort number is = absurd (no_number number is)
apart_by false true sort number is = apart_dot number (some_number dot_place number is)
apart_by false false sort number is = apart_empty sort number (some_number (empty_place sort) number is)

apart_terminal : (number : ℕ) → is_of_terminal number ≡ true → (number == wild_place) ≡ false
apart_terminal number is = grind (arith, nat_tests)

terminal_by : (asked : Bool) (number place : ℕ) → is_of_terminal number ≡ asked → cond asked (Some number) None ≡ Some place → (place == wild_place) ≡ false
terminal_by true number place asked is = ap (λ it. it == wild_place) (sym (some_number number place is)) ∙ apart_terminal number asked
terminal_by false number place asked is = absurd (no_number place is)

-- a token is a variable without a sort where its places are
wild_by : (kind : WordKind) (sort bytes number : ℕ) → place_by kind sort bytes ≡ Some number → (number == wild_place) ≡ is_wild kind
wild_by (TerminalWord text) sort bytes number is = terminal_by (is_of_terminal sort) sort number refl is
wild_by (Literal value) sort bytes number is = absurd (no_number number is)
wild_by Variable sort bytes number is = apart_variable sort number (some_number (variable_place sort) number is)
wild_by WildWord sort bytes number is = same_wild number (some_number wild_place number is)
wild_by EmptyList sort bytes number is = apart_by (bytes == 0) (bytes == 1) sort number is

wild_asked : (words : List Word) (at number : ℕ) → token_place_at words at ≡ Some number → (number == wild_place) ≡ is_wild_at words at
wild_asked words at number asked = elim (slice_get words at) as (λ it. it ≡ slice_get words at → (number == wild_place) ≡ is_wild_at words at) [
  | None ↦ λ e. absurd (no_number number (ap (λ it. elim it [ None ↦ None | Some word ↦ token_place word ]) e ∙ asked))
  | Some word ↦ λ e.
      wild_by word.kind word.sort (word.end - word.start) number (ap (λ it. elim it [ None ↦ None | Some other ↦ token_place other ]) e ∙ asked)
      ∙ ap (λ it. elim it [ None ↦ false | Some other ↦ is_wild other.kind ]) e
] refl

-- the class of a token that some places ask for
pub asked_class : (words : List Word) (at number : ℕ) → token_place_at words at ≡ Some number → class_in words (Leaf at) ≡ place_class number
asked_class words at number asked = class_in-Leaf words at ∙ ap (λ b. cond b Wild Other) (sym (wild_asked words at number asked))

pub wild_class : (words : List Word) (at : ℕ) → is_wild_at words at ≡ true → class_in words (Leaf at) ≡ Wild
wild_class words at wild = class_in-Leaf words at ∙ ap (λ b. cond b Wild Other) wild

-- a variable without a sort is no list of one element
wild_not_lone : (words : List Word) (shape : Shape) → is_wild_leaf words shape ≡ true → is_lone shape ≡ false
unfolding is_lone is_wild_leaf
wild_not_lone words (Leaf at) wild = refl
wild_not_lone words (NodeS' p s row) wild = refl
wild_not_lone words (ItemsS' p s row None) wild = absurd (true≢false (sym wild))
wild_not_lone words (ItemsS' p s row (Some rest)) wild = refl

taken_by : (wild lone : Bool) → (wild ≡ true → lone ≡ false) → cond lone false true ≡ is_no_lone (cond wild Wild (cond lone Lone Other))
taken_by true true apart = absurd (true≢false (apart refl))
taken_by true false apart = refl
taken_by false true apart = refl
taken_by false false apart = refl

pub takes_is : (words : List Word) (sort : ℕ) (shape : Shape) → takes sort shape ≡ takes_class sort (class_in words shape)
takes_is words sort shape = ap (λ b. cond (item_sort sort == sort_kitem) b true) (taken_by (is_wild_leaf words shape) (is_lone shape) (wild_not_lone words shape))

list_of_one : (lone : Bool) → list_of (One (cond lone Lone Other)) ≡ Some Lone
list_of_one true = refl
list_of_one false = refl

-- the class of a list of shapes that are no variable without a sort alone
pub list_held : (words : List Word) (p : ℕ) (shapes : List Shape) → is_wild_alone words shapes ≡ false → list_of (held_of words shapes) ≡ Some (class_in words (Items p shapes None))
unfolding is_one
list_held words p [] alone = ap Some (sym (class_in-Items words p []))
list_held words p (shape ∷ []) alone =
    ap (λ b. list_of (One (cond b Wild (cond (is_lone shape) Lone Other)))) alone ∙ list_of_one (is_lone shape) ∙ ap Some (sym (class_in-Items words p (shape ∷ [])))
list_held words p (first ∷ second ∷ shapes) alone = ap Some (sym (class_in-Items words p (first ∷ second ∷ shapes)))

some_same : (x y : Class) → Some x ≡ Some y → x ≡ y
some_same x y same = cc

none_some : (x : Class) → None ≡ Some x → ⊥
none_some x same = cc

not_wild : (wild lone : Bool) (class : Class) → list_of (One (cond wild Wild (cond lone Lone Other))) ≡ Some class → wild ≡ false
not_wild true lone class is = absurd (none_some class is)
not_wild false lone class is = refl

alone_tells : (words : List Word) (shapes : List Shape) (class : Class) → list_of (held_of words shapes) ≡ Some class → is_wild_alone words shapes ≡ false
alone_tells words [] class is = refl
alone_tells words (shape ∷ []) class is = not_wild (is_wild_leaf words shape) (is_lone shape) class is
alone_tells words (first ∷ second ∷ shapes) class is = refl

-- what is held makes a list of a class where it is no variable without a sort alone, and this is the class
pub list_tells : (words : List Word) (p : ℕ) (shapes : List Shape) (class : Class) → list_of (held_of words shapes) ≡ Some class
    → (is_wild_alone words shapes ≡ false) × (class ≡ class_in words (Items p shapes None))
list_tells words p shapes class is =
    let alone = alone_tells words shapes class is in
    (alone, some_same class (class_in words (Items p shapes None)) (sym is ∙ list_held words p shapes alone))

pub codes_of-append : (shapes more : List Shape) → codes_of (shapes ++ more) ≡ codes_of shapes ++ codes_of more
codes_of-append [] more = refl
codes_of-append (shape ∷ shapes) more = ap (λ code. code_of shape ++ code) (codes_of-append shapes more) ∙ sym (append_assoc (code_of shape) (codes_of shapes) (codes_of more))

pub codes_of-one : (shape : Shape) → codes_of (shape ∷ []) ≡ code_of shape
codes_of-one shape = append-nil (code_of shape)

pub codes_of-more : (shapes : List Shape) (shape : Shape) → codes_of (shapes ++ shape ∷ []) ≡ codes_of shapes ++ code_of shape
codes_of-more shapes shape = codes_of-append shapes (shape ∷ []) ∙ ap (λ code. codes_of shapes ++ code) (codes_of-one shape)

node_shown : (p : ℕ) (s : (the_former this).Shape) (row : Row_of-Shape (arity (the_former this) s)) → Node p (shown-the_row-Shape-0 s row) ≡ NodeS' p s row
unfolding out-Shape roll-Shape out roll
node_shown p s row = roll-out-Shape (NodeS' p s row)

items_shown : (p : ℕ) (s : (the_former this).Shape) (row : Row_of-Shape (arity (the_former this) s)) (rest : Option ℕ) → Items p (shown-the_row-Shape-0 s row) rest ≡ ItemsS' p s row rest
unfolding out-Shape roll-Shape out roll
items_shown p s row rest = roll-out-Shape (ItemsS' p s row rest)

-- the signs of parts, an end and further signs
parts_then : (code : List Sign) (end : Sign) (signs : List Sign) → (code ++ end ∷ []) ++ signs ≡ code ++ (end ∷ signs)
parts_then code end signs = append_assoc code (end ∷ []) signs

mutual
  unfolding code_of

  -- what was read back of a code, with further signs behind
  read_back_shape : (shape : Shape) (signs : List Sign) (shapes : List Shape) (outers : List (List Shape))
      → read_back (code_of shape ++ signs) shapes outers ≡ read_back signs (shapes ++ shape ∷ []) outers
  read_back_shape (Leaf at) signs shapes outers = refl
  read_back_shape (NodeS' p s row) signs shapes outers =
      ap (λ code. read_back code [] (shapes ∷ outers)) (parts_then (row_code row) (NodeSign p) signs) ∙ read_back_row row (NodeSign p ∷ signs) [] (shapes ∷ outers)
      ∙ ap (λ shape. read_back signs (shapes ++ shape ∷ []) outers) (ap (Node p) (sym (items_shown-the_row-Shape-0 s row)) ∙ node_shown p s row)
  read_back_shape (ItemsS' p s row None) signs shapes outers =
      ap (λ code. read_back code [] (shapes ∷ outers)) (parts_then (row_code row) (ItemsSign p) signs) ∙ read_back_row row (ItemsSign p ∷ signs) [] (shapes ∷ outers)
      ∙ ap (λ shape. read_back signs (shapes ++ shape ∷ []) outers) (ap (λ parts. Items p parts None) (sym (items_shown-the_row-Shape-0 s row)) ∙ items_shown p s row None)
  read_back_shape (ItemsS' p s row (Some rest)) signs shapes outers =
      ap (λ code. read_back code [] (shapes ∷ outers)) (parts_then (row_code row) (ItemsAnd p rest) signs) ∙ read_back_row row (ItemsAnd p rest ∷ signs) [] (shapes ∷ outers)
      ∙ ap (λ shape. read_back signs (shapes ++ shape ∷ []) outers) (ap (λ parts. Items p parts (Some rest)) (sym (items_shown-the_row-Shape-0 s row)) ∙ items_shown p s row (Some rest))

  read_back_row : {n : Count} (row : Row_of-Shape n) (signs : List Sign) (shapes : List Shape) (outers : List (List Shape))
      → read_back (row_code row ++ signs) shapes outers ≡ read_back signs (shapes ++ items-the_row-Shape n row) outers
  read_back_row end_of-Shape signs shapes outers = ap (λ vs. read_back signs vs outers) (sym (append-nil shapes))
  read_back_row {n = n} (more_of-Shape shape row) signs shapes outers =
      ap (λ code. read_back code shapes outers) (append_assoc (code_of shape) (row_code row) signs)
      ∙ read_back_shape shape (row_code row ++ signs) shapes outers
      ∙ read_back_row row signs (shapes ++ shape ∷ []) outers
      ∙ ap (λ vs. read_back signs vs outers) (append_assoc shapes (shape ∷ []) (items-the_row-Shape _ row))

-- a code is read back as its shape
pub read_back_code : (shape : Shape) → read_back (code_of shape) [] [] ≡ Some (shape ∷ [])
read_back_code shape = ap (λ code. read_back code [] []) (sym (append-nil (code_of shape))) ∙ read_back_shape shape [] [] []

abbrev first_or : Shape → Option (List Shape) → Shape
first_or other None = other
first_or other (Some []) = other
first_or other (Some (shape ∷ shapes)) = shape

-- shapes of one code are one shape
pub code_tells : (one other : Shape) → code_of one ≡ code_of other → one ≡ other
code_tells one other same = ap (first_or one) (sym (read_back_code one) ∙ ap (λ code. read_back code [] []) same ∙ read_back_code other)
