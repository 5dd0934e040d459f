-- In what is read of a term a rest stands in lists alone, and in no sequence in parentheses.
use Rattle.std.proofs.Common.{◌≡◌, ℕ, ◌-◌, Bool, true, false, cond, not, ◌==◌, ◌&&◌, List, [], ◌∷◌, ◌++◌, Option, Some, None, refl, sym, ap, subst}
use Rattle.std.specs.Prelude.{slice_get}
use Rattle.std.specs.List.{AllByRecursion}
use mathlib.Core.Former.{Count}
use Rattle.grammar_terms.specs.declared.production.Production.{Production}
use Rattle.grammar_terms.specs.declared.shape.Shape.{Shape, Leaf, Node, Items, Node', Items', Row_of-Shape, end_of-Shape, more_of-Shape, items-the_row-Shape, items_hidden-the_row-Shape-0}
use Rattle.grammar_terms.specs.declared.shape.Shape.TheBlock.{hidden-the_row-Shape-0}
use Rattle.grammar_terms.specs.declared.word.Word.{Word}
use Rattle.grammar_terms.specs.Grammar.{Syntax}
use Rattle.grammar_terms.specs.Reading.{IsListOf, Reads, reads_plain, reads_bracket, reads_list, reads_rest, reads_empty, Parts, no_item, terminal_item, sort_item, Elements, no_element, first_element, next_element, Child, stands_leaf, stands_wild, stands_token, stands_reading, stands_nothing, stands_sequence, Sequence, one_part, next_part, Joins, joins_item, joins_variable}
use Rattle.rule_parts.specs.Terms.{is_sequence}

abbrev pub is_rest_of_list : ℕ → Option ℕ → Bool
is_rest_of_list p None = true
is_rest_of_list p (Some at) = not (is_sequence p)

unfoldable mutual
  pub rests_in_lists : Shape → Bool
  rests_in_lists (Leaf at) = true
  rests_in_lists (Node' p _ shapes) = row_rests_in_lists shapes
  rests_in_lists (Items' p _ shapes rest) = is_rest_of_list p rest && row_rests_in_lists shapes

  pub row_rests_in_lists : {n : _} → Row_of-Shape n → Bool
  row_rests_in_lists end_of-Shape = true
  row_rests_in_lists (more_of-Shape shape shapes) = rests_in_lists shape && row_rests_in_lists shapes

-- ---- shapes

both_true : (a b : Bool) → a ≡ true → b ≡ true → (a && b) ≡ true
both_true true b one other = other
both_true false b one other = absurd (let f : false ≡ true = one in cc)

abbrev IsRested : Shape → Type 0
IsRested shape = rests_in_lists shape ≡ true

row_rested : {n : Count} (row : Row_of-Shape n) → AllByRecursion IsRested (items-the_row-Shape n row) → row_rests_in_lists row ≡ true
unfolding row_rests_in_lists
row_rested end_of-Shape all = refl
row_rested (more_of-Shape shape shapes) all = both_true (rests_in_lists shape) (row_rests_in_lists shapes) all.0 (row_rested shapes all.1)

hidden_rested : (shapes : List Shape) → AllByRecursion IsRested shapes → row_rests_in_lists (hidden-the_row-Shape-0 shapes) ≡ true
hidden_rested shapes all = row_rested (hidden-the_row-Shape-0 shapes) (subst (AllByRecursion IsRested) (sym (items_hidden-the_row-Shape-0 shapes)) all)

rested-Leaf : (at : ℕ) (shape : Shape) → shape ≡ Leaf at → IsRested shape
unfolding rests_in_lists
rested-Leaf at shape is = ap rests_in_lists is

rested-Node : (p : ℕ) (shapes : List Shape) → AllByRecursion IsRested shapes → IsRested (Node p shapes)
unfolding rests_in_lists
rested-Node p shapes all = hidden_rested shapes all

rested-Items : (p : ℕ) (shapes : List Shape) (rest : Option ℕ) → is_rest_of_list p rest ≡ true → AllByRecursion IsRested shapes → IsRested (Items p shapes rest)
unfolding rests_in_lists
rested-Items p shapes rest is all = both_true (is_rest_of_list p rest) (row_rests_in_lists (hidden-the_row-Shape-0 shapes)) is (hidden_rested shapes all)

not_first : {X : Type 0} (b : Bool) (found : Option X) (x : X) → cond b None found ≡ Some x → not b ≡ true
not_first true found x e = absurd (let f : None ≡ Some x = e in cc)
not_first false found x e = refl

all_more : {X : Type 0} (P : X → Type 0) (xs : List X) (x : X) → AllByRecursion P xs → P x → AllByRecursion P (xs ++ x ∷ [])
all_more P [] x all p = (p, tt)
all_more P (y ∷ xs) x all p = (all.0, all_more P xs x all.1 p)

-- ---- readings

module _ (g : Syntax) (words : List Word) where
  list_number : (p element : ℕ) (separator : List ℕ) → IsListOf g.prods p element separator → not (is_sequence p) ≡ true
  list_number p element separator of = not_first (p == 0) (slice_get g.prods (p - 1)) of.production of.is

  mutual
    reads_rested : {p from past : ℕ} {shape : Shape} → Reads g words p from past shape → IsRested shape
    reads_rested (reads_plain p from past production shapes shape plain no_bracket parts is) = subst IsRested (sym is) (rested-Node p shapes (parts_rested parts))
    reads_rested (reads_bracket p from past production shape plain bracket parts) = (parts_rested parts).0
    reads_rested (reads_list p from past element separator shapes shape of elements wild is) = subst IsRested (sym is) (rested-Items p shapes None refl (elements_rested elements))
    reads_rested (reads_rest p from at next element separator first shapes shape of elements between rest is) =
        subst IsRested (sym is) (rested-Items p (first ∷ shapes) (Some next) (list_number p element separator of) (elements_rested elements))
    reads_rested (reads_empty p at element separator shape of empty is) = subst IsRested (sym is) (rested-Items p [] None refl tt)

    parts_rested : {p : ℕ} {production : Production} {count from at : ℕ} {shapes : List Shape} → Parts g words p production count from at shapes → AllByRecursion IsRested shapes
    parts_rested (no_item p production from) = tt
    parts_rested (terminal_item p production count from at shapes text parts item here) = parts_rested parts
    parts_rested (sort_item p production count from at past shapes sort shape parts item child) = all_more IsRested shapes shape (parts_rested parts) (child_rested child)

    elements_rested : {p sort : ℕ} {separator : List ℕ} {from past : ℕ} {shapes : List Shape} → Elements g words p sort separator from past shapes → AllByRecursion IsRested shapes
    elements_rested (no_element p sort separator from) = tt
    elements_rested (first_element p sort separator from past shape child) = (child_rested child, tt)
    elements_rested (next_element p sort separator from at next past first shapes shape elements between child) =
        all_more IsRested (first ∷ shapes) shape (elements_rested elements) (child_rested child)

    pub child_rested : {place : Option (ℕ × ℕ)} {sort from past : ℕ} {shape : Shape} → Child g words place sort from past shape → IsRested shape
    child_rested (stands_leaf place sort at own shape leaf fits is) = rested-Leaf at shape is
    child_rested (stands_wild place sort at shape wild named is) = rested-Leaf at shape is
    child_rested (stands_token place sort at shape asked is) = rested-Leaf at shape is
    child_rested (stands_reading place sort from past p production shape reads at fits may takes) = reads_rested reads
    child_rested (stands_nothing place sort at shape k empty is) = subst IsRested (sym is) (rested-Items 0 [] None refl tt)
    child_rested (stands_sequence place sort from at first second shapes shape k rules opens parts closes is) =
        subst IsRested (sym is) (rested-Items 0 (first ∷ second ∷ shapes) None refl (sequence_rested parts))

    sequence_rested : {from past : ℕ} {shapes : List Shape} → Sequence g words from past shapes → AllByRecursion IsRested shapes
    sequence_rested (one_part from past shape part) = (joins_rested part, tt)
    sequence_rested (next_part from at past shapes shape parts arrow part) = all_more IsRested shapes shape (sequence_rested parts) (joins_rested part)

    joins_rested : {from past : ℕ} {shape : Shape} → Joins g words from past shape → IsRested shape
    joins_rested (joins_item from past shape child) = child_rested child
    joins_rested (joins_variable at shape word is) = rested-Leaf at shape is
