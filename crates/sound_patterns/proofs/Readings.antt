-- What is read at a sort that has a name is a term: the numbers in it are those of productions of such sorts.
use Rattle.std.proofs.Common.{◌≡◌, inl, inr, ℕ, zero, suc, ◌<◌, ◌≤◌, Bool, true, false, cond, ◌==◌, List, [], ◌∷◌, ◌++◌, Option, Some, None, sym, ap, subst, ◌∙◌, arith}
use Rattle.std.specs.Prelude.{slice_get}
use Rattle.std.specs.List.{AllByRecursion}
use Rattle.k_terms.specs.Sorts.{Below, sort_k, sort_kitem}
use Rattle.grammar_terms.specs.declared.production.Part.{Part}
use Rattle.grammar_terms.specs.declared.production.Part.TheVariants.{Terminal, Sort}
use Rattle.grammar_terms.specs.declared.production.Production.{Production}
use Rattle.grammar_terms.specs.declared.shape.Shape.{Shape, Leaf, Node, Items, Row_of-Shape, end_of-Shape, more_of-Shape, items-the_row-Shape, items_hidden-the_row-Shape-0}
use Rattle.grammar_terms.specs.declared.shape.Shape.TheBlock.{hidden-the_row-Shape-0}
use Rattle.grammar_terms.specs.declared.word.Word.{Word}
use Rattle.grammar_terms.specs.Grammar.{Syntax, production_at, order_of, is_list}
use Rattle.grammar_terms.specs.Reading.{item_sort, Fits, IsListOf, Reads, reads_plain, reads_bracket, reads_list, reads_rest, reads_empty, Parts, no_item, terminal_item, sort_item, Elements, no_element, first_element, next_element, Child, stands_leaf, stands_wild, stands_token, stands_reading, stands_nothing, stands_sequence, Sequence, one_part, next_part, Joins, joins_item, joins_variable}
use Rattle.sound_patterns.proofs.Terms.{AllNumbers, RowNumbers}

-- ---- lists

pub all_at : {X : Type 0} (P : X → Type 0) (xs : List X) (n : ℕ) (x : X) → AllByRecursion P xs → slice_get xs n ≡ Some x → P x
all_at P [] n x all e = absurd (let f : None ≡ Some x = e in cc)
all_at P (y ∷ xs) zero x all e = let same : y ≡ x = cc in subst P same all.0
all_at P (y ∷ xs) (suc n) x all e = all_at P xs n x all.1 e

pub all_more : {X : Type 0} (P : X → Type 0) (xs : List X) (x : X) → AllByRecursion P xs → P x → AllByRecursion P (xs ++ x ∷ [])
all_more P [] x all p = (p, tt)
all_more P (y ∷ xs) x all p = (all.0, all_more P xs x all.1 p)

-- ---- shapes of numbers

module _ (node list : ℕ → Type 0) where
  abbrev pub AreNumbers : List Shape → Type 0
  AreNumbers shapes = AllByRecursion (AllNumbers node list) shapes

  row_numbers : {n : _} (row : Row_of-Shape n) → AreNumbers (items-the_row-Shape n row) → RowNumbers node list row
  unfolding RowNumbers
  row_numbers end_of-Shape all = tt
  row_numbers (more_of-Shape shape shapes) all = (all.0, row_numbers shapes all.1)

  hidden_numbers : (shapes : List Shape) → AreNumbers shapes → RowNumbers node list (hidden-the_row-Shape-0 shapes)
  hidden_numbers shapes all = row_numbers (hidden-the_row-Shape-0 shapes) (subst AreNumbers (sym (items_hidden-the_row-Shape-0 shapes)) all)

  pub numbers-Leaf : (at : ℕ) → AllNumbers node list (Leaf at)
  unfolding AllNumbers
  numbers-Leaf at = tt

  pub numbers-Node : (p : ℕ) (shapes : List Shape) → node p → AreNumbers shapes → AllNumbers node list (Node p shapes)
  unfolding AllNumbers
  numbers-Node p shapes is all = (is, hidden_numbers shapes all)

  pub numbers-Items : (p : ℕ) (shapes : List Shape) (rest : Option ℕ) → list p → AreNumbers shapes → AllNumbers node list (Items p shapes rest)
  unfolding AllNumbers
  numbers-Items p shapes rest is all = (is, hidden_numbers shapes all)

-- ---- grammars

-- an item is a terminal or a sort below a number
abbrev pub IsItemBelow : ℕ → Part → Type 0
IsItemBelow n (Terminal text) = Unit {0}
IsItemBelow n (Sort sort) = sort < n

abbrev pub AreBelow : ℕ → List Part → Type 0
AreBelow n items = AllByRecursion (IsItemBelow n) items

-- A production of a sort that has a name: its items have such sorts, and its number is one of a term.
pub record IsOfTerms (n : ℕ) (node list : ℕ → Type 0) (p : ℕ) (production : Production) : Type 0 where
  pub items : AreBelow n production.items
  pub plain : is_list production.form ≡ false → production.attrs.bracket ≡ false → node p
  pub listed : is_list production.form ≡ true → list p

-- Sorts that have names are below such ones alone, and so many; their productions are those of terms.
pub record HasTerms (g : Syntax) (n : ℕ) (node list : ℕ → Type 0) : Type 0 where
  pub some : 2 ≤ n
  pub ordered : (own sort : ℕ) → Below (order_of g) own sort → sort < n → own < n
  pub productions : (p : ℕ) (production : Production) → production_at g.prods p ≡ Some production → production.sort < n → IsOfTerms n node list p production
  pub sequence : list 0

module _ (g : Syntax) (words : List Word) (n : ℕ) (node list : ℕ → Type 0) (terms : HasTerms g n node list) where
  abbrev IsTerm : Shape → Type 0
  IsTerm shape = AllNumbers node list shape

  abbrev IsLow : ℕ → Type 0
  IsLow p = (production : Production) → production_at g.prods p ≡ Some production → production.sort < n

  -- what fits a sort that has a name has one
  item_low : (b : Bool) (sort : ℕ) → sort < n → cond b sort_kitem sort < n
  item_low true sort low = let some : 2 ≤ n = terms.some in omega (arith, some)
  item_low false sort low = low

  pub fits_low : (own sort : ℕ) → Fits g own sort → sort < n → own < n
  fits_low own sort (inl below) low = terms.ordered own (item_sort sort) below (item_low (sort == sort_k) sort low)
  fits_low own sort (inr same) low = subst (λ m. m < n) (sym same) low

  leaf_term : (at : ℕ) (shape : Shape) → shape ≡ Leaf at → IsTerm shape
  leaf_term at shape is = subst IsTerm (sym is) (numbers-Leaf node list at)

  list_term : (p element : ℕ) (separator : List ℕ) (shapes : List Shape) (rest : Option ℕ) (shape : Shape) → IsListOf g.prods p element separator → IsLow p
      → (element < n → AreNumbers node list shapes) → shape ≡ Items p shapes rest → IsTerm shape
  list_term p element separator shapes rest shape of low all is =
      let own = terms.productions p of.production of.is (low of.production of.is) in
      let below = subst (AreBelow n) of.element own.items in
      subst IsTerm (sym is) (numbers-Items node list p shapes rest (own.listed (ap is_list of.form)) (all below.0))

  kitem_low : sort_kitem < n
  kitem_low = let some : 2 ≤ n = terms.some in omega (arith, some)

  same_production : (p : ℕ) (one other : Production) → production_at g.prods p ≡ Some one → production_at g.prods p ≡ Some other → one ≡ other
  same_production p one other first second = let e : Some one ≡ Some other = sym first ∙ second in cc

  mutual
    reads_term : {p from past : ℕ} {shape : Shape} → Reads g words p from past shape → IsLow p → IsTerm shape
    reads_term (reads_plain p from past production shapes shape plain no_bracket parts is) low =
        let own = terms.productions p production plain.is (low production plain.is) in
        subst IsTerm (sym is) (numbers-Node node list p shapes (own.plain plain.no_list no_bracket) (parts_terms parts own.items))
    reads_term (reads_bracket p from past production shape plain bracket parts) low =
        (parts_terms parts (terms.productions p production plain.is (low production plain.is)).items).0
    reads_term (reads_list p from past element separator shapes shape of elements wild is) low =
        list_term p element separator shapes None shape of low (λ below. elements_terms elements below) is
    reads_term (reads_rest p from at next element separator first shapes shape of elements between rest is) low =
        list_term p element separator (first ∷ shapes) (Some next) shape of low (λ below. elements_terms elements below) is
    reads_term (reads_empty p at element separator shape of empty is) low = list_term p element separator [] None shape of low (λ below. tt) is

    pub parts_terms : {p : ℕ} {production : Production} {count from at : ℕ} {shapes : List Shape} → Parts g words p production count from at shapes → AreBelow n production.items
        → AreNumbers node list shapes
    parts_terms (no_item p production from) below = tt
    parts_terms (terminal_item p production count from at shapes text parts item here) below = parts_terms parts below
    parts_terms (sort_item p production count from at past shapes sort shape parts item child) below =
        all_more IsTerm shapes shape (parts_terms parts below) (child_term child (all_at (IsItemBelow n) production.items count (Sort sort) below item))

    elements_terms : {p sort : ℕ} {separator : List ℕ} {from past : ℕ} {shapes : List Shape} → Elements g words p sort separator from past shapes → sort < n → AreNumbers node list shapes
    elements_terms (no_element p sort separator from) low = tt
    elements_terms (first_element p sort separator from past shape child) low = (child_term child low, tt)
    elements_terms (next_element p sort separator from at next past first shapes shape elements between child) low =
        all_more IsTerm (first ∷ shapes) shape (elements_terms elements low) (child_term child low)

    pub child_term : {place : Option (ℕ × ℕ)} {sort from past : ℕ} {shape : Shape} → Child g words place sort from past shape → sort < n → IsTerm shape
    child_term (stands_leaf place sort at own shape leaf fits is) low = leaf_term at shape is
    child_term (stands_wild place sort at shape wild named is) low = leaf_term at shape is
    child_term (stands_token place sort at shape asked is) low = leaf_term at shape is
    child_term (stands_reading place sort from past p production shape reads at fits may takes) low =
        reads_term reads (λ other is. subst (λ (it : Production). it.sort < n) (same_production p production other at is) (fits_low production.sort sort fits low))
    child_term (stands_nothing place sort at shape k empty is) low = subst IsTerm (sym is) (numbers-Items node list 0 [] None terms.sequence tt)
    child_term (stands_sequence place sort from at first second shapes shape k rules opens parts closes is) low =
        subst IsTerm (sym is) (numbers-Items node list 0 (first ∷ second ∷ shapes) None terms.sequence (sequence_terms parts))

    sequence_terms : {from past : ℕ} {shapes : List Shape} → Sequence g words from past shapes → AreNumbers node list shapes
    sequence_terms (one_part from past shape part) = (joins_term part, tt)
    sequence_terms (next_part from at past shapes shape parts arrow part) = all_more IsTerm shapes shape (sequence_terms parts) (joins_term part)

    joins_term : {from past : ℕ} {shape : Shape} → Joins g words from past shape → IsTerm shape
    joins_term (joins_item from past shape child) = child_term child kitem_low
    joins_term (joins_variable at shape word is) = leaf_term at shape is
