-- The value of a reading is well formed, and its numbers are in range.
use Rattle.std.proofs.Common.{◌≡◌, ℕ, ◌+◌, ◌-◌, ◌≤◌, Bool, true, false, not, cond, ◌==◌, ◌&&◌, List, [], ◌∷◌, ◌++◌, length, map, take, Option, Some, None, refl, sym, ap, subst, ◌∙◌, arith}
use Rattle.std.specs.Prelude.{slice_get, nat_le}
use Rattle.std.specs.List.{AllByRecursion, list_all}
use Rattle.std.proofs.lemmas.Bool.{le-leb}
use Rattle.std.proofs.lemmas.List.{length-map, take_all}
use Rattle.std.proofs.lemmas.Option.{slice_get_within}
use mathlib.Core.Former.{Count}
use Rattle.k_terms.specs.Sorts.{SortOrder, sort_k, sort_kitem}
use Rattle.k_terms.specs.declared.value.Value.{Value, Node, Items, Seq, Row_of-Value, end_of-Value, more_of-Value, items-the_row-Value, items_hidden-the_row-Value-0}
use Rattle.k_terms.specs.declared.value.Value.TheBlock.{hidden-the_row-Value-0}
use Rattle.k_terms.specs.Value.{is_well_formed}
use Rattle.k_terms.specs.Parts.{are_well_formed}
use Rattle.k_terms.proofs.WellFormed.{is_well_formed-Node, is_well_formed-Items, is_well_formed-Seq}
use Rattle.grammar_terms.specs.declared.production.Production.{Production}
use Rattle.grammar_terms.specs.declared.shape.Shape.{Shape, Leaf, Node as NodeS, Items as ItemsS}
use Rattle.grammar_terms.specs.declared.word.Word.{Word}
use Rattle.grammar_terms.specs.Grammar.{Syntax, production_at, order_of}
use Rattle.grammar_terms.specs.Reading.{Reads, reads_plain, reads_bracket, reads_list, reads_rest, reads_empty, Parts, no_item, terminal_item, sort_item, Elements, no_element, first_element, next_element, Child, stands_leaf, stands_wild, stands_token, stands_reading, stands_nothing, stands_sequence, Sequence, one_part, next_part, Joins, joins_item, joins_variable}
use Rattle.grammar_terms.specs.Values.{value_of, values_by, elements_by, literal_at, at_sort, sorts_of, first_or_item}
use Rattle.grammar_terms.proofs.ShapeValues.{value-Node, value-Items}
use Rattle.rule_terms.specs.InRange.{is_production, is_value_in_range, value_row_in_range}
use Rattle.rule_terms.proofs.Defined.{joins}

pub record IsSoundValue (o : SortOrder) (v : Value) : Type 0 where
  pub formed : is_well_formed v ≡ true
  pub in_range : is_value_in_range o v ≡ true

pub each_formed : (o : SortOrder) (vs : List Value) → AllByRecursion (IsSoundValue o) vs → are_well_formed vs ≡ true
each_formed o [] all = refl
each_formed o (v ∷ vs) all = joins _ _ all.0.formed (each_formed o vs all.1)

pub all_formed : (o : SortOrder) (vs : List Value) → AllByRecursion (IsSoundValue o) vs → list_all is_well_formed vs ≡ true
all_formed o [] all = refl
all_formed o (v ∷ vs) all = joins _ _ all.0.formed (all_formed o vs all.1)

pub all_in_range : (o : SortOrder) (vs : List Value) → AllByRecursion (IsSoundValue o) vs → list_all (is_value_in_range o) vs ≡ true
all_in_range o [] all = refl
all_in_range o (v ∷ vs) all = joins _ _ all.0.in_range (all_in_range o vs all.1)

range_row : {n : Count} (o : SortOrder) (parts : Row_of-Value n) → value_row_in_range o parts ≡ list_all (is_value_in_range o) (items-the_row-Value n parts)
unfolding value_row_in_range
range_row o end_of-Value = refl
range_row o (more_of-Value part parts) = ap (λ b. is_value_in_range o part && b) (range_row o parts)

range_hidden : (o : SortOrder) (vs : List Value) → value_row_in_range o (hidden-the_row-Value-0 vs) ≡ list_all (is_value_in_range o) vs
range_hidden o vs = range_row o (hidden-the_row-Value-0 vs) ∙ ap (list_all (is_value_in_range o)) (items_hidden-the_row-Value-0 vs)

range_Node : (o : SortOrder) (p : ℕ) (vs : List Value) → is_value_in_range o (Node p vs) ≡ (is_production o p && list_all (is_value_in_range o) vs)
unfolding is_value_in_range
range_Node o p vs = ap (λ b. is_production o p && b) (range_hidden o vs)

range_Items : (o : SortOrder) (p : ℕ) (vs : List Value) → is_value_in_range o (Items p vs) ≡ (is_production o p && list_all (is_value_in_range o) vs)
unfolding is_value_in_range
range_Items o p vs = ap (λ b. is_production o p && b) (range_hidden o vs)

range_Seq : (o : SortOrder) (vs : List Value) → is_value_in_range o (Seq vs) ≡ list_all (is_value_in_range o) vs
unfolding is_value_in_range
range_Seq o vs = range_hidden o vs

sound_node : (o : SortOrder) (p : ℕ) (vs : List Value) → is_production o p ≡ true → AllByRecursion (IsSoundValue o) vs → IsSoundValue o (Node p vs)
sound_node o p vs number all =
    record { formed = is_well_formed-Node p vs ∙ each_formed o vs all; in_range = range_Node o p vs ∙ joins _ _ number (all_in_range o vs all) }

sound_items : (o : SortOrder) (p : ℕ) (vs : List Value) → is_production o p ≡ true → AllByRecursion (IsSoundValue o) vs → IsSoundValue o (Items p vs)
sound_items o p vs number all =
    record { formed = is_well_formed-Items p vs ∙ each_formed o vs all; in_range = range_Items o p vs ∙ joins _ _ number (all_in_range o vs all) }

pub sound_seq : (o : SortOrder) (vs : List Value) → AllByRecursion (IsSoundValue o) vs → IsSoundValue o (Seq vs)
sound_seq o vs all = record { formed = is_well_formed-Seq vs ∙ each_formed o vs all; in_range = range_Seq o vs ∙ all_in_range o vs all }

sound_either : (o : SortOrder) (b : Bool) (one other : Value) → IsSoundValue o one → IsSoundValue o other → IsSoundValue o (cond b one other)
sound_either o true one other is also = is
sound_either o false one other is also = also

sound_at : (o : SortOrder) (sort : ℕ) (v : Value) → IsSoundValue o v → IsSoundValue o (at_sort sort v)
sound_at o sort v is = sound_either o (sort == sort_k) (Seq (v ∷ [])) v (sound_seq o (v ∷ []) (is, tt)) is

-- ---- numbers of productions

there_by : {X : Type 0} (b : Bool) (found : Option X) (x : X) → cond b None found ≡ Some x → (b ≡ false) × (found ≡ Some x)
there_by true found x e = cc
there_by false found x e = (refl, e)

number_in : (g : Syntax) (p : ℕ) (production : Production) → length g.prods ≤ g.declared → production_at g.prods p ≡ Some production → is_production (order_of g) p ≡ true
number_in g p production all e =
    let there = there_by (p == 0) (slice_get g.prods (p - 1)) production e in
    let within = slice_get_within g.prods (p - 1) production there.1 in
    let size : length (map (λ (one : Production). one.sort) (take g.declared g.prods)) ≡ length g.prods =
    length-map (take g.declared g.prods) (λ (one : Production). one.sort) ∙ ap length (take_all g.declared g.prods all) in
    joins (not (p == 0)) (nat_le p (length (order_of g).productions)) (ap not there.0) (le-leb p (length (order_of g).productions) (omega (arith, within, size)))

all_more : {X : Type 0} (P : X → Type 0) (xs : List X) (x : X) → AllByRecursion P xs → P x → AllByRecursion P (xs ++ x ∷ [])
all_more P [] x all p = (p, tt)
all_more P (y ∷ xs) x all p = (all.0, all_more P xs x all.1 p)

-- ---- readings

module _ (g : Syntax) (words : List Word) (all_declared : length g.prods ≤ g.declared) (literals : (at : ℕ) → IsSoundValue (order_of g) (literal_at words at)) where
  abbrev IsGood : Shape → Type 0
  IsGood shape = (sort : ℕ) → IsSoundValue (order_of g) (value_of g.prods words sort shape)

  good_leaf : (at : ℕ) → IsGood (Leaf at)
  unfolding value_of
  good_leaf at sort = sound_at (order_of g) sort (literal_at words at) (literals at)

  values_good : (sorts : List ℕ) (shapes : List Shape) → AllByRecursion IsGood shapes → AllByRecursion (IsSoundValue (order_of g)) (values_by g.prods words sorts shapes)
  unfolding values_by
  values_good sorts [] all = tt
  values_good [] (shape ∷ shapes) all = (all.0 sort_kitem, values_good [] shapes all.1)
  values_good (sort ∷ sorts) (shape ∷ shapes) all = (all.0 sort, values_good sorts shapes all.1)

  elements_good : (sort : ℕ) (shapes : List Shape) → AllByRecursion IsGood shapes → AllByRecursion (IsSoundValue (order_of g)) (elements_by g.prods words sort shapes)
  elements_good sort [] all = tt
  elements_good sort (shape ∷ shapes) all = (all.0 sort, elements_good sort shapes all.1)

  good_node : (p : ℕ) (production : Production) (shapes : List Shape) → production_at g.prods p ≡ Some production → AllByRecursion IsGood shapes → IsGood (NodeS p shapes)
  good_node p production shapes there all sort =
      subst (IsSoundValue (order_of g)) (sym (value-Node g.prods words sort p shapes))
      (sound_at (order_of g) sort _ (sound_node (order_of g) p _ (number_in g p production all_declared there) (values_good (sorts_of g.prods p) shapes all)))

  good_items : (p : ℕ) (production : Production) (shapes : List Shape) (rest : Option ℕ) → production_at g.prods p ≡ Some production → AllByRecursion IsGood shapes → IsGood (ItemsS p shapes rest)
  good_items p production shapes rest there all sort =
      let values = elements_by g.prods words (first_or_item (sorts_of g.prods p)) shapes in
      let sound = elements_good (first_or_item (sorts_of g.prods p)) shapes all in
      subst (IsSoundValue (order_of g)) (sym (value-Items g.prods words sort p shapes rest))
      (sound_either (order_of g) (p == 0) (Seq values) (at_sort sort (Items p values)) (sound_seq (order_of g) values sound)
      (sound_at (order_of g) sort (Items p values) (sound_items (order_of g) p values (number_in g p production all_declared there) sound)))

  good_sequence : (shapes : List Shape) (rest : Option ℕ) → AllByRecursion IsGood shapes → IsGood (ItemsS 0 shapes rest)
  good_sequence shapes rest all sort =
      subst (IsSoundValue (order_of g)) (sym (value-Items g.prods words sort 0 shapes rest))
      (sound_seq (order_of g) _ (elements_good (first_or_item (sorts_of g.prods 0)) shapes all))

  mutual
    reads_good : (p from past : ℕ) (shape : Shape) → Reads g words p from past shape → IsGood shape
    reads_good _ _ _ _ (reads_plain p from past production shapes shape plain bracket parts is) =
        subst IsGood (sym is) (good_node p production shapes plain.is (parts_good _ _ _ _ _ _ parts))
    reads_good _ _ _ _ (reads_bracket p from past production shape plain bracket parts) = (parts_good _ _ _ _ _ _ parts).0
    reads_good _ _ _ _ (reads_list p from past element separator shapes shape list elements alone is) =
        subst IsGood (sym is) (good_items p list.production shapes None list.is (list_good _ _ _ _ _ _ elements))
    reads_good _ _ _ _ (reads_rest p from at next element separator first shapes shape list elements between word is) =
        subst IsGood (sym is) (good_items p list.production (first ∷ shapes) (Some next) list.is (list_good _ _ _ _ _ _ elements))
    reads_good _ _ _ _ (reads_empty p at element separator shape list word is) = subst IsGood (sym is) (good_items p list.production [] None list.is tt)

    parts_good : (p : ℕ) (production : Production) (count from past : ℕ) (shapes : List Shape) → Parts g words p production count from past shapes → AllByRecursion IsGood shapes
    parts_good _ _ _ _ _ _ (no_item p production from) = tt
    parts_good _ _ _ _ _ _ (terminal_item p production count from at shapes text parts item word) = parts_good _ _ _ _ _ _ parts
    parts_good _ _ _ _ _ _ (sort_item p production count from at past shapes sort shape parts item child) =
        all_more IsGood shapes shape (parts_good _ _ _ _ _ _ parts) (child_good _ _ _ _ _ child)

    list_good : (p sort : ℕ) (separator : List ℕ) (from past : ℕ) (shapes : List Shape) → Elements g words p sort separator from past shapes → AllByRecursion IsGood shapes
    list_good _ _ _ _ _ _ (no_element p sort separator from) = tt
    list_good _ _ _ _ _ _ (first_element p sort separator from past shape child) = (child_good _ _ _ _ _ child, tt)
    list_good _ _ _ _ _ _ (next_element p sort separator from at next past first shapes shape elements between child) =
        all_more IsGood (first ∷ shapes) shape (list_good _ _ _ _ _ _ elements) (child_good _ _ _ _ _ child)

    child_good : (place : Option (ℕ × ℕ)) (sort from past : ℕ) (shape : Shape) → Child g words place sort from past shape → IsGood shape
    child_good _ _ _ _ _ (stands_leaf place sort at own shape leaf fits is) = subst IsGood (sym is) (good_leaf at)
    child_good _ _ _ _ _ (stands_wild place sort at shape wild named is) = subst IsGood (sym is) (good_leaf at)
    child_good _ _ _ _ _ (stands_token place sort at shape asked is) = subst IsGood (sym is) (good_leaf at)
    child_good _ _ _ _ _ (stands_reading place sort from past p production shape reads there fits may takes) = reads_good _ _ _ _ reads
    child_good _ _ _ _ _ (stands_nothing place sort at shape is_k word is) = subst IsGood (sym is) (good_sequence [] None tt)
    child_good _ _ _ _ _ (stands_sequence place sort from at first second shapes shape is_k rules opens parts closes is) =
        subst IsGood (sym is) (good_sequence (first ∷ second ∷ shapes) None (sequence_good _ _ _ parts))

    sequence_good : (from past : ℕ) (shapes : List Shape) → Sequence g words from past shapes → AllByRecursion IsGood shapes
    sequence_good _ _ _ (one_part from past shape joined) = (joins_good _ _ _ joined, tt)
    sequence_good _ _ _ (next_part from at past shapes shape parts arrow joined) = all_more IsGood shapes shape (sequence_good _ _ _ parts) (joins_good _ _ _ joined)

    joins_good : (from past : ℕ) (shape : Shape) → Joins g words from past shape → IsGood shape
    joins_good _ _ _ (joins_item from past shape child) = child_good _ _ _ _ _ child
    joins_good _ _ _ (joins_variable at shape word is) = subst IsGood (sym is) (good_leaf at)

  pub reading_good : (sort past : ℕ) (shape : Shape) → Child g words None sort 0 past shape → (at : ℕ) → IsSoundValue (order_of g) (value_of g.prods words at shape)
  reading_good sort past shape child = child_good None sort 0 past shape child
