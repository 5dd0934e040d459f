-- What is read at a sort of contents is known: its parts are good.
use Rattle.std.proofs.Common.{◌≡◌, inl, inr, ℕ, zero, suc, ◌+◌, ◌≤◌, Bool, true, false, cond, ◌||◌, List, [], ◌∷◌, ◌++◌, map, take, length, append-nil, Option, Some, None, refl, sym, ap, subst, ◌∙◌, arith, add-one}
use Rattle.std.proofs.lemmas.Bool.{ne_eqb}
use Rattle.std.proofs.lemmas.List.{take_all}
use Rattle.std.specs.Prelude.{slice_get}
use Rattle.std.specs.List.{AllByRecursion, flat_map, list_any}
use Rattle.k_terms.specs.Sorts.{Below, sort_k, sort_kitem}
use Rattle.grammar_terms.specs.declared.production.Part.{Part as ItemPart}
use Rattle.grammar_terms.specs.declared.production.Part.TheVariants.{Terminal, Sort}
use Rattle.grammar_terms.specs.declared.production.Production.{Production}
use Rattle.grammar_terms.specs.declared.shape.Shape.{Shape, Leaf, Node, Items}
use Rattle.grammar_terms.specs.declared.word.Word.{Word}
use Rattle.grammar_terms.specs.Grammar.{Syntax, production_at, order_of, is_list}
use Rattle.grammar_terms.specs.Reading.{item_sort, Fits, IsListOf, Reads, reads_plain, reads_bracket, reads_list, reads_rest, reads_empty, Parts, no_item, terminal_item, sort_item, Elements, no_element, first_element, next_element, Child, stands_leaf, stands_wild, stands_token, stands_reading, stands_nothing, stands_sequence}
use Rattle.grammar_terms.specs.Values.{sorts_in}
use Rattle.rule_terms.specs.declared.defs.Kind.{Kind}
use Rattle.rule_contents.specs.Operators.{is_of_contents, is_operator, said_of_left, has_operator}
use Rattle.rule_parts.specs.declared.parts.Part.{Part}
use Rattle.rule_parts.specs.declared.parts.Side.{Side as Stands}
use Rattle.rule_parts.specs.Parts.{role_of, value_parts, entry_parts, parts_in, parts_by}
use Rattle.sound_patterns.proofs.Terms.{AllNumbers}
use Rattle.sound_patterns.proofs.Readings.{all_more, numbers-Leaf, HasTerms, child_term}
use Rattle.sound_patterns.proofs.PartLayers.{parts-Leaf, parts-Node, parts-Items}
use Rattle.sound_patterns.proofs.OperatorLayers.{left-Node, left-Items}
use Rattle.sound_patterns.proofs.Roles.{IsPartSort, entry_sort, IsOfContents}
use Rattle.sound_patterns.proofs.Parts.{Children, second_false, AreGood, IsKnown, none_good, two_good, more_good, weaker, role_good, value_good, entry-Node}

-- ---- the sorts of a production's items

sorts_more : (xs ys : List ItemPart) → sorts_in (xs ++ ys) ≡ sorts_in xs ++ sorts_in ys
sorts_more [] ys = refl
sorts_more (Terminal text ∷ xs) ys = sorts_more xs ys
sorts_more (Sort sort ∷ xs) ys = ap (λ sorts. sort ∷ sorts) (sorts_more xs ys)

item_taken : (items : List ItemPart) (n : ℕ) (item : ItemPart) → slice_get items n ≡ Some item → take (suc n) items ≡ take n items ++ item ∷ []
item_taken [] n item e = absurd (let f : None ≡ Some item = e in cc)
item_taken (first ∷ items) zero item e = let same : first ≡ item = cc in ap (λ it. it ∷ []) same
item_taken (first ∷ items) (suc n) item e = ap (λ its. first ∷ its) (item_taken items n item e)

sorts_taken : (items : List ItemPart) (n : ℕ) (item : ItemPart) → slice_get items n ≡ Some item → sorts_in (take (n + 1) items) ≡ sorts_in (take n items) ++ sorts_in (item ∷ [])
sorts_taken items n item e = ap (λ m. sorts_in (take m items)) (add-one n) ∙ ap sorts_in (item_taken items n item e) ∙ sorts_more (take n items) (item ∷ [])

children_more : (P : ℕ → Shape → Type 0) (sorts : List ℕ) (sort : ℕ) (shapes : List Shape) (shape : Shape) → Children P sorts shapes → P sort shape
    → Children P (sorts ++ sort ∷ []) (shapes ++ shape ∷ [])
children_more P [] sort [] shape known is = (is, tt)
children_more P [] sort (one ∷ shapes) shape known is = absurd known
children_more P (first ∷ sorts) sort [] shape known is = absurd known
children_more P (first ∷ sorts) sort (one ∷ shapes) shape known is = (known.0, children_more P sorts sort shapes shape known.1 is)

-- ---- readings

module _ (g : Syntax) (kind : Kind) (n : ℕ) (node list : ℕ → Type 0) (content : Syntax) (words : List Word)
    (terms : HasTerms content n node list)
    (high : (own sort : ℕ) → Below (order_of content) own sort → n ≤ sort → own ≡ sort)
    (contents : (p : ℕ) (production : Production) → production_at content.prods p ≡ Some production → n ≤ production.sort
    → (is_of_contents g p ≡ true) × IsOfContents n (role_of kind (length g.prods) p) production) where
  abbrev pub IsTerm : Shape → Type 0
  IsTerm shape = AllNumbers node list shape

  abbrev pub Good : Stands → Bool → List (Part Shape) → Type 0
  Good on operator parts = AreGood g kind n (length g.prods) IsTerm on operator parts

  abbrev pub Known : ℕ → Shape → Type 0
  Known sort shape = IsKnown g kind n (length g.prods) IsTerm sort shape

  abbrev GoodAt : Shape → Type 0
  GoodAt shape = (on : Stands) → Good on (has_operator g shape) (parts_in kind (length g.prods) on shape)

  abbrev GoodBehind : Shape → Type 0
  GoodBehind shape = (on : Stands) (key : Shape) → IsTerm key → Good on (has_operator g key || has_operator g shape) (entry_parts kind (length g.prods) on key shape)

  -- what is known of a shape that a production of contents reads
  record IsHigh (shape : Shape) : Type 0 where
    parts : GoodAt shape
    entry : GoodBehind shape

  -- ---- sorts

  fits_high : (own sort : ℕ) → Fits content own sort → n ≤ sort → own ≡ sort
  fits_high own sort (inl below) above =
      let same : item_sort sort ≡ sort =
      ap (λ b. cond b sort_kitem sort) (ne_eqb sort sort_k (λ e. let some : 2 ≤ n = terms.some in absurd (omega (arith, e, above, some)))) in
      high own sort (subst (Below (order_of content) own) same below) above
  fits_high own sort (inr same) above = same

  not_low : {P : Type 0} (sort : ℕ) → sort ≡ sort_k → n ≤ sort → P
  not_low sort is above = let some : 2 ≤ n = terms.some in absurd (omega (arith, is, above, some))

  part_above : (sort : ℕ) → IsPartSort n sort → n ≤ sort
  part_above sort is = is.0

  entry_above : (sort : ℕ) → sort ≡ entry_sort n → n ≤ sort
  entry_above sort is = omega (arith, is)

  -- ---- shapes

  leaf_known : (sort at : ℕ) (shape : Shape) → shape ≡ Leaf at → Known sort shape
  leaf_known sort at shape is =
      subst (Known sort) (sym is)
      (record {
        term = λ low. numbers-Leaf node list at;
        parts = λ part on. subst (Good on (has_operator g (Leaf at))) (sym (parts-Leaf kind (length g.prods) on at)) (none_good g kind n (length g.prods) IsTerm on (has_operator g (Leaf at)));
        entry = λ same on key term. none_good g kind n (length g.prods) IsTerm on (has_operator g key || has_operator g (Leaf at));
      })

  last_said : (a b c : Bool) → (a || (b || c)) ≡ false → (a || c) ≡ false
  last_said true b c e = absurd (let f : true ≡ false = e in cc)
  last_said false b c e = second_false b c e

  node_high : (p : ℕ) (production : Production) (shapes : List Shape) → is_of_contents g p ≡ true → IsOfContents n (role_of kind (length g.prods) p) production
      → Children Known (sorts_in production.items) shapes → IsHigh (Node p shapes)
  node_high p production shapes of is known =
      let role = role_of kind (length g.prods) p in
      let said = said_of_left true (map (has_operator g) shapes) in
      let operator : has_operator g (Node p shapes) ≡ (is_operator g p || said) =
      left-Node g p shapes ∙ ap (λ b. is_operator g p || said_of_left b (map (has_operator g) shapes)) of in
      record {
        parts = λ on.
            subst (λ b. Good on b (parts_in kind (length g.prods) on (Node p shapes))) (sym operator)
            (subst (Good on (is_operator g p || said)) (sym (parts-Node kind (length g.prods) on p shapes))
            (more_good g kind n (length g.prods) IsTerm on (is_operator g p) said (parts_by kind (length g.prods) role on shapes)
            (role_good g kind n (length g.prods) IsTerm is.suits on shapes known)));
        entry = λ on key term.
            subst (λ b. Good on (has_operator g key || b) (entry_parts kind (length g.prods) on key (Node p shapes))) (sym operator)
            (subst (Good on (has_operator g key || (is_operator g p || said))) (sym (entry-Node g kind n (length g.prods) IsTerm on key p shapes))
            (weaker g kind n (length g.prods) IsTerm on (has_operator g key || said) (has_operator g key || (is_operator g p || said)) (value_parts role on key shapes)
            (λ e. last_said (has_operator g key) (is_operator g p) said e)
            (value_good g kind n (length g.prods) IsTerm is.suits on key term shapes known)));
      }

  many_good : (on : Stands) (shapes : List Shape) → AllByRecursion GoodAt shapes → Good on (list_any (has_operator g) shapes) (flat_map (parts_in kind (length g.prods) on) shapes)
  many_good on [] all = none_good g kind n (length g.prods) IsTerm on false
  many_good on (shape ∷ shapes) all =
      two_good g kind n (length g.prods) IsTerm on (has_operator g shape) (list_any (has_operator g) shapes) (parts_in kind (length g.prods) on shape)
      (flat_map (parts_in kind (length g.prods) on) shapes) (all.0 on) (many_good on shapes all.1)

  items_high : (p : ℕ) (shapes : List Shape) (rest : Option ℕ) → AllByRecursion GoodAt shapes → IsHigh (Items p shapes rest)
  items_high p shapes rest all = record {
    parts = λ on.
        subst (λ b. Good on b (parts_in kind (length g.prods) on (Items p shapes rest))) (sym (left-Items g p shapes rest))
        (subst (Good on (list_any (has_operator g) shapes)) (sym (parts-Items kind (length g.prods) on p shapes rest)) (many_good on shapes all));
    entry = λ on key term. none_good g kind n (length g.prods) IsTerm on (has_operator g key || has_operator g (Items p shapes rest));
  }

  -- ---- readings

  abbrev IsAbove : ℕ → Type 0
  IsAbove p = (production : Production) → production_at content.prods p ≡ Some production → n ≤ production.sort

  same_production : (p : ℕ) (one other : Production) → production_at content.prods p ≡ Some one → production_at content.prods p ≡ Some other → one ≡ other
  same_production p one other first second = let e : Some one ≡ Some other = sym first ∙ second in cc

  list_high : (p element : ℕ) (separator : List ℕ) (shapes : List Shape) (rest : Option ℕ) (shape : Shape) → IsListOf content.prods p element separator → IsAbove p
      → (IsPartSort n element → AllByRecursion GoodAt shapes) → shape ≡ Items p shapes rest → IsHigh shape
  list_high p element separator shapes rest shape of above all is =
      let own = contents p of.production of.is (above of.production of.is) in
      let elements = subst (λ items. AllByRecursion (IsPartSort n) (sorts_in items)) of.element (own.1.elements (ap is_list of.form)) in
      subst IsHigh (sym is) (items_high p shapes rest (all elements.0))

  mutual
    reads_high : {p from past : ℕ} {shape : Shape} → Reads content words p from past shape → IsAbove p → IsHigh shape
    reads_high (reads_plain p from past production shapes shape plain no_bracket parts is) above =
        let own = contents p production plain.is (above production plain.is) in
        subst IsHigh (sym is)
        (node_high p production shapes own.0 own.1
        (subst (λ items. Children Known (sorts_in items) shapes) (take_all (length production.items) production.items (omega arith)) (parts_known parts)))
    reads_high (reads_bracket p from past production shape plain bracket parts) above =
        let own = contents p production plain.is (above production plain.is) in
        absurd (let f : true ≡ false = sym bracket ∙ own.1.no_bracket in cc)
    reads_high (reads_list p from past element separator shapes shape of elements wild is) above =
        list_high p element separator shapes None shape of above (λ part. elements_good elements part) is
    reads_high (reads_rest p from at next element separator first shapes shape of elements between rest is) above =
        list_high p element separator (first ∷ shapes) (Some next) shape of above (λ part. elements_good elements part) is
    reads_high (reads_empty p at element separator shape of empty is) above = list_high p element separator [] None shape of above (λ part. tt) is

    parts_known : {p : ℕ} {production : Production} {count from at : ℕ} {shapes : List Shape} → Parts content words p production count from at shapes
        → Children Known (sorts_in (take count production.items)) shapes
    parts_known (no_item p production from) = tt
    parts_known (terminal_item p production count from at shapes text parts item here) =
        subst (λ sorts. Children Known sorts shapes) (sym (sorts_taken production.items count (Terminal text) item ∙ append-nil (sorts_in (take count production.items)))) (parts_known parts)
    parts_known (sort_item p production count from at past shapes sort shape parts item child) =
        subst (λ sorts. Children Known sorts (shapes ++ shape ∷ [])) (sym (sorts_taken production.items count (Sort sort) item))
        (children_more Known (sorts_in (take count production.items)) sort shapes shape (parts_known parts) (child_known child))

    elements_good : {p sort : ℕ} {separator : List ℕ} {from past : ℕ} {shapes : List Shape} → Elements content words p sort separator from past shapes → IsPartSort n sort
        → AllByRecursion GoodAt shapes
    elements_good (no_element p sort separator from) part = tt
    elements_good (first_element p sort separator from past shape child) part = ((child_known child).parts part, tt)
    elements_good (next_element p sort separator from at next past first shapes shape elements between child) part =
        all_more GoodAt (first ∷ shapes) shape (elements_good elements part) ((child_known child).parts part)

    pub child_known : {place : Option (ℕ × ℕ)} {sort from past : ℕ} {shape : Shape} → Child content words place sort from past shape → Known sort shape
    child_known (stands_leaf place sort at own shape leaf fits is) = leaf_known sort at shape is
    child_known (stands_wild place sort at shape wild named is) = leaf_known sort at shape is
    child_known (stands_token place sort at shape asked is) = leaf_known sort at shape is
    child_known (stands_reading place sort from past p production shape reads at fits may takes) =
        let above : n ≤ sort → IsAbove p = λ up other is.
        subst (λ m. n ≤ m) (sym (ap (λ (it : Production). it.sort) (same_production p other production is at) ∙ fits_high production.sort sort fits up)) up in
        record {
          term = λ low. child_term content words n node list terms (stands_reading place sort from past p production shape reads at fits may takes) low;
          parts = λ part on. (reads_high reads (above (part_above sort part))).parts on;
          entry = λ same on key term. (reads_high reads (above (entry_above sort same))).entry on key term;
        }
    child_known (stands_nothing place sort at shape k empty is) = record {
      term = λ low. child_term content words n node list terms (stands_nothing place sort at shape k empty is) low;
      parts = λ part on. not_low sort k (part_above sort part);
      entry = λ same on key term. not_low sort k (entry_above sort same);
    }
    child_known (stands_sequence place sort from at first second shapes shape k rules opens parts closes is) = record {
      term = λ low. child_term content words n node list terms (stands_sequence place sort from at first second shapes shape k rules opens parts closes is) low;
      parts = λ part on. not_low sort k (part_above sort part);
      entry = λ same on key term. not_low sort k (entry_above sort same);
    }
