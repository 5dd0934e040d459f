-- What is read as a content has parts whose items and expressions are of their sorts, and a single value is there.
use Rattle.std.proofs.Common.{◌≡◌, inl, inr, ℕ, ◌<◌, ◌≤◌, true, false, cond, List, [], ◌∷◌, ◌++◌, take, length, Option, Some, None, sym, ap, subst, ◌∙◌, arith}
use Rattle.std.proofs.lemmas.Bool.{ne_eqb}
use Rattle.std.proofs.lemmas.List.{take_all}
use Rattle.std.specs.Prelude.{slice_get}
use Rattle.std.specs.List.{AllByRecursion, flat_map}
use Rattle.k_terms.specs.Sorts.{Below, sort_k, sort_kitem}
use Rattle.grammar_terms.specs.declared.production.Production.{Production}
use Rattle.grammar_terms.specs.declared.shape.Shape.{Shape, Leaf, Items}
use Rattle.grammar_terms.specs.declared.word.Word.{Word}
use Rattle.grammar_terms.specs.Builtins.{with_builtins}
use Rattle.grammar_terms.specs.Grammar.{Syntax, production_at, order_of, is_list}
use Rattle.grammar_terms.specs.Reading.{item_sort, Fits, IsListOf, Reads, reads_plain, reads_bracket, reads_list, reads_rest, reads_empty, Parts, no_item, terminal_item, sort_item, Elements, no_element, first_element, next_element, Child, stands_leaf, stands_wild, stands_token, stands_reading, stands_nothing, stands_sequence}
use Rattle.grammar_terms.specs.Values.{sorts_in}
use Rattle.sorted_grammar.specs.Marks.{AreInside}
use Rattle.rule_terms.specs.declared.defs.Kind.{Kind}
use Rattle.rule_terms.specs.declared.defs.Kind.TheVariants.{One as OneKind}
use Rattle.rule_contents.specs.Contents.{numbers_of, content_prods, with_content}
use Rattle.rule_parts.specs.declared.parts.Part.{Part}
use Rattle.rule_parts.specs.declared.parts.Side.{Side as Stands}
use Rattle.rule_parts.specs.Parts.{roles, role_among, role_of, parts_in}
use Rattle.sound_sequences.proofs.Builtins.{has_sorts}
use Rattle.sound_sequences.proofs.Sides.{get_has}
use Rattle.sound_sequences.proofs.Unmade.{with_terminal, with_sort}
use Rattle.sound_patterns.proofs.PartLayers.{parts-Leaf, parts-Node, parts-Items}
use Rattle.sound_patterns.proofs.Parts.{Children, both_of}
use Rattle.sound_patterns.proofs.Readings.{all_more}
use Rattle.sound_patterns.proofs.Roles.{IsPartSort, IsOfContents}
use Rattle.sound_patterns.proofs.Operators.{either_at}
use Rattle.sound_patterns.proofs.Grammars.{numbered, content_high, contents_known}
use Rattle.sound_kinds.proofs.BaseSorts.{IsBase, AreOwn}
use Rattle.sound_kinds.proofs.ValueShapes.{IsValue, child_value}
use Rattle.sound_kinds.proofs.ValueRoles as roles_of
use Rattle.sound_kinds.proofs.ValueRoles.{item_want, made_want, IsExact, IsLone, PairedBy, paired_by, exact_paired, lone_paired, role_is, role_right}

children_more : (P : ℕ → Shape → Type 0) (sorts : List ℕ) (sort : ℕ) (shapes : List Shape) (shape : Shape) → Children P sorts shapes → P sort shape
    → Children P (sorts ++ sort ∷ []) (shapes ++ shape ∷ [])
children_more P [] sort [] shape known is = (is, tt)
children_more P [] sort (one ∷ shapes) shape known is = absurd known
children_more P (first ∷ sorts) sort [] shape known is = absurd known
children_more P (first ∷ sorts) sort (one ∷ shapes) shape known is = (known.0, children_more P sorts sort shapes shape known.1 is)

module _ (base : Syntax) (inside : AreInside base) (whole : base.declared ≤ length base.prods) (own : AreOwn base.prods) (kind : Kind)
    (named : (sort : ℕ) → kind ≡ OneKind sort → sort < length base.names) (items_base : (sort : ℕ) → item_want kind ≡ Some sort → IsBase sort)
    (made_base : (sort : ℕ) → made_want kind ≡ Some sort → IsBase sort) (words : List Word) where
  abbrev n : ℕ
  n = length base.names

  abbrev pub g : Syntax
  g = with_builtins base

  abbrev pub content : Syntax
  content = with_content g kind

  abbrev pub Val : ℕ → Shape → Type 0
  Val sort shape = IsValue words base.declared sort shape

  abbrev pub AreRight : List (Part Shape) → Type 0
  AreRight parts = roles_of.AreRight Val kind n (length g.prods) items_base made_base parts

  abbrev pub Known : ℕ → Shape → Type 0
  Known sort shape = roles_of.IsKnown Val kind n (length g.prods) items_base made_base sort shape

  abbrev IsRightAt : Shape → Type 0
  IsRightAt shape = (on : Stands) → AreRight (parts_in kind (length g.prods) on shape)

  -- ---- productions of contents

  front_low : (i : ℕ) (it : Production) → slice_get g.prods i ≡ Some it → it.sort < n
  front_low i it there = (has_sorts base inside whole).sort it (get_has g.prods i it there)

  -- a production of a sort without a name is one of contents, and has its role
  pub content_at : (p : ℕ) (production : Production) → production_at content.prods p ≡ Some production → n ≤ production.sort
      → (j : ℕ) × (slice_get (content_prods (numbers_of g) kind) j ≡ Some production) × (role_of kind (length g.prods) p ≡ role_among (roles kind) j)
  content_at p production e high =
      let at = numbered content.prods p production e in
      elim (either_at g.prods (content_prods (numbers_of g) kind) at.0 production at.2) [
        | inl front ↦ absurd (let low : production.sort < n = front_low at.0 production front.1 in omega (arith, low, high))
        | inr found ↦
            let first = at.1 in
            let second = found.1 in
            (found.0, found.2, role_is kind (length g.prods) p found.0 (omega (arith, first, second)))
      ]

  pub paired_there : (P : _) → PairedBy P (roles kind) (content_prods (numbers_of g) kind) → (p : ℕ) (production : Production) → production_at content.prods p ≡ Some production
      → n ≤ production.sort → P (role_of kind (length g.prods) p) (sorts_in production.items)
  paired_there P all p production e high =
      let at = content_at p production e high in
      subst (λ role. P role (sorts_in production.items)) (sym at.2) (paired_by P (roles kind) (content_prods (numbers_of g) kind) at.0 production all at.1)

  exact_there : (p : ℕ) (production : Production) → production_at content.prods p ≡ Some production → n ≤ production.sort
      → IsExact kind (role_of kind (length g.prods) p) (sorts_in production.items)
  exact_there p production e high = paired_there (IsExact kind) (exact_paired g kind) p production e high

  same_production : (p : ℕ) (one other : Production) → production_at content.prods p ≡ Some one → production_at content.prods p ≡ Some other → one ≡ other
  same_production p one other first second = let e : Some one ≡ Some other = sym first ∙ second in cc

  -- ---- sorts

  pub fits_high : (lower sort : ℕ) → Fits content lower sort → n ≤ sort → lower ≡ sort
  fits_high lower sort (inl below) above =
      let some = inside.some in
      let same : item_sort sort ≡ sort = ap (λ b. cond b sort_kitem sort) (ne_eqb sort sort_k (λ e. absurd (omega (arith, e, above, some)))) in
      content_high base inside whole kind named lower sort (subst (Below (order_of content) lower) same below) above
  fits_high lower sort (inr same) above = same

  not_low : {P : Type 0} (sort : ℕ) → sort ≡ sort_k → n ≤ sort → P
  not_low sort is above = let some = inside.some in absurd (omega (arith, is, above, some))

  -- ---- shapes

  leaf_right : (at : ℕ) (shape : Shape) → shape ≡ Leaf at → IsRightAt shape
  leaf_right at shape is on = subst (λ it. AreRight (parts_in kind (length g.prods) on it)) (sym is) (subst AreRight (sym (parts-Leaf kind (length g.prods) on at)) tt)

  many_right : (on : Stands) (shapes : List Shape) → AllByRecursion IsRightAt shapes → AreRight (flat_map (parts_in kind (length g.prods) on) shapes)
  many_right on [] all = tt
  many_right on (shape ∷ shapes) all =
      both_of (λ (it : Part Shape). roles_of.IsRight Val kind n (length g.prods) items_base made_base it.what) (parts_in kind (length g.prods) on shape) (flat_map (parts_in kind (length g.prods) on) shapes)
      (all.0 on) (many_right on shapes all.1)

  items_right : (p : ℕ) (shapes : List Shape) (rest : Option ℕ) (shape : Shape) → AllByRecursion IsRightAt shapes → shape ≡ Items p shapes rest → IsRightAt shape
  items_right p shapes rest shape all is on =
      subst (λ it. AreRight (parts_in kind (length g.prods) on it)) (sym is) (subst AreRight (sym (parts-Items kind (length g.prods) on p shapes rest)) (many_right on shapes all))

  -- ---- readings

  abbrev IsAbove : ℕ → Type 0
  IsAbove p = (production : Production) → production_at content.prods p ≡ Some production → n ≤ production.sort

  known_of : (p : ℕ) (production : Production) → production_at content.prods p ≡ Some production → n ≤ production.sort → IsOfContents n (role_of kind (length g.prods) p) production
  known_of p production e high = (contents_known base inside whole kind named p production e high).1

  list_right : (p element : ℕ) (separator : List ℕ) (shapes : List Shape) (rest : Option ℕ) (shape : Shape) → IsListOf content.prods p element separator → IsAbove p
      → (n ≤ element → AllByRecursion IsRightAt shapes) → shape ≡ Items p shapes rest → IsRightAt shape
  list_right p element separator shapes rest shape of above all is =
      let says = known_of p of.production of.is (above of.production of.is) in
      let elements = subst (λ items. AllByRecursion (IsPartSort n) (sorts_in items)) of.element (says.elements (ap is_list of.form)) in
      items_right p shapes rest shape (all elements.0.0) is

  mutual
    reads_right : {p from past : ℕ} {shape : Shape} → Reads content words p from past shape → IsAbove p → IsRightAt shape
    reads_right (reads_plain p from past production shapes shape plain no_bracket parts is) above = λ on.
        let says = known_of p production plain.is (above production plain.is) in
        subst (λ it. AreRight (parts_in kind (length g.prods) on it)) (sym is)
        (subst AreRight (sym (parts-Node kind (length g.prods) on p shapes))
        (role_right Val kind n (length g.prods) items_base made_base says.suits (exact_there p production plain.is (above production plain.is)) on shapes
        (subst (λ items. Children Known (sorts_in items) shapes) (take_all (length production.items) production.items (omega arith)) (parts_known parts))))
    reads_right (reads_bracket p from past production shape plain bracket parts) above =
        let says = known_of p production plain.is (above production plain.is) in
        absurd (let f : true ≡ false = sym bracket ∙ says.no_bracket in cc)
    reads_right (reads_list p from past element separator shapes shape of elements wild is) above =
        list_right p element separator shapes None shape of above (λ high. elements_right elements high) is
    reads_right (reads_rest p from at next element separator first shapes shape of elements between rest is) above =
        list_right p element separator (first ∷ shapes) (Some next) shape of above (λ high. elements_right elements high) is
    reads_right (reads_empty p at element separator shape of empty is) above = list_right p element separator [] None shape of above (λ high. tt) is

    pub parts_known : {p : ℕ} {production : Production} {count from at : ℕ} {shapes : List Shape} → Parts content words p production count from at shapes
        → Children Known (sorts_in (take count production.items)) shapes
    parts_known (no_item p production from) = tt
    parts_known (terminal_item p production count from at shapes text parts item here) =
        subst (λ sorts. Children Known sorts shapes) (sym (with_terminal production count text item)) (parts_known parts)
    parts_known (sort_item p production count from at past shapes sort shape parts item child) =
        subst (λ sorts. Children Known sorts (shapes ++ shape ∷ [])) (sym (with_sort production count sort item))
        (children_more Known (sorts_in (take count production.items)) sort shapes shape (parts_known parts) (child_known child))

    elements_right : {p sort : ℕ} {separator : List ℕ} {from past : ℕ} {shapes : List Shape} → Elements content words p sort separator from past shapes → n ≤ sort
        → AllByRecursion IsRightAt shapes
    elements_right (no_element p sort separator from) high = tt
    elements_right (first_element p sort separator from past shape child) high = ((child_known child).parts high, tt)
    elements_right (next_element p sort separator from at next past first shapes shape elements between child) high =
        all_more IsRightAt (first ∷ shapes) shape (elements_right elements high) ((child_known child).parts high)

    pub child_known : {place : Option (ℕ × ℕ)} {sort from past : ℕ} {shape : Shape} → Child content words place sort from past shape → Known sort shape
    child_known (stands_leaf place sort at lower shape leaf fits is) = record {
      value = λ b. child_value base inside whole own kind named words (stands_leaf place sort at lower shape leaf fits is) b;
      parts = λ high. leaf_right at shape is;
    }
    child_known (stands_wild place sort at shape wild low is) = record {
      value = λ b. child_value base inside whole own kind named words (stands_wild place sort at shape wild low is) b;
      parts = λ high. leaf_right at shape is;
    }
    child_known (stands_token place sort at shape asked is) = record {
      value = λ b. child_value base inside whole own kind named words (stands_token place sort at shape asked is) b;
      parts = λ high. leaf_right at shape is;
    }
    child_known (stands_reading place sort from past p production shape reads at fits may takes) = record {
      value = λ b. child_value base inside whole own kind named words (stands_reading place sort from past p production shape reads at fits may takes) b;
      parts = λ high.
          reads_right reads (λ other is.
          subst (λ m. n ≤ m) (sym (ap (λ (it : Production). it.sort) (same_production p other production is at) ∙ fits_high production.sort sort fits high)) high);
    }
    child_known (stands_nothing place sort at shape k empty is) = record {
      value = λ b. child_value base inside whole own kind named words (stands_nothing place sort at shape k empty is) b;
      parts = λ high. not_low sort k high;
    }
    child_known (stands_sequence place sort from at first second shapes shape k rules opens parts closes is) = record {
      value = λ b. child_value base inside whole own kind named words (stands_sequence place sort from at first second shapes shape k rules opens parts closes is) b;
      parts = λ high. not_low sort k high;
    }
