-- What is read as a side of a sequence has no expression, and what is read as a side that becomes an expression has one on the right.
use Rattle.std.proofs.Common.{◌≡◌, ◌⊎◌, inl, inr, ℕ, zero, suc, ◌+◌, ◌-◌, ◌≤◌, Bool, true, false, cond, ◌==◌, List, [], ◌∷◌, ◌++◌, length, take, Option, Some, None, refl, sym, ap, subst, ◌∙◌, arith}
use Rattle.std.proofs.Math.Seq.{take-length}
use Rattle.std.proofs.lemmas.Bool.Decides.{nat_tests}
use Rattle.std.specs.Prelude.{nat_lt, slice_get}
use Rattle.std.specs.List.{AllByRecursion}
use Rattle.k_terms.specs.Sorts.{sort_k}
use Rattle.grammar_terms.specs.declared.production.Production.{Production}
use Rattle.grammar_terms.specs.declared.shape.Shape.{Shape, Leaf, Node}
use Rattle.grammar_terms.specs.declared.word.Word.{Word}
use Rattle.grammar_terms.specs.Grammar.{Syntax, production_at, is_list}
use Rattle.grammar_terms.specs.Places.{rewrite_place}
use Rattle.grammar_terms.specs.Reading.{IsListOf, Reads, Parts, Child}
use Rattle.grammar_terms.specs.Reading.Reads.{reads_plain, reads_bracket, reads_list, reads_rest, reads_empty}
use Rattle.grammar_terms.specs.Reading.Parts.{no_item, terminal_item, sort_item}
use Rattle.grammar_terms.specs.Reading.Child.{stands_leaf, stands_wild, stands_token, stands_reading, stands_nothing, stands_sequence}
use Rattle.grammar_terms.specs.Values.{sorts_in}
use Rattle.rule_terms.specs.declared.defs.Kind.TheVariants.{Seq as SeqKind}
use Rattle.rule_contents.specs.Contents.{numbers_of, seq_prods, with_content}
use Rattle.rule_parts.specs.declared.parts.Role.{Role}
use Rattle.rule_parts.specs.declared.parts.Role.TheVariants.{Nothing, Made as MadeRole}
use Rattle.rule_parts.specs.Productions.{productions_of}
use Rattle.rule_parts.specs.Parts.{roles, role_among, role_of, parts_in}
use Rattle.sound_sequences.proofs.NoMade.{HaveNoMade, HasNoMade, Spares, role_other, spares_by}
use Rattle.rule_parts.proofs.PartLayers.{parts-Leaf, parts-Node}
use Rattle.sound_sequences.proofs.Sides.{get_either, get_has, IsSideSort, IsOfSequence, of_sequence}
use Rattle.sound_sequences.proofs.Unmade.{HasSorts, with_terminal, with_sort, count_is, high_alone}

-- ---- shapes at sorts

module _ (n : ℕ) (P : Shape → Type 0) where
  -- each shape that stands at a side's sort is of this kind
  abbrev pub AtSides : List ℕ → List Shape → Type 0
  AtSides [] [] = Unit {0}
  AtSides (sort ∷ sorts) (shape ∷ shapes) = (IsSideSort n sort → P shape) × AtSides sorts shapes
  AtSides [] (shape ∷ shapes) = ⊥
  AtSides (sort ∷ sorts) [] = ⊥

  at_sides_more : (sorts : List ℕ) (shapes : List Shape) (sort : ℕ) (shape : Shape) → AtSides sorts shapes → (IsSideSort n sort → P shape)
      → AtSides (sorts ++ sort ∷ []) (shapes ++ shape ∷ [])
  at_sides_more [] [] sort shape all last = (last, tt)
  at_sides_more [] (first ∷ shapes) sort shape all last = absurd all
  at_sides_more (one ∷ sorts) [] sort shape all last = absurd all
  at_sides_more (one ∷ sorts) (first ∷ shapes) sort shape all last = (all.0, at_sides_more sorts shapes sort shape all.1 last)

  all_sides : (sorts : List ℕ) (shapes : List Shape) → AtSides sorts shapes → AllByRecursion (IsSideSort n) sorts → AllByRecursion P shapes
  all_sides [] [] all sides = tt
  all_sides [] (shape ∷ shapes) all sides = absurd all
  all_sides (sort ∷ sorts) [] all sides = tt
  all_sides (sort ∷ sorts) (shape ∷ shapes) all sides = (all.0 sides.0, all_sides sorts shapes all.1 sides.1)

module _ (g : Syntax) (has : HasSorts g) where
  abbrev n : ℕ
  n = length g.names

  abbrev all_prods : List Production
  all_prods = (with_content g SeqKind).prods

  abbrev arguments : ℕ
  arguments = length (productions_of g).arguments

  -- ---- productions of contents

  record IsContentAt (p : ℕ) (production : Production) : Type 0 where
    index : ℕ
    place : p ≡ length g.prods + 1 + index
    is : slice_get (seq_prods (numbers_of g)) index ≡ Some production

  numbered : (b : Bool) (p : ℕ) (o : Option Production) (production : Production) → cond b None o ≡ Some production → o ≡ Some production
  numbered true p o production e = absurd (let f : None ≡ Some production = e in cc)
  numbered false p o production e = e

  content_at : (p : ℕ) (production : Production) → production_at all_prods p ≡ Some production → n ≤ production.sort → IsContentAt p production
  content_at zero production e high = absurd (let f : None ≡ Some production = e in cc)
  content_at (suc q) production e high =
      let there : slice_get (g.prods ++ seq_prods (numbers_of g)) (suc q - 1) ≡ Some production = numbered (suc q == 0) (suc q) (slice_get all_prods (suc q - 1)) production e in
      elim (get_either g.prods (seq_prods (numbers_of g)) (suc q - 1) production there) [
        | inl front ↦ let less = has.sort production (get_has g.prods (suc q - 1) production front) in absurd (omega (arith, less, high))
        | inr behind ↦ let at = behind.1 in record { index = behind.0; place = omega (arith, at); is = behind.2 }
      ]

  role_at : (p index : ℕ) → p ≡ length g.prods + 1 + index → role_of SeqKind arguments p ≡ role_among (roles SeqKind) index
  role_at p index place =
      let size : arguments ≡ length g.prods = count_is g has in
      let over : nat_lt arguments p ≡ true = grind (arith, nat_tests) in
      let number : p - arguments - 1 ≡ index = omega (arith, size, place) in
      ap (λ b. cond b (role_among (roles SeqKind) (p - arguments - 1)) Nothing) over ∙ ap (role_among (roles SeqKind)) number

  production_says : (p : ℕ) (production : Production) → production_at all_prods p ≡ Some production → n ≤ production.sort
      → IsOfSequence n (role_of SeqKind arguments p) production
  production_says p production e high =
      let c = content_at p production e high in
      subst (λ (role : Role). IsOfSequence n role production) (sym (role_at p c.index c.place)) (of_sequence g has.few c.index production c.is)

  same_production : (p : ℕ) (one other : Production) → production_at all_prods p ≡ Some one → production_at all_prods p ≡ Some other → one ≡ other
  same_production p one other e f = let s : Some one ≡ Some other = sym e ∙ f in cc

  -- ---- what is read at a sort of contents

  -- no expression stands in a shape
  abbrev IsBare : Shape → Type 0
  IsBare shape = HasNoMade SeqKind arguments shape

  leaf_bare : (at : ℕ) (shape : Shape) → shape ≡ Leaf at → IsBare shape
  leaf_bare at shape is side =
      subst (λ (it : Shape). HaveNoMade (parts_in SeqKind arguments side it)) (sym is) (subst HaveNoMade (sym (parts-Leaf SeqKind arguments side at)) refl)

  plain_bare : (p : ℕ) (production : Production) (shapes : List Shape) (shape : Shape) → production_at all_prods p ≡ Some production → IsSideSort n production.sort
      → AtSides n IsBare (sorts_in (take (length production.items) production.items)) shapes → shape ≡ Node p shapes → IsBare shape
  plain_bare p production shapes shape e sort at is side =
      let says = production_says p production e sort.high in
      let items : sorts_in (take (length production.items) production.items) ≡ sorts_in production.items = ap sorts_in (take-length production.items) in
      let there : AtSides n IsBare (sorts_in production.items) shapes = subst (λ (ss : List ℕ). AtSides n IsBare ss shapes) items at in
      let spares : Spares (role_of SeqKind arguments p) (AllByRecursion IsBare shapes) =
      spares_by (role_of SeqKind arguments p) (AllByRecursion (IsSideSort n) (sorts_in production.items)) (AllByRecursion IsBare shapes)
      (λ sides. all_sides n IsBare (sorts_in production.items) shapes there sides) (says.spares sort.other) in
      subst (λ (it : Shape). HaveNoMade (parts_in SeqKind arguments side it)) (sym is)
      (subst HaveNoMade (sym (parts-Node SeqKind arguments side p shapes)) (role_other SeqKind arguments (role_of SeqKind arguments p) side shapes spares))

  -- no list and no bracket is a production of contents
  not_both : (b : Bool) → b ≡ true → b ≡ false → ⊥
  not_both b yes_is no_is = let f : true ≡ false = sym yes_is ∙ no_is in cc

  no_list : (p element : ℕ) (separator : List ℕ) (production : Production) → production_at all_prods p ≡ Some production → n ≤ production.sort
      → IsListOf all_prods p element separator → ⊥
  no_list p element separator production e high list =
      let says = production_says p production e high in
      let alike = same_production p list.production production list.is e in
      not_both (is_list production.form) (ap (λ (it : Production). is_list it.form) (sym alike) ∙ ap is_list list.form) says.no_list

  module _ (words : List Word) where
    mutual
      reads_bare : {p from past : ℕ} {shape : Shape} → Reads (with_content g SeqKind) words p from past shape → (production : Production)
          → production_at all_prods p ≡ Some production
          → IsSideSort n production.sort → IsBare shape
      reads_bare (reads_plain p from past own shapes shape plain no_bracket parts is) production e sort =
          let alike = same_production p production own e plain.is in
          plain_bare p own shapes shape plain.is (subst (λ (it : Production). IsSideSort n it.sort) alike sort) (parts_bare parts) is
      reads_bare (reads_bracket p from past own shape plain bracket parts) production e sort =
          let alike = same_production p production own e plain.is in
          absurd (not_both own.attrs.bracket bracket (production_says p own plain.is (subst (λ (it : Production). n ≤ it.sort) alike sort.high)).no_bracket)
      reads_bare (reads_list p from past element separator shapes shape list elements wild is) production e sort = absurd (no_list p element separator production e sort.high list)
      reads_bare (reads_rest p from at next element separator first shapes shape list elements between rest is) production e sort =
          absurd (no_list p element separator production e sort.high list)
      reads_bare (reads_empty p at element separator shape list empty is) production e sort = absurd (no_list p element separator production e sort.high list)

      parts_bare : {p : ℕ} {production : Production} {items from at : ℕ} {shapes : List Shape}
          → Parts (with_content g SeqKind) words p production items from at shapes
          → AtSides n IsBare (sorts_in (take items production.items)) shapes
      parts_bare (no_item p production from) = tt
      parts_bare (terminal_item p production items from at shapes text parts item here) =
          subst (λ (ss : List ℕ). AtSides n IsBare ss shapes) (sym (with_terminal production items text item)) (parts_bare parts)
      parts_bare (sort_item p production items from at past shapes sort shape parts item child) =
          subst (λ (ss : List ℕ). AtSides n IsBare ss (shapes ++ shape ∷ [])) (sym (with_sort production items sort item))
          (at_sides_more n IsBare (sorts_in (take items production.items)) shapes sort shape (parts_bare parts) (λ side. child_bare child side))

      child_bare : {place : Option (ℕ × ℕ)} {sort from past : ℕ} {shape : Shape} → Child (with_content g SeqKind) words place sort from past shape
          → IsSideSort n sort → IsBare shape
      child_bare (stands_leaf place sort at own shape leaf fits is) side = leaf_bare at shape is
      child_bare (stands_wild place sort at shape wild named is) side = leaf_bare at shape is
      child_bare (stands_token place sort at shape asked is) side = leaf_bare at shape is
      child_bare (stands_reading place sort from past p production shape reads at fits may takes) side =
          let own : production.sort ≡ sort = high_alone g has production.sort sort side.high fits in
          reads_bare reads production at (subst (IsSideSort n) (sym own) side)
      child_bare (stands_nothing place sort at shape k empty is) side = let some = has.some in let high = side.high in absurd (omega (arith, k, some, high))
      child_bare (stands_sequence place sort from at first second shapes shape k rules opens parts closes is) side =
          let some = has.some in let high = side.high in absurd (omega (arith, k, some, high))

    pub side_bare : (place : Option (ℕ × ℕ)) (sort from past : ℕ) (shape : Shape) → Child (with_content g SeqKind) words place sort from past shape
        → IsSideSort n sort → IsBare shape
    side_bare place sort from past shape child side = child_bare child side

    -- ---- a side that becomes an expression

    pub record IsMadeOf (shape : Shape) : Type 0 where
      pub p : ℕ
      pub before : Shape
      pub arrow : Shape
      pub after : Shape
      pub is : shape ≡ Node p (before ∷ arrow ∷ after ∷ [])
      pub role : role_of SeqKind arguments p ≡ MadeRole
      pub bare : IsBare before

    three : (a b c : ℕ) (shapes : List Shape) → AtSides n IsBare (a ∷ b ∷ c ∷ []) shapes → IsSideSort n a
        → (before : Shape) × (arrow : Shape) × (after : Shape) × (shapes ≡ before ∷ arrow ∷ after ∷ []) × IsBare before
    three a b c [] all side = absurd all
    three a b c (x ∷ []) all side = absurd all.1
    three a b c (x ∷ y ∷ []) all side = absurd all.1.1
    three a b c (x ∷ y ∷ z ∷ []) all side = (x, y, z, refl, all.0 side)
    three a b c (x ∷ y ∷ z ∷ w ∷ shapes) all side = absurd all.1.1.1

    as_three : (p : ℕ) (shape before arrow after : Shape) (shapes : List Shape) → shape ≡ Node p shapes → shapes ≡ before ∷ arrow ∷ after ∷ []
        → shape ≡ Node p (before ∷ arrow ∷ after ∷ [])
    as_three p shape before arrow after shapes is parts = is ∙ ap (Node p) parts

    plain_made : (p : ℕ) (production : Production) (shapes : List Shape) (shape : Shape) → production_at all_prods p ≡ Some production → production.sort ≡ n + 3
        → AtSides n IsBare (sorts_in (take (length production.items) production.items)) shapes → shape ≡ Node p shapes → IsMadeOf shape
    plain_made p production shapes shape e sort at is =
        let says = production_says p production e (omega (arith, sort)) in
        let made = says.made sort in
        let items : sorts_in (take (length production.items) production.items) ≡ (n + 1) ∷ rewrite_place ∷ sort_k ∷ [] = ap sorts_in (take-length production.items) ∙ made.1 in
        let parts = three (n + 1) rewrite_place sort_k shapes (subst (λ (ss : List ℕ). AtSides n IsBare ss shapes) items at) (record { high = omega arith; other = λ f. omega (arith, f) }) in
        record { p = p; before = parts.0; arrow = parts.1; after = parts.2; is = as_three p shape parts.0 parts.1 parts.2 shapes is parts.3; role = made.0; bare = parts.4 }

    made_reads : {p from past : ℕ} {shape : Shape} → Reads (with_content g SeqKind) words p from past shape → (production : Production)
        → production_at all_prods p ≡ Some production
        → production.sort ≡ n + 3 → IsMadeOf shape
    made_reads (reads_plain p from past own shapes shape plain no_bracket parts is) production e sort =
        let alike = same_production p production own e plain.is in
        plain_made p own shapes shape plain.is (subst (λ (it : Production). it.sort ≡ n + 3) alike sort) (parts_bare parts) is
    made_reads (reads_bracket p from past own shape plain bracket parts) production e sort =
        let alike = same_production p production own e plain.is in
        absurd (not_both own.attrs.bracket bracket (production_says p own plain.is (subst (λ (it : Production). n ≤ it.sort) alike (omega (arith, sort)))).no_bracket)
    made_reads (reads_list p from past element separator shapes shape list elements wild is) production e sort = absurd (no_list p element separator production e (omega (arith, sort)) list)
    made_reads (reads_rest p from at next element separator first shapes shape list elements between rest is) production e sort =
        absurd (no_list p element separator production e (omega (arith, sort)) list)
    made_reads (reads_empty p at element separator shape list empty is) production e sort = absurd (no_list p element separator production e (omega (arith, sort)) list)

    -- it is a token or such a change
    made_child : {place : Option (ℕ × ℕ)} {sort from past : ℕ} {shape : Shape} → Child (with_content g SeqKind) words place sort from past shape → sort ≡ n + 3
        → ((at : ℕ) × (shape ≡ Leaf at)) ⊎ IsMadeOf shape
    made_child (stands_leaf place sort at own shape leaf fits is) made = inl (at, is)
    made_child (stands_wild place sort at shape wild named is) made = inl (at, is)
    made_child (stands_token place sort at shape asked is) made = inl (at, is)
    made_child (stands_reading place sort from past p production shape reads at fits may takes) made =
        let own : production.sort ≡ sort = high_alone g has production.sort sort (omega (arith, made)) fits in
        inr (made_reads reads production at (own ∙ made))
    made_child (stands_nothing place sort at shape k empty is) made = absurd (omega (arith, k, made))
    made_child (stands_sequence place sort from at first second shapes shape k rules opens parts closes is) made = absurd (omega (arith, k, made))

    pub made_side : (place : Option (ℕ × ℕ)) (sort from past : ℕ) (shape : Shape) → Child (with_content g SeqKind) words place sort from past shape → sort ≡ n + 3
        → ((at : ℕ) × (shape ≡ Leaf at)) ⊎ IsMadeOf shape
    made_side place sort from past shape child made = made_child child made
