-- What is read of a content: its parts are read at the sorts of its kind.
use Rattle.std.proofs.Common.{◌≡◌, ℕ, zero, suc, ◌+◌, List, [], ◌∷◌, ◌++◌, take, length, append-nil, true, Option, Some, None, refl, sym, ap, subst, ◌∙◌, arith, add-one}
use Rattle.std.proofs.lemmas.List.{take_all}
use Rattle.std.specs.Prelude.{slice_get}
use Rattle.std.specs.List.{AllByRecursion, flat_map}
use Rattle.k_terms.specs.Sorts.{sort_kitem}
use Rattle.grammar_terms.specs.declared.production.Part.{Part as ItemPart}
use Rattle.grammar_terms.specs.declared.production.Part.TheVariants.{Terminal, Sort}
use Rattle.grammar_terms.specs.declared.production.Production.{Production}
use Rattle.grammar_terms.specs.declared.shape.Shape.{Shape, Leaf, Node, Items}
use Rattle.grammar_terms.specs.declared.word.Word.{Word}
use Rattle.grammar_terms.specs.Grammar.{Syntax, production_at}
use Rattle.grammar_terms.specs.Reading.{Reads, reads_plain, reads_bracket, reads_list, reads_rest, reads_empty, Parts, no_item, terminal_item, sort_item, Elements, no_element, first_element, next_element, Child, stands_leaf, stands_wild, stands_token, stands_reading, stands_nothing, stands_sequence, Sequence, one_part, next_part, Joins, joins_item, joins_variable}
use Rattle.grammar_terms.specs.Values.{sorts_in}
use Rattle.rule_terms.specs.declared.defs.Kind.{Kind}
use Rattle.rule_contents.specs.Contents.{with_content}
use Rattle.rule_parts.specs.declared.parts.Part.{Part}
use Rattle.rule_parts.specs.declared.parts.Side.{Side as Stands}
use Rattle.rule_parts.specs.Parts.{entry_parts, parts_in}
use Rattle.sound_drafts.proofs.PartRoles.{has_entries, its_role}
use Rattle.sound_drafts.proofs.PartsRead.{Children, AreReadParts, IsKnown, no_parts, two_read, role_read, value_read, entry-Node}
use Rattle.sound_drafts.proofs.ShapeLayers.{parts-Leaf, parts-Node, parts-Items}

-- ---- the sorts of a production's items

sorts_more : (xs ys : List ItemPart) → sorts_in (xs ++ ys) ≡ sorts_in xs ++ sorts_in ys
sorts_more [] ys = refl
sorts_more (Terminal text ∷ xs) ys = sorts_more xs ys
sorts_more (Sort sort ∷ xs) ys = ap (λ sorts. sort ∷ sorts) (sorts_more xs ys)

item_taken : (items : List ItemPart) (n : ℕ) (item : ItemPart) → slice_get items n ≡ Some item → take (suc n) items ≡ take n items ++ item ∷ []
item_taken [] n item e = absurd (let f : None ≡ Some item = e in cc)
item_taken (first ∷ items) zero item e = let same : first ≡ item = cc in ap (λ it. it ∷ []) same
item_taken (first ∷ items) (suc n) item e = ap (λ its. first ∷ its) (item_taken items n item e)

sorts_taken : (items : List ItemPart) (n : ℕ) (item : ItemPart) → slice_get items n ≡ Some item → sorts_in (take (n + 1) items) ≡ sorts_in (take n items) ++ sorts_in (item ∷ [])
sorts_taken items n item e = ap (λ m. sorts_in (take m items)) (add-one n) ∙ ap sorts_in (item_taken items n item e) ∙ sorts_more (take n items) (item ∷ [])

children_more : (P : ℕ → Shape → Type 0) (sorts : List ℕ) (sort : ℕ) (shapes : List Shape) (shape : Shape) → Children P sorts shapes → P sort shape
    → Children P (sorts ++ sort ∷ []) (shapes ++ shape ∷ [])
children_more P [] sort [] shape known is = (is, tt)
children_more P [] sort (one ∷ shapes) shape known is = absurd known
children_more P (first ∷ sorts) sort [] shape known is = absurd known
children_more P (first ∷ sorts) sort (one ∷ shapes) shape known is = (known.0, children_more P sorts sort shapes shape known.1 is)

all_more : {X : Type 0} (P : X → Type 0) (xs : List X) (x : X) → AllByRecursion P xs → P x → AllByRecursion P (xs ++ x ∷ [])
all_more P [] x all p = (p, tt)
all_more P (y ∷ xs) x all p = (all.0, all_more P xs x all.1 p)

-- a shape is read at a place of a sort
pub record IsReadAt (g : Syntax) (words : List Word) (sort : ℕ) (shape : Shape) : Type 0 where
  pub place : Option (ℕ × ℕ)
  pub from : ℕ
  pub past : ℕ
  pub child : Child g words place sort from past shape

-- ---- readings

module _ (g : Syntax) (kind : Kind) (words : List Word) where
  abbrev pub ReadAt : ℕ → Shape → Type 0
  ReadAt sort shape = IsReadAt (with_content g kind) words sort shape

  abbrev pub Known : ℕ → Shape → Type 0
  Known sort shape = IsKnown kind (length g.prods) ReadAt sort shape

  abbrev pub ReadParts : List (Part Shape) → Type 0
  ReadParts parts = AreReadParts kind (length g.prods) ReadAt parts

  -- what is known of a shape, wherever it stands
  record IsDivided (shape : Shape) : Type 0 where
    parts : (on : Stands) → ReadParts (parts_in kind (length g.prods) on shape)
    entry : (on : Stands) (key : Shape) → has_entries kind ≡ true → ReadAt sort_kitem key → ReadParts (entry_parts kind (length g.prods) on key shape)

  none : ReadParts []
  none = no_parts kind (length g.prods) ReadAt

  leaf_divided : (at : ℕ) (shape : Shape) → shape ≡ Leaf at → IsDivided shape
  leaf_divided at shape is =
      subst IsDivided (sym is) (record { parts = λ on. subst ReadParts (sym (parts-Leaf kind (length g.prods) on at)) none; entry = λ on key may read. none })

  node_divided : (p : ℕ) (production : Production) (shapes : List Shape) → production_at (with_content g kind).prods p ≡ Some production → Children Known (sorts_in production.items) shapes
      → IsDivided (Node p shapes)
  node_divided p production shapes there known = record {
    parts = λ on.
        subst ReadParts (sym (parts-Node kind (length g.prods) on p shapes)) (role_read kind (length g.prods) ReadAt (its_role g kind p production there) on shapes known);
    entry = λ on key may read.
        subst ReadParts (sym (entry-Node kind (length g.prods) ReadAt on key p shapes))
        (value_read kind (length g.prods) ReadAt (its_role g kind p production there) on key may read shapes known);
  }

  many_parts : (on : Stands) (shapes : List Shape) → AllByRecursion IsDivided shapes → ReadParts (flat_map (parts_in kind (length g.prods) on) shapes)
  many_parts on [] all = none
  many_parts on (shape ∷ shapes) all =
      two_read kind (length g.prods) ReadAt (parts_in kind (length g.prods) on shape) (flat_map (parts_in kind (length g.prods) on) shapes) (all.0.parts on) (many_parts on shapes all.1)

  items_divided : (p : ℕ) (shapes : List Shape) (rest : Option ℕ) → AllByRecursion IsDivided shapes → IsDivided (Items p shapes rest)
  items_divided p shapes rest all =
      record { parts = λ on. subst ReadParts (sym (parts-Items kind (length g.prods) on p shapes rest)) (many_parts on shapes all); entry = λ on key may read. none }

  mutual
    reads_divided : {p from past : ℕ} {shape : Shape} → Reads (with_content g kind) words p from past shape → IsDivided shape
    reads_divided (reads_plain p from past production shapes shape plain no_bracket parts is) =
        subst IsDivided (sym is)
        (node_divided p production shapes plain.is
        (subst (λ items. Children Known (sorts_in items) shapes) (take_all (length production.items) production.items (omega arith)) (parts_known parts)))
    reads_divided (reads_bracket p from past production shape plain bracket parts) = (parts_divided parts).0
    reads_divided (reads_list p from past element separator shapes shape of elements wild is) = subst IsDivided (sym is) (items_divided p shapes None (elements_divided elements))
    reads_divided (reads_rest p from at next element separator first shapes shape of elements between rest is) =
        subst IsDivided (sym is) (items_divided p (first ∷ shapes) (Some next) (elements_divided elements))
    reads_divided (reads_empty p at element separator shape of empty is) = subst IsDivided (sym is) (items_divided p [] None tt)

    parts_known : {p : ℕ} {production : Production} {count from at : ℕ} {shapes : List Shape} → Parts (with_content g kind) words p production count from at shapes
        → Children Known (sorts_in (take count production.items)) shapes
    parts_known (no_item p production from) = tt
    parts_known (terminal_item p production count from at shapes text parts item here) =
        subst (λ sorts. Children Known sorts shapes) (sym (sorts_taken production.items count (Terminal text) item ∙ append-nil (sorts_in (take count production.items)))) (parts_known parts)
    parts_known (sort_item p production count from at past shapes sort shape parts item child) =
        subst (λ sorts. Children Known sorts (shapes ++ shape ∷ [])) (sym (sorts_taken production.items count (Sort sort) item))
        (children_more Known (sorts_in (take count production.items)) sort shapes shape (parts_known parts)
        (let divided = child_divided child in record { read = record { place = _; from = at; past = past; child = child }; parts = divided.parts; entry = divided.entry }))

    parts_divided : {p : ℕ} {production : Production} {count from at : ℕ} {shapes : List Shape} → Parts (with_content g kind) words p production count from at shapes
        → AllByRecursion IsDivided shapes
    parts_divided (no_item p production from) = tt
    parts_divided (terminal_item p production count from at shapes text parts item here) = parts_divided parts
    parts_divided (sort_item p production count from at past shapes sort shape parts item child) = all_more IsDivided shapes shape (parts_divided parts) (child_divided child)

    elements_divided : {p sort : ℕ} {separator : List ℕ} {from past : ℕ} {shapes : List Shape} → Elements (with_content g kind) words p sort separator from past shapes
        → AllByRecursion IsDivided shapes
    elements_divided (no_element p sort separator from) = tt
    elements_divided (first_element p sort separator from past shape child) = (child_divided child, tt)
    elements_divided (next_element p sort separator from at next past first shapes shape elements between child) =
        all_more IsDivided (first ∷ shapes) shape (elements_divided elements) (child_divided child)

    child_divided : {place : Option (ℕ × ℕ)} {sort from past : ℕ} {shape : Shape} → Child (with_content g kind) words place sort from past shape → IsDivided shape
    child_divided (stands_leaf place sort at own shape leaf fits is) = leaf_divided at shape is
    child_divided (stands_wild place sort at shape wild named is) = leaf_divided at shape is
    child_divided (stands_token place sort at shape asked is) = leaf_divided at shape is
    child_divided (stands_reading place sort from past p production shape reads at fits may takes) = reads_divided reads
    child_divided (stands_nothing place sort at shape k empty is) = subst IsDivided (sym is) (items_divided 0 [] None tt)
    child_divided (stands_sequence place sort from at first second shapes shape k rules opens parts closes is) =
        subst IsDivided (sym is) (items_divided 0 (first ∷ second ∷ shapes) None (sequence_divided parts))

    sequence_divided : {from past : ℕ} {shapes : List Shape} → Sequence (with_content g kind) words from past shapes → AllByRecursion IsDivided shapes
    sequence_divided (one_part from past shape part) = (joins_divided part, tt)
    sequence_divided (next_part from at past shapes shape parts arrow part) = all_more IsDivided shapes shape (sequence_divided parts) (joins_divided part)

    joins_divided : {from past : ℕ} {shape : Shape} → Joins (with_content g kind) words from past shape → IsDivided shape
    joins_divided (joins_item from past shape child) = child_divided child
    joins_divided (joins_variable at shape word is) = leaf_divided at shape is

  -- the parts of what is read are read
  pub read_parts : (sort : ℕ) (shape : Shape) → ReadAt sort shape → (on : Stands) → ReadParts (parts_in kind (length g.prods) on shape)
  read_parts sort shape read on = (child_divided read.child).parts on
