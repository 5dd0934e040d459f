-- A content that was read has parts whose items and expressions are of their sorts, and a single value where it stands.
use Rattle.std.proofs.Common.{◌≡◌, ℕ, ◌+◌, ◌<◌, ◌≤◌, Bool, true, false, cond, List, length, Option, Some, None, option_map, refl, sym, subst, ◌∙◌, arith}
use Rattle.grammar_terms.specs.declared.shape.Shape.{Shape}
use Rattle.grammar_terms.specs.declared.word.Word.{Word}
use Rattle.grammar_terms.specs.Builtins.{with_builtins}
use Rattle.grammar_terms.specs.Grammar.{Syntax}
use Rattle.sorted_grammar.specs.Marks.{AreInside}
use Rattle.rule_terms.specs.declared.defs.Kind.{Kind}
use Rattle.rule_terms.specs.declared.defs.Kind.TheVariants.{Cells as CellsKind, Seq as SeqKind, Map as MapKind, List as ListKind, One as OneKind}
use Rattle.rule_contents.specs.declared.reading.Form.{Form}
use Rattle.rule_contents.specs.declared.reading.Form.TheVariants.{Sides, Made as MadeForm, Expression}
use Rattle.rule_contents.specs.Contents.{with_content}
use Rattle.rule_contents.specs.Readings.{IsContent, whole_sort}
use Rattle.rule_drafts.specs.Bodies.{is_filled}
use Rattle.rule_parts.specs.declared.argument_sorts.Productions.{Productions}
use Rattle.rule_parts.specs.declared.leaves.Leaf.{Leaf as LeafToken}
use Rattle.rule_parts.specs.declared.parts.Part.{Part}
use Rattle.rule_parts.specs.declared.parts.Side.{Side as Stands}
use Rattle.rule_parts.specs.declared.terms.Occurrence.{Occurrence}
use Rattle.rule_parts.specs.Parts.{form_parts}
use Rattle.rule_parts.specs.Sides.{stands, what_items, of_side}
use Rattle.sound_patterns.proofs.Parts.{NoneNested}
use Rattle.sound_kinds.proofs.BaseSorts.{IsBase, AreOwn}
use Rattle.sound_kinds.proofs.ValueWords.{AreGood}
use Rattle.sound_kinds.proofs.ValueRoles.{item_want, made_want, IsWanted}
use Rattle.sound_kinds.proofs.ValueReadings.{AreRight, Val, Known, child_known}
use Rattle.sound_kinds.proofs.ValueSingles.{child_there}

-- an expression alone is the content of a new cell
expression_new : (b : Bool) (o : Option ℕ) (sort : ℕ) → cond b o None ≡ Some sort → o ≡ Some sort
expression_new true o sort e = e
expression_new false o sort e = absurd (let f : None ≡ Some sort = e in cc)

made_at : (b : Bool) (o : Option ℕ) (made sort : ℕ) → cond b None (option_map (λ (own : ℕ). made) o) ≡ Some sort → made ≡ sort
made_at true o made sort e = absurd (let f : None ≡ Some sort = e in cc)
made_at false None made sort e = absurd (let f : None ≡ Some sort = e in cc)
made_at false (Some own) made sort e = cc

same_some : (x y : ℕ) → Some x ≡ Some y → x ≡ y
same_some x y e = cc

whole_made : (kind : Kind) (sort other : ℕ) → whole_sort kind ≡ Some sort → made_want kind ≡ Some other → sort ≡ other
whole_made CellsKind sort other e f = absurd (let h : None ≡ Some sort = e in cc)
whole_made SeqKind sort other e f = absurd (let h : None ≡ Some other = f in cc)
whole_made MapKind sort other e f = same_some sort other (sym e ∙ f)
whole_made ListKind sort other e f = same_some sort other (sym e ∙ f)
whole_made (OneKind own) sort other e f = absurd (let h : None ≡ Some sort = e in cc)

module _ (base : Syntax) (inside : AreInside base) (whole : base.declared ≤ length base.prods) (own : AreOwn base.prods) (words : List Word) where
  abbrev g : Syntax
  g = with_builtins base

  module _ (kind : Kind) (named : (sort : ℕ) → kind ≡ OneKind sort → sort < length base.names) (items_base : (sort : ℕ) → item_want kind ≡ Some sort → IsBase sort)
      (made_base : (sort : ℕ) → made_want kind ≡ Some sort → IsBase sort) where
    abbrev pub Right : List (Part Shape) → Type 0
    Right = AreRight base inside whole own kind named items_base made_base words

    -- an expression of the sort of a whole content
    wanted : (o : Option ℕ) (sort : ℕ) (shape : Shape) → whole_sort kind ≡ Some sort → made_want kind ≡ o → Known base inside whole own kind named items_base made_base words sort shape
        → IsWanted (Val base inside whole own kind named items_base made_base words) kind (length base.names) (length g.prods) items_base made_base o shape
    wanted None sort shape whole_is is known = tt
    wanted (Some other) sort shape whole_is is known =
        let alike : sort ≡ other = whole_made kind sort other whole_is is in
        subst (λ s. Val base inside whole own kind named items_base made_base words s shape) alike (known.value (subst IsBase (sym alike) (made_base other is)))

    -- the parts of a content are right
    pub content_right : (b : Bool) (on : Stands) (form : Form) (shape : Shape) → IsContent (with_content g kind) kind b words form shape
        → Right (form_parts kind (length g.prods) on form shape)
    content_right b on Sides shape is =
        let sort : length base.names + 2 ≡ is.sort = same_some (length base.names + 2) is.sort is.sort_is in
        (child_known base inside whole own kind named items_base made_base words is.only.0).parts (omega (arith, sort)) on
    content_right b on MadeForm shape is =
        let sort : length base.names + 3 ≡ is.sort = made_at b (whole_sort kind) (length base.names + 3) is.sort is.sort_is in
        (child_known base inside whole own kind named items_base made_base words is.only.0).parts (omega (arith, sort)) on
    content_right b on Expression shape is = (
      wanted (made_want kind) is.sort shape (expression_new b (whole_sort kind) is.sort is.sort_is) refl
          (child_known base inside whole own kind named items_base made_base words is.only.0),
      tt,
    )

  -- a content of a single value has one on each side where it stands
  module _ (good : AreGood (length base.names) words) (productions : Productions) (leaves : List LeafToken) (vars : List Occurrence) where
    no_form : (b : Bool) (sort : ℕ) → cond b None None ≡ Some sort → ⊥
    no_form true sort e = let f : None ≡ Some sort = e in cc
    no_form false sort e = let f : None ≡ Some sort = e in cc

    single_there : (sort : ℕ) → IsBase sort → (b : Bool) (on : Stands) (form : Form) (shape : Shape) → IsContent (with_content g (OneKind sort)) (OneKind sort) b words form shape
        → NoneNested (form_parts (OneKind sort) (length g.prods) on form shape) → (left : Bool) → stands left on ≡ true
        → is_filled (of_side left (what_items productions leaves vars sort) (form_parts (OneKind sort) (length g.prods) on form shape)) ≡ true
    single_there sort based b on Sides shape is none left here =
        let at : is.sort ≡ length base.names + 2 = sym (same_some (length base.names + 2) is.sort is.sort_is) in
        child_there base inside whole own sort based words good productions leaves vars is.only.0 at on none left here
    single_there sort based b on MadeForm shape is none left here = absurd (no_form b is.sort is.sort_is)
    single_there sort based b on Expression shape is none left here = absurd (no_form b is.sort is.sort_is)

    pub content_single : (kind : Kind) (sort : ℕ) → kind ≡ OneKind sort → IsBase sort → (b : Bool) (on : Stands) (form : Form) (shape : Shape)
        → IsContent (with_content g kind) kind b words form shape
        → NoneNested (form_parts kind (length g.prods) on form shape) → (left : Bool) → stands left on ≡ true
        → is_filled (of_side left (what_items productions leaves vars sort) (form_parts kind (length g.prods) on form shape)) ≡ true
    content_single kind sort is based =
        subst
        (λ k. (b : Bool) (on : Stands) (form : Form) (shape : Shape) → IsContent (with_content g k) k b words form shape
        → NoneNested (form_parts k (length g.prods) on form shape) → (left : Bool) → stands left on ≡ true
        → is_filled (of_side left (what_items productions leaves vars sort) (form_parts k (length g.prods) on form shape)) ≡ true)
        (sym is) (single_there sort based)
