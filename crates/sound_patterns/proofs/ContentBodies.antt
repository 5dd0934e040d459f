-- The body of a content of a rule: its values, its numbers and its operators.
use Rattle.std.proofs.Common.{◌≡◌, ℕ, ◌+◌, ◌<◌, ◌≤◌, Bool, true, false, cond, ◌&&◌, not, List, [], ◌∷◌, length, Option, Some, None, refl, sym, ap, arith}
use Rattle.std.specs.Prelude.{option_map}
use Rattle.std.specs.List.{AllByRecursion}
use Rattle.k_terms.specs.Sorts.{SortOrder, sort_k, sort_map, sort_list}
use Rattle.grammar_terms.specs.Reading.{IsReading}
use Rattle.grammar_terms.specs.Builtins.{with_builtins}
use Rattle.grammar_terms.specs.declared.shape.Shape.{Shape}
use Rattle.grammar_terms.specs.declared.word.Word.{Word}
use Rattle.grammar_terms.specs.Grammar.{Syntax, order_of}
use Rattle.sorted_grammar.specs.Marks.{AreInside}
use Rattle.rule_terms.specs.declared.defs.Kind.{Kind}
use Rattle.rule_terms.specs.declared.defs.Kind.TheVariants.{Cells as CellsKind, Seq as SeqKind, Map as MapKind, List as ListKind, One as OneKind}
use Rattle.rule_terms.specs.declared.pattern.Body.{Body}
use Rattle.rule_terms.specs.InRange.{is_pattern_in_range}
use Rattle.rule_terms.specs.Sound.{has_formed_values, has_no_operator, all_patterns, is_made}
use Rattle.rule_contents.specs.declared.reading.Form.{Form}
use Rattle.rule_contents.specs.declared.reading.Form.TheVariants.{Sides, Made as MadeForm, Expression}
use Rattle.rule_contents.specs.Contents.{with_content}
use Rattle.rule_contents.specs.Operators.{has_operator}
use Rattle.rule_contents.specs.Readings.{IsContent, whole_sort}
use Rattle.rule_parts.specs.declared.leaves.Leaf.{Leaf}
use Rattle.rule_parts.specs.declared.parts.Part.{Part}
use Rattle.rule_parts.specs.declared.parts.What.{What}
use Rattle.rule_parts.specs.declared.parts.What.TheVariants.{Item, Tail, Entry, Rest, Made, Inner, Whole}
use Rattle.rule_parts.specs.declared.parts.Side.{Side as Stands}
use Rattle.rule_parts.specs.declared.parts.Side.TheVariants.{Both, Left, Right}
use Rattle.rule_parts.specs.declared.terms.Occurrence.{Occurrence}
use Rattle.rule_parts.specs.Parts.{form_parts}
use Rattle.rule_parts.specs.Productions.{productions_of}
use Rattle.rule_parts.specs.Sides.{is_left, stands}
use Rattle.rule_drafts.specs.Bodies.{body_of}
use Rattle.rule_drafts.specs.Cells.{tag_of}
use Rattle.rule_reader.specs.Contents.{is_new}
use Rattle.sound_patterns.proofs.Tests.{joins, of_values, of_operators, of_numbers}
use Rattle.sound_patterns.proofs.Terms.{AllNumbers, LeavesPass}
use Rattle.sound_patterns.proofs.Bodies.{EachTerm, TermsOn, body_passes, IsNotMade, NoneMade, body_not_made}
use Rattle.sound_patterns.proofs.Roles.{IsPartSort}
use Rattle.sound_patterns.proofs.Parts.{NoneNested, IsGoodPart, IsKnown}
use Rattle.sound_patterns.proofs.Contents.{child_known}
use Rattle.sound_patterns.proofs.Grammars.{node, list, content_terms, content_high, contents_known}
use Rattle.sound_patterns.proofs.Numbers.{values_pass, numbers_pass, operators_pass}

-- what is new stands not on the left
new_right : (on : Stands) → is_new on ≡ true → is_left on ≡ true → ⊥
new_right Both e left = let f : false ≡ true = e in cc
new_right Left e left = let f : false ≡ true = e in cc
new_right Right e left = let f : false ≡ true = left in cc

-- an expression alone is the content of a new cell
expression_new : (b : Bool) (o : Option ℕ) (sort : ℕ) → cond b o None ≡ Some sort → (b ≡ true) × (o ≡ Some sort)
expression_new true o sort e = (refl, e)
expression_new false o sort e = absurd (let f : None ≡ Some sort = e in cc)

made_at : (b : Bool) (o : Option ℕ) (made sort : ℕ) → cond b None (option_map (λ (own : ℕ). made) o) ≡ Some sort → made ≡ sort
made_at true o made sort e = absurd (let f : None ≡ Some sort = e in cc)
made_at false None made sort e = absurd (let f : None ≡ Some sort = e in cc)
made_at false (Some own) made sort e = cc

same_some : (x y : ℕ) → Some x ≡ Some y → x ≡ y
same_some x y e = cc

whole_low : (kind : Kind) (sort : ℕ) → whole_sort kind ≡ Some sort → sort < 10
whole_low CellsKind sort e = absurd (let f : None ≡ Some sort = e in cc)
whole_low SeqKind sort e = let same = same_some sort_k sort e in omega (arith, same)
whole_low MapKind sort e = let same = same_some sort_map sort e in omega (arith, same)
whole_low ListKind sort e = let same = same_some sort_list sort e in omega (arith, same)
whole_low (OneKind own) sort e = absurd (let f : None ≡ Some sort = e in cc)

-- ---- parts of a side

each_both : (P Q : Shape → Type 0) (what : What Shape) → EachTerm P what → EachTerm Q what → EachTerm (λ shape. P shape × Q shape) what
each_both P Q (Item shape) p q = (p, q)
each_both P Q (Tail at) p q = tt
each_both P Q (Entry key value) p q = ((p.0, q.0), (p.1, q.1))
each_both P Q (Rest at) p q = tt
each_both P Q (Made shape) p q = (p, q)
each_both P Q (Inner at) p q = tt
each_both P Q Whole p q = tt

all_weaker : {X : Type 0} (P Q : X → Type 0) → ((x : X) → P x → Q x) → (xs : List X) → AllByRecursion P xs → AllByRecursion Q xs
all_weaker P Q to [] all = tt
all_weaker P Q to (x ∷ xs) all = (to x all.0, all_weaker P Q to xs all.1)

-- A body has well formed values and numbers of productions, and on the left side no operator and no expression for the whole.
pub record IsGoodBody (o : SortOrder) (left : Bool) (body : Body) : Type 0 where
  pub values : all_patterns has_formed_values body ≡ true
  pub numbers : all_patterns (is_pattern_in_range o) body ≡ true
  pub free : left ≡ true → (all_patterns has_no_operator body && not (is_made body)) ≡ true

module _ (base : Syntax) (inside : AreInside base) (whole : base.declared ≤ length base.prods) where
  abbrev g : Syntax
  g = with_builtins base

  abbrev o : SortOrder
  o = order_of base

  -- what the literals of a rule pass
  pub record LiteralsPass (leaves : List Leaf) : Type 0 where
    pub values : LeavesPass has_formed_values leaves
    pub numbers : LeavesPass (is_pattern_in_range o) leaves
    pub operators : LeavesPass has_no_operator leaves

  module _ (kind : Kind) (named : (sort : ℕ) → kind ≡ OneKind sort → sort < length base.names) (words : List Word) (on : Stands) where
    abbrev Term : Shape → Type 0
    Term shape = AllNumbers (node base inside whole) (list base inside whole) shape

    abbrev Known : ℕ → Shape → Type 0
    Known sort shape = IsKnown g kind (length base.names) (length g.prods) Term sort shape

    known : (sort : ℕ) (shape : Shape) → IsReading (with_content g kind) sort words shape → Known sort shape
    known sort shape child =
        child_known g kind (length base.names) (node base inside whole) (list base inside whole) (with_content g kind) words
        (content_terms base inside whole kind named) (content_high base inside whole kind named) (contents_known base inside whole kind named) child

    abbrev pub AreGoodParts : List (Part Shape) → Type 0
    AreGoodParts parts = AllByRecursion (IsGoodPart g kind (length base.names) (length g.prods) Term) parts

    -- the parts of a content that was read
    pub parts_good : (form : Form) (shape : Shape) → IsContent (with_content g kind) kind (is_new on) words form shape
        → (is_left on ≡ true → (form ≡ Expression → ⊥) → has_operator g shape ≡ false)
        → NoneNested (form_parts kind (length g.prods) on form shape) → AreGoodParts (form_parts kind (length g.prods) on form shape)
    parts_good Sides shape is clear none =
        let sort : is.sort ≡ length base.names + 2 = sym (same_some (length base.names + 2) is.sort is.sort_is) in
        let part : IsPartSort (length base.names) is.sort = (omega (arith, sort), omega (arith, sort)) in
        ((known is.sort shape is.only.0).parts part on).all (λ here. clear here (λ e. let f : Sides ≡ Expression = e in cc)) none
    parts_good MadeForm shape is clear none =
        let sort = made_at (is_new on) (whole_sort kind) (length base.names + 3) is.sort is.sort_is in
        let part : IsPartSort (length base.names) is.sort = (omega (arith, sort), omega (arith, sort)) in
        ((known is.sort shape is.only.0).parts part on).all (λ here. clear here (λ e. let f : MadeForm ≡ Expression = e in cc)) none
    parts_good Expression shape is clear none =
        let new = expression_new (is_new on) (whole_sort kind) is.sort is.sort_is in
        let low = whole_low kind is.sort new.1 in
        let some = inside.some in
        (((known is.sort shape is.only.0).term (omega (arith, low, some)), λ here. absurd (new_right on new.0 here)), tt)

    module _ (leaves : List Leaf) (literals : LiteralsPass leaves) (vars : List Occurrence) (cell start : ℕ) (l r : Bool) where
      terms_on : (left : Bool) (parts : List (Part Shape)) → AreGoodParts parts → TermsOn left Term parts
      terms_on left parts all =
          all_weaker (IsGoodPart g kind (length base.names) (length g.prods) Term) (λ (part : Part Shape). stands left part.side ≡ true → EachTerm Term part.what) (λ part good here. good.0) parts all

      free_on : (parts : List (Part Shape)) → AreGoodParts parts → TermsOn true (λ shape. Term shape × (has_operator g shape ≡ false)) parts
      free_on parts all =
          all_weaker (IsGoodPart g kind (length base.names) (length g.prods) Term)
          (λ (part : Part Shape). stands true part.side ≡ true → EachTerm (λ shape. Term shape × (has_operator g shape ≡ false)) part.what)
          (λ part good here. each_both Term (λ shape. has_operator g shape ≡ false) part.what good.0 (good.1 here).0) parts all

      none_made_on : (parts : List (Part Shape)) → AreGoodParts parts → NoneMade true parts
      none_made_on parts all =
          all_weaker (IsGoodPart g kind (length base.names) (length g.prods) Term) (λ (part : Part Shape). stands true part.side ≡ true → IsNotMade part.what) (λ part good here. (good.1 here).1) parts all

      free_body : (left : Bool) (parts : List (Part Shape)) → AreGoodParts parts → left ≡ true
          → (all_patterns has_no_operator (body_of (productions_of g) leaves vars (tag_of cell start l r) left parts kind) && not (is_made (body_of (productions_of g) leaves vars (tag_of cell start l r) left parts kind))) ≡ true
      free_body false parts all e = absurd (let f : false ≡ true = e in cc)
      free_body true parts all e =
          let body = body_of (productions_of g) leaves vars (tag_of cell start l r) true parts kind in
          joins (all_patterns has_no_operator body) (not (is_made body))
          (body_passes has_no_operator of_operators vars (productions_of g) leaves (λ shape. Term shape × (has_operator g shape ≡ false))
          (λ sort shape term. operators_pass base inside whole leaves vars literals.operators sort shape term.0 term.1) (tag_of cell start l r) true parts kind (free_on parts all))
          (ap not (body_not_made (productions_of g) leaves vars (tag_of cell start l r) true parts kind (none_made_on parts all)))

      pub body_good : (left : Bool) (parts : List (Part Shape)) → AreGoodParts parts → IsGoodBody o left (body_of (productions_of g) leaves vars (tag_of cell start l r) left parts kind)
      body_good left parts all = record {
        values =
            body_passes has_formed_values of_values vars (productions_of g) leaves Term (λ sort shape term. values_pass base inside whole leaves vars literals.values sort shape term) (tag_of cell start l r) left parts kind
            (terms_on left parts all);
        numbers =
            body_passes (is_pattern_in_range o) (of_numbers o) vars (productions_of g) leaves Term (λ sort shape term. numbers_pass base inside whole leaves vars literals.numbers sort shape term) (tag_of cell start l r) left
            parts kind (terms_on left parts all);
        free = free_body left parts all;
      }
