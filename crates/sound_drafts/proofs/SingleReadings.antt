-- What is read as a single value is one item, or one that becomes another.
use Rattle.std.proofs.Common.{◌≡◌, inl, inr, ℕ, zero, suc, ◌+◌, ◌-◌, ◌≤◌, Bool, true, false, cond, ◌==◌, List, [], ◌∷◌, ◌++◌, length, Option, Some, None, refl, sym, ap, subst, ◌∙◌, arith}
use Rattle.std.specs.Prelude.{nat_lt, slice_get}
use Rattle.grammar_terms.specs.declared.production.Production.{Production}
use Rattle.grammar_terms.specs.declared.shape.Shape.{Shape, Leaf as LeafShape, Node}
use Rattle.grammar_terms.specs.declared.word.Word.{Word}
use Rattle.grammar_terms.specs.Grammar.{Syntax, production_at, is_list}
use Rattle.grammar_terms.specs.Reading.{IsListOf, Reads, reads_plain, reads_bracket, reads_list, reads_rest, reads_empty, Child, stands_leaf, stands_wild, stands_token, stands_reading, stands_nothing, stands_sequence}
use Rattle.live_config.proofs.Members.{Has, has_either}
use Rattle.rule_terms.specs.declared.defs.Kind.{Kind}
use Rattle.rule_terms.specs.declared.defs.Kind.TheVariants.{One as OneKind}
use Rattle.rule_contents.specs.declared.reading.Form.{Form}
use Rattle.rule_contents.specs.declared.reading.Form.TheVariants.{Sides, Made as MadeForm, Expression}
use Rattle.rule_contents.specs.Contents.{numbers_of, one_prods, with_content}
use Rattle.rule_contents.specs.Readings.{IsContent}
use Rattle.rule_parts.specs.declared.argument_sorts.Productions.{Productions}
use Rattle.rule_parts.specs.declared.leaves.Leaf.{Leaf}
use Rattle.rule_parts.specs.declared.parts.Part.{Part}
use Rattle.rule_parts.specs.declared.parts.Role.{Role}
use Rattle.rule_parts.specs.declared.parts.Role.TheVariants.{Item as ItemRole, Nothing, Becomes}
use Rattle.rule_parts.specs.declared.parts.Side.{Side as Stands}
use Rattle.rule_parts.specs.declared.parts.Side.TheVariants.{Both, Left, Right}
use Rattle.rule_parts.specs.declared.terms.Occurrence.{Occurrence}
use Rattle.rule_parts.specs.Parts.{roles, role_among, role_of, parts_in, parts_by, form_parts}
use Rattle.rule_parts.specs.Sides.{what_items, of_side}
use Rattle.sound_drafts.proofs.ContentSorts.{HasSorts, high_alone}
use Rattle.sound_drafts.proofs.PartRoles.{there_by}
use Rattle.sound_drafts.proofs.PartsRead.{NoneNested}
use Rattle.sound_drafts.proofs.ShapeLayers.{parts-Leaf, parts-Node}

get_has : {X : Type 0} (xs : List X) (i : ℕ) (x : X) → slice_get xs i ≡ Some x → Has xs x
get_has [] i x e = absurd (let f : None ≡ Some x = e in cc)
get_has (y ∷ xs) zero x e = inl (let f : Some y ≡ Some x = e in cc)
get_has (y ∷ xs) (suc i) x e = inr (get_has xs i x e)

not_both : (b : Bool) → b ≡ true → b ≡ false → ⊥
not_both b yes_is no_is = let f : true ≡ false = sym yes_is ∙ no_is in cc

-- ---- the productions of a single value

-- no list production and no bracket
pub record IsSimple (production : Production) : Type 0 where
  pub no_bracket : production.attrs.bracket ≡ false
  pub no_list : is_list production.form ≡ false

one_simple : (g : Syntax) (sort : ℕ) (production : Production) → Has (one_prods (numbers_of g) sort) production → IsSimple production
one_simple g sort production (inl e) = subst IsSimple e (record { no_bracket = refl; no_list = refl })
one_simple g sort production (inr (inl e)) = subst IsSimple e (record { no_bracket = refl; no_list = refl })
one_simple g sort production (inr (inr h)) = absurd h

-- each of them is one item, or one that becomes another
by_role : (P : Role → Type 0) (sort : ℕ) → P ItemRole → P Becomes → P Nothing → (i : ℕ) → P (role_among (roles (OneKind sort)) i)
by_role P sort one change none zero = one
by_role P sort one change none (suc zero) = change
by_role P sort one change none (suc (suc i)) = none

by_number : (P : Role → Type 0) (sort count p : ℕ) → P ItemRole → P Becomes → P Nothing → P (role_of (OneKind sort) count p)
by_number P sort count p one change none =
    elim (nat_lt count p) as (λ b. P (cond b (role_among (roles (OneKind sort)) (p - count - 1)) Nothing)) [
      | true ↦ by_role P sort one change none (p - count - 1)
      | false ↦ none
    ]

-- ---- their parts

module _ (productions : Productions) (leaves : List Leaf) (vars : List Occurrence) (left : Bool) (sort count : ℕ) where
  abbrev HaveOne : List (Part Shape) → Type 0
  HaveOne parts = NoneNested parts → length (of_side left (what_items productions leaves vars sort) parts) ≤ 1

  abbrev HasOneBy : Role → Type 0
  HasOneBy role = (on : Stands) (shapes : List Shape) → HaveOne (parts_by (OneKind sort) count role on shapes)

  one_if : (b : Bool) {X : Type 0} (x : X) → length (cond b (x ∷ []) [] ++ []) ≤ 1
  one_if true x = omega arith
  one_if false x = omega arith

  item_one : HasOneBy ItemRole
  item_one on [] none = omega arith
  item_one on (shape ∷ []) none = one_if _ _
  item_one on (one ∷ other ∷ shapes) none = omega arith

  becomes_one : HasOneBy Becomes
  becomes_one on [] none = omega arith
  becomes_one on (a ∷ []) none = omega arith
  becomes_one on (a ∷ b ∷ []) none = omega arith
  becomes_one Both (a ∷ b ∷ c ∷ []) none = on_both left
    where
      on_both : (left : Bool)
          → length (of_side left (what_items productions leaves vars sort) (parts_by (OneKind sort) count Becomes Both (a ∷ b ∷ c ∷ []))) ≤ 1
      on_both true = omega arith
      on_both false = omega arith
  becomes_one Left (a ∷ b ∷ c ∷ []) none = absurd none.0
  becomes_one Right (a ∷ b ∷ c ∷ []) none = absurd none.0
  becomes_one on (a ∷ b ∷ c ∷ d ∷ shapes) none = omega arith

  nothing_one : HasOneBy Nothing
  nothing_one on shapes none = omega arith

  node_one : (p : ℕ) (shapes : List Shape) (on : Stands) → HaveOne (parts_in (OneKind sort) count on (Node p shapes))
  node_one p shapes on =
      subst HaveOne (sym (parts-Node (OneKind sort) count on p shapes)) (by_number HasOneBy sort count p item_one becomes_one nothing_one on shapes)

  leaf_one : (at : ℕ) (on : Stands) → HaveOne (parts_in (OneKind sort) count on (LeafShape at))
  leaf_one at on = subst HaveOne (sym (parts-Leaf (OneKind sort) count on at)) (λ none. omega arith)

  abbrev IsOne : Shape → Type 0
  IsOne shape = (on : Stands) → HaveOne (parts_in (OneKind sort) count on shape)

  -- ---- what is read

  module _ (g : Syntax) (has : HasSorts g) (words : List Word) where
    abbrev all_prods : List Production
    all_prods = (with_content g (OneKind sort)).prods

    simple : (p : ℕ) (production : Production) → production_at all_prods p ≡ Some production → length g.names ≤ production.sort → IsSimple production
    simple p production e high =
        let there = get_has all_prods (p - 1) production (there_by (p == 0) (slice_get all_prods (p - 1)) production e) in
        elim (has_either g.prods (one_prods (numbers_of g) sort) production there) [
          | inl front ↦ let less = has.sort production front in absurd (omega (arith, less, high))
          | inr behind ↦ one_simple g sort production behind
        ]

    same_production : (p : ℕ) (one other : Production) → production_at all_prods p ≡ Some one → production_at all_prods p ≡ Some other → one ≡ other
    same_production p one other e f = let s : Some one ≡ Some other = sym e ∙ f in cc

    no_list : (p element : ℕ) (separator : List ℕ) (production : Production) → production_at all_prods p ≡ Some production → length g.names ≤ production.sort
        → IsListOf all_prods p element separator → ⊥
    no_list p element separator production e high list =
        not_both (is_list production.form)
        (ap (λ (it : Production). is_list it.form) (sym (same_production p list.production production list.is e)) ∙ ap is_list list.form)
        (simple p production e high).no_list

    reads_one : {p from past : ℕ} {shape : Shape} → Reads (with_content g (OneKind sort)) words p from past shape
        → (production : Production) → production_at all_prods p ≡ Some production
        → length g.names ≤ production.sort → IsOne shape
    reads_one (reads_plain p from past own shapes shape plain no_bracket parts is) production e high = subst IsOne (sym is) (node_one p shapes)
    reads_one (reads_bracket p from past own shape plain bracket parts) production e high =
        absurd (not_both own.attrs.bracket bracket (subst IsSimple (same_production p production own e plain.is) (simple p production e high)).no_bracket)
    reads_one (reads_list p from past element separator shapes shape list elements wild is) production e high =
        absurd (no_list p element separator production e high list)
    reads_one (reads_rest p from at next element separator first shapes shape list elements between rest is) production e high =
        absurd (no_list p element separator production e high list)
    reads_one (reads_empty p at element separator shape list empty is) production e high = absurd (no_list p element separator production e high list)

    child_one : {place : Option (ℕ × ℕ)} {at_sort from past : ℕ} {shape : Shape} → Child (with_content g (OneKind sort)) words place at_sort from past shape
        → length g.names ≤ at_sort → IsOne shape
    child_one (stands_leaf place at_sort at own shape leaf fits is) high = subst IsOne (sym is) (leaf_one at)
    child_one (stands_wild place at_sort at shape wild named is) high = subst IsOne (sym is) (leaf_one at)
    child_one (stands_token place at_sort at shape asked is) high = subst IsOne (sym is) (leaf_one at)
    child_one (stands_reading place at_sort from past p production shape reads at fits may takes) high =
        let own : production.sort ≡ at_sort = high_alone g has (OneKind sort) production.sort at_sort high fits in
        reads_one reads production at (subst (λ (s : ℕ). length g.names ≤ s) (sym own) high)
    child_one (stands_nothing place at_sort at shape k empty is) high = let some = has.some in absurd (omega (arith, k, some, high))
    child_one (stands_sequence place at_sort from at first second shapes shape k rules opens parts closes is) high =
        let some = has.some in absurd (omega (arith, k, some, high))

    -- ---- contents

    same_some : (a b : ℕ) → Some a ≡ Some b → a ≡ b
    same_some a b e = cc

    no_form : (b : Bool) (s : ℕ) → cond b None None ≡ Some s → ⊥
    no_form true s e = let f : None ≡ Some s = e in cc
    no_form false s e = let f : None ≡ Some s = e in cc

    abbrev ContentHasOne : Kind → Type 0
    ContentHasOne kind =
        (is_new : Bool) (on : Stands) (form : Form) (shape : Shape) → IsContent (with_content g kind) kind is_new words form shape
        → HaveOne (form_parts kind count on form shape)

    content_one : ContentHasOne (OneKind sort)
    content_one is_new on Sides shape content =
        let is : length g.names + 2 ≡ content.sort = same_some (length g.names + 2) content.sort content.sort_is in
        child_one content.only.0 (omega (arith, is)) on
    content_one is_new on MadeForm shape content = absurd (no_form is_new content.sort content.sort_is)
    content_one is_new on Expression shape content = absurd (no_form is_new content.sort content.sort_is)

    -- a content of a single value has one item at most on a side
    pub single_content : (kind : Kind) → kind ≡ OneKind sort → ContentHasOne kind
    single_content kind is = subst ContentHasOne (sym is) content_one
