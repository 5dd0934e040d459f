-- What the roles of the productions of contents ask of the sorts of their items.
use Rattle.std.proofs.Common.{◌≡◌, ℕ, zero, suc, ◌-◌, Bool, true, false, cond, ◌==◌, List, [], ◌∷◌, ◌++◌, length, Option, Some, None, refl, sym, ap, subst, ◌∙◌, arith}
use Rattle.std.proofs.lemmas.Bool.Decides.{nat_tests}
use Rattle.std.specs.Prelude.{slice_get, nat_lt}
use Rattle.k_terms.specs.Sorts.{sort_kitem}
use Rattle.grammar_terms.specs.declared.production.Production.{Production}
use Rattle.grammar_terms.specs.Grammar.{Syntax, production_at}
use Rattle.grammar_terms.specs.Values.{sorts_in}
use Rattle.rule_terms.specs.declared.defs.Kind.{Kind}
use Rattle.rule_terms.specs.declared.defs.Kind.TheVariants.{Cells as CellsKind, Seq as SeqKind, Map as MapKind, List as ListKind, One as OneKind}
use Rattle.rule_contents.specs.Contents.{numbers_of, content_prods, with_content}
use Rattle.rule_parts.specs.declared.parts.Role.{Role}
use Rattle.rule_parts.specs.declared.parts.Role.TheVariants.{Item as ItemRole, Tail as TailRole, Entry as EntryRole, Rest as RestRole, Nothing, Inner as InnerRole, Splice, Whole as WholeRole, Made as MadeRole, Value, Changed, Becomes}
use Rattle.rule_parts.specs.Parts.{roles, role_among, role_of}
use Rattle.rule_parts.specs.Sides.{item_sort, whole_sort}

-- ---- which parts a content of a kind may have

abbrev pub has_items : Kind → Bool
has_items CellsKind = false
has_items SeqKind = true
has_items MapKind = false
has_items ListKind = true
has_items (OneKind sort) = true

abbrev pub has_tails : Kind → Bool
has_tails CellsKind = false
has_tails SeqKind = true
has_tails MapKind = false
has_tails ListKind = false
has_tails (OneKind sort) = false

abbrev pub has_entries : Kind → Bool
has_entries CellsKind = false
has_entries SeqKind = false
has_entries MapKind = true
has_entries ListKind = false
has_entries (OneKind sort) = false

abbrev pub has_rests : Kind → Bool
has_rests CellsKind = false
has_rests SeqKind = false
has_rests MapKind = true
has_rests ListKind = true
has_rests (OneKind sort) = false

-- a role suits the sorts of a production's items
pub data Suits (kind : Kind) : Role → List ℕ → Type 0 where
  suits_item : (item : ℕ) → has_items kind ≡ true → item ≡ item_sort kind → Suits kind ItemRole (item ∷ [])
  suits_tail : (sorts : List ℕ) → has_tails kind ≡ true → Suits kind TailRole sorts
  suits_entry : (key entry : ℕ) → has_entries kind ≡ true → key ≡ sort_kitem → Suits kind EntryRole (key ∷ entry ∷ [])
  suits_rest : (sorts : List ℕ) → has_rests kind ≡ true → Suits kind RestRole sorts
  suits_nothing : (sorts : List ℕ) → Suits kind Nothing sorts
  suits_inner : (opening before arrow after closing : ℕ) → Suits kind InnerRole (opening ∷ before ∷ arrow ∷ after ∷ closing ∷ [])
  suits_part : (part : ℕ) → Suits kind Splice (part ∷ [])
  suits_parts : (part other : ℕ) → Suits kind Splice (part ∷ other ∷ [])
  suits_whole : (before arrow after : ℕ) → Suits kind WholeRole (before ∷ arrow ∷ after ∷ [])
  suits_made : (before arrow after : ℕ) → after ≡ whole_sort kind → Suits kind MadeRole (before ∷ arrow ∷ after ∷ [])
  suits_value : (value : ℕ) → has_entries kind ≡ true → value ≡ sort_kitem → Suits kind Value (value ∷ [])
  suits_changed : (opening before arrow after closing : ℕ) → has_entries kind ≡ true → before ≡ sort_kitem → after ≡ sort_kitem
      → Suits kind Changed (opening ∷ before ∷ arrow ∷ after ∷ closing ∷ [])
  suits_becomes : (before arrow after : ℕ) → has_items kind ≡ true → before ≡ item_sort kind → after ≡ item_sort kind → Suits kind Becomes (before ∷ arrow ∷ after ∷ [])

-- roles and productions in their order
abbrev Paired : Kind → List Role → List Production → Type 0
Paired kind [] [] = Unit {0}
Paired kind (role ∷ roles) (production ∷ productions) = Suits kind role (sorts_in production.items) × Paired kind roles productions
Paired kind [] (production ∷ productions) = ⊥
Paired kind (role ∷ roles) [] = ⊥

paired_at : (kind : Kind) (all : List Role) (productions : List Production) (i : ℕ) (production : Production) → Paired kind all productions → slice_get productions i ≡ Some production
    → Suits kind (role_among all i) (sorts_in production.items)
paired_at kind [] [] i production paired e = absurd (let f : None ≡ Some production = e in cc)
paired_at kind [] (one ∷ productions) i production paired e = absurd paired
paired_at kind (role ∷ all) [] i production paired e = absurd paired
paired_at kind (role ∷ all) (one ∷ productions) zero production paired e =
    let same : one ≡ production = cc in subst (λ (it : Production). Suits kind role (sorts_in it.items)) same paired.0
paired_at kind (role ∷ all) (one ∷ productions) (suc i) production paired e = paired_at kind all productions i production paired.1 e

contents_paired : (g : Syntax) (kind : Kind) → Paired kind (roles kind) (content_prods (numbers_of g) kind)
contents_paired g CellsKind = tt
contents_paired g SeqKind = (
  suits_item _ refl refl,
  (
    suits_tail _ refl,
    (
      suits_nothing _,
      (
        suits_nothing _,
        (
          suits_inner _ _ _ _ _,
          (
            suits_part _,
            (
              suits_parts _ _,
              (
                suits_part _,
                (
                  suits_whole _ _ _,
                  (suits_made _ _ _ refl, tt),
                ),
              ),
            ),
          ),
        ),
      ),
    ),
  ),
)
contents_paired g MapKind = (
  suits_entry _ _ refl refl,
  (
    suits_rest _ refl,
    (
      suits_rest _ refl,
      (
        suits_nothing _,
        (
          suits_nothing _,
          (
            suits_inner _ _ _ _ _,
            (
              suits_value _ refl refl,
              (suits_changed _ _ _ _ _ refl refl refl, (suits_nothing _, (suits_part _, (suits_whole _ _ _, (suits_made _ _ _ refl, tt))))),
            ),
          ),
        ),
      ),
    ),
  ),
)
contents_paired g ListKind = (
  suits_item _ refl refl,
  (
    suits_rest _ refl,
    (
      suits_rest _ refl,
      (
        suits_nothing _,
        (
          suits_nothing _,
          (
            suits_inner _ _ _ _ _,
            (
              suits_nothing _,
              (
                suits_part _,
                (
                  suits_whole _ _ _,
                  (suits_made _ _ _ refl, tt),
                ),
              ),
            ),
          ),
        ),
      ),
    ),
  ),
)
contents_paired g (OneKind sort) = (suits_item _ refl refl, (suits_becomes _ _ _ refl refl refl, tt))

-- ---- the role of a production by its number

later_one : {X : Type 0} (xs ys : List X) (n : ℕ) → nat_lt (length xs) n ≡ true → slice_get (xs ++ ys) (n - 1) ≡ slice_get ys (n - length xs - 1)
later_one [] ys n less = ap (slice_get ys) (let e : n - 1 ≡ n - 0 - 1 = omega arith in e)
later_one (x ∷ xs) ys zero less = absurd (grind (arith, nat_tests))
later_one (x ∷ xs) ys (suc zero) less = absurd (grind (arith, nat_tests))
later_one (x ∷ xs) ys (suc (suc n)) less =
    ap (slice_get (x ∷ xs ++ ys)) (let e : suc (suc n) - 1 ≡ suc (suc n - 1) = omega arith in e) ∙ later_one xs ys (suc n) (grind (arith, nat_tests))
    ∙ ap (slice_get ys) (let e : suc n - length xs - 1 ≡ suc (suc n) - length (x ∷ xs) - 1 = omega arith in e)

pub there_by : {X : Type 0} (b : Bool) (found : Option X) (x : X) → cond b None found ≡ Some x → found ≡ Some x
there_by true found x e = cc
there_by false found x e = e

suits_by : (g : Syntax) (kind : Kind) (p : ℕ) (production : Production) (b : Bool) → nat_lt (length g.prods) p ≡ b → production_at (with_content g kind).prods p ≡ Some production
    → Suits kind (cond b (role_among (roles kind) (p - length g.prods - 1)) Nothing) (sorts_in production.items)
suits_by g kind p production false away there = suits_nothing _
suits_by g kind p production true here there =
    paired_at kind (roles kind) (content_prods (numbers_of g) kind) (p - length g.prods - 1) production (contents_paired g kind)
    (sym (later_one g.prods (content_prods (numbers_of g) kind) p here) ∙ there_by (p == 0) (slice_get (with_content g kind).prods (p - 1)) production there)

-- the role of each production suits the sorts of its items
pub its_role : (g : Syntax) (kind : Kind) (p : ℕ) (production : Production) → production_at (with_content g kind).prods p ≡ Some production
    → Suits kind (role_of kind (length g.prods) p) (sorts_in production.items)
its_role g kind p production there = suits_by g kind p production (nat_lt (length g.prods) p) refl there
