-- The roles of the productions of contents suit the sorts of their items.
use Rattle.std.proofs.Common.{◌≡◌, ℕ, zero, suc, ◌+◌, ◌<◌, ◌≤◌, true, false, List, [], ◌∷◌, Some, None, refl, subst, sym, ◌∙◌, arith}
use Rattle.std.specs.Prelude.{slice_get, length}
use Rattle.std.specs.List.{AllByRecursion}
use Rattle.k_terms.specs.Sorts.{sort_k, sort_kitem, sort_map, sort_list}
use Rattle.grammar_terms.specs.declared.production.Production.{Production}
use Rattle.grammar_terms.specs.Grammar.{Syntax, is_list}
use Rattle.grammar_terms.specs.Places.{rewrite_place, open_place, close_place}
use Rattle.grammar_terms.specs.Values.{sorts_in}
use Rattle.rule_terms.specs.declared.defs.Kind.{Kind}
use Rattle.rule_terms.specs.declared.defs.Kind.TheVariants.{Cells as CellsKind, Seq as SeqKind, Map as MapKind, List as ListKind, One as OneKind}
use Rattle.rule_contents.specs.Contents.{numbers_of, row_of_elements, content_prods}
use Rattle.rule_parts.specs.declared.parts.Role.{Role}
use Rattle.rule_parts.specs.declared.parts.Role.TheVariants.{Item as ItemRole, Tail as TailRole, Entry as EntryRole, Rest as RestRole, Nothing, Inner as InnerRole, Splice, Whole as WholeRole, Made as MadeRole, Value, Changed, Becomes}
use Rattle.rule_parts.specs.Parts.{roles, role_among}

-- Over so many sorts that have names: the sort of an element, a side or a whole content, and that of what stands behind a key.
abbrev pub IsPartSort : ℕ → ℕ → Type 0
IsPartSort n sort = (n ≤ sort) × (sort < n + 4)

abbrev pub entry_sort : ℕ → ℕ
entry_sort n = n + 4

-- a role suits the sorts of a production's items
pub data Suits (n : ℕ) : Role → List ℕ → Type 0 where
  suits_item : (item : ℕ) → item < n → Suits n ItemRole (item ∷ [])
  suits_tail : (sorts : List ℕ) → Suits n TailRole sorts
  suits_entry : (key entry : ℕ) → key < n → entry ≡ entry_sort n → Suits n EntryRole (key ∷ entry ∷ [])
  suits_rest : (sorts : List ℕ) → Suits n RestRole sorts
  suits_nothing : (sorts : List ℕ) → Suits n Nothing sorts
  suits_inner : (opening before arrow after closing : ℕ) → IsPartSort n before → IsPartSort n after → Suits n InnerRole (opening ∷ before ∷ arrow ∷ after ∷ closing ∷ [])
  suits_part : (part : ℕ) → IsPartSort n part → Suits n Splice (part ∷ [])
  suits_parts : (part other : ℕ) → IsPartSort n part → IsPartSort n other → Suits n Splice (part ∷ other ∷ [])
  suits_whole : (before arrow after : ℕ) → IsPartSort n before → IsPartSort n after → Suits n WholeRole (before ∷ arrow ∷ after ∷ [])
  suits_made : (before arrow after : ℕ) → IsPartSort n before → after < n → Suits n MadeRole (before ∷ arrow ∷ after ∷ [])
  suits_value : (value : ℕ) → value < n → Suits n Value (value ∷ [])
  suits_changed : (opening before arrow after closing : ℕ) → before < n → after < n → Suits n Changed (opening ∷ before ∷ arrow ∷ after ∷ closing ∷ [])
  suits_becomes : (before arrow after : ℕ) → before < n → after < n → Suits n Becomes (before ∷ arrow ∷ after ∷ [])

-- A production of contents is no bracket; a list has parts of contents for its elements.
pub record IsOfContents (n : ℕ) (role : Role) (production : Production) : Type 0 where
  pub high : n ≤ production.sort
  pub suits : Suits n role (sorts_in production.items)
  pub elements : is_list production.form ≡ true → AllByRecursion (IsPartSort n) (sorts_in production.items)
  pub no_bracket : production.attrs.bracket ≡ false

-- roles and productions in their order
abbrev pub Paired : ℕ → List Role → List Production → Type 0
Paired n [] [] = Unit {0}
Paired n (role ∷ roles) (production ∷ productions) = IsOfContents n role production × Paired n roles productions
Paired n [] (production ∷ productions) = ⊥
Paired n (role ∷ roles) [] = ⊥

pub paired_at : (n : ℕ) (all : List Role) (productions : List Production) (i : ℕ) (production : Production) → Paired n all productions → slice_get productions i ≡ Some production
    → IsOfContents n (role_among all i) production
paired_at n [] [] i production paired e = absurd (let f : None ≡ Some production = e in cc)
paired_at n [] (one ∷ productions) i production paired e = absurd paired
paired_at n (role ∷ all) [] i production paired e = absurd paired
paired_at n (role ∷ all) (one ∷ productions) zero production paired e = let same : one ≡ production = cc in subst (IsOfContents n role) same paired.0
paired_at n (role ∷ all) (one ∷ productions) (suc i) production paired e = paired_at n all productions i production paired.1 e

module _ (g : Syntax) (some : 10 ≤ length g.names) where
  abbrev n : ℕ
  n = length g.names

  abbrev IsOf : Role → Production → Type 0
  IsOf role production = IsOfContents n role production

  element_is : IsPartSort n n
  element_is = (omega arith, omega arith)

  side_is : IsPartSort n (n + 1)
  side_is = (omega arith, omega arith)

  one_of : (role : Role) (sorts : List ℕ) (production : Production) → n ≤ production.sort → sorts ≡ sorts_in production.items → Suits n role sorts → is_list production.form ≡ false → production.attrs.bracket ≡ false
      → IsOf role production
  one_of role sorts production high same suits plain no_bracket = record {
    high = high;
    suits = subst (Suits n role) same suits;
    elements = λ e. absurd (let f : false ≡ true = sym plain ∙ e in cc);
    no_bracket = no_bracket;
  }

  row_of : IsOf Nothing (row_of_elements (numbers_of g))
  row_of = record { high = omega arith; suits = suits_nothing _; elements = λ e. (element_is, tt); no_bracket = refl }

  pub contents_paired : (kind : Kind) → ((sort : ℕ) → kind ≡ OneKind sort → sort < n) → Paired n (roles kind) (content_prods (numbers_of g) kind)
  contents_paired CellsKind named = tt
  contents_paired SeqKind named = (
    one_of ItemRole (sort_kitem ∷ []) _ (omega arith) refl (suits_item sort_kitem (omega (arith, some))) refl refl,
    (
      one_of TailRole _ _ (omega arith) refl (suits_tail _) refl refl,
      (
        one_of Nothing _ _ (omega arith) refl (suits_nothing _) refl refl,
        (
          one_of Nothing _ _ (omega arith) refl (suits_nothing _) refl refl,
          (
            one_of InnerRole _ _ (omega arith) refl (suits_inner open_place (n + 1) rewrite_place (n + 1) close_place side_is side_is) refl refl,
            (
              one_of Splice _ _ (omega arith) refl (suits_part n element_is) refl refl,
              (
                one_of Splice _ _ (omega arith) refl (suits_parts (n + 1) n side_is element_is) refl refl,
                (
                  one_of Splice _ _ (omega arith) refl (suits_part (n + 1) side_is) refl refl,
                  (
                    one_of WholeRole _ _ (omega arith) refl (suits_whole (n + 1) rewrite_place (n + 1) side_is side_is) refl refl,
                    (
                      one_of MadeRole _ _ (omega arith) refl (suits_made (n + 1) rewrite_place sort_k side_is (omega (arith, some))) refl refl,
                      tt,
                    ),
                  ),
                ),
              ),
            ),
          ),
        ),
      ),
    ),
  )
  contents_paired MapKind named = (
    one_of EntryRole _ _ (omega arith) refl (suits_entry sort_kitem (n + 4) (omega (arith, some)) refl) refl refl,
    (
      one_of RestRole _ _ (omega arith) refl (suits_rest _) refl refl,
      (
        one_of RestRole _ _ (omega arith) refl (suits_rest _) refl refl,
        (
          one_of Nothing _ _ (omega arith) refl (suits_nothing _) refl refl,
          (
            one_of Nothing _ _ (omega arith) refl (suits_nothing _) refl refl,
            (
              one_of InnerRole _ _ (omega arith) refl (suits_inner open_place (n + 1) rewrite_place (n + 1) close_place side_is side_is) refl refl,
              (
                one_of Value _ _ (omega arith) refl (suits_value sort_kitem (omega (arith, some))) refl refl,
                (
                  one_of Changed _ _ (omega arith) refl (suits_changed open_place sort_kitem rewrite_place sort_kitem close_place (omega (arith, some)) (omega (arith, some))) refl refl,
                  (
                    row_of,
                    (
                      one_of Splice _ _ (omega arith) refl (suits_part (n + 1) side_is) refl refl,
                      (
                        one_of WholeRole _ _ (omega arith) refl (suits_whole (n + 1) rewrite_place (n + 1) side_is side_is) refl refl,
                        (
                          one_of MadeRole _ _ (omega arith) refl (suits_made (n + 1) rewrite_place sort_map side_is (omega (arith, some))) refl refl,
                          tt,
                        ),
                      ),
                    ),
                  ),
                ),
              ),
            ),
          ),
        ),
      ),
    ),
  )
  contents_paired ListKind named = (
    one_of ItemRole (sort_kitem ∷ []) _ (omega arith) refl (suits_item sort_kitem (omega (arith, some))) refl refl,
    (
      one_of RestRole _ _ (omega arith) refl (suits_rest _) refl refl,
      (
        one_of RestRole _ _ (omega arith) refl (suits_rest _) refl refl,
        (
          one_of Nothing _ _ (omega arith) refl (suits_nothing _) refl refl,
          (
            one_of Nothing _ _ (omega arith) refl (suits_nothing _) refl refl,
            (
              one_of InnerRole _ _ (omega arith) refl (suits_inner open_place (n + 1) rewrite_place (n + 1) close_place side_is side_is) refl refl,
              (
                row_of,
                (
                  one_of Splice _ _ (omega arith) refl (suits_part (n + 1) side_is) refl refl,
                  (
                    one_of WholeRole _ _ (omega arith) refl (suits_whole (n + 1) rewrite_place (n + 1) side_is side_is) refl refl,
                    (
                      one_of MadeRole _ _ (omega arith) refl (suits_made (n + 1) rewrite_place sort_list side_is (omega (arith, some))) refl refl,
                      tt,
                    ),
                  ),
                ),
              ),
            ),
          ),
        ),
      ),
    ),
  )
  contents_paired (OneKind sort) named = (
    one_of ItemRole _ _ (omega arith) refl (suits_item sort (named sort refl)) refl refl,
    (
      one_of Becomes _ _ (omega arith) refl (suits_becomes sort rewrite_place sort (named sort refl) (named sort refl)) refl refl,
      tt,
    ),
  )
