-- The productions of the contents of a sequence: their roles, and the sorts that they are read at.
use Rattle.std.proofs.Common.{◌≡◌, ◌⊎◌, inl, inr, ℕ, zero, suc, ◌+◌, ◌^◌, ◌≤◌, false, List, [], ◌∷◌, ◌++◌, length, Some, None, refl, subst, arith}
use Rattle.std.specs.Prelude.{codes, slice_get}
use Rattle.std.specs.List.{AllByRecursion}
use Rattle.k_terms.specs.Sorts.{sort_k, sort_kitem}
use Rattle.live_config.proofs.Members.{Has}
use Rattle.grammar_terms.specs.declared.production.Part.TheVariants.{Terminal, Sort}
use Rattle.grammar_terms.specs.declared.production.Production.{Production}
use Rattle.grammar_terms.specs.Grammar.{Syntax, is_list}
use Rattle.grammar_terms.specs.Places.{dot_place, rewrite_place, open_place, close_place, variable_place, empty_place}
use Rattle.grammar_terms.specs.Values.{sorts_in}
use Rattle.rule_terms.specs.declared.defs.Kind.TheVariants.{Seq as SeqKind}
use Rattle.rule_contents.specs.Contents.{numbers_of, several, single, change, change_in_parentheses, seq_prods}
use Rattle.rule_parts.specs.declared.parts.Role.{Role}
use Rattle.rule_parts.specs.declared.parts.Role.TheVariants.{Item as ItemRole, Tail as TailRole, Nothing, Inner as InnerRole, Splice, Whole as WholeRole, Made as MadeRole}
use Rattle.rule_parts.specs.Parts.{roles, role_among}
use Rattle.sound_sequences.proofs.NoMade.{Spares}

-- ---- lists

pub get_either : {X : Type 0} (xs ys : List X) (i : ℕ) (x : X) → slice_get (xs ++ ys) i ≡ Some x
    → (slice_get xs i ≡ Some x) ⊎ ((j : ℕ) × (i ≡ length xs + j) × (slice_get ys j ≡ Some x))
get_either [] ys i x e = inr (i, omega arith, e)
get_either (y ∷ xs) ys zero x e = inl e
get_either (y ∷ xs) ys (suc i) x e = elim (get_either xs ys i x e) [ inl here ↦ inl here | inr later ↦ let place = later.1 in inr (later.0, omega (arith, place), later.2) ]

pub get_has : {X : Type 0} (xs : List X) (i : ℕ) (x : X) → slice_get xs i ≡ Some x → Has xs x
get_has [] i x e = absurd (let f : None ≡ Some x = e in cc)
get_has (y ∷ xs) zero x e = inl (let f : Some y ≡ Some x = e in cc)
get_has (y ∷ xs) (suc i) x e = inr (get_has xs i x e)

-- ---- the productions of a sequence

-- over so many sorts that have names: a sort of contents that is not that of a side and an expression
pub record IsSideSort (n sort : ℕ) : Type 0 where
  pub high : n ≤ sort
  pub other : sort ≡ n + 3 → ⊥

-- what a production of contents says
pub record IsOfSequence (n : ℕ) (role : Role) (production : Production) : Type 0 where
  pub no_bracket : production.attrs.bracket ≡ false
  pub no_list : is_list production.form ≡ false
  pub spares : (production.sort ≡ n + 3 → ⊥) → Spares role (AllByRecursion (IsSideSort n) (sorts_in production.items))
  pub made : production.sort ≡ n + 3 → (role ≡ MadeRole) × (sorts_in production.items ≡ (n + 1) ∷ rewrite_place ∷ sort_k ∷ [])

-- roles and productions in their order
abbrev Paired : ℕ → List Role → List Production → Type 0
Paired n [] [] = Unit {0}
Paired n (role ∷ roles) (production ∷ productions) = IsOfSequence n role production × Paired n roles productions
Paired n [] (production ∷ productions) = ⊥
Paired n (role ∷ roles) [] = ⊥

paired_at : (n : ℕ) (all : List Role) (productions : List Production) (i : ℕ) (production : Production) → Paired n all productions
    → slice_get productions i ≡ Some production
    → IsOfSequence n (role_among all i) production
paired_at n [] [] i production paired e = absurd (let f : None ≡ Some production = e in cc)
paired_at n [] (one ∷ productions) i production paired e = absurd paired
paired_at n (role ∷ all) [] i production paired e = absurd paired
paired_at n (role ∷ all) (one ∷ productions) zero production paired e = let alike : one ≡ production = cc in subst (IsOfSequence n role) alike paired.0
paired_at n (role ∷ all) (one ∷ productions) (suc i) production paired e = paired_at n all productions i production paired.1 e

-- a production of an element, a side or a content
abbrev IsLow : ℕ → ℕ → Type 0
IsLow n sort = (sort ≡ n) ⊎ ((sort ≡ n + 1) ⊎ (sort ≡ n + 2))

not_made : (n sort : ℕ) → IsLow n sort → sort ≡ n + 3 → ⊥
not_made n sort (inl e) f = omega (arith, e, f)
not_made n sort (inr (inl e)) f = omega (arith, e, f)
not_made n sort (inr (inr e)) f = omega (arith, e, f)

side_sort : (n sort : ℕ) → IsLow n sort → IsSideSort n sort
side_sort n sort (inl e) = record { high = omega (arith, e); other = not_made n sort (inl e) }
side_sort n sort (inr (inl e)) = record { high = omega (arith, e); other = not_made n sort (inr (inl e)) }
side_sort n sort (inr (inr e)) = record { high = omega (arith, e); other = not_made n sort (inr (inr e)) }

-- a place that asks for a token
far_sort : (n sort : ℕ) → n ≤ 266 → 2 ^ 31 ≤ sort → IsSideSort n sort
far_sort n sort few far = record { high = omega (arith, few, far); other = λ e. omega (arith, few, far, e) }

module _ (g : Syntax) (few : length g.names ≤ 266) where
  abbrev n : ℕ
  n = length g.names

  low : (role : Role) (production : Production) → production.attrs.bracket ≡ false → is_list production.form ≡ false → IsLow n production.sort
      → Spares role (AllByRecursion (IsSideSort n) (sorts_in production.items)) → IsOfSequence n role production
  low role production bracket list sort spares = record {
    no_bracket = bracket;
    no_list = list;
    spares = λ other. spares;
    made = λ made. absurd (not_made n production.sort sort made);
  }

  element_sort : IsSideSort n n
  element_sort = side_sort n n (inl refl)

  a_side_sort : IsSideSort n (n + 1)
  a_side_sort = side_sort n (n + 1) (inr (inl refl))

  paired : Paired n (roles SeqKind) (seq_prods (numbers_of g))
  paired =
      let at = numbers_of g in
      let item = low ItemRole (single at at.element sort_kitem) refl refl (inl refl) tt in
      let tail = low TailRole (single at at.element (variable_place sort_k)) refl refl (inl refl) tt in
      let dot = low Nothing (single at at.element dot_place) refl refl (inl refl) tt in
      let empty = low Nothing (single at at.element (empty_place sort_k)) refl refl (inl refl) tt in
      let arrow = far_sort n rewrite_place few (omega arith) in
      let opening = far_sort n open_place few (omega arith) in
      let closing = far_sort n close_place few (omega arith) in
      let inner = low InnerRole (several at at.element (change_in_parentheses at.side)) refl refl (inl refl) (opening, (a_side_sort, (arrow, (a_side_sort, (closing, tt))))) in
      let first = low Splice (single at at.side at.element) refl refl (inr (inl refl)) (element_sort, tt) in
      let next =
      low Splice (several at at.side (Sort at.side ∷ Terminal (codes "~>") ∷ Sort at.element ∷ [])) refl refl (inr (inl refl)) (a_side_sort, (element_sort, tt)) in
      let side = low Splice (single at at.content at.side) refl refl (inr (inr refl)) (a_side_sort, tt) in
      let changed = low WholeRole (several at at.content (change at.side at.side)) refl refl (inr (inr refl)) (a_side_sort, (arrow, (a_side_sort, tt))) in
      let made : IsOfSequence n MadeRole (several at at.made (change at.side sort_k)) =
      record { no_bracket = refl; no_list = refl; spares = λ other. absurd (other refl); made = λ same. (refl, refl) } in
      (item, (tail, (dot, (empty, (inner, (first, (next, (side, (changed, (made, tt))))))))))

  pub of_sequence : (i : ℕ) (production : Production) → slice_get (seq_prods (numbers_of g)) i ≡ Some production
      → IsOfSequence n (role_among (roles SeqKind) i) production
  of_sequence i production e = paired_at n (roles SeqKind) (seq_prods (numbers_of g)) i production paired e
