-- The contents of a cell and of those behind it.
use Rattle.std.proofs.Common.{◌≡◌, ◌↔◌, ℕ, ◌+◌, ◌<◌, List, [], ◌∷◌, ◌++◌, length, get_or, drop, refl, sym, ap, subst}
use Rattle.std.specs.Prelude.{Some, None}
use Rattle.std.specs.Option.{option_map, option_and_then}
use Rattle.std.specs.List.{AllByRecursion}
use Rattle.k_terms.specs.declared.value.Content.{Content}
use Rattle.rule_terms.specs.declared.pattern.CellPat.{CellPat}
use Rattle.rule_terms.specs.Substitution.{Subst}
use Rattle.rule_terms.specs.Fill.{content_of}
use Rattle.rule_terms.specs.Spots.{Spot}
use Rattle.right_sides.specs.Contents.{contents_of}
use Rattle.right_sides.proofs.Lists.{left_from}

-- a cell that stands in one with a mark
abbrev pub spot_under : ℕ → CellPat → Spot
spot_under above c = record { cell = c.cell; mark = c.mark; above = Some above; body = c.body }

module _ (p : Spot) (ps : List Spot) (s : Subst) where
  pub both_contents : (own : Content) (others : List Content) → Some own ≡ content_of p.body s → Some others ≡ contents_of ps s → Some (own ∷ others) ≡ contents_of (p ∷ ps) s
  both_contents own others first rest = λ k. option_and_then (λ x. option_map (λ xs. x ∷ xs) (rest k)) (first k)

  pub no_own_content : None ≡ content_of p.body s → None ≡ contents_of (p ∷ ps) s
  no_own_content none = ap (option_and_then (λ x. option_map (λ xs. x ∷ xs) (contents_of ps s))) none

  pub no_other_content : (own : Content) → Some own ≡ content_of p.body s → None ≡ contents_of ps s → None ≡ contents_of (p ∷ ps) s
  no_other_content own first none = λ k. option_and_then (λ x. option_map (λ xs. x ∷ xs) (none k)) (first k)

-- one more, and then several
pub pushed_more : {A : Type 0} (xs : List A) (x : A) (ys : List A) → (xs ++ x ∷ []) ++ ys ≡ xs ++ x ∷ ys
pushed_more [] x ys = refl
pushed_more (z ∷ xs) x ys = ap (λ zs. z ∷ zs) (pushed_more xs x ys)

-- what is true of the next one is true of all where it is of those behind it
pub true_of_next : {A : Type 0} (P : A → Type 0) (xs : List A) (i : ℕ) (x : A) (All : Type 0) → i < length xs → x ≡ get_or xs i x → P x
    → (All ↔ AllByRecursion P (drop i xs)) → All ↔ AllByRecursion P (drop (i + 1) xs)
true_of_next P xs i x All within is here before = (
  (λ all. (subst (AllByRecursion P) (left_from xs i x within is) (before.0 all)).1),
  (λ rest. before.1 (subst (AllByRecursion P) (sym (left_from xs i x within is)) (here, rest))),
)
