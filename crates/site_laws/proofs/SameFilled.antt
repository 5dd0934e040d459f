-- What is filled under a substitution is filled under one that is equal up to the order of cells in a rest.
use Rattle.std.proofs.Common.{◌≡◌, ℕ, zero, suc, true, false, List, [], ◌∷◌, ◌++◌, Option, Some, None, refl, sym, ap, ◌∙◌}
use Rattle.std.specs.Prelude.{slice_get, IsSome}
use Rattle.std.specs.Option.{option_map, option_and_then}
use mathlib.Core.Former.{Count}
use Rattle.k_terms.specs.declared.value.Content.TheVariants.{Cells as NoContent}
use Rattle.rule_terms.specs.declared.pattern.Body.{Body, Cells', Seq, Map, List as Listed, One, Made, Row_of-CellPat, end_of-CellPat, more_of-CellPat}
use Rattle.rule_terms.specs.declared.pattern.CellPat.{CellPat}
use Rattle.rule_terms.specs.Options.{joined}
use Rattle.rule_terms.specs.Substitution.{Whole, Bag, Subst, bag_of, cells_of}
use Rattle.rule_terms.specs.Fill.{plain_cell, content_of, fill_body, fill_row, fill}
use Rattle.rule_terms.proofs.Defined.{and_then_gives, map_gives, joined_gives}
use Rattle.live_config.specs.Steps.{SubstAlike}
use Rattle.site_laws.proofs.SameValues.{same_values, content_same}

-- a value that may be undefined is defined
abbrev pub IsDefined : {A : Type 0} → Option A → Type 0
IsDefined {A} o = (x : A) × (o ≡ Some x)

pub some_defined : {A : Type 0} (o : Option A) → IsSome o → IsDefined o
some_defined None e = absurd (let f : false ≡ true = e in cc)
some_defined (Some x) e = (x, refl)

pub defined_some : {A : Type 0} (o : Option A) → IsDefined o → IsSome o
defined_some None d = absurd (let f : None ≡ Some d.0 = d.1 in cc)
defined_some (Some x) d = refl

pub map_defined : {A B : Type 0} (f : A → B) (o : Option A) → IsDefined o → IsDefined (option_map f o)
map_defined f o d = (f d.0, ap (option_map f) d.1)

pub joined_defined : {A : Type 0} (o p : Option (List A)) → IsDefined o → IsDefined p → IsDefined (joined o p)
joined_defined o p d e = (d.0 ++ e.0, λ i. joined (d.1 i) (e.1 i))

-- a rest of cells
bag_defined : (s t : Subst) (x : ℕ) → SubstAlike s t → IsDefined (option_and_then bag_of (slice_get s x))
    → IsDefined (option_and_then bag_of (slice_get t x))
bag_defined [] [] x like d = d
bag_defined [] (c ∷ t) x like d = absurd like
bag_defined (b ∷ s) [] x like d = absurd like
bag_defined (Whole v ∷ s) (Whole w ∷ t) zero like d = absurd (let f : None ≡ Some d.0 = d.1 in cc)
bag_defined (Whole v ∷ s) (Bag us ∷ t) zero like d = absurd like.0
bag_defined (Bag ts ∷ s) (Whole w ∷ t) zero like d = absurd like.0
bag_defined (Bag ts ∷ s) (Bag us ∷ t) zero like d = (us, refl)
bag_defined (b ∷ s) (c ∷ t) (suc x) like d = bag_defined s t x like.1 d

module _ (s t : Subst) (like : SubstAlike s t) where
  cells_defined : (rest : Option ℕ) → IsDefined (cells_of rest s) → IsDefined (cells_of rest t)
  cells_defined None d = ([], refl)
  cells_defined (Some x) d = bag_defined s t x like d

  leaf_defined : (cell : ℕ) (body : Body) → IsDefined (option_map (λ content. plain_cell cell content []) (content_of body s))
      → IsDefined (option_map (λ content. plain_cell cell content []) (content_of body t))
  leaf_defined cell body d = (d.0, ap (option_map (λ content. plain_cell cell content [])) (sym (content_same s t (same_values s t like) body)) ∙ d.1)

  mutual
    unfolding fill_body fill_row

    body_defined : (cell : ℕ) (body : Body) → IsDefined (fill_body cell body s) → IsDefined (fill_body cell body t)
    body_defined cell (Cells' shape children rest) d =
        let m = map_gives (plain_cell cell NoContent) (joined (fill_row children s) (cells_of rest s)) d.0 d.1 in
        let j = joined_gives (fill_row children s) (cells_of rest s) m.0 m.1 in
        map_defined (plain_cell cell NoContent) (joined (fill_row children t) (cells_of rest t))
        (joined_defined (fill_row children t) (cells_of rest t) (row_defined children (j.0, j.2)) (cells_defined rest (j.1, j.3)))
    body_defined cell (Seq parts rest) d = leaf_defined cell (Seq parts rest) d
    body_defined cell (Map entries rest) d = leaf_defined cell (Map entries rest) d
    body_defined cell (Listed before rest after) d = leaf_defined cell (Listed before rest after) d
    body_defined cell (One p) d = leaf_defined cell (One p) d
    body_defined cell (Made p) d = leaf_defined cell (Made p) d

    row_defined : {n : Count} (row : Row_of-CellPat n) → IsDefined (fill_row row s) → IsDefined (fill_row row t)
    row_defined end_of-CellPat d = ([], refl)
    row_defined (more_of-CellPat cell mark body cells) d =
        let a = and_then_gives (λ u. option_map (λ us. u ∷ us) (fill_row cells s)) (fill_body cell body s) d.0 d.1 in
        let m = map_gives (λ us. a.0 ∷ us) (fill_row cells s) d.0 a.2 in
        let first = body_defined cell body (a.0, a.1) in
        let rest = row_defined cells (m.0, m.1) in
        (first.0 ∷ rest.0, λ i. option_and_then (λ u. option_map (λ us. u ∷ us) (rest.1 i)) (first.1 i))

  pub fill_defined : (p : CellPat) → IsSome (fill p s) → IsSome (fill p t)
  fill_defined p e = defined_some (fill p t) (body_defined p.cell p.body (some_defined (fill p s) e))
