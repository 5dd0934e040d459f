-- What is filled under two substitutions that are equal up to the order of cells in a rest is alike.
use Rattle.std.proofs.Common.{◌≡◌, ℕ, zero, suc, List, [], ◌∷◌, ◌++◌, Option, Some, None, refl, sym, ap, subst, ◌∙◌}
use Rattle.std.specs.Prelude.{slice_get}
use Rattle.std.specs.Option.{option_map, option_and_then}
use mathlib.Core.Former.{Count}
use Rattle.k_terms.specs.declared.value.Content.TheVariants.{Cells as NoContent}
use Rattle.rule_terms.specs.declared.plain.Plain.{Plain}
use Rattle.rule_terms.specs.declared.pattern.Body.{Body, Cells', Seq, Map, List as Listed, One, Made, Row_of-CellPat, end_of-CellPat, more_of-CellPat}
use Rattle.rule_terms.specs.declared.pattern.CellPat.{CellPat}
use Rattle.rule_terms.specs.Options.{joined}
use Rattle.rule_terms.specs.Substitution.{Whole, Bag, Subst, bag_of, cells_of}
use Rattle.rule_terms.specs.Fill.{plain_cell, content_of, fill_body, fill_row, fill}
use Rattle.rule_terms.specs.Rewriting.{Alike}
use Rattle.rule_terms.proofs.Alike.{alike_self}
use Rattle.rule_terms.proofs.Defined.{and_then_gives, map_gives, joined_gives}
use Rattle.live_config.specs.Steps.{PairOff, SubstAlike}
use Rattle.live_config.proofs.AlikeCells.{alike_cell}
use Rattle.site_laws.proofs.SameValues.{same_values, content_same}
use Rattle.step_laws.proofs.Pairing.{join_pairs}

-- a cell that is filled, alike this one
pub record IsFilledAlike (filled : Option Plain) (t : Plain) : Type 0 where
  pub cell : Plain
  pub is : filled ≡ Some cell
  pub like : Alike t cell

-- cells that are filled, and that these pair off with
record AreFilledAlike (filled : Option (List Plain)) (ts : List Plain) : Type 0 where
  cells : List Plain
  are : filled ≡ Some cells
  pairs : PairOff ts cells

-- no cells
none_alike : (ts : List Plain) → Some [] ≡ Some ts → AreFilledAlike (Some []) ts
none_alike ts e =
    let same : ts ≡ [] = (let f : Some [] ≡ Some ts = e in cc) in
    record { cells = []; are = refl; pairs = subst (λ xs. PairOff xs []) (sym same) refl }

-- a rest of cells
bag_alike : (s t : Subst) (x : ℕ) (ts : List Plain) → SubstAlike s t → option_and_then bag_of (slice_get s x) ≡ Some ts
    → AreFilledAlike (option_and_then bag_of (slice_get t x)) ts
bag_alike [] t x ts like e = absurd (let f : None ≡ Some ts = e in cc)
bag_alike (b ∷ s) [] x ts like e = absurd like
bag_alike (Whole v ∷ s) (c ∷ t) zero ts like e = absurd (let f : None ≡ Some ts = e in cc)
bag_alike (Bag us ∷ s) (Whole w ∷ t) zero ts like e = absurd like.0
bag_alike (Bag us ∷ s) (Bag ws ∷ t) zero ts like e =
    let same : us ≡ ts = (let f : Some us ≡ Some ts = e in cc) in
    record { cells = ws; are = refl; pairs = subst (λ xs. PairOff xs ws) same like.0 }
bag_alike (b ∷ s) (c ∷ t) (suc x) ts like e = bag_alike s t x ts like.1 e

module _ (s t : Subst) (like : SubstAlike s t) where
  rest_alike : (rest : Option ℕ) (ts : List Plain) → cells_of rest s ≡ Some ts → AreFilledAlike (cells_of rest t) ts
  rest_alike None ts e = none_alike ts e
  rest_alike (Some x) ts e = bag_alike s t x ts like e

  leaf_alike : (cell : ℕ) (body : Body) (u : Plain) → option_map (λ content. plain_cell cell content []) (content_of body s) ≡ Some u
      → IsFilledAlike (option_map (λ content. plain_cell cell content []) (content_of body t)) u
  leaf_alike cell body u e = record {
    cell = u;
    is = ap (option_map (λ content. plain_cell cell content [])) (sym (content_same s t (same_values s t like) body)) ∙ e;
    like = alike_self u;
  }

  mutual
    unfolding fill_body fill_row

    body_alike : (cell : ℕ) (body : Body) (u : Plain) → fill_body cell body s ≡ Some u → IsFilledAlike (fill_body cell body t) u
    body_alike cell (Cells' shape children rest) u e =
        let m = map_gives (plain_cell cell NoContent) (joined (fill_row children s) (cells_of rest s)) u e in
        let j = joined_gives (fill_row children s) (cells_of rest s) m.0 m.1 in
        let row = children_alike children j.0 j.2 in
        let further = rest_alike rest j.1 j.3 in
        record {
          cell = plain_cell cell NoContent (row.cells ++ further.cells);
          is = λ i. option_map (plain_cell cell NoContent) (joined (row.are i) (further.are i));
          like =
              subst (λ v. Alike v (plain_cell cell NoContent (row.cells ++ further.cells))) (ap (plain_cell cell NoContent) j.4 ∙ m.2)
              (alike_cell cell NoContent (j.0 ++ j.1) (row.cells ++ further.cells) (join_pairs j.0 row.cells j.1 further.cells row.pairs further.pairs));
        }
    body_alike cell (Seq parts rest) u e = leaf_alike cell (Seq parts rest) u e
    body_alike cell (Map entries rest) u e = leaf_alike cell (Map entries rest) u e
    body_alike cell (Listed before rest after) u e = leaf_alike cell (Listed before rest after) u e
    body_alike cell (One p) u e = leaf_alike cell (One p) u e
    body_alike cell (Made p) u e = leaf_alike cell (Made p) u e

    children_alike : {n : Count} (row : Row_of-CellPat n) (ts : List Plain) → fill_row row s ≡ Some ts → AreFilledAlike (fill_row row t) ts
    children_alike end_of-CellPat ts e = none_alike ts e
    children_alike (more_of-CellPat cell mark body cells) ts e =
        let a = and_then_gives (λ u. option_map (λ us. u ∷ us) (fill_row cells s)) (fill_body cell body s) ts e in
        let m = map_gives (λ us. a.0 ∷ us) (fill_row cells s) ts a.2 in
        let first = body_alike cell body a.0 a.1 in
        let others = children_alike cells m.0 m.1 in
        record {
          cells = first.cell ∷ others.cells;
          are = λ i. option_and_then (λ u. option_map (λ us. u ∷ us) (others.are i)) (first.is i);
          pairs = subst (λ xs. PairOff xs (first.cell ∷ others.cells)) m.2 ([], first.cell, others.cells, refl, first.like, others.pairs);
        }

  pub fill_alike : (p : CellPat) (u : Plain) → fill p s ≡ Some u → IsFilledAlike (fill p t) u
  fill_alike p u e = body_alike p.cell p.body u e
