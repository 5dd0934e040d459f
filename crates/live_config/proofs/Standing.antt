-- A side that stands in a configuration: each of its cells stands at its number, and the rest of cells is the further
-- children. Then the side is filled to the tree of its outermost cell.
use Rattle.std.proofs.Common.{inl, inr, ◌≡◌, ℕ, List, [], ◌∷◌, ◌++◌, map, Option, Some, None, refl, sym, ap, subst, ◌∙◌}
use Rattle.std.specs.Prelude.{IsSomeAnd, is_none, true, false}
use Rattle.std.specs.Option.{option_map, option_and_then}
use Rattle.std.proofs.lemmas.List.{map-append}
use Rattle.std.proofs.Common.{filter}
use mathlib.Core.Former.{Count}
use Rattle.k_terms.specs.declared.value.Content.{Content}
use Rattle.k_terms.specs.declared.value.Content.TheVariants.{Cells as NoContent}
use Rattle.rule_terms.specs.declared.plain.Plain.{Plain}
use Rattle.rule_terms.specs.declared.pattern.Body.{Body, Cells', Seq, Map, List as Listed, One, Made, Row_of-CellPat, end_of-CellPat, more_of-CellPat}
use Rattle.rule_terms.specs.declared.pattern.CellPat.{CellPat}
use Rattle.rule_terms.specs.Options.{joined}
use Rattle.rule_terms.specs.Substitution.{Subst, cells_of}
use Rattle.rule_terms.specs.Fill.{content_of, plain_cell, fill_body, fill_row}
use Rattle.rule_terms.specs.Rewriting.{Alike, IsFilled}
use Rattle.rule_terms.specs.Sound.{cells_rest}
use Rattle.rule_terms.specs.Spots.{Spot, spots, spots_in, row_spots, row_marks, child_marks}
use Rattle.rule_terms.specs.Language.{Language}
use Rattle.live_config.specs.Steps.{PairOff}
use Rattle.live_config.specs.declared.cell.Cell.{Cell}
use Rattle.live_config.specs.Configuration.{Configuration, cell_at, parent_number, below, level_limit, tree, plain, first_number, root_of}
use Rattle.live_config.proofs.Trees.{plain_some}
use Rattle.live_config.proofs.Members.{Has, has_left, has_right, kept, keeps, Leaves}
use Rattle.live_config.proofs.Children.{found_has, has_found, numbers_rise}
use Rattle.live_config.proofs.Levels.{IsTidy, tree_step}
use Rattle.live_config.proofs.AlikeCells.{pair_off_self, alike_cell}

-- the numbers of the cells with these marks
abbrev pub numbered : (ℕ → Option ℕ) → List ℕ → List ℕ
numbered number [] = []
numbered number (mark ∷ marks) = elim (number mark) [ None ↦ numbered number marks | Some n ↦ n ∷ numbered number marks ]

-- A cell of a side stands at this number: the cell there is its declared cell and has its content, and the children are
-- the cells that stand in it and others, which its rest of cells stands for.
pub record StandsAt (c : Configuration) (number : ℕ → Option ℕ) (s : Subst) (p : Spot) (n : ℕ) : Type 0 where
  pub cell : Cell
  pub there : cell_at c n ≡ Some cell
  pub kind : cell.kind ≡ p.cell
  pub content : content_of p.body s ≡ Some cell.content
  pub others : List ℕ
  pub children : Leaves (numbered number (child_marks p.body)) (below c n) others
  pub rest : cells_of (cells_rest p.body) s ≡ Some (map (tree level_limit c) others)

-- it stands at its number
abbrev pub Stands : Configuration → (ℕ → Option ℕ) → Subst → Spot → Type 0
Stands c number s p = (n : ℕ) × (number p.mark ≡ Some n) × StandsAt c number s p n

-- a pattern is filled to a cell like this one
pub record FilledLike (filled : Option Plain) (u : Plain) : Type 0 where
  pub tree : Plain
  pub is : filled ≡ Some tree
  pub like : Alike tree u

module _ (d : Language) (c : Configuration) (tidy : IsTidy d c) (number : ℕ → Option ℕ) (s : Subst) where
  abbrev trees : List ℕ → List Plain
  trees = map (tree level_limit c)

  -- the cell at a number where a spot stands
  like_there : (p : Spot) (n : ℕ) (at : StandsAt c number s p n) (content : Content) (ts : List Plain) → content ≡ at.cell.content → PairOff ts (trees (below c n)) → Alike (plain_cell p.cell content ts) (tree level_limit c n)
  like_there p n at content ts same pairs =
      subst (Alike (plain_cell p.cell content ts))
      ((λ i. plain_cell (sym at.kind i) (same i) (trees (below c n))) ∙ sym (tree_step d c tidy n at.cell at.there))
      (alike_cell p.cell content ts (trees (below c n)) pairs)

  some_nil : (o : Option (List Plain)) (ts : List Plain) → o ≡ Some [] → o ≡ Some ts → ts ≡ []
  some_nil o ts e f = let g : Some [] ≡ Some ts = sym e ∙ f in cc

  leaf_filled : (p : Spot) (n : ℕ) (at : StandsAt c number s p n) → fill_body p.cell p.body s ≡ option_map (λ content. plain_cell p.cell content []) (content_of p.body s) → child_marks p.body ≡ [] → cells_rest p.body ≡ None → FilledLike (fill_body p.cell p.body s) (tree level_limit c n)
  leaf_filled p n at fills childless closed =
      let all : below c n ≡ at.others = subst (λ ms. Leaves (numbered number ms) (below c n) at.others) childless at.children in
      let none : trees at.others ≡ [] = some_nil (cells_of (cells_rest p.body) s) (trees at.others) (ap (λ o. cells_of o s) closed) at.rest in
      record {
        tree = plain_cell p.cell at.cell.content [];
        is = fills ∙ ap (option_map (λ content. plain_cell p.cell content [])) at.content;
        like = like_there p n at at.cell.content [] refl (ap trees all ∙ none);
      }

  -- what a row of cells is filled to, with the trees of the others after it, pairs off with the children
  record RowFilled {k : Count} (row : Row_of-CellPat k) : Type 0 where
    cells : List Plain
    is : fill_row row s ≡ Some cells
    pairs : (ks others : List ℕ) → Leaves (numbered number (row_marks row)) ks others → PairOff (cells ++ trees others) (trees ks)

  cells_filled : {k : Count} (p : Spot) (n : ℕ) (at : StandsAt c number s p n) (row : Row_of-CellPat k) (rest : Option ℕ) → fill_body p.cell p.body s ≡ option_map (plain_cell p.cell NoContent) (joined (fill_row row s) (cells_of rest s)) → content_of p.body s ≡ Some NoContent → child_marks p.body ≡ row_marks row → cells_rest p.body ≡ rest → RowFilled row → FilledLike (fill_body p.cell p.body s) (tree level_limit c n)
  cells_filled p n at row rest fills content marks is_rest filled =
      let more : cells_of rest s ≡ Some (trees at.others) = subst (λ o. cells_of o s ≡ Some (trees at.others)) is_rest at.rest in
      let same : NoContent ≡ at.cell.content = let e : Some NoContent ≡ Some at.cell.content = sym content ∙ at.content in cc in
      record {
        tree = plain_cell p.cell NoContent (filled.cells ++ trees at.others);
        is = fills ∙ (λ i. option_map (plain_cell p.cell NoContent) (joined (filled.is i) (more i)));
        like = like_there p n at NoContent (filled.cells ++ trees at.others) same
            (filled.pairs (below c n) at.others (subst (λ ms. Leaves (numbered number ms) (below c n) at.others) marks at.children));
      }

  row_end : RowFilled end_of-CellPat
  unfolding fill_row
  row_end = record {
    cells = [];
    is = refl;
    pairs = λ ks others e. subst (λ js. PairOff (trees others) (trees js)) (sym e) (pair_off_self (trees others));
  }

  pairs_more : (mark n : ℕ) (t : Plain) (ts : List Plain) (marks : List ℕ) → number mark ≡ Some n → Alike t (tree level_limit c n) → ((ks others : List ℕ) → Leaves (numbered number marks) ks others → PairOff (ts ++ trees others) (trees ks)) → (ks others : List ℕ) → Leaves (numbered number (mark ∷ marks)) ks others → PairOff ((t ∷ ts) ++ trees others) (trees ks)
  pairs_more mark n t ts marks numbered_is like pairs ks others leaves =
      let l : Leaves (n ∷ numbered number marks) ks others = subst (λ o. Leaves (elim o [ None ↦ numbered number marks | Some n ↦ n ∷ numbered number marks ]) ks others) numbered_is leaves in
      (trees l.0, tree level_limit c n, trees l.1, ap trees l.2 ∙ map-append (tree level_limit c) l.0 (n ∷ l.1), like, subst (PairOff (ts ++ trees others)) (map-append (tree level_limit c) l.0 l.1) (pairs (l.0 ++ l.1) others l.3))

  abbrev within_row : ℕ → ℕ → ℕ → Body → Spot
  within_row above cell mark body = record { cell = cell; mark = mark; above = Some above; body = body }

  row_more : {k : Count} (cell mark : ℕ) (body : Body) (cells : Row_of-CellPat k) (n : ℕ) → number mark ≡ Some n → FilledLike (fill_body cell body s) (tree level_limit c n) → RowFilled cells → RowFilled (more_of-CellPat cell mark body cells)
  unfolding fill_row
  row_more cell mark body cells n numbered_is first rest = record {
    cells = first.tree ∷ rest.cells;
    is = λ i. option_and_then (λ t. option_map (λ ts. t ∷ ts) (rest.is i)) (first.is i);
    pairs = pairs_more mark n first.tree rest.cells (row_marks cells) numbered_is first.like rest.pairs;
  }

  mutual
    unfolding fill_body fill_row spots_in row_spots

    body_filled : (cell mark : ℕ) (above : Option ℕ) (body : Body) → ((q : Spot) → Has (record { cell = cell; mark = mark; above = above; body = body } ∷ spots_in mark body) q → Stands c number s q) → (n : ℕ) × (number mark ≡ Some n) × FilledLike (fill_body cell body s) (tree level_limit c n)
    body_filled cell mark above (Cells' shape children rest) all =
        let p : Spot = record { cell = cell; mark = mark; above = above; body = Cells' shape children rest } in
        let here = all p (inl refl) in
        (here.0, here.1, cells_filled p here.0 here.2 children rest refl refl refl refl (row_filled mark children (λ q h. all q (inr h))))
    body_filled cell mark above (Seq parts rest) all =
        let p : Spot = record { cell = cell; mark = mark; above = above; body = Seq parts rest } in
        let here = all p (inl refl) in
        (here.0, here.1, leaf_filled p here.0 here.2 refl refl refl)
    body_filled cell mark above (Map entries rest) all =
        let p : Spot = record { cell = cell; mark = mark; above = above; body = Map entries rest } in
        let here = all p (inl refl) in
        (here.0, here.1, leaf_filled p here.0 here.2 refl refl refl)
    body_filled cell mark above (Listed before rest after) all =
        let p : Spot = record { cell = cell; mark = mark; above = above; body = Listed before rest after } in
        let here = all p (inl refl) in
        (here.0, here.1, leaf_filled p here.0 here.2 refl refl refl)
    body_filled cell mark above (One e) all =
        let p : Spot = record { cell = cell; mark = mark; above = above; body = One e } in
        let here = all p (inl refl) in
        (here.0, here.1, leaf_filled p here.0 here.2 refl refl refl)
    body_filled cell mark above (Made e) all =
        let p : Spot = record { cell = cell; mark = mark; above = above; body = Made e } in
        let here = all p (inl refl) in
        (here.0, here.1, leaf_filled p here.0 here.2 refl refl refl)

    row_filled : {k : Count} (above : ℕ) (row : Row_of-CellPat k) → ((q : Spot) → Has (row_spots above row) q → Stands c number s q) → RowFilled row
    row_filled above end_of-CellPat all = row_end
    row_filled above (more_of-CellPat cell mark body cells) all =
        let mine = within_row above cell mark body ∷ spots_in mark body in
        let first = body_filled cell mark (Some above) body (λ q h. all q (has_left mine (row_spots above cells) q h)) in
        row_more cell mark body cells first.0 first.1 first.2 (row_filled above cells (λ q h. all q (has_right mine (row_spots above cells) q h)))

  -- a side that stands is filled to the tree of its outermost cell
  pub side_filled : (side : CellPat) → ((q : Spot) → Has (spots side) q → Stands c number s q) → (n : ℕ) → number side.mark ≡ Some n → IsFilled side s (tree level_limit c n)
  side_filled side all n is =
      let f = body_filled side.cell side.mark None side.body all in
      let same : f.0 ≡ n = let e : Some f.0 ≡ Some n = sym f.1 ∙ is in cc in
      subst (λ o. IsSomeAnd o (λ t. Alike t (tree level_limit c n))) (sym f.2.is) (subst (λ k. Alike f.2.tree (tree level_limit c k)) same f.2.like)

-- ---- the root

no_parent : (cell : Cell) → parent_number cell ≡ None → is_none cell.parent ≡ true
no_parent cell e =
    elim cell.parent as (λ p. option_map (λ q. q.0) p ≡ None → is_none p ≡ true) [
      | None ↦ λ _. refl
      | Some m ↦ λ f. absurd (let g : Some m.0 ≡ None = f in cc)
    ] e

none_parent : (cell : Cell) → is_none cell.parent ≡ true → parent_number cell ≡ None
none_parent cell e =
    elim cell.parent as (λ p. is_none p ≡ true → option_map (λ q. q.0) p ≡ None) [
      | None ↦ λ _. refl
      | Some m ↦ λ f. absurd (let g : false ≡ true = f in cc)
    ] e

first_is : (es : List (ℕ × Cell)) (e : ℕ × Cell) → Has es e → ((f : ℕ × Cell) → Has es f → f.0 ≡ e.0) → first_number es ≡ Some e.0
first_is [] e h all = absurd h
first_is (f ∷ es) e h all = ap Some (all f (inl refl))

-- the cell without a parent is the root, where no other lacks one
pub root_is : (d : Language) (c : Configuration) → IsTidy d c → (n : ℕ) (cell : Cell) → cell_at c n ≡ Some cell → parent_number cell ≡ None → ((m : ℕ) (other : Cell) → cell_at c m ≡ Some other → parent_number other ≡ None → m ≡ n) → root_of c ≡ Some n
root_is d c tidy n cell there on_top alone =
    first_is (filter (λ e. is_none e.1.parent) c.cells) (n, cell)
    (keeps (λ e. is_none e.1.parent) c.cells (n, cell) (found_has c.cells n cell there) (no_parent cell on_top))
    (λ f h.
    let k = kept (λ e. is_none e.1.parent) c.cells f h in
    alone f.0 f.1 (has_found c.cells f (numbers_rise c.cells tidy.rising) k.0) (none_parent f.1 k.1))

pub plain_is : (c : Configuration) (n : ℕ) → root_of c ≡ Some n → plain c ≡ tree level_limit c n
plain_is c n e = sym (plain_some c n (sym e))
