-- Going down a pattern that is filled to a tree like that of a cell: each cell of the pattern pairs off with a cell of the
-- configuration, a child of the one that its outer cell pairs off with.
use Rattle.std.proofs.Common.{◌≡◌, ℕ, List, [], ◌∷◌, ◌++◌, map, Option, Some, None, refl, sym, ap, subst, ◌∙◌}
use Rattle.std.specs.Prelude.{slice_get, unwrap_or}
use Rattle.std.specs.Option.{option_map, option_and_then}
use mathlib.Core.Former.{Count}
use Rattle.k_terms.specs.declared.value.Content.{Content}
use Rattle.k_terms.specs.declared.value.Content.TheVariants.{Cells as NoContent}
use Rattle.rule_terms.specs.declared.plain.Plain.{Plain}
use Rattle.rule_terms.specs.declared.pattern.Body.{Body, Cells', Seq, Map, List as Listed, One, Made, Row_of-CellPat, end_of-CellPat, more_of-CellPat}
use Rattle.rule_terms.specs.Language.{Language}
use Rattle.rule_terms.specs.Options.{joined}
use Rattle.rule_terms.specs.Substitution.{Whole, Bag, Subst, bag_of, cells_of}
use Rattle.rule_terms.specs.Fill.{plain_cell, content_of, fill_body, fill_row}
use Rattle.rule_terms.specs.Rewriting.{Alike}
use Rattle.rule_terms.proofs.Defined.{and_then_gives, map_gives, joined_gives}
use Rattle.live_config.specs.declared.cell.Cell.{Cell}
use Rattle.live_config.specs.Configuration.{Configuration, cell_at, parent_number, below, level_limit, tree}
use Rattle.live_config.specs.Steps.{PairOff}
use Rattle.live_config.proofs.Members.{Has}
use Rattle.live_config.proofs.Children.{IsChild, below_child}
use Rattle.live_config.proofs.Levels.{IsTidy, tree_step}
use Rattle.site_laws.proofs.AlikeParts.{AlikeParts, alike_parts}
use Rattle.site_laws.proofs.Splitting.{taken, none_left, has_middle, has_around}

-- the cell with this number is of a declared cell, in another one or in none, and has the content of a body
pub record CellFits (c : Configuration) (s : Subst) (up : Option ℕ) (kind : ℕ) (body : Body) (n : ℕ) : Type 0 where
  pub cell : Cell
  pub there : cell_at c n ≡ Some cell
  pub kind_is : cell.kind ≡ kind
  pub parent : parent_number cell ≡ up
  pub content : content_of body s ≡ Some cell.content

-- what a rest of cells stands for pairs off with the trees of these numbers; there are none where there is no rest
abbrev pub RestFits : Configuration → Subst → Option ℕ → List ℕ → Type 0
RestFits c s None others = others ≡ []
RestFits c s (Some x) others = (ts : List Plain) × (slice_get s x ≡ Some (Bag ts)) × PairOff ts (map (tree level_limit c) others)

-- a first cell pairs off with one of these numbers
pub record IsFirst (ks ns before : List ℕ) (m : ℕ) (after inner rest : List ℕ) : Type 0 where
  pub taken : ks ≡ before ++ m ∷ after
  pub numbers : ns ≡ (m ∷ inner) ++ rest

-- These numbers are, in pre-order, those of the cells that stand in a body, whose own cell has the number n. Those of a row
-- are among some children, of which others are left.
unfoldable mutual
  pub InnerFits : Configuration → Subst → ℕ → Body → List ℕ → Type 0
  InnerFits c s n (Cells' shape children rest) ns = (others : List ℕ) × RowFits c s n children (below c n) others ns × RestFits c s rest others
  InnerFits c s n body ns = ns ≡ []

  pub RowFits : {k : _} → Configuration → Subst → ℕ → Row_of-CellPat k → List ℕ → List ℕ → List ℕ → Type 0
  RowFits c s n end_of-CellPat ks others ns = (ks ≡ others) × (ns ≡ [])
  RowFits c s n (more_of-CellPat cell mark body cells) ks others ns =
      (before : List ℕ) × (m : ℕ) × (after : List ℕ) × (inner : List ℕ) × (rest : List ℕ) × IsFirst ks ns before m after inner rest
      × CellFits c s (Some n) cell body m × InnerFits c s m body inner × RowFits c s n cells (before ++ after) others rest

-- ---- a cell that is filled

pub bag_is : (s : Subst) (x : ℕ) (ts : List Plain) → option_and_then bag_of (slice_get s x) ≡ Some ts → slice_get s x ≡ Some (Bag ts)
bag_is s x ts e =
    elim (slice_get s x) as (λ o. option_and_then bag_of o ≡ Some ts → o ≡ Some (Bag ts)) [
      | None ↦ λ f. absurd (let g : None ≡ Some ts = f in cc)
      | Some (Whole v) ↦ λ f. absurd (let g : None ≡ Some ts = f in cc)
      | Some (Bag us) ↦ λ f. ap (λ o. Some (Bag (unwrap_or o us))) f
    ] e

module _ (d : Language) (c : Configuration) (tidy : IsTidy d c) (s : Subst) where
  abbrev trees : List ℕ → List Plain
  trees = map (tree level_limit c)

  rest_fits : (rest : Option ℕ) (ts : List Plain) (others : List ℕ) → cells_of rest s ≡ Some ts → PairOff ts (trees others) → RestFits c s rest others
  rest_fits None ts others e pairs =
      let same : [] ≡ ts = (let f : Some [] ≡ Some ts = e in cc) in
      none_left (tree level_limit c) others (subst (λ us. PairOff us (trees others)) (sym same) pairs)
  rest_fits (Some x) ts others e pairs = (ts, bag_is s x ts e, pairs)

  -- what a cell has in common with one that is filled like its tree
  parts_at : (kind : ℕ) (content : Content) (ts : List Plain) (n : ℕ) (cell : Cell) → cell_at c n ≡ Some cell
      → Alike (plain_cell kind content ts) (tree level_limit c n) → AlikeParts kind content ts cell.kind cell.content (trees (below c n))
  parts_at kind content ts n cell there like =
      alike_parts kind content ts cell.kind cell.content (trees (below c n)) (subst (Alike (plain_cell kind content ts)) (tree_step d c tidy n cell there) like)

  -- a body whose cell is there: the cell fits, and so do some numbers for the cells that stand in it
  pub record BodyFits (up : Option ℕ) (kind : ℕ) (body : Body) (n : ℕ) : Type 0 where
    pub fits : CellFits c s up kind body n
    pub inner : List ℕ
    pub inner_fits : InnerFits c s n body inner

  leaf_fits : (up : Option ℕ) (kind : ℕ) (body : Body) (n : ℕ) (cell : Cell) → cell_at c n ≡ Some cell → parent_number cell ≡ up
      → (t : Plain) → option_map (λ content. plain_cell kind content []) (content_of body s) ≡ Some t → Alike t (tree level_limit c n)
      → CellFits c s up kind body n
  leaf_fits up kind body n cell there parent t filled like =
      let m = map_gives (λ content. plain_cell kind content []) (content_of body s) t filled in
      let parts = parts_at kind m.0 [] n cell there (subst (λ u. Alike u (tree level_limit c n)) (sym m.2) like) in
      record { cell = cell; there = there; kind_is = sym parts.same_cell; parent = parent; content = m.1 ∙ ap Some parts.same_content }

  -- the numbers of a row of cells, and the others
  record RowFound {k : Count} (n : ℕ) (row : Row_of-CellPat k) (ks : List ℕ) (more : List Plain) : Type 0 where
    others : List ℕ
    numbers : List ℕ
    fit : RowFits c s n row ks others numbers
    pairs : PairOff more (trees others)

  row_end : (n : ℕ) (ks : List ℕ) (more : List Plain) → PairOff more (trees ks) → RowFound n end_of-CellPat ks more
  unfolding RowFits
  row_end n ks more pairs = record { others = ks; numbers = []; fit = (refl, refl); pairs = pairs }

  row_more : {k : Count} (n cell mark : ℕ) (body : Body) (cells : Row_of-CellPat k) (ks : List ℕ) (more : List Plain) (before : List ℕ) (m : ℕ) (after : List ℕ)
      → ks ≡ before ++ m ∷ after → BodyFits (Some n) cell body m → RowFound n cells (before ++ after) more
      → RowFound n (more_of-CellPat cell mark body cells) ks more
  unfolding RowFits
  row_more n cell mark body cells ks more before m after is first rest = record {
    others = rest.others;
    numbers = (m ∷ first.inner) ++ rest.numbers;
    fit = (before, m, after, first.inner, rest.numbers, record { taken = is; numbers = refl }, first.fits, first.inner_fits, rest.fit);
    pairs = rest.pairs;
  }

  -- the children that are parted
  first_child : (n : ℕ) (ks : List ℕ) → ((m : ℕ) → Has ks m → IsChild c n m) → (before : List ℕ) (m : ℕ) (after : List ℕ)
      → ks ≡ before ++ m ∷ after → IsChild c n m
  first_child n ks children before m after is = children m (subst (λ js. Has js m) (sym is) (has_middle before m after))

  other_children : (n : ℕ) (ks : List ℕ) → ((m : ℕ) → Has ks m → IsChild c n m) → (before : List ℕ) (m : ℕ) (after : List ℕ)
      → ks ≡ before ++ m ∷ after → (j : ℕ) → Has (before ++ after) j → IsChild c n j
  other_children n ks children before m after is j h = children j (subst (λ js. Has js j) (sym is) (has_around before m after j h))

  -- the cells of a row, and others after them
  with_more : (ts us more : List Plain) (ks : List ℕ) → us ≡ ts → PairOff (ts ++ more) (trees ks) → PairOff (us ++ more) (trees ks)
  with_more ts us more ks same pairs = subst (λ vs. PairOff (vs ++ more) (trees ks)) (sym same) pairs

  like_made : (t u : Plain) (n : ℕ) → u ≡ t → Alike t (tree level_limit c n) → Alike u (tree level_limit c n)
  like_made t u n same like = subst (λ v. Alike v (tree level_limit c n)) (sym same) like

  mutual
    unfolding fill_body fill_row InnerFits RowFits

    pub body_walk : (up : Option ℕ) (kind : ℕ) (body : Body) (n : ℕ) (cell : Cell) → cell_at c n ≡ Some cell → parent_number cell ≡ up
        → (t : Plain) → fill_body kind body s ≡ Some t → Alike t (tree level_limit c n) → BodyFits up kind body n
    body_walk up kind (Cells' shape children rest) n cell there parent t filled like =
        let m = map_gives (plain_cell kind NoContent) (joined (fill_row children s) (cells_of rest s)) t filled in
        let j = joined_gives (fill_row children s) (cells_of rest s) m.0 m.1 in
        let parts = parts_at kind NoContent m.0 n cell there (like_made t (plain_cell kind NoContent m.0) n m.2 like) in
        let row = row_walk n children j.0 j.1 (below c n) (below_child c tidy.rising n) j.2 (subst (λ ts. PairOff ts (trees (below c n))) {x = m.0} {y = j.0 ++ j.1} (sym j.4) parts.pairs) in
        record {
          fits = record { cell = cell; there = there; kind_is = sym parts.same_cell; parent = parent; content = ap Some parts.same_content };
          inner = row.numbers;
          inner_fits = (row.others, row.fit, rest_fits rest j.1 row.others j.3 row.pairs);
        }
    body_walk up kind (Seq parts rest) n cell there parent t filled like =
        record { fits = leaf_fits up kind (Seq parts rest) n cell there parent t filled like; inner = []; inner_fits = refl }
    body_walk up kind (Map entries rest) n cell there parent t filled like =
        record { fits = leaf_fits up kind (Map entries rest) n cell there parent t filled like; inner = []; inner_fits = refl }
    body_walk up kind (Listed before rest after) n cell there parent t filled like =
        record { fits = leaf_fits up kind (Listed before rest after) n cell there parent t filled like; inner = []; inner_fits = refl }
    body_walk up kind (One p) n cell there parent t filled like =
        record { fits = leaf_fits up kind (One p) n cell there parent t filled like; inner = []; inner_fits = refl }
    body_walk up kind (Made p) n cell there parent t filled like =
        record { fits = leaf_fits up kind (Made p) n cell there parent t filled like; inner = []; inner_fits = refl }

    row_walk : {k : Count} (n : ℕ) (row : Row_of-CellPat k) (ts more : List Plain) (ks : List ℕ) → ((m : ℕ) → Has ks m → IsChild c n m)
        → fill_row row s ≡ Some ts → PairOff (ts ++ more) (trees ks) → RowFound n row ks more
    row_walk n end_of-CellPat ts more ks children filled pairs =
        let same : ts ≡ [] = (let f : Some [] ≡ Some ts = filled in cc) in
        row_end n ks more (subst (λ us. PairOff (us ++ more) (trees ks)) same pairs)
    row_walk n (more_of-CellPat cell mark body cells) ts more ks children filled pairs =
        let a = and_then_gives (λ u. option_map (λ us. u ∷ us) (fill_row cells s)) (fill_body cell body s) ts filled in
        let m = map_gives (λ us. a.0 ∷ us) (fill_row cells s) ts a.2 in
        let out = taken (tree level_limit c) a.0 (m.0 ++ more) ks (with_more ts (a.0 ∷ m.0) more ks m.2 pairs) in
        let child = first_child n ks children out.before out.number out.after out.is in
        let first = body_walk (Some n) cell body out.number child.cell child.there child.parent a.0 a.1 out.like in
        let rest = row_walk n cells m.0 more (out.before ++ out.after) (other_children n ks children out.before out.number out.after out.is) m.1 out.pairs in
        row_more n cell mark body cells ks more out.before out.number out.after out.is first rest
