-- In a lawful configuration of a sound definition each cell is declared after its parent, so a tree of as many levels as
-- there are declared cells is the whole tree, a way up of as many is the whole way, and every way up comes to the root.
use Rattle.std.proofs.Common.{arith, inl, inr, ◌≡◌, ℕ, suc, zero, ◌+◌, ◌-◌, ◌<◌, ◌≤◌, true, false, ◌==◌, ◌&&◌, List, [], ◌∷◌, map, length, Option, Some, None, refl, sym, ap, subst, ◌∙◌}
use Rattle.std.specs.Prelude.{slice_get, nat_lt}
use Rattle.std.specs.Option.{option_map, option_map_or}
use Rattle.std.specs.List.{list_any}
use Rattle.std.specs.Ordering.{nat_cmp}
use Rattle.std.specs.FinMap.{is_sorted}
use Rattle.std.proofs.lemmas.Bool.{and_parts, ltb-true}
use Rattle.rule_terms.specs.declared.defs.CellShape.{CellShape}
use Rattle.rule_terms.specs.Language.{Language}
use Rattle.rule_terms.specs.Sound.{IsSound, is_placed_shape, has_cells}
use Rattle.rule_terms.specs.Fill.{plain_cell}
use Rattle.rule_terms.specs.Numbers.{has_number}
use Rattle.live_config.specs.declared.cell.Cell.{Cell}
use Rattle.live_config.specs.Configuration.{Configuration, cell_at, kind_at, parent_number, below, level_limit, tree, way_up}
use Rattle.live_config.specs.Fits.{IsLawful, Rooted, top, under}
use Rattle.live_config.specs.Firing.{goes}
use Rattle.live_config.proofs.Trees.{tree_some}
use Rattle.live_config.proofs.Members.{Has}
use Rattle.live_config.proofs.Children.{IsChild, below_child}

within : {X : Type 0} (xs : List X) (i : ℕ) (x : X) → slice_get xs i ≡ Some x → i < length xs
within [] i x e = absurd (let f : None ≡ Some x = e in cc)
within (y ∷ ys) zero x e = omega arith
within (y ∷ ys) (suc i) x e = let l = within ys i x e in omega (arith, l)

pub map_same : {X Y : Type 0} (f g : X → Y) (xs : List X) → ((x : X) → Has xs x → f x ≡ g x) → map f xs ≡ map g xs
map_same f g [] same = refl
map_same f g (x ∷ xs) same = λ i. same x (inl refl) i ∷ map_same f g xs (λ y h. same y (inr h)) i

-- a declared cell under another one
record IsUnder (shapes : List CellShape) (k n : ℕ) : Type 0 where
  lower : k < n
  shape : CellShape
  declared : slice_get shapes k ≡ Some shape
  cells : has_cells shape.kind ≡ true

with_cells : (o : Option CellShape) → option_map_or (λ (s : CellShape). has_cells s.kind) o false ≡ true → (s : CellShape) × (o ≡ Some s) × (has_cells s.kind ≡ true)
with_cells None e = absurd (let f : false ≡ true = e in cc)
with_cells (Some s) e = (s, refl, e)

placed_under : (shapes : List CellShape) (n : ℕ) (shape : CellShape) (k : ℕ) → shape.parent ≡ Some k → is_placed_shape shapes n shape ≡ true → IsUnder shapes k n
placed_under shapes n shape k parent e =
    let f : (nat_lt k n && option_map_or (λ (s : CellShape). has_cells s.kind) (slice_get shapes k) false) ≡ true =
    subst (λ o. elim o [ None ↦ n == 0 | Some m ↦ nat_lt m n && option_map_or (λ (s : CellShape). has_cells s.kind) (slice_get shapes m) false ] ≡ true) parent e in
    let p = and_parts _ _ f in
    let s = with_cells (slice_get shapes k) p.1 in
    record { lower = ltb-true k n p.0; shape = s.0; declared = s.1; cells = s.2 }

kind_there : (o : Option Cell) (k : ℕ) → option_map (λ (cell : Cell). cell.kind) o ≡ Some k → (cell : Cell) × (o ≡ Some cell) × (cell.kind ≡ k)
kind_there None k e = absurd (let f : None ≡ Some k = e in cc)
kind_there (Some cell) k e = (cell, refl, cc)

-- the parent of a cell
pub record ParentIs (d : Language) (c : Configuration) (cell : Cell) (m : ℕ) : Type 0 where
  pub above : Cell
  pub there : cell_at c m ≡ Some above
  pub lower : above.kind < cell.kind
  pub shape : CellShape
  pub declared : slice_get d.cells above.kind ≡ Some shape
  pub cells : has_cells shape.kind ≡ true

parent_is : (d : Language) (c : Configuration) (cell : Cell) (m : ℕ) → IsSound d → (shape : CellShape) → slice_get d.cells cell.kind ≡ Some shape → (parent : Option ℕ) → shape.parent ≡ parent → Some (kind_at c m) ≡ option_map Some parent → ParentIs d c cell m
parent_is d c cell m sound shape declared None p e = absurd (let f : Some (kind_at c m) ≡ None = e in cc)
parent_is d c cell m sound shape declared (Some k) p e =
    let u = placed_under d.cells cell.kind shape k p (sound.tree cell.kind shape declared) in
    let is : kind_at c m ≡ Some k = cc in
    let t = kind_there (cell_at c m) k is in
    record {
      above = t.0;
      there = t.1;
      lower = subst (λ j. j < cell.kind) (sym t.2) u.lower;
      shape = u.shape;
      declared = subst (λ j. slice_get d.cells j ≡ Some u.shape) (sym t.2) u.declared;
      cells = u.cells;
    }

abbrev pub AllLawful : Language → Configuration → Type 0
AllLawful d c = (n : ℕ) (cell : Cell) → cell_at c n ≡ Some cell → IsLawful d c cell

-- a lawful configuration of a sound definition
pub record IsTidy (d : Language) (c : Configuration) : Type 0 where
  pub sound : IsSound d
  pub rising : is_sorted nat_cmp c.cells ≡ true
  pub lawful : AllLawful d c

module _ (d : Language) (c : Configuration) (tidy : IsTidy d c) where
  pub parent_of : (n : ℕ) (cell : Cell) (m : ℕ) → cell_at c n ≡ Some cell → parent_number cell ≡ Some m → ParentIs d c cell m
  parent_of n cell m there parent =
      let law = tidy.lawful n cell there in
      parent_is d c cell m tidy.sound law.shape law.declared law.shape.parent refl (subst (λ o. option_map (kind_at c) o ≡ option_map Some law.shape.parent) parent law.parent)

  pub kind_low : (n : ℕ) (cell : Cell) → cell_at c n ≡ Some cell → cell.kind < length d.cells
  kind_low n cell there = let law = tidy.lawful n cell there in within d.cells cell.kind law.shape law.declared

  -- a child is declared after its parent
  child_higher : (n : ℕ) (cell : Cell) → cell_at c n ≡ Some cell → (m : ℕ) (child : IsChild c n m) → cell.kind < child.cell.kind
  child_higher n cell there m child =
      let p = parent_of m child.cell n child.there child.parent in
      let same : p.above ≡ cell = let a = p.there in cc in
      subst (λ (x : Cell). x.kind < child.cell.kind) same p.lower

  -- ---- trees

  -- a tree of so many levels as suffice is that of any other so many
  pub tree_same : (a b n : ℕ) (cell : Cell) → cell_at c n ≡ Some cell → length d.cells ≤ cell.kind + a → length d.cells ≤ cell.kind + b → tree a c n ≡ tree b c n
  tree_same zero b n cell there e f = absurd (let l = kind_low n cell there in omega (arith, l, e))
  tree_same (suc a) zero n cell there e f = absurd (let l = kind_low n cell there in omega (arith, l, f))
  tree_same (suc a) (suc b) n cell there e f =
      let step : map (tree a c) (below c n) ≡ map (tree b c) (below c n) = map_same (tree a c) (tree b c) (below c n) (λ m h.
      let child = below_child c tidy.rising n m h in
      let l = child_higher n cell there m child in
      tree_same a b m child.cell child.there (omega (arith, l, e)) (omega (arith, l, f))) in
      sym (tree_some (suc a) c n cell (sym there) (omega arith)) ∙ ap (plain_cell cell.kind cell.content) (less_one a ∙ step ∙ sym (less_one b)) ∙ tree_some (suc b) c n cell (sym there) (omega arith)
    where
      less_one : (k : ℕ) → map (tree (suc k - 1) c) (below c n) ≡ map (tree k c) (below c n)
      less_one k = ap (λ j. map (tree j c) (below c n)) {x = suc k - 1} {y = k} (omega arith)

  tree_step_at : (levels n : ℕ) (cell : Cell) → length d.cells ≤ levels → cell_at c n ≡ Some cell → tree levels c n ≡ plain_cell cell.kind cell.content (map (tree levels c) (below c n))
  tree_step_at levels n cell enough there =
      let low = kind_low n cell there in
      sym (tree_some levels c n cell (sym there) (omega (arith, low, enough)))
      ∙ ap (plain_cell cell.kind cell.content) (map_same (tree (levels - 1) c) (tree levels c) (below c n) (λ m h.
      let child = below_child c tidy.rising n m h in
      let l = child_higher n cell there m child in
      tree_same (levels - 1) levels m child.cell child.there (omega (arith, l, enough)) (omega (arith, l, enough))))

  -- the tree of a cell is the cell over the trees of its children
  pub tree_step : (n : ℕ) (cell : Cell) → cell_at c n ≡ Some cell → tree level_limit c n ≡ plain_cell cell.kind cell.content (map (tree level_limit c) (below c n))
  tree_step n cell there = tree_step_at level_limit n cell tidy.sound.few_cells there

  -- ---- ways up

  abbrev up_from : ℕ → ℕ → Cell → List ℕ
  up_from levels n cell = n ∷ elim (parent_number cell) [ None ↦ [] | Some m ↦ way_up levels c m ]

  way_some : (levels n : ℕ) (cell : Cell) → cell_at c n ≡ Some cell → way_up (suc levels) c n ≡ up_from levels n cell
  unfolding way_up
  way_some levels n cell there = ap (λ o. elim o [ None ↦ [] | Some cell ↦ n ∷ elim (parent_number cell) [ None ↦ [] | Some m ↦ way_up levels c m ] ]) there

  above_same : (a b n : ℕ) (cell : Cell) → cell_at c n ≡ Some cell → ((m : ℕ) → parent_number cell ≡ Some m → way_up a c m ≡ way_up b c m) → up_from a n cell ≡ up_from b n cell
  above_same a b n cell there same =
      elim (parent_number cell) as (λ o. ((m : ℕ) → o ≡ Some m → way_up a c m ≡ way_up b c m) → n ∷ elim o [ None ↦ [] | Some m ↦ way_up a c m ] ≡ n ∷ elim o [ None ↦ [] | Some m ↦ way_up b c m ]) [
        | None ↦ λ _. refl
        | Some m ↦ λ s. ap (λ ms. n ∷ ms) (s m refl)
      ] same

  pub way_same : (a b n : ℕ) (cell : Cell) → cell_at c n ≡ Some cell → cell.kind < a → cell.kind < b → way_up a c n ≡ way_up b c n
  way_same zero b n cell there e f = absurd (omega (arith, e))
  way_same (suc a) zero n cell there e f = absurd (omega (arith, f))
  way_same (suc a) (suc b) n cell there e f =
      way_some a n cell there
      ∙ above_same a b n cell there (λ m parent. let p = parent_of n cell m there parent in let l = p.lower in way_same a b m p.above p.there (omega (arith, l, e)) (omega (arith, l, f)))
      ∙ sym (way_some b n cell there)

  way_step_at : (levels n : ℕ) (cell : Cell) (m : ℕ) → length d.cells ≤ levels → cell_at c n ≡ Some cell → parent_number cell ≡ Some m → way_up levels c n ≡ n ∷ way_up levels c m
  way_step_at zero n cell m enough there parent = absurd (let l = kind_low n cell there in omega (arith, l, enough))
  way_step_at (suc levels) n cell m enough there parent =
      let p = parent_of n cell m there parent in
      let l = p.lower in
      let low = kind_low n cell there in
      way_some levels n cell there ∙ ap (λ o. n ∷ elim o [ None ↦ [] | Some m ↦ way_up levels c m ]) parent
      ∙ ap (λ ms. n ∷ ms) (way_same levels (suc levels) m p.above p.there (omega (arith, l, low, enough)) (omega (arith, l, low, enough)))

  way_top_at : (levels n : ℕ) (cell : Cell) → length d.cells ≤ levels → cell_at c n ≡ Some cell → parent_number cell ≡ None → way_up levels c n ≡ n ∷ []
  way_top_at zero n cell enough there parent = absurd (let l = kind_low n cell there in omega (arith, l, enough))
  way_top_at (suc levels) n cell enough there parent = way_some levels n cell there ∙ ap (λ o. n ∷ elim o [ None ↦ [] | Some m ↦ way_up levels c m ]) parent

  -- a cell under another goes where it is among those that are gone, or the cell above it goes; the root where it is among them
  pub goes_step : (gone : List ℕ) (n : ℕ) (cell : Cell) (m : ℕ) → cell_at c n ≡ Some cell → parent_number cell ≡ Some m → goes c gone n ≡ list_any (has_number gone) (n ∷ way_up level_limit c m)
  goes_step gone n cell m there parent = ap (list_any (has_number gone)) (way_step_at level_limit n cell m tidy.sound.few_cells there parent)

  pub goes_top : (gone : List ℕ) (n : ℕ) (cell : Cell) → cell_at c n ≡ Some cell → parent_number cell ≡ None → goes c gone n ≡ list_any (has_number gone) (n ∷ [])
  goes_top gone n cell there parent = ap (list_any (has_number gone)) (way_top_at level_limit n cell tidy.sound.few_cells there parent)

  -- ---- the root

  rooted_at : (levels n : ℕ) (cell : Cell) → cell_at c n ≡ Some cell → cell.kind < levels → Rooted c n
  rooted_at zero n cell there low = absurd (omega (arith, low))
  rooted_at (suc levels) n cell there low =
      elim (parent_number cell) as (λ o. parent_number cell ≡ o → Rooted c n) [
        | None ↦ λ parent. top n cell there parent
        | Some m ↦ λ parent. let p = parent_of n cell m there parent in let l = p.lower in under n m cell there parent (rooted_at levels m p.above p.there (omega (arith, l, low)))
      ] refl

  pub rooted_all : (n : ℕ) (cell : Cell) → cell_at c n ≡ Some cell → Rooted c n
  rooted_all n cell there = rooted_at (suc cell.kind) n cell there (omega arith)
