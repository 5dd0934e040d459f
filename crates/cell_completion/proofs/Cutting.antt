-- The cells between written ones and a level of declared cells: a tree cut there.
use Rattle.std.proofs.Common.{◌≡◌, ◌⊎◌, inl, inr, ℕ, suc, ◌<◌, ◌≤◌, Bool, true, false, cond, ◌==◌, ◌&&◌, List, [], ◌∷◌, ◌++◌, Option, Some, None, refl, sym, ap, ◌∙◌, subst, arith}
use Rattle.std.specs.Prelude.{nat_le, nat_lt, slice_get}
use Rattle.std.specs.Option.{option_and_then, option_map_or}
use Rattle.std.specs.List.{flat_map}
use Rattle.std.proofs.lemmas.Bool.{cases_lt, cases_eq, le-leb, lt-leb, ltb-true, and_parts, cond-true, cond-false}
use denote.Hole.Carrier.{out}
use mathlib.Core.Former.{Count}
use Rattle.rule_terms.specs.declared.defs.CellShape.{CellShape}
use Rattle.rule_terms.specs.Sound.{has_cells}
use Rattle.live_config.proofs.Members.{Has, has_left, has_right, has_either}
use Rattle.cell_completion.specs.declared.tree.Written.{Written}
use Rattle.cell_completion.specs.declared.tree.Tree.{Tree, Tree', out-Tree, Row_of-Tree, end_of-Tree, more_of-Tree}
use Rattle.cell_completion.specs.declared.tree.Tree.TheBlock.{items-the_row-Tree, items_shown-the_row-Tree-0}
use Rattle.cell_completion.specs.Trees.{around_inside}
use Rattle.cell_completion.specs.Completion.{is_both, IsDeclaredIn, IsPlaced}
use Rattle.cell_completion.specs.Listed.{AreDeclared}
use Rattle.cell_completion.specs.Building.{parent_of}
use Rattle.cell_completion.proofs.Unfolded.{cell_of, mark_of, inside, tree_induction, placed_cell, placed_inside}

-- ---- members of joined lists

module _ {X Y : Type 0} (f : X → List Y) where
  pub has_flat : (xs : List X) (x : X) (y : Y) → Has xs x → Has (f x) y → Has (flat_map f xs) y
  has_flat [] x y h g = absurd h
  has_flat (z ∷ zs) x y (inl e) g = has_left (f z) (flat_map f zs) y (subst (λ w. Has (f w) y) (sym e) g)
  has_flat (z ∷ zs) x y (inr h) g = has_right (f z) (flat_map f zs) y (has_flat zs x y h g)

  pub flat_has : (xs : List X) (y : Y) → Has (flat_map f xs) y → (x : X) × Has xs x × Has (f x) y
  flat_has [] y h = absurd h
  flat_has (z ∷ zs) y h =
      elim (has_either (f z) (flat_map f zs) y h) [
        | inl g ↦ (z, inl refl, g)
        | inr g ↦ let r = flat_has zs y g in (r.0, inr r.1, r.2)
      ]

-- ---- cutting

-- a cell that no cut goes through: a written one, or one from the level on
stays : ℕ → ℕ → Option ℕ → Bool
stays c cell None = nat_le c cell
stays c cell (Some mark) = true

mutual
  pub cut : ℕ → Tree → List Tree
  cut c (Tree' cell mark s row) = cond (stays c cell mark) (Tree' cell mark s row ∷ []) (row_cut c row)

  row_cut : {n : Count} → ℕ → Row_of-Tree n → List Tree
  row_cut c end_of-Tree = []
  row_cut c (more_of-Tree t ts) = cut c t ++ row_cut c ts

row_cut_is : {n : Count} (c : ℕ) (row : Row_of-Tree n) → row_cut c row ≡ flat_map (cut c) (items-the_row-Tree n row)
unfolding row_cut
row_cut_is c end_of-Tree = refl
row_cut_is c (more_of-Tree t ts) = ap (λ us. cut c t ++ us) (row_cut_is c ts)

-- a tree stays whole, or is cut in its cells
pub record Stays (c : ℕ) (t : Tree) : Type 0 where
  pub level : mark_of t ≡ None → c ≤ cell_of t
  pub whole : cut c t ≡ t ∷ []

pub record Opens (c : ℕ) (t : Tree) : Type 0 where
  pub added : mark_of t ≡ None
  pub below : cell_of t < c
  pub parts : cut c t ≡ flat_map (cut c) (inside t)

pub stays_or_opens : (c : ℕ) (t : Tree) → Stays c t ⊎ Opens c t
unfolding cut stays out-Tree out
stays_or_opens c (Tree' cell (Some mark) s row) = inl (record { level = λ e. absurd (cc); whole = refl })
stays_or_opens c (Tree' cell None s row) =
    elim (cases_lt cell c) [
      | inl less ↦ inr (record {
        added = refl;
        below = less;
        parts = cond-false (nat_le c cell) (Tree' cell None s row ∷ []) (row_cut c row) (lt-leb c cell less)
            ∙ row_cut_is c row ∙ ap (flat_map (cut c)) (sym (items_shown-the_row-Tree-0 s row));
      })
      | inr more ↦ inl (record {
        level = λ _. more;
        whole = cond-true (nat_le c cell) (Tree' cell None s row ∷ []) (row_cut c row) (le-leb c cell more);
      })
    ]

-- an added cell of the level
pub record IsAddedOf (c : ℕ) (t : Tree) : Type 0 where
  pub added : mark_of t ≡ None
  pub cell_is : cell_of t ≡ c

pub is_added_of : (c : ℕ) (t : Tree) → IsAddedOf c t ⊎ (IsAddedOf c t → ⊥)
is_added_of c t =
    elim (mark_of t) as (λ m. mark_of t ≡ m → IsAddedOf c t ⊎ (IsAddedOf c t → ⊥)) [
      | None ↦ λ e. elim (cases_eq (cell_of t) c) [
        | inl same ↦ inl (record { added = e; cell_is = same })
        | inr differ ↦ inr (λ a. differ a.cell_is)
      ]
      | Some m ↦ λ e. inr (λ a. let f : None ≡ Some m = sym a.added ∙ e in cc)
    ] refl

module _ (shapes : List CellShape) (ws : List Written) (declared : AreDeclared shapes) where
  -- ---- declared parents

  pub parent_is : (parent : Option ℕ) (cell : ℕ) → IsDeclaredIn shapes parent cell → parent_of shapes cell ≡ parent
  parent_is parent cell d = ap (option_and_then (λ (shape : CellShape). shape.parent)) d.declared ∙ d.parent_is

  pub is_greater : (outer inner : ℕ) → IsDeclaredIn shapes (Some outer) inner → outer < inner
  is_greater outer inner d =
      let placed = declared.tree inner d.shape d.declared in
      let at : (nat_lt outer inner && option_map_or (λ (s : CellShape). has_cells s.kind) (slice_get shapes outer) false) ≡ true =
      ap (λ (o : Option ℕ). elim o [ None ↦ inner == 0 | Some m ↦ nat_lt m inner && option_map_or (λ (s : CellShape). has_cells s.kind) (slice_get shapes m) false ]) (sym d.parent_is) ∙ placed in
      ltb-true outer inner (and_parts (nat_lt outer inner) (option_map_or (λ (s : CellShape). has_cells s.kind) (slice_get shapes outer) false) at).0

  Placed : Option ℕ → Option ℕ → Bool → Tree → Type 0
  Placed = IsPlaced shapes ws

  pub child_greater : (parent around : Option ℕ) (outer : Bool) (t : Tree) → IsPlaced shapes ws parent around outer t
      → (u : Tree) → Has (inside t) u → cell_of t < cell_of u
  child_greater parent around outer t placed u h =
      is_greater (cell_of t) (cell_of u) (placed_cell shapes ws _ _ _ u (placed_inside shapes ws parent around outer t placed u h)).declared

  -- ---- one level more

  -- what is cut one level higher: the cells in an added one of the level, and what is none
  abbrev pub FromLevel : ℕ → List Tree → Tree → Type 0
  FromLevel c ts u = ((a : Tree) × Has ts a × IsAddedOf c a × Has (inside a) u) ⊎ (Has ts u × (IsAddedOf c u → ⊥))

  stays_higher : (c : ℕ) (t : Tree) → Stays (suc c) t → IsAddedOf c t → ⊥
  stays_higher c t s a = let l = s.level a.added in let e = a.cell_is in omega (arith, l, e)

  stays_lower : (c : ℕ) (t : Tree) → Stays (suc c) t → cut c t ≡ t ∷ []
  stays_lower c t s =
      elim (stays_or_opens c t) [
        | inl here ↦ here.whole
        | inr opens ↦ absurd (let l = s.level opens.added in let m = opens.below in omega (arith, l, m))
      ]

  in_one : (ts : List Tree) (t u : Tree) → ts ≡ t ∷ [] → Has ts u → t ≡ u
  in_one ts t u e h = elim (subst (λ us. Has us u) e h) [ inl same ↦ same | inr g ↦ absurd g ]

  one_in : (ts : List Tree) (t : Tree) → ts ≡ t ∷ [] → Has ts t
  one_in ts t e = subst (λ us. Has us t) (sym e) (inl refl)

  -- a cell in one of the level stays at the next
  child_stays : (c : ℕ) (u : Tree) → c < cell_of u → cut (suc c) u ≡ u ∷ []
  child_stays c u less =
      elim (stays_or_opens (suc c) u) [
        | inl here ↦ here.whole
        | inr opens ↦ absurd (let l = opens.below in omega (arith, l, less))
      ]

  abbrev HigherIs : ℕ → Tree → Type 0
  HigherIs c t = (parent around : Option ℕ) (outer : Bool) → IsPlaced shapes ws parent around outer t
      → (u : Tree) → Has (cut (suc c) t) u → FromLevel c (cut c t) u

  wider : (c : ℕ) (ts us : List Tree) (u : Tree) → ((v : Tree) → Has ts v → Has us v) → FromLevel c ts u → FromLevel c us u
  wider c ts us u more (inl from) = inl (from.0, more from.0 from.1, from.2, from.3)
  wider c ts us u more (inr here) = inr (more u here.0, here.1)

  in_parts : (c : ℕ) (t k : Tree) → cut c t ≡ flat_map (cut c) (inside t) → Has (inside t) k → (v : Tree) → Has (cut c k) v → Has (cut c t) v
  in_parts c t k parts h v g = subst (λ us. Has us v) (sym parts) (has_flat (cut c) (inside t) k v h g)

  pub higher_is : (c : ℕ) (t : Tree) → HigherIs c t
  higher_is c = tree_induction (HigherIs c) (λ t below parent around outer placed u h.
      elim (stays_or_opens (suc c) t) [
        | inl stays ↦
            let same : t ≡ u = in_one (cut (suc c) t) t u stays.whole h in
            inr (subst (Has (cut c t)) same (one_in (cut c t) t (stays_lower c t stays)), (λ a. stays_higher c t stays (subst (IsAddedOf c) (sym same) a)))
        | inr opens ↦
            let found = flat_has (cut (suc c)) (inside t) u (subst (λ us. Has us u) opens.parts h) in
            elim (stays_or_opens c t) [
              | inl here ↦
                  let less = child_greater parent around outer t placed found.0 found.1 in
                  let level = here.level opens.added in
                  let under = opens.below in
                  let same : cell_of t ≡ c = omega (arith, level, under) in
                  let is : found.0 ≡ u = in_one (cut (suc c) found.0) found.0 u (child_stays c found.0 (subst (λ n. n < cell_of found.0) same less)) found.2 in
                  inl (t, one_in (cut c t) t here.whole, record { added = opens.added; cell_is = same }, subst (Has (inside t)) is found.1)
              | inr deeper ↦
                  wider c (cut c found.0) (cut c t) u (in_parts c t found.0 deeper.parts found.1)
                  (below found.0 found.1 (Some (cell_of t)) _ (is_both ws (mark_of t)) (placed_inside shapes ws parent around outer t placed found.0 found.1) u found.2)
            ]
      ])

  abbrev IsHigher : ℕ → Tree → Type 0
  IsHigher c t = (parent around : Option ℕ) (outer : Bool) → IsPlaced shapes ws parent around outer t
      → (u : Tree) → FromLevel c (cut c t) u → Has (cut (suc c) t) u

  narrower : (c : ℕ) (ts : List Tree) (u : Tree) → FromLevel c (flat_map (cut c) ts) u → (k : Tree) × Has ts k × FromLevel c (cut c k) u
  narrower c ts u (inl from) = let r = flat_has (cut c) ts from.0 from.1 in (r.0, r.1, inl (from.0, r.2, from.2, from.3))
  narrower c ts u (inr here) = let r = flat_has (cut c) ts u here.0 in (r.0, r.1, inr (r.2, here.1))

  pub is_higher : (c : ℕ) (t : Tree) → IsHigher c t
  is_higher c = tree_induction (IsHigher c) (λ t below parent around outer placed u from.
      elim (stays_or_opens (suc c) t) [
        | inl stays ↦
            elim (subst (λ us. FromLevel c us u) (stays_lower c t stays) from) [
              | inl added ↦ absurd (stays_higher c t stays (subst (IsAddedOf c) (sym (in_one (t ∷ []) t added.0 refl added.1)) added.2))
              | inr here ↦ subst (Has (cut (suc c) t)) (in_one (t ∷ []) t u refl here.0) (one_in (cut (suc c) t) t stays.whole)
            ]
        | inr opens ↦
            elim (stays_or_opens c t) [
              | inl level ↦
                  let low = level.level opens.added in
                  let under = opens.below in
                  let same : cell_of t ≡ c = omega (arith, low, under) in
                  elim (subst (λ us. FromLevel c us u) level.whole from) [
                    | inl added ↦
                        let h : Has (inside t) u = subst (λ a. Has (inside a) u) (sym (in_one (t ∷ []) t added.0 refl added.1)) added.3 in
                        let less = child_greater parent around outer t placed u h in
                        subst (λ us. Has us u) (sym opens.parts) (has_flat (cut (suc c)) (inside t) u u h (one_in (cut (suc c) u) u (child_stays c u (subst (λ n. n < cell_of u) same less))))
                    | inr here ↦
                        absurd (here.1 (subst (IsAddedOf c) (in_one (t ∷ []) t u refl here.0) (record { added = opens.added; cell_is = same })))
                  ]
              | inr deeper ↦
                  let r = narrower c (inside t) u (subst (λ us. FromLevel c us u) deeper.parts from) in
                  subst (λ us. Has us u) (sym opens.parts)
                  (has_flat (cut (suc c)) (inside t) r.0 u r.1
                  (below r.0 r.1 (Some (cell_of t)) _ (is_both ws (mark_of t)) (placed_inside shapes ws parent around outer t placed r.0 r.1) u r.2))
            ]
      ])

  -- ---- where what is cut stands

  -- in the cell around, or in an added one below the level
  abbrev pub StandsBelow : ℕ → Option ℕ → Tree → Type 0
  StandsBelow c parent u = (parent_of shapes (cell_of u) ≡ parent) ⊎ ((outer : ℕ) × (outer < c) × (parent_of shapes (cell_of u) ≡ Some outer))

  abbrev CutStands : ℕ → Tree → Type 0
  CutStands c t = (parent around : Option ℕ) (outer : Bool) → IsPlaced shapes ws parent around outer t
      → (u : Tree) → Has (cut c t) u → StandsBelow c parent u

  pub cut_stands : (c : ℕ) (t : Tree) → CutStands c t
  cut_stands c = tree_induction (CutStands c) (λ t below parent around outer placed u h.
      elim (stays_or_opens c t) [
        | inl stays ↦
            let same = in_one (cut c t) t u stays.whole h in
            inl (subst (λ v. parent_of shapes (cell_of v) ≡ parent) same (parent_is parent (cell_of t) (placed_cell shapes ws parent around outer t placed).declared))
        | inr opens ↦
            let found = flat_has (cut c) (inside t) u (subst (λ us. Has us u) opens.parts h) in
            elim (below found.0 found.1 (Some (cell_of t)) _ (is_both ws (mark_of t)) (placed_inside shapes ws parent around outer t placed found.0 found.1) u found.2) [
              | inl e ↦ inr (cell_of t, opens.below, e)
              | inr deep ↦ inr deep
            ]
      ])

  -- what is cut is placed, with the same nearest written cell around it
  pub record IsPlacedBelow (around : Option ℕ) (u : Tree) : Type 0 where
    pub parent_at : Option ℕ
    pub outer_at : Bool
    pub placed : IsPlaced shapes ws parent_at around outer_at u

  abbrev CutPlaced : ℕ → Tree → Type 0
  CutPlaced c t = (parent around : Option ℕ) (outer : Bool) → IsPlaced shapes ws parent around outer t → (u : Tree) → Has (cut c t) u → IsPlacedBelow around u

  pub cut_placed : (c : ℕ) (t : Tree) → CutPlaced c t
  cut_placed c = tree_induction (CutPlaced c) (λ t below parent around outer placed u h.
      elim (stays_or_opens c t) [
        | inl stays ↦
            subst (IsPlacedBelow around) (in_one (cut c t) t u stays.whole h) (record { parent_at = parent; outer_at = outer; placed = placed })
        | inr opens ↦
            let found = flat_has (cut c) (inside t) u (subst (λ us. Has us u) opens.parts h) in
            let inner : IsPlaced shapes ws (Some (cell_of t)) around (is_both ws (mark_of t)) found.0 =
            subst (λ o. IsPlaced shapes ws (Some (cell_of t)) (around_inside around o) (is_both ws (mark_of t)) found.0) opens.added
            (placed_inside shapes ws parent around outer t placed found.0 found.1) in
            below found.0 found.1 (Some (cell_of t)) around (is_both ws (mark_of t)) inner u found.2
      ])

-- what a tree is cut to stays
StaysCut : ℕ → Tree → Type 0
StaysCut c t = (u : Tree) → Has (cut c t) u → Stays c u

pub stays_cut : (c : ℕ) (t : Tree) (u : Tree) → Has (cut c t) u → Stays c u
unfolding StaysCut
stays_cut c = tree_induction (StaysCut c) (λ t below u h.
    elim (stays_or_opens c t) [
      | inl stays ↦ elim (subst (λ us. Has us u) stays.whole h) [ inl e ↦ subst (Stays c) e stays | inr none ↦ absurd none ]
      | inr opens ↦
          let found = flat_has (cut c) (inside t) u (subst (λ us. Has us u) opens.parts h) in
          below found.0 found.1 u found.2
    ])
