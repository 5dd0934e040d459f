-- The added cells of a tree: which written cells are around them, and that none stands twice.
use Rattle.std.proofs.Common.{◌≡◌, ◌⊎◌, inl, inr, ℕ, ◌<◌, ◌≤◌, Bool, true, false, cond, List, [], ◌∷◌, ◌++◌, filter, length, Option, Some, None, refl, sym, ap, ◌∙◌, subst, arith}
use Rattle.std.specs.List.{flat_map}
use Rattle.rule_terms.specs.declared.defs.CellShape.{CellShape}
use Rattle.live_config.proofs.Members.{Has, Apart, has_either, kept}
use Rattle.cell_completion.specs.declared.tree.Written.{Written}
use Rattle.cell_completion.specs.declared.tree.Tree.{Tree}
use Rattle.cell_completion.specs.Trees.{marks, around_inside, Added, as_added, added_in}
use Rattle.cell_completion.specs.Completion.{is_both, IsPlaced}
use Rattle.cell_completion.specs.Listed.{AreDeclared}
use Rattle.cell_completion.proofs.Unfolded.{cell_of, mark_of, inside, tree_induction, added_are, placed_cell, placed_inside}
use Rattle.cell_completion.proofs.Cutting.{has_flat, flat_has, is_greater}
use Rattle.cell_completion.proofs.Marks.{apart_right, apart_both, apart_one, apart_inside, mark_in, marks_inside, has_mark_in}
use Rattle.cell_completion.proofs.Parts.{part}

-- an added cell is the tree itself, or one of a cell in it
pub record IsAddedInside (around : Option ℕ) (t : Tree) (z : Added) : Type 0 where
  pub child : Tree
  pub is_child : Has (inside t) child
  pub is_added : Has (added_in (around_inside around (mark_of t)) child) z

pub added_cases : (around : Option ℕ) (t : Tree) (z : Added) → Has (added_in around t) z → ((mark_of t ≡ None) × (part around t ≡ z)) ⊎ IsAddedInside around t z
added_cases around t z h =
    elim (has_either (as_added around (mark_of t) t) (flat_map (added_in (around_inside around (mark_of t))) (inside t)) z (subst (λ added. Has added z) (added_are around t) h)) [
      | inl own ↦
          elim (mark_of t) as (λ o. mark_of t ≡ o → Has (as_added around o t) z → ((mark_of t ≡ None) × (part around t ≡ z)) ⊎ IsAddedInside around t z) [
            | None ↦ λ e g. elim g [ inl d ↦ inl (e, d) | inr none ↦ absurd none ]
            | Some m ↦ λ e g. absurd g
          ] refl own
      | inr g ↦
          let r = flat_has (added_in (around_inside around (mark_of t))) (inside t) z g in
          inr (record { child = r.0; is_child = r.1; is_added = r.2 })
    ]

-- the written cell around it is the one around the tree, or one of the tree
Around : Tree → Type 0
Around t = (around : Option ℕ) (z : Added) → Has (added_in around t) z → (z.around ≡ around) ⊎ ((m : ℕ) × (z.around ≡ Some m) × Has (marks t) m)

pub added_around : (t : Tree) (around : Option ℕ) (z : Added) → Has (added_in around t) z → (z.around ≡ around) ⊎ ((m : ℕ) × (z.around ≡ Some m) × Has (marks t) m)
unfolding Around
added_around = tree_induction Around (λ t below around z h.
    elim (added_cases around t z h) [
      | inl own ↦ inl (ap (λ (y : Added). y.around) (sym own.1))
      | inr i ↦ elim (below i.child i.is_child (around_inside around (mark_of t)) z i.is_added) [
        | inl e ↦ elim (mark_of t) as (λ o. mark_of t ≡ o → (z.around ≡ around) ⊎ ((m : ℕ) × (z.around ≡ Some m) × Has (marks t) m)) [
          | None ↦ λ d. inl (e ∙ ap (around_inside around) d)
          | Some m ↦ λ d. inr (m, e ∙ ap (around_inside around) d, mark_in t m d)
        ] refl
        | inr deep ↦ inr (deep.0, deep.1, marks_inside t i.child deep.0 i.is_child deep.2)
      ]
    ])

-- of a written tree it is one of the tree
pub written_around : (t : Tree) (n : ℕ) (around : Option ℕ) (z : Added) → mark_of t ≡ Some n → Has (added_in around t) z → (m : ℕ) × (z.around ≡ Some m) × Has (marks t) m
written_around t n around z e h =
    elim (added_cases around t z h) [
      | inl own ↦ absurd (let f : None ≡ Some n = sym own.0 ∙ e in cc)
      | inr i ↦ elim (added_around i.child (around_inside around (mark_of t)) z i.is_added) [
        | inl same ↦ (n, same ∙ ap (around_inside around) e, mark_in t n e)
        | inr deep ↦ (deep.0, deep.1, marks_inside t i.child deep.0 i.is_child deep.2)
      ]
    ]

AddedMarks : Tree → Type 0
AddedMarks t = (around : Option ℕ) (z : Added) (m : ℕ) → Has (added_in around t) z → Has (marks z.tree) m → Has (marks t) m

pub added_marks : (t : Tree) (around : Option ℕ) (z : Added) (m : ℕ) → Has (added_in around t) z → Has (marks z.tree) m → Has (marks t) m
unfolding AddedMarks
added_marks = tree_induction AddedMarks (λ t below around z m h g.
    elim (added_cases around t z h) [
      | inl own ↦ subst (λ (y : Added). Has (marks y.tree) m) (sym own.1) g
      | inr i ↦ marks_inside t i.child m i.is_child (below i.child i.is_child (around_inside around (mark_of t)) z m i.is_added g)
    ])

-- ---- none twice

-- each member stands at one place
abbrev pub Once : {X : Type 0} → List X → Type 0
Once [] = Unit {0}
Once (x ∷ xs) = (Has xs x → ⊥) × Once xs

pub once_joined : {X : Type 0} (xs ys : List X) → Once xs → Once ys → ((x : X) → Has xs x → Has ys x → ⊥) → Once (xs ++ ys)
once_joined [] ys a b differ = b
once_joined (x ∷ xs) ys a b differ =
    ((λ h. elim (has_either xs ys x h) [ inl g ↦ a.0 g | inr g ↦ differ x (inl refl) g ]), once_joined xs ys a.1 b (λ y h g. differ y (inr h) g))

pub once_filter : {X : Type 0} (p : X → Bool) (xs : List X) → Once xs → Once (filter p xs)
once_filter p [] a = tt
once_filter p (x ∷ xs) a =
    elim (p x) as (λ b. Once (cond b (x ∷ filter p xs) (filter p xs))) [
      | true ↦ ((λ h. a.0 (kept p xs x h).0), once_filter p xs a.1)
      | false ↦ once_filter p xs a.1
    ]

-- where all members are one, there is one at most
pub once_few : {X : Type 0} (xs : List X) → Once xs → ((x y : X) → Has xs x → Has xs y → x ≡ y) → length xs ≤ 1
once_few [] a one = omega (arith)
once_few (x ∷ []) a one = omega (arith)
once_few (x ∷ y ∷ ys) a one = absurd (a.0 (inl (one y x (inr (inl refl)) (inl refl))))

module _ (shapes : List CellShape) (ws : List Written) (declared : AreDeclared shapes) where
  -- added cells are of no lower declared cell
  AddedCells : Tree → Type 0
  AddedCells t = (parent at around : Option ℕ) (outer : Bool) → IsPlaced shapes ws parent at outer t → (z : Added) → Has (added_in around t) z → cell_of t ≤ cell_of z.tree

  child_cell : (parent at : Option ℕ) (outer : Bool) (t k : Tree) → IsPlaced shapes ws parent at outer t → Has (inside t) k → cell_of t < cell_of k
  child_cell parent at outer t k placed h =
      is_greater shapes ws declared (cell_of t) (cell_of k) (placed_cell shapes ws _ _ _ k (placed_inside shapes ws parent at outer t placed k h)).declared

  pub added_cells : (t : Tree) (parent at around : Option ℕ) (outer : Bool) → IsPlaced shapes ws parent at outer t → (z : Added) → Has (added_in around t) z → cell_of t ≤ cell_of z.tree
  unfolding AddedCells
  added_cells = tree_induction AddedCells (λ t below parent at around outer placed z h.
      elim (added_cases around t z h) [
        | inl own ↦ let same : cell_of t ≡ cell_of z.tree = ap (λ (y : Added). cell_of y.tree) own.1 in omega (arith, same)
        | inr i ↦
            let less = child_cell parent at outer t i.child placed i.is_child in
            let more = below i.child i.is_child (Some (cell_of t)) (around_inside at (mark_of t)) (around_inside around (mark_of t)) (is_both ws (mark_of t)) (placed_inside shapes ws parent at outer t placed i.child i.is_child) z i.is_added in
            omega (arith, less, more)
      ])

  -- each has a written cell in it
  AddedMarked : Tree → Type 0
  AddedMarked t = (parent at around : Option ℕ) (outer : Bool) → IsPlaced shapes ws parent at outer t → (z : Added) → Has (added_in around t) z → (m : ℕ) × Has (marks z.tree) m

  pub added_marked : (t : Tree) (parent at around : Option ℕ) (outer : Bool) → IsPlaced shapes ws parent at outer t → (z : Added) → Has (added_in around t) z → (m : ℕ) × Has (marks z.tree) m
  unfolding AddedMarked
  added_marked = tree_induction AddedMarked (λ t below parent at around outer placed z h.
      elim (added_cases around t z h) [
        | inl own ↦ subst (λ (y : Added). (m : ℕ) × Has (marks y.tree) m) own.1 (has_mark_in shapes ws t parent at outer placed)
        | inr i ↦
            below i.child i.is_child (Some (cell_of t)) (around_inside at (mark_of t)) (around_inside around (mark_of t)) (is_both ws (mark_of t))
            (placed_inside shapes ws parent at outer t placed i.child i.is_child) z i.is_added
      ])

  AddedOnce : Tree → Type 0
  AddedOnce t = (parent at around : Option ℕ) (outer : Bool) → IsPlaced shapes ws parent at outer t → Apart (marks t) → Once (added_in around t)

  once_each : (around : Option ℕ) (parent at : Option ℕ) (outer : Bool) (ts : List Tree) → Apart (flat_map marks ts)
      → ((t : Tree) → Has ts t → IsPlaced shapes ws parent at outer t × Once (added_in around t)) → Once (flat_map (added_in around) ts)
  once_each around parent at outer [] a each = tt
  once_each around parent at outer (t ∷ ts) a each =
      once_joined (added_in around t) (flat_map (added_in around) ts) (each t (inl refl)).1
      (once_each around parent at outer ts (apart_right (marks t) (flat_map marks ts) a) (λ u h. each u (inr h)))
      (λ z h g.
      let u = flat_has (added_in around) ts z g in
      let m = added_marked t parent at around outer (each t (inl refl)).0 z h in
      apart_both (marks t) (flat_map marks ts) a m.0 (added_marks t around z m.0 h m.1) (has_flat marks ts u.0 m.0 u.1 (added_marks u.0 around z m.0 u.2 m.1)))

  pub added_once : (t : Tree) (parent at around : Option ℕ) (outer : Bool) → IsPlaced shapes ws parent at outer t → Apart (marks t) → Once (added_in around t)
  unfolding AddedOnce
  added_once = tree_induction AddedOnce (λ t below parent at around outer placed apart.
      let inner : Once (flat_map (added_in (around_inside around (mark_of t))) (inside t)) =
      once_each (around_inside around (mark_of t)) (Some (cell_of t)) (around_inside at (mark_of t)) (is_both ws (mark_of t)) (inside t) (apart_inside t apart)
      (λ k h. (
        placed_inside shapes ws parent at outer t placed k h,
        below k h (Some (cell_of t)) (around_inside at (mark_of t)) (around_inside around (mark_of t)) (is_both ws (mark_of t)) (placed_inside shapes ws parent at outer t placed k h) (apart_one marks (inside t) k (apart_inside t apart) h),
      )) in
      let deeper_cell : (z : Added) → Has (flat_map (added_in (around_inside around (mark_of t))) (inside t)) z → cell_of t < cell_of z.tree = λ z g.
      let k = flat_has (added_in (around_inside around (mark_of t))) (inside t) z g in
      let less = child_cell parent at outer t k.0 placed k.1 in
      let more = added_cells k.0 (Some (cell_of t)) (around_inside at (mark_of t)) (around_inside around (mark_of t)) (is_both ws (mark_of t)) (placed_inside shapes ws parent at outer t placed k.0 k.1) z k.2 in
      omega (arith, less, more) in
      subst Once (sym (added_are around t))
      (once_joined (as_added around (mark_of t) t) (flat_map (added_in (around_inside around (mark_of t))) (inside t)) (own_once around (mark_of t) t) inner
      (λ z h g. let same = own_is around (mark_of t) t z h in let less = deeper_cell z g in
      let e : cell_of t ≡ cell_of z.tree = ap (λ (y : Added). cell_of y.tree) same in omega (arith, less, e))))
    where
      own_once : (around o : Option ℕ) (t : Tree) → Once (as_added around o t)
      own_once around None t = ((λ h. absurd h), tt)
      own_once around (Some m) t = tt

      own_is : (around o : Option ℕ) (t : Tree) (z : Added) → Has (as_added around o t) z → part around t ≡ z
      own_is around None t z (inl e) = e
      own_is around None t z (inr h) = absurd h
      own_is around (Some m) t z h = absurd h
