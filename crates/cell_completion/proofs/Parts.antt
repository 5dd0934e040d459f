-- All cells of a tree, with the nearest written one around each.
use Rattle.std.proofs.Common.{◌≡◌, ◌⊎◌, inl, inr, ℕ, ◌<◌, Bool, List, [], ◌∷◌, ◌++◌, Option, Some, None, length, refl, sym, ap, ◌∙◌, subst, arith}
use Rattle.std.specs.Prelude.{slice_get}
use Rattle.std.specs.List.{flat_map}
use Rattle.std.proofs.lemmas.Bool.{cases_lt}
use Rattle.std.proofs.lemmas.Option.{slice_get_past}
use denote.Hole.Carrier.{out}
use mathlib.Core.Former.{Count}
use Rattle.rule_terms.specs.declared.defs.CellShape.{CellShape}
use Rattle.live_config.proofs.Members.{Has, Apart, has_left, has_right, has_either}
use Rattle.cell_completion.specs.declared.tree.Written.{Written}
use Rattle.cell_completion.specs.declared.tree.Tree.{Tree, Tree', out-Tree, Row_of-Tree, end_of-Tree, more_of-Tree}
use Rattle.cell_completion.specs.declared.tree.Tree.TheBlock.{items-the_row-Tree, items_shown-the_row-Tree-0}
use Rattle.cell_completion.specs.Trees.{as_marks, marks, around_inside, Added, as_added, added_in}
use Rattle.cell_completion.specs.Completion.{is_both, IsPlaced}
use Rattle.cell_completion.specs.Listed.{AreDeclared}
use Rattle.cell_completion.proofs.Unfolded.{cell_of, mark_of, inside, tree_induction, marks_are, added_are, placed_cell, placed_inside}
use Rattle.cell_completion.proofs.Cutting.{has_flat, flat_has, cut, Stays, stays_or_opens}
use Rattle.cell_completion.proofs.Marks.{apart_one, one_with, mark_in, marks_inside, apart_inside, own_mark}

abbrev pub part : Option ℕ → Tree → Added
part around t = record { around = around; tree = t }

mutual
  pub parts : Option ℕ → Tree → List Added
  parts around (Tree' cell mark s row) = part around (Tree' cell mark s row) ∷ row_parts (around_inside around mark) row

  row_parts : {n : Count} → Option ℕ → Row_of-Tree n → List Added
  row_parts around end_of-Tree = []
  row_parts around (more_of-Tree t ts) = parts around t ++ row_parts around ts

row_parts_are : {n : Count} (around : Option ℕ) (row : Row_of-Tree n) → row_parts around row ≡ flat_map (parts around) (items-the_row-Tree n row)
unfolding row_parts
row_parts_are around end_of-Tree = refl
row_parts_are around (more_of-Tree t ts) = ap (λ ps. parts around t ++ ps) (row_parts_are around ts)

pub parts_are : (around : Option ℕ) (t : Tree) → parts around t ≡ part around t ∷ flat_map (parts (around_inside around (mark_of t))) (inside t)
unfolding parts out-Tree out
parts_are around (Tree' cell mark s row) =
    ap (λ ps. part around (Tree' cell mark s row) ∷ ps)
    (row_parts_are (around_inside around mark) row ∙ ap (flat_map (parts (around_inside around mark))) (sym (items_shown-the_row-Tree-0 s row)))

-- a part is the tree, or one of a cell in it
pub record IsInner (around : Option ℕ) (t : Tree) (p : Added) : Type 0 where
  pub child : Tree
  pub is_child : Has (inside t) child
  pub is_part : Has (parts (around_inside around (mark_of t)) child) p

pub part_cases : (around : Option ℕ) (t : Tree) (p : Added) → Has (parts around t) p → (part around t ≡ p) ⊎ IsInner around t p
part_cases around t p h =
    elim (subst (λ ps. Has ps p) (parts_are around t) h) [
      | inl e ↦ inl e
      | inr g ↦ let r = flat_has (parts (around_inside around (mark_of t))) (inside t) p g in inr (record { child = r.0; is_child = r.1; is_part = r.2 })
    ]

pub whole_part : (around : Option ℕ) (t : Tree) → Has (parts around t) (part around t)
whole_part around t = subst (λ ps. Has ps (part around t)) (sym (parts_are around t)) (inl refl)

pub inner_part : (around : Option ℕ) (t : Tree) (p : Added) → IsInner around t p → Has (parts around t) p
inner_part around t p i =
    subst (λ ps. Has ps p) (sym (parts_are around t)) (inr (has_flat (parts (around_inside around (mark_of t))) (inside t) i.child p i.is_child i.is_part))

-- ---- parts of parts

Deeper : Tree → Type 0
Deeper t = (around : Option ℕ) (p q : Added) → Has (parts around t) p → Has (parts p.around p.tree) q → Has (parts around t) q

pub deeper : (t : Tree) (around : Option ℕ) (p q : Added) → Has (parts around t) p → Has (parts p.around p.tree) q → Has (parts around t) q
unfolding Deeper
deeper = tree_induction Deeper (λ t below around p q h g.
    elim (part_cases around t p h) [
      | inl e ↦ subst (λ r. Has (parts r.around r.tree) q) (sym e) g
      | inr i ↦ inner_part around t q (record {
        child = i.child;
        is_child = i.is_child;
        is_part = below i.child i.is_child (around_inside around (mark_of t)) p q i.is_part g;
      })
    ])

pub child_part : (t : Tree) (around : Option ℕ) (p : Added) (u : Tree) → Has (parts around t) p → Has (inside p.tree) u
    → Has (parts around t) (part (around_inside p.around (mark_of p.tree)) u)
child_part t around p u h g =
    deeper t around p (part (around_inside p.around (mark_of p.tree)) u) h
    (inner_part p.around p.tree (part (around_inside p.around (mark_of p.tree)) u) (record { child = u; is_child = g; is_part = whole_part (around_inside p.around (mark_of p.tree)) u }))

-- ---- the marks of parts

PartMarks : Tree → Type 0
PartMarks t = (around : Option ℕ) (p : Added) (m : ℕ) → Has (parts around t) p → Has (marks p.tree) m → Has (marks t) m

pub part_marks : (t : Tree) (around : Option ℕ) (p : Added) (m : ℕ) → Has (parts around t) p → Has (marks p.tree) m → Has (marks t) m
unfolding PartMarks
part_marks = tree_induction PartMarks (λ t below around p m h g.
    elim (part_cases around t p h) [
      | inl e ↦ subst (λ q. Has (marks q.tree) m) (sym e) g
      | inr i ↦ marks_inside t i.child m i.is_child (below i.child i.is_child (around_inside around (mark_of t)) p m i.is_part g)
    ])

PartApart : Tree → Type 0
PartApart t = (around : Option ℕ) (p : Added) → Apart (marks t) → Has (parts around t) p → Apart (marks p.tree)

pub part_apart : (t : Tree) (around : Option ℕ) (p : Added) → Apart (marks t) → Has (parts around t) p → Apart (marks p.tree)
unfolding PartApart
part_apart = tree_induction PartApart (λ t below around p a h.
    elim (part_cases around t p h) [
      | inl e ↦ subst (λ q. Apart (marks q.tree)) e a
      | inr i ↦ below i.child i.is_child (around_inside around (mark_of t)) p (apart_one marks (inside t) i.child (apart_inside t a) i.is_child) i.is_part
    ])

-- each mark is that of a part
MarkPart : Tree → Type 0
MarkPart t = (around : Option ℕ) (m : ℕ) → Has (marks t) m → (p : Added) × Has (parts around t) p × (mark_of p.tree ≡ Some m)

in_marks : (o : Option ℕ) (m : ℕ) → Has (as_marks o) m → o ≡ Some m
in_marks None m h = absurd h
in_marks (Some n) m (inl e) = ap (λ k. Some k) e
in_marks (Some n) m (inr h) = absurd h

pub mark_part : (t : Tree) (around : Option ℕ) (m : ℕ) → Has (marks t) m → (p : Added) × Has (parts around t) p × (mark_of p.tree ≡ Some m)
unfolding MarkPart
mark_part = tree_induction MarkPart (λ t below around m h.
    elim (has_either (as_marks (mark_of t)) (flat_map marks (inside t)) m (subst (λ ms. Has ms m) (marks_are t) h)) [
      | inl own ↦ (part around t, whole_part around t, in_marks (mark_of t) m own)
      | inr g ↦
          let u = flat_has marks (inside t) m g in
          let r = below u.0 u.1 (around_inside around (mark_of t)) m u.2 in
          (r.0, inner_part around t r.0 (record { child = u.0; is_child = u.1; is_part = r.1 }), r.2)
    ])

-- two parts of one mark are one
OnePart : Tree → Type 0
OnePart t = (around : Option ℕ) (p q : Added) (m : ℕ) → Apart (marks t) → Has (parts around t) p → Has (parts around t) q
    → mark_of p.tree ≡ Some m → mark_of q.tree ≡ Some m → p ≡ q

inner_mark : (around : Option ℕ) (t : Tree) (q : Added) (m : ℕ) → IsInner around t q → mark_of q.tree ≡ Some m → Has (flat_map marks (inside t)) m
inner_mark around t q m i e =
    has_flat marks (inside t) i.child m i.is_child (part_marks i.child (around_inside around (mark_of t)) q m i.is_part (mark_in q.tree m e))

pub one_part : (t : Tree) (around : Option ℕ) (p q : Added) (m : ℕ) → Apart (marks t) → Has (parts around t) p → Has (parts around t) q
    → mark_of p.tree ≡ Some m → mark_of q.tree ≡ Some m → p ≡ q
unfolding OnePart
one_part = tree_induction OnePart (λ t below around p q m a h g d e.
    elim (part_cases around t p h) [
      | inl x ↦ elim (part_cases around t q g) [
        | inl y ↦ sym x ∙ y
        | inr j ↦ absurd (own_mark t a m (subst (λ r. mark_of r.tree ≡ Some m) (sym x) d) (inner_mark around t q m j e))
      ]
      | inr i ↦ elim (part_cases around t q g) [
        | inl y ↦ absurd (own_mark t a m (subst (λ r. mark_of r.tree ≡ Some m) (sym y) e) (inner_mark around t p m i d))
        | inr j ↦
            let same : i.child ≡ j.child = one_with marks (inside t) (apart_inside t a) i.child j.child m i.is_child j.is_child
            (part_marks i.child (around_inside around (mark_of t)) p m i.is_part (mark_in p.tree m d))
            (part_marks j.child (around_inside around (mark_of t)) q m j.is_part (mark_in q.tree m e)) in
            below i.child i.is_child (around_inside around (mark_of t)) p q m (apart_one marks (inside t) i.child (apart_inside t a) i.is_child) i.is_part
            (subst (λ u. Has (parts (around_inside around (mark_of t)) u) q) (sym same) j.is_part) d e
      ]
    ])

-- ---- added cells of parts

AddedPart : Tree → Type 0
AddedPart t = (around : Option ℕ) (p a : Added) → Has (parts around t) p → Has (added_in p.around p.tree) a → Has (added_in around t) a

pub added_part : (t : Tree) (around : Option ℕ) (p a : Added) → Has (parts around t) p → Has (added_in p.around p.tree) a → Has (added_in around t) a
unfolding AddedPart
added_part = tree_induction AddedPart (λ t below around p a h g.
    elim (part_cases around t p h) [
      | inl e ↦ subst (λ q. Has (added_in q.around q.tree) a) (sym e) g
      | inr i ↦
          subst (λ added. Has added a) (sym (added_are around t))
          (has_right (as_added around (mark_of t) t) (flat_map (added_in (around_inside around (mark_of t))) (inside t)) a
          (has_flat (added_in (around_inside around (mark_of t))) (inside t) i.child a i.is_child
          (below i.child i.is_child (around_inside around (mark_of t)) p a i.is_part g)))
    ])

-- an added cell that a tree is cut to is one of it
CutAdded : ℕ → Tree → Type 0
CutAdded c t = (around : Option ℕ) (a : Tree) → Has (cut c t) a → mark_of a ≡ None → Has (added_in around t) (part around a)

pub cut_added : (c : ℕ) (t : Tree) (around : Option ℕ) (a : Tree) → Has (cut c t) a → mark_of a ≡ None → Has (added_in around t) (part around a)
unfolding CutAdded
cut_added c = tree_induction (CutAdded c) (λ t below around a h e.
    elim (stays_or_opens c t) [
      | inl stays ↦
          elim (subst (λ us. Has us a) stays.whole h) [
            | inl same ↦
                subst (λ u. Has (added_in around t) (part around u)) same
                (subst (λ added. Has added (part around t)) (sym (added_are around t))
                (has_left (as_added around (mark_of t) t) (flat_map (added_in (around_inside around (mark_of t))) (inside t)) (part around t)
                (subst (λ o. Has (as_added around o t) (part around t)) (sym (ap mark_of same ∙ e)) (inl refl))))
            | inr none ↦ absurd none
          ]
      | inr opens ↦
          let found = flat_has (cut c) (inside t) a (subst (λ us. Has us a) opens.parts h) in
          let here = below found.0 found.1 around a found.2 e in
          subst (λ added. Has added (part around a)) (sym (added_are around t))
          (has_right (as_added around (mark_of t) t) (flat_map (added_in (around_inside around (mark_of t))) (inside t)) (part around a)
          (has_flat (added_in (around_inside around (mark_of t))) (inside t) found.0 (part around a) found.1
          (subst (λ o. Has (added_in (around_inside around o) found.0) (part around a)) (sym opens.added) here)))
    ])

-- what a tree is cut to are parts with the same written cell around
CutPart : ℕ → Tree → Type 0
CutPart c t = (around : Option ℕ) (u : Tree) → Has (cut c t) u → Has (parts around t) (part around u)

pub cut_part : (c : ℕ) (t : Tree) (around : Option ℕ) (u : Tree) → Has (cut c t) u → Has (parts around t) (part around u)
unfolding CutPart
cut_part c = tree_induction (CutPart c) (λ t below around u h.
    elim (stays_or_opens c t) [
      | inl stays ↦
          elim (subst (λ us. Has us u) stays.whole h) [
            | inl same ↦ subst (λ v. Has (parts around t) (part around v)) same (whole_part around t)
            | inr none ↦ absurd none
          ]
      | inr opens ↦
          let found = flat_has (cut c) (inside t) u (subst (λ us. Has us u) opens.parts h) in
          inner_part around t (part around u) (record {
            child = found.0;
            is_child = found.1;
            is_part = subst (λ o. Has (parts (around_inside around o) found.0) (part around u)) (sym opens.added) (below found.0 found.1 around u found.2);
          })
    ])

module _ (shapes : List CellShape) (ws : List Written) (declared : AreDeclared shapes) where
  -- ---- parts are placed

  pub record IsPlacedAt (around : Option ℕ) (t : Tree) : Type 0 where
    pub parent_at : Option ℕ
    pub outer_at : Bool
    pub placed : IsPlaced shapes ws parent_at around outer_at t

  PartPlaced : Tree → Type 0
  PartPlaced t = (parent around : Option ℕ) (outer : Bool) → IsPlaced shapes ws parent around outer t → (p : Added) → Has (parts around t) p → IsPlacedAt p.around p.tree

  pub part_placed : (t : Tree) (parent around : Option ℕ) (outer : Bool) → IsPlaced shapes ws parent around outer t → (p : Added) → Has (parts around t) p
      → IsPlacedAt p.around p.tree
  unfolding PartPlaced
  part_placed = tree_induction PartPlaced (λ t below parent around outer placed p h.
      elim (part_cases around t p h) [
        | inl e ↦ subst (λ q. IsPlacedAt q.around q.tree) e (record { parent_at = parent; outer_at = outer; placed = placed })
        | inr i ↦ below i.child i.is_child (Some (cell_of t)) (around_inside around (mark_of t)) (is_both ws (mark_of t))
            (placed_inside shapes ws parent around outer t placed i.child i.is_child) p i.is_part
      ])

  -- ---- the last level

  within : (xs : List CellShape) (n : ℕ) (x : CellShape) → slice_get xs n ≡ Some x → n < length xs
  within xs n x e =
      elim (cases_lt n (length xs)) [
        | inl less ↦ less
        | inr more ↦ absurd (let f : None ≡ Some x = sym (slice_get_past xs n more) ∙ e in cc)
      ]

  pub is_declared : (parent around : Option ℕ) (outer : Bool) (t : Tree) → IsPlaced shapes ws parent around outer t → cell_of t < length shapes
  is_declared parent around outer t placed =
      let d = (placed_cell shapes ws parent around outer t placed).declared in
      within shapes (cell_of t) d.shape d.declared

  -- what is cut at the last level is written
  pub is_written : (parent around : Option ℕ) (outer : Bool) (t : Tree) → IsPlaced shapes ws parent around outer t → Stays (length shapes) t → mark_of t ≡ None → ⊥
  is_written parent around outer t placed stays e =
      let low = stays.level e in let less = is_declared parent around outer t placed in omega (arith, low, less)

  -- A written part of a tree with this written cell around it: the tree itself has that around and is cut to the part, or a
  -- part of the tree has that mark, and the cells in it are cut to it.
  pub record IsInPart (t : Tree) (around target : Option ℕ) (u : Tree) : Type 0 where
    pub outer_part : Added
    pub is_part : Has (parts around t) outer_part
    pub mark : ℕ
    pub mark_is : mark_of outer_part.tree ≡ Some mark
    pub target_is : target ≡ Some mark
    pub is_cut : Has (flat_map (cut (length shapes)) (inside outer_part.tree)) u

  abbrev pub IsReached : Tree → Option ℕ → Option ℕ → Tree → Type 0
  IsReached t around target u = ((around ≡ target) × Has (cut (length shapes) t) u) ⊎ IsInPart t around target u

  Reached : Tree → Type 0
  Reached t = (parent around : Option ℕ) (outer : Bool) (target : Option ℕ) (u : Tree) (m : ℕ) → IsPlaced shapes ws parent around outer t
      → Has (parts around t) (part target u) → mark_of u ≡ Some m → IsReached t around target u

  higher_part : (t k : Tree) (around target : Option ℕ) (u : Tree) → Has (inside t) k → IsInPart k (around_inside around (mark_of t)) target u → IsInPart t around target u
  higher_part t k around target u h i = record {
    outer_part = i.outer_part;
    is_part = inner_part around t i.outer_part (record { child = k; is_child = h; is_part = i.is_part });
    mark = i.mark;
    mark_is = i.mark_is;
    target_is = i.target_is;
    is_cut = i.is_cut;
  }

  stays_written : (u : Tree) (m : ℕ) → mark_of u ≡ Some m → Has (cut (length shapes) u) u
  stays_written u m e =
      elim (stays_or_opens (length shapes) u) [
        | inl stays ↦ subst (λ us. Has us u) (sym stays.whole) (inl refl)
        | inr opens ↦ absurd (let f : None ≡ Some m = sym opens.added ∙ e in cc)
      ]

  pub reached : (t : Tree) (parent around : Option ℕ) (outer : Bool) (target : Option ℕ) (u : Tree) (m : ℕ) → IsPlaced shapes ws parent around outer t
      → Has (parts around t) (part target u) → mark_of u ≡ Some m → IsReached t around target u
  unfolding Reached
  reached = tree_induction Reached (λ t below parent around outer target u m placed h e.
      elim (part_cases around t (part target u) h) [
        | inl same ↦
            let tree : t ≡ u = ap (λ (p : Added). p.tree) same in
            inl (ap (λ (p : Added). p.around) same, subst (λ v. Has (cut (length shapes) v) u) (sym tree) (stays_written u m e))
        | inr i ↦
            let inner = placed_inside shapes ws parent around outer t placed i.child i.is_child in
            elim (below i.child i.is_child (Some (cell_of t)) (around_inside around (mark_of t)) (is_both ws (mark_of t)) target u m inner i.is_part e) [
              | inr deep ↦ inr (higher_part t i.child around target u i.is_child deep)
              | inl here ↦
                  elim (mark_of t) as (λ o. mark_of t ≡ o → IsReached t around target u) [
                    | Some n ↦ λ d. inr (record {
                      outer_part = part around t;
                      is_part = whole_part around t;
                      mark = n;
                      mark_is = d;
                      target_is = sym here.0 ∙ ap (around_inside around) d;
                      is_cut = has_flat (cut (length shapes)) (inside t) i.child u i.is_child here.1;
                    })
                    | None ↦ λ d.
                        elim (stays_or_opens (length shapes) t) [
                          | inl stays ↦ absurd (is_written parent around outer t placed stays d)
                          | inr opens ↦
                              inl (sym (ap (around_inside around) d) ∙ here.0, subst (λ us. Has us u) (sym opens.parts) (has_flat (cut (length shapes)) (inside t) i.child u i.is_child here.1))
                        ]
                  ] refl
            ]
      ])
