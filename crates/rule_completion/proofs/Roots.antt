-- The root of a completion is on both sides.
use Rattle.std.proofs.Common.{inl, inr, ◌≡◌, ℕ, Bool, true, false, ◌&&◌, ◌||◌, ◌==◌, List, [], ◌∷◌, map, filter, Option, Some, None, refl, sym, ap, ◌∙◌, subst}
use Rattle.std.proofs.lemmas.Bool.{eqb-true}
use Rattle.std.proofs.lemmas.List.Folds.{list_any-append}
use Rattle.std.specs.Prelude.{Contains, IsTrue, slice_get, nat_lt}
use Rattle.std.specs.Option.{option_map_or}
use Rattle.std.specs.List.{list_any}
use Rattle.rule_terms.specs.declared.defs.CellShape.{CellShape}
use Rattle.rule_terms.specs.declared.pattern.Body.{Body}
use Rattle.rule_terms.specs.declared.rule.Draft.{Draft}
use Rattle.rule_terms.specs.Sound.{has_cells}
use Rattle.rule_terms.specs.Spots.{Spot, has_mark}
use Rattle.rule_terms.proofs.Defined.{both, one_of}
use Rattle.live_config.specs.Footprint.{body_of_mark}
use Rattle.strictness.specs.SoundDrafts.{spots_of}
use Rattle.cell_completion.specs.declared.tree.Written.{Written}
use Rattle.cell_completion.specs.declared.tree.Tree.{Tree}
use Rattle.cell_completion.specs.Completion.{is_many, is_both, IsDeclaredIn, IsAsWritten, IsCell, IsLeastCompletion, NoneMisplaced}
use Rattle.cell_completion.proofs.Unfolded.{cell_of, mark_of, inside, placed_cell}
use Rattle.cell_trees.specs.Trees.{Tree as Declaration, IsTree}
use Rattle.rule_completion.specs.Writing.{as_written, is_new, written, written_left, written_new}
use Rattle.rule_completion.specs.Numbering.{count}
use Rattle.rule_completion.specs.Completed.{forest, cell_with, with_inside, inside_of, all_on_side, HasRoot}
use Rattle.rule_completion.proofs.Layers.{added_is, written_is}
use Rattle.rule_completion.proofs.Found.{has_mark_found}

-- ---- a written cell of both sides

abbrev stays : ℕ → Written → Bool
stays m w = w.mark == m && w.both

and_false : (b : Bool) → (b && false) ≡ false
and_false true = refl
and_false false = refl

never : (m : ℕ) (ps : List Spot) → list_any (stays m) (map (as_written false) ps) ≡ false
never m [] = refl
never m (p ∷ ps) = ap (λ b. b || list_any (stays m) (map (as_written false) ps)) (and_false (p.mark == m)) ∙ never m ps

either : (a b : Bool) → a ≡ true → (a || b) ≡ true
either true b e = refl
either false b e = cc

other : (a b : Bool) → b ≡ true → (a || b) ≡ true
other true b e = refl
other false b e = e

on_both : (right ps : List Spot) (m : ℕ) → list_any (stays m) (map (λ (p : Spot). as_written (has_mark right p.mark) p) ps) ≡ true
    → (has_mark ps m ≡ true) × (has_mark right m ≡ true)
on_both right [] m e = absurd (let f : false ≡ true = e in cc)
on_both right (p ∷ ps) m e =
    elim (one_of (p.mark == m && has_mark right p.mark) (list_any (stays m) (map (λ (p : Spot). as_written (has_mark right p.mark) p) ps)) e) [
      | inl here ↦
          let parts = both (p.mark == m) (has_mark right p.mark) here in
          (either (p.mark == m) (has_mark ps m) parts.0, subst (λ n. has_mark right n ≡ true) (eqb-true p.mark m parts.0) parts.1)
      | inr there ↦ let rest = on_both right ps m there in (other (p.mark == m) (has_mark ps m) rest.0, rest.1)
    ]

or_false : (b : Bool) → (b || false) ≡ b
or_false true = refl
or_false false = refl

-- it stands in the forest of each side
pub in_forests : (draft : Draft) (m : ℕ) → is_both (written draft) (Some m) ≡ true
    → (has_mark (spots_of draft.left) m ≡ true) × (has_mark (spots_of draft.right) m ≡ true)
in_forests draft m e =
    on_both (spots_of draft.right) (spots_of draft.left) m
    (sym (or_false (list_any (stays m) (written_left draft)))
    ∙ ap (λ b. list_any (stays m) (written_left draft) || b) (sym (never m (filter (is_new draft) (spots_of draft.right))))
    ∙ sym (list_any-append (stays m) (written_left draft) (written_new draft)) ∙ e)

in_forest : (draft : Draft) (left : Bool) (m : ℕ) → is_both (written draft) (Some m) ≡ true → has_mark (spots_of (forest draft left)) m ≡ true
in_forest draft true m e = (in_forests draft m e).0
in_forest draft false m e = (in_forests draft m e).1

-- ---- the root

module _ (d : Declaration) (tree : IsTree d) where
  is_root : (cell : ℕ) (parent : Option ℕ) → parent ≡ None
      → IsTrue (elim parent [ None ↦ cell == 0 | Some k ↦ nat_lt k cell && option_map_or (λ (s : CellShape). has_cells s.kind) (slice_get d.shapes k) false ]) → cell ≡ 0
  is_root cell None e t = eqb-true cell 0 t
  is_root cell (Some k) e t = absurd (let f : Some k ≡ None = e in cc)

  root_is_single : (cell : ℕ) → IsDeclaredIn d.shapes None cell → is_many d.shapes cell ≡ false
  root_is_single cell declared =
      let first : cell ≡ 0 = is_root cell declared.shape.parent declared.parent_is (tree.placed cell declared.shape declared.declared) in
      ap (λ (o : Option CellShape). option_map_or (λ (shape : CellShape). shape.many) o false) declared.declared
      ∙ tree.single declared.shape (ap (slice_get d.shapes) (sym first) ∙ declared.declared)

  module _ (draft : Draft) (whole : Tree) (left : Bool) (least : IsLeastCompletion d.shapes (written draft) whole) (placed : NoneMisplaced d.shapes (written draft)) where
    root_cell : IsCell d.shapes (written draft) None None true whole
    root_cell = placed_cell d.shapes (written draft) None None true whole least.is.placed

    root_stays : (m : ℕ) → mark_of whole ≡ Some m → is_both (written draft) (Some m) ≡ true
    root_stays m is =
        let w : Written = record { mark = m; cell = cell_of whole; above = None; both = is_both (written draft) (Some m) } in
        let there : Contains (written draft) w = subst (λ o. IsAsWritten d.shapes (written draft) None (cell_of whole) o (inside whole)) is root_cell.written in
        elim (is_both (written draft) (Some m)) as (λ b. is_both (written draft) (Some m) ≡ b → is_both (written draft) (Some m) ≡ true) [
          | true ↦ λ e. e
          | false ↦ λ e. absurd (placed w there (inr (record { one_side = e; single = root_is_single (cell_of whole) root_cell.declared; alone = λ within. within })))
        ] refl

    written_root : (m : ℕ) (body : Option Body) → body_of_mark (spots_of (forest draft left)) m ≡ body
        → elim body [ None ↦ false | Some b ↦ true ] ≡ true → mark_of whole ≡ Some m → HasRoot d draft left whole
    written_root m None found some is = absurd (let f : false ≡ true = some in cc)
    written_root m (Some body) found some is = (
      cell_with (cell_of whole) m (with_inside body (inside_of d draft (count whole) left m (cell_of whole) (all_on_side d draft (count whole) left 0 (inside whole)))),
      written_is d draft (count whole) left 0 whole m is
          ∙ ap (λ o. elim o [ None ↦ [] | Some b ↦ cell_with (cell_of whole) m (with_inside b (inside_of d draft (count whole) left m (cell_of whole) (all_on_side d draft (count whole) left 0 (inside whole)))) ∷ [] ]) found,
    )

    pub root_on_side : HasRoot d draft left whole
    root_on_side =
        elim (mark_of whole) as (λ o. mark_of whole ≡ o → HasRoot d draft left whole) [
          | None ↦ λ is. (_, added_is d draft (count whole) left 0 whole is)
          | Some m ↦ λ is. written_root m (body_of_mark (spots_of (forest draft left)) m) refl
              (sym (has_mark_found (spots_of (forest draft left)) m) ∙ in_forest draft left m (root_stays m is)) is
        ] refl
