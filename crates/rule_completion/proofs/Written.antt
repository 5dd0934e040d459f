-- The cells that a draft writes, gone through.
use Rattle.std.proofs.Common.{◌≡◌, ℕ, true, false, not, ◌==◌, ◌||◌, cond, List, [], ◌∷◌, ◌++◌, map, filter, Option, Some, None, refl, sym, ap, ◌∙◌, append_assoc}
use Rattle.std.proofs.lemmas.List.{map-append}
use Rattle.std.specs.List.{flat_map}
use Rattle.rule_terms.specs.declared.pattern.Body.{Cells}
use Rattle.rule_terms.specs.declared.pattern.CellPat.{CellPat}
use Rattle.rule_terms.specs.declared.rule.Draft.{Draft}
use Rattle.rule_terms.specs.Spots.{Spot, has_mark}
use Rattle.rule_terms.proofs.SpotCounts.{spots_of_cells, no_spots}
use Rattle.strictness.specs.SoundDrafts.{spots_of}
use Rattle.cell_completion.specs.declared.tree.Written.{Written}
use Rattle.rule_completion.specs.Writing.{spots_at, as_written, cells_at, is_among, beside_others, written}

abbrev alone : Spot → Written
alone = as_written false

abbrev outer_at : Option ℕ → CellPat → Spot
outer_at above c = record { cell = c.cell; mark = c.mark; above = above; body = c.body }

of_many : (above : Option ℕ) (cells : List CellPat) → map alone (flat_map (spots_at above) cells) ≡ flat_map (cells_at above) cells
of_many above [] = refl
of_many above (c ∷ cells) =
    map-append alone (spots_at above c) (flat_map (spots_at above) cells) ∙ ap (λ ws. cells_at above c ++ ws) (of_many above cells)

-- a cell of cells, and one of something else
pub with_cells : (old new : List Written) (above : Option ℕ) (c : CellPat) (cells lent : List CellPat) (rest : Option ℕ)
    → c.body ≡ Cells cells rest → lent ≡ cells
    → new ≡ (old ++ alone (outer_at above c) ∷ []) ++ flat_map (cells_at (Some c.mark)) lent → new ≡ old ++ cells_at above c
with_cells old new above c cells lent rest is same e =
    e
    ∙ append_assoc old (alone (outer_at above c) ∷ []) (flat_map (cells_at (Some c.mark)) lent)
    ∙ ap (λ ws. old ++ alone (outer_at above c) ∷ ws) (sym (of_many (Some c.mark) lent))
    ∙ ap (λ ps. old ++ alone (outer_at above c) ∷ map alone ps) (sym (spots_of_cells c.mark c.body cells lent rest is same))

pub without_cells : (old new : List Written) (above : Option ℕ) (c : CellPat)
    → ((cells : List CellPat) (rest : Option ℕ) → c.body ≡ Cells cells rest → ⊥)
    → new ≡ old ++ alone (outer_at above c) ∷ [] → new ≡ old ++ cells_at above c
without_cells old new above c other e = e ∙ ap (λ ps. old ++ alone (outer_at above c) ∷ map alone ps) (sym (no_spots c.mark c.body other))

-- ---- both sides

among : (ps : List Spot) (mark : ℕ) → is_among (map alone ps) mark ≡ has_mark ps mark
among [] mark = refl
among (p ∷ ps) mark = ap (λ b. (p.mark == mark) || b) (among ps mark)

compared : (others ps : List Spot) → map (beside_others (map alone others)) (map alone ps) ≡ map (λ (p : Spot). as_written (has_mark others p.mark) p) ps
compared others [] = refl
compared others (p ∷ ps) = λ i. as_written (among others p.mark i) p ∷ compared others ps i

new_ones : (others ps : List Spot)
    → filter (λ (w : Written). not (is_among (map alone others) w.mark)) (map alone ps)
    ≡ map alone (filter (λ (p : Spot). not (has_mark others p.mark)) ps)
new_ones others [] = refl
new_ones others (p ∷ ps) =
    (λ i. cond (not (among others p.mark i)) (alone p ∷ new_ones others ps i) (new_ones others ps i))
    ∙ elim (has_mark others p.mark) as (λ b. cond (not b) (alone p ∷ map alone (filter (λ (q : Spot). not (has_mark others q.mark)) ps)) (map alone (filter (λ (q : Spot). not (has_mark others q.mark)) ps))
    ≡ map alone (cond (not b) (p ∷ filter (λ (q : Spot). not (has_mark others q.mark)) ps) (filter (λ (q : Spot). not (has_mark others q.mark)) ps))) [
      | true ↦ refl
      | false ↦ refl
    ]

-- what is found of the two sides are the cells that the draft writes
pub written_is : (draft : Draft) (left right all compared_left : List Written)
    → left ≡ flat_map (cells_at None) draft.left → right ≡ flat_map (cells_at None) draft.right
    → compared_left ≡ map (beside_others right) left → all ≡ compared_left ++ filter (λ (w : Written). not (is_among left w.mark)) right
    → all ≡ written draft
written_is draft left right all compared_left left_is right_is compared_is all_is =
    let l : left ≡ map alone (spots_of draft.left) = left_is ∙ sym (of_many None draft.left) in
    let r : right ≡ map alone (spots_of draft.right) = right_is ∙ sym (of_many None draft.right) in
    all_is
    ∙ (λ i. (compared_is ∙ (λ j. map (beside_others (r j)) (l j)) ∙ compared (spots_of draft.right) (spots_of draft.left)) i
    ++ ((λ j. filter (λ (w : Written). not (is_among (l j) w.mark)) (r j)) ∙ new_ones (spots_of draft.left) (spots_of draft.right)) i)
