-- The bodies of a completed rule: what passes for those of its draft passes for them.
use Rattle.std.proofs.Common.{◌≡◌, ◌⊎◌, inl, inr, ℕ, ◌+◌, ◌<◌, Bool, true, false, List, [], ◌∷◌, ◌++◌, length, Option, Some, refl, sym, ap, ◌∙◌}
use Rattle.std.specs.List.{list_all}
use Rattle.k_terms.specs.Sorts.{SortOrder}
use Rattle.rule_terms.specs.declared.pattern.Body.{Body, Cells}
use Rattle.rule_terms.specs.declared.pattern.CellPat.{CellPat}
use Rattle.rule_terms.specs.declared.rule.Draft.{Draft}
use Rattle.rule_terms.specs.declared.rule.Rule.{Rule}
use Rattle.rule_terms.specs.Spots.{Spot}
use Rattle.live_config.proofs.Members.{Has, has_left, has_right, has_either, all_has}
use Rattle.strictness.specs.SoundDrafts.{spots_of}
use Rattle.cell_trees.specs.Trees.{Tree as Declaration}
use Rattle.cell_trees.specs.Initials.{held_at}
use Rattle.cell_trees.specs.Defaults.{body_of}
use Rattle.rule_completion.specs.Completed.{forest, with_inside, is_new_mark}
use Rattle.rule_completion.specs.Numbering.{added_mark}
use Rattle.rule_terms.proofs.Defined.{joins}
use Rattle.completed_rules.proofs.Drafted.{with_body}
use Rattle.completed_rules.proofs.Sides.{of_written, of_added, of_filled}
use Rattle.completed_rules.proofs.Whole.{IsCase, total, cells_of, classified, low_number}

-- a list of tests holds where each does
pub all_each : {X : Type 0} (test : X → Bool) (xs : List X) → ((x : X) → Has xs x → test x ≡ true) → list_all test xs ≡ true
all_each test [] each = refl
all_each test (x ∷ xs) each = joins (test x) (list_all test xs) (each x (inl refl)) (all_each test xs (λ y h. each y (inr h)))

module _ (d : Declaration) (order : SortOrder) (draft : Draft) (rule : Rule) (c : IsCase d order draft rule) where
  -- the body of a cell of a side: one of the draft with other cells in it, an added one, or one that a cell declares
  pub data Bodied (left : Bool) (p : Spot) : Type 0 where
    drafted : (s : Spot) (cells : List CellPat) → Has (spots_of (forest draft left)) s → p.mark ≡ s.mark → p.body ≡ with_inside s.body cells → Bodied left p
    added : (n : ℕ) (cells : List CellPat) → n < total d order draft rule c → p.mark ≡ added_mark n → p.body ≡ Cells cells (Some (length draft.vars + n)) → Bodied left p
    held : (cells : List CellPat) → left ≡ false → p.body ≡ body_of (held_at d p.cell) cells → Bodied left p

  right_alone : (left : Bool) (m : ℕ) → is_new_mark draft left m ≡ true → left ≡ false
  right_alone true m e = absurd (let f : false ≡ true = e in cc)
  right_alone false m e = refl

  pub bodied : (left : Bool) (p : Spot) → Has (cells_of d order draft rule c left) p → Bodied left p
  bodied left p h =
      elim (classified d order draft rule c left p h) [
        | of_written z i w ↦
            let s = with_body (spots_of (forest draft left)) w.mark w.body w.stands in
            drafted s.0 w.cells s.1 (w.mark_is ∙ sym s.2) (w.body_is ∙ ap (λ b. with_inside b w.cells) (sym s.3))
        | of_added z i w ↦ added z.number w.cells (low_number d order draft rule c z i w.is_added) w.mark_is w.body_is
        | of_filled z i w ↦ held w.default.cells (right_alone left w.mark w.is_new) w.default.body_is
      ]

  abbrev pub both_drafted : List Spot
  both_drafted = spots_of draft.left ++ spots_of draft.right

  abbrev pub both_sides : List Spot
  both_sides = cells_of d order draft rule c true ++ cells_of d order draft rule c false

  pub of_draft : (left : Bool) (s : Spot) → Has (spots_of (forest draft left)) s → Has both_drafted s
  of_draft true s h = has_left (spots_of draft.left) (spots_of draft.right) s h
  of_draft false s h = has_right (spots_of draft.left) (spots_of draft.right) s h

  pub on_some_side : (p : Spot) → Has both_sides p → Bodied true p ⊎ Bodied false p
  on_some_side p h =
      elim (has_either (cells_of d order draft rule c true) (cells_of d order draft rule c false) p h) [
        | inl a ↦ inl (bodied true p a)
        | inr b ↦ inr (bodied false p b)
      ]

  -- ---- what passes for a draft's bodies passes for the rule's

  module _ (test : Body → Bool) (with_cells : (body : Body) (cells : List CellPat) → test (with_inside body cells) ≡ test body)
      (of_cells : (cells : List CellPat) (rest : Option ℕ) → test (Cells cells rest) ≡ true)
      (of_held : (n : ℕ) (cells : List CellPat) → test (body_of (held_at d n) cells) ≡ true) where
    one_passes : (left : Bool) (p : Spot) → list_all (λ (s : Spot). test s.body) (spots_of (forest draft left)) ≡ true → Bodied left p → test p.body ≡ true
    one_passes left p all (drafted s cells h m e) = ap test e ∙ with_cells s.body cells ∙ all_has (λ (x : Spot). test x.body) (spots_of (forest draft left)) s all h
    one_passes left p all (added n cells less m e) = ap test e ∙ of_cells cells (Some (length draft.vars + n))
    one_passes left p all (held cells on e) = ap test e ∙ of_held p.cell cells

    each_passes : list_all (λ (s : Spot). test s.body) both_drafted ≡ true → (left : Bool) → list_all (λ (s : Spot). test s.body) (spots_of (forest draft left)) ≡ true
    each_passes all left = all_each (λ (s : Spot). test s.body) (spots_of (forest draft left)) (λ s h. all_has (λ (x : Spot). test x.body) both_drafted s all (of_draft left s h))

    pub pass : list_all (λ (s : Spot). test s.body) both_drafted ≡ true → list_all (λ (s : Spot). test s.body) both_sides ≡ true
    pass all =
        all_each (λ (s : Spot). test s.body) both_sides (λ p h. elim (on_some_side p h) [
          | inl b ↦ one_passes true p (each_passes all true) b
          | inr b ↦ one_passes false p (each_passes all false) b
        ])
