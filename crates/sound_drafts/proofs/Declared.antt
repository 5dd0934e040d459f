-- The cells of what is read of a rule are declared, and each body is of its cell's kind where its expressions may stand in it.
use Rattle.std.proofs.Common.{◌≡◌, inl, inr, ℕ, zero, suc, ◌<◌, Bool, true, false, List, [], ◌∷◌, ◌++◌, length, Some, refl, ap, subst, Contains, arith}
use Rattle.std.specs.Prelude.{slice_get}
use Rattle.grammar_terms.specs.Grammar.{Syntax}
use Rattle.live_config.proofs.Members.{Has, contains-has, has_either}
use Rattle.rule_terms.specs.declared.defs.CellShape.{CellShape}
use Rattle.rule_terms.specs.declared.rule.Draft.{Draft}
use Rattle.rule_terms.specs.Spots.{Spot}
use Rattle.cell_trees.specs.Trees.{Tree as Declaration, IsTree}
use Rattle.strictness.specs.SoundDrafts.{spots_of}
use Rattle.rule_parts.specs.Productions.{productions_of}
use Rattle.draft_laws.proofs.Fitting.{from}
use Rattle.draft_laws.proofs.ReadDrafts.{IsMade, made_leaves, found}
use Rattle.draft_laws.proofs.SoundCells.{text_cells, spots_on, left_are, right_are}

pub there : {X : Type 0} (xs : List X) (n : ℕ) → n < length xs → (x : X) × (slice_get xs n ≡ Some x)
there [] n less = absurd (omega (arith, less))
there (x ∷ xs) zero less = (x, refl)
there (x ∷ xs) (suc n) less = there xs n (omega (arith, less))

module _ (d : Declaration) (g : Syntax) (draft : Draft) (tree : IsTree d) (made : IsMade d g draft) where
  on_side : (left : Bool) (p : Spot) → Has (spots_on d g draft tree made left) p → (shape : CellShape) × (slice_get d.shapes p.cell ≡ Some shape)
  on_side left p h =
      let f = from (productions_of g) (made_leaves d g draft tree made) d.shapes made.reading.contents made.vars made.tokens (text_cells d g draft tree made) (found d g draft tree made).1.rise left p h in
      let less : p.cell < length d.shapes = subst (λ (n : ℕ). n < length d.shapes) (ap (λ (s : Spot). s.cell) f.is) ((found d g draft tree made).1.within f.one f.has).0 in
      there d.shapes p.cell less

  pub declared : (p : Spot) → Contains (spots_of draft.left ++ spots_of draft.right) p → (shape : CellShape) × (slice_get d.shapes p.cell ≡ Some shape)
  declared p has =
      elim (has_either (spots_of draft.left) (spots_of draft.right) p (contains-has (spots_of draft.left ++ spots_of draft.right) p has)) [
        | inl h ↦ on_side true p (subst (λ ps. Has ps p) (left_are d g draft tree made) h)
        | inr h ↦ on_side false p (subst (λ ps. Has ps p) (right_are d g draft tree made) h)
      ]
