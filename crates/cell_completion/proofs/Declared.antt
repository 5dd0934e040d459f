-- Cells that are declared in others, by a walk from the inside out.
use Rattle.std.proofs.Common.{◌≡◌, ◌⊎◌, inl, inr, ℕ, Option, Some, None, refl, sym, ap, ◌∙◌, subst}
use Rattle.std.specs.Prelude.{List, slice_get}
use Rattle.std.specs.Option.{option_and_then}
use Rattle.rule_terms.specs.declared.defs.CellShape.{CellShape}
use Rattle.cell_completion.specs.Completion.{IsDeclaredIn, IsBelow}
use Rattle.cell_completion.specs.Completion.IsBelow.{directly, deeper}
use Rattle.cell_completion.specs.Listed.{AreDeclared}
use Rattle.cell_completion.specs.Building.{parent_of}

module _ (shapes : List CellShape) where
  pub declared_in : (cell parent : ℕ) → parent_of shapes cell ≡ Some parent → IsDeclaredIn shapes (Some parent) cell
  declared_in cell parent e =
      elim (slice_get shapes cell) as (λ o. slice_get shapes cell ≡ o → option_and_then (λ (shape : CellShape). shape.parent) o ≡ Some parent → IsDeclaredIn shapes (Some parent) cell) [
        | None ↦ λ _ d. absurd (let f : None ≡ Some parent = d in cc)
        | Some shape ↦ λ at d. record { shape = shape; declared = at; parent_is = d }
      ] refl e

  below_cases : (outer inner : ℕ) → IsBelow shapes outer inner → (IsDeclaredIn shapes (Some outer) inner) ⊎ ((middle : ℕ) × IsBelow shapes outer middle × IsDeclaredIn shapes (Some middle) inner)
  below_cases outer inner (directly d) = inl d
  below_cases outer inner (deeper {middle = m} b d) = inr (m, b, d)

  -- what was found of the cells on the way
  pub record IsOnWay (outer inner cell : ℕ) : Type 0 where
    pub up : IsBelow shapes outer cell → IsBelow shapes outer inner
    pub down : IsBelow shapes outer inner → IsBelow shapes outer cell

  pub way_begins : (outer inner : ℕ) → IsOnWay outer inner inner
  way_begins outer inner = record { up = λ b. b; down = λ b. b }

  module _ (declared : AreDeclared shapes) where
    parent_at : (cell : ℕ) (o : Option ℕ) → IsDeclaredIn shapes o cell → parent_of shapes cell ≡ o
    parent_at cell o d = ap (option_and_then (λ (shape : CellShape). shape.parent)) d.declared ∙ d.parent_is

    pub way_goes_on : (outer inner cell parent : ℕ) → parent_of shapes cell ≡ Some parent → (parent ≡ outer → ⊥) → IsOnWay outer inner cell → IsOnWay outer inner parent
    way_goes_on outer inner cell parent e other way = record {
      up = λ b. way.up (deeper b (declared_in cell parent e));
      down = λ b. elim (below_cases outer cell (way.down b)) [
        | inl d ↦ absurd (other (let f : Some parent ≡ Some outer = sym e ∙ parent_at cell (Some outer) d in cc))
        | inr m ↦ let f : Some m.0 ≡ Some parent = sym (parent_at cell (Some m.0) m.2) ∙ e in let k : m.0 ≡ parent = cc in subst (IsBelow shapes outer) k m.1
      ];
    }

    pub way_ends : (outer inner cell : ℕ) → parent_of shapes cell ≡ None → IsOnWay outer inner cell → IsBelow shapes outer inner → ⊥
    way_ends outer inner cell e way b =
        elim (below_cases outer cell (way.down b)) [
          | inl d ↦ let f : None ≡ Some outer = sym e ∙ parent_at cell (Some outer) d in cc
          | inr m ↦ let f : None ≡ Some m.0 = sym e ∙ parent_at cell (Some m.0) m.2 in cc
        ]

    pub way_found : (outer inner cell : ℕ) → parent_of shapes cell ≡ Some outer → IsOnWay outer inner cell → IsBelow shapes outer inner
    way_found outer inner cell e way = way.up (directly (declared_in cell outer e))
