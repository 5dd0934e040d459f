-- A cell of a single value has no sequence for it.
use Rattle.std.proofs.Common.{◌≡◌, ℕ, zero, suc, false, ◌==◌, List, [], ◌∷◌, map, Option, Some, None, refl, sym, ap, ◌∙◌}
use Rattle.std.proofs.lemmas.Option.{slice_get-map}
use Rattle.std.specs.Prelude.{slice_get}
use Rattle.std.specs.Option.{option_map, option_map_or}
use Rattle.k_terms.specs.Sorts.{sort_k, sort_kitem, sort_int, sort_bool, sort_string}
use Rattle.k_terms.specs.declared.value.Value.{Value, Value-F, out-Value}
use Rattle.k_terms.specs.declared.value.Value.TheOpen as value
use Rattle.k_terms.specs.declared.value.Content.{Content}
use Rattle.k_terms.specs.declared.value.Content.TheVariants as content
use Rattle.rule_terms.specs.declared.defs.CellShape.{CellShape}
use Rattle.rule_terms.specs.declared.defs.Kind.TheVariants.{Cells, Seq, Map, List as Listed, One}
use Rattle.rule_drafts.specs.Cells.{kind_of as kind_in}
use Rattle.cell_trees.specs.declared.declared.Declared.{Declared}
use Rattle.cell_trees.specs.declared.declared.Declared.TheVariants.{Program, Input, Fixed}
use Rattle.cell_trees.specs.Trees.{Tree as Declaration, IsTree, literal_sort, kind_of_content, kind_of}

one_sort : (a b : ℕ) → One a ≡ One b → a ≡ b
one_sort a b e = cc

-- the sort of a literal by its outermost layer
abbrev level_sort : Value-F Value → ℕ
level_sort v = elim v [ value.Int _ ↦ sort_int | value.Bool _ ↦ sort_bool | value.Str _ ↦ sort_string | _ ↦ sort_kitem ]

level_other : (v : Value-F Value) → (level_sort v == sort_k) ≡ false
level_other (value.Int _) = refl
level_other (value.Bool _) = refl
level_other (value.Str _) = refl
level_other (value.Id _) = refl
level_other (value.Node _ _) = refl
level_other (value.Items _ _) = refl
level_other (value.Seq _) = refl
level_other (value.Map _) = refl
level_other (value.List _) = refl
level_other (value.Freezer _ _ _) = refl

literal_other : (v : Value) → (literal_sort v == sort_k) ≡ false
literal_other v = level_other (out-Value v)

same_sort : (sort other : ℕ) → (other == sort_k) ≡ false → One other ≡ One sort → (sort == sort_k) ≡ false
same_sort sort other e same = ap (λ (n : ℕ). n == sort_k) (sym (one_sort other sort same)) ∙ e

content_other : (c : Content) (sort : ℕ) → kind_of_content c ≡ One sort → (sort == sort_k) ≡ false
content_other content.Cells sort e = absurd (let f : Cells ≡ One sort = e in cc)
content_other (content.Seq values) sort e = absurd (let f : Seq ≡ One sort = e in cc)
content_other (content.Map entries) sort e = absurd (let f : Map ≡ One sort = e in cc)
content_other (content.List values) sort e = absurd (let f : Listed ≡ One sort = e in cc)
content_other (content.One v) sort e = same_sort sort (literal_sort v) (literal_other v) e

held_other : (held : Option Declared) (sort : ℕ) → kind_of held ≡ One sort → (sort == sort_k) ≡ false
held_other None sort e = absurd (let f : Cells ≡ One sort = e in cc)
held_other (Some (Program own)) sort e = absurd (let f : Seq ≡ One sort = e in cc)
held_other (Some Input) sort e = absurd (let f : Listed ≡ One sort = e in cc)
held_other (Some (Fixed c)) sort e = content_other c sort e

map_at : {X Y : Type 0} (f : X → Y) (xs : List X) (i : ℕ) (y : Y) → slice_get (map f xs) i ≡ Some y → (x : X) × (f x ≡ y)
map_at f [] i y e = absurd (let g : None ≡ Some y = e in cc)
map_at f (x ∷ xs) zero y e = (x, let g : Some (f x) ≡ Some y = e in cc)
map_at f (x ∷ xs) (suc i) y e = map_at f xs i y e

module _ (d : Declaration) (tree : IsTree d) where
  by_shape : (o : Option CellShape) (cell sort : ℕ) → slice_get d.shapes cell ≡ o → option_map_or (λ (shape : CellShape). shape.kind) o Cells ≡ One sort
      → (sort == sort_k) ≡ false
  by_shape None cell sort is e = absurd (let f : Cells ≡ One sort = e in cc)
  by_shape (Some shape) cell sort is e =
      let there : slice_get (map kind_of d.held) cell ≡ Some shape.kind =
      ap (λ ks. slice_get ks cell) (sym tree.kinds) ∙ slice_get-map (λ (s : CellShape). s.kind) d.shapes cell ∙ ap (option_map (λ (s : CellShape). s.kind)) is in
      let held = map_at kind_of d.held cell shape.kind there in
      held_other held.0 sort (held.1 ∙ e)

  -- a declared cell of a single value is not of sort K
  pub single_other : (cell sort : ℕ) → kind_in d.shapes cell ≡ One sort → (sort == sort_k) ≡ false
  single_other cell sort e = by_shape (slice_get d.shapes cell) cell sort refl e
