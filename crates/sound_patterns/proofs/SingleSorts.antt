-- The sort of a declared single value has a name.
use Rattle.std.proofs.Common.{◌≡◌, ℕ, zero, suc, ◌<◌, List, [], ◌∷◌, map, Option, Some, None, refl, sym, ap, subst, ◌∙◌, arith}
use Rattle.std.specs.Prelude.{slice_get}
use Rattle.std.specs.Option.{option_map, option_map_or}
use Rattle.std.proofs.lemmas.Option.{slice_get-map}
use Rattle.k_terms.specs.declared.value.Value.{Value, out-Value}
use Rattle.k_terms.specs.declared.value.Value.TheOpen.{Value-F}
use Rattle.k_terms.specs.declared.value.Value.TheOpen as value
use Rattle.k_terms.specs.declared.value.Content.{Content}
use Rattle.k_terms.specs.declared.value.Content.TheVariants as content
use Rattle.k_terms.specs.Sorts.{sort_int, sort_bool, sort_string, sort_kitem}
use Rattle.rule_terms.specs.declared.defs.CellShape.{CellShape}
use Rattle.rule_terms.specs.declared.defs.Kind.TheVariants.{Cells, Seq, Map, List as Listed, One}
use Rattle.rule_drafts.specs.Cells.{kind_of as kind_in}
use Rattle.cell_trees.specs.declared.declared.Declared.{Declared}
use Rattle.cell_trees.specs.declared.declared.Declared.TheVariants.{Program, Input, Fixed}
use Rattle.cell_trees.specs.Trees.{Tree as Declaration, IsTree, literal_sort, kind_of_content, kind_of}

abbrev level_sort : Value-F Value → ℕ
level_sort v = elim v [ value.Int _ ↦ sort_int | value.Bool _ ↦ sort_bool | value.Str _ ↦ sort_string | _ ↦ sort_kitem ]

level_low : (v : Value-F Value) → level_sort v < 10
level_low (value.Int _) = omega arith
level_low (value.Bool _) = omega arith
level_low (value.Str _) = omega arith
level_low (value.Id _) = omega arith
level_low (value.Node _ _) = omega arith
level_low (value.Items _ _) = omega arith
level_low (value.Seq _) = omega arith
level_low (value.Map _) = omega arith
level_low (value.List _) = omega arith
level_low (value.Freezer _ _ _) = omega arith

one_sort : (sort other : ℕ) → One other ≡ One sort → other ≡ sort
one_sort sort other e = cc

same_low : (sort other : ℕ) → other < 10 → One other ≡ One sort → sort < 10
same_low sort other less same = subst (λ n. n < 10) (one_sort sort other same) less

content_low : (c : Content) (sort : ℕ) → kind_of_content c ≡ One sort → sort < 10
content_low content.Cells sort e = absurd (let f : Cells ≡ One sort = e in cc)
content_low (content.Seq values) sort e = absurd (let f : Seq ≡ One sort = e in cc)
content_low (content.Map entries) sort e = absurd (let f : Map ≡ One sort = e in cc)
content_low (content.List values) sort e = absurd (let f : Listed ≡ One sort = e in cc)
content_low (content.One v) sort e = same_low sort (literal_sort v) (level_low (out-Value v)) e

held_low : (held : Option Declared) (sort : ℕ) → kind_of held ≡ One sort → sort < 10
held_low None sort e = absurd (let f : Cells ≡ One sort = e in cc)
held_low (Some (Program own)) sort e = absurd (let f : Seq ≡ One sort = e in cc)
held_low (Some Input) sort e = absurd (let f : Listed ≡ One sort = e in cc)
held_low (Some (Fixed c)) sort e = content_low c sort e

map_at : {X Y : Type 0} (f : X → Y) (xs : List X) (i : ℕ) (y : Y) → slice_get (map f xs) i ≡ Some y → (x : X) × (f x ≡ y)
map_at f [] i y e = absurd (let g : None ≡ Some y = e in cc)
map_at f (x ∷ xs) zero y e = (x, let g : Some (f x) ≡ Some y = e in cc)
map_at f (x ∷ xs) (suc i) y e = map_at f xs i y e

module _ (d : Declaration) (tree : IsTree d) where
  by_shape : (o : Option CellShape) (cell sort : ℕ) → slice_get d.shapes cell ≡ o → option_map_or (λ (shape : CellShape). shape.kind) o Cells ≡ One sort → sort < 10
  by_shape None cell sort is e = absurd (let f : Cells ≡ One sort = e in cc)
  by_shape (Some shape) cell sort is e =
      let there : slice_get (map kind_of d.held) cell ≡ Some shape.kind =
      ap (λ ks. slice_get ks cell) (sym tree.kinds) ∙ slice_get-map (λ (s : CellShape). s.kind) d.shapes cell ∙ ap (option_map (λ (s : CellShape). s.kind)) is in
      let held = map_at kind_of d.held cell shape.kind there in
      held_low held.0 sort (held.1 ∙ e)

  pub single_low : (cell sort : ℕ) → kind_in d.shapes cell ≡ One sort → sort < 10
  single_low cell sort e = by_shape (slice_get d.shapes cell) cell sort refl e
