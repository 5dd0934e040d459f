-- The sort of a cell of a single value is that of a literal.
use denote.Hole.Carrier.{out}
use Rattle.std.proofs.Common.{◌≡◌, ℕ, zero, suc, true, false, List, [], ◌∷◌, map, Option, Some, None, is_some, refl, sym, ap, subst, ◌∙◌, arith}
use Rattle.std.proofs.lemmas.Option.{slice_get-map}
use Rattle.std.specs.Prelude.{slice_get}
use Rattle.std.specs.Option.{option_map, option_map_or}
use Rattle.k_terms.specs.declared.value.Value.{Value, Int, Bool as Truth, Str, Id, Node', Items', Seq', Map', List' as Listed', Freezer', out-Value}
use Rattle.k_terms.specs.declared.value.Content.{Content}
use Rattle.k_terms.specs.declared.value.Content.TheVariants as content
use Rattle.rule_terms.specs.declared.defs.CellShape.{CellShape}
use Rattle.rule_terms.specs.declared.defs.Kind.{Kind}
use Rattle.rule_terms.specs.declared.defs.Kind.TheVariants.{Cells, Seq, Map, List as Listed, One}
use Rattle.rule_drafts.specs.Cells.{kind_of as kind_in}
use Rattle.cell_contents.specs.Contents.{literal_alone}
use Rattle.cell_trees.specs.declared.declared.Declared.{Declared}
use Rattle.cell_trees.specs.declared.declared.Declared.TheVariants.{Program, Input, Fixed}
use Rattle.cell_trees.specs.Trees.{Tree as Declaration, IsTree, literal_sort, kind_of_content, kind_of}
use Rattle.sound_kinds.specs.Literals.{DeclaresLiterals}
use Rattle.sound_kinds.proofs.BaseSorts.{IsBase}
use Rattle.sound_kinds.proofs.ValueRoles.{item_want, made_want}

literal_base : (v : Value) → is_some (literal_alone v) ≡ true → IsBase (literal_sort v)
unfolding out-Value out
literal_base (Int number) e = let is : IsBase 3 = record { low = omega arith; high = omega arith } in is
literal_base (Truth truth) e = let is : IsBase 4 = record { low = omega arith; high = omega arith } in is
literal_base (Str text) e = let is : IsBase 5 = record { low = omega arith; high = omega arith } in is
literal_base (Id symbol) e = absurd (let f : false ≡ true = e in cc)
literal_base (Node' _ _ _) e = absurd (let f : false ≡ true = e in cc)
literal_base (Items' _ _ _) e = absurd (let f : false ≡ true = e in cc)
literal_base (Seq' _ _) e = absurd (let f : false ≡ true = e in cc)
literal_base (Map' _ _) e = absurd (let f : false ≡ true = e in cc)
literal_base (Listed' _ _) e = absurd (let f : false ≡ true = e in cc)
literal_base (Freezer' _ _ _ _) e = absurd (let f : false ≡ true = e in cc)

one_sort : (a b : ℕ) → One a ≡ One b → a ≡ b
one_sort a b e = cc

abbrev AreLiterals : Option Declared → Type 0
AreLiterals held = (v : Value) → held ≡ Some (Fixed (content.One v)) → is_some (literal_alone v) ≡ true

content_base : (c : Content) (sort : ℕ) → AreLiterals (Some (Fixed c)) → kind_of_content c ≡ One sort → IsBase sort
content_base content.Cells sort is e = absurd (let f : Cells ≡ One sort = e in cc)
content_base (content.Seq values) sort is e = absurd (let f : Seq ≡ One sort = e in cc)
content_base (content.Map entries) sort is e = absurd (let f : Map ≡ One sort = e in cc)
content_base (content.List values) sort is e = absurd (let f : Listed ≡ One sort = e in cc)
content_base (content.One v) sort is e = subst IsBase (one_sort (literal_sort v) sort e) (literal_base v (is v refl))

held_base : (held : Option Declared) (sort : ℕ) → AreLiterals held → kind_of held ≡ One sort → IsBase sort
held_base None sort is e = absurd (let f : Cells ≡ One sort = e in cc)
held_base (Some (Program own)) sort is e = absurd (let f : Seq ≡ One sort = e in cc)
held_base (Some Input) sort is e = absurd (let f : Listed ≡ One sort = e in cc)
held_base (Some (Fixed c)) sort is e = content_base c sort is e

map_at : {X Y : Type 0} (f : X → Y) (xs : List X) (i : ℕ) (y : Y) → slice_get (map f xs) i ≡ Some y → (x : X) × (slice_get xs i ≡ Some x) × (f x ≡ y)
map_at f [] i y e = absurd (let g : None ≡ Some y = e in cc)
map_at f (x ∷ xs) zero y e = (x, refl, let g : Some (f x) ≡ Some y = e in cc)
map_at f (x ∷ xs) (suc i) y e = map_at f xs i y e

module _ (d : Declaration) (tree : IsTree d) (literals : DeclaresLiterals d) where
  by_shape : (o : Option CellShape) (cell sort : ℕ) → slice_get d.shapes cell ≡ o → option_map_or (λ (shape : CellShape). shape.kind) o Cells ≡ One sort → IsBase sort
  by_shape None cell sort is e = absurd (let f : Cells ≡ One sort = e in cc)
  by_shape (Some shape) cell sort is e =
      let there : slice_get (map kind_of d.held) cell ≡ Some shape.kind =
      ap (λ ks. slice_get ks cell) (sym tree.kinds) ∙ slice_get-map (λ (s : CellShape). s.kind) d.shapes cell ∙ ap (option_map (λ (s : CellShape). s.kind)) is in
      let held = map_at kind_of d.held cell shape.kind there in
      held_base held.0 sort (λ v fixed. literals cell v (held.1 ∙ ap Some fixed)) (held.2 ∙ e)

  pub single_base : (cell sort : ℕ) → kind_in d.shapes cell ≡ One sort → IsBase sort
  single_base cell sort e = by_shape (slice_get d.shapes cell) cell sort refl e

-- ---- the sorts that are asked for

pub want_one : (kind : Kind) (sort : ℕ) → item_want kind ≡ Some sort → kind ≡ One sort
want_one Cells sort e = absurd (let f : None ≡ Some sort = e in cc)
want_one Seq sort e = absurd (let f : None ≡ Some sort = e in cc)
want_one Map sort e = absurd (let f : None ≡ Some sort = e in cc)
want_one Listed sort e = absurd (let f : None ≡ Some sort = e in cc)
want_one (One own) sort e = let same : own ≡ sort = cc in ap One same

pub made_high : (kind : Kind) (sort : ℕ) → made_want kind ≡ Some sort → IsBase sort
made_high Cells sort e = absurd (let f : None ≡ Some sort = e in cc)
made_high Seq sort e = absurd (let f : None ≡ Some sort = e in cc)
made_high Map sort e = let same : 7 ≡ sort = cc in record { low = omega (arith, same); high = omega (arith, same) }
made_high Listed sort e = let same : 8 ≡ sort = cc in record { low = omega (arith, same); high = omega (arith, same) }
made_high (One own) sort e = absurd (let f : None ≡ Some sort = e in cc)
