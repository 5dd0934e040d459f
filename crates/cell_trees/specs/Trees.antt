-- The declared configuration: its cells, and what each of them declares.
use Rattle.std.specs.Prelude.{◌≡◌, ℕ, ◌<◌, ◌≤◌, false, List, length, map, codes, Option, Some, None, IsTrue, slice_get}
use Rattle.k_terms.specs.Sorts.{sort_int, sort_bool, sort_string, sort_kitem}
use Rattle.k_terms.specs.declared.value.Value.{Value, out-Value}
use Rattle.k_terms.specs.declared.value.Value.TheOpen as value
use Rattle.k_terms.specs.declared.value.Content.{Content}
use Rattle.k_terms.specs.declared.value.Content.TheVariants as content
use Rattle.rule_terms.specs.Sound.{cell_limit, is_placed_shape}
use Rattle.rule_terms.specs.declared.defs.CellShape.{CellShape}
use Rattle.rule_terms.specs.declared.defs.Kind.{Kind}
use Rattle.rule_terms.specs.declared.defs.Kind.TheVariants.{Cells, Seq, Map, List as Listed, One}
use Rattle.cell_trees.specs.declared.declared.Declared.{Declared}
use Rattle.cell_trees.specs.declared.declared.Declared.TheVariants.{Program, Input, Fixed}

-- The shapes, and what each cell declares: nothing where it contains cells. And the cell `k`, with the sort of programs.
pub record Tree : Type 0 where
  pub shapes : List CellShape
  pub held : List (Option Declared)
  pub k : ℕ
  pub sort : ℕ

-- the sort of a literal
abbrev pub literal_sort : Value → ℕ
literal_sort v = elim (out-Value v) [ value.Int _ ↦ sort_int | value.Bool _ ↦ sort_bool | value.Str _ ↦ sort_string | _ ↦ sort_kitem ]

abbrev pub kind_of_content : Content → Kind
kind_of_content content.Cells = Cells
kind_of_content (content.Seq values) = Seq
kind_of_content (content.Map entries) = Map
kind_of_content (content.List values) = Listed
kind_of_content (content.One v) = One (literal_sort v)

abbrev pub kind_of : Option Declared → Kind
kind_of None = Cells
kind_of (Some (Program sort)) = Seq
kind_of (Some Input) = Listed
kind_of (Some (Fixed c)) = kind_of_content c

abbrev pub names_of : List CellShape → List (List ℕ)
names_of shapes = map (λ (shape : CellShape). shape.name) shapes

-- The shapes are a tree of at least one and at most 64 cells, in pre-order, and their names differ. The root occurs once. Each is of the kind of
-- what it declares. The cell `k` has the program, which stands nowhere else.
pub record IsTree (tree : Tree) : Type 0 where
  pub some_cell : 0 < length tree.shapes
  pub few_cells : length tree.shapes ≤ cell_limit
  pub placed : (number : ℕ) (shape : CellShape) → slice_get tree.shapes number ≡ Some shape → IsTrue (is_placed_shape tree.shapes number shape)
  pub single : (shape : CellShape) → slice_get tree.shapes 0 ≡ Some shape → shape.many ≡ false
  pub differ : (one other : ℕ) (name : List ℕ) → slice_get (names_of tree.shapes) one ≡ Some name → slice_get (names_of tree.shapes) other ≡ Some name → one ≡ other
  pub kinds : map (λ (shape : CellShape). shape.kind) tree.shapes ≡ map kind_of tree.held
  pub named : slice_get (names_of tree.shapes) tree.k ≡ Some (codes "k")
  pub program : slice_get tree.held tree.k ≡ Some (Some (Program tree.sort))
  pub only : (number sort : ℕ) → slice_get tree.held number ≡ Some (Some (Program sort)) → number ≡ tree.k
