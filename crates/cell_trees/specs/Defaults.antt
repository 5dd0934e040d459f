-- Declared cells as patterns.
use Rattle.std.specs.Prelude.{ℕ, ◌+◌, zero, suc, ◌==◌, Bool, false, List, [], map, filter, length, Option, Some, None, slice_get}
use Rattle.std.specs.Option.{option_map_or, option_eq}
use Rattle.std.specs.List.{range_with_len}
use Rattle.k_terms.specs.declared.value.Content.{Content}
use Rattle.k_terms.specs.declared.value.Content.TheVariants as content
use Rattle.rule_terms.specs.declared.defs.CellShape.{CellShape}
use Rattle.rule_terms.specs.Sound.{cell_limit}
use Rattle.rule_terms.specs.declared.pattern.Pattern.{Lit}
use Rattle.rule_terms.specs.declared.pattern.Body.{Body, Cells, Seq, Map, List as Listed, One}
use Rattle.rule_terms.specs.declared.pattern.CellPat.{CellPat, roll-CellPat}
use Rattle.cell_trees.specs.declared.declared.Declared.{Declared}
use Rattle.cell_trees.specs.declared.declared.Declared.TheVariants.{Program, Input, Fixed}
use Rattle.cell_trees.specs.Trees.{Tree}
use Rattle.cell_trees.specs.Initials.{held_at}

-- a content as a body without variables
abbrev pub body_of_content : Content → Body
body_of_content content.Cells = Cells [] None
body_of_content (content.Seq values) = Seq (map (λ v. Lit v) values) None
body_of_content (content.Map entries) = Map (map (λ e. (Lit e.0, Lit e.1)) entries) None
body_of_content (content.List values) = Listed (map (λ v. Lit v) values) None []
body_of_content (content.One v) = One (Lit v)

-- the body of what a cell declares: cells, in it these; `$PGM` is `.K`, and `$IN` is `.List`
abbrev pub body_of : Option Declared → List CellPat → Body
body_of None inside = Cells inside None
body_of (Some (Program sort)) inside = Seq [] None
body_of (Some Input) inside = Listed [] None []
body_of (Some (Fixed c)) inside = body_of_content c

-- the declared cells directly in one
abbrev pub is_in : Tree → ℕ → ℕ → Bool
is_in tree parent number = option_map_or (λ (shape : CellShape). option_eq (λ m n. m == n) shape.parent (Some parent)) (slice_get tree.shapes number) false

abbrev pub children_of : Tree → ℕ → List ℕ
children_of tree parent = filter (is_in tree parent) (range_with_len 0 (length tree.shapes))

-- A declared cell with all that is declared in it, down to so many levels, each marked by its number and so much more.
unfoldable pub default_down : ℕ → Tree → ℕ → ℕ → CellPat
default_down zero tree more number = roll-CellPat (record { cell = number; mark = more + number; body = Cells [] None })
default_down (suc levels) tree more number =
    roll-CellPat (record { cell = number; mark = more + number; body = body_of (held_at tree number) (map (default_down levels tree more) (children_of tree number)) })

-- no tree has more levels than cells
abbrev pub default_of : Tree → ℕ → ℕ → CellPat
default_of tree more number = default_down cell_limit tree more number
