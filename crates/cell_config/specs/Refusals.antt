-- Why the configurations of a definition are none.
use Rattle.std.specs.Prelude.{ℕ, ◌&&◌, not, nat_lt, cond, Bool, List, [], ◌∷◌, ◌++◌, length, codes, Option, Some, None, is_some, is_none, option_map}
use Rattle.std.specs.List.{list_any, list_all}
use Rattle.std.specs.Option.{option_or}
use Rattle.production_reader.specs.Allowed.{same_text}
use Rattle.rule_terms.specs.Sound.{cell_limit}
use Rattle.cell_trees.specs.declared.declared.Declared.{Declared}
use Rattle.cell_trees.specs.declared.declared.Declared.TheVariants.{Program, Input, Fixed}
use Rattle.sorted_grammar.specs.declared.fault.What.TheVariants.{Cells as CellCount}
use Rattle.cell_config.specs.declared.refusal.CellRefusal.{CellRefusal}
use Rattle.cell_config.specs.declared.refusal.CellRefusal.TheVariants.{TwoCells, NoK, CellContent, TooMany}
use Rattle.cell_config.specs.declared.division.ConfigCell.{ConfigCell}
use Rattle.cell_config.specs.declared.division.Place.{Place}
use Rattle.cell_config.specs.declared.division.Division.{Division}

-- the first of what is told of items
abbrev pub first_some : {A B : Type 0} → (A → Option B) → List A → Option B
first_some f [] = None
first_some f (x ∷ xs) = option_or (f x) (first_some f xs)

-- ---- a name twice

abbrev pub is_named : List ℕ → ConfigCell → Bool
is_named name cell = same_text cell.name name

abbrev pub is_among : List ConfigCell → List ℕ → Bool
is_among cells name = list_any (is_named name) cells

-- the first cell whose name stood before
abbrev pub first_twice : List ConfigCell → List ConfigCell → Option (List ℕ)
first_twice before [] = None
first_twice before (cell ∷ cells) = cond (is_among before cell.name) (Some cell.name) (first_twice (before ++ cell ∷ []) cells)

-- the name that is begun at a place
abbrev pub begun_at : Option Place → Option (List ℕ)
begun_at None = None
begun_at (Some place) = place.begun

-- a name that stood before
abbrev pub if_among : List ConfigCell → Option (List ℕ) → Option (List ℕ)
if_among cells None = None
if_among cells (Some name) = cond (is_among cells name) (Some name) None

abbrev pub twice_of : Division → Option (List ℕ)
twice_of division = option_or (first_twice [] division.cells) (if_among division.cells (begun_at division.place))

-- the first name of a configuration is that of its root
abbrev pub root_in : List ConfigCell → Option Place → Option (List ℕ)
root_in [] place = begun_at place
root_in (cell ∷ cells) place = Some cell.name

abbrev pub root_of : Division → Option (List ℕ)
root_of division = root_in division.cells division.place

-- The first cell whose name stood before, or the first root behind the first configuration.
abbrev pub twice_in : List Division → Option (List ℕ)
twice_in [] = None
twice_in (first ∷ others) = option_or (twice_of first) (first_some root_of others)

-- ---- no program

-- the sort of the program, where a cell declares it
abbrev pub program_sort : Option Declared → Option ℕ
program_sort None = None
program_sort (Some (Program sort)) = Some sort
program_sort (Some Input) = None
program_sort (Some (Fixed content)) = None

abbrev pub program_of : ConfigCell → Option ℕ
program_of cell = program_sort cell.held

abbrev pub is_k : ConfigCell → Bool
is_k cell = same_text cell.name (codes "k")

abbrev pub is_k_with_program : ConfigCell → Bool
is_k_with_program cell = is_k cell && is_some (program_of cell)

-- whole, and without a cell `k` that has the program
abbrev pub lacks_program : Division → Bool
lacks_program division = is_none division.place && not (list_any is_k_with_program division.cells)

-- ---- a content

-- a cell outside `k` with the program
abbrev pub stray_program : ConfigCell → Option (List ℕ)
stray_program cell = cond (is_some (program_of cell) && not (is_k cell)) (Some cell.name) None

abbrev pub inside_of : Option Place → Option (List ℕ)
inside_of None = None
inside_of (Some place) = Some place.inside

-- the cell of the first bad content of a configuration
abbrev pub bad_content : Division → Option (List ℕ)
bad_content division = option_or (first_some stray_program division.cells) (inside_of division.place)

-- ---- in their order

abbrev pub no_k : List Division → Option CellRefusal
no_k divisions = cond (list_all lacks_program divisions) (Some NoK) None

-- where nothing else is wrong there is one configuration
abbrev pub too_many : List Division → Option CellRefusal
too_many [] = None
too_many (division ∷ others) = cond (nat_lt cell_limit (length division.cells)) (Some (TooMany CellCount (length division.cells))) None

-- Why configurations are none, by what they are in the order of the text: a name twice, no program, a bad content, too many cells.
abbrev pub refusal_of : List Division → Option CellRefusal
refusal_of divisions =
    option_or (option_map (λ name. TwoCells name) (twice_in divisions))
    (option_or (no_k divisions) (option_or (option_map (λ name. CellContent name) (first_some bad_content divisions)) (too_many divisions)))
