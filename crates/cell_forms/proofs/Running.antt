-- What is read of a configuration that is written as a tree.
use Rattle.std.proofs.Common.{◌≡◌, ℕ, ◌+◌, zero, suc, Bool, true, false, if◌then◌else◌, List, [], ◌∷◌, ◌++◌, length, Option, Some, None, refl, sym, ap, ◌∙◌, arith, append_assoc, append-nil, length-append}
use Rattle.std.proofs.lemmas.Slice.Eq.{bytes_eq-Decides}
use Rattle.std.specs.Option.{option_and_then}
use Rattle.std.specs.Str.{bytes_eq}
use Rattle.cell_forms.specs.declared.form.Sign.{Sign}
use Rattle.cell_forms.specs.declared.form.Sign.TheVariants as sign
use Rattle.cell_forms.specs.declared.form.CellForm.{CellForm}
use Rattle.cell_forms.specs.declared.stack.Opening.{Opening}
use Rattle.cell_forms.specs.declared.state.Tag.{Tag}
use Rattle.cell_forms.specs.declared.state.Level.{Level}
use Rattle.cell_forms.specs.declared.state.Level.TheVariants.{Opened, Among, End}
use Rattle.cell_forms.specs.declared.state.State.{State}
use Rattle.cell_forms.specs.Written.{Cell, Cells, signs_of, signs_of_cells, others, is_many, IsConfiguration, count_of, count_of_cells, forms_of, forms_of_cells, cells_of}
use Rattle.cell_forms.specs.Written.Cell.{OfCells, OfContent}
use Rattle.cell_forms.specs.Written.Cells.{One, And}
use Rattle.cell_forms.specs.Steps.{innermost, nothing, form_of, tag_in, opened, entered, left, step, steps}

-- a state by its parts
abbrev pub at_level : List CellForm → Level → List Opening → State
at_level cells level around = record { cells = cells; level = level; around = around }

pub same_name : (name : List ℕ) → bytes_eq name name ≡ true
same_name name = (bytes_eq-Decides name name).1 refl

abbrev name_of : Cell → List ℕ
name_of (OfCells name many cells) = name
name_of (OfContent name many more) = name

-- the tokens of a cell behind its opening tag
abbrev behind_tag : Cell → List Sign
behind_tag (OfCells name many cells) = signs_of_cells cells ++ sign.Close name ∷ []
behind_tag (OfContent name many more) = others (suc more) ++ sign.Close name ∷ []

tag_first : (cell : Cell) → signs_of cell ≡ sign.Open (name_of cell) (is_many cell) ∷ behind_tag cell
unfolding signs_of
tag_first (OfCells name many cells) = refl
tag_first (OfContent name many more) = refl

-- ---- how many cells

mutual
  unfolding forms_of count_of

  pub size_of : (cell : Cell) (at number : ℕ) (parent : Option ℕ) → length (forms_of at number parent cell) ≡ count_of cell
  size_of (OfCells name many cells) at number parent = let e = size_of_cells cells (at + 1) (number + 1) (Some number) in omega (arith, e)
  size_of (OfContent name many more) at number parent = refl

  pub size_of_cells : (cells : Cells) (at number : ℕ) (parent : Option ℕ) → length (forms_of_cells at number parent cells) ≡ count_of_cells cells
  size_of_cells (One cell) at number parent = size_of cell at number parent
  size_of_cells (And cells cell) at number parent =
      let one = size_of_cells cells at number parent in
      let other = size_of cell (at + length (signs_of_cells cells)) (number + count_of_cells cells) parent in
      length-append (forms_of_cells at number parent cells) (forms_of (at + length (signs_of_cells cells)) (number + count_of_cells cells) parent cell)
      ∙ (λ i. one i + other i)

-- ---- contents

length_others : (n : ℕ) → length (others n) ≡ n
length_others zero = refl
length_others (suc n) = ap suc (length_others n)

others_run : (n : ℕ) (cells : List CellForm) (tag : Tag) (around : List Opening) (at : ℕ) (rest : List Sign)
    → steps (at_level cells (Opened tag true) around) at (others n ++ rest) ≡ steps (at_level cells (Opened tag true) around) (at + n) rest
unfolding steps
others_run zero cells tag around at rest = let e : at ≡ at + 0 = omega arith in ap (λ k. steps (at_level cells (Opened tag true) around) k rest) e
others_run (suc n) cells tag around at rest =
    let e : at + 1 + n ≡ at + suc n = omega arith in
    others_run n cells tag around (at + 1) rest ∙ ap (λ k. steps (at_level cells (Opened tag true) around) k rest) e

-- ---- cells

abbrev CellRuns : Cell → Type 0
CellRuns cell = (cells : List CellForm) (around : List Opening) (at : ℕ) (rest : List Sign)
    → steps (opened cells around (name_of cell) (is_many cell) at) (at + 1) (behind_tag cell ++ rest)
    ≡ steps (left (cells ++ forms_of at (length cells) (innermost around) cell) around) (at + length (signs_of cell)) rest

abbrev CellsRun : Cells → Type 0
CellsRun inner = (cells : List CellForm) (one : Opening) (around : List Opening) (at : ℕ) (rest : List Sign)
    → steps (at_level cells Among (one ∷ around)) at (signs_of_cells inner ++ rest)
    ≡ steps (at_level (cells ++ forms_of_cells at (length cells) (Some one.number) inner) Among (one ∷ around)) (at + length (signs_of_cells inner)) rest

content_runs : (name : List ℕ) (many : Bool) (more : ℕ) → CellRuns (OfContent name many more)
unfolding steps signs_of forms_of
content_runs name many more cells around at rest =
    let tag = tag_in around name many at in
    let size : at + 1 + 1 + more + 1 ≡ at + length (signs_of (OfContent name many more)) =
    omega (arith, length-append (others more) (sign.Close name ∷ []), length_others more) in
    let place : at + 1 + 1 + more ≡ at + 1 + suc more = omega arith in
    ap (steps (at_level cells (Opened tag true) around) (at + 1 + 1)) (append_assoc (others more) (sign.Close name ∷ []) rest)
    ∙ others_run more cells tag around (at + 1 + 1) (sign.Close name ∷ rest)
    ∙ ap (λ b. option_and_then (λ next. steps next (at + 1 + 1 + more + 1) rest) (if b then Some (left (cells ++ form_of tag (Some (at + 1, at + 1 + 1 + more)) ∷ []) around) else None)) (same_name name)
    ∙ (λ i. steps (left (cells ++ form_of tag (Some (at + 1, place i)) ∷ []) around) (size i) rest)

first_tag : (inner : Cells) → (name : List ℕ) × (many : Bool) × (more : List Sign) × (signs_of_cells inner ≡ sign.Open name many ∷ more)
unfolding signs_of
first_tag (One cell) = (name_of cell, is_many cell, behind_tag cell, tag_first cell)
first_tag (And cells cell) = let first = first_tag cells in (first.0, first.1, first.2 ++ signs_of cell, ap (λ l. l ++ signs_of cell) first.3)

-- behind the tag of a cell of cells the reader goes on as behind cells in it
enter_run : (inner : Cells) (cells : List CellForm) (tag : Tag) (around : List Opening) (at : ℕ) (rest : List Sign)
    → steps (at_level cells (Opened tag false) around) at (signs_of_cells inner ++ rest)
    ≡ steps (at_level (cells ++ form_of tag None ∷ []) Among (entered cells around tag)) at (signs_of_cells inner ++ rest)
unfolding steps
enter_run inner cells tag around at rest =
    let first = first_tag inner in
    ap (λ l. steps (at_level cells (Opened tag false) around) at (l ++ rest)) first.3
    ∙ sym (ap (λ l. steps (at_level (cells ++ form_of tag None ∷ []) Among (entered cells around tag)) at (l ++ rest)) first.3)

close_run : (name : List ℕ) (number : ℕ) (cells : List CellForm) (around : List Opening) (at : ℕ) (rest : List Sign)
    → steps (at_level cells Among (record { number = number; name = name } ∷ around)) at (sign.Close name ∷ rest) ≡ steps (left cells around) (at + 1) rest
unfolding steps
close_run name number cells around at rest = ap (λ b. option_and_then (λ next. steps next (at + 1) rest) (if b then Some (left cells around) else None)) (same_name name)

cells_of_run : (name : List ℕ) (many : Bool) (inner : Cells) → CellsRun inner → CellRuns (OfCells name many inner)
unfolding signs_of forms_of
cells_of_run name many inner runs cells around at rest =
    let tag = tag_in around name many at in
    let own = form_of tag None in
    let number : length (cells ++ own ∷ []) ≡ length cells + 1 = length-append cells (own ∷ []) in
    let size : at + 1 + length (signs_of_cells inner) + 1 ≡ at + length (signs_of (OfCells name many inner)) = omega (arith, length-append (signs_of_cells inner) (sign.Close name ∷ [])) in
    ap (steps (at_level cells (Opened tag false) around) (at + 1)) (append_assoc (signs_of_cells inner) (sign.Close name ∷ []) rest)
    ∙ enter_run inner cells tag around (at + 1) (sign.Close name ∷ rest)
    ∙ runs (cells ++ own ∷ []) (record { number = length cells; name = name }) around (at + 1) (sign.Close name ∷ rest)
    ∙ close_run name (length cells) ((cells ++ own ∷ []) ++ forms_of_cells (at + 1) (length (cells ++ own ∷ [])) (Some (length cells)) inner) around (at + 1 + length (signs_of_cells inner)) rest
    ∙ (λ i. steps (left ((cells ++ own ∷ []) ++ forms_of_cells (at + 1) (number i) (Some (length cells)) inner) around) (size i) rest)
    ∙ ap (λ l. steps (left l around) (at + length (signs_of (OfCells name many inner))) rest)
    (append_assoc cells (own ∷ []) (forms_of_cells (at + 1) (length cells + 1) (Some (length cells)) inner))

-- a cell among others
among_run : (cell : Cell) → CellRuns cell → (cells : List CellForm) (one : Opening) (around : List Opening) (at : ℕ) (rest : List Sign)
    → steps (at_level cells Among (one ∷ around)) at (signs_of cell ++ rest)
    ≡ steps (at_level (cells ++ forms_of at (length cells) (Some one.number) cell) Among (one ∷ around)) (at + length (signs_of cell)) rest
unfolding steps
among_run cell runs cells one around at rest =
    ap (λ l. steps (at_level cells Among (one ∷ around)) at (l ++ rest)) (tag_first cell) ∙ runs cells (one ∷ around) at rest

and_run : (inner : Cells) (cell : Cell) → CellsRun inner → CellRuns cell → CellsRun (And inner cell)
unfolding signs_of forms_of count_of
and_run inner cell runs run cells one around at rest =
    let before = forms_of_cells at (length cells) (Some one.number) inner in
    let next = at + length (signs_of_cells inner) in
    let number : length (cells ++ before) ≡ length cells + count_of_cells inner = length-append cells before ∙ ap (λ n. length cells + n) (size_of_cells inner at (length cells) (Some one.number)) in
    let size : next + length (signs_of cell) ≡ at + length (signs_of_cells inner ++ signs_of cell) = omega (arith, length-append (signs_of_cells inner) (signs_of cell)) in
    ap (steps (at_level cells Among (one ∷ around)) at) (append_assoc (signs_of_cells inner) (signs_of cell) rest)
    ∙ runs cells one around at (signs_of cell ++ rest)
    ∙ among_run cell run (cells ++ before) one around next rest
    ∙ (λ i. steps (at_level ((cells ++ before) ++ forms_of next (number i) (Some one.number) cell) Among (one ∷ around)) (size i) rest)
    ∙ ap (λ l. steps (at_level l Among (one ∷ around)) (at + length (signs_of_cells inner ++ signs_of cell)) rest)
    (append_assoc cells before (forms_of next (length cells + count_of_cells inner) (Some one.number) cell))

mutual
  unfolding signs_of forms_of

  cell_runs : (cell : Cell) → CellRuns cell
  cell_runs (OfCells name many inner) = cells_of_run name many inner (cells_run inner)
  cell_runs (OfContent name many more) = content_runs name many more

  cells_run : (inner : Cells) → CellsRun inner
  cells_run (One cell) = among_run cell (cell_runs cell)
  cells_run (And inner cell) = and_run inner cell (cells_run inner) (cell_runs cell)

-- ---- configurations

-- what is read of a configuration
pub configuration_runs : (cell : Cell) → IsConfiguration cell → steps nothing 0 (signs_of cell) ≡ Some (at_level (cells_of cell) End [])
unfolding steps
configuration_runs cell single =
    ap (steps nothing 0) (tag_first cell)
    ∙ ap (λ b. option_and_then (λ next. steps next 1 (behind_tag cell)) (if b then None else Some (opened [] [] (name_of cell) false 0))) single
    ∙ (λ i. steps (opened [] [] (name_of cell) ((sym single) i) 0) 1 ((sym (append-nil (behind_tag cell))) i))
    ∙ cell_runs cell [] [] 0 []

-- ---- lists of tokens

no_more : (o : Option State) (at : ℕ) (xs ys : List Sign) → ((n : State) → steps n at xs ≡ None → steps n at (xs ++ ys) ≡ None)
    → option_and_then (λ n. steps n at xs) o ≡ None → option_and_then (λ n. steps n at (xs ++ ys)) o ≡ None
no_more None at xs ys later none = refl
no_more (Some n) at xs ys later none = later n none

-- where no tokens can be read, no more can
pub stops_before : (xs ys : List Sign) (state : State) (at : ℕ) → steps state at xs ≡ None → steps state at (xs ++ ys) ≡ None
unfolding steps
stops_before [] ys state at none = absurd (cc)
stops_before (x ∷ xs) ys state at none = no_more (step state at x) (at + 1) xs ys (λ n. stops_before xs ys n (at + 1)) none

join_by : (o : Option State) (at next : ℕ) (xs ys : List Sign) → at + 1 + length xs ≡ next
    → ((n : State) → steps n (at + 1) (xs ++ ys) ≡ option_and_then (λ m. steps m (at + 1 + length xs) ys) (steps n (at + 1) xs))
    → option_and_then (λ n. steps n (at + 1) (xs ++ ys)) o ≡ option_and_then (λ n. steps n next ys) (option_and_then (λ n. steps n (at + 1) xs) o)
join_by None at next xs ys e later = refl
join_by (Some n) at next xs ys e later = later n ∙ ap (λ k. option_and_then (λ m. steps m k ys) (steps n (at + 1) xs)) e

pub steps_join : (xs ys : List Sign) (state : State) (at : ℕ) → steps state at (xs ++ ys) ≡ option_and_then (λ n. steps n (at + length xs) ys) (steps state at xs)
unfolding steps
steps_join [] ys state at = let e : at ≡ at + 0 = omega arith in ap (λ n. steps state n ys) e
steps_join (x ∷ xs) ys state at =
    let e : at + 1 + length xs ≡ at + length (x ∷ xs) = omega arith in
    join_by (step state at x) at (at + length (x ∷ xs)) xs ys e (λ n. steps_join xs ys n (at + 1))
