-- Where nothing is wrong there is one configuration, and its cells make a tree.
use Rattle.std.proofs.Common.{◌≡◌, inl, inr, ℕ, zero, suc, ◌+◌, ◌<◌, ◌≤◌, ◌==◌, Bool, true, false, true≢false, cond, ◌&&◌, ◌||◌, not, List, [], ◌∷◌, ◌++◌, take, length, map, codes, Option, Some, None, refl, sym, ap, ◌∙◌, subst, arith, append-nil, append_assoc}
use Rattle.std.proofs.lemmas.List.{length-map}
use Rattle.std.proofs.lemmas.Bool.Decides.{nat_tests}
use Rattle.std.specs.Prelude.{slice_get, is_some, is_none, nat_lt, IsTrue, IfSome, option_map}
use Rattle.std.specs.List.{list_any}
use Rattle.std.specs.Option.{option_or, option_map_or}
use Rattle.production_reader.proofs.Fronts.{bytes_same, same_bytes}
use Rattle.k_lexer.specs.declared.token.Token.{Token}
use Rattle.grammar_terms.specs.Grammar.{Syntax}
use Rattle.rule_terms.specs.Sound.{has_cells, is_placed_shape}
use Rattle.rule_terms.specs.declared.defs.CellShape.{CellShape}
use Rattle.cell_forms.specs.declared.form.CellForm.{CellForm}
use Rattle.cell_forms.specs.Written.{Cell, forms_of, cells_of, is_many}
use Rattle.cell_forms.specs.Written.Cell.{OfCells, OfContent}
use Rattle.cell_forms.specs.Forms.{IsForm}
use Rattle.cell_forms.specs.Laws.{IsInTree, HasTree}
use Rattle.cell_tokens.specs.declared.token.CellToken.{CellToken}
use Rattle.cell_trees.specs.declared.declared.Declared.{Declared}
use Rattle.cell_trees.specs.declared.declared.Declared.TheVariants.{Program}
use Rattle.cell_trees.specs.Trees.{IsTree, names_of, kind_of}
use Rattle.sorted_grammar.specs.declared.fault.What.TheVariants.{Cells as CellCount}
use Rattle.cell_config.specs.declared.refusal.CellRefusal.{CellRefusal}
use Rattle.cell_config.specs.declared.refusal.CellRefusal.TheVariants.{TwoCells, NoK, CellContent, TooMany}
use Rattle.cell_config.specs.declared.division.ConfigCell.{ConfigCell}
use Rattle.cell_config.specs.declared.division.Place.{Place}
use Rattle.cell_config.specs.declared.division.Division.{Division}
use Rattle.cell_config.specs.Divisions.{signs_of, Holds, IsCellOf, AreCellsOf, IsWhole, IsDivision}
use Rattle.cell_config.specs.Refusals.{first_some, is_named, is_among, first_twice, begun_at, if_among, twice_of, root_of, twice_in, program_of, program_sort, is_k, is_k_with_program, lacks_program, stray_program, inside_of, bad_content, no_k, too_many, refusal_of}
use Rattle.cell_config.specs.Cells.{AreDivided, shape_of}
use Rattle.cell_config.specs.Trees.{helds_of, tree_with, HasProgramAt, HasFewBefore, MakesTree, IsOne}
use Rattle.cell_config.proofs.Lists.{some_same, none_some, none_is_some, same_place, zip_left, zip_right, got_map, map_got, got_within, got_front, each_at}

-- ---- nothing is told

or_none : {A : Type 0} (one other : Option A) → option_or one other ≡ None → (one ≡ None) × (other ≡ None)
or_none None other is = (refl, is)
or_none (Some x) other is = absurd (none_some x (sym is))

map_none : {A B : Type 0} (f : A → B) (o : Option A) → option_map f o ≡ None → o ≡ None
map_none f None is = refl
map_none f (Some x) is = absurd (none_some (f x) (sym is))

cond_none : {A : Type 0} (b : Bool) (x : A) → cond b (Some x) None ≡ None → b ≡ false
cond_none true x is = absurd (none_some x (sym is))
cond_none false x is = refl

none_at : {A B : Type 0} (f : A → Option B) (xs : List A) (n : ℕ) (x : A) → first_some f xs ≡ None → slice_get xs n ≡ Some x → f x ≡ None
none_at f [] n x none at = absurd (none_some x at)
none_at f (y ∷ xs) zero x none at = ap f (sym (some_same y x at)) ∙ (or_none (f y) (first_some f xs) none).0
none_at f (y ∷ xs) (suc n) x none at = none_at f xs n x (or_none (f y) (first_some f xs) none).1 at

not_true : (b : Bool) → not b ≡ false → b ≡ true
not_true true is = refl
not_true false is = sym is

-- ---- a configuration without a place

whole_of : (g : Syntax) (text : List ℕ) (base : List Token) (tokens : List CellToken) (division : Division) → IsDivision g text base tokens division → division.place ≡ None → IsWhole g tokens division
whole_of g text base tokens division (inl is) none = is
whole_of g text base tokens division (inr (inl is)) none = absurd (none_is_some _ _ none is.place_is)
whole_of g text base tokens division (inr (inr is)) none = absurd (none_is_some _ _ none is.place_is)

inside_none : (place : Option Place) → inside_of place ≡ None → place ≡ None
inside_none None is = refl
inside_none (Some place) is = absurd (none_some place.inside (sym is))

-- the root of a written cell, and what stands behind it
record HasRoot (cell : Cell) : Type 0 where
  root : CellForm
  more : List CellForm
  is : cells_of cell ≡ root ∷ more
  many : root.many ≡ is_many cell

root_first : (cell : Cell) → HasRoot cell
unfolding forms_of
root_first (OfCells name many cells) = record { root = _; more = _; is = refl; many = refl }
root_first (OfContent name many more) = record { root = _; more = _; is = refl; many = refl }

module _ (g : Syntax) (tokens : List CellToken) (division : Division) (whole : IsWhole g tokens division) where
  root_cell : (cell : ConfigCell) × (slice_get division.cells 0 ≡ Some cell) × (cell.many ≡ false)
  root_cell =
      let root = root_first whole.form.0 in
      let at : slice_get whole.forms 0 ≡ Some root.root = ap (λ (fs : List CellForm). slice_get fs 0) (whole.form.2 ∙ root.is) in
      let found = zip_right (IsCellOf g tokens) whole.forms division.cells 0 root.root whole.cells at in
      (found.0, found.1, ap (λ (c : ConfigCell). c.many) found.2.is ∙ root.many ∙ whole.form.1.single)

  has_root : root_of division ≡ None → ⊥
  has_root none = root_there division.cells division.place none root_cell.0 root_cell.1
    where
      root_there : (cells : List ConfigCell) (place : Option Place) → root_of (record { cells = cells; place = place }) ≡ None → (cell : ConfigCell) → slice_get cells 0 ≡ Some cell → ⊥
      root_there [] place none cell at = none_some cell at
      root_there (c ∷ cells) place none cell at = none_some c.name (sym none)

-- ---- one configuration

module _ (g : Syntax) (text : List ℕ) where
  only_one : (before after : List (List ℕ)) (bases : List (List Token)) (divisions : List Division) → AreDivided g text before bases after divisions → twice_in divisions ≡ None
      → no_k divisions ≡ None → first_some bad_content divisions ≡ None → (division : Division) × (tokens : List CellToken) × (divisions ≡ division ∷ []) × IsWhole g tokens division
  only_one before after bases [] are twice k bad = absurd (none_some NoK (sym k))
  only_one before after [] (d ∷ ds) are twice k bad = absurd are
  only_one before after (base ∷ bases) (d ∷ []) are twice k bad =
      let here = (or_none (bad_content d) None bad).0 in
      let place = inside_none d.place (or_none (first_some stray_program d.cells) (inside_of d.place) here).1 in
      (d, are.1.tokens, refl, whole_of g text base are.1.tokens d are.1.is place)
  only_one before after (base ∷ []) (d ∷ e ∷ es) are twice k bad = absurd are.2
  only_one before after (base ∷ other ∷ bases) (d ∷ e ∷ es) are twice k bad =
      let rest = (or_none (bad_content d) (first_some bad_content (e ∷ es)) bad).1 in
      let here = (or_none (bad_content e) (first_some bad_content es) rest).0 in
      let place = inside_none e.place (or_none (first_some stray_program e.cells) (inside_of e.place) here).1 in
      let whole = whole_of g text other are.2.1.tokens e are.2.1.is place in
      let roots = (or_none (twice_of d) (first_some root_of (e ∷ es)) twice).1 in
      absurd (has_root g are.2.1.tokens e whole (or_none (root_of e) (first_some root_of es) roots).0)

-- ---- names

among_at : (cells : List ConfigCell) (n : ℕ) (cell : ConfigCell) (name : List ℕ) → slice_get cells n ≡ Some cell → cell.name ≡ name → is_among cells name ≡ true
among_at [] n cell name at same = absurd (none_some cell at)
among_at (c ∷ cells) zero cell name at same =
    ap (λ b. b || is_among cells name) (same_bytes c.name name (ap (λ (x : ConfigCell). x.name) (some_same c cell at) ∙ same))
among_at (c ∷ cells) (suc n) cell name at same = elim (is_named name c) as (λ b. (b || is_among cells name) ≡ true) [ true ↦ refl | false ↦ among_at cells n cell name at same ]

cond_else : {A : Type 0} (b : Bool) (x : A) (o : Option A) → cond b (Some x) o ≡ None → (b ≡ false) × (o ≡ None)
cond_else true x o is = absurd (none_some x (sym is))
cond_else false x o is = (refl, is)

not_before : (before cells : List ConfigCell) → first_twice before cells ≡ None → (n : ℕ) (cell : ConfigCell) → slice_get cells n ≡ Some cell → is_among (before ++ take n cells) cell.name ≡ false
not_before before [] none n cell at = absurd (none_some cell at)
not_before before (c ∷ cells) none zero cell at =
    let here = (cond_else (is_among before c.name) c.name (first_twice (before ++ c ∷ []) cells) none).0 in
    ap (λ cs. is_among cs cell.name) (append-nil before) ∙ ap (λ (x : ConfigCell). is_among before x.name) (sym (some_same c cell at)) ∙ here
not_before before (c ∷ cells) none (suc n) cell at =
    let rest = (cond_else (is_among before c.name) c.name (first_twice (before ++ c ∷ []) cells) none).1 in
    ap (λ cs. is_among cs cell.name) (sym (append_assoc before (c ∷ []) (take n cells))) ∙ not_before (before ++ c ∷ []) cells rest n cell at

module _ (cells : List ConfigCell) (once : first_twice [] cells ≡ None) where
  before_other : (n m : ℕ) (one other : ConfigCell) → slice_get cells n ≡ Some one → slice_get cells m ≡ Some other → one.name ≡ other.name → n < m → ⊥
  before_other n m one other at also same less =
      let among = among_at (take m cells) n one other.name (got_front cells n m one less at) same in
      true≢false (sym among ∙ not_before [] cells once m other also)

  names_differ : (n m : ℕ) (one other : ConfigCell) → slice_get cells n ≡ Some one → slice_get cells m ≡ Some other → one.name ≡ other.name → n ≡ m
  names_differ n m one other at also same = same_place n m (before_other n m one other at also same) (before_other m n other one also at (sym same))

-- ---- the program

program_is : (held : Option Declared) (sort : ℕ) → held ≡ Some (Program sort) → program_sort held ≡ Some sort
program_is held sort is = ap program_sort is

k_if_not_stray : (cell : ConfigCell) (k : Bool) (program : Option ℕ) (sort : ℕ) → program ≡ Some sort → cond (is_some program && not k) (Some cell.name) None ≡ None → k ≡ true
k_if_not_stray cell true program sort is none = refl
k_if_not_stray cell false None sort is none = absurd (none_some sort is)
k_if_not_stray cell false (Some found) sort is none = absurd (none_some cell.name (sym none))

module _ (cells : List ConfigCell) (no_stray : first_some stray_program cells ≡ None) where
  program_in_k : (n sort : ℕ) → HasProgramAt cells n sort → (cell : ConfigCell) × (slice_get cells n ≡ Some cell) × (cell.name ≡ codes "k")
  program_in_k n sort has =
      let got = got_map (λ (cell : ConfigCell). cell.held) cells n (Some (Program sort)) has in
      let k = k_if_not_stray got.0 (is_k got.0) (program_of got.0) sort (program_is got.0.held sort got.2) (none_at stray_program cells n got.0 no_stray got.1) in
      (got.0, got.1, bytes_same got.0.name (codes "k") k)

any_program : (cells : List ConfigCell) → list_any is_k_with_program cells ≡ true → is_some (first_some program_of cells) ≡ true
any_program [] any = any
any_program (cell ∷ cells) any = by_program (is_k cell) (program_of cell) (any_program cells) any
  where
    by_program : (k : Bool) (program : Option ℕ) → (list_any is_k_with_program cells ≡ true → is_some (first_some program_of cells) ≡ true)
        → ((k && is_some program) || list_any is_k_with_program cells) ≡ true → is_some (option_or program (first_some program_of cells)) ≡ true
    by_program k (Some sort) rest any = refl
    by_program true None rest any = rest any
    by_program false None rest any = rest any

-- ---- the tree

kinds_are : (cells : List ConfigCell) → map (λ (shape : CellShape). shape.kind) (map shape_of cells) ≡ map kind_of (helds_of cells)
kinds_are [] = refl
kinds_are (cell ∷ cells) = ap (λ ks. kind_of cell.held ∷ ks) (kinds_are cells)

holds_cells : (g : Syntax) (tokens : List CellToken) (content : Option (ℕ × ℕ)) (held : Option Declared) → content ≡ None → Holds g tokens content held → held ≡ None
holds_cells g tokens None None is holds = refl
holds_cells g tokens None (Some declared) is holds = absurd holds
holds_cells g tokens (Some range) held is holds = absurd (none_some range (sym is))

-- ---- the whole

lacks_none : (divisions : List Division) (division : Division) → divisions ≡ division ∷ [] → no_k divisions ≡ None → division.place ≡ None → list_any is_k_with_program division.cells ≡ true
lacks_none divisions division is k place =
    let lacks : (lacks_program division && true) ≡ false = cond_none (lacks_program division && true) NoK (ap no_k (sym is) ∙ k) in
    not_true (list_any is_k_with_program division.cells) (by_place division.place (list_any is_k_with_program division.cells) place lacks)
  where
    by_place : (p : Option Place) (any : Bool) → p ≡ None → ((is_none p && not any) && true) ≡ false → not any ≡ false
    by_place None true p lacks = refl
    by_place None false p lacks = lacks
    by_place (Some place) any p lacks = absurd (none_some place (sym p))

few_of : (divisions : List Division) (division : Division) → divisions ≡ division ∷ [] → too_many divisions ≡ None → length division.cells ≤ 64
few_of divisions division is many =
    let less : nat_lt 64 (length division.cells) ≡ false = cond_none (nat_lt 64 (length division.cells)) (TooMany CellCount (length division.cells)) (ap too_many (sym is) ∙ many) in
    search (arith, nat_tests, less)

-- over the law that the cells of a form are a tree
module _ (forms_tree : HasTree) where
  module _ (g : Syntax) (tokens : List CellToken) (cells : List ConfigCell) (forms : List CellForm) (form : IsForm (signs_of tokens) forms) (are : AreCellsOf g tokens forms cells) where
    in_tree : (n : ℕ) (one : CellForm) → slice_get forms n ≡ Some one → IsInTree forms n one.parent
    in_tree n one at =
        subst (λ (fs : List CellForm). IsInTree fs n one.parent) (sym form.2) (forms_tree form.0 n one (ap (λ (fs : List CellForm). slice_get fs n) (sym form.2) ∙ at))

    parent_before : (n m : ℕ) (parent : Option ℕ) → IsInTree forms n parent → parent ≡ Some m → m < n
    parent_before n m None is same = absurd (none_some m same)
    parent_before n m (Some k) is same = subst (λ j. j < n) (some_same k m same) is.0

    few_before : length cells ≤ 64 → (n : ℕ) (cell : ConfigCell) → slice_get cells n ≡ Some cell → HasFewBefore cell
    few_before few n cell at =
        let found = zip_left (IsCellOf g tokens) forms cells n cell are at in
        let same : found.0.parent ≡ cell.parent = ap (λ (c : ConfigCell). c.parent) (sym found.2.is) in
        by_parent cell.parent (λ m is. parent_before n m found.0.parent (in_tree n found.0 found.1) (same ∙ is))
      where
        by_parent : (parent : Option ℕ) → ((m : ℕ) → parent ≡ Some m → m < n) → IfSome parent (λ m. m < 64)
        by_parent None less = tt
        by_parent (Some m) less = let below = less m refl in let within = got_within cells n cell at in omega (arith, below, within, few)

    outer_cells : (outer : CellForm) (cell : ConfigCell) → outer.content ≡ None → IsCellOf g tokens outer cell → has_cells (kind_of cell.held) ≡ true
    outer_cells outer cell none is = ap (λ (h : Option Declared). has_cells (kind_of h)) (holds_cells g tokens outer.content cell.held none is.holds)

    placed_by : (n : ℕ) (parent : Option ℕ) → IsInTree forms n parent
        → IsTrue (elim parent [ None ↦ n == 0 | Some m ↦ nat_lt m n && option_map_or (λ (s : CellShape). has_cells s.kind) (slice_get (map shape_of cells) m) false ])
    placed_by n None is = ap (λ k. k == 0) is
    placed_by n (Some m) is =
        let found = zip_right (IsCellOf g tokens) forms cells m is.1 are is.2 in
        let at : slice_get (map shape_of cells) m ≡ Some (shape_of found.0) = map_got shape_of cells m found.0 found.1 in
        let less : nat_lt m n ≡ true = search (arith, nat_tests, is.0) in
        (λ i. less i && option_map_or (λ (s : CellShape). has_cells s.kind) (at i) false) ∙ outer_cells is.1 found.0 is.3 found.2

    all_placed : (n : ℕ) (shape : CellShape) → slice_get (map shape_of cells) n ≡ Some shape → IsTrue (is_placed_shape (map shape_of cells) n shape)
    all_placed n shape at =
        let cell = got_map shape_of cells n shape at in
        let found = zip_left (IsCellOf g tokens) forms cells n cell.0 are cell.1 in
        let same : found.0.parent ≡ shape.parent = ap (λ (c : ConfigCell). c.parent) (sym found.2.is) ∙ ap (λ (s : CellShape). s.parent) cell.2 in
        placed_by n shape.parent (subst (IsInTree forms n) same (in_tree n found.0 found.1))

  module _ (g : Syntax) (tokens : List CellToken) (division : Division) (whole : IsWhole g tokens division) (few : length division.cells ≤ 64)
      (once : first_twice [] division.cells ≡ None) (no_stray : first_some stray_program division.cells ≡ None) where
    names_apart : (one other : ℕ) (name : List ℕ) → slice_get (names_of (map shape_of division.cells)) one ≡ Some name → slice_get (names_of (map shape_of division.cells)) other ≡ Some name → one ≡ other
    names_apart one other name at also =
        let shape = got_map (λ (s : CellShape). s.name) (map shape_of division.cells) one name at in
        let cell = got_map shape_of division.cells one shape.0 shape.1 in
        let shape_too = got_map (λ (s : CellShape). s.name) (map shape_of division.cells) other name also in
        let cell_too = got_map shape_of division.cells other shape_too.0 shape_too.1 in
        names_differ division.cells once one other cell.0 cell_too.0 cell.1 cell_too.1
        (ap (λ (s : CellShape). s.name) cell.2 ∙ shape.2 ∙ sym shape_too.2 ∙ sym (ap (λ (s : CellShape). s.name) cell_too.2))

    named_k : (n sort : ℕ) → HasProgramAt division.cells n sort → slice_get (names_of (map shape_of division.cells)) n ≡ Some (codes "k")
    named_k n sort has =
        let cell = program_in_k division.cells no_stray n sort has in
        map_got (λ (s : CellShape). s.name) (map shape_of division.cells) n (shape_of cell.0) (map_got shape_of division.cells n cell.0 cell.1) ∙ ap (λ name. Some name) cell.2

    single_root : (shape : CellShape) → slice_get (map shape_of division.cells) 0 ≡ Some shape → shape.many ≡ false
    single_root shape at =
        let root = root_cell g tokens division whole in
        let same = some_same shape (shape_of root.0) (sym at ∙ map_got shape_of division.cells 0 root.0 root.1) in
        ap (λ (s : CellShape). s.many) same ∙ root.2

    tree_of : (number sort : ℕ) → HasProgramAt division.cells number sort → IsTree (tree_with division.cells number sort)
    tree_of number sort has = record {
      some_cell = let some = got_within division.cells 0 (root_cell g tokens division whole).0 (root_cell g tokens division whole).1 in let size = length-map division.cells shape_of in omega (arith, some, size);
      few_cells = let size = length-map division.cells shape_of in omega (arith, few, size);
      placed = all_placed g tokens division.cells whole.forms whole.form whole.cells;
      single = single_root;
      differ = names_apart;
      kinds = kinds_are division.cells;
      named = named_k number sort has;
      program = has;
      only = λ other else also. names_apart other number (codes "k") (named_k other else also) (named_k number sort has);
    }

    makes : list_any is_k_with_program division.cells ≡ true → MakesTree division.cells
    makes any = record {
      few = few;
      parents = each_at HasFewBefore division.cells (few_before g tokens division.cells whole.forms whole.form whole.cells few);
      program = any_program division.cells any;
      tree = tree_of;
    }

  pub one_tree_made : (g : Syntax) (text : List ℕ) (before after : List (List ℕ)) (bases : List (List Token)) (divisions : List Division) → AreDivided g text before bases after divisions
      → refusal_of divisions ≡ None → IsOne divisions
  one_tree_made g text before after bases divisions are fine =
      let first = or_none (option_map (λ name. TwoCells name) (twice_in divisions))
      (option_or (no_k divisions) (option_or (option_map (λ name. CellContent name) (first_some bad_content divisions)) (too_many divisions))) fine in
      let second = or_none (no_k divisions) (option_or (option_map (λ name. CellContent name) (first_some bad_content divisions)) (too_many divisions)) first.1 in
      let third = or_none (option_map (λ name. CellContent name) (first_some bad_content divisions)) (too_many divisions) second.1 in
      let twice = map_none (λ name. TwoCells name) (twice_in divisions) first.0 in
      let bad = map_none (λ name. CellContent name) (first_some bad_content divisions) third.0 in
      let one = only_one g text before after bases divisions are twice second.0 bad in
      let division = one.0 in
      let bad_here = (or_none (bad_content division) None (ap (first_some bad_content) (sym one.2) ∙ bad)).0 in
      let stray = (or_none (first_some stray_program division.cells) (inside_of division.place) bad_here).0 in
      let twice_here = (or_none (twice_of division) None (ap twice_in (sym one.2) ∙ twice)).0 in
      let once = (or_none (first_twice [] division.cells) (if_among division.cells (begun_at division.place)) twice_here).0 in
      record {
        division = division;
        is = one.2;
        makes = makes g one.1 division one.3 (few_of divisions division one.2 third.1) once stray (lacks_none divisions division one.2 second.0 one.3.no_place);
      }
