-- What it means that a definition is sound: its declared cells are a tree, and each rule is one that a text of a rule can
-- stand for.
use Rattle.std.specs.Prelude.{◌≡◌, ℕ, ◌<◌, ◌≤◌, Bool, true, false, not, ◌==◌, ◌&&◌, ◌||◌, nat_lt, List, [], ◌∷◌, ◌++◌, length, map, cond, Option, Some, None, IsTrue, Contains, slice_get}
use Rattle.std.specs.Option.{option_map, option_map_or}
use Rattle.std.specs.List.{list_any, list_all}
use Rattle.k_terms.specs.declared.op.Op.{Op}
use Rattle.k_terms.specs.declared.op.Op.TheVariants.{MulInt, DivInt, ModInt, AddInt, SubInt, JoinString, LtInt, LeInt, GtInt, GeInt, EqInt, NeInt, EqK, NeK, InKeys, Not, And, Or, SetKey, GetKey, SizeMap, SizeList, LengthString, IntToString}
use Rattle.k_terms.specs.Value.{is_well_formed}
use Rattle.k_terms.specs.Sorts.{SortOrder, Below, least_sort, production_sort, sort_k, sort_kitem, sort_int, sort_bool, sort_string, sort_map, sort_bag}
use Rattle.rule_terms.specs.declared.defs.CellShape.{CellShape}
use Rattle.rule_terms.specs.declared.defs.Kind.{Kind}
use Rattle.rule_terms.specs.declared.defs.Kind.TheVariants.{Cells as CellsKind, Seq as SeqKind, Map as MapKind, List as ListKind, One as OneKind}
use Rattle.rule_terms.specs.declared.pattern.Pattern.{Pattern, Var, Lit, Node', Items', Seq', Freezer', Apply', Row_of-Pattern, end_of-Pattern, more_of-Pattern}
use Rattle.rule_terms.specs.declared.pattern.Body.{Body, Cells', Seq, Map, List as Listed, One, Made}
use Rattle.rule_terms.specs.declared.rule.Cond.{Cond}
use Rattle.rule_terms.specs.declared.rule.Cond.TheVariants.{Holds}
use Rattle.rule_terms.specs.declared.rule.Rule.{Rule}
use Rattle.rule_terms.specs.Language.{Language}
use Rattle.rule_terms.specs.Patterns.{cond_mentions, body_rest, parts_mention, is_rest}
use Rattle.rule_terms.specs.Numbers.{all_different}
use Rattle.rule_terms.specs.InRange.{is_pattern_in_range, is_origin_in_range}
use Rattle.rule_terms.specs.Spots.{Spot, spots, has_mark, new_spots, occurs_elsewhere}

-- ---- the declared cells

-- the greatest number of declared cells, of left cells of a rule, and of its new cells
abbrev pub cell_limit : ℕ
cell_limit = 64

abbrev pub side_limit : ℕ
side_limit = 16

abbrev pub has_cells : Kind → Bool
has_cells CellsKind = true
has_cells _ = false

-- cell 0 alone has no parent; the parent of any other stands before it and contains cells
abbrev pub is_placed_shape : List CellShape → ℕ → CellShape → Bool
is_placed_shape shapes n shape =
    elim shape.parent [ None ↦ n == 0 | Some m ↦ nat_lt m n && option_map_or (λ (s : CellShape). has_cells s.kind) (slice_get shapes m) false ]

-- ---- what stands in a rule

-- the sort of an operator's values; the value at a key may be any
abbrev pub result_sort : Op → Option ℕ
result_sort MulInt = Some sort_int
result_sort DivInt = Some sort_int
result_sort ModInt = Some sort_int
result_sort AddInt = Some sort_int
result_sort SubInt = Some sort_int
result_sort JoinString = Some sort_string
result_sort LtInt = Some sort_bool
result_sort LeInt = Some sort_bool
result_sort GtInt = Some sort_bool
result_sort GeInt = Some sort_bool
result_sort EqInt = Some sort_bool
result_sort NeInt = Some sort_bool
result_sort EqK = Some sort_bool
result_sort NeK = Some sort_bool
result_sort InKeys = Some sort_bool
result_sort Not = Some sort_bool
result_sort And = Some sort_bool
result_sort Or = Some sort_bool
result_sort SetKey = Some sort_map
result_sort GetKey = None
result_sort SizeMap = Some sort_int
result_sort SizeList = Some sort_int
result_sort LengthString = Some sort_int
result_sort IntToString = Some sort_string

-- the sort that each value of a pattern is below, where there is one
abbrev pub sort_of : SortOrder → List ℕ → Pattern → Option ℕ
sort_of o vars (Var x) = slice_get vars x
sort_of o vars (Lit v) = Some (least_sort o v)
sort_of o vars (Node' p _ _) = Some (production_sort o p)
sort_of o vars (Items' p _ _ _) = Some (production_sort o p)
sort_of o vars (Seq' _ _ _) = Some sort_k
sort_of o vars (Freezer' _ _ _ _) = Some sort_kitem
sort_of o vars (Apply' op _ _) = result_sort op

-- an expression of a map: an entry put into one
abbrev pub is_map_expression : Pattern → Bool
is_map_expression (Apply' SetKey _ _) = true
is_map_expression _ = false

-- a body is of a kind
abbrev pub is_body_of : Kind → Body → Bool
is_body_of CellsKind (Cells' _ _ _) = true
is_body_of SeqKind (Seq _ _) = true
is_body_of MapKind (Map _ _) = true
is_body_of MapKind (Made p) = is_map_expression p
is_body_of ListKind (Listed _ _ _) = true
is_body_of (OneKind _) (One _) = true
is_body_of _ _ = false

-- the values in a pattern are well formed
unfoldable mutual
  pub has_formed_values : Pattern → Bool
  has_formed_values (Var _) = true
  has_formed_values (Lit v) = is_well_formed v
  has_formed_values (Node' _ _ parts) = row_has_formed_values parts
  has_formed_values (Items' _ _ parts _) = row_has_formed_values parts
  has_formed_values (Seq' _ parts _) = row_has_formed_values parts
  has_formed_values (Freezer' _ _ _ parts) = row_has_formed_values parts
  has_formed_values (Apply' _ _ parts) = row_has_formed_values parts

  pub row_has_formed_values : {n : _} → Row_of-Pattern n → Bool
  row_has_formed_values end_of-Pattern = true
  row_has_formed_values (more_of-Pattern part parts) = has_formed_values part && row_has_formed_values parts

-- no operator stands in a pattern
unfoldable mutual
  pub has_no_operator : Pattern → Bool
  has_no_operator (Var _) = true
  has_no_operator (Lit _) = true
  has_no_operator (Node' _ _ parts) = row_has_no_operator parts
  has_no_operator (Items' _ _ parts _) = row_has_no_operator parts
  has_no_operator (Seq' _ parts _) = row_has_no_operator parts
  has_no_operator (Freezer' _ _ _ parts) = row_has_no_operator parts
  has_no_operator (Apply' _ _ _) = false

  pub row_has_no_operator : {n : _} → Row_of-Pattern n → Bool
  row_has_no_operator end_of-Pattern = true
  row_has_no_operator (more_of-Pattern part parts) = has_no_operator part && row_has_no_operator parts

-- a variable of sort K, which stands for a whole sequence
abbrev pub is_sequence_variable : List ℕ → Pattern → Bool
is_sequence_variable vars (Var x) = option_map_or (λ sort. sort == sort_k) (slice_get vars x) false
is_sequence_variable vars _ = false

-- No part of a sequence in a pattern, and no argument of an operator, is a variable of sort K: such a one is a whole
-- sequence or the rest of one.
unfoldable mutual
  pub has_whole_sequences : List ℕ → Pattern → Bool
  has_whole_sequences vars (Var _) = true
  has_whole_sequences vars (Lit _) = true
  has_whole_sequences vars (Node' _ _ parts) = row_has_whole_sequences vars parts
  has_whole_sequences vars (Items' _ _ parts _) = row_has_whole_sequences vars parts
  has_whole_sequences vars (Seq' _ parts _) = row_has_whole_sequences vars parts && row_has_items vars parts
  has_whole_sequences vars (Freezer' _ _ _ parts) = row_has_whole_sequences vars parts
  has_whole_sequences vars (Apply' _ _ parts) = row_has_whole_sequences vars parts && row_has_items vars parts

  pub row_has_whole_sequences : {n : _} → List ℕ → Row_of-Pattern n → Bool
  row_has_whole_sequences vars end_of-Pattern = true
  row_has_whole_sequences vars (more_of-Pattern part parts) = has_whole_sequences vars part && row_has_whole_sequences vars parts

  pub row_has_items : {n : _} → List ℕ → Row_of-Pattern n → Bool
  row_has_items vars end_of-Pattern = true
  row_has_items vars (more_of-Pattern part parts) = not (is_sequence_variable vars part) && row_has_items vars parts

-- each pattern of a body passes a test
abbrev pub all_patterns : (Pattern → Bool) → Body → Bool
all_patterns test (Cells' _ _ _) = true
all_patterns test (Seq parts _) = list_all test parts
all_patterns test (Map entries _) = list_all (λ e. test e.0 && test e.1) entries
all_patterns test (Listed before _ after) = list_all test before && list_all test after
all_patterns test (One p) = test p
all_patterns test (Made p) = test p

abbrev pub condition_test : (Pattern → Bool) → Cond → Bool
condition_test test (Holds e) = test e
condition_test test _ = true

-- a whole content is made by an expression
abbrev pub is_made : Body → Bool
is_made (Made _) = true
is_made _ = false

-- a list has no rest between members
abbrev pub has_rest_at_end : Body → Bool
has_rest_at_end (Listed (_ ∷ _) (Some _) (_ ∷ _)) = false
has_rest_at_end _ = true

-- a part of a content is an item: it is no variable of sort K
abbrev pub is_item : List ℕ → Pattern → Bool
is_item vars p = not (is_sequence_variable vars p)

-- No part of a content is a variable of sort K, which may be the rest alone, and a list has no rest between members.
abbrev pub has_one_form : List ℕ → Body → Bool
has_one_form vars body = has_rest_at_end body && all_patterns (is_item vars) body

-- the rest of a body of cells
abbrev pub cells_rest : Body → Option ℕ
cells_rest (Cells' _ _ rest) = rest
cells_rest _ = None

-- a variable stands in a body, its rest included; the cells in a body are not asked
abbrev pub body_mentions : ℕ → Body → Bool
body_mentions x body = parts_mention x body || is_rest x (body_rest body)

-- a variable stands in a cell of these
abbrev pub side_mentions : ℕ → List Spot → Bool
side_mentions x ps = list_any (λ (p : Spot). body_mentions x p.body) ps

abbrev pub conditions_mention : ℕ → List Cond → Bool
conditions_mention x cs = list_any (cond_mentions x) cs

-- ---- the cells of a side

-- the declared cell of the cell with a mark
abbrev pub cell_of_mark : List Spot → ℕ → Option ℕ
cell_of_mark [] mark = None
cell_of_mark (p ∷ ps) mark = cond (p.mark == mark) (Some p.cell) (cell_of_mark ps mark)

-- A cell of a side is declared, lies directly in a cell of its declared parent, or in none where that has none, and its
-- body is of the declared kind; a single value's sort is below the cell's.
pub record IsPlaced (d : Language) (vars : List ℕ) (ps : List Spot) (p : Spot) : Type 0 where
  pub shape : CellShape
  pub declared : slice_get d.cells p.cell ≡ Some shape
  pub parent : option_map (cell_of_mark ps) p.above ≡ option_map Some shape.parent
  pub kind : IsTrue (is_body_of shape.kind p.body)
  pub value : (q : Pattern) (sort : ℕ) → p.body ≡ One q → shape.kind ≡ OneKind sort → (least : ℕ) × (sort_of d.sorts vars q ≡ Some least) × Below d.sorts least sort

-- a cell of one side alone may occur more than once in its parent, or lies in a cell of that side alone
abbrev pub may_come_and_go : Language → List Spot → Spot → Bool
may_come_and_go d others p =
    has_mark others p.mark
    || option_map_or (λ (s : CellShape). s.many) (slice_get d.cells p.cell) false
    || option_map_or (λ above. not (has_mark others above)) p.above false

-- one cell of both sides: its declared cell, the mark around it and its rest of cells are the same
pub record IsSameCell (p q : Spot) : Type 0 where
  pub cell : p.cell ≡ q.cell
  pub above : p.above ≡ q.above
  pub rest : cells_rest p.body ≡ cells_rest q.body

-- ---- a sound rule

-- the cells of a rule
pub record HasSoundCells (d : Language) (r : Rule) : Type 0 where
  pub left_marks : IsTrue (all_different (map (λ (p : Spot). p.mark) (spots r.left)))
  pub right_marks : IsTrue (all_different (map (λ (p : Spot). p.mark) (spots r.right)))
  pub one_root : r.left.mark ≡ r.right.mark
  pub left_placed : (p : Spot) → Contains (spots r.left) p → IsPlaced d r.vars (spots r.left) p
  pub right_placed : (p : Spot) → Contains (spots r.right) p → IsPlaced d r.vars (spots r.right) p
  pub staying : (p q : Spot) → Contains (spots r.left) p → Contains (spots r.right) q → p.mark ≡ q.mark → IsSameCell p q
  pub new_closed : (q : Spot) → Contains (new_spots r) q → cells_rest q.body ≡ None
  pub removed_alone : IsTrue (list_all (may_come_and_go d (spots r.right)) (spots r.left))
  pub new_alone : IsTrue (list_all (may_come_and_go d (spots r.left)) (spots r.right))
  pub few_left : length (spots r.left) ≤ side_limit
  pub few_new : length (new_spots r) ≤ side_limit

-- the variables of a rule
pub record HasSoundVariables (r : Rule) : Type 0 where
  pub bound : (x : ℕ) → x < length r.vars → IsTrue (side_mentions x (spots r.left))
  pub known : (x : ℕ) → IsTrue (side_mentions x (spots r.left ++ spots r.right) || conditions_mention x r.when) → x < length r.vars
  pub rests : (p : Spot) (x : ℕ) → Contains (spots r.left) p → cells_rest p.body ≡ Some x → (slice_get r.vars x ≡ Some sort_bag) × IsTrue (not (occurs_elsewhere r p.mark x))

-- The patterns of a rule: the keys of maps in values rise, no operator stands on the left, and whole sequences and rests
-- stand where they may.
pub record HasSoundPatterns (r : Rule) : Type 0 where
  pub values : IsTrue (list_all (λ (p : Spot). all_patterns has_formed_values p.body) (spots r.left ++ spots r.right))
  pub condition_values : IsTrue (list_all (condition_test has_formed_values) r.when)
  pub no_operator : IsTrue (list_all (λ (p : Spot). all_patterns has_no_operator p.body && not (is_made p.body)) (spots r.left))
  pub sequences : IsTrue (list_all (λ (p : Spot). all_patterns (has_whole_sequences r.vars) p.body) (spots r.left ++ spots r.right))
  pub condition_sequences : IsTrue (list_all (condition_test (has_whole_sequences r.vars)) r.when)
  pub forms : IsTrue (list_all (λ (p : Spot). has_one_form r.vars p.body) (spots r.left ++ spots r.right))
  pub condition_forms : IsTrue (list_all (condition_test (is_item r.vars)) r.when)

-- The numbers of a rule, beside those of cells, variables and sorts: each is of a production that there is.
pub record HasNumbersInRange (o : SortOrder) (r : Rule) : Type 0 where
  pub origin : IsTrue (is_origin_in_range o r.origin)
  pub patterns :
      IsTrue (list_all (λ (p : Spot). all_patterns (is_pattern_in_range o) p.body) (spots r.left ++ spots r.right))
  pub conditions : IsTrue (list_all (condition_test (is_pattern_in_range o)) r.when)

pub record IsSoundRule (d : Language) (r : Rule) : Type 0 where
  pub cells : HasSoundCells d r
  pub variables : HasSoundVariables r
  pub patterns : HasSoundPatterns r
  pub numbers : HasNumbersInRange d.sorts r

-- a sound definition: there is a root, each production has its label, and each rule is sound
pub record IsSound (d : Language) : Type 0 where
  pub some_cell : 0 < length d.cells
  pub few_cells : length d.cells ≤ cell_limit
  pub tree : (n : ℕ) (shape : CellShape) → slice_get d.cells n ≡ Some shape → IsTrue (is_placed_shape d.cells n shape)
  pub labels : length d.labels ≡ length d.sorts.productions
  pub rules : (r : Rule) → Contains d.rules r → IsSoundRule d r
