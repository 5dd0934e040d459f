-- The variables that occur in a reading of a term, and the pattern that it stands for.
use Rattle.std.specs.Prelude.{ℕ, ◌+◌, ◌-◌, ◌==◌, ◌&&◌, ◌||◌, not, nat_lt, Bool, true, false, cond, List, [], ◌∷◌, ◌++◌, length, take, Option, Some, None, slice_get, unwrap_or, get_or}
use Rattle.std.specs.Option.{option_map, option_map_or, option_and_then}
use Rattle.std.specs.List.{position_from}
use Rattle.k_terms.specs.Sorts.{sort_k, sort_kitem}
use Rattle.k_terms.specs.declared.op.Op.{Op}
use Rattle.k_terms.specs.declared.op.Op.TheVariants.{MulInt, DivInt, ModInt, AddInt, SubInt, JoinString, LtInt, LeInt, GtInt, GeInt, EqInt, NeInt, EqK, NeK, InKeys, Not, And, Or, SetKey, GetKey, SizeMap, SizeList, LengthString, IntToString}
use Rattle.grammar_terms.specs.declared.shape.Shape.{Shape, Leaf as LeafShape, Node' as NodeS', Items' as ItemsS', Row_of-Shape, end_of-Shape, more_of-Shape}
use Rattle.rule_terms.specs.declared.pattern.Pattern.{Pattern, Var, Lit, Node, Items, Seq, Apply, Node' as NodeP', Items' as ItemsP', Seq' as SeqP', Freezer' as FreezerP', Apply' as ApplyP'}
use Rattle.rule_parts.specs.declared.leaves.LeafKind.{LeafKind}
use Rattle.rule_parts.specs.declared.leaves.LeafKind.TheVariants.{Variable, Literal, Other}
use Rattle.rule_parts.specs.declared.leaves.Leaf.{Leaf}
use Rattle.rule_parts.specs.declared.argument_sorts.Productions.{Productions}
use Rattle.rule_parts.specs.declared.terms.Occurrence.{Occurrence}

-- ---- where a term stands

-- the sorts of a production's arguments
abbrev pub sorts_of : Productions → ℕ → List ℕ
sorts_of g p = cond (p == 0) [] (unwrap_or (slice_get g.arguments (p - 1)) [])

-- the sort of the place of a child, counted from 0: that of the elements in a list, else that of the argument
abbrev pub place_sort : Bool → List ℕ → ℕ → ℕ
place_sort list sorts i = get_or sorts (cond list 0 i) sort_kitem

-- a production number stands for a sequence in parentheses
abbrev pub is_sequence : ℕ → Bool
is_sequence p = p == 0

unfoldable pub is_end : {n : _} → Row_of-Shape n → Bool
is_end end_of-Shape = true
is_end (more_of-Shape _ _) = false

abbrev pub is_last : List Shape → Bool
is_last [] = true
is_last (_ ∷ _) = false

-- A variable of sort K may stand at a place of sort K, and as the last part of a sequence.
abbrev pub takes_sequence : Bool → ℕ → Bool → Bool
takes_sequence sequence sort last = sort == sort_k || (sequence && last)

-- ---- variables

-- the variable that a leaf is at a place of a sort
abbrev pub occurrence_by : ℕ → LeafKind → Bool → ℕ → Bool → List Occurrence
occurrence_by at (Variable home None) is_left sort whole =
    record { at = at; home = home; sort = sort; is_left = is_left; is_stray = sort == sort_k && not whole } ∷ []
occurrence_by at (Variable home (Some own)) is_left sort whole =
    record { at = at; home = home; sort = own; is_left = is_left; is_stray = own == sort_k && not whole } ∷ []
occurrence_by at (Literal value) is_left sort whole = []
occurrence_by at Other is_left sort whole = []

abbrev pub leaf_by : Option Leaf → Bool → ℕ → Bool → List Occurrence
leaf_by None is_left sort whole = []
leaf_by (Some leaf) is_left sort whole = occurrence_by leaf.at leaf.kind is_left sort whole

abbrev pub leaf_occurrence : List Leaf → Bool → ℕ → Bool → ℕ → List Occurrence
leaf_occurrence leaves is_left sort whole at = leaf_by (slice_get leaves at) is_left sort whole

abbrev pub rest_occurrence : List Leaf → Bool → ℕ → Option ℕ → List Occurrence
rest_occurrence leaves is_left sort None = []
rest_occurrence leaves is_left sort (Some at) = leaf_occurrence leaves is_left sort true at

-- The occurrences of variables in a term at a place of a sort, in the order of the text. At some places a variable of sort K
-- may stand.
unfoldable mutual
  pub occurrences : Productions → List Leaf → Bool → ℕ → Bool → Shape → List Occurrence
  occurrences g leaves is_left sort whole (LeafShape at) = leaf_occurrence leaves is_left sort whole at
  occurrences g leaves is_left sort whole (NodeS' p _ shapes) = row_occurrences g leaves is_left false false (sorts_of g p) 0 shapes
  occurrences g leaves is_left sort whole (ItemsS' p _ shapes rest) =
      row_occurrences g leaves is_left true (is_sequence p) (sorts_of g p) 0 shapes
      ++ rest_occurrence leaves is_left (place_sort true (sorts_of g p) 0) rest

  -- those in the children, from the one of a number on
  pub row_occurrences : {n : _} → Productions → List Leaf → Bool → Bool → Bool → List ℕ → ℕ → Row_of-Shape n → List Occurrence
  row_occurrences g leaves is_left list sequence sorts i end_of-Shape = []
  row_occurrences g leaves is_left list sequence sorts i (more_of-Shape shape shapes) =
      occurrences g leaves is_left (place_sort list sorts i) (takes_sequence sequence (place_sort list sorts i) (is_end shapes)) shape
      ++ row_occurrences g leaves is_left list sequence sorts (i + 1) shapes

unfoldable pub all_occurrences : Productions → List Leaf → Bool → Bool → Bool → List ℕ → ℕ → List Shape → List Occurrence
all_occurrences g leaves is_left list sequence sorts i [] = []
all_occurrences g leaves is_left list sequence sorts i (shape ∷ shapes) =
    occurrences g leaves is_left (place_sort list sorts i) (takes_sequence sequence (place_sort list sorts i) (is_last shapes)) shape
    ++ all_occurrences g leaves is_left list sequence sorts (i + 1) shapes

-- ---- patterns

-- the number of the variable that begins at a token, and the sort of the variable of a number
abbrev pub number_of : List Occurrence → ℕ → ℕ
number_of vars home = unwrap_or (position_from (λ (v : Occurrence). v.home == home) 0 vars) 0

abbrev pub sort_of_number : List Occurrence → ℕ → Option ℕ
sort_of_number vars x = option_map (λ (v : Occurrence). v.sort) (slice_get vars x)

-- the builtin operators, in the order of their productions
abbrev pub operators : List Op
operators =
    MulInt ∷ DivInt ∷ ModInt ∷ AddInt ∷ SubInt ∷ JoinString ∷ LtInt ∷ LeInt ∷ GtInt ∷ GeInt ∷ EqInt ∷ NeInt ∷ EqK ∷ NeK
    ∷ InKeys ∷ Not ∷ And ∷ Or ∷ SetKey ∷ GetKey ∷ SizeMap ∷ SizeList ∷ LengthString ∷ IntToString ∷ []

-- the operator of a production: those behind the declared productions are builtin
abbrev pub operator_of : ℕ → ℕ → Option Op
operator_of declared p = cond (nat_lt declared p) (slice_get operators (p - declared - 1)) None

abbrev pub built_by : Option Op → ℕ → List Pattern → Pattern
built_by None p parts = Node p parts
built_by (Some op) p parts = Apply op parts

-- a production, or an operator, of its arguments
abbrev pub built : Productions → ℕ → List Pattern → Pattern
built g p parts = built_by (operator_of g.declared p) p parts

-- the variable that a leaf is
abbrev pub pattern_by : List Occurrence → LeafKind → Pattern
pattern_by vars (Variable home sort) = Var (number_of vars home)
pattern_by vars (Literal value) = Lit value
pattern_by vars Other = Seq [] None

abbrev pub pattern_at : List Occurrence → Option Leaf → Pattern
pattern_at vars None = Seq [] None
pattern_at vars (Some leaf) = pattern_by vars leaf.kind

abbrev pub leaf_pattern : List Occurrence → List Leaf → ℕ → Pattern
leaf_pattern vars leaves at = pattern_at vars (slice_get leaves at)

abbrev pub leaf_number : List Occurrence → LeafKind → Option ℕ
leaf_number vars (Variable home sort) = Some (number_of vars home)
leaf_number vars (Literal value) = None
leaf_number vars Other = None

-- the variable at a place, by its number
abbrev pub variable_at : List Occurrence → List Leaf → ℕ → Option ℕ
variable_at vars leaves at = option_and_then (λ (leaf : Leaf). leaf_number vars leaf.kind) (slice_get leaves at)

abbrev pub rest_number : List Occurrence → List Leaf → Option ℕ → Option ℕ
rest_number vars leaves None = None
rest_number vars leaves (Some at) = variable_at vars leaves at

abbrev pub is_of_sort_k : List Occurrence → ℕ → Bool
is_of_sort_k vars x = option_map_or (λ sort. sort == sort_k) (sort_of_number vars x) false

-- the number of a variable of sort K
abbrev pub tail_of : List Occurrence → Pattern → Option ℕ
tail_of vars (Var x) = cond (is_of_sort_k vars x) (Some x) None
tail_of vars (Lit v) = None
tail_of vars (NodeP' p _ parts) = None
tail_of vars (ItemsP' p _ parts rest) = None
tail_of vars (SeqP' _ parts rest) = None
tail_of vars (FreezerP' p i _ parts) = None
tail_of vars (ApplyP' op _ parts) = None

-- parts of a sequence: where the last is a variable of sort K, it is the rest
abbrev pub last_rest : List Occurrence → List Pattern → Option ℕ
last_rest vars parts = option_and_then (tail_of vars) (slice_get parts (length parts - 1))

abbrev pub before_rest : Option ℕ → List Pattern → List Pattern
before_rest None parts = parts
before_rest (Some x) parts = take (length parts - 1) parts

abbrev pub front_parts : List Occurrence → List Pattern → List Pattern
front_parts vars parts = before_rest (last_rest vars parts) parts

abbrev pub sequence_of : List Occurrence → List Pattern → Pattern
sequence_of vars parts = Seq (front_parts vars parts) (last_rest vars parts)

-- A sequence and a variable of sort K are whole sequences; of any other term there is the sequence of it.
abbrev pub is_whole : List Occurrence → Pattern → Bool
is_whole vars (Var x) = is_of_sort_k vars x
is_whole vars (Lit v) = false
is_whole vars (NodeP' p _ parts) = false
is_whole vars (ItemsP' p _ parts rest) = false
is_whole vars (SeqP' _ parts rest) = true
is_whole vars (FreezerP' p i _ parts) = false
is_whole vars (ApplyP' op _ parts) = false

abbrev pub as_sequence : List Occurrence → Pattern → Pattern
as_sequence vars part = cond (is_whole vars part) part (Seq (part ∷ []) None)

-- a term at a place of a sort
abbrev pub at_place : List Occurrence → ℕ → Pattern → Pattern
at_place vars sort part = cond (sort == sort_k) (as_sequence vars part) part

abbrev pub items_of : List Occurrence → ℕ → List Pattern → Option ℕ → Pattern
items_of vars p parts rest = cond (is_sequence p) (sequence_of vars parts) (Items p parts rest)

-- The pattern of a term at a place of a sort. `vars` are the variables of the rule.
unfoldable mutual
  pub pattern_of : Productions → List Leaf → List Occurrence → ℕ → Shape → Pattern
  pattern_of g leaves vars sort (LeafShape at) = at_place vars sort (leaf_pattern vars leaves at)
  pattern_of g leaves vars sort (NodeS' p _ shapes) =
      at_place vars sort (built g p (row_patterns g leaves vars false (sorts_of g p) 0 shapes))
  pattern_of g leaves vars sort (ItemsS' p _ shapes rest) =
      at_place vars sort (items_of vars p (row_patterns g leaves vars true (sorts_of g p) 0 shapes) (rest_number vars leaves rest))

  -- those of the children, from the one of a number on
  pub row_patterns : {n : _} → Productions → List Leaf → List Occurrence → Bool → List ℕ → ℕ → Row_of-Shape n → List Pattern
  row_patterns g leaves vars list sorts i end_of-Shape = []
  row_patterns g leaves vars list sorts i (more_of-Shape shape shapes) =
      pattern_of g leaves vars (place_sort list sorts i) shape ∷ row_patterns g leaves vars list sorts (i + 1) shapes

unfoldable pub all_patterns : Productions → List Leaf → List Occurrence → Bool → List ℕ → ℕ → List Shape → List Pattern
all_patterns g leaves vars list sorts i [] = []
all_patterns g leaves vars list sorts i (shape ∷ shapes) =
    pattern_of g leaves vars (place_sort list sorts i) shape ∷ all_patterns g leaves vars list sorts (i + 1) shapes
