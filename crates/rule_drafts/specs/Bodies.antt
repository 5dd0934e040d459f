-- What a cell contains on a side, and where its form is none that a rule has.
use Rattle.std.specs.Prelude.{ℕ, ◌+◌, ◌-◌, ◌&&◌, ◌||◌, not, nat_lt, Bool, true, false, cond, List, [], ◌∷◌, ◌++◌, length, take, drop, Option, Some, None, is_some}
use Rattle.std.specs.List.{flat_map}
use Rattle.k_terms.specs.Sorts.{sort_kitem, sort_map, sort_list}
use Rattle.grammar_terms.specs.declared.shape.Shape.{Shape}
use Rattle.rule_terms.specs.declared.defs.Kind.{Kind}
use Rattle.rule_terms.specs.declared.defs.Kind.TheVariants.{Cells as CellsKind, Seq as SeqKind, Map as MapKind, List as ListKind, One as OneKind}
use Rattle.rule_terms.specs.declared.pattern.Pattern.{Pattern, Var, Lit, Seq, Node' as NodeP', Items' as ItemsP', Seq' as SeqP', Freezer' as FreezerP', Apply' as ApplyP'}
use Rattle.rule_terms.specs.declared.pattern.Body.{Body, Cells as CellsBody, Cells' as CellsBody', Seq as SeqBody, Map as MapBody, List as ListBody, One as OneBody, Made as MadeBody}
use Rattle.rule_parts.specs.declared.argument_sorts.Productions.{Productions}
use Rattle.rule_parts.specs.declared.leaves.Leaf.{Leaf}
use Rattle.rule_parts.specs.declared.terms.Occurrence.{Occurrence}
use Rattle.rule_parts.specs.declared.parts.What.{What}
use Rattle.rule_parts.specs.declared.parts.What.TheVariants.{Item, Tail, Entry, Rest, Made, Inner, Whole}
use Rattle.rule_parts.specs.declared.parts.Part.{Part}
use Rattle.rule_parts.specs.Terms.{number_of, last_rest, front_parts}
use Rattle.rule_parts.specs.Sides.{token_at, as_list, of_side, what_sequence, what_tokens, what_items, what_entries, what_rests, what_made, what_wholes, items_before}
use Rattle.rule_drafts.specs.declared.reading.Tag.{Tag}

-- ---- the rest of `...`

-- The rest that `...` stands for is told by the opening tag.
abbrev pub dots_occurrence : Tag → ℕ → Bool → List Occurrence
dots_occurrence tag sort left = record { at = tag.start; home = tag.start; sort = sort; is_left = left; is_stray = false } ∷ []

-- it stands before what the cell contains, or else behind it
abbrev pub dots_before : Tag → ℕ → Bool → List Occurrence
dots_before tag sort left = cond tag.left_dots (dots_occurrence tag sort left) []

abbrev pub dots_behind : Tag → ℕ → Bool → List Occurrence
dots_behind tag sort left = cond (tag.right_dots && not tag.left_dots) (dots_occurrence tag sort left) []

abbrev pub dots_number : List Occurrence → Tag → Option ℕ
dots_number vars tag = cond (tag.left_dots || tag.right_dots) (Some (number_of vars tag.start)) None

-- ---- bodies

abbrev pub seq_by : List Occurrence → Option ℕ → List Pattern → Body
seq_by vars None parts = SeqBody (front_parts vars parts) (last_rest vars parts)
seq_by vars (Some x) parts = SeqBody parts (Some x)

abbrev pub first_of : {A : Type 0} → List A → Option A
first_of [] = None
first_of (x ∷ xs) = Some x

-- the rest is that of `...`, or else the first one that is written
abbrev pub rest_by : Option ℕ → List ℕ → Option ℕ
rest_by None rests = first_of rests
rest_by (Some x) rests = Some x

-- a whole map or list by an expression: a variable is the rest alone
abbrev pub variable_in : Pattern → Option ℕ
variable_in (Var x) = Some x
variable_in (Lit v) = None
variable_in (NodeP' p _ parts) = None
variable_in (ItemsP' p _ parts rest) = None
variable_in (SeqP' _ parts rest) = None
variable_in (FreezerP' p i _ parts) = None
variable_in (ApplyP' op _ parts) = None

abbrev pub made_map : Pattern → Body
made_map part = elim (variable_in part) [ Some x ↦ MapBody [] (Some x) | None ↦ MadeBody part ]

abbrev pub made_list : Pattern → Body
made_list part = elim (variable_in part) [ Some x ↦ ListBody [] (Some x) [] | None ↦ MadeBody part ]

abbrev pub map_by : List Pattern → List (Pattern × Pattern) → Option ℕ → Body
map_by [] entries rest = MapBody entries rest
map_by (part ∷ parts) entries rest = made_map part

-- so many items stand before the rest
abbrev pub list_by : List Pattern → List Pattern → Option ℕ → ℕ → Body
list_by [] items None place = ListBody items None []
list_by [] items (Some x) place = ListBody (take place items) (Some x) (drop place items)
list_by (part ∷ parts) items rest place = made_list part

abbrev pub rest_place : Tag → ℕ → ℕ → ℕ
rest_place tag place all = cond tag.left_dots 0 (cond tag.right_dots all place)

abbrev pub one_by : List Pattern → Body
one_by [] = OneBody (Seq [] None)
one_by (part ∷ parts) = OneBody part

module _ (g : Productions) (leaves : List Leaf) (vars : List Occurrence) (tag : Tag) (left : Bool) (parts : List (Part Shape)) where
  abbrev pub seq_body : Body
  seq_body = seq_by vars (dots_number vars tag) (of_side left (what_sequence g leaves vars) parts)

  abbrev pub map_body : Body
  map_body = map_by (of_side left (what_made g leaves vars sort_map) parts) (of_side left (what_entries g leaves vars) parts)
      (rest_by (dots_number vars tag) (of_side left (what_rests leaves vars) parts))

  abbrev pub list_items : List Pattern
  list_items = of_side left (what_items g leaves vars sort_kitem) parts

  abbrev pub list_body : Body
  list_body = list_by (of_side left (what_made g leaves vars sort_list) parts) list_items
      (rest_by (dots_number vars tag) (of_side left (what_rests leaves vars) parts))
      (rest_place tag (items_before left parts) (length list_items))

  -- The body of a cell of a kind, by the parts of its content, on a side.
  abbrev pub body_of : Kind → Body
  body_of CellsKind = CellsBody [] None
  body_of SeqKind = seq_body
  body_of MapKind = map_body
  body_of ListKind = list_body
  body_of (OneKind sort) = one_by (of_side left (what_items g leaves vars sort) parts)

-- ---- forms that no rule has

-- all but the last
abbrev pub but_last : {A : Type 0} → List A → List A
but_last xs = take (length xs - 1) xs

-- a variable of sort K before the last part of a sequence
abbrev pub stray_tails : List Leaf → Bool → List (Part Shape) → List ℕ
stray_tails leaves left parts = flat_map as_list (but_last (of_side left (what_tokens leaves) parts))

-- how many rests a map or a list has beside `...`; an expression stands for the whole
abbrev pub written_rests : Bool → List (Part Shape) → ℕ
written_rests left parts = length (of_side left what_wholes parts)

-- the `...` of a map are one rest, those of a list are one each
abbrev pub one_if : Bool → ℕ
one_if b = cond b 1 0

-- a sequence whose last part is a variable of sort K
abbrev pub ends_by_tail : List Occurrence → Body → Bool
ends_by_tail vars (SeqBody parts rest) = is_some (last_rest vars parts)
ends_by_tail vars (CellsBody' _ cells rest) = false
ends_by_tail vars (MapBody entries rest) = false
ends_by_tail vars (ListBody before rest after) = false
ends_by_tail vars (OneBody part) = false
ends_by_tail vars (MadeBody part) = false

abbrev pub is_filled : {A : Type 0} → List A → Bool
is_filled [] = false
is_filled (x ∷ xs) = true

-- a list that has items on both sides of its rest
abbrev pub is_between : Body → Bool
is_between (ListBody before rest after) = is_some rest && is_filled before && is_filled after
is_between (SeqBody parts rest) = false
is_between (CellsBody' _ cells rest) = false
is_between (MapBody entries rest) = false
is_between (OneBody part) = false
is_between (MadeBody part) = false

-- a cell of a kind with so many written rests has no form of a rule
abbrev pub is_bad_form : List Occurrence → Tag → ℕ → Kind → Body → Bool
is_bad_form vars tag rests CellsKind body = false
is_bad_form vars tag rests SeqKind body = tag.left_dots || (tag.right_dots && ends_by_tail vars body)
is_bad_form vars tag rests MapKind body = nat_lt 1 (one_if (tag.left_dots || tag.right_dots) + rests)
is_bad_form vars tag rests ListKind body = nat_lt 1 (one_if tag.left_dots + one_if tag.right_dots + rests) || is_between body
is_bad_form vars tag rests (OneKind sort) body = tag.left_dots || tag.right_dots

-- The first tokens of what has no form of a rule on a side. The content's first token is `first`, and `operator` that of
-- the first term of an operator on the left side.
abbrev pub form_faults : Bool → ℕ → Option ℕ → Bool → List ℕ
form_faults left first operator bad = cond bad (first ∷ []) [] ++ cond left (as_list operator) []

abbrev pub side_faults : Productions → List Leaf → List Occurrence → Tag → Bool → List (Part Shape) → Kind → ℕ → Option ℕ → List ℕ
side_faults g leaves vars tag left parts kind first operator =
    stray_tails leaves left parts
    ++ form_faults left first operator (is_bad_form vars tag (written_rests left parts) kind (body_of g leaves vars tag left parts kind))

-- a change that stands within another: one in parentheses begins with its own, that of the whole content with the content
abbrev pub what_nested : List Leaf → ℕ → What Shape → List ℕ
what_nested leaves first (Item shape) = []
what_nested leaves first (Tail at) = []
what_nested leaves first (Entry key value) = []
what_nested leaves first (Rest at) = []
what_nested leaves first (Made shape) = []
what_nested leaves first (Inner at) = token_at leaves at ∷ []
what_nested leaves first Whole = first ∷ []

abbrev pub nested_faults : List Leaf → ℕ → List (Part Shape) → List ℕ
nested_faults leaves first parts = flat_map (λ (part : Part Shape). what_nested leaves first part.what) parts
