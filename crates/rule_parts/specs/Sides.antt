-- What the parts of a content are on a side, and the variables that stand in them.
use Rattle.std.specs.Prelude.{ℕ, ◌+◌, ◌==◌, ◌&&◌, Bool, true, false, cond, List, [], ◌∷◌, ◌++◌, Option, Some, None, slice_get}
use Rattle.std.specs.Option.{option_map_or}
use Rattle.std.specs.List.{flat_map}
use Rattle.k_terms.specs.Sorts.{sort_k, sort_kitem, sort_map, sort_list, sort_bag}
use Rattle.grammar_terms.specs.declared.shape.Shape.{Shape}
use Rattle.rule_terms.specs.declared.defs.Kind.{Kind}
use Rattle.rule_terms.specs.declared.defs.Kind.TheVariants.{Cells as CellsKind, Seq as SeqKind, Map as MapKind, List as ListKind, One as OneKind}
use Rattle.rule_terms.specs.declared.pattern.Pattern.{Pattern, Var, Lit, Node' as NodeP', Items' as ItemsP', Seq' as SeqP', Freezer' as FreezerP', Apply' as ApplyP', items-the_row-Pattern}
use Rattle.rule_parts.specs.declared.argument_sorts.Productions.{Productions}
use Rattle.rule_parts.specs.declared.leaves.Leaf.{Leaf}
use Rattle.rule_parts.specs.declared.terms.Occurrence.{Occurrence}
use Rattle.rule_parts.specs.declared.parts.Side.{Side}
use Rattle.rule_parts.specs.declared.parts.Side.TheVariants.{Both, Left, Right}
use Rattle.rule_parts.specs.declared.parts.What.{What}
use Rattle.rule_parts.specs.declared.parts.What.TheVariants.{Item, Tail, Entry, Rest, Made, Inner, Whole}
use Rattle.rule_parts.specs.declared.parts.Part.{Part}
use Rattle.rule_parts.specs.Terms.{occurrences, leaf_occurrence, pattern_of, variable_at}

-- ---- sides and sorts

abbrev pub is_left : Side → Bool
is_left Both = true
is_left Left = true
is_left Right = false

abbrev pub is_right : Side → Bool
is_right Both = true
is_right Left = false
is_right Right = true

-- what is on a side stands on the left side, or on the right
abbrev pub stands : Bool → Side → Bool
stands left side = cond left (is_left side) (is_right side)

-- the sort of an item of a content, and of a whole one
abbrev pub item_sort : Kind → ℕ
item_sort (OneKind sort) = sort
item_sort CellsKind = sort_kitem
item_sort SeqKind = sort_kitem
item_sort MapKind = sort_kitem
item_sort ListKind = sort_kitem

abbrev pub whole_sort : Kind → ℕ
whole_sort CellsKind = sort_bag
whole_sort SeqKind = sort_k
whole_sort MapKind = sort_map
whole_sort ListKind = sort_list
whole_sort (OneKind sort) = sort

-- ---- variables

-- the variables of a part, in the order of the text
abbrev pub what_occurrences : Productions → List Leaf → Kind → Bool → What Shape → List Occurrence
what_occurrences g leaves kind left (Item shape) = occurrences g leaves left (item_sort kind) (item_sort kind == sort_k) shape
what_occurrences g leaves kind left (Tail at) = leaf_occurrence leaves left sort_k true at
what_occurrences g leaves kind left (Entry key value) = occurrences g leaves left sort_kitem false key ++ occurrences g leaves left sort_kitem false value
what_occurrences g leaves kind left (Rest at) = leaf_occurrence leaves left (whole_sort kind) true at
what_occurrences g leaves kind left (Made shape) = occurrences g leaves left (whole_sort kind) true shape
what_occurrences g leaves kind left (Inner at) = []
what_occurrences g leaves kind left Whole = []

abbrev pub part_occurrences : Productions → List Leaf → Kind → Part Shape → List Occurrence
part_occurrences g leaves kind part = what_occurrences g leaves kind (is_left part.side) part.what

-- ---- what stands on a side

-- the number of the token of a leaf
abbrev pub token_at : List Leaf → ℕ → ℕ
token_at leaves at = option_map_or (λ (leaf : Leaf). leaf.at) (slice_get leaves at) at

abbrev pub as_list : {A : Type 0} → Option A → List A
as_list None = []
as_list (Some x) = x ∷ []

abbrev pub variables_of : Option ℕ → List Pattern
variables_of None = []
variables_of (Some x) = Var x ∷ []

-- the parts of a whole sequence, with its rest as the last
abbrev pub sequence_parts : Pattern → List Pattern
sequence_parts (Var x) = Var x ∷ []
sequence_parts (Lit v) = Lit v ∷ []
sequence_parts (NodeP' p s parts) = NodeP' p s parts ∷ []
sequence_parts (ItemsP' p s parts rest) = ItemsP' p s parts rest ∷ []
sequence_parts (SeqP' _ parts rest) = items-the_row-Pattern _ parts ++ variables_of rest
sequence_parts (FreezerP' p i s parts) = FreezerP' p i s parts ∷ []
sequence_parts (ApplyP' op s parts) = ApplyP' op s parts ∷ []

-- the parts of a sequence, a variable of sort K among them
abbrev pub what_sequence : Productions → List Leaf → List Occurrence → What Shape → List Pattern
what_sequence g leaves vars (Item shape) = pattern_of g leaves vars sort_kitem shape ∷ []
what_sequence g leaves vars (Tail at) = variables_of (variable_at vars leaves at)
what_sequence g leaves vars (Entry key value) = []
what_sequence g leaves vars (Rest at) = []
what_sequence g leaves vars (Made shape) = sequence_parts (pattern_of g leaves vars sort_k shape)
what_sequence g leaves vars (Inner at) = []
what_sequence g leaves vars Whole = []

-- for each of them the token, where it is such a variable
abbrev pub what_tokens : List Leaf → What Shape → List (Option ℕ)
what_tokens leaves (Item shape) = None ∷ []
what_tokens leaves (Tail at) = Some (token_at leaves at) ∷ []
what_tokens leaves (Entry key value) = []
what_tokens leaves (Rest at) = []
what_tokens leaves (Made shape) = None ∷ []
what_tokens leaves (Inner at) = []
what_tokens leaves Whole = []

-- the items of a list, or the one value
abbrev pub what_items : Productions → List Leaf → List Occurrence → ℕ → What Shape → List Pattern
what_items g leaves vars sort (Item shape) = pattern_of g leaves vars sort shape ∷ []
what_items g leaves vars sort (Tail at) = []
what_items g leaves vars sort (Entry key value) = []
what_items g leaves vars sort (Rest at) = []
what_items g leaves vars sort (Made shape) = []
what_items g leaves vars sort (Inner at) = []
what_items g leaves vars sort Whole = []

-- the entries of a map
abbrev pub what_entries : Productions → List Leaf → List Occurrence → What Shape → List (Pattern × Pattern)
what_entries g leaves vars (Item shape) = []
what_entries g leaves vars (Tail at) = []
what_entries g leaves vars (Entry key value) = (pattern_of g leaves vars sort_kitem key, pattern_of g leaves vars sort_kitem value) ∷ []
what_entries g leaves vars (Rest at) = []
what_entries g leaves vars (Made shape) = []
what_entries g leaves vars (Inner at) = []
what_entries g leaves vars Whole = []

-- the rests of a map or a list
abbrev pub what_rests : List Leaf → List Occurrence → What Shape → List ℕ
what_rests leaves vars (Item shape) = []
what_rests leaves vars (Tail at) = []
what_rests leaves vars (Entry key value) = []
what_rests leaves vars (Rest at) = as_list (variable_at vars leaves at)
what_rests leaves vars (Made shape) = []
what_rests leaves vars (Inner at) = []
what_rests leaves vars Whole = []

-- the expressions of a whole map or list
abbrev pub what_made : Productions → List Leaf → List Occurrence → ℕ → What Shape → List Pattern
what_made g leaves vars sort (Item shape) = []
what_made g leaves vars sort (Tail at) = []
what_made g leaves vars sort (Entry key value) = []
what_made g leaves vars sort (Rest at) = []
what_made g leaves vars sort (Made shape) = pattern_of g leaves vars sort shape ∷ []
what_made g leaves vars sort (Inner at) = []
what_made g leaves vars sort Whole = []

-- a part that stands for a rest, or for the whole
abbrev pub what_wholes : What Shape → List Bool
what_wholes (Item shape) = []
what_wholes (Tail at) = []
what_wholes (Entry key value) = []
what_wholes (Rest at) = true ∷ []
what_wholes (Made shape) = true ∷ []
what_wholes (Inner at) = []
what_wholes Whole = []

-- what a function makes of the parts that stand on a side
abbrev pub on_side : {A : Type 0} → Bool → (What Shape → List A) → Part Shape → List A
on_side left f part = cond (stands left part.side) (f part.what) []

abbrev pub of_side : {A : Type 0} → Bool → (What Shape → List A) → List (Part Shape) → List A
of_side left f parts = flat_map (on_side left f) parts

-- how many items stand before the first rest
abbrev pub is_rest : What Shape → Bool
is_rest (Item shape) = false
is_rest (Tail at) = false
is_rest (Entry key value) = false
is_rest (Rest at) = true
is_rest (Made shape) = false
is_rest (Inner at) = false
is_rest Whole = false

abbrev pub is_item : What Shape → Bool
is_item (Item shape) = true
is_item (Tail at) = false
is_item (Entry key value) = false
is_item (Rest at) = false
is_item (Made shape) = false
is_item (Inner at) = false
is_item Whole = false

abbrev pub items_before : Bool → List (Part Shape) → ℕ
items_before left [] = 0
items_before left (part ∷ parts) =
    cond (stands left part.side && is_rest part.what) 0 (cond (stands left part.side && is_item part.what) 1 0 + items_before left parts)
