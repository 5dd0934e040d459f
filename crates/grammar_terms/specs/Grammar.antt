-- Grammars: sorts by their names, and productions.
use Rattle.std.specs.Prelude.{ℕ, ◌-◌, ◌==◌, ◌&&◌, not, Bool, true, false, cond, List, [], ◌∷◌, map, take, codes, Option, Some, None, slice_get, unwrap_or}
use Rattle.std.specs.Str.{bytes_eq}
use Rattle.std.specs.List.{flat_map, position_from}
use Rattle.k_terms.specs.Sorts.{SortOrder}
use Rattle.production_reader.specs.declared.prod.Attrs.{Attrs}
use Rattle.production_reader.specs.declared.prod.Form.{Form}
use Rattle.production_reader.specs.declared.prod.Form.TheVariants.{Plain, Prefix, UserList}
use Rattle.production_reader.specs.declared.prod.Strict.{Strict}
use Rattle.production_reader.specs.declared.prod.Strict.TheVariants.{No, All as AllPlaces, Places}
use Rattle.grammar_terms.specs.declared.production.Part.{Part}
use Rattle.grammar_terms.specs.declared.production.Part.TheVariants.{Terminal, Sort}
use Rattle.grammar_terms.specs.declared.production.Production.{Production}

-- A grammar: the names of its sorts by their numbers, its productions, production 1 first, and how many of these are
-- declared; the others are builtin.
pub record Syntax : Type 0 where
  pub names : List (List ℕ)
  pub prods : List Production
  pub declared : ℕ

-- the production of a number, where there is one
abbrev pub production_at : List Production → ℕ → Option Production
production_at prods p = cond (p == 0) None (slice_get prods (p - 1))

-- the number of the sort of a name, and the name of a number
abbrev pub sort_number : List (List ℕ) → List ℕ → Option ℕ
sort_number names name = position_from (λ other. bytes_eq other name) 0 names

abbrev pub sort_name : List (List ℕ) → ℕ → List ℕ
sort_name names sort = unwrap_or (slice_get names sort) []

abbrev pub is_not_strict : Strict → Bool
is_not_strict No = true
is_not_strict AllPlaces = false
is_not_strict (Places places) = false

abbrev pub has_no_attribute : Attrs → Bool
has_no_attribute attrs =
    not attrs.left && not attrs.right && not attrs.non_assoc && not attrs.bracket && is_not_strict attrs.strict && not attrs.seqstrict

abbrev pub is_list : Form → Bool
is_list (UserList separator) = true
is_list (Prefix word) = false
is_list Plain = false

-- the sort of an item that stands alone
abbrev pub lone_sort : List Part → Option ℕ
lone_sort (Sort sort ∷ []) = Some sort
lone_sort _ = None

-- A production of one sort item without attributes that is no list production is a subsort step: the sort of its item is
-- below its own.
abbrev pub step_from : Production → Option ℕ
step_from production = cond (has_no_attribute production.attrs && not (is_list production.form)) (lone_sort production.items) None

abbrev pub step_of : Production → List (ℕ × ℕ)
step_of production = elim (step_from production) [ None ↦ [] | Some low ↦ (low, production.sort) ∷ [] ]

abbrev pub steps_of : List Production → List (ℕ × ℕ)
steps_of prods = flat_map step_of prods

-- the order of sorts that productions make
abbrev pub order_by : List Production → SortOrder
order_by prods = record { steps = steps_of prods; productions = map (λ production. production.sort) prods }

-- the order of the grammar's sorts is that of its declared productions
abbrev pub order_of : Syntax → SortOrder
order_of g = order_by (take g.declared g.prods)

-- the terminals of items in order, with `_` for each sort
abbrev pub item_label : Part → List ℕ
item_label (Terminal text) = text
item_label (Sort sort) = codes "_"

abbrev pub label_by : List Part → List ℕ
label_by items = flat_map item_label items

-- The label of a production: its items; the word of a prefix production; the sort of a list production.
abbrev pub label_of : List (List ℕ) → Production → List ℕ
label_of names production =
    elim production.form [ Plain ↦ label_by production.items | Prefix word ↦ word | UserList separator ↦ sort_name names production.sort ]
