-- The items of productions, as they are read.
use Rattle.std.specs.Prelude.{◌≡◌, ℕ, true, List, [], ◌∷◌, ◌++◌, map}
use Rattle.std.specs.List.{AllByRecursion}
use Rattle.production_reader.specs.Lexemes.{Sign, mark, word, quoted}
use Rattle.production_reader.specs.Written.{Attribute, Part, separated, one_word, sign_of_part, signs_of_parts, signs_of_attributes}
use Rattle.production_reader.specs.Written.Production.{Prefix, UserList}
use Rattle.production_reader.specs.Allowed.{IsPart, IsAttribute, IsSeparator, is_item_sort, may_bracket, text_of_string}
use Rattle.production_reader.specs.Meaning.{item_of, attrs_of, argument_items, prod_of}
use Rattle.production_reader.specs.Chains.{Several}
use Rattle.production_reader.specs.declared.prod.Item.{Item}
use Rattle.production_reader.specs.declared.prod.Item.TheVariants as item
use Rattle.production_reader.specs.declared.prod.Form.TheVariants as form
use Rattle.production_reader.specs.declared.prod.Prod.{Prod}

abbrev pub one_part : Part → List Sign
one_part part = sign_of_part part ∷ []

abbrev pub sorts_of_items : List Item → List (List ℕ)
sorts_of_items [] = []
sorts_of_items (item.Sort sort ∷ items) = sort ∷ sorts_of_items items
sorts_of_items (item.Terminal text ∷ items) = sorts_of_items items

-- the items of these parts behind others
abbrev pub items_after : List Item → List Part → List Item
items_after before parts = before ++ map item_of parts

-- what follows the first item of a production
abbrev pub IsRest : Item → List Part × List Attribute → Type 0
IsRest first p = AllByRecursion IsPart p.0 × AllByRecursion (IsAttribute (may_bracket (sorts_of_items (first ∷ map item_of p.0)))) p.1

abbrev pub signs_of_rest : List Part × List Attribute → List Sign
signs_of_rest p = signs_of_parts p.0 ++ signs_of_attributes p.1

abbrev pub prod_of_rest : Item → List Part × List Attribute → Prod
prod_of_rest first p = record { items = first ∷ map item_of p.0; attrs = attrs_of p.1; form = form.Plain }

abbrev pub IsItemSort : List ℕ → Type 0
IsItemSort sort = is_item_sort sort ≡ true

abbrev pub AreSorts : List (List ℕ) → Type 0
AreSorts = Several (λ (s : ℕ) sort. IsItemSort sort) (λ s sort. s) 0

abbrev pub signs_of_sorts : List (List ℕ) → List Sign
signs_of_sorts = separated 44 one_word

-- sorts, or none, and the parenthesis behind them
abbrev pub signs_of_arguments : List (List ℕ) → List Sign
signs_of_arguments sorts = signs_of_sorts sorts ++ mark 41 ∷ []

abbrev pub arguments_after : List Item → List (List ℕ) → List Item
arguments_after before sorts = before ++ argument_items sorts

-- what follows the word and the parenthesis of a prefix production
abbrev pub IsCall : List (List ℕ) × List Attribute → Type 0
IsCall p = AllByRecursion IsItemSort p.0 × AllByRecursion (IsAttribute (may_bracket p.0)) p.1

abbrev pub signs_of_call : List (List ℕ) × List Attribute → List Sign
signs_of_call p = signs_of_arguments p.0 ++ signs_of_attributes p.1

abbrev pub prod_of_call : List ℕ → List (List ℕ) × List Attribute → Prod
prod_of_call name p = prod_of (Prefix name p.0 p.1)

-- what follows `List` and the brace of a list production
abbrev pub IsList : List ℕ × List ℕ → Type 0
IsList p = IsItemSort p.0 × IsSeparator (text_of_string p.1)

abbrev pub signs_of_user_list : List ℕ × List ℕ → List Sign
signs_of_user_list p = word p.0 ∷ mark 44 ∷ quoted p.1 ∷ mark 125 ∷ []

abbrev pub prod_of_list : List ℕ × List ℕ → Prod
prod_of_list p = prod_of (UserList p.0 p.1)
