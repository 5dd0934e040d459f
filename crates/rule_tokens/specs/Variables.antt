-- The named variables of a rule, and the sorts that are written of them.
use Rattle.std.specs.Prelude.{◌≡◌, ℕ, ◌==◌, not, Bool, if◌then◌else◌, List, [], ◌∷◌, ◌++◌, map, Option, Some, None, is_some, option_map}
use Rattle.std.specs.List.{find, list_any, flat_map}
use Rattle.k_terms.specs.declared.value.Symbol.{Symbol}
use Rattle.rule_tokens.specs.declared.token.RuleKind.{RuleKind}
use Rattle.rule_tokens.specs.declared.token.RuleKind.TheVariants.{Open, Close, Rewrite, Then, MapsTo, Dots, Dot, ListItem, Terminal, Literal, Variable}
use Rattle.rule_tokens.specs.declared.token.RuleToken.{RuleToken}
use Rattle.rule_tokens.specs.declared.sorts.Named.{Named}
use Rattle.rule_tokens.specs.declared.sorts.VariableFault.{VariableFault}
use Rattle.rule_tokens.specs.declared.sorts.VariableFault.TheVariants.{Unsorted, SortClash, Memory}

-- an occurrence of a named variable: the number of its symbol, and the sort where one is written
abbrev pub Occurrence : Type 0
Occurrence = ℕ × Option ℕ

abbrev pub named_in : Option Symbol → Option ℕ → List Occurrence
named_in None sort = []
named_in (Some name) sort = (name.0, sort) ∷ []

abbrev pub occurrence_in : RuleKind → List Occurrence
occurrence_in (Variable name sort) = named_in name sort
occurrence_in (Open cell) = []
occurrence_in (Close cell) = []
occurrence_in Rewrite = []
occurrence_in Then = []
occurrence_in MapsTo = []
occurrence_in Dots = []
occurrence_in (Dot sort) = []
occurrence_in ListItem = []
occurrence_in (Terminal text) = []
occurrence_in (Literal value) = []

abbrev pub occurrence_of : RuleToken → List Occurrence
occurrence_of token = occurrence_in token.kind

-- the occurrences of named variables, in the order of the text
abbrev pub occurrences : List RuleToken → List Occurrence
occurrences tokens = flat_map occurrence_of tokens

abbrev pub names_of : List Occurrence → List ℕ
names_of occurrences = map (λ occurrence. occurrence.0) occurrences

-- the sorts that are written of a variable, in the order of the text
abbrev pub sort_in : Option ℕ → List ℕ
sort_in None = []
sort_in (Some sort) = sort ∷ []

abbrev pub written : ℕ → List Occurrence → List ℕ
written name [] = []
written name (occurrence ∷ occurrences) = if name == occurrence.0 then sort_in occurrence.1 ++ written name occurrences else written name occurrences

-- the first of them, and the first that is another
abbrev pub first_of : List ℕ → Option ℕ
first_of [] = None
first_of (sort ∷ sorts) = Some sort

abbrev pub other_of : List ℕ → Option ℕ
other_of [] = None
other_of (sort ∷ sorts) = find (λ other. not (other == sort)) sorts

-- numbers, each once, at its first place, behind others that were there
abbrev pub with_number : List ℕ → ℕ → List ℕ
with_number numbers number = if list_any (λ other. number == other) numbers then numbers else numbers ++ number ∷ []

abbrev pub with_numbers : List ℕ → List ℕ → List ℕ
with_numbers numbers [] = numbers
with_numbers numbers (number ∷ more) = with_numbers (with_number numbers number) more

-- what is written of a named variable
abbrev pub variable_of : List Occurrence → ℕ → Named
variable_of occurrences name = record { name = record { 0 = name }; first = first_of (written name occurrences); other = other_of (written name occurrences) }

-- The named variables in the order of their first occurrences, each with the first sort that is written of it and the first
-- other one.
abbrev pub variables_by : List Occurrence → List Named
variables_by occurrences = map (variable_of occurrences) (with_numbers [] (names_of occurrences))

abbrev pub variables : List RuleToken → List Named
variables tokens = variables_by (occurrences tokens)

abbrev pub is_unsorted : Named → Bool
is_unsorted variable = not (is_some variable.first)

-- two different sorts that are written of one variable
abbrev pub sorts_apart : Option ℕ → Option ℕ → Option (ℕ × ℕ)
sorts_apart (Some first) (Some other) = Some (first, other)
sorts_apart (Some first) None = None
sorts_apart None other = None

abbrev pub is_clash : Named → Bool
is_clash variable = is_some (sorts_apart variable.first variable.other)

abbrev pub sorted_name : Symbol × ℕ → Symbol × Option ℕ
sorted_name entry = (entry.0, Some entry.1)

abbrev pub first_sort : Named → Symbol × Option ℕ
first_sort variable = (variable.name, variable.first)

-- These are the sorts of the named variables: the one that is written of each, in the order of their first occurrences.
abbrev pub AreSorts : List Named → List (Symbol × ℕ) → Type 0
AreSorts variables sorts = (map sorted_name sorts ≡ map first_sort variables) × (find is_clash variables ≡ None)

-- The first variable of which two different sorts are written, with the first of them and the first other one.
abbrev pub IsClashOf : List Named → VariableFault → Type 0
IsClashOf variables (SortClash name first other) = find is_clash variables ≡ Some (record { name = name; first = Some first; other = Some other })
IsClashOf variables (Unsorted name) = ⊥
IsClashOf variables Memory = ⊥

-- Why they have none: the first variable of which no sort is written, or else the first of which two different ones are.
abbrev pub IsVariableFault : List Named → VariableFault → Type 0
IsVariableFault variables (Unsorted name) = option_map (λ variable. variable.name) (find is_unsorted variables) ≡ Some name
IsVariableFault variables (SortClash name first other) = (find is_unsorted variables ≡ None) × IsClashOf variables (SortClash name first other)
IsVariableFault variables Memory = Unit {0}
