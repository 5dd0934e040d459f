-- The productions of a grammar by the sorts of their arguments.
use Rattle.std.specs.Prelude.{ℕ, List, [], ◌∷◌, length, map}
use Rattle.std.specs.List.{flat_map}
use Rattle.grammar_terms.specs.declared.production.Part.{Part}
use Rattle.grammar_terms.specs.declared.production.Part.TheVariants.{Terminal, Sort}
use Rattle.grammar_terms.specs.declared.production.Production.{Production}
use Rattle.grammar_terms.specs.Grammar.{Syntax}
use Rattle.grammar_terms.specs.Builtins.{declared_prods}
use Rattle.rule_parts.specs.declared.argument_sorts.Productions.{Productions}

abbrev pub sort_in : Part → List ℕ
sort_in (Terminal text) = []
sort_in (Sort sort) = sort ∷ []

-- the sorts of items that are sorts
abbrev pub sorts_in : List Part → List ℕ
sorts_in items = flat_map sort_in items

abbrev pub arguments_of : Production → List ℕ
arguments_of production = sorts_in production.items

-- How many productions are declared, and for each production the sorts of its arguments; a list production has the sort of
-- its elements as its one item.
abbrev pub productions_of : Syntax → Productions
productions_of g = record { declared = length (declared_prods g); arguments = map arguments_of g.prods }
