-- The productions of a definition in their order, and the grammar that they make.
use Rattle.std.specs.Prelude.{ℕ, ◌+◌, List, [], ◌∷◌, ◌++◌, map, length}
use Rattle.std.specs.List.{flat_map}
use Rattle.production_reader.specs.declared.prod.Item.{Item}
use Rattle.production_reader.specs.declared.prod.Item.TheVariants.{Terminal as TerminalItem, Sort as SortItem}
use Rattle.production_reader.specs.declared.prod.Prod.{Prod}
use Rattle.file_reader.specs.declared.sentence.Sentence.{Sentence}
use Rattle.file_reader.specs.declared.sentence.Sentence.TheVariants.{Syntax as SyntaxSentence, Config, Rule}
use Rattle.grammar_terms.specs.Grammar.{Syntax}
use Rattle.grammar_terms.specs.declared.production.Part.{Part}
use Rattle.grammar_terms.specs.declared.production.Part.TheVariants.{Terminal, Sort}
use Rattle.grammar_terms.specs.declared.production.Production.{Production}
use Rattle.sorted_grammar.specs.Naming.{names_of, number_in, sorts_in_prod}

-- A production with its sort, the place of its sentence among the sentences, and that of its group among all groups.
pub record PlacedProd : Type 0 where
  pub sort : List ℕ
  pub sentence : ℕ
  pub group : ℕ
  pub prod : Prod

abbrev pub placed_in_group : List ℕ → ℕ → ℕ → List Prod → List PlacedProd
placed_in_group sort sentence group prods = map (λ prod. record { sort = sort; sentence = sentence; group = group; prod = prod }) prods

abbrev pub placed_in_groups : List ℕ → ℕ → ℕ → List (List Prod) → List PlacedProd
placed_in_groups sort sentence group [] = []
placed_in_groups sort sentence group (prods ∷ groups) = placed_in_group sort sentence group prods ++ placed_in_groups sort sentence (group + 1) groups

abbrev pub groups_of : Sentence → List (List Prod)
groups_of (SyntaxSentence sort groups) = groups
groups_of (Config first past) = []
groups_of (Rule at first past) = []

abbrev pub placed_in_sentence : ℕ → ℕ → Sentence → List PlacedProd
placed_in_sentence sentence group (SyntaxSentence sort groups) = placed_in_groups sort sentence group groups
placed_in_sentence sentence group (Config first past) = []
placed_in_sentence sentence group (Rule at first past) = []

-- the productions of sentences, counted from this sentence and this group
abbrev pub placed_from : ℕ → ℕ → List Sentence → List PlacedProd
placed_from place group [] = []
placed_from place group (sentence ∷ sentences) =
    placed_in_sentence place group sentence ++ placed_from (place + 1) (group + length (groups_of sentence)) sentences

abbrev pub placed_of : List Sentence → List PlacedProd
placed_of sentences = placed_from 0 0 sentences

-- the sorts of the items of all productions, in order
abbrev pub item_sorts : List PlacedProd → List (List ℕ)
item_sorts placed = flat_map (λ one. sorts_in_prod one.prod) placed

-- an item and a production with the numbers of their sorts
abbrev pub part_of : List (List ℕ) → Item → Part
part_of names (TerminalItem text) = Terminal text
part_of names (SortItem sort) = Sort (number_in names sort)

abbrev pub production_of : List (List ℕ) → PlacedProd → Production
production_of names placed = record {
  sort = number_in names placed.sort;
  sentence = placed.sentence;
  group = placed.group;
  items = map (part_of names) placed.prod.items;
  attrs = placed.prod.attrs;
  form = placed.prod.form;
}

-- the grammar of sorts by their names and of productions in order
abbrev pub grammar_by : List (List ℕ) → List PlacedProd → Syntax
grammar_by names placed = record { names = names; prods = map (production_of names) placed; declared = length (map (production_of names) placed) }

abbrev pub grammar_of : List Sentence → Syntax
grammar_of sentences = grammar_by (names_of sentences) (placed_of sentences)
