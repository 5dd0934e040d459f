-- The laws of the grammar of sentences.
use Rattle.std.specs.Prelude.{◌≡◌, List, take, codes, Some}
use Rattle.k_terms.specs.Names.{number_of}
use Rattle.k_terms.specs.Sorts.{sort_k, sort_kitem, sort_kresult, sort_int, sort_bool, sort_string, sort_id, sort_map, sort_list, sort_bag}
use Rattle.file_reader.specs.declared.sentence.Sentence.{Sentence}
use Rattle.grammar_terms.specs.Grammar.{Syntax}
use Rattle.sorted_grammar.specs.declared.fault.SortFault.{SortFault}
use Rattle.sorted_grammar.specs.Naming.{built_in_names, names_of}
use Rattle.sorted_grammar.specs.Sorting.{IsGrammar, IsFault}
use Rattle.sorted_grammar.specs.Marks.{AreInside}

abbrev pub HaveOneGrammar : Type 0
HaveOneGrammar = (sentences : List Sentence) (one other : Syntax) → IsGrammar sentences one → IsGrammar sentences other → one ≡ other

abbrev pub HaveOneFault : Type 0
HaveOneFault = (sentences : List Sentence) (one other : SortFault) → IsFault sentences one → IsFault sentences other → one ≡ other

abbrev pub HaveNotBoth : Type 0
HaveNotBoth = (sentences : List Sentence) (g : Syntax) (fault : SortFault) → IsGrammar sentences g → IsFault sentences fault → ⊥

-- each built-in sort stands at its number
pub record AreNumbered : Type 0 where
  pub k : number_of built_in_names (codes "K") ≡ Some sort_k
  pub kitem : number_of built_in_names (codes "KItem") ≡ Some sort_kitem
  pub kresult : number_of built_in_names (codes "KResult") ≡ Some sort_kresult
  pub int : number_of built_in_names (codes "Int") ≡ Some sort_int
  pub bool : number_of built_in_names (codes "Bool") ≡ Some sort_bool
  pub string : number_of built_in_names (codes "String") ≡ Some sort_string
  pub id : number_of built_in_names (codes "Id") ≡ Some sort_id
  pub map : number_of built_in_names (codes "Map") ≡ Some sort_map
  pub list : number_of built_in_names (codes "List") ≡ Some sort_list
  pub bag : number_of built_in_names (codes "Bag") ≡ Some sort_bag

-- the built-in sorts stand in front of the declared ones
abbrev pub StandFirst : Type 0
StandFirst = (sentences : List Sentence) → take 10 (names_of sentences) ≡ built_in_names

-- the sorts of a grammar's productions and of their items have names
abbrev pub HaveNames : Type 0
HaveNames = (sentences : List Sentence) (g : Syntax) → IsGrammar sentences g → AreInside g
