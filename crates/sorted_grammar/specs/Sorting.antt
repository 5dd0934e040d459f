-- The grammar of a definition, and why it has none.
use Rattle.std.specs.Prelude.{◌≡◌, ℕ, ◌<◌, ◌≤◌, ◌⊎◌, List, length, Option, Some, None}
use Rattle.file_reader.specs.declared.sentence.Sentence.{Sentence}
use Rattle.grammar_terms.specs.Grammar.{Syntax, production_at}
use Rattle.grammar_terms.specs.declared.production.Production.{Production}
use Rattle.sorted_grammar.specs.Naming.{names_of, declared_count, mentioned_in, first_that, is_unknown}
use Rattle.sorted_grammar.specs.Placing.{placed_of, item_sorts, grammar_of}
use Rattle.sorted_grammar.specs.Subsorts.{IsOnCycle, IsFirstOnCycle}
use Rattle.sorted_grammar.specs.Leading.{IsCyclic, IsFirstCyclic}
use Rattle.sorted_grammar.specs.declared.fault.SortFault.{SortFault}
use Rattle.sorted_grammar.specs.declared.fault.SortFault.TheVariants.{TooMany, NoSort, SubsortCycle, CyclicProduction, Memory}
use Rattle.sorted_grammar.specs.declared.fault.What.{What}
use Rattle.sorted_grammar.specs.declared.fault.What.TheVariants.{Sorts, Productions, Rules, Cells, RuleTokens, PatternCells, NewCells}

-- the sorts, and the productions, are not too many
abbrev pub AreFewSorts : List Sentence → Type 0
AreFewSorts sentences = declared_count sentences ≤ 256

abbrev pub AreFewProductions : List Sentence → Type 0
AreFewProductions sentences = length (placed_of sentences) ≤ 1024

-- the first sort that stands in a production and is neither declared nor built in
abbrev pub first_unknown : List Sentence → Option (List ℕ)
first_unknown sentences = first_that (is_unknown (names_of sentences)) (item_sorts (placed_of sentences))

abbrev pub AreKnown : List Sentence → Type 0
AreKnown sentences = first_unknown sentences ≡ None

-- no sort lies on a cycle of subsorts
abbrev pub HasNoSubsortCycle : Syntax → Type 0
HasNoSubsortCycle g = (sort : ℕ) → sort < length g.names → IsOnCycle g sort → ⊥

-- no production lies on a cycle
abbrev pub HasNoCyclicProduction : Syntax → Type 0
HasNoCyclicProduction g = (p : ℕ) (production : Production) → production_at g.prods p ≡ Some production → IsCyclic g production → ⊥

-- the grammar of a definition's sentences
pub record IsGrammar (sentences : List Sentence) (g : Syntax) : Type 0 where
  pub sorts : AreFewSorts sentences
  pub productions : AreFewProductions sentences
  pub known : AreKnown sentences
  pub is : g ≡ grammar_of sentences
  pub no_subsort_cycle : HasNoSubsortCycle (grammar_of sentences)
  pub no_cyclic_production : HasNoCyclicProduction (grammar_of sentences)

-- there are too many of something, so many
abbrev pub AreTooMany : List Sentence → What → ℕ → Type 0
AreTooMany sentences Sorts n = (256 < declared_count sentences) × (n ≡ declared_count sentences)
AreTooMany sentences Productions n = AreFewSorts sentences × (1024 < length (placed_of sentences)) × (n ≡ length (placed_of sentences))
AreTooMany sentences Rules n = ⊥
AreTooMany sentences Cells n = ⊥
AreTooMany sentences RuleTokens n = ⊥
AreTooMany sentences PatternCells n = ⊥
AreTooMany sentences NewCells n = ⊥

-- the first sort in a production that is none
pub record IsMissing (sentences : List Sentence) (name : List ℕ) : Type 0 where
  pub sorts : AreFewSorts sentences
  pub productions : AreFewProductions sentences
  pub first : first_unknown sentences ≡ Some name

-- the first sort that is mentioned and lies on a cycle of subsorts
pub record IsSubsortCycle (sentences : List Sentence) (name : List ℕ) : Type 0 where
  pub sorts : AreFewSorts sentences
  pub productions : AreFewProductions sentences
  pub known : AreKnown sentences
  pub first : IsFirstOnCycle (grammar_of sentences) (mentioned_in sentences) name

-- the first production that lies on a cycle
pub record IsProductionCycle (sentences : List Sentence) (p : ℕ) : Type 0 where
  pub sorts : AreFewSorts sentences
  pub productions : AreFewProductions sentences
  pub known : AreKnown sentences
  pub no_subsort_cycle : HasNoSubsortCycle (grammar_of sentences)
  pub first : IsFirstCyclic (grammar_of sentences) p

-- why sentences have no grammar
abbrev pub IsFault : List Sentence → SortFault → Type 0
IsFault sentences (TooMany what n) = AreTooMany sentences what n
IsFault sentences (NoSort name) = IsMissing sentences name
IsFault sentences (SubsortCycle name) = IsSubsortCycle sentences name
IsFault sentences (CyclicProduction p) = IsProductionCycle sentences p
IsFault sentences Memory = ⊥

-- want of memory, or why sentences have no grammar
abbrev pub IsRefusal : List Sentence → SortFault → Type 0
IsRefusal sentences fault = (fault ≡ Memory) ⊎ IsFault sentences fault
