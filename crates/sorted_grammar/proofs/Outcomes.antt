-- The laws of the grammar of sentences, and how a reading ends.
use Rattle.std.proofs.Common.{arith, inl, inr, ⊎_elim, ◌⊎◌, ◌≡◌, ℕ, ◌<◌, List, length, Some, Result, Ok, Err, MatchResult, IfOk, IfErr, sym, ap, ◌∙◌}
use Rattle.std.specs.Prelude.{unwrap_or}
use Rattle.std.proofs.lemmas.Bool.{cases_order}
use Rattle.file_reader.specs.declared.sentence.Sentence.{Sentence}
use Rattle.grammar_terms.specs.Grammar.{Syntax}
use Rattle.sorted_grammar.specs.declared.fault.SortFault.{SortFault}
use Rattle.sorted_grammar.specs.declared.fault.SortFault.TheVariants.{TooMany, NoSort, SubsortCycle, CyclicProduction, Memory}
use Rattle.sorted_grammar.specs.declared.fault.What.{What}
use Rattle.sorted_grammar.specs.declared.fault.What.TheVariants.{Sorts, Productions, Rules, Cells, RuleTokens, PatternCells, NewCells}
use Rattle.sorted_grammar.specs.Naming.{names_of, declared_count, number_in, mentioned_in}
use Rattle.sorted_grammar.specs.Placing.{placed_of, grammar_of}
use Rattle.sorted_grammar.specs.Subsorts.{IsOnCycle}
use Rattle.sorted_grammar.specs.Leading.{IsFirstCyclic}
use Rattle.sorted_grammar.specs.Sorting.{AreFewSorts, AreFewProductions, AreKnown, HasNoSubsortCycle, HasNoCyclicProduction, first_unknown, IsGrammar, AreTooMany, IsSubsortCycle, IsProductionCycle, IsFault, IsRefusal}
use Rattle.sorted_grammar.proofs.Mentions.{number_within, names_long}
use Rattle.sorted_grammar.proofs.Around.{some_first, one_first}

module _ (ss : List Sentence) where
  many_sorts : 256 < declared_count ss → AreFewSorts ss → ⊥
  many_sorts many few = omega (arith, many, few)

  many_productions : 1024 < length (placed_of ss) → AreFewProductions ss → ⊥
  many_productions many few = omega (arith, many, few)

  some_unknown : (name : List ℕ) → first_unknown ss ≡ Some name → AreKnown ss → ⊥
  some_unknown name is none = absurd (cc)

  subsorts_turn : (name : List ℕ) → IsSubsortCycle ss name → HasNoSubsortCycle (grammar_of ss) → ⊥
  subsorts_turn name f none =
      none (number_in (names_of ss) name) (number_within (names_of ss) name (let long = names_long ss in omega (arith, long)))
      (some_first (λ other. IsOnCycle (grammar_of ss) (number_in (names_of ss) other)) (mentioned_in ss) name f.first)

  productions_turn : (p : ℕ) → IsProductionCycle ss p → HasNoCyclicProduction (grammar_of ss) → ⊥
  productions_turn p f none = none p f.first.production f.first.is f.first.cyclic

  too_many_not : (g : Syntax) (what : What) (n : ℕ) → IsGrammar ss g → AreTooMany ss what n → ⊥
  too_many_not g Sorts n m f = many_sorts f.0 m.sorts
  too_many_not g Productions n m f = many_productions f.1 m.productions
  too_many_not g Rules n m f = f
  too_many_not g Cells n m f = f
  too_many_not g RuleTokens n m f = f
  too_many_not g PatternCells n m f = f
  too_many_not g NewCells n m f = f

  pub not_both : (g : Syntax) (fault : SortFault) → IsGrammar ss g → IsFault ss fault → ⊥
  not_both g (TooMany what n) m f = too_many_not g what n m f
  not_both g (NoSort name) m f = some_unknown name f.first m.known
  not_both g (SubsortCycle name) m f = subsorts_turn name f m.no_subsort_cycle
  not_both g (CyclicProduction p) m f = productions_turn p f m.no_cyclic_production
  not_both g Memory m f = f

  -- too many of one thing, and any fault
  many_alone : (what other : What) (n m : ℕ) → AreTooMany ss what n → AreTooMany ss other m → TooMany what n ≡ TooMany other m
  many_alone Sorts Sorts n m f g = ap (TooMany Sorts) (f.1 ∙ sym g.1)
  many_alone Productions Productions n m f g = ap (TooMany Productions) (f.2 ∙ sym g.2)
  many_alone Sorts Productions n m f g = absurd (many_sorts f.0 g.0)
  many_alone Productions Sorts n m f g = absurd (many_sorts g.0 f.0)
  many_alone Sorts Rules n m f g = absurd g
  many_alone Sorts Cells n m f g = absurd g
  many_alone Sorts RuleTokens n m f g = absurd g
  many_alone Sorts PatternCells n m f g = absurd g
  many_alone Sorts NewCells n m f g = absurd g
  many_alone Productions Rules n m f g = absurd g
  many_alone Productions Cells n m f g = absurd g
  many_alone Productions RuleTokens n m f g = absurd g
  many_alone Productions PatternCells n m f g = absurd g
  many_alone Productions NewCells n m f g = absurd g
  many_alone Rules other n m f g = absurd f
  many_alone Cells other n m f g = absurd f
  many_alone RuleTokens other n m f g = absurd f
  many_alone PatternCells other n m f g = absurd f
  many_alone NewCells other n m f g = absurd f

  many_late : (what : What) (n : ℕ) → AreTooMany ss what n → AreFewSorts ss → AreFewProductions ss → ⊥
  many_late Sorts n f sorts prods = many_sorts f.0 sorts
  many_late Productions n f sorts prods = many_productions f.1 prods
  many_late Rules n f sorts prods = f
  many_late Cells n f sorts prods = f
  many_late RuleTokens n f sorts prods = f
  many_late PatternCells n f sorts prods = f
  many_late NewCells n f sorts prods = f

  first_alone : (one other : ℕ) → IsFirstCyclic (grammar_of ss) one → IsFirstCyclic (grammar_of ss) other → one ≡ other
  first_alone one other f g = ⊎_elim (λ (same : one ≡ other). same) (λ (differ : (one < other) ⊎ (other < one)). absurd (⊎_elim
      (λ (less : one < other). g.first one f.production less f.is f.cyclic)
      (λ (less : other < one). f.first other g.production less g.is g.cyclic) differ)) (cases_order one other)

  pub one_fault : (one other : SortFault) → IsFault ss one → IsFault ss other → one ≡ other
  one_fault (TooMany what n) (TooMany other m) f g = many_alone what other n m f g
  one_fault (TooMany what n) (NoSort name) f g = absurd (many_late what n f g.sorts g.productions)
  one_fault (TooMany what n) (SubsortCycle name) f g = absurd (many_late what n f g.sorts g.productions)
  one_fault (TooMany what n) (CyclicProduction p) f g = absurd (many_late what n f g.sorts g.productions)
  one_fault (TooMany what n) Memory f g = absurd g
  one_fault (NoSort name) (TooMany what n) f g = absurd (many_late what n g f.sorts f.productions)
  one_fault (NoSort name) (NoSort other) f g = ap (λ o. NoSort (unwrap_or o name)) (sym f.first ∙ g.first)
  one_fault (NoSort name) (SubsortCycle other) f g = absurd (some_unknown name f.first g.known)
  one_fault (NoSort name) (CyclicProduction p) f g = absurd (some_unknown name f.first g.known)
  one_fault (NoSort name) Memory f g = absurd g
  one_fault (SubsortCycle name) (TooMany what n) f g = absurd (many_late what n g f.sorts f.productions)
  one_fault (SubsortCycle name) (NoSort other) f g = absurd (some_unknown other g.first f.known)
  one_fault (SubsortCycle name) (SubsortCycle other) f g =
      ap SubsortCycle (one_first (λ x. IsOnCycle (grammar_of ss) (number_in (names_of ss) x)) (mentioned_in ss) name other f.first g.first)
  one_fault (SubsortCycle name) (CyclicProduction p) f g = absurd (subsorts_turn name f g.no_subsort_cycle)
  one_fault (SubsortCycle name) Memory f g = absurd g
  one_fault (CyclicProduction p) (TooMany what n) f g = absurd (many_late what n g f.sorts f.productions)
  one_fault (CyclicProduction p) (NoSort other) f g = absurd (some_unknown other g.first f.known)
  one_fault (CyclicProduction p) (SubsortCycle name) f g = absurd (subsorts_turn name g f.no_subsort_cycle)
  one_fault (CyclicProduction p) (CyclicProduction q) f g = ap CyclicProduction (first_alone p q f.first g.first)
  one_fault (CyclicProduction p) Memory f g = absurd g
  one_fault Memory other f g = absurd f

  pub one_grammar : (one other : Syntax) → IsGrammar ss one → IsGrammar ss other → one ≡ other
  one_grammar one other f g = f.is ∙ sym g.is

  -- ---- how a reading ends

  pub read_ok : (result : Result Syntax SortFault) → MatchResult result (IsGrammar ss) (IsRefusal ss) → IfOk result (IsGrammar ss)
  read_ok (Ok g) is = is
  read_ok (Err fault) is = tt

  pub read_fault : (result : Result Syntax SortFault) → MatchResult result (IsGrammar ss) (IsRefusal ss) → IfErr result (IsRefusal ss)
  read_fault (Ok g) is = tt
  read_fault (Err fault) is = is

  pub read_exact : (result : Result Syntax SortFault) → MatchResult result (IsGrammar ss) (IsRefusal ss)
      → (g : Syntax) → IsGrammar ss g → MatchResult result (λ it. it ≡ g) (λ fault. fault ≡ Memory)
  read_exact (Ok it) is g m = one_grammar it g is m
  read_exact (Err fault) is g m = ⊎_elim (λ (e : fault ≡ Memory). e) (λ (f : IsFault ss fault). absurd (not_both g fault m f)) is

  pub read_exact_fault : (result : Result Syntax SortFault) → MatchResult result (IsGrammar ss) (IsRefusal ss)
      → (fault : SortFault) → IsFault ss fault → MatchResult result (λ it. ⊥) (λ other. (other ≡ Memory) ⊎ (other ≡ fault))
  read_exact_fault (Ok it) is fault f = not_both it fault is f
  read_exact_fault (Err other) is fault f = ⊎_elim (λ (e : other ≡ Memory). inl e) (λ (g : IsFault ss other). inr (one_fault other fault g f)) is
