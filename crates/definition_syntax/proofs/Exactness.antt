-- The definition that a text is, is determined, and so is its fault.
use Rattle.std.proofs.Common.{◌≡◌, ◌⊎◌, inl, inr, ℕ, List, [], Some, None, refl, sym, ap, ◌∙◌, subst}
use Rattle.k_lexer.specs.declared.token.Token.{Token}
use Rattle.k_lexer.specs.declared.fault.LexFault.{LexFault}
use Rattle.k_lexer.specs.declared.fault.LexFault.TheVariants.{BadByte, OpenString, OpenComment, Memory as NoTokens}
use Rattle.k_lexer.specs.Lexing.{AreTokens, IsFault as IsLexFault}
use Rattle.k_lexer.proofs.Faults.{one_tokens, one_fault, tokens_or_fault}
use Rattle.file_reader.specs.declared.sentence.Sentence.{Sentence}
use Rattle.module_reader.specs.declared.fault.ModuleFault.{ModuleFault}
use Rattle.module_reader.specs.declared.fault.ModuleFault.TheVariants.{Expected, NoModule, ImportCycle, TwoModules, Memory as NoModules}
use Rattle.module_reader.specs.Modules.{Imported, IsModules, AreClosureOf}
use Rattle.module_reader.specs.Faults.{IsFault as IsModuleFault}
use Rattle.module_reader.proofs.Texts.{one_list}
use Rattle.grammar_terms.specs.Grammar.{Syntax}
use Rattle.sorted_grammar.specs.declared.fault.SortFault.{SortFault}
use Rattle.sorted_grammar.specs.declared.fault.SortFault.TheVariants.{TooMany, NoSort, SubsortCycle, CyclicProduction, Memory as NoSorts}
use Rattle.sorted_grammar.specs.Sorting.{IsGrammar, IsFault as IsSortFault}
use Rattle.program_tokens.specs.Base.{with_tokens}
use Rattle.definition_syntax.specs.declared.syntax.Definition.{Definition}
use Rattle.definition_syntax.specs.declared.fault.SyntaxFault.{SyntaxFault}
use Rattle.definition_syntax.specs.declared.fault.SyntaxFault.TheVariants.{Lex, Module, Sort, Memory}
use Rattle.definition_syntax.specs.Syntaxes.{AreSentences, IsSyntaxFault, IsLate, AreOnlySentences, IsOnlyFault, IsOnlyDefinition, IsDefinition, told_lex, told_module, told_sort}

-- a text without tokens
pub lex_only : (text : List ℕ) (fault : LexFault) → IsLexFault text fault → IsOnlyFault text (Lex fault)
lex_only text fault is = record {
  is = is;
  only = other_is;
  none = λ definition h. tokens_or_fault text definition.tokens fault h.are.lexed is;
}
  where
    other_is : (other : SyntaxFault) → IsSyntaxFault text other → other ≡ Lex fault
    other_is (Lex other) h = ap Lex (one_fault text other fault h is)
    other_is (Module other) h = absurd (tokens_or_fault text h.0 fault h.1 is)
    other_is (Sort other) h = absurd (tokens_or_fault text h.0 fault h.2.lexed is)
    other_is Memory h = elim h [ ]

module _ (text : List ℕ) (tokens : List Token) (lexed : AreTokens text tokens) where
  same_tokens : (others : List Token) → AreTokens text others → others ≡ tokens
  same_tokens others are = one_tokens text others tokens are lexed

  no_lex : (fault : LexFault) → IsLexFault text fault → ⊥
  no_lex fault is = tokens_or_fault text tokens fault lexed is

  -- tokens without modules
  module _ (fault : ModuleFault) (is : IsModuleFault text tokens fault) (only : (other : ModuleFault) → IsModuleFault text tokens other → other ≡ fault)
      (none : (modules : Imported) → IsModules text tokens modules → ⊥) where
    no_sentences : (others : List Token) (sentences : List Sentence) → AreSentences text others sentences → ⊥
    no_sentences others sentences are = none are.modules (subst (λ ts. IsModules text ts are.modules) (same_tokens others are.lexed) are.are_modules)

    other_module : (other : SyntaxFault) → IsSyntaxFault text other → other ≡ Module fault
    other_module (Lex other) h = absurd (no_lex other h)
    other_module (Module other) h = ap Module (only other (subst (λ ts. IsModuleFault text ts other) (same_tokens h.0 h.1) h.2))
    other_module (Sort other) h = absurd (no_sentences h.0 h.1 h.2)
    other_module Memory h = elim h [ ]

    pub module_only : IsOnlyFault text (Module fault)
    module_only = record {
      is = (tokens, lexed, is);
      only = other_module;
      none = λ definition h. no_sentences definition.tokens definition.sentences h.are;
    }

  -- the sentences of modules
  module _ (modules : Imported) (are : IsModules text tokens modules) (only : (others : Imported) → IsModules text tokens others → others ≡ modules)
      (no_fault : (fault : ModuleFault) → IsModuleFault text tokens fault → ⊥) (sentences : List Sentence) (closure : AreClosureOf modules sentences) where
    same_sentences : (others : List Token) (more : List Sentence) → AreSentences text others more → (others ≡ tokens) × (more ≡ sentences)
    same_sentences others more h =
        let same : others ≡ tokens = same_tokens others h.lexed in
        let modules_same : h.modules ≡ modules = only h.modules (subst (λ ts. IsModules text ts h.modules) same h.are_modules) in
        (same, one_list modules more sentences (subst (λ m. AreClosureOf m more) modules_same h.closure) closure)

    late : (fault : SyntaxFault) → IsSyntaxFault text fault → IsLate fault
    late (Lex fault) h = no_lex fault h
    late (Module fault) h = no_fault fault (subst (λ ts. IsModuleFault text ts fault) (same_tokens h.0 h.1) h.2)
    late (Sort fault) h = tt
    late Memory h = h

    pub sentences_only : AreOnlySentences text tokens sentences
    sentences_only = record {
      are = record { lexed = lexed; modules = modules; are_modules = are; closure = closure };
      only = same_sentences;
      no_fault = late;
    }

module _ (text : List ℕ) (tokens : List Token) (sentences : List Sentence) (all : AreOnlySentences text tokens sentences) where
  -- sentences without a grammar
  module _ (fault : SortFault) (is : IsSortFault sentences fault) (only : (other : SortFault) → IsSortFault sentences other → other ≡ fault)
      (none : (g : Syntax) → IsGrammar sentences g → ⊥) where
    no_grammar : (others : List Token) (more : List Sentence) (g : Syntax) → AreSentences text others more → IsGrammar more g → ⊥
    no_grammar others more g are grammar = none g (subst (λ ss. IsGrammar ss g) (all.only others more are).1 grammar)

    other_sort : (other : SyntaxFault) → IsSyntaxFault text other → other ≡ Sort fault
    other_sort (Lex other) h = elim (all.no_fault (Lex other) h) [ ]
    other_sort (Module other) h = elim (all.no_fault (Module other) h) [ ]
    other_sort (Sort other) h = ap Sort (only other (subst (λ ss. IsSortFault ss other) (all.only h.0 h.1 h.2).1 h.3))
    other_sort Memory h = elim h [ ]

    pub sort_only : IsOnlyFault text (Sort fault)
    sort_only = record {
      is = (tokens, sentences, all.are, is);
      only = other_sort;
      none = λ definition h. no_grammar definition.tokens definition.sentences definition.grammar h.are h.grammar;
    }

  -- sentences with a grammar
  module _ (g : Syntax) (is : IsGrammar sentences g) (only : (other : Syntax) → IsGrammar sentences other → other ≡ g)
      (no_fault : (fault : SortFault) → IsSortFault sentences fault → ⊥) where
    -- no fault
    none_of : (other : SyntaxFault) → IsSyntaxFault text other → ⊥
    none_of (Lex other) h = all.no_fault (Lex other) h
    none_of (Module other) h = all.no_fault (Module other) h
    none_of (Sort other) h = no_fault other (subst (λ ss. IsSortFault ss other) (all.only h.0 h.1 h.2).1 h.3)
    none_of Memory h = h

    pub definition_only : (names : List (List ℕ)) → names ≡ with_tokens text [] tokens
        → IsOnlyDefinition text (record { tokens = tokens; sentences = sentences; grammar = g; names = names })
    definition_only names words = record {
      is = record { are = all.are; grammar = is; words = words };
      only = λ other h.
          let same = all.only other.tokens other.sentences h.are in
          let grammars : other.grammar ≡ g = only other.grammar (subst (λ ss. IsGrammar ss other.grammar) same.1 h.grammar) in
          let all_words : other.names ≡ names = h.words ∙ ap (with_tokens text []) same.0 ∙ sym words in
          λ i. record { tokens = same.0 i; sentences = same.1 i; grammar = grammars i; names = all_words i };
      no_fault = none_of;
    }

-- ---- what is told of a fault of a phase

module _ (text : List ℕ) (tokens : List Token) (lexed : AreTokens text tokens) (fault : ModuleFault)
    (is : (fault ≡ NoModules) ⊎ IsModuleFault text tokens fault)
    (exact : (modules : Imported) → IsModules text tokens modules → fault ≡ NoModules)
    (exact_fault : (other : ModuleFault) → IsModuleFault text tokens other → (fault ≡ NoModules) ⊎ (fault ≡ other)) where
  module_unless : (fault ≡ NoModules → ⊥) → IsOnlyFault text (Module fault)
  module_unless some = elim is [
    | inl none ↦ absurd (some none)
    | inr h ↦ module_only text tokens lexed fault h
        (λ other o. elim (exact_fault other o) [ inl none ↦ absurd (some none) | inr same ↦ sym same ])
        (λ modules m. some (exact modules m))
  ]

pub module_told : (text : List ℕ) (tokens : List Token) (lexed : AreTokens text tokens) (fault : ModuleFault)
    → (fault ≡ NoModules) ⊎ IsModuleFault text tokens fault
    → ((modules : Imported) → IsModules text tokens modules → fault ≡ NoModules)
    → ((other : ModuleFault) → IsModuleFault text tokens other → (fault ≡ NoModules) ⊎ (fault ≡ other))
    → (told_module fault ≡ Memory) ⊎ IsOnlyFault text (told_module fault)
module_told text tokens lexed (Expected at) is exact exact_fault = inr (module_unless text tokens lexed (Expected at) is exact exact_fault (λ e. cc))
module_told text tokens lexed (NoModule name) is exact exact_fault = inr (module_unless text tokens lexed (NoModule name) is exact exact_fault (λ e. cc))
module_told text tokens lexed (ImportCycle name) is exact exact_fault = inr (module_unless text tokens lexed (ImportCycle name) is exact exact_fault (λ e. cc))
module_told text tokens lexed (TwoModules name) is exact exact_fault = inr (module_unless text tokens lexed (TwoModules name) is exact exact_fault (λ e. cc))
module_told text tokens lexed NoModules is exact exact_fault = inl refl

pub lex_told : (text : List ℕ) (fault : LexFault) → (fault ≡ NoTokens) ⊎ IsLexFault text fault → (told_lex fault ≡ Memory) ⊎ IsOnlyFault text (told_lex fault)
lex_told text (BadByte at) is = elim is [ inl none ↦ absurd cc | inr h ↦ inr (lex_only text (BadByte at) h) ]
lex_told text (OpenString at) is = elim is [ inl none ↦ absurd cc | inr h ↦ inr (lex_only text (OpenString at) h) ]
lex_told text (OpenComment at) is = elim is [ inl none ↦ absurd cc | inr h ↦ inr (lex_only text (OpenComment at) h) ]
lex_told text NoTokens is = inl refl

module _ (text : List ℕ) (tokens : List Token) (sentences : List Sentence) (all : AreOnlySentences text tokens sentences) (fault : SortFault)
    (is : (fault ≡ NoSorts) ⊎ IsSortFault sentences fault)
    (exact : (g : Syntax) → IsGrammar sentences g → fault ≡ NoSorts)
    (exact_fault : (other : SortFault) → IsSortFault sentences other → (fault ≡ NoSorts) ⊎ (fault ≡ other)) where
  sort_unless : (fault ≡ NoSorts → ⊥) → IsOnlyFault text (Sort fault)
  sort_unless some = elim is [
    | inl none ↦ absurd (some none)
    | inr h ↦ sort_only text tokens sentences all fault h
        (λ other o. elim (exact_fault other o) [ inl none ↦ absurd (some none) | inr same ↦ sym same ])
        (λ g grammar. some (exact g grammar))
  ]

pub sort_told : (text : List ℕ) (tokens : List Token) (sentences : List Sentence) (all : AreOnlySentences text tokens sentences) (fault : SortFault)
    → (fault ≡ NoSorts) ⊎ IsSortFault sentences fault
    → ((g : Syntax) → IsGrammar sentences g → fault ≡ NoSorts)
    → ((other : SortFault) → IsSortFault sentences other → (fault ≡ NoSorts) ⊎ (fault ≡ other))
    → (told_sort fault ≡ Memory) ⊎ IsOnlyFault text (told_sort fault)
sort_told text tokens sentences all (TooMany what n) is exact exact_fault = inr (sort_unless text tokens sentences all (TooMany what n) is exact exact_fault (λ e. cc))
sort_told text tokens sentences all (NoSort name) is exact exact_fault = inr (sort_unless text tokens sentences all (NoSort name) is exact exact_fault (λ e. cc))
sort_told text tokens sentences all (SubsortCycle name) is exact exact_fault = inr (sort_unless text tokens sentences all (SubsortCycle name) is exact exact_fault (λ e. cc))
sort_told text tokens sentences all (CyclicProduction p) is exact exact_fault = inr (sort_unless text tokens sentences all (CyclicProduction p) is exact exact_fault (λ e. cc))
sort_told text tokens sentences all NoSorts is exact exact_fault = inl refl
