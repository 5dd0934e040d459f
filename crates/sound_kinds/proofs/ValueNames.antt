-- The sorts of a rule's variables have names.
use Rattle.std.proofs.Common.{◌≡◌, ℕ, zero, suc, ◌+◌, ◌<◌, Bool, true, false, ◌==◌, List, [], ◌∷◌, ◌++◌, map, drop, length, Option, Some, None, refl, sym, subst, arith}
use Rattle.std.proofs.lemmas.Option.{slice_get_within}
use Rattle.std.specs.Prelude.{if◌then◌else◌, nat_lt, codes, option_map}
use Rattle.std.specs.List.{AllByRecursion}
use Rattle.std.specs.Str.{bytes_eq}
use Rattle.k_lexer.specs.declared.token.Kind.{Kind}
use Rattle.k_lexer.specs.declared.token.Kind.TheVariants.{Word as WordToken, Int, Str, Mark as MarkToken}
use Rattle.k_lexer.specs.declared.token.Token.{Token}
use Rattle.k_terms.specs.declared.value.Symbol.{Symbol}
use Rattle.grammar_terms.specs.Grammar.{Syntax, sort_number}
use Rattle.rule_terms.specs.declared.defs.CellShape.{CellShape}
use Rattle.rule_tokens.specs.declared.token.RuleKind.{RuleKind}
use Rattle.rule_tokens.specs.declared.token.RuleKind.TheVariants.{Open, Close, Rewrite, Then, MapsTo, Dots, Dot, ListItem, Terminal, Literal, Variable}
use Rattle.rule_tokens.specs.declared.token.RuleToken.{RuleToken}
use Rattle.rule_tokens.specs.declared.split.RuleSplit.{RuleSplit}
use Rattle.rule_tokens.specs.Signs.{marks, fits, bytes_at}
use Rattle.rule_tokens.specs.Forms.{Lexicon, found, cell_number, terminal_size, terminal_of, name_of, literal_as, literal_at, longer, symbol_at, stands_at}
use Rattle.rule_tokens.specs.RuleTokens.{token_of, first_token, AreRuleTokens}
use Rattle.rule_tokens.specs.Splits.{lexicon_of, IsRuleSplit}
use Rattle.rule_tokens.specs.Variables.{Occurrence, occurrence_in, occurrence_of, occurrences, sort_in, written, first_of, with_numbers, names_of, variable_of, variables, sorted_name, first_sort, AreSorts}
use Rattle.rule_contents.specs.Words.{sort_of_name}
use Rattle.sound_sequences.proofs.Homes.{passed}
use Rattle.sound_sequences.proofs.Whats.{all_joined}

module _ (n : ℕ) where
  abbrev pub IsLow : Option ℕ → Type 0
  IsLow None = Unit {0}
  IsLow (Some sort) = sort < n

  -- the sort that is written of a variable has a name
  abbrev pub IsSorted : RuleKind → Type 0
  IsSorted (Open cell) = Unit {0}
  IsSorted (Close cell) = Unit {0}
  IsSorted Rewrite = Unit {0}
  IsSorted Then = Unit {0}
  IsSorted MapsTo = Unit {0}
  IsSorted Dots = Unit {0}
  IsSorted (Dot sort) = Unit {0}
  IsSorted ListItem = Unit {0}
  IsSorted (Terminal text) = Unit {0}
  IsSorted (Literal value) = Unit {0}
  IsSorted (Variable name sort) = IsLow sort

  abbrev pub AreSorted : List RuleToken → Type 0
  AreSorted tokens = AllByRecursion (λ (token : RuleToken). IsSorted token.kind) tokens

  abbrev IsSortedToken : Option (RuleToken × ℕ) → Type 0
  IsSortedToken None = Unit {0}
  IsSortedToken (Some token) = IsSorted token.0.kind

  -- ---- what stands at a place

  record IsFound (o : _) : Type 0 where
    sorted : IsSortedToken (option_map (token_of 0 []) o)

  longer_sorted : (one other : _) → IsFound one → IsFound other → IsFound (longer one other)
  longer_sorted None other p q = q
  longer_sorted (Some one) None p q = p
  longer_sorted (Some one) (Some other) p q = elim (nat_lt one.size other.size) as (λ b. IsFound (if b then Some other else Some one)) [ true ↦ q | false ↦ p ]

  where_sorted : (b : Bool) (o : _) → IsFound o → IsFound (if b then o else None)
  where_sorted true o sorted = sorted
  where_sorted false o sorted = record { sorted = tt }

  looked_sorted : (number : Option ℕ) (make : ℕ → RuleKind) (size : ℕ) → ((m : ℕ) → number ≡ Some m → IsSorted (make m))
      → IsFound (elim number [ Some m ↦ found (make m) size | None ↦ None ])
  looked_sorted None make size sorted = record { sorted = tt }
  looked_sorted (Some m) make size sorted = record { sorted = sorted m refl }

  one_sorted : (b : Bool) (k : RuleKind) (size : ℕ) → IsSorted k → IsFound (if b then found k size else None)
  one_sorted b k size sorted = where_sorted b (found k size) (record { sorted = sorted })

  terminal_sorted : (text : List ℕ) (at : ℕ) (tokens : List Token) (size : ℕ) → IsFound (terminal_of text at tokens size)
  terminal_sorted text at tokens zero = record { sorted = tt }
  terminal_sorted text at tokens (suc size) = record { sorted = tt }

  as_sorted : (k : Kind) (names : List (List ℕ)) (text : List ℕ) (token : Token) → IsFound (literal_as k names text token)
  as_sorted WordToken names text token = record { sorted = tt }
  as_sorted Int names text token = record { sorted = tt }
  as_sorted Str names text token = record { sorted = tt }
  as_sorted MarkToken names text token = record { sorted = tt }

  literal_sorted : (names : List (List ℕ)) (text : List ℕ) (tokens : List Token) → IsFound (literal_at names text tokens)
  literal_sorted names text [] = record { sorted = tt }
  literal_sorted names text (token ∷ tokens) = as_sorted token.kind names text token

  symbol_sorted : (text : List ℕ) (at : ℕ) (tokens : List Token) → IsFound (symbol_at text at tokens)
  symbol_sorted text at tokens =
      longer_sorted _ _ (one_sorted (fits text (marks (codes "=>")) at tokens) Rewrite 2 tt)
      (longer_sorted _ _ (one_sorted (fits text (marks (codes "~>")) at tokens) Then 2 tt)
      (longer_sorted _ _ (one_sorted (fits text (marks (codes "|->")) at tokens) MapsTo 3 tt)
      (longer_sorted _ _ (one_sorted (fits text (marks (codes "...")) at tokens) Dots 3 tt) (one_sorted (fits text (marks (codes ".")) at tokens) (Dot None) 1 tt))))

  -- the number of a name is below the count of names
  number_low : (names : List (List ℕ)) (name : List ℕ) (m : ℕ) → length names ≡ n → sort_number names name ≡ Some m → m < n
  number_low names name m many e =
      let p = passed (λ other. bytes_eq other name) 0 names m e in
      let within : p.place < length names = slice_get_within names p.place p.item p.is in
      let same : m ≡ 0 + p.place = p.found_is in
      omega (arith, within, same, many)

  stands_sorted : (l : Lexicon) (text : List ℕ) (at : ℕ) (tokens : List Token) → length l.sorts ≡ n → IsFound (stands_at l text at tokens)
  stands_sorted l text at tokens many =
      longer_sorted _ _ (terminal_sorted text at tokens (terminal_size l.terminals text at tokens))
      (longer_sorted _ _ (symbol_sorted text at tokens)
      (longer_sorted _ _ (where_sorted _ _ (looked_sorted (cell_number l.cells (bytes_at text tokens 1)) Open 3 (λ m e. tt)))
      (longer_sorted _ _ (where_sorted _ _ (looked_sorted (cell_number l.cells (bytes_at text tokens 2)) Close 4 (λ m e. tt)))
      (longer_sorted _ _ (where_sorted _ _ (looked_sorted (sort_number l.sorts (bytes_at text tokens 1)) (λ sort. Dot (Some sort)) 2 (λ m e. tt)))
      (longer_sorted _ _
      (where_sorted _ _
      (looked_sorted (sort_number l.sorts (bytes_at text tokens 2)) (λ sort. Variable (name_of l.names (bytes_at text tokens 0)) (Some sort)) 3
      (λ m e. number_low l.sorts (bytes_at text tokens 2) m many e)))
      (longer_sorted _ _ (one_sorted _ ListItem 1 tt)
      (longer_sorted _ _ (one_sorted _ (Variable (name_of l.names (bytes_at text tokens 0)) None) 1 tt) (literal_sorted l.names text tokens))))))))

  -- ---- tokens

  made_sorted : (at : ℕ) (tokens : List Token) (o : _) (token : RuleToken) (size : ℕ) → IsFound o → option_map (token_of at tokens) o ≡ Some (token, size) → IsSorted token.kind
  made_sorted at tokens None token size sorted is = absurd (let f : None ≡ Some (token, size) = is in cc)
  made_sorted at tokens (Some found) token size sorted is = subst IsSortedToken is sorted.sorted

  first_sorted : (l : Lexicon) (text : List ℕ) (tokens : List Token) (token : RuleToken) (size : ℕ) → length l.sorts ≡ n
      → first_token l text tokens ≡ Some (token, size) → IsSorted token.kind
  first_sorted l text [] token size many is = absurd (let f : None ≡ Some (token, size) = is in cc)
  first_sorted l text (first ∷ tokens) token size many is =
      made_sorted first.start (first ∷ tokens) (stands_at l text first.start (first ∷ tokens)) token size (stands_sorted l text first.start (first ∷ tokens) many) is

  tokens_sorted : (l : Lexicon) (text : List ℕ) (tokens : List RuleToken) (before after : List Token) → length l.sorts ≡ n → AreRuleTokens l text tokens before after
      → AreSorted tokens
  tokens_sorted l text [] before after many are = tt
  tokens_sorted l text (token ∷ tokens) before after many are =
      (first_sorted l text before token are.0 many are.1, tokens_sorted l text tokens (drop are.0 before) after many are.2)

  -- ---- the sorts of named variables

  abbrev AreLow : List ℕ → Type 0
  AreLow sorts = AllByRecursion (λ (sort : ℕ). sort < n) sorts

  abbrev IsLowOccurrence : Occurrence → Type 0
  IsLowOccurrence occurrence = IsLow occurrence.1

  found_low : (kind : RuleKind) → IsSorted kind → AllByRecursion IsLowOccurrence (occurrence_in kind)
  found_low (Variable None sort) is = tt
  found_low (Variable (Some name) sort) is = (is, tt)
  found_low (Open cell) is = tt
  found_low (Close cell) is = tt
  found_low Rewrite is = tt
  found_low Then is = tt
  found_low MapsTo is = tt
  found_low Dots is = tt
  found_low (Dot sort) is = tt
  found_low ListItem is = tt
  found_low (Terminal text) is = tt
  found_low (Literal value) is = tt

  all_found : (tokens : List RuleToken) → AreSorted tokens → AllByRecursion IsLowOccurrence (occurrences tokens)
  all_found [] all = tt
  all_found (token ∷ tokens) all = all_joined IsLowOccurrence (occurrence_of token) (occurrences tokens) (found_low token.kind all.0) (all_found tokens all.1)

  sort_low : (o : Option ℕ) → IsLow o → AreLow (sort_in o)
  sort_low None is = tt
  sort_low (Some sort) is = (is, tt)

  written_low : (name : ℕ) (found : List Occurrence) → AllByRecursion IsLowOccurrence found → AreLow (written name found)
  written_low name [] all = tt
  written_low name (one ∷ found) all =
      elim (name == one.0) as (λ b. AreLow (if b then sort_in one.1 ++ written name found else written name found)) [
        | true ↦ all_joined (λ (sort : ℕ). sort < n) (sort_in one.1) (written name found) (sort_low one.1 all.0) (written_low name found all.1)
        | false ↦ written_low name found all.1
      ]

  first_low : (sorts : List ℕ) → AreLow sorts → IsLow (first_of sorts)
  first_low [] all = tt
  first_low (sort ∷ sorts) all = all.0

  abbrev IsLowEntry : Symbol × Option ℕ → Type 0
  IsLowEntry entry = IsLow entry.1

  variables_low : (found : List Occurrence) (names : List ℕ) → AllByRecursion IsLowOccurrence found
      → AllByRecursion IsLowEntry (map first_sort (map (variable_of found) names))
  variables_low found [] all = tt
  variables_low found (name ∷ names) all = (first_low (written name found) (written_low name found all), variables_low found names all)

  entries_low : (sorts : List (Symbol × ℕ)) → AllByRecursion IsLowEntry (map sorted_name sorts) → AllByRecursion (λ (entry : Symbol × ℕ). entry.1 < n) sorts
  entries_low [] all = tt
  entries_low (entry ∷ sorts) all = (all.0, entries_low sorts all.1)

  name_low : (sorts : List (Symbol × ℕ)) (name : ℕ) → AllByRecursion (λ (entry : Symbol × ℕ). entry.1 < n) sorts → IsLow (sort_of_name sorts name)
  name_low [] name all = tt
  name_low (entry ∷ sorts) name all =
      elim (entry.0.0 == name) as (λ b. IsLow (if b then Some entry.1 else sort_of_name sorts name)) [ true ↦ all.0 | false ↦ name_low sorts name all.1 ]

  -- the sorts of the named variables have names
  pub named_low : (tokens : List RuleToken) (sorts : List (Symbol × ℕ)) (name : ℕ) → AreSorted tokens → AreSorts (variables tokens) sorts → IsLow (sort_of_name sorts name)
  named_low tokens sorts name all are =
      name_low sorts name
      (entries_low sorts (subst (AllByRecursion IsLowEntry) (sym are.0) (variables_low (occurrences tokens) (with_numbers [] (names_of (occurrences tokens))) (all_found tokens all))))

pub split_sorted : (g : Syntax) (cells : List CellShape) (before : List (List ℕ)) (text : List ℕ) (tokens : List Token) (after : List (List ℕ)) (split : RuleSplit)
    → IsRuleSplit g cells before text tokens after split → AreSorted (length g.names) split.tokens
split_sorted g cells before text tokens after split is =
    tokens_sorted (length g.names) (lexicon_of g cells after) text split.tokens tokens is.rest refl is.tokens_are
