-- Identifiers and named variables have the numbers of their words.
use Rattle.std.proofs.Common.{◌≡◌, ℕ, zero, suc, ◌-◌, ◌≤◌, Bool, true, false, ◌==◌, ◌&&◌, List, [], ◌∷◌, ◌++◌, take, drop, refl, sym, ap, subst, ◌∙◌, arith, Option, Some, None}
use Rattle.std.specs.Prelude.{is_some, unwrap_or, if◌then◌else◌, codes, option_map, nat_lt}
use Rattle.std.specs.List.{AllByRecursion}
use Rattle.std.proofs.lemmas.Bool.{and_parts}
use Rattle.std.proofs.lemmas.Bool.Decides.{nat_tests}
use Rattle.k_terms.specs.Names.{number_of}
use Rattle.k_lexer.specs.declared.token.Kind.{Kind}
use Rattle.k_lexer.specs.declared.token.Kind.TheVariants.{Word as WordToken, Int, Str, Mark as MarkToken}
use Rattle.k_lexer.specs.declared.token.Token.{Token}
use Rattle.k_lexer.specs.Before.{Stands, AllStand}
use Rattle.production_reader.specs.Lexemes.{span}
use Rattle.production_reader.specs.Allowed.{same_text}
use Rattle.grammar_terms.specs.Grammar.{Syntax, sort_number}
use Rattle.grammar_terms.specs.declared.word.Word.{Word as ProgramWord}
use Rattle.grammar_terms.specs.Values.{literal_of}
use Rattle.program_tokens.specs.Base.{bytes_of, IsNumbered, AllNumbered}
use Rattle.program_tokens.specs.Words.{other_word}
use Rattle.program_tokens.proofs.Naming.{IsNumberedAs, all_numbered}
use Rattle.program_tokens.proofs.Reading.{choose, drop_all}
use Rattle.rule_terms.specs.declared.defs.CellShape.{CellShape}
use Rattle.rule_tokens.specs.declared.signs.Sign.{Sign}
use Rattle.rule_tokens.specs.declared.signs.Sign.TheVariants.{Word}
use Rattle.rule_tokens.specs.declared.token.RuleKind.{RuleKind}
use Rattle.rule_tokens.specs.declared.token.RuleKind.TheVariants.{Open, Close, Rewrite, Then, MapsTo, Dots, Dot, ListItem, Variable}
use Rattle.rule_tokens.specs.declared.token.RuleToken.{RuleToken}
use Rattle.rule_tokens.specs.declared.token.Found.{Found}
use Rattle.rule_tokens.specs.declared.split.RuleSplit.{RuleSplit}
use Rattle.rule_tokens.specs.Signs.{marks, fits, bytes_at, end_at, is_word}
use Rattle.rule_tokens.specs.Forms.{Lexicon, found, cell_number, terminal_size, terminal_of, is_wild, is_variable, name_of, variable_at, sorted_at, literal_as, longer, symbol_at, stands_at}
use Rattle.rule_tokens.specs.RuleTokens.{token_of, first_token, AreRuleTokens}
use Rattle.rule_tokens.specs.Splits.{lexicon_of, IsRuleSplit}
use Rattle.rule_tokens.specs.Laws.{IsSymbol, IsNameOf, IsNamed}
use Rattle.rule_tokens.proofs.Runs.{end_inside, fits_run}
use Rattle.rule_tokens.proofs.Reading.{taken, no_token, same_token}

known : (o : Option ℕ) → is_some o ≡ true → o ≡ Some (unwrap_or o 0)
known None some = absurd (cc)
known (Some n) some = refl

-- ---- what stands at a place

module _ (names : List (List ℕ)) (text : List ℕ) (at : ℕ) (tokens : List Token) where
  abbrev IsOwn : Option Found → Type 0
  IsOwn None = Unit {0}
  IsOwn (Some found) = IsNamed names (span text at (end_at tokens (found.size - 1))) found.kind

  longer_own : (one other : Option Found) → IsOwn one → IsOwn other → IsOwn (longer one other)
  longer_own None other p q = q
  longer_own (Some one) None p q = p
  longer_own (Some one) (Some other) p q = choose IsOwn (nat_lt one.size other.size) (Some other) (Some one) q p

  where_own : (b : Bool) (o : Option Found) → (b ≡ true → IsOwn o) → IsOwn (if b then o else None)
  where_own true o own = own refl
  where_own false o own = tt

  looked_own : (number : Option ℕ) (make : ℕ → RuleKind) (size : ℕ) → ((n : ℕ) → IsNamed names (span text at (end_at tokens (size - 1))) (make n))
      → IsOwn (elim number [ Some n ↦ found (make n) size | None ↦ None ])
  looked_own None make size own = tt
  looked_own (Some n) make size own = own n

  symbol_own : IsOwn (symbol_at text at tokens)
  symbol_own =
      longer_own _ _ (where_own (fits text (marks (codes "=>")) at tokens) (found Rewrite 2) (λ fit. tt))
      (longer_own _ _ (where_own (fits text (marks (codes "~>")) at tokens) (found Then 2) (λ fit. tt))
      (longer_own _ _ (where_own (fits text (marks (codes "|->")) at tokens) (found MapsTo 3) (λ fit. tt))
      (longer_own _ _ (where_own (fits text (marks (codes "...")) at tokens) (found Dots 3) (λ fit. tt)) (where_own (fits text (marks (codes ".")) at tokens) (found (Dot None) 1) (λ fit. tt)))))

  terminal_own : (size : ℕ) → IsOwn (terminal_of text at tokens size)
  terminal_own zero = tt
  terminal_own (suc n) = tt

-- ---- words

word_numbered : (kind : Kind) (names : List (List ℕ)) (word : List ℕ) → is_word kind ≡ true → IsNumberedAs kind names word → is_some (number_of names word) ≡ true
word_numbered WordToken names word is numbered = numbered
word_numbered Int names word is numbered = absurd (cc)
word_numbered Str names word is numbered = absurd (cc)
word_numbered MarkToken names word is numbered = absurd (cc)

-- a word of the first sign
record IsFirstWord (names : List (List ℕ)) (text : List ℕ) (at : ℕ) (token : Token) : Type 0 where
  begins : token.start ≡ at
  numbered : is_some (number_of names (bytes_of text token)) ≡ true

first_word : (names : List (List ℕ)) (text : List ℕ) (signs : List Sign) (at : ℕ) (token : Token) (tokens : List Token) → IsNumbered text names token
    → fits text (Word ∷ signs) at (token ∷ tokens) ≡ true → IsFirstWord names text at token
first_word names text signs at token tokens numbered fit =
    let parts = and_parts ((token.start == at) && is_word token.kind) (fits text signs token.end tokens) fit in
    let first = and_parts (token.start == at) (is_word token.kind) parts.0 in
    let here : (token.start == at) ≡ true = first.0 in
    record { begins = grind (arith, nat_tests); numbered = word_numbered token.kind names (bytes_of text token) first.1 numbered }

rest_fits : (text : List ℕ) (signs : List Sign) (at : ℕ) (token : Token) (tokens : List Token) → fits text (Word ∷ signs) at (token ∷ tokens) ≡ true → fits text signs token.end tokens ≡ true
rest_fits text signs at token tokens fit = (and_parts ((token.start == at) && is_word token.kind) (fits text signs token.end tokens) fit).1

take_front : (m n : ℕ) (bytes : List ℕ) → m ≤ n → take m (take n bytes) ≡ take m bytes
take_front zero n bytes less = refl
take_front (suc m) zero bytes less = absurd (omega arith)
take_front (suc m) (suc n) [] less = refl
take_front (suc m) (suc n) (b ∷ bytes) less = ap (λ bs. b ∷ bs) (take_front m n bytes (omega arith))

name_own : (names : List (List ℕ)) (word bytes : List ℕ) (size : ℕ) (b : Bool) → is_some (number_of names word) ≡ true → take size bytes ≡ word
    → IsNameOf names bytes (if b then None else Some (record { 0 = unwrap_or (number_of names word) 0 }))
name_own names word bytes size true numbered is = tt
name_own names word bytes size false numbered is = (size, ap (number_of names) is ∙ known (number_of names word) numbered)

-- the name of the word of a first token, in the text from its place up to an end
first_own : (names : List (List ℕ)) (text : List ℕ) (at end : ℕ) (token : Token) → IsFirstWord names text at token → token.end ≤ end
    → IsNameOf names (span text at end) (name_of names (bytes_of text token))
first_own names text at end token first least =
    let less : token.end - at ≤ end - at = omega (arith, least) in
    let front : take (token.end - at) (span text at end) ≡ bytes_of text token =
    take_front (token.end - at) (end - at) (drop at text) less ∙ ap (λ n. span text n token.end) (sym first.begins) in
    name_own names (bytes_of text token) (span text at end) (token.end - at) (is_wild (bytes_of text token)) first.numbered front

module _ (terminals sorts names : List (List ℕ)) (text : List ℕ) (at : ℕ) where
  variable_own : (tokens : List Token) → AllNumbered text names tokens → IsOwn names text at tokens (variable_at terminals names text at tokens)
  variable_own [] all = tt
  variable_own (token ∷ tokens) all =
      where_own names text at (token ∷ tokens) (fits text (Word ∷ []) at (token ∷ tokens) && is_variable terminals (bytes_of text token)) _
      (λ both.
      first_own names text at token.end token
      (first_word names text [] at token tokens all.0 (and_parts (fits text (Word ∷ []) at (token ∷ tokens)) (is_variable terminals (bytes_of text token)) both).0) (omega arith))

  sorted_own : (tokens : List Token) → AllStand text tokens → AllNumbered text names tokens → IsOwn names text at tokens (sorted_at terminals sorts names text at tokens)
  sorted_own [] stand all = tt
  sorted_own (token ∷ tokens) stand all =
      where_own names text at (token ∷ tokens) (fits text (Word ∷ marks (codes ":") ++ Word ∷ []) at (token ∷ tokens) && is_variable terminals (bytes_of text token)) _
      (λ both.
      let fit = (and_parts (fits text (Word ∷ marks (codes ":") ++ Word ∷ []) at (token ∷ tokens)) (is_variable terminals (bytes_of text token)) both).0 in
      let more = fits_run text (marks (codes ":") ++ Word ∷ []) token.end tokens (rest_fits text (marks (codes ":") ++ Word ∷ []) at token tokens fit) in
      let last = end_inside text token.end 1 tokens stand.1 (omega (arith, more)) in
      looked_own names text at (token ∷ tokens) (sort_number sorts (bytes_at text tokens 1)) (λ sort. Variable (name_of names (bytes_of text token)) (Some sort)) 3
      (λ n. first_own names text at (end_at tokens 1) token (first_word names text (marks (codes ":") ++ Word ∷ []) at token tokens all.0 fit) (omega (arith, last.0))))

word_own : (names : List (List ℕ)) (token : Token) (bytes : List ℕ) → is_some (number_of names bytes) ≡ true → IsSymbol names bytes (literal_of (other_word names token bytes).kind)
word_own names token bytes numbered =
    choose (λ (word : ProgramWord). IsSymbol names bytes (literal_of word.kind)) (same_text bytes (codes "true")) _ _ tt
    (choose (λ (word : ProgramWord). IsSymbol names bytes (literal_of word.kind)) (same_text bytes (codes "false")) _ _ tt (known (number_of names bytes) numbered))

literal_own : (kind : Kind) (names : List (List ℕ)) (text : List ℕ) (token : Token) (tokens : List Token) → IsNumberedAs kind names (bytes_of text token)
    → IsOwn names text token.start (token ∷ tokens) (literal_as kind names text token)
literal_own WordToken names text token tokens numbered = word_own names token (bytes_of text token) numbered
literal_own Int names text token tokens numbered = tt
literal_own Str names text token tokens numbered = tt
literal_own MarkToken names text token tokens numbered = tt

stands_own : (l : Lexicon) (text : List ℕ) (token : Token) (tokens : List Token) → AllStand text (token ∷ tokens) → AllNumbered text l.names (token ∷ tokens)
    → IsOwn l.names text token.start (token ∷ tokens) (stands_at l text token.start (token ∷ tokens))
stands_own l text token tokens stand all =
    let at = token.start in
    let both = token ∷ tokens in
    longer_own l.names text at both _ _ (terminal_own l.names text at both (terminal_size l.terminals text at both))
    (longer_own l.names text at both _ _ (symbol_own l.names text at both)
    (longer_own l.names text at both _ _
    (where_own l.names text at both (fits text (marks (codes "<") ++ Word ∷ marks (codes ">")) at both) _ (λ fit. looked_own l.names text at both (cell_number l.cells (bytes_at text both 1)) Open 3 (λ n. tt)))
    (longer_own l.names text at both _ _
    (where_own l.names text at both (fits text (marks (codes "</") ++ Word ∷ marks (codes ">")) at both) _ (λ fit. looked_own l.names text at both (cell_number l.cells (bytes_at text both 2)) Close 4 (λ n. tt)))
    (longer_own l.names text at both _ _
    (where_own l.names text at both (fits text (marks (codes ".") ++ Word ∷ []) at both) _ (λ fit. looked_own l.names text at both (sort_number l.sorts (bytes_at text both 1)) (λ sort. Dot (Some sort)) 2 (λ n. tt)))
    (longer_own l.names text at both _ _ (sorted_own l.terminals l.sorts l.names text at both stand all)
    (longer_own l.names text at both _ _ (where_own l.names text at both (fits text (Word ∷ []) at both && same_text (bytes_at text both 0) (codes "ListItem")) (found ListItem 1) (λ fit. tt))
    (longer_own l.names text at both _ _ (variable_own l.terminals l.sorts l.names text at both all) (literal_own token.kind l.names text token tokens all.0))))))))

-- ---- all tokens

abbrev IsOwnToken : List (List ℕ) → List ℕ → RuleToken → Type 0
IsOwnToken names text token = IsNamed names (span text token.start token.end) token.kind

made_own : (names : List (List ℕ)) (text : List ℕ) (at : ℕ) (tokens : List Token) (o : Option Found) (token : RuleToken) (size : ℕ) → IsOwn names text at tokens o
    → option_map (token_of at tokens) o ≡ taken token size → IsOwnToken names text token
made_own names text at tokens None token size own is = absurd (no_token is)
made_own names text at tokens (Some found) token size own is = subst (IsOwnToken names text) (same_token is).0 own

token_own : (l : Lexicon) (text : List ℕ) (tokens : List Token) (token : RuleToken) (size : ℕ) → AllStand text tokens → AllNumbered text l.names tokens
    → first_token l text tokens ≡ taken token size → IsOwnToken l.names text token
token_own l text [] token size stand all is = absurd (no_token is)
token_own l text (first ∷ tokens) token size stand all is =
    made_own l.names text first.start (first ∷ tokens) (stands_at l text first.start (first ∷ tokens)) token size (stands_own l text first tokens stand all) is

tokens_own : (l : Lexicon) (text : List ℕ) (tokens : List RuleToken) (before after : List Token) → AllStand text before → AllNumbered text l.names before → AreRuleTokens l text tokens before after
    → AllByRecursion (IsOwnToken l.names text) tokens
tokens_own l text [] before after stand all are = tt
tokens_own l text (token ∷ tokens) before after stand all are = (
  token_own l text before token are.0 stand all are.1,
  tokens_own l text tokens (drop are.0 before) after (drop_all (Stands text) are.0 before stand) (drop_all (IsNumbered text l.names) are.0 before all) are.2,
)

pub rule_symbols : (g : Syntax) (cells : List CellShape) (before : List (List ℕ)) (text : List ℕ) (tokens : List Token) (after : List (List ℕ)) (split : RuleSplit) → AllStand text tokens
    → IsRuleSplit g cells before text tokens after split → AllByRecursion (λ token. IsNamed after (span text token.start token.end) token.kind) split.tokens
rule_symbols g cells before text tokens after split stand is =
    tokens_own (lexicon_of g cells after) text split.tokens tokens is.rest stand (subst (λ names. AllNumbered text names tokens) (sym is.names) (all_numbered text before tokens)) is.tokens_are
