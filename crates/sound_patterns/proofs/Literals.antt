-- The literals of a rule are numbers, truth values, strings and identifiers.
use Rattle.std.proofs.Common.{◌≡◌, ℕ, zero, suc, Bool, true, false, List, [], ◌∷◌, drop, Option, Some, None, refl, subst}
use Rattle.std.specs.Prelude.{if◌then◌else◌, nat_lt, codes, option_map}
use Rattle.std.specs.List.{AllByRecursion}
use Rattle.k_lexer.specs.declared.token.Kind.{Kind}
use Rattle.k_lexer.specs.declared.token.Kind.TheVariants.{Word as WordToken, Int, Str, Mark as MarkToken}
use Rattle.k_lexer.specs.declared.token.Token.{Token}
use Rattle.production_reader.specs.Allowed.{same_text}
use Rattle.program_tokens.specs.Base.{bytes_of}
use Rattle.program_tokens.specs.Words.{other_word}
use Rattle.grammar_terms.specs.declared.word.Word.{Word}
use Rattle.grammar_terms.specs.Grammar.{Syntax, sort_number}
use Rattle.grammar_terms.specs.Values.{literal_of, is_plain_value}
use Rattle.rule_terms.specs.declared.defs.CellShape.{CellShape}
use Rattle.rule_tokens.specs.declared.token.RuleKind.{RuleKind}
use Rattle.rule_tokens.specs.declared.token.RuleKind.TheVariants.{Open, Close, Rewrite, Then, MapsTo, Dots, Dot, ListItem, Terminal, Literal, Variable}
use Rattle.rule_tokens.specs.declared.token.RuleToken.{RuleToken}
use Rattle.rule_tokens.specs.declared.split.RuleSplit.{RuleSplit}
use Rattle.rule_tokens.specs.Signs.{marks, fits, bytes_at}
use Rattle.rule_tokens.specs.Forms.{Lexicon, found, cell_number, terminal_size, terminal_of, name_of, literal_as, literal_at, longer, symbol_at, stands_at}
use Rattle.rule_tokens.specs.RuleTokens.{token_of, first_token, AreRuleTokens}
use Rattle.rule_tokens.specs.Splits.{lexicon_of, IsRuleSplit}

-- a literal is of one of these kinds
abbrev pub IsPlain : RuleKind → Type 0
IsPlain (Open cell) = Unit {0}
IsPlain (Close cell) = Unit {0}
IsPlain Rewrite = Unit {0}
IsPlain Then = Unit {0}
IsPlain MapsTo = Unit {0}
IsPlain Dots = Unit {0}
IsPlain (Dot sort) = Unit {0}
IsPlain ListItem = Unit {0}
IsPlain (Terminal text) = Unit {0}
IsPlain (Literal value) = is_plain_value value ≡ true
IsPlain (Variable name sort) = Unit {0}

abbrev pub ArePlain : List RuleToken → Type 0
ArePlain tokens = AllByRecursion (λ (token : RuleToken). IsPlain token.kind) tokens

abbrev IsPlainToken : Option (RuleToken × ℕ) → Type 0
IsPlainToken None = Unit {0}
IsPlainToken (Some token) = IsPlain token.0.kind

-- ---- what stands at a place

record IsFound (o : _) : Type 0 where
  plain : IsPlainToken (option_map (token_of 0 []) o)

longer_plain : (one other : _) → IsFound one → IsFound other → IsFound (longer one other)
longer_plain None other p q = q
longer_plain (Some one) None p q = p
longer_plain (Some one) (Some other) p q = elim (nat_lt one.size other.size) as (λ b. IsFound (if b then Some other else Some one)) [ true ↦ q | false ↦ p ]

where_plain : (b : Bool) (o : _) → IsFound o → IsFound (if b then o else None)
where_plain true o plain = plain
where_plain false o plain = record { plain = tt }

looked_plain : (number : Option ℕ) (make : ℕ → RuleKind) (size : ℕ) → ((m : ℕ) → IsPlain (make m)) → IsFound (elim number [ Some m ↦ found (make m) size | None ↦ None ])
looked_plain None make size plain = record { plain = tt }
looked_plain (Some m) make size plain = record { plain = plain m }

one_plain : (b : Bool) (k : RuleKind) (size : ℕ) → IsPlain k → IsFound (if b then found k size else None)
one_plain b k size plain = where_plain b (found k size) (record { plain = plain })

terminal_plain : (text : List ℕ) (at : ℕ) (tokens : List Token) (size : ℕ) → IsFound (terminal_of text at tokens size)
terminal_plain text at tokens zero = record { plain = tt }
terminal_plain text at tokens (suc size) = record { plain = tt }

-- a word that is no terminal is a truth value or an identifier
chosen_plain : (one other : Bool) (first second third : Word) → is_plain_value (literal_of first.kind) ≡ true → is_plain_value (literal_of second.kind) ≡ true
    → is_plain_value (literal_of third.kind) ≡ true → is_plain_value (literal_of (let word : Word = if one then first else (if other then second else third) in word).kind) ≡ true
chosen_plain true other first second third p q r = p
chosen_plain false true first second third p q r = q
chosen_plain false false first second third p q r = r

word_plain : (names : List (List ℕ)) (token : Token) (bytes : List ℕ) → is_plain_value (literal_of (other_word names token bytes).kind) ≡ true
word_plain names token bytes = chosen_plain (same_text bytes (codes "true")) (same_text bytes (codes "false")) _ _ _ refl refl refl

as_plain : (k : Kind) (names : List (List ℕ)) (text : List ℕ) (token : Token) → IsFound (literal_as k names text token)
as_plain WordToken names text token = record { plain = word_plain names token (bytes_of text token) }
as_plain Int names text token = record { plain = refl }
as_plain Str names text token = record { plain = refl }
as_plain MarkToken names text token = record { plain = tt }

literal_plain : (names : List (List ℕ)) (text : List ℕ) (tokens : List Token) → IsFound (literal_at names text tokens)
literal_plain names text [] = record { plain = tt }
literal_plain names text (token ∷ tokens) = as_plain token.kind names text token

symbol_plain : (text : List ℕ) (at : ℕ) (tokens : List Token) → IsFound (symbol_at text at tokens)
symbol_plain text at tokens =
    longer_plain _ _ (one_plain (fits text (marks (codes "=>")) at tokens) Rewrite 2 tt)
    (longer_plain _ _ (one_plain (fits text (marks (codes "~>")) at tokens) Then 2 tt)
    (longer_plain _ _ (one_plain (fits text (marks (codes "|->")) at tokens) MapsTo 3 tt)
    (longer_plain _ _ (one_plain (fits text (marks (codes "...")) at tokens) Dots 3 tt) (one_plain (fits text (marks (codes ".")) at tokens) (Dot None) 1 tt))))

stands_plain : (l : Lexicon) (text : List ℕ) (at : ℕ) (tokens : List Token) → IsFound (stands_at l text at tokens)
stands_plain l text at tokens =
    longer_plain _ _ (terminal_plain text at tokens (terminal_size l.terminals text at tokens))
    (longer_plain _ _ (symbol_plain text at tokens)
    (longer_plain _ _ (where_plain _ _ (looked_plain (cell_number l.cells (bytes_at text tokens 1)) Open 3 (λ m. tt)))
    (longer_plain _ _ (where_plain _ _ (looked_plain (cell_number l.cells (bytes_at text tokens 2)) Close 4 (λ m. tt)))
    (longer_plain _ _ (where_plain _ _ (looked_plain (sort_number l.sorts (bytes_at text tokens 1)) (λ sort. Dot (Some sort)) 2 (λ m. tt)))
    (longer_plain _ _
    (where_plain _ _ (looked_plain (sort_number l.sorts (bytes_at text tokens 2)) (λ sort. Variable (name_of l.names (bytes_at text tokens 0)) (Some sort)) 3 (λ m. tt)))
    (longer_plain _ _ (one_plain _ ListItem 1 tt)
    (longer_plain _ _ (one_plain _ (Variable (name_of l.names (bytes_at text tokens 0)) None) 1 tt) (literal_plain l.names text tokens))))))))

-- ---- tokens

made_plain : (at : ℕ) (tokens : List Token) (o : _) (token : RuleToken) (size : ℕ) → IsFound o → option_map (token_of at tokens) o ≡ Some (token, size) → IsPlain token.kind
made_plain at tokens None token size plain is = absurd (let f : None ≡ Some (token, size) = is in cc)
made_plain at tokens (Some found) token size plain is = subst IsPlainToken is plain.plain

first_plain : (l : Lexicon) (text : List ℕ) (tokens : List Token) (token : RuleToken) (size : ℕ) → first_token l text tokens ≡ Some (token, size) → IsPlain token.kind
first_plain l text [] token size is = absurd (let f : None ≡ Some (token, size) = is in cc)
first_plain l text (first ∷ tokens) token size is =
    made_plain first.start (first ∷ tokens) (stands_at l text first.start (first ∷ tokens)) token size (stands_plain l text first.start (first ∷ tokens)) is

tokens_plain : (l : Lexicon) (text : List ℕ) (tokens : List RuleToken) (before after : List Token) → AreRuleTokens l text tokens before after → ArePlain tokens
tokens_plain l text [] before after are = tt
tokens_plain l text (token ∷ tokens) before after are = (first_plain l text before token are.0 are.1, tokens_plain l text tokens (drop are.0 before) after are.2)

pub split_plain : (g : Syntax) (cells : List CellShape) (before : List (List ℕ)) (text : List ℕ) (tokens : List Token) (after : List (List ℕ)) (split : RuleSplit)
    → IsRuleSplit g cells before text tokens after split → ArePlain split.tokens
split_plain g cells before text tokens after split is = tokens_plain (lexicon_of g cells after) text split.tokens tokens is.rest is.tokens_are
