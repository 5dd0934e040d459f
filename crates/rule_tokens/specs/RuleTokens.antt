-- The tokens of a rule.
use Rattle.std.specs.Prelude.{◌≡◌, ◌<◌, ◌≤◌, ℕ, ◌-◌, ◌&&◌, Bool, true, false, List, [], ◌∷◌, length, drop, Option, Some, None, option_map}
use Rattle.std.specs.List.{find, AllByRecursion}
use Rattle.k_terms.specs.declared.value.Value.{Value, Int, Bool as Truth, Str, Id, Node', Items', Seq', Map', List', Freezer'}
use Rattle.k_lexer.specs.declared.token.Token.{Token}
use Rattle.k_lexer.specs.Tokens.{IsLongest}
use Rattle.production_reader.specs.Lexemes.{span}
use Rattle.program_tokens.specs.Words.{are_wide}
use Rattle.rule_tokens.specs.declared.token.RuleKind.{RuleKind}
use Rattle.rule_tokens.specs.declared.token.RuleKind.TheVariants.{Open, Close, Rewrite, Then, MapsTo, Dots, Dot, ListItem, Terminal, Literal, Variable}
use Rattle.rule_tokens.specs.declared.token.RuleToken.{RuleToken}
use Rattle.rule_tokens.specs.declared.token.Found.{Found}
use Rattle.rule_tokens.specs.Signs.{end_at}
use Rattle.rule_tokens.specs.Forms.{Lexicon, stands_at}

-- no longer base token stands at the place of this one
abbrev pub IsWhole : List ℕ → Token → Type 0
IsWhole text token = IsLongest token.kind (drop token.start text) (token.end - token.start)

abbrev pub AllWhole : List ℕ → List Token → Type 0
AllWhole text tokens = AllByRecursion (IsWhole text) tokens

-- the token that is found at a place, with the number of its base tokens
abbrev pub token_of : ℕ → List Token → Found → RuleToken × ℕ
token_of at tokens found = (record { kind = found.kind; start = at; end = end_at tokens (found.size - 1) }, found.size)

-- the first token of base tokens, with the number of its base tokens
abbrev pub first_token : Lexicon → List ℕ → List Token → Option (RuleToken × ℕ)
first_token lexicon text [] = None
first_token lexicon text (token ∷ tokens) = option_map (token_of token.start (token ∷ tokens)) (stands_at lexicon text token.start (token ∷ tokens))

-- These tokens follow one another in base tokens, and leave the rest of them.
abbrev pub AreRuleTokens : Lexicon → List ℕ → List RuleToken → List Token → List Token → Type 0
AreRuleTokens lexicon text [] before after = before ≡ after
AreRuleTokens lexicon text (token ∷ tokens) before after =
    (size : ℕ) × (first_token lexicon text before ≡ Some (token, size)) × AreRuleTokens lexicon text tokens (drop size before) after

abbrev pub is_integer : Value → Bool
is_integer (Int number) = true
is_integer (Truth truth) = false
is_integer (Str text) = false
is_integer (Id symbol) = false
is_integer (Node' _ _ _) = false
is_integer (Items' _ _ _) = false
is_integer (Seq' _ _) = false
is_integer (Map' _ _) = false
is_integer (List' _ _) = false
is_integer (Freezer' _ _ _ _) = false

abbrev pub is_number : RuleKind → Bool
is_number (Literal value) = is_integer value
is_number (Open cell) = false
is_number (Close cell) = false
is_number Rewrite = false
is_number Then = false
is_number MapsTo = false
is_number Dots = false
is_number (Dot sort) = false
is_number ListItem = false
is_number (Terminal text) = false
is_number (Variable name sort) = false

-- a number that is greater than the greatest
abbrev pub is_wide : List ℕ → RuleToken → Bool
is_wide text token = is_number token.kind && are_wide (span text token.start token.end)

-- where the first such number stands, if there is one
abbrev pub first_wide : List ℕ → List RuleToken → Option ℕ
first_wide text tokens = option_map (λ token. token.start) (find (is_wide text) tokens)

-- a token stands in the text
abbrev pub IsInside : List ℕ → RuleToken → Type 0
IsInside text token = (token.start < token.end) × (token.end ≤ length text)
