-- Where in a definition's text the parts of a rule stand.
use Rattle.std.specs.Prelude.{ℕ, ◌-◌, List, take, drop, length, slice_get}
use Rattle.std.specs.Option.{option_map_or}
use Rattle.k_lexer.specs.declared.token.Token.{Token}
use Rattle.rule_tokens.specs.declared.token.RuleToken.{RuleToken}
use Rattle.rule_cells.specs.Forms.{end_of}

-- a part of a list, from one number up to another
abbrev pub between : {A : Type 0} → List A → ℕ → ℕ → List A
between xs first past = take (past - first) (drop first xs)

-- where the base token of a number begins; behind all of them, the end of the text
abbrev pub base_place : List ℕ → List Token → ℕ → ℕ
base_place text tokens number = option_map_or (λ (token : Token). token.start) (slice_get tokens number) (length text)

-- where the rule's token of a number begins; behind all of them, the place behind the rule
abbrev pub place_of : List RuleToken → ℕ → ℕ → ℕ
place_of tokens behind number = option_map_or (λ (token : RuleToken). token.start) (slice_get tokens number) behind

-- where a condition begins that has the tokens from one on; an empty one where the last token ends
abbrev pub condition_place : List RuleToken → ℕ → ℕ
condition_place tokens first = option_map_or (λ (token : RuleToken). token.start) (slice_get tokens first) (end_of tokens)
