-- The tags of a rule are those of declared cells.
use Rattle.std.proofs.Common.{◌≡◌, ℕ, zero, suc, ◌+◌, ◌<◌, Bool, true, false, cond, List, [], ◌∷◌, ◌++◌, take, drop, length, Option, Some, None, refl, subst, arith}
use Rattle.std.proofs.lemmas.List.{length-map}
use Rattle.std.specs.Prelude.{if◌then◌else◌, nat_lt, codes, option_map}
use Rattle.std.specs.List.{AllByRecursion, position_from}
use Rattle.std.specs.Str.{bytes_eq}
use Rattle.k_lexer.specs.declared.token.Kind.{Kind}
use Rattle.k_lexer.specs.declared.token.Kind.TheVariants.{Word as WordToken, Int, Str, Mark as MarkToken}
use Rattle.k_lexer.specs.declared.token.Token.{Token}
use Rattle.grammar_terms.specs.Grammar.{Syntax, sort_number}
use Rattle.rule_terms.specs.declared.defs.CellShape.{CellShape}
use Rattle.rule_tokens.specs.declared.token.RuleKind.{RuleKind}
use Rattle.rule_tokens.specs.declared.token.RuleKind.TheVariants.{Open, Close, Rewrite, Then, MapsTo, Dots, Dot, ListItem, Terminal, Literal, Variable}
use Rattle.rule_tokens.specs.declared.token.RuleToken.{RuleToken}
use Rattle.rule_tokens.specs.declared.split.RuleSplit.{RuleSplit}
use Rattle.rule_tokens.specs.Signs.{marks, fits, bytes_at}
use Rattle.rule_tokens.specs.Forms.{Lexicon, found, cell_number, terminal_size, terminal_of, name_of, literal_as, literal_at, longer, symbol_at, stands_at}
use Rattle.rule_tokens.specs.RuleTokens.{token_of, first_token, AreRuleTokens}
use Rattle.rule_tokens.specs.Splits.{lexicon_of, IsRuleSplit}
use Rattle.draft_laws.proofs.Tags.{opens_with, opens}

-- an opening tag is one of so many cells
abbrev pub IsKnown : ℕ → RuleKind → Type 0
IsKnown n (Open cell) = cell < n
IsKnown n (Close cell) = Unit {0}
IsKnown n Rewrite = Unit {0}
IsKnown n Then = Unit {0}
IsKnown n MapsTo = Unit {0}
IsKnown n Dots = Unit {0}
IsKnown n (Dot sort) = Unit {0}
IsKnown n ListItem = Unit {0}
IsKnown n (Terminal text) = Unit {0}
IsKnown n (Literal value) = Unit {0}
IsKnown n (Variable name sort) = Unit {0}

abbrev IsKnownToken : ℕ → Option (RuleToken × ℕ) → Type 0
IsKnownToken n None = Unit {0}
IsKnownToken n (Some token) = IsKnown n token.0.kind

-- what is found at a number is below the end
pub position_within : {X : Type 0} (test : X → Bool) (at : ℕ) (xs : List X) (found : ℕ) → position_from test at xs ≡ Some found → found < at + length xs
position_within test at [] found e = absurd (let f : None ≡ Some found = e in cc)
position_within test at (x ∷ xs) found e =
    elim (test x) as (λ b. cond b (Some at) (position_from test (at + 1) xs) ≡ Some found → found < at + suc (length xs)) [
      | true ↦ λ here. let same : at ≡ found = cc in omega (arith, same)
      | false ↦ λ later. let less : found < at + 1 + length xs = position_within test (at + 1) xs found later in omega (arith, less)
    ] e

-- ---- what stands at a place

module _ (n : ℕ) where
  record IsFound (o : _) : Type 0 where
    known : IsKnownToken n (option_map (token_of 0 []) o)

  longer_known : (one other : _) → IsFound one → IsFound other → IsFound (longer one other)
  longer_known None other p q = q
  longer_known (Some one) None p q = p
  longer_known (Some one) (Some other) p q = elim (nat_lt one.size other.size) as (λ b. IsFound (if b then Some other else Some one)) [ true ↦ q | false ↦ p ]

  where_known : (b : Bool) (o : _) → IsFound o → IsFound (if b then o else None)
  where_known true o known = known
  where_known false o known = record { known = tt }

  looked_known : (number : Option ℕ) (make : ℕ → RuleKind) (size : ℕ) → ((m : ℕ) → number ≡ Some m → IsKnown n (make m))
      → IsFound (elim number [ Some m ↦ found (make m) size | None ↦ None ])
  looked_known None make size known = record { known = tt }
  looked_known (Some m) make size known = record { known = known m refl }

  terminal_known : (text : List ℕ) (at : ℕ) (tokens : List Token) (size : ℕ) → IsFound (terminal_of text at tokens size)
  terminal_known text at tokens zero = record { known = tt }
  terminal_known text at tokens (suc size) = record { known = tt }

  as_known : (k : Kind) (names : List (List ℕ)) (text : List ℕ) (token : Token) → IsFound (literal_as k names text token)
  as_known WordToken names text token = record { known = tt }
  as_known Int names text token = record { known = tt }
  as_known Str names text token = record { known = tt }
  as_known MarkToken names text token = record { known = tt }

  literal_known : (names : List (List ℕ)) (text : List ℕ) (tokens : List Token) → IsFound (literal_at names text tokens)
  literal_known names text [] = record { known = tt }
  literal_known names text (token ∷ tokens) = as_known token.kind names text token

  plain_known : (b : Bool) (k : RuleKind) (size : ℕ) → IsKnown n k → IsFound (if b then found k size else None)
  plain_known b k size known = where_known b (found k size) (record { known = known })

  symbol_known : (text : List ℕ) (at : ℕ) (tokens : List Token) → IsFound (symbol_at text at tokens)
  symbol_known text at tokens =
      longer_known _ _ (plain_known (fits text (marks (codes "=>")) at tokens) Rewrite 2 tt)
      (longer_known _ _ (plain_known (fits text (marks (codes "~>")) at tokens) Then 2 tt)
      (longer_known _ _ (plain_known (fits text (marks (codes "|->")) at tokens) MapsTo 3 tt)
      (longer_known _ _ (plain_known (fits text (marks (codes "...")) at tokens) Dots 3 tt) (plain_known (fits text (marks (codes ".")) at tokens) (Dot None) 1 tt))))

  stands_known : (l : Lexicon) (text : List ℕ) (at : ℕ) (tokens : List Token) → length l.cells ≡ n → IsFound (stands_at l text at tokens)
  stands_known l text at tokens same =
      longer_known _ _ (terminal_known text at tokens (terminal_size l.terminals text at tokens))
      (longer_known _ _ (symbol_known text at tokens)
      (longer_known _ _
      (where_known _ _ (looked_known (cell_number l.cells (bytes_at text tokens 1)) Open 3
      (λ m is. let less = position_within (λ other. bytes_eq other (bytes_at text tokens 1)) 0 l.cells m is in omega (arith, less, same))))
      (longer_known _ _
      (where_known _ _ (looked_known (cell_number l.cells (bytes_at text tokens 2)) Close 4 (λ m is. tt)))
      (longer_known _ _
      (where_known _ _ (looked_known (sort_number l.sorts (bytes_at text tokens 1)) (λ sort. Dot (Some sort)) 2 (λ m is. tt)))
      (longer_known _ _
      (where_known _ _
      (looked_known (sort_number l.sorts (bytes_at text tokens 2)) (λ sort. Variable (name_of l.names (bytes_at text tokens 0)) (Some sort)) 3 (λ m is. tt)))
      (longer_known _ _ (plain_known _ ListItem 1 tt)
      (longer_known _ _
      (plain_known _ (Variable (name_of l.names (bytes_at text tokens 0)) None) 1 tt)
      (literal_known l.names text tokens))))))))

  made_known : (at : ℕ) (tokens : List Token) (o : _) (token : RuleToken) (size : ℕ) → IsFound o → option_map (token_of at tokens) o ≡ Some (token, size)
      → IsKnown n token.kind
  made_known at tokens None token size known is = absurd (let f : None ≡ Some (token, size) = is in cc)
  made_known at tokens (Some found) token size known is = subst (IsKnownToken n) is known.known

  first_known : (l : Lexicon) (text : List ℕ) (tokens : List Token) (token : RuleToken) (size : ℕ) → length l.cells ≡ n → first_token l text tokens ≡ Some (token, size) → IsKnown n token.kind
  first_known l text [] token size same is = absurd (let f : None ≡ Some (token, size) = is in cc)
  first_known l text (first ∷ tokens) token size same is =
      made_known first.start (first ∷ tokens) (stands_at l text first.start (first ∷ tokens)) token size (stands_known l text first.start (first ∷ tokens) same) is

  abbrev AreKnown : List RuleToken → Type 0
  AreKnown tokens = AllByRecursion (λ (token : RuleToken). IsKnown n token.kind) tokens

  tokens_known : (l : Lexicon) (text : List ℕ) (tokens : List RuleToken) (before after : List Token) → length l.cells ≡ n → AreRuleTokens l text tokens before after → AreKnown tokens
  tokens_known l text [] before after same are = tt
  tokens_known l text (token ∷ tokens) before after same are =
      (first_known l text before token are.0 same are.1, tokens_known l text tokens (drop are.0 before) after same are.2)

  -- ---- the tags

  tag_known : (k : RuleKind) (at : ℕ) (tags : List (ℕ × ℕ)) → IsKnown n k → AllByRecursion (λ (tag : ℕ × ℕ). tag.0 < n) tags → AllByRecursion (λ (tag : ℕ × ℕ). tag.0 < n) (opens_with at k ++ tags)
  tag_known (Open cell) at tags known all = (known, all)
  tag_known (Close cell) at tags known all = all
  tag_known Rewrite at tags known all = all
  tag_known Then at tags known all = all
  tag_known MapsTo at tags known all = all
  tag_known Dots at tags known all = all
  tag_known (Dot sort) at tags known all = all
  tag_known ListItem at tags known all = all
  tag_known (Terminal text) at tags known all = all
  tag_known (Literal value) at tags known all = all
  tag_known (Variable name sort) at tags known all = all

  tags_known : (at m : ℕ) (tokens : List RuleToken) → AreKnown tokens → AllByRecursion (λ (tag : ℕ × ℕ). tag.0 < n) (opens at (take m tokens))
  tags_known at zero tokens all = tt
  tags_known at (suc m) [] all = tt
  tags_known at (suc m) (token ∷ tokens) all = tag_known token.kind at (opens (at + 1) (take m tokens)) all.0 (tags_known (at + 1) m tokens all.1)

pub split_known : (g : Syntax) (cells : List CellShape) (before : List (List ℕ)) (text : List ℕ) (tokens : List Token) (after : List (List ℕ)) (split : RuleSplit)
    → IsRuleSplit g cells before text tokens after split → (at m : ℕ) → AllByRecursion (λ (tag : ℕ × ℕ). tag.0 < length cells) (opens at (take m split.tokens))
split_known g cells before text tokens after split is at m =
    tags_known (length cells) at m split.tokens
    (tokens_known (length cells) (lexicon_of g cells after) text split.tokens tokens is.rest (length-map cells (λ (cell : CellShape). cell.name)) is.tokens_are)
