-- A test that passes each number, truth value, string and identifier passes the leaves of a rule.
use Rattle.std.proofs.Common.{◌≡◌, ℕ, Bool, true, false, ◌+◌, List, [], ◌∷◌, map, Option, Some, None, refl}
use Rattle.k_terms.specs.declared.value.Symbol.{Symbol}
use Rattle.k_terms.specs.declared.value.Value.{Value, Int, Bool as Truth, Str, Id, Node', Items', Seq', Map', List' as Listed', Freezer'}
use Rattle.k_terms.specs.Sorts.{SortOrder}
use Rattle.k_terms.specs.Value.{is_well_formed}
use Rattle.grammar_terms.specs.declared.word.WordKind.{WordKind}
use Rattle.grammar_terms.specs.declared.word.WordKind.TheVariants.{Terminal as TerminalWord, Literal as LiteralWord, Variable as VariableWord, Wild, EmptyList}
use Rattle.grammar_terms.specs.Values.{is_plain_value}
use Rattle.rule_terms.specs.declared.pattern.Pattern.{Pattern, Lit}
use Rattle.rule_terms.specs.InRange.{is_value_in_range, is_pattern_in_range}
use Rattle.rule_terms.specs.Sound.{has_formed_values, has_no_operator}
use Rattle.rule_tokens.specs.declared.token.RuleKind.{RuleKind}
use Rattle.rule_tokens.specs.declared.token.RuleKind.TheVariants.{Open, Close, Rewrite, Then, MapsTo, Dots, Dot, ListItem, Terminal, Literal, Variable}
use Rattle.rule_tokens.specs.declared.token.RuleToken.{RuleToken}
use Rattle.rule_contents.specs.declared.words.Meant.{Meant}
use Rattle.rule_contents.specs.Words.{nowhere, variable_of, sort_of_name, variable_meant, dot_meant, meant, word_of}
use Rattle.rule_parts.specs.declared.leaves.LeafKind.TheVariants.{Variable as VariableLeaf, Literal as LiteralLeaf, Other}
use Rattle.rule_parts.specs.Leaves.{home_of, leaves_from, leaves_of}
use Rattle.sound_patterns.proofs.Literals.{IsPlain, ArePlain}
use Rattle.sound_patterns.proofs.Terms.{LeafPasses, LeavesPass}

module _ (test : Pattern → Bool) (plain : (v : Value) → is_plain_value v ≡ true → test (Lit v) ≡ true) where
  abbrev WordPasses : WordKind → Type 0
  WordPasses (TerminalWord text) = Unit {0}
  WordPasses (LiteralWord value) = test (Lit value) ≡ true
  WordPasses VariableWord = Unit {0}
  WordPasses Wild = Unit {0}
  WordPasses EmptyList = Unit {0}

  named_passes : (o : Option ℕ) → WordPasses (let it : Meant = elim o [ None ↦ nowhere | Some sort ↦ variable_of sort ] in it).kind
  named_passes None = tt
  named_passes (Some sort) = tt

  variable_passes : (sorts : List (Symbol × ℕ)) (name : Option Symbol) (sort : Option ℕ) → WordPasses (variable_meant sorts name sort).kind
  variable_passes sorts None None = tt
  variable_passes sorts None (Some sort) = tt
  variable_passes sorts (Some name) sort = named_passes (sort_of_name sorts name.0)

  dot_passes : (sort : Option ℕ) → WordPasses (dot_meant sort).kind
  dot_passes None = tt
  dot_passes (Some sort) = tt

  word_passes : (sorts : List (Symbol × ℕ)) (kind : RuleKind) → IsPlain kind → WordPasses (meant sorts kind).kind
  word_passes sorts (Open cell) is = tt
  word_passes sorts (Close cell) is = tt
  word_passes sorts Rewrite is = tt
  word_passes sorts Then is = tt
  word_passes sorts MapsTo is = tt
  word_passes sorts Dots is = tt
  word_passes sorts (Dot sort) is = dot_passes sort
  word_passes sorts ListItem is = tt
  word_passes sorts (Terminal text) is = tt
  word_passes sorts (Literal value) is = plain value is
  word_passes sorts (Variable name sort) is = variable_passes sorts name sort

  kind_passes : (home : ℕ) (word : WordKind) (sort : ℕ) → WordPasses word
      → LeafPasses test (elim word [
        | VariableWord ↦ VariableLeaf home (Some sort)
        | Wild ↦ VariableLeaf home None
        | LiteralWord value ↦ LiteralLeaf value
        | TerminalWord text ↦ Other
        | EmptyList ↦ Other
      ])
  kind_passes home (TerminalWord text) sort is = tt
  kind_passes home (LiteralWord value) sort is = is
  kind_passes home VariableWord sort is = tt
  kind_passes home Wild sort is = tt
  kind_passes home EmptyList sort is = tt

  from_passes : (sorts : List (Symbol × ℕ)) (tokens : List RuleToken) (at : ℕ) (rest : List RuleToken) → ArePlain rest → LeavesPass test (leaves_from tokens at (map (word_of sorts) rest))
  from_passes sorts tokens at [] all = tt
  from_passes sorts tokens at (token ∷ rest) all = (
    kind_passes (home_of tokens at) (meant sorts token.kind).kind (meant sorts token.kind).sort (word_passes sorts token.kind all.0),
    from_passes sorts tokens (at + 1) rest all.1,
  )

  pub leaves_pass : (sorts : List (Symbol × ℕ)) (tokens : List RuleToken) → ArePlain tokens → LeavesPass test (leaves_of tokens (map (word_of sorts) tokens))
  leaves_pass sorts tokens all = from_passes sorts tokens 0 tokens all

-- ---- such tests

pub plain_formed : (v : Value) → is_plain_value v ≡ true → has_formed_values (Lit v) ≡ true
unfolding has_formed_values is_well_formed
plain_formed (Int number) e = refl
plain_formed (Truth truth) e = refl
plain_formed (Str text) e = refl
plain_formed (Id symbol) e = refl
plain_formed (Node' _ _ _) e = absurd (let f : false ≡ true = e in cc)
plain_formed (Items' _ _ _) e = absurd (let f : false ≡ true = e in cc)
plain_formed (Seq' _ _) e = absurd (let f : false ≡ true = e in cc)
plain_formed (Map' _ _) e = absurd (let f : false ≡ true = e in cc)
plain_formed (Listed' _ _) e = absurd (let f : false ≡ true = e in cc)
plain_formed (Freezer' _ _ _ _) e = absurd (let f : false ≡ true = e in cc)

pub plain_in_range : (o : SortOrder) (v : Value) → is_plain_value v ≡ true → is_pattern_in_range o (Lit v) ≡ true
unfolding is_pattern_in_range is_value_in_range
plain_in_range o (Int number) e = refl
plain_in_range o (Truth truth) e = refl
plain_in_range o (Str text) e = refl
plain_in_range o (Id symbol) e = refl
plain_in_range o (Node' _ _ _) e = absurd (let f : false ≡ true = e in cc)
plain_in_range o (Items' _ _ _) e = absurd (let f : false ≡ true = e in cc)
plain_in_range o (Seq' _ _) e = absurd (let f : false ≡ true = e in cc)
plain_in_range o (Map' _ _) e = absurd (let f : false ≡ true = e in cc)
plain_in_range o (Listed' _ _) e = absurd (let f : false ≡ true = e in cc)
plain_in_range o (Freezer' _ _ _ _) e = absurd (let f : false ≡ true = e in cc)

pub plain_no_operator : (v : Value) → is_plain_value v ≡ true → has_no_operator (Lit v) ≡ true
unfolding has_no_operator
plain_no_operator v e = refl
