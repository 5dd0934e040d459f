-- How a rule is split, and in one way alone.
use Rattle.std.proofs.Common.{◌≡◌, ℕ, List, [], ◌∷◌, drop, refl, sym, ap, subst, ◌∙◌, Option, None}
use Rattle.k_lexer.specs.declared.token.Token.{Token}
use Rattle.grammar_terms.specs.Grammar.{Syntax}
use Rattle.program_tokens.specs.Terminals.{AreSame, terminals}
use Rattle.program_tokens.specs.Base.{with_tokens}
use Rattle.program_tokens.specs.Splits.{first_place}
use Rattle.rule_terms.specs.declared.defs.CellShape.{CellShape}
use Rattle.rule_tokens.specs.declared.token.RuleToken.{RuleToken}
use Rattle.rule_tokens.specs.declared.split.RuleSplit.{RuleSplit}
use Rattle.rule_tokens.specs.Forms.{Lexicon}
use Rattle.rule_tokens.specs.RuleTokens.{first_token, AreRuleTokens, first_wide}
use Rattle.rule_tokens.specs.Splits.{lexicon_with, lexicon_of, IsRuleSplit}
use Rattle.rule_tokens.proofs.Reading.{taken, same_token, first_same, tokens_same}

pub is_split : (g : Syntax) (cells : List CellShape) (before names found : List (List ℕ)) (text : List ℕ) (tokens : List Token) (split : RuleSplit) (at : ℕ) → AreSame found (terminals g)
    → names ≡ with_tokens text before tokens → AreRuleTokens (lexicon_with found g cells names) text split.tokens tokens (drop at tokens)
    → first_token (lexicon_with found g cells names) text (drop at tokens) ≡ None → split.bad ≡ first_place (drop at tokens) → split.wide ≡ first_wide text split.tokens
    → IsRuleSplit g cells before text tokens names split
is_split g cells before names found text tokens split at same numbered are ends bad wide = record {
  rest = drop at tokens;
  names = numbered;
  tokens_are = tokens_same (lexicon_with found g cells names) (terminals g) same text split.tokens tokens (drop at tokens) are;
  ends = sym (first_same (lexicon_with found g cells names) (terminals g) same text (drop at tokens)) ∙ ends;
  bad = bad;
  wide = wide;
}

no_token : {token : RuleToken} {n : ℕ} {o : Option (RuleToken × ℕ)} → o ≡ None → o ≡ taken token n → ⊥
no_token {token} {n} {o} none some = let e : None ≡ taken token n = sym none ∙ some in cc

module _ (l : Lexicon) (text : List ℕ) where
  same_tokens : (ts us : List RuleToken) (before one other : List Token) → AreRuleTokens l text ts before one → first_token l text one ≡ None
      → AreRuleTokens l text us before other → first_token l text other ≡ None → (ts ≡ us) × (one ≡ other)
  same_tokens [] [] before one other f none g nought = (refl, sym f ∙ g)
  same_tokens [] (u ∷ us) before one other f none g nought = absurd (no_token (ap (first_token l text) f ∙ none) g.1)
  same_tokens (t ∷ ts) [] before one other f none g nought = absurd (no_token (ap (first_token l text) g ∙ nought) f.1)
  same_tokens (t ∷ ts) (u ∷ us) before one other f none g nought =
      let first = same_token (sym f.1 ∙ g.1) in
      let rest = same_tokens ts us (drop f.0 before) one other f.2 none (subst (λ n. AreRuleTokens l text us (drop n before) other) (sym first.1) g.2) nought in
      (λ i. first.0 i ∷ rest.0 i, rest.1)

pub one_rule_split : (g : Syntax) (cells : List CellShape) (before : List (List ℕ)) (text : List ℕ) (tokens : List Token) (after others : List (List ℕ)) (one other : RuleSplit)
    → IsRuleSplit g cells before text tokens after one → IsRuleSplit g cells before text tokens others other → (after ≡ others) × (one ≡ other)
one_rule_split g cells before text tokens after others one other f h =
    let names : after ≡ others = f.names ∙ sym h.names in
    let are = subst (λ ns. AreRuleTokens (lexicon_of g cells ns) text other.tokens tokens h.rest) (sym names) h.tokens_are in
    let ends = subst (λ ns. first_token (lexicon_of g cells ns) text h.rest ≡ None) (sym names) h.ends in
    let same = same_tokens (lexicon_of g cells after) text one.tokens other.tokens tokens f.rest h.rest f.tokens_are f.ends are ends in
    let bad : one.bad ≡ other.bad = f.bad ∙ ap first_place same.1 ∙ sym h.bad in
    let wide : one.wide ≡ other.wide = f.wide ∙ ap (first_wide text) same.0 ∙ sym h.wide in
    (names, λ i. record { tokens = same.0 i; bad = bad i; wide = wide i })
