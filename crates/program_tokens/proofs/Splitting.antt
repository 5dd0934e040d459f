-- How a text is split, and in one way alone.
use Rattle.std.proofs.Common.{◌≡◌, ℕ, zero, suc, List, [], ◌∷◌, take, drop, refl, sym, ap, subst, ◌∙◌, Option, Some, None, Result, Ok, Err, OnErr}
use Rattle.std.specs.Prelude.{if◌then◌else◌}
use Rattle.std.specs.Option.{option_or}
use Rattle.k_lexer.specs.declared.token.Kind.{Kind}
use Rattle.k_lexer.specs.declared.token.Kind.TheVariants.{Word as WordToken, Int, Str, Mark}
use Rattle.k_lexer.specs.declared.token.Token.{Token}
use Rattle.grammar_terms.specs.declared.word.Word.{Word}
use Rattle.grammar_terms.specs.Grammar.{Syntax}
use Rattle.program_tokens.specs.declared.split.Split.{Split}
use Rattle.program_tokens.specs.Terminals.{AreSame, terminals, longest}
use Rattle.program_tokens.specs.Base.{bytes_of, IsBase, with_tokens}
use Rattle.program_tokens.specs.Words.{adjacent, terminal, terminal_of, other_word, word_of, read_as, first_word, AreWords, first_wide}
use Rattle.program_tokens.specs.Splits.{IsSplit, first_place}

-- ---- by two lists with the same terminals

module _ (some others : List (List ℕ)) (same : AreSame some others) where
  longest_same : (bytes : List ℕ) (n : ℕ) → longest some bytes n ≡ longest others bytes n
  longest_same bytes zero = refl
  longest_same bytes (suc n) = λ i. if same (take (suc n) bytes) i then suc n else longest_same bytes n i

  word_same : (names : List (List ℕ)) (token : Token) (bytes : List ℕ) → word_of some names token bytes ≡ word_of others names token bytes
  word_same names token bytes = ap (λ b. if b then terminal token.start token.end bytes else other_word names token bytes) (same bytes)

  kind_same : (kind : Kind) (names : List (List ℕ)) (text : List ℕ) (token : Token) (tokens : List Token)
      → read_as kind some names text token tokens ≡ read_as kind others names text token tokens
  kind_same WordToken names text token tokens = ap (λ word. Some (word, 1)) (word_same names token (bytes_of text token))
  kind_same Int names text token tokens = refl
  kind_same Str names text token tokens = refl
  kind_same Mark names text token tokens = ap (terminal_of text token.start) (longest_same (drop token.start text) (adjacent token.start tokens))

  pub first_same : (names : List (List ℕ)) (text : List ℕ) (tokens : List Token) → first_word some names text tokens ≡ first_word others names text tokens
  first_same names text [] = refl
  first_same names text (token ∷ tokens) = kind_same token.kind names text token (token ∷ tokens)

  pub words_same : (names : List (List ℕ)) (text : List ℕ) (words : List Word) (before after : List Token) → AreWords some names text words before after
      → AreWords others names text words before after
  words_same names text [] before after are = are
  words_same names text (word ∷ words) before after are =
      (are.0, sym (first_same names text before) ∙ are.1, words_same names text words (drop are.0 before) after are.2)

-- the tokens that the code read them from
pub words_from : (found names : List (List ℕ)) (text : List ℕ) (words : List Word) (at : ℕ) (seen tokens : List Token) → seen ≡ tokens → AreWords found names text words seen (drop at seen)
    → AreWords found names text words tokens (drop at tokens)
words_from found names text words at seen tokens is are = subst (λ ts. AreWords found names text words ts (drop at ts)) is are

pub is_split : (g : Syntax) (before after found : List (List ℕ)) (text : List ℕ) (split : Split) (tokens : List Token) (fault : Option ℕ) (at : ℕ) → AreSame found (terminals g)
    → IsBase text tokens fault → after ≡ with_tokens text before tokens → AreWords found after text split.words tokens (drop at tokens)
    → first_word found after text (drop at tokens) ≡ None → split.bad ≡ option_or (first_place (drop at tokens)) fault → split.wide ≡ first_wide text split.words
    → IsSplit g before text after split
is_split g before after found text split tokens fault at same base names are ends bad wide = record {
  tokens = tokens;
  fault = fault;
  rest = drop at tokens;
  base = base;
  names = names;
  words = words_same found (terminals g) same after text split.words tokens (drop at tokens) are;
  ends = sym (first_same found (terminals g) same after text (drop at tokens)) ∙ ends;
  bad = bad;
  wide = wide;
}

pub on_err : {V E : Type 0} {P : Type 0} → (r : Result V E) → P → OnErr r P
on_err (Ok v) p = tt
on_err (Err e) p = p
