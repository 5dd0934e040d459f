-- A text is split in one way.
use Rattle.std.proofs.Common.{◌≡◌, ℕ, List, [], ◌∷◌, drop, refl, sym, ap, subst, ◌∙◌, Option, Some, None}
use Rattle.std.specs.Option.{option_or}
use Rattle.k_lexer.specs.declared.token.Token.{Token}
use Rattle.k_lexer.specs.Lexing.{place}
use Rattle.k_lexer.specs.Before.{AreBefore}
use Rattle.k_lexer.proofs.Faults.{one_tokens, one_fault, tokens_or_fault}
use Rattle.k_lexer.proofs.Before.{one_before}
use Rattle.grammar_terms.specs.declared.word.Word.{Word}
use Rattle.grammar_terms.specs.Grammar.{Syntax}
use Rattle.program_tokens.specs.declared.split.Split.{Split}
use Rattle.program_tokens.specs.Terminals.{terminals}
use Rattle.program_tokens.specs.Base.{IsBase, with_tokens}
use Rattle.program_tokens.specs.Words.{first_word, AreWords, first_wide}
use Rattle.program_tokens.specs.Splits.{IsSplit, first_place}
use Rattle.program_tokens.proofs.Reading.{taken, same_word}

base_same : (text : List ℕ) (ms ns : List Token) (j k : Option ℕ) → IsBase text ms j → IsBase text ns k → (ms ≡ ns) × (j ≡ k)
base_same text ms ns None None f g = (one_tokens text ms ns f g, refl)
base_same text ms ns None (Some k) f g = absurd (tokens_or_fault text ms g.0 f g.1)
base_same text ms ns (Some j) None f g = absurd (tokens_or_fault text ns f.0 g f.1)
base_same text ms ns (Some j) (Some k) f g =
    let places : j ≡ k = sym f.2 ∙ ap place (one_fault text f.0 g.0 f.1 g.1) ∙ g.2 in
    (one_before text k ms ns (subst (λ at. AreBefore text at ms) places f.3) g.3, ap (λ at. Some at) places)

no_word : {word : Word} {n : ℕ} {o : Option (Word × ℕ)} → o ≡ None → o ≡ taken word n → ⊥
no_word {word} {n} {o} none some = let e : None ≡ taken word n = sym none ∙ some in cc

module _ (terminals names : List (List ℕ)) (text : List ℕ) where
  words_same : (ws vs : List Word) (before one other : List Token) → AreWords terminals names text ws before one → first_word terminals names text one ≡ None
      → AreWords terminals names text vs before other → first_word terminals names text other ≡ None → (ws ≡ vs) × (one ≡ other)
  words_same [] [] before one other f none g nought = (refl, sym f ∙ g)
  words_same [] (v ∷ vs) before one other f none g nought = absurd (no_word (ap (first_word terminals names text) f ∙ none) g.1)
  words_same (w ∷ ws) [] before one other f none g nought = absurd (no_word (ap (first_word terminals names text) g ∙ nought) f.1)
  words_same (w ∷ ws) (v ∷ vs) before one other f none g nought =
      let first = same_word (sym f.1 ∙ g.1) in
      let rest = words_same ws vs (drop f.0 before) one other f.2 none (subst (λ n. AreWords terminals names text vs (drop n before) other) (sym first.1) g.2) nought in
      (λ i. first.0 i ∷ rest.0 i, rest.1)

pub one_split : (g : Syntax) (before : List (List ℕ)) (text : List ℕ) (after others : List (List ℕ)) (one other : Split) → IsSplit g before text after one
    → IsSplit g before text others other → (after ≡ others) × (one ≡ other)
one_split g before text after others one other f h =
    let base = base_same text f.tokens h.tokens f.fault h.fault f.base h.base in
    let names : after ≡ others = f.names ∙ ap (with_tokens text before) base.0 ∙ sym h.names in
    let words2 : AreWords (terminals g) after text other.words f.tokens h.rest =
    subst (λ ts. AreWords (terminals g) after text other.words ts h.rest) (sym base.0)
    (subst (λ ns. AreWords (terminals g) ns text other.words h.tokens h.rest) (sym names) h.words) in
    let ends2 : first_word (terminals g) after text h.rest ≡ None = subst (λ ns. first_word (terminals g) ns text h.rest ≡ None) (sym names) h.ends in
    let same = words_same (terminals g) after text one.words other.words f.tokens f.rest h.rest f.words f.ends words2 ends2 in
    let bad : one.bad ≡ other.bad = f.bad ∙ (λ i. option_or (first_place (same.1 i)) (base.1 i)) ∙ sym h.bad in
    let wide : one.wide ≡ other.wide = f.wide ∙ ap (first_wide text) same.0 ∙ sym h.wide in
    (names, λ i. record { words = same.0 i; bad = bad i; wide = wide i })
