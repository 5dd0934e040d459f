-- Identifiers have the numbers of their words.
use Rattle.std.proofs.Common.{◌≡◌, ℕ, zero, suc, ◌≤◌, Bool, true, false, List, [], ◌∷◌, drop, refl, sym, ap, subst, ◌∙◌, Option, Some, None}
use Rattle.std.specs.Prelude.{is_some, unwrap_or, if◌then◌else◌, codes}
use Rattle.std.specs.List.{AllByRecursion}
use Rattle.k_terms.specs.Names.{number_of}
use Rattle.k_lexer.specs.declared.token.Kind.{Kind}
use Rattle.k_lexer.specs.declared.token.Kind.TheVariants.{Word as WordToken, Int, Str, Mark}
use Rattle.k_lexer.specs.declared.token.Token.{Token}
use Rattle.production_reader.specs.Lexemes.{span}
use Rattle.production_reader.specs.Allowed.{is_among, same_text}
use Rattle.grammar_terms.specs.declared.word.Word.{Word}
use Rattle.grammar_terms.specs.Grammar.{Syntax}
use Rattle.program_tokens.specs.declared.split.Split.{Split}
use Rattle.program_tokens.specs.Terminals.{terminals, longest}
use Rattle.program_tokens.specs.Base.{bytes_of, IsNumbered, AllNumbered, with_tokens}
use Rattle.program_tokens.specs.Words.{adjacent, terminal_of, word_of, read_as, first_word, AreWords}
use Rattle.program_tokens.specs.Splits.{IsSplit}
use Rattle.program_tokens.specs.Laws.{IsNamed}
use Rattle.program_tokens.proofs.Naming.{IsNumberedAs, all_numbered}
use Rattle.program_tokens.proofs.Reading.{choose, drop_all, taken, no_pair, same_word}

abbrev IsOwn : List (List ℕ) → List ℕ → Word → Type 0
IsOwn names text word = IsNamed names (span text word.start word.end) word.kind

known : (o : Option ℕ) → is_some o ≡ true → o ≡ Some (unwrap_or o 0)
known None some = absurd (cc)
known (Some n) some = refl

word_own : (terminals names : List (List ℕ)) (text : List ℕ) (token : Token) → is_some (number_of names (bytes_of text token)) ≡ true
    → IsOwn names text (word_of terminals names token (bytes_of text token))
word_own terminals names text token some =
    choose (IsOwn names text) (is_among terminals (bytes_of text token)) _ _ tt
    (choose (IsOwn names text) (same_text (bytes_of text token) (codes "true")) _ _ tt
    (choose (IsOwn names text) (same_text (bytes_of text token) (codes "false")) _ _ tt (known (number_of names (bytes_of text token)) some)))

marks_own : (names : List (List ℕ)) (text : List ℕ) (at whole : ℕ) (word : Word) (size : ℕ) → terminal_of text at whole ≡ taken word size → IsOwn names text word
marks_own names text at zero word size is = absurd (no_pair is)
marks_own names text at (suc n) word size is = subst (IsOwn names text) (same_word is).0 tt

kind_own : (kind : Kind) (terminals names : List (List ℕ)) (text : List ℕ) (token : Token) (tokens : List Token) (word : Word) (size : ℕ) → IsNumberedAs kind names (bytes_of text token)
    → read_as kind terminals names text token tokens ≡ taken word size → IsOwn names text word
kind_own WordToken terminals names text token tokens word size numbered is = subst (IsOwn names text) (same_word is).0 (word_own terminals names text token numbered)
kind_own Int terminals names text token tokens word size numbered is = subst (IsOwn names text) (same_word is).0 tt
kind_own Str terminals names text token tokens word size numbered is = subst (IsOwn names text) (same_word is).0 tt
kind_own Mark terminals names text token tokens word size numbered is =
    marks_own names text token.start (longest terminals (drop token.start text) (adjacent token.start tokens)) word size is

first_own : (terminals names : List (List ℕ)) (text : List ℕ) (tokens : List Token) (word : Word) (size : ℕ) → AllNumbered text names tokens
    → first_word terminals names text tokens ≡ taken word size → IsOwn names text word
first_own terminals names text [] word size all is = absurd (no_pair is)
first_own terminals names text (token ∷ tokens) word size all is = kind_own token.kind terminals names text token (token ∷ tokens) word size all.0 is

words_own : (terminals names : List (List ℕ)) (text : List ℕ) (words : List Word) (before after : List Token) → AllNumbered text names before
    → AreWords terminals names text words before after → AllByRecursion (IsOwn names text) words
words_own terminals names text [] before after all are = tt
words_own terminals names text (word ∷ words) before after all are = (
  first_own terminals names text before word are.0 all are.1,
  words_own terminals names text words (drop are.0 before) after (drop_all (IsNumbered text names) are.0 before all) are.2,
)

pub symbols : (g : Syntax) (before : List (List ℕ)) (text : List ℕ) (after : List (List ℕ)) (split : Split) → IsSplit g before text after split
    → AllByRecursion (IsOwn after text) split.words
symbols g before text after split is =
    words_own (terminals g) after text split.words is.tokens is.rest (subst (λ names. AllNumbered text names is.tokens) (sym is.names) (all_numbered text before is.tokens)) is.words
