-- The words that values are printed with.
use Rattle.std.specs.Prelude.{ℕ, ◌-◌, ◌==◌, cond, List, [], slice_get, unwrap_or}
use Rattle.printed_form.specs.declared.words.Words.{Words as Lent}

-- the label of each production from production 1, where that of a list production is its sort, and the word of each
-- symbol from symbol 0
pub record Words : Type 0 where
  pub labels : List (List ℕ)
  pub symbols : List (List ℕ)

-- a text by its place, and nothing where there is none
abbrev pub text_at : List (List ℕ) → ℕ → List ℕ
text_at texts place = unwrap_or (slice_get texts place) []

abbrev pub label_of : Words → ℕ → List ℕ
label_of words prod = cond (prod == 0) [] (text_at words.labels (prod - 1))

abbrev pub word_of : Words → ℕ → List ℕ
word_of words symbol = text_at words.symbols symbol

-- the words that are lent
abbrev pub words_of : Lent → Words
words_of lent = record { labels = lent.labels.now; symbols = lent.symbols.now }
