-- The marks of a content as words.
use Rattle.std.specs.Prelude.{ℕ, List}
use Rattle.grammar_terms.specs.declared.word.Word.{Word}
use Rattle.grammar_terms.specs.declared.word.WordKind.TheVariants.{Terminal}

-- a terminal; where it stands in the text is not asked
abbrev pub terminal : List ℕ → Word
terminal text = record { kind = Terminal text; sort = 0; start = 0; end = 0 }
