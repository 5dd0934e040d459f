-- Which words ask for a mode.
use Rattle.std.proofs.Common.{◌≡◌, ℕ, List, true, false, sym, ◌∙◌}
use Rattle.std.specs.Prelude.{nat_eq}
use Rattle.std.specs.Cmp.Lexicographic.{pointwise}
use Rattle.std.proofs.lemmas.Slice.Eq.{bytes_eq-Decides}
use Rattle.krun.specs.Headline.{word_at}
use Rattle.krun.specs.Causes.{AskFor}

true_false : true ≡ false → ⊥
true_false same = cc

-- words with another mode don't ask for this one
pub not_asked : (words : List (List ℕ)) (wanted mode : List ℕ) (files : ℕ) → word_at words 1 ≡ mode → false ≡ pointwise nat_eq mode wanted → AskFor words wanted files → ⊥
not_asked words wanted mode files is differ asked = true_false (sym ((bytes_eq-Decides mode wanted).1 (sym is ∙ asked.mode_is)) ∙ sym differ)
