-- What tokens declare is one.
use Rattle.std.proofs.Common.{◌≡◌, List, Option, Some, None, sym, ap, ◌∙◌}
use Rattle.std.specs.Prelude.{unwrap_or}
use Rattle.k_terms.specs.declared.value.Content.{Content}
use Rattle.grammar_terms.specs.declared.word.Word.{Word}
use Rattle.grammar_terms.specs.Grammar.{Syntax}
use Rattle.cell_tokens.specs.declared.token.CellToken.{CellToken}
use Rattle.cell_trees.specs.declared.declared.Declared.{Declared}
use Rattle.cell_trees.specs.declared.declared.Declared.TheVariants.{Program, Input, Fixed}
use Rattle.cell_contents.specs.Words.{words_of}
use Rattle.cell_contents.specs.Readings.{IsContent, content_of}
use Rattle.cell_contents.specs.Contents.{alone, IsDeclaredBy}
use Rattle.cell_contents.specs.Laws.{DeclareOne, HaveNotBoth}

pub one_content : (g : Syntax) (words : List Word) (one other : Content) → IsContent g words one → IsContent g words other → one ≡ other
one_content g words one other is also =
    let same : Some one ≡ Some other = sym is.is ∙ ap (content_of g) (also.only.only is.reading is.only.is) ∙ also.is in
    ap (λ o. unwrap_or o one) same

by_alone : (found : Option Declared) (g : Syntax) (tokens : List CellToken) (one other : Declared) → IsDeclaredBy found g tokens one → IsDeclaredBy found g tokens other → one ≡ other
by_alone (Some it) g tokens one other is also = is ∙ sym also
by_alone None g tokens (Fixed one) (Fixed other) is also = ap Fixed (one_content g (words_of tokens) one other is also)
by_alone None g tokens (Fixed one) (Program sort) is also = absurd also
by_alone None g tokens (Fixed one) Input is also = absurd also
by_alone None g tokens (Program sort) other is also = absurd is
by_alone None g tokens Input other is also = absurd is

pub declare_one : DeclareOne
declare_one g tokens one other is also = by_alone (alone tokens) g tokens one other is also

pub have_not_both : HaveNotBoth
have_not_both g tokens declared is fault = fault declared is
