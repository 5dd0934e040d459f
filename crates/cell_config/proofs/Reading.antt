-- The cells of a configuration, one after the other.
use Rattle.std.proofs.Common.{◌≡◌, ℕ, ◌+◌, ◌<◌, List, [], ◌∷◌, ◌++◌, take, length, Option, get_or, refl, sym, ap, ◌∙◌, subst}
use Rattle.std.proofs.lemmas.List.{take_more}
use Rattle.grammar_terms.specs.Grammar.{Syntax}
use Rattle.cell_forms.specs.declared.form.CellForm.{CellForm}
use Rattle.cell_tokens.specs.declared.token.CellToken.{CellToken}
use Rattle.cell_trees.specs.declared.declared.Declared.{Declared}
use Rattle.cell_contents.specs.declared.fault.ContentFault.{ContentFault}
use Rattle.cell_config.specs.declared.division.ConfigCell.{ConfigCell}
use Rattle.cell_config.specs.Divisions.{Holds, cell_of, IsCellOf, AreCellsOf}
use Rattle.cell_config.proofs.Lists.{zip_push}

-- ---- one after the other

module _ (g : Syntax) (tokens : List CellToken) (forms : List CellForm) (n : ℕ) (cells now : List ConfigCell) (form : CellForm) (cell : ConfigCell) (within : n < length forms)
    (form_is : form ≡ get_or forms n form) (read : AreCellsOf g tokens (take n forms) cells) where
  pub read_more : (held : Option Declared) → Holds g tokens form.content held → cell ≡ cell_of form held → now ≡ cells ++ cell ∷ [] → AreCellsOf g tokens (take (n + 1) forms) now
  read_more held holds cell_is pushed =
      let one : IsCellOf g tokens form (cell_of form held) = record { holds = holds; is = refl } in
      let more : take (n + 1) forms ≡ take n forms ++ form ∷ [] = take_more forms n form within ∙ ap (λ f. take n forms ++ f ∷ []) (sym form_is) in
      subst (λ fs. AreCellsOf g tokens fs now) (sym more)
      (subst (AreCellsOf g tokens (take n forms ++ form ∷ [])) (sym pushed)
      (zip_push (IsCellOf g tokens) (take n forms) cells form cell read (subst (IsCellOf g tokens form) (sym cell_is) one)))
