-- Why a definition declares no cells, as it is told.
use Rattle.std.proofs.Common.{◌≡◌, ◌⊎◌, inl, inr, ℕ, List, Some, refl, ap, ◌∙◌}
use Rattle.k_lexer.specs.declared.token.Token.{Token}
use Rattle.grammar_terms.specs.Grammar.{Syntax}
use Rattle.file_reader.specs.declared.sentence.Sentence.{Sentence}
use Rattle.strictness.specs.declared.fault.StrictFault.{StrictFault}
use Rattle.strictness.specs.declared.fault.StrictFault.TheVariants.{BadStrict, Memory as NoStrictMemory}
use Rattle.strictness.specs.Places.{declared_in, HaveNoBadPlace}
use Rattle.strictness.specs.Heating.{IsFault as IsStrictFault}
use Rattle.cell_config.specs.declared.refusal.CellRefusal.{CellRefusal}
use Rattle.cell_config.specs.declared.refusal.CellRefusal.TheVariants.{TwoCells, NoK, CellContent, TooMany, Memory as NoCellMemory}
use Rattle.cell_config.specs.declared.division.Division.{Division}
use Rattle.cell_config.specs.Refusals.{refusal_of}
use Rattle.cell_config.specs.Cells.{IsCellRefusal}
use Rattle.context_transform.specs.declared.fault.DefFault.{DefFault}
use Rattle.context_transform.specs.declared.fault.DefFault.TheVariants.{Strict, Cell, Memory}
use Rattle.context_transform.specs.Told.{told_strict, told_cells}
use Rattle.context_transform.specs.Assembling.{HasCellFault}
use Rattle.context_transform.proofs.Proper.{no_want_of_cells}

told_as_strict : (g : Syntax) (why : StrictFault) → IsStrictFault (declared_in g) why → told_strict why ≡ Strict why
told_as_strict g (BadStrict p place) is = refl
told_as_strict g NoStrictMemory is = absurd is

told_as_cells : (divisions : List Division) (refusal : CellRefusal) → refusal_of divisions ≡ Some refusal → told_cells refusal ≡ Cell refusal
told_as_cells divisions (TwoCells name) is = refl
told_as_cells divisions NoK is = refl
told_as_cells divisions (CellContent name) is = refl
told_as_cells divisions (TooMany what n) is = refl
told_as_cells divisions NoCellMemory is = absurd (no_want_of_cells divisions is)

module _ (g : Syntax) (before : List (List ℕ)) (text : List ℕ) (tokens : List Token) (sentences : List Sentence) where
  pub strict_told : (why : StrictFault) (fault : DefFault) → (why ≡ NoStrictMemory) ⊎ IsStrictFault (declared_in g) why → fault ≡ told_strict why
      → (fault ≡ Memory) ⊎ HasCellFault g before text tokens sentences fault
  strict_told why fault (inl want) told = inl (told ∙ ap told_strict want)
  strict_told why fault (inr is) told = inr (inl (record { why = why; is = is; fault_is = told ∙ told_as_strict g why is }))

  pub cells_told : (refusal : CellRefusal) (after : List (List ℕ)) (fault : DefFault) → HaveNoBadPlace (declared_in g)
      → (refusal ≡ NoCellMemory) ⊎ IsCellRefusal g before text tokens sentences after refusal → fault ≡ told_cells refusal
      → (fault ≡ Memory) ⊎ HasCellFault g before text tokens sentences fault
  cells_told refusal after fault no_bad (inl want) told = inl (told ∙ ap told_cells want)
  cells_told refusal after fault no_bad (inr refused) told =
      inr (inr (record { no_bad = no_bad; refusal = refusal; after = after; refused = refused; fault_is = told ∙ told_as_cells refused.divisions refusal refused.is }))
