-- The configurations of a definition are one tree, or have one refusal.
use Rattle.std.proofs.Common.{◌≡◌, inl, inr, ℕ, ◌<◌, List, [], ◌∷◌, ◌++◌, take, Option, Some, None, refl, sym, ap, ◌∙◌, subst}
use Rattle.std.specs.Prelude.{slice_get}
use Rattle.k_lexer.specs.declared.token.Token.{Token}
use Rattle.k_terms.specs.declared.value.Content.{Content}
use Rattle.grammar_terms.specs.Grammar.{Syntax}
use Rattle.cell_forms.specs.declared.form.CellForm.{CellForm}
use Rattle.cell_forms.specs.declared.form.Stop.{Stop}
use Rattle.cell_forms.specs.Laws.{HasOneForm, HasOneStop, HasFormOrStop}
use Rattle.cell_tokens.specs.declared.token.CellToken.{CellToken}
use Rattle.cell_tokens.proofs.Splitting.{one_cell_split}
use Rattle.cell_trees.specs.declared.declared.Declared.{Declared}
use Rattle.cell_trees.specs.declared.declared.Declared.TheVariants.{Program, Input, Fixed}
use Rattle.cell_contents.specs.Readings.{content_of, IsContent}
use Rattle.cell_contents.specs.Words.{words_of}
use Rattle.cell_contents.specs.Contents.{alone, IsRest, IsDeclaredBy, IsDeclared}
use Rattle.cell_config.specs.declared.division.ConfigCell.{ConfigCell}
use Rattle.cell_config.specs.declared.division.Division.{Division}
use Rattle.cell_config.specs.Divisions.{signs_of, Holds, cell_of, IsCellOf, AreCellsOf, HasNoContent, IsBadAt, cell_at, content_place, stop_place, IsWhole, IsStopped, AreForms, IsBad, IsDivision, between}
use Rattle.cell_config.specs.Cells.{IsDivided, AreDivided}
use Rattle.cell_config.proofs.Lists.{some_same, none_is_some, same_place, zip_right, zip_same, got_front}

-- ---- what a content declares

one_content : (g : Syntax) (tokens : List CellToken) (one other : Content) → IsContent g (words_of tokens) one → IsContent g (words_of tokens) other → one ≡ other
one_content g tokens one other is also =
    let same : also.reading ≡ is.reading = is.only.only also.reading also.only.is in
    some_same one other (sym is.is ∙ ap (content_of g) (sym same) ∙ also.is)

one_rest : (g : Syntax) (tokens : List CellToken) (one other : Declared) → IsRest g tokens one → IsRest g tokens other → one ≡ other
one_rest g tokens (Fixed one) (Fixed other) is also = ap (λ c. Fixed c) (one_content g tokens one other is also)
one_rest g tokens (Fixed one) (Program sort) is also = absurd also
one_rest g tokens (Fixed one) Input is also = absurd also
one_rest g tokens (Program sort) other is also = absurd is
one_rest g tokens Input other is also = absurd is

one_by : (by : Option Declared) (g : Syntax) (tokens : List CellToken) (one other : Declared) → IsDeclaredBy by g tokens one → IsDeclaredBy by g tokens other → one ≡ other
one_by (Some declared) g tokens one other is also = is ∙ sym also
one_by None g tokens one other is also = one_rest g tokens one other is also

one_declared : (g : Syntax) (tokens : List CellToken) (one other : Declared) → IsDeclared g tokens one → IsDeclared g tokens other → one ≡ other
one_declared g tokens one other is also = one_by (alone tokens) g tokens one other is also

-- over the laws of forms of cells
module _ (one_form : HasOneForm) (one_stop : HasOneStop) (form_or_stop : HasFormOrStop) where
  -- ---- cells

  module _ (g : Syntax) (tokens : List CellToken) where
    one_held : (content : Option (ℕ × ℕ)) (one other : Option Declared) → Holds g tokens content one → Holds g tokens content other → one ≡ other
    one_held None None None is also = refl
    one_held None None (Some other) is also = absurd also
    one_held None (Some one) other is also = absurd is
    one_held (Some range) None other is also = absurd is
    one_held (Some range) (Some one) None is also = absurd also
    one_held (Some range) (Some one) (Some other) is also = ap (λ d. Some d) (one_declared g (between tokens range.0 range.1) one other is also)

    one_cell : (form : CellForm) (one other : ConfigCell) → IsCellOf g tokens form one → IsCellOf g tokens form other → one ≡ other
    one_cell form one other is also = is.is ∙ ap (cell_of form) (one_held form.content one.held other.held is.holds also.holds) ∙ sym also.is

    pub one_cells : (forms : List CellForm) (one other : List ConfigCell) → AreCellsOf g tokens forms one → AreCellsOf g tokens forms other → one ≡ other
    one_cells forms one other is also = zip_same (IsCellOf g tokens) one_cell forms one other is also

    -- ---- bad contents

    bad_or_held : (range : ℕ × ℕ) (content : Option (ℕ × ℕ)) (held : Option Declared) → content ≡ Some range
        → ((declared : Declared) → IsDeclared g (between tokens range.0 range.1) declared → ⊥) → Holds g tokens content held → ⊥
    bad_or_held range None held is none holds = none_is_some None range refl is
    bad_or_held range (Some other) None is none holds = holds
    bad_or_held range (Some other) (Some declared) is none holds =
        none declared (subst (λ (r : ℕ × ℕ). IsDeclared g (between tokens r.0 r.1) declared) (some_same other range is) holds)

    bad_or_cell : (form : CellForm) (cell : ConfigCell) → HasNoContent g tokens form → IsCellOf g tokens form cell → ⊥
    bad_or_cell form cell bad is = bad_or_held bad.range form.content cell.held bad.is bad.none is.holds

    pub bad_or_cells : (forms : List CellForm) (n : ℕ) (form : CellForm) (cells : List ConfigCell) → slice_get forms n ≡ Some form → HasNoContent g tokens form → AreCellsOf g tokens forms cells → ⊥
    bad_or_cells forms n form cells at bad are = let cell = zip_right (IsCellOf g tokens) forms cells n form are at in bad_or_cell form cell.0 bad cell.2

    module _ (forms : List CellForm) where
      bad_before : (n m : ℕ) (one other : List ConfigCell) → IsBadAt g tokens forms n one → IsBadAt g tokens forms m other → n < m → ⊥
      bad_before n m one other is also less = bad_or_cells (take m forms) n is.form also.before (got_front forms n m is.form less is.at) is.none also.hold

      bad_place : (n m : ℕ) (one other : List ConfigCell) → IsBadAt g tokens forms n one → IsBadAt g tokens forms m other → n ≡ m
      bad_place n m one other is also = same_place n m (bad_before n m one other is also) (bad_before m n other one also is)

      bad_cells : (n : ℕ) (one other : List ConfigCell) → IsBadAt g tokens forms n one → IsBadAt g tokens forms n other → one ≡ other
      bad_cells n one other is also =
          let form = some_same is.form also.form (sym is.at ∙ also.at) in
          let before = one_cells (take n forms) is.before also.before is.hold also.hold in
          is.cells_are ∙ (λ i. before i ++ cell_of (form i) None ∷ []) ∙ sym also.cells_are

    -- ---- the cells of tokens

    pub one_forms : (one other : List CellForm) → AreForms tokens one → AreForms tokens other → one ≡ other
    one_forms one other (inl is) (inl also) = one_form (signs_of tokens) one other is also
    one_forms one other (inl is) (inr also) = absurd (form_or_stop (signs_of tokens) one also.0 is also.1)
    one_forms one other (inr is) (inl also) = absurd (form_or_stop (signs_of tokens) other is.0 also is.1)
    one_forms one other (inr is) (inr also) = is.2 ∙ ap (λ (stop : Stop). stop.cells) (one_stop (signs_of tokens) is.0 also.0 is.1 also.1) ∙ sym also.2

    -- ---- what the text of a configuration is

    module _ (text : List ℕ) (base : List Token) where
      same_division : (one other : Division) → one.cells ≡ other.cells → one.place ≡ other.place → one ≡ other
      same_division one other cells place = λ i. record { cells = cells i; place = place i }

      bad_or_read : (forms : List CellForm) (division : Division) (cells : List ConfigCell) → AreForms tokens forms → AreCellsOf g tokens forms cells → IsBad g text base tokens division → ⊥
      bad_or_read forms division cells are read is =
          let same = one_forms forms is.forms are is.are in
          bad_or_cells is.forms is.number is.bad.form cells is.bad.at is.bad.none (subst (λ fs. AreCellsOf g tokens fs cells) same read)

      one_whole : (one other : Division) → IsWhole g tokens one → IsWhole g tokens other → one ≡ other
      one_whole one other is also =
          let forms = one_form (signs_of tokens) is.forms also.forms is.form also.form in
          same_division one other (one_cells also.forms one.cells other.cells (subst (λ fs. AreCellsOf g tokens fs one.cells) forms is.cells) also.cells) (is.no_place ∙ sym also.no_place)

      one_stopped : (one other : Division) → IsStopped g text base tokens one → IsStopped g text base tokens other → one ≡ other
      one_stopped one other is also =
          let stop = one_stop (signs_of tokens) is.stop also.stop is.is_stop also.is_stop in
          same_division one other (one_cells also.stop.cells one.cells other.cells (subst (λ (s : Stop). AreCellsOf g tokens s.cells one.cells) stop is.cells) also.cells)
          (is.place_is ∙ ap (λ (s : Stop). Some (stop_place text base tokens s)) stop ∙ sym also.place_is)

      one_bad : (one other : Division) → IsBad g text base tokens one → IsBad g text base tokens other → one ≡ other
      one_bad one other is also =
          let forms = one_forms is.forms also.forms is.are also.are in
          let moved = subst (λ fs. IsBadAt g tokens fs is.number one.cells) forms is.bad in
          let number = bad_place also.forms is.number also.number one.cells other.cells moved also.bad in
          same_division one other (bad_cells also.forms also.number one.cells other.cells (subst (λ n. IsBadAt g tokens also.forms n one.cells) number moved) also.bad)
          (is.place_is ∙ (λ i. Some (content_place text base tokens (cell_at (forms i) (Some (number i))))) ∙ sym also.place_is)

      pub one_division : (one other : Division) → IsDivision g text base tokens one → IsDivision g text base tokens other → one ≡ other
      one_division one other (inl is) (inl also) = one_whole one other is also
      one_division one other (inl is) (inr (inl also)) = absurd (form_or_stop (signs_of tokens) is.forms also.stop is.form also.is_stop)
      one_division one other (inl is) (inr (inr also)) = absurd (bad_or_read is.forms other one.cells (inl is.form) is.cells also)
      one_division one other (inr (inl is)) (inl also) = absurd (form_or_stop (signs_of tokens) also.forms is.stop also.form is.is_stop)
      one_division one other (inr (inl is)) (inr (inl also)) = one_stopped one other is also
      one_division one other (inr (inl is)) (inr (inr also)) = absurd (bad_or_read is.stop.cells other one.cells (inr (is.stop, is.is_stop, refl)) is.cells also)
      one_division one other (inr (inr is)) (inl also) = absurd (bad_or_read also.forms one other.cells (inl also.form) also.cells is)
      one_division one other (inr (inr is)) (inr (inl also)) = absurd (bad_or_read also.stop.cells one other.cells (inr (also.stop, also.is_stop, refl)) also.cells is)
      one_division one other (inr (inr is)) (inr (inr also)) = one_bad one other is also

  -- ---- one after the other

  module _ (g : Syntax) (text : List ℕ) where
    one_divided : (before : List (List ℕ)) (base : List Token) (after later : List (List ℕ)) (one other : Division) → IsDivided g text before base after one → IsDivided g text before base later other
        → (after ≡ later) × (one ≡ other)
    one_divided before base after later one other is also =
        let split = one_cell_split g before text base after later is.tokens also.tokens is.split also.split in
        (split.0, one_division g also.tokens text base one other (subst (λ (ts : List CellToken). IsDivision g text base ts one) split.1 is.is) also.is)

    pub one_reading : (before : List (List ℕ)) (bases : List (List Token)) (after later : List (List ℕ)) (one other : List Division) → AreDivided g text before bases after one
        → AreDivided g text before bases later other → (after ≡ later) × (one ≡ other)
    one_reading before [] after later [] [] is also = (is ∙ sym also, refl)
    one_reading before [] after later [] (d ∷ ds) is also = absurd also
    one_reading before [] after later (d ∷ ds) other is also = absurd is
    one_reading before (base ∷ bases) after later [] other is also = absurd is
    one_reading before (base ∷ bases) after later (d ∷ ds) [] is also = absurd also
    one_reading before (base ∷ bases) after later (d ∷ ds) (e ∷ es) is also =
        let first = one_divided before base is.0 also.0 d e is.1 also.1 in
        let rest = one_reading also.0 bases after later ds es (subst (λ (ns : List (List ℕ)). AreDivided g text ns bases after ds) first.0 is.2) also.2 in
        (rest.0, λ i. first.1 i ∷ rest.1 i)
