-- The contents of a definition's cells are sound.
use Rattle.std.proofs.Common.{◌≡◌, inl, inr, ℕ, ◌≤◌, List, [], ◌∷◌, length, map, Option, Some, None, refl, sym, ap, subst, ◌∙◌}
use Rattle.std.specs.Prelude.{slice_get, option_map}
use Rattle.std.specs.Option.{option_or}
use Rattle.k_lexer.specs.declared.token.Token.{Token}
use Rattle.k_terms.specs.declared.value.Content.{Content}
use Rattle.grammar_terms.specs.Grammar.{Syntax, order_of}
use Rattle.cell_forms.specs.declared.form.CellForm.{CellForm}
use Rattle.cell_tokens.specs.declared.token.CellToken.{CellToken}
use Rattle.cell_tokens.specs.CellTokens.{lexicon_of}
use Rattle.cell_trees.specs.declared.declared.Declared.{Declared}
use Rattle.cell_trees.specs.declared.declared.Declared.TheVariants.{Fixed}
use Rattle.cell_contents.specs.Contents.{IsDeclared}
use Rattle.cell_contents.specs.Soundness.{HavePlainLiterals, IsSoundContent}
use Rattle.cell_contents.proofs.Sounding.{contents_are_sound}
use Rattle.cell_config.specs.declared.refusal.CellRefusal.TheVariants.{TwoCells, CellContent}
use Rattle.cell_config.specs.declared.division.ConfigCell.{ConfigCell}
use Rattle.cell_config.specs.declared.division.Place.{Place}
use Rattle.cell_config.specs.declared.division.Division.{Division}
use Rattle.cell_config.specs.Divisions.{between, Holds, IsCellOf, IsWhole, IsDivision}
use Rattle.cell_config.specs.Refusals.{first_some, stray_program, inside_of, bad_content, twice_in, no_k, too_many, refusal_of}
use Rattle.cell_config.specs.Cells.{IsDivided, AreDivided, bases_of}
use Rattle.cell_config.proofs.Lists.{some_same, none_some, none_is_some, zip_left, got_map}
use Rattle.cell_config.specs.Laws.{AreDeclaredSoundly}
use Rattle.cell_config.proofs.Plain.{split_plain, part_plain}

-- ---- nothing is told

or_none : {A : Type 0} (one other : Option A) → option_or one other ≡ None → (one ≡ None) × (other ≡ None)
or_none None other is = (refl, is)
or_none (Some x) other is = absurd (none_some x (sym is))

map_none : {A B : Type 0} (f : A → B) (o : Option A) → option_map f o ≡ None → o ≡ None
map_none f None is = refl
map_none f (Some x) is = absurd (none_some (f x) (sym is))

inside_none : (place : Option Place) → inside_of place ≡ None → place ≡ None
inside_none None is = refl
inside_none (Some place) is = absurd (none_some place.inside (sym is))

no_place : (division : Division) → refusal_of (division ∷ []) ≡ None → division.place ≡ None
no_place division fine =
    let later = (or_none (option_map (λ name. TwoCells name) (twice_in (division ∷ []))) _ fine).1 in
    let contents = (or_none (no_k (division ∷ [])) _ later).1 in
    let told = (or_none (option_map (λ name. CellContent name) (first_some bad_content (division ∷ []))) (too_many (division ∷ [])) contents).0 in
    let bad = map_none (λ name. CellContent name) (first_some bad_content (division ∷ [])) told in
    let here = (or_none (bad_content division) None bad).0 in
    inside_none division.place (or_none (first_some stray_program division.cells) (inside_of division.place) here).1

-- ---- one configuration

module _ (g : Syntax) (text : List ℕ) where
  whole_of : (base : List Token) (tokens : List CellToken) (division : Division) → IsDivision g text base tokens division → division.place ≡ None → IsWhole g tokens division
  whole_of base tokens division (inl is) none = is
  whole_of base tokens division (inr (inl is)) none = absurd (none_is_some _ _ none is.place_is)
  whole_of base tokens division (inr (inr is)) none = absurd (none_is_some _ _ none is.place_is)

  -- it is whole, and its literals are plain
  record IsPlainWhole (division : Division) : Type 0 where
    tokens : List CellToken
    plain : HavePlainLiterals tokens
    whole : IsWhole g tokens division

  plain_whole : (before after : List (List ℕ)) (base : List Token) (division : Division) → IsDivided g text before base after division → division.place ≡ None → IsPlainWhole division
  plain_whole before after base division is none = record {
    tokens = is.tokens;
    plain = split_plain (lexicon_of g after) text is.tokens base is.split.tokens_are;
    whole = whole_of base is.tokens division is.is none;
  }

  one_whole : (before after : List (List ℕ)) (bases : List (List Token)) (division : Division) → AreDivided g text before bases after (division ∷ []) → division.place ≡ None → IsPlainWhole division
  one_whole before after [] division are none = absurd are
  one_whole before after (base ∷ bases) division are none = plain_whole before are.0 base division are.1 none

-- ---- its cells

module _ (g : Syntax) (tokens : List CellToken) where
  held_declared : (range : Option (ℕ × ℕ)) (held : Option Declared) (declared : Declared) → held ≡ Some declared → Holds g tokens range held
      → (part : ℕ × ℕ) × IsDeclared g (between tokens part.0 part.1) declared
  held_declared None None declared is holds = absurd (none_some declared is)
  held_declared None (Some other) declared is holds = absurd holds
  held_declared (Some part) None declared is holds = absurd holds
  held_declared (Some part) (Some other) declared is holds = (part, subst (IsDeclared g (between tokens part.0 part.1)) (some_same other declared is) holds)

  module _ (all : length g.prods ≤ g.declared) (plain : HavePlainLiterals tokens) where
    held_soundly : (form : CellForm) (cell : ConfigCell) (content : Content) → IsCellOf g tokens form cell → cell.held ≡ Some (Fixed content) → IsSoundContent (order_of g) content
    held_soundly form cell content of_form held =
        let found = held_declared form.content cell.held (Fixed content) held of_form.holds in
        contents_are_sound g (between tokens found.0.0 found.0.1) content all (part_plain tokens found.0.0 found.0.1 plain) found.1

    cell_soundly : (division : Division) (whole : IsWhole g tokens division) (number : ℕ) (content : Content)
        → slice_get (map (λ (cell : ConfigCell). cell.held) division.cells) number ≡ Some (Some (Fixed content)) → IsSoundContent (order_of g) content
    cell_soundly division whole number content at =
        let got = got_map (λ (cell : ConfigCell). cell.held) division.cells number (Some (Fixed content)) at in
        let form = zip_left (IsCellOf g tokens) whole.forms division.cells number got.0 whole.cells got.1 in
        held_soundly form.0 got.0 content form.2 got.2

pub declared_soundly : AreDeclaredSoundly
declared_soundly g before text tokens sentences after tree all is number content at =
    let one = one_whole g text before after (bases_of tokens sentences) is.division is.divided (no_place is.division is.fine) in
    cell_soundly g one.tokens all one.plain is.division one.whole number content (ap (λ helds. slice_get helds number) (sym is.is.held_are) ∙ at)
