-- What comes of the configurations of a definition.
use Rattle.std.proofs.Common.{◌≡◌, ℕ, ◌+◌, ◌<◌, List, [], ◌∷◌, ◌++◌, map, take, length, get_or, Some, None, refl, sym, ap, ◌∙◌, subst, append_assoc}
use Rattle.std.proofs.lemmas.List.{take_more, map-append}
use Rattle.std.specs.Prelude.{slice_get}
use Rattle.k_lexer.specs.declared.token.Token.{Token}
use Rattle.grammar_terms.specs.Grammar.{Syntax}
use Rattle.program_tokens.specs.Base.{GoesOn}
use Rattle.cell_forms.specs.Laws.{HasOneForm, HasOneStop, HasFormOrStop, HasTree}
use Rattle.cell_trees.specs.declared.declared.Declared.TheVariants.{Program}
use Rattle.cell_trees.specs.Trees.{Tree}
use Rattle.cell_config.specs.declared.division.Division.{Division}
use Rattle.cell_config.specs.Divisions.{between}
use Rattle.cell_config.specs.Refusals.{refusal_of}
use Rattle.cell_config.specs.Cells.{IsDivided, AreDivided, bases_of, IsTreeOf}
use Rattle.cell_config.specs.Trees.{helds_of, HasProgramAt}
use Rattle.cell_config.specs.Laws.{HasOneTree, HasOneRefusal, HasNotBoth}
use Rattle.cell_config.proofs.Lists.{some_same, none_is_some}
use Rattle.cell_config.proofs.Single.{one_reading}
use Rattle.cell_config.proofs.Making.{one_tree_made}

-- ---- names go on

pub goes_through : (before middle after : List (List ℕ)) → GoesOn before middle → GoesOn middle after → GoesOn before after
goes_through before middle after one other = (one.0 ++ other.0, other.1 ∙ ap (λ ns. ns ++ other.0) one.1 ∙ append_assoc before one.0 other.0)

-- ---- one configuration more

pub divided_more : (g : Syntax) (text : List ℕ) (before middle after : List (List ℕ)) (bases : List (List Token)) (base : List Token) (divisions : List Division) (division : Division)
    → AreDivided g text before bases middle divisions → IsDivided g text middle base after division → AreDivided g text before (bases ++ base ∷ []) after (divisions ++ division ∷ [])
divided_more g text before middle after [] base [] division are is = (after, subst (λ ns. IsDivided g text ns base after division) are is, refl)
divided_more g text before middle after [] base (d ∷ ds) division are is = absurd are
divided_more g text before middle after (b ∷ bs) base [] division are is = absurd are
divided_more g text before middle after (b ∷ bs) base (d ∷ ds) division are is = (are.0, are.1, divided_more g text are.0 middle after bs base ds division are.2 is)

pub ranges_more : (g : Syntax) (text : List ℕ) (tokens : List Token) (before middle after : List (List ℕ)) (ranges : List (ℕ × ℕ)) (n : ℕ) (d : ℕ × ℕ) (base : List Token)
    (divisions now : List Division) (division : Division) → n < length ranges → base ≡ between tokens (get_or ranges n d).0 (get_or ranges n d).1
    → AreDivided g text before (map (λ range. between tokens range.0 range.1) (take n ranges)) middle divisions → IsDivided g text middle base after division
    → now ≡ divisions ++ division ∷ [] → AreDivided g text before (map (λ range. between tokens range.0 range.1) (take (n + 1) ranges)) after now
ranges_more g text tokens before middle after ranges n d base divisions now division within base_is are is pushed =
    let part : ℕ × ℕ → List Token = λ range. between tokens range.0 range.1 in
    let more : map part (take (n + 1) ranges) ≡ map part (take n ranges) ++ base ∷ [] =
    ap (map part) (take_more ranges n d within) ∙ map-append part (take n ranges) (get_or ranges n d ∷ []) ∙ ap (λ b. map part (take n ranges) ++ b ∷ []) (sym base_is) in
    subst (λ bs. AreDivided g text before bs after now) (sym more)
    (subst (AreDivided g text before (map part (take n ranges) ++ base ∷ []) after) (sym pushed)
    (divided_more g text before middle after (map part (take n ranges)) base divisions division are is))

-- ---- laws

first_same : (one other : Division) → one ∷ [] ≡ other ∷ [] → one ≡ other
first_same one other same = cc

sort_same : (one other : ℕ) → Some (Some (Program one)) ≡ Some (Some (Program other)) → one ≡ other
sort_same one other same = cc

-- over the laws of forms of cells
module _ (one_form : HasOneForm) (one_stop : HasOneStop) (form_or_stop : HasFormOrStop) where
  pub one_refusal : HasOneRefusal
  one_refusal g before text tokens sentences after later one other is also =
      let same = one_reading one_form one_stop form_or_stop g text before (bases_of tokens sentences) after later is.divisions also.divisions is.divided also.divided in
      (same.0, some_same one other (sym is.is ∙ ap refusal_of same.1 ∙ also.is))

  pub not_both : HasNotBoth
  not_both g before text tokens sentences after later tree refusal is also =
      let same = one_reading one_form one_stop form_or_stop g text before (bases_of tokens sentences) after later (is.division ∷ []) also.divisions is.divided also.divided in
      none_is_some (refusal_of (is.division ∷ [])) refusal is.fine (ap refusal_of same.1 ∙ also.is)

  module _ (forms_tree : HasTree) where
    module _ (g : Syntax) (text : List ℕ) (before after : List (List ℕ)) (bases : List (List Token)) (division : Division) (divided : AreDivided g text before bases after (division ∷ []))
        (fine : refusal_of (division ∷ []) ≡ None) where
      -- the program of the cells stands at one place
      same_k : (one other sort else : ℕ) → HasProgramAt division.cells one sort → HasProgramAt division.cells other else → one ≡ other
      same_k one other sort else is also =
          let made = one_tree_made forms_tree g text before after bases (division ∷ []) divided fine in
          let same = first_same division made.division made.is in
          let tree = made.makes.tree other else (subst (λ (d : Division). HasProgramAt d.cells other else) same also) in
          tree.only one sort (subst (λ (d : Division). HasProgramAt d.cells one sort) same is)

      same_tree : (one other : Tree) → IsTreeOf division.cells one → IsTreeOf division.cells other → one ≡ other
      same_tree one other is also =
          let program : HasProgramAt division.cells one.k one.sort = ap (λ hs. slice_get hs one.k) (sym is.held_are) ∙ is.program in
          let program_too : HasProgramAt division.cells other.k other.sort = ap (λ hs. slice_get hs other.k) (sym also.held_are) ∙ also.program in
          let k = same_k one.k other.k one.sort other.sort program program_too in
          let sort = sort_same one.sort other.sort (sym program ∙ ap (slice_get (helds_of division.cells)) k ∙ program_too) in
          let shapes = is.shapes_are ∙ sym also.shapes_are in
          let held = is.held_are ∙ sym also.held_are in
          λ i. record { shapes = shapes i; held = held i; k = k i; sort = sort i }

    pub one_tree : HasOneTree
    one_tree g before text tokens sentences after later one other is also =
        let same = one_reading one_form one_stop form_or_stop g text before (bases_of tokens sentences) after later (is.division ∷ []) (also.division ∷ []) is.divided also.divided in
        let division = first_same is.division also.division same.1 in
        (same.0, same_tree g text before after (bases_of tokens sentences) is.division is.divided is.fine one other is.is (subst (λ (d : Division). IsTreeOf d.cells other) (sym division) also.is))
