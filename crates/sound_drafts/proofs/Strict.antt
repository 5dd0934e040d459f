-- The rules of heating and cooling fit the declared cells.
use Rattle.std.proofs.Common.{◌≡◌, ⊎_elim, inl, inr, ℕ, ◌+◌, List, [], ◌∷◌, ◌++◌, filter, Option, Some, None, option_map, refl, sym, ap, subst, ◌∙◌, Contains}
use Rattle.std.proofs.lemmas.Option.{slice_get-map}
use Rattle.std.specs.Prelude.{slice_get}
use Rattle.std.specs.List.{flat_map}
use Rattle.k_terms.specs.Sorts.{SortOrder}
use Rattle.grammar_terms.specs.Grammar.{Syntax, order_of}
use Rattle.grammar_terms.specs.declared.production.Production.{Production}
use Rattle.live_config.proofs.Members.{Has, contains-has, has-contains, has_either, kept}
use Rattle.rule_terms.specs.declared.defs.CellShape.{CellShape}
use Rattle.rule_terms.specs.declared.defs.Kind.TheVariants.{Seq as SeqKind}
use Rattle.rule_terms.specs.declared.pattern.Pattern.{Pattern}
use Rattle.rule_terms.specs.declared.pattern.Body.{Seq}
use Rattle.rule_terms.specs.declared.rule.Draft.{Draft}
use Rattle.rule_terms.specs.Sound.{is_body_of, cells_rest}
use Rattle.rule_terms.specs.Spots.{Spot, spots_in}
use Rattle.strictness.specs.Drafts.{front, heating, cooling, drafts_at, drafts_of, drafts_from, strict_drafts}
use Rattle.strictness.specs.Places.{arguments, strict_places, declared_in}
use Rattle.strictness.specs.SoundDrafts.{spots_of}
use Rattle.cell_trees.specs.Trees.{Tree as Declaration, IsTree, kind_of}
use Rattle.rule_completion.specs.Writing.{is_new}
use Rattle.completed_rules.specs.Fits.{IsOfItsKind, FitsCells}

module _ (d : Declaration) (tree : IsTree d) (o : SortOrder) where
  kind_found : option_map (λ (shape : CellShape). shape.kind) (slice_get d.shapes d.k) ≡ Some SeqKind
  kind_found =
      sym (slice_get-map (λ (shape : CellShape). shape.kind) d.shapes d.k) ∙ ap (λ kinds. slice_get kinds d.k) tree.kinds ∙ slice_get-map kind_of d.held d.k ∙ ap (option_map kind_of) tree.program

  shape_of : (found : Option CellShape) → slice_get d.shapes d.k ≡ found → option_map (λ (shape : CellShape). shape.kind) found ≡ Some SeqKind
      → (shape : CellShape) × (slice_get d.shapes d.k ≡ Some shape) × (shape.kind ≡ SeqKind)
  shape_of None at e = absurd (let f : None ≡ Some SeqKind = e in cc)
  shape_of (Some shape) at e = (shape, at, let f : Some shape.kind ≡ Some SeqKind = e in cc)

  one : ℕ → List Pattern → Spot
  one rest ps = record { cell = d.k; mark = 0; above = None; body = Seq ps (Some rest) }

  kinds : (vars : List ℕ) (rest : ℕ) (ps : List Pattern) → IsOfItsKind d o vars (one rest ps)
  unfolding one
  kinds vars rest ps =
      let s = shape_of (slice_get d.shapes d.k) refl kind_found in
      record { shape = s.0; declared = s.1; kind = ap (λ k. is_body_of k (Seq ps (Some rest))) s.2; value = λ q sort is kind. absurd (cc) }

  side_is : (cells : List _) (rest : ℕ) (ps : List Pattern) → cells ≡ front d.k rest ps → (p : Spot) → Contains (spots_of cells) p → one rest ps ≡ p
  unfolding one spots_in
  side_is cells rest ps is p has = elim (contains-has (one rest ps ∷ []) p (subst (λ cs. Contains (spots_of cs) p) is has)) [ inl e ↦ e | inr none ↦ absurd none ]

  fits : (draft : Draft) (rest other : ℕ) (ps qs : List Pattern) → draft.left ≡ front d.k rest ps → draft.right ≡ front d.k other qs → FitsCells d o draft
  unfolding one spots_in
  fits draft rest other ps qs left_is right_is = record {
    kinds = λ p has. elim (has_either (spots_of draft.left) (spots_of draft.right) p (contains-has (spots_of draft.left ++ spots_of draft.right) p has)) [
      | inl h ↦ subst (IsOfItsKind d o draft.vars) (side_is draft.left rest ps left_is p (has-contains (spots_of draft.left) p h)) (kinds draft.vars rest ps)
      | inr h ↦ subst (IsOfItsKind d o draft.vars) (side_is draft.right other qs right_is p (has-contains (spots_of draft.right) p h)) (kinds draft.vars other qs)
    ];
    above = λ p q on_left on_right same.
        sym (ap (λ (s : Spot). s.above) (side_is draft.left rest ps left_is p on_left)) ∙ ap (λ (s : Spot). s.above) (side_is draft.right other qs right_is q on_right);
    new_closed = λ q has.
        let k = kept (is_new draft) (spots_of draft.right) q (contains-has (filter (is_new draft) (spots_of draft.right)) q has) in
        sym (ap (λ (s : Spot). cells_rest s.body) (side_is draft.right other qs right_is q (has-contains (spots_of draft.right) q k.0)));
    rests = λ p x has e.
        absurd (let f : None ≡ Some x = ap (λ (s : Spot). cells_rest s.body) (side_is draft.left rest ps left_is p has) ∙ e in cc);
  }

-- ---- what holds of each rule of heating and cooling

module _ (k : ℕ) (P : Draft → Type 0) (heats : (p place : ℕ) (production : Production) → P (heating k p production.attrs (arguments production) place))
    (cools : (p place : ℕ) (production : Production) → P (cooling k p (arguments production) place)) where
  places_hold : (p : ℕ) (production : Production) (places : List ℕ) (draft : Draft) → Has (flat_map (drafts_at k p production) places) draft → P draft
  places_hold p production [] draft h = absurd h
  places_hold p production (place ∷ places) draft h =
      ⊎_elim
      (λ (here : Has (drafts_at k p production place) draft). elim here [
        | inl e ↦ subst P e (heats p place production)
        | inr more ↦ elim more [ inl e ↦ subst P e (cools p place production) | inr none ↦ absurd none ]
      ])
      (λ (later : Has (flat_map (drafts_at k p production) places) draft). places_hold p production places draft later)
      (has_either (drafts_at k p production place) (flat_map (drafts_at k p production) places) draft h)

  productions_hold : (p : ℕ) (prods : List Production) (draft : Draft) → Has (drafts_from k p prods) draft → P draft
  productions_hold p [] draft h = absurd h
  productions_hold p (production ∷ prods) draft h =
      ⊎_elim (λ (here : Has (drafts_of k p production) draft). places_hold p production (strict_places production) draft here)
      (λ (later : Has (drafts_from k (p + 1) prods) draft). productions_hold (p + 1) prods draft later)
      (has_either (drafts_of k p production) (drafts_from k (p + 1) prods) draft h)

pub strict_fit : (d : Declaration) (g : Syntax) (draft : Draft) → IsTree d → Contains (strict_drafts g d.k) draft → FitsCells d (order_of g) draft
strict_fit d g draft tree has =
    productions_hold d.k (FitsCells d (order_of g))
    (λ p place production. fits d tree (order_of g) (heating d.k p production.attrs (arguments production) place) _ _ _ _ refl refl)
    (λ p place production. fits d tree (order_of g) (cooling d.k p (arguments production) place) _ _ _ _ refl refl)
    1 (declared_in g) draft (contains-has (strict_drafts g d.k) draft has)
