-- The rules of heating and cooling may be completed.
use Rattle.std.proofs.Common.{◌≡◌, ⊎_elim, inl, inr, ℕ, ◌+◌, ◌<◌, true, List, [], ◌∷◌, length, Some, None, refl, sym, ap, subst, ◌∙◌, arith, Contains}
use Rattle.std.specs.List.{flat_map}
use Rattle.grammar_terms.specs.Grammar.{Syntax}
use Rattle.grammar_terms.specs.declared.production.Production.{Production}
use Rattle.live_config.proofs.Members.{Has, contains-has, has_right, has_either}
use Rattle.rule_terms.specs.declared.defs.CellShape.{CellShape}
use Rattle.rule_terms.specs.declared.pattern.Pattern.{Pattern}
use Rattle.rule_terms.specs.declared.rule.Draft.{Draft}
use Rattle.rule_terms.specs.Spots.{spots_in}
use Rattle.strictness.specs.Drafts.{front, heating, cooling, drafts_at, drafts_of, drafts_from, strict_drafts}
use Rattle.strictness.specs.Places.{arguments, strict_places, declared_in}
use Rattle.cell_completion.specs.declared.tree.Written.{Written}
use Rattle.cell_completion.specs.Listed.{AreWritten}
use Rattle.cell_trees.specs.Trees.{Tree as Declaration}
use Rattle.rule_completion.specs.Rules.{IsWrittenDraft}
use Rattle.rule_completion.specs.Writing.{written}

-- ---- a draft that rewrites the front of one cell

abbrev alone : ℕ → Written
alone k = record { mark = 0; cell = k; above = None; both = true }

writes_one : (draft : Draft) (k rest other : ℕ) (ps qs : List Pattern) → draft.left ≡ front k rest ps → draft.right ≡ front k other qs → written draft ≡ alone k ∷ []
unfolding spots_in
writes_one draft k rest other ps qs left_is right_is =
    λ i. written (record { origin = draft.origin; vars = draft.vars; left = left_is i; right = right_is i; when = draft.when })

is_alone : (k : ℕ) (w : Written) → Has (alone k ∷ []) w → alone k ≡ w
is_alone k w (inl e) = e
is_alone k w (inr h) = absurd h

one_written : (shapes : List CellShape) (k : ℕ) → k < length shapes → AreWritten shapes (alone k ∷ [])
one_written shapes k within = record {
  declared = λ w has. subst (λ (v : Written). v.cell < length shapes) (is_alone k w (contains-has (alone k ∷ []) w has)) within;
  different = refl;
  enclosed = λ before after w mark is above.
      let same : alone k ≡ w = is_alone k w (subst (λ ws. Has ws w) (sym is) (has_right before (w ∷ after) w (inl refl))) in
      absurd (let f : None ≡ Some mark = ap (λ (v : Written). v.above) same ∙ above in cc);
}

pub one_cell_draft : (d : Declaration) (draft : Draft) (k rest other : ℕ) (ps qs : List Pattern) → k < length d.shapes → draft.left ≡ front k rest ps → draft.right ≡ front k other qs
    → IsWrittenDraft d draft
one_cell_draft d draft k rest other ps qs within left_is right_is =
    let same = writes_one draft k rest other ps qs left_is right_is in
    record {
      cells = subst (AreWritten d.shapes) (sym same) (one_written d.shapes k within);
      few_marks = λ w has.
          let one : alone k ≡ w = is_alone k w (contains-has (alone k ∷ []) w (subst (λ ws. Contains ws w) same has)) in
          let mark : 0 ≡ w.mark = ap (λ (v : Written). v.mark) one in
          omega (arith, mark);
    }

-- ---- what holds of each rule of heating and cooling

module _ (k : ℕ) (P : Draft → Type 0) (heats : (p place : ℕ) (production : Production) → P (heating k p production.attrs (arguments production) place))
    (cools : (p place : ℕ) (production : Production) → P (cooling k p (arguments production) place)) where
  places_hold : (p : ℕ) (production : Production) (places : List ℕ) (draft : Draft) → Has (flat_map (drafts_at k p production) places) draft → P draft
  places_hold p production [] draft h = absurd h
  places_hold p production (place ∷ places) draft h =
      ⊎_elim
      (λ (here : Has (drafts_at k p production place) draft). elim here [
        | inl e ↦ subst P e (heats p place production)
        | inr more ↦ elim more [ inl e ↦ subst P e (cools p place production) | inr none ↦ absurd none ]
      ])
      (λ (later : Has (flat_map (drafts_at k p production) places) draft). places_hold p production places draft later)
      (has_either (drafts_at k p production place) (flat_map (drafts_at k p production) places) draft h)

  productions_hold : (p : ℕ) (prods : List Production) (draft : Draft) → Has (drafts_from k p prods) draft → P draft
  productions_hold p [] draft h = absurd h
  productions_hold p (production ∷ prods) draft h =
      ⊎_elim (λ (here : Has (drafts_of k p production) draft). places_hold p production (strict_places production) draft here)
      (λ (later : Has (drafts_from k (p + 1) prods) draft). productions_hold (p + 1) prods draft later)
      (has_either (drafts_of k p production) (drafts_from k (p + 1) prods) draft h)

pub written_strict : (d : Declaration) (g : Syntax) (k : ℕ) (draft : Draft) → k < length d.shapes → Contains (strict_drafts g k) draft → IsWrittenDraft d draft
written_strict d g k draft within has =
    productions_hold k (IsWrittenDraft d)
    (λ p place production. one_cell_draft d (heating k p production.attrs (arguments production) place) k _ _ _ _ within refl refl)
    (λ p place production. one_cell_draft d (cooling k p (arguments production) place) k _ _ _ _ within refl refl)
    1 (declared_in g) draft (contains-has (strict_drafts g k) draft has)
