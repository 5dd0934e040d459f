-- The variables that stand in a draft are declared, and a rest of cells stands nowhere else.
use Rattle.std.proofs.Common.{◌≡◌, inl, inr, ⊎_elim, ℕ, ◌<◌, Bool, true, false, not, ◌==◌, ◌||◌, ◌&&◌, ◌++◌, length, Some, refl, sym, ap, subst, ◌∙◌, Contains}
use Rattle.std.proofs.lemmas.Bool.{or_cases, and_parts, eq-eqb}
use Rattle.std.specs.Prelude.{IsTrue, slice_get}
use Rattle.std.specs.List.{list_any}
use Rattle.k_terms.specs.Sorts.{sort_bag}
use Rattle.grammar_terms.specs.Grammar.{Syntax}
use Rattle.live_config.proofs.Members.{Has, has_either, any_has, contains-has}
use Rattle.rule_terms.specs.declared.rule.Draft.{Draft}
use Rattle.rule_terms.specs.Patterns.{is_rest, body_rest, parts_mention, cond_mentions}
use Rattle.rule_terms.specs.Sound.{body_mentions, side_mentions, conditions_mention, cells_rest}
use Rattle.rule_terms.specs.Spots.{Spot}
use Rattle.rule_parts.specs.Terms.{number_of}
use Rattle.rule_parts.specs.Productions.{productions_of}
use Rattle.cell_trees.specs.Trees.{Tree as Declaration, IsTree}
use Rattle.strictness.specs.SoundDrafts.{spots_of}
use Rattle.completed_rules.specs.Fits.{occurs_beside}
use Rattle.draft_laws.proofs.WrittenCells.{TextCell}
use Rattle.draft_laws.proofs.Fitting.{from_rest}
use Rattle.draft_laws.proofs.ReadDrafts.{IsMade}
use Rattle.sound_drafts.proofs.TextCells.{text}
use Rattle.sound_drafts.proofs.Dots.{cells, leaves, AllTold, no_tag, same_one, left_are, right_are}
use Rattle.sound_drafts.proofs.Rests.{rest_open, bag_sorts}
use Rattle.sound_drafts.proofs.Standings.{IsPlain, IsDotsIn, CellOf, cell_of, in_body, beside, rest, condition, within, same_home}

not_true : (b : Bool) → (b ≡ true → ⊥) → not b ≡ true
not_true true none = absurd (none refl)
not_true false none = refl

not_both : (b : Bool) → not b ≡ true → b ≡ true → ⊥
not_both true e t = absurd (let f : false ≡ true = e in cc)
not_both false e t = absurd (let f : false ≡ true = t in cc)

module _ (d : Declaration) (g : Syntax) (draft : Draft) (tree : IsTree d) (made : IsMade d g draft) where
  -- a cell of either side is one of the text
  record HasCell (p : Spot) : Type 0 where
    left : Bool
    is : CellOf d g draft tree made left p

  of_either : (p : Spot) → Has (spots_of draft.left ++ spots_of draft.right) p → HasCell p
  of_either p h =
      elim (has_either (spots_of draft.left) (spots_of draft.right) p h) [
        | inl there ↦ record { left = true; is = cell_of d g draft tree made true p (subst (λ ps. Has ps p) (left_are d g draft tree made) there) }
        | inr there ↦ record { left = false; is = cell_of d g draft tree made false p (subst (λ ps. Has ps p) (right_are d g draft tree made) there) }
      ]

  -- ---- each variable that stands somewhere is declared

  plain_within : (x : ℕ) → IsPlain d g draft tree made x → x < length draft.vars
  plain_within x plain = within d g draft tree made plain.one x plain.has plain.number

  spot_within : (x : ℕ) (p : Spot) → HasCell p → body_mentions x p.body ≡ true → x < length draft.vars
  spot_within x p c e =
      ⊎_elim (λ (part : parts_mention x p.body ≡ true). plain_within x (beside d g draft tree made c.left p c.is x part))
      (λ (last : is_rest x (body_rest p.body) ≡ true).
      ⊎_elim (λ (dots : IsDotsIn d g draft tree made c.is.one x). within d g draft tree made dots.told x dots.has dots.number)
      (λ (plain : IsPlain d g draft tree made x). plain_within x plain) (rest d g draft tree made c.left p c.is x last))
      (or_cases (parts_mention x p.body) (is_rest x (body_rest p.body)) e)

  pub known : (x : ℕ) → IsTrue (side_mentions x (spots_of draft.left ++ spots_of draft.right) || conditions_mention x draft.when) → x < length draft.vars
  known x e =
      ⊎_elim
      (λ (side : side_mentions x (spots_of draft.left ++ spots_of draft.right) ≡ true).
      let p = any_has (λ (p : Spot). body_mentions x p.body) (spots_of draft.left ++ spots_of draft.right) side in
      spot_within x p.0 (of_either p.0 p.1) p.2)
      (λ (last : conditions_mention x draft.when ≡ true). plain_within x (condition d g draft tree made x last))
      (or_cases (side_mentions x (spots_of draft.left ++ spots_of draft.right)) (conditions_mention x draft.when) e)

  -- ---- a rest of cells stands in its cell alone

  module _ (tells : AllTold d g draft tree made) (one : TextCell) (has : Has (cells d g draft tree made) one) (x : ℕ) (own : IsDotsIn d g draft tree made one x) where
    not_plain : IsPlain d g draft tree made x → ⊥
    not_plain plain =
        no_tag made.tokens plain.one.home one.held.start (same_home d g draft tree made plain.one own.told plain.has own.has (sym plain.number ∙ own.number) ∙ own.home) plain.shut (tells.tags one has)

    -- the rest of another cell is that of another `...`
    not_dots : (other : TextCell) → Has (cells d g draft tree made) other → IsDotsIn d g draft tree made other x → other ≡ one
    not_dots other also dots =
        same_one d g draft tree made tells one has other also
        (sym dots.home ∙ same_home d g draft tree made dots.told own.told dots.has own.has (sym dots.number ∙ own.number) ∙ own.home)

    elsewhere_in : (p : Spot) → HasCell p → (parts_mention x p.body || (not (p.mark == one.mark) && is_rest x (body_rest p.body))) ≡ true → ⊥
    elsewhere_in p c e =
        ⊎_elim (λ (part : parts_mention x p.body ≡ true). not_plain (beside d g draft tree made c.left p c.is x part))
        (λ (last : (not (p.mark == one.mark) && is_rest x (body_rest p.body)) ≡ true).
        let parts = and_parts (not (p.mark == one.mark)) (is_rest x (body_rest p.body)) last in
        ⊎_elim
        (λ (dots : IsDotsIn d g draft tree made c.is.one x).
        let same : p.mark ≡ one.mark = sym (ap (λ (s : Spot). s.mark) c.is.is) ∙ ap (λ (t : TextCell). t.mark) (not_dots c.is.one c.is.has dots) in
        not_both (p.mark == one.mark) parts.0 (eq-eqb p.mark one.mark same))
        (λ (plain : IsPlain d g draft tree made x). not_plain plain) (rest d g draft tree made c.left p c.is x parts.1))
        (or_cases (parts_mention x p.body) (not (p.mark == one.mark) && is_rest x (body_rest p.body)) e)

    pub not_elsewhere : occurs_beside draft one.mark x ≡ true → ⊥
    not_elsewhere e =
        ⊎_elim
        (λ (side : list_any (λ (p : Spot). parts_mention x p.body || (not (p.mark == one.mark) && is_rest x (body_rest p.body))) (spots_of draft.left ++ spots_of draft.right) ≡ true).
        let p = any_has (λ (p : Spot). parts_mention x p.body || (not (p.mark == one.mark) && is_rest x (body_rest p.body))) (spots_of draft.left ++ spots_of draft.right) side in
        elsewhere_in p.0 (of_either p.0 p.1) p.2)
        (λ (last : list_any (cond_mentions x) draft.when ≡ true). not_plain (condition d g draft tree made x last))
        (or_cases (list_any (λ (p : Spot). parts_mention x p.body || (not (p.mark == one.mark) && is_rest x (body_rest p.body))) (spots_of draft.left ++ spots_of draft.right)) (list_any (cond_mentions x) draft.when) e)

  rest_alone : (p : Spot) (x : ℕ) → CellOf d g draft tree made true p → cells_rest p.body ≡ Some x → occurs_beside draft p.mark x ≡ true → ⊥
  rest_alone p x f rest_is =
      let dotted = rest_open d g draft tree made f.one.held.cell f.one.held.start x f.one.held.left_dots f.one.held.right_dots f.one.held.inside
      (sym (from_rest (productions_of g) (leaves d g draft tree made) d.shapes made.reading.contents made.vars made.tokens (cells d g draft tree made) (text d g draft tree made).1.rise true p f) ∙ rest_is) in
      elim (text d g draft tree made).1.tells [
        | inl bare ↦ absurd (bare f.one f.has dotted.holds)
        | inr tells ↦ (
            let t = tells.dots f.one f.has dotted.holds dotted.dots in
            let told = in_body d g draft tree made t.told t.has in
            let own : IsDotsIn d g draft tree made f.one x = record { told = t.told; has = told; home = t.home; number = sym dotted.number ∙ ap (number_of made.vars) (sym t.home) } in
            subst (λ (m : ℕ). occurs_beside draft m x ≡ true → ⊥) (ap (λ (s : Spot). s.mark) f.is) (not_elsewhere tells f.one f.has x own))
      ]

  pub rests : (p : Spot) (x : ℕ) → Contains (spots_of draft.left) p → cells_rest p.body ≡ Some x → (slice_get draft.vars x ≡ Some sort_bag) × IsTrue (not (occurs_beside draft p.mark x))
  rests p x has rest_is =
      let f = cell_of d g draft tree made true p (subst (λ ps. Has ps p) (left_are d g draft tree made) (contains-has (spots_of draft.left) p has)) in
      (bag_sorts d g draft tree made p x has rest_is, not_true (occurs_beside draft p.mark x) (rest_alone p x f rest_is))
