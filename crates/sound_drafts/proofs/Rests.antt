-- A rest of cells is a variable of the sort of such rests.
use Rattle.std.proofs.Common.{◌≡◌, inl, inr, ℕ, Bool, true, false, cond, ◌||◌, Some, None, option_map, refl, sym, ap, subst, ◌∙◌, Contains}
use Rattle.std.proofs.lemmas.Option.{slice_get-map}
use Rattle.std.specs.Prelude.{slice_get}
use Rattle.k_terms.specs.Sorts.{sort_bag}
use Rattle.grammar_terms.specs.Grammar.{Syntax}
use Rattle.live_config.proofs.Members.{Has, has_left, contains-has}
use Rattle.rule_terms.specs.declared.rule.Draft.{Draft}
use Rattle.rule_terms.specs.Sound.{cells_rest}
use Rattle.rule_terms.specs.Spots.{Spot}
use Rattle.rule_cells.specs.declared.form.Inside.{Inside, Cells as CellsInside, Content as ContentInside}
use Rattle.rule_parts.specs.declared.terms.Occurrence.{Occurrence}
use Rattle.rule_parts.specs.Terms.{number_of}
use Rattle.rule_parts.specs.Productions.{productions_of}
use Rattle.rule_drafts.specs.Drafts.{condition_occurrences, is_known, variables}
use Rattle.cell_trees.specs.Trees.{Tree as Declaration, IsTree}
use Rattle.strictness.specs.SoundDrafts.{spots_of}
use Rattle.draft_laws.proofs.WrittenCells.{TextCell, has_cells_in}
use Rattle.draft_laws.proofs.Fitting.{rest_in, IsFrom, from, from_rest}
use Rattle.draft_laws.proofs.ReadDrafts.{IsMade}
use Rattle.sound_drafts.proofs.TextCells.{text}
use Rattle.sound_drafts.proofs.Numbers.{was_found, is_variable, numbered}
use Rattle.sound_drafts.proofs.Dots.{cells, leaves, body_found, all_found, AllTold, own_sort, left_are}

module _ (d : Declaration) (g : Syntax) (draft : Draft) (tree : IsTree d) (made : IsMade d g draft) where
  -- the rest in a cell of cells is that of its `...`
  pub record IsDotted (before behind : Bool) (start x : ℕ) (inside : Inside) : Type 0 where
    pub holds : has_cells_in inside ≡ true
    pub dots : (before || behind) ≡ true
    pub number : number_of made.vars start ≡ x

  some_number : (b : Bool) (n x : ℕ) → cond b (Some n) None ≡ Some x → (b ≡ true) × (n ≡ x)
  some_number true n x e = (refl, let f : Some n ≡ Some x = e in cc)
  some_number false n x e = absurd (let f : None ≡ Some x = e in cc)

  pub rest_open : (cell start x : ℕ) (before behind : Bool) (inside : Inside)
      → rest_in (productions_of g) (leaves d g draft tree made) d.shapes made.reading.contents made.vars made.tokens cell start before behind inside ≡ Some x → IsDotted before behind start x inside
  rest_open cell start x before behind (CellsInside inner) e = let s = some_number (before || behind) (number_of made.vars start) x e in record { holds = refl; dots = s.0; number = s.1 }
  rest_open cell start x before behind (ContentInside first past) e = absurd (let f : None ≡ Some x = e in cc)

  sort_at : (tells : AllTold d g draft tree made) (one : TextCell) (x : ℕ) → Has (cells d g draft tree made) one
      → IsDotted one.held.left_dots one.held.right_dots one.held.start x one.held.inside → slice_get draft.vars x ≡ Some sort_bag
  sort_at tells one x has dotted =
      let t = tells.dots one has dotted.holds dotted.dots in
      let found = all_found d g draft tree made in
      let h : Has found t.told = has_left (body_found d g draft tree made) (condition_occurrences (productions_of g) (leaves d g draft tree made) made.reading.condition) t.told t.has in
      let known : is_known made.vars one.held.start ≡ true =
      subst (λ vs. is_known vs one.held.start ≡ true) (sym made.are.are) (subst (λ (n : ℕ). is_known (variables found) n ≡ true) t.home (is_variable found t.told h)) in
      let v = numbered made.vars one.held.start known in
      let there : Has found v.variable = was_found found v.variable (subst (λ vs. Has vs v.variable) made.are.are v.has) in
      let sort : v.variable.sort ≡ sort_bag = own_sort d g draft tree made tells one has v.variable there v.home_is dotted.holds in
      ap (λ (it : Draft). slice_get it.vars x) made.is
      ∙ slice_get-map (λ (o : Occurrence). o.sort) made.vars x
      ∙ ap (option_map (λ (o : Occurrence). o.sort)) (ap (slice_get made.vars) (sym dotted.number) ∙ v.is)
      ∙ ap Some sort

  pub bag_sorts : (p : Spot) (x : ℕ) → Contains (spots_of draft.left) p → cells_rest p.body ≡ Some x → slice_get draft.vars x ≡ Some sort_bag
  bag_sorts p x has rest =
      let rise = (text d g draft tree made).1.rise in
      let f : IsFrom (productions_of g) (leaves d g draft tree made) d.shapes made.reading.contents made.vars made.tokens (cells d g draft tree made) rise true p =
      from (productions_of g) (leaves d g draft tree made) d.shapes made.reading.contents made.vars made.tokens (cells d g draft tree made) rise true p
      (subst (λ ps. Has ps p) (left_are d g draft tree made) (contains-has (spots_of draft.left) p has)) in
      let dotted = rest_open f.one.held.cell f.one.held.start x f.one.held.left_dots f.one.held.right_dots f.one.held.inside
      (sym (from_rest (productions_of g) (leaves d g draft tree made) d.shapes made.reading.contents made.vars made.tokens (cells d g draft tree made) rise true p f) ∙ rest) in
      elim (text d g draft tree made).1.tells [ inl bare ↦ absurd (bare f.one f.has dotted.holds) | inr tells ↦ sort_at tells f.one x f.has dotted ]
