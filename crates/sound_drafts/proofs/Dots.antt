-- A cell of cells with `...` stands on the left side, so that a new one has no rest of cells.
use Rattle.std.proofs.Common.{◌≡◌, inl, inr, ℕ, Bool, true, false, cond, not, ◌==◌, ◌&&◌, ◌||◌, List, [], ◌∷◌, filter, Some, None, refl, sym, ap, subst, ◌∙◌, Contains}
use Rattle.std.proofs.lemmas.Bool.{eqb-true, and_parts}
use Rattle.std.specs.Prelude.{slice_get}
use Rattle.std.specs.List.{AllByRecursion, find}
use Rattle.k_terms.specs.Sorts.{sort_bag}
use Rattle.grammar_terms.specs.Grammar.{Syntax}
use Rattle.live_config.proofs.Members.{Has, has_left, has_either, kept, keeps, any_has, has_map, contains-has}
use Rattle.live_config.proofs.Untouched.{has_the_mark}
use Rattle.rule_terms.specs.declared.rule.Draft.{Draft}
use Rattle.rule_terms.specs.Sound.{cells_rest}
use Rattle.rule_terms.specs.Spots.{Spot, has_mark}
use Rattle.rule_tokens.specs.declared.token.RuleToken.{RuleToken}
use Rattle.rule_cells.specs.declared.form.Inside.{Inside, Cells as CellsInside, Content as ContentInside}
use Rattle.rule_parts.specs.declared.leaves.Leaf.{Leaf}
use Rattle.rule_parts.specs.declared.terms.Occurrence.{Occurrence}
use Rattle.rule_parts.specs.Productions.{productions_of}
use Rattle.rule_drafts.specs.Cells.{is_open, mark_of}
use Rattle.rule_drafts.specs.Drafts.{is_bound, is_unbound, found_by, condition_occurrences}
use Rattle.rule_reader.specs.Contents.{cell_k}
use Rattle.cell_trees.specs.Trees.{Tree as Declaration, IsTree}
use Rattle.rule_completion.specs.Writing.{is_new}
use Rattle.strictness.specs.SoundDrafts.{spots_of}
use Rattle.draft_laws.proofs.WrittenCells.{TextCell, has_cells_in}
use Rattle.draft_laws.proofs.Sides.{is_on, spot_of, pictures}
use Rattle.draft_laws.proofs.Listing.{one_cell}
use Rattle.draft_laws.proofs.Fitting.{rest_in, IsFrom, from, from_rest}
use Rattle.draft_laws.proofs.Occurring.{IsNoTag, leaves_good, condition_good}
use Rattle.draft_laws.proofs.Events.{IsTag}
use Rattle.draft_laws.proofs.ReadDrafts.{IsMade, made_leaves}
use Rattle.sound_drafts.proofs.Bags.{IsTold}
use Rattle.sound_drafts.proofs.TextCells.{occurrences_of, Tells, text}

-- ---- lists

pub each_of : {X : Type 0} (P : X → Type 0) (xs : List X) (x : X) → AllByRecursion P xs → Has xs x → P x
each_of P [] x all h = absurd h
each_of P (y ∷ xs) x all (inl e) = subst P e all.0
each_of P (y ∷ xs) x all (inr h) = each_of P xs x all.1 h

find_none : {X : Type 0} (p : X → Bool) (xs : List X) (x : X) → find p xs ≡ None → Has xs x → p x ≡ false
find_none p [] x none h = absurd h
find_none p (y ∷ xs) x none h =
    elim (p y) as (λ b. p y ≡ b → cond b (Some y) (find p xs) ≡ None → p x ≡ false) [
      | true ↦ λ _ bad. absurd (let f : Some y ≡ None = bad in cc)
      | false ↦ λ away rest. elim h [ inl e ↦ ap p (sym e) ∙ away | inr later ↦ find_none p xs x rest later ]
    ] refl none

not_false : (b : Bool) → not b ≡ false → b ≡ true
not_false true e = refl
not_false false e = sym e

not_both : (b : Bool) → not b ≡ true → b ≡ true → ⊥
not_both true e t = absurd (let f : false ≡ true = e in cc)
not_both false e t = absurd (let f : false ≡ true = t in cc)

no_number : (b : Bool) (n : ℕ) → (b ≡ true → ⊥) → cond b (Some n) None ≡ None
no_number true n none = absurd (none refl)
no_number false n none = refl

-- a token is no tag and one
pub no_tag : (tokens : List RuleToken) (at start : ℕ) → at ≡ start → IsNoTag tokens at → IsTag tokens start → ⊥
no_tag tokens at start same shut tag =
    let one : Some shut.token ≡ Some tag.token = sym shut.is ∙ ap (slice_get tokens) same ∙ tag.is in
    let token : shut.token ≡ tag.token = (let f : Some shut.token ≡ Some tag.token = one in cc) in
    let g : false ≡ true = sym shut.shut ∙ ap (λ (t : RuleToken). is_open t.kind) token ∙ tag.opening in
    absurd (cc)

module _ (d : Declaration) (g : Syntax) (draft : Draft) (tree : IsTree d) (made : IsMade d g draft) where
  abbrev pub cells : List TextCell
  cells = (text d g draft tree made).0

  abbrev pub leaves : List Leaf
  leaves = made_leaves d g draft tree made

  abbrev pub body_found : List Occurrence
  body_found = occurrences_of (productions_of g) leaves d.shapes made.reading.contents made.vars made.tokens (cell_k d.shapes) made.reading.body

  abbrev pub all_found : List Occurrence
  all_found = found_by (cell_k d.shapes) (productions_of g) leaves d.shapes made.reading

  abbrev pub AllTold : Type 0
  AllTold = Tells (productions_of g) leaves d.shapes made.reading.contents made.vars made.tokens (cell_k d.shapes) made.reading.body cells

  -- each variable stands on the left side
  pub bound_there : (o : Occurrence) → Has all_found o → is_bound all_found o.home ≡ true
  bound_there o h = not_false (is_bound all_found o.home) (find_none (is_unbound all_found) all_found o made.are.bound h)

  pub told_of : AllTold → (o : Occurrence) → Has all_found o → IsTold made.tokens cells o
  told_of tells o h =
      elim (has_either body_found (condition_occurrences (productions_of g) leaves made.reading.condition) o h) [
        | inl here ↦ each_of (IsTold made.tokens cells) body_found o tells.told here
        | inr later ↦ inl (each_of (λ (v : Occurrence). IsNoTag made.tokens v.home) (condition_occurrences (productions_of g) leaves made.reading.condition) o
            (condition_good made.tokens (productions_of g) leaves (leaves_good made.tokens made.sorts) made.reading.condition) later)
      ]

  -- two cells with one tag are one
  pub same_one : (tells : AllTold) (one : TextCell) → Has cells one → (other : TextCell) → Has cells other → other.held.start ≡ one.held.start → other ≡ one
  same_one tells one has other also starts =
      one_cell 0 cells other one (text d g draft tree made).1.rise also has (tells.marks_are other also ∙ ap (mark_of made.tokens) starts ∙ sym (tells.marks_are one has))

  -- what is told at the tag of a cell is told by its `...`
  pub own_dots : (tells : AllTold) (one : TextCell) → Has cells one → (o : Occurrence) → Has all_found o → o.home ≡ one.held.start → o.is_left ≡ is_on true one
  own_dots tells one has o h home =
      elim (told_of tells o h) [
        | inl shut ↦ absurd (no_tag made.tokens o.home one.held.start home shut (tells.tags one has))
        | inr dots ↦ dots.left ∙ ap (is_on true) (same_one tells one has dots.one dots.has (sym dots.home ∙ home))
      ]

  -- and has the sort of rests of cells where the cell has cells
  pub own_sort : (tells : AllTold) (one : TextCell) → Has cells one → (o : Occurrence) → Has all_found o → o.home ≡ one.held.start → has_cells_in one.held.inside ≡ true → o.sort ≡ sort_bag
  own_sort tells one has o h home holds =
      elim (told_of tells o h) [
        | inl shut ↦ absurd (no_tag made.tokens o.home one.held.start home shut (tells.tags one has))
        | inr dots ↦ dots.sort (ap (λ (c : TextCell). has_cells_in c.held.inside) (same_one tells one has dots.one dots.has (sym dots.home ∙ home)) ∙ holds)
      ]

  pub dots_left : (tells : AllTold) (one : TextCell) → Has cells one → has_cells_in one.held.inside ≡ true → (one.held.left_dots || one.held.right_dots) ≡ true → is_on true one ≡ true
  dots_left tells one has holds dots =
      let t = tells.dots one has holds dots in
      let h = has_left body_found (condition_occurrences (productions_of g) leaves made.reading.condition) t.told t.has in
      let v = any_has (λ (v : Occurrence). v.is_left && v.home == t.told.home) all_found (bound_there t.told h) in
      let parts = and_parts v.0.is_left (v.0.home == t.told.home) v.2 in
      sym (own_dots tells one has v.0 v.1 (eqb-true v.0.home t.told.home parts.1 ∙ t.home)) ∙ parts.0

  -- ---- new cells

  pub left_are : spots_of draft.left ≡ pictures (productions_of g) leaves d.shapes made.reading.contents made.vars made.tokens true cells
  left_are = ap (λ (it : Draft). spots_of it.left) made.is ∙ (text d g draft tree made).1.left

  pub right_are : spots_of draft.right ≡ pictures (productions_of g) leaves d.shapes made.reading.contents made.vars made.tokens false cells
  right_are = ap (λ (it : Draft). spots_of it.right) made.is ∙ (text d g draft tree made).1.right

  rest_closed : (cell start : ℕ) (before behind : Bool) (inside : Inside) → (has_cells_in inside ≡ true → (before || behind) ≡ true → ⊥)
      → rest_in (productions_of g) leaves d.shapes made.reading.contents made.vars made.tokens cell start before behind inside ≡ None
  rest_closed cell start before behind (CellsInside inner) none = no_number (before || behind) _ (none refl)
  rest_closed cell start before behind (ContentInside first past) none = refl

  left_marked : (one : TextCell) → Has cells one → is_on true one ≡ true → has_mark (spots_of draft.left) one.mark ≡ true
  left_marked one has on =
      let spot = spot_of (productions_of g) leaves d.shapes made.reading.contents made.vars made.tokens true in
      has_the_mark (spots_of draft.left) (spot one)
      (subst (λ ps. Has ps (spot one)) (sym left_are) (has_map spot (filter (is_on true) cells) one (keeps (is_on true) cells one has on)))

  not_dotted : (one : TextCell) → Has cells one → (is_on true one ≡ true → ⊥) → has_cells_in one.held.inside ≡ true → (one.held.left_dots || one.held.right_dots) ≡ true → ⊥
  not_dotted one has away holds dots =
      elim (text d g draft tree made).1.tells [ inl bare ↦ bare one has holds | inr tells ↦ away (dots_left tells one has holds dots) ]

  pub new_closed : (q : Spot) → Contains (filter (is_new draft) (spots_of draft.right)) q → cells_rest q.body ≡ None
  new_closed q has =
      let k = kept (is_new draft) (spots_of draft.right) q (contains-has (filter (is_new draft) (spots_of draft.right)) q has) in
      let rise = (text d g draft tree made).1.rise in
      let f : IsFrom (productions_of g) leaves d.shapes made.reading.contents made.vars made.tokens cells rise false q =
      from (productions_of g) leaves d.shapes made.reading.contents made.vars made.tokens cells rise false q (subst (λ ps. Has ps q) right_are k.0) in
      let away : is_on true f.one ≡ true → ⊥ = (λ on.
      not_both (has_mark (spots_of draft.left) q.mark) k.1 (ap (has_mark (spots_of draft.left)) (sym (ap (λ (s : Spot). s.mark) f.is)) ∙ left_marked f.one f.has on)) in
      from_rest (productions_of g) leaves d.shapes made.reading.contents made.vars made.tokens cells rise false q f
      ∙ rest_closed f.one.held.cell f.one.held.start f.one.held.left_dots f.one.held.right_dots f.one.held.inside (not_dotted f.one f.has away)
