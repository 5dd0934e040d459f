-- Where a variable stands in a draft that was read: at a token that is no tag, or as the rest of a cell's `...`.
use Rattle.std.proofs.Common.{◌≡◌, ◌⊎◌, inl, inr, ℕ, ◌<◌, Bool, true, false, ◌||◌, List, ◌++◌, length, drop, Some, refl, sym, ap, subst, ◌∙◌}
use Rattle.std.proofs.lemmas.List.{length-map}
use Rattle.std.proofs.lemmas.Option.{slice_get_within}
use Rattle.std.specs.Prelude.{slice_get}
use Rattle.std.specs.List.{list_any}
use Rattle.grammar_terms.specs.Grammar.{Syntax}
use Rattle.live_config.proofs.Members.{Has, has_left, has_right}
use Rattle.rule_terms.specs.declared.rule.Draft.{Draft}
use Rattle.rule_terms.specs.Patterns.{is_rest, body_rest, parts_mention, cond_mentions}
use Rattle.rule_terms.specs.Spots.{Spot}
use Rattle.rule_cells.specs.declared.form.Inside.{Inside, Cells as CellsInside, Content as ContentInside}
use Rattle.rule_parts.specs.declared.terms.Occurrence.{Occurrence}
use Rattle.rule_parts.specs.Sides.{is_left, whole_sort}
use Rattle.rule_parts.specs.Terms.{number_of}
use Rattle.rule_parts.specs.Productions.{productions_of}
use Rattle.rule_drafts.specs.Bodies.{dots_before, dots_behind}
use Rattle.rule_drafts.specs.Cells.{kind_of, tag_of, parts_at}
use Rattle.rule_drafts.specs.Drafts.{condition_occurrences, is_known}
use Rattle.cell_trees.specs.Trees.{Tree as Declaration, IsTree}
use Rattle.draft_laws.proofs.WrittenCells.{TextCell, has_cells_in}
use Rattle.draft_laws.proofs.Sides.{pictures}
use Rattle.draft_laws.proofs.Fitting.{IsFrom, from}
use Rattle.draft_laws.proofs.Occurring.{IsNoTag, leaves_good, dropped_good, parts_good, condition_good}
use Rattle.draft_laws.proofs.ReadDrafts.{IsMade}
use Rattle.sound_drafts.proofs.Numbers.{is_variable, IsNumbered, numbered}
use Rattle.sound_drafts.proofs.TextCells.{text}
use Rattle.sound_drafts.proofs.Dots.{cells, leaves, body_found, all_found, each_of}
use Rattle.sound_drafts.proofs.Standing.{IsInside, IsDots, parts_found, beside_rest, as_rest, in_content, in_condition}

module _ (d : Declaration) (g : Syntax) (draft : Draft) (tree : IsTree d) (made : IsMade d g draft) where
  -- it is the number of a variable that is told at a token which is no tag
  pub record IsPlain (x : ℕ) : Type 0 where
    pub one : Occurrence
    pub has : Has (all_found d g draft tree made) one
    pub number : x ≡ number_of made.vars one.home
    pub shut : IsNoTag made.tokens one.home

  -- it is the number of the rest of a cell's `...`, which is told
  pub record IsDotsIn (one : TextCell) (x : ℕ) : Type 0 where
    pub told : Occurrence
    pub has : Has (all_found d g draft tree made) told
    pub home : told.home ≡ one.held.start
    pub number : x ≡ number_of made.vars told.home

  abbrev pub CellOf : Bool → Spot → Type 0
  CellOf left p =
      IsFrom (productions_of g) (leaves d g draft tree made) d.shapes made.reading.contents made.vars made.tokens (cells d g draft tree made) (text d g draft tree made).1.rise left p

  pub cell_of : (left : Bool) (p : Spot) → Has (pictures (productions_of g) (leaves d g draft tree made) d.shapes made.reading.contents made.vars made.tokens left (cells d g draft tree made)) p → CellOf left p
  cell_of left p h =
      from (productions_of g) (leaves d g draft tree made) d.shapes made.reading.contents made.vars made.tokens (cells d g draft tree made) (text d g draft tree made).1.rise left p h

  -- what is told in a body is told in the rule
  pub in_body : (o : Occurrence) → Has (body_found d g draft tree made) o → Has (all_found d g draft tree made) o
  in_body o h = has_left (body_found d g draft tree made) (condition_occurrences (productions_of g) (leaves d g draft tree made) made.reading.condition) o h

  plain_inside : (x : ℕ) (one : TextCell) → Has (cells d g draft tree made) one
      → IsInside (productions_of g) (leaves d g draft tree made) d.shapes made.reading.contents made.vars made.tokens x one.on one.held.cell one.held.start one.held.left_dots one.held.right_dots one.held.inside
      → IsPlain x
  plain_inside x one has inside =
      let found =
      parts_found (productions_of g) (leaves d g draft tree made) d.shapes made.reading.contents made.vars made.tokens x one.on one.held.cell one.held.start one.held.left_dots one.held.right_dots inside.first in
      let good = parts_good made.tokens (productions_of g) (drop inside.first (leaves d g draft tree made))
      (dropped_good made.tokens inside.first (leaves d g draft tree made) (leaves_good made.tokens made.sorts)) (kind_of d.shapes one.held.cell)
      (parts_at (productions_of g) (leaves d g draft tree made) d.shapes made.reading.contents one.on (tag_of one.held.cell one.held.start one.held.left_dots one.held.right_dots) inside.first) in
      record {
        one = inside.occurs.one;
        has = in_body inside.occurs.one ((text d g draft tree made).1.among one has inside.first inside.past inside.is inside.occurs.one
            (in_content (productions_of g) (leaves d g draft tree made) d.shapes made.reading.contents made.vars made.tokens x one.on one.held.cell one.held.start one.held.left_dots one.held.right_dots
            inside.first inside.occurs.one inside.occurs.has));
        number = inside.occurs.number;
        shut = each_of (λ (o : Occurrence). IsNoTag made.tokens o.home) found inside.occurs.one good inside.occurs.has;
      }

  -- ---- the `...` of any cell are told

  record IsToldIn (found : List Occurrence) (start : ℕ) : Type 0 where
    told : Occurrence
    has : Has found told
    home : told.home ≡ start

  content_dots : (before behind : Bool) (cell start sort : ℕ) (left : Bool) (between : List Occurrence) → (before || behind) ≡ true
      → IsToldIn (dots_before (tag_of cell start before behind) sort left ++ between ++ dots_behind (tag_of cell start before behind) sort left) start
  content_dots true behind cell start sort left between e = record { told = _; has = inl refl; home = refl }
  content_dots false true cell start sort left between e = record { told = _; has = has_right between _ _ (inl refl); home = refl }
  content_dots false false cell start sort left between e = absurd (let f : false ≡ true = e in cc)

  dots_by : (x : ℕ) (one : TextCell) → Has (cells d g draft tree made) one → (inside : Inside) → one.held.inside ≡ inside → (one.held.left_dots || one.held.right_dots) ≡ true
      → IsToldIn (body_found d g draft tree made) one.held.start
  dots_by x one has (CellsInside inner) is dots =
      elim (text d g draft tree made).1.tells [
        | inl bare ↦ absurd (bare one has (ap has_cells_in is))
        | inr tells ↦ (let t = tells.dots one has (ap has_cells_in is) dots in record { told = t.told; has = t.has; home = t.home })
      ]
  dots_by x one has (ContentInside first past) is dots =
      let t = content_dots one.held.left_dots one.held.right_dots one.held.cell one.held.start (whole_sort (kind_of d.shapes one.held.cell)) (is_left one.on)
      (parts_found (productions_of g) (leaves d g draft tree made) d.shapes made.reading.contents made.vars made.tokens x one.on one.held.cell one.held.start one.held.left_dots one.held.right_dots first) dots in
      record { told = t.told; has = (text d g draft tree made).1.among one has first past is t.told t.has; home = t.home }

  dots_in : (x : ℕ) (one : TextCell) → Has (cells d g draft tree made) one
      → IsDots (productions_of g) (leaves d g draft tree made) d.shapes made.reading.contents made.vars made.tokens x one.held.start one.held.left_dots one.held.right_dots → IsDotsIn one x
  dots_in x one has dots =
      let t = dots_by x one has one.held.inside refl dots.dots in
      record { told = t.told; has = in_body t.told t.has; home = t.home; number = dots.number ∙ ap (number_of made.vars) (sym t.home) }

  -- ---- in cells and in the condition

  pub beside : (left : Bool) (p : Spot) (f : CellOf left p) (x : ℕ) → parts_mention x p.body ≡ true → IsPlain x
  beside left p f x e =
      plain_inside x f.one f.has
      (beside_rest (productions_of g) (leaves d g draft tree made) d.shapes made.reading.contents made.vars made.tokens x left f.one.on f.one.held.cell f.one.held.start f.one.held.left_dots f.one.held.right_dots
      f.one.held.inside (ap (λ (s : Spot). parts_mention x s.body) f.is ∙ e))

  pub rest : (left : Bool) (p : Spot) (f : CellOf left p) (x : ℕ) → is_rest x (body_rest p.body) ≡ true → IsDotsIn f.one x ⊎ IsPlain x
  rest left p f x e =
      elim (as_rest (productions_of g) (leaves d g draft tree made) d.shapes made.reading.contents made.vars made.tokens x left f.one.on f.one.held.cell f.one.held.start f.one.held.left_dots f.one.held.right_dots
      f.one.held.inside (ap (λ (s : Spot). is_rest x (body_rest s.body)) f.is ∙ e)) [
        | inl dots ↦ inl (dots_in x f.one f.has dots)
        | inr inside ↦ inr (plain_inside x f.one f.has inside)
      ]

  pub condition : (x : ℕ) → list_any (cond_mentions x) draft.when ≡ true → IsPlain x
  condition x e =
      let t = in_condition (productions_of g) (leaves d g draft tree made) d.shapes made.reading.contents made.vars made.tokens x made.reading.condition
      (sym (ap (λ (it : Draft). list_any (cond_mentions x) it.when) made.is) ∙ e) in
      let found = condition_occurrences (productions_of g) (leaves d g draft tree made) made.reading.condition in
      record {
        one = t.0;
        has = has_right (body_found d g draft tree made) found t.0 t.1;
        number = t.2;
        shut = each_of (λ (o : Occurrence). IsNoTag made.tokens o.home) found t.0
            (condition_good made.tokens (productions_of g) (leaves d g draft tree made) (leaves_good made.tokens made.sorts) made.reading.condition) t.1;
      }

  -- ---- its number

  pub its_number : (o : Occurrence) → Has (all_found d g draft tree made) o → IsNumbered made.vars o.home
  its_number o h = numbered made.vars o.home (subst (λ vs. is_known vs o.home ≡ true) (sym made.are.are) (is_variable (all_found d g draft tree made) o h))

  pub within : (o : Occurrence) (x : ℕ) → Has (all_found d g draft tree made) o → x ≡ number_of made.vars o.home → x < length draft.vars
  within o x h number =
      let n = its_number o h in
      let less : number_of made.vars o.home < length made.vars = slice_get_within made.vars (number_of made.vars o.home) n.variable n.is in
      subst (λ (k : ℕ). k < length draft.vars) (sym number)
      (subst (λ (k : ℕ). number_of made.vars o.home < k) (sym (ap (λ (it : Draft). length it.vars) made.is ∙ length-map made.vars (λ (v : Occurrence). v.sort))) less)

  -- variables of one number are told at one token
  pub same_home : (a b : Occurrence) → Has (all_found d g draft tree made) a → Has (all_found d g draft tree made) b → number_of made.vars a.home ≡ number_of made.vars b.home → a.home ≡ b.home
  same_home a b h k same =
      let n = its_number a h in
      let m = its_number b k in
      let both : Some n.variable ≡ Some m.variable = sym n.is ∙ ap (slice_get made.vars) same ∙ m.is in
      let one : n.variable ≡ m.variable = (let f : Some n.variable ≡ Some m.variable = both in cc) in
      sym n.home_is ∙ ap (λ (v : Occurrence). v.home) one ∙ m.home_is
