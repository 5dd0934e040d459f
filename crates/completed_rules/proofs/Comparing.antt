-- The two sides of a completed rule, compared.
use Rattle.std.proofs.Common.{◌≡◌, ◌⊎◌, inl, inr, ℕ, ◌+◌, ◌<◌, Bool, true, false, not, ◌||◌, List, ◌∷◌, ◌++◌, filter, Option, Some, None, refl, sym, ap, ◌∙◌, subst, arith}
use Rattle.std.specs.Prelude.{Contains, slice_get}
use Rattle.std.specs.Option.{option_map_or}
use Rattle.k_terms.specs.Sorts.{SortOrder}
use Rattle.rule_terms.specs.declared.defs.CellShape.{CellShape}
use Rattle.rule_terms.specs.declared.rule.Draft.{Draft}
use Rattle.rule_terms.specs.declared.rule.Rule.{Rule}
use Rattle.rule_terms.specs.Sound.{cells_rest, IsSameCell}
use Rattle.rule_terms.specs.Spots.{Spot, has_mark, new_spots}
use Rattle.live_config.proofs.Members.{Has, kept, keeps, has-contains}
use Rattle.strictness.specs.SoundDrafts.{spots_of}
use Rattle.cell_completion.specs.declared.tree.Written.{Written}
use Rattle.cell_completion.specs.declared.tree.Tree.{Tree}
use Rattle.cell_completion.specs.Trees.{around_inside}
use Rattle.cell_completion.specs.Completion.{is_many, is_both, IsWithinOneSide, IsAsWritten as IsWrittenCell}
use Rattle.cell_completion.proofs.Unfolded.{cell_of, mark_of, inside}
use Rattle.cell_trees.specs.Trees.{Tree as Declaration}
use Rattle.cell_trees.specs.Initials.{held_at}
use Rattle.rule_completion.specs.Writing.{is_new, written}
use Rattle.rule_completion.specs.Numbering.{mark_limit, default_marks}
use Rattle.rule_completion.specs.Completed.{forest, is_new_mark}
use Rattle.rule_completion.proofs.Roots.{in_forests}
use Rattle.completed_rules.proofs.Places.{Place, mark_at, own_mark_of, child_at, IsIn, itself, within, transitive}
use Rattle.completed_rules.proofs.Drafted.{with_mark, marked_is, with_body, both_is}
use Rattle.completed_rules.proofs.Sides.{IsWrittenAt, IsAddedAt, IsFilledAt, of_written, of_added, of_filled}
use Rattle.completed_rules.proofs.Presence.{IsOn, child_on}
use Rattle.completed_rules.proofs.Bodies.{rest_with, declared_cells_rest}
use Rattle.completed_rules.proofs.Whole.{IsCase, root, total, cells_of, classified, cell_in, placed_in, low, written_at, added_at, pictured, IsAt, written_there, added_there, at_place}

module _ (d : Declaration) (order : SortOrder) (draft : Draft) (rule : Rule) (c : IsCase d order draft rule) where
  abbrev Side : Bool → List Spot
  Side left = cells_of d order draft rule c left

  abbrev IsPlace : Place → Type 0
  IsPlace z = IsIn (written draft) (root d order draft rule c) z

  abbrev On : Bool → Option ℕ → Type 0
  On left m = IsOn d c.tree draft order c.sound c.fits left m

  abbrev WrittenAt : Bool → Place → Spot → Type 0
  WrittenAt left z p = IsWrittenAt d c.tree draft (total d order draft rule c) left z p

  picture_mark : (left : Bool) (z : Place) (p : Spot) → WrittenAt left z p ⊎ IsAddedAt d c.tree draft (total d order draft rule c) left z p → p.mark ≡ mark_at z
  picture_mark left z p (inl w) = written_at d order draft rule c left z p w
  picture_mark left z p (inr w) = added_at d order draft rule c left z p w

  pub mark_there : (left : Bool) (z : Place) → IsPlace z → On left (mark_of z.tree) → has_mark (Side left) (mark_at z) ≡ true
  mark_there left z i on =
      let p = pictured d order draft rule c left z i on in
      marked_is (Side left) (mark_at z) p.spot p.has (picture_mark left z p.spot p.is)

  written_on : (left : Bool) (z : Place) (p : Spot) → WrittenAt left z p → On left (mark_of z.tree)
  written_on left z p w =
      let s = with_body (spots_of (forest draft left)) w.mark w.body w.stands in
      subst (On left) (sym w.is_marked) (marked_is (spots_of (forest draft left)) w.mark s.0 s.1 s.2)

  added_on : (left : Bool) (z : Place) (p : Spot) → IsAddedAt d c.tree draft (total d order draft rule c) left z p → (l : Bool) → On l (mark_of z.tree)
  added_on left z p w l = subst (On l) (sym w.is_added) tt

  -- ---- a cell of both sides

  some_mark : (m n : ℕ) → Some m ≡ Some n → m ≡ n
  some_mark m n e = cc

  none_filled : (b : Bool) (z : Place) (p : Spot) → b ≡ true → IsFilledAt d c.tree draft (total d order draft rule c) b z p → ⊥
  none_filled true z p e f = let g : false ≡ true = f.is_new in cc
  none_filled false z p e f = cc

  both_written : (z : Place) (p q : Spot) → IsPlace z → WrittenAt true z p → WrittenAt false z q → IsSameCell p q
  both_written z p q i w v =
      let s = with_body (spots_of draft.left) w.mark w.body w.stands in
      let t = with_body (spots_of draft.right) v.mark v.body v.stands in
      let marks : s.0.mark ≡ t.0.mark = s.2 ∙ some_mark w.mark v.mark (sym w.is_marked ∙ v.is_marked) ∙ sym t.2 in
      let same = c.sound.staying s.0 t.0 (has-contains (spots_of draft.left) s.0 s.1) (has-contains (spots_of draft.right) t.0 t.1) marks in
      record {
        cell = w.cell_is ∙ sym v.cell_is;
        above = w.above_is ∙ sym v.above_is;
        rest = ap cells_rest w.body_is ∙ rest_with w.body w.cells ∙ ap cells_rest (sym s.3) ∙ same.1 ∙ ap cells_rest t.3 ∙ sym (rest_with v.body v.cells) ∙ sym (ap cells_rest v.body_is);
      }

  both_at : (z : Place) (p q : Spot) → IsPlace z → IsAt d order draft rule c true z p → IsAt d order draft rule c false z q → IsSameCell p q
  both_at z p q i (written_there w) (written_there v) = both_written z p q i w v
  both_at z p q i (written_there w) (added_there v) = absurd (let f : Some w.mark ≡ None = sym w.is_marked ∙ v.is_added in cc)
  both_at z p q i (added_there w) (written_there v) = absurd (let f : None ≡ Some v.mark = sym w.is_added ∙ v.is_marked in cc)
  both_at z p q i (added_there w) (added_there v) =
      record { cell = w.cell_is ∙ sym v.cell_is; above = w.above_is ∙ sym v.above_is; rest = ap cells_rest w.body_is ∙ sym (ap cells_rest v.body_is) }

  pub staying : (p q : Spot) → Has (Side true) p → Has (Side false) q → p.mark ≡ q.mark → IsSameCell p q
  staying p q h k e =
      let other = classified d order draft rule c false q k in
      elim (classified d order draft rule c true p h) [
        | of_written z i w ↦ both_at z p q i (written_there w) (at_place d order draft rule c false q z i (sym e ∙ written_at d order draft rule c true z p w) other)
        | of_added z i w ↦ both_at z p q i (added_there w) (at_place d order draft rule c false q z i (sym e ∙ added_at d order draft rule c true z p w) other)
        | of_filled z i f ↦ absurd (none_filled true z p refl f)
      ]

  -- ---- a new one

  false_not : (b : Bool) → (b ≡ true → ⊥) → not b ≡ true
  false_not true no_more = absurd (no_more refl)
  false_not false no_more = refl

  not_false : (b : Bool) → not b ≡ true → b ≡ true → ⊥
  not_false true e f = cc
  not_false false e f = cc

  new_written : (z : Place) (q : Spot) → IsPlace z → WrittenAt false z q → (has_mark (Side true) q.mark ≡ true → ⊥) → cells_rest q.body ≡ None
  new_written z q i w none =
      let s = with_body (spots_of draft.right) w.mark w.body w.stands in
      let gone : has_mark (spots_of draft.left) s.0.mark ≡ true → ⊥ =
      λ e. none (subst (λ m. has_mark (Side true) m ≡ true) (sym (written_at d order draft rule c false z q w))
      (mark_there true z i (subst (On true) (sym w.is_marked) (subst (λ m. has_mark (spots_of draft.left) m ≡ true) s.2 e)))) in
      let has = keeps (is_new draft) (spots_of draft.right) s.0 s.1 (false_not (has_mark (spots_of draft.left) s.0.mark) gone) in
      ap cells_rest w.body_is ∙ rest_with w.body w.cells ∙ ap cells_rest (sym s.3)
      ∙ c.fits.new_closed s.0 (has-contains (filter (is_new draft) (spots_of draft.right)) s.0 has)

  pub new_closed : (q : Spot) → Has (new_spots rule) q → cells_rest q.body ≡ None
  new_closed q h =
      let k = kept (λ (p : Spot). not (has_mark (Side true) p.mark)) (Side false) q h in
      let none = not_false (has_mark (Side true) q.mark) k.1 in
      elim (classified d order draft rule c false q k.0) [
        | of_written z i w ↦ new_written z q i w none
        | of_added z i w ↦ absurd (none (subst (λ m. has_mark (Side true) m ≡ true) (sym (added_at d order draft rule c false z q w)) (mark_there true z i (added_on false z q w true))))
        | of_filled z i f ↦ ap cells_rest f.default.body_is ∙ declared_cells_rest (held_at d q.cell) f.default.cells
      ]

  -- ---- a cell within one that is on one side alone

  pub record IsWithin (z : Place) (m : ℕ) : Type 0 where
    pub outer : Place
    pub is_in : IsPlace outer
    pub mark_is : mark_of outer.tree ≡ Some m
    pub above_is : z.above ≡ Some m
    pub side_is : z.outer ≡ false
    pub before : List Tree
    pub after : List Tree
    pub tree_at : Tree
    pub split : inside outer.tree ≡ before ++ tree_at ∷ after
    pub is_child : child_at (written draft) outer before tree_at ≡ z

  abbrev OneSided : Place → Type 0
  OneSided z = (m : ℕ) → z.around ≡ Some m → is_both (written draft) (Some m) ≡ false → IsWithin z m

  child_sided : (o : Place) (k : Option ℕ) (before after : List Tree) (u : Tree) → mark_of o.tree ≡ k → IsPlace o → inside o.tree ≡ before ++ u ∷ after → OneSided o
      → (m : ℕ) → around_inside o.around k ≡ Some m → is_both (written draft) (Some m) ≡ false → IsWithin (child_at (written draft) o before u) m
  child_sided o (Some n) before after u is i e sided m around one =
      let same = some_mark n m around in record {
        outer = o;
        is_in = i;
        mark_is = is ∙ around;
        above_is = ap (λ x. Some (own_mark_of x o.number)) is ∙ around;
        side_is = ap (is_both (written draft)) (is ∙ around) ∙ one;
        before = before;
        after = after;
        tree_at = u;
        split = e;
        is_child = refl;
      }
  child_sided o None before after u is i e sided m around one =
      let inner = sided m around one in
      let both = (cell_in d order draft rule c o i).sides (ap (is_both (written draft)) is) in
      absurd (let f : false ≡ true = sym inner.side_is ∙ both in cc)

  sided_from : (o z : Place) → IsIn (written draft) o z → IsPlace o → OneSided o → OneSided z
  sided_from o _ itself i sided = sided
  sided_from o z (within before after u e deep) i sided =
      sided_from (child_at (written draft) o before u) z deep
      (transitive d.shapes (written draft) (root d order draft rule c) o (child_at (written draft) o before u) i (within before after u e itself))
      (child_sided o (mark_of o.tree) before after u refl i e sided)

  one_sided : (z : Place) → IsPlace z → OneSided z
  one_sided z i = sided_from (root d order draft rule c) z i itself (λ m around one. absurd (let f : None ≡ Some m = around in cc))

  -- ---- a cell that comes or goes

  both_sides : (left : Bool) (m : ℕ) → has_mark (spots_of (forest draft left)) m ≡ true → has_mark (spots_of (forest draft (not left))) m ≡ true → is_both (written draft) (Some m) ≡ true
  both_sides true m e f = let s = with_mark (spots_of draft.left) m e in subst (λ n. is_both (written draft) (Some n) ≡ true) s.2 (both_is draft s.0 s.1 (subst (λ n. has_mark (spots_of draft.right) n ≡ true) (sym s.2) f))
  both_sides false m e f = let s = with_mark (spots_of draft.left) m f in subst (λ n. is_both (written draft) (Some n) ≡ true) s.2 (both_is draft s.0 s.1 (subst (λ n. has_mark (spots_of draft.right) n ≡ true) (sym s.2) e))

  other_forest : (left : Bool) (m : ℕ) → is_both (written draft) (Some m) ≡ true → has_mark (spots_of (forest draft left)) m ≡ true
  other_forest true m e = (in_forests draft m e).0
  other_forest false m e = (in_forests draft m e).1

  -- the mark around it is none of the other side
  none_there : (left : Bool) (z : Place) (m : ℕ) → On left (mark_of z.tree) → is_both (written draft) (Some m) ≡ false → IsWithin z m
      → has_mark (Side (not left)) m ≡ true → ⊥
  none_there left z m on one w e =
      let q = with_mark (Side (not left)) m e in
      let is : mark_at w.outer ≡ m = ap (λ x. own_mark_of x w.outer.number) w.mark_is in
      let own : has_mark (spots_of (forest draft left)) m ≡ true =
      subst (On left) w.mark_is (child_on d c.tree draft order c.sound c.fits left w.outer w.before w.after w.tree_at w.split (placed_in d order draft rule c w.outer w.is_in)
      (subst (λ (x : Place). On left (mark_of x.tree)) (sym w.is_child) on)) in
      elim (at_place d order draft rule c (not left) q.0 w.outer w.is_in (q.2 ∙ sym is) (classified d order draft rule c (not left) q.0 q.1)) [
        | written_there v ↦
            let other : has_mark (spots_of (forest draft (not left))) m ≡ true = subst (On (not left)) w.mark_is (written_on (not left) w.outer q.0 v) in
            let both = both_sides left m own other in
            let f : false ≡ true = sym one ∙ both in cc
        | added_there v ↦ let f : None ≡ Some m = sym v.is_added ∙ w.mark_is in cc
      ]

  -- what is said of it
  abbrev ComesAndGoes : Bool → Spot → Type 0
  ComesAndGoes left p =
      (has_mark (Side (not left)) p.mark
      || option_map_or (λ (s : CellShape). s.many) (slice_get d.shapes p.cell) false
      || option_map_or (λ above. not (has_mark (Side (not left)) above)) p.above false) ≡ true

  first_of : (x y z : Bool) → x ≡ true → (x || y || z) ≡ true
  first_of true true z e = refl
  first_of true false z e = refl
  first_of false y z e = cc

  second_of : (x y z : Bool) → y ≡ true → (x || y || z) ≡ true
  second_of true true z e = refl
  second_of false true z e = refl
  second_of x false z e = cc

  third_of : (x y z : Bool) → z ≡ true → (x || y || z) ≡ true
  third_of true true z e = refl
  third_of true false z e = refl
  third_of false true z e = refl
  third_of false false z e = e

  above_goes : (left : Bool) (p : Spot) (m : ℕ) → p.above ≡ Some m → (has_mark (Side (not left)) m ≡ true → ⊥) → ComesAndGoes left p
  above_goes left p m e none =
      third_of (has_mark (Side (not left)) p.mark) (option_map_or (λ (s : CellShape). s.many) (slice_get d.shapes p.cell) false) (option_map_or (λ above. not (has_mark (Side (not left)) above)) p.above false)
      (ap (λ o. option_map_or (λ above. not (has_mark (Side (not left)) above)) o false) e ∙ false_not (has_mark (Side (not left)) m) none)

  mark_goes : (left : Bool) (p : Spot) → has_mark (Side (not left)) p.mark ≡ true → ComesAndGoes left p
  mark_goes left p e =
      first_of (has_mark (Side (not left)) p.mark) (option_map_or (λ (s : CellShape). s.many) (slice_get d.shapes p.cell) false) (option_map_or (λ above. not (has_mark (Side (not left)) above)) p.above false) e

  many_goes : (left : Bool) (p : Spot) → is_many d.shapes p.cell ≡ true → ComesAndGoes left p
  many_goes left p e =
      second_of (has_mark (Side (not left)) p.mark) (option_map_or (λ (s : CellShape). s.many) (slice_get d.shapes p.cell) false) (option_map_or (λ above. not (has_mark (Side (not left)) above)) p.above false) e

  alone_within : (left : Bool) (z : Place) (p : Spot) → IsPlace z → WrittenAt left z p → (around : Option ℕ) → z.around ≡ around
      → ((IsWithinOneSide (written draft) around → ⊥) → ⊥) → ComesAndGoes left p
  alone_within left z p i w None e surely = absurd (surely (λ none. none))
  alone_within left z p i w (Some m) e surely =
      elim (is_both (written draft) (Some m)) as (λ b. is_both (written draft) (Some m) ≡ b → ComesAndGoes left p) [
        | true ↦ λ both. absurd (surely (λ one. let f : true ≡ false = sym both ∙ one in cc))
        | false ↦ λ one.
            let inner = one_sided z i m e one in
            above_goes left p m (w.above_is ∙ inner.above_is) (none_there left z m (written_on left z p w) one inner)
      ] refl

  single_goes : (left : Bool) (z : Place) (p : Spot) → IsPlace z → (w : WrittenAt left z p) → is_both (written draft) (Some w.mark) ≡ false → ComesAndGoes left p
  single_goes left z p i w one =
      elim (is_many d.shapes p.cell) as (λ b. is_many d.shapes p.cell ≡ b → ComesAndGoes left p) [
        | true ↦ λ many. many_goes left p many
        | false ↦ λ single.
            let v : Written = record { mark = w.mark; cell = cell_of z.tree; above = z.around; both = is_both (written draft) (Some w.mark) } in
            let there : Contains (written draft) v =
            subst (λ m. IsWrittenCell d.shapes (written draft) z.around (cell_of z.tree) m (inside z.tree)) w.is_marked (cell_in d order draft rule c z i).written in
            alone_within left z p i w z.around refl
            (λ alone. c.completed.placed v there (inr (record { one_side = one; single = ap (is_many d.shapes) (sym w.cell_is) ∙ single; alone = alone })))
      ] refl

  written_goes : (left : Bool) (z : Place) (p : Spot) → IsPlace z → WrittenAt left z p → ComesAndGoes left p
  written_goes left z p i w =
      elim (is_both (written draft) (Some w.mark)) as (λ b. is_both (written draft) (Some w.mark) ≡ b → ComesAndGoes left p) [
        | true ↦ λ both.
            mark_goes left p (subst (λ m. has_mark (Side (not left)) m ≡ true) (sym (written_at d order draft rule c left z p w))
            (mark_there (not left) z i (subst (On (not left)) (sym w.is_marked) (other_forest (not left) w.mark both))))
        | false ↦ λ one. single_goes left z p i w one
      ] refl

  low_left : (q : Spot) → Has (Side true) q → q.mark < mark_limit + total d order draft rule c
  low_left q h =
      elim (classified d order draft rule c true q h) [
        | of_written z i w ↦ let l = low d order draft rule c z i in let e = written_at d order draft rule c true z q w in omega (arith, l, e)
        | of_added z i w ↦ let l = low d order draft rule c z i in let e = added_at d order draft rule c true z q w in omega (arith, l, e)
        | of_filled z i f ↦ absurd (none_filled true z q refl f)
      ]

  new_mark : (m : ℕ) → is_new_mark draft false m ≡ true → has_mark (spots_of draft.left) m ≡ true → ⊥
  new_mark m e f = not_false (has_mark (spots_of draft.left) m) e f

  filled_goes : (z : Place) (p : Spot) → IsPlace z → IsFilledAt d c.tree draft (total d order draft rule c) false z p → ComesAndGoes false p
  filled_goes z p i f =
      elim f.default.above_is [
        | inl top ↦ above_goes false p f.mark top.1 (λ e.
            let q = with_mark (Side true) f.mark e in
            let is : q.0.mark ≡ mark_at z = q.2 ∙ sym (ap (λ x. own_mark_of x z.number) f.is_marked) in
            elim (at_place d order draft rule c true q.0 z i is (classified d order draft rule c true q.0 q.1)) [
              | written_there v ↦ new_mark f.mark f.is_new (subst (On true) f.is_marked (written_on true z q.0 v))
              | added_there v ↦ let g : None ≡ Some f.mark = sym v.is_added ∙ f.is_marked in cc
            ])
        | inr deep ↦ above_goes false p (default_marks (total d order draft rule c) f.mark + deep.0) deep.1 (λ e.
            let q = with_mark (Side true) (default_marks (total d order draft rule c) f.mark + deep.0) e in
            let l = low_left q.0 q.1 in
            let s = q.2 in
            omega (arith, l, s))
      ]

  filled_goes_on : (left : Bool) (z : Place) (p : Spot) → IsPlace z → IsFilledAt d c.tree draft (total d order draft rule c) left z p → ComesAndGoes left p
  filled_goes_on true z p i f = absurd (none_filled true z p refl f)
  filled_goes_on false z p i f = filled_goes z p i f

  pub goes : (left : Bool) (p : Spot) → Has (Side left) p → ComesAndGoes left p
  goes left p h =
      elim (classified d order draft rule c left p h) [
        | of_written z i w ↦ written_goes left z p i w
        | of_added z i w ↦
            mark_goes left p (subst (λ m. has_mark (Side (not left)) m ≡ true) (sym (added_at d order draft rule c left z p w)) (mark_there (not left) z i (added_on left z p w (not left))))
        | of_filled z i f ↦ filled_goes_on left z p i f
      ]
