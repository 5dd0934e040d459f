-- A least completion is what the code builds.
use Rattle.std.proofs.Common.{◌≡◌, inl, inr, ℕ, ◌+◌, ◌<◌, ◌≤◌, Bool, true, false, not, cond, ◌==◌, ◌&&◌, ◌||◌, List, [], ◌∷◌, ◌++◌, map, filter, length, Option, Some, None, option_map, refl, sym, ap, ◌∙◌, subst, arith, append-nil, append_assoc}
use Rattle.std.proofs.lemmas.List.{map-append}
use Rattle.std.specs.Prelude.{unwrap_or}
use Rattle.std.specs.Option.{option_and_then}
use Rattle.std.specs.List.{flat_map, list_all, list_any}
use Rattle.std.proofs.lemmas.Bool.{eq-eqb, ne_eqb, and_from, cond-true, false_from_ne_true}
use Rattle.rule_terms.specs.declared.defs.CellShape.{CellShape}
use Rattle.live_config.proofs.Members.{Has, Apart, kept, keeps, has_map, map_has, has_left, has_right, has_either, contains-has, has-contains, different-apart}
use Rattle.cell_completion.specs.declared.tree.Written.{Written}
use Rattle.cell_completion.specs.declared.tree.Tree.{Tree, roll-Tree, roll-out-Tree}
use Rattle.cell_completion.specs.declared.completing.Standing.{Standing}
use Rattle.cell_completion.specs.Trees.{marks, around_inside, Added, added_in}
use Rattle.cell_completion.specs.Completion.{is_both, IsCell, IsAsWritten, IsPlaced, added_at, HasOneChild, IsLeastCompletion}
use Rattle.cell_completion.specs.Listed.{AreDeclared, AreWritten}
use Rattle.cell_completion.specs.Building.{same_number, parent_of, stands_in, have_room, all_inserted, stages, behind, children_in, inside_of, is_enclosed, written_cell, with_cell, built, only_root, completed}
use Rattle.cell_completion.proofs.Unfolded.{cell_of, mark_of, inside, all_has, placed_cell, placed_inside}
use Rattle.cell_completion.proofs.Order.{AreApart, AllApart, Sorted, same_sorted, all_inserted_has, has_all_new, all_sorted, ordered_sorted, ordered_room}
use Rattle.cell_completion.proofs.Cutting.{has_flat, flat_has, cut, stays_or_opens, IsAddedOf, parent_is, is_greater, stays_cut}
use Rattle.cell_completion.proofs.Marks.{apart_both, apart_joined, apart_inside}
use Rattle.cell_completion.proofs.Gathering.{same_number_true, same_number_is, IsOneOrEach, IsForest, AreCut, IsNew, cut_apart, levels}
use Rattle.cell_completion.proofs.Parts.{part, parts, child_part, part_apart, mark_part, one_part, deeper, added_part, cut_added, cut_part, IsPlacedAt, part_placed, is_written, reached}

-- ---- lists

at_most_one : {X : Type 0} (xs : List X) → length xs ≤ 1 → (x y : X) → Has xs x → Has xs y → x ≡ y
at_most_one [] few x y h g = absurd h
at_most_one (z ∷ []) few x y (inl e) (inl d) = sym e ∙ d
at_most_one (z ∷ []) few x y (inl e) (inr g) = absurd g
at_most_one (z ∷ []) few x y (inr h) g = absurd h
at_most_one (z ∷ w ∷ ws) few x y h g = absurd (omega (arith, few))

-- written cells with one mark are one
pub one_marked : (ws : List Written) → Apart (map (λ (w : Written). w.mark) ws) → (v w : Written) → Has ws v → Has ws w → v.mark ≡ w.mark → v ≡ w
one_marked [] a v w h g e = absurd h
one_marked (x ∷ xs) a v w (inl d) (inl c) e = sym d ∙ c
one_marked (x ∷ xs) a v w (inl d) (inr g) e =
    absurd (a.0 (subst (Has (map (λ (y : Written). y.mark) xs)) (sym (ap (λ (y : Written). y.mark) d ∙ e)) (has_map (λ (y : Written). y.mark) xs w g)))
one_marked (x ∷ xs) a v w (inr h) (inl c) e =
    absurd (a.0 (subst (Has (map (λ (y : Written). y.mark) xs)) (e ∙ sym (ap (λ (y : Written). y.mark) c)) (has_map (λ (y : Written). y.mark) xs v h)))
one_marked (x ∷ xs) a v w (inr h) (inr g) e = one_marked xs a.1 v w h g e

-- a member parts a list
pub split_at : {X : Type 0} (xs : List X) (x : X) → Has xs x → (before : List X) × (after : List X) × (xs ≡ before ++ x ∷ after)
split_at [] x h = absurd h
split_at (y ∷ ys) x (inl e) = ([], ys, ap (λ z. z ∷ ys) e)
split_at (y ∷ ys) x (inr h) = let r = split_at ys x h in (y ∷ r.0, r.1, ap (λ zs. y ∷ zs) r.2)

pub both_at : (ws : List Written) → Apart (map (λ (w : Written). w.mark) ws) → (w : Written) → Has ws w → is_both ws (Some w.mark) ≡ w.both
both_at [] a w h = absurd h
both_at (v ∷ vs) a w (inl e) =
    subst (λ u. list_any (λ (x : Written). x.mark == u.mark && x.both) (v ∷ vs) ≡ u.both) e
    (elim v.both as (λ b. (v.mark == v.mark && b) || list_any (λ (x : Written). x.mark == v.mark && x.both) vs ≡ b) [
      | true ↦ ap (λ t. (t && true) || list_any (λ (x : Written). x.mark == v.mark && x.both) vs) (eq-eqb v.mark v.mark refl)
      | false ↦ ap (λ t. (t && false) || list_any (λ (x : Written). x.mark == v.mark && x.both) vs) (eq-eqb v.mark v.mark refl) ∙ none vs a.0
    ])
  where
    none : (xs : List Written) → (Has (map (λ (x : Written). x.mark) xs) v.mark → ⊥) → list_any (λ (x : Written). x.mark == v.mark && x.both) xs ≡ false
    none [] lacks = refl
    none (x ∷ xs) lacks =
        ap (λ t. (t && x.both) || list_any (λ (y : Written). y.mark == v.mark && y.both) xs) (ne_eqb x.mark v.mark (λ e. lacks (inl e))) ∙ none xs (λ h. lacks (inr h))
both_at (v ∷ vs) a w (inr h) =
    ap (λ t. (t && v.both) || list_any (λ (x : Written). x.mark == w.mark && x.both) vs)
    (ne_eqb v.mark w.mark (λ e. a.0 (subst (Has (map (λ (x : Written). x.mark) vs)) (sym e) (has_map (λ (x : Written). x.mark) vs w h)))) ∙ both_at vs a.1 w h

module _ (shapes : List CellShape) (ws : List Written) (declared : AreDeclared shapes) (written : AreWritten shapes ws) (whole : Tree) (least : IsLeastCompletion shapes ws whole) where
  marks_apart : Apart (marks whole)
  marks_apart = different-apart (marks whole) least.is.once

  written_apart : Apart (map (λ (w : Written). w.mark) ws)
  written_apart = different-apart (map (λ (w : Written). w.mark) ws) written.different

  -- ---- the tree of a written cell

  pub record IsTreeOf (w : Written) (t : Tree) : Type 0 where
    pub is_part : Has (parts None whole) (part w.above t)
    pub mark_is : mark_of t ≡ Some w.mark
    pub cell_is : cell_of t ≡ w.cell

  -- a part with a mark is the tree of a written cell
  tree_by : (p : Added) (m : ℕ) → Has (parts None whole) p → mark_of p.tree ≡ Some m → (w : Written) × Has ws w × (w.mark ≡ m) × (p.around ≡ w.above) × IsTreeOf w p.tree
  tree_by p m h e =
      let at = part_placed shapes ws declared whole None None true least.is.placed p h in
      let cell = placed_cell shapes ws at.parent_at p.around at.outer_at p.tree at.placed in
      let is = subst (λ o. IsAsWritten shapes ws p.around (cell_of p.tree) o (inside p.tree)) e cell.written in
      let w : Written = record { mark = m; cell = cell_of p.tree; above = p.around; both = is_both ws (Some m) } in
      (w, contains-has ws w is, refl, refl, record { is_part = h; mark_is = e; cell_is = refl })

  tree_of : (w : Written) → Has ws w → (t : Tree) × IsTreeOf w t
  tree_of w h =
      let p = mark_part whole None w.mark (contains-has (marks whole) w.mark (least.is.whole w (has-contains ws w h))) in
      let r = tree_by p.0 w.mark p.1 p.2 in
      let same : r.0 ≡ w = one_marked ws written_apart r.0 w r.1 h r.2 in
      (p.0.tree, subst (λ v. IsTreeOf v p.0.tree) same r.4)

  one_tree : (w : Written) (t u : Tree) → IsTreeOf w t → IsTreeOf w u → t ≡ u
  one_tree w t u a b =
      ap (λ (p : Added). p.tree) (one_part whole None (part w.above t) (part w.above u) w.mark marks_apart a.is_part b.is_part a.mark_is b.mark_is)

  -- ---- the cells in a part, as a forest

  part_forest : (p : Added) → Has (parts None whole) p → IsForest shapes ws declared (Some (cell_of p.tree)) (around_inside p.around (mark_of p.tree)) (is_both ws (mark_of p.tree)) (inside p.tree)
  part_forest p h =
      let at = part_placed shapes ws declared whole None None true least.is.placed p h in
      record {
        placed = λ u g. placed_inside shapes ws at.parent_at p.around at.outer_at p.tree at.placed u g;
        apart = apart_inside p.tree (part_apart whole None p marks_apart h);
      }

  whole_forest : IsForest shapes ws declared None None true (whole ∷ [])
  whole_forest = record {
    placed = λ t h. elim h [ inl e ↦ subst (IsPlaced shapes ws None None true) e least.is.placed | inr none ↦ absurd none ];
    apart = subst Apart (sym (append-nil (marks whole))) marks_apart;
  }

  -- each added cell of a level is one of the whole's with the same written cell around it, so they are few
  few_added : (around : Option ℕ) (c : ℕ) (IsOne : Tree → Type 0) → ((a : Tree) → IsOne a → IsAddedOf c a × Has (added_in None whole) (part around a)) → IsOneOrEach shapes IsOne
  few_added around c IsOne each =
      let among : (a : Tree) → IsOne a → Has (added_at around c whole) (part around a) = λ a is.
      keeps (λ (x : Added). same_number x.around around && (cell_of x.tree == c)) (added_in None whole) (part around a) (each a is).1
      (and_from (same_number around around) (cell_of a == c) (same_number_is around around refl) (eq-eqb (cell_of a) c (each a is).0.cell_is)) in
      elim (least.least around c) [
        | inl few ↦ inl (λ a b p q. ap (λ (x : Added). x.tree) (at_most_one (added_at around c whole) few (part around a) (part around b) (among a p) (among b q)))
        | inr one ↦ inr (one.0, one.1, λ a p. all_has (HasOneChild one.0) (added_at around c whole) (part around a) one.2 (among a p))
      ]

  part_least : (p : Added) → (h : Has (parts None whole) p) → (c : ℕ)
      → IsOneOrEach shapes (IsNew shapes ws declared (Some (cell_of p.tree)) (around_inside p.around (mark_of p.tree)) (is_both ws (mark_of p.tree)) (inside p.tree) (part_forest p h) c)
  part_least p h c =
      few_added (around_inside p.around (mark_of p.tree)) c _ (λ a new.
      let t = flat_has (cut c) (inside p.tree) a new.0 in (
        new.1,
        added_part whole None (part (around_inside p.around (mark_of p.tree)) t.0) (part (around_inside p.around (mark_of p.tree)) a) (child_part whole None p t.0 h t.1)
            (cut_added c t.0 (around_inside p.around (mark_of p.tree)) a t.2 new.1.added),
      ))

  whole_least : (c : ℕ) → IsOneOrEach shapes (IsNew shapes ws declared None None true (whole ∷ []) whole_forest c)
  whole_least c =
      few_added None c _ (λ a new.
      let t = flat_has (cut c) (whole ∷ []) a new.0 in
      let same : whole ≡ t.0 = elim t.1 [ inl e ↦ e | inr none ↦ absurd none ] in
      (new.1, cut_added c whole None a (subst (λ u. Has (cut c u) a) (sym same) t.2) new.1.added))

  -- ---- the cells directly in a written one

  -- what a cut keeps whole
  kept_whole : (c : ℕ) (ts : List Tree) → ((t : Tree) → Has ts t → cut c t ≡ t ∷ []) → flat_map (cut c) ts ≡ ts
  kept_whole c [] each = refl
  kept_whole c (t ∷ ts) each =
      ap (λ us. us ++ flat_map (cut c) ts) (each t (inl refl)) ∙ ap (λ us. t ∷ us) (kept_whole c ts (λ u h. each u (inr h)))

  all_stand : (cell : ℕ) (ts : List Tree) → ((t : Tree) → Has ts t → parent_of shapes (cell_of t) ≡ Some cell) → list_all (stands_in shapes (Some cell)) ts ≡ true
  all_stand cell [] each = refl
  all_stand cell (t ∷ ts) each =
      and_from (stands_in shapes (Some cell) t) (list_all (stands_in shapes (Some cell)) ts)
      (same_number_is (parent_of shapes (cell_of t)) (Some cell) (each t (inl refl))) (all_stand cell ts (λ u h. each u (inr h)))

  module _ (w : Written) (has : Has ws w) (t : Tree) (is : IsTreeOf w t) where
    abbrev the_part : Added
    the_part = part w.above t

    at_w : IsPlacedAt shapes ws declared w.above t
    at_w = part_placed shapes ws declared whole None None true least.is.placed (part w.above t) is.is_part

    cell_w : IsCell shapes ws at_w.parent_at w.above at_w.outer_at t
    cell_w = placed_cell shapes ws at_w.parent_at w.above at_w.outer_at t at_w.placed

    sides_w : is_both ws (mark_of t) ≡ w.both
    sides_w = ap (is_both ws) is.mark_is ∙ both_at ws written_apart w has

    child_w : (u : Tree) → Has (inside t) u → IsPlaced shapes ws (Some (cell_of t)) (around_inside w.above (mark_of t)) (is_both ws (mark_of t)) u
    child_w u h = placed_inside shapes ws at_w.parent_at w.above at_w.outer_at t at_w.placed u h

    children_are : children_in shapes (Some w.cell) (inside t) ≡ Some (inside t)
    children_are =
        cond-true (list_all (stands_in shapes (Some w.cell)) (inside t) && have_room shapes (inside t)) (Some (inside t)) None
        (and_from (list_all (stands_in shapes (Some w.cell)) (inside t)) (have_room shapes (inside t))
        (all_stand w.cell (inside t) (λ u h. parent_is shapes ws declared (Some (cell_of t)) (cell_of u) (placed_cell shapes ws _ _ _ u (child_w u h)).declared ∙ ap (λ n. Some n) is.cell_is))
        (ordered_room shapes (inside t) cell_w.order))

    sorted_w : Sorted (inside t)
    sorted_w = ordered_sorted shapes (inside t) cell_w.order

    -- the trees of the cells that it encloses give the cells in it
    pub inside_is : (ts : List Tree) → AreCut shapes ws declared (length shapes) (inside t) (all_inserted ts []) → inside_of shapes w ts ≡ Some (inside t)
    inside_is ts cuts =
        elim w.both as (λ b. w.both ≡ b → option_and_then (children_in shapes (Some w.cell)) (cond b (stages shapes (w.cell + 1) (behind shapes w.cell) (all_inserted ts [])) (Some (all_inserted ts []))) ≡ Some (inside t)) [
          | true ↦ λ both.
              let less : w.cell < length shapes = written.declared w (has-contains ws w has) in
              let low : (cell : ℕ) → Some (cell_of t) ≡ Some cell → cell < w.cell + 1 = λ cell e. let same : cell_of t ≡ cell = cc in let known = is.cell_is in omega (arith, same, known) in
              let down = levels shapes ws declared (Some (cell_of t)) (around_inside w.above (mark_of t)) (is_both ws (mark_of t)) (inside t) (part_forest (part w.above t) is.is_part)
              (w.cell + 1) (behind shapes w.cell) (all_inserted ts []) low (part_least (part w.above t) is.is_part)
              (subst (λ n. AreCut shapes ws declared n (inside t) (all_inserted ts [])) (omega (arith, less)) cuts) in
              let kept_all : flat_map (cut (w.cell + 1)) (inside t) ≡ inside t = kept_whole (w.cell + 1) (inside t) (λ u h. stays_behind u (is_greater shapes ws declared (cell_of t) (cell_of u) (placed_cell shapes ws _ _ _ u (child_w u h)).declared)) in
              let same : down.result ≡ inside t = same_sorted down.result (inside t) down.cut_is.sorted sorted_w
              (λ v h. subst (λ us. Has us v) kept_all (down.cut_is.only v h)) (λ v h. down.cut_is.all v (subst (λ us. Has us v) (sym kept_all) h)) in
              ap (option_and_then (children_in shapes (Some w.cell))) down.stages_are ∙ ap (children_in shapes (Some w.cell)) same ∙ children_are
          | false ↦ λ one.
              let kept_all : flat_map (cut (length shapes)) (inside t) ≡ inside t = kept_whole (length shapes) (inside t) (λ u h. written_child one u h) in
              let same : all_inserted ts [] ≡ inside t = same_sorted (all_inserted ts []) (inside t) cuts.sorted sorted_w
              (λ v h. subst (λ us. Has us v) kept_all (cuts.only v h)) (λ v h. cuts.all v (subst (λ us. Has us v) (sym kept_all) h)) in
              ap (children_in shapes (Some w.cell)) same ∙ children_are
        ] refl
      where
        stays_behind : (u : Tree) → cell_of t < cell_of u → cut (w.cell + 1) u ≡ u ∷ []
        stays_behind u less =
            elim (stays_or_opens (w.cell + 1) u) [
              | inl stays ↦ stays.whole
              | inr opens ↦ absurd (let low = opens.below in let known = is.cell_is in omega (arith, less, low, known))
            ]

        written_child : w.both ≡ false → (u : Tree) → Has (inside t) u → cut (length shapes) u ≡ u ∷ []
        written_child one u h =
            elim (stays_or_opens (length shapes) u) [
              | inl stays ↦ stays.whole
              | inr opens ↦
                  let sides = (placed_cell shapes ws _ _ _ u (child_w u h)).sides in
                  absurd (let f : false ≡ true = sym (sides_w ∙ one) ∙ sides (ap (is_both ws) opens.added) in cc)
            ]

  -- ---- what stands alone

  abbrev own_mark_of : Standing → ℕ
  own_mark_of s = unwrap_or (mark_of s.tree) 0

  apart_kept : (p : Standing → Bool) (ss : List Standing) → Apart (map own_mark_of ss) → Apart (map own_mark_of (filter p ss))
  apart_kept p [] a = tt
  apart_kept p (s ∷ ss) a =
      elim (p s) as (λ b. Apart (map own_mark_of (cond b (s ∷ filter p ss) (filter p ss)))) [
        | true ↦ (
          (λ h. let r = map_has own_mark_of (filter p ss) (own_mark_of s) h in
              a.0 (subst (Has (map own_mark_of ss)) r.2 (has_map own_mark_of ss r.0 (kept p ss r.0 r.1).0))),
          apart_kept p ss a.1,
        )
        | false ↦ apart_kept p ss a.1
      ]

  own_is : (w : Written) (s : Standing) → IsTreeOf w s.tree → own_mark_of s ≡ w.mark
  own_is w s is = ap (λ o. unwrap_or o 0) is.mark_is

  -- no written cell of these encloses it
  abbrev IsAlone : List Written → Written → Type 0
  IsAlone vs w = (v : Written) → Has vs v → w.above ≡ Some v.mark → ⊥

  record AreStanding (vs : List Written) (standing : List Standing) : Type 0 where
    only : (s : Standing) → Has standing s → (w : Written) × Has vs w × IsAlone vs w × (s.above ≡ w.above) × IsTreeOf w s.tree
    all : (w : Written) → Has vs w → IsAlone vs w → (s : Standing) × Has standing s × (s.above ≡ w.above) × IsTreeOf w s.tree
    apart : Apart (map own_mark_of standing)

  -- the last ones of the written cells
  abbrev AreLast : List Written → Type 0
  AreLast vs = (before : List Written) × (ws ≡ before ++ vs)

  last_has : (vs : List Written) → AreLast vs → (w : Written) → Has vs w → Has ws w
  last_has vs last w h = subst (λ us. Has us w) (sym last.1) (has_right last.0 vs w h)

  -- one that encloses another stands before it
  encloser_before : (before after : List Written) (w v : Written) → ws ≡ before ++ w ∷ after → Has ws v → w.above ≡ Some v.mark → Has before v
  encloser_before before after w v e h above =
      let o = written.enclosed before after w v.mark e above in
      let has : Has before o.0 = contains-has before o.0 o.1 in
      let same : o.0 ≡ v = one_marked ws written_apart o.0 v (subst (λ us. Has us o.0) (sym e) (has_left before (w ∷ after) o.0 has)) h o.2 in
      subst (Has before) same has

  abbrev marks_of : List Written → List ℕ
  marks_of us = map (λ (u : Written). u.mark) us

  -- of two parts of the written cells none stands in both
  not_in_both : (before after : List Written) → ws ≡ before ++ after → (v : Written) → Has before v → Has after v → ⊥
  not_in_both before after e v h g =
      apart_both (marks_of before) (marks_of after)
      (subst Apart (ap marks_of e ∙ map-append (λ (u : Written). u.mark) before after) written_apart) v.mark
      (has_map (λ (u : Written). u.mark) before v h) (has_map (λ (u : Written). u.mark) after v g)

  module _ (w : Written) (rest : List Written) (last : AreLast (w ∷ rest)) where
    has_w : Has ws w
    has_w = last_has (w ∷ rest) last w (inl refl)

    abbrev rest_last : AreLast rest
    rest_last = (last.0 ++ w ∷ [], last.1 ∙ sym (append_assoc last.0 (w ∷ []) rest))

    w_alone : IsAlone (w ∷ rest) w
    w_alone v h e =
        not_in_both last.0 (w ∷ rest) last.1 v (encloser_before last.0 rest w v last.1 (last_has (w ∷ rest) last v h) e) h

    -- those that it encloses stand behind it
    enclosed_behind : (v : Written) → Has ws v → v.above ≡ Some w.mark → Has rest v
    enclosed_behind v h e =
        elim (has_either last.0 (w ∷ rest) v (subst (λ us. Has us v) last.1 h)) [
          | inl early ↦
              let p = split_at last.0 v early in
              let at : ws ≡ p.0 ++ v ∷ (p.1 ++ w ∷ rest) = last.1 ∙ ap (λ us. us ++ w ∷ rest) p.2 ∙ append_assoc p.0 (v ∷ p.1) (w ∷ rest) in
              let before = encloser_before p.0 (p.1 ++ w ∷ rest) v w at has_w e in
              absurd (not_in_both last.0 (w ∷ rest) last.1 w (subst (λ us. Has us w) (sym p.2) (has_left p.0 (v ∷ p.1) w before)) (inl refl))
          | inr late ↦ elim late [
            | inl same ↦ absurd (w_alone w (inl refl) (ap (λ (u : Written). u.above) same ∙ e))
            | inr g ↦ g
          ]
        ]

    -- of those that it encloses none encloses another
    enclosed_alone : (v : Written) → v.above ≡ Some w.mark → IsAlone rest v
    enclosed_alone v e u h d =
        let same : Some w.mark ≡ Some u.mark = sym e ∙ d in
        let mark : w.mark ≡ u.mark = cc in
        let one : w ≡ u = one_marked ws written_apart w u has_w (last_has rest rest_last u h) mark in
        not_in_both (last.0 ++ w ∷ []) rest rest_last.1 u (subst (Has (last.0 ++ w ∷ [])) one (has_right last.0 (w ∷ []) w (inl refl))) h

    module _ (standing : List Standing) (are : AreStanding rest standing) (t : Tree) (is : IsTreeOf w t) where
      abbrev inner : List Tree
      inner = map (λ (s : Standing). s.tree) (filter (is_enclosed w.mark) standing)

      inner_are : (u : Tree) → Has inner u → (v : Written) × Has rest v × (v.above ≡ Some w.mark) × IsTreeOf v u
      inner_are u h =
          let r = map_has (λ (s : Standing). s.tree) (filter (is_enclosed w.mark) standing) u h in
          let k = kept (is_enclosed w.mark) standing r.0 r.1 in
          let o = are.only r.0 k.0 in
          (o.0, o.1, sym o.3 ∙ same_number_true r.0.above (Some w.mark) k.1, subst (IsTreeOf o.0) r.2 o.4)

      are_inner : (v : Written) (u : Tree) → Has ws v → v.above ≡ Some w.mark → IsTreeOf v u → Has inner u
      are_inner v u h e tree =
          let s = are.all v (enclosed_behind v h e) (enclosed_alone v e) in
          subst (Has (map (λ (x : Standing). x.tree) (filter (is_enclosed w.mark) standing))) (one_tree v s.0.tree u s.3 tree)
          (has_map (λ (x : Standing). x.tree) (filter (is_enclosed w.mark) standing) s.0
          (keeps (is_enclosed w.mark) standing s.0 s.1 (same_number_is s.0.above (Some w.mark) (s.2 ∙ e))))

      -- they are what the cells in it are cut to
      inner_cut : (u : Tree) → Has inner u → Has (flat_map (cut (length shapes)) (inside t)) u
      inner_cut u h =
          let v = inner_are u h in
          elim (reached shapes ws declared whole None None true (Some w.mark) u v.0.mark least.is.placed (subst (λ o. Has (parts None whole) (part o u)) v.2 v.3.is_part) v.3.mark_is) [
            | inl here ↦ absurd (let f : None ≡ Some w.mark = here.0 in cc)
            | inr deep ↦
                let same : Some w.mark ≡ Some deep.mark = deep.target_is in
                let mark : deep.mark ≡ w.mark = cc in
                let p : deep.outer_part ≡ part w.above t = one_part whole None deep.outer_part (part w.above t) w.mark marks_apart deep.is_part is.is_part (deep.mark_is ∙ ap (λ n. Some n) mark) is.mark_is in
                subst (λ (q : Added). Has (flat_map (cut (length shapes)) (inside q.tree)) u) p deep.is_cut
          ]

      cut_inner : (u : Tree) → Has (flat_map (cut (length shapes)) (inside t)) u → Has inner u
      cut_inner u h =
          let k = flat_has (cut (length shapes)) (inside t) u h in
          let around : around_inside w.above (mark_of t) ≡ Some w.mark = ap (around_inside w.above) is.mark_is in
          let child = child_w w has_w t is k.0 k.1 in
          let at_child = child_part whole None (part w.above t) k.0 is.is_part k.1 in
          let is_part_u : Has (parts None whole) (part (around_inside w.above (mark_of t)) u) =
          deeper whole None (part (around_inside w.above (mark_of t)) k.0) (part (around_inside w.above (mark_of t)) u) at_child (cut_part (length shapes) k.0 (around_inside w.above (mark_of t)) u k.2) in
          let placed_u = part_placed shapes ws declared whole None None true least.is.placed (part (around_inside w.above (mark_of t)) u) is_part_u in
          elim (mark_of u) as (λ o. mark_of u ≡ o → Has inner u) [
            | None ↦ λ e. absurd (is_written shapes ws declared placed_u.parent_at (around_inside w.above (mark_of t)) placed_u.outer_at u placed_u.placed (stays_cut (length shapes) k.0 u k.2) e)
            | Some m ↦ λ e.
                let v = tree_by (part (around_inside w.above (mark_of t)) u) m is_part_u e in
                are_inner v.0 u v.1 (sym v.3 ∙ around) v.4
          ] refl

      inner_apart : AllApart inner
      inner_apart = each (filter (is_enclosed w.mark) standing) (λ s h. h) (apart_kept (is_enclosed w.mark) standing are.apart)
        where
          in_inner : (s : Standing) → Has (filter (is_enclosed w.mark) standing) s → Has inner s.tree
          in_inner s h = has_map (λ (x : Standing). x.tree) (filter (is_enclosed w.mark) standing) s h

          each : (ss : List Standing) → ((s : Standing) → Has ss s → Has (filter (is_enclosed w.mark) standing) s) → Apart (map own_mark_of ss) → AllApart (map (λ (s : Standing). s.tree) ss)
          each [] sub a = tt
          each (s ∷ ss) sub a = (
            (λ u h.
                let r = map_has (λ (x : Standing). x.tree) ss u h in
                subst (AreApart s.tree) r.2
                (cut_apart shapes ws declared (Some (cell_of t)) (around_inside w.above (mark_of t)) (is_both ws (mark_of t)) (inside t) (part_forest (part w.above t) is.is_part) (length shapes) s.tree r.0.tree
                (inner_cut s.tree (in_inner s (sub s (inl refl)))) (inner_cut r.0.tree (in_inner r.0 (sub r.0 (inr r.1))))
                (λ e. a.0 (subst (Has (map own_mark_of ss)) (sym (ap (λ x. unwrap_or (mark_of x) 0) e)) (has_map own_mark_of ss r.0 r.1))))),
            each ss (λ x h. sub x (inr h)) a.1,
          )

      inner_are_cut : AreCut shapes ws declared (length shapes) (inside t) (all_inserted inner [])
      inner_are_cut = record {
        sorted = all_sorted inner [] tt inner_apart (λ u v h g. absurd g);
        only = λ u h. elim (all_inserted_has inner [] u h) [ inl g ↦ inner_cut u g | inr none ↦ absurd none ];
        all = λ u h. has_all_new inner [] u (cut_inner u h);
      }

      the_cell : Standing
      the_cell = written_cell w (inside t)

      cell_tree : (written_cell w (inside t)).tree ≡ t
      cell_tree =
          ap (λ n. roll-Tree (record { cell = n; mark = Some w.mark; inside = inside t })) (sym is.cell_is)
          ∙ ap (λ m. roll-Tree (record { cell = cell_of t; mark = m; inside = inside t })) (sym is.mark_is) ∙ roll-out-Tree t

      abbrev others : List Standing
      others = filter (λ s. not (is_enclosed w.mark s)) standing

      with_is : with_cell shapes w standing ≡ Some (others ++ written_cell w (inside t) ∷ [])
      with_is = ap (option_map (λ found. filter (λ s. not (is_enclosed w.mark s)) standing ++ written_cell w found ∷ [])) (inside_is w has_w t is inner inner_are_cut)

      others_has : (s : Standing) → Has others s → Has standing s × (s.above ≡ Some w.mark → ⊥)
      others_has s h =
          let k = kept (λ x. not (is_enclosed w.mark x)) standing s h in
          (k.0, λ e. let f : false ≡ true = sym (ap not (same_number_is s.above (Some w.mark) e)) ∙ k.1 in cc)

      has_others : (s : Standing) → Has standing s → (s.above ≡ Some w.mark → ⊥) → Has others s
      has_others s h none =
          keeps (λ x. not (is_enclosed w.mark x)) standing s h (ap not (false_from_ne_true (is_enclosed w.mark s) (λ e. none (same_number_true s.above (Some w.mark) e))))

      are_next : AreStanding (w ∷ rest) (others ++ written_cell w (inside t) ∷ [])
      are_next = record {
        only = λ s h. elim (has_either others (written_cell w (inside t) ∷ []) s h) [
          | inl g ↦
              let k = others_has s g in
              let o = are.only s k.0 in
              (o.0, inr o.1, (λ v hv e. elim hv [ inl same ↦ k.1 (o.3 ∙ e ∙ ap (λ (x : Written). Some x.mark) (sym same)) | inr later ↦ o.2 v later e ]), o.3, o.4)
          | inr g ↦ elim g [
            | inl same ↦ (w, inl refl, w_alone, ap (λ (x : Standing). x.above) (sym same), subst (IsTreeOf w) (sym cell_tree ∙ ap (λ (x : Standing). x.tree) same) is)
            | inr none ↦ absurd none
          ]
        ];
        all = λ v h alone. elim h [
          | inl same ↦ (
            written_cell w (inside t),
            has_right others (written_cell w (inside t) ∷ []) (written_cell w (inside t)) (inl refl),
            ap (λ (x : Written). x.above) same,
            subst (λ x. IsTreeOf x (written_cell w (inside t)).tree) same (subst (IsTreeOf w) (sym cell_tree) is),
          )
          | inr later ↦
              let a = are.all v later (λ u g e. alone u (inr g) e) in
              (a.0, has_left others (written_cell w (inside t) ∷ []) a.0 (has_others a.0 a.1 (λ e. alone w (inl refl) (sym a.2 ∙ e))), a.2, a.3)
        ];
        apart = next_apart;
      }
        where
          next_apart : Apart (map own_mark_of (others ++ written_cell w (inside t) ∷ []))
          next_apart =
              subst Apart (sym (map-append own_mark_of others (written_cell w (inside t) ∷ [])))
              (apart_joined (map own_mark_of others) (own_mark_of (written_cell w (inside t)) ∷ []) (apart_kept (λ s. not (is_enclosed w.mark s)) standing are.apart) ((λ h. absurd h), tt)
              (λ n h g.
              let r = map_has own_mark_of others n h in
              let o = are.only r.0 (others_has r.0 r.1).0 in
              let mine : own_mark_of (written_cell w (inside t)) ≡ w.mark = own_is w (written_cell w (inside t)) (subst (IsTreeOf w) (sym cell_tree) is) in
              let mark : o.0.mark ≡ w.mark = sym (own_is o.0 r.0 o.4) ∙ r.2 ∙ (elim g [ inl e ↦ sym e | inr none ↦ absurd none ]) ∙ mine in
              not_in_both (last.0 ++ w ∷ []) rest rest_last.1 o.0
              (subst (Has (last.0 ++ w ∷ [])) (one_marked ws written_apart w o.0 has_w (last_has rest rest_last o.0 o.1) (sym mark)) (has_right last.0 (w ∷ []) w (inl refl))) o.1))

  -- ---- all of it

  record IsBuilt (vs : List Written) : Type 0 where
    standing : List Standing
    built_is : built shapes vs ≡ Some standing
    are : AreStanding vs standing

  all_built : (vs : List Written) → AreLast vs → IsBuilt vs
  all_built [] last = record {
    standing = [];
    built_is = refl;
    are = record { only = λ s h. absurd h; all = λ w h alone. absurd h; apart = tt };
  }
  all_built (w ∷ rest) last =
      let b = all_built rest (rest_last w rest last) in
      let t = tree_of w (has_w w rest last) in
      record {
        standing = others w rest last b.standing b.are t.0 t.1 ++ written_cell w (inside t.0) ∷ [];
        built_is = ap (option_and_then (with_cell shapes w)) b.built_is ∙ with_is w rest last b.standing b.are t.0 t.1;
        are = are_next w rest last b.standing b.are t.0 t.1;
      }

  all_last : AreLast ws
  all_last = ([], refl)

  -- one that no other encloses has none around it
  alone_outside : (w : Written) → Has ws w → IsAlone ws w → w.above ≡ None
  alone_outside w h alone =
      elim w.above as (λ o. w.above ≡ o → w.above ≡ None) [
        | None ↦ λ e. e
        | Some m ↦ λ e.
            let p = split_at ws w h in
            let o = written.enclosed p.0 p.1 w m p.2 e in
            absurd (alone o.0 (subst (λ us. Has us o.0) (sym p.2) (has_left p.0 (w ∷ p.1) o.0 (contains-has p.0 o.0 o.1))) (e ∙ ap (λ n. Some n) (sym o.2)))
      ] refl

  outside_alone : (w : Written) → w.above ≡ None → IsAlone ws w
  outside_alone w e v h d = let f : None ≡ Some v.mark = sym e ∙ d in cc

  abbrev trees_of : List Standing → List Tree
  trees_of ss = map (λ (s : Standing). s.tree) ss

  top_only : (b : IsBuilt ws) (u : Tree) → Has (trees_of b.standing) u → Has (flat_map (cut (length shapes)) (whole ∷ [])) u
  top_only b u h =
      let r = map_has (λ (s : Standing). s.tree) b.standing u h in
      let o = b.are.only r.0 r.1 in
      let is : IsTreeOf o.0 u = subst (IsTreeOf o.0) r.2 o.4 in
      let outside = alone_outside o.0 o.1 o.2 in
      elim (reached shapes ws declared whole None None true None u o.0.mark least.is.placed (subst (λ a. Has (parts None whole) (part a u)) outside is.is_part) is.mark_is) [
        | inl here ↦ has_flat (cut (length shapes)) (whole ∷ []) whole u (inl refl) here.1
        | inr deep ↦ absurd (let f : None ≡ Some deep.mark = deep.target_is in cc)
      ]

  top_all : (b : IsBuilt ws) (u : Tree) → Has (flat_map (cut (length shapes)) (whole ∷ [])) u → Has (trees_of b.standing) u
  top_all b u h =
      let k = flat_has (cut (length shapes)) (whole ∷ []) u h in
      let same : whole ≡ k.0 = elim k.1 [ inl e ↦ e | inr none ↦ absurd none ] in
      let at : Has (cut (length shapes) whole) u = subst (λ v. Has (cut (length shapes) v) u) (sym same) k.2 in
      let is_part_u = cut_part (length shapes) whole None u at in
      let placed_u = part_placed shapes ws declared whole None None true least.is.placed (part None u) is_part_u in
      elim (mark_of u) as (λ o. mark_of u ≡ o → Has (map (λ (s : Standing). s.tree) b.standing) u) [
        | None ↦ λ e. absurd (is_written shapes ws declared placed_u.parent_at None placed_u.outer_at u placed_u.placed (stays_cut (length shapes) whole u at) e)
        | Some m ↦ λ e.
            let v = tree_by (part None u) m is_part_u e in
            let s = b.are.all v.0 v.1 (outside_alone v.0 (sym v.3)) in
            subst (Has (map (λ (x : Standing). x.tree) b.standing)) (one_tree v.0 s.0.tree u s.3 v.4) (has_map (λ (x : Standing). x.tree) b.standing s.0 s.1)
      ] refl

  top_apart : (b : IsBuilt ws) → AllApart (trees_of b.standing)
  top_apart b = each b.standing (λ s h. h) b.are.apart
    where
      each : (ss : List Standing) → ((s : Standing) → Has ss s → Has b.standing s) → Apart (map own_mark_of ss) → AllApart (map (λ (s : Standing). s.tree) ss)
      each [] sub a = tt
      each (s ∷ ss) sub a = (
        (λ u h.
            let r = map_has (λ (x : Standing). x.tree) ss u h in
            subst (AreApart s.tree) r.2
            (cut_apart shapes ws declared None None true (whole ∷ []) whole_forest (length shapes) s.tree r.0.tree
            (top_only b s.tree (has_map (λ (x : Standing). x.tree) b.standing s (sub s (inl refl)))) (top_only b r.0.tree (has_map (λ (x : Standing). x.tree) b.standing r.0 (sub r.0 (inr r.1))))
            (λ e. a.0 (subst (Has (map own_mark_of ss)) (sym (ap (λ x. unwrap_or (mark_of x) 0) e)) (has_map own_mark_of ss r.0 r.1))))),
        each ss (λ x h. sub x (inr h)) a.1,
      )

  pub completed_is : completed shapes ws ≡ Some whole
  completed_is =
      let b = all_built ws all_last in
      let ts = all_inserted (trees_of b.standing) [] in
      let cuts : AreCut shapes ws declared (length shapes) (whole ∷ []) ts = record {
        sorted = all_sorted (trees_of b.standing) [] tt (top_apart b) (λ u v h g. absurd g);
        only = λ u h. elim (all_inserted_has (trees_of b.standing) [] u h) [ inl g ↦ top_only b u g | inr none ↦ absurd none ];
        all = λ u h. has_all_new (trees_of b.standing) [] u (top_all b u h);
      } in
      let down = levels shapes ws declared None None true (whole ∷ []) whole_forest 0 (length shapes) ts (λ cell e. cc) whole_least
      (subst (λ n. AreCut shapes ws declared n (whole ∷ []) ts) (omega (arith)) cuts) in
      let kept_all : flat_map (cut 0) (whole ∷ []) ≡ whole ∷ [] = kept_whole 0 (whole ∷ []) (λ u h. stays_at_all u) in
      let same : down.result ≡ whole ∷ [] = same_sorted down.result (whole ∷ []) down.cut_is.sorted ((λ u h. absurd h), tt)
      (λ v h. subst (λ us. Has us v) kept_all (down.cut_is.only v h)) (λ v h. down.cut_is.all v (subst (λ us. Has us v) (sym kept_all) h)) in
      ap (option_and_then (λ (standing : List Standing). option_and_then (only_root shapes) (stages shapes 0 (length shapes) (all_inserted (map (λ (s : Standing). s.tree) standing) [])))) b.built_is
      ∙ ap (option_and_then (only_root shapes)) down.stages_are ∙ ap (only_root shapes) same
      ∙ cond-true (stands_in shapes None whole) (Some whole) None
      (same_number_is (parent_of shapes (cell_of whole)) None (parent_is shapes ws declared None (cell_of whole) (placed_cell shapes ws None None true whole least.is.placed).declared))
    where
      stays_at_all : (u : Tree) → cut 0 u ≡ u ∷ []
      stays_at_all u =
          elim (stays_or_opens 0 u) [
            | inl stays ↦ stays.whole
            | inr opens ↦ absurd (let low = opens.below in omega (arith, low))
          ]
