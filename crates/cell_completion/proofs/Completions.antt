-- What the code builds of all written cells is their least completion.
use Rattle.std.proofs.Common.{◌≡◌, ◌⊎◌, inl, inr, ℕ, ◌+◌, ◌<◌, Bool, true, false, not, cond, ◌==◌, ◌&&◌, List, [], ◌∷◌, ◌++◌, map, filter, length, Option, Some, None, option_map, refl, sym, ap, ◌∙◌, subst, arith, append-nil, append_assoc}
use Rattle.std.proofs.lemmas.List.{map-append}
use Rattle.std.specs.Prelude.{Contains}
use Rattle.std.specs.Option.{option_and_then}
use Rattle.std.specs.List.{flat_map, list_all}
use Rattle.std.proofs.lemmas.Bool.{eqb-true, and_parts, and_from, cases_Bool}
use Rattle.std.proofs.lemmas.Grind.{flat_map-append}
use Rattle.std.proofs.lemmas.List.Folds.{flat_map-map}
use Rattle.rule_terms.specs.declared.defs.CellShape.{CellShape}
use Rattle.rule_terms.specs.Numbers.{has_number, all_different}
use Rattle.live_config.proofs.Members.{Has, Apart, kept, keeps, has_map, map_has, has_left, has_right, has_either, contains-has, has-contains, different-apart, number_has, has_the_number, lacks_number}
use Rattle.cell_completion.specs.declared.tree.Written.{Written}
use Rattle.cell_completion.specs.declared.tree.Tree.{Tree, out-Tree, out-roll-Tree}
use Rattle.cell_completion.specs.declared.completing.Standing.{Standing}
use Rattle.cell_completion.specs.Trees.{as_marks, marks, first_mark, around_inside, Added, as_added, added_in}
use Rattle.cell_completion.specs.Completion.{is_both, IsDeclaredIn, IsAsWritten, IsPlaced, AreInOrder, added_at, HasOneChild, AreLeast, IsLeastCompletion}
use Rattle.cell_completion.specs.Listed.{AreDeclared, AreWritten}
use Rattle.cell_completion.specs.Building.{same_number, parent_of, stands_in, all_inserted, have_room, stages, behind, children_in, inside_of, is_enclosed, written_cell, with_cell, built, only_root, completed}
use Rattle.cell_completion.proofs.Unfolded.{cell_of, mark_of, inside, has_all, marks_are, added_are, is_placed}
use Rattle.cell_completion.proofs.Order.{AllApart, by_first, Sorted, all_inserted_has, has_all_new, all_sorted, room_ordered}
use Rattle.cell_completion.proofs.Cutting.{has_flat, flat_has}
use Rattle.cell_completion.proofs.Marks.{apart_right, apart_both, apart_joined, one_with, has_mark_in, first_in}
use Rattle.cell_completion.proofs.Gathering.{same_number_true, same_number_is, IsOneOrEach}
use Rattle.cell_completion.proofs.Parts.{part}
use Rattle.cell_completion.proofs.Completeness.{one_marked, both_at, split_at}
use Rattle.cell_completion.proofs.Soundness.{apart_filter, apart_all_inserted, IsStaged, IsAddedAmong, declared_at, all_levels, chained}
use Rattle.cell_completion.proofs.Once.{written_around, Once, once_filter, once_few, added_once}

module _ (shapes : List CellShape) (ws : List Written) (declared : AreDeclared shapes) (written : AreWritten shapes ws) where
  written_differ : Apart (map (λ (w : Written). w.mark) ws)
  written_differ = different-apart (map (λ (w : Written). w.mark) ws) written.different

  abbrev marks_in : List Tree → List ℕ
  marks_in ts = flat_map marks ts

  abbrev trees : List Standing → List Tree
  trees ss = map (λ (s : Standing). s.tree) ss

  abbrev marks_by : List Written → List ℕ
  marks_by vs = map (λ (v : Written). v.mark) vs

  -- the tree of a written cell
  record IsBuiltOf (w : Written) (t : Tree) : Type 0 where
    mark_is : mark_of t ≡ Some w.mark
    cell_is : cell_of t ≡ w.cell
    placed : (outer : Bool) → (w.both ≡ true → outer ≡ true) → IsPlaced shapes ws (parent_of shapes (cell_of t)) w.above outer t
    least : (around target : Option ℕ) (c : ℕ) → IsOneOrEach shapes (λ a. Has (added_in around t) (part target a) × (cell_of a ≡ c))

  -- what stands alone of some written cells
  record StandsOf (vs : List Written) (ss : List Standing) : Type 0 where
    of : (s : Standing) → Has ss s → (w : Written) × Has vs w × (s.above ≡ w.above) × IsBuiltOf w s.tree
    alone : (s : Standing) (v : Written) → Has ss s → Has vs v → s.above ≡ Some v.mark → ⊥
    from : (m : ℕ) → Has (marks_in (trees ss)) m → Has (marks_by vs) m
    to : (m : ℕ) → Has (marks_by vs) m → Has (marks_in (trees ss)) m
    apart : Apart (marks_in (trees ss))

  -- ---- trees of written cells, to begin with

  -- each at a place of its own
  all_apart : (ts : List Tree) → ((t : Tree) → Has ts t → Has (marks t) (first_mark t)) → Apart (marks_in ts) → AllApart ts
  all_apart [] first a = tt
  all_apart (t ∷ ts) first a = (
    (λ u h. by_first t u (λ e. apart_both (marks t) (flat_map marks ts) a (first_mark t) (first t (inl refl))
        (has_flat marks ts u (first_mark t) h (subst (Has (marks u)) (sym e) (first u (inr h)))))),
    all_apart ts (λ u h. first u (inr h)) (apart_right (marks t) (flat_map marks ts) a),
  )

  record AreTrees (around : Option ℕ) (outer : Bool) (ts : List Tree) : Type 0 where
    of : (t : Tree) → Has ts t → (w : Written) × (w.above ≡ around) × (w.both ≡ true → outer ≡ true) × IsBuiltOf w t
    apart : Apart (flat_map marks ts)
    outside : (m : ℕ) → around ≡ Some m → Has (flat_map marks ts) m → ⊥

  module _ (around : Option ℕ) (outer : Bool) (ts : List Tree) (are : AreTrees around outer ts) where
    tree_placed : (t : Tree) → Has ts t → IsPlaced shapes ws (parent_of shapes (cell_of t)) around outer t
    tree_placed t h = let o = are.of t h in subst (λ a. IsPlaced shapes ws (parent_of shapes (cell_of t)) a outer t) o.1 (o.3.placed outer o.2)

    tree_first : (t : Tree) → Has ts t → Has (marks t) (first_mark t)
    tree_first t h = let m = has_mark_in shapes ws t (parent_of shapes (cell_of t)) around outer (tree_placed t h) in first_in t m.0 m.1

    -- added cells around one written cell are those of one tree
    one_of_trees : (target : Option ℕ) (c : ℕ) → IsOneOrEach shapes (IsAddedAmong shapes ws declared around (all_inserted ts []) target c)
    one_of_trees target c =
        elim target as (λ o. target ≡ o → IsOneOrEach shapes (IsAddedAmong shapes ws declared around (all_inserted ts []) target c)) [
          | None ↦ λ e. inl (λ a b p. absurd (let f = from a p.0 in let g : None ≡ Some f.0 = sym e ∙ f.1 in cc))
          | Some m ↦ λ e.
              elim (cases_Bool (has_number (flat_map marks ts) m)) [
                | inr lacks ↦ inl (λ a b p. absurd (let f = from a p.0 in let same : Some m ≡ Some f.0 = sym e ∙ f.1 in let k : f.0 ≡ m = cc in
                    let has : has_number (flat_map marks ts) m ≡ true = has_the_number (flat_map marks ts) m (subst (Has (flat_map marks ts)) k f.2) in let g : false ≡ true = sym lacks ∙ has in cc))
                | inl there ↦
                    let t = flat_has marks ts m (number_has (flat_map marks ts) m there) in
                    let same_tree : (a : Tree) → Has (flat_map (added_in around) (all_inserted ts [])) (part target a) → Has (added_in around t.0) (part target a) = λ a p.
                    let u = tree_with a p in
                    let same : Some m ≡ Some u.2 = sym e ∙ u.4 in
                    let k : u.2 ≡ m = cc in
                    subst (λ v. Has (added_in around v) (part target a)) (one_with marks ts are.apart u.0 t.0 m u.1 t.1 (subst (Has (marks u.0)) k u.5) t.2) u.3 in
                    fewer (λ a. Has (added_in around t.0) (part target a) × (cell_of a ≡ c)) (IsAddedAmong shapes ws declared around (all_inserted ts []) target c)
                    (λ a p. (same_tree a p.0, p.1)) ((are.of t.0 t.1).3.least around target c)
              ]
        ] refl
      where
        fewer : (P Q : Tree → Type 0) → ((a : Tree) → Q a → P a) → IsOneOrEach shapes P → IsOneOrEach shapes Q
        fewer P Q sub (inl one) = inl (λ a b p q. one a b (sub a p) (sub b q))
        fewer P Q sub (inr each) = inr (each.0, each.1, λ a q. each.2 a (sub a q))

        -- the tree that it stands in has the mark around it
        tree_with : (a : Tree) → Has (flat_map (added_in around) (all_inserted ts [])) (part target a)
            → (u : Tree) × Has ts u × (m : ℕ) × Has (added_in around u) (part target a) × (target ≡ Some m) × Has (marks u) m
        tree_with a p =
            let u = flat_has (added_in around) (all_inserted ts []) (part target a) p in
            let h : Has ts u.0 = elim (all_inserted_has ts [] u.0 u.1) [ inl g ↦ g | inr none ↦ absurd none ] in
            let o = are.of u.0 h in
            let w = written_around u.0 o.0.mark around (part target a) o.3.mark_is u.2 in
            (u.0, h, w.0, u.2, w.1, w.2)

        from : (a : Tree) → Has (flat_map (added_in around) (all_inserted ts [])) (part target a) → (m : ℕ) × (target ≡ Some m) × Has (flat_map marks ts) m
        from a p = let u = tree_with a p in (u.2, u.4, has_flat marks ts u.0 u.2 u.1 u.5)

    to_begin : IsStaged shapes ws declared around outer (length shapes) (Has (flat_map marks ts)) (all_inserted ts [])
    to_begin = record {
      sorted = all_sorted ts [] tt (all_apart ts tree_first are.apart) (λ t u h g. absurd g);
      placed = λ t h. tree_placed t (old t h);
      marks_from = λ m h. let t = flat_has marks (all_inserted ts []) m h in has_flat marks ts t.0 m (old t.0 t.1) t.2;
      marks_to = λ m h. let t = flat_has marks ts m h in has_flat marks (all_inserted ts []) t.0 m (has_all_new ts [] t.0 t.1) t.2;
      apart = apart_all_inserted marks ts [] are.apart tt (λ n h g. absurd g);
      least = one_of_trees;
      high = λ a h.
          let u = flat_has (added_in around) (all_inserted ts []) (part around a) h in
          let o = are.of u.0 (old u.0 u.1) in
          let w = written_around u.0 o.0.mark around (part around a) o.3.mark_is u.2 in
          absurd (are.outside w.0 w.1 (has_flat marks ts u.0 w.0 (old u.0 u.1) w.2));
    }
      where
        old : (t : Tree) → Has (all_inserted ts []) t → Has ts t
        old t h = elim (all_inserted_has ts [] t h) [ inl g ↦ g | inr none ↦ absurd none ]

  -- ---- the cells in a written one

  children_parts : (parent : Option ℕ) (ts us : List Tree) → children_in shapes parent ts ≡ Some us → (ts ≡ us) × (list_all (stands_in shapes parent) ts ≡ true) × (have_room shapes ts ≡ true)
  children_parts parent ts us e =
      elim (list_all (stands_in shapes parent) ts && have_room shapes ts) as (λ b. (list_all (stands_in shapes parent) ts && have_room shapes ts) ≡ b
      → cond b (Some ts) None ≡ Some us → (ts ≡ us) × (list_all (stands_in shapes parent) ts ≡ true) × (have_room shapes ts ≡ true)) [
        | true ↦ λ both d. let p = and_parts (list_all (stands_in shapes parent) ts) (have_room shapes ts) both in (cc, p.0, p.1)
        | false ↦ λ _ d. absurd (let f : None ≡ Some us = d in cc)
      ] refl e

  stand_each : (parent : Option ℕ) (ts : List Tree) → list_all (stands_in shapes parent) ts ≡ true → (t : Tree) → Has ts t → parent_of shapes (cell_of t) ≡ parent
  stand_each parent [] e t h = absurd h
  stand_each parent (u ∷ us) e t (inl same) =
      ap (λ v. parent_of shapes (cell_of v)) (sym same) ∙ same_number_true (parent_of shapes (cell_of u)) parent (and_parts (stands_in shapes parent u) (list_all (stands_in shapes parent) us) e).0
  stand_each parent (u ∷ us) e t (inr h) = stand_each parent us (and_parts (stands_in shapes parent u) (list_all (stands_in shapes parent) us) e).1 t h

  module _ (w : Written) (has : Has ws w) (ts us : List Tree) (are : AreTrees (Some w.mark) w.both ts) (is : inside_of shapes w ts ≡ Some us) where
    less_w : w.cell < length shapes
    less_w = written.declared w (has-contains ws w has)

    both_w : is_both ws (Some w.mark) ≡ w.both
    both_w = both_at ws written_differ w has

    abbrev level_w : ℕ
    level_w = w.cell + 1

    begun : IsStaged shapes ws declared (Some w.mark) w.both (length shapes) (Has (flat_map marks ts)) (all_inserted ts [])
    begun = to_begin (Some w.mark) w.both ts are

    record IsInside : Type 0 where
      sorted_in : Sorted us
      placed_in : (t : Tree) → Has us t → IsPlaced shapes ws (Some w.cell) (Some w.mark) w.both t
      order_in : AreInOrder shapes us
      from_in : (m : ℕ) → Has (flat_map marks us) m → Has (flat_map marks ts) m
      to_in : (m : ℕ) → Has (flat_map marks ts) m → Has (flat_map marks us) m
      apart_in : Apart (flat_map marks us)
      least_in : (target : Option ℕ) (c : ℕ) → IsOneOrEach shapes (IsAddedAmong shapes ws declared (Some w.mark) us target c)

    finished : (level : ℕ) (vs : List Tree) → IsStaged shapes ws declared (Some w.mark) w.both level (Has (flat_map marks ts)) vs → children_in shapes (Some w.cell) vs ≡ Some us → IsInside
    finished level vs staged e =
        let c = children_parts (Some w.cell) vs us e in
        let s = subst (IsStaged shapes ws declared (Some w.mark) w.both level (Has (flat_map marks ts))) c.0 staged in
        let stand = stand_each (Some w.cell) us (subst (λ xs. list_all (stands_in shapes (Some w.cell)) xs ≡ true) c.0 c.1) in
        record {
          sorted_in = s.sorted;
          placed_in = λ t h. subst (λ o. IsPlaced shapes ws o (Some w.mark) w.both t) (stand t h) (s.placed t h);
          order_in = room_ordered shapes us s.sorted (subst (λ xs. have_room shapes xs ≡ true) c.0 c.2);
          from_in = s.marks_from;
          to_in = s.marks_to;
          apart_in = s.apart;
          least_in = s.least;
        }

    is_inside : IsInside
    is_inside =
        elim w.both as (λ b. w.both ≡ b
        → option_and_then (children_in shapes (Some w.cell)) (cond b (stages shapes (w.cell + 1) (behind shapes w.cell) (all_inserted ts [])) (Some (all_inserted ts []))) ≡ Some us → IsInside) [
          | true ↦ λ both e.
              let s = chained (children_in shapes (Some w.cell)) (stages shapes (w.cell + 1) (behind shapes w.cell) (all_inserted ts [])) us e in
              let less = less_w in
              let start : IsStaged shapes ws declared (Some w.mark) true ((w.cell + 1) + behind shapes w.cell) (Has (flat_map marks ts)) (all_inserted ts []) =
              subst (λ n. IsStaged shapes ws declared (Some w.mark) true n (Has (flat_map marks ts)) (all_inserted ts [])) (omega (arith, less))
              (subst (λ b. IsStaged shapes ws declared (Some w.mark) b (length shapes) (Has (flat_map marks ts)) (all_inserted ts [])) both begun) in
              let done = all_levels shapes ws declared (Some w.mark) (Has (flat_map marks ts)) (w.cell + 1) (behind shapes w.cell) (omega (arith, less)) (all_inserted ts []) s.0 start s.1 in
              finished (w.cell + 1) s.0 (subst (λ b. IsStaged shapes ws declared (Some w.mark) b (w.cell + 1) (Has (flat_map marks ts)) s.0) (sym both) done) s.2
          | false ↦ λ one e. finished (length shapes) (all_inserted ts []) begun e
        ] refl is

    abbrev the_tree : Tree
    the_tree = (written_cell w us).tree

    tree_parts : out-Tree (written_cell w us).tree ≡ record { cell = w.cell; mark = Some w.mark; inside = us }
    tree_parts = out-roll-Tree (record { cell = w.cell; mark = Some w.mark; inside = us })

    cell_t : cell_of (written_cell w us).tree ≡ w.cell
    cell_t = ap (λ r. r.cell) tree_parts

    mark_t : mark_of (written_cell w us).tree ≡ Some w.mark
    mark_t = ap (λ r. r.mark) tree_parts

    inside_t : inside (written_cell w us).tree ≡ us
    inside_t = ap (λ r. r.inside) tree_parts

    marks_t : marks (written_cell w us).tree ≡ w.mark ∷ flat_map marks us
    marks_t =
        marks_are (written_cell w us).tree
        ∙ ap (λ o. as_marks o ++ flat_map marks (inside (written_cell w us).tree)) mark_t
        ∙ ap (λ xs. w.mark ∷ flat_map marks xs) inside_t

    added_t : (around : Option ℕ) → added_in around (written_cell w us).tree ≡ flat_map (added_in (Some w.mark)) us
    added_t around =
        added_are around (written_cell w us).tree
        ∙ ap (λ o. as_added around o (written_cell w us).tree ++ flat_map (added_in (around_inside around o)) (inside (written_cell w us).tree)) mark_t
        ∙ ap (flat_map (added_in (Some w.mark))) inside_t

    placed_t : (outer : Bool) → (w.both ≡ true → outer ≡ true) → IsPlaced shapes ws (parent_of shapes (cell_of (written_cell w us).tree)) w.above outer (written_cell w us).tree
    placed_t outer sides =
        let i = is_inside in
        is_placed shapes ws (parent_of shapes (cell_of (written_cell w us).tree)) w.above outer (written_cell w us).tree (record {
          declared = subst (λ n. IsDeclaredIn shapes (parent_of shapes n) n) (sym cell_t) (declared_at shapes ws declared w.cell less_w);
          written =
              subst (λ o. IsAsWritten shapes ws w.above (cell_of (written_cell w us).tree) o (inside (written_cell w us).tree)) (sym mark_t)
              (subst (λ n. Contains ws (record { mark = w.mark; cell = n; above = w.above; both = is_both ws (Some w.mark) })) (sym cell_t)
              (subst (λ b. Contains ws (record { mark = w.mark; cell = w.cell; above = w.above; both = b })) (sym both_w) (has-contains ws w has)));
          sides = λ e. sides (sym both_w ∙ ap (is_both ws) (sym mark_t) ∙ e);
          order = subst (AreInOrder shapes) (sym inside_t) i.order_in;
        }) (λ k h.
        subst (λ n. IsPlaced shapes ws (Some n) (around_inside w.above (mark_of (written_cell w us).tree)) (is_both ws (mark_of (written_cell w us).tree)) k) (sym cell_t)
        (subst (λ o. IsPlaced shapes ws (Some w.cell) (around_inside w.above o) (is_both ws o) k) (sym mark_t)
        (subst (λ b. IsPlaced shapes ws (Some w.cell) (Some w.mark) b k) (sym both_w) (i.placed_in k (subst (λ xs. Has xs k) inside_t h)))))

    is_built : IsBuiltOf w (written_cell w us).tree
    is_built = record {
      mark_is = mark_t;
      cell_is = cell_t;
      placed = placed_t;
      least = λ around target c. let i = is_inside in
          subst (λ added. IsOneOrEach shapes (λ a. Has added (part target a) × (cell_of a ≡ c))) (sym (added_t around)) (i.least_in target c);
    }

  -- ---- one written cell after the other

  abbrev lasts : List Written → Type 0
  lasts vs = (before : List Written) × (ws ≡ before ++ vs)

  last_in : (vs : List Written) → lasts vs → (w : Written) → Has vs w → Has ws w
  last_in vs last w h = subst (λ us. Has us w) (sym last.1) (has_right last.0 vs w h)

  -- the cell that encloses another is on both sides where the other is
  encloser : (w v : Written) → Has ws w → Has ws v → v.above ≡ Some w.mark → v.both ≡ true → w.both ≡ true
  encloser w v hw hv e both =
      let p = split_at ws v hv in
      let o = written.enclosed p.0 p.1 v w.mark p.2 e in
      let has : Has ws o.0 = subst (λ us. Has us o.0) (sym p.2) (has_left p.0 (v ∷ p.1) o.0 (contains-has p.0 o.0 o.1)) in
      subst (λ (u : Written). u.both ≡ true) (one_marked ws written_differ o.0 w has hw o.2) (o.3 both)

  -- one that encloses a cell stands before it
  above_before : (before after : List Written) (w : Written) → ws ≡ before ++ w ∷ after → (m : ℕ) → w.above ≡ Some m → Has (marks_by (w ∷ after)) m → ⊥
  above_before before after w e m above h =
      let o = written.enclosed before after w m e above in
      apart_both (map (λ (v : Written). v.mark) before) (map (λ (v : Written). v.mark) (w ∷ after))
      (subst Apart (ap (map (λ (v : Written). v.mark)) e ∙ map-append (λ (v : Written). v.mark) before (w ∷ after)) written_differ) m
      (subst (Has (map (λ (v : Written). v.mark) before)) o.2 (has_map (λ (v : Written). v.mark) before o.0 (contains-has before o.0 o.1))) h

  module _ (w : Written) (rest : List Written) (before : List Written) (at : ws ≡ before ++ w ∷ rest) (ss : List Standing) (stands : StandsOf rest ss) (us : List Tree) where
    w_in : Has ws w
    w_in = subst (λ xs. Has xs w) (sym at) (has_right before (w ∷ rest) w (inl refl))

    abbrev enclosed : List Standing
    enclosed = filter (is_enclosed w.mark) ss

    abbrev others : List Standing
    others = filter (λ s. not (is_enclosed w.mark s)) ss

    -- the mark is none of those that were built
    w_new : Has (marks_in (trees ss)) w.mark → ⊥
    w_new h =
        let here = stands.from w.mark h in
        let apart = apart_right (map (λ (v : Written). v.mark) before) (map (λ (v : Written). v.mark) (w ∷ rest))
        (subst Apart (ap (map (λ (v : Written). v.mark)) at ∙ map-append (λ (v : Written). v.mark) before (w ∷ rest)) written_differ) in
        apart.0 here

    tree_has : (p : Standing → Bool) (t : Tree) → Has (map (λ (s : Standing). s.tree) (filter p ss)) t → (s : Standing) × Has ss s × (p s ≡ true) × (s.tree ≡ t)
    tree_has p t h =
        let r = map_has (λ (s : Standing). s.tree) (filter p ss) t h in
        let k = kept p ss r.0 r.1 in
        (r.0, k.0, k.1, r.2)

    marks_sub : (p : Standing → Bool) (m : ℕ) → Has (flat_map marks (map (λ (s : Standing). s.tree) (filter p ss))) m → Has (marks_in (trees ss)) m
    marks_sub p m h =
        let t = flat_has marks (map (λ (s : Standing). s.tree) (filter p ss)) m h in
        let s = tree_has p t.0 t.1 in
        has_flat marks (map (λ (x : Standing). x.tree) ss) t.0 m (subst (Has (map (λ (x : Standing). x.tree) ss)) s.3 (has_map (λ (x : Standing). x.tree) ss s.0 s.1)) t.2

    apart_sub : (p : Standing → Bool) → Apart (flat_map marks (map (λ (s : Standing). s.tree) (filter p ss)))
    apart_sub p =
        subst Apart (sym (flat_map-map marks (λ (s : Standing). s.tree) (filter p ss)))
        (apart_filter (λ (s : Standing). marks s.tree) p ss (subst Apart (flat_map-map marks (λ (s : Standing). s.tree) ss) stands.apart))

    are_enclosed : AreTrees (Some w.mark) w.both (map (λ (s : Standing). s.tree) (filter (is_enclosed w.mark) ss))
    are_enclosed = record {
      of = λ t h.
          let s = tree_has (is_enclosed w.mark) t h in
          let o = stands.of s.0 s.1 in
          let above : o.0.above ≡ Some w.mark = sym o.2 ∙ same_number_true s.0.above (Some w.mark) s.2 in
          let in_ws : Has ws o.0 = subst (λ xs. Has xs o.0) (sym at) (has_right before (w ∷ rest) o.0 (inr o.1)) in
          (o.0, above, (λ both. encloser w o.0 w_in in_ws above both), subst (IsBuiltOf o.0) s.3 o.3);
      apart = apart_sub (is_enclosed w.mark);
      outside = λ m e h. let same : w.mark ≡ m = cc in w_new (marks_sub (is_enclosed w.mark) w.mark (subst (Has (flat_map marks (map (λ (s : Standing). s.tree) (filter (is_enclosed w.mark) ss)))) (sym same) h));
    }

    module _ (is : inside_of shapes w (map (λ (s : Standing). s.tree) (filter (is_enclosed w.mark) ss)) ≡ Some us) where
      abbrev next : List Standing
      next = filter (λ s. not (is_enclosed w.mark s)) ss ++ written_cell w us ∷ []

      abbrev inner_trees : List Tree
      inner_trees = map (λ (s : Standing). s.tree) (filter (is_enclosed w.mark) ss)

      w_inside : IsInside w w_in inner_trees us are_enclosed is
      w_inside = is_inside w w_in (map (λ (s : Standing). s.tree) (filter (is_enclosed w.mark) ss)) us are_enclosed is

      w_marks : marks (written_cell w us).tree ≡ w.mark ∷ flat_map marks us
      w_marks = marks_t w w_in (map (λ (s : Standing). s.tree) (filter (is_enclosed w.mark) ss)) us are_enclosed is

      -- one of those before, or the new one
      next_cases : (s : Standing) → Has next s → (Has ss s × (is_enclosed w.mark s ≡ false)) ⊎ (written_cell w us ≡ s)
      next_cases s h =
          elim (has_either (filter (λ x. not (is_enclosed w.mark x)) ss) (written_cell w us ∷ []) s h) [
            | inl g ↦ let k = kept (λ x. not (is_enclosed w.mark x)) ss s g in inl (k.0, not_true (is_enclosed w.mark s) k.1)
            | inr g ↦ elim g [ inl e ↦ inr e | inr none ↦ absurd none ]
          ]
        where
          not_true : (b : Bool) → not b ≡ true → b ≡ false
          not_true true e = cc
          not_true false e = refl

      next_marks : marks_in (trees next) ≡ flat_map marks (map (λ (s : Standing). s.tree) (filter (λ s. not (is_enclosed w.mark s)) ss)) ++ (w.mark ∷ flat_map marks us)
      next_marks =
          ap (flat_map marks) (map-append (λ (s : Standing). s.tree) (filter (λ s. not (is_enclosed w.mark s)) ss) (written_cell w us ∷ []))
          ∙ flat_map-append marks (map (λ (s : Standing). s.tree) (filter (λ s. not (is_enclosed w.mark s)) ss)) ((written_cell w us).tree ∷ [])
          ∙ ap (λ ms. flat_map marks (map (λ (s : Standing). s.tree) (filter (λ s. not (is_enclosed w.mark s)) ss)) ++ ms) (append-nil (marks (written_cell w us).tree) ∙ w_marks)

      -- the marks inside are those of cells that it encloses
      inside_old : (m : ℕ) → Has (flat_map marks us) m → Has (flat_map marks (map (λ (s : Standing). s.tree) (filter (is_enclosed w.mark) ss))) m
      inside_old m h = IsInside.from_in w_inside m h

      next_from : (m : ℕ) → Has (marks_in (trees next)) m → Has (marks_by (w ∷ rest)) m
      next_from m h =
          elim (has_either (flat_map marks (map (λ (s : Standing). s.tree) (filter (λ s. not (is_enclosed w.mark s)) ss))) (w.mark ∷ flat_map marks us) m (subst (λ ms. Has ms m) next_marks h)) [
            | inl old ↦ inr (stands.from m (marks_sub (λ s. not (is_enclosed w.mark s)) m old))
            | inr g ↦ elim g [ inl e ↦ inl e | inr k ↦ inr (stands.from m (marks_sub (is_enclosed w.mark) m (inside_old m k))) ]
          ]

      next_to : (m : ℕ) → Has (marks_by (w ∷ rest)) m → Has (marks_in (trees next)) m
      next_to m h =
          subst (λ ms. Has ms m) (sym next_marks)
          (elim h [
            | inl e ↦ has_right (flat_map marks (map (λ (s : Standing). s.tree) (filter (λ s. not (is_enclosed w.mark s)) ss))) (w.mark ∷ flat_map marks us) m (inl e)
            | inr g ↦
                let t = flat_has marks (map (λ (s : Standing). s.tree) ss) m (stands.to m g) in
                let s = map_has (λ (x : Standing). x.tree) ss t.0 t.1 in
                let at_s : Has (marks s.0.tree) m = subst (λ u. Has (marks u) m) (sym s.2) t.2 in
                elim (cases_Bool (is_enclosed w.mark s.0)) [
                  | inl e ↦
                      has_right (flat_map marks (map (λ (x : Standing). x.tree) (filter (λ x. not (is_enclosed w.mark x)) ss))) (w.mark ∷ flat_map marks us) m
                      (inr (IsInside.to_in w_inside m (has_flat marks (map (λ (x : Standing). x.tree) (filter (is_enclosed w.mark) ss)) s.0.tree m (has_map (λ (x : Standing). x.tree) (filter (is_enclosed w.mark) ss) s.0 (keeps (is_enclosed w.mark) ss s.0 s.1 e)) at_s)))
                  | inr e ↦
                      has_left (flat_map marks (map (λ (x : Standing). x.tree) (filter (λ x. not (is_enclosed w.mark x)) ss))) (w.mark ∷ flat_map marks us) m
                      (has_flat marks (map (λ (x : Standing). x.tree) (filter (λ x. not (is_enclosed w.mark x)) ss)) s.0.tree m (has_map (λ (x : Standing). x.tree) (filter (λ x. not (is_enclosed w.mark x)) ss) s.0 (keeps (λ x. not (is_enclosed w.mark x)) ss s.0 s.1 (ap not e))) at_s)
                ]
          ])

      -- no mark is among the others and among those that it encloses
      sides_differ : (m : ℕ) → Has (flat_map marks (map (λ (s : Standing). s.tree) (filter (λ s. not (is_enclosed w.mark s)) ss))) m
          → Has (flat_map marks (map (λ (s : Standing). s.tree) (filter (is_enclosed w.mark) ss))) m → ⊥
      sides_differ m h g =
          let t = flat_has marks (map (λ (s : Standing). s.tree) (filter (λ s. not (is_enclosed w.mark s)) ss)) m h in
          let u = flat_has marks (map (λ (s : Standing). s.tree) (filter (is_enclosed w.mark) ss)) m g in
          let a = tree_has (λ s. not (is_enclosed w.mark s)) t.0 t.1 in
          let b = tree_has (is_enclosed w.mark) u.0 u.1 in
          let apart : Apart (flat_map (λ (s : Standing). marks s.tree) ss) = subst Apart (flat_map-map marks (λ (s : Standing). s.tree) ss) stands_apart in
          let same : a.0 ≡ b.0 = one_with (λ (s : Standing). marks s.tree) ss apart a.0 b.0 m a.1 b.1 (subst (λ v. Has (marks v) m) (sym a.3) t.2) (subst (λ v. Has (marks v) m) (sym b.3) u.2) in
          let e : not (is_enclosed w.mark b.0) ≡ true = subst (λ s. not (is_enclosed w.mark s) ≡ true) same a.2 in
          let f : false ≡ true = sym (ap not b.2) ∙ e in cc
        where
          stands_apart : Apart (flat_map marks (map (λ (s : Standing). s.tree) ss))
          stands_apart = stands.apart

      next_stands : StandsOf (w ∷ rest) next
      next_stands = record {
        of = λ s h. elim (next_cases s h) [
          | inl old ↦ let o = stands.of s old.0 in (o.0, inr o.1, o.2, o.3)
          | inr e ↦ (w, inl refl, ap (λ (x : Standing). x.above) (sym e), subst (λ (x : Standing). IsBuiltOf w x.tree) e (is_built w w_in (map (λ (x : Standing). x.tree) (filter (is_enclosed w.mark) ss)) us are_enclosed is))
        ];
        alone = λ s v h g e. elim (next_cases s h) [
          | inl old ↦ elim g [
            | inl same ↦ let t : is_enclosed w.mark s ≡ true = same_number_is s.above (Some w.mark) (e ∙ ap (λ (x : Written). Some x.mark) (sym same)) in let f : false ≡ true = sym old.1 ∙ t in cc
            | inr later ↦ stands.alone s v old.0 later e
          ]
          | inr same ↦ above_before before rest w at v.mark (ap (λ (x : Standing). x.above) same ∙ e) (has_map (λ (x : Written). x.mark) (w ∷ rest) v g)
        ];
        from = next_from;
        to = next_to;
        apart = subst Apart (sym next_marks)
            (apart_joined (flat_map marks (map (λ (s : Standing). s.tree) (filter (λ s. not (is_enclosed w.mark s)) ss))) (w.mark ∷ flat_map marks us)
            (apart_sub (λ s. not (is_enclosed w.mark s)))
            ((λ h. w_new (marks_sub (is_enclosed w.mark) w.mark (inside_old w.mark h))), IsInside.apart_in w_inside)
            (λ m h g. elim g [
              | inl e ↦ w_new (subst (Has (marks_in (trees ss))) (sym e) (marks_sub (λ s. not (is_enclosed w.mark s)) m h))
              | inr k ↦ sides_differ m h (inside_old m k)
            ]));
      }

  -- ---- all of them

  all_stand : (vs : List Written) (before : List Written) → ws ≡ before ++ vs → (ss : List Standing) → built shapes vs ≡ Some ss → StandsOf vs ss
  all_stand [] before at ss e =
      let same : [] ≡ ss = cc in
      subst (StandsOf []) same (record { of = λ s h. absurd h; alone = λ s v h. absurd h; from = λ m h. h; to = λ m h. h; apart = tt })
  all_stand (w ∷ rest) before at ss e =
      let b = chained (with_cell shapes w) (built shapes rest) ss e in
      let m = mapped_standing (λ inner. filter (λ s. not (is_enclosed w.mark s)) b.0 ++ written_cell w inner ∷ [])
      (inside_of shapes w (map (λ (s : Standing). s.tree) (filter (is_enclosed w.mark) b.0))) ss b.2 in
      let old = all_stand rest (before ++ w ∷ []) (at ∙ sym (append_assoc before (w ∷ []) rest)) b.0 b.1 in
      subst (StandsOf (w ∷ rest)) m.2 (next_is w rest before at b.0 old m.0 m.1)
    where
      mapped_standing : (f : List Tree → List Standing) (o : Option (List Tree)) (zs : List Standing) → option_map f o ≡ Some zs → (xs : List Tree) × (o ≡ Some xs) × (f xs ≡ zs)
      mapped_standing f None zs d = absurd (let k : None ≡ Some zs = d in cc)
      mapped_standing f (Some xs) zs d = (xs, refl, let k : Some (f xs) ≡ Some zs = d in cc)

      next_is : (w : Written) (rest before : List Written) (at : ws ≡ before ++ w ∷ rest) (ss : List Standing) → StandsOf rest ss → (us : List Tree)
          → inside_of shapes w (map (λ (s : Standing). s.tree) (filter (is_enclosed w.mark) ss)) ≡ Some us
          → StandsOf (w ∷ rest) (filter (λ s. not (is_enclosed w.mark s)) ss ++ written_cell w us ∷ [])
      next_is w rest before at ss old us is = next_stands w rest before at ss old us is

  -- ---- the whole

  different : (ns : List ℕ) → Apart ns → all_different ns ≡ true
  different [] a = refl
  different (n ∷ ns) a = and_from (not (has_number ns n)) (all_different ns) (ap not (lacks_number ns n a.0)) (different ns a.1)

  root_parts : (us : List Tree) (t : Tree) → only_root shapes us ≡ Some t → (us ≡ t ∷ []) × (parent_of shapes (cell_of t) ≡ None)
  root_parts [] t e = absurd (let f : None ≡ Some t = e in cc)
  root_parts (u ∷ []) t e =
      elim (stands_in shapes None u) as (λ b. stands_in shapes None u ≡ b → cond b (Some u) None ≡ Some t → ((u ∷ []) ≡ t ∷ []) × (parent_of shapes (cell_of t) ≡ None)) [
        | true ↦ λ stands d.
            let same : u ≡ t = cc in
            (ap (λ v. v ∷ []) same, ap (λ v. parent_of shapes (cell_of v)) (sym same) ∙ same_number_true (parent_of shapes (cell_of u)) None stands)
        | false ↦ λ _ d. absurd (let f : None ≡ Some t = d in cc)
      ] refl e
  root_parts (u ∷ v ∷ vs) t e = absurd (let f : None ≡ Some t = e in cc)

  pub is_completion : (t : Tree) → completed shapes ws ≡ Some t → IsLeastCompletion shapes ws t
  is_completion t e =
      let b = chained (λ (ss : List Standing). option_and_then (only_root shapes) (stages shapes 0 (length shapes) (all_inserted (map (λ (s : Standing). s.tree) ss) []))) (built shapes ws) t e in
      let s = chained (only_root shapes) (stages shapes 0 (length shapes) (all_inserted (map (λ (x : Standing). x.tree) b.0) [])) t b.2 in
      let stands = all_stand ws [] refl b.0 b.1 in
      let outside : (x : Standing) → Has b.0 x → x.above ≡ None = λ x h.
      elim x.above as (λ o. x.above ≡ o → x.above ≡ None) [
        | None ↦ λ d. d
        | Some m ↦ λ d.
            let o = stands.of x h in
            let p = split_at ws o.0 o.1 in
            let w = written.enclosed p.0 p.1 o.0 m p.2 (sym o.2 ∙ d) in
            absurd (stands.alone x w.0 h (subst (λ us. Has us w.0) (sym p.2) (has_left p.0 (o.0 ∷ p.1) w.0 (contains-has p.0 w.0 w.1))) (d ∙ ap (λ n. Some n) (sym w.2)))
      ] refl in
      let are : AreTrees None true (map (λ (x : Standing). x.tree) b.0) = record {
        of = λ u h.
            let r = map_has (λ (x : Standing). x.tree) b.0 u h in
            let o = stands.of r.0 r.1 in
            (o.0, sym o.2 ∙ outside r.0 r.1, (λ _. refl), subst (IsBuiltOf o.0) r.2 o.3);
        apart = stands.apart;
        outside = λ m d. absurd (let f : None ≡ Some m = d in cc);
      } in
      let start = to_begin None true (map (λ (x : Standing). x.tree) b.0) are in
      let done = all_levels shapes ws declared None (Has (flat_map marks (map (λ (x : Standing). x.tree) b.0))) 0 (length shapes) (omega (arith)) (all_inserted (map (λ (x : Standing). x.tree) b.0) []) s.0
      (subst (λ n. IsStaged shapes ws declared None true n (Has (flat_map marks (map (λ (x : Standing). x.tree) b.0))) (all_inserted (map (λ (x : Standing). x.tree) b.0) [])) (omega (arith)) start) s.1 in
      let root = root_parts s.0 t s.2 in
      let d = subst (IsStaged shapes ws declared None true 0 (Has (flat_map marks (map (λ (x : Standing). x.tree) b.0)))) root.0 done in
      let placed : IsPlaced shapes ws None None true t = subst (λ o. IsPlaced shapes ws o None true t) root.1 (d.placed t (inl refl)) in
      let apart : Apart (marks t) = subst Apart (append-nil (marks t)) d.apart in
      record {
        is = record {
          placed = placed;
          whole = λ w h.
              let m = d.marks_to w.mark (stands.to w.mark (has_map (λ (v : Written). v.mark) ws w (contains-has ws w h))) in
              has-contains (marks t) w.mark (subst (λ ms. Has ms w.mark) (append-nil (marks t)) m);
          once = different (marks t) apart;
        };
        least = λ around c. few_or_each around c t (added_once shapes ws declared t None None None true placed apart) (d.least around c);
      }
    where
      eta : (x : Added) (around : Option ℕ) → x.around ≡ around → part around x.tree ≡ x
      eta x around e = ap (λ o. part o x.tree) (sym e)

      among : (around : Option ℕ) (c : ℕ) (t : Tree) (x : Added) → Has (added_at around c t) x → IsAddedAmong shapes ws declared None (t ∷ []) around c x.tree × (x.around ≡ around)
      among around c t x h =
          let k = kept (λ (z : Added). same_number z.around around && (cell_of z.tree == c)) (added_in None t) x h in
          let p = and_parts (same_number x.around around) (cell_of x.tree == c) k.1 in
          let e = same_number_true x.around around p.0 in
          ((has_left (added_in None t) [] (part around x.tree) (subst (Has (added_in None t)) (sym (eta x around e)) k.0), eqb-true (cell_of x.tree) c p.1), e)

      few_or_each : (around : Option ℕ) (c : ℕ) (t : Tree) → Once (added_in None t) → IsOneOrEach shapes (IsAddedAmong shapes ws declared None (t ∷ []) around c) → AreLeast shapes (added_at around c t)
      few_or_each around c t once (inl one) =
          inl (once_few (added_at around c t) (once_filter (λ (z : Added). same_number z.around around && (cell_of z.tree == c)) (added_in None t) once)
          (λ x y h g.
          let a = among around c t x h in
          let b = among around c t y g in
          sym (eta x around a.1) ∙ ap (part around) (one x.tree y.tree a.0 b.0) ∙ eta y around b.1))
      few_or_each around c t once (inr each) =
          inr (each.0, each.1, has_all (HasOneChild each.0) (added_at around c t) (λ x h. each.2 x.tree (among around c t x h).0))
