-- The marks of a side of a completed rule differ.
use Rattle.std.proofs.Common.{◌≡◌, ◌⊎◌, inl, inr, ℕ, suc, ◌+◌, ◌<◌, ◌≤◌, Bool, true, false, cond, List, [], ◌∷◌, ◌++◌, length, filter, Option, Some, None, refl, sym, ap, ◌∙◌, subst, arith, append_assoc, append-nil}
use Rattle.std.proofs.lemmas.Bool.{eqb-true}
use Rattle.std.specs.Prelude.{Contains}
use Rattle.std.specs.List.{flat_map}
use Rattle.rule_terms.specs.declared.pattern.Body.{Body, Cells, Cells', Seq, Map, List as Listed, One, Made}
use Rattle.rule_terms.specs.declared.pattern.CellPat.{CellPat}
use Rattle.rule_terms.specs.declared.rule.Draft.{Draft}
use Rattle.rule_terms.specs.Sound.{cell_limit}
use Rattle.rule_terms.specs.Spots.{Spot, spots_in}
use Rattle.rule_terms.proofs.SpotCounts.{spots_in-Cells}
use Rattle.live_config.specs.Footprint.{body_of_mark}
use Rattle.live_config.proofs.Members.{Has, Apart, kept, has_map}
use Rattle.live_config.proofs.SpotTree.{marks}
use Rattle.strictness.specs.SoundDrafts.{spots_of}
use Rattle.cell_completion.specs.declared.tree.Written.{Written}
use Rattle.cell_completion.specs.declared.tree.Tree.{Tree}
use Rattle.cell_completion.specs.Trees.{marks as written_marks}
use Rattle.cell_completion.proofs.Unfolded.{cell_of, mark_of, inside, tree_induction}
use Rattle.cell_completion.proofs.Cutting.{has_flat, flat_has}
use Rattle.cell_completion.proofs.Marks.{apart_both, apart_joined, one_with, mark_in, own_mark, apart_inside}
use Rattle.cell_completion.proofs.Soundness.{apart_filter}
use Rattle.cell_trees.specs.Trees.{Tree as Declaration, IsTree}
use Rattle.cell_trees.specs.Defaults.{children_of, default_of}
use Rattle.rule_completion.specs.Writing.{spots_at, written}
use Rattle.rule_completion.specs.Numbering.{mark_limit, count, count_all, added_mark, default_marks}
use Rattle.rule_completion.specs.Completed.{is_of, has_cell, child_or_default, with_defaults, with_inside, forest, is_new_mark, cell_with, inside_of, on_side, all_on_side}
use Rattle.rule_completion.proofs.Layers.{count_added, added_is, written_is}
use Rattle.cell_completion.specs.Completion.{IsDeclaredIn}
use Rattle.completed_rules.proofs.Places.{Place, mark_at, own_mark_of, has_middle, count_parts, number_inside, child_at, itself, within, IsPlacedAt, child_placed, child_numbers, marks_at, apart_at, few_at, flat_right, Owns, as_written, as_added, owned, owned_apart, own_apart}
use Rattle.completed_rules.proofs.Listing.{Parted, flat_apart, flat_joined, flat_twice, marks_flat, marks_has}
use Rattle.completed_rules.proofs.Defaults.{child_declared, declared_within, children_apart, IsUnder, under_apart, default_mark, default_apart}
use Rattle.completed_rules.proofs.Sides.{cells_in, IsOf, of_written, of_added, of_filled, among, found, alone as alone_has}

abbrev pub marks_on : Option ℕ → CellPat → List ℕ
marks_on above c = marks (spots_at above c)

-- the marks in a body are those of the cells in it
body_within : (mark : ℕ) (body : Body) (cells : List CellPat) → Apart (flat_map (marks_on (Some mark)) cells) → Apart (marks (spots_in mark (with_inside body cells)))
unfolding spots_in
body_within mark (Cells' shape row rest) cells a =
    subst (λ ps. Apart (marks ps)) (sym (spots_in-Cells mark cells rest)) (subst Apart (sym (marks_flat (spots_at (Some mark)) cells)) a)
body_within mark (Seq parts rest) cells a = tt
body_within mark (Map entries rest) cells a = tt
body_within mark (Listed before rest after) cells a = tt
body_within mark (One e) cells a = tt
body_within mark (Made e) cells a = tt

body_none : (mark : ℕ) (body : Body) (cells : List CellPat) (k : ℕ) → Has (marks (spots_in mark (with_inside body cells))) k → Has (flat_map (marks_on (Some mark)) cells) k
unfolding spots_in
body_none mark (Cells' shape row rest) cells k h =
    subst (λ ks. Has ks k) (marks_flat (spots_at (Some mark)) cells) (subst (λ ps. Has (marks ps) k) (spots_in-Cells mark cells rest) h)
body_none mark (Seq parts rest) cells k h = absurd h
body_none mark (Map entries rest) cells k h = absurd h
body_none mark (Listed before rest after) cells k h = absurd h
body_none mark (One e) cells k h = absurd h
body_none mark (Made e) cells k h = absurd h

module _ (d : Declaration) (tree : IsTree d) (draft : Draft) (total : ℕ) (left : Bool)
    (few_marks : (w : Written) → Contains (written draft) w → w.mark < mark_limit) where
  -- what a mark of a cell says
  pub data Says (o : Place) (k : ℕ) : Type 0 where
    plain : Owns d.shapes (written draft) few_marks o k → Says o k
    filled : (m j : ℕ) → Has (written_marks o.tree) m → j < cell_limit → k ≡ default_marks total m + j → Says o k

  pub says : (o : Place) (p : Spot) → IsPlacedAt d.shapes (written draft) o → IsOf d tree draft total left o p → Says o p.mark
  says o p placed (of_written z i w) =
      plain (subst (Owns d.shapes (written draft) few_marks o) (ap (λ m. own_mark_of m z.number) w.is_marked ∙ sym w.mark_is) (owned d.shapes (written draft) few_marks o z i placed))
  says o p placed (of_added z i w) =
      plain (subst (Owns d.shapes (written draft) few_marks o) (ap (λ m. own_mark_of m z.number) w.is_added ∙ sym w.mark_is) (owned d.shapes (written draft) few_marks o z i placed))
  says o p placed (of_filled z i w) =
      let few = tree.few_cells in
      let n = w.default.within in
      filled w.mark p.cell (marks_at d.shapes (written draft) o z w.mark i (mark_in z.tree w.mark w.is_marked)) (omega (arith, few, n)) w.default.mark_is

  says_apart : (o p : Place) (k : ℕ) → ((m : ℕ) → Has (written_marks o.tree) m → Has (written_marks p.tree) m → ⊥)
      → o.number + count o.tree ≤ p.number → p.number + count p.tree ≤ total → Says o k → Says p k → ⊥
  says_apart o p k differ after low (plain a) (plain b) = owned_apart d.shapes (written draft) few_marks o p k differ after a b
  says_apart o p k differ after low (plain (as_written h few)) (filled m j g less e) = omega (arith, few, e)
  says_apart o p k differ after low (plain (as_added n f from to)) (filled m j g less e) = omega (arith, f, e, to, after, low)
  says_apart o p k differ after low (filled m j g less e) (plain (as_written h few)) = omega (arith, few, e)
  says_apart o p k differ after low (filled m j g less e) (plain (as_added n f from to)) = omega (arith, f, e, to, low)
  says_apart o p k differ after low (filled m j g less e) (filled n i h small f) =
      let same : m ≡ n = omega (arith, e, f, less, small) in
      differ m g (subst (Has (written_marks p.tree)) (sym same) h)

  -- ---- the cells in one

  says_in : (o : Place) (k : ℕ) → IsPlacedAt d.shapes (written draft) o → Has (flat_map (marks_on o.above) (cells_in d tree draft total left o)) k → Says o k
  says_in o k placed h =
      let c = flat_has (marks_on o.above) (cells_in d tree draft total left o) k h in
      let p = marks_has (spots_at o.above c.0) k c.2 in
      subst (Says o) p.2 (says o p.0 placed (found d tree draft total left o p.0 (has_flat (spots_at o.above) (cells_in d tree draft total left o) c.0 p.0 c.1 p.1)))

  abbrev HasApart : Tree → Type 0
  HasApart t = (o : Place) → o.tree ≡ t → IsPlacedAt d.shapes (written draft) o → Apart (written_marks o.tree) → o.number + count o.tree ≤ total
      → Apart (flat_map (marks_on o.above) (cells_in d tree draft total left o))

  module _ (o : Place) (placed : IsPlacedAt d.shapes (written draft) o) (apart : Apart (written_marks o.tree)) (low : o.number + count o.tree ≤ total)
      (below : (u : Tree) → Has (inside o.tree) u → HasApart u) where
    abbrev child : List Tree → Tree → Place
    child before u = child_at (written draft) o before u

    abbrev first : ℕ
    first = number_inside (mark_of o.tree) o.number

    child_low : (before after : List Tree) (u : Tree) → inside o.tree ≡ before ++ u ∷ after → first + count_all before + count u ≤ total
    child_low before after u e =
        let n = child_numbers d.shapes (written draft) o before after u e in
        let h = n.high in omega (arith, h, low)

    -- the marks of two trees in a cell
    two_apart : (before middle behind : List Tree) (u v : Tree) (k : ℕ) → inside o.tree ≡ (before ++ u ∷ middle) ++ v ∷ behind
        → Says (child before u) k → Says (child (before ++ u ∷ middle) v) k → ⊥
    two_apart before middle behind u v k e one other =
        let parted : Apart (flat_map written_marks (before ++ (u ∷ (middle ++ v ∷ behind)))) =
        subst (λ us. Apart (flat_map written_marks us)) (e ∙ append_assoc before (u ∷ middle) (v ∷ behind)) (apart_inside o.tree apart) in
        let here = flat_right before (u ∷ (middle ++ v ∷ behind)) parted in
        let c = count_parts before middle u in
        says_apart (child before u) (child (before ++ u ∷ middle) v) k
        (λ m h g. apart_both (written_marks u) (flat_map written_marks (middle ++ v ∷ behind)) here m h (has_flat written_marks (middle ++ v ∷ behind) v m (has_middle middle behind v) g))
        (omega (arith, c)) (child_low (before ++ u ∷ middle) behind v e) one other

    -- those of a tree among others
    pub record IsAmongMarks (n : ℕ) (ts : List Tree) (k : ℕ) : Type 0 where
      pub before : List Tree
      pub after : List Tree
      pub tree_at : Tree
      pub is : ts ≡ before ++ tree_at ∷ after
      pub has : Has (flat_map (marks_on (Some (mark_at o))) (on_side d draft total left (n + count_all before) tree_at)) k

    among_marks : (n : ℕ) (ts : List Tree) (k : ℕ) → Has (flat_map (marks_on (Some (mark_at o))) (all_on_side d draft total left n ts)) k → IsAmongMarks n ts k
    among_marks n ts k h =
        let above = Some (mark_at o) in
        let c = flat_has (marks_on above) (all_on_side d draft total left n ts) k h in
        let p = marks_has (spots_at above c.0) k c.2 in
        let r = among d tree draft total left n above ts p.0 (has_flat (spots_at above) (all_on_side d draft total left n ts) c.0 p.0 c.1 p.1) in
        let f = flat_has (spots_at above) (on_side d draft total left (n + count_all r.before) r.tree_at) p.0 r.has in
        record {
          before = r.before;
          after = r.after;
          tree_at = r.tree_at;
          is = r.is;
          has = has_flat (marks_on above) (on_side d draft total left (n + count_all r.before) r.tree_at) f.0 k f.1
              (subst (Has (marks (spots_at above f.0))) p.2 (has_map (λ (q : Spot). q.mark) (spots_at above f.0) p.0 f.2));
        }

    says_child : (before after : List Tree) (u : Tree) (n k : ℕ) → inside o.tree ≡ before ++ u ∷ after → n ≡ first + count_all before
        → Has (flat_map (marks_on (Some (mark_at o))) (on_side d draft total left n u)) k → Says (child before u) k
    says_child before after u n k e is h =
        says_in (child before u) k (child_placed d.shapes (written draft) o before after u e placed)
        (subst (λ i. Has (flat_map (marks_on (Some (mark_at o))) (on_side d draft total left i u)) k) is h)

    apart_from : (before ts : List Tree) (n : ℕ) → inside o.tree ≡ before ++ ts → n ≡ first + count_all before
        → Apart (flat_map (marks_on (Some (mark_at o))) (all_on_side d draft total left n ts))
    apart_from before [] n e is = tt
    apart_from before (u ∷ after) n e is =
        let M = marks_on (Some (mark_at o)) in
        let here = on_side d draft total left n u in
        let later = all_on_side d draft total left (n + count u) after in
        let next : n + count u ≡ first + count_all (before ++ u ∷ []) = (let c = count_parts before [] u in omega (arith, c, is)) in
        let has : Has (inside o.tree) u = subst (λ us. Has us u) (sym e) (has_middle before after u) in
        subst Apart (sym (flat_joined M here later))
        (apart_joined (flat_map M here) (flat_map M later)
        (subst (λ i. Apart (flat_map M (on_side d draft total left i u))) (sym is)
        (below u has (child before u) refl (child_placed d.shapes (written draft) o before after u e placed)
        (apart_at d.shapes (written draft) few_marks o (child before u) (within before after u e itself) apart) (child_low before after u e)))
        (apart_from (before ++ u ∷ []) after (n + count u) (e ∙ sym (append_assoc before (u ∷ []) after)) next)
        (λ k h g.
        let r = among_marks (n + count u) after k g in
        let split : inside o.tree ≡ (before ++ u ∷ r.before) ++ r.tree_at ∷ r.after =
        e ∙ ap (λ us. before ++ u ∷ us) r.is ∙ sym (append_assoc before (u ∷ r.before) (r.tree_at ∷ r.after)) in
        let c = count_parts before r.before u in
        two_apart before r.before r.after u r.tree_at k split (says_child before after u n k e is h)
        (says_child (before ++ u ∷ r.before) r.after r.tree_at (n + count u + count_all r.before) k split (omega (arith, c, is)) r.has)))

    -- what a mark of those in a cell says
    inner_says : (n k : ℕ) → n ≡ first → Has (flat_map (marks_on (Some (mark_at o))) (all_on_side d draft total left n (inside o.tree))) k
        → (before : List Tree) × (after : List Tree) × (u : Tree) × (inside o.tree ≡ before ++ u ∷ after) × Says (child before u) k
    inner_says n k is h =
        let r = among_marks n (inside o.tree) k h in
        (r.before, r.after, r.tree_at, r.is, says_child r.before r.after r.tree_at (n + count_all r.before) k r.is (ap (λ i. i + count_all r.before) is) r.has)

    -- a mark of a cell's own, and of those that are filled into it
    mark_low : mark_at o < mark_limit + total
    mark_low =
        elim (mark_of o.tree) as (λ m. mark_of o.tree ≡ m → own_mark_of m o.number < mark_limit + total) [
          | None ↦ λ none. let c = count_added o.tree none in omega (arith, c, low)
          | Some m ↦ λ some. let f = few_at d.shapes (written draft) few_marks o m placed some in omega (arith, f)
        ] refl

    own_says : (before after : List Tree) (u : Tree) → inside o.tree ≡ before ++ u ∷ after → Says (child before u) (mark_at o) → ⊥
    own_says before after u e (plain owns) = own_apart d.shapes (written draft) few_marks o before after u e placed apart owns
    own_says before after u e (filled m j h less is) = let l = mark_low in omega (arith, l, is)

    default_says : (mark j k : ℕ) (before after : List Tree) (u : Tree) → mark_of o.tree ≡ Some mark → j < cell_limit → k ≡ default_marks total mark + j
        → inside o.tree ≡ before ++ u ∷ after → Says (child before u) k → ⊥
    default_says mark j k before after u some less is e (plain (as_written h few)) = omega (arith, is, few)
    default_says mark j k before after u some less is e (plain (as_added n f from to)) = let c = child_low before after u e in omega (arith, is, f, to, c)
    default_says mark j k before after u some less is e (filled m i h small f) =
        let same : m ≡ mark = omega (arith, is, f, less, small) in
        own_mark o.tree apart mark some (has_flat written_marks (inside o.tree) u mark (subst (λ us. Has us u) (sym e) (has_middle before after u)) (subst (Has (written_marks u)) same h))

    -- ---- the cells in a new one

    module _ (mark : ℕ) (some : mark_of o.tree ≡ Some mark) (inner : List CellPat) (inner_is : inner ≡ all_on_side d draft total left first (inside o.tree))
        (mark_is : mark_at o ≡ mark) where
      abbrev M : CellPat → List ℕ
      M = marks_on (Some mark)

      abbrev more : ℕ
      more = default_marks total mark

      inner_apart : Apart (flat_map M inner)
      inner_apart =
          let zero_more : first ≡ first + count_all [] = omega arith in
          subst (λ cs. Apart (flat_map M cs)) (sym inner_is)
          (subst (λ m. Apart (flat_map (marks_on (Some m)) (all_on_side d draft total left first (inside o.tree)))) mark_is (apart_from [] (inside o.tree) first refl zero_more))

      inner_one : (k : ℕ) → Has (flat_map M inner) k → (before : List Tree) × (after : List Tree) × (u : Tree) × (inside o.tree ≡ before ++ u ∷ after) × Says (child before u) k
      inner_one k h =
          inner_says first k refl
          (subst (λ m. Has (flat_map (marks_on (Some m)) (all_on_side d draft total left first (inside o.tree))) k) (sym mark_is) (subst (λ cs. Has (flat_map M cs) k) inner_is h))

      abbrev part_of : ℕ → List CellPat
      part_of c = child_or_default d more inner c

      abbrev IsPart : ℕ → ℕ → Type 0
      IsPart c k = ((x : CellPat) × Has inner x × (x.cell ≡ c) × Has (M x) k) ⊎ ((j : ℕ) × (k ≡ more + j) × IsUnder d tree c j × (j < length d.shapes))

      is_part : (c k : ℕ) → c < length d.shapes → Has (flat_map M (part_of c)) k → IsPart c k
      is_part c k there h =
          elim (has_cell c inner) as (λ b. Has (flat_map M (cond b (filter (is_of c) inner) (default_of d more c ∷ []))) k → IsPart c k) [
            | true ↦ λ g.
                let f = flat_has M (filter (is_of c) inner) k g in
                let x = kept (is_of c) inner f.0 f.1 in
                inl (f.0, x.0, eqb-true f.0.cell c x.1, f.2)
            | false ↦ λ g. inr (default_mark d tree cell_limit more c (Some mark) k (omega arith) there (alone_has M (default_of d more c) k g))
          ] h

      part_apart : (c : ℕ) → c < length d.shapes → Apart (flat_map M (part_of c))
      part_apart c there =
          elim (has_cell c inner) as (λ b. Apart (flat_map M (cond b (filter (is_of c) inner) (default_of d more c ∷ [])))) [
            | true ↦ apart_filter M (is_of c) inner inner_apart
            | false ↦ subst Apart (sym (append-nil (M (default_of d more c)))) (default_apart d tree cell_limit more c (Some mark) (omega arith) there)
          ]

      few_cells : length d.shapes ≤ cell_limit
      few_cells = tree.few_cells

      parts_differ : (c e k : ℕ) → IsDeclaredIn d.shapes (Some (cell_of o.tree)) c → IsDeclaredIn d.shapes (Some (cell_of o.tree)) e → (c ≡ e → ⊥) → IsPart c k → IsPart e k → ⊥
      parts_differ c e k in_c in_e differ (inl a) (inl b) =
          differ (sym a.2 ∙ ap (λ (x : CellPat). x.cell) (one_with M inner inner_apart a.0 b.0 k a.1 b.1 a.3 b.3) ∙ b.2)
      parts_differ c e k in_c in_e differ (inl a) (inr b) =
          let r = inner_one k (has_flat M inner a.0 k a.1 a.3) in
          let l = b.3 in
          default_says mark b.0 k r.0 r.1 r.2 some (let f = few_cells in omega (arith, l, f)) b.1 r.3 r.4
      parts_differ c e k in_c in_e differ (inr a) (inl b) =
          let r = inner_one k (has_flat M inner b.0 k b.1 b.3) in
          let l = a.3 in
          default_says mark a.0 k r.0 r.1 r.2 some (let f = few_cells in omega (arith, l, f)) a.1 r.3 r.4
      parts_differ c e k in_c in_e differ (inr a) (inr b) =
          let x = a.1 in
          let y = b.1 in
          let same : b.0 ≡ a.0 = omega (arith, x, y) in
          under_apart d tree (cell_of o.tree) c e a.0 in_c in_e differ a.2 (subst (IsUnder d tree e) same b.2)

      parted_from : (cs : List ℕ) → Apart cs → ((c : ℕ) → Has cs c → IsDeclaredIn d.shapes (Some (cell_of o.tree)) c) → Parted (λ c. flat_map M (part_of c)) cs
      parted_from [] a each = tt
      parted_from (c ∷ cs) a each = (
        (λ e h k p q.
            let in_c = each c (inl refl) in
            let in_e = each e (inr h) in
            parts_differ c e k in_c in_e (λ s. a.0 (subst (Has cs) (sym s) h)) (is_part c k (declared_within d tree (Some (cell_of o.tree)) c in_c) p)
            (is_part e k (declared_within d tree (Some (cell_of o.tree)) e in_e) q)),
        parted_from cs a.1 (λ e h. each e (inr h)),
      )

      abbrev all_children : List ℕ
      all_children = children_of d (cell_of o.tree)

      defaults_apart : Apart (flat_map M (with_defaults d more (cell_of o.tree) inner))
      defaults_apart =
          subst Apart (sym (flat_twice part_of M all_children))
          (flat_apart (λ c. flat_map M (part_of c)) all_children
          (λ c h. part_apart c (declared_within d tree (Some (cell_of o.tree)) c (child_declared d tree (cell_of o.tree) c h)))
          (parted_from all_children (children_apart d tree (cell_of o.tree)) (λ c h. child_declared d tree (cell_of o.tree) c h)))

      defaults_none : Has (flat_map M (with_defaults d more (cell_of o.tree) inner)) mark → ⊥
      defaults_none h =
          let f = flat_has (λ c. flat_map M (part_of c)) all_children mark (subst (λ ks. Has ks mark) (flat_twice part_of M all_children) h) in
          let in_it = child_declared d tree (cell_of o.tree) f.0 f.1 in
          elim (is_part f.0 mark (declared_within d tree (Some (cell_of o.tree)) f.0 in_it) f.2) [
            | inl a ↦ let r = inner_one mark (has_flat M inner a.0 mark a.1 a.3) in own_says r.0 r.1 r.2 r.3 (subst (Says (child r.0 r.2)) (sym mark_is) r.4)
            | inr a ↦ let l = mark_low in let s = mark_is in let e = a.1 in omega (arith, l, s, e)
          ]

      inner_none : Has (flat_map M inner) mark → ⊥
      inner_none h = let r = inner_one mark h in own_says r.0 r.1 r.2 r.3 (subst (Says (child r.0 r.2)) (sym mark_is) r.4)

      -- on either side
      inside_apart : Apart (flat_map M (inside_of d draft total left mark (cell_of o.tree) inner)) × (Has (flat_map M (inside_of d draft total left mark (cell_of o.tree) inner)) mark → ⊥)
      inside_apart =
          elim (is_new_mark draft left mark) as (λ b. Apart (flat_map M (cond b (with_defaults d more (cell_of o.tree) inner) inner))
          × (Has (flat_map M (cond b (with_defaults d more (cell_of o.tree) inner) inner)) mark → ⊥)) [
            | true ↦ (defaults_apart, defaults_none)
            | false ↦ (inner_apart, inner_none)
          ]

      written_apart : (body : Body) → Apart (flat_map (marks_on o.above) (cell_with (cell_of o.tree) mark (with_inside body (inside_of d draft total left mark (cell_of o.tree) inner)) ∷ []))
      written_apart body =
          let cells = inside_of d draft total left mark (cell_of o.tree) inner in
          subst Apart (sym (append-nil (marks_on o.above (cell_with (cell_of o.tree) mark (with_inside body cells)))))
          ((λ h. inside_apart.1 (body_none mark body cells mark h)), body_within mark body cells inside_apart.0)

    added_apart : mark_of o.tree ≡ None → Apart (flat_map (marks_on o.above) (cells_in d tree draft total left o))
    added_apart none =
        let inner = all_on_side d draft total left (suc o.number) (inside o.tree) in
        let rest = Some (length draft.vars + o.number) in
        let mark = added_mark o.number in
        let mark_is : mark_at o ≡ mark = ap (λ m. own_mark_of m o.number) none in
        let start : suc o.number ≡ first = ap (λ m. number_inside m o.number) (sym none) in
        let zero_more : suc o.number ≡ first + count_all [] = omega (arith, start) in
        let inner_apart : Apart (flat_map (marks_on (Some mark)) inner) =
        subst (λ m. Apart (flat_map (marks_on (Some m)) inner)) mark_is (apart_from [] (inside o.tree) (suc o.number) refl zero_more) in
        subst (λ cs. Apart (flat_map (marks_on o.above) cs)) (sym (added_is d draft total left o.number o.tree none))
        (subst Apart (sym (append-nil (marks_on o.above (cell_with (cell_of o.tree) mark (Cells inner rest))))) (
          (λ h.
              let k : Has (flat_map (marks_on (Some mark)) inner) mark =
              subst (λ ks. Has ks mark) (marks_flat (spots_at (Some mark)) inner) (subst (λ ps. Has (marks ps) mark) (spots_in-Cells mark inner rest) h) in
              let r = inner_says (suc o.number) mark start (subst (λ m. Has (flat_map (marks_on (Some m)) inner) mark) (sym mark_is) k) in
              own_says r.0 r.1 r.2 r.3 (subst (Says (child r.0 r.2)) (sym mark_is) r.4)),
          subst (λ ps. Apart (marks ps)) (sym (spots_in-Cells mark inner rest)) (subst Apart (sym (marks_flat (spots_at (Some mark)) inner)) inner_apart),
        ))

    stands_apart : (mark : ℕ) → mark_of o.tree ≡ Some mark → Apart (flat_map (marks_on o.above) (cells_in d tree draft total left o))
    stands_apart mark some =
        let inner = all_on_side d draft total left o.number (inside o.tree) in
        let cells = inside_of d draft total left mark (cell_of o.tree) inner in
        let start : o.number ≡ first = ap (λ m. number_inside m o.number) (sym some) in
        subst (λ cs. Apart (flat_map (marks_on o.above) cs)) (sym (written_is d draft total left o.number o.tree mark some))
        (elim (body_of_mark (spots_of (forest draft left)) mark) as (λ b. Apart (flat_map (marks_on o.above) (elim b [ None ↦ [] | Some body ↦ cell_with (cell_of o.tree) mark (with_inside body cells) ∷ [] ]))) [
          | None ↦ tt
          | Some body ↦ written_apart mark some inner (ap (λ n. all_on_side d draft total left n (inside o.tree)) start) (ap (λ m. own_mark_of m o.number) some) body
        ])

    layer_apart : Apart (flat_map (marks_on o.above) (cells_in d tree draft total left o))
    layer_apart =
        elim (mark_of o.tree) as (λ m. mark_of o.tree ≡ m → Apart (flat_map (marks_on o.above) (cells_in d tree draft total left o))) [
          | None ↦ added_apart
          | Some mark ↦ stands_apart mark
        ] refl

  apart_in : (t : Tree) → HasApart t
  apart_in = tree_induction HasApart (λ t below o is placed apart low.
      layer_apart o placed apart low (λ u h. below u (subst (λ v. Has (inside v) u) is h)))

  pub side_apart : (o : Place) → IsPlacedAt d.shapes (written draft) o → Apart (written_marks o.tree) → o.number + count o.tree ≤ total
      → Apart (flat_map (marks_on o.above) (cells_in d tree draft total left o))
  side_apart o placed apart low = apart_in o.tree o refl placed apart low
