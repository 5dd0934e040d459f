-- The cells of a completion by their places: each once, with a mark of its own.
use Rattle.std.proofs.Common.{◌≡◌, ◌⊎◌, inl, inr, ℕ, suc, ◌+◌, ◌<◌, ◌≤◌, Bool, List, [], ◌∷◌, ◌++◌, Option, Some, None, refl, sym, ap, ◌∙◌, subst, arith, append_assoc}
use Rattle.std.specs.Prelude.{Contains, ◌-◌}
use Rattle.std.proofs.lemmas.Bool.{cases_lt}
use Rattle.std.specs.List.{flat_map}
use Rattle.rule_terms.specs.declared.defs.CellShape.{CellShape}
use Rattle.live_config.proofs.Members.{Has, Apart}
use Rattle.cell_completion.specs.declared.tree.Written.{Written}
use Rattle.cell_completion.specs.declared.tree.Tree.{Tree}
use Rattle.cell_completion.specs.Trees.{as_marks, marks, around_inside}
use Rattle.cell_completion.specs.Completion.{is_both, IsPlaced, IsAsWritten}
use Rattle.cell_completion.proofs.Unfolded.{cell_of, mark_of, inside, tree_induction, marks_are, placed_cell, placed_inside}
use Rattle.cell_completion.proofs.Cutting.{has_flat, flat_has}
use Rattle.cell_completion.proofs.Marks.{apart_right, apart_both, apart_one, mark_in, marks_inside, apart_inside, own_mark}
use Rattle.rule_completion.specs.Numbering.{mark_limit, count, count_all, added_mark}
use Rattle.rule_completion.proofs.Layers.{count_added, count_written}

-- a tree of a completion, the number of its first added cell, the mark of the cell that it stands in, the declared cell of
-- that, the nearest written cell around it, and whether the cell that it stands in is on both sides
pub record Place : Type 0 where
  pub tree : Tree
  pub number : ℕ
  pub above : Option ℕ
  pub parent : Option ℕ
  pub around : Option ℕ
  pub outer : Bool

-- the mark of a cell, and the first number of those in it
abbrev pub own_mark_of : Option ℕ → ℕ → ℕ
own_mark_of None number = added_mark number
own_mark_of (Some m) number = m

abbrev pub number_inside : Option ℕ → ℕ → ℕ
number_inside None number = suc number
number_inside (Some m) number = number

abbrev pub mark_at : Place → ℕ
mark_at z = own_mark_of (mark_of z.tree) z.number

-- a cell that stands in one behind these
abbrev pub child_at : List Written → Place → List Tree → Tree → Place
child_at ws z before u = record {
  tree = u;
  number = number_inside (mark_of z.tree) z.number + count_all before;
  above = Some (mark_at z);
  parent = Some (cell_of z.tree);
  around = around_inside z.around (mark_of z.tree);
  outer = is_both ws (mark_of z.tree);
}

-- a cell is another one, or stands in it
pub data IsIn (ws : List Written) : Place → Place → Type 0 where
  itself : {z : Place} → IsIn ws z z
  within : {o z : Place} (before after : List Tree) (u : Tree) → inside o.tree ≡ before ++ u ∷ after → IsIn ws (child_at ws o before u) z → IsIn ws o z

-- ---- lists of trees

pub has_middle : {X : Type 0} (before after : List X) (u : X) → Has (before ++ u ∷ after) u
has_middle [] after u = inl refl
has_middle (x ∷ before) after u = inr (has_middle before after u)

pub split_at : {X : Type 0} (xs : List X) (u : X) → Has xs u → (before : List X) × (after : List X) × (xs ≡ before ++ u ∷ after)
split_at [] u h = absurd h
split_at (x ∷ xs) u (inl e) = ([], xs, ap (λ y. y ∷ xs) e)
split_at (x ∷ xs) u (inr h) = let r = split_at xs u h in (x ∷ r.0, r.1, ap (λ ys. x ∷ ys) r.2)

pub count_parts : (before after : List Tree) (u : Tree) → count_all (before ++ u ∷ after) ≡ count_all before + count u + count_all after
count_parts [] after u = omega arith
count_parts (t ∷ before) after u = let e = count_parts before after u in omega (arith, e)

pub flat_right : (before after : List Tree) → Apart (flat_map marks (before ++ after)) → Apart (flat_map marks after)
flat_right [] after a = a
flat_right (t ∷ before) after a = flat_right before after (apart_right (marks t) (flat_map marks (before ++ after)) a)

-- of two places in one list, either they are one, or one stands before the other
pub data AreSplit (X : Type 0) : List X → X → List X → X → Type 0 where
  alike : {before : List X} {u : X} → AreSplit X before u before u
  former : {before : List X} {u v : X} (middle : List X) → AreSplit X before u (before ++ u ∷ middle) v
  latter : {before : List X} {u v : X} (middle : List X) → AreSplit X (before ++ v ∷ middle) u before v

more_split : {X : Type 0} (x : X) (before other : List X) (u v : X) → AreSplit X before u other v → AreSplit X (x ∷ before) u (x ∷ other) v
more_split x before other u v alike = alike
more_split x before other u v (former middle) = former middle
more_split x before other u v (latter middle) = latter middle

heads : {X : Type 0} (x y : X) (xs ys : List X) → x ∷ xs ≡ y ∷ ys → (x ≡ y) × (xs ≡ ys)
heads x y xs ys e = (cc, cc)

pub splits : {X : Type 0} (before after other behind : List X) (u v : X) → before ++ u ∷ after ≡ other ++ v ∷ behind → AreSplit X before u other v
splits [] after [] behind u v e = let h = heads u v after behind e in subst (λ w. AreSplit _ [] u [] w) h.0 alike
splits [] after (y ∷ other) behind u v e =
    let h = heads u y after (other ++ v ∷ behind) e in subst (λ w. AreSplit _ [] u (w ∷ other) v) h.0 (former other)
splits (x ∷ before) after [] behind u v e =
    let h = heads x v (before ++ u ∷ after) behind e in subst (λ w. AreSplit _ (w ∷ before) u [] v) (sym h.0) (latter before)
splits (x ∷ before) after (y ∷ other) behind u v e =
    let h = heads x y (before ++ u ∷ after) (other ++ v ∷ behind) e in
    subst (λ w. AreSplit _ (x ∷ before) u (w ∷ other) v) h.0 (more_split x before other u v (splits before after other behind u v h.1))

-- ---- what is known of a cell's place

module _ (shapes : List CellShape) (ws : List Written) where
  abbrev pub IsPlacedAt : Place → Type 0
  IsPlacedAt z = IsPlaced shapes ws z.parent z.around z.outer z.tree

  pub child_placed : (o : Place) (before after : List Tree) (u : Tree) → inside o.tree ≡ before ++ u ∷ after → IsPlacedAt o → IsPlacedAt (child_at ws o before u)
  child_placed o before after u e placed =
      placed_inside shapes ws o.parent o.around o.outer o.tree placed u (subst (λ us. Has us u) (sym e) (has_middle before after u))

  pub placed_at : (o z : Place) → IsIn ws o z → IsPlacedAt o → IsPlacedAt z
  placed_at o _ itself placed = placed
  placed_at o z (within before after u e deep) placed = placed_at (child_at ws o before u) z deep (child_placed o before after u e placed)

  -- the numbers of the added cells
  pub count_inside : (o : Place) → number_inside (mark_of o.tree) o.number + count_all (inside o.tree) ≡ o.number + count o.tree
  count_inside o =
      elim (mark_of o.tree) as (λ m. mark_of o.tree ≡ m → number_inside m o.number + count_all (inside o.tree) ≡ o.number + count o.tree) [
        | None ↦ λ e. let c = count_added o.tree e in omega (arith, c)
        | Some m ↦ λ e. let c = count_written o.tree m e in omega (arith, c)
      ] refl

  pub number_from : (m : Option ℕ) (n : ℕ) → n ≤ number_inside m n
  number_from None n = omega arith
  number_from (Some m) n = omega arith

  pub record HasNumbers (o z : Place) : Type 0 where
    pub low : o.number ≤ z.number
    pub high : z.number + count z.tree ≤ o.number + count o.tree

  pub child_numbers : (o : Place) (before after : List Tree) (u : Tree) → inside o.tree ≡ before ++ u ∷ after → HasNumbers o (child_at ws o before u)
  child_numbers o before after u e =
      let c = count_inside o in
      let p = ap count_all e ∙ count_parts before after u in
      let f = number_from (mark_of o.tree) o.number in
      record { low = omega (arith, f); high = omega (arith, c, p) }

  pub numbers_at : (o z : Place) → IsIn ws o z → HasNumbers o z
  numbers_at o _ itself = record { low = omega arith; high = omega arith }
  numbers_at o z (within before after u e deep) =
      let a = child_numbers o before after u e in
      let b = numbers_at (child_at ws o before u) z deep in
      let al = a.low in let ah = a.high in let bl = b.low in let bh = b.high in
      record { low = omega (arith, al, bl); high = omega (arith, ah, bh) }

  -- the written marks in a cell are those around it too
  pub marks_at : (o z : Place) (m : ℕ) → IsIn ws o z → Has (marks z.tree) m → Has (marks o.tree) m
  marks_at o _ m itself h = h
  marks_at o z m (within before after u e deep) h =
      marks_inside o.tree u m (subst (λ us. Has us u) (sym e) (has_middle before after u)) (marks_at (child_at ws o before u) z m deep h)

  -- ---- each mark has a place

  pub transitive : (o y z : Place) → IsIn ws o y → IsIn ws y z → IsIn ws o z
  transitive o _ z itself k = k
  transitive o y z (within before after u e deep) k = within before after u e (transitive (child_at ws o before u) y z deep k)

  -- one of these numbers or marks is that of a cell
  pub record IsMarked (o : Place) (m : ℕ) : Type 0 where
    pub at : Place
    pub is_in : IsIn ws o at
    pub mark_is : mark_of at.tree ≡ Some m

  abbrev HasMarked : Tree → Type 0
  HasMarked t = (o : Place) (m : ℕ) → o.tree ≡ t → Has (marks t) m → IsMarked o m

  own_or_inner : (t : Tree) (m : ℕ) → Has (marks t) m → (mark_of t ≡ Some m) ⊎ Has (flat_map marks (inside t)) m
  own_or_inner t m h =
      elim (mark_of t) as (λ o. mark_of t ≡ o → Has (as_marks o ++ flat_map marks (inside t)) m → (mark_of t ≡ Some m) ⊎ Has (flat_map marks (inside t)) m) [
        | None ↦ λ e g. inr g
        | Some n ↦ λ e g. elim g [ inl s ↦ inl (e ∙ ap (λ k. Some k) s) | inr k ↦ inr k ]
      ] refl (subst (λ ms. Has ms m) (marks_are t) h)

  marked_in : (t : Tree) → HasMarked t
  marked_in = tree_induction HasMarked (λ t below o m is h.
      elim (own_or_inner t m h) [
        | inl e ↦ record { at = o; is_in = itself; mark_is = ap mark_of is ∙ e }
        | inr g ↦
            let u = flat_has marks (inside t) m g in
            let s = split_at (inside t) u.0 u.1 in
            let r = below u.0 u.1 (child_at ws o s.0 u.0) m refl u.2 in
            record { at = r.at; is_in = within s.0 s.1 u.0 (ap inside is ∙ s.2) r.is_in; mark_is = r.mark_is }
      ])

  pub marked : (o : Place) (m : ℕ) → Has (marks o.tree) m → IsMarked o m
  marked o m h = marked_in o.tree o m refl h

  pub record IsNumbered (o : Place) (k : ℕ) : Type 0 where
    pub at : Place
    pub is_in : IsIn ws o at
    pub mark_is : mark_of at.tree ≡ None
    pub number_is : at.number ≡ k

  abbrev HasNumbered : Tree → Type 0
  HasNumbered t = (o : Place) (k : ℕ) → o.tree ≡ t → o.number ≤ k → k < o.number + count t → IsNumbered o k

  -- the tree of a list that a count falls into
  pub record IsCounted (ts : List Tree) (k : ℕ) : Type 0 where
    pub before : List Tree
    pub after : List Tree
    pub tree : Tree
    pub is : ts ≡ before ++ tree ∷ after
    pub low : count_all before ≤ k
    pub high : k < count_all before + count tree

  counted : (ts : List Tree) (k : ℕ) → k < count_all ts → IsCounted ts k
  counted [] k less = absurd (omega (arith, less))
  counted (t ∷ ts) k less =
      elim (cases_lt k (count t)) [
        | inl first ↦ record { before = []; after = ts; tree = t; is = refl; low = omega arith; high = omega (arith, first) }
        | inr past ↦
            let r = counted ts (k - count t) (omega (arith, less, past)) in
            let l = r.low in let h = r.high in
            record { before = t ∷ r.before; after = r.after; tree = r.tree; is = ap (λ us. t ∷ us) r.is; low = omega (arith, l, past); high = omega (arith, h, past) }
      ]

  first_or_inner : (o : Place) (k : ℕ) → o.number ≤ k → k < o.number + count o.tree
      → ((mark_of o.tree ≡ None) × (o.number ≡ k)) ⊎ (number_inside (mark_of o.tree) o.number ≤ k)
  first_or_inner o k low high =
      elim (mark_of o.tree) as (λ m. mark_of o.tree ≡ m → ((mark_of o.tree ≡ None) × (o.number ≡ k)) ⊎ (number_inside m o.number ≤ k)) [
        | Some m ↦ λ e. inr low
        | None ↦ λ e. elim (cases_lt o.number k) [ inl less ↦ inr less | inr more ↦ inl (e, omega (arith, low, more)) ]
      ] refl

  numbered_in : (t : Tree) → HasNumbered t
  numbered_in = tree_induction HasNumbered (λ t below o k is low high.
      let own_high : k < o.number + count o.tree = subst (λ v. k < o.number + count v) (sym is) high in
      elim (first_or_inner o k low own_high) [
        | inl e ↦ record { at = o; is_in = itself; mark_is = e.0; number_is = e.1 }
        | inr past ↦
            let c = count_inside o in
            let n = number_inside (mark_of o.tree) o.number in
            let r = counted (inside o.tree) (k - n) (omega (arith, own_high, c, past)) in
            let l = r.low in let h = r.high in
            let has : Has (inside t) r.tree = subst (λ us. Has us r.tree) (sym r.is ∙ ap inside is) (has_middle r.before r.after r.tree) in
            let f = below r.tree has (child_at ws o r.before r.tree) k refl (omega (arith, l, past)) (omega (arith, h, past)) in
            record { at = f.at; is_in = within r.before r.after r.tree r.is f.is_in; mark_is = f.mark_is; number_is = f.number_is }
      ])

  pub numbered : (o : Place) (k : ℕ) → o.number ≤ k → k < o.number + count o.tree → IsNumbered o k
  numbered o k low high = numbered_in o.tree o k refl low high

  -- ---- and one only

  module _ (few_marks : (w : Written) → Contains ws w → w.mark < mark_limit) where
    -- a written mark is below the limit
    pub few_at : (z : Place) (m : ℕ) → IsPlacedAt z → mark_of z.tree ≡ Some m → m < mark_limit
    few_at z m placed e =
        few_marks (record { mark = m; cell = cell_of z.tree; above = z.around; both = is_both ws (Some m) })
        (subst (λ o. IsAsWritten shapes ws z.around (cell_of z.tree) o (inside z.tree)) e (placed_cell shapes ws z.parent z.around z.outer z.tree placed).written)

    -- what a place of a cell's own says: its mark is a written one in the cell, or that of a number of its
    pub data Owns (o : Place) (k : ℕ) : Type 0 where
      as_written : Has (marks o.tree) k → k < mark_limit → Owns o k
      as_added : (n : ℕ) → k ≡ added_mark n → o.number ≤ n → n < o.number + count o.tree → Owns o k

    own_mark_owned : (z : Place) → IsPlacedAt z → Owns z (mark_at z)
    own_mark_owned z placed =
        elim (mark_of z.tree) as (λ m. mark_of z.tree ≡ m → Owns z (own_mark_of m z.number)) [
          | None ↦ λ e. as_added z.number refl (omega arith) (let c = count_added z.tree e in omega (arith, c))
          | Some m ↦ λ e. as_written (mark_in z.tree m e) (few_at z m placed e)
        ] refl

    pub owned : (o z : Place) → IsIn ws o z → IsPlacedAt o → Owns o (mark_at z)
    owned o z is_in placed =
        let n = numbers_at o z is_in in
        let l = n.low in let h = n.high in
        elim (own_mark_owned z (placed_at o z is_in placed)) [
          | as_written has few ↦ as_written (marks_at o z (mark_at z) is_in has) few
          | as_added k e low high ↦ as_added k e (omega (arith, l, low)) (omega (arith, h, high))
        ]

    -- those of two cells that differ
    pub owned_apart : (o p : Place) (k : ℕ) → ((m : ℕ) → Has (marks o.tree) m → Has (marks p.tree) m → ⊥) → o.number + count o.tree ≤ p.number
        → Owns o k → Owns p k → ⊥
    owned_apart o p k differ after (as_written h few) (as_written g less) = differ k h g
    owned_apart o p k differ after (as_written h few) (as_added n e low high) = omega (arith, few, e)
    owned_apart o p k differ after (as_added n e low high) (as_written g less) = omega (arith, less, e)
    owned_apart o p k differ after (as_added n e low high) (as_added j f from to) = omega (arith, e, f, high, after, from)

    -- a cell's own mark is of none in it
    none_inside : (o : Place) (before after : List Tree) (u : Tree) (m : Option ℕ) (k : ℕ) → mark_of o.tree ≡ m → inside o.tree ≡ before ++ u ∷ after → IsPlacedAt o
        → Apart (marks o.tree) → k ≡ own_mark_of m o.number → Owns (child_at ws o before u) k → ⊥
    none_inside o before after u (Some m) k is e placed apart same (as_written h few) =
        own_mark o.tree apart m is
        (has_flat marks (inside o.tree) u m (subst (λ us. Has us u) (sym e) (has_middle before after u)) (subst (Has (marks u)) same h))
    none_inside o before after u (Some m) k is e placed apart same (as_added n f low high) =
        let few = few_at o m placed is in omega (arith, few, same, f)
    none_inside o before after u None k is e placed apart same (as_written h few) = omega (arith, few, same)
    none_inside o before after u None k is e placed apart same (as_added n f low high) =
        let start : number_inside (mark_of o.tree) o.number ≡ suc o.number = ap (λ x. number_inside x o.number) is in
        omega (arith, same, f, low, start)

    pub own_apart : (o : Place) (before after : List Tree) (u : Tree) → inside o.tree ≡ before ++ u ∷ after → IsPlacedAt o → Apart (marks o.tree)
        → Owns (child_at ws o before u) (mark_at o) → ⊥
    own_apart o before after u e placed apart owns = none_inside o before after u (mark_of o.tree) (mark_at o) refl e placed apart refl owns

    -- those of one that stands before another in a cell are none of the other's
    pub siblings_apart : (o : Place) (before middle behind : List Tree) (u v : Tree) (k : ℕ) → inside o.tree ≡ (before ++ u ∷ middle) ++ v ∷ behind
        → Apart (marks o.tree) → Owns (child_at ws o before u) k → Owns (child_at ws o (before ++ u ∷ middle) v) k → ⊥
    siblings_apart o before middle behind u v k e apart owns other =
        let parted : Apart (flat_map marks (before ++ (u ∷ (middle ++ v ∷ behind)))) =
        subst (λ us. Apart (flat_map marks us)) (e ∙ append_assoc before (u ∷ middle) (v ∷ behind)) (apart_inside o.tree apart) in
        let here = flat_right before (u ∷ (middle ++ v ∷ behind)) parted in
        let c = count_parts before middle u in
        owned_apart (child_at ws o before u) (child_at ws o (before ++ u ∷ middle) v) k
        (λ m h g. apart_both (marks u) (flat_map marks (middle ++ v ∷ behind)) here m h (has_flat marks (middle ++ v ∷ behind) v m (has_middle middle behind v) g))
        (omega (arith, c)) owns other

    pub apart_at : (o z : Place) → IsIn ws o z → Apart (marks o.tree) → Apart (marks z.tree)
    apart_at o _ itself apart = apart
    apart_at o z (within before after u e deep) apart =
        apart_at (child_at ws o before u) z deep
        (apart_one marks (inside o.tree) u (apart_inside o.tree apart) (subst (λ us. Has us u) (sym e) (has_middle before after u)))

    -- of two cells in one, each in a tree there
    inner_place : (o y z : Place) (before after other behind : List Tree) (u v : Tree) → inside o.tree ≡ before ++ u ∷ after → inside o.tree ≡ other ++ v ∷ behind
        → IsPlacedAt o → Apart (marks o.tree) → mark_at y ≡ mark_at z → IsIn ws (child_at ws o before u) y → IsIn ws (child_at ws o other v) z
        → AreSplit Tree before u other v
        → ((before ≡ other) × (u ≡ v))
    inner_place o y z before after _ behind u _ e f placed apart same a b alike = (refl, refl)
    inner_place o y z before after other behind u v e f placed apart same a b (former middle) =
        absurd (siblings_apart o before middle behind u v (mark_at y) f apart
        (owned (child_at ws o before u) y a (child_placed o before after u e placed))
        (subst (Owns (child_at ws o (before ++ u ∷ middle) v)) (sym same) (owned (child_at ws o (before ++ u ∷ middle) v) z b (child_placed o (before ++ u ∷ middle) behind v f placed))))
    inner_place o y z before after other behind u v e f placed apart same a b (latter middle) =
        absurd (siblings_apart o other middle after v u (mark_at y) e apart
        (subst (Owns (child_at ws o other v)) (sym same) (owned (child_at ws o other v) z b (child_placed o other behind v f placed)))
        (owned (child_at ws o (other ++ v ∷ middle) u) y a (child_placed o (other ++ v ∷ middle) after u e placed)))

    pub one_place : (o y z : Place) → IsIn ws o y → IsIn ws o z → IsPlacedAt o → Apart (marks o.tree) → mark_at y ≡ mark_at z → y ≡ z
    one_place o _ _ itself itself placed apart same = refl
    one_place o _ z itself (within before after u e deep) placed apart same =
        absurd (own_apart o before after u e placed apart (subst (Owns (child_at ws o before u)) (sym same) (owned (child_at ws o before u) z deep (child_placed o before after u e placed))))
    one_place o y _ (within before after u e deep) itself placed apart same =
        absurd (own_apart o before after u e placed apart (subst (Owns (child_at ws o before u)) same (owned (child_at ws o before u) y deep (child_placed o before after u e placed))))
    one_place o y z (within before after u e deep) (within other behind v f deeper) placed apart same =
        let here = inner_place o y z before after other behind u v e f placed apart same deep deeper (splits before after other behind u v (sym e ∙ f)) in
        one_place (child_at ws o before u) y z deep (subst (λ p. IsIn ws p z) (λ i. child_at ws o (sym here.0 i) (sym here.1 i)) deeper)
        (child_placed o before after u e placed) (apart_at o (child_at ws o before u) (within before after u e itself) apart) same
