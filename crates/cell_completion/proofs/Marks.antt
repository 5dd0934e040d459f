-- The marks in trees: which trees of a whole have one in common.
use Rattle.std.proofs.Common.{◌≡◌, ◌⊎◌, inl, inr, ℕ, Bool, true, false, cond, List, [], ◌∷◌, ◌++◌, Option, Some, None, refl, sym, ◌∙◌, subst}
use Rattle.std.specs.Prelude.{nat_le, unwrap_or}
use Rattle.std.specs.List.{flat_map}
use Rattle.rule_terms.specs.declared.defs.CellShape.{CellShape}
use Rattle.live_config.proofs.Members.{Has, has_left, has_right, has_either, Apart}
use Rattle.cell_completion.specs.declared.tree.Written.{Written}
use Rattle.cell_completion.specs.declared.tree.Tree.{Tree}
use Rattle.cell_completion.specs.Trees.{as_marks, marks, lesser, least, first_mark}
use Rattle.cell_completion.specs.Completion.{is_both, IsAsWritten, IsPlaced}
use Rattle.cell_completion.proofs.Unfolded.{cell_of, mark_of, inside, tree_induction, marks_are, placed_cell, placed_inside}
use Rattle.cell_completion.proofs.Cutting.{has_flat, flat_has, cut, stays_or_opens}

-- ---- numbers that differ, in joined lists

pub apart_left : (ms ns : List ℕ) → Apart (ms ++ ns) → Apart ms
apart_left [] ns a = tt
apart_left (m ∷ ms) ns a = ((λ h. a.0 (has_left ms ns m h)), apart_left ms ns a.1)

pub apart_right : (ms ns : List ℕ) → Apart (ms ++ ns) → Apart ns
apart_right [] ns a = a
apart_right (m ∷ ms) ns a = apart_right ms ns a.1

pub apart_both : (ms ns : List ℕ) → Apart (ms ++ ns) → (n : ℕ) → Has ms n → Has ns n → ⊥
apart_both [] ns a n h g = absurd h
apart_both (m ∷ ms) ns a n (inl e) g = a.0 (has_right ms ns m (subst (Has ns) (sym e) g))
apart_both (m ∷ ms) ns a n (inr h) g = apart_both ms ns a.1 n h g

pub apart_joined : (ms ns : List ℕ) → Apart ms → Apart ns → ((n : ℕ) → Has ms n → Has ns n → ⊥) → Apart (ms ++ ns)
apart_joined [] ns a b differ = b
apart_joined (m ∷ ms) ns a b differ =
    ((λ h. elim (has_either ms ns m h) [ inl g ↦ a.0 g | inr g ↦ differ m (inl refl) g ]), apart_joined ms ns a.1 b (λ n h g. differ n (inr h) g))

module _ {X : Type 0} (f : X → List ℕ) where
  pub apart_one : (xs : List X) (x : X) → Apart (flat_map f xs) → Has xs x → Apart (f x)
  apart_one [] x a h = absurd h
  apart_one (y ∷ ys) x a (inl e) = subst (λ z. Apart (f z)) e (apart_left (f y) (flat_map f ys) a)
  apart_one (y ∷ ys) x a (inr h) = apart_one ys x (apart_right (f y) (flat_map f ys) a) h

  -- two that have a number in common are one
  pub one_with : (xs : List X) → Apart (flat_map f xs) → (x y : X) (n : ℕ) → Has xs x → Has xs y → Has (f x) n → Has (f y) n → x ≡ y
  one_with [] a x y n h g p q = absurd h
  one_with (z ∷ zs) a x y n (inl e) (inl d) p q = sym e ∙ d
  one_with (z ∷ zs) a x y n (inl e) (inr g) p q =
      absurd (apart_both (f z) (flat_map f zs) a n (subst (λ w. Has (f w) n) (sym e) p) (has_flat f zs y n g q))
  one_with (z ∷ zs) a x y n (inr h) (inl d) p q =
      absurd (apart_both (f z) (flat_map f zs) a n (subst (λ w. Has (f w) n) (sym d) q) (has_flat f zs x n h p))
  one_with (z ∷ zs) a x y n (inr h) (inr g) p q = one_with zs (apart_right (f z) (flat_map f zs) a) x y n h g p q

-- ---- the marks of a tree

pub mark_in : (t : Tree) (m : ℕ) → mark_of t ≡ Some m → Has (marks t) m
mark_in t m e =
    subst (λ ms. Has ms m) (sym (marks_are t)) (has_left (as_marks (mark_of t)) (flat_map marks (inside t)) m (subst (λ o. Has (as_marks o) m) (sym e) (inl refl)))

pub marks_inside : (t u : Tree) (m : ℕ) → Has (inside t) u → Has (marks u) m → Has (marks t) m
marks_inside t u m h g =
    subst (λ ms. Has ms m) (sym (marks_are t)) (has_right (as_marks (mark_of t)) (flat_map marks (inside t)) m (has_flat marks (inside t) u m h g))

pub apart_inside : (t : Tree) → Apart (marks t) → Apart (flat_map marks (inside t))
apart_inside t a = apart_right (as_marks (mark_of t)) (flat_map marks (inside t)) (subst Apart (marks_are t) a)

-- the mark of a cell stands in none of the cells in it
pub own_mark : (t : Tree) → Apart (marks t) → (m : ℕ) → mark_of t ≡ Some m → Has (flat_map marks (inside t)) m → ⊥
own_mark t a m e h =
    apart_both (as_marks (mark_of t)) (flat_map marks (inside t)) (subst Apart (marks_are t) a) m (subst (λ o. Has (as_marks o) m) (sym e) (inl refl)) h

-- ---- the first mark

lesser_is : (n : ℕ) (o : Option ℕ) → ((lesser (Some n) o ≡ Some n) ⊎ (lesser (Some n) o ≡ o))
lesser_is n None = inl refl
lesser_is n (Some m) =
    elim (nat_le n m) as (λ b. (Some (cond b n m) ≡ Some n) ⊎ (Some (cond b n m) ≡ Some m)) [ true ↦ inl refl | false ↦ inr refl ]

-- the least of numbers is one of them
least_in : (ns : List ℕ) (n : ℕ) → least ns ≡ Some n → Has ns n
least_in [] n e = absurd (cc)
least_in (m ∷ ms) n e =
    elim (lesser_is m (least ms)) [
      | inl first ↦ let same : Some m ≡ Some n = sym first ∙ e in inl (cc)
      | inr later ↦ inr (least_in ms n (sym later ∙ e))
    ]

some_least : (n : ℕ) (o : Option ℕ) → (m : ℕ) × (lesser (Some n) o ≡ Some m)
some_least n None = (n, refl)
some_least n (Some m) = (cond (nat_le n m) n m, refl)

least_has : (ns : List ℕ) (n : ℕ) → Has ns n → Has ns (unwrap_or (least ns) 0)
least_has [] n h = absurd h
least_has (m ∷ ms) n h =
    let s = some_least m (least ms) in
    subst (λ o. Has (m ∷ ms) (unwrap_or o 0)) (sym s.1) (least_in (m ∷ ms) s.0 s.1)

pub first_in : (t : Tree) (m : ℕ) → Has (marks t) m → Has (marks t) (first_mark t)
first_in t m h = least_has (marks t) m h

module _ (shapes : List CellShape) (ws : List Written) where
  -- each placed cell has a written one
  abbrev pub HasMark : Tree → Type 0
  HasMark t = (parent around : Option ℕ) (outer : Bool) → IsPlaced shapes ws parent around outer t → (m : ℕ) × Has (marks t) m

  some_inside : (ts : List Tree) → (ts ≡ [] → ⊥) → (u : Tree) × Has ts u
  some_inside [] some = absurd (some refl)
  some_inside (u ∷ us) some = (u, inl refl)

  pub has_mark_in : (t : Tree) → HasMark t
  has_mark_in = tree_induction HasMark (λ t below parent around outer placed.
      elim (mark_of t) as (λ o. mark_of t ≡ o → (m : ℕ) × Has (marks t) m) [
        | Some m ↦ λ e. (m, mark_in t m e)
        | None ↦ λ e.
            let written = subst (λ o. IsAsWritten shapes ws around (cell_of t) o (inside t)) e (placed_cell shapes ws parent around outer t placed).written in
            let u = some_inside (inside t) written in
            let r = below u.0 u.1 (Some (cell_of t)) _ (is_both ws (mark_of t)) (placed_inside shapes ws parent around outer t placed u.0 u.1) in
            (r.0, marks_inside t u.0 r.0 u.1 r.1)
      ] refl)

  -- ---- what is cut

  abbrev pub CutMarks : ℕ → Tree → Type 0
  CutMarks c t = (u : Tree) (m : ℕ) → Has (cut c t) u → Has (marks u) m → Has (marks t) m

  pub cut_marks : (c : ℕ) (t : Tree) → CutMarks c t
  cut_marks c = tree_induction (CutMarks c) (λ t below u m h g.
      elim (stays_or_opens c t) [
        | inl stays ↦ elim (subst (λ us. Has us u) stays.whole h) [ inl e ↦ subst (λ v. Has (marks v) m) (sym e) g | inr none ↦ absurd none ]
        | inr opens ↦
            let found = flat_has (cut c) (inside t) u (subst (λ us. Has us u) opens.parts h) in
            marks_inside t found.0 m found.1 (below found.0 found.1 u m found.2 g)
      ])

  -- two of one cut that have a mark in common are one
  abbrev pub OneCut : ℕ → Tree → Type 0
  OneCut c t = Apart (marks t) → (u v : Tree) (m : ℕ) → Has (cut c t) u → Has (cut c t) v → Has (marks u) m → Has (marks v) m → u ≡ v

  pub one_cut : (c : ℕ) (t : Tree) → OneCut c t
  one_cut c = tree_induction (OneCut c) (λ t below apart u v m h g p q.
      elim (stays_or_opens c t) [
        | inl stays ↦
            elim (subst (λ us. Has us u) stays.whole h) [
              | inl e ↦ elim (subst (λ us. Has us v) stays.whole g) [ inl d ↦ sym e ∙ d | inr none ↦ absurd none ]
              | inr none ↦ absurd none
            ]
        | inr opens ↦
            let a = flat_has (cut c) (inside t) u (subst (λ us. Has us u) opens.parts h) in
            let b = flat_has (cut c) (inside t) v (subst (λ us. Has us v) opens.parts g) in
            let same : a.0 ≡ b.0 = one_with marks (inside t) (apart_inside t apart) a.0 b.0 m a.1 b.1 (cut_marks c a.0 u m a.2 p) (cut_marks c b.0 v m b.2 q) in
            below a.0 a.1 (apart_one marks (inside t) a.0 (apart_inside t apart) a.1) u v m a.2 (subst (λ w. Has (cut c w) v) (sym same) b.2) p q
      ])

  -- and of a list's
  pub one_of_cuts : (c : ℕ) (ts : List Tree) → Apart (flat_map marks ts) → (u v : Tree) (m : ℕ)
      → Has (flat_map (cut c) ts) u → Has (flat_map (cut c) ts) v → Has (marks u) m → Has (marks v) m → u ≡ v
  one_of_cuts c ts apart u v m h g p q =
      let a = flat_has (cut c) ts u h in
      let b = flat_has (cut c) ts v g in
      let same : a.0 ≡ b.0 = one_with marks ts apart a.0 b.0 m a.1 b.1 (cut_marks c a.0 u m a.2 p) (cut_marks c b.0 v m b.2 q) in
      one_cut c a.0 (apart_one marks ts a.0 apart a.1) u v m a.2 (subst (λ w. Has (cut c w) v) (sym same) b.2) p q
