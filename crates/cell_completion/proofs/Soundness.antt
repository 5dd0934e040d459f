-- What the code builds is a least completion.
use Rattle.std.proofs.Common.{◌≡◌, ◌⊎◌, inl, inr, ℕ, zero, suc, ◌+◌, ◌<◌, ◌≤◌, Bool, true, false, not, cond, ◌==◌, List, [], ◌∷◌, ◌++◌, filter, length, Option, Some, None, option_map, refl, sym, ap, ◌∙◌, subst, arith, append-nil}
use Rattle.std.specs.Prelude.{slice_get}
use Rattle.std.specs.Option.{option_and_then}
use Rattle.std.specs.List.{flat_map}
use Rattle.std.proofs.lemmas.Bool.{eqb-true, and_parts, cases_Bool, cases_eq}
use Rattle.rule_terms.specs.declared.defs.CellShape.{CellShape}
use Rattle.live_config.proofs.Members.{Has, Apart, kept, keeps, map_has, has_left, has_right, has_either}
use Rattle.cell_completion.specs.declared.tree.Written.{Written}
use Rattle.cell_completion.specs.declared.tree.Tree.{Tree}
use Rattle.cell_completion.specs.Trees.{marks, first_mark, around_inside, Added, as_added, added_in}
use Rattle.cell_completion.specs.Completion.{is_many, is_both, IsDeclaredIn, IsAsWritten, IsPlaced, AreInOrder}
use Rattle.cell_completion.specs.Listed.{AreDeclared}
use Rattle.cell_completion.specs.Building.{same_number, parent_of, stands_in, inserted, all_inserted, stands_before, have_room, are_of, are_single, added_cell, each_added, gathered, stage, stages}
use Rattle.cell_completion.proofs.Unfolded.{cell_of, mark_of, inside, added_are, is_placed}
use Rattle.cell_completion.proofs.Order.{AreApart, AllApart, by_first, Sorted, inserted_has, all_inserted_has, has_all_new, has_all_old, all_sorted, room_ordered}
use Rattle.cell_completion.proofs.Cutting.{has_flat, flat_has}
use Rattle.cell_completion.proofs.Marks.{apart_left, apart_right, apart_both, apart_joined, one_with, has_mark_in, first_in}
use Rattle.cell_completion.proofs.Gathering.{same_number_true, same_number_is, filter_sorted, cell_added, mark_added, inside_added, marks_added, each_apart, IsOneOrEach}
use Rattle.cell_completion.proofs.Parts.{part}

-- ---- joined lists of numbers that differ

module _ {X : Type 0} (f : X → List ℕ) where
  pub apart_filter : (p : X → Bool) (xs : List X) → Apart (flat_map f xs) → Apart (flat_map f (filter p xs))
  apart_filter p [] a = tt
  apart_filter p (x ∷ xs) a =
      elim (p x) as (λ b. Apart (flat_map f (cond b (x ∷ filter p xs) (filter p xs)))) [
        | true ↦ apart_joined (f x) (flat_map f (filter p xs)) (apart_left (f x) (flat_map f xs) a) (apart_filter p xs (apart_right (f x) (flat_map f xs) a))
            (λ n h g. let r = flat_has f (filter p xs) n g in apart_both (f x) (flat_map f xs) a n h (has_flat f xs r.0 n (kept p xs r.0 r.1).0 r.2))
        | false ↦ apart_filter p xs (apart_right (f x) (flat_map f xs) a)
      ]

pub apart_inserted : (f : Tree → List ℕ) (t : Tree) (us : List Tree) → Apart (f t) → Apart (flat_map f us) → ((n : ℕ) → Has (f t) n → Has (flat_map f us) n → ⊥)
    → Apart (flat_map f (inserted t us))
apart_inserted f t [] a b differ = subst Apart (sym (append-nil (f t))) a
apart_inserted f t (u ∷ us) a b differ =
    elim (stands_before u t) as (λ s. Apart (flat_map f (cond s (u ∷ inserted t us) (t ∷ u ∷ us)))) [
      | true ↦
          apart_joined (f u) (flat_map f (inserted t us)) (apart_left (f u) (flat_map f us) b)
          (apart_inserted f t us a (apart_right (f u) (flat_map f us) b) (λ n h g. differ n h (has_right (f u) (flat_map f us) n g)))
          (λ n h g.
          let r = flat_has f (inserted t us) n g in
          elim (inserted_has t us r.0 r.1) [
            | inl e ↦ differ n (subst (λ v. Has (f v) n) (sym e) r.2) (has_left (f u) (flat_map f us) n h)
            | inr k ↦ apart_both (f u) (flat_map f us) b n h (has_flat f us r.0 n k r.2)
          ])
      | false ↦ apart_joined (f t) (flat_map f (u ∷ us)) a b differ
    ]

pub apart_all_inserted : (f : Tree → List ℕ) (ts us : List Tree) → Apart (flat_map f ts) → Apart (flat_map f us)
    → ((n : ℕ) → Has (flat_map f ts) n → Has (flat_map f us) n → ⊥) → Apart (flat_map f (all_inserted ts us))
apart_all_inserted f [] us a b differ = b
apart_all_inserted f (t ∷ ts) us a b differ =
    apart_all_inserted f ts (inserted t us) (apart_right (f t) (flat_map f ts) a)
    (apart_inserted f t us (apart_left (f t) (flat_map f ts) a) b (λ n h g. differ n (has_left (f t) (flat_map f ts) n h) g))
    (λ n h g.
    let r = flat_has f (inserted t us) n g in
    elim (inserted_has t us r.0 r.1) [
      | inl e ↦ apart_both (f t) (flat_map f ts) a n (subst (λ v. Has (f v) n) (sym e) r.2) h
      | inr k ↦ differ n (has_right (f t) (flat_map f ts) n h) (has_flat f us r.0 n k r.2)
    ])

-- ---- what is gathered

-- of trees in order
data GatherForm (shapes : List CellShape) (c : ℕ) : List Tree → List Tree → Type 0 where
  nothing : GatherForm shapes c [] []
  together : {k : Tree} {ks : List Tree} → have_room shapes (k ∷ ks) ≡ true → GatherForm shapes c (k ∷ ks) (added_cell c (k ∷ ks) ∷ [])
  each_alone : {k : Tree} {ks : List Tree} → are_single shapes (k ∷ ks) ≡ true → GatherForm shapes c (k ∷ ks) (each_added c (k ∷ ks))

gather_form : (shapes : List CellShape) (c : ℕ) (kids new : List Tree) → gathered shapes c kids ≡ Some new → GatherForm shapes c kids new
gather_form shapes c [] new e = let same : [] ≡ new = cc in subst (GatherForm shapes c []) same nothing
gather_form shapes c (k ∷ ks) new e =
    elim (have_room shapes (k ∷ ks)) as (λ b. have_room shapes (k ∷ ks) ≡ b
    → cond b (Some (added_cell c (k ∷ ks) ∷ [])) (cond (are_single shapes (k ∷ ks)) (Some (each_added c (k ∷ ks))) None) ≡ Some new → GatherForm shapes c (k ∷ ks) new) [
      | true ↦ λ room d. let same : (added_cell c (k ∷ ks) ∷ []) ≡ new = cc in subst (GatherForm shapes c (k ∷ ks)) same (together room)
      | false ↦ λ _ d.
          elim (are_single shapes (k ∷ ks)) as (λ b. are_single shapes (k ∷ ks) ≡ b → cond b (Some (each_added c (k ∷ ks))) None ≡ Some new → GatherForm shapes c (k ∷ ks) new) [
            | true ↦ λ single g. let same : each_added c (k ∷ ks) ≡ new = cc in subst (GatherForm shapes c (k ∷ ks)) same (each_alone single)
            | false ↦ λ _ g. absurd (let f : None ≡ Some new = g in cc)
          ] refl d
    ] refl e

all_of_cell : (cell : ℕ) (ts : List Tree) → are_of cell ts ≡ true → (t : Tree) → Has ts t → cell_of t ≡ cell
all_of_cell cell [] e t h = absurd h
all_of_cell cell (u ∷ us) e t (inl same) = ap cell_of (sym same) ∙ eqb-true (cell_of u) cell (and_parts (cell_of u == cell) (are_of cell us) e).0
all_of_cell cell (u ∷ us) e t (inr h) = all_of_cell cell us (and_parts (cell_of u == cell) (are_of cell us) e).1 t h

-- what is known of the new cells
record IsGathering (shapes : List CellShape) (c : ℕ) (kids new : List Tree) : Type 0 where
  cell_is : (a : Tree) → Has new a → cell_of a ≡ c
  added : (a : Tree) → Has new a → mark_of a ≡ None
  order : (a : Tree) → Has new a → AreInOrder shapes (inside a)
  some : (a : Tree) → Has new a → inside a ≡ [] → ⊥
  inner : (a k : Tree) → Has new a → Has (inside a) k → Has kids k
  marks_same : flat_map marks new ≡ flat_map marks kids
  least : IsOneOrEach shapes (Has new)
  apart : AllApart new
  added_from : (around : Option ℕ) (z : Added) → Has (flat_map (added_in around) new) z
      → ((a : Tree) × Has new a × (part around a ≡ z)) ⊎ Has (flat_map (added_in around) kids) z

module _ (shapes : List CellShape) (c : ℕ) where
  -- the added cells in an added one
  added_inner : (around : Option ℕ) (ts : List Tree) (z : Added) → Has (added_in around (added_cell c ts)) z
      → (part around (added_cell c ts) ≡ z) ⊎ Has (flat_map (added_in around) ts) z
  added_inner around ts z h =
      let at : added_in around (added_cell c ts) ≡ part around (added_cell c ts) ∷ flat_map (added_in around) ts =
      added_are around (added_cell c ts)
      ∙ ap (λ m. as_added around m (added_cell c ts) ++ flat_map (added_in (around_inside around m)) (inside (added_cell c ts))) (mark_added c ts)
      ∙ ap (λ us. part around (added_cell c ts) ∷ flat_map (added_in around) us) (inside_added c ts) in
      subst (λ added. Has added z) at h

  not_empty : (k : Tree) (ks : List Tree) → inside (added_cell c (k ∷ ks)) ≡ [] → ⊥
  not_empty k ks e = let f : (k ∷ ks) ≡ [] = sym (inside_added c (k ∷ ks)) ∙ e in cc

  only_one : (a : Tree) (P : Tree → Type 0) → P a → (b : Tree) → Has (a ∷ []) b → P b
  only_one a P p b (inl e) = subst P e p
  only_one a P p b (inr h) = absurd h

  of_each : (kids : List Tree) (P : Tree → Type 0) → ((k : Tree) → Has kids k → P (added_cell c (k ∷ []))) → (a : Tree) → Has (each_added c kids) a → P a
  of_each kids P each a h = let r = map_has (λ t. added_cell c (t ∷ [])) kids a h in subst P r.2 (each r.0 r.1)

  marks_each : (kids : List Tree) → flat_map marks (each_added c kids) ≡ flat_map marks kids
  marks_each [] = refl
  marks_each (k ∷ ks) =
      ap (λ ms. ms ++ flat_map marks (each_added c ks)) (marks_added c (k ∷ []) ∙ append-nil (marks k)) ∙ ap (λ ms. marks k ++ ms) (marks_each ks)

  gathering : (kids new : List Tree) → Sorted kids → GatherForm shapes c kids new → IsGathering shapes c kids new
  gathering kids new sorted nothing = record {
    cell_is = λ a h. absurd h;
    added = λ a h. absurd h;
    order = λ a h. absurd h;
    some = λ a h. absurd h;
    inner = λ a k h. absurd h;
    marks_same = refl;
    least = inl (λ a b h. absurd h);
    apart = tt;
    added_from = λ around z h. absurd h;
  }
  gathering kids new sorted (together {k} {ks} room) = record {
    cell_is = only_one (added_cell c (k ∷ ks)) (λ a. cell_of a ≡ c) (cell_added c (k ∷ ks));
    added = only_one (added_cell c (k ∷ ks)) (λ a. mark_of a ≡ None) (mark_added c (k ∷ ks));
    order = only_one (added_cell c (k ∷ ks)) (λ a. AreInOrder shapes (inside a)) (subst (AreInOrder shapes) (sym (inside_added c (k ∷ ks))) (room_ordered shapes (k ∷ ks) sorted room));
    some = only_one (added_cell c (k ∷ ks)) (λ a. inside a ≡ [] → ⊥) (not_empty k ks);
    inner = λ a u h. only_one (added_cell c (k ∷ ks)) (λ b. Has (inside b) u → Has (k ∷ ks) u) (λ g. subst (λ us. Has us u) (inside_added c (k ∷ ks)) g) a h;
    marks_same = append-nil (marks (added_cell c (k ∷ ks))) ∙ marks_added c (k ∷ ks);
    least = inl (λ a b h g. elim h [ inl e ↦ elim g [ inl d ↦ sym e ∙ d | inr none ↦ absurd none ] | inr none ↦ absurd none ]);
    apart = ((λ u h. absurd h), tt);
    added_from = λ around z h.
        elim (has_either (added_in around (added_cell c (k ∷ ks))) [] z h) [
          | inl g ↦ elim (added_inner around (k ∷ ks) z g) [ inl e ↦ inl (added_cell c (k ∷ ks), inl refl, e) | inr d ↦ inr d ]
          | inr none ↦ absurd none
        ];
  }
  gathering kids new sorted (each_alone {k} {ks} single) =
      let parts_single = and_parts (not (is_many shapes (cell_of k))) (are_of (cell_of k) (k ∷ ks)) single in
      let same : (t : Tree) → Has (k ∷ ks) t → cell_of t ≡ cell_of k = all_of_cell (cell_of k) (k ∷ ks) parts_single.1 in
      record {
        cell_is = of_each (k ∷ ks) (λ a. cell_of a ≡ c) (λ t h. cell_added c (t ∷ []));
        added = of_each (k ∷ ks) (λ a. mark_of a ≡ None) (λ t h. mark_added c (t ∷ []));
        order = of_each (k ∷ ks) (λ a. AreInOrder shapes (inside a)) (λ t h. subst (AreInOrder shapes) (sym (inside_added c (t ∷ []))) tt);
        some = of_each (k ∷ ks) (λ a. inside a ≡ [] → ⊥) (λ t h. not_empty t []);
        inner = λ a u h. of_each (k ∷ ks) (λ b. Has (inside b) u → Has (k ∷ ks) u)
            (λ t g d. elim (subst (λ us. Has us u) (inside_added c (t ∷ [])) d) [ inl e ↦ subst (Has (k ∷ ks)) e g | inr none ↦ absurd none ]) a h;
        marks_same = marks_each (k ∷ ks);
        least = inr (
          cell_of k,
          not_true (is_many shapes (cell_of k)) parts_single.0,
          λ a h. of_each (k ∷ ks) (λ b. (only : Tree) × (inside b ≡ only ∷ []) × (cell_of only ≡ cell_of k)) (λ t g. (t, inside_added c (t ∷ []), same t g)) a h,
        );
        apart = each_apart c (cell_of k) (k ∷ ks) same sorted;
        added_from = λ around z h. from_each around (k ∷ ks) z h;
      }
    where
      not_true : (b : Bool) → not b ≡ true → b ≡ false
      not_true true e = cc
      not_true false e = refl

      from_each : (around : Option ℕ) (ts : List Tree) (z : Added) → Has (flat_map (added_in around) (each_added c ts)) z
          → ((a : Tree) × Has (each_added c ts) a × (part around a ≡ z)) ⊎ Has (flat_map (added_in around) ts) z
      from_each around ts z h =
          let r = flat_has (added_in around) (each_added c ts) z h in
          let m = map_has (λ t. added_cell c (t ∷ [])) ts r.0 r.1 in
          elim (added_inner around (m.0 ∷ []) z (subst (λ a. Has (added_in around a) z) (sym m.2) r.2)) [
            | inl e ↦ inl (added_cell c (m.0 ∷ []), subst (Has (each_added c ts)) (sym m.2) r.1, e)
            | inr d ↦ inr (elim (has_either (added_in around m.0) [] z d) [ inl g ↦ has_flat (added_in around) ts m.0 z m.1 g | inr none ↦ absurd none ])
          ]

-- ---- options

pub mapped : (f : List Tree → List Tree) (o : Option (List Tree)) (zs : List Tree) → option_map f o ≡ Some zs → (xs : List Tree) × (o ≡ Some xs) × (f xs ≡ zs)
mapped f None zs d = absurd (let k : None ≡ Some zs = d in cc)
mapped f (Some xs) zs d = (xs, refl, let k : Some (f xs) ≡ Some zs = d in cc)

pub chained : {B C : Type 0} (f : B → Option C) (o : Option B) (z : C) → option_and_then f o ≡ Some z → (x : B) × (o ≡ Some x) × (f x ≡ Some z)
chained f None z d = absurd (let k : None ≡ Some z = d in cc)
chained f (Some x) z d = (x, refl, d)

-- ---- the levels

module _ (shapes : List CellShape) (ws : List Written) (declared : AreDeclared shapes) where
  -- an added cell of some trees, with this written cell around it
  abbrev pub IsAddedAmong : Option ℕ → List Tree → Option ℕ → ℕ → Tree → Type 0
  IsAddedAmong around ts target c a = Has (flat_map (added_in around) ts) (part target a) × (cell_of a ≡ c)

  -- Trees that stand in one written cell, or in none, where the levels from one on are done: each placed in a cell of its declared
  -- parent. Their marks are those of the written cells, each once; the added cells are least.
  pub record IsStaged (around : Option ℕ) (outer : Bool) (level : ℕ) (IsMark : ℕ → Type 0) (ts : List Tree) : Type 0 where
    pub sorted : Sorted ts
    pub placed : (t : Tree) → Has ts t → IsPlaced shapes ws (parent_of shapes (cell_of t)) around outer t
    pub marks_from : (m : ℕ) → Has (flat_map marks ts) m → IsMark m
    pub marks_to : (m : ℕ) → IsMark m → Has (flat_map marks ts) m
    pub apart : Apart (flat_map marks ts)
    pub least : (target : Option ℕ) (c : ℕ) → IsOneOrEach shapes (IsAddedAmong around ts target c)
    pub high : (a : Tree) → Has (flat_map (added_in around) ts) (part around a) → level ≤ cell_of a

  -- fewer are as least
  fewer : (P Q : Tree → Type 0) → ((a : Tree) → Q a → P a) → IsOneOrEach shapes P → IsOneOrEach shapes Q
  fewer P Q sub (inl one) = inl (λ a b p q. one a b (sub a p) (sub b q))
  fewer P Q sub (inr each) = inr (each.0, each.1, λ a q. each.2 a (sub a q))

  pub declared_at : (c : ℕ) → c < length shapes → IsDeclaredIn shapes (parent_of shapes c) c
  declared_at c less =
      let s = shape_at shapes c less in
      record { shape = s.0; declared = s.1; parent_is = sym (ap (option_and_then (λ (shape : CellShape). shape.parent)) s.1) }
    where
      shape_at : (xs : List CellShape) (n : ℕ) → n < length xs → (x : CellShape) × (slice_get xs n ≡ Some x)
      shape_at [] n less = absurd (omega (arith, less))
      shape_at (x ∷ xs) zero less = (x, refl)
      shape_at (x ∷ xs) (suc n) less = shape_at xs n (omega (arith, less))

  module _ (around : Option ℕ) (IsMark : ℕ → Type 0) (c : ℕ) (less : c < length shapes) (ts : List Tree) (staged : IsStaged around true (suc c) IsMark ts) where
    abbrev kids : List Tree
    kids = filter (stands_in shapes (Some c)) ts

    abbrev rest : List Tree
    rest = filter (λ t. not (stands_in shapes (Some c) t)) ts

    kid_is : (t : Tree) → Has kids t → Has ts t × (parent_of shapes (cell_of t) ≡ Some c)
    kid_is t h = let k = kept (stands_in shapes (Some c)) ts t h in (k.0, same_number_true (parent_of shapes (cell_of t)) (Some c) k.1)

    rest_is : (t : Tree) → Has rest t → Has ts t × (stands_in shapes (Some c) t ≡ false)
    rest_is t h = let k = kept (λ u. not (stands_in shapes (Some c) u)) ts t h in (k.0, false_of (stands_in shapes (Some c) t) k.1)
      where
        false_of : (b : Bool) → not b ≡ true → b ≡ false
        false_of true e = cc
        false_of false e = refl

    one_of_both : (t : Tree) → Has ts t → Has kids t ⊎ Has rest t
    one_of_both t h =
        elim (cases_Bool (stands_in shapes (Some c) t)) [
          | inl e ↦ inl (keeps (stands_in shapes (Some c)) ts t h e)
          | inr e ↦ inr (keeps (λ u. not (stands_in shapes (Some c) u)) ts t h (ap not e))
        ]

    -- no mark is in both
    parted : (m : ℕ) → Has (flat_map marks kids) m → Has (flat_map marks rest) m → ⊥
    parted m h g =
        let t = flat_has marks kids m h in
        let u = flat_has marks rest m g in
        let k = kid_is t.0 t.1 in
        let r = rest_is u.0 u.1 in
        let same : t.0 ≡ u.0 = one_with marks ts staged.apart t.0 u.0 m k.0 r.0 t.2 u.2 in
        let e : stands_in shapes (Some c) u.0 ≡ true = same_number_is (parent_of shapes (cell_of u.0)) (Some c) (ap (λ v. parent_of shapes (cell_of v)) (sym same) ∙ k.1) in
        let f : false ≡ true = sym r.1 ∙ e in cc

    module _ (new : List Tree) (g : IsGathering shapes c kids new) where
      new_placed : (a : Tree) → Has new a → IsPlaced shapes ws (parent_of shapes (cell_of a)) around true a
      new_placed a h =
          is_placed shapes ws (parent_of shapes (cell_of a)) around true a (record {
            declared = subst (λ n. IsDeclaredIn shapes (parent_of shapes n) n) (sym (g.cell_is a h)) (declared_at c less);
            written = subst (λ o. IsAsWritten shapes ws around (cell_of a) o (inside a)) (sym (g.added a h)) (g.some a h);
            sides = λ _. refl;
            order = g.order a h;
          }) (λ k d.
          let kid = kid_is k (g.inner a k h d) in
          subst (λ o. IsPlaced shapes ws o (around_inside around (mark_of a)) (is_both ws (mark_of a)) k) (kid.1 ∙ ap (λ n. Some n) (sym (g.cell_is a h)))
          (subst (λ o. IsPlaced shapes ws (parent_of shapes (cell_of k)) (around_inside around o) (is_both ws o) k) (sym (g.added a h)) (staged.placed k kid.0)))

      abbrev all : List Tree
      all = all_inserted new rest

      -- the first marks of the new cells and of the rest differ
      has_first : (t : Tree) (o p : Option ℕ) (b : Bool) → IsPlaced shapes ws o p b t → Has (marks t) (first_mark t)
      has_first t o p b placed = let m = has_mark_in shapes ws t o p b placed in first_in t m.0 m.1

      between : (t u : Tree) → Has new t → Has rest u → AreApart t u
      between t u h k =
          by_first t u (λ e.
          let one = has_first t (parent_of shapes (cell_of t)) around true (new_placed t h) in
          let r = rest_is u k in
          let other = has_first u (parent_of shapes (cell_of u)) around true (staged.placed u r.0) in
          parted (first_mark t) (subst (λ ms. Has ms (first_mark t)) g.marks_same (has_flat marks new t (first_mark t) h one))
          (has_flat marks rest u (first_mark t) k (subst (Has (marks u)) (sym e) other)))

      all_cases : (t : Tree) → Has all t → Has new t ⊎ Has rest t
      all_cases t h = all_inserted_has new rest t h

      added_all : (z : Added) → Has (flat_map (added_in around) all) z → ((a : Tree) × Has new a × (part around a ≡ z)) ⊎ Has (flat_map (added_in around) ts) z
      added_all z h =
          let t = flat_has (added_in around) all z h in
          elim (all_cases t.0 t.1) [
            | inl n ↦ elim (g.added_from around z (has_flat (added_in around) new t.0 z n t.2)) [
              | inl a ↦ inl a
              | inr k ↦ let u = flat_has (added_in around) kids z k in inr (has_flat (added_in around) ts u.0 z (kid_is u.0 u.1).0 u.2)
            ]
            | inr r ↦ inr (has_flat (added_in around) ts t.0 z (rest_is t.0 r).0 t.2)
          ]

      all_least : (target : Option ℕ) (k : ℕ) → IsOneOrEach shapes (IsAddedAmong around all target k)
      all_least target k =
          elim (cases_eq k c) [
            | inr differ ↦ fewer (IsAddedAmong around ts target k) (IsAddedAmong around all target k) (λ a is.
                elim (added_all (part target a) is.0) [
                  | inl n ↦ absurd (differ (sym is.1 ∙ sym (ap (λ (z : Added). cell_of z.tree) n.2) ∙ g.cell_is n.0 n.1))
                  | inr old ↦ (old, is.1)
                ]) (staged.least target k)
            | inl level ↦
                elim (cases_Bool (same_number around target)) [
                  | inl here ↦
                      let same : around ≡ target = same_number_true around target here in
                      fewer (Has new) (IsAddedAmong around all target k) (λ a is.
                      elim (added_all (part target a) is.0) [
                        | inl n ↦ subst (Has new) (ap (λ (z : Added). z.tree) n.2) n.1
                        | inr old ↦ absurd (let low = staged.high a (subst (λ o. Has (flat_map (added_in around) ts) (part o a)) (sym same) old) in let at = is.1 in omega (arith, low, at, level))
                      ]) g.least
                  | inr away ↦ fewer (IsAddedAmong around ts target k) (IsAddedAmong around all target k) (λ a is.
                      elim (added_all (part target a) is.0) [
                        | inl n ↦ absurd (let e : same_number around target ≡ true = same_number_is around target (ap (λ (z : Added). z.around) n.2) in let f : false ≡ true = sym away ∙ e in cc)
                        | inr old ↦ (old, is.1)
                      ]) (staged.least target k)
                ]
          ]

      all_high : (a : Tree) → Has (flat_map (added_in around) all) (part around a) → c ≤ cell_of a
      all_high a h =
          elim (added_all (part around a) h) [
            | inl n ↦ let at = g.cell_is n.0 n.1 in let same : cell_of n.0 ≡ cell_of a = ap (λ (z : Added). cell_of z.tree) n.2 in omega (arith, at, same)
            | inr old ↦ let low = staged.high a old in omega (arith, low)
          ]

      all_staged : IsStaged around true c IsMark (all_inserted new rest)
      all_staged = record {
        sorted = all_sorted new rest (filter_sorted (λ t. not (stands_in shapes (Some c) t)) ts staged.sorted) g.apart between;
        placed = λ t h. elim (all_inserted_has new rest t h) [ inl n ↦ new_placed t n | inr r ↦ staged.placed t (rest_is t r).0 ];
        marks_from = λ m h.
            let t = flat_has marks (all_inserted new rest) m h in
            elim (all_inserted_has new rest t.0 t.1) [
              | inl n ↦
                  let k = flat_has marks kids m (subst (λ ms. Has ms m) g.marks_same (has_flat marks new t.0 m n t.2)) in
                  staged.marks_from m (has_flat marks ts k.0 m (kid_is k.0 k.1).0 k.2)
              | inr r ↦ staged.marks_from m (has_flat marks ts t.0 m (rest_is t.0 r).0 t.2)
            ];
        marks_to = λ m is.
            let t = flat_has marks ts m (staged.marks_to m is) in
            elim (one_of_both t.0 t.1) [
              | inl k ↦
                  let n = flat_has marks new m (subst (λ ms. Has ms m) (sym g.marks_same) (has_flat marks kids t.0 m k t.2)) in
                  has_flat marks (all_inserted new rest) n.0 m (has_all_new new rest n.0 n.1) n.2
              | inr r ↦ has_flat marks (all_inserted new rest) t.0 m (has_all_old new rest t.0 r) t.2
            ];
        apart = apart_all_inserted marks new rest (subst Apart (sym g.marks_same) (apart_filter marks (stands_in shapes (Some c)) ts staged.apart))
            (apart_filter marks (λ t. not (stands_in shapes (Some c) t)) ts staged.apart)
            (λ m h k. parted m (subst (λ ms. Has ms m) g.marks_same h) k);
        least = all_least;
        high = all_high;
      }

  -- one level more
  pub one_level : (around : Option ℕ) (IsMark : ℕ → Type 0) (c : ℕ) → c < length shapes → (ts us : List Tree) → IsStaged around true (suc c) IsMark ts
      → stage shapes c ts ≡ Some us → IsStaged around true c IsMark us
  one_level around IsMark c less ts us staged e =
      let made = mapped (λ new. all_inserted new (filter (λ t. not (stands_in shapes (Some c) t)) ts)) (gathered shapes c (filter (stands_in shapes (Some c)) ts)) us e in
      let g = gathering shapes c (filter (stands_in shapes (Some c)) ts) made.0 (filter_sorted (stands_in shapes (Some c)) ts staged.sorted) (gather_form shapes c (filter (stands_in shapes (Some c)) ts) made.0 made.1) in
      subst (IsStaged around true c IsMark) made.2 (all_staged around IsMark c less ts staged made.0 g)

  pub all_levels : (around : Option ℕ) (IsMark : ℕ → Type 0) (first n : ℕ) → first + n ≤ length shapes → (ts us : List Tree) → IsStaged around true (first + n) IsMark ts
      → stages shapes first n ts ≡ Some us → IsStaged around true first IsMark us
  all_levels around IsMark first zero few ts us staged e =
      let same : ts ≡ us = cc in subst (IsStaged around true first IsMark) same (subst (λ k. IsStaged around true k IsMark ts) (omega (arith)) staged)
  all_levels around IsMark first (suc n) few ts us staged e =
      let s = chained (stages shapes first n) (stage shapes (first + n) ts) us e in
      all_levels around IsMark first n (omega (arith, few)) s.0 us
      (one_level around IsMark (first + n) (omega (arith, few)) ts s.0 (subst (λ k. IsStaged around true k IsMark ts) (omega (arith)) staged) s.1) s.2
