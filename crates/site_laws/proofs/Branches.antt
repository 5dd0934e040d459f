-- The cells that pair off with those of a pattern are all different: what lies below one child of a cell lies below no other.
use Rattle.std.proofs.Common.{arith, ◌≡◌, inl, inr, ◌⊎◌, ℕ, ◌≤◌, List, [], ◌∷◌, ◌++◌, Some, refl, sym, ap, subst, ◌∙◌}
use mathlib.Core.Former.{Count}
use Rattle.rule_terms.specs.declared.pattern.Body.{Body, Cells', Seq, Map, List as Listed, One, Made, Row_of-CellPat, end_of-CellPat, more_of-CellPat}
use Rattle.rule_terms.specs.Language.{Language}
use Rattle.rule_terms.specs.Substitution.{Subst}
use Rattle.live_config.specs.declared.cell.Cell.{Cell}
use Rattle.live_config.specs.Configuration.{Configuration, cell_at, parent_number, below}
use Rattle.live_config.proofs.Members.{Has, has_either, Apart, rises-apart}
use Rattle.live_config.proofs.Children.{IsChild, below_rises}
use Rattle.live_config.proofs.Levels.{IsTidy, parent_of}
use Rattle.site_laws.proofs.Splitting.{has_around, has_middle}
use Rattle.site_laws.proofs.Apartness.{apart_joined, apart_around}
use Rattle.site_laws.proofs.Walk.{InnerFits, RowFits}

-- a cell is another one or lies below it
pub data LiesUnder (c : Configuration) (m : ℕ) : ℕ → Type 0 where
  itself : (k : ℕ) → k ≡ m → LiesUnder c m k
  deeper : (j k : ℕ) → IsChild c j k → LiesUnder c m j → LiesUnder c m k

under_cases : (c : Configuration) (m k : ℕ) → LiesUnder c m k → (k ≡ m) ⊎ ((j : ℕ) × IsChild c j k × LiesUnder c m j)
under_cases c m k (itself _ e) = inl e
under_cases c m k (deeper j _ child under) = inr (j, child, under)

-- what lies under a child lies under its parent
under_parent : (c : Configuration) (n m k : ℕ) → IsChild c n m → LiesUnder c m k → LiesUnder c n k
under_parent c n m k child (itself _ e) = deeper n k (subst (IsChild c n) (sym e) child) (itself n refl)
under_parent c n m k child (deeper j _ inner under) = deeper j k inner (under_parent c n m j child under)

one_parent : (c : Configuration) (i j k : ℕ) → IsChild c i k → IsChild c j k → i ≡ j
one_parent c i j k a b =
    let same : a.cell ≡ b.cell = (let e : Some a.cell ≡ Some b.cell = sym a.there ∙ b.there in cc) in
    let e : Some i ≡ Some j = sym a.parent ∙ ap parent_number same ∙ b.parent in
    cc

module _ (d : Language) (c : Configuration) (tidy : IsTidy d c) where
  under_higher : (m k : ℕ) → LiesUnder c m k → (a : Cell) → cell_at c m ≡ Some a → (b : Cell) → cell_at c k ≡ Some b → a.kind ≤ b.kind
  under_higher m k (itself _ e) a here b there =
      let same : a ≡ b = (let f : Some a ≡ Some b = sym here ∙ ap (cell_at c) (sym e) ∙ there in cc) in
      let kinds : a.kind ≡ b.kind = ap (λ (x : Cell). x.kind) same in
      omega (arith, kinds)
  under_higher m k (deeper j _ child under) a here b there =
      let p = parent_of d c tidy k child.cell j child.there child.parent in
      let same : child.cell ≡ b = (let f : Some child.cell ≡ Some b = sym child.there ∙ there in cc) in
      let kinds : child.cell.kind ≡ b.kind = ap (λ (x : Cell). x.kind) same in
      let lower = p.lower in
      let up = under_higher m j under a here p.above p.there in
      omega (arith, kinds, lower, up)

  -- a cell lies under none of its children
  not_under_child : (n m : ℕ) → IsChild c n m → LiesUnder c m n → ⊥
  not_under_child n m child under =
      let p = parent_of d c tidy m child.cell n child.there child.parent in
      let up = under_higher m n under child.cell child.there p.above p.there in
      let lower = p.lower in
      omega (arith, up, lower)

  -- what lies under two children of one cell lies under one
  same_branch : (n a b k : ℕ) → IsChild c n a → IsChild c n b → LiesUnder c a k → LiesUnder c b k → a ≡ b
  same_branch n a b k in_a in_b (itself _ e) other =
      elim (under_cases c b k other) [
        | inl f ↦ sym e ∙ f
        | inr (j, child, under) ↦
            let same : j ≡ n = one_parent c j n a (subst (IsChild c j) e child) in_a in
            absurd (not_under_child n b in_b (subst (LiesUnder c b) same under))
      ]
  same_branch n a b k in_a in_b (deeper j _ child under) other =
      elim (under_cases c b k other) [
        | inl f ↦
            let same : j ≡ n = one_parent c j n b (subst (IsChild c j) f child) in_b in
            absurd (not_under_child n a in_a (subst (LiesUnder c a) same under))
        | inr (i, inner, beneath) ↦ same_branch n a b j in_a in_b under (subst (LiesUnder c b) (one_parent c i j k inner child) beneath)
      ]

  -- ---- the numbers of a pattern

  module _ (s : Subst) where
    -- none stands twice, and each lies under a child of the cell
    pub record InnerApart (n : ℕ) (ns : List ℕ) : Type 0 where
      pub apart : Apart ns
      pub under : (k : ℕ) → Has ns k → (m : ℕ) × IsChild c n m × LiesUnder c m k

    -- none stands twice, and each lies under one of these children
    record RowApart (n : ℕ) (ks ns : List ℕ) : Type 0 where
      apart : Apart ns
      under : (k : ℕ) → Has ns k → (m : ℕ) × Has ks m × IsChild c n m × LiesUnder c m k

    none_inner : (n : ℕ) (ns : List ℕ) → ns ≡ [] → InnerApart n ns
    none_inner n [] e = record { apart = tt; under = λ k h. absurd h }
    none_inner n (m ∷ ns) e = absurd (let f : m ∷ ns ≡ [] = e in cc)

    none_row : (n : ℕ) (ks ns : List ℕ) → ns ≡ [] → RowApart n ks ns
    none_row n ks [] e = record { apart = tt; under = λ k h. absurd h }
    none_row n ks (m ∷ ns) e = absurd (let f : m ∷ ns ≡ [] = e in cc)

    of_row : (n : ℕ) (ns : List ℕ) → RowApart n (below c n) ns → InnerApart n ns
    of_row n ns row = record { apart = row.apart; under = λ k h. let u = row.under k h in (u.0, u.2, u.3) }

    -- a cell and what lies below it
    with_inner : (m : ℕ) (inner : List ℕ) → InnerApart m inner → Apart (m ∷ inner)
    with_inner m inner apart = ((λ h. let u = apart.under m h in not_under_child m u.0 u.1 u.2), apart.apart)

    all_under : (m : ℕ) (inner : List ℕ) → InnerApart m inner → (k : ℕ) → Has (m ∷ inner) k → LiesUnder c m k
    all_under m inner apart k (inl e) = itself k (sym e)
    all_under m inner apart k (inr h) = let u = apart.under k h in under_parent c m u.0 k u.1 u.2

    row_more : (n m : ℕ) (before after inner rest : List ℕ) → IsChild c n m → Apart (before ++ m ∷ after) → InnerApart m inner
        → RowApart n (before ++ after) rest → RowApart n (before ++ m ∷ after) ((m ∷ inner) ++ rest)
    row_more n m before after inner rest child apart first others =
        let around = apart_around before m after apart in
        record {
          apart = apart_joined (m ∷ inner) rest (with_inner m inner first) others.apart (λ k h g.
              let u = others.under k g in
              let same : m ≡ u.0 = same_branch n m u.0 k child u.2 (all_under m inner first k h) u.3 in
              around.alone (subst (Has (before ++ after)) (sym same) u.1));
          under = λ k h. elim (has_either (m ∷ inner) rest k h) [
            | inl g ↦ (m, has_middle before m after, child, all_under m inner first k g)
            | inr g ↦ let u = others.under k g in (u.0, has_around before m after u.0 u.1, u.2, u.3)
          ];
        }

    mutual
      unfolding InnerFits RowFits

      pub inner_apart : (n : ℕ) (body : Body) (ns : List ℕ) → InnerFits c s n body ns → InnerApart n ns
      inner_apart n (Cells' shape children rest) ns fits =
          of_row n ns (row_apart n children (below c n) fits.0 ns fits.1 (rises-apart (below c n) (below_rises c tidy.rising n)))
      inner_apart n (Seq parts rest) ns fits = none_inner n ns fits
      inner_apart n (Map entries rest) ns fits = none_inner n ns fits
      inner_apart n (Listed before rest after) ns fits = none_inner n ns fits
      inner_apart n (One p) ns fits = none_inner n ns fits
      inner_apart n (Made p) ns fits = none_inner n ns fits

      row_apart : {k : Count} (n : ℕ) (row : Row_of-CellPat k) (ks others ns : List ℕ) → RowFits c s n row ks others ns → Apart ks → RowApart n ks ns
      row_apart n end_of-CellPat ks others ns fits apart = none_row n ks ns fits.1
      row_apart n (more_of-CellPat cell mark body cells) ks others ns (before, m, after, inner, rest, first, here, within, further) apart =
          let child : IsChild c n m = record { cell = here.cell; there = here.there; parent = here.parent } in
          let all : Apart (before ++ m ∷ after) = subst Apart first.taken apart in
          let others_apart = row_apart n cells (before ++ after) others rest further (apart_around before m after all).apart in
          let joined = row_more n m before after inner rest child all (inner_apart m body inner within) others_apart in
          subst (λ js. RowApart n js ns) (sym first.taken) (subst (RowApart n (before ++ m ∷ after)) (sym first.numbers) joined)

  -- the numbers of a whole pattern, with its outermost cell
  pub side_apart : (s : Subst) (n : ℕ) (body : Body) (ns : List ℕ) → InnerFits c s n body ns → Apart (n ∷ ns)
  side_apart s n body ns fits = with_inner s n ns (inner_apart s n body ns fits)
