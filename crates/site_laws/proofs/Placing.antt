-- The cells of a pattern stand at their numbers: each is there, in the one around it, with its content, and its rest of cells
-- stands for the further children.
use Rattle.std.proofs.Common.{◌≡◌, ℕ, not, List, [], ◌∷◌, ◌++◌, filter, Option, Some, None, sym, ap, subst, ◌∙◌}
use Rattle.std.specs.Option.{option_and_then}
use mathlib.Core.Former.{Count}
use Rattle.rule_terms.specs.declared.pattern.Body.{Body, Cells', Seq, Map, List as Listed, One, Made, Row_of-CellPat, end_of-CellPat, more_of-CellPat}
use Rattle.rule_terms.specs.Numbers.{has_number}
use Rattle.rule_terms.specs.Substitution.{Subst}
use Rattle.rule_terms.specs.Spots.{Spot, spots_in, row_spots, row_marks, number_of}
use Rattle.live_config.specs.Configuration.{Configuration, below}
use Rattle.live_config.specs.Firing.{further}
use Rattle.live_config.proofs.Members.{Apart, Leaves}
use Rattle.live_config.proofs.Numbering.{numbers_of-is}
use Rattle.live_config.proofs.Standing.{numbered}
use Rattle.site_laws.proofs.Walk.{CellFits, RestFits, InnerFits, RowFits}
use Rattle.site_laws.proofs.Apartness.{left_others}
use Rattle.site_laws.proofs.Numbered.{Marked, marked_first, marked_left, marked_right, marked_later, inner_length}

-- the rest of a body of cells stands for the cells with these numbers
abbrev pub OthersFit : Configuration → Subst → Body → List ℕ → Type 0
OthersFit c s (Cells' shape children rest) others = RestFits c s rest others
OthersFit c s _ others = Unit {0}

module _ (c : Configuration) (s : Subst) (sides : List Spot) (numbers : List ℕ) where
  abbrev number : ℕ → Option ℕ
  number = number_of sides numbers

  -- a cell of a pattern stands at this number
  pub record SpotFits (q : Spot) (m : ℕ) : Type 0 where
    pub fits : CellFits c s (option_and_then (number_of sides numbers) q.above) q.cell q.body m
    pub others : OthersFit c s q.body (further c sides numbers q.body m)

  -- each stands at its number
  abbrev pub AllFit : List Spot → List ℕ → Type 0
  AllFit [] [] = Unit {0}
  AllFit [] (_ ∷ _) = ⊥
  AllFit (_ ∷ _) [] = ⊥
  AllFit (q ∷ qs) (m ∷ ms) = SpotFits q m × AllFit qs ms

  all_joined : (ps qs : List Spot) (ns ms : List ℕ) → AllFit ps ns → AllFit qs ms → AllFit (ps ++ qs) (ns ++ ms)
  all_joined [] qs [] ms a b = b
  all_joined [] qs (n ∷ ns) ms a b = absurd a
  all_joined (p ∷ ps) qs [] ms a b = absurd a
  all_joined (p ∷ ps) qs (n ∷ ns) ms a b = (a.0, all_joined ps qs ns ms a.1 b)

  none_fit : (ns : List ℕ) → ns ≡ [] → AllFit [] ns
  none_fit [] e = tt
  none_fit (n ∷ ns) e = absurd (let f : n ∷ ns ≡ [] = e in cc)

  -- ---- the children that are left

  leaves_more : (mark m : ℕ) (others_marks : List ℕ) (ks before after others : List ℕ) → number mark ≡ Some m → ks ≡ before ++ m ∷ after
      → Leaves (numbered number others_marks) (before ++ after) others → Leaves (numbered number (mark ∷ others_marks)) ks others
  leaves_more mark m others_marks ks before after others is split leaves =
      let all : Leaves (m ∷ numbered number others_marks) ks others = (before, after, split, leaves) in
      subst (λ o. Leaves (elim o [ None ↦ numbered number others_marks | Some n ↦ n ∷ numbered number others_marks ]) ks others) (sym is) all

  row_leaves : {k : Count} (n above : ℕ) (row : Row_of-CellPat k) (ks others ns : List ℕ) → RowFits c s n row ks others ns
      → Marked number (row_spots above row) ns → Leaves (numbered number (row_marks row)) ks others
  unfolding RowFits row_spots
  row_leaves n above end_of-CellPat ks others ns fits marked = fits.0
  row_leaves n above (more_of-CellPat cell mark body cells) ks others ns (before, m, after, inner, rest, first, here, within, further) marked =
      let p : Spot = record { cell = cell; mark = mark; above = Some above; body = body } in
      let all : Marked number ((p ∷ spots_in mark body) ++ row_spots above cells) ((m ∷ inner) ++ rest) =
      subst (Marked number ((p ∷ spots_in mark body) ++ row_spots above cells)) first.numbers marked in
      let later = marked_later number p (spots_in mark body ++ row_spots above cells) m (inner ++ rest) all in
      leaves_more mark m (row_marks cells) ks before after others (marked_first number p (spots_in mark body ++ row_spots above cells) m (inner ++ rest) all) first.taken
      (row_leaves n above cells (before ++ after) others rest further
      (marked_right number (spots_in mark body) (row_spots above cells) inner rest (inner_length c s m mark body inner within) later))

  module _ (below_apart : (n : ℕ) → Apart (below c n)) where
    others_fit : (m mark : ℕ) (body : Body) (inner : List ℕ) → InnerFits c s m body inner → Marked number (spots_in mark body) inner
        → OthersFit c s body (further c sides numbers body m)
    unfolding InnerFits spots_in
    others_fit m mark (Cells' shape children rest) inner fits marked =
        let leaves = row_leaves m mark children (below c m) fits.0 inner fits.1 marked in
        let left : fits.0 ≡ filter (λ k. not (has_number (numbered number (row_marks children)) k)) (below c m) =
        left_others (numbered number (row_marks children)) (below c m) fits.0 leaves (below_apart m) in
        subst (RestFits c s rest) (left ∙ ap (λ ms. filter (λ k. not (has_number ms k)) (below c m)) (sym (numbers_of-is sides numbers (row_marks children)))) fits.2
    others_fit m mark (Seq parts rest) inner fits marked = tt
    others_fit m mark (Map entries rest) inner fits marked = tt
    others_fit m mark (Listed before rest after) inner fits marked = tt
    others_fit m mark (One p) inner fits marked = tt
    others_fit m mark (Made p) inner fits marked = tt

    pub spot_fits : (q : Spot) (up : Option ℕ) (m : ℕ) (inner : List ℕ) → up ≡ option_and_then number q.above
        → CellFits c s up q.cell q.body m → InnerFits c s m q.body inner → Marked number (spots_in q.mark q.body) inner → SpotFits q m
    spot_fits q up m inner is here within marked = record {
      fits = subst (λ o. CellFits c s o q.cell q.body m) is here;
      others = others_fit m q.mark q.body inner within marked;
    }

    mutual
      unfolding InnerFits RowFits spots_in row_spots

      pub inner_all : (m mark : ℕ) (body : Body) (inner : List ℕ) → number mark ≡ Some m → InnerFits c s m body inner
          → Marked number (spots_in mark body) inner → AllFit (spots_in mark body) inner
      inner_all m mark (Cells' shape children rest) inner is fits marked = row_all m mark children (below c m) fits.0 inner is fits.1 marked
      inner_all m mark (Seq parts rest) inner is fits marked = none_fit inner fits
      inner_all m mark (Map entries rest) inner is fits marked = none_fit inner fits
      inner_all m mark (Listed before rest after) inner is fits marked = none_fit inner fits
      inner_all m mark (One p) inner is fits marked = none_fit inner fits
      inner_all m mark (Made p) inner is fits marked = none_fit inner fits

      row_all : {k : Count} (n above : ℕ) (row : Row_of-CellPat k) (ks others ns : List ℕ) → number above ≡ Some n
          → RowFits c s n row ks others ns → Marked number (row_spots above row) ns → AllFit (row_spots above row) ns
      row_all n above end_of-CellPat ks others ns is fits marked = none_fit ns fits.1
      row_all n above (more_of-CellPat cell mark body cells) ks others ns is (before, m, after, inner, rest, first, here, within, further) marked =
          let p : Spot = record { cell = cell; mark = mark; above = Some above; body = body } in
          let mine = p ∷ spots_in mark body in
          let all : Marked number (mine ++ row_spots above cells) ((m ∷ inner) ++ rest) =
          subst (Marked number (mine ++ row_spots above cells)) first.numbers marked in
          let later = marked_later number p (spots_in mark body ++ row_spots above cells) m (inner ++ rest) all in
          let inside = marked_left number (spots_in mark body) (row_spots above cells) inner rest later in
          let numbered_is = marked_first number p (spots_in mark body ++ row_spots above cells) m (inner ++ rest) all in
          let here_fits = spot_fits p (Some n) m inner (sym is) here within inside in
          let inner_fit = inner_all m mark body inner numbered_is within inside in
          let rest_fit = row_all n above cells (before ++ after) others rest is further
          (marked_right number (spots_in mark body) (row_spots above cells) inner rest (inner_length c s m mark body inner within) later) in
          subst (AllFit (mine ++ row_spots above cells)) (sym first.numbers)
          (all_joined mine (row_spots above cells) (m ∷ inner) rest (here_fits, inner_fit) rest_fit)
