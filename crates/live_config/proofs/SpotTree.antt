-- The cells of a side as a tree: each but the outermost stands directly in another one of the side.
use Rattle.std.proofs.Common.{inl, inr, ◌⊎◌, ◌≡◌, ℕ, List, [], ◌∷◌, ◌++◌, map, Some, None, refl, sym, ap, subst, ◌∙◌}
use Rattle.std.proofs.lemmas.List.{map-append}
use mathlib.Core.Former.{Count}
use Rattle.rule_terms.specs.declared.pattern.Body.{Body, Cells', Seq, Map, List as Listed, One, Made, Row_of-CellPat, end_of-CellPat, more_of-CellPat}
use Rattle.rule_terms.specs.declared.pattern.CellPat.{CellPat}
use Rattle.rule_terms.specs.Spots.{Spot, spots, spots_in, row_spots, row_marks, child_marks}
use Rattle.live_config.proofs.Members.{Has, has_left, has_right, has_either, has_map, Apart}

abbrev pub marks : List Spot → List ℕ
marks ps = map (λ (p : Spot). p.mark) ps

-- a cell of a side stands directly in another one of these
pub record StandsIn (ps : List Spot) (q : Spot) : Type 0 where
  pub outer : Spot
  pub there : Has ps outer
  pub above : q.above ≡ Some outer.mark
  pub child : Has (child_marks outer.body) q.mark

wider : (ps qs : List Spot) (q : Spot) → ((p : Spot) → Has ps p → Has qs p) → StandsIn ps q → StandsIn qs q
wider ps qs q more s = record { outer = s.outer; there = more s.outer s.there; above = s.above; child = s.child }

-- it stands directly in the cell with this mark, or in another one of these
abbrev Lies : ℕ → List ℕ → List Spot → Spot → Type 0
Lies above children ps q = ((q.above ≡ Some above) × Has children q.mark) ⊎ StandsIn ps q

abbrev spot_of : ℕ → ℕ → ℕ → Body → Spot
spot_of above cell mark body = record { cell = cell; mark = mark; above = Some above; body = body }

mutual
  unfolding spots_in row_spots

  lies : (above : ℕ) (body : Body) (q : Spot) → Has (spots_in above body) q → Lies above (child_marks body) (spots_in above body) q
  lies above (Cells' shape children rest) q h = row_lies above children q h
  lies above (Seq parts rest) q h = absurd h
  lies above (Map entries rest) q h = absurd h
  lies above (Listed before rest after) q h = absurd h
  lies above (One p) q h = absurd h
  lies above (Made p) q h = absurd h

  row_lies : {n : Count} (above : ℕ) (row : Row_of-CellPat n) (q : Spot) → Has (row_spots above row) q → Lies above (row_marks row) (row_spots above row) q
  row_lies above end_of-CellPat q h = absurd h
  row_lies above (more_of-CellPat cell mark body cells) q h =
      let mine = spot_of above cell mark body ∷ spots_in mark body in
      elim (has_either mine (row_spots above cells) q h) [
        | inl (inl e) ↦ inl (ap (λ (p : Spot). p.above) (sym e), inl (ap (λ (p : Spot). p.mark) e))
        | inl (inr g) ↦ elim (lies mark body q g) [
          | inl s ↦ inr (record { outer = spot_of above cell mark body; there = inl refl; above = s.0; child = s.1 })
          | inr s ↦ inr (wider (spots_in mark body) (mine ++ row_spots above cells) q (λ p k. has_left mine (row_spots above cells) p (inr k)) s)
        ]
        | inr g ↦ elim (row_lies above cells q g) [
          | inl s ↦ inl (s.0, inr s.1)
          | inr s ↦ inr (wider (row_spots above cells) (mine ++ row_spots above cells) q (has_right mine (row_spots above cells)) s)
        ]
      ]

abbrev pub outermost : CellPat → Spot
outermost p = record { cell = p.cell; mark = p.mark; above = None; body = p.body }

pub spot_stands : (p : CellPat) (q : Spot) → Has (spots p) q → (outermost p ≡ q) ⊎ StandsIn (spots p) q
spot_stands p q (inl e) = inl e
spot_stands p q (inr h) = elim (lies p.mark p.body q h) [
  | inl s ↦ inr (record { outer = outermost p; there = inl refl; above = s.0; child = s.1 })
  | inr s ↦ inr (wider (spots_in p.mark p.body) (spots p) q (λ x k. inr k) s)
]

-- ---- the cells that stand directly in a cell

-- a cell of these that stands directly in the cell with this mark
pub record StandsUnder (ps : List Spot) (above mark : ℕ) : Type 0 where
  pub inner : Spot
  pub there : Has ps inner
  pub mark_is : inner.mark ≡ mark
  pub above_is : inner.above ≡ Some above

more_under : (ps qs : List Spot) (above mark : ℕ) → ((p : Spot) → Has ps p → Has qs p) → StandsUnder ps above mark → StandsUnder qs above mark
more_under ps qs above mark more s = record { inner = s.inner; there = more s.inner s.there; mark_is = s.mark_is; above_is = s.above_is }

row_children : {n : Count} (above : ℕ) (row : Row_of-CellPat n) (mark : ℕ) → Has (row_marks row) mark → StandsUnder (row_spots above row) above mark
unfolding row_spots
row_children above end_of-CellPat mark h = absurd h
row_children above (more_of-CellPat cell m body cells) mark (inl e) =
    record { inner = spot_of above cell m body; there = inl refl; mark_is = e; above_is = refl }
row_children above (more_of-CellPat cell m body cells) mark (inr h) =
    more_under (row_spots above cells) (row_spots above (more_of-CellPat cell m body cells)) above mark
    (has_right (spot_of above cell m body ∷ spots_in m body) (row_spots above cells)) (row_children above cells mark h)

body_children : (above : ℕ) (body : Body) (mark : ℕ) → Has (child_marks body) mark → StandsUnder (spots_in above body) above mark
unfolding spots_in
body_children above (Cells' shape children rest) mark h = row_children above children mark h
body_children above (Seq parts rest) mark h = absurd h
body_children above (Map entries rest) mark h = absurd h
body_children above (Listed before rest after) mark h = absurd h
body_children above (One p) mark h = absurd h
body_children above (Made p) mark h = absurd h

-- what stands in a cell of a side is of the side
mutual
  unfolding spots_in row_spots

  within_body : (above : ℕ) (body : Body) (p q : Spot) → Has (spots_in above body) p → Has (spots_in p.mark p.body) q → Has (spots_in above body) q
  within_body above (Cells' shape children rest) p q h k = within_row above children p q h k
  within_body above (Seq parts rest) p q h k = absurd h
  within_body above (Map entries rest) p q h k = absurd h
  within_body above (Listed before rest after) p q h k = absurd h
  within_body above (One e) p q h k = absurd h
  within_body above (Made e) p q h k = absurd h

  within_row : {n : Count} (above : ℕ) (row : Row_of-CellPat n) (p q : Spot) → Has (row_spots above row) p → Has (spots_in p.mark p.body) q → Has (row_spots above row) q
  within_row above end_of-CellPat p q h k = absurd h
  within_row above (more_of-CellPat cell mark body cells) p q h k =
      let mine = spot_of above cell mark body ∷ spots_in mark body in
      elim (has_either mine (row_spots above cells) p h) [
        | inl (inl e) ↦ has_left mine (row_spots above cells) q (inr (subst (λ (x : Spot). Has (spots_in x.mark x.body) q) (sym e) k))
        | inl (inr g) ↦ has_left mine (row_spots above cells) q (inr (within_body mark body p q g k))
        | inr g ↦ has_right mine (row_spots above cells) q (within_row above cells p q g k)
      ]

pub within_side : (side : CellPat) (p q : Spot) → Has (spots side) p → Has (spots_in p.mark p.body) q → Has (spots side) q
within_side side p q (inl e) k = inr (subst (λ (x : Spot). Has (spots_in x.mark x.body) q) (sym e) k)
within_side side p q (inr h) k = inr (within_body side.mark side.body p q h k)

pub spot_children : (side : CellPat) (p : Spot) → Has (spots side) p → (mark : ℕ) → Has (child_marks p.body) mark → StandsUnder (spots side) p.mark mark
spot_children side p h mark child =
    more_under (spots_in p.mark p.body) (spots side) p.mark mark (λ q k. within_side side p q h k) (body_children p.mark p.body mark child)

-- ---- the marks of a side differ, so those in one cell do

pub apart_left : (ns ms : List ℕ) → Apart (ns ++ ms) → Apart ns
apart_left [] ms a = tt
apart_left (n ∷ ns) ms a = ((λ h. a.0 (has_left ns ms n h)), apart_left ns ms a.1)

pub apart_right : (ns ms : List ℕ) → Apart (ns ++ ms) → Apart ms
apart_right [] ms a = a
apart_right (n ∷ ns) ms a = apart_right ns ms a.1

apart_parts : (ps qs : List Spot) → Apart (marks (ps ++ qs)) → Apart (marks ps ++ marks qs)
apart_parts ps qs a = subst Apart (map-append (λ (p : Spot). p.mark) ps qs) a

under_mark : (ps : List Spot) (above mark : ℕ) → StandsUnder ps above mark → Has (marks ps) mark
under_mark ps above mark s = subst (Has (marks ps)) s.mark_is (has_map (λ (p : Spot). p.mark) ps s.inner s.there)

row_apart : {n : Count} (above : ℕ) (row : Row_of-CellPat n) → Apart (marks (row_spots above row)) → Apart (row_marks row)
unfolding row_spots
row_apart above end_of-CellPat a = tt
row_apart above (more_of-CellPat cell mark body cells) a =
    let mine = spot_of above cell mark body ∷ spots_in mark body in
    let parts = apart_parts mine (row_spots above cells) a in (
      (λ h. parts.0 (has_right (marks (spots_in mark body)) (marks (row_spots above cells)) mark (under_mark (row_spots above cells) above mark (row_children above cells mark h)))),
      row_apart above cells (apart_right (marks mine) (marks (row_spots above cells)) parts),
    )

body_apart : (above : ℕ) (body : Body) → Apart (marks (spots_in above body)) → Apart (child_marks body)
unfolding spots_in
body_apart above (Cells' shape children rest) a = row_apart above children a
body_apart above (Seq parts rest) a = tt
body_apart above (Map entries rest) a = tt
body_apart above (Listed before rest after) a = tt
body_apart above (One p) a = tt
body_apart above (Made p) a = tt

mutual
  unfolding spots_in row_spots

  inner_apart : (above : ℕ) (body : Body) (p : Spot) → Has (spots_in above body) p → Apart (marks (spots_in above body)) → Apart (marks (spots_in p.mark p.body))
  inner_apart above (Cells' shape children rest) p h a = inner_row_apart above children p h a
  inner_apart above (Seq parts rest) p h a = absurd h
  inner_apart above (Map entries rest) p h a = absurd h
  inner_apart above (Listed before rest after) p h a = absurd h
  inner_apart above (One e) p h a = absurd h
  inner_apart above (Made e) p h a = absurd h

  inner_row_apart : {n : Count} (above : ℕ) (row : Row_of-CellPat n) (p : Spot) → Has (row_spots above row) p → Apart (marks (row_spots above row)) → Apart (marks (spots_in p.mark p.body))
  inner_row_apart above end_of-CellPat p h a = absurd h
  inner_row_apart above (more_of-CellPat cell mark body cells) p h a =
      let mine = spot_of above cell mark body ∷ spots_in mark body in
      let parts = apart_parts mine (row_spots above cells) a in
      elim (has_either mine (row_spots above cells) p h) [
        | inl (inl e) ↦ subst (λ (x : Spot). Apart (marks (spots_in x.mark x.body))) e (apart_left (marks mine) (marks (row_spots above cells)) parts).1
        | inl (inr g) ↦ inner_apart mark body p g (apart_left (marks mine) (marks (row_spots above cells)) parts).1
        | inr g ↦ inner_row_apart above cells p g (apart_right (marks mine) (marks (row_spots above cells)) parts)
      ]

pub children_apart : (side : CellPat) → Apart (marks (spots side)) → (p : Spot) → Has (spots side) p → Apart (child_marks p.body)
children_apart side a p (inl e) = subst (λ (x : Spot). Apart (child_marks x.body)) e (body_apart side.mark side.body a.1)
children_apart side a p (inr h) = body_apart p.mark p.body (inner_apart side.mark side.body p h a.1)

-- cells with the same mark are the same
pub same_spot : (ps : List Spot) → Apart (marks ps) → (p q : Spot) → Has ps p → Has ps q → p.mark ≡ q.mark → p ≡ q
same_spot [] a p q h k e = absurd h
same_spot (x ∷ ps) a p q (inl s) (inl t) e = sym s ∙ t
same_spot (x ∷ ps) a p q (inl s) (inr k) e = absurd (a.0 (subst (Has (marks ps)) (sym e ∙ ap (λ (y : Spot). y.mark) (sym s)) (has_map (λ (y : Spot). y.mark) ps q k)))
same_spot (x ∷ ps) a p q (inr h) (inl t) e = absurd (a.0 (subst (Has (marks ps)) (e ∙ ap (λ (y : Spot). y.mark) (sym t)) (has_map (λ (y : Spot). y.mark) ps p h)))
same_spot (x ∷ ps) a p q (inr h) (inr k) e = same_spot ps a.1 p q h k e
