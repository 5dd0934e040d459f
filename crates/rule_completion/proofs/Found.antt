-- Cells of a forest by their marks.
use Rattle.std.proofs.Common.{◌≡◌, ℕ, zero, suc, ◌+◌, ◌<◌, not, Bool, true, false, cond, ◌==◌, ◌||◌, List, [], ◌∷◌, ◌++◌, length, take, get_or, Option, Some, None, refl, sym, ap, ◌∙◌, arith}
use Rattle.std.proofs.Common.{Bor}
use Rattle.std.specs.Prelude.{is_some, option_copied}
use Rattle.std.specs.List.{flat_map}
use Rattle.std.proofs.lemmas.Bool.{eq-eqb, ne_eqb}
use Rattle.rule_terms.specs.declared.pattern.Body.{Body}
use Rattle.rule_terms.specs.declared.pattern.CellPat.{CellPat}
use Rattle.rule_terms.specs.Spots.{Spot, spots, spots_in, has_mark}
use Rattle.rule_terms.specs.CellCounts.{spots_under}
use Rattle.live_config.specs.Footprint.{body_of_mark}
use Rattle.strictness.specs.SoundDrafts.{spots_of}

-- what stands in the first of these cells with the mark, or else in the first of those
abbrev pub or_else : Option Body → Option Body → Option Body
or_else None other = other
or_else (Some body) other = Some body

found_in : (b : Bool) (body : Body) (rest other : Option Body) → cond b (Some body) (or_else rest other) ≡ or_else (cond b (Some body) rest) other
found_in true body rest other = refl
found_in false body rest other = refl

pub body_of_mark-append : (ps qs : List Spot) (mark : ℕ) → body_of_mark (ps ++ qs) mark ≡ or_else (body_of_mark ps mark) (body_of_mark qs mark)
body_of_mark-append [] qs mark = refl
body_of_mark-append (p ∷ ps) qs mark =
    ap (cond (p.mark == mark) (Some p.body)) (body_of_mark-append ps qs mark) ∙ found_in (p.mark == mark) p.body (body_of_mark ps mark) (body_of_mark qs mark)

-- the cell around has no part in it
under_or_not : (above mark : ℕ) (c : CellPat) → body_of_mark (spots_under above c) mark ≡ body_of_mark (spots c) mark
under_or_not above mark c = refl

pub forest_is : (above mark : ℕ) (cells : List CellPat) → body_of_mark (flat_map (spots_under above) cells) mark ≡ body_of_mark (spots_of cells) mark
forest_is above mark [] = refl
forest_is above mark (c ∷ cells) =
    body_of_mark-append (spots_under above c) (flat_map (spots_under above) cells) mark
    ∙ ap (or_else (body_of_mark (spots c) mark)) (forest_is above mark cells)
    ∙ sym (body_of_mark-append (spots c) (spots_of cells) mark)

-- it is found where it has the mark, and with a body where it stands in some cell
pub has_mark_found : (ps : List Spot) (mark : ℕ) → has_mark ps mark ≡ elim (body_of_mark ps mark) [ None ↦ false | Some body ↦ true ]
has_mark_found [] mark = refl
has_mark_found (p ∷ ps) mark =
    elim (p.mark == mark) as (λ b. (b || has_mark ps mark) ≡ elim (cond b (Some p.body) (body_of_mark ps mark)) [ None ↦ false | Some body ↦ true ]) [
      | true ↦ refl
      | false ↦ has_mark_found ps mark
    ]

-- ---- the first one

neither : (a b : Option Body) → or_else a b ≡ None → (a ≡ None) × (b ≡ None)
neither None b e = (refl, e)
neither (Some body) b e = absurd (let f : Some body ≡ None = e in cc)

none_of : (above mark : ℕ) (c : CellPat) → body_of_mark (spots_in c.mark c.body) mark ≡ None → (c.mark ≡ mark → ⊥) → body_of_mark (spots_under above c) mark ≡ None
none_of above mark c inside differ = ap (λ b. cond b (Some c.body) (body_of_mark (spots_in c.mark c.body) mark)) (ne_eqb c.mark mark differ) ∙ inside

pub is_outer : (above mark : ℕ) (c : CellPat) → c.mark ≡ mark → Some c.body ≡ body_of_mark (spots_under above c) mark
is_outer above mark c same = ap (λ b. cond b (Some c.body) (body_of_mark (spots_in c.mark c.body) mark)) (sym (eq-eqb c.mark mark same))

pub is_inside : (above mark : ℕ) (c : CellPat) (body : Body) → Some body ≡ body_of_mark (spots_in c.mark c.body) mark → (c.mark ≡ mark → ⊥)
    → Some body ≡ body_of_mark (spots_under above c) mark
is_inside above mark c body found differ = found ∙ ap (λ b. cond b (Some c.body) (body_of_mark (spots_in c.mark c.body) mark)) (sym (ne_eqb c.mark mark differ))

pub found_first : (above mark : ℕ) (cells : List CellPat) (i : ℕ) (c : CellPat) (body : Body) → i < length cells → c ≡ get_or cells i c
    → body_of_mark (flat_map (spots_under above) (take i cells)) mark ≡ None → Some body ≡ body_of_mark (spots_under above c) mark
    → Some body ≡ body_of_mark (flat_map (spots_under above) cells) mark
found_first above mark [] i c body less is none found = absurd (omega (arith, less))
found_first above mark (first ∷ cells) zero c body less is none found =
    ap (λ o. or_else o (body_of_mark (flat_map (spots_under above) cells) mark)) (found ∙ ap (λ d. body_of_mark (spots_under above d) mark) is)
    ∙ sym (body_of_mark-append (spots_under above first) (flat_map (spots_under above) cells) mark)
found_first above mark (first ∷ cells) (suc i) c body less is none found =
    let parts = neither (body_of_mark (spots_under above first) mark) (body_of_mark (flat_map (spots_under above) (take i cells)) mark)
    (sym (body_of_mark-append (spots_under above first) (flat_map (spots_under above) (take i cells)) mark) ∙ none) in
    found_first above mark cells i c body (omega (arith, less)) is parts.1 found
    ∙ ap (λ o. or_else o (body_of_mark (flat_map (spots_under above) cells) mark)) (sym parts.0)
    ∙ sym (body_of_mark-append (spots_under above first) (flat_map (spots_under above) cells) mark)

none_so_far : (above mark : ℕ) (cells : List CellPat) (i : ℕ) (c : CellPat) → i < length cells → c ≡ get_or cells i c
    → body_of_mark (flat_map (spots_under above) (take i cells)) mark ≡ None
    → body_of_mark (spots_in c.mark c.body) mark ≡ None → (c.mark ≡ mark → ⊥)
    → body_of_mark (flat_map (spots_under above) (take (suc i) cells)) mark ≡ None
none_so_far above mark [] i c less is none inside differ = absurd (omega (arith, less))
none_so_far above mark (first ∷ cells) zero c less is none inside differ =
    body_of_mark-append (spots_under above first) [] mark
    ∙ ap (λ o. or_else o None) (ap (λ d. body_of_mark (spots_under above d) mark) (sym is) ∙ none_of above mark c inside differ)
none_so_far above mark (first ∷ cells) (suc i) c less is none inside differ =
    let parts = neither (body_of_mark (spots_under above first) mark) (body_of_mark (flat_map (spots_under above) (take i cells)) mark)
    (sym (body_of_mark-append (spots_under above first) (flat_map (spots_under above) (take i cells)) mark) ∙ none) in
    body_of_mark-append (spots_under above first) (flat_map (spots_under above) (take (suc i) cells)) mark
    ∙ (λ j. or_else (parts.0 j) (none_so_far above mark cells i c (omega (arith, less)) is parts.1 inside differ j))

pub none_yet : (above mark : ℕ) (cells : List CellPat) (i : ℕ) (c : CellPat) → i < length cells → c ≡ get_or cells i c
    → body_of_mark (flat_map (spots_under above) (take i cells)) mark ≡ None
    → body_of_mark (spots_in c.mark c.body) mark ≡ None → (c.mark ≡ mark → ⊥)
    → body_of_mark (flat_map (spots_under above) (take (i + 1) cells)) mark ≡ None
none_yet above mark cells i c less is none inside differ =
    let next : i + 1 ≡ suc i = omega arith in
    ap (λ k. body_of_mark (flat_map (spots_under above) (take k cells)) mark) next ∙ none_so_far above mark cells i c less is none inside differ

back : (a b : Bool) → a ≡ not b → b ≡ not a
back a true e = ap not (sym e)
back a false e = ap not (sym e)

-- a cell is new where nothing of the left side has its mark
pub none_is_new : (ps : List Spot) (mark : ℕ) (found : Option Body) (some none : Bool) → found ≡ body_of_mark ps mark → some ≡ elim found [ None ↦ false | Some body ↦ true ] → some ≡ not none
    → none ≡ not (has_mark ps mark)
none_is_new ps mark found some none found_is some_is not_none =
    back some none not_none ∙ ap not (some_is ∙ ap (λ o. elim o [ None ↦ false | Some body ↦ true ]) found_is ∙ sym (has_mark_found ps mark))

pub is_found : (o : Option (Bor Body)) → is_some o ≡ elim (option_copied o) [ None ↦ false | Some body ↦ true ]
is_found None = refl
is_found (Some body) = refl
