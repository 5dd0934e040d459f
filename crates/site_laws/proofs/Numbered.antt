-- The numbers that stand beside the cells of a side: by their marks, and in joined lists.
use Rattle.std.proofs.Common.{arith, ◌≡◌, inl, inr, ◌⊎◌, ℕ, suc, ◌+◌, List, [], ◌∷◌, ◌++◌, length, Option, Some, refl, sym, ap, subst, ◌∙◌}
use Rattle.std.proofs.lemmas.List.{length-append}
use Rattle.std.proofs.lemmas.Bool.{eq-eqb}
use mathlib.Core.Former.{Count}
use Rattle.rule_terms.specs.declared.pattern.Body.{Body, Cells', Seq, Map, List as Listed, One, Made, Row_of-CellPat, end_of-CellPat, more_of-CellPat}
use Rattle.rule_terms.specs.Substitution.{Subst}
use Rattle.rule_terms.specs.Spots.{Spot, spots_in, row_spots, number_of}
use Rattle.live_config.specs.Configuration.{Configuration, below}
use Rattle.live_config.proofs.Members.{Has, has_map, Apart}
use Rattle.live_config.proofs.Numbering.{number_later}
use Rattle.live_config.proofs.SpotTree.{marks}
use Rattle.site_laws.proofs.Walk.{InnerFits, RowFits}

-- the number stands beside the cell
abbrev pub Beside : List Spot → List ℕ → Spot → ℕ → Type 0
Beside [] ns q k = ⊥
Beside (p ∷ ps) [] q k = ⊥
Beside (p ∷ ps) (n ∷ ns) q k = ((p ≡ q) × (n ≡ k)) ⊎ Beside ps ns q k

pub beside_has : (ps : List Spot) (ns : List ℕ) (q : Spot) (k : ℕ) → Beside ps ns q k → Has ps q
beside_has [] ns q k b = absurd b
beside_has (p ∷ ps) [] q k b = absurd b
beside_has (p ∷ ps) (n ∷ ns) q k (inl e) = inl e.0
beside_has (p ∷ ps) (n ∷ ns) q k (inr b) = inr (beside_has ps ns q k b)

pub beside_left : (ps qs : List Spot) (ns ms : List ℕ) (q : Spot) (k : ℕ) → Beside ps ns q k → Beside (ps ++ qs) (ns ++ ms) q k
beside_left [] qs ns ms q k b = absurd b
beside_left (p ∷ ps) qs [] ms q k b = absurd b
beside_left (p ∷ ps) qs (n ∷ ns) ms q k (inl e) = inl e
beside_left (p ∷ ps) qs (n ∷ ns) ms q k (inr b) = inr (beside_left ps qs ns ms q k b)

pub beside_right : (ps qs : List Spot) (ns ms : List ℕ) (q : Spot) (k : ℕ) → length ps ≡ length ns → Beside qs ms q k → Beside (ps ++ qs) (ns ++ ms) q k
beside_right [] qs [] ms q k e b = b
beside_right [] qs (n ∷ ns) ms q k e b = absurd (omega (arith, e))
beside_right (p ∷ ps) qs [] ms q k e b = absurd (omega (arith, e))
beside_right (p ∷ ps) qs (n ∷ ns) ms q k e b = inr (beside_right ps qs ns ms q k (omega (arith, e)) b)

number_first : (p : Spot) (ps : List Spot) (n : ℕ) (ns : List ℕ) → number_of (p ∷ ps) (n ∷ ns) p.mark ≡ Some n
number_first p ps n ns = rw (eq-eqb p.mark p.mark refl) refl

-- where the marks are all different, the number beside a cell is that of its mark
pub beside_number : (ps : List Spot) (ns : List ℕ) → Apart (marks ps) → (q : Spot) (k : ℕ) → Beside ps ns q k → number_of ps ns q.mark ≡ Some k
beside_number [] ns apart q k b = absurd b
beside_number (p ∷ ps) [] apart q k b = absurd b
beside_number (p ∷ ps) (n ∷ ns) apart q k (inl e) =
    ap (λ (x : Spot). number_of (p ∷ ps) (n ∷ ns) x.mark) (sym e.0) ∙ number_first p ps n ns ∙ ap Some e.1
beside_number (p ∷ ps) (n ∷ ns) apart q k (inr b) =
    number_later p ps n ns q.mark (λ e. apart.0 (subst (Has (marks ps)) (sym e) (has_map (λ (x : Spot). x.mark) ps q (beside_has ps ns q k b))))
    ∙ beside_number ps ns apart.1 q k b

-- ---- each cell has the number beside it

abbrev pub Marked : (ℕ → Option ℕ) → List Spot → List ℕ → Type 0
Marked number ps ns = (q : Spot) (k : ℕ) → Beside ps ns q k → number q.mark ≡ Some k

pub marked_first : (number : ℕ → Option ℕ) (p : Spot) (ps : List Spot) (n : ℕ) (ns : List ℕ) → Marked number (p ∷ ps) (n ∷ ns) → number p.mark ≡ Some n
marked_first number p ps n ns marked = marked p n (inl (refl, refl))

pub marked_left : (number : ℕ → Option ℕ) (ps qs : List Spot) (ns ms : List ℕ) → Marked number (ps ++ qs) (ns ++ ms) → Marked number ps ns
marked_left number ps qs ns ms marked q k b = marked q k (beside_left ps qs ns ms q k b)

pub marked_right : (number : ℕ → Option ℕ) (ps qs : List Spot) (ns ms : List ℕ) → length ps ≡ length ns
    → Marked number (ps ++ qs) (ns ++ ms) → Marked number qs ms
marked_right number ps qs ns ms same marked q k b = marked q k (beside_right ps qs ns ms q k same b)

pub marked_later : (number : ℕ → Option ℕ) (p : Spot) (ps : List Spot) (n : ℕ) (ns : List ℕ) → Marked number (p ∷ ps) (n ∷ ns) → Marked number ps ns
marked_later number p ps n ns marked q k b = marked q k (inr b)

-- ---- there are as many numbers as cells

none_length : (ns : List ℕ) → ns ≡ [] → 0 ≡ length ns
none_length ns e = ap length (sym e)

module _ (c : Configuration) (s : Subst) where
  mutual
    unfolding InnerFits RowFits spots_in row_spots

    pub inner_length : (n mark : ℕ) (body : Body) (ns : List ℕ) → InnerFits c s n body ns → length (spots_in mark body) ≡ length ns
    inner_length n mark (Cells' shape children rest) ns fits = row_length n mark children (below c n) fits.0 ns fits.1
    inner_length n mark (Seq parts rest) ns fits = none_length ns fits
    inner_length n mark (Map entries rest) ns fits = none_length ns fits
    inner_length n mark (Listed before rest after) ns fits = none_length ns fits
    inner_length n mark (One p) ns fits = none_length ns fits
    inner_length n mark (Made p) ns fits = none_length ns fits

    pub row_length : {k : Count} (n above : ℕ) (row : Row_of-CellPat k) (ks others ns : List ℕ) → RowFits c s n row ks others ns
        → length (row_spots above row) ≡ length ns
    row_length n above end_of-CellPat ks others ns fits = none_length ns fits.1
    row_length n above (more_of-CellPat cell mark body cells) ks others ns (before, m, after, inner, rest, first, here, within, further) =
        let a : length (spots_in mark body) ≡ length inner = inner_length m mark body inner within in
        let b : length (row_spots above cells) ≡ length rest = row_length n above cells (before ++ after) others rest further in
        ap suc (length-append (spots_in mark body) (row_spots above cells) ∙ (λ i. a i + b i) ∙ sym (length-append inner rest)) ∙ ap length (sym first.numbers)
