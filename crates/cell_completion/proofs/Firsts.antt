-- The first one of the text for which something holds, and cells that stand in the ones that enclose them.
use Rattle.std.proofs.Common.{◌≡◌, inl, inr, ℕ, ◌+◌, ◌<◌, ◌≤◌, true, false, cond, List, [], ◌∷◌, ◌++◌, map, take, length, get_or, refl, sym, ap, ◌∙◌, subst, arith}
use Rattle.std.specs.Prelude.{Option, Some, None, Contains, nat_le}
use Rattle.std.proofs.lemmas.Bool.{leb-true, leb-false}
use Rattle.std.proofs.lemmas.List.{take_more, take_all}
use Rattle.rule_terms.specs.declared.defs.CellShape.{CellShape}
use Rattle.live_config.proofs.Members.{Has, has_left, has_right, has_either, contains-has, has-contains, different-apart}
use Rattle.cell_completion.specs.declared.tree.Written.{Written}
use Rattle.cell_completion.specs.Completion.{IsBelow, IsOutside}
use Rattle.cell_completion.specs.Listed.{AreWritten}
use Rattle.cell_completion.specs.Building.{earlier_of, IsFirstIn}
use Rattle.cell_completion.proofs.Completeness.{one_marked}

-- ---- the first one

module _ (P : Written → Type 0) where
  -- the same by members
  abbrev pub IsFirst : List Written → Option Written → Type 0
  IsFirst ws None = (w : Written) → Has ws w → P w → ⊥
  IsFirst ws (Some v) = Has ws v × P v × ((w : Written) → Has ws w → P w → v.mark ≤ w.mark)

  pub first_begins : (ws : List Written) → IsFirst (take 0 ws) None
  first_begins [] w h p = absurd h
  first_begins (v ∷ vs) w h p = absurd h

  skips : (ws : List Written) (x : Written) (o : Option Written) → IsFirst ws o → (P x → ⊥) → IsFirst (ws ++ x ∷ []) o
  skips ws x None none other = λ w h p.
      elim (has_either ws (x ∷ []) w h) [ inl g ↦ none w g p | inr g ↦ elim g [ inl e ↦ other (subst P (sym e) p) | inr nothing ↦ absurd nothing ] ]
  skips ws x (Some v) first other = (
    has_left ws (x ∷ []) v first.0,
    first.1,
    (λ w h p. elim (has_either ws (x ∷ []) w h) [ inl g ↦ first.2 w g p | inr g ↦ elim g [ inl e ↦ absurd (other (subst P (sym e) p)) | inr nothing ↦ absurd nothing ] ]),
  )

  takes : (ws : List Written) (x : Written) (o : Option Written) → IsFirst ws o → P x → IsFirst (ws ++ x ∷ []) (Some (earlier_of o x))
  takes ws x None none is = (
    has_right ws (x ∷ []) x (inl refl),
    is,
    (λ w h p. elim (has_either ws (x ∷ []) w h) [
      | inl g ↦ absurd (none w g p)
      | inr g ↦ elim g [ inl e ↦ let same : x.mark ≡ w.mark = ap (λ (u : Written). u.mark) e in omega (arith, same) | inr nothing ↦ absurd nothing ]
    ]),
  )
  takes ws x (Some v) first is =
      elim (nat_le v.mark x.mark) as (λ b. nat_le v.mark x.mark ≡ b → IsFirst (ws ++ x ∷ []) (Some (cond b v x))) [
        | true ↦ λ e. (
          has_left ws (x ∷ []) v first.0,
          first.1,
          (λ w h p. elim (has_either ws (x ∷ []) w h) [
            | inl g ↦ first.2 w g p
            | inr g ↦ elim g [
              | inl d ↦ let same : x.mark ≡ w.mark = ap (λ (u : Written). u.mark) d in let low = leb-true v.mark x.mark e in omega (arith, same, low)
              | inr nothing ↦ absurd nothing
            ]
          ]),
        )
        | false ↦ λ e. (
          has_right ws (x ∷ []) x (inl refl),
          is,
          (λ w h p. elim (has_either ws (x ∷ []) w h) [
            | inl g ↦ let low = first.2 w g p in let high = leb-false v.mark x.mark e in omega (arith, low, high)
            | inr g ↦ elim g [ inl d ↦ let same : x.mark ≡ w.mark = ap (λ (u : Written). u.mark) d in omega (arith, same) | inr nothing ↦ absurd nothing ]
          ]),
        )
      ] refl

  pub first_skips : (ws : List Written) (i : ℕ) (d : Written) (o : Option Written) → i < length ws → IsFirst (take i ws) o → (P (get_or ws i d) → ⊥) → IsFirst (take (i + 1) ws) o
  first_skips ws i d o less first other = subst (λ vs. IsFirst vs o) (sym (take_more ws i d less)) (skips (take i ws) (get_or ws i d) o first other)

  pub first_takes : (ws : List Written) (i : ℕ) (d : Written) (o : Option Written) → i < length ws → IsFirst (take i ws) o → P (get_or ws i d)
      → IsFirst (take (i + 1) ws) (Some (earlier_of o (get_or ws i d)))
  first_takes ws i d o less first is =
      subst (λ vs. IsFirst vs (Some (earlier_of o (get_or ws i d)))) (sym (take_more ws i d less)) (takes (take i ws) (get_or ws i d) o first is)

  pub first_ends : (ws : List Written) (i : ℕ) (o : Option Written) → length ws ≤ i → IsFirst (take i ws) o → IsFirstIn P ws o
  first_ends ws i None past first = λ w h p. first w (subst (λ vs. Has vs w) (sym (take_all i ws past)) (contains-has ws w h)) p
  first_ends ws i (Some v) past first = (
    has-contains ws v (subst (λ vs. Has vs v) (take_all i ws past) first.0),
    first.1,
    (λ w h p. first.2 w (subst (λ vs. Has vs w) (sym (take_all i ws past)) (contains-has ws w h)) p),
  )

-- ---- cells in the ones that enclose them

pub is_inside_of : (shapes : List CellShape) (ws : List Written) → AreWritten shapes ws → (w outer : Written) (mark : ℕ) → w.above ≡ Some mark → Contains ws outer → outer.mark ≡ mark
    → IsBelow shapes outer.cell w.cell → IsOutside shapes ws w → ⊥
is_inside_of shapes ws written w outer mark above has same below o =
    let marks : Some o.outer.mark ≡ Some mark = sym o.encloses ∙ above in
    let one : o.outer.mark ≡ mark = cc in
    let is : o.outer ≡ outer = one_marked ws (different-apart (map (λ (v : Written). v.mark) ws) written.different) o.outer outer (contains-has ws o.outer o.is) (contains-has ws outer has) (one ∙ sym same) in
    o.outside (subst (λ (v : Written). IsBelow shapes v.cell w.cell) (sym is) below)

pub not_enclosed : (shapes : List CellShape) (ws : List Written) (w : Written) → w.above ≡ None → IsOutside shapes ws w → ⊥
not_enclosed shapes ws w alone o = let f : None ≡ Some o.outer.mark = sym alone ∙ o.encloses in cc

-- one that encloses a cell is among the written ones
pub is_enclosed_by : (shapes : List CellShape) (ws : List Written) → (w : Written) (mark : ℕ) → w.above ≡ Some mark
    → ((v : Written) → Contains ws v → v.mark ≡ mark → ⊥) → IsOutside shapes ws w → ⊥
is_enclosed_by shapes ws w mark above none o =
    let marks : Some o.outer.mark ≡ Some mark = sym o.encloses ∙ above in
    let one : o.outer.mark ≡ mark = cc in
    none o.outer o.is one
