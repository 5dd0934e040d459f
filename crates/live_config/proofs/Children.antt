-- The cells of a configuration by their numbers, and the children of a cell.
use Rattle.std.proofs.Common.{arith, inl, inr, ◌⊎◌, ◌≡◌, ℕ, ◌<◌, Bool, true, false, ◌==◌, List, [], ◌∷◌, map, filter, Some, None, cond, refl, sym, ap, subst, ◌∙◌}
use Rattle.std.specs.Prelude.{unwrap_or}
use Rattle.std.proofs.lemmas.Bool.{eqb-true, eq-eqb, and_parts, cases_Bool}
use Rattle.std.specs.declared.cmp.Ordering.{Ordering}
use Rattle.std.specs.declared.cmp.Ordering.TheVariants.{Less, Equal, Greater}
use Rattle.std.specs.Ordering.{nat_cmp, eq_by_cmp, is_lt, is_eq}
use Rattle.std.specs.Cmp.{nat_cmp_is}
use Rattle.std.specs.FinMap.{find, is_sorted}
use Rattle.std.specs.FinMap.Entries.{below_all}
use Rattle.std.proofs.lemmas.Cmp.{ranked}
use Rattle.live_config.specs.declared.cell.Cell.{Cell}
use Rattle.live_config.specs.Configuration.{Configuration, cell_at, parent_number, is_child_of, below}
use Rattle.live_config.proofs.Fitting.{same_number}
use Rattle.live_config.proofs.Members.{Has, has_map, map_has, kept, keeps, Rises}

pub same_key : (n m : ℕ) → n ≡ m → eq_by_cmp nat_cmp n m ≡ true
same_key n m e = ap is_eq (sym (nat_cmp_is n m Equal e))

pub other_key : (n m : ℕ) → (n ≡ m → ⊥) → eq_by_cmp nat_cmp n m ≡ false
other_key n m d = elim (cases_Bool (eq_by_cmp nat_cmp n m)) [ inl t ↦ absurd (d (same_number n m t)) | inr f ↦ f ]

is_less : (o : Ordering) → is_lt o ≡ true → o ≡ Less
is_less Less e = refl
is_less Equal e = absurd (let f : false ≡ true = e in cc)
is_less Greater e = absurd (let f : false ≡ true = e in cc)

lower : (n m : ℕ) → is_lt (nat_cmp n m) ≡ true → n < m
lower n m e = ranked n m Less (sym (is_less (nat_cmp n m) e))

module _ {X : Type 0} where
  pub found_has : (es : List (ℕ × X)) (n : ℕ) (x : X) → find nat_cmp n es ≡ Some x → Has es (n, x)
  found_has [] n x e = absurd (let f : None ≡ Some x = e in cc)
  found_has (e ∷ es) n x found =
      elim (eq_by_cmp nat_cmp n e.0) as (λ b. eq_by_cmp nat_cmp n e.0 ≡ b → cond b (Some e.1) (find nat_cmp n es) ≡ Some x → (e ≡ (n, x)) ⊎ Has es (n, x)) [
        | true ↦ λ t s. inl (λ i. (sym (same_number n e.0 t) i, ap (λ o. unwrap_or o e.1) s i))
        | false ↦ λ _ s. inr (found_has es n x s)
      ] refl found

  numbers_above : (n : ℕ) (es : List (ℕ × X)) → below_all nat_cmp n es ≡ true → (m : ℕ) → Has (map (λ e. e.0) es) m → n < m
  numbers_above n [] e m h = absurd h
  numbers_above n (f ∷ es) e m (inl s) = subst (λ k. n < k) s (lower n f.0 (and_parts _ _ e).0)
  numbers_above n (f ∷ es) e m (inr h) = numbers_above n es (and_parts (is_lt (nat_cmp n f.0)) (below_all nat_cmp n es) e).1 m h

  pub numbers_rise : (es : List (ℕ × X)) → is_sorted nat_cmp es ≡ true → Rises (map (λ e. e.0) es)
  numbers_rise [] e = tt
  numbers_rise (f ∷ es) e =
      let p = and_parts (below_all nat_cmp f.0 es) (is_sorted nat_cmp es) e in
      (numbers_above f.0 es p.0, numbers_rise es p.1)

  pub has_found : (es : List (ℕ × X)) (e : ℕ × X) → Rises (map (λ e. e.0) es) → Has es e → find nat_cmp e.0 es ≡ Some e.1
  has_found [] e r h = absurd h
  has_found (f ∷ es) e r (inl s) = rw (same_key e.0 f.0 (ap (λ p. p.0) (sym s))) (ap (λ p. Some p.1) s)
  has_found (f ∷ es) e r (inr h) =
      let low : f.0 < e.0 = r.0 e.0 (has_map (λ e. e.0) es e h) in
      rw (other_key e.0 f.0 (λ s. omega (arith, low, s))) (has_found es e r.1 h)

  pub filter_rises : (p : ℕ × X → Bool) (es : List (ℕ × X)) → Rises (map (λ e. e.0) es) → Rises (map (λ e. e.0) (filter p es))
  filter_rises p [] r = tt
  filter_rises p (e ∷ es) r =
      elim (p e) as (λ b. Rises (map (λ e. e.0) (cond b (e ∷ filter p es) (filter p es)))) [
        | true ↦ ((λ m h. r.0 m (let g = map_has (λ e. e.0) (filter p es) m h in subst (Has (map (λ e. e.0) es)) g.2 (has_map (λ e. e.0) es g.0 (kept p es g.0 g.1).0))), filter_rises p es r.1)
        | false ↦ filter_rises p es r.1
      ]

-- ---- the children of a cell

child_parent : (n : ℕ) (cell : Cell) → is_child_of n cell ≡ true → parent_number cell ≡ Some n
child_parent n cell e =
    elim (parent_number cell) as (λ o. elim o [ None ↦ false | Some m ↦ m == n ] ≡ true → o ≡ Some n) [
      | None ↦ λ f. absurd (let g : false ≡ true = f in cc)
      | Some m ↦ λ f. ap Some (eqb-true m n f)
    ] e

parent_child : (n : ℕ) (cell : Cell) → parent_number cell ≡ Some n → is_child_of n cell ≡ true
parent_child n cell e = ap (λ o. elim o [ None ↦ false | Some m ↦ m == n ]) e ∙ eq-eqb n n refl

-- a cell with this number, whose parent is that one
pub record IsChild (c : Configuration) (n m : ℕ) : Type 0 where
  pub cell : Cell
  pub there : cell_at c m ≡ Some cell
  pub parent : parent_number cell ≡ Some n

pub child_below : (c : Configuration) (n m : ℕ) → IsChild c n m → Has (below c n) m
child_below c n m child =
    has_map (λ e. e.0) (filter (λ e. is_child_of n e.1) c.cells) (m, child.cell)
    (keeps (λ e. is_child_of n e.1) c.cells (m, child.cell) (found_has c.cells m child.cell child.there) (parent_child n child.cell child.parent))

pub below_child : (c : Configuration) → is_sorted nat_cmp c.cells ≡ true → (n m : ℕ) → Has (below c n) m → IsChild c n m
below_child c sorted n m h =
    let g = map_has (λ e. e.0) (filter (λ e. is_child_of n e.1) c.cells) m h in
    let k = kept (λ e. is_child_of n e.1) c.cells g.0 g.1 in
    record {
      cell = g.0.1;
      there = subst (λ j. cell_at c j ≡ Some g.0.1) g.2 (has_found c.cells g.0 (numbers_rise c.cells sorted) k.0);
      parent = child_parent n g.0.1 k.1;
    }

pub below_rises : (c : Configuration) → is_sorted nat_cmp c.cells ≡ true → (n : ℕ) → Rises (below c n)
below_rises c sorted n = filter_rises (λ e. is_child_of n e.1) c.cells (numbers_rise c.cells sorted)
