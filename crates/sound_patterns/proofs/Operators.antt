-- The builtin productions of a grammar for rules have sorts that have names.
use Rattle.std.proofs.Common.{◌≡◌, ◌⊎◌, inl, inr, ℕ, zero, suc, ◌+◌, ◌<◌, ◌≤◌, List, [], ◌∷◌, ◌++◌, map, length, Some, None, refl, subst, arith}
use Rattle.std.proofs.lemmas.Option.{slice_get_within}
use Rattle.std.specs.Prelude.{slice_get}
use Rattle.std.specs.List.{range_with_len}
use Rattle.k_terms.specs.declared.op.Op.{Op}
use Rattle.k_terms.specs.declared.op.Op.TheVariants.{MulInt, DivInt, ModInt, AddInt, SubInt, JoinString, LtInt, LeInt, GtInt, GeInt, EqInt, NeInt, EqK, NeK, InKeys, Not, And, Or, SetKey, GetKey, SizeMap, SizeList, LengthString, IntToString}
use Rattle.grammar_terms.specs.declared.builtin.Builtin.{Builtin}
use Rattle.grammar_terms.specs.declared.production.Production.{Production}
use Rattle.grammar_terms.specs.Builtins.{parentheses, operators, operator_form, placed, operator_prods, bracket_prods}
use Rattle.sound_patterns.proofs.Readings.{AreBelow}
use Rattle.sound_patterns.proofs.Sorts.{IsBelow}

-- ---- lists

-- an item of two lists is one of the first, or one of the second behind it
pub either_at : {X : Type 0} (xs ys : List X) (i : ℕ) (x : X) → slice_get (xs ++ ys) i ≡ Some x
    → ((i < length xs) × (slice_get xs i ≡ Some x)) ⊎ ((j : ℕ) × (i ≡ length xs + j) × (slice_get ys j ≡ Some x))
either_at [] ys i x e = inr (i, omega arith, e)
either_at (y ∷ xs) ys zero x e = inl (omega arith, e)
either_at (y ∷ xs) ys (suc i) x e = elim (either_at xs ys i x e) [
  | inl found ↦ let less = found.0 in inl (omega (arith, less), found.1)
  | inr found ↦ let place = found.1 in inr (found.0, omega (arith, place), found.2)
]

pub mapped_at : {X Y : Type 0} (f : X → Y) (xs : List X) (i : ℕ) (y : Y) → slice_get (map f xs) i ≡ Some y → (x : X) × (slice_get xs i ≡ Some x) × (f x ≡ y)
mapped_at f [] i y e = absurd (let g : None ≡ Some y = e in cc)
mapped_at f (x ∷ xs) zero y e = let same : f x ≡ y = cc in (x, refl, same)
mapped_at f (x ∷ xs) (suc i) y e = mapped_at f xs i y e

range_below : (a m i x : ℕ) → slice_get (range_with_len a m) i ≡ Some x → x < a + m
range_below a zero i x e = absurd (let f : None ≡ Some x = e in cc)
range_below a (suc m) zero x e = let same : a ≡ x = cc in omega (arith, same)
range_below a (suc m) (suc i) x e = let less : x < a + 1 + m = range_below (a + 1) m i x e in omega (arith, less)

-- ---- operators

module _ (n : ℕ) (some : 10 ≤ n) where
  abbrev AreLow : Op → Type 0
  AreLow op = (let form : Builtin = operator_form op in form.sort < n) × AreBelow n (let form : Builtin = operator_form op in form.items)

  binary_low : (sort own : ℕ) → sort < 10 → own < 10 → (own < n) × ((sort < n) × (Unit {0} × ((sort < n) × Unit {0})))
  binary_low sort own less also = (omega (arith, also, some), (omega (arith, less, some), (tt, (omega (arith, less, some), tt))))

  operator_low : (op : Op) → AreLow op
  operator_low MulInt = binary_low 3 3 (omega arith) (omega arith)
  operator_low DivInt = binary_low 3 3 (omega arith) (omega arith)
  operator_low ModInt = binary_low 3 3 (omega arith) (omega arith)
  operator_low AddInt = binary_low 3 3 (omega arith) (omega arith)
  operator_low SubInt = binary_low 3 3 (omega arith) (omega arith)
  operator_low JoinString = binary_low 5 5 (omega arith) (omega arith)
  operator_low LtInt = binary_low 3 4 (omega arith) (omega arith)
  operator_low LeInt = binary_low 3 4 (omega arith) (omega arith)
  operator_low GtInt = binary_low 3 4 (omega arith) (omega arith)
  operator_low GeInt = binary_low 3 4 (omega arith) (omega arith)
  operator_low EqInt = binary_low 3 4 (omega arith) (omega arith)
  operator_low NeInt = binary_low 3 4 (omega arith) (omega arith)
  operator_low EqK = binary_low 1 4 (omega arith) (omega arith)
  operator_low NeK = binary_low 1 4 (omega arith) (omega arith)
  operator_low InKeys = (omega (arith, some), (omega (arith, some), (tt, (tt, (tt, (omega (arith, some), (tt, tt)))))))
  operator_low Not = (omega (arith, some), (tt, (omega (arith, some), tt)))
  operator_low And = binary_low 4 4 (omega arith) (omega arith)
  operator_low Or = binary_low 4 4 (omega arith) (omega arith)
  operator_low SetKey = (omega (arith, some), (omega (arith, some), (tt, (omega (arith, some), (tt, (omega (arith, some), (tt, tt)))))))
  operator_low GetKey = (omega (arith, some), (omega (arith, some), (tt, (omega (arith, some), (tt, tt)))))
  operator_low SizeMap = (omega (arith, some), (tt, (tt, (omega (arith, some), (tt, tt)))))
  operator_low SizeList = (omega (arith, some), (tt, (tt, (omega (arith, some), (tt, tt)))))
  operator_low LengthString = (omega (arith, some), (tt, (tt, (omega (arith, some), (tt, tt)))))
  operator_low IntToString = (omega (arith, some), (tt, (tt, (omega (arith, some), (tt, tt)))))

  -- an operator's production: which one it is, and what it is
  pub record IsOperator (i : ℕ) (production : Production) : Type 0 where
    pub within : i < 24
    pub below : IsBelow n production
    pub plain : (sentence : ℕ) × (group : ℕ) × (op : Op) × (placed sentence group (operator_form op) ≡ production)

  pub operator_at : (sentence group i : ℕ) (production : Production) → slice_get (operator_prods sentence group) i ≡ Some production → IsOperator i production
  operator_at sentence group i production e =
      let found = mapped_at (λ op. placed sentence group (operator_form op)) operators i production e in
      let low = operator_low found.0 in
      let within : i < 24 = slice_get_within operators i found.0 found.1 in
      record {
        within = within;
        below = subst (IsBelow n) found.2 (record { sort = low.0; items = low.1 });
        plain = (sentence, group, found.0, found.2);
      }

  -- ---- parentheses

  pub record IsBracket (production : Production) : Type 0 where
    pub below : IsBelow n production
    pub plain : (sentence : ℕ) × (group : ℕ) × (sort : ℕ) × (placed sentence group (parentheses sort) ≡ production)

  pub bracket_at : (sentence group i : ℕ) (production : Production) → slice_get (bracket_prods sentence group n) i ≡ Some production → IsBracket production
  bracket_at sentence group i production e =
      let found = mapped_at (λ sort. placed sentence group (parentheses sort)) (range_with_len 0 n) i production e in
      let less : found.0 < 0 + n = range_below 0 n i found.0 found.1 in
      record {
        below = subst (IsBelow n) found.2 (record { sort = omega (arith, less); items = (tt, (omega (arith, less), (tt, tt))) });
        plain = (sentence, group, found.0, found.2);
      }
