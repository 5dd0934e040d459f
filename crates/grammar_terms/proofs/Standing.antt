-- Where the builtin productions stand.
use Rattle.std.proofs.Common.{ℕ, zero, suc, ◌≡◌, ◌+◌, ◌-◌, ◌≤◌, inl, inr, Bool, true, false, true≢false, ◌&&◌, cond, List, [], ◌∷◌, ◌++◌, length, Option, Some, None, option_map, slice_get, refl, sym, ap, ◌∙◌, arith}
use Rattle.std.specs.Prelude.{◌==◌, nat_lt, nat_le}
use Rattle.std.proofs.lemmas.Bool.{cases_lt}
use Rattle.std.proofs.lemmas.Bool.Decides.{nat_tests}
use Rattle.std.proofs.lemmas.List.{length-take}
use Rattle.std.proofs.lemmas.Option.{slice_get-map}
use Rattle.k_terms.specs.declared.op.Op.{Op}
use Rattle.grammar_terms.specs.Grammar.{Syntax, production_at}
use Rattle.grammar_terms.specs.Builtins.{operators, operator_form, placed, next_sentence, next_group, declared_prods, operator_prods, bracket_prods, with_builtins, operator_of}

nothing_at : {X : Type 0} (i : ℕ) (x : X) → slice_get [] i ≡ Some x → ⊥
nothing_at i x is = cc

slice_get_front : {X : Type 0} (xs ys : List X) (i : ℕ) (x : X) → slice_get xs i ≡ Some x → slice_get (xs ++ ys) i ≡ Some x
slice_get_front [] ys i x is = absurd (nothing_at i x is)
slice_get_front (y ∷ xs) ys zero x is = is
slice_get_front (y ∷ xs) ys (suc i) x is = slice_get_front xs ys i x is

slice_get_behind : {X : Type 0} (xs ys : List X) (i j : ℕ) → j ≡ length xs + i → slice_get (xs ++ ys) j ≡ slice_get ys i
slice_get_behind [] ys i j is = ap (slice_get ys) (omega (arith, is))
slice_get_behind (x ∷ xs) ys i zero is = absurd (omega (arith, is))
slice_get_behind (x ∷ xs) ys i (suc j) is = slice_get_behind xs ys i j (omega (arith, is))

none_some : (op : Op) → None ≡ Some op → ⊥
none_some op same = cc

test_passes : (b more : Bool) (found : Option Op) (op : Op) → cond (b && more) found None ≡ Some op → (b ≡ true) × (found ≡ Some op)
test_passes true true found op is = (refl, is)
test_passes true false found op is = absurd (none_some op is)
test_passes false more found op is = absurd (none_some op is)

module _ (g : Syntax) (within : g.declared ≤ length g.prods) where
  declared_length : length (declared_prods g) ≡ g.declared
  declared_length = length-take g.declared g.prods ∙ omega (arith, within)

  -- An operator's production is written as the operator is.
  pub operators_stand : (p : ℕ) (op : Op) → operator_of (with_builtins g) p ≡ Some op
      → production_at (with_builtins g).prods p ≡ Some (placed (next_sentence (declared_prods g)) (next_group (declared_prods g)) (operator_form op))
  operators_stand p op is =
      let s = next_sentence (declared_prods g) in
      let r = next_group (declared_prods g) in
      let all = (with_builtins g).prods in
      let brackets = bracket_prods s r (length g.names) in
      let found = test_passes (nat_lt g.declared p) (nat_le p (length all)) (slice_get operators (p - 1 - g.declared)) op is in
      elim (cases_lt g.declared p) [
        | inl less ↦
            let positive : (p == 0) ≡ false = grind (arith, nat_tests) in
            let place : p - 1 ≡ length (declared_prods g) + (p - 1 - g.declared) = omega (arith, declared_length, less) in
            ap (λ b. cond b None (slice_get all (p - 1))) positive
            ∙ slice_get_behind (declared_prods g) (operator_prods s r ++ brackets) (p - 1 - g.declared) (p - 1) place
            ∙ slice_get_front (operator_prods s r) brackets (p - 1 - g.declared) (placed s r (operator_form op))
            (slice_get-map (λ other. placed s r (operator_form other)) operators (p - 1 - g.declared) ∙ ap (option_map (λ other. placed s r (operator_form other))) found.1)
        | inr other ↦
            let fails : nat_lt g.declared p ≡ false = grind (arith, nat_tests) in
            absurd (true≢false (sym found.0 ∙ fails))
      ]
