-- The grammar for the rules of a definition: its sorts have names, and operators take no sequences.
use Rattle.std.proofs.Common.{◌≡◌, inl, inr, ℕ, zero, suc, ◌+◌, ◌-◌, ◌<◌, ◌≤◌, Bool, true, false, cond, ◌==◌, List, [], ◌∷◌, ◌++◌, length, map, Option, Some, None, refl, sym, ap, ◌∙◌, arith, length-append}
use Rattle.std.proofs.lemmas.Bool.Decides.{nat_tests}
use Rattle.std.proofs.lemmas.Bool.{cases_lt}
use Rattle.std.proofs.lemmas.List.{length-take}
use Rattle.std.proofs.lemmas.Option.{slice_get-map}
use Rattle.std.specs.Prelude.{nat_lt, slice_get, unwrap_or}
use Rattle.std.specs.Option.{option_map}
use Rattle.std.specs.List.{AllByRecursion, range_with_len}
use Rattle.k_terms.specs.Sorts.{sort_k}
use Rattle.k_terms.specs.declared.op.Op.{Op}
use Rattle.k_terms.specs.declared.op.Op.TheVariants.{MulInt, DivInt, ModInt, AddInt, SubInt, JoinString, LtInt, LeInt, GtInt, GeInt, EqInt, NeInt, EqK, NeK, InKeys, Not, And, Or, SetKey, GetKey, SizeMap, SizeList, LengthString, IntToString}
use Rattle.grammar_terms.specs.declared.production.Production.{Production}
use Rattle.grammar_terms.specs.Builtins.{operators, operator_form, parentheses, placed, next_sentence, next_group, declared_prods, operator_prods, bracket_prods, builtin_prods, with_builtins}
use Rattle.grammar_terms.specs.Cuts.{Has as HasOne}
use Rattle.grammar_terms.specs.Grammar.{Syntax}
use Rattle.live_config.proofs.Members.{Has, has_either, map_has}
use Rattle.rule_parts.specs.Productions.{sorts_in, arguments_of, productions_of}
use Rattle.rule_parts.specs.Terms.{sorts_of, place_sort, operator_of}
use Rattle.sorted_grammar.specs.Marks.{AreInside}
use Rattle.sound_sequences.proofs.Told.{get_front}
use Rattle.sound_sequences.proofs.Terms.{OperatorsTakeItems}
use Rattle.sound_sequences.proofs.Unmade.{HasSorts, taken_has, taken_front}

-- ---- operators

operator_sort : (op : Op) → (operator_form op).sort < 10
operator_sort MulInt = omega arith
operator_sort DivInt = omega arith
operator_sort ModInt = omega arith
operator_sort AddInt = omega arith
operator_sort SubInt = omega arith
operator_sort JoinString = omega arith
operator_sort LtInt = omega arith
operator_sort LeInt = omega arith
operator_sort GtInt = omega arith
operator_sort GeInt = omega arith
operator_sort EqInt = omega arith
operator_sort NeInt = omega arith
operator_sort EqK = omega arith
operator_sort NeK = omega arith
operator_sort InKeys = omega arith
operator_sort Not = omega arith
operator_sort And = omega arith
operator_sort Or = omega arith
operator_sort SetKey = omega arith
operator_sort GetKey = omega arith
operator_sort SizeMap = omega arith
operator_sort SizeList = omega arith
operator_sort LengthString = omega arith
operator_sort IntToString = omega arith

-- none of these sorts is K
abbrev HaveNoSequence : List ℕ → Type 0
HaveNoSequence sorts = AllByRecursion (λ sort. (sort == sort_k) ≡ false) sorts

operator_items : (op : Op) → HaveNoSequence (sorts_in (operator_form op).items)
operator_items MulInt = (refl, (refl, tt))
operator_items DivInt = (refl, (refl, tt))
operator_items ModInt = (refl, (refl, tt))
operator_items AddInt = (refl, (refl, tt))
operator_items SubInt = (refl, (refl, tt))
operator_items JoinString = (refl, (refl, tt))
operator_items LtInt = (refl, (refl, tt))
operator_items LeInt = (refl, (refl, tt))
operator_items GtInt = (refl, (refl, tt))
operator_items GeInt = (refl, (refl, tt))
operator_items EqInt = (refl, (refl, tt))
operator_items NeInt = (refl, (refl, tt))
operator_items EqK = (refl, (refl, tt))
operator_items NeK = (refl, (refl, tt))
operator_items InKeys = (refl, (refl, tt))
operator_items Not = (refl, tt)
operator_items And = (refl, (refl, tt))
operator_items Or = (refl, (refl, tt))
operator_items SetKey = (refl, (refl, (refl, tt)))
operator_items GetKey = (refl, (refl, tt))
operator_items SizeMap = (refl, tt)
operator_items SizeList = (refl, tt)
operator_items LengthString = (refl, tt)
operator_items IntToString = (refl, tt)

each_place : (sorts : List ℕ) → HaveNoSequence sorts → (i : ℕ) → (place_sort false sorts i == sort_k) ≡ false
each_place [] all i = refl
each_place (sort ∷ sorts) all zero = all.0
each_place (sort ∷ sorts) all (suc i) = each_place sorts all.1 i

-- ---- lists

in_range : (a n x : ℕ) → Has (range_with_len a n) x → x < a + n
in_range a zero x h = absurd h
in_range a (suc n) x (inl e) = omega (arith, e)
in_range a (suc n) x (inr h) = let less = in_range (a + 1) n x h in omega (arith, less)

as_one : {X : Type 0} (xs : List X) (x : X) → Has xs x → HasOne xs x
as_one [] x h = h
as_one (y ∷ xs) x (inl e) = inl e
as_one (y ∷ xs) x (inr h) = inr (as_one xs x h)

get_behind : {X : Type 0} (xs ys : List X) (i j : ℕ) → j ≡ length xs + i → slice_get (xs ++ ys) j ≡ slice_get ys i
get_behind [] ys i j is = ap (slice_get ys) (omega (arith, is))
get_behind (x ∷ xs) ys i zero is = absurd (omega (arith, is))
get_behind (x ∷ xs) ys i (suc j) is = get_behind xs ys i j (omega (arith, is))

passes : (b : Bool) (o : Option Op) (op : Op) → cond b o None ≡ Some op → (b ≡ true) × (o ≡ Some op)
passes true o op e = (refl, e)
passes false o op e = absurd (let f : None ≡ Some op = e in cc)

module _ (g : Syntax) (inside : AreInside g) (within : g.declared ≤ length g.prods) where
  abbrev for_rules : Syntax
  for_rules = with_builtins g

  abbrev own : List Production
  own = declared_prods g

  abbrev sentence : ℕ
  sentence = next_sentence own

  abbrev group : ℕ
  group = next_group own

  abbrev brackets : List Production
  brackets = bracket_prods sentence group (length g.names)

  own_size : length own ≡ g.declared
  own_size = let e = length-take g.declared g.prods in omega (arith, e, within)

  -- ---- sorts

  operators_low : (production : Production) → Has (operator_prods sentence group) production → production.sort < length g.names
  operators_low production h =
      let t = map_has (λ op. placed sentence group (operator_form op)) operators production h in
      let low = operator_sort t.0 in
      let e : (operator_form t.0).sort ≡ production.sort = ap (λ (it : Production). it.sort) t.2 in
      let some = inside.some in
      omega (arith, low, e, some)

  brackets_low : (production : Production) → Has brackets production → production.sort < length g.names
  brackets_low production h =
      let t = map_has (λ sort. placed sentence group (parentheses sort)) (range_with_len 0 (length g.names)) production h in
      let low = in_range 0 (length g.names) t.0 t.1 in
      let e : t.0 ≡ production.sort = ap (λ (it : Production). it.sort) t.2 in
      omega (arith, low, e)

  pub has_sorts : HasSorts for_rules
  has_sorts = record {
    some = inside.some;
    few = inside.few;
    within = (let e = length-append own (builtin_prods sentence group (length g.names)) in let f = own_size in omega (arith, e, f));
    sort = λ production h.
        elim (has_either own (builtin_prods sentence group (length g.names)) production h) [
          | inl front ↦ inside.sort production (as_one g.prods production (taken_has g.declared g.prods production front))
          | inr behind ↦ elim (has_either (operator_prods sentence group) brackets production behind) [
            | inl operator ↦ operators_low production operator
            | inr bracket ↦ brackets_low production bracket
          ]
        ];
  }

  -- ---- arguments

  declared_is : (productions_of for_rules).declared ≡ g.declared
  declared_is =
      ap length (taken_front g.declared own (builtin_prods sentence group (length g.names)) (let e = own_size in omega (arith, e)))
      ∙ length-take g.declared own ∙ (let e = own_size in omega (arith, e))

  arguments_at : (p : ℕ) (op : Op) → slice_get operators (p - g.declared - 1) ≡ Some op → g.declared < p
      → sorts_of (productions_of for_rules) p ≡ sorts_in (operator_form op).items
  arguments_at p op is less =
      let positive : (p == 0) ≡ false = grind (arith, nat_tests) in
      let size = own_size in
      let place : p - 1 ≡ length own + (p - g.declared - 1) = omega (arith, size, less) in
      let production : Production = placed sentence group (operator_form op) in
      let there : slice_get for_rules.prods (p - 1) ≡ Some production =
      get_behind own (operator_prods sentence group ++ brackets) (p - g.declared - 1) (p - 1) place
      ∙ get_front (operator_prods sentence group) brackets (p - g.declared - 1) production
      (slice_get-map (λ other. placed sentence group (operator_form other)) operators (p - g.declared - 1) ∙ ap (option_map (λ other. placed sentence group (operator_form other))) is) in
      ap (λ b. cond b [] (unwrap_or (slice_get (map arguments_of for_rules.prods) (p - 1)) [])) positive
      ∙ ap (λ (o : Option (List ℕ)). unwrap_or o []) (slice_get-map arguments_of for_rules.prods (p - 1) ∙ ap (option_map arguments_of) there)

  pub take_items : OperatorsTakeItems (productions_of for_rules)
  take_items p op is i =
      let same : operator_of g.declared p ≡ Some op = ap (λ (n : ℕ). operator_of n p) (sym declared_is) ∙ is in
      let found = passes (nat_lt g.declared p) (slice_get operators (p - g.declared - 1)) op same in
      let less : g.declared < p = over g.declared p found.0 in
      ap (λ (sorts : List ℕ). place_sort false sorts i == sort_k) (arguments_at p op found.1 less) ∙ each_place (sorts_in (operator_form op).items) (operator_items op) i
    where
      over : (a b : ℕ) → nat_lt a b ≡ true → a < b
      over a b e = elim (cases_lt a b) [ inl l ↦ l | inr other ↦ absurd (let fails : nat_lt a b ≡ false = grind (arith, nat_tests) in let f : true ≡ false = sym e ∙ fails in cc) ]
