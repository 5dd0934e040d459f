-- What is of no group is kept out nowhere, and keeps nothing out.
use Rattle.std.proofs.Common.{ℕ, zero, suc, ◌≡◌, ◌+◌, ◌-◌, ◌<◌, ◌≤◌, ◌⊎◌, inl, inr, max, Bool, true, false, ◌&&◌, ◌||◌, not, cond, List, [], ◌∷◌, ◌++◌, length, map, Option, Some, None, slice_get, refl, sym, ap, ◌∙◌, subst, arith}
use Rattle.std.specs.Prelude.{◌==◌, nat_lt}
use Rattle.std.specs.List.{fold, range_with_len}
use Rattle.std.proofs.lemmas.Bool.{cases_eq}
use Rattle.std.proofs.lemmas.Bool.Decides.{nat_tests}
use Rattle.k_terms.specs.declared.op.Op.{Op}
use Rattle.k_terms.specs.declared.op.Op.TheVariants.{MulInt, DivInt, ModInt, AddInt, SubInt, JoinString, LtInt, LeInt, GtInt, GeInt, EqInt, NeInt, EqK, NeK, InKeys, Not, And, Or, SetKey, GetKey, SizeMap, SizeList, LengthString, IntToString}
use Rattle.grammar_terms.specs.declared.builtin.Builtin.{Builtin}
use Rattle.grammar_terms.specs.declared.production.Production.{Production}
use Rattle.grammar_terms.specs.Edges.{is_first, is_last, binds_weaker, is_kept_out, permits, permitted}
use Rattle.grammar_terms.specs.Grammar.{Syntax, production_at}
use Rattle.grammar_terms.specs.Builtins.{free_group, parentheses, operators, operator_form, placed, next_sentence, next_group, declared_prods, operator_prods, bracket_prods, with_builtins}

-- ---- lists

nothing_at : {X : Type 0} (i : ℕ) (x : X) → slice_get [] i ≡ Some x → ⊥
nothing_at i x is = cc

some_same : {X : Type 0} (x y : X) → Some x ≡ Some y → x ≡ y
some_same x y same = cc

-- an item of two lists is one of either
of_both : {X : Type 0} (xs ys : List X) (i : ℕ) (x : X) → slice_get (xs ++ ys) i ≡ Some x → (slice_get xs i ≡ Some x) ⊎ ((j : ℕ) × (slice_get ys j ≡ Some x))
of_both [] ys i x is = inr (i, is)
of_both (y ∷ xs) ys zero x is = inl is
of_both (y ∷ xs) ys (suc i) x is = of_both xs ys i x is

of_map : {X Y : Type 0} (f : X → Y) (xs : List X) (i : ℕ) (y : Y) → slice_get (map f xs) i ≡ Some y → (x : X) × (y ≡ f x)
of_map f [] i y is = absurd (nothing_at i y is)
of_map f (x ∷ xs) zero y is = (x, sym (some_same (f x) y is))
of_map f (x ∷ xs) (suc i) y is = of_map f xs i y is

module _ (f : Production → ℕ) where
  start_below : (prods : List Production) (start : ℕ) → start ≤ fold (λ next production. max next (f production)) start prods
  start_below [] start = omega arith
  start_below (p ∷ prods) start = let later : max start (f p) ≤ fold (λ next production. max next (f production)) (max start (f p)) prods = start_below prods (max start (f p)) in omega (arith, later)

  each_below : (prods : List Production) (start i : ℕ) (p : Production) → slice_get prods i ≡ Some p → f p ≤ fold (λ next production. max next (f production)) start prods
  each_below [] start i p is = absurd (nothing_at i p is)
  each_below (q ∷ prods) start zero p is =
      let later : max start (f q) ≤ fold (λ next production. max next (f production)) (max start (f q)) prods = start_below prods (max start (f q)) in
      let here : f q ≡ f p = ap f (some_same q p is) in
      omega (arith, later, here)
  each_below (q ∷ prods) start (suc i) p is = each_below prods (max start (f q)) i p is

-- ---- builtin productions

-- a production is of the last group just where it is of its sentence, and there it has no attribute of grouping
record Stands (sentence group : ℕ) (production : Production) : Type 0 where
  pub of_sentence : production.sentence ≡ sentence + 1 → production.group ≡ group + free_group
  pub of_group : production.group ≡ group + free_group → production.sentence ≡ sentence + 1
  pub no_left : production.group ≡ group + free_group → production.attrs.left ≡ false
  pub no_right : production.group ≡ group + free_group → production.attrs.right ≡ false
  pub no_non_assoc : production.group ≡ group + free_group → production.attrs.non_assoc ≡ false

grouped : (s g : ℕ) (builtin : Builtin) → builtin.sentence ≡ 0 → builtin.group < free_group → Stands s g (placed s g builtin)
grouped s g builtin first less = record {
  of_sentence = λ is. absurd (omega (arith, is, first));
  of_group = λ is. absurd (omega (arith, is, less));
  no_left = λ is. absurd (omega (arith, is, less));
  no_right = λ is. absurd (omega (arith, is, less));
  no_non_assoc = λ is. absurd (omega (arith, is, less));
}

free : (s g : ℕ) (builtin : Builtin) → builtin.sentence ≡ 1 → builtin.group ≡ free_group → builtin.attrs.left ≡ false → builtin.attrs.right ≡ false → builtin.attrs.non_assoc ≡ false → Stands s g (placed s g builtin)
free s g builtin second last left right non_assoc = record {
  of_sentence = λ is. ap (λ n. g + n) last;
  of_group = λ is. ap (λ n. s + n) second;
  no_left = λ is. left;
  no_right = λ is. right;
  no_non_assoc = λ is. non_assoc;
}

operator_stands : (s g : ℕ) (op : Op) → Stands s g (placed s g (operator_form op))
operator_stands s g MulInt = grouped s g (operator_form MulInt) refl (omega arith)
operator_stands s g DivInt = grouped s g (operator_form DivInt) refl (omega arith)
operator_stands s g ModInt = grouped s g (operator_form ModInt) refl (omega arith)
operator_stands s g AddInt = grouped s g (operator_form AddInt) refl (omega arith)
operator_stands s g SubInt = grouped s g (operator_form SubInt) refl (omega arith)
operator_stands s g JoinString = grouped s g (operator_form JoinString) refl (omega arith)
operator_stands s g LtInt = grouped s g (operator_form LtInt) refl (omega arith)
operator_stands s g LeInt = grouped s g (operator_form LeInt) refl (omega arith)
operator_stands s g GtInt = grouped s g (operator_form GtInt) refl (omega arith)
operator_stands s g GeInt = grouped s g (operator_form GeInt) refl (omega arith)
operator_stands s g EqInt = grouped s g (operator_form EqInt) refl (omega arith)
operator_stands s g NeInt = grouped s g (operator_form NeInt) refl (omega arith)
operator_stands s g EqK = grouped s g (operator_form EqK) refl (omega arith)
operator_stands s g NeK = grouped s g (operator_form NeK) refl (omega arith)
operator_stands s g InKeys = grouped s g (operator_form InKeys) refl (omega arith)
operator_stands s g Not = grouped s g (operator_form Not) refl (omega arith)
operator_stands s g And = grouped s g (operator_form And) refl (omega arith)
operator_stands s g Or = grouped s g (operator_form Or) refl (omega arith)
operator_stands s g SetKey = free s g (operator_form SetKey) refl refl refl refl refl
operator_stands s g GetKey = free s g (operator_form GetKey) refl refl refl refl refl
operator_stands s g SizeMap = free s g (operator_form SizeMap) refl refl refl refl refl
operator_stands s g SizeList = free s g (operator_form SizeList) refl refl refl refl refl
operator_stands s g LengthString = free s g (operator_form LengthString) refl refl refl refl refl
operator_stands s g IntToString = free s g (operator_form IntToString) refl refl refl refl refl

-- ---- all productions

module _ (g : Syntax) where
  abbrev s : ℕ
  s = next_sentence (declared_prods g)

  abbrev r : ℕ
  r = next_group (declared_prods g)

  declared_stands : (i : ℕ) (p : Production) → slice_get (declared_prods g) i ≡ Some p → Stands s r p
  declared_stands i p is =
      let sentence : p.sentence + 1 ≤ s = each_below (λ q. q.sentence + 1) (declared_prods g) 0 i p is in
      let group : p.group + 1 ≤ r = each_below (λ q. q.group + 1) (declared_prods g) 0 i p is in
      record {
        of_sentence = λ same. absurd (omega (arith, same, sentence));
        of_group = λ same. absurd (omega (arith, same, group));
        no_left = λ same. absurd (omega (arith, same, group));
        no_right = λ same. absurd (omega (arith, same, group));
        no_non_assoc = λ same. absurd (omega (arith, same, group));
      }

  builtin_stands : (i : ℕ) (p : Production) → slice_get (operator_prods s r ++ bracket_prods s r (length g.names)) i ≡ Some p → Stands s r p
  builtin_stands i p is = elim (of_both (operator_prods s r) (bracket_prods s r (length g.names)) i p is) [
    | inl first ↦
        let op = of_map (λ op. placed s r (operator_form op)) operators i p first in
        subst (Stands s r) (sym op.1) (operator_stands s r op.0)
    | inr later ↦
        let sort = of_map (λ sort. placed s r (parentheses sort)) (range_with_len 0 (length g.names)) later.0 p later.1 in
        subst (Stands s r) (sym sort.1) (free s r (parentheses sort.0) refl refl refl refl refl)
  ]

  numbered : (is_zero : Bool) (found : Option Production) (p : Production) → cond is_zero None found ≡ Some p → found ≡ Some p
  numbered true found p is = cc
  numbered false found p is = is

  each_stands : (n : ℕ) (p : Production) → production_at (with_builtins g).prods n ≡ Some p → Stands s r p
  each_stands n p is =
      elim (of_both (declared_prods g) (operator_prods s r ++ bracket_prods s r (length g.names)) (n - 1) p (numbered (n == 0) (slice_get (with_builtins g).prods (n - 1)) p is)) [
        | inl first ↦ declared_stands (n - 1) p first
        | inr later ↦ builtin_stands later.0 p later.1
      ]

  and_false : (b : Bool) → b && false ≡ false
  and_false true = refl
  and_false false = refl

  -- of two productions of which one is of the last group, neither binds weaker
  not_weaker : (parent child : Production) → Stands s r parent → Stands s r child → (child.sentence ≡ parent.sentence → parent.group ≡ child.group) → binds_weaker parent child ≡ false
  not_weaker parent child first second same = elim (cases_eq child.sentence parent.sentence) [
    | inl equal ↦
        let group = same equal in
        let no : nat_lt parent.group child.group ≡ false = grind (arith, nat_tests) in
        ap (λ b. child.sentence == parent.sentence && b) no ∙ and_false (child.sentence == parent.sentence)
    | inr apart ↦
        let no : (child.sentence == parent.sentence) ≡ false = grind (arith, nat_tests) in
        ap (λ b. b && nat_lt parent.group child.group) no
  ]

  -- one of the last group keeps nothing of its group out
  not_kept : (parent : Production) (place : ℕ) (child : Production) → Stands s r parent → (child.group ≡ parent.group → parent.group ≡ r + free_group) → is_kept_out parent place child ≡ false
  not_kept parent place child stands last = elim (cases_eq child.group parent.group) [
    | inl equal ↦
        let l = stands.no_left (last equal) in
        let t = stands.no_right (last equal) in
        let n = stands.no_non_assoc (last equal) in
        (λ i. child.group == parent.group && (l i && is_last parent place || t i && is_first place || n i)) ∙ and_false (child.group == parent.group)
    | inr apart ↦
        let no : (child.group == parent.group) ≡ false = grind (arith, nat_tests) in
        ap (λ b. b && (parent.attrs.left && is_last parent place || parent.attrs.right && is_first place || parent.attrs.non_assoc)) no
  ]

  or_true : (b : Bool) → b || true ≡ true
  or_true true = refl
  or_true false = refl

  free_permits : (parent : Production) (place : ℕ) (child : Production) → binds_weaker parent child ≡ false → is_kept_out parent place child ≡ false → permits parent place child ≡ true
  free_permits parent place child weaker kept =
      (λ i. child.attrs.bracket || not ((is_first place || is_last parent place) && (weaker i || kept i)))
      ∙ ap (λ b. child.attrs.bracket || not b) (and_false (is_first place || is_last parent place)) ∙ or_true child.attrs.bracket

  same_groups : (one other : Production) → Stands s r one → Stands s r other → one.group ≡ r + free_group → other.sentence ≡ one.sentence → other.group ≡ one.group
  same_groups one other first second last equal = second.of_sentence (equal ∙ first.of_group last) ∙ sym last

  free_as_child : (parent : Production) (place : ℕ) (child : Production) → Stands s r parent → Stands s r child → child.group ≡ r + free_group → permits parent place child ≡ true
  free_as_child parent place child first second last =
      free_permits parent place child (not_weaker parent child first second (λ equal. same_groups child parent second first last (sym equal)))
      (not_kept parent place child first (λ equal. sym equal ∙ last))

  free_as_parent : (parent : Production) (place : ℕ) (child : Production) → Stands s r parent → Stands s r child → parent.group ≡ r + free_group → permits parent place child ≡ true
  free_as_parent parent place child first second last =
      free_permits parent place child (not_weaker parent child first second (λ equal. sym (same_groups parent child first second last equal))) (not_kept parent place child first (λ equal. last))

  abbrev prods : List Production
  prods = (with_builtins g).prods

  -- A production of the last group may stand at each place, and each production at each of its places.
  pub free_stands : (n other place : ℕ) (p : Production) → production_at prods n ≡ Some p → p.group ≡ r + free_group → (permitted prods other place n ≡ true) × (permitted prods n place other ≡ true)
  free_stands n other place p is last = (
    elim (production_at prods other) as (λ it. production_at prods other ≡ it
        → elim it [ None ↦ true | Some outer ↦ elim (production_at prods n) [ None ↦ true | Some inner ↦ permits outer place inner ] ] ≡ true) [
          | None ↦ λ e. refl
          | Some outer ↦ λ e.
              ap (λ it. elim it [ None ↦ true | Some inner ↦ permits outer place inner ]) is ∙ free_as_child outer place p (each_stands other outer e) (each_stands n p is) last
        ] refl,
    ap (λ it. elim it [ None ↦ true | Some outer ↦ elim (production_at prods other) [ None ↦ true | Some inner ↦ permits outer place inner ] ]) is
        ∙ elim (production_at prods other) as (λ it. production_at prods other ≡ it → elim it [ None ↦ true | Some inner ↦ permits p place inner ] ≡ true) [
          | None ↦ λ e. refl
          | Some inner ↦ λ e. free_as_parent p place inner (each_stands n p is) (each_stands other inner e) last
        ] refl,
  )
