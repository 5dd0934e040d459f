-- The pattern of a term over the grammar for rules: its values, its numbers and its operators.
use Rattle.std.proofs.Common.{◌≡◌, ℕ, zero, suc, ◌+◌, ◌-◌, ◌<◌, ◌≤◌, Bool, true, false, cond, not, ◌==◌, ◌&&◌, List, [], ◌∷◌, ◌++◌, length, inl, inr, Option, Some, None, refl, sym, ap, subst, ◌∙◌, arith}
use Rattle.std.proofs.lemmas.Bool.{cases_lt, le-leb}
use Rattle.std.proofs.lemmas.Bool.Decides.{nat_tests}
use Rattle.std.proofs.lemmas.List.{length-map, length-append}
use Rattle.std.specs.Prelude.{slice_get, nat_lt, nat_le, is_some}
use Rattle.std.specs.List.{list_all, list_any}
use Rattle.k_terms.specs.Sorts.{SortOrder}
use Rattle.k_terms.specs.declared.op.Op.{Op}
use Rattle.grammar_terms.specs.declared.production.Production.{Production}
use Rattle.grammar_terms.specs.declared.shape.Shape.{Shape, Leaf as LeafShape, Node' as NodeS', Items' as ItemsS', Row_of-Shape, end_of-Shape, more_of-Shape}
use Rattle.grammar_terms.specs.Builtins as builtins
use Rattle.grammar_terms.specs.Builtins.{next_sentence, next_group, declared_prods, operator_prods, bracket_prods, with_builtins}
use Rattle.grammar_terms.specs.Grammar.{Syntax, order_of}
use Rattle.rule_terms.specs.declared.pattern.Pattern.{Pattern}
use Rattle.rule_terms.specs.InRange.{is_production, is_pattern_in_range}
use Rattle.rule_terms.specs.Sound.{has_formed_values, has_no_operator}
use Rattle.rule_contents.specs.Operators.{is_of_contents, is_operator, said_of_left, has_operator, each_has_operator}
use Rattle.rule_parts.specs.declared.leaves.Leaf.{Leaf}
use Rattle.rule_parts.specs.declared.terms.Occurrence.{Occurrence}
use Rattle.rule_parts.specs.Productions.{productions_of}
use Rattle.rule_parts.specs.Terms.{operators, operator_of, built_by, pattern_of}
use Rattle.sorted_grammar.specs.Marks.{AreInside}
use Rattle.sound_patterns.proofs.Tests.{joins, of_values, of_operators, of_numbers, values-Node, values-Apply, values-Items, operators-Node, operators-Items, numbers-Node, numbers-Apply, numbers-Items}
use Rattle.sound_patterns.proofs.Terms.{AllNumbers, RowNumbers, LeavesPass, term_passes}
use Rattle.sound_patterns.proofs.Parts.{first_false, second_false}
use Rattle.sound_patterns.proofs.Grammars.{node, list, declared_length, declared_stay}

none_beyond : {X : Type 0} (xs : List X) (i : ℕ) → slice_get xs i ≡ None → length xs ≤ i
none_beyond [] i e = omega arith
none_beyond (x ∷ xs) zero e = absurd (let f : Some x ≡ None = e in cc)
none_beyond (x ∷ xs) (suc i) e = let more = none_beyond xs i e in omega (arith, more)

-- so many operators stand behind the declared productions
no_operator_within : (declared p : ℕ) → operator_of declared p ≡ None → p ≤ declared + 24 → p ≤ declared
no_operator_within declared p e within = elim (cases_lt declared p) [
  | inl less ↦
      let behind : nat_lt declared p ≡ true = grind (arith, nat_tests) in
      let far : 24 ≤ p - declared - 1 = none_beyond operators (p - declared - 1) (sym (ap (λ b. cond b (slice_get operators (p - declared - 1)) None) behind) ∙ e) in
      absurd (omega (arith, less, within, far))
  | inr more ↦ more
]

-- both tell the same operators
no_operator_of : (g : Syntax) (declared p : ℕ) → declared ≡ g.declared → p ≤ length g.prods → is_some (builtins.operator_of g p) ≡ false → operator_of declared p ≡ None
no_operator_of g declared p same within e = elim (cases_lt declared p) [
  | inl less ↦
      let behind : nat_lt declared p ≡ true = grind (arith, nat_tests) in
      let also : nat_lt g.declared p ≡ true = grind (arith, nat_tests) in
      let inside : nat_le p (length g.prods) ≡ true = le-leb p (length g.prods) within in
      let place : p - 1 - g.declared ≡ p - declared - 1 = omega (arith, same) in
      let found : is_some (slice_get operators (p - declared - 1)) ≡ false =
      ap (λ i. is_some (slice_get operators i)) (sym place) ∙ sym (λ i. is_some (cond (also i && inside i) (slice_get operators (p - 1 - g.declared)) None)) ∙ e in
      ap (λ b. cond b (slice_get operators (p - declared - 1)) None) behind ∙ is_none (slice_get operators (p - declared - 1)) found
  | inr more ↦
      let before : nat_lt declared p ≡ false = grind (arith, nat_tests) in
      ap (λ b. cond b (slice_get operators (p - declared - 1)) None) before
]
  where
    is_none : (o : Option Op) → is_some o ≡ false → o ≡ None
    is_none None e = refl
    is_none (Some op) e = absurd (let f : true ≡ false = e in cc)

-- ---- terms without operators

module _ (g : Syntax) (declared : ℕ) (node list : ℕ → Type 0) (within : (p : ℕ) → node p → p ≤ length g.prods) (same : declared ≡ g.declared) where
  abbrev HasNone : ℕ → Type 0
  HasNone p = operator_of declared p ≡ None

  abbrev IsAny : ℕ → Type 0
  IsAny p = Unit {0}

  no_contents : (p : ℕ) → node p → is_of_contents g p ≡ false
  no_contents p is = let less = within p is in grind (arith, nat_tests)

  said_of_term : (b : Bool) (bs : List Bool) → b ≡ false → said_of_left b bs ≡ list_any (λ it. it) bs
  said_of_term true bs e = absurd (let f : true ≡ false = e in cc)
  said_of_term false bs e = refl

  mutual
    unfolding AllNumbers RowNumbers has_operator each_has_operator

    pub free_numbers : (shape : Shape) → AllNumbers node list shape → has_operator g shape ≡ false → AllNumbers HasNone IsAny shape
    free_numbers (LeafShape at) all e = tt
    free_numbers (NodeS' p _ shapes) all e = (
      no_operator_of g declared p same (within p all.0) (first_false (is_operator g p) (said_of_left (is_of_contents g p) (each_has_operator g shapes)) e),
      free_row shapes all.1
          (sym (said_of_term (is_of_contents g p) (each_has_operator g shapes) (no_contents p all.0))
          ∙ second_false (is_operator g p) (said_of_left (is_of_contents g p) (each_has_operator g shapes)) e),
    )
    free_numbers (ItemsS' p _ shapes rest) all e = (tt, free_row shapes all.1 e)

    free_row : {n : _} (row : Row_of-Shape n) → RowNumbers node list row → list_any (λ it. it) (each_has_operator g row) ≡ false → RowNumbers HasNone IsAny row
    free_row end_of-Shape all e = tt
    free_row (more_of-Shape shape shapes) all e = (
      free_numbers shape all.0 (first_false (has_operator g shape) (list_any (λ it. it) (each_has_operator g shapes)) e),
      free_row shapes all.1 (second_false (has_operator g shape) (list_any (λ it. it) (each_has_operator g shapes)) e),
    )

-- ---- patterns of terms

module _ (base : Syntax) (inside : AreInside base) (whole : base.declared ≤ length base.prods) (leaves : List Leaf) (vars : List Occurrence) where
  abbrev g : Syntax
  g = with_builtins base

  abbrev o : SortOrder
  o = order_of base

  abbrev pub IsTerm : Shape → Type 0
  IsTerm shape = AllNumbers (node base inside whole) (list base inside whole) shape

  all_declared : length (declared_prods g) ≡ base.declared
  all_declared = ap (λ (prods : List Production). length prods) (declared_stay base inside whole _) ∙ declared_length base inside whole

  order_length : length o.productions ≡ base.declared
  order_length = length-map (declared_prods base) (λ (production : Production). production.sort) ∙ declared_length base inside whole

  in_range : (p : ℕ) → 0 < p → p ≤ base.declared → is_production o p ≡ true
  in_range p some few =
      let positive : (p == 0) ≡ false = grind (arith, nat_tests) in
      joins (not (p == 0)) (nat_le p (length o.productions)) (ap not positive) (le-leb p (length o.productions) (omega (arith, few, order_length)))

  -- values

  built_values : (found : Option Op) (p : ℕ) (parts : List Pattern) → list_all has_formed_values parts ≡ true → has_formed_values (built_by found p parts) ≡ true
  built_values None p parts e = values-Node p parts ∙ e
  built_values (Some op) p parts e = values-Apply op parts ∙ e

  pub values_pass : LeavesPass has_formed_values leaves → (sort : ℕ) (shape : Shape) → IsTerm shape → has_formed_values (pattern_of (productions_of g) leaves vars sort shape) ≡ true
  values_pass literals sort shape term =
      term_passes has_formed_values of_values vars (productions_of g) leaves literals (node base inside whole) (list base inside whole)
      (λ p parts is e. built_values (operator_of (productions_of g).declared p) p parts e) (λ p parts rest is other e. values-Items p parts rest ∙ e) sort shape term

  -- numbers

  built_numbers : (found : Option Op) (p : ℕ) (parts : List Pattern) → (found ≡ None → is_production o p ≡ true) → list_all (is_pattern_in_range o) parts ≡ true
      → is_pattern_in_range o (built_by found p parts) ≡ true
  built_numbers None p parts is e = numbers-Node o p parts ∙ joins (is_production o p) (list_all (is_pattern_in_range o) parts) (is refl) e
  built_numbers (Some op) p parts is e = numbers-Apply o op parts ∙ e

  pub numbers_pass : LeavesPass (is_pattern_in_range o) leaves → (sort : ℕ) (shape : Shape) → IsTerm shape
      → is_pattern_in_range o (pattern_of (productions_of g) leaves vars sort shape) ≡ true
  numbers_pass literals sort shape term =
      term_passes (is_pattern_in_range o) (of_numbers o) vars (productions_of g) leaves literals (node base inside whole) (list base inside whole)
      (λ p parts is e.
      built_numbers (operator_of (productions_of g).declared p) p parts
      (λ none. in_range p is.0 (let few = is.1 in subst (λ m. p ≤ m) all_declared (no_operator_within (productions_of g).declared p none (omega (arith, few, all_declared))))) e)
      (λ p parts rest few other e.
      let positive : 0 < p = grind (arith, nat_tests) in
      numbers-Items o p parts rest ∙ joins (is_production o p) (list_all (is_pattern_in_range o) parts) (in_range p positive few) e)
      sort shape term

  -- operators

  prods_long : base.declared + 24 ≤ length g.prods
  prods_long =
      let s = next_sentence (declared_prods base) in
      let r = next_group (declared_prods base) in
      let brackets = bracket_prods s r (length base.names) in
      let long = length-append (declared_prods base) (operator_prods s r ++ brackets) in
      let more = length-append (operator_prods s r) brackets in
      let own : length (operator_prods s r) ≡ 24 = refl in
      let declared = declared_length base inside whole in
      omega (arith, long, more, own, declared)

  built_free : (found : Option Op) (p : ℕ) (parts : List Pattern) → found ≡ None → list_all has_no_operator parts ≡ true → has_no_operator (built_by found p parts) ≡ true
  built_free None p parts is e = operators-Node p parts ∙ e
  built_free (Some op) p parts is e = absurd (let f : Some op ≡ None = is in cc)

  pub operators_pass : LeavesPass has_no_operator leaves → (sort : ℕ) (shape : Shape) → IsTerm shape → has_operator g shape ≡ false
      → has_no_operator (pattern_of (productions_of g) leaves vars sort shape) ≡ true
  operators_pass literals sort shape term none =
      let declared = (productions_of g).declared in
      term_passes has_no_operator of_operators vars (productions_of g) leaves literals (λ p. operator_of declared p ≡ None) (λ p. Unit {0})
      (λ p parts is e. built_free (operator_of declared p) p parts is e) (λ p parts rest is other e. operators-Items p parts rest ∙ e) sort shape
      (free_numbers g declared (node base inside whole) (list base inside whole) (λ p is. let few = is.1 in let long = prods_long in omega (arith, few, long)) all_declared shape term none)
