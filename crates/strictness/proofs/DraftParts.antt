-- The parts of the rules of heating and cooling, and the variables in them.
use Rattle.std.proofs.Common.{◌≡◌, ◌⊎◌, inl, inr, ℕ, zero, suc, ◌+◌, ◌-◌, ◌<◌, ◌≤◌, Bool, true, false, not, cond, ◌==◌, ◌&&◌, ◌||◌, List, [], ◌∷◌, ◌++◌, length, map, refl, sym, ap, subst, ◌∙◌, arith}
use Rattle.std.proofs.lemmas.Bool.{eqb-true, eqb-false, eq-eqb, ne_eqb, cases_lt}
use Rattle.std.proofs.lemmas.List.{get_or_append_left, length-append}
use Rattle.std.proofs.lemmas.Option.{slice_get-get_or, slice_get_within}
use Rattle.std.specs.Prelude.{Some, None, slice_get}
use Rattle.std.specs.Option.{option_map_or}
use Rattle.std.specs.List.{list_all, list_any, filter, range_with_len}
use mathlib.Core.Former.{Count}
use Rattle.k_terms.specs.Sorts.{sort_k, sort_map, sort_list, sort_kresult}
use Rattle.production_reader.specs.declared.prod.Attrs.{Attrs}
use Rattle.rule_terms.specs.declared.pattern.Pattern.{Pattern, Var, Node, Freezer, Row_of-Pattern, end_of-Pattern, more_of-Pattern, items-the_row-Pattern, items_hidden-the_row-Pattern-0}
use Rattle.rule_terms.specs.declared.pattern.Pattern.TheBlock.{hidden-the_row-Pattern-0}
use Rattle.rule_terms.specs.declared.pattern.Body.{Seq}
use Rattle.rule_terms.specs.declared.rule.Cond.TheVariants.{IsSort}
use Rattle.rule_terms.specs.Patterns.{mentions, row_mentions, cond_mentions}
use Rattle.rule_terms.specs.Sound.{has_formed_values, row_has_formed_values, has_no_operator, row_has_no_operator, has_whole_sequences, row_has_whole_sequences, is_sequence_variable, is_item, condition_test, body_mentions, conditions_mention}
use Rattle.rule_terms.proofs.Defined.{one_of}
use Rattle.strictness.specs.Places.{is_whole, may_heat}
use Rattle.strictness.specs.Drafts.{variables, others, sorts_of_variables, whole, pulled, earlier, when_heated, when_cooled}
use Rattle.strictness.proofs.OneCell.{ArePlain, ArePlainConditions, AreBound}

-- ---- rows of patterns as lists

formed_row : {n : Count} (parts : Row_of-Pattern n) → row_has_formed_values parts ≡ list_all has_formed_values (items-the_row-Pattern n parts)
unfolding row_has_formed_values
formed_row end_of-Pattern = refl
formed_row (more_of-Pattern part parts) = ap (λ b. has_formed_values part && b) (formed_row parts)

operator_row : {n : Count} (parts : Row_of-Pattern n) → row_has_no_operator parts ≡ list_all has_no_operator (items-the_row-Pattern n parts)
unfolding row_has_no_operator
operator_row end_of-Pattern = refl
operator_row (more_of-Pattern part parts) = ap (λ b. has_no_operator part && b) (operator_row parts)

sequence_row : {n : Count} (vars : List ℕ) (parts : Row_of-Pattern n) → row_has_whole_sequences vars parts ≡ list_all (has_whole_sequences vars) (items-the_row-Pattern n parts)
unfolding row_has_whole_sequences
sequence_row vars end_of-Pattern = refl
sequence_row vars (more_of-Pattern part parts) = ap (λ b. has_whole_sequences vars part && b) (sequence_row vars parts)

mention_row : {n : Count} (x : ℕ) (parts : Row_of-Pattern n) → row_mentions x parts ≡ list_any (mentions x) (items-the_row-Pattern n parts)
unfolding row_mentions
mention_row x end_of-Pattern = refl
mention_row x (more_of-Pattern part parts) = ap (λ b. mentions x part || b) (mention_row x parts)

formed_Node : (p : ℕ) (ps : List Pattern) → has_formed_values (Node p ps) ≡ list_all has_formed_values ps
unfolding has_formed_values
formed_Node p ps = formed_row (hidden-the_row-Pattern-0 ps) ∙ ap (list_all has_formed_values) (items_hidden-the_row-Pattern-0 ps)

formed_Freezer : (p i : ℕ) (ps : List Pattern) → has_formed_values (Freezer p i ps) ≡ list_all has_formed_values ps
unfolding has_formed_values
formed_Freezer p i ps = formed_row (hidden-the_row-Pattern-0 ps) ∙ ap (list_all has_formed_values) (items_hidden-the_row-Pattern-0 ps)

operator_Node : (p : ℕ) (ps : List Pattern) → has_no_operator (Node p ps) ≡ list_all has_no_operator ps
unfolding has_no_operator
operator_Node p ps = operator_row (hidden-the_row-Pattern-0 ps) ∙ ap (list_all has_no_operator) (items_hidden-the_row-Pattern-0 ps)

operator_Freezer : (p i : ℕ) (ps : List Pattern) → has_no_operator (Freezer p i ps) ≡ list_all has_no_operator ps
unfolding has_no_operator
operator_Freezer p i ps = operator_row (hidden-the_row-Pattern-0 ps) ∙ ap (list_all has_no_operator) (items_hidden-the_row-Pattern-0 ps)

sequence_Node : (vars : List ℕ) (p : ℕ) (ps : List Pattern) → has_whole_sequences vars (Node p ps) ≡ list_all (has_whole_sequences vars) ps
unfolding has_whole_sequences
sequence_Node vars p ps = sequence_row vars (hidden-the_row-Pattern-0 ps) ∙ ap (list_all (has_whole_sequences vars)) (items_hidden-the_row-Pattern-0 ps)

sequence_Freezer : (vars : List ℕ) (p i : ℕ) (ps : List Pattern) → has_whole_sequences vars (Freezer p i ps) ≡ list_all (has_whole_sequences vars) ps
unfolding has_whole_sequences
sequence_Freezer vars p i ps = sequence_row vars (hidden-the_row-Pattern-0 ps) ∙ ap (list_all (has_whole_sequences vars)) (items_hidden-the_row-Pattern-0 ps)

mentions_Node : (x p : ℕ) (ps : List Pattern) → mentions x (Node p ps) ≡ list_any (mentions x) ps
unfolding mentions
mentions_Node x p ps = mention_row x (hidden-the_row-Pattern-0 ps) ∙ ap (list_any (mentions x)) (items_hidden-the_row-Pattern-0 ps)

mentions_Freezer : (x p i : ℕ) (ps : List Pattern) → mentions x (Freezer p i ps) ≡ list_any (mentions x) ps
unfolding mentions
mentions_Freezer x p i ps = mention_row x (hidden-the_row-Pattern-0 ps) ∙ ap (list_any (mentions x)) (items_hidden-the_row-Pattern-0 ps)

-- ---- lists of variables

formed_all : (xs : List ℕ) → list_all has_formed_values (map Var xs) ≡ true
unfolding has_formed_values
formed_all [] = refl
formed_all (x ∷ xs) = formed_all xs

operator_all : (xs : List ℕ) → list_all has_no_operator (map Var xs) ≡ true
unfolding has_no_operator
operator_all [] = refl
operator_all (x ∷ xs) = operator_all xs

sequence_all : (vars xs : List ℕ) → list_all (has_whole_sequences vars) (map Var xs) ≡ true
unfolding has_whole_sequences
sequence_all vars [] = refl
sequence_all vars (x ∷ xs) = sequence_all vars xs

abbrev is_in : ℕ → List ℕ → Bool
is_in x xs = list_any (λ y. x == y) xs

mentions_all : (x : ℕ) (xs : List ℕ) → list_any (mentions x) (map Var xs) ≡ is_in x xs
unfolding mentions
mentions_all x [] = refl
mentions_all x (y ∷ ys) = ap (λ b. (x == y) || b) (mentions_all x ys)

either : (a b : Bool) → (a ≡ true) ⊎ (b ≡ true) → (a || b) ≡ true
either true b h = refl
either false b (inl e) = cc
either false b (inr e) = e

-- a number stands in a range exactly where it is within it
ranged : (x a n : ℕ) → a ≤ x → x < a + n → is_in x (range_with_len a n) ≡ true
ranged x a zero low high = absurd (omega arith)
ranged x a (suc n) low high = either (x == a) (is_in x (range_with_len (a + 1) n)) (elim (cases_lt a x) [
  | inl less ↦ inr (ranged x (a + 1) n (omega arith) (omega arith))
  | inr here ↦ inl (eq-eqb x a (omega arith))
])

within : (x a n : ℕ) → is_in x (range_with_len a n) ≡ true → x < a + n
within x a zero e = cc
within x a (suc n) e = elim (one_of (x == a) (is_in x (range_with_len (a + 1) n)) e) [
  | inl here ↦ let same = eqb-true x a here in omega arith
  | inr there ↦ let less = within x (a + 1) n there in omega arith
]

-- and among those of a list that pass a test
kept : (test : ℕ → Bool) (x : ℕ) (xs : List ℕ) → test x ≡ true → is_in x xs ≡ true → is_in x (filter test xs) ≡ true
kept test x [] passes e = cc
kept test x (y ∷ ys) passes e = elim (one_of (x == y) (is_in x ys) e) [
  | inl here ↦
      let same : test y ≡ true = subst (λ z. test z ≡ true) (eqb-true x y here) passes in
      ap (λ b. is_in x (cond b (y ∷ filter test ys) (filter test ys))) same ∙ either (x == y) (is_in x (filter test ys)) (inl here)
  | inr there ↦
      let later = kept test x ys passes there in
      elim (test y) as (λ b. is_in x (cond b (y ∷ filter test ys) (filter test ys)) ≡ true) [ true ↦ either (x == y) (is_in x (filter test ys)) (inr later) | false ↦ later ]
]

chosen : (test : ℕ → Bool) (x : ℕ) (xs : List ℕ) → is_in x (filter test xs) ≡ true → is_in x xs ≡ true
chosen test x [] e = cc
chosen test x (y ∷ ys) e =
    elim (test y) as (λ b. is_in x (cond b (y ∷ filter test ys) (filter test ys)) ≡ true → ((x == y) || is_in x ys) ≡ true) [
      | true ↦ λ in_it. either (x == y) (is_in x ys) (elim (one_of (x == y) (is_in x (filter test ys)) in_it) [ inl here ↦ inl here | inr there ↦ inr (chosen test x ys there) ])
      | false ↦ λ in_it. either (x == y) (is_in x ys) (inr (chosen test x ys in_it))
    ] e

-- ---- the two kinds of sides

module _ (sorts : List ℕ) (p : ℕ) where
  abbrev n : ℕ
  n = length sorts

  abbrev vars : List ℕ
  vars = sorts_of_variables sorts

  pub plain_whole : (vs : List ℕ) → ArePlain vs (whole p n)
  plain_whole vs = record {
    values = ap (λ b. b && true) (formed_Node p (variables n) ∙ formed_all (range_with_len 0 n));
    no_operator = ap (λ b. b && true) (operator_Node p (variables n) ∙ operator_all (range_with_len 0 n));
    sequences = ap (λ b. b && true) (sequence_Node vs p (variables n) ∙ sequence_all vs (range_with_len 0 n));
    items = refl;
  }

  -- these sorts begin with those of the arguments
  abbrev pub Begins : List ℕ → Type 0
  Begins vs = (x sort : ℕ) → slice_get sorts x ≡ Some sort → slice_get vs x ≡ Some sort

  pub begins : (more : List ℕ) → Begins (sorts ++ more)
  begins more x sort is =
      let within : x < length sorts = slice_get_within sorts x sort is in
      let size : length (sorts ++ more) ≡ length sorts + length more = length-append sorts more in
      slice_get-get_or (sorts ++ more) x sort (omega arith)
      ∙ ap Some (get_or_append_left sorts more sort x within)
      ∙ sym (slice_get-get_or sorts x sort within)
      ∙ is

  module _ (place : ℕ) (from : 1 ≤ place) (to : place ≤ n) (heats : may_heat sorts place ≡ true) where
    abbrev x : ℕ
    x = place - 1

    -- it is the sort of no whole sequence
    no_sequence : (sort : ℕ) → not (is_whole sort) ≡ true → not (sort == sort_k) ≡ true
    no_sequence sort h = elim (sort == sort_k) as (λ b. not (b || sort == sort_map || sort == sort_list) ≡ true → not b ≡ true) [ true ↦ λ e. e | false ↦ λ e. refl ] h

    item : (vs : List ℕ) → Begins vs → not (is_sequence_variable vs (Var x)) ≡ true
    item vs front =
        let some : (place == 0) ≡ false = ne_eqb place 0 (λ e. omega (arith, e)) in
        let at : option_map_or (λ sort. not (is_whole sort)) (slice_get sorts x) false ≡ true = ap (λ b. option_map_or (λ sort. not (is_whole sort)) (cond b None (slice_get sorts x)) false) (sym some) ∙ heats in
        elim (slice_get sorts x) as (λ o. slice_get sorts x ≡ o → option_map_or (λ sort. not (is_whole sort)) o false ≡ true → not (is_sequence_variable vs (Var x)) ≡ true) [
          | None ↦ λ is h. cc
          | Some sort ↦ λ is h. ap (λ o. not (option_map_or (λ s. s == sort_k) o false)) (front x sort is) ∙ no_sequence sort h
        ] refl at

    pub plain_pulled : (vs : List ℕ) → Begins vs → ArePlain vs (pulled p n place)
    unfolding has_formed_values has_no_operator has_whole_sequences
    plain_pulled vs front = record {
      values = ap (λ b. b && true) (formed_Freezer p place (others n place) ∙ formed_all (filter (λ y. not (y + 1 == place)) (range_with_len 0 n)));
      no_operator = ap (λ b. b && true) (operator_Freezer p place (others n place) ∙ operator_all (filter (λ y. not (y + 1 == place)) (range_with_len 0 n)));
      sequences = ap (λ b. b && true) (sequence_Freezer vs p place (others n place) ∙ sequence_all vs (filter (λ y. not (y + 1 == place)) (range_with_len 0 n)));
      items = ap (λ b. b && true) (item vs front);
    }

    -- each variable stands in the one and in the other
    in_whole : (y : ℕ) → y < n + 1 → body_mentions y (Seq (whole p n) (Some n)) ≡ true
    in_whole y less = either (mentions y (Node p (variables n)) || false) (y == n) (elim (cases_lt y n) [
      | inl before ↦ inl (either (mentions y (Node p (variables n))) false (inl (mentions_Node y p (variables n) ∙ mentions_all y (range_with_len 0 n) ∙ ranged y 0 n (omega arith) (omega arith))))
      | inr last ↦ inr (eq-eqb y n (omega arith))
    ])

    whole_in : (y : ℕ) → body_mentions y (Seq (whole p n) (Some n)) ≡ true → y < n + 1
    whole_in y e = elim (one_of (mentions y (Node p (variables n)) || false) (y == n) e) [
      | inl parts ↦ elim (one_of (mentions y (Node p (variables n))) false parts) [
        | inl here ↦
            let less = within y 0 n (sym (mentions_all y (range_with_len 0 n)) ∙ sym (mentions_Node y p (variables n)) ∙ here) in
            omega arith
        | inr none ↦ cc
      ]
      | inr rest ↦ let same = eqb-true y n rest in omega arith
    ]

    abbrev test : ℕ → Bool
    test y = not (y + 1 == place)

    abbrev freezer : Pattern
    freezer = Freezer p place (others n place)

    in_pulled : (y : ℕ) → y < n + 1 → body_mentions y (Seq (pulled p n place) (Some n)) ≡ true
    unfolding mentions
    in_pulled y less = either ((y == x) || (mentions y freezer || false)) (y == n) (elim (cases_lt y n) [
      | inl before ↦ inl (either (y == x) (mentions y freezer || false) (elim (y == x) as (λ b. (y == x) ≡ b → ((y == x) ≡ true) ⊎ ((mentions y freezer || false) ≡ true)) [
        | true ↦ λ is. inl is
        | false ↦ λ is. inr (either (mentions y freezer) false (inl
            (mentions_Freezer y p place (others n place) ∙ mentions_all y (filter test (range_with_len 0 n))
            ∙ kept test y (range_with_len 0 n) (ap not (ne_eqb (y + 1) place (λ same. eqb-false y x is (omega (arith, same))))) (ranged y 0 n (omega arith) (omega arith)))))
      ] refl))
      | inr last ↦ inr (eq-eqb y n (omega arith))
    ])

    pulled_in : (y : ℕ) → body_mentions y (Seq (pulled p n place) (Some n)) ≡ true → y < n + 1
    unfolding mentions
    pulled_in y e = elim (one_of ((y == x) || (mentions y freezer || false)) (y == n) e) [
      | inl parts ↦ elim (one_of (y == x) (mentions y freezer || false) parts) [
        | inl here ↦ let same = eqb-true y x here in omega arith
        | inr frozen ↦ elim (one_of (mentions y freezer) false frozen) [
          | inl there ↦
              let less = within y 0 n
              (chosen test y (range_with_len 0 n) (sym (mentions_all y (filter test (range_with_len 0 n))) ∙ sym (mentions_Freezer y p place (others n place)) ∙ there)) in
              omega arith
          | inr none ↦ cc
        ]
      ]
      | inr rest ↦ let same = eqb-true y n rest in omega arith
    ]

    -- ---- the conditions

    earlier_plain : (asks : Pattern → Bool) (xs : List ℕ) → list_all (condition_test asks) (map (λ y. IsSort y sort_kresult) xs) ≡ true
    earlier_plain asks [] = refl
    earlier_plain asks (y ∷ ys) = earlier_plain asks ys

    earlier_all : (asks : Pattern → Bool) (attrs : Attrs) → list_all (condition_test asks) (earlier attrs place) ≡ true
    earlier_all asks attrs = elim attrs.seqstrict as (λ b. list_all (condition_test asks) (cond b (map (λ y. IsSort y sort_kresult) (range_with_len 0 x)) []) ≡ true) [
      | true ↦ earlier_plain asks (range_with_len 0 x)
      | false ↦ refl
    ]

    pub plain_heated : (vs : List ℕ) (attrs : Attrs) → ArePlainConditions vs (when_heated attrs place)
    plain_heated vs attrs = record { values = earlier_all has_formed_values attrs; sequences = earlier_all (has_whole_sequences vs) attrs; forms = earlier_all (is_item vs) attrs }

    pub plain_cooled : (vs : List ℕ) → ArePlainConditions vs (when_cooled place)
    plain_cooled vs = record { values = refl; sequences = refl; forms = refl }

    earlier_mention : (y : ℕ) (xs : List ℕ) → list_any (cond_mentions y) (map (λ z. IsSort z sort_kresult) xs) ≡ is_in y xs
    earlier_mention y [] = refl
    earlier_mention y (z ∷ zs) = ap (λ b. (y == z) || b) (earlier_mention y zs)

    earlier_in : (y : ℕ) (attrs : Attrs) → conditions_mention y (earlier attrs place) ≡ true → y < n + 1
    earlier_in y attrs e =
        elim attrs.seqstrict as (λ b. list_any (cond_mentions y) (cond b (map (λ z. IsSort z sort_kresult) (range_with_len 0 x)) []) ≡ true → y < n + 1) [
          | true ↦ λ some. (let less = within y 0 x (sym (earlier_mention y (range_with_len 0 x)) ∙ some) in omega arith)
          | false ↦ λ none. cc
        ] e

    heated_in : (y : ℕ) (attrs : Attrs) → conditions_mention y (when_heated attrs place) ≡ true → y < n + 1
    heated_in y attrs e = elim (one_of (y == x) (conditions_mention y (earlier attrs place)) e) [
      | inl here ↦ let same = eqb-true y x here in omega arith
      | inr there ↦ earlier_in y attrs there
    ]

    cooled_in : (y : ℕ) → conditions_mention y (when_cooled place) ≡ true → y < n + 1
    cooled_in y e = elim (one_of (y == x) false e) [
      | inl here ↦ let same = eqb-true y x here in omega arith
      | inr none ↦ cc
    ]

    count : length vars ≡ n + 1
    count = length-append sorts (sort_k ∷ [])

    pub bound_heated : (attrs : Attrs) → AreBound vars n (whole p n) (pulled p n place) (when_heated attrs place)
    bound_heated attrs = record {
      bound = λ y less. in_whole y (let size = count in omega arith);
      on_left = λ y e. let less = whole_in y e in let size = count in omega arith;
      on_right = λ y e. let less = pulled_in y e in let size = count in omega arith;
      in_conditions = λ y e. let less = heated_in y attrs e in let size = count in omega arith;
    }

    pub bound_cooled : AreBound vars n (pulled p n place) (whole p n) (when_cooled place)
    bound_cooled = record {
      bound = λ y less. in_pulled y (let size = count in omega arith);
      on_left = λ y e. let less = pulled_in y e in let size = count in omega arith;
      on_right = λ y e. let less = whole_in y e in let size = count in omega arith;
      in_conditions = λ y e. let less = cooled_in y e in let size = count in omega arith;
    }
