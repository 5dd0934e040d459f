-- Tests of patterns that go through their parts.
use Rattle.std.proofs.Common.{◌≡◌, ℕ, Bool, true, false, ◌&&◌, List, [], ◌∷◌, ◌++◌, Option, Some, None, refl, sym, ap, ◌∙◌}
use Rattle.std.specs.List.{list_all}
use mathlib.Core.Former.{Count}
use Rattle.k_terms.specs.Sorts.{SortOrder}
use Rattle.k_terms.specs.declared.op.Op.{Op}
use Rattle.rule_terms.specs.declared.pattern.Pattern.{Pattern, Var, Lit, Node, Items, Seq, Apply, Node' as NodeP', Items' as ItemsP', Seq' as SeqP', Freezer' as FreezerP', Apply' as ApplyP', Row_of-Pattern, end_of-Pattern, more_of-Pattern, items-the_row-Pattern, items_hidden-the_row-Pattern-0}
use Rattle.rule_terms.specs.declared.pattern.Pattern.TheBlock.{hidden-the_row-Pattern-0}
use Rattle.rule_terms.specs.InRange.{is_production, is_pattern_in_range, row_in_range}
use Rattle.rule_terms.specs.Sound.{has_formed_values, row_has_formed_values, has_no_operator, row_has_no_operator}
use Rattle.rule_parts.specs.Sides.{variables_of, sequence_parts}

pub both : (a b : Bool) → (a && b) ≡ true → (a ≡ true) × (b ≡ true)
both true b e = (refl, e)
both false b e = absurd (let f : false ≡ true = e in cc)

pub joins : (a b : Bool) → a ≡ true → b ≡ true → (a && b) ≡ true
joins true b e f = f
joins false b e f = absurd (let g : false ≡ true = e in cc)

-- A test that passes each variable, and a sequence where it passes its parts.
pub record IsTest (test : Pattern → Bool) : Type 0 where
  pub var : (x : ℕ) → test (Var x) ≡ true
  pub seq : (parts : List Pattern) (rest : Option ℕ) → list_all test parts ≡ true → test (Seq parts rest) ≡ true
  pub parts : (part : Pattern) → test part ≡ true → list_all test (sequence_parts part) ≡ true

pub all_joined : {A : Type 0} (test : A → Bool) (xs ys : List A) → list_all test xs ≡ true → list_all test ys ≡ true → list_all test (xs ++ ys) ≡ true
all_joined test [] ys one other = other
all_joined test (x ∷ xs) ys one other =
    let here = both (test x) (list_all test xs) one in
    joins (test x) (list_all test (xs ++ ys)) here.0 (all_joined test xs ys here.1 other)

variables_pass : (test : Pattern → Bool) → ((x : ℕ) → test (Var x) ≡ true) → (rest : Option ℕ) → list_all test (variables_of rest) ≡ true
variables_pass test var None = refl
variables_pass test var (Some x) = joins (test (Var x)) true (var x) refl

alone : (b : Bool) → b ≡ true → (b && true) ≡ true
alone b e = joins b true e refl

-- ---- values

values_row : {n : Count} (row : Row_of-Pattern n) → row_has_formed_values row ≡ list_all has_formed_values (items-the_row-Pattern n row)
unfolding row_has_formed_values
values_row end_of-Pattern = refl
values_row (more_of-Pattern part parts) = ap (λ b. has_formed_values part && b) (values_row parts)

values_hidden : (parts : List Pattern) → row_has_formed_values (hidden-the_row-Pattern-0 parts) ≡ list_all has_formed_values parts
values_hidden parts = values_row (hidden-the_row-Pattern-0 parts) ∙ ap (list_all has_formed_values) (items_hidden-the_row-Pattern-0 parts)

pub values-Node : (p : ℕ) (parts : List Pattern) → has_formed_values (Node p parts) ≡ list_all has_formed_values parts
unfolding has_formed_values
values-Node p parts = values_hidden parts

pub values-Apply : (op : Op) (parts : List Pattern) → has_formed_values (Apply op parts) ≡ list_all has_formed_values parts
unfolding has_formed_values
values-Apply op parts = values_hidden parts

pub values-Items : (p : ℕ) (parts : List Pattern) (rest : Option ℕ) → has_formed_values (Items p parts rest) ≡ list_all has_formed_values parts
unfolding has_formed_values
values-Items p parts rest = values_hidden parts

values-Seq : (parts : List Pattern) (rest : Option ℕ) → has_formed_values (Seq parts rest) ≡ list_all has_formed_values parts
unfolding has_formed_values
values-Seq parts rest = values_hidden parts

values_parts : (part : Pattern) → has_formed_values part ≡ true → list_all has_formed_values (sequence_parts part) ≡ true
unfolding has_formed_values
values_parts (Var x) e = refl
values_parts (Lit v) e = alone (has_formed_values (Lit v)) e
values_parts (NodeP' p s parts) e = alone (has_formed_values (NodeP' p s parts)) e
values_parts (ItemsP' p s parts rest) e = alone (has_formed_values (ItemsP' p s parts rest)) e
values_parts (SeqP' s parts rest) e =
    all_joined has_formed_values (items-the_row-Pattern _ parts) (variables_of rest) (sym (values_row parts) ∙ e) (variables_pass has_formed_values (λ x. refl) rest)
values_parts (FreezerP' p i s parts) e = alone (has_formed_values (FreezerP' p i s parts)) e
values_parts (ApplyP' op s parts) e = alone (has_formed_values (ApplyP' op s parts)) e

values_var : (x : ℕ) → has_formed_values (Var x) ≡ true
unfolding has_formed_values
values_var x = refl

pub of_values : IsTest has_formed_values
of_values = record { var = values_var; seq = λ parts rest e. values-Seq parts rest ∙ e; parts = values_parts }

-- ---- operators

operators_row : {n : Count} (row : Row_of-Pattern n) → row_has_no_operator row ≡ list_all has_no_operator (items-the_row-Pattern n row)
unfolding row_has_no_operator
operators_row end_of-Pattern = refl
operators_row (more_of-Pattern part parts) = ap (λ b. has_no_operator part && b) (operators_row parts)

operators_hidden : (parts : List Pattern) → row_has_no_operator (hidden-the_row-Pattern-0 parts) ≡ list_all has_no_operator parts
operators_hidden parts = operators_row (hidden-the_row-Pattern-0 parts) ∙ ap (list_all has_no_operator) (items_hidden-the_row-Pattern-0 parts)

pub operators-Node : (p : ℕ) (parts : List Pattern) → has_no_operator (Node p parts) ≡ list_all has_no_operator parts
unfolding has_no_operator
operators-Node p parts = operators_hidden parts

pub operators-Items : (p : ℕ) (parts : List Pattern) (rest : Option ℕ) → has_no_operator (Items p parts rest) ≡ list_all has_no_operator parts
unfolding has_no_operator
operators-Items p parts rest = operators_hidden parts

operators-Seq : (parts : List Pattern) (rest : Option ℕ) → has_no_operator (Seq parts rest) ≡ list_all has_no_operator parts
unfolding has_no_operator
operators-Seq parts rest = operators_hidden parts

operators_parts : (part : Pattern) → has_no_operator part ≡ true → list_all has_no_operator (sequence_parts part) ≡ true
unfolding has_no_operator
operators_parts (Var x) e = refl
operators_parts (Lit v) e = refl
operators_parts (NodeP' p s parts) e = alone (has_no_operator (NodeP' p s parts)) e
operators_parts (ItemsP' p s parts rest) e = alone (has_no_operator (ItemsP' p s parts rest)) e
operators_parts (SeqP' s parts rest) e =
    all_joined has_no_operator (items-the_row-Pattern _ parts) (variables_of rest) (sym (operators_row parts) ∙ e) (variables_pass has_no_operator (λ x. refl) rest)
operators_parts (FreezerP' p i s parts) e = alone (has_no_operator (FreezerP' p i s parts)) e
operators_parts (ApplyP' op s parts) e = absurd (let f : false ≡ true = e in cc)

operators_var : (x : ℕ) → has_no_operator (Var x) ≡ true
unfolding has_no_operator
operators_var x = refl

pub of_operators : IsTest has_no_operator
of_operators = record { var = operators_var; seq = λ parts rest e. operators-Seq parts rest ∙ e; parts = operators_parts }

-- ---- numbers

module _ (o : SortOrder) where
  numbers_row : {n : Count} (row : Row_of-Pattern n) → row_in_range o row ≡ list_all (is_pattern_in_range o) (items-the_row-Pattern n row)
  unfolding row_in_range
  numbers_row end_of-Pattern = refl
  numbers_row (more_of-Pattern part parts) = ap (λ b. is_pattern_in_range o part && b) (numbers_row parts)

  numbers_hidden : (parts : List Pattern) → row_in_range o (hidden-the_row-Pattern-0 parts) ≡ list_all (is_pattern_in_range o) parts
  numbers_hidden parts = numbers_row (hidden-the_row-Pattern-0 parts) ∙ ap (list_all (is_pattern_in_range o)) (items_hidden-the_row-Pattern-0 parts)

  pub numbers-Node : (p : ℕ) (parts : List Pattern) → is_pattern_in_range o (Node p parts) ≡ (is_production o p && list_all (is_pattern_in_range o) parts)
  unfolding is_pattern_in_range
  numbers-Node p parts = ap (λ b. is_production o p && b) (numbers_hidden parts)

  pub numbers-Apply : (op : Op) (parts : List Pattern) → is_pattern_in_range o (Apply op parts) ≡ list_all (is_pattern_in_range o) parts
  unfolding is_pattern_in_range
  numbers-Apply op parts = numbers_hidden parts

  pub numbers-Items : (p : ℕ) (parts : List Pattern) (rest : Option ℕ)
      → is_pattern_in_range o (Items p parts rest) ≡ (is_production o p && list_all (is_pattern_in_range o) parts)
  unfolding is_pattern_in_range
  numbers-Items p parts rest = ap (λ b. is_production o p && b) (numbers_hidden parts)

  numbers-Seq : (parts : List Pattern) (rest : Option ℕ) → is_pattern_in_range o (Seq parts rest) ≡ list_all (is_pattern_in_range o) parts
  unfolding is_pattern_in_range
  numbers-Seq parts rest = numbers_hidden parts

  numbers_parts : (part : Pattern) → is_pattern_in_range o part ≡ true → list_all (is_pattern_in_range o) (sequence_parts part) ≡ true
  unfolding is_pattern_in_range
  numbers_parts (Var x) e = refl
  numbers_parts (Lit v) e = alone (is_pattern_in_range o (Lit v)) e
  numbers_parts (NodeP' p s parts) e = alone (is_pattern_in_range o (NodeP' p s parts)) e
  numbers_parts (ItemsP' p s parts rest) e = alone (is_pattern_in_range o (ItemsP' p s parts rest)) e
  numbers_parts (SeqP' s parts rest) e =
      all_joined (is_pattern_in_range o) (items-the_row-Pattern _ parts) (variables_of rest) (sym (numbers_row parts) ∙ e) (variables_pass (is_pattern_in_range o) (λ x. refl) rest)
  numbers_parts (FreezerP' p i s parts) e = alone (is_pattern_in_range o (FreezerP' p i s parts)) e
  numbers_parts (ApplyP' op s parts) e = alone (is_pattern_in_range o (ApplyP' op s parts)) e

  numbers_var : (x : ℕ) → is_pattern_in_range o (Var x) ≡ true
  unfolding is_pattern_in_range
  numbers_var x = refl

  pub of_numbers : IsTest (is_pattern_in_range o)
  of_numbers = record { var = numbers_var; seq = λ parts rest e. numbers-Seq parts rest ∙ e; parts = numbers_parts }
