-- Expressions, conditions, heating and cooling on closed terms, by computation.
use Rattle.std.proofs.Common.{arith, ◌≡◌, ℕ, suc, zero, Bool, true, false, ◌==◌, ◌||◌, List, [], ◌∷◌, refl, ap}
use Rattle.std.specs.Prelude.{Some, None}
use Rattle.std.specs.Option.{option_and_then}
use Rattle.k_terms.specs.declared.value.Value.{Value, Node, Items, Seq, Freezer, Map as Mapping, List as Listed}
use Rattle.k_terms.specs.declared.value.Content.TheVariants.{Cells as NoContent, Seq as SeqContent, Map as MapContent, List as ListContent}
use Rattle.k_terms.specs.declared.op.Op.TheVariants.{DivInt, SetKey}
use Rattle.k_terms.specs.Operators.{as_truth}
use Rattle.k_terms.specs.Sorts.{SortOrder, Below, same, subsort}
use Rattle.rule_terms.specs.declared.plain.Plain.{Plain}
use Rattle.rule_terms.specs.declared.pattern.Pattern.{Pattern, Var, Lit, Node as NodeP, Items as ItemsP, Seq as SeqP, Freezer as FreezerP, Apply}
use Rattle.rule_terms.specs.declared.pattern.Body.{Cells, Seq as SeqBody, Map as MapBody, List as ListBody, Made}
use Rattle.rule_terms.specs.declared.pattern.CellPat.{CellPat}
use Rattle.rule_terms.specs.declared.rule.Cond.TheVariants.{IsSort, NotSort}
use Rattle.rule_terms.specs.declared.rule.Origin.TheVariants.{Heat, Cool}
use Rattle.rule_terms.specs.declared.rule.Rule.{Rule}
use Rattle.rule_terms.specs.Substitution.{Subst, Whole, Bag}
use Rattle.rule_terms.specs.Eval.{eval, IsMet}
use Rattle.rule_terms.specs.Fill.{content_of, plain_cell}
use Rattle.rule_terms.specs.Rewriting.{Step}
use Rattle.rule_terms.specs.Open.{open_rules}
use Rattle.rule_terms.proofs.Alike.{filled}
use Rattle.rule_terms.proofs.NotBelow.{not_below}
use Rattle.rule_terms.proofs.ExamplesPar.{sorts, has_entries, name_x, name_y, number, get_x, commands}

-- ---- expressions

-- the rest of a list of commands
list_with_rest : eval (ItemsP 9 (Lit get_x ∷ []) (Some 0)) (Whole (commands (get_x ∷ get_x ∷ [])) ∷ []) ≡ Some (commands (get_x ∷ get_x ∷ get_x ∷ []))
unfolding open_rules
list_with_rest = refl

-- a rest of another list sort
other_list : eval (ItemsP 9 (Lit get_x ∷ []) (Some 0)) (Whole (Items 8 []) ∷ []) ≡ None
unfolding open_rules
other_list = refl

sequence_with_rest : eval (SeqP (Var 0 ∷ []) (Some 1)) (Whole get_x ∷ Whole (Seq (number 1 ∷ [])) ∷ []) ≡ Some (Seq (get_x ∷ number 1 ∷ []))
unfolding open_rules
sequence_with_rest = refl

unbound : eval (NodeP 1 (Var 1 ∷ [])) (Whole name_x ∷ []) ≡ None
unfolding open_rules
unbound = refl

undefined_part : eval (NodeP 1 (Apply DivInt (Lit (number 1) ∷ Lit (number 0) ∷ []) ∷ [])) [] ≡ None
unfolding open_rules
undefined_part = refl

-- so many productions around a number
nested : ℕ → Value
nested zero = number 0
nested (suc n) = Node 1 (nested n ∷ [])

deepest : eval (NodeP 1 (Lit (nested 398) ∷ [])) [] ≡ Some (nested 399)
unfolding open_rules nested
deepest = refl

too_deep : eval (NodeP 1 (Lit (nested 399) ∷ [])) [] ≡ None
unfolding open_rules nested
too_deep = refl

-- the content itself is no value: the values in it may have the greatest depth
deepest_content : content_of (SeqBody (NodeP 1 (Lit (nested 398) ∷ []) ∷ []) None) [] ≡ Some (SeqContent (nested 399 ∷ []))
unfolding open_rules nested
deepest_content = refl

-- ---- contents

key_twice : content_of (MapBody ((Lit name_x, Lit (number 1)) ∷ (Lit name_x, Lit (number 2)) ∷ []) None) [] ≡ None
unfolding open_rules
key_twice = refl

keys_in_order : content_of (MapBody ((Lit name_y, Lit (number 1)) ∷ (Lit name_x, Lit (number 2)) ∷ []) None) [] ≡ Some (MapContent ((name_x, number 2) ∷ (name_y, number 1) ∷ []))
unfolding open_rules
keys_in_order = refl

rest_in_the_middle : content_of (ListBody (Lit (number 1) ∷ []) (Some 0) (Lit (number 4) ∷ [])) (Whole (Listed (number 2 ∷ number 3 ∷ [])) ∷ []) ≡ Some (ListContent (number 1 ∷ number 2 ∷ number 3 ∷ number 4 ∷ []))
unfolding open_rules
rest_in_the_middle = refl

made_map : content_of (Made (Apply SetKey (Var 0 ∷ Lit name_x ∷ Lit (number 2) ∷ []))) (Whole (Mapping ((name_x, number 1) ∷ [])) ∷ []) ≡ Some (MapContent ((name_x, number 2) ∷ []))
unfolding open_rules
made_map = refl

-- ---- conditions

no_entries : ¬ IsMet sorts (Whole (Mapping []) ∷ []) has_entries
unfolding open_rules
no_entries met = let e : Some false ≡ Some true = ap (option_and_then as_truth) met in cc

-- ---- heating and cooling of the right side of an assignment
-- Sorts: 10 arithmetic expressions, with Int and Id below them, and 11 statements; Int is below KResult.
-- Productions: 1 the sum, 2 the assignment.
abbrev pub imp_sorts : SortOrder
imp_sorts = record { steps = (3, 10) ∷ (6, 10) ∷ (3, 2) ∷ []; productions = 10 ∷ 11 ∷ [] }

abbrev side : List Pattern → CellPat
side parts = record { cell = 0; mark = 0; body = Cells (record { cell = 1; mark = 1; body = SeqBody parts (Some 2) } ∷ []) (Some 3) }

abbrev pub heat : Rule
heat = record {
  origin = Heat 2 2;
  vars = 6 ∷ 10 ∷ 0 ∷ 9 ∷ [];
  left = side (NodeP 2 (Var 0 ∷ Var 1 ∷ []) ∷ []);
  right = side (Var 1 ∷ FreezerP 2 2 (Var 0 ∷ []) ∷ []);
  when = NotSort 1 2 ∷ [];
}

abbrev pub cool : Rule
cool = record {
  origin = Cool 2 2;
  vars = 6 ∷ 10 ∷ 0 ∷ 9 ∷ [];
  left = side (Var 1 ∷ FreezerP 2 2 (Var 0 ∷ []) ∷ []);
  right = side (NodeP 2 (Var 0 ∷ Var 1 ∷ []) ∷ []);
  when = IsSort 1 2 ∷ [];
}

abbrev sum : Value
sum = Node 1 (number 1 ∷ number 2 ∷ [])

abbrev assign : Value → Value
assign v = Node 2 (name_x ∷ v ∷ [])

abbrev hole : Value
hole = Freezer 2 2 (name_x ∷ [])

abbrev state : Plain
state = plain_cell 2 (MapContent ((name_x, number 0) ∷ [])) []

abbrev computation : List Value → Plain
computation items = plain_cell 0 NoContent (plain_cell 1 (SeqContent items) [] ∷ state ∷ [])

abbrev sum_and_above : ℕ → Bool
sum_and_above sort = sort == 10 || sort == 1 || sort == 0

sum_is_no_result : ¬ Below imp_sorts 10 2
sum_is_no_result = not_below imp_sorts sum_and_above refl 10 2 refl refl

abbrev pub heating : Subst
heating = Whole name_x ∷ Whole sum ∷ Whole (Seq []) ∷ Bag (state ∷ []) ∷ []

pub heat_step : Step imp_sorts (computation (assign sum ∷ [])) heat heating (computation (sum ∷ hole ∷ []))
unfolding open_rules
heat_step = record {
  suits = record { sorts = (same 6, (same 10, (same 0, (refl, tt)))); conditions = (sum_is_no_result, tt) };
  before = filled heat.left heating _ refl;
  after = filled heat.right heating _ refl;
}

abbrev pub cooling : Subst
cooling = Whole name_x ∷ Whole (number 3) ∷ Whole (Seq []) ∷ Bag (state ∷ []) ∷ []

number_is_sum_sort : Below imp_sorts 3 10
number_is_sum_sort = subsort 3 10 (0, omega arith, refl)

number_is_result : Below imp_sorts 3 2
number_is_result = subsort 3 2 (2, omega arith, refl)

pub cool_step : Step imp_sorts (computation (number 3 ∷ hole ∷ [])) cool cooling (computation (assign (number 3) ∷ []))
unfolding open_rules
cool_step = record {
  suits = record { sorts = (same 6, (number_is_sum_sort, (same 0, (refl, tt)))); conditions = (number_is_result, tt) };
  before = filled cool.left cooling _ refl;
  after = filled cool.right cooling _ refl;
}
