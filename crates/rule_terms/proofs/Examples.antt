-- The definitions tried on closed rules and configurations, by computation.
use Rattle.std.proofs.Common.{◌≡◌, List, [], ◌∷◌, refl}
use Rattle.std.specs.Prelude.{Some, None}
use Rattle.k_terms.specs.declared.value.Value.{Value, Node, Seq}
use Rattle.k_terms.specs.declared.value.Content.TheVariants.{Seq as SeqContent}
use Rattle.k_terms.specs.Sorts.{SortOrder, same}
use Rattle.rule_terms.specs.declared.plain.Plain.{Plain}
use Rattle.rule_terms.specs.declared.pattern.Pattern.{Pattern, Var, Node as NodeP}
use Rattle.rule_terms.specs.declared.pattern.Body.{Seq as SeqBody}
use Rattle.rule_terms.specs.declared.pattern.CellPat.{CellPat}
use Rattle.rule_terms.specs.declared.rule.Rule.{Rule}
use Rattle.rule_terms.specs.declared.rule.Origin.TheVariants.{Written}
use Rattle.rule_terms.specs.Substitution.{Whole}
use Rattle.rule_terms.specs.Fill.{fill, plain_cell}
use Rattle.rule_terms.specs.Rewriting.{Step, Run}
use Rattle.rule_terms.specs.Open.{open_rules}

-- ---- natural numbers: z() is production 1, s(Nat) 2 and plus(Nat, Nat) 3, all of sort 10
abbrev nat : SortOrder
nat = record { steps = []; productions = 10 ∷ 10 ∷ 10 ∷ [] }

abbrev zero : Value
zero = Node 1 []

abbrev one : Value
one = Node 2 (zero ∷ [])

abbrev front : List Pattern → CellPat
front parts = record { cell = 0; mark = 1; body = SeqBody parts (Some 1) }

-- rule plus(z(), N:Nat) => N
abbrev plus_zero : Rule
plus_zero = record {
  origin = Written 0;
  vars = 10 ∷ 0 ∷ [];
  left = front (NodeP 3 (NodeP 1 [] ∷ Var 0 ∷ []) ∷ []);
  right = front (Var 0 ∷ []);
  when = [];
}

abbrev task : Value → Plain
task v = plain_cell 0 (SeqContent (v ∷ [])) []

sum_step : Step nat (task (Node 3 (zero ∷ one ∷ []))) plus_zero (Whole one ∷ Whole (Seq []) ∷ []) (task one)
unfolding open_rules
sum_step = record {
  suits = record { sorts = (same 10, (same 0, tt)); conditions = tt };
  before = (refl, refl, refl);
  after = (refl, refl, refl);
}

-- a run of that one step
sum_run : Run nat (task (Node 3 (zero ∷ one ∷ []))) ((plus_zero, Whole one ∷ Whole (Seq []) ∷ []) ∷ []) (task one)
unfolding open_rules
sum_run = (task one, sum_step, (refl, refl, refl))

-- the substitution that takes another number does not fill the left side to this configuration
other_number : fill plus_zero.left (Whole zero ∷ Whole (Seq []) ∷ []) ≡ Some (task (Node 3 (zero ∷ zero ∷ [])))
unfolding open_rules
other_number = refl

-- nothing stands for the rest: the pattern is undefined
no_rest : fill plus_zero.left (Whole zero ∷ []) ≡ None
unfolding open_rules
no_rest = refl
