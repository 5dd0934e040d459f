use Rattle.strictness.specs.Places.{declared_in}
use Rattle.strictness.specs.Drafts.{strict_drafts}
use Rattle.strictness.proofs.Outcomes.{rules_ok, rules_fault, rules_exact, rules_exact_fault}
use Rattle.strictness.proofs.rules.heat_cool.Goals as goal

pub returns-clause-ok : goal.returns-clause-ok
returns-clause-ok c = rules_ok (declared_in c.args.grammar.now) (strict_drafts c.args.grammar.now c.args.k) c.strict_rules.result c.strict_rules.ensures

pub returns-clause-fault : goal.returns-clause-fault
returns-clause-fault c = rules_fault (declared_in c.args.grammar.now) (strict_drafts c.args.grammar.now c.args.k) c.strict_rules.result c.strict_rules.ensures

pub returns-clause-exact : goal.returns-clause-exact
returns-clause-exact c = rules_exact (declared_in c.args.grammar.now) (strict_drafts c.args.grammar.now c.args.k) c.strict_rules.result c.strict_rules.ensures

pub returns-clause-exact_fault : goal.returns-clause-exact_fault
returns-clause-exact_fault c = rules_exact_fault (declared_in c.args.grammar.now) (strict_drafts c.args.grammar.now c.args.k) c.strict_rules.result c.strict_rules.ensures
