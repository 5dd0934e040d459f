use Rattle.std.proofs.Common.{rules}
use Rattle.rule_terms.proofs.Sample.{sample_is_sound}
use Rattle.base_tests.proofs.rules.defs.Goals as goal

pub new-requires-3 : goal.new-requires-3
new-requires-3 c = sample_is_sound c.args.steps.now c.in_ok-text.field-0 c.args.at c.in_ok-text-2.field-0 _ (search rules)
