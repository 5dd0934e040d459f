use Rattle.std.proofs.Common.{true, false}
use Rattle.rule_completion.specs.Writing.{written}
use Rattle.rule_completion.proofs.Few.{completion_few}
use Rattle.rule_completion.proofs.Roots.{root_on_side}
use Rattle.rule_completion.proofs.Refused.{refused_over}
use Rattle.rule_completion.proofs.complete.complete_rule.Goals as goal

pub rule_of-requires-clause-few : goal.rule_of-requires-clause-few
rule_of-requires-clause-few c =
    completion_few c.args.tree.now.shapes (written c.args.draft.now) c.sound.ensures.few_cells c.requires.few_marks c.in_ok-whole.whole c.in_ok-whole.ensures.ok.is

pub rule_of-requires-clause-left : goal.rule_of-requires-clause-left
rule_of-requires-clause-left c = root_on_side c.args.tree.now c.sound.ensures c.args.draft.now c.in_ok-whole.whole true c.in_ok-whole.ensures.ok c.in_ok-whole.ensures.placed

pub rule_of-requires-clause-right : goal.rule_of-requires-clause-right
rule_of-requires-clause-right c = root_on_side c.args.tree.now c.sound.ensures c.args.draft.now c.in_ok-whole.whole false c.in_ok-whole.ensures.ok c.in_ok-whole.ensures.placed

pub returns-clause-refused : goal.returns-clause-refused
returns-clause-refused c =
    refused_over c.args.tree.now c.args.draft.now c.in-Ok.rule c.in_ok-whole.ensures.placed
    (record { whole = c.in_ok-whole.whole; least = c.in_ok-whole.ensures.ok; is = c.in-Ok.ensures }) c.limited.result c.limited.ensures.over
