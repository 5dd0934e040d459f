use Rattle.std.proofs.Common.{◌∙◌}
use Rattle.rule_completion.proofs.Sample.{sample_may_be_completed}
use Rattle.cell_tests.proofs.rules.shown.Goals as goal

pub complete_rule-requires : goal.complete_rule-requires
complete_rule-requires c =
    sample_may_be_completed c.new-tree.result c.in_ok-draft.draft
    (c.new-tree.ensures ∙ (λ i. record { shapes = c.in_ok-shapes.ensures i; held = c.in_ok-held.ensures i; k = 2; sort = 10 })) c.in_ok-draft.ensures
