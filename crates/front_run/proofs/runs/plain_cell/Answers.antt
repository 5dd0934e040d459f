use Rattle.std.proofs.Common.{◌∙◌, List, [], refl, ◌≡◌}
use Rattle.k_terms.specs.declared.value.Value.{Value}
use Rattle.k_terms.specs.declared.value.Content.TheVariants.{Seq as SeqContent}
use Rattle.rule_terms.specs.Fill.{plain_cell}
use Rattle.live_config.specs.Configuration.{plain, tree}
use Rattle.front_run.specs.Front.{one_cell}
use Rattle.front_run.proofs.runs.plain_cell.Goals as goal

one_cell_plain : (values : List Value) → plain_cell 0 (SeqContent values) [] ≡ plain (one_cell values)
unfolding tree
one_cell_plain values = refl

pub returns : goal.returns
returns c =
    (λ i. plain_cell 0 (SeqContent ((c.in_ok-copy_values.ensures.ok ∙ c.as_slice.ensures) i)) (c.new.ensures i)) ∙ one_cell_plain c.args.values.now
