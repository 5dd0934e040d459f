-- The law of steps at the front.
use Rattle.std.specs.Prelude.{List}
use Rattle.k_terms.specs.declared.value.Value.{Value}
use Rattle.rule_terms.specs.Language.{Language}
use Rattle.live_config.specs.Steps.{StepsHaveSites}
use Rattle.front_run.specs.Front.{one_cell, AreFrontRules}

-- where all rules are at the front, each plain step from the one cell has a site
abbrev pub FrontStepsHaveSites : Type 0
FrontStepsHaveSites = (d : Language) (values : List Value) → AreFrontRules d → StepsHaveSites d (one_cell values)
