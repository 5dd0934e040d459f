use Rattle.std.proofs.Common.{map, ap, ◌∙◌}
use Rattle.std.specs.Arc.{arc_value}
use Rattle.rule_terms.specs.Language.{Language}
use Rattle.context_transform.specs.Assembling.{assembly_of}
use Rattle.krun.proofs.Ruling.{lists_of_file}
use Rattle.krun.proofs.rules.lines_at.Goals as goal

pub returns-clause-ok : goal.returns-clause-ok
returns-clause-ok g c =
    lists_of_file _ (assembly_of c.in-Ok.definition) c.in-Ok-rule_lines.lines.items c.shapes-cells.result.now (map arc_value c.rules-rules.result.now) c.shapes-cells.ensures
    (c.rules-rules.ensures ∙ ap (λ (d : Language). d.rules) c.deref.ensures) c.in-Ok-rule_lines.ensures c.in-Ok.ensures.ok
