use Rattle.std.proofs.Common.{◌∙◌, subst, sym}
use Rattle.std.specs.List.{AllByRecursion}
use Rattle.rule_reader.specs.Rules.{IsRuleSentence}
use Rattle.rule_completion.specs.Rules.{IsWrittenDraft}
use Rattle.context_transform.proofs.Telling.{rules_are_rules, strict_written}
use Rattle.context_transform.proofs.assembling.rules_of_cells.Goals as goal

pub all_rules-requires-clause-rules : goal.all_rules-requires-clause-rules
all_rules-requires-clause-rules c =
    subst (AllByRecursion IsRuleSentence) (sym (c.as_slice-rules.ensures ∙ c.in-Ok.ensures)) (rules_are_rules c.args.sentences.now)

pub all_rules-requires-clause-written : goal.all_rules-requires-clause-written
all_rules-requires-clause-written c =
    subst (AllByRecursion (IsWrittenDraft c.args.cells.now.tree)) (sym (c.as_slice-strict.ensures ∙ c.requires.strict))
    (strict_written c.written_strict.ensures c.args.cells.now.tree c.args.grammar.now c.sound.ensures)
