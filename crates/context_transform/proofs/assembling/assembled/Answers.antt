use Rattle.std.specs.Arc.{arc_value}
use Rattle.context_transform.proofs.Closings.{cells_end, rules_end, all_end}
use Rattle.context_transform.proofs.SoundLanguage.{sound_language}
use Rattle.context_transform.proofs.assembling.assembled.Goals as goal

pub returns-in-Err-clause-fault : goal.returns-in-Err-clause-fault
returns-in-Err-clause-fault c =
    cells_end c.args.text.now c.requires.short c.args.definition c.requires.definition c.one_tree.ensures c.one_refusal.ensures c.not_both.ensures
    c.as_slice-tokens.result.now c.as_slice-sentences.result.now c.as_slice-tokens.ensures c.as_slice-sentences.ensures c.in-Err.fault c.in-Err.ensures.fault

pub returns-in-Err-rules_of_cells-clause-fault : goal.returns-in-Err-rules_of_cells-clause-fault
returns-in-Err-rules_of_cells-clause-fault c =
    rules_end c.args.text.now c.requires.short c.args.definition c.requires.definition c.one_tree.ensures c.one_refusal.ensures c.not_both.ensures
    c.as_slice-tokens.result.now c.as_slice-sentences.result.now c.as_slice-tokens.ensures c.as_slice-sentences.ensures
    c.in-Ok.cells.tree c.cells_of.new.names c.in-Ok.ensures.ok c.sound.ensures c.written_rules.ensures c.written_strict.ensures
    c.in-Err-rules_of_cells.fault c.in-Err-rules_of_cells.ensures.fault

pub defs_of-requires : goal.defs_of-requires
defs_of-requires c =
    sound_language c.args.text.now c.args.definition c.requires.definition.is c.declared_soundly.ensures c.cells_declare_literals.ensures c.written_rules_sound.ensures c.strict_rules_sound.ensures
    c.as_slice-tokens.result.now c.as_slice-sentences.result.now c.in-Ok.cells.tree c.cells_of.new.names c.in-Ok.ensures.ok c.sound.ensures
    c.in-Ok-rules_of_cells.rules.items c.rules_of_cells.new.names c.in-Ok-rules_of_cells.ensures.ok

pub returns-clause-ok : goal.returns-clause-ok
returns-clause-ok c =
    all_end c.args.text.now c.requires.short c.args.definition c.requires.definition c.one_tree.ensures c.one_refusal.ensures c.not_both.ensures
    c.as_slice-tokens.result.now c.as_slice-sentences.result.now c.as_slice-tokens.ensures c.as_slice-sentences.ensures
    c.in-Ok.cells.tree c.cells_of.new.names c.in-Ok.ensures.ok c.sound.ensures c.written_rules.ensures c.written_strict.ensures
    c.in-Ok-rules_of_cells.rules.items (arc_value c.in-Ok-defs_of.defs) c.rules_of_cells.new.names c.in-Ok-defs_of.ensures c.in-Ok-rules_of_cells.ensures.ok
