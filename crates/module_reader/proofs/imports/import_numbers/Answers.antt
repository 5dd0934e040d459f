use Rattle.std.proofs.Common.{[], sym, ap, ◌∙◌}
use Rattle.std.proofs.lemmas.List.{get_or_read}
use Rattle.k_terms.specs.Names.{number_of}
use Rattle.module_reader.proofs.Naming.{number_added}
use Rattle.module_reader.proofs.Missing.{missing_told}
use Rattle.module_reader.proofs.imports.import_numbers.Goals as goal

pub returns-in_default : goal.returns-in_default
returns-in_default c =
    missing_told c.args.modules.now c.args.imports.now c.loop-name.name-index c.name-item.result c.no_module.result c.loop-name-test.true c.loop-name.invariant.0
    (sym c.in_default.is ∙ c.number.ensures ∙ ap (number_of c.args.modules.now) c.as_slice.ensures)
    (get_or_read c.args.imports.now c.loop-name.name-index c.name-item.result c.loop-name-test.true c.name-item.is []) c.no_module.ensures

pub loop-name-preserved : goal.loop-name-preserved
loop-name-preserved c =
    number_added c.args.modules.now c.args.imports.now c.loop-name.name-index c.as_slice.result.now c.in-Some.number c.loop-name.numbers.items c.push.new.self.items c.loop-name-test.true
    (c.as_slice.ensures ∙ get_or_read c.args.imports.now c.loop-name.name-index c.name-item.result c.loop-name-test.true c.name-item.is [])
    (sym c.in-Some.is ∙ c.number.ensures) c.loop-name.invariant c.in_ok-push.ensures.items
