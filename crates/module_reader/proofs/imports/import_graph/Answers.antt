use Rattle.std.proofs.Common.{List, ℕ, [], Vec, Global, subst, ◌∙◌}
use Rattle.std.proofs.lemmas.List.{get_or_read}
use Rattle.module_reader.specs.Joining.{IsGraph, IsMissingAmong, IsMissingIn}
use Rattle.module_reader.proofs.Missing.{missing_in}
use Rattle.module_reader.proofs.Graphs.{handed_on}
use Rattle.module_reader.proofs.imports.import_graph.Goals as goal

pub returns-in_err-import_numbers : goal.returns-in_err-import_numbers
returns-in_err-import_numbers c =
    handed_on (λ (graph : Vec (List ℕ) Global). IsGraph c.args.modules.now c.args.imports.now graph.items) (IsMissingIn c.args.modules.now c.args.imports.now)
    c.from_residual-in_err-import_numbers.result _ c.from_residual-in_err-import_numbers.ensures.1
    (missing_in c.args.modules.now c.args.imports.now c.loop-names.names-index _ c.loop-names-test.true c.loop-names.invariant.0
    (subst (λ names. IsMissingAmong c.args.modules.now names c.in_err-import_numbers.field-0.0) (c.as_slice.ensures ∙ get_or_read c.args.imports.now c.loop-names.names-index c.names-item.result c.loop-names-test.true c.names-item.is [])
    c.in_err-import_numbers.ensures))
