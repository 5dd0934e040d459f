use Rattle.std.proofs.Common.{[], ◌∙◌}
use Rattle.std.proofs.lemmas.List.{get_or_read}
use Rattle.module_reader.proofs.Naming.{name_added}
use Rattle.module_reader.proofs.names.ModuleNames.new.Goals as goal

pub loop-name-preserved : goal.loop-name-preserved
loop-name-preserved c =
    name_added c.loop-name.set.keys c.insert.new.self.keys c.args.names.now c.loop-name.name-index c.as_slice.result c.loop-name-test.true
    (c.as_slice.ensures ∙ get_or_read c.args.names.now c.loop-name.name-index c.name-item.result c.loop-name-test.true c.name-item.is []) c.requires c.loop-name.invariant
    c.in_ok-insert.ensures.keys
