use Rattle.std.proofs.Common.{ap, ◌∙◌}
use Rattle.std.specs.Prelude.{nat_eq}
use Rattle.indexmap.specs.IndexMap.{insert_entry}
use Rattle.rule_tokens.proofs.Telling.{tells_more}
use Rattle.rule_tokens.proofs.table.Table.note.Goals as goal

pub returns : goal.returns
returns c = λ before tells.
    tells_more before c.args.self.now c.insert.new.self.entries c.args.name c.args.sort c.find.result c.with_sort-written.result c.find.ensures c.with_sort-written.ensures
    (c.in_ok-insert.ensures.entries ∙ ap (λ entries. insert_entry nat_eq entries c.args.name c.with_sort-written.result) c.self.view_is) tells
