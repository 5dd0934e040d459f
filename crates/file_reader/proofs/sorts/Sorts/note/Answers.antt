use Rattle.std.proofs.Common.{ap, ◌∙◌, Some}
use Rattle.std.specs.Prelude.{if◌then◌else◌}
use Rattle.production_reader.specs.Allowed.{same_text}
use Rattle.file_reader.specs.Files.{had}
use Rattle.file_reader.proofs.Having.{context_of, inserted}
use Rattle.file_reader.proofs.sorts.Sorts.note.Goals as goal

pub returns : goal.returns
returns c = λ other.
    ap (λ entries. had (context_of entries) other) c.in_ok-insert.ensures.entries
    ∙ inserted c.self.inside.had.entries c.args.sort c.args.is_list other
    ∙ ap (λ context. if same_text other c.args.sort.items then Some c.args.is_list else had context other) c.self.view_is
