use Rattle.std.proofs.Common.{ap, ◌∙◌}
use Rattle.file_reader.specs.Files.{had}
use Rattle.file_reader.proofs.Having.{found}
use Rattle.file_reader.proofs.sorts.Sorts.find.Goals as goal

pub returns : goal.returns
returns c = c.copied.ensures ∙ c.get.ensures.value ∙ found c.self.inside.had c.args.sort.now ∙ ap (λ context. had context c.args.sort.now) c.self.view_is
