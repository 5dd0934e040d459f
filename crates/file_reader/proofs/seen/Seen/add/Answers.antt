use Rattle.std.proofs.Common.{ap, ◌∙◌, ◌++◌, ◌∷◌, []}
use Rattle.production_reader.specs.Allowed.{is_among}
use Rattle.file_reader.proofs.Seeing.{added_key}
use Rattle.file_reader.proofs.seen.Seen.add.Goals as goal

pub returns : goal.returns
returns c =
    added_key c.self.inside.names.keys c.insert.new.self.keys c.args.name (ap (λ names. is_among names c.args.name.items) c.self.view_is ∙ c.requires) c.in_ok-insert.ensures.keys
    ∙ ap (λ names. names ++ c.args.name.items ∷ []) c.self.view_is
