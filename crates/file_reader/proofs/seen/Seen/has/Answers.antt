use Rattle.std.proofs.Common.{ap, ◌∙◌}
use Rattle.production_reader.specs.Allowed.{is_among}
use Rattle.file_reader.proofs.Seeing.{among_keys}
use Rattle.file_reader.proofs.seen.Seen.has.Goals as goal

pub returns : goal.returns
returns c = c.contains.ensures ∙ among_keys c.self.inside.names.keys c.args.name.now ∙ ap (λ names. is_among names c.args.name.now) c.self.view_is
