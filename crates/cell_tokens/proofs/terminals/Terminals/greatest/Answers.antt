use Rattle.std.proofs.Common.{ap, ◌∙◌}
use Rattle.production_reader.specs.Allowed.{is_among}
use Rattle.cell_tokens.proofs.Bounds.{bounded}
use Rattle.cell_tokens.proofs.terminals.Terminals.greatest.Goals as goal

pub returns : goal.returns
returns c = λ text is. bounded c.self.inside.texts.keys c.self.inside.greatest text c.self.invariant (ap (λ ts. is_among ts text) c.self.view_is ∙ is)
