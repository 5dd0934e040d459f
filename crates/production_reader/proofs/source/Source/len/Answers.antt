use Rattle.production_reader.proofs.source.Source.len.Goals as goal
use Rattle.production_reader.proofs.Lexemes.{lexemes-length}
use Rattle.std.proofs.Common.{sym, ◌∙◌, ap, length}

abbrev pub returns : goal.returns
returns c = sym (lexemes-length c.self.inside.text.now 0 c.self.inside.tokens.now) ∙ ap length c.self.view_is
