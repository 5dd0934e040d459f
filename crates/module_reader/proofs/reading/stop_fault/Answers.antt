use Rattle.std.proofs.Common.{◌≤◌, subst}
use Rattle.production_reader.specs.Lexemes.{lexemes}
use Rattle.file_reader.specs.Reads.{IsFileStop}
use Rattle.production_reader.proofs.Lexemes.{lexemes-length}
use Rattle.module_reader.proofs.reading.stop_fault.Goals as goal

pub place-requires : goal.place-requires
place-requires c =
    let is = subst (IsFileStop (lexemes c.args.text.now c.args.tokens.now)) c.in-Expected.is c.requires in
    subst (λ n. c.in-Expected.at ≤ n) (lexemes-length c.args.text.now 0 c.args.tokens.now) is.stops.within
