use Rattle.std.proofs.Common.{◌≡◌, ◌≤◌, drop, length}
use Rattle.production_reader.specs.Lexemes.{span}
use Rattle.production_reader.specs.Allowed.{is_among}
use Rattle.cell_tokens.specs.Signs.{ends}
use Rattle.cell_tokens.specs.Forms.{last_place}
use Rattle.cell_tokens.proofs.Runs.{later}
use Rattle.cell_tokens.proofs.first.further_size.Given as goal

abbrev pub invariant-loop-place : goal.invariant-loop-place
invariant-loop-place l = record {
  sofar : last_place (λ end. is_among l.terminals (span l.text l.first.start end)) (ends l.first.end l.rest)
      ≡ later l.size l.place (last_place (λ end. is_among l.terminals (span l.text l.first.start end)) (ends l.end (drop l.place l.rest)));
  past : l.first.end ≤ l.end;
  inside : l.end ≤ length l.text;
  fewer : l.size ≤ l.place;
}
