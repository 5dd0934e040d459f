use Rattle.std.proofs.Common.{◌≡◌, map, drop}
use Rattle.std.specs.List.{position_from}
use Rattle.std.specs.Str.{bytes_eq}
use Rattle.rule_tokens.specs.Forms.{cell_number}
use Rattle.rule_tokens.proofs.forms.cell_number.Given as goal

abbrev pub invariant-loop-index : goal.invariant-loop-index
invariant-loop-index l = cell_number (map (λ cell. cell.name) l.cells) l.name ≡ position_from (λ other. bytes_eq other l.name) l.index (drop l.index (map (λ cell. cell.name) l.cells))
