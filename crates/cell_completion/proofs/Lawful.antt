-- The law: a least completion is what the code builds, so there is one at most.
use Rattle.std.proofs.Common.{◌≡◌, Some, sym, ◌∙◌}
use Rattle.cell_completion.specs.Laws.{HasOneCompletion}
use Rattle.cell_completion.proofs.Completeness.{completed_is}

pub has_one_completion : HasOneCompletion
has_one_completion shapes ws declared written one other first second =
    let same : Some one ≡ Some other = sym (completed_is shapes ws declared written one first) ∙ completed_is shapes ws declared written other second in cc
