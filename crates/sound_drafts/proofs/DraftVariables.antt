-- The variables of the draft of a rule: they are declared, and stand on the left.
use Rattle.grammar_terms.specs.Builtins.{with_builtins}
use Rattle.sorted_grammar.specs.Laws.{HaveNames}
use Rattle.sound_drafts.specs.Laws.{KnowsItsVariables, BindsItsVariables}
use Rattle.sound_drafts.proofs.ReadRules.{read_of}
use Rattle.sound_drafts.proofs.BuiltinSorts.{sorts_named}
use Rattle.sound_drafts.proofs.Known.{known, rests}
use Rattle.sound_drafts.proofs.Bound.{bound}

pub knows_its_variables : KnowsItsVariables
knows_its_variables d g before text tokens rule after draft tree is =
    let read = read_of d g before text tokens rule after draft is in
    record { known = known d g draft tree read.made; rests = rests d g draft tree read.made }

pub binds_its_variables : HaveNames → BindsItsVariables
binds_its_variables names sentences grammar d before text tokens rule after draft is_grammar tree is =
    let g = with_builtins grammar in
    bound d g draft tree (read_of d g before text tokens rule after draft is) (sorts_named names sentences grammar is_grammar)
