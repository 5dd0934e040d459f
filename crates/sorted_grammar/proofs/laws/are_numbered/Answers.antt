use Rattle.std.proofs.Common.{refl}
use Rattle.sorted_grammar.specs.Naming.{built_in_names}
use Rattle.sorted_grammar.proofs.laws.are_numbered.Goals as goal

pub returns : goal.returns
unfolding built_in_names
returns c = record { k = refl; kitem = refl; kresult = refl; int = refl; bool = refl; string = refl; id = refl; map = refl; list = refl; bag = refl }
