use Rattle.std.proofs.Common.{◌≡◌, subst}
use Rattle.sorted_grammar.specs.Naming.{built_in_names, with_words}
use Rattle.sorted_grammar.proofs.declared.SortNames.built_in.Goals as goal

pub returns : goal.returns
unfolding built_in_names
returns c = subst (λ names. c.add_all.new.self ≡ with_words names built_in_names) c.new-sorts.ensures c.in_ok-add_all.ensures
