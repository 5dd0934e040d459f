use Rattle.std.proofs.Common.{◌≡◌, drop, map}
use Rattle.sorted_grammar.specs.Naming.{with_words}
use Rattle.sorted_grammar.proofs.declared.SortNames.add_all.Given as goal

abbrev pub invariant-loop-name : goal.invariant-loop-name
invariant-loop-name l = with_words l.self (map (λ name. name.now) (drop l.name-index l.names)) ≡ with_words l.fn.self (map (λ name. name.now) l.names)
