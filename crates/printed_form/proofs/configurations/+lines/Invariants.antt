use Rattle.std.proofs.Common.{◌≡◌, ◌++◌, codes, map, take}
use Rattle.printed_form.specs.Words.{words_of}
use Rattle.printed_form.specs.Configurations.{child_lines, names_of}
use Rattle.printed_form.proofs.configurations.+lines.Given as goal

abbrev pub invariant-children_lines-loop-child : goal.invariant-children_lines-loop-child
invariant-children_lines-loop-child l = l.lines.items ≡ map (child_lines (words_of l.words) (names_of l.cells) (l.indent ++ codes "  ")) (take l.child-index l.children)
