use Rattle.std.proofs.Common.{◌≡◌, ◌++◌, codes, map, take}
use Rattle.printed_form.specs.Words.{words_of}
use Rattle.printed_form.specs.Pieces.{each_after, joined_by, list_item}
use Rattle.printed_form.specs.Printed.{part_text, entry_text}
use Rattle.printed_form.proofs.values.+printing.Given as goal

abbrev pub invariant-print_each_after-loop-part : goal.invariant-print_each_after-loop-part
invariant-print_each_after-loop-part l = l.out.items ≡ l.initial.out.items ++ each_after l.separator (map (part_text (words_of l.words)) (take l.part-index l.parts))

abbrev pub invariant-print_joined-loop-index : goal.invariant-print_joined-loop-index
invariant-print_joined-loop-index l = l.out.items ≡ l.initial.out.items ++ joined_by l.separator (map (part_text (words_of l.words)) (take l.index l.parts))

abbrev pub invariant-print_list-loop-index : goal.invariant-print_list-loop-index
invariant-print_list-loop-index l = l.out.items ≡ l.initial.out.items ++ joined_by (codes " ") (map list_item (map (part_text (words_of l.words)) (take l.index l.items)))

abbrev pub invariant-print_map-loop-index : goal.invariant-print_map-loop-index
invariant-print_map-loop-index l = l.out.items ≡ l.initial.out.items ++ joined_by (codes " ") (map (entry_text (words_of l.words)) (take l.index l.entries))
