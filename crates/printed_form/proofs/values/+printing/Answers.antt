use Rattle.std.proofs.Common.{◌≡◌, ℕ, ◌+◌, List, ◌++◌, codes, map, take, sym, ap, ◌∙◌}
use Rattle.k_terms.specs.declared.value.Value.{Value}
use Rattle.std.proofs.lemmas.Simd.{map-map}
use Rattle.printed_form.specs.Words.{Words, words_of, label_of}
use Rattle.printed_form.specs.Pieces.{quoted, joined_by, list_item, application_text, freezer_text}
use Rattle.printed_form.specs.Printed.{value_text, part_text, entry_text, sequence_text, map_text, list_text}
use Rattle.printed_form.proofs.Texts.{value_text-Int, value_text-Bool, value_text-Str, value_text-Id, value_text-Node, value_text-Items, value_text-Seq, value_text-Map, value_text-List, value_text-Freezer}
use Rattle.printed_form.proofs.Joins.{joined_step, appended, appended_next, three_appended}
use Rattle.printed_form.proofs.values.+printing.Goals as goal

pub print_joined-loop-index-preserved : goal.print_joined-loop-index-preserved
print_joined-loop-index-preserved t c =
    joined_step (part_text (words_of c.args.words.now)) c.args.separator.now c.args.parts.now c.loop-index.index _ _ _ _ _
    c.loop-index-test.true c.index-parts-index.is c.loop-index.invariant c.in_ok-append_between.ensures.ok c.in_ok-print_part.ensures.ok

pub print_value-returns-in-Int : goal.print_value-returns-in-Int
print_value-returns-in-Int t c = record { ok = appended _ _ _ _ _ c.append_int.ensures.ok (sym (ap (value_text _) c.in-Int.is ∙ value_text-Int _ _)) }

pub print_value-returns-in-Bool : goal.print_value-returns-in-Bool
print_value-returns-in-Bool t c = record { ok = appended _ _ _ _ _ c.append_bool.ensures.ok (sym (ap (value_text _) c.in-Bool.is ∙ value_text-Bool _ _)) }

pub print_value-returns-in-Str : goal.print_value-returns-in-Str
print_value-returns-in-Str t c = record { ok = appended _ _ _ _ _ c.append_quoted.ensures.ok (ap quoted c.as_slice.ensures ∙ sym (ap (value_text _) c.in-Str.is ∙ value_text-Str _ _)) }

pub print_value-returns-in-Id : goal.print_value-returns-in-Id
print_value-returns-in-Id t c = record { ok = appended _ _ _ _ _ c.append.ensures.ok (c.word.ensures ∙ sym (ap (value_text _) c.in-Id.is ∙ value_text-Id _ _)) }

pub print_value-returns-in-Node : goal.print_value-returns-in-Node
print_value-returns-in-Node t c =
    record { ok = appended _ _ _ _ _ c.print_application.ensures.ok (ap (λ parts. application_text (label_of (words_of c.args.words.now) c.in-Node.prod) (codes "(") (map (part_text (words_of c.args.words.now)) parts) (codes ")")) c.as_slice-in-Node.ensures ∙ sym (ap (value_text _) c.in-Node.is ∙ value_text-Node _ _ _)) }

pub print_value-returns-in_ok-append-in-Items : goal.print_value-returns-in_ok-append-in-Items
print_value-returns-in_ok-append-in-Items t c =
    record { ok = appended_next _ _ _ _ _ _ _ c.in_ok-append-in-Items.ensures.ok c.print_application-in-Items.ensures.ok (ap (λ parts. codes "." ++ application_text (label_of (words_of c.args.words.now) c.in-Items.prod) (codes "[") (map (part_text (words_of c.args.words.now)) parts) (codes "]")) c.as_slice-in-Items.ensures ∙ sym (ap (value_text _) c.in-Items.is ∙ value_text-Items _ _ _)) }

pub print_value-returns-in-Seq : goal.print_value-returns-in-Seq
print_value-returns-in-Seq t c = record { ok = appended _ _ _ _ _ c.print_sequence.ensures.ok (ap (sequence_text _) c.as_slice-in-Seq.ensures ∙ sym (ap (value_text _) c.in-Seq.is ∙ value_text-Seq _ _)) }

pub print_value-returns-in-Map : goal.print_value-returns-in-Map
print_value-returns-in-Map t c = record { ok = appended _ _ _ _ _ c.print_map.ensures.ok (ap (map_text _) c.as_slice-in-Map.ensures ∙ sym (ap (value_text _) c.in-Map.is ∙ value_text-Map _ _)) }

pub print_value-returns-in-List : goal.print_value-returns-in-List
print_value-returns-in-List t c = record { ok = appended _ _ _ _ _ c.print_list.ensures.ok (ap (list_text _) c.as_slice-in-List.ensures ∙ sym (ap (value_text _) c.in-List.is ∙ value_text-List _ _)) }

pub print_value-returns-in-Freezer : goal.print_value-returns-in-Freezer
print_value-returns-in-Freezer t c =
    record { ok = appended _ _ _ _ _ c.print_freezer.ensures.ok (ap (λ parts. freezer_text (label_of (words_of c.args.words.now) c.in-Freezer.prod) c.in-Freezer.place (map (part_text (words_of c.args.words.now)) parts)) c.as_slice-in-Freezer.ensures ∙ sym (ap (value_text _) c.in-Freezer.is ∙ value_text-Freezer _ _ _ _)) }

pub print_list-loop-index-preserved : goal.print_list-loop-index-preserved
print_list-loop-index-preserved t c =
    let words : Words = words_of c.args.words.now in
    let old : List ℕ = c.args.out.now.items in
    let shown : (items : List Value) → map list_item (map (part_text words) items) ≡ map (λ item. list_item (part_text words item)) items = map-map list_item (part_text words) in
    joined_step (λ item. list_item (part_text words item)) (codes " ") c.args.items.now c.loop-index.index _ old _ _ _
    c.loop-index-test.true c.index-items-index.is
    (c.loop-index.invariant ∙ ap (λ texts. old ++ joined_by (codes " ") texts) (shown (take c.loop-index.index c.args.items.now)))
    c.in_ok-append_between.ensures.ok
    (three_appended _ _ _ _ _ _ _ c.in_ok-append.ensures.ok c.in_ok-print_part.ensures.ok c.in_ok-append-2.ensures.ok)
    ∙ ap (λ texts. old ++ joined_by (codes " ") texts) (sym (shown (take (c.loop-index.index + 1) c.args.items.now)))

pub print_map-loop-index-preserved : goal.print_map-loop-index-preserved
print_map-loop-index-preserved t c =
    joined_step (entry_text (words_of c.args.words.now)) (codes " ") c.args.entries.now c.loop-index.index c.index-entries-index.result _ _ _ _
    c.loop-index-test.true c.index-entries-index.is c.loop-index.invariant c.in_ok-append_between.ensures.ok
    (three_appended _ _ _ _ _ _ _ c.in_ok-print_part.ensures.ok c.in_ok-append.ensures.ok c.in_ok-print_part-2.ensures.ok)
