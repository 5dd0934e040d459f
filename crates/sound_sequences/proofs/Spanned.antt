-- The shape of a reading has its tokens in order, within those that are read.
use Rattle.std.proofs.Common.{◌≡◌, ℕ, ◌+◌, ◌≤◌, List, [], ◌∷◌, length, Option, Some, None, sym, subst, arith}
use Rattle.grammar_terms.specs.declared.production.Production.{Production}
use Rattle.grammar_terms.specs.declared.shape.Shape.{Shape, Leaf, Items}
use Rattle.grammar_terms.specs.declared.word.Word.{Word}
use Rattle.grammar_terms.specs.Grammar.{Syntax}
use Rattle.grammar_terms.specs.Reading.{IsBetween, Reads, Parts, Elements, Child, Sequence, Joins, IsReading}
use Rattle.grammar_terms.specs.Reading.Reads.{reads_plain, reads_bracket, reads_list, reads_rest, reads_empty}
use Rattle.grammar_terms.specs.Reading.Parts.{no_item, terminal_item, sort_item}
use Rattle.grammar_terms.specs.Reading.Elements.{no_element, first_element, next_element}
use Rattle.grammar_terms.specs.Reading.Child.{stands_leaf, stands_wild, stands_token, stands_reading, stands_nothing, stands_sequence}
use Rattle.grammar_terms.specs.Reading.Sequence.{one_part, next_part}
use Rattle.grammar_terms.specs.Reading.Joins.{joins_item, joins_variable}
use Rattle.sound_sequences.proofs.Spans.{Spans, AllSpans, spans-Leaf, spans-Node, spans-Items, spans_earlier, spans_later, all_later, spans_more}

between_order : (words : List Word) (separator : List ℕ) (at next : ℕ) → IsBetween words separator at next → at ≤ next
between_order words [] at next between = omega (arith, between)
between_order words (byte ∷ bytes) at next between = let e = between.1 in omega (arith, e)

module _ (g : Syntax) (words : List Word) where
  leaf_spans : (at : ℕ) (shape : Shape) → shape ≡ Leaf at → Spans at (at + 1) shape
  leaf_spans at shape is = subst (Spans at (at + 1)) (sym is) (spans-Leaf at (at + 1) at (omega arith) (omega arith))

  -- the one shape of a bracket
  only_spans : (from past : ℕ) (shape : Shape) → AllSpans from past (shape ∷ []) → Spans from past shape
  only_spans from past shape spans = spans_later from spans.0 past shape spans.2 spans.1

  nothing_spans : (at : ℕ) (shape : Shape) (p : ℕ) → shape ≡ Items p [] None → Spans at (at + 1) shape
  nothing_spans at shape p is = subst (Spans at (at + 1)) (sym is) (spans-Items at at (at + 1) p [] None (omega arith) (omega arith))

  mutual
    reads_spans : {p from past : ℕ} {shape : Shape} → Reads g words p from past shape → Spans from past shape
    reads_spans (reads_plain p from past production shapes shape plain no_bracket parts is) =
        subst (Spans from past) (sym is) (spans-Node from past p shapes (parts_spans parts))
    reads_spans (reads_bracket p from past production shape plain bracket parts) = only_spans from past shape (parts_spans parts)
    reads_spans (reads_list p from past element separator shapes shape list elements wild is) =
        subst (Spans from past) (sym is) (spans-Items from past past p shapes None (elements_spans elements) (omega arith))
    reads_spans (reads_rest p from at next element separator first shapes shape list elements between rest is) =
        let order = between_order words separator at next between in
        subst (Spans from (next + 1)) (sym is) (spans-Items from at (next + 1) p (first ∷ shapes) (Some next) (elements_spans elements) (order, omega arith))
    reads_spans (reads_empty p at element separator shape list empty is) = nothing_spans at shape p is

    parts_spans : {p : ℕ} {production : Production} {count from at : ℕ} {shapes : List Shape} → Parts g words p production count from at shapes
        → AllSpans from at shapes
    parts_spans (no_item p production from) = omega arith
    parts_spans (terminal_item p production count from at shapes text parts item here) = all_later from at (at + 1) shapes (omega arith) (parts_spans parts)
    parts_spans (sort_item p production count from at past shapes sort shape parts item child) = spans_more from at past shapes shape (parts_spans parts) (child_spans child)

    elements_spans : {p sort : ℕ} {separator : List ℕ} {from past : ℕ} {shapes : List Shape} → Elements g words p sort separator from past shapes
        → AllSpans from past shapes
    elements_spans (no_element p sort separator from) = omega arith
    elements_spans (first_element p sort separator from past shape child) = (past, child_spans child, omega arith)
    elements_spans (next_element p sort separator from at next past first shapes shape elements between child) =
        let order = between_order words separator at next between in
        spans_more from at past (first ∷ shapes) shape (elements_spans elements) (spans_earlier at next past shape order (child_spans child))

    pub child_spans : {place : Option (ℕ × ℕ)} {sort from past : ℕ} {shape : Shape} → Child g words place sort from past shape → Spans from past shape
    child_spans (stands_leaf place sort at own shape leaf fits is) = leaf_spans at shape is
    child_spans (stands_wild place sort at shape wild named is) = leaf_spans at shape is
    child_spans (stands_token place sort at shape asked is) = leaf_spans at shape is
    child_spans (stands_reading place sort from past p production shape reads at fits may takes) = reads_spans reads
    child_spans (stands_nothing place sort at shape k empty is) = nothing_spans at shape 0 is
    child_spans (stands_sequence place sort from at first second shapes shape k rules opens parts closes is) =
        let inner = sequence_spans parts in
        subst (Spans from (at + 1)) (sym is)
        (spans_earlier from (from + 1) (at + 1) (Items 0 (first ∷ second ∷ shapes) None) (omega arith)
        (spans-Items (from + 1) at (at + 1) 0 (first ∷ second ∷ shapes) None inner (omega arith)))

    sequence_spans : {from past : ℕ} {shapes : List Shape} → Sequence g words from past shapes → AllSpans from past shapes
    sequence_spans (one_part from past shape part) = (past, joins_spans part, omega arith)
    sequence_spans (next_part from at past shapes shape parts arrow part) =
        spans_more from at past shapes shape (sequence_spans parts) (spans_earlier at (at + 1) past shape (omega arith) (joins_spans part))

    joins_spans : {from past : ℕ} {shape : Shape} → Joins g words from past shape → Spans from past shape
    joins_spans (joins_item from past shape child) = child_spans child
    joins_spans (joins_variable at shape word is) = leaf_spans at shape is

  -- all tokens of a reading stand among those that are read
  pub reading_spans : (sort : ℕ) (shape : Shape) → IsReading g sort words shape → Spans 0 (length words) shape
  reading_spans sort shape reading = child_spans reading
