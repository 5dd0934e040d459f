use Rattle.std.proofs.Common.{◌≡◌, ◌∙◌, List, length, None, sym, subst}
use Rattle.grammar_terms.specs.Cuts.{Has, Tells}
use Rattle.grammar_terms.specs.Reading.{IsReading}
use Rattle.span_rows.specs.declared.row.Row.{Row}
use Rattle.span_table.specs.Codes.{IsCode}
use Rattle.span_rows.specs.Rows.{Stands}
use Rattle.span_table.specs.Table.{rows_of}
use Rattle.span_table.specs.Choices.{TellsOf}
use Rattle.span_table.proofs.Telling.{are_codes, readings_tell, told_ok}
use Rattle.span_table.proofs.readings.all_readings.Goals as goal

pub readings_in-requires : goal.readings_in-requires
readings_in-requires c =
    let table = rows_of c.as_slice.result.now c.in_ok-columns.columns.items in
    let words = c.args.tokens.now in
    let same : c.rows_of-rows.result.now ≡ table 0 (length words) =
    c.rows_of-rows.ensures ∙ (λ i. rows_of ((c.as_slice-2.ensures.value ∙ sym c.as_slice.ensures.value) i) (c.as_slice-3.ensures.value i) 0 (length words)) in
    subst (λ (rows : List Row). (made : Row) → Has rows made → Stands c.args.grammar.now None c.args.sort made.key → IsCode made.code) (sym same)
    (are_codes c.args.grammar.now c.args.sort words table c.in_ok-columns.ensures.full c.in_ok-columns.ensures.sound)

pub returns : goal.returns
returns c =
    let table = rows_of c.as_slice.result.now c.in_ok-columns.columns.items in
    let words = c.args.tokens.now in
    let same : c.rows_of-rows.result.now ≡ table 0 (length words) =
    c.rows_of-rows.ensures ∙ (λ i. rows_of ((c.as_slice-2.ensures.value ∙ sym c.as_slice.ensures.value) i) (c.as_slice-3.ensures.value i) 0 (length words)) in
    told_ok (TellsOf c.args.grammar.now c.args.sort c.rows_of-rows.result.now) (Tells (IsReading c.args.grammar.now c.args.sort words)) c.readings_in.result
    (λ readings told. readings_tell c.args.grammar.now c.args.sort words table c.in_ok-columns.ensures.full c.in_ok-columns.ensures.sound readings
    (subst (λ (rows : List Row). TellsOf c.args.grammar.now c.args.sort rows readings) same told)) c.readings_in.ensures
