use Rattle.std.proofs.Common.{◌≡◌, true, false, get_or, sym, ap, ◌∙◌}
use Rattle.std.specs.Str.{bytes_eq}
use Rattle.grammar_terms.specs.Grammar.{sort_number}
use Rattle.grammar_terms.proofs.Numbering.{found_here, found_later}
use Rattle.grammar_terms.proofs.grammar.Grammar.sort_of_bytes.Goals as goal

pub returns-then-eq : goal.returns-then-eq
returns-then-eq c =
    let passes : bytes_eq (get_or c.as_slice-names.result.now c.loop-index.index c.index-names-index.result) c.args.name.now ≡ true =
    ap (λ x. bytes_eq x c.args.name.now) (sym (c.as_slice.ensures ∙ c.index-names-index.is)) ∙ sym c.if-eq.ensures in
    found_here (λ other. bytes_eq other c.args.name.now) c.as_slice-names.result.now c.index-names-index.result c.loop-index.index _ c.loop-index-test.true passes c.loop-index.invariant ∙ ap (λ names. sort_number names c.args.name.now) (c.as_slice-names.ensures ∙ ap (λ grammar. grammar.names) c.self.view_is)

pub loop-index-preserved : goal.loop-index-preserved
loop-index-preserved c =
    let fails : bytes_eq (get_or c.as_slice-names.result.now c.loop-index.index c.index-names-index.result) c.args.name.now ≡ false =
    ap (λ x. bytes_eq x c.args.name.now) (sym (c.as_slice.ensures ∙ c.index-names-index.is)) ∙ sym c.if-eq.ensures in
    found_later (λ other. bytes_eq other c.args.name.now) c.as_slice-names.result.now c.index-names-index.result c.loop-index.index _ c.loop-index-test.true fails c.loop-index.invariant
