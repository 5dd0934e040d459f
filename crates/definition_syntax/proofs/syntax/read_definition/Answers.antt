use Rattle.std.proofs.Common.{◌≡◌, ◌⊎◌, sym, subst}
use Rattle.definition_syntax.specs.declared.fault.SyntaxFault.TheVariants.{Memory}
use Rattle.definition_syntax.specs.Syntaxes.{IsOnlyFault, AreOnlySentences}
use Rattle.definition_syntax.proofs.Exactness.{sort_told}
use Rattle.definition_syntax.proofs.syntax.read_definition.Goals as goal

pub returns-in-Err-read_grammar-clause-fault : goal.returns-in-Err-read_grammar-clause-fault
returns-in-Err-read_grammar-clause-fault c =
    subst (λ fault. (fault ≡ Memory) ⊎ IsOnlyFault c.args.text.now fault) (sym c.sort_fault.ensures)
    (sort_told c.args.text.now c.in-Ok.sentences.tokens.items c.as_slice.result.now
    (subst (AreOnlySentences c.args.text.now c.in-Ok.sentences.tokens.items) (sym c.as_slice.ensures.value) c.in-Ok.ensures.ok) c.in-Err-read_grammar.fault
    c.in-Err-read_grammar.ensures.fault c.in-Err-read_grammar.ensures.exact c.in-Err-read_grammar.ensures.exact_fault)
