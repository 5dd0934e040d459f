use Rattle.std.proofs.Common.{◌≡◌, ◌⊎◌, sym, subst}
use Rattle.k_lexer.specs.Lexing.{AreTokens}
use Rattle.definition_syntax.specs.declared.fault.SyntaxFault.TheVariants.{Memory}
use Rattle.definition_syntax.specs.Syntaxes.{IsOnlyFault, AreOnlySentences}
use Rattle.definition_syntax.proofs.Exactness.{module_told, sentences_only}
use Rattle.definition_syntax.proofs.sentences.closed.Goals as goal

pub returns-in-Err-clause-fault : goal.returns-in-Err-clause-fault
returns-in-Err-clause-fault c =
    subst (λ fault. (fault ≡ Memory) ⊎ IsOnlyFault c.args.text.now fault) (sym c.module_fault.ensures)
    (module_told c.args.text.now c.as_slice.result.now (subst (AreTokens c.args.text.now) (sym c.as_slice.ensures.value) c.requires) c.in-Err.fault
    c.in-Err.ensures.fault c.in-Err.ensures.exact c.in-Err.ensures.exact_fault)

pub returns-clause-ok : goal.returns-clause-ok
returns-clause-ok c =
    subst (λ tokens. AreOnlySentences c.args.text.now tokens c.in-Ok-sentences.sentences.items) c.as_slice.ensures.value
    (sentences_only c.args.text.now c.as_slice.result.now (subst (AreTokens c.args.text.now) (sym c.as_slice.ensures.value) c.requires) c.in-Ok.modules
    c.in-Ok.ensures.ok (λ others are. sym (c.in-Ok.ensures.exact others are)) c.in-Ok.ensures.exact_fault c.in-Ok-sentences.sentences.items c.in-Ok-sentences.ensures)
