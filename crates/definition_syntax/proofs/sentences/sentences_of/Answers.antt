use Rattle.std.proofs.Common.{◌≡◌, ◌⊎◌, sym, subst}
use Rattle.definition_syntax.specs.declared.fault.SyntaxFault.TheVariants.{Memory}
use Rattle.definition_syntax.specs.Syntaxes.{IsOnlyFault}
use Rattle.definition_syntax.proofs.Exactness.{lex_told}
use Rattle.definition_syntax.proofs.sentences.sentences_of.Goals as goal

pub returns-in-Err-clause-fault : goal.returns-in-Err-clause-fault
returns-in-Err-clause-fault c =
    subst (λ fault. (fault ≡ Memory) ⊎ IsOnlyFault c.args.text.now fault) (sym c.lex_fault.ensures) (lex_told c.args.text.now c.in-Err.fault c.in-Err.ensures.fault)
