use Rattle.std.proofs.Common.{◌∙◌, ap, sym, subst, [], List}
use Rattle.k_lexer.specs.declared.token.Token.{Token}
use Rattle.file_reader.specs.declared.sentence.Sentence.{Sentence}
use Rattle.program_tokens.specs.Base.{with_tokens}
use Rattle.definition_syntax.specs.Syntaxes.{IsOnlyDefinition}
use Rattle.definition_syntax.proofs.Exactness.{definition_only}
use Rattle.definition_syntax.proofs.syntax.definition_of.Goals as goal

pub returns-clause-ok : goal.returns-clause-ok
returns-clause-ok c =
    subst (λ (parts : List Token × List Sentence). IsOnlyDefinition c.args.text.now (record { tokens = parts.0; sentences = parts.1; grammar = c.args.grammar; names = c.in-Ok.names }))
    (λ i. (sym c.from_vec.ensures i, sym c.from_vec-2.ensures i))
    (definition_only c.args.text.now c.args.sentences.tokens.items c.args.sentences.sentences.items c.requires.are c.args.grammar c.requires.grammar c.requires.only c.requires.no_fault
    c.in-Ok.names (c.in-Ok.ensures ∙ ap (with_tokens c.args.text.now []) c.as_slice.ensures.value))
