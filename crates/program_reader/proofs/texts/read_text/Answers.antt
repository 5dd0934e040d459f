use Rattle.program_tokens.proofs.Once.{one_split}
use Rattle.program_reader.proofs.Determined.{exactly, exactly_refused}
use Rattle.program_reader.proofs.texts.read_text.Goals as goal

pub returns-clause-exact : goal.returns-clause-exact
returns-clause-exact c =
    exactly one_split c.args.grammar.now c.args.names.now c.args.sort c.args.text.now c.read_program.new.names c.read_program.result
    c.read_program.ensures.ok c.read_program.ensures.refusal

pub returns-clause-exact_refusal : goal.returns-clause-exact_refusal
returns-clause-exact_refusal c =
    exactly_refused one_split c.args.grammar.now c.args.names.now c.args.sort c.args.text.now c.read_program.new.names c.read_program.result
    c.read_program.ensures.ok c.read_program.ensures.refusal
