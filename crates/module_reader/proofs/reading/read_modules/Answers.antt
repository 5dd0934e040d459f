use Rattle.std.proofs.Common.{◌≡◌, ◌⊎◌, sym, subst, ◌∙◌}
use Rattle.module_reader.specs.declared.fault.ModuleFault.TheVariants.{Memory}
use Rattle.module_reader.specs.Faults.{IsFault}
use Rattle.module_reader.proofs.Sources.{tokens_within}
use Rattle.module_reader.proofs.Outcomes.{sentences_length, stop_fault, stop_exact, stop_exact_fault, read_ok, read_fault, read_exact, read_exact_fault}
use Rattle.module_reader.proofs.reading.read_modules.Goals as goal

pub read_file-requires : goal.read_file-requires
read_file-requires c = tokens_within c.args.text.now c.args.tokens.now c.requires

pub join-requires-clause-sentences : goal.join-requires-clause-sentences
join-requires-clause-sentences c = sentences_length c.args.text.now c.args.tokens.now c.in-Ok.file c.in-Ok.ensures

pub returns-in-Ok-clause-ok : goal.returns-in-Ok-clause-ok
returns-in-Ok-clause-ok c = read_ok c.args.text.now c.args.tokens.now c.in-Ok.file c.in-Ok.ensures c.join.result c.join.ensures

pub returns-in-Ok-clause-fault : goal.returns-in-Ok-clause-fault
returns-in-Ok-clause-fault c = read_fault c.args.text.now c.args.tokens.now c.in-Ok.file c.in-Ok.ensures c.join.result c.join.ensures

pub returns-in-Ok-clause-exact : goal.returns-in-Ok-clause-exact
returns-in-Ok-clause-exact c = read_exact c.args.text.now c.args.tokens.now c.in-Ok.file c.in-Ok.ensures c.join.result c.join.ensures

pub returns-in-Ok-clause-exact_fault : goal.returns-in-Ok-clause-exact_fault
returns-in-Ok-clause-exact_fault c = read_exact_fault c.args.text.now c.args.tokens.now c.in-Ok.file c.in-Ok.ensures c.join.result c.join.ensures

pub returns-in-Err-clause-fault : goal.returns-in-Err-clause-fault
returns-in-Err-clause-fault c =
    subst (λ f. (f ≡ Memory) ⊎ IsFault c.args.text.now c.args.tokens.now f) (sym c.stop_fault.ensures) (stop_fault c.args.text.now c.args.tokens.now c.in-Err.stop c.in-Err.ensures)

pub returns-in-Err-clause-exact : goal.returns-in-Err-clause-exact
returns-in-Err-clause-exact c = λ modules m. c.stop_fault.ensures ∙ stop_exact c.args.text.now c.args.tokens.now c.in-Err.stop c.in-Err.ensures modules m

pub returns-in-Err-clause-exact_fault : goal.returns-in-Err-clause-exact_fault
returns-in-Err-clause-exact_fault c = λ fault f.
    subst (λ e. (e ≡ Memory) ⊎ (e ≡ fault)) (sym c.stop_fault.ensures) (stop_exact_fault c.args.text.now c.args.tokens.now c.in-Err.stop c.in-Err.ensures fault f)
