use Rattle.std.proofs.Common.{sym}
use Rattle.std.proofs.lemmas.List.{append-nil}
use Rattle.small_form.proofs.Terms.{variables_of-Var, variables_of-Node, variables_of-other}
use Rattle.small_form.proofs.names.+variables.Goals as goal

pub push_variables-returns-in_ok-push-in-Var : goal.push_variables-returns-in_ok-push-in-Var
push_variables-returns-in_ok-push-in-Var t c = record { ok = rw (c.in-Var.is, variables_of-Var c.in-Var.x) c.in_ok-push-in-Var.ensures.items }

pub push_variables-returns-in-Node : goal.push_variables-returns-in-Node
push_variables-returns-in-Node t c = record {
  ok = rw (c.in-Node.is, variables_of-Node c.in-Node.field-0 c.in-Node.arguments, ← c.as_slice.ensures) c.push_all_variables.ensures.ok;
}

pub push_variables-returns-in_default : goal.push_variables-returns-in_default
push_variables-returns-in_default t c = record {
  ok = rw (variables_of-other c.args.pattern.now c.in_default.not-Var c.in_default.not-Node) (sym (append-nil c.args.numbers.now.items));
}
