use Rattle.std.proofs.Common.{sym, ap, ◌∙◌}
use Rattle.rule_contents.specs.Operators.{is_before}
use Rattle.rule_contents.proofs.Halves.{before-Leaf, before-Node, before-Items}
use Rattle.rule_contents.proofs.sides.is_before.Goals as goal

pub returns-in-Leaf : goal.returns-in-Leaf
returns-in-Leaf c = sym (ap (is_before c.args.at) c.in-Leaf.is ∙ before-Leaf c.args.at c.in-Leaf.token)

pub returns-in-Node : goal.returns-in-Node
returns-in-Node c = sym (ap (is_before c.args.at) c.in-Node.is ∙ before-Node c.args.at c.in-Node.field-0 c.in-Node.field-1)

pub returns-in-Items : goal.returns-in-Items
returns-in-Items c = sym (ap (is_before c.args.at) c.in-Items.is ∙ before-Items c.args.at c.in-Items.field-0 c.in-Items.field-1 c.in-Items.field-2)
