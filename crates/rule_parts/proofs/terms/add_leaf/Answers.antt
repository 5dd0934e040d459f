use Rattle.std.proofs.Common.{◌++◌, sym, ap, ◌∙◌, append-nil}
use Rattle.rule_parts.proofs.Lists.{slice_past}
use Rattle.rule_parts.specs.Terms.{leaf_by}
use Rattle.rule_parts.proofs.terms.add_leaf.Goals as goal

pub returns-in-None : goal.returns-in-None
returns-in-None c =
    sym (append-nil c.args.found.now.items)
    ∙ ap (λ slot. c.args.found.now.items ++ leaf_by slot c.args.is_left c.args.sort c.args.whole) (sym (slice_past c.args.leaves.now c.args.at c.in-None.ensures.lookup.3))
