use Rattle.std.proofs.Common.{sym, ◌∙◌}
use Rattle.std.proofs.lemmas.Bool.{false≢true}
use Rattle.sorted_grammar.specs.Marks.{IsBelowKItem}
use Rattle.sorted_grammar.proofs.Following.{with_one, with_none}
use Rattle.sorted_grammar.proofs.leading.add_if_below.Goals as goal

pub returns-then-not-is_below_kitem : goal.returns-then-not-is_below_kitem
returns-then-not-is_below_kitem c =
    with_none c.args.targets.now.items c.args.to (IsBelowKItem c.args.grammar.now c.args.to) (λ below. false≢true (sym c.if-not-is_below_kitem.true ∙ c.is_below_kitem.ensures.1 below))

pub returns : goal.returns
returns c =
    with_one c.args.targets.now.items c.push.new.self.items c.args.to (IsBelowKItem c.args.grammar.now c.args.to) (c.is_below_kitem.ensures.0 c.if-not-is_below_kitem.false) c.in_ok-push.ensures.items
