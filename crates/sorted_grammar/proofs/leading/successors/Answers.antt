use Rattle.std.proofs.Common.{◌≡◌, length, ◌++◌, ◌∷◌, [], sym, ap, subst, subst₂, ◌∙◌}
use Rattle.std.specs.List.{flat_map}
use Rattle.sorted_grammar.specs.Marks.{targets_from, IsWithBelow, AreTargets}
use Rattle.sorted_grammar.proofs.Following.{at_kitem, at_k, at_other}
use Rattle.sorted_grammar.proofs.leading.successors.Goals.{In_ok-targets}
use Rattle.sorted_grammar.proofs.leading.successors.Goals as goal

the_targets : (c : In_ok-targets) → c.in_ok-targets.targets.items ≡ flat_map (targets_from c.args.row.now c.args.sort) c.args.grammar.now.prods
the_targets c = c.in_ok-targets.ensures ∙ ap (flat_map (targets_from c.args.row.now c.args.sort)) c.prods.ensures

pub returns-then-sort-eq-KITEM : goal.returns-then-sort-eq-KITEM
returns-then-sort-eq-KITEM c =
    let g = c.args.grammar.now in
    let below : IsWithBelow g (length g.names) (flat_map (targets_from c.args.row.now c.args.sort) g.prods) c.add_below_kitem.new.targets.items =
    subst₂ (λ n before. IsWithBelow g n before c.add_below_kitem.new.targets.items) c.requires.count (the_targets (goal.at.returns-then-sort-eq-KITEM c).In_ok-targets) c.in_ok-add_below_kitem.ensures in
    subst (AreTargets g c.args.sort) (sym c.from_vec.ensures) (at_kitem g c.args.row.now c.requires.row c.args.sort c.add_below_kitem.new.targets.items c.if-sort-eq-KITEM.true below)

pub returns-then-sort-eq-K : goal.returns-then-sort-eq-K
returns-then-sort-eq-K c =
    at_k c.args.grammar.now c.args.row.now c.requires.row c.args.sort c.from_vec-then-sort-eq-K.result c.if-sort-eq-K.true
    (c.from_vec-then-sort-eq-K.ensures ∙ c.in_ok-push.ensures.items ∙ ap (λ before. before ++ 1 ∷ []) (the_targets (goal.at.returns-then-sort-eq-K c).In_ok-targets))

pub returns : goal.returns
returns c =
    at_other c.args.grammar.now c.args.row.now c.requires.row c.args.sort c.from_vec-2.result c.if-sort-eq-KITEM.false c.if-sort-eq-K.false
    (c.from_vec-2.ensures ∙ the_targets (goal.at.returns c).In_ok-targets)
