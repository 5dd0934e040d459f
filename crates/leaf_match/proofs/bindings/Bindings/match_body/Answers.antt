use Rattle.std.proofs.Common.{◌≡◌, false, true, sym, ◌∙◌}
use Rattle.leaf_match.proofs.Rows.{empty_told}
use Rattle.leaf_match.proofs.Leaves.{not_map, told_map_body, told_leaf, told_no_leaf}
use Rattle.leaf_match.proofs.bindings.Bindings.match_body.Goals as goal

pub returns-in-Map-clause-tells : goal.returns-in-Map-clause-tells
returns-in-Map-clause-tells c =
    told_map_body c.args.variables.now.sorts.now c.args.variables.now.vars.now c.args.self.now c.match_map.new.bindings c.args.body.now c.args.content.now c.args.keys.now
    c.in_ok-found.found c.in-Map.patterns c.as_slice-patterns.result.now c.in-Map.rest c.in-Map-content.entries c.in-Map.is c.as_slice-patterns.ensures c.in-Map-content.is c.in_ok-found.ensures.tells

pub returns-clause-tells : goal.returns-clause-tells
returns-clause-tells c =
    let other = not_map c.args.body.now c.in_default.not-Map in
    told_leaf c.args.variables.now.sorts.now c.args.variables.now.vars.now c.args.self.now c.match_leaf.new.bindings c.args.body.now c.args.content.now c.args.keys.now
    c.in_ok-found-2.found other ((empty_told c.args.keys.now c.is_empty.result c.is_empty.ensures).0 c.if-not-is_empty.false) (c.in_ok-found-2.ensures.tells other)

pub returns-clause-reaches : goal.returns-clause-reaches
returns-clause-reaches c = c.in_ok-found-2.ensures.reaches (not_map c.args.body.now c.in_default.not-Map)

pub returns-then-not-is_empty-clause-tells : goal.returns-then-not-is_empty-clause-tells
returns-then-not-is_empty-clause-tells c =
    told_no_leaf c.args.variables.now.sorts.now c.args.variables.now.vars.now c.args.self.now c.args.self.now c.args.body.now c.args.content.now c.args.keys.now
    (not_map c.args.body.now c.in_default.not-Map)
    (λ none. let yes = (empty_told c.args.keys.now c.is_empty.result c.is_empty.ensures).1 none in let no : true ≡ false = sym yes ∙ c.if-not-is_empty.true in cc)
