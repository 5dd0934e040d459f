use Rattle.std.proofs.Common.{false, subst}
use Rattle.leaf_match.specs.Bindings.{Tells}
use Rattle.bag_map_match.specs.Matching.{HoldsAt}
use Rattle.bag_map_match.specs.Lent.{listed, spot_of}
use Rattle.bag_map_match.proofs.Fitness.{fit_there}
use Rattle.bag_map_match.proofs.Telling.{told_cell, told_cons, told_no_cons, told_few_keys, told_moved}
use Rattle.bag_map_match.proofs.left.+match_cells.Goals as goal

pub returns-in_default-own_keys-clause-tells : goal.returns-in_default-own_keys-clause-tells
returns-in_default-own_keys-clause-tells t c =
    let o = c.args.variables.now.sorts.now in
    let vars = c.args.variables.now.vars.now in
    let config = c.args.left.now.live.now.now in
    let ps = listed c.args.left.now.spots.now in
    let ns = c.args.left.now.numbers.now in
    let before = c.args.bindings.now in
    told_moved o vars config ps ns false before before c.args.keys.now c.args.spots.now _ c.args.numbers.now _ c.in-Some.ensures.cases.0 c.in-Some-split_first.ensures.cases.0
    (told_few_keys o vars config ps ns before before (spot_of c.in-Some.spot.now) (listed c.in-Some.spots.now) c.in-Some-split_first.number.now c.in-Some-split_first.numbers.now c.args.keys.now c.in_default-own_keys.ensures)

pub match_body-requires-clause-fit : goal.match_body-requires-clause-fit
match_body-requires-clause-fit t c = fit_there c.requires.fits.0 c.args.left.now.live.now.now c.requires.fits.1 c.in-Some-split_first.number.now c.in-Some-cell_for.cell.now c.in-Some-cell_for.ensures.there

pub returns-then-not-branch-clause-tells : goal.returns-then-not-branch-clause-tells
returns-then-not-branch-clause-tells t c =
    let o = c.args.variables.now.sorts.now in
    let vars = c.args.variables.now.vars.now in
    let config = c.args.left.now.live.now.now in
    let ps = listed c.args.left.now.spots.now in
    let ns = c.args.left.now.numbers.now in
    let before = c.args.bindings.now in
    let between = c.match_body.new.self in
    let spot = spot_of c.in-Some.spot.now in
    let others = listed c.in-Some.spots.now in
    let number = c.in-Some-split_first.number.now in
    let own = c.in-Some-own_keys.own.now in
    let cell = c.in-Some-cell_for.cell.now in
    told_moved o vars config ps ns false before between c.args.keys.now c.args.spots.now _ c.args.numbers.now _ c.in-Some.ensures.cases.0 c.in-Some-split_first.ensures.cases.0
    (told_no_cons o vars config ps ns spot others number c.in-Some-split_first.numbers.now c.args.keys.now own c.in-Some-own_keys.others.now
    c.in-Some-own_keys.ensures.0 c.in-Some-own_keys.ensures.1 before between between
    (subst (λ b. Tells o vars b before between (HoldsAt config ps ns spot number own)) c.if-not-branch.true
    (told_cell o vars config ps ns c.in_ok-match_body.field-0 before between spot number own cell c.in-Some-cell_for.ensures c.in_ok-match_body.ensures.tells)))

pub returns-clause-tells : goal.returns-clause-tells
returns-clause-tells t c =
    let o = c.args.variables.now.sorts.now in
    let vars = c.args.variables.now.vars.now in
    let config = c.args.left.now.live.now.now in
    let ps = listed c.args.left.now.spots.now in
    let ns = c.args.left.now.numbers.now in
    let before = c.args.bindings.now in
    let between = c.match_body.new.self in
    let spot = spot_of c.in-Some.spot.now in
    let others = listed c.in-Some.spots.now in
    let number = c.in-Some-split_first.number.now in
    let own = c.in-Some-own_keys.own.now in
    let cell = c.in-Some-cell_for.cell.now in
    told_moved o vars config ps ns c.in_ok-found.found before _ c.args.keys.now c.args.spots.now _ c.args.numbers.now _ c.in-Some.ensures.cases.0 c.in-Some-split_first.ensures.cases.0
    (told_cons o vars config ps ns spot others number c.in-Some-split_first.numbers.now c.args.keys.now own c.in-Some-own_keys.others.now
    c.in-Some-own_keys.ensures.0 c.in-Some-own_keys.ensures.1 c.in_ok-found.found before between _
    (subst (λ b. Tells o vars b before between (HoldsAt config ps ns spot number own)) c.if-not-branch.false
    (told_cell o vars config ps ns c.in_ok-match_body.field-0 before between spot number own cell c.in-Some-cell_for.ensures c.in_ok-match_body.ensures.tells)) c.in_ok-found.ensures.tells)
