use Rattle.std.proofs.Common.{◌≡◌, ◌↔◌, IsTrue, [], sym, ap, subst}
use Rattle.std.specs.Prelude.{Some, None}
use Rattle.std.specs.Option.{option_map}
use Rattle.k_terms.specs.declared.value.Value.{Map as Mapping}
use Rattle.rule_terms.specs.Eval.{eval_entries}
use Rattle.leaf_match.specs.Bindings.{kept, Tells}
use Rattle.leaf_match.specs.Maps.{PickedAt, ArePlaces, HavePlaces, IsMapAt}
use Rattle.leaf_match.proofs.ToldMaps.{told_count, told_no_places, have_places, told_no_entries, told_map, told_whole}
use Rattle.leaf_match.proofs.Rising.{places_differ, kept_alike}
use Rattle.leaf_match.proofs.maps.match_map.Goals as goal

pub returns-then-keys-patterns-clause-tells : goal.returns-then-keys-patterns-clause-tells
returns-then-keys-patterns-clause-tells c = told_count c.args.variables.now.sorts.now c.args.variables.now.vars.now c.args.patterns.now c.args.entries.now c.args.keys.now c.requires.rising c.args.rest c.args.bindings.now c.if-keys-patterns.true

pub returns-in-None-clause-tells : goal.returns-in-None-clause-tells
returns-in-None-clause-tells c = told_no_places c.args.variables.now.sorts.now c.args.variables.now.vars.now c.args.patterns.now c.args.entries.now c.args.keys.now c.requires.rising c.args.rest c.args.bindings.now
    (subst (λ es. ArePlaces es c.args.keys.now None) c.as_slice.ensures (subst (λ r. ArePlaces c.as_slice.result.now c.args.keys.now (option_map (λ ps. ps.items) r)) c.in-None.is c.in_ok-places.ensures))

pub match_entries-requires-clause-places : goal.match_entries-requires-clause-places
match_entries-requires-clause-places c =
    let places : ArePlaces c.args.entries.now c.args.keys.now (Some c.in-Some.places.items) = (subst (λ es. ArePlaces es c.args.keys.now (Some c.in-Some.places.items)) c.as_slice.ensures (subst (λ r. ArePlaces c.as_slice.result.now c.args.keys.now (option_map (λ ps. ps.items) r)) c.in-Some.is c.in_ok-places.ensures)) in
    subst (λ es. HavePlaces es c.args.patterns.now c.deref.result.now) (sym c.as_slice-2.ensures)
    (subst (λ ps. HavePlaces c.args.entries.now c.args.patterns.now ps) (sym c.deref.ensures.value) (have_places c.args.variables.now.sorts.now c.args.variables.now.vars.now c.args.patterns.now c.args.entries.now c.args.keys.now c.requires.rising c.in-Some.places.items places c.if-keys-patterns.false))

pub returns-then-not-branch-clause-tells : goal.returns-then-not-branch-clause-tells
returns-then-not-branch-clause-tells c =
    let places : ArePlaces c.args.entries.now c.args.keys.now (Some c.in-Some.places.items) = (subst (λ es. ArePlaces es c.args.keys.now (Some c.in-Some.places.items)) c.as_slice.ensures (subst (λ r. ArePlaces c.as_slice.result.now c.args.keys.now (option_map (λ ps. ps.items) r)) c.in-Some.is c.in_ok-places.ensures)) in
    told_no_entries c.args.variables.now.sorts.now c.args.variables.now.vars.now c.args.patterns.now c.args.entries.now c.args.keys.now c.requires.rising c.in-Some.places.items places c.args.rest c.args.bindings.now c.match_entries.new.bindings c.match_entries.new.bindings
    (subst (λ b. Tells c.args.variables.now.sorts.now c.args.variables.now.vars.now b c.args.bindings.now c.match_entries.new.bindings (λ s. eval_entries c.args.patterns.now s ≡ Some places.0)) c.if-not-branch.true
    (c.in_ok-match_entries.ensures.tells places.0 (subst (λ es. PickedAt es c.deref.result.now places.0) (sym c.as_slice-2.ensures) (subst (λ ps. PickedAt c.args.entries.now ps places.0) (sym c.deref.ensures.value) places.1))))

pub returns-in_ok-found-in-Some-rest-clause-tells : goal.returns-in_ok-found-in-Some-rest-clause-tells
returns-in_ok-found-in-Some-rest-clause-tells c =
    let places : ArePlaces c.args.entries.now c.args.keys.now (Some c.in-Some.places.items) = (subst (λ es. ArePlaces es c.args.keys.now (Some c.in-Some.places.items)) c.as_slice.ensures (subst (λ r. ArePlaces c.as_slice.result.now c.args.keys.now (option_map (λ ps. ps.items) r)) c.in-Some.is c.in_ok-places.ensures)) in
    subst (λ rest. Tells c.args.variables.now.sorts.now c.args.variables.now.vars.now c.in_ok-found-in-Some-rest.found c.args.bindings.now c.bind.new.self (IsMapAt c.args.patterns.now rest c.args.entries.now c.args.keys.now)) (sym c.in-Some-rest.is)
    (told_map c.args.variables.now.sorts.now c.args.variables.now.vars.now c.args.patterns.now c.args.entries.now c.args.keys.now c.requires.rising c.in-Some.places.items places c.in_ok-found-in-Some-rest.found c.args.bindings.now c.match_entries.new.bindings c.bind.new.self c.in-Some-rest.number _ (ap Mapping (kept_alike 0 c.in_order.result c.in-Some.places.items c.args.entries.now c.in_order.ensures.same))
    (subst (λ b. Tells c.args.variables.now.sorts.now c.args.variables.now.vars.now b c.args.bindings.now c.match_entries.new.bindings (λ s. eval_entries c.args.patterns.now s ≡ Some places.0)) c.if-not-branch.false
    (c.in_ok-match_entries.ensures.tells places.0 (subst (λ es. PickedAt es c.deref.result.now places.0) (sym c.as_slice-2.ensures) (subst (λ ps. PickedAt c.args.entries.now ps places.0) (sym c.deref.ensures.value) places.1)))) c.in_ok-found-in-Some-rest.ensures.tells)

pub returns-in-None-rest-clause-tells : goal.returns-in-None-rest-clause-tells
returns-in-None-rest-clause-tells c =
    let places : ArePlaces c.args.entries.now c.args.keys.now (Some c.in-Some.places.items) = (subst (λ es. ArePlaces es c.args.keys.now (Some c.in-Some.places.items)) c.as_slice.ensures (subst (λ r. ArePlaces c.as_slice.result.now c.args.keys.now (option_map (λ ps. ps.items) r)) c.in-Some.is c.in_ok-places.ensures)) in
    subst (λ rest. Tells c.args.variables.now.sorts.now c.args.variables.now.vars.now c.is_covered-found.result c.args.bindings.now c.match_entries.new.bindings (IsMapAt c.args.patterns.now rest c.args.entries.now c.args.keys.now)) (sym c.in-None-rest.is)
    (told_whole c.args.variables.now.sorts.now c.args.variables.now.vars.now c.args.patterns.now c.args.entries.now c.args.keys.now c.requires.rising c.in-Some.places.items places c.is_covered-found.result c.args.bindings.now c.match_entries.new.bindings
    (subst (λ ps. IsTrue c.is_covered-found.result ↔ (kept 0 ps c.args.entries.now ≡ [])) c.deref-in-None-rest.ensures.value
    (subst (λ es. IsTrue c.is_covered-found.result ↔ (kept 0 c.deref-in-None-rest.result.now es ≡ [])) c.as_slice-in-None-rest.ensures c.is_covered-found.ensures))
    (subst (λ b. Tells c.args.variables.now.sorts.now c.args.variables.now.vars.now b c.args.bindings.now c.match_entries.new.bindings (λ s. eval_entries c.args.patterns.now s ≡ Some places.0)) c.if-not-branch.false
    (c.in_ok-match_entries.ensures.tells places.0 (subst (λ es. PickedAt es c.deref.result.now places.0) (sym c.as_slice-2.ensures) (subst (λ ps. PickedAt c.args.entries.now ps places.0) (sym c.deref.ensures.value) places.1)))))

pub in_order-requires : goal.in_order-requires
in_order-requires c = places_differ c.args.entries.now c.args.keys.now c.in-Some.places.items (subst (λ es. ArePlaces es c.args.keys.now (Some c.in-Some.places.items)) c.as_slice.ensures (subst (λ r. ArePlaces c.as_slice.result.now c.args.keys.now (option_map (λ ps. ps.items) r)) c.in-Some.is c.in_ok-places.ensures))
