use Rattle.std.proofs.Common.{◌≡◌, sym, ◌∙◌, subst, ◌<◌, false, true}
use Rattle.std.specs.Prelude.{Some, None, slice_get, get_or}
use Rattle.k_terms.specs.Sorts.{Below}
use Rattle.leaf_match.specs.Bindings.{meaning, partial_of, IsCompared}
use Rattle.leaf_match.proofs.Binding.{told, free_within, in_vars, lent_now, lent_suited, lent_above}
use Rattle.leaf_match.proofs.Reaching.{reach_held, reach_now}
use Rattle.leaf_match.proofs.Rising.{set_rising}
use Rattle.leaf_match.proofs.variables.bind.Goals as goal

pub returns-in-Some-clause-tells : goal.returns-in-Some-clause-tells
returns-in-Some-clause-tells c =
    told c.args.variables.now.sorts.now c.args.variables.now.vars.now (partial_of c.args.bounds.now.items) c.requires c.args.number (meaning c.args.bound) c.in-Some.found
    (subst (λ bs. IsCompared (partial_of bs) c.args.number (meaning c.args.bound) (Some c.in-Some.found)) c.deref.ensures.value
    (subst (IsCompared (partial_of c.deref.result.now) c.args.number (meaning c.args.bound)) c.in-Some.is c.in_ok-found.ensures))

pub bounds-variables-place : goal.bounds-variables-place
bounds-variables-place c =
    in_vars c.args.bounds.now.items c.args.number c.args.variables.now.sorts.now c.args.variables.now.vars.now c.requires
    (subst (λ bs. slice_get (partial_of bs) c.args.number ≡ Some None) c.deref.ensures.value
    (subst (IsCompared (partial_of c.deref.result.now) c.args.number (meaning c.args.bound)) c.in-None.is c.in_ok-found.ensures))

pub index_mut-requires : goal.index_mut-requires
index_mut-requires c =
    subst (λ n. c.args.number < n) c.deref.ensures.len
    (free_within c.deref.result.now c.args.number (subst (IsCompared (partial_of c.deref.result.now) c.args.number (meaning c.args.bound)) c.in-None.is c.in_ok-found.ensures))

pub returns-then-not-below-clause-tells : goal.returns-then-not-below-clause-tells
returns-then-not-below-clause-tells c =
    lent_above c.args.bounds.now.items c.args.number c.args.variables.now.sorts.now c.args.variables.now.vars.now c.requires
    (subst (λ bs. slice_get (partial_of bs) c.args.number ≡ Some None) c.deref.ensures.value
    (subst (IsCompared (partial_of c.deref.result.now) c.args.number (meaning c.args.bound)) c.in-None.is c.in_ok-found.ensures)) c.args.bound 0
    (λ below. let yes = c.below.ensures.1 (subst (λ k. Below c.args.variables.now.sorts.now k (get_or c.args.variables.now.vars.now c.args.number 0)) (sym c.least_sort.ensures) below) in
    let no : true ≡ false = sym yes ∙ c.if-not-below.true in cc)

pub returns-clause-suited : goal.returns-clause-suited
returns-clause-suited c =
    lent_suited c.args.bounds.now.items c.args.number c.args.variables.now.sorts.now c.args.variables.now.vars.now c.requires
    (subst (λ bs. slice_get (partial_of bs) c.args.number ≡ Some None) c.deref.ensures.value
    (subst (IsCompared (partial_of c.deref.result.now) c.args.number (meaning c.args.bound)) c.in-None.is c.in_ok-found.ensures)) c.args.bound 0
    (subst (λ k. Below c.args.variables.now.sorts.now k (get_or c.args.variables.now.vars.now c.args.number 0)) c.least_sort.ensures (c.below.ensures.0 c.if-not-below.false))

pub returns-clause-tells : goal.returns-clause-tells
returns-clause-tells c =
    lent_now c.args.bounds.now.items c.args.number c.args.variables.now.sorts.now c.args.variables.now.vars.now c.requires
    (subst (λ bs. slice_get (partial_of bs) c.args.number ≡ Some None) c.deref.ensures.value
    (subst (IsCompared (partial_of c.deref.result.now) c.args.number (meaning c.args.bound)) c.in-None.is c.in_ok-found.ensures)) c.args.bound

pub returns-in-Some-clause-reaches : goal.returns-in-Some-clause-reaches
returns-in-Some-clause-reaches c =
    reach_held (partial_of c.args.bounds.now.items) c.args.number (meaning c.args.bound) c.in-Some.found
    (subst (λ bs. IsCompared (partial_of bs) c.args.number (meaning c.args.bound) (Some c.in-Some.found)) c.deref.ensures.value
    (subst (IsCompared (partial_of c.deref.result.now) c.args.number (meaning c.args.bound)) c.in-Some.is c.in_ok-found.ensures))

pub returns-clause-reaches : goal.returns-clause-reaches
returns-clause-reaches c =
    reach_now c.args.bounds.now.items c.args.number c.args.bound
    (subst (λ bs. slice_get (partial_of bs) c.args.number ≡ Some None) c.deref.ensures.value
    (subst (IsCompared (partial_of c.deref.result.now) c.args.number (meaning c.args.bound)) c.in-None.is c.in_ok-found.ensures))

pub returns-clause-rising : goal.returns-clause-rising
returns-clause-rising c = λ rises all. set_rising c.args.bounds.now.items c.args.number c.args.bound rises all
