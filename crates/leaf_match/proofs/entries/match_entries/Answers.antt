use Rattle.std.proofs.Common.{rules, ◌≡◌, true, false, get_or, subst}
use Rattle.std.specs.Prelude.{Some}
use Rattle.rule_terms.specs.Eval.{eval}
use Rattle.rule_terms.specs.Patterns.{mentions}
use Rattle.leaf_match.specs.Maps.{mentions_entry}
use Rattle.leaf_match.specs.Bindings.{Tells, Reaches}
use Rattle.leaf_match.proofs.EntryRows.{picked_at, place_is, in_places, in_picked, in_entries, same_count}
use Rattle.leaf_match.proofs.ToldEntries.{told_all, told_entry, told_no_key, told_no_value}
use Rattle.leaf_match.proofs.Reaching.{reach_next, reach_both}
use Rattle.leaf_match.proofs.entries.match_entries.Goals as goal

pub bounds-places-i : goal.bounds-places-i
bounds-places-i c = in_places c.args.entries.now c.args.patterns.now c.args.places.now c.loop-i.i c.requires.places c.loop-i-test.true

pub bounds-entries-places : goal.bounds-entries-places
bounds-entries-places c = in_entries c.args.entries.now c.args.patterns.now c.args.places.now c.loop-i.i 0 c.requires.places c.loop-i-test.true

pub offset_bounds-entries-places : goal.offset_bounds-entries-places
offset_bounds-entries-places c =
    let within = in_entries c.args.entries.now c.args.patterns.now c.args.places.now c.loop-i.i 0 c.requires.places c.loop-i-test.true in search (rules, within)

pub returns-then-not-branch-clause-tells : goal.returns-then-not-branch-clause-tells
returns-then-not-branch-clause-tells c = λ es picked.
    let here = picked_at c.args.entries.now c.args.places.now es c.loop-i.i 0 picked (in_places c.args.entries.now c.args.patterns.now c.args.places.now c.loop-i.i c.requires.places c.loop-i-test.true) in
    let entry : c.index-entries-places.result ≡ here.0 = place_is c.args.entries.now (get_or c.args.places.now c.loop-i.i 0) here.0 c.index-entries-places.result here.2 c.index-entries-places.is in
    let in_es = in_picked c.args.entries.now c.args.patterns.now c.args.places.now es c.loop-i.i c.requires.places picked c.loop-i-test.true in
    told_no_key c.args.variables.now.sorts.now c.args.variables.now.vars.now c.args.patterns.now es c.args.bindings.now c.loop-i.bindings c.match_value.new.bindings c.match_value.new.bindings c.loop-i.i c.index-patterns-i.result here.0 c.loop-i-test.true in_es c.index-patterns-i.is here.1 (c.loop-i.invariant.tells es picked) (subst (λ v. Tells c.args.variables.now.sorts.now c.args.variables.now.vars.now false c.loop-i.bindings c.match_value.new.bindings (λ s. eval c.index-patterns-i.result.0 s ≡ Some v.0)) entry (subst (λ b. Tells c.args.variables.now.sorts.now c.args.variables.now.vars.now b c.loop-i.bindings c.match_value.new.bindings (λ s. eval c.index-patterns-i.result.0 s ≡ Some c.index-entries-places.result.0)) c.if-not-branch.true c.in_ok-match_value.ensures.tells)) c.match_value.new.bindings

pub returns-then-not-branch-2-clause-tells : goal.returns-then-not-branch-2-clause-tells
returns-then-not-branch-2-clause-tells c = λ es picked.
    let here = picked_at c.args.entries.now c.args.places.now es c.loop-i.i 0 picked (in_places c.args.entries.now c.args.patterns.now c.args.places.now c.loop-i.i c.requires.places c.loop-i-test.true) in
    let entry : c.index-entries-places.result ≡ here.0 = place_is c.args.entries.now (get_or c.args.places.now c.loop-i.i 0) here.0 c.index-entries-places.result here.2 c.index-entries-places.is in
    let in_es = in_picked c.args.entries.now c.args.patterns.now c.args.places.now es c.loop-i.i c.requires.places picked c.loop-i-test.true in
    told_no_value c.args.variables.now.sorts.now c.args.variables.now.vars.now c.args.patterns.now es c.args.bindings.now c.loop-i.bindings c.match_value.new.bindings c.match_value-in-loop-i.new.bindings c.loop-i.i c.index-patterns-i.result here.0 c.loop-i-test.true in_es c.index-patterns-i.is here.1 (c.loop-i.invariant.tells es picked) (subst (λ v. Tells c.args.variables.now.sorts.now c.args.variables.now.vars.now true c.loop-i.bindings c.match_value.new.bindings (λ s. eval c.index-patterns-i.result.0 s ≡ Some v.0)) entry (subst (λ b. Tells c.args.variables.now.sorts.now c.args.variables.now.vars.now b c.loop-i.bindings c.match_value.new.bindings (λ s. eval c.index-patterns-i.result.0 s ≡ Some c.index-entries-places.result.0)) c.if-not-branch.false c.in_ok-match_value.ensures.tells)) (subst (λ v. Tells c.args.variables.now.sorts.now c.args.variables.now.vars.now false c.match_value.new.bindings c.match_value-in-loop-i.new.bindings (λ s. eval c.index-patterns-i.result.1 s ≡ Some v.1)) entry (subst (λ b. Tells c.args.variables.now.sorts.now c.args.variables.now.vars.now b c.match_value.new.bindings c.match_value-in-loop-i.new.bindings (λ s. eval c.index-patterns-i.result.1 s ≡ Some c.index-entries-places.result.1)) c.if-not-branch-2.true c.in_ok-match_value-2.ensures.tells)) c.match_value-in-loop-i.new.bindings

pub loop-i-preserved : goal.loop-i-preserved
loop-i-preserved c = record {
  suited = c.in_ok-match_value-2.ensures.suited;
  tells = λ es picked.
      let here = picked_at c.args.entries.now c.args.places.now es c.loop-i.i 0 picked (in_places c.args.entries.now c.args.patterns.now c.args.places.now c.loop-i.i c.requires.places c.loop-i-test.true) in
      let entry : c.index-entries-places.result ≡ here.0 = place_is c.args.entries.now (get_or c.args.places.now c.loop-i.i 0) here.0 c.index-entries-places.result here.2 c.index-entries-places.is in
      let in_es = in_picked c.args.entries.now c.args.patterns.now c.args.places.now es c.loop-i.i c.requires.places picked c.loop-i-test.true in
      told_entry c.args.variables.now.sorts.now c.args.variables.now.vars.now c.args.patterns.now es c.args.bindings.now c.loop-i.bindings c.match_value.new.bindings c.match_value-in-loop-i.new.bindings c.loop-i.i c.index-patterns-i.result here.0 c.loop-i-test.true in_es c.index-patterns-i.is here.1 (c.loop-i.invariant.tells es picked) (subst (λ v. Tells c.args.variables.now.sorts.now c.args.variables.now.vars.now true c.loop-i.bindings c.match_value.new.bindings (λ s. eval c.index-patterns-i.result.0 s ≡ Some v.0)) entry (subst (λ b. Tells c.args.variables.now.sorts.now c.args.variables.now.vars.now b c.loop-i.bindings c.match_value.new.bindings (λ s. eval c.index-patterns-i.result.0 s ≡ Some c.index-entries-places.result.0)) c.if-not-branch.false c.in_ok-match_value.ensures.tells)) (subst (λ v. Tells c.args.variables.now.sorts.now c.args.variables.now.vars.now true c.match_value.new.bindings c.match_value-in-loop-i.new.bindings (λ s. eval c.index-patterns-i.result.1 s ≡ Some v.1)) entry (subst (λ b. Tells c.args.variables.now.sorts.now c.args.variables.now.vars.now b c.match_value.new.bindings c.match_value-in-loop-i.new.bindings (λ s. eval c.index-patterns-i.result.1 s ≡ Some c.index-entries-places.result.1)) c.if-not-branch-2.false c.in_ok-match_value-2.ensures.tells));
  reaches =
      let key = subst (λ b. Reaches b c.loop-i.bindings c.match_value.new.bindings (λ x. mentions x c.index-patterns-i.result.0)) c.if-not-branch.false c.in_ok-match_value.ensures.reaches in
      let value = subst (λ b. Reaches b c.match_value.new.bindings c.match_value-in-loop-i.new.bindings (λ x. mentions x c.index-patterns-i.result.1)) c.if-not-branch-2.false c.in_ok-match_value-2.ensures.reaches in
      reach_next mentions_entry c.args.bindings.now c.loop-i.bindings c.match_value-in-loop-i.new.bindings c.args.patterns.now c.loop-i.i c.index-patterns-i.result
      c.loop-i-test.true c.index-patterns-i.is c.loop-i.invariant.reaches
      (reach_both true c.loop-i.bindings c.match_value.new.bindings c.match_value-in-loop-i.new.bindings
      (λ x. mentions x c.index-patterns-i.result.0) (λ x. mentions x c.index-patterns-i.result.1) key value);
}

pub returns-clause-tells : goal.returns-clause-tells
returns-clause-tells c = λ es picked.
    told_all c.args.variables.now.sorts.now c.args.variables.now.vars.now c.args.patterns.now es c.loop-i.i c.args.bindings.now c.loop-i.bindings (search rules) (same_count c.args.entries.now c.args.patterns.now c.args.places.now es c.requires.places picked) (c.loop-i.invariant.tells es picked)
