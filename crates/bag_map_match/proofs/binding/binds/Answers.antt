use Rattle.std.proofs.Common.{sym, ap, ◌∙◌, subst}
use Rattle.rule_terms.specs.Numbers.{all_different}
use Rattle.std.specs.Prelude.{List}
use Rattle.std.specs.List.{AllByRecursion}
use Rattle.k_terms.specs.Sorts.{SortOrder}
use Rattle.rule_terms.specs.declared.rule.Cond.{Cond}
use Rattle.rule_terms.specs.Eval.{IsMet}
use Rattle.rule_terms.specs.Spots.{spots}
use Rattle.right_sides.specs.Bound.{IsUnder, IsDecided}
use Rattle.right_sides.specs.Contents.{contents_of}
use Rattle.bag_map_match.specs.Binding.{IsLeftBound}
use Rattle.bag_map_match.proofs.Deciding.{left_missing, unmet, undefined, binding_is}
use Rattle.bag_map_match.proofs.binding.binds.Goals as goal

pub returns-in-None : goal.returns-in-None
returns-in-None c =
    left_missing c.args.defs.now c.args.live.now.now c.args.site.now c.in-Some.rule.now c.sound.ensures c.requires (sym c.in-Some.ensures)
    (subst (IsLeftBound c.args.defs.now c.args.live.now.now c.args.site.now c.in-Some.rule.now) c.in-None.is c.in_ok-bindings.ensures)

pub returns-then-not-branch : goal.returns-then-not-branch
returns-then-not-branch c =
    unmet c.args.defs.now c.args.live.now.now c.args.site.now c.in-Some.rule.now c.sound.ensures c.requires (sym c.in-Some.ensures) c.in-Some-2.bindings
    (subst (IsLeftBound c.args.defs.now c.args.live.now.now c.args.site.now c.in-Some.rule.now) c.in-Some-2.is c.in_ok-bindings.ensures)
    c.in_ok-all_met.field-0 c.if-not-branch.true
    (subst (λ (u : SortOrder). IsDecided c.in-Some-2.bindings (λ s. AllByRecursion (IsMet u s) c.in-Some.rule.now.when) c.in_ok-all_met.field-0) c.sorts.ensures
    (subst (λ (u : List Cond). IsDecided c.in-Some-2.bindings (λ s. AllByRecursion (IsMet c.sorts.result.now s) u) c.in_ok-all_met.field-0) c.as_slice-2.ensures c.in_ok-all_met.ensures))

pub returns : goal.returns
returns c =
    undefined c.args.defs.now c.args.live.now.now c.args.site.now c.in-Some.rule.now c.sound.ensures c.requires (sym c.in-Some.ensures) c.in-Some-2.bindings
    (subst (IsLeftBound c.args.defs.now c.args.live.now.now c.args.site.now c.in-Some.rule.now) c.in-Some-2.is c.in_ok-bindings.ensures)
    (subst (IsUnder c.in-Some-2.bindings (contents_of (spots c.in-Some.rule.now.right))) c.in-None-2.is c.in_ok-right_contents.ensures)

pub returns-in-Some-3 : goal.returns-in-Some-3
returns-in-Some-3 c =
    binding_is c.args.defs.now c.args.live.now.now c.args.site.now c.in-Some.rule.now c.sound.ensures c.requires (sym c.in-Some.ensures) c.in-Some-2.bindings
    (subst (IsLeftBound c.args.defs.now c.args.live.now.now c.args.site.now c.in-Some.rule.now) c.in-Some-2.is c.in_ok-bindings.ensures)
    c.in_ok-all_met.field-0 c.in-Some-3.field-0 c.if-not-branch.false
    (subst (λ (u : SortOrder). IsDecided c.in-Some-2.bindings (λ s. AllByRecursion (IsMet u s) c.in-Some.rule.now.when) c.in_ok-all_met.field-0) c.sorts.ensures
    (subst (λ (u : List Cond). IsDecided c.in-Some-2.bindings (λ s. AllByRecursion (IsMet c.sorts.result.now s) u) c.in_ok-all_met.field-0) c.as_slice-2.ensures c.in_ok-all_met.ensures))
    (subst (IsUnder c.in-Some-2.bindings (contents_of (spots c.in-Some.rule.now.right))) c.in-Some-3.is c.in_ok-right_contents.ensures)
    (ap all_different (sym c.as_slice.ensures) ∙ sym c.all_different.ensures ∙ c.if-not-all_different.false)
