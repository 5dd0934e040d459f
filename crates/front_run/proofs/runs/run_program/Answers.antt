use Rattle.std.proofs.Common.{arith, subst, sym, ◌∙◌, ap, ◌∷◌, [], ◌++◌, ◌≡◌, ℕ, List, Result, Ok, Err, IfOk}
use Rattle.std.proofs.lemmas.Grind.{common_steps}
use Rattle.front_run.specs.Front.{one_cell, Rewrites, NoneRewrites, AreFrontRules}
use Rattle.front_run.specs.declared.runs.Run.{Run}
use Rattle.k_terms.specs.declared.memory.Memory.{Memory}
use Rattle.k_terms.specs.declared.value.Value.{Value}
use Rattle.rule_terms.specs.declared.plain.Plain.{Plain}
use Rattle.rule_terms.specs.Rewriting.{IsStuck}
use Rattle.live_config.specs.Configuration.{plain}
use Rattle.live_config.specs.declared.site.Fired.{Fired}
use Rattle.live_config.specs.Runs.{IsLog}
use Rattle.rule_terms.specs.declared.rule.Rule.{Rule}
use Rattle.rule_terms.specs.Substitution.{Subst}
use Rattle.rule_terms.specs.Language.{Language}
use Rattle.front_run.proofs.Logs.{FrontLeads, front_more, front_log, front_alone}
use Rattle.std.specs.List.{AllByRecursion}
use Rattle.front_run.proofs.Stepping.{stuck_of, not_stuck}
use Rattle.front_run.proofs.runs.run_program.Goals as goal

-- a log that leads to a sequence leads to the end of the run that ended with it
ended_log : (d : Language) (start : List Value) (result : Result Run Memory) (entries : List Fired) (values : List Value) (leads : (instances : List (Rule × Subst)) × FrontLeads d start entries instances values)
    → IfOk result (λ run. run.end.now ≡ one_cell values) → IfOk result (λ run. run.fired ≡ entries) → IfOk result (λ run. IsLog d (one_cell start) run.fired run.end.now)
ended_log d start (Err e) entries values leads end fired = tt
ended_log d start (Ok run) entries values leads end fired =
    subst (λ es. IsLog d (one_cell start) es run.end.now) (sym fired) (subst (IsLog d (one_cell start) entries) (sym end) (front_log d start values entries leads.0 leads.1))

-- worker 0 fired what the run that ended fired
ended_alone : (d : Language) (start : List Value) (result : Result Run Memory) (entries : List Fired) (values : List Value) (leads : (instances : List (Rule × Subst)) × FrontLeads d start entries instances values)
    → IfOk result (λ run. run.fired ≡ entries) → IfOk result (λ run. AllByRecursion (λ (entry : Fired). entry.by ≡ 0) run.fired)
ended_alone d start (Err e) entries values leads fired = tt
ended_alone d start (Ok run) entries values leads fired =
    subst (λ es. AllByRecursion (λ (entry : Fired). entry.by ≡ 0) es) (sym fired) (front_alone d start values entries leads.0 leads.1)

-- what is said of the plain configuration of a sequence is said of the run that ended with it
ended_so : (result : Result Run Memory) (values : List Value) (P : Run → Type 0) (Q : Plain → Type 0)
    → IfOk result (λ run. run.end.now ≡ one_cell values) → Q (plain (one_cell values)) → IfOk result (λ run. P run → Q (plain run.end.now))
ended_so (Err e) values P Q end holds = tt
ended_so (Ok run) values P Q end holds = λ _. subst (λ c. Q (plain c)) (sym end) holds

pub loop-init : goal.loop-init
loop-init c =
    let d = c.args.defs.now in
    let start = c.args.program ∷ [] in
    let values : start ≡ c.from_vec-values.result = grind (arith, common_steps) in
    record {
      leads = ([], subst (λ es. FrontLeads d start es [] c.from_vec-values.result) (sym c.new-fired.ensures.items) values);
      within = grind (arith, common_steps);
    }

pub loop-preserved : goal.loop-preserved
loop-preserved c =
    let d = c.args.defs.now in
    let start = c.args.program ∷ [] in
    let found = rw c.in-Some.is at c.in_ok-rule.ensures.rewrites in
    let rewrites = subst (λ vs. Rewrites d.sorts found.0 found.1 vs c.in-Some.next) c.as_slice.ensures found.3 in
    let entries = c.in_ok-push-2.ensures.items ∙ ap (λ e. c.loop.fired.items ++ e ∷ []) c.in_ok-entry.ensures in
    let instances = c.loop.invariant.leads.0 in
    record {
      leads = (
        instances ++ (found.0, found.1) ∷ [],
        subst (λ es. FrontLeads d start es (instances ++ (found.0, found.1) ∷ []) c.in-Some.next) (sym entries)
            (front_more d start c.loop.values c.in-Some.next c.loop.fired.items instances c.in-Some.rule found.0 found.1 c.loop.invariant.leads.1 found.2 rewrites),
      );
      within = grind (arith, common_steps);
    }

pub returns-in_default-clause-log : goal.returns-in_default-clause-log
returns-in_default-clause-log c =
    ended_log c.args.defs.now (c.args.program ∷ []) c.ended.result c.loop.fired.items c.loop.values c.loop.invariant.leads c.ended.ensures.end c.ended.ensures.fired

pub returns-in_default-2-clause-log : goal.returns-in_default-2-clause-log
returns-in_default-2-clause-log c =
    ended_log c.args.defs.now (c.args.program ∷ []) c.ended-in_default-2.result c.loop.fired.items c.loop.values c.loop.invariant.leads c.ended-in_default-2.ensures.end c.ended-in_default-2.ensures.fired

pub returns-clause-log : goal.returns-clause-log
returns-clause-log c =
    ended_log c.args.defs.now (c.args.program ∷ []) c.ended-2.result c.loop.fired.items c.loop.values c.loop.invariant.leads c.ended-2.ensures.end c.ended-2.ensures.fired

pub returns-in_default-clause-stuck : goal.returns-in_default-clause-stuck
returns-in_default-clause-stuck c =
    let d = c.args.defs.now in
    let none = rw c.in_default.is at c.in_ok-rule.ensures.none in
    ended_so c.ended.result c.loop.values _ (λ t. AreFrontRules d → IsStuck d t) c.ended.ensures.end
    (stuck_of d c.loop.values (subst (λ vs. (number : ℕ) → NoneRewrites d vs number) c.as_slice.ensures none))

pub returns-in_default-2-clause-stuck : goal.returns-in_default-2-clause-stuck
returns-in_default-2-clause-stuck c =
    let d = c.args.defs.now in
    let none = rw c.in_default-2.is at c.in_ok-first_rewrite.ensures.none in
    ended_so c.ended-in_default-2.result c.loop.values _ (λ t. AreFrontRules d → IsStuck d t) c.ended-in_default-2.ensures.end
    (stuck_of d c.loop.values (subst (λ vs. (number : ℕ) → NoneRewrites d vs number) c.as_slice-2.ensures none))

pub returns-clause-goes_on : goal.returns-clause-goes_on
returns-clause-goes_on c =
    let d = c.args.defs.now in
    let found = rw c.in-Some-2.is at c.in_ok-first_rewrite.ensures.rewrites in
    ended_so c.ended-2.result c.loop.values _ (λ t. IsStuck d t → ⊥) c.ended-2.ensures.end
    (not_stuck d found.0 found.1 c.in-Some-2.field-0.0 c.loop.values c.in-Some-2.field-0.1 found.2
    (subst (λ vs. Rewrites d.sorts found.0 found.1 vs c.in-Some-2.field-0.1) c.as_slice-2.ensures found.3))

pub returns-in_default-clause-alone : goal.returns-in_default-clause-alone
returns-in_default-clause-alone c = ended_alone c.args.defs.now (c.args.program ∷ []) c.ended.result c.loop.fired.items c.loop.values c.loop.invariant.leads c.ended.ensures.fired

pub returns-in_default-2-clause-alone : goal.returns-in_default-2-clause-alone
returns-in_default-2-clause-alone c = ended_alone c.args.defs.now (c.args.program ∷ []) c.ended-in_default-2.result c.loop.fired.items c.loop.values c.loop.invariant.leads c.ended-in_default-2.ensures.fired

pub returns-clause-alone : goal.returns-clause-alone
returns-clause-alone c = ended_alone c.args.defs.now (c.args.program ∷ []) c.ended-2.result c.loop.fired.items c.loop.values c.loop.invariant.leads c.ended-2.ensures.fired
