use Rattle.std.proofs.Common.{arith, ⊎_elim, ◌≡◌, ◌<◌, ◌≤◌, ◌++◌, ◌∷◌, [], sym, subst}
use Rattle.std.proofs.lemmas.Bool.{cases_lt}
use Rattle.import_order.specs.Imports.{Has}
use Rattle.import_order.proofs.Members.{has_left, has_last, has_push, has_same}
use Rattle.import_order.proofs.cycle.all_modules.Goals as goal

pub loop-number-preserved : goal.loop-number-preserved
loop-number-preserved c = λ m.
    let n = c.loop-number.number in
    let all = c.loop-number.all.items in
    let before = c.loop-number.invariant m in
    let more = c.in_ok-push.ensures.items in (
      λ h.
          ⊎_elim
          (λ (l : Has all m). let below = before.0 l in omega (arith, below))
          (λ (e : n ≡ m). omega (arith, e))
          (has_push all n m (subst (λ xs. Has xs m) more h)),
      λ l.
          subst (λ xs. Has xs m) (sym more)
          (⊎_elim
          (λ (below : m < n). has_left all (n ∷ []) m (before.1 below))
          (λ (above : n ≤ m). let same : n ≡ m = omega (arith, l, above) in has_same (all ++ n ∷ []) n m same (has_last all n))
          (cases_lt m n)),
    )
