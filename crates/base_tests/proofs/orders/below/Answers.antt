use Rattle.std.proofs.Common.{◌≡◌, ℕ, ◌<◌, List, ◌⊎◌, ⊎_elim, subst}
use Rattle.import_order.specs.Imports.{Has}
use Rattle.import_order.proofs.Members.{has_push}
use Rattle.base_tests.proofs.orders.below.Goals as goal

-- one number more that is below the limit
more_below : (old new : List ℕ) (limit number : ℕ) → ((x : ℕ) → Has old x → x < limit) → ((x : ℕ) → Has new x → Has old x ⊎ (number ≡ x)) → number < limit → (x : ℕ) → Has new x → x < limit
more_below old new limit number all either below x h = ⊎_elim (λ (l : Has old x). all x l) (λ (e : number ≡ x). subst (λ y. y < limit) e below) (either x h)

pub loop-number-init : goal.loop-number-init
loop-number-init c = λ x h. absurd (subst (λ l. Has l x) c.new-kept.ensures.items h)

pub loop-number-preserved : goal.loop-number-preserved
loop-number-preserved c = more_below _ _ _ _ c.loop-number.invariant (λ x h. has_push _ _ x (subst (λ l. Has l x) c.in_ok-push.ensures.items h)) c.if-number-limit.false
