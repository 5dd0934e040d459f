-- What is known of expressions where some variables of a rule are bound.
use Rattle.std.specs.Prelude.{◌≡◌, ◌↔◌, ℕ, Bool, IsTrue, slice_get}
use Rattle.std.specs.Option.{option_and_then}
use Rattle.rule_terms.specs.Substitution.{Subst, value_at}
use Rattle.leaf_match.specs.Bindings.{Partial}

-- What is bound is what a substitution gives: each variable that is bound has its value there, and each other has no value.
abbrev pub IsSeenBy : Partial → Subst → Type 0
IsSeenBy p s = (x : ℕ) → value_at s x ≡ option_and_then (λ known. known) (slice_get p x)

-- this is what an expression is under each substitution that gives what is bound
abbrev pub IsUnder : {A : Type 0} → Partial → (Subst → A) → A → Type 0
IsUnder p expression x = (s : Subst) → IsSeenBy p s → x ≡ expression s

-- a condition is true of each substitution that gives what is bound, or of none
abbrev pub IsDecided : Partial → (Subst → Type 0) → Bool → Type 0
IsDecided p Condition met = (s : Subst) → IsSeenBy p s → IsTrue met ↔ Condition s
