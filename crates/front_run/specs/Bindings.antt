-- The substitution that a list of bound values stands for.
use Rattle.std.specs.Prelude.{◌≡◌, ℕ, Bool, true, List, ◌++◌, length, Some, None, map}
use Rattle.std.specs.Borrow.{Bor}
use Rattle.k_terms.specs.declared.value.Value.{Value}
use Rattle.rule_terms.specs.declared.pattern.Pattern.{Pattern}
use Rattle.rule_terms.specs.Substitution.{Whole, Subst}
use Rattle.rule_terms.specs.Eval.{eval, eval_all}
use Rattle.front_run.specs.Front.{after_variables, after_all}

-- each variable stands for the value at its number
abbrev pub wholes : List (Bor Value) → Subst
wholes bound = map (λ (b : Bor Value). Whole b.now) bound

-- the pattern is this value, whatever the further variables stand for
abbrev pub IsAt : List (Bor Value) → Pattern → Value → Type 0
IsAt bound p v = (tail : Subst) → eval p (wholes bound ++ tail) ≡ Some v

abbrev pub AreAt : List (Bor Value) → List Pattern → List Value → Type 0
AreAt bound ps vs = (tail : Subst) → eval_all ps (wholes bound ++ tail) ≡ Some vs

-- the first list is the front of the second
abbrev pub Extends : List (Bor Value) → List (Bor Value) → Type 0
Extends before after = (more : List (Bor Value)) × (after ≡ before ++ more)

-- the pattern is undefined, whatever the further variables stand for
abbrev pub IsUndefined : List (Bor Value) → Pattern → Type 0
IsUndefined bound p = (tail : Subst) → eval p (wholes bound ++ tail) ≡ None

abbrev pub AreUndefined : List (Bor Value) → List Pattern → Type 0
AreUndefined bound ps = (tail : Subst) → eval_all ps (wholes bound ++ tail) ≡ None

-- the substitution begins by these values
abbrev pub StartsBy : List (Bor Value) → Subst → Type 0
StartsBy bound s = (tail : Subst) × (s ≡ wholes bound ++ tail)

-- the answer is yes, and the values bound are those of the substitution, up to this number
pub record IsFound (found : Bool) (bound : List (Bor Value)) (s : Subst) (next : ℕ) : Type 0 where
  pub yes : found ≡ true
  pub starts : StartsBy bound s
  pub count : length bound ≡ next

-- A substitution that goes on from the values bound and gives the pattern this value is found.
abbrev pub Finds : List (Bor Value) → List (Bor Value) → Pattern → Value → Bool → Type 0
Finds before after p v found =
    (s : Subst) (next : ℕ) → StartsBy before s → after_variables (length before) p ≡ Some next → eval p s ≡ Some v → IsFound found after s next

abbrev pub FindsAll : List (Bor Value) → List (Bor Value) → List Pattern → List Value → Bool → Type 0
FindsAll before after ps vs found =
    (s : Subst) (next : ℕ) → StartsBy before s → after_all (length before) ps ≡ Some next → eval_all ps s ≡ Some vs → IsFound found after s next
