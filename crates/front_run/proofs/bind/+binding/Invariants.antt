use Rattle.std.proofs.Common.{take, length, ℕ, ◌≤◌, ◌≡◌}
use Rattle.std.specs.Prelude.{Some}
use Rattle.std.specs.List.{AllByRecursion}
use Rattle.k_terms.specs.Value.{depth_of}
use Rattle.k_terms.specs.Operators.{depth_limit}
use Rattle.rule_terms.specs.Substitution.{Subst}
use Rattle.rule_terms.specs.Eval.{eval_all}
use Rattle.front_run.specs.Front.{after_all}
use Rattle.front_run.specs.Bindings.{AreAt, Extends, StartsBy}
use Rattle.front_run.proofs.Finding.{GoesOn}
use Rattle.front_run.proofs.bind.+binding.Given as goal

abbrev pub invariant-bind_all-loop-i : goal.invariant-bind_all-loop-i
invariant-bind_all-loop-i l =
    record {
      extends : Extends l.initial.bound.items l.bound.items;
      at : AllByRecursion (λ v. depth_of v ≤ depth_limit) l.values → AreAt l.bound.items (take l.i l.patterns) (take l.i l.values);
      finds : (s : Subst) (next : ℕ) → StartsBy l.initial.bound.items s → after_all (length l.initial.bound.items) l.patterns ≡ Some next → eval_all l.patterns s ≡ Some l.values
          → GoesOn l.bound.items l.patterns l.values l.i s next;
    }
