-- No u64 is the number after the greatest.
use Rattle.std.proofs.Common.{arith, ◌≡◌, ℕ, ◌+◌, ◌<◌, false, nat_eq, List, length, slice_index_or, sym}
use Rattle.std.specs.List.{list_any}
use Rattle.std.proofs.lemmas.List.Elements.{All-from_get_or}
use Rattle.std.proofs.lemmas.List.Folds.{list_any_none}
use Rattle.std.proofs.lemmas.Bool.{ne_eqb}
use Rattle.k_edge.proofs.fault_plan.is_listed.Goals as goal

-- no number of a list is one that is above them all
none_equal : (numbers : List ℕ) (next : ℕ) → ((k : ℕ) → slice_index_or numbers k 0 < next) → list_any (λ number. nat_eq number next) numbers ≡ false
none_equal numbers next below =
    let Differs : ℕ → Type 0 = λ number. nat_eq number next ≡ false in
    let differs : (k : ℕ) → k < length numbers → Differs (slice_index_or numbers k 0) =
    λ k inside. ne_eqb (slice_index_or numbers k 0) next (λ same. omega (arith, below k)) in
    list_any_none (λ number. nat_eq number next) numbers (All-from_get_or Differs numbers 0 differs)

pub returns-in-None : goal.returns-in-None
returns-in-None c =
    sym (none_equal c.args.fail.now (c.args.calls + 1) (λ k. omega (arith, c.type_inv.fail k)))
