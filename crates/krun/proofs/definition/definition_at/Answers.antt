use Rattle.std.proofs.Common.{◌≡◌, List, ℕ, IfOk, subst}
use Rattle.small_form.specs.declared.small.Small.{Small}
use Rattle.small_form.specs.Small.{IsSmallText, unplaced}
use Rattle.krun.specs.Refusals.{HasNoRefusal}
use Rattle.krun.proofs.Defining.{of_file}
use Rattle.krun.proofs.definition.definition_at.Goals as goal

pub returns-clause-accepted : goal.returns-clause-accepted
returns-clause-accepted g c =
    let accepted = λ (file : List ℕ). IfOk c.definition_of.result (λ _. HasNoRefusal file) in
    of_file _ c.in_ok-bytes.bytes.items accepted c.in_ok-bytes.ensures.whole (subst accepted c.as_slice.ensures.value c.definition_of.ensures.accepted)

pub returns-clause-only_one : goal.returns-clause-only_one
returns-clause-only_one g c =
    let only = λ (file : List ℕ). IfOk c.definition_of.result (λ small. (d : Small) → IsSmallText file d → unplaced small ≡ unplaced d) in
    of_file _ c.in_ok-bytes.bytes.items only c.in_ok-bytes.ensures.whole (subst only c.as_slice.ensures.value c.definition_of.ensures.only_one)
