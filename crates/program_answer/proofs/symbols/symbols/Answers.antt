use Rattle.std.proofs.Common.{◌≡◌, ◌≤◌, ◌+◌, [], ◌∷◌, ◌++◌, sym, ap, subst, ◌∙◌, Some, length, take}
use Rattle.std.specs.Prelude.{slice_get}
use Rattle.program_answer.proofs.Taking.{take_next, place_next, take_all}
use Rattle.program_answer.proofs.symbols.symbols.Goals as goal

pub loop-word-preserved : goal.loop-word-preserved
loop-word-preserved c =
    let names = c.args.names.now in
    let number = c.loop-word.number in
    let word = c.in-Some.word.now in
    let is : slice_get names number ≡ Some word = sym c.in-Some.ensures in
    let item : c.from_vec.result ≡ word = c.from_vec.ensures ∙ c.in_ok-from_slice.ensures.items ∙ c.as_bytes.ensures.value in
    let next : c.in-Some-checked_add.next ≡ number + 1 = c.in-Some-checked_add.ensures.1 in (
      c.in_ok-push.ensures.items ∙ (λ i. c.loop-word.invariant.0 i ++ item i ∷ []) ∙ sym (take_next names number word is) ∙ ap (λ k. take k names) (sym next),
      subst (λ k. k ≤ length names) (sym next) (place_next names number word is),
    )

pub returns : goal.returns
returns c = c.loop-word.invariant.0 ∙ take_all c.args.names.now c.loop-word.number [] (sym c.in_default.ensures) c.loop-word.invariant.1
