use Rattle.std.proofs.Common.{rules, arith, ◌≡◌, ◌∙◌, ◌∷◌, [], sym, ap, subst, below_more, ℕ, List, IsTrue}
use Rattle.std.specs.Prelude.{Some}
use Rattle.small_form.specs.Pieces.{Reads, is_solid}
use Rattle.small_form.specs.Small.{at_number}
use Rattle.small_form.proofs.Exact.{text_at, variable_solid, one_variable}
use Rattle.small_form.proofs.term.read_variable.Goals as goal

pub returns-then-eat-clause-exact : goal.returns-then-eat-clause-exact
returns-then-eat-clause-exact c = λ x pieces rest variables within read.
    let piece : c.as_slice.result.now ≡ at_number c.args.variables.now c.loop-i.i =
    c.as_slice.ensures ∙ sym (text_at c.args.variables.now c.loop-i.i c.index-variables-i.result (search rules) c.index-variables-i.is) in
    let one = subst (λ t. Reads (at_number c.args.variables.now c.loop-i.i ∷ []) t c.eat.new.self) c.loop-i.invariant.kept
    (subst (λ t. Reads (t ∷ []) c.loop-i.reader c.eat.new.self) piece c.if-eat.ensures.read) in
    let same : c.loop-i.i ≡ x = one_variable c.args.variables.now c.loop-i.i x pieces c.args.reader.now c.eat.new.self rest variables (search rules) within one read in
    let number : c.in-Ok.number ≡ c.loop-i.i = search rules in
    let solid = subst (λ t. IsTrue (is_solid t)) (sym piece) (variable_solid c.args.variables.now c.loop-i.i variables (search rules)) in
    let again = subst (λ t. Reads (t ∷ pieces) c.loop-i.reader rest) (sym piece)
    (subst (λ t. Reads (at_number c.args.variables.now c.loop-i.i ∷ pieces) t rest) (sym c.loop-i.invariant.kept)
    (subst (λ n. Reads (at_number c.args.variables.now n ∷ pieces) c.args.reader.now rest) (sym same) read)) in
    (ap Some (number ∙ same), (c.if-eat.ensures.exact pieces rest solid again).1)

pub loop-i-preserved : goal.loop-i-preserved
loop-i-preserved c = record {
  kept = search rules;
  others = below_more (λ k. (pieces : List (List ℕ)) (rest : List ℕ) → IsTrue (is_solid (at_number c.args.variables.now k)) → Reads (at_number c.args.variables.now k ∷ pieces) c.args.reader.now rest → ⊥) c.loop-i.i c.loop-i.invariant.others
      (λ pieces rest solid read.
      let piece : c.as_slice.result.now ≡ at_number c.args.variables.now c.loop-i.i =
      c.as_slice.ensures ∙ sym (text_at c.args.variables.now c.loop-i.i c.index-variables-i.result (search rules) c.index-variables-i.is) in
      let firm = subst (λ t. IsTrue (is_solid t)) (sym piece) solid in
      let again = subst (λ t. Reads (t ∷ pieces) c.loop-i.reader rest) (sym piece)
      (subst (λ t. Reads (at_number c.args.variables.now c.loop-i.i ∷ pieces) t rest) (sym c.loop-i.invariant.kept) read) in
      let none = (c.if-eat.ensures.exact pieces rest firm again).0 in
      cc);
}

pub returns-clause-exact : goal.returns-clause-exact
returns-clause-exact c = λ x pieces rest variables within read.
    absurd (c.loop-i.invariant.others x (omega arith) pieces rest (variable_solid c.args.variables.now x variables within) read)
