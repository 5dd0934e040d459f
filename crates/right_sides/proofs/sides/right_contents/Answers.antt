use Rattle.std.proofs.Common.{◌≡◌, [], ◌∷◌, ◌++◌, sym, ap, ◌∙◌}
use Rattle.std.specs.Prelude.{Some, None}
use Rattle.rule_terms.specs.Spots.{spots_in}
use Rattle.right_sides.proofs.Cells.{both_contents, no_other_content}
use Rattle.right_sides.proofs.sides.right_contents.Goals as goal

pub returns-in_default-2 : goal.returns-in_default-2
returns-in_default-2 c = λ s seen.
    no_other_content (record { cell = c.args.right.now.cell; mark = c.args.right.now.mark; above = None; body = c.args.right.now.body })
    (spots_in c.args.right.now.mark c.args.right.now.body) s c.in-Some.own (sym c.in-Some.is ∙ c.in_ok-own.ensures s seen)
    (sym c.in_default-2.is ∙ c.in_ok-inside.ensures c.args.right.now.mark s seen)

pub returns : goal.returns
returns c = λ s seen.
    ap Some (c.from_vec.ensures ∙ c.in_ok-append.ensures.items ∙ (λ k. pushed k ++ c.into_vec.ensures k))
    ∙ both_contents (record { cell = c.args.right.now.cell; mark = c.args.right.now.mark; above = None; body = c.args.right.now.body })
    (spots_in c.args.right.now.mark c.args.right.now.body) s c.in-Some.own c.in-Some-2.inside (sym c.in-Some.is ∙ c.in_ok-own.ensures s seen)
    (sym c.in-Some-2.is ∙ c.in_ok-inside.ensures c.args.right.now.mark s seen)
  where
    pushed : c.push.new.self.items ≡ c.in-Some.own ∷ []
    pushed = c.in_ok-push.ensures.items ∙ ap (λ xs. xs ++ c.in-Some.own ∷ []) c.new-contents.ensures.items
