use Rattle.std.proofs.Common.{sym, ap, ◌∙◌}
use Rattle.std.specs.Option.{option_map}
use Rattle.k_terms.specs.declared.value.Content.TheVariants.{List as ListContent}
use Rattle.right_sides.proofs.Expressions.{joined_three}
use Rattle.right_sides.proofs.bodies.list_content.Goals as goal

pub returns-in-Some : goal.returns-in-Some
returns-in-Some c = λ s seen.
    ap (option_map ListContent) (sym c.in-Some.is ∙ c.in_ok-members.ensures
    ∙ joined_three c.in_ok-front.front c.in_ok-middle.middle c.in_ok-back.back c.in_ok-joined.field-0 _ _ _ c.in_ok-joined.ensures
    (c.in_ok-front.ensures s seen) (c.in_ok-middle.ensures s seen) (c.in_ok-back.ensures s seen))

pub returns-in-None : goal.returns-in-None
returns-in-None c = λ s seen.
    ap (option_map ListContent) (sym c.in-None.is ∙ c.in_ok-members.ensures
    ∙ joined_three c.in_ok-front.front c.in_ok-middle.middle c.in_ok-back.back c.in_ok-joined.field-0 _ _ _ c.in_ok-joined.ensures
    (c.in_ok-front.ensures s seen) (c.in_ok-middle.ensures s seen) (c.in_ok-back.ensures s seen))
