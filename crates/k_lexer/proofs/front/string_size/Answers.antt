use Rattle.std.proofs.Common.{sym, subst, ap, ◌∙◌, slice_index}
use Rattle.k_lexer.specs.Fronts.{IsPart, NoPart}
use Rattle.k_lexer.proofs.Strings.{part_more, string_ends, no_string}
use Rattle.k_lexer.proofs.front.string_size.Goals as goal

pub parts-preserved : goal.parts-preserved
parts-preserved c =
    part_more c.args.rest.now c.parts.at c.in-Some.size c.parts.invariant (subst (λ t. IsPart t c.in-Some.size) c.split_at.ensures.back c.in-Some.ensures.0)

pub returns-then-byte_at-eq34 : goal.returns-then-byte_at-eq34
returns-then-byte_at-eq34 c =
    string_ends c.args.rest.now c.parts.at c.parts.invariant (ap (λ t. slice_index t 0) (sym c.split_at.ensures.back) ∙ sym c.byte_at.ensures ∙ c.if-byte_at-eq34.true)

pub returns-in_default : goal.returns-in_default
returns-in_default c =
    no_string c.args.rest.now c.parts.at c.parts.invariant (subst NoPart c.split_at.ensures.back c.in_default.ensures)
    (λ quote. c.if-byte_at-eq34.false (c.byte_at.ensures ∙ ap (λ t. slice_index t 0) c.split_at.ensures.back ∙ quote))
