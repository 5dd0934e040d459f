use Rattle.std.proofs.Common.{ap, sym, refl, ◌∙◌, ◌||◌, ◌+◌, drop, arith}
use Rattle.std.specs.Prelude.{option_map}
use Rattle.cell_tokens.specs.Tags.{three_first, attributes, is_multiplicity}
use Rattle.cell_tokens.proofs.Tagging.{tag_starts, tag_ends, tag_closes, tag_short, no_attribute, next_attribute, three_within, three_stand, behind_others}
use Rattle.cell_tokens.proofs.tags.attributes.Goals as goal

pub loop-at-init : goal.loop-at-init
loop-at-init c = tag_starts c.args.text.now c.args.start c.args.tokens.now

pub returns-in_default-clause-found : goal.returns-in_default-clause-found
returns-in_default-clause-found c = tag_ends c.args.text.now c.args.start c.args.tokens.now c.loop-at.many c.loop-at.end c.loop-at.at c.loop-at.invariant c.in_default.ensures.lookup.3

pub returns-clause-found : goal.returns-clause-found
returns-clause-found c = tag_ends c.args.text.now c.args.start c.args.tokens.now c.loop-at.many c.loop-at.end c.loop-at.at c.loop-at.invariant (omega (arith, c.loop-at-test.false))

pub returns-then-is_mark_at-clause-found : goal.returns-then-is_mark_at-clause-found
returns-then-is_mark_at-clause-found c =
    tag_closes c.args.text.now c.args.start c.args.tokens.now c.loop-at.many c.loop-at.end c.loop-at.at c.in-Some.token.now c.loop-at.invariant c.in-Some.ensures.lookup.3.0 c.in-Some.ensures.lookup.1 (sym c.is_mark_at.ensures ∙ c.if-is_mark_at.true)

pub returns-in_default-three_first-clause-found : goal.returns-in_default-three_first-clause-found
returns-in_default-three_first-clause-found c =
    tag_short c.args.text.now c.args.start c.args.tokens.now c.loop-at.many c.loop-at.end c.loop-at.at c.in-Some.token.now _ c.loop-at.invariant c.in-Some.ensures.lookup.3.0 c.in-Some.ensures.lookup.1 (sym c.is_mark_at.ensures ∙ c.if-is_mark_at.false)
    (c.in_default-three_first.ensures ∙ ap three_first c.behind.ensures) refl

pub is_attribute-requires : goal.is_attribute-requires
is_attribute-requires c =
    let stand = three_stand c.args.text.now c.args.start c.args.tokens.now c.loop-at.many c.loop-at.end c.loop-at.at c.in-Some.token.now c.in-Some-three_first.name c.in-Some-three_first.equals c.in-Some-three_first.value _
    c.in-Some.ensures.lookup.3.0 c.in-Some.ensures.lookup.1 (sym c.is_mark_at.ensures ∙ c.if-is_mark_at.false) (c.in-Some-three_first.ensures ∙ ap three_first c.behind.ensures) refl c.requires in
    record { name = stand.0; value = stand.2 }

pub returns-then-not-is_attribute-clause-found : goal.returns-then-not-is_attribute-clause-found
returns-then-not-is_attribute-clause-found c =
    no_attribute c.args.text.now c.args.start c.args.tokens.now c.loop-at.many c.loop-at.end c.loop-at.at c.in-Some.token.now c.in-Some-three_first.name c.in-Some-three_first.equals c.in-Some-three_first.value _
    c.in-Some.ensures.lookup.3.0 c.in-Some.ensures.lookup.1 (sym c.is_mark_at.ensures ∙ c.if-is_mark_at.false) (c.in-Some-three_first.ensures ∙ ap three_first c.behind.ensures) refl c.loop-at.invariant (sym c.is_attribute.ensures ∙ c.if-not-is_attribute.true)

pub bytes_of-requires : goal.bytes_of-requires
bytes_of-requires c = (three_stand c.args.text.now c.args.start c.args.tokens.now c.loop-at.many c.loop-at.end c.loop-at.at c.in-Some.token.now c.in-Some-three_first.name c.in-Some-three_first.equals c.in-Some-three_first.value _
    c.in-Some.ensures.lookup.3.0 c.in-Some.ensures.lookup.1 (sym c.is_mark_at.ensures ∙ c.if-is_mark_at.false) (c.in-Some-three_first.ensures ∙ ap three_first c.behind.ensures) refl c.requires).0

pub overflow_add-at : goal.overflow_add-at
overflow_add-at c = let least = three_within c.args.text.now c.args.start c.args.tokens.now c.loop-at.many c.loop-at.end c.loop-at.at c.in-Some.token.now c.in-Some-three_first.name c.in-Some-three_first.equals c.in-Some-three_first.value _
    c.in-Some.ensures.lookup.3.0 c.in-Some.ensures.lookup.1 (sym c.is_mark_at.ensures ∙ c.if-is_mark_at.false) (c.in-Some-three_first.ensures ∙ ap three_first c.behind.ensures) refl in omega (arith, least)

pub loop-at-preserved : goal.loop-at-preserved
loop-at-preserved c =
    next_attribute c.args.text.now c.args.start c.args.tokens.now c.loop-at.many c.loop-at.end c.loop-at.at c.in-Some.token.now c.in-Some-three_first.name c.in-Some-three_first.equals c.in-Some-three_first.value _
    c.in-Some.ensures.lookup.3.0 c.in-Some.ensures.lookup.1 (sym c.is_mark_at.ensures ∙ c.if-is_mark_at.false) (c.in-Some-three_first.ensures ∙ ap three_first c.behind.ensures) refl c.loop-at.invariant (sym c.is_attribute.ensures ∙ c.if-not-is_attribute.false)
    ∙ ap (λ many. option_map (behind_others many (c.loop-at.at + 3)) (attributes c.args.text.now c.in-Some-three_first.value.end (drop (c.loop-at.at + 3) c.args.tokens.now))) (sym (c.is_many-many.ensures ∙ ap (λ name. c.loop-at.many || is_multiplicity name) c.bytes_of.ensures))
