use Rattle.std.proofs.Common.{ap, ◌∙◌, ◌≡◌, subst, [], ◌∷◌, ◌++◌}
use Rattle.std.specs.List.{AllByRecursion}
use Rattle.production_reader.specs.Allowed.{IsPart, may_bracket}
use Rattle.production_reader.specs.Heads.{Begin, ends_parts}
use Rattle.production_reader.specs.Items.{items_after, sorts_of_items}
use Rattle.production_reader.specs.Reading.{IsReadAs}
use Rattle.production_reader.specs.Written.{signs_of_parts}
use Rattle.production_reader.proofs.PartReading.{rest_no_parts, rest_no_attributes, rest_read}
use Rattle.production_reader.proofs.items.read_rest.Goals as goal

pub returns-in-Err-read_parts : goal.returns-in-Err-read_parts
returns-in-Err-read_parts c = rest_no_parts c.args.first c.args.source.now c.args.from c.requires c.in-Err-read_parts.stop c.in-Err-read_parts.ensures

pub returns-in-Err-read_attributes : goal.returns-in-Err-read_attributes
returns-in-Err-read_attributes c =
    let one : c.push.new.self ≡ c.args.first ∷ [] = c.in_default.ensures.ok ∙ ap (λ t. t ++ c.args.first ∷ []) c.new-one.ensures in
    rest_no_attributes c.args.first c.args.source.now c.args.from c.requires c.in-Ok.read.0 c.in-Ok.read.1
    (subst (λ t. IsReadAs (AllByRecursion IsPart) signs_of_parts (Begin ends_parts) (items_after t) c.args.source.now c.args.from c.in-Ok.read.0 c.in-Ok.read.1) one c.in-Ok.ensures)
    c.may_bracket-brackets.result (c.may_bracket-brackets.ensures ∙ ap (λ t. may_bracket (sorts_of_items t)) c.as_slice.ensures) c.in-Err-read_attributes.stop c.in-Err-read_attributes.ensures

pub returns : goal.returns
returns c =
    let one : c.push.new.self ≡ c.args.first ∷ [] = c.in_default.ensures.ok ∙ ap (λ t. t ++ c.args.first ∷ []) c.new-one.ensures in
    rest_read c.args.first c.args.source.now c.args.from c.requires c.in-Ok.read.0 c.in-Ok.read.1
    (subst (λ t. IsReadAs (AllByRecursion IsPart) signs_of_parts (Begin ends_parts) (items_after t) c.args.source.now c.args.from c.in-Ok.read.0 c.in-Ok.read.1) one c.in-Ok.ensures)
    c.may_bracket-brackets.result (c.may_bracket-brackets.ensures ∙ ap (λ t. may_bracket (sorts_of_items t)) c.as_slice.ensures) c.in-Ok-read_attributes.read.0
    c.in-Ok-read_attributes.read.1 c.in-Ok-read_attributes.ensures
