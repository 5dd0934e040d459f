use Rattle.std.proofs.Common.{refl}
use Rattle.production_reader.specs.Written.Attribute.{NonAssoc}
use Rattle.production_reader.specs.declared.attributes.Key.TheVariants as key
use Rattle.production_reader.proofs.AttributeReading.{no_attribute, other_word, no_bracket, key_stands, plain_read_as, as_written}
use Rattle.production_reader.proofs.attributes.read_attribute.Goals as goal

pub returns-in_default : goal.returns-in_default
returns-in_default c = no_attribute c.args.brackets c.args.source.now c.args.from c.requires c.in_default.ensures

pub returns-in_default-key_of : goal.returns-in_default-key_of
returns-in_default-key_of c = other_word c.args.brackets c.args.source.now c.args.from c.in-Some.word.now c.requires c.in-Some.ensures.0 c.in_default-key_of.ensures

pub returns-then-not-brackets : goal.returns-then-not-brackets
returns-then-not-brackets c =
    no_bracket c.args.brackets c.args.source.now c.args.from c.requires
    (key_stands c.args.brackets c.args.source.now c.args.from c.in-Some-key_of.key key.Bracket c.in-Some.word.now c.in-Some-key_of.ensures c.in-Bracket.is c.in-Some.ensures.0) c.if-not-brackets.true

pub returns-in-Left : goal.returns-in-Left
returns-in-Left c =
    plain_read_as c.args.brackets c.args.source.now c.args.from c.in-Some-key_of.key key.Left c.in-Some.word.now c.in-Some-key_of.ensures c.in-Left.is c.requires c.in-Some.ensures.0 refl tt

pub returns-in-Right : goal.returns-in-Right
returns-in-Right c =
    plain_read_as c.args.brackets c.args.source.now c.args.from c.in-Some-key_of.key key.Right c.in-Some.word.now c.in-Some-key_of.ensures c.in-Right.is c.requires c.in-Some.ensures.0 refl tt

pub returns-in-SeqStrict : goal.returns-in-SeqStrict
returns-in-SeqStrict c =
    plain_read_as c.args.brackets c.args.source.now c.args.from c.in-Some-key_of.key key.SeqStrict c.in-Some.word.now c.in-Some-key_of.ensures c.in-SeqStrict.is c.requires c.in-Some.ensures.0 refl tt

pub returns-else-not-brackets : goal.returns-else-not-brackets
returns-else-not-brackets c =
    plain_read_as c.args.brackets c.args.source.now c.args.from c.in-Some-key_of.key key.Bracket c.in-Some.word.now c.in-Some-key_of.ensures c.in-Bracket.is c.requires c.in-Some.ensures.0 refl
    c.if-not-brackets.false

pub returns-in-Ok : goal.returns-in-Ok
returns-in-Ok c = as_written c.args.brackets c.args.source.now c.args.from NonAssoc c.in-Ok.next (c.in-Ok.ensures c.args.brackets)

pub read_assoc-requires-clause-there : goal.read_assoc-requires-clause-there
read_assoc-requires-clause-there c =
    key_stands c.args.brackets c.args.source.now c.args.from c.in-Some-key_of.key key.Non c.in-Some.word.now c.in-Some-key_of.ensures c.in-Non.is c.in-Some.ensures.0

pub read_strict-requires-clause-there : goal.read_strict-requires-clause-there
read_strict-requires-clause-there c =
    key_stands c.args.brackets c.args.source.now c.args.from c.in-Some-key_of.key key.Strict c.in-Some.word.now c.in-Some-key_of.ensures c.in-Strict.is c.in-Some.ensures.0
