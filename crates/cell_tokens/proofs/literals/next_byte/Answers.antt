use Rattle.std.proofs.Common.{arith, ◌∙◌, ap, sym, ◌∷◌}
use Rattle.production_reader.specs.Allowed.{unescaped}
use Rattle.production_reader.proofs.Texts.{says_nothing, says_end, says_byte, says_no_escape, says_escape}
use Rattle.cell_tokens.proofs.literals.next_byte.Goals as goal

pub returns-in_default : goal.returns-in_default
returns-in_default c = says_nothing c.args.rest.now c.in_default.ensures.cases

pub returns-then-byte-eq34 : goal.returns-then-byte-eq34
returns-then-byte-eq34 c = says_end c.in-Some.byte.now c.in-Some.tail.now c.args.rest.now c.in-Some.ensures.cases.0 c.if-byte-eq34.true

pub returns-then-byte-ne92 : goal.returns-then-byte-ne92
returns-then-byte-ne92 c = (
  says_byte c.in-Some.byte.now c.in-Some.tail.now c.args.rest.now c.in-Some.ensures.cases.0 c.if-byte-eq34.false c.if-byte-ne92.true,
  omega (arith, c.in-Some.ensures.cases.1),
)

pub returns-in_default-split_first : goal.returns-in_default-split_first
returns-in_default-split_first c =
    says_no_escape c.in-Some.byte.now c.in-Some.tail.now c.args.rest.now c.in-Some.ensures.cases.0 c.if-byte-ne92.false c.in_default-split_first.ensures.cases

pub returns : goal.returns
returns c = (
  says_escape c.in-Some.byte.now c.in-Some-split_first.letter.now c.in-Some.tail.now c.in-Some-split_first.after.now c.args.rest.now c.in-Some.ensures.cases.0 c.if-byte-ne92.false
      c.in-Some-split_first.ensures.cases.0
      ∙ ap (λ b. b ∷ unescaped c.in-Some-split_first.after.now) (sym c.meaning_of.ensures),
  omega (arith, c.in-Some.ensures.cases.1, c.in-Some-split_first.ensures.cases.1),
)
