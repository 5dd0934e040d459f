use Rattle.std.proofs.Common.{subst, arith, refl}
use Rattle.k_lexer.specs.Fronts.{IsTail, NoTail}
use Rattle.k_lexer.proofs.Tails.{is_longest}
use Rattle.k_lexer.proofs.Stopping.{stops_at_none, stops_at_other, stops_at_string}
use Rattle.k_lexer.proofs.lexing.next_token.Goals as goal

pub returns-in_default : goal.returns-in_default
returns-in_default c = (stops_at_none c.args.rest.now c.args.at c.requires.some c.requires.no_blank c.requires.no_comment c.in_default.ensures, refl)

pub returns-in_default-kind_of : goal.returns-in_default-kind_of
returns-in_default-kind_of c = (
  stops_at_other c.args.rest.now c.args.at c.in-Some.first c.in-Some.width c.requires.some c.requires.no_blank c.requires.no_comment c.in-Some.ensures
      c.in_default-kind_of.ensures,
  refl,
)

pub returns-in_default-tail_size : goal.returns-in_default-tail_size
returns-in_default-tail_size c =
    let none = c.in_default-tail_size.ensures in (
      stops_at_string c.args.rest.now c.args.at c.in-Some.first c.in-Some.width c.in-Some-kind_of.kind c.in-Some.ensures c.in-Some-kind_of.ensures
          (subst (λ t. NoTail c.in-Some-kind_of.kind t) c.split_at.ensures.back none.0) none.1,
      refl,
    )

pub returns : goal.returns
returns c =
    let longest = is_longest c.in-Some-kind_of.kind c.args.rest.now c.in-Some.first c.in-Some.width c.in-Some-tail_size.size c.in-Some.ensures c.in-Some-kind_of.ensures
    (subst (λ t. IsTail c.in-Some-kind_of.kind t c.in-Some-tail_size.size) c.split_at.ensures.back c.in-Some-tail_size.ensures) in
    let first = c.in-Some.ensures in
    ((c.requires.no_comment, longest), omega (arith, first.some), longest.within)
