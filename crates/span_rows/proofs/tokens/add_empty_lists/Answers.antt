use Rattle.std.proofs.Common.{◌≡◌, ◌+◌, ◌<◌, ◌≤◌, length, get_or, subst, ap, ◌∙◌, refl}
use Rattle.span_rows.specs.Rows.{Adds, IsOfSome}
use Rattle.span_rows.specs.Tokens.{IsEmptyListOf}
use Rattle.span_rows.proofs.Adding.{adds_none}
use Rattle.span_rows.proofs.Seeding.{some_none, some_next, some_all}
use Rattle.span_rows.proofs.tokens.add_empty_lists.Goals as goal

pub returns-then-not-is_any_empty_at : goal.returns-then-not-is_any_empty_at
returns-then-not-is_any_empty_at c =
    adds_none (IsOfSome c.args.grammar.now (IsEmptyListOf c.args.tokens.now c.args.at)) c.args.rows.now.items
    (λ x some. c.is_any_empty_at.ensures c.if-not-is_any_empty_at.true some.production.sort some.makes.word)

pub loop-production-init : goal.loop-production-init
loop-production-init c = record { number = refl; added = some_none c.args.grammar.now (IsEmptyListOf c.args.tokens.now c.args.at) c.args.rows.now.items }

pub loop-production-preserved : goal.loop-production-preserved
loop-production-preserved c =
    let number : c.in_ok-prod.prod ≡ c.loop-production.production-index + 1 = c.in_ok-prod.ensures ∙ ap (λ n. n + 1) c.loop-production.invariant.number in
    let made = IsEmptyListOf c.args.tokens.now c.args.at in
    record {
      number = number;
      added = some_next c.args.grammar.now made c.loop-production.production-index c.production-item.result c.args.rows.now.items c.loop-production.rows.items c.add_empty_list.new.rows.items
          (subst (λ prods. c.loop-production.production-index < length prods) c.prods-production-items.ensures c.loop-production-test.true)
          (c.production-item.is ∙ ap (λ prods. get_or prods c.loop-production.production-index c.production-item.result) c.prods-production-items.ensures)
          c.loop-production.invariant.added
          (subst (λ p. Adds (made p c.production-item.result) c.loop-production.rows.items c.add_empty_list.new.rows.items) number c.in_ok-add_empty_list.ensures);
    }

pub returns : goal.returns
returns c =
    some_all c.args.grammar.now (IsEmptyListOf c.args.tokens.now c.args.at) c.loop-production.production-index c.args.rows.now.items c.loop-production.rows.items
    (subst (λ prods. length prods ≤ c.loop-production.production-index) c.prods-production-items.ensures c.loop-production-test.false) c.loop-production.invariant.added
