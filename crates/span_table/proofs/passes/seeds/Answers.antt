use Rattle.std.proofs.Common.{◌≡◌, ◌+◌, ◌<◌, ◌≤◌, length, get_or, [], subst, ap, ◌∙◌}
use Rattle.span_rows.specs.Rows.{Adds, IsSeedOf}
use Rattle.span_rows.proofs.Seeding.{some_next, some_all}
use Rattle.span_table.proofs.passes.seeds.Goals as goal

pub loop-production-preserved : goal.loop-production-preserved
loop-production-preserved c =
    let number : c.in_ok-prod.prod ≡ c.loop-production.production-index + 1 = c.in_ok-prod.ensures ∙ ap (λ n. n + 1) c.loop-production.invariant.number in
    record {
      number = number;
      added = some_next c.args.grammar.now IsSeedOf c.loop-production.production-index c.production-item.result [] c.loop-production.rows.items c.add_seed.new.rows.items
          (subst (λ prods. c.loop-production.production-index < length prods) c.prods-production-items.ensures c.loop-production-test.true)
          (c.production-item.is ∙ ap (λ prods. get_or prods c.loop-production.production-index c.production-item.result) c.prods-production-items.ensures)
          c.loop-production.invariant.added
          (subst (λ p. Adds (IsSeedOf p c.production-item.result) c.loop-production.rows.items c.add_seed.new.rows.items) number c.in_ok-add_seed.ensures);
    }

pub returns : goal.returns
returns c =
    some_all c.args.grammar.now IsSeedOf c.loop-production.production-index [] c.loop-production.rows.items
    (subst (λ prods. length prods ≤ c.loop-production.production-index) c.prods-production-items.ensures c.loop-production-test.false) c.loop-production.invariant.added
