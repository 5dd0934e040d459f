use Rattle.std.proofs.Common.{◌≡◌, false, sym, subst, refl, ◌∙◌}
use Rattle.grammar_terms.specs.Cuts.{Has}
use Rattle.sorted_grammar.specs.Marks.{fires}
use Rattle.sorted_grammar.proofs.Members.{has_at, none_more}
use Rattle.sorted_grammar.proofs.nullable.next_by_production.Goals as goal

pub returns-then-fires : goal.returns-then-fires
returns-then-fires c = record {
  production = c.production-item.result;
  has = subst (Has c.args.prods.now) (sym c.production-item.is) (has_at c.args.prods.now c.loop-production.production-index c.production-item.result c.loop-production-test.true);
  fires = sym c.fires.ensures ∙ c.if-fires.true;
  is = refl;
}

pub loop-production-preserved : goal.loop-production-preserved
loop-production-preserved c =
    none_more (λ production. fires c.args.row.now production ≡ false) c.args.prods.now c.loop-production.production-index c.production-item.result c.loop-production-test.true c.production-item.is c.loop-production.invariant
    (sym c.fires.ensures ∙ c.if-fires.false)
