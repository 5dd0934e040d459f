use Rattle.std.proofs.Common.{rules, ◌∙◌, ap, length, ◌≡◌}
use Rattle.std.proofs.lemmas.Grind.{common_steps}
use Rattle.small_form.specs.Small.{variables_of}
use Rattle.small_form.proofs.Terms.{length-numbers_from}
use Rattle.small_form.proofs.names.stand_in_order.Goals as goal

pub returns-then-len-count : goal.returns-then-len-count
returns-then-len-count c = record {
  ok = (
    λ e. cc,
    λ e.
        let count : length (variables_of c.args.pattern.now) ≡ c.args.count = ap length e ∙ length-numbers_from 0 c.args.count in
        absurd (grind (rules, common_steps, c.in_ok-push_variables.ensures.ok, count)),
  );
}
