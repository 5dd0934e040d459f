use Rattle.std.proofs.Common.{not, ◌&&◌, sym, ap, ◌∙◌}
use Rattle.std.specs.Prelude.{is_some, option_copied}
use Rattle.strictness.specs.SoundDrafts.{spots_of}
use Rattle.rule_terms.specs.Spots.{has_mark}
use Rattle.live_config.specs.Footprint.{body_of_mark}
use Rattle.rule_completion.proofs.Found.{none_is_new, is_found}
use Rattle.rule_completion.proofs.side.Side.is_new.Goals as goal

pub returns-then-not-self : goal.returns-then-not-self
returns-then-not-self c =
    none_is_new (spots_of c.args.self.now.draft.now.left) c.args.mark (option_copied c.body_at.result) (is_some c.body_at.result) c.is_none.result
    (c.body_at.ensures ∙ ap (λ cells. body_of_mark (spots_of cells) c.args.mark) c.as_slice.ensures) (is_found c.body_at.result) c.is_none.ensures
    ∙ ap (λ b. not b && not (has_mark (spots_of c.args.self.now.draft.now.left) c.args.mark)) (sym c.if-not-self.true)
