use Rattle.std.proofs.Common.{ap, ◌∙◌, sym}
use Rattle.live_config.specs.Live.{cells_past, number_of_cell}
use Rattle.live_config.proofs.Entries.{all_kept}
use Rattle.live_config.proofs.live.Live.past.Goals as goal

-- all cells
pub returns-in-None : goal.returns-in-None
returns-in-None c =
    c.deref-in-None.ensures.value ∙ ap (λ s. s.now.cells) c.self.view_is ∙ sym (all_kept _) ∙ ap (λ after. cells_past c.args.self.now.now (number_of_cell after)) (sym c.in-None.is)
