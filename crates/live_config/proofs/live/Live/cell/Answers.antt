use Rattle.std.proofs.Common.{ap}
use Rattle.live_config.proofs.Places.{place_find, gap_find}
use Rattle.live_config.proofs.live.Live.cell.Goals as goal

-- the cell is at its place
pub returns-in-Ok : goal.returns-in-Ok
returns-in-Ok c =
    place_find _ _ (ap (λ s. s.now.cells) c.self.view_is) _ _ c.in-Ok.ensures.rising c.in-Ok.ensures.found c.index.result.now c.index.ensures

-- it is not there
pub returns-in-Err : goal.returns-in-Err
returns-in-Err c = gap_find _ _ (ap (λ s. s.now.cells) c.self.view_is) _ _ c.in-Err.ensures.rising c.in-Err.ensures.absent
