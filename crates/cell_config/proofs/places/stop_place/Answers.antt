use Rattle.cell_config.proofs.Placing.{behind_stands}
use Rattle.cell_config.proofs.places.stop_place.Goals as goal

pub begun_name-requires : goal.begun_name-requires
begun_name-requires c = behind_stands c.args.text.now c.args.base.now c.base_behind-rest.result.now c.first.result.now c.requires c.base_behind-rest.ensures
